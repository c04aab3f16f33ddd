-- Sessions that are kept as their histories are the sessions that are kept as what they are.
use Rattle.std.proofs.Common.{refl, ap, sym}
use Rattle.std.specs.Prelude.{◌≡◌, List, [], ◌∷◌}
use Rattle.sc_forms.specs.Simulations.{IsSimulation}
use Rattle.sc_hosts.specs.Histories.{History, after_turn, session_after, session_of, as_session, begun_history, turned_history, as_history}
use Rattle.sc_hosts.specs.Sessions.{Turn}
use Rattle.sc_terms.specs.declared.settings.Config.{Config}

-- the turns before one more, whatever it is
earlier-turns : (turns : List Turn) (config : Config) (turn : Turn) (history : History) → session_after config (turned_history turn history) turns ≡ session_after config history turns
unfolding session_after turned_history
earlier-turns [] config turn history = refl
earlier-turns (latest ∷ earlier) config turn history = ap (after_turn config latest) (earlier-turns earlier config turn history)

-- a history read as the session that it is begins as one, is one, and takes turns as one
pub histories-simulate : (config : Config) → IsSimulation (session_of config) config (as_history config) as_session
unfolding as_history as_session session_of begun_history session_after turned_history
histories-simulate config = record {
  begins = λ app epoch began noted request. refl;
  reads = λ history. refl;
  turns = λ turn history. ap (after_turn config turn) (sym (earlier-turns history.turns config turn history));
}
