-- What holds of every history holds of each live session of a host.
use Rattle.std.proofs.Common.{◌≡◌, ℕ, Option, None, Some, List, subst, sym, ◌∙◌}
use Rattle.std.specs.Prelude.{option_map}
use Rattle.sc_value.specs.declared.ids.AppId.{AppId}
use Rattle.sc_terms.specs.declared.steps.Step.{Step}
use Rattle.sc_parts.specs.declared.setup.Setup.{Setup}
use Rattle.sc_state.specs.declared.host.Live.{Live}
use Rattle.sc_state.specs.declared.session.Session.{Session}
use Rattle.sc_hosts.specs.Histories.{History, as_history, as_session, session_of}
use Rattle.sc_hosts.specs.Runs.{net_from as chained}
use Rattle.sc_hosts.specs.Steps.{live_at}
use Rattle.sc_forms.specs.Simulations.{map_live}
use Rattle.sc_forms.proofs.HistoryLaws.{live_at-histories}

-- where the histories are read, each session is one's
mapped-is : (P : Session → Type 0) (read : History → Session) → ((history : History) → P (read history))
    → (found : Option (Live History)) (live : Live Session) → option_map (map_live read) found ≡ Some live
    → P live.session
unfolding map_live
mapped-is P read all None live is = cc
mapped-is P read all (Some kept) live is = subst P (session-is (map_live read kept) live is) (all kept.session)
  where
    session-is : (a b : Live Session) → Some a ≡ Some b → a.session ≡ b.session
    session-is a b is = cc

pub live-is : (P : Session → Type 0) (setup : Setup) → ((history : History) → P (session_of setup.config history))
    → (epoch began : ℕ) (journal : List Step) (app : AppId) (live : Live Session)
    → live_at app (chained as_session setup epoch began journal) ≡ Some live → P live.session
live-is P setup all epoch began journal app live is =
    mapped-is P (session_of setup.config) all (live_at app (chained (as_history setup.config) setup epoch began journal)) live (sym (live_at-histories setup epoch began app journal) ∙ is)
