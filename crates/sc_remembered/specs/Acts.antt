-- The acts of an INVITE that the turns of a session make, by which provisional responses are given
-- reliably (RFC 3262).
use Rattle.std.specs.Prelude.{◌≡◌, ◌⊎◌, ℕ, List, [], ◌∷◌, ◌++◌}
use Rattle.sc_terms.specs.declared.calls.CallRecord.{CallRecord}
use Rattle.sc_terms.specs.declared.settings.Config.{Config}
use Rattle.sc_terms.specs.declared.views.View.{View}
use Rattle.sc_state.specs.declared.session.Session.{Session}
use Rattle.sc_hosts.specs.Effects.{after_calls, first_play}
use Rattle.sc_hosts.specs.Histories.{History, session_after}
use Rattle.sc_hosts.specs.Preparing.{prepared_session}
use Rattle.sc_hosts.specs.Sessions.{Turn}
use Rattle.sc_promised.specs.Reliable.{Act, Happened, IsOf, IsSound, play_after, remembered_at, script_of}

-- what a turn of a session shows as its calls begin
abbrev pub shown_in : Config → Session → Turn → View
shown_in config session turn =
    (prepared_session config turn.ringing session turn.waiting turn.now).view

-- these calls leave what is remembered of the INVITE of this number
unfoldable pub LeavesIt : ℕ → View → List CallRecord → Type 0
LeavesIt n view made = remembered_at (after_calls view made).view n ≡ remembered_at view n

-- what they leave remembered of it is what this act of it does, which isn't refused behind its
-- response
pub record IsActOf (n : ℕ) (view : View) (made : List CallRecord) (act : Act) : Type 0 where
  pub of : IsOf n act
  pub sound : IsSound (first_play view) act
  pub comes_to : remembered_at (after_calls view made).view n
      ≡ remembered_at (play_after (first_play view) (script_of view act)).view n

-- the acts of the INVITE that these turns of a history made, each turn one at most, the oldest act
-- first
unfoldable pub AreActs : Config → History → ℕ → List Turn → List Happened → Type 0
AreActs config history n [] acts = acts ≡ []
AreActs config history n (turn ∷ earlier) acts =
    (LeavesIt n (shown_in config (session_after config history earlier) turn) turn.calls
    × AreActs config history n earlier acts)
    ⊎ ((before : List Happened) × (act : Act)
    × (acts
    ≡ before
    ++ record {
      play = first_play (shown_in config (session_after config history earlier) turn);
      act = act;
    } ∷ [])
    × IsActOf n (shown_in config (session_after config history earlier) turn) turn.calls act
    × AreActs config history n earlier before)
