-- Sessions with session timers, over their whole lives (RFC 4028).
use Rattle.std.specs.Prelude.{◌≡◌, ◌⊎◌, ◌<◌, ◌^◌, ℕ, List, [], ◌∷◌, ◌++◌, None, Some}
use Rattle.sc_value.specs.declared.ids.AppId.{AppId}
use Rattle.sc_value.specs.declared.ids.SessId.{SessId}
use Rattle.sc_terms.specs.declared.calls.CallRecord.{CallRecord}
use Rattle.sc_terms.specs.declared.charters.Charter.TheVariants as charters
use Rattle.sc_terms.specs.declared.events.Event.{Event}
use Rattle.sc_terms.specs.declared.settings.Config.{Config}
use Rattle.sc_terms.specs.declared.views.View.{View}
use Rattle.sc_parts.specs.declared.setup.Setup.{Setup}
use Rattle.sc_model.specs.Settings.{charters_of}
use Rattle.sc_hosts.specs.Effects.{after_calls, first_play}
use Rattle.sc_hosts.specs.Histories.{History, session_after}
use Rattle.sc_hosts.specs.Sessions.{Turn}
use Rattle.sc_promised.specs.Reliable.{play_after}
use Rattle.sc_remembered.specs.Acts.{shown_in}
use Rattle.sc_remembered.specs.Played.{event_in}
use Rattle.sc_timed.specs.TimedActs.{IsChain, TimedAct, TimedHappened, act_of, calls_of, side_of, timer_at}

-- ## The acts of a history

-- these calls leave what is remembered of the session timer of the SipSession of this number
unfoldable pub LeavesTimer : ℕ → View → List CallRecord → Type 0
LeavesTimer n view made = timer_at (after_calls view made).view n ≡ timer_at view n

-- what they leave remembered of it is what this act of the SipSession does
pub record IsActOf (n : ℕ) (view : View) (made : List CallRecord) (act : TimedAct) : Type 0 where
  pub of : side_of view act ≡ Some (record { 0 = n })
  pub comes_to : timer_at (after_calls view made).view n
      ≡ timer_at (play_after (first_play view) (calls_of view act)).view n

-- the acts of the SipSession of this number that these turns of a history made, each turn one at
-- most, the oldest act first
unfoldable pub AreActs : Config → History → ℕ → List Turn → List TimedHappened → Type 0
AreActs config history n [] acts = acts ≡ []
AreActs config history n (turn ∷ earlier) acts =
    (LeavesTimer n (shown_in config (session_after config history earlier) turn) turn.calls
    × AreActs config history n earlier acts)
    ⊎ ((before : List TimedHappened) × (act : TimedAct)
    × (acts
    ≡ before
    ++ record {
      play = first_play (shown_in config (session_after config history earlier) turn);
      act = act;
    } ∷ [])
    × IsActOf n (shown_in config (session_after config history earlier) turn) turn.calls act
    × AreActs config history n earlier before)

-- such acts, of which each begins with what the one before left, the first with nothing
pub record HasActs (config : Config) (history : History) (n : ℕ) (turns : List Turn) : Type 0 where
  pub acts : List TimedHappened
  pub are : AreActs config history n turns acts
  pub chain : IsChain n None acts

-- ## What is premised

-- the numbers of the SipSessions that acts are of have 64 bits, in each turn of a history
unfoldable pub HaveRoom : Config → History → List Turn → Type 0
HaveRoom config history [] = Unit {0}
HaveRoom config history (turn ∷ earlier) =
    ((told : Event) (act : TimedAct) (sess : SessId)
    → event_in config (session_after config history earlier) turn ≡ Some told
    → act_of (shown_in config (session_after config history earlier) turn) told ≡ Some act
    → side_of (shown_in config (session_after config history earlier) turn) act ≡ Some sess
    → sess.0 < 2 ^ 64)
    × HaveRoom config history earlier

-- the application is of this kind, and nobody listens to its own events
abbrev pub IsTimed : Setup → AppId → Type 0
IsTimed setup app = charters_of setup app.host ≡ Some (charters.Timed, None)
