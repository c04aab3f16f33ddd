-- Sessions of the kind that gives provisional responses reliably, over their whole lives (RFC
-- 3262).
use Rattle.std.specs.Prelude.{◌≡◌, ◌≤◌, ◌^◌, ℕ, List, [], ◌∷◌, None, Some}
use Rattle.std.specs.List.{filter_map}
use Rattle.sc_value.specs.declared.ids.AppId.{AppId}
use Rattle.sc_terms.specs.declared.charters.Charter.TheVariants as charters
use Rattle.sc_terms.specs.declared.events.Event.{Event}
use Rattle.sc_terms.specs.declared.settings.Config.{Config}
use Rattle.sc_parts.specs.declared.setup.Setup.{Setup}
use Rattle.sc_state.specs.declared.queue.Waiting.{Waiting}
use Rattle.sc_state.specs.declared.session.Session.{Session}
use Rattle.sc_model.specs.Settings.{charters_of}
use Rattle.sc_hosts.specs.Effects.{first_play}
use Rattle.sc_hosts.specs.Histories.{History, session_after}
use Rattle.sc_hosts.specs.Sessions.{Turn}
use Rattle.sc_lived.specs.Lived.{HasLived, Told}
use Rattle.sc_promised.specs.Reliable.{Act, CountFrom, Fresh, Happened, IsSound, IsTrace, offered_number}
use Rattle.sc_remembered.specs.Acts.{AreActs, shown_in}
use Rattle.sc_remembered.specs.Early.{IsUnknown, act_of}
use Rattle.sc_remembered.specs.Played.{event_in}

-- ## Each turn of a history

-- nothing is remembered of an INVITE that comes
unfoldable pub AreUnknown : Config → History → List Turn → Type 0
AreUnknown config history [] = Unit {0}
AreUnknown config history (turn ∷ earlier) =
    ((told : Event) → event_in config (session_after config history earlier) turn ≡ Some told
    → IsUnknown (shown_in config (session_after config history earlier) turn) told)
    × AreUnknown config history earlier

-- no offer is refused behind its response
unfoldable pub AreWhole : Config → History → List Turn → Type 0
AreWhole config history [] = Unit {0}
AreWhole config history (turn ∷ earlier) =
    ((told : Event) (act : Act)
    → event_in config (session_after config history earlier) turn ≡ Some told
    → act_of (shown_in config (session_after config history earlier) turn) told ≡ Some act
    → IsSound (first_play (shown_in config (session_after config history earlier) turn)) act)
    × AreWhole config history earlier

-- numbers of requests have 64 bits
abbrev pub HasRoom : Session → Type 0
HasRoom session = session.view.next_request ≤ 2 ^ 64

-- ## Live sessions

-- the application is of this kind, and nobody listens to its own events
abbrev pub IsEarly : Setup → AppId → Type 0
IsEarly setup app = charters_of setup app.host ≡ Some (charters.Early, None)

-- the acts of the INVITE of this number that the turns of a history made: each begins with what the
-- one before left, the first with nothing, and the offers that were accepted have the RSeq numbers
-- 1, 2, 3 and so on
pub record HasActs (config : Config) (history : History) (n : ℕ) : Type 0 where
  pub acts : List Happened
  pub are : AreActs config history n history.turns acts
  pub chain : IsTrace n Fresh acts
  pub counted : CountFrom 0 (filter_map offered_number acts)

-- what the session is comes of a history with these turns, and nothing is remembered of an INVITE
-- that comes in it
pub record HasUnknown (setup : Setup) (app : AppId) (given : List Told) (session : Session)
    (inbox : List Waiting) : Type 0 where
  pub lived : HasLived setup app given session inbox
  pub unknown : AreUnknown setup.config lived.history lived.history.turns
