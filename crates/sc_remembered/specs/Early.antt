-- The turns of an application that gives provisional responses reliably, as acts (RFC 3262).
use Rattle.std.specs.Prelude.{◌≡◌, ◌<◌, ◌⊎◌, ◌^◌, ◌&&◌, ℕ, List, [], ◌∷◌, Option, None, Some, codes, if◌then◌else◌, option_and_then, option_map}
use Rattle.std.specs.List.{find}
use Rattle.sc_tokens.specs.Names.{same_bytes}
use Rattle.sc_terms.specs.declared.calls.CallRecord.{CallRecord}
use Rattle.sc_terms.specs.declared.events.Event.{Event}
use Rattle.sc_terms.specs.declared.events.Event.TheVariants as events
use Rattle.sc_terms.specs.declared.settings.Config.{Config}
use Rattle.sc_terms.specs.declared.views.RequestView.{RequestView}
use Rattle.sc_terms.specs.declared.views.View.{View}
use Rattle.sc_model.specs.SessionStates.{invite}
use Rattle.sc_hosts.specs.Effects.{first_play}
use Rattle.sc_hosts.specs.HelperParts.{lists_option, strict_number}
use Rattle.sc_hosts.specs.Histories.{History, session_after}
use Rattle.sc_hosts.specs.Offers.{after_word, early_script, is_invite_of, rel_option, session_progress}
use Rattle.sc_hosts.specs.Scripting.{Script}
use Rattle.sc_hosts.specs.Sessions.{Turn}
use Rattle.sc_hosts.specs.Words.{prack}
use Rattle.sc_promised.specs.Reliable.{Act, Fresh, Happened, IsSound, Late, Offers, Pracks, play_after, remembered_at, script_of}
use Rattle.sc_remembered.specs.Acts.{AreActs, shown_in}
use Rattle.sc_remembered.specs.Played.{PlaysScript, event_in}

-- the act that an event makes of such an application: an offer of an INVITE whose sender supports
-- it, what follows a PRACK for the INVITE that began its SipSession, or what follows the timer of
-- an offer
unfoldable pub act_of : View → Event → Option Act
act_of view (events.Initial req sess region subscriber popped request) =
    if same_bytes request.method invite && lists_option rel_option request
    then Some (Offers req request 183 session_progress [])
    else None
act_of view (events.Request req sess request) =
    if same_bytes request.method prack
    then option_map (λ (invited : RequestView). Pracks invited.id req request)
    (find (is_invite_of sess) view.requests)
    else None
act_of view (events.Timer id info) =
    option_map (λ (n : ℕ). Late (record { 0 = n }) id)
    (option_and_then strict_number (after_word (codes "rel") info))
act_of view event = None

-- the script is that of the act that the event makes, or it leaves the attributes of a turn on this
-- view
unfoldable pub IsOneAct : View → Event → Script → Type 0
IsOneAct view event script =
    ((play_after (first_play view) script).view.attributes ≡ view.attributes)
    ⊎ ((act : Act) × (act_of view event ≡ Some act) × (script ≡ script_of view act))

-- nothing is remembered yet of a request that begins a SipSession
unfoldable pub IsUnknown : View → Event → Type 0
IsUnknown view (events.Initial req sess region subscriber popped request) =
    remembered_at view req.0 ≡ Fresh
IsUnknown view event = Unit {0}

-- ## A whole life

-- the number of the INVITE that the act is of
unfoldable pub invite_of : Act → ℕ
invite_of (Offers req request code reason body) = req.0
invite_of (Pracks invited req request) = invited.0
invite_of (Late invited id) = invited.0

-- what is premised of such a turn: an INVITE that comes is one of which nothing is remembered yet,
-- the number of one that an act is of has 64 bits, and no offer is refused behind its response
pub record IsEarlyTurn (view : View) (event : Option Event) (made : List CallRecord) : Type 0 where
  pub plays : PlaysScript early_script view event made
  pub unknown : (told : Event) → event ≡ Some told → IsUnknown view told
  pub sound : (told : Event) (act : Act) → event ≡ Some told → act_of view told ≡ Some act
      → (invite_of act < 2 ^ 64) × IsSound (first_play view) act

-- each turn of a history is so
unfoldable pub AreEarly : Config → History → List Turn → Type 0
AreEarly config history [] = Unit {0}
AreEarly config history (turn ∷ earlier) =
    IsEarlyTurn (shown_in config (session_after config history earlier) turn)
    (event_in config (session_after config history earlier) turn) turn.calls
    × AreEarly config history earlier

-- the turns of a history make such a list of acts of the INVITE
pub record MakesActs (config : Config) (history : History) (n : ℕ)
    (turns : List Turn) : Type 0 where
  pub acts : List Happened
  pub are : AreActs config history n turns acts
