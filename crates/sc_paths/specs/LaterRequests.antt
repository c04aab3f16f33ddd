-- Later requests of a dialog: which of them keep to the way of its INVITE, and which application
-- sessions one visits (RFC 3261 sections 12.2 and 16.12).
use Rattle.std.specs.Prelude.{ℕ, ◌+◌, ◌==◌, List, [], ◌∷◌, Bool, false, not, ◌&&◌, ◌||◌, Option, None, Some, is_some, is_none, option_map, option_and_then, if◌then◌else◌, length, slice_get, drop}
use Rattle.std.specs.List.{find, list_any}
use Rattle.std.specs.Option.{option_map_or}
use Rattle.sc_value.specs.declared.ids.AppId.{AppId}
use Rattle.sc_value.specs.declared.message.Message.TheVariants as messages
use Rattle.sc_value.specs.declared.message.Request.{Request}
use Rattle.sc_value.specs.declared.parts.Uri.{Uri}
use Rattle.sc_value.specs.declared.parts.Via.{Via}
use Rattle.sc_tokens.specs.Names.{same_bytes}
use Rattle.sc_terms.specs.declared.settings.Config.{Config}
use Rattle.sc_terms.specs.declared.steps.Step.{Step}
use Rattle.sc_terms.specs.declared.steps.Step.TheVariants as steps
use Rattle.sc_parts.specs.declared.setup.Setup.{Setup}
use Rattle.sc_state.specs.declared.host.Peer.{Peer}
use Rattle.sc_state.specs.declared.host.Peer.TheVariants as peers
use Rattle.sc_state.specs.declared.orders.Order.{Order}
use Rattle.sc_state.specs.declared.orders.Order.TheVariants as orders
use Rattle.sc_state.specs.declared.queue.Queued.{Queued}
use Rattle.sc_state.specs.declared.queue.Queued.TheVariants as queued
use Rattle.sc_tokens.specs.Bytes.{Bytes}
use Rattle.sc_model.specs.OwnHosts.{is_own}
use Rattle.sc_hosts.specs.Destinations.{next_uri}
use Rattle.sc_hosts.specs.Legs.{from_tag, same_tag, to_tag}
use Rattle.sc_hosts.specs.Taking.{names, own_uri, server_for, without_own_route}
use Rattle.sc_hosts.specs.Transacting.{is_same_app, method_of}
use Rattle.sc_paths.specs.Moments.{Moment, Got, got_in, given_in, same_vias}
use Rattle.sc_paths.specs.Pieces.{Dialog, Direction, From_callee, From_caller, Piece, ahead, along, end_of, recorders}
use Rattle.sc_model.specs.DialogRequests.{cancel}

-- ## One occurrence of a request

-- it came from outside by the step at this place of the run; or a session sent it by its turn
-- there, as this one of the turn's orders
pub record Occurrence : Type 0 where
  pub step : ℕ
  pub order : Option ℕ

-- the later request that an order sends, an ACK too
unfoldable pub later_in : Order → Option Request
later_in (orders.Send branch request) = Some request
later_in (orders.Acknowledge request) = Some request
later_in order = None

-- the request, with its sender and the moment of its step
pub record SetOut : Type 0 where
  pub moment : Moment
  pub sender : Peer
  pub request : Request

-- the request of a step that came from outside, or of an order of the step's turn
unfoldable pub set_out_by : Setup → Moment → Step → Option ℕ → Option SetOut
set_out_by setup moment (steps.In place (messages.Request request)) None =
    Some (record { moment = moment; sender = peers.Outside place; request = request })
set_out_by setup moment (steps.Turn end app event now made) (Some order) =
    option_map
    (λ request. record { moment = moment; sender = peers.Inside app.host; request = request })
    (option_and_then later_in (slice_get (given_in setup moment) order))
set_out_by setup moment step order = None

-- the request of an occurrence in a run, if there is one
unfoldable pub set_out : Setup → List Moment → Occurrence → Option SetOut
set_out setup run occurrence =
    option_and_then (λ moment. set_out_by setup moment moment.step occurrence.order)
    (slice_get run occurrence.step)

-- ## Which requests keep to the way

-- no transaction takes it: it is no CANCEL and no ACK to a refusal, and did not come before
unfoldable pub is_new : SetOut → Bool
is_new out =
    not (same_bytes (method_of out.request) cancel)
    && not
    (list_any (λ host. is_some (server_for out.sender out.request host)) out.moment.before.hosts)

-- a later request with these tags of From and To
unfoldable pub is_between : Option Bytes → Option Bytes → Request → Bool
is_between from to request =
    is_some (to_tag request) && same_tag (from_tag request) from && same_tag (to_tag request) to

-- its tags are those of the dialog in this direction
unfoldable pub has_tags : Dialog → Direction → Request → Bool
has_tags dialog From_caller request = is_between dialog.caller dialog.callee request
has_tags dialog From_callee request = is_between dialog.callee dialog.caller request

-- an own URI of this session
unfoldable pub leads_to : Config → ℕ → AppId → Uri → Bool
leads_to config epoch app uri = is_own config uri && names epoch app uri

-- its first Routes are those of these sessions. Behind them it goes to the session at the end;
-- where there is none nothing own is next
unfoldable pub leads : Config → ℕ → List AppId → Option AppId → Request → Bool
leads config epoch [] None request = not (is_own config (next_uri request))
leads config epoch [] (Some app) request =
    length request.head.route == 0 && leads_to config epoch app request.uri
leads config epoch (app ∷ apps) end request =
    option_map_or (λ route. leads_to config epoch app route.uri) (slice_get request.head.route 0)
    false && leads config epoch apps end (without_own_route config request)

-- the request keeps to the way of the piece. One that is to visit nobody is not own by its
-- Request-URI either: where a request comes, a foreign top Route is passed over
unfoldable pub carries_by : Config → List Moment → Dialog → Direction → Piece → SetOut → Bool
carries_by config run dialog direction piece out =
    is_new out && same_bytes out.request.head.call_id dialog.call_id
    && has_tags dialog direction out.request
    && leads config out.moment.before.epoch (along direction (recorders run piece))
    (end_of direction piece) out.request
    && (not (length (ahead run direction piece) == 0) || is_none (own_uri config out.request))

-- the same of an occurrence in a run
unfoldable pub carries : Setup → List Moment → Dialog → Direction → Piece → Occurrence → Bool
carries setup run dialog direction piece occurrence =
    option_map_or (carries_by setup.config run dialog direction piece)
    (set_out setup run occurrence) false

-- ## Which sessions it visits

-- the Vias of a later request that was queued
unfoldable pub later_vias : Queued → Option (List Via)
later_vias (queued.Request request) = Some request.head.via
later_vias event = None

-- it is a later request with these Vias below so many others
unfoldable pub has_vias : ℕ → List Via → Got → Bool
has_vias more vias got =
    option_map_or (λ v. same_vias vias (drop more v)) (later_vias got.waiting.event) false

-- the second is the first as it was passed on, with one Via more
unfoldable pub is_passed_on : Got → Got → Bool
is_passed_on got next =
    option_map_or (λ vias. has_vias 1 vias next) (later_vias got.waiting.event) false

-- the step is the turn of this event
unfoldable pub is_turn_of : Got → Step → Bool
is_turn_of got (steps.Turn end app event now made) =
    is_same_app app got.app && event == got.waiting.number
is_turn_of got step = false

-- the session where it waits, and those to which it is passed on in its turns
unfoldable pub visits_from : Option Got → List Moment → List AppId
visits_from None later = []
visits_from (Some got) [] = got.app ∷ []
visits_from (Some got) (moment ∷ later) =
    if is_turn_of got moment.step
    then got.app ∷ visits_from (find (is_passed_on got) (got_in moment)) later
    else visits_from (Some got) later

-- the sessions whose inbox got it, by itself or as passed on, in order
unfoldable pub visits : Setup → List Moment → Occurrence → List AppId
visits setup run occurrence =
    option_map_or
    (λ out.
    visits_from (find (has_vias 0 out.request.head.via) (got_in out.moment))
    (drop (occurrence.step + 1) run)) (set_out setup run occurrence) []
