-- The way of an INVITE through the container to the response that makes a dialog, and which
-- application sessions stay on it (RFC 3261 sections 12.1, 16.6 and 16.12).
use Rattle.std.specs.Prelude.{◌≡◌, ℕ, ◌==◌, List, [], ◌∷◌, ◌++◌, Bool, true, false, not, ◌&&◌, Option, None, Some, is_some, is_none, option_and_then, nat_eq, if◌then◌else◌, length, map, filter, slice_get, drop, reverse, codes}
use Rattle.std.specs.List.{filter_map, flat_map, starts_with}
use Rattle.std.specs.Option.{option_map_or}
use Rattle.sc_value.specs.declared.ids.AppId.{AppId}
use Rattle.sc_value.specs.declared.message.Head.{Head}
use Rattle.sc_value.specs.declared.message.Request.{Request}
use Rattle.sc_value.specs.declared.message.Response.{Response}
use Rattle.sc_value.specs.declared.parts.Address.{Address}
use Rattle.sc_value.specs.declared.parts.Via.{Via}
use Rattle.sc_tokens.specs.Names.{same_bytes}
use Rattle.sc_terms.specs.declared.calls.ProxyOptions.{ProxyOptions}
use Rattle.sc_terms.specs.declared.settings.Config.{Config}
use Rattle.sc_parts.specs.declared.setup.Setup.{Setup}
use Rattle.sc_state.specs.declared.host.Peer.{Peer}
use Rattle.sc_state.specs.declared.host.Peer.TheVariants as peers
use Rattle.sc_state.specs.declared.host.Server.{Server}
use Rattle.sc_state.specs.declared.net.Net.{Net}
use Rattle.sc_state.specs.declared.orders.Order.{Order}
use Rattle.sc_state.specs.declared.orders.Order.TheVariants as orders
use Rattle.sc_state.specs.declared.queue.Queued.{Queued}
use Rattle.sc_state.specs.declared.queue.Queued.TheVariants as queued
use Rattle.sc_state.specs.declared.session.Session.{Session}
use Rattle.sc_tokens.specs.Bytes.{Bytes}
use Rattle.sc_model.specs.Dialogs.{tag_of}
use Rattle.sc_model.specs.Names.{branch_cookie, mark_text, app_text}
use Rattle.sc_model.specs.SessionStates.{invite}
use Rattle.sc_hosts.specs.Legs.{from_tag, makes_dialog_of, same_tag, to_tag}
use Rattle.sc_hosts.specs.Messages.{own_address}
use Rattle.sc_hosts.specs.Nets.{client_at, host_at}
use Rattle.sc_hosts.specs.Transacting.{is_same_app, top_via, branch_of, takes_from}
use Rattle.sc_paths.specs.Moments.{Moment, got_in, given_in, began_with, proxied_with, same_vias}

-- ## Words

-- a dialog by its Call-ID and the tags of its two ends; that there is no tag is a value of its own
pub record Dialog : Type 0 where
  pub call_id : Bytes
  pub caller : Option Bytes
  pub callee : Option Bytes

-- from which end of a dialog a later request comes
pub data Direction : Type 0 where
  From_caller : Direction
  From_callee : Direction

-- the application sessions that handled an INVITE, in the order in which it went: the session that
-- sent it first, where one did; those that proxied it; the session that answered it, where one did
pub record Piece : Type 0 where
  pub caller : Option AppId
  pub proxies : List AppId
  pub callee : Option AppId

-- one item or none
abbrev pub list_of_option : {A : Type 0} → Option A → List A
list_of_option None = []
list_of_option (Some a) = a ∷ []

-- the sessions of a piece in the order in which the INVITE went
unfoldable pub sessions_of : Piece → List AppId
sessions_of piece = list_of_option piece.caller ++ piece.proxies ++ list_of_option piece.callee

-- ## The response that makes the dialog

-- the response to this initial INVITE makes this dialog
unfoldable pub makes : Dialog → Request → Response → Bool
makes dialog request response =
    same_bytes request.method invite && is_none (to_tag request) && makes_dialog_of request response
    && same_bytes request.head.call_id dialog.call_id && same_tag (from_tag request) dialog.caller
    && same_tag (tag_of response.head.to) dialog.callee

-- the other end is outside
unfoldable pub is_outside : Peer → Bool
is_outside (peers.Outside place) = true
is_outside peer = false

-- the INVITE that went outside on the branch of this response, which makes the dialog
unfoldable pub left_by : Dialog → AppId → Net Session → Queued → Option Head
left_by dialog app net (queued.Response branch response) =
    option_map_or
    (λ client.
    if is_outside client.peer && makes dialog client.request response
    then Some client.request.head
    else None) (client_at app branch (host_at app.host net)) None
left_by dialog app net event = None

-- the INVITEs that a session sent outside and to which responses came that make the dialog
unfoldable pub left_from : List Moment → Dialog → AppId → List Head
left_from run dialog app =
    flat_map
    (λ moment.
    filter_map (λ got. left_by dialog app moment.after got.waiting.event)
    (filter (λ got. is_same_app got.app app) (got_in moment))) run

-- the head of the answer to this transaction's INVITE, where it makes the dialog
unfoldable pub answer_by : Dialog → Server → Order → Option Head
answer_by dialog server (orders.Respond event response) =
    if event == server.event && makes dialog server.request response then Some response.head
    else None
answer_by dialog server order = None

-- the answers of a session to the INVITE that it got that make the dialog: what it proxied it does
-- not answer
unfoldable pub answers_of : Setup → List Moment → Dialog → AppId → Server → List Head
answers_of setup run dialog app server =
    if is_some (proxied_with run app) then []
    else flat_map (λ moment. filter_map (answer_by dialog server) (given_in setup moment)) run

-- ## The piece

-- the transaction by which a session got the INVITE; the one that sent it first has none
unfoldable pub server_of_piece : List Moment → Piece → AppId → Option Server
server_of_piece run piece app =
    if option_map_or (is_same_app app) piece.caller false then None else began_with run app

-- the Vias with which it got it
unfoldable pub vias_at : List Moment → Piece → AppId → List Via
vias_at run piece app =
    option_map_or (λ server. server.request.head.via) (server_of_piece run piece app) []

-- the branch is one of this session's
unfoldable pub is_branch_of : Config → ℕ → AppId → Via → Bool
is_branch_of config epoch app via =
    starts_with nat_eq (branch_of via)
    (branch_cookie ++ mark_text config.salt epoch ++ codes "-" ++ app_text app ++ codes "-")

-- the INVITE of this transaction is the one that this session sent: it came over the link from its
-- host, where the top Via is to be believed; that one is of a branch of it, and below it are the
-- Vias with which it got it
unfoldable pub is_sent_by : Config → ℕ → List Moment → Piece → AppId → Server → Bool
is_sent_by config epoch run piece app server =
    takes_from server.peer (peers.Inside app.host)
    && option_map_or (is_branch_of config epoch app) (top_via server.request.head.via) false
    && same_vias (vias_at run piece app) (drop 1 server.request.head.via)

-- each of these sessions got the INVITE from the one before
unfoldable pub goes_from : Config → ℕ → List Moment → Piece → List AppId → Bool
goes_from config epoch run piece [] = true
goes_from config epoch run piece (app ∷ []) = true
goes_from config epoch run piece (app ∷ next ∷ more) =
    option_map_or (is_sent_by config epoch run piece app) (server_of_piece run piece next) false
    && goes_from config epoch run piece (next ∷ more)

-- each session got it from the one before
unfoldable pub goes_on : Config → ℕ → List Moment → Piece → Bool
goes_on config epoch run piece = goes_from config epoch run piece (sessions_of piece)

-- how the first of them got it
unfoldable pub first_received : List Moment → Piece → Option Server
first_received run piece =
    option_and_then (server_of_piece run piece) (slice_get (sessions_of piece) 0)

-- it came from outside, or a session sent it first
unfoldable pub begins : List Moment → Piece → Bool
begins run piece =
    option_map_or (λ server. is_outside server.peer) (first_received run piece)
    (is_some piece.caller)

-- at its end: each answer of the session there that makes the dialog; or the INVITE as the last
-- session sent it outside, its own Via on top, where a response to it makes the dialog
unfoldable pub heads_at_end : Setup → List Moment → Dialog → Piece → List Head
heads_at_end setup run dialog piece =
    option_map_or
    (λ app. option_map_or (answers_of setup run dialog app) (server_of_piece run piece app) [])
    piece.callee
    (option_map_or
    (λ app.
    filter (λ head. same_vias (vias_at run piece app) (drop 1 head.via))
    (left_from run dialog app)) (slice_get (reverse (sessions_of piece)) 0) [])

-- the dialog was made there
unfoldable pub is_made : Setup → List Moment → Dialog → Piece → Bool
is_made setup run dialog piece = not (length (heads_at_end setup run dialog piece) == 0)

-- the way of the dialog's INVITE: where it begins, how it goes on, and that it comes to the
-- response
pub record IsPiece (setup : Setup) (epoch : ℕ) (run : List Moment) (dialog : Dialog)
    (piece : Piece) : Type 0 where
  pub begun : begins run piece ≡ true
  pub passed : goes_on setup.config epoch run piece ≡ true
  pub made : is_made setup run dialog piece ≡ true

-- ## Who stays

-- its proxies that record-routed
unfoldable pub recorders : List Moment → Piece → List AppId
recorders run piece =
    filter
    (λ app. option_map_or (λ (how : ProxyOptions). how.record_route) (proxied_with run app) false)
    piece.proxies

-- in this direction: as the INVITE went, or back
unfoldable pub along : {A : Type 0} → Direction → List A → List A
along From_caller apps = apps
along From_callee apps = reverse apps

-- the session at the end in this direction, where there is one
unfoldable pub end_of : Direction → Piece → Option AppId
end_of From_caller piece = piece.callee
end_of From_callee piece = piece.caller

-- the piece without the proxies that did not record-route, in this direction
unfoldable pub piece_on_path : List Moment → Direction → Piece → List AppId
piece_on_path run direction piece =
    along direction
    (list_of_option piece.caller ++ recorders run piece ++ list_of_option piece.callee)

-- the same without the session that sends in this direction: whom a later request is to visit
unfoldable pub ahead : List Moment → Direction → Piece → List AppId
ahead run direction piece =
    along direction (recorders run piece) ++ list_of_option (end_of direction piece)

-- the Record-Route that is to stand at its end: the own URIs of its proxies that record-routed, the
-- last one's on top, above what the INVITE had where the piece begins
unfoldable pub record_route_at_end : Config → ℕ → List Moment → Piece → List Address
record_route_at_end config epoch run piece =
    map (own_address config epoch) (reverse (recorders run piece))

-- that Record-Route, with what stood below it
unfoldable pub record_routed : Config → ℕ → List Moment → Piece → List Address
record_routed config epoch run piece =
    record_route_at_end config epoch run piece
    ++ option_map_or (λ server. server.request.head.record_route) (first_received run piece) []
