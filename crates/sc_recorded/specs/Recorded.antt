-- The Record-Route that an INVITE has where its way through the container ends (RFC 3261 section
-- 16.6, step 4).
use Rattle.std.specs.Prelude.{◌≡◌, ℕ, List, ◌∷◌, Bool, true, false, None, Some, is_some, if◌then◌else◌}
use Rattle.std.specs.Option.{option_map_or}
use Rattle.sc_value.specs.declared.ids.AppId.{AppId}
use Rattle.sc_value.specs.declared.message.Head.{Head}
use Rattle.sc_value.specs.declared.parts.Address.{Address}
use Rattle.sc_terms.specs.declared.calls.ProxyOptions.{ProxyOptions}
use Rattle.sc_terms.specs.declared.settings.Config.{Config}
use Rattle.sc_parts.specs.declared.setup.Setup.{Setup}
use Rattle.sc_state.specs.declared.host.Peer.{Peer}
use Rattle.sc_state.specs.declared.host.Peer.TheVariants as peers
use Rattle.sc_state.specs.declared.host.Server.{Server}
use Rattle.sc_state.specs.declared.queue.Queued.{Queued}
use Rattle.sc_state.specs.declared.queue.Queued.TheVariants as queued
use Rattle.sc_model.specs.Dialogs.{tag_of}
use Rattle.sc_hosts.specs.Messages.{own_address}
use Rattle.sc_lasting.specs.Lasting.{All}
use Rattle.sc_paths.specs.Moments.{Moment, proxied_with}
use Rattle.sc_paths.specs.Pieces.{Dialog, Piece, heads_at_end, record_routed, server_of_piece}

-- ## On the way

-- what a Record-Route list is behind a session: with its own URI in front where it stays on the
-- path, else as it was
unfoldable pub route_behind : Config → ℕ → AppId → Bool → List Address → List Address
route_behind config epoch app stays routes =
    if stays then own_address config epoch app ∷ routes else routes

-- the session stays on the path of what it proxied: the first of its calls that proxied and was
-- accepted asked for that
abbrev pub records : List Moment → AppId → Bool
records run app =
    option_map_or (λ (how : ProxyOptions). how.record_route) (proxied_with run app) false

-- a later request that waits has a To tag
unfoldable pub IsTaggedEvent : Queued → Type 0
IsTaggedEvent (queued.Request request) = is_some (tag_of request.head.to) ≡ true
IsTaggedEvent event = Unit {0}

-- the other end is a host of the container
unfoldable pub IsInner : Peer → Type 0
IsInner (peers.Inside host) = Unit {0}
IsInner (peers.Outside place) = ⊥
IsInner peers.Nowhere = ⊥

-- ## At the end

-- at its end the INVITE of the way has the Record-Route of its proxies that record-routed, above
-- the one with which it came: as it leaves the container to where the response comes from, or as it
-- came to the session that answered it
pub record IsRecorded (setup : Setup) (epoch : ℕ) (run : List Moment) (dialog : Dialog)
    (piece : Piece) : Type 0 where
  pub leaves : piece.callee ≡ None
      → All (λ (head : Head). head.record_route ≡ record_routed setup.config epoch run piece)
      (heads_at_end setup run dialog piece)
  pub comes : (app : AppId) (server : Server) → piece.callee ≡ Some app
      → server_of_piece run piece app ≡ Some server
      → server.request.head.record_route ≡ record_routed setup.config epoch run piece
