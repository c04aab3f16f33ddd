-- The Record-Route of the answers that the session at the end of a way gives to the INVITE that
-- came by it (RFC 3261 section 12.1.1).
use Rattle.std.specs.Prelude.{◌≡◌, ℕ, List, Some}
use Rattle.sc_value.specs.declared.ids.AppId.{AppId}
use Rattle.sc_value.specs.declared.message.Head.{Head}
use Rattle.sc_parts.specs.declared.setup.Setup.{Setup}
use Rattle.sc_state.specs.declared.host.Server.{Server}
use Rattle.sc_lasting.specs.Lasting.{All}
use Rattle.sc_paths.specs.Moments.{Moment}
use Rattle.sc_paths.specs.Pieces.{Dialog, Piece, answers_of, heads_at_end, record_routed, server_of_piece}

-- each answer of the session at its end that makes the dialog returns the Record-Route of the
-- INVITE as it came there, which is that of the proxies of the way that record-routed, above the
-- one with which the INVITE came to the way
pub record ReturnsRecordRoute (setup : Setup) (epoch : ℕ) (run : List Moment) (dialog : Dialog)
    (piece : Piece) : Type 0 where
  pub answered : (app : AppId) (server : Server) → piece.callee ≡ Some app
      → server_of_piece run piece app ≡ Some server
      → All (λ (head : Head). head.record_route ≡ server.request.head.record_route)
      (answers_of setup run dialog app server)
  pub returned : (app : AppId) → piece.callee ≡ Some app
      → All (λ (head : Head). head.record_route ≡ record_routed setup.config epoch run piece)
      (heads_at_end setup run dialog piece)
