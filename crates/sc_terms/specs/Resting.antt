-- Requests that rest: the walks of a turn find nothing to do with them. This project's own.
use Rattle.std.specs.Prelude.{Bool, not, ◌&&◌, ◌==◌, is_none, length, codes}
use Rattle.sc_tokens.specs.Bytes.{Bytes}
use Rattle.sc_tokens.specs.Names.{same_bytes}
use Rattle.sc_terms.specs.declared.views.RequestView.{RequestView}

-- the method of an ACK (RFC 3261 section 17.1.1.3)
abbrev pub ack_word : Bytes
ack_word = codes "ACK"

-- a later request that waits for its final response: an ACK waits for none, a proxied one may have
-- branches to act on, and of an INVITE a 2xx may wait for its ACK
unfoldable pub is_resting : RequestView → Bool
is_resting request =
    not request.initial && is_none request.answered && (request.branches == 0)
    && (length request.unacked == 0) && not (same_bytes request.method ack_word)
