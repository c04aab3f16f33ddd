-- Which SipSession of a request a tag is of (JSR 289 section 6.2.3).
use Rattle.std.specs.Prelude.{Bool, ◌&&◌, Some}
use Rattle.sc_value.specs.declared.ids.ReqId.{ReqId}
use Rattle.sc_terms.specs.declared.views.SessionView.{SessionView}
use Rattle.sc_state.specs.declared.session.Known.{Known}
use Rattle.sc_tokens.specs.Bytes.{Bytes}
use Rattle.sc_hosts.specs.DerivedSessions.{claims, is_of}

-- it is one of the request and has this tag
unfoldable pub claims_of : Known → ReqId → Bytes → SessionView → Bool
claims_of known req tag session = is_of known req session && claims known tag session

-- the SipSession with this tag of the peer
unfoldable pub with_peer_tag : Bytes → SessionView → SessionView
with_peer_tag tag session = record session { peer_tag = Some tag }
