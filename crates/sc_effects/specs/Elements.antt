-- Changes of one element of a list, each as one function. This project's own.
use Rattle.std.specs.Prelude.{ℕ, Bool, true}
use Rattle.sc_value.specs.declared.ids.ReqId.{ReqId}
use Rattle.sc_value.specs.declared.ids.SessId.{SessId}
use Rattle.sc_value.specs.declared.parts.Field.{Field}
use Rattle.sc_terms.specs.declared.views.SessionView.{SessionView}
use Rattle.sc_terms.specs.declared.views.View.{View}
use Rattle.sc_tokens.specs.Bytes.{Bytes}
use Rattle.sc_hosts.specs.Looking.{change_request, change_session}
use Rattle.sc_hosts.specs.Effects.{proxied_request, proxying}

-- the SipSession is gone
unfoldable pub as_gone : SessionView → SessionView
as_gone session = record session { gone = true }

-- the SipSession goes away by itself once ready, or doesn't
unfoldable pub with_flag : Bool → SessionView → SessionView
with_flag flag session = record session { ready_flag = flag }

-- the attribute with another value
unfoldable pub with_value : Bytes → Field → Field
with_value value field = record field { value = value }

-- a request proxied to so many targets more, by its number and that of its SipSession
unfoldable pub proxied_at : ReqId → SessId → ℕ → View → View
proxied_at req sess count view =
    change_session sess proxying (change_request req (proxied_request count) view)
