-- The scripts of reliable provisional responses, by what an application read before its first call
-- (RFC 3262).
use Rattle.std.specs.Prelude.{Option, None, Some, is_some, if◌then◌else◌}
use Rattle.sc_value.specs.declared.ids.ReqId.{ReqId}
use Rattle.sc_value.specs.declared.message.Request.{Request}
use Rattle.sc_terms.specs.declared.views.View.{View}
use Rattle.sc_terms.specs.declared.views.RequestView.{RequestView}
use Rattle.sc_hosts.specs.Offers.{pending_offer, prack_by}
use Rattle.sc_hosts.specs.Scripting.{Script, only, reply}
use Rattle.sc_hosts.specs.Words.{does_not_exist}

-- the answer to a PRACK, where the INVITE that it may be for is found or not
unfoldable pub prack_of : View → ReqId → Request → Option ReqId → Script
prack_of view req request None = only (reply req 481 does_not_exist)
prack_of view req request (Some invited) =
    prack_by view invited req request (pending_offer view invited.0)

-- the request of this number, unless it has its final answer
unfoldable pub open_in : Option RequestView → Option ReqId
open_in None = None
open_in (Some request) = if is_some request.answered then None else Some request.id
