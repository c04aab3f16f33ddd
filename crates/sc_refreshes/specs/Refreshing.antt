-- What the calls of session timers tell (RFC 4028 sections 7.2 and 10).
use Rattle.std.specs.Prelude.{ℕ, ◌==◌, ◌&&◌, not, Bool, true, false, Option, None, Some, if◌then◌else◌, option_and_then, slice_get, filter_map}
use Rattle.sc_value.specs.declared.ids.ReqId.{ReqId}
use Rattle.sc_value.specs.declared.ids.SessId.{SessId}
use Rattle.sc_value.specs.declared.ids.TimerId.{TimerId}
use Rattle.sc_terms.specs.declared.views.View.{View}
use Rattle.sc_model.specs.Transactions.{is_success, is_failure}
use Rattle.sc_hosts.specs.Scripting.{attribute}
use Rattle.sc_hosts.specs.SessionTimers.{Named, Timed, named_timed, timed_name, timed_of}
use Rattle.sc_refreshes.specs.declared.refreshing.Fired.{Fired}
use Rattle.sc_refreshes.specs.declared.refreshing.Fired.TheVariants as fired

-- the session timer of a SipSession, where its attribute tells of one
unfoldable pub timer_at : View → SessId → Option Timed
timer_at view sess = option_and_then timed_of (attribute (timed_name sess) view)

-- the session timer whose servlet timer this is, with its SipSession
unfoldable pub fired_of : View → TimerId → Option Named
fired_of view id = slice_get (filter_map (named_timed id) view.attributes) 0

-- the side that refreshes sends an UPDATE, the other side a BYE; it gets the next number
unfoldable pub fired_to : Bool → ReqId → Fired
fired_to true next = fired.Refresh next
fired_to false next = fired.Bye next

-- what is told of a timer that fired
unfoldable pub fired_by : ReqId → Option Named → Fired
fired_by next None = fired.NotMine
fired_by next (Some named) = fired_to named.timed.me next

-- the BYE that follows where an own refresh failed, as the next request
unfoldable pub answered_of : ℕ → ReqId → Timed → Option ReqId
answered_of code next timed =
    if timed.me && timed.timer == 0 && not (is_success code) && is_failure code then Some next
    else None

-- what is told of a refresh that was answered
unfoldable pub answered_by : ℕ → ReqId → Option Timed → Option ReqId
answered_by code next None = None
answered_by code next (Some timed) = answered_of code next timed
