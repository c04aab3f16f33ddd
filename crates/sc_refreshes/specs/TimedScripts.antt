-- The scripts of session timers, by what an application read before its first call (RFC 4028).
use Rattle.std.specs.Prelude.{ℕ, ◌==◌, ◌&&◌, [], not, Bool, true, Option, None, Some, is_some, option_and_then, if◌then◌else◌}
use Rattle.sc_value.specs.declared.ids.SessId.{SessId}
use Rattle.sc_value.specs.declared.ids.TimerId.{TimerId}
use Rattle.sc_terms.specs.declared.views.View.{View}
use Rattle.sc_terms.specs.declared.views.Period.TheVariants.{Once}
use Rattle.sc_terms.specs.declared.calls.Call.TheVariants as calls
use Rattle.sc_model.specs.SessionStates.{bye}
use Rattle.sc_model.specs.Transactions.{is_success, is_failure}
use Rattle.sc_hosts.specs.HelperParts.{send_in}
use Rattle.sc_hosts.specs.Scripting.{Done, Make, Script, attribute, only, with_number}
use Rattle.sc_hosts.specs.SessionTimers.{Granted, Off, On, Timed, Too_small, deadline, timed_name, timed_of, timed_text}
use Rattle.sc_helpers.specs.Leading.{cancel_some, remove_if, timer_named}
use Rattle.sc_refreshes.specs.declared.stopping.Stop.{Stop}

-- the servlet timer of a session timer, where it runs
unfoldable pub timer_of_timed : View → Option Timed → Option TimerId
timer_of_timed view None = None
timer_of_timed view (Some timed) = timer_named view timed.timer

-- what there is to stop in a SipSession
unfoldable pub stop_of : View → SessId → Stop
stop_of view sess = record {
  name = timed_name sess;
  set = is_some (attribute (timed_name sess) view);
  running = timer_of_timed view (option_and_then timed_of (attribute (timed_name sess) view));
}

-- it is stopped, then the script goes on
unfoldable pub script_with_stop : Stop → Script → Script
script_with_stop stop = λ script. cancel_some stop.running (remove_if stop.set stop.name script)

-- a timer of this interval begins
unfoldable pub script_with_timer : SessId → ℕ → Bool → Script
script_with_timer sess n me =
    Make (calls.StartTimer (deadline n me) Once (timed_name sess))
    (with_number (λ t. only (calls.SetAttribute (timed_name sess) (timed_text n me t))))

-- the session timer begins anew, as granted, once the old one is stopped
unfoldable pub begun_by : Stop → SessId → Granted → Script
begun_by stop sess Off = script_with_stop stop Done
begun_by stop sess Too_small = script_with_stop stop Done
begun_by stop sess (On n me) = script_with_stop stop (script_with_timer sess n me)

-- a refresh of the own side was answered: a success begins the timer anew, a failure ends the
-- session by a BYE
unfoldable pub refreshed_by : Stop → SessId → ℕ → Timed → Script
refreshed_by stop sess code timed =
    if not (timed.me && timed.timer == 0) then Done
    else (if is_success code then script_with_stop stop (script_with_timer sess timed.seconds true)
    else
    (if is_failure code then send_in sess bye [] [] (only (calls.RemoveAttribute (timed_name sess)))
    else Done))
