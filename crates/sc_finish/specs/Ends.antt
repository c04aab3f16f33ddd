-- Whether a turn ends its application session, and what is left of it (JSR 289 section 6).
use Rattle.std.specs.Prelude.{List, Bool, ◌||◌, ◌&&◌, if◌then◌else◌}
use Rattle.sc_terms.specs.declared.calls.CallRecord.{CallRecord}
use Rattle.sc_terms.specs.declared.calls.End.{End}
use Rattle.sc_terms.specs.declared.settings.Config.{Config}
use Rattle.sc_state.specs.declared.orders.Outcome.{Outcome}
use Rattle.sc_state.specs.declared.queue.Queued.{Queued}
use Rattle.sc_state.specs.declared.queue.Waiting.{Waiting}
use Rattle.sc_state.specs.declared.session.Session.{Session}
use Rattle.sc_state.specs.declared.working.Prepared.{Prepared}
use Rattle.sc_hosts.specs.Preparing.{has_expired}
use Rattle.sc_hosts.specs.Finishing.{after_all_calls, is_expiry, is_ready, is_ready_event, outcome_of, swept, without_unneeded}
use Rattle.sc_hosts.specs.Working.{worked_all}

-- by a call, by its expiry, or as it is still ready
unfoldable pub ends : Queued → Bool → Session → Bool
ends event ended session =
    ended || (is_expiry event && has_expired session.view)
    || (is_ready_event event && is_ready session && session.view.ready_flag)

-- what is left: of a session that ends nothing is swept
unfoldable pub left_by : Bool → Session → Session
left_by ends session = without_unneeded (if ends then session else swept session)

-- the outcome of a turn that begins with this
unfoldable pub outcome_from : Config → Prepared → Waiting → List CallRecord → End → Outcome
outcome_from config shown waiting made end =
    outcome_of waiting.event
    (after_all_calls config waiting.event shown.req end (worked_all config shown made))
