-- A whole history, turn by turn.
use Rattle.std.proofs.Common.{◌++◌, Option, List, [], ◌∷◌, refl, sym}
use Rattle.sc_value.specs.declared.ids.ReqId.{ReqId}
use Rattle.sc_terms.specs.declared.calls.End.{End}
use Rattle.sc_terms.specs.declared.settings.Config.{Config}
use Rattle.sc_state.specs.declared.queue.Queued.{Queued}
use Rattle.sc_state.specs.declared.session.Session.{Session}
use Rattle.sc_state.specs.declared.working.Prepared.{Prepared}
use Rattle.sc_state.specs.declared.working.Working.{Working}
use Rattle.sc_hosts.specs.Acting.{all_act, drafts_ended, after_fault as faulted, passes_later}
use Rattle.sc_hosts.specs.Effects.{first_play as begun}
use Rattle.sc_hosts.specs.Finishing.{after_all_calls as finished, outcome, outcome_of}
use Rattle.sc_hosts.specs.Histories.{History, after_turn, session_after, session_of}
use Rattle.sc_hosts.specs.Legs.{first_session, first_view, fresh}
use Rattle.sc_hosts.specs.Preparing.{prepared_session as prepared}
use Rattle.sc_hosts.specs.Sessions.{Turn}
use Rattle.sc_hosts.specs.Working.{worked_all}
use Rattle.sc_answered.specs.Happened.{called_by, ended_by, shown_by, HaveStates, all_acted, at_moment, by_turn_end as failed, by_calls as given, happened_in, by_event as heard, by_stop as stopped, happened_after, happened_by, happened_of}
use Rattle.sc_answered.proofs.Standing.{Comes, Stand, comes-next, comes-still, comes-then, new-state, states-of}
use Rattle.sc_answered.proofs.Shown.{shown-comes}
use Rattle.sc_answered.proofs.Called.{worked-comes}
use Rattle.sc_answered.proofs.Forwarded.{drafts-come, failed-comes}
use Rattle.sc_answered.proofs.AllActed.{all-come}
use Rattle.sc_answered.proofs.Ended.{outcome-comes, stopped-comes}

ended-comes : (config : Config) (event : Queued) (req : Option ReqId) (working : Working)
    → Comes (ended_by config event req working) working.play.view.sessions (outcome_of event (passes_later config event req (all_act config working))).session.view.sessions
unfolding ended_by
ended-comes config event req working =
    comes-still (stopped event req (all_act config working) ++ all_acted config working.known.proxies working) working.play.view.sessions
    (passes_later config event req (all_act config working)).play.view.sessions (outcome_of event (passes_later config event req (all_act config working))).session.view.sessions
    (comes-then (all_acted config working.known.proxies working) (stopped event req (all_act config working)) working.play.view.sessions (all_act config working).play.view.sessions
    (passes_later config event req (all_act config working)).play.view.sessions (all-come config working) (stopped-comes config event req (all_act config working)))
    (outcome-comes event (passes_later config event req (all_act config working)))

called-comes : (config : Config) (event : Queued) (req : Option ReqId) (end : End) (working : Working)
    → Comes (called_by config event req end working) working.play.view.sessions (outcome_of event (passes_later config event req (all_act config (faulted config req end working)))).session.view.sessions
unfolding called_by
called-comes config event req end working =
    comes-then (failed req end working.play.view) (ended_by config event req (faulted config req end working)) working.play.view.sessions (faulted config req end working).play.view.sessions
    (outcome_of event (passes_later config event req (all_act config (faulted config req end working)))).session.view.sessions
    (failed-comes config req end working) (ended-comes config event req (faulted config req end working))

calls-come : (config : Config) (event : Queued) (req : Option ReqId) (end : End) (working : Working)
    → Comes (called_by config event req end (drafts_ended working)) working.play.view.sessions (outcome_of event (finished config event req end working)).session.view.sessions
unfolding finished
calls-come config event req end working =
    comes-next (called_by config event req end (drafts_ended working)) working.play.view.sessions (drafts_ended working).play.view.sessions
    (outcome_of event (passes_later config event req (all_act config (faulted config req end (drafts_ended working))))).session.view.sessions
    (drafts-come working) (called-comes config event req end (drafts_ended working))

after-shown : (config : Config) (turn : Turn) (shown : Prepared)
    → Comes (shown_by config turn shown) shown.view.sessions (outcome_of turn.waiting.event (finished config turn.waiting.event shown.req turn.end (worked_all config shown turn.calls))).session.view.sessions
unfolding shown_by
after-shown config turn shown =
    comes-then (given (begun shown.view) turn.calls) (called_by config turn.waiting.event shown.req turn.end (drafts_ended (worked_all config shown turn.calls))) shown.view.sessions
    (worked_all config shown turn.calls).play.view.sessions
    (outcome_of turn.waiting.event (finished config turn.waiting.event shown.req turn.end (worked_all config shown turn.calls))).session.view.sessions
    (worked-comes config shown turn.calls) (calls-come config turn.waiting.event shown.req turn.end (worked_all config shown turn.calls))

turn-comes : (config : Config) (x : Session) (turn : Turn) → Comes (happened_by config x turn) x.view.sessions (after_turn config turn x).view.sessions
unfolding happened_by after_turn outcome
turn-comes config x turn =
    comes-then (heard (at_moment turn.now x) turn.waiting.number turn.waiting.event) (shown_by config turn (prepared config turn.ringing x turn.waiting turn.now)) x.view.sessions
    (prepared config turn.ringing x turn.waiting turn.now).view.sessions _ (shown-comes config turn.ringing x turn.waiting turn.now) (after-shown config turn (prepared config turn.ringing x turn.waiting turn.now))

turns-stand : (turns : List Turn) (config : Config) (history : History) → Stand (happened_after config history turns) 1 (session_after config history turns).view.sessions
unfolding happened_after session_after Stand fresh first_view first_session happened_in
turns-stand [] config history = (refl, sym new-state, λ k more. refl)
turns-stand (turn ∷ earlier) config history =
    turn-comes config (session_after config history earlier) turn (happened_after config history earlier) (turns-stand earlier config history)

-- each SipSession has the state of what the history tells
pub histories-stand : (config : Config) (history : History) → HaveStates (happened_of config history) (session_of config history).view.sessions
unfolding session_of
histories-stand config history = states-of (session_of config history).view.sessions (happened_of config history) (turns-stand history.turns config history)
