-- What a later request that goes no further makes of the states of SipSessions, and what goes away.
use Rattle.std.proofs.Common.{Option, None, Some, List, [], ◌∷◌}
use Rattle.std.specs.Prelude.{◌==◌, ◌&&◌, ◌||◌, cond, not, option_and_then}
use Rattle.std.specs.List.{fold}
use Rattle.sc_value.specs.declared.ids.ReqId.{ReqId}
use Rattle.sc_terms.specs.declared.settings.Config.{Config}
use Rattle.sc_terms.specs.declared.views.RequestView.{RequestView}
use Rattle.sc_terms.specs.declared.views.SessionView.{SessionView}
use Rattle.sc_terms.specs.declared.views.View.{View}
use Rattle.sc_state.specs.declared.queue.Queued.{Queued}
use Rattle.sc_state.specs.declared.session.Kept.{Kept}
use Rattle.sc_state.specs.declared.session.Known.{Known}
use Rattle.sc_state.specs.declared.session.Session.{Session}
use Rattle.sc_state.specs.declared.working.Working.{Working}
use Rattle.sc_hosts.specs.Acting.{hops_spent, in_view, is_request_event, passed_later, passed_on, passed_request_of, passes_later}
use Rattle.sc_hosts.specs.Finishing.{is_ended, is_session_ready, without_unneeded as lightened, outcome_of, session_in_play, swept, swept_one, without_acks}
use Rattle.sc_hosts.specs.Giving.{answering}
use Rattle.sc_hosts.specs.Looking.{without_sip_session as removed, request_in}
use Rattle.sc_hosts.specs.Messages.{bare_answer}
use Rattle.sc_hosts.specs.Preparing.{kept_of}
use Rattle.sc_hosts.specs.PreparingResponses.{is_invalid}
use Rattle.sc_hosts.specs.ViewChanges.{view_with_answer as answered, is_owed, tidy}
use Rattle.sc_hosts.specs.Words.{too_many_hops}
use Rattle.sc_answered.specs.Happened.{answer_to, by_stop as stopped, stopped_at, stopped_of}
use Rattle.sc_answered.proofs.Standing.{Comes, comes-next, comes-same, if-comes, if-still}
use Rattle.sc_answered.proofs.Shown.{comes-answer, kept}
use Rattle.sc_answered.proofs.Called.{comes-removed}
use Rattle.sc_answered.proofs.Forwarded.{Goes, sessions_at, sessions_in, views_of}

-- ## A later request that is passed on

spent-comes : (config : Config) (request : RequestView) (working : Working)
    → Goes (cond (is_owed request) (answer_to working.play.view (Some request) 483) []) working (hops_spent config request working)
unfolding hops_spent
spent-comes config request working =
    if-comes sessions_at (is_owed request) working.play.view.sessions (answer_to working.play.view (Some request) 483) []
    (in_view (answered (Some request) 483 working.play.view) (answering config (Some request) (bare_answer 483 too_many_hops) working)) working
    (comes-answer working.play.view (Some request) 483) (comes-same working.play.view.sessions)

on-comes : (config : Config) (kept : Kept) (working : Working) → Goes [] working (passed_on config kept working)
unfolding passed_on
on-comes config kept working = comes-same working.play.view.sessions

later-comes : (config : Config) (request : RequestView) (kept : Option Kept) (working : Working)
    → Goes (stopped_at working request kept) working (passed_later config request kept working)
unfolding stopped_at passed_later
later-comes config request None working = comes-same working.play.view.sessions
later-comes config request (Some kept) working =
    if-comes sessions_at (request.initial || not request.proxied || is_invalid working.known request.sess) working.play.view.sessions []
    (cond (request.hops == 0) (cond (is_owed request) (answer_to working.play.view (Some request) 483) []) []) working
    (cond (request.hops == 0) (hops_spent config request working) (passed_on config kept working)) (comes-same working.play.view.sessions)
    (if-comes sessions_at (request.hops == 0) working.play.view.sessions (cond (is_owed request) (answer_to working.play.view (Some request) 483) []) []
    (hops_spent config request working) (passed_on config kept working) (spent-comes config request working) (on-comes config kept working))

stopped-of-comes : (config : Config) (request : Option RequestView) (working : Working)
    → Goes (stopped_of working request) working (passed_request_of config request working)
unfolding stopped_of passed_request_of
stopped-of-comes config None working = comes-same working.play.view.sessions
stopped-of-comes config (Some request) working = later-comes config request (kept_of working.known request.id) working

pub stopped-comes : (config : Config) (event : Queued) (req : Option ReqId) (working : Working)
    → Goes (stopped event req working) working (passes_later config event req working)
unfolding stopped passes_later
stopped-comes config event req working =
    if-comes sessions_at (is_request_event event) working.play.view.sessions (stopped_of working (option_and_then (request_in working.play.view) req)) []
    (passed_request_of config (option_and_then (request_in working.play.view) req) working) working (stopped-of-comes config (option_and_then (request_in working.play.view) req) working) (comes-same working.play.view.sessions)

-- ## What goes away

swept-comes : (sessions : List SessionView) (known : Known) (before view : View) → Comes [] view.sessions (fold (swept_one known before) view sessions).sessions
unfolding swept_one
swept-comes [] known before view = comes-same view.sessions
swept-comes (s ∷ sessions) known before view =
    let next : View = swept_one known before view s in
    comes-next [] view.sessions next.sessions (fold (swept_one known before) next sessions).sessions
    (if-still views_of (s.ready_flag && not s.gone && is_session_ready known before s) view.sessions (removed s.id view) view (comes-removed s.id view) (comes-same view.sessions))
    (swept-comes sessions known before next)

pub outcome-comes : (event : Queued) (working : Working) → Comes [] working.play.view.sessions (outcome_of event working).session.view.sessions
unfolding outcome_of lightened swept session_in_play without_acks tidy
outcome-comes event working =
    let x : Session = session_in_play working in
    if-still sessions_in (is_ended event working) working.play.view.sessions x (swept x) (comes-same working.play.view.sessions) (swept-comes x.view.sessions x.known x.view x.view)
