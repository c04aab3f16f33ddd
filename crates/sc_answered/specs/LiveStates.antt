-- The states of the SipSessions of a live application session (JSR 289 section 6.2.1).
use Rattle.std.specs.Prelude.{List}
use Rattle.sc_value.specs.declared.ids.AppId.{AppId}
use Rattle.sc_parts.specs.declared.setup.Setup.{Setup}
use Rattle.sc_state.specs.declared.queue.Waiting.{Waiting}
use Rattle.sc_state.specs.declared.session.Session.{Session}
use Rattle.sc_lived.specs.Lived.{HasLived, Told}
use Rattle.sc_answered.specs.Happened.{HaveStates, happened_of}

-- the session comes of a history with these turns, and each of its SipSessions has the state of
-- what happened in it there
pub record HasLivedStates (setup : Setup) (app : AppId) (given : List Told) (session : Session)
    (inbox : List Waiting) : Type 0 where
  pub lived : HasLived setup app given session inbox
  pub states : HaveStates (happened_of setup.config lived.history) session.view.sessions
