-- The states of live sessions.
use Rattle.std.proofs.Common.{◌≡◌, ℕ, List, Some, sym, subst}
use Rattle.sc_value.specs.declared.ids.AppId.{AppId}
use Rattle.sc_terms.specs.declared.steps.Step.{Step}
use Rattle.sc_parts.specs.declared.setup.Setup.{Setup}
use Rattle.sc_state.specs.declared.host.Live.{Live}
use Rattle.sc_state.specs.declared.queue.Waiting.{Waiting}
use Rattle.sc_state.specs.declared.session.Session.{Session}
use Rattle.sc_hosts.specs.Histories.{History, as_history, as_session, session_of}
use Rattle.sc_hosts.specs.Runs.{IsLawful, net_from as chained}
use Rattle.sc_hosts.specs.Steps.{live_at}
use Rattle.sc_lived.specs.Lived.{HasLived, Told, turns_in as told}
use Rattle.sc_lived.proofs.Sayings.{session-lived}
use Rattle.sc_answered.specs.Happened.{HaveStates, happened_of}
use Rattle.sc_answered.specs.LiveStates.{HasLivedStates}
use Rattle.sc_answered.proofs.Whole.{histories-stand}

lived-states : (setup : Setup) (app : AppId) (given : List Told) (session : Session) (inbox : List Waiting)
    → HasLived setup app given session inbox → HasLivedStates setup app given session inbox
lived-states setup app given session inbox lived = record {
  lived = lived;
  states = subst (λ (x : Session). HaveStates (happened_of setup.config lived.history) x.view.sessions) (sym lived.is) (histories-stand setup.config lived.history);
}

pub live-history : (setup : Setup) (epoch began : ℕ) (journal : List Step) (app : AppId) (live : Live History)
    → IsLawful (as_history setup.config) setup epoch began journal
    → live_at app (chained (as_history setup.config) setup epoch began journal) ≡ Some live
    → HaveStates (happened_of setup.config live.session) (session_of setup.config live.session).view.sessions
live-history setup epoch began journal app live lawful is = histories-stand setup.config live.session

pub live-session : (setup : Setup) (epoch began : ℕ) (journal : List Step) (app : AppId) (live : Live Session)
    → IsLawful as_session setup epoch began journal → live_at app (chained as_session setup epoch began journal) ≡ Some live
    → HasLivedStates setup app (told app journal) live.session live.inbox
live-session setup epoch began journal app live lawful is =
    lived-states setup app (told app journal) live.session live.inbox (session-lived setup epoch began journal app live lawful is)
