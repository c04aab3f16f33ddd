-- What holds of a history and more turns of it holds of a live session and what it is later.
use Rattle.std.proofs.Common.{◌≡◌, ℕ, ◌++◌, Some, List, sym, ap, subst, ◌∙◌}
use Rattle.sc_value.specs.declared.ids.AppId.{AppId}
use Rattle.sc_terms.specs.declared.calls.Call.{Call}
use Rattle.sc_terms.specs.declared.steps.Step.{Step}
use Rattle.sc_parts.specs.declared.setup.Setup.{Setup}
use Rattle.sc_state.specs.declared.host.Live.{Live}
use Rattle.sc_state.specs.declared.queue.Waiting.{Waiting}
use Rattle.sc_state.specs.declared.session.Session.{Session}
use Rattle.sc_hosts.specs.Histories.{History, as_history, as_session, session_after, session_of}
use Rattle.sc_hosts.specs.Runs.{IsLawful, net_from as chained}
use Rattle.sc_hosts.specs.Sessions.{Turn}
use Rattle.sc_hosts.specs.Steps.{live_at}
use Rattle.sc_forms.proofs.HistoryLaws.{lawful_back-histories}
use Rattle.sc_lasting.specs.Lasting.{All, IsLife, IsSince, Proxies}
use Rattle.sc_lasting.proofs.Began.{proxies-began}
use Rattle.sc_lived.specs.Lived.{AreAccepted, AreTaken, HasLived, IsLived, IsMoreOf, Told, turns_in as told}
use Rattle.sc_lived.proofs.Accepted.{life-done, one-life, read-after, since-done}
use Rattle.sc_lived.proofs.Sayings.{goes-on, has-lived, read-at, same-taken}

module _ (setup : Setup) (app : AppId) (Does : Call → Type 0) where
  -- ## Of one moment and a later one

  more-relates : (R : Session → Session → Type 0)
      → ((history : History) (later earlier : List Turn) → IsSince (λ event. Unit {0}) Does setup.config history earlier later → R (session_after setup.config history earlier) (session_after setup.config history (later ++ earlier)))
      → (first history : History) (given : List Told) → IsMoreOf first given history
      → AreTaken setup app history history.turns → AreAccepted Does given
      → R (session_of setup.config first) (session_of setup.config history)
  unfolding session_of
  more-relates R relates first history given more taken each =
      let top : History = record first { turns = more.turns ++ first.turns } in
      let all : AreTaken setup app first (more.turns ++ first.turns) = same-taken setup app top first.turns (more.turns ++ first.turns) (subst (λ (h : History). AreTaken setup app h h.turns) more.is taken) in
      subst (λ (later : Session). R (session_after setup.config first first.turns) later) (sym (ap (session_of setup.config) more.is ∙ read-after setup.config first (more.turns ++ first.turns)))
      (relates first more.turns first.turns (since-done setup app Does first first.turns more.turns all (subst (AreAccepted Does) (sym more.turns_are) each)))

  pub histories-relate : (R : Session → Session → Type 0)
      → ((history : History) (later earlier : List Turn) → IsSince (λ event. Unit {0}) Does setup.config history earlier later → R (session_after setup.config history earlier) (session_after setup.config history (later ++ earlier)))
      → (epoch began : ℕ) (before later : List Step) (first live : Live History)
      → IsLawful (as_history setup.config) setup epoch began (before ++ later)
      → live_at app (chained (as_history setup.config) setup epoch began before) ≡ Some first
      → live_at app (chained (as_history setup.config) setup epoch began (before ++ later)) ≡ Some live
      → AreAccepted Does (told app later)
      → R (session_of setup.config first.session) (session_of setup.config live.session)
  histories-relate R relates epoch began before later first live lawful was is each =
      more-relates R relates first.session live.session (told app later) (goes-on setup epoch began before later app first live lawful was is) (has-lived setup epoch began (before ++ later) app live lawful is).taken each

  pub sessions-relate : (R : Session → Session → Type 0)
      → ((history : History) (later earlier : List Turn) → IsSince (λ event. Unit {0}) Does setup.config history earlier later → R (session_after setup.config history earlier) (session_after setup.config history (later ++ earlier)))
      → (epoch began : ℕ) (before later : List Step) (first live : Live Session)
      → IsLawful as_session setup epoch began (before ++ later)
      → live_at app (chained as_session setup epoch began before) ≡ Some first
      → live_at app (chained as_session setup epoch began (before ++ later)) ≡ Some live
      → AreAccepted Does (told app later) → R first.session live.session
  sessions-relate R relates epoch began before later first live lawful was is each =
      let read = read-at setup epoch began before app first was in
      let then = read-at setup epoch began (before ++ later) app live is in
      let holds = histories-relate R relates epoch began before later read.old then.old (lawful_back-histories setup epoch began (before ++ later) lawful) read.found_is then.found_is each in
      subst (λ (x : Session). R x live.session) (sym read.session_is) (subst (λ (y : Session). R (session_of setup.config read.old.session) y) (sym then.session_is) holds)

  -- ## Of one moment

  pub history-holds : (P : Session → Type 0)
      → ((history : History) (turns : List Turn) → IsLife (λ event. Unit {0}) Does setup.config history turns → P (session_after setup.config history turns))
      → (epoch began : ℕ) (journal : List Step) (live : Live History)
      → IsLawful (as_history setup.config) setup epoch began journal
      → live_at app (chained (as_history setup.config) setup epoch began journal) ≡ Some live
      → AreAccepted Does (told app journal) → P (session_of setup.config live.session)
  unfolding session_of
  history-holds P holds epoch began journal live lawful is each =
      let lived = has-lived setup epoch began journal app live lawful is in
      holds live.session live.session.turns (life-done setup app Does live.session live.session.turns lived.taken (subst (AreAccepted Does) (sym lived.turns_are) each))

  pub session-holds : (P : Session → Type 0)
      → ((history : History) (turns : List Turn) → IsLife (λ event. Unit {0}) Does setup.config history turns → P (session_after setup.config history turns))
      → (epoch began : ℕ) (journal : List Step) (live : Live Session) → IsLawful as_session setup epoch began journal
      → live_at app (chained as_session setup epoch began journal) ≡ Some live → AreAccepted Does (told app journal)
      → P live.session
  session-holds P holds epoch began journal live lawful is each =
      let read = read-at setup epoch began journal app live is in
      subst P (sym read.session_is) (history-holds P holds epoch began journal read.old (lawful_back-histories setup epoch began journal lawful) read.found_is each)

-- ## What was proxied is what began

pub lived-proxies : (setup : Setup) (app : AppId) (given : List Told) (history : History) (inbox : List Waiting)
    → IsLived setup app given history inbox
    → All (Proxies history.request) (session_of setup.config history).known.proxies
unfolding session_of
lived-proxies setup app given history inbox lived = proxies-began setup.config history history.turns (one-life setup.config history inbox lived.events_are)

pub session-proxies : (setup : Setup) (app : AppId) (given : List Told) (session : Session) (inbox : List Waiting) → (has : HasLived setup app given session inbox)
    → All (Proxies has.history.request) session.known.proxies
session-proxies setup app given session inbox has =
    subst (λ (s : Session). All (Proxies has.history.request) s.known.proxies) (sym has.is) (lived-proxies setup app given has.history inbox has.lived)
