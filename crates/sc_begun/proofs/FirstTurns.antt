-- No initial request that a live session gives to send has a To tag, nor has the one that began it.
use Rattle.std.proofs.Common.{◌≡◌, ℕ, ◌++◌, Some, List, [], ◌∷◌, refl, subst, sym}
use Rattle.std.specs.Prelude.{slice_get}
use Rattle.sc_value.specs.declared.ids.AppId.{AppId}
use Rattle.sc_value.specs.declared.message.Request.{Request}
use Rattle.sc_terms.specs.declared.calls.CallRecord.{CallRecord}
use Rattle.sc_terms.specs.declared.calls.End.{End}
use Rattle.sc_terms.specs.declared.settings.Config.{Config}
use Rattle.sc_terms.specs.declared.steps.Step.{Step}
use Rattle.sc_parts.specs.declared.setup.Setup.{Setup}
use Rattle.sc_state.specs.declared.host.Live.{Live}
use Rattle.sc_state.specs.declared.net.Note.{Note}
use Rattle.sc_state.specs.declared.queue.Waiting.{Waiting}
use Rattle.sc_state.specs.declared.session.Session.{Session}
use Rattle.sc_state.specs.declared.working.Prepared.{Prepared}
use Rattle.sc_state.specs.declared.working.Working.{Working}
use Rattle.sc_forms.proofs.HistoryLaws.{lawful_back-histories}
use Rattle.sc_hosts.specs.Acting.{drafts_ended, after_fault as faulted}
use Rattle.sc_hosts.specs.Finishing.{after_all_calls as finished, outcome, outcome_of}
use Rattle.sc_hosts.specs.Histories.{History, as_history, as_session, begun_history, session_of, turned_history}
use Rattle.sc_hosts.specs.Nets.{host_at}
use Rattle.sc_hosts.specs.Preparing.{prepared_session as prepared}
use Rattle.sc_hosts.specs.Runs.{IsLawful, net_from as chained}
use Rattle.sc_hosts.specs.Sessions.{Turn}
use Rattle.sc_hosts.specs.Steps.{live_at, outcome_by, ringing_at, turn_of}
use Rattle.sc_hosts.specs.Working.{worked_all}
use Rattle.sc_walked.proofs.WalkCalls.{session_at, worked_all-walks}
use Rattle.sc_walked.proofs.WalkEnds.{done-any, drafts_ended-goes, faulted-goes}
use Rattle.sc_walked.proofs.WalkShown.{prepared-walks}
use Rattle.sc_lasting.specs.Lasting.{All, IsOf}
use Rattle.sc_lived.specs.Lived.{AreLate, AreOfOne, IsLived, turns_in as told, turned_events}
use Rattle.sc_lived.proofs.Accepted.{one-life, begins-of, late-of}
use Rattle.sc_lived.proofs.Sayings.{has-lived, read-at}
use Rattle.sc_hops.specs.Hops.{IsUntagged}
use Rattle.sc_begun.specs.Begun.{IsFirst}
use Rattle.sc_begun.proofs.FirstGiven.{all_act-first, before-first, passes_later-first, prepared-first, worked_all-first}
use Rattle.sc_begun.proofs.FirstProxies.{AreProper, lives-proper, proper-law}
use Rattle.sc_begun.proofs.FirstSessions.{live-good}

-- ## One turn

turn-first : (config : Config) (ringing : List ℕ) (session : Session) (waiting : Waiting) (now : ℕ) (made : List CallRecord) (end : End) (began : Request) → IsFirst began → IsOf began waiting.event → AreProper began session
    → All IsUntagged (outcome config ringing session waiting now made end).orders
unfolding outcome outcome_of finished prepared
turn-first config ringing session waiting now made end began first of ok =
    let shown : Prepared = prepared config ringing session waiting now in
    let working : Working = worked_all config shown made in
    let ready : Working = faulted config shown.req end (drafts_ended working) in
    let law = proper-law began waiting.event of in
    let one : AreProper began session → AreProper began (session_at working) = worked_all-walks waiting.event (λ call. Unit {0}) (λ x y. AreProper began x → AreProper began y) law config session shown made (done-any made (λ call. Unit {0}) (λ call. tt) _)
    (prepared-walks waiting.event (λ call. Unit {0}) (λ x y. AreProper began x → AreProper began y) law config ringing session waiting now refl) in
    let two = drafts_ended-goes waiting.event (λ call. Unit {0}) (λ x y. AreProper began x → AreProper began y) law working in
    let three : AreProper began (session_at (drafts_ended working)) → AreProper began (session_at ready) = faulted-goes waiting.event (λ call. Unit {0}) (λ x y. AreProper began x → AreProper began y) law config shown.req end (drafts_ended working) in
    let firsts = worked_all-first config shown made (prepared-first config ringing (record session { view = record session.view { now = now } }) waiting.number waiting.event) in
    passes_later-first config waiting.event shown.req _
    (all_act-first config began ready first (three (two (one ok))).proper.1 (before-first config shown.req end working firsts))

-- ## The event of a turn

late-there : (began : Request) (earlier : List Waiting) (waiting : Waiting) (rest : List Waiting) → AreLate (earlier ++ waiting ∷ rest) → IsOf began waiting.event
unfolding AreLate
late-there began [] waiting rest late = late-of began waiting.event late.0
late-there began (w ∷ earlier) waiting rest late = late-there began earlier waiting rest late.1

event-of : (began : Request) (earlier : List Waiting) (waiting : Waiting) (rest : List Waiting) → AreOfOne began (earlier ++ waiting ∷ rest) → IsOf began waiting.event
unfolding AreOfOne
event-of began [] waiting rest one = begins-of began waiting.event one.0
event-of began (w ∷ earlier) waiting rest one = late-there began earlier waiting rest one.1

first-there : (began : Request) (earlier inbox : List Waiting) (waiting : Waiting) → slice_get inbox 0 ≡ Some waiting → AreOfOne began (earlier ++ inbox) → IsOf began waiting.event
first-there began earlier [] waiting at one = cc
first-there began earlier (w ∷ inbox) waiting at one = subst (λ (x : Waiting). IsOf began x.event) (some-is w waiting at) (event-of began earlier w inbox one)
  where
    some-is : (x y : Waiting) → Some x ≡ Some y → x ≡ y
    some-is x y is = cc

-- ## A live session

begins-opened : (setup : Setup) (config : Config) (app : AppId) (epoch now : ℕ) (noted : Note) (request : Request) → IsFirst request → IsFirst ((as_history setup.config).begin config app epoch now noted request).request
unfolding as_history begun_history
begins-opened setup config app epoch now noted request first = first

turned-opened : (setup : Setup) (config : Config) (turn : Turn) (history : History) → IsFirst history.request → IsFirst ((as_history setup.config).turned config turn history).request
unfolding as_history turned_history
turned-opened setup config turn history first = first

-- the request that began it
pub began-first : (setup : Setup) (epoch began : ℕ) (journal : List Step) (app : AppId) (live : Live History) → live_at app (chained (as_history setup.config) setup epoch began journal) ≡ Some live → IsFirst live.session.request
began-first setup epoch began journal app live is =
    live-good (λ (history : History). IsFirst history.request) (as_history setup.config) (begins-opened setup) (turned-opened setup) setup epoch began journal app live is

-- what it gives to send in a turn, whatever its application does
history-first : (setup : Setup) (epoch began : ℕ) (journal : List Step) (app : AppId) (live : Live History) (waiting : Waiting) (ringing : List ℕ) (now : ℕ) (made : List CallRecord) (end : End)
    → IsLawful (as_history setup.config) setup epoch began journal → live_at app (chained (as_history setup.config) setup epoch began journal) ≡ Some live → slice_get live.inbox 0 ≡ Some waiting
    → All IsUntagged (outcome setup.config ringing (session_of setup.config live.session) waiting now made end).orders
unfolding session_of
history-first setup epoch began journal app live waiting ringing now made end lawful is at =
    let history : History = live.session in
    let lived : IsLived setup app (told app journal) history live.inbox = has-lived setup epoch began journal app live lawful is in
    let proper : AreProper history.request (session_of setup.config history) = lives-proper setup.config history history.turns (one-life setup.config history live.inbox lived.events_are) in
    let of : IsOf history.request waiting.event = first-there history.request (turned_events history.turns) live.inbox waiting at lived.events_are in
    turn-first setup.config ringing (session_of setup.config history) waiting now made end history.request (began-first setup epoch began journal app live is) of proper

pub given-first : (setup : Setup) (epoch began : ℕ) (journal : List Step) (app : AppId) (live : Live Session) (waiting : Waiting) (ringing : List ℕ) (now : ℕ) (made : List CallRecord) (end : End)
    → IsLawful as_session setup epoch began journal → live_at app (chained as_session setup epoch began journal) ≡ Some live → slice_get live.inbox 0 ≡ Some waiting
    → All IsUntagged (outcome setup.config ringing live.session waiting now made end).orders
given-first setup epoch began journal app live waiting ringing now made end lawful is at =
    let read = read-at setup epoch began journal app live is in
    subst (λ (session : Session). All IsUntagged (outcome setup.config ringing session waiting now made end).orders) (sym read.session_is)
    (history-first setup epoch began journal app read.old waiting ringing now made end (lawful_back-histories setup epoch began journal lawful) read.found_is
    (subst (λ (inbox : List Waiting). slice_get inbox 0 ≡ Some waiting) read.inbox_is at))

pub session-turns : (setup : Setup) (epoch began : ℕ) (journal : List Step) (app : AppId) (live : Live Session) (waiting : Waiting) (now : ℕ) (made : List CallRecord) (end : End)
    → IsLawful as_session setup epoch began journal → live_at app (chained as_session setup epoch began journal) ≡ Some live → slice_get live.inbox 0 ≡ Some waiting
    → All IsUntagged (outcome_by as_session setup.config live.session (turn_of (chained as_session setup epoch began journal) app waiting now made end)).orders
unfolding outcome_by as_session turn_of
session-turns setup epoch began journal app live waiting now made end lawful is at =
    given-first setup epoch began journal app live waiting (ringing_at app (host_at app.host (chained as_session setup epoch began journal))) now made end lawful is at

pub history-turns : (setup : Setup) (epoch began : ℕ) (journal : List Step) (app : AppId) (live : Live History) (waiting : Waiting) (now : ℕ) (made : List CallRecord) (end : End)
    → IsLawful (as_history setup.config) setup epoch began journal → live_at app (chained (as_history setup.config) setup epoch began journal) ≡ Some live → slice_get live.inbox 0 ≡ Some waiting
    → All IsUntagged (outcome_by (as_history setup.config) setup.config live.session (turn_of (chained (as_history setup.config) setup epoch began journal) app waiting now made end)).orders
unfolding outcome_by as_history turn_of
history-turns setup epoch began journal app live waiting now made end lawful is at =
    history-first setup epoch began journal app live waiting (ringing_at app (host_at app.host (chained (as_history setup.config) setup epoch began journal))) now made end lawful is at
