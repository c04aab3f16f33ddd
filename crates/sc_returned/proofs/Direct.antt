-- A session that proxied nothing by a call proxies later requests alone.
use Rattle.std.proofs.Common.{◌≡◌, inl, inr, ℕ, ◌++◌, Bool, true, false, Option, None, Some, List, [], ◌∷◌, refl, sym, subst, arith}
use Rattle.std.specs.Prelude.{◌==◌, ◌&&◌, cond, is_none, is_some}
use Rattle.std.specs.List.{cons_option, filter_map, flat_map}
use Rattle.std.proofs.lemmas.Bool.Decides.{nat_tests}
use Rattle.sc_value.specs.declared.ids.AppId.{AppId}
use Rattle.sc_value.specs.declared.message.Request.{Request}
use Rattle.sc_terms.specs.declared.calls.Call.{Call}
use Rattle.sc_terms.specs.declared.calls.Call.TheVariants as calls
use Rattle.sc_terms.specs.declared.calls.CallAnswer.{CallAnswer}
use Rattle.sc_terms.specs.declared.calls.CallAnswer.TheVariants as answers
use Rattle.sc_terms.specs.declared.calls.CallRecord.{CallRecord}
use Rattle.sc_terms.specs.declared.calls.End.{End}
use Rattle.sc_terms.specs.declared.calls.ProxyOptions.{ProxyOptions}
use Rattle.sc_terms.specs.declared.settings.Config.{Config}
use Rattle.sc_terms.specs.declared.steps.Step.{Step}
use Rattle.sc_terms.specs.declared.steps.Step.TheVariants as steps
use Rattle.sc_parts.specs.declared.setup.Setup.{Setup}
use Rattle.sc_state.specs.declared.net.Net.{Net}
use Rattle.sc_state.specs.declared.proxy.Proxy.{Proxy}
use Rattle.sc_state.specs.declared.queue.Queued.{Queued}
use Rattle.sc_state.specs.declared.queue.Queued.TheVariants as queued
use Rattle.sc_state.specs.declared.session.Session.{Session}
use Rattle.sc_state.specs.declared.working.Play.{Play}
use Rattle.sc_tokens.specs.Bytes.{Bytes}
use Rattle.sc_model.specs.Dialogs.{tag_of}
use Rattle.sc_hosts.specs.Effects.{after_listed}
use Rattle.sc_hosts.specs.Histories.{History, as_session}
use Rattle.sc_hosts.specs.Runs.{after_step}
use Rattle.sc_hosts.specs.Sessions.{Turn}
use Rattle.sc_hosts.specs.Transacting.{is_same_app}
use Rattle.sc_hosts.specs.Scripting.{is_refused}
use Rattle.sc_walked.specs.SessionWalks.{AreDone}
use Rattle.sc_lasting.specs.Lasting.{All, Directly, IsLife}
use Rattle.sc_lasting.proofs.Shared.{all-last}
use Rattle.sc_lived.specs.Lived.{AreAccepted, Told, turns_in as told, told_by, turned_events}
use Rattle.sc_paths.specs.Moments.{Moment, moments_from, options_in, options_of, proxied_with}
use Rattle.sc_proxied.specs.ProxyLists.{ProxyEvent}
use Rattle.sc_proxying.specs.Proxying.{AreOfTurns, BeginsBy, BeginsIn, IsPassed}
use Rattle.sc_keyed.specs.Keyed.{IsIn}
use Rattle.sc_replies.specs.Fields.{Incoming, incoming}
use Rattle.sc_ways.proofs.Directs.{none-first}
use Rattle.sc_returned.proofs.ArrivalHosts.{Arrival, Noted}
use Rattle.sc_returned.proofs.ArrivalNets.{IsAsCome, all-in}

-- ## No call proxied

-- a step tells of no accepted call of the session that proxied
abbrev pub TellsNone : AppId → Step → Type 0
TellsNone app step = options_in app step ≡ []

abbrev pub IsDirectly : CallRecord → Type 0
IsDirectly made = is_refused made.answer ≡ false → Directly made.call

no-cons : {A : Type 0} (a : A) (rest : List A) → cons_option (Some a) rest ≡ [] → ⊥
no-cons a rest is = cc

call-direct : (call : Call) (answer : CallAnswer) (rest : List ProxyOptions) → cons_option (options_of call answer) rest ≡ [] → (is_refused answer ≡ false → Directly call) × (rest ≡ [])
unfolding options_of is_refused Directly
call-direct (calls.ProxyTo req uris how) (answers.Refused refusal) rest is = ((λ no. cc), is)
call-direct (calls.ProxyTo req uris how) answers.Fine rest is = absurd (no-cons how rest is)
call-direct (calls.ProxyTo req uris how) (answers.Number n) rest is = absurd (no-cons how rest is)
call-direct (calls.Respond req answer) given rest is = ((λ no. tt), is)
call-direct (calls.CreateRequest ask) given rest is = ((λ no. tt), is)
call-direct (calls.CreateInDialog sess ask) given rest is = ((λ no. tt), is)
call-direct (calls.B2bCreate req uri) given rest is = ((λ no. tt), is)
call-direct (calls.SetDirective draft directive origin) given rest is = ((λ no. tt), is)
call-direct (calls.Send draft) given rest is = ((λ no. tt), is)
call-direct (calls.Discard draft) given rest is = ((λ no. tt), is)
call-direct (calls.Ack sess body) given rest is = ((λ no. tt), is)
call-direct (calls.Cancel req) given rest is = ((λ no. tt), is)
call-direct (calls.ProxyCancel req) given rest is = ((λ no. tt), is)
call-direct (calls.B2bRespond sess answer) given rest is = ((λ no. tt), is)
call-direct (calls.Link a b) given rest is = ((λ no. tt), is)
call-direct (calls.Unlink a) given rest is = ((λ no. tt), is)
call-direct (calls.StartTimer delay period info) given rest is = ((λ no. tt), is)
call-direct (calls.CancelTimer id) given rest is = ((λ no. tt), is)
call-direct (calls.SetAttribute name value) given rest is = ((λ no. tt), is)
call-direct (calls.RemoveAttribute name) given rest is = ((λ no. tt), is)
call-direct (calls.SetExpires minutes) given rest is = ((λ no. tt), is)
call-direct (calls.SetReadyFlag target flag) given rest is = ((λ no. tt), is)
call-direct (calls.InvalidateSession sess) given rest is = ((λ no. tt), is)
call-direct calls.InvalidateApplication given rest is = ((λ no. tt), is)

made-direct : (made : List CallRecord) → filter_map (λ (one : CallRecord). options_of one.call one.answer) made ≡ [] → All IsDirectly made
unfolding All
made-direct [] is = tt
made-direct (one ∷ made) is =
    let both = call-direct one.call one.answer (filter_map (λ (one : CallRecord). options_of one.call one.answer) made) is in
    (both.0, made-direct made both.1)

chosen : (b : Bool) (xs : List ProxyOptions) → b ≡ true → cond b xs [] ≡ [] → xs ≡ []
chosen true xs right is = is
chosen false xs right is = cc

-- the calls of a turn of the session
pub turn-direct : (app : AppId) (event now : ℕ) (made : List CallRecord) (end : End) → TellsNone app (steps.Turn end app event now made) → All IsDirectly made
unfolding options_in
turn-direct app event now made end none = made-direct made (chosen (is_same_app app app) _ (itself app.host app.serial) none)
  where
    itself : (h s : ℕ) → (h == h && s == s) ≡ true
    itself h s = grind (arith, nat_tests)

same-app : (a b : AppId) → is_same_app b a ≡ true → is_same_app a b ≡ true
same-app a b is = by a.host b.host a.serial b.serial is
  where
    by : (a b c d : ℕ) → (b == a && d == c) ≡ true → (a == b && c == d) ≡ true
    by a b c d is = grind (arith, nat_tests, is)

told-if : (b : Bool) (one : Told) → (b ≡ true → All IsDirectly one.calls) → (rest : List Told) → AreAccepted Directly rest → AreAccepted Directly (cond b (one ∷ []) [] ++ rest)
unfolding All
told-if true one is rest all = (is refl, all)
told-if false one is rest all = all

step-direct : (app : AppId) (step : Step) (rest : List Told) → TellsNone app step → AreAccepted Directly rest → AreAccepted Directly (told_by app step ++ rest)
unfolding told_by options_in
step-direct app (steps.Turn end other event now made) rest none all =
    told-if (is_same_app app other) (record { event = event; now = now; calls = made; end = end })
    (λ is. made-direct made (chosen (is_same_app other app) (filter_map (λ (one : CallRecord). options_of one.call one.answer) made) (same-app other app is) none)) rest all
step-direct app (steps.In from message) rest none all = all
step-direct app (steps.Bad from bad) rest none all = all
step-direct app (steps.Lost place) rest none all = all
step-direct app (steps.Tick now) rest none all = all
step-direct app (steps.Withdraw other) rest none all = all

-- of all that a journal tells
pub told-direct : (app : AppId) (journal : List Step) → All (TellsNone app) journal → AreAccepted Directly (told app journal)
unfolding told All
told-direct app [] none = tt
told-direct app (step ∷ journal) none = step-direct app step (told app journal) none.0 (told-direct app journal none.1)

none-both : {A : Type 0} (xs ys : List A) → xs ++ ys ≡ [] → (xs ≡ []) × (ys ≡ [])
none-both [] ys is = (refl, is)
none-both (x ∷ xs) ys is = cc

none-steps : (app : AppId) (setup : Setup) (journal : List Step) (net : Net Session) → flat_map (λ (moment : Moment). options_in app moment.step) (moments_from setup net journal) ≡ [] → All (TellsNone app) journal
unfolding moments_from All
none-steps app setup [] net is = tt
none-steps app setup (step ∷ journal) net is =
    let both = none-both (options_in app step) (flat_map (λ (moment : Moment). options_in app moment.step) (moments_from setup (after_step as_session setup net step) journal)) is in
    (both.0, none-steps app setup journal (after_step as_session setup net step) both.1)

-- where no call of the session proxied in a run
pub none-proxied : (app : AppId) (setup : Setup) (journal : List Step) (net : Net Session) → proxied_with (moments_from setup net journal) app ≡ None → All (TellsNone app) journal
unfolding proxied_with
none-proxied app setup journal net is = none-steps app setup journal net (none-first (flat_map (λ (moment : Moment). options_in app moment.step) (moments_from setup net journal)) is)

-- ## What is proxied then

begins-none : (first : Proxy) (call : Call) → Directly call → BeginsBy first call → ⊥
unfolding BeginsBy Directly
begins-none first (calls.ProxyTo req uris how) does by = does
begins-none first (calls.Respond req answer) does by = by
begins-none first (calls.CreateRequest ask) does by = by
begins-none first (calls.CreateInDialog sess ask) does by = by
begins-none first (calls.B2bCreate req uri) does by = by
begins-none first (calls.SetDirective draft directive origin) does by = by
begins-none first (calls.Send draft) does by = by
begins-none first (calls.Discard draft) does by = by
begins-none first (calls.Ack sess body) does by = by
begins-none first (calls.Cancel req) does by = by
begins-none first (calls.ProxyCancel req) does by = by
begins-none first (calls.B2bRespond sess answer) does by = by
begins-none first (calls.Link a b) does by = by
begins-none first (calls.Unlink a) does by = by
begins-none first (calls.StartTimer delay period info) does by = by
begins-none first (calls.CancelTimer id) does by = by
begins-none first (calls.SetAttribute name value) does by = by
begins-none first (calls.RemoveAttribute name) does by = by
begins-none first (calls.SetExpires minutes) does by = by
begins-none first (calls.SetReadyFlag target flag) does by = by
begins-none first (calls.InvalidateSession sess) does by = by
begins-none first calls.InvalidateApplication does by = by

in-none : (first : Proxy) (made : List CallRecord) (play : Play) (given : List ProxyEvent) → AreDone Directly play made → BeginsIn first play made given → ⊥
unfolding BeginsIn AreDone
in-none first [] play given done begins = begins
in-none first (one ∷ made) play given done (inl begun) = begins-none first one.call (done.0 begun.0) begun.1
in-none first (one ∷ made) play given done (inr later) = in-none first made (after_listed play one.call) given done.1 later

some-tag : (tag : Option Bytes) → false ≡ is_none tag → is_some tag ≡ true
some-tag None is = cc
some-tag (Some tag) is = refl

passed-tagged : (arrivals : List Arrival) (of : AppId) (number : ℕ) (event : Queued) (first : Proxy) (own : List ProxyEvent) → IsPassed event first own
    → ((came : Incoming) → incoming event ≡ Some came → IsIn (record { number = number; app = of; came = came }) arrivals) → All IsAsCome arrivals → is_some (tag_of first.request.head.to) ≡ true
unfolding IsPassed incoming
passed-tagged arrivals of number (queued.Request request) first own passed noted come =
    let came : Incoming = record { initial = false; request = request } in
    subst (λ (r : Request). is_some (tag_of r.head.to) ≡ true) (sym passed.0)
    (some-tag (tag_of request.head.to) (all-in IsAsCome (record { number = number; app = of; came = came }) arrivals come (noted came refl)))
passed-tagged arrivals of number (queued.Initial region subscriber popped request) first own passed noted come = absurd passed
passed-tagged arrivals of number (queued.Response branch response) first own passed noted come = absurd passed
passed-tagged arrivals of number (queued.Cancelled event) first own passed noted come = absurd passed
passed-tagged arrivals of number (queued.Timer id) first own passed noted come = absurd passed
passed-tagged arrivals of number (queued.BranchTimer branch due) first own passed noted come = absurd passed
passed-tagged arrivals of number queued.Expired first own passed noted come = absurd passed
passed-tagged arrivals of number queued.Ready first own passed noted come = absurd passed

-- it is a later request
pub turns-tagged : (turns : List Turn) (config : Config) (history : History) (first : Proxy) (events : List ProxyEvent) (arrivals : List Arrival) (of : AppId)
    → AreOfTurns config history first turns events → IsLife (λ event. Unit {0}) Directly config history turns → All (Noted arrivals of) (turned_events turns) → All IsAsCome arrivals
    → is_some (tag_of first.request.head.to) ≡ true
unfolding AreOfTurns IsLife turned_events
turns-tagged [] config history first events arrivals of told life noted come = absurd told
turns-tagged (turn ∷ earlier) config history first events arrivals of (inl begun) life noted come = absurd (in-none first turn.calls _ begun.given life.1 begun.of_calls)
turns-tagged (turn ∷ earlier) config history first events arrivals of (inr (inl passed)) life noted come =
    passed-tagged arrivals of turn.waiting.number turn.waiting.event first events passed (all-last (Noted arrivals of) (turned_events earlier) turn.waiting noted).1 come
turns-tagged (turn ∷ earlier) config history first events arrivals of (inr (inr more)) life noted come =
    turns-tagged earlier config history first more.1 arrivals of more.4 life.2 (all-last (Noted arrivals of) (turned_events earlier) turn.waiting noted).0 come
