-- A session that proxied nothing takes no request in the SipSession of a proxy.
use Rattle.std.proofs.Common.{◌≡◌, ℕ, ◌++◌, Bool, true, false, Option, None, Some, List, [], ◌∷◌, refl, sym, ap, subst, ◌∙◌, append_assoc}
use Rattle.std.specs.Prelude.{◌==◌, ◌&&◌, cond, slice_get}
use Rattle.std.specs.List.{cons_option, filter_map, flat_map}
use Rattle.std.proofs.Common.{arith}
use Rattle.std.proofs.lemmas.Bool.Decides.{nat_tests}
use Rattle.sc_value.specs.declared.ids.AppId.{AppId}
use Rattle.sc_terms.specs.declared.calls.Call.{Call}
use Rattle.sc_terms.specs.declared.calls.Call.TheVariants as calls
use Rattle.sc_terms.specs.declared.calls.CallAnswer.{CallAnswer}
use Rattle.sc_terms.specs.declared.calls.CallAnswer.TheVariants as answers
use Rattle.sc_terms.specs.declared.calls.CallRecord.{CallRecord}
use Rattle.sc_terms.specs.declared.calls.End.{End}
use Rattle.sc_terms.specs.declared.calls.ProxyOptions.{ProxyOptions}
use Rattle.sc_terms.specs.declared.steps.Step.{Step}
use Rattle.sc_terms.specs.declared.steps.Step.TheVariants as steps
use Rattle.sc_parts.specs.declared.setup.Setup.{Setup}
use Rattle.sc_state.specs.declared.host.Live.{Live}
use Rattle.sc_state.specs.declared.net.Net.{Net}
use Rattle.sc_state.specs.declared.session.Session.{Session}
use Rattle.sc_tokens.specs.Bytes.{Bytes}
use Rattle.sc_hosts.specs.Histories.{as_session}
use Rattle.sc_hosts.specs.Looking.{is_session}
use Rattle.sc_hosts.specs.Runs.{after_step}
use Rattle.sc_hosts.specs.Steps.{live_at}
use Rattle.sc_hosts.specs.Transacting.{is_same_app}
use Rattle.sc_hosts.specs.Scripting.{is_refused}
use Rattle.sc_lasting.specs.Lasting.{All, AreDirect, Directly, IsDirect}
use Rattle.sc_lasting.proofs.Parts.{all-both, all-found}
use Rattle.sc_lasting.proofs.Shared.{all-front}
use Rattle.sc_lived.specs.Lived.{AreAccepted, Told, turns_in as told, told_by}
use Rattle.sc_paths.specs.Moments.{Moment, moments_from, options_in, options_of, proxied_with}
use Rattle.sc_ways.specs.Ways.{TakesNoProxy}

clash : (b : Bool) → b ≡ true → b ≡ false → ⊥
clash b p q = cc

one-direct : (call : Call) (answer : CallAnswer) → options_of call answer ≡ None → is_refused answer ≡ false → Directly call
unfolding options_of is_refused Directly
one-direct (calls.ProxyTo req uris how) answers.Fine none accepted = cc
one-direct (calls.ProxyTo req uris how) (answers.Number n) none accepted = cc
one-direct (calls.ProxyTo req uris how) (answers.Refused refusal) none accepted = cc
one-direct (calls.Respond req answer) given none accepted = tt
one-direct (calls.CreateRequest ask) given none accepted = tt
one-direct (calls.CreateInDialog sess ask) given none accepted = tt
one-direct (calls.B2bCreate req uri) given none accepted = tt
one-direct (calls.SetDirective draft directive origin) given none accepted = tt
one-direct (calls.Send draft) given none accepted = tt
one-direct (calls.Discard draft) given none accepted = tt
one-direct (calls.Ack sess body) given none accepted = tt
one-direct (calls.Cancel req) given none accepted = tt
one-direct (calls.ProxyCancel req) given none accepted = tt
one-direct (calls.B2bRespond sess answer) given none accepted = tt
one-direct (calls.Link a b) given none accepted = tt
one-direct (calls.Unlink a) given none accepted = tt
one-direct (calls.StartTimer delay period info) given none accepted = tt
one-direct (calls.CancelTimer id) given none accepted = tt
one-direct (calls.SetAttribute name value) given none accepted = tt
one-direct (calls.RemoveAttribute name) given none accepted = tt
one-direct (calls.SetExpires minutes) given none accepted = tt
one-direct (calls.SetReadyFlag target flag) given none accepted = tt
one-direct (calls.InvalidateSession sess) given none accepted = tt
one-direct calls.InvalidateApplication given none accepted = tt

-- ## Of a turn, and of a run

abbrev IsDirectCall : CallRecord → Type 0
IsDirectCall made = is_refused made.answer ≡ false → Directly made.call

none-then : (found : Option ProxyOptions) (rest : List ProxyOptions) → cons_option found rest ≡ [] → (found ≡ None) × (rest ≡ [])
none-then None rest is = (refl, is)
none-then (Some how) rest is = cc

calls-direct : (made : List CallRecord) → filter_map (λ (m : CallRecord). options_of m.call m.answer) made ≡ [] → All IsDirectCall made
unfolding All
calls-direct [] none = tt
calls-direct (m ∷ made) none =
    let both = none-then (options_of m.call m.answer) (filter_map (λ (m : CallRecord). options_of m.call m.answer) made) none in
    ((λ accepted. one-direct m.call m.answer both.0 accepted), calls-direct made both.1)

pub flipped : (a b : AppId) → is_same_app a b ≡ is_same_app b a
flipped a b = by a.host b.host a.serial b.serial
  where
    by : (a b c d : ℕ) → (a == b && c == d) ≡ (b == a && d == c)
    by a b c d = grind (arith, nat_tests)

turn-direct : (b : Bool) (event now : ℕ) (made : List CallRecord) (end : End) → cond b (filter_map (λ (m : CallRecord). options_of m.call m.answer) made) [] ≡ []
    → AreAccepted Directly (cond b (record { event = event; now = now; calls = made; end = end } ∷ []) [])
unfolding All
turn-direct true event now made end none = (calls-direct made none, tt)
turn-direct false event now made end none = tt

step-direct : (app : AppId) (step : Step) → options_in app step ≡ [] → AreAccepted Directly (told_by app step)
unfolding options_in told_by All
step-direct app (steps.Turn end other event now made) none =
    turn-direct (is_same_app app other) event now made end (subst (λ (b : Bool). cond b (filter_map (λ (m : CallRecord). options_of m.call m.answer) made) [] ≡ []) (flipped other app) none)
step-direct app (steps.In from message) none = tt
step-direct app (steps.Bad from bad) none = tt
step-direct app (steps.Lost place) none = tt
step-direct app (steps.Tick now) none = tt
step-direct app (steps.Withdraw other) none = tt

both-none : (xs ys : List ProxyOptions) → xs ++ ys ≡ [] → (xs ≡ []) × (ys ≡ [])
both-none [] ys is = (refl, is)
both-none (x ∷ xs) ys is = cc

run-direct : (later : List Step) (setup : Setup) (net : Net Session) (app : AppId) → flat_map (λ (moment : Moment). options_in app moment.step) (moments_from setup net later) ≡ []
    → AreAccepted Directly (told app later)
unfolding moments_from told All
run-direct [] setup net app none = tt
run-direct (step ∷ later) setup net app none =
    let both = both-none (options_in app step) (flat_map (λ (moment : Moment). options_in app moment.step) (moments_from setup (after_step as_session setup net step) later)) none in
    all-both (λ (turn : Told). All IsDirectCall turn.calls) (told_by app step) (told app later) (step-direct app step both.0) (run-direct later setup (after_step as_session setup net step) app both.1)

pub told-append : (before later : List Step) (app : AppId) → told app (before ++ later) ≡ told app before ++ told app later
unfolding told
told-append [] later app = refl
told-append (step ∷ before) later app = ap (λ ts. told_by app step ++ ts) (told-append before later app) ∙ sym (append_assoc (told_by app step) (told app before) (told app later))

pub none-first : {A : Type 0} (xs : List A) → slice_get xs 0 ≡ None → xs ≡ []
none-first [] is = refl
none-first (x ∷ xs) is = cc

-- each call of a session that proxied nothing is another one
pub accepted-before : (setup : Setup) (net : Net Session) (before later : List Step) (app : AppId) → proxied_with (moments_from setup net (before ++ later)) app ≡ None
    → AreAccepted Directly (told app before)
unfolding proxied_with
accepted-before setup net before later app none =
    all-front (λ (turn : Told). All IsDirectCall turn.calls) (told app before) (told app later)
    (subst (λ (ts : List Told). AreAccepted Directly ts) (told-append before later app) (run-direct (before ++ later) setup net app (none-first _ none)))

-- where no SipSession is a proxy's
pub direct-takes : (call_id : Bytes) (app : AppId) (moment : Moment) → ((live : Live Session) → live_at app moment.before ≡ Some live → AreDirect live.session) → TakesNoProxy call_id app moment
unfolding TakesNoProxy
direct-takes call_id app moment direct =
    λ live lives request call sess found for there. all-found IsDirect (is_session sess) live.session.view.sessions found there (direct live lives)
