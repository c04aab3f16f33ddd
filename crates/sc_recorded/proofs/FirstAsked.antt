-- Whether a session record-routes: what the first of its calls that proxied and were accepted asks for, as a journal tells them.
use Rattle.std.proofs.Common.{◌≡◌, ℕ, ◌++◌, Bool, true, false, List, [], ◌∷◌, refl, ap, sym, subst, ◌∙◌, append-nil}
use Rattle.std.specs.Prelude.{cond, slice_get}
use Rattle.std.specs.List.{flat_map}
use Rattle.std.specs.Option.{option_map_or}
use Rattle.sc_value.specs.declared.ids.AppId.{AppId}
use Rattle.sc_terms.specs.declared.calls.CallRecord.{CallRecord}
use Rattle.sc_terms.specs.declared.calls.End.{End}
use Rattle.sc_terms.specs.declared.calls.ProxyOptions.{ProxyOptions}
use Rattle.sc_terms.specs.declared.steps.Step.{Step}
use Rattle.sc_terms.specs.declared.steps.Step.TheVariants as steps
use Rattle.sc_parts.specs.declared.setup.Setup.{Setup}
use Rattle.sc_state.specs.declared.net.Net.{Net}
use Rattle.sc_state.specs.declared.session.Session.{Session}
use Rattle.sc_hosts.specs.Histories.{as_session}
use Rattle.sc_hosts.specs.Runs.{after_step}
use Rattle.sc_hosts.specs.Transacting.{is_same_app}
use Rattle.sc_lived.specs.Lived.{turns_in as told, told_by}
use Rattle.sc_paths.specs.Moments.{Moment, moments_from, options_in, proxied_with}
use Rattle.sc_ways.proofs.Directs.{flipped}
use Rattle.sc_recorded.specs.Recorded.{records}
use Rattle.sc_recorded.proofs.Asking.{FirstSays, asked_in}
use Rattle.sc_recorded.proofs.Runs.{asked-both}
use Rattle.sc_recorded.proofs.Spans.{asked_of}

turn-asks : (b : Bool) (event now : ℕ) (made : List CallRecord) (end : End) → cond b (asked_in made) [] ≡ asked_of (cond b (record { event = event; now = now; calls = made; end = end } ∷ []) [])
turn-asks true event now made end = sym (append-nil (asked_in made))
turn-asks false event now made end = refl

step-asks : (app : AppId) (step : Step) → options_in app step ≡ asked_of (told_by app step)
unfolding options_in told_by
step-asks app (steps.Turn end other event now made) =
    ap (λ (b : Bool). cond b (asked_in made) []) (flipped other app) ∙ turn-asks (is_same_app app other) event now made end
step-asks app (steps.In from message) = refl
step-asks app (steps.Bad from bad) = refl
step-asks app (steps.Lost place) = refl
step-asks app (steps.Tick now) = refl
step-asks app (steps.Withdraw other) = refl

run-asks : (later : List Step) (setup : Setup) (net : Net Session) (app : AppId) → flat_map (λ (moment : Moment). options_in app moment.step) (moments_from setup net later) ≡ asked_of (told app later)
unfolding moments_from told
run-asks [] setup net app = refl
run-asks (step ∷ later) setup net app =
    ap (λ (hs : List ProxyOptions). hs ++ flat_map (λ (moment : Moment). options_in app moment.step) (moments_from setup (after_step as_session setup net step) later)) (step-asks app step)
    ∙ ap (λ (hs : List ProxyOptions). asked_of (told_by app step) ++ hs) (run-asks later setup (after_step as_session setup net step) app) ∙ sym (asked-both (told_by app step) (told app later))

head-says : (hs : List ProxyOptions) → FirstSays (option_map_or (λ (how : ProxyOptions). how.record_route) (slice_get hs 0) false) hs
unfolding FirstSays
head-says [] = tt
head-says (how ∷ hs) = refl

-- the first that a run tells of the session
pub run-says : (journal : List Step) (setup : Setup) (net : Net Session) (app : AppId) → FirstSays (records (moments_from setup net journal) app) (asked_of (told app journal))
unfolding proxied_with
run-says journal setup net app =
    subst (λ (hs : List ProxyOptions). FirstSays (records (moments_from setup net journal) app) hs) (run-asks journal setup net app)
    (head-says (flat_map (λ (moment : Moment). options_in app moment.step) (moments_from setup net journal)))
