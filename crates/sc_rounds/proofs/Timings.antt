-- What a step makes of the moments of the clock.
use Rattle.std.proofs.Common.{◌≡◌, ℕ, ◌<◌, Bool, false, List, [], ◌∷◌, ◌++◌, refl, ap, sym, ◌∙◌, subst}
use Rattle.sc_value.specs.declared.ids.AppId.{AppId}
use Rattle.sc_value.specs.declared.message.Sent.{Sent}
use Rattle.sc_terms.specs.declared.steps.Step.{Step}
use Rattle.sc_terms.specs.declared.steps.Step.TheVariants as steps
use Rattle.sc_hosts.specs.Histories.{as_session}
use Rattle.sc_moments.specs.Moments.{moment_of, tick_of}
use Rattle.sc_moments.proofs.RunMoments.{after_step-moment}
use Rattle.sc_servlets.specs.declared.done.Done.{Done}
use Rattle.sc_switch.specs.Standing.{Known, net_of, step_of}
use Rattle.sc_switch.specs.Answers.{with_step}
use Rattle.sc_switch.proofs.Standings.{net-step}
use Rattle.sc_outs.specs.Deeds.{Deed}
use Rattle.sc_courses.specs.Ordering.{withdrawn_by}
use Rattle.sc_courses.specs.Asking.{Ticked, TickedPart}
use Rattle.sc_courses.specs.Courses.{Beginning, Told}
use Rattle.sc_courses.proofs.AskingLaws.{ticked_cut, ticked_later, ticked_part, ticked_same}
use Rattle.sc_rounds.specs.Serving.{Runs, deed, moments_after}

-- a tick is of a later moment, and none is withdrawn
abbrev pub IsLater : ℕ → Step → Type 0
IsLater now (steps.In place message) = Unit {0}
IsLater now (steps.Bad place bad) = Unit {0}
IsLater now (steps.Lost place) = Unit {0}
IsLater now (steps.Tick moment) = now < moment
IsLater now (steps.Turn end app event moment calls) = Unit {0}
IsLater now (steps.Withdraw app) = ⊥

pub turn_later : (now : ℕ) (done : Done) → IsLater now (step_of done)
unfolding step_of
turn_later now done = tt

pub none_withdrawn : (now : ℕ) (step : Step) → IsLater now step → withdrawn_by step ≡ []
none_withdrawn now (steps.In place message) later = refl
none_withdrawn now (steps.Bad place bad) later = refl
none_withdrawn now (steps.Lost place) later = refl
none_withdrawn now (steps.Tick moment) later = refl
none_withdrawn now (steps.Turn end app event moment calls) later = refl
none_withdrawn now (steps.Withdraw app) later = absurd later

ticked-step : (step : Step) (sent : List Sent) (failed : Bool) (moments : List ℕ) (deeds : List Deed) (now : ℕ) → IsLater now step → Ticked moments deeds now
    → Ticked (moments_after step moments) (deeds ++ deed step sent failed ∷ []) (moment_of now step)
unfolding moment_of tick_of
ticked-step (steps.In place message) sent failed moments deeds now later ticked = ticked_same moments deeds (deed (steps.In place message) sent failed) now now refl refl ticked
ticked-step (steps.Bad place bad) sent failed moments deeds now later ticked = ticked_same moments deeds (deed (steps.Bad place bad) sent failed) now now refl refl ticked
ticked-step (steps.Lost place) sent failed moments deeds now later ticked = ticked_same moments deeds (deed (steps.Lost place) sent failed) now now refl refl ticked
ticked-step (steps.Tick moment) sent failed moments deeds now later ticked = ticked_later moments deeds (deed (steps.Tick moment) sent failed) now moment refl later ticked
ticked-step (steps.Turn end app event moment calls) sent failed moments deeds now later ticked = ticked_same moments deeds (deed (steps.Turn end app event moment calls) sent failed) now now refl refl ticked
ticked-step (steps.Withdraw app) sent failed moments deeds now later ticked = absurd later

-- the step wasn't taken
pub untaken_part : (step : Step) (moments : List ℕ) (deeds : List Deed) (now : ℕ) → Ticked moments deeds now → TickedPart (moments_after step moments) deeds
untaken_part (steps.In place message) moments deeds now ticked = ticked_part moments deeds now ticked
untaken_part (steps.Bad place bad) moments deeds now ticked = ticked_part moments deeds now ticked
untaken_part (steps.Lost place) moments deeds now ticked = ticked_part moments deeds now ticked
untaken_part (steps.Tick moment) moments deeds now ticked = ticked_cut moments deeds now moment ticked
untaken_part (steps.Turn end app event moment calls) moments deeds now ticked = ticked_part moments deeds now ticked
untaken_part (steps.Withdraw app) moments deeds now ticked = ticked_part moments deeds now ticked

pub ticked_at : (moments : List ℕ) (deeds : List Deed) (now now2 : ℕ) → now2 ≡ now → Ticked moments deeds now → Ticked moments deeds now2
ticked_at moments deeds now now2 same ticked = subst (λ (n : ℕ). Ticked moments deeds n) (sym same) ticked

-- the moment once the switch took the step
pub taken_moment : (step : Step) (old new : Known) → new ≡ with_step old step → (net_of new).moment ≡ moment_of (net_of old).moment step
taken_moment step old new e = ap (λ (known : Known). (net_of known).moment) e ∙ (ap (λ net. net.moment) (net-step old step) ∙ after_step-moment as_session old.setup (net_of old) step)

-- the switch took the step
pub taken_ticked : (step : Step) (sent : List Sent) (failed : Bool) (moments : List ℕ) (deeds : List Deed) (old new : Known) → new ≡ with_step old step → IsLater (net_of old).moment step → Ticked moments deeds (net_of old).moment
    → Ticked (moments_after step moments) (deeds ++ deed step sent failed ∷ []) (net_of new).moment
taken_ticked step sent failed moments deeds old new e later ticked =
    ticked_at (moments_after step moments) (deeds ++ deed step sent failed ∷ []) (moment_of (net_of old).moment step) (net_of new).moment (taken_moment step old new e)
    (ticked-step step sent failed moments deeds (net_of old).moment later ticked)

-- a withdrawal takes no time
pub withdrawn_ticked : (app : AppId) (sent : List Sent) (moments : List ℕ) (deeds : List Deed) (old new : Known) → new ≡ with_step old (steps.Withdraw app) → Ticked moments deeds (net_of old).moment
    → Ticked moments (deeds ++ deed (steps.Withdraw app) sent false ∷ []) (net_of new).moment
unfolding moment_of tick_of
withdrawn_ticked app sent moments deeds old new e ticked =
    ticked_at moments (deeds ++ deed (steps.Withdraw app) sent false ∷ []) (net_of old).moment (net_of new).moment (taken_moment (steps.Withdraw app) old new e)
    (ticked_same moments deeds (deed (steps.Withdraw app) sent false) (net_of old).moment (net_of old).moment refl refl ticked)

pub runs_timed : (from : Beginning) (moments : List ℕ) (told : Told) (known : Known) (deeds : List Deed) → Runs from told known deeds → Runs (record from { moments = moments }) told known deeds
runs_timed from moments told known deeds runs = record {
  setup_is = runs.setup_is;
  course = record {
    ended = runs.course.ended;
    before = runs.course.before;
    mine = runs.course.mine;
    deeds_are = runs.course.deeds_are;
    tells = runs.course.tells;
    lawful = runs.course.lawful;
    are = runs.course.are;
    run = runs.course.run;
    obeys = runs.course.obeys;
    listings = runs.course.listings;
    in_time = runs.course.in_time;
  };
}

-- what isn't of the net changed
pub left_moment : (old new : Known) → new ≡ record old { left = new.left } → (net_of new).moment ≡ (net_of old).moment
unfolding net_of
left_moment old new same = ap (λ (known : Known). (net_of known).moment) same

pub lease_moment : (old new : Known) → new ≡ record old { kept = new.kept; leases = new.leases } → (net_of new).moment ≡ (net_of old).moment
unfolding net_of
lease_moment old new same = ap (λ (known : Known). (net_of known).moment) same
