-- One step of a switch: what it leaves, and why it may be refused.
use Rattle.std.proofs.Common.{◌≡◌, ◌≤◌, ◌<◌, ◌+◌, ℕ, inl, Bool, true, false, List, [], ◌∷◌, ◌++◌, length, refl, sym, ap, ◌∙◌, subst, arith, length-append, append_assoc}
use Rattle.std.specs.Prelude.{Result, Ok, Err, OnOk, IfOk, IfErr, is_some}
use Rattle.std.proofs.lemmas.List.{append-nil}
use Rattle.std.proofs.lemmas.List.Sums.{fold-append}
use Rattle.sc_value.specs.declared.ids.AppId.{AppId}
use Rattle.sc_value.specs.declared.message.Sent.{Sent}
use Rattle.sc_terms.specs.declared.steps.Step.{Step}
use Rattle.sc_terms.specs.declared.steps.Step.TheVariants as steps
use Rattle.sc_servlets.specs.declared.lease.Lease.{Lease}
use Rattle.sc_model.specs.JournalSizes.{HasNoRoom, step_size}
use Rattle.sc_hosts.specs.Histories.{as_session}
use Rattle.sc_hosts.specs.Runs.{IsAllowed, after_step, net_from as chained, chained_from, start}
use Rattle.sc_hosts.specs.Steps.{live_at}
use Rattle.sc_switch.specs.declared.refused.StepRefused.{StepRefused}
use Rattle.sc_switch.specs.declared.refused.StepRefused.TheVariants as refused
use Rattle.sc_switch.specs.Answers.{IsFullFor, RefusesRight, Withdraws, with_step}
use Rattle.sc_leases.specs.Leases.{kept_after, without_app}
use Rattle.sc_switch.specs.Standing.{Known, net_of}
use Rattle.sc_switch.proofs.Standings.{sent-step}
use Rattle.sc_follow.specs.Moving.{Came, IsFree, IsStillThere, IsStopped, IsUntaken, TookStep, Withdrew}

-- ## One step

-- where none was handed on, the net is that of the journal
net-kept : (known : Known) → known.handed ≡ [] → net_of known ≡ chained as_session known.setup known.epoch known.began known.journal
unfolding net_of
net-kept known none = rw none refl

pub untaken-step : (old : Known) (step : Step) (kept : List Lease) (leases : ℕ) → IsUntaken old → IsUntaken (record (with_step old step) { kept = kept; leases = leases })
untaken-step old step kept leases is = record {
  handed_is = is.handed_is;
  left_is = ap (λ (sent : List Sent). sent ++ (after_step as_session old.setup (net_of old) step).sent) is.left_is
      ∙ rw (net-kept old is.handed_is) (sym (sent-step old.setup old.epoch old.began old.journal step));
}

-- where no lease is out, none is after a step
none-after : (step : Step) (kept : List Lease) → kept ≡ [] → kept_after step kept ≡ []
unfolding kept_after without_app
none-after (steps.In from message) kept none = none
none-after (steps.Bad from bad) kept none = none
none-after (steps.Lost place) kept none = none
none-after (steps.Tick now) kept none = none
none-after (steps.Turn end app event now calls) kept none = rw none refl
none-after (steps.Withdraw app) kept none = rw none refl

-- with these leases, so many given
pub stepped : (old : Known) (step : Step) (kept : List Lease) (leases : ℕ) → IsUntaken old → kept ≡ [] → leases ≤ old.leases + 1 → IsFree old → TookStep old (record (with_step old step) { kept = kept; leases = leases }) step
stepped old step kept leases untaken none few is =
    let long = length-append old.journal (step ∷ []) in
    record {
      came = record { setup_is = refl; epoch_is = refl; began_is = refl; handed_is = refl; journal_is = refl; untaken = untaken-step old step kept leases untaken };
      free = record { kept_is = none; few = omega (arith, long, few, is.few) };
    }

took : (old new : Known) (step : Step) → new ≡ with_step old step → IsUntaken old → IsFree old → TookStep old new step
took old new step new_is untaken is = subst (λ (k : Known). TookStep old k step) (sym new_is) (stepped old step (kept_after step old.kept) old.leases untaken (none-after step old.kept is.kept_is) (omega arith) is)

pub took_ok : {A : Type 0} (old new : Known) (step : Step) (r : Result A StepRefused) → OnOk r (new ≡ with_step old step) → IsUntaken old → IsFree old → OnOk r (TookStep old new step)
took_ok old new step (Ok a) new_is untaken is = took old new step new_is untaken is
took_ok old new step (Err cause) new_is untaken is = tt

stop : (old : Known) (step : Step) (size : ℕ) (cause : StepRefused) → size ≡ step_size step → IsAllowed as_session old.setup (net_of old) step → RefusesRight old size cause → IsStopped old step cause
unfolding RefusesRight IsStopped
stop old step size refused.NoMemory size_is allowed refuses = tt
stop old step size (refused.JournalFull steps bytes) size_is allowed refuses = record { allowed = allowed; full = rw (← size_is) refuses.2 }

pub stopped_err : {A : Type 0} (old : Known) (step : Step) (size : ℕ) (r : Result A StepRefused) → size ≡ step_size step → IsAllowed as_session old.setup (net_of old) step → IfErr r (λ cause. RefusesRight old size cause) → IfErr r (λ cause. IsStopped old step cause)
stopped_err old step size (Ok a) size_is allowed refuses = tt
stopped_err old step size (Err cause) size_is allowed refuses = stop old step size cause size_is allowed refuses

-- ## A session that is ended

withdrew : (old new : Known) (app : AppId) (lived : Bool) → Withdraws old new app lived → IsUntaken old → IsFree old → Withdrew old new app lived
unfolding Withdraws Withdrew
withdrew old new app true (lives, new_is) untaken is =
    (lives, took old new (steps.Withdraw app) new_is untaken is)
withdrew old new app false same untaken is = same

pub withdrew_ok : (old new : Known) (app : AppId) (r : Result Bool StepRefused) → IfOk r (λ lived. Withdraws old new app lived) → IsUntaken old → IsFree old → IfOk r (λ lived. Withdrew old new app lived)
withdrew_ok old new app (Ok lived) withdraws untaken is = withdrew old new app lived withdraws untaken is
withdrew_ok old new app (Err cause) withdraws untaken is = tt

still : (old : Known) (app : AppId) (cause : StepRefused) → is_some (live_at app (net_of old)) ≡ true → RefusesRight old 0 cause → IsStillThere old app cause
unfolding RefusesRight IsStillThere IsAllowed step_size
still old app refused.NoMemory lives refuses = tt
still old app (refused.JournalFull steps bytes) lives refuses = (lives, record { allowed = lives; full = refuses.2 })

pub still_err : (old : Known) (app : AppId) (r : Result Bool StepRefused) → IfErr r (λ cause. is_some (live_at app (net_of old)) ≡ true) → IfErr r (λ cause. RefusesRight old 0 cause) → IfErr r (λ cause. IsStillThere old app cause)
still_err old app (Ok lived) lives refuses = tt
still_err old app (Err cause) lives refuses = still old app cause lives refuses

-- ## Steps after steps

-- the net after them
pub net-came : (old new : Known) (made : List Step) → Came old new made → net_of new ≡ chained_from as_session old.setup (net_of old) made
unfolding net_of chained chained_from
net-came old new made came =
    rw (came.setup_is, came.epoch_is, came.began_is, came.handed_is, came.journal_is, ← append_assoc old.handed old.journal made)
    (fold-append (after_step as_session old.setup) (start old.setup old.epoch old.began) (old.handed ++ old.journal) made)

pub came-none : (old : Known) → IsUntaken old → Came old old []
came-none old untaken = record { setup_is = refl; epoch_is = refl; began_is = refl; handed_is = refl; journal_is = sym (append-nil old.journal); untaken = untaken }

pub came-on : (old mid new : Known) (made more : List Step) → Came old mid made → Came mid new more → Came old new (made ++ more)
came-on old mid new made more first later = record {
  setup_is = later.setup_is ∙ first.setup_is;
  epoch_is = later.epoch_is ∙ first.epoch_is;
  began_is = later.began_is ∙ first.began_is;
  handed_is = later.handed_is ∙ first.handed_is;
  journal_is = later.journal_is ∙ ap (λ (js : List Step). js ++ more) first.journal_is ∙ append_assoc old.journal made more;
  untaken = later.untaken;
}

-- ## Room

under : (m n : ℕ) → m ≤ n → (m ≡ n → ⊥) → m < n
under m n le other = omega (arith, le, other)

-- a journal with room for a step is below its limit
pub below_full : (known : Known) (size : ℕ) → length known.journal ≤ known.setup.config.journal_steps → (IsFullFor known size → ⊥) → length known.journal < known.setup.config.journal_steps
unfolding HasNoRoom
below_full known size within room = under _ _ within (λ e. room (inl e))

pub below_ok : {A : Type 0} (known : Known) (size : ℕ) (r : Result A StepRefused) → length known.journal ≤ known.setup.config.journal_steps → OnOk r (IsFullFor known size → ⊥) → OnOk r (length known.journal < known.setup.config.journal_steps)
below_ok known size (Ok a) within room = below_full known size within room
below_ok known size (Err cause) within room = tt
