-- What a turn adds to what was played.
use Rattle.std.proofs.Common.{◌≡◌, ℕ, ◌+◌, ◌<◌, ◌≤◌, true, false, not, Option, None, Some, List, [], ◌∷◌, ◌++◌, length, refl, sym, ap, ◌∙◌, subst, arith, slice_get, length-append, inl, inr}
use Rattle.std.specs.Prelude.{Result, Ok, Err, IfOk, IfErr, IsErrAnd, filter, ◌≢◌, ◌-◌, ◌==◌, is_some}
use Rattle.std.specs.Option.{option_map, option_and_then}
use Rattle.std.specs.List.{All, find}
use Rattle.std.proofs.lemmas.Bool.{false≢true}
use Rattle.std.proofs.lemmas.Bool.Decides.{nat_tests}
use Rattle.std.proofs.lemmas.List.Elements.{All-get_or}
use Rattle.std.proofs.lemmas.Option.{none-some, same_Some, slice_get_within, get_or_from_slice_get}
use Rattle.sc_value.specs.declared.ids.AppId.{AppId}
use Rattle.sc_terms.specs.declared.calls.CallRecord.{CallRecord}
use Rattle.sc_terms.specs.declared.calls.End.{End}
use Rattle.sc_terms.specs.declared.calls.End.TheVariants as ends
use Rattle.sc_terms.specs.declared.settings.AppEntry.{AppEntry}
use Rattle.sc_terms.specs.declared.steps.Step.{Step}
use Rattle.sc_terms.specs.declared.steps.Step.TheVariants as steps
use Rattle.sc_parts.specs.declared.setup.Setup.{Setup}
use Rattle.sc_state.specs.declared.host.Live.{Live}
use Rattle.sc_state.specs.declared.net.Net.{Net}
use Rattle.sc_state.specs.declared.queue.Waiting.{Waiting}
use Rattle.sc_state.specs.declared.session.Session.{Session}
use Rattle.sc_servlets.specs.declared.lease.Lease.{Lease}
use Rattle.sc_servlets.specs.declared.done.Done.{Done}
use Rattle.sc_servlets.specs.Stated.{servlet_at, listener_at}
use Rattle.sc_model.specs.JournalSizes.{HasNoRoom, step_size}
use Rattle.sc_model.specs.Settings.{Charters, IsSetup, app_of, charters_of}
use Rattle.sc_hosts.specs.Histories.{as_session}
use Rattle.sc_hosts.specs.Runs.{IsAllowed, after_step, chained_from}
use Rattle.sc_hosts.specs.Steps.{live_at}
use Rattle.sc_runs.specs.Following.{IsPartRun, IsWholeRun, IsTurnOf, first_number}
use Rattle.sc_runs.specs.Next.{Next, next_event, next_events, lowest}
use Rattle.sc_switch.specs.declared.refused.Committed.{Committed}
use Rattle.sc_switch.specs.declared.refused.Committed.TheVariants as committed
use Rattle.sc_switch.specs.declared.refused.StepRefused.{StepRefused}
use Rattle.sc_switch.specs.declared.refused.StepRefused.TheVariants as refused
use Rattle.sc_switch.specs.Answers.{IsGiven, Leased, LeasedOf, Received, RefusesRight, RefusesTurn, with_step}
use Rattle.sc_leases.specs.Leases.{has_number, is_leased, is_of_other, kept_after, next_free, without_app, IsLeaseOf, ShowsFirst, ShowsOf}
use Rattle.sc_switch.specs.Standing.{Known, net_of, is_live_lease, Fits, servlet_of, listener_of, step_of}
use Rattle.sc_switch.proofs.Fitting.{fits_allowed}
use Rattle.sc_follow.specs.Moving.{Came, CameTo, HasDue, IsCut, IsDone, IsDue, IsFree, IsUntaken, TookStep}
use Rattle.sc_follow.specs.Playing.{turn_at, TookTurnOf, IsTurnDue, IsSameRun, IsTurnStopped, IsLent, Lends, LendsOf, TookTurn, IsRunStopped, TurnsUpto}
use Rattle.sc_follow.proofs.Steppings.{came-none, came-on, net-came, untaken-step}

-- ## Lending

all_free : (events : List Next) → filter (λ (n : Next). not (is_leased [] n.app)) events ≡ events
unfolding is_leased
all_free [] = refl
all_free (n ∷ events) = ap (λ (ns : List Next). n ∷ ns) (all_free events)

-- without a lease the next free event is the next one
free_next : (net : Net Session) → next_free net [] ≡ next_event net
unfolding next_free next_event
free_next net = ap lowest (all_free (next_events net))

next_of : (known : Known) (found : Option Next) → known.kept ≡ [] → next_free (net_of known) known.kept ≡ found → next_event (net_of known) ≡ found
next_of known found free e = sym (free_next (net_of known)) ∙ (ap (next_free (net_of known)) (sym free) ∙ e)

none-leased : (kept : List Lease) (app : AppId) → kept ≡ [] → is_leased kept app ≡ true → ⊥
unfolding is_leased
none-leased kept app none e = let leased = rw none at e in cc

given : (old new : Known) (lease : Lease) → IsUntaken old → IsFree old → IsGiven old new lease → IsSameRun old new × IsLent new lease
unfolding net_of
given old new lease untaken free is = (
  subst (λ (k : Known). IsSameRun old k) (sym is.new_is) (record { setup_is = refl; epoch_is = refl; began_is = refl; handed_is = refl; journal_is = refl; left_is = refl }),
  subst (λ (k : Known). IsLent k lease) (sym is.new_is)
      (record { kept_is = ap (λ kept. kept ++ lease ∷ []) free.kept_is; lease_is = is.lease_is; now_is = is.now_is; few = omega (arith, free.few); untaken = record { handed_is = untaken.handed_is; left_is = untaken.left_is } }),
)

lent : (old new : Known) (found : Option Lease) → IsSetup old.setup → IsUntaken old → IsFree old → length old.journal ≤ old.setup.config.journal_steps → Leased old new found → Lends old new found
unfolding Leased Lends
lent old new None right untaken free within (same, inl none) = (same, next_of old None free.kept_is none)
lent old new None right untaken free within (same, inr last) = absurd (omega (arith, last, free.few, within, right.steps))
lent old new (Some lease) right untaken free within (next, is) = let g = given old new lease untaken free is in (g.0, g.1, next_of old _ free.kept_is next)

pub lent_if : {E : Type 0} (old new : Known) (r : Result (Option Lease) E) → IsSetup old.setup → IsUntaken old → IsFree old → length old.journal ≤ old.setup.config.journal_steps → IfOk r (λ found. Leased old new found) → IfOk r (λ found. Lends old new found)
lent_if old new (Ok found) right untaken free within leased = lent old new found right untaken free within leased
lent_if old new (Err cause) right untaken free within leased = tt

lent-of : (app : AppId) (old new : Known) (found : Option Lease) → IsSetup old.setup → IsUntaken old → IsFree old → length old.journal ≤ old.setup.config.journal_steps → LeasedOf app old new found → LendsOf app old new found
unfolding LeasedOf LendsOf
lent-of app old new None right untaken free within (same, inl none) = (same, none)
lent-of app old new None right untaken free within (same, inr (inl leased)) = absurd (none-leased old.kept app free.kept_is leased)
lent-of app old new None right untaken free within (same, inr (inr last)) = absurd (omega (arith, last, free.few, within, right.steps))
lent-of app old new (Some lease) right untaken free within (app_is, first, not_leased, is) = let g = given old new lease untaken free is in (g.0, g.1, app_is, first)

pub lent_of_if : {E : Type 0} (app : AppId) (old new : Known) (r : Result (Option Lease) E) → IsSetup old.setup → IsUntaken old → IsFree old → length old.journal ≤ old.setup.config.journal_steps → IfOk r (λ found. LeasedOf app old new found) → IfOk r (λ found. LendsOf app old new found)
lent_of_if app old new (Ok found) right untaken free within leased = lent-of app old new found right untaken free within leased
lent_of_if app old new (Err cause) right untaken free within leased = tt

-- ## Whom a lease calls

-- the kind that a lease names is that of its application
kind-of : (setup : Setup) (net : Net Session) (lease : Lease) (live : Live Session) (o : Option Waiting) → ShowsFirst as_session setup net lease live o → option_map (λ (app : AppEntry). app.kind) (app_of setup.config lease.app.host) ≡ Some lease.kind
unfolding ShowsFirst
kind-of setup net lease live None shows = absurd shows
kind-of setup net lease live (Some waiting) shows = shows.0.kind_is

kind-in : (setup : Setup) (net : Net Session) (lease : Lease) (o : Option (Live Session)) → ShowsOf as_session setup net lease o → option_map (λ (app : AppEntry). app.kind) (app_of setup.config lease.app.host) ≡ Some lease.kind
unfolding ShowsOf
kind-in setup net lease None shows = absurd shows
kind-in setup net lease (Some live) shows = kind-of setup net lease live (slice_get live.inbox 0) shows

kind_is : (setup : Setup) (net : Net Session) (lease : Lease) → IsLeaseOf as_session setup net lease → option_map (λ (app : AppEntry). app.kind) (app_of setup.config lease.app.host) ≡ Some lease.kind
unfolding IsLeaseOf
kind_is setup net lease is = kind-in setup net lease (live_at lease.app net) is

kind-below : (found : Option AppEntry) (kind count : ℕ) → ((app : AppEntry) → found ≡ Some app → app.kind < count) → option_map (λ (app : AppEntry). app.kind) found ≡ Some kind → kind < count
kind-below None kind count all e = absurd (none-some kind e)
kind-below (Some app) kind count all e = subst (λ (k : ℕ). k < count) (same_Some app.kind kind e) (all app refl)

all_at : {A : Type 0} (P : A → Type 0) (xs : List A) (i : ℕ) (x : A) → All P xs → slice_get xs i ≡ Some x → P x
all_at P xs i x all e = subst P (get_or_from_slice_get xs i x x e) (All-get_or P xs i x (slice_get_within xs i x e) all)

-- the kind of a lease is one of the kinds
pub kind_within : (setup : Setup) (net : Net Session) (lease : Lease) (count : ℕ) → IsSetup setup → IsLeaseOf as_session setup net lease → length setup.kinds ≡ count → lease.kind < count
kind_within setup net lease count right is long =
    subst (λ (n : ℕ). lease.kind < n) long
    (kind-below (app_of setup.config lease.app.host) lease.kind (length setup.kinds)
    (λ app e. all_at (λ (app : AppEntry). app.kind < length setup.kinds) setup.config.app lease.app.host app right.kinds e) (kind_is setup net lease is))

charters-in : (kinds : List Charters) (found : Option AppEntry) (kind : ℕ) → option_map (λ (app : AppEntry). app.kind) found ≡ Some kind → option_and_then (λ (app : AppEntry). slice_get kinds app.kind) found ≡ slice_get kinds kind
charters-in kinds None kind e = absurd (none-some kind e)
charters-in kinds (Some app) kind e = ap (slice_get kinds) (same_Some app.kind kind e)

-- the charters of a lease's application
charters_at : (setup : Setup) (net : Net Session) (lease : Lease) → IsLeaseOf as_session setup net lease → charters_of setup lease.app.host ≡ slice_get setup.kinds lease.kind
unfolding charters_of
charters_at setup net lease is = charters-in setup.kinds (app_of setup.config lease.app.host) lease.kind (kind_is setup net lease is)

-- of what is there, what is told of it
told-of : {A B : Type 0} (f : A → Option B) (found : Option A) (told : Option B) → option_map f found ≡ Some told → told ≡ option_and_then f found
told-of f None told e = absurd (none-some told e)
told-of f (Some a) told e = sym (same_Some _ told e)

self-number : (n : ℕ) → (n == n) ≡ true
self-number n = grind (arith, nat_tests)

-- the first of one is found
found-one : (lease : Lease) → find (has_number lease.number) (lease ∷ []) ≡ Some lease
found-one lease = rw (self-number lease.number) refl

-- what is made of a lease fits it
pub fits_made : (known : Known) (kinds : List Charters) (lease : Lease) (done : Done) → known.setup.kinds ≡ kinds → IsLent known lease → done.lease ≡ lease
    → option_map (servlet_at lease.event) (slice_get kinds lease.kind) ≡ Some done.charter
    → option_map (listener_at lease.event) (slice_get kinds lease.kind) ≡ Some done.listener
    → Fits known.setup known.kept done
unfolding servlet_of listener_of
fits_made known kinds lease done kinds_is is lease_is charter listener =
    let found = charters_at known.setup (net_of known) lease is.lease_is ∙ ap (λ (ks : List Charters). slice_get ks lease.kind) kinds_is in
    record {
      lease_is = rw (lease_is, is.kept_is) (found-one lease);
      charter_is = rw (lease_is, found) (told-of (servlet_at lease.event) (slice_get kinds lease.kind) done.charter charter);
      listener_is = rw (lease_is, found) (told-of (listener_at lease.event) (slice_get kinds lease.kind) done.listener listener);
    }

-- ## Bringing

-- the live lease is live
pub never_gone : (old new : Known) (done : Done) (answer : Committed) (number : ℕ) → Fits old.setup old.kept done → answer ≡ committed.Gone number → Received old new done answer → ⊥
unfolding Received is_live_lease
never_gone old new done answer number fits gone received =
    let dead = rw gone at received in
    let none = rw dead.0 at dead.1 in
    let found = ap is_some fits.lease_is in
    false≢true (sym none ∙ found)

-- and it is the one
pub never_other : (old new : Known) (done : Done) (answer : Committed) (number : ℕ) → Fits old.setup old.kept done → answer ≡ committed.Other number → Received old new done answer → ⊥
unfolding Received
never_other old new done answer number fits other received = let r = rw other at received in r.2 fits

-- no lease is left
none-left : (lease : Lease) → without_app lease.app (lease ∷ []) ≡ []
unfolding without_app is_of_other
none-left lease = rw (self-number lease.app.host, self-number lease.app.serial) refl

turned : (old : Known) (lease : Lease) (step : Step) → kept_after step old.kept ≡ [] → IsLent old lease → TookStep old (with_step old step) step
turned old lease step none is =
    let long = length-append old.journal (step ∷ []) in
    record {
      came = record { setup_is = refl; epoch_is = refl; began_is = refl; handed_is = refl; journal_is = refl; untaken = untaken-step old step (kept_after step old.kept) old.leases is.untaken };
      free = record { kept_is = none; few = omega (arith, long, is.few) };
    }

-- a turn that was taken
pub took_turn : (old new : Known) (done : Done) (answer : Committed) → IsLent old done.lease → answer ≡ committed.Taken → Received old new done answer → TookTurnOf old new done.lease.app done.lease.event_number
unfolding TookTurnOf Received step_of kept_after
took_turn old new done answer is taken received =
    let r = rw taken at received in
    let step = steps.Turn done.end done.lease.app done.lease.event_number done.lease.shown.now done.calls in
    let none : kept_after step old.kept ≡ [] = rw is.kept_is (none-left done.lease) in
    let at = subst (λ (k : Known). TookStep old k step) (sym r.1) (turned old done.lease step none is) in
    (done.calls, done.end, rw is.now_is at at)

pub turn_stopped : (known : Known) (done : Done) (cause : StepRefused) → IsSetup known.setup → IsLent known done.lease → Fits known.setup known.kept done → done.end ≢ ends.Starved → RefusesTurn known done (step_size (step_of done)) cause
    → IsTurnStopped known done.lease.app done.lease.event_number cause
unfolding IsTurnStopped RefusesTurn RefusesRight IsTurnDue step_of
turn_stopped known done refused.NoMemory right is fits counted refuses = tt
turn_stopped known done (refused.JournalFull steps bytes) right is fits counted refuses = (
  done.calls,
  done.end,
  rw (← is.now_is) (record { allowed = fits_allowed known.setup (net_of known) known.kept done right is.lease_is fits counted; full = refuses.0.2 }),
)

-- ## The run with its lease, and without

same_net : (old new : Known) → IsSameRun old new → net_of new ≡ net_of old
unfolding net_of
same_net old new same = rw (same.setup_is, same.epoch_is, same.began_is, same.handed_is, same.journal_is) refl

took-of : (old mid new : Known) (app : AppId) (event : ℕ) → IsSameRun old mid → TookTurnOf mid new app event → TookTurnOf old new app event
unfolding TookTurnOf
took-of old mid new app event same (calls, end, step) = (
  calls,
  end,
  rw (← same_net old mid same) (record {
    came = record {
      setup_is = step.came.setup_is ∙ same.setup_is;
      epoch_is = step.came.epoch_is ∙ same.epoch_is;
      began_is = step.came.began_is ∙ same.began_is;
      handed_is = step.came.handed_is ∙ same.handed_is;
      journal_is = step.came.journal_is ∙ ap (λ (js : List Step). js ++ turn_at mid app event calls end ∷ []) same.journal_is;
      untaken = step.came.untaken;
    };
    free = step.free;
  }),
)

due-of : (old mid : Known) (app : AppId) (event : ℕ) → IsSameRun old mid → IsTurnDue mid app event → IsTurnDue old app event
unfolding IsTurnDue HasNoRoom
due-of old mid app event same (calls, end, due) = (
  calls,
  end,
  rw (← same_net old mid same) (record {
    allowed = subst (λ (s : Setup). IsAllowed as_session s (net_of old) (turn_at mid app event calls end)) same.setup_is
        (subst (λ (n : Net Session). IsAllowed as_session mid.setup n (turn_at mid app event calls end)) (same_net old mid same) due.allowed);
    full = rw (← same.setup_is, ← same.journal_is) due.full;
  }),
)

pub same_old : (old new : Known) → new ≡ old → IsSameRun old new
same_old old new same = subst (λ (k : Known). IsSameRun old k) (sym same) (record { setup_is = refl; epoch_is = refl; began_is = refl; handed_is = refl; journal_is = refl; left_is = refl })

same-on : (old mid new : Known) → IsSameRun old mid → new ≡ mid → IsSameRun old new
same-on old mid new same e = subst (λ (k : Known). IsSameRun old k) (sym e) same

-- no step more was taken
came-same : (first old new : Known) (made : List Step) → Came first old made → IsSameRun old new → Came first new made
came-same first old new made came same = record {
  setup_is = same.setup_is ∙ came.setup_is;
  epoch_is = same.epoch_is ∙ came.epoch_is;
  began_is = same.began_is ∙ came.began_is;
  handed_is = same.handed_is ∙ came.handed_is;
  journal_is = same.journal_is ∙ came.journal_is;
  untaken = record {
    handed_is = same.handed_is ∙ came.untaken.handed_is;
    left_is = rw (same.setup_is, same.epoch_is, same.began_is, same.journal_is, same.left_is) came.untaken.left_is;
  };
}

due-same : (old new : Known) (step : Step) → IsSameRun old new → IsDue old step → IsDue new step
unfolding HasNoRoom
due-same old new step same due = record {
  allowed = subst (λ (s : Setup). IsAllowed as_session s (net_of new) step) (sym same.setup_is) (subst (λ (n : Net Session). IsAllowed as_session old.setup n step) (sym (same_net old new same)) due.allowed);
  full = rw (same.setup_is, same.journal_is) due.full;
}

-- ## The lowest event

pub lent_setup : (old mid : Known) (lease : Lease) → Lends old mid (Some lease) → mid.setup ≡ old.setup
unfolding Lends
lent_setup old mid lease lends = lends.0.setup_is

pub lent_lease : (old mid : Known) (lease : Lease) → Lends old mid (Some lease) → IsLent mid lease
unfolding Lends
lent_lease old mid lease lends = lends.1

pub none_lent : (old mid : Known) → Lends old mid None → TookTurn old mid false
unfolding Lends TookTurn
none_lent old mid lends = lends

pub took : (old mid new : Known) (lease : Lease) → Lends old mid (Some lease) → TookTurnOf mid new lease.app lease.event_number → length mid.journal < mid.setup.config.journal_steps → TookTurn old new true
unfolding Lends TookTurn
took old mid new lease (same, is, next) turn room =
    (record { app = lease.app; number = lease.event_number }, next, took-of old mid new lease.app lease.event_number same turn, rw (← same.setup_is, ← same.journal_is) room)

pub same_lent : (old mid new : Known) (lease : Lease) → Lends old mid (Some lease) → new ≡ mid → IsSameRun old new
unfolding Lends
same_lent old mid new lease lends e = same-on old mid new lends.0 e

pub run_stopped : (old mid : Known) (lease : Lease) (cause : StepRefused) → Lends old mid (Some lease) → IsTurnStopped mid lease.app lease.event_number cause → IsRunStopped old cause
unfolding Lends IsTurnStopped IsRunStopped
run_stopped old mid lease refused.NoMemory lends stop = tt
run_stopped old mid lease (refused.JournalFull steps bytes) (same, is, next) stop =
    (record { app = lease.app; number = lease.event_number }, next, due-of old mid lease.app lease.event_number same stop)

-- ## Turn after turn

-- what holds between the turns
pub record IsPlaying (first known : Known) : Type 0 where
  pub free : IsFree known
  pub turns : List Step
  pub came : Came first known turns
  pub part : IsPartRun as_session first.setup (net_of first) turns

pub playing_start : (known : Known) → IsUntaken known → IsFree known → IsPlaying known known
unfolding IsPartRun
playing_start known untaken free = record { free = free; turns = []; came = came-none known untaken; part = tt }

part-more : (setup : Setup) (net : Net Session) (turns : List Step) (next : Next) (now : ℕ) (calls : List CallRecord) (end : End) → IsPartRun as_session setup net turns
    → next_event (chained_from as_session setup net turns) ≡ Some next → now ≡ (chained_from as_session setup net turns).moment → IsPartRun as_session setup net (turns ++ steps.Turn end next.app next.number now calls ∷ [])
unfolding IsPartRun chained_from
part-more setup net [] next now calls end part next_is now_is = (next_is, now_is, tt)
part-more setup net (steps.Turn ending app event at made ∷ later) next now calls end part next_is now_is =
    (part.0, part.1, part-more setup (after_step as_session setup net (steps.Turn ending app event at made)) later next now calls end part.2 next_is now_is)
part-more setup net (step ∷ later) next now calls end part next_is now_is = absurd part

-- a turn of the lowest event is one more
one-more : (first known : Known) (next : Next) (calls : List CallRecord) (end : End) (is : IsPlaying first known) → next_event (net_of known) ≡ Some next
    → IsPartRun as_session first.setup (net_of first) (is.turns ++ turn_at known next.app next.number calls end ∷ [])
one-more first known next calls end is next_is =
    let net = net-came first known is.turns is.came in
    part-more first.setup (net_of first) is.turns next (net_of known).moment calls end is.part (ap (λ (n : Net Session). next_event n) (sym net) ∙ next_is) (ap (λ (n : Net Session). n.moment) net)

pub playing_turn : (first old new : Known) → IsPlaying first old → TookTurn old new true → IsPlaying first new
unfolding TookTurn TookTurnOf
playing_turn first old new is (next, next_is, (calls, end, step), room) = record {
  free = step.free;
  turns = is.turns ++ turn_at old next.app next.number calls end ∷ [];
  came = came-on first old new is.turns _ is.came step.came;
  part = one-more first old next calls end is next_is;
}

-- each turn leaves less room
pub less_room : (old new : Known) → TookTurn old new true → new.setup.config.journal_steps - length new.journal < old.setup.config.journal_steps - length old.journal
unfolding TookTurn TookTurnOf
less_room old new (next, next_is, (calls, end, step), room) =
    let long = length-append old.journal (turn_at old next.app next.number calls end ∷ []) in
    let setup = ap (λ (s : Setup). s.config.journal_steps) step.came.setup_is in
    let journal = ap length step.came.journal_is in
    omega (arith, long, setup, journal, room)

pub played_out : (first old new : Known) → IsPlaying first old → TookTurn old new false → IsDone (IsWholeRun as_session first.setup (net_of first)) first new
unfolding TookTurn IsDone IsWholeRun
played_out first old new is (same, none) =
    subst (λ (k : Known). (made : List Step) × CameTo (IsWholeRun as_session first.setup (net_of first)) first k made × IsFree k) (sym same)
    (is.turns, record { came = is.came; good = (is.part, rw (← net-came first old is.turns is.came) none) }, is.free)

due-more : (first old new : Known) (cause : StepRefused) (is : IsPlaying first old) → IsSameRun old new → IsRunStopped old cause → HasDue (IsPartRun as_session first.setup (net_of first)) new is.turns cause
unfolding IsRunStopped HasDue IsTurnDue
due-more first old new refused.NoMemory is same stop = tt
due-more first old new (refused.JournalFull steps bytes) is same (next, next_is, (calls, end, due)) =
    (turn_at old next.app next.number calls end, due-same old new _ same due, one-more first old next calls end is next_is)

played-part : (first old new : Known) (cause : StepRefused) → IsPlaying first old → IsSameRun old new → IsRunStopped old cause → IsCut (IsPartRun as_session first.setup (net_of first)) first new cause
unfolding IsCut
played-part first old new cause is same stop = (is.turns, record { came = came-same first old new is.turns is.came same; good = is.part }, due-more first old new cause is same stop)

-- the cause that is handed on
pub handed_on : {A : Type 0} (first old new : Known) (r : Result A StepRefused) (cause : StepRefused) → IsErrAnd r (λ e. e ≡ cause) → IsPlaying first old → IsSameRun old new → IsRunStopped old cause
    → IfErr r (λ e. IsCut (IsPartRun as_session first.setup (net_of first)) first new e)
handed_on first old new (Ok a) cause is_cause is same stop = tt
handed_on first old new (Err e) cause is_cause is same stop = subst (λ (c : StepRefused). IsCut (IsPartRun as_session first.setup (net_of first)) first new c) (sym is_cause) (played-part first old new cause is same stop)

pub setup_kept : (first old : Known) → IsPlaying first old → IsSetup first.setup → IsSetup old.setup
setup_kept first old is right = subst IsSetup (sym is.came.setup_is) right

-- ## One session's turn

pub lent_of_setup : (app : AppId) (old mid : Known) (lease : Lease) → LendsOf app old mid (Some lease) → mid.setup ≡ old.setup
unfolding LendsOf
lent_of_setup app old mid lease lends = lends.0.setup_is

pub lent_of_lease : (app : AppId) (old mid : Known) (lease : Lease) → LendsOf app old mid (Some lease) → IsLent mid lease
unfolding LendsOf
lent_of_lease app old mid lease lends = lends.1

turn-of : (app : AppId) (known : Known) (event : ℕ) (calls : List CallRecord) (end : End) (from : AppId) → from ≡ app → first_number (live_at app (net_of known)) ≡ Some event
    → IsTurnOf app (net_of known).moment (first_number (live_at app (net_of known))) (turn_at known from event calls end ∷ [])
unfolding IsTurnOf
turn-of app known event calls end from from_is first = rw (from_is, first) (calls, end, refl)

pub played_of : (app : AppId) (old mid new : Known) (lease : Lease) → LendsOf app old mid (Some lease) → TookTurnOf mid new lease.app lease.event_number
    → IsDone (IsTurnOf app (net_of old).moment (first_number (live_at app (net_of old)))) old new
unfolding LendsOf TookTurnOf IsDone
played_of app old mid new lease (same, is, app_is, first) turn =
    let (calls, end, step) = took-of old mid new lease.app lease.event_number same turn in
    (turn_at old lease.app lease.event_number calls end ∷ [], record { came = step.came; good = turn-of app old lease.event_number calls end lease.app app_is first }, step.free)

none-of : (app : AppId) (now : ℕ) (o : Option ℕ) → o ≡ None → IsTurnOf app now o []
unfolding IsTurnOf
none-of app now o none = rw none refl

pub none_played : (app : AppId) (old new : Known) → LendsOf app old new None → IsUntaken old → IsFree old → IsDone (IsTurnOf app (net_of old).moment (first_number (live_at app (net_of old)))) old new
unfolding LendsOf IsDone
none_played app old new (same, none) untaken free =
    subst (λ (k : Known). (made : List Step) × CameTo (IsTurnOf app (net_of old).moment (first_number (live_at app (net_of old)))) old k made × IsFree k) (sym same)
    ([], record { came = came-none old untaken; good = none-of app _ _ none }, free)

due-one : (app : AppId) (old mid new : Known) (lease : Lease) (cause : StepRefused) → LendsOf app old mid (Some lease) → new ≡ mid → IsTurnStopped mid lease.app lease.event_number cause → HasDue (TurnsUpto old app) new [] cause
unfolding LendsOf IsTurnStopped HasDue TurnsUpto IsTurnDue
due-one app old mid new lease refused.NoMemory lends e stop = tt
due-one app old mid new lease (refused.JournalFull steps bytes) (same, is, app_is, first) e stop =
    let (calls, end, due) = due-of old mid lease.app lease.event_number same stop in
    (turn_at old lease.app lease.event_number calls end, due-same old new _ (same-on old mid new same e) due, inr (turn-of app old lease.event_number calls end lease.app app_is first))

same-lent-of : (app : AppId) (old mid new : Known) (lease : Lease) → LendsOf app old mid (Some lease) → new ≡ mid → IsSameRun old new
unfolding LendsOf
same-lent-of app old mid new lease lends e = same-on old mid new lends.0 e

pub cut_of : (app : AppId) (old mid new : Known) (lease : Lease) (cause : StepRefused) → LendsOf app old mid (Some lease) → new ≡ mid → IsTurnStopped mid lease.app lease.event_number cause → IsUntaken old → IsCut (TurnsUpto old app) old new cause
unfolding IsCut TurnsUpto
cut_of app old mid new lease cause lends e stop untaken =
    ([], record { came = came-same old old new [] (came-none old untaken) (same-lent-of app old mid new lease lends e); good = inl refl }, due-one app old mid new lease cause lends e stop)

pub starved_of : (app : AppId) (old new : Known) → new ≡ old → IsUntaken old → IsCut (TurnsUpto old app) old new refused.NoMemory
unfolding IsCut TurnsUpto HasDue
starved_of app old new e untaken = ([], record { came = came-same old old new [] (came-none old untaken) (same_old old new e); good = inl refl }, tt)
