-- What one line makes.
use Rattle.std.proofs.Common.{◌≡◌, ℕ, Bool, true, false, List, [], ◌∷◌, ◌++◌, refl, sym, subst, inl, inr, if◌then◌else◌, ◌&&◌, ◌≤◌, arith}
use Rattle.std.specs.Prelude.{Result, Ok, Err, OnOk, OnErr, IfErr, is_some, nat_le}
use Rattle.std.proofs.lemmas.Bool.Decides.{nat_tests}
use Rattle.sc_value.specs.declared.ids.AppId.{AppId}
use Rattle.sc_value.specs.declared.ids.Place.{Place}
use Rattle.sc_terms.specs.declared.steps.Line.TheVariants as lines
use Rattle.sc_terms.specs.declared.steps.Step.{Step}
use Rattle.sc_terms.specs.declared.steps.Step.TheVariants as steps
use Rattle.sc_tokens.specs.Bytes.{Bytes}
use Rattle.sc_hosts.specs.Histories.{as_session}
use Rattle.sc_hosts.specs.Steps.{live_at}
use Rattle.sc_value.specs.Places.{same_place}
use Rattle.sc_runs.specs.Following.{Does, DoesPart, IsKept, IsPartRun, IsTurnOf, IsWholeRun, Streams, first_number, tick_to, withdrawal}
use Rattle.sc_runs.specs.Hearing.{Hears, HearsPart}
use Rattle.sc_switch.specs.declared.refused.StepRefused.{StepRefused}
use Rattle.sc_switch.specs.declared.refused.StepRefused.TheVariants as refused
use Rattle.sc_switch.specs.Standing.{Known, net_of}
use Rattle.sc_follow.specs.Moving.{Came, CameTo, DoesUpto, HasDue, HearsUpto, IsCut, IsDone, IsDue, IsFree, IsStillThere, IsStopped, IsUntaken, TookStep, Withdrew}
use Rattle.sc_follow.specs.Playing.{TurnsUpto}
use Rattle.sc_follow.specs.Hearing.{TicksUpto, WithdrawsUpto}
use Rattle.sc_streams.proofs.Pendings.{kept_at, kept_through}
use Rattle.sc_follow.proofs.Hearings.{cut-starved, cut-step, cut-weaker}
use Rattle.sc_follow.proofs.Steppings.{came-none}

done-weaker : (P Q : List Step → Type 0) → ((made : List Step) → P made → Q made) → (old new : Known) → IsDone P old new → IsDone Q old new
unfolding IsDone
done-weaker P Q weak old new (made, to, free) = (made, record { came = to.came; good = weak made to.good }, free)

ok-weaker : (P Q : List Step → Type 0) → ((made : List Step) → P made → Q made) → (old new : Known) (r : Result Unit StepRefused) → OnOk r (IsDone P old new) → OnOk r (IsDone Q old new)
ok-weaker P Q weak old new (Ok a) done = done-weaker P Q weak old new done
ok-weaker P Q weak old new (Err cause) done = tt

err-weaker : (P Q : List Step → Type 0) → ((made : List Step) → P made → Q made) → (old new : Known) (r : Result Unit StepRefused) → IfErr r (λ cause. IsCut P old new cause) → IfErr r (λ cause. IsCut Q old new cause)
err-weaker P Q weak old new (Ok a) cut = tt
err-weaker P Q weak old new (Err cause) cut = cut-weaker P Q weak old new cause cut

-- ## Turns

does-turn : (known : Known) (kept : Streams) (app : AppId) (made : List Step) → IsTurnOf app (net_of known).moment (first_number (live_at app (net_of known))) made → Does as_session known.setup (net_of known) kept (lines.Turn app) made kept
unfolding Does
does-turn known kept app made turn = (turn, refl)

pub turn_done : (old new : Known) (kept : Streams) (app : AppId) (r : Result Unit StepRefused) → OnOk r (IsDone (IsTurnOf app (net_of old).moment (first_number (live_at app (net_of old)))) old new)
    → OnOk r (IsDone (λ made. Does as_session old.setup (net_of old) kept (lines.Turn app) made kept) old new)
turn_done old new kept app r done = ok-weaker _ (λ made. Does as_session old.setup (net_of old) kept (lines.Turn app) made kept) (does-turn old kept app) old new r done

turn-upto : (known : Known) (kept : Streams) (app : AppId) (made : List Step) → TurnsUpto known app made → DoesUpto known kept (lines.Turn app) made
unfolding TurnsUpto DoesUpto DoesPart
turn-upto known kept app made (inl none) = inl none
turn-upto known kept app made (inr turn) = inr (kept, does-turn known kept app made turn)

pub turn_cut : (old new : Known) (kept : Streams) (app : AppId) (r : Result Unit StepRefused) → IfErr r (λ cause. IsCut (TurnsUpto old app) old new cause) → IfErr r (λ cause. IsCut (DoesUpto old kept (lines.Turn app)) old new cause)
turn_cut old new kept app r cut = err-weaker (TurnsUpto old app) (DoesUpto old kept (lines.Turn app)) (turn-upto old kept app) old new r cut

does-run : (known : Known) (kept : Streams) (made : List Step) → IsWholeRun as_session known.setup (net_of known) made → Does as_session known.setup (net_of known) kept lines.Run made kept
unfolding Does
does-run known kept made run = (run, refl)

pub run_done : (old new : Known) (kept : Streams) (r : Result Unit StepRefused) → OnOk r (IsDone (IsWholeRun as_session old.setup (net_of old)) old new) → OnOk r (IsDone (λ made. Does as_session old.setup (net_of old) kept lines.Run made kept) old new)
run_done old new kept r done = ok-weaker _ (λ made. Does as_session old.setup (net_of old) kept lines.Run made kept) (does-run old kept) old new r done

run-upto : (known : Known) (kept : Streams) (made : List Step) → IsPartRun as_session known.setup (net_of known) made → DoesUpto known kept lines.Run made
unfolding DoesUpto DoesPart
run-upto known kept made part = inl part

pub run_cut : (old new : Known) (kept : Streams) (r : Result Unit StepRefused) → IfErr r (λ cause. IsCut (IsPartRun as_session old.setup (net_of old)) old new cause) → IfErr r (λ cause. IsCut (DoesUpto old kept lines.Run) old new cause)
run_cut old new kept r cut = err-weaker (IsPartRun as_session old.setup (net_of old)) (DoesUpto old kept lines.Run) (run-upto old kept) old new r cut

-- ## Ticks

does-tick : (known : Known) (kept : Streams) (now : ℕ) (made : List Step) → made ≡ tick_to (net_of known).moment now → Does as_session known.setup (net_of known) kept (lines.Tick now) made kept
unfolding Does
does-tick known kept now made is = (is, refl)

pub tick_done : (old new : Known) (kept : Streams) (now : ℕ) (r : Result Unit StepRefused) → OnOk r (IsDone (λ made. made ≡ tick_to (net_of old).moment now) old new)
    → OnOk r (IsDone (λ made. Does as_session old.setup (net_of old) kept (lines.Tick now) made kept) old new)
tick_done old new kept now r done = ok-weaker (λ made. made ≡ tick_to (net_of old).moment now) (λ made. Does as_session old.setup (net_of old) kept (lines.Tick now) made kept) (does-tick old kept now) old new r done

tick-upto : (known : Known) (kept : Streams) (now : ℕ) (made : List Step) → TicksUpto (net_of known).moment now made → DoesUpto known kept (lines.Tick now) made
unfolding TicksUpto DoesUpto DoesPart
tick-upto known kept now made (inl none) = inl none
tick-upto known kept now made (inr tick) = inr (kept, does-tick known kept now made tick)

pub tick_cut : (old new : Known) (kept : Streams) (now : ℕ) (r : Result Unit StepRefused) → IfErr r (λ cause. IsCut (TicksUpto (net_of old).moment now) old new cause) → IfErr r (λ cause. IsCut (DoesUpto old kept (lines.Tick now)) old new cause)
tick_cut old new kept now r cut = err-weaker (TicksUpto (net_of old).moment now) (DoesUpto old kept (lines.Tick now)) (tick-upto old kept now) old new r cut

-- ## Sessions that are ended

does-drop : (known : Known) (kept : Streams) (app : AppId) (made : List Step) → made ≡ withdrawal app (is_some (live_at app (net_of known))) → Does as_session known.setup (net_of known) kept (lines.Drop app) made kept
unfolding Does
does-drop known kept app made is = (is, refl)

pub drop_done : (old new : Known) (kept : Streams) (app : AppId) (r : Result Unit StepRefused) → OnOk r (IsDone (λ made. made ≡ withdrawal app (is_some (live_at app (net_of old)))) old new)
    → OnOk r (IsDone (λ made. Does as_session old.setup (net_of old) kept (lines.Drop app) made kept) old new)
drop_done old new kept app r done =
    ok-weaker (λ made. made ≡ withdrawal app (is_some (live_at app (net_of old)))) (λ made. Does as_session old.setup (net_of old) kept (lines.Drop app) made kept) (does-drop old kept app) old new r done

drop-upto : (known : Known) (kept : Streams) (app : AppId) (made : List Step) → WithdrawsUpto app (is_some (live_at app (net_of known))) made → DoesUpto known kept (lines.Drop app) made
unfolding WithdrawsUpto DoesUpto DoesPart
drop-upto known kept app made (inl none) = inl none
drop-upto known kept app made (inr gone) = inr (kept, does-drop known kept app made gone)

pub drop_cut : (old new : Known) (kept : Streams) (app : AppId) (r : Result Unit StepRefused) → IfErr r (λ cause. IsCut (WithdrawsUpto app (is_some (live_at app (net_of old)))) old new cause)
    → IfErr r (λ cause. IsCut (DoesUpto old kept (lines.Drop app)) old new cause)
drop_cut old new kept app r cut = err-weaker (WithdrawsUpto app (is_some (live_at app (net_of old)))) (DoesUpto old kept (lines.Drop app)) (drop-upto old kept app) old new r cut

pub withdrew_done : (old new : Known) (app : AppId) (lived : Bool) → Withdrew old new app lived → IsUntaken old → IsFree old → IsDone (λ made. made ≡ withdrawal app (is_some (live_at app (net_of old)))) old new
unfolding Withdrew IsDone withdrawal
withdrew_done old new app true (lives, took) untaken free = (_, record { came = took.came; good = rw lives refl }, took.free)
withdrew_done old new app false (gone, same) untaken free =
    subst (λ (k : Known). (made : List Step) × CameTo (λ made. made ≡ withdrawal app (is_some (live_at app (net_of old)))) old k made × IsFree k) (sym same)
    ([], record { came = came-none old untaken; good = rw gone refl }, free)

withdraw-due : (old new : Known) (app : AppId) (cause : StepRefused) → new ≡ old → IsStillThere old app cause → HasDue (WithdrawsUpto app (is_some (live_at app (net_of old)))) new [] cause
unfolding IsStillThere HasDue WithdrawsUpto withdrawal
withdraw-due old new app refused.NoMemory same still = tt
withdraw-due old new app (refused.JournalFull most bytes) same (lives, due) = (steps.Withdraw app, subst (λ (k : Known). IsDue k (steps.Withdraw app)) (sym same) due, rw lives (inr refl))

pub withdrew_cut : (old new : Known) (app : AppId) (cause : StepRefused) → new ≡ old → IsUntaken old → IsStillThere old app cause → IsCut (WithdrawsUpto app (is_some (live_at app (net_of old)))) old new cause
unfolding IsCut WithdrawsUpto
withdrew_cut old new app cause same untaken still =
    ([], record { came = subst (λ (k : Known). Came old k []) (sym same) (came-none old untaken); good = inl refl }, withdraw-due old new app cause same still)

-- ## The last line

pub end_done : (known : Known) (kept : Streams) → IsUntaken known → IsFree known → IsDone (λ made. Does as_session known.setup (net_of known) kept lines.End made kept) known known
unfolding IsDone Does
end_done known kept untaken free = ([], record { came = came-none known untaken; good = (refl, refl) }, free)

-- ## A lost place

pub lost_done : (old new : Known) (kept after : Streams) (place : Place) → TookStep old new (steps.Lost place) → IsKept kept place [] after → IsDone (λ made. Does as_session old.setup (net_of old) kept (lines.Lost place) made after) old new
unfolding IsDone Does
lost_done old new kept after place took is = (_, record { came = took.came; good = (refl, is) }, took.free)

lost-upto : (known : Known) (kept : Streams) (place : Place) (after : Streams) → IsKept kept place [] after → DoesUpto known kept (lines.Lost place) (steps.Lost place ∷ [])
unfolding DoesUpto Does
lost-upto known kept place after is = inr (after, (refl, is))

lost-none : (known : Known) (kept : Streams) (place : Place) → DoesUpto known kept (lines.Lost place) []
unfolding DoesUpto DoesPart
lost-none known kept place = inl refl

-- what is then kept
emptied : Streams → Place → Streams
emptied kept place other = if same_place other place then [] else kept other

emptied-kept : (kept : Streams) (place : Place) → IsKept kept place [] (emptied kept place)
unfolding IsKept emptied
emptied-kept kept place other = refl

pub lost_cut : (old new : Known) (kept : Streams) (place : Place) (cause : StepRefused) → new ≡ old → IsUntaken old → IsStopped old (steps.Lost place) cause → IsCut (DoesUpto old kept (lines.Lost place)) old new cause
lost_cut old new kept place cause same untaken stop =
    cut-step (DoesUpto old kept (lines.Lost place)) old new (steps.Lost place) cause same untaken (lost-none old kept place) (lost-upto old kept place (emptied kept place) (emptied-kept kept place)) stop

-- ## Bytes of a place

changed : Streams → Place → Bytes → Streams
changed kept place bytes other = if same_place other place then bytes else kept other

changed-kept : (kept : Streams) (place : Place) (bytes : Bytes) → IsKept kept place bytes (changed kept place bytes)
unfolding IsKept changed
changed-kept kept place bytes other = refl

in-upto : (known : Known) (kept : Streams) (place : Place) (text before : Bytes) (made : List Step) → before ≡ kept place ++ text → HearsUpto place before made → DoesUpto known kept (lines.In place text) made
unfolding HearsUpto DoesUpto DoesPart Does
in-upto known kept place text before made before_is (inl part) = inl (rw before_is at part)
in-upto known kept place text before made before_is (inr (rest, whole)) = inr (changed kept place rest, (rest, rw before_is at whole, changed-kept kept place rest))

in-cut : (old new : Known) (kept : Streams) (place : Place) (text before : Bytes) (r : Result Unit StepRefused) → before ≡ kept place ++ text → IfErr r (λ cause. IsCut (HearsUpto place before) old new cause)
    → IfErr r (λ cause. IsCut (DoesUpto old kept (lines.In place text)) old new cause)
in-cut old new kept place text before r before_is cut = err-weaker (HearsUpto place before) (DoesUpto old kept (lines.In place text)) (λ made. in-upto old kept place text before made before_is) old new r cut

does-in : (known : Known) (kept after : Streams) (place : Place) (text before rest : Bytes) (made : List Step) → before ≡ kept place ++ text → IsKept kept place rest after → Hears place before made rest → Does as_session known.setup (net_of known) kept (lines.In place text) made after
unfolding Does
does-in known kept after place text before rest made before_is is hears = (rest, rw before_is at hears, is)

in-done : (old new : Known) (kept after : Streams) (place : Place) (text before rest : Bytes) (r : Result Unit StepRefused) → before ≡ kept place ++ text → IsKept kept place rest after → OnOk r (IsDone (λ made. Hears place before made rest) old new)
    → OnOk r (IsDone (λ made. Does as_session old.setup (net_of old) kept (lines.In place text) made after) old new)
in-done old new kept after place text before rest r before_is is done =
    ok-weaker (λ made. Hears place before made rest) (λ made. Does as_session old.setup (net_of old) kept (lines.In place text) made after) (λ made. does-in old kept after place text before rest made before_is is) old new r done

pub fed_done : (old new : Known) (kept mid after : Streams) (place : Place) (text : Bytes) (r : Result Unit StepRefused) → IsKept kept place (kept place ++ text) mid → IsKept mid place (after place) after
    → OnOk r (IsDone (λ made. Hears place (mid place) made (after place)) old new) → OnOk r (IsDone (λ made. Does as_session old.setup (net_of old) kept (lines.In place text) made after) old new)
fed_done old new kept mid after place text r fed heard done =
    in-done old new kept after place text (mid place) (after place) r (kept_at kept place (kept place ++ text) mid fed) (kept_through kept mid after place (kept place ++ text) (after place) fed heard) done

pub fed_cut : (old new : Known) (kept mid : Streams) (place : Place) (text : Bytes) (r : Result Unit StepRefused) → IsKept kept place (kept place ++ text) mid → IfErr r (λ cause. IsCut (HearsUpto place (mid place)) old new cause)
    → IfErr r (λ cause. IsCut (DoesUpto old kept (lines.In place text)) old new cause)
fed_cut old new kept mid place text r fed cut = in-cut old new kept place text (mid place) r (kept_at kept place (kept place ++ text) mid fed) cut

pub in_starved : (old : Known) (kept : Streams) (place : Place) (text : Bytes) → IsUntaken old → IsCut (DoesUpto old kept (lines.In place text)) old old refused.NoMemory
unfolding DoesUpto DoesPart HearsPart
in_starved old kept place text untaken = cut-starved (DoesUpto old kept (lines.In place text)) old untaken (inl tt)

-- ## A tick that may be

both : (a b : Bool) → (a && b) ≡ true → (a ≡ true) × (b ≡ true)
both true true e = (refl, refl)
both true false e = cc
both false b e = cc

le-of : (a b : ℕ) → nat_le a b ≡ true → a ≤ b
le-of a b e = grind (arith, nat_tests)

pub may_tick : (moment now : ℕ) → (nat_le moment now && nat_le now 9223372036854775808) ≡ true → (moment ≤ now) × (now ≤ 9223372036854775808)
may_tick moment now e = let (first, later) = both (nat_le moment now) (nat_le now 9223372036854775808) e in (le-of moment now first, le-of now 9223372036854775808 later)

tick-is : (moment now : ℕ) → (nat_le moment now && nat_le now 9223372036854775808) ≡ true → tick_to moment now ≡ steps.Tick now ∷ []
unfolding tick_to
tick-is moment now e = rw e refl

tick-none : (moment now : ℕ) → (nat_le moment now && nat_le now 9223372036854775808) ≡ false → tick_to moment now ≡ []
unfolding tick_to
tick-none moment now e = rw e refl

tick-one : (old new : Known) (now : ℕ) → (nat_le (net_of old).moment now && nat_le now 9223372036854775808) ≡ true → TookStep old new (steps.Tick now) → IsDone (λ made. made ≡ tick_to (net_of old).moment now) old new
unfolding IsDone
tick-one old new now e took = (steps.Tick now ∷ [], record { came = took.came; good = sym (tick-is (net_of old).moment now e) }, took.free)

pub ticked_ok : (old new : Known) (now : ℕ) (r : Result Unit StepRefused) → (nat_le (net_of old).moment now && nat_le now 9223372036854775808) ≡ true → OnOk r (TookStep old new (steps.Tick now)) → OnOk r (IsDone (λ made. made ≡ tick_to (net_of old).moment now) old new)
ticked_ok old new now (Ok u) e took = tick-one old new now e took
ticked_ok old new now (Err cause) e took = tt

pub ticked_err : (old new : Known) (now : ℕ) (r : Result Unit StepRefused) → (nat_le (net_of old).moment now && nat_le now 9223372036854775808) ≡ true → OnErr r (new ≡ old) → IsUntaken old → IfErr r (λ cause. IsStopped old (steps.Tick now) cause)
    → IfErr r (λ cause. IsCut (TicksUpto (net_of old).moment now) old new cause)
unfolding TicksUpto
ticked_err old new now (Ok u) e same untaken stop = tt
ticked_err old new now (Err cause) e same untaken stop = cut-step (TicksUpto (net_of old).moment now) old new (steps.Tick now) cause same untaken (inl refl) (inr (sym (tick-is (net_of old).moment now e))) stop

pub not_ticked : (old : Known) (now : ℕ) → (nat_le (net_of old).moment now && nat_le now 9223372036854775808) ≡ false → IsUntaken old → IsFree old → IsDone (λ made. made ≡ tick_to (net_of old).moment now) old old
unfolding IsDone
not_ticked old now e untaken free = ([], record { came = came-none old untaken; good = sym (tick-none (net_of old).moment now e) }, free)
