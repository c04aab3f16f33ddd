-- Laws of what is due: what one more event makes of the entries that run, by their order.
use Rattle.std.proofs.Common.{◌≡◌, ℕ, ◌≤◌, ◌<◌, Bool, true, false, cond, not, ◌&&◌, ◌||◌, T, List, [], ◌∷◌, ◌++◌, Some, refl, sym, ap, subst, ◌∙◌, ◌≢◌, arith}
use Rattle.std.proofs.lemmas.Bool.Decides.{nat_tests}
use Rattle.std.proofs.lemmas.Bool.{false≢true}
use Rattle.std.specs.Prelude.{nat_le}
use Rattle.std.specs.declared.cmp.Ordering.{Ordering}
use Rattle.std.specs.declared.cmp.Ordering.TheVariants.{Less, Equal, Greater}
use Rattle.std.specs.List.{filter, slice_get}
use Rattle.std.specs.Ordering.{nat_cmp, is_eq, is_lt, is_gt, eq_by_cmp, ordering_then}
use Rattle.std.specs.Cmp.{IsTotalOrder}
use Rattle.std.specs.BTreeSet.{insert_key}
use Rattle.std.specs.FinMap.Entries.{below_all, is_sorted}
use Rattle.std.proofs.lemmas.Cmp.{nat_cmp_total, on_total, then_total, alike_right, eq_by_cmp_equiv, by_ranked, ranked}
use Rattle.std.proofs.lemmas.Map.Lookups.{CmpEqualImpliesEq, exact_unsigned, exact_pairs}
use Rattle.sc_parts.specs.declared.timers.TimerName.{TimerName}
use Rattle.sc_parts.specs.TimerNames.{timer_order}
use Rattle.sc_parts.proofs.TimerLaws.{timers_total, timers_exact}
use Rattle.sc_model.specs.Timers.{DueEntry, DueEvent, due_order, entry_of, is_met, running, in_order, is_due, due_by}
use Rattle.sc_model.specs.Timers.DueEvent.{Made, Ended}
use Rattle.sc_model.proofs.RisingKeys.{marked, has, rises, rises-insert_key, has-insert_key, rises-filter, has-filter, same_keys}

-- ## The order of entries

pub total : IsTotalOrder due_order
total = then_total (on_total (λ (e : DueEntry). e.due) nat_cmp_total) (then_total (on_total (λ (e : DueEntry). e.app.host) nat_cmp_total) (then_total (on_total (λ (e : DueEntry). e.app.serial) nat_cmp_total) (on_total (λ (e : DueEntry). e.timer) timers_total)))

-- entries that compare alike are one
pub exact : CmpEqualImpliesEq due_order
exact a b h =
    ap (λ (p : ℕ × (ℕ × (ℕ × TimerName))). record { due = p.0; app = record { host = p.1.0; serial = p.1.1.0 }; timer = p.1.1.1 })
    (exact_pairs nat_cmp _ exact_unsigned (exact_pairs nat_cmp _ exact_unsigned (exact_pairs nat_cmp timer_order exact_unsigned timers_exact)) (a.due, (a.app.host, (a.app.serial, a.timer))) (b.due, (b.app.host, (b.app.serial, b.timer))) h)

-- ## What one more event makes of the entries that run

or-false : (b : Bool) → b ≡ (b || false)
or-false true = refl
or-false false = refl

or_later : (a b c : Bool) → (a || (b || c)) ≡ ((a || b) || c)
or_later true b c = refl
or_later false b c = refl

met_more : (entry : DueEntry) (events : List DueEvent) (event : DueEvent) → is_met entry (events ++ event ∷ []) ≡ (is_met entry events || is_eq (due_order entry (entry_of event)))
met_more entry [] event = sym (or-false _)
met_more entry (x ∷ xs) event = ap (λ b. is_eq (due_order entry (entry_of x)) || b) (met_more entry xs event) ∙ or_later (is_eq (due_order entry (entry_of x))) (is_met entry xs) _

has_kept : (met : Bool) (entry : DueEntry) (l : List DueEntry) (q : DueEntry) → has due_order (cond met l (entry ∷ l)) q ≡ cond met (has due_order l q) (eq_by_cmp due_order q entry || has due_order l q)
has_kept true entry l q = refl
has_kept false entry l q = refl

made_table : (met tied a b h : Bool) → (tied ≡ true → b ≡ a) → cond (met || tied) (a || h) (b || (a || h)) ≡ (a || cond met h (b || h))
made_table true tied a b h same = refl
made_table false true true b h same = refl
made_table false true false b h same = ap (λ x. x || h) (sym (same refl))
made_table false false true true h same = refl
made_table false false true false h same = refl
made_table false false false b h same = refl

ended_table : (met tied a b h : Bool) → (tied ≡ true → b ≡ a) → (b ≡ true → a ≡ true → tied ≡ true) → cond (met || tied) (not a && h) (b || (not a && h)) ≡ (not a && cond met h (b || h))
ended_table true tied a b h same joined = refl
ended_table false true true b h same joined = refl
ended_table false true false b h same joined = ap (λ x. x || h) (sym (same refl))
ended_table false false true true h same joined = absurd (false≢true (joined refl refl))
ended_table false false true false h same joined = refl
ended_table false false false b h same joined = refl

greater_less : Greater ≢ Less
greater_less h = subst (λ (o : Ordering). T (is_gt o)) h tt

is_tied : (o : Ordering) → is_eq o ≡ true → o ≡ Equal
is_tied Equal h = refl
is_tied Less h = absurd (false≢true h)
is_tied Greater h = absurd (false≢true h)

less_from : (o : Ordering) → T (is_lt o) → o ≡ Less
less_from Less h = refl
less_from Equal h = absurd h
less_from Greater h = absurd h

and_first : (a b : Bool) → T (a && b) → T a
and_first true b h = tt
and_first false b h = absurd h

and_second : (a b : Bool) → T (a && b) → T b
and_second true b h = h
and_second false b h = absurd h

not_later : (x y : ℕ) (rest : Ordering) → ordering_then (nat_cmp x y) rest ≡ Less → x ≤ y
not_later x y rest h = by_ranked (x < y) (x ≡ y) (y < x) (nat_cmp x y) (ranked x y (nat_cmp x y) refl)
    (λ _ below. omega (arith, below))
    (λ _ same. omega (arith, same))
    (λ above _. absurd (greater_less (sym (ap (λ o. ordering_then o rest) above) ∙ h)))

still_late : (now x y : ℕ) → nat_le x now ≡ false → x ≤ y → nat_le y now ≡ false
still_late now x y late below = grind (arith, nat_tests, late, below)

tied_alike : (q e f : DueEntry) → eq_by_cmp due_order e f ≡ true → eq_by_cmp due_order q e ≡ eq_by_cmp due_order q f
tied_alike q e f t = ap is_eq (alike_right total e f q (is_tied _ t))

tied_joined : (q e f : DueEntry) → eq_by_cmp due_order q e ≡ true → eq_by_cmp due_order q f ≡ true → eq_by_cmp due_order e f ≡ true
tied_joined q e f s t = sym ((eq_by_cmp_equiv total).congr q e f s) ∙ t

has-made : (entry q : DueEntry) (events : List DueEvent) → has due_order (running (events ++ Made entry ∷ [])) q ≡ (eq_by_cmp due_order q entry || has due_order (running events) q)
unfolding running
has-made entry q [] = refl
has-made entry q (Ended e ∷ later) = has-made entry q later
has-made entry q (Made e ∷ later) =
    ap (λ b. has due_order (cond b (running (later ++ Made entry ∷ [])) (e ∷ running (later ++ Made entry ∷ []))) q) (met_more e later (Made entry))
    ∙ has_kept (is_met e later || eq_by_cmp due_order e entry) e (running (later ++ Made entry ∷ [])) q
    ∙ ap (λ h. cond (is_met e later || eq_by_cmp due_order e entry) h (eq_by_cmp due_order q e || h)) (has-made entry q later)
    ∙ made_table (is_met e later) (eq_by_cmp due_order e entry) (eq_by_cmp due_order q entry) (eq_by_cmp due_order q e) (has due_order (running later) q) (tied_alike q e entry)
    ∙ ap (λ b. eq_by_cmp due_order q entry || b) (sym (has_kept (is_met e later) e (running later) q))

has-ended : (entry q : DueEntry) (events : List DueEvent) → has due_order (running (events ++ Ended entry ∷ [])) q ≡ (not (eq_by_cmp due_order q entry) && has due_order (running events) q)
unfolding running
has-ended entry q [] = elim (eq_by_cmp due_order q entry) as (λ b. false ≡ (not b && false)) [ true ↦ refl | false ↦ refl ]
has-ended entry q (Ended e ∷ later) = has-ended entry q later
has-ended entry q (Made e ∷ later) =
    ap (λ b. has due_order (cond b (running (later ++ Ended entry ∷ [])) (e ∷ running (later ++ Ended entry ∷ []))) q) (met_more e later (Ended entry))
    ∙ has_kept (is_met e later || eq_by_cmp due_order e entry) e (running (later ++ Ended entry ∷ [])) q
    ∙ ap (λ h. cond (is_met e later || eq_by_cmp due_order e entry) h (eq_by_cmp due_order q e || h)) (has-ended entry q later)
    ∙ ended_table (is_met e later) (eq_by_cmp due_order e entry) (eq_by_cmp due_order q entry) (eq_by_cmp due_order q e) (has due_order (running later) q) (tied_alike q e entry) (tied_joined q e entry)
    ∙ ap (λ b. not (eq_by_cmp due_order q entry) && b) (sym (has_kept (is_met e later) e (running later) q))

-- ## In order

pub rises-in_order : (entries : List DueEntry) → rises due_order (in_order entries)
unfolding in_order
rises-in_order [] = tt
rises-in_order (e ∷ es) = rises-insert_key due_order total e (in_order es) (rises-in_order es)

has-in_order : (q : DueEntry) (entries : List DueEntry) → has due_order (in_order entries) q ≡ has due_order entries q
unfolding in_order
has-in_order q [] = refl
has-in_order q (e ∷ es) = has-insert_key due_order total q e (in_order es) ∙ ap (λ b. eq_by_cmp due_order q e || b) (has-in_order q es)

-- nothing runs before the first event
pub running_first : in_order (running []) ≡ []
unfolding in_order running
running_first = refl

-- what is made goes to its place
pub running_made : (events : List DueEvent) (entry : DueEntry) → in_order (running (events ++ Made entry ∷ [])) ≡ insert_key due_order (in_order (running events)) entry
running_made events entry = same_keys due_order total exact _ _
    (rises-in_order (running (events ++ Made entry ∷ [])))
    (rises-insert_key due_order total entry (in_order (running events)) (rises-in_order (running events)))
    (λ q. has-in_order q (running (events ++ Made entry ∷ [])) ∙ has-made entry q events
    ∙ ap (λ b. eq_by_cmp due_order q entry || b) (sym (has-in_order q (running events)))
    ∙ sym (has-insert_key due_order total q entry (in_order (running events))))

-- what ends is gone, and the rest stays
pub running_ended : (events : List DueEvent) (entry : DueEntry) → in_order (running (events ++ Ended entry ∷ [])) ≡ filter (λ (e : DueEntry). not (eq_by_cmp due_order entry e)) (in_order (running events))
running_ended events entry = same_keys due_order total exact _ _
    (rises-in_order (running (events ++ Ended entry ∷ [])))
    (rises-filter due_order total (λ (e : DueEntry). not (eq_by_cmp due_order entry e)) (in_order (running events)) (rises-in_order (running events)))
    (λ q. has-in_order q (running (events ++ Ended entry ∷ [])) ∙ has-ended entry q events
    ∙ ap (λ b. not b && has due_order (running events) q) ((eq_by_cmp_equiv total).symm q entry)
    ∙ ap (λ b. not (eq_by_cmp due_order entry q) && b) (sym (has-in_order q (running events)))
    ∙ sym (has-filter due_order total (λ (e : DueEntry). not (eq_by_cmp due_order entry e)) q (in_order (running events)) (λ x t. ap (λ (e : DueEntry). not (eq_by_cmp due_order entry e)) (sym (exact q x t)))))

-- what is due are those that run, in order, whose moment has come
pub due_of_running : (events : List DueEvent) (now : ℕ) → due_by events now ≡ filter (is_due now) (in_order (running events))
unfolding due_by
due_of_running events now = same_keys due_order total exact _ _
    (rises-in_order (filter (is_due now) (running events)))
    (rises-filter due_order total (is_due now) (in_order (running events)) (rises-in_order (running events)))
    (λ q. has-in_order q (filter (is_due now) (running events))
    ∙ has-filter due_order total (is_due now) q (running events) (λ x t. ap (is_due now) (sym (exact q x t)))
    ∙ ap (λ b. is_due now q && b) (sym (has-in_order q (running events)))
    ∙ sym (has-filter due_order total (is_due now) q (in_order (running events)) (λ x t. ap (is_due now) (sym (exact q x t)))))

-- ## The first of them

later_due : (e f : DueEntry) → due_order e f ≡ Less → e.due ≤ f.due
later_due e f h = not_later e.due f.due _ h

-- where the first of entries in order isn't due, none is
none_due : (now : ℕ) (e : DueEntry) (es : List DueEntry) → is_due now e ≡ false → T (below_all due_order e (marked es)) → filter (is_due now) es ≡ []
none_due now e [] late h = refl
none_due now e (f ∷ fs) late h =
    ap (λ b. cond b (f ∷ filter (is_due now) fs) (filter (is_due now) fs)) (still_late now e.due f.due late (later_due e f (less_from _ (and_first _ _ h))))
    ∙ none_due now e fs late (and_second _ _ h)

pub late_from_first : (now : ℕ) (e : DueEntry) (es : List DueEntry) → rises due_order (e ∷ es) → is_due now e ≡ false → filter (is_due now) (e ∷ es) ≡ []
late_from_first now e es up late =
    ap (λ b. cond b (e ∷ filter (is_due now) es) (filter (is_due now) es)) late
    ∙ none_due now e es late (and_first _ _ up)

pub first_from_due : (now : ℕ) (e : DueEntry) (es : List DueEntry) → is_due now e ≡ true → slice_get (filter (is_due now) (e ∷ es)) 0 ≡ Some e
first_from_due now e es due = ap (λ b. slice_get (cond b (e ∷ filter (is_due now) es) (filter (is_due now) es)) 0) due

-- entries after one that is alike stay
pub without_tied : (entry e : DueEntry) (es : List DueEntry) → eq_by_cmp due_order entry e ≡ true → T (below_all due_order e (marked es)) → filter (λ (x : DueEntry). not (eq_by_cmp due_order entry x)) es ≡ es
without_tied entry e [] tied above = refl
without_tied entry e (f ∷ fs) tied above =
    ap (λ o. cond (not (is_eq o)) (f ∷ filter (λ (x : DueEntry). not (eq_by_cmp due_order entry x)) fs) (filter (λ (x : DueEntry). not (eq_by_cmp due_order entry x)) fs)) (total.congr entry e f (is_tied _ tied) ∙ less_from _ (and_first _ _ above))
    ∙ ap (λ l. f ∷ l) (without_tied entry e fs tied (and_second _ _ above))

pub rises_after : (e : DueEntry) (es : List DueEntry) → rises due_order (e ∷ es) → T (below_all due_order e (marked es)) × rises due_order es
rises_after e es up = (and_first (below_all due_order e (marked es)) (is_sorted due_order (marked es)) up, and_second (below_all due_order e (marked es)) (is_sorted due_order (marked es)) up)
