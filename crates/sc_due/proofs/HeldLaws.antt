-- Laws of what is held: what the map's calls make of it, and what the events make of it.
use Rattle.std.proofs.Common.{◌≡◌, ℕ, ◌≤◌, ◌<◌, true, false, cond, not, T, List, [], ◌∷◌, ◌++◌, Some, None, refl, sym, ap, subst, ◌∙◌, arith}
use Rattle.std.proofs.lemmas.Bool.{false≢true}
use Rattle.std.proofs.lemmas.Bool.Decides.{nat_tests}
use Rattle.std.specs.Prelude.{is_some, nat_le, length, Option, IsSome, IfSome}
use Rattle.std.specs.Option.{option_map}
use Rattle.std.specs.declared.cmp.Ordering.TheVariants.{Less, Equal, Greater}
use Rattle.std.specs.List.{filter, slice_get}
use Rattle.std.specs.Ordering.{is_eq, eq_by_cmp, match_ordering}
use Rattle.std.specs.Map.{keys_of, remove_entry}
use Rattle.std.specs.BTreeMap.{insert_entry, is_at}
use Rattle.std.specs.BTreeSet.{insert_key}
use Rattle.std.proofs.lemmas.Cmp.{tied_itself}
use Rattle.sc_model.specs.Timers.{DueEntry, DueEvent, due_order, running, is_due, due_by}
use Rattle.sc_model.specs.Timers.DueEvent.{Made, Ended}
use Rattle.sc_model.proofs.DueLaws.{total, rises-in_order, running_first, running_made, running_ended, due_of_running, without_tied, rises_after, late_from_first, first_from_due}
use Rattle.sc_model.proofs.RisingKeys.{rises}
use Rattle.sc_due.specs.Held.{Held, IsHeldAfter}

keys-insert_entry : {T : Type 0} (key : DueEntry) (what : T) (held : Held T) → keys_of (insert_entry due_order held key what) ≡ insert_key due_order (keys_of held) key
keys-insert_entry key what [] = refl
keys-insert_entry {T} key what (e ∷ es) = elim (due_order key e.0) as (λ o. keys_of (match_ordering o ((key, what) ∷ e ∷ es) ((e.0, what) ∷ es) (e ∷ insert_entry due_order es key what)) ≡ match_ordering o (key ∷ e.0 ∷ keys_of es) (e.0 ∷ keys_of es) (e.0 ∷ insert_key due_order (keys_of es) key))
    [ Less ↦ refl | Equal ↦ refl | Greater ↦ ap (λ l. e.0 ∷ l) (keys-insert_entry key what es) ]

keys-remove_entry : {T : Type 0} (key : DueEntry) (held : Held T) → rises due_order (keys_of held) → keys_of (remove_entry (is_at (due_order key)) held) ≡ filter (λ (x : DueEntry). not (eq_by_cmp due_order key x)) (keys_of held)
keys-remove_entry key [] up = refl
keys-remove_entry {T} key (e ∷ es) up = elim (eq_by_cmp due_order key e.0) as (λ b. eq_by_cmp due_order key e.0 ≡ b → keys_of (cond b es (e ∷ remove_entry (is_at (due_order key)) es)) ≡ cond (not b) (e.0 ∷ filter (λ (x : DueEntry). not (eq_by_cmp due_order key x)) (keys_of es)) (filter (λ (x : DueEntry). not (eq_by_cmp due_order key x)) (keys_of es))) [
  | true ↦ λ tied. sym (without_tied key e.0 (keys_of es) tied (rises_after e.0 (keys_of es) up).0)
  | false ↦ λ _. ap (λ l. e.0 ∷ l) (keys-remove_entry key es (rises_after e.0 (keys_of es) up).1)
] refl

none_some : {A : Type 0} (a : A) → ¬ (None ≡ Some a)
none_some a e = subst (λ o. T (is_some o)) (sym e) tt

late_test : (now due : ℕ) → now < due → nat_le due now ≡ false
late_test now due late = grind (arith, nat_tests, late)

due_test : (now due : ℕ) → due ≤ now → nat_le due now ≡ true
due_test now due come = grind (arith, nat_tests, come)

-- what is held rises
held_rises : {T : Type 0} (events : List DueEvent) (held : Held T) → IsHeldAfter events held → rises due_order (keys_of held)
held_rises events held stands = subst (λ (l : List DueEntry). rises due_order l) (sym stands) (rises-in_order (running events))

pub nothing_held : {X : Type 0} (held : Held X) → held ≡ [] → IsHeldAfter [] held
nothing_held held none = ap keys_of none ∙ sym running_first

-- in each law below `kept` are the map's entries, which are what is held

pub one_made : {T : Type 0} (events : List DueEvent) (held kept left : Held T) (key : DueEntry) (what : T) → kept ≡ held → left ≡ insert_entry due_order kept key what → IsHeldAfter events held → IsHeldAfter (events ++ Made key ∷ []) left
one_made events held kept left key what same is stands =
    ap keys_of is ∙ keys-insert_entry key what kept ∙ ap (λ l. insert_key due_order (keys_of l) key) same ∙ ap (λ l. insert_key due_order l key) stands ∙ sym (running_made events key)

keys_left : {T : Type 0} (events : List DueEvent) (held : Held T) (key : DueEntry) → IsHeldAfter events held → IsHeldAfter (events ++ Ended key ∷ []) (remove_entry (is_at (due_order key)) held)
keys_left events held key stands = keys-remove_entry key held (held_rises events held stands) ∙ ap (λ l. filter (λ (x : DueEntry). not (eq_by_cmp due_order key x)) l) stands ∙ sym (running_ended events key)

pub one_ended : {T : Type 0} (events : List DueEvent) (held kept left : Held T) (key : DueEntry) → kept ≡ held → left ≡ remove_entry (is_at (due_order key)) kept → IsHeldAfter events held → IsHeldAfter (events ++ Ended key ∷ []) left
one_ended events held kept left key same is stands = ap keys_of is ∙ ap (λ l. keys_of (remove_entry (is_at (due_order key)) l)) same ∙ keys_left events held key stands

pub first_ended : {T : Type 0} (held kept left : Held T) (popped : Option (DueEntry × T)) → kept ≡ held → IfSome popped (λ p. kept ≡ p ∷ left) → IfSome popped (λ p. (events : List DueEvent) → IsHeldAfter events held → IsHeldAfter (events ++ Ended p.0 ∷ []) left)
first_ended held kept left None same is = tt
first_ended held kept left (Some p) same is = λ events stands.
    ap (λ o. keys_of (cond (is_eq o) left (p ∷ remove_entry (is_at (due_order p.0)) left))) (sym (tied_itself total p.0))
    ∙ keys_left events (p ∷ left) p.0 (ap keys_of (sym is ∙ same) ∙ stands)

pub none_held : {T : Type 0} (events : List DueEvent) (now : ℕ) (held kept : Held T) → kept ≡ held → ¬ (0 < length kept) → IsHeldAfter events held → None ≡ slice_get (due_by events now) 0
none_held events now held [] same none stands = ap (λ l. slice_get l 0) (sym (due_of_running events now ∙ ap (filter (is_due now)) (sym stands ∙ ap keys_of (sym same))))
none_held events now held (e ∷ es) same none stands = absurd (none (omega arith))

pub first_late : {T : Type 0} (events : List DueEvent) (now : ℕ) (held kept : Held T) (first : DueEntry × T) → kept ≡ held → slice_get kept 0 ≡ Some first → now < first.0.due → IsHeldAfter events held → None ≡ slice_get (due_by events now) 0
first_late events now held [] first same is late stands = absurd (none_some _ is)
first_late events now held (e ∷ es) first same is late stands =
    ap (λ l. slice_get l 0) (sym (due_of_running events now ∙ ap (filter (is_due now)) (sym stands ∙ ap keys_of (sym same))
    ∙ late_from_first now e.0 (keys_of es) (held_rises events (e ∷ es) (ap keys_of same ∙ stands)) (late_test now e.0.due (subst (λ o. IfSome o (λ p. now < p.0.due)) (sym is) late))))

pub first_popped : {T : Type 0} (events : List DueEvent) (now : ℕ) (held kept left : Held T) (first : DueEntry × T) (popped : Option (DueEntry × T)) → kept ≡ held → slice_get kept 0 ≡ Some first → first.0.due ≤ now
    → (0 < length kept → IsSome popped) → IfSome popped (λ p. kept ≡ p ∷ left) → IsHeldAfter events held → option_map (λ r. r.0) popped ≡ slice_get (due_by events now) 0
first_popped events now held [] left first popped same is due there took stands = absurd (none_some _ is)
first_popped events now held (e ∷ es) left first None same is due there took stands = absurd (false≢true (there (omega arith)))
first_popped events now held (e ∷ es) left first (Some p) same is due there took stands =
    ap (λ l. option_map (λ r. r.0) (slice_get l 0)) (sym took)
    ∙ sym (ap (λ l. slice_get l 0) (due_of_running events now ∙ ap (filter (is_due now)) (sym stands ∙ ap keys_of (sym same)))
    ∙ first_from_due now e.0 (keys_of es) (due_test now e.0.due (subst (λ o. IfSome o (λ q. q.0.due ≤ now)) (sym is) due)))
