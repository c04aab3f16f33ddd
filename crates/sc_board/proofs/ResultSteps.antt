-- Each step of a pass keeps the rule of the queue of results.
use Rattle.std.proofs.Common.{◌≡◌, ◌≢◌, ℕ, ◌+◌, ◌<◌, ◌||◌, Bool, true, false, cond, true≢false, List, [], ◌∷◌, ◌++◌, length, set, sym, refl, ap, ◌∙◌, subst, ⊎_elim, append-nil, append_assoc, length-append, length-set, arith, nat_eq, eq-eqb, ne_eqb}
use Rattle.std.specs.List.{sum_by, AllByRecursion}
use Rattle.std.proofs.lemmas.List.Sums.{sum_by-cons, sum_by-append, sum_by_push}
use mathlib.Core.Option.{some}
use lib.ListN.{get_elem?}
use Rattle.crossbeam_queue.specs.Fifo.{Pushes, Pops, Forks, Merges, Learns}
use Rattle.crossbeam_queue.proofs.Lists.{at_set}
use Rattle.sc_servlets.specs.declared.done.Done.{Done}
use Rattle.sc_board.specs.declared.results.ResultView.{ResultView}
use Rattle.sc_board.specs.ResultRules.{AreInOrder, IsResultView, IsResultWhole, ResultsKept, after_bring, after_collect, brought_by, collects_weight, first_result_view, has_some, joined_result_view, new_result_view, result_view_left, spent_result_view}
use Rattle.sc_board.proofs.Totals.{all_more, all_snoc, alone, at_length, each_one, each_set, each_snoc, either_way, others_none, some_or_none, total_set, total_snoc, within_length}

collecting : (v : ResultView) → IsResultView v → v.first ≡ true → 0 < v.parts
collecting v is first = ⊎_elim (λ (none : v.parts ≡ 0). absurd (true≢false (sym first ∙ ap (λ (u : ResultView). u.first) (is.spent none)))) (λ (some_part : 0 < v.parts). some_part) (some_or_none v.parts)

no_weight : (b : Bool) → collects_weight b ≡ 0 → b ≡ false
no_weight true none = absurd (omega (arith, none))
no_weight false none = refl

weight_of_both : (a b : Bool) → (a ≡ true → b ≡ false) → collects_weight (a || b) ≡ collects_weight a + collects_weight b
weight_of_both true b one = sym (ap (λ c. 1 + collects_weight c) (one refl))
weight_of_both false b one = omega arith

or_false : (a b : Bool) → a || b ≡ false → (a ≡ false) × (b ≡ false)
or_false true b none = absurd (true≢false none)
or_false false b none = (refl, none)

has_none : (results : List Done) → has_some results ≡ false → results ≡ []
has_none [] none = refl
has_none (done ∷ later) none = absurd (true≢false none)

picked-snoc : (b : Bool) (first : Done) (rest : List Done) (done : Done) → cond b (first ∷ (rest ++ done ∷ [])) (rest ++ done ∷ []) ≡ cond b (first ∷ rest) rest ++ done ∷ []
picked-snoc true first rest done = refl
picked-snoc false first rest done = refl

-- one more result, of this pass
one_more : (port : ℕ) (who : List ℕ) (results : List Done) (done : Done) → length who ≡ length results → brought_by port (who ++ port ∷ []) (results ++ done ∷ []) ≡ brought_by port who results ++ done ∷ []
one_more port [] [] done same = ap (λ b. cond b (done ∷ []) []) (eq-eqb port port refl)
one_more port [] (x ∷ xs) done same = absurd (omega (arith, same))
one_more port (one ∷ who) [] done same = absurd (omega (arith, same))
one_more port (one ∷ who) (x ∷ xs) done same =
    ap (λ rest. cond (nat_eq one port) (x ∷ rest) rest) (one_more port who xs done (omega (arith, same))) ∙ picked-snoc (nat_eq one port) x (brought_by port who xs) done

-- one more result, of another
one_else : (port other : ℕ) (who : List ℕ) (results : List Done) (done : Done) → other ≢ port → length who ≡ length results → brought_by port (who ++ other ∷ []) (results ++ done ∷ []) ≡ brought_by port who results
one_else port other [] [] done apart same = ap (λ b. cond b (done ∷ []) []) (ne_eqb other port apart)
one_else port other [] (x ∷ xs) done apart same = absurd (omega (arith, same))
one_else port other (one ∷ who) [] done apart same = absurd (omega (arith, same))
one_else port other (one ∷ who) (x ∷ xs) done apart same = ap (λ rest. cond (nat_eq one port) (x ∷ rest) rest) (one_else port other who xs done apart (omega (arith, same)))

-- a pass that is to come brought none
none_yet : (port : ℕ) (who : List ℕ) (results : List Done) → AllByRecursion (λ (one : ℕ). one < port) who → brought_by port who results ≡ []
none_yet port [] results below = refl
none_yet port (one ∷ who) [] below = refl
none_yet port (one ∷ who) (x ∷ xs) below = ap (λ b. cond b (x ∷ brought_by port who xs) (brought_by port who xs)) (ne_eqb one port (λ same. let less = below.0 in omega (arith, same, less))) ∙ none_yet port who xs below.1

one_collects : (items : List Done) (views : List ResultView) (port : ℕ) (v : ResultView) (other : ℕ) (w : ResultView) → ResultsKept items views → get_elem? views port ≡ some v → other ≢ port → get_elem? views other ≡ some w
    → v.first ≡ true → w.first ≡ false
one_collects items views port v other w h at apart there first =
    no_weight w.first (others_none (λ (u : ResultView). collects_weight u.first) views port v at (h.one ∙ sym (ap collects_weight first)) other w apart there)

-- in a step of one view, what was brought grows by as much as what was collected and what is queued
kept : (items after : List Done) (views : List ResultView) (port : ℕ) (v w : ResultView) → ResultsKept items views → get_elem? views port ≡ some v
    → w.parts ≡ v.parts → w.first ≡ v.first
    → ((f : Done → ℕ) → sum_by f w.brought + (sum_by f v.collected + sum_by f items) ≡ sum_by f v.brought + (sum_by f w.collected + sum_by f after))
    → IsResultView w → AreInOrder after (set views port w) → ResultsKept after (set views port w)
kept items after views port v w h at parts first weighs is order = record {
  parts = let s = total_set (λ (u : ResultView). u.parts) views port v w at in let p = h.parts in omega (arith, s, p, parts);
  one = let s = total_set (λ (u : ResultView). collects_weight u.first) views port v w at in let p = h.one in let same = ap collects_weight first in omega (arith, s, p, same);
  balanced = λ f.
      let s = total_set (λ (u : ResultView). sum_by f u.brought) views port v w at in
      let t = total_set (λ (u : ResultView). sum_by f u.collected) views port v w at in
      let p = h.balanced f in
      let q = weighs f in
      omega (arith, s, t, p, q);
  views_are = each_set IsResultView views port w is h.views_are;
  order = order;
}

pub begins : ResultsKept [] (first_result_view ∷ [])
begins = record {
  parts = refl;
  one = refl;
  balanced = λ f. refl;
  views_are = each_one IsResultView first_result_view (record { plain = λ other. absurd (true≢false other); spent = λ none. absurd (omega (arith, none)) });
  order = record {
    collected = [];
    who = [];
    as_many = refl;
    below = tt;
    first_has = each_one (λ (v : ResultView). v.first ≡ true → v.collected ≡ []) first_result_view (λ _. refl);
    in_order = each_one (λ (v : ResultView). 0 < v.parts → v.mixed ≡ false → [] ≡ v.brought) first_result_view (λ _ _. refl);
  };
}

still_below : (views : List ResultView) (port : ℕ) (w : ResultView) (who : List ℕ) → AllByRecursion (λ (one : ℕ). one < length views) who → AllByRecursion (λ (one : ℕ). one < length (set views port w)) who
still_below views port w who below = subst (λ n. AllByRecursion (λ (one : ℕ). one < n) who) (sym (length-set views port w)) below

order_brought : (items : List Done) (views : List ResultView) (port : ℕ) (v : ResultView) (done : Done) → get_elem? views port ≡ some v → 0 < v.parts → AreInOrder items views → AreInOrder (items ++ done ∷ []) (set views port (after_bring v done))
order_brought items views port v done at some_part o =
    let w = after_bring v done in
    let all : o.collected ++ (items ++ done ∷ []) ≡ (o.collected ++ items) ++ done ∷ [] = sym (append_assoc o.collected items (done ∷ [])) in
    record {
      collected = o.collected;
      who = o.who ++ port ∷ [];
      as_many =
          let a = length-append o.who (port ∷ []) in
          let b = ap length all in
          let c = length-append (o.collected ++ items) (done ∷ []) in
          let same = o.as_many in
          omega (arith, a, b, c, same);
      below = still_below views port w (o.who ++ port ∷ []) (all_snoc (λ (one : ℕ). one < length views) o.who port o.below (within_length views port v at));
      first_has = each_set (λ (u : ResultView). u.first ≡ true → u.collected ≡ o.collected) views port w (o.first_has port v at) o.first_has;
      in_order = λ j u there part mixed. ap (λ results. brought_by j (o.who ++ port ∷ []) results) all ∙ ⊎_elim
          (λ (x : (j ≡ port) × (w ≡ u)).
          let here : brought_by port (o.who ++ port ∷ []) ((o.collected ++ items) ++ done ∷ []) ≡ v.brought ++ done ∷ [] =
          one_more port o.who (o.collected ++ items) done o.as_many ∙ ap (λ results. results ++ done ∷ []) (o.in_order port v at some_part (ap (λ (y : ResultView). y.mixed) x.1 ∙ mixed)) in
          ap (λ n. brought_by n (o.who ++ port ∷ []) ((o.collected ++ items) ++ done ∷ [])) x.0 ∙ here ∙ ap (λ (y : ResultView). y.brought) x.1)
          (λ (x : (j ≢ port) × (get_elem? views j ≡ some u)).
          one_else j port o.who (o.collected ++ items) done (λ same. x.0 (sym same)) o.as_many ∙ o.in_order j u x.1 part mixed)
          (at_set views port j w u there);
    }

pub brings : (n port : ℕ) (v : ResultView) (done : Done) → 0 < v.parts → Pushes ResultsKept n port v done (λ w. w ≡ after_bring v done)
brings n port v done some_part items views room h at =
    let is = h.views_are port v at in
    let w = after_bring v done in (
      w,
      kept items (items ++ done ∷ []) views port v w h at refl refl
          (λ f. let a = sum_by_push f v.brought done in let b = sum_by_push f items done in omega (arith, a, b))
          (record { plain = is.plain; spent = λ none. absurd (omega (arith, none, some_part)) })
          (order_brought items views port v done at some_part h.order),
      refl,
    )

order_collected : (done : Done) (items : List Done) (views : List ResultView) (port : ℕ) (v : ResultView) → get_elem? views port ≡ some v → v.first ≡ true → ResultsKept (done ∷ items) views
    → AreInOrder items (set views port (after_collect v done))
order_collected done items views port v at first h =
    let o = h.order in
    let w = after_collect v done in
    let is = h.views_are port v at in
    let all : (o.collected ++ done ∷ []) ++ items ≡ o.collected ++ done ∷ items = append_assoc o.collected (done ∷ []) items in
    record {
      collected = o.collected ++ done ∷ [];
      who = o.who;
      as_many = o.as_many ∙ sym (ap length all);
      below = still_below views port w o.who o.below;
      first_has = λ j u there mark. ⊎_elim
          (λ (x : (j ≡ port) × (w ≡ u)). sym (ap (λ (y : ResultView). y.collected) x.1) ∙ ap (λ results. results ++ done ∷ []) (o.first_has port v at first))
          (λ (x : (j ≢ port) × (get_elem? views j ≡ some u)). absurd (true≢false (sym mark ∙ one_collects (done ∷ items) views port v j u h at x.0 x.1 first)))
          (at_set views port j w u there);
      in_order = λ j u there part mixed. ap (λ results. brought_by j o.who results) all ∙ ⊎_elim
          (λ (x : (j ≡ port) × (w ≡ u)).
          ap (λ n. brought_by n o.who (o.collected ++ done ∷ items)) x.0 ∙ o.in_order port v at (collecting v is first) (ap (λ (y : ResultView). y.mixed) x.1 ∙ mixed) ∙ ap (λ (y : ResultView). y.brought) x.1)
          (λ (x : (j ≢ port) × (get_elem? views j ≡ some u)). o.in_order j u x.1 part mixed)
          (at_set views port j w u there);
    }

pub collects : (port : ℕ) (v : ResultView) → v.first ≡ true → Pops ResultsKept port v (λ done w. w ≡ after_collect v done)
collects port v first done items views h at =
    let is = h.views_are port v at in
    let w = after_collect v done in (
      w,
      kept (done ∷ items) items views port v w h at refl refl
          (λ f. let a = sum_by_push f v.collected done in let b = sum_by-cons f done items in omega (arith, a, b))
          (record { plain = λ other. absurd (true≢false (sym first ∙ other)); spent = λ none. let some_part = collecting v is first in absurd (omega (arith, none, some_part)) })
          (order_collected done items views port v at first h),
      refl,
    )

new_is : IsResultView new_result_view
new_is = record { plain = λ _. refl; spent = λ none. absurd (omega (arith, none)) }

pub splits : (port : ℕ) (v : ResultView) → 1 < v.parts → Forks ResultsKept port v (result_view_left v) new_result_view
splits port v more items views h at =
    let is = h.views_are port v at in
    let o = h.order in
    let left = result_view_left v in
    let vs = set views port left in
    let lengths = length-set views port left in
    let longer = length-append vs (new_result_view ∷ []) in
    record {
      parts = let a = total_set (λ (u : ResultView). u.parts) views port v left at in let b = total_snoc (λ (u : ResultView). u.parts) vs new_result_view in let p = h.parts in omega (arith, a, b, p, more);
      one = let a = total_set (λ (u : ResultView). collects_weight u.first) views port v left at in let b = total_snoc (λ (u : ResultView). collects_weight u.first) vs new_result_view in let p = h.one in omega (arith, a, b, p);
      balanced = λ f.
          let a = total_set (λ (u : ResultView). sum_by f u.brought) views port v left at in
          let b = total_snoc (λ (u : ResultView). sum_by f u.brought) vs new_result_view in
          let c = total_set (λ (u : ResultView). sum_by f u.collected) views port v left at in
          let d = total_snoc (λ (u : ResultView). sum_by f u.collected) vs new_result_view in
          let p = h.balanced f in
          omega (arith, a, b, c, d, p);
      views_are = each_snoc IsResultView vs new_result_view new_is (each_set IsResultView views port left (record { plain = is.plain; spent = λ none. absurd (omega (arith, none, more)) }) h.views_are);
      order = record {
        collected = o.collected;
        who = o.who;
        as_many = o.as_many;
        below = all_more (λ (one : ℕ). one < length views) (λ (one : ℕ). one < length (vs ++ new_result_view ∷ [])) o.who (λ one less. omega (arith, less, lengths, longer)) o.below;
        first_has = each_snoc (λ (u : ResultView). u.first ≡ true → u.collected ≡ o.collected) vs new_result_view (λ mark. absurd (true≢false (sym mark)))
            (each_set (λ (u : ResultView). u.first ≡ true → u.collected ≡ o.collected) views port left (o.first_has port v at) o.first_has);
        in_order = λ j u there part mixed. ⊎_elim
            (λ (old : get_elem? vs j ≡ some u). ⊎_elim
            (λ (x : (j ≡ port) × (left ≡ u)). ap (λ n. brought_by n o.who (o.collected ++ items)) x.0 ∙ o.in_order port v at (omega (arith, more)) (ap (λ (y : ResultView). y.mixed) x.1 ∙ mixed) ∙ ap (λ (y : ResultView). y.brought) x.1)
            (λ (x : (j ≢ port) × (get_elem? views j ≡ some u)). o.in_order j u x.1 part mixed)
            (at_set views port j left u old))
            (λ (last : (j ≡ length vs) × (new_result_view ≡ u)).
            ap (λ n. brought_by n o.who (o.collected ++ items)) (last.0 ∙ lengths) ∙ none_yet (length views) o.who (o.collected ++ items) o.below ∙ ap (λ (y : ResultView). y.brought) last.1)
            (at_length vs new_result_view u j there);
      };
    }

both_are : (v w : ResultView) → 0 < v.parts → IsResultView v → IsResultView w → IsResultView (joined_result_view v w)
both_are v w part is other_is = record {
  plain = λ neither.
      let none = or_false v.first w.first neither in
      ap (λ results. results ++ w.collected) (is.plain none.0) ∙ other_is.plain none.1;
  spent = λ no. absurd (omega (arith, no, part));
}

-- of both views of a join the one that collects has all that was collected
collected_by_both : (v w : ResultView) (collected : List Done) → (v.first ≡ true → w.first ≡ false) → IsResultView v → IsResultView w → (v.first ≡ true → v.collected ≡ collected) → (w.first ≡ true → w.collected ≡ collected)
    → v.first || w.first ≡ true → v.collected ++ w.collected ≡ collected
collected_by_both v w collected one is other_is mine theirs mark = ⊎_elim
    (λ (first : v.first ≡ true). ap (λ results. v.collected ++ results) (other_is.plain (one first)) ∙ append-nil v.collected ∙ mine first)
    (λ (second : v.first ≡ false). ap (λ results. results ++ w.collected) (is.plain second) ∙ theirs (sym (ap (λ b. b || w.first) second) ∙ mark))
    (either_way v.first)

pub merges : (port : ℕ) (v : ResultView) (other : ℕ) (w : ResultView) → 0 < v.parts → 0 < w.parts → Merges ResultsKept port v other w (joined_result_view v w) spent_result_view
merges port v other w part other_part items views h at apart there =
    let o = h.order in
    let both = joined_result_view v w in
    let vs = set views port both in
    let was : get_elem? views other ≡ some w = ⊎_elim (λ (x : (other ≡ port) × (both ≡ w)). absurd (apart x.0)) (λ (x : (other ≢ port) × (get_elem? views other ≡ some w)). x.1) (at_set views port other both w there) in
    let one = one_collects items views port v other w h at apart was in
    let is = h.views_are port v at in
    let other_is = h.views_are other w was in
    let twice : (f : ResultView → ℕ) → f both ≡ f v + f w → f spent_result_view ≡ 0 → sum_by f (set vs other spent_result_view) ≡ sum_by f views = λ f adds none.
    let a = total_set f views port v both at in
    let b = total_set f vs other w spent_result_view there in
    omega (arith, a, b, adds, none) in
    record {
      parts = twice (λ (u : ResultView). u.parts) refl refl ∙ h.parts;
      one = twice (λ (u : ResultView). collects_weight u.first) (weight_of_both v.first w.first one) refl ∙ h.one;
      balanced = λ f.
          let a = twice (λ (u : ResultView). sum_by f u.brought) (sum_by-append f v.brought w.brought) refl in
          let b = twice (λ (u : ResultView). sum_by f u.collected) (sum_by-append f v.collected w.collected) refl in
          let p = h.balanced f in
          omega (arith, a, b, p);
      views_are = each_set IsResultView vs other spent_result_view (record { plain = λ _. refl; spent = λ _. refl }) (each_set IsResultView views port both (both_are v w part is other_is) h.views_are);
      order = record {
        collected = o.collected;
        who = o.who;
        as_many = o.as_many;
        below = still_below vs other spent_result_view o.who (still_below views port both o.who o.below);
        first_has = each_set (λ (u : ResultView). u.first ≡ true → u.collected ≡ o.collected) vs other spent_result_view (λ mark. absurd (true≢false (sym mark)))
            (each_set (λ (u : ResultView). u.first ≡ true → u.collected ≡ o.collected) views port both (collected_by_both v w o.collected one is other_is (o.first_has port v at) (o.first_has other w was)) o.first_has);
        in_order = λ j u here some_part mixed. ⊎_elim
            (λ (x : (j ≡ other) × (spent_result_view ≡ u)). let same = ap (λ (y : ResultView). y.parts) x.1 in absurd (omega (arith, same, some_part)))
            (λ (x : (j ≢ other) × (get_elem? vs j ≡ some u)). ⊎_elim
            (λ (y : (j ≡ port) × (both ≡ u)).
            let plain = or_false v.mixed (w.mixed || has_some w.brought) (ap (λ (z : ResultView). z.mixed) y.1 ∙ mixed) in
            let none = has_none w.brought (or_false w.mixed (has_some w.brought) plain.1).1 in
            ap (λ n. brought_by n o.who (o.collected ++ items)) y.0 ∙ o.in_order port v at part plain.0 ∙ sym (append-nil v.brought) ∙ sym (ap (λ results. v.brought ++ results) none) ∙ ap (λ (z : ResultView). z.brought) y.1)
            (λ (y : (j ≢ port) × (get_elem? views j ≡ some u)). o.in_order j u y.1 some_part mixed)
            (at_set views port j both u x.1))
            (at_set vs other j spent_result_view u here);
      };
    }

pub is_whole : (port : ℕ) (v : ResultView) → Learns ResultsKept port v (IsResultWhole v)
is_whole port v items views h at all_parts f =
    let all : sum_by (λ (u : ResultView). u.parts) views ≡ v.parts = h.parts ∙ sym all_parts in
    let mine : (g : ResultView → ℕ) → g spent_result_view ≡ 0 → sum_by g views ≡ g v = λ g none.
    alone g (λ (u : ResultView). u.parts) views port v at (λ j u there no. ap g ((h.views_are j u there).spent no) ∙ none) all in
    let a = mine (λ (u : ResultView). sum_by f u.brought) refl in
    let b = mine (λ (u : ResultView). sum_by f u.collected) refl in
    let p = h.balanced f in
    omega (arith, a, b, p)
