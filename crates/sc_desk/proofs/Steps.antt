-- Each step of a pass keeps the rule of the queue of orders.
use Rattle.std.proofs.Common.{◌≡◌, ◌≢◌, ℕ, zero, suc, ◌+◌, ◌<◌, true, true≢false, List, [], ◌∷◌, ◌++◌, length, set, sym, refl, ap, ◌∙◌, subst, ⊎_elim, append-nil, append_assoc, arith}
use Rattle.std.specs.List.{AllByRecursion}
use mathlib.Core.Option.{some, some-ne-none, some-injective}
use lib.ListN.{get_elem?}
use Rattle.crossbeam_queue.specs.Fifo.{Forks, Learns, Merges, Pops, Pushes}
use Rattle.sc_edge.specs.declared.orders.Order.{Order}
use Rattle.sc_desk.specs.declared.posted.Posted.{Posted}
use Rattle.sc_desk.specs.declared.desk_queue.DeskView.{DeskView}
use Rattle.sc_desk.specs.declared.desk_queue.Ended.{Ended}
use Rattle.sc_desk.specs.DeskRules.{BothPost, BothTake, DeskKept, IsBegun, IsEnded, IsPoster, IsTaker, IsTakenUpTo, IsWaiting, IsWhole, Took, after_post, after_take, first_view, joined_view, one_made, orders_by, poster_view, spent_view}
use Rattle.sc_desk.proofs.Orders.{by_append, by_mine, by_none, by_other}
use Rattle.sc_desk.proofs.Views.{all_both, all_more, all_snoc, at_end, one_more, one_set, there}

alone : (seat : ℕ) (v : DeskView) → get_elem? (first_view ∷ []) seat ≡ some v → (seat ≡ 0) × (first_view ≡ v)
alone zero v at = (refl, some-injective first_view v at)
alone (suc seat) v at = absurd (some-ne-none v (sym at))

pub begins : DeskKept [] (first_view ∷ [])
begins = record {
  taken = [];
  ended = [];
  made = 0;
  taker = λ seat v at first. subst (IsTaker [] [] 0) (alone seat v at).1 (record { taken_is = refl; ended_is = refl; made_is = refl; posts_not = refl });
  posters = λ seat v at posts. absurd (true≢false (sym posts ∙ sym (ap (λ (u : DeskView). u.posts) (alone seat v at).1)));
  one = λ i j v w at_v at_w both. (alone i v at_v).0 ∙ sym (alone j w at_w).0;
  apart = λ i j v w at_v at_w both. (alone i v at_v).0 ∙ sym (alone j w at_w).0;
  ended_are = tt;
  below = tt;
}

-- ## A post

pub posts : (n seat : ℕ) (v : DeskView) (p : Posted) → v.posts ≡ true → p.by ≡ v.number → Pushes DeskKept n seat v p (λ w. w ≡ after_post v p.order)
posts n seat v p posting by items views room h at =
    let w : DeskView = after_post v p.order in
    let mine : IsPoster h.made (h.taken ++ items) h.ended v = h.posters seat v at posting in
    let all : h.taken ++ (items ++ p ∷ []) ≡ (h.taken ++ items) ++ p ∷ [] = sym (append_assoc h.taken items (p ∷ [])) in
    let others : (number : ℕ) → number ≢ v.number → orders_by number (h.taken ++ (items ++ p ∷ [])) ≡ orders_by number (h.taken ++ items) = λ number apart.
    ap (orders_by number) all ∙ (by_append number (h.taken ++ items) (p ∷ []) ∙ (ap (λ (rest : List Order). orders_by number (h.taken ++ items) ++ rest) (by_other number p (λ same. apart (sym same ∙ by))) ∙ append-nil (orders_by number (h.taken ++ items)))) in (
      w,
      record {
        taken = h.taken;
        ended = h.ended;
        made = h.made;
        taker = λ j u here first. there views seat j w u
            (λ j_is w_is. absurd (true≢false (sym posting ∙ (h.taker seat v at (ap (λ (x : DeskView). x.first) w_is ∙ first)).posts_not)))
            (λ _ was. h.taker j u was first)
            here;
        posters = λ j u here posting2. there views seat j w u
            (λ j_is w_is. subst (IsPoster h.made (h.taken ++ (items ++ p ∷ [])) h.ended) w_is (record {
              posted_are = ap (orders_by v.number) all ∙ (by_append v.number (h.taken ++ items) (p ∷ []) ∙ (ap (λ (rest : List Order). orders_by v.number (h.taken ++ items) ++ rest) (by_mine v.number p by) ∙ ap (λ (first : List Order). first ++ p.order ∷ []) mine.posted_are));
              below = mine.below;
              apart = mine.apart;
            }))
            (λ j_not was.
            let other : IsPoster h.made (h.taken ++ items) h.ended u = h.posters j u was posting2 in
            record {
              posted_are = others u.number (λ same. j_not (h.apart j seat u v was at (posting2, posting, same))) ∙ other.posted_are;
              below = other.below;
              apart = other.apart;
            })
            here;
        one = one_set BothTake views seat v w at (λ u both. both) (λ u both. both) h.one;
        apart = one_set BothPost views seat v w at (λ u both. both) (λ u both. both) h.apart;
        ended_are = all_both (IsEnded h.made (h.taken ++ items)) (λ (e : Ended). e.number ≢ v.number) (IsEnded h.made (h.taken ++ (items ++ p ∷ []))) h.ended
            (λ e is apart. record { whole = others e.number apart ∙ is.whole; below = is.below }) h.ended_are mine.apart;
        below = subst (AllByRecursion (λ (q : Posted). q.by < h.made)) (sym all) (all_snoc (λ (q : Posted). q.by < h.made) (h.taken ++ items) p h.below (subst (λ (k : ℕ). k < h.made) (sym by) mine.below));
      },
      refl,
    )

pub waits : (seat : ℕ) (v : DeskView) → v.posts ≡ true → Learns DeskKept seat v (IsWaiting v)
waits seat v posting items views h at = (orders_by v.number h.taken, sym (h.posters seat v at posting).posted_are ∙ by_append v.number h.taken items)

-- ## A take

pub takes : (seat : ℕ) (v : DeskView) → v.first ≡ true → Pops DeskKept seat v (Took v)
takes seat v first p items views h at =
    let w : DeskView = after_take v p in
    let mine : IsTaker h.taken h.ended h.made v = h.taker seat v at first in
    let all : (h.taken ++ p ∷ []) ++ items ≡ h.taken ++ p ∷ items = append_assoc h.taken (p ∷ []) items in
    let took : w.taken ≡ h.taken ++ p ∷ [] = ap (λ (xs : List Posted). xs ++ p ∷ []) mine.taken_is in (
      w,
      record {
        taken = h.taken ++ p ∷ [];
        ended = h.ended;
        made = h.made;
        taker = λ j u here first2. there views seat j w u
            (λ j_is w_is. subst (IsTaker (h.taken ++ p ∷ []) h.ended h.made) w_is (record { taken_is = took; ended_is = mine.ended_is; made_is = mine.made_is; posts_not = mine.posts_not }))
            (λ j_not was. absurd (j_not (h.one j seat u v was at (first2, first))))
            here;
        posters = λ j u here posting. there views seat j w u
            (λ j_is w_is. absurd (true≢false (sym posting ∙ (sym (ap (λ (x : DeskView). x.posts) w_is) ∙ mine.posts_not))))
            (λ j_not was. subst (λ (xs : List Posted). IsPoster h.made xs h.ended u) (sym all) (h.posters j u was posting))
            here;
        one = one_set BothTake views seat v w at (λ u both. both) (λ u both. both) h.one;
        apart = one_set BothPost views seat v w at (λ u both. both) (λ u both. both) h.apart;
        ended_are = subst (λ (xs : List Posted). AllByRecursion (IsEnded h.made xs) h.ended) (sym all) h.ended_are;
        below = subst (AllByRecursion (λ (q : Posted). q.by < h.made)) (sym all) h.below;
      },
      (
        refl,
        subst (AllByRecursion (IsBegun w.taken)) (sym mine.ended_is)
            (all_more (IsEnded h.made (h.taken ++ p ∷ items)) (IsBegun w.taken) h.ended
            (λ e is. (
              orders_by e.number items,
              sym is.whole ∙ (ap (orders_by e.number) (sym all) ∙ (by_append e.number (h.taken ++ p ∷ []) items ∙ ap (λ (xs : List Posted). orders_by e.number xs ++ orders_by e.number items) (sym took))),
            ))
            h.ended_are),
      ),
    )

pub up_to : (seat : ℕ) (v : DeskView) → v.first ≡ true → Learns DeskKept seat v (IsTakenUpTo v)
up_to seat v first items views h at =
    let mine : IsTaker h.taken h.ended h.made v = h.taker seat v at first in
    subst (λ (xs : List Posted). AllByRecursion (IsWhole (xs ++ items)) v.ended) (sym mine.taken_is)
    (subst (AllByRecursion (IsWhole (h.taken ++ items))) (sym mine.ended_is) (all_more (IsEnded h.made (h.taken ++ items)) (IsWhole (h.taken ++ items)) h.ended (λ e is. is.whole) h.ended_are))

-- ## A split

pub splits : (seat : ℕ) (v : DeskView) → v.first ≡ true → Forks DeskKept seat v (one_made v) (poster_view v.made)
splits seat v first items views h at =
    let w : DeskView = one_made v in
    let new : DeskView = poster_view v.made in
    let vs : List DeskView = set views seat w in
    let mine : IsTaker h.taken h.ended h.made v = h.taker seat v at first in
    let more : (k : ℕ) → k < h.made → k < h.made + 1 = λ k less. omega (arith, less) in
    let old_number : (j : ℕ) (u : DeskView) → get_elem? vs j ≡ some u → u.posts ≡ true → u.number < h.made = λ j u here posting. there views seat j w u
    (λ j_is w_is. absurd (true≢false (sym posting ∙ (sym (ap (λ (x : DeskView). x.posts) w_is) ∙ mine.posts_not))))
    (λ j_not was. (h.posters j u was posting).below)
    here in
    record {
      taken = h.taken;
      ended = h.ended;
      made = h.made + 1;
      taker = λ j u here first2. ⊎_elim
          (λ (old : get_elem? vs j ≡ some u). there views seat j w u
          (λ j_is w_is. subst (IsTaker h.taken h.ended (h.made + 1)) w_is (record { taken_is = mine.taken_is; ended_is = mine.ended_is; made_is = ap (λ (k : ℕ). k + 1) mine.made_is; posts_not = mine.posts_not }))
          (λ j_not was. absurd (j_not (h.one j seat u v was at (first2, first))))
          old)
          (λ (last : (j ≡ length vs) × (new ≡ u)). absurd (true≢false (sym first2 ∙ sym (ap (λ (x : DeskView). x.first) last.1))))
          (at_end vs new u j here);
      posters = λ j u here posting. ⊎_elim
          (λ (old : get_elem? vs j ≡ some u). there views seat j w u
          (λ j_is w_is. absurd (true≢false (sym posting ∙ (sym (ap (λ (x : DeskView). x.posts) w_is) ∙ mine.posts_not))))
          (λ j_not was. let other : IsPoster h.made (h.taken ++ items) h.ended u = h.posters j u was posting in record { posted_are = other.posted_are; below = more u.number other.below; apart = other.apart })
          old)
          (λ (last : (j ≡ length vs) × (new ≡ u)). subst (IsPoster (h.made + 1) (h.taken ++ items) h.ended) last.1 (record {
            posted_are = ap (λ (k : ℕ). orders_by k (h.taken ++ items)) mine.made_is ∙ by_none h.made (h.taken ++ items) h.below;
            below = let is = mine.made_is in omega (arith, is);
            apart = all_more (IsEnded h.made (h.taken ++ items)) (λ (e : Ended). e.number ≢ v.made) h.ended (λ e is same. let less = is.below in let made = mine.made_is in omega (arith, less, made, same)) h.ended_are;
          }))
          (at_end vs new u j here);
      one = one_more BothTake vs new (λ j u here both. true≢false (sym both.0)) (λ j u here both. true≢false (sym both.1)) (one_set BothTake views seat v w at (λ u both. both) (λ u both. both) h.one);
      apart = one_more BothPost vs new
          (λ j u here both. let less = old_number j u here both.1 in let made = mine.made_is in let same = both.2 in omega (arith, less, made, same))
          (λ j u here both. let less = old_number j u here both.0 in let made = mine.made_is in let same = both.2 in omega (arith, less, made, same))
          (one_set BothPost views seat v w at (λ u both. both) (λ u both. both) h.apart);
      ended_are = all_more (IsEnded h.made (h.taken ++ items)) (IsEnded (h.made + 1) (h.taken ++ items)) h.ended (λ e is. record { whole = is.whole; below = more e.number is.below }) h.ended_are;
      below = all_more (λ (p : Posted). p.by < h.made) (λ (p : Posted). p.by < h.made + 1) (h.taken ++ items) (λ p less. more p.by less) h.below;
    }

-- ## A join

pub merges : (seat : ℕ) (v : DeskView) (other : ℕ) (w : DeskView) → v.first ≡ true → w.posts ≡ true → Merges DeskKept seat v other w (joined_view v w) spent_view
merges seat v other w first posting items views h at apart here =
    let both : DeskView = joined_view v w in
    let vs : List DeskView = set views seat both in
    let end : Ended = record { number = w.number; orders = w.posted } in
    let mine : IsTaker h.taken h.ended h.made v = h.taker seat v at first in
    let was : get_elem? views other ≡ some w = there views seat other both w (λ same _. absurd (apart same)) (λ _ w_at. w_at) here in
    let his : IsPoster h.made (h.taken ++ items) h.ended w = h.posters other w was posting in
    record {
      taken = h.taken;
      ended = h.ended ++ end ∷ [];
      made = h.made;
      taker = λ j u now first2. there vs other j spent_view u
          (λ _ spent. absurd (true≢false (sym first2 ∙ sym (ap (λ (x : DeskView). x.first) spent))))
          (λ _ mid. there views seat j both u
          (λ _ is. subst (IsTaker h.taken (h.ended ++ end ∷ []) h.made) is (record { taken_is = mine.taken_is; ended_is = ap (λ (xs : List Ended). xs ++ end ∷ []) mine.ended_is; made_is = mine.made_is; posts_not = mine.posts_not }))
          (λ j_not old. absurd (j_not (h.one j seat u v old at (first2, first))))
          mid)
          now;
      posters = λ j u now posts2. there vs other j spent_view u
          (λ _ spent. absurd (true≢false (sym posts2 ∙ sym (ap (λ (x : DeskView). x.posts) spent))))
          (λ j_other mid. there views seat j both u
          (λ _ is. absurd (true≢false (sym posts2 ∙ (sym (ap (λ (x : DeskView). x.posts) is) ∙ mine.posts_not))))
          (λ _ old.
          let one : IsPoster h.made (h.taken ++ items) h.ended u = h.posters j u old posts2 in
          record {
            posted_are = one.posted_are;
            below = one.below;
            apart = all_snoc (λ (e : Ended). e.number ≢ u.number) h.ended end one.apart (λ same. j_other (h.apart j other u w old was (posts2, posting, sym same)));
          })
          mid)
          now;
      one = one_set BothTake vs other w spent_view here (λ u b. absurd (true≢false (sym b.0))) (λ u b. absurd (true≢false (sym b.1))) (one_set BothTake views seat v both at (λ u b. b) (λ u b. b) h.one);
      apart = one_set BothPost vs other w spent_view here (λ u b. absurd (true≢false (sym b.0))) (λ u b. absurd (true≢false (sym b.1))) (one_set BothPost views seat v both at (λ u b. b) (λ u b. b) h.apart);
      ended_are = all_snoc (IsEnded h.made (h.taken ++ items)) h.ended end h.ended_are (record { whole = his.posted_are; below = his.below });
      below = h.below;
    }
