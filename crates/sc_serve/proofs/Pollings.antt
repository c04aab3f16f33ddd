-- How often the edge was polled in so many rounds.
use Rattle.std.specs.Prelude.{◌*◌, zero, suc}
use Rattle.std.proofs.Common.{◌≡◌, ◌≤◌, ◌+◌, ℕ, refl, sym, ap, ◌∙◌, subst, inl, inr, arith}
use Rattle.sc_edge.specs.Edges.{EdgeState}
use Rattle.sc_edge.specs.Faults.{one_more}
use Rattle.sc_serve.specs.Polls.{PollsOften, counted_on}
use Rattle.sc_serve.specs.declared.server.Server.{Server}
use Rattle.sc_serve.specs.Running.{Hears, IsUnheard, PollsOn, PollsPart}

none-more : (m : ℕ) → m ≡ 0 + m
none-more m = omega arith

one-more : (m n : ℕ) → suc (n + m) ≡ suc n + m
one-more m n = omega arith

counted-more : (count m n : ℕ) → counted_on (counted_on count m) n ≡ counted_on count (n + m)
unfolding counted_on
counted-more count m zero = ap (λ (k : ℕ). counted_on count k) (none-more m)
counted-more count m (suc n) = ap one_more (counted-more count m n) ∙ ap (λ (k : ℕ). counted_on count k) (one-more m n)

counted-none : (count : ℕ) → count ≡ counted_on count 0
unfolding counted_on
counted-none count = refl

counted-one : (count new : ℕ) → new ≡ one_more count → new ≡ counted_on count 1
unfolding counted_on
counted-one count new is = is

-- ## No round, and one

pub polls_none : (a : Server) (e : EdgeState) → PollsOn a a e e 0
polls_none a e = record { polls = 0; counted = counted-none e.polls; most = omega arith; least = λ few. omega arith; bound = λ few. few }

least-heard : (u v : ℕ) → u ≤ 15 → 1 + u ≤ 16 * 1 + v
least-heard u v few = omega arith

few-none : (v w : ℕ) → v ≡ 0 → w ≡ v → w ≤ 15
few-none v w none same = omega arith

least-unheard : (u v w : ℕ) → v ≡ u + 1 → w ≡ v → 1 + u ≤ 16 * 0 + w
least-unheard u v w more same = omega arith

few-more : (v w : ℕ) → v ≤ 15 → w ≡ v → w ≤ 15
few-more v w few same = omega arith

pub polls_round : (a b c : Server) (e e1 : EdgeState) → Hears a b e e1 → c.unpolled ≡ b.unpolled → PollsOn a c e e1 1
polls_round a b c e e1 (inl (none, polled)) same = record {
  polls = 1;
  counted = counted-one e.polls e1.polls polled;
  most = omega arith;
  least = λ few. least-heard a.unpolled c.unpolled few;
  bound = λ few. few-none b.unpolled c.unpolled none same;
}
polls_round a b c e e1 (inr (more, most, still)) same = record {
  polls = 0;
  counted = still ∙ counted-none e.polls;
  most = omega arith;
  least = λ few. least-unheard a.unpolled b.unpolled c.unpolled more same;
  bound = λ few. few-more b.unpolled c.unpolled most same;
}

-- ## One after the other

pub polls_kept : (a b c : Server) (e e1 e2 : EdgeState) (rounds : ℕ) → PollsOn a b e e1 rounds → IsUnheard b c e1 e2 → PollsOn a c e e2 rounds
polls_kept a b c e e1 e2 rounds on unheard = record {
  polls = on.polls;
  counted = unheard.polls ∙ on.counted;
  most = on.most;
  least = λ few. subst (λ (n : ℕ). rounds + a.unpolled ≤ 16 * on.polls + n) (sym unheard.unpolled) (on.least few);
  bound = λ few. subst (λ (n : ℕ). n ≤ 15) (sym unheard.unpolled) (on.bound few);
}

most-sum : (p q r s : ℕ) → p ≤ r → q ≤ s → q + p ≤ r + s
most-sum p q r s first later = omega arith

least-sum : (r s u v w p q : ℕ) → r + u ≤ 16 * p + v → s + v ≤ 16 * q + w → (r + s) + u ≤ 16 * (q + p) + w
least-sum r s u v w p q first later = omega arith

counted-then : (a b c p q : ℕ) → b ≡ counted_on a p → c ≡ counted_on b q → c ≡ counted_on a (q + p)
counted-then a b c p q first later = later ∙ (ap (λ (n : ℕ). counted_on n q) first ∙ counted-more a p q)

pub polls_then : (a b c : Server) (e e1 e2 : EdgeState) (r s : ℕ) → PollsOn a b e e1 r → PollsOn b c e1 e2 s → PollsOn a c e e2 (r + s)
polls_then a b c e e1 e2 r s first later = record {
  polls = later.polls + first.polls;
  counted = counted-then e.polls e1.polls e2.polls first.polls later.polls first.counted later.counted;
  most = most-sum first.polls later.polls r s first.most later.most;
  least = λ few. least-sum r s a.unpolled b.unpolled c.unpolled first.polls later.polls (first.least few) (later.least (first.bound few));
  bound = λ few. later.bound (first.bound few);
}

-- ## Where the run ended

pub heard_part : (a : Server) (e e1 : EdgeState) → e1.polls ≡ one_more e.polls → PollsPart a e e1 0
heard_part a e e1 polled = record { polls = 1; counted = counted-one e.polls e1.polls polled; most = omega arith; least = λ few. at a.unpolled few }
  where
    at : (u : ℕ) → u ≤ 15 → 0 + u ≤ 16 * 1 + 15
    at u few = omega arith

most-one : (p r : ℕ) → p ≤ r → p ≤ r + 1
most-one p r most = omega arith

least-part : (r u v p : ℕ) → r + u ≤ 16 * p + v → v ≤ 15 → r + u ≤ 16 * p + 15
least-part r u v p least few = omega arith

pub part_of : (a b : Server) (e e1 : EdgeState) (rounds : ℕ) → PollsOn a b e e1 rounds → PollsPart a e e1 rounds
part_of a b e e1 rounds on = record {
  polls = on.polls;
  counted = on.counted;
  most = most-one on.polls rounds on.most;
  least = λ few. least-part rounds a.unpolled b.unpolled on.polls (on.least few) (on.bound few);
}

most-part : (p q r s : ℕ) → p ≤ r → q ≤ s + 1 → q + p ≤ (r + s) + 1
most-part p q r s first later = omega arith

pub polls_part : (a b : Server) (e e1 e2 : EdgeState) (r s : ℕ) → PollsOn a b e e1 r → PollsPart b e1 e2 s → PollsPart a e e2 (r + s)
polls_part a b e e1 e2 r s first later = record {
  polls = later.polls + first.polls;
  counted = counted-then e.polls e1.polls e2.polls first.polls later.polls first.counted later.counted;
  most = most-part first.polls later.polls r s first.most later.most;
  least = λ few. least-sum r s a.unpolled b.unpolled 15 first.polls later.polls (first.least few) (later.least (first.bound few));
}

-- ## From the beginning of a run

few-new : (u : ℕ) → u ≡ 0 → u ≤ 15
few-new u new = omega arith

least-new : (r u p : ℕ) → u ≡ 0 → r + u ≤ 16 * p + 15 → r ≤ 16 * p + 15
least-new r u p new least = omega arith

pub often_of : (a : Server) (e e1 : EdgeState) (rounds : ℕ) → a.unpolled ≡ 0 → PollsPart a e e1 rounds → PollsOften e e1 rounds
often_of a e e1 rounds new part = record { polls = part.polls; counted = part.counted; most = part.most; least = least-new rounds a.unpolled part.polls new (part.least (few-new a.unpolled new)) }

pub often_none : (e : EdgeState) → PollsOften e e 0
often_none e = record { polls = 0; counted = counted-none e.polls; most = omega arith; least = omega arith }
