-- What is asked one after the other, and what a step more makes of it.
use Rattle.std.proofs.Common.{◌≡◌, ℕ, suc, ◌+◌, ◌≤◌, ◌<◌, Bool, true, false, Option, None, List, [], ◌∷◌, ◌++◌, length, refl, ap, sym, ◌∙◌, subst, length-append, inl, inr, arith, if◌then◌else◌}
use Rattle.std.specs.Prelude.{◌⊎◌, map}
use Rattle.std.specs.Bool.{nat_lt}
use Rattle.std.proofs.lemmas.Bool.Decides.{nat_tests}
use Rattle.std.proofs.lemmas.List.{append-nil, map-append}
use Rattle.sc_terms.specs.declared.steps.Step.{Step}
use Rattle.sc_terms.specs.declared.steps.Step.TheVariants as steps
use Rattle.sc_edge.specs.Faults.{one_more}
use Rattle.sc_edge.specs.Telling.{IsTold}
use Rattle.sc_moments.specs.Moments.{tick_of, ticks_of}
use Rattle.sc_moments.proofs.FollowTicks.{both-ticks}
use Rattle.sc_outs.specs.Deeds.{Deed, step_of}
use Rattle.sc_courses.specs.Asking.{Answered, AreAlmostEven, AreAnswers, AreEven, AreTold, Asked, Given, Source, Sources, Ticked, TickedPart, count_after, given_then, latest, none_given, later_moments as raised, ticks_taken}

-- ## Answers, one after the other

count-append : {A : Type 0} (count : ℕ) (xs ys : List A) → count_after count (xs ++ ys) ≡ count_after (count_after count xs) ys
unfolding count_after
count-append count [] ys = refl
count-append count (x ∷ xs) ys = count-append (one_more count) xs ys

told-same : {A : Type 0} (f g : ℕ → Option A) (xs : List A) → ((n : ℕ) → f n ≡ g n) → AreTold f xs → AreTold g xs
unfolding AreTold
told-same f g [] same told = tt
told-same f g (x ∷ xs) same told = (subst (λ (o : Option _). IsTold o x) (same 0) told.0, told-same (λ n. f (n + 1)) (λ n. g (n + 1)) xs (λ n. same (n + 1)) told.1)

none-more : (n : ℕ) → 0 + n ≡ n
none-more n = omega arith

told-append : {A : Type 0} (f g : ℕ → Option A) (xs ys : List A) → ((n : ℕ) → g n ≡ f (length xs + n)) → AreTold f xs → AreTold g ys → AreTold f (xs ++ ys)
unfolding AreTold
told-append f g [] ys same first later = told-same g f ys (λ n. same n ∙ ap f (none-more n)) later
told-append f g (x ∷ xs) ys same first later =
    (first.0, told-append (λ n. f (n + 1)) g xs ys (λ n. same n ∙ ap f (at (length xs) n)) first.1 later)
  where
    at : (k n : ℕ) → suc k + n ≡ (k + n) + 1
    at k n = omega arith

pub answered_none : {A : Type 0} (source : Source A) → Answered source source []
unfolding count_after AreTold
answered_none source = record { count = refl; told = tt; later = λ n. ap source.1 (sym (none-more n)) }

pub answered_one : {A : Type 0} (old new : Source A) (answer : A) → new.0 ≡ one_more old.0 → IsTold (old.1 0) answer → ((n : ℕ) → new.1 n ≡ old.1 (n + 1)) → Answered old new (answer ∷ [])
unfolding count_after AreTold
answered_one old new answer count told later = record { count = count; told = (told, tt); later = λ n. later n ∙ ap old.1 (at n) }
  where
    at : (n : ℕ) → n + 1 ≡ 1 + n
    at n = omega arith

pub answered_then : {A : Type 0} (a b c : Source A) (xs ys : List A) → Answered a b xs → Answered b c ys → Answered a c (xs ++ ys)
answered_then a b c xs ys first later = record {
  count = later.count ∙ (ap (λ (n : ℕ). count_after n ys) first.count ∙ sym (count-append a.0 xs ys));
  told = told-append a.1 b.1 xs ys first.later first.told later.told;
  later = λ n. later.later n ∙ (first.later (length ys + n) ∙ ap a.1 (at n));
}
  where
    at : (n : ℕ) → length xs + (length ys + n) ≡ length (xs ++ ys) + n
    at n = let both = length-append xs ys in omega (arith, both)

-- ## Moments

raised-step : (last moment : ℕ) (moments : List ℕ) (more : ℕ) (b : Bool) → nat_lt last moment ≡ b
    → ((from : ℕ) → raised from (moments ++ more ∷ []) ≡ raised from moments ++ (if nat_lt (latest from moments) more then more ∷ [] else []))
    → raised last (moment ∷ (moments ++ more ∷ [])) ≡ raised last (moment ∷ moments) ++ (if nat_lt (latest last (moment ∷ moments)) more then more ∷ [] else [])
unfolding raised latest
raised-step last moment moments more true e later = rw e (ap (λ (xs : List ℕ). moment ∷ xs) (later moment))
raised-step last moment moments more false e later = rw e (later last)

raised-snoc : (last : ℕ) (moments : List ℕ) (more : ℕ) → raised last (moments ++ more ∷ []) ≡ raised last moments ++ (if nat_lt (latest last moments) more then more ∷ [] else [])
unfolding raised latest
raised-snoc last [] more = refl
raised-snoc last (moment ∷ moments) more = raised-step last moment moments more (nat_lt last moment) refl (λ from. raised-snoc from moments more)

latest-snoc : (last : ℕ) (moments : List ℕ) (more : ℕ) → latest last (moments ++ more ∷ []) ≡ (if nat_lt (latest last moments) more then more else latest last moments)
unfolding latest
latest-snoc last [] more = refl
latest-snoc last (moment ∷ moments) more = latest-snoc (if nat_lt last moment then moment else last) moments more

is-later : (a b : ℕ) → a < b → nat_lt a b ≡ true
is-later a b later = grind (arith, nat_tests)

is-early : (a b : ℕ) → b ≤ a → nat_lt a b ≡ false
is-early a b early = grind (arith, nat_tests)

raised-more : (moments : List ℕ) (more : ℕ) (b : Bool) → nat_lt (latest 0 moments) more ≡ b → raised 0 (moments ++ more ∷ []) ≡ raised 0 moments ++ (if b then more ∷ [] else [])
raised-more moments more b e = raised-snoc 0 moments more ∙ ap (λ (test : Bool). raised 0 moments ++ (if test then more ∷ [] else [])) e

latest-more : (moments : List ℕ) (more : ℕ) (b : Bool) → nat_lt (latest 0 moments) more ≡ b → latest 0 (moments ++ more ∷ []) ≡ (if b then more else latest 0 moments)
latest-more moments more b e = latest-snoc 0 moments more ∙ ap (λ (test : Bool). if test then more else latest 0 moments) e

-- ## A step more

ticks-snoc : (deeds : List Deed) (deed : Deed) → ticks_taken (deeds ++ deed ∷ []) ≡ ticks_taken deeds ++ ticks_of (deed.step ∷ [])
ticks-snoc deeds deed = both-ticks (map step_of (deeds ++ deed ∷ [])) (map step_of deeds) (deed.step ∷ []) (map-append step_of deeds (deed ∷ []))

pub ticked_begin : Ticked [] [] 0
unfolding raised latest ticks_of
ticked_begin = record { ticks = refl; now_is = refl }

none-of : (step : Step) → tick_of step ≡ None → ticks_of (step ∷ []) ≡ []
unfolding ticks_of
none-of step none = rw none refl

-- of another step
pub ticked_same : (moments : List ℕ) (deeds : List Deed) (deed : Deed) (now now2 : ℕ) → tick_of deed.step ≡ None → now2 ≡ now → Ticked moments deeds now → Ticked moments (deeds ++ deed ∷ []) now2
ticked_same moments deeds deed now now2 none same ticked = record {
  ticks = ticks-snoc deeds deed ∙ (ap (λ (ts : List ℕ). ticks_taken deeds ++ ts) (none-of deed.step none) ∙ (append-nil (ticks_taken deeds) ∙ ticked.ticks));
  now_is = same ∙ ticked.now_is;
}

one-tick : (deed : Deed) (moment : ℕ) → deed.step ≡ steps.Tick moment → ticks_of (deed.step ∷ []) ≡ moment ∷ []
unfolding ticks_of tick_of
one-tick deed moment is = rw is refl

-- of a later moment
pub ticked_later : (moments : List ℕ) (deeds : List Deed) (deed : Deed) (now moment : ℕ) → deed.step ≡ steps.Tick moment → now < moment → Ticked moments deeds now → Ticked (moments ++ moment ∷ []) (deeds ++ deed ∷ []) moment
ticked_later moments deeds deed now moment is later ticked =
    let test : nat_lt (latest 0 moments) moment ≡ true = is-later (latest 0 moments) moment (subst (λ (n : ℕ). n < moment) ticked.now_is later) in record {
      ticks = ticks-snoc deeds deed ∙ (ap (λ (ts : List ℕ). ticks_taken deeds ++ ts) (one-tick deed moment is) ∙ (ap (λ (ts : List ℕ). ts ++ moment ∷ []) ticked.ticks ∙ sym (raised-more moments moment true test)));
      now_is = sym (latest-more moments moment true test);
    }

-- of a moment that is no later one
pub ticked_early : (moments : List ℕ) (deeds : List Deed) (now moment : ℕ) → moment ≤ now → Ticked moments deeds now → Ticked (moments ++ moment ∷ []) deeds now
ticked_early moments deeds now moment early ticked =
    let test : nat_lt (latest 0 moments) moment ≡ false = is-early (latest 0 moments) moment (subst (λ (n : ℕ). moment ≤ n) ticked.now_is early) in record {
      ticks = ticked.ticks ∙ sym (raised-more moments moment false test ∙ append-nil (raised 0 moments));
      now_is = ticked.now_is ∙ sym (latest-more moments moment false test);
    }

pub ticked_part : (moments : List ℕ) (deeds : List Deed) (now : ℕ) → Ticked moments deeds now → TickedPart moments deeds
unfolding TickedPart
ticked_part moments deeds now ticked = inl ticked.ticks

-- the last answer has no step
pub ticked_cut : (moments : List ℕ) (deeds : List Deed) (now moment : ℕ) → Ticked moments deeds now → TickedPart (moments ++ moment ∷ []) deeds
unfolding TickedPart
ticked_cut moments deeds now moment ticked = inr (moments, moment, refl, ticked.ticks)

-- ## Clock and orders

pub answers_none : AreAnswers 0 0 none_given
answers_none = record { orders_are = refl; moments_are = refl }

both-lengths : {A : Type 0} (xs ys : List A) (m n : ℕ) → length xs ≡ m → length ys ≡ n → length (xs ++ ys) ≡ m + n
both-lengths xs ys m n x y = let both = length-append xs ys in omega (arith, both, x, y)

pub answers_then : (a b m n : ℕ) (xs ys : Given) → AreAnswers a m xs → AreAnswers b n ys → AreAnswers (a + b) (m + n) (given_then xs ys)
answers_then a b m n xs ys first later = record { orders_are = both-lengths xs.orders ys.orders a b first.orders_are later.orders_are; moments_are = both-lengths xs.moments ys.moments m n first.moments_are later.moments_are }

-- where both answered as often
pub answers_even : (n : ℕ) (given : Given) → AreAnswers n n given → AreEven given
answers_even n given are = are.orders_are ∙ sym are.moments_are

pub answers_almost : (m n : ℕ) (given : Given) → (m ≡ n) ⊎ (m ≡ suc n) → AreAnswers m n given → AreAlmostEven given
unfolding AreAlmostEven
answers_almost m n given (inl same) are = inl (are.orders_are ∙ (same ∙ sym are.moments_are))
answers_almost m n given (inr more) are = inr (are.orders_are ∙ (more ∙ ap suc (sym are.moments_are)))

pub even_then : (xs ys : Given) → AreEven xs → AreEven ys → AreEven (given_then xs ys)
even_then xs ys first later = both-lengths xs.orders ys.orders (length xs.moments) (length ys.moments) first later ∙ sym (length-append xs.moments ys.moments)

pub even_almost : (given : Given) → AreEven given → AreAlmostEven given
unfolding AreAlmostEven
even_almost given even = inl even

one-more : (a b : ℕ) → a + suc b ≡ suc (a + b)
one-more a b = omega arith

pub almost_then : (xs ys : Given) → AreEven xs → AreAlmostEven ys → AreAlmostEven (given_then xs ys)
unfolding AreAlmostEven
almost_then xs ys first (inl later) = inl (even_then xs ys first later)
almost_then xs ys first (inr later) = inr (both-lengths xs.orders ys.orders (length xs.moments) (suc (length ys.moments)) first later ∙ (one-more (length xs.moments) (length ys.moments) ∙ ap suc (sym (length-append xs.moments ys.moments))))

pub asked_none : (sources : Sources) → Asked sources sources none_given
asked_none sources = record { moments = answered_none sources.0; orders = answered_none sources.1 }

pub asked_then : (a b c : Sources) (xs ys : Given) → Asked a b xs → Asked b c ys → Asked a c (given_then xs ys)
asked_then a b c xs ys first later = record { moments = answered_then a.0 b.0 c.0 xs.moments ys.moments first.moments later.moments; orders = answered_then a.1 b.1 c.1 xs.orders ys.orders first.orders later.orders }
