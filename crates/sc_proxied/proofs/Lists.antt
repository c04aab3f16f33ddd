-- What one event more makes of the functions of a proxied request's list.
use Rattle.std.proofs.Common.{◌≡◌, ◌≤◌, ℕ, zero, suc, ◌+◌, ◌++◌, Bool, true, false, Option, None, Some, List, [], ◌∷◌, refl, sym, ap, subst, ◌∙◌, arith}
use Rattle.std.specs.Prelude.{◌==◌, ◌&&◌, ◌||◌, cond, drop, filter, is_none, is_some, length, map, option_and_then}
use Rattle.std.specs.List.{find, list_any}
use Rattle.std.specs.Option.{option_map_or, option_or}
use Rattle.std.proofs.lemmas.Bool.Decides.{nat_tests}
use Rattle.std.proofs.lemmas.List.Folds.{list_any-append}
use Rattle.sc_value.specs.Lists.{change_first}
use Rattle.sc_state.specs.declared.proxy.Branch.{Branch}
use Rattle.sc_model.specs.Transactions.{Found, first_in_time, found_with}
use Rattle.sc_hosts.specs.Branches.{is_branch, is_open}
use Rattle.sc_proxied.specs.ProxyLists.{ProxyEvent, final_by, final_of, forwarded_by, forwarded_of, is_cancelled, is_expiry_of, is_open_at, is_rest, is_settled, started_by, started_of, stops, was_started}

-- ## Tests

pub never-both : (b : Bool) → (b && false) ≡ false
never-both true = refl
never-both false = refl

pub or-none : (b : Bool) → (b || false) ≡ b
or-none true = refl
or-none false = refl

pub first-none : (a b : Bool) → (a || b) ≡ false → a ≡ false
first-none true b is = is
first-none false b is = refl

pub second-none : (a b : Bool) → (a || b) ≡ false → b ≡ false
second-none true b is = cc
second-none false b is = is

pub equal : (a b : ℕ) → (a == b) ≡ true → a ≡ b
equal a b is = grind (arith, nat_tests, is)

pub number-itself : (n : ℕ) → (n == n) ≡ true
number-itself n = grind (arith, nat_tests)

-- ## Which branches were started

pub started-next : (number : ℕ) (event : ProxyEvent) (events : List ProxyEvent)
    → was_started number (event ∷ events) ≡ (was_started number events || list_any (λ n. n == number) (started_by event))
unfolding was_started started_of
started-next number event events = list_any-append (λ n. n == number) (started_of events) (started_by event)

pub earlier-unstarted : (number : ℕ) (event : ProxyEvent) (events : List ProxyEvent) → was_started number (event ∷ events) ≡ false
    → was_started number events ≡ false
earlier-unstarted number event events is = first-none (was_started number events) _ (sym (started-next number event events) ∙ is)

-- ## The first in time

-- one that was found has a code
IsCoded : (ProxyEvent → Option ℕ) → Option (Found ProxyEvent) → Type 0
IsCoded code None = Unit {0}
IsCoded code (Some found) = is_some (code found.item) ≡ true

and-second : (a b : Bool) → (a && b) ≡ true → b ≡ true
and-second true b is = is
and-second false b is = cc

module _ (code : ProxyEvent → Option ℕ) (counts : List ProxyEvent → Bool) where
  coded-with : (event : ProxyEvent) (passes : Bool) (before : Option (Found ProxyEvent)) → (passes ≡ true → is_some (code event) ≡ true)
      → IsCoded code before → IsCoded code (found_with event passes before)
  unfolding found_with IsCoded
  coded-with event true None has before = has refl
  coded-with event false None has before = tt
  coded-with event passes (Some found) has before = before

  coded : (events : List ProxyEvent) → IsCoded code (first_in_time (λ earlier event. counts earlier && is_some (code event)) events)
  unfolding first_in_time IsCoded
  coded [] = tt
  coded (event ∷ events) = coded-with event (counts events && is_some (code event)) _ (and-second (counts events) (is_some (code event))) (coded events)

  some-first : (x y : Option ℕ) → is_some x ≡ true → x ≡ option_or x y
  some-first None y is = cc
  some-first (Some n) y is = refl

  next-code : (event : ProxyEvent) (given : Option ℕ) → code event ≡ given → (before : Option (Found ProxyEvent)) → IsCoded code before → (s : Bool)
      → option_and_then (λ (found : Found ProxyEvent). code found.item) (found_with event (s && is_some given) before)
      ≡ option_or (option_and_then (λ (found : Found ProxyEvent). code found.item) before) (cond s given None)
  unfolding found_with IsCoded
  next-code event None at None coded true = refl
  next-code event (Some n) at None coded true = at
  next-code event given at None coded false = refl
  next-code event given at (Some found) coded s = some-first (code found.item) (cond s given None) coded

  pub code-next : (event : ProxyEvent) (events : List ProxyEvent)
      → option_and_then (λ (found : Found ProxyEvent). code found.item) (first_in_time (λ earlier event. counts earlier && is_some (code event)) (event ∷ events))
      ≡ option_or (option_and_then (λ (found : Found ProxyEvent). code found.item) (first_in_time (λ earlier event. counts earlier && is_some (code event)) events)) (cond (counts events) (code event) None)
  unfolding first_in_time
  code-next event events = next-code event (code event) refl (first_in_time (λ earlier event. counts earlier && is_some (code event)) events) (coded events) (counts events)

pub final-next : (number : ℕ) (event : ProxyEvent) (events : List ProxyEvent)
    → final_of number (event ∷ events) ≡ option_or (final_of number events) (cond (was_started number events) (final_by number event) None)
unfolding final_of
final-next number event events = code-next (final_by number) (was_started number) event events

pub forwarded-next : (event : ProxyEvent) (events : List ProxyEvent) → forwarded_of (event ∷ events) ≡ option_or (forwarded_of events) (forwarded_by event)
unfolding forwarded_of
forwarded-next event events = code-next forwarded_by (λ earlier. true) event events

next-found : (event : ProxyEvent) (passes : Bool) (before : Option (Found ProxyEvent)) → is_some (found_with event passes before) ≡ (is_some before || passes)
unfolding found_with
next-found event true None = refl
next-found event false None = refl
next-found event passes (Some found) = refl

pub settled-next : (event : ProxyEvent) (events : List ProxyEvent) → is_settled (event ∷ events) ≡ (is_settled events || stops events event)
unfolding is_settled first_in_time
settled-next event events = next-found event (stops events event) (first_in_time stops events)

-- ## Branches that weren't started

or-nothing : (x : Option ℕ) → option_or x None ≡ x
or-nothing None = refl
or-nothing (Some n) = refl

pub final-same : (number : ℕ) (event : ProxyEvent) (events : List ProxyEvent) → final_by number event ≡ None
    → final_of number (event ∷ events) ≡ final_of number events
final-same number event events none = final-next number event events ∙ by (was_started number events)
  where
    by : (s : Bool) → option_or (final_of number events) (cond s (final_by number event) None) ≡ final_of number events
    by true = rw none (or-nothing (final_of number events))
    by false = or-nothing (final_of number events)

pub unstarted-final : (number : ℕ) (events : List ProxyEvent) → was_started number events ≡ false → final_of number events ≡ None
unfolding final_of first_in_time
unstarted-final number [] none = refl
unstarted-final number (event ∷ events) none =
    final-next number event events ∙ rw (earlier-unstarted number event events none, unstarted-final number events (earlier-unstarted number event events none)) refl

pub unstarted-cancelled : (number : ℕ) (events : List ProxyEvent) → was_started number events ≡ false → is_cancelled number events ≡ false
unfolding is_cancelled
unstarted-cancelled number [] none = refl
unstarted-cancelled number (event ∷ events) none =
    by (is_rest event) (earlier-unstarted number event events none) (unstarted-cancelled number events (earlier-unstarted number event events none))
  where
    by : (b : Bool) → was_started number events ≡ false → is_cancelled number events ≡ false
        → cond b false ((was_started number events && (stops events event || is_expiry_of number event)) || is_cancelled number events) ≡ false
    by true s c = refl
    by false s c = rw (s, c) refl

-- one that has its final response keeps it
pub closed-final : (number : ℕ) (event : ProxyEvent) (events : List ProxyEvent) → is_open_at number events ≡ false
    → final_of number (event ∷ events) ≡ final_of number events
unfolding is_open_at
closed-final number event events closed = final-next number event events ∙ by (was_started number events) (final_of number events) closed
  where
    by : (s : Bool) (f : Option ℕ) → (s && is_none f) ≡ false → option_or f (cond s (final_by number event) None) ≡ f
    by true None is = cc
    by true (Some n) is = refl
    by false f is = or-nothing f

pub open-final : (number code : ℕ) (event : ProxyEvent) (events : List ProxyEvent) → is_open_at number events ≡ true → final_by number event ≡ Some code
    → final_of number (event ∷ events) ≡ Some code
unfolding is_open_at
open-final number code event events running gives = final-next number event events ∙ by (was_started number events) (final_of number events) running
  where
    by : (s : Bool) (f : Option ℕ) → (s && is_none f) ≡ true → option_or f (cond s (final_by number event) None) ≡ Some code
    by true None is = gives
    by true (Some n) is = cc
    by false f is = cc

-- ## Branches as they are

-- what the list says of a branch
pub record IsBranchOf (events : List ProxyEvent) (branch : Branch) : Type 0 where
  pub started : was_started branch.number events ≡ true
  pub ended : branch.ended ≡ final_of branch.number events
  pub cancelled : (is_open branch && branch.cancelled) ≡ (is_open branch && is_cancelled branch.number events)

-- each branch is so
unfoldable pub AllOf : (Branch → Type 0) → List Branch → Type 0
AllOf P [] = Unit {0}
AllOf P (branch ∷ branches) = P branch × AllOf P branches

abbrev pub AreOf : List ProxyEvent → List Branch → Type 0
AreOf events branches = AllOf (IsBranchOf events) branches

unfoldable pub AreApart : List Branch → Type 0
AreApart [] = Unit {0}
AreApart (branch ∷ branches) = (list_any (is_branch branch.number) branches ≡ false) × AreApart branches

abbrev pub number_of : Branch → ℕ
number_of branch = branch.number

-- the first of this number is open where the list says so
open-of : (number : ℕ) (events : List ProxyEvent) (branches : List Branch) → AreOf events branches
    → option_map_or is_open (find (is_branch number) branches) false ≡ (list_any (λ n. n == number) (map number_of branches) && is_none (final_of number events))
unfolding AllOf
open-of number events [] are = refl
open-of number events (branch ∷ branches) are = by (branch.number == number) refl (open-of number events branches are.1)
  where
    by : (b : Bool) → (branch.number == number) ≡ b
        → option_map_or is_open (find (is_branch number) branches) false ≡ (list_any (λ n. n == number) (map number_of branches) && is_none (final_of number events))
        → option_map_or is_open (cond b (Some branch) (find (is_branch number) branches)) false
        ≡ ((b || list_any (λ n. n == number) (map number_of branches)) && is_none (final_of number events))
    by true at more = ap (λ (f : Option ℕ). is_none f) are.0.ended ∙ ap (λ (n : ℕ). is_none (final_of n events)) (equal branch.number number at)
    by false at more = more

pub open-is : (number : ℕ) (events : List ProxyEvent) (branches : List Branch) → map number_of branches ≡ started_of events → AreOf events branches
    → option_map_or is_open (find (is_branch number) branches) false ≡ is_open_at number events
unfolding is_open_at was_started
open-is number events branches started are =
    open-of number events branches are ∙ ap (λ (ns : List ℕ). list_any (λ n. n == number) ns && is_none (final_of number events)) started

-- those that pass a test, by their numbers
pub kept-numbers : (branches : List Branch) (test : Branch → Bool) (tells : ℕ → Bool) (events : List ProxyEvent) → AreOf events branches
    → ((branch : Branch) → IsBranchOf events branch → test branch ≡ tells branch.number)
    → map number_of (filter test branches) ≡ filter tells (map number_of branches)
unfolding AllOf
kept-numbers [] test tells events are same = refl
kept-numbers (branch ∷ branches) test tells events are same = by (test branch) (tells branch.number) (same branch are.0) (kept-numbers branches test tells events are.1 same)
  where
    by : (b c : Bool) → b ≡ c → map number_of (filter test branches) ≡ filter tells (map number_of branches)
        → map number_of (cond b (branch ∷ filter test branches) (filter test branches)) ≡ cond c (branch.number ∷ filter tells (map number_of branches)) (filter tells (map number_of branches))
    by true true is more = ap (λ ns. branch.number ∷ ns) more
    by false false is more = more
    by true false is more = cc
    by false true is more = cc

-- ## Changes of branches

module _ (P Q : Branch → Type 0) where
  pub each-of : (branches : List Branch) (change : Branch → Branch) → ((branch : Branch) → P branch → Q (change branch)) → AllOf P branches
      → AllOf Q (map change branches)
  unfolding AllOf
  each-of [] change each are = tt
  each-of (branch ∷ branches) change each are = (each branch are.0, each-of branches change each are.1)

  pub all-of : (branches : List Branch) → ((branch : Branch) → P branch → Q branch) → AllOf P branches → AllOf Q branches
  unfolding AllOf
  all-of [] each are = tt
  all-of (branch ∷ branches) each are = (each branch are.0, all-of branches each are.1)

  -- the first of a number is changed, and the others are of other numbers
  pub first-of : (number : ℕ) (branches : List Branch) (change : Branch → Branch) → AreApart branches
      → ((branch : Branch) → (branch.number == number) ≡ true → P branch → Q (change branch))
      → ((branch : Branch) → (branch.number == number) ≡ false → P branch → Q branch)
      → AllOf P branches → AllOf Q (change_first (is_branch number) change branches)
  unfolding AllOf AreApart change_first
  first-of number [] change apart here there are = tt
  first-of number (branch ∷ branches) change apart here there are =
      by (branch.number == number) refl (first-of number branches change apart.1 here there are.1)
    where
      others : (rest : List Branch) → list_any (is_branch branch.number) rest ≡ false → (branch.number == number) ≡ true → AllOf P rest → AllOf Q rest
      others [] none at are = tt
      others (b ∷ rest) none at are = (
        there b (subst (λ (n : ℕ). (b.number == n) ≡ false) (equal branch.number number at) (first-none (b.number == branch.number) (list_any (is_branch branch.number) rest) none)) are.0,
        others rest (second-none (b.number == branch.number) (list_any (is_branch branch.number) rest) none) at are.1,
      )

      by : (b : Bool) → (branch.number == number) ≡ b → AllOf Q (change_first (is_branch number) change branches)
          → AllOf Q (cond b (change branch ∷ branches) (branch ∷ change_first (is_branch number) change branches))
      by true at more = (here branch at are.0, others branches apart.0 at are.1)
      by false at more = (there branch at are.0, more)

pub more-of : (P : Branch → Type 0) (branches : List Branch) (new : Branch) → AllOf P branches → P new → AllOf P (branches ++ new ∷ [])
unfolding AllOf
more-of P [] new are is = (is, tt)
more-of P (branch ∷ branches) new are is = (are.0, more-of P branches new are.1 is)

none-of : (a b : Bool) → a ≡ false → b ≡ false → (a || b) ≡ false
none-of a b p q = rw (p, q) refl

pub first-numbers : (test : Branch → Bool) (change : Branch → Branch) (branches : List Branch) → ((b : Branch) → (change b).number ≡ b.number)
    → map number_of (change_first test change branches) ≡ map number_of branches
unfolding change_first
first-numbers test change [] same = refl
first-numbers test change (branch ∷ branches) same = by (test branch) (same branch) (first-numbers test change branches same)
  where
    by : (b : Bool) → (change branch).number ≡ branch.number → map number_of (change_first test change branches) ≡ map number_of branches
        → map number_of (cond b (change branch ∷ branches) (branch ∷ change_first test change branches)) ≡ (branch.number ∷ map number_of branches)
    by true one more = rw one refl
    by false one more = rw more refl

pub each-number : (change : Branch → Branch) (branches : List Branch) → ((b : Branch) → (change b).number ≡ b.number)
    → map number_of (map change branches) ≡ map number_of branches
each-number change [] same = refl
each-number change (branch ∷ branches) same = rw (same branch, each-number change branches same) refl

-- apart by their numbers alone
any-number : (number : ℕ) (branches : List Branch) → list_any (is_branch number) branches ≡ list_any (λ n. n == number) (map number_of branches)
any-number number [] = refl
any-number number (branch ∷ branches) = ap (λ b. (branch.number == number) || b) (any-number number branches)

unfoldable pub NumbersApart : List ℕ → Type 0
NumbersApart [] = Unit {0}
NumbersApart (n ∷ ns) = (list_any (λ m. m == n) ns ≡ false) × NumbersApart ns

pub apart-of : (branches : List Branch) → NumbersApart (map number_of branches) → AreApart branches
unfolding NumbersApart AreApart
apart-of [] apart = tt
apart-of (branch ∷ branches) apart = (any-number branch.number branches ∙ apart.0, apart-of branches apart.1)

pub other-way : (a b : ℕ) → (a == b) ≡ false → (b == a) ≡ false
other-way a b is = grind (arith, nat_tests, is)

none-more : (n m : ℕ) (ns : List ℕ) → list_any (λ k. k == n) ns ≡ false → (m == n) ≡ false → list_any (λ k. k == n) (ns ++ m ∷ []) ≡ false
none-more n m [] none last = rw last refl
none-more n m (k ∷ ns) none last = none-of (k == n) _ (first-none (k == n) (list_any (λ j. j == n) ns) none) (none-more n m ns (second-none (k == n) (list_any (λ j. j == n) ns) none) last)

pub append-numbers : (branches : List Branch) (new : Branch) → map number_of (branches ++ new ∷ []) ≡ map number_of branches ++ new.number ∷ []
append-numbers [] new = refl
append-numbers (branch ∷ branches) new = ap (λ ns. branch.number ∷ ns) (append-numbers branches new)

pub numbers-more : (m : ℕ) (ns : List ℕ) → NumbersApart ns → list_any (λ k. k == m) ns ≡ false → NumbersApart (ns ++ m ∷ [])
unfolding NumbersApart
numbers-more m [] apart none = (refl, tt)
numbers-more m (n ∷ ns) apart none =
    (none-more n m ns apart.0 (other-way n m (first-none (n == m) (list_any (λ k. k == m) ns) none)), numbers-more m ns apart.1 (second-none (n == m) (list_any (λ k. k == m) ns) none))

-- ## Targets

pub drop-more : {A : Type 0} (n : ℕ) (xs ys : List A) → n ≤ length xs → drop n xs ++ ys ≡ drop n (xs ++ ys)
drop-more zero xs ys room = refl
drop-more (suc n) [] ys room = absurd (omega (arith, room))
drop-more (suc n) (x ∷ xs) ys room = drop-more n xs ys (omega (arith, room))

next-number : (n : ℕ) → suc n + 1 ≡ suc (n + 1)
next-number n = omega arith

pub drop-next : {A : Type 0} (n : ℕ) (xs : List A) → drop 1 (drop n xs) ≡ drop (n + 1) xs
drop-next zero xs = refl
drop-next (suc n) [] = rw (next-number n) refl
drop-next (suc n) (x ∷ xs) = rw (next-number n) (drop-next n xs)

pub longer : {A : Type 0} (n : ℕ) (xs ys : List A) → n ≤ length xs → n ≤ length (xs ++ ys)
longer zero xs ys room = omega arith
longer (suc n) [] ys room = absurd (omega (arith, room))
longer (suc n) (x ∷ xs) ys room = up n (length xs) (length (xs ++ ys)) (longer n xs ys) room
  where
    up : (n a b : ℕ) → (n ≤ a → n ≤ b) → suc n ≤ suc a → suc n ≤ suc b
    up n a b more room = omega (arith, more (omega (arith, room)))
