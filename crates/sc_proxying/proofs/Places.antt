-- The proxied requests of a session, each of a number of its own: one of them changes, and more are added.
use Rattle.std.proofs.Common.{◌≡◌, ℕ, ◌++◌, Bool, true, false, None, Some, List, [], ◌∷◌, refl, sym, ap, subst, ◌∙◌, arith}
use Rattle.std.specs.Prelude.{◌==◌, ◌||◌, cond}
use Rattle.std.specs.List.{find, list_any}
use Rattle.std.proofs.lemmas.Bool.Decides.{nat_tests}
use Rattle.sc_value.specs.Lists.{change_first}
use Rattle.sc_value.specs.declared.ids.ReqId.{ReqId}
use Rattle.sc_state.specs.declared.proxy.Proxy.{Proxy}
use Rattle.sc_hosts.specs.Looking.{same_request}
use Rattle.sc_proxied.specs.ProxyLists.{ProxyEvent, happens, proxy_after}
use Rattle.sc_proxied.proofs.Lists.{NumbersApart, equal, first-none, number-itself, numbers-more, second-none}
use Rattle.sc_walked.specs.SessionWalks.{Each}
use Rattle.sc_walked.proofs.WalkParts.{each-same}
use Rattle.sc_lasting.specs.Lasting.{All}
use Rattle.sc_lasting.proofs.Parts.{all-found}

-- their numbers
unfoldable pub numbers_of : List Proxy → List ℕ
numbers_of [] = []
numbers_of (p ∷ all) = p.req.0 ∷ numbers_of all

-- each has its own
abbrev pub AreSingle : List Proxy → Type 0
AreSingle all = NumbersApart (numbers_of all)

-- none has this one
abbrev pub IsFree : ℕ → List Proxy → Type 0
IsFree number all = list_any (λ n. n == number) (numbers_of all) ≡ false

abbrev pub is_at : ReqId → Proxy → Bool
is_at req p = same_request p.req req

pub none-other : (number : ℕ) (all : List Proxy) → IsFree number all → All (λ (p : Proxy). (p.req.0 == number) ≡ false) all
unfolding All numbers_of
none-other number [] free = tt
none-other number (p ∷ all) free =
    (first-none (p.req.0 == number) (list_any (λ n. n == number) (numbers_of all)) free, none-other number all (second-none (p.req.0 == number) (list_any (λ n. n == number) (numbers_of all)) free))

pub other-free : (number : ℕ) (all : List Proxy) → All (λ (p : Proxy). (p.req.0 == number) ≡ false) all → IsFree number all
unfolding All numbers_of
other-free number [] each = refl
other-free number (p ∷ all) each = rw (each.0, other-free number all each.1) refl

pub numbers-append : (all : List Proxy) (p : Proxy) → numbers_of (all ++ p ∷ []) ≡ numbers_of all ++ p.req.0 ∷ []
unfolding numbers_of
numbers-append [] p = refl
numbers-append (q ∷ all) p = ap (λ ns. q.req.0 ∷ ns) (numbers-append all p)

pub single-more : (all : List Proxy) (p : Proxy) → AreSingle all → IsFree p.req.0 all → AreSingle (all ++ p ∷ [])
single-more all p single free = subst NumbersApart (sym (numbers-append all p)) (numbers-more p.req.0 (numbers_of all) single free)

pub free-append : (number : ℕ) (all : List Proxy) (p : Proxy) → IsFree number all → (p.req.0 == number) ≡ false → IsFree number (all ++ p ∷ [])
unfolding numbers_of
free-append number [] p free other = rw other refl
free-append number (q ∷ all) p free other =
    rw (first-none (q.req.0 == number) (list_any (λ n. n == number) (numbers_of all)) free, free-append number all p (second-none (q.req.0 == number) (list_any (λ n. n == number) (numbers_of all)) free) other) refl

pub same-numbers : (xs ys : List Proxy) → Each (λ (p q : Proxy). q.req ≡ p.req) xs ys → numbers_of ys ≡ numbers_of xs
unfolding numbers_of Each
same-numbers [] [] each = refl
same-numbers [] (y ∷ ys) each = absurd each
same-numbers (x ∷ xs) [] each = absurd each
same-numbers (x ∷ xs) (y ∷ ys) each = rw (each.0, same-numbers xs ys each.1) refl

-- ## The one that is found

-- of one that isn't found there is none
pub none-found : (req : ReqId) (all : List Proxy) → find (is_at req) all ≡ None → IsFree req.0 all
unfolding numbers_of
none-found req [] none = refl
none-found req (p ∷ all) none = by (p.req.0 == req.0) none (none-found req all)
  where
    by : (b : Bool) → cond b (Some p) (find (is_at req) all) ≡ None → (find (is_at req) all ≡ None → IsFree req.0 all)
        → (b || list_any (λ n. n == req.0) (numbers_of all)) ≡ false
    by true none more = cc
    by false none more = more none

some-same : {A : Type 0} (x y : A) → Some x ≡ Some y → x ≡ y
some-same x y is = cc

-- one that passes a test is the one of its number
pub found-same : (test : Proxy → Bool) (all : List Proxy) (proxy : Proxy) → AreSingle all → find test all ≡ Some proxy
    → find (is_at proxy.req) all ≡ Some proxy
unfolding NumbersApart numbers_of
found-same test [] proxy single is = cc
found-same test (p ∷ all) proxy single is = by (test p) is (found-same test all proxy single.1)
  where
    turned : (a b : ℕ) → (a == b) ≡ false → (b == a) ≡ false
    turned a b is = grind (arith, nat_tests, is)

    by : (b : Bool) → cond b (Some p) (find test all) ≡ Some proxy → (find test all ≡ Some proxy → find (is_at proxy.req) all ≡ Some proxy)
        → cond (p.req.0 == proxy.req.0) (Some p) (find (is_at proxy.req) all) ≡ Some proxy
    by true is more = subst (λ (q : Proxy). cond (p.req.0 == q.req.0) (Some p) (find (is_at q.req) all) ≡ Some q) (some-same p proxy is) (rw (number-itself p.req.0) refl)
    by false is more =
        let differs : (proxy.req.0 == p.req.0) ≡ false = all-found (λ (q : Proxy). (q.req.0 == p.req.0) ≡ false) test all proxy is (none-other p.req.0 all single.0) in
        rw (turned proxy.req.0 p.req.0 differs) (more is)

pub same-found : (test : Proxy → Bool) (all : List Proxy) (p q : Proxy) → find test all ≡ Some p → find test all ≡ Some q → p ≡ q
same-found test all p q one other = some-same p q (sym one ∙ other)

-- ## One of them changes

pub each-found : {A : Type 0} (Same : A → A → Type 0) (test : A → Bool) (change : A → A) (xs : List A) → ((x : A) → Same x x)
    → ((x : A) → find test xs ≡ Some x → Same x (change x)) → Each Same xs (change_first test change xs)
unfolding Each change_first
each-found Same test change [] keep each = tt
each-found {A = A} Same test change (x ∷ xs) keep each = by (test x) each (λ more. each-found Same test change xs keep more)
  where
    by : (b : Bool) → ((y : A) → cond b (Some x) (find test xs) ≡ Some y → Same y (change y))
        → (((y : A) → find test xs ≡ Some y → Same y (change y)) → Each Same xs (change_first test change xs))
        → Each Same (x ∷ xs) (cond b (change x ∷ xs) (x ∷ change_first test change xs))
    by true each later = (each x refl, each-same Same xs keep)
    by false each later = (keep x, later each)

-- what happens to the one of this number
abbrev pub only_at : ReqId → ProxyEvent → Proxy → List ProxyEvent
only_at req event p = cond (is_at req p) (event ∷ []) []

none-at : (req : ReqId) (event : ProxyEvent) (all : List Proxy) → All (λ (p : Proxy). (p.req.0 == req.0) ≡ false) all
    → Each (λ (p q : Proxy). q ≡ proxy_after p (only_at req event p)) all all
unfolding Each All proxy_after
none-at req event [] each = tt
none-at req event (p ∷ all) each = (rw (each.0) refl, none-at req event all each.1)

pub free-at : (req : ReqId) (event : ProxyEvent) (all : List Proxy) → IsFree req.0 all → Each (λ (p q : Proxy). q ≡ proxy_after p (only_at req event p)) all all
free-at req event all free = none-at req event all (none-other req.0 all free)

pub changed-at : (req : ReqId) (event : ProxyEvent) (change : Proxy → Proxy) (all : List Proxy) → ((p : Proxy) → change p ≡ happens event p) → AreSingle all
    → Each (λ (p q : Proxy). q ≡ proxy_after p (only_at req event p)) all (change_first (is_at req) change all)
unfolding Each change_first NumbersApart numbers_of proxy_after
changed-at req event change [] same single = tt
changed-at req event change (p ∷ all) same single = by (is_at req p) refl (changed-at req event change all same single.1)
  where
    by : (b : Bool) → (p.req.0 == req.0) ≡ b → Each (λ (p q : Proxy). q ≡ proxy_after p (only_at req event p)) all (change_first (is_at req) change all)
        → Each (λ (p q : Proxy). q ≡ proxy_after p (only_at req event p)) (p ∷ all) (cond b (change p ∷ all) (p ∷ change_first (is_at req) change all))
    by true is more = (rw is (same p), free-at req event all (subst (λ (n : ℕ). IsFree n all) (equal p.req.0 req.0 is) single.0))
    by false is more = (rw is refl, more)

-- the first of its number stands behind these
pub changed-there : (req : ReqId) (change : Proxy → Proxy) (done : List Proxy) (p : Proxy) (rest : List Proxy) → IsFree req.0 done → (p.req.0 == req.0) ≡ true
    → change_first (is_at req) change (done ++ p ∷ rest) ≡ done ++ change p ∷ rest
unfolding change_first numbers_of
changed-there req change [] p rest free is = rw is refl
changed-there req change (d ∷ done) p rest free is =
    rw (first-none (d.req.0 == req.0) (list_any (λ n. n == req.0) (numbers_of done)) free)
    (ap (λ (ps : List Proxy). d ∷ ps) (changed-there req change done p rest (second-none (d.req.0 == req.0) (list_any (λ n. n == req.0) (numbers_of done)) free) is))

pub found-there : (req : ReqId) (done : List Proxy) (p : Proxy) (rest : List Proxy) → IsFree req.0 done → (p.req.0 == req.0) ≡ true
    → find (is_at req) (done ++ p ∷ rest) ≡ Some p
unfolding numbers_of
found-there req [] p rest free is = rw is refl
found-there req (d ∷ done) p rest free is =
    rw (first-none (d.req.0 == req.0) (list_any (λ n. n == req.0) (numbers_of done)) free)
    (found-there req done p rest (second-none (d.req.0 == req.0) (list_any (λ n. n == req.0) (numbers_of done)) free) is)

-- ## They change, and more are added

-- each has become another in this way, and each one behind them is one of those
unfoldable pub Grows : (Proxy → Proxy → Type 0) → (Proxy → Type 0) → List Proxy → List Proxy → Type 0
Grows Old New [] ys = All New ys
Grows Old New (x ∷ xs) [] = ⊥
Grows Old New (x ∷ xs) (y ∷ ys) = Old x y × Grows Old New xs ys

pub each-grows : (Old : Proxy → Proxy → Type 0) (New : Proxy → Type 0) (xs ys : List Proxy) → Each Old xs ys → Grows Old New xs ys
unfolding Each Grows All
each-grows Old New [] [] each = tt
each-grows Old New [] (y ∷ ys) each = absurd each
each-grows Old New (x ∷ xs) [] each = absurd each
each-grows Old New (x ∷ xs) (y ∷ ys) each = (each.0, each-grows Old New xs ys each.1)

pub grows-more : (Old : Proxy → Proxy → Type 0) (New : Proxy → Type 0) (xs ys : List Proxy) (new : Proxy) → Each Old xs ys → New new → Grows Old New xs (ys ++ new ∷ [])
unfolding Each Grows All
grows-more Old New [] [] new each one = (one, tt)
grows-more Old New [] (y ∷ ys) new each one = absurd each
grows-more Old New (x ∷ xs) [] new each one = absurd each
grows-more Old New (x ∷ xs) (y ∷ ys) new each one = (each.0, grows-more Old New xs ys new each.1 one)

module _ (Old Later Both : Proxy → Proxy → Type 0) (New More All-new : Proxy → Type 0) (old : (x y z : Proxy) → Old x y → Later y z → Both x z)
    (next : (y z : Proxy) → New y → Later y z → All-new z) (more : (z : Proxy) → More z → All-new z) where
  all-more : (zs : List Proxy) → All More zs → All All-new zs
  unfolding All
  all-more [] all = tt
  all-more (z ∷ zs) all = (more z all.0, all-more zs all.1)

  all-then : (ys zs : List Proxy) → All New ys → Grows Later More ys zs → All All-new zs
  unfolding All Grows
  all-then [] zs all grows = all-more zs grows
  all-then (y ∷ ys) [] all grows = absurd grows
  all-then (y ∷ ys) (z ∷ zs) all grows = (next y z all.0 grows.0, all-then ys zs all.1 grows.1)

  pub grows-then : (xs ys zs : List Proxy) → Grows Old New xs ys → Grows Later More ys zs → Grows Both All-new xs zs
  unfolding Grows
  grows-then [] ys zs first second = all-then ys zs first second
  grows-then (x ∷ xs) [] zs first second = absurd first
  grows-then (x ∷ xs) (y ∷ ys) [] first second = absurd second
  grows-then (x ∷ xs) (y ∷ ys) (z ∷ zs) first second = (old x y z first.0 second.0, grows-then xs ys zs first.1 second.1)

pub grows-all : (Old : Proxy → Proxy → Type 0) (New P R : Proxy → Type 0) (xs ys : List Proxy) → ((x y : Proxy) → Old x y → P x → R y) → ((y : Proxy) → New y → R y)
    → Grows Old New xs ys → All P xs → All R ys
unfolding Grows All
grows-all Old New P R [] [] old new grows all = tt
grows-all Old New P R [] (y ∷ ys) old new grows all = (new y grows.0, grows-all Old New P R [] ys old new grows.1 all)
grows-all Old New P R (x ∷ xs) [] old new grows all = absurd grows
grows-all Old New P R (x ∷ xs) (y ∷ ys) old new grows all = (old x y grows.0 all.0, grows-all Old New P R xs ys old new grows.1 all.1)

pub grows-weaker : (Old Older : Proxy → Proxy → Type 0) (New Newer : Proxy → Type 0) (xs ys : List Proxy) → ((x y : Proxy) → Old x y → Older x y)
    → ((y : Proxy) → New y → Newer y) → Grows Old New xs ys → Grows Older Newer xs ys
unfolding Grows All
grows-weaker Old Older New Newer [] [] old new grows = tt
grows-weaker Old Older New Newer [] (y ∷ ys) old new grows = (new y grows.0, grows-weaker Old Older New Newer [] ys old new grows.1)
grows-weaker Old Older New Newer (x ∷ xs) [] old new grows = absurd grows
grows-weaker Old Older New Newer (x ∷ xs) (y ∷ ys) old new grows = (old x y grows.0, grows-weaker Old Older New Newer xs ys old new grows.1)

pub grows-append : (Old : Proxy → Proxy → Type 0) (New : Proxy → Type 0) (xs ys : List Proxy) (new : Proxy) → Grows Old New xs ys → New new → Grows Old New xs (ys ++ new ∷ [])
unfolding Grows All
grows-append Old New [] [] new grows one = (one, tt)
grows-append Old New [] (y ∷ ys) new grows one = (grows.0, grows-append Old New [] ys new grows.1 one)
grows-append Old New (x ∷ xs) [] new grows one = absurd grows
grows-append Old New (x ∷ xs) (y ∷ ys) new grows one = (grows.0, grows-append Old New xs ys new grows.1 one)

-- of what they are now something is known besides
pub grows-both : (Old : Proxy → Proxy → Type 0) (New P S R : Proxy → Type 0) (xs ys : List Proxy) → ((x y : Proxy) → Old x y → P x → S y → R y)
    → ((y : Proxy) → New y → S y → R y) → Grows Old New xs ys → All P xs → All S ys → All R ys
unfolding Grows All
grows-both Old New P S R [] [] old new grows all now = tt
grows-both Old New P S R [] (y ∷ ys) old new grows all now = (new y grows.0 now.0, grows-both Old New P S R [] ys old new grows.1 all now.1)
grows-both Old New P S R (x ∷ xs) [] old new grows all now = absurd grows
grows-both Old New P S R (x ∷ xs) (y ∷ ys) old new grows all now = (old x y grows.0 all.0 now.0, grows-both Old New P S R xs ys old new grows.1 all.1 now.1)
