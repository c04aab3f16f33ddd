-- Sums of branches over pages.
use Rattle.std.proofs.Common.{◌≡◌, ◌+◌, ℕ, List, ◌++◌, min, sum_by, ap, ◌∙◌, arith}
use Rattle.sc_queue.specs.Joined.{joined}
use Rattle.sc_pages.proofs.PagesLaws.{sum_all}

capped : (a b m s : ℕ) → s ≡ a + b → min (min a m + min b m) m ≡ min s m
capped a b m s is = grind (arith, is)

pub with_newest : {A : Type 0} (f : A → ℕ) (all : List A) (pages : List (List A)) (newest : List A) (m : ℕ) → all ≡ joined pages ++ newest
    → min (min (sum_by (λ page. sum_by f page) pages) m + min (sum_by f newest) m) m ≡ min (sum_by f all) m
with_newest f all pages newest m is = capped (sum_by (λ page. sum_by f page) pages) (sum_by f newest) m (sum_by f all) (sum_all f all pages newest is)

pub of_parts : {A : Type 0} (f : A → ℕ) (all : List A) (pages : List (List A)) (newest : List A) (m of_pages of_newest sum : ℕ) → all ≡ joined pages ++ newest
    → of_pages ≡ min (sum_by (λ page. sum_by f page) pages) m → of_newest ≡ min (sum_by f newest) m → sum ≡ min (of_pages + of_newest) m → sum ≡ min (sum_by f all) m
of_parts f all pages newest m of_pages of_newest sum is before own now =
    now ∙ ap (λ n. min (n + of_newest) m) before ∙ ap (λ n. min (min (sum_by (λ page. sum_by f page) pages) m + n) m) own
    ∙ with_newest f all pages newest m is
