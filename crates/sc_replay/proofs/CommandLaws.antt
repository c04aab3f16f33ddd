-- The words of a command line, by their number.
use Rattle.std.proofs.Common.{◌≡◌, ◌<◌, ◌≤◌, ℕ, Option, None, Some, true, false, Bool, cond, List, [], ◌∷◌, map, length, sym, ap, subst, refl, ◌∙◌, arith}
use Rattle.std.specs.Prelude.{get_or}
use Rattle.std.proofs.lemmas.Bool.{false≢true}
use Rattle.sc_tokens.specs.Names.{same_bytes}
use Rattle.sc_tokens.specs.Bytes.{Bytes}
use Rattle.sc_replay.specs.declared.commanding.Command.TheVariants.{Usage}
use Rattle.sc_replay.specs.Commands.{command_of, count_behind, count_after_name as counted, counted_command, settled_command, scripted_command, settled_names}

pub two_words : {S : Type 0} (f : S → Bytes) (words : List S) (a b : S) → 2 ≤ length words → length words < 3 → a ≡ get_or words 0 a → b ≡ get_or words 1 b
    → counted_command (f a) (f b) ≡ command_of (map f words)
unfolding command_of
two_words f [] a b least below first second = absurd (omega (arith, least))
two_words f (x ∷ []) a b least below first second = absurd (omega (arith, least))
two_words f (x ∷ y ∷ []) a b least below first second = ap (λ w. counted_command (f w) (f b)) first ∙ ap (λ w. counted_command (f x) (f w)) second
two_words f (x ∷ y ∷ z ∷ more) a b least below first second = absurd (omega (arith, below))

pub three_words : {S : Type 0} (f : S → Bytes) (words : List S) (a : S) → 3 ≤ length words → length words < 4 → a ≡ get_or words 0 a → settled_command (f a) ≡ command_of (map f words)
unfolding command_of
three_words f [] a least below first = absurd (omega (arith, least))
three_words f (x ∷ []) a least below first = absurd (omega (arith, least))
three_words f (x ∷ y ∷ []) a least below first = absurd (omega (arith, least))
three_words f (x ∷ y ∷ z ∷ []) a least below first = ap (λ w. settled_command (f w)) first
three_words f (x ∷ y ∷ z ∷ v ∷ more) a least below first = absurd (omega (arith, below))

pub four_words : {S : Type 0} (f : S → Bytes) (words : List S) (a : S) → 4 ≤ length words → length words < 5 → a ≡ get_or words 0 a → scripted_command (f a) ≡ command_of (map f words)
unfolding command_of
four_words f [] a least below first = absurd (omega (arith, least))
four_words f (x ∷ []) a least below first = absurd (omega (arith, least))
four_words f (x ∷ y ∷ []) a least below first = absurd (omega (arith, least))
four_words f (x ∷ y ∷ z ∷ []) a least below first = absurd (omega (arith, least))
four_words f (x ∷ y ∷ z ∷ v ∷ []) a least below first = ap (λ w. scripted_command (f w)) first
four_words f (x ∷ y ∷ z ∷ v ∷ w ∷ more) a least below first = absurd (omega (arith, below))

pub few_words : {S : Type 0} (f : S → Bytes) (words : List S) → length words < 2 → Usage ≡ command_of (map f words)
unfolding command_of
few_words f [] below = refl
few_words f (x ∷ []) below = refl
few_words f (x ∷ y ∷ more) below = absurd (omega (arith, below))

pub many_words : {S : Type 0} (f : S → Bytes) (words : List S) → 5 ≤ length words → Usage ≡ command_of (map f words)
unfolding command_of
many_words f [] least = absurd (omega (arith, least))
many_words f (x ∷ []) least = absurd (omega (arith, least))
many_words f (x ∷ y ∷ []) least = absurd (omega (arith, least))
many_words f (x ∷ y ∷ z ∷ []) least = absurd (omega (arith, least))
many_words f (x ∷ y ∷ z ∷ v ∷ []) least = absurd (omega (arith, least))
many_words f (x ∷ y ∷ z ∷ v ∷ w ∷ more) least = refl

-- ## `make` and `trial`

pub counted_two : {S : Type 0} (f : S → Bytes) (name : Bytes) (words : List S) (a b : S) → 2 ≤ length words → length words < 3 → a ≡ get_or words 0 a → b ≡ get_or words 1 b
    → count_behind name (f a) (f b) ≡ counted name (map f words)
unfolding counted
counted_two f name [] a b least below first second = absurd (omega (arith, least))
counted_two f name (x ∷ []) a b least below first second = absurd (omega (arith, least))
counted_two f name (x ∷ y ∷ []) a b least below first second = ap (λ w. count_behind name (f w) (f b)) first ∙ ap (λ w. count_behind name (f x) (f w)) second
counted_two f name (x ∷ y ∷ z ∷ more) a b least below first second = absurd (omega (arith, below))

pub counted_few : {S : Type 0} (f : S → Bytes) (name : Bytes) (words : List S) → length words < 2 → ◌≡◌ {A = Option ℕ} None (counted name (map f words))
unfolding counted
counted_few f name [] below = refl
counted_few f name (x ∷ []) below = refl
counted_few f name (x ∷ y ∷ more) below = absurd (omega (arith, below))

pub counted_many : {S : Type 0} (f : S → Bytes) (name : Bytes) (words : List S) → 3 ≤ length words → ◌≡◌ {A = Option ℕ} None (counted name (map f words))
unfolding counted
counted_many f name [] least = absurd (omega (arith, least))
counted_many f name (x ∷ []) least = absurd (omega (arith, least))
counted_many f name (x ∷ y ∷ []) least = absurd (omega (arith, least))
counted_many f name (x ∷ y ∷ z ∷ more) least = refl

-- ## `check CONFIG DAR` and `serve CONFIG DAR`

if_names : (t : Bool) (names : Bytes × Bytes) → t ≡ true → Some names ≡ cond t (Some names) None
if_names true names e = refl
if_names false names e = absurd (false≢true e)

if_none : (t : Bool) (names : Bytes × Bytes) → t ≡ false → None ≡ cond t (Some names) None
if_none true names e = absurd (false≢true (sym e))
if_none false names e = refl

pub settled_three : {S : Type 0} (f : S → Bytes) (name : Bytes) (words : List S) (a b c : S) → 3 ≤ length words → length words < 4 → a ≡ get_or words 0 a → b ≡ get_or words 1 b → c ≡ get_or words 2 c
    → same_bytes (f a) name ≡ true → Some (f b, f c) ≡ settled_names name (map f words)
unfolding settled_names
settled_three f name [] a b c least below first second third is = absurd (omega (arith, least))
settled_three f name (x ∷ []) a b c least below first second third is = absurd (omega (arith, least))
settled_three f name (x ∷ y ∷ []) a b c least below first second third is = absurd (omega (arith, least))
settled_three f name (x ∷ y ∷ z ∷ []) a b c least below first second third is =
    ap (λ w. Some (f w, f c)) second ∙ ap (λ w. Some (f y, f w)) third ∙ if_names (same_bytes (f x) name) (f y, f z) (subst (λ w. same_bytes (f w) name ≡ true) first is)
settled_three f name (x ∷ y ∷ z ∷ v ∷ more) a b c least below first second third is = absurd (omega (arith, below))

pub settled_other : {S : Type 0} (f : S → Bytes) (name : Bytes) (words : List S) (a : S) → 3 ≤ length words → length words < 4 → a ≡ get_or words 0 a → same_bytes (f a) name ≡ false → None ≡ settled_names name (map f words)
unfolding settled_names
settled_other f name [] a least below first is = absurd (omega (arith, least))
settled_other f name (x ∷ []) a least below first is = absurd (omega (arith, least))
settled_other f name (x ∷ y ∷ []) a least below first is = absurd (omega (arith, least))
settled_other f name (x ∷ y ∷ z ∷ []) a least below first is = if_none (same_bytes (f x) name) (f y, f z) (subst (λ w. same_bytes (f w) name ≡ false) first is)
settled_other f name (x ∷ y ∷ z ∷ v ∷ more) a least below first is = absurd (omega (arith, below))

pub settled_few : {S : Type 0} (f : S → Bytes) (name : Bytes) (words : List S) → length words < 3 → None ≡ settled_names name (map f words)
unfolding settled_names
settled_few f name [] below = refl
settled_few f name (x ∷ []) below = refl
settled_few f name (x ∷ y ∷ []) below = refl
settled_few f name (x ∷ y ∷ z ∷ more) below = absurd (omega (arith, below))

pub settled_many : {S : Type 0} (f : S → Bytes) (name : Bytes) (words : List S) → 4 ≤ length words → None ≡ settled_names name (map f words)
unfolding settled_names
settled_many f name [] least = absurd (omega (arith, least))
settled_many f name (x ∷ []) least = absurd (omega (arith, least))
settled_many f name (x ∷ y ∷ []) least = absurd (omega (arith, least))
settled_many f name (x ∷ y ∷ z ∷ []) least = absurd (omega (arith, least))
settled_many f name (x ∷ y ∷ z ∷ v ∷ more) least = refl
