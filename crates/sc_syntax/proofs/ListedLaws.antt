-- Parts that are read are spelled: a text is its parts with the separators between.
use Rattle.std.proofs.Common.{◌≡◌, ℕ, Bool, true, false, cond, not, Option, Some, None, List, [], ◌∷◌, ◌++◌, ◌&&◌, ◌==◌, drop, refl, sym, ap, subst, ◌∙◌}
use Rattle.std.specs.Prelude.{nat_eq}
use Rattle.std.specs.List.{list_any, list_all}
use Rattle.std.specs.Option.{option_map, option_and_then}
use Rattle.std.proofs.lemmas.Bool.{false≢true}
use Rattle.sc_tokens.specs.Names.{same_bytes}
use Rattle.sc_syntax.specs.declared.scan.Scan.{Scan}
use Rattle.sc_tokens.specs.Bytes.{Bytes}
use Rattle.sc_tokens.specs.Cuts.{onto_first}
use Rattle.sc_syntax.specs.Scanning.{is_outside, past, is_part_end, parts, with_first, all_read}
use Rattle.sc_syntax.specs.SpelledParts.{AreLed, AreListed}
use Rattle.sc_syntax.proofs.CutLaws.{some_same, none_some}
use Rattle.sc_syntax.proofs.BlankLaws.{both, and_true}
use Rattle.sc_syntax.proofs.ClassLaws.{same_number}

-- ## Answers

pub if_some : {X : Type 0} (t : Bool) (o : Option X) (y : X) → cond t o None ≡ Some y → (t ≡ true) × (o ≡ Some y)
if_some true o y h = (refl, h)
if_some false o y h = absurd (none_some y h)

pub map_some : {X Y : Type 0} (f : X → Y) (o : Option X) (y : Y) → option_map f o ≡ Some y → (x : X) × (o ≡ Some x) × (f x ≡ y)
map_some f None y h = absurd (none_some y h)
map_some f (Some x) y h = (x, refl, some_same (f x) y h)

pub then_some : {X Y : Type 0} (f : X → Option Y) (o : Option X) (y : Y) → option_and_then f o ≡ Some y → (x : X) × (o ≡ Some x) × (f x ≡ Some y)
then_some f None y h = absurd (none_some y h)
then_some f (Some x) y h = (x, refl, h)

pub same_text : (a b : Bytes) → same_bytes a b ≡ true → a ≡ b
same_text [] [] h = refl
same_text [] (y ∷ ys) h = absurd (false≢true h)
same_text (x ∷ xs) [] h = absurd (false≢true h)
same_text (x ∷ xs) (y ∷ ys) h = let is = both (nat_eq x y) (same_bytes xs ys) h in ap (λ c. c ∷ xs) (same_number x y is.0) ∙ ap (λ l. y ∷ l) (same_text xs ys is.1)

-- ## Parts

-- each text behind its sign
abbrev pub glued : ℕ → List Bytes → Bytes
glued sign [] = []
glued sign (text ∷ texts) = sign ∷ (text ++ glued sign texts)

glue_onto : (sign b : ℕ) (bs : Bytes) (texts : List Bytes) → glued sign texts ≡ sign ∷ bs → glued sign (onto_first b texts) ≡ sign ∷ (b ∷ bs)
unfolding onto_first
glue_onto sign b bs [] h = absurd (false≢true (ap (list_any (λ _. true)) h))
glue_onto sign b bs (text ∷ more) h = ap (λ l. sign ∷ (b ∷ drop 1 l)) h

end_is : (at : Scan) (sign b : ℕ) → is_part_end at sign b ≡ true → b ≡ sign
unfolding is_part_end
end_is at sign b h = same_number b sign (both (is_outside at) (b == sign) h).1

pub glue_parts : (text : Bytes) (restart at : Scan) (sign : ℕ) → glued sign (parts restart sign at text) ≡ sign ∷ text
unfolding parts
glue_parts [] restart at sign = refl
glue_parts (b ∷ bs) restart at sign = elim (is_part_end at sign b) as (λ (t : Bool). is_part_end at sign b ≡ t → glued sign (cond t ([] ∷ parts restart sign restart bs) (onto_first b (parts restart sign (past at b) bs))) ≡ sign ∷ (b ∷ bs)) [
  | true ↦ λ e. ap (λ l. sign ∷ l) (glue_parts bs restart restart sign) ∙ ap (λ c. sign ∷ (c ∷ bs)) (sym (end_is at sign b e))
  | false ↦ λ e. glue_onto sign b bs (parts restart sign (past at b) bs) (glue_parts bs restart (past at b) sign)
] refl

-- the first part and those behind it make the text
pub parts_text : (text first : Bytes) (more : List Bytes) (restart at : Scan) (sign : ℕ) → parts restart sign at text ≡ first ∷ more → text ≡ first ++ glued sign more
parts_text text first more restart at sign h = ap (drop 1) (sym (glue_parts text restart at sign)) ∙ ap (λ l. drop 1 (glued sign l)) h

-- there is a first part
pub some_part : (text : Bytes) (restart at : Scan) (sign : ℕ) → (first : Bytes) × (more : List Bytes) × (parts restart sign at text ≡ first ∷ more)
some_part text restart at sign =
    elim (parts restart sign at text) as (λ (l : List Bytes). parts restart sign at text ≡ l → (first : Bytes) × (more : List Bytes) × (parts restart sign at text ≡ first ∷ more)) [
      | [] ↦ λ e. absurd (false≢true (ap (list_any (λ _. true)) (sym (ap (glued sign) e) ∙ glue_parts text restart at sign)))
      | first ∷ more ↦ λ e. (first, more, e)
    ] refl

-- ## Parts have no separator that parts

-- no byte of the text parts it, where the scan begins here
unfoldable pub unparted : ℕ → Scan → Bytes → Bool
unparted sign at [] = true
unparted sign at (b ∷ bs) = not (is_part_end at sign b) && unparted sign (past at b) bs

-- so it is for the first part, and for each other
abbrev are_unparted : ℕ → Scan → Scan → List Bytes → Bool
are_unparted sign restart at [] = true
are_unparted sign restart at (first ∷ more) = unparted sign at first && list_all (unparted sign restart) more

same_start : (sign : ℕ) (restart : Scan) (texts : List Bytes) → are_unparted sign restart restart texts ≡ list_all (unparted sign restart) texts
same_start sign restart [] = refl
same_start sign restart (text ∷ texts) = refl

unparted_onto : (sign b : ℕ) (restart at : Scan) (texts : List Bytes) → is_part_end at sign b ≡ false → are_unparted sign restart (past at b) texts ≡ true → are_unparted sign restart at (onto_first b texts) ≡ true
unfolding onto_first unparted
unparted_onto sign b restart at [] e h = rw e refl
unparted_onto sign b restart at (text ∷ texts) e h = rw e h

unparted_none : (sign : ℕ) (at : Scan) → unparted sign at [] ≡ true
unfolding unparted
unparted_none sign at = refl

unparted_parts : (text : Bytes) (restart at : Scan) (sign : ℕ) → are_unparted sign restart at (parts restart sign at text) ≡ true
unfolding parts
unparted_parts [] restart at sign = ap (λ b. b && true) (unparted_none sign at)
unparted_parts (b ∷ bs) restart at sign = elim (is_part_end at sign b) as (λ (t : Bool). is_part_end at sign b ≡ t → are_unparted sign restart at (cond t ([] ∷ parts restart sign restart bs) (onto_first b (parts restart sign (past at b) bs))) ≡ true) [
  | true ↦ λ e. ap (λ u. u && list_all (unparted sign restart) (parts restart sign restart bs)) (unparted_none sign at) ∙ sym (same_start sign restart (parts restart sign restart bs)) ∙ unparted_parts bs restart restart sign
  | false ↦ λ e. unparted_onto sign b restart at (parts restart sign (past at b) bs) e (unparted_parts bs restart (past at b) sign)
] refl

all_unparted : (text : Bytes) (start : Scan) (sign : ℕ) → list_all (unparted sign start) (parts start sign start text) ≡ true
all_unparted text start sign = sym (same_start sign start (parts start sign start text)) ∙ unparted_parts text start start sign

pub first_unparted : (text first : Bytes) (more : List Bytes) (restart at : Scan) (sign : ℕ) → parts restart sign at text ≡ first ∷ more → (unparted sign at first ≡ true) × (list_all (unparted sign restart) more ≡ true)
first_unparted text first more restart at sign h =
    both (unparted sign at first) (list_all (unparted sign restart) more) (sym (ap (are_unparted sign restart at) h) ∙ unparted_parts text restart at sign)

-- what doesn't part a text doesn't part what stands at its front
pub unparted_front : (front back : Bytes) (sign : ℕ) (at : Scan) → unparted sign at (front ++ back) ≡ true → unparted sign at front ≡ true
unfolding unparted
unparted_front [] back sign at h = refl
unparted_front (b ∷ bs) back sign at h =
    let is = both (not (is_part_end at sign b)) (unparted sign (past at b) (bs ++ back)) h in
    and_true (not (is_part_end at sign b)) (unparted sign (past at b) bs) is.0 (unparted_front bs back sign (past at b) is.1)

-- ## Parts that are read

first_some : {X : Type 0} (o : Option X) (more : Option (List X)) (xs : List X) → with_first o more ≡ Some xs → (x : X) × (others : List X) × (o ≡ Some x) × (more ≡ Some others) × (x ∷ others ≡ xs)
unfolding with_first
first_some None more xs h = absurd (none_some xs h)
first_some (Some x) more xs h = let is = map_some (λ others. x ∷ others) more xs h in (x, is.0, refl, is.1, is.2)

module _ {X : Type 0} (read : Bytes → Option X) (Spells : Bytes → X → Type 0) (sign : ℕ) (start : Scan) (spelled : (text : Bytes) (x : X) → unparted sign start text ≡ true → read text ≡ Some x → Spells text x) where
  -- what is read of parts, each behind its sign
  pub led_is_spelled : (texts : List Bytes) (xs : List X) → list_all (unparted sign start) texts ≡ true → all_read read texts ≡ Some xs → AreLed sign Spells (glued sign texts) xs
  unfolding all_read AreLed
  led_is_spelled [] xs q h = subst (λ (ys : List X). AreLed sign Spells [] ys) (some_same [] xs h) refl
  led_is_spelled (text ∷ texts) xs q h =
      let is = first_some (read text) (all_read read texts) xs h in
      let whole = both (unparted sign start text) (list_all (unparted sign start) texts) q in
      subst (λ (ys : List X). AreLed sign Spells (sign ∷ (text ++ glued sign texts)) ys) is.4 (text, glued sign texts, spelled text is.0 whole.0 is.2, led_is_spelled texts is.1 whole.1 is.3, refl)

  by_parts : (text : Bytes) (texts : List Bytes) (xs : List X) → list_all (unparted sign start) texts ≡ true → glued sign texts ≡ sign ∷ text → all_read read texts ≡ Some xs → AreListed sign Spells text xs
  unfolding all_read AreListed
  by_parts text [] xs q g h = absurd (false≢true (ap (list_any (λ _. true)) g))
  by_parts text (first ∷ more) xs q g h =
      let is = first_some (read first) (all_read read more) xs h in
      let whole = both (unparted sign start first) (list_all (unparted sign start) more) q in
      subst (λ (ys : List X). AreListed sign Spells text ys) is.4 (first, glued sign more, spelled first is.0 whole.0 is.2, led_is_spelled more is.1 whole.1 is.3, ap (drop 1) (sym g))

  -- what is read of a text's parts
  pub listed_is_spelled : (text : Bytes) (xs : List X) → all_read read (parts start sign start text) ≡ Some xs → AreListed sign Spells text xs
  listed_is_spelled text xs h = by_parts text (parts start sign start text) xs (all_unparted text start sign) (glue_parts text start start sign) h
