-- Laws of texts by the class of their bytes: cuts and trims of texts that are put together.
use Rattle.std.proofs.Common.{not, ◌≡◌, ℕ, suc, Bool, true, false, Some, None, [], ◌∷◌, ◌++◌, ◌&&◌, ◌||◌, ◌==◌, length, reverse, refl, sym, ap, ◌∙◌, append_assoc, arith}
use Rattle.std.specs.List.{list_all}
use Rattle.std.proofs.lemmas.Bool.{false≢true}
use Rattle.std.proofs.lemmas.Bool.Decides.{nat_tests}
use Rattle.std.proofs.lemmas.List.{reverse-reverse, reverse-append}
use Rattle.std.proofs.lemmas.List.Folds.{list_any-append}
use Rattle.sc_tokens.specs.Tokens.{is_blank}
use Rattle.sc_tokens.specs.Bytes.{Bytes}
use Rattle.sc_tokens.specs.Cuts.{has, before, after}
use Rattle.sc_tokens.specs.Blanks.{trimmed_front, trimmed_back, without_blanks as trimmed}
use Rattle.sc_syntax.proofs.CutLaws.{before_here, before_on, after_here, after_on}
use Rattle.sc_syntax.proofs.BlankLaws.{both, front_here, back_is}

pub same_number : (x y : ℕ) → (x == y) ≡ true → x ≡ y
same_number x y h = grind (arith, nat_tests, h)

pub itself : (n : ℕ) → (n == n) ≡ true
itself n = grind (arith, nat_tests)

pub positive : (n : ℕ) → (suc n == 0) ≡ false
positive n = grind (arith, nat_tests)

pub neither : (a b : Bool) → (a || b) ≡ false → (a ≡ false) × (b ≡ false)
neither true b h = absurd (false≢true (sym h))
neither false b h = (refl, h)

pub both_false : (a b : Bool) → a ≡ false → b ≡ false → (a || b) ≡ false
both_false true b g h = g
both_false false b g h = h

pub not_true : (t : Bool) → not t ≡ true → t ≡ false
not_true true h = absurd (false≢true h)
not_true false h = refl

-- ## Classes

-- a byte of the class isn't one outside it
pub differs : (p : ℕ → Bool) (b sign : ℕ) → p sign ≡ false → p b ≡ true → (b == sign) ≡ false
differs p b sign h g = elim (b == sign) as (λ (t : Bool). (b == sign) ≡ t → t ≡ false) [
  | true ↦ λ e. sym (sym h ∙ ap p (sym (same_number b sign e)) ∙ g)
  | false ↦ λ e. refl
] refl

pub all_weaker : (p q : ℕ → Bool) → ((b : ℕ) → p b ≡ true → q b ≡ true) → (text : Bytes) → list_all p text ≡ true → list_all q text ≡ true
all_weaker p q weaker [] h = refl
all_weaker p q weaker (b ∷ bs) h = let is = both (p b) (list_all p bs) h in ap (λ t. t && list_all q bs) (weaker b is.0) ∙ all_weaker p q weaker bs is.1

pub class_lacks : (p : ℕ → Bool) (sign : ℕ) (text : Bytes) → p sign ≡ false → list_all p text ≡ true → has sign text ≡ false
unfolding has
class_lacks p sign [] h g = refl
class_lacks p sign (b ∷ bs) h g = let is = both (p b) (list_all p bs) g in both_false (b == sign) (has sign bs) (differs p b sign h is.0) (class_lacks p sign bs h is.1)

-- ## Cuts

before_none : (sign : ℕ) → before sign [] ≡ []
unfolding before
before_none sign = refl

after_nothing : (sign : ℕ) → after sign [] ≡ None
unfolding after
after_nothing sign = refl

pub has_more : (sign b : ℕ) (bs : Bytes) → has sign (b ∷ bs) ≡ ((b == sign) || has sign bs)
unfolding has
has_more sign b bs = refl

pub lacks_more : (sign b : ℕ) (bs : Bytes) → has sign (b ∷ bs) ≡ false → ((b == sign) ≡ false) × (has sign bs ≡ false)
lacks_more sign b bs h = neither (b == sign) (has sign bs) (sym (has_more sign b bs) ∙ h)

pub has_append : (sign : ℕ) (a b : Bytes) → has sign (a ++ b) ≡ (has sign a || has sign b)
unfolding has
has_append sign a b = list_any-append (λ c. c == sign) a b

pub before_joined : (sign : ℕ) (text rest : Bytes) → has sign text ≡ false → before sign (text ++ sign ∷ rest) ≡ text
before_joined sign [] rest h = before_here sign sign rest (itself sign)
before_joined sign (b ∷ bs) rest h = let is = lacks_more sign b bs h in before_on sign b (bs ++ sign ∷ rest) is.0 ∙ ap (λ l. b ∷ l) (before_joined sign bs rest is.1)

pub after_joined : (sign : ℕ) (text rest : Bytes) → has sign text ≡ false → after sign (text ++ sign ∷ rest) ≡ Some rest
after_joined sign [] rest h = after_here sign sign rest (itself sign)
after_joined sign (b ∷ bs) rest h = let is = lacks_more sign b bs h in after_on sign b (bs ++ sign ∷ rest) is.0 ∙ after_joined sign bs rest is.1

pub before_all : (sign : ℕ) (text : Bytes) → has sign text ≡ false → before sign text ≡ text
before_all sign [] h = before_none sign
before_all sign (b ∷ bs) h = let is = lacks_more sign b bs h in before_on sign b bs is.0 ∙ ap (λ l. b ∷ l) (before_all sign bs is.1)

pub after_none : (sign : ℕ) (text : Bytes) → has sign text ≡ false → after sign text ≡ None
after_none sign [] h = after_nothing sign
after_none sign (b ∷ bs) h = let is = lacks_more sign b bs h in after_on sign b bs is.0 ∙ after_none sign bs is.1

-- ## Ends without blank

-- the first byte, and the last, is no blank
abbrev pub BeginsSolid : Bytes → Type 0
BeginsSolid text = (b : ℕ) × (bs : Bytes) × (is_blank b ≡ false) × (text ≡ b ∷ bs)

abbrev pub EndsSolid : Bytes → Type 0
EndsSolid text = (front : Bytes) × (b : ℕ) × (is_blank b ≡ false) × (text ≡ front ++ b ∷ [])

pub solid_front : (text : Bytes) → BeginsSolid text → trimmed_front text ≡ text
solid_front text (b, bs, solid, is) = ap trimmed_front is ∙ front_here b bs solid ∙ sym is

pub solid_back : (text : Bytes) → EndsSolid text → trimmed_back text ≡ text
solid_back text (front, b, solid, is) =
    let turned = ap reverse is ∙ reverse-append front (b ∷ []) in
    back_is text ∙ ap reverse (solid_front (reverse text) (b, reverse front, solid, turned)) ∙ reverse-reverse text

pub solid_is_trimmed : (text : Bytes) → BeginsSolid text → EndsSolid text → trimmed text ≡ text
unfolding trimmed
solid_is_trimmed text begin end = ap trimmed_back (solid_front text begin) ∙ solid_back text end

pub begins_joined : (text rest : Bytes) → BeginsSolid text → BeginsSolid (text ++ rest)
begins_joined text rest (b, bs, solid, is) = (b, bs ++ rest, solid, ap (λ l. l ++ rest) is)

pub ends_joined : (front text : Bytes) → EndsSolid text → EndsSolid (front ++ text)
ends_joined front text (before_last, b, solid, is) = (front ++ before_last, b, solid, ap (λ l. front ++ l) is ∙ sym (append_assoc front before_last (b ∷ [])))

pub class_begins : (p : ℕ → Bool) → ((b : ℕ) → p b ≡ true → is_blank b ≡ false) → (text : Bytes) → (length text == 0) ≡ false → list_all p text ≡ true → BeginsSolid text
class_begins p solid [] some h = absurd (false≢true (sym some))
class_begins p solid (b ∷ bs) some h = (b, bs, solid b (both (p b) (list_all p bs) h).0, refl)

pub class_ends : (p : ℕ → Bool) → ((b : ℕ) → p b ≡ true → is_blank b ≡ false) → (text : Bytes) → (length text == 0) ≡ false → list_all p text ≡ true → EndsSolid text
class_ends p solid [] some h = absurd (false≢true (sym some))
class_ends p solid (b ∷ []) some h = ([], b, solid b (both (p b) true h).0, refl)
class_ends p solid (b ∷ (c ∷ bs)) some h = ends_joined (b ∷ []) (c ∷ bs) (class_ends p solid (c ∷ bs) (positive (length bs)) (both (p b) (list_all p (c ∷ bs)) h).1)
