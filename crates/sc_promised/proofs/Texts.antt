-- What an offer's attribute says is read again.
use Rattle.std.proofs.Common.{◌≡◌, ◌<◌, ℕ, ◌+◌, ◌++◌, ◌^◌, ◌%◌, Bool, true, false, Some, [], ◌∷◌, refl, ap, ◌∙◌, arith, append_assoc}
use Rattle.std.specs.Prelude.{◌==◌, ◌||◌, codes, decimal}
use Rattle.std.specs.List.{list_any}
use Rattle.std.proofs.lemmas.Bool.Decides.{nat_tests}
use Rattle.std.proofs.lemmas.Fmt.{decimal_by_steps}
use Rattle.std.proofs.lemmas.List.Folds.{list_any-append}
use Rattle.sc_tokens.specs.Cuts.{pieces, onto_first, has}
use Rattle.sc_tokens.specs.Bytes.{Bytes}
use Rattle.sc_syntax.proofs.DecimalLaws.{decimal_is_read}
use Rattle.sc_hosts.specs.HelperParts.{strict_number}
use Rattle.sc_hosts.specs.Offers.{offer_text, ended_offer_text}
use Rattle.sc_promised.proofs.Attributes.{same-self}
use Rattle.sc_promised.specs.Reliable.{Pending, Acked, Failed, remembered_in, remembered_three, remembered_four, remembered_of}

lacks-first : (b rest : Bool) → (b || rest) ≡ false → b ≡ false
lacks-first true rest is = cc
lacks-first false rest is = refl

lacks-rest : (b rest : Bool) → (b || rest) ≡ false → rest ≡ false
lacks-rest true rest is = cc
lacks-rest false rest is = is

no-digit : (sign k : ℕ) → sign < 48 → (48 + k == sign) ≡ false
no-digit sign k h = grind (arith, nat_tests, h)

digit-lacks : (sign k : ℕ) → sign < 48 → has sign ((48 + k) ∷ []) ≡ false
unfolding has
digit-lacks sign k h = ap (λ t. t || false) (no-digit sign k h)

more-lacks : (sign n : ℕ) (ds : Bytes) → sign < 48 → has sign ds ≡ false → has sign (ds ++ (48 + n % 10) ∷ []) ≡ false
unfolding has
more-lacks sign n ds h lacks = list_any-append (λ b. b == sign) ds ((48 + n % 10) ∷ []) ∙ ap (λ t. t || has sign ((48 + n % 10) ∷ [])) lacks ∙ digit-lacks sign (n % 10) h

abbrev Lacks : ℕ → ℕ → Bytes → Type 0
Lacks sign n digits = has sign digits ≡ false

pub decimal-lacks : (n : ℕ) → n < 2 ^ 64 → has 32 (decimal n) ≡ false
decimal-lacks n fits = decimal_by_steps (Lacks 32) (λ k _. digit-lacks 32 k (omega arith)) (λ k ds _ lacks. more-lacks 32 k ds (omega arith) lacks) n fits

-- a word before a blank is a piece
pub word-piece : (word rest : Bytes) → has 32 word ≡ false → pieces 32 (word ++ 32 ∷ rest) ≡ word ∷ pieces 32 rest
unfolding pieces has onto_first
word-piece [] rest lacks = refl
word-piece (b ∷ bs) rest lacks = rw (lacks-first (b == 32) (list_any (λ b. b == 32) bs) lacks, word-piece bs rest (lacks-rest (b == 32) (list_any (λ b. b == 32) bs) lacks)) refl

pub last-piece : (word : Bytes) → has 32 word ≡ false → pieces 32 word ≡ word ∷ []
unfolding pieces has onto_first
last-piece [] lacks = refl
last-piece (b ∷ bs) lacks = rw (lacks-first (b == 32) (list_any (λ b. b == 32) bs) lacks, last-piece bs (lacks-rest (b == 32) (list_any (λ b. b == 32) bs) lacks)) refl

pub strict-decimal : (n : ℕ) → n < 2 ^ 64 → strict_number (decimal n) ≡ Some n
unfolding strict_number
strict-decimal n within = rw (decimal_is_read n (2 ^ 64) (omega arith) within, same-self (decimal n)) refl

p-lacks : has 32 (codes "P") ≡ false
unfolding has
p-lacks = refl

nested : (a s b c : Bytes) → a ++ s ++ b ++ s ++ c ≡ a ++ (s ++ (b ++ (s ++ c)))
nested a s b c = append_assoc (a ++ s ++ b) s c ∙ append_assoc (a ++ s) b (s ++ c) ∙ append_assoc a s (b ++ (s ++ c))

three-pieces : (a b c : Bytes) → has 32 a ≡ false → has 32 b ≡ false → has 32 c ≡ false
    → pieces 32 (a ++ (codes " " ++ (b ++ (codes " " ++ c)))) ≡ a ∷ b ∷ c ∷ []
three-pieces a b c la lb lc = word-piece a (b ++ (codes " " ++ c)) la ∙ ap (λ ps. a ∷ ps) (word-piece b c lb ∙ ap (λ ps. b ∷ ps) (last-piece c lc))

offer-pieces : (r c t : ℕ) → has 32 (decimal r) ≡ false → has 32 (decimal c) ≡ false → has 32 (decimal t) ≡ false
    → pieces 32 (offer_text r c t) ≡ codes "P" ∷ decimal r ∷ decimal c ∷ decimal t ∷ []
unfolding offer_text
offer-pieces r c t lr lc lt =
    word-piece (codes "P") (decimal r ++ codes " " ++ decimal c ++ codes " " ++ decimal t) p-lacks
    ∙ ap (λ ps. codes "P" ∷ ps) (ap (pieces 32) (nested (decimal r) (codes " ") (decimal c) (decimal t)) ∙ three-pieces (decimal r) (decimal c) (decimal t) lr lc lt)

-- the offer that waits
pub offer-read : (r c t : ℕ) → has 32 (decimal r) ≡ false → has 32 (decimal c) ≡ false → has 32 (decimal t) ≡ false
    → r < 2 ^ 64 → c < 2 ^ 64 → t < 2 ^ 64 → remembered_of (Some (offer_text r c t)) ≡ Pending r c t
unfolding remembered_of remembered_in remembered_four
offer-read r c t lr lc lt r_in c_in t_in =
    ap remembered_in (offer-pieces r c t lr lc lt) ∙ rw (strict-decimal r r_in, strict-decimal c c_in, strict-decimal t t_in) refl

-- an offer that has ended
ended-pieces : (letter r c : ℕ) → has 32 (letter ∷ []) ≡ false → r < 2 ^ 64 → c < 2 ^ 64 → (timer : ℕ)
    → pieces 32 (ended_offer_text letter (record { letter = 80; rseq = r; cseq = c; timer = timer })) ≡ (letter ∷ []) ∷ decimal r ∷ decimal c ∷ []
unfolding ended_offer_text
ended-pieces letter r c plain r_in c_in timer =
    word-piece (letter ∷ []) (decimal r ++ codes " " ++ decimal c) plain
    ∙ ap (λ ps. (letter ∷ []) ∷ ps) (ap (pieces 32) (append_assoc (decimal r) (codes " ") (decimal c)) ∙ word-piece (decimal r) (decimal c) (decimal-lacks r r_in)
    ∙ ap (λ ps. decimal r ∷ ps) (last-piece (decimal c) (decimal-lacks c c_in)))

a-lacks : has 32 (65 ∷ []) ≡ false
unfolding has
a-lacks = refl

f-lacks : has 32 (70 ∷ []) ≡ false
unfolding has
f-lacks = refl

pub acked-read : (r c timer : ℕ) → r < 2 ^ 64 → c < 2 ^ 64
    → remembered_of (Some (ended_offer_text 65 (record { letter = 80; rseq = r; cseq = c; timer = timer }))) ≡ Acked r c
unfolding remembered_of remembered_in remembered_three
acked-read r c timer r_in c_in = ap remembered_in (ended-pieces 65 r c a-lacks r_in c_in timer) ∙ rw (strict-decimal r r_in, strict-decimal c c_in) refl

pub failed-read : (r c timer : ℕ) → r < 2 ^ 64 → c < 2 ^ 64
    → remembered_of (Some (ended_offer_text 70 (record { letter = 80; rseq = r; cseq = c; timer = timer }))) ≡ Failed r c
unfolding remembered_of remembered_in remembered_three
failed-read r c timer r_in c_in = ap remembered_in (ended-pieces 70 r c f-lacks r_in c_in timer) ∙ rw (strict-decimal r r_in, strict-decimal c c_in) refl
