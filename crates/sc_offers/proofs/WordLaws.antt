-- The words of a text, from the front on.
use Rattle.std.proofs.Common.{◌≡◌, ℕ, zero, suc, ◌+◌, ◌≤◌, ◌==◌, ◌||◌, Bool, true, false, not, cond, List, [], ◌∷◌, length, take, drop, map, refl, sym, ap, ◌∙◌, arith}
use Rattle.std.specs.Prelude.{filter}
use Rattle.std.specs.List.{position_or_len, prefix_len}
use Rattle.std.proofs.lemmas.Bool.{false≢true}
use Rattle.std.proofs.lemmas.Bool.Decides.{nat_tests}
use Rattle.sc_tokens.specs.Tokens.{is_blank}
use Rattle.sc_tokens.specs.Blanks.{trimmed_front}
use Rattle.sc_tokens.specs.Bytes.{Bytes}
use Rattle.sc_tokens.specs.Cuts.{onto_first, pieces}
use Rattle.sc_hosts.specs.HelperParts.{words_of}

-- a tab as a space
abbrev spaced : ℕ → ℕ
spaced b = cond (b == 9) 32 b

abbrev is_word : Bytes → Bool
is_word word = not (length word == 0)

tab_test : (b : ℕ) (t s : Bool) → (b == 9) ≡ t → (b == 32) ≡ s → (s || t) ≡ true → (cond t 32 b == 32) ≡ true
tab_test b true s tab space e = refl
tab_test b false true tab space e = space
tab_test b false false tab space e = absurd (false≢true e)

blank_test : (b : ℕ) → is_blank b ≡ true → (spaced b == 32) ≡ true
unfolding is_blank
blank_test b e = tab_test b (b == 9) (b == 32) refl refl e

other_by : (b : ℕ) (t s : Bool) → (b == 9) ≡ t → (b == 32) ≡ s → (s || t) ≡ false → (spaced b ≡ b) × ((b == 32) ≡ false)
other_by b true true tab space e = absurd (false≢true (sym e))
other_by b true false tab space e = absurd (false≢true (sym e))
other_by b false true tab space e = absurd (false≢true (sym e))
other_by b false false tab space e = (rw tab refl, space)

other_test : (b : ℕ) → is_blank b ≡ false → (spaced b ≡ b) × ((b == 32) ≡ false)
unfolding is_blank
other_test b e = other_by b (b == 9) (b == 32) refl refl e

-- a blank at the front ends an empty piece
blank_piece : (b : ℕ) (bs : Bytes) → is_blank b ≡ true → pieces 32 (map spaced (b ∷ bs)) ≡ [] ∷ pieces 32 (map spaced bs)
unfolding pieces
blank_piece b bs e = rw (blank_test b e) refl

other_piece : (b : ℕ) (bs : Bytes) → is_blank b ≡ false → pieces 32 (map spaced (b ∷ bs)) ≡ onto_first b (pieces 32 (map spaced bs))
unfolding pieces
other_piece b bs e = let is = other_test b e in rw (is.0, is.1) refl

words_skip : (b : ℕ) (bs : Bytes) → is_blank b ≡ true → words_of (b ∷ bs) ≡ words_of bs
unfolding words_of
words_skip b bs e = ap (filter is_word) (blank_piece b bs e)

skip_by : (b : ℕ) (bs : Bytes) (t : Bool) → is_blank b ≡ t → words_of bs ≡ words_of (drop (prefix_len is_blank bs) bs) → words_of (b ∷ bs) ≡ words_of (drop (cond t (1 + prefix_len is_blank bs) 0) (b ∷ bs))
skip_by b bs true e more =
    let one : ◌≡◌ {A = ℕ} (1 + prefix_len is_blank bs) (suc (prefix_len is_blank bs)) = omega arith in
    words_skip b bs e ∙ more ∙ rw one refl
skip_by b bs false e more = refl

skipped : (text : Bytes) → words_of text ≡ words_of (drop (prefix_len is_blank text) text)
skipped [] = refl
skipped (b ∷ bs) = skip_by b bs (is_blank b) refl (skipped bs)

-- the first piece, and the words of what stands behind it
Splits : Bytes → ℕ → Type 0
Splits text n = (more : List Bytes) × (pieces 32 (map spaced text) ≡ take n text ∷ more) × (words_of (drop n text) ≡ filter is_word more)

onto : (b : ℕ) (f : Bytes) (fs : List Bytes) → onto_first b (f ∷ fs) ≡ (b ∷ f) ∷ fs
unfolding onto_first
onto b f fs = refl

split_by : (b : ℕ) (bs : Bytes) (t : Bool) → is_blank b ≡ t → Splits bs (position_or_len is_blank bs) → Splits (b ∷ bs) (cond (not t) (1 + position_or_len is_blank bs) 0)
unfolding Splits words_of
split_by b bs true e (more, first, rest) = (pieces 32 (map spaced bs), blank_piece b bs e, ap (filter is_word) (blank_piece b bs e))
split_by b bs false e (more, first, rest) =
    let one : ◌≡◌ {A = ℕ} (1 + position_or_len is_blank bs) (suc (position_or_len is_blank bs)) = omega arith in
    rw one (more, other_piece b bs e ∙ ap (onto_first b) first ∙ onto b (take (position_or_len is_blank bs) bs) more, rest)

split : (text : Bytes) → Splits text (position_or_len is_blank text)
unfolding Splits words_of pieces
split [] = ([], refl, refl)
split (b ∷ bs) = split_by b bs (is_blank b) refl (split bs)

one_more : (n : ℕ) → not (suc n == 0) ≡ true
one_more n = grind (arith, nat_tests)

first_word : (n b : ℕ) (bs : Bytes) (more : List Bytes) → 1 ≤ n → filter is_word (take n (b ∷ bs) ∷ more) ≡ take n (b ∷ bs) ∷ filter is_word more
first_word zero b bs more some = absurd (omega (arith, some))
first_word (suc n) b bs more some = rw (one_more (length (take n bs))) refl

kept_by : (b : ℕ) (bs : Bytes) (t : Bool) → is_blank b ≡ t → t ≡ false → Splits (b ∷ bs) (cond (not t) (1 + position_or_len is_blank bs) 0)
    → words_of (b ∷ bs) ≡ take (cond (not t) (1 + position_or_len is_blank bs) 0) (b ∷ bs) ∷ words_of (drop (cond (not t) (1 + position_or_len is_blank bs) 0) (b ∷ bs))
unfolding Splits words_of
kept_by b bs true e other (more, first, rest) = absurd (false≢true (sym other))
kept_by b bs false e other (more, first, rest) = ap (filter is_word) first ∙ first_word (1 + position_or_len is_blank bs) b bs more (omega arith) ∙ ap (λ ws. take (1 + position_or_len is_blank bs) (b ∷ bs) ∷ ws) (sym rest)

no_blank : (t : Bool) (n : ℕ) → cond t (1 + n) 0 ≡ 0 → t ≡ false
no_blank true n e = absurd (omega (arith, e))
no_blank false n e = refl

-- no blank stands behind those at the front
past_by : (b : ℕ) (bs : Bytes) (t : Bool) → is_blank b ≡ t → prefix_len is_blank (drop (prefix_len is_blank bs) bs) ≡ 0 → prefix_len is_blank (drop (cond t (1 + prefix_len is_blank bs) 0) (b ∷ bs)) ≡ 0
past_by b bs true e more =
    let one : ◌≡◌ {A = ℕ} (1 + prefix_len is_blank bs) (suc (prefix_len is_blank bs)) = omega arith in rw one more
past_by b bs false e more = rw e refl

past : (text : Bytes) → prefix_len is_blank (drop (prefix_len is_blank text) text) ≡ 0
past [] = refl
past (b ∷ bs) = past_by b bs (is_blank b) refl (past bs)

-- a text that begins with no blank begins with a word
kept : (text : Bytes) → (length text ≡ 0 → ⊥) → prefix_len is_blank text ≡ 0 → words_of text ≡ take (position_or_len is_blank text) text ∷ words_of (drop (position_or_len is_blank text) text)
kept [] some none = absurd (some refl)
kept (b ∷ bs) some none = kept_by b bs (is_blank b) refl (no_blank (is_blank b) (prefix_len is_blank bs) none) (split (b ∷ bs))

nothing : (rest : Bytes) → length rest ≡ 0 → words_of rest ≡ []
unfolding words_of pieces
nothing [] none = refl
nothing (b ∷ bs) none = absurd (omega (arith, none))

pub no_word : (text rest : Bytes) → rest ≡ trimmed_front text → length rest ≡ 0 → words_of text ≡ []
unfolding trimmed_front
no_word text rest is none = skipped text ∙ ap words_of (sym is) ∙ nothing rest none

pub a_word : (text rest word behind : Bytes) → rest ≡ trimmed_front text → (length rest ≡ 0 → ⊥) → word ≡ take (position_or_len is_blank rest) rest → behind ≡ drop (position_or_len is_blank rest) rest
    → words_of text ≡ word ∷ words_of behind
unfolding trimmed_front
a_word text rest word behind is some word_is behind_is =
    skipped text ∙ ap words_of (sym is) ∙ kept rest some (ap (prefix_len is_blank) is ∙ past text) ∙ rw (word_is, behind_is) refl
