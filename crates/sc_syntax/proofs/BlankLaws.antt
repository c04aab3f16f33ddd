-- Laws of blanks: a text is its trimmed text between blanks, and blanks at its ends don't count.
use Rattle.std.proofs.Common.{◌≡◌, ℕ, suc, Bool, true, false, cond, [], ◌∷◌, ◌++◌, ◌+◌, ◌-◌, ◌&&◌, length, take, drop, reverse, refl, sym, ap, subst, ◌∙◌, append_assoc, append-nil, length-drop, arith}
use Rattle.std.specs.List.{prefix_len, suffix_len, list_all}
use Rattle.std.proofs.lemmas.Bool.{false≢true}
use Rattle.std.proofs.Math.Bool.{and_comm}
use Rattle.std.proofs.Math.Seq.{take-append_seam}
use Rattle.std.proofs.lemmas.List.{take-append-drop, reverse-reverse, reverse-append, length-reverse}
use Rattle.std.proofs.lemmas.List.Folds.{list_all-append}
use Rattle.sc_tokens.specs.Tokens.{is_blank}
use Rattle.sc_tokens.specs.Bytes.{Bytes}
use Rattle.sc_tokens.specs.Blanks.{trimmed_front, trimmed_back, without_blanks as trimmed}
use Rattle.sc_syntax.specs.SpelledParts.{IsBlanks, Padded}

pub both : (a b : Bool) → (a && b) ≡ true → (a ≡ true) × (b ≡ true)
both true b h = (refl, h)
both false b h = absurd (false≢true h)

pub and_true : (a b : Bool) → a ≡ true → b ≡ true → (a && b) ≡ true
and_true true b g h = h
and_true false b g h = absurd (false≢true g)

one_more : (n : ℕ) → 1 + n ≡ suc n
one_more n = omega arith

reverse_more : (b : ℕ) (bs : Bytes) → reverse (b ∷ bs) ≡ reverse bs ++ b ∷ []
reverse_more b bs = reverse-append (b ∷ []) bs

-- ## Runs of blanks

pub blanks_append : (a b : Bytes) → IsBlanks a → IsBlanks b → IsBlanks (a ++ b)
blanks_append a b g h = list_all-append is_blank a b ∙ and_true (list_all is_blank a) (list_all is_blank b) g h

front_blanks : (text : Bytes) → IsBlanks (take (prefix_len is_blank text) text)
front_blanks [] = refl
front_blanks (b ∷ bs) = elim (is_blank b) as (λ (t : Bool). is_blank b ≡ t → IsBlanks (take (cond t (1 + prefix_len is_blank bs) 0) (b ∷ bs))) [
  | true ↦ λ e. subst (λ (n : ℕ). IsBlanks (take n (b ∷ bs))) (sym (one_more (prefix_len is_blank bs))) (and_true (is_blank b) (list_all is_blank (take (prefix_len is_blank bs) bs)) e (front_blanks bs))
  | false ↦ λ e. refl
] refl

reverse_all : (p : ℕ → Bool) (text : Bytes) → list_all p (reverse text) ≡ list_all p text
reverse_all p [] = refl
reverse_all p (b ∷ bs) =
    ap (list_all p) (reverse_more b bs) ∙ list_all-append p (reverse bs) (b ∷ []) ∙ ap (λ a. a && (p b && true)) (reverse_all p bs) ∙ and_comm (list_all p bs) (p b && true)
    ∙ ap (λ q. q && list_all p bs) (and_comm (p b) true)

pub blanks_reverse : (text : Bytes) → IsBlanks text → IsBlanks (reverse text)
blanks_reverse text h = reverse_all is_blank text ∙ h

-- ## Blanks at the front

pub front_more : (b : ℕ) (bs : Bytes) → is_blank b ≡ true → trimmed_front (b ∷ bs) ≡ trimmed_front bs
unfolding trimmed_front
front_more b bs h = rw (h, one_more (prefix_len is_blank bs)) refl

pub front_here : (b : ℕ) (bs : Bytes) → is_blank b ≡ false → trimmed_front (b ∷ bs) ≡ b ∷ bs
unfolding trimmed_front
front_here b bs h = rw h refl

pub front_none : trimmed_front [] ≡ []
unfolding trimmed_front
front_none = refl

-- blanks before a text don't count
pub front_padded : (front text : Bytes) → IsBlanks front → trimmed_front (front ++ text) ≡ trimmed_front text
front_padded [] text h = refl
front_padded (b ∷ bs) text h = let is = both (is_blank b) (list_all is_blank bs) h in front_more b (bs ++ text) is.0 ∙ front_padded bs text is.1

pub front_all : (text : Bytes) → IsBlanks text → trimmed_front text ≡ []
front_all text h = ap trimmed_front (sym (append-nil text)) ∙ front_padded text [] h ∙ front_none

-- ## Blanks at the back

-- the text, parted where its blanks at the back begin
abbrev last_of : Bytes → ℕ
last_of text = suffix_len is_blank text

parted : (text : Bytes) → text ≡ reverse (drop (last_of text) (reverse text)) ++ reverse (take (last_of text) (reverse text))
parted text =
    sym (reverse-reverse text) ∙ ap reverse (sym (take-append-drop (last_of text) (reverse text)))
    ∙ reverse-append (take (last_of text) (reverse text)) (drop (last_of text) (reverse text))

parted_len : (text : Bytes) → length text - last_of text ≡ length (reverse (drop (last_of text) (reverse text)))
parted_len text = omega (arith, length-reverse (drop (last_of text) (reverse text)), length-drop (last_of text) (reverse text), length-reverse text)

-- the back is the front of the reversed text
pub back_is : (text : Bytes) → trimmed_back text ≡ reverse (trimmed_front (reverse text))
unfolding trimmed_back trimmed_front
back_is text =
    let front = reverse (drop (last_of text) (reverse text)) in
    ap (λ n. take n text) (parted_len text) ∙ ap (take (length front)) (parted text) ∙ take-append_seam front (reverse (take (last_of text) (reverse text)))

back_parts : (text : Bytes) → text ≡ trimmed_back text ++ reverse (take (last_of text) (reverse text))
unfolding trimmed_front
back_parts text = parted text ∙ ap (λ l. l ++ reverse (take (last_of text) (reverse text))) (sym (back_is text))

-- blanks behind a text don't count
pub back_padded : (text back : Bytes) → IsBlanks back → trimmed_back (text ++ back) ≡ trimmed_back text
back_padded text back h =
    back_is (text ++ back) ∙ ap (λ l. reverse (trimmed_front l)) (reverse-append text back) ∙ ap reverse (front_padded (reverse back) (reverse text) (blanks_reverse back h)) ∙ sym (back_is text)

-- ## Blanks at both ends

-- a text is its trimmed text between blanks
pub trimmed_is_padded : (text : Bytes) → Padded (trimmed text) text
unfolding trimmed trimmed_front
trimmed_is_padded text =
    let front = take (prefix_len is_blank text) text in
    let rest = drop (prefix_len is_blank text) text in
    let back = reverse (take (last_of rest) (reverse rest)) in
    (front, back, front_blanks text, reverse_all is_blank (take (last_of rest) (reverse rest)) ∙ front_blanks (reverse rest), sym (take-append-drop (prefix_len is_blank text) text) ∙ ap (λ l. front ++ l) (back_parts rest))

-- without its blanks at the front, a text is its trimmed text before blanks
pub trimmed_behind : (text : Bytes) → (back : Bytes) × IsBlanks back × (trimmed_front text ≡ trimmed text ++ back)
unfolding trimmed
trimmed_behind text =
    let rest = trimmed_front text in
    (reverse (take (last_of rest) (reverse rest)), reverse_all is_blank (take (last_of rest) (reverse rest)) ∙ front_blanks (reverse rest), back_parts rest)

-- blanks round a padded text make it padded again
pub padded_twice : (inner text outer : Bytes) → Padded inner text → Padded text outer → Padded inner outer
padded_twice inner text outer (f, b, fb, bb, is) (g, c, gb, cb, whole) =
    let regroup = ap (λ l. l ++ c) is ∙ append_assoc f (inner ++ b) c ∙ ap (λ l. f ++ l) (append_assoc inner b c) in
    (g ++ f, b ++ c, blanks_append g f gb fb, blanks_append b c bb cb, whole ∙ ap (λ l. g ++ l) regroup ∙ sym (append_assoc g f (inner ++ (b ++ c))))

back_none : trimmed_back [] ≡ []
unfolding trimmed_back
back_none = refl

within : (text back : Bytes) → IsBlanks back → trimmed_back (trimmed_front (text ++ back)) ≡ trimmed_back (trimmed_front text)
within [] back h = ap trimmed_back (front_all back h ∙ sym front_none)
within (b ∷ bs) back h = elim (is_blank b) as (λ (t : Bool). is_blank b ≡ t → trimmed_back (trimmed_front (b ∷ (bs ++ back))) ≡ trimmed_back (trimmed_front (b ∷ bs))) [
  | true ↦ λ e. ap trimmed_back (front_more b (bs ++ back) e) ∙ within bs back h ∙ ap trimmed_back (sym (front_more b bs e))
  | false ↦ λ e. ap trimmed_back (front_here b (bs ++ back) e) ∙ back_padded (b ∷ bs) back h ∙ ap trimmed_back (sym (front_here b bs e))
] refl

-- blanks at the ends of a text don't count
pub trimmed_padded : (front text back : Bytes) → IsBlanks front → IsBlanks back → trimmed (front ++ (text ++ back)) ≡ trimmed text
unfolding trimmed
trimmed_padded front text back f b = ap trimmed_back (front_padded front (text ++ back) f) ∙ within text back b

pub padded_is_trimmed : (inner text : Bytes) → Padded inner text → trimmed inner ≡ inner → trimmed text ≡ inner
padded_is_trimmed inner text (front, back, f, b, is) h = ap trimmed is ∙ trimmed_padded front inner back f b ∙ h
