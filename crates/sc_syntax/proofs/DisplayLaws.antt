-- What is read is spelled: displays and the brackets of URIs.
use Rattle.std.proofs.Common.{◌≡◌, ℕ, suc, Bool, true, false, cond, Option, Some, None, [], ◌∷◌, ◌++◌, ◌+◌, ◌≤◌, ◌==◌, ◌⊎◌, inl, inr, length, take, drop, refl, sym, ap, subst, ◌∙◌, append_assoc, append-nil, arith}
use Rattle.std.specs.Prelude.{unwrap_or, min}
use Rattle.std.specs.List.{list_all}
use Rattle.std.specs.Option.{option_map, option_map_or, option_and_then}
use Rattle.std.proofs.lemmas.Bool.{false≢true}
use Rattle.std.proofs.lemmas.Bool.Decides.{nat_tests}
use Rattle.std.proofs.lemmas.List.{take-append-drop, length-take}
use Rattle.sc_tokens.specs.Bytes.{Bytes}
use Rattle.sc_tokens.specs.Cuts.{before, after}
use Rattle.sc_tokens.specs.Hosts.{begins, is_none_left}
use Rattle.sc_tokens.specs.Quoted.{closing, is_quote_at, quoted_end}
use Rattle.sc_tokens.specs.Blanks.{without_blanks as trimmed}
use Rattle.sc_tokens.specs.HeaderTokens.{is_string, is_display_byte, IsDisplay}
use Rattle.sc_syntax.specs.Addresses.{Named, uri_in_brackets as enclosed, in_brackets, quoted_named, unless_empty, token_named, named_in}
use Rattle.sc_syntax.specs.SpelledUris.{behind_sign as led}
use Rattle.sc_syntax.specs.SpelledParts.{IsBlanks, Padded}
use Rattle.sc_syntax.proofs.CutLaws.{some_same, none_some}
use Rattle.sc_syntax.proofs.PartLaws.{led_text}
use Rattle.sc_syntax.proofs.BlankLaws.{trimmed_is_padded, trimmed_padded}
use Rattle.sc_syntax.proofs.ListedLaws.{if_some, map_some, then_some}
use Rattle.sc_syntax.proofs.ClassLaws.{same_number}

-- ## Quoted strings

pub quote_first : (b : ℕ) (bs : Bytes) → (b == 34) ≡ true → closing (b ∷ bs) ≡ Some 1
unfolding closing
quote_first b [] h = rw h refl
quote_first b (c ∷ bs) h = rw h refl

pub backslash_first : (b : ℕ) (bs : Bytes) → (b == 34) ≡ false → (b == 92) ≡ true → closing (b ∷ bs) ≡ option_map (λ n. 2 + n) (closing (drop 1 bs))
unfolding closing
backslash_first b [] g h = rw g refl
backslash_first b (c ∷ bs) g h = rw (g, h) refl

pub other_first : (b : ℕ) (bs : Bytes) → (b == 34) ≡ false → (b == 92) ≡ false → closing (b ∷ bs) ≡ option_map (λ n. 1 + n) (closing bs)
unfolding closing
other_first b [] g h = rw g refl
other_first b (c ∷ bs) g h = rw (g, h) refl

pub nothing_closes : closing [] ≡ None
unfolding closing
nothing_closes = refl

-- the closing quote is looked for no further than it stands
abbrev Closes : Bytes → ℕ → Type 0
Closes text n = (closing (take n text) ≡ Some n) × (n ≤ length text)

take_one : (b n : ℕ) (bs : Bytes) → take (1 + n) (b ∷ bs) ≡ b ∷ take n bs
take_one b n bs = let one : ◌≡◌ {A = ℕ} (1 + n) (suc n) = omega arith in rw one refl

take_two : (b c n : ℕ) (bs : Bytes) → take (2 + n) (b ∷ (c ∷ bs)) ≡ b ∷ (c ∷ take n bs)
take_two b c n bs = let two : ◌≡◌ {A = ℕ} (2 + n) (suc (suc n)) = omega arith in rw two refl

pub closes : (text : Bytes) (n : ℕ) → closing text ≡ Some n → Closes text n
closes [] n h = absurd (none_some n (sym nothing_closes ∙ h))
closes (b ∷ []) n h = elim (b == 34) as (λ (t : Bool). (b == 34) ≡ t → Closes (b ∷ []) n) [
  | true ↦ λ e. subst (λ (k : ℕ). Closes (b ∷ []) k) (some_same 1 n (sym (quote_first b [] e) ∙ h)) (quote_first b [] e, omega arith)
  | false ↦ λ e. elim (b == 92) as (λ (t : Bool). (b == 92) ≡ t → Closes (b ∷ []) n) [
    | true ↦ λ f. absurd (none_some n (sym (backslash_first b [] e f ∙ ap (option_map (λ k. 2 + k)) nothing_closes) ∙ h))
    | false ↦ λ f. absurd (none_some n (sym (other_first b [] e f ∙ ap (option_map (λ k. 1 + k)) nothing_closes) ∙ h))
  ] refl
] refl
closes (b ∷ (c ∷ bs)) n h = elim (b == 34) as (λ (t : Bool). (b == 34) ≡ t → Closes (b ∷ (c ∷ bs)) n) [
  | true ↦ λ e. subst (λ (k : ℕ). Closes (b ∷ (c ∷ bs)) k) (some_same 1 n (sym (quote_first b (c ∷ bs) e) ∙ h)) (quote_first b [] e, omega arith)
  | false ↦ λ e. elim (b == 92) as (λ (t : Bool). (b == 92) ≡ t → Closes (b ∷ (c ∷ bs)) n) [
    | true ↦ λ f.
        let is = map_some (λ k. 2 + k) (closing bs) n (sym (backslash_first b (c ∷ bs) e f) ∙ h) in
        let rest = closes bs is.0 is.1 in
        let fits : 2 + is.0 ≤ length (b ∷ (c ∷ bs)) = omega (arith, rest.1) in
        subst (λ (k : ℕ). Closes (b ∷ (c ∷ bs)) k) is.2 (ap closing (take_two b c is.0 bs) ∙ backslash_first b (c ∷ take is.0 bs) e f ∙ ap (option_map (λ k. 2 + k)) rest.0, fits)
    | false ↦ λ f.
        let is = map_some (λ k. 1 + k) (closing (c ∷ bs)) n (sym (other_first b (c ∷ bs) e f) ∙ h) in
        let rest = closes (c ∷ bs) is.0 is.1 in
        let fits : 1 + is.0 ≤ length (b ∷ (c ∷ bs)) = omega (arith, rest.1) in
        subst (λ (k : ℕ). Closes (b ∷ (c ∷ bs)) k) is.2 (ap closing (take_one b is.0 (c ∷ bs)) ∙ other_first b (take is.0 (c ∷ bs)) e f ∙ ap (option_map (λ k. 1 + k)) rest.0, fits)
  ] refl
] refl

pub quoted_is : (b : ℕ) (bs : Bytes) → (b == 34) ≡ true → quoted_end 0 (b ∷ bs) ≡ option_map (λ n. 1 + n) (closing bs)
unfolding quoted_end is_quote_at
quoted_is b bs h = rw h refl

pub unquoted : (b : ℕ) (bs : Bytes) → (b == 34) ≡ false → quoted_end 0 (b ∷ bs) ≡ None
unfolding quoted_end is_quote_at
unquoted b bs h = rw h refl

pub no_quote : quoted_end 0 [] ≡ None
unfolding quoted_end is_quote_at
no_quote = refl

string_by : (text : Bytes) (n : ℕ) → quoted_end 0 text ≡ Some n → (n == length text) ≡ true → is_string text ≡ true
unfolding is_string
string_by text n h g = ap (λ o. option_map_or (λ end. end == length text) o false) h ∙ g

same_len : (m n k : ℕ) → k ≡ min m n → m ≤ n → (1 + m == suc k) ≡ true
same_len m n k h g = let is : ◌≡◌ {A = ℕ} (1 + m) (suc k) = omega (arith, h, g) in grind (arith, nat_tests, is)

-- the quoted string at the front of a text is one
pub string_taken : (text : Bytes) (n : ℕ) → quoted_end 0 text ≡ Some n → is_string (take n text) ≡ true
string_taken [] n h = absurd (none_some n (sym no_quote ∙ h))
string_taken (b ∷ bs) n h = elim (b == 34) as (λ (t : Bool). (b == 34) ≡ t → is_string (take n (b ∷ bs)) ≡ true) [
  | false ↦ λ e. absurd (none_some n (sym (unquoted b bs e) ∙ h))
  | true ↦ λ e.
      let is = map_some (λ k. 1 + k) (closing bs) n (sym (quoted_is b bs e) ∙ h) in
      let end = closes bs is.0 is.1 in
      let whole = quoted_is b (take is.0 bs) e ∙ ap (option_map (λ k. 1 + k)) end.0 in
      subst (λ (k : ℕ). is_string (take k (b ∷ bs)) ≡ true) is.2
      (ap is_string (take_one b is.0 bs) ∙ string_by (b ∷ take is.0 bs) (1 + is.0) whole (same_len is.0 (length bs) (length (take is.0 bs)) (length-take is.0 bs) end.1))
] refl

-- ## Brackets

pub none_left : (o : Option Bytes) → is_none_left o ≡ true → o ≡ Some []
unfolding is_none_left
none_left None h = absurd (false≢true h)
none_left (Some []) h = refl
none_left (Some (b ∷ bs)) h = absurd (false≢true (sym (positive (length bs)) ∙ h))
  where
    positive : (n : ℕ) → (suc n == 0) ≡ false
    positive n = grind (arith, nat_tests)

enclosed_text : (text uri : Bytes) → enclosed text ≡ Some uri → text ≡ uri ++ 62 ∷ []
unfolding enclosed led
enclosed_text text uri h =
    let is = if_some (is_none_left (after 62 text)) (Some (before 62 text)) uri h in
    sym (led_text 62 text) ∙ ap (λ o. before 62 text ++ led 62 o) (none_left (after 62 text) is.0) ∙ ap (λ u. u ++ 62 ∷ []) (some_same (before 62 text) uri is.1)

pub begins_text : (sign : ℕ) (text : Bytes) → begins sign text ≡ true → text ≡ sign ∷ drop 1 text
unfolding begins
begins_text sign [] h = absurd (false≢true h)
begins_text sign (b ∷ bs) h = ap (λ c. c ∷ bs) (same_number b sign h)

bracket_text : (text uri : Bytes) → in_brackets text ≡ Some uri → text ≡ 60 ∷ (uri ++ 62 ∷ [])
unfolding in_brackets
bracket_text text uri h =
    let is = if_some (begins 60 text) (enclosed (drop 1 text)) uri h in
    begins_text 60 text is.0 ∙ ap (λ l. 60 ∷ l) (enclosed_text (drop 1 text) uri is.1)

-- ## Displays

-- the text has this display, blanks or none, and this text in brackets
abbrev pub HasName : Bytes → Named → Type 0
HasName text named = (inner gap : Bytes) × Padded inner text × IsDisplay named.0 × IsBlanks gap × (inner ≡ unwrap_or named.0 [] ++ (gap ++ 60 ∷ (named.1 ++ 62 ∷ [])))

rejoin : (word gap inner back : Bytes) → word ++ (gap ++ (inner ++ back)) ≡ (word ++ (gap ++ inner)) ++ back
rejoin word gap inner back = ap (λ l. word ++ l) (sym (append_assoc gap inner back)) ∙ sym (append_assoc word (gap ++ inner) back)

quoted_is_named : (text : Bytes) (n : ℕ) (named : Named) → quoted_end 0 text ≡ Some n → quoted_named text n ≡ Some named → HasName text named
unfolding quoted_named IsDisplay
quoted_is_named text n named q h =
    let is = map_some _ (in_brackets (trimmed (drop n text))) named h in
    let pad = trimmed_is_padded (drop n text) in
    let closed = 60 ∷ (is.0 ++ 62 ∷ []) in
    let whole = sym (take-append-drop n text) ∙ ap (λ l. take n text ++ l) pad.4 ∙ ap (λ l. take n text ++ (pad.0 ++ (l ++ pad.1))) (bracket_text (trimmed (drop n text)) is.0 is.1) ∙ rejoin (take n text) pad.0 closed pad.1 in
    subst (λ (k : Named). HasName text k) is.2 (take n text ++ (pad.0 ++ closed), pad.0, ([], pad.1, refl, pad.3, whole), inl (string_taken text n q), pad.2, refl)

-- a text that is trimmed stays as it is
pub trimmed_again : (text : Bytes) → trimmed (trimmed text) ≡ trimmed text
trimmed_again text = let pad = trimmed_is_padded text in sym (ap trimmed pad.4 ∙ trimmed_padded pad.0 (trimmed text) pad.1 pad.2 pad.3)

words_display : (text : Bytes) → list_all is_display_byte text ≡ true → trimmed text ≡ text → IsDisplay (unless_empty text) × (unwrap_or (unless_empty text) [] ≡ text)
unfolding unless_empty IsDisplay
words_display [] h t = (tt, refl)
words_display (b ∷ bs) h t = rw (positive (length bs)) (inr (positive (length bs), h, t), refl)
  where
    positive : (n : ℕ) → (suc n == 0) ≡ false
    positive n = grind (arith, nat_tests)

tokens_are_named : (text rest : Bytes) (named : Named) → after 60 text ≡ Some rest → token_named (trimmed (before 60 text)) rest ≡ Some named → HasName text named
unfolding token_named led
tokens_are_named text rest named a h =
    let display = trimmed (before 60 text) in
    let tests = if_some (list_all is_display_byte display) (option_map (λ uri. (unless_empty display, uri)) (enclosed rest)) named h in
    let is = map_some _ (enclosed rest) named tests.1 in
    let pad = trimmed_is_padded (before 60 text) in
    let words = words_display display tests.0 (trimmed_again (before 60 text)) in
    let closed = 60 ∷ (is.0 ++ 62 ∷ []) in
    let behind = sym (led_text 60 text) ∙ ap (λ o. before 60 text ++ led 60 o) a ∙ ap (λ l. before 60 text ++ 60 ∷ l) (enclosed_text rest is.0 is.1) in
    let whole = behind ∙ ap (λ l. l ++ closed) pad.4 ∙ append_assoc pad.0 (display ++ pad.1) closed ∙ ap (λ l. pad.0 ++ l) (append_assoc display pad.1 closed ∙ sym (append-nil (display ++ (pad.1 ++ closed)))) in
    subst (λ (k : Named). HasName text k) is.2 (display ++ (pad.1 ++ closed), pad.1, (pad.0, [], pad.2, refl, whole), words.0, pad.3, ap (λ d. d ++ (pad.1 ++ closed)) (sym words.1))

-- the text has no display, and is the URI's
abbrev pub IsUnnamed : Bytes → Named → Type 0
IsUnnamed text named = (begins 34 text ≡ false) × (after 60 text ≡ None) × ((None, text) ≡ named)

pub named_is : (text : Bytes) (named : Named) → named_in text ≡ Some named → HasName text named ⊎ IsUnnamed text named
unfolding named_in
named_is text named h = elim (begins 34 text) as (λ (t : Bool). begins 34 text ≡ t → cond t (option_and_then (quoted_named text) (quoted_end 0 text)) (option_map_or (token_named (trimmed (before 60 text))) (after 60 text) (Some (None, text))) ≡ Some named → HasName text named ⊎ IsUnnamed text named) [
  | true ↦ λ e g. let is = then_some (quoted_named text) (quoted_end 0 text) named g in inl (quoted_is_named text is.0 named is.1 is.2)
  | false ↦ λ e. by_bracket e (after 60 text) refl
] refl h
  where
    by_bracket : begins 34 text ≡ false → (o : Option Bytes) → after 60 text ≡ o → option_map_or {T = Bytes} {U = Option Named} (token_named (trimmed (before 60 text))) o (Some (None, text)) ≡ Some named → HasName text named ⊎ IsUnnamed text named
    by_bracket e None a g = inr (e, a, some_same {V = Named} (None, text) named g)
    by_bracket e (Some rest) a g = inl (tokens_are_named text rest named a g)
