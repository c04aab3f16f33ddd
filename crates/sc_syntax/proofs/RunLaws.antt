-- Laws of scans: what is spelled has no separator that parts, and the scan stands behind it as before.
use Rattle.std.proofs.Common.{◌≡◌, ℕ, suc, Bool, true, false, cond, not, Option, Some, None, List, [], ◌∷◌, ◌++◌, ◌+◌, ◌&&◌, ◌==◌, append-nil, length, refl, sym, ap, subst, ◌∙◌, arith}
use Rattle.std.specs.List.{list_all}
use Rattle.std.specs.Option.{option_map_or}
use Rattle.std.proofs.lemmas.Bool.{false≢true}
use Rattle.sc_tokens.specs.Tokens.{is_blank}
use Rattle.sc_syntax.specs.declared.scan.Scan.{Scan}
use Rattle.sc_syntax.specs.declared.scan.Scan.TheVariants.{Word, Display, DisplayEscaped, Params, Quoted, Escaped}
use Rattle.sc_tokens.specs.Bytes.{Bytes}
use Rattle.sc_tokens.specs.Cuts.{onto_first}
use Rattle.sc_tokens.specs.Quoted.{closing, quoted_end}
use Rattle.sc_syntax.specs.Scanning.{is_outside, past_params, in_string, past, is_part_end, parts, with_first, all_read}
use Rattle.sc_tokens.specs.HeaderTokens.{is_string}
use Rattle.sc_syntax.specs.SpelledParts.{AreLed, AreListed}
use Rattle.sc_syntax.proofs.CutLaws.{some_same, none_some}
use Rattle.sc_syntax.proofs.BlankLaws.{both, and_true}
use Rattle.sc_syntax.proofs.ListedLaws.{map_some, unparted}
use Rattle.sc_syntax.proofs.ClassLaws.{same_number, itself, differs, EndsSolid, ends_joined, not_true}
use Rattle.sc_syntax.proofs.DisplayLaws.{quote_first, backslash_first, other_first, nothing_closes, quoted_is, unquoted, no_quote}

-- where the scan stands behind the text
unfoldable pub through : Scan → Bytes → Scan
through at [] = at
through at (b ∷ bs) = through (past at b) bs

-- no separator parts the text, and behind it the scan stands there
abbrev pub Passes : ℕ → Scan → Bytes → Scan → Type 0
Passes sign at text to = (unparted sign at text ≡ true) × (through at text ≡ to)

pub passes_none : (sign : ℕ) (at : Scan) → Passes sign at [] at
unfolding unparted through
passes_none sign at = (refl, refl)

pub passes_more : (sign b : ℕ) (at next to : Scan) (bs : Bytes) → is_part_end at sign b ≡ false → past at b ≡ next → Passes sign next bs to → Passes sign at (b ∷ bs) to
unfolding unparted through
passes_more sign b at next to bs e n h =
    (and_true (not (is_part_end at sign b)) (unparted sign (past at b) bs) (ap not e) (ap (λ s. unparted sign s bs) n ∙ h.0), ap (λ s. through s bs) n ∙ h.1)

pub passes_joined : (sign : ℕ) (at mid to : Scan) (a b : Bytes) → Passes sign at a mid → Passes sign mid b to → Passes sign at (a ++ b) to
unfolding unparted through
passes_joined sign at mid to [] b g h = subst (λ (s : Scan). Passes sign s b to) (sym g.1) h
passes_joined sign at mid to (c ∷ cs) b g h =
    let is = both (not (is_part_end at sign c)) (unparted sign (past at c) cs) g.0 in
    let rest = passes_joined sign (past at c) mid to cs b (is.1, g.1) h in
    (and_true (not (is_part_end at sign c)) (unparted sign (past at c) (cs ++ b)) is.0 rest.0, rest.1)

-- ## Parts of texts that are put together

part_onto : (b : ℕ) (text : Bytes) (texts : List Bytes) → onto_first b (text ∷ texts) ≡ (b ∷ text) ∷ texts
unfolding onto_first
part_onto b text texts = refl

ends_here : (sign : ℕ) (at : Scan) → is_outside at ≡ true → is_part_end at sign sign ≡ true
unfolding is_part_end
ends_here sign at h = and_true (is_outside at) (sign == sign) h (itself sign)

pub parts_alone : (sign : ℕ) (restart at to : Scan) (text : Bytes) → Passes sign at text to → parts restart sign at text ≡ text ∷ []
unfolding parts unparted through
parts_alone sign restart at to [] h = refl
parts_alone sign restart at to (b ∷ bs) h =
    let is = both (not (is_part_end at sign b)) (unparted sign (past at b) bs) h.0 in
    ap (λ t. cond t ([] ∷ parts restart sign restart bs) (onto_first b (parts restart sign (past at b) bs))) (not_true (is_part_end at sign b) is.0)
    ∙ ap (onto_first b) (parts_alone sign restart (past at b) to bs (is.1, h.1)) ∙ part_onto b bs []

pub parts_joined : (sign : ℕ) (restart at to : Scan) (text rest : Bytes) → Passes sign at text to → is_outside to ≡ true → parts restart sign at (text ++ sign ∷ rest) ≡ text ∷ parts restart sign restart rest
unfolding parts unparted through
parts_joined sign restart at to [] rest h o = ap (λ t. cond t ([] ∷ parts restart sign restart rest) (onto_first sign (parts restart sign (past at sign) rest))) (ends_here sign at (ap is_outside h.1 ∙ o))
parts_joined sign restart at to (b ∷ bs) rest h o =
    let is = both (not (is_part_end at sign b)) (unparted sign (past at b) bs) h.0 in
    ap (λ t. cond t ([] ∷ parts restart sign restart (bs ++ sign ∷ rest)) (onto_first b (parts restart sign (past at b) (bs ++ sign ∷ rest)))) (not_true (is_part_end at sign b) is.0)
    ∙ ap (onto_first b) (parts_joined sign restart (past at b) to bs rest (is.1, h.1) o) ∙ part_onto b bs (parts restart sign restart rest)

-- ## Bytes that change nothing among parameters

-- the byte is no quote, comma or semicolon
unfoldable pub is_plain : ℕ → Bool
is_plain b = not (b == 34) && not (b == 44) && not (b == 59)

-- a comma or a semicolon
abbrev pub IsSign : ℕ → Type 0
IsSign sign = (is_plain sign ≡ false) × ((34 == sign) ≡ false)

pub comma_sign : IsSign 44
unfolding is_plain
comma_sign = (refl, refl)

pub semicolon_sign : IsSign 59
unfolding is_plain
semicolon_sign = (refl, refl)

plain_quote : is_plain 34 ≡ false
unfolding is_plain
plain_quote = refl

pub goes_on : (at : Scan) (sign b : ℕ) → (b == sign) ≡ false → is_part_end at sign b ≡ false
unfolding is_part_end
goes_on at sign b h = second (is_outside at) (b == sign) h
  where
    second : (x y : Bool) → y ≡ false → (x && y) ≡ false
    second true y e = e
    second false y e = refl

stays_params : (b : ℕ) → (b == 34) ≡ false → past Params b ≡ Params
unfolding past past_params
stays_params b h = rw h refl

opens_string : (b : ℕ) → (b == 34) ≡ true → past Params b ≡ Quoted
unfolding past past_params
opens_string b h = rw h refl

pub passes_plain : (sign : ℕ) (text : Bytes) → IsSign sign → list_all is_plain text ≡ true → Passes sign Params text Params
passes_plain sign [] s h = passes_none sign Params
passes_plain sign (b ∷ bs) s h =
    let is = both (is_plain b) (list_all is_plain bs) h in
    passes_more sign b Params Params Params bs (goes_on Params sign b (differs is_plain b sign s.0 is.0)) (stays_params b (differs is_plain b 34 plain_quote is.0)) (passes_plain sign bs s is.1)

pub none_closes : (n : ℕ) → ¬ (closing [] ≡ Some n)
none_closes n h = none_some n (sym nothing_closes ∙ h)

-- ## Quoted strings

-- how a string is scanned: inside it, behind a backslash, and behind it
pub record Scans (sign : ℕ) (inside slashed outside : Scan) : Type 0 where
  pub goes : (b : ℕ) → is_part_end inside sign b ≡ false
  pub escape_goes : (b : ℕ) → is_part_end slashed sign b ≡ false
  pub closes : (b : ℕ) → (b == 34) ≡ true → past inside b ≡ outside
  pub escapes : (b : ℕ) → (b == 92) ≡ true → past inside b ≡ slashed
  pub stays : (b : ℕ) → (b == 34) ≡ false → (b == 92) ≡ false → past inside b ≡ inside
  pub ends : (b : ℕ) → past slashed b ≡ inside

closes_by : (inside slashed outside : Scan) (b : ℕ) → (b == 34) ≡ true → in_string inside slashed outside b ≡ outside
unfolding in_string
closes_by inside slashed outside b h = let is = same_number b 34 h in rw is refl

escapes_by : (inside slashed outside : Scan) (b : ℕ) → (b == 92) ≡ true → in_string inside slashed outside b ≡ slashed
unfolding in_string
escapes_by inside slashed outside b h = rw h refl

stays_by : (inside slashed outside : Scan) (b : ℕ) → (b == 34) ≡ false → (b == 92) ≡ false → in_string inside slashed outside b ≡ inside
unfolding in_string
stays_by inside slashed outside b g h = rw (h, g) refl

pub scans_quoted : (sign : ℕ) → Scans sign Quoted Escaped Params
unfolding past is_part_end is_outside
scans_quoted sign = record { goes = λ b. refl; escape_goes = λ b. refl; closes = closes_by Quoted Escaped Params; escapes = escapes_by Quoted Escaped Params; stays = stays_by Quoted Escaped Params; ends = λ b. refl }

pub scans_display : (sign : ℕ) → Scans sign Display DisplayEscaped Word
unfolding past is_part_end is_outside
scans_display sign = record { goes = λ b. refl; escape_goes = λ b. refl; closes = closes_by Display DisplayEscaped Word; escapes = escapes_by Display DisplayEscaped Word; stays = stays_by Display DisplayEscaped Word; ends = λ b. refl }

quote_is_solid : (b : ℕ) → (b == 34) ≡ true → is_blank b ≡ false
unfolding is_blank
quote_is_solid b h = let is = same_number b 34 h in rw is refl

module _ (sign : ℕ) (inside slashed outside : Scan) (scans : Scans sign inside slashed outside) where
  -- behind an opening quote: up to the closing one, which ends the text
  abbrev IsRest : Bytes → Type 0
  IsRest text = Passes sign inside text outside × EndsSolid text

  rest_last : (b : ℕ) → (b == 34) ≡ true → IsRest (b ∷ [])
  rest_last b h = (passes_more sign b inside outside outside [] (scans.goes b) (scans.closes b h) (passes_none sign outside), ([], b, quote_is_solid b h, refl))

  rest_escape : (b c : ℕ) (bs : Bytes) → (b == 92) ≡ true → IsRest bs → IsRest (b ∷ (c ∷ bs))
  rest_escape b c bs h r = (
    passes_more sign b inside slashed outside (c ∷ bs) (scans.goes b) (scans.escapes b h) (passes_more sign c slashed inside outside bs (scans.escape_goes c) (scans.ends c) r.0),
    ends_joined (b ∷ (c ∷ [])) bs r.1,
  )

  rest_more : (b : ℕ) (bs : Bytes) → (b == 34) ≡ false → (b == 92) ≡ false → IsRest bs → IsRest (b ∷ bs)
  rest_more b bs g h r = (passes_more sign b inside inside outside bs (scans.goes b) (scans.stays b g h) r.0, ends_joined (b ∷ []) bs r.1)

  pub rest_is : (text : Bytes) → closing text ≡ Some (length text) → IsRest text
  rest_is [] h = absurd (none_closes 0 h)
  rest_is (b ∷ []) h = elim (b == 34) as (λ (t : Bool). (b == 34) ≡ t → IsRest (b ∷ [])) [
    | true ↦ λ e. rest_last b e
    | false ↦ λ e. elim (b == 92) as (λ (t : Bool). (b == 92) ≡ t → IsRest (b ∷ [])) [
      | true ↦ λ f. let is = map_some (λ k. 2 + k) (closing []) 1 (sym (backslash_first b [] e f) ∙ h) in absurd (none_closes is.0 is.1)
      | false ↦ λ f. let is = map_some (λ k. 1 + k) (closing []) 1 (sym (other_first b [] e f) ∙ h) in absurd (none_closes is.0 is.1)
    ] refl
  ] refl
  rest_is (b ∷ (c ∷ bs)) h = elim (b == 34) as (λ (t : Bool). (b == 34) ≡ t → IsRest (b ∷ (c ∷ bs))) [
    | true ↦ λ e. absurd (let one : 1 ≡ suc (suc (length bs)) = some_same 1 (suc (suc (length bs))) (sym (quote_first b (c ∷ bs) e) ∙ h) in omega (arith, one))
    | false ↦ λ e. elim (b == 92) as (λ (t : Bool). (b == 92) ≡ t → IsRest (b ∷ (c ∷ bs))) [
      | true ↦ λ f.
          let is = map_some (λ k. 2 + k) (closing bs) (suc (suc (length bs))) (sym (backslash_first b (c ∷ bs) e f) ∙ h) in
          let len : ◌≡◌ {A = ℕ} is.0 (length bs) = (let two = is.2 in omega (arith, two)) in
          rest_escape b c bs f (rest_is bs (is.1 ∙ ap Some len))
      | false ↦ λ f.
          let is = map_some (λ k. 1 + k) (closing (c ∷ bs)) (suc (suc (length bs))) (sym (other_first b (c ∷ bs) e f) ∙ h) in
          let len : ◌≡◌ {A = ℕ} is.0 (suc (length bs)) = (let one = is.2 in omega (arith, one)) in
          rest_more b (c ∷ bs) e f (rest_is (c ∷ bs) (is.1 ∙ ap Some len))
    ] refl
  ] refl

pub string_end : (text : Bytes) → is_string text ≡ true → quoted_end 0 text ≡ Some (length text)
unfolding is_string
string_end text h = by_end (quoted_end 0 text) h
  where
    by_end : (o : Option ℕ) → option_map_or (λ end. end == length text) o false ≡ true → o ≡ Some (length text)
    by_end None e = absurd (false≢true e)
    by_end (Some n) e = ap Some (same_number n (length text) e)

-- a quoted string among parameters parts nowhere, begins with a quote and ends with one
abbrev pub IsClosed : ℕ → Bytes → Type 0
IsClosed sign text = Passes sign Params text Params × EndsSolid text × (bs : Bytes) × (text ≡ 34 ∷ bs)

pub string_is_closed : (sign : ℕ) (text : Bytes) → IsSign sign → is_string text ≡ true → IsClosed sign text
string_is_closed sign [] s h = absurd (none_some 0 (sym no_quote ∙ string_end [] h))
string_is_closed sign (b ∷ bs) s h = elim (b == 34) as (λ (t : Bool). (b == 34) ≡ t → IsClosed sign (b ∷ bs)) [
  | false ↦ λ e. absurd (none_some (suc (length bs)) (sym (unquoted b bs e) ∙ string_end (b ∷ bs) h))
  | true ↦ λ e.
      let is = map_some (λ k. 1 + k) (closing bs) (suc (length bs)) (sym (quoted_is b bs e) ∙ string_end (b ∷ bs) h) in
      let len : ◌≡◌ {A = ℕ} is.0 (length bs) = (let one = is.2 in omega (arith, one)) in
      let rest = rest_is sign Quoted Escaped Params (scans_quoted sign) bs (is.1 ∙ ap Some len) in
      let same = same_number b 34 e in
      let no_sign = ap (λ c. c == sign) same ∙ s.1 in
      (passes_more sign b Params Quoted Params bs (goes_on Params sign b no_sign) (opens_string b e) rest.0, ends_joined (b ∷ []) bs rest.1, bs, ap (λ c. c ∷ bs) same)
] refl

-- ## Items with signs between

-- the item parts nowhere, and a separator behind it does
abbrev pub IsPart : ℕ → Scan → Bytes → Type 0
IsPart sign restart text = (to : Scan) × Passes sign restart text to × (is_outside to ≡ true)

first_read : {X : Type 0} (read : Bytes → Option X) (text : Bytes) (texts : List Bytes) (x : X) (xs : List X) → read text ≡ Some x → all_read read texts ≡ Some xs → all_read read (text ∷ texts) ≡ Some (x ∷ xs)
unfolding all_read with_first
first_read read text texts x xs g h = ap (λ o. with_first o (all_read read texts)) g ∙ ap (with_first (Some x)) h

none_read : {X : Type 0} (read : Bytes → Option X) → all_read read [] ≡ Some []
unfolding all_read
none_read read = refl

module _ {X : Type 0} (read : Bytes → Option X) (Spells : Bytes → X → Type 0) (sign : ℕ) (restart : Scan) (known : (text : Bytes) (x : X) → Spells text x → IsPart sign restart text × (read text ≡ Some x)) where
  -- behind a first part, items each behind its sign are read
  pub led_is_read : (xs : List X) (text : Bytes) → AreLed sign Spells text xs → (at to : Scan) (first : Bytes) → Passes sign at first to → is_outside to ≡ true
      → (texts : List Bytes) × (parts restart sign at (first ++ text) ≡ first ∷ texts) × (all_read read texts ≡ Some xs)
  unfolding AreLed
  led_is_read [] text h at to first p o = ([], ap (λ l. parts restart sign at (first ++ l)) h ∙ ap (parts restart sign at) (append-nil first) ∙ parts_alone sign restart at to first p, none_read read)
  led_is_read (x ∷ xs) text (item, rest, spells, more, is) at to first p o =
      let one = known item x spells in
      let others = led_is_read xs rest more restart one.0.0 item one.0.1 one.0.2 in (
        item ∷ others.0,
        ap (λ l. parts restart sign at (first ++ l)) is ∙ parts_joined sign restart at to first (item ++ rest) p o ∙ ap (λ l. first ∷ l) others.1,
        first_read read item others.0 x xs one.1 others.2,
      )

  -- items with signs between are read
  pub listed_is_read : (text : Bytes) (xs : List X) → AreListed sign Spells text xs → all_read read (parts restart sign restart text) ≡ Some xs
  unfolding AreListed
  listed_is_read text [] h = absurd h
  listed_is_read text (x ∷ xs) (item, rest, spells, more, is) =
      let one = known item x spells in
      let others = led_is_read xs rest more restart one.0.0 item one.0.1 one.0.2 in
      ap (λ l. all_read read (parts restart sign restart l)) is ∙ ap (all_read read) others.1 ∙ first_read read item others.0 x xs one.1 others.2
