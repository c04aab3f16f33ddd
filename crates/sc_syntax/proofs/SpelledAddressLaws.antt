-- What is spelled is read: addresses.
use Rattle.std.proofs.Common.{◌≡◌, ℕ, suc, Bool, true, false, cond, not, Option, Some, None, Ok, Err, List, [], ◌∷◌, ◌++◌, ◌+◌, ◌≤◌, ◌&&◌, ◌==◌, ◌⊎◌, inl, inr, length, drop, refl, sym, ap, subst, ◌∙◌, append_assoc, append-nil, length-append, arith}
use Rattle.std.specs.Prelude.{unwrap_or, slice_get}
use Rattle.std.specs.List.{list_all}
use Rattle.std.specs.Option.{option_map, option_map_or, option_and_then}
use Rattle.std.specs.Result.{result_ok}
use Rattle.std.specs.Char.{is_ascii_alphabetic}
use Rattle.std.proofs.lemmas.Bool.{false≢true}
use Rattle.std.proofs.lemmas.Bool.Decides.{nat_tests}
use Rattle.std.proofs.Math.Seq.{take-append_seam, drop-append_seam}
use Rattle.sc_tokens.specs.Names.{same_bytes}
use Rattle.sc_tokens.specs.Tokens.{is_blank, is_token_byte}
use Rattle.sc_value.specs.declared.parts.Param.{Param}
use Rattle.sc_value.specs.declared.parts.Uri.{Uri}
use Rattle.sc_value.specs.declared.parts.Address.{Address}
use Rattle.sc_value.specs.declared.parts.Contact.{Contact}
use Rattle.sc_value.specs.declared.parts.Contact.TheVariants.{Star, At}
use Rattle.sc_syntax.specs.declared.scan.Scan.{Scan}
use Rattle.sc_syntax.specs.declared.scan.Scan.TheVariants.{Front, Word, Display, DisplayEscaped, Bracketed, Params}
use Rattle.sc_tokens.specs.Bytes.{Bytes, is_scheme_byte, is_closed, is_open}
use Rattle.sc_tokens.specs.Cuts.{has, before, after}
use Rattle.sc_tokens.specs.Hosts.{begins, is_none_left}
use Rattle.sc_tokens.specs.Quoted.{closing, quoted_end}
use Rattle.sc_syntax.specs.UriParts.{scheme_fault}
use Rattle.sc_tokens.specs.UriTokens.{is_scheme}
use Rattle.sc_syntax.specs.Uris.{uri_behind, uri_of}
use Rattle.sc_tokens.specs.Blanks.{trimmed_front, trimmed_back, without_blanks as trimmed}
use Rattle.sc_syntax.specs.Scanning.{is_outside, past_front, past_word, past_bracketed, past_params, past, is_part_end, address_parts, all_read}
use Rattle.sc_tokens.specs.HeaderTokens.{is_string, is_display_byte, IsWords, IsDisplay}
use Rattle.sc_syntax.specs.Parameters.{params_of}
use Rattle.sc_syntax.specs.Addresses.{uri_in_brackets as enclosed, in_brackets, quoted_named, unless_empty, token_named, named_in, with_uri, address_with, address_in, address_of, addresses_of, contact_of, contacts_of}
use Rattle.sc_syntax.specs.SpelledUris.{IsUriSpelled}
use Rattle.sc_syntax.specs.SpelledParts.{IsBlanks, Padded, AreLed, AreParamsSpelled}
use Rattle.sc_syntax.specs.SpelledAddresses.{IsNamedSpelled, IsBareSpelled, IsAddressIn, AreAddressesSpelled, IsContactSpelled, AreContactsSpelled}
use Rattle.sc_syntax.proofs.PartLaws.{if_ok}
use Rattle.sc_syntax.proofs.CutLaws.{none_some, before_here, before_on}
use Rattle.sc_syntax.proofs.BlankLaws.{both, front_more, trimmed_is_padded, trimmed_padded, padded_is_trimmed, padded_twice}
use Rattle.sc_syntax.proofs.ListedLaws.{map_some, same_text, unparted}
use Rattle.sc_syntax.proofs.DisplayLaws.{quote_first, backslash_first, other_first, quoted_is, unquoted, no_quote}
use Rattle.sc_syntax.proofs.AddressLaws.{front_blank, front_word, word_step, blank_differs, outside_word, blanks_lack, begins_more}
use Rattle.sc_syntax.proofs.ClassLaws.{same_number, positive, differs, class_lacks, before_joined, after_joined, after_none, BeginsSolid, EndsSolid, begins_joined, ends_joined, class_ends, solid_is_trimmed, lacks_more}
use Rattle.sc_syntax.proofs.RunLaws.{through, IsPart, IsSign, comma_sign, semicolon_sign, Passes, passes_none, passes_more, passes_joined, passes_plain, goes_on, scans_display, rest_is, string_end, parts_alone, listed_is_read, none_closes}
use Rattle.sc_syntax.proofs.ParameterLaws.{blanks_plain, params_are_read, params_pass, outside_params}
use Rattle.sc_syntax.proofs.SpelledUriLaws.{lacks_joined, spelled_is_read, uri_is_open}
use Rattle.sc_syntax.proofs.ViaLaws.{trimmed_none}

-- ## Signs

-- a comma or a semicolon, neither blank nor quote nor bracket
abbrev IsCut : ℕ → Type 0
IsCut sign = IsSign sign × (is_blank sign ≡ false) × ((60 == sign) ≡ false) × ((62 == sign) ≡ false)

comma_cut : IsCut 44
unfolding is_blank
comma_cut = (comma_sign, refl, refl, refl)

semicolon_cut : IsCut 59
unfolding is_blank
semicolon_cut = (semicolon_sign, refl, refl, refl)

no_blanks : (is_blank 34 ≡ false) × (is_blank 60 ≡ false) × (is_blank 62 ≡ false) × (is_blank 59 ≡ false)
unfolding is_blank
no_blanks = (refl, refl, refl, refl)

-- ## Scans of an address

passes_front : (sign : ℕ) (text : Bytes) → IsCut sign → IsBlanks text → Passes sign Front text Front
passes_front sign [] s h = passes_none sign Front
passes_front sign (b ∷ bs) s h =
    let is = both (is_blank b) (list_all is_blank bs) h in
    passes_more sign b Front Front Front bs (goes_on Front sign b (blank_differs b sign s.1 is.0)) (front_blank b (blank_differs b 34 no_blanks.0 is.0) (blank_differs b 60 no_blanks.1 is.0) is.0) (passes_front sign bs s is.1)

passes_word : (sign : ℕ) (text : Bytes) → has sign text ≡ false → has 60 text ≡ false → has 59 text ≡ false → Passes sign Word text Word
passes_word sign [] s l f = passes_none sign Word
passes_word sign (b ∷ bs) s l f =
    let si = lacks_more sign b bs s in
    let br = lacks_more 60 b bs l in
    let se = lacks_more 59 b bs f in
    passes_more sign b Word Word Word bs (goes_on Word sign b si.0) (word_step b br.0 se.0) (passes_word sign bs si.1 br.1 se.1)

blanks_in_word : (sign : ℕ) (text : Bytes) → IsCut sign → IsBlanks text → Passes sign Word text Word
blanks_in_word sign text s h = passes_word sign text (blanks_lack text sign s.1 h) (blanks_lack text 60 no_blanks.1 h) (blanks_lack text 59 no_blanks.3 h)

bracket_goes : (sign b : ℕ) → is_part_end Bracketed sign b ≡ false
unfolding is_part_end is_outside
bracket_goes sign b = refl

bracket_stays : (b : ℕ) → (b == 62) ≡ false → past Bracketed b ≡ Bracketed
unfolding past past_bracketed
bracket_stays b h = rw h refl

bracket_ends : past Bracketed 62 ≡ Params
unfolding past past_bracketed
bracket_ends = refl

bracket_begins : (past Front 60 ≡ Bracketed) × (past Word 60 ≡ Bracketed)
unfolding past past_front past_word
bracket_begins = (refl, refl)

passes_brackets : (sign : ℕ) (text : Bytes) → has 62 text ≡ false → Passes sign Bracketed text Bracketed
passes_brackets sign [] h = passes_none sign Bracketed
passes_brackets sign (b ∷ bs) h = let is = lacks_more 62 b bs h in passes_more sign b Bracketed Bracketed Bracketed bs (bracket_goes sign b) (bracket_stays b is.0) (passes_brackets sign bs is.1)

-- a URI in its brackets
bracketed : Bytes → Bytes
bracketed uri = 60 ∷ (uri ++ 62 ∷ [])

passes_bracketed : (sign : ℕ) (at : Scan) (uri : Bytes) → IsCut sign → past at 60 ≡ Bracketed → has 62 uri ≡ false → Passes sign at (bracketed uri) Params
unfolding bracketed
passes_bracketed sign at uri s opens h =
    passes_more sign 60 at Bracketed Params (uri ++ 62 ∷ []) (goes_on at sign 60 s.2) opens
    (passes_joined sign Bracketed Bracketed Params uri (62 ∷ []) (passes_brackets sign uri h) (passes_more sign 62 Bracketed Params Params [] (bracket_goes sign 62) bracket_ends (passes_none sign Params)))

-- ## Displays

display_class : (is_display_byte 34 ≡ false) × (is_display_byte 44 ≡ false) × (is_display_byte 59 ≡ false) × (is_display_byte 60 ≡ false)
unfolding is_display_byte is_token_byte is_blank
display_class = (refl, refl, refl, refl)

length_trimmed : (text : Bytes) → length (trimmed text) ≤ length text
length_trimmed text = let pad = trimmed_is_padded text in let len = ap length pad.4 in omega (arith, len, length-append pad.0 (trimmed text ++ pad.1), length-append (trimmed text) pad.1)

trimmed_more : (b : ℕ) (bs : Bytes) → is_blank b ≡ true → trimmed (b ∷ bs) ≡ trimmed bs
unfolding trimmed
trimmed_more b bs h = ap trimmed_back (front_more b bs h)

-- a trimmed text begins with no blank
first_solid : (b : ℕ) (bs : Bytes) → trimmed (b ∷ bs) ≡ b ∷ bs → is_blank b ≡ false
first_solid b bs h = elim (is_blank b) as (λ (t : Bool). is_blank b ≡ t → t ≡ false) [
  | false ↦ λ e. refl
  | true ↦ λ e. absurd (let len : length (trimmed bs) ≡ suc (length bs) = ap length (sym (trimmed_more b bs e) ∙ h) in let less = length_trimmed bs in omega (arith, len, less))
] refl

-- which sign display bytes aren't
display_lacks : (sign : ℕ) (text : Bytes) → is_display_byte sign ≡ false → list_all is_display_byte text ≡ true → has sign text ≡ false
display_lacks sign text s h = class_lacks is_display_byte sign text s h

words_pass : (sign : ℕ) (text : Bytes) → is_display_byte sign ≡ false → IsWords text → Passes sign Front text Word
words_pass sign [] s h = absurd (false≢true (sym h.0))
words_pass sign (b ∷ bs) s h =
    let is = both (is_display_byte b) (list_all is_display_byte bs) h.1 in
    passes_more sign b Front Word Word bs (goes_on Front sign b (differs is_display_byte b sign s is.0))
    (front_word b (differs is_display_byte b 34 display_class.0 is.0) (differs is_display_byte b 60 display_class.3 is.0) (first_solid b bs h.2))
    (passes_word sign bs (display_lacks sign bs s is.1) (display_lacks 60 bs display_class.3 is.1) (display_lacks 59 bs display_class.2 is.1))

front_quote : (b : ℕ) → (b == 34) ≡ true → past Front b ≡ Display
unfolding past past_front
front_quote b h = rw h refl

-- a quoted string as a display
record Strings (text : Bytes) : Type 0 where
  rest : Bytes
  is : text ≡ 34 ∷ rest
  closed : closing rest ≡ Some (length rest)

string_parts : (text : Bytes) → is_string text ≡ true → Strings text
string_parts [] h = absurd (none_some 0 (sym no_quote ∙ string_end [] h))
string_parts (b ∷ bs) h = elim (b == 34) as (λ (t : Bool). (b == 34) ≡ t → Strings (b ∷ bs)) [
  | false ↦ λ e. absurd (none_some (suc (length bs)) (sym (unquoted b bs e) ∙ string_end (b ∷ bs) h))
  | true ↦ λ e.
      let is = map_some (λ k. 1 + k) (closing bs) (suc (length bs)) (sym (quoted_is b bs e) ∙ string_end (b ∷ bs) h) in
      let len : ◌≡◌ {A = ℕ} is.0 (length bs) = (let one = is.2 in omega (arith, one)) in
      record { rest = bs; is = ap (λ c. c ∷ bs) (same_number b 34 e); closed = is.1 ∙ ap Some len }
] refl

string_passes : (sign : ℕ) (text : Bytes) → IsCut sign → is_string text ≡ true → Passes sign Front text Word
string_passes sign text s h =
    let parts = string_parts text h in
    let scan = rest_is sign Display DisplayEscaped Word (scans_display sign) parts.rest parts.closed in
    subst (λ (t : Bytes). Passes sign Front t Word) (sym parts.is) (passes_more sign 34 Front Display Word parts.rest (goes_on Front sign 34 s.0.1) (front_quote 34 refl) scan.0)

-- ## The URI in its brackets is read

left_none : is_none_left (Some []) ≡ true
unfolding is_none_left
left_none = refl

enclosed_read : (uri : Bytes) → has 62 uri ≡ false → enclosed (uri ++ 62 ∷ []) ≡ Some uri
unfolding enclosed
enclosed_read uri h =
    let text = uri ++ 62 ∷ [] in
    ap (λ o. cond (is_none_left o) (Some (before 62 text)) None) (after_joined 62 uri [] h) ∙ ap (λ t. cond t (Some (before 62 text)) None) left_none ∙ ap Some (before_joined 62 uri [] h)

brackets_read : (uri : Bytes) → has 62 uri ≡ false → in_brackets (bracketed uri) ≡ Some uri
unfolding in_brackets bracketed
brackets_read uri h = ap (λ t. cond t (enclosed (uri ++ 62 ∷ [])) None) (begins_more 60 60 (uri ++ 62 ∷ [])) ∙ enclosed_read uri h

brackets_end : (uri : Bytes) → EndsSolid (bracketed uri)
unfolding bracketed
brackets_end uri = (60 ∷ uri, 62, no_blanks.2, refl)

brackets_begin : (uri : Bytes) → BeginsSolid (bracketed uri)
unfolding bracketed
brackets_begin uri = (60, uri ++ 62 ∷ [], no_blanks.1, refl)

brackets_trimmed : (gap uri : Bytes) → IsBlanks gap → trimmed (gap ++ bracketed uri) ≡ bracketed uri
brackets_trimmed gap uri h =
    ap (λ l. trimmed (gap ++ l)) (sym (append-nil (bracketed uri))) ∙ trimmed_padded gap (bracketed uri) [] h refl ∙ solid_is_trimmed (bracketed uri) (brackets_begin uri) (brackets_end uri)

-- ## Quoted displays are read

-- what stands behind the closing quote doesn't count
closing_more : (text more : Bytes) (n : ℕ) → closing text ≡ Some n → closing (text ++ more) ≡ Some n
closing_more [] more n h = absurd (none_closes n h)
closing_more (b ∷ []) more n h = elim (b == 34) as (λ (t : Bool). (b == 34) ≡ t → closing (b ∷ more) ≡ Some n) [
  | true ↦ λ e. quote_first b more e ∙ sym (quote_first b [] e) ∙ h
  | false ↦ λ e. elim (b == 92) as (λ (t : Bool). (b == 92) ≡ t → closing (b ∷ more) ≡ Some n) [
    | true ↦ λ f. let is = map_some (λ k. 2 + k) (closing []) n (sym (backslash_first b [] e f) ∙ h) in absurd (none_closes is.0 is.1)
    | false ↦ λ f. let is = map_some (λ k. 1 + k) (closing []) n (sym (other_first b [] e f) ∙ h) in absurd (none_closes is.0 is.1)
  ] refl
] refl
closing_more (b ∷ (c ∷ bs)) more n h = elim (b == 34) as (λ (t : Bool). (b == 34) ≡ t → closing (b ∷ (c ∷ (bs ++ more))) ≡ Some n) [
  | true ↦ λ e. quote_first b (c ∷ (bs ++ more)) e ∙ sym (quote_first b (c ∷ bs) e) ∙ h
  | false ↦ λ e. elim (b == 92) as (λ (t : Bool). (b == 92) ≡ t → closing (b ∷ (c ∷ (bs ++ more))) ≡ Some n) [
    | true ↦ λ f. let is = map_some (λ k. 2 + k) (closing bs) n (sym (backslash_first b (c ∷ bs) e f) ∙ h) in backslash_first b (c ∷ (bs ++ more)) e f ∙ ap (option_map (λ k. 2 + k)) (closing_more bs more is.0 is.1) ∙ ap Some is.2
    | false ↦ λ f. let is = map_some (λ k. 1 + k) (closing (c ∷ bs)) n (sym (other_first b (c ∷ bs) e f) ∙ h) in other_first b (c ∷ (bs ++ more)) e f ∙ ap (option_map (λ k. 1 + k)) (closing_more (c ∷ bs) more is.0 is.1) ∙ ap Some is.2
  ] refl
] refl

string_end_more : (display more : Bytes) → is_string display ≡ true → (begins 34 (display ++ more) ≡ true) × (quoted_end 0 (display ++ more) ≡ Some (length display))
string_end_more display more h =
    let parts = string_parts display h in
    let len : ◌≡◌ {A = ℕ} (1 + length parts.rest) (length display) = (let same = ap length parts.is in omega (arith, same)) in (
      ap (λ d. begins 34 (d ++ more)) parts.is ∙ begins_more 34 34 (parts.rest ++ more),
      ap (λ d. quoted_end 0 (d ++ more)) parts.is ∙ quoted_is 34 (parts.rest ++ more) refl ∙ ap (option_map (λ k. 1 + k)) (closing_more parts.rest more (length parts.rest) parts.closed) ∙ ap Some len,
    )

quoted_read : (display gap uri : Bytes) → is_string display ≡ true → IsBlanks gap → has 62 uri ≡ false → named_in (display ++ (gap ++ bracketed uri)) ≡ Some (Some display, uri)
unfolding named_in quoted_named
quoted_read display gap uri s g h =
    let text = display ++ (gap ++ bracketed uri) in
    let end = string_end_more display (gap ++ bracketed uri) s in
    ap (λ t. cond t (option_and_then (quoted_named text) (quoted_end 0 text)) (option_map_or (token_named (trimmed (before 60 text))) (after 60 text) (Some (None, text)))) end.0
    ∙ ap (option_and_then (quoted_named text)) end.1
    ∙ ap (λ d. option_map (λ u. (Some d, u)) (in_brackets (trimmed (drop (length display) text)))) (take-append_seam display (gap ++ bracketed uri))
    ∙ ap (λ d. option_map (λ u. (Some display, u)) (in_brackets (trimmed d))) (drop-append_seam display (gap ++ bracketed uri))
    ∙ ap (λ d. option_map (λ u. (Some display, u)) (in_brackets d)) (brackets_trimmed gap uri g)
    ∙ ap (option_map (λ u. (Some display, u))) (brackets_read uri h)

-- ## Other displays are read

token_read : (display rest uri : Bytes) (shown : Option Bytes) → list_all is_display_byte display ≡ true → unless_empty display ≡ shown → enclosed rest ≡ Some uri → token_named display rest ≡ Some (shown, uri)
unfolding token_named
token_read display rest uri shown all is h =
    ap (λ t. cond t (option_map (λ u. (unless_empty display, u)) (enclosed rest)) None) all ∙ ap (option_map (λ u. (unless_empty display, u))) h ∙ ap (λ d. Some (d, uri)) is

by_bracket : (front rest display uri : Bytes) (shown : Option Bytes) → begins 34 (front ++ 60 ∷ rest) ≡ false → has 60 front ≡ false → trimmed front ≡ display → list_all is_display_byte display ≡ true → unless_empty display ≡ shown → enclosed rest ≡ Some uri
    → named_in (front ++ 60 ∷ rest) ≡ Some (shown, uri)
unfolding named_in
by_bracket front rest display uri shown q l t all is h =
    let text = front ++ 60 ∷ rest in
    ap (λ c. cond c (option_and_then (quoted_named text) (quoted_end 0 text)) (option_map_or (token_named (trimmed (before 60 text))) (after 60 text) (Some (None, text)))) q
    ∙ ap (λ o. option_map_or (token_named (trimmed (before 60 text))) o (Some (None, text))) (after_joined 60 front rest l)
    ∙ ap (λ f. token_named (trimmed f) rest) (before_joined 60 front rest l) ∙ ap (λ d. token_named d rest) t ∙ token_read display rest uri shown all is h

unless_none : unless_empty [] ≡ None
unfolding unless_empty
unless_none = refl

unless_some : (text : Bytes) → (length text == 0) ≡ false → unless_empty text ≡ Some text
unfolding unless_empty
unless_some text h = ap (λ t. cond t None (Some text)) h

unnamed_read : (uri : Bytes) → has 62 uri ≡ false → named_in (bracketed uri) ≡ Some (None, uri)
unfolding bracketed has
unnamed_read uri h = by_bracket [] (uri ++ 62 ∷ []) [] uri None (begins_more 34 60 (uri ++ 62 ∷ [])) refl trimmed_none refl unless_none (enclosed_read uri h)

words_quote : (display more : Bytes) → IsWords display → begins 34 (display ++ more) ≡ false
words_quote [] more h = absurd (false≢true (sym h.0))
words_quote (b ∷ bs) more h = begins_more 34 b (bs ++ more) ∙ differs is_display_byte b 34 display_class.0 (both (is_display_byte b) (list_all is_display_byte bs) h.1).0

words_read : (display gap uri : Bytes) → IsWords display → IsBlanks gap → has 62 uri ≡ false → named_in (display ++ (gap ++ bracketed uri)) ≡ Some (Some display, uri)
unfolding bracketed
words_read display gap uri w g h =
    let regroup = sym (append_assoc display gap (60 ∷ (uri ++ 62 ∷ []))) in
    ap named_in regroup
    ∙ by_bracket (display ++ gap) (uri ++ 62 ∷ []) display uri (Some display) (ap (begins 34) (sym regroup) ∙ words_quote display (gap ++ 60 ∷ (uri ++ 62 ∷ [])) w)
    (lacks_joined 60 display gap (display_lacks 60 display display_class.3 w.1) (blanks_lack gap 60 no_blanks.1 g)) (trimmed_padded [] display gap refl g ∙ w.2) w.1 (unless_some display w.0) (enclosed_read uri h)

-- ## The first part of an address

-- what is known of a first part without the blanks round it
record Core (listed : Bool) (inner : Bytes) (display : Option Bytes) (uri : Bytes) : Type 0 where
  core : Bytes
  to : Scan
  padded : Padded core inner
  solid : trimmed core ≡ core
  read : named_in core ≡ Some (display, uri)
  ends : Passes 59 Front inner to
  whole : listed ≡ true → Passes 44 Front inner to
  behind : (sign : ℕ) (back : Bytes) → IsCut sign → IsBlanks back → Passes sign to back to
  outside : is_outside to ≡ true
  semicolon : past to 59 ≡ Params

params_semicolon : (past Params 59 ≡ Params) × (past Word 59 ≡ Params)
unfolding past past_params past_word
params_semicolon = (refl, refl)

blanks_in_params : (sign : ℕ) (text : Bytes) → IsCut sign → IsBlanks text → Passes sign Params text Params
blanks_in_params sign text s h = passes_plain sign text s.0 (blanks_plain text h)

itself_padded : (text : Bytes) → Padded text text
itself_padded text = ([], [], refl, refl, sym (append-nil text))

string_begins : (text : Bytes) → is_string text ≡ true → BeginsSolid text
string_begins text h = let parts = string_parts text h in (34, parts.rest, no_blanks.0, parts.is)

words_begin : (text : Bytes) → IsWords text → BeginsSolid text
words_begin [] h = absurd (false≢true (sym h.0))
words_begin (b ∷ bs) h = (b, bs, first_solid b bs h.2, refl)

closed_lacks : (text : Bytes) → is_open text ≡ true → (has 60 text ≡ false) × (has 62 text ≡ false)
unfolding is_open is_closed
closed_lacks text h = (class_lacks (λ b. not (is_closed b)) 60 text refl h, class_lacks (λ b. not (is_closed b)) 62 text refl h)

display_passes : (sign : ℕ) (display gap uri : Bytes) → IsCut sign → Passes sign Front display Word → IsBlanks gap → has 62 uri ≡ false → Passes sign Front (display ++ (gap ++ bracketed uri)) Params
display_passes sign display gap uri s d g h =
    passes_joined sign Front Word Params display (gap ++ bracketed uri) d (passes_joined sign Word Word Params gap (bracketed uri) (blanks_in_word sign gap s g) (passes_bracketed sign Word uri s bracket_begins.1 h))

shown_core : (listed : Bool) (display gap uri : Bytes) → (is_string display ≡ true) ⊎ IsWords display → IsBlanks gap → has 62 uri ≡ false → Core listed (display ++ (gap ++ bracketed uri)) (Some display) uri
shown_core listed display gap uri form g h =
    let inner = display ++ (gap ++ bracketed uri) in
    let end : EndsSolid inner = ends_joined display (gap ++ bracketed uri) (ends_joined gap (bracketed uri) (brackets_end uri)) in
    elim form as (λ _. Core listed inner (Some display) uri) [
      | inl string ↦ record {
        core = inner;
        to = Params;
        padded = itself_padded inner;
        solid = solid_is_trimmed inner (begins_joined display (gap ++ bracketed uri) (string_begins display string)) end;
        read = quoted_read display gap uri string g h;
        ends = display_passes 59 display gap uri semicolon_cut (string_passes 59 display semicolon_cut string) g h;
        whole = λ _. display_passes 44 display gap uri comma_cut (string_passes 44 display comma_cut string) g h;
        behind = blanks_in_params;
        outside = outside_params;
        semicolon = params_semicolon.0;
      }
      | inr words ↦ record {
        core = inner;
        to = Params;
        padded = itself_padded inner;
        solid = solid_is_trimmed inner (begins_joined display (gap ++ bracketed uri) (words_begin display words)) end;
        read = words_read display gap uri words g h;
        ends = display_passes 59 display gap uri semicolon_cut (words_pass 59 display display_class.2 words) g h;
        whole = λ _. display_passes 44 display gap uri comma_cut (words_pass 44 display display_class.1 words) g h;
        behind = blanks_in_params;
        outside = outside_params;
        semicolon = params_semicolon.0;
      }
    ]

gap_passes : (sign : ℕ) (gap uri : Bytes) → IsCut sign → IsBlanks gap → has 62 uri ≡ false → Passes sign Front (gap ++ bracketed uri) Params
gap_passes sign gap uri s g h = passes_joined sign Front Front Params gap (bracketed uri) (passes_front sign gap s g) (passes_bracketed sign Front uri s bracket_begins.0 h)

named_core : (listed : Bool) (display : Option Bytes) (gap uri : Bytes) → IsDisplay display → IsBlanks gap → has 62 uri ≡ false → Core listed (unwrap_or display [] ++ (gap ++ bracketed uri)) display uri
unfolding IsDisplay
named_core listed None gap uri d g h = record {
  core = bracketed uri;
  to = Params;
  padded = (gap, [], g, refl, ap (λ l. gap ++ l) (sym (append-nil (bracketed uri))));
  solid = solid_is_trimmed (bracketed uri) (brackets_begin uri) (brackets_end uri);
  read = unnamed_read uri h;
  ends = gap_passes 59 gap uri semicolon_cut g h;
  whole = λ _. gap_passes 44 gap uri comma_cut g h;
  behind = blanks_in_params;
  outside = outside_params;
  semicolon = params_semicolon.0;
}
named_core listed (Some display) gap uri d g h = shown_core listed display gap uri d g h

-- ## Bare URIs

letter_no_quote : is_ascii_alphabetic 34 ≡ false
letter_no_quote = refl

-- a URI begins with a letter
abbrev HasLetter : Bytes → Type 0
HasLetter text = (b : ℕ) × (bs : Bytes) × (is_ascii_alphabetic b ≡ true) × (text ≡ b ∷ bs)

scheme_letter : (text : Bytes) → is_scheme text ≡ true → HasLetter text
unfolding is_scheme
scheme_letter [] h = absurd (false≢true h)
scheme_letter (b ∷ bs) h = (b, bs, (both (is_ascii_alphabetic b) (list_all is_scheme_byte (b ∷ bs)) h).0, refl)

before_nothing : (sign : ℕ) → before sign [] ≡ []
unfolding before
before_nothing sign = refl

no_letter : ¬ HasLetter []
no_letter (b, bs, h, is) = let bad : ◌≡◌ {A = Bytes} [] (b ∷ bs) = is in cc

front_letter : (text : Bytes) → HasLetter (before 58 text) → HasLetter text
front_letter [] h = absurd (no_letter (subst HasLetter (before_nothing 58) h))
front_letter (b ∷ bs) h = elim (b == 58) as (λ (t : Bool). (b == 58) ≡ t → HasLetter (b ∷ bs)) [
  | true ↦ λ e. absurd (no_letter (subst HasLetter (before_here 58 b bs e) h))
  | false ↦ λ e. first (subst HasLetter (before_on 58 b bs e) h)
] refl
  where
    first : HasLetter (b ∷ before 58 bs) → HasLetter (b ∷ bs)
    first (c, cs, letter, is) = (b, bs, ap is_ascii_alphabetic (ap (λ l. option_map_or (λ x. x) (slice_get l 0) 0) is) ∙ letter, refl)

uri_letter : (text : Bytes) (uri : Uri) → uri_of text ≡ Ok uri → HasLetter text
unfolding uri_of
uri_letter text uri h = front_letter text (scheme_letter (before 58 text) (if_ok (is_scheme (before 58 text)) (option_map_or (uri_behind text (before 58 text)) (after 58 text) (Err scheme_fault)) scheme_fault uri h).0)

open_solid : (b : ℕ) → not (is_closed b) ≡ true → is_blank b ≡ false
unfolding is_closed is_blank
open_solid b h = grind (arith, nat_tests, h)

bare_passes : (sign : ℕ) (text : Bytes) → HasLetter text → has sign text ≡ false → has 60 text ≡ false → has 59 text ≡ false → is_open text ≡ true → Passes sign Front text Word
unfolding is_open
bare_passes sign text (b, bs, letter, is) s l f o =
    let si = lacks_more sign b bs (ap (has sign) (sym is) ∙ s) in
    let br = lacks_more 60 b bs (ap (has 60) (sym is) ∙ l) in
    let se = lacks_more 59 b bs (ap (has 59) (sym is) ∙ f) in
    let free = both (not (is_closed b)) (list_all (λ c. not (is_closed c)) bs) (ap (list_all (λ c. not (is_closed c))) (sym is) ∙ o) in
    subst (λ (t : Bytes). Passes sign Front t Word) (sym is)
    (passes_more sign b Front Word Word bs (goes_on Front sign b si.0) (front_word b (differs is_ascii_alphabetic b 34 letter_no_quote letter) br.0 (open_solid b free.0)) (passes_word sign bs si.1 br.1 se.1))

bare_begins : (text : Bytes) → HasLetter text → is_open text ≡ true → BeginsSolid text
unfolding is_open
bare_begins text (b, bs, letter, is) o = (b, bs, open_solid b (both (not (is_closed b)) (list_all (λ c. not (is_closed c)) bs) (ap (list_all (λ c. not (is_closed c))) (sym is) ∙ o)).0, is)

bare_ends : (text : Bytes) → HasLetter text → is_open text ≡ true → EndsSolid text
unfolding is_open
bare_ends text (b, bs, letter, is) o = class_ends (λ c. not (is_closed c)) open_solid text (ap (λ l. length l == 0) is ∙ positive (length bs)) o

bare_quote : (text : Bytes) → HasLetter text → begins 34 text ≡ false
bare_quote text (b, bs, letter, is) = ap (begins 34) is ∙ begins_more 34 b bs ∙ differs is_ascii_alphabetic b 34 letter_no_quote letter

bare_read : (text : Bytes) → begins 34 text ≡ false → has 60 text ≡ false → named_in text ≡ Some (None, text)
unfolding named_in
bare_read text q l =
    ap (λ c. cond c (option_and_then (quoted_named text) (quoted_end 0 text)) (option_map_or (token_named (trimmed (before 60 text))) (after 60 text) (Some (None, text)))) q
    ∙ ap (λ o. option_map_or (token_named (trimmed (before 60 text))) o (Some (None, text))) (after_none 60 text l)

listed_true : (listed t : Bool) → (listed && t) ≡ false → listed ≡ true → t ≡ false
listed_true true t h e = h
listed_true false t h e = absurd (false≢true e)

bare_core : (listed : Bool) (text : Bytes) (uri : Uri) → IsUriSpelled text uri → has 59 text ≡ false → (listed && has 44 text) ≡ false → Core listed text None text
bare_core listed text uri spelled semi comma =
    let free = uri_is_open text uri spelled in
    let letter = uri_letter text uri (spelled_is_read text uri spelled) in
    let lacks = closed_lacks text free in
    record {
      core = text;
      to = Word;
      padded = itself_padded text;
      solid = solid_is_trimmed text (bare_begins text letter free) (bare_ends text letter free);
      read = bare_read text (bare_quote text letter) lacks.0;
      ends = bare_passes 59 text letter semi lacks.0 semi free;
      whole = λ l. bare_passes 44 text letter (listed_true listed (has 44 text) comma l) lacks.0 semi free;
      behind = blanks_in_word;
      outside = outside_word;
      semicolon = params_semicolon.1;
    }

-- ## Addresses

-- a first part with its blanks
record Head (listed : Bool) (first : Bytes) (address : Address) : Type 0 where
  to : Scan
  read : address_with first address.params ≡ Some address
  ends : Passes 59 Front first to
  whole : listed ≡ true → Passes 44 Front first to
  outside : is_outside to ≡ true
  semicolon : past to 59 ≡ Params

with_read : (first core : Bytes) (address : Address) (uri : Bytes) → trimmed first ≡ core → named_in core ≡ Some (address.display, uri) → uri_of uri ≡ Ok address.uri → address_with first address.params ≡ Some address
unfolding address_with with_uri
with_read first core address uri t n u =
    ap (λ l. option_and_then (with_uri address.params) (named_in l)) t ∙ ap (option_and_then (with_uri address.params)) n
    ∙ ap (λ r. option_map (λ v. record { display = address.display; uri = v; params = address.params }) (result_ok r)) u

padded_passes : (sign : ℕ) (to : Scan) (inner first : Bytes) → IsCut sign → Padded inner first → Passes sign Front inner to → ((back : Bytes) → IsBlanks back → Passes sign to back to) → Passes sign Front first to
padded_passes sign to inner first s (f, b, fb, bb, is) h behind =
    subst (λ (t : Bytes). Passes sign Front t to) (sym is) (passes_joined sign Front Front to f (inner ++ b) (passes_front sign f s fb) (passes_joined sign Front to to inner b h (behind b bb)))

head_of : (listed : Bool) (inner first uri : Bytes) (address : Address) → Core listed inner address.display uri → uri_of uri ≡ Ok address.uri → Padded inner first → Head listed first address
head_of listed inner first uri address c u pad = record {
  to = c.to;
  read = with_read first c.core address uri (padded_is_trimmed c.core first (padded_twice c.core inner first c.padded pad) c.solid) c.read u;
  ends = padded_passes 59 c.to inner first semicolon_cut pad c.ends (λ back b. c.behind 59 back semicolon_cut b);
  whole = λ l. padded_passes 44 c.to inner first comma_cut pad (c.whole l) (λ back b. c.behind 44 back comma_cut b);
  outside = c.outside;
  semicolon = c.semicolon;
}

named_head : (listed : Bool) (inner first : Bytes) (address : Address) → IsNamedSpelled inner address → Padded inner first → Head listed first address
unfolding bracketed
named_head listed inner first address (display, gap, uri, g, spelled, is) pad =
    let lacks = closed_lacks uri (uri_is_open uri address.uri spelled) in
    let core = named_core listed address.display gap uri display g lacks.1 in
    head_of listed inner first uri address (subst (λ (t : Bytes). Core listed t address.display uri) (sym is) core) (spelled_is_read uri address.uri spelled) pad

bare_head : (listed : Bool) (inner first : Bytes) (address : Address) → IsBareSpelled listed inner address → Padded inner first → Head listed first address
bare_head listed inner first address (none, spelled, semi, comma) pad =
    head_of listed inner first inner address (subst (λ (d : Option Bytes). Core listed inner d inner) (sym none) (bare_core listed inner address.uri spelled semi comma)) (spelled_is_read inner address.uri spelled) pad

head_is : (listed : Bool) (inner first : Bytes) (address : Address) → IsNamedSpelled inner address ⊎ IsBareSpelled listed inner address → Padded inner first → Head listed first address
head_is listed inner first address (inl named) pad = named_head listed inner first address named pad
head_is listed inner first address (inr bare) pad = bare_head listed inner first address bare pad

-- a text that spells an address is read as it
pub address_is_read : (listed : Bool) (text : Bytes) (address : Address) → IsAddressIn listed text address → address_of text ≡ Some address
unfolding address_of address_in
address_is_read listed text address (inner, first, rest, form, pad, params, is) =
    let head = head_is listed inner first address form pad in
    let parts = params_are_read address.params rest first Front head.to params head.ends head.outside in
    ap (λ l. address_in (address_parts l)) is ∙ ap address_in parts.1 ∙ ap (option_and_then (address_with first)) parts.2 ∙ head.read

-- ## Lists

semicolon_first : (text : Bytes) → Passes 44 Params (59 ∷ text) Params → Passes 44 Params text Params
unfolding unparted through past past_params is_part_end is_outside
semicolon_first text h = h

led_part : (to : Scan) (params : List Param) (text : Bytes) → is_outside to ≡ true → past to 59 ≡ Params → AreParamsSpelled text params → IsPart 44 to text
unfolding AreLed
led_part to [] text o p h = (to, subst (λ (t : Bytes). Passes 44 to t to) (sym h) (passes_none 44 to), o)
led_part to (param ∷ params) text o p (item, rest, spells, more, is) =
    let all : Passes 44 Params (59 ∷ (item ++ rest)) Params = subst (λ (t : Bytes). Passes 44 Params t Params) is (params_pass (param ∷ params) text (item, rest, spells, more, is)) in
    (Params, subst (λ (t : Bytes). Passes 44 to t Params) (sym is) (passes_more 44 59 to Params Params (item ++ rest) (goes_on to 44 59 refl) p (semicolon_first (item ++ rest) all)), outside_params)

item_part : (text : Bytes) (address : Address) → IsAddressIn true text address → IsPart 44 Front text
item_part text address (inner, first, rest, form, pad, params, is) =
    let head = head_is true inner first address form pad in
    let tail = led_part head.to address.params rest head.outside head.semicolon params in
    (tail.0, subst (λ (t : Bytes). Passes 44 Front t tail.0) (sym is) (passes_joined 44 Front head.to tail.0 first rest (head.whole refl) tail.1), tail.2)

pub addresses_are_read : (text : Bytes) (addresses : List Address) → AreAddressesSpelled text addresses → addresses_of text ≡ Some addresses
unfolding addresses_of
addresses_are_read text addresses h = listed_is_read address_of (IsAddressIn true) 44 Front (λ item address spells. (item_part item address spells, address_is_read true item address spells)) text addresses h

-- ## Contact

star : Bytes
star = 42 ∷ []

star_passes : Passes 44 Front star Word × Passes 59 Front star Word
unfolding star past past_front is_blank unparted through is_part_end is_outside
star_passes = ((refl, refl), (refl, refl))

star_trimmed : trimmed star ≡ star
unfolding star trimmed trimmed_front trimmed_back is_blank
star_trimmed = refl

star_named : named_in star ≡ Some (None, star)
unfolding star begins has
star_named = bare_read (42 ∷ []) refl refl

star_no_uri : result_ok (uri_of star) ≡ None
unfolding star uri_of is_scheme before
star_no_uri = refl

no_params : params_of [] ≡ Some []
unfolding all_read
no_params = refl

star_part : (sign : ℕ) (text : Bytes) → IsCut sign → Padded star text → Passes sign Front star Word → Passes sign Front text Word
star_part sign text s pad h = padded_passes sign Word star text s pad h (λ back b. blanks_in_word sign back s b)

-- `*` is no address
star_no_address : (text : Bytes) → Padded star text → address_of text ≡ None
unfolding address_of address_in address_with with_uri
star_no_address text pad =
    ap address_in (parts_alone 59 Params Front Word text (star_part 59 text semicolon_cut pad star_passes.1)) ∙ ap (option_and_then (address_with text)) no_params
    ∙ ap (λ l. option_and_then (with_uri []) (named_in l)) (padded_is_trimmed star text pad star_trimmed) ∙ ap (option_and_then (with_uri [])) star_named
    ∙ ap (option_map (λ u. record { display = None; uri = u; params = [] })) star_no_uri

same_star : same_bytes star star ≡ true
unfolding star
same_star = refl

contact_is_read : (text : Bytes) (contact : Contact) → IsContactSpelled text contact → contact_of text ≡ Some contact
unfolding contact_of IsContactSpelled star
contact_is_read text Star h =
    ap (λ l. cond (same_bytes l star) (Some Star) (option_map At (address_of text))) (padded_is_trimmed star text h star_trimmed) ∙ ap (λ t. cond t (Some Star) (option_map At (address_of text))) same_star
contact_is_read text (At address) h =
    let read = address_is_read true text address h in
    elim (same_bytes (trimmed text) star) as (λ (t : Bool). same_bytes (trimmed text) star ≡ t → cond t (Some Star) (option_map At (address_of text)) ≡ Some (At address)) [
      | true ↦ λ e. absurd (none_some address (sym (star_no_address text (subst (λ (inner : Bytes). Padded inner text) (same_text (trimmed text) star e) (trimmed_is_padded text))) ∙ read))
      | false ↦ λ e. ap (option_map At) read
    ] refl

contact_part : (text : Bytes) (contact : Contact) → IsContactSpelled text contact → IsPart 44 Front text
unfolding IsContactSpelled star
contact_part text Star h = (Word, star_part 44 text comma_cut h star_passes.0, outside_word)
contact_part text (At address) h = item_part text address h

pub contacts_are_read : (text : Bytes) (contacts : List Contact) → AreContactsSpelled text contacts → contacts_of text ≡ Some contacts
unfolding contacts_of
contacts_are_read text contacts h = listed_is_read contact_of IsContactSpelled 44 Front (λ item contact spells. (contact_part item contact spells, contact_is_read item contact spells)) text contacts h
