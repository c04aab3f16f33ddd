-- What is read is spelled: addresses.
use Rattle.std.proofs.Common.{◌≡◌, ℕ, Bool, true, false, cond, not, Some, List, [], ◌∷◌, ◌++◌, ◌&&◌, ◌||◌, ◌==◌, ◌⊎◌, inl, inr, refl, sym, ap, subst, ◌∙◌, arith}
use Rattle.std.specs.List.{list_all}
use Rattle.std.specs.Option.{option_map}
use Rattle.std.specs.Result.{result_ok}
use Rattle.std.proofs.lemmas.Bool.{false≢true}
use Rattle.std.proofs.lemmas.Bool.Decides.{nat_tests}
use Rattle.sc_tokens.specs.Names.{same_bytes}
use Rattle.sc_tokens.specs.Tokens.{is_blank}
use Rattle.sc_value.specs.declared.parts.Param.{Param}
use Rattle.sc_value.specs.declared.parts.Address.{Address}
use Rattle.sc_value.specs.declared.parts.Contact.{Contact}
use Rattle.sc_value.specs.declared.parts.Contact.TheVariants.{Star, At}
use Rattle.sc_syntax.specs.declared.scan.Scan.{Scan}
use Rattle.sc_syntax.specs.declared.scan.Scan.TheVariants.{Front, Word, Params}
use Rattle.sc_tokens.specs.Bytes.{Bytes}
use Rattle.sc_tokens.specs.Cuts.{has}
use Rattle.sc_tokens.specs.Hosts.{begins}
use Rattle.sc_syntax.specs.Uris.{uri_of}
use Rattle.sc_tokens.specs.Blanks.{trimmed_front, without_blanks as trimmed}
use Rattle.sc_syntax.specs.Scanning.{is_outside, past_front, past_word, past, is_part_end}
use Rattle.sc_syntax.specs.Parameters.{params_of}
use Rattle.sc_syntax.specs.Addresses.{Named, named_in, with_uri, address_with, address_in, address_of, addresses_of, contact_of, contacts_of}
use Rattle.sc_syntax.specs.SpelledUris.{IsUriSpelled}
use Rattle.sc_syntax.specs.SpelledParts.{IsBlanks, Padded, AreParamsSpelled}
use Rattle.sc_syntax.specs.SpelledAddresses.{IsNamedSpelled, IsBareSpelled, IsAddressIn, IsAddressSpelled, AreAddressesSpelled, IsContactSpelled, AreContactsSpelled}
use Rattle.sc_syntax.proofs.CutLaws.{some_same}
use Rattle.sc_syntax.proofs.PartLaws.{lacks_all}
use Rattle.sc_syntax.proofs.UriLaws.{read_is_spelled}
use Rattle.sc_syntax.proofs.BlankLaws.{both, front_more, front_here, trimmed_is_padded, trimmed_behind, padded_twice}
use Rattle.sc_syntax.proofs.ListedLaws.{map_some, then_some, same_text, glued, parts_text, some_part, unparted, first_unparted, unparted_front, listed_is_spelled}
use Rattle.sc_syntax.proofs.ViaLaws.{result_is, params_are_spelled}
use Rattle.sc_syntax.proofs.DisplayLaws.{IsUnnamed, named_is}
use Rattle.sc_syntax.proofs.ClassLaws.{neither, both_false, has_more, has_append, differs}

-- ## Bare URIs have no separator

not_both : (a b : Bool) → (not a && b) ≡ true → (a ≡ false) × (b ≡ true)
not_both true b h = absurd (false≢true h)
not_both false b h = (refl, h)

-- a semicolon parts the text, or none stands in it
abbrev semicolon_free : ℕ → Bytes → Bool
semicolon_free sign text = (sign == 59) || not (has 59 text)

same_sign : (b sign : ℕ) → (sign == 59) ≡ true → (b == sign) ≡ false → (b == 59) ≡ false
same_sign b sign h g = grind (arith, nat_tests, h, g)

free_by : (b sign : ℕ) (rest t : Bool) → (sign == 59) ≡ t → (b == sign) ≡ false → (t || not ((b == 59) || rest)) ≡ true → ((b == 59) ≡ false) × ((t || not rest) ≡ true)
free_by b sign rest true h g f = (same_sign b sign h g, refl)
free_by b sign rest false h g f = let is = not_or (b == 59) rest f in (is.0, is.1)
  where
    not_or : (x y : Bool) → not (x || y) ≡ true → (x ≡ false) × (not y ≡ true)
    not_or true y e = absurd (false≢true e)
    not_or false y e = (refl, e)

free_step : (b sign : ℕ) (bs : Bytes) → (b == sign) ≡ false → semicolon_free sign (b ∷ bs) ≡ true → ((b == 59) ≡ false) × (semicolon_free sign bs ≡ true)
unfolding has
free_step b sign bs g f = free_by b sign (has 59 bs) (sign == 59) refl g f

has_none : (sign : ℕ) → has sign [] ≡ false
unfolding has
has_none sign = refl

pub word_step : (b : ℕ) → (b == 60) ≡ false → (b == 59) ≡ false → past Word b ≡ Word
unfolding past past_word
word_step b g h = rw (g, h) refl

pub front_blank : (b : ℕ) → (b == 34) ≡ false → (b == 60) ≡ false → is_blank b ≡ true → past Front b ≡ Front
unfolding past past_front
front_blank b f g h = rw (f, g, h) refl

pub front_word : (b : ℕ) → (b == 34) ≡ false → (b == 60) ≡ false → is_blank b ≡ false → past Front b ≡ Word
unfolding past past_front
front_word b f g h = rw (f, g, h) refl

unparted_step : (b sign : ℕ) (bs : Bytes) (at : Scan) → is_outside at ≡ true → unparted sign at (b ∷ bs) ≡ true → ((b == sign) ≡ false) × (unparted sign (past at b) bs ≡ true)
unfolding unparted is_part_end
unparted_step b sign bs at o h = not_both (b == sign) (unparted sign (past at b) bs) (ap (λ t. not (t && (b == sign)) && unparted sign (past at b) bs) (sym o) ∙ h)

pub outside_word : is_outside Word ≡ true
unfolding is_outside
outside_word = refl

outside_front : is_outside Front ≡ true
unfolding is_outside
outside_front = refl

word_clean : (text : Bytes) (sign : ℕ) → unparted sign Word text ≡ true → has 60 text ≡ false → semicolon_free sign text ≡ true → has sign text ≡ false
word_clean [] sign u l f = has_none sign
word_clean (b ∷ bs) sign u l f =
    let un = unparted_step b sign bs Word outside_word u in
    let br = neither (b == 60) (has 60 bs) (sym (has_more 60 b bs) ∙ l) in
    let fr = free_step b sign bs un.0 f in
    has_more sign b bs ∙ both_false (b == sign) (has sign bs) un.0 (word_clean bs sign (ap (λ s. unparted sign s bs) (sym (word_step b br.0 fr.0)) ∙ un.1) br.1 fr.1)

pub begins_more : (sign b : ℕ) (bs : Bytes) → begins sign (b ∷ bs) ≡ (b == sign)
unfolding begins
begins_more sign b bs = refl

quote_no_blank : (b : ℕ) → (b == 34) ≡ true → is_blank b ≡ false
unfolding is_blank
quote_no_blank b h = let is : b ≡ 34 = grind (arith, nat_tests, h) in rw is refl

unquoted : (b : ℕ) (bs : Bytes) → begins 34 (trimmed_front (b ∷ bs)) ≡ false → (b == 34) ≡ false
unquoted b bs h = elim (b == 34) as (λ (t : Bool). (b == 34) ≡ t → t ≡ false) [
  | true ↦ λ e. sym (sym h ∙ ap (begins 34) (front_here b bs (quote_no_blank b e)) ∙ begins_more 34 b bs ∙ e)
  | false ↦ λ e. refl
] refl

front_clean : (text : Bytes) (sign : ℕ) → unparted sign Front text ≡ true → begins 34 (trimmed_front text) ≡ false → has 60 text ≡ false → semicolon_free sign text ≡ true → has sign text ≡ false
front_clean [] sign u q l f = has_none sign
front_clean (b ∷ bs) sign u q l f =
    let un = unparted_step b sign bs Front outside_front u in
    let br = neither (b == 60) (has 60 bs) (sym (has_more 60 b bs) ∙ l) in
    let fr = free_step b sign bs un.0 f in
    let qu = unquoted b bs q in
    has_more sign b bs ∙ both_false (b == sign) (has sign bs) un.0 (elim (is_blank b) as (λ (t : Bool). is_blank b ≡ t → has sign bs ≡ false) [
      | true ↦ λ e. front_clean bs sign (ap (λ s. unparted sign s bs) (sym (front_blank b qu br.0 e)) ∙ un.1) (ap (begins 34) (sym (front_more b bs e)) ∙ q) br.1 fr.1
      | false ↦ λ e. word_clean bs sign (ap (λ s. unparted sign s bs) (sym (front_word b qu br.0 e)) ∙ un.1) br.1 fr.1
    ] refl)

-- ## Blanks hold no sign

pub blank_differs : (b sign : ℕ) → is_blank sign ≡ false → is_blank b ≡ true → (b == sign) ≡ false
blank_differs b sign h g = differs is_blank b sign h g

pub blanks_lack : (text : Bytes) (sign : ℕ) → is_blank sign ≡ false → IsBlanks text → has sign text ≡ false
blanks_lack [] sign h g = has_none sign
blanks_lack (b ∷ bs) sign h g = let is = both (is_blank b) (list_all is_blank bs) g in has_more sign b bs ∙ both_false (b == sign) (has sign bs) (blank_differs b sign h is.0) (blanks_lack bs sign h is.1)

-- what a text lacks, the text between its blanks lacks
inner_lacks : (sign : ℕ) (inner text : Bytes) → Padded inner text → has sign text ≡ false → has sign inner ≡ false
inner_lacks sign inner text (f, b, fb, bb, is) h =
    let outer = neither (has sign f) (has sign (inner ++ b)) (sym (ap (has sign) is ∙ has_append sign f (inner ++ b)) ∙ h) in
    (neither (has sign inner) (has sign b) (sym (has_append sign inner b) ∙ outer.1)).0

-- and the other way round
pub outer_lacks : (sign : ℕ) (inner text : Bytes) → is_blank sign ≡ false → Padded inner text → has sign inner ≡ false → has sign text ≡ false
outer_lacks sign inner text blank (f, b, fb, bb, is) h =
    ap (has sign) is ∙ has_append sign f (inner ++ b) ∙ both_false (has sign f) (has sign (inner ++ b)) (blanks_lack f sign blank fb)
    (has_append sign inner b ∙ both_false (has sign inner) (has sign b) h (blanks_lack b sign blank bb))

begins_behind : (sign : ℕ) (text back : Bytes) → is_blank sign ≡ false → begins sign text ≡ false → IsBlanks back → begins sign (text ++ back) ≡ false
begins_behind sign [] [] blank h g = h
begins_behind sign [] (b ∷ bs) blank h g = begins_more sign b bs ∙ blank_differs b sign blank (both (is_blank b) (list_all is_blank bs) g).0
begins_behind sign (b ∷ bs) back blank h g = begins_more sign b (bs ++ back) ∙ sym (begins_more sign b bs) ∙ h

not_blank_quote : is_blank 34 ≡ false
unfolding is_blank
not_blank_quote = refl

not_blank_bracket : is_blank 60 ≡ false
unfolding is_blank
not_blank_bracket = refl

-- ## Addresses

-- a part that spells an address without its parameters
abbrev IsHead : Bool → Bytes → List Param → Address → Type 0
IsHead listed first params address = (inner : Bytes) × (IsNamedSpelled inner address ⊎ IsBareSpelled listed inner address) × Padded inner first × (params ≡ address.params)

listed_lacks : (listed : Bool) (t : Bool) → (listed ≡ true → t ≡ false) → (listed && t) ≡ false
listed_lacks true t h = h refl
listed_lacks false t h = refl

module _ (listed : Bool) (first : Bytes) (params : List Param) (address : Address) (ends : unparted 59 Front first ≡ true) (whole : listed ≡ true → unparted 44 Front first ≡ true) where
  bare_lacks : (named : Named) → IsUnnamed (trimmed first) named → (has 59 (trimmed first) ≡ false) × ((listed && has 44 (trimmed first)) ≡ false)
  bare_lacks named bare =
      let pad = trimmed_is_padded first in
      let behind = trimmed_behind first in
      let unquoted = ap (begins 34) behind.2 ∙ begins_behind 34 (trimmed first) behind.0 not_blank_quote bare.0 behind.1 in
      let open_free = outer_lacks 60 (trimmed first) first not_blank_bracket pad (lacks_all 60 (trimmed first) bare.1) in
      let no_semicolon = front_clean first 59 ends unquoted open_free refl in (
        inner_lacks 59 (trimmed first) first pad no_semicolon,
        listed_lacks listed (has 44 (trimmed first)) (λ l. inner_lacks 44 (trimmed first) first pad (front_clean first 44 (whole l) unquoted open_free (ap not no_semicolon))),
      )

  head_is : address_with first params ≡ Some address → IsHead listed first params address
  unfolding address_with with_uri
  head_is h =
      let named = then_some (with_uri params) (named_in (trimmed first)) address h in
      let uri = map_some _ (result_ok (uri_of named.0.1)) address named.2 in
      let pad = trimmed_is_padded first in
      let spelled = read_is_spelled named.0.1 uri.0 (result_is (uri_of named.0.1) uri.0 uri.1) in
      subst (λ (a : Address). IsHead listed first params a) uri.2 (elim (named_is (trimmed first) named.0 named.1) as (λ _. IsHead listed first params (record { display = named.0.0; uri = uri.0; params = params })) [
        | inl name ↦ (name.0, inl (name.3, name.1, named.0.1, name.4, spelled, name.5), padded_twice name.0 (trimmed first) first name.2 pad, refl)
        | inr bare ↦
            let lacks = bare_lacks named.0 bare in
            let same : ◌≡◌ {A = Bytes} named.0.1 (trimmed first) = ap (λ (n : Named). n.1) (sym bare.2) in
            (trimmed first, inr (ap (λ (n : Named). n.0) (sym bare.2), subst (λ (t : Bytes). IsUriSpelled t uri.0) same spelled, lacks.0, lacks.1), pad, refl)
      ])

-- a text that is read as an address spells it; in a list no comma parts it
pub address_is_spelled : (listed : Bool) (text : Bytes) (address : Address) → (listed ≡ true → unparted 44 Front text ≡ true) → address_of text ≡ Some address → IsAddressIn listed text address
unfolding address_of address_in
address_is_spelled listed text address whole h =
    let part = some_part text Params Front 59 in
    let is = then_some (address_with part.0) (params_of part.1) address (ap address_in (sym part.2) ∙ h) in
    let clean = first_unparted text part.0 part.1 Params Front 59 part.2 in
    let joined = parts_text text part.0 part.1 Params Front 59 part.2 in
    let head = head_is listed part.0 is.0 address clean.0 (λ l. unparted_front part.0 (glued 59 part.1) 44 Front (ap (unparted 44 Front) (sym joined) ∙ whole l)) is.2 in
    (head.0, part.0, glued 59 part.1, head.1, head.2, subst (λ (ps : List Param). AreParamsSpelled (glued 59 part.1) ps) head.3 (params_are_spelled part.1 is.0 clean.1 is.1), joined)

pub one_address_is_spelled : (text : Bytes) (address : Address) → address_of text ≡ Some address → IsAddressSpelled text address
one_address_is_spelled text address h = address_is_spelled false text address (λ bad. absurd (false≢true bad)) h

pub addresses_are_spelled : (text : Bytes) (addresses : List Address) → addresses_of text ≡ Some addresses → AreAddressesSpelled text addresses
unfolding addresses_of
addresses_are_spelled text addresses h = listed_is_spelled address_of (IsAddressIn true) 44 Front (λ item address u is. address_is_spelled true item address (λ _. u) is) text addresses h

-- ## Contact

contact_is_spelled : (text : Bytes) (contact : Contact) → unparted 44 Front text ≡ true → contact_of text ≡ Some contact → IsContactSpelled text contact
unfolding contact_of IsContactSpelled
contact_is_spelled text contact u h = elim (same_bytes (trimmed text) (42 ∷ [])) as (λ (t : Bool). same_bytes (trimmed text) (42 ∷ []) ≡ t → cond t (Some Star) (option_map At (address_of text)) ≡ Some contact → IsContactSpelled text contact) [
  | true ↦ λ e g. subst (IsContactSpelled text) (some_same Star contact g) (subst (λ (inner : Bytes). Padded inner text) (same_text (trimmed text) (42 ∷ []) e) (trimmed_is_padded text))
  | false ↦ λ e g. let is = map_some At (address_of text) contact g in subst (IsContactSpelled text) is.2 (address_is_spelled true text is.0 (λ _. u) is.1)
] refl h

pub contacts_are_spelled : (text : Bytes) (contacts : List Contact) → contacts_of text ≡ Some contacts → AreContactsSpelled text contacts
unfolding contacts_of
contacts_are_spelled text contacts h = listed_is_spelled contact_of IsContactSpelled 44 Front contact_is_spelled text contacts h
