-- What is spelled keeps the rules, so what is read can be written and read again.
use Rattle.std.proofs.Common.{◌≡◌, ℕ, Bool, true, Option, Some, None, Result, Ok, Err, List, [], ◌∷◌, ◌++◌, ◌&&◌, ◌<◌, ◌^◌, ◌⊎◌, inl, inr, refl, sym, ap, subst, ◌∙◌, append_assoc, arith}
use Rattle.std.specs.Prelude.{IfSome, IfOk, nat_lt}
use Rattle.std.specs.List.{All}
use Rattle.std.specs.Option.{option_map_or}
use Rattle.sc_tokens.specs.Tokens.{is_one_line}
use Rattle.std.proofs.lemmas.Bool.Decides.{nat_tests}
use Rattle.std.proofs.lemmas.List.Elements.{All-cons}
use Rattle.sc_value.specs.declared.parts.Param.{Param}
use Rattle.sc_value.specs.declared.parts.Via.{Via}
use Rattle.sc_value.specs.declared.parts.Uri.{Uri}
use Rattle.sc_value.specs.declared.parts.Uri.TheVariants.{Sip, Other}
use Rattle.sc_value.specs.declared.parts.Address.{Address}
use Rattle.sc_value.specs.declared.parts.Contact.{Contact}
use Rattle.sc_value.specs.declared.parts.Contact.TheVariants.{Star, At}
use Rattle.sc_value.specs.declared.parts.CSeq.{CSeq}
use Rattle.sc_tokens.specs.Bytes.{Bytes}
use Rattle.sc_tokens.specs.Numbers.{is_digits, number_in, number_below}
use Rattle.sc_tokens.specs.UriTokens.{IsOtherSpelled}
use Rattle.sc_syntax.specs.SpelledUris.{IsPortSpelled, IsUriSpelled}
use Rattle.sc_syntax.specs.SpelledParts.{AreLed, AreListed, AreParamsSpelled}
use Rattle.sc_syntax.specs.SpelledVias.{IsViaSpelled}
use Rattle.sc_tokens.specs.HeaderTokens.{IsDisplay}
use Rattle.sc_syntax.specs.SpelledAddresses.{IsNamedSpelled, IsBareSpelled, IsAddressIn, IsContactSpelled}
use Rattle.sc_syntax.specs.SpelledSequences.{IsCSeqSpelled}
use Rattle.sc_syntax.proofs.CutLaws.{some_same}
use Rattle.sc_syntax.proofs.BlankLaws.{both}
use Rattle.sc_syntax.proofs.ListedLaws.{if_some}
use Rattle.sc_head_text.specs.declared.unread.Unread.{Unread}
use Rattle.sc_head_text.specs.Answers.{GivesSpelled}
use Rattle.sc_value.specs.SequenceValues.{IsCSeq}
use Rattle.sc_value.specs.ParamRules.{AreHeaderParams}
use Rattle.sc_value.specs.ViaValues.{IsVia}
use Rattle.sc_value.specs.AddressValues.{IsUri, IsAddress}
use Rattle.sc_value.specs.ContactRules.{IsContact}
use Rattle.sc_head_text.proofs.LineParts.{IsLine, split_line, padded_line}
use Rattle.sc_head_text.proofs.ReadValues.{param_held, display_line}

-- what holds of a spelled value holds of the one given
pub holds_of_given : {X : Type 0} (result : Result X Unread) (Spelled P : X → Type 0) → GivesSpelled result Spelled → ((x : X) → Spelled x → P x) → IfOk result P
holds_of_given (Ok x) Spelled P h all = all x h.0
holds_of_given (Err unread) Spelled P h all = tt

module _ {X : Type 0} (sign : ℕ) (Spells : Bytes → X → Type 0) (P : X → Type 0) (holds : (text : Bytes) (x : X) → IsLine text → Spells text x → P x) where
  led_all : (xs : List X) (text : Bytes) → IsLine text → AreLed sign Spells text xs → All P xs
  unfolding AreLed
  led_all [] text line h = λ k d below. absurd (omega (arith, below))
  led_all (x ∷ xs) text line (item, rest, spells, more, is) =
      let cut = split_line item rest (split_line (sign ∷ []) (item ++ rest) (ap is_one_line (sym is) ∙ line)).1 in All-cons P x xs (holds item x cut.0 spells) (led_all xs rest cut.1 more)

  pub listed_all : (xs : List X) (text : Bytes) → IsLine text → AreListed sign Spells text xs → All P xs
  unfolding AreListed
  listed_all [] text line h = absurd h
  listed_all (x ∷ xs) text line (item, rest, spells, more, is) =
      let cut = split_line item rest (ap is_one_line (sym is) ∙ line) in All-cons P x xs (holds item x cut.0 spells) (led_all xs rest cut.1 more)

-- ## Numbers

less : (n limit : ℕ) → nat_lt n limit ≡ true → n < limit
less n limit h = grind (arith, nat_tests, h)

pub is_below : (limit : ℕ) (text : Bytes) (n : ℕ) → number_below limit text ≡ Some n → n < limit
unfolding number_below
is_below limit text n h =
    let is = if_some (is_digits text && nat_lt (number_in text) limit) (Some (number_in text)) n h in
    subst (λ (k : ℕ). k < limit) (some_same (number_in text) n is.1) (less (number_in text) limit (both (is_digits text) (nat_lt (number_in text) limit) is.0).1)

port_kept : (text : Bytes) (port : Option ℕ) → IsPortSpelled text port → IfSome port (λ n. n < 65536)
unfolding IsPortSpelled
port_kept text None h = tt
port_kept text (Some port) (digits, is, whole) = is_below 65536 digits port is

pub cseq_kept : (text : Bytes) (cseq : CSeq) → IsCSeqSpelled text cseq → IsCSeq cseq
cseq_kept text cseq (inner, (method, digits, gap, number, g, some, is), pad) = record { number = is_below (2 ^ 31) digits cseq.number number; method = method }

-- ## Parameters and Vias

params_kept : (params : List Param) (text : Bytes) → IsLine text → AreParamsSpelled text params → AreHeaderParams params
unfolding AreLed AreHeaderParams
params_kept [] text line h = tt
params_kept (param ∷ params) text line (item, rest, spells, more, is) =
    let cut = split_line item rest (split_line (59 ∷ []) (item ++ rest) (ap is_one_line (sym is) ∙ line)).1 in (param_held item param spells cut.0, params_kept params rest cut.1 more)

regroup : (name version hop rest : Bytes) → name ++ 47 ∷ (version ++ 47 ∷ (hop ++ rest)) ≡ (name ++ 47 ∷ (version ++ 47 ∷ hop)) ++ rest
regroup name version hop rest = ap (λ l. name ++ 47 ∷ l) (sym (append_assoc version (47 ∷ hop) rest)) ∙ sym (append_assoc name (47 ∷ (version ++ 47 ∷ hop)) rest)

pub via_kept : (text : Bytes) (via : Via) → IsLine text → IsViaSpelled text via → IsVia via
via_kept text via line (name, version, inner, hop, rest, n, v, (token, host, gap, port, g, some, p, whole), pad, params, is) =
    let behind = (split_line (name ++ 47 ∷ (version ++ 47 ∷ hop)) rest (ap is_one_line (sym (is ∙ regroup name version hop rest)) ∙ line)).1 in
    record { transport = token; host = host; port = port_kept port via.port p; params = params_kept via.params rest behind params }

-- ## Addresses

uri_kept : (text : Bytes) (uri : Uri) → IsUriSpelled text uri → IsUri uri
unfolding IsUriSpelled IsUri
uri_kept text (Sip uri) (kept, scheme, port, same, p, is) = (kept, port_kept port uri.port p)
uri_kept text (Other other) h = subst (λ (t : Bytes). IsOtherSpelled t other) h.0 h

abbrev IsShown : Option Bytes → Type 0
IsShown display = IsDisplay display × (option_map_or is_one_line display true ≡ true)

none_shown : (display : Option Bytes) → display ≡ None → IsShown display
unfolding IsDisplay
none_shown display h = subst IsShown (sym h) (tt, refl)

form_kept : (listed : Bool) (inner : Bytes) (address : Address) → IsLine inner → IsNamedSpelled inner address ⊎ IsBareSpelled listed inner address → IsShown address.display × IsUri address.uri
form_kept listed inner address line (inl (display, gap, uri, g, spelled, is)) =
    ((display, display_line address.display (gap ++ 60 ∷ (uri ++ 62 ∷ [])) (ap is_one_line (sym is) ∙ line)), uri_kept uri address.uri spelled)
form_kept listed inner address line (inr (none, spelled, semi, comma)) = (none_shown address.display none, uri_kept inner address.uri spelled)

pub address_kept : (listed : Bool) (text : Bytes) (address : Address) → IsLine text → IsAddressIn listed text address → IsAddress address
address_kept listed text address line (inner, first, rest, form, pad, params, is) =
    let cut = split_line first rest (ap is_one_line (sym is) ∙ line) in
    let kept = form_kept listed inner address (padded_line inner first pad cut.0) form in
    record { display = kept.0.0; line = kept.0.1; uri = kept.1; params = params_kept address.params rest cut.1 params }

pub contact_kept : (text : Bytes) (contact : Contact) → IsLine text → IsContactSpelled text contact → IsContact contact
unfolding IsContactSpelled IsContact
contact_kept text Star line h = tt
contact_kept text (At address) line h = address_kept true text address line h
