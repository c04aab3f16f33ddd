-- What is read is spelled: header parameters and Vias.
use Rattle.std.proofs.Common.{◌≡◌, ℕ, suc, Bool, true, false, cond, not, Some, Result, Ok, Err, List, [], ◌∷◌, ◌++◌, ◌+◌, ◌&&◌, ◌==◌, ◌⊎◌, inl, inr, length, drop, refl, sym, ap, subst, ◌∙◌, append_assoc, arith}
use Rattle.std.specs.Prelude.{codes}
use Rattle.std.specs.List.{position_or_len, list_all}
use Rattle.std.specs.Option.{option_map_or}
use Rattle.std.specs.Result.{result_ok}
use Rattle.std.proofs.lemmas.Bool.{false≢true}
use Rattle.std.proofs.lemmas.Bool.Decides.{nat_tests}
use Rattle.std.proofs.lemmas.List.{take-append-drop}
use Rattle.sc_tokens.specs.Names.{same_bytes}
use Rattle.sc_tokens.specs.Tokens.{is_blank, is_token}
use Rattle.sc_value.specs.declared.parts.Param.{Param}
use Rattle.sc_value.specs.declared.parts.Via.{Via}
use Rattle.sc_syntax.specs.declared.scan.Scan.TheVariants.{Params}
use Rattle.sc_tokens.specs.Bytes.{Bytes}
use Rattle.sc_tokens.specs.Cuts.{before, after}
use Rattle.sc_tokens.specs.Hosts.{begins, is_host_name, is_host}
use Rattle.sc_syntax.specs.UriParts.{Fault, sent_at}
use Rattle.sc_tokens.specs.Blanks.{trimmed_front, trimmed_back, without_blanks as trimmed, first_word, behind_word}
use Rattle.sc_tokens.specs.HeaderTokens.{is_param_text}
use Rattle.sc_syntax.specs.Parameters.{param_in, param_of, params_of}
use Rattle.sc_syntax.specs.Vias.{behind_slash, behind_version, hop_in, via_with, via_in, via_of, vias_of}
use Rattle.sc_syntax.specs.SpelledUris.{behind_sign as led}
use Rattle.sc_value.specs.ParamRules.{IsHeaderParam}
use Rattle.sc_syntax.specs.SpelledParts.{IsBlanks, Padded, header_param, IsParamSpelled, AreParamsSpelled}
use Rattle.sc_syntax.specs.SpelledVias.{IsHopSpelled, IsViaSpelled, AreViasSpelled}
use Rattle.sc_syntax.proofs.CutLaws.{some_same, none_some}
use Rattle.sc_syntax.proofs.PartLaws.{led_text, sent_spelled}
use Rattle.sc_syntax.proofs.BlankLaws.{both, and_true, blanks_append, front_more, trimmed_is_padded}
use Rattle.sc_syntax.proofs.ListedLaws.{if_some, map_some, then_some, same_text, glued, unparted, first_unparted, parts_text, some_part, led_is_spelled, listed_is_spelled}

-- ## Parameters

param_is : (text : Bytes) (param : Param) → param_in text ≡ Some param → IsHeaderParam param × (header_param param ≡ text)
unfolding param_in header_param
param_is text param h =
    let is = if_some (is_token (before 61 text) && option_map_or is_param_text (after 61 text) true) _ param h in
    subst (λ (p : Param). IsHeaderParam p × (p.name ++ led 61 p.value ≡ text)) (some_same _ param is.1) (both (is_token (before 61 text)) (option_map_or is_param_text (after 61 text) true) is.0, led_text 61 text)

pub param_is_spelled : (text : Bytes) (param : Param) → param_of text ≡ Some param → IsParamSpelled text param
unfolding param_of
param_is_spelled text param h = let is = param_is (trimmed text) param h in (is.0, subst (λ (inner : Bytes). Padded inner text) (sym is.1) (trimmed_is_padded text))

pub params_are_spelled : (texts : List Bytes) (params : List Param) → list_all (unparted 59 Params) texts ≡ true → params_of texts ≡ Some params → AreParamsSpelled (glued 59 texts) params
params_are_spelled texts params q h = led_is_spelled param_of IsParamSpelled 59 Params (λ text param _ is. param_is_spelled text param is) texts params q h

-- ## Words

-- behind a first word nothing stands, or a blank
word_end : (text : Bytes) → (drop (position_or_len is_blank text) text ≡ []) ⊎ ((c : ℕ) × (cs : Bytes) × (is_blank c ≡ true) × (drop (position_or_len is_blank text) text ≡ c ∷ cs))
word_end [] = inl refl
word_end (b ∷ bs) = elim (is_blank b) as (λ (t : Bool). is_blank b ≡ t → (drop (cond (not t) (1 + position_or_len is_blank bs) 0) (b ∷ bs) ≡ []) ⊎ ((c : ℕ) × (cs : Bytes) × (is_blank c ≡ true) × (drop (cond (not t) (1 + position_or_len is_blank bs) 0) (b ∷ bs) ≡ c ∷ cs))) [
  | true ↦ λ e. inr (b, bs, e, refl)
  | false ↦ λ e. let one : ◌≡◌ {A = ℕ} (1 + position_or_len is_blank bs) (suc (position_or_len is_blank bs)) = omega arith in
      subst (λ (n : ℕ). (drop n (b ∷ bs) ≡ []) ⊎ ((c : ℕ) × (cs : Bytes) × (is_blank c ≡ true) × (drop n (b ∷ bs) ≡ c ∷ cs))) (sym one) (word_end bs)
] refl

-- what stands behind a first word: a gap, the rest, blanks
abbrev HasGap : Bytes → Bytes → Type 0
HasGap rest text = (gap back : Bytes) × IsBlanks gap × ((length gap == 0) ≡ false) × IsBlanks back × (text ≡ gap ++ (rest ++ back))

not_empty : (n : ℕ) → (suc n == 0) ≡ false
not_empty n = grind (arith, nat_tests)

gap_first : (c : ℕ) (cs : Bytes) → is_blank c ≡ true → HasGap (trimmed (c ∷ cs)) (c ∷ cs)
unfolding trimmed
gap_first c cs h =
    let p = trimmed_is_padded cs in
    subst (λ (rest : Bytes). HasGap rest (c ∷ cs)) (ap trimmed_back (sym (front_more c cs h)))
    (c ∷ p.0, p.1, and_true (is_blank c) (list_all is_blank p.0) h p.2, not_empty (length p.0), p.3, ap (λ l. c ∷ l) p.4)

pub trimmed_none : trimmed [] ≡ []
unfolding trimmed trimmed_back trimmed_front
trimmed_none = refl

pub word_gap : (text : Bytes) → (behind_word text ≡ []) ⊎ HasGap (behind_word text) (drop (position_or_len is_blank text) text)
unfolding behind_word
word_gap text = elim (word_end text) as (λ _. (trimmed (drop (position_or_len is_blank text) text) ≡ []) ⊎ HasGap (trimmed (drop (position_or_len is_blank text) text)) (drop (position_or_len is_blank text) text)) [
  | inl none ↦ inl (ap trimmed none ∙ trimmed_none)
  | inr is ↦ inr (subst (λ (l : Bytes). HasGap (trimmed l) l) (sym is.3) (gap_first is.0 is.1 is.2))
]

pub word_text : (text : Bytes) → text ≡ first_word text ++ drop (position_or_len is_blank text) text
unfolding first_word
word_text text = sym (take-append-drop (position_or_len is_blank text) text)

-- ## Host and port

no_host : is_host [] ≡ false
unfolding is_host begins is_host_name
no_host = refl

-- a host isn't empty, so nothing that begins with one is
pub host_there : (host port text : Bytes) → is_host host ≡ true → text ≡ host ++ port → ¬ (text ≡ [])
host_there [] port text h is none = absurd (false≢true (sym no_host ∙ h))
host_there (b ∷ bs) port text h is none = let bad : ◌≡◌ {A = Bytes} [] (b ∷ (bs ++ port)) = sym none ∙ is in cc

pub result_is : {A : Type 0} (r : Result A Fault) (a : A) → result_ok r ≡ Some a → r ≡ Ok a
result_is (Ok b) a h = ap Ok (some_same b a h)
result_is (Err fault) a h = absurd (none_some a h)

-- ## Vias

slash_text : (word text rest : Bytes) → behind_slash word text ≡ Some rest → (front : Bytes) × Padded word front × (text ≡ front ++ 47 ∷ rest)
unfolding behind_slash led
slash_text word text rest h =
    let is = if_some (same_bytes (trimmed (before 47 text)) word) (after 47 text) rest h in (
      before 47 text,
      subst (λ (inner : Bytes). Padded inner (before 47 text)) (same_text (trimmed (before 47 text)) word is.0) (trimmed_is_padded (before 47 text)),
      sym (led_text 47 text) ∙ ap (λ o. before 47 text ++ led 47 o) is.1,
    )

version_text : (text rest : Bytes) → behind_version text ≡ Some rest → (name version : Bytes) × Padded (codes "SIP") name × Padded (codes "2.0") version × (text ≡ name ++ 47 ∷ (version ++ 47 ∷ rest))
unfolding behind_version
version_text text rest h =
    let is = then_some (behind_slash (codes "2.0")) (behind_slash (codes "SIP") text) rest h in
    let one = slash_text (codes "SIP") text is.0 is.1 in
    let two = slash_text (codes "2.0") is.0 rest is.2 in
    (one.0, two.0, one.1, two.1, one.2 ∙ ap (λ l. one.0 ++ 47 ∷ l) two.2)

-- a text that spells transport, host and port, before blanks
abbrev IsHop : Bytes → List Param → Via → Type 0
IsHop text params via = (inner back : Bytes) × IsHopSpelled inner via × IsBlanks back × (params ≡ via.params) × (text ≡ inner ++ back)

rejoin : (word gap sent back : Bytes) → word ++ (gap ++ (sent ++ back)) ≡ (word ++ (gap ++ sent)) ++ back
rejoin word gap sent back = ap (λ l. word ++ l) (sym (append_assoc gap sent back)) ∙ sym (append_assoc word (gap ++ sent) back)

hop_is : (text : Bytes) (params : List Param) (via : Via) → hop_in text params ≡ Some via → IsHop text params via
unfolding hop_in
hop_is text params via h =
    let word = first_word text in
    let tests = if_some (is_token word) _ via h in
    let sent = map_some _ (result_ok (sent_at 0 (behind_word text))) via tests.1 in
    let host = sent_spelled 0 (behind_word text) sent.0 (result_is (sent_at 0 (behind_word text)) sent.0 sent.1) in
    elim (word_gap text) as (λ _. IsHop text params via) [
      | inl none ↦ absurd (host_there sent.0.0 host.1 (behind_word text) host.0 host.3 none)
      | inr is ↦ subst (λ (v : Via). IsHop text params v) sent.2 (
        word ++ (is.0 ++ (sent.0.0 ++ host.1)),
        is.1,
        (tests.0, host.0, is.0, host.1, is.2, is.3, host.2, refl),
        is.4,
        refl,
        word_text text ∙ ap (λ l. word ++ l) is.5 ∙ ap (λ l. word ++ (is.0 ++ (l ++ is.1))) host.3 ∙ rejoin word is.0 (sent.0.0 ++ host.1) is.1,
      )
    ]

-- a part that spells a Via without its parameters
abbrev IsFirst : Bytes → List Param → Via → Type 0
IsFirst text params via =
    (name version inner hop : Bytes) × Padded (codes "SIP") name × Padded (codes "2.0") version × IsHopSpelled inner via × Padded inner hop × (params ≡ via.params) × (text ≡ name ++ 47 ∷ (version ++ 47 ∷ hop))

first_is : (text : Bytes) (params : List Param) (via : Via) → via_with text params ≡ Some via → IsFirst text params via
unfolding via_with
first_is text params via h =
    let behind = then_some _ (behind_version text) via h in
    let texts = version_text text behind.0 behind.1 in
    let hop = hop_is (trimmed behind.0) params via behind.2 in
    let pad = trimmed_is_padded behind.0 in
    let whole = pad.4 ∙ ap (λ l. pad.0 ++ (l ++ pad.1)) hop.5 ∙ ap (λ l. pad.0 ++ l) (append_assoc hop.0 hop.1 pad.1) in
    (texts.0, texts.1, hop.0, behind.0, texts.2, texts.3, hop.2, (pad.0, hop.1 ++ pad.1, pad.2, blanks_append hop.1 pad.1 hop.3 pad.3, whole), hop.4, texts.4)

put_together : (name version hop rest : Bytes) → (name ++ 47 ∷ (version ++ 47 ∷ hop)) ++ rest ≡ name ++ 47 ∷ (version ++ 47 ∷ (hop ++ rest))
put_together name version hop rest = append_assoc name (47 ∷ (version ++ 47 ∷ hop)) rest ∙ ap (λ l. name ++ 47 ∷ l) (append_assoc version (47 ∷ hop) rest)

-- a text that is read as a Via spells it
pub via_is_spelled : (text : Bytes) (via : Via) → via_of text ≡ Some via → IsViaSpelled text via
unfolding via_of via_in
via_is_spelled text via h =
    let part = some_part text Params Params 59 in
    let is = then_some (via_with part.0) (params_of part.1) via (ap via_in (sym part.2) ∙ h) in
    let first = first_is part.0 is.0 via is.2 in
    let whole = parts_text text part.0 part.1 Params Params 59 part.2 ∙ ap (λ l. l ++ glued 59 part.1) first.9 ∙ put_together first.0 first.1 first.3 (glued 59 part.1) in
    (first.0, first.1, first.2, first.3, glued 59 part.1, first.4, first.5, first.6, first.7, subst (λ (ps : List Param). AreParamsSpelled (glued 59 part.1) ps) first.8 (params_are_spelled part.1 is.0 (first_unparted text part.0 part.1 Params Params 59 part.2).1 is.1), whole)

pub vias_are_spelled : (text : Bytes) (vias : List Via) → vias_of text ≡ Some vias → AreViasSpelled text vias
unfolding vias_of
vias_are_spelled text vias h = listed_is_spelled via_of IsViaSpelled 44 Params (λ item via _ is. via_is_spelled item via is) text vias h
