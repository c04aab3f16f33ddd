-- What the parts of a value keep that was read.
use Rattle.std.proofs.Common.{◌≡◌, ℕ, true, Option, Some, None, List, [], ◌∷◌, ◌++◌, inl, inr, refl, sym, ap, subst, ◌∙◌}
use Rattle.std.specs.Prelude.{unwrap_or}
use Rattle.std.specs.Option.{option_map_or}
use Rattle.std.specs.Result.{result_ok}
use Rattle.sc_tokens.specs.Bytes.{Bytes}
use Rattle.sc_tokens.specs.Hosts.{is_host}
use Rattle.sc_tokens.specs.Tokens.{is_one_line}
use Rattle.sc_tokens.specs.HeaderTokens.{IsDisplay}
use Rattle.sc_value.specs.declared.parts.Param.{Param}
use Rattle.sc_value.specs.ParamRules.{IsLineParam, AreHeaderParams}
use Rattle.sc_syntax.specs.SpelledUris.{behind_sign as led}
use Rattle.sc_syntax.specs.SpelledParts.{header_param, IsParamSpelled}
use Rattle.sc_syntax.specs.UriParts.{sent_at}
use Rattle.sc_syntax.specs.Scanning.{with_first, all_read}
use Rattle.sc_syntax.specs.Parameters.{param_of, params_of}
use Rattle.sc_syntax.specs.Addresses.{Named, named_in}
use Rattle.sc_syntax.proofs.CutLaws.{some_same, none_some}
use Rattle.sc_syntax.proofs.PartLaws.{sent_spelled}
use Rattle.sc_syntax.proofs.ViaLaws.{param_is_spelled, result_is}
use Rattle.sc_syntax.proofs.DisplayLaws.{named_is}
use Rattle.sc_head_text.proofs.LineParts.{IsLine, AreLines, split_line, padded_line, led_line, first_line}

-- ## Parameters

first_read : {X : Type 0} (o : Option X) (more : Option (List X)) (xs : List X) → with_first o more ≡ Some xs → (x : X) × (ys : List X) × (o ≡ Some x) × (more ≡ Some ys) × (x ∷ ys ≡ xs)
unfolding with_first
first_read None more xs h = absurd (none_some xs h)
first_read (Some x) None xs h = absurd (none_some xs h)
first_read (Some x) (Some ys) xs h = (x, ys, refl, refl, some_same (x ∷ ys) xs h)

pub param_held : (text : Bytes) (param : Param) → IsParamSpelled text param → IsLine text → IsLineParam param
unfolding header_param
param_held text param (kept, pad) line =
    let own = padded_line (param.name ++ led 61 param.value) text pad line in (kept, led_line 61 param.value (split_line param.name (led 61 param.value) own).1)

pub params_held : (texts : List Bytes) (params : List Param) → AreLines texts → params_of texts ≡ Some params → AreHeaderParams params
unfolding all_read AreHeaderParams
params_held [] params lines h = subst AreHeaderParams (some_same [] params h) tt
params_held (text ∷ more) params lines h =
    let is = first_read (param_of text) (all_read param_of more) params h in
    let line = first_line text more (text ∷ more) refl lines in
    subst AreHeaderParams is.4 (param_held text is.0 (param_is_spelled text is.0 is.2) line.0, params_held more is.1 line.1 is.3)

-- ## Hosts

pub host_held : (text host : Bytes) (port : Option ℕ) → result_ok (sent_at 0 text) ≡ Some (host, port) → is_host host ≡ true
host_held text host port h = (sent_spelled 0 text (host, port) (result_is (sent_at 0 text) (host, port) h)).0

-- ## Displays

pub display_line : (display : Option Bytes) (rest : Bytes) → IsLine (unwrap_or display [] ++ rest) → option_map_or is_one_line display true ≡ true
display_line None rest h = refl
display_line (Some text) rest h = (split_line text rest h).0

pub display_held : (text : Bytes) (named : Named) → IsLine text → named_in text ≡ Some named → IsDisplay named.0 × (option_map_or is_one_line named.0 true ≡ true)
unfolding IsDisplay
display_held text named line h = elim (named_is text named h) as (λ _. IsDisplay named.0 × (option_map_or is_one_line named.0 true ≡ true)) [
  | inl (inner, gap, pad, display, blanks, is) ↦ (display, display_line named.0 (gap ++ 60 ∷ (named.1 ++ 62 ∷ [])) (ap is_one_line (sym is) ∙ padded_line inner text pad line))
  | inr bare ↦ subst (λ (n : Named). IsDisplay n.0 × (option_map_or is_one_line n.0 true ≡ true)) bare.2 (tt, refl)
]
