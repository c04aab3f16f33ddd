-- The parameters of the URIs that are made keep a URI's rule, and a host's address is a host.
use Rattle.std.proofs.Common.{◌≡◌, ℕ, true, List, [], ◌∷◌, ◌++◌, ◌&&◌, ◌+◌, ◌%◌, ◌<◌, ◌≤◌, ◌^◌, decimal, refl, ap, ◌∙◌, arith}
use Rattle.std.specs.List.{list_all}
use Rattle.std.proofs.lemmas.Fmt.{decimal_by_steps}
use Rattle.std.proofs.lemmas.List.Folds.{list_all-append}
use Rattle.std.proofs.lemmas.Bool.Decides.{nat_tests}
use Rattle.sc_tokens.specs.Bytes.{is_mark, is_param_sign, is_param_byte}
use Rattle.sc_tokens.specs.UriTokens.{is_param_name, is_param_value}
use Rattle.sc_value.specs.ParamRules.{AreUriParams}
use Rattle.sc_model.specs.Generated.{name_and_value as valued, session_text, session_param}
use Rattle.sc_model.specs.Names.{loose_param, tcp_param}

-- ## Numbers

digit : (k : ℕ) → k < 10 → is_param_byte (48 + k) ≡ true
unfolding is_param_byte is_mark is_param_sign
digit k h = grind (arith, nat_tests, h)

one : (n : ℕ) → n < 10 → list_all is_param_byte ((48 + n) ∷ []) ≡ true
one n h = ap (λ b. b && true) (digit n h)

below_ten : (n : ℕ) → n % 10 < 10
below_ten n = omega arith

more : (n : ℕ) (ds : List ℕ) → 10 ≤ n → list_all is_param_byte ds ≡ true → list_all is_param_byte (ds ++ (48 + n % 10) ∷ []) ≡ true
more n ds big h = list_all-append is_param_byte ds ((48 + n % 10) ∷ []) ∙ ap (λ b. b && list_all is_param_byte ((48 + n % 10) ∷ [])) h ∙ one (n % 10) (below_ten n)

pub decimal_bytes : (n : ℕ) → n < 2 ^ 64 → list_all is_param_byte (decimal n) ≡ true
decimal_bytes n h = decimal_by_steps (λ _ ds. list_all is_param_byte ds ≡ true) one more n h

-- ## Parameters

session_bytes : (host i : ℕ) → host < 2 ^ 64 → i < 2 ^ 64 → list_all is_param_byte (session_text host i) ≡ true
unfolding session_text is_param_byte is_mark is_param_sign
session_bytes host i h g =
    list_all-append is_param_byte (decimal host ++ 45 ∷ []) (decimal i) ∙ ap (λ t. t && list_all is_param_byte (decimal i)) (list_all-append is_param_byte (decimal host) (45 ∷ []) ∙ ap (λ t. t && list_all is_param_byte (45 ∷ [])) (decimal_bytes host h)) ∙ decimal_bytes i g

pub session_kept : (host i : ℕ) → host < 2 ^ 64 → i < 2 ^ 64 → AreUriParams (tcp_param ∷ loose_param ∷ session_param host i ∷ [])
unfolding tcp_param loose_param session_param valued is_param_name is_param_value is_param_byte is_mark is_param_sign AreUriParams
session_kept host i h g = ((refl, refl), ((refl, refl), ((refl, session_bytes host i h g), tt)))
