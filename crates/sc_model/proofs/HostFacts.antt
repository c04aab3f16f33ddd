-- The address of a host as text is a host, and the parameters of the own route back to the router keep a URI's rule.
use Rattle.std.proofs.Common.{◌≡◌, ℕ, Bool, true, false, not, Some, List, [], ◌∷◌, ◌++◌, ◌&&◌, ◌==◌, ◌+◌, ◌<◌, length, decimal, refl, ◌∙◌, length-append, arith}
use Rattle.std.specs.Prelude.{slice_index}
use Rattle.std.specs.List.{list_all}
use Rattle.std.proofs.lemmas.Bool.Decides.{nat_tests}
use Rattle.std.proofs.lemmas.List.Folds.{list_all-append}
use Rattle.sc_tokens.specs.Bytes.{is_host_byte, is_mark, is_param_sign, is_param_byte}
use Rattle.sc_tokens.specs.Hosts.{is_host, is_host_name, begins}
use Rattle.sc_tokens.specs.UriTokens.{is_param_name, is_param_value}
use Rattle.sc_value.specs.declared.ids.Region.{Region}
use Rattle.sc_value.specs.declared.ids.Region.TheVariants.{Originating, Terminating, Neutral}
use Rattle.sc_value.specs.ParamRules.{AreUriParams}
use Rattle.sc_model.specs.Names.{ar_name, ar_value, loose_param, region_letter, tcp_param}
use Rattle.sc_model.specs.Records.{ip_text}
use Rattle.sc_model.proofs.TokenFacts.{and_true, differs, decimal_of_class}

-- ## Hosts

host_digit : (k : ℕ) → k < 10 → is_host_byte (48 + k) ≡ true
unfolding is_host_byte
host_digit k h = grind (arith, nat_tests, h)

decimal_host : (n : ℕ) → list_all is_host_byte (decimal n) ≡ true
decimal_host = decimal_of_class is_host_byte host_digit

hosts_joined : (front back : List ℕ) → list_all is_host_byte front ≡ true → list_all is_host_byte back ≡ true → list_all is_host_byte (front ++ back) ≡ true
hosts_joined front back h g = list_all-append is_host_byte front back ∙ and_true (list_all is_host_byte front) (list_all is_host_byte back) h g

not_zero : (n : ℕ) → 0 < n → not (n == 0) ≡ true
not_zero n h = grind (arith, nat_tests, h)

no_bracket : (text : List ℕ) → list_all is_host_byte text ≡ true → begins 91 text ≡ false
unfolding begins is_host_byte
no_bracket [] h = refl
no_bracket (b ∷ bs) h = differs is_host_byte b 91 refl (first (is_host_byte b) (list_all is_host_byte bs) h)
  where
    first : (x y : Bool) → (x && y) ≡ true → x ≡ true
    first true y g = refl
    first false y g = g

-- bytes of a host's name, one or more
named_is_host : (text : List ℕ) → 0 < length text → list_all is_host_byte text ≡ true → is_host text ≡ true
unfolding is_host is_host_name
named_is_host text long h = rw (no_bracket text h) (and_true (not (length text == 0)) (list_all is_host_byte text) (not_zero (length text) long) h)

dot : list_all is_host_byte (46 ∷ []) ≡ true
unfolding is_host_byte
dot = refl

pair : (a b : ℕ) → list_all is_host_byte (decimal a ++ 46 ∷ [] ++ decimal b) ≡ true
pair a b = hosts_joined (decimal a ++ 46 ∷ []) (decimal b) (hosts_joined (decimal a) (46 ∷ []) (decimal_host a) dot) (decimal_host b)

pub ip_is_host : (ip : List ℕ) → is_host (ip_text ip) ≡ true
unfolding ip_text
ip_is_host ip =
    let front : List ℕ = decimal (slice_index ip 0) ++ 46 ∷ [] ++ decimal (slice_index ip 1) in
    let back : List ℕ = decimal (slice_index ip 2) ++ 46 ∷ [] ++ decimal (slice_index ip 3) in
    named_is_host (front ++ 46 ∷ [] ++ back) (long front back) (hosts_joined (front ++ 46 ∷ []) back (hosts_joined front (46 ∷ []) (pair (slice_index ip 0) (slice_index ip 1)) dot) (pair (slice_index ip 2) (slice_index ip 3)))
  where
    long : (front back : List ℕ) → 0 < length (front ++ 46 ∷ [] ++ back)
    long front back = omega (arith, length-append (front ++ 46 ∷ []) back, length-append front (46 ∷ []))

-- ## The route back

param_digit : (k : ℕ) → k < 10 → is_param_byte (48 + k) ≡ true
unfolding is_param_byte is_mark is_param_sign
param_digit k h = grind (arith, nat_tests, h)

pub decimal_param : (n : ℕ) → list_all is_param_byte (decimal n) ≡ true
decimal_param = decimal_of_class is_param_byte param_digit

letter : (region : Region) → list_all is_param_byte (region_letter region ∷ []) ≡ true
unfolding is_param_byte is_mark is_param_sign
letter Originating = refl
letter Terminating = refl
letter Neutral = refl

dash : list_all is_param_byte (45 ∷ []) ≡ true
unfolding is_param_byte is_mark is_param_sign
dash = refl

joined : (front back : List ℕ) → list_all is_param_byte front ≡ true → list_all is_param_byte back ≡ true → list_all is_param_byte (front ++ back) ≡ true
joined front back h g = list_all-append is_param_byte front back ∙ and_true (list_all is_param_byte front) (list_all is_param_byte back) h g

return_bytes : (n : ℕ) (region : Region) → list_all is_param_byte (ar_value n region) ≡ true
unfolding ar_value
return_bytes n region = joined (decimal n ++ 45 ∷ []) (region_letter region ∷ []) (joined (decimal n) (45 ∷ []) (decimal_param n) dash) (letter region)

pub return_kept : (n : ℕ) (region : Region) → AreUriParams (tcp_param ∷ loose_param ∷ record { name = ar_name; value = Some (ar_value n region) } ∷ [])
unfolding tcp_param loose_param ar_name is_param_name is_param_value is_param_byte is_mark is_param_sign AreUriParams
return_kept n region = ((refl, refl), ((refl, refl), ((refl, return_bytes n region), tt)))
