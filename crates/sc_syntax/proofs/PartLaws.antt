-- What is read is spelled, for the parts of a URI.
use Rattle.std.proofs.Common.{◌≡◌, ℕ, suc, Bool, true, false, cond, Option, Some, None, Result, Ok, Err, List, [], ◌∷◌, ◌++◌, ◌+◌, ◌==◌, ◌&&◌, ◌||◌, length, take, drop, refl, sym, ap, subst, ◌∙◌, arith}
use Rattle.std.specs.Prelude.{is_ok}
use Rattle.std.specs.List.{list_any, flat_map}
use Rattle.std.specs.Option.{option_map_or}
use Rattle.std.specs.Result.{result_unwrap_or}
use Rattle.std.proofs.lemmas.Bool.{false≢true}
use Rattle.std.proofs.lemmas.Bool.Decides.{nat_tests}
use Rattle.std.proofs.lemmas.List.{take-append-drop}
use Rattle.sc_value.specs.declared.parts.Param.{Param}
use Rattle.sc_tokens.specs.Bytes.{Bytes, is_open}
use Rattle.sc_tokens.specs.Numbers.{port_of}
use Rattle.sc_tokens.specs.Cuts.{has, before, after, onto_first, pieces}
use Rattle.sc_tokens.specs.Hosts.{begins, is_host, host_len}
use Rattle.sc_tokens.specs.UriTokens.{is_param_name, is_param_value}
use Rattle.sc_syntax.specs.UriParts.{Fault, port_fault, then_read, port_in, is_port_start, sent_at, param_at, params_in, params_at, headers_at}
use Rattle.sc_value.specs.ParamRules.{IsUriParam, AreUriParams}
use Rattle.sc_syntax.specs.SpelledUris.{behind_sign as led, IsPortSpelled, spelled_param}
use Rattle.sc_syntax.proofs.CutLaws.{some_same, none_some, before_here, before_on, after_here, after_on}

-- ## Answers

pub ok_same : {A : Type 0} (a b : A) → ◌≡◌ {A = Result A Fault} (Ok a) (Ok b) → a ≡ b
ok_same a b e = ap (λ r. result_unwrap_or r a) e

pub err_ok : {A : Type 0} (fault : Fault) (a : A) → ¬ (◌≡◌ {A = Result A Fault} (Err fault) (Ok a))
err_ok fault a e = false≢true (ap is_ok e)

pub if_ok : {A : Type 0} (t : Bool) (r : Result A Fault) (fault : Fault) (a : A) → cond t r (Err fault) ≡ Ok a → (t ≡ true) × (r ≡ Ok a)
if_ok true r fault a h = (refl, h)
if_ok false r fault a h = absurd (err_ok fault a h)

pub then_ok : {A B : Type 0} (r : Result A Fault) (next : A → Result B Fault) (b : B) → then_read r next ≡ Ok b → (a : A) × (r ≡ Ok a) × (next a ≡ Ok b)
unfolding then_read
then_ok (Ok a) next b h = (a, refl, h)
then_ok (Err fault) next b h = absurd (err_ok fault b h)

both : (a b : Bool) → (a && b) ≡ true → (a ≡ true) × (b ≡ true)
both true b h = (refl, h)
both false b h = absurd (false≢true h)

same_number : (x y : ℕ) → (x == y) ≡ true → x ≡ y
same_number x y h = grind (arith, nat_tests, h)

-- ## Cuts

-- a text is what stands before the sign, and the sign with what stands after it
pub led_text : (sign : ℕ) (text : Bytes) → before sign text ++ led sign (after sign text) ≡ text
unfolding led before after
led_text sign [] = refl
led_text sign (b ∷ bs) = elim (b == sign) as (λ (t : Bool). (b == sign) ≡ t → before sign (b ∷ bs) ++ led sign (after sign (b ∷ bs)) ≡ b ∷ bs) [
  | true ↦ λ e. ap (λ f. f ++ led sign (after sign (b ∷ bs))) (before_here sign b bs e) ∙ ap (led sign) (after_here sign b bs e) ∙ ap (λ c. c ∷ bs) (sym (same_number b sign e))
  | false ↦ λ e. ap (λ f. f ++ led sign (after sign (b ∷ bs))) (before_on sign b bs e) ∙ ap (λ a. (b ∷ before sign bs) ++ led sign a) (after_on sign b bs e) ∙ ap (λ l. b ∷ l) (led_text sign bs)
] refl

or_second : (a b : Bool) → (a || b) ≡ false → b ≡ false
or_second true b h = absurd (false≢true (sym h))
or_second false b h = h

both_false : (a b : Bool) → a ≡ false → b ≡ false → (a || b) ≡ false
both_false true b g h = g
both_false false b g h = h

-- before the first sign there is none
pub lacks_before : (sign : ℕ) (text : Bytes) → has sign (before sign text) ≡ false
unfolding has before
lacks_before sign [] = refl
lacks_before sign (b ∷ bs) = elim (b == sign) as (λ (t : Bool). (b == sign) ≡ t → has sign (before sign (b ∷ bs)) ≡ false) [
  | true ↦ λ e. ap (has sign) (before_here sign b bs e)
  | false ↦ λ e. ap (has sign) (before_on sign b bs e) ∙ both_false (b == sign) (has sign (before sign bs)) e (lacks_before sign bs)
] refl

pub lacks_all : (sign : ℕ) (text : Bytes) → after sign text ≡ None → has sign text ≡ false
unfolding has
lacks_all sign [] h = refl
lacks_all sign (b ∷ bs) h = elim (b == sign) as (λ (t : Bool). (b == sign) ≡ t → has sign (b ∷ bs) ≡ false) [
  | true ↦ λ e. absurd (none_some bs (sym h ∙ after_here sign b bs e))
  | false ↦ λ e. both_false (b == sign) (has sign bs) e (lacks_all sign bs (sym (after_on sign b bs e) ∙ h))
] refl

-- what a text lacks, its end lacks
pub lacks_after : (sign other : ℕ) (text rest : Bytes) → after other text ≡ Some rest → has sign text ≡ false → has sign rest ≡ false
unfolding has after
lacks_after sign other [] rest h g = absurd (none_some rest h)
lacks_after sign other (b ∷ bs) rest h g = elim (b == other) as (λ (t : Bool). (b == other) ≡ t → has sign rest ≡ false) [
  | true ↦ λ e. subst (λ (l : Bytes). has sign l ≡ false) (some_same bs rest (sym (after_here other b bs e) ∙ h)) (or_second (b == sign) (has sign bs) g)
  | false ↦ λ e. lacks_after sign other bs rest (sym (after_on other b bs e) ∙ h) (or_second (b == sign) (has sign bs) g)
] refl

-- ## Parameters

abbrev joined : List Bytes → Bytes
joined texts = flat_map (λ text. 59 ∷ text) texts

join_onto : (b : ℕ) (bs : Bytes) (texts : List Bytes) → joined texts ≡ 59 ∷ bs → joined (onto_first b texts) ≡ 59 ∷ (b ∷ bs)
unfolding onto_first
join_onto b bs [] h = absurd (false≢true (ap (list_any (λ _. true)) h))
join_onto b bs (text ∷ more) h = ap (λ l. 59 ∷ (b ∷ drop 1 l)) h

join_pieces : (text : Bytes) → joined (pieces 59 text) ≡ 59 ∷ text
unfolding pieces
join_pieces [] = refl
join_pieces (b ∷ bs) = elim (b == 59) as (λ (t : Bool). (b == 59) ≡ t → joined (cond t ([] ∷ pieces 59 bs) (onto_first b (pieces 59 bs))) ≡ 59 ∷ (b ∷ bs)) [
  | true ↦ λ e. ap (λ l. 59 ∷ l) (join_pieces bs) ∙ ap (λ c. 59 ∷ (c ∷ bs)) (sym (same_number b 59 e))
  | false ↦ λ e. join_onto b bs (pieces 59 bs) (join_pieces bs)
] refl

param_is : (at : ℕ) (text : Bytes) (param : Param) → param_at at text ≡ Ok param → (param.name ++ led 61 param.value ≡ text) × IsUriParam param
unfolding param_at
param_is at text param h =
    let is = if_ok (is_param_name (before 61 text) && is_param_value (after 61 text)) (Ok (record { name = before 61 text; value = after 61 text })) _ param h in
    subst (λ (p : Param). (p.name ++ led 61 p.value ≡ text) × IsUriParam p) (ok_same _ param is.1) (led_text 61 text, both (is_param_name (before 61 text)) (is_param_value (after 61 text)) is.0)

params_are : (at : ℕ) (texts : List Bytes) (params : List Param) → params_in at texts ≡ Ok params → (flat_map spelled_param params ≡ joined texts) × AreUriParams params
unfolding params_in spelled_param AreUriParams
params_are at [] params h = subst (λ (ps : List Param). (flat_map spelled_param ps ≡ []) × AreUriParams ps) (ok_same [] params h) (refl, tt)
params_are at (text ∷ more) params h =
    let first = then_ok (param_at at text) _ params h in
    let rest = then_ok (params_in (at + length text + 1) more) _ params first.2 in
    let param = param_is at text first.0 first.1 in
    let others = params_are (at + length text + 1) more rest.0 rest.1 in
    subst (λ (ps : List Param). (flat_map spelled_param ps ≡ joined (text ∷ more)) × AreUriParams ps) (ok_same (first.0 ∷ rest.0) params rest.2)
    (ap (λ l. 59 ∷ (l ++ flat_map spelled_param rest.0)) param.0 ∙ ap (λ l. 59 ∷ (text ++ l)) others.0, (param.1, others.1))

pub params_spelled : (at : ℕ) (text : Option Bytes) (params : List Param) → params_at at text ≡ Ok params → (flat_map spelled_param params ≡ led 59 text) × AreUriParams params
unfolding params_at led AreUriParams
params_spelled at None params h = subst (λ (ps : List Param). (flat_map spelled_param ps ≡ []) × AreUriParams ps) (ok_same [] params h) (refl, tt)
params_spelled at (Some text) params h = let are = params_are at (pieces 59 text) params h in (are.0 ∙ join_pieces text, are.1)

-- ## Host and port

starts : (sign : ℕ) (digits : Bytes) → is_port_start (sign ∷ digits) ≡ true → sign ≡ 58
unfolding is_port_start begins
starts sign digits h = same_number sign 58 (ap (λ b. b || (sign == 58)) (sym (positive digits)) ∙ h)
  where
    positive : (digits : Bytes) → (suc (length digits) == 0) ≡ false
    positive digits = grind (arith, nat_tests)

port_spelled : (at : ℕ) (text : Bytes) (port : Option ℕ) → is_port_start text ≡ true → port_in at text ≡ Ok port → IsPortSpelled text port
unfolding port_in IsPortSpelled
port_spelled at [] port s h = subst (λ (p : Option ℕ). IsPortSpelled [] p) (ok_same None port h) refl
port_spelled at (sign ∷ digits) port s h =
    elim (port_of digits) as (λ (o : Option ℕ). port_of digits ≡ o → option_map_or {T = ℕ} {U = Result (Option ℕ) Fault} (λ p. Ok (Some p)) o (Err (port_fault at)) ≡ Ok port → IsPortSpelled (sign ∷ digits) port) [
      | None ↦ λ e bad. absurd (err_ok _ port bad)
      | Some n ↦ λ e is. subst (λ (p : Option ℕ). IsPortSpelled (sign ∷ digits) p) (ok_same (Some n) port is) (digits, e, ap (λ c. c ∷ digits) (starts sign digits s))
    ] refl h

pub sent_spelled : (at : ℕ) (text : Bytes) (sent : Bytes × Option ℕ) → sent_at at text ≡ Ok sent → (is_host sent.0 ≡ true) × (port : Bytes) × IsPortSpelled port sent.1 × (text ≡ sent.0 ++ port)
unfolding sent_at
sent_spelled at text sent h =
    let front = take (host_len text) text in
    let back = drop (host_len text) text in
    let is = if_ok (is_host front && is_port_start back) _ _ sent h in
    let tests = both (is_host front) (is_port_start back) is.0 in
    let port = then_ok (port_in (at + host_len text + 1) back) _ sent is.1 in
    subst (λ (s : Bytes × Option ℕ). (is_host s.0 ≡ true) × (p : Bytes) × IsPortSpelled p s.1 × (text ≡ s.0 ++ p)) (ok_same (front, port.0) sent port.2)
    (tests.0, back, port_spelled (at + host_len text + 1) back port.0 tests.1 port.1, sym (take-append-drop (host_len text) text))

-- ## Headers

pub headers_are : (at : ℕ) (headers read : Option Bytes) → headers_at at headers ≡ Ok read → (option_map_or is_open headers true ≡ true) × (headers ≡ read)
unfolding headers_at
headers_are at headers read h =
    let is = if_ok (option_map_or is_open headers true) (Ok headers) _ read h in (is.0, ok_same headers read is.1)
