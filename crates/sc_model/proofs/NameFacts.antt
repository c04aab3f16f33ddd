-- The tags and branches that the container draws are tokens, its Call-IDs are values of a header, and the parameters
-- that hold its names keep the rules of a header and of a URI.
use Rattle.std.proofs.Common.{◌≡◌, ℕ, Bool, true, false, cond, not, Some, List, [], ◌∷◌, ◌++◌, ◌&&◌, ◌||◌, ◌==◌, ◌-◌, length, decimal, refl, ap, ◌∙◌}
use Rattle.std.specs.Prelude.{slice_index}
use Rattle.std.specs.List.{list_all}
use Rattle.std.proofs.lemmas.Bool.{false≢true}
use Rattle.std.proofs.lemmas.List.Folds.{list_all-append}
use Rattle.sc_tokens.specs.Bytes.{Bytes, is_mark, is_param_sign, is_param_byte}
use Rattle.sc_tokens.specs.Tokens.{is_token, is_token_byte, is_value, is_one_line, is_line_break, is_blank, begins_blank, ends_blank}
use Rattle.sc_tokens.specs.UriTokens.{is_param_name, is_param_value}
use Rattle.sc_value.specs.declared.ids.AppId.{AppId}
use Rattle.sc_value.specs.Params.{branch_name}
use Rattle.sc_value.specs.ParamRules.{AreHeaderParams, AreUriParams}
use Rattle.sc_model.specs.Names.{mark_text, counted_text, tag_text, branch_cookie, branch_text, call_id_text, app_text, ap_name, ap_value, loose_param, tcp_param}
use Rattle.sc_model.specs.Records.{ip_text}
use Rattle.sc_model.proofs.HostFacts.{decimal_param}
use Rattle.sc_model.proofs.ParamFacts.{token_is_value, token_is_line}
use Rattle.sc_model.proofs.TokenFacts.{all_weaker, and_true, decimal_token, differs, none_at, token_front, tokens_joined}

-- ## Tags and branches

dash : list_all is_token_byte (45 ∷ []) ≡ true
unfolding is_token_byte
dash = refl

dot : list_all is_token_byte (46 ∷ []) ≡ true
unfolding is_token_byte
dot = refl

-- a sign of tokens and a number behind bytes of tokens
numbered : (front : Bytes) (sign n : ℕ) → list_all is_token_byte front ≡ true → list_all is_token_byte (sign ∷ []) ≡ true → list_all is_token_byte (front ++ sign ∷ [] ++ decimal n) ≡ true
numbered front sign n h signed = tokens_joined (front ++ sign ∷ []) (decimal n) (tokens_joined front (sign ∷ []) h signed) (decimal_token n)

mark_token : (salt : Bytes) (epoch : ℕ) → is_token salt ≡ true → is_token (mark_text salt epoch) ≡ true
unfolding mark_text
mark_token salt epoch h = elim (epoch == 0) as (λ (t : Bool). is_token (cond t salt (salt ++ 46 ∷ [] ++ decimal epoch)) ≡ true) [
  | true ↦ h
  | false ↦ token_front (salt ++ 46 ∷ []) (decimal epoch) (token_front salt (46 ∷ []) h dot) (decimal_token epoch)
]

counted_bytes : (app : AppId) (k : ℕ) → list_all is_token_byte (counted_text app k) ≡ true
unfolding counted_text
counted_bytes app k = numbered (decimal app.host ++ 45 ∷ [] ++ decimal app.serial) 45 k (numbered (decimal app.host) 45 app.serial (decimal_token app.host) dash) dash

-- the tag of a dialog is a token
pub tag_is_token : (salt : Bytes) (epoch : ℕ) (app : AppId) (k : ℕ) → is_token salt ≡ true → is_token (tag_text salt epoch app k) ≡ true
unfolding tag_text
tag_is_token salt epoch app k h =
    token_front (mark_text salt epoch ++ 45 ∷ []) (counted_text app k) (token_front (mark_text salt epoch) (45 ∷ []) (mark_token salt epoch h) dash) (counted_bytes app k)

second : (a b : Bool) → (a && b) ≡ true → b ≡ true
second true b h = h
second false b h = absurd (false≢true h)

token_bytes : (text : Bytes) → is_token text ≡ true → list_all is_token_byte text ≡ true
unfolding is_token
token_bytes text h = second (not (length text == 0)) (list_all is_token_byte text) h

-- the branch of a transaction is a token
pub branch_is_token : (salt : Bytes) (epoch : ℕ) (app : AppId) (k : ℕ) → is_token salt ≡ true → is_token (branch_text salt epoch app k) ≡ true
unfolding branch_text branch_cookie is_token is_token_byte
branch_is_token salt epoch app k h = token_front branch_cookie (tag_text salt epoch app k) refl (token_bytes (tag_text salt epoch app k) (tag_is_token salt epoch app k h))

-- the parameter of a Via
pub branch_kept : (salt : Bytes) (epoch : ℕ) (app : AppId) (k : ℕ) → is_token salt ≡ true → AreHeaderParams (record { name = branch_name; value = Some (branch_text salt epoch app k) } ∷ [])
unfolding branch_name is_token is_token_byte AreHeaderParams
branch_kept salt epoch app k h =
    let text = branch_text salt epoch app k in
    let is = branch_is_token salt epoch app k h in (((refl, token_is_value text is), token_is_line text is), tt)

-- ## Call-IDs

-- the byte of a token, or @
is_call_byte : ℕ → Bool
is_call_byte b = is_token_byte b || b == 64

call_byte : (b : ℕ) → is_token_byte b ≡ true → is_call_byte b ≡ true
unfolding is_call_byte
call_byte b h = ap (λ t. t || b == 64) h

unbroken : (b : ℕ) → is_call_byte b ≡ true → not (is_line_break b) ≡ true
unfolding is_call_byte is_line_break is_token_byte
unbroken b h = rw (differs is_call_byte b 13 refl h, differs is_call_byte b 10 refl h, differs is_call_byte b 0 refl h) refl

unblank : (b : ℕ) → is_call_byte b ≡ true → is_blank b ≡ false
unfolding is_call_byte is_blank is_token_byte
unblank b h = rw (differs is_call_byte b 32 refl h, differs is_call_byte b 9 refl h) refl

call_bytes_value : (text : Bytes) → list_all is_call_byte text ≡ true → is_value text ≡ true
unfolding is_value is_one_line begins_blank ends_blank
call_bytes_value text h =
    let line = all_weaker is_call_byte (λ b. not (is_line_break b)) unbroken text h in
    let front = ap not (none_at is_call_byte is_blank unblank text 0 h) in
    let back = ap not (none_at is_call_byte is_blank unblank text (length text - 1) h) in
    and_true (is_one_line text && not (begins_blank text)) (not (ends_blank text)) (and_true (is_one_line text) (not (begins_blank text)) line front) back

calls_joined : (front back : Bytes) → list_all is_call_byte front ≡ true → list_all is_call_byte back ≡ true → list_all is_call_byte (front ++ back) ≡ true
calls_joined front back h g = list_all-append is_call_byte front back ∙ and_true (list_all is_call_byte front) (list_all is_call_byte back) h g

ip_bytes : (ip : List ℕ) → list_all is_token_byte (ip_text ip) ≡ true
unfolding ip_text
ip_bytes ip =
    let front : Bytes = decimal (slice_index ip 0) ++ 46 ∷ [] ++ decimal (slice_index ip 1) in
    let back : Bytes = decimal (slice_index ip 2) ++ 46 ∷ [] ++ decimal (slice_index ip 3) in
    let first = numbered (decimal (slice_index ip 0)) 46 (slice_index ip 1) (decimal_token (slice_index ip 0)) dot in
    let second = numbered (decimal (slice_index ip 2)) 46 (slice_index ip 3) (decimal_token (slice_index ip 2)) dot in
    tokens_joined (front ++ 46 ∷ []) back (tokens_joined front (46 ∷ []) first dot) second

-- the Call-ID that is drawn can be the value of a header
pub call_id_is_value : (salt : Bytes) (epoch : ℕ) (ip : List ℕ) (app : AppId) (k : ℕ) → is_token salt ≡ true → is_value (call_id_text salt epoch (ip_text ip) app k) ≡ true
unfolding call_id_text is_call_byte is_token_byte
call_id_is_value salt epoch ip app k h =
    let tag = tag_text salt epoch app k in
    let tagged = all_weaker is_token_byte is_call_byte call_byte tag (token_bytes tag (tag_is_token salt epoch app k h)) in
    let host = all_weaker is_token_byte is_call_byte call_byte (ip_text ip) (ip_bytes ip) in
    call_bytes_value (tag ++ 64 ∷ [] ++ ip_text ip) (calls_joined (tag ++ 64 ∷ []) (ip_text ip) (calls_joined tag (64 ∷ []) tagged refl) host)

-- ## Sessions

params_joined : (front back : Bytes) → list_all is_param_byte front ≡ true → list_all is_param_byte back ≡ true → list_all is_param_byte (front ++ back) ≡ true
params_joined front back h g = list_all-append is_param_byte front back ∙ and_true (list_all is_param_byte front) (list_all is_param_byte back) h g

-- a sign of parameters and a number behind bytes of parameters
param_numbered : (front : Bytes) (sign n : ℕ) → list_all is_param_byte front ≡ true → list_all is_param_byte (sign ∷ []) ≡ true → list_all is_param_byte (front ++ sign ∷ [] ++ decimal n) ≡ true
param_numbered front sign n h signed = params_joined (front ++ sign ∷ []) (decimal n) (params_joined front (sign ∷ []) h signed) (decimal_param n)

app_bytes : (app : AppId) → list_all is_param_byte (app_text app) ≡ true
unfolding app_text is_param_byte is_mark is_param_sign
app_bytes app = param_numbered (decimal app.host) 45 app.serial (decimal_param app.host) refl

ap_bytes : (epoch : ℕ) (app : AppId) → list_all is_param_byte (ap_value epoch app) ≡ true
unfolding ap_value is_param_byte is_mark is_param_sign
ap_bytes epoch app = elim (epoch == 0) as (λ (t : Bool). list_all is_param_byte (cond t (app_text app) (app_text app ++ 46 ∷ [] ++ decimal epoch)) ≡ true) [
  | true ↦ app_bytes app
  | false ↦ param_numbered (app_text app) 46 epoch (app_bytes app) refl
]

-- the parameters of a session's URI
pub session_params_kept : (epoch : ℕ) (app : AppId) → AreUriParams (tcp_param ∷ loose_param ∷ record { name = ap_name; value = Some (ap_value epoch app) } ∷ [])
unfolding tcp_param loose_param ap_name is_param_name is_param_value is_param_byte is_mark is_param_sign AreUriParams
session_params_kept epoch app = ((refl, refl), ((refl, refl), ((refl, ap_bytes epoch app), tt)))
