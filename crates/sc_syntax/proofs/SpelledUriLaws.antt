-- What is spelled is read: URIs.
use Rattle.std.proofs.Common.{◌≡◌, ℕ, Bool, true, false, cond, not, Option, Some, None, Result, Ok, Err, List, [], ◌∷◌, ◌++◌, ◌+◌, ◌-◌, ◌&&◌, ◌==◌, map, length, refl, sym, ap, subst, ◌∙◌, append_assoc, append-nil, arith}
use Rattle.std.specs.Prelude.{codes, unwrap_or, slice_get}
use Rattle.std.specs.List.{list_all, flat_map}
use Rattle.std.specs.Option.{option_map, option_map_or}
use Rattle.std.specs.Char.{to_ascii_lowercase, is_ascii_alphabetic, is_ascii_alphanumeric}
use Rattle.std.proofs.lemmas.Bool.{false≢true}
use Rattle.std.proofs.lemmas.Bool.Decides.{nat_tests}
use Rattle.std.proofs.lemmas.List.Folds.{list_all-append}
use Rattle.sc_tokens.specs.Names.{same_bytes, same_name}
use Rattle.sc_value.specs.declared.parts.Param.{Param}
use Rattle.sc_value.specs.declared.parts.SipUri.{SipUri}
use Rattle.sc_value.specs.declared.parts.Uri.{Uri}
use Rattle.sc_value.specs.declared.parts.Uri.TheVariants.{Sip, Other}
use Rattle.sc_tokens.specs.Bytes.{Bytes, is_host_byte, is_scheme_byte, is_mark, is_param_sign, is_param_byte, is_closed, is_open}
use Rattle.sc_tokens.specs.Cuts.{has, before, after, onto_first, pieces}
use Rattle.sc_tokens.specs.UriTokens.{is_param_name, is_param_value, is_scheme, sip_scheme, IsUser, IsOtherSpelled}
use Rattle.sc_syntax.specs.UriParts.{Fault, scheme_fault, host_fault, param_fault, then_read, sent_at, param_at, params_in, params_at, headers_at}
use Rattle.sc_syntax.specs.Uris.{user_in, behind_user, sent_in, params_text_in, sip_behind, sip_at, other_of, uri_behind, uri_of}
use Rattle.sc_value.specs.ParamRules.{AreUriParams}
use Rattle.sc_value.specs.UriValues.{IsSipUri}
use Rattle.sc_syntax.specs.SpelledUris.{behind_sign as led, closed_by, IsPortSpelled, spelled_param, spelled_behind, IsSipSpelled, IsUriSpelled}
use Rattle.sc_syntax.proofs.BlankLaws.{both, and_true}
use Rattle.sc_syntax.proofs.ClassLaws.{itself, neither, both_false, differs, all_weaker, class_lacks, before_joined, after_joined, before_all, after_none, has_append}
use Rattle.sc_syntax.proofs.HostLaws.{is_sent_byte, sent_bytes, sent_is_read}

-- ## Cuts

-- a text before a sign, and what the sign leads
pub cut_led : (sign : ℕ) (text : Bytes) (o : Option Bytes) → has sign text ≡ false → (before sign (text ++ led sign o) ≡ text) × (after sign (text ++ led sign o) ≡ o)
unfolding led
cut_led sign text None h = (ap (before sign) (append-nil text) ∙ before_all sign text h, ap (after sign) (append-nil text) ∙ after_none sign text h)
cut_led sign text (Some rest) h = (before_joined sign text rest h, after_joined sign text rest h)

pub lacks_joined : (sign : ℕ) (a b : Bytes) → has sign a ≡ false → has sign b ≡ false → has sign (a ++ b) ≡ false
lacks_joined sign a b g h = has_append sign a b ∙ both_false (has sign a) (has sign b) g h

pub open_joined : (a b : Bytes) → is_open a ≡ true → is_open b ≡ true → is_open (a ++ b) ≡ true
unfolding is_open
open_joined a b g h = list_all-append (λ c. not (is_closed c)) a b ∙ and_true (is_open a) (is_open b) g h

-- ## Schemes

letter_of : (b l : ℕ) → (to_ascii_lowercase b == l) ≡ true → is_ascii_alphabetic l ≡ true → is_ascii_alphabetic b ≡ true
letter_of b l h g = grind (arith, nat_tests, h, g)

letter_in_scheme : (b : ℕ) → is_ascii_alphabetic b ≡ true → is_scheme_byte b ≡ true
unfolding is_scheme_byte is_host_byte
letter_in_scheme b h = let is : is_ascii_alphanumeric b ≡ true = grind (arith, nat_tests, h) in rw is refl

letters : (scheme word : Bytes) → list_all is_ascii_alphabetic word ≡ true → same_bytes (map to_ascii_lowercase scheme) word ≡ true → list_all is_ascii_alphabetic scheme ≡ true
letters [] word all h = refl
letters (b ∷ bs) [] all h = absurd (false≢true h)
letters (b ∷ bs) (l ∷ ls) all h =
    let is = both (to_ascii_lowercase b == l) (same_bytes (map to_ascii_lowercase bs) ls) h in
    let of = both (is_ascii_alphabetic l) (list_all is_ascii_alphabetic ls) all in
    and_true (is_ascii_alphabetic b) (list_all is_ascii_alphabetic bs) (letter_of b l is.0 of.0) (letters bs ls of.1 is.1)

sip_letters : (scheme : Bytes) → same_name scheme sip_scheme ≡ true → list_all is_ascii_alphabetic scheme ≡ true
unfolding same_name sip_scheme
sip_letters scheme h = letters scheme (codes "sip") refl h

not_empty : ¬ (same_name [] sip_scheme ≡ true)
unfolding same_name sip_scheme
not_empty h = false≢true h

by_letters : (scheme : Bytes) → list_all is_ascii_alphabetic scheme ≡ true → ¬ (scheme ≡ []) → is_scheme scheme ≡ true
unfolding is_scheme
by_letters [] all some = absurd (some refl)
by_letters (b ∷ bs) all some =
    and_true (is_ascii_alphabetic b) (list_all is_scheme_byte (b ∷ bs)) (both (is_ascii_alphabetic b) (list_all is_ascii_alphabetic bs) all).0 (all_weaker is_ascii_alphabetic is_scheme_byte letter_in_scheme (b ∷ bs) all)

sip_is_scheme : (scheme : Bytes) → same_name scheme sip_scheme ≡ true → is_scheme scheme ≡ true
sip_is_scheme scheme h = by_letters scheme (sip_letters scheme h) (λ e. not_empty (ap (λ s. same_name s sip_scheme) (sym e) ∙ h))

scheme_no_colon : is_scheme_byte 58 ≡ false
unfolding is_scheme_byte is_host_byte
scheme_no_colon = refl

scheme_lacks : (scheme : Bytes) → is_scheme scheme ≡ true → has 58 scheme ≡ false
unfolding is_scheme
scheme_lacks scheme h = class_lacks is_scheme_byte 58 scheme scheme_no_colon (both (option_map_or is_ascii_alphabetic (slice_get scheme 0) false) (list_all is_scheme_byte scheme) h).1

-- a text with a scheme is read by it
by_scheme : (scheme rest : Bytes) → is_scheme scheme ≡ true → uri_of (scheme ++ 58 ∷ rest) ≡ uri_behind (scheme ++ 58 ∷ rest) scheme rest
unfolding uri_of
by_scheme scheme rest h =
    let text = scheme ++ 58 ∷ rest in
    let lacks = scheme_lacks scheme h in
    ap (λ s. cond (is_scheme s) (option_map_or (uri_behind text s) (after 58 text) (Err scheme_fault)) (Err scheme_fault)) (before_joined 58 scheme rest lacks)
    ∙ ap (λ o. cond (is_scheme scheme) (option_map_or (uri_behind text scheme) o (Err scheme_fault)) (Err scheme_fault)) (after_joined 58 scheme rest lacks)
    ∙ ap (λ t. cond t (uri_behind text scheme rest) (Err scheme_fault)) h

other_is_read : (text other : Bytes) → IsOtherSpelled text other → uri_of text ≡ Ok (Other other)
unfolding uri_behind other_of
other_is_read text other (same, free, scheme, rest, is_one, differs_sip, is) =
    ap uri_of is ∙ by_scheme scheme rest is_one ∙ ap (λ t. cond t (sip_at (length scheme + 1) rest) (cond (is_open (scheme ++ 58 ∷ rest)) (Ok (Other (scheme ++ 58 ∷ rest))) (Err scheme_fault))) differs_sip
    ∙ ap (λ l. cond (is_open l) (Ok (Other l)) (Err scheme_fault)) (sym is) ∙ ap (λ t. cond t (Ok (Other text)) (Err scheme_fault)) free ∙ ap (λ l. Ok (Other l)) same

-- ## Parameters

param_no_signs : (is_param_byte 59 ≡ false) × (is_param_byte 61 ≡ false) × (is_param_byte 63 ≡ false) × (is_param_byte 64 ≡ false)
unfolding is_param_byte is_mark is_param_sign
param_no_signs = (refl, refl, refl, refl)

name_bytes : (name : Bytes) → is_param_name name ≡ true → list_all is_param_byte name ≡ true
unfolding is_param_name
name_bytes name h = (both (not (length name == 0)) (list_all is_param_byte name) h).1

-- what no byte of a parameter is, and no `=`, a parameter lacks
param_lacks : (sign : ℕ) (name : Bytes) (value : Option Bytes) → is_param_byte sign ≡ false → (61 == sign) ≡ false → is_param_name name ≡ true → is_param_value value ≡ true → has sign (name ++ led 61 value) ≡ false
unfolding led is_param_value has
param_lacks sign name None s e n v = ap (has sign) (append-nil name) ∙ class_lacks is_param_byte sign name s (name_bytes name n)
param_lacks sign name (Some value) s e n v = lacks_joined sign name (61 ∷ value) (class_lacks is_param_byte sign name s (name_bytes name n)) (both_false (61 == sign) (has sign value) e (class_lacks is_param_byte sign value s v))

param_read : (at : ℕ) (name : Bytes) (value : Option Bytes) → is_param_name name ≡ true → is_param_value value ≡ true → param_at at (name ++ led 61 value) ≡ Ok (record { name = name; value = value })
unfolding param_at
param_read at name value n v =
    let text = name ++ led 61 value in
    let cut = cut_led 61 name value (class_lacks is_param_byte 61 name param_no_signs.1 (name_bytes name n)) in
    ap (λ f. cond (is_param_name f && is_param_value (after 61 text)) (Ok (record { name = f; value = after 61 text })) (Err (param_fault at))) cut.0
    ∙ ap (λ a. cond (is_param_name name && is_param_value a) (Ok (record { name = name; value = a })) (Err (param_fault at))) cut.1
    ∙ ap (λ t. cond t (Ok (record { name = name; value = value })) (Err (param_fault at))) (and_true (is_param_name name) (is_param_value value) n v)

piece_onto : (b : ℕ) (text : Bytes) (texts : List Bytes) → onto_first b (text ∷ texts) ≡ (b ∷ text) ∷ texts
unfolding onto_first
piece_onto b text texts = refl

pieces_joined : (sign : ℕ) (text rest : Bytes) → has sign text ≡ false → pieces sign (text ++ sign ∷ rest) ≡ text ∷ pieces sign rest
unfolding pieces has
pieces_joined sign [] rest h = ap (λ t. cond t ([] ∷ pieces sign rest) (onto_first sign (pieces sign rest))) (itself sign)
pieces_joined sign (b ∷ bs) rest h =
    let is = neither (b == sign) (has sign bs) h in
    ap (λ t. cond t ([] ∷ pieces sign (bs ++ sign ∷ rest)) (onto_first b (pieces sign (bs ++ sign ∷ rest)))) is.0 ∙ ap (onto_first b) (pieces_joined sign bs rest is.1) ∙ piece_onto b bs (pieces sign rest)

pieces_alone : (sign : ℕ) (text : Bytes) → has sign text ≡ false → pieces sign text ≡ text ∷ []
unfolding pieces has
pieces_alone sign [] h = refl
pieces_alone sign (b ∷ bs) h =
    let is = neither (b == sign) (has sign bs) h in
    ap (λ t. cond t ([] ∷ pieces sign bs) (onto_first b (pieces sign bs))) is.0 ∙ ap (onto_first b) (pieces_alone sign bs is.1) ∙ piece_onto b bs []

-- the parameters, with their first semicolon apart
record ParamsText (params : List Param) : Type 0 where
  inner : Option Bytes
  text : flat_map spelled_param params ≡ led 59 inner
  read : (at : ℕ) → params_at at inner ≡ Ok params

first_then : (at : ℕ) (text : Bytes) (texts : List Bytes) (param : Param) (params : List Param) → param_at at text ≡ Ok param → params_in (at + length text + 1) texts ≡ Ok params → params_in at (text ∷ texts) ≡ Ok (param ∷ params)
unfolding params_in then_read
first_then at text texts param params g h = ap (λ r. then_read r (λ p. then_read (params_in (at + length text + 1) texts) (λ ps. Ok (p ∷ ps)))) g ∙ ap (λ r. then_read r (λ ps. Ok (param ∷ ps))) h

no_more : (at : ℕ) → params_in at [] ≡ Ok []
unfolding params_in
no_more at = refl

in_pieces : (at : ℕ) (text : Bytes) (inner : Option Bytes) (params : List Param) → has 59 text ≡ false → ((n : ℕ) → params_at n inner ≡ Ok params) → (more : List Bytes) × (pieces 59 (text ++ led 59 inner) ≡ text ∷ more) × (params_in (at + length text + 1) more ≡ Ok params)
unfolding params_at led
in_pieces at text None params lacks read = ([], ap (pieces 59) (append-nil text) ∙ pieces_alone 59 text lacks, no_more (at + length text + 1) ∙ read 0)
in_pieces at text (Some rest) params lacks read = (pieces 59 rest, pieces_joined 59 text rest lacks, read (at + length text + 1))

params_text : (params : List Param) → AreUriParams params → ParamsText params
unfolding AreUriParams spelled_param params_at led
params_text [] h = record { inner = None; text = refl; read = λ at. refl }
params_text (param ∷ params) h =
    let rest = params_text params h.1 in
    let one = param.name ++ led 61 param.value in
    let lacks = param_lacks 59 param.name param.value param_no_signs.0 refl h.0.0 h.0.1 in
    record {
      inner = Some (one ++ led 59 rest.inner);
      text = ap (λ l. 59 ∷ (one ++ l)) rest.text;
      read = λ at. (let cut = in_pieces at one rest.inner params lacks rest.read in ap (params_in at) cut.1 ∙ first_then at one cut.0 param params (param_read at param.name param.value h.0.0 h.0.1) cut.2);
    }

params_lack : (sign : ℕ) (params : List Param) → is_param_byte sign ≡ false → (61 == sign) ≡ false → (59 == sign) ≡ false → AreUriParams params → has sign (flat_map spelled_param params) ≡ false
unfolding AreUriParams spelled_param has
params_lack sign [] s e f h = refl
params_lack sign (param ∷ params) s e f h =
    lacks_joined sign (59 ∷ (param.name ++ led 61 param.value)) (flat_map spelled_param params) (both_false (59 == sign) (has sign (param.name ++ led 61 param.value)) f (param_lacks sign param.name param.value s e h.0.0 h.0.1))
    (params_lack sign params s e f h.1)

-- ## Behind the user

sent_no_signs : (is_sent_byte 59 ≡ false) × (is_sent_byte 63 ≡ false) × (is_sent_byte 64 ≡ false)
unfolding is_sent_byte
sent_no_signs = (refl, refl, refl)

-- by the parts of the text
abbrev by_parts : ℕ → Option Bytes → Bytes → Bytes → Option Bytes → Option Bytes → Result Uri Fault
by_parts at user front sent params headers =
    then_read (sent_at at sent) (λ s.
    then_read (params_at (at + length sent + 1) params) (λ ps.
    then_read (headers_at (at + length front + 1) headers) (λ hs.
    Ok (Sip (record { user = user; host = s.0; port = s.1; params = ps; headers = hs })))))

headers_read : (at : ℕ) (headers : Option Bytes) → option_map_or is_open headers true ≡ true → headers_at at headers ≡ Ok headers
unfolding headers_at
headers_read at headers h = ap (λ t. cond t (Ok headers) (Err (param_fault at))) h

parts_read : (at : ℕ) (user : Option Bytes) (front sent host : Bytes) (port : Option ℕ) (inner headers : Option Bytes) (params : List Param) → sent_at at sent ≡ Ok (host, port) → params_at (at + length sent + 1) inner ≡ Ok params
    → option_map_or is_open headers true ≡ true → by_parts at user front sent inner headers ≡ Ok (Sip (record { user = user; host = host; port = port; params = params; headers = headers }))
unfolding then_read
parts_read at user front sent host port inner headers params s p h =
    ap (λ r. then_read r (λ q. then_read (params_at (at + length sent + 1) inner) (λ ps. then_read (headers_at (at + length front + 1) headers) (λ hs. Ok (Sip (record { user = user; host = q.0; port = q.1; params = ps; headers = hs })))))) s
    ∙ ap (λ r. then_read r (λ ps. then_read (headers_at (at + length front + 1) headers) (λ hs. Ok (Sip (record { user = user; host = host; port = port; params = ps; headers = hs }))))) p
    ∙ ap (λ r. then_read r (λ hs. Ok (Sip (record { user = user; host = host; port = port; params = params; headers = hs })))) (headers_read (at + length front + 1) headers h)

cut_parts : (at : ℕ) (user : Option Bytes) (sent : Bytes) (inner headers : Option Bytes) → has 63 (sent ++ led 59 inner) ≡ false → has 59 sent ≡ false → sip_behind at user ((sent ++ led 59 inner) ++ led 63 headers) ≡ by_parts at user (sent ++ led 59 inner) sent inner headers
unfolding sip_behind sent_in params_text_in
cut_parts at user sent inner headers q s =
    let front = sent ++ led 59 inner in
    let outer = cut_led 63 front headers q in
    let parts = cut_led 59 sent inner s in
    ap (λ f. by_parts at user f (before 59 f) (after 59 f) (after 63 (front ++ led 63 headers))) outer.0 ∙ ap (λ hs. by_parts at user front (before 59 front) (after 59 front) hs) outer.1
    ∙ ap (λ b. by_parts at user front b (after 59 front) headers) parts.0 ∙ ap (λ a. by_parts at user front sent a headers) parts.1

regroup : (host port params headers : Bytes) → host ++ (port ++ (params ++ headers)) ≡ ((host ++ port) ++ params) ++ headers
regroup host port params headers = sym (append_assoc (host ++ port) params headers ∙ append_assoc host port (params ++ headers))

behind_read : (at : ℕ) (uri : SipUri) (port : Bytes) → IsSipUri uri → IsPortSpelled port uri.port → sip_behind at uri.user (spelled_behind uri port) ≡ Ok (Sip uri)
behind_read at uri port kept p =
    let sent = uri.host ++ port in
    let bytes = sent_bytes uri.host port uri.port kept.host p in
    let params = params_text uri.params kept.params in
    let whole = regroup uri.host port (flat_map spelled_param uri.params) (led 63 uri.headers) ∙ ap (λ l. (sent ++ l) ++ led 63 uri.headers) params.text in
    let free : has 63 (sent ++ led 59 params.inner) ≡ false =
    ap (λ l. has 63 (sent ++ l)) (sym params.text) ∙ lacks_joined 63 sent (flat_map spelled_param uri.params) (class_lacks is_sent_byte 63 sent sent_no_signs.1 bytes.0) (params_lack 63 uri.params param_no_signs.2 refl refl kept.params) in
    ap (sip_behind at uri.user) whole ∙ cut_parts at uri.user sent params.inner uri.headers free (class_lacks is_sent_byte 59 sent sent_no_signs.0 bytes.0)
    ∙ parts_read at uri.user (sent ++ led 59 params.inner) sent uri.host uri.port params.inner uri.headers uri.params (sent_is_read at uri.host port uri.port kept.host p) (params.read (at + length sent + 1)) kept.headers

headers_lack : (o : Option Bytes) → IsUser None o → has 64 (led 63 o) ≡ false
unfolding IsUser led has
headers_lack None h = refl
headers_lack (Some headers) h = h

-- without a user no @ stands behind
behind_lacks : (uri : SipUri) (port : Bytes) → IsSipUri uri → IsPortSpelled port uri.port → uri.user ≡ None → has 64 (spelled_behind uri port) ≡ false
unfolding IsUser
behind_lacks uri port kept p none =
    let sent = uri.host ++ port in
    let bytes = sent_bytes uri.host port uri.port kept.host p in
    ap (has 64) (regroup uri.host port (flat_map spelled_param uri.params) (led 63 uri.headers))
    ∙ lacks_joined 64 (sent ++ flat_map spelled_param uri.params) (led 63 uri.headers)
    (lacks_joined 64 sent (flat_map spelled_param uri.params) (class_lacks is_sent_byte 64 sent sent_no_signs.2 bytes.0) (params_lack 64 uri.params param_no_signs.3 refl refl kept.params))
    (headers_lack uri.headers (subst (λ (u : Option Bytes). IsUser u uri.headers) none kept.user))

-- ## URIs

abbrev by_user : ℕ → Bytes → Option Bytes → Result Uri Fault
by_user at text rest =
    cond (option_map_or is_open (option_map (λ _. before 64 text) rest) true) (sip_behind (at + (length text - length (unwrap_or rest text))) (option_map (λ _. before 64 text) rest) (unwrap_or rest text)) (Err (host_fault at))

by_user_is : (at : ℕ) (text : Bytes) → sip_at at text ≡ by_user at text (after 64 text)
unfolding sip_at user_in behind_user
by_user_is at text = refl

user_read : (at : ℕ) (user : Option Bytes) (behind : Bytes) (uri : Uri) → (headers : Option Bytes) → IsUser user headers → (user ≡ None → has 64 behind ≡ false) → ((n : ℕ) → sip_behind n user behind ≡ Ok uri) → sip_at at (closed_by 64 user ++ behind) ≡ Ok uri
unfolding closed_by IsUser
user_read at None behind uri headers kept lacks read =
    by_user_is at behind ∙ ap (by_user at behind) (after_none 64 behind (lacks refl)) ∙ read (at + (length behind - length behind))
user_read at (Some user) behind uri headers kept lacks read =
    let text = user ++ 64 ∷ behind in
    ap (sip_at at) (append_assoc user (64 ∷ []) behind) ∙ by_user_is at text ∙ ap (by_user at text) (after_joined 64 user behind kept.1)
    ∙ ap (λ u. cond (is_open u) (sip_behind (at + (length text - length behind)) (Some u) behind) (Err (host_fault at))) (before_joined 64 user behind kept.1)
    ∙ ap (λ t. cond t (sip_behind (at + (length text - length behind)) (Some user) behind) (Err (host_fault at))) kept.0
    ∙ read (at + (length text - length behind))

sip_is_read : (text : Bytes) (uri : SipUri) → IsSipSpelled text uri → uri_of text ≡ Ok (Sip uri)
unfolding uri_behind
sip_is_read text uri (kept, scheme, port, same, p, is) =
    let rest = closed_by 64 uri.user ++ spelled_behind uri port in
    ap uri_of is ∙ by_scheme scheme rest (sip_is_scheme scheme same) ∙ ap (λ t. cond t (sip_at (length scheme + 1) rest) (other_of (scheme ++ 58 ∷ rest))) same
    ∙ user_read (length scheme + 1) uri.user (spelled_behind uri port) (Sip uri) uri.headers kept.user (behind_lacks uri port kept p) (λ n. behind_read n uri port kept p)

-- a text that spells a URI is read as it
pub spelled_is_read : (text : Bytes) (uri : Uri) → IsUriSpelled text uri → uri_of text ≡ Ok uri
unfolding IsUriSpelled
spelled_is_read text (Sip uri) h = sip_is_read text uri h
spelled_is_read text (Other other) h = other_is_read text other h

-- ## No URI holds a blank or an angle bracket

open_by : (p : ℕ → Bool) → ((b : ℕ) → p b ≡ true → is_closed b ≡ false) → (text : Bytes) → list_all p text ≡ true → is_open text ≡ true
unfolding is_open
open_by p free text h = all_weaker p (λ b. not (is_closed b)) (λ b e. ap not (free b e)) text h

-- a class without blank, angle bracket, CR, LF and NUL is open
opens : (p : ℕ → Bool) → p 32 ≡ false → p 9 ≡ false → p 60 ≡ false → p 62 ≡ false → p 13 ≡ false → p 10 ≡ false → p 0 ≡ false → (b : ℕ) → p b ≡ true → is_closed b ≡ false
unfolding is_closed
opens p s t l g c n z b h = rw (differs p b 32 s h, differs p b 9 t h, differs p b 60 l h, differs p b 62 g h, differs p b 13 c h, differs p b 10 n h, differs p b 0 z h) refl

sent_opens : (b : ℕ) → is_sent_byte b ≡ true → is_closed b ≡ false
unfolding is_sent_byte
sent_opens b h = opens is_sent_byte refl refl refl refl refl refl refl b h

pub letter_opens : (b : ℕ) → is_ascii_alphabetic b ≡ true → is_closed b ≡ false
letter_opens b h = opens is_ascii_alphabetic refl refl refl refl refl refl refl b h

param_opens : (b : ℕ) → is_param_byte b ≡ true → is_closed b ≡ false
unfolding is_param_byte is_mark is_param_sign
param_opens b h = opens is_param_byte refl refl refl refl refl refl refl b h

signs_open : (is_open (58 ∷ []) ≡ true) × (is_open (59 ∷ []) ≡ true) × (is_open (61 ∷ []) ≡ true) × (is_open (63 ∷ []) ≡ true) × (is_open (64 ∷ []) ≡ true) × (is_open [] ≡ true)
unfolding is_open is_closed
signs_open = (refl, refl, refl, refl, refl, refl)

led_open : (sign : ℕ) (o : Option Bytes) → is_open (sign ∷ []) ≡ true → option_map_or is_open o true ≡ true → is_open (led sign o) ≡ true
unfolding led
led_open sign None s h = signs_open.5
led_open sign (Some text) s h = open_joined (sign ∷ []) text s h

value_open : (o : Option Bytes) → is_param_value o ≡ true → option_map_or is_open o true ≡ true
unfolding is_param_value
value_open None h = refl
value_open (Some value) h = open_by is_param_byte param_opens value h

params_open : (params : List Param) → AreUriParams params → is_open (flat_map spelled_param params) ≡ true
unfolding AreUriParams spelled_param
params_open [] h = signs_open.5
params_open (param ∷ params) h =
    open_joined (59 ∷ (param.name ++ led 61 param.value)) (flat_map spelled_param params)
    (open_joined (59 ∷ []) (param.name ++ led 61 param.value) signs_open.1 (open_joined param.name (led 61 param.value) (open_by is_param_byte param_opens param.name (name_bytes param.name h.0.0)) (led_open 61 param.value signs_open.2 (value_open param.value h.0.1))))
    (params_open params h.1)

user_open : (user headers : Option Bytes) → IsUser user headers → is_open (closed_by 64 user) ≡ true
unfolding IsUser closed_by
user_open None headers h = signs_open.5
user_open (Some user) headers h = open_joined user (64 ∷ []) h.0 signs_open.4

sip_open : (text : Bytes) (uri : SipUri) → IsSipSpelled text uri → is_open text ≡ true
sip_open text uri (kept, scheme, port, same, p, is) =
    let bytes = sent_bytes uri.host port uri.port kept.host p in
    let behind : is_open (spelled_behind uri port) ≡ true =
    ap is_open (regroup uri.host port (flat_map spelled_param uri.params) (led 63 uri.headers))
    ∙ open_joined ((uri.host ++ port) ++ flat_map spelled_param uri.params) (led 63 uri.headers) (open_joined (uri.host ++ port) (flat_map spelled_param uri.params) (open_by is_sent_byte sent_opens (uri.host ++ port) bytes.0) (params_open uri.params kept.params))
    (led_open 63 uri.headers signs_open.3 kept.headers) in
    ap is_open is ∙ open_joined scheme (58 ∷ (closed_by 64 uri.user ++ spelled_behind uri port)) (open_by is_ascii_alphabetic letter_opens scheme (sip_letters scheme same))
    (open_joined (58 ∷ []) (closed_by 64 uri.user ++ spelled_behind uri port) signs_open.0 (open_joined (closed_by 64 uri.user) (spelled_behind uri port) (user_open uri.user uri.headers kept.user) behind))

pub uri_is_open : (text : Bytes) (uri : Uri) → IsUriSpelled text uri → is_open text ≡ true
unfolding IsUriSpelled
uri_is_open text (Sip uri) h = sip_open text uri h
uri_is_open text (Other other) h = h.1
