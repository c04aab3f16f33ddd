-- A `sip:` URI, part by part.
use Rattle.std.proofs.Common.{◌≡◌, ℕ, true, false, cond, Option, Some, None, Result, Ok, Err, List, ◌∷◌, ◌++◌, ◌+◌, ◌-◌, ◌≤◌, ◌^◌, Bor, length, refl, sym, ap, ◌∙◌, arith}
use Rattle.std.specs.Prelude.{unwrap_or, IfSome}
use Rattle.std.specs.Option.{option_map, option_map_or}
use Rattle.sc_value.specs.declared.parts.Param.{Param}
use Rattle.sc_value.specs.declared.parts.Uri.{Uri}
use Rattle.sc_value.specs.declared.parts.Uri.TheVariants.{Sip}
use Rattle.sc_tokens.specs.Bytes.{Bytes, is_open}
use Rattle.sc_tokens.specs.Cuts.{has, before, after}
use Rattle.sc_tokens.specs.Names.{same_name}
use Rattle.sc_tokens.specs.UriTokens.{IsOtherSpelled, IsUser, is_scheme, sip_scheme}
use Rattle.sc_syntax.specs.UriParts.{Fault, host_fault, then_read, sent_at, params_at, headers_at}
use Rattle.sc_syntax.specs.SpelledUris.{behind_sign as led}
use Rattle.sc_syntax.proofs.PartLaws.{led_text, lacks_before, lacks_all, lacks_after}
use Rattle.sc_uri_text.specs.Answers.{IsFault}
use Rattle.sc_uri_text.specs.declared.refused.UriRefused.{UriRefused}
use Rattle.sc_uri_text.specs.declared.refused.UriRefused.TheVariants.{Refused, NoMemory}
use Rattle.sc_syntax.specs.Uris.{user_in, behind_user, sent_in, params_text_in, sip_behind, sip_at}

-- ## The scheme

-- what stands before the colon, and behind it
pub parts_joined : (text scheme rest : Bytes) → scheme ≡ before 58 text → after 58 text ≡ Some rest → text ≡ scheme ++ 58 ∷ rest
unfolding led
parts_joined text scheme rest is h = sym (led_text 58 text) ∙ ap (λ r. before 58 text ++ led 58 r) h ∙ ap (λ s. s ++ 58 ∷ rest) (sym is)

-- an open text of another scheme is a URI
pub other_kept : (text scheme rest : Bytes) → text ≡ scheme ++ 58 ∷ rest → is_scheme scheme ≡ true → same_name scheme sip_scheme ≡ false → is_open text ≡ true → IsOtherSpelled text text
other_kept text scheme rest is named other free = (refl, free, scheme, rest, named, other, is)

-- ## The user

-- by what stands after the first @
abbrev by_user : ℕ → Bytes → Option Bytes → Result Uri Fault
by_user at text rest =
    cond (option_map_or is_open (option_map (λ _. before 64 text) rest) true) (sip_behind (at + (length text - length (unwrap_or rest text))) (option_map (λ _. before 64 text) rest) (unwrap_or rest text)) (Err (host_fault at))

by_user_is : (at : ℕ) (text : Bytes) → sip_at at text ≡ by_user at text (after 64 text)
unfolding sip_at user_in behind_user
by_user_is at text = refl

pub with_user : (at : ℕ) (text user rest : Bytes) → user ≡ before 64 text → after 64 text ≡ Some rest → is_open user ≡ true → length user + length rest + 1 ≡ length text → sip_at at text ≡ sip_behind (at + length user + 1) (Some user) rest
with_user at text user rest is h free sum =
    let place : ◌≡◌ {A = ℕ} (at + (length text - length rest)) (at + length user + 1) = omega (arith, sum) in
    by_user_is at text ∙ ap (by_user at text) h
    ∙ ap (λ u. cond (is_open u) (sip_behind (at + (length text - length rest)) (Some u) rest) (Err (host_fault at))) (sym is)
    ∙ ap (λ b. cond b (sip_behind (at + (length text - length rest)) (Some user) rest) (Err (host_fault at))) free
    ∙ ap (λ n. sip_behind n (Some user) rest) place

pub closed_user : (at : ℕ) (text user rest : Bytes) → user ≡ before 64 text → after 64 text ≡ Some rest → is_open user ≡ false → sip_at at text ≡ Err (host_fault at)
closed_user at text user rest is h closed =
    by_user_is at text ∙ ap (by_user at text) h
    ∙ ap (λ u. cond (is_open u) (sip_behind (at + (length text - length rest)) (Some u) rest) (Err (host_fault at))) (sym is)
    ∙ ap (λ b. cond b (sip_behind (at + (length text - length rest)) (Some user) rest) (Err (host_fault at))) closed

pub no_user : (at : ℕ) (text : Bytes) → after 64 text ≡ None → sip_at at text ≡ sip_behind at None text
no_user at text h =
    let place : ◌≡◌ {A = ℕ} (at + (length text - length text)) at = omega arith in
    by_user_is at text ∙ ap (by_user at text) h ∙ ap (λ n. sip_behind n None text) place

-- a user has no @; without one the text has none
pub user_kept : (text user rest : Bytes) → user ≡ before 64 text → is_open user ≡ true → IsUser (Some user) (Some rest)
unfolding IsUser
user_kept text user rest is free = (free, ap (has 64) is ∙ lacks_before 64 text)

pub no_user_kept : (text : Bytes) → after 64 text ≡ None → IsUser None (Some text)
unfolding IsUser
no_user_kept text h = lacks_all 64 text h

-- and so have the headers
pub user_of_text : (user : Option Bytes) (text : Bytes) (headers : Option Bytes) → IsUser user (Some text) → headers ≡ after 63 text → IsUser user headers
unfolding IsUser
user_of_text (Some user) text headers h is = h
user_of_text None text None h is = tt
user_of_text None text (Some headers) h is = lacks_after 64 63 text headers (sym is) h

-- ## Behind the user

-- by the parts of the text
abbrev by_parts : ℕ → Option Bytes → Bytes → Bytes → Option Bytes → Option Bytes → Result Uri Fault
by_parts at user front sent params headers =
    then_read (sent_at at sent) (λ s.
    then_read (params_at (at + length sent + 1) params) (λ ps.
    then_read (headers_at (at + length front + 1) headers) (λ hs.
    Ok (Sip (record { user = user; host = s.0; port = s.1; params = ps; headers = hs })))))

-- the parts are those of the text
pub record AreParts (text front sent : Bytes) (params headers : Option Bytes) : Type 0 where
  pub front_is : front ≡ before 63 text
  pub headers_is : headers ≡ after 63 text
  pub sent_is : sent ≡ before 59 front
  pub params_is : params ≡ after 59 front

by_parts_is : (at : ℕ) (user : Option Bytes) (text front sent : Bytes) (params headers : Option Bytes) → AreParts text front sent params headers → sip_behind at user text ≡ by_parts at user front sent params headers
unfolding sip_behind sent_in params_text_in
by_parts_is at user text front sent params headers p =
    ap (λ f. by_parts at user f (before 59 f) (after 59 f) (after 63 text)) (sym p.front_is)
    ∙ ap (λ s. by_parts at user front s (after 59 front) (after 63 text)) (sym p.sent_is)
    ∙ ap (λ ps. by_parts at user front sent ps (after 63 text)) (sym p.params_is)
    ∙ ap (λ hs. by_parts at user front sent params hs) (sym p.headers_is)

then_fault : {A B : Type 0} (r : Result A Fault) (next : A → Result B Fault) (fault : Fault) → r ≡ Err fault → then_read r next ≡ Err fault
unfolding then_read
then_fault r next fault h = ap (λ q. then_read q next) h

then_ok : {A B : Type 0} (r : Result A Fault) (next : A → Result B Fault) (a : A) → r ≡ Ok a → then_read r next ≡ next a
unfolding then_read
then_ok r next a h = ap (λ q. then_read q next) h

module _ (at : ℕ) (user : Option Bytes) (text front sent : Bytes) (params headers : Option Bytes) (parts : AreParts text front sent params headers) where
  abbrev last : Bytes → Option ℕ → List Param → Option Bytes → Result Uri Fault
  last host port ps hs = Ok (Sip (record { user = user; host = host; port = port; params = ps; headers = hs }))

  abbrev after_params : Bytes → Option ℕ → List Param → Result Uri Fault
  after_params host port ps = then_read (headers_at (at + length front + 1) headers) (last host port ps)

  abbrev after_sent : Bytes × Option ℕ → Result Uri Fault
  after_sent s = then_read (params_at (at + length sent + 1) params) (after_params s.0 s.1)

  sent_refused : (fault : Fault) → sent_at at sent ≡ Err fault → sip_behind at user text ≡ Err fault
  sent_refused fault h = by_parts_is at user text front sent params headers parts ∙ then_fault (sent_at at sent) after_sent fault h

  params_refused : (host : Bytes) (port : Option ℕ) (fault : Fault) → sent_at at sent ≡ Ok (host, port) → params_at (at + length sent + 1) params ≡ Err fault → sip_behind at user text ≡ Err fault
  params_refused host port fault h g =
      by_parts_is at user text front sent params headers parts ∙ then_ok (sent_at at sent) after_sent (host, port) h
      ∙ then_fault (params_at (at + length sent + 1) params) (after_params host port) fault g

  headers_refused : (host : Bytes) (port : Option ℕ) (ps : List Param) (fault : Fault) → sent_at at sent ≡ Ok (host, port) → params_at (at + length sent + 1) params ≡ Ok ps
      → headers_at (at + length front + 1) headers ≡ Err fault → sip_behind at user text ≡ Err fault
  headers_refused host port ps fault h g f =
      by_parts_is at user text front sent params headers parts ∙ then_ok (sent_at at sent) after_sent (host, port) h
      ∙ then_ok (params_at (at + length sent + 1) params) (after_params host port) ps g
      ∙ then_fault (headers_at (at + length front + 1) headers) (last host port ps) fault f

  pub all_read : (host : Bytes) (port : Option ℕ) (ps : List Param) (hs : Option Bytes) → sent_at at sent ≡ Ok (host, port) → params_at (at + length sent + 1) params ≡ Ok ps
      → headers_at (at + length front + 1) headers ≡ Ok hs → sip_behind at user text ≡ Ok (Sip (record { user = user; host = host; port = port; params = ps; headers = hs }))
  all_read host port ps hs h g f =
      by_parts_is at user text front sent params headers parts ∙ then_ok (sent_at at sent) after_sent (host, port) h
      ∙ then_ok (params_at (at + length sent + 1) params) (after_params host port) ps g
      ∙ then_ok (headers_at (at + length front + 1) headers) (last host port ps) hs f

  pub sent_fault : (refused : UriRefused) → IsFault refused (sent_at at sent) → IsFault refused (sip_behind at user text)
  sent_fault (Refused place kind) h = sent_refused (record { at = place; kind = kind }) h
  sent_fault NoMemory h = tt

  pub params_fault : (host : Bytes) (port : Option ℕ) (refused : UriRefused) → sent_at at sent ≡ Ok (host, port) → IsFault refused (params_at (at + length sent + 1) params) → IsFault refused (sip_behind at user text)
  params_fault host port (Refused place kind) h g = params_refused host port (record { at = place; kind = kind }) h g
  params_fault host port NoMemory h g = tt

  pub headers_fault : (host : Bytes) (port : Option ℕ) (ps : List Param) (refused : UriRefused) → sent_at at sent ≡ Ok (host, port) → params_at (at + length sent + 1) params ≡ Ok ps
      → IsFault refused (headers_at (at + length front + 1) headers) → IsFault refused (sip_behind at user text)
  headers_fault host port ps (Refused place kind) h g f = headers_refused host port ps (record { at = place; kind = kind }) h g f
  headers_fault host port ps NoMemory h g f = tt

-- ## Places

-- what stands behind a part has room for its places
pub has_room : (o : Option (Bor Bytes)) (at n all : ℕ) → IfSome o (λ rest. n + length rest.now + 1 ≡ all) → at + all ≤ 2 ^ 63 → IfSome o (λ rest. at + n + 1 + length rest.now ≤ 2 ^ 63 + 1)
has_room None at n all h fits = tt
has_room (Some rest) at n all h fits = omega (arith, h, fits)
