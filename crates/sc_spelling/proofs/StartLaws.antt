-- A start line that is spelled is read.
use Rattle.std.proofs.Common.{◌≡◌, ℕ, Bool, true, false, cond, not, Some, None, Ok, Err, [], ◌∷◌, ◌++◌, ◌&&◌, ◌==◌, ◌≤◌, length, refl, sym, ap, ◌∙◌, arith}
use Rattle.std.specs.Prelude.{codes, is_some, nat_eq, nat_le}
use Rattle.std.specs.List.{list_all}
use Rattle.std.specs.Option.{option_map_or, option_and_then}
use Rattle.std.specs.Result.{result_ok}
use Rattle.std.specs.Char.{is_ascii_digit, to_ascii_lowercase}
use Rattle.std.proofs.lemmas.Bool.{false≢true}
use Rattle.std.proofs.lemmas.Bool.Decides.{nat_tests}
use Rattle.std.proofs.lemmas.List.Folds.{list_all-append}
use Rattle.sc_tokens.specs.Names.{same_bytes, same_name}
use Rattle.sc_tokens.specs.Tokens.{is_token, is_token_byte, is_line_break, is_one_line}
use Rattle.sc_value.specs.declared.parts.Uri.{Uri}
use Rattle.sc_value.specs.declared.message.Message.{Message}
use Rattle.sc_value.specs.declared.message.Message.TheVariants as messages
use Rattle.sc_syntax.specs.declared.left.Start.{Start}
use Rattle.sc_syntax.specs.declared.left.Start.TheVariants.{Request, Status}
use Rattle.sc_tokens.specs.Bytes.{Bytes, is_closed, is_open}
use Rattle.sc_tokens.specs.Numbers.{number_below}
use Rattle.sc_tokens.specs.Cuts.{has, before}
use Rattle.sc_syntax.specs.Uris.{uri_of}
use Rattle.sc_syntax.specs.StartLines.{is_version, request_in, request_behind, request_of, at_least_100, code_of, status_in, status_behind, status_of, is_status_line, is_broken, start_of}
use Rattle.sc_syntax.proofs.BlankLaws.{both, and_true}
use Rattle.sc_syntax.proofs.ClassLaws.{differs, all_weaker, class_lacks, before_joined, after_joined, both_false, itself}
use Rattle.sc_syntax.proofs.ParameterLaws.{token_is}
use Rattle.sc_syntax.proofs.HostLaws.{number_digits, digits_are}
use Rattle.sc_syntax.proofs.SpelledUriLaws.{spelled_is_read, uri_is_open}
use Rattle.sc_spelling.specs.SpelledStarts.{IsCodeSpelled, IsRequestLine, IsStatusLine, IsStartSpelled}

-- the start of the message
unfoldable pub start_at : Message → Start
start_at (messages.Request request) = Request request.method request.uri
start_at (messages.Response response) = Status response.code response.reason

-- ## Lines

pub line_joined : (a b : Bytes) → is_one_line a ≡ true → is_one_line b ≡ true → is_one_line (a ++ b) ≡ true
unfolding is_one_line
line_joined a b g h = list_all-append (λ c. not (is_line_break c)) a b ∙ and_true (list_all (λ c. not (is_line_break c)) a) (list_all (λ c. not (is_line_break c)) b) g h

-- a class without CR, LF and NUL
pub line_by : (p : ℕ → Bool) → p 13 ≡ false → p 10 ≡ false → p 0 ≡ false → (b : ℕ) → p b ≡ true → not (is_line_break b) ≡ true
unfolding is_line_break
line_by p r n z b h = rw (differs p b 13 r h, differs p b 10 n h, differs p b 0 z h) refl

pub class_line : (p : ℕ → Bool) → p 13 ≡ false → p 10 ≡ false → p 0 ≡ false → (text : Bytes) → list_all p text ≡ true → is_one_line text ≡ true
unfolding is_one_line
class_line p r n z text h = all_weaker p (λ b. not (is_line_break b)) (line_by p r n z) text h

pub token_line : (text : Bytes) → is_token text ≡ true → is_one_line text ≡ true
unfolding is_token_byte
token_line text h = class_line is_token_byte refl refl refl text (token_is text h).1

pub open_line : (text : Bytes) → is_open text ≡ true → is_one_line text ≡ true
unfolding is_open is_closed
open_line text h = class_line (λ b. not (is_closed b)) refl refl refl text h

pub digits_line : (text : Bytes) → list_all is_ascii_digit text ≡ true → is_one_line text ≡ true
digits_line text h = class_line is_ascii_digit refl refl refl text h

pub words_line : (is_one_line (codes "SIP/2.0") ≡ true) × (is_one_line (32 ∷ []) ≡ true)
unfolding is_one_line is_line_break
words_line = (refl, refl)

line_lacks : (text : Bytes) → is_one_line text ≡ true → (has 13 text ≡ false) × (has 10 text ≡ false)
unfolding is_one_line is_line_break
line_lacks text h = (class_lacks (λ b. not (is_line_break b)) 13 text refl h, class_lacks (λ b. not (is_line_break b)) 10 text refl h)

unbroken : (text : Bytes) → is_one_line text ≡ true → is_broken text ≡ false
unfolding is_broken
unbroken text h = let lacks = line_lacks text h in both_false (has 13 text) (has 10 text) lacks.0 lacks.1

pub same_itself : (text : Bytes) → same_bytes text text ≡ true
same_itself [] = refl
same_itself (b ∷ bs) = and_true (nat_eq b b) (same_bytes bs bs) (itself b) (same_itself bs)

-- ## Request lines

no_and : (a b : Bool) → b ≡ false → (a && b) ≡ false
no_and true b h = h
no_and false b h = refl

lower_slash : (b : ℕ) → (to_ascii_lowercase b == 47) ≡ true → b ≡ 47
lower_slash b h = grind (arith, nat_tests, h)

no_slash : (b : ℕ) → is_token_byte b ≡ true → (to_ascii_lowercase b == 47) ≡ false
unfolding is_token_byte
no_slash b h = elim (to_ascii_lowercase b == 47) as (λ (t : Bool). (to_ascii_lowercase b == 47) ≡ t → t ≡ false) [
  | true ↦ λ e. sym (sym (ap is_token_byte (lower_slash b e)) ∙ h)
  | false ↦ λ e. refl
] refl

method_no_status : (method rest : Bytes) → (length method == 0) ≡ false → list_all is_token_byte method ≡ true → is_status_line (method ++ 32 ∷ rest) ≡ false
unfolding is_status_line same_name
method_no_status [] rest some h = absurd (false≢true (sym some))
method_no_status (a ∷ []) rest some h = no_and (to_ascii_lowercase a == 115) false refl
method_no_status (a ∷ b ∷ []) rest some h = no_and (to_ascii_lowercase a == 115) ((to_ascii_lowercase b == 105) && false) (no_and (to_ascii_lowercase b == 105) false refl)
method_no_status (a ∷ b ∷ c ∷ []) rest some h =
    no_and (to_ascii_lowercase a == 115) ((to_ascii_lowercase b == 105) && ((to_ascii_lowercase c == 112) && false)) (no_and (to_ascii_lowercase b == 105) ((to_ascii_lowercase c == 112) && false) (no_and (to_ascii_lowercase c == 112) false refl))
method_no_status (a ∷ b ∷ c ∷ d ∷ more) rest some h =
    let first = both (is_token_byte a) (list_all is_token_byte (b ∷ c ∷ d ∷ more)) h in
    let second = both (is_token_byte b) (list_all is_token_byte (c ∷ d ∷ more)) first.1 in
    let third = both (is_token_byte c) (list_all is_token_byte (d ∷ more)) second.1 in
    let fourth = both (is_token_byte d) (list_all is_token_byte more) third.1 in
    let last : ((to_ascii_lowercase d == 47) && true) ≡ false = ap (λ t. t && true) (no_slash d fourth.0) in
    no_and (to_ascii_lowercase a == 115) ((to_ascii_lowercase b == 105) && ((to_ascii_lowercase c == 112) && ((to_ascii_lowercase d == 47) && true)))
    (no_and (to_ascii_lowercase b == 105) ((to_ascii_lowercase c == 112) && ((to_ascii_lowercase d == 47) && true)) (no_and (to_ascii_lowercase c == 112) ((to_ascii_lowercase d == 47) && true) last))

space_class : (is_token_byte 32 ≡ false) × (not (is_closed 32) ≡ false) × (is_ascii_digit 32 ≡ false)
unfolding is_token_byte is_closed
space_class = (refl, refl, refl)

version_facts : (has 32 (codes "SIP/2.0") ≡ false) × (is_version (codes "SIP/2.0") ≡ true)
unfolding has is_version
version_facts = (refl, refl)

open_lacks : (text : Bytes) → is_open text ≡ true → has 32 text ≡ false
unfolding is_open
open_lacks text h = class_lacks (λ b. not (is_closed b)) 32 text space_class.1 h

request_parts : (method uri : Bytes) (target : Uri) → is_token method ≡ true → uri_of uri ≡ Ok target → request_in method uri (codes "SIP/2.0") ≡ Ok (Request method target)
unfolding request_in
request_parts method uri target token read =
    ap (λ t. cond t (Err 1) (cond (not (is_version (codes "SIP/2.0"))) (Err 2) (cond (not (is_token method)) (Err 3) (option_map_or (λ u. Ok (Request method u)) (result_ok (uri_of uri)) (Err 4))))) version_facts.0
    ∙ ap (λ t. cond (not t) (Err 2) (cond (not (is_token method)) (Err 3) (option_map_or (λ u. Ok (Request method u)) (result_ok (uri_of uri)) (Err 4)))) version_facts.1
    ∙ ap (λ t. cond (not t) (Err 3) (option_map_or (λ u. Ok (Request method u)) (result_ok (uri_of uri)) (Err 4))) token
    ∙ ap (λ r. option_map_or (λ u. Ok (Request method u)) (result_ok r) (Err 4)) read

-- what is known of a start line that is read
pub record StartsWith (line : Bytes) (start : Start) : Type 0 where
  pub one : is_one_line line ≡ true
  pub some : (b : ℕ) × (bs : Bytes) × (line ≡ b ∷ bs)
  pub read : start_of line ≡ Ok start

some_byte : (text rest : Bytes) → (length text == 0) ≡ false → (b : ℕ) × (bs : Bytes) × (text ++ rest ≡ b ∷ bs)
some_byte [] rest h = absurd (false≢true (sym h))
some_byte (b ∷ bs) rest h = (b, bs ++ rest, refl)

request_starts : (line method : Bytes) (target : Uri) → IsRequestLine line method target → StartsWith line (Request method target)
unfolding start_of request_of request_behind
request_starts line method target (token, uri, spelled, is) =
    let bytes = token_is method token in
    let free = uri_is_open uri target spelled in
    let rest = uri ++ 32 ∷ codes "SIP/2.0" in
    let one : is_one_line line ≡ true = ap is_one_line is
    ∙ line_joined method (32 ∷ rest) (token_line method token) (line_joined (32 ∷ []) rest words_line.1 (line_joined uri (32 ∷ codes "SIP/2.0") (open_line uri free) (line_joined (32 ∷ []) (codes "SIP/2.0") words_line.1 words_line.0))) in
    let lacks = class_lacks is_token_byte 32 method space_class.0 bytes.1 in
    let begin = some_byte method (32 ∷ rest) bytes.0 in
    record {
      one = one;
      some = (begin.0, begin.1, is ∙ begin.2);
      read = ap (λ t. cond t (Err 1) (cond (is_status_line line) (status_of line) (request_of line))) (unbroken line one)
          ∙ ap (λ t. cond t (status_of line) (request_of line)) (ap is_status_line is ∙ method_no_status method rest bytes.0 bytes.1)
          ∙ ap request_of is ∙ ap (λ o. option_map_or (request_behind (before 32 (method ++ 32 ∷ rest))) o (Err 1)) (after_joined 32 method rest lacks)
          ∙ ap (λ m. request_behind m rest) (before_joined 32 method rest lacks)
          ∙ ap (λ o. option_map_or (request_in method (before 32 rest)) o (Err 1)) (after_joined 32 uri (codes "SIP/2.0") (open_lacks uri free))
          ∙ ap (λ u. request_in method u (codes "SIP/2.0")) (before_joined 32 uri (codes "SIP/2.0") (open_lacks uri free)) ∙ request_parts method uri target token (spelled_is_read uri target spelled);
    }

-- ## Status lines

is_least : (n : ℕ) → 100 ≤ n → nat_le 100 n ≡ true
is_least n h = grind (arith, nat_tests, h)

is_three : (n : ℕ) → n ≡ 3 → (n == 3) ≡ true
is_three n h = grind (arith, nat_tests, h)

code_read : (text : Bytes) (code : ℕ) → IsCodeSpelled text code → code_of text ≡ Some code
unfolding code_of at_least_100
code_read text code (three, number, least) =
    ap (λ t. cond t (option_and_then at_least_100 (number_below 700 text)) None) (is_three (length text) three) ∙ ap (option_and_then at_least_100) number ∙ ap (λ t. cond t (Some code) None) (is_least code least)

status_word : (rest : Bytes) → is_status_line (codes "SIP/2.0" ++ rest) ≡ true
unfolding is_status_line same_name
status_word rest = refl

status_parts : (digits reason : Bytes) (code : ℕ) → is_one_line reason ≡ true → code_of digits ≡ Some code → status_in (codes "SIP/2.0") digits reason ≡ Ok (Status code reason)
unfolding status_in
status_parts digits reason code one read =
    ap (λ t. cond (not t) (Err 1) (cond (not (is_version (codes "SIP/2.0"))) (Err 2) (option_map_or (λ n. Ok (Status n reason)) (code_of digits) (Err 5)))) one
    ∙ ap (λ t. cond (not t) (Err 2) (option_map_or (λ n. Ok (Status n reason)) (code_of digits) (Err 5))) version_facts.1 ∙ ap (λ o. option_map_or (λ n. Ok (Status n reason)) o (Err 5)) read

status_starts : (line reason : Bytes) (code : ℕ) → IsStatusLine line code reason → StartsWith line (Status code reason)
unfolding start_of status_of status_behind
status_starts line reason code (plain, digits, spelled, is) =
    let bytes = digits_are digits (number_digits 700 digits (ap is_some spelled.1)) in
    let rest = digits ++ 32 ∷ reason in
    let one : is_one_line line ≡ true = ap is_one_line is
    ∙ line_joined (codes "SIP/2.0") (32 ∷ rest) words_line.0 (line_joined (32 ∷ []) rest words_line.1 (line_joined digits (32 ∷ reason) (digits_line digits bytes.1) (line_joined (32 ∷ []) reason words_line.1 plain))) in
    let lacks = class_lacks is_ascii_digit 32 digits space_class.2 bytes.1 in
    record {
      one = one;
      some = (83, codes "IP/2.0" ++ 32 ∷ rest, is);
      read = ap (λ t. cond t (Err 1) (cond (is_status_line line) (status_of line) (request_of line))) (unbroken line one)
          ∙ ap (λ t. cond t (status_of line) (request_of line)) (ap is_status_line is ∙ status_word (32 ∷ rest))
          ∙ ap status_of is ∙ ap (λ o. option_map_or (status_behind (before 32 (codes "SIP/2.0" ++ 32 ∷ rest))) o (Err 1)) (after_joined 32 (codes "SIP/2.0") rest version_facts.0)
          ∙ ap (λ v. status_behind v rest) (before_joined 32 (codes "SIP/2.0") rest version_facts.0)
          ∙ ap (λ o. option_map_or (status_in (codes "SIP/2.0") (before 32 rest)) o (Err 1)) (after_joined 32 digits reason lacks)
          ∙ ap (λ d. status_in (codes "SIP/2.0") d reason) (before_joined 32 digits reason lacks) ∙ status_parts digits reason code plain (code_read digits code spelled);
    }

pub start_is_read : (line : Bytes) (message : Message) → IsStartSpelled line message → StartsWith line (start_at message)
unfolding IsStartSpelled start_at
start_is_read line (messages.Request request) h = request_starts line request.method request.uri h
start_is_read line (messages.Response response) h = status_starts line response.reason response.code h
