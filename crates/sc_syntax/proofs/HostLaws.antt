-- Laws of hosts and ports: their bytes, and what is spelled is read.
use Rattle.std.proofs.Common.{◌≡◌, ℕ, suc, Bool, true, false, cond, not, Option, Some, None, Result, Ok, Err, List, [], ◌∷◌, ◌++◌, ◌+◌, ◌&&◌, ◌||◌, ◌==◌, ◌≤◌, length, take, drop, refl, sym, ap, subst, ◌∙◌, append_assoc, append-nil, length-append, arith}
use Rattle.std.specs.Prelude.{min, nat_le, nat_lt, is_some}
use Rattle.std.specs.List.{list_all, position_or_len}
use Rattle.std.specs.Option.{option_map, option_map_or}
use Rattle.std.specs.Char.{is_ascii_digit, is_ascii_hexdigit, is_ascii_alphanumeric}
use Rattle.std.proofs.lemmas.Bool.{false≢true}
use Rattle.std.proofs.lemmas.Bool.Decides.{nat_tests}
use Rattle.std.proofs.lemmas.List.Folds.{list_all-append}
use Rattle.std.proofs.Math.Seq.{take-append_seam, drop-append_seam}
use Rattle.sc_tokens.specs.Bytes.{Bytes, is_host_byte}
use Rattle.sc_tokens.specs.Numbers.{is_digits, number_in, number_below, port_of}
use Rattle.sc_tokens.specs.Cuts.{has, before, after, onto_first, pieces}
use Rattle.sc_tokens.specs.Hosts.{is_host_name, begins, is_octet, is_ipv4, is_group, groups_of, sum_of, groups_in, groups, begins_gap, gap_of, leaves_gap, is_full, is_ipv6, is_none_left, is_literal_end, is_host, host_len}
use Rattle.sc_syntax.specs.UriParts.{Fault, port_fault, then_read, port_in, is_port_start, sent_at}
use Rattle.sc_syntax.specs.SpelledUris.{behind_sign as led, IsPortSpelled}
use Rattle.sc_syntax.proofs.CutLaws.{some_same, none_some}
use Rattle.sc_syntax.proofs.PartLaws.{led_text, lacks_before}
use Rattle.sc_syntax.proofs.BlankLaws.{both, and_true}
use Rattle.sc_syntax.proofs.ClassLaws.{same_number, itself, positive, neither, all_weaker, class_lacks, not_true}
use Rattle.sc_syntax.proofs.DisplayLaws.{begins_text, none_left}

-- ## Bytes of hosts

-- the byte may stand in a host: one of a name, or a colon or bracket of a literal
unfoldable pub is_sent_byte : ℕ → Bool
is_sent_byte b = is_ascii_alphanumeric b || b == 45 || b == 46 || b == 58 || b == 91 || b == 93

abbrev pub AreSent : Bytes → Type 0
AreSent text = list_all is_sent_byte text ≡ true

host_sent : (b : ℕ) → is_host_byte b ≡ true → is_sent_byte b ≡ true
unfolding is_host_byte is_sent_byte
host_sent b h = by_class (is_ascii_alphanumeric b) (b == 45) (b == 46) (b == 58 || b == 91 || b == 93) (b == 58) (b == 91) (b == 93) h
  where
    by_class : (x y z r s t u : Bool) → (x || y || z) ≡ true → (x || y || z || s || t || u) ≡ true
    by_class true y z r s t u h = refl
    by_class false true z r s t u h = refl
    by_class false false true r s t u h = refl
    by_class false false false r s t u h = absurd (false≢true h)

by_alphanumeric : (b : ℕ) → is_ascii_alphanumeric b ≡ true → is_sent_byte b ≡ true
unfolding is_sent_byte
by_alphanumeric b h = rw h refl

digit_sent : (b : ℕ) → is_ascii_digit b ≡ true → is_sent_byte b ≡ true
digit_sent b h = by_alphanumeric b (grind (arith, nat_tests, h))

hex_sent : (b : ℕ) → is_ascii_hexdigit b ≡ true → is_sent_byte b ≡ true
hex_sent b h = by_alphanumeric b (grind (arith, nat_tests, h))

-- ## Bytes of pieces

all_onto : (p : ℕ → Bool) (b : ℕ) (texts : List Bytes) → list_all (list_all p) (onto_first b texts) ≡ true → (p b ≡ true) × (list_all (list_all p) texts ≡ true)
unfolding onto_first
all_onto p b [] h = ((both (p b) true (both (p b && true) true h).0).0, refl)
all_onto p b (text ∷ texts) h =
    let is = both (p b && list_all p text) (list_all (list_all p) texts) h in
    let one = both (p b) (list_all p text) is.0 in
    (one.0, and_true (list_all p text) (list_all (list_all p) texts) one.1 is.1)

-- a text is of a class where its pieces and the sign between them are
all_pieces : (p : ℕ → Bool) (sign : ℕ) (text : Bytes) → p sign ≡ true → list_all (list_all p) (pieces sign text) ≡ true → list_all p text ≡ true
unfolding pieces
all_pieces p sign [] s h = refl
all_pieces p sign (b ∷ bs) s h = by_sign (λ g. all_pieces p sign bs s g) (b == sign) refl h
  where
    by_sign : (list_all (list_all p) (pieces sign bs) ≡ true → list_all p bs ≡ true) → (t : Bool) → (b == sign) ≡ t → list_all (list_all p) (cond t ([] ∷ pieces sign bs) (onto_first b (pieces sign bs))) ≡ true → (p b && list_all p bs) ≡ true
    by_sign rest true e g = and_true (p b) (list_all p bs) (ap p (same_number b sign e) ∙ s) (rest g)
    by_sign rest false e g = let is = all_onto p b (pieces sign bs) g in and_true (p b) (list_all p bs) is.0 (rest is.1)

all_each : (p q : Bytes → Bool) → ((text : Bytes) → p text ≡ true → q text ≡ true) → (texts : List Bytes) → list_all p texts ≡ true → list_all q texts ≡ true
all_each p q each [] h = refl
all_each p q each (text ∷ texts) h = let is = both (p text) (list_all p texts) h in and_true (q text) (list_all q texts) (each text is.0) (all_each p q each texts is.1)

-- ## Bytes of literals

pub number_digits : (limit : ℕ) (text : Bytes) → is_some (number_below limit text) ≡ true → is_digits text ≡ true
unfolding number_below
number_digits limit text h = by_test (is_digits text) (nat_lt (number_in text) limit) h
  where
    by_test : (x y : Bool) → is_some (cond (x && y) (Some (number_in text)) None) ≡ true → x ≡ true
    by_test true y e = refl
    by_test false y e = absurd (false≢true e)

pub digits_are : (text : Bytes) → is_digits text ≡ true → ((length text == 0) ≡ false) × (list_all is_ascii_digit text ≡ true)
unfolding is_digits
digits_are text h = let is = both (not (length text == 0)) (list_all is_ascii_digit text) h in (not_true (length text == 0) is.0, is.1)

octet_sent : (text : Bytes) → is_octet text ≡ true → AreSent text
unfolding is_octet
octet_sent text h = all_weaker is_ascii_digit is_sent_byte digit_sent text (digits_are text (number_digits 256 text (both (is_some (number_below 256 text)) (length text == 1 || not (begins 48 text)) h).0)).1

dot_sent : is_sent_byte 46 ≡ true
unfolding is_sent_byte
dot_sent = refl

colon_sent : is_sent_byte 58 ≡ true
unfolding is_sent_byte
colon_sent = refl

bracket_sent : (is_sent_byte 91 ≡ true) × (is_sent_byte 93 ≡ true)
unfolding is_sent_byte
bracket_sent = (refl, refl)

ipv4_sent : (text : Bytes) → is_ipv4 text ≡ true → AreSent text
unfolding is_ipv4
ipv4_sent text h = all_pieces is_sent_byte 46 text dot_sent (all_each is_octet (list_all is_sent_byte) octet_sent (pieces 46 text) (both (length (pieces 46 text) == 4) (list_all is_octet (pieces 46 text)) h).1)

group_sent : (text : Bytes) → is_group text ≡ true → AreSent text
unfolding is_group
group_sent text h = all_weaker is_ascii_hexdigit is_sent_byte hex_sent text (third (not (length text == 0)) (nat_le (length text) 4) (list_all is_ascii_hexdigit text) h)
  where
    third : (x y z : Bool) → (x && y && z) ≡ true → z ≡ true
    third true true z e = e
    third true false z e = absurd (false≢true e)
    third false y z e = absurd (false≢true e)

some_group : (ipv4 : Bool) (text : Bytes) → is_some (groups_of ipv4 text) ≡ true → AreSent text
unfolding groups_of
some_group ipv4 text h = by_tests (is_group text) ipv4 (is_ipv4 text) refl refl h
  where
    by_tests : (x y z : Bool) → is_group text ≡ x → is_ipv4 text ≡ z → is_some {T = ℕ} (cond x (Some 1) (cond (y && z) (Some 2) None)) ≡ true → AreSent text
    by_tests true y z g f e = group_sent text g
    by_tests false true true g f e = ipv4_sent text f
    by_tests false true false g f e = absurd (false≢true e)
    by_tests false false z g f e = absurd (false≢true e)

sum_some : (m n : Option ℕ) → is_some (sum_of m n) ≡ true → (is_some m ≡ true) × (is_some n ≡ true)
unfolding sum_of
sum_some None n h = absurd (false≢true h)
sum_some (Some m) None h = absurd (false≢true h)
sum_some (Some m) (Some n) h = (refl, refl)

groups_in_sent : (ipv4 : Bool) (texts : List Bytes) → is_some (groups_in ipv4 texts) ≡ true → list_all (list_all is_sent_byte) texts ≡ true
unfolding groups_in
groups_in_sent ipv4 [] h = refl
groups_in_sent ipv4 (text ∷ texts) h =
    let is = sum_some (groups_of (ipv4 && length texts == 0) text) (groups_in ipv4 texts) h in
    and_true (list_all is_sent_byte text) (list_all (list_all is_sent_byte) texts) (some_group (ipv4 && length texts == 0) text is.0) (groups_in_sent ipv4 texts is.1)

groups_sent : (ipv4 : Bool) (text : Bytes) → is_some (groups ipv4 text) ≡ true → AreSent text
unfolding groups
groups_sent ipv4 [] h = refl
groups_sent ipv4 (b ∷ bs) h = all_pieces is_sent_byte 58 (b ∷ bs) colon_sent (groups_in_sent ipv4 (pieces 58 (b ∷ bs)) (ap (λ t. is_some {T = ℕ} (cond t (Some 0) (groups_in ipv4 (pieces 58 (b ∷ bs))))) (sym (positive (length bs))) ∙ h))

gap_first : (text : Bytes) → begins_gap text ≡ true → AreSent (drop 2 text) → AreSent text
unfolding begins_gap
gap_first [] h g = refl
gap_first (b ∷ []) h g =
    let is = both (begins 58 (b ∷ [])) (begins 58 []) h in absurd (let bad : [] ≡ 58 ∷ [] = begins_text 58 [] is.1 in cc)
gap_first (b ∷ (c ∷ bs)) h g =
    let is = both (begins 58 (b ∷ (c ∷ bs))) (begins 58 (c ∷ bs)) h in
    subst (λ (t : Bytes). AreSent t) (sym (begins_text 58 (b ∷ (c ∷ bs)) is.0)) (and_true (is_sent_byte 58) (list_all is_sent_byte (c ∷ bs)) colon_sent
    (subst (λ (t : Bytes). AreSent t) (sym (begins_text 58 (c ∷ bs) is.1)) (and_true (is_sent_byte 58) (list_all is_sent_byte bs) colon_sent g)))

-- round its gap a text is of the class
gap_sent : (text : Bytes) (gap : ℕ) → gap_of text ≡ Some gap → AreSent (take gap text) → AreSent (drop (gap + 2) text) → AreSent text
unfolding gap_of
gap_sent [] gap h f g = refl
gap_sent (b ∷ bs) gap h f g = by_gap (λ n e k l. gap_sent bs n e k l) (begins_gap (b ∷ bs)) refl h
  where
    drop_on : (n : ℕ) → drop (1 + n + 2) (b ∷ bs) ≡ drop (n + 2) bs
    drop_on n = let one : ◌≡◌ {A = ℕ} (1 + n + 2) (suc (n + 2)) = omega arith in rw one refl

    take_on : (n : ℕ) → take (1 + n) (b ∷ bs) ≡ b ∷ take n bs
    take_on n = let one : ◌≡◌ {A = ℕ} (1 + n) (suc n) = omega arith in rw one refl

    later : ((n : ℕ) → gap_of bs ≡ Some n → AreSent (take n bs) → AreSent (drop (n + 2) bs) → AreSent bs) → (o : Option ℕ) → gap_of bs ≡ o → option_map (λ n. 1 + n) o ≡ Some gap → AreSent (b ∷ bs)
    later rest None e k = absurd (none_some gap k)
    later rest (Some n) e k =
        let is = some_same (1 + n) gap k in
        let front = both (is_sent_byte b) (list_all is_sent_byte (take n bs)) (ap (list_all is_sent_byte) (sym (take_on n) ∙ ap (λ m. take m (b ∷ bs)) is) ∙ f) in
        and_true (is_sent_byte b) (list_all is_sent_byte bs) front.0 (rest n e front.1 (ap (list_all is_sent_byte) (sym (drop_on n) ∙ ap (λ m. drop (m + 2) (b ∷ bs)) is) ∙ g))

    by_gap : ((n : ℕ) → gap_of bs ≡ Some n → AreSent (take n bs) → AreSent (drop (n + 2) bs) → AreSent bs) → (t : Bool) → begins_gap (b ∷ bs) ≡ t → cond t (Some 0) (option_map (λ n. 1 + n) (gap_of bs)) ≡ Some gap → AreSent (b ∷ bs)
    by_gap rest true e k = gap_first (b ∷ bs) e (ap (λ m. list_all is_sent_byte (drop (m + 2) (b ∷ bs))) (some_same 0 gap k) ∙ g)
    by_gap rest false e k = later rest (gap_of bs) refl k

gap_or_full : (o : Option ℕ) → option_map_or (λ k. nat_le k 7) o false ≡ true → is_some o ≡ true
gap_or_full None h = absurd (false≢true h)
gap_or_full (Some n) h = refl

full_some : (o : Option ℕ) → option_map_or (λ k. k == 8) o false ≡ true → is_some o ≡ true
full_some None h = absurd (false≢true h)
full_some (Some n) h = refl

ipv6_sent : (text : Bytes) → is_ipv6 text ≡ true → AreSent text
unfolding is_ipv6 leaves_gap is_full
ipv6_sent text h = by_gap (gap_of text) refl h
  where
    by_gap : (o : Option ℕ) → gap_of text ≡ o → option_map_or (λ gap. option_map_or (λ k. nat_le k 7) (sum_of (groups false (take gap text)) (groups true (drop (gap + 2) text))) false) o (option_map_or (λ k. k == 8) (groups true text) false) ≡ true → AreSent text
    by_gap None e k = groups_sent true text (full_some (groups true text) k)
    by_gap (Some gap) e k =
        let is = sum_some (groups false (take gap text)) (groups true (drop (gap + 2) text)) (gap_or_full (sum_of (groups false (take gap text)) (groups true (drop (gap + 2) text))) k) in
        gap_sent text gap e (groups_sent false (take gap text) is.0) (groups_sent true (drop (gap + 2) text) is.1)

-- a host is a name without colon and opening bracket, or a literal up to its closing bracket
pub data IsHostForm (host : Bytes) : Type 0 where
  name : begins 91 host ≡ false → list_all is_host_byte host ≡ true → (length host == 0) ≡ false → IsHostForm host
  literal : (text : Bytes) → has 93 text ≡ false → AreSent text → host ≡ 91 ∷ (text ++ 93 ∷ []) → IsHostForm host

pub host_form : (host : Bytes) → is_host host ≡ true → IsHostForm host
unfolding is_host is_literal_end is_host_name led
host_form host h = by_first (begins 91 host) refl h
  where
    by_first : (t : Bool) → begins 91 host ≡ t → cond t (is_none_left (after 93 (drop 1 host)) && is_ipv6 (before 93 (drop 1 host))) (not (length host == 0) && list_all is_host_byte host) ≡ true → IsHostForm host
    by_first true e k =
        let is = both (is_none_left (after 93 (drop 1 host))) (is_ipv6 (before 93 (drop 1 host))) k in
        literal (before 93 (drop 1 host)) (lacks_before 93 (drop 1 host)) (ipv6_sent (before 93 (drop 1 host)) is.1)
        (begins_text 91 host e ∙ ap (λ l. 91 ∷ l) (sym (led_text 93 (drop 1 host)) ∙ ap (λ o. before 93 (drop 1 host) ++ led 93 o) (none_left (after 93 (drop 1 host)) is.0)))
    by_first false e k = let is = both (not (length host == 0)) (list_all is_host_byte host) k in name e is.1 (not_true (length host == 0) is.0)

sent_joined : (a b : Bytes) → AreSent a → AreSent b → AreSent (a ++ b)
sent_joined a b g h = list_all-append is_sent_byte a b ∙ and_true (list_all is_sent_byte a) (list_all is_sent_byte b) g h

-- all bytes of a host are of its class, and there is one at least
pub host_bytes : (host : Bytes) → is_host host ≡ true → AreSent host × ((length host == 0) ≡ false)
host_bytes host h = elim (host_form host h) as (λ _. AreSent host × ((length host == 0) ≡ false)) [
  | name e all some ↦ (all_weaker is_host_byte is_sent_byte host_sent host all, some)
  | literal text lacks all is ↦ subst (λ (l : Bytes). AreSent l × ((length l == 0) ≡ false)) (sym is)
      (sent_joined (91 ∷ []) (text ++ 93 ∷ []) (and_true (is_sent_byte 91) true bracket_sent.0 refl) (sent_joined text (93 ∷ []) all (and_true (is_sent_byte 93) true bracket_sent.1 refl)), positive (length (text ++ 93 ∷ [])))
]

-- ## Ports

some_digits : (text : Bytes) (n : ℕ) → port_of text ≡ Some n → is_digits text ≡ true
some_digits text n h = number_digits 65536 text (ap is_some h)

pub port_bytes : (text : Bytes) (port : Option ℕ) → IsPortSpelled text port → AreSent text
unfolding IsPortSpelled
port_bytes text None h = ap (list_all is_sent_byte) h
port_bytes text (Some port) (digits, is, whole) = ap (list_all is_sent_byte) whole ∙ and_true (is_sent_byte 58) (list_all is_sent_byte digits) colon_sent (all_weaker is_ascii_digit is_sent_byte digit_sent digits (digits_are digits (some_digits digits port is)).1)

-- a host with or without port behind it ends in a byte of the class
pub sent_bytes : (host port_text : Bytes) (port : Option ℕ) → is_host host ≡ true → IsPortSpelled port_text port → AreSent (host ++ port_text) × ((length (host ++ port_text) == 0) ≡ false)
sent_bytes host port_text port h p = let is = host_bytes host h in (sent_joined host port_text is.0 (port_bytes port_text port p), still_some host port_text is.1)
  where
    still_some : (a b : Bytes) → (length a == 0) ≡ false → (length (a ++ b) == 0) ≡ false
    still_some [] b e = absurd (false≢true (sym e))
    still_some (x ∷ xs) b e = positive (length (xs ++ b))

-- ## Host and port are read

place_joined : (sign : ℕ) (text rest : Bytes) → has sign text ≡ false → position_or_len (λ b. b == sign) (text ++ sign ∷ rest) ≡ length text
unfolding has
place_joined sign [] rest h = ap (λ t. cond (not t) (1 + position_or_len (λ b. b == sign) rest) 0) (itself sign)
place_joined sign (b ∷ bs) rest h =
    let is = neither (b == sign) (has sign bs) h in
    let one : ◌≡◌ {A = ℕ} (1 + length bs) (suc (length bs)) = omega arith in
    ap (λ t. cond (not t) (1 + position_or_len (λ c. c == sign) (bs ++ sign ∷ rest)) 0) is.0 ∙ ap (λ n. 1 + n) (place_joined sign bs rest is.1) ∙ one

place_none : (sign : ℕ) (text : Bytes) → has sign text ≡ false → position_or_len (λ b. b == sign) text ≡ length text
unfolding has
place_none sign [] h = refl
place_none sign (b ∷ bs) h =
    let is = neither (b == sign) (has sign bs) h in
    let one : ◌≡◌ {A = ℕ} (1 + length bs) (suc (length bs)) = omega arith in
    ap (λ t. cond (not t) (1 + position_or_len (λ c. c == sign) bs) 0) is.0 ∙ ap (λ n. 1 + n) (place_none sign bs is.1) ∙ one

host_no_colon : is_host_byte 58 ≡ false
unfolding is_host_byte
host_no_colon = refl

begins_joined : (sign : ℕ) (text rest : Bytes) → (length text == 0) ≡ false → begins sign (text ++ rest) ≡ begins sign text
unfolding begins
begins_joined sign [] rest h = absurd (false≢true (sym h))
begins_joined sign (b ∷ bs) rest h = refl

begins_here : (sign : ℕ) (text : Bytes) → begins sign (sign ∷ text) ≡ true
unfolding begins
begins_here sign text = itself sign

-- the place of the colon behind a name
name_len : (host port_text : Bytes) (port : Option ℕ) → list_all is_host_byte host ≡ true → IsPortSpelled port_text port → position_or_len (λ b. b == 58) (host ++ port_text) ≡ length host
unfolding IsPortSpelled
name_len host port_text None all h = let free = class_lacks is_host_byte 58 host host_no_colon all in ap (λ l. position_or_len (λ b. b == 58) (host ++ l)) h ∙ ap (position_or_len (λ b. b == 58)) (append-nil host) ∙ place_none 58 host free
name_len host port_text (Some port) all (digits, is, whole) = ap (λ l. position_or_len (λ b. b == 58) (host ++ l)) whole ∙ place_joined 58 host digits (class_lacks is_host_byte 58 host host_no_colon all)

literal_places : (n all m len : ℕ) → n ≡ m → len ≡ suc (suc m) → len ≤ all → min (1 + n + 1) all ≡ len
literal_places n all m len h g f = omega (arith, h, g, f)

literal_len : (text port_text : Bytes) → has 93 text ≡ false → min (position_or_len (λ b. b == 93) ((91 ∷ (text ++ 93 ∷ [])) ++ port_text) + 1) (length ((91 ∷ (text ++ 93 ∷ [])) ++ port_text)) ≡ length (91 ∷ (text ++ 93 ∷ []))
literal_len text port_text h =
    let place = ap (position_or_len (λ b. b == 93)) (append_assoc text (93 ∷ []) port_text) ∙ place_joined 93 text port_text h in
    let len : length (91 ∷ (text ++ 93 ∷ [])) ≡ suc (suc (length text)) = omega (arith, length-append text (93 ∷ [])) in
    let fits : length (91 ∷ (text ++ 93 ∷ [])) ≤ length ((91 ∷ (text ++ 93 ∷ [])) ++ port_text) = omega (arith, length-append (91 ∷ (text ++ 93 ∷ [])) port_text) in
    literal_places (position_or_len (λ b. b == 93) ((text ++ 93 ∷ []) ++ port_text)) (length ((91 ∷ (text ++ 93 ∷ [])) ++ port_text)) (length text) (length (91 ∷ (text ++ 93 ∷ []))) place len fits

host_len_is : (host port_text : Bytes) (port : Option ℕ) → is_host host ≡ true → IsPortSpelled port_text port → host_len (host ++ port_text) ≡ length host
unfolding host_len
host_len_is host port_text port h p = elim (host_form host h) as (λ _. cond (begins 91 (host ++ port_text)) (min (position_or_len (λ b. b == 93) (host ++ port_text) + 1) (length (host ++ port_text))) (position_or_len (λ b. b == 58) (host ++ port_text)) ≡ length host) [
  | name e all some ↦ ap (λ t. cond t (min (position_or_len (λ b. b == 93) (host ++ port_text) + 1) (length (host ++ port_text))) (position_or_len (λ b. b == 58) (host ++ port_text))) (begins_joined 91 host port_text some ∙ e) ∙ name_len host port_text port all p
  | literal text lacks all is ↦ subst (λ (l : Bytes). cond (begins 91 (l ++ port_text)) (min (position_or_len (λ b. b == 93) (l ++ port_text) + 1) (length (l ++ port_text))) (position_or_len (λ b. b == 58) (l ++ port_text)) ≡ length l) (sym is)
      (ap (λ t. cond t (min (position_or_len (λ b. b == 93) ((91 ∷ (text ++ 93 ∷ [])) ++ port_text) + 1) (length ((91 ∷ (text ++ 93 ∷ [])) ++ port_text))) (position_or_len (λ b. b == 58) ((91 ∷ (text ++ 93 ∷ [])) ++ port_text))) (begins_here 91 ((text ++ 93 ∷ []) ++ port_text)) ∙ literal_len text port_text lacks)
]

port_starts : (text : Bytes) (port : Option ℕ) → IsPortSpelled text port → is_port_start text ≡ true
unfolding IsPortSpelled is_port_start
port_starts text None h = ap (λ l. length l == 0 || begins 58 l) h
port_starts text (Some port) (digits, is, whole) = ap (λ l. length l == 0 || begins 58 l) whole ∙ or_second (suc (length digits) == 0) (begins 58 (58 ∷ digits)) (begins_here 58 digits)
  where
    or_second : (x y : Bool) → y ≡ true → (x || y) ≡ true
    or_second true y e = refl
    or_second false y e = e

port_read : (at : ℕ) (text : Bytes) (port : Option ℕ) → IsPortSpelled text port → port_in at text ≡ Ok port
unfolding IsPortSpelled port_in
port_read at text None h = ap (port_in at) h
port_read at text (Some port) (digits, is, whole) = ap (port_in at) whole ∙ ap (λ o. option_map_or {T = ℕ} {U = Result (Option ℕ) Fault} (λ p. Ok (Some p)) o (Err (port_fault at))) is

-- a host with or without port is read, at whatever place
pub sent_is_read : (at : ℕ) (host port_text : Bytes) (port : Option ℕ) → is_host host ≡ true → IsPortSpelled port_text port → sent_at at (host ++ port_text) ≡ Ok (host, port)
unfolding sent_at then_read
sent_is_read at host port_text port h p =
    let text = host ++ port_text in
    ap (λ n. cond (is_host (take n text) && is_port_start (drop n text)) (then_read (port_in (at + n + 1) (drop n text)) (λ q. Ok (take n text, q))) (Err (record { at = at; kind = 2 }))) (host_len_is host port_text port h p)
    ∙ ap (λ f. cond (is_host f && is_port_start (drop (length host) text)) (then_read (port_in (at + length host + 1) (drop (length host) text)) (λ q. Ok (f, q))) (Err (record { at = at; kind = 2 }))) (take-append_seam host port_text)
    ∙ ap (λ b. cond (is_host host && is_port_start b) (then_read (port_in (at + length host + 1) b) (λ q. Ok (host, q))) (Err (record { at = at; kind = 2 }))) (drop-append_seam host port_text)
    ∙ ap (λ t. cond t (then_read (port_in (at + length host + 1) port_text) (λ q. Ok (host, q))) (Err (record { at = at; kind = 2 }))) (and_true (is_host host) (is_port_start port_text) h (port_starts port_text port p))
    ∙ ap (λ r. then_read r (λ q. Ok (host, q))) (port_read (at + length host + 1) port_text port p)
