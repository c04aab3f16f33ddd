-- Literals of addresses, read from the front.
use Rattle.std.proofs.Common.{◌≡◌, ℕ, suc, Bool, true, false, cond, Option, Some, None, List, [], ◌∷◌, ◌&&◌, ◌+◌, ◌<◌, ◌≤◌, ◌==◌, ◌-◌, length, take, drop, get_or, refl, sym, ap, ◌∙◌, arith}
use Rattle.std.specs.List.{list_all}
use Rattle.std.specs.Option.{option_map}
use Rattle.std.proofs.lemmas.List.{at_drop_all, drop_more, take_all, length-drop}
use Rattle.std.proofs.lemmas.Bool.Decides.{nat_tests}
use Rattle.sc_tokens.specs.Bytes.{Bytes}
use Rattle.sc_tokens.specs.Cuts.{before, after, pieces}
use Rattle.sc_tokens.specs.Hosts.{begins_gap, gap_of, is_group, groups_of, sum_of, groups_in, is_octet, is_ipv4}
use Rattle.sc_syntax.proofs.CutLaws.{pieces_more, pieces_last}

-- ## Two colons

-- two colons, looked for from this place on
abbrev pub gap_from : ℕ → Bytes → Option ℕ
gap_from i text = option_map (λ n. i + n) (gap_of (drop i text))

map_map : (i k : ℕ) (o : Option ℕ) → option_map (λ n. i + n) (option_map (λ n. k + n) o) ≡ option_map (λ n. i + k + n) o
map_map i k None = refl
map_map i k (Some n) = let sums : ◌≡◌ {A = ℕ} (i + (k + n)) (i + k + n) = omega arith in ap Some sums

first_gap : (text : Bytes) (b : ℕ) (bs : Bytes) → text ≡ b ∷ bs → begins_gap text ≡ true → gap_of text ≡ Some 0
unfolding gap_of
first_gap text b bs is h = ap gap_of is ∙ ap (λ c. cond c (Some 0) (option_map (λ n. 1 + n) (gap_of bs))) (sym (ap begins_gap is) ∙ h)

later_gap : (text : Bytes) (b : ℕ) (bs : Bytes) → text ≡ b ∷ bs → begins_gap text ≡ false → gap_of text ≡ option_map (λ n. 1 + n) (gap_of bs)
unfolding gap_of
later_gap text b bs is h = ap gap_of is ∙ ap (λ c. cond c (Some 0) (option_map (λ n. 1 + n) (gap_of bs))) (sym (ap begins_gap is) ∙ h)

-- what is left from this place on
abbrev left : ℕ → Bytes → Bytes
left i text = take (length text - i) (drop i text)

left_is : (i : ℕ) (text : Bytes) → left i text ≡ drop i text
left_is i text = take_all (length text - i) (drop i text) (omega (arith, length-drop i text))

pub gap_here : (text : Bytes) (i : ℕ) → i < length text → begins_gap (left i text) ≡ true → gap_from i text ≡ Some i
gap_here text i here h = let same : ◌≡◌ {A = ℕ} (i + 0) i = omega arith in
    ap (option_map (λ n. i + n)) (first_gap (drop i text) (get_or text i 0) (drop (i + 1) text) (drop_more text i 0 here) (sym (ap begins_gap (left_is i text)) ∙ h)) ∙ ap Some same

pub gap_more : (text : Bytes) (i : ℕ) → i < length text → begins_gap (left i text) ≡ false → gap_from (i + 1) text ≡ gap_from i text
gap_more text i here h =
    sym (ap (option_map (λ n. i + n)) (later_gap (drop i text) (get_or text i 0) (drop (i + 1) text) (drop_more text i 0 here) (sym (ap begins_gap (left_is i text)) ∙ h)) ∙ map_map i 1 (gap_of (drop (i + 1) text)))

pub gap_end : (text : Bytes) (i : ℕ) → length text ≤ i → gap_from i text ≡ None
unfolding gap_of
gap_end text i past = ap (option_map (λ n. i + n)) (at_drop_all gap_of text i past)

-- ## Groups

no_length : (piece : Bytes) (more : List Bytes) → (length (piece ∷ more) == 0) ≡ false
no_length piece more = grind (arith, nat_tests)

by_after : (sign : ℕ) (text : Bytes) (o : Option Bytes) → after sign text ≡ o → (length (pieces sign text) == 0) ≡ false
by_after sign text None h = ap (λ l. length l == 0) (pieces_last sign text h) ∙ no_length (before sign text) []
by_after sign text (Some rest) h = ap (λ l. length l == 0) (pieces_more sign text rest h) ∙ no_length (before sign text) (pieces sign rest)

has_piece : (sign : ℕ) (text : Bytes) → (length (pieces sign text) == 0) ≡ false
has_piece sign text = by_after sign text (after sign text) refl

and_false : (a b : Bool) → b ≡ false → (a && b) ≡ false
and_false true b h = h
and_false false b h = refl

and_true : (a b : Bool) → b ≡ true → (a && b) ≡ a
and_true true b h = h
and_true false b h = refl

no_piece : (0 == 0) ≡ true
no_piece = refl

group_is : (ipv4 : Bool) (piece : Bytes) → is_group piece ≡ true → groups_of ipv4 piece ≡ Some 1
unfolding groups_of
group_is ipv4 piece h = rw h refl

group_not : (piece : Bytes) → is_group piece ≡ false → groups_of false piece ≡ None
unfolding groups_of
group_not piece h = rw h refl

groups_split : (ipv4 : Bool) (text rest : Bytes) → after 58 text ≡ Some rest → groups_in ipv4 (pieces 58 text) ≡ sum_of (groups_of false (before 58 text)) (groups_in ipv4 (pieces 58 rest))
unfolding groups_in
groups_split ipv4 text rest h = ap (groups_in ipv4) (pieces_more 58 text rest h) ∙ ap (λ b. sum_of (groups_of b (before 58 text)) (groups_in ipv4 (pieces 58 rest))) (and_false ipv4 (length (pieces 58 rest) == 0) (has_piece 58 rest))

groups_end : (ipv4 : Bool) (text : Bytes) → after 58 text ≡ None → groups_in ipv4 (pieces 58 text) ≡ sum_of (groups_of ipv4 (before 58 text)) (Some 0)
unfolding groups_in
groups_end ipv4 text h = ap (groups_in ipv4) (pieces_last 58 text h) ∙ ap (λ b. sum_of (groups_of b (before 58 text)) (Some 0)) (and_true ipv4 (0 == 0) no_piece)

sum_on : (count : ℕ) (o : Option ℕ) → sum_of (Some count) (sum_of (Some 1) o) ≡ sum_of (Some (count + 1)) o
unfolding sum_of
sum_on count o = map_map count 1 o

sum_none : (count : ℕ) (o : Option ℕ) → sum_of (Some count) (sum_of None o) ≡ None
unfolding sum_of
sum_none count o = refl

sum_end : (count n : ℕ) → sum_of (Some count) (sum_of (Some n) (Some 0)) ≡ Some (count + n)
unfolding sum_of
sum_end count n = let same : ◌≡◌ {A = ℕ} (count + (n + 0)) (count + n) = omega arith in ap Some same

pub sum_zero : (o : Option ℕ) → sum_of (Some 0) o ≡ o
unfolding sum_of
sum_zero None = refl
sum_zero (Some n) = let same : ◌≡◌ {A = ℕ} (0 + n) n = omega arith in ap Some same

pub groups_on : (ipv4 : Bool) (text rest : Bytes) (count : ℕ) → after 58 text ≡ Some rest → is_group (before 58 text) ≡ true → sum_of (Some (count + 1)) (groups_in ipv4 (pieces 58 rest)) ≡ sum_of (Some count) (groups_in ipv4 (pieces 58 text))
groups_on ipv4 text rest count h g =
    sym (ap (sum_of (Some count)) (groups_split ipv4 text rest h ∙ ap (λ o. sum_of o (groups_in ipv4 (pieces 58 rest))) (group_is false (before 58 text) g)) ∙ sum_on count (groups_in ipv4 (pieces 58 rest)))

pub groups_bad : (ipv4 : Bool) (text rest : Bytes) (count : ℕ) → after 58 text ≡ Some rest → is_group (before 58 text) ≡ false → sum_of (Some count) (groups_in ipv4 (pieces 58 text)) ≡ None
groups_bad ipv4 text rest count h g =
    ap (sum_of (Some count)) (groups_split ipv4 text rest h ∙ ap (λ o. sum_of o (groups_in ipv4 (pieces 58 rest))) (group_not (before 58 text) g)) ∙ sum_none count (groups_in ipv4 (pieces 58 rest))

pub groups_last : (ipv4 : Bool) (text : Bytes) (count n : ℕ) → after 58 text ≡ None → groups_of ipv4 (before 58 text) ≡ Some n → sum_of (Some count) (groups_in ipv4 (pieces 58 text)) ≡ Some (count + n)
groups_last ipv4 text count n h g = ap (sum_of (Some count)) (groups_end ipv4 text h ∙ ap (λ o. sum_of o (Some 0)) g) ∙ sum_end count n

pub groups_none : (ipv4 : Bool) (text : Bytes) (count : ℕ) → after 58 text ≡ None → groups_of ipv4 (before 58 text) ≡ None → sum_of (Some count) (groups_in ipv4 (pieces 58 text)) ≡ None
groups_none ipv4 text count h g = ap (sum_of (Some count)) (groups_end ipv4 text h ∙ ap (λ o. sum_of o (Some 0)) g) ∙ sum_none count (Some 0)

-- ## IPv4 addresses

-- with so many octets before
abbrev pub ipv4_with : ℕ → Bytes → Bool
ipv4_with count rest = (count + length (pieces 46 rest) == 4) && list_all is_octet (pieces 46 rest)

pub ipv4_start : (text : Bytes) → ipv4_with 0 text ≡ is_ipv4 text
unfolding is_ipv4
ipv4_start text = let same : ◌≡◌ {A = ℕ} (0 + length (pieces 46 text)) (length (pieces 46 text)) = omega arith in ap (λ n. (n == 4) && list_all is_octet (pieces 46 text)) same

ipv4_split : (text rest : Bytes) (count : ℕ) → after 46 text ≡ Some rest → ipv4_with count text ≡ ((count + 1 + length (pieces 46 rest) == 4) && (is_octet (before 46 text) && list_all is_octet (pieces 46 rest)))
ipv4_split text rest count h =
    let same : ◌≡◌ {A = ℕ} (count + suc (length (pieces 46 rest))) (count + 1 + length (pieces 46 rest)) = omega arith in
    ap (λ l. (count + length l == 4) && list_all is_octet l) (pieces_more 46 text rest h) ∙ ap (λ n. (n == 4) && (is_octet (before 46 text) && list_all is_octet (pieces 46 rest))) same

pub ipv4_on : (text rest : Bytes) (count : ℕ) → after 46 text ≡ Some rest → is_octet (before 46 text) ≡ true → ipv4_with (count + 1) rest ≡ ipv4_with count text
ipv4_on text rest count h g = sym (ipv4_split text rest count h ∙ ap (λ b. (count + 1 + length (pieces 46 rest) == 4) && (b && list_all is_octet (pieces 46 rest))) g)

pub ipv4_off : (text rest : Bytes) (count : ℕ) → after 46 text ≡ Some rest → is_octet (before 46 text) ≡ false → ipv4_with count text ≡ false
ipv4_off text rest count h g =
    ipv4_split text rest count h ∙ ap (λ b. (count + 1 + length (pieces 46 rest) == 4) && (b && list_all is_octet (pieces 46 rest))) g ∙ and_false (count + 1 + length (pieces 46 rest) == 4) false refl

one_left : (count : ℕ) → (count + 1 == 4) ≡ (count == 3)
one_left count = grind (arith, nat_tests)

pub ipv4_last : (text : Bytes) (count : ℕ) → after 46 text ≡ None → ipv4_with count text ≡ ((count == 3) && is_octet (before 46 text))
ipv4_last text count h =
    ap (λ l. (count + length l == 4) && list_all is_octet l) (pieces_last 46 text h)
    ∙ ap (λ b. b && (is_octet (before 46 text) && true)) (one_left count) ∙ ap (λ b. (count == 3) && b) (and_true (is_octet (before 46 text)) true refl)
