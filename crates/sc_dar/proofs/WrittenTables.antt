-- A written table is read as the table.
use Rattle.std.proofs.Common.{◌≡◌, ℕ, suc, Bool, true, false, cond, not, Some, None, Result, Ok, Err, List, [], ◌∷◌, ◌++◌, ◌||◌, ◌&&◌, ◌==◌, ◌+◌, ◌<◌, ◌≤◌, length, take, drop, refl, sym, ap, ◌∙◌, append_assoc, append-nil, arith}
use Rattle.std.specs.Prelude.{nat_lt}
use Rattle.std.specs.List.{list_all, position_or_len, flat_map}
use Rattle.std.specs.Option.{option_to_list}
use Rattle.std.proofs.Math.Seq.{take-append_seam, drop-append_seam}
use Rattle.std.proofs.lemmas.Bool.{false≢true}
use Rattle.std.proofs.lemmas.Bool.Decides.{nat_tests}
use Rattle.sc_tokens.specs.Tokens.{is_token_byte, is_token, is_blank}
use Rattle.sc_terms.specs.declared.settings.Dar.{Dar}
use Rattle.sc_terms.specs.declared.settings.MethodList.{MethodList}
use Rattle.sc_terms.specs.declared.settings.Tuple.{Tuple}
use Rattle.sc_tokens.specs.Bytes.{Bytes}
use Rattle.sc_tokens.specs.Cuts.{has}
use Rattle.sc_tokens.specs.Hosts.{begins}
use Rattle.sc_tokens.specs.Quoted.{token_end}
use Rattle.sc_syntax.proofs.SpelledUriLaws.{lacks_joined}
use Rattle.sc_dar.specs.Lines.{Line, drop_blanks, ends, lines, is_comment}
use Rattle.sc_dar.specs.Tuples.{then_read, parts, tuples_in}
use Rattle.sc_terms.specs.RoutingTables.{IsMethodList, AreMethodLists, IsDar, is_listed}
use Rattle.sc_dar.specs.Tables.{NO_SEPARATOR, LONG, DOUBLE_METHOD, has_separator, list_in, list_of, then_line, lists_with as judged, table_with, table_of}
use Rattle.sc_dar.specs.WrittenTables.{lead, tuple_text, tuples_text, list_text, dar_text}
use Rattle.sc_dar.specs.Rules.{AreNames, AreTuples, AreLists, IsTable}
use Rattle.sc_dar.proofs.Rows.{no_more}
use Rattle.sc_dar.proofs.WrittenTuples.{tuples_again}
use Rattle.sc_dar.proofs.WrittenLines.{from_tuple, tuples_lack, ends_behind, ends_on, tuples_end, line_is}

-- ## The bytes of a token

pub both : (a b : Bool) → (a && b) ≡ true → (a ≡ true) × (b ≡ true)
both true b h = (refl, h)
both false b h = absurd (false≢true h)

same_number : (x y : ℕ) → (x == y) ≡ true → x ≡ y
same_number x y h = grind (arith, nat_tests, h)

-- what the test refuses is no byte that passes it
differs : (test : ℕ → Bool) (b sign : ℕ) → test sign ≡ false → test b ≡ true → (b == sign) ≡ false
differs test b sign g h = elim (b == sign) as (λ (t : Bool). (b == sign) ≡ t → t ≡ false) [
  | true ↦ λ e. absurd (false≢true (sym g ∙ ap test (sym (same_number b sign e)) ∙ h))
  | false ↦ λ e. refl
] refl

-- LF, tab, space and # stand in no token
no_lf : is_token_byte 10 ≡ false
unfolding is_token_byte
no_lf = refl

no_tab : is_token_byte 9 ≡ false
unfolding is_token_byte
no_tab = refl

no_space : is_token_byte 32 ≡ false
unfolding is_token_byte
no_space = refl

no_hash : is_token_byte 35 ≡ false
unfolding is_token_byte
no_hash = refl

abbrev AreTokenBytes : Bytes → Type 0
AreTokenBytes text = list_all is_token_byte text ≡ true

token_lacks : (text : Bytes) → AreTokenBytes text → has 10 text ≡ false
unfolding has
token_lacks [] h = refl
token_lacks (b ∷ bs) h =
    let (first, others) = both (is_token_byte b) (list_all is_token_byte bs) h in
    ap (λ t. t || has 10 bs) (differs is_token_byte b 10 no_lf first) ∙ token_lacks bs others

-- a method with its first byte
pub record IsMethod (first : ℕ) (others : Bytes) : Type 0 where
  pub bytes : AreTokenBytes (first ∷ others)
  pub said : (first == 33) ≡ false

no_token : is_token [] ≡ false
unfolding is_token
no_token = refl

token_bytes : (first : ℕ) (others : Bytes) → is_token (first ∷ others) ≡ true → AreTokenBytes (first ∷ others)
unfolding is_token
token_bytes first others h = (both (not (length (first ∷ others) == 0)) (list_all is_token_byte (first ∷ others)) h).1

begins_said : (first : ℕ) (others : Bytes) → begins 33 (first ∷ others) ≡ (first == 33)
unfolding begins
begins_said first others = refl

-- ## The front of a line

abbrev line_of : Bytes → Bytes → Bytes
line_of method tuples = method ++ 58 ∷ tuples

at_colon : (tuples : Bytes) → position_or_len (λ b. not (is_token_byte b)) (58 ∷ tuples) ≡ 0
unfolding is_token_byte
at_colon tuples = refl

past_token : (method tuples : Bytes) → AreTokenBytes method → position_or_len (λ b. not (is_token_byte b)) (line_of method tuples) ≡ length method
past_token [] tuples h = at_colon tuples
past_token (b ∷ bs) tuples h =
    let (first, others) = both (is_token_byte b) (list_all is_token_byte bs) h in
    let one : ◌≡◌ {A = ℕ} (1 + length bs) (suc (length bs)) = omega arith in
    ap (λ t. cond (not (not t)) (1 + position_or_len (λ c. not (is_token_byte c)) (line_of bs tuples)) 0) first
    ∙ ap (λ n. 1 + n) (past_token bs tuples others) ∙ one

token_len : (method tuples : Bytes) → AreTokenBytes method → token_end 0 (line_of method tuples) ≡ length method
unfolding token_end
token_len method tuples h = let zero_more : ◌≡◌ {A = ℕ} (0 + length method) (length method) = omega arith in ap (λ n. 0 + n) (past_token method tuples h) ∙ zero_more

pub other_first : (b : ℕ) (bs : Bytes) → is_blank b ≡ false → drop_blanks (b ∷ bs) ≡ b ∷ bs
unfolding drop_blanks
other_first b bs h = rw h refl

pub not_blank : (b : ℕ) → is_token_byte b ≡ true → is_blank b ≡ false
unfolding is_blank
not_blank b h = ap (λ t. t || b == 9) (differs is_token_byte b 32 no_space h) ∙ differs is_token_byte b 9 no_tab h

not_hash : (b : ℕ) → is_token_byte b ≡ true → (b == 35) ≡ false
not_hash b h = differs is_token_byte b 35 no_hash h

some_bytes : (b : ℕ) (bs : Bytes) → (length (b ∷ bs) == 0) ≡ false
some_bytes b bs = grind (arith, nat_tests)

by_said : Bytes → Bool
by_said said = length said == 0 || begins 35 said || begins 33 said

is_said : (b : ℕ) (bs : Bytes) → (b == 35) ≡ false → (b == 33) ≡ false → by_said (b ∷ bs) ≡ false
unfolding by_said begins
is_said b bs h g = ap (λ t. (t || b == 35) || b == 33) (some_bytes b bs) ∙ ap (λ t. t || b == 33) h ∙ g

no_comment : (first : ℕ) (others tuples : Bytes) → IsMethod first others → is_comment (line_of (first ∷ others) tuples) ≡ false
unfolding is_comment by_said
no_comment first others tuples m =
    let token = (both (is_token_byte first) (list_all is_token_byte others) m.bytes).0 in
    ap by_said (other_first first (line_of others tuples) (not_blank first token)) ∙ is_said first (line_of others tuples) (not_hash first token) m.said

-- ## The list of a line

by_method : List Bytes → List MethodList → ℕ → Bytes → Bytes → Result MethodList ℕ
by_method apps earlier len method behind =
    cond (not (not (len == 0) && (begins 58 behind || begins 61 behind))) (Err NO_SEPARATOR)
    (cond (is_listed earlier method) (Err DOUBLE_METHOD)
    (then_read (tuples_in apps 0 (parts false (drop 1 behind))) (λ tuples. Ok (record { method = method; tuples = tuples }))))

by_method_is : (apps : List Bytes) (earlier : List MethodList) (line : Bytes) → list_in apps earlier line ≡ by_method apps earlier (token_end 0 line) (take (token_end 0 line) line) (drop_blanks (drop (token_end 0 line) line))
unfolding list_in has_separator by_method
by_method_is apps earlier line = refl

colon_stays : (tuples : Bytes) → drop_blanks (58 ∷ tuples) ≡ 58 ∷ tuples
unfolding drop_blanks is_blank
colon_stays tuples = refl

found : (apps : List Bytes) (earlier : List MethodList) (first : ℕ) (others tuples : Bytes) → is_listed earlier (first ∷ others) ≡ false
    → by_method apps earlier (length (first ∷ others)) (first ∷ others) (58 ∷ tuples) ≡ then_read (tuples_in apps 0 (parts false tuples)) (λ ts. Ok (record { method = first ∷ others; tuples = ts }))
unfolding by_method begins
found apps earlier first others tuples fresh =
    let rest = then_read (tuples_in apps 0 (parts false tuples)) (λ ts. Ok (record { method = first ∷ others; tuples = ts })) in
    ap (λ t. cond (not (not t && true)) (Err NO_SEPARATOR) (cond (is_listed earlier (first ∷ others)) (Err DOUBLE_METHOD) rest)) (some_bytes first others)
    ∙ ap (λ t. cond t (Err DOUBLE_METHOD) rest) fresh

list_again : (apps : List Bytes) (earlier : List MethodList) (first : ℕ) (others tuples : Bytes) (list : List Tuple) → IsMethod first others → is_listed earlier (first ∷ others) ≡ false
    → tuples_in apps 0 (parts false tuples) ≡ Ok list → list_in apps earlier (line_of (first ∷ others) tuples) ≡ Ok (record { method = first ∷ others; tuples = list })
unfolding then_read
list_again apps earlier first others tuples list m fresh h =
    let method = first ∷ others in
    let line = line_of method tuples in
    by_method_is apps earlier line
    ∙ ap (λ n. by_method apps earlier n (take n line) (drop_blanks (drop n line))) (token_len method tuples m.bytes)
    ∙ ap (λ t. by_method apps earlier (length method) t (drop_blanks (drop (length method) line))) (take-append_seam method (58 ∷ tuples))
    ∙ ap (λ t. by_method apps earlier (length method) method (drop_blanks t)) (drop-append_seam method (58 ∷ tuples))
    ∙ ap (λ t. by_method apps earlier (length method) method t) (colon_stays tuples)
    ∙ found apps earlier first others tuples fresh
    ∙ ap (λ r. then_read r (λ ts. Ok (record { method = method; tuples = ts }))) h

said_again : (apps : List Bytes) (earlier : List MethodList) (line : Bytes) (list : MethodList) → is_comment line ≡ false → list_in apps earlier line ≡ Ok list → list_of apps earlier line ≡ Ok (Some list)
unfolding list_of then_read
said_again apps earlier line list said h =
    ap (λ t. cond t (Ok None) (then_read (list_in apps earlier line) (λ l. Ok (Some l)))) said ∙ ap (λ r. then_read r (λ l. Ok (Some l))) h

-- ## The written line

first_text : (apps : List Bytes) (tuple : Tuple) (more : List Tuple) → 32 ∷ tuples_text apps 0 (tuple ∷ more) ≡ from_tuple apps 0 tuple more
unfolding tuples_text lead
first_text apps tuple more = refl

abbrev text_of : List Bytes → ℕ → Bytes → Tuple → List Tuple → Bytes
text_of apps first others tuple more = line_of (first ∷ others) (from_tuple apps 0 tuple more)

regroup : (m l t e rest : Bytes) → (((m ++ l) ++ t) ++ e) ++ rest ≡ m ++ (l ++ (t ++ (e ++ rest)))
regroup m l t e rest = simp append_assoc

regroup_back : (m t e : Bytes) → m ++ 58 ∷ (t ++ e) ≡ (m ++ 58 ∷ t) ++ e
regroup_back m t e = sym (append_assoc m (58 ∷ t) e)

written_line : (apps : List Bytes) (first : ℕ) (others : Bytes) (tuple : Tuple) (more : List Tuple) (rest : Bytes)
    → list_text apps (record { method = first ∷ others; tuples = tuple ∷ more }) ++ rest ≡ text_of apps first others tuple more ++ 10 ∷ rest
unfolding list_text
written_line apps first others tuple more rest =
    regroup (first ∷ others) (58 ∷ 32 ∷ []) (tuples_text apps 0 (tuple ∷ more)) (10 ∷ []) rest
    ∙ regroup_back (first ∷ others) (32 ∷ tuples_text apps 0 (tuple ∷ more)) (10 ∷ rest)
    ∙ ap (λ t. ((first ∷ others) ++ 58 ∷ t) ++ 10 ∷ rest) (first_text apps tuple more)

colon_lacks : (tuples : Bytes) → has 10 tuples ≡ false → has 10 (58 ∷ tuples) ≡ false
unfolding has
colon_lacks tuples h = h

zero_room : (more : List Tuple) → length more < 64 → 1 + 0 + length more ≤ 64
zero_room more h = omega (arith, h)

line_lacks : (apps : List Bytes) (first : ℕ) (others : Bytes) (tuple : Tuple) (more : List Tuple) → IsMethod first others → AreNames apps → AreTuples apps (tuple ∷ more) → length more < 64 → has 10 (text_of apps first others tuple more) ≡ false
line_lacks apps first others tuple more m names h few =
    lacks_joined 10 (first ∷ others) (58 ∷ from_tuple apps 0 tuple more) (token_lacks (first ∷ others) m.bytes) (colon_lacks (from_tuple apps 0 tuple more) (tuples_lack apps 0 tuple more names h (zero_room more few)))

line_ends : (sign : ℕ) (apps : List Bytes) (first : ℕ) (others : Bytes) (tuple : Tuple) (more : List Tuple) → ends sign (text_of apps first others tuple more) ≡ (41 == sign)
line_ends sign apps first others tuple more =
    ends_behind sign (first ∷ others) 58 (from_tuple apps 0 tuple more) ∙ ends_on sign 58 32 (tuple_text apps 0 tuple ++ tuples_text apps (1 + 0) more) ∙ tuples_end sign apps 0 tuple more

-- ## All lines

judged_line : (apps : List Bytes) (number : ℕ) (earlier : List MethodList) (line : Line) (more : List Line) (list : MethodList) → list_of apps earlier line.text ≡ Ok (Some list)
    → judged apps number earlier (line ∷ more) ≡ judged apps (number + line.height) (earlier ++ list ∷ []) more
unfolding judged then_line
judged_line apps number earlier line more list h = ap (λ r. then_line number r (λ f. judged apps (number + line.height) (earlier ++ option_to_list f) more)) h

one_line : (apps : List Bytes) (number : ℕ) (earlier : List MethodList) (first : ℕ) (others : Bytes) (tuple : Tuple) (more : List Tuple) (rest : Bytes)
    → IsMethod first others → AreNames apps → AreTuples apps (tuple ∷ more) → length more < 64 → is_listed earlier (first ∷ others) ≡ false
    → judged apps number earlier (lines (list_text apps (record { method = first ∷ others; tuples = tuple ∷ more }) ++ rest))
    ≡ judged apps (number + 1) (earlier ++ record { method = first ∷ others; tuples = tuple ∷ more } ∷ []) (lines rest)
one_line apps number earlier first others tuple more rest m names h few fresh =
    let line = text_of apps first others tuple more in
    let list = list_again apps earlier first others (from_tuple apps 0 tuple more) (tuple ∷ more) m fresh (tuples_again apps 0 tuple more names h (zero_room more few)) in
    ap (λ t. judged apps number earlier (lines t)) (written_line apps first others tuple more rest)
    ∙ ap (judged apps number earlier) (line_is line rest (line_lacks apps first others tuple more m names h few) (line_ends 13 apps first others tuple more) (line_ends 92 apps first others tuple more))
    ∙ judged_line apps number earlier (record { text = line; height = 1 }) (lines rest) (record { method = first ∷ others; tuples = tuple ∷ more }) (said_again apps earlier line (record { method = first ∷ others; tuples = tuple ∷ more }) (no_comment first others (from_tuple apps 0 tuple more) m) list)

by_parts : (apps : List Bytes) (number : ℕ) (earlier : List MethodList) (method : Bytes) (tuples : List Tuple) (rest : Bytes) → AreNames apps → IsMethodList (record { method = method; tuples = tuples }) → AreTuples apps tuples → is_listed earlier method ≡ false
    → judged apps number earlier (lines (list_text apps (record { method = method; tuples = tuples }) ++ rest)) ≡ judged apps (number + 1) (earlier ++ record { method = method; tuples = tuples } ∷ []) (lines rest)
by_parts apps number earlier [] tuples rest names h named fresh = absurd (false≢true (sym no_token ∙ h.method))
by_parts apps number earlier (first ∷ others) [] rest names h named fresh = absurd (omega (arith, h.some))
by_parts apps number earlier (first ∷ others) (tuple ∷ more) rest names h named fresh =
    one_line apps number earlier first others tuple more rest (record { bytes = token_bytes first others h.method; said = sym (begins_said first others) ∙ h.said }) names named (omega (arith, h.few)) fresh

first_list : (earlier : List MethodList) (list : MethodList) (more : List MethodList) → AreMethodLists earlier (list ∷ more)
    → IsMethodList list × (is_listed earlier list.method ≡ false) × AreMethodLists (earlier ++ list ∷ []) more
unfolding AreMethodLists
first_list earlier list more h = h

first_tuples : (apps : List Bytes) (list : MethodList) (more : List MethodList) → AreLists apps (list ∷ more) → AreTuples apps list.tuples × AreLists apps more
unfolding AreLists
first_tuples apps list more h = h

none_judged : (apps : List Bytes) (number : ℕ) (lists : List MethodList) → judged apps number lists [] ≡ Ok lists
unfolding judged
none_judged apps number lists = refl

judged_again : (apps : List Bytes) (number : ℕ) (earlier lists : List MethodList) → AreNames apps → AreMethodLists earlier lists → AreLists apps lists → judged apps number earlier (lines (flat_map (list_text apps) lists)) ≡ Ok (earlier ++ lists)
judged_again apps number earlier [] names kept h = ap (judged apps number earlier) no_more ∙ none_judged apps number earlier ∙ ap Ok (sym (append-nil earlier))
judged_again apps number earlier (list ∷ more) names kept h =
    let (is, fresh, others) = first_list earlier list more kept in
    let (named, later) = first_tuples apps list more h in
    by_parts apps number earlier list.method list.tuples (flat_map (list_text apps) more) names is named fresh
    ∙ judged_again apps (number + 1) (earlier ++ list ∷ []) more names others later
    ∙ ap Ok (append_assoc earlier (list ∷ []) more)

not_long : (n : ℕ) → n ≤ 65536 → nat_lt 65536 n ≡ false
not_long n h = grind (arith, nat_tests, h)

pub table_again : (apps : List Bytes) (dar : Dar) → IsDar dar → IsTable apps dar → length (dar_text dar apps) ≤ 65536 → table_of (dar_text dar apps) apps ≡ Ok dar
unfolding table_of table_with dar_text
table_again apps dar kept h short =
    let text = flat_map (list_text apps) dar.lists in
    ap (λ t. cond t (Err (record { line = 0; kind = LONG })) (table_with (judged apps 1 [] (lines text)))) (not_long (length text) short)
    ∙ ap table_with (judged_again apps 1 [] dar.lists h.0 kept h.1)
