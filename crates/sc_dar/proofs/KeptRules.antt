-- What each table that is read keeps by its type: methods that are tokens and begin no comment, each once,
-- and 1 to 64 tuples each.
use Rattle.std.proofs.Common.{◌≡◌, ℕ, zero, suc, Bool, true, false, cond, not, Option, Some, None, Result, Ok, Err, List, [], ◌∷◌, ◌++◌, ◌||◌, ◌&&◌, ◌==◌, ◌+◌, ◌<◌, length, take, drop, subst, refl, sym, ap, ◌∙◌, append_assoc, append-nil, arith}
use Rattle.std.specs.List.{list_all, position_or_len}
use Rattle.std.specs.Option.{option_to_list}
use Rattle.std.proofs.lemmas.Bool.{false≢true}
use Rattle.std.proofs.lemmas.Bool.Decides.{nat_tests}
use Rattle.sc_tokens.specs.Tokens.{is_token_byte, is_token}
use Rattle.sc_terms.specs.declared.settings.MethodList.{MethodList}
use Rattle.sc_terms.specs.declared.settings.Tuple.{Tuple}
use Rattle.sc_terms.specs.RoutingTables.{IsMethodList, AreMethodLists, is_listed}
use Rattle.sc_tokens.specs.Bytes.{Bytes}
use Rattle.sc_tokens.specs.Hosts.{begins}
use Rattle.sc_tokens.specs.Quoted.{token_end}
use Rattle.sc_syntax.proofs.ClassLaws.{not_true}
use Rattle.sc_dar.specs.Lines.{Line, drop_blanks, is_comment}
use Rattle.sc_dar.specs.Tuples.{BAD_TUPLE, TupleTexts, then_read, parts, tuple_at, tuples_in}
use Rattle.sc_dar.specs.Tables.{NO_SEPARATOR, DOUBLE_METHOD, method_in, behind_method, has_separator, list_in, list_of, lists_with as judged}
use Rattle.sc_dar.proofs.Kept.{ok_same, err_ok, then_ok, tuples_kept, then_line_ok}
use Rattle.sc_dar.proofs.Parting.{some_parts}
use Rattle.sc_dar.proofs.WrittenTables.{both, other_first, not_blank}

-- ## The method of a line

abbrev in_token : Bytes → ℕ
in_token line = position_or_len (λ b. not (is_token_byte b)) line

one_on : (n : ℕ) → 1 + n ≡ suc n
one_on n = omega arith

zero_on : (n : ℕ) → 0 + n ≡ n
zero_on n = omega arith

passed : (b : ℕ) (bs : Bytes) → is_token_byte b ≡ true → in_token (b ∷ bs) ≡ suc (in_token bs)
passed b bs h = ap (λ t. cond (not (not t)) (1 + in_token bs) 0) h ∙ one_on (in_token bs)

stopped : (b : ℕ) (bs : Bytes) → is_token_byte b ≡ false → in_token (b ∷ bs) ≡ 0
stopped b bs h = ap (λ t. cond (not (not t)) (1 + in_token bs) 0) h

front_passes : (line : Bytes) → list_all is_token_byte (take (in_token line) line) ≡ true
front_passes [] = refl
front_passes (b ∷ bs) = elim (is_token_byte b) as (λ (t : Bool). is_token_byte b ≡ t → list_all is_token_byte (take (in_token (b ∷ bs)) (b ∷ bs)) ≡ true) [
  | true ↦ λ e. ap (λ n. list_all is_token_byte (take n (b ∷ bs))) (passed b bs e) ∙ ap (λ t. t && list_all is_token_byte (take (in_token bs) bs)) e ∙ front_passes bs
  | false ↦ λ e. ap (λ n. list_all is_token_byte (take n (b ∷ bs))) (stopped b bs e)
] refl

-- the first byte of a line that begins with a method
first_passes : (b : ℕ) (bs : Bytes) → (in_token (b ∷ bs) == 0) ≡ false → is_token_byte b ≡ true
first_passes b bs h = elim (is_token_byte b) as (λ (t : Bool). is_token_byte b ≡ t → t ≡ true) [
  | true ↦ λ e. refl
  | false ↦ λ e. absurd (false≢true (sym h ∙ ap (λ n. n == 0) (stopped b bs e)))
] refl

end_is : (line : Bytes) → token_end 0 line ≡ in_token line
unfolding token_end
end_is line = zero_on (in_token line)

none_end : (in_token [] == 0) ≡ true
none_end = refl

begins_first : (b : ℕ) (bs : Bytes) → begins 33 (b ∷ bs) ≡ (b == 33)
unfolding begins
begins_first b bs = refl

right_false : (a b : Bool) → (a || b) ≡ false → b ≡ false
right_false true b h = absurd (false≢true (sym h))
right_false false b h = h

not_said : (b : ℕ) (bs : Bytes) → is_token_byte b ≡ true → is_comment (b ∷ bs) ≡ false → (b == 33) ≡ false
unfolding is_comment
not_said b bs token h =
    let line = other_first b bs (not_blank b token) in
    sym (begins_first b bs) ∙ ap (begins 33) (sym line) ∙ right_false (length (drop_blanks (b ∷ bs)) == 0 || begins 35 (drop_blanks (b ∷ bs))) (begins 33 (drop_blanks (b ∷ bs))) h

some_front : (n : ℕ) (b : ℕ) (bs : Bytes) → (n == 0) ≡ false → (m : ℕ) × (take n (b ∷ bs) ≡ b ∷ take m bs)
some_front zero b bs h = absurd (false≢true (sym h))
some_front (suc m) b bs h = (m, refl)

some_length : (b : ℕ) (bs : Bytes) → (length (b ∷ bs) == 0) ≡ false
some_length b bs = grind (arith, nat_tests)

front_token : (text : Bytes) (b : ℕ) (bs : Bytes) → text ≡ b ∷ bs → list_all is_token_byte text ≡ true → is_token text ≡ true
unfolding is_token
front_token text b bs is h = ap (λ t. not t && list_all is_token_byte text) (ap (λ u. length u == 0) is ∙ some_length b bs) ∙ h

front_said : (text : Bytes) (b : ℕ) (bs : Bytes) → text ≡ b ∷ bs → (b == 33) ≡ false → begins 33 text ≡ false
front_said text b bs is h = ap (begins 33) is ∙ begins_first b bs ∙ h

method_kept : (line : Bytes) → (in_token line == 0) ≡ false → is_comment line ≡ false → (is_token (take (in_token line) line) ≡ true) × (begins 33 (take (in_token line) line) ≡ false)
method_kept [] h said = absurd (false≢true (sym h ∙ none_end))
method_kept (b ∷ bs) h said =
    let line = b ∷ bs in
    let (m, is) = some_front (in_token line) b bs h in (
      front_token (take (in_token line) line) b (take m bs) is (front_passes line),
      front_said (take (in_token line) line) b (take m bs) is (not_said b bs (first_passes b bs h) said),
    )

-- ## The list of a line

-- what a test that refuses lets through
let_through : {A : Type 0} (t : Bool) (kind : ℕ) (r : Result A ℕ) (a : A) → cond t (Err kind) r ≡ Ok a → (t ≡ false) × (r ≡ Ok a)
let_through true kind r a h = absurd (err_ok kind a h)
let_through false kind r a h = (refl, h)

some_more : (tuple : Tuple) (tuples : List Tuple) → 0 < length (tuple ∷ tuples)
some_more tuple tuples = omega arith

some_tuples : (apps : List Bytes) (p : Bytes) (ps : List Bytes) (tuples : List Tuple) → tuples_in apps 0 (p ∷ ps) ≡ Ok tuples → 0 < length tuples
unfolding tuples_in
some_tuples apps a [] tuples h = absurd (err_ok BAD_TUPLE tuples h)
some_tuples apps a (s ∷ []) tuples h = absurd (err_ok BAD_TUPLE tuples h)
some_tuples apps a (s ∷ g ∷ []) tuples h = absurd (err_ok BAD_TUPLE tuples h)
some_tuples apps a (s ∷ g ∷ r ∷ []) tuples h = absurd (err_ok BAD_TUPLE tuples h)
some_tuples apps a (s ∷ g ∷ r ∷ m ∷ []) tuples h = absurd (err_ok BAD_TUPLE tuples h)
some_tuples apps a (s ∷ g ∷ r ∷ m ∷ o ∷ more) tuples h =
    let t : TupleTexts = record { app = a; subscriber = s; region = g; route = r; modifier = m; order = o } in
    let (tuple, is, h1) = then_ok (tuple_at apps 0 t) _ tuples h in
    let (others, read, h2) = then_ok (tuples_in apps (1 + 0) more) _ tuples h1 in
    subst (λ (ts : List Tuple). 0 < length ts) (ok_same (tuple ∷ others) tuples h2) (some_more tuple others)

not_not : (t : Bool) → not t ≡ false → t ≡ true
not_not true h = refl
not_not false h = absurd (false≢true (sym h))

some_method : (line : Bytes) → has_separator line ≡ true → (in_token line == 0) ≡ false
unfolding has_separator
some_method line h = ap (λ n. n == 0) (sym (end_is line)) ∙ not_true (token_end 0 line == 0) (both (not (token_end 0 line == 0)) (begins 58 (behind_method line) || begins 61 (behind_method line)) h).0

-- the rule of a list, and no list before it is of its method
abbrev IsNext : List MethodList → MethodList → Type 0
IsNext earlier list = IsMethodList list × (is_listed earlier list.method ≡ false)

list_next : (apps : List Bytes) (earlier : List MethodList) (line : Bytes) (list : MethodList) → is_comment line ≡ false → list_in apps earlier line ≡ Ok list → IsNext earlier list
unfolding list_in
list_next apps earlier line list said h =
    let (parted, h1) = let_through (not (has_separator line)) NO_SEPARATOR _ list h in
    let (fresh, h2) = let_through (is_listed earlier (method_in line)) DOUBLE_METHOD _ list h1 in
    let (tuples, read, h3) = then_ok (tuples_in apps 0 (parts false (drop 1 (behind_method line)))) _ list h2 in
    let (q, qs, is) = some_parts false (drop 1 (behind_method line)) in
    let (token, unsaid) = method_kept line (some_method line (not_not (has_separator line) parted)) said in
    let front = ap (λ n. take n line) (sym (end_is line)) in
    let rule : IsMethodList (record { method = method_in line; tuples = tuples }) = record {
      method = ap is_token (sym front) ∙ token;
      said = ap (begins 33) (sym front) ∙ unsaid;
      some = some_tuples apps q qs tuples (ap (tuples_in apps 0) (sym is) ∙ read);
      few = (tuples_kept apps 0 (parts false (drop 1 (behind_method line))) tuples read).1;
    } in
    subst (IsNext earlier) (ok_same (record { method = method_in line; tuples = tuples }) list h3) (rule, fresh)

-- ## All lists

no_lists : AreMethodLists [] []
unfolding AreMethodLists
no_lists = tt

one_more : (earlier lists : List MethodList) (list : MethodList) → AreMethodLists earlier lists → IsNext (earlier ++ lists) list → AreMethodLists earlier (lists ++ list ∷ [])
unfolding AreMethodLists
one_more earlier [] list kept (rule, fresh) = (rule, subst (λ (ls : List MethodList). is_listed ls list.method ≡ false) (append-nil earlier) fresh, tt)
one_more earlier (first ∷ more) list (is, new, others) next = (is, new, one_more (earlier ++ first ∷ []) more list others (subst (λ (ls : List MethodList). IsNext ls list) (sym (append_assoc earlier (first ∷ []) more)) next))

with_found : (earlier : List MethodList) (t : Bool) (r : Result MethodList ℕ) (found : Option MethodList) → AreMethodLists [] earlier → (t ≡ false → (list : MethodList) → r ≡ Ok list → IsNext earlier list)
    → cond t (Ok None) (then_read r (λ list. Ok (Some list))) ≡ Ok found → AreMethodLists [] (earlier ++ option_to_list found)
with_found earlier true r found kept next h =
    subst (λ (o : Option MethodList). AreMethodLists [] (earlier ++ option_to_list o)) (ok_same None found h) (subst (AreMethodLists []) (sym (append-nil earlier)) kept)
with_found earlier false r found kept next h =
    let (list, is, h1) = then_ok r (λ l. Ok (Some l)) found h in
    subst (λ (o : Option MethodList). AreMethodLists [] (earlier ++ option_to_list o)) (ok_same (Some list) found h1) (one_more [] earlier list kept (next refl list is))

line_kept : (apps : List Bytes) (earlier : List MethodList) (line : Bytes) (found : Option MethodList) → AreMethodLists [] earlier → list_of apps earlier line ≡ Ok found → AreMethodLists [] (earlier ++ option_to_list found)
unfolding list_of
line_kept apps earlier line found kept h = with_found earlier (is_comment line) (list_in apps earlier line) found kept (λ said list is. list_next apps earlier line list said is) h

judged_lists : (apps : List Bytes) (number : ℕ) (earlier : List MethodList) (ls : List Line) (lists : List MethodList) → AreMethodLists [] earlier → judged apps number earlier ls ≡ Ok lists → AreMethodLists [] lists
unfolding judged
judged_lists apps number earlier [] lists kept h = subst (AreMethodLists []) (ok_same earlier lists h) kept
judged_lists apps number earlier (line ∷ more) lists kept h =
    let (found, is, h1) = then_line_ok number (list_of apps earlier line.text) _ lists h in
    judged_lists apps (number + line.height) (earlier ++ option_to_list found) more lists (line_kept apps earlier line.text found kept is) h1

pub lists_kept : (apps : List Bytes) (ls : List Line) (lists : List MethodList) → judged apps 1 [] ls ≡ Ok lists → AreMethodLists [] lists
lists_kept apps ls lists h = judged_lists apps 1 [] ls lists no_lists h
