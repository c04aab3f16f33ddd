-- What each table that is read keeps: its tuples name applications, and no method has more than 64.
use Rattle.std.proofs.Common.{◌≡◌, ℕ, Bool, true, false, cond, Option, Some, None, Result, Ok, Err, List, [], ◌∷◌, ◌++◌, ◌+◌, ◌-◌, ◌<◌, ◌≤◌, ◌^◌, length, drop, subst, refl, ap, ◌∙◌, arith}
use Rattle.std.specs.Prelude.{nat_lt, is_some, option_and_then, unwrap_or, IfOk}
use Rattle.std.specs.Result.{is_ok, result_unwrap_or}
use Rattle.std.specs.List.{All, position}
use Rattle.std.specs.Option.{option_to_list}
use Rattle.std.proofs.lemmas.Bool.{false≢true}
use Rattle.std.proofs.lemmas.Bool.Decides.{nat_tests}
use Rattle.std.proofs.lemmas.List.Elements.{All-cons, All-append}
use Rattle.std.proofs.lemmas.List.Quantifiers.{position-Some}
use Rattle.sc_tokens.specs.Names.{same_bytes}
use Rattle.sc_terms.specs.declared.settings.Dar.{Dar}
use Rattle.sc_terms.specs.declared.settings.MethodList.{MethodList}
use Rattle.sc_terms.specs.declared.settings.Tuple.{Tuple}
use Rattle.sc_tokens.specs.Bytes.{Bytes}
use Rattle.sc_dar.specs.Answers.{IsJudged}
use Rattle.sc_dar.specs.declared.refused.DarRefused.{DarRefused}
use Rattle.sc_dar.specs.Lines.{Line, lines, is_comment}
use Rattle.sc_dar.specs.Tuples.{BAD_TUPLE, BAD_REGION, BAD_MODIFIER, BAD_ORDER, UNKNOWN_APPLICATION, BAD_ROUTE, TOO_MANY, TupleTexts, then_read, or_refusal as given, parts, without_quotes as unquoted, region_of, modifier_of, order_of, of_32, app_of, route_of, tuple_of, tuple_within as counted, is_parted, tuple_before_comma as parted, tuple_at, tuples_in}
use Rattle.sc_dar.specs.Tables.{NO_SEPARATOR, LONG, DOUBLE_METHOD, Fault, method_in, behind_method, list_in, list_of, then_line, lists_with as judged, table_with, table_of}

-- ## What an Ok says

pub ok_same : {A E : Type 0} (a b : A) → ◌≡◌ {A = Result A E} (Ok a) (Ok b) → a ≡ b
ok_same a b e = ap (λ r. result_unwrap_or r a) e

pub err_ok : {A E : Type 0} (fault : E) (a : A) → ¬ (◌≡◌ {A = Result A E} (Err fault) (Ok a))
err_ok fault a e = false≢true (ap is_ok e)

pub then_ok : {A B : Type 0} (r : Result A ℕ) (next : A → Result B ℕ) (b : B) → then_read r next ≡ Ok b → (a : A) × (r ≡ Ok a) × (next a ≡ Ok b)
unfolding then_read
then_ok (Ok a) next b h = (a, refl, h)
then_ok (Err kind) next b h = absurd (err_ok kind b h)

given_ok : {A : Type 0} (kind : ℕ) (o : Option A) (a : A) → given kind o ≡ Ok a → o ≡ Some a
given_ok kind None a h = absurd (err_ok kind a h)
given_ok kind (Some b) a h = ap Some (ok_same b a h)

if_ok : {A : Type 0} (t : Bool) (kind : ℕ) (r : Result A ℕ) (a : A) → cond t (Err kind) r ≡ Ok a → r ≡ Ok a
if_ok true kind r a h = absurd (err_ok kind a h)
if_ok false kind r a h = h

-- ## Tuples

of_32_is : (n : ℕ) (t : Bool) (place : ℕ) → cond t (Some n) None ≡ Some place → n ≡ place
of_32_is n true place h = ap (λ o. unwrap_or o n) h
of_32_is n false place h = absurd (false≢true (ap is_some h))

place_of : (o : Option ℕ) (place : ℕ) → option_and_then of_32 o ≡ Some place → o ≡ Some place
place_of None place h = absurd (false≢true (ap is_some h))
place_of (Some n) place h = ap Some (of_32_is n (nat_lt n (2 ^ 32)) place h)

app_below : (apps : List Bytes) (text : Bytes) (place : ℕ) → app_of apps text ≡ Some place → place < length apps
app_below apps text place h = (position-Some (λ app. same_bytes app text) apps place [] (place_of (position (λ app. same_bytes app text) apps) place h)).0

tuple_below : (apps : List Bytes) (order : ℕ) (t : TupleTexts) (tuple : Tuple) → tuple_of apps order t ≡ Ok tuple → tuple.app < length apps
unfolding tuple_of
tuple_below apps order t tuple h =
    let (region, _, h1) = then_ok (given BAD_REGION (region_of t.region)) _ tuple h in
    let (modifier, _, h2) = then_ok (given BAD_MODIFIER (modifier_of t.modifier)) _ tuple h1 in
    let (_, _, h3) = then_ok (given BAD_ORDER (order_of order t.order)) _ tuple h2 in
    let (app, is, h4) = then_ok (given UNKNOWN_APPLICATION (app_of apps t.app)) _ tuple h3 in
    let (route, _, h5) = then_ok (given BAD_ROUTE (route_of t.route)) _ tuple h4 in
    let made = ok_same (record { app = app; subscriber = t.subscriber; region = region; route = route; modifier = modifier }) tuple h5 in
    let below = app_below apps t.app app (given_ok UNKNOWN_APPLICATION (app_of apps t.app) app is) in
    subst (λ (u : Tuple). u.app < length apps) made below

is_below : (n limit : ℕ) → nat_lt n limit ≡ true → n < limit
is_below n limit h = grind (arith, nat_tests, h)

counted_in : (t : Bool) (order : ℕ) (made tuple : Tuple) → nat_lt order 64 ≡ t → cond t (Ok made) (Err TOO_MANY) ≡ Ok tuple → (made ≡ tuple) × (order < 64)
counted_in true order made tuple e h = (ok_same made tuple h, is_below order 64 e)
counted_in false order made tuple e h = absurd (err_ok TOO_MANY tuple h)

counted_ok : (order : ℕ) (made tuple : Tuple) → counted order made ≡ Ok tuple → (made ≡ tuple) × (order < 64)
unfolding counted
counted_ok order made tuple h = counted_in (nat_lt order 64) order made tuple refl h

parted_in : (t : Bool) (made tuple : Tuple) → cond t (Ok made) (Err BAD_TUPLE) ≡ Ok tuple → made ≡ tuple
parted_in true made tuple h = ok_same made tuple h
parted_in false made tuple h = absurd (err_ok BAD_TUPLE tuple h)

parted_ok : (order : Bytes) (made tuple : Tuple) → parted order made ≡ Ok tuple → made ≡ tuple
unfolding parted
parted_ok order made tuple h = parted_in (is_parted order) made tuple h

at_kept : (apps : List Bytes) (order : ℕ) (t : TupleTexts) (tuple : Tuple) → tuple_at apps order t ≡ Ok tuple → (tuple.app < length apps) × (order < 64)
unfolding tuple_at
at_kept apps order t tuple h =
    let (texts, _, h1) = then_ok (given BAD_TUPLE (unquoted t)) _ tuple h in
    let (made, is, h2) = then_ok (tuple_of apps order texts) _ tuple h1 in
    let (one, is_one, h3) = then_ok (counted order made) (parted t.order) tuple h2 in
    let (same, few) = counted_ok order made tuple (is_one ∙ ap Ok (parted_ok t.order one tuple h3)) in
    (subst (λ (u : Tuple). u.app < length apps) same (tuple_below apps order texts made is), few)

abbrev AreNamed : List Bytes → List Tuple → Type 0
AreNamed apps tuples = All (λ (tuple : Tuple). tuple.app < length apps) tuples

none_named : (apps : List Bytes) → AreNamed apps []
none_named apps k d h = absurd (omega (arith, h))

with_first : List Bytes → ℕ → List Bytes → Tuple → Result (List Tuple) ℕ
with_first apps order more tuple = then_read (tuples_in apps (1 + order) more) (λ tuples. Ok (tuple ∷ tuples))

one_more : (order : ℕ) (tuple : Tuple) (tuples : List Tuple) → order < 64 → length tuples ≤ 64 - (1 + order) → length (tuple ∷ tuples) ≤ 64 - order
one_more order tuple tuples h g = omega (arith, h, g)

pub tuples_kept : (apps : List Bytes) (order : ℕ) (ps : List Bytes) (tuples : List Tuple) → tuples_in apps order ps ≡ Ok tuples → AreNamed apps tuples × (length tuples ≤ 64 - order)
unfolding tuples_in
tuples_kept apps order [] tuples h =
    let none = ok_same [] tuples h in
    (subst (AreNamed apps) none (none_named apps), subst (λ (ts : List Tuple). length ts ≤ 64 - order) none (omega arith))
tuples_kept apps order (a ∷ []) tuples h = absurd (err_ok BAD_TUPLE tuples h)
tuples_kept apps order (a ∷ s ∷ []) tuples h = absurd (err_ok BAD_TUPLE tuples h)
tuples_kept apps order (a ∷ s ∷ g ∷ []) tuples h = absurd (err_ok BAD_TUPLE tuples h)
tuples_kept apps order (a ∷ s ∷ g ∷ r ∷ []) tuples h = absurd (err_ok BAD_TUPLE tuples h)
tuples_kept apps order (a ∷ s ∷ g ∷ r ∷ m ∷ []) tuples h = absurd (err_ok BAD_TUPLE tuples h)
tuples_kept apps order (a ∷ s ∷ g ∷ r ∷ m ∷ o ∷ more) tuples h =
    let t : TupleTexts = record { app = a; subscriber = s; region = g; route = r; modifier = m; order = o } in
    let (tuple, is, h1) = then_ok (tuple_at apps order t) _ tuples h in
    let (others, read, h2) = then_ok (tuples_in apps (1 + order) more) _ tuples h1 in
    let made = ok_same (tuple ∷ others) tuples h2 in
    let (named, few) = at_kept apps order t tuple is in
    let (all, less) = tuples_kept apps (1 + order) more others read in (
      subst (AreNamed apps) made (All-cons (λ (u : Tuple). u.app < length apps) tuple others named all),
      subst (λ (ts : List Tuple). length ts ≤ 64 - order) made (one_more order tuple others few less),
    )

-- ## Lists

pub record IsKept (apps : List Bytes) (list : MethodList) : Type 0 where
  pub named : All (λ (tuple : Tuple). tuple.app < length apps) list.tuples
  pub few : length list.tuples ≤ 64

list_kept : (apps : List Bytes) (earlier : List MethodList) (line : Bytes) (list : MethodList) → list_in apps earlier line ≡ Ok list → IsKept apps list
unfolding list_in
list_kept apps earlier line list h =
    let h1 = if_ok _ NO_SEPARATOR _ list h in
    let h2 = if_ok _ DOUBLE_METHOD _ list h1 in
    let (tuples, read, h3) = then_ok (tuples_in apps 0 (parts false (drop 1 (behind_method line)))) _ list h2 in
    let made = ok_same (record { method = method_in line; tuples = tuples }) list h3 in
    let (named, few) = tuples_kept apps 0 _ tuples read in
    subst (IsKept apps) made (record { named = named; few = few })

abbrev AreKept : List Bytes → List MethodList → Type 0
AreKept apps lists = All (IsKept apps) lists

none_kept : (apps : List Bytes) → AreKept apps []
none_kept apps k d h = absurd (omega (arith, h))

option_kept : (apps : List Bytes) (t : Bool) (r : Result MethodList ℕ) (found : Option MethodList) → ((list : MethodList) → r ≡ Ok list → IsKept apps list)
    → cond t (Ok None) (then_read r (λ list. Ok (Some list))) ≡ Ok found → AreKept apps (option_to_list found)
option_kept apps true r found kept h = subst (λ (o : Option MethodList). AreKept apps (option_to_list o)) (ok_same None found h) (none_kept apps)
option_kept apps false r found kept h =
    let (list, is, h1) = then_ok r (λ l. Ok (Some l)) found h in
    subst (λ (o : Option MethodList). AreKept apps (option_to_list o)) (ok_same (Some list) found h1) (All-cons (IsKept apps) list [] (kept list is) (none_kept apps))

found_kept : (apps : List Bytes) (earlier : List MethodList) (line : Bytes) (found : Option MethodList) → list_of apps earlier line ≡ Ok found → AreKept apps (option_to_list found)
unfolding list_of
found_kept apps earlier line found h = option_kept apps (is_comment line) (list_in apps earlier line) found (list_kept apps earlier line) h

pub then_line_ok : {A B : Type 0} (number : ℕ) (r : Result A ℕ) (next : A → Result B Fault) (b : B) → then_line number r next ≡ Ok b → (a : A) × (r ≡ Ok a) × (next a ≡ Ok b)
unfolding then_line
then_line_ok number (Ok a) next b h = (a, refl, h)
then_line_ok number (Err kind) next b h = absurd (err_ok (record { line = number; kind = kind }) b h)

judged_kept : (apps : List Bytes) (number : ℕ) (earlier : List MethodList) (ls : List Line) (lists : List MethodList) → AreKept apps earlier → judged apps number earlier ls ≡ Ok lists → AreKept apps lists
unfolding judged
judged_kept apps number earlier [] lists kept h = subst (AreKept apps) (ok_same earlier lists h) kept
judged_kept apps number earlier (line ∷ more) lists kept h =
    let (found, is, h1) = then_line_ok number (list_of apps earlier line.text) _ lists h in
    judged_kept apps (number + line.height) (earlier ++ option_to_list found) more lists (All-append (IsKept apps) earlier (option_to_list found) kept (found_kept apps earlier line.text found is)) h1

table_in : (apps : List Bytes) (r : Result (List MethodList) Fault) (dar : Dar) → ((lists : List MethodList) → r ≡ Ok lists → AreKept apps lists) → table_with r ≡ Ok dar → AreKept apps dar.lists
unfolding table_with
table_in apps (Ok lists) dar kept h = subst (λ (d : Dar). AreKept apps d.lists) (ok_same (record { lists = lists }) dar h) (kept lists refl)
table_in apps (Err fault) dar kept h = absurd (err_ok fault dar h)

if_short : (t : Bool) (r : Result Dar Fault) (dar : Dar) → cond t (Err (record { line = 0; kind = LONG })) r ≡ Ok dar → r ≡ Ok dar
if_short true r dar h = absurd (err_ok (record { line = 0; kind = LONG }) dar h)
if_short false r dar h = h

pub table_kept : (text : Bytes) (apps : List Bytes) (dar : Dar) → table_of text apps ≡ Ok dar → All (IsKept apps) dar.lists
unfolding table_of
table_kept text apps dar h =
    table_in apps (judged apps 1 [] (lines text)) dar (λ lists is. judged_kept apps 1 [] (lines text) lists (none_kept apps) is) (if_short _ _ dar h)

pub named_if_ok : (text : Bytes) (apps : List Bytes) (r : Result Dar DarRefused) → IsJudged r (table_of text apps)
    → IfOk r (λ dar. All (λ (list : MethodList). All (λ (tuple : Tuple). tuple.app < length apps) list.tuples) dar.lists)
named_if_ok text apps (Ok dar) h = λ k d below. (table_kept text apps dar h k d below).named
named_if_ok text apps (Err refused) h = tt

pub few_if_ok : (text : Bytes) (apps : List Bytes) (r : Result Dar DarRefused) → IsJudged r (table_of text apps) → IfOk r (λ dar. All (λ (list : MethodList). length list.tuples ≤ 64) dar.lists)
few_if_ok text apps (Ok dar) h = λ k d below. (table_kept text apps dar h k d below).few
few_if_ok text apps (Err refused) h = tt
