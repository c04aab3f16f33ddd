-- A written tuple is read as the tuple.
use Rattle.std.proofs.Common.{◌≡◌, ℕ, zero, suc, Bool, true, false, cond, not, Option, Some, None, Result, Ok, Err, List, [], ◌∷◌, ◌++◌, ◌||◌, ◌&&◌, ◌==◌, ◌+◌, ◌<◌, ◌≤◌, ◌^◌, ◌%◌, length, get_or, subst, sym, decimal, refl, ap, ◌∙◌, append_assoc, arith}
use Rattle.std.specs.Prelude.{codes, nat_eq, nat_lt, unwrap_or, option_and_then}
use Rattle.std.specs.List.{position, position_or_len}
use Rattle.std.specs.Cmp.Lexicographic.{same_text}
use Rattle.std.proofs.lemmas.List.Quantifiers.{position-Some}
use Rattle.sc_value.proofs.ListFacts.{slice_get_at}
use Rattle.std.proofs.lemmas.Bool.Decides.{nat_tests}
use Rattle.std.proofs.lemmas.Fmt.{decimal_by_steps}
use Rattle.std.proofs.lemmas.List.Folds.{list_any-append}
use Rattle.sc_tokens.specs.Names.{same_bytes}
use Rattle.sc_value.specs.declared.ids.Region.{Region}
use Rattle.sc_value.specs.declared.ids.Region.TheVariants.{Originating, Terminating, Neutral}
use Rattle.sc_value.specs.declared.parts.Address.{Address}
use Rattle.sc_terms.specs.declared.settings.Modifier.{Modifier}
use Rattle.sc_terms.specs.declared.settings.Modifier.TheVariants.{Route, RouteBack, NoRoute}
use Rattle.sc_terms.specs.declared.settings.Tuple.{Tuple}
use Rattle.sc_tokens.specs.Bytes.{Bytes}
use Rattle.sc_tokens.specs.Cuts.{has}
use Rattle.sc_dar.specs.Tuples.{BAD_TUPLE, BAD_REGION, BAD_MODIFIER, BAD_ORDER, UNKNOWN_APPLICATION, BAD_ROUTE, TupleTexts, then_read, or_refusal as given, parts, region_of, modifier_of, order_of, of_32, app_of, route_of, tuple_of, tuple_within as counted, tuple_before_comma as parted, tuple_at, tuples_in}
use Rattle.sc_dar.specs.WrittenTables.{region_text, modifier_text, route_text, between, app_text, tuple_front, tuple_back, tuple_text, lead, tuples_text}
use Rattle.sc_dar.specs.Rules.{IsPlain, AreNames, IsTuple, AreTuples}
use Rattle.sc_dar.proofs.WrittenParts.{ArePlain, six_text, six_parts, listed, in_part, parted_is, parts_are, unquoted_is, bracket_comma, bracket_last}

-- ## Names of applications

same_byte : (b : ℕ) → nat_eq b b ≡ true
same_byte b = grind (arith, nat_tests)

same_self : (text : Bytes) → same_bytes text text ≡ true
same_self [] = refl
same_self (b ∷ bs) = ap (λ t. t && same_bytes bs bs) (same_byte b) ∙ same_self bs

name_is : (apps : List Bytes) (app : ℕ) → app < length apps → app_text apps app ≡ get_or apps app []
unfolding app_text
name_is apps app below = ap (λ o. unwrap_or o []) (slice_get_at apps app [] below)

pub name_plain : (apps : List Bytes) (app : ℕ) → AreNames apps → app < length apps → IsPlain (app_text apps app)
name_plain apps app names below = subst IsPlain (sym (name_is apps app below)) (names.plain app [] below)

positive : (n : ℕ) → nat_lt 0 (suc n) ≡ true
positive n = grind (arith, nat_tests)

one_less : (k n : ℕ) → nat_lt k n ≡ true → nat_lt (1 + k) (suc n) ≡ true
one_less k n h = grind (arith, nat_tests, h)

-- where an item passes the test, a first one does
passes : (test : Bytes → Bool) (xs : List Bytes) (i : ℕ) → i < length xs → test (get_or xs i []) ≡ true → nat_lt (position_or_len test xs) (length xs) ≡ true
passes test [] i below h = absurd (omega (arith, below))
passes test (x ∷ xs) zero below h = ap (λ t. nat_lt (cond (not t) (1 + position_or_len test xs) 0) (suc (length xs))) h ∙ positive (length xs)
passes test (x ∷ xs) (suc i) below h = elim (test x) as (λ (t : Bool). nat_lt (cond (not t) (1 + position_or_len test xs) 0) (suc (length xs)) ≡ true) [
  | true ↦ positive (length xs)
  | false ↦ one_less (position_or_len test xs) (length xs) (passes test xs i (omega (arith, below)) h)
]

first_place : (test : Bytes → Bool) (xs : List Bytes) (i : ℕ) → i < length xs → test (get_or xs i []) ≡ true → position test xs ≡ Some (position_or_len test xs)
first_place test xs i below h = ap (λ t. cond t (Some (position_or_len test xs)) None) (passes test xs i below h)

is_place : (n limit : ℕ) → n < limit → nat_lt n limit ≡ true
is_place n limit h = grind (arith, nat_tests, h)

-- the name leads to its application
by_name : (apps : List Bytes) (app : ℕ) → AreNames apps → app < length apps → app_of apps (get_or apps app []) ≡ Some app
by_name apps app names below =
    let name = get_or apps app [] in
    let test = λ (a : Bytes). same_bytes a name in
    let place = position_or_len test apps in
    let found = first_place test apps app below (same_self name) in
    let (within, passed, _) = position-Some test apps place [] found in
    let same : place ≡ app = names.distinct place app within below (same_text (get_or apps place []) name (sym passed)) in
    ap (option_and_then of_32) found ∙ ap of_32 same ∙ ap (λ t. cond t (Some app) None) (is_place app (2 ^ 32) (omega (arith, below, names.few)))

pub name_again : (apps : List Bytes) (app : ℕ) → AreNames apps → app < length apps → app_of apps (app_text apps app) ≡ Some app
name_again apps app names below = ap (app_of apps) (name_is apps app below) ∙ by_name apps app names below

-- ## The texts of a tuple

-- the six texts of a tuple
abbrev pub texts_of : List Bytes → ℕ → Tuple → TupleTexts
texts_of apps order tuple = record {
  app = app_text apps tuple.app;
  subscriber = tuple.subscriber;
  region = region_text tuple.region;
  route = route_text tuple.route;
  modifier = modifier_text tuple.modifier;
  order = decimal order;
}

regroup : (l a b s g r m o c rest : Bytes) → ((((l ++ (((((a ++ b) ++ s) ++ b) ++ g))) ++ b) ++ ((((r ++ b) ++ m) ++ b) ++ o)) ++ c) ++ rest ≡ l ++ (a ++ (b ++ (s ++ (b ++ (g ++ (b ++ (r ++ (b ++ (m ++ (b ++ (o ++ (c ++ rest))))))))))))
regroup l a b s g r m o c rest = simp append_assoc

pub text_is : (apps : List Bytes) (order : ℕ) (tuple : Tuple) (rest : Bytes) → 32 ∷ (tuple_text apps order tuple ++ rest) ≡ six_text (texts_of apps order tuple) rest
unfolding tuple_text tuple_front tuple_back between
text_is apps order tuple rest =
    ap (λ t. 32 ∷ t) (regroup (codes "(\"") (app_text apps tuple.app) between tuple.subscriber (region_text tuple.region) (route_text tuple.route) (modifier_text tuple.modifier) (decimal order) (codes "\")") rest)

-- ## Plain texts

region_plain : (region : Region) → IsPlain (region_text region)
unfolding region_text has
region_plain Originating = record { quote = refl; cr = refl; lf = refl }
region_plain Terminating = record { quote = refl; cr = refl; lf = refl }
region_plain Neutral = record { quote = refl; cr = refl; lf = refl }

modifier_plain : (modifier : Modifier) → IsPlain (modifier_text modifier)
unfolding modifier_text has
modifier_plain Route = record { quote = refl; cr = refl; lf = refl }
modifier_plain RouteBack = record { quote = refl; cr = refl; lf = refl }
modifier_plain NoRoute = record { quote = refl; cr = refl; lf = refl }

no_digit : (sign k : ℕ) → sign < 48 → (48 + k == sign) ≡ false
no_digit sign k h = grind (arith, nat_tests, h)

digit_lacks : (sign k : ℕ) → sign < 48 → has sign ((48 + k) ∷ []) ≡ false
unfolding has
digit_lacks sign k h = ap (λ t. t || false) (no_digit sign k h)

abbrev Lacks : ℕ → ℕ → Bytes → Type 0
Lacks sign n digits = has sign digits ≡ false

more_lacks : (sign n : ℕ) (ds : Bytes) → sign < 48 → has sign ds ≡ false → has sign (ds ++ (48 + n % 10) ∷ []) ≡ false
unfolding has
more_lacks sign n ds h lacks = list_any-append (λ b. b == sign) ds ((48 + n % 10) ∷ []) ∙ ap (λ t. t || has sign ((48 + n % 10) ∷ [])) lacks ∙ digit_lacks sign (n % 10) h

pub decimal_lacks : (sign n : ℕ) → sign < 48 → n < 2 ^ 64 → has sign (decimal n) ≡ false
decimal_lacks sign n h fits = decimal_by_steps (Lacks sign) (λ k _. digit_lacks sign k h) (λ k ds _ lacks. more_lacks sign k ds h lacks) n fits

decimal_plain : (n : ℕ) → n < 2 ^ 64 → IsPlain (decimal n)
decimal_plain n fits = record {
  quote = decimal_lacks 34 n (omega arith) fits;
  cr = decimal_lacks 13 n (omega arith) fits;
  lf = decimal_lacks 10 n (omega arith) fits;
}

pub texts_plain : (apps : List Bytes) (order : ℕ) (tuple : Tuple) → AreNames apps → IsTuple apps tuple → order < 2 ^ 64 → ArePlain (texts_of apps order tuple)
texts_plain apps order tuple names h fits = record {
  app = name_plain apps tuple.app names h.app;
  subscriber = h.subscriber;
  region = region_plain tuple.region;
  route = h.route_plain;
  modifier = modifier_plain tuple.modifier;
  order = decimal_plain order fits;
}

-- ## What the texts say

region_again : (region : Region) → region_of (region_text region) ≡ Some region
unfolding region_of region_text
region_again Originating = refl
region_again Terminating = refl
region_again Neutral = refl

modifier_again : (modifier : Modifier) → modifier_of (modifier_text modifier) ≡ Some modifier
unfolding modifier_of modifier_text
modifier_again Route = refl
modifier_again RouteBack = refl
modifier_again NoRoute = refl

order_again : (order : ℕ) → order_of order (decimal order) ≡ Some order
order_again order = ap (λ t. cond t (Some order) None) (same_self (decimal order))

by_words : Bytes → Option Region → Option Modifier → Option ℕ → Option ℕ → Option (Option Address) → Result Tuple ℕ
by_words subscriber g m o a r =
    then_read (given BAD_REGION g) (λ region.
    then_read (given BAD_MODIFIER m) (λ modifier.
    then_read (given BAD_ORDER o) (λ _.
    then_read (given UNKNOWN_APPLICATION a) (λ app.
    then_read (given BAD_ROUTE r) (λ route.
    Ok (record { app = app; subscriber = subscriber; region = region; route = route; modifier = modifier }))))))

pub tuple_again : (apps : List Bytes) (order : ℕ) (tuple : Tuple) → AreNames apps → IsTuple apps tuple → tuple_of apps order (texts_of apps order tuple) ≡ Ok tuple
unfolding tuple_of then_read by_words
tuple_again apps order tuple names h =
    ap (λ g. by_words tuple.subscriber g (modifier_of (modifier_text tuple.modifier)) (order_of order (decimal order)) (app_of apps (app_text apps tuple.app)) (route_of (route_text tuple.route))) (region_again tuple.region)
    ∙ ap (λ m. by_words tuple.subscriber (Some tuple.region) m (order_of order (decimal order)) (app_of apps (app_text apps tuple.app)) (route_of (route_text tuple.route))) (modifier_again tuple.modifier)
    ∙ ap (λ o. by_words tuple.subscriber (Some tuple.region) (Some tuple.modifier) o (app_of apps (app_text apps tuple.app)) (route_of (route_text tuple.route))) (order_again order)
    ∙ ap (λ a. by_words tuple.subscriber (Some tuple.region) (Some tuple.modifier) (Some order) a (route_of (route_text tuple.route))) (name_again apps tuple.app names h.app)
    ∙ ap (λ r. by_words tuple.subscriber (Some tuple.region) (Some tuple.modifier) (Some order) (Some tuple.app) r) h.route

is_few : (order : ℕ) → order < 64 → nat_lt order 64 ≡ true
is_few order h = grind (arith, nat_tests, h)

counted_is : (order : ℕ) (tuple : Tuple) → order < 64 → counted order tuple ≡ Ok tuple
unfolding counted
counted_is order tuple h = rw (is_few order h) refl

none_follows : (text : Bytes) (tuple : Tuple) → IsPlain text → parted (in_part text (41 ∷ [])) tuple ≡ Ok tuple
unfolding parted
none_follows text tuple h = ap (λ t. cond t (Ok tuple) (Err BAD_TUPLE)) (parted_is text h)

pub fits_64 : (order : ℕ) → order < 64 → order < 2 ^ 64
fits_64 order h = omega (arith, h)

pub at_again : (apps : List Bytes) (order : ℕ) (tuple : Tuple) → AreNames apps → IsTuple apps tuple → order < 64 → tuple_at apps order (six_parts (texts_of apps order tuple)) ≡ Ok tuple
unfolding tuple_at then_read
at_again apps order tuple names h few =
    let texts = texts_of apps order tuple in
    let plain = texts_plain apps order tuple names h (fits_64 order few) in
    let end = λ (made : Tuple). then_read (counted order made) (parted (six_parts texts).order) in
    ap (λ u. then_read (given BAD_TUPLE u) (λ t. then_read (tuple_of apps order t) end)) (unquoted_is texts plain)
    ∙ ap (λ r. then_read r end) (tuple_again apps order tuple names h)
    ∙ ap (λ r. then_read r (parted (six_parts texts).order)) (counted_is order tuple few)
    ∙ none_follows texts.order tuple plain.order

-- ## The tuples of a line

with_first : List Bytes → ℕ → List Bytes → Result Tuple ℕ → Result (List Tuple) ℕ
with_first apps order more first = then_read first (λ tuple. then_read (tuples_in apps (1 + order) more) (λ tuples. Ok (tuple ∷ tuples)))

tuples_step : (apps : List Bytes) (order : ℕ) (t : TupleTexts) (more : List Bytes) (tuple : Tuple) (tuples : List Tuple) → tuple_at apps order t ≡ Ok tuple → tuples_in apps (1 + order) more ≡ Ok tuples
    → tuples_in apps order (listed t more) ≡ Ok (tuple ∷ tuples)
unfolding tuples_in then_read with_first
tuples_step apps order t more tuple tuples h g =
    ap (with_first apps order more) h ∙ ap (λ r. then_read r (λ others. Ok (tuple ∷ others))) g

none_more : (apps : List Bytes) (order : ℕ) → tuples_in apps order [] ≡ Ok []
unfolding tuples_in
none_more apps order = refl

pub no_text : (apps : List Bytes) (order : ℕ) → tuples_text apps order [] ≡ []
unfolding tuples_text
no_text apps order = refl

not_first : (order : ℕ) → (1 + order == 0) ≡ false
not_first order = grind (arith, nat_tests)

led_more : (order : ℕ) → lead (1 + order) ≡ 44 ∷ 32 ∷ []
unfolding lead
led_more order = rw (not_first order) refl

pub next_text : (apps : List Bytes) (order : ℕ) (tuple : Tuple) (more : List Tuple) → tuples_text apps (1 + order) (tuple ∷ more) ≡ 44 ∷ 32 ∷ (tuple_text apps (1 + order) tuple ++ tuples_text apps (1 + (1 + order)) more)
unfolding tuples_text
next_text apps order tuple more =
    append_assoc (lead (1 + order)) (tuple_text apps (1 + order) tuple) (tuples_text apps (1 + (1 + order)) more)
    ∙ ap (λ l. l ++ (tuple_text apps (1 + order) tuple ++ tuples_text apps (1 + (1 + order)) more)) (led_more order)

pub first_rule : (apps : List Bytes) (tuple : Tuple) (more : List Tuple) → AreTuples apps (tuple ∷ more) → IsTuple apps tuple × AreTuples apps more
unfolding AreTuples
first_rule apps tuple more h = h

pub room : (order : ℕ) (more : List Tuple) → 1 + order + length more ≤ 64 → order < 64
room order more h = omega (arith, h)

pub room_on : (order : ℕ) (tuple : Tuple) (more : List Tuple) → 1 + order + length (tuple ∷ more) ≤ 64 → 1 + (1 + order) + length more ≤ 64
room_on order tuple more h = omega (arith, h)

pub tuples_again : (apps : List Bytes) (order : ℕ) (tuple : Tuple) (more : List Tuple) → AreNames apps → AreTuples apps (tuple ∷ more) → 1 + order + length more ≤ 64
    → tuples_in apps order (parts false (32 ∷ (tuple_text apps order tuple ++ tuples_text apps (1 + order) more))) ≡ Ok (tuple ∷ more)
tuples_again apps order tuple [] names h few =
    let (is, _) = first_rule apps tuple [] h in
    ap (λ t. tuples_in apps order (parts false (32 ∷ (tuple_text apps order tuple ++ t)))) (no_text apps (1 + order))
    ∙ ap (λ t. tuples_in apps order (parts false t)) (text_is apps order tuple [])
    ∙ ap (tuples_in apps order) (parts_are (texts_of apps order tuple) [] [] (texts_plain apps order tuple names is (fits_64 order (room order [] few))) bracket_last)
    ∙ tuples_step apps order (six_parts (texts_of apps order tuple)) [] tuple [] (at_again apps order tuple names is (room order [] few)) (none_more apps (1 + order))
tuples_again apps order tuple (next ∷ more) names h few =
    let (is, others) = first_rule apps tuple (next ∷ more) h in
    let rest = 32 ∷ (tuple_text apps (1 + order) next ++ tuples_text apps (1 + (1 + order)) more) in
    ap (λ t. tuples_in apps order (parts false (32 ∷ (tuple_text apps order tuple ++ t)))) (next_text apps order next more)
    ∙ ap (λ t. tuples_in apps order (parts false t)) (text_is apps order tuple (44 ∷ rest))
    ∙ ap (tuples_in apps order) (parts_are (texts_of apps order tuple) (44 ∷ rest) (parts false rest) (texts_plain apps order tuple names is (fits_64 order (room order (next ∷ more) few))) (bracket_comma rest))
    ∙ tuples_step apps order (six_parts (texts_of apps order tuple)) (parts false rest) tuple (next ∷ more) (at_again apps order tuple names is (room order (next ∷ more) few))
    (tuples_again apps (1 + order) next more names others (room_on order next more few))
