-- The settings of a configuration are in range, and with a table for its applications they are a set-up.
use Rattle.std.proofs.Common.{◌≡◌, ◌<◌, ◌≤◌, ◌&&◌, ◌||◌, ◌+◌, ℕ, suc, ℤ, pos, negsuc, Bool, true, false, not, cond, Option, None, Some, Result, Ok, Err, List, [], ◌∷◌, map, codes, length, refl, sym, subst, arith}
use Rattle.std.specs.Prelude.{nat_le, nat_lt, option_map, option_and_then, is_some}
use Rattle.std.specs.List.{All, find, position_or_len, list_any, list_all}
use Rattle.std.specs.Option.{unwrap_or}
use Rattle.std.proofs.lemmas.Bool.{false≢true}
use Rattle.std.proofs.lemmas.Bool.Decides.{nat_tests}
use Rattle.std.proofs.lemmas.List.{length-map}
use Rattle.std.proofs.lemmas.List.Elements.{All-cons}
use Rattle.std.proofs.lemmas.Option.{none-some}
use Rattle.toml.specs.Data.{Data, Members, get_member, as_integer, as_table}
use Rattle.sc_tokens.specs.Names.{same_bytes}
use Rattle.sc_terms.specs.Ranges.{are_few}
use Rattle.sc_terms.specs.declared.settings.Config.{Config}
use Rattle.sc_terms.specs.declared.settings.AppEntry.{AppEntry}
use Rattle.sc_tokens.specs.Bytes.{Bytes}
use Rattle.sc_config.specs.Documents.{document}
use Rattle.sc_config.specs.KeyValues.{number_within, number_in}
use Rattle.sc_config.specs.Faults.{Fault, RANGE, LONG, fault_if, are_some_tables, apps_in, app_text, is_kind, first_fault, top_fault, table_fault, wrong_apps, unknown_kind, first_refusal}
use Rattle.sc_config.specs.ReadSettings.{settings_of, settings_in, unless_refused, config_of, app_entry, kind_place, number_at}
use Rattle.sc_dar.proofs.Kept.{err_ok, ok_same}

-- ## Numbers

kept_if : (t : Bool) (n high standard : ℕ) → (t ≡ true → n ≤ high) → standard ≤ high → unwrap_or (cond t (Some n) None) standard ≤ high
kept_if true n high standard below least = below refl
kept_if false n high standard below least = least

both_right : (a b : Bool) → (a && b) ≡ true → b ≡ true
both_right true b h = h
both_right false b h = absurd (false≢true h)

within : (low n high : ℕ) → (nat_le low n && nat_le n high) ≡ true → n ≤ high
within low n high h = let right = both_right (nat_le low n) (nat_le n high) h in grind (arith, nat_tests, right)

integer_below : (low high standard : ℕ) (value : Option ℤ) → standard ≤ high → unwrap_or (option_and_then (number_within low high) value) standard ≤ high
unfolding number_within
integer_below low high standard None least = least
integer_below low high standard (Some (pos n)) least = kept_if (nat_le low n && nat_le n high) n high standard (within low n high) least
integer_below low high standard (Some (negsuc n)) least = least

value_below : (low high standard : ℕ) (value : Option Data) → standard ≤ high → unwrap_or (number_in low high standard value) standard ≤ high
unfolding number_in
value_below low high standard None least = least
value_below low high standard (Some value) least = integer_below low high standard (as_integer value) least

number_below : (low high standard : ℕ) (key : Bytes) (top : Members) → standard ≤ high → number_at low high standard key top ≤ high
unfolding number_at
number_below low high standard key top least = value_below low high standard (get_member key top) least

-- ## What is no fault

fault_head : (fault : Option Fault) (others : List (Option Fault)) → first_fault (fault ∷ others) ≡ None → (fault ≡ None) × (first_fault others ≡ None)
unfolding first_fault
fault_head None others none = (refl, none)
fault_head (Some fault) others none = absurd (none-some _ (sym none))

first_of : (a b : Option Fault) → first_fault (a ∷ b ∷ []) ≡ None → a ≡ None
first_of a b none = (fault_head a (b ∷ []) none).0

third_fifth : (a b c d e : Option Fault) → first_fault (a ∷ b ∷ c ∷ d ∷ e ∷ []) ≡ None → (c ≡ None) × (e ≡ None)
third_fifth a b c d e none =
    let second = fault_head a (b ∷ c ∷ d ∷ e ∷ []) none in
    let third = fault_head b (c ∷ d ∷ e ∷ []) second.1 in
    let fourth = fault_head c (d ∷ e ∷ []) third.1 in
    let fifth = fault_head d (e ∷ []) fourth.1 in
    (fourth.0, (fault_head e [] fifth.1).0)

eighth_of : (a b c d e f g h : Option Fault) → first_fault (a ∷ b ∷ c ∷ d ∷ e ∷ f ∷ g ∷ h ∷ []) ≡ None → h ≡ None
eighth_of a b c d e f g h none =
    let second = fault_head a (b ∷ c ∷ d ∷ e ∷ f ∷ g ∷ h ∷ []) none in
    let third = fault_head b (c ∷ d ∷ e ∷ f ∷ g ∷ h ∷ []) second.1 in
    let fourth = fault_head c (d ∷ e ∷ f ∷ g ∷ h ∷ []) third.1 in
    (third_fifth d e f g h fourth.1).1

fault_none : (t : Bool) (kind : ℕ) (key : Bytes) → fault_if t kind key ≡ None → t ≡ false
fault_none true kind key none = absurd (none-some _ (sym none))
fault_none false kind key none = refl

not_false : (t : Bool) → not t ≡ false → t ≡ true
not_false true h = refl
not_false false h = absurd (false≢true (sym h))

map_none : {A B : Type 0} (f : A → B) (o : Option A) → option_map f o ≡ None → o ≡ None
map_none f None none = refl
map_none f (Some a) none = absurd (none-some _ (sym none))

both_left : (a b : Bool) → (a && b) ≡ true → a ≡ true
both_left true b h = refl
both_left false b h = absurd (false≢true h)

is_few : (n : ℕ) → nat_le n 64 ≡ true → n ≤ 64
is_few n h = grind (arith, nat_tests, h)

few_tables : (values : List Data) (tables : Bool) → (nat_le 1 (length values) && nat_le (length values) 64 && tables) ≡ true → length values ≤ 64
few_tables values tables h = is_few (length values) (both_right (nat_le 1 (length values)) (nat_le (length values) 64) (both_left (nat_le 1 (length values) && nat_le (length values) 64) tables h))

few_apps : (top : Members) → wrong_apps top ≡ None → length (apps_in top) ≤ 64
unfolding wrong_apps are_few
few_apps top none = few_tables (apps_in top) (list_all (λ value. is_some (as_table value)) (apps_in top)) (not_false (are_some_tables (apps_in top)) (fault_none (not (are_some_tables (apps_in top))) RANGE (codes "app") none))

-- ## Kinds

next_place : (passes any : Bool) (place long : ℕ) → (any ≡ true → nat_lt place long ≡ true) → (passes || any) ≡ true → nat_lt (cond (not passes) (1 + place) 0) (suc long) ≡ true
next_place true any place long later e = grind (arith, nat_tests)
next_place false any place long later e =
    let below : nat_lt place long ≡ true = later e in
    grind (arith, nat_tests)

-- a place that passes is found
place_below : {X : Type 0} (test : X → Bool) (list : List X) → list_any test list ≡ true → nat_lt (position_or_len test list) (length list) ≡ true
place_below test [] e = absurd (false≢true e)
place_below test (x ∷ list) e = next_place (test x) (list_any test list) (position_or_len test list) (length list) (place_below test list) e

is_below : (n limit : ℕ) → nat_lt n limit ≡ true → n < limit
is_below n limit h = grind (arith, nat_tests, h)

kind_below : (kinds : List Bytes) (name : Bytes) → is_kind kinds name ≡ true → kind_place kinds name < length kinds
unfolding kind_place
kind_below kinds name known =
    let below = place_below (λ kind. same_bytes kind name) kinds known in
    rw below (is_below (position_or_len (λ kind. same_bytes kind name) kinds) (length kinds) below)

-- of the first application and of the others
find_none : (kinds : List Bytes) (app : Data) (apps : List Data) (known : Bool) → is_kind kinds (app_text (codes "kind") app) ≡ known
    → find (λ a. not (is_kind kinds (app_text (codes "kind") a))) (app ∷ apps) ≡ None → (known ≡ true) × (find (λ a. not (is_kind kinds (app_text (codes "kind") a))) apps ≡ None)
find_none kinds app apps true is none = (refl, rw is at none)
find_none kinds app apps false is none = absurd (none-some _ (sym (rw is at none)))

all_kinds : (kinds : List Bytes) (apps : List Data) → find (λ a. not (is_kind kinds (app_text (codes "kind") a))) apps ≡ None → All (λ (app : AppEntry). app.kind < length kinds) (map (app_entry kinds) apps)
unfolding app_entry
all_kinds kinds [] none = λ k d below. absurd (omega (arith, below))
all_kinds kinds (app ∷ apps) none =
    let (known, later) = find_none kinds app apps (is_kind kinds (app_text (codes "kind") app)) refl none in
    All-cons (λ (app : AppEntry). app.kind < length kinds) (app_entry kinds app) (map (app_entry kinds) apps) (kind_below kinds (app_text (codes "kind") app) known) (all_kinds kinds apps later)

-- ## A configuration

-- what the settings of a configuration keep
pub record IsInRange (names : List Bytes) (config : Config) : Type 0 where
  pub steps : config.journal_steps ≤ 1000000
  pub bytes : config.journal_bytes ≤ 67108864
  pub apps : length config.app ≤ 64
  pub kinds : All (λ (app : AppEntry). app.kind < length names) config.app

no_faults : (names : List Bytes) (top : Members) → first_refusal names top ≡ None → (wrong_apps top ≡ None) × (unknown_kind names (apps_in top) ≡ None)
unfolding first_refusal table_fault top_fault
no_faults names top none =
    let found = third_fifth _ _ _ _ _ none in
    (eighth_of _ _ _ _ _ _ _ _ (first_of _ _ found.0), found.1)

made_in_range : (names : List Bytes) (top : Members) → first_refusal names top ≡ None → IsInRange names (config_of names top)
unfolding config_of unknown_kind
made_in_range names top none =
    let (apps, kinds) = no_faults names top none in
    let few = few_apps top apps in
    record {
      steps = number_below 1 1000000 1000000 (codes "journal_steps") top (omega arith);
      bytes = number_below 1 67108864 67108864 (codes "journal_bytes") top (omega arith);
      apps = subst (λ (n : ℕ). n ≤ 64) (sym (length-map (apps_in top) (app_entry names))) few;
      kinds = all_kinds names (apps_in top) (map_none _ _ kinds);
    }

unrefused : (names : List Bytes) (top : Members) (refusal : Option Fault) (config : Config) → first_refusal names top ≡ refusal → unless_refused refusal (config_of names top) ≡ Ok config → IsInRange names config
unfolding unless_refused
unrefused names top None config none is = subst (λ (c : Config). IsInRange names c) (ok_same _ _ is) (made_in_range names top none)
unrefused names top (Some fault) config some is = absurd (err_ok _ _ is)

in_document : (names : List Bytes) (found : Option Members) (config : Config) → settings_in found names ≡ Ok config → IsInRange names config
unfolding settings_in
in_document names None config is = absurd (err_ok _ _ is)
in_document names (Some top) config is = unrefused names top (first_refusal names top) config refl is

if_short : {A : Type 0} (t : Bool) (fault : Fault) (r : Result A Fault) (a : A) → cond t (Err fault) r ≡ Ok a → r ≡ Ok a
if_short true fault r a is = absurd (err_ok _ _ is)
if_short false fault r a is = is

pub in_range : (text : Bytes) (names : List Bytes) (config : Config) → settings_of text names ≡ Ok config → IsInRange names config
unfolding settings_of
in_range text names config is = in_document names (document text) config (if_short (nat_lt 65536 (length text)) (LONG, []) _ config is)
