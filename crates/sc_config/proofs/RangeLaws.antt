-- A document without fault has 1 to 64 applications.
use Rattle.std.proofs.Common.{◌≡◌, true, false, ◌&&◌, not, cond, Bool, Option, Some, None, List, ◌∷◌, refl, sym}
use Rattle.std.specs.Option.{option_or}
use Rattle.std.proofs.lemmas.Bool.{false≢true}
use Rattle.toml.specs.Data.{Members}
use Rattle.sc_terms.specs.Ranges.{are_few}
use Rattle.sc_syntax.proofs.CutLaws.{none_some}
use Rattle.sc_config.specs.declared.faults.Check.TheVariants.{Range}
use Rattle.sc_tokens.specs.Bytes.{Bytes}
use Rattle.sc_config.specs.Faults.{Fault, first_fault, first_refusal, table_fault, top_fault, wrong_apps, are_some_tables, apps_in}

none_first : (a b : Option Fault) → option_or a b ≡ None → (a ≡ None) × (b ≡ None)
none_first None b none = (refl, none)
none_first (Some fault) b none = absurd (none_some fault (sym none))

pub no_fault : (fault : Option Fault) (rest : List (Option Fault)) → first_fault (fault ∷ rest) ≡ None → (fault ≡ None) × (first_fault rest ≡ None)
unfolding first_fault
no_fault fault rest none = none_first fault (first_fault rest) none

none_if : (test : Bool) (fault : Fault) → cond (not test) (Some fault) None ≡ None → test ≡ true
none_if true fault none = refl
none_if false fault none = absurd (none_some fault (sym none))

both_first : (a b : Bool) → a && b ≡ true → a ≡ true
both_first true b both = refl
both_first false b both = absurd (false≢true both)

few_apps_of : (top : Members) → wrong_apps top ≡ None → are_few (apps_in top) ≡ true
unfolding wrong_apps
few_apps_of top none = both_first _ _ (none_if (are_some_tables (apps_in top)) _ none)

few_at_top : (top : Members) → top_fault Range top ≡ None → are_few (apps_in top) ≡ true
unfolding top_fault
few_at_top top none = few_apps_of top (no_fault _ _ (no_fault _ _ (no_fault _ _ (no_fault _ _ (no_fault _ _ (no_fault _ _ (no_fault _ _ (no_fault _ _ none).1).1).1).1).1).1).1).0

few_in_table : (top : Members) → table_fault Range top ≡ None → are_few (apps_in top) ≡ true
unfolding table_fault
few_in_table top none = few_at_top top (no_fault _ _ none).0

pub few_apps : (kinds : List Bytes) (top : Members) → first_refusal kinds top ≡ None → are_few (apps_in top) ≡ true
unfolding first_refusal
few_apps kinds top none = few_in_table top (no_fault _ _ (no_fault _ _ (no_fault _ _ none).1).1).0
