-- Settings whose numbers keep their ranges are a set-up with a table for their applications.
use Rattle.std.proofs.Common.{◌<◌, ◌≤◌, ℕ, List, length, map, sym, subst}
use Rattle.std.specs.List.{All}
use Rattle.std.proofs.lemmas.List.{length-map}
use Rattle.sc_terms.specs.declared.settings.Config.{Config}
use Rattle.sc_terms.specs.declared.settings.Dar.{Dar}
use Rattle.sc_terms.specs.declared.settings.AppEntry.{AppEntry}
use Rattle.sc_terms.specs.declared.settings.MethodList.{MethodList}
use Rattle.sc_terms.specs.declared.settings.Tuple.{Tuple}
use Rattle.sc_model.specs.Settings.{Charters, IsSetup}

pub is_setup : {A : Type 0} (charters : A → Charters) (kinds : List A) (config : Config) (dar : Dar) → config.journal_steps ≤ 1000000 → config.journal_bytes ≤ 67108864 → length config.app ≤ 64 → All (λ (app : AppEntry). app.kind < length kinds) config.app
    → All (λ (list : MethodList). All (λ (tuple : Tuple). tuple.app < length config.app) list.tuples) dar.lists → IsSetup (record { config = config; dar = dar; kinds = map charters kinds })
is_setup charters kinds config dar steps bytes apps known tuples = record {
  steps = steps;
  bytes = bytes;
  apps = apps;
  kinds = subst (λ (n : ℕ). All (λ (app : AppEntry). app.kind < n) config.app) (sym (length-map kinds charters)) known;
  tuples = tuples;
}
