use Rattle.std.proofs.Common.{◌≡◌}
use Rattle.toml.specs.View.{members_view}
use Rattle.sc_config.specs.Documents.{first_key}
use Rattle.sc_config.specs.Faults.{is_wrong}
use Rattle.sc_config.proofs.faults.first_wrong.Given as goal

abbrev pub invariant-entries : goal.invariant-entries
invariant-entries l =
    (goal.iterator-entries).can_next l.key-iterator × (goal.iterator-entries).is_finite l.key-iterator
    × (first_key (is_wrong l.wrong) (members_view l.key-iterator) ≡ first_key (is_wrong l.wrong) (members_view l.table.entries))
