use Rattle.std.proofs.Common.{◌≡◌, ◌++◌}
use Rattle.toml.specs.View.{members_view}
use Rattle.sc_config.specs.ReadSettings.{host_entries}
use Rattle.sc_config.proofs.making.add_hosts.Given as goal

abbrev pub invariant-hosts : goal.invariant-hosts
invariant-hosts l =
    (goal.iterator-hosts).can_next l.name-iterator × (goal.iterator-hosts).is_finite l.name-iterator
    × (l.entries ++ host_entries (members_view l.name-iterator) ≡ l.fn.entries ++ host_entries (members_view l.hosts.entries))
