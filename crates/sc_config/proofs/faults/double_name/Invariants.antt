use Rattle.std.proofs.Common.{◌≡◌}
use Rattle.sc_config.proofs.NameLaws.{doubled_from}
use Rattle.sc_config.proofs.faults.double_name.Given as goal

abbrev pub invariant-apps : goal.invariant-apps
invariant-apps l = doubled_from l.apps l.at ≡ doubled_from l.apps 0
