use Rattle.std.proofs.Common.{◌≡◌, ◌++◌, drop}
use Rattle.sc_hosts.specs.Branches.{new_targets as untried}
use Rattle.sc_branches.proofs.targets.find_untried.Given as goal

abbrev pub invariant-loop-uri : goal.invariant-loop-uri
invariant-loop-uri l = l.found ++ untried l.all (drop l.uri-index l.uris) ≡ l.fn.found ++ untried l.fn.all l.uris
