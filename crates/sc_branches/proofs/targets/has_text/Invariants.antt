use Rattle.std.proofs.Common.{◌≡◌, false, take}
use Rattle.std.specs.List.{list_any}
use Rattle.sc_branches.specs.Targets.{has_text}
use Rattle.sc_branches.proofs.targets.has_text.Given as goal

abbrev pub invariant-loop-uri : goal.invariant-loop-uri
invariant-loop-uri l = list_any (has_text l.text) (take l.uri-index l.tried) ≡ false
