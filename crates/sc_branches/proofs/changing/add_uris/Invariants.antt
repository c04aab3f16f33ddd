use Rattle.std.proofs.Common.{◌≡◌, ◌++◌, take}
use Rattle.sc_branches.proofs.changing.add_uris.Given as goal

abbrev pub invariant-loop-uri : goal.invariant-loop-uri
invariant-loop-uri l = l.list ≡ l.fn.list ++ take l.uri-index l.fn.uris
