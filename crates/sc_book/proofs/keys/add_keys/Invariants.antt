use Rattle.std.proofs.Common.{◌≡◌}
use Rattle.std.specs.Map.{keys_of}
use Rattle.sc_book.specs.Gathering.{with_all}
use Rattle.sc_book.proofs.keys.add_keys.Given as goal

-- with the keys that are left there are all
abbrev pub invariant-loop-key : goal.invariant-loop-key
invariant-loop-key g l = with_all l.keys.keys l.key-iterator ≡ with_all l.fn.keys.keys (keys_of l.map.entries)
