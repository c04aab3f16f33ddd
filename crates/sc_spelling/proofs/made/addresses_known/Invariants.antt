use Rattle.std.proofs.Common.{take}
use Rattle.sc_value.specs.AddressValues.{IsAddress}
use Rattle.sc_spelling.specs.Kept.{AllKeep}
use Rattle.sc_spelling.proofs.made.addresses_known.Given as goal

abbrev pub invariant-loop-i : goal.invariant-loop-i
invariant-loop-i l = AllKeep IsAddress (take l.i l.addresses)
