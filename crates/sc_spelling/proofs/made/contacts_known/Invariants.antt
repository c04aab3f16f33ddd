use Rattle.std.proofs.Common.{take}
use Rattle.sc_value.specs.ContactRules.{IsContact}
use Rattle.sc_spelling.specs.Kept.{AllKeep}
use Rattle.sc_spelling.proofs.made.contacts_known.Given as goal

abbrev pub invariant-loop-i : goal.invariant-loop-i
invariant-loop-i l = AllKeep IsContact (take l.i l.contacts)
