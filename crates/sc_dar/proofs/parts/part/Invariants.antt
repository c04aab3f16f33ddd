use Rattle.std.proofs.Common.{◌≡◌, false, take, drop}
use Rattle.sc_dar.specs.Tuples.{parts}
use Rattle.sc_dar.proofs.Parting.{behind_front}
use Rattle.sc_dar.proofs.parts.part.Given as goal

abbrev pub invariant-loop-i : goal.invariant-loop-i
invariant-loop-i l = behind_front (take l.i l.text) (parts l.quoted (drop l.i l.text)) ≡ parts false l.text
