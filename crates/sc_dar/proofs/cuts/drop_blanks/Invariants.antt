use Rattle.std.proofs.Common.{◌≡◌, drop}
use Rattle.sc_dar.specs.Lines.{drop_blanks}
use Rattle.sc_dar.proofs.cuts.drop_blanks.Given as goal

abbrev pub invariant-loop-i : goal.invariant-loop-i
invariant-loop-i l = drop_blanks (drop l.i l.text) ≡ drop_blanks l.text
