use Rattle.std.proofs.Common.{◌≡◌, take}
use Rattle.std.specs.List.{fold}
use Rattle.sc_finish.specs.Sweeps.{without}
use Rattle.sc_finish.proofs.sweeping.all_removed.Given as goal

abbrev pub invariant-loop-sess : goal.invariant-loop-sess
invariant-loop-sess l = l.view ≡ fold without l.fn.view (take l.sess-index l.going)
