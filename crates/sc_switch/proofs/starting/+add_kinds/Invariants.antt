use Rattle.std.proofs.Common.{length}
use Rattle.sc_switch.proofs.starting.+add_kinds.Given as goal

abbrev pub decreases-add_kinds : goal.decreases-add_kinds
decreases-add_kinds g l = length l.kinds.now
