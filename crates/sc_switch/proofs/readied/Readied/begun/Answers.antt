use Rattle.sc_switch.specs.Beginnings.{IsBegun}
use Rattle.sc_switch.proofs.readied.Readied.begun.Goals as goal

pub invariant_of-self : goal.invariant_of-self
unfolding IsBegun
invariant_of-self c = rw c.replace.ensures.after tt
