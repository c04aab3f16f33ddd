use Rattle.sc_finish.specs.Passing.{request_onward as passed}
use Rattle.sc_finish.proofs.later.passed.Goals as goal

pub returns : goal.returns
unfolding passed
returns c = rw (← c.in_ok-one_less.ensures) c.on_branch.ensures
