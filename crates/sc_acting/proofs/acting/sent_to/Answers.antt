use Rattle.sc_acting.specs.Acts.{sent_to}
use Rattle.sc_acting.proofs.acting.sent_to.Goals as goal

pub returns : goal.returns
unfolding sent_to
returns c = rw (← c.in_ok-request.ensures) c.on_branch.ensures
