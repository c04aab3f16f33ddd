use Rattle.std.proofs.Common.{refl}
use Rattle.sc_terms.specs.declared.steps.Step.TheVariants as steps
use Rattle.sc_model.specs.JournalSizes.{step_size}
use Rattle.sc_hosts.specs.Runs.{IsAllowed}
use Rattle.sc_follow.proofs.Steppings.{took_ok, stopped_err}
use Rattle.sc_follow.proofs.stepping.lost.Goals as goal

pub returns-clause-ok : goal.returns-clause-ok
returns-clause-ok c = took_ok _ _ _ c.lost.result c.lost.ensures.ok c.requires.untaken c.requires.free

pub returns-clause-stopped : goal.returns-clause-stopped
unfolding step_size IsAllowed
returns-clause-stopped c = stopped_err _ (steps.Lost c.args.at) _ c.lost.result refl tt c.lost.ensures.refused
