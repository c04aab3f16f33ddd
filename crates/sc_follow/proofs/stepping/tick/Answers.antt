use Rattle.std.proofs.Common.{refl}
use Rattle.sc_terms.specs.declared.steps.Step.TheVariants as steps
use Rattle.sc_model.specs.JournalSizes.{step_size}
use Rattle.sc_hosts.specs.Runs.{IsAllowed}
use Rattle.sc_follow.proofs.Steppings.{took_ok, stopped_err}
use Rattle.sc_follow.proofs.stepping.tick.Goals as goal

pub returns-clause-ok : goal.returns-clause-ok
returns-clause-ok c = took_ok _ _ _ c.tick.result c.tick.ensures.ok c.requires.untaken c.requires.free

pub returns-clause-stopped : goal.returns-clause-stopped
unfolding step_size IsAllowed
returns-clause-stopped c = stopped_err _ (steps.Tick c.args.now) _ c.tick.result refl (c.requires.later, c.requires.within) c.tick.ensures.refused
