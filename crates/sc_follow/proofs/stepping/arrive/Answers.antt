use Rattle.std.proofs.Common.{refl}
use Rattle.sc_terms.specs.declared.steps.Step.TheVariants as steps
use Rattle.sc_model.specs.JournalSizes.{step_size}
use Rattle.sc_hosts.specs.Runs.{IsAllowed}
use Rattle.sc_follow.proofs.Steppings.{below_ok, took_ok, stopped_err}
use Rattle.sc_follow.proofs.stepping.arrive.Goals as goal

pub returns-clause-ok : goal.returns-clause-ok
returns-clause-ok c = took_ok _ _ _ c.arrive.result c.arrive.ensures.ok c.requires.untaken c.requires.free

pub returns-clause-stopped : goal.returns-clause-stopped
unfolding step_size IsAllowed
returns-clause-stopped c = stopped_err _ (steps.In c.args.from c.args.message) _ c.arrive.result refl c.requires.via c.arrive.ensures.refused

pub returns-clause-room : goal.returns-clause-room
returns-clause-room c = below_ok c.args.switch.now _ c.arrive.result c.show_laws.ensures.within c.arrive.ensures.room
