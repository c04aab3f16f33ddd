use Rattle.std.proofs.Common.{sym, ◌∙◌}
use Rattle.sc_ticks.proofs.Runnings.{any_entry}
use Rattle.sc_ticks.proofs.running.runs.Goals as goal

pub returns : goal.returns
returns c = c.parts_run.ensures ∙ sym (any_entry c.args.due c.args.name c.args.session.now)
