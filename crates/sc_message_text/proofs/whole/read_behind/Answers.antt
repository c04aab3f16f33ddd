use Rattle.std.specs.Option.{option_copied}
use Rattle.sc_message_text.proofs.WholeSteps.{behind_done, behind_refused}
use Rattle.sc_message_text.proofs.whole.read_behind.Goals as goal

pub returns-in-Ok : goal.returns-in-Ok
returns-in-Ok c = behind_done c.args.start (option_copied c.args.rest) c.args.at c.nothing_left-left.result c.take_lines.new.left c.nothing_left-left.ensures c.in-Ok.ensures

pub returns-in-Err : goal.returns-in-Err
returns-in-Err c = behind_refused c.in-Err.refused c.args.start (option_copied c.args.rest) c.args.at c.nothing_left-left.result c.nothing_left-left.ensures c.in-Err.ensures
