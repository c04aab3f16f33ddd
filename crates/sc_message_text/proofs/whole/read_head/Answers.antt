use Rattle.std.specs.Option.{option_copied}
use Rattle.sc_message_text.proofs.WholeSteps.{head_read, head_refused}
use Rattle.sc_message_text.proofs.whole.read_head.Goals as goal

pub returns-in-Ok : goal.returns-in-Ok
returns-in-Ok c =
    head_read c.read_behind.result c.args.head.now c.split_start.result.0.now (option_copied c.split_start.result.1) c.in-Ok.start c.split_start.ensures.line c.split_start.ensures.rest c.in-Ok.ensures c.read_behind.ensures

pub returns-in-Err : goal.returns-in-Err
returns-in-Err c = head_refused c.in-Err.refused c.args.head.now c.split_start.result.0.now c.split_start.ensures.line c.in-Err.ensures
