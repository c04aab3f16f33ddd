use Rattle.sc_inboxes.proofs.NamedLives.{part_fits, part_within}
use Rattle.sc_inboxes.proofs.uris.serial_part.Goals as goal

pub returns-then-start-end : goal.returns-then-start-end
returns-then-start-end c =
    part_within c.args.value.now c.args.epoch c.args.number c.start_len-start.result c.end_len.result c.saturating_sub-end.result c.start_len-start.ensures c.end_len.ensures c.saturating_sub-end.ensures

pub returns-else-start-end : goal.returns-else-start-end
returns-else-start-end c =
    part_fits c.args.value.now c.args.epoch c.args.number c.start_len-start.result c.end_len.result c.saturating_sub-end.result c.start_len-start.ensures c.end_len.ensures c.saturating_sub-end.ensures c.if-start-end.false
