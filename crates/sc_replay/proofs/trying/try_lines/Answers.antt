use Rattle.sc_replay.proofs.Tryings.{left_whole, left_full, left_part}
use Rattle.sc_replay.proofs.trying.try_lines.Goals as goal

pub returns-in-Ok-clause-leaves : goal.returns-in-Ok-clause-leaves
returns-in-Ok-clause-leaves g c =
    left_whole c.args.switch.now.setup _ _ _ _ c.args.lines.now c.follow.new.switch c.put_counts.result c.requires.lines c.in-Ok.ensures.setup c.in-Ok.ensures.follows c.put_counts.ensures

pub returns-in-Err-JournalFull-clause-leaves : goal.returns-in-Err-JournalFull-clause-leaves
returns-in-Err-JournalFull-clause-leaves g c =
    left_full c.args.switch.now.setup _ _ _ c.args.lines.now c.follow.new.switch.journal _ _ c.requires.lines (rw c.in-Err-JournalFull.field-0-is at c.in-Err-JournalFull.ensures.stopped)

pub returns-in-Err-NoMemory-clause-leaves : goal.returns-in-Err-NoMemory-clause-leaves
returns-in-Err-NoMemory-clause-leaves g c =
    left_part c.args.switch.now.setup _ _ _ c.args.lines.now c.follow.new.switch.journal c.requires.lines (rw c.in-Err-NoMemory.field-0-is at c.in-Err-NoMemory.ensures.stopped)
