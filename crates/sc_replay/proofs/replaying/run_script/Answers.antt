use Rattle.sc_replay.proofs.Replayings.{left_done, left_full, left_part, left_cut, comes_write}
use Rattle.sc_replay.proofs.replaying.run_script.Goals as goal

pub returns-in-Ok-drive-clause-leaves : goal.returns-in-Ok-drive-clause-leaves
returns-in-Ok-drive-clause-leaves g c =
    left_done c.args.switch.now.setup _ _ _ _ c.in-Ok.lines c.drive.new.switch.journal c.in-Ok.ensures.found (rw c.as_slice.ensures at c.in-Ok-drive.ensures.follows) c.in-Ok-drive.ensures.takes

pub returns-in-Err-JournalFull-clause-leaves : goal.returns-in-Err-JournalFull-clause-leaves
returns-in-Err-JournalFull-clause-leaves g c =
    left_full c.args.switch.now.setup _ _ _ _ c.in-Ok.lines c.drive.new.switch.journal c.in-Ok.ensures.found (rw (c.as_slice.ensures, c.in-Err-JournalFull.field-0-is) at c.in-Err-JournalFull.ensures.cut)

pub returns-in-Err-NoMemory-drive-clause-leaves : goal.returns-in-Err-NoMemory-drive-clause-leaves
returns-in-Err-NoMemory-drive-clause-leaves g c =
    left_part c.args.switch.now.setup _ _ _ _ c.in-Ok.lines c.drive.new.switch.journal c.in-Ok.ensures.found (rw (c.as_slice.ensures, c.in-Err-NoMemory-drive.field-0-is) at c.in-Err-NoMemory-drive.ensures.cut)

pub returns-in-Ok-clause-comes : goal.returns-in-Ok-clause-comes
returns-in-Ok-clause-comes g c =
    comes_write c.args.switch.now.setup _ _ _ _ _ c.as_slice.result.now c.drive.new.switch.journal (rw c.in-Err-Write.field-0-is at c.in-Err-Write.ensures.cut)

pub returns-in-Ok-clause-leaves : goal.returns-in-Ok-clause-leaves
returns-in-Ok-clause-leaves g c =
    left_cut c.args.switch.now.setup _ _ _ _ c.in-Ok.lines c.drive.new.switch.journal c.in-Ok.ensures.found (rw (c.as_slice.ensures, c.in-Err-Write.field-0-is) at c.in-Err-Write.ensures.cut)
