use Rattle.sc_replay.proofs.Drivings.{cut_unput, cut_full, cut_none}
use Rattle.sc_replay.proofs.running.drive.Goals as goal

pub returns-in-Ok-clause-cut : goal.returns-in-Ok-clause-cut
returns-in-Ok-clause-cut g c =
    cut_unput c.args.switch.now.setup c.args.lines.now _ _ _ c.follow.new.switch c.put_whole.new.switch c.put_whole.result c.in-Ok.ensures.setup c.put_whole.ensures.same c.in-Ok.ensures.follows c.put_whole.ensures.err

pub returns-in-Err-JournalFull-clause-cut : goal.returns-in-Err-JournalFull-clause-cut
returns-in-Err-JournalFull-clause-cut g c =
    cut_full c.args.switch.now.setup c.args.lines.now _ _ _ c.follow.new.switch c.put_cut.new.switch _ _ c.put_cut.result c.in-Err-JournalFull.ensures.setup c.put_cut.ensures.same
    (rw c.in-Err-JournalFull.field-0-is at c.in-Err-JournalFull.ensures.stopped) c.put_cut.ensures.put

pub returns-in-Err-NoMemory-clause-cut : goal.returns-in-Err-NoMemory-clause-cut
returns-in-Err-NoMemory-clause-cut g c = cut_none _ _ _ _ _ (rw c.in-Err-NoMemory.field-0-is at c.in-Err-NoMemory.ensures.stopped)
