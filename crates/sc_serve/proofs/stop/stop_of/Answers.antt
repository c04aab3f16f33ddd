use Rattle.sc_serve.proofs.Roundings.{full_due, memory_due}
use Rattle.sc_serve.proofs.stop.stop_of.Goals as goal

pub returns-in-JournalFull-clause-due : goal.returns-in-JournalFull-clause-due
returns-in-JournalFull-clause-due c known due = full_due known c.args.cause _ _ c.in-JournalFull.is due

pub returns-in-NoMemory-clause-due : goal.returns-in-NoMemory-clause-due
returns-in-NoMemory-clause-due c known due = memory_due known
