use Rattle.std.proofs.Common.{inl, inr, ap, Err}
use Rattle.sc_replay.specs.Running.{IsPutWithoutEnd}
use Rattle.sc_replay.proofs.Writings.{cut_whole, cut_front, cut_output}
use Rattle.sc_replay.proofs.running.put_cut.Goals as goal

pub returns-in-Ok-clause-put : goal.returns-in-Ok-clause-put
unfolding IsPutWithoutEnd
returns-in-Ok-clause-put g c = inl (cut_whole _ _ c.args.switch.now c.requires.epoch c.requires.began c.requires.untaken c.in-Ok.ensures.ok.1)

pub returns-in-Err-Failed-clause-put : goal.returns-in-Err-Failed-clause-put
unfolding IsPutWithoutEnd
returns-in-Err-Failed-clause-put g c = inr (c.in-Err-Failed.ensures.failed (ap Err c.in-Err-Failed.field-0-is), cut_front _ _ c.args.switch.now c.requires.epoch c.requires.began c.requires.untaken c.in-Err-Failed.ensures.part)

pub returns-in-Err-NoMemory-clause-put : goal.returns-in-Err-NoMemory-clause-put
unfolding IsPutWithoutEnd
returns-in-Err-NoMemory-clause-put g c = cut_output _ _ c.args.switch.now c.requires.epoch c.requires.began c.requires.untaken c.in-Err-NoMemory.ensures.part
