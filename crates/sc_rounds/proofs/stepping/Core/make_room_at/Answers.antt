use Rattle.std.proofs.Common.{◌∙◌}
use Rattle.sc_rounds.proofs.Overs.{over_same}
use Rattle.sc_rounds.proofs.Seconds.{none_in_time}
use Rattle.sc_rounds.proofs.Steppings.{same_then}
use Rattle.sc_rounds.proofs.stepping.Core.make_room_at.Goals as goal

pub returns-then-not-is_record_due-clause-same : goal.returns-then-not-is_record_due-clause-same
returns-then-not-is_record_due-clause-same g c = c.make_room.ensures.same

pub returns-then-not-is_record_due-clause-young : goal.returns-then-not-is_record_due-clause-young
returns-then-not-is_record_due-clause-young g c = c.is_record_due.ensures c.if-not-is_record_due.true

pub returns-clause-same : goal.returns-clause-same
returns-clause-same g c = same_then _ _ _ _ _ _ c.make_room.ensures.same c.hand_all.ensures.same

pub returns-clause-over : goal.returns-clause-over
returns-clause-over g c = over_same _ _ _ _ c.make_room.ensures.over c.hand_all.ensures.running

pub returns-clause-young : goal.returns-clause-young
returns-clause-young g c recording = none_in_time _ _ c.args.now c.hand_all.ensures.none
