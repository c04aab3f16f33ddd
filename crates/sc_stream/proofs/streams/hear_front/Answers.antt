use Rattle.std.proofs.Common.{arith}
use Rattle.sc_stream.proofs.HearSteps.{front_here, room_in}
use Rattle.sc_stream.proofs.streams.hear_front.Goals as goal

pub overflow_add-taken : goal.overflow_add-taken
overflow_add-taken c =
    let room = room_in c.args.text.now c.args.first.breaks c.in-Ok-Whole.len c.in-Ok-Whole.message c.requires.within c.requires.behind
    (front_here c.args.front _ _ _ c.in-Ok-Whole.is c.in-Ok-Whole.field-0-is c.requires.front) in
    let few = c.requires.room in omega (arith, room, few)

pub returns-in-Ok-Whole-clause-within : goal.returns-in-Ok-Whole-clause-within
returns-in-Ok-Whole-clause-within c =
    room_in c.args.text.now c.args.first.breaks c.in-Ok-Whole.len c.in-Ok-Whole.message c.requires.within c.requires.behind
    (front_here c.args.front _ _ _ c.in-Ok-Whole.is c.in-Ok-Whole.field-0-is c.requires.front)
