use Rattle.std.proofs.Common.{◌∙◌, sym}
use Rattle.sc_switch.specs.Answers.{Received}
use Rattle.sc_switch.specs.Stepping.{MayBeTaken, taken_step}
use Rattle.sc_switch.proofs.Standings.{refuses_turn, same_turn, turn_size}
use Rattle.sc_switch.proofs.switch.Switch.take_turn.Goals as goal

pub accept-requires : goal.accept-requires
unfolding MayBeTaken taken_step
accept-requires c = record {
  allowed = (c.requires, c.in_default.not-Starved);
  size = turn_size c.args.done _ (rw c.as_slice.ensures at c.total-bytes.ensures);
}

pub refused_turn-requires : goal.refused_turn-requires
refused_turn-requires c = (c.args.done, c.in-Err.ensures.back)

pub returns-in-Ok : goal.returns-in-Ok
unfolding Received taken_step
returns-in-Ok c = record {
  ok = (c.requires, c.in-Ok.ensures.ok);
  room = c.in-Ok.ensures.room;
  err = tt;
  refused = tt;
  back = tt;
}

pub returns-in-Err : goal.returns-in-Err
unfolding taken_step
returns-in-Err c = record {
  ok = tt;
  room = tt;
  err = c.in-Err.ensures.err;
  refused = rw (← c.refused_turn.ensures.cause) (refuses_turn c.args.self.now c.args.done _ _ c.requires c.in-Err.ensures.refused);
  back = same_turn _ _ (sym c.refused_turn.ensures.done ∙ c.in-Err.ensures.back);
}
