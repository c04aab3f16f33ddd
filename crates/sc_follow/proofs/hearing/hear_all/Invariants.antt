use Rattle.std.specs.Prelude.{◌-◌, length}
use Rattle.sc_runs.specs.Following.{IsKept}
use Rattle.sc_streams.specs.Streaming.{bytes_of}
use Rattle.sc_follow.proofs.Hearings.{IsHearing}
use Rattle.sc_follow.proofs.hearing.hear_all.Given as goal

abbrev pub invariant-loop : goal.invariant-loop
invariant-loop l = record {
  hearing : IsHearing l.place (bytes_of l.fn.streams l.place) (bytes_of l.streams l.place) l.fn.switch l.switch;
  kept : IsKept (bytes_of l.fn.streams) l.place (bytes_of l.streams l.place) (bytes_of l.streams);
}

abbrev pub decreases-loop : goal.decreases-loop
decreases-loop l = l.switch.setup.config.journal_steps - length l.switch.journal
