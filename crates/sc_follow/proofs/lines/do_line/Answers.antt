use Rattle.sc_follow.proofs.LineSteps.{drop_cut, drop_done, end_done, run_cut, run_done, tick_cut, tick_done, turn_cut, turn_done}
use Rattle.sc_follow.proofs.lines.do_line.Goals as goal

pub returns-in-Turn-clause-ok : goal.returns-in-Turn-clause-ok
returns-in-Turn-clause-ok g c = rw c.in-Turn.is (turn_done _ _ _ _ c.play_of.result c.play_of.ensures.ok)

pub returns-in-Turn-clause-err : goal.returns-in-Turn-clause-err
returns-in-Turn-clause-err g c = rw c.in-Turn.is (turn_cut _ _ _ _ c.play_of.result c.play_of.ensures.err)

pub returns-in-Run-clause-ok : goal.returns-in-Run-clause-ok
returns-in-Run-clause-ok g c = rw c.in-Run.is (run_done _ _ _ c.play.result c.play.ensures.ok)

pub returns-in-Run-clause-err : goal.returns-in-Run-clause-err
returns-in-Run-clause-err g c = rw c.in-Run.is (run_cut _ _ _ c.play.result c.play.ensures.err)

pub returns-in-Tick-clause-ok : goal.returns-in-Tick-clause-ok
returns-in-Tick-clause-ok g c = rw c.in-Tick.is (tick_done _ _ _ _ c.do_tick.result c.do_tick.ensures.ok)

pub returns-in-Tick-clause-err : goal.returns-in-Tick-clause-err
returns-in-Tick-clause-err g c = rw c.in-Tick.is (tick_cut _ _ _ _ c.do_tick.result c.do_tick.ensures.err)

pub returns-in-Drop-clause-ok : goal.returns-in-Drop-clause-ok
returns-in-Drop-clause-ok g c = rw c.in-Drop.is (drop_done _ _ _ _ c.do_drop.result c.do_drop.ensures.ok)

pub returns-in-Drop-clause-err : goal.returns-in-Drop-clause-err
returns-in-Drop-clause-err g c = rw c.in-Drop.is (drop_cut _ _ _ _ c.do_drop.result c.do_drop.ensures.err)

pub returns-in-End-clause-ok : goal.returns-in-End-clause-ok
returns-in-End-clause-ok g c = rw c.in-End.is (end_done _ _ c.requires.untaken c.requires.free)
