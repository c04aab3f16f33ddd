use Rattle.std.proofs.Common.{refl}
use Rattle.sc_rounds.specs.Stepping.{Commits}
use Rattle.sc_rounds.proofs.Timings.{turn_later}
use Rattle.sc_rounds.proofs.Refusals.{turn_due}
use Rattle.sc_rounds.proofs.Seconds.{turn_in_time}
use Rattle.sc_rounds.proofs.Steppings.{cut_behind, gone, leased_same, moved_same, none_taken, other, same_then, taken, took, turn_ready}
use Rattle.sc_rounds.proofs.stepping.Core.commit.Goals as goal

pub returns-in-Ok-clause-ok : goal.returns-in-Ok-clause-ok
unfolding Commits
returns-in-Ok-clause-ok g c = took _ _ _ _ _ _ _ _ c.hand_on.ensures.same (taken _ _ c.args.done _ c.in-Ok-Taken.field-0-is c.in-Ok-Taken.ensures.ok) (turn_later _ c.args.done) (turn_in_time c.hand_on.new.self c.args.done) (turn_ready c.args.done _ _ _) c.in-Ok.ensures.ok

pub returns-in-Err-settle-clause-err : goal.returns-in-Err-settle-clause-err
returns-in-Err-settle-clause-err g c = cut_behind _ _ _ _ _ _ _ _ c.hand_on.ensures.same (taken _ _ c.args.done _ c.in-Ok-Taken.field-0-is c.in-Ok-Taken.ensures.ok) (turn_later _ c.args.done) (turn_in_time c.hand_on.new.self c.args.done) (turn_ready c.args.done _ _ _) c.in-Err-settle.ensures.err

pub returns-in-Ok-Gone-clause-ok : goal.returns-in-Ok-Gone-clause-ok
unfolding Commits
returns-in-Ok-Gone-clause-ok g c = same_then _ _ _ _ _ _ c.hand_on.ensures.same (moved_same _ _ _ (gone _ _ c.args.done _ _ c.in-Ok-Gone.field-0-is c.in-Ok-Gone.ensures.ok) refl refl refl refl refl)

pub returns-in-Ok-Other-clause-ok : goal.returns-in-Ok-Other-clause-ok
unfolding Commits
returns-in-Ok-Other-clause-ok g c = same_then _ _ _ _ _ _ c.hand_on.ensures.same (leased_same _ _ _ (other _ _ c.args.done _ _ c.in-Ok-Other.field-0-is c.in-Ok-Other.ensures.ok) refl refl refl refl refl)

pub returns-in-Err-clause-err : goal.returns-in-Err-clause-err
returns-in-Err-clause-err g c = none_taken _ _ _ _ _ _ _ c.hand_on.ensures.same c.in-Err.ensures.err

pub returns-in-Err-clause-due : goal.returns-in-Err-clause-due
returns-in-Err-clause-due g c = turn_due _ _ c.args.done _ _ _ c.in-Err.ensures.err c.leases.ensures.kept c.in-Err.ensures.back c.in-Err.ensures.refused c.cause_after-cause.ensures
