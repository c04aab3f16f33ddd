use Rattle.std.proofs.Common.{refl, inl, inr}
use Rattle.sc_rounds.proofs.Movings.{both_breaks, both_then, breaks_both, moves_both, ordered_both, ordered_breaks, timed_both, timed_breaks}
use Rattle.sc_serve.proofs.Roundings.{breaks_work, moves_work, no_blames}
use Rattle.sc_serve.proofs.rounds.step_once.Goals as goal

pub returns-then-ordered-clause-ok : goal.returns-then-ordered-clause-ok
returns-then-ordered-clause-ok g c edge = moves_work _ _ edge _ _ _ _ refl refl (both_then 1 0 0 1 _ _ _ _ _ _ _ _ _ (ordered_both _ _ _ _ _ _ _ c.in-Ok.ensures.ok) (both_then 0 0 1 0 _ _ _ _ _ _ _ _ _ (timed_both _ _ _ _ _ _ _ c.in-Ok-take_moment.ensures.ok) (moves_both _ _ _ _ _ c.in-Ok-work_once.ensures.ok)))

pub returns-else-ordered-clause-ok : goal.returns-else-ordered-clause-ok
returns-else-ordered-clause-ok g c edge = moves_work _ _ edge _ _ _ _ refl refl (both_then 1 0 0 1 _ _ _ _ _ _ _ _ _ (ordered_both _ _ _ _ _ _ _ c.in-Ok.ensures.ok) (both_then 0 0 1 0 _ _ _ _ _ _ _ _ _ (timed_both _ _ _ _ _ _ _ c.in-Ok-take_moment.ensures.ok) (moves_both _ _ _ _ _ c.in-Ok-work_once.ensures.ok)))

pub returns-in-Err-work_once-clause-err : goal.returns-in-Err-work_once-clause-err
returns-in-Err-work_once-clause-err g c edge = breaks_work 1 _ _ edge _ _ _ _ (inl refl) (both_breaks 1 0 1 0 _ _ _ _ _ _ _ _ _ (both_then 1 0 0 1 _ _ _ _ _ _ _ _ _ (ordered_both _ _ _ _ _ _ _ c.in-Ok.ensures.ok) (timed_both _ _ _ _ _ _ _ c.in-Ok-take_moment.ensures.ok)) (breaks_both _ _ _ _ _ c.in-Err-work_once.ensures.err))

pub returns-in-Err-work_once-clause-blames : goal.returns-in-Err-work_once-clause-blames
returns-in-Err-work_once-clause-blames g c edge = no_blames edge edge _ c.stop_of.ensures.cause

pub returns-in-Err-take_moment-clause-err : goal.returns-in-Err-take_moment-clause-err
returns-in-Err-take_moment-clause-err g c edge = breaks_work 1 _ _ edge _ _ _ _ (inl refl) (both_breaks 1 0 0 1 _ _ _ _ _ _ _ _ _ (ordered_both _ _ _ _ _ _ _ c.in-Ok.ensures.ok) (timed_breaks _ _ _ _ _ _ _ c.in-Err-take_moment.ensures.err))

pub returns-in-Err-take_moment-clause-blames : goal.returns-in-Err-take_moment-clause-blames
returns-in-Err-take_moment-clause-blames g c edge = no_blames edge edge _ c.stop_of-in-Err-take_moment.ensures.cause

pub returns-in-Err-clause-err : goal.returns-in-Err-clause-err
returns-in-Err-clause-err g c edge = breaks_work 0 _ _ edge _ _ _ _ (inr refl) (ordered_breaks _ _ _ _ _ _ _ c.in-Err.ensures.err)

pub returns-in-Err-clause-blames : goal.returns-in-Err-clause-blames
returns-in-Err-clause-blames g c edge = no_blames edge edge _ c.stop_of-in-Err.ensures.cause

pub returns-in-Err-work_once-clause-due : goal.returns-in-Err-work_once-clause-due
returns-in-Err-work_once-clause-due g c = c.stop_of.ensures.due _ c.in-Err-work_once.ensures.due

pub returns-in-Err-take_moment-clause-due : goal.returns-in-Err-take_moment-clause-due
returns-in-Err-take_moment-clause-due g c = c.stop_of-in-Err-take_moment.ensures.due _ c.in-Err-take_moment.ensures.due

pub returns-in-Err-clause-due : goal.returns-in-Err-clause-due
returns-in-Err-clause-due g c = c.stop_of-in-Err.ensures.due _ c.in-Err.ensures.due
