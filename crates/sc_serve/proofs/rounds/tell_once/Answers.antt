use Rattle.std.proofs.Common.{refl}
use Rattle.sc_rounds.proofs.Movings.{same_moves}
use Rattle.sc_rounds.proofs.Steppings.{same_core}
use Rattle.sc_serve.proofs.Roundings.{breaks_halts, moves_goes, no_blames}
use Rattle.sc_serve.proofs.rounds.tell_once.Goals as goal

pub returns-in-Ok-clause-ok : goal.returns-in-Ok-clause-ok
returns-in-Ok-clause-ok g c edge = moves_goes _ _ edge _ _ refl refl c.in-Ok.ensures.ok

pub returns-in-Err-clause-err : goal.returns-in-Err-clause-err
returns-in-Err-clause-err g c edge = breaks_halts _ _ edge _ _ c.in-Err.ensures.err

pub returns-then-not-is_list_due-clause-ok : goal.returns-then-not-is_list_due-clause-ok
returns-then-not-is_list_due-clause-ok g c edge = moves_goes _ _ edge _ _ refl refl (same_moves _ _ _ _ (same_core _ _))

pub returns-in-Err-clause-blames : goal.returns-in-Err-clause-blames
returns-in-Err-clause-blames g c edge = no_blames edge edge _ c.stop_of.ensures.cause

pub returns-in-Err-clause-due : goal.returns-in-Err-clause-due
returns-in-Err-clause-due g c = c.stop_of.ensures.due _ c.in-Err.ensures.due
