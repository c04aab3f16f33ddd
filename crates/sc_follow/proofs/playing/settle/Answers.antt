use Rattle.std.proofs.Common.{ap, ◌∙◌}
use Rattle.std.specs.Prelude.{Ok}
use Rattle.sc_follow.proofs.Playings.{never_gone, took_turn, turn_stopped}
use Rattle.sc_follow.proofs.Steppings.{below_full}
use Rattle.sc_follow.proofs.playing.settle.Goals as goal

pub unreachable-requires : goal.unreachable-requires
unreachable-requires c = never_gone _ _ c.args.done _ _ c.requires.fits c.in-Ok-Gone.field-0-is c.in-Ok-Gone.ensures.ok

pub returns-in-Ok-Taken-clause-ok : goal.returns-in-Ok-Taken-clause-ok
returns-in-Ok-Taken-clause-ok c = took_turn _ _ c.args.done _ c.requires.lent c.in-Ok-Taken.field-0-is c.in-Ok-Taken.ensures.ok

pub returns-in-Ok-Taken-clause-room : goal.returns-in-Ok-Taken-clause-room
returns-in-Ok-Taken-clause-room c =
    below_full c.args.switch.now _ c.show_laws.ensures.within (c.commit.ensures.room (c.in-Ok-Taken.is ∙ ap Ok c.in-Ok-Taken.field-0-is))

pub returns-in-Err-clause-stopped : goal.returns-in-Err-clause-stopped
returns-in-Err-clause-stopped c = turn_stopped _ c.args.done _ c.requires.right c.requires.lent c.requires.fits c.in_default.not-Starved c.in-Err.ensures.refused
