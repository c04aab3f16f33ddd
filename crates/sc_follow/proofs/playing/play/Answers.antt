use Rattle.std.proofs.Common.{ap, ◌∙◌}
use Rattle.sc_parts.specs.declared.setup.Setup.{Setup}
use Rattle.sc_follow.proofs.Playings.{playing_start, playing_turn, less_room, played_out, handed_on, setup_kept}
use Rattle.sc_follow.proofs.playing.play.Goals as goal

pub loop-init : goal.loop-init
loop-init g c = playing_start _ c.requires.untaken c.requires.free

pub take_turn-requires-clause-right : goal.take_turn-requires-clause-right
take_turn-requires-clause-right g c = setup_kept _ _ c.loop.invariant c.requires.right

pub take_turn-requires-clause-kinds : goal.take_turn-requires-clause-kinds
take_turn-requires-clause-kinds g c = ap (λ (setup : Setup). setup.kinds) c.loop.invariant.came.setup_is ∙ c.requires.kinds

pub take_turn-requires-clause-untaken : goal.take_turn-requires-clause-untaken
take_turn-requires-clause-untaken g c = c.loop.invariant.came.untaken

pub take_turn-requires-clause-free : goal.take_turn-requires-clause-free
take_turn-requires-clause-free g c = c.loop.invariant.free

pub loop-preserved : goal.loop-preserved
loop-preserved g c = playing_turn _ _ _ c.loop.invariant (rw c.if-branch.true at c.in_ok-take_turn.ensures.took)

pub loop-smaller : goal.loop-smaller
loop-smaller g c = less_room _ _ (rw c.if-branch.true at c.in_ok-take_turn.ensures.took)

pub returns-clause-ok : goal.returns-clause-ok
returns-clause-ok g c = played_out _ _ _ c.loop.invariant (rw c.if-branch.false at c.in_ok-take_turn.ensures.took)

pub returns-in_err-take_turn-clause-err : goal.returns-in_err-take_turn-clause-err
returns-in_err-take_turn-clause-err g c =
    handed_on _ _ _ _ _ c.from_residual.ensures.1 c.loop.invariant c.in_err-take_turn.ensures.same c.in_err-take_turn.ensures.stopped
