use Rattle.std.proofs.Common.{ap, sym, subst, List, ◌∙◌}
use Rattle.sc_parts.specs.declared.setup.Setup.{Setup}
use Rattle.sc_streams.specs.declared.streams.Pending.{Pending}
use Rattle.sc_follow.specs.Leading.{Leads}
use Rattle.sc_streams.specs.Streaming.{bytes_of}
use Rattle.sc_follow.proofs.Followings.{lead_start, lead_more, followed_all, left_more, lead-setup}
use Rattle.sc_follow.proofs.following.follow_lines.Goals as goal

pub loop-line-init : goal.loop-line-init
loop-line-init g c = subst (λ (streams : List Pending). Leads c.args.switch.now.setup c.args.lines.now c.args.switch.now (bytes_of streams) c.args.lines.now) (sym c.new-streams.ensures) (lead_start _ _ c.requires.new)

pub do_line-requires-clause-right : goal.do_line-requires-clause-right
do_line-requires-clause-right g c = lead-setup _ _ _ _ _ c.loop-line.invariant c.requires.right

pub do_line-requires-clause-kinds : goal.do_line-requires-clause-kinds
do_line-requires-clause-kinds g c = ap (λ (setup : Setup). setup.kinds) c.loop-line.invariant.setup_is ∙ c.requires.kinds

pub do_line-requires-clause-untaken : goal.do_line-requires-clause-untaken
do_line-requires-clause-untaken g c = c.loop-line.invariant.untaken

pub do_line-requires-clause-free : goal.do_line-requires-clause-free
do_line-requires-clause-free g c = c.loop-line.invariant.free

pub loop-line-preserved : goal.loop-line-preserved
loop-line-preserved g c = lead_more _ _ _ _ _ _ _ _ c.loop-line-test.true c.line-item.is c.loop-line.invariant c.in_ok-do_line.ensures.ok

pub returns-clause-ok : goal.returns-clause-ok
returns-clause-ok g c = followed_all _ _ _ _ _ c.loop-line-test.false c.loop-line.invariant

pub returns-in_err-do_line-clause-err : goal.returns-in_err-do_line-clause-err
returns-in_err-do_line-clause-err g c =
    left_more _ _ _ _ _ _ _ c.from_residual.result _ c.loop-line-test.true c.line-item.is c.from_residual.ensures.1 c.loop-line.invariant c.in_err-do_line.ensures.err
