use Rattle.std.proofs.Common.{rules, refl}
use Rattle.sc_serve.proofs.AllClosings.{all_last}
use Rattle.sc_serve.proofs.Closings.{closes_last}
use Rattle.sc_serve.proofs.closing.close_at.Goals as goal

pub returns-clause-closes : goal.returns-clause-closes
returns-clause-closes g c first s =
    closes_last first (g.E.Edge.state c.args.edge.now) (g.E.Edge.state c.close.new.self) c.args.broken.now c.as_slice.result.now c.broken.inside.items.items _ _ c.len-2.result c.len.result c.args.back _ _ _ c.close.ensures.polled.1 c.close.ensures.closes
    c.as_slice.ensures (search (rules, c.broken.view_is)) c.len-2.ensures c.len.ensures c.if-back-len.false refl refl c.swap_remove.ensures.items s

pub returns-clause-closes_all : goal.returns-clause-closes_all
returns-clause-closes_all g c first streams s =
    all_last first (g.E.Edge.state c.args.edge.now) (g.E.Edge.state c.close.new.self) streams c.args.broken.now c.as_slice.result.now c.broken.inside.items.items _ _ c.len-2.result c.len.result c.args.back _ _ _ c.close.ensures.polled.1 c.close.ensures.closes
    c.as_slice.ensures (search (rules, c.broken.view_is)) c.len-2.ensures c.len.ensures c.if-back-len.false refl refl c.swap_remove.ensures.value c.swap_remove.ensures.items s
