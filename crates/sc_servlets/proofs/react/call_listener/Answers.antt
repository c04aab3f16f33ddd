use Rattle.std.proofs.Common.{ap}
use Rattle.sc_turn.specs.Working.{Working}
use Rattle.sc_servlets.proofs.Brought.{listener_allowed}
use Rattle.sc_servlets.proofs.react.call_listener.Goals as goal

pub returns-in-Ok-clause-allowed : goal.returns-in-Ok-clause-allowed
returns-in-Ok-clause-allowed g c =
    let kept = c.listener_turn-end.ensures in let left = c.finish.ensures in
    listener_allowed _ _ _ _ _ _ _ _ _ _ (ap (λ (w : Working). w.shown) c.in-Ok.ensures.ok) kept.same left.calls left.answered kept.promised left.end
