use Rattle.std.proofs.Common.{arith}
use Rattle.sc_model.proofs.GeneratedLaws.{more_calls}
use Rattle.sc_make.proofs.calls.calls.Goals as goal

pub loop-i-preserved : goal.loop-i-preserved
loop-i-preserved c =
    more_calls c.loop-i.i _ _ _ c.loop-i.invariant (omega (arith, c.from.ensures)) c.in_ok-put_call.ensures
