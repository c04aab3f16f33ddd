use Rattle.sc_servlets.proofs.Brought.{by_listener, nobody_heard}
use Rattle.sc_servlets.proofs.react.made_told.Goals as goal

pub returns-in-None-clause-brought : goal.returns-in-None-clause-brought
returns-in-None-clause-brought g c = let e = c.nobody.ensures in nobody_heard _ _ _ _ _ e.listener e.calls e.end

pub returns-in-Some-clause-brought : goal.returns-in-Some-clause-brought
returns-in-Some-clause-brought g c = by_listener _ _ _ _ _ _ c.charter_of.ensures c.call_listener.ensures.allowed
