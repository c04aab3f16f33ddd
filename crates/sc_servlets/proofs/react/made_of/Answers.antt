use Rattle.sc_servlets.proofs.Brought.{by_servlet, nobody_brought}
use Rattle.sc_servlets.proofs.react.made_of.Goals as goal

pub returns-in-None-clause-brought : goal.returns-in-None-clause-brought
returns-in-None-clause-brought g c = let e = c.nobody.ensures in nobody_brought _ _ _ _ _ _ c.in-None.is e.charter e.listener e.calls e.end

pub returns-else-is_listened-clause-brought : goal.returns-else-is_listened-clause-brought
returns-else-is_listened-clause-brought g c = rw c.in-Some.is (by_servlet _ _ _ _ _ _ c.servlet_charter.ensures (rw c.get-event.ensures at c.call_servlet.ensures.allowed))
