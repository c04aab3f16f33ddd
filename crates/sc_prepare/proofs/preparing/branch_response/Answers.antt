use Rattle.std.proofs.Common.{sym, ◌∙◌}
use Rattle.sc_prepare.proofs.preparing.branch_response.Goals as goal

pub returns-in-Some : goal.returns-in-Some
returns-in-Some c = rw (sym c.in_ok-proxy.ensures ∙ c.in-Some.is) c.proxied_response.ensures
