use Rattle.std.proofs.Common.{sym, ◌∙◌}
use Rattle.sc_prepare.proofs.preparing.prepared_response.Goals as goal

pub returns-in-Some : goal.returns-in-Some
returns-in-Some c = rw (sym c.in_ok-kept.ensures ∙ c.in-Some.is) c.own_response.ensures
