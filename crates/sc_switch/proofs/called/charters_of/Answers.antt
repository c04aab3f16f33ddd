use Rattle.std.proofs.Common.{◌∙◌}
use Rattle.sc_model.specs.Settings.{charters_of}
use Rattle.sc_switch.proofs.called.charters_of.Goals as goal

pub returns-in-Some : goal.returns-in-Some
unfolding charters_of
returns-in-Some c = rw (← c.in-Some.ensures, ← c.as_slice.ensures) (c.copied.ensures ∙ c.kind_at.ensures)
