use Rattle.std.proofs.Common.{ap, sym, ◌∙◌}
use Rattle.std.specs.Option.{option_copied}
use Rattle.sc_state.proofs.KeptLaws.{lives_some, lives_none}
use Rattle.sc_state.proofs.probes.lives_among.Goals as goal

pub returns-in-Some : goal.returns-in-Some
returns-in-Some g c = lives_some c.args.serial _ c.args.sessions.now (sym (ap option_copied c.in-Some.is) ∙ c.find.ensures)

pub returns-in-None : goal.returns-in-None
returns-in-None g c = lives_none c.args.serial c.args.sessions.now (sym (ap option_copied c.in-None.is) ∙ c.find.ensures)
