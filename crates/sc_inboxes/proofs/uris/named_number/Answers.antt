use Rattle.std.proofs.Common.{◌∙◌, sym, ap}
use Rattle.std.specs.Option.{option_copied}
use Rattle.sc_inboxes.proofs.NamedLives.{none_named}
use Rattle.sc_inboxes.proofs.uris.named_number.Goals as goal

pub returns-in-None : goal.returns-in-None
returns-in-None c = none_named c.args.epoch c.args.number 0 c.args.uri.now (sym (ap option_copied c.in-None.is) ∙ c.ap_of.ensures)
