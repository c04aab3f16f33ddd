use Rattle.std.proofs.Common.{◌≡◌, take}
use Rattle.std.specs.Option.{option_copied}
use Rattle.sc_model.specs.Dialogs.{last_uri}
use Rattle.sc_dialog.proofs.targets.last_uri.Given as goal

abbrev pub invariant-loop-contact : goal.invariant-loop-contact
invariant-loop-contact l = option_copied l.last ≡ last_uri (take l.contact-index l.contacts)
