use Rattle.std.proofs.Common.{◌≡◌, ◌++◌, take}
use Rattle.std.specs.List.{flat_map}
use Rattle.sc_branches.specs.Targets.{targets_of}
use Rattle.sc_branches.proofs.targets.add_contacts.Given as goal

abbrev pub invariant-loop-contact : goal.invariant-loop-contact
invariant-loop-contact l = l.uris ≡ l.fn.uris ++ flat_map targets_of (take l.contact-index l.contacts)
