use Rattle.std.proofs.Common.{rules, sym}
use Rattle.std.specs.Arc.{arc_value}
use Rattle.sc_pages.proofs.ShelfLaws.{none_changed}
use Rattle.sc_pages.proofs.shelf.change_all_of.Goals as goal

pub returns-in-None : goal.returns-in-None
returns-in-None g c =
    sym (none_changed (g.P.Probe.passes c.args.probe.now) (g.C.Change.changed c.args.change.now) (arc_value c.args.pages.now) c.requires.same (search rules))
