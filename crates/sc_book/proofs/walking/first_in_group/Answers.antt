use Rattle.std.proofs.Common.{◌+◌, refl}
use Rattle.sc_book.proofs.WalkLaws.{first_walked}
use Rattle.sc_book.proofs.walking.first_in_group.Goals as goal

pub returns : goal.returns
returns g c =
    first_walked g.T.Item.groups (g.P.Probe.passes c.args.probe.now) c.args.items.now.entries c.args.index.now _ c.args.group (c.args.group + 1) c.first_between.result c.requires.ordered
    c.requires.groups c.first_between.ensures.first c.first_between.ensures.ordered c.index.view_is refl c.requires.own
