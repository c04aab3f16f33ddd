use Rattle.std.proofs.Common.{◌∙◌}
use Rattle.sc_pages.proofs.ScopeLaws.{same_place}
use Rattle.sc_pages.proofs.searching.page_with.Goals as goal

pub returns : goal.returns
returns g c = c.page_seen.ensures ∙ same_place g.T.Paged.number g.T.Paged.rests (g.P.Probe.passes c.args.probe.now) c.args.scope c.requires c.args.pages.now
