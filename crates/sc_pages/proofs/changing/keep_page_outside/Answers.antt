use Rattle.std.proofs.Common.{◌≡◌, ◌≤◌, ℕ, true, sym, subst}
use Rattle.sc_pages.specs.declared.outline.Outline.{Outline}
use Rattle.sc_pages.specs.Runs.{are_within}
use Rattle.sc_pages.proofs.RunLaws.{none_goes}
use Rattle.sc_pages.proofs.changing.keep_page_outside.Goals as goal

pub returns-then-is_covered : goal.returns-then-is_covered
returns-then-is_covered g c =
    sym (none_goes g.T.Paged.number g.T.Paged.rests (g.P.Probe.passes c.args.probe.now) c.args.runs.now c.args.page.now c.requires
    (subst (λ (o : Outline). (n : ℕ) → o.least ≤ n → n ≤ o.most → are_within c.args.runs.now n ≡ true) c.outline.ensures (c.is_covered.ensures c.if-is_covered.true)))
