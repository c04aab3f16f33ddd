use Rattle.std.proofs.Common.{arith}
use Rattle.std.proofs.lemmas.Bool.{leb-true}
use Rattle.sc_pages.proofs.SameLaws.{not_end}
use Rattle.sc_pages.proofs.same.is_end.Goals as goal

pub returns-else-pages-at : goal.returns-else-pages-at
returns-else-pages-at g c = (
  λ e. absurd (omega (arith, leb-true _ _ e)),
  λ none. absurd (not_end c.args.pages.now c.args.newest.now c.settled-at.result.page c.settled-at.result.within _ (omega arith) (c.settled-at.ensures.within (omega arith)) (c.settled-at.ensures.same c.args.newest.now) none),
)
