use Rattle.sc_queue.specs.Joined.{joined}
use Rattle.sc_pages.proofs.Basics.{false_true}
use Rattle.sc_pages.proofs.SameLaws.{end_same, newest_differs, same_end}
use Rattle.sc_pages.proofs.same.same_apart.Goals as goal

pub returns-then-not-next_all_same : goal.returns-then-not-next_all_same
returns-then-not-next_all_same g c =
    (λ e. absurd (false_true e), λ same. absurd (newest_differs _ (joined c.args.others.now) c.args.other_newest.now _ (c.next_pages_same.ensures.yes c.if-not-next_pages_same.false) (c.next_all_same.ensures.no c.if-not-next_all_same.true) same))

pub returns : goal.returns
returns g c = (
  λ e. end_same _ (joined c.args.others.now) c.args.other_newest.now _ _ (c.next_pages_same.ensures.yes c.if-not-next_pages_same.false) (c.next_all_same.ensures.yes c.if-not-next_all_same.false) (c.is_end.ensures.0 e),
  λ same. c.is_end.ensures.1 (same_end _ (joined c.args.others.now) c.args.other_newest.now _ _ (c.next_pages_same.ensures.yes c.if-not-next_pages_same.false) (c.next_all_same.ensures.yes c.if-not-next_all_same.false) same),
)
