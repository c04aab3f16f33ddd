use Rattle.std.proofs.Common.{◌∙◌, ℕ, Bool, ap, sym, subst, arith, take, ◌+◌}
use Rattle.sc_queue.specs.Joined.{joined}
use Rattle.sc_pages.specs.Runs.{AreBelow, Holds, past_of, rests_at, run_of}
use Rattle.sc_pages.proofs.RunLaws.{below_more, page_holds}
use Rattle.sc_pages.proofs.runs.add_runs.Goals as goal

pub loop-page-preserved : goal.loop-page-preserved
loop-page-preserved g c =
    let test : ℕ → Bool = λ n. rests_at g.T.Paged.number g.T.Paged.rests n (joined c.args.pages.now) in
    let holds = page_holds g.T.Paged.number g.T.Paged.rests c.args.pages.now c.page-item.result c.loop-page.page-index c.loop-page.past (omega arith) c.page-item.is c.loop-page.invariant.2 in
    let next = subst (Holds test) (sym (c.run_of-next.ensures ∙ ap (run_of c.loop-page.past) c.outline-known.ensures)) holds in
    let both = c.in_ok-put_run.ensures test c.loop-page.invariant.0 c.loop-page.invariant.1 next in
    let below = below_more g.T.Paged.number g.T.Paged.rests c.args.pages.now c.page-item.result c.loop-page.page-index c.loop-page.past (omega arith) c.page-item.is c.loop-page.invariant.2 in
    (both.0, both.1, subst (λ n. AreBelow g.T.Paged.number n (joined (take (c.loop-page.page-index + 1) c.args.pages.now))) (sym (c.past_of-past.ensures ∙ ap (past_of c.loop-page.past) c.outline-known.ensures)) below)
