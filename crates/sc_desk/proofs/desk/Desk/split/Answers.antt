use Rattle.std.proofs.Common.{◌+◌, ℕ, true≢false, ap, sym, ◌∙◌}
use Rattle.sc_desk.specs.declared.desk_queue.DeskView.{DeskView}
use Rattle.sc_desk.proofs.desk.Desk.split.Goals as goal

-- the taker made one more, and doesn't post
pub invariant_of-pass : goal.invariant_of-pass
invariant_of-pass c =
    let left = c.split-queue.ensures.left in
    let old = c.args.pass.now.numbered.0 c.requires.pass.1 in
    record {
      numbered = (
        (λ first. (ap (λ (v : DeskView). v.made) left ∙ ap (λ (n : ℕ). n + 1) old.0, ap (λ (v : DeskView). v.posts) left ∙ old.1)),
        (λ posts. absurd (true≢false (sym posts ∙ (ap (λ (v : DeskView). v.posts) left ∙ old.1)))),
      );
    }
