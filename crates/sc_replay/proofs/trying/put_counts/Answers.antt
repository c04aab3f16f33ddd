use Rattle.std.proofs.Common.{ap, ◌∙◌, length, List}
use Rattle.sc_terms.specs.declared.steps.Step.{Step}
use Rattle.sc_replay.proofs.Tryings.{line_put}
use Rattle.sc_replay.proofs.trying.put_counts.Goals as goal

pub returns : goal.returns
returns g c =
    let steps = c.len-steps.ensures ∙ ap (λ (items : List Step). length items) c.journal.ensures.journal in
    line_put _ _ _ c.args.switch.now _ c.len-steps.result c.untaken-sent.result c.live-live.result c.put_line.result c.requires.epoch c.requires.began c.requires.untaken steps c.untaken-sent.ensures c.live-live.ensures c.put_line.ensures
