use Rattle.std.proofs.Common.{ap, ◌∙◌, length, List}
use Rattle.sc_terms.specs.declared.steps.Step.{Step}
use Rattle.sc_edge.specs.Faults.{Rose_after}
use Rattle.sc_replay.proofs.Writings.{ended, ended_part, cut_part, on_either, on_ok, on_err}
use Rattle.sc_replay.proofs.writing.put_output.Goals as goal

pub returns-clause-ok : goal.returns-clause-ok
returns-clause-ok g c =
    let steps = c.len-steps.ensures ∙ ap (λ (items : List Step). length items) c.journal.ensures.journal in
    on_ok c.put_end.result (ended _ _ _ c.args.switch.now c.len-steps.result c.untaken-sent.result c.live-live.result c.requires.epoch c.requires.began c.requires.untaken steps c.untaken-sent.ensures c.live-live.ensures c.in_ok-put_sent.ensures.ok.1) c.put_end.ensures.ok

pub returns-clause-failed : goal.returns-clause-failed
returns-clause-failed g c = λ failed. Rose_after _ _ _ c.in_ok-put_sent.ensures.later (c.put_end.ensures.failed failed)

pub returns-clause-part : goal.returns-clause-part
returns-clause-part g c =
    let steps = c.len-steps.ensures ∙ ap (λ (items : List Step). length items) c.journal.ensures.journal in
    on_err c.put_end.result (ended_part _ _ _ c.args.switch.now c.len-steps.result c.untaken-sent.result c.live-live.result c.requires.epoch c.requires.began c.requires.untaken steps c.untaken-sent.ensures c.live-live.ensures c.in_ok-put_sent.ensures.ok.1) c.put_end.ensures.part

pub returns-in_err-put_sent-clause-part : goal.returns-in_err-put_sent-clause-part
returns-in_err-put_sent-clause-part g c =
    let steps = c.len-steps.ensures ∙ ap (λ (items : List Step). length items) c.journal.ensures.journal in
    on_either c.from_residual.result (cut_part _ _ c.args.switch.now c.len-steps.result c.untaken-sent.result c.live-live.result c.requires.epoch c.requires.began c.requires.untaken steps c.untaken-sent.ensures c.live-live.ensures c.in_err-put_sent.ensures.part)
