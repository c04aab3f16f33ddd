use Rattle.std.proofs.Common.{◌∷◌, ◌+◌, ◌∙◌, drop, ap, sym}
use Rattle.std.proofs.lemmas.List.{drop_all, drop_more}
use Rattle.sc_stream.proofs.ReadSteps.{vias_more, vias_fail, vias_end}
use Rattle.sc_stream.proofs.answering.all_vias.Goals as goal

pub returns-in-Err : goal.returns-in-Err
returns-in-Err c =
    vias_fail c.in-Err.unread c.loop-i.vias (drop c.loop-i.i c.args.fields.now) (drop (c.loop-i.i + 1) c.args.fields.now) c.args.fields.now c.index-fields-i.result
    (drop_more c.args.fields.now c.loop-i.i c.index-fields-i.result c.loop-i-test.true ∙ ap (λ f. f ∷ drop (c.loop-i.i + 1) c.args.fields.now) (sym c.index-fields-i.is)) c.loop-i.invariant c.in-Err.ensures

pub loop-i-preserved : goal.loop-i-preserved
loop-i-preserved c =
    vias_more c.loop-i.vias c.put_field.new.vias (drop c.loop-i.i c.args.fields.now) (drop (c.loop-i.i + 1) c.args.fields.now) c.index-fields-i.result
    (drop_more c.args.fields.now c.loop-i.i c.index-fields-i.result c.loop-i-test.true ∙ ap (λ f. f ∷ drop (c.loop-i.i + 1) c.args.fields.now) (sym c.index-fields-i.is)) c.in-Ok.ensures
    ∙ c.loop-i.invariant

pub returns : goal.returns
returns c = vias_end c.loop-i.vias (drop c.loop-i.i c.args.fields.now) c.args.fields.now (drop_all c.loop-i.i c.args.fields.now c.loop-i-test.false) c.loop-i.invariant
