use Rattle.std.proofs.Common.{◌∙◌, sym}
use Rattle.sc_stream.proofs.HearSteps.{skip_end, skip_more, skip_room}
use Rattle.sc_stream.proofs.first.breaks_len.Goals as goal

pub returns-clause-exact : goal.returns-clause-exact
returns-clause-exact c = skip_end c.args.text.now c.loop-place.place (sym c.begins_break.ensures.exact ∙ c.loop-place-test.false) ∙ c.loop-place.invariant.0

pub loop-place-preserved : goal.loop-place-preserved
loop-place-preserved c = (
  skip_more c.args.text.now c.loop-place.place (sym c.begins_break.ensures.exact ∙ c.loop-place-test.true) ∙ c.loop-place.invariant.0,
  skip_room c.args.text.now c.loop-place.place (sym c.begins_break.ensures.exact ∙ c.loop-place-test.true) c.loop-place.invariant.1,
)
