use Rattle.std.proofs.Common.{◌∙◌, ap}
use Rattle.std.specs.Option.{option_copied}
use Rattle.sc_syntax.specs.Folds.{text_without_folds as joined}
use Rattle.sc_syntax.specs.Fronts.{field_of}
use Rattle.sc_syntax.specs.Lines.{lines_behind}
use Rattle.sc_stream.proofs.ReadSteps.{lines_end, lines_none, lines_some, line_put}
use Rattle.sc_stream.proofs.fields.fields_behind.Goals as goal

pub returns-in-None : goal.returns-in-None
returns-in-None c =
    lines_end (λ line. field_of (joined line)) c.loop-rest.fields (lines_behind (option_copied c.loop-rest.rest)) _
    (ap (λ o. lines_behind (option_copied o)) c.in-None.is ∙ lines_none) c.loop-rest.invariant

pub loop-rest-preserved : goal.loop-rest-preserved
loop-rest-preserved c =
    line_put (λ line. field_of (joined line)) c.loop-rest.fields c.put_line.new.fields (lines_behind (option_copied c.loop-rest.rest)) (lines_behind (option_copied c.split_piece.result.1)) c.split_piece.result.0.now
    (ap (λ o. lines_behind (option_copied o)) c.in-Some.is ∙ lines_some c.in-Some.text.now (option_copied c.split_piece.result.1) c.split_piece.result.0.now c.split_piece.ensures.exact) c.in_ok-put_line.ensures
    ∙ c.loop-rest.invariant
