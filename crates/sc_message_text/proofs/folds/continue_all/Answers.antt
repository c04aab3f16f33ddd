use Rattle.std.proofs.Common.{◌∙◌, ap, sym}
use Rattle.std.specs.List.{fold}
use Rattle.std.specs.Option.{option_copied}
use Rattle.sc_syntax.specs.declared.ending.Ending.TheVariants.{Any}
use Rattle.sc_syntax.specs.Folds.{with_piece as continued}
use Rattle.sc_message_text.specs.Pieces.{pieces_behind}
use Rattle.sc_message_text.proofs.FoldSteps.{behind_some, behind_none, fold_more, fold_end}
use Rattle.sc_message_text.proofs.folds.continue_all.Goals as goal

pub returns-in-None : goal.returns-in-None
returns-in-None c =
    fold_end c.loop-rest.text.items (pieces_behind Any (option_copied c.loop-rest.rest)) (ap (λ o. pieces_behind Any (option_copied o)) c.in-None.is ∙ behind_none Any) ∙ c.loop-rest.invariant

pub loop-rest-preserved : goal.loop-rest-preserved
loop-rest-preserved c =
    ap (λ t. fold continued t (pieces_behind Any (option_copied c.split_piece.result.1))) c.in_ok-continue_by.ensures
    ∙ sym (fold_more c.loop-rest.text.items c.split_piece.result.0.now (pieces_behind Any (option_copied c.loop-rest.rest)) (pieces_behind Any (option_copied c.split_piece.result.1))
    (ap (λ o. pieces_behind Any (option_copied o)) c.in-Some.is ∙ behind_some Any c.in-Some.behind.now ∙ c.split_piece.ensures.exact)) ∙ c.loop-rest.invariant
