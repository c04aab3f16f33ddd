use Rattle.std.proofs.Common.{◌∙◌, ap, length}
use Rattle.std.specs.Option.{option_copied}
use Rattle.sc_syntax.specs.declared.ending.Ending.TheVariants.{Unfolded}
use Rattle.sc_syntax.specs.Messages.{all_judged}
use Rattle.sc_message_text.specs.Pieces.{pieces_behind}
use Rattle.sc_message_text.proofs.FoldSteps.{behind_some, behind_none}
use Rattle.sc_message_text.proofs.HeadSteps.{line_taken, line_refused, lines_end, room_on, room_of}
use Rattle.sc_message_text.proofs.heads.take_lines.Goals as goal

pub returns-in-None : goal.returns-in-None
returns-in-None c =
    lines_end c.loop-rest.place c.loop-rest.left (pieces_behind Unfolded (option_copied c.loop-rest.rest)) (all_judged c.args.at c.args.left.now (pieces_behind Unfolded (option_copied c.args.rest)))
    (ap (λ o. pieces_behind Unfolded (option_copied o)) c.in-None.is ∙ behind_none Unfolded) c.loop-rest.invariant.0

pub returns-in-Err : goal.returns-in-Err
returns-in-Err c =
    line_refused c.loop-rest.place c.in-Err.refused c.loop-rest.left c.split_line-plain.result.0.now (pieces_behind Unfolded (option_copied c.loop-rest.rest)) (pieces_behind Unfolded (option_copied c.split_line-plain.result.1))
    (all_judged c.args.at c.args.left.now (pieces_behind Unfolded (option_copied c.args.rest)))
    (ap (λ o. pieces_behind Unfolded (option_copied o)) c.in-Some.is ∙ behind_some Unfolded c.in-Some.text.now ∙ c.split_line-plain.ensures.exact) c.in-Err.ensures c.loop-rest.invariant.0

pub loop-rest-preserved : goal.loop-rest-preserved
loop-rest-preserved c = (
  line_taken c.loop-rest.place c.loop-rest.left c.take_placed.new.left c.split_line-plain.result.0.now (pieces_behind Unfolded (option_copied c.loop-rest.rest)) (pieces_behind Unfolded (option_copied c.split_line-plain.result.1))
      (ap (λ o. pieces_behind Unfolded (option_copied o)) c.in-Some.is ∙ behind_some Unfolded c.in-Some.text.now ∙ c.split_line-plain.ensures.exact) c.in-Ok.ensures ∙ c.loop-rest.invariant.0,
  room_on c.loop-rest.place (length c.split_line-plain.result.0.now) (length c.in-Some.text.now) c.split_line-plain.result.1 (room_of c.loop-rest.place c.loop-rest.rest c.in-Some.text c.in-Some.is c.loop-rest.invariant.1) c.split_line-plain.ensures.less,
)
