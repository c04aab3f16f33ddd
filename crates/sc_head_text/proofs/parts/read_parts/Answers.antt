use Rattle.std.proofs.Common.{◌∙◌, ap}
use Rattle.std.specs.Option.{option_copied}
use Rattle.sc_syntax.specs.Scanning.{all_read}
use Rattle.sc_head_text.specs.Parts.{parts_behind}
use Rattle.sc_head_text.proofs.LineParts.{first_line}
use Rattle.sc_head_text.proofs.PartSteps.{behind, part_read, part_fails, parts_end, behind_some, behind_end}
use Rattle.sc_head_text.proofs.parts.read_parts.Goals as goal

pub returns-in-None : goal.returns-in-None
returns-in-None g c =
    parts_end g.T.Readable.read_of c.loop-rest.items (parts_behind c.args.start c.args.sign (option_copied c.loop-rest.rest)) (all_read g.T.Readable.read_of (parts_behind c.args.start c.args.sign (option_copied c.args.text)))
    (ap (λ o. parts_behind c.args.start c.args.sign (option_copied o)) c.in-None.is ∙ behind_end c.args.start c.args.sign) c.loop-rest.invariant.0

pub returns-in-Err : goal.returns-in-Err
returns-in-Err g c =
    part_fails g.T.Readable.read_of c.loop-rest.items (parts_behind c.args.start c.args.sign (option_copied c.loop-rest.rest)) (parts_behind c.args.start c.args.sign (option_copied c.split_part.result.1)) c.split_part.result.0.now
    (all_read g.T.Readable.read_of (parts_behind c.args.start c.args.sign (option_copied c.args.text))) c.in-Err.unread
    (ap (λ o. parts_behind c.args.start c.args.sign (option_copied o)) c.in-Some.is ∙ behind_some c.args.start c.args.sign c.in-Some.text.now ∙ c.split_part.ensures.exact c.args.start) c.in-Err.ensures c.loop-rest.invariant.0

pub loop-rest-preserved : goal.loop-rest-preserved
loop-rest-preserved g c = (
  ap (λ l. behind l (all_read g.T.Readable.read_of (parts_behind c.args.start c.args.sign (option_copied c.split_part.result.1)))) c.in_ok-put_last.ensures
      ∙ part_read g.T.Readable.read_of c.loop-rest.items c.in-Ok.item (parts_behind c.args.start c.args.sign (option_copied c.loop-rest.rest)) (parts_behind c.args.start c.args.sign (option_copied c.split_part.result.1)) c.split_part.result.0.now
      (ap (λ o. parts_behind c.args.start c.args.sign (option_copied o)) c.in-Some.is ∙ behind_some c.args.start c.args.sign c.in-Some.text.now ∙ c.split_part.ensures.exact c.args.start) c.in-Ok.ensures ∙ c.loop-rest.invariant.0,
  (first_line c.split_part.result.0.now (parts_behind c.args.start c.args.sign (option_copied c.split_part.result.1)) (parts_behind c.args.start c.args.sign (option_copied c.loop-rest.rest))
      (ap (λ o. parts_behind c.args.start c.args.sign (option_copied o)) c.in-Some.is ∙ behind_some c.args.start c.args.sign c.in-Some.text.now ∙ c.split_part.ensures.exact c.args.start) c.loop-rest.invariant.1).1,
)

pub read-requires : goal.read-requires
read-requires g c =
    (first_line c.split_part.result.0.now (parts_behind c.args.start c.args.sign (option_copied c.split_part.result.1)) (parts_behind c.args.start c.args.sign (option_copied c.loop-rest.rest))
    (ap (λ o. parts_behind c.args.start c.args.sign (option_copied o)) c.in-Some.is ∙ behind_some c.args.start c.args.sign c.in-Some.text.now ∙ c.split_part.ensures.exact c.args.start) c.loop-rest.invariant.1).0
