use Rattle.std.proofs.Common.{◌++◌, ◌+◌, ◌∙◌, ap, sym, arith}
use Rattle.sc_dar.specs.Lines.{rows, without_last}
use Rattle.sc_dar.proofs.Rows.{behind_front, from_row, goes_on}
use Rattle.sc_dar.proofs.lines.first_line.Goals as goal

pub loop-front-preserved : goal.loop-front-preserved
loop-front-preserved c =
    let s = c.loop-front in
    let row = c.first_row-in-loop-front.result.0.now in
    let more = rows c.first_row-in-loop-front.result.1.now in (
      ap (λ f. behind_front f (s.above + 1) (from_row c.drop_blanks-last.result.now more)) (c.in_ok-append.ensures.ok ∙ ap (λ t. s.front ++ t) c.without_last.ensures.exact)
          ∙ ap (λ r. behind_front (s.front ++ without_last s.last.now) (s.above + 1) (from_row r more)) c.drop_blanks-last.ensures.exact
          ∙ goes_on s.front s.last.now s.rest.now row c.first_row-in-loop-front.result.1.now s.above (sym c.ends.ensures.exact ∙ c.loop-front-test.true) c.first_row-in-loop-front.ensures.exact
          ∙ s.invariant.0,
      omega (arith, s.invariant.1, c.first_row-in-loop-front.ensures.less),
    )
