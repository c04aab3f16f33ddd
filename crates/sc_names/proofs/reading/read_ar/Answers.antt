use Rattle.sc_names.proofs.ReadingLaws.{ar_parts, no_sign, no_first, no_second, both}
use Rattle.sc_names.proofs.reading.read_ar.Goals as goal

pub returns-in_err-place : goal.returns-in_err-place
returns-in_err-place c = no_sign ar_parts c.args.b.now c.from_residual.result c.from_residual.ensures c.in_err-place.ensures

pub returns-in_err-n : goal.returns-in_err-n
returns-in_err-n c = no_first ar_parts c.args.b.now c.in_ok-place.place.now c.in_ok-place.letter.now c.from_residual-in_err-n.result c.from_residual-in_err-n.ensures c.in_ok-place.ensures c.in_err-n.ensures

pub returns-in_err-region : goal.returns-in_err-region
returns-in_err-region c = no_second ar_parts c.args.b.now c.in_ok-place.place.now c.in_ok-place.letter.now c.from_residual-in_err-region.result c.from_residual-in_err-region.ensures c.in_ok-place.ensures c.in_err-region.ensures

pub returns : goal.returns
returns c = both ar_parts c.args.b.now c.in_ok-place.place.now c.in_ok-place.letter.now c.in_ok-n.n c.in_ok-region.region c.in_ok-place.ensures c.in_ok-n.ensures c.in_ok-region.ensures
