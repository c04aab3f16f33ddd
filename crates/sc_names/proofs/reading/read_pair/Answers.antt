use Rattle.sc_names.proofs.ReadingLaws.{pair_parts, no_sign, no_first, no_second, both}
use Rattle.sc_names.proofs.reading.read_pair.Goals as goal

pub returns-in_err-first : goal.returns-in_err-first
returns-in_err-first c = no_sign pair_parts c.args.bytes.now c.from_residual.result c.from_residual.ensures c.in_err-first.ensures

pub returns-in_err-first-2 : goal.returns-in_err-first-2
returns-in_err-first-2 c = no_first pair_parts c.args.bytes.now c.in_ok-first.first.now c.in_ok-first.second.now c.from_residual-in_err-first-2.result c.from_residual-in_err-first-2.ensures c.in_ok-first.ensures c.in_err-first-2.ensures

pub returns-in_err-second : goal.returns-in_err-second
returns-in_err-second c = no_second pair_parts c.args.bytes.now c.in_ok-first.first.now c.in_ok-first.second.now c.from_residual-in_err-second.result c.from_residual-in_err-second.ensures c.in_ok-first.ensures c.in_err-second.ensures

pub returns : goal.returns
returns c = both pair_parts c.args.bytes.now c.in_ok-first.first.now c.in_ok-first.second.now c.in_ok-first-2.first c.in_ok-second.second c.in_ok-first.ensures c.in_ok-first-2.ensures c.in_ok-second.ensures
