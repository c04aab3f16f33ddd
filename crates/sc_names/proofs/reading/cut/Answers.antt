use Rattle.std.proofs.Common.{List, ℕ, Option, Bor, sym, subst}
use Rattle.std.specs.Option.{option_map}
use Rattle.sc_names.specs.Reading.{IsRead, Lacks, two_with_sign as parted}
use Rattle.sc_names.proofs.ReadingLaws.{cut_none, cut_some}
use Rattle.sc_names.proofs.reading.cut.Goals as goal

pub returns-in_err-place : goal.returns-in_err-place
returns-in_err-place c =
    subst (λ (r : Option (Bor (List ℕ) × Bor (List ℕ))). IsRead (parted c.args.sign) (λ p. Lacks c.args.sign p.0) c.args.bytes.now (option_map (λ p. (p.0.now, p.1.now)) r))
    (sym c.from_residual.ensures) (cut_none c.args.sign c.args.bytes.now (c.in_err-place.ensures))

pub returns : goal.returns
returns c = cut_some c.args.sign c.in_ok-place.place c.args.bytes.now (c.in_ok-place.ensures)
