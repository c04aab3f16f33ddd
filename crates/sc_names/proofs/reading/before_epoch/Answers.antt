use Rattle.std.proofs.Common.{ℕ, List, [], ◌∷◌, ◌++◌, decimal, sym, ap}
use Rattle.std.specs.Prelude.{⊤}
use Rattle.std.specs.Option.{option_copied}
use Rattle.sc_model.proofs.Names.{joined}
use Rattle.sc_names.proofs.ReadingLaws.{read_none, read_then}
use Rattle.sc_names.proofs.reading.before_epoch.Goals as goal

pub returns-in_err-rest : goal.returns-in_err-rest
returns-in_err-rest c = read_none (λ (r : List ℕ). r ++ decimal c.args.epoch) (λ v. v ++ 46 ∷ []) (λ v. v ++ 46 ∷ decimal c.args.epoch) (λ _. ⊤) c.args.bytes.now (option_copied c.from_residual.result) (ap option_copied c.from_residual.ensures)
    (λ v. sym (joined 46 v (decimal c.args.epoch))) c.in_err-rest.ensures

pub returns : goal.returns
returns c = read_then (λ (r : List ℕ). r ++ decimal c.args.epoch) (λ v. v ++ 46 ∷ []) (λ v. v ++ 46 ∷ decimal c.args.epoch) (λ _. ⊤) c.args.bytes.now c.in_ok-rest.rest.now (option_copied c.before-2.result)
    (λ v. sym (joined 46 v (decimal c.args.epoch))) c.in_ok-rest.ensures c.before-2.ensures
