use Rattle.std.proofs.Common.{ℕ, List, [], ◌∷◌, ◌++◌, Some, decimal, ap}
use Rattle.std.specs.Prelude.{⊤}
use Rattle.std.specs.Option.{option_copied}
use Rattle.sc_model.specs.Names.{mark_text}
use Rattle.sc_model.proofs.Names.{epoch_end}
use Rattle.sc_names.proofs.ReadingLaws.{read_as, read_none, then_none, then_then, mark_before, mark_of_first, mark_of_later}
use Rattle.sc_names.proofs.reading.after_mark.Goals as goal

pub returns-in_err-rest : goal.returns-in_err-rest
returns-in_err-rest c = read_none (λ (r : List ℕ). c.args.salt.now ++ r) (λ v. epoch_end c.args.epoch ++ v) (λ v. mark_text c.args.salt.now c.args.epoch ++ v) (λ _. ⊤) c.args.bytes.now (option_copied c.from_residual.result) (ap option_copied c.from_residual.ensures)
    (λ v. mark_before c.args.salt.now c.args.epoch v) c.in_err-rest.ensures

pub returns-then-epoch-eq0 : goal.returns-then-epoch-eq0
returns-then-epoch-eq0 c = read_as (λ (r : List ℕ). c.args.salt.now ++ r) (λ v. mark_text c.args.salt.now c.args.epoch ++ v) (λ _. ⊤) c.args.bytes.now (Some c.in_ok-rest.rest.now)
    (λ v. mark_of_first c.args.salt.now c.args.epoch v c.if-epoch-eq0.true) c.in_ok-rest.ensures

pub returns-in_err-epoch_and_rest : goal.returns-in_err-epoch_and_rest
returns-in_err-epoch_and_rest c = then_none (λ (r : List ℕ). c.args.salt.now ++ r) (λ r. (46 ∷ []) ++ r) (λ v. decimal c.args.epoch ++ v) (λ v. mark_text c.args.salt.now c.args.epoch ++ v) (λ _. ⊤) c.args.bytes.now c.in_ok-rest.rest.now
    (option_copied c.from_residual-in_err-epoch_and_rest.result) (ap option_copied c.from_residual-in_err-epoch_and_rest.ensures)
    (λ v. mark_of_later c.args.salt.now c.args.epoch v c.if-epoch-eq0.false) c.in_ok-rest.ensures c.in_err-epoch_and_rest.ensures

pub returns : goal.returns
returns c = then_then (λ (r : List ℕ). c.args.salt.now ++ r) (λ r. (46 ∷ []) ++ r) (λ v. decimal c.args.epoch ++ v) (λ v. mark_text c.args.salt.now c.args.epoch ++ v) (λ _. ⊤) c.args.bytes.now c.in_ok-rest.rest.now c.in_ok-epoch_and_rest.epoch_and_rest.now
    (option_copied c.after_decimal.result)
    (λ v. mark_of_later c.args.salt.now c.args.epoch v c.if-epoch-eq0.false) c.in_ok-rest.ensures c.in_ok-epoch_and_rest.ensures c.after_decimal.ensures
