use Rattle.std.proofs.Common.{ℕ, List, [], ◌∷◌, ◌++◌}
use Rattle.sc_model.specs.Names.{mark_text, counted_text, tag_text}
use Rattle.sc_names.specs.Reading.{IsCounted}
use Rattle.sc_names.proofs.ReadingLaws.{read_none, then_none, then_then, tag_before}
use Rattle.sc_names.proofs.reading.read_tag.Goals as goal

pub returns-in_err-rest : goal.returns-in_err-rest
returns-in_err-rest c = read_none (λ (r : List ℕ). mark_text c.args.salt.now c.args.epoch ++ r) (λ v. 45 ∷ counted_text v.0 v.1) (λ v. tag_text c.args.salt.now c.args.epoch v.0 v.1) IsCounted c.args.bytes.now c.from_residual.result c.from_residual.ensures
    (λ v. tag_before c.args.salt.now c.args.epoch v.0 v.1) c.in_err-rest.ensures

pub returns-in_err-counted : goal.returns-in_err-counted
returns-in_err-counted c = then_none (λ (r : List ℕ). mark_text c.args.salt.now c.args.epoch ++ r) (λ r. (45 ∷ []) ++ r) (λ v. counted_text v.0 v.1) (λ v. tag_text c.args.salt.now c.args.epoch v.0 v.1) IsCounted c.args.bytes.now c.in_ok-rest.rest.now
    c.from_residual-in_err-counted.result c.from_residual-in_err-counted.ensures (λ v. tag_before c.args.salt.now c.args.epoch v.0 v.1) c.in_ok-rest.ensures c.in_err-counted.ensures

pub returns : goal.returns
returns c = then_then (λ (r : List ℕ). mark_text c.args.salt.now c.args.epoch ++ r) (λ r. (45 ∷ []) ++ r) (λ v. counted_text v.0 v.1) (λ v. tag_text c.args.salt.now c.args.epoch v.0 v.1) IsCounted c.args.bytes.now c.in_ok-rest.rest.now c.in_ok-counted.counted.now
    c.read_counted.result (λ v. tag_before c.args.salt.now c.args.epoch v.0 v.1) c.in_ok-rest.ensures c.in_ok-counted.ensures c.read_counted.ensures
