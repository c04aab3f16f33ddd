use Rattle.std.proofs.Common.{ℕ, List, ◌++◌, refl}
use Rattle.sc_model.specs.Names.{branch_cookie, branch_text, tag_text}
use Rattle.sc_names.specs.Reading.{IsCounted}
use Rattle.sc_names.proofs.ReadingLaws.{read_none, read_then}
use Rattle.sc_names.proofs.reading.read_branch.Goals as goal

pub returns-in_err-tag : goal.returns-in_err-tag
unfolding branch_text
returns-in_err-tag c = read_none (λ (r : List ℕ). branch_cookie ++ r) (λ v. tag_text c.args.salt.now c.args.epoch v.0 v.1) (λ v. branch_text c.args.salt.now c.args.epoch v.0 v.1) IsCounted c.args.b.now c.from_residual.result c.from_residual.ensures (λ v. refl) c.in_err-tag.ensures

pub returns : goal.returns
unfolding branch_text
returns c = read_then (λ (r : List ℕ). branch_cookie ++ r) (λ v. tag_text c.args.salt.now c.args.epoch v.0 v.1) (λ v. branch_text c.args.salt.now c.args.epoch v.0 v.1) IsCounted c.args.b.now c.in_ok-tag.tag.now c.read_tag.result (λ v. refl) c.in_ok-tag.ensures c.read_tag.ensures
