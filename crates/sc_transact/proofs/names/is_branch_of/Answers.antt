use Rattle.std.proofs.Common.{◌∙◌, arith}
use Rattle.sc_names.specs.Reading.{IsCounted}
use Rattle.sc_transact.proofs.BranchTexts.{branch_named}
use Rattle.sc_transact.proofs.names.is_branch_of.Goals as goal

pub returns : goal.returns
returns c =
    let counted : IsCounted (record { host = c.args.host; serial = c.args.serial }, c.args.branch) = ((omega arith, omega arith), omega arith) in
    c.is_named.ensures ∙ branch_named c.read_branch.result c.args.salt.now c.args.epoch (record { host = c.args.host; serial = c.args.serial }) c.args.branch c.args.text.now c.read_branch.ensures counted
