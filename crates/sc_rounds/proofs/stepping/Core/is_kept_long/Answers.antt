use Rattle.std.proofs.Common.{◌<◌, ◌+◌, arith}
use Rattle.std.proofs.lemmas.Bool.Decides.{nat_tests}
use Rattle.sc_rounds.proofs.Seconds.{early_in_time, empty_in_time}
use Rattle.sc_rounds.proofs.stepping.Core.is_kept_long.Goals as goal

pub returns-then-is_empty : goal.returns-then-is_empty
returns-then-is_empty c is = empty_in_time c.args.self.now.kept_since _ c.args.now _ (rw c.journal.ensures.journal at c.is_empty.ensures) c.if-is_empty.true

pub returns : goal.returns
returns c is =
    let early : c.args.now < c.args.self.now.kept_since + 1000 = grind (arith, nat_tests, is, c.saturating_sub.ensures) in
    early_in_time _ _ c.args.now early
