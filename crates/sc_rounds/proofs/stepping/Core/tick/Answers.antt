use Rattle.std.proofs.Common.{◌≤◌, arith}
use Rattle.std.proofs.lemmas.Bool.Decides.{nat_tests}
use Rattle.sc_switch.specs.Standing.{net_of}
use Rattle.sc_rounds.specs.Stepping.{Ticks}
use Rattle.sc_rounds.proofs.Steppings.{same_at}
use Rattle.sc_rounds.proofs.stepping.Core.tick.Goals.{then-now-via-then-now, then-now-via-else-now+then-now-2}
use Rattle.sc_rounds.proofs.stepping.Core.tick.Goals as goal

pub returns-then-now-clause-ok : goal.returns-then-now-clause-ok
unfolding Ticks
returns-then-now-clause-ok g c within =
    let early : c.args.now ≤ (net_of c.args.self.now.switch).moment = elim c.then-now.branch [
      | then-now-via-then-now w ↦ grind (arith, nat_tests, w.if-now.true, c.now.ensures, within)
      | then-now-via-else-now+then-now-2 w ↦ grind (arith, nat_tests, w.if-now-2.true, c.now.ensures, within)
    ] in
    same_at _ _ _ early

pub returns-in-Ok-clause-ok : goal.returns-in-Ok-clause-ok
unfolding Ticks
returns-in-Ok-clause-ok g c = c.in-Ok.ensures.ok
