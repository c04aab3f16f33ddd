use Rattle.std.proofs.Common.{◌≡◌, ◌++◌, take}
use Rattle.std.specs.List.{flat_map}
use Rattle.sc_hosts.specs.Finishing.{waiting_answer}
use Rattle.sc_finish.proofs.parting.all_waiting.Given as goal

abbrev pub invariant-loop-waiting : goal.invariant-loop-waiting
invariant-loop-waiting l = l.orders ≡ l.fn.orders ++ flat_map (waiting_answer l.tag) (take l.waiting-index l.inbox)
