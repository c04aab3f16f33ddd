use Rattle.std.proofs.Common.{◌≡◌, take}
use Rattle.std.specs.List.{fold}
use Rattle.sc_hosts.specs.Working.{after_one_call as worked}
use Rattle.sc_work.proofs.working.work_all.Given as goal

abbrev pub invariant-loop-call : goal.invariant-loop-call
invariant-loop-call l = l.working ≡ fold (λ working made. worked l.config working made.call) l.fn.working (take l.call-index l.made)
