use Rattle.std.proofs.Common.{◌≡◌, take}
use Rattle.std.specs.List.{fold}
use Rattle.sc_hosts.specs.Effects.{after_listed}
use Rattle.sc_effects.proofs.calling.list_all.Given as goal

abbrev pub invariant-loop-call : goal.invariant-loop-call
invariant-loop-call l = l.play ≡ fold (λ play made. after_listed play made.call) l.fn.play (take l.call-index l.made)
