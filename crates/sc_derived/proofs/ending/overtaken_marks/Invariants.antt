use Rattle.std.proofs.Common.{◌≡◌, map, take}
use Rattle.sc_hosts.specs.DerivedSessions.{loses_tag}
use Rattle.sc_derived.proofs.ending.overtaken_marks.Given as goal

abbrev pub invariant-loop-leg : goal.invariant-loop-leg
invariant-loop-leg l = l.marks ≡ map (loses_tag l.session l.req l.sess) (take l.leg-index l.legs)
