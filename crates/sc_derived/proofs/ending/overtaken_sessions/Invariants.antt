use Rattle.std.proofs.Common.{◌≡◌, ◌++◌, map, take, drop}
use Rattle.sc_hosts.specs.DerivedSessions.{overtaken_session}
use Rattle.sc_derived.proofs.ending.overtaken_sessions.Given as goal

abbrev pub invariant-loop-i : goal.invariant-loop-i
invariant-loop-i l = l.sessions ≡ map (overtaken_session l.known l.req l.sess) (take l.i l.fn.sessions) ++ drop l.i l.fn.sessions
