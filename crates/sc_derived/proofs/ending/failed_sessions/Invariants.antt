use Rattle.std.proofs.Common.{◌≡◌, ◌++◌, map, take, drop}
use Rattle.sc_hosts.specs.DerivedSessions.{failed_session}
use Rattle.sc_derived.proofs.ending.failed_sessions.Given as goal

abbrev pub invariant-loop-i : goal.invariant-loop-i
invariant-loop-i l = l.sessions ≡ map (failed_session l.known l.req l.original) (take l.i l.fn.sessions) ++ drop l.i l.fn.sessions
