use Rattle.std.proofs.Common.{◌≡◌, ◌++◌, map, take, drop}
use Rattle.sc_hosts.specs.Acting.{closed_session}
use Rattle.sc_acting.proofs.closing.all_closed.Given as goal

abbrev pub invariant-loop-i : goal.invariant-loop-i
invariant-loop-i l = l.sessions ≡ map (closed_session l.known l.req l.original) (take l.i l.fn.sessions) ++ drop l.i l.fn.sessions
