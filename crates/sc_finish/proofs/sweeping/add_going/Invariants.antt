use Rattle.std.proofs.Common.{◌≡◌, ◌++◌, take, map}
use Rattle.std.specs.Prelude.{filter}
use Rattle.sc_finish.specs.Sweeps.{goes, id_of}
use Rattle.sc_finish.proofs.sweeping.add_going.Given as goal

abbrev pub invariant-loop-session : goal.invariant-loop-session
invariant-loop-session l = l.going ≡ l.fn.going ++ map id_of (filter (goes l.known l.view) (take l.session-index l.sessions))
