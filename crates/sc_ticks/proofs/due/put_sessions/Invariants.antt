use Rattle.std.proofs.Common.{◌≡◌, ◌++◌, take}
use Rattle.std.specs.List.{flat_map}
use Rattle.sc_hosts.specs.Histories.{as_session}
use Rattle.sc_hosts.specs.Ticks.{live_dated}
use Rattle.sc_ticks.proofs.due.put_sessions.Given as goal

abbrev pub invariant-loop-live : goal.invariant-loop-live
invariant-loop-live l = l.out ≡ l.fn.out ++ flat_map (live_dated as_session l.host) (take l.live-index l.sessions)
