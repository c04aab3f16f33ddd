use Rattle.std.proofs.Common.{◌≡◌, ◌++◌, map, take}
use Rattle.sc_switch.proofs.listing.add_lives.Given as goal

abbrev pub invariant-loop-live : goal.invariant-loop-live
invariant-loop-live l = l.all ≡ l.fn.all ++ map (λ live. record { host = l.number; serial = live.serial }) (take l.live-index l.sessions)
