use Rattle.std.proofs.Common.{◌≡◌, filter, take}
use Rattle.sc_hosts.specs.Transacting.{goes_to}
use Rattle.sc_ticks.proofs.losses.going_to.Given as goal

abbrev pub invariant-loop-client : goal.invariant-loop-client
invariant-loop-client l = l.going ≡ filter (λ client. goes_to l.place client.peer) (take l.client-index l.clients)
