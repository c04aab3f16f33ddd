use Rattle.std.proofs.Common.{◌≡◌, take, filter, map}
use Rattle.sc_transact.specs.Ringing.{is_ringing}
use Rattle.sc_transact.proofs.clients.ringing_in.Given as goal

abbrev pub invariant-loop-client : goal.invariant-loop-client
invariant-loop-client l = l.branches ≡ map (λ client. client.branch) (filter (is_ringing l.app) (take l.client-index l.clients))
