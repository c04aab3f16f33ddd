use Rattle.std.proofs.Common.{◌≡◌, take}
use Rattle.std.specs.List.{flat_map}
use Rattle.sc_state.specs.Entries.{branch_entry, least_due}
use Rattle.sc_state.proofs.timed.pages_due.Given as goal

abbrev pub invariant-loop-page : goal.invariant-loop-page
invariant-loop-page l = l.least ≡ least_due l.fired (flat_map (λ page. flat_map (λ proxy. flat_map branch_entry proxy.branches) page) (take l.page-index l.pages))
