use Rattle.std.proofs.Common.{◌≡◌, ◌++◌, take}
use Rattle.std.specs.List.{flat_map}
use Rattle.sc_hosts.specs.Sessions.{branch_entry}
use Rattle.sc_ticks.proofs.entries.put_pages.Given as goal

abbrev pub invariant-loop-page : goal.invariant-loop-page
invariant-loop-page l = l.out ≡ l.fn.out ++ flat_map (λ page. flat_map (λ proxy. flat_map branch_entry proxy.branches) page) (take l.page-index l.pages)
