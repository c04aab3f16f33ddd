use Rattle.std.proofs.Common.{◌≡◌, take}
use Rattle.std.specs.List.{fold}
use Rattle.sc_hosts.specs.Acting.{without_left}
use Rattle.sc_finish.proofs.faults.without_all.Given as goal

abbrev pub invariant-loop-draft : goal.invariant-loop-draft
invariant-loop-draft l = l.view ≡ fold without_left l.fn.view (take l.draft-index l.drafts)
