use Rattle.std.proofs.Common.{◌≡◌, length}
use Rattle.std.specs.List.{find}
use Rattle.sc_tokens.specs.Cuts.{pieces}
use Rattle.sc_hosts.specs.SessionTimers.{is_refresher}
use Rattle.sc_refreshes.proofs.intervals.refresher_among.Given as goal

abbrev pub invariant-loop-more : goal.invariant-loop-more
invariant-loop-more l = find is_refresher (pieces 59 l.rest) ≡ find is_refresher (pieces 59 l.params)

abbrev pub decreases-loop-more : goal.decreases-loop-more
decreases-loop-more l = length l.rest
