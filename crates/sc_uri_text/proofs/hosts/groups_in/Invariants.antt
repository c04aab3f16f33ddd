use Rattle.std.proofs.Common.{◌≡◌, ◌≤◌, ◌+◌, Some, length}
use Rattle.sc_tokens.specs.Cuts.{pieces}
use Rattle.sc_tokens.specs.Hosts.{groups_in, sum_of}
use Rattle.sc_uri_text.proofs.hosts.groups_in.Given as goal

abbrev pub invariant-loop-piece : goal.invariant-loop-piece
invariant-loop-piece l = (sum_of (Some l.count) (groups_in l.ipv4 (pieces 58 l.rest)) ≡ groups_in l.ipv4 (pieces 58 l.text)) × (l.count + length l.rest ≤ length l.text)

abbrev pub decreases-loop-piece : goal.decreases-loop-piece
decreases-loop-piece l = length l.rest
