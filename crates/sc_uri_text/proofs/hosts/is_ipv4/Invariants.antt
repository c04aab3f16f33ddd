use Rattle.std.proofs.Common.{◌≡◌, ◌≤◌, ◌+◌, length}
use Rattle.sc_tokens.specs.Hosts.{is_ipv4}
use Rattle.sc_uri_text.proofs.Addresses.{ipv4_with}
use Rattle.sc_uri_text.proofs.hosts.is_ipv4.Given as goal

abbrev pub invariant-loop-octet : goal.invariant-loop-octet
invariant-loop-octet l = (ipv4_with l.count l.rest ≡ is_ipv4 l.text) × (l.count + length l.rest ≤ length l.text)

abbrev pub decreases-loop-octet : goal.decreases-loop-octet
decreases-loop-octet l = length l.rest
