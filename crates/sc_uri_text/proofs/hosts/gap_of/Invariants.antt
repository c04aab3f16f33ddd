use Rattle.std.proofs.Common.{◌≡◌}
use Rattle.sc_tokens.specs.Hosts.{gap_of}
use Rattle.sc_uri_text.proofs.Addresses.{gap_from}
use Rattle.sc_uri_text.proofs.hosts.gap_of.Given as goal

abbrev pub invariant-loop-i : goal.invariant-loop-i
invariant-loop-i l = gap_from l.i l.text ≡ gap_of l.text
