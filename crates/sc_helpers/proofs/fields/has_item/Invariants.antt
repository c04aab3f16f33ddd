use Rattle.std.proofs.Common.{◌≡◌, length}
use Rattle.std.specs.List.{list_any}
use Rattle.sc_tokens.specs.Names.{same_name}
use Rattle.sc_hosts.specs.HelperParts.{items_of}
use Rattle.sc_helpers.proofs.fields.has_item.Given as goal

abbrev pub invariant-loop-more : goal.invariant-loop-more
invariant-loop-more l = list_any (same_name l.item) (items_of l.rest) ≡ list_any (same_name l.item) (items_of l.value)

abbrev pub decreases-loop-more : goal.decreases-loop-more
decreases-loop-more l = length l.rest
