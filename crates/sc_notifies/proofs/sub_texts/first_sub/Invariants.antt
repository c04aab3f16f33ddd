use Rattle.std.proofs.Common.{◌≡◌, drop}
use Rattle.std.specs.List.{filter_map}
use Rattle.sc_hosts.specs.Subscriptions.{named_sub}
use Rattle.sc_notifies.proofs.sub_texts.first_sub.Given as goal

abbrev pub invariant-loop-field : goal.invariant-loop-field
invariant-loop-field l = filter_map (named_sub l.id) (drop l.field-index l.fields) ≡ filter_map (named_sub l.id) l.fields
