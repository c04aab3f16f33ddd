use Rattle.std.proofs.Common.{◌≡◌, drop}
use Rattle.std.specs.List.{filter_map}
use Rattle.sc_hosts.specs.SessionTimers.{named_timed}
use Rattle.sc_refreshes.proofs.timed_texts.first_timed.Given as goal

abbrev pub invariant-loop-field : goal.invariant-loop-field
invariant-loop-field l = filter_map (named_timed l.id) (drop l.field-index l.fields) ≡ filter_map (named_timed l.id) l.fields
