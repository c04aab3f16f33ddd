use Rattle.std.proofs.Common.{◌≡◌, take}
use Rattle.std.specs.List.{fold}
use Rattle.sc_hosts.specs.Acting.{after_start as started}
use Rattle.sc_acting.proofs.acting.all_started.Given as goal

abbrev pub invariant-loop-uri : goal.invariant-loop-uri
invariant-loop-uri l = l.working ≡ fold (started l.config l.proxy) l.fn.working (take l.uri-index l.uris)
