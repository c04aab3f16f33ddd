use Rattle.std.proofs.Common.{◌≡◌, take}
use Rattle.std.specs.List.{flat_map}
use Rattle.sc_apps.specs.Scripted.{uris_of}
use Rattle.sc_apps.proofs.forking.all_readable.Given as goal

abbrev pub invariant-loop-text : goal.invariant-loop-text
invariant-loop-text l = l.uris ≡ flat_map uris_of (take l.text-index l.texts)
