use Rattle.std.proofs.Common.{◌≡◌, ◌++◌, take}
use Rattle.std.specs.List.{flat_map}
use Rattle.sc_grammar.specs.Written.{param_text}
use Rattle.sc_uri_text.proofs.writing.put_params.Given as goal

abbrev pub invariant-loop-param : goal.invariant-loop-param
invariant-loop-param g l = g.G.Growing.bytes l.out ≡ g.G.Growing.bytes l.fn.out ++ flat_map param_text (take l.param-index l.params)
