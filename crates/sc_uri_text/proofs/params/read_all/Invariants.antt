use Rattle.std.proofs.Common.{◌≡◌, ◌≤◌, ◌+◌, length}
use Rattle.sc_tokens.specs.Cuts.{pieces}
use Rattle.sc_syntax.specs.UriParts.{params_in}
use Rattle.sc_uri_text.proofs.ParamSteps.{behind}
use Rattle.sc_uri_text.proofs.params.read_all.Given as goal

abbrev pub invariant-loop-params : goal.invariant-loop-params
invariant-loop-params l = (behind l.params (params_in l.place (pieces 59 l.rest)) ≡ params_in l.at (pieces 59 l.text)) × (l.place + length l.rest ≤ l.at + length l.text)

abbrev pub decreases-loop-params : goal.decreases-loop-params
decreases-loop-params l = length l.rest
