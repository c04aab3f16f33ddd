use Rattle.std.proofs.Common.{◌≡◌, ◌≤◌, ◌-◌, length}
use Rattle.sc_syntax.specs.Lines.{end_of}
use Rattle.sc_message_text.proofs.EndSteps.{end_from}
use Rattle.sc_message_text.proofs.ends.end_of.Given as goal

abbrev pub invariant-loop-found : goal.invariant-loop-found
invariant-loop-found l = (l.place ≤ length l.text) × (end_from l.ending l.place l.text ≡ end_of l.ending l.text)

abbrev pub decreases-loop-found : goal.decreases-loop-found
decreases-loop-found l = length l.text - l.place
