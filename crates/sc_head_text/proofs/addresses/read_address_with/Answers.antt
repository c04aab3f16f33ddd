use Rattle.std.proofs.Common.{sym, ap, ◌∙◌}
use Rattle.sc_tokens.specs.Tokens.{is_one_line}
use Rattle.sc_head_text.proofs.LineParts.{trimmed_line}
use Rattle.sc_head_text.proofs.ReadValues.{display_held}
use Rattle.sc_head_text.proofs.addresses.read_address_with.Goals as goal

pub with_uri-requires-clause-display : goal.with_uri-requires-clause-display
with_uri-requires-clause-display c = (display_held _ _ (ap is_one_line c.trim.ensures ∙ trimmed_line c.args.text.now c.requires.line) (sym c.in-Some.ensures)).0

pub with_uri-requires-clause-line : goal.with_uri-requires-clause-line
with_uri-requires-clause-line c = (display_held _ _ (ap is_one_line c.trim.ensures ∙ trimmed_line c.args.text.now c.requires.line) (sym c.in-Some.ensures)).1
