use Rattle.std.proofs.Common.{true, sym, ap, subst, ◌∙◌}
use Rattle.std.specs.Option.{option_map_or}
use Rattle.sc_tokens.specs.Tokens.{is_one_line}
use Rattle.sc_tokens.specs.HeaderTokens.{IsDisplay}
use Rattle.sc_head_text.proofs.addresses.with_uri.Goals as goal

pub invariant_of-result : goal.invariant_of-result
invariant_of-result c = record { display = subst IsDisplay (sym c.in_ok-display.ensures) c.requires.display; line = ap (λ d. option_map_or is_one_line d true) c.in_ok-display.ensures ∙ c.requires.line; uri = c.known.ensures; params = c.requires.params }
