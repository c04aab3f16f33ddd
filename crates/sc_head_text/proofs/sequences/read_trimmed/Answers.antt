use Rattle.std.proofs.Common.{◌^◌, sym, ap, ◌∙◌}
use Rattle.sc_tokens.specs.Tokens.{is_token}
use Rattle.sc_head_text.proofs.KeptValues.{is_below}
use Rattle.sc_head_text.proofs.sequences.read_trimmed.Goals as goal

pub invariant_of-result : goal.invariant_of-result
invariant_of-result c = record {
  number = is_below (2 ^ 31) _ _ (sym c.in-Some.ensures);
  method = ap is_token c.in_ok-method-in-Some.ensures ∙ sym c.is_token.ensures ∙ c.if-not-is_token.false;
}
