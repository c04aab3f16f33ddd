use Rattle.sc_syntax.specs.Vias.{vias_of}
use Rattle.sc_syntax.specs.SpelledVias.{AreViasSpelled}
use Rattle.sc_syntax.proofs.ViaLaws.{vias_are_spelled}
use Rattle.sc_head_text.specs.Parts.{parts_behind}
use Rattle.sc_syntax.proofs.SpelledViaLaws.{vias_are_read}
use Rattle.std.specs.List.{All}
use Rattle.sc_syntax.specs.SpelledVias.{IsViaSpelled}
use Rattle.sc_value.specs.ViaValues.{IsVia}
use Rattle.sc_syntax.specs.declared.scan.Scan.TheVariants.{Params}
use Rattle.sc_head_text.proofs.LineParts.{behind_lines}
use Rattle.sc_head_text.proofs.KeptValues.{holds_of_given, listed_all, via_kept}
use Rattle.sc_head_text.proofs.ValueSteps.{given_is_spelled}
use Rattle.sc_head_text.proofs.vias.read_vias.Goals as goal

pub returns-clause-spelled : goal.returns-clause-spelled
unfolding vias_of parts_behind
returns-clause-spelled c = given_is_spelled c.read_parts.result (vias_of c.args.b.now) (λ x. AreViasSpelled c.args.b.now x) c.read_parts.ensures (λ x h. vias_are_spelled c.args.b.now x h) (λ x h. vias_are_read c.args.b.now x h)

pub returns-clause-kept : goal.returns-clause-kept
returns-clause-kept c = holds_of_given c.read_parts.result (λ x. AreViasSpelled c.args.b.now x) (λ x. All IsVia x) (returns-clause-spelled c) (λ x h. listed_all 44 IsViaSpelled IsVia via_kept x c.args.b.now c.requires h)

pub read_parts-requires : goal.read_parts-requires
read_parts-requires c = behind_lines c.args.b.now Params 44 c.requires
