use Rattle.std.specs.Option.{option_copied}
use Rattle.sc_syntax.specs.declared.scan.Scan.TheVariants.{Params}
use Rattle.sc_head_text.specs.Parts.{parts_behind}
use Rattle.sc_head_text.proofs.LineParts.{cut_lines}
use Rattle.sc_head_text.proofs.ReadValues.{params_held}
use Rattle.sc_head_text.proofs.ValueSteps.{via_read, via_unread}
use Rattle.sc_head_text.proofs.vias.ViaReadable.read.Goals as goal

pub returns-in-Ok : goal.returns-in-Ok
returns-in-Ok c =
    rw (via_read c.args.text.now c.split_part.result.0.now (parts_behind Params 59 (option_copied c.split_part.result.1)) c.in-Ok.params (c.split_part.ensures.exact Params) c.in-Ok.ensures) c.read_via_with.ensures

pub returns-in-Err : goal.returns-in-Err
returns-in-Err c = via_unread c.args.text.now c.split_part.result.0.now (parts_behind Params 59 (option_copied c.split_part.result.1)) c.in-Err.unread (c.split_part.ensures.exact Params) c.in-Err.ensures

pub read_params-requires : goal.read_params-requires
read_params-requires c = (cut_lines c.args.text.now c.split_part.result.0.now (parts_behind Params 59 (option_copied c.split_part.result.1)) Params Params 59 (c.split_part.ensures.exact Params) c.requires).1

pub read_via_with-requires : goal.read_via_with-requires
read_via_with-requires c =
    params_held (parts_behind Params 59 (option_copied c.split_part.result.1)) c.in-Ok.params
    (cut_lines c.args.text.now c.split_part.result.0.now (parts_behind Params 59 (option_copied c.split_part.result.1)) Params Params 59 (c.split_part.ensures.exact Params) c.requires).1 c.in-Ok.ensures
