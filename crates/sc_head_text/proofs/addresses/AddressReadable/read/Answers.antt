use Rattle.std.specs.Option.{option_copied}
use Rattle.sc_syntax.specs.declared.scan.Scan.TheVariants.{Front, Params}
use Rattle.sc_head_text.specs.Parts.{parts_behind}
use Rattle.sc_head_text.proofs.LineParts.{cut_lines}
use Rattle.sc_head_text.proofs.ReadValues.{params_held}
use Rattle.sc_head_text.proofs.ValueSteps.{address_read, address_unread}
use Rattle.sc_head_text.proofs.addresses.AddressReadable.read.Goals as goal

pub returns-in-Ok : goal.returns-in-Ok
returns-in-Ok c =
    rw (address_read c.args.text.now c.split_part.result.0.now (parts_behind Params 59 (option_copied c.split_part.result.1)) c.in-Ok.params (c.split_part.ensures.exact Params) c.in-Ok.ensures) c.read_address_with.ensures

pub returns-in-Err : goal.returns-in-Err
returns-in-Err c = address_unread c.args.text.now c.split_part.result.0.now (parts_behind Params 59 (option_copied c.split_part.result.1)) c.in-Err.unread (c.split_part.ensures.exact Params) c.in-Err.ensures

pub read_params-requires : goal.read_params-requires
read_params-requires c = (cut_lines c.args.text.now c.split_part.result.0.now (parts_behind Params 59 (option_copied c.split_part.result.1)) Params Front 59 (c.split_part.ensures.exact Params) c.requires).1

pub read_address_with-requires-clause-line : goal.read_address_with-requires-clause-line
read_address_with-requires-clause-line c = (cut_lines c.args.text.now c.split_part.result.0.now (parts_behind Params 59 (option_copied c.split_part.result.1)) Params Front 59 (c.split_part.ensures.exact Params) c.requires).0

pub read_address_with-requires-clause-params : goal.read_address_with-requires-clause-params
read_address_with-requires-clause-params c =
    params_held (parts_behind Params 59 (option_copied c.split_part.result.1)) c.in-Ok.params
    (cut_lines c.args.text.now c.split_part.result.0.now (parts_behind Params 59 (option_copied c.split_part.result.1)) Params Front 59 (c.split_part.ensures.exact Params) c.requires).1 c.in-Ok.ensures
