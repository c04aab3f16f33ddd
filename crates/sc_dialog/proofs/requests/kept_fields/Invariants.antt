use Rattle.std.proofs.Common.{◌≡◌, map, take}
use Rattle.sc_model.specs.Responses.{kept_field}
use Rattle.sc_dialog.proofs.requests.kept_fields.Given as goal

abbrev pub invariant-loop-field : goal.invariant-loop-field
invariant-loop-field l = l.kept ≡ map kept_field (take l.field-index l.fields)
