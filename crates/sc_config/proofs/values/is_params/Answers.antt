use Rattle.std.proofs.Common.{sym, ◌∙◌}
use Rattle.toml.specs.View.{view}
use Rattle.sc_config.proofs.DocumentLaws.{params_view}
use Rattle.sc_config.proofs.values.is_params.Goals as goal

pub returns-in-Some-as_array : goal.returns-in-Some-as_array
returns-in-Some-as_array c =
    rw c.in-Some.is (c.are_texts.ensures ∙ rw c.as_slice.ensures.value (sym (params_view (view c.in-Some.value.now) c.in-Some-as_array.items.now.items c.in-Some-as_array.ensures)))
