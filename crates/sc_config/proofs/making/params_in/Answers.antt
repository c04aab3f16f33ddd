use Rattle.std.proofs.Common.{◌∙◌, ap, map}
use Rattle.sc_config.specs.ReadSettings.{params_in, param_text}
use Rattle.sc_config.proofs.DocumentLaws.{map_view}
use Rattle.sc_config.proofs.making.params_in.Goals as goal

pub returns : goal.returns
unfolding params_in
returns c = c.in_ok-add_params.ensures ∙ rw c.new-params.ensures (map_view param_text c.items_of.result.now ∙ ap (map param_text) c.items_of.ensures)
