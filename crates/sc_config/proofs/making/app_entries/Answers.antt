use Rattle.std.proofs.Common.{◌∙◌, ap, map}
use Rattle.sc_config.specs.ReadSettings.{app_entry}
use Rattle.sc_config.proofs.DocumentLaws.{map_view}
use Rattle.sc_config.proofs.making.app_entries.Goals as goal

pub returns : goal.returns
returns c = c.in_ok-add_apps.ensures ∙ rw c.new-entries.ensures (map_view (app_entry c.args.kinds.now) c.apps_in.result.now ∙ ap (map (app_entry c.args.kinds.now)) c.apps_in.ensures)
