use Rattle.sc_play.proofs.PlayLaws.{row_next}
use Rattle.sc_play.proofs.running.play_at.Goals as goal

pub returns-in-Ok-play_row-clause-played : goal.returns-in-Ok-play_row-clause-played
returns-in-Ok-play_row-clause-played g c = row_next _ _ _ c.args.at c.in-Ok.row.len _ _ _ _ _ _ c.rest_at-rest.ensures c.front_of.ensures c.in-Ok-play_row.ensures
