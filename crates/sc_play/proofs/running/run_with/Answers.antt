use Rattle.sc_play.proofs.PlayLaws.{played_none}
use Rattle.sc_play.proofs.running.run_with.Goals as goal

pub returns : goal.returns
returns g c = record {
  done = λ done.
      c.play_rows-status.ensures.done done c.args.player.switch.setup
      (played_none c.args.player.switch _ c.requires.epoch c.requires.began c.requires.handed c.requires.journal c.requires.left);
}
