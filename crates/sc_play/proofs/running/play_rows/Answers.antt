use Rattle.sc_play.proofs.PlayLaws.{rows_all}
use Rattle.sc_play.proofs.running.play_rows.Goals as goal

pub returns : goal.returns
returns g c = record {
  done = λ done setup played.
      rows_all c.args.text.now c.loop-at.at c.args.player.now.switch c.loop-at.player.switch c.loop-at.counts (g.K.Sink.took c.args.out.now) (g.K.Sink.took c.loop-at.out) (g.K.Sink.took c.put_last.new.out)
      c.loop-at.invariant.within c.loop-at-test.false c.loop-at.invariant.played c.show_laws.ensures.lawful (c.put_last.ensures done) setup played;
}
