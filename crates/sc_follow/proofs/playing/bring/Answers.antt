use Rattle.std.proofs.Common.{length, ap, ◌∙◌}
use Rattle.std.proofs.lemmas.List.{length-map}
use Rattle.sc_follow.proofs.Playings.{kind_within, fits_made}
use Rattle.sc_follow.proofs.playing.bring.Goals as goal

pub react-requires : goal.react-requires
react-requires g c = kind_within _ _ c.args.lease _ c.requires.right c.requires.lent.lease_is (ap length c.requires.kinds ∙ length-map _ _)

pub settle-requires-clause-fits : goal.settle-requires-clause-fits
settle-requires-clause-fits g c = fits_made c.args.switch.now _ c.args.lease c.react.result c.requires.kinds c.requires.lent c.react.ensures.lease c.react.ensures.charter c.react.ensures.listener
