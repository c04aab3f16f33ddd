use Rattle.sc_switch.specs.Beginnings.{IsOfferBegun}
use Rattle.sc_switch.proofs.Beginnings.{begun_offered}
use Rattle.sc_switch.proofs.leasing.offer_waiting.Goals as goal

pub returns-in-Ok : goal.returns-in-Ok
unfolding IsOfferBegun
returns-in-Ok c = (
  c.in-Ok.ensures,
  begun_offered c.args.setup.now c.args.net.now c.args.first.now.app c.args.first.now.live.now c.args.first.now.waiting.now _ _ c.begun_of-begun.result c.requires.live c.requires.waits c.in_ok-shown.ensures c.begun_of-begun.ensures,
)
