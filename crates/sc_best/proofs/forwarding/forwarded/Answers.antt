use Rattle.std.proofs.Common.{◌<◌, length}
use Rattle.sc_best.proofs.Gathering.{forwarded_is}
use Rattle.sc_best.proofs.forwarding.forwarded.Goals as goal

pub returns : goal.returns
returns c =
    let below : c.args.chosen < length c.as_slice-responses.result.now = rw c.as_slice-responses.ensures c.requires in
    rw (← c.as_slice-responses.ensures) (forwarded_is _ _ c.get-response.result.now _ below (rw c.get-response.ensures c.index-responses-chosen.is) c.forwarded_code.ensures c.in_ok-reason.ensures (c.in_ok-head.ensures c.get-response.result.now))
