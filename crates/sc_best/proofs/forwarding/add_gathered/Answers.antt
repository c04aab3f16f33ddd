use Rattle.std.proofs.Common.{◌≡◌, false, true, sym, append-nil}
use Rattle.sc_model.specs.BestResponses.{asks_credentials}
use Rattle.sc_best.proofs.Gathering.{gathered_none, gathered_added}
use Rattle.sc_best.proofs.forwarding.add_gathered.Goals as goal

pub returns-then-not-asks_credentials : goal.returns-then-not-asks_credentials
returns-then-not-asks_credentials c =
    let asks : asks_credentials c.index-responses-chosen.result ≡ false = rw (← c.get.ensures, ← c.asks_credentials.ensures) c.if-not-asks_credentials.true in
    rw (gathered_none _ _ _ c.requires c.index-responses-chosen.is asks) (sym (append-nil _))

pub returns : goal.returns
returns c =
    let asks : asks_credentials c.index-responses-chosen.result ≡ true = rw (← c.get.ensures, ← c.asks_credentials.ensures) c.if-not-asks_credentials.false in
    gathered_added _ _ _ _ _ _ c.requires c.index-responses-chosen.is asks c.in_ok-add_challenges.ensures c.in_ok-add_challenges-2.ensures
