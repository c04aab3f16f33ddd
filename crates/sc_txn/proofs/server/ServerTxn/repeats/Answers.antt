use Rattle.std.proofs.Common.{◌≡◌, ◌&&◌, ◌∙◌}
use Rattle.sc_model.specs.ServerTransactions.{is_sent_again, repeats_in}
use Rattle.sc_txn.proofs.Standing.{server_again}
use Rattle.sc_txn.proofs.server.ServerTxn.repeats.Goals as goal

pub returns-then-self : goal.returns-then-self
returns-then-self c invite passed stands =
    let again : (c.self.inside.stage.answered && repeats_in c.self.inside.stage.state) ≡ is_sent_again invite passed = server_again _ invite passed (rw (← c.self.view_is) at stands) in
    c.repeats_in.ensures ∙ (rw c.if-self.true at again)

pub returns-else-self : goal.returns-else-self
returns-else-self c invite passed stands =
    let again : (c.self.inside.stage.answered && repeats_in c.self.inside.stage.state) ≡ is_sent_again invite passed = server_again _ invite passed (rw (← c.self.view_is) at stands) in
    c.if-self.false ∙ (rw c.if-self.false at again)
