use Rattle.sc_stages.proofs.ClientStanding.{client_begun}
use Rattle.sc_stages.proofs.clients.client_begun.Goals as goal

pub returns : goal.returns
returns c = client_begun c.args.invite c.args.sent c.first_state.result c.first_state.ensures
