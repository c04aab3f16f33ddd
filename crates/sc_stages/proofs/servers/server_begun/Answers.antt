use Rattle.sc_stages.proofs.ServerStanding.{server_begun}
use Rattle.sc_stages.proofs.servers.server_begun.Goals as goal

pub returns : goal.returns
returns c = server_begun c.args.invite c.first_state.result c.first_state.ensures
