use Rattle.sc_lives.proofs.HostCounts.{chained-hosts}
use Rattle.sc_lives.proofs.laws.hosts_are_applications.Goals as goal

pub returns-clause-session : goal.returns-clause-session
returns-clause-session c = chained-hosts

pub returns-clause-history : goal.returns-clause-history
returns-clause-history c = chained-hosts
