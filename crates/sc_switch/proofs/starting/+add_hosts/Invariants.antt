use Rattle.std.proofs.Common.{length}
use Rattle.sc_switch.proofs.starting.+add_hosts.Given as goal

abbrev pub decreases-add_hosts : goal.decreases-add_hosts
decreases-add_hosts l = length l.apps.now
