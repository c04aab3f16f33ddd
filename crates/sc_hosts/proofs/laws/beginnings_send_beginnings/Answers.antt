use Rattle.sc_hosts.proofs.RunLaws.{sent-of-beginning}
use Rattle.sc_hosts.proofs.laws.beginnings_send_beginnings.Goals as goal

pub returns : goal.returns
returns c = sent-of-beginning
