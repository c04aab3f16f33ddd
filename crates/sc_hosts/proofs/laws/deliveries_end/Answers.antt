use Rattle.sc_hosts.proofs.Deliveries.{wire-ends-empty, one-delivery, none-delivered}
use Rattle.sc_hosts.proofs.RunLaws.{deliveries-send-nothing}
use Rattle.sc_hosts.proofs.laws.deliveries_end.Goals as goal

pub returns-clause-empty : goal.returns-clause-empty
returns-clause-empty c = wire-ends-empty

pub returns-clause-next : goal.returns-clause-next
returns-clause-next c = one-delivery

pub returns-clause-idle : goal.returns-clause-idle
returns-clause-idle c = none-delivered

pub returns-clause-inside : goal.returns-clause-inside
returns-clause-inside c = deliveries-send-nothing

pub returns-clause-history_empty : goal.returns-clause-history_empty
returns-clause-history_empty c = wire-ends-empty

pub returns-clause-history_inside : goal.returns-clause-history_inside
returns-clause-history_inside c = deliveries-send-nothing
