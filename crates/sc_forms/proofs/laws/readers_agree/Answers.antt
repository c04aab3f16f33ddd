use Rattle.sc_forms.proofs.HistoryLaws.{live_count-histories, waiting_count-histories, is_idle-histories, live_at-histories, queued-histories, waiting-histories, purged-histories, listing_of-histories}
use Rattle.sc_forms.proofs.laws.readers_agree.Goals as goal

pub returns-clause-live : goal.returns-clause-live
returns-clause-live c = live_count-histories

pub returns-clause-waiting_count : goal.returns-clause-waiting_count
returns-clause-waiting_count c = waiting_count-histories

pub returns-clause-idle : goal.returns-clause-idle
returns-clause-idle c = is_idle-histories

pub returns-clause-session : goal.returns-clause-session
returns-clause-session c = live_at-histories

pub returns-clause-queued : goal.returns-clause-queued
returns-clause-queued c = queued-histories

pub returns-clause-waiting : goal.returns-clause-waiting
returns-clause-waiting c = waiting-histories

pub returns-clause-purged : goal.returns-clause-purged
returns-clause-purged c = purged-histories

pub returns-clause-listing : goal.returns-clause-listing
returns-clause-listing c = listing_of-histories
