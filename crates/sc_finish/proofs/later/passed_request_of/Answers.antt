use Rattle.sc_hosts.specs.Acting.{passed_request_of}
use Rattle.sc_finish.proofs.later.passed_request_of.Goals as goal

pub returns-in_ok-kept-in-Some : goal.returns-in_ok-kept-in-Some
unfolding passed_request_of
returns-in_ok-kept-in-Some c = rw (c.in-Some.is, ← c.in_ok-kept-in-Some.ensures) c.passed_later.ensures
