use Rattle.std.proofs.Common.{◌≡◌, ◌<◌, ◌≤◌, ◌^◌, ℕ, List, true, sym, subst}
use Rattle.sc_terms.specs.declared.views.SessionView.{SessionView}
use Rattle.sc_servlets.specs.Ranges.{is_numbered_below}
use Rattle.sc_switch_tests.proofs.leases.showing.Goals as goal

pub invariant_of-result : goal.invariant_of-result
invariant_of-result c = record {
  moment = subst (λ (n : ℕ). n ≤ 2 ^ 63) (sym c.requires.moment) c.args.lease.moment;
  counter = subst (λ (n : ℕ). n < 2 ^ 62) (sym c.requires.counter) c.args.lease.counter;
  next_request = subst (λ (n : ℕ). n < 2 ^ 31) (sym c.requires.requests) c.args.lease.next_request;
  next_timer = subst (λ (n : ℕ). n < 2 ^ 31) (sym c.requires.timers) c.args.lease.next_timer;
  sessions = subst (λ (sessions : List SessionView). is_numbered_below (2 ^ 31) sessions ≡ true) (sym c.requires.sessions) c.args.lease.sessions;
}
