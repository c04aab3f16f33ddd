use Rattle.sc_switch.specs.Answers.{RefusesEpoch}
use Rattle.sc_switch.proofs.Epochs.{none_live, none_busy, none_left, still_busy}
use Rattle.sc_switch.proofs.switch.Switch.unready.Goals as goal

pub returns-then-busy-gt0-clause-some : goal.returns-then-busy-gt0-clause-some
returns-then-busy-gt0-clause-some c = still_busy _ c.args.self.now _ _ _ _ _ c.busy_count-busy.result c.self.invariant c.self.view_is c.if-self-gt0.false c.busy_count-busy.ensures c.if-busy-gt0.true

pub returns-then-unsent-gt0-clause-some : goal.returns-then-unsent-gt0-clause-some
unfolding RefusesEpoch
returns-then-unsent-gt0-clause-some c = (
  none_live _ c.args.self.now _ _ _ _ _ c.self.invariant c.self.view_is c.if-self-gt0.false,
  none_busy _ c.args.self.now _ _ _ _ _ _ c.self.invariant c.self.view_is c.busy_count-busy.ensures c.if-busy-gt0.false,
  c.untaken-unsent.ensures,
  c.if-unsent-gt0.true,
)

pub returns-then-self-clause-some : goal.returns-then-self-clause-some
unfolding RefusesEpoch
returns-then-self-clause-some c = (
  none_live _ c.args.self.now _ _ _ _ _ c.self.invariant c.self.view_is c.if-self-gt0.false,
  none_busy _ c.args.self.now _ _ _ _ _ _ c.self.invariant c.self.view_is c.busy_count-busy.ensures c.if-busy-gt0.false,
  none_left _ _ c.untaken-unsent.ensures c.if-unsent-gt0.false,
  rw (← c.self.view_is) c.if-self.true,
)

pub returns-clause-none : goal.returns-clause-none
returns-clause-none c = record {
  live_is = none_live _ c.args.self.now _ _ _ _ _ c.self.invariant c.self.view_is c.if-self-gt0.false;
  busy_is = none_busy _ c.args.self.now _ _ _ _ _ _ c.self.invariant c.self.view_is c.busy_count-busy.ensures c.if-busy-gt0.false;
  left_is = none_left _ _ c.untaken-unsent.ensures c.if-unsent-gt0.false;
  epoch_is = rw (← c.self.view_is) c.if-self.false;
}
