use Rattle.std.proofs.Common.{[], ap, refl}
use Rattle.sc_journal.specs.Kept.{Kept}
use Rattle.sc_terms.specs.declared.steps.Step.{Step}
use Rattle.sc_switch.specs.Standing.{steps_of}
use Rattle.sc_switch.proofs.Standings.{IsSwitch-begun}
use Rattle.sc_switch.proofs.switch.switch_of.Goals as goal

pub invariant_of-result : goal.invariant_of-result
unfolding steps_of
invariant_of-result c =
    rw (c.new-in-Ok.ensures, c.new-journal.ensures, c.get.ensures.same, c.get-2.ensures.same, c.new.ensures, c.new-in-Ok-2.ensures.items, c.new-in-Ok-3.ensures)
    (IsSwitch-begun c.args.setup 0 0 0 (record { items = []; used = 0; room = c.new-journal.result.room; most_items = c.args.setup.config.journal_steps; most_bytes = c.args.setup.config.journal_bytes }) c.in-Ok.net c.requires refl refl refl refl c.in-Ok.ensures)

pub returns-in-Ok : goal.returns-in-Ok
unfolding steps_of
returns-in-Ok c = rw (c.new.ensures, ap (λ (j : Kept Step). j.items) c.new-journal.ensures, c.new-in-Ok-2.ensures.items, c.new-in-Ok-3.ensures) refl
