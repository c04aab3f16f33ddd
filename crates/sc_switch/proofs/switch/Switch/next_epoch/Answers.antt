use Rattle.std.proofs.Common.{◌∙◌, ap, refl}
use Rattle.sc_journal.specs.Kept.{Kept}
use Rattle.sc_terms.specs.declared.steps.Step.{Step}
use Rattle.sc_switch.proofs.Epochs.{IsSwitch-next, turned_is}
use Rattle.sc_switch.proofs.switch.Switch.next_epoch.Goals as goal

pub invariant_of-self : goal.invariant_of-self
invariant_of-self c =
    rw c.moment-moment.ensures (IsSwitch-next _ c.args.self.now c.self.inside.journal c.replace-journal.new.dest _ _ c.begin_net.new.net _ _ _ c.new-self-inside.result.items c.self.invariant c.self.view_is c.requires
    (ap (λ (j : Kept Step). j.items) c.replace-journal.ensures.after ∙ c.fresh_journal-fresh.ensures.items)
    (ap (λ (j : Kept Step). j.used) c.replace-journal.ensures.after ∙ c.fresh_journal-fresh.ensures.used)
    (ap (λ (j : Kept Step). j.most_items) c.replace-journal.ensures.after ∙ c.fresh_journal-fresh.ensures.most_items)
    (ap (λ (j : Kept Step). j.most_bytes) c.replace-journal.ensures.after ∙ c.fresh_journal-fresh.ensures.most_bytes)
    c.new-self-inside.ensures c.begin_net.ensures)

pub returns : goal.returns
returns c =
    rw c.moment-moment.ensures (turned_is _ c.args.self.now c.self.inside.journal c.replace-journal.new.dest _ _ _ _ _ c.new-self-inside.result.items _ c.self.invariant c.self.view_is c.requires
    (ap (λ (j : Kept Step). j.items) c.replace-journal.ensures.after ∙ c.fresh_journal-fresh.ensures.items)
    c.new-self-inside.ensures refl refl refl c.replace-journal.ensures.value)
