use Rattle.std.proofs.Common.{◌∙◌, ap, refl}
use Rattle.sc_journal.specs.Kept.{Kept}
use Rattle.sc_terms.specs.declared.steps.Step.{Step}
use Rattle.sc_switch.specs.Answers.{handing}
use Rattle.sc_switch.specs.Standing.{net_of}
use Rattle.sc_switch.proofs.Handing.{IsSwitch-handed, handed_is, net_same}
use Rattle.sc_switch.proofs.switch.Switch.hand_on.Goals as goal

pub invariant_of-self : goal.invariant_of-self
invariant_of-self c =
    IsSwitch-handed _ c.self.inside.journal c.replace.new.dest _ c.saturating_add-self-inside.result _ _ _ c.self.inside.handed.items c.and-self-inside.result.items c.self.invariant refl c.and-self-inside.ensures
    (ap (λ (j : Kept Step). j.items) c.replace.ensures.after ∙ c.fresh_journal-fresh.ensures.items)
    (ap (λ (j : Kept Step). j.used) c.replace.ensures.after ∙ c.fresh_journal-fresh.ensures.used)
    (ap (λ (j : Kept Step). j.most_items) c.replace.ensures.after ∙ (rw (← c.self.view_is) at c.fresh_journal-fresh.ensures.most_items))
    (ap (λ (j : Kept Step). j.most_bytes) c.replace.ensures.after ∙ (rw (← c.self.view_is) at c.fresh_journal-fresh.ensures.most_bytes))
    (rw c.len.ensures at c.saturating_add-self-inside.ensures)

pub returns-clause-handed : goal.returns-clause-handed
returns-clause-handed c =
    handed_is _ c.self.inside.journal c.replace.new.dest c.self.inside.handed.items c.and-self-inside.result.items c.self.invariant.items_is refl c.and-self-inside.ensures
    (ap (λ (j : Kept Step). j.items) c.replace.ensures.after ∙ c.fresh_journal-fresh.ensures.items)
    ∙ ap handing c.self.view_is

pub returns-clause-net : goal.returns-clause-net
returns-clause-net c = ap net_of (returns-clause-handed c) ∙ net_same c.args.self.now
