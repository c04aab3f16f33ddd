use Rattle.std.proofs.Common.{◌<◌, ◌≤◌, subst}
use Rattle.std.proofs.lemmas.Bool.{false≢true}
use Rattle.sc_model.specs.Timers.{DueEntry}
use Rattle.sc_due.proofs.HeldLaws.{none_held, first_late, first_popped, first_ended}
use Rattle.sc_due.proofs.due.Due.take_due.Goals as goal

pub returns-in-None-clause-first : goal.returns-in-None-clause-first
returns-in-None-clause-first g c = λ events stands. none_held events c.args.now c.args.self.now c.self.inside.kept.entries c.self.view_is (λ some. false≢true (c.in-None.ensures.variant.1 some)) stands

pub returns-then-due-now-clause-first : goal.returns-then-due-now-clause-first
returns-then-due-now-clause-first g c = λ events stands. first_late events c.args.now c.args.self.now c.self.inside.kept.entries (c.in-Some.key.now, c.in-Some.field-0-1.now) c.self.view_is c.in-Some.ensures.first (subst (λ (k : DueEntry). c.args.now < k.due) c.key.view_is c.if-due-now.true) stands

pub returns-clause-first : goal.returns-clause-first
returns-clause-first g c = λ events stands. first_popped events c.args.now c.args.self.now c.self.inside.kept.entries c.pop_first.new.self.entries (c.in-Some.key.now, c.in-Some.field-0-1.now) c.pop_first.result c.self.view_is c.in-Some.ensures.first (subst (λ (k : DueEntry). k.due ≤ c.args.now) c.key.view_is c.if-due-now.false) c.pop_first.ensures.variant.1 c.pop_first.ensures.removal stands

pub returns-clause-ended : goal.returns-clause-ended
returns-clause-ended g c = first_ended c.args.self.now c.self.inside.kept.entries c.pop_first.new.self.entries c.pop_first.result c.self.view_is c.pop_first.ensures.removal
