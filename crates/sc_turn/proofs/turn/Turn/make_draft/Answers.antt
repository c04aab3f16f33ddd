use Rattle.std.specs.Prelude.{ℕ}
use Rattle.sc_terms.specs.declared.calls.CallAnswer.TheVariants.{Number}
use Rattle.sc_turn.proofs.Answering.{starved_turn}
use Rattle.sc_turn.proofs.turn.Turn.make_draft.Goals as goal

pub returns-in-Err : goal.returns-in-Err
returns-in-Err c = starved_turn {X = ℕ} (λ n. Number n) c.args.call c.args.self.now c.starve.new.self c.starve.ensures
