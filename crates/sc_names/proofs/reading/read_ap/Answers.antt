use Rattle.std.proofs.Common.{ℕ, List, ◌∷◌, ◌++◌, decimal}
use Rattle.sc_model.specs.Names.{app_text, ap_value}
use Rattle.sc_names.specs.Reading.{IsApp}
use Rattle.sc_names.proofs.ReadingLaws.{read_as, read_none, read_then, ap_of_first, ap_of_later}
use Rattle.sc_names.proofs.reading.read_ap.Goals as goal

pub returns-then-epoch-eq0 : goal.returns-then-epoch-eq0
returns-then-epoch-eq0 c = read_as app_text (ap_value c.args.epoch) IsApp c.args.b.now c.read_app.result (λ app. ap_of_first c.args.epoch app c.if-epoch-eq0.true) c.read_app.ensures

pub returns-in_err-app : goal.returns-in_err-app
returns-in_err-app c = read_none (λ (r : List ℕ). r ++ 46 ∷ decimal c.args.epoch) app_text (ap_value c.args.epoch) IsApp c.args.b.now c.from_residual.result c.from_residual.ensures (λ app. ap_of_later c.args.epoch app c.if-epoch-eq0.false) c.in_err-app.ensures

pub returns : goal.returns
returns c = read_then (λ (r : List ℕ). r ++ 46 ∷ decimal c.args.epoch) app_text (ap_value c.args.epoch) IsApp c.args.b.now c.in_ok-app.app.now c.read_app-2.result (λ app. ap_of_later c.args.epoch app c.if-epoch-eq0.false) c.in_ok-app.ensures c.read_app-2.ensures
