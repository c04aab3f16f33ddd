-- Answers, and what goes away, leave the attributes and the moment.
use Rattle.std.proofs.Common.{◌≡◌, ℕ, Bool, true, false, Option, None, Some, List, refl, ap, ◌∙◌}
use Rattle.std.specs.Prelude.{cond}
use Rattle.sc_value.specs.declared.ids.SessId.{SessId}
use Rattle.sc_terms.specs.declared.views.RequestView.{RequestView}
use Rattle.sc_value.specs.declared.parts.Field.{Field}
use Rattle.sc_terms.specs.declared.views.TimerView.{TimerView}
use Rattle.sc_terms.specs.declared.views.View.{View}
use Rattle.sc_hosts.specs.Looking.{without_sip_session as removed}
use Rattle.sc_hosts.specs.ViewChanges.{view_with_answer as answered, answered_in, tidy}
use Rattle.sc_lasting.proofs.Parts.{removed-only}

-- of the one view the other has the moment and the attributes
abbrev pub IsAside : View → View → Type 0
IsAside before after = (after.now ≡ before.now) × (after.attributes ≡ before.attributes)

pub if-aside : {A : Type 0} (part : A → View) (b : Bool) (x y : A) (view : View) → IsAside view (part x) → IsAside view (part y) → IsAside view (part (cond b x y))
if-aside part true x y view p q = p
if-aside part false x y view p q = q

pub then-aside : (u v w : View) → IsAside u v → IsAside v w → IsAside u w
then-aside u v w p q = (q.0 ∙ p.0, q.1 ∙ p.1)

pub answered-aside : (request : Option RequestView) (code : ℕ) (view : View) → IsAside view (answered request code view)
unfolding answered answered_in tidy
answered-aside None code view = (refl, refl)
answered-aside (Some request) code view = (refl, refl)

pub answered-kept : (request : Option RequestView) (code : ℕ) (view : View) → (answered request code view).attributes ≡ view.attributes
unfolding answered answered_in tidy
answered-kept None code view = refl
answered-kept (Some request) code view = refl

-- what a turn leaves as its calls do: attributes, timers, and the numbers of the next timer and the next request
pub record Rest : Type 0 where
  pub attributes : List Field
  pub timers : List TimerView
  pub next_timer : ℕ
  pub next_request : ℕ

abbrev pub rest-of : View → Rest
rest-of view = record { attributes = view.attributes; timers = view.timers; next_timer = view.next_timer; next_request = view.next_request }

pub answered-rest : (request : Option RequestView) (code : ℕ) (view : View) → rest-of (answered request code view) ≡ rest-of view
unfolding answered answered_in tidy
answered-rest None code view = refl
answered-rest (Some request) code view = refl

pub removed-rest : (sess : SessId) (view : View) → rest-of (removed sess view) ≡ rest-of view
removed-rest sess view = ap rest-of (removed-only sess view)
