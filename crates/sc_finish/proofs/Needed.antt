-- Kept requests that are needed.
use Rattle.std.proofs.Common.{◌≡◌, ◌&&◌, ◌||◌, Bool, true, false, not, T, Option, Some, None, List, ap, sym, subst, ◌∙◌, refl}
use Rattle.std.specs.List.{find}
use Rattle.std.specs.Option.{option_map_or}
use Rattle.std.specs.Prelude.{is_some}
use Rattle.sc_tokens.specs.Names.{same_bytes}
use Rattle.sc_terms.specs.declared.views.RequestView.{RequestView}
use Rattle.sc_terms.specs.declared.views.View.{View}
use Rattle.sc_terms.specs.Resting.{is_resting}
use Rattle.sc_terms.proofs.RestLaws.{ack_busy, rests}
use Rattle.sc_state.specs.declared.session.Kept.{Kept}
use Rattle.sc_state.specs.declared.session.Leg.{Leg}
use Rattle.sc_state.specs.declared.session.Way.{Way}
use Rattle.sc_state.specs.declared.session.Way.TheVariants.{Received, Sent}
use Rattle.sc_model.specs.SessionStates.{ack}
use Rattle.sc_hosts.specs.Finishing.{can_succeed, is_needed, lacks_final}
use Rattle.sc_hosts.specs.Legs.{is_leg_of}
use Rattle.sc_hosts.specs.Looking.{request_in}
use Rattle.sc_pages.specs.declared.runs.Run.{Run}
use Rattle.sc_pages.specs.Runs.{AllRest, are_within}
use Rattle.sc_pages.proofs.RunLaws.{rests_within}
use Rattle.sc_finish.specs.Sweeps.{can_be_needed, stays}

true_false : true ≡ false → ⊥
true_false e = subst T e tt

-- in either order
pub either : (a b : Bool) → (a || b) ≡ (b || a)
either true true = refl
either true false = refl
either false true = refl
either false false = refl

resting_lacks : (request : RequestView) → is_resting request ≡ true → lacks_final request ≡ true
unfolding lacks_final ack
resting_lacks request is = let it = rests request is in ap (λ b. b && not (same_bytes request.method ack)) it.unanswered ∙ ap not it.waits

open_there : (found : Option RequestView) → option_map_or is_resting found false ≡ true → (option_map_or lacks_final found false ≡ true) × (is_some found ≡ true)
open_there None e = absurd (true_false (sym e))
open_there (Some request) e = (resting_lacks request e, refl)

needed_by : (view : View) (leg : Option Leg) (kept : Kept) (way : Way) → option_map_or is_resting (request_in view kept.id) false ≡ true → is_needed view leg kept way ≡ true
unfolding is_needed
needed_by view leg kept (Received event) there = (open_there (request_in view kept.id) there).0
needed_by view leg kept (Sent branch) there = ap (λ b. b || can_succeed view leg kept) (open_there (request_in view kept.id) there).1

pub resting_needed : (view : View) (legs : List Leg) (runs : List Run) (kept : Kept) → AllRest (λ (r : RequestView). r.id.0) is_resting view.requests runs → are_within runs kept.id.0 ≡ true → can_be_needed view legs kept ≡ true
unfolding can_be_needed
resting_needed view legs runs kept all within =
    needed_by view (find (is_leg_of kept.sess) legs) kept kept.way (rests_within (λ (r : RequestView). r.id.0) is_resting view.requests runs kept.id.0 all within)

-- a received ACK doesn't rest
pub going_busy : (request : RequestView) → stays request ≡ false → not (is_resting request) ≡ true
unfolding stays ack
going_busy request goes = ack_busy request (by request.received (same_bytes request.method ack) goes)
  where
    by : (a b : Bool) → not (a && b) ≡ false → b ≡ true
    by true true e = refl
    by true false e = absurd (true_false e)
    by false b e = absurd (true_false e)
