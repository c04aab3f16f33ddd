-- Legs by marks, one for each of them in order. This project's own.
use Rattle.std.specs.Prelude.{List, [], ◌∷◌, Bool, true, if◌then◌else◌}
use Rattle.sc_state.specs.declared.session.Leg.{Leg}

-- another SipSession overtook that of the leg, where the leg is marked
unfoldable pub marked_leg : Bool → Leg → Leg
marked_leg mark leg = if mark then record leg { overtaken = true } else leg

-- the legs, each by its mark
unfoldable pub legs_by_marks : List Bool → List Leg → List Leg
legs_by_marks [] legs = legs
legs_by_marks (mark ∷ marks) [] = []
legs_by_marks (mark ∷ marks) (leg ∷ legs) = marked_leg mark leg ∷ legs_by_marks marks legs
