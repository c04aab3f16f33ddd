-- Legs that are marked one by one.
use Rattle.std.proofs.Common.{◌≡◌, ℕ, zero, suc, ◌+◌, ◌<◌, ◌≤◌, Bool, List, [], ◌∷◌, length, map, take, refl, ap, ◌∙◌, get_or, arith, add-one}
use Rattle.std.proofs.Math.ListN.{set}
use Rattle.sc_value.specs.declared.ids.ReqId.{ReqId}
use Rattle.sc_value.specs.declared.ids.SessId.{SessId}
use Rattle.sc_state.specs.declared.session.Leg.{Leg}
use Rattle.sc_state.specs.declared.session.Session.{Session}
use Rattle.sc_hosts.specs.DerivedSessions.{loses_tag, overtaken_leg}
use Rattle.sc_derived.specs.Marks.{legs_by_marks as marked, marked_leg}

pub marked_is : (session : Session) (req : ReqId) (sess : SessId) (legs : List Leg)
    → marked (map (loses_tag session req sess) legs) legs ≡ map (overtaken_leg session req sess) legs
unfolding marked marked_leg overtaken_leg
marked_is session req sess [] = refl
marked_is session req sess (leg ∷ legs) = ap (λ rest. marked_leg (loses_tag session req sess leg) leg ∷ rest) (marked_is session req sess legs)

pub marked_length : (marks : List Bool) (legs : List Leg) → length (marked marks legs) ≡ length legs
unfolding marked
marked_length [] legs = refl
marked_length (mark ∷ marks) [] = refl
marked_length (mark ∷ marks) (leg ∷ legs) = ap suc (marked_length marks legs)

next : (marks : List Bool) (legs : List Leg) (i : ℕ) (m : Bool) (d : Leg) → i < length marks → i < length legs
    → set (marked (take i marks) legs) i (marked_leg (get_or marks i m) (get_or (marked (take i marks) legs) i d)) ≡ marked (take (suc i) marks) legs
unfolding marked
next [] legs i m d below within = absurd (omega (arith, below))
next (mark ∷ marks) [] i m d below within = absurd (omega (arith, within))
next (mark ∷ marks) (leg ∷ legs) zero m d below within = refl
next (mark ∷ marks) (leg ∷ legs) (suc i) m d below within = ap (λ rest. marked_leg mark leg ∷ rest) (next marks legs i m d (omega (arith, below)) (omega (arith, within)))

past : (marks : List Bool) (legs : List Leg) (i : ℕ) → length legs ≤ i → marked (take i marks) legs ≡ marked (take (suc i) marks) legs
unfolding marked
past [] legs zero over = refl
past [] legs (suc i) over = refl
past (mark ∷ marks) [] zero over = refl
past (mark ∷ marks) [] (suc i) over = refl
past (mark ∷ marks) (leg ∷ legs) zero over = absurd (omega (arith, over))
past (mark ∷ marks) (leg ∷ legs) (suc i) over = ap (λ rest. marked_leg mark leg ∷ rest) (past marks legs i (omega (arith, over)))

pub marked_step : (marks : List Bool) (legs now : List Leg) (i : ℕ) (m : Bool) (d leg : Leg) → i < length marks → i < length now → now ≡ marked (take i marks) legs
    → leg ≡ marked_leg (get_or marks i m) (get_or now i d) → set now i leg ≡ marked (take (i + 1) marks) legs
marked_step marks legs now i m d leg below within e made =
    let long = marked_length (take i marks) legs in let same = ap length e in
    ap (set now i) made ∙ rw (e, add-one) (next marks legs i m d below (omega (arith, within, long, same)))

pub marked_past : (marks : List Bool) (legs now : List Leg) (i : ℕ) → length now ≤ i → now ≡ marked (take i marks) legs → now ≡ marked (take (i + 1) marks) legs
marked_past marks legs now i over e =
    let long = marked_length (take i marks) legs in let same = ap length e in
    e ∙ rw add-one (past marks legs i (omega (arith, over, long, same)))
