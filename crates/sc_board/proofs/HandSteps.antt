-- What a pass has in hand, over the turns that its thread makes.
use Rattle.std.proofs.Common.{◌≡◌, ℕ, ◌+◌, Bool, true, false, cond, List, [], ◌∷◌, ◌++◌, Some, sym, ap, ◌∙◌, subst, arith, nat_eq}
use Rattle.std.proofs.lemmas.Option.{none-some, same_Some}
use Rattle.std.specs.List.{sum_by}
use Rattle.std.proofs.lemmas.List.Sums.{sum_by-cons, sum_by_push}
use Rattle.sc_servlets.specs.declared.lease.Lease.{Lease}
use Rattle.sc_servlets.specs.declared.done.Done.{Done}
use Rattle.sc_board.specs.declared.jobs.JobView.{JobView}
use Rattle.sc_board.specs.declared.results.ResultView.{ResultView}
use Rattle.sc_board.specs.JobRules.{in_hand, without}
use Rattle.sc_board.specs.ResultRules.{after_bring}
use Rattle.sc_board.specs.Ties.{AreAlike, IsMadeOf}

-- a lease that is let go of weighs what the hand loses
found : (h : Lease → ℕ) (b : Bool) (number : ℕ) (first : Lease) (older : List Lease) (lease : Lease) → (in_hand number older ≡ Some lease → sum_by h older ≡ h lease + sum_by h (without number older))
    → cond b (Some first) (in_hand number older) ≡ Some lease → sum_by h (first ∷ older) ≡ h lease + sum_by h (cond b older (first ∷ without number older))
found h true number first older lease later there = sum_by-cons h first older ∙ ap (λ (l : Lease). h l + sum_by h older) (same_Some first lease there)
found h false number first older lease later there =
    let a = sum_by-cons h first older in
    let b = later there in
    let c = sum_by-cons h first (without number older) in
    omega (arith, a, b, c)

let_go : (h : Lease → ℕ) (number : ℕ) (hand : List Lease) (lease : Lease) → in_hand number hand ≡ Some lease → sum_by h hand ≡ h lease + sum_by h (without number hand)
let_go h number [] lease there = absurd (none-some lease there)
let_go h number (first ∷ older) lease there = found h (nat_eq first.number number) number first older lease (let_go h number older lease) there

-- the result of a lease in hand is brought
pub tied_on : (v : JobView) (r : ResultView) (done : Done) → in_hand done.lease.number v.hand ≡ Some done.lease → IsMadeOf v.taken r.brought v.hand → IsMadeOf v.taken (r.brought ++ done ∷ []) (without done.lease.number v.hand)
tied_on v r done there tied = λ h.
    let a = tied h in
    let b = let_go h done.lease.number v.hand done.lease there in
    let c = sum_by_push (λ (other : Done). h other.lease) r.brought done in
    omega (arith, a, b, c)

pub alike_brought : (v w : JobView) (r s : ResultView) (done : Done) → w ≡ record v { hand = without done.lease.number v.hand } → s ≡ after_bring r done → AreAlike v r → AreAlike w s
alike_brought v w r s done w_is s_is alike =
    subst (λ (x : JobView). AreAlike x s) (sym w_is) (subst (λ (y : ResultView). AreAlike (record v { hand = without done.lease.number v.hand }) y) (sym s_is)
    (record { parts_are = alike.parts_are; some_part = alike.some_part; first_is = alike.first_is }))

pub tied_brought : (v w : JobView) (r s : ResultView) (done : Done) → w ≡ record v { hand = without done.lease.number v.hand } → s ≡ after_bring r done → in_hand done.lease.number v.hand ≡ Some done.lease
    → IsMadeOf v.taken r.brought v.hand → IsMadeOf w.taken s.brought w.hand
tied_brought v w r s done w_is s_is there tied =
    subst (λ (x : JobView). IsMadeOf x.taken s.brought x.hand) (sym w_is) (subst (λ (y : ResultView). IsMadeOf v.taken y.brought (without done.lease.number v.hand)) (sym s_is) (tied_on v r done there tied))
