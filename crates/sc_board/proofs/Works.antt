-- What a worker has done, turn by turn.
use Rattle.std.proofs.Common.{◌≡◌, ℕ, ◌+◌, IfOk, List, [], ◌∷◌, ◌++◌, cond, Ok, Err, Result, Vec, Global, refl, sym, ap, ◌∙◌, subst, arith, append_assoc, append-nil, eq-eqb}
use Rattle.std.proofs.lemmas.List.{map-append}
use Rattle.sc_value.specs.declared.no_memory.NoMemory.{NoMemory}
use Rattle.sc_servlets.specs.declared.lease.Lease.{Lease}
use Rattle.sc_servlets.specs.declared.done.Done.{Done}
use Rattle.sc_board.specs.declared.board.Board.{Board}
use Rattle.sc_board.specs.declared.job.Job.TheVariants as jobs
use Rattle.sc_board.specs.declared.jobs.JobView.{JobView}
use Rattle.sc_board.specs.declared.pass.BoardPass.{BoardPass}
use Rattle.sc_board.specs.declared.results.ResultView.{ResultView}
use Rattle.sc_board.specs.Boards.{HasWorked, HaveWorked, IsOf, jobs_of, leases_of, results_of}
use Rattle.sc_board.specs.JobRules.{Took, after_take, without}
use Rattle.sc_board.specs.ResultRules.{after_bring}
use Rattle.sc_board.proofs.Totals.{all_more, all_snoc}

-- a lease that was taken, and let go of as its result was brought
jobs_turn : (v m taken w : JobView) (made : List Done) (lease : Lease) (done : Done) → m ≡ record v { taken = v.taken ++ leases_of made; stops = v.stops + 0 } → taken ≡ after_take m (jobs.Turn lease)
    → w ≡ record taken { hand = without lease.number taken.hand } → done.lease ≡ lease → w ≡ record v { taken = v.taken ++ leases_of (made ++ done ∷ []); stops = v.stops + 0 }
jobs_turn v m taken w made lease done m_is taken_is w_is same =
    w_is ∙ ap (λ (u : JobView). record u { hand = without lease.number u.hand }) taken_is
    ∙ ap (λ b. record m { taken = m.taken ++ lease ∷ []; hand = cond b m.hand (lease ∷ without lease.number m.hand) }) (eq-eqb lease.number lease.number refl)
    ∙ ap (λ (u : JobView). record u { taken = u.taken ++ lease ∷ [] }) m_is
    ∙ ap (λ (l : List Lease). record v { taken = l; stops = v.stops + 0 })
    (append_assoc v.taken (leases_of made) (lease ∷ []) ∙ ap (λ (l : List Lease). v.taken ++ l) (ap (λ (l : Lease). leases_of made ++ l ∷ []) (sym same) ∙ sym (map-append (λ (d : Done). d.lease) made (done ∷ []))))

results_turn : (r m w : ResultView) (made : List Done) (done : Done) → m ≡ record r { brought = r.brought ++ made } → w ≡ after_bring m done → w ≡ record r { brought = r.brought ++ (made ++ done ∷ []) }
results_turn r m w made done m_is w_is = w_is ∙ ap (λ (u : ResultView). after_bring u done) m_is ∙ ap (λ (l : List Done). record r { brought = l }) (append_assoc r.brought made (done ∷ []))

pub begins_work : (board : Board) (P : Done → Type 0) (pass : BoardPass) → IsOf board pass → HasWorked board P 0 pass pass
begins_work board P pass is_of = record {
  is_of = is_of;
  made = [];
  are_made = tt;
  jobs_are = let v = jobs_of pass in ap (λ (l : List Lease). record v { taken = l }) (sym (append-nil v.taken)) ∙ ap (λ (n : ℕ). record v { taken = v.taken ++ []; stops = n }) (omega arith);
  results_are = let r = results_of pass in ap (λ (l : List Done). record r { brought = l }) (sym (append-nil r.brought));
}

pub turn_made : (board : Board) (Q : Lease → Done → Type 0) (old mid taken new : BoardPass) (lease : Lease) → HasWorked board (λ done. Q done.lease done) 0 old mid
    → Took (jobs_of mid) (jobs.Turn lease) (jobs_of taken) → results_of taken ≡ results_of mid → IsOf board new
    → jobs_of new ≡ record (jobs_of taken) { hand = without lease.number (jobs_of taken).hand }
    → ((done : Done) × (done.lease ≡ lease) × Q lease done × (results_of new ≡ after_bring (results_of taken) done))
    → HasWorked board (λ done. Q done.lease done) 0 old new
turn_made board Q old mid taken new lease has took same is_of jobs_are made = record {
  is_of = is_of;
  made = has.made ++ made.0 ∷ [];
  are_made = all_snoc (λ (done : Done). Q done.lease done) has.made made.0 has.are_made (subst (λ (l : Lease). Q l made.0) (sym made.1) made.2);
  jobs_are = jobs_turn (jobs_of old) (jobs_of mid) (jobs_of taken) (jobs_of new) has.made lease made.0 has.jobs_are took.0 jobs_are made.1;
  results_are = results_turn (results_of old) (results_of mid) (results_of new) has.made made.0 has.results_are (made.3 ∙ ap (λ (r : ResultView). after_bring r made.0) same);
}

pub work_ends : (board : Board) (P : Done → Type 0) (old mid new : BoardPass) → HasWorked board P 0 old mid → Took (jobs_of mid) jobs.Stop (jobs_of new) → results_of new ≡ results_of mid → IsOf board new
    → HasWorked board P 1 old new
work_ends board P old mid new has took same is_of = record {
  is_of = is_of;
  made = has.made;
  are_made = has.are_made;
  jobs_are = let v = jobs_of old in took.0 ∙ ap (λ (u : JobView). after_take u jobs.Stop) has.jobs_are ∙ ap (λ (n : ℕ). record v { taken = v.taken ++ leases_of has.made; stops = n }) (omega arith);
  results_are = same ∙ has.results_are;
}

pub worked_more : (board : Board) (P Q : Done → Type 0) (old new : BoardPass) → ((done : Done) → P done → Q done) → HasWorked board P 1 old new → HasWorked board Q 1 old new
worked_more board P Q old new more has = record { is_of = has.is_of; made = has.made; are_made = all_more P Q has.made more has.are_made; jobs_are = has.jobs_are; results_are = has.results_are }

pub all_worked_more : (board : Board) (P Q : Done → Type 0) (passes ended : List BoardPass) → ((done : Done) → P done → Q done) → HaveWorked board P passes ended → HaveWorked board Q passes ended
all_worked_more board P Q passes ended more have = record { as_many = have.as_many; each = λ i old new at there. worked_more board P Q old new more (have.each i old new at there) }

pub ok_worked_more : (board : Board) (P Q : Done → Type 0) (passes : List BoardPass) (r : Result (Vec BoardPass Global) NoMemory) → ((done : Done) → P done → Q done) → IfOk r (λ v. HaveWorked board P passes v.items)
    → IfOk r (λ v. HaveWorked board Q passes v.items)
ok_worked_more board P Q passes (Ok v) more have = all_worked_more board P Q passes v.items more have
ok_worked_more board P Q passes (Err e) more have = tt
