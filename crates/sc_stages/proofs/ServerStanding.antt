-- What has become of a server transaction, item by item.
use Rattle.std.proofs.Common.{◌≡◌, ℕ, ◌-◌, ◌<◌, ◌≤◌, List, [], ◌∷◌, Bool, true, false, ◌||◌, Option, None, Some, if◌then◌else◌, is_some, refl, sym, ap, ◌∙◌, length, drop, get_or}
use Rattle.std.specs.List.{list_any}
use Rattle.sc_parts.specs.declared.transactions.TxnState.{TxnState}
use Rattle.sc_parts.specs.declared.transactions.TxnState.TheVariants.{Calling, Trying, Proceeding, Completed, Accepted, Terminated}
use Rattle.sc_parts.specs.declared.transactions.ServerItem.{ServerItem}
use Rattle.sc_parts.specs.declared.transactions.ServerItem.TheVariants.{RequestAgain, AckCame, AnswerGiven, MomentCame}
use Rattle.sc_model.specs.Transactions.{Found, found_with, first_in_time}
use Rattle.sc_model.specs.ServerTransactions.{is_answer, final_answer, is_final_answer}
use Rattle.sc_model.specs.TransactionTables.{undecided_due, ends, next_server_due}
use Rattle.sc_model.proofs.ServerTransactions.{server_state-next, server_due-next}
use Rattle.sc_model.proofs.ServerTransactionFacts.{server_state-none, server_due-none, has_answer-none, has_answer-next}
use Rattle.sc_stages.specs.Stages.{due_since, undecided_begun, next_server_begun, server_next, ServerStands}
use Rattle.sc_stages.specs.declared.servers.ServerStage.{ServerStage}
use Rattle.sc_stages.proofs.Places.{drop_before}

due_of : (b : Bool) (x y : Option ℕ) → due_since (if b then x else y) ≡ (if b then due_since x else due_since y)
due_of true x y = refl
due_of false x y = refl

undecided-due : (invite : Bool) (item : ServerItem) → due_since (undecided_begun invite item) ≡ undecided_due invite item
undecided-due invite RequestAgain = refl
undecided-due invite AckCame = refl
undecided-due invite (AnswerGiven code moment) = simp due_of
undecided-due invite (MomentCame moment) = refl

begun-due : (invite : Bool) (state : TxnState) (begun : Option ℕ) (item : ServerItem) → due_since (next_server_begun invite state begun item) ≡ next_server_due invite state (due_since begun) item
begun-due invite Calling begun item = undecided-due invite item
begun-due invite Trying begun item = undecided-due invite item
begun-due invite Proceeding begun item = undecided-due invite item
begun-due invite Completed begun item = due_of (ends Completed (due_since begun) item) None begun
begun-due invite Accepted begun item = due_of (ends Accepted (due_since begun) item) None begun
begun-due invite Terminated begun item = refl

-- one item more
pub server_more : (stage : ServerStage) (invite : Bool) (passed : List ServerItem) (item : ServerItem) → ServerStands stage invite passed → ServerStands (server_next invite stage item) invite (item ∷ passed)
unfolding server_next
server_more stage invite passed item stands = record {
  state_is = rw (stands.state_is, stands.due_is) (sym (server_state-next invite passed item));
  due_is = rw (begun-due, stands.state_is, stands.due_is) (sym (server_due-next invite passed item));
  answered_is = ap (λ b. is_answer item || b) stands.answered_is ∙ sym (has_answer-next passed item);
}

-- before any item
pub server_begun : (invite : Bool) (state : TxnState) → state ≡ (if invite then Proceeding else Trying) → ServerStands (record { state = state; begun = None; answered = false }) invite []
server_begun invite state is = record {
  state_is = is ∙ sym (server_state-none invite);
  due_is = sym (server_due-none invite);
  answered_is = sym has_answer-none;
}

-- the next item, from the oldest on
pub server_taken : (stage next : ServerStage) (invite : Bool) (passed : List ServerItem) (before : ℕ) (d : ServerItem) → 0 < before → before ≤ length passed
    → next ≡ server_next invite stage (get_or passed (before - 1) d) → ServerStands stage invite (drop before passed) → ServerStands next invite (drop (before - 1) passed)
server_taken stage next invite passed before d some within made stands =
    rw (made, drop_before passed before d some within) (server_more stage invite (drop before passed) (get_or passed (before - 1) d) stands)

-- ## A final answer

found-with : {A : Type 0} (item : A) (passes : Bool) (found : Option (Found A)) → is_some (found_with item passes found) ≡ (passes || is_some found)
unfolding found_with
found-with item true None = refl
found-with item false None = refl
found-with item true (Some found) = refl
found-with item false (Some found) = refl

alone : (item : ServerItem) (passed : List ServerItem) → is_final_answer passed item ≡ is_final_answer [] item
unfolding is_final_answer
alone RequestAgain passed = refl
alone AckCame passed = refl
alone (AnswerGiven code moment) passed = refl
alone (MomentCame moment) passed = refl

final-found : (passed : List ServerItem) → list_any (is_final_answer []) passed ≡ is_some (first_in_time is_final_answer passed)
unfolding first_in_time
final-found [] = refl
final-found (item ∷ passed) = rw (found-with, ← final-found passed, alone item passed) refl

-- one was given where one is among the items
pub final_among : (passed : List ServerItem) → list_any (is_final_answer []) passed ≡ is_some (final_answer passed)
unfolding final_answer
final_among passed = final-found passed
