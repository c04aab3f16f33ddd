-- The tables of server transactions (RFC 3261 figures 7 and 8, RFC 6026 section 7.1): what the definitions'
-- search of the whole list comes to with one item more.
use Rattle.std.proofs.Common.{◌≡◌, ℕ, ◌+◌, List, ◌∷◌, Bool, true, false, not, ◌&&◌, ◌||◌, Option, None, Some, is_some, nat_le, if◌then◌else◌, refl, ◌∙◌}
use Rattle.std.specs.List.{list_any}
use Rattle.sc_parts.specs.declared.transactions.TxnState.TheVariants.{Proceeding, Completed, Accepted, Terminated}
use Rattle.sc_parts.specs.declared.transactions.ServerItem.{ServerItem}
use Rattle.sc_parts.specs.declared.transactions.ServerItem.TheVariants.{RequestAgain, AckCame, AnswerGiven, MomentCame}
use Rattle.sc_model.specs.SessionStates.{is_final}
use Rattle.sc_model.specs.Transactions.{TIMEOUT, is_success, is_reached, Found, found_with, first_in_time}
use Rattle.sc_model.specs.ServerTransactions.{is_answer, has_answer, is_final_answer, final_answer, answers_success, final_due, ends_decided, final_timer, state_at, server_state, due_at, server_due}
use Rattle.sc_model.specs.TransactionTables.{answered_state, answered_due, next_undecided, undecided_due, ends, next_server_state, next_server_due}

-- ## One item more, where a final answer was given

timer_over : (invite over ends : Bool) (due : ℕ) → (if invite && not (ends || over) then Some due else None) ≡ (if ends then None else (if invite && not over then Some due else None))
timer_over true over true due = refl
timer_over false over true due = refl
timer_over invite over false due = refl

final_timer-next : (invite : Bool) (decided : Found ServerItem) (item : ServerItem) → final_timer invite (record { item = decided.item; after = item ∷ decided.after }) ≡ (if ends_decided decided.item item then None else final_timer invite decided)
unfolding final_timer
final_timer-next invite decided item = timer_over invite (list_any (ends_decided decided.item) decided.after) (ends_decided decided.item item) (final_due decided.item)

-- a timer that runs is the final answer's own
running : (invite over : Bool) (due last : ℕ) → (if invite && not over then Some due else None) ≡ Some last → due ≡ last
running true false due last e = cc
running true true due last e = cc
running false over due last e = cc

final_timer-due : (invite : Bool) (decided : Found ServerItem) (due : ℕ) → final_timer invite decided ≡ Some due → final_due decided.item ≡ due
unfolding final_timer
final_timer-due invite decided due e = running invite (list_any (ends_decided decided.item) decided.after) (final_due decided.item) due e

-- the answer ends by the same items as the state that it led to
same_end : (decided : ServerItem) (due : ℕ) (item : ServerItem) → final_due decided ≡ due → ends_decided decided item ≡ ends (if answers_success decided then Accepted else Completed) (Some due) item
unfolding ends_decided is_reached
same_end decided due RequestAgain e = elim (answers_success decided) as (λ b. false ≡ ends (if b then Accepted else Completed) (Some due) RequestAgain) [ true ↦ refl | false ↦ refl ]
same_end decided due AckCame e = elim (answers_success decided) as (λ b. not b ≡ ends (if b then Accepted else Completed) (Some due) AckCame) [ true ↦ refl | false ↦ refl ]
same_end decided due (AnswerGiven code moment) e = elim (answers_success decided) as (λ b. false ≡ ends (if b then Accepted else Completed) (Some due) (AnswerGiven code moment)) [ true ↦ refl | false ↦ refl ]
same_end decided due (MomentCame moment) e = rw e (elim (answers_success decided) as (λ b. nat_le due moment ≡ ends (if b then Accepted else Completed) (Some due) (MomentCame moment)) [ true ↦ refl | false ↦ refl ])

later_state : (invite success : Bool) (due : Option ℕ) (ending : Bool) (item : ServerItem) → ((last : ℕ) → due ≡ Some last → ending ≡ ends (if success then Accepted else Completed) (Some last) item) → (if is_some (if ending then None else due) then (if success then Accepted else Completed) else Terminated) ≡ next_server_state invite (if is_some due then (if success then Accepted else Completed) else Terminated) due item
later_state invite success None ending item same = elim ending as (λ b. (if is_some (let none : Option ℕ = if b then None else None in none) then (if success then Accepted else Completed) else Terminated) ≡ Terminated) [ true ↦ refl | false ↦ refl ]
later_state invite true (Some due) ending item same = rw (same due refl) (elim (ends Accepted (Some due) item) as (λ b. (if is_some (if b then None else Some due) then Accepted else Terminated) ≡ (if b then Terminated else Accepted)) [ true ↦ refl | false ↦ refl ])
later_state invite false (Some due) ending item same = rw (same due refl) (elim (ends Completed (Some due) item) as (λ b. (if is_some (if b then None else Some due) then Completed else Terminated) ≡ (if b then Terminated else Completed)) [ true ↦ refl | false ↦ refl ])

later_due : (invite success : Bool) (due : Option ℕ) (ending : Bool) (item : ServerItem) → ((last : ℕ) → due ≡ Some last → ending ≡ ends (if success then Accepted else Completed) (Some last) item) → (if ending then None else due) ≡ next_server_due invite (if is_some due then (if success then Accepted else Completed) else Terminated) due item
later_due invite success None ending item same = elim ending as (λ b. (let none : Option ℕ = if b then None else None in none) ≡ None) [ true ↦ refl | false ↦ refl ]
later_due invite true (Some due) ending item same = rw (same due refl) refl
later_due invite false (Some due) ending item same = rw (same due refl) refl

ends_same : (invite : Bool) (decided : Found ServerItem) (item : ServerItem) (last : ℕ) → final_timer invite decided ≡ Some last → ends_decided decided.item item ≡ ends (if answers_success decided.item then Accepted else Completed) (Some last) item
ends_same invite decided item last e = same_end decided.item last item (final_timer-due invite decided last e)

-- ## The laws

-- the states in which no final answer was given, by what they are made of
same_state : (invite answered : Bool) (item : ServerItem) → next_undecided invite (state_at invite answered None) item ≡ next_server_state invite (state_at invite answered None) None item
unfolding state_at
same_state true answered item = refl
same_state false true item = refl
same_state false false item = refl

same_due : (invite answered : Bool) (item : ServerItem) → undecided_due invite item ≡ next_server_due invite (state_at invite answered None) None item
unfolding state_at
same_due true answered item = refl
same_due false true item = refl
same_due false false item = refl

first_state : (invite : Bool) (code moment : ℕ) → state_at invite true (found_with (AnswerGiven code moment) (is_final code) None) ≡ answered_state invite code
unfolding state_at found_with final_timer answers_success
first_state true code moment = elim (is_final code) as (λ final. state_at true true (found_with (AnswerGiven code moment) final None) ≡ (if final then (if is_success code then Accepted else Completed) else Proceeding)) [ true ↦ refl | false ↦ refl ]
first_state false code moment = elim (is_final code) as (λ final. state_at false true (found_with (AnswerGiven code moment) final None) ≡ (if final then Terminated else Proceeding)) [ true ↦ refl | false ↦ refl ]

first_due : (invite : Bool) (code moment : ℕ) → due_at invite (found_with (AnswerGiven code moment) (is_final code) None) ≡ answered_due invite code moment
unfolding due_at found_with final_timer final_due
first_due true code moment = elim (is_final code) as (λ final. due_at true (found_with (AnswerGiven code moment) final None) ≡ (if final && true then Some (moment + TIMEOUT) else None)) [ true ↦ refl | false ↦ refl ]
first_due false code moment = elim (is_final code) as (λ final. due_at false (found_with (AnswerGiven code moment) final None) ≡ (if final && false then Some (moment + TIMEOUT) else None)) [ true ↦ refl | false ↦ refl ]

state-undecided : (invite answered : Bool) (passed : List ServerItem) (item : ServerItem) → state_at invite (is_answer item || answered) (found_with item (is_final_answer passed item) None) ≡ next_undecided invite (state_at invite answered None) item
unfolding found_with is_answer is_final_answer
state-undecided invite answered passed RequestAgain = refl
state-undecided invite answered passed AckCame = refl
state-undecided invite answered passed (AnswerGiven code moment) = first_state invite code moment
state-undecided invite answered passed (MomentCame moment) = refl

due-undecided : (invite : Bool) (passed : List ServerItem) (item : ServerItem) → due_at invite (found_with item (is_final_answer passed item) None) ≡ undecided_due invite item
unfolding due_at found_with is_final_answer
due-undecided invite passed RequestAgain = refl
due-undecided invite passed AckCame = refl
due-undecided invite passed (AnswerGiven code moment) = first_due invite code moment
due-undecided invite passed (MomentCame moment) = refl

state-next : (invite : Bool) (passed : List ServerItem) (item : ServerItem) (decided : Option (Found ServerItem)) → state_at invite (is_answer item || has_answer passed) (found_with item (is_final_answer passed item) decided) ≡ next_server_state invite (state_at invite (has_answer passed) decided) (due_at invite decided) item
unfolding state_at due_at found_with
state-next invite passed item None = state-undecided invite (has_answer passed) passed item ∙ same_state invite (has_answer passed) item
state-next invite passed item (Some decided) = rw (final_timer-next invite decided item) (later_state invite (answers_success decided.item) (final_timer invite decided) (ends_decided decided.item item) item (ends_same invite decided item))

due-next : (invite : Bool) (passed : List ServerItem) (item : ServerItem) (decided : Option (Found ServerItem)) → due_at invite (found_with item (is_final_answer passed item) decided) ≡ next_server_due invite (state_at invite (has_answer passed) decided) (due_at invite decided) item
unfolding state_at due_at found_with
due-next invite passed item None = due-undecided invite passed item ∙ same_due invite (has_answer passed) item
due-next invite passed item (Some decided) = rw (final_timer-next invite decided item) (later_due invite (answers_success decided.item) (final_timer invite decided) (ends_decided decided.item item) item (ends_same invite decided item))

pub server_state-next : (invite : Bool) (passed : List ServerItem) (item : ServerItem) → server_state invite (item ∷ passed) ≡ next_server_state invite (server_state invite passed) (server_due invite passed) item
unfolding server_state server_due final_answer first_in_time has_answer
server_state-next invite passed item = state-next invite passed item (final_answer passed)

pub server_due-next : (invite : Bool) (passed : List ServerItem) (item : ServerItem) → server_due invite (item ∷ passed) ≡ next_server_due invite (server_state invite passed) (server_due invite passed) item
unfolding server_state server_due final_answer first_in_time
server_due-next invite passed item = due-next invite passed item (final_answer passed)
