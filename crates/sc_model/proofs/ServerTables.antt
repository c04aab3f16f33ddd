-- The rows of the tables of server transactions that many states share.
use Rattle.std.proofs.Common.{◌≡◌, ℕ, Bool, true, false, ◌&&◌, Option, None, Some, refl, sym, ◌∙◌}
use Rattle.sc_parts.specs.declared.transactions.TxnState.{TxnState}
use Rattle.sc_parts.specs.declared.transactions.TxnState.TheVariants.{Calling, Trying, Proceeding, Completed, Accepted, Terminated}
use Rattle.sc_parts.specs.declared.transactions.ServerItem.{ServerItem}
use Rattle.sc_parts.specs.declared.transactions.ServerItem.TheVariants.{RequestAgain, AckCame, AnswerGiven, MomentCame}
use Rattle.sc_model.specs.Transactions.{is_reached, is_undecided}
use Rattle.sc_model.specs.ServerTransactions.{is_answer, sends_in, absorbs_in}
use Rattle.sc_model.specs.TransactionTables.{next_undecided, undecided_due, ends, next_server_state, next_server_due}

-- ## Where no final answer was given

pub next_state-undecided : (invite : Bool) (state : TxnState) (due : Option ℕ) (item : ServerItem) → is_undecided state ≡ true → next_server_state invite state due item ≡ next_undecided invite state item
next_state-undecided invite Calling due item e = refl
next_state-undecided invite Trying due item e = refl
next_state-undecided invite Proceeding due item e = refl
next_state-undecided invite Completed due item e = cc
next_state-undecided invite Accepted due item e = cc
next_state-undecided invite Terminated due item e = cc

pub next_due-undecided : (invite : Bool) (state : TxnState) (due : Option ℕ) (item : ServerItem) → is_undecided state ≡ true → next_server_due invite state due item ≡ undecided_due invite item
next_due-undecided invite Calling due item e = refl
next_due-undecided invite Trying due item e = refl
next_due-undecided invite Proceeding due item e = refl
next_due-undecided invite Completed due item e = cc
next_due-undecided invite Accepted due item e = cc
next_due-undecided invite Terminated due item e = cc

pub sends_in-undecided : (invite : Bool) (state : TxnState) (code : ℕ) → is_undecided state ≡ true → sends_in invite state code ≡ true
unfolding sends_in
sends_in-undecided invite Calling code e = refl
sends_in-undecided invite Trying code e = refl
sends_in-undecided invite Proceeding code e = refl
sends_in-undecided invite Completed code e = cc
sends_in-undecided invite Accepted code e = cc
sends_in-undecided invite Terminated code e = cc

-- ## What ends a transaction, and what changes nothing

-- an answer and the request that comes again end nothing
pub ends-answer : (state : TxnState) (due : Option ℕ) (code moment : ℕ) → ends state due (AnswerGiven code moment) ≡ false
ends-answer Calling due code moment = refl
ends-answer Trying due code moment = refl
ends-answer Proceeding due code moment = refl
ends-answer Completed due code moment = refl
ends-answer Accepted due code moment = refl
ends-answer Terminated due code moment = refl

pub ends-again : (state : TxnState) (due : Option ℕ) → ends state due RequestAgain ≡ false
ends-again Calling due = refl
ends-again Trying due = refl
ends-again Proceeding due = refl
ends-again Completed due = refl
ends-again Accepted due = refl
ends-again Terminated due = refl

-- an ACK ends exactly where it is absorbed
pub ends-ack : (state : TxnState) (due : Option ℕ) → ends state due AckCame ≡ absorbs_in state
unfolding absorbs_in
ends-ack Calling due = refl
ends-ack Trying due = refl
ends-ack Proceeding due = refl
ends-ack Completed due = refl
ends-ack Accepted due = refl
ends-ack Terminated due = refl

not_answered : (invite : Bool) (state : TxnState) (item : ServerItem) → is_answer item ≡ false → next_undecided invite state item ≡ state
unfolding is_answer
not_answered invite state RequestAgain e = refl
not_answered invite state AckCame e = refl
not_answered invite state (AnswerGiven code moment) e = cc
not_answered invite state (MomentCame moment) e = refl

no_due : (invite : Bool) (item : ServerItem) → is_answer item ≡ false → undecided_due invite item ≡ None
unfolding is_answer
no_due invite RequestAgain e = refl
no_due invite AckCame e = refl
no_due invite (AnswerGiven code moment) e = cc
no_due invite (MomentCame moment) e = refl

never_reached : (due : Option ℕ) (moment : ℕ) → due ≡ None → is_reached due moment ≡ true → ⊥
unfolding is_reached
never_reached None moment none e = cc
never_reached (Some due) moment none e = cc

pub state_kept : (invite : Bool) (state : TxnState) (due : Option ℕ) (item : ServerItem) → ends state due item ≡ false → (is_undecided state && is_answer item) ≡ false → next_server_state invite state due item ≡ state
state_kept invite Completed due item e answers = rw e refl
state_kept invite Accepted due item e answers = rw e refl
state_kept invite Terminated due item e answers = refl
state_kept invite Calling due item e answers = not_answered invite Calling item answers
state_kept invite Trying due item e answers = not_answered invite Trying item answers
state_kept invite Proceeding due item e answers = not_answered invite Proceeding item answers

pub due_kept : (invite : Bool) (state : TxnState) (due : Option ℕ) (item : ServerItem) → (is_undecided state ≡ true → due ≡ None) → ends state due item ≡ false → (is_undecided state && is_answer item) ≡ false → next_server_due invite state due item ≡ due
due_kept invite Completed due item none e answers = rw e refl
due_kept invite Accepted due item none e answers = rw e refl
due_kept invite Terminated due item none e answers = refl
due_kept invite Calling due item none e answers = no_due invite item answers ∙ sym (none refl)
due_kept invite Trying due item none e answers = no_due invite item answers ∙ sym (none refl)
due_kept invite Proceeding due item none e answers = no_due invite item answers ∙ sym (none refl)

pub state_ended : (invite : Bool) (state : TxnState) (due : Option ℕ) (item : ServerItem) → ends state due item ≡ true → next_server_state invite state due item ≡ Terminated
state_ended invite Calling due item e = cc
state_ended invite Trying due item e = cc
state_ended invite Proceeding due item e = cc
state_ended invite Completed due item e = rw e refl
state_ended invite Accepted due item e = rw e refl
state_ended invite Terminated due item e = cc

pub due_ended : (invite : Bool) (state : TxnState) (due : Option ℕ) (item : ServerItem) → ends state due item ≡ true → next_server_due invite state due item ≡ None
due_ended invite Calling due item e = cc
due_ended invite Trying due item e = cc
due_ended invite Proceeding due item e = cc
due_ended invite Completed due item e = rw e refl
due_ended invite Accepted due item e = rw e refl
due_ended invite Terminated due item e = cc

pub early_end : (state : TxnState) (due : Option ℕ) (moment : ℕ) → is_reached due moment ≡ false → ends state due (MomentCame moment) ≡ false
early_end Calling due moment e = refl
early_end Trying due moment e = refl
early_end Proceeding due moment e = refl
early_end Completed due moment e = e
early_end Accepted due moment e = e
early_end Terminated due moment e = refl

-- the timer runs in Completed and Accepted alone
pub reached_end : (state : TxnState) (due : Option ℕ) (moment : ℕ) → (is_undecided state ≡ true → due ≡ None) → (state ≡ Terminated → due ≡ None) → is_reached due moment ≡ true → ends state due (MomentCame moment) ≡ true
reached_end Calling due moment none over e = absurd (never_reached due moment (none refl) e)
reached_end Trying due moment none over e = absurd (never_reached due moment (none refl) e)
reached_end Proceeding due moment none over e = absurd (never_reached due moment (none refl) e)
reached_end Completed due moment none over e = e
reached_end Accepted due moment none over e = e
reached_end Terminated due moment none over e = absurd (never_reached due moment (over refl) e)
