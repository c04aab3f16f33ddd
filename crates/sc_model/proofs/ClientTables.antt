-- The rows of the tables of client transactions that many states share.
use Rattle.std.proofs.Common.{◌≡◌, ℕ, ◌+◌, ◌==◌, Bool, true, false, Option, Some, if◌then◌else◌, refl, arith}
use Rattle.std.proofs.Math.Bool.{and-false}
use Rattle.std.proofs.lemmas.Bool.Decides.{nat_tests}
use Rattle.sc_parts.specs.declared.transactions.TxnState.{TxnState}
use Rattle.sc_parts.specs.declared.transactions.TxnState.TheVariants.{Calling, Trying, Proceeding, Completed, Accepted, Terminated}
use Rattle.sc_parts.specs.declared.transactions.ClientItem.{ClientItem}
use Rattle.sc_parts.specs.declared.transactions.ClientItem.TheVariants.{CancelAsked, MomentCame}
use Rattle.sc_model.specs.SessionStates.{is_final}
use Rattle.sc_model.specs.Transactions.{TIMEOUT, is_failure, is_reached, is_undecided, reaches, NOTHING, told_waiting, told_accepted, wants_ack}
use Rattle.sc_model.specs.TransactionTables.{next_waiting, next_state, sends_cancel, next_waiting_due, next_due, waiting_out, output}

-- ## Where nothing has decided the transaction

pub next_state-undecided : (invite : Bool) (state : TxnState) (due : Option ℕ) (item : ClientItem) → is_undecided state ≡ true → next_state invite state due item ≡ next_waiting invite state due item
next_state-undecided invite Calling due item e = refl
next_state-undecided invite Trying due item e = refl
next_state-undecided invite Proceeding due item e = refl
next_state-undecided invite Completed due item e = cc
next_state-undecided invite Accepted due item e = cc
next_state-undecided invite Terminated due item e = cc

pub next_due-undecided : (invite : Bool) (state : TxnState) (due : Option ℕ) (asked : Bool) (item : ClientItem) → is_undecided state ≡ true → next_due invite state due asked item ≡ next_waiting_due invite state due asked item
next_due-undecided invite Calling due asked item e = refl
next_due-undecided invite Trying due asked item e = refl
next_due-undecided invite Proceeding due asked item e = refl
next_due-undecided invite Completed due asked item e = cc
next_due-undecided invite Accepted due asked item e = cc
next_due-undecided invite Terminated due asked item e = cc

pub output-undecided : (invite : Bool) (state : TxnState) (due : Option ℕ) (asked : Bool) (item : ClientItem) → is_undecided state ≡ true → output invite state due asked item ≡ waiting_out invite state due asked item
output-undecided invite Calling due asked item e = refl
output-undecided invite Trying due asked item e = refl
output-undecided invite Proceeding due asked item e = refl
output-undecided invite Completed due asked item e = cc
output-undecided invite Accepted due asked item e = cc
output-undecided invite Terminated due asked item e = cc

pub no_failure : (code : ℕ) → is_final code ≡ false → is_failure code ≡ false
no_failure code e = grind (arith, nat_tests)

pub not_hundred : (code : ℕ) → is_final code ≡ true → (code == 100) ≡ false
not_hundred code e = grind (arith, nat_tests)

-- ## A CANCEL is asked for

pub state_kept : (invite : Bool) (moment : ℕ) (state : TxnState) (due : Option ℕ) → next_state invite state due (CancelAsked moment) ≡ state
unfolding reaches
state_kept invite moment Calling due = refl
state_kept invite moment Trying due = refl
state_kept invite moment Proceeding due = refl
state_kept invite moment Completed due = refl
state_kept invite moment Accepted due = refl
state_kept invite moment Terminated due = refl

pub due_moved : (invite : Bool) (moment : ℕ) (state : TxnState) (due : Option ℕ) (asked : Bool) → next_due invite state due asked (CancelAsked moment) ≡ (if sends_cancel invite state asked (CancelAsked moment) then Some (moment + TIMEOUT) else due)
unfolding reaches
due_moved invite moment Calling due asked = refl
due_moved invite moment Trying due asked = refl
due_moved invite moment Proceeding due asked = refl
due_moved invite moment Completed due asked = rw (and-false invite) refl
due_moved invite moment Accepted due asked = rw (and-false invite) refl
due_moved invite moment Terminated due asked = rw (and-false invite) refl

pub cancel_out : (invite : Bool) (moment : ℕ) (state : TxnState) (due : Option ℕ) (asked : Bool) → output invite state due asked (CancelAsked moment) ≡ record NOTHING { cancel = sends_cancel invite state asked (CancelAsked moment) }
unfolding told_waiting told_accepted wants_ack
cancel_out invite moment Calling due asked = rw (and-false invite) refl
cancel_out invite moment Trying due asked = rw (and-false invite) refl
cancel_out invite moment Proceeding due asked = rw (and-false invite) refl
cancel_out invite moment Completed due asked = rw (and-false invite) refl
cancel_out invite moment Accepted due asked = rw (and-false invite) refl
cancel_out invite moment Terminated due asked = rw (and-false invite) refl

-- ## A moment at which the timer isn't due

pub state_early : (invite asked : Bool) (moment : ℕ) (state : TxnState) (due : Option ℕ) → is_reached due moment ≡ false → next_state invite state due (MomentCame moment) ≡ state
unfolding reaches
state_early invite asked moment Calling due e = rw e refl
state_early invite asked moment Trying due e = rw e refl
state_early invite asked moment Proceeding due e = rw e refl
state_early invite asked moment Completed due e = refl
state_early invite asked moment Accepted due e = rw e refl
state_early invite asked moment Terminated due e = refl

pub due_early : (invite asked : Bool) (moment : ℕ) (state : TxnState) (due : Option ℕ) → is_reached due moment ≡ false → next_due invite state due asked (MomentCame moment) ≡ due
unfolding reaches
due_early invite asked moment Calling due e = rw e refl
due_early invite asked moment Trying due e = rw e refl
due_early invite asked moment Proceeding due e = rw e refl
due_early invite asked moment Completed due e = refl
due_early invite asked moment Accepted due e = rw e refl
due_early invite asked moment Terminated due e = refl

pub nothing_out : (invite asked : Bool) (moment : ℕ) (state : TxnState) (due : Option ℕ) → is_reached due moment ≡ false → output invite state due asked (MomentCame moment) ≡ NOTHING
unfolding told_waiting told_accepted wants_ack
nothing_out invite asked moment Calling due e = rw (e, and-false invite) refl
nothing_out invite asked moment Trying due e = rw (e, and-false invite) refl
nothing_out invite asked moment Proceeding due e = rw (e, and-false invite) refl
nothing_out invite asked moment Completed due e = refl
nothing_out invite asked moment Accepted due e = refl
nothing_out invite asked moment Terminated due e = refl

-- ## Where something has decided it, another item than the moment of timer M

pub state_stays : (invite asked : Bool) (item : ClientItem) (state : TxnState) (due : Option ℕ) → is_undecided state ≡ false → reaches due item ≡ false → next_state invite state due item ≡ state
state_stays invite asked item Calling due e f = cc
state_stays invite asked item Trying due e f = cc
state_stays invite asked item Proceeding due e f = cc
state_stays invite asked item Completed due e f = refl
state_stays invite asked item Accepted due e f = rw f refl
state_stays invite asked item Terminated due e f = refl

pub due_stays : (invite asked : Bool) (item : ClientItem) (state : TxnState) (due : Option ℕ) → is_undecided state ≡ false → reaches due item ≡ false → next_due invite state due asked item ≡ due
due_stays invite asked item Calling due e f = cc
due_stays invite asked item Trying due e f = cc
due_stays invite asked item Proceeding due e f = cc
due_stays invite asked item Completed due e f = refl
due_stays invite asked item Accepted due e f = rw f refl
due_stays invite asked item Terminated due e f = refl
