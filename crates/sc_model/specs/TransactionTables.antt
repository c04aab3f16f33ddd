-- The tables of the standards' figures (RFC 3261 figures 5 to 8, RFC 6026 figures 1 and 2), from
-- the state before an item and the timer that ran. They define nothing: that the search of the
-- whole list comes to them with each item more is proved in proofs/ClientTransactions and
-- proofs/ServerTransactions.
use Rattle.std.specs.Prelude.{ℕ, ◌+◌, Bool, true, false, not, ◌&&◌, Option, None, Some, if◌then◌else◌}
use Rattle.sc_parts.specs.declared.transactions.TxnState.{TxnState}
use Rattle.sc_parts.specs.declared.transactions.TxnState.TheVariants.{Calling, Trying, Proceeding, Completed, Accepted, Terminated}
use Rattle.sc_parts.specs.declared.transactions.ClientOut.{ClientOut}
use Rattle.sc_parts.specs.declared.transactions.ClientItem.{ClientItem}
use Rattle.sc_parts.specs.declared.transactions.ClientItem.TheVariants.{ResponseCame, CancelAsked, PlaceLost}
use Rattle.sc_parts.specs.declared.transactions.ClientItem.TheVariants as client
use Rattle.sc_parts.specs.declared.transactions.ServerItem.{ServerItem}
use Rattle.sc_parts.specs.declared.transactions.ServerItem.TheVariants.{RequestAgain, AckCame, AnswerGiven}
use Rattle.sc_parts.specs.declared.transactions.ServerItem.TheVariants as server
use Rattle.sc_model.specs.SessionStates.{is_final}
use Rattle.sc_model.specs.Transactions.{TIMEOUT, is_provisional, is_success, is_reached, reaches, NOTHING, told_waiting, told_accepted, wants_ack}

-- ## Clients

-- the state after a final response that decides the transaction
abbrev pub decided_state : Bool → ℕ → TxnState
decided_state invite code = if invite && is_success code then Accepted else Terminated

-- when timer M is due after a 2xx to an INVITE; after another final response no timer runs
abbrev pub decided_due : Bool → ℕ → ℕ → Option ℕ
decided_due invite code moment = if invite && is_success code then Some (moment + TIMEOUT) else None

-- the state after an item that comes where nothing has decided the transaction
abbrev pub next_waiting : Bool → TxnState → Option ℕ → ClientItem → TxnState
next_waiting invite state due (ResponseCame code moment) =
    if is_final code then decided_state invite code else Proceeding
next_waiting invite state due (CancelAsked moment) = state
next_waiting invite state due (client.MomentCame moment) =
    if is_reached due moment then Terminated else state
next_waiting invite state due PlaceLost = Terminated

-- the state after an item, from the state before it and the timer that ran
abbrev pub next_state : Bool → TxnState → Option ℕ → ClientItem → TxnState
next_state invite Calling due item = next_waiting invite Calling due item
next_state invite Trying due item = next_waiting invite Trying due item
next_state invite Proceeding due item = next_waiting invite Proceeding due item
next_state invite Completed due item = Completed
next_state invite Accepted due item = if reaches due item then Terminated else Accepted
next_state invite Terminated due item = Terminated

-- an INVITE's state before any response (RFC 3261 figure 5)
abbrev pub is_calling : TxnState → Bool
is_calling Calling = true
is_calling Trying = false
is_calling Proceeding = false
is_calling Completed = false
is_calling Accepted = false
is_calling Terminated = false

-- the state after a provisional response and before a final one
abbrev pub is_proceeding : TxnState → Bool
is_proceeding Calling = false
is_proceeding Trying = false
is_proceeding Proceeding = true
is_proceeding Completed = false
is_proceeding Accepted = false
is_proceeding Terminated = false

-- the item makes the CANCEL go, in this state and where it was asked for or wasn't: the first
-- provisional after an asking, or the first asking in Proceeding
abbrev pub sends_cancel : Bool → TxnState → Bool → ClientItem → Bool
sends_cancel invite state asked (ResponseCame code moment) =
    is_calling state && asked && is_provisional code
sends_cancel invite state asked (CancelAsked moment) = invite && is_proceeding state && not asked
sends_cancel invite state asked (client.MomentCame moment) = false
sends_cancel invite state asked PlaceLost = false

-- the timer after a provisional response: timer B runs no more, and the one after the CANCEL begins
abbrev pub provisional_due : TxnState → Option ℕ → Bool → ℕ → Option ℕ
provisional_due state due asked moment =
    if is_calling state then (if asked then Some (moment + TIMEOUT) else None) else due

-- the timer after an item that comes where nothing has decided the transaction
abbrev pub next_waiting_due : Bool → TxnState → Option ℕ → Bool → ClientItem → Option ℕ
next_waiting_due invite state due asked (ResponseCame code moment) =
    if is_final code then decided_due invite code moment else provisional_due state due asked moment
next_waiting_due invite state due asked (CancelAsked moment) =
    if sends_cancel invite state asked (CancelAsked moment) then Some (moment + TIMEOUT) else due
next_waiting_due invite state due asked (client.MomentCame moment) =
    if is_reached due moment then None else due
next_waiting_due invite state due asked PlaceLost = None

-- the timer after an item, from the state before it, the timer that ran and whether a CANCEL was
-- asked for
abbrev pub next_due : Bool → TxnState → Option ℕ → Bool → ClientItem → Option ℕ
next_due invite Calling due asked item = next_waiting_due invite Calling due asked item
next_due invite Trying due asked item = next_waiting_due invite Trying due asked item
next_due invite Proceeding due asked item = next_waiting_due invite Proceeding due asked item
next_due invite Completed due asked item = due
next_due invite Accepted due asked item = if reaches due item then None else due
next_due invite Terminated due asked item = due

-- what is done with an item where nothing has decided the transaction
abbrev pub waiting_out : Bool → TxnState → Option ℕ → Bool → ClientItem → ClientOut
waiting_out invite state due asked item = record {
  tell = told_waiting due item;
  ack = invite && wants_ack item;
  cancel = sends_cancel invite state asked item;
}

-- what it does with an item, from the same
abbrev pub output : Bool → TxnState → Option ℕ → Bool → ClientItem → ClientOut
output invite Calling due asked item = waiting_out invite Calling due asked item
output invite Trying due asked item = waiting_out invite Trying due asked item
output invite Proceeding due asked item = waiting_out invite Proceeding due asked item
output invite Completed due asked item = NOTHING
output invite Accepted due asked item = record NOTHING { tell = told_accepted item }
output invite Terminated due asked item = NOTHING

-- ## Servers

-- the state after an answer of this code, where no final one was given
abbrev pub answered_state : Bool → ℕ → TxnState
answered_state invite code =
    if is_final code
    then (if invite then (if is_success code then Accepted else Completed) else Terminated)
    else Proceeding

-- when timer L or H is due after a final answer to an INVITE; after others no timer runs
abbrev pub answered_due : Bool → ℕ → ℕ → Option ℕ
answered_due invite code moment = if is_final code && invite then Some (moment + TIMEOUT) else None

-- the state after an item where no final answer was given
abbrev pub next_undecided : Bool → TxnState → ServerItem → TxnState
next_undecided invite state RequestAgain = state
next_undecided invite state AckCame = state
next_undecided invite state (AnswerGiven code moment) = answered_state invite code
next_undecided invite state (server.MomentCame moment) = state

-- the timer after an item where no final answer was given
abbrev pub undecided_due : Bool → ServerItem → Option ℕ
undecided_due invite RequestAgain = None
undecided_due invite AckCame = None
undecided_due invite (AnswerGiven code moment) = answered_due invite code moment
undecided_due invite (server.MomentCame moment) = None

-- the item ends a transaction in this state, where this timer runs
abbrev pub ends : TxnState → Option ℕ → ServerItem → Bool
ends Calling due item = false
ends Trying due item = false
ends Proceeding due item = false
ends Completed due RequestAgain = false
ends Completed due AckCame = true
ends Completed due (AnswerGiven code moment) = false
ends Completed due (server.MomentCame moment) = is_reached due moment
ends Accepted due RequestAgain = false
ends Accepted due AckCame = false
ends Accepted due (AnswerGiven code moment) = false
ends Accepted due (server.MomentCame moment) = is_reached due moment
ends Terminated due item = false

-- the state after an item, from the state before it and the timer that ran
abbrev pub next_server_state : Bool → TxnState → Option ℕ → ServerItem → TxnState
next_server_state invite Calling due item = next_undecided invite Calling item
next_server_state invite Trying due item = next_undecided invite Trying item
next_server_state invite Proceeding due item = next_undecided invite Proceeding item
next_server_state invite Completed due item =
    if ends Completed due item then Terminated else Completed
next_server_state invite Accepted due item = if ends Accepted due item then Terminated else Accepted
next_server_state invite Terminated due item = Terminated

-- the timer after an item, from the same
abbrev pub next_server_due : Bool → TxnState → Option ℕ → ServerItem → Option ℕ
next_server_due invite Calling due item = undecided_due invite item
next_server_due invite Trying due item = undecided_due invite item
next_server_due invite Proceeding due item = undecided_due invite item
next_server_due invite Completed due item = if ends Completed due item then None else due
next_server_due invite Accepted due item = if ends Accepted due item then None else due
next_server_due invite Terminated due item = due
