-- Server transactions (RFC 3261 section 17.2, with RFC 6026 for INVITE). What has passed a
-- transaction is a list with the newest item first, and its state is found by a search for the
-- first final answer. Moments are in milliseconds. The transport is reliable: no answer is sent
-- again by a timer, and timers I and J are 0.
use Rattle.std.specs.Prelude.{ℕ, ◌+◌, List, Bool, true, false, not, ◌||◌, ◌&&◌, Option, None, Some, is_some, nat_le, if◌then◌else◌}
use Rattle.std.specs.List.{list_any}
use Rattle.sc_parts.specs.declared.transactions.TxnState.{TxnState}
use Rattle.sc_parts.specs.declared.transactions.TxnState.TheVariants.{Calling, Trying, Proceeding, Completed, Accepted, Terminated}
use Rattle.sc_parts.specs.declared.transactions.ServerItem.{ServerItem}
use Rattle.sc_parts.specs.declared.transactions.ServerItem.TheVariants.{RequestAgain, AckCame, AnswerGiven, MomentCame}
use Rattle.sc_model.specs.SessionStates.{is_final}
use Rattle.sc_model.specs.Transactions.{TIMEOUT, is_success, Found, first_in_time}

-- ## What decides a transaction

-- the item is an answer, provisional or final
unfoldable pub is_answer : ServerItem → Bool
is_answer RequestAgain = false
is_answer AckCame = false
is_answer (AnswerGiven code moment) = true
is_answer (MomentCame moment) = false

-- an answer was given
unfoldable pub has_answer : List ServerItem → Bool
has_answer passed = list_any is_answer passed

-- a final answer; the first one is always sent
unfoldable pub is_final_answer : List ServerItem → ServerItem → Bool
is_final_answer earlier RequestAgain = false
is_final_answer earlier AckCame = false
is_final_answer earlier (AnswerGiven code moment) = is_final code
is_final_answer earlier (MomentCame moment) = false

-- the first final answer, with what came after it
unfoldable pub final_answer : List ServerItem → Option (Found ServerItem)
final_answer passed = first_in_time is_final_answer passed

-- ## After the final answer: timer L after a 2xx (RFC 6026 section 7.1), timer H and the ACK after
-- another (RFC 3261 section 17.2.1)

-- the item is a 2xx
unfoldable pub answers_success : ServerItem → Bool
answers_success RequestAgain = false
answers_success AckCame = false
answers_success (AnswerGiven code moment) = is_success code
answers_success (MomentCame moment) = false

-- when timer L or H is due
unfoldable pub final_due : ServerItem → ℕ
final_due RequestAgain = 0
final_due AckCame = 0
final_due (AnswerGiven code moment) = moment + TIMEOUT
final_due (MomentCame moment) = 0

-- the item ends an INVITE's transaction that this answer decided: the moment at which its timer is
-- due, and after another answer than 2xx the ACK
unfoldable pub ends_decided : ServerItem → ServerItem → Bool
ends_decided decided RequestAgain = false
ends_decided decided AckCame = not (answers_success decided)
ends_decided decided (AnswerGiven code moment) = false
ends_decided decided (MomentCame moment) = nat_le (final_due decided) moment

-- when timer L or H is due, as long as it runs; after the final answer to another request none does
unfoldable pub final_timer : Bool → Found ServerItem → Option ℕ
final_timer invite decided =
    if invite && not (list_any (ends_decided decided.item) decided.after)
    then Some (final_due decided.item)
    else None

-- ## The state, and when the timer that runs is due

-- the state by whether an answer was given and by the first final one
unfoldable pub state_at : Bool → Bool → Option (Found ServerItem) → TxnState
state_at invite answered None = if invite || answered then Proceeding else Trying
state_at invite answered (Some decided) =
    if is_some (final_timer invite decided)
    then (if answers_success decided.item then Accepted else Completed)
    else Terminated

-- the state of a transaction of an INVITE or of another request that these items have passed
unfoldable pub server_state : Bool → List ServerItem → TxnState
server_state invite passed = state_at invite (has_answer passed) (final_answer passed)

-- when the timer that runs is due, by the first final answer; before it none runs
unfoldable pub due_at : Bool → Option (Found ServerItem) → Option ℕ
due_at invite None = None
due_at invite (Some decided) = final_timer invite decided

-- the moment at which the timer that runs is due, none where none runs
unfoldable pub server_due : Bool → List ServerItem → Option ℕ
server_due invite passed = due_at invite (final_answer passed)

-- ## What a transaction does

-- an answer of this code is sent. That a 2xx to INVITE is sent after the end too is this project's
-- profile
unfoldable pub sends_in : Bool → TxnState → ℕ → Bool
sends_in invite Calling code = true
sends_in invite Trying code = true
sends_in invite Proceeding code = true
sends_in invite Completed code = false
sends_in invite Accepted code = is_success code
sends_in invite Terminated code = invite && is_success code

-- an answer of this code is sent where these items have passed
unfoldable pub is_sent : Bool → List ServerItem → ℕ → Bool
is_sent invite passed code = sends_in invite (server_state invite passed) code

-- the state is one in which the request that comes again gets the last answer again
unfoldable pub repeats_in : TxnState → Bool
repeats_in Calling = false
repeats_in Trying = false
repeats_in Proceeding = true
repeats_in Completed = true
repeats_in Accepted = false
repeats_in Terminated = false

-- the last answer is sent again
unfoldable pub is_sent_again : Bool → List ServerItem → Bool
is_sent_again invite passed = has_answer passed && repeats_in (server_state invite passed)

-- the state is one in which an ACK is awaited: Completed, of an INVITE alone
unfoldable pub absorbs_in : TxnState → Bool
absorbs_in Calling = false
absorbs_in Trying = false
absorbs_in Proceeding = false
absorbs_in Completed = true
absorbs_in Accepted = false
absorbs_in Terminated = false

-- an ACK is taken as that of the final answer, and goes no further (RFC 3261 section 17.2.1)
unfoldable pub is_absorbed : Bool → List ServerItem → Bool
is_absorbed invite passed = absorbs_in (server_state invite passed)
