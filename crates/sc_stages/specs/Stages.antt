-- What the items that have passed a transaction make of it, one after another: its state, and the
-- moment at which the timer that runs began (RFC 3261 section 17, RFC 6026). When it is due follows
-- from that.
use Rattle.std.specs.Prelude.{◌≡◌, ℕ, ◌+◌, List, Bool, ◌&&◌, ◌||◌, Option, None, Some, if◌then◌else◌}
use Rattle.sc_parts.specs.declared.transactions.TxnState.{TxnState}
use Rattle.sc_parts.specs.declared.transactions.TxnState.TheVariants.{Calling, Trying, Proceeding, Completed, Accepted, Terminated}
use Rattle.sc_parts.specs.declared.transactions.ClientItem.{ClientItem}
use Rattle.sc_parts.specs.declared.transactions.ClientItem.TheVariants as client
use Rattle.sc_parts.specs.declared.transactions.ServerItem.{ServerItem}
use Rattle.sc_parts.specs.declared.transactions.ServerItem.TheVariants as server
use Rattle.sc_model.specs.SessionStates.{is_final}
use Rattle.sc_model.specs.Transactions.{TIMEOUT, is_success, is_reached, reaches, asks_cancel, has_asking, client_state, client_due}
use Rattle.sc_model.specs.ServerTransactions.{is_answer, has_answer, server_state, server_due}
use Rattle.sc_model.specs.TransactionTables.{next_state, is_calling, sends_cancel, ends, next_server_state}
use Rattle.sc_stages.specs.declared.clients.ClientStage.{ClientStage}
use Rattle.sc_stages.specs.declared.servers.ServerStage.{ServerStage}

-- when a timer is due that began at this moment
abbrev pub due_since : Option ℕ → Option ℕ
due_since None = None
due_since (Some begun) = Some (begun + TIMEOUT)

-- ## Clients

-- when timer M began after a final response: at a 2xx to an INVITE (RFC 6026 section 7.2)
abbrev pub decided_begun : Bool → ℕ → ℕ → Option ℕ
decided_begun invite code moment = if invite && is_success code then Some moment else None

-- the timer after a provisional response: timer B runs no more, and the one after a CANCEL begins
abbrev pub provisional_begun : TxnState → Option ℕ → Bool → ℕ → Option ℕ
provisional_begun state begun asked moment =
    if is_calling state then (if asked then Some moment else None) else begun

-- when the timer began that runs after an item which comes where nothing has decided the
-- transaction
abbrev pub next_waiting_begun : Bool → TxnState → Option ℕ → Bool → ClientItem → Option ℕ
next_waiting_begun invite state begun asked (client.ResponseCame code moment) =
    if is_final code then decided_begun invite code moment
    else provisional_begun state begun asked moment
next_waiting_begun invite state begun asked (client.CancelAsked moment) =
    if sends_cancel invite state asked (client.CancelAsked moment) then Some moment else begun
next_waiting_begun invite state begun asked (client.MomentCame moment) =
    if is_reached (due_since begun) moment then None else begun
next_waiting_begun invite state begun asked client.PlaceLost = None

-- when the timer began that runs after an item
abbrev pub next_begun : Bool → TxnState → Option ℕ → Bool → ClientItem → Option ℕ
next_begun invite Calling begun asked item = next_waiting_begun invite Calling begun asked item
next_begun invite Trying begun asked item = next_waiting_begun invite Trying begun asked item
next_begun invite Proceeding begun asked item =
    next_waiting_begun invite Proceeding begun asked item
next_begun invite Completed begun asked item = begun
next_begun invite Accepted begun asked item = if reaches (due_since begun) item then None else begun
next_begun invite Terminated begun asked item = begun

-- the stage of a client transaction after one item more
unfoldable pub client_next : Bool → ClientStage → ClientItem → ClientStage
client_next invite stage item = record {
  state = next_state invite stage.state (due_since stage.begun) item;
  begun = next_begun invite stage.state stage.begun stage.asked item;
  asked = asks_cancel item || stage.asked;
}

-- it is what these items have made of a transaction that was sent at this moment
pub record ClientStands (stage : ClientStage) (invite : Bool) (sent : ℕ)
    (passed : List ClientItem) : Type 0 where
  pub state_is : stage.state ≡ client_state invite sent passed
  pub due_is : due_since stage.begun ≡ client_due invite sent passed
  pub asked_is : stage.asked ≡ has_asking passed

-- ## Servers

-- when timer L or H began: at the final answer to an INVITE
abbrev pub answered_begun : Bool → ℕ → ℕ → Option ℕ
answered_begun invite code moment = if is_final code && invite then Some moment else None

-- the timer after an item where no final answer was given before
abbrev pub undecided_begun : Bool → ServerItem → Option ℕ
undecided_begun invite server.RequestAgain = None
undecided_begun invite server.AckCame = None
undecided_begun invite (server.AnswerGiven code moment) = answered_begun invite code moment
undecided_begun invite (server.MomentCame moment) = None

-- when the timer began that runs after an item
abbrev pub next_server_begun : Bool → TxnState → Option ℕ → ServerItem → Option ℕ
next_server_begun invite Calling begun item = undecided_begun invite item
next_server_begun invite Trying begun item = undecided_begun invite item
next_server_begun invite Proceeding begun item = undecided_begun invite item
next_server_begun invite Completed begun item =
    if ends Completed (due_since begun) item then None else begun
next_server_begun invite Accepted begun item =
    if ends Accepted (due_since begun) item then None else begun
next_server_begun invite Terminated begun item = begun

-- the stage of a server transaction after one item more
unfoldable pub server_next : Bool → ServerStage → ServerItem → ServerStage
server_next invite stage item = record {
  state = next_server_state invite stage.state (due_since stage.begun) item;
  begun = next_server_begun invite stage.state stage.begun item;
  answered = is_answer item || stage.answered;
}

-- it is what these items have made of a transaction
pub record ServerStands (stage : ServerStage) (invite : Bool)
    (passed : List ServerItem) : Type 0 where
  pub state_is : stage.state ≡ server_state invite passed
  pub due_is : due_since stage.begun ≡ server_due invite passed
  pub answered_is : stage.answered ≡ has_answer passed
