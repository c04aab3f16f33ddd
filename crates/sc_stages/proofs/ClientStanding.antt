-- What has become of a client transaction, item by item.
use Rattle.std.proofs.Common.{◌≡◌, ℕ, ◌-◌, ◌<◌, ◌≤◌, List, [], ◌∷◌, Bool, true, false, ◌||◌, Option, None, Some, if◌then◌else◌, refl, sym, ap, ◌∙◌, length, drop, get_or}
use Rattle.sc_parts.specs.declared.transactions.TxnState.{TxnState}
use Rattle.sc_parts.specs.declared.transactions.TxnState.TheVariants.{Calling, Trying, Proceeding, Completed, Accepted, Terminated}
use Rattle.sc_parts.specs.declared.transactions.ClientItem.{ClientItem}
use Rattle.sc_parts.specs.declared.transactions.ClientOut.{ClientOut}
use Rattle.sc_parts.specs.declared.transactions.ClientItem.TheVariants.{ResponseCame, CancelAsked, MomentCame, PlaceLost}
use Rattle.sc_model.specs.Transactions.{reaches, has_asking, asks_cancel, client_out}
use Rattle.sc_model.specs.TransactionTables.{next_waiting_due, next_due, output}
use Rattle.sc_model.proofs.ClientTransactions.{client_state-next, client_due-next, client_out-is}
use Rattle.sc_model.proofs.TransactionFacts.{client_state-none, client_due-none, has_asking-none}
use Rattle.sc_stages.proofs.Places.{drop_before}
use Rattle.sc_stages.specs.Stages.{due_since, next_waiting_begun, next_begun, client_next, ClientStands}
use Rattle.sc_stages.specs.declared.clients.ClientStage.{ClientStage}

-- when a timer is due where one of two runs
due_of : (b : Bool) (x y : Option ℕ) → due_since (if b then x else y) ≡ (if b then due_since x else due_since y)
due_of true x y = refl
due_of false x y = refl

waiting-due : (invite : Bool) (state : TxnState) (begun : Option ℕ) (asked : Bool) (item : ClientItem) → due_since (next_waiting_begun invite state begun asked item) ≡ next_waiting_due invite state (due_since begun) asked item
waiting-due invite state begun asked (ResponseCame code moment) = simp due_of
waiting-due invite state begun asked (CancelAsked moment) = rw due_of refl
waiting-due invite state begun asked (MomentCame moment) = rw due_of refl
waiting-due invite state begun asked PlaceLost = refl

begun-due : (invite : Bool) (state : TxnState) (begun : Option ℕ) (asked : Bool) (item : ClientItem) → due_since (next_begun invite state begun asked item) ≡ next_due invite state (due_since begun) asked item
begun-due invite Calling begun asked item = waiting-due invite Calling begun asked item
begun-due invite Trying begun asked item = waiting-due invite Trying begun asked item
begun-due invite Proceeding begun asked item = waiting-due invite Proceeding begun asked item
begun-due invite Completed begun asked item = refl
begun-due invite Accepted begun asked item = due_of (reaches (due_since begun) item) None begun
begun-due invite Terminated begun asked item = refl

-- one item more
pub client_more : (stage : ClientStage) (invite : Bool) (sent : ℕ) (passed : List ClientItem) (item : ClientItem) → ClientStands stage invite sent passed → ClientStands (client_next invite stage item) invite sent (item ∷ passed)
unfolding client_next has_asking
client_more stage invite sent passed item stands = record {
  state_is = rw (stands.state_is, stands.due_is) (sym (client_state-next invite sent passed item));
  due_is = rw (begun-due, stands.state_is, stands.due_is, stands.asked_is) (sym (client_due-next invite sent passed item));
  asked_is = ap (λ b. asks_cancel item || b) stands.asked_is;
}

-- before any item
pub client_begun : (invite : Bool) (sent : ℕ) (state : TxnState) → state ≡ (if invite then Calling else Trying) → ClientStands (record { state = state; begun = Some sent; asked = false }) invite sent []
client_begun invite sent state is = record {
  state_is = is ∙ sym (client_state-none invite sent);
  due_is = sym (client_due-none invite sent);
  asked_is = sym has_asking-none;
}

-- the next item, from the oldest on
pub client_taken : (stage next : ClientStage) (invite : Bool) (sent : ℕ) (passed : List ClientItem) (before : ℕ) (d : ClientItem) → 0 < before → before ≤ length passed
    → next ≡ client_next invite stage (get_or passed (before - 1) d) → ClientStands stage invite sent (drop before passed) → ClientStands next invite sent (drop (before - 1) passed)
client_taken stage next invite sent passed before d some within made stands =
    rw (made, drop_before passed before d some within) (client_more stage invite sent (drop before passed) (get_or passed (before - 1) d) stands)

-- what it does with an item
pub client_does : (stage : ClientStage) (out : ClientOut) (invite : Bool) (sent : ℕ) (passed : List ClientItem) (item : ClientItem) → ClientStands stage invite sent passed
    → out ≡ output invite stage.state (due_since stage.begun) stage.asked item → out ≡ client_out invite sent passed item
client_does stage out invite sent passed item stands is =
    rw (is, stands.state_is, stands.due_is, stands.asked_is) (sym (client_out-is invite sent passed item))
