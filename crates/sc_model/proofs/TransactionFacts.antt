-- What proofs may use of client transactions: their states, timers and outputs with one item more, row
-- by row. Proofs above need nothing else of the definitions.
use Rattle.std.proofs.Common.{◌≡◌, ℕ, ◌+◌, ◌==◌, List, [], ◌∷◌, Bool, true, false, ◌&&◌, ◌||◌, Option, None, Some, is_some, if◌then◌else◌, refl, ◌∙◌, ◌⊎◌, inl, inr}
use Rattle.std.proofs.Math.Bool.{and-false, and-true}
use Rattle.sc_parts.specs.declared.transactions.TxnState.TheVariants.{Calling, Trying, Proceeding, Accepted, Terminated}
use Rattle.sc_parts.specs.declared.transactions.ClientItem.{ClientItem}
use Rattle.sc_parts.specs.declared.transactions.ClientItem.TheVariants.{ResponseCame, CancelAsked, MomentCame, PlaceLost}
use Rattle.sc_model.specs.SessionStates.{is_final}
use Rattle.sc_model.specs.Transactions.{Found, TIMEOUT, is_failure, is_reached, is_undecided, has_provisional, has_asking, cancel_moment, decision, first_in_time, waiting_due, due_after, asks_cancel, reaches, timer_m, state_from, due_from, client_state, client_due, client_out, NOTHING, told_waiting, told_accepted, wants_ack}
use Rattle.sc_model.specs.TransactionTables.{decided_state, decided_due, next_waiting, is_calling, sends_cancel, provisional_due, next_waiting_due, waiting_out}
use Rattle.sc_model.proofs.ClientTransactions.{client_state-next, client_due-next, client_out-is}
use Rattle.sc_model.proofs.ClientTables.{next_state-undecided, next_due-undecided, output-undecided, no_failure, not_hundred, state_kept, due_moved, cancel_out, state_early, due_early, nothing_out, state_stays, due_stays}

-- ## Client transactions

-- a transaction that nothing has passed
pub client_state-none : (invite : Bool) (sent : ℕ) → client_state invite sent [] ≡ (if invite then Calling else Trying)
unfolding client_state state_from has_provisional decision first_in_time
client_state-none invite sent = refl

pub client_due-none : (invite : Bool) (sent : ℕ) → client_due invite sent [] ≡ Some (sent + TIMEOUT)
unfolding client_due due_from waiting_due due_after has_provisional cancel_moment decision first_in_time
client_due-none true sent = refl
client_due-none false sent = refl

-- a transaction that something has decided is Accepted or Terminated
pub client_state-decided : (invite : Bool) (sent : ℕ) (passed : List ClientItem) → is_undecided (client_state invite sent passed) ≡ false → (client_state invite sent passed ≡ Accepted) ⊎ (client_state invite sent passed ≡ Terminated)
unfolding client_state state_from
client_state-decided invite sent passed = by_decision invite (has_provisional passed) (decision invite sent passed)
  where
    later : (timer : Option ℕ) → ((if is_some timer then Accepted else Terminated) ≡ Accepted) ⊎ ((if is_some timer then Accepted else Terminated) ≡ Terminated)
    later None = inr refl
    later (Some due) = inl refl

    by_decision : (invite provisional : Bool) (decided : Option (Found ClientItem)) → is_undecided (state_from invite provisional decided) ≡ false → (state_from invite provisional decided ≡ Accepted) ⊎ (state_from invite provisional decided ≡ Terminated)
    by_decision true true None e = cc
    by_decision true false None e = cc
    by_decision false true None e = cc
    by_decision false false None e = cc
    by_decision invite provisional (Some decided) e = later (timer_m invite decided)

-- in Terminated no timer runs
pub client_due-terminated : (invite : Bool) (sent : ℕ) (passed : List ClientItem) → client_state invite sent passed ≡ Terminated → client_due invite sent passed ≡ None
unfolding client_state client_due state_from due_from
client_due-terminated invite sent passed = by_decision invite (has_provisional passed) (decision invite sent passed)
  where
    later : (timer : Option ℕ) → (if is_some timer then Accepted else Terminated) ≡ Terminated → timer ≡ None
    later None e = refl
    later (Some due) e = cc

    by_decision : (invite provisional : Bool) (decided : Option (Found ClientItem)) → state_from invite provisional decided ≡ Terminated → due_from invite (waiting_due invite sent passed) decided ≡ None
    by_decision true true None e = cc
    by_decision true false None e = cc
    by_decision false true None e = cc
    by_decision false false None e = cc
    by_decision invite provisional (Some decided) e = later (timer_m invite decided) e

-- ### A CANCEL is asked for

pub has_asking-none : has_asking [] ≡ false
unfolding has_asking
has_asking-none = refl

pub has_asking-next : (passed : List ClientItem) (item : ClientItem) → has_asking (item ∷ passed) ≡ (asks_cancel item || has_asking passed)
unfolding has_asking
has_asking-next passed item = refl

module _ (invite : Bool) (sent : ℕ) (passed : List ClientItem) (moment : ℕ) where
  -- no state is changed; in Proceeding of an INVITE the first asking makes the CANCEL go
  pub client_state-asking : client_state invite sent (CancelAsked moment ∷ passed) ≡ client_state invite sent passed
  client_state-asking = client_state-next invite sent passed (CancelAsked moment) ∙ state_kept invite moment (client_state invite sent passed) (client_due invite sent passed)

  pub client_due-asking : client_due invite sent (CancelAsked moment ∷ passed) ≡ (if sends_cancel invite (client_state invite sent passed) (has_asking passed) (CancelAsked moment) then Some (moment + TIMEOUT) else client_due invite sent passed)
  client_due-asking = client_due-next invite sent passed (CancelAsked moment) ∙ due_moved invite moment (client_state invite sent passed) (client_due invite sent passed) (has_asking passed)

  pub client_out-asking : client_out invite sent passed (CancelAsked moment) ≡ record NOTHING { cancel = sends_cancel invite (client_state invite sent passed) (has_asking passed) (CancelAsked moment) }
  client_out-asking = client_out-is invite sent passed (CancelAsked moment) ∙ cancel_out invite moment (client_state invite sent passed) (client_due invite sent passed) (has_asking passed)

-- ### Where nothing has decided it

module _ (invite : Bool) (sent : ℕ) (passed : List ClientItem) (waits : is_undecided (client_state invite sent passed) ≡ true) where
  state_by_table : (item : ClientItem) → client_state invite sent (item ∷ passed) ≡ next_waiting invite (client_state invite sent passed) (client_due invite sent passed) item
  state_by_table item = client_state-next invite sent passed item ∙ next_state-undecided invite (client_state invite sent passed) (client_due invite sent passed) item waits

  due_by_table : (item : ClientItem) → client_due invite sent (item ∷ passed) ≡ next_waiting_due invite (client_state invite sent passed) (client_due invite sent passed) (has_asking passed) item
  due_by_table item = client_due-next invite sent passed item ∙ next_due-undecided invite (client_state invite sent passed) (client_due invite sent passed) (has_asking passed) item waits

  out_by_table : (item : ClientItem) → client_out invite sent passed item ≡ waiting_out invite (client_state invite sent passed) (client_due invite sent passed) (has_asking passed) item
  out_by_table item = client_out-is invite sent passed item ∙ output-undecided invite (client_state invite sent passed) (client_due invite sent passed) (has_asking passed) item waits

  -- a provisional response makes Proceeding; all but 100 are told, and a held CANCEL goes
  pub client_state-provisional : (code moment : ℕ) → is_final code ≡ false → client_state invite sent (ResponseCame code moment ∷ passed) ≡ Proceeding
  client_state-provisional code moment e = rw (state_by_table (ResponseCame code moment), e) refl

  pub client_due-provisional : (code moment : ℕ) → is_final code ≡ false → client_due invite sent (ResponseCame code moment ∷ passed) ≡ provisional_due (client_state invite sent passed) (client_due invite sent passed) (has_asking passed) moment
  client_due-provisional code moment e = rw (due_by_table (ResponseCame code moment), e) refl

  -- a final response decides
  pub client_state-final : (code moment : ℕ) → is_final code ≡ true → client_state invite sent (ResponseCame code moment ∷ passed) ≡ decided_state invite code
  client_state-final code moment e = rw (state_by_table (ResponseCame code moment), e) refl

  pub client_due-final : (code moment : ℕ) → is_final code ≡ true → client_due invite sent (ResponseCame code moment ∷ passed) ≡ decided_due invite code moment
  client_due-final code moment e = rw (due_by_table (ResponseCame code moment), e) refl

  pub client_out-provisional : (code moment : ℕ) → is_final code ≡ false → client_out invite sent passed (ResponseCame code moment) ≡ record {
    tell = if code == 100 then None else Some code;
    ack = false;
    cancel = is_calling (client_state invite sent passed) && has_asking passed;
  }
  unfolding told_waiting wants_ack
  client_out-provisional code moment e = rw (out_by_table (ResponseCame code moment), no_failure code e, and-false invite, e, and-true (is_calling (client_state invite sent passed) && has_asking passed)) refl

  pub client_out-final : (code moment : ℕ) → is_final code ≡ true → client_out invite sent passed (ResponseCame code moment) ≡ record { tell = Some code; ack = invite && is_failure code; cancel = false }
  unfolding told_waiting wants_ack
  client_out-final code moment e = rw (out_by_table (ResponseCame code moment), not_hundred code e, e, and-false (is_calling (client_state invite sent passed) && has_asking passed)) refl

  -- a moment at which the timer is due ends it, and 408 is told
  pub client_state-reached : (moment : ℕ) → is_reached (client_due invite sent passed) moment ≡ true → client_state invite sent (MomentCame moment ∷ passed) ≡ Terminated
  client_state-reached moment e = rw (state_by_table (MomentCame moment), e) refl

  pub client_due-reached : (moment : ℕ) → is_reached (client_due invite sent passed) moment ≡ true → client_due invite sent (MomentCame moment ∷ passed) ≡ None
  client_due-reached moment e = rw (due_by_table (MomentCame moment), e) refl

  pub client_out-reached : (moment : ℕ) → is_reached (client_due invite sent passed) moment ≡ true → client_out invite sent passed (MomentCame moment) ≡ record NOTHING { tell = Some 408 }
  unfolding told_waiting wants_ack
  client_out-reached moment e = rw (out_by_table (MomentCame moment), e, and-false invite) refl

  -- the loss of the place ends it, and 503 is told
  pub client_state-lost : client_state invite sent (PlaceLost ∷ passed) ≡ Terminated
  client_state-lost = state_by_table PlaceLost

  pub client_due-lost : client_due invite sent (PlaceLost ∷ passed) ≡ None
  client_due-lost = due_by_table PlaceLost

  pub client_out-lost : client_out invite sent passed PlaceLost ≡ record NOTHING { tell = Some 503 }
  unfolding told_waiting wants_ack
  client_out-lost = rw (out_by_table PlaceLost, and-false invite) refl

-- ### A moment at which the timer that runs isn't due changes nothing

module _ (invite : Bool) (sent : ℕ) (passed : List ClientItem) (moment : ℕ) (early : is_reached (client_due invite sent passed) moment ≡ false) where
  pub client_state-early : client_state invite sent (MomentCame moment ∷ passed) ≡ client_state invite sent passed
  client_state-early = client_state-next invite sent passed (MomentCame moment) ∙ state_early invite (has_asking passed) moment (client_state invite sent passed) (client_due invite sent passed) early

  pub client_due-early : client_due invite sent (MomentCame moment ∷ passed) ≡ client_due invite sent passed
  client_due-early = client_due-next invite sent passed (MomentCame moment) ∙ due_early invite (has_asking passed) moment (client_state invite sent passed) (client_due invite sent passed) early

  pub client_out-early : client_out invite sent passed (MomentCame moment) ≡ NOTHING
  client_out-early = client_out-is invite sent passed (MomentCame moment) ∙ nothing_out invite (has_asking passed) moment (client_state invite sent passed) (client_due invite sent passed) early

-- ### Where something has decided it, another item than the moment of timer M

module _ (invite : Bool) (sent : ℕ) (passed : List ClientItem) (item : ClientItem) (decided : is_undecided (client_state invite sent passed) ≡ false) (early : reaches (client_due invite sent passed) item ≡ false) where
  -- nothing changes
  pub client_state-settled : client_state invite sent (item ∷ passed) ≡ client_state invite sent passed
  client_state-settled = client_state-next invite sent passed item ∙ state_stays invite (has_asking passed) item (client_state invite sent passed) (client_due invite sent passed) decided early

  pub client_due-settled : client_due invite sent (item ∷ passed) ≡ client_due invite sent passed
  client_due-settled = client_due-next invite sent passed item ∙ due_stays invite (has_asking passed) item (client_state invite sent passed) (client_due invite sent passed) decided early

-- ### In Accepted

module _ (invite : Bool) (sent : ℕ) (passed : List ClientItem) (accepted : client_state invite sent passed ≡ Accepted) where
  -- it stays until a moment at which timer M is due
  pub client_state-accepted : (item : ClientItem) → client_state invite sent (item ∷ passed) ≡ (if reaches (client_due invite sent passed) item then Terminated else Accepted)
  client_state-accepted item = rw (client_state-next invite sent passed item, accepted) refl

  pub client_due-accepted : (item : ClientItem) → client_due invite sent (item ∷ passed) ≡ (if reaches (client_due invite sent passed) item then None else client_due invite sent passed)
  client_due-accepted item = rw (client_due-next invite sent passed item, accepted) refl

  -- a further 2xx is told, and it does nothing else
  pub client_out-accepted : (item : ClientItem) → client_out invite sent passed item ≡ record NOTHING { tell = told_accepted item }
  client_out-accepted item = rw (client_out-is invite sent passed item, accepted) refl

-- ### In Terminated

module _ (invite : Bool) (sent : ℕ) (passed : List ClientItem) (ended : client_state invite sent passed ≡ Terminated) where
  -- it stays, and does nothing
  pub client_state-terminated : (item : ClientItem) → client_state invite sent (item ∷ passed) ≡ Terminated
  client_state-terminated item = rw (client_state-next invite sent passed item, ended) refl

  pub client_out-terminated : (item : ClientItem) → client_out invite sent passed item ≡ NOTHING
  client_out-terminated item = rw (client_out-is invite sent passed item, ended) refl
