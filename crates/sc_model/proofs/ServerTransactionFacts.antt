-- What proofs may use of server transactions: their states, timers and answers with one item more, row
-- by row. Proofs above need nothing else of the definitions.
use Rattle.std.proofs.Common.{◌≡◌, ℕ, List, [], ◌∷◌, Bool, true, false, ◌&&◌, ◌||◌, Option, None, Some, is_some, if◌then◌else◌, refl, ◌∙◌}
use Rattle.std.proofs.Math.Bool.{and-false}
use Rattle.sc_parts.specs.declared.transactions.TxnState.TheVariants.{Calling, Trying, Proceeding, Completed, Accepted, Terminated}
use Rattle.sc_parts.specs.declared.transactions.ServerItem.{ServerItem}
use Rattle.sc_parts.specs.declared.transactions.ServerItem.TheVariants.{RequestAgain, AckCame, AnswerGiven, MomentCame}
use Rattle.sc_model.specs.Transactions.{Found, found_with, first_in_time, is_success, is_reached, is_undecided}
use Rattle.sc_model.specs.ServerTransactions.{is_answer, has_answer, is_final_answer, final_answer, answers_success, final_timer, state_at, due_at, server_state, server_due, is_sent, is_sent_again, is_absorbed, sends_in, repeats_in, absorbs_in}
use Rattle.sc_model.specs.TransactionTables.{answered_state, answered_due, next_undecided, undecided_due, ends}
use Rattle.sc_model.proofs.ServerTransactions.{server_state-next, server_due-next}
use Rattle.sc_model.proofs.ServerTables.{next_state-undecided, next_due-undecided, sends_in-undecided, state_kept, due_kept, state_ended, due_ended, early_end, reached_end}

-- ## Every state

-- a transaction that nothing has passed
pub server_state-none : (invite : Bool) → server_state invite [] ≡ (if invite then Proceeding else Trying)
unfolding server_state state_at has_answer final_answer first_in_time
server_state-none true = refl
server_state-none false = refl

pub server_due-none : (invite : Bool) → server_due invite [] ≡ None
unfolding server_due due_at final_answer first_in_time
server_due-none invite = refl

-- a server transaction is never Calling
pub server_state-calling : (invite : Bool) (passed : List ServerItem) → server_state invite passed ≡ Calling → ⊥
unfolding server_state state_at
server_state-calling invite passed = by_answer invite (has_answer passed) (final_answer passed)
  where
    later : (timer : Option ℕ) (success : Bool) → (if is_some timer then (if success then Accepted else Completed) else Terminated) ≡ Calling → ⊥
    later None success e = cc
    later (Some due) true e = cc
    later (Some due) false e = cc

    by_answer : (invite answered : Bool) (decided : Option (Found ServerItem)) → state_at invite answered decided ≡ Calling → ⊥
    by_answer true answered None e = cc
    by_answer false true None e = cc
    by_answer false false None e = cc
    by_answer invite answered (Some decided) e = later (final_timer invite decided) (answers_success decided.item) e

-- in Terminated no timer runs
pub server_due-terminated : (invite : Bool) (passed : List ServerItem) → server_state invite passed ≡ Terminated → server_due invite passed ≡ None
unfolding server_state server_due state_at due_at
server_due-terminated invite passed = by_answer invite (has_answer passed) (final_answer passed)
  where
    later : (timer : Option ℕ) (success : Bool) → (if is_some timer then (if success then Accepted else Completed) else Terminated) ≡ Terminated → timer ≡ None
    later None success e = refl
    later (Some due) true e = cc
    later (Some due) false e = cc

    by_answer : (invite answered : Bool) (decided : Option (Found ServerItem)) → state_at invite answered decided ≡ Terminated → due_at invite decided ≡ None
    by_answer true answered None e = cc
    by_answer false true None e = cc
    by_answer false false None e = cc
    by_answer invite answered (Some decided) e = later (final_timer invite decided) (answers_success decided.item) e

-- after a final answer an answer was given
found_earlier : (item : ServerItem) (earlier : Option (Found ServerItem)) → is_some (found_with item false earlier) ≡ is_some earlier
unfolding found_with
found_earlier item None = refl
found_earlier item (Some decided) = refl

has_answer-final : (passed : List ServerItem) → is_some (final_answer passed) ≡ true → has_answer passed ≡ true
unfolding final_answer has_answer first_in_time is_final_answer is_answer
has_answer-final [] e = cc
has_answer-final (RequestAgain ∷ passed) e = has_answer-final passed (rw found_earlier at e)
has_answer-final (AckCame ∷ passed) e = has_answer-final passed (rw found_earlier at e)
has_answer-final (AnswerGiven code moment ∷ passed) e = refl
has_answer-final (MomentCame moment ∷ passed) e = has_answer-final passed (rw found_earlier at e)

pub has_answer-decided : (invite : Bool) (passed : List ServerItem) → is_undecided (server_state invite passed) ≡ false → has_answer passed ≡ true
unfolding server_state state_at
has_answer-decided invite passed e = has_answer-final passed (by_answer invite (has_answer passed) (final_answer passed) e)
  where
    by_answer : (invite answered : Bool) (decided : Option (Found ServerItem)) → is_undecided (state_at invite answered decided) ≡ false → is_some decided ≡ true
    by_answer true answered None e = cc
    by_answer false true None e = cc
    by_answer false false None e = cc
    by_answer invite answered (Some decided) e = refl

decided-due : (invite answered : Bool) (decided : Option (Found ServerItem)) → is_undecided (state_at invite answered decided) ≡ true → due_at invite decided ≡ None
unfolding state_at due_at
decided-due invite answered None e = refl
decided-due invite answered (Some decided) e = later (final_timer invite decided) (answers_success decided.item) e
  where
    later : (timer : Option ℕ) (success : Bool) → is_undecided (if is_some timer then (if success then Accepted else Completed) else Terminated) ≡ true → timer ≡ None
    later None success e = refl
    later (Some due) true e = cc
    later (Some due) false e = cc

-- ## Where no final answer was given

module _ (invite : Bool) (passed : List ServerItem) (waits : is_undecided (server_state invite passed) ≡ true) where
  state_by_table : (item : ServerItem) → server_state invite (item ∷ passed) ≡ next_undecided invite (server_state invite passed) item
  state_by_table item = server_state-next invite passed item ∙ next_state-undecided invite (server_state invite passed) (server_due invite passed) item waits

  due_by_table : (item : ServerItem) → server_due invite (item ∷ passed) ≡ undecided_due invite item
  due_by_table item = server_due-next invite passed item ∙ next_due-undecided invite (server_state invite passed) (server_due invite passed) item waits

  -- an answer is sent, and makes Proceeding or decides
  pub server_state-answer : (code moment : ℕ) → server_state invite (AnswerGiven code moment ∷ passed) ≡ answered_state invite code
  server_state-answer code moment = state_by_table (AnswerGiven code moment)

  pub server_due-answer : (code moment : ℕ) → server_due invite (AnswerGiven code moment ∷ passed) ≡ answered_due invite code moment
  server_due-answer code moment = due_by_table (AnswerGiven code moment)

  pub is_sent-undecided : (code : ℕ) → is_sent invite passed code ≡ true
  unfolding is_sent
  is_sent-undecided code = sends_in-undecided invite (server_state invite passed) code waits

  -- no timer runs, and nothing else changes the state
  pub server_state-moment : (moment : ℕ) → server_state invite (MomentCame moment ∷ passed) ≡ server_state invite passed
  server_state-moment moment = state_by_table (MomentCame moment)

  pub server_due-undecided : server_due invite passed ≡ None
  unfolding server_state server_due
  server_due-undecided = decided-due invite (has_answer passed) (final_answer passed) waits

-- ## What ends a transaction, and what changes nothing

pub has_answer-none : has_answer [] ≡ false
unfolding has_answer
has_answer-none = refl

pub has_answer-next : (passed : List ServerItem) (item : ServerItem) → has_answer (item ∷ passed) ≡ (is_answer item || has_answer passed)
unfolding has_answer
has_answer-next passed item = refl

module _ (invite : Bool) (passed : List ServerItem) where
  pub ends-early : (moment : ℕ) → is_reached (server_due invite passed) moment ≡ false → ends (server_state invite passed) (server_due invite passed) (MomentCame moment) ≡ false
  ends-early moment e = early_end (server_state invite passed) (server_due invite passed) moment e

  pub ends-reached : (moment : ℕ) → is_reached (server_due invite passed) moment ≡ true → ends (server_state invite passed) (server_due invite passed) (MomentCame moment) ≡ true
  ends-reached moment e = reached_end (server_state invite passed) (server_due invite passed) moment (server_due-undecided invite passed) (server_due-terminated invite passed) e

  module _ (item : ServerItem) (over : ends (server_state invite passed) (server_due invite passed) item ≡ true) where
    pub server_state-ended : server_state invite (item ∷ passed) ≡ Terminated
    server_state-ended = server_state-next invite passed item ∙ state_ended invite (server_state invite passed) (server_due invite passed) item over

    pub server_due-ended : server_due invite (item ∷ passed) ≡ None
    server_due-ended = server_due-next invite passed item ∙ due_ended invite (server_state invite passed) (server_due invite passed) item over

  module _ (item : ServerItem) (lasts : ends (server_state invite passed) (server_due invite passed) item ≡ false) (unanswered : (is_undecided (server_state invite passed) && is_answer item) ≡ false) where
    pub server_state-kept : server_state invite (item ∷ passed) ≡ server_state invite passed
    server_state-kept = server_state-next invite passed item ∙ state_kept invite (server_state invite passed) (server_due invite passed) item lasts unanswered

    pub server_due-kept : server_due invite (item ∷ passed) ≡ server_due invite passed
    server_due-kept = server_due-next invite passed item ∙ due_kept invite (server_state invite passed) (server_due invite passed) item (server_due-undecided invite passed) lasts unanswered

-- ## In Accepted

module _ (invite : Bool) (passed : List ServerItem) (accepted : server_state invite passed ≡ Accepted) where
  -- it stays until a moment at which timer L is due
  pub server_state-accepted : (item : ServerItem) → server_state invite (item ∷ passed) ≡ (if ends Accepted (server_due invite passed) item then Terminated else Accepted)
  server_state-accepted item = rw (server_state-next invite passed item, accepted) refl

  pub server_due-accepted : (item : ServerItem) → server_due invite (item ∷ passed) ≡ (if ends Accepted (server_due invite passed) item then None else server_due invite passed)
  server_due-accepted item = rw (server_due-next invite passed item, accepted) refl

  -- a further 2xx is sent and no other answer, and the request that comes again gets none
  pub is_sent-accepted : (code : ℕ) → is_sent invite passed code ≡ is_success code
  unfolding is_sent sends_in
  is_sent-accepted code = rw accepted refl

  pub is_sent_again-accepted : is_sent_again invite passed ≡ false
  unfolding is_sent_again repeats_in
  is_sent_again-accepted = rw (accepted, and-false (has_answer passed)) refl

  pub is_absorbed-accepted : is_absorbed invite passed ≡ false
  unfolding is_absorbed absorbs_in
  is_absorbed-accepted = rw accepted refl

-- ## In Completed

module _ (invite : Bool) (passed : List ServerItem) (completed : server_state invite passed ≡ Completed) where
  -- it stays until the ACK or a moment at which timer H is due
  pub server_state-completed : (item : ServerItem) → server_state invite (item ∷ passed) ≡ (if ends Completed (server_due invite passed) item then Terminated else Completed)
  server_state-completed item = rw (server_state-next invite passed item, completed) refl

  pub server_due-completed : (item : ServerItem) → server_due invite (item ∷ passed) ≡ (if ends Completed (server_due invite passed) item then None else server_due invite passed)
  server_due-completed item = rw (server_due-next invite passed item, completed) refl

  -- no answer is sent; the request that comes again gets the last one again, and an ACK is absorbed
  pub is_sent-completed : (code : ℕ) → is_sent invite passed code ≡ false
  unfolding is_sent sends_in
  is_sent-completed code = rw completed refl

  pub is_sent_again-completed : is_sent_again invite passed ≡ true
  unfolding is_sent_again repeats_in
  is_sent_again-completed = rw (completed, has_answer-decided invite passed (rw completed refl)) refl

  pub is_absorbed-completed : is_absorbed invite passed ≡ true
  unfolding is_absorbed absorbs_in
  is_absorbed-completed = rw completed refl

-- ## In Terminated

module _ (invite : Bool) (passed : List ServerItem) (ended : server_state invite passed ≡ Terminated) where
  -- it stays; a 2xx to INVITE is sent, and nothing else
  pub server_state-terminated : (item : ServerItem) → server_state invite (item ∷ passed) ≡ Terminated
  server_state-terminated item = rw (server_state-next invite passed item, ended) refl

  pub is_sent-terminated : (code : ℕ) → is_sent invite passed code ≡ (invite && is_success code)
  unfolding is_sent sends_in
  is_sent-terminated code = rw ended refl

  pub is_sent_again-terminated : is_sent_again invite passed ≡ false
  unfolding is_sent_again repeats_in
  is_sent_again-terminated = rw (ended, and-false (has_answer passed)) refl

  pub is_absorbed-terminated : is_absorbed invite passed ≡ false
  unfolding is_absorbed absorbs_in
  is_absorbed-terminated = rw ended refl
