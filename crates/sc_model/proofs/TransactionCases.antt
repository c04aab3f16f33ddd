-- Worked cases of transactions, computed from the definitions. Each list has the newest item first, and
-- beside each item stands what the transaction does with it and the state that it leads to.
use Rattle.std.proofs.Common.{◌≡◌, ℕ, Bool, List, [], ◌∷◌, true, false, Option, None, Some, refl}
use Rattle.sc_parts.specs.declared.transactions.TxnState.{TxnState}
use Rattle.sc_parts.specs.declared.transactions.TxnState.TheVariants.{Calling, Trying, Proceeding, Completed, Accepted, Terminated}
use Rattle.sc_parts.specs.declared.transactions.ClientOut.{ClientOut}
use Rattle.sc_parts.specs.declared.transactions.ClientItem.{ClientItem}
use Rattle.sc_parts.specs.declared.transactions.ClientItem.TheVariants.{ResponseCame, CancelAsked, MomentCame, PlaceLost}
use Rattle.sc_parts.specs.declared.transactions.ServerItem.{ServerItem}
use Rattle.sc_parts.specs.declared.transactions.ServerItem.TheVariants.{RequestAgain, AckCame, AnswerGiven}
use Rattle.sc_parts.specs.declared.transactions.ServerItem.TheVariants as server
use Rattle.sc_model.specs.Transactions.{found_with, first_in_time, brings_provisional, asks_cancel, has_provisional, has_asking, lets_cancel_go, moment_of, cancel_moment, due_after, waiting_due, is_reached, decides, decision, accepted_due, reaches, timer_m, state_from, client_state, due_from, client_due, told_waiting, wants_ack, told_accepted, out_from, client_out, NOTHING}
use Rattle.sc_model.specs.ServerTransactions.{is_answer, has_answer, is_final_answer, final_answer, answers_success, final_due, ends_decided, final_timer, state_at, server_state, due_at, server_due, sends_in, is_sent, repeats_in, is_sent_again, absorbs_in, is_absorbed}

-- ## Client transactions

-- what is done with each item, and the state and the timer after it
unfoldable steps : Bool → ℕ → List ClientItem → List (ClientOut × TxnState × Option ℕ)
steps invite sent [] = []
steps invite sent (item ∷ earlier) = (client_out invite sent earlier item, client_state invite sent (item ∷ earlier), client_due invite sent (item ∷ earlier)) ∷ steps invite sent earlier

abbrev tells : ℕ → ClientOut
tells code = record NOTHING { tell = Some code }

abbrev acknowledges : ℕ → ClientOut
acknowledges code = record { tell = Some code; ack = true; cancel = false }

abbrev cancels : Option ℕ → ClientOut
cancels told = record { tell = told; ack = false; cancel = true }

-- a call: a further 2xx is told until timer M is due, a stray one after it isn't
accepted_call : steps true 0 (ResponseCame 200 32010 ∷ MomentCame 32010 ∷ ResponseCame 200 32009 ∷ MomentCame 32009 ∷ PlaceLost ∷ ResponseCame 486 30 ∷ ResponseCame 180 20 ∷ ResponseCame 200 10 ∷ ResponseCame 180 5 ∷ ResponseCame 100 0 ∷ [])
    ≡ (NOTHING, Terminated, None)
    ∷ (NOTHING, Terminated, None)
    ∷ (tells 200, Accepted, Some 32010)
    ∷ (NOTHING, Accepted, Some 32010)
    ∷ (NOTHING, Accepted, Some 32010)
    ∷ (NOTHING, Accepted, Some 32010)
    ∷ (NOTHING, Accepted, Some 32010)
    ∷ (tells 200, Accepted, Some 32010)
    ∷ (tells 180, Proceeding, None)
    ∷ (NOTHING, Proceeding, None) ∷ []
unfolding steps found_with first_in_time brings_provisional asks_cancel has_provisional has_asking lets_cancel_go moment_of cancel_moment due_after waiting_due is_reached decides decision accepted_due reaches timer_m state_from client_state due_from client_due told_waiting wants_ack told_accepted out_from client_out
accepted_call = refl

-- timer B
unanswered_call : steps true 0 (ResponseCame 200 32001 ∷ MomentCame 32000 ∷ MomentCame 31999 ∷ [])
    ≡ (NOTHING, Terminated, None)
    ∷ (tells 408, Terminated, None)
    ∷ (NOTHING, Calling, Some 32000) ∷ []
unfolding steps found_with first_in_time brings_provisional asks_cancel has_provisional has_asking lets_cancel_go moment_of cancel_moment due_after waiting_due is_reached decides decision accepted_due reaches timer_m state_from client_state due_from client_due told_waiting wants_ack told_accepted out_from client_out
unanswered_call = refl

-- timer B counts no more once a provisional has passed, be it 100
ringing_call : steps true 0 (ResponseCame 486 90000 ∷ MomentCame 32000 ∷ ResponseCame 100 40 ∷ [])
    ≡ (acknowledges 486, Terminated, None)
    ∷ (NOTHING, Proceeding, None)
    ∷ (NOTHING, Proceeding, None) ∷ []
unfolding steps found_with first_in_time brings_provisional asks_cancel has_provisional has_asking lets_cancel_go moment_of cancel_moment due_after waiting_due is_reached decides decision accepted_due reaches timer_m state_from client_state due_from client_due told_waiting wants_ack told_accepted out_from client_out
ringing_call = refl

-- a CANCEL waits for the first provisional, and its time begins when it is sent
held_cancel : steps true 0 (MomentCame 32070 ∷ MomentCame 32000 ∷ ResponseCame 180 90 ∷ CancelAsked 80 ∷ ResponseCame 100 70 ∷ CancelAsked 5 ∷ [])
    ≡ (tells 408, Terminated, None)
    ∷ (NOTHING, Proceeding, Some 32070)
    ∷ (tells 180, Proceeding, Some 32070)
    ∷ (NOTHING, Proceeding, Some 32070)
    ∷ (cancels None, Proceeding, Some 32070)
    ∷ (NOTHING, Calling, Some 32000) ∷ []
unfolding steps found_with first_in_time brings_provisional asks_cancel has_provisional has_asking lets_cancel_go moment_of cancel_moment due_after waiting_due is_reached decides decision accepted_due reaches timer_m state_from client_state due_from client_due told_waiting wants_ack told_accepted out_from client_out
held_cancel = refl

-- a CANCEL in Proceeding goes at once
cancelled_call : steps true 0 (CancelAsked 70 ∷ ResponseCame 487 60 ∷ CancelAsked 50 ∷ ResponseCame 180 40 ∷ [])
    ≡ (NOTHING, Terminated, None)
    ∷ (acknowledges 487, Terminated, None)
    ∷ (cancels None, Proceeding, Some 32050)
    ∷ (tells 180, Proceeding, None) ∷ []
unfolding steps found_with first_in_time brings_provisional asks_cancel has_provisional has_asking lets_cancel_go moment_of cancel_moment due_after waiting_due is_reached decides decision accepted_due reaches timer_m state_from client_state due_from client_due told_waiting wants_ack told_accepted out_from client_out
cancelled_call = refl

-- a held CANCEL of a call that is accepted at once never goes
accepted_before_cancel : steps true 0 (ResponseCame 180 12 ∷ ResponseCame 200 9 ∷ CancelAsked 5 ∷ [])
    ≡ (NOTHING, Accepted, Some 32009)
    ∷ (tells 200, Accepted, Some 32009)
    ∷ (NOTHING, Calling, Some 32000) ∷ []
unfolding steps found_with first_in_time brings_provisional asks_cancel has_provisional has_asking lets_cancel_go moment_of cancel_moment due_after waiting_due is_reached decides decision accepted_due reaches timer_m state_from client_state due_from client_due told_waiting wants_ack told_accepted out_from client_out
accepted_before_cancel = refl

-- another request: timer F counts after a provisional too, and no CANCEL goes
unanswered_request : steps false 7 (MomentCame 32007 ∷ MomentCame 32006 ∷ CancelAsked 50 ∷ ResponseCame 100 40 ∷ [])
    ≡ (tells 408, Terminated, None)
    ∷ (NOTHING, Proceeding, Some 32007)
    ∷ (NOTHING, Proceeding, Some 32007)
    ∷ (NOTHING, Proceeding, Some 32007) ∷ []
unfolding steps found_with first_in_time brings_provisional asks_cancel has_provisional has_asking lets_cancel_go moment_of cancel_moment due_after waiting_due is_reached decides decision accepted_due reaches timer_m state_from client_state due_from client_due told_waiting wants_ack told_accepted out_from client_out
unanswered_request = refl

-- another request has no ACK, and no Accepted
answered_request : steps false 0 (ResponseCame 200 50 ∷ ResponseCame 404 40 ∷ [])
    ≡ (NOTHING, Terminated, None)
    ∷ (tells 404, Terminated, None) ∷ []
unfolding steps found_with first_in_time brings_provisional asks_cancel has_provisional has_asking lets_cancel_go moment_of cancel_moment due_after waiting_due is_reached decides decision accepted_due reaches timer_m state_from client_state due_from client_due told_waiting wants_ack told_accepted out_from client_out
answered_request = refl

-- a lost place
lost_request : steps false 0 (PlaceLost ∷ PlaceLost ∷ [])
    ≡ (NOTHING, Terminated, None)
    ∷ (tells 503, Terminated, None) ∷ []
unfolding steps found_with first_in_time brings_provisional asks_cancel has_provisional has_asking lets_cancel_go moment_of cancel_moment due_after waiting_due is_reached decides decision accepted_due reaches timer_m state_from client_state due_from client_due told_waiting wants_ack told_accepted out_from client_out
lost_request = refl

-- ## Server transactions

-- whether an answer is sent, the last one is sent again, or an ACK is absorbed
unfoldable does : Bool → List ServerItem → ServerItem → Bool
does invite earlier RequestAgain = is_sent_again invite earlier
does invite earlier AckCame = is_absorbed invite earlier
does invite earlier (AnswerGiven code moment) = is_sent invite earlier code
does invite earlier (server.MomentCame moment) = false

unfoldable server_steps : Bool → List ServerItem → List (Bool × TxnState × Option ℕ)
server_steps invite [] = []
server_steps invite (item ∷ earlier) = (does invite earlier item, server_state invite (item ∷ earlier), server_due invite (item ∷ earlier)) ∷ server_steps invite earlier

-- a rejected call: the last answer is sent again until its ACK
rejected_call : server_steps true (RequestAgain ∷ AckCame ∷ AckCame ∷ AnswerGiven 200 10 ∷ RequestAgain ∷ AnswerGiven 486 9 ∷ AckCame ∷ RequestAgain ∷ AnswerGiven 180 5 ∷ RequestAgain ∷ [])
    ≡ (false, Terminated, None)
    ∷ (false, Terminated, None)
    ∷ (true, Terminated, None)
    ∷ (false, Completed, Some 32009)
    ∷ (true, Completed, Some 32009)
    ∷ (true, Completed, Some 32009)
    ∷ (false, Proceeding, None)
    ∷ (true, Proceeding, None)
    ∷ (true, Proceeding, None)
    ∷ (false, Proceeding, None) ∷ []
unfolding server_steps does is_reached found_with first_in_time is_answer has_answer is_final_answer final_answer answers_success final_due ends_decided final_timer state_at server_state due_at server_due sends_in is_sent repeats_in is_sent_again absorbs_in is_absorbed
rejected_call = refl

-- timer H
unacknowledged_call : server_steps true (server.MomentCame 32000 ∷ server.MomentCame 31999 ∷ AnswerGiven 603 0 ∷ [])
    ≡ (false, Terminated, None)
    ∷ (false, Completed, Some 32000)
    ∷ (true, Completed, Some 32000) ∷ []
unfolding server_steps does is_reached found_with first_in_time is_answer has_answer is_final_answer final_answer answers_success final_due ends_decided final_timer state_at server_state due_at server_due sends_in is_sent repeats_in is_sent_again absorbs_in is_absorbed
unacknowledged_call = refl

-- an accepted call: further 2xx are sent, the request again gets nothing, and an ACK is its user's
accepted_answer : server_steps true (AnswerGiven 180 32005 ∷ AnswerGiven 200 32004 ∷ server.MomentCame 32003 ∷ server.MomentCame 32002 ∷ AnswerGiven 486 60 ∷ AnswerGiven 200 50 ∷ AckCame ∷ RequestAgain ∷ AnswerGiven 200 3 ∷ [])
    ≡ (false, Terminated, None)
    ∷ (true, Terminated, None)
    ∷ (false, Terminated, None)
    ∷ (false, Accepted, Some 32003)
    ∷ (false, Accepted, Some 32003)
    ∷ (true, Accepted, Some 32003)
    ∷ (false, Accepted, Some 32003)
    ∷ (false, Accepted, Some 32003)
    ∷ (true, Accepted, Some 32003) ∷ []
unfolding server_steps does is_reached found_with first_in_time is_answer has_answer is_final_answer final_answer answers_success final_due ends_decided final_timer state_at server_state due_at server_due sends_in is_sent repeats_in is_sent_again absorbs_in is_absorbed
accepted_answer = refl

-- another request
request_answered : server_steps false (AnswerGiven 200 3 ∷ RequestAgain ∷ AnswerGiven 200 2 ∷ RequestAgain ∷ AnswerGiven 100 1 ∷ RequestAgain ∷ [])
    ≡ (false, Terminated, None)
    ∷ (false, Terminated, None)
    ∷ (true, Terminated, None)
    ∷ (true, Proceeding, None)
    ∷ (true, Proceeding, None)
    ∷ (false, Trying, None) ∷ []
unfolding server_steps does is_reached found_with first_in_time is_answer has_answer is_final_answer final_answer answers_success final_due ends_decided final_timer state_at server_state due_at server_due sends_in is_sent repeats_in is_sent_again absorbs_in is_absorbed
request_answered = refl
