-- Once its moment has come nothing of a transaction is due by it.
use Rattle.std.proofs.Common.{◌≡◌, ℕ, Bool, true, false, Option, None, Some, List, ◌∷◌, refl, ap, ◌∙◌}
use Rattle.std.specs.Prelude.{cond, is_some}
use Rattle.sc_parts.specs.declared.transactions.ClientItem.{ClientItem}
use Rattle.sc_parts.specs.declared.transactions.ClientItem.TheVariants as client_items
use Rattle.sc_parts.specs.declared.transactions.ServerItem.{ServerItem}
use Rattle.sc_parts.specs.declared.transactions.ServerItem.TheVariants as server_items
use Rattle.sc_parts.specs.declared.transactions.TxnState.TheVariants.{Accepted, Completed, Terminated}
use Rattle.sc_state.specs.declared.host.Client.{Client}
use Rattle.sc_state.specs.declared.host.Server.{Server}
use Rattle.sc_model.specs.ServerTransactions.{answers_success, due_at, final_answer, final_timer, has_answer, server_due, server_state, state_at}
use Rattle.sc_model.specs.Transactions.{Found, client_due, client_state, decision, due_from, has_asking, has_provisional, is_reached, reaches, state_from, timer_m, waiting_due}
use Rattle.sc_model.specs.TransactionTables.{next_due, next_server_due}
use Rattle.sc_model.proofs.ClientTransactions.{client_due-next}
use Rattle.sc_model.proofs.ServerTransactions.{server_due-next}
use Rattle.sc_hosts.specs.Transacting.{client_passed, due_of_client, due_of_server, server_passed}
use Rattle.sc_state.specs.Standing.{is_invite_client, is_invite_server}

-- a timer that is reached runs no more
dropped : (b : Bool) (due : Option ℕ) (now : ℕ) → is_reached due now ≡ b → is_reached (cond b None due) now ≡ false
unfolding is_reached
dropped true due now is = refl
dropped false due now is = is

-- ## Clients

waiting-after : (invite provisional : Bool) (due : Option ℕ) (asked : Bool) (now : ℕ)
    → is_reached (next_due invite (state_from invite provisional None) due asked (client_items.MomentCame now)) now ≡ false
unfolding state_from
waiting-after invite true due asked now = dropped (is_reached due now) due now refl
waiting-after true false due asked now = dropped (is_reached due now) due now refl
waiting-after false false due asked now = dropped (is_reached due now) due now refl

accepted-after : (invite : Bool) (due : Option ℕ) (asked : Bool) (now : ℕ)
    → is_reached (next_due invite (cond (is_some due) Accepted Terminated) due asked (client_items.MomentCame now)) now ≡ false
unfolding reaches is_reached
accepted-after invite None asked now = refl
accepted-after invite (Some due) asked now = dropped (is_reached (Some due) now) (Some due) now refl

found-after : (invite : Bool) (sent : ℕ) (passed : List ClientItem) (now : ℕ) (found : Option (Found ClientItem))
    → is_reached (next_due invite (state_from invite (has_provisional passed) found) (due_from invite (waiting_due invite sent passed) found) (has_asking passed) (client_items.MomentCame now)) now ≡ false
unfolding state_from due_from
found-after invite sent passed now None = waiting-after invite (has_provisional passed) (waiting_due invite sent passed) (has_asking passed) now
found-after invite sent passed now (Some decided) = accepted-after invite (timer_m invite decided) (has_asking passed) now

client-after : (invite : Bool) (sent : ℕ) (passed : List ClientItem) (now : ℕ)
    → is_reached (client_due invite sent (client_items.MomentCame now ∷ passed)) now ≡ false
unfolding client_due client_state
client-after invite sent passed now =
    ap (λ (due : Option ℕ). is_reached due now) (client_due-next invite sent passed (client_items.MomentCame now)) ∙ found-after invite sent passed now (decision invite sent passed)

pub client-done : (client : Client) (now : ℕ)
    → is_reached (due_of_client (client_passed (client_items.MomentCame now) client)) now ≡ false
unfolding due_of_client client_passed
client-done client now = client-after (is_invite_client client) client.sent client.passed now

-- ## Servers

final-after : (invite success : Bool) (due : Option ℕ) (now : ℕ)
    → is_reached (next_server_due invite (cond (is_some due) (cond success Accepted Completed) Terminated) due (server_items.MomentCame now)) now ≡ false
unfolding is_reached
final-after invite success None now = refl
final-after invite true (Some due) now = dropped (is_reached (Some due) now) (Some due) now refl
final-after invite false (Some due) now = dropped (is_reached (Some due) now) (Some due) now refl

undecided-after : (invite answered : Bool) (now : ℕ)
    → is_reached (next_server_due invite (state_at invite answered None) None (server_items.MomentCame now)) now ≡ false
unfolding state_at is_reached
undecided-after true answered now = refl
undecided-after false true now = refl
undecided-after false false now = refl

answer-after : (invite : Bool) (passed : List ServerItem) (now : ℕ) (found : Option (Found ServerItem))
    → is_reached (next_server_due invite (state_at invite (has_answer passed) found) (due_at invite found) (server_items.MomentCame now)) now ≡ false
unfolding due_at state_at
answer-after invite passed now None = undecided-after invite (has_answer passed) now
answer-after invite passed now (Some decided) = final-after invite (answers_success decided.item) (final_timer invite decided) now

server-after : (invite : Bool) (passed : List ServerItem) (now : ℕ)
    → is_reached (server_due invite (server_items.MomentCame now ∷ passed)) now ≡ false
unfolding server_due server_state
server-after invite passed now =
    ap (λ (due : Option ℕ). is_reached due now) (server_due-next invite passed (server_items.MomentCame now)) ∙ answer-after invite passed now (final_answer passed)

pub server-done : (server : Server) (now : ℕ)
    → is_reached (due_of_server (server_passed (server_items.MomentCame now) server)) now ≡ false
unfolding due_of_server server_passed
server-done server now = server-after (is_invite_server server) server.passed now
