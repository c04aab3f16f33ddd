-- Client transactions (RFC 3261 section 17.1, with RFC 6026 for INVITE). What has passed a
-- transaction is a list with the newest item first. Its state, its timer and what it does are found
-- by a search of that list for the item that decided it. Moments are in milliseconds. The transport
-- is reliable: no request is sent again by a timer, and timers D and K are 0.
use Rattle.std.specs.Prelude.{ℕ, ◌+◌, ◌==◌, List, [], ◌∷◌, Bool, true, false, not, ◌&&◌, Option, None, Some, is_some, is_none, option_map, nat_lt, nat_le, if◌then◌else◌}
use Rattle.std.specs.List.{list_any}
use Rattle.sc_parts.specs.declared.transactions.TxnState.{TxnState}
use Rattle.sc_parts.specs.declared.transactions.TxnState.TheVariants.{Calling, Trying, Proceeding, Completed, Accepted, Terminated}
use Rattle.sc_parts.specs.declared.transactions.ClientOut.{ClientOut}
use Rattle.sc_parts.specs.declared.transactions.ClientItem.{ClientItem}
use Rattle.sc_parts.specs.declared.transactions.ClientItem.TheVariants.{ResponseCame, CancelAsked, MomentCame, PlaceLost}
use Rattle.sc_model.specs.SessionStates.{is_final}

-- 64*T1, the time of timers B, F, H, L and M, and of an INVITE after its CANCEL (RFC 3261 sections
-- 9.1 and 17, RFC 6026 sections 7.1 and 7.2)
abbrev pub TIMEOUT : ℕ
TIMEOUT = 32000

-- ## Codes (RFC 3261 section 7.2)

-- a 1xx
abbrev pub is_provisional : ℕ → Bool
is_provisional code = not (is_final code)

-- a 2xx
abbrev pub is_success : ℕ → Bool
is_success code = is_final code && nat_lt code 300

-- a final response other than a 2xx
abbrev pub is_failure : ℕ → Bool
is_failure code = nat_le 300 code

-- ## The first item in time

-- an item of a list, with what came after it
pub record Found (A : Type 0) : Type 0 where
  pub item : A
  pub after : List A

-- the search after one item more, which passes the test or doesn't
unfoldable pub found_with : {A : Type 0} → A → Bool → Option (Found A) → Option (Found A)
found_with item passes None = if passes then Some (record { item = item; after = [] }) else None
found_with item passes (Some found) =
    Some (record { item = found.item; after = item ∷ found.after })

-- the first item in time that passes a test, which also sees what came before the item
unfoldable pub first_in_time : {A : Type 0} → (List A → A → Bool) → List A → Option (Found A)
first_in_time test [] = None
first_in_time test (item ∷ earlier) =
    found_with item (test earlier item) (first_in_time test earlier)

-- ## CANCEL (RFC 3261 section 9.1)

-- the item is a provisional response, a 100 too
unfoldable pub brings_provisional : ClientItem → Bool
brings_provisional (ResponseCame code moment) = is_provisional code
brings_provisional (CancelAsked moment) = false
brings_provisional (MomentCame moment) = false
brings_provisional PlaceLost = false

-- the item asks for a CANCEL
unfoldable pub asks_cancel : ClientItem → Bool
asks_cancel (ResponseCame code moment) = false
asks_cancel (CancelAsked moment) = true
asks_cancel (MomentCame moment) = false
asks_cancel PlaceLost = false

-- a provisional response has passed
unfoldable pub has_provisional : List ClientItem → Bool
has_provisional passed = list_any brings_provisional passed

-- a CANCEL was asked for
unfoldable pub has_asking : List ClientItem → Bool
has_asking passed = list_any asks_cancel passed

-- a CANCEL can go with this item: it is asked for where a provisional has passed, or a provisional
-- comes where it was asked for
unfoldable pub lets_cancel_go : List ClientItem → ClientItem → Bool
lets_cancel_go earlier (ResponseCame code moment) = is_provisional code && has_asking earlier
lets_cancel_go earlier (CancelAsked moment) = has_provisional earlier
lets_cancel_go earlier (MomentCame moment) = false
lets_cancel_go earlier PlaceLost = false

-- the moment of an item; the loss of a place has none, and counts as 0
unfoldable pub moment_of : ClientItem → ℕ
moment_of (ResponseCame code moment) = moment
moment_of (CancelAsked moment) = moment
moment_of (MomentCame moment) = moment
moment_of PlaceLost = 0

-- the moment at which the CANCEL of an INVITE was sent: that of the first item with which it could
-- go
unfoldable pub cancel_moment : List ClientItem → Option ℕ
cancel_moment passed =
    option_map (λ found. moment_of found.item) (first_in_time lets_cancel_go passed)

-- ## The timer of a transaction that nothing has decided

-- when timer B is due, none where a provisional has passed, or the time after a sent CANCEL
unfoldable pub due_after : ℕ → Bool → Option ℕ → Option ℕ
due_after sent provisional None = if provisional then None else Some (sent + TIMEOUT)
due_after sent provisional (Some cancelled) = Some (cancelled + TIMEOUT)

-- when it is due: timer F after sending; for INVITE the time after a CANCEL, and where none was
-- sent timer B after sending, which counts only where no provisional has passed
unfoldable pub waiting_due : Bool → ℕ → List ClientItem → Option ℕ
waiting_due invite sent passed =
    if invite then due_after sent (has_provisional passed) (cancel_moment passed)
    else Some (sent + TIMEOUT)

-- a timer is due by this moment
unfoldable pub is_reached : Option ℕ → ℕ → Bool
is_reached None moment = false
is_reached (Some due) moment = nat_le due moment

-- ## What decides a transaction

-- a final response, a moment at which the timer is due, or the loss of the place
unfoldable pub decides : Bool → ℕ → List ClientItem → ClientItem → Bool
decides invite sent earlier (ResponseCame code moment) = is_final code
decides invite sent earlier (CancelAsked moment) = false
decides invite sent earlier (MomentCame moment) =
    is_reached (waiting_due invite sent earlier) moment
decides invite sent earlier PlaceLost = true

-- the item that decided the transaction, with what came after it
unfoldable pub decision : Bool → ℕ → List ClientItem → Option (Found ClientItem)
decision invite sent passed = first_in_time (decides invite sent) passed

-- ## After the decision: timer M of RFC 6026 section 7.2

-- when it is due: where a 2xx decided an INVITE
unfoldable pub accepted_due : Bool → ClientItem → Option ℕ
accepted_due invite (ResponseCame code moment) =
    if invite && is_success code then Some (moment + TIMEOUT) else None
accepted_due invite (CancelAsked moment) = None
accepted_due invite (MomentCame moment) = None
accepted_due invite PlaceLost = None

-- the item is a moment at which a timer is due
unfoldable pub reaches : Option ℕ → ClientItem → Bool
reaches due (ResponseCame code moment) = false
reaches due (CancelAsked moment) = false
reaches due (MomentCame moment) = is_reached due moment
reaches due PlaceLost = false

-- when timer M is due, as long as it runs: no moment since the deciding item has reached it
unfoldable pub timer_m : Bool → Found ClientItem → Option ℕ
timer_m invite decided =
    if list_any (reaches (accepted_due invite decided.item)) decided.after then None
    else accepted_due invite decided.item

-- ## The state, and when the timer that runs is due

-- the state by whether a provisional has passed and by what decided the transaction
unfoldable pub state_from : Bool → Bool → Option (Found ClientItem) → TxnState
state_from invite provisional None =
    if provisional then Proceeding else (if invite then Calling else Trying)
state_from invite provisional (Some decided) =
    if is_some (timer_m invite decided) then Accepted else Terminated

-- the state of a transaction of an INVITE or of another request, sent at a moment, that these items
-- have passed
unfoldable pub client_state : Bool → ℕ → List ClientItem → TxnState
client_state invite sent passed =
    state_from invite (has_provisional passed) (decision invite sent passed)

-- the states in which nothing has decided the transaction
abbrev pub is_undecided : TxnState → Bool
is_undecided Calling = true
is_undecided Trying = true
is_undecided Proceeding = true
is_undecided Completed = false
is_undecided Accepted = false
is_undecided Terminated = false

-- when the timer that runs is due: the one given while nothing decided, then timer M
unfoldable pub due_from : Bool → Option ℕ → Option (Found ClientItem) → Option ℕ
due_from invite waiting None = waiting
due_from invite waiting (Some decided) = timer_m invite decided

-- the moment at which the timer that runs is due, none where none runs
unfoldable pub client_due : Bool → ℕ → List ClientItem → Option ℕ
client_due invite sent passed =
    due_from invite (waiting_due invite sent passed) (decision invite sent passed)

-- ## What a transaction does with an item

-- nobody is told anything, and no ACK and no CANCEL goes out
abbrev pub NOTHING : ClientOut
NOTHING = record { tell = None; ack = false; cancel = false }

-- the code that its user is told: 100 isn't told, a timer tells 408 and a lost place 503
unfoldable pub told_waiting : Option ℕ → ClientItem → Option ℕ
told_waiting due (ResponseCame code moment) = if code == 100 then None else Some code
told_waiting due (CancelAsked moment) = None
told_waiting due (MomentCame moment) = if is_reached due moment then Some 408 else None
told_waiting due PlaceLost = Some 503

-- the item is a final response that an ACK is sent for (RFC 3261 section 17.1.1.3)
unfoldable pub wants_ack : ClientItem → Bool
wants_ack (ResponseCame code moment) = is_failure code
wants_ack (CancelAsked moment) = false
wants_ack (MomentCame moment) = false
wants_ack PlaceLost = false

-- in Accepted a further 2xx is told, and nothing else
unfoldable pub told_accepted : ClientItem → Option ℕ
told_accepted (ResponseCame code moment) = if is_success code then Some code else None
told_accepted (CancelAsked moment) = None
told_accepted (MomentCame moment) = None
told_accepted PlaceLost = None

-- what is done with an item, by what decided the transaction before it
unfoldable pub out_from : Bool → ℕ → List ClientItem → ClientItem → Option (Found ClientItem)
    → ClientOut
out_from invite sent passed item None = record {
  tell = told_waiting (waiting_due invite sent passed) item;
  ack = invite && wants_ack item;
  cancel = invite && is_none (cancel_moment passed) && lets_cancel_go passed item;
}
out_from invite sent passed item (Some decided) =
    if is_some (timer_m invite decided) then record NOTHING { tell = told_accepted item }
    else NOTHING

-- what it does with an item that comes where these have passed
unfoldable pub client_out : Bool → ℕ → List ClientItem → ClientItem → ClientOut
client_out invite sent passed item = out_from invite sent passed item (decision invite sent passed)
