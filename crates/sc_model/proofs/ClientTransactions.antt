-- The tables of client transactions (RFC 3261 figures 5 and 6, RFC 6026 section 7.2): what the definitions'
-- search of the whole list comes to with one item more.
use Rattle.std.proofs.Common.{◌≡◌, ℕ, ◌+◌, List, [], ◌∷◌, Bool, true, false, not, ◌&&◌, ◌||◌, Option, None, Some, is_some, is_none, if◌then◌else◌, refl, ◌∙◌, sym}
use Rattle.std.specs.Prelude.{option_map}
use Rattle.std.proofs.Common.{arith}
use Rattle.std.proofs.Math.Bool.{and-false}
use Rattle.std.specs.List.{list_any}
use Rattle.sc_parts.specs.declared.transactions.TxnState.TheVariants.{Calling, Trying, Proceeding, Accepted, Terminated}
use Rattle.sc_parts.specs.declared.transactions.ClientItem.{ClientItem}
use Rattle.sc_parts.specs.declared.transactions.ClientItem.TheVariants.{ResponseCame, CancelAsked, MomentCame, PlaceLost}
use Rattle.sc_model.specs.SessionStates.{is_final}
use Rattle.sc_model.specs.Transactions.{TIMEOUT, is_provisional, is_success, Found, found_with, first_in_time, brings_provisional, asks_cancel, has_provisional, has_asking, lets_cancel_go, moment_of, cancel_moment, due_after, waiting_due, is_reached, decides, decision, accepted_due, reaches, timer_m, state_from, client_state, due_from, client_due, NOTHING, told_accepted, out_from, client_out}
use Rattle.sc_model.specs.TransactionTables.{next_waiting, next_state, sends_cancel, provisional_due, next_waiting_due, next_due, waiting_out, output}

-- ## One item more

reaches-none : (item : ClientItem) → reaches None item ≡ false
unfolding reaches is_reached
reaches-none (ResponseCame code moment) = refl
reaches-none (CancelAsked moment) = refl
reaches-none (MomentCame moment) = refl
reaches-none PlaceLost = refl

timer_kept : (due : Option ℕ) (over : Bool) (item : ClientItem) → (if reaches due item || over then None else due) ≡ (if reaches (if over then None else due) item then None else (if over then None else due))
timer_kept due false item = elim (reaches due item) as (λ b. (if b || false then None else due) ≡ (if b then None else due)) [ true ↦ refl | false ↦ refl ]
timer_kept due true item = rw reaches-none (elim (reaches due item) as (λ b. (if b || true then None else due) ≡ None) [ true ↦ refl | false ↦ refl ])

timer_m-next : (invite : Bool) (decided : Found ClientItem) (item : ClientItem) → timer_m invite (record { item = decided.item; after = item ∷ decided.after }) ≡ (if reaches (timer_m invite decided) item then None else timer_m invite decided)
unfolding timer_m
timer_m-next invite decided item = timer_kept (accepted_due invite decided.item) (list_any (reaches (accepted_due invite decided.item)) decided.after) item

lasting : (invite : Bool) (timer : Option ℕ) (item : ClientItem) → (if is_some (if reaches timer item then None else timer) then Accepted else Terminated) ≡ next_state invite (if is_some timer then Accepted else Terminated) timer item
lasting invite None item = rw reaches-none refl
lasting invite (Some due) item = elim (reaches (Some due) item) as (λ b. (if is_some (if b then None else Some due) then Accepted else Terminated) ≡ (if b then Terminated else Accepted)) [ true ↦ refl | false ↦ refl ]

next_state-waiting : (invite provisional : Bool) (due : Option ℕ) (item : ClientItem) → next_state invite (state_from invite provisional None) due item ≡ next_waiting invite (state_from invite provisional None) due item
unfolding state_from
next_state-waiting true true due item = refl
next_state-waiting true false due item = refl
next_state-waiting false true due item = refl
next_state-waiting false false due item = refl

chosen_state : (accepted : Bool) (due : ℕ) → (if is_some (if accepted then Some due else None) then Accepted else Terminated) ≡ (if accepted then Accepted else Terminated)
chosen_state true due = refl
chosen_state false due = refl

state-undecided : (invite provisional : Bool) (sent : ℕ) (passed : List ClientItem) (item : ClientItem) → state_from invite (brings_provisional item || provisional) (found_with item (decides invite sent passed item) None) ≡ next_waiting invite (state_from invite provisional None) (waiting_due invite sent passed) item
unfolding state_from found_with decides brings_provisional timer_m accepted_due reaches
state-undecided invite provisional sent passed (ResponseCame code moment) = elim (is_final code) as (λ final. state_from invite (not final || provisional) (found_with (ResponseCame code moment) final None) ≡ (if final then (if invite && is_success code then Accepted else Terminated) else Proceeding)) [ true ↦ chosen_state (invite && is_success code) (moment + TIMEOUT) | false ↦ refl ]
state-undecided invite provisional sent passed (CancelAsked moment) = refl
state-undecided invite provisional sent passed (MomentCame moment) = elim (is_reached (waiting_due invite sent passed) moment) as (λ b. state_from invite provisional (found_with (MomentCame moment) b None) ≡ (if b then Terminated else state_from invite provisional None)) [ true ↦ refl | false ↦ refl ]
state-undecided invite provisional sent passed PlaceLost = refl

state-decided : (invite later before : Bool) (decided : Found ClientItem) (item : ClientItem) → state_from invite later (Some (record { item = decided.item; after = item ∷ decided.after })) ≡ next_state invite (state_from invite before (Some decided)) (timer_m invite decided) item
unfolding state_from
state-decided invite later before decided item = rw (timer_m-next invite decided item) (lasting invite (timer_m invite decided) item)

state-next : (invite : Bool) (sent : ℕ) (passed : List ClientItem) (item : ClientItem) (decided : Option (Found ClientItem)) → state_from invite (brings_provisional item || has_provisional passed) (found_with item (decides invite sent passed item) decided) ≡ next_state invite (state_from invite (has_provisional passed) decided) (due_from invite (waiting_due invite sent passed) decided) item
unfolding due_from found_with
state-next invite sent passed item None = state-undecided invite (has_provisional passed) sent passed item ∙ sym (next_state-waiting invite (has_provisional passed) (waiting_due invite sent passed) item)
state-next invite sent passed item (Some decided) = state-decided invite (brings_provisional item || has_provisional passed) (has_provisional passed) decided item

pub client_state-next : (invite : Bool) (sent : ℕ) (passed : List ClientItem) (item : ClientItem) → client_state invite sent (item ∷ passed) ≡ next_state invite (client_state invite sent passed) (client_due invite sent passed) item
unfolding client_state client_due decision first_in_time has_provisional
client_state-next invite sent passed item = state-next invite sent passed item (decision invite sent passed)

-- ## The CANCEL

-- the first of two moments, of which the second counts where a test holds
abbrev first_some : Option ℕ → Bool → ℕ → Option ℕ
first_some None test moment = if test then Some moment else None
first_some (Some first) test moment = Some first

found_moment : (item : ClientItem) (test : Bool) (found : Option (Found ClientItem)) → option_map (λ found. moment_of found.item) (found_with item test found) ≡ first_some (option_map (λ found. moment_of found.item) found) test (moment_of item)
unfolding found_with
found_moment item true None = refl
found_moment item false None = refl
found_moment item test (Some found) = refl

cancel_moment-next : (passed : List ClientItem) (item : ClientItem) → cancel_moment (item ∷ passed) ≡ first_some (cancel_moment passed) (lets_cancel_go passed item) (moment_of item)
unfolding cancel_moment first_in_time
cancel_moment-next passed item = found_moment item (lets_cancel_go passed item) (first_in_time lets_cancel_go passed)

some_response : (came : Option ℕ) (moment : ℕ) (brings provisional asked : Bool) → is_some came ≡ (provisional && asked) → is_some (first_some came (brings && asked) moment) ≡ ((brings || provisional) && asked)
some_response came moment brings provisional asked e = grind arith

some_asking : (came : Option ℕ) (moment : ℕ) (provisional asked : Bool) → is_some came ≡ (provisional && asked) → is_some (first_some came provisional moment) ≡ (provisional && true)
some_asking came moment provisional asked e = grind arith

some_other : (came : Option ℕ) (moment : ℕ) → is_some (first_some came false moment) ≡ is_some came
some_other None moment = refl
some_other (Some first) moment = refl

-- a CANCEL was sent exactly where a provisional has passed and it was asked for
pub is_some-cancel_moment : (passed : List ClientItem) → is_some (cancel_moment passed) ≡ (has_provisional passed && has_asking passed)
unfolding has_provisional has_asking lets_cancel_go brings_provisional asks_cancel cancel_moment first_in_time moment_of
is_some-cancel_moment [] = refl
is_some-cancel_moment (ResponseCame code moment ∷ passed) = rw cancel_moment-next (some_response (cancel_moment passed) moment (is_provisional code) (has_provisional passed) (has_asking passed) (is_some-cancel_moment passed))
is_some-cancel_moment (CancelAsked moment ∷ passed) = rw cancel_moment-next (some_asking (cancel_moment passed) moment (has_provisional passed) (has_asking passed) (is_some-cancel_moment passed))
is_some-cancel_moment (MomentCame moment ∷ passed) = rw cancel_moment-next (some_other (cancel_moment passed) moment ∙ is_some-cancel_moment passed)
is_some-cancel_moment (PlaceLost ∷ passed) = rw cancel_moment-next (some_other (cancel_moment passed) 0 ∙ is_some-cancel_moment passed)

sent_by_response : (came : Option ℕ) (brings invite provisional asked : Bool) → is_some came ≡ (provisional && asked) → (invite && is_none came && (brings && asked)) ≡ (invite && not provisional && (asked && brings))
sent_by_response came brings invite provisional asked e = grind arith

sent_by_asking : (came : Option ℕ) (invite provisional asked : Bool) → is_some came ≡ (provisional && asked) → (invite && is_none came && provisional) ≡ (provisional && (invite && not asked))
sent_by_asking came invite provisional asked e = grind arith

-- what the list says of a CANCEL that goes with an item, and the table
cancel-sent : (invite : Bool) (passed : List ClientItem) (item : ClientItem) → (invite && is_none (cancel_moment passed) && lets_cancel_go passed item) ≡ sends_cancel invite (state_from invite (has_provisional passed) None) (has_asking passed) item
unfolding lets_cancel_go state_from
cancel-sent invite passed (ResponseCame code moment) = sent_by_response (cancel_moment passed) (is_provisional code) invite (has_provisional passed) (has_asking passed) (is_some-cancel_moment passed) ∙ in_state invite (has_provisional passed) (has_asking passed)
  where
    in_state : (invite provisional asked : Bool) → (invite && not provisional && (asked && is_provisional code)) ≡ sends_cancel invite (if provisional then Proceeding else (if invite then Calling else Trying)) asked (ResponseCame code moment)
    in_state true true asked = refl
    in_state true false asked = refl
    in_state false true asked = refl
    in_state false false asked = refl
cancel-sent invite passed (CancelAsked moment) = sent_by_asking (cancel_moment passed) invite (has_provisional passed) (has_asking passed) (is_some-cancel_moment passed) ∙ in_state invite (has_provisional passed) (has_asking passed)
  where
    in_state : (invite provisional asked : Bool) → (provisional && (invite && not asked)) ≡ sends_cancel invite (if provisional then Proceeding else (if invite then Calling else Trying)) asked (CancelAsked moment)
    in_state true true asked = refl
    in_state true false asked = refl
    in_state false true asked = refl
    in_state false false asked = refl
cancel-sent invite passed (MomentCame moment) = and-false (invite && is_none (cancel_moment passed))
cancel-sent invite passed PlaceLost = and-false (invite && is_none (cancel_moment passed))

-- ## The timer

due_provisional : (invite provisional asked : Bool) (sent moment : ℕ) (came : Option ℕ) → is_some came ≡ (provisional && asked) → (if invite then due_after sent true (first_some came asked moment) else Some (sent + TIMEOUT)) ≡ provisional_due (state_from invite provisional None) (if invite then due_after sent provisional came else Some (sent + TIMEOUT)) asked moment
unfolding due_after state_from
due_provisional false true asked sent moment came e = refl
due_provisional false false asked sent moment came e = refl
due_provisional true true true sent moment None e = cc
due_provisional true true false sent moment None e = refl
due_provisional true true asked sent moment (Some first) e = refl
due_provisional true false true sent moment None e = refl
due_provisional true false false sent moment None e = refl
due_provisional true false asked sent moment (Some first) e = cc

due_asking : (invite provisional asked : Bool) (sent moment : ℕ) (came : Option ℕ) → is_some came ≡ (provisional && asked) → (if invite then due_after sent provisional (first_some came provisional moment) else Some (sent + TIMEOUT)) ≡ (if sends_cancel invite (state_from invite provisional None) asked (CancelAsked moment) then Some (moment + TIMEOUT) else (if invite then due_after sent provisional came else Some (sent + TIMEOUT)))
unfolding due_after state_from
due_asking false true asked sent moment came e = refl
due_asking false false asked sent moment came e = refl
due_asking true true true sent moment None e = cc
due_asking true true false sent moment None e = refl
due_asking true true true sent moment (Some first) e = refl
due_asking true true false sent moment (Some first) e = cc
due_asking true false asked sent moment None e = refl
due_asking true false asked sent moment (Some first) e = cc

first_some-false : (came : Option ℕ) (moment : ℕ) → first_some came false moment ≡ came
first_some-false None moment = refl
first_some-false (Some first) moment = refl

waiting_due-moment : (invite : Bool) (sent : ℕ) (passed : List ClientItem) (moment : ℕ) → waiting_due invite sent (MomentCame moment ∷ passed) ≡ waiting_due invite sent passed
unfolding waiting_due has_provisional brings_provisional lets_cancel_go
waiting_due-moment invite sent passed moment = rw (cancel_moment-next passed (MomentCame moment), first_some-false (cancel_moment passed) (moment_of (MomentCame moment))) refl

waiting_due-provisional : (invite : Bool) (sent : ℕ) (passed : List ClientItem) (code moment : ℕ) → is_final code ≡ false → waiting_due invite sent (ResponseCame code moment ∷ passed) ≡ provisional_due (state_from invite (has_provisional passed) None) (waiting_due invite sent passed) (has_asking passed) moment
unfolding waiting_due has_provisional brings_provisional lets_cancel_go moment_of
waiting_due-provisional invite sent passed code moment e = rw (cancel_moment-next passed (ResponseCame code moment), e) (due_provisional invite (has_provisional passed) (has_asking passed) sent moment (cancel_moment passed) (is_some-cancel_moment passed))

waiting_due-asking : (invite : Bool) (sent : ℕ) (passed : List ClientItem) (moment : ℕ) → waiting_due invite sent (CancelAsked moment ∷ passed) ≡ (if sends_cancel invite (state_from invite (has_provisional passed) None) (has_asking passed) (CancelAsked moment) then Some (moment + TIMEOUT) else waiting_due invite sent passed)
unfolding waiting_due has_provisional brings_provisional lets_cancel_go moment_of
waiting_due-asking invite sent passed moment = rw (cancel_moment-next passed (CancelAsked moment)) (due_asking invite (has_provisional passed) (has_asking passed) sent moment (cancel_moment passed) (is_some-cancel_moment passed))

next_due-waiting : (invite provisional asked : Bool) (due : Option ℕ) (item : ClientItem) → next_due invite (state_from invite provisional None) due asked item ≡ next_waiting_due invite (state_from invite provisional None) due asked item
unfolding state_from
next_due-waiting true true asked due item = refl
next_due-waiting true false asked due item = refl
next_due-waiting false true asked due item = refl
next_due-waiting false false asked due item = refl

due-undecided : (invite : Bool) (sent : ℕ) (passed : List ClientItem) (item : ClientItem) → due_from invite (waiting_due invite sent (item ∷ passed)) (found_with item (decides invite sent passed item) None) ≡ next_waiting_due invite (state_from invite (has_provisional passed) None) (waiting_due invite sent passed) (has_asking passed) item
unfolding due_from found_with decides timer_m accepted_due reaches
due-undecided invite sent passed (ResponseCame code moment) = by_code (is_final code) refl
  where
    by_code : (final : Bool) → is_final code ≡ final → due_from invite (waiting_due invite sent (ResponseCame code moment ∷ passed)) (found_with (ResponseCame code moment) final None) ≡ (if final then (if invite && is_success code then Some (moment + TIMEOUT) else None) else provisional_due (state_from invite (has_provisional passed) None) (waiting_due invite sent passed) (has_asking passed) moment)
    by_code true e = refl
    by_code false e = waiting_due-provisional invite sent passed code moment e
due-undecided invite sent passed (CancelAsked moment) = waiting_due-asking invite sent passed moment
due-undecided invite sent passed (MomentCame moment) = rw waiting_due-moment (elim (is_reached (waiting_due invite sent passed) moment) as (λ b. due_from invite (waiting_due invite sent passed) (found_with (MomentCame moment) b None) ≡ (if b then None else waiting_due invite sent passed)) [ true ↦ refl | false ↦ refl ])
due-undecided invite sent passed PlaceLost = refl

due-decided : (invite before asked : Bool) (waiting : Option ℕ) (decided : Found ClientItem) (item : ClientItem) → due_from invite waiting (Some (record { item = decided.item; after = item ∷ decided.after })) ≡ next_due invite (state_from invite before (Some decided)) (timer_m invite decided) asked item
unfolding state_from due_from
due-decided invite before asked waiting decided item = rw (timer_m-next invite decided item) (kept (timer_m invite decided))
  where
    kept : (timer : Option ℕ) → (if reaches timer item then None else timer) ≡ next_due invite (if is_some timer then Accepted else Terminated) timer asked item
    kept None = rw reaches-none refl
    kept (Some due) = refl

due-next : (invite : Bool) (sent : ℕ) (passed : List ClientItem) (item : ClientItem) (decided : Option (Found ClientItem)) → due_from invite (waiting_due invite sent (item ∷ passed)) (found_with item (decides invite sent passed item) decided) ≡ next_due invite (state_from invite (has_provisional passed) decided) (due_from invite (waiting_due invite sent passed) decided) (has_asking passed) item
unfolding due_from found_with
due-next invite sent passed item None = due-undecided invite sent passed item ∙ sym (next_due-waiting invite (has_provisional passed) (has_asking passed) (waiting_due invite sent passed) item)
due-next invite sent passed item (Some decided) = due-decided invite (has_provisional passed) (has_asking passed) (waiting_due invite sent (item ∷ passed)) decided item

pub client_due-next : (invite : Bool) (sent : ℕ) (passed : List ClientItem) (item : ClientItem) → client_due invite sent (item ∷ passed) ≡ next_due invite (client_state invite sent passed) (client_due invite sent passed) (has_asking passed) item
unfolding client_state client_due decision first_in_time
client_due-next invite sent passed item = due-next invite sent passed item (decision invite sent passed)

-- ## The outputs

output-waiting : (invite provisional asked : Bool) (due : Option ℕ) (item : ClientItem) → waiting_out invite (state_from invite provisional None) due asked item ≡ output invite (state_from invite provisional None) due asked item
unfolding state_from
output-waiting true true asked due item = refl
output-waiting true false asked due item = refl
output-waiting false true asked due item = refl
output-waiting false false asked due item = refl

out-next : (invite : Bool) (sent : ℕ) (passed : List ClientItem) (item : ClientItem) (decided : Option (Found ClientItem)) → out_from invite sent passed item decided ≡ output invite (state_from invite (has_provisional passed) decided) (due_from invite (waiting_due invite sent passed) decided) (has_asking passed) item
unfolding out_from due_from state_from
out-next invite sent passed item None = rw (cancel-sent invite passed item) (output-waiting invite (has_provisional passed) (has_asking passed) (waiting_due invite sent passed) item)
out-next invite sent passed item (Some decided) = later (timer_m invite decided)
  where
    later : (timer : Option ℕ) → (if is_some timer then record NOTHING { tell = told_accepted item } else NOTHING) ≡ output invite (if is_some timer then Accepted else Terminated) timer (has_asking passed) item
    later None = refl
    later (Some due) = refl

pub client_out-is : (invite : Bool) (sent : ℕ) (passed : List ClientItem) (item : ClientItem) → client_out invite sent passed item ≡ output invite (client_state invite sent passed) (client_due invite sent passed) (has_asking passed) item
unfolding client_state client_due client_out
client_out-is invite sent passed item = out-next invite sent passed item (decision invite sent passed)
