-- What the answer of a listed call tells.
use Rattle.std.proofs.Common.{◌≡◌, ℕ, ◌<◌, ◌≤◌, Bool, true, false, Option, None, Some, Ok, Err, nat_le, refl, sym, ap, ◌∙◌, arith}
use Rattle.std.proofs.lemmas.Bool.Decides.{nat_tests}
use Rattle.sc_terms.specs.declared.calls.Call.{Call}
use Rattle.sc_terms.specs.declared.calls.Call.TheVariants as calls
use Rattle.sc_terms.specs.declared.calls.CallAnswer.{CallAnswer}
use Rattle.sc_terms.specs.declared.calls.CallAnswer.TheVariants.{Fine, Number, Refused}
use Rattle.sc_terms.specs.declared.calls.Refusal.{Refusal}
use Rattle.sc_terms.specs.declared.calls.Refusal.TheVariants.{Limit, NoMemory}
use Rattle.sc_state.specs.declared.working.Play.{Play}
use Rattle.sc_hosts.specs.Effects.{answer_to_call as accepted, answer_by, answer_of}
use Rattle.sc_hosts.specs.RefusalParts.{MOST_CALLS, first_of}
use Rattle.sc_hosts.specs.Refusals.{refusal}
use Rattle.sc_turn.specs.Working.{Working, play_of, after_made, after_refused, after_starved, IsAccepted, IsRefused, Answers}

-- an accepted call answers no refusal
never_refused : (play : Play) (call : Call) (refused : Refusal) → accepted play call ≡ Refused refused → ⊥
unfolding accepted
never_refused play (calls.Respond req answer) refused e = cc
never_refused play (calls.CreateRequest ask) refused e = cc
never_refused play (calls.CreateInDialog sess ask) refused e = cc
never_refused play (calls.B2bCreate req uri) refused e = cc
never_refused play (calls.SetDirective draft directive origin) refused e = cc
never_refused play (calls.Send draft) refused e = cc
never_refused play (calls.Discard draft) refused e = cc
never_refused play (calls.Ack sess body) refused e = cc
never_refused play (calls.Cancel req) refused e = cc
never_refused play (calls.ProxyTo req uris how) refused e = cc
never_refused play (calls.ProxyCancel req) refused e = cc
never_refused play (calls.B2bRespond sess answer) refused e = cc
never_refused play (calls.Link a b) refused e = cc
never_refused play (calls.Unlink a) refused e = cc
never_refused play (calls.StartTimer delay period info) refused e = cc
never_refused play (calls.CancelTimer id) refused e = cc
never_refused play (calls.SetAttribute name value) refused e = cc
never_refused play (calls.RemoveAttribute name) refused e = cc
never_refused play (calls.SetExpires minutes) refused e = cc
never_refused play (calls.SetReadyFlag target flag) refused e = cc
never_refused play (calls.InvalidateSession sess) refused e = cc
never_refused play calls.InvalidateApplication refused e = cc

refused_by : (play : Play) (call : Call) (o : Option Refusal) (refused : Refusal) → answer_by play call o ≡ Refused refused → o ≡ Some refused
unfolding answer_by
refused_by play call None refused e = absurd (never_refused play call refused e)
refused_by play call (Some other) refused e = cc

-- a refusal that is listed is the call's own
pub refused_is : (play : Play) (call : Call) (answer : CallAnswer) (refused : Refusal) → answer_of play call ≡ answer → answer ≡ Refused refused → refusal play call ≡ Some refused
unfolding answer_of
refused_is play call answer refused e is = refused_by play call (refusal play call) refused (e ∙ is)

accepted_by : (play : Play) (call : Call) (o : Option Refusal) (answer : CallAnswer) → answer_by play call o ≡ answer → ((refused : Refusal) → answer ≡ Refused refused → ⊥) → (o ≡ None) × (answer ≡ accepted play call)
unfolding answer_by
accepted_by play call None answer e not_refused = (refl, sym e)
accepted_by play call (Some refused) answer e not_refused = absurd (not_refused refused (sym e))

pub fine_is : (play : Play) (call : Call) (answer : CallAnswer) → answer_of play call ≡ answer → answer ≡ Fine → (refusal play call ≡ None) × (answer ≡ accepted play call)
unfolding answer_of
fine_is play call answer e is = accepted_by play call (refusal play call) answer e (λ refused other. cc)

pub number_is : (play : Play) (call : Call) (answer : CallAnswer) (n : ℕ) → answer_of play call ≡ answer → answer ≡ Number n → (refusal play call ≡ None) × (answer ≡ accepted play call)
unfolding answer_of
number_is play call answer n e is = accepted_by play call (refusal play call) answer e (λ refused other. cc)

-- ## What a call makes of a turn

pub made_fine : (call : Call) (old new : Working) → old.starved ≡ false → answer_of (play_of old) call ≡ Fine → new ≡ after_made call old → Answers {X = CallAnswer} (λ answer. answer) call old (Ok Fine) new
unfolding Answers IsAccepted
made_fine call old new memory e is = let so = fine_is (play_of old) call Fine e refl in (memory, so.0, so.1, is)

pub made_number : (call : Call) (old new : Working) (n : ℕ) → old.starved ≡ false → answer_of (play_of old) call ≡ Number n → new ≡ after_made call old → Answers {X = CallAnswer} (λ answer. answer) call old (Ok (Number n)) new
unfolding Answers IsAccepted
made_number call old new n memory e is = let so = number_is (play_of old) call (Number n) n e refl in (memory, so.0, so.1, is)

unfilled : (call : Call) (old : Working) (b : Bool) → nat_le MOST_CALLS (play_of old).listed ≡ b → (play_of old).listed < MOST_CALLS → after_made call old ≡ after_refused call old
unfolding after_refused
unfilled call old true e below = absurd (grind (arith, nat_tests))
unfilled call old false e below = rw e refl

fed : (call : Call) (old new : Working) → old.starved ≡ false → new ≡ after_made call old → new.starved ≡ false
unfolding after_made
fed call old new memory is = rw is memory

pub made_refused : (call : Call) (old new : Working) (refused : Refusal) → old.starved ≡ false → (play_of old).listed < MOST_CALLS → answer_of (play_of old) call ≡ Refused refused → new ≡ after_made call old
    → Answers {X = CallAnswer} (λ answer. answer) call old (Err refused) new
unfolding Answers IsRefused
made_refused call old new refused memory below e is = (
  λ still. (refused_is (play_of old) call (Refused refused) refused e refl, is ∙ unfilled call old (nat_le MOST_CALLS (play_of old).listed) refl below),
  λ starved. absurd (falsely (fed call old new memory is) starved),
)
  where
    falsely : {b : Bool} → b ≡ false → b ≡ true → ⊥
    falsely p q = cc

full_refusal : (play : Play) (call : Call) → nat_le MOST_CALLS play.listed ≡ true → refusal play call ≡ Some (Limit 256)
unfolding refusal first_of
full_refusal play call e = rw e refl

pub full_turn : (call : Call) (old : Working) → old.starved ≡ false → MOST_CALLS ≤ (play_of old).listed → Answers {X = CallAnswer} (λ answer. answer) call old (Err (Limit 256)) old
unfolding Answers IsRefused after_refused
full_turn call old memory full =
    let e : nat_le MOST_CALLS (play_of old).listed ≡ true = grind (arith, nat_tests) in (
      λ still. (full_refusal (play_of old) call e, rw e refl),
      λ starved. absurd (falsely memory starved),
    )
  where
    falsely : {b : Bool} → b ≡ false → b ≡ true → ⊥
    falsely p q = cc

pub starved_turn : {X : Type 0} (make : X → CallAnswer) (call : Call) (old new : Working) → new ≡ after_starved old → Answers make call old (Err NoMemory) new
unfolding Answers IsRefused after_starved
starved_turn make call old new is = (λ still. absurd (falsely (rw is at still)), λ starved. (refl, is))
  where
    falsely : true ≡ false → ⊥
    falsely e = cc

same : (old : Working) → old.starved ≡ true → old ≡ after_starved old
unfolding after_starved
same old e = ap (λ b. record { shown = old.shown; calls = old.calls; starved = b }) e

pub starved_before : (call : Call) (old : Working) → old.starved ≡ true → Answers {X = CallAnswer} (λ answer. answer) call old (Err NoMemory) old
starved_before call old e = starved_turn {X = CallAnswer} (λ answer. answer) call old old (same old e)
