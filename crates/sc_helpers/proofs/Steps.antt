-- One call of a helper, and what follows it.
use Rattle.std.proofs.Common.{◌≡◌, ℕ, ◌+◌, zero, suc, Bool, true, false, if◌then◌else◌, Option, None, Some, Result, Ok, Err, List, IfOk, inl, inr, refl, subst, arith}
use Rattle.sc_value.specs.declared.ids.SessId.{SessId}
use Rattle.sc_value.specs.declared.ids.TimerId.{TimerId}
use Rattle.sc_value.specs.declared.parts.Field.{Field}
use Rattle.sc_terms.specs.declared.calls.Call.{Call}
use Rattle.sc_terms.specs.declared.calls.Call.TheVariants as calls
use Rattle.sc_terms.specs.declared.calls.CallAnswer.{CallAnswer}
use Rattle.sc_terms.specs.declared.calls.CallAnswer.TheVariants as answers
use Rattle.sc_terms.specs.declared.calls.Refusal.{Refusal}
use Rattle.sc_terms.specs.declared.calls.Refusal.TheVariants.{NoMemory}
use Rattle.sc_hosts.specs.Scripting.{Script, Done, Make, is_refused, only, with_number}
use Rattle.sc_tokens.specs.Bytes.{Bytes}
use Rattle.sc_hosts.specs.HelperParts.{accepted_then, send_in}
use Rattle.sc_turn.specs.Working.{Working, after_made, Answers, IsAccepted, IsRefused}
use Rattle.sc_apps.proofs.Playing as playing
use Rattle.sc_helpers.specs.Leading.{cancel_some, remove_if}
use Rattle.sc_helpers.specs.Stopping.{GoesThrough, IsFirstRefused, StopsAfter, Goes, Leads, Gives, IsCarried, IsCounted, IsDone}
use Rattle.sc_helpers.specs.declared.stopping.Stopped.{Stopped}

-- ## A call that was accepted, and one that wasn't

went_on : (call : Call) (next : CallAnswer → Script) (before : ℕ) (old mid last : Working) (answer : CallAnswer) (result : Result (Unit {0}) Stopped)
    → IsAccepted call old answer mid → Goes (before + 1) (next answer) mid result last → Goes before (Make call next) old result last
unfolding IsAccepted Goes GoesThrough StopsAfter
went_on call next before old mid last answer (Ok x) (fed, none, is, after) rest = ((fed, none, refl, refl), rw (← is, ← after) rest)
went_on call next before old mid last answer (Err stop) (fed, none, is, after) (made, count, stops) =
    (suc made, omega (arith, count), ((fed, none, refl, refl), rw (← is, ← after) stops))

turned_off : (call : Call) (next : CallAnswer → Script) (before : ℕ) (old new : Working) (stop : Stopped) → stop.made ≡ before → IsRefused call old stop.refusal new → Goes before (Make call next) old (Err stop) new
unfolding Goes StopsAfter IsFirstRefused
turned_off call next before old new stop count is = (zero, omega (arith, count), inr is)

-- memory was wanting for what a call names
pub goes_wanting : (script : Script) (before : ℕ) (old : Working) (stop : Stopped) → stop.refusal ≡ NoMemory → stop.made ≡ before → Goes before script old (Err stop) old
unfolding Goes StopsAfter
goes_wanting script before old stop wants count = (zero, omega (arith, count), inl (wants, refl))

pub led_wanting : (part : Script → Script) (before : ℕ) (old : Working) (stop : Stopped) → stop.refusal ≡ NoMemory → stop.made ≡ before → Leads part before old (Err stop) old
unfolding Leads
led_wanting part before old stop wants count = λ script. goes_wanting (part script) before old stop wants count

pub given_wanting : (call : Call) (before : ℕ) (old : Working) (stop : Stopped) → stop.refusal ≡ NoMemory → stop.made ≡ before → Gives call before old (Err stop) old
unfolding Gives
given_wanting call before old stop wants count = λ next. goes_wanting (Make call (with_number next)) before old stop wants count

-- every script that makes no call went through
pub goes_done : (before : ℕ) (old : Working) (x : Unit {0}) → Goes before Done old (Ok x) old
unfolding Goes GoesThrough
goes_done before old x = refl

-- ## Calls that answer nothing

led_accepted : (call : Call) (before : ℕ) (old mid : Working) → IsAccepted call old answers.Fine mid → Leads (accepted_then call) before old (Ok (before + 1)) mid
unfolding Leads accepted_then is_refused
led_accepted call before old mid is = λ script result last rest. went_on call _ before old mid last answers.Fine result is rest

pub led_refused : (call : Call) (before : ℕ) (old mid : Working) (stop : Stopped) → stop.made ≡ before → IsRefused call old stop.refusal mid → Leads (accepted_then call) before old (Err stop) mid
unfolding Leads accepted_then
led_refused call before old mid stop count is = λ script. turned_off call _ before old mid stop count is

-- a call that gives a number may be made for its effect alone
pub led_number : (call : Call) (before n : ℕ) (old mid : Working) → IsAccepted call old (answers.Number n) mid → Leads (accepted_then call) before old (Ok (before + 1)) mid
unfolding Leads accepted_then is_refused
led_number call before n old mid is = λ script result last rest. went_on call _ before old mid last (answers.Number n) result is rest

pub led_called : (call : Call) (before : ℕ) (old mid : Working) (told : Result (Unit {0}) Refusal) (out : Result ℕ Stopped) → Answers {X = Unit {0}} (λ x. answers.Fine) call old told mid → IsCounted before told out
    → Leads (accepted_then call) before old out mid
unfolding Answers IsCounted
led_called call before old mid (Ok x) out is count = rw count (led_accepted call before old mid is)
led_called call before old mid (Err refused) out is count = rw count (led_refused call before old mid _ refl is)

pub accepted_same : (call : Call) (old new : Working) (answer : CallAnswer) → IsAccepted call old answer new → new.shown ≡ old.shown
accepted_same call old new answer is = playing.accepted_same call old new answer is

pub refused_same : (call : Call) (old new : Working) (refused : Refusal) → IsRefused call old refused new → new.shown ≡ old.shown
refused_same call old new refused is = playing.refused_same call old new refused is

pub called_same : (call : Call) (old new : Working) (told : Result (Unit {0}) Refusal) → Answers {X = Unit {0}} (λ x. answers.Fine) call old told new → new.shown ≡ old.shown
unfolding Answers
called_same call old new (Ok x) is = accepted_same call old new answers.Fine is
called_same call old new (Err refused) is = refused_same call old new refused is

pub counted_one : (before : ℕ) (told : Result (Unit {0}) Refusal) (out : Result ℕ Stopped) → IsCounted before told out → IfOk out (λ after. after ≡ before + 1)
unfolding IsCounted
counted_one before (Ok x) out count = rw count refl
counted_one before (Err refused) out count = rw count tt

-- ## A timer

pub given_number : (call : Call) (before n : ℕ) (old mid : Working) → IsAccepted call old (answers.Number n) mid → Gives call before old (Ok n) mid
unfolding Gives with_number
given_number call before n old mid is = λ next result last rest. went_on call _ before old mid last (answers.Number n) result is rest

pub given_refused : (call : Call) (before : ℕ) (old mid : Working) (refused : Refusal) → IsRefused call old refused mid → Gives call before old (Err (record { refusal = refused; made = before })) mid
unfolding Gives
given_refused call before old mid refused is = λ next. turned_off call _ before old mid _ refl is

-- ## No call, or one

pub led_uncancelled : (before : ℕ) (turn : Working) → Leads (cancel_some None) before turn (Ok before) turn
unfolding Leads cancel_some
led_uncancelled before turn = λ script result last rest. rest

pub led_cancelled : (id : TimerId) (before : ℕ) (old mid : Working) (out : Result ℕ Stopped) → Leads (accepted_then (calls.CancelTimer id)) before old out mid → Leads (cancel_some (Some id)) before old out mid
unfolding Leads cancel_some
led_cancelled id before old mid (Ok after) led = led
led_cancelled id before old mid (Err stop) led = led

pub led_unset : (name : Bytes) (before : ℕ) (turn : Working) → Leads (remove_if false name) before turn (Ok before) turn
unfolding Leads remove_if
led_unset name before turn = λ script result last rest. rest

pub led_removed : (name : Bytes) (before : ℕ) (old mid : Working) (out : Result ℕ Stopped) → Leads (accepted_then (calls.RemoveAttribute name)) before old out mid → Leads (remove_if true name) before old out mid
unfolding Leads remove_if
led_removed name before old mid (Ok after) led = led
led_removed name before old mid (Err stop) led = led

-- ## A request in a dialog

pub sent_both : (sess : SessId) (method : Bytes) (fields : List Field) (body : Bytes) (before draft : ℕ) (old mid new : Working) (out : Result ℕ Stopped)
    → Gives (calls.CreateInDialog sess (record { method = method; fields = fields; body = body })) before old (Ok draft) mid → Leads (accepted_then (calls.Send draft)) (before + 1) mid out new → Leads (send_in sess method fields body) before old out new
unfolding Leads Gives send_in
sent_both sess method fields body before draft old mid new (Ok after) given led = λ script result last rest. given (λ d. accepted_then (calls.Send d) script) result last (led script result last rest)
sent_both sess method fields body before draft old mid new (Err stop) given led = λ script. given (λ d. accepted_then (calls.Send d) script) (Err stop) new (led script)

pub sent_none : (sess : SessId) (method : Bytes) (fields : List Field) (body : Bytes) (before : ℕ) (old new : Working) (stop : Stopped)
    → Gives (calls.CreateInDialog sess (record { method = method; fields = fields; body = body })) before old (Err stop) new → Leads (send_in sess method fields body) before old (Err stop) new
unfolding Leads Gives send_in
sent_none sess method fields body before old new stop given = λ script. given (λ d. accepted_then (calls.Send d) script)

pub sent_on : (sess : SessId) (method : Bytes) (fields : List Field) (body : Bytes) (script : Script) (before after : ℕ) (old mid new : Working) (result : Result (Unit {0}) Stopped)
    → Leads (send_in sess method fields body) before old (Ok after) mid → Goes after script mid result new → Goes before (send_in sess method fields body script) old result new
unfolding Leads
sent_on sess method fields body script before after old mid new result led rest = led script result new rest

pub sent_off : (sess : SessId) (method : Bytes) (fields : List Field) (body : Bytes) (script : Script) (before : ℕ) (old new : Working) (stop : Stopped)
    → Leads (send_in sess method fields body) before old (Err stop) new → Goes before (send_in sess method fields body script) old (Err stop) new
unfolding Leads
sent_off sess method fields body script before old new stop led = led script

-- ## One beginning after another

pub both_led : (first second : Script → Script) (before middle : ℕ) (old mid new : Working) (out : Result ℕ Stopped) → Leads first before old (Ok middle) mid → Leads second middle mid out new → Leads (λ script. first (second script)) before old out new
unfolding Leads
both_led first second before middle old mid new (Ok after) led more = λ script result last rest. led (second script) result last (more script result last rest)
both_led first second before middle old mid new (Err stop) led more = λ script. led (second script) (Err stop) new (more script)

pub none_led : (first second : Script → Script) (before : ℕ) (old new : Working) (stop : Stopped) → Leads first before old (Err stop) new → Leads (λ script. first (second script)) before old (Err stop) new
unfolding Leads
none_led first second before old new stop led = λ script. led (second script)

-- ## What follows

pub accepted_on : (call : Call) (script : Script) (before after : ℕ) (old mid new : Working) (result : Result (Unit {0}) Stopped)
    → Leads (accepted_then call) before old (Ok after) mid → Goes after script mid result new → Goes before (accepted_then call script) old result new
unfolding Leads
accepted_on call script before after old mid new result led rest = led script result new rest

pub accepted_off : (call : Call) (script : Script) (before : ℕ) (old new : Working) (stop : Stopped)
    → Leads (accepted_then call) before old (Err stop) new → Goes before (accepted_then call script) old (Err stop) new
unfolding Leads
accepted_off call script before old new stop led = led script

pub cancelled_on : (id : Option TimerId) (script : Script) (before after : ℕ) (old mid new : Working) (result : Result (Unit {0}) Stopped)
    → Leads (cancel_some id) before old (Ok after) mid → Goes after script mid result new → Goes before (cancel_some id script) old result new
unfolding Leads
cancelled_on id script before after old mid new result led rest = led script result new rest

pub cancelled_off : (id : Option TimerId) (script : Script) (before : ℕ) (old new : Working) (stop : Stopped)
    → Leads (cancel_some id) before old (Err stop) new → Goes before (cancel_some id script) old (Err stop) new
unfolding Leads
cancelled_off id script before old new stop led = led script

pub number_on : (call : Call) (next : ℕ → Script) (before n : ℕ) (old mid new : Working) (result : Result (Unit {0}) Stopped)
    → Gives call before old (Ok n) mid → Goes (before + 1) (next n) mid result new → Goes before (Make call (with_number next)) old result new
unfolding Gives
number_on call next before n old mid new result given rest = given next result new rest

pub number_off : (call : Call) (next : ℕ → Script) (before : ℕ) (old new : Working) (stop : Stopped)
    → Gives call before old (Err stop) new → Goes before (Make call (with_number next)) old (Err stop) new
unfolding Gives
number_off call next before old new stop given = given next

-- ## The last call

done_if : (b : Bool) → (if b then Done else Done) ≡ Done
done_if true = refl
done_if false = refl

only_goes : (call : Call) (before : ℕ) (old new : Working) (result : Result (Unit {0}) Stopped) → Goes before (accepted_then call Done) old result new → Goes before (only call) old result new
unfolding Goes GoesThrough StopsAfter IsFirstRefused accepted_then only
only_goes call before old new (Ok x) (none, through) = (none, subst (λ (s : Script). GoesThrough s (after_made call old) new) (done_if _) through)
only_goes call before old new (Err stop) (zero, count, stops) = (zero, count, stops)
only_goes call before old new (Err stop) (suc made, count, (none, stops)) = (suc made, count, (none, subst (λ (s : Script). StopsAfter made s (after_made call old) stop.refusal new) (done_if _) stops))

pub last_on : (call : Call) (before after : ℕ) (old new : Working) (x : Unit {0}) → Leads (accepted_then call) before old (Ok after) new → Goes before (only call) old (Ok x) new
unfolding Leads
last_on call before after old new x led = only_goes call before old new (Ok x) (led Done (Ok x) new (goes_done after new x))

pub last_off : (call : Call) (before : ℕ) (old new : Working) (stop : Stopped) → Leads (accepted_then call) before old (Err stop) new → Goes before (only call) old (Err stop) new
unfolding Leads
last_off call before old new stop led = only_goes call before old new (Err stop) (led Done)

-- ## From the front on

pub goes_carried : {X : Type 0} (script : Script) (given answer : X) (old new : Working) (x : Unit {0}) → given ≡ answer → Goes 0 script old (Ok x) new → IsCarried script answer old (Ok given) new
unfolding Goes IsCarried
goes_carried script given answer old new x is through = (is, through)

pub goes_stopped : {X : Type 0} (script : Script) (answer : X) (old new : Working) (stop : Stopped) → Goes 0 script old (Err stop) new → IsCarried script answer old (Err stop) new
unfolding Goes IsCarried
goes_stopped script answer old new stop (made, count, stops) = subst (λ (k : ℕ). StopsAfter k script old stop.refusal new) (omega (arith, count)) stops

pub goes_is_done : (script : Script) (old new : Working) (result : Result (Unit {0}) Stopped) → Goes 0 script old result new → IsDone script old result new
unfolding Goes IsDone
goes_is_done script old new (Ok x) through = through
goes_is_done script old new (Err stop) (made, count, stops) = subst (λ (k : ℕ). StopsAfter k script old stop.refusal new) (omega (arith, count)) stops

-- memory was wanting before the first call
pub wanting_done : (script : Script) (old : Working) (stop : Stopped) → stop ≡ record { refusal = NoMemory; made = 0 } → IsDone script old (Err stop) old
unfolding IsDone StopsAfter
wanting_done script old stop is = rw is (inl (refl, refl))

pub wanting_carried : {X : Type 0} (script : Script) (answer : X) (old : Working) (stop : Stopped) → stop ≡ record { refusal = NoMemory; made = 0 } → IsCarried script answer old (Err stop) old
unfolding IsCarried StopsAfter
wanting_carried script answer old stop is = rw is (inl (refl, refl))
