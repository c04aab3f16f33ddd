-- The calls of a helper as those of a script that is short, and that a refusal ends.
use Rattle.std.proofs.Common.{◌≡◌, ◌≤◌, ◌<◌, ℕ, ◌+◌, zero, suc, Bool, true, false, if◌then◌else◌, Option, None, Some, List, Result, Ok, Err, OnOk, inl, inr, refl, subst, arith}
use Rattle.sc_value.specs.declared.ids.SessId.{SessId}
use Rattle.sc_value.specs.declared.ids.TimerId.{TimerId}
use Rattle.sc_value.specs.declared.parts.Field.{Field}
use Rattle.sc_value.specs.declared.no_memory.NoMemory as no
use Rattle.sc_terms.specs.declared.calls.Call.{Call}
use Rattle.sc_terms.specs.declared.calls.CallAnswer.{CallAnswer}
use Rattle.sc_terms.specs.declared.calls.CallAnswer.TheVariants as answers
use Rattle.sc_terms.specs.declared.calls.Refusal.{Refusal}
use Rattle.sc_terms.specs.declared.calls.Refusal.TheVariants.{NoMemory}
use Rattle.sc_hosts.specs.Effects.{answer_to_call as accepted}
use Rattle.sc_tokens.specs.Bytes.{Bytes}
use Rattle.sc_hosts.specs.HelperParts.{accepted_then, send_in}
use Rattle.sc_hosts.specs.RefusalParts.{MOST_CALLS}
use Rattle.sc_hosts.specs.Scripting.{Script, Done, Make, is_refused, only, where_some, with_number}
use Rattle.sc_turn.specs.Working.{Working, play_of, after_made, IsAccepted, IsRefused}
use Rattle.sc_apps.specs.Scripted.{IsMade, IsPlayed, IsTold}
use Rattle.sc_apps.proofs.Playing.{accepted_listed, accepted_made, played_done, played_make, refused_made}
use Rattle.sc_helpers.specs.Leading.{cancel_some, remove_if}
use Rattle.sc_helpers.specs.Stopping.{GoesThrough, Goes, IsFirstRefused, IsHeard, StopsAfter}
use Rattle.sc_helpers.specs.declared.stopping.Stopped.{Stopped}

-- at most so many calls, and a refusal ends them
unfoldable pub Short : Script → ℕ → Type 0
Short Done n = Unit {0}
Short (Make call next) zero = ⊥
Short (Make call next) (suc n) = ((refused : Refusal) → next (answers.Refused refused) ≡ Done) × ((answer : CallAnswer) → Short (next answer) n)

pub short_if : (b : Bool) (script : Script) (n : ℕ) → Short script n → Short (if b then Done else script) n
unfolding Short
short_if true script n short = tt
short_if false script n short = short

pub short_either : (b : Bool) (one other : Script) (n : ℕ) → Short one n → Short other n → Short (if b then one else other) n
short_either true one other n first second = first
short_either false one other n first second = second

pub short_then : (call : Call) (script : Script) (n : ℕ) → Short script n → Short (accepted_then call script) (suc n)
unfolding Short accepted_then is_refused
short_then call script n short = (λ refused. refl, λ answer. short_if (is_refused answer) script n short)

pub short_only : (call : Call) (n : ℕ) → Short (only call) (suc n)
unfolding Short only
short_only call n = (λ refused. refl, λ answer. tt)

short_by : (next : ℕ → Script) (n : ℕ) → ((k : ℕ) → Short (next k) n) → (answer : CallAnswer) → Short (with_number next answer) n
unfolding Short with_number
short_by next n each answers.Fine = tt
short_by next n each (answers.Number k) = each k
short_by next n each (answers.Refused refused) = tt

pub short_number : (call : Call) (next : ℕ → Script) (n : ℕ) → ((k : ℕ) → Short (next k) n) → Short (Make call (with_number next)) (suc n)
unfolding Short with_number
short_number call next n each = (λ refused. refl, short_by next n each)

pub short_more : (script : Script) (n : ℕ) → Short script n → Short script (suc n)
unfolding Short
short_more Done n short = tt
short_more (Make call next) zero short = absurd short
short_more (Make call next) (suc n) (ends, later) = (ends, λ answer. short_more (next answer) n (later answer))

pub short_cancel : (id : Option TimerId) (script : Script) (n : ℕ) → Short script n → Short (cancel_some id script) (suc n)
unfolding cancel_some
short_cancel None script n short = short_more script n short
short_cancel (Some id) script n short = short_then _ script n short

pub short_remove : (set : Bool) (name : Bytes) (script : Script) (n : ℕ) → Short script n → Short (remove_if set name script) (suc n)
unfolding remove_if
short_remove false name script n short = short_more script n short
short_remove true name script n short = short_then _ script n short

pub short_send : (sess : SessId) (method : Bytes) (fields : List Field) (body : Bytes) (script : Script) (n : ℕ) → Short script n → Short (send_in sess method fields body script) (suc (suc n))
unfolding send_in
short_send sess method fields body script n short = short_number _ _ (suc n) (λ draft. short_then _ script n short)

pub short_where : {A : Type 0} (o : Option A) (next : A → Script) (n : ℕ) → ((a : A) → Short (next a) n) → Short (where_some o next) n
unfolding where_some Short
short_where None next n each = tt
short_where (Some a) next n each = each a

-- ## What was played

made : (call : Call) (old : Working) → IsAccepted call old (accepted (play_of old) call) (after_made call old) → IsMade call old (accepted (play_of old) call) (after_made call old)
made call old is = accepted_made call old (after_made call old) (accepted (play_of old) call) is

pub through_played : (script : Script) (old new : Working) → GoesThrough script old new → IsPlayed script old new
unfolding GoesThrough
through_played Done old new is = rw is (played_done old)
through_played (Make call next) old new (is, rest) =
    played_make call next old (after_made call old) new (accepted (play_of old) call) (made call old is) (through_played (next (accepted (play_of old) call)) (after_made call old) new rest)

pub through_listed : (script : Script) (n : ℕ) (old new : Working) → Short script n → GoesThrough script old new → (play_of new).listed ≤ (play_of old).listed + n
unfolding GoesThrough Short
through_listed Done n old new short is = rw is (omega (arith))
through_listed (Make call next) zero old new short is = absurd short
through_listed (Make call next) (suc n) old new (ends, later) (is, rest) =
    let one = accepted_listed call old (after_made call old) (accepted (play_of old) call) is in
    let all = through_listed (next (accepted (play_of old) call)) n (after_made call old) new (later (accepted (play_of old) call)) rest in
    omega (arith, one, all)

refused_played : (call : Call) (next : CallAnswer → Script) (old new : Working) (refused : Refusal) → next (answers.Refused refused) ≡ Done → (play_of old).listed < MOST_CALLS → (refused ≡ NoMemory → ⊥) → IsRefused call old refused new
    → IsPlayed (Make call next) old new
unfolding IsTold
refused_played call next old new refused ends below fed is =
    played_make call next old new new (answers.Refused refused) (refused_made call old new refused (Ok (answers.Refused refused)) below (refl, fed) is) (rw ends (played_done new))

pub stopped_played : (script : Script) (n count : ℕ) (old new : Working) (refused : Refusal) → Short script n → (play_of old).listed + n ≤ MOST_CALLS → (refused ≡ NoMemory → ⊥) → StopsAfter count script old refused new → IsPlayed script old new
unfolding Short StopsAfter IsFirstRefused
stopped_played Done n zero old new refused short room fed (inl (wants, is)) = absurd (fed wants)
stopped_played Done n zero old new refused short room fed (inr is) = absurd is
stopped_played Done n (suc count) old new refused short room fed stops = absurd stops
stopped_played (Make call next) zero count old new refused short room fed stops = absurd short
stopped_played (Make call next) (suc n) zero old new refused (ends, later) room fed (inl (wants, is)) = absurd (fed wants)
stopped_played (Make call next) (suc n) zero old new refused (ends, later) room fed (inr is) = refused_played call next old new refused (ends refused) (omega (arith, room)) fed is
stopped_played (Make call next) (suc n) (suc count) old new refused (ends, later) room fed (is, rest) =
    let one = accepted_listed call old (after_made call old) (accepted (play_of old) call) is in
    played_make call next old (after_made call old) new (accepted (play_of old) call) (made call old is)
    (stopped_played (next (accepted (play_of old) call)) n count (after_made call old) new refused (later (accepted (play_of old) call)) (omega (arith, one, room)) fed rest)

-- a servlet whose helper stopped has played the script, unless memory was wanting
pub heard_played : (script : Script) (n : ℕ) (old new : Working) (stop : Stopped) (out : Result (Unit {0}) no.NoMemory) → Short script n → (play_of old).listed + n ≤ MOST_CALLS
    → StopsAfter stop.made script old stop.refusal new → IsHeard stop out → OnOk out (IsPlayed script old new)
unfolding IsHeard
heard_played script n old new stop (Ok x) short room stops fed = stopped_played script n stop.made old new stop.refusal short room fed stops
heard_played script n old new stop (Err e) short room stops fed = tt

pub goes_through : (script : Script) (old new : Working) (x : Unit {0}) → Goes 0 script old (Ok x) new → IsPlayed script old new
unfolding Goes
goes_through script old new x through = through_played script old new through

pub goes_heard : (script : Script) (n : ℕ) (old new : Working) (stop : Stopped) (out : Result (Unit {0}) no.NoMemory) → Short script n → (play_of old).listed + n ≤ MOST_CALLS
    → Goes 0 script old (Err stop) new → IsHeard stop out → OnOk out (IsPlayed script old new)
unfolding Goes
goes_heard script n old new stop out short room (count, is, stops) heard =
    heard_played script n old new stop out short room (subst (λ (k : ℕ). StopsAfter k script old stop.refusal new) (omega (arith, is)) stops) heard
