-- A turn that makes a call and then plays the rest has played the script.
use Rattle.std.proofs.Common.{◌≡◌, ℕ, ◌<◌, ◌+◌, ◌∙◌, List, [], ◌∷◌, ◌++◌, Bool, true, false, Option, Some, None, Result, Ok, Err, nat_le, option_map, if◌then◌else◌, refl, sym, ap, append-nil, arith, IfOk, OnOk}
use Rattle.std.proofs.lemmas.Bool.Decides.{nat_tests}
use Rattle.std.proofs.lemmas.List.{append_assoc}
use Rattle.std.proofs.lemmas.List.Sums.{fold-append}
use Rattle.sc_value.specs.declared.no_memory.NoMemory as no
use Rattle.sc_terms.specs.declared.views.RequestView.{RequestView}
use Rattle.sc_terms.specs.declared.views.TimerView.{TimerView}
use Rattle.sc_terms.specs.declared.calls.Call.{Call}
use Rattle.sc_terms.specs.declared.calls.Call.TheVariants as calls
use Rattle.sc_terms.specs.declared.calls.CallAnswer.{CallAnswer}
use Rattle.sc_terms.specs.declared.calls.CallAnswer.TheVariants.{Refused}
use Rattle.sc_terms.specs.declared.calls.CallRecord.{CallRecord}
use Rattle.sc_terms.specs.declared.calls.End.{End}
use Rattle.sc_terms.specs.declared.calls.End.TheVariants as ends
use Rattle.sc_terms.specs.declared.calls.Refusal.{Refusal}
use Rattle.sc_terms.specs.declared.calls.Refusal.TheVariants.{NoMemory}
use Rattle.sc_state.specs.declared.working.Draft.{Draft}
use Rattle.sc_state.specs.declared.working.Play.{Play}
use Rattle.sc_hosts.specs.Scripting.{Script, Done, Make, only, then_make, where_some, played_from}
use Rattle.sc_hosts.specs.Bringing.{Plays}
use Rattle.sc_hosts.specs.Effects.{answer_to_call as accepted, after_call, play_with_initial as created, created_leg, created_later, play_without_draft as discarded, play_with_request as sent, with_draft, without_draft, after_calls, after_listed, answer_by, answer_of, first_play as begun, played_by}
use Rattle.sc_hosts.specs.Looking.{request_in}
use Rattle.sc_hosts.specs.RefusalParts.{MOST_CALLS, draft_in}
use Rattle.sc_hosts.specs.Refusals.{refusal}
use Rattle.sc_turn.specs.Working.{Working, play_of, record_of, after_made, after_refused, after_starved, IsAccepted, IsRefused}
use Rattle.sc_servlets.specs.Brought.{Meets}
use Rattle.sc_apps.specs.Scripted.{IsMade, IsTold, IsPlayed, end_of_script as ended}

-- ## One call

-- the play after a listed call
pub played_on : (call : Call) (old : Working) → play_of (after_made call old) ≡ after_listed (play_of old) call
unfolding play_of after_made after_calls record_of
played_on call old = fold-append (λ play made. after_listed play made.call) (begun old.shown) old.calls (record_of (play_of old) call ∷ [])

accepted_answer : (play : Play) (call : Call) → refusal play call ≡ None → accepted play call ≡ answer_of play call
unfolding answer_of answer_by
accepted_answer play call e = rw e refl

refused_answer : (play : Play) (call : Call) (refused : Refusal) → refusal play call ≡ Some refused → Refused refused ≡ answer_of play call
unfolding answer_of answer_by
refused_answer play call refused e = rw e refl

-- a call that was accepted
pub made_accepted : (call : Call) (old new : Working) (answer : CallAnswer) → IsAccepted call old answer new → IsMade call old answer new
unfolding IsAccepted IsMade
made_accepted call old new answer (fed, none, is, after) = (after, is ∙ accepted_answer (play_of old) call none)

unfilled : (call : Call) (old : Working) (b : Bool) → nat_le MOST_CALLS (play_of old).listed ≡ b → (play_of old).listed < MOST_CALLS → after_refused call old ≡ after_made call old
unfolding after_refused
unfilled call old true e below = absurd (grind (arith, nat_tests))
unfilled call old false e below = rw e refl

by_memory : (call : Call) (old new : Working) (refused : Refusal) (b : Bool) → new.starved ≡ b → (play_of old).listed < MOST_CALLS → (refused ≡ NoMemory → ⊥) → IsRefused call old refused new → IsMade call old (Refused refused) new
unfolding IsRefused IsMade
by_memory call old new refused true e below fed (still, starved) = absurd (fed (starved e).0)
by_memory call old new refused false e below fed (still, starved) =
    let so = still e in (so.1 ∙ unfilled call old (nat_le MOST_CALLS (play_of old).listed) refl below, refused_answer (play_of old) call refused so.0)

-- a call that was refused, not for want of memory
pub made_refused : (call : Call) (old new : Working) (refused : Refusal) → (play_of old).listed < MOST_CALLS → (refused ≡ NoMemory → ⊥) → IsRefused call old refused new → IsMade call old (Refused refused) new
made_refused call old new refused below fed is = by_memory call old new refused new.starved refl below fed is

-- ## How many calls are listed

leg_same : (play : Play) (o : Option RequestView) → (created_leg o play).listed ≡ play.listed
unfolding created_leg with_draft
leg_same play None = refl
leg_same play (Some request) = refl

sent_same : (number : ℕ) (play : Play) (o : Option Draft) → (sent number o play).listed ≡ play.listed
unfolding sent
sent_same number play None = refl
sent_same number play (Some draft) = refl

dropped_same : (number : ℕ) (play other : Play) (b : Bool) → other.listed ≡ play.listed → (without_draft number (if b then other else play)).listed ≡ play.listed
dropped_same number play other true e = e
dropped_same number play other false e = refl

discarded_same : (number : ℕ) (play : Play) (o : Option Draft) → (discarded number o play).listed ≡ play.listed
unfolding discarded
discarded_same number play None = refl
discarded_same number play (Some draft) = dropped_same number play _ draft.initial refl

-- no call changes the count by itself
call_same : (play : Play) (call : Call) → (after_call play call).listed ≡ play.listed
unfolding after_call created created_later with_draft
call_same play (calls.Respond req answer) = refl
call_same play (calls.CreateRequest ask) = refl
call_same play (calls.CreateInDialog sess ask) = refl
call_same play (calls.B2bCreate req uri) = leg_same play (request_in play.view req)
call_same play (calls.SetDirective draft directive origin) = refl
call_same play (calls.Send draft) = sent_same draft play (draft_in play draft)
call_same play (calls.Discard draft) = discarded_same draft play (draft_in play draft)
call_same play (calls.Ack sess body) = refl
call_same play (calls.Cancel req) = refl
call_same play (calls.ProxyTo req uris how) = refl
call_same play (calls.ProxyCancel req) = refl
call_same play (calls.B2bRespond sess answer) = refl
call_same play (calls.Link a b) = refl
call_same play (calls.Unlink a) = refl
call_same play (calls.StartTimer delay period info) = refl
call_same play (calls.CancelTimer id) = refl
call_same play (calls.SetAttribute name value) = refl
call_same play (calls.RemoveAttribute name) = refl
call_same play (calls.SetExpires minutes) = refl
call_same play (calls.SetReadyFlag target flag) = refl
call_same play (calls.InvalidateSession sess) = refl
call_same play calls.InvalidateApplication = refl

by_same : (play : Play) (call : Call) (o : Option Refusal) → (played_by play call o).listed ≡ play.listed
unfolding played_by
by_same play call None = call_same play call
by_same play call (Some refused) = refl

listed_one : (play : Play) (call : Call) → (after_listed play call).listed ≡ play.listed + 1
unfolding after_listed
listed_one play call = ap (λ n. n + 1) (by_same play call (refusal play call))

-- after a call one more is listed
made_listed : (call : Call) (old new : Working) (answer : CallAnswer) → IsMade call old answer new → (play_of new).listed ≡ (play_of old).listed + 1
unfolding IsMade
made_listed call old new answer (after, is) = rw (after, played_on call old) (listed_one (play_of old) call)

-- ## What a call answers, and what it leaves

pub accepted_made : (call : Call) (old new : Working) (answer : CallAnswer) → IsAccepted call old answer new → IfOk {E = no.NoMemory} (Ok answer) (λ given. IsMade call old given new)
accepted_made call old new answer is = made_accepted call old new answer is

pub accepted_listed : (call : Call) (old new : Working) (answer : CallAnswer) → IsAccepted call old answer new → (play_of new).listed ≡ (play_of old).listed + 1
accepted_listed call old new answer is = made_listed call old new answer (made_accepted call old new answer is)

pub accepted_same : (call : Call) (old new : Working) (answer : CallAnswer) → IsAccepted call old answer new → new.shown ≡ old.shown
unfolding IsAccepted after_made
accepted_same call old new answer (fed, none, is, after) = rw after refl

pub refused_made : (call : Call) (old new : Working) (refused : Refusal) (out : Result CallAnswer no.NoMemory) → (play_of old).listed < MOST_CALLS → IsTold refused out → IsRefused call old refused new → IfOk out (λ given. IsMade call old given new)
unfolding IsTold
refused_made call old new refused (Ok answer) below told is = rw told.0 (made_refused call old new refused below told.1 is)
refused_made call old new refused (Err e) below told is = tt

pub refused_listed : (call : Call) (old new : Working) (refused : Refusal) (out : Result CallAnswer no.NoMemory) → (play_of old).listed < MOST_CALLS → IsTold refused out → IsRefused call old refused new → OnOk out ((play_of new).listed ≡ (play_of old).listed + 1)
unfolding IsTold
refused_listed call old new refused (Ok answer) below told is = made_listed call old new (Refused refused) (made_refused call old new refused below told.1 is)
refused_listed call old new refused (Err e) below told is = tt

shown_of : (call : Call) (old new : Working) (b : Bool) → new ≡ (if b then old else after_made call old) → new.shown ≡ old.shown
unfolding after_made
shown_of call old new true e = rw e refl
shown_of call old new false e = rw e refl

shown_by : (call : Call) (old new : Working) (refused : Refusal) (b : Bool) → new.starved ≡ b → IsRefused call old refused new → new.shown ≡ old.shown
unfolding IsRefused after_refused after_starved
shown_by call old new refused true e (still, starved) = rw (starved e).1 refl
shown_by call old new refused false e (still, starved) = shown_of call old new (nat_le MOST_CALLS (play_of old).listed) (still e).1

pub refused_same : (call : Call) (old new : Working) (refused : Refusal) → IsRefused call old refused new → new.shown ≡ old.shown
refused_same call old new refused is = shown_by call old new refused new.starved refl is

-- ## The rest of a script

pub played_done : (turn : Working) → IsPlayed Done turn turn
unfolding IsPlayed played_from
played_done turn = sym (append-nil turn.calls)

listed_first : (call : Call) (old : Working) (later : List CallRecord) → (after_made call old).calls ++ later ≡ old.calls ++ (record_of (play_of old) call ∷ later)
unfolding after_made
listed_first call old later = append_assoc old.calls (record_of (play_of old) call ∷ []) later

-- a call, and then what its answer chooses
pub played_make : (call : Call) (next : CallAnswer → Script) (old mid new : Working) (answer : CallAnswer) → IsMade call old answer mid → IsPlayed (next answer) mid new → IsPlayed (Make call next) old new
unfolding IsMade IsPlayed played_from record_of
played_make call next old mid new answer (after, is) rest =
    rest ∙ ap (λ (w : Working). w.calls ++ played_from (play_of w) (next answer)) after
    ∙ ap (λ play. (after_made call old).calls ++ played_from play (next answer)) (played_on call old)
    ∙ rw is (listed_first call old (played_from (after_listed (play_of old) call) (next (answer_of (play_of old) call))))

-- one call, and no more
pub played_only : (call : Call) (old new : Working) (answer : CallAnswer) → IsMade call old answer new → IsPlayed (only call) old new
unfolding only
played_only call old new answer is = played_make call (λ answer. Done) old new new answer is (played_done new)

-- one call, and then these
pub played_then : (call : Call) (script : Script) (old mid new : Working) (answer : CallAnswer) → IsMade call old answer mid → IsPlayed script mid new → IsPlayed (then_make call script) old new
unfolding then_make
played_then call script old mid new answer is rest = played_make call (λ answer. script) old mid new answer is rest

-- what is wanted of a thing alone may be given beside it
pub played_id : (o : Option TimerView) (old new : Working) → IsPlayed (where_some (option_map (λ timer. timer.id) o) (λ id. only (calls.CancelTimer id))) old new → IsPlayed (where_some o (λ timer. only (calls.CancelTimer timer.id))) old new
unfolding where_some
played_id None old new is = is
played_id (Some timer) old new is = is

pub played_request : (o : Option RequestView) (old new : Working) → IsPlayed (where_some (option_map (λ request. request.id) o) (λ req. only (calls.Cancel req))) old new → IsPlayed (where_some o (λ request. only (calls.Cancel request.id))) old new
unfolding where_some
played_request None old new is = is
played_request (Some request) old new is = is

-- ## The whole turn

begun_at : (turn : Working) → turn.calls ≡ [] → play_of turn ≡ begun turn.shown
unfolding play_of after_calls
begun_at turn none = rw none refl

-- it has room for as many calls as a turn may make
pub begun_room : (turn : Working) → turn.calls ≡ [] → (play_of turn).listed ≡ 0
unfolding begun
begun_room turn none = rw (begun_at turn none) refl

pub begun_view : (turn : Working) → turn.calls ≡ [] → (play_of turn).view ≡ turn.shown
unfolding begun
begun_view turn none = rw (begun_at turn none) refl

-- the script of a turn that comes with no calls
played_whole : (script : Script) (old new : Working) → old.calls ≡ [] → IsPlayed script old new → Plays old.shown (Some script) new.calls ends.Fine
unfolding IsPlayed Plays
played_whole script old new none is = (is ∙ rw (begun_at old none) (rw none refl), refl)

-- so the turn keeps its promise
pub keeps : (script : Script) (old new : Working) (played : Result (Unit {0}) no.NoMemory) (end : End) → old.calls ≡ [] → OnOk played (IsPlayed script old new) → end ≡ ended played → Meets end (Plays old.shown (Some script) new.calls end)
unfolding ended Meets
keeps script old new (Ok x) end none is end_is = rw end_is (played_whole script old new none is)
keeps script old new (Err e) end none is end_is = rw end_is tt
