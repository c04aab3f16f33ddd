-- A session timer that is begun is due at its deadline.
use Rattle.std.proofs.Common.{◌≡◌, ℕ, ◌+◌, ◌++◌, Bool, true, false, Option, None, Some, [], ◌∷◌, refl, ap, subst, ◌∙◌}
use Rattle.std.specs.Prelude.{cond, is_some}
use Rattle.std.specs.Option.{option_map_or}
use Rattle.sc_value.specs.declared.ids.ReqId.{ReqId}
use Rattle.sc_value.specs.declared.ids.SessId.{SessId}
use Rattle.sc_value.specs.declared.ids.TimerId.{TimerId}
use Rattle.sc_terms.specs.declared.calls.Answer.{Answer}
use Rattle.sc_terms.specs.declared.calls.Call.{Call}
use Rattle.sc_terms.specs.declared.calls.Call.TheVariants as calls
use Rattle.sc_terms.specs.declared.calls.CallAnswer.{CallAnswer}
use Rattle.sc_terms.specs.declared.calls.CallAnswer.TheVariants as answers
use Rattle.sc_terms.specs.declared.calls.Refusal.{Refusal}
use Rattle.sc_terms.specs.declared.views.Period.TheVariants.{Once}
use Rattle.sc_terms.specs.declared.views.RequestView.{RequestView}
use Rattle.sc_terms.specs.declared.views.View.{View}
use Rattle.sc_state.specs.declared.working.Play.{Play}
use Rattle.sc_tokens.specs.Bytes.{Bytes}
use Rattle.sc_hosts.specs.Effects.{after_listed, played_by, after_call, answer_of, with_timer}
use Rattle.sc_hosts.specs.HelperParts.{accepted_then, cancel_then, remove_then}
use Rattle.sc_hosts.specs.Looking.{request_in, timer_in}
use Rattle.sc_hosts.specs.Refusals.{refusal}
use Rattle.sc_hosts.specs.Scripting.{Script, Done, Make, only, with_number, attribute, is_refused}
use Rattle.sc_hosts.specs.SessionTimers.{On, Timed, begin_timed, deadline, stop_then, timed_name, timed_of, timed_text}
use Rattle.sc_hosts.specs.ViewChanges.{view_with_answer as answered, answered_in, tidy}
use Rattle.sc_promised.specs.Reliable.{play_after}
use Rattle.sc_promised.specs.Refreshing.{IsAccepted, IsBegun}
use Rattle.sc_promised.proofs.Attributes.{accepted-none, set-attribute}
use Rattle.sc_promised.proofs.OfferLaws.{timer-number}

-- ## What is done before

-- from this play on, whatever the moment is
abbrev pub Begins : SessId → ℕ → Bool → Script → Type 0
Begins sess n me script = (play : Play) → IsAccepted play script → IsBegun play.view.now sess n me (play_after play script).view

-- behind a call that leaves the moment
after-call : (sess : SessId) (n : ℕ) (me : Bool) (call : Call) (script : Script)
    → ((play : Play) → (after_listed play call).view.now ≡ play.view.now) → Begins sess n me script
    → Begins sess n me (accepted_then call script)
unfolding accepted_then IsAccepted play_after
after-call sess n me call script same begins = λ play ok. by play (is_refused (answer_of play call)) ok.0 ok.1
  where
    by : (play : Play) (b : Bool) → b ≡ false → IsAccepted (after_listed play call) (cond b Done script)
        → IsBegun play.view.now sess n me (play_after (after_listed play call) (cond b Done script)).view
    by play true is ok = cc
    by play false is ok = subst (λ (now : ℕ). IsBegun now sess n me (play_after (after_listed play call) script).view) (same play) (begins (after_listed play call) ok)

cancelled-by : (play : Play) (id : TimerId) (found : Option Refusal)
    → (played_by play (calls.CancelTimer id) found).view.now ≡ play.view.now
unfolding played_by after_call
cancelled-by play id None = refl
cancelled-by play id (Some refused) = refl

cancelled-now : (id : TimerId) (play : Play) → (after_listed play (calls.CancelTimer id)).view.now ≡ play.view.now
unfolding after_listed
cancelled-now id play = cancelled-by play id (refusal play (calls.CancelTimer id))

removed-by : (play : Play) (name : Bytes) (found : Option Refusal)
    → (played_by play (calls.RemoveAttribute name) found).view.now ≡ play.view.now
unfolding played_by after_call
removed-by play name None = refl
removed-by play name (Some refused) = refl

removed-now : (name : Bytes) (play : Play) → (after_listed play (calls.RemoveAttribute name)).view.now ≡ play.view.now
unfolding after_listed
removed-now name play = removed-by play name (refusal play (calls.RemoveAttribute name))

if-begins : (b : Bool) (sess : SessId) (n : ℕ) (me : Bool) (one two : Script) → Begins sess n me one
    → Begins sess n me two → Begins sess n me (cond b one two)
if-begins true sess n me one two p q = p
if-begins false sess n me one two p q = q

removing : (sess : SessId) (n : ℕ) (me : Bool) (name : Bytes) (view : View) (script : Script) → Begins sess n me script
    → Begins sess n me (remove_then name view script)
unfolding remove_then
removing sess n me name view script begins =
    if-begins (is_some (attribute name view)) sess n me (accepted_then (calls.RemoveAttribute name) script) script (after-call sess n me (calls.RemoveAttribute name) script (removed-now name) begins) begins

cancelling : (sess : SessId) (n : ℕ) (me : Bool) (timer : ℕ) (view : View) (script : Script) → Begins sess n me script
    → Begins sess n me (cancel_then timer view script)
unfolding cancel_then
cancelling sess n me timer view script begins =
    if-begins (is_some (timer_in view (record { 0 = timer }))) sess n me (accepted_then (calls.CancelTimer (record { 0 = timer })) script) script
    (after-call sess n me (calls.CancelTimer (record { 0 = timer })) script (cancelled-now (record { 0 = timer })) begins) begins

stopping : (sess : SessId) (n : ℕ) (me : Bool) (view : View) (script : Script) → Begins sess n me script
    → Begins sess n me (stop_then sess view script)
unfolding stop_then
stopping sess n me view script begins = by (attribute (timed_name sess) view)
  where
    removed : Begins sess n me (remove_then (timed_name sess) view script)
    removed = removing sess n me (timed_name sess) view script begins

    timed : (found : Option Timed)
        → Begins sess n me (option_map_or (λ timed. cancel_then timed.timer view (remove_then (timed_name sess) view script)) found (remove_then (timed_name sess) view script))
    timed None = removed
    timed (Some at) = cancelling sess n me at.timer view (remove_then (timed_name sess) view script) removed

    by : (found : Option Bytes)
        → Begins sess n me (option_map_or (λ text. option_map_or (λ timed. cancel_then timed.timer view (remove_then (timed_name sess) view script)) (timed_of text) (remove_then (timed_name sess) view script)) found script)
    by None = begins
    by (Some text) = timed (timed_of text)

-- ## The timer and its name

started : (play : Play) (delay : ℕ) (info : Bytes)
    → is_refused (answer_of play (calls.StartTimer delay Once info)) ≡ false
    → (after_listed play (calls.StartTimer delay Once info)).view.timers ≡ play.view.timers ++ record { id = record { 0 = play.view.next_timer }; due = play.view.now + delay; period = Once; info = info } ∷ []
unfolding after_listed played_by after_call with_timer
started play delay info is = rw (accepted-none play (calls.StartTimer delay Once info) is) refl

set-timers : (play : Play) (name value : Bytes) (found : Option Refusal)
    → (played_by play (calls.SetAttribute name value) found).view.timers ≡ play.view.timers
unfolding played_by after_call
set-timers play name value None = refl
set-timers play name value (Some refused) = refl

set-same : (play : Play) (name value : Bytes)
    → (after_listed play (calls.SetAttribute name value)).view.timers ≡ play.view.timers
unfolding after_listed
set-same play name value = set-timers play name value (refusal play (calls.SetAttribute name value))

named-begins : (sess : SessId) (n : ℕ) (me : Bool) (play : Play)
    → is_refused (answer_of play (calls.StartTimer (deadline n me) Once (timed_name sess))) ≡ false
    → (answer : CallAnswer) → answer ≡ answers.Number play.view.next_timer
    → IsAccepted (after_listed play (calls.StartTimer (deadline n me) Once (timed_name sess))) (with_number (λ t. only (calls.SetAttribute (timed_name sess) (timed_text n me t))) answer)
    → IsBegun play.view.now sess n me (play_after (after_listed play (calls.StartTimer (deadline n me) Once (timed_name sess))) (with_number (λ t. only (calls.SetAttribute (timed_name sess) (timed_text n me t))) answer)).view
unfolding with_number only IsAccepted play_after
named-begins sess n me play is (answers.Number t) same ok =
    let one = after_listed play (calls.StartTimer (deadline n me) Once (timed_name sess)) in record {
      timer = record { id = record { 0 = play.view.next_timer }; due = play.view.now + deadline n me; period = Once; info = timed_name sess };
      earlier = play.view.timers;
      last = set-same one (timed_name sess) (timed_text n me t) ∙ started play (deadline n me) (timed_name sess) is;
      due = refl;
      once = refl;
      named = set-attribute one (timed_name sess) (timed_text n me t) (accepted-none one (calls.SetAttribute (timed_name sess) (timed_text n me t)) ok.0) ∙ ap (λ (t : ℕ). Some (timed_text n me t)) (number-is t play.view.next_timer same);
    }
  where
    number-is : (t next : ℕ) → answers.Number t ≡ answers.Number next → t ≡ next
    number-is t next is = cc
named-begins sess n me play is answers.Fine same ok = cc
named-begins sess n me play is (answers.Refused refused) same ok = cc

timer-begins : (sess : SessId) (n : ℕ) (me : Bool)
    → Begins sess n me (Make (calls.StartTimer (deadline n me) Once (timed_name sess)) (with_number (λ t. only (calls.SetAttribute (timed_name sess) (timed_text n me t)))))
unfolding IsAccepted play_after
timer-begins sess n me = λ play ok. named-begins sess n me play ok.0 _ (timer-number play (deadline n me) (timed_name sess) ok.0) ok.1

-- whatever ran before, where no call is refused, by what any view remembers
pub begun-at : (view : View) (sess : SessId) (n : ℕ) (me : Bool) → Begins sess n me (begin_timed sess view (On n me))
unfolding begin_timed
begun-at view sess n me = stopping sess n me view _ (timer-begins sess n me)

answered-view : (request : Option RequestView) (code : ℕ) (view : View) → (answered request code view).now ≡ view.now
unfolding answered answered_in tidy
answered-view None code view = refl
answered-view (Some request) code view = refl

answered-by : (play : Play) (req : ReqId) (answer : Answer) (found : Option Refusal) → (played_by play (calls.Respond req answer) found).view.now ≡ play.view.now
unfolding played_by after_call
answered-by play req answer None = answered-view (request_in play.view req) answer.code play.view
answered-by play req answer (Some refused) = refl

answered-now : (req : ReqId) (answer : Answer) (play : Play) → (after_listed play (calls.Respond req answer)).view.now ≡ play.view.now
unfolding after_listed
answered-now req answer play = answered-by play req answer (refusal play (calls.Respond req answer))

-- behind an answer
pub answered-begun : (view : View) (req : ReqId) (answer : Answer) (sess : SessId) (n : ℕ) (me : Bool)
    → Begins sess n me (accepted_then (calls.Respond req answer) (begin_timed sess view (On n me)))
answered-begun view req answer sess n me = after-call sess n me (calls.Respond req answer) (begin_timed sess view (On n me)) (answered-now req answer) (begun-at view sess n me)

-- the same, by what this view remembers
pub begun-timed : (play : Play) (sess : SessId) (n : ℕ) (me : Bool)
    → IsAccepted play (begin_timed sess play.view (On n me))
    → IsBegun play.view.now sess n me (play_after play (begin_timed sess play.view (On n me))).view
begun-timed play sess n me = begun-at play.view sess n me play
