-- A SipSession that a call has ended is gone, in the whole life of an application session.
use Rattle.std.proofs.Common.{◌++◌, ◌+◌, ◌∙◌, ◌∷◌, ◌≡◌, Bool, List, None, Option, Some, [], ap, arith, cond, false, length, refl, subst, suc, sym, true, ℕ}
use Rattle.std.proofs.lemmas.Bool.Decides.{nat_tests}
use Rattle.std.proofs.lemmas.List.Folds.{find-append}
use Rattle.std.specs.List.{find, list_any}
use Rattle.std.specs.Option.{option_map, option_map_or, option_or}
use Rattle.std.specs.Prelude.{◌&&◌, ◌==◌, is_none, is_some, map}
use Rattle.sc_value.specs.Lists.{change_first}
use Rattle.sc_value.specs.declared.ids.ReqId.{ReqId}
use Rattle.sc_value.specs.declared.ids.SessId.{SessId}
use Rattle.sc_value.specs.declared.message.Request.{Request}
use Rattle.sc_value.specs.declared.message.Response.{Response}
use Rattle.sc_terms.specs.declared.events.Event.TheVariants as events
use Rattle.sc_terms.specs.declared.settings.Config.{Config}
use Rattle.sc_terms.specs.declared.views.RequestView.{RequestView}
use Rattle.sc_terms.specs.declared.views.SessionView.{SessionView}
use Rattle.sc_terms.specs.declared.views.State.{State}
use Rattle.sc_terms.specs.declared.views.State.TheVariants.{Terminated}
use Rattle.sc_terms.specs.declared.views.TimerView.{TimerView}
use Rattle.sc_terms.specs.declared.views.View.{View}
use Rattle.sc_state.specs.declared.proxy.Proxy.{Proxy}
use Rattle.sc_state.specs.declared.queue.Queued.{Queued}
use Rattle.sc_state.specs.declared.queue.Queued.TheVariants as queued
use Rattle.sc_state.specs.declared.queue.Waiting.{Waiting}
use Rattle.sc_state.specs.declared.session.Invited.{Invited}
use Rattle.sc_state.specs.declared.session.Kept.{Kept}
use Rattle.sc_state.specs.declared.session.Known.{Known}
use Rattle.sc_state.specs.declared.session.Leg.{Leg}
use Rattle.sc_state.specs.declared.session.Session.{Session}
use Rattle.sc_state.specs.declared.working.Prepared.{Prepared}
use Rattle.sc_tokens.specs.Bytes.{Bytes}
use Rattle.sc_model.specs.Dialogs.{tag_of}
use Rattle.sc_model.specs.Transactions.{is_failure}
use Rattle.sc_hosts.specs.Branches.{is_supervised}
use Rattle.sc_hosts.specs.DerivedSessions.{Derives, Handling, In, Takes, derived_leg, derived_session, failed_session, handled_in, handling, is_overtaken, loses_tag, overtaken, overtaken_leg, overtaken_session, without_derived}
use Rattle.sc_hosts.specs.Legs.{FIRST_SESSION, answered_leg, change_leg, in_dialog, is_leg_of, is_low, leg_of, new_leg, session_for, with_answer, with_request}
use Rattle.sc_hosts.specs.Looking.{change_session, in_state, is_gone_in, is_proxy, is_session, linked_to, without_sip_session as removed, request_in, session_in}
use Rattle.sc_hosts.specs.Preparing.{cancelled_proxy, cancelled_request, after_timer as fired, has_expired, kept_of, prepared_session as prepared, prepared_branch_timer, prepared_cancel, prepared_expiry, prepared_for, prepared_timer, proxy_of, next_firing as renewed, showing_cancel, prepared_end as terminated, timed_out}
use Rattle.sc_hosts.specs.PreparingRequests.{next_id, prepared_request, with_received_request as received, showing, showing_in, silent, prepared_for_request as taken, taken_in, too_low}
use Rattle.sc_hosts.specs.PreparingResponses.{accepts_invite, branch_placed, heard_in, is_first_success, is_invalid, is_watched, noted_final, session_of_response as placed, prepared_branch, prepared_own, prepared_response, with_handled_response as responded, responded_again, responded_in, settled_legs, shown_again, with_branches, with_request_again}
use Rattle.sc_hosts.specs.ViewChanges.{view_with_answer as answered, answered_in, new_session, tidy, with_response}
use Rattle.sc_walked.specs.SessionWalks.{Each}
use Rattle.sc_walked.proofs.WalkParts.{each-first, each-map}
use Rattle.sc_once.proofs.Finding.{find-changed, find-other}
use Rattle.sc_lasting.proofs.Parts.{received-holds, removed-each}

pub clash : (b : Bool) → b ≡ true → b ≡ false → ⊥
clash b p q = cc

-- what a SipSession keeps: its number, and that it is gone
abbrev pub Soft : SessionView → SessionView → Type 0
Soft s t = ◌≡◌ {A = SessId} t.id s.id × (s.gone ≡ true → t.gone ≡ true)

-- what a leg keeps: of which SipSession it is, and whether a call ended that
abbrev pub Calm : Leg → Leg → Type 0
Calm l m = ◌≡◌ {A = SessId} m.id l.id × ◌≡◌ {A = Bool} m.invalidated l.invalidated

pub keep-soft : (s : SessionView) → Soft s s
keep-soft s = (refl, λ gone. gone)

pub then-soft : (r s t : SessionView) → Soft r s → Soft s t → Soft r t
then-soft r s t p q = (q.0 ∙ p.0, λ gone. q.1 (p.1 gone))

pub link-soft : (other : Option SessId) (s : SessionView) → Soft s (linked_to other s)
unfolding linked_to
link-soft other s = (refl, λ gone. gone)

pub gone-soft : (s : SessionView) → Soft s (record s { gone = true })
gone-soft s = (refl, λ gone. refl)

pub if-soft : (b : Bool) (r s t : SessionView) → Soft r s → Soft r t → Soft r (cond b s t)
if-soft true r s t p q = p
if-soft false r s t p q = q

pub state-soft : (state : State) (s : SessionView) → Soft s (in_state state s)
unfolding in_state
state-soft state s = (refl, λ gone. gone)

pub keep-calm : (leg : Leg) → Calm leg leg
keep-calm leg = (refl, refl)

-- a call ended the SipSession of this leg
abbrev pub is_ended : Option Leg → Bool
is_ended found = option_map_or (λ (leg : Leg). leg.invalidated) found false

-- a call ended the SipSession of this number
abbrev pub is_ended_in : SessId → List Leg → Bool
is_ended_in sess legs = is_ended (find (is_leg_of sess) legs)

-- the SipSession of this number is gone
abbrev pub GoneIn : SessId → List SessionView → Type 0
GoneIn sess ss = (s : SessionView) × (find (is_session sess) ss ≡ Some s) × (s.gone ≡ true)

-- they are numbered in order
unfoldable pub Placed : ℕ → List SessionView → Type 0
Placed n [] = Unit {0}
Placed n (s ∷ ss) = ◌≡◌ {A = ℕ} s.id.0 n × Placed (n + 1) ss

-- the SipSessions are numbered in order, and one that a call ended is gone
pub record Tied (ss : List SessionView) (legs : List Leg) : Type 0 where
  pub placed : Placed 1 ss
  pub gone : (sess : SessId) → is_ended_in sess legs ≡ true → GoneIn sess ss

-- ## Lists

one-is : (x s : SessionView) → Some x ≡ Some s → x ≡ s
one-is x s is = cc

placed-soft : (ss ts : List SessionView) (n : ℕ) → Each Soft ss ts → Placed n ss → Placed n ts
unfolding Each Placed
placed-soft [] [] n each placed = placed
placed-soft [] (t ∷ ts) n each placed = absurd each
placed-soft (s ∷ ss) [] n each placed = absurd each
placed-soft (s ∷ ss) (t ∷ ts) n each placed = (ap (λ (id : SessId). id.0) each.0.0 ∙ placed.0, placed-soft ss ts (n + 1) each.1 placed.1)

-- a list of the same numbers finds as much, and it is gone where that was
pub find-soft : (ss ts : List SessionView) (s : SessId) (found : SessionView) → Each Soft ss ts → find (is_session s) ss ≡ Some found
    → (other : SessionView) × (find (is_session s) ts ≡ Some other) × (found.gone ≡ true → other.gone ≡ true)
unfolding Each
find-soft [] ts s found each is = cc
find-soft (x ∷ ss) [] s found each is = absurd each
find-soft (x ∷ ss) (y ∷ ts) s found each is =
    by (y.id.0 == s.0) (subst (λ (id : SessId). cond (id.0 == s.0) (Some x) (find (is_session s) ss) ≡ Some found) (sym each.0.0) is) (λ p. find-soft ss ts s found each.1 p)
  where
    by : (b : Bool) → cond b (Some x) (find (is_session s) ss) ≡ Some found
        → (find (is_session s) ss ≡ Some found → (other : SessionView) × (find (is_session s) ts ≡ Some other) × (found.gone ≡ true → other.gone ≡ true))
        → (other : SessionView) × (cond b (Some y) (find (is_session s) ts) ≡ Some other) × (found.gone ≡ true → other.gone ≡ true)
    by true p rest = (y, refl, λ gone. each.0.1 (ap (λ (t : SessionView). t.gone) (one-is x found p) ∙ gone))
    by false p rest = rest p

pub tied-soft : (ss ts : List SessionView) (legs : List Leg) → Each Soft ss ts → Tied ss legs → Tied ts legs
tied-soft ss ts legs each tied = record {
  placed = placed-soft ss ts 1 each tied.placed;
  gone = λ sess ended. still sess (tied.gone sess ended);
}
  where
    still : (sess : SessId) → GoneIn sess ss → GoneIn sess ts
    still sess gone = let other = find-soft ss ts sess gone.0 each gone.1 in (other.0, other.1, other.2 gone.2)

-- legs that are the same, but for what they know, are ended where they were
pub calm-ended : (ls ms : List Leg) (sess : SessId) → Each Calm ls ms → is_ended_in sess ms ≡ true → is_ended_in sess ls ≡ true
unfolding Each
calm-ended [] [] sess each ended = ended
calm-ended [] (m ∷ ms) sess each ended = absurd each
calm-ended (l ∷ ls) [] sess each ended = absurd each
calm-ended (l ∷ ls) (m ∷ ms) sess each ended =
    by (l.id.0 == sess.0) (subst (λ (id : SessId). is_ended (cond (id.0 == sess.0) (Some m) (find (is_leg_of sess) ms)) ≡ true) each.0.0 ended) (λ p. calm-ended ls ms sess each.1 p)
  where
    by : (b : Bool) → is_ended (cond b (Some m) (find (is_leg_of sess) ms)) ≡ true → (is_ended_in sess ms ≡ true → is_ended_in sess ls ≡ true)
        → is_ended (cond b (Some l) (find (is_leg_of sess) ls)) ≡ true
    by true p rest = sym each.0.1 ∙ p
    by false p rest = rest p

pub tied-calm : (ss : List SessionView) (ls ms : List Leg) → Each Calm ls ms → Tied ss ls → Tied ss ms
tied-calm ss ls ms each tied = record {
  placed = tied.placed;
  gone = λ sess ended. tied.gone sess (calm-ended ls ms sess each ended);
}

next-place : (n m : ℕ) → n + suc m ≡ (n + 1) + m
next-place n m = omega arith

at-place : (n : ℕ) → n + 0 ≡ n
at-place n = omega arith

placed-more : (ss : List SessionView) (n : ℕ) (s : SessionView) → ◌≡◌ {A = ℕ} s.id.0 (n + length ss) → Placed n ss → Placed n (ss ++ s ∷ [])
unfolding Placed
placed-more [] n s is placed = (is ∙ at-place n, tt)
placed-more (x ∷ ss) n s is placed = (placed.0, placed-more ss (n + 1) s (is ∙ next-place n (length ss)) placed.1)

found-more : (ss : List SessionView) (s found : SessionView) (sess : SessId) → find (is_session sess) ss ≡ Some found → find (is_session sess) (ss ++ s ∷ []) ≡ Some found
found-more ss s found sess is = find-append (is_session sess) ss (s ∷ []) ∙ ap (λ (one : Option SessionView). option_or one (find (is_session sess) (s ∷ []))) is

pub more-sessions : (ss : List SessionView) (legs : List Leg) (s : SessionView) → ◌≡◌ {A = ℕ} s.id.0 (1 + length ss) → Tied ss legs → Tied (ss ++ s ∷ []) legs
more-sessions ss legs s is tied = record {
  placed = placed-more ss 1 s is tied.placed;
  gone = λ sess ended. still sess (tied.gone sess ended);
}
  where
    still : (sess : SessId) → GoneIn sess ss → GoneIn sess (ss ++ s ∷ [])
    still sess gone = (gone.0, found-more ss s gone.0 sess gone.1, gone.2)

-- a leg more, of a SipSession that no call ended
pub ended-more : (ls : List Leg) (leg : Leg) (sess : SessId) → leg.invalidated ≡ false → is_ended_in sess (ls ++ leg ∷ []) ≡ true → is_ended_in sess ls ≡ true
ended-more ls leg sess is ended =
    by (find (is_leg_of sess) ls) (leg.id.0 == sess.0) (ap (λ (found : Option Leg). is_ended found) (sym (find-append (is_leg_of sess) ls (leg ∷ []))) ∙ ended)
  where
    by : (found : Option Leg) (b : Bool) → is_ended (option_or found (cond b (Some leg) None)) ≡ true → is_ended found ≡ true
    by (Some l) b p = p
    by None true p = absurd (clash leg.invalidated p is)
    by None false p = p

pub more-legs : (ss : List SessionView) (legs : List Leg) (leg : Leg) → leg.invalidated ≡ false → Tied ss legs → Tied ss (legs ++ leg ∷ [])
more-legs ss legs leg is tied = record {
  placed = tied.placed;
  gone = λ sess ended. tied.gone sess (ended-more legs leg sess is ended);
}

no-leg : (sess : SessId) → is_ended_in sess [] ≡ true → ⊥
no-leg sess ended = cc

-- the first SipSession
pub first-tied : (s : SessionView) (leg : Leg) → ◌≡◌ {A = ℕ} s.id.0 1 → leg.invalidated ≡ false → Tied (s ∷ []) (leg ∷ [])
unfolding Placed
first-tied s leg is fine = record {
  placed = (is, tt);
  gone = λ sess ended. absurd (no-leg sess (ended-more [] leg sess fine ended));
}

pub last-number : (n : ℕ) → n + 1 ≡ 1 + n
last-number n = omega arith

-- ## A call ends a SipSession

pub same-number : (a b : ℕ) → (a == b) ≡ true → a ≡ b
same-number a b is = grind (arith, nat_tests, is)

not-both : (a b c : ℕ) → (a == b) ≡ true → (b == c) ≡ false → (a == c) ≡ false
not-both a b c p q = grind (arith, nat_tests, p, q)

abbrev pub ending : Leg → Leg
ending leg = record leg { invalidated = true }

abbrev leaving : SessionView → SessionView
leaving s = record s { gone = true }

-- the leg of another SipSession stays as it is
pub ended-other : (legs : List Leg) (sess other : SessId) → (sess.0 == other.0) ≡ false → find (is_leg_of other) (change_first (is_leg_of sess) ending legs) ≡ find (is_leg_of other) legs
ended-other legs sess other at = find-other legs (is_leg_of sess) (is_leg_of other) ending (λ leg here. not-both leg.id.0 sess.0 other.0 here at) (λ leg. refl)

pub tied-ends : (ss : List SessionView) (legs : List Leg) (sess : SessId) (found : SessionView) → find (is_session sess) ss ≡ Some found → Tied ss legs
    → Tied (change_first (is_session sess) leaving ss) (change_first (is_leg_of sess) ending legs)
tied-ends ss legs sess found is tied = record {
  placed = placed-soft ss (change_first (is_session sess) leaving ss) 1 (each-first Soft ss (is_session sess) leaving keep-soft gone-soft) tied.placed;
  gone = λ other ended. by other (sess.0 == other.0) refl ended;
}
  where
    itself : GoneIn sess (change_first (is_session sess) leaving ss)
    itself = (leaving found, find-changed ss (is_session sess) leaving (λ s. refl) ∙ ap (λ (one : Option SessionView). option_map leaving one) is, refl)

    another : (other : SessId) → (sess.0 == other.0) ≡ false → GoneIn other ss → GoneIn other (change_first (is_session sess) leaving ss)
    another other at gone =
        (gone.0, find-other ss (is_session sess) (is_session other) leaving (λ s here. not-both s.id.0 sess.0 other.0 here at) (λ s. refl) ∙ gone.1, gone.2)

    by : (other : SessId) (b : Bool) → (sess.0 == other.0) ≡ b → is_ended_in other (change_first (is_leg_of sess) ending legs) ≡ true → GoneIn other (change_first (is_session sess) leaving ss)
    by other true at ended =
        let same : ◌≡◌ {A = SessId} sess other = ap (λ (n : ℕ). record { 0 = n }) (same-number sess.0 other.0 at) in
        subst (λ (one : SessId). GoneIn one (change_first (is_session sess) leaving ss)) same itself
    by other false at ended = another other at (tied.gone other (ap (λ (one : Option Leg). is_ended one) (sym (ended-other legs sess other at)) ∙ ended))

-- ## Views

abbrev pub TiedIn : View → Known → Type 0
TiedIn view known = Tied view.sessions known.legs

pub if-tied : (b : Bool) (v w : View) (legs : List Leg) → Tied v.sessions legs → Tied w.sessions legs → Tied (cond b v w).sessions legs
if-tied true v w legs p q = p
if-tied false v w legs p q = q

pub changed-tied : (sess : SessId) (change : SessionView → SessionView) (view : View) (legs : List Leg) → ((s : SessionView) → Soft s (change s)) → Tied view.sessions legs → Tied (change_session sess change view).sessions legs
changed-tied sess change view legs each tied = tied-soft view.sessions _ legs (each-first Soft view.sessions (is_session sess) change keep-soft each) tied

response-soft : (request : RequestView) (tagged : Bool) (code : ℕ) (s : SessionView) → Soft s (with_response request tagged code s)
unfolding with_response
response-soft request tagged code s = (refl, λ gone. gone)

pub answered-tied : (found : Option RequestView) (code : ℕ) (view : View) (legs : List Leg) → Tied view.sessions legs → Tied (answered found code view).sessions legs
unfolding answered answered_in tidy
answered-tied None code view legs tied = tied
answered-tied (Some r) code view legs tied = changed-tied r.sess (with_response r true code) view legs (response-soft r true code) tied

pub answered_in-tied : (sess : SessId) (r : RequestView) (tagged : Bool) (code : ℕ) (view : View) (legs : List Leg) → Tied view.sessions legs → Tied (answered_in sess r tagged code view).sessions legs
unfolding answered_in
answered_in-tied sess r tagged code view legs tied = changed-tied sess (with_response r tagged code) view legs (response-soft r tagged code) tied

pub removed-tied : (sess : SessId) (view : View) (legs : List Leg) → Tied view.sessions legs → Tied (removed sess view).sessions legs
removed-tied sess view legs tied = tied-soft view.sessions _ legs (removed-each Soft keep-soft then-soft link-soft gone-soft sess view) tied

pub leg-tied : (sess : SessId) (change : Leg → Leg) (ss : List SessionView) (known : Known) → ((leg : Leg) → Calm leg (change leg)) → Tied ss known.legs → Tied ss (change_leg sess change known).legs
unfolding change_leg
leg-tied sess change ss known each tied = tied-calm ss known.legs _ (each-first Calm known.legs (is_leg_of sess) change keep-calm each) tied

pub request-calm : (request : Request) (leg : Leg) → Calm leg (with_request request leg)
unfolding with_request in_dialog
request-calm request leg = (refl, refl)

if-calm : (b : Bool) (leg x y : Leg) → Calm leg x → Calm leg y → Calm leg (cond b x y)
if-calm true leg x y p q = p
if-calm false leg x y p q = q

answer-calm : (request : Request) (response : Response) (leg : Leg) → Calm leg (with_answer request response leg)
unfolding with_answer answered_leg in_dialog
answer-calm request response leg = if-calm (is_some leg.dialog) leg _ _ (refl, refl) (if-calm _ leg _ leg (refl, refl) (keep-calm leg))

-- ## What is shown

received-tied : (x : Session) (number : ℕ) (sess : SessId) (initial passed : Bool) (request : Request) → TiedIn x.view x.known → TiedIn (received x number sess initial passed request).view (received x number sess initial passed request).known
received-tied x number sess initial passed request tied = received-holds (λ v k. Tied v.sessions k.legs) x number sess initial passed request (λ invited. tied)

abbrev pub TiedShown : Prepared → Type 0
TiedShown shown = TiedIn shown.view shown.known

if-shown : (b : Bool) (p q : Prepared) → TiedShown p → TiedShown q → TiedShown (cond b p q)
if-shown true p q a b = a
if-shown false p q a b = b

taken_in-tied : (x : Session) (number : ℕ) (sess : SessId) (found : Option SessionView) (request : Request) → TiedIn x.view x.known → TiedShown (taken_in x number sess found request)
unfolding taken_in silent too_low taken showing
taken_in-tied x number sess None request tied = tied
taken_in-tied x number sess (Some found) request tied =
    let low : Session = received x number sess false false request in
    let high : Session = received x number found.id false (is_proxy found.role) request in
    if-shown (is_low (leg_of x.known sess) request) (too_low x number sess request) (taken x number found request)
    (answered-tied (request_in low.view (next_id x)) 500 low.view low.known.legs (received-tied x number sess false false request tied))
    (leg-tied found.id (with_request request) high.view.sessions high.known (request-calm request) (received-tied x number found.id false (is_proxy found.role) request tied))

request-tied : (x : Session) (number : ℕ) (request : Request) (which : Option SessId) → TiedIn x.view x.known → TiedShown (prepared_request x number request which)
unfolding prepared_request silent
request-tied x number request None tied = tied
request-tied x number request (Some sess) tied = taken_in-tied x number sess (session_in x.view sess) request tied

abbrev TiedAt : SessId × Session → Type 0
TiedAt pair = TiedIn pair.1.view pair.1.known

derived-false : (sess : SessId) (original : Option Leg) (req : ReqId) (came : Option Request) → (derived_leg sess original req came).invalidated ≡ false
unfolding derived_leg new_leg
derived-false sess None req came = refl
derived-false sess (Some original) req came = refl

tag-soft : (tag : Bytes) (s : SessionView) → Soft s (record s { peer_tag = Some tag })
tag-soft tag s = (refl, λ gone. gone)

derived-number : (view : View) (original : SessionView) (tag : Bytes) → (derived_session view original tag).id.0 ≡ 1 + length view.sessions
unfolding derived_session
derived-number view original tag = last-number (length view.sessions)

handled-tied : (x : Session) (req : ReqId) (original : SessionView) (came : Option Request) (how : Handling) → TiedIn x.view x.known → TiedAt (handled_in x req original came how)
unfolding handled_in
handled-tied x req original came (In sess) tied = tied
handled-tied x req original came (Takes tag) tied = changed-tied original.id (λ s. record s { peer_tag = Some tag }) x.view x.known.legs (tag-soft tag) tied
handled-tied x req original came (Derives tag) tied =
    more-legs (x.view.sessions ++ derived_session x.view original tag ∷ []) x.known.legs (derived_leg (new_session x.view) (leg_of x.known original.id) req came)
    (derived-false (new_session x.view) (leg_of x.known original.id) req came)
    (more-sessions x.view.sessions x.known.legs (derived_session x.view original tag) (derived-number x.view original tag) tied)

if-at : (b : Bool) (p q : SessId × Session) → TiedAt p → TiedAt q → TiedAt (cond b p q)
if-at true p q a b = a
if-at false p q a b = b

placed-tied : (x : Session) (kept : Kept) (request : RequestView) (response : Response) (found : Option SessionView) → TiedIn x.view x.known → TiedAt (placed x kept request response found)
unfolding placed
placed-tied x kept request response None tied = tied
placed-tied x kept request response (Some original) tied =
    if-at request.initial (handled_in x request.id original None (handling x request.id original kept.request response)) (request.sess, x)
    (handled-tied x request.id original None (handling x request.id original kept.request response) tied) tied

branch-placed-tied : (x : Session) (proxy : Proxy) (response : Response) (found : Option SessionView) → TiedIn x.view x.known → TiedAt (branch_placed x proxy response found)
unfolding branch_placed
branch-placed-tied x proxy response None tied = tied
branch-placed-tied x proxy response (Some original) tied =
    if-at (is_some proxy.options) (handled_in x proxy.req original (Some proxy.request) (handling x proxy.req original proxy.request response)) (proxy.sess, x)
    (handled-tied x proxy.req original (Some proxy.request) (handling x proxy.req original proxy.request response) tied) tied

overtaken-calm : (session : Session) (req : ReqId) (sess : SessId) (leg : Leg) → Calm leg (overtaken_leg session req sess leg)
unfolding overtaken_leg
overtaken-calm session req sess leg = if-calm (loses_tag session req sess leg) leg (record leg { overtaken = true }) leg (refl, refl) (keep-calm leg)

overtaken-soft : (known : Known) (req : ReqId) (sess : SessId) (s : SessionView) → Soft s (overtaken_session known req sess s)
unfolding overtaken_session
overtaken-soft known req sess s = if-soft (is_overtaken known req sess s) s (in_state Terminated s) s (state-soft Terminated s) (keep-soft s)

overtaken-tied : (req : ReqId) (sess : SessId) (x : Session) → TiedIn x.view x.known → TiedIn (overtaken req sess x).view (overtaken req sess x).known
unfolding overtaken
overtaken-tied req sess x tied =
    tied-soft x.view.sessions _ (map (overtaken_leg x req sess) x.known.legs) (each-map Soft x.view.sessions (overtaken_session x.known req sess) (overtaken-soft x.known req sess))
    (tied-calm x.view.sessions x.known.legs _ (each-map Calm x.known.legs (overtaken_leg x req sess) (overtaken-calm x req sess)) tied)

failed-soft : (known : Known) (req : ReqId) (original : SessId) (s : SessionView) → Soft s (failed_session known req original s)
unfolding failed_session
failed-soft known req original s = if-soft _ s (in_state Terminated s) s (state-soft Terminated s) (keep-soft s)

derived-tied : (req : ReqId) (original : SessId) (x : Session) → TiedIn x.view x.known → TiedIn (without_derived req original x).view (without_derived req original x).known
unfolding without_derived
derived-tied req original x tied =
    tied-soft x.view.sessions _ x.known.legs (each-map Soft x.view.sessions (failed_session x.known req original) (failed-soft x.known req original)) tied

if-session : (b : Bool) (x y : Session) → TiedIn x.view x.known → TiedIn y.view y.known → TiedIn (cond b x y).view (cond b x y).known
if-session true x y p q = p
if-session false x y p q = q

settled-tied : (request : RequestView) (sess : SessId) (response : Response) (x : Session) → TiedIn x.view x.known → TiedIn (settled_legs request sess response x).view (settled_legs request sess response x).known
unfolding settled_legs
settled-tied request sess response x tied =
    if-session (is_first_success request response) (overtaken request.id sess x) (cond (request.initial && is_failure response.code) (without_derived request.id request.sess x) x) (overtaken-tied request.id sess x tied)
    (if-session (request.initial && is_failure response.code) (without_derived request.id request.sess x) x (derived-tied request.id request.sess x tied) tied)

responded-tied : (kept : Kept) (request : RequestView) (response : Response) (sess : SessId) (x : Session) → TiedIn x.view x.known
    → TiedIn (responded kept request response sess x).view (responded kept request response sess x).known
unfolding responded tidy
responded-tied kept request response sess x tied =
    let after : Session = settled_legs request sess response x in
    let view : View = answered_in sess request (is_some (tag_of response.head.to)) response.code after.view in
    leg-tied sess (with_answer kept.request response) view.sessions after.known (answer-calm kept.request response)
    (answered_in-tied sess request (is_some (tag_of response.head.to)) response.code after.view after.known.legs (settled-tied request sess response x tied))

responded_in-tied : (kept : Kept) (request : RequestView) (response : Response) (pair : SessId × Session) → TiedAt pair → TiedShown (responded_in kept request response pair)
unfolding responded_in silent showing noted_final tidy
responded_in-tied kept request response (sess, x) tied =
    if-shown (is_gone_in x.view sess) (silent (noted_final kept.id response.code x) []) (showing (responded kept request response sess x) (events.Response kept.id sess response) None []) tied
    (responded-tied kept request response sess x tied)

responded_again-tied : (kept : Kept) (request : RequestView) (response : Response) (pair : SessId × Session) → TiedAt pair → TiedShown (responded_again kept request response pair)
unfolding responded_again silent showing
responded_again-tied kept request response (sess, x) tied =
    if-shown (is_gone_in x.view sess) (silent x []) (showing (responded kept request response sess (with_request_again request x)) (events.Response kept.id sess response) None []) tied
    (responded-tied kept request response sess (with_request_again request x) tied)

own-tied : (x : Session) (kept : Kept) (response : Response) (found : Option RequestView) → TiedIn x.view x.known → TiedShown (prepared_own x kept response found)
unfolding prepared_own silent
own-tied x kept response None tied =
    let again : RequestView = shown_again x.known kept response.code in
    if-shown (accepts_invite kept response) (responded_again kept again response (placed x kept again response (session_in x.view kept.sess))) (silent x [])
    (responded_again-tied kept again response (placed x kept again response (session_in x.view kept.sess)) (placed-tied x kept again response (session_in x.view kept.sess) tied)) tied
own-tied x kept response (Some request) tied =
    responded_in-tied kept request response (placed x kept request response (session_in x.view request.sess)) (placed-tied x kept request response (session_in x.view request.sess) tied)

heard_in-tied : (proxy : Proxy) (branch : ℕ) (response : Response) (pair : SessId × Session) → TiedAt pair → TiedShown (heard_in proxy branch response pair)
unfolding heard_in silent showing_in with_branches
heard_in-tied proxy branch response (sess, x) tied =
    if-shown (is_watched x.known proxy) _ _ (leg-tied sess (with_answer proxy.request response) x.view.sessions x.known (answer-calm proxy.request response) tied)
    (leg-tied sess (with_answer proxy.request response) x.view.sessions x.known (answer-calm proxy.request response) tied)

branch-tied : (x : Session) (proxy : Proxy) (branch : ℕ) (response : Response) → TiedIn x.view x.known → TiedShown (prepared_branch x proxy branch response)
unfolding prepared_branch silent
branch-tied x proxy branch response tied =
    if-shown (is_invalid x.known proxy.sess) (silent x []) (heard_in proxy branch response (branch_placed x proxy response (session_in x.view proxy.sess))) tied
    (heard_in-tied proxy branch response (branch_placed x proxy response (session_in x.view proxy.sess)) (branch-placed-tied x proxy response (session_in x.view proxy.sess) tied))

response-tied : (x : Session) (branch : ℕ) (response : Response) (kept : Option Kept) (proxy : Option Proxy) → TiedIn x.view x.known → TiedShown (prepared_response x branch response kept proxy)
unfolding prepared_response silent
response-tied x branch response (Some kept) proxy tied = own-tied x kept response (request_in x.view kept.id) tied
response-tied x branch response None (Some proxy) tied = branch-tied x proxy branch response tied
response-tied x branch response None None tied = tied

showing-cancel-tied : (x : Session) (invited : Invited) → TiedIn x.view x.known → TiedShown (showing_cancel x invited)
unfolding showing_in
showing-cancel-tied x invited tied = tied

terminated-tied : (x : Session) (invited : Invited) (request : RequestView) (kept : Option Kept) → TiedIn x.view x.known → TiedShown (terminated x invited request kept)
unfolding terminated showing_in
terminated-tied x invited request None tied = tied
terminated-tied x invited request (Some kept) tied = answered-tied (Some request) 487 x.view x.known.legs tied

cancelled_proxy-tied : (x : Session) (invited : Invited) (proxy : Option Proxy) → TiedIn x.view x.known → TiedShown (cancelled_proxy x invited proxy)
unfolding cancelled_proxy silent showing_in
cancelled_proxy-tied x invited None tied = tied
cancelled_proxy-tied x invited (Some proxy) tied = if-shown (is_supervised proxy) _ _ tied tied

cancelled-tied : (x : Session) (invited : Invited) (found : Option RequestView) → TiedIn x.view x.known → TiedShown (cancelled_request x invited found)
unfolding cancelled_request showing_in
cancelled-tied x invited None tied = tied
cancelled-tied x invited (Some request) tied =
    if-shown request.proxied (cancelled_proxy x invited (proxy_of x.known invited.req)) _ (cancelled_proxy-tied x invited (proxy_of x.known invited.req) tied)
    (if-shown (is_none request.answered) (terminated x invited request (kept_of x.known invited.req)) (showing_cancel x invited) (terminated-tied x invited request (kept_of x.known invited.req) tied) tied)

cancel-tied : (x : Session) (invited : Option Invited) → TiedIn x.view x.known → TiedShown (prepared_cancel x invited)
unfolding prepared_cancel silent
cancel-tied x None tied = tied
cancel-tied x (Some invited) tied = cancelled-tied x invited (request_in x.view invited.req) tied

fired-tied : (view : View) (timer : TimerView) (due : Option ℕ) (legs : List Leg) → Tied view.sessions legs → Tied (fired view timer due).sessions legs
unfolding fired
fired-tied view timer None legs tied = tied
fired-tied view timer (Some due) legs tied = tied

timer-tied : (x : Session) (timer : Option TimerView) → TiedIn x.view x.known → TiedShown (prepared_timer x timer)
unfolding prepared_timer silent showing
timer-tied x None tied = tied
timer-tied x (Some timer) tied = fired-tied x.view timer (renewed x.view.now timer) x.known.legs tied

expiry-tied : (x : Session) → TiedIn x.view x.known → TiedShown (prepared_expiry x)
unfolding prepared_expiry silent showing
expiry-tied x tied = if-shown (has_expired x.view) _ _ tied tied

timed-tied : (config : Config) (x : Session) (proxy : Proxy) (branch : ℕ) (provisional : Bool) → TiedIn x.view x.known → TiedIn (timed_out config x proxy branch provisional).view (timed_out config x proxy branch provisional).known
unfolding timed_out
timed-tied config x proxy branch provisional tied = if-session _ _ _ tied tied

branch-timer-tied : (config : Config) (ringing : List ℕ) (x : Session) (branch due : ℕ) (proxy : Option Proxy) → TiedIn x.view x.known → TiedShown (prepared_branch_timer config ringing x branch due proxy)
unfolding prepared_branch_timer silent
branch-timer-tied config ringing x branch due None tied = tied
branch-timer-tied config ringing x branch due (Some proxy) tied =
    if-shown _ _ (silent x []) (timed-tied config x proxy branch (list_any (λ k. k == branch) ringing) tied) tied

for-tied : (config : Config) (ringing : List ℕ) (x : Session) (number : ℕ) (event : Queued) → TiedIn x.view x.known → TiedShown (prepared_for config ringing x number event)
unfolding prepared_for showing
for-tied config ringing x number (queued.Initial region subscriber popped request) tied = received-tied x number FIRST_SESSION true false request tied
for-tied config ringing x number (queued.Request request) tied = request-tied x number request (session_for x request) tied
for-tied config ringing x number (queued.Response branch response) tied = response-tied x branch response _ _ tied
for-tied config ringing x number (queued.Cancelled event) tied = cancel-tied x _ tied
for-tied config ringing x number (queued.Timer id) tied = timer-tied x _ tied
for-tied config ringing x number (queued.BranchTimer branch due) tied = branch-timer-tied config ringing x branch due _ tied
for-tied config ringing x number queued.Expired tied = expiry-tied x tied
for-tied config ringing x number queued.Ready tied = tied

pub prepared-tied : (config : Config) (ringing : List ℕ) (x : Session) (waiting : Waiting) (now : ℕ) → TiedIn x.view x.known → TiedShown (prepared config ringing x waiting now)
unfolding prepared
prepared-tied config ringing x waiting now tied = for-tied config ringing (record x { view = record x.view { now = now } }) waiting.number waiting.event tied
