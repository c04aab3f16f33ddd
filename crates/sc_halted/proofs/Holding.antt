-- The SipSession that takes a later request is one that no call has ended before.
use Rattle.std.proofs.Common.{◌+◌, ◌∙◌, ◌∷◌, ◌≡◌, ◌≤◌, Bool, List, None, Option, Some, [], ap, arith, cond, false, inl, inr, refl, subst, sym, true, ℕ}
use Rattle.std.proofs.lemmas.Bool.Decides.{nat_tests}
use Rattle.std.specs.List.{find, fold}
use Rattle.std.specs.Prelude.{◌&&◌, ◌==◌, is_some, not, option_map}
use Rattle.sc_value.specs.declared.ids.AppId.{AppId}
use Rattle.sc_value.specs.declared.ids.ReqId.{ReqId}
use Rattle.sc_value.specs.declared.ids.SessId.{SessId}
use Rattle.sc_value.specs.declared.message.Request.{Request}
use Rattle.sc_value.specs.declared.parts.Uri.{Uri}
use Rattle.sc_terms.specs.declared.calls.Answer.{Answer}
use Rattle.sc_terms.specs.declared.calls.Call.{Call}
use Rattle.sc_terms.specs.declared.calls.Call.TheVariants as calls
use Rattle.sc_terms.specs.declared.calls.CallRecord.{CallRecord}
use Rattle.sc_terms.specs.declared.calls.ProxyOptions.{ProxyOptions}
use Rattle.sc_terms.specs.declared.calls.Refusal.{Refusal}
use Rattle.sc_terms.specs.declared.inside.Inside.{Inside}
use Rattle.sc_terms.specs.declared.settings.Config.{Config}
use Rattle.sc_terms.specs.declared.steps.Step.{Step}
use Rattle.sc_terms.specs.declared.views.RequestView.{RequestView}
use Rattle.sc_terms.specs.declared.views.SessionView.{SessionView}
use Rattle.sc_parts.specs.declared.setup.Setup.{Setup}
use Rattle.sc_state.specs.declared.host.Live.{Live}
use Rattle.sc_state.specs.declared.session.Kept.{Kept}
use Rattle.sc_state.specs.declared.session.Known.{Known}
use Rattle.sc_state.specs.declared.session.Leg.{Leg}
use Rattle.sc_state.specs.declared.session.Session.{Session}
use Rattle.sc_state.specs.declared.working.Asked.{Asked}
use Rattle.sc_state.specs.declared.working.Asked.TheVariants as asked
use Rattle.sc_state.specs.declared.working.Draft.{Draft}
use Rattle.sc_state.specs.declared.working.Prepared.{Prepared}
use Rattle.sc_state.specs.declared.working.Working.{Working}
use Rattle.sc_state.specs.declared.working.Written.{Written}
use Rattle.sc_tokens.specs.Bytes.{Bytes}
use Rattle.sc_model.specs.Dialogs.{DialogState}
use Rattle.sc_hosts.specs.Branches.{with_targets}
use Rattle.sc_hosts.specs.Effects.{first_play as begun}
use Rattle.sc_hosts.specs.Giving.{answering, directs, drafts_later, drafts_leg, drafts_own, forgets, writes}
use Rattle.sc_hosts.specs.Histories.{as_session, session_of}
use Rattle.sc_hosts.specs.Legs.{change_leg, in_dialog, is_leg_of, leg_of, new_leg, session_for, takes_request, with_request}
use Rattle.sc_hosts.specs.Looking.{is_proxy, is_session}
use Rattle.sc_hosts.specs.Preparing.{kept_of, proxy_of}
use Rattle.sc_hosts.specs.PreparingRequests.{with_received_request as received, showing, prepared_for_request as taken}
use Rattle.sc_hosts.specs.PreparingResponses.{change_proxy, is_invalid}
use Rattle.sc_hosts.specs.RefusalParts.{draft_in}
use Rattle.sc_hosts.specs.Refusals.{refusal}
use Rattle.sc_hosts.specs.Runs.{net_from as chained}
use Rattle.sc_hosts.specs.Steps.{live_at}
use Rattle.sc_hosts.specs.ViewChanges.{new_session}
use Rattle.sc_hosts.specs.Working.{ack_with, acknowledges, cancels, dialog_in, effects_of_call as does, does_by, invalidates, keeps_sent, proxies, proxies_first, sends, sends_in, sends_initial, sends_later, sends_written, starts, after_one_call as worked, worked_all}
use Rattle.sc_walked.proofs.WalkParts.{each-first}
use Rattle.sc_lasting.proofs.Began.{test-found}
use Rattle.sc_lasting.proofs.Lives.{live-is}
use Rattle.sc_lasting.proofs.Parts.{received-holds}
use Rattle.sc_onward.specs.Onward.{ComesToProxy}
use Rattle.sc_onward.proofs.Ends.{dated, shown-is}
use Rattle.sc_onward.proofs.Stopping.{named as named-is}
use Rattle.sc_halted.specs.Halted.{EndsThere, shown_of}
use Rattle.sc_halted.proofs.Tied.{Calm, Placed, TiedIn, calm-ended, clash, ended-more, ended-other, is_ended, is_ended_in, keep-calm, request-calm, same-number}
use Rattle.sc_halted.proofs.TiedTurns.{dialog-calm, life-tied, new-false}

-- none was ended but those that were
abbrev NoNew : List Leg → List Leg → Type 0
NoNew after legs = (sess : SessId) → is_ended_in sess after ≡ true → is_ended_in sess legs ≡ true

leg-new : (sess : SessId) (change : Leg → Leg) (known : Known) → ((leg : Leg) → Calm leg (change leg)) → NoNew (change_leg sess change known).legs known.legs
unfolding change_leg
leg-new sess change known each = λ s ended. calm-ended known.legs _ s (each-first Calm known.legs (is_leg_of sess) change keep-calm each) ended

-- ## Calls

answering-new : (config : Config) (found : Option RequestView) (answer : Answer) (working : Working) → NoNew (answering config found answer working).known.legs working.known.legs
unfolding answering
answering-new config None answer working = λ s ended. ended
answering-new config (Some r) answer working = λ s ended. ended

drafted-new : (req : ReqId) (uri : Option Uri) (kept : Option Kept) (working : Working) → NoNew (drafts_leg req uri kept working).known.legs working.known.legs
unfolding drafts_leg writes
drafted-new req uri None working = λ s ended. ended
drafted-new req uri (Some kept) working = λ s ended. ended-more working.known.legs (new_leg (new_session working.play.view) None) s (new-false (new_session working.play.view) None) ended

in-new : (config : Config) (s : SessId) (ask : Inside) (dialog : Option DialogState) (working : Working) → NoNew (sends_in config s ask dialog working).known.legs working.known.legs
unfolding sends_in sends_later keeps_sent
in-new config s ask None working = λ s ended. ended
in-new config s ask (Some dialog) working = leg-new s (in_dialog _) working.known (dialog-calm _)

written-new : (config : Config) (draft : Written) (s : SessId) (what : Asked) (working : Working) → NoNew (sends_written config draft s what working).known.legs working.known.legs
unfolding sends_written sends_initial keeps_sent
written-new config draft s (asked.Initial request) working = leg-new s (λ leg. record leg { first = Some (record { 0 = working.play.view.next_request }) }) working.known (λ leg. (refl, refl))
written-new config draft s (asked.Later ask) working = in-new config s ask (dialog_in working.known s) working

sends-new : (config : Config) (draft : ℕ) (written : Option Written) (found : Option Draft) (working : Working) → NoNew (sends config draft written found working).known.legs working.known.legs
unfolding sends forgets
sends-new config draft (Some written) (Some found) working = written-new config written found.sess written.asked working
sends-new config draft (Some written) None working = λ s ended. ended
sends-new config draft None found working = λ s ended. ended

ack_with-new : (config : Config) (body : Bytes) (dialog : Option DialogState) (kept : Option Kept) (working : Working) → NoNew (ack_with config body dialog kept working).known.legs working.known.legs
unfolding ack_with
ack_with-new config body (Some dialog) (Some kept) working = λ s ended. ended
ack_with-new config body (Some dialog) None working = λ s ended. ended
ack_with-new config body None kept working = λ s ended. ended

acks-new : (config : Config) (s : SessId) (body : Bytes) (found : Option RequestView) (working : Working) → NoNew (acknowledges config s body found working).known.legs working.known.legs
unfolding acknowledges
acks-new config s body None working = λ s ended. ended
acks-new config s body (Some r) working = ack_with-new config body _ _ working

if-new : (b : Bool) (x y : Known) (legs : List Leg) → NoNew x.legs legs → NoNew y.legs legs → NoNew (cond b x y).legs legs
if-new true x y legs p q = p
if-new false x y legs p q = q

first-new : (req : ReqId) (uris : List Uri) (how : ProxyOptions) (kept : Option Kept) (known : Known) → NoNew (proxies_first req uris how kept known).legs known.legs
unfolding proxies_first
first-new req uris how None known = λ s ended. ended
first-new req uris how (Some kept) known = λ s ended. ended

proxies-new : (req : ReqId) (uris : List Uri) (how : ProxyOptions) (known : Known) → NoNew (proxies req uris how known).legs known.legs
unfolding proxies
proxies-new req uris how known =
    if-new (is_some (proxy_of known req)) (change_proxy req (with_targets uris) known) (proxies_first req uris how (kept_of known req) known) known.legs (λ s ended. ended) (first-new req uris how (kept_of known req) known)

-- another number
away : (a b : SessId) → (a ≡ b → ⊥) → (a.0 == b.0) ≡ false
away a b other = by (a.0 == b.0) refl
  where
    by : (t : Bool) → (a.0 == b.0) ≡ t → t ≡ false
    by true at = let same : ◌≡◌ {A = SessId} a b = ap (λ (n : ℕ). record { 0 = n }) (same-number a.0 b.0 at) in absurd (other same)
    by false at = refl

-- a call that doesn't end this SipSession
module _ (sess : SessId) where
  invalid-new : (config : Config) (working : Working) (s : SessId) → (calls.InvalidateSession s ≡ calls.InvalidateSession sess → ⊥)
      → is_invalid (invalidates config s working).known sess ≡ true → is_invalid working.known sess ≡ true
  unfolding invalidates is_invalid leg_of change_leg
  invalid-new config working s other ended =
      let apart : (s.0 == sess.0) ≡ false = away s sess (λ same. other (ap (λ (x : SessId). calls.InvalidateSession x) same)) in
      ap (λ (found : Option Leg). is_ended found) (sym (ended-other working.known.legs s sess apart)) ∙ ended

  call-new : (config : Config) (working : Working) (call : Call) → (call ≡ calls.InvalidateSession sess → ⊥)
      → is_invalid (does config working call).known sess ≡ true → is_invalid working.known sess ≡ true
  unfolding does drafts_own drafts_later writes directs forgets cancels is_invalid leg_of
  call-new config working (calls.Respond req answer) other = answering-new config _ answer working sess
  call-new config working (calls.CreateRequest ask) other =
      λ ended. ended-more working.known.legs (new_leg (new_session working.play.view) None) sess (new-false (new_session working.play.view) None) ended
  call-new config working (calls.CreateInDialog s ask) other = λ ended. ended
  call-new config working (calls.B2bCreate req uri) other = drafted-new req uri _ working sess
  call-new config working (calls.SetDirective draft directive origin) other = λ ended. ended
  call-new config working (calls.Send draft) other = sends-new config draft _ (draft_in working.play draft) working sess
  call-new config working (calls.Discard draft) other = λ ended. ended
  call-new config working (calls.Ack s body) other = acks-new config s body _ working sess
  call-new config working (calls.Cancel req) other = λ ended. ended
  call-new config working (calls.ProxyTo req uris how) other = proxies-new req uris how working.known sess
  call-new config working (calls.ProxyCancel req) other = λ ended. ended
  call-new config working (calls.B2bRespond s answer) other = answering-new config _ answer working sess
  call-new config working (calls.Link a b) other = λ ended. ended
  call-new config working (calls.Unlink a) other = λ ended. ended
  call-new config working (calls.StartTimer delay period info) other = λ ended. ended
  call-new config working (calls.CancelTimer id) other = λ ended. ended
  call-new config working (calls.SetAttribute name value) other = λ ended. ended
  call-new config working (calls.RemoveAttribute name) other = λ ended. ended
  call-new config working (calls.SetExpires minutes) other = λ ended. ended
  call-new config working (calls.SetReadyFlag target flag) other = λ ended. ended
  call-new config working (calls.InvalidateSession s) other = invalid-new config working s other
  call-new config working calls.InvalidateApplication other = λ ended. ended

  by-refusal : (config : Config) (working : Working) (call : Call) (found : Option Refusal) → ((call ≡ calls.InvalidateSession sess) × (found ≡ None) → ⊥)
      → is_invalid (does_by config working call found).known sess ≡ true → is_invalid working.known sess ≡ true
  unfolding does_by
  by-refusal config working call None other = call-new config working call (λ same. other (same, refl))
  by-refusal config working call (Some refused) other = λ ended. ended

  worked-new : (config : Config) (working : Working) (call : Call) → ((call ≡ calls.InvalidateSession sess) × (refusal working.play call ≡ None) → ⊥)
      → is_invalid (worked config working call).known sess ≡ true → is_invalid working.known sess ≡ true
  unfolding worked
  worked-new config working call other = by-refusal config working call (refusal working.play call) other

  calls-new : (made : List CallRecord) (config : Config) (working : Working) → (EndsThere sess working.play made → ⊥)
      → is_invalid (fold (λ (w : Working) (m : CallRecord). worked config w m.call) working made).known sess ≡ true → is_invalid working.known sess ≡ true
  unfolding EndsThere worked
  calls-new [] config working none ended = ended
  calls-new (m ∷ made) config working none ended =
      worked-new config working m.call (λ both. none (inl both))
      (calls-new made config (worked config working m.call) (λ later. none (inr later)) ended)

-- ## What takes a request isn't gone

some-one : (a b : SessionView) → Some a ≡ Some b → a ≡ b
some-one a b is = cc

low-number : (n m : ℕ) → n + 1 ≤ m → n ≤ m
low-number n m p = omega (arith, p)

least-number : (n m : ℕ) → n ≡ m → n ≤ m
least-number n m p = omega (arith, p)

found-least : (test : SessionView → Bool) (ss : List SessionView) (n : ℕ) (s : SessionView) → Placed n ss → find test ss ≡ Some s → n ≤ s.id.0
unfolding Placed
found-least test [] n s placed is = cc
found-least test (x ∷ ss) n s placed is = by (test x) is (λ p. found-least test ss (n + 1) s placed.1 p)
  where
    by : (b : Bool) → cond b (Some x) (find test ss) ≡ Some s → (find test ss ≡ Some s → n + 1 ≤ s.id.0) → n ≤ s.id.0
    by true p rest = least-number n s.id.0 (sym placed.0 ∙ ap (λ (y : SessionView). y.id.0) (some-one x s p))
    by false p rest = low-number n s.id.0 (rest p)

same-test : (a b : ℕ) → a ≡ b → (a == b) ≡ true
same-test a b is = grind (arith, nat_tests, is)

higher-test : (a n b : ℕ) → a ≡ n → n + 1 ≤ b → (a == b) ≡ false
higher-test a n b is high = grind (arith, nat_tests, is, high)

-- what is found by any test is found by its number
found-own : (test : SessionView → Bool) (ss : List SessionView) (n : ℕ) (s : SessionView) → Placed n ss → find test ss ≡ Some s → find (is_session s.id) ss ≡ Some s
unfolding Placed
found-own test [] n s placed is = cc
found-own test (x ∷ ss) n s placed is = by (test x) is (λ p. found-least test ss (n + 1) s placed.1 p) (λ p. found-own test ss (n + 1) s placed.1 p)
  where
    by : (b : Bool) → cond b (Some x) (find test ss) ≡ Some s → (find test ss ≡ Some s → n + 1 ≤ s.id.0) → (find test ss ≡ Some s → find (is_session s.id) ss ≡ Some s)
        → cond (x.id.0 == s.id.0) (Some x) (find (is_session s.id) ss) ≡ Some s
    by true p high rest =
        subst (λ (b : Bool). cond b (Some x) (find (is_session s.id) ss) ≡ Some s) (sym (same-test x.id.0 s.id.0 (ap (λ (y : SessionView). y.id.0) (some-one x s p)))) p
    by false p high rest =
        subst (λ (b : Bool). cond b (Some x) (find (is_session s.id) ss) ≡ Some s) (sym (higher-test x.id.0 n s.id.0 placed.0 (high p))) (rest p)

there-not : (a b c d : Bool) → (a && not b && c && d) ≡ true → b ≡ false
there-not true false c d is = refl
there-not true true c d is = cc
there-not false b c d is = cc

not-gone : (known : Known) (request : Request) (s : SessionView) → takes_request known request s ≡ true → s.gone ≡ false
unfolding takes_request
not-gone known request s is = there-not _ s.gone _ _ is

found-id : (found : Option SessionView) (sess : SessId) → option_map (λ (s : SessionView). s.id) found ≡ Some sess → (s : SessionView) × (found ≡ Some s) × (s.id ≡ sess)
found-id None sess is = cc
found-id (Some s) sess is = (s, refl, id-is s.id sess is)
  where
    id-is : (a b : SessId) → Some a ≡ Some b → a ≡ b
    id-is a b is = cc

taken-new : (x : Session) (event : ℕ) (found : SessionView) (request : Request) → NoNew (taken x event found request).known.legs x.known.legs
unfolding taken showing
taken-new x event found request =
    let high : Session = received x event found.id false (is_proxy found.role) request in
    let same : NoNew high.known.legs x.known.legs = received-holds (λ v k. NoNew k.legs x.known.legs) x event found.id false (is_proxy found.role) request (λ invited. λ s ended. ended) in
    λ s ended. same s (leg-new found.id (with_request request) high.known (request-calm request) s ended)

-- ## A turn

module _ (config : Config) (ringing : List ℕ) (x : Session) (event : ℕ) (request : Request) (now : ℕ) (made : List CallRecord) (comes : ComesToProxy x request) (tied : TiedIn x.view x.known) where
  abbrev Sess : SessId
  Sess = comes.found.id

  abbrev Shows : Prepared
  Shows = shown_of config ringing x event request now

  its-name : Sess ≡ comes.sess
  its-name = named-is comes.sess x.view.sessions comes.found comes.there

  shown-new : is_invalid Shows.known Sess ≡ true → is_invalid x.known Sess ≡ true
  unfolding is_invalid leg_of
  shown-new ended =
      let same : Shows ≡ taken (dated x now) event comes.found request = shown-is config ringing x event now request comes.sess comes.found comes.for comes.there comes.high in
      taken-new (dated x now) event comes.found request Sess (subst (λ (p : Prepared). is_ended_in Sess p.known.legs ≡ true) same ended)

  before-ended : is_invalid x.known Sess ≡ true → ⊥
  unfolding is_invalid leg_of session_for
  before-ended ended =
      let gone = tied.gone Sess ended in
      let one = found-id (find (takes_request x.known request) x.view.sessions) comes.sess comes.for in
      let own = found-own (takes_request x.known request) x.view.sessions 1 one.0 tied.placed one.1 in
      let there : find (is_session Sess) x.view.sessions ≡ Some one.0 =
      subst (λ (id : SessId). find (is_session id) x.view.sessions ≡ Some one.0) (one.2 ∙ sym its-name) own in
      clash one.0.gone (ap (λ (s : SessionView). s.gone) (some-one one.0 gone.0 (sym there ∙ gone.1)) ∙ gone.2)
      (not-gone x.known request one.0 (test-found (takes_request x.known request) x.view.sessions one.0 one.1))

  -- where no accepted call of the turn ends it, it isn't ended
  pub never-ended : (EndsThere Sess (begun Shows.view) made → ⊥) → is_invalid (worked_all config Shows made).known Sess ≡ true → ⊥
  unfolding worked_all starts begun
  never-ended none ended =
      before-ended (shown-new
      (calls-new Sess made config (starts Shows) none ended))

-- a live session after any journal
pub tied-after : (setup : Setup) (epoch began : ℕ) (before : List Step) (app : AppId) (live : Live Session) → live_at app (chained as_session setup epoch began before) ≡ Some live
    → TiedIn live.session.view live.session.known
unfolding session_of
tied-after setup epoch began before app live is =
    live-is (λ (x : Session). TiedIn x.view x.known) setup (λ history. life-tied setup.config history history.turns) epoch began before app live is
