-- What a session proxies to targets is the request that began it, as its first accepted call that proxied asks.
use Rattle.std.proofs.Common.{◌≡◌, ◌⊎◌, inl, inr, ℕ, Bool, true, false, Option, None, Some, List, [], ◌∷◌, refl, sym, ap, subst, ◌∙◌}
use Rattle.std.specs.Prelude.{is_some}
use Rattle.std.specs.Option.{option_map_or}
use Rattle.sc_value.specs.declared.message.Request.{Request}
use Rattle.sc_terms.specs.declared.calls.Call.{Call}
use Rattle.sc_terms.specs.declared.calls.Call.TheVariants as calls
use Rattle.sc_terms.specs.declared.calls.CallRecord.{CallRecord}
use Rattle.sc_terms.specs.declared.calls.ProxyOptions.{ProxyOptions}
use Rattle.sc_terms.specs.declared.settings.Config.{Config}
use Rattle.sc_state.specs.declared.proxy.Proxy.{Proxy}
use Rattle.sc_state.specs.declared.queue.Queued.{Queued}
use Rattle.sc_state.specs.declared.queue.Queued.TheVariants as queued
use Rattle.sc_state.specs.declared.session.Session.{Session}
use Rattle.sc_state.specs.declared.working.Play.{Play}
use Rattle.sc_state.specs.declared.working.Prepared.{Prepared}
use Rattle.sc_state.specs.declared.working.Working.{Working}
use Rattle.sc_model.specs.Dialogs.{tag_of}
use Rattle.sc_hosts.specs.Acting.{drafts_ended, after_fault as faulted}
use Rattle.sc_hosts.specs.Branches.{new_proxy, records_route}
use Rattle.sc_hosts.specs.Effects.{after_listed, first_play as begun}
use Rattle.sc_hosts.specs.Histories.{History, after_turn, session_after}
use Rattle.sc_hosts.specs.Legs.{first_known, fresh}
use Rattle.sc_hosts.specs.Preparing.{prepared_session as prepared}
use Rattle.sc_hosts.specs.Sessions.{Turn}
use Rattle.sc_hosts.specs.Working.{worked_all}
use Rattle.sc_walked.specs.SessionWalks.{Each}
use Rattle.sc_lasting.specs.Lasting.{All}
use Rattle.sc_lasting.proofs.Parts.{all-each, each-weaker}
use Rattle.sc_given.specs.Givings.{MayStart}
use Rattle.sc_proxied.specs.ProxyLists.{ProxyEvent, proxy_after}
use Rattle.sc_proxied.proofs.Lists.{NumbersApart}
use Rattle.sc_proxying.specs.Proxying.{BeginsBy, BeginsIn, IsBegun, IsPassed, as_begun}
use Rattle.sc_proxying.proofs.Came.{Comes, event-comes}
use Rattle.sc_proxying.proofs.Given.{AreGiven, HasBegun, SaidAll, turn-given}
use Rattle.sc_proxying.proofs.Moments.{acting-same}
use Rattle.sc_proxying.proofs.Places.{AreSingle, grows-all, numbers_of, same-numbers}
use Rattle.sc_proxying.proofs.Rising.{all-numbered}
use Rattle.sc_proxying.proofs.Runs.{after-begun, after-req}
use Rattle.sc_proxying.proofs.Turns.{NewTurn, OldTurn, turn-tells}
use Rattle.sc_begun.specs.Begun.{IsFirst}
use Rattle.sc_begun.proofs.FirstProxies.{IsProper}
use Rattle.sc_recorded.specs.Recorded.{IsTaggedEvent}
use Rattle.sc_recorded.proofs.MadeGiven.{ProxiesAs}
use Rattle.sc_recorded.proofs.Settled.{SaysSo}

-- each turn took no later request without To tag
unfoldable pub AreTagged : List Turn → Type 0
AreTagged [] = Unit {0}
AreTagged (turn ∷ earlier) = IsTaggedEvent turn.waiting.event × AreTagged earlier

-- a call proxied it, or it is a later request
unfoldable pub IsRight : Proxy → Type 0
IsRight proxy = ((how : ProxyOptions) × (proxy.options ≡ Some how)) ⊎ ((proxy.options ≡ None) × (is_some (tag_of proxy.request.head.to) ≡ true))

clash : (b : Bool) → b ≡ true → b ≡ false → ⊥
clash b p q = cc

right-is : (p q : Proxy) → as_begun q ≡ as_begun p → IsRight p → IsRight q
unfolding IsRight new_proxy
right-is p q same (inl how) = inl (how.0, ap (λ (r : Proxy). r.options) same ∙ how.1)
right-is p q same (inr later) = inr (ap (λ (r : Proxy). r.options) same ∙ later.0, subst (λ (r : Request). is_some (tag_of r.head.to) ≡ true) (sym (ap (λ (r : Proxy). r.request) same)) later.1)

right-after : (events : List ProxyEvent) (p q : Proxy) → q ≡ proxy_after p events → IsRight p → IsRight q
right-after events p q is right = right-is p q (ap (λ (r : Proxy). as_begun r) is ∙ after-begun events p) right

-- ## A call begins to proxy it

begins-by : (first : Proxy) (call : Call) → BeginsBy first call → IsRight first
unfolding BeginsBy IsRight
begins-by first (calls.ProxyTo req uris how) by = inl (how, by.1)
begins-by first (calls.Respond req answer) by = absurd by
begins-by first (calls.CreateRequest ask) by = absurd by
begins-by first (calls.CreateInDialog sess ask) by = absurd by
begins-by first (calls.B2bCreate req uri) by = absurd by
begins-by first (calls.SetDirective draft directive origin) by = absurd by
begins-by first (calls.Send draft) by = absurd by
begins-by first (calls.Discard draft) by = absurd by
begins-by first (calls.Ack sess body) by = absurd by
begins-by first (calls.Cancel req) by = absurd by
begins-by first (calls.ProxyCancel req) by = absurd by
begins-by first (calls.B2bRespond sess answer) by = absurd by
begins-by first (calls.Link a b) by = absurd by
begins-by first (calls.Unlink a) by = absurd by
begins-by first (calls.StartTimer delay period info) by = absurd by
begins-by first (calls.CancelTimer id) by = absurd by
begins-by first (calls.SetAttribute name value) by = absurd by
begins-by first (calls.RemoveAttribute name) by = absurd by
begins-by first (calls.SetExpires minutes) by = absurd by
begins-by first (calls.SetReadyFlag target flag) by = absurd by
begins-by first (calls.InvalidateSession sess) by = absurd by
begins-by first calls.InvalidateApplication by = absurd by

begins-in : (first : Proxy) (made : List CallRecord) (play : Play) (given : List ProxyEvent) → BeginsIn first play made given → IsRight first
unfolding BeginsIn
begins-in first [] play given begins = absurd begins
begins-in first (m ∷ made) play given (inl one) = begins-by first m.call one.1
begins-in first (m ∷ made) play given (inr later) = begins-in first made (after_listed play m.call) given later

begun-right : (play : Play) (made : List CallRecord) (q : Proxy) → HasBegun play made q → IsRight q
unfolding new_proxy
begun-right play made q begun = right-is (as_begun q) q refl (begins-in (as_begun q) made play begun.given begun.by)

passed-right : (event : Queued) (first : Proxy) (own : List ProxyEvent) → IsPassed event first own → IsTaggedEvent event → IsRight first
unfolding IsPassed IsTaggedEvent IsRight
passed-right (queued.Request request) first own passed tagged = inr (passed.1, subst (λ (r : Request). is_some (tag_of r.head.to) ≡ true) (sym passed.0) tagged)
passed-right (queued.Initial region subscriber popped request) first own passed tagged = absurd passed
passed-right (queued.Response branch response) first own passed tagged = absurd passed
passed-right (queued.Cancelled number) first own passed tagged = absurd passed
passed-right (queued.Timer id) first own passed tagged = absurd passed
passed-right (queued.BranchTimer branch due) first own passed tagged = absurd passed
passed-right queued.Expired first own passed tagged = absurd passed
passed-right queued.Ready first own passed tagged = absurd passed

-- ## Over a life

-- each proxied request has a number of its own, and right options
pub record AreRight (x : Session) : Type 0 where
  pub single : AreSingle x.known.proxies
  pub all : All IsRight x.known.proxies

new-right : (config : Config) (turn : Turn) (x : Session) (high : ℕ) (q : Proxy) → NewTurn config turn x high q → IsTaggedEvent turn.waiting.event
    → IsRight q
unfolding new_proxy
new-right config turn x high q new tagged = right-is (as_begun q) q refl (by new.told)
  where
    by : IsBegun config x turn (as_begun q) new.own ⊎ IsPassed turn.waiting.event (as_begun q) new.own → IsRight (as_begun q)
    by (inl one) = begins-in (as_begun q) turn.calls _ one.given one.of_calls
    by (inr passed) = passed-right turn.waiting.event (as_begun q) _ passed tagged

turn-right : (config : Config) (history : History) (turn : Turn) (earlier : List Turn) → AreRight (session_after config history earlier) → IsTaggedEvent turn.waiting.event
    → AreRight (after_turn config turn (session_after config history earlier))
turn-right config history turn earlier right tagged =
    let x : Session = session_after config history earlier in
    let after : Session = after_turn config turn x in
    let told = turn-tells config turn x right.single (all-numbered config history earlier) in
    record {
      single = told.single;
      all = grows-all (OldTurn config turn x after.view.counter) (NewTurn config turn x after.view.counter) (IsRight) (IsRight) x.known.proxies after.known.proxies
          (λ p q old ok. right-after old.own p q old.is ok) (λ q new. new-right config turn x after.view.counter q new tagged) told.grows right.all;
    }

pub lives-right : (config : Config) (history : History) (turns : List Turn) → AreTagged turns → AreRight (session_after config history turns)
unfolding session_after AreTagged fresh first_known All NumbersApart numbers_of
lives-right config history [] fit = record { single = tt; all = tt }
lives-right config history (turn ∷ earlier) fit = turn-right config history turn earlier (lives-right config history earlier fit.1) fit.0

-- ## Within a turn

single-came : (x : Session) (event : Queued) (xs ys : List Proxy) → Each (Comes x event) xs ys → AreSingle xs → AreSingle ys
single-came x event xs ys each single =
    subst (λ (ns : List ℕ). NumbersApart ns)
    (sym (same-numbers xs ys (each-weaker (Comes x event) (λ (p q : Proxy). q.req ≡ p.req) xs ys (λ p q come. ap (λ (r : Proxy). r.req) come.is ∙ after-req come.came p) each))) single

module _ (config : Config) (turn : Turn) (x : Session) where
  abbrev shown : Prepared
  shown = prepared config turn.ringing x turn.waiting turn.now

  abbrev played : Working
  played = worked_all config shown turn.calls

  abbrev acting : Working
  acting = faulted config shown.req turn.end (drafts_ended played)

  abbrev dated : Session
  dated = record x { view = record x.view { now = turn.now } }

  comes : AreSingle x.known.proxies → Each (Comes dated turn.waiting.event) x.known.proxies shown.known.proxies
  unfolding prepared
  comes single = event-comes config turn.ringing dated turn.waiting.number turn.waiting.event single

  shown-right : AreRight x → All IsRight shown.known.proxies
  shown-right right =
      all-each (IsRight) (Comes dated turn.waiting.event) x.known.proxies shown.known.proxies (λ p q come ok. right-after come.came p q come.is ok) (comes right.single) right.all

  played-right : AreRight x → All IsRight played.known.proxies
  played-right right =
      let given : AreGiven (begun shown.view) turn.calls shown.known.proxies played.known.proxies =
      turn-given config shown turn.calls (single-came dated turn.waiting.event x.known.proxies shown.known.proxies (comes right.single) right.single) in
      grows-all (SaidAll (begun shown.view) turn.calls) (HasBegun (begun shown.view) turn.calls) (IsRight) (IsRight) shown.known.proxies played.known.proxies
      (λ p q said ok. right-after _ p q said ok) (λ q new. begun-right (begun shown.view) turn.calls q new) given.grows (shown-right right)

  -- as proxies act
  pub acting-right : AreRight x → All IsRight acting.known.proxies
  acting-right right = subst (λ (all : List Proxy). All IsRight all) (sym (acting-same config shown.req turn.end played)) (played-right right)

-- ## What goes to targets

faithful : (stays : Bool) (began : Request) (p : Proxy) → IsFirst began → IsRight p → SaysSo stays p → IsProper began p → MayStart (ProxiesAs stays began) p
unfolding IsRight SaysSo IsProper MayStart records_route
faithful stays began p first (inl how) says (inl is) = inl (is, ap (λ (o : Option ProxyOptions). option_map_or (λ (h : ProxyOptions). h.record_route) o true) how.1 ∙ says how.0 how.1)
faithful stays began p first (inl how) says (inr bare) = inr bare.1
faithful stays began p first (inr later) says (inl is) = absurd (clash _ later.1 (subst (λ (r : Request). is_some (tag_of r.head.to) ≡ false) (sym is) first))
faithful stays began p first (inr later) says (inr bare) = inr bare.1

pub all-faithful : (stays : Bool) (began : Request) (all : List Proxy) → IsFirst began → All IsRight all → All (SaysSo stays) all → All (IsProper began) all → All (MayStart (ProxiesAs stays began)) all
unfolding All
all-faithful stays began [] first right says proper = tt
all-faithful stays began (p ∷ all) first right says proper = (faithful stays began p first right.0 says.0 proper.0, all-faithful stays began all first right.1 says.1 proper.1)
