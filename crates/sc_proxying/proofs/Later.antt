-- In the turn of a later request no call proxies that request.
use Rattle.std.proofs.Common.{◌≡◌, ◌<◌, ℕ, ◌+◌, ◌++◌, Bool, true, false, Option, None, Some, List, [], ◌∷◌, refl, sym, ap, subst, ◌∙◌, arith}
use Rattle.std.specs.Prelude.{◌==◌, cond, is_some, length}
use Rattle.std.proofs.lemmas.Bool.Decides.{nat_tests}
use Rattle.sc_value.specs.declared.ids.ReqId.{ReqId}
use Rattle.sc_value.specs.declared.ids.SessId.{SessId}
use Rattle.sc_value.specs.declared.message.Request.{Request}
use Rattle.sc_value.specs.declared.parts.Uri.{Uri}
use Rattle.sc_terms.specs.declared.calls.Call.TheVariants as calls
use Rattle.sc_terms.specs.declared.calls.ProxyOptions.{ProxyOptions}
use Rattle.sc_terms.specs.declared.views.RequestView.{RequestView}
use Rattle.sc_terms.specs.declared.views.View.{View}
use Rattle.sc_state.specs.declared.proxy.Proxy.{Proxy}
use Rattle.sc_state.specs.declared.queue.Queued.TheVariants as queued
use Rattle.sc_state.specs.declared.session.Kept.{Kept}
use Rattle.sc_state.specs.declared.session.Known.{Known}
use Rattle.sc_state.specs.declared.session.Session.{Session}
use Rattle.sc_state.specs.declared.working.Draft.{Draft}
use Rattle.sc_state.specs.declared.working.Play.{Play}
use Rattle.sc_hosts.specs.Acting.{sent_proxy}
use Rattle.sc_hosts.specs.Branches.{new_proxy, with_targets}
use Rattle.sc_hosts.specs.Effects.{created_leg, view_with_targets as proxied, proxied_request, sent_view, with_draft}
use Rattle.sc_hosts.specs.Legs.{new_leg}
use Rattle.sc_hosts.specs.Looking.{is_request, without_sip_session as removed, request_in, same_request, without_link as unlinked}
use Rattle.sc_hosts.specs.Preparing.{kept_of, proxy_of}
use Rattle.sc_hosts.specs.PreparingRequests.{request_view}
use Rattle.sc_hosts.specs.PreparingResponses.{change_proxy}
use Rattle.sc_hosts.specs.Refusals.{refusal}
use Rattle.sc_hosts.specs.ViewChanges.{with_link as linked, new_session, with_own_session}
use Rattle.sc_hosts.specs.Working.{event_of, proxies, proxies_first}
use Rattle.sc_walked.specs.SessionWalks.{Brings, IsKeptProxy, IsSameRequest, SessionLaws, with_legs}
use Rattle.sc_lasting.specs.Lasting.{All}
use Rattle.sc_lasting.proofs.Began.{none-proxied, proxied-first, proxied-is, same-number, test-found}
use Rattle.sc_lasting.proofs.Parts.{all-append, all-each, all-filter, all-first, all-found, all-insert, all-map, received-holds, removed-only, unlinked-only}
use Rattle.sc_proxying.proofs.Rising.{IsNumbered, IsUnder}

-- a request of this number didn't come as the first of a SipSession
unfoldable pub IsNoFirst : ℕ → RequestView → Type 0
IsNoFirst number request = request.id.0 ≡ number → request.received ≡ true → request.initial ≡ true → ⊥

-- what the application proxied isn't of this number
unfoldable pub IsOther : ℕ → Proxy → Type 0
IsOther number proxy = is_some proxy.options ≡ true → (proxy.req.0 == number) ≡ false

-- no call proxied the request of this number, and none can
abbrev pub IsClear : ℕ → View → Known → Type 0
IsClear number view known = All (IsNoFirst number) view.requests × All (IsOther number) known.proxies

clash : (b : Bool) → b ≡ true → b ≡ false → ⊥
clash b p q = cc

sent-no : (number : ℕ) (view : View) (draft : Draft) → IsNoFirst number (sent_view view draft)
unfolding IsNoFirst sent_view
sent-no number view draft = λ is came first. absurd (none came)
  where
    none : false ≡ true → ⊥
    none is = cc

sent-clear : (number : ℕ) (x : Session) (draft : Draft) → All (IsNoFirst number) x.view.requests → All (IsNoFirst number) (x.view.requests ++ sent_view x.view draft ∷ [])
sent-clear number x draft all = all-append (IsNoFirst number) x.view.requests (sent_view x.view draft) all (sent-no number x.view draft)

own-no : (number : ℕ) (request : RequestView) → request.received ≡ false → IsNoFirst number request
unfolding IsNoFirst
own-no number request own = λ is came first. absurd (clash request.received came own)

came-no : (number : ℕ) (next : ReqId) (sess : SessId) (initial passed : Bool) (request : Request) → initial ≡ false
    → IsNoFirst number (request_view next sess initial passed request)
unfolding IsNoFirst request_view
came-no number next sess initial passed request later = λ is came first. absurd (clash initial first later)

later-brings : (request came : Request) (x : Session) (sess : SessId) (initial passed : Bool) → Brings (queued.Request request) x sess initial passed came → initial ≡ false
unfolding Brings
later-brings request came x sess initial passed brings = brings.1

same-no : (number : ℕ) (r q : RequestView) → IsSameRequest r q → IsNoFirst number r → IsNoFirst number q
unfolding IsNoFirst
same-no number r q same isnt = λ is came first. isnt (sym (ap (λ (id : ReqId). id.0) same.id) ∙ is) (sym same.received ∙ came) (sym same.initial ∙ first)

other-kept : (number : ℕ) (p q : Proxy) → IsKeptProxy p q → IsOther number p → IsOther number q
unfolding IsOther
other-kept number p q kept other = λ has. rw (kept.same.req) (other (sym (ap (λ (how : Option ProxyOptions). is_some how) kept.same.options) ∙ has))

-- ## An accepted call proxies

proxied-no : (number count : ℕ) (r : RequestView) → IsNoFirst number r → IsNoFirst number (proxied_request count r)
unfolding IsNoFirst proxied_request
proxied-no number count r isnt = isnt

-- it proxies another
proxied-other : (number : ℕ) (play : Play) (req : ReqId) (r : RequestView) → ((r.received ≡ true) × (r.initial ≡ true)) → request_in play.view req ≡ Some r
    → All (IsNoFirst number) play.view.requests → (req.0 == number) ≡ false
unfolding IsNoFirst
proxied-other number play req r is found all = by (req.0 == number) refl
  where
    by : (b : Bool) → (req.0 == number) ≡ b → b ≡ false
    by false at = refl
    by true at =
        absurd (all-found (IsNoFirst number) (is_request req) play.view.requests r found all (same-number r.id.0 req.0 (test-found (is_request req) play.view.requests r found) ∙ same-number req.0 number at) is.0 is.1)

first-other : (number : ℕ) (req : ReqId) (uris : List Uri) (how : ProxyOptions) (kept : Option Kept) (known : Known) → (req.0 == number) ≡ false → All (IsOther number) known.proxies
    → All (IsOther number) (proxies_first req uris how kept known).proxies
unfolding proxies_first with_targets new_proxy IsOther
first-other number req uris how None known other all = all
first-other number req uris how (Some kept) known other all =
    all-append (IsOther number) known.proxies (with_targets uris (new_proxy req kept.sess (event_of kept.way) kept.request (Some how))) all (λ has. other)

targets-other : (number : ℕ) (uris : List Uri) (p : Proxy) → IsOther number p → IsOther number (with_targets uris p)
unfolding with_targets IsOther
targets-other number uris p other = other

if-other : (number : ℕ) (b : Bool) (x y : Known) → All (IsOther number) x.proxies → All (IsOther number) y.proxies → All (IsOther number) (cond b x y).proxies
if-other number true x y p q = p
if-other number false x y p q = q

proxies-other : (number : ℕ) (req : ReqId) (uris : List Uri) (how : ProxyOptions) (known : Known) → (req.0 == number) ≡ false → All (IsOther number) known.proxies
    → All (IsOther number) (proxies req uris how known).proxies
unfolding proxies
proxies-other number req uris how known other all =
    if-other number (is_some (proxy_of known req)) (change_proxy req (with_targets uris) known) (proxies_first req uris how (kept_of known req) known)
    (all-first (IsOther number) (λ p. same_request p.req req) (with_targets uris) known.proxies (λ p found. targets-other number uris p) all)
    (first-other number req uris how (kept_of known req) known other all)

turns-clear : (number : ℕ) (play : Play) (known : Known) (req : ReqId) (uris : List Uri) (how : ProxyOptions) (request : Option RequestView)
    → refusal play (calls.ProxyTo req uris how) ≡ None → request_in play.view req ≡ request → IsClear number play.view known
    → IsClear number (proxied request (length uris) play.view) (proxies req uris how known)
unfolding proxied
turns-clear number play known req uris how None is found clear = absurd (none-proxied play (length uris) how (proxied-is play req uris how None is found))
turns-clear number play known req uris how (Some r) is found clear = (
  all-first (IsNoFirst number) (is_request r.id) (proxied_request (length uris)) play.view.requests (λ q has. proxied-no number (length uris) q) clear.0,
  proxies-other number req uris how known
      (proxied-other number play req r (proxied-first play r (length uris) how (proxied-is play req uris how (Some r) is found)) found clear.0) clear.1,
)

passed-other : (number : ℕ) (kept : Kept) (branch : ℕ) → IsOther number (sent_proxy kept branch)
unfolding IsOther sent_proxy new_proxy
passed-other number kept branch = λ has. absurd (none has)
  where
    none : false ≡ true → ⊥
    none is = cc

-- ## Each change

shown-clear : (number : ℕ) (v w : View) (known : Known) → w ≡ record v { sessions = w.sessions } → IsClear number v known → IsClear number w known
shown-clear number v w known is clear = subst (λ (u : View). IsClear number u known) (sym is) clear

leg-clear : (number : ℕ) (play : Play) (known : Known) (request : Option RequestView) (kept : Option Kept) → IsClear number play.view known
    → IsClear number (created_leg request play).view (with_legs play.view kept known)
unfolding created_leg with_legs with_draft linked with_own_session
leg-clear number play known None None clear = clear
leg-clear number play known None (Some kept) clear = clear
leg-clear number play known (Some request) None clear = clear
leg-clear number play known (Some request) (Some kept) clear = clear

begins-clear : (number : ℕ) (x : Session) → IsClear number x.view x.known
    → IsClear number (with_own_session x.view) (record x.known { legs = x.known.legs ++ new_leg (new_session x.view) None ∷ [] })
unfolding with_own_session
begins-clear number x clear = clear

links-clear : (number : ℕ) (view : View) (known : Known) (a b : SessId) → IsClear number view known → IsClear number (linked a b view) known
unfolding linked
links-clear number view known a b clear = clear

abbrev pub StaysClear : ℕ → Session → Session → Type 0
StaysClear number x y = IsClear number x.view x.known → IsClear number y.view y.known

pub clear-law : (number : ℕ) (request : Request) → SessionLaws (queued.Request request) (λ call. Unit {0}) (StaysClear number)
clear-law number came = record {
  same = λ x clear. clear;
  after = λ x y z p q clear. q (p clear);
  dates = λ x now clear. clear;
  expires = λ x due clear. clear;
  flags = λ x flag clear. clear;
  times = λ x timers next clear. clear;
  attributes = λ x fields clear. clear;
  counts = λ x clear. clear;
  numbers = λ x clear. clear;
  moves = λ x sessions same clear. clear;
  renews = λ x requests same clear. (all-each (IsNoFirst number) IsSameRequest x.view.requests requests (same-no number) same clear.0, clear.1);
  drops = λ x test clear. (all-filter (IsNoFirst number) test x.view.requests clear.0, clear.1);
  same_legs = λ x legs same clear. clear;
  same_proxies = λ x all same clear. (clear.0, all-each (IsOther number) IsKeptProxy x.known.proxies all (other-kept number) same clear.1);
  forgets = λ x test clear. clear;
  unlinks = λ x sess does clear. shown-clear number x.view (unlinked sess x.view) x.known (unlinked-only sess x.view) clear;
  removes = λ x sess clear. shown-clear number x.view (removed sess x.view) x.known (removed-only sess x.view) clear;
  receives = λ x of sess initial passed request brings clear. received-holds (λ v k. IsClear number v k) x of sess initial passed request
      (λ invited. (all-append (IsNoFirst number) x.view.requests _ clear.0 (came-no number _ sess initial passed request (later-brings came request x sess initial passed brings)), clear.1));
  shows = λ x request again clear. (all-insert (IsNoFirst number) request x.view.requests (own-no number request again.received) clear.0, clear.1);
  sends = λ x draft request clear. (sent-clear number x draft clear.0, clear.1);
  sends_none = λ x draft clear. (sent-clear number x draft clear.0, clear.1);
  begins = λ x clear. begins-clear number x clear;
  derives = λ x req sess original came tag is clear. clear;
  begins_leg = λ play known req uri request kept is does found has clear. leg-clear number play known request kept clear;
  links = λ play known a b is does clear. links-clear number play.view known a b clear;
  turns = λ play known req uris how request is does found clear. turns-clear number play known req uris how request is found clear;
  passes = λ x req kept is clear. (clear.0, all-append (IsOther number) x.known.proxies (sent_proxy kept (x.view.counter + 1)) clear.1 (passed-other number kept (x.view.counter + 1)));
}

-- the next number is clear
not-lower : (a n : ℕ) → a < n → a ≡ n → ⊥
not-lower a n less is = grind (arith, less, is)

lower-other : (a n : ℕ) → a < n → (a == n) ≡ false
lower-other a n less = grind (arith, nat_tests, less)

pub next-clear : (x : Session) → IsNumbered x → IsClear x.view.next_request x.view x.known
unfolding IsNoFirst IsOther
next-clear x ok = (
  all-map (λ (r : RequestView). r.id.0 < x.view.next_request) (IsNoFirst x.view.next_request) x.view.requests (λ r less is came first. not-lower r.id.0 x.view.next_request less is) ok.requests.1,
  all-map (IsUnder x.view.next_request) (IsOther x.view.next_request) x.known.proxies (λ p less has. lower-other p.req.0 x.view.next_request less) ok.proxied,
)
