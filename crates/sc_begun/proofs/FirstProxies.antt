-- What an application session proxies to targets is the request that began it.
use Rattle.std.proofs.Common.{◌≡◌, ◌<◌, ◌⊎◌, inl, inr, ℕ, ◌+◌, ◌++◌, Bool, true, false, Option, None, Some, List, [], ◌∷◌, refl, ap, sym, subst, ◌∙◌, arith}
use Rattle.std.specs.Prelude.{cond, is_some, length}
use Rattle.std.specs.List.{find}
use Rattle.sc_value.specs.Lists.{change_first}
use Rattle.sc_value.specs.declared.ids.ReqId.{ReqId}
use Rattle.sc_value.specs.declared.ids.SessId.{SessId}
use Rattle.sc_value.specs.declared.message.Request.{Request}
use Rattle.sc_value.specs.declared.parts.Uri.{Uri}
use Rattle.sc_terms.specs.declared.calls.Call.TheVariants as calls
use Rattle.sc_terms.specs.declared.calls.ProxyOptions.{ProxyOptions}
use Rattle.sc_terms.specs.declared.settings.Config.{Config}
use Rattle.sc_terms.specs.declared.views.RequestView.{RequestView}
use Rattle.sc_terms.specs.declared.views.View.{View}
use Rattle.sc_state.specs.declared.proxy.Proxy.{Proxy}
use Rattle.sc_state.specs.declared.queue.Queued.{Queued}
use Rattle.sc_state.specs.declared.session.Kept.{Kept}
use Rattle.sc_state.specs.declared.session.Known.{Known}
use Rattle.sc_state.specs.declared.session.Session.{Session}
use Rattle.sc_state.specs.declared.working.Draft.{Draft}
use Rattle.sc_state.specs.declared.working.Play.{Play}
use Rattle.sc_hosts.specs.Acting.{sent_proxy}
use Rattle.sc_hosts.specs.Branches.{new_proxy, with_targets}
use Rattle.sc_hosts.specs.Effects.{created_leg, view_with_targets as proxied, proxied_request, sent_view, with_draft}
use Rattle.sc_hosts.specs.Histories.{History, session_after}
use Rattle.sc_hosts.specs.Legs.{fresh, first_view, first_known, new_leg}
use Rattle.sc_hosts.specs.Looking.{is_request, same_request, request_in, without_link as unlinked, without_sip_session as removed}
use Rattle.sc_hosts.specs.Preparing.{kept_of, proxy_of}
use Rattle.sc_hosts.specs.PreparingRequests.{with_received_request as received}
use Rattle.sc_hosts.specs.PreparingResponses.{change_proxy}
use Rattle.sc_hosts.specs.Refusals.{refusal}
use Rattle.sc_hosts.specs.Sessions.{Turn}
use Rattle.sc_hosts.specs.ViewChanges.{with_link as linked, new_session, with_own_session}
use Rattle.sc_hosts.specs.Working.{proxies, proxies_first, event_of}
use Rattle.sc_walked.specs.SessionWalks.{Each, IsKeptProxy, IsSameRequest, SessionLaws, with_legs}
use Rattle.sc_walked.proofs.WalkParts.{each-first}
use Rattle.sc_lasting.specs.Lasting.{All, IsLife, IsOf}
use Rattle.sc_lasting.proofs.Began.{Began, Keeps, began-law, kept-began, none-proxied, proxied-first, proxied-is, same-number, test-found, IsAsCame, proxied-came, view-number, sent-own}
use Rattle.sc_lasting.proofs.Held.{lives-hold}
use Rattle.sc_lasting.proofs.Parts.{all-append, all-each, all-filter, all-first, all-found, all-insert, all-map, received-holds, removed-only, unlinked-only}

-- it is the request that began the session, or a later one, which goes to no target
unfoldable pub IsProper : Request → Proxy → Type 0
IsProper began proxy = (proxy.request ≡ began) ⊎ ((proxy.options ≡ None) × (proxy.targets ≡ []))

-- where a request that came and began a SipSession is proxied under its number, it is that request
unfoldable pub Backs : Request → RequestView → Proxy → Type 0
Backs began request proxy = request.received ≡ true → request.initial ≡ true → proxy.req.0 ≡ request.id.0 → proxy.request ≡ began

-- it is proxied under a number below this one
abbrev pub Below : ℕ → Proxy → Type 0
Below next proxy = proxy.req.0 < next

-- so it is of all that is proxied, under numbers that were drawn
abbrev pub Proper : Request → View → Known → Type 0
Proper began view known =
    All (Below view.next_request) known.proxies × All (IsProper began) known.proxies × All (λ (request : RequestView). All (Backs began request) known.proxies) view.requests

-- so it is of a session that began with this request
pub record AreProper (began : Request) (session : Session) : Type 0 where
  pub first : Began began session
  pub proper : Proper began session.view session.known

properly : (began : Request) (x y : Session) → (Began began x → Began began y) → (Began began x → Proper began x.view x.known → Proper began y.view y.known) → AreProper began x → AreProper began y
properly began x y keeps more ok = record { first = keeps ok.first; proper = more ok.first ok.proper }

-- ## Numbers

more : (n m : ℕ) → n < m → n < m + 1
more n m less = omega (arith, less)

not-lower : (a n : ℕ) → a < n → a ≡ n → ⊥
not-lower a n less is = grind (arith, less, is)

clash : (b : Bool) → b ≡ true → b ≡ false → ⊥
clash b p q = cc

below-more : (next : ℕ) (all : List Proxy) → All (Below next) all → All (Below (next + 1)) all
below-more next all ok = all-map (Below next) (Below (next + 1)) all (λ p. more p.req.0 next) ok

-- ## A request more

-- it isn't one that came
unreceived : (began : Request) (r : RequestView) (all : List Proxy) → r.received ≡ false → All (Backs began r) all
unfolding Backs All
unreceived began r [] own = tt
unreceived began r (p ∷ all) own = ((λ came first is. absurd (clash r.received came own)), unreceived began r all own)

-- it has the next number
new-backs : (began : Request) (next : ℕ) (r : RequestView) (all : List Proxy) → r.id.0 ≡ next → All (Below next) all → All (Backs began r) all
unfolding Backs
new-backs began next r all own below = all-map (Below next) (Backs began r) all (λ p less came first is. absurd (not-lower p.req.0 next less (is ∙ own))) below

received-proper : (began : Request) (x : Session) (number : ℕ) (sess : SessId) (initial passed : Bool) (request : Request) → Proper began x.view x.known
    → Proper began (received x number sess initial passed request).view (received x number sess initial passed request).known
received-proper began x number sess initial passed request ok = received-holds (λ v k. Proper began v k) x number sess initial passed request
    (λ invited. (
      below-more x.view.next_request x.known.proxies ok.0,
      ok.1,
      all-append (λ (r : RequestView). All (Backs began r) x.known.proxies) x.view.requests _ ok.2 (new-backs began x.view.next_request _ x.known.proxies (view-number _ sess initial passed request) ok.0),
    ))

sent-proper : (began : Request) (x : Session) (draft : Draft) → All (λ (r : RequestView). All (Backs began r) x.known.proxies) x.view.requests
    → All (λ (r : RequestView). All (Backs began r) x.known.proxies) (x.view.requests ++ sent_view x.view draft ∷ [])
sent-proper began x draft all = all-append (λ (r : RequestView). All (Backs began r) x.known.proxies) x.view.requests _ all (unreceived began (sent_view x.view draft) x.known.proxies (sent-own x.view draft))

-- ## What is proxied goes on

backs-came : (began : Request) (r q : RequestView) (p : Proxy) → IsAsCame r q → Backs began r p → Backs began q p
unfolding Backs
backs-came began r q p same backs = λ came first is. backs (sym same.received ∙ came) (sym same.initial ∙ first) (is ∙ ap (λ (id : ReqId). id.0) same.id)

requests-back : (began : Request) (all : List Proxy) (requests later : List RequestView) → Each IsAsCame requests later
    → All (λ (r : RequestView). All (Backs began r) all) requests → All (λ (r : RequestView). All (Backs began r) all) later
requests-back began all requests later same backs =
    all-each (λ (r : RequestView). All (Backs began r) all) IsAsCame requests later (λ r q one. all-map (Backs began r) (Backs began q) all (λ p. backs-came began r q p one)) same backs

as-came : (requests later : List RequestView) → Each IsSameRequest requests later → Each IsAsCame requests later
unfolding Each
as-came [] [] same = tt
as-came [] (q ∷ qs) same = absurd same
as-came (r ∷ rs) [] same = absurd same
as-came (r ∷ rs) (q ∷ qs) same = (record { id = same.0.id; received = same.0.received; initial = same.0.initial }, as-came rs qs same.1)

below-kept : (next : ℕ) (p q : Proxy) → IsKeptProxy p q → Below next p → Below next q
below-kept next p q kept less = rw (kept.same.req) less

proper-kept : (began : Request) (p q : Proxy) → IsKeptProxy p q → IsProper began p → IsProper began q
unfolding IsProper
proper-kept began p q kept (inl is) = inl (kept.same.request ∙ is)
proper-kept began p q kept (inr bare) = inr (kept.same.options ∙ bare.0, kept.bare bare.0 bare.1)

backs-kept : (began : Request) (r : RequestView) (p q : Proxy) → IsKeptProxy p q → Backs began r p → Backs began r q
unfolding Backs
backs-kept began r p q kept backs = λ came first is. kept.same.request ∙ backs came first (sym (ap (λ (id : ReqId). id.0) kept.same.req) ∙ is)

proxies-kept : (began : Request) (view : View) (known : Known) (all : List Proxy) → Each IsKeptProxy known.proxies all → Proper began view known
    → Proper began view (record known { proxies = all })
proxies-kept began view known all same ok = (
  all-each (Below view.next_request) IsKeptProxy known.proxies all (below-kept view.next_request) same ok.0,
  all-each (IsProper began) IsKeptProxy known.proxies all (proper-kept began) same ok.1,
  all-map (λ (r : RequestView). All (Backs began r) known.proxies) (λ (r : RequestView). All (Backs began r) all) view.requests (λ r backs. all-each (Backs began r) IsKeptProxy known.proxies all (backs-kept began r) same backs) ok.2,
)

-- one more, of the request that began the session or of a later one
proxies-more : (began : Request) (view : View) (known : Known) (new : Proxy) → Below view.next_request new → IsProper began new → All (λ (r : RequestView). Backs began r new) view.requests → Proper began view known
    → Proper began view (record known { proxies = known.proxies ++ new ∷ [] })
unfolding All
proxies-more began view known new below proper backs ok = (
  all-append (Below view.next_request) known.proxies new ok.0 below,
  all-append (IsProper began) known.proxies new ok.1 proper,
  both view.requests ok.2 backs,
)
  where
    both : (requests : List RequestView) → All (λ (r : RequestView). All (Backs began r) known.proxies) requests → All (λ (r : RequestView). Backs began r new) requests
        → All (λ (r : RequestView). All (Backs began r) (known.proxies ++ new ∷ [])) requests
    both [] old one = tt
    both (r ∷ rs) old one = (all-append (Backs began r) known.proxies new old.0 one.0, both rs old.1 one.1)

-- ## An accepted call proxies

always : (began : Request) (p : Proxy) (requests : List RequestView) → p.request ≡ began → All (λ (r : RequestView). Backs began r p) requests
unfolding Backs All
always began p [] is = tt
always began p (r ∷ rs) is = ((λ came first same. is), always began p rs is)

first-proper : (began : Request) (view : View) (req : ReqId) (uris : List Uri) (how : ProxyOptions) (kept : Option Kept) (known : Known) → req.0 < view.next_request
    → ((k : Kept) → kept ≡ Some k → k.request ≡ began) → Proper began view known → Proper began view (proxies_first req uris how kept known)
unfolding proxies_first IsProper with_targets new_proxy
first-proper began view req uris how None known less is ok = ok
first-proper began view req uris how (Some kept) known less is ok =
    let new : Proxy = with_targets uris (new_proxy req kept.sess (event_of kept.way) kept.request (Some how)) in
    proxies-more began view known new less (inl (is kept refl)) (always began new view.requests (is kept refl)) ok

targeted : (began : Request) (uris : List Uri) (p : Proxy) → p.request ≡ began → IsProper began (with_targets uris p)
unfolding IsProper with_targets
targeted began uris p is = inl is

targets-back : (began : Request) (uris : List Uri) (r : RequestView) (p : Proxy) → Backs began r p → Backs began r (with_targets uris p)
unfolding Backs with_targets
targets-back began uris r p backs = backs

targets-below : (next : ℕ) (uris : List Uri) (p : Proxy) → Below next p → Below next (with_targets uris p)
unfolding with_targets
targets-below next uris p less = less

change-proper : (began : Request) (view : View) (known : Known) (req : ReqId) (uris : List Uri) → ((p : Proxy) → find (λ p. same_request p.req req) known.proxies ≡ Some p → p.request ≡ began) → Proper began view known
    → Proper began view (change_proxy req (with_targets uris) known)
change-proper began view known req uris is ok = (
  all-first (Below view.next_request) (λ p. same_request p.req req) (with_targets uris) known.proxies (λ p found less. targets-below view.next_request uris p less) ok.0,
  all-first (IsProper began) (λ p. same_request p.req req) (with_targets uris) known.proxies (λ p found proper. targeted began uris p (is p found)) ok.1,
  all-map (λ (r : RequestView). All (Backs began r) known.proxies) (λ (r : RequestView). All (Backs began r) (change_first (λ p. same_request p.req req) (with_targets uris) known.proxies)) view.requests
      (λ r backs. all-first (Backs began r) (λ p. same_request p.req req) (with_targets uris) known.proxies (λ p found back. targets-back began uris r p back) backs) ok.2,
)

-- what is there under the number of a request that came and began a SipSession
found-began : (began : Request) (view : View) (known : Known) (req : ReqId) (r : RequestView) (p : Proxy) → request_in view req ≡ Some r → r.received ≡ true → r.initial ≡ true
    → find (λ p. same_request p.req req) known.proxies ≡ Some p → All (λ (r : RequestView). All (Backs began r) known.proxies) view.requests → p.request ≡ began
unfolding Backs
found-began began view known req r p found came first has all =
    all-found (Backs began r) (λ p. same_request p.req req) known.proxies p has (all-found (λ (r : RequestView). All (Backs began r) known.proxies) (is_request req) view.requests r found all) came first
    (same-number p.req.0 req.0 (test-found (λ p. same_request p.req req) known.proxies p has) ∙ sym (same-number r.id.0 req.0 (test-found (is_request req) view.requests r found)))

if-proper : (began : Request) (view : View) (b : Bool) (x y : Known) → Proper began view x → Proper began view y → Proper began view (cond b x y)
if-proper began view true x y p q = p
if-proper began view false x y p q = q

below-found : (view : View) (req : ReqId) (r : RequestView) → request_in view req ≡ Some r → All (λ (r : RequestView). r.id.0 < view.next_request) view.requests → req.0 < view.next_request
below-found view req r found all =
    subst (λ (n : ℕ). n < view.next_request) (same-number r.id.0 req.0 (test-found (is_request req) view.requests r found)) (all-found (λ (r : RequestView). r.id.0 < view.next_request) (is_request req) view.requests r found all)

all-proper : (began : Request) (view : View) (req : ReqId) (uris : List Uri) (how : ProxyOptions) (known : Known) (r : RequestView) → request_in view req ≡ Some r → r.received ≡ true → r.initial ≡ true
    → Began began (record { view = view; known = known }) → Proper began view known → Proper began view (proxies req uris how known)
unfolding proxies
all-proper began view req uris how known r found came first start ok =
    if-proper began view (is_some (proxy_of known req)) (change_proxy req (with_targets uris) known) (proxies_first req uris how (kept_of known req) known)
    (change-proper began view known req uris (λ p has. found-began began view known req r p found came first has ok.2) ok)
    (first-proper began view req uris how (kept_of known req) known (below-found view req r found start.0.1) (λ k has. kept-began began view known req r k found has came first start.2) ok)

view-proper : (began : Request) (view : View) (known : Known) (r : RequestView) (count : ℕ) → Proper began view known → Proper began (proxied (Some r) count view) known
unfolding proxied
view-proper began view known r count ok = (
  ok.0,
  ok.1,
  requests-back began known.proxies view.requests _ (each-first IsAsCame view.requests (is_request r.id) (proxied_request count) (λ r. record { id = refl; received = refl; initial = refl }) (proxied-came count)) ok.2,
)

turns-proper : (began : Request) (play : Play) (known : Known) (req : ReqId) (uris : List Uri) (how : ProxyOptions) (request : Option RequestView) → refusal play (calls.ProxyTo req uris how) ≡ None
    → request_in play.view req ≡ request → Began began (record { view = play.view; known = known }) → Proper began play.view known
    → Proper began (proxied request (length uris) play.view) (proxies req uris how known)
turns-proper began play known req uris how None is found start ok = absurd (none-proxied play (length uris) how (proxied-is play req uris how None is found))
turns-proper began play known req uris how (Some r) is found start ok =
    let came = proxied-first play r (length uris) how (proxied-is play req uris how (Some r) is found) in
    view-proper began play.view (proxies req uris how known) r (length uris) (all-proper began play.view req uris how known r found came.0 came.1 start ok)

-- ## A later request is passed on

passed-backs : (began : Request) (requests : List RequestView) (kepts : List Kept) (test : Kept → Bool) (kept : Kept) (branch : ℕ) → find test kepts ≡ Some kept → All (λ (r : RequestView). All (Keeps began r) kepts) requests
    → All (λ (r : RequestView). Backs began r (sent_proxy kept branch)) requests
unfolding Backs Keeps sent_proxy new_proxy All
passed-backs began [] kepts test kept branch is all = tt
passed-backs began (r ∷ rs) kepts test kept branch is all = (all-found (Keeps began r) test kepts kept is all.0, passed-backs began rs kepts test kept branch is all.1)

passed-proper : (began : Request) (x : Session) (req : ReqId) (kept : Kept) → kept_of x.known req ≡ Some kept → Began began x → Proper began x.view x.known
    → Proper began x.view (record x.known { proxies = x.known.proxies ++ sent_proxy kept (x.view.counter + 1) ∷ [] })
unfolding IsProper sent_proxy new_proxy
passed-proper began x req kept is start ok =
    proxies-more began x.view x.known (sent_proxy kept (x.view.counter + 1)) (all-found (λ (k : Kept). k.id.0 < x.view.next_request) (λ k. same_request k.id req) x.known.kept kept is start.0.0) (inr (refl, refl))
    (passed-backs began x.view.requests x.known.kept (λ k. same_request k.id req) kept (x.view.counter + 1) is start.2) ok

-- ## Each change

shown-proper : (began : Request) (v w : View) (known : Known) → w ≡ record v { sessions = w.sessions } → Proper began v known → Proper began w known
shown-proper began v w known is ok = subst (λ (u : View). Proper began u known) (sym is) ok

leg-proper : (began : Request) (play : Play) (known : Known) (request : Option RequestView) (kept : Option Kept) → Proper began play.view known
    → Proper began (created_leg request play).view (with_legs play.view kept known)
unfolding created_leg with_legs with_draft linked with_own_session
leg-proper began play known None None ok = ok
leg-proper began play known None (Some kept) ok = ok
leg-proper began play known (Some request) None ok = ok
leg-proper began play known (Some request) (Some kept) ok = ok

begins-proper : (began : Request) (x : Session) → Proper began x.view x.known → Proper began (with_own_session x.view) (record x.known { legs = x.known.legs ++ new_leg (new_session x.view) None ∷ [] })
unfolding with_own_session
begins-proper began x ok = ok

links-proper : (began : Request) (view : View) (known : Known) (a b : SessId) → Proper began view known → Proper began (linked a b view) known
unfolding linked
links-proper began view known a b ok = ok

pub proper-law : (began : Request) (event : Queued) → IsOf began event → SessionLaws event (λ call. Unit {0}) (λ x y. AreProper began x → AreProper began y)
proper-law began event of =
    let law = began-law began event of in record {
      same = λ x ok. ok;
      after = λ x y z p q ok. q (p ok);
      dates = λ x now. properly began _ _ (law.dates x now) (λ start ok. ok);
      expires = λ x due. properly began _ _ (law.expires x due) (λ start ok. ok);
      flags = λ x flag. properly began _ _ (law.flags x flag) (λ start ok. ok);
      times = λ x timers next. properly began _ _ (law.times x timers next) (λ start ok. ok);
      attributes = λ x fields. properly began _ _ (law.attributes x fields) (λ start ok. ok);
      counts = λ x. properly began _ _ (law.counts x) (λ start ok. ok);
      numbers = λ x. properly began _ _ (law.numbers x) (λ start ok. (below-more x.view.next_request x.known.proxies ok.0, ok.1, ok.2));
      moves = λ x sessions same. properly began _ _ (law.moves x sessions same) (λ start ok. ok);
      renews = λ x requests same. properly began _ _ (law.renews x requests same) (λ start ok. (ok.0, ok.1, requests-back began x.known.proxies x.view.requests requests (as-came x.view.requests requests same) ok.2));
      drops = λ x test. properly began _ _ (law.drops x test) (λ start ok. (ok.0, ok.1, all-filter (λ (r : RequestView). All (Backs began r) x.known.proxies) test x.view.requests ok.2));
      same_legs = λ x legs same. properly began _ _ (law.same_legs x legs same) (λ start ok. ok);
      same_proxies = λ x all same. properly began _ _ (law.same_proxies x all same) (λ start ok. proxies-kept began x.view x.known all same ok);
      forgets = λ x test. properly began _ _ (law.forgets x test) (λ start ok. ok);
      unlinks = λ x sess does. properly began _ _ (law.unlinks x sess does) (λ start ok. shown-proper began x.view (unlinked sess x.view) x.known (unlinked-only sess x.view) ok);
      removes = λ x sess. properly began _ _ (law.removes x sess) (λ start ok. shown-proper began x.view (removed sess x.view) x.known (removed-only sess x.view) ok);
      receives = λ x number sess initial passed request brings. properly began _ _ (law.receives x number sess initial passed request brings) (λ start ok. received-proper began x number sess initial passed request ok);
      shows = λ x request again. properly began _ _ (law.shows x request again)
          (λ start ok. (ok.0, ok.1, all-insert (λ (r : RequestView). All (Backs began r) x.known.proxies) request x.view.requests (unreceived began request x.known.proxies again.received) ok.2));
      sends = λ x draft request. properly began _ _ (law.sends x draft request) (λ start ok. (below-more x.view.next_request x.known.proxies ok.0, ok.1, sent-proper began x draft ok.2));
      sends_none = λ x draft. properly began _ _ (law.sends_none x draft) (λ start ok. (below-more x.view.next_request x.known.proxies ok.0, ok.1, sent-proper began x draft ok.2));
      begins = λ x. properly began _ _ (law.begins x) (λ start ok. begins-proper began x ok);
      derives = λ x req sess original came tag is. properly began _ _ (law.derives x req sess original came tag is) (λ start ok. ok);
      begins_leg = λ play known req uri request kept is does found has. properly began _ _ (law.begins_leg play known req uri request kept is does found has) (λ start ok. leg-proper began play known request kept ok);
      links = λ play known a b is does. properly began _ _ (law.links play known a b is does) (λ start ok. links-proper began play.view known a b ok);
      turns = λ play known req uris how request is does found. properly began _ _ (law.turns play known req uris how request is does found) (λ start ok. turns-proper began play known req uris how request is found start ok);
      passes = λ x req kept is. properly began _ _ (law.passes x req kept is) (λ start ok. passed-proper began x req kept is start ok);
    }

-- where each initial request that was handled is the one that began the session
pub lives-proper : (config : Config) (history : History) (turns : List Turn) → IsLife (IsOf history.request) (λ call. Unit {0}) config history turns
    → AreProper history.request (session_after config history turns)
unfolding fresh first_view first_known All
lives-proper config history turns life =
    lives-hold turns (IsOf history.request) (λ call. Unit {0}) (AreProper history.request) config history (λ event of. proper-law history.request event of) life (record { first = ((tt, tt), tt, tt); proper = (tt, tt, tt) })
