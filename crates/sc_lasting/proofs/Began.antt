-- What the application proxied is the request that began the session.
use Rattle.std.proofs.Common.{◌≡◌, ◌<◌, ℕ, ◌+◌, ◌++◌, Bool, true, false, Option, None, Some, List, [], ◌∷◌, refl, ap, sym, subst, ◌∙◌, arith}
use Rattle.std.proofs.lemmas.Bool.Decides.{nat_tests}
use Rattle.std.specs.Prelude.{cond, filter, length, not, ◌==◌, is_some}
use Rattle.std.specs.List.{find}
use Rattle.std.specs.Option.{option_or}
use Rattle.sc_value.specs.declared.ids.ReqId.{ReqId}
use Rattle.sc_value.specs.declared.ids.SessId.{SessId}
use Rattle.sc_value.specs.declared.message.Request.{Request}
use Rattle.sc_value.specs.declared.parts.Uri.{Uri}
use Rattle.sc_terms.specs.declared.calls.Call.TheVariants as calls
use Rattle.sc_terms.specs.declared.calls.ProxyOptions.{ProxyOptions}
use Rattle.sc_terms.specs.declared.calls.Refusal.{Refusal}
use Rattle.sc_terms.specs.declared.settings.Config.{Config}
use Rattle.sc_terms.specs.declared.views.RequestView.{RequestView}
use Rattle.sc_terms.specs.declared.views.View.{View}
use Rattle.sc_state.specs.declared.proxy.Proxy.{Proxy}
use Rattle.sc_state.specs.declared.queue.Queued.{Queued}
use Rattle.sc_state.specs.declared.queue.Queued.TheVariants as queued
use Rattle.sc_state.specs.declared.session.Kept.{Kept}
use Rattle.sc_state.specs.declared.session.Known.{Known}
use Rattle.sc_state.specs.declared.session.Session.{Session}
use Rattle.sc_state.specs.declared.working.Draft.{Draft}
use Rattle.sc_state.specs.declared.working.Play.{Play}
use Rattle.sc_hosts.specs.Acting.{sent_proxy}
use Rattle.sc_hosts.specs.Branches.{new_proxy, with_targets}
use Rattle.sc_hosts.specs.Effects.{created_leg, view_with_targets as proxied, proxied_request, sent_view, with_draft}
use Rattle.sc_hosts.specs.Histories.{History, session_after}
use Rattle.sc_hosts.specs.Legs.{fresh, first_view, first_known, new_leg}
use Rattle.sc_hosts.specs.Looking.{is_request, same_request, request_in, without_link as unlinked, without_sip_session as removed}
use Rattle.sc_hosts.specs.Preparing.{kept_of, proxy_of}
use Rattle.sc_hosts.specs.PreparingRequests.{next_id, with_received_request as received, request_view}
use Rattle.sc_hosts.specs.PreparingResponses.{change_proxy}
use Rattle.sc_hosts.specs.RefusalParts.{first_of}
use Rattle.sc_hosts.specs.Refusals.{refusal, own_refusal, proxy_refusal}
use Rattle.sc_hosts.specs.Sessions.{Turn}
use Rattle.sc_hosts.specs.ViewChanges.{with_link as linked, new_session, with_own_session}
use Rattle.sc_hosts.specs.Working.{proxies, proxies_first, event_of}
use Rattle.sc_walked.specs.SessionWalks.{Each, Brings, IsKeptProxy, IsSameRequest, IsSameProxy, SessionLaws, with_legs, sent_kept}
use Rattle.sc_walked.proofs.WalkParts.{each-first, same-proxy}
use Rattle.sc_walked.proofs.WalkShown.{targets-same}
use Rattle.sc_lasting.specs.Lasting.{All, IsOf, Proxies, Numbered, IsLife}
use Rattle.sc_lasting.proofs.Parts.{all-append, all-filter, all-found, all-insert, all-map, all-each, unlinked-only, removed-only, received_kept, received-holds}
use Rattle.sc_lasting.proofs.Numbers.{numbers-law, proxies-kept}
use Rattle.sc_lasting.proofs.Held.{lives-hold}
use Rattle.sc_lasting.proofs.Shared.{all-two}

-- what is kept under the number of a request that came and began a SipSession is that request
unfoldable pub Keeps : Request → RequestView → Kept → Type 0
Keeps began request kept = request.received ≡ true → request.initial ≡ true → kept.id.0 ≡ request.id.0 → kept.request ≡ began

abbrev pub Began : Request → Session → Type 0
Began began session =
    Numbered session × All (Proxies began) session.known.proxies × All (λ (request : RequestView). All (Keeps began request) session.known.kept) session.view.requests

-- ## What an accepted call says

pub or-left : {A : Type 0} (a b : Option A) → option_or a b ≡ None → a ≡ None
or-left None b is = refl
or-left (Some x) b is = cc

pub or-right : {A : Type 0} (a b : Option A) → option_or a b ≡ None → b ≡ None
or-right None b is = is
or-right (Some x) b is = cc

pub first-passed : (test : Bool) (r : Refusal) (rest : List (Bool × Refusal)) → first_of ((test, r) ∷ rest) ≡ None
    → (test ≡ false) × (first_of rest ≡ None)
unfolding first_of
first-passed false r rest is = (refl, is)
first-passed true r rest is = cc

pub not-false : (b : Bool) → not b ≡ false → b ≡ true
not-false true is = refl
not-false false is = cc

pub proxied-first : (play : Play) (request : RequestView) (count : ℕ) (how : ProxyOptions)
    → proxy_refusal play (Some request) count how ≡ None → (request.received ≡ true) × (request.initial ≡ true)
unfolding proxy_refusal
proxied-first play request count how is =
    let one = first-passed (not request.received) _ _ (or-left _ _ is) in
    let two = first-passed (not request.initial) _ _ one.1 in
    (not-false request.received one.0, not-false request.initial two.0)

-- ## Numbers

not-number : (a n : ℕ) → a < n → n ≡ a → ⊥
not-number a n less is = grind (arith, less, is)

not-lower : (a n : ℕ) → a < n → a ≡ n → ⊥
not-lower a n less is = grind (arith, less, is)

pub same-number : (a n : ℕ) → (a == n) ≡ true → a ≡ n
same-number a n is = grind (arith, nat_tests, is)

test-if : {A : Type 0} (b : Bool) (y : A) (xs : List A) (x : A) (test : A → Bool) → test y ≡ b
    → cond b (Some y) (find test xs) ≡ Some x → (find test xs ≡ Some x → test x ≡ true) → test x ≡ true
test-if true y xs x test has is later = subst (λ z. test z ≡ true) (some-same y x is) has
  where
    some-same : {A : Type 0} (y x : A) → Some y ≡ Some x → y ≡ x
    some-same y x is = cc
test-if false y xs x test has is later = later is

pub test-found : {A : Type 0} (test : A → Bool) (xs : List A) (x : A) → find test xs ≡ Some x → test x ≡ true
test-found test [] x is = cc
test-found test (y ∷ xs) x is = test-if (test y) y xs x test refl is (test-found test xs x)

-- ## What is kept

keeps-same : (began : Request) (r q : RequestView) (kept : Kept) → IsSameRequest r q → Keeps began r kept
    → Keeps began q kept
unfolding Keeps
keeps-same began r q kept same keeps = λ received initial is. keeps (sym same.received ∙ received) (sym same.initial ∙ initial) (is ∙ ap (λ (id : ReqId). id.0) same.id)

renewed : (began : Request) (kepts : List Kept) (requests later : List RequestView) → Each IsSameRequest requests later
    → All (λ (r : RequestView). All (Keeps began r) kepts) requests
    → All (λ (r : RequestView). All (Keeps began r) kepts) later
renewed began kepts requests later same all =
    all-each (λ (r : RequestView). All (Keeps began r) kepts) IsSameRequest requests later (λ r q one. all-map (Keeps began r) (Keeps began q) kepts (λ k. keeps-same began r q k one)) same all

-- a request that was there, and one that is kept under the next number
old-keeps : (began : Request) (next : ℕ) (r : RequestView) (kepts : List Kept) (kept : Kept) → kept.id.0 ≡ next
    → r.id.0 < next → All (Keeps began r) kepts → All (Keeps began r) (kepts ++ kept ∷ [])
unfolding Keeps
old-keeps began next r kepts kept own less all = all-append (Keeps began r) kepts kept all (λ received initial is. absurd (not-number r.id.0 next less (sym own ∙ is)))

olds-keep : (began : Request) (next : ℕ) (requests : List RequestView) (kepts : List Kept) (kept : Kept)
    → kept.id.0 ≡ next → All (λ (r : RequestView). r.id.0 < next) requests
    → All (λ (r : RequestView). All (Keeps began r) kepts) requests
    → All (λ (r : RequestView). All (Keeps began r) (kepts ++ kept ∷ [])) requests
olds-keep began next requests kepts kept own below all =
    all-two (λ (r : RequestView). r.id.0 < next) (λ (r : RequestView). All (Keeps began r) kepts) (λ (r : RequestView). All (Keeps began r) (kepts ++ kept ∷ [])) requests (λ r. old-keeps began next r kepts kept own) below all

-- a request of the next number, and what was kept
new-keeps : (began : Request) (next : ℕ) (r : RequestView) (kepts : List Kept) → r.id.0 ≡ next
    → All (λ (k : Kept). k.id.0 < next) kepts → All (Keeps began r) kepts
unfolding Keeps
new-keeps began next r kepts own below =
    all-map (λ (k : Kept). k.id.0 < next) (Keeps began r) kepts (λ k less received initial is. absurd (not-lower k.id.0 next less (is ∙ own))) below

-- one that was sent
-- one of one's own
unreceived-keeps : (began : Request) (r : RequestView) (kepts : List Kept) → r.received ≡ false
    → All (Keeps began r) kepts
unfolding Keeps All
unreceived-keeps began r [] own = tt
unreceived-keeps began r (k ∷ kepts) own = ((λ received initial is. absurd (clash r.received received own)), unreceived-keeps began r kepts own)
  where
    clash : (b : Bool) → b ≡ true → b ≡ false → ⊥
    clash b p q = cc

sent-keeps : (began : Request) (view : View) (draft : Draft) (kepts : List Kept)
    → All (Keeps began (sent_view view draft)) kepts
unfolding Keeps sent_view All
sent-keeps began view draft [] = tt
sent-keeps began view draft (k ∷ kepts) = ((λ received initial is. absurd (false-true received)), sent-keeps began view draft kepts)
  where
    false-true : false ≡ true → ⊥
    false-true is = cc

-- ## A request comes

brings-began : (began : Request) (event : Queued) (x : Session) (sess : SessId) (initial passed : Bool) (request : Request)
    → IsOf began event → Brings event x sess initial passed request → initial ≡ true → request ≡ began
unfolding IsOf Brings
brings-began began (queued.Initial region subscriber popped came) x sess initial passed request of brings is = brings.0 ∙ of
brings-began began (queued.Request came) x sess initial passed request of brings is = absurd (clash initial is brings.1)
  where
    clash : (b : Bool) → b ≡ true → b ≡ false → ⊥
    clash b p q = cc
brings-began began (queued.Response branch response) x sess initial passed request of brings is = absurd brings
brings-began began (queued.Cancelled number) x sess initial passed request of brings is = absurd brings
brings-began began (queued.Timer id) x sess initial passed request of brings is = absurd brings
brings-began began (queued.BranchTimer branch due) x sess initial passed request of brings is = absurd brings
brings-began began queued.Expired x sess initial passed request of brings is = absurd brings
brings-began began queued.Ready x sess initial passed request of brings is = absurd brings

abbrev pub Kepts : Request → View → Known → Type 0
Kepts began view known = All (λ (r : RequestView). All (Keeps began r) known.kept) view.requests

came-keeps : (began : Request) (next : ReqId) (sess : SessId) (initial passed : Bool) (request : Request) (kept : Kept)
    → kept.request ≡ request → (initial ≡ true → request ≡ began)
    → Keeps began (request_view next sess initial passed request) kept
unfolding Keeps request_view
came-keeps began next sess initial passed request kept same is = λ received first number. same ∙ is first

pub view-number : (next : ReqId) (sess : SessId) (initial passed : Bool) (request : Request)
    → (request_view next sess initial passed request).id.0 ≡ next.0
unfolding request_view
view-number next sess initial passed request = refl

pub sent-number : (view : View) (draft : Draft) → (sent_view view draft).id.0 ≡ view.next_request
unfolding sent_view
sent-number view draft = refl

pub sent-own : (view : View) (draft : Draft) → (sent_view view draft).received ≡ false
unfolding sent_view
sent-own view draft = refl

-- ## An accepted call proxies

proxy-same : (began : Request) (p q : Proxy) → IsSameProxy p q → Proxies began p → Proxies began q
unfolding Proxies
proxy-same began p q same is = λ has. same.request ∙ is (sym (ap (λ (how : Option ProxyOptions). is_some how) same.options) ∙ has)

passed-proxies : (began : Request) (kept : Kept) (branch : ℕ) → Proxies began (sent_proxy kept branch)
unfolding Proxies sent_proxy new_proxy
passed-proxies began kept branch = λ has. absurd (none has)
  where
    none : false ≡ true → ⊥
    none is = cc

first-proxies : (began : Request) (req : ReqId) (uris : List Uri) (how : ProxyOptions) (kept : Option Kept) (known : Known)
    → ((k : Kept) → kept ≡ Some k → k.request ≡ began) → All (Proxies began) known.proxies
    → All (Proxies began) (proxies_first req uris how kept known).proxies
unfolding proxies_first Proxies with_targets new_proxy
first-proxies began req uris how None known is all = all
first-proxies began req uris how (Some kept) known is all = all-append (Proxies began) known.proxies _ all (new-is began req uris how kept (is kept refl))
  where
    new-is : (began : Request) (req : ReqId) (uris : List Uri) (how : ProxyOptions) (kept : Kept) → kept.request ≡ began
        → Proxies began (with_targets uris (new_proxy req kept.sess (event_of kept.way) kept.request (Some how)))
    new-is began req uris how kept is = λ has. is

if-proxies : (P : Known → Type 0) (b : Bool) (x y : Known) → P x → P y → P (cond b x y)
if-proxies P true x y p q = p
if-proxies P false x y p q = q

all-proxies : (began : Request) (req : ReqId) (uris : List Uri) (how : ProxyOptions) (known : Known)
    → ((k : Kept) → kept_of known req ≡ Some k → k.request ≡ began) → All (Proxies began) known.proxies
    → All (Proxies began) (proxies req uris how known).proxies
unfolding proxies
all-proxies began req uris how known is all =
    if-proxies (λ (k : Known). All (Proxies began) k.proxies) (is_some (proxy_of known req)) (change_proxy req (with_targets uris) known) (proxies_first req uris how (kept_of known req) known)
    (all-each (Proxies began) IsSameProxy known.proxies _ (proxy-same began) (each-first IsSameProxy known.proxies (λ proxy. same_request proxy.req req) (with_targets uris) same-proxy (targets-same uris)) all)
    (first-proxies began req uris how (kept_of known req) known is all)

-- the request that is proxied came and began its SipSession
pub proxied-is : (play : Play) (req : ReqId) (uris : List Uri) (how : ProxyOptions) (request : Option RequestView)
    → refusal play (calls.ProxyTo req uris how) ≡ None → request_in play.view req ≡ request
    → proxy_refusal play request (length uris) how ≡ None
unfolding refusal own_refusal
proxied-is play req uris how request is found = subst (λ (r : Option RequestView). proxy_refusal play r (length uris) how ≡ None) found (or-right _ _ (or-right _ _ is))

pub none-proxied : (play : Play) (count : ℕ) (how : ProxyOptions) → proxy_refusal play None count how ≡ None → ⊥
unfolding proxy_refusal
none-proxied play count how is = cc

pub kept-began : (began : Request) (view : View) (known : Known) (req : ReqId) (r : RequestView) (k : Kept)
    → request_in view req ≡ Some r → kept_of known req ≡ Some k → r.received ≡ true → r.initial ≡ true
    → Kepts began view known → k.request ≡ began
unfolding Keeps
kept-began began view known req r k found has received initial all =
    all-found (Keeps began r) (λ kept. same_request kept.id req) known.kept k has (all-found (λ (r : RequestView). All (Keeps began r) known.kept) (is_request req) view.requests r found all) received initial
    (same-number k.id.0 req.0 (test-found (λ kept. same_request kept.id req) known.kept k has) ∙ sym (same-number r.id.0 req.0 (test-found (is_request req) view.requests r found)))

-- it has the number, the side and the beginning that it had
pub record IsAsCame (before after : RequestView) : Type 0 where
  pub id : after.id ≡ before.id
  pub received : after.received ≡ before.received
  pub initial : after.initial ≡ before.initial

pub proxied-came : (count : ℕ) (r : RequestView) → IsAsCame r (proxied_request count r)
unfolding proxied_request
proxied-came count r = record { id = refl; received = refl; initial = refl }

keeps-came : (began : Request) (r q : RequestView) (kept : Kept) → IsAsCame r q → Keeps began r kept → Keeps began q kept
unfolding Keeps
keeps-came began r q kept same keeps = λ received initial is. keeps (sym same.received ∙ received) (sym same.initial ∙ initial) (is ∙ ap (λ (id : ReqId). id.0) same.id)

turns-requests : (began : Request) (view : View) (known : Known) (r : RequestView) (count : ℕ) → Kepts began view known
    → Kepts began (proxied (Some r) count view) known
unfolding proxied
turns-requests began view known r count all =
    all-each (λ (r : RequestView). All (Keeps began r) known.kept) IsAsCame view.requests _ (λ r q one. all-map (Keeps began r) (Keeps began q) known.kept (λ k. keeps-came began r q k one))
    (each-first IsAsCame view.requests (is_request r.id) (proxied_request count) (λ r. record { id = refl; received = refl; initial = refl }) (proxied-came count)) all

turns-began : (began : Request) (event : Queued) (play : Play) (known : Known) (req : ReqId) (uris : List Uri) (how : ProxyOptions) (request : Option RequestView)
    → refusal play (calls.ProxyTo req uris how) ≡ None → request_in play.view req ≡ request
    → Began began (record { view = play.view; known = known })
    → Began began (record { view = proxied request (length uris) play.view; known = proxies req uris how known })
turns-began began event play known req uris how None is found ok = absurd (none-proxied play (length uris) how (proxied-is play req uris how None is found))
turns-began began event play known req uris how (Some r) is found ok =
    let came = proxied-first play r (length uris) how (proxied-is play req uris how (Some r) is found) in (
      (numbers-law event).turns play known req uris how (Some r) is tt found ok.0,
      all-proxies began req uris how known (λ k has. kept-began began play.view known req r k found has came.0 came.1 ok.2) ok.1,
      subst (λ (kepts : List Kept). All (λ (r : RequestView). All (Keeps began r) kepts) (proxied (Some r) (length uris) play.view).requests) (sym (proxies-kept req uris how known))
          (turns-requests began play.view known r (length uris) ok.2),
    )

-- ## Each change

leg-began : (began : Request) (play : Play) (known : Known) (request : Option RequestView) (kept : Option Kept)
    → Began began (record { view = play.view; known = known })
    → Began began (record { view = (created_leg request play).view; known = with_legs play.view kept known })
unfolding created_leg with_legs with_draft linked with_own_session
leg-began began play known None None ok = ok
leg-began began play known None (Some kept) ok = ok
leg-began began play known (Some request) None ok = ok
leg-began began play known (Some request) (Some kept) ok = ok

begins-began : (began : Request) (x : Session) → Began began x
    → Began began (record { view = with_own_session x.view; known = record x.known { legs = x.known.legs ++ new_leg (new_session x.view) None ∷ [] } })
unfolding with_own_session
begins-began began x ok = ok

links-began : (began : Request) (view : View) (known : Known) (a b : SessId)
    → Began began (record { view = view; known = known })
    → Began began (record { view = linked a b view; known = known })
unfolding linked
links-began began view known a b ok = ok

shown-began : (began : Request) (v w : View) (known : Known) → w ≡ record v { sessions = w.sessions }
    → Began began (record { view = v; known = known }) → Began began (record { view = w; known = known })
shown-began began v w known is ok = subst (λ (u : View). Began began (record { view = u; known = known })) (sym is) ok

receives-began : (began : Request) (event : Queued) (x : Session) (number : ℕ) (sess : SessId) (initial passed : Bool) (request : Request)
    → (initial ≡ true → request ≡ began) → Began began x
    → All (Proxies began) (received x number sess initial passed request).known.proxies × Kepts began (received x number sess initial passed request).view (received x number sess initial passed request).known
receives-began began event x number sess initial passed request is ok = received-holds (λ v k. All (Proxies began) k.proxies × Kepts began v k) x number sess initial passed request (λ invited. (
  ok.1,
  all-append (λ (r : RequestView). All (Keeps began r) (x.known.kept ++ received_kept x number sess request ∷ [])) x.view.requests _ (olds-keep began x.view.next_request x.view.requests x.known.kept _ refl ok.0.1 ok.2)
      (all-append (Keeps began (request_view (next_id x) sess initial passed request)) x.known.kept _ (new-keeps began x.view.next_request _ x.known.kept (view-number (next_id x) sess initial passed request) ok.0.0)
      (came-keeps began (next_id x) sess initial passed request _ refl is)),
))

pub began-law : (began : Request) (event : Queued) → IsOf began event
    → SessionLaws event (λ call. Unit {0}) (λ x y. Began began x → Began began y)
began-law began event of = record {
  same = λ x ok. ok;
  after = λ x y z p q ok. q (p ok);
  dates = λ x now ok. ok;
  expires = λ x due ok. ok;
  flags = λ x flag ok. ok;
  times = λ x timers next ok. ok;
  attributes = λ x fields ok. ok;
  counts = λ x ok. ok;
  numbers = λ x ok. ((numbers-law event).numbers x ok.0, ok.1, ok.2);
  moves = λ x sessions same ok. ok;
  renews = λ x requests same ok. ((numbers-law event).renews x requests same ok.0, ok.1, renewed began x.known.kept x.view.requests requests same ok.2);
  drops = λ x test ok. ((numbers-law event).drops x test ok.0, ok.1, all-filter (λ (r : RequestView). All (Keeps began r) x.known.kept) test x.view.requests ok.2);
  same_legs = λ x legs same ok. ok;
  same_proxies = λ x all same ok. (ok.0, all-each (Proxies began) IsKeptProxy x.known.proxies all (λ p q kept. proxy-same began p q kept.same) same ok.1, ok.2);
  forgets = λ x test ok. (
    (numbers-law event).forgets x test ok.0,
    ok.1,
    all-map (λ (r : RequestView). All (Keeps began r) x.known.kept) (λ (r : RequestView). All (Keeps began r) (filter test x.known.kept)) x.view.requests (λ r. all-filter (Keeps began r) test x.known.kept) ok.2,
  );
  unlinks = λ x sess does ok. shown-began began x.view (unlinked sess x.view) x.known (unlinked-only sess x.view) ok;
  removes = λ x sess ok. shown-began began x.view (removed sess x.view) x.known (removed-only sess x.view) ok;
  receives = λ x number sess initial passed request brings ok. (
    (numbers-law event).receives x number sess initial passed request brings ok.0,
    (receives-began began event x number sess initial passed request (brings-began began event x sess initial passed request of brings) ok).0,
    (receives-began began event x number sess initial passed request (brings-began began event x sess initial passed request of brings) ok).1,
  );
  shows = λ x request again ok. (
    (numbers-law event).shows x request again ok.0,
    ok.1,
    all-insert (λ (r : RequestView). All (Keeps began r) x.known.kept) request x.view.requests (unreceived-keeps began request x.known.kept again.received) ok.2,
  );
  sends = λ x draft request ok. (
    (numbers-law event).sends x draft request ok.0,
    ok.1,
    all-append (λ (r : RequestView). All (Keeps began r) (x.known.kept ++ sent_kept x.view draft request ∷ [])) x.view.requests (sent_view x.view draft) (olds-keep began x.view.next_request x.view.requests x.known.kept _ refl ok.0.1 ok.2) (sent-keeps began x.view draft _),
  );
  sends_none = λ x draft ok.
      ((numbers-law event).sends_none x draft ok.0, ok.1, all-append (λ (r : RequestView). All (Keeps began r) x.known.kept) x.view.requests (sent_view x.view draft) ok.2 (sent-keeps began x.view draft x.known.kept));
  begins = λ x ok. begins-began began x ok;
  derives = λ x req sess original came tag is ok. ok;
  begins_leg = λ play known req uri request kept is does found has ok. leg-began began play known request kept ok;
  links = λ play known a b is does ok. links-began began play.view known a b ok;
  turns = λ play known req uris how request is does found ok. turns-began began event play known req uris how request is found ok;
  passes = λ x req kept is ok. (ok.0, all-append (Proxies began) x.known.proxies _ ok.1 (passed-proxies began kept (x.view.counter + 1)), ok.2);
}

-- where each initial request that was handled is the one that began the session, so is what the application proxied
pub proxies-began : (config : Config) (history : History) (turns : List Turn)
    → IsLife (IsOf history.request) (λ call. Unit {0}) config history turns
    → All (Proxies history.request) (session_after config history turns).known.proxies
unfolding fresh first_view first_known All
proxies-began config history turns life =
    (lives-hold turns (IsOf history.request) (λ call. Unit {0}) (Began history.request) config history (λ event of. began-law history.request event of) life ((tt, tt), tt, tt)).1
