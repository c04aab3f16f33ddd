-- Once the request that began a session is proxied, or isn't kept any more, no later call proxies it with other options.
use Rattle.std.proofs.Common.{◌≡◌, ◌<◌, ◌⊎◌, inl, inr, ℕ, ◌+◌, ◌++◌, Bool, true, false, Option, None, Some, List, [], ◌∷◌, refl, ap, sym, subst, ◌∙◌, arith}
use Rattle.std.proofs.lemmas.Bool.Decides.{nat_tests}
use Rattle.std.specs.Prelude.{◌==◌, cond, filter, is_some, length}
use Rattle.std.specs.List.{find}
use Rattle.sc_value.specs.declared.ids.ReqId.{ReqId}
use Rattle.sc_value.specs.declared.ids.SessId.{SessId}
use Rattle.sc_value.specs.declared.message.Request.{Request}
use Rattle.sc_value.specs.declared.parts.Uri.{Uri}
use Rattle.sc_terms.specs.declared.calls.Call.{Call}
use Rattle.sc_terms.specs.declared.calls.Call.TheVariants as calls
use Rattle.sc_terms.specs.declared.calls.ProxyOptions.{ProxyOptions}
use Rattle.sc_terms.specs.declared.views.RequestView.{RequestView}
use Rattle.sc_terms.specs.declared.views.View.{View}
use Rattle.sc_state.specs.declared.proxy.Proxy.{Proxy}
use Rattle.sc_state.specs.declared.queue.Queued.{Queued}
use Rattle.sc_state.specs.declared.queue.Queued.TheVariants as queued
use Rattle.sc_state.specs.declared.session.Kept.{Kept}
use Rattle.sc_state.specs.declared.session.Known.{Known}
use Rattle.sc_state.specs.declared.session.Session.{Session}
use Rattle.sc_state.specs.declared.working.Draft.{Draft}
use Rattle.sc_state.specs.declared.working.Play.{Play}
use Rattle.sc_hosts.specs.Acting.{sent_proxy}
use Rattle.sc_hosts.specs.Branches.{new_proxy, with_targets}
use Rattle.sc_hosts.specs.Effects.{created_leg, view_with_targets as proxied, proxied_request, sent_view, with_draft}
use Rattle.sc_hosts.specs.Legs.{new_leg}
use Rattle.sc_hosts.specs.Looking.{is_request, without_sip_session as removed, request_in, same_request, without_link as unlinked}
use Rattle.sc_hosts.specs.Preparing.{kept_of, proxy_of}
use Rattle.sc_hosts.specs.PreparingRequests.{next_id, with_received_request as received, request_view}
use Rattle.sc_hosts.specs.PreparingResponses.{change_proxy}
use Rattle.sc_hosts.specs.Refusals.{refusal}
use Rattle.sc_hosts.specs.ViewChanges.{with_link as linked, new_session, with_own_session}
use Rattle.sc_hosts.specs.Working.{event_of, proxies, proxies_first}
use Rattle.sc_walked.specs.SessionWalks.{Brings, Each, IsKeptProxy, IsSameProxy, IsSameRequest, SessionLaws, sent_kept, with_legs}
use Rattle.sc_walked.proofs.WalkParts.{each-first, same-proxy}
use Rattle.sc_walked.proofs.WalkShown.{targets-same}
use Rattle.sc_walks.specs.Walks.{IsLate}
use Rattle.sc_lasting.specs.Lasting.{All, Directly}
use Rattle.sc_lasting.proofs.Began.{none-proxied, proxied-first, proxied-is, same-number, test-found}
use Rattle.sc_lasting.proofs.Parts.{all-append, all-each, all-filter, all-first, all-found, all-insert, each-weaker, received-holds, received_kept, removed-only, unlinked-only}

-- ## What is told of a session

-- a request that came and began a SipSession is the first
unfoldable pub IsOne : RequestView → Type 0
IsOne request = request.received ≡ true → request.initial ≡ true → request.id.0 ≡ 1

-- the first number was drawn, and no other request began a SipSession as it came
abbrev pub IsBased : View → Type 0
IsBased view = (1 < view.next_request) × All IsOne view.requests

-- so it is, and this holds of what is proxied and kept
abbrev pub Held : (List Proxy → List Kept → Type 0) → View → Known → Type 0
Held P view known = IsBased view × P known.proxies known.kept

-- what is kept where the first request is proxied at most by such calls
pub record IsFirm (Does : Call → Type 0) (P : List Proxy → List Kept → Type 0) : Type 0 where
  pub same : (ps qs : List Proxy) (ks : List Kept) → Each IsKeptProxy ps qs → P ps ks → P qs ks
  pub fewer : (ps : List Proxy) (ks : List Kept) (test : Kept → Bool) → P ps ks → P ps (filter test ks)
  pub more : (ps : List Proxy) (ks : List Kept) (kept : Kept) → 1 < kept.id.0 → P ps ks → P ps (ks ++ kept ∷ [])
  pub passed : (ps : List Proxy) (ks : List Kept) (kept : Kept) (branch : ℕ) → P ps ks → P (ps ++ sent_proxy kept branch ∷ []) ks
  pub asked : (known : Known) (req : ReqId) (uris : List Uri) (how : ProxyOptions) → req.0 ≡ 1 → Does (calls.ProxyTo req uris how) → P known.proxies known.kept
      → P (proxies req uris how known).proxies (proxies req uris how known).kept

-- ## Requests

up : (n : ℕ) → 1 < n → 1 < n + 1
up n less = omega (arith, less)

clash : (b : Bool) → b ≡ true → b ≡ false → ⊥
clash b p q = cc

one-same : (r q : RequestView) → IsSameRequest r q → IsOne r → IsOne q
unfolding IsOne
one-same r q same one = λ came first. ap (λ (id : ReqId). id.0) same.id ∙ one (sym same.received ∙ came) (sym same.initial ∙ first)

own-one : (r : RequestView) → r.received ≡ false → IsOne r
unfolding IsOne
own-one r own = λ came first. absurd (clash r.received came own)

sent-one : (view : View) (draft : Draft) → IsOne (sent_view view draft)
unfolding sent_view
sent-one view draft = own-one (sent_view view draft) refl

came-one : (next : ReqId) (sess : SessId) (initial passed : Bool) (request : Request) → initial ≡ false → IsOne (request_view next sess initial passed request)
unfolding IsOne request_view
came-one next sess initial passed request later = λ came first. absurd (clash initial first later)

proxied-one : (count : ℕ) (r : RequestView) → IsOne r → IsOne (proxied_request count r)
unfolding IsOne proxied_request
proxied-one count r one = one

later-brings : (event : Queued) → IsLate event → (x : Session) (sess : SessId) (initial passed : Bool) (request : Request) → Brings event x sess initial passed request → initial ≡ false
unfolding IsLate Brings
later-brings (queued.Initial region subscriber popped came) late x sess initial passed request brings = absurd late
later-brings (queued.Request came) late x sess initial passed request brings = brings.1
later-brings (queued.Response branch response) late x sess initial passed request brings = absurd brings
later-brings (queued.Cancelled number) late x sess initial passed request brings = absurd brings
later-brings (queued.Timer id) late x sess initial passed request brings = absurd brings
later-brings (queued.BranchTimer branch due) late x sess initial passed request brings = absurd brings
later-brings queued.Expired late x sess initial passed request brings = absurd brings
later-brings queued.Ready late x sess initial passed request brings = absurd brings

pub ready-late : IsLate queued.Ready
unfolding IsLate
ready-late = tt

-- what a call proxies is the first request
pub proxied-number : (play : Play) (req : ReqId) (uris : List Uri) (how : ProxyOptions) (request : Option RequestView) → refusal play (calls.ProxyTo req uris how) ≡ None
    → request_in play.view req ≡ request → All IsOne play.view.requests → req.0 ≡ 1
unfolding IsOne
proxied-number play req uris how None is found all = absurd (none-proxied play (length uris) how (proxied-is play req uris how None is found))
proxied-number play req uris how (Some r) is found all =
    let came = proxied-first play r (length uris) how (proxied-is play req uris how (Some r) is found) in
    sym (same-number r.id.0 req.0 (test-found (is_request req) play.view.requests r found)) ∙ all-found IsOne (is_request req) play.view.requests r found all came.0 came.1

-- ## Each change

proxied-based : (request : Option RequestView) (count : ℕ) (view : View) → IsBased view → IsBased (proxied request count view)
unfolding proxied
proxied-based None count view ok = ok
proxied-based (Some r) count view ok = (ok.0, all-first IsOne (is_request r.id) (proxied_request count) view.requests (λ q found one. proxied-one count q one) ok.1)

module _ (Does : Call → Type 0) (P : List Proxy → List Kept → Type 0) (firm : IsFirm Does P) where
  shown-held : (v w : View) (known : Known) → w ≡ record v { sessions = w.sessions } → Held P v known → Held P w known
  shown-held v w known is ok = subst (λ (u : View). Held P u known) (sym is) ok

  leg-held : (play : Play) (known : Known) (request : Option RequestView) (kept : Option Kept) → Held P play.view known → Held P (created_leg request play).view (with_legs play.view kept known)
  unfolding created_leg with_legs with_draft linked with_own_session
  leg-held play known None None ok = ok
  leg-held play known None (Some kept) ok = ok
  leg-held play known (Some request) None ok = ok
  leg-held play known (Some request) (Some kept) ok = ok

  begins-held : (x : Session) → Held P x.view x.known → Held P (with_own_session x.view) (record x.known { legs = x.known.legs ++ new_leg (new_session x.view) None ∷ [] })
  unfolding with_own_session
  begins-held x ok = ok

  links-held : (view : View) (known : Known) (a b : SessId) → Held P view known → Held P (linked a b view) known
  unfolding linked
  links-held view known a b ok = ok

  received-held : (x : Session) (number : ℕ) (sess : SessId) (initial passed : Bool) (request : Request) → initial ≡ false → Held P x.view x.known
      → Held P (received x number sess initial passed request).view (received x number sess initial passed request).known
  received-held x number sess initial passed request later ok = received-holds (λ v k. Held P v k) x number sess initial passed request
      (λ invited. ((up x.view.next_request ok.0.0, all-append IsOne x.view.requests _ ok.0.1 (came-one (next_id x) sess initial passed request later)), firm.more x.known.proxies x.known.kept (received_kept x number sess request) ok.0.0 ok.1))

  pub held-law : (event : Queued) → IsLate event → SessionLaws event Does (λ x y. Held P x.view x.known → Held P y.view y.known)
  held-law event late = record {
    same = λ x ok. ok;
    after = λ x y z p q ok. q (p ok);
    dates = λ x now ok. ok;
    expires = λ x due ok. ok;
    flags = λ x flag ok. ok;
    times = λ x timers next ok. ok;
    attributes = λ x fields ok. ok;
    counts = λ x ok. ok;
    numbers = λ x ok. ((up x.view.next_request ok.0.0, ok.0.1), ok.1);
    moves = λ x sessions same ok. ok;
    renews = λ x requests same ok. ((ok.0.0, all-each IsOne IsSameRequest x.view.requests requests one-same same ok.0.1), ok.1);
    drops = λ x test ok. ((ok.0.0, all-filter IsOne test x.view.requests ok.0.1), ok.1);
    same_legs = λ x legs same ok. ok;
    same_proxies = λ x all same ok. (ok.0, firm.same x.known.proxies all x.known.kept same ok.1);
    forgets = λ x test ok. (ok.0, firm.fewer x.known.proxies x.known.kept test ok.1);
    unlinks = λ x sess does ok. shown-held x.view (unlinked sess x.view) x.known (unlinked-only sess x.view) ok;
    removes = λ x sess ok. shown-held x.view (removed sess x.view) x.known (removed-only sess x.view) ok;
    receives = λ x number sess initial passed request brings ok. received-held x number sess initial passed request (later-brings event late x sess initial passed request brings) ok;
    shows = λ x request again ok. ((ok.0.0, all-insert IsOne request x.view.requests (own-one request again.received) ok.0.1), ok.1);
    sends = λ x draft request ok. ((up x.view.next_request ok.0.0, all-append IsOne x.view.requests (sent_view x.view draft) ok.0.1 (sent-one x.view draft)), firm.more x.known.proxies x.known.kept (sent_kept x.view draft request) ok.0.0 ok.1);
    sends_none = λ x draft ok. ((up x.view.next_request ok.0.0, all-append IsOne x.view.requests (sent_view x.view draft) ok.0.1 (sent-one x.view draft)), ok.1);
    begins = λ x ok. begins-held x ok;
    derives = λ x req sess original came tag is ok. ok;
    begins_leg = λ play known req uri request kept is does found has ok. leg-held play known request kept ok;
    links = λ play known a b is does ok. links-held play.view known a b ok;
    turns = λ play known req uris how request is does found ok. (proxied-based request (length uris) play.view ok.0, firm.asked known req uris how (proxied-number play req uris how request is found ok.0.1) does ok.1);
    passes = λ x req kept is ok. (ok.0, firm.passed x.known.proxies x.known.kept kept (x.view.counter + 1) ok.1);
  }

-- of what is proxied and kept nothing is asked
pub any-firm : IsFirm (λ call. Unit {0}) (λ ps ks. Unit {0})
any-firm = record {
  same = λ ps qs ks each ok. ok;
  fewer = λ ps ks test ok. ok;
  more = λ ps ks kept less ok. ok;
  passed = λ ps ks kept branch ok. ok;
  asked = λ known req uris how number does ok. ok;
}

-- ## Nothing was proxied by a call yet

unfoldable pub IsUnasked : Proxy → Type 0
IsUnasked proxy = proxy.options ≡ None

abbrev pub Open : List Proxy → List Kept → Type 0
Open ps ks = All IsUnasked ps

passed-unasked : (kept : Kept) (branch : ℕ) → IsUnasked (sent_proxy kept branch)
unfolding IsUnasked sent_proxy new_proxy
passed-unasked kept branch = refl

kept-unasked : (p q : Proxy) → IsKeptProxy p q → IsUnasked p → IsUnasked q
unfolding IsUnasked
kept-unasked p q kept is = kept.same.options ∙ is

pub bare-firm : IsFirm Directly Open
unfolding Directly
bare-firm = record {
  same = λ ps qs ks each ok. all-each IsUnasked IsKeptProxy ps qs kept-unasked each ok;
  fewer = λ ps ks test ok. ok;
  more = λ ps ks kept less ok. ok;
  passed = λ ps ks kept branch ok. all-append IsUnasked ps (sent_proxy kept branch) ok (passed-unasked kept branch);
  asked = λ known req uris how number does ok. absurd does;
}

-- ## The first call that proxied was accepted

-- what a call proxied asks for this
unfoldable pub SaysSo : Bool → Proxy → Type 0
SaysSo stays proxy = (how : ProxyOptions) → proxy.options ≡ Some how → how.record_route ≡ stays

abbrev is_one : Proxy → Bool
is_one proxy = proxy.req.0 == 1

abbrev IsGone : Kept → Type 0
IsGone kept = kept.id.0 ≡ 1 → ⊥

-- and no call can begin to proxy anything any more
abbrev pub Closed : Bool → List Proxy → List Kept → Type 0
Closed stays ps ks = All (SaysSo stays) ps × ((is_some (find is_one ps) ≡ true) ⊎ All IsGone ks)

same-says : (stays : Bool) (p q : Proxy) → IsSameProxy p q → SaysSo stays p → SaysSo stays q
unfolding SaysSo
same-says stays p q same says = λ how is. says how (sym same.options ∙ is)

unasked-says : (stays : Bool) (p : Proxy) → IsUnasked p → SaysSo stays p
unfolding SaysSo IsUnasked
unasked-says stays p none = λ how is. absurd (no how (sym none ∙ is))
  where
    no : (how : ProxyOptions) → ◌≡◌ {A = Option ProxyOptions} None (Some how) → ⊥
    no how is = cc

pub bare-says : (stays : Bool) (ps : List Proxy) → All IsUnasked ps → All (SaysSo stays) ps
unfolding All
bare-says stays [] ok = tt
bare-says stays (p ∷ ps) ok = (unasked-says stays p ok.0, bare-says stays ps ok.1)

some-if : (b : Bool) (x y : Proxy) (f g : Option Proxy) → is_some f ≡ is_some g → is_some (cond b (Some x) f) ≡ is_some (cond b (Some y) g)
some-if true x y f g is = refl
some-if false x y f g is = is

find-each : (ps qs : List Proxy) → Each IsSameProxy ps qs → is_some (find is_one qs) ≡ is_some (find is_one ps)
unfolding Each
find-each [] [] each = refl
find-each [] (q ∷ qs) each = absurd each
find-each (p ∷ ps) [] each = absurd each
find-each (p ∷ ps) (q ∷ qs) each = rw (each.0.req) (some-if (p.req.0 == 1) _ p (find is_one qs) (find is_one ps) (find-each ps qs each.1))

more-if : (b : Bool) (x : Proxy) (f g : Option Proxy) → (is_some f ≡ true → is_some g ≡ true) → is_some (cond b (Some x) f) ≡ true → is_some (cond b (Some x) g) ≡ true
more-if true x f g more is = refl
more-if false x f g more is = more is

find-more : (ps : List Proxy) (new : Proxy) → is_some (find is_one ps) ≡ true → is_some (find is_one (ps ++ new ∷ [])) ≡ true
find-more [] new is = cc
find-more (p ∷ ps) new is = more-if (p.req.0 == 1) p (find is_one ps) (find is_one (ps ++ new ∷ [])) (find-more ps new) is

last-if : (b : Bool) (x : Proxy) (g : Option Proxy) → is_some g ≡ true → is_some (cond b (Some x) g) ≡ true
last-if true x g is = refl
last-if false x g is = is

one-some : (n : ℕ) (x : Proxy) → n ≡ 1 → is_some (cond (n == 1) (Some x) None) ≡ true
one-some n x is = rw (is) refl

find-last : (ps : List Proxy) (new : Proxy) → new.req.0 ≡ 1 → is_some (find is_one (ps ++ new ∷ [])) ≡ true
find-last [] new is = one-some new.req.0 new is
find-last (p ∷ ps) new is = last-if (p.req.0 == 1) p (find is_one (ps ++ new ∷ [])) (find-last ps new is)

closed-same : (stays : Bool) (ps qs : List Proxy) (ks : List Kept) → Each IsSameProxy ps qs → Closed stays ps ks → Closed stays qs ks
closed-same stays ps qs ks each ok = (all-each (SaysSo stays) IsSameProxy ps qs (same-says stays) each ok.0, by ok.1)
  where
    by : (is_some (find is_one ps) ≡ true) ⊎ All IsGone ks → (is_some (find is_one qs) ≡ true) ⊎ All IsGone ks
    by (inl has) = inl (find-each ps qs each ∙ has)
    by (inr gone) = inr gone

closed-more : (stays : Bool) (ps : List Proxy) (ks : List Kept) (kept : Kept) → 1 < kept.id.0 → Closed stays ps ks → Closed stays ps (ks ++ kept ∷ [])
closed-more stays ps ks kept less ok = (ok.0, by ok.1)
  where
    other : (n : ℕ) → 1 < n → n ≡ 1 → ⊥
    other n less is = omega (arith, less, is)

    by : (is_some (find is_one ps) ≡ true) ⊎ All IsGone ks → (is_some (find is_one ps) ≡ true) ⊎ All IsGone (ks ++ kept ∷ [])
    by (inl has) = inl has
    by (inr gone) = inr (all-append IsGone ks kept gone (other kept.id.0 less))

closed-fewer : (stays : Bool) (ps : List Proxy) (ks : List Kept) (test : Kept → Bool) → Closed stays ps ks → Closed stays ps (filter test ks)
closed-fewer stays ps ks test ok = (ok.0, by ok.1)
  where
    by : (is_some (find is_one ps) ≡ true) ⊎ All IsGone ks → (is_some (find is_one ps) ≡ true) ⊎ All IsGone (filter test ks)
    by (inl has) = inl has
    by (inr gone) = inr (all-filter IsGone test ks gone)

closed-passed : (stays : Bool) (ps : List Proxy) (ks : List Kept) (new : Proxy) → SaysSo stays new → Closed stays ps ks → Closed stays (ps ++ new ∷ []) ks
closed-passed stays ps ks new says ok = (all-append (SaysSo stays) ps new ok.0 says, by ok.1)
  where
    by : (is_some (find is_one ps) ≡ true) ⊎ All IsGone ks → (is_some (find is_one (ps ++ new ∷ [])) ≡ true) ⊎ All IsGone ks
    by (inl has) = inl (find-more ps new has)
    by (inr gone) = inr gone

-- ## A call proxies it

changed-each : (req : ReqId) (uris : List Uri) (known : Known) → Each IsSameProxy known.proxies (change_proxy req (with_targets uris) known).proxies
changed-each req uris known = each-first IsSameProxy known.proxies (λ proxy. same_request proxy.req req) (with_targets uris) same-proxy (targets-same uris)

none-if : (b : Bool) (k : Kept) (f : Option Kept) → b ≡ false → f ≡ None → cond b (Some k) f ≡ None
none-if true k f is none = cc
none-if false k f is none = none

not-at : (n m : ℕ) → m ≡ 1 → (n ≡ 1 → ⊥) → (n == m) ≡ false
not-at n m is other = by (n == m) refl
  where
    equal : (a b : ℕ) → (a == b) ≡ true → a ≡ b
    equal a b is = grind (arith, nat_tests, is)

    by : (b : Bool) → (n == m) ≡ b → b ≡ false
    by false at = refl
    by true at = absurd (other (equal n m at ∙ is))

gone-none : (req : ReqId) (ks : List Kept) → req.0 ≡ 1 → All IsGone ks → find (λ kept. same_request kept.id req) ks ≡ None
unfolding All
gone-none req [] is gone = refl
gone-none req (k ∷ ks) is gone = none-if (k.id.0 == req.0) k (find (λ kept. same_request kept.id req) ks) (not-at k.id.0 req.0 is gone.0) (gone-none req ks is gone.1)

none-gone : (req : ReqId) (ks : List Kept) → req.0 ≡ 1 → find (λ kept. same_request kept.id req) ks ≡ None → All IsGone ks
unfolding All
none-gone req [] is none = tt
none-gone req (k ∷ ks) is none = by (k.id.0 == req.0) refl none (none-gone req ks is)
  where
    itself : (a b : ℕ) → a ≡ 1 → b ≡ 1 → (a == b) ≡ true
    itself a b p q = grind (arith, nat_tests, p, q)

    by : (b : Bool) → (k.id.0 == req.0) ≡ b → cond b (Some k) (find (λ kept. same_request kept.id req) ks) ≡ None → (find (λ kept. same_request kept.id req) ks ≡ None → All IsGone ks) → IsGone k × All IsGone ks
    by true at none rest = cc
    by false at none rest = ((λ one. clash (k.id.0 == req.0) (itself k.id.0 req.0 one is) at), rest none)

at-one : (req : ReqId) (known : Known) → req.0 ≡ 1 → is_some (proxy_of known req) ≡ is_some (find is_one known.proxies)
unfolding proxy_of
at-one req known is = ap (λ (n : ℕ). is_some (find (λ (p : Proxy). p.req.0 == n) known.proxies)) is

first-none : (stays : Bool) (req : ReqId) (uris : List Uri) (how : ProxyOptions) (found : Option Kept) (known : Known) → found ≡ None → Closed stays known.proxies known.kept
    → Closed stays (proxies_first req uris how found known).proxies (proxies_first req uris how found known).kept
unfolding proxies_first
first-none stays req uris how None known none ok = ok
first-none stays req uris how (Some kept) known none ok = cc

closed-asked : (stays : Bool) (known : Known) (req : ReqId) (uris : List Uri) (how : ProxyOptions) → req.0 ≡ 1 → Closed stays known.proxies known.kept
    → Closed stays (proxies req uris how known).proxies (proxies req uris how known).kept
unfolding proxies
closed-asked stays known req uris how is ok = by (is_some (proxy_of known req)) refl
  where
    none : (is_some (find is_one known.proxies) ≡ true) ⊎ All IsGone known.kept → is_some (proxy_of known req) ≡ false → kept_of known req ≡ None
    none (inl has) free = absurd (clash (is_some (proxy_of known req)) (at-one req known is ∙ has) free)
    none (inr gone) free = gone-none req known.kept is gone

    by : (b : Bool) → is_some (proxy_of known req) ≡ b
        → Closed stays (cond b (change_proxy req (with_targets uris) known) (proxies_first req uris how (kept_of known req) known)).proxies (cond b (change_proxy req (with_targets uris) known) (proxies_first req uris how (kept_of known req) known)).kept
    by true at = closed-same stays known.proxies (change_proxy req (with_targets uris) known).proxies known.kept (changed-each req uris known) ok
    by false at = first-none stays req uris how (kept_of known req) known (none ok.1 at) ok

pub closed-firm : (stays : Bool) → IsFirm (λ call. Unit {0}) (Closed stays)
closed-firm stays = record {
  same = λ ps qs ks each ok. closed-same stays ps qs ks (each-weaker IsKeptProxy IsSameProxy ps qs (λ p q kept. kept.same) each) ok;
  fewer = closed-fewer stays;
  more = closed-more stays;
  passed = λ ps ks kept branch ok. closed-passed stays ps ks (sent_proxy kept branch) (unasked-says stays (sent_proxy kept branch) (passed-unasked kept branch)) ok;
  asked = λ known req uris how number does ok. closed-asked stays known req uris how number ok;
}

-- ## The first call that proxies

new-says : (stays : Bool) (req : ReqId) (uris : List Uri) (how : ProxyOptions) (kept : Kept) → how.record_route ≡ stays → SaysSo stays (with_targets uris (new_proxy req kept.sess (event_of kept.way) kept.request (Some how)))
unfolding SaysSo with_targets new_proxy
new-says stays req uris how kept is = λ other same. subst (λ (h : ProxyOptions). h.record_route ≡ stays) (some-is how other same) is
  where
    some-is : (x y : ProxyOptions) → Some x ≡ Some y → x ≡ y
    some-is x y is = cc

new-at : (req : ReqId) (uris : List Uri) (how : ProxyOptions) (kept : Kept) → (with_targets uris (new_proxy req kept.sess (event_of kept.way) kept.request (Some how))).req ≡ req
unfolding with_targets new_proxy
new-at req uris how kept = refl

first-closes : (stays : Bool) (req : ReqId) (uris : List Uri) (how : ProxyOptions) (found : Option Kept) (known : Known) → req.0 ≡ 1 → how.record_route ≡ stays → kept_of known req ≡ found
    → All (SaysSo stays) known.proxies → Closed stays (proxies_first req uris how found known).proxies (proxies_first req uris how found known).kept
unfolding proxies_first
first-closes stays req uris how None known is so none ok = (ok, inr (none-gone req known.kept is none))
first-closes stays req uris how (Some kept) known is so found ok =
    let new : Proxy = with_targets uris (new_proxy req kept.sess (event_of kept.way) kept.request (Some how)) in
    (all-append (SaysSo stays) known.proxies new ok (new-says stays req uris how kept so), inl (find-last known.proxies new (ap (λ (r : ReqId). r.0) (new-at req uris how kept) ∙ is)))

pub asked-closes : (stays : Bool) (known : Known) (req : ReqId) (uris : List Uri) (how : ProxyOptions) → req.0 ≡ 1 → how.record_route ≡ stays → All IsUnasked known.proxies
    → Closed stays (proxies req uris how known).proxies (proxies req uris how known).kept
unfolding proxies
asked-closes stays known req uris how is so bare = by (is_some (proxy_of known req)) refl
  where
    by : (b : Bool) → is_some (proxy_of known req) ≡ b
        → Closed stays (cond b (change_proxy req (with_targets uris) known) (proxies_first req uris how (kept_of known req) known)).proxies (cond b (change_proxy req (with_targets uris) known) (proxies_first req uris how (kept_of known req) known)).kept
    by true at = closed-same stays known.proxies (change_proxy req (with_targets uris) known).proxies known.kept (changed-each req uris known) (bare-says stays known.proxies bare, inl (sym (at-one req known is) ∙ at))
    by false at = first-closes stays req uris how (kept_of known req) known is so refl (bare-says stays known.proxies bare)
