-- Numbers of requests are below the next one, over a whole life.
use Rattle.std.proofs.Common.{◌≡◌, ◌<◌, ℕ, ◌+◌, ◌++◌, Bool, true, false, Option, None, Some, List, [], ◌∷◌, refl, ap, arith}
use Rattle.std.specs.Prelude.{cond}
use Rattle.sc_value.specs.declared.ids.ReqId.{ReqId}
use Rattle.sc_value.specs.declared.ids.SessId.{SessId}
use Rattle.sc_value.specs.declared.message.Request.{Request}
use Rattle.sc_value.specs.declared.parts.Uri.{Uri}
use Rattle.sc_state.specs.declared.working.Draft.{Draft}
use Rattle.sc_terms.specs.declared.calls.ProxyOptions.{ProxyOptions}
use Rattle.sc_terms.specs.declared.settings.Config.{Config}
use Rattle.sc_terms.specs.declared.views.RequestView.{RequestView}
use Rattle.sc_terms.specs.declared.views.View.{View}
use Rattle.sc_state.specs.declared.queue.Queued.{Queued}
use Rattle.sc_state.specs.declared.session.Kept.{Kept}
use Rattle.sc_state.specs.declared.session.Known.{Known}
use Rattle.sc_state.specs.declared.session.Session.{Session}
use Rattle.sc_state.specs.declared.working.Play.{Play}
use Rattle.sc_hosts.specs.Effects.{created_leg, view_with_targets as proxied, proxied_request, sent_view, with_draft}
use Rattle.sc_hosts.specs.Histories.{History, session_of}
use Rattle.sc_hosts.specs.Legs.{new_leg, fresh, first_view, first_known}
use Rattle.sc_hosts.specs.Looking.{is_request, without_link as unlinked, without_sip_session as removed}
use Rattle.sc_hosts.specs.PreparingRequests.{request_view}
use Rattle.sc_hosts.specs.ViewChanges.{with_link as linked, new_session, with_own_session}
use Rattle.sc_hosts.specs.Working.{proxies, proxies_first}
use Rattle.sc_walked.specs.SessionWalks.{Each, IsSameRequest, IsShownAgain, SessionLaws, with_legs}
use Rattle.sc_walked.proofs.WalkParts.{each-first}
use Rattle.sc_walked.proofs.WalkEnds.{life-keeps}
use Rattle.sc_lasting.specs.Lasting.{All, Numbered}
use Rattle.sc_lasting.proofs.Parts.{all-append, all-filter, all-found, all-insert, all-map, all-each, unlinked-only, removed-only, received-holds}

more : (n m : ℕ) → n < m → n < m + 1
more n m less = omega (arith, less)

own : (n : ℕ) → n < n + 1
own n = omega arith

-- the same next number, requests and what is kept
still : (v w : View) (k l : Known) → w.next_request ≡ v.next_request → w.requests ≡ v.requests → l.kept ≡ k.kept
    → Numbered (record { view = v; known = k }) → Numbered (record { view = w; known = l })
still v w k l next requests kept ok = rw (next, requests, kept) ok

kept-more : (x : Session) → Numbered x → All (λ (k : Kept). k.id.0 < x.view.next_request + 1) x.known.kept
kept-more x ok = all-map (λ (k : Kept). k.id.0 < x.view.next_request) (λ (k : Kept). k.id.0 < x.view.next_request + 1) x.known.kept (λ k. more k.id.0 x.view.next_request) ok.0

requests-more : (x : Session) → Numbered x → All (λ (r : RequestView). r.id.0 < x.view.next_request + 1) x.view.requests
requests-more x ok = all-map (λ (r : RequestView). r.id.0 < x.view.next_request) (λ (r : RequestView). r.id.0 < x.view.next_request + 1) x.view.requests (λ r. more r.id.0 x.view.next_request) ok.1

same-below : (next : ℕ) (r q : RequestView) → IsSameRequest r q → r.id.0 < next → q.id.0 < next
same-below next r q same less = rw (same.id) less

renewed : (next : ℕ) (requests later : List RequestView) → Each IsSameRequest requests later
    → All (λ (r : RequestView). r.id.0 < next) requests → All (λ (r : RequestView). r.id.0 < next) later
renewed next requests later same all = all-each (λ (r : RequestView). r.id.0 < next) IsSameRequest requests later (same-below next) same all

-- only the SipSessions are others
shown-ok : (v w : View) (known : Known) → w ≡ record v { sessions = w.sessions }
    → Numbered (record { view = v; known = known }) → Numbered (record { view = w; known = known })
shown-ok v w known is ok = still v w known known (ap (λ (u : View). u.next_request) is) (ap (λ (u : View). u.requests) is) refl ok

leg-ok : (play : Play) (known : Known) (request : Option RequestView) (kept : Option Kept)
    → Numbered (record { view = play.view; known = known })
    → Numbered (record { view = (created_leg request play).view; known = with_legs play.view kept known })
unfolding created_leg with_legs with_draft linked with_own_session
leg-ok play known None None ok = ok
leg-ok play known None (Some kept) ok = ok
leg-ok play known (Some request) None ok = ok
leg-ok play known (Some request) (Some kept) ok = ok

if-kept : (b : Bool) (x y : Known) (kepts : List Kept) → x.kept ≡ kepts → y.kept ≡ kepts → (cond b x y).kept ≡ kepts
if-kept true x y kepts p q = p
if-kept false x y kepts p q = q

first-kept : (req : ReqId) (uris : List Uri) (how : ProxyOptions) (kept : Option Kept) (known : Known)
    → (proxies_first req uris how kept known).kept ≡ known.kept
unfolding proxies_first
first-kept req uris how None known = refl
first-kept req uris how (Some kept) known = refl

pub proxies-kept : (req : ReqId) (uris : List Uri) (how : ProxyOptions) (known : Known)
    → (proxies req uris how known).kept ≡ known.kept
unfolding proxies
proxies-kept req uris how known = if-kept _ _ _ known.kept refl (first-kept req uris how _ known)

proxied-id : (count : ℕ) (r : RequestView) → (proxied_request count r).id ≡ r.id
unfolding proxied_request
proxied-id count r = refl

turns-ok : (view : View) (known after : Known) (request : Option RequestView) (count : ℕ) → after.kept ≡ known.kept
    → Numbered (record { view = view; known = known })
    → Numbered (record { view = proxied request count view; known = after })
unfolding proxied
turns-ok view known after None count same ok = still view view known after refl refl same ok
turns-ok view known after (Some request) count same ok = (
  rw (same) ok.0,
  all-each (λ (r : RequestView). r.id.0 < view.next_request) (λ (r q : RequestView). q.id ≡ r.id) view.requests _ (λ r q is less. rw is less)
      (each-first (λ (r q : RequestView). q.id ≡ r.id) view.requests (is_request request.id) (proxied_request count) (λ r. refl) (proxied-id count)) ok.1,
)

begins-ok : (x : Session) → Numbered x
    → Numbered (record { view = with_own_session x.view; known = record x.known { legs = x.known.legs ++ new_leg (new_session x.view) None ∷ [] } })
unfolding with_own_session
begins-ok x ok = ok

links-ok : (view : View) (known : Known) (a b : SessId) → Numbered (record { view = view; known = known })
    → Numbered (record { view = linked a b view; known = known })
unfolding linked
links-ok view known a b ok = ok

received-own : (next : ℕ) (sess : SessId) (initial passed : Bool) (request : Request)
    → (request_view (record { 0 = next }) sess initial passed request).id.0 < next + 1
unfolding request_view
received-own next sess initial passed request = own next

sent-own : (view : View) (draft : Draft) → (sent_view view draft).id.0 < view.next_request + 1
unfolding sent_view
sent-own view draft = own view.next_request

shown-own : (x : Session) (request : RequestView) → IsShownAgain x.known request → Numbered x
    → request.id.0 < x.view.next_request
shown-own x request again ok = rw (again.id) (all-found (λ (k : Kept). k.id.0 < x.view.next_request) again.test x.known.kept again.kept again.found ok.0)

pub numbers-law : (event : Queued) → SessionLaws event (λ call. Unit {0}) (λ x y. Numbered x → Numbered y)
numbers-law event = record {
  same = λ x ok. ok;
  after = λ x y z p q ok. q (p ok);
  dates = λ x now ok. ok;
  expires = λ x due ok. ok;
  flags = λ x flag ok. ok;
  times = λ x timers next ok. ok;
  attributes = λ x fields ok. ok;
  counts = λ x ok. ok;
  numbers = λ x ok. (kept-more x ok, requests-more x ok);
  moves = λ x sessions same ok. ok;
  renews = λ x requests same ok. (ok.0, renewed x.view.next_request x.view.requests requests same ok.1);
  drops = λ x test ok. (ok.0, all-filter (λ (r : RequestView). r.id.0 < x.view.next_request) test x.view.requests ok.1);
  same_legs = λ x legs same ok. ok;
  same_proxies = λ x all same ok. ok;
  forgets = λ x test ok. (all-filter (λ (k : Kept). k.id.0 < x.view.next_request) test x.known.kept ok.0, ok.1);
  unlinks = λ x sess does ok. shown-ok x.view (unlinked sess x.view) x.known (unlinked-only sess x.view) ok;
  removes = λ x sess ok. shown-ok x.view (removed sess x.view) x.known (removed-only sess x.view) ok;
  receives = λ x number sess initial passed request brings ok. received-holds (λ v k. Numbered (record { view = v; known = k })) x number sess initial passed request (λ invited.
      (all-append (λ (k : Kept). k.id.0 < x.view.next_request + 1) x.known.kept _ (kept-more x ok) (own x.view.next_request), all-append (λ (r : RequestView). r.id.0 < x.view.next_request + 1) x.view.requests _ (requests-more x ok) (received-own x.view.next_request sess initial passed request)));
  shows = λ x request again ok. (ok.0, all-insert (λ (r : RequestView). r.id.0 < x.view.next_request) request x.view.requests (shown-own x request again ok) ok.1);
  sends = λ x draft request ok.
      (all-append (λ (k : Kept). k.id.0 < x.view.next_request + 1) x.known.kept _ (kept-more x ok) (own x.view.next_request), all-append (λ (r : RequestView). r.id.0 < x.view.next_request + 1) x.view.requests _ (requests-more x ok) (sent-own x.view draft));
  sends_none = λ x draft ok. (kept-more x ok, all-append (λ (r : RequestView). r.id.0 < x.view.next_request + 1) x.view.requests _ (requests-more x ok) (sent-own x.view draft));
  begins = λ x ok. begins-ok x ok;
  derives = λ x req sess original came tag is ok. ok;
  begins_leg = λ play known req uri request kept is does found has ok. leg-ok play known request kept ok;
  links = λ play known a b is does ok. links-ok play.view known a b ok;
  turns = λ play known req uris how request is does found ok. turns-ok play.view known (proxies req uris how known) request _ (proxies-kept req uris how known) ok;
  passes = λ x req kept is ok. ok;
}

pub numbers-hold : (config : Config) (history : History) → Numbered (session_of config history)
unfolding fresh first_view first_known All
numbers-hold config history = life-keeps Numbered config history numbers-law (tt, tt)
