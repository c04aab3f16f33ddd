-- Branches are numbered upward; and what is proxied is of numbers that were drawn.
use Rattle.std.proofs.Common.{◌≡◌, ◌≤◌, ◌<◌, ℕ, ◌+◌, ◌++◌, Bool, true, false, Option, None, Some, List, [], ◌∷◌, sym, subst, arith}
use Rattle.std.specs.Prelude.{cond, is_some, length}
use Rattle.sc_value.specs.declared.ids.ReqId.{ReqId}
use Rattle.sc_value.specs.declared.parts.Uri.{Uri}
use Rattle.sc_terms.specs.declared.calls.Call.TheVariants as calls
use Rattle.sc_terms.specs.declared.calls.ProxyOptions.{ProxyOptions}
use Rattle.sc_terms.specs.declared.settings.Config.{Config}
use Rattle.sc_terms.specs.declared.views.RequestView.{RequestView}
use Rattle.sc_terms.specs.declared.views.View.{View}
use Rattle.sc_state.specs.declared.proxy.Proxy.{Proxy}
use Rattle.sc_state.specs.declared.queue.Queued.{Queued}
use Rattle.sc_state.specs.declared.session.Kept.{Kept}
use Rattle.sc_state.specs.declared.session.Known.{Known}
use Rattle.sc_state.specs.declared.session.Session.{Session}
use Rattle.sc_state.specs.declared.working.Play.{Play}
use Rattle.sc_hosts.specs.Acting.{sent_proxy}
use Rattle.sc_hosts.specs.Branches.{new_proxy, with_targets}
use Rattle.sc_hosts.specs.Effects.{created_leg, view_with_targets as proxied, with_draft}
use Rattle.sc_hosts.specs.Histories.{History, after_turn, session_after}
use Rattle.sc_hosts.specs.Legs.{first_known, first_view, fresh, new_leg}
use Rattle.sc_hosts.specs.Looking.{is_request, without_sip_session as removed, request_in, same_request, without_link as unlinked}
use Rattle.sc_hosts.specs.Preparing.{kept_of, proxy_of}
use Rattle.sc_hosts.specs.PreparingRequests.{with_received_request as received}
use Rattle.sc_hosts.specs.PreparingResponses.{change_proxy}
use Rattle.sc_hosts.specs.Refusals.{refusal}
use Rattle.sc_hosts.specs.Sessions.{Turn}
use Rattle.sc_hosts.specs.ViewChanges.{with_link as linked, new_session, with_own_session}
use Rattle.sc_hosts.specs.Working.{event_of, proxies, proxies_first}
use Rattle.sc_walked.specs.SessionWalks.{IsKeptProxy, SessionLaws, with_legs}
use Rattle.sc_walked.proofs.WalkEnds.{after_turn-walks, done-any}
use Rattle.sc_lasting.specs.Lasting.{All, Numbered}
use Rattle.sc_lasting.proofs.Began.{none-proxied, proxied-is, same-number, test-found}
use Rattle.sc_lasting.proofs.Numbers.{numbers-law}
use Rattle.sc_lasting.proofs.Parts.{all-append, all-each, all-first, all-found, all-map, received-holds, removed-only, unlinked-only}

-- under a number below this one
abbrev pub IsUnder : ℕ → Proxy → Type 0
IsUnder next p = p.req.0 < next

-- requests and what is proxied have numbers that were drawn
pub record IsNumbered (x : Session) : Type 0 where
  pub requests : Numbered x
  pub proxied : All (IsUnder x.view.next_request) x.known.proxies

-- branches are numbered upward, and numbers that were drawn are so still
pub record Rises (x y : Session) : Type 0 where
  pub up : x.view.counter ≤ y.view.counter
  pub numbered : IsNumbered x → IsNumbered y

rises : (x y : Session) → x.view.counter ≤ y.view.counter → (Numbered x → Numbered y)
    → (Numbered x → All (IsUnder x.view.next_request) x.known.proxies → All (IsUnder y.view.next_request) y.known.proxies) → Rises x y
rises x y up requests proxied = record { up = up; numbered = λ ok. record { requests = requests ok.requests; proxied = proxied ok.requests ok.proxied } }

same-number-up : (n : ℕ) → n ≤ n
same-number-up n = omega arith

one-up : (n : ℕ) → n ≤ n + 1
one-up n = omega arith

two-up : (n : ℕ) → n ≤ n + 2
two-up n = omega arith

then-up : (a b c : ℕ) → a ≤ b → b ≤ c → a ≤ c
then-up a b c p q = omega (arith, p, q)

more : (n m : ℕ) → n < m → n < m + 1
more n m less = omega (arith, less)

under-more : (next : ℕ) (all : List Proxy) → All (IsUnder next) all → All (IsUnder (next + 1)) all
under-more next all ok = all-map (IsUnder next) (IsUnder (next + 1)) all (λ p. more p.req.0 next) ok

under-kept : (next : ℕ) (p q : Proxy) → IsKeptProxy p q → IsUnder next p → IsUnder next q
under-kept next p q kept less = rw (kept.same.req) less

-- only the SipSessions are others
shown-rises : (v w : View) (known : Known) → w ≡ record v { sessions = w.sessions } → Rises (record { view = v; known = known }) (record { view = w; known = known })
shown-rises v w known is =
    subst (λ (u : View). Rises (record { view = v; known = known }) (record { view = u; known = known })) (sym is)
    (rises (record { view = v; known = known }) (record { view = record v { sessions = w.sessions }; known = known }) (same-number-up v.counter) (λ ok. ok) (λ start ok. ok))

leg-rises : (play : Play) (known : Known) (request : Option RequestView) (kept : Option Kept) → (Numbered (record { view = play.view; known = known }) → Numbered (record { view = (created_leg request play).view; known = with_legs play.view kept known }))
    → Rises (record { view = play.view; known = known }) (record { view = (created_leg request play).view; known = with_legs play.view kept known })
unfolding created_leg with_legs with_draft linked with_own_session
leg-rises play known None None ok = rises _ _ (same-number-up play.view.counter) ok (λ start all. all)
leg-rises play known None (Some kept) ok = rises _ _ (same-number-up play.view.counter) ok (λ start all. all)
leg-rises play known (Some request) None ok = rises _ _ (two-up play.view.counter) ok (λ start all. all)
leg-rises play known (Some request) (Some kept) ok = rises _ _ (two-up play.view.counter) ok (λ start all. all)

under-found : (view : View) (req : ReqId) (r : RequestView) → request_in view req ≡ Some r → All (λ (r : RequestView). r.id.0 < view.next_request) view.requests
    → req.0 < view.next_request
under-found view req r found all =
    subst (λ (n : ℕ). n < view.next_request) (same-number r.id.0 req.0 (test-found (is_request req) view.requests r found)) (all-found (λ (r : RequestView). r.id.0 < view.next_request) (is_request req) view.requests r found all)

if-under : (next : ℕ) (b : Bool) (x y : Known) → All (IsUnder next) x.proxies → All (IsUnder next) y.proxies → All (IsUnder next) (cond b x y).proxies
if-under next true x y p q = p
if-under next false x y p q = q

first-under : (next : ℕ) (req : ReqId) (uris : List Uri) (how : ProxyOptions) (kept : Option Kept) (known : Known) → req.0 < next → All (IsUnder next) known.proxies
    → All (IsUnder next) (proxies_first req uris how kept known).proxies
unfolding proxies_first with_targets new_proxy
first-under next req uris how None known less all = all
first-under next req uris how (Some kept) known less all = all-append (IsUnder next) known.proxies (with_targets uris (new_proxy req kept.sess (event_of kept.way) kept.request (Some how))) all less

targets-under : (next : ℕ) (uris : List Uri) (p : Proxy) → IsUnder next p → IsUnder next (with_targets uris p)
unfolding with_targets
targets-under next uris p less = less

proxies-under : (next : ℕ) (req : ReqId) (uris : List Uri) (how : ProxyOptions) (known : Known) → req.0 < next → All (IsUnder next) known.proxies
    → All (IsUnder next) (proxies req uris how known).proxies
unfolding proxies
proxies-under next req uris how known less all =
    if-under next (is_some (proxy_of known req)) (change_proxy req (with_targets uris) known) (proxies_first req uris how (kept_of known req) known)
    (all-first (IsUnder next) (λ p. same_request p.req req) (with_targets uris) known.proxies (λ p found. targets-under next uris p) all)
    (first-under next req uris how (kept_of known req) known less all)

turns-rise : (play : Play) (known : Known) (req : ReqId) (uris : List Uri) (how : ProxyOptions) (request : Option RequestView) → refusal play (calls.ProxyTo req uris how) ≡ None
    → request_in play.view req ≡ request
    → (Numbered (record { view = play.view; known = known }) → Numbered (record { view = proxied request (length uris) play.view; known = proxies req uris how known }))
    → Rises (record { view = play.view; known = known }) (record { view = proxied request (length uris) play.view; known = proxies req uris how known })
unfolding proxied
turns-rise play known req uris how None is found ok = absurd (none-proxied play (length uris) how (proxied-is play req uris how None is found))
turns-rise play known req uris how (Some r) is found ok =
    rises _ _ (same-number-up play.view.counter) ok (λ start all. proxies-under play.view.next_request req uris how known (under-found play.view req r found start.1) all)

passed-under : (next : ℕ) (kept : Kept) (branch : ℕ) (all : List Proxy) → kept.id.0 < next → All (IsUnder next) all → All (IsUnder next) (all ++ sent_proxy kept branch ∷ [])
unfolding sent_proxy new_proxy
passed-under next kept branch all less ok = all-append (IsUnder next) all (sent_proxy kept branch) ok less

begins-rises : (x : Session) → (Numbered x → Numbered (record { view = with_own_session x.view; known = record x.known { legs = x.known.legs ++ new_leg (new_session x.view) None ∷ [] } }))
    → Rises x (record { view = with_own_session x.view; known = record x.known { legs = x.known.legs ++ new_leg (new_session x.view) None ∷ [] } })
unfolding with_own_session
begins-rises x ok = rises x _ (two-up x.view.counter) ok (λ start all. all)

links-rises : (view : View) (known : Known) (a b : _) → (Numbered (record { view = view; known = known }) → Numbered (record { view = linked a b view; known = known }))
    → Rises (record { view = view; known = known }) (record { view = linked a b view; known = known })
unfolding linked
links-rises view known a b ok = rises _ _ (same-number-up view.counter) ok (λ start all. all)

received-rises : (x : Session) (number : ℕ) (sess : _) (initial passed : Bool) (request : _) → (Numbered x → Numbered (received x number sess initial passed request))
    → Rises x (received x number sess initial passed request)
received-rises x number sess initial passed request ok = rises x (received x number sess initial passed request)
    (received-holds (λ v k. x.view.counter ≤ v.counter) x number sess initial passed request (λ invited. same-number-up x.view.counter)) ok
    (λ start all. received-holds (λ v k. All (IsUnder v.next_request) k.proxies) x number sess initial passed request (λ invited. under-more x.view.next_request x.known.proxies all))

pub rising-law : (event : Queued) → SessionLaws event (λ call. Unit {0}) Rises
rising-law event =
    let law = numbers-law event in record {
      same = λ x. rises x x (same-number-up x.view.counter) (λ ok. ok) (λ start ok. ok);
      after = λ x y z p q. record { up = then-up x.view.counter y.view.counter z.view.counter p.up q.up; numbered = λ ok. q.numbered (p.numbered ok) };
      dates = λ x now. rises x _ (same-number-up x.view.counter) (law.dates x now) (λ start ok. ok);
      expires = λ x due. rises x _ (same-number-up x.view.counter) (law.expires x due) (λ start ok. ok);
      flags = λ x flag. rises x _ (same-number-up x.view.counter) (law.flags x flag) (λ start ok. ok);
      times = λ x timers next. rises x _ (same-number-up x.view.counter) (law.times x timers next) (λ start ok. ok);
      attributes = λ x fields. rises x _ (same-number-up x.view.counter) (law.attributes x fields) (λ start ok. ok);
      counts = λ x. rises x _ (one-up x.view.counter) (law.counts x) (λ start ok. ok);
      numbers = λ x. rises x _ (same-number-up x.view.counter) (law.numbers x) (λ start ok. under-more x.view.next_request x.known.proxies ok);
      moves = λ x sessions same. rises x _ (same-number-up x.view.counter) (law.moves x sessions same) (λ start ok. ok);
      renews = λ x requests same. rises x _ (same-number-up x.view.counter) (law.renews x requests same) (λ start ok. ok);
      drops = λ x test. rises x _ (same-number-up x.view.counter) (law.drops x test) (λ start ok. ok);
      same_legs = λ x legs same. rises x _ (same-number-up x.view.counter) (law.same_legs x legs same) (λ start ok. ok);
      same_proxies = λ x all same. rises x _ (same-number-up x.view.counter) (law.same_proxies x all same)
          (λ start ok. all-each (IsUnder x.view.next_request) IsKeptProxy x.known.proxies all (under-kept x.view.next_request) same ok);
      forgets = λ x test. rises x _ (same-number-up x.view.counter) (law.forgets x test) (λ start ok. ok);
      unlinks = λ x sess does. shown-rises x.view (unlinked sess x.view) x.known (unlinked-only sess x.view);
      removes = λ x sess. shown-rises x.view (removed sess x.view) x.known (removed-only sess x.view);
      receives = λ x number sess initial passed request brings. received-rises x number sess initial passed request (law.receives x number sess initial passed request brings);
      shows = λ x request again. rises x _ (same-number-up x.view.counter) (law.shows x request again) (λ start ok. ok);
      sends = λ x draft request. rises x _ (one-up x.view.counter) (law.sends x draft request) (λ start ok. under-more x.view.next_request x.known.proxies ok);
      sends_none = λ x draft. rises x _ (one-up x.view.counter) (law.sends_none x draft) (λ start ok. under-more x.view.next_request x.known.proxies ok);
      begins = λ x. begins-rises x (law.begins x);
      derives = λ x req sess original came tag is. rises x _ (same-number-up x.view.counter) (law.derives x req sess original came tag is) (λ start ok. ok);
      begins_leg = λ play known req uri request kept is does found has. leg-rises play known request kept (law.begins_leg play known req uri request kept is does found has);
      links = λ play known a b is does. links-rises play.view known a b (law.links play known a b is does);
      turns = λ play known req uris how request is does found. turns-rise play known req uris how request is found (law.turns play known req uris how request is does found);
      passes = λ x req kept is. rises x _ (same-number-up x.view.counter) (law.passes x req kept is)
          (λ start ok. passed-under x.view.next_request kept (x.view.counter + 1) x.known.proxies (all-found (λ (k : Kept). k.id.0 < x.view.next_request) (λ k. same_request k.id req) x.known.kept kept is start.0) ok);
    }

-- over a turn
pub turn-rises : (config : Config) (turn : Turn) (x : Session) → Rises x (after_turn config turn x)
turn-rises config turn x =
    after_turn-walks (λ call. Unit {0}) Rises config turn x (rising-law turn.waiting.event) (done-any turn.calls (λ call. Unit {0}) (λ call. tt) _)

pub all-numbered : (config : Config) (history : History) (turns : List Turn) → IsNumbered (session_after config history turns)
unfolding session_after fresh first_view first_known All
all-numbered config history [] = record { requests = (tt, tt); proxied = tt }
all-numbered config history (turn ∷ earlier) = (turn-rises config turn (session_after config history earlier)).numbered (all-numbered config history earlier)
