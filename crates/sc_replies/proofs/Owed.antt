-- A received request that lacks its final response is kept as it came, under its number; and no two requests have one number.
use Rattle.std.proofs.Common.{◌≡◌, ◌<◌, ℕ, ◌+◌, ◌++◌, Bool, true, false, Option, None, Some, List, [], ◌∷◌, refl, sym, subst, ◌∙◌, arith}
use Rattle.std.proofs.lemmas.Bool.Decides.{nat_tests}
use Rattle.std.specs.Prelude.{◌==◌, cond, filter, map, nat_lt}
use Rattle.std.specs.List.{find}
use Rattle.sc_value.specs.declared.ids.ReqId.{ReqId}
use Rattle.sc_value.specs.declared.ids.SessId.{SessId}
use Rattle.sc_value.specs.declared.message.Request.{Request}
use Rattle.sc_value.specs.Lists.{change_first}
use Rattle.sc_terms.specs.declared.views.RequestView.{RequestView}
use Rattle.sc_terms.specs.declared.views.View.{View}
use Rattle.sc_state.specs.declared.session.Kept.{Kept}
use Rattle.sc_state.specs.declared.session.Known.{Known}
use Rattle.sc_state.specs.declared.session.Session.{Session}
use Rattle.sc_state.specs.declared.session.Way.TheVariants.{Received}
use Rattle.sc_hosts.specs.Finishing.{lacks_final}
use Rattle.sc_hosts.specs.Looking.{is_request, same_request}
use Rattle.sc_hosts.specs.PreparingRequests.{next_id, with_received_request as received, request_view}
use Rattle.sc_hosts.specs.PreparingResponses.{insert_request}
use Rattle.sc_hosts.specs.ViewChanges.{view_with_answer as answered, answered_in, stands, tidy, with_answer, with_there}
use Rattle.sc_walked.specs.SessionWalks.{Each}
use Rattle.sc_walked.proofs.WalkParts.{each-first, each-map, if-is}
use Rattle.sc_lasting.specs.Lasting.{All}
use Rattle.sc_lasting.proofs.Parts.{all-append, all-each, all-filter, all-found, all-insert, all-map, received-holds, received_kept, received_view}

-- ## What is kept

-- the request of this number is kept as one that came
pub record IsKept (kepts : List Kept) (req : ReqId) : Type 0 where
  pub kept : Kept
  pub event : ℕ
  pub found : find (λ (k : Kept). same_request k.id req) kepts ≡ Some kept
  pub way : kept.way ≡ Received event

-- so it is of a received request that lacks its final response
unfoldable pub IsHeld : List Kept → RequestView → Type 0
IsHeld kepts r = r.received ≡ true → lacks_final r ≡ true → IsKept kepts r.id

-- and its number was drawn
abbrev pub IsFine : ℕ → List Kept → RequestView → Type 0
IsFine next kepts r = (r.id.0 < next) × IsHeld kepts r

abbrev pub IsBelow : ℕ → Kept → Type 0
IsBelow next kept = kept.id.0 < next

abbrev pub Differs : ReqId → RequestView → Type 0
Differs req q = (q.id.0 == req.0) ≡ false

-- no two have one number
unfoldable pub Apart : List RequestView → Type 0
Apart [] = Unit {0}
Apart (r ∷ rs) = All (Differs r.id) rs × Apart rs

-- so it is of all that a session shows and keeps
abbrev pub Holds : View → Known → Type 0
Holds view known = All (IsFine view.next_request known.kept) view.requests × Apart view.requests × All (IsBelow view.next_request) known.kept

-- ## Requests that go on

-- the same request, which lacks its final response only if it did
pub record IsAfter (before after : RequestView) : Type 0 where
  pub id : after.id ≡ before.id
  pub received : after.received ≡ true → before.received ≡ true
  pub owed : lacks_final after ≡ true → lacks_final before ≡ true

pub after-same : (r : RequestView) → IsAfter r r
after-same r = record { id = refl; received = λ is. is; owed = λ is. is }

pub after-answer : (code : ℕ) (r : RequestView) → IsAfter r (record r { answered = Some code })
unfolding lacks_final
after-answer code r = record { id = refl; received = λ is. is; owed = λ is. cc }

held-after : (kepts : List Kept) (r q : RequestView) → IsAfter r q → IsHeld kepts r → IsHeld kepts q
unfolding IsHeld
held-after kepts r q after held = λ received owed. subst (λ (req : ReqId). IsKept kepts req) (sym after.id) (held (after.received received) (after.owed owed))

fine-after : (next : ℕ) (kepts : List Kept) (r q : RequestView) → IsAfter r q → IsFine next kepts r → IsFine next kepts q
fine-after next kepts r q after fine = (rw (after.id) fine.0, held-after kepts r q after fine.1)

differs-id : (r q : RequestView) (rs : List RequestView) → q.id ≡ r.id → All (Differs r.id) rs → All (Differs q.id) rs
differs-id r q rs is all = subst (λ (req : ReqId). All (Differs req) rs) (sym is) all

apart-each : (rs qs : List RequestView) → Each IsAfter rs qs → Apart rs → Apart qs
unfolding Apart Each
apart-each [] [] each apart = tt
apart-each [] (q ∷ qs) each apart = absurd each
apart-each (r ∷ rs) [] each apart = absurd each
apart-each (r ∷ rs) (q ∷ qs) each apart = (
  all-each (Differs q.id) IsAfter rs qs (λ x y same d. rw (same.id) d) each.1 (differs-id r q rs each.0.id apart.0),
  apart-each rs qs each.1 apart.1,
)

apart-filter : (test : RequestView → Bool) (rs : List RequestView) → Apart rs → Apart (filter test rs)
unfolding Apart
apart-filter test [] apart = tt
apart-filter test (r ∷ rs) apart =
    if-is Apart (test r) (r ∷ filter test rs) (filter test rs) (all-filter (Differs r.id) test rs apart.0, apart-filter test rs apart.1) (apart-filter test rs apart.1)

-- where each request goes on
pub renewed : (v w : View) (k l : Known) → w.next_request ≡ v.next_request → l.kept ≡ k.kept → Each IsAfter v.requests w.requests → Holds v k → Holds w l
renewed v w k l next kept each ok = rw (next, kept) (
  all-each (IsFine v.next_request k.kept) IsAfter v.requests w.requests (fine-after v.next_request k.kept) each ok.0,
  apart-each v.requests w.requests each ok.1,
  ok.2,
)

-- where some are shown no more
pub dropped : (test : RequestView → Bool) (v : View) (k : Known) → Holds v k → Holds (record v { requests = filter test v.requests }) k
dropped test v k ok = (all-filter (IsFine v.next_request k.kept) test v.requests ok.0, apart-filter test v.requests ok.1, ok.2)

-- where only other things change
pub still : (v w : View) (k l : Known) → w.next_request ≡ v.next_request → w.requests ≡ v.requests → l.kept ≡ k.kept → Holds v k → Holds w l
still v w k l next requests kept ok = rw (next, requests, kept) ok

-- only the SipSessions are others
pub shown-holds : (v w : View) (k : Known) → w ≡ record v { sessions = w.sessions } → Holds v k → Holds w k
shown-holds v w k is ok = subst (λ (u : View). Holds u k) (sym is) ok

-- ## Answers

-- where other things of it change
pub unacked-after : (sessions : List SessId) (r : RequestView) → IsAfter r (record r { unacked = sessions })
unfolding lacks_final
unacked-after sessions r = record { id = refl; received = λ is. is; owed = λ is. is }

pub there-after : (view : View) (r : RequestView) → IsAfter r (with_there view r)
unfolding with_there lacks_final
there-after view r = record { id = refl; received = λ is. is; owed = λ is. is }

pub final-after : (code : ℕ) (r : RequestView) → IsAfter r (with_answer code r)
unfolding with_answer
final-after code r = if-is (IsAfter r) _ (record r { answered = Some code }) r (after-answer code r) (after-same r)

pub tidy-holds : (v : View) (k : Known) → Holds v k → Holds (tidy v) k
unfolding tidy
tidy-holds v k ok =
    let w : View = record v { requests = map (with_there v) v.requests } in
    dropped (stands v) w k (renewed v w k k refl refl (each-map IsAfter v.requests (with_there v) (there-after v)) ok)

pub changed-holds : (req : ReqId) (change : RequestView → RequestView) (v : View) (k : Known) → ((r : RequestView) → IsAfter r (change r)) → Holds v k
    → Holds (record v { requests = change_first (is_request req) change v.requests }) k
changed-holds req change v k each ok =
    renewed v (record v { requests = change_first (is_request req) change v.requests }) k k refl refl (each-first IsAfter v.requests (is_request req) change after-same each) ok

pub answered_in-holds : (sess : SessId) (request : RequestView) (tagged : Bool) (code : ℕ) (v : View) (k : Known) → Holds v k → Holds (answered_in sess request tagged code v) k
unfolding answered_in
answered_in-holds sess request tagged code v k ok = changed-holds request.id (with_answer code) v k (final-after code) ok

pub answered-holds : (request : Option RequestView) (code : ℕ) (v : View) (k : Known) → Holds v k → Holds (answered request code v) k
unfolding answered
answered-holds None code v k ok = ok
answered-holds (Some request) code v k ok = tidy-holds (answered_in request.sess request true code v) k (answered_in-holds request.sess request true code v k ok)

-- ## One more

own-drawn : (n : ℕ) → n < n + 1
own-drawn n = omega arith

more : (n m : ℕ) → n < m → n < m + 1
more n m less = omega (arith, less)

other-number : (a b n : ℕ) → b < n → a ≡ n → (a == b) ≡ false
other-number a b n less is = grind (arith, nat_tests, less, is)

not-next : (a n m : ℕ) → a < n → m ≡ n → (a == m) ≡ false
not-next a n m less is = grind (arith, nat_tests, less, is)

pub own-number : (a n : ℕ) → a ≡ n → (a == n) ≡ true
own-number a n is = grind (arith, nat_tests, is)

pub turned-round : (a b : ℕ) → (a == b) ≡ false → (b == a) ≡ false
turned-round a b is = grind (arith, nat_tests, is)

found-by : {A : Type 0} (b : Bool) (test : A → Bool) (y x : A) (xs more : List A) → cond b (Some y) (find test xs) ≡ Some x
    → (find test xs ≡ Some x → find test (xs ++ more) ≡ Some x) → cond b (Some y) (find test (xs ++ more)) ≡ Some x
found-by true test y x xs more is later = is
found-by false test y x xs more is later = later is

-- what is found first is found in a longer list
pub found-more : {A : Type 0} (test : A → Bool) (xs more : List A) (x : A) → find test xs ≡ Some x → find test (xs ++ more) ≡ Some x
found-more test [] more x is = cc
found-more test (y ∷ xs) more x is = found-by (test y) test y x xs more is (found-more test xs more x)

-- what is new is found under its number
pub found-new : (kepts : List Kept) (new : Kept) (next : ℕ) (req : ReqId) → All (IsBelow next) kepts → new.id.0 ≡ next → req.0 ≡ next
    → find (λ (k : Kept). same_request k.id req) (kepts ++ new ∷ []) ≡ Some new
unfolding All
found-new [] new next req below own is = rw (own-number new.id.0 req.0 (own ∙ sym is)) refl
found-new (k ∷ kepts) new next req below own is = rw (not-next k.id.0 next req.0 below.0 is) (found-new kepts new next req below.1 own is)

held-more : (kepts : List Kept) (new : Kept) (r : RequestView) → IsHeld kepts r → IsHeld (kepts ++ new ∷ []) r
unfolding IsHeld
held-more kepts new r held = λ received owed.
    let is : IsKept kepts r.id = held received owed in
    record { kept = is.kept; event = is.event; found = found-more (λ (k : Kept). same_request k.id r.id) kepts (new ∷ []) is.kept is.found; way = is.way }

-- one that is kept more
fine-more : (next : ℕ) (kepts : List Kept) (new : Kept) (r : RequestView) → IsFine next kepts r → IsFine (next + 1) (kepts ++ new ∷ []) r
fine-more next kepts new r fine = (more r.id.0 next fine.0, held-more kepts new r fine.1)

-- a number more
fine-next : (next : ℕ) (kepts : List Kept) (r : RequestView) → IsFine next kepts r → IsFine (next + 1) kepts r
fine-next next kepts r fine = (more r.id.0 next fine.0, fine.1)

apart-append : (rs : List RequestView) (new : RequestView) (next : ℕ) (kepts : List Kept) → All (IsFine next kepts) rs → new.id.0 ≡ next → Apart rs → Apart (rs ++ new ∷ [])
unfolding Apart All
apart-append [] new next kepts fine own apart = (tt, tt)
apart-append (r ∷ rs) new next kepts fine own apart =
    (all-append (Differs r.id) rs new apart.0 (other-number new.id.0 r.id.0 next fine.0.0 own), apart-append rs new next kepts fine.1 own apart.1)

-- a request more, and what is kept of it
pub appended : (v w : View) (k l : Known) (r : RequestView) (kept : Kept) → w.next_request ≡ v.next_request + 1 → w.requests ≡ v.requests ++ r ∷ []
    → l.kept ≡ k.kept ++ kept ∷ [] → r.id.0 ≡ v.next_request → kept.id.0 ≡ v.next_request → IsHeld (k.kept ++ kept ∷ []) r → Holds v k → Holds w l
appended v w k l r kept next requests kepts own number held ok = rw (next, requests, kepts) (
  all-append (IsFine (v.next_request + 1) (k.kept ++ kept ∷ [])) v.requests r
      (all-map (IsFine v.next_request k.kept) (IsFine (v.next_request + 1) (k.kept ++ kept ∷ [])) v.requests (fine-more v.next_request k.kept kept) ok.0) (rw own (own-drawn v.next_request), held),
  apart-append v.requests r v.next_request k.kept ok.0 own ok.1,
  all-append (IsBelow (v.next_request + 1)) k.kept kept (all-map (IsBelow v.next_request) (IsBelow (v.next_request + 1)) k.kept (λ one. more one.id.0 v.next_request) ok.2) (rw number (own-drawn v.next_request)),
)

-- a request more alone
pub appended-alone : (v w : View) (k : Known) (r : RequestView) → w.next_request ≡ v.next_request + 1 → w.requests ≡ v.requests ++ r ∷ []
    → r.id.0 ≡ v.next_request → IsHeld k.kept r → Holds v k → Holds w k
appended-alone v w k r next requests own held ok = rw (next, requests) (
  all-append (IsFine (v.next_request + 1) k.kept) v.requests r
      (all-map (IsFine v.next_request k.kept) (IsFine (v.next_request + 1) k.kept) v.requests (fine-next v.next_request k.kept) ok.0) (rw own (own-drawn v.next_request), held),
  apart-append v.requests r v.next_request k.kept ok.0 own ok.1,
  all-map (IsBelow v.next_request) (IsBelow (v.next_request + 1)) k.kept (λ one. more one.id.0 v.next_request) ok.2,
)

-- a number is drawn
pub numbered-holds : (v : View) (k : Known) → Holds v k → Holds (record v { next_request = v.next_request + 1 }) k
numbered-holds v k ok = (
  all-map (IsFine v.next_request k.kept) (IsFine (v.next_request + 1) k.kept) v.requests (fine-next v.next_request k.kept) ok.0,
  ok.1,
  all-map (IsBelow v.next_request) (IsBelow (v.next_request + 1)) k.kept (λ one. more one.id.0 v.next_request) ok.2,
)

-- one that was sent needs nothing
pub sent-held : (kepts : List Kept) (r : RequestView) → r.received ≡ false → IsHeld kepts r
unfolding IsHeld
sent-held kepts r sent = λ received owed. absurd (both r.received sent received)
  where
    both : (b : Bool) → b ≡ false → b ≡ true → ⊥
    both true p q = cc
    both false p q = cc

-- a request comes
new-held : (x : Session) (number : ℕ) (sess : SessId) (initial passed : Bool) (request : Request) → All (IsBelow x.view.next_request) x.known.kept
    → IsHeld (x.known.kept ++ received_kept x number sess request ∷ []) (request_view (next_id x) sess initial passed request)
unfolding IsHeld request_view
new-held x number sess initial passed request below = λ received owed. record {
  kept = received_kept x number sess request;
  event = number;
  found = found-new x.known.kept (received_kept x number sess request) x.view.next_request (next_id x) below refl refl;
  way = refl;
}

shown-number : (x : Session) (sess : SessId) (initial passed : Bool) (request : Request) → (request_view (next_id x) sess initial passed request).id.0 ≡ x.view.next_request
unfolding request_view
shown-number x sess initial passed request = refl

pub comes-holds : (x : Session) (number : ℕ) (sess : SessId) (initial passed : Bool) (request : Request) → Holds x.view x.known
    → Holds (received x number sess initial passed request).view (received x number sess initial passed request).known
comes-holds x number sess initial passed request ok = received-holds Holds x number sess initial passed request
    (λ invited. appended x.view (received_view x sess initial passed request) x.known (record x.known { kept = x.known.kept ++ received_kept x number sess request ∷ []; invited = invited }) (request_view (next_id x) sess initial passed request) (received_kept x number sess request) refl refl refl (shown-number x sess initial passed request) refl (new-held x number sess initial passed request ok.2) ok)

-- ## One that is shown again

differs-by : (b : Bool) (req : ReqId) (r : RequestView) (rs : List RequestView) → (r.id.0 == req.0) ≡ b → cond b (Some r) (find (is_request req) rs) ≡ None
    → (find (is_request req) rs ≡ None → All (Differs req) rs) → ((r.id.0 == req.0) ≡ false) × All (Differs req) rs
differs-by true req r rs is none later = cc
differs-by false req r rs is none later = (is, later none)

pub none-has : (req : ReqId) (rs : List RequestView) → find (is_request req) rs ≡ None → All (Differs req) rs
unfolding All
none-has req [] none = tt
none-has req (r ∷ rs) none = differs-by (r.id.0 == req.0) req r rs refl none (none-has req rs)

apart-insert : (request : RequestView) (rs : List RequestView) → All (Differs request.id) rs → Apart rs → Apart (insert_request request rs)
unfolding Apart insert_request All
apart-insert request [] other apart = (tt, tt)
apart-insert request (r ∷ rs) other apart =
    if-is Apart (nat_lt request.id.0 r.id.0) (request ∷ r ∷ rs) (r ∷ insert_request request rs) (other, apart)
    (all-insert (Differs r.id) request rs (turned-round r.id.0 request.id.0 other.0) apart.0, apart-insert request rs other.1 apart.1)

-- a sent request is shown again
pub again-holds : (request : RequestView) (v : View) (k : Known) → request.received ≡ false → request.id.0 < v.next_request → find (is_request request.id) v.requests ≡ None → Holds v k
    → Holds (record v { requests = insert_request request v.requests }) k
again-holds request v k sent less none ok = (
  all-insert (IsFine v.next_request k.kept) request v.requests (less, sent-held k.kept request sent) ok.0,
  apart-insert request v.requests (none-has request.id v.requests none) ok.1,
  ok.2,
)

-- ## What is found

-- a request that a view shows is the one under its number
same-some : {A : Type 0} (y x : A) → Some y ≡ Some x → y ≡ x
same-some y x is = cc

alone-by : (b : Bool) (test : RequestView → Bool) (r q : RequestView) (rs : List RequestView) → test q ≡ b → cond b (Some q) (find test rs) ≡ Some r
    → All (Differs q.id) rs → (find test rs ≡ Some r → find (is_request r.id) rs ≡ Some r) → find (is_request r.id) (q ∷ rs) ≡ Some r
alone-by true test r q rs has is apart later = rw (sym (same-some q r is), own-number q.id.0 q.id.0 refl) refl
alone-by false test r q rs has is apart later =
    rw (turned-round r.id.0 q.id.0 (all-found (Differs q.id) test rs r is apart)) (later is)

pub found-alone : (test : RequestView → Bool) (rs : List RequestView) (r : RequestView) → find test rs ≡ Some r → Apart rs → find (is_request r.id) rs ≡ Some r
unfolding Apart
found-alone test [] r is apart = cc
found-alone test (q ∷ rs) r is apart = alone-by (test q) test r q rs refl is apart.0 (λ later. found-alone test rs r later apart.1)
