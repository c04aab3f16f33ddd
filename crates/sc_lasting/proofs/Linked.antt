-- Links of SipSessions stay pairs, over a whole life.
use Rattle.std.proofs.Common.{suc, ◌≡◌, ◌≤◌, ℕ, ◌+◌, ◌++◌, Bool, true, false, Option, None, Some, List, [], ◌∷◌, refl, ap, sym, subst, ◌∙◌, arith}
use Rattle.std.proofs.lemmas.Bool.Decides.{nat_tests}
use Rattle.std.specs.Prelude.{cond, length, ◌==◌, ◌||◌, is_none, option_map, option_and_then}
use Rattle.std.specs.List.{find, list_any}
use Rattle.std.specs.Option.{option_map_or}
use Rattle.sc_value.specs.Lists.{change_first}
use Rattle.sc_value.specs.declared.ids.ReqId.{ReqId}
use Rattle.sc_value.specs.declared.ids.SessId.{SessId}
use Rattle.sc_value.specs.declared.parts.Uri.{Uri}
use Rattle.sc_terms.specs.declared.calls.Call.{Call}
use Rattle.sc_terms.specs.declared.calls.Call.TheVariants as calls
use Rattle.sc_terms.specs.declared.calls.Refusal.TheVariants.{NotYours, Invalidated}
use Rattle.sc_terms.specs.declared.settings.Config.{Config}
use Rattle.sc_terms.specs.declared.views.RequestView.{RequestView}
use Rattle.sc_terms.specs.declared.views.SessionView.{SessionView}
use Rattle.sc_terms.specs.declared.views.View.{View}
use Rattle.sc_state.specs.declared.queue.Queued.{Queued}
use Rattle.sc_state.specs.declared.session.Session.{Session}
use Rattle.sc_state.specs.declared.working.Play.{Play}
use Rattle.sc_tokens.specs.Bytes.{Bytes}
use Rattle.sc_hosts.specs.DerivedSessions.{derived_session}
use Rattle.sc_hosts.specs.Effects.{created_leg, view_with_targets as proxied, proxying, with_draft}
use Rattle.sc_hosts.specs.Histories.{History, session_of, session_after}
use Rattle.sc_hosts.specs.Legs.{fresh, first_view, first_session}
use Rattle.sc_hosts.specs.Looking.{is_session, is_gone, linked_to, partner, session_in, request_in, same_session, unlinked_from, without_link as unlinked, without_sip_session as removed}
use Rattle.sc_hosts.specs.RefusalParts.{name_refusal, sessions_in_call as named, known_session, session_of_request}
use Rattle.sc_hosts.specs.Refusals.{refusal, own_refusal, link_refusal, linked_refusal, b2b_refusal}
use Rattle.sc_hosts.specs.Sessions.{Turn}
use Rattle.sc_hosts.specs.ViewChanges.{with_link as linked, new_session, own_session, with_own_session}
use Rattle.sc_walked.specs.SessionWalks.{Each, IsMoved, SessionLaws}
use Rattle.sc_walked.proofs.WalkParts.{each-first, if-is}
use Rattle.sc_walked.proofs.WalkEnds.{life-keeps}
use Rattle.sc_lasting.specs.Lasting.{All, ArePaired}
use Rattle.sc_lasting.proofs.Parts.{all-append, all-map, all-each, all-first, all-found, each-weaker, unlinked-each, linked-each, received-holds}
use Rattle.sc_lasting.proofs.Began.{or-left, or-right, first-passed, test-found}
use Rattle.sc_lasting.proofs.Held.{lives-hold, any-life}
use Rattle.sc_lasting.proofs.Pairs.{AreMutual, SameLink, other, same-sess, set-none, other-each, other-more, pairs-same, set, part, part-pairs, made-pairs, not-both}

-- ## Numbers of SipSessions

SameId : SessionView → SessionView → Type 0
SameId s t = t.id.0 ≡ s.id.0

keep : (s : SessionView) → SameId s s
unfolding SameId
keep s = refl

trans : (r s t : SessionView) → SameId r s → SameId s t → SameId r t
unfolding SameId
trans r s t p q = q ∙ p

links : (link : Option SessId) (s : SessionView) → SameId s (linked_to link s)
unfolding SameId linked_to
links link s = refl

goes : (s : SessionView) → SameId s (record s { gone = true })
unfolding SameId
goes s = refl

pub each-length : {A : Type 0} (Same : A → A → Type 0) (xs ys : List A) → Each Same xs ys → length ys ≡ length xs
unfolding Each
each-length Same [] [] same = refl
each-length Same [] (y ∷ ys) same = absurd same
each-length Same (x ∷ xs) [] same = absurd same
each-length Same (x ∷ xs) (y ∷ ys) same = ap (λ (n : ℕ). suc n) (each-length Same xs ys same.1)

one-more : (a b : ℕ) → a ≡ b + 1 → suc a ≡ suc b + 1
one-more a b is = omega (arith, is)

pub more-length : {A : Type 0} (xs : List A) (y : A) → length (xs ++ y ∷ []) ≡ length xs + 1
more-length [] y = refl
more-length (x ∷ xs) y = one-more (length (xs ++ y ∷ [])) (length xs) (more-length xs y)

-- one that is gone has no link
unfoldable pub IsFreed : SessionView → Type 0
IsFreed session = session.gone ≡ true → session.linked ≡ None

abbrev pub Within : List SessionView → Type 0
Within xs = All (λ (s : SessionView). s.id.0 ≤ length xs) xs

abbrev pub AreLinked : List SessionView → Type 0
AreLinked xs = Within xs × AreMutual xs × All IsFreed xs

id-within : (n : ℕ) (s t : SessionView) → SameId s t → s.id.0 ≤ n → t.id.0 ≤ n
unfolding SameId
id-within n s t same less = rw (same) less

within-each : (xs ys : List SessionView) → Each SameId xs ys → Within xs → Within ys
within-each xs ys same all =
    subst (λ (n : ℕ). All (λ (s : SessionView). s.id.0 ≤ n) ys) (sym (each-length SameId xs ys same)) (all-each (λ (s : SessionView). s.id.0 ≤ length xs) SameId xs ys (id-within (length xs)) same all)

less-more : (a n m : ℕ) → m ≡ n + 1 → a ≤ n → a ≤ m
less-more a n m is less = omega (arith, is, less)

is-within : (a n m : ℕ) → m ≡ n + 1 → a ≡ n + 1 → a ≤ m
is-within a n m is own = omega (arith, is, own)

within-more : (xs : List SessionView) (new : SessionView) → new.id.0 ≡ length xs + 1 → Within xs
    → Within (xs ++ new ∷ [])
within-more xs new own all =
    all-append (λ (s : SessionView). s.id.0 ≤ length (xs ++ new ∷ [])) xs new
    (all-map (λ (s : SessionView). s.id.0 ≤ length xs) (λ (s : SessionView). s.id.0 ≤ length (xs ++ new ∷ [])) xs (λ s. less-more s.id.0 (length xs) (length (xs ++ new ∷ [])) (more-length xs new)) all)
    (is-within new.id.0 (length xs) (length (xs ++ new ∷ [])) (more-length xs new) own)

-- ## What is found

not-new : (a n k : ℕ) → a ≤ n → k ≡ n + 1 → (a == k) ≡ false
not-new a n k less is = grind (arith, nat_tests, less, is)

pub none-new : (xs : List SessionView) (n : ℕ) (k : SessId) → k.0 ≡ n + 1 → All (λ (s : SessionView). s.id.0 ≤ n) xs
    → find (is_session k) xs ≡ None
unfolding All
none-new [] n k is all = refl
none-new (x ∷ xs) n k is all = rw (not-new x.id.0 n k.0 all.0 is) (none-new xs n k is all.1)

pub find-more : (xs : List SessionView) (new s : SessionView) (k : SessId) → find (is_session k) xs ≡ Some s
    → find (is_session k) (xs ++ new ∷ []) ≡ Some s
find-more [] new s k is = cc
find-more (x ∷ xs) new s k is = by-test (x.id.0 == k.0) is (find-more xs new s k)
  where
    by-test : (b : Bool) → cond b (Some x) (find (is_session k) xs) ≡ Some s
        → (find (is_session k) xs ≡ Some s → find (is_session k) (xs ++ new ∷ []) ≡ Some s)
        → cond b (Some x) (find (is_session k) (xs ++ new ∷ [])) ≡ Some s
    by-test true is later = is
    by-test false is later = later is

find-new : (xs : List SessionView) (new : SessionView) (k : SessId) → (new.id.0 == k.0) ≡ true
    → find (is_session k) xs ≡ None → find (is_session k) (xs ++ new ∷ []) ≡ Some new
find-new [] new k own is = rw (own) refl
find-new (x ∷ xs) new k own is = by-test (x.id.0 == k.0) is (find-new xs new k own)
  where
    by-test : (b : Bool) → cond b (Some x) (find (is_session k) xs) ≡ None
        → (find (is_session k) xs ≡ None → find (is_session k) (xs ++ new ∷ []) ≡ Some new)
        → cond b (Some x) (find (is_session k) (xs ++ new ∷ [])) ≡ Some new
    by-test true is later = cc
    by-test false is later = later is

-- another SipSession's link is set
pub find-set : (a b : SessId) (link : Option SessId) (xs : List SessionView) → (b.0 == a.0) ≡ false
    → find (is_session a) (set b link xs) ≡ find (is_session a) xs
unfolding set change_first linked_to
find-set a b link [] not = refl
find-set a b link (s ∷ xs) not = by-test (s.id.0 == b.0) (s.id.0 == a.0) refl refl (find-set a b link xs not)
  where
    by-test : (at here : Bool) → (s.id.0 == b.0) ≡ at → (s.id.0 == a.0) ≡ here
        → find (is_session a) (set b link xs) ≡ find (is_session a) xs
        → find (is_session a) (set b link (s ∷ xs)) ≡ find (is_session a) (s ∷ xs)
    by-test true true is has later = absurd (not-both s.id.0 b.0 a.0 is has not)
    by-test true false is has later = rw (is, has) refl
    by-test false true is has later = rw (is, has) refl
    by-test false false is has later = rw (is, has) later

-- ## What accepted calls say

if-none : {A : Type 0} (b : Bool) (r : A) (x : Option A) → cond b (Some r) x ≡ None → (b ≡ false) × (x ≡ None)
if-none true r x is = cc
if-none false r x is = (refl, is)

or-false : (a b : Bool) → (a || b) ≡ false → (a ≡ false) × (b ≡ false)
or-false true b is = cc
or-false false b is = (refl, is)

pub link-names : (view : View) (x y : Option SessId) → name_refusal view (x ∷ y ∷ []) ≡ None
    → (is_none x ≡ false) × (is_none y ≡ false)
unfolding name_refusal
link-names view x y is =
    let one = (if-none (list_any is_none (x ∷ y ∷ [])) NotYours _ is).0 in
    let two = or-false (is_none x) (list_any is_none (y ∷ [])) one in
    (two.0, (or-false (is_none y) false two.1).0)

there-name : (view : View) (sess : SessId) → name_refusal view (Some sess ∷ []) ≡ None
    → is_gone (session_in view sess) ≡ false
unfolding name_refusal
there-name view sess is =
    let one = (if-none (list_any is_none (Some sess ∷ [])) NotYours _ is).1 in
    let two = (if-none (list_any (λ name. option_map_or (λ (s : SessId). is_gone (session_in view s)) name true) (Some sess ∷ [])) Invalidated _ one).0 in
    (or-false (is_gone (session_in view sess)) false two).0

-- two SipSessions that are named are there
names-stay : (view : View) (a b : SessId) → name_refusal view (Some a ∷ Some b ∷ []) ≡ None
    → (is_gone (session_in view a) ≡ false) × (is_gone (session_in view b) ≡ false)
unfolding name_refusal
names-stay view a b is =
    let one = (if-none (list_any is_none (Some a ∷ Some b ∷ [])) NotYours _ is).1 in
    let two = (if-none (list_any (λ name. option_map_or (λ (s : SessId). is_gone (session_in view s)) name true) (Some a ∷ Some b ∷ [])) Invalidated _ one).0 in
    let three = or-false (is_gone (session_in view a)) _ two in
    (three.0, (or-false (is_gone (session_in view b)) false three.1).0)

pub found-name : (view : View) (a : SessId) (s : SessionView) → session_in view a ≡ Some s → s.id ≡ a
found-name view a s found = same-sess s.id a (test-found (is_session a) view.sessions s found)

pub gone-name : (view : View) (a b : SessId) (s : SessionView) → session_in view a ≡ Some s → s.id ≡ a
    → is_gone (session_in view s.id) ≡ false → is_gone (Some s) ≡ false
gone-name view a b s found same there = subst (λ (x : Option SessionView). is_gone x ≡ false) found (subst (λ (c : SessId). is_gone (session_in view c) ≡ false) same there)

links-stay : (view : View) (a b : SessId) (one two : Option SessionView) → session_in view a ≡ one
    → session_in view b ≡ two
    → name_refusal view (option_map (λ (s : SessionView). s.id) one ∷ option_map (λ (s : SessionView). s.id) two ∷ []) ≡ None
    → (is_gone one ≡ false) × (is_gone two ≡ false)
links-stay view a b None two here there is = absurd (clash (link-names view None (option_map (λ (s : SessionView). s.id) two) is).0)
  where
    clash : true ≡ false → ⊥
    clash is = cc
links-stay view a b (Some one) None here there is = absurd (clash (link-names view (Some one.id) None is).1)
  where
    clash : true ≡ false → ⊥
    clash is = cc
links-stay view a b (Some one) (Some two) here there is =
    let stay = names-stay view one.id two.id is in
    (gone-name view a b one here (found-name view a one here) stay.0, gone-name view b a two there (found-name view b two there) stay.1)

no-link : (x : Option SessId) → linked_refusal x ≡ None → x ≡ None
unfolding linked_refusal
no-link None is = refl
no-link (Some b) is = cc

accepted-names : (play : Play) (a b : SessId) → refusal play (calls.Link a b) ≡ None
    → name_refusal play.view (known_session play a ∷ known_session play b ∷ []) ≡ None
unfolding refusal named
accepted-names play a b is = or-left _ _ (or-right _ _ is)

pub accepted-link : (play : Play) (a b : SessId) → refusal play (calls.Link a b) ≡ None
    → link_refusal play.view a b ≡ None
unfolding refusal own_refusal
accepted-link play a b is = or-right _ _ (or-right _ _ is)

link-apart : (view : View) (a b : SessId) → link_refusal view a b ≡ None → (a.0 == b.0) ≡ false
unfolding link_refusal
link-apart view a b is = (first-passed (same_session a b) _ _ (or-left _ _ is)).0

pub link-free : (view : View) (a b : SessId) → link_refusal view a b ≡ None
    → (partner view a ≡ None) × (partner view b ≡ None)
unfolding link_refusal
link-free view a b is = (no-link (partner view a) (or-left _ _ (or-right _ _ is)), no-link (partner view b) (or-right _ _ (or-right _ _ is)))

leg-names : (play : Play) (req : ReqId) (uri : Option Uri) (request : RequestView)
    → refusal play (calls.B2bCreate req uri) ≡ None → request_in play.view req ≡ Some request
    → name_refusal play.view (Some request.sess ∷ []) ≡ None
unfolding refusal named session_of_request
leg-names play req uri request is found =
    subst (λ (r : Option RequestView). name_refusal play.view (option_map (λ (request : RequestView). request.sess) r ∷ []) ≡ None) found (or-left _ _ (or-right _ _ is))

pub leg-free : (play : Play) (req : ReqId) (uri : Option Uri) (request : RequestView)
    → refusal play (calls.B2bCreate req uri) ≡ None → request_in play.view req ≡ Some request
    → partner play.view request.sess ≡ None
unfolding refusal own_refusal b2b_refusal
leg-free play req uri request is found =
    no-link (partner play.view request.sess) (or-left _ _ (or-right _ _ (subst (λ (r : Option RequestView). b2b_refusal play r ≡ None) found (or-right _ _ (or-right _ _ is)))))

-- ## Each change

SameBoth : SessionView → SessionView → Type 0
SameBoth s t = SameLink s t

pub moved-link : (s t : SessionView) → IsMoved s t → SameLink s t
moved-link s t same = record { id = same.id; linked = same.linked; gone = same.gone }

moved-id : (s t : SessionView) → IsMoved s t → SameId s t
unfolding SameId
moved-id s t same = ap (λ (id : SessId). id.0) same.id

link-id : (s t : SessionView) → SameLink s t → SameId s t
unfolding SameId
link-id s t same = ap (λ (id : SessId). id.0) same.id

same-freed : (s t : SessionView) → SameLink s t → IsFreed s → IsFreed t
unfolding IsFreed
same-freed s t same free = λ gone. same.linked ∙ free (sym same.gone ∙ gone)

freed-none : (s : SessionView) → IsFreed s → s.gone ≡ true → s.linked ≡ None
unfolding IsFreed
freed-none s free gone = free gone

bare-freed : (s : SessionView) → s.linked ≡ None → IsFreed s
unfolding IsFreed
bare-freed s none = λ gone. none

there-freed : (s : SessionView) → s.gone ≡ false → IsFreed s
unfolding IsFreed
there-freed s there = λ gone. absurd (clash s.gone gone there)
  where
    clash : (b : Bool) → b ≡ true → b ≡ false → ⊥
    clash b p q = cc

-- numbers and links as they were
pub same-links : (xs ys : List SessionView) → Each SameLink xs ys → AreLinked xs → AreLinked ys
same-links xs ys same ok = (
  within-each xs ys (each-weaker SameLink SameId xs ys link-id same) ok.0,
  pairs-same xs ys (λ c. other-each xs ys c same) ok.1,
  all-each IsFreed SameLink xs ys same-freed same ok.2,
)

more-links : (xs : List SessionView) (new : SessionView) → new.id.0 ≡ length xs + 1 → new.linked ≡ None → AreLinked xs
    → AreLinked (xs ++ new ∷ [])
more-links xs new own none ok = (within-more xs new own ok.0, pairs-same xs (xs ++ new ∷ []) (λ c. other-more xs new c none) ok.1, all-append IsFreed xs new ok.2 (bare-freed new none))

from-part : (view : View) (sess : SessId) (was : Option SessId)
    → change_first (is_session sess) (linked_to None) (unlinked_from was view).sessions ≡ part sess was view.sessions
unfolding unlinked_from part set
from-part view sess None = refl
from-part view sess (Some b) = refl

pub unlinked-part : (view : View) (sess : SessId)
    → (unlinked sess view).sessions ≡ part sess (other view.sessions sess) view.sessions
unfolding unlinked partner other
unlinked-part view sess = from-part view sess (partner view sess)

part-freed : (xs : List SessionView) (sess : SessId) (was : Option SessId) → All IsFreed xs
    → All IsFreed (part sess was xs)
unfolding part set linked_to
part-freed xs sess None all = all-first IsFreed (is_session sess) (linked_to None) xs (λ s found free. bare-freed (linked_to None s) refl) all
part-freed xs sess (Some b) all =
    all-first IsFreed (is_session sess) (linked_to None) (set b None xs) (λ s found free. bare-freed (linked_to None s) refl)
    (all-first IsFreed (is_session b) (linked_to None) xs (λ s found free. bare-freed (linked_to None s) refl) all)

unlinks-linked : (view : View) (sess : SessId) → AreLinked view.sessions → AreLinked (unlinked sess view).sessions
unlinks-linked view sess ok = (
  within-each view.sessions (unlinked sess view).sessions (unlinked-each SameId keep trans links goes sess view) ok.0,
  subst (λ (xs : List SessionView). AreMutual xs) (sym (unlinked-part view sess)) (part-pairs view.sessions sess (other view.sessions sess) refl ok.1),
  subst (λ (xs : List SessionView). All IsFreed xs) (sym (unlinked-part view sess)) (part-freed view.sessions sess (other view.sessions sess) ok.2),
)

pub own-link : (s : SessionView) → SameLink s s
own-link s = record { id = refl; linked = refl; gone = refl }

-- a SipSession goes, which has no link
part-none : (xs : List SessionView) (sess : SessId) (was : Option SessId) → other (part sess was xs) sess ≡ None
unfolding part
part-none xs sess None = set-none sess xs
part-none xs sess (Some b) = set-none sess (set b None xs)

found-none : (xs : List SessionView) (sess : SessId) (s : SessionView) → other xs sess ≡ None
    → find (is_session sess) xs ≡ Some s → s.linked ≡ None
unfolding other
found-none xs sess s none found = sym (ap (option_and_then (λ (session : SessionView). session.linked)) found) ∙ none

pub goes-other : (xs : List SessionView) (sess c : SessId)
    → other (change_first (is_session sess) (λ s. record s { gone = true }) xs) c ≡ other xs c
unfolding other change_first
goes-other [] sess c = refl
goes-other (x ∷ xs) sess c = by-test (x.id.0 == sess.0) (x.id.0 == c.0) refl refl (goes-other xs sess c)
  where
    by-test : (at here : Bool) → (x.id.0 == sess.0) ≡ at → (x.id.0 == c.0) ≡ here
        → other (change_first (is_session sess) (λ s. record s { gone = true }) xs) c ≡ other xs c
        → other (change_first (is_session sess) (λ s. record s { gone = true }) (x ∷ xs)) c ≡ other (x ∷ xs) c
    by-test true true is has later = rw (is, has) refl
    by-test true false is has later = rw (is, has) refl
    by-test false true is has later = rw (is, has) refl
    by-test false false is has later = rw (is, has) later

goes-linked : (xs : List SessionView) (sess : SessId) → other xs sess ≡ None → AreLinked xs
    → AreLinked (change_first (is_session sess) (λ s. record s { gone = true }) xs)
goes-linked xs sess none ok = (
  within-each xs _ (each-first SameId xs (is_session sess) (λ s. record s { gone = true }) keep goes) ok.0,
  pairs-same xs _ (goes-other xs sess) ok.1,
  all-first IsFreed (is_session sess) (λ s. record s { gone = true }) xs (λ s found free. bare-freed (record s { gone = true }) (found-none xs sess s none found)) ok.2,
)

removes-linked : (view : View) (sess : SessId) → AreLinked view.sessions → AreLinked (removed sess view).sessions
unfolding removed
removes-linked view sess ok =
    goes-linked (unlinked sess view).sessions sess (ap (λ (xs : List SessionView). other xs sess) (unlinked-part view sess) ∙ part-none view.sessions sess (other view.sessions sess))
    (unlinks-linked view sess ok)

pub proxying-link : (s : SessionView) → SameLink s (proxying s)
unfolding proxying
proxying-link s = if-is (SameLink s) _ s _ (own-link s) (record { id = refl; linked = refl; gone = refl })

turns-linked : (request : Option RequestView) (count : ℕ) (view : View) → AreLinked view.sessions
    → AreLinked (proxied request count view).sessions
unfolding proxied
turns-linked None count view ok = ok
turns-linked (Some request) count view ok = same-links view.sessions _ (each-first SameLink view.sessions (is_session request.sess) proxying own-link proxying-link) ok

-- two that are there, free and not the same
makes-linked : (view : View) (a b : SessId) (one two : SessionView) → (a.0 == b.0) ≡ false
    → find (is_session a) view.sessions ≡ Some one → find (is_session b) view.sessions ≡ Some two → one.gone ≡ false
    → two.gone ≡ false
    → other view.sessions a ≡ None → other view.sessions b ≡ None → AreLinked view.sessions
    → AreLinked (linked a b view).sessions
unfolding linked set linked_to
makes-linked view a b one two apart here there stays stays-too free open-too ok = (
  within-each view.sessions (linked a b view).sessions (linked-each SameId keep trans links goes a b view) ok.0,
  made-pairs view.sessions a b one two apart (find-set a b (Some a) view.sessions (turn a.0 b.0 apart) ∙ here) there free open-too ok.1,
  all-first IsFreed (is_session a) (linked_to (Some b)) (set b (Some a) view.sessions)
      (λ s found was. there-freed (linked_to (Some b) s) (there-same one s stays (sym (find-set a b (Some a) view.sessions (turn a.0 b.0 apart) ∙ here) ∙ found)))
      (all-first IsFreed (is_session b) (linked_to (Some a)) view.sessions (λ s found was. there-freed (linked_to (Some a) s) (there-same two s stays-too (sym there ∙ found))) ok.2),
)
  where
    turn : (a b : ℕ) → (a == b) ≡ false → (b == a) ≡ false
    turn a b is = grind (arith, nat_tests, is)

    there-same : (s t : SessionView) → s.gone ≡ false → Some s ≡ Some t → t.gone ≡ false
    there-same s t is same = cc

links-there : (view : View) (a b : SessId) (one two : Option SessionView) → session_in view a ≡ one
    → session_in view b ≡ two → is_none (option_map (λ (s : SessionView). s.id) one) ≡ false
    → is_none (option_map (λ (s : SessionView). s.id) two) ≡ false
    → is_gone one ≡ false → is_gone two ≡ false → (a.0 == b.0) ≡ false → other view.sessions a ≡ None
    → other view.sessions b ≡ None → AreLinked view.sessions → AreLinked (linked a b view).sessions
unfolding is_gone
links-there view a b None two here there p q stays stays-too apart free open-too ok = cc
links-there view a b (Some one) None here there p q stays stays-too apart free open-too ok = cc
links-there view a b (Some one) (Some two) here there p q stays stays-too apart free open-too ok = makes-linked view a b one two apart here there stays stays-too free open-too ok

pub links-linked : (play : Play) (a b : SessId) → refusal play (calls.Link a b) ≡ None → AreLinked play.view.sessions
    → AreLinked (linked a b play.view).sessions
unfolding known_session partner other
links-linked play a b is ok =
    let names = link-names play.view (known_session play a) (known_session play b) (accepted-names play a b is) in
    let stays = links-stay play.view a b _ _ refl refl (accepted-names play a b is) in
    let free = link-free play.view a b (accepted-link play a b is) in
    links-there play.view a b _ _ refl refl names.0 names.1 stays.0 stays.1 (link-apart play.view a b (accepted-link play a b is)) free.0 free.1 ok

number-own : (a : ℕ) → (a == a) ≡ true
number-own a = grind (arith, nat_tests)

pub own-id : (view : View) → (own_session view).id.0 ≡ length view.sessions + 1
unfolding own_session
own-id view = refl

pub own-none : (view : View) → (own_session view).linked ≡ None
unfolding own_session
own-none view = refl

own-there : (view : View) → (own_session view).gone ≡ false
unfolding own_session
own-there view = refl

derived-id : (view : View) (original : SessionView) (tag : Bytes)
    → (derived_session view original tag).id.0 ≡ length view.sessions + 1
unfolding derived_session
derived-id view original tag = refl

pub derived-none : (view : View) (original : SessionView) (tag : Bytes)
    → (derived_session view original tag).linked ≡ None
unfolding derived_session
derived-none view original tag = refl

begins-linked : (view : View) → AreLinked view.sessions → AreLinked (with_own_session view).sessions
unfolding with_own_session
begins-linked view ok = more-links view.sessions (own_session view) (own-id view) (own-none view) ok

none-linked : (xs : List SessionView) (k : SessId) → find (is_session k) xs ≡ None → other xs k ≡ None
unfolding other
none-linked xs k is = rw (is) refl

pub new-free : (xs : List SessionView) (n : ℕ) (k : SessId) → k.0 ≡ n + 1 → All (λ (s : SessionView). s.id.0 ≤ n) xs
    → other xs k ≡ None
new-free xs n k is all = none-linked xs k (none-new xs n k is all)

own-test : (view : View) → ((own_session view).id.0 == (new_session view).0) ≡ true
unfolding own_session
own-test view = number-own (length view.sessions + 1)

clash : (x : Option SessionView) (s : SessionView) → x ≡ Some s → x ≡ None → ⊥
clash x s p q = cc

-- a number that is there is no new one
old-number : (xs : List SessionView) (n : ℕ) (a k : SessId) (s : SessionView) → k.0 ≡ n + 1
    → All (λ (s : SessionView). s.id.0 ≤ n) xs → find (is_session a) xs ≡ Some s → (t : Bool) → (a.0 == k.0) ≡ t
    → (a.0 == k.0) ≡ false
old-number xs n a k s is all here false test = test
old-number xs n a k s is all here true test = absurd (clash (find (is_session k) xs) s (subst (λ (e : SessId). find (is_session e) xs ≡ Some s) (same-sess a k test) here) (none-new xs n k is all))

leg-there : (view : View) (a : SessId) (s : Option SessionView) → session_in view a ≡ s → is_gone s ≡ false
    → other view.sessions a ≡ None → AreLinked view.sessions
    → AreLinked (linked a (new_session view) (with_own_session view)).sessions
unfolding is_gone with_own_session
leg-there view a None here there free ok = cc
leg-there view a (Some s) here there free ok =
    let xs = view.sessions in
    let new = own_session view in
    makes-linked (with_own_session view) a (new_session view) s new (old-number xs (length xs) a (new_session view) s refl ok.0 here _ refl) (find-more xs new s a here)
    (find-new xs new (new_session view) (own-test view) (none-new xs (length xs) (new_session view) refl ok.0)) there (own-there view)
    (other-more xs new a (own-none view) ∙ free) (other-more xs new (new_session view) (own-none view) ∙ new-free xs (length xs) (new_session view) refl ok.0) (begins-linked view ok)

pub leg-linked : (play : Play) (req : ReqId) (uri : Option Uri) (request : Option RequestView)
    → refusal play (calls.B2bCreate req uri) ≡ None → request_in play.view req ≡ request → AreLinked play.view.sessions
    → AreLinked (created_leg request play).view.sessions
unfolding created_leg with_draft partner other
leg-linked play req uri None is found ok = ok
leg-linked play req uri (Some request) is found ok =
    leg-there play.view request.sess _ refl (there-name play.view request.sess (leg-names play req uri request is found)) (leg-free play req uri request is found) ok

pub linked-law : (event : Queued) (Does : Call → Type 0)
    → SessionLaws event Does (λ x y. AreLinked x.view.sessions → AreLinked y.view.sessions)
linked-law event Does = record {
  same = λ x ok. ok;
  after = λ x y z p q ok. q (p ok);
  dates = λ x now ok. ok;
  expires = λ x due ok. ok;
  flags = λ x flag ok. ok;
  times = λ x timers next ok. ok;
  attributes = λ x fields ok. ok;
  counts = λ x ok. ok;
  numbers = λ x ok. ok;
  moves = λ x sessions same ok. same-links x.view.sessions sessions (each-weaker IsMoved SameLink x.view.sessions sessions moved-link same) ok;
  renews = λ x requests same ok. ok;
  drops = λ x test ok. ok;
  same_legs = λ x legs same ok. ok;
  same_proxies = λ x all same ok. ok;
  forgets = λ x test ok. ok;
  unlinks = λ x sess does ok. unlinks-linked x.view sess ok;
  removes = λ x sess ok. removes-linked x.view sess ok;
  receives = λ x number sess initial passed request brings ok. received-holds (λ v k. AreLinked v.sessions) x number sess initial passed request (λ invited. ok);
  shows = λ x request again ok. ok;
  sends = λ x draft request ok. ok;
  sends_none = λ x draft ok. ok;
  begins = λ x ok. begins-linked x.view ok;
  derives = λ x req sess original came tag is ok. more-links x.view.sessions (derived_session x.view original tag) (derived-id x.view original tag) (derived-none x.view original tag) ok;
  begins_leg = λ play known req uri request kept is does found has ok. leg-linked play req uri request is found ok;
  links = λ play known a b is does ok. links-linked play a b is ok;
  turns = λ play known req uris how request is does found ok. turns-linked request _ play.view ok;
  passes = λ x req kept is ok. ok;
}

pub first-linked : (session : SessionView) → session.id.0 ≡ 1 → session.linked ≡ None → AreLinked (session ∷ [])
unfolding All other
first-linked session own none = more-links [] session own none (tt, record { paired = λ a b is. cc; apart = λ a b is. cc }, tt)

abbrev Linked : Session → Type 0
Linked session = AreLinked session.view.sessions

-- one that is linked is there
linked-there : (xs : List SessionView) (a b : SessId) (found : Option SessionView) → find (is_session a) xs ≡ found
    → other xs a ≡ Some b → All IsFreed xs → is_gone found ≡ false
unfolding other is_gone
linked-there xs a b None found is all = absurd (unlinked-none (ap (option_and_then (λ (session : SessionView). session.linked)) found) is)
  where
    unlinked-none : {x : Option SessId} → x ≡ None → x ≡ Some b → ⊥
    unlinked-none p q = cc
linked-there xs a b (Some s) found is all = by-gone s.gone refl
  where
    both : (x : Option SessId) → x ≡ None → x ≡ Some b → ⊥
    both x p q = cc

    by-gone : (t : Bool) → s.gone ≡ t → t ≡ false
    by-gone false was = refl
    by-gone true was = absurd (both s.linked (freed-none s (all-found IsFreed (is_session a) xs s found all) was) (sym (ap (option_and_then (λ (session : SessionView). session.linked)) found) ∙ is))

-- after any turns
pub links-hold : (config : Config) (history : History) (turns : List Turn)
    → AreLinked (session_after config history turns).view.sessions
unfolding fresh first_view first_session
links-hold config history turns =
    lives-hold turns (λ event. Unit {0}) (λ call. Unit {0}) Linked config history (λ event good. linked-law event (λ call. Unit {0})) (any-life turns config history) (first-linked _ refl refl)

-- links are pairs, whatever was called
pub links-are-pairs : (config : Config) (history : History) → ArePaired (session_of config history).view
unfolding fresh first_view first_session partner other
links-are-pairs config history =
    let ok = life-keeps Linked config history (λ event. linked-law event (λ call. Unit {0})) (first-linked _ refl refl) in record {
      paired = ok.1.paired;
      apart = ok.1.apart;
      there = λ a b is. linked-there (session_of config history).view.sessions a b _ refl is ok.2;
    }
