-- All items of a list; SipSessions that go, or their links; a request that comes.
use Rattle.std.proofs.Common.{◌≡◌, ℕ, ◌++◌, Bool, true, false, Option, None, Some, List, [], ◌∷◌, refl, ap, subst}
use Rattle.std.specs.Prelude.{cond, filter, nat_lt}
use Rattle.std.specs.List.{find, flat_map}
use Rattle.sc_tokens.specs.Names.{same_bytes}
use Rattle.sc_value.specs.declared.ids.SessId.{SessId}
use Rattle.sc_value.specs.declared.message.Request.{Request}
use Rattle.sc_value.specs.Lists.{change_first, remove_first}
use Rattle.sc_terms.specs.declared.views.RequestView.{RequestView}
use Rattle.sc_terms.specs.declared.views.SessionView.{SessionView}
use Rattle.sc_terms.specs.declared.views.View.{View}
use Rattle.sc_state.specs.declared.session.Kept.{Kept}
use Rattle.sc_state.specs.declared.session.Known.{Known}
use Rattle.sc_state.specs.declared.session.Invited.{Invited}
use Rattle.sc_state.specs.declared.session.Session.{Session}
use Rattle.sc_state.specs.declared.session.Way.TheVariants.{Received}
use Rattle.sc_model.specs.SessionStates.{invite}
use Rattle.sc_hosts.specs.Looking.{is_session, partner, unlinked_from, without_link as unlinked, without_sip_session as removed, linked_to}
use Rattle.sc_hosts.specs.PreparingRequests.{next_id, with_number_used as numbered, with_received_request as received, request_view, with_invited}
use Rattle.sc_hosts.specs.PreparingResponses.{insert_request}
use Rattle.sc_hosts.specs.ViewChanges.{with_link as linked}
use Rattle.sc_walked.specs.SessionWalks.{Each}
use Rattle.sc_walked.proofs.WalkParts.{each-first, each-same, if-is}
use Rattle.sc_lasting.specs.Lasting.{All}

pub all-append : {A : Type 0} (P : A → Type 0) (xs : List A) (x : A) → All P xs → P x → All P (xs ++ x ∷ [])
unfolding All
all-append P [] x all one = (one, tt)
all-append P (y ∷ xs) x all one = (all.0, all-append P xs x all.1 one)

if-all : {A : Type 0} (P : A → Type 0) (b : Bool) (y : A) (ys : List A) → P y → All P ys → All P (cond b (y ∷ ys) ys)
unfolding All
if-all P true y ys p q = (p, q)
if-all P false y ys p q = q

pub all-filter : {A : Type 0} (P : A → Type 0) (test : A → Bool) (xs : List A) → All P xs → All P (filter test xs)
unfolding All
all-filter P test [] all = tt
all-filter P test (x ∷ xs) all = if-all P (test x) x (filter test xs) all.0 (all-filter P test xs all.1)

pub all-map : {A : Type 0} (P R : A → Type 0) (xs : List A) → ((x : A) → P x → R x) → All P xs → All R xs
unfolding All
all-map P R [] each all = tt
all-map P R (x ∷ xs) each all = (each x all.0, all-map P R xs each all.1)

-- two lists behind each other
pub all-both : {A : Type 0} (P : A → Type 0) (xs ys : List A) → All P xs → All P ys → All P (xs ++ ys)
unfolding All
all-both P [] ys p q = q
all-both P (x ∷ xs) ys p q = (p.0, all-both P xs ys p.1 q)

-- what each item gives
pub all-flat : {A B : Type 0} (P : B → Type 0) (items : List A) (give : A → List B) → ((a : A) → All P (give a)) → All P (flat_map give items)
unfolding All
all-flat P [] give each = tt
all-flat P (a ∷ items) give each = all-both P (give a) (flat_map give items) (each a) (all-flat P items give each)

-- the first that passes a test is left out
pub all-removed : {A : Type 0} (P : A → Type 0) (test : A → Bool) (xs : List A) → All P xs → All P (remove_first test xs)
unfolding All remove_first
all-removed P test [] all = tt
all-removed P test (x ∷ xs) all = by (test x) (all-removed P test xs all.1)
  where
    by : (b : Bool) → All P (remove_first test xs) → All P (cond b xs (x ∷ remove_first test xs))
    by true later = all.1
    by false later = (all.0, later)

-- what passes from item to item
pub all-each : {A : Type 0} (P : A → Type 0) (Same : A → A → Type 0) (xs ys : List A)
    → ((x y : A) → Same x y → P x → P y) → Each Same xs ys → All P xs → All P ys
unfolding All Each
all-each P Same [] [] each same all = tt
all-each P Same [] (y ∷ ys) each same all = absurd same
all-each P Same (x ∷ xs) [] each same all = absurd same
all-each P Same (x ∷ xs) (y ∷ ys) each same all = (each x y same.0 all.0, all-each P Same xs ys each same.1 all.1)

-- what is found is one of them
some-is : {A : Type 0} (y x : A) → Some y ≡ Some x → y ≡ x
some-is y x is = cc

found-if : {A : Type 0} (P : A → Type 0) (b : Bool) (y : A) (xs : List A) (x : A) (test : A → Bool)
    → cond b (Some y) (find test xs) ≡ Some x → P y → (find test xs ≡ Some x → P x) → P x
found-if P true y xs x test is here later = subst P (some-is y x is) here
found-if P false y xs x test is here later = later is

pub all-found : {A : Type 0} (P : A → Type 0) (test : A → Bool) (xs : List A) (x : A) → find test xs ≡ Some x → All P xs
    → P x
unfolding All
all-found P test [] x is all = cc
all-found P test (y ∷ xs) x is all = found-if P (test y) y xs x test is all.0 (λ later. all-found P test xs x later all.1)

-- a request is put among the others
pub all-insert : (P : RequestView → Type 0) (request : RequestView) (requests : List RequestView) → P request
    → All P requests → All P (insert_request request requests)
unfolding All insert_request
all-insert P request [] one all = (one, tt)
all-insert P request (other ∷ others) one all =
    if-is (All P) (nat_lt request.id.0 other.id.0) (request ∷ other ∷ others) (other ∷ insert_request request others) (one, all) (all.0, all-insert P request others one all.1)

-- the first that passes a test is changed
pub all-first : {A : Type 0} (P : A → Type 0) (test : A → Bool) (change : A → A) (xs : List A)
    → ((x : A) → find test xs ≡ Some x → P x → P (change x)) → All P xs → All P (change_first test change xs)
unfolding All change_first
all-first P test change [] each all = tt
all-first {A = A} P test change (x ∷ xs) each all = by-test (test x) each all.0 all.1 (all-first P test change xs)
  where
    by-test : (b : Bool) → ((y : A) → cond b (Some x) (find test xs) ≡ Some y → P y → P (change y)) → P x → All P xs
        → (((y : A) → find test xs ≡ Some y → P y → P (change y)) → All P xs → All P (change_first test change xs))
        → All P (cond b (change x ∷ xs) (x ∷ change_first test change xs))
    by-test true each one all later = (each x refl one, all)
    by-test false each one all later = (one, later each all)

pub each-then : {A : Type 0} (Same : A → A → Type 0) (xs ys zs : List A)
    → ((x y z : A) → Same x y → Same y z → Same x z) → Each Same xs ys → Each Same ys zs → Each Same xs zs
unfolding Each
each-then Same [] [] [] trans p q = tt
each-then Same [] [] (z ∷ zs) trans p q = absurd q
each-then Same [] (y ∷ ys) zs trans p q = absurd p
each-then Same (x ∷ xs) [] zs trans p q = absurd p
each-then Same (x ∷ xs) (y ∷ ys) [] trans p q = absurd q
each-then Same (x ∷ xs) (y ∷ ys) (z ∷ zs) trans p q = (trans x y z p.0 q.0, each-then Same xs ys zs trans p.1 q.1)

pub each-weaker : {A : Type 0} (Same Other : A → A → Type 0) (xs ys : List A) → ((x y : A) → Same x y → Other x y)
    → Each Same xs ys → Each Other xs ys
unfolding Each
each-weaker Same Other [] [] weaker p = tt
each-weaker Same Other [] (y ∷ ys) weaker p = absurd p
each-weaker Same Other (x ∷ xs) [] weaker p = absurd p
each-weaker Same Other (x ∷ xs) (y ∷ ys) weaker p = (weaker x y p.0, each-weaker Same Other xs ys weaker p.1)

-- ## A SipSession goes, or its link: all is the same but this

-- a relation of SipSessions that asks nothing of links, nor that one stays
module _ (Same : SessionView → SessionView → Type 0) (keep : (s : SessionView) → Same s s) (trans : (r s t : SessionView) → Same r s → Same s t → Same r t)
    (links : (other : Option SessId) (s : SessionView) → Same s (linked_to other s)) (goes : (s : SessionView) → Same s (record s { gone = true })) where
  from-each : (other : Option SessId) (view : View) → Each Same view.sessions (unlinked_from other view).sessions
  unfolding unlinked_from
  from-each None view = each-same Same view.sessions keep
  from-each (Some other) view = each-first Same view.sessions (is_session other) (linked_to None) keep (links None)

  pub unlinked-each : (sess : SessId) (view : View) → Each Same view.sessions (unlinked sess view).sessions
  unfolding unlinked
  unlinked-each sess view =
      let between = (unlinked_from (partner view sess) view).sessions in
      each-then Same view.sessions between (change_first (is_session sess) (linked_to None) between) trans (from-each (partner view sess) view) (each-first Same between (is_session sess) (linked_to None) keep (links None))

  pub removed-each : (sess : SessId) (view : View) → Each Same view.sessions (removed sess view).sessions
  unfolding removed
  removed-each sess view =
      let between = (unlinked sess view).sessions in
      each-then Same view.sessions between (change_first (is_session sess) (λ s. record s { gone = true }) between) trans (unlinked-each sess view)
      (each-first Same between (is_session sess) (λ s. record s { gone = true }) keep goes)

  pub linked-each : (a b : SessId) (view : View) → Each Same view.sessions (linked a b view).sessions
  unfolding linked
  linked-each a b view =
      let between = change_first (is_session b) (linked_to (Some a)) view.sessions in
      each-then Same view.sessions between (change_first (is_session a) (linked_to (Some b)) between) trans (each-first Same view.sessions (is_session b) (linked_to (Some a)) keep (links (Some a)))
      (each-first Same between (is_session a) (linked_to (Some b)) keep (links (Some b)))

from-only : (other : Option SessId) (view : View)
    → unlinked_from other view ≡ record view { sessions = (unlinked_from other view).sessions }
unfolding unlinked_from
from-only None view = refl
from-only (Some other) view = refl

-- of the view only the SipSessions change
pub unlinked-only : (sess : SessId) (view : View)
    → unlinked sess view ≡ record view { sessions = (unlinked sess view).sessions }
unfolding unlinked
unlinked-only sess view = ap (λ (v : View). record v { sessions = change_first (is_session sess) (linked_to None) v.sessions }) (from-only (partner view sess) view)

pub removed-only : (sess : SessId) (view : View)
    → removed sess view ≡ record view { sessions = (removed sess view).sessions }
unfolding removed
removed-only sess view = ap (λ (v : View). record v { sessions = change_first (is_session sess) (λ s. record s { gone = true }) v.sessions }) (unlinked-only sess view)

-- ## A request comes

if-known : (P : Known → Type 0) (b : Bool) (x y : Known) → P x → P y → P (cond b x y)
if-known P true x y p q = p
if-known P false x y p q = q

abbrev pub received_kept : Session → ℕ → SessId → Request → Kept
received_kept x number sess request = record { id = next_id x; sess = sess; way = Received number; request = request }

abbrev pub received_view : Session → SessId → Bool → Bool → Request → View
received_view x sess initial passed request = record (numbered x).view { requests = x.view.requests ++ request_view (next_id x) sess initial passed request ∷ [] }

-- of whether it may be cancelled nothing is asked
pub received-holds : (P : View → Known → Type 0) (x : Session) (number : ℕ) (sess : SessId) (initial passed : Bool) (request : Request)
    → ((invited : List Invited) → P (received_view x sess initial passed request) (record x.known { kept = x.known.kept ++ received_kept x number sess request ∷ []; invited = invited }))
    → P (received x number sess initial passed request).view (received x number sess initial passed request).known
unfolding received with_invited
received-holds P x number sess initial passed request holds =
    let known : Known = record x.known { kept = x.known.kept ++ received_kept x number sess request ∷ [] } in
    if-known (P (received_view x sess initial passed request)) (same_bytes request.method invite) (record known { invited = known.invited ++ record { event = number; req = next_id x; sess = sess } ∷ [] }) known (holds _) (holds _)
