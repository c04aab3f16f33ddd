-- SipSessions stand under their numbers, each with the state of what happened in it; and what keeps that.
use Rattle.std.proofs.Common.{◌≡◌, ◌≤◌, ℕ, suc, ◌+◌, ◌++◌, Bool, true, false, Option, None, Some, List, [], ◌∷◌, refl, sym, ap, subst, ◌∙◌, arith, append_assoc}
use Rattle.std.proofs.lemmas.Bool.Decides.{nat_tests}
use Rattle.std.specs.Prelude.{◌==◌, cond, filter, length, map}
use Rattle.std.specs.List.{find}
use Rattle.sc_value.specs.Lists.{change_first}
use Rattle.sc_value.specs.declared.ids.SessId.{SessId}
use Rattle.sc_terms.specs.declared.views.SessionView.{SessionView}
use Rattle.sc_terms.specs.declared.views.State.TheVariants.{Initial}
use Rattle.sc_hosts.specs.Looking.{is_session}
use Rattle.sc_walked.specs.SessionWalks.{Each}
use Rattle.sc_lasting.specs.Lasting.{All}
use Rattle.sc_answered.specs.StateOf.{Asked, Happening, Response, has_rung, is_made, meaning, some_item, state_by, state_of}
use Rattle.sc_answered.specs.Happened.{Happened, HaveStates, happened_in, in_each, response_in}
use Rattle.sc_answered.proofs.StateAfter.{state_after, state-of-more}

-- from this number on: each under its own, with its state, and nothing happened under one that isn't there
unfoldable pub Stand : List Happened → ℕ → List SessionView → Type 0
Stand happened n [] = (k : ℕ) → n ≤ k → happened_in (record { 0 = k }) happened ≡ []
Stand happened n (session ∷ sessions) =
    (session.id.0 ≡ n) × (session.state ≡ state_of (happened_in session.id happened)) × Stand happened (n + 1) sessions

-- this happens, and makes these SipSessions of those
abbrev pub Comes : List Happened → List SessionView → List SessionView → Type 0
Comes new before after = (happened : List Happened) → Stand happened 1 before → Stand (new ++ happened) 1 after

-- ## One after the other

pub comes-same : (xs : List SessionView) → Comes [] xs xs
comes-same xs happened stand = stand

pub comes-then : (new more : List Happened) (xs ys zs : List SessionView) → Comes new xs ys → Comes more ys zs → Comes (more ++ new) xs zs
comes-then new more xs ys zs p q happened stand =
    subst (λ (all : List Happened). Stand all 1 zs) (sym (append_assoc more new happened)) (q (new ++ happened) (p happened stand))

-- where nothing happens first
pub comes-next : (more : List Happened) (xs ys zs : List SessionView) → Comes [] xs ys → Comes more ys zs → Comes more xs zs
comes-next more xs ys zs p q happened stand = q happened (p happened stand)

-- where nothing happens next
pub comes-still : (new : List Happened) (xs ys zs : List SessionView) → Comes new xs ys → Comes [] ys zs → Comes new xs zs
comes-still new xs ys zs p q happened stand = q (new ++ happened) (p happened stand)

-- by a test
pub if-comes : {A : Type 0} (sessions : A → List SessionView) (b : Bool) (xs : List SessionView) (new other : List Happened) (y z : A)
    → Comes new xs (sessions y) → Comes other xs (sessions z) → Comes (cond b new other) xs (sessions (cond b y z))
if-comes sessions true xs new other y z p q = p
if-comes sessions false xs new other y z p q = q

pub if-still : {A : Type 0} (sessions : A → List SessionView) (b : Bool) (xs : List SessionView) (y z : A)
    → Comes [] xs (sessions y) → Comes [] xs (sessions z) → Comes [] xs (sessions (cond b y z))
if-still sessions true xs y z p q = p
if-still sessions false xs y z p q = q

-- ## Under which number

own-number : (a : ℕ) → (a == a) ≡ true
own-number a = grind (arith, nat_tests)

above : (a n k : ℕ) → a ≡ n → n + 1 ≤ k → (a == k) ≡ false
above a n k is more = grind (arith, nat_tests, is, more)

below : (a n k : ℕ) → a ≡ n → k + 1 ≤ n → (a == k) ≡ false
below a n k is less = grind (arith, nat_tests, is, less)

next-below : (n k : ℕ) → k + 1 ≤ n → k + 1 ≤ n + 1
next-below n k less = omega (arith, less)

at-next : (n : ℕ) → n + 1 ≤ n + 1
at-next n = omega arith

from-equal : (n i : ℕ) → i ≡ n → n ≤ i
from-equal n i is = omega (arith, is)

after-equal : (n i : ℕ) → i ≡ n → n ≤ i + 1
after-equal n i is = omega (arith, is)

from-next : (n k : ℕ) → n + 1 ≤ k → n ≤ k
from-next n k more = omega (arith, more)

of-same : (a b c : ℕ) → (a == b) ≡ true → (c == b) ≡ false → (a == c) ≡ false
of-same a b c is not = grind (arith, nat_tests, is, not)

-- of this number nothing new happened
abbrev Leaves : List Happened → ℕ → Type 0
Leaves new k = (happened : List Happened) → happened_in (record { 0 = k }) (new ++ happened) ≡ happened_in (record { 0 = k }) happened

in-other : (k : ℕ) (one : Happened) (happened : List Happened) → (one.sess.0 == k) ≡ false
    → happened_in (record { 0 = k }) (one ∷ happened) ≡ happened_in (record { 0 = k }) happened
unfolding happened_in
in-other k one happened not = rw not refl

in-own : (k : ℕ) (one : Happened) (happened : List Happened) → (one.sess.0 == k) ≡ true
    → happened_in (record { 0 = k }) (one ∷ happened) ≡ one.what ∷ happened_in (record { 0 = k }) happened
unfolding happened_in
in-own k one happened is = rw is refl

stand-later : (sessions : List SessionView) (new happened : List Happened) (n : ℕ) → ((k : ℕ) → n ≤ k → Leaves new k)
    → Stand happened n sessions → Stand (new ++ happened) n sessions
unfolding Stand
stand-later [] new happened n leaves stand = λ k more. leaves k more happened ∙ stand k more
stand-later (session ∷ sessions) new happened n leaves stand = (
  stand.0,
  stand.1 ∙ ap state_of (sym (leaves session.id.0 (from-equal n session.id.0 stand.0) happened)),
  stand-later sessions new happened (n + 1) (λ k more. leaves k (from-next n k more)) stand.2,
)

-- ## What changes nothing that counts

-- the same SipSession in the same state
pub record IsKept (before after : SessionView) : Type 0 where
  pub id : after.id ≡ before.id
  pub state : after.state ≡ before.state

stand-each : (xs ys : List SessionView) (happened : List Happened) (n : ℕ) → Each IsKept xs ys → Stand happened n xs
    → Stand happened n ys
unfolding Each Stand
stand-each [] [] happened n each stand = stand
stand-each [] (y ∷ ys) happened n each stand = absurd each
stand-each (x ∷ xs) [] happened n each stand = absurd each
stand-each (x ∷ xs) (y ∷ ys) happened n each stand = (
  ap (λ (sess : SessId). sess.0) each.0.id ∙ stand.0,
  each.0.state ∙ stand.1 ∙ ap (λ (sess : SessId). state_of (happened_in sess happened)) (sym each.0.id),
  stand-each xs ys happened (n + 1) each.1 stand.2,
)

pub comes-each : (xs ys : List SessionView) → Each IsKept xs ys → Comes [] xs ys
comes-each xs ys each happened stand = stand-each xs ys happened 1 each stand

-- ## A SipSession more

pub new-state : state_of [] ≡ Initial
unfolding state_of state_by some_item is_made has_rung
new-state = refl

next-place : (i n l : ℕ) → i ≡ n + suc l → i ≡ (n + 1) + l
next-place i n l is = omega (arith, is)

last-place : (i n : ℕ) → i ≡ n + 0 → i ≡ n
last-place i n is = omega (arith, is)

stand-more : (xs : List SessionView) (y : SessionView) (happened : List Happened) (n : ℕ) → y.id.0 ≡ n + length xs → y.state ≡ Initial
    → Stand happened n xs → Stand happened n (xs ++ y ∷ [])
unfolding Stand
stand-more [] y happened n at is stand =
    let here = last-place y.id.0 n at in (
      here,
      is ∙ sym new-state ∙ ap state_of (sym (stand y.id.0 (from-equal n y.id.0 here))),
      λ k more. stand k (from-next n k more),
    )
stand-more (x ∷ xs) y happened n at is stand = (stand.0, stand.1, stand-more xs y happened (n + 1) (next-place y.id.0 n (length xs) at) is stand.2)

one-more : (l : ℕ) → l + 1 ≡ 1 + l
one-more l = omega arith

pub comes-more : (xs : List SessionView) (y : SessionView) → y.id.0 ≡ length xs + 1 → y.state ≡ Initial → Comes [] xs (xs ++ y ∷ [])
comes-more xs y at is happened stand = stand-more xs y happened 1 (at ∙ one-more (length xs)) is stand

-- ## Something happens in one SipSession

-- in the one that was found
unfoldable pub at_found : (SessionView → Happening) → Option SessionView → List Happened
at_found what None = []
at_found what (Some session) = record { sess = session.id; what = what session } ∷ []

response-found : (asked : Asked) (tagged : Bool) (code : ℕ) (found : Option SessionView)
    → response_in found asked tagged code ≡ at_found (λ session. Response session.role asked tagged code) found
unfolding response_in at_found
response-found asked tagged code None = refl
response-found asked tagged code (Some session) = refl

some-is : (s t : SessionView) → Some s ≡ Some t → s ≡ t
some-is s t is = cc

pub found-passes : (xs : List SessionView) (sess : SessId) (t : SessionView) → find (is_session sess) xs ≡ Some t → (t.id.0 == sess.0) ≡ true
found-passes [] sess t is = cc
found-passes (s ∷ xs) sess t is = by-test (s.id.0 == sess.0) refl is (found-passes xs sess t)
  where
    by-test : (b : Bool) → (s.id.0 == sess.0) ≡ b → cond b (Some s) (find (is_session sess) xs) ≡ Some t
        → (find (is_session sess) xs ≡ Some t → (t.id.0 == sess.0) ≡ true) → (t.id.0 == sess.0) ≡ true
    by-test true at found later = subst (λ (u : SessionView). (u.id.0 == sess.0) ≡ true) (some-is s t found) at
    by-test false at found later = later found

found-leaves : (xs : List SessionView) (sess : SessId) (what : SessionView → Happening) (k : ℕ) (found : Option SessionView)
    → find (is_session sess) xs ≡ found → (k == sess.0) ≡ false → Leaves (at_found what found) k
unfolding at_found
found-leaves xs sess what k None is not happened = refl
found-leaves xs sess what k (Some t) is not happened =
    in-other k (record { sess = t.id; what = what t }) happened (of-same t.id.0 sess.0 k (found-passes xs sess t is) not)

-- the state of the SipSession where it happens
own-state : (s t : SessionView) (what : Happening) (happened : List Happened) → t.id ≡ s.id → t.state ≡ state_after (meaning what) s.state
    → s.state ≡ state_of (happened_in s.id happened) → t.state ≡ state_of (happened_in t.id (record { sess = s.id; what = what } ∷ happened))
own-state s t what happened same changed was =
    changed ∙ ap (state_after (meaning what)) was ∙ sym (state-of-more what (happened_in s.id happened))
    ∙ ap state_of (sym (in-own s.id.0 (record { sess = s.id; what = what }) happened (own-number s.id.0)))
    ∙ ap (λ (sess : SessId). state_of (happened_in sess (record { sess = s.id; what = what } ∷ happened))) (sym same)

module _ (sess : SessId) (what : SessionView → Happening) (change : SessionView → SessionView) (ids : (s : SessionView) → (change s).id ≡ s.id)
    (states : (s : SessionView) → (change s).state ≡ state_after (meaning (what s)) s.state) where
  stand-one : (xs : List SessionView) (happened : List Happened) (n : ℕ) → Stand happened n xs
      → Stand (at_found what (find (is_session sess) xs) ++ happened) n (change_first (is_session sess) change xs)
  unfolding Stand change_first at_found
  stand-one [] happened n stand = stand
  stand-one (s ∷ xs) happened n stand = by-test (s.id.0 == sess.0) refl (stand-one xs happened (n + 1) stand.2)
    where
      by-test : (b : Bool) → (s.id.0 == sess.0) ≡ b
          → Stand (at_found what (find (is_session sess) xs) ++ happened) (n + 1) (change_first (is_session sess) change xs)
          → Stand (at_found what (cond b (Some s) (find (is_session sess) xs)) ++ happened) n (cond b (change s ∷ xs) (s ∷ change_first (is_session sess) change xs))
      by-test true at later = (
        ap (λ (i : SessId). i.0) (ids s) ∙ stand.0,
        own-state s (change s) (what s) happened (ids s) (states s) stand.1,
        stand-later xs (record { sess = s.id; what = what s } ∷ []) happened (n + 1) (λ k more happened. in-other k (record { sess = s.id; what = what s }) happened (above s.id.0 n k stand.0 more)) stand.2,
      )
      by-test false at later = (
        stand.0,
        stand.1 ∙ ap state_of (sym (found-leaves xs sess what s.id.0 (find (is_session sess) xs) refl at happened)),
        later,
      )

  pub comes-one : (xs : List SessionView) → Comes (at_found what (find (is_session sess) xs)) xs (change_first (is_session sess) change xs)
  comes-one xs happened stand = stand-one xs happened 1 stand

-- a response
pub comes-response : (sess : SessId) (asked : Asked) (tagged : Bool) (code : ℕ) (change : SessionView → SessionView) (xs : List SessionView)
    → ((s : SessionView) → (change s).id ≡ s.id)
    → ((s : SessionView) → (change s).state ≡ state_after (meaning (Response s.role asked tagged code)) s.state)
    → Comes (response_in (find (is_session sess) xs) asked tagged code) xs (change_first (is_session sess) change xs)
comes-response sess asked tagged code change xs ids states =
    subst (λ (new : List Happened). Comes new xs (change_first (is_session sess) change xs)) (sym (response-found asked tagged code (find (is_session sess) xs)))
    (comes-one sess (λ session. Response session.role asked tagged code) change ids states xs)

-- the same SipSession in the same role
pub record IsSided (before after : SessionView) : Type 0 where
  pub id : after.id ≡ before.id
  pub role : after.role ≡ before.role

same-response : (s t : SessionView) (asked : Asked) (tagged : Bool) (code : ℕ) → IsSided s t
    → response_in (Some t) asked tagged code ≡ response_in (Some s) asked tagged code
unfolding response_in
same-response s t asked tagged code same = rw (same.id, same.role) refl

-- a response is the same in SipSessions that have changed in another way
pub response-same : (xs ys : List SessionView) (sess : SessId) (asked : Asked) (tagged : Bool) (code : ℕ) → Each IsSided xs ys
    → response_in (find (is_session sess) ys) asked tagged code ≡ response_in (find (is_session sess) xs) asked tagged code
unfolding Each
response-same [] [] sess asked tagged code each = refl
response-same [] (y ∷ ys) sess asked tagged code each = absurd each
response-same (x ∷ xs) [] sess asked tagged code each = absurd each
response-same (x ∷ xs) (y ∷ ys) sess asked tagged code each =
    by-test (y.id.0 == sess.0) (x.id.0 == sess.0) (ap (λ (i : SessId). i.0 == sess.0) each.0.id) (response-same xs ys sess asked tagged code each.1)
  where
    by-test : (b c : Bool) → b ≡ c → response_in (find (is_session sess) ys) asked tagged code ≡ response_in (find (is_session sess) xs) asked tagged code
        → response_in (cond b (Some y) (find (is_session sess) ys)) asked tagged code ≡ response_in (cond c (Some x) (find (is_session sess) xs)) asked tagged code
    by-test true true is later = same-response x y asked tagged code each.0
    by-test true false is later = cc
    by-test false true is later = cc
    by-test false false is later = later

-- ## Something happens in each that passes a test

each-leaves : (xs : List SessionView) (test : SessionView → Bool) (what : SessionView → Happening) (k n : ℕ) (before : List Happened) → k + 1 ≤ n
    → Stand before n xs → Leaves (in_each test what xs) k
unfolding Stand in_each
each-leaves [] test what k n before less stand happened = refl
each-leaves (s ∷ xs) test what k n before less stand happened =
    by-test (test s) (each-leaves xs test what k (n + 1) before (next-below n k less) stand.2 happened)
  where
    rest : List Happened
    rest = map (λ (session : SessionView). record { sess = session.id; what = what session }) (filter test xs)

    by-test : (b : Bool) → happened_in (record { 0 = k }) (rest ++ happened) ≡ happened_in (record { 0 = k }) happened
        → happened_in (record { 0 = k }) (map (λ (session : SessionView). record { sess = session.id; what = what session }) (cond b (s ∷ filter test xs) (filter test xs)) ++ happened)
        ≡ happened_in (record { 0 = k }) happened
    by-test true later = in-other k (record { sess = s.id; what = what s }) (rest ++ happened) (below s.id.0 n k stand.0 less) ∙ later
    by-test false later = later

module _ (test : SessionView → Bool) (what : SessionView → Happening) (change : SessionView → SessionView) (ids : (s : SessionView) → (change s).id ≡ s.id)
    (states : (s : SessionView) → test s ≡ true → (change s).state ≡ state_after (meaning (what s)) s.state)
    (others : (s : SessionView) → test s ≡ false → (change s).state ≡ s.state) where
  stand-all : (xs : List SessionView) (happened : List Happened) (n : ℕ) → Stand happened n xs
      → Stand (in_each test what xs ++ happened) n (map change xs)
  unfolding Stand in_each
  stand-all [] happened n stand = stand
  stand-all (s ∷ xs) happened n stand =
      by-test (test s) refl (each-leaves xs test what s.id.0 (n + 1) happened (less s.id.0 n stand.0) stand.2 happened) (stand-all xs happened (n + 1) stand.2)
    where
      less : (i n : ℕ) → i ≡ n → i + 1 ≤ n + 1
      less i n is = omega (arith, is)

      by-test : (b : Bool) → test s ≡ b
          → happened_in s.id (map (λ (session : SessionView). record { sess = session.id; what = what session }) (filter test xs) ++ happened) ≡ happened_in s.id happened
          → Stand (map (λ (session : SessionView). record { sess = session.id; what = what session }) (filter test xs) ++ happened) (n + 1) (map change xs)
          → Stand (map (λ (session : SessionView). record { sess = session.id; what = what session }) (cond b (s ∷ filter test xs) (filter test xs)) ++ happened) n (change s ∷ map change xs)
      by-test true is none later = (
        ap (λ (i : SessId). i.0) (ids s) ∙ stand.0,
        own-state s (change s) (what s) (map (λ (session : SessionView). record { sess = session.id; what = what session }) (filter test xs) ++ happened) (ids s) (states s is)
            (stand.1 ∙ ap state_of (sym none)),
        stand-later (map change xs) (record { sess = s.id; what = what s } ∷ []) (map (λ (session : SessionView). record { sess = session.id; what = what session }) (filter test xs) ++ happened) (n + 1)
            (λ k more happened. in-other k (record { sess = s.id; what = what s }) happened (above s.id.0 n k stand.0 more)) later,
      )
      by-test false is none later = (
        ap (λ (i : SessId). i.0) (ids s) ∙ stand.0,
        others s is ∙ stand.1 ∙ ap state_of (sym none)
            ∙ ap (λ (sess : SessId). state_of (happened_in sess (map (λ (session : SessionView). record { sess = session.id; what = what session }) (filter test xs) ++ happened))) (sym (ids s)),
        later,
      )

  pub comes-all : (xs : List SessionView) → Comes (in_each test what xs) xs (map change xs)
  comes-all xs happened stand = stand-all xs happened 1 stand

-- ## In the end

stand-states : (xs : List SessionView) (happened : List Happened) (n : ℕ) → Stand happened n xs → HaveStates happened xs
unfolding Stand All
stand-states [] happened n stand = tt
stand-states (x ∷ xs) happened n stand = (stand.1, stand-states xs happened (n + 1) stand.2)

pub states-of : (xs : List SessionView) (happened : List Happened) → Stand happened 1 xs → HaveStates happened xs
states-of xs happened stand = stand-states xs happened 1 stand
