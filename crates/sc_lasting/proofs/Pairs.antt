-- Linked SipSessions are linked to each other, and each is in one pair.
use Rattle.std.proofs.Common.{◌≡◌, ℕ, ◌++◌, Bool, true, false, Option, None, Some, List, [], ◌∷◌, refl, ap, sym, subst, ◌∙◌, arith}
use Rattle.std.proofs.lemmas.Bool.Decides.{nat_tests}
use Rattle.std.specs.Prelude.{cond, ◌==◌, option_and_then}
use Rattle.std.specs.List.{find}
use Rattle.sc_value.specs.Lists.{change_first}
use Rattle.sc_value.specs.declared.ids.SessId.{SessId}
use Rattle.sc_terms.specs.declared.views.SessionView.{SessionView}
use Rattle.sc_hosts.specs.Looking.{is_session, linked_to}
use Rattle.sc_hosts.specs.ViewChanges.{with_link as linked}
use Rattle.sc_walked.specs.SessionWalks.{Each}

-- the SipSession to which this one is linked
unfoldable pub other : List SessionView → SessId → Option SessId
other sessions sess = option_and_then (λ (session : SessionView). session.linked) (find (is_session sess) sessions)

-- of the links of a list each is mutual, and of two
pub record AreMutual (sessions : List SessionView) : Type 0 where
  pub paired : (a b : SessId) → other sessions a ≡ Some b → other sessions b ≡ Some a
  pub apart : (a b : SessId) → other sessions a ≡ Some b → (a.0 == b.0) ≡ false

-- ## Numbers of SipSessions

pub same-sess : (a b : SessId) → (a.0 == b.0) ≡ true → a ≡ b
same-sess a b is = ap (λ (n : ℕ). record { 0 = n }) (same-number a.0 b.0 is)
  where
    same-number : (a b : ℕ) → (a == b) ≡ true → a ≡ b
    same-number a b is = grind (arith, nat_tests, is)

pub turned : (a b : ℕ) (t : Bool) → (a == b) ≡ t → (b == a) ≡ t
turned a b true is = grind (arith, nat_tests, is)
turned a b false is = grind (arith, nat_tests, is)

pub own-number : (a : ℕ) → (a == a) ≡ true
own-number a = grind (arith, nat_tests)

-- this one and that one are not the same where another differs
moved-number : (a b c : ℕ) → (a == b) ≡ true → (a == c) ≡ false → (b == c) ≡ false
moved-number a b c is not = grind (arith, nat_tests, is, not)

pub not-both : (s a c : ℕ) → (s == a) ≡ true → (s == c) ≡ true → (a == c) ≡ false → ⊥
not-both s a c is has not = grind (arith, nat_tests, is, has, not)

-- ## A link is set

unfoldable pub set : SessId → Option SessId → List SessionView → List SessionView
set a link sessions = change_first (is_session a) (linked_to link) sessions

-- of another one nothing changes
pub set-other : (a c : SessId) (link : Option SessId) (sessions : List SessionView) → (a.0 == c.0) ≡ false
    → other (set a link sessions) c ≡ other sessions c
unfolding set other change_first linked_to
set-other a c link [] not = refl
set-other a c link (s ∷ sessions) not = by-test (s.id.0 == a.0) (s.id.0 == c.0) refl refl (set-other a c link sessions not)
  where
    by-test : (at here : Bool) → (s.id.0 == a.0) ≡ at → (s.id.0 == c.0) ≡ here
        → other (set a link sessions) c ≡ other sessions c
        → other (set a link (s ∷ sessions)) c ≡ other (s ∷ sessions) c
    by-test true true is has later = absurd (not-both s.id.0 a.0 c.0 is has not)
    by-test true false is has later = rw (is, has) refl
    by-test false true is has later = rw (is, has) refl
    by-test false false is has later = rw (is, has) later

-- one without a link has none
pub set-none : (a : SessId) (sessions : List SessionView) → other (set a None sessions) a ≡ None
unfolding set other change_first linked_to
set-none a [] = refl
set-none a (s ∷ sessions) = by-test (s.id.0 == a.0) refl (set-none a sessions)
  where
    by-test : (at : Bool) → (s.id.0 == a.0) ≡ at → other (set a None sessions) a ≡ None
        → other (set a None (s ∷ sessions)) a ≡ None
    by-test true is later = rw (is, is) refl
    by-test false is later = rw (is, is) later

-- one that is there has the link that is set
pub set-some : (a b : SessId) (s : SessionView) (sessions : List SessionView) → find (is_session a) sessions ≡ Some s
    → other (set a (Some b) sessions) a ≡ Some b
unfolding set other change_first linked_to
set-some a b s [] found = cc
set-some a b s (t ∷ sessions) found = by-test (t.id.0 == a.0) refl found (set-some a b s sessions)
  where
    by-test : (at : Bool) → (t.id.0 == a.0) ≡ at → cond at (Some t) (find (is_session a) sessions) ≡ Some s
        → (find (is_session a) sessions ≡ Some s → other (set a (Some b) sessions) a ≡ Some b)
        → other (set a (Some b) (t ∷ sessions)) a ≡ Some b
    by-test true is found later = rw (is, is) refl
    by-test false is found later = rw (is, is) (later found)

-- ## Nothing of links changes

pub record SameLink (before after : SessionView) : Type 0 where
  pub id : after.id ≡ before.id
  pub linked : after.linked ≡ before.linked
  pub gone : after.gone ≡ before.gone

pub other-each : (xs ys : List SessionView) (c : SessId) → Each SameLink xs ys → other ys c ≡ other xs c
unfolding Each other
other-each [] [] c same = refl
other-each [] (y ∷ ys) c same = absurd same
other-each (x ∷ xs) [] c same = absurd same
other-each (x ∷ xs) (y ∷ ys) c same = by-test (y.id.0 == c.0) (x.id.0 == c.0) (ap (λ (a : SessId). a.0 == c.0) same.0.id) same.0.linked (other-each xs ys c same.1)
  where
    by-test : (b d : Bool) → b ≡ d → y.linked ≡ x.linked
        → option_and_then (λ (s : SessionView). s.linked) (find (is_session c) ys) ≡ option_and_then (λ (s : SessionView). s.linked) (find (is_session c) xs)
        → option_and_then (λ (s : SessionView). s.linked) (cond b (Some y) (find (is_session c) ys)) ≡ option_and_then (λ (s : SessionView). s.linked) (cond d (Some x) (find (is_session c) xs))
    by-test true true is one later = one
    by-test false false is one later = later
    by-test true false is one later = cc
    by-test false true is one later = cc

pub other-more : (xs : List SessionView) (new : SessionView) (c : SessId) → new.linked ≡ None
    → other (xs ++ new ∷ []) c ≡ other xs c
unfolding other
other-more [] new c none = by-test (new.id.0 == c.0) none
  where
    by-test : (b : Bool) → new.linked ≡ None
        → option_and_then (λ (s : SessionView). s.linked) (cond b (Some new) None) ≡ None
    by-test true none = none
    by-test false none = refl
other-more (x ∷ xs) new c none = by-test (x.id.0 == c.0) (other-more xs new c none)
  where
    by-test : (b : Bool)
        → option_and_then (λ (s : SessionView). s.linked) (find (is_session c) (xs ++ new ∷ [])) ≡ option_and_then (λ (s : SessionView). s.linked) (find (is_session c) xs)
        → option_and_then (λ (s : SessionView). s.linked) (cond b (Some x) (find (is_session c) (xs ++ new ∷ []))) ≡ option_and_then (λ (s : SessionView). s.linked) (cond b (Some x) (find (is_session c) xs))
    by-test true later = refl
    by-test false later = later

-- pairs look at links alone
pub pairs-same : (xs ys : List SessionView) → ((c : SessId) → other ys c ≡ other xs c) → AreMutual xs → AreMutual ys
pairs-same xs ys same ok = record {
  paired = λ a b is. same b ∙ ok.paired a b (sym (same a) ∙ is);
  apart = λ a b is. ok.apart a b (sym (same a) ∙ is);
}

-- ## A pair is parted

unfoldable pub part : SessId → Option SessId → List SessionView → List SessionView
part a None xs = set a None xs
part a (Some b) xs = set a None (set b None xs)

-- what is left after the parting
part-here : (xs : List SessionView) (a b : SessId) → other (set a None (set b None xs)) a ≡ None
part-here xs a b = set-none a (set b None xs)

part-there : (xs : List SessionView) (a b : SessId) → (a.0 == b.0) ≡ false → other (set a None (set b None xs)) b ≡ None
part-there xs a b apart = set-other a b None (set b None xs) apart ∙ set-none b xs

pub part-else : (xs : List SessionView) (a b c : SessId) → (a.0 == c.0) ≡ false → (b.0 == c.0) ≡ false
    → other (set a None (set b None xs)) c ≡ other xs c
part-else xs a b c one two = set-other a c None (set b None xs) one ∙ set-other b c None xs two

pub none-some : {A : Type 0} (x : Option A) (a : A) → x ≡ None → x ≡ Some a → ⊥
none-some x a none some = cc

two-some : (x : Option SessId) (a b : SessId) → x ≡ Some a → x ≡ Some b → a.0 == b.0 ≡ true
two-some x a b p q = subst (λ (c : SessId). (a.0 == c.0) ≡ true) (same p q) (own-number a.0)
  where
    same : x ≡ Some a → x ≡ Some b → a ≡ b
    same p q = cc

-- who is linked after the parting was linked before, and is none of the two
part-was : (xs : List SessionView) (a b c d : SessId) (at here : Bool) → (a.0 == b.0) ≡ false → (a.0 == c.0) ≡ at
    → (b.0 == c.0) ≡ here → other (set a None (set b None xs)) c ≡ Some d
    → ((a.0 == c.0) ≡ false) × ((b.0 == c.0) ≡ false) × (other xs c ≡ Some d)
part-was xs a b c d true here apart one two is = absurd (none-some _ d (subst (λ (e : SessId). other (set a None (set b None xs)) e ≡ None) (same-sess a c one) (part-here xs a b)) is)
part-was xs a b c d false true apart one two is = absurd (none-some _ d (subst (λ (e : SessId). other (set a None (set b None xs)) e ≡ None) (same-sess b c two) (part-there xs a b apart)) is)
part-was xs a b c d false false apart one two is = (one, two, sym (part-else xs a b c one two) ∙ is)

-- the partner of another is none of the two
part-free : (xs : List SessionView) (a b c d : SessId) (at : Bool) → AreMutual xs → other xs a ≡ Some b
    → (b.0 == c.0) ≡ false → other xs c ≡ Some d → (a.0 == d.0) ≡ at → (a.0 == d.0) ≡ false
part-free xs a b c d false ok is not has at = at
part-free xs a b c d true ok is not has at =
    absurd (clash (b.0 == c.0) not (two-some (other xs a) b c is (subst (λ (e : SessId). other xs e ≡ Some c) (sym (same-sess a d at)) (ok.paired c d has))))
  where
    clash : (t : Bool) → t ≡ false → t ≡ true → ⊥
    clash t p q = cc

parted : (xs : List SessionView) (a b : SessId) → AreMutual xs → other xs a ≡ Some b
    → AreMutual (set a None (set b None xs))
parted xs a b ok is = record {
  paired = λ c d linked.
      let was = part-was xs a b c d _ _ (ok.apart a b is) refl refl linked in
      part-else xs a b d (part-free xs a b c d _ ok is was.1 was.2 refl) (part-free xs b a c d _ ok (ok.paired a b is) was.0 was.2 refl) ∙ ok.paired c d was.2;
  apart = λ c d linked. ok.apart c d (part-was xs a b c d _ _ (ok.apart a b is) refl refl linked).2;
}

pub part-pairs : (xs : List SessionView) (a : SessId) (was : Option SessId) → other xs a ≡ was → AreMutual xs
    → AreMutual (part a was xs)
unfolding part
part-pairs xs a None is ok = pairs-same xs (set a None xs) (λ c. by-test c (a.0 == c.0) refl) ok
  where
    by-test : (c : SessId) (b : Bool) → (a.0 == c.0) ≡ b → other (set a None xs) c ≡ other xs c
    by-test c true here = subst (λ (c : SessId). other (set a None xs) c ≡ other xs c) (same-sess a c here) (set-none a xs ∙ sym is)
    by-test c false here = set-other a c None xs here
part-pairs xs a (Some b) is ok = parted xs a b ok is

-- ## A pair is made

made-free : (xs : List SessionView) (a b c d : SessId) (at : Bool) → AreMutual xs → other xs a ≡ None
    → other xs c ≡ Some d → (a.0 == d.0) ≡ at → (a.0 == d.0) ≡ false
made-free xs a b c d false ok is has at = at
made-free xs a b c d true ok is has at = absurd (none-some (other xs a) c is (subst (λ (e : SessId). other xs e ≡ Some c) (sym (same-sess a d at)) (ok.paired c d has)))

made-here : (xs : List SessionView) (a b : SessId) (s : SessionView) → find (is_session a) (set b (Some a) xs) ≡ Some s
    → other (set a (Some b) (set b (Some a) xs)) a ≡ Some b
made-here xs a b s found = set-some a b s (set b (Some a) xs) found

made-there : (xs : List SessionView) (a b : SessId) (s : SessionView) → (a.0 == b.0) ≡ false
    → find (is_session b) xs ≡ Some s → other (set a (Some b) (set b (Some a) xs)) b ≡ Some a
made-there xs a b s apart found = set-other a b (Some b) (set b (Some a) xs) apart ∙ set-some b a s xs found

pub made-else : (xs : List SessionView) (a b c : SessId) → (a.0 == c.0) ≡ false → (b.0 == c.0) ≡ false
    → other (set a (Some b) (set b (Some a) xs)) c ≡ other xs c
made-else xs a b c one two = set-other a c (Some b) (set b (Some a) xs) one ∙ set-other b c (Some a) xs two

pub some-one : (x : Option SessId) (a b : SessId) → x ≡ Some a → x ≡ Some b → a ≡ b
some-one x a b p q = cc

module _ (xs : List SessionView) (a b : SessId) (one two : SessionView) (apart : (a.0 == b.0) ≡ false)
    (here : find (is_session a) (set b (Some a) xs) ≡ Some one) (there : find (is_session b) xs ≡ Some two) (free : other xs a ≡ None) (open-too : other xs b ≡ None) (ok : AreMutual xs) where
  made-paired : (c d : SessId) (at on : Bool) → (a.0 == c.0) ≡ at → (b.0 == c.0) ≡ on
      → other (set a (Some b) (set b (Some a) xs)) c ≡ Some d → other (set a (Some b) (set b (Some a) xs)) d ≡ Some c
  made-paired c d true on is has linked =
      let c-is = same-sess a c is in
      let d-is = some-one _ b d (subst (λ (e : SessId). other (set a (Some b) (set b (Some a) xs)) e ≡ Some b) c-is (made-here xs a b one here)) linked in
      subst (λ (e : SessId). other (set a (Some b) (set b (Some a) xs)) d ≡ Some e) c-is (subst (λ (e : SessId). other (set a (Some b) (set b (Some a) xs)) e ≡ Some a) d-is (made-there xs a b two apart there))
  made-paired c d false true is has linked =
      let c-is = same-sess b c has in
      let d-is = some-one _ a d (subst (λ (e : SessId). other (set a (Some b) (set b (Some a) xs)) e ≡ Some a) c-is (made-there xs a b two apart there)) linked in
      subst (λ (e : SessId). other (set a (Some b) (set b (Some a) xs)) d ≡ Some e) c-is (subst (λ (e : SessId). other (set a (Some b) (set b (Some a) xs)) e ≡ Some b) d-is (made-here xs a b one here))
  made-paired c d false false is has linked =
      let was = sym (made-else xs a b c is has) ∙ linked in
      made-else xs a b d (made-free xs a b c d _ ok free was refl) (made-free xs b a c d _ ok open-too was refl) ∙ ok.paired c d was

  made-apart : (c d : SessId) (at on : Bool) → (a.0 == c.0) ≡ at → (b.0 == c.0) ≡ on
      → other (set a (Some b) (set b (Some a) xs)) c ≡ Some d → (c.0 == d.0) ≡ false
  made-apart c d true on is has linked =
      let c-is = same-sess a c is in
      let d-is = some-one _ b d (subst (λ (e : SessId). other (set a (Some b) (set b (Some a) xs)) e ≡ Some b) c-is (made-here xs a b one here)) linked in
      subst (λ (e : SessId). (e.0 == d.0) ≡ false) c-is (subst (λ (e : SessId). (a.0 == e.0) ≡ false) d-is apart)
  made-apart c d false true is has linked =
      let c-is = same-sess b c has in
      let d-is = some-one _ a d (subst (λ (e : SessId). other (set a (Some b) (set b (Some a) xs)) e ≡ Some a) c-is (made-there xs a b two apart there)) linked in
      subst (λ (e : SessId). (e.0 == d.0) ≡ false) c-is (subst (λ (e : SessId). (b.0 == e.0) ≡ false) d-is (turned a.0 b.0 false apart))
  made-apart c d false false is has linked = ok.apart c d (sym (made-else xs a b c is has) ∙ linked)

  pub made-pairs : AreMutual (set a (Some b) (set b (Some a) xs))
  made-pairs = record { paired = λ c d linked. made-paired c d _ _ refl refl linked; apart = λ c d linked. made-apart c d _ _ refl refl linked }
