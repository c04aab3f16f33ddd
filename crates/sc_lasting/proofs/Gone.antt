-- Which SipSessions of a list are gone, after changes of it.
use Rattle.std.proofs.Common.{◌≡◌, ◌++◌, Bool, true, false, Option, None, Some, List, [], ◌∷◌, refl, ap, sym, ◌∙◌}
use Rattle.std.specs.Prelude.{cond, ◌==◌, is_some, option_map, option_and_then}
use Rattle.std.specs.List.{find}
use Rattle.sc_value.specs.Lists.{change_first}
use Rattle.sc_value.specs.declared.ids.SessId.{SessId}
use Rattle.sc_terms.specs.declared.views.SessionView.{SessionView}
use Rattle.sc_hosts.specs.Looking.{is_session, linked_to}
use Rattle.sc_walked.specs.SessionWalks.{Each}
use Rattle.sc_walked.proofs.WalkParts.{each-first}
use Rattle.sc_lasting.proofs.Pairs.{other, part, set}

-- that it is gone, where it is in the list
unfoldable pub gone_of : List SessionView → SessId → Option Bool
gone_of sessions sess = option_map (λ (session : SessionView). session.gone) (find (is_session sess) sessions)

pub record SameGone (before after : SessionView) : Type 0 where
  pub id : after.id ≡ before.id
  pub gone : after.gone ≡ before.gone

own-gone : (s : SessionView) → SameGone s s
own-gone s = record { id = refl; gone = refl }

pub gone-each : (xs ys : List SessionView) (c : SessId) → Each SameGone xs ys → gone_of ys c ≡ gone_of xs c
unfolding Each gone_of
gone-each [] [] c same = refl
gone-each [] (y ∷ ys) c same = absurd same
gone-each (x ∷ xs) [] c same = absurd same
gone-each (x ∷ xs) (y ∷ ys) c same = by-test (y.id.0 == c.0) (x.id.0 == c.0) (ap (λ (a : SessId). a.0 == c.0) same.0.id) same.0.gone (gone-each xs ys c same.1)
  where
    by-test : (b d : Bool) → b ≡ d → y.gone ≡ x.gone
        → option_map (λ (s : SessionView). s.gone) (find (is_session c) ys) ≡ option_map (λ (s : SessionView). s.gone) (find (is_session c) xs)
        → option_map (λ (s : SessionView). s.gone) (cond b (Some y) (find (is_session c) ys)) ≡ option_map (λ (s : SessionView). s.gone) (cond d (Some x) (find (is_session c) xs))
    by-test true true is one later = ap (λ (b : Bool). Some b) one
    by-test false false is one later = later
    by-test true false is one later = cc
    by-test false true is one later = cc

-- one that is in the list is the same with one more
pub gone-more : (xs : List SessionView) (new : SessionView) (c : SessId) → is_some (gone_of xs c) ≡ true
    → gone_of (xs ++ new ∷ []) c ≡ gone_of xs c
unfolding gone_of
gone-more [] new c there = cc
gone-more (x ∷ xs) new c there = by-test (x.id.0 == c.0) there (gone-more xs new c)
  where
    by-test : (b : Bool)
        → is_some (option_map (λ (s : SessionView). s.gone) (cond b (Some x) (find (is_session c) xs))) ≡ true
        → (is_some (option_map (λ (s : SessionView). s.gone) (find (is_session c) xs)) ≡ true
        → option_map (λ (s : SessionView). s.gone) (find (is_session c) (xs ++ new ∷ [])) ≡ option_map (λ (s : SessionView). s.gone) (find (is_session c) xs))
        → option_map (λ (s : SessionView). s.gone) (cond b (Some x) (find (is_session c) (xs ++ new ∷ []))) ≡ option_map (λ (s : SessionView). s.gone) (cond b (Some x) (find (is_session c) xs))
    by-test true there later = refl
    by-test false there later = later there

linked-gone : (link : Option SessId) (s : SessionView) → SameGone s (linked_to link s)
unfolding linked_to
linked-gone link s = record { id = refl; gone = refl }

pub gone-set : (a : SessId) (link : Option SessId) (xs : List SessionView) (c : SessId)
    → gone_of (set a link xs) c ≡ gone_of xs c
unfolding set
gone-set a link xs c = gone-each xs _ c (each-first SameGone xs (is_session a) (linked_to link) own-gone (linked-gone link))

pub gone-part : (a : SessId) (was : Option SessId) (xs : List SessionView) (c : SessId)
    → gone_of (part a was xs) c ≡ gone_of xs c
unfolding part
gone-part a None xs c = gone-set a None xs c
gone-part a (Some b) xs c = gone-set a None (set b None xs) c ∙ gone-set b None xs c

-- ## One goes

abbrev pub goes_in : SessId → List SessionView → List SessionView
goes_in sess xs = change_first (is_session sess) (λ s. record s { gone = true }) xs

pub goes-there : (xs : List SessionView) (sess c : SessId)
    → is_some (gone_of (goes_in sess xs) c) ≡ is_some (gone_of xs c)
unfolding gone_of change_first
goes-there [] sess c = refl
goes-there (x ∷ xs) sess c = by-test (x.id.0 == sess.0) (x.id.0 == c.0) refl refl (goes-there xs sess c)
  where
    by-test : (at here : Bool) → (x.id.0 == sess.0) ≡ at → (x.id.0 == c.0) ≡ here
        → is_some (gone_of (goes_in sess xs) c) ≡ is_some (gone_of xs c)
        → is_some (gone_of (goes_in sess (x ∷ xs)) c) ≡ is_some (gone_of (x ∷ xs) c)
    by-test true true is has later = rw (is, has) refl
    by-test true false is has later = rw (is, has) refl
    by-test false true is has later = rw (is, has) refl
    by-test false false is has later = rw (is, has) later

-- who isn't gone then wasn't
pub goes-back : (xs : List SessionView) (sess c : SessId) → gone_of (goes_in sess xs) c ≡ Some false
    → gone_of xs c ≡ Some false
unfolding gone_of change_first
goes-back [] sess c stays = stays
goes-back (x ∷ xs) sess c stays = by-test (x.id.0 == sess.0) (x.id.0 == c.0) refl refl stays (goes-back xs sess c)
  where
    by-test : (at here : Bool) → (x.id.0 == sess.0) ≡ at → (x.id.0 == c.0) ≡ here
        → option_map (λ (s : SessionView). s.gone) (find (is_session c) (cond at (record x { gone = true } ∷ xs) (x ∷ goes_in sess xs))) ≡ Some false
        → (gone_of (goes_in sess xs) c ≡ Some false → gone_of xs c ≡ Some false) → gone_of (x ∷ xs) c ≡ Some false
    by-test true true is has stays later = absurd (clash (sym (rw (has) refl) ∙ stays))
      where
        clash : Some true ≡ Some false → ⊥
        clash is = cc
    by-test true false is has stays later = rw (has) (sym (rw (has) refl) ∙ stays)
    by-test false true is has stays later = rw (has) (sym (rw (has) refl) ∙ stays)
    by-test false false is has stays later = rw (has) (later (sym (rw (has) refl) ∙ stays))

same-gone : (xs : List SessionView) (sess : SessId) → is_some (gone_of xs sess) ≡ true
    → gone_of (goes_in sess xs) sess ≡ Some true
unfolding gone_of change_first
same-gone [] sess there = cc
same-gone (x ∷ xs) sess there = by-test (x.id.0 == sess.0) refl there (same-gone xs sess)
  where
    by-test : (at : Bool) → (x.id.0 == sess.0) ≡ at
        → is_some (option_map (λ (s : SessionView). s.gone) (cond at (Some x) (find (is_session sess) xs))) ≡ true
        → (is_some (gone_of xs sess) ≡ true → gone_of (goes_in sess xs) sess ≡ Some true)
        → gone_of (goes_in sess (x ∷ xs)) sess ≡ Some true
    by-test true is there later = rw (is, is) refl
    by-test false is there later = rw (is, is) (later there)

-- so it is another than the one that went
pub goes-other-one : (xs : List SessionView) (sess c : SessId) (t : Bool) → (sess.0 == c.0) ≡ t
    → (sess.0 == c.0 ≡ true → sess ≡ c) → is_some (gone_of xs c) ≡ true → gone_of (goes_in sess xs) c ≡ Some false
    → (sess.0 == c.0) ≡ false
goes-other-one xs sess c false is same there stays = is
goes-other-one xs sess c true is same there stays = absurd (clash (sym gone ∙ stays))
  where
    gone : gone_of (goes_in sess xs) c ≡ Some true
    gone = rw (same is) (same-gone xs c there)

    clash : Some true ≡ Some false → ⊥
    clash is = cc

-- one that is linked is in the list
pub linked-in : (xs : List SessionView) (a b : SessId) → other xs a ≡ Some b → is_some (gone_of xs a) ≡ true
unfolding other gone_of
linked-in xs a b is = by (find (is_session a) xs) is
  where
    by : (found : Option SessionView) → option_and_then (λ (session : SessionView). session.linked) found ≡ Some b
        → is_some (option_map (λ (session : SessionView). session.gone) found) ≡ true
    by None is = cc
    by (Some s) is = refl
