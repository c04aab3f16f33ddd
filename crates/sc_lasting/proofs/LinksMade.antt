-- Two SipSessions that are there are linked by calls alone that name them.
use Rattle.std.proofs.Common.{◌≡◌, ◌≤◌, ℕ, ◌+◌, ◌++◌, Bool, true, false, Option, None, Some, List, [], ◌∷◌, refl, ap, sym, subst, ◌∙◌, arith}
use Rattle.std.proofs.lemmas.Bool.Decides.{nat_tests}
use Rattle.std.specs.Prelude.{length, ◌==◌, ◌&&◌, ◌||◌}
use Rattle.std.specs.List.{find}
use Rattle.sc_value.specs.Lists.{change_first}
use Rattle.sc_value.specs.declared.ids.SessId.{SessId}
use Rattle.sc_terms.specs.declared.settings.Config.{Config}
use Rattle.sc_terms.specs.declared.views.RequestView.{RequestView}
use Rattle.sc_terms.specs.declared.views.SessionView.{SessionView}
use Rattle.sc_terms.specs.declared.views.View.{View}
use Rattle.sc_state.specs.declared.queue.Queued.{Queued}
use Rattle.sc_state.specs.declared.queue.Queued.TheVariants as queued
use Rattle.sc_state.specs.declared.working.Play.{Play}
use Rattle.sc_hosts.specs.DerivedSessions.{derived_session}
use Rattle.sc_hosts.specs.Effects.{created_leg, view_with_targets as proxied, proxying, with_draft}
use Rattle.sc_hosts.specs.Histories.{History, session_after}
use Rattle.sc_hosts.specs.Looking.{is_gone_in, is_gone, is_session, linked_to, partner, without_link as unlinked, without_sip_session as removed}
use Rattle.sc_hosts.specs.Sessions.{Turn}
use Rattle.sc_hosts.specs.ViewChanges.{with_link as linked, new_session, own_session, with_own_session}
use Rattle.sc_walked.specs.SessionWalks.{Each, IsMoved, SessionLaws}
use Rattle.sc_walked.proofs.WalkParts.{each-first}
use Rattle.sc_lasting.specs.Lasting.{IsSince, LeavesApart, are_both}
use Rattle.sc_lasting.proofs.Parts.{all-found, each-weaker, linked-each, received-holds, removed-each, unlinked-each}
use Rattle.sc_lasting.proofs.Held.{lives-relate}
use Rattle.sc_lasting.proofs.Began.{test-found}
use Rattle.sc_lasting.proofs.Pairs.{SameLink, other, other-each, other-more, set, part, same-sess, set-none, set-other, made-else}
use Rattle.sc_lasting.proofs.Linked.{Within, each-length, goes-other, links-hold, more-length, moved-link, own-link, own-none, derived-none, proxying-link, unlinked-part}

clash : (t : Bool) → t ≡ true → t ≡ false → ⊥
clash t p q = cc

none-some : (x : Option SessId) (a : SessId) → x ≡ None → x ≡ Some a → ⊥
none-some x a p q = cc

-- ## A link that is read was set

-- what one is linked to is what was set
set-is : (a : SessId) (link : Option SessId) (xs : List SessionView) (b : SessId) → other (set a link xs) a ≡ Some b
    → link ≡ Some b
unfolding set other change_first linked_to
set-is a link [] b is = cc
set-is a link (s ∷ xs) b is = by-test (s.id.0 == a.0) refl (set-is a link xs b) is
  where
    by-test : (at : Bool) → (s.id.0 == a.0) ≡ at → (other (set a link xs) a ≡ Some b → link ≡ Some b)
        → other (set a link (s ∷ xs)) a ≡ Some b → link ≡ Some b
    by-test true has later is = sym (rw (has, has) refl) ∙ is
    by-test false has later is = later (sym (rw (has, has) refl) ∙ is)

-- a link that was taken away isn't read
set-back : (c a b : SessId) (xs : List SessionView) → other (set c None xs) a ≡ Some b → other xs a ≡ Some b
set-back c a b xs is = by (c.0 == a.0) refl
  where
    by : (t : Bool) → (c.0 == a.0) ≡ t → other xs a ≡ Some b
    by true here = absurd (none-some (other (set c None xs) a) b (subst (λ (e : SessId). other (set c None xs) e ≡ None) (same-sess c a here) (set-none c xs)) is)
    by false away = sym (set-other c a None xs away) ∙ is

part-back : (c a b : SessId) (was : Option SessId) (xs : List SessionView) → other (part c was xs) a ≡ Some b
    → other xs a ≡ Some b
unfolding part
part-back c a b None xs is = set-back c a b xs is
part-back c a b (Some d) xs is = set-back d a b xs (set-back c a b (set d None xs) is)

some-same : (c d : SessId) → Some c ≡ Some d → (d.0 == d.0) ≡ true → (c.0 == d.0) ≡ true
some-same c d is own = rw (same c d is) own
  where
    same : (c d : SessId) → Some c ≡ Some d → c ≡ d
    same c d is = cc

own-number : (a : ℕ) → (a == a) ≡ true
own-number a = grind (arith, nat_tests)

-- two others are linked
link-back : (xs : List SessionView) (c d a b : SessId) → ((c.0 == a.0) && (d.0 == b.0)) ≡ false
    → ((d.0 == a.0) && (c.0 == b.0)) ≡ false → other (set c (Some d) (set d (Some c) xs)) a ≡ Some b
    → other xs a ≡ Some b
link-back xs c d a b one two is = by (c.0 == a.0) (d.0 == a.0) refl refl one two
  where
    ys : List SessionView
    ys = set d (Some c) xs

    by : (at on : Bool) → (c.0 == a.0) ≡ at → (d.0 == a.0) ≡ on → (at && (d.0 == b.0)) ≡ false
        → (on && (c.0 == b.0)) ≡ false → other xs a ≡ Some b
    by true on here there apart apart-too =
        let linked : other (set c (Some d) ys) c ≡ Some b = subst (λ (e : SessId). other (set c (Some d) ys) e ≡ Some b) (sym (same-sess c a here)) is in
        absurd (clash (d.0 == b.0) (some-same d b (set-is c (Some d) ys b linked) (own-number b.0)) apart)
    by false true here there apart apart-too =
        let linked : other ys d ≡ Some b = subst (λ (e : SessId). other ys e ≡ Some b) (sym (same-sess d a there)) (sym (set-other c a (Some d) ys here) ∙ is) in
        absurd (clash (c.0 == b.0) (some-same c b (set-is d (Some c) xs b linked) (own-number b.0)) apart-too)
    by false false here there apart apart-too = sym (made-else xs c d a here there) ∙ is

-- ## What isn't linked stays so

SameLength : SessionView → SessionView → Type 0
SameLength s t = Unit {0}

keep : (s : SessionView) → SameLength s s
unfolding SameLength
keep s = tt

trans : (r s t : SessionView) → SameLength r s → SameLength s t → SameLength r t
unfolding SameLength
trans r s t p q = tt

links : (link : Option SessId) (s : SessionView) → SameLength s (linked_to link s)
unfolding SameLength
links link s = tt

goes : (s : SessionView) → SameLength s (record s { gone = true })
unfolding SameLength
goes s = tt

any-link : (s t : SessionView) → SameLink s t → SameLength s t
unfolding SameLength
any-link s t same = tt

or-both : (a b : Bool) → (a || b) ≡ false → (a ≡ false) × (b ≡ false)
or-both true b is = cc
or-both false b is = (refl, is)

flipped : (a b : Bool) → (a && b) ≡ false → (b && a) ≡ false
flipped true true is = is
flipped true false is = refl
flipped false true is = refl
flipped false false is = refl

low : (n m k : ℕ) → n ≤ m → k ≡ m → n ≤ k
low n m k less is = omega (arith, less, is)

lower : (n m k : ℕ) → n ≤ m → k ≡ m + 1 → n ≤ k
lower n m k less is = omega (arith, less, is)

not-new : (n m k : ℕ) → n ≤ m → k ≡ m + 1 → (k == n) ≡ false
not-new n m k less is = grind (arith, nat_tests, less, is)

and-none : (a b : Bool) → b ≡ false → (a && b) ≡ false
and-none true b is = is
and-none false b is = refl

module _ (a b : SessId) (Was : Type 0) where
  -- both are numbers that were given, and that they are linked is known
  abbrev Knows : List SessionView → Type 0
  Knows xs = (a.0 ≤ length xs) × (b.0 ≤ length xs) × (other xs a ≡ Some b → Was)

  knows-by : (xs ys : List SessionView) → length ys ≡ length xs → (other ys a ≡ Some b → other xs a ≡ Some b) → Knows xs
      → Knows ys
  knows-by xs ys same back knows = (low a.0 (length xs) (length ys) knows.0 same, low b.0 (length xs) (length ys) knows.1 same, λ is. knows.2 (back is))

  knows-each : (xs ys : List SessionView) → Each SameLink xs ys → Knows xs → Knows ys
  knows-each xs ys same knows = knows-by xs ys (each-length SameLink xs ys same) (λ is. sym (other-each xs ys a same) ∙ is) knows

  knows-more : (xs : List SessionView) (new : SessionView) → new.linked ≡ None → Knows xs → Knows (xs ++ new ∷ [])
  knows-more xs new none knows = (
    lower a.0 (length xs) (length (xs ++ new ∷ [])) knows.0 (more-length xs new),
    lower b.0 (length xs) (length (xs ++ new ∷ [])) knows.1 (more-length xs new),
    λ is. knows.2 (sym (other-more xs new a none) ∙ is),
  )

  unlinked-back : (view : View) (sess : SessId) → other (unlinked sess view).sessions a ≡ Some b
      → other view.sessions a ≡ Some b
  unlinked-back view sess is = part-back sess a b (other view.sessions sess) view.sessions (ap (λ (xs : List SessionView). other xs a) (sym (unlinked-part view sess)) ∙ is)

  unlinks-knows : (view : View) (sess : SessId) → Knows view.sessions → Knows (unlinked sess view).sessions
  unlinks-knows view sess knows =
      knows-by view.sessions (unlinked sess view).sessions (each-length SameLength view.sessions _ (unlinked-each SameLength keep trans links goes sess view)) (unlinked-back view sess) knows

  removes-knows : (view : View) (sess : SessId) → Knows view.sessions → Knows (removed sess view).sessions
  unfolding removed
  removes-knows view sess knows =
      knows-by view.sessions (removed sess view).sessions (each-length SameLength view.sessions _ (removed-each SameLength keep trans links goes sess view)) (removed-back view sess) knows
    where
      removed-back : (view : View) (sess : SessId) → other (removed sess view).sessions a ≡ Some b
          → other view.sessions a ≡ Some b
      removed-back view sess is = unlinked-back view sess (sym (goes-other (unlinked sess view).sessions sess a) ∙ is)

  linked-knows : (view : View) (c d : SessId) → are_both c d a b ≡ false → Knows view.sessions
      → Knows (linked c d view).sessions
  unfolding linked set
  linked-knows view c d apart knows =
      let both = or-both ((c.0 == a.0) && (d.0 == b.0)) ((c.0 == b.0) && (d.0 == a.0)) apart in
      knows-by view.sessions (linked c d view).sessions (each-length SameLength view.sessions _ (linked-each SameLength keep trans links goes c d view))
      (link-back view.sessions c d a b both.0 (flipped (c.0 == b.0) (d.0 == a.0) both.1)) knows

  begins-knows : (view : View) → Knows view.sessions → Knows (with_own_session view).sessions
  unfolding with_own_session
  begins-knows view knows = knows-more view.sessions (own_session view) (own-none view) knows

  new-apart : (view : View) (sess : SessId) → Knows view.sessions → are_both sess (new_session view) a b ≡ false
  new-apart view sess knows = both-none (and-none (sess.0 == a.0) _ (not-new b.0 (length view.sessions) _ knows.1 refl)) (and-none (sess.0 == b.0) _ (not-new a.0 (length view.sessions) _ knows.0 refl))
    where
      both-none : {x y : Bool} → x ≡ false → y ≡ false → (x || y) ≡ false
      both-none p q = rw (p, q) refl

  leg-knows : (play : Play) (request : Option RequestView) → Knows play.view.sessions
      → Knows (created_leg request play).view.sessions
  unfolding created_leg with_draft
  leg-knows play None knows = knows
  leg-knows play (Some request) knows = linked-knows (with_own_session play.view) request.sess (new_session play.view) (new-apart play.view request.sess knows) (begins-knows play.view knows)

  turns-knows : (request : Option RequestView) (count : ℕ) (view : View) → Knows view.sessions
      → Knows (proxied request count view).sessions
  unfolding proxied
  turns-knows None count view knows = knows
  turns-knows (Some request) count view knows = knows-each view.sessions _ (each-first SameLink view.sessions (is_session request.sess) proxying own-link proxying-link) knows

  pub apart-law : (event : Queued)
      → SessionLaws event (LeavesApart a b) (λ x y. Knows x.view.sessions → Knows y.view.sessions)
  unfolding LeavesApart
  apart-law event = record {
    same = λ x ok. ok;
    after = λ x y z p q ok. q (p ok);
    dates = λ x now ok. ok;
    expires = λ x due ok. ok;
    flags = λ x flag ok. ok;
    times = λ x timers next ok. ok;
    attributes = λ x fields ok. ok;
    counts = λ x ok. ok;
    numbers = λ x ok. ok;
    moves = λ x sessions same ok. knows-each x.view.sessions sessions (each-weaker IsMoved SameLink x.view.sessions sessions moved-link same) ok;
    renews = λ x requests same ok. ok;
    drops = λ x test ok. ok;
    same_legs = λ x legs same ok. ok;
    same_proxies = λ x all same ok. ok;
    forgets = λ x test ok. ok;
    unlinks = λ x sess does ok. unlinks-knows x.view sess ok;
    removes = λ x sess ok. removes-knows x.view sess ok;
    receives = λ x number sess initial passed request brings ok. received-holds (λ v k. Knows v.sessions) x number sess initial passed request (λ invited. ok);
    shows = λ x request again ok. ok;
    sends = λ x draft request ok. ok;
    sends_none = λ x draft ok. ok;
    begins = λ x ok. begins-knows x.view ok;
    derives = λ x req sess original came tag is ok. knows-more x.view.sessions (derived_session x.view original tag) (derived-none x.view original tag) ok;
    begins_leg = λ play known req uri request kept is does found has ok. leg-knows play request ok;
    links = λ play known c d is does ok. linked-knows play.view c d does ok;
    turns = λ play known req uris how request is does found ok. turns-knows request _ play.view ok;
    passes = λ x req kept is ok. ok;
  }

-- the number of one that is there was given
there-within : (xs : List SessionView) (c : SessId) → is_gone (find (is_session c) xs) ≡ false → Within xs
    → c.0 ≤ length xs
unfolding is_gone
there-within xs c there all = by (find (is_session c) xs) refl there
  where
    by : (found : Option SessionView) → find (is_session c) xs ≡ found → is_gone found ≡ false → c.0 ≤ length xs
    by None found there = cc
    by (Some s) found there = subst (λ (e : SessId). e.0 ≤ length xs) (same-sess s.id c (test-found (is_session c) xs s found)) (all-found (λ (s : SessionView). s.id.0 ≤ length xs) (is_session c) xs s found all)

-- two that were there, and that no call linked, were linked before where they are
pub links-made : (config : Config) (history : History) (later earlier : List Turn) (a b : SessId)
    → IsSince (λ event. Unit {0}) (LeavesApart a b) config history earlier later
    → is_gone_in (session_after config history earlier).view a ≡ false
    → is_gone_in (session_after config history earlier).view b ≡ false
    → partner (session_after config history (later ++ earlier)).view a ≡ Some b
    → partner (session_after config history earlier).view a ≡ Some b
unfolding partner other
links-made config history later earlier a b since here there =
    let before = links-hold config history earlier in
    let x = session_after config history earlier in
    let Was : Type 0 = other x.view.sessions a ≡ Some b in
    let law = apart-law a b Was in
    let knows = lives-relate later earlier (λ event. Unit {0}) (LeavesApart a b) (λ x y. Knows a b Was x.view.sessions → Knows a b Was y.view.sessions) config history (law queued.Ready).same (law queued.Ready).after (λ event good. law event) since
    (there-within x.view.sessions a here before.0, there-within x.view.sessions b there before.0, λ is. is) in
    knows.2
