-- Links are made, and taken away, by calls alone.
use Rattle.std.proofs.Common.{◌≡◌, ℕ, ◌++◌, Bool, true, false, Option, None, Some, List, [], ◌∷◌, refl, ap, sym, subst, ◌∙◌, arith}
use Rattle.std.proofs.lemmas.Bool.Decides.{nat_tests}
use Rattle.std.specs.Prelude.{length, ◌==◌, ◌||◌, is_some, option_map}
use Rattle.std.specs.List.{find}
use Rattle.sc_value.specs.declared.ids.ReqId.{ReqId}
use Rattle.sc_value.specs.declared.ids.SessId.{SessId}
use Rattle.sc_value.specs.declared.parts.Uri.{Uri}
use Rattle.sc_terms.specs.declared.calls.Call.TheVariants as calls
use Rattle.sc_terms.specs.declared.settings.Config.{Config}
use Rattle.sc_terms.specs.declared.views.RequestView.{RequestView}
use Rattle.sc_terms.specs.declared.views.SessionView.{SessionView}
use Rattle.sc_terms.specs.declared.views.View.{View}
use Rattle.sc_state.specs.declared.queue.Queued.{Queued}
use Rattle.sc_state.specs.declared.queue.Queued.TheVariants as queued
use Rattle.sc_state.specs.declared.session.Session.{Session}
use Rattle.sc_state.specs.declared.working.Play.{Play}
use Rattle.sc_hosts.specs.DerivedSessions.{derived_session}
use Rattle.sc_hosts.specs.Effects.{created_leg, view_with_targets as proxied, proxying, with_draft}
use Rattle.sc_hosts.specs.Histories.{History, session_after}
use Rattle.sc_hosts.specs.Looking.{is_gone_in, is_gone, is_session, partner, request_in, without_link as unlinked, without_sip_session as removed}
use Rattle.sc_hosts.specs.Refusals.{refusal}
use Rattle.sc_hosts.specs.Sessions.{Turn}
use Rattle.sc_hosts.specs.ViewChanges.{with_link as linked, new_session, own_session, with_own_session}
use Rattle.sc_walked.specs.SessionWalks.{Each, IsMoved, SessionLaws}
use Rattle.sc_walked.proofs.WalkParts.{each-first}
use Rattle.sc_lasting.specs.Lasting.{IsSince, LeavesLinked}
use Rattle.sc_lasting.proofs.Parts.{each-weaker, received-holds}
use Rattle.sc_lasting.proofs.Held.{lives-relate}
use Rattle.sc_lasting.proofs.Pairs.{AreMutual, SameLink, other, other-each, other-more, set, part, same-sess, set-other, part-else, made-else, own-number}
use Rattle.sc_lasting.proofs.Gone.{SameGone, gone_of, gone-each, gone-more, gone-set, gone-part, goes_in, goes-there, goes-back, goes-other-one, linked-in}
use Rattle.sc_lasting.proofs.Linked.{AreLinked, goes-other, unlinked-part, moved-link, own-link, proxying-link, own-none, derived-none, accepted-link, link-free, leg-free, new-free, linked-law, links-hold}

same-link-gone : (s t : SessionView) → SameLink s t → SameGone s t
same-link-gone s t same = record { id = same.id; gone = same.gone }

turn : (a b : ℕ) (t : Bool) → (a == b) ≡ t → (b == a) ≡ t
turn a b true is = grind (arith, nat_tests, is)
turn a b false is = grind (arith, nat_tests, is)

or-both : (a b : Bool) → (a || b) ≡ false → (a ≡ false) × (b ≡ false)
or-both true b is = cc
or-both false b is = (refl, is)

same-some : (x : Option SessId) (a b : SessId) → x ≡ Some a → x ≡ Some b → a ≡ b
same-some x a b p q = cc

none-some : (x : Option SessId) (a : SessId) → x ≡ None → x ≡ Some a → ⊥
none-some x a p q = cc

-- ## A link stays

-- both are in the list, and where neither is gone they are linked
abbrev Keeps : SessId → SessId → List SessionView → Type 0
Keeps a b xs = (is_some (gone_of xs a) ≡ true) × (is_some (gone_of xs b) ≡ true) × (gone_of xs a ≡ Some false → gone_of xs b ≡ Some false → other xs a ≡ Some b)

module _ (a b : SessId) where
  kept-by : (xs ys : List SessionView) → gone_of ys a ≡ gone_of xs a → gone_of ys b ≡ gone_of xs b
      → (other xs a ≡ Some b → other ys a ≡ Some b) → Keeps a b xs → Keeps a b ys
  kept-by xs ys here there same keeps = (
    ap (λ (x : Option Bool). is_some x) here ∙ keeps.0,
    ap (λ (x : Option Bool). is_some x) there ∙ keeps.1,
    λ one two. same (keeps.2 (sym here ∙ one) (sym there ∙ two)),
  )

  kept-each : (xs ys : List SessionView) → Each SameLink xs ys → Keeps a b xs → Keeps a b ys
  kept-each xs ys same keeps =
      let gone = each-weaker SameLink SameGone xs ys same-link-gone same in
      kept-by xs ys (gone-each xs ys a gone) (gone-each xs ys b gone) (λ is. other-each xs ys a same ∙ is) keeps

  kept-more : (xs : List SessionView) (new : SessionView) → new.linked ≡ None → Keeps a b xs
      → Keeps a b (xs ++ new ∷ [])
  kept-more xs new none keeps = kept-by xs (xs ++ new ∷ []) (gone-more xs new a keeps.0) (gone-more xs new b keeps.1) (λ is. other-more xs new a none ∙ is) keeps

  -- another is parted
  part-keeps : (xs : List SessionView) (sess : SessId) (was : Option SessId) → other xs sess ≡ was → AreMutual xs
      → (sess.0 == a.0) ≡ false → (sess.0 == b.0) ≡ false → other xs a ≡ Some b → other (part sess was xs) a ≡ Some b
  unfolding part
  part-keeps xs sess None has ok here there is = set-other sess a None xs here ∙ is
  part-keeps xs sess (Some d) has ok here there is = by (d.0 == a.0) refl
    where
      clash : (t : Bool) → t ≡ false → t ≡ true → ⊥
      clash t p q = cc

      by : (t : Bool) → (d.0 == a.0) ≡ t → other (set sess None (set d None xs)) a ≡ Some b
      by false away = part-else xs sess d a here away ∙ is
      by true away =
          let back : other xs a ≡ Some sess = ok.paired sess a (has ∙ ap (λ (e : SessId). Some e) (same-sess d a away)) in
          absurd (clash (sess.0 == b.0) there (subst (λ (e : SessId). (sess.0 == e.0) ≡ true) (same-some (other xs a) sess b back is) (own-number sess.0)))

  unlinks-keeps : (view : View) (sess : SessId) → (sess.0 == a.0) ≡ false → (sess.0 == b.0) ≡ false
      → AreLinked view.sessions → Keeps a b view.sessions → Keeps a b (unlinked sess view).sessions
  unlinks-keeps view sess here there ok keeps =
      let xs = view.sessions in
      let was = other xs sess in
      subst (λ (ys : List SessionView). Keeps a b ys) (sym (unlinked-part view sess))
      (kept-by xs (part sess was xs) (gone-part sess was xs a) (gone-part sess was xs b) (part-keeps xs sess was refl ok.1 here there) keeps)

  removed-keeps : (xs : List SessionView) (sess : SessId) → AreLinked xs → Keeps a b xs
      → Keeps a b (goes_in sess (part sess (other xs sess) xs))
  removed-keeps xs sess ok keeps =
      let ys = part sess (other xs sess) xs in
      let has : is_some (gone_of ys a) ≡ true = ap (λ (x : Option Bool). is_some x) (gone-part sess (other xs sess) xs a) ∙ keeps.0 in
      let has-too : is_some (gone_of ys b) ≡ true = ap (λ (x : Option Bool). is_some x) (gone-part sess (other xs sess) xs b) ∙ keeps.1 in (
        goes-there ys sess a ∙ has,
        goes-there ys sess b ∙ has-too,
        λ one two. goes-other ys sess a ∙ part-keeps xs sess (other xs sess) refl ok.1
            (goes-other-one ys sess a _ refl (same-sess sess a) has one) (goes-other-one ys sess b _ refl (same-sess sess b) has-too two)
            (keeps.2 (sym (gone-part sess (other xs sess) xs a) ∙ goes-back ys sess a one) (sym (gone-part sess (other xs sess) xs b) ∙ goes-back ys sess b two)),
      )

  removes-keeps : (view : View) (sess : SessId) → AreLinked view.sessions → Keeps a b view.sessions
      → Keeps a b (removed sess view).sessions
  unfolding removed
  removes-keeps view sess ok keeps = subst (λ (ys : List SessionView). Keeps a b (goes_in sess ys)) (sym (unlinked-part view sess)) (removed-keeps view.sessions sess ok keeps)

  -- two that are free are linked
  free-apart : (xs : List SessionView) (c : SessId) → other xs c ≡ None → other xs a ≡ Some b → (c.0 == a.0) ≡ false
  free-apart xs c free is = by (c.0 == a.0) refl
    where
      by : (t : Bool) → (c.0 == a.0) ≡ t → t ≡ false
      by false away = refl
      by true away = absurd (none-some (other xs a) b (subst (λ (e : SessId). other xs e ≡ None) (same-sess c a away) free) is)

  links-keep : (xs : List SessionView) (c d : SessId) → other xs c ≡ None → other xs d ≡ None → Keeps a b xs
      → Keeps a b (set c (Some d) (set d (Some c) xs))
  links-keep xs c d free free-too keeps =
      kept-by xs (set c (Some d) (set d (Some c) xs)) (gone-set c (Some d) (set d (Some c) xs) a ∙ gone-set d (Some c) xs a) (gone-set c (Some d) (set d (Some c) xs) b ∙ gone-set d (Some c) xs b)
      (λ is. made-else xs c d a (free-apart xs c free is) (free-apart xs d free-too is) ∙ is) keeps

  linked-keeps : (view : View) (c d : SessId) → other view.sessions c ≡ None → other view.sessions d ≡ None
      → Keeps a b view.sessions → Keeps a b (linked c d view).sessions
  unfolding linked set
  linked-keeps view c d free free-too keeps = links-keep view.sessions c d free free-too keeps

  begins-keeps : (view : View) → Keeps a b view.sessions → Keeps a b (with_own_session view).sessions
  unfolding with_own_session
  begins-keeps view keeps = kept-more view.sessions (own_session view) (own-none view) keeps

  leg-at : (view : View) (sess : SessId) → other view.sessions sess ≡ None → AreLinked view.sessions
      → Keeps a b view.sessions → Keeps a b (linked sess (new_session view) (with_own_session view)).sessions
  unfolding with_own_session
  leg-at view sess free ok keeps =
      let xs = view.sessions in
      linked-keeps (with_own_session view) sess (new_session view) (other-more xs (own_session view) sess (own-none view) ∙ free)
      (other-more xs (own_session view) (new_session view) (own-none view) ∙ new-free xs (length xs) (new_session view) refl ok.0) (begins-keeps view keeps)

  leg-keeps : (play : Play) (req : ReqId) (uri : Option Uri) (request : Option RequestView)
      → refusal play (calls.B2bCreate req uri) ≡ None → request_in play.view req ≡ request
      → AreLinked play.view.sessions → Keeps a b play.view.sessions → Keeps a b (created_leg request play).view.sessions
  unfolding created_leg with_draft partner other
  leg-keeps play req uri None is found ok keeps = keeps
  leg-keeps play req uri (Some request) is found ok keeps = leg-at play.view request.sess (leg-free play req uri request is found) ok keeps

  turns-keeps : (request : Option RequestView) (count : ℕ) (view : View) → Keeps a b view.sessions
      → Keeps a b (proxied request count view).sessions
  unfolding proxied
  turns-keeps None count view keeps = keeps
  turns-keeps (Some request) count view keeps = kept-each view.sessions _ (each-first SameLink view.sessions (is_session request.sess) proxying own-link proxying-link) keeps

  call-keeps : (play : Play) (c d : SessId) → refusal play (calls.Link c d) ≡ None → Keeps a b play.view.sessions
      → Keeps a b (linked c d play.view).sessions
  unfolding partner other
  call-keeps play c d is keeps = let free = link-free play.view c d (accepted-link play c d is) in linked-keeps play.view c d free.0 free.1 keeps

  abbrev Stays : Session → Type 0
  Stays x = AreLinked x.view.sessions × Keeps a b x.view.sessions

  stays-law : (event : Queued) → SessionLaws event (LeavesLinked a b) (λ x y. Stays x → Stays y)
  unfolding LeavesLinked
  stays-law event =
      let law = linked-law event (LeavesLinked a b) in record {
        same = λ x ok. ok;
        after = λ x y z p q ok. q (p ok);
        dates = λ x now ok. ok;
        expires = λ x due ok. ok;
        flags = λ x flag ok. ok;
        times = λ x timers next ok. ok;
        attributes = λ x fields ok. ok;
        counts = λ x ok. ok;
        numbers = λ x ok. ok;
        moves = λ x sessions same ok. (law.moves x sessions same ok.0, kept-each x.view.sessions sessions (each-weaker IsMoved SameLink x.view.sessions sessions moved-link same) ok.1);
        renews = λ x requests same ok. ok;
        drops = λ x test ok. ok;
        same_legs = λ x legs same ok. ok;
        same_proxies = λ x all same ok. ok;
        forgets = λ x test ok. ok;
        unlinks = λ x sess does ok. (law.unlinks x sess does ok.0, unlinks-keeps x.view sess (or-both (sess.0 == a.0) (sess.0 == b.0) does).0 (or-both (sess.0 == a.0) (sess.0 == b.0) does).1 ok.0 ok.1);
        removes = λ x sess ok. (law.removes x sess ok.0, removes-keeps x.view sess ok.0 ok.1);
        receives = λ x number sess initial passed request brings ok. received-holds (λ v k. AreLinked v.sessions × Keeps a b v.sessions) x number sess initial passed request (λ invited. ok);
        shows = λ x request again ok. ok;
        sends = λ x draft request ok. ok;
        sends_none = λ x draft ok. ok;
        begins = λ x ok. (law.begins x ok.0, begins-keeps x.view ok.1);
        derives = λ x req sess original came tag is ok. (law.derives x req sess original came tag is ok.0, kept-more x.view.sessions (derived_session x.view original tag) (derived-none x.view original tag) ok.1);
        begins_leg = λ play known req uri request kept is does found has ok. (law.begins_leg play known req uri request kept is does found has ok.0, leg-keeps play req uri request is found ok.0 ok.1);
        links = λ play known c d is does ok. (law.links play known c d is does ok.0, call-keeps play c d is ok.1);
        turns = λ play known req uris how request is does found ok. (law.turns play known req uris how request is does found ok.0, turns-keeps request _ play.view ok.1);
        passes = λ x req kept is ok. ok;
      }

-- one that is there isn't gone
there-gone : (xs : List SessionView) (c : SessId) → is_gone (find (is_session c) xs) ≡ false → gone_of xs c ≡ Some false
unfolding gone_of is_gone
there-gone xs c there = by (find (is_session c) xs) there
  where
    by : (found : Option SessionView) → is_gone found ≡ false
        → option_map (λ (session : SessionView). session.gone) found ≡ Some false
    by None is = cc
    by (Some s) is = ap (λ (b : Bool). Some b) is

-- a link that no call took away is there as long as both are
pub links-last : (config : Config) (history : History) (later earlier : List Turn) (a b : SessId)
    → IsSince (λ event. Unit {0}) (LeavesLinked a b) config history earlier later
    → partner (session_after config history earlier).view a ≡ Some b
    → is_gone_in (session_after config history (later ++ earlier)).view a ≡ false
    → is_gone_in (session_after config history (later ++ earlier)).view b ≡ false
    → partner (session_after config history (later ++ earlier)).view a ≡ Some b
unfolding partner other
links-last config history later earlier a b since is here there =
    let before = links-hold config history earlier in
    let x = session_after config history earlier in
    let y = session_after config history (later ++ earlier) in
    let law = stays-law a b in
    let kept = lives-relate later earlier (λ event. Unit {0}) (LeavesLinked a b) (λ x y. Stays a b x → Stays a b y) config history (law queued.Ready).same (law queued.Ready).after (λ event good. law event) since
    (before, (linked-in x.view.sessions a b is, linked-in x.view.sessions b a (before.1.paired a b is), λ one two. is)) in
    kept.1.2 (there-gone y.view.sessions a here) (there-gone y.view.sessions b there)
