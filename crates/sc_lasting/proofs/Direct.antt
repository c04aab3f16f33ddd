-- Where no call proxies, no SipSession is a proxy's.
use Rattle.std.proofs.Common.{◌≡◌, true, Option, None, Some, List, refl, ap, ◌∙◌}
use Rattle.sc_value.specs.declared.ids.SessId.{SessId}
use Rattle.sc_terms.specs.declared.settings.Config.{Config}
use Rattle.sc_terms.specs.declared.views.RequestView.{RequestView}
use Rattle.sc_terms.specs.declared.views.SessionView.{SessionView}
use Rattle.sc_terms.specs.declared.views.View.{View}
use Rattle.sc_state.specs.declared.queue.Queued.{Queued}
use Rattle.sc_state.specs.declared.working.Play.{Play}
use Rattle.sc_tokens.specs.Bytes.{Bytes}
use Rattle.sc_hosts.specs.DerivedSessions.{derived_session}
use Rattle.sc_hosts.specs.Effects.{created_leg, with_draft}
use Rattle.sc_hosts.specs.Histories.{History, session_after}
use Rattle.sc_hosts.specs.Legs.{fresh, first_view, first_session}
use Rattle.sc_hosts.specs.Looking.{is_proxy, is_session, linked_to, without_link as unlinked, without_sip_session as removed}
use Rattle.sc_hosts.specs.Sessions.{Turn}
use Rattle.sc_hosts.specs.ViewChanges.{with_link as linked, new_session, own_session, with_own_session}
use Rattle.sc_walked.specs.SessionWalks.{Each, IsMoved, SessionLaws}
use Rattle.sc_lasting.specs.Lasting.{All, IsDirect, AreDirect, Directly, IsLife}
use Rattle.sc_lasting.proofs.Parts.{all-append, all-each, all-found, unlinked-each, removed-each, linked-each, received-holds}
use Rattle.sc_lasting.proofs.Held.{lives-hold}

SameRole : SessionView → SessionView → Type 0
SameRole s t = t.role ≡ s.role

keep : (s : SessionView) → SameRole s s
unfolding SameRole
keep s = refl

trans : (r s t : SessionView) → SameRole r s → SameRole s t → SameRole r t
unfolding SameRole
trans r s t p q = q ∙ p

links : (other : Option SessId) (s : SessionView) → SameRole s (linked_to other s)
unfolding SameRole linked_to
links other s = refl

goes : (s : SessionView) → SameRole s (record s { gone = true })
unfolding SameRole
goes s = refl

same-direct : (s t : SessionView) → SameRole s t → IsDirect s → IsDirect t
unfolding SameRole
same-direct s t same is = ap is_proxy same ∙ is

moved-direct : (s t : SessionView) → IsMoved s t → IsDirect s → IsDirect t
moved-direct s t same is = ap is_proxy same.role ∙ is

own-direct : (view : View) → IsDirect (own_session view)
unfolding own_session is_proxy
own-direct view = refl

derived-direct : (view : View) (original : SessionView) (tag : Bytes) → IsDirect original
    → IsDirect (derived_session view original tag)
unfolding derived_session
derived-direct view original tag is = is

each-direct : (xs ys : List SessionView) → Each SameRole xs ys → All IsDirect xs → All IsDirect ys
each-direct xs ys same all = all-each IsDirect SameRole xs ys same-direct same all

leg-direct : (request : Option RequestView) (play : Play) → All IsDirect play.view.sessions
    → All IsDirect (created_leg request play).view.sessions
unfolding created_leg with_draft with_own_session
leg-direct None play all = all
leg-direct (Some request) play all =
    each-direct (with_own_session play.view).sessions (linked request.sess (new_session play.view) (with_own_session play.view)).sessions (linked-each SameRole keep trans links goes request.sess (new_session play.view) (with_own_session play.view))
    (all-append IsDirect play.view.sessions (own_session play.view) all (own-direct play.view))

begins-direct : (view : View) → All IsDirect view.sessions → All IsDirect (with_own_session view).sessions
unfolding with_own_session
begins-direct view all = all-append IsDirect view.sessions (own_session view) all (own-direct view)

direct-law : (event : Queued) → SessionLaws event Directly (λ x y. AreDirect x → AreDirect y)
unfolding Directly
direct-law event = record {
  same = λ x ok. ok;
  after = λ x y z p q ok. q (p ok);
  dates = λ x now ok. ok;
  expires = λ x due ok. ok;
  flags = λ x flag ok. ok;
  times = λ x timers next ok. ok;
  attributes = λ x fields ok. ok;
  counts = λ x ok. ok;
  numbers = λ x ok. ok;
  moves = λ x sessions same ok. all-each IsDirect IsMoved x.view.sessions sessions moved-direct same ok;
  renews = λ x requests same ok. ok;
  drops = λ x test ok. ok;
  same_legs = λ x legs same ok. ok;
  same_proxies = λ x all same ok. ok;
  forgets = λ x test ok. ok;
  unlinks = λ x sess does ok. each-direct x.view.sessions (unlinked sess x.view).sessions (unlinked-each SameRole keep trans links goes sess x.view) ok;
  removes = λ x sess ok. each-direct x.view.sessions (removed sess x.view).sessions (removed-each SameRole keep trans links goes sess x.view) ok;
  receives = λ x number sess initial passed request brings ok. received-holds (λ v k. All IsDirect v.sessions) x number sess initial passed request (λ invited. ok);
  shows = λ x request again ok. ok;
  sends = λ x draft request ok. ok;
  sends_none = λ x draft ok. ok;
  begins = λ x ok. begins-direct x.view ok;
  derives = λ x req sess original came tag is ok. all-append IsDirect x.view.sessions (derived_session x.view original tag) ok (derived-direct x.view original tag (all-found IsDirect (is_session sess) x.view.sessions original is ok));
  begins_leg = λ play known req uri request kept is does found has ok. leg-direct request play ok;
  links = λ play known a b is does ok. each-direct play.view.sessions (linked a b play.view).sessions (linked-each SameRole keep trans links goes a b play.view) ok;
  turns = λ play known req uris how request is does found ok. absurd does;
  passes = λ x req kept is ok. ok;
}

-- where no call proxies, no SipSession is a proxy's: nothing is passed on
pub nothing-proxied : (config : Config) (history : History) (turns : List Turn)
    → IsLife (λ event. Unit {0}) Directly config history turns → AreDirect (session_after config history turns)
unfolding fresh first_view first_session is_proxy All
nothing-proxied config history turns life = lives-hold turns (λ event. Unit {0}) Directly AreDirect config history (λ event good. direct-law event) life (refl, tt)
