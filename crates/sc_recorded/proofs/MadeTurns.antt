-- The requests that a whole turn gives to send: each without To tag has no Record-Route, or that of the request that began the session as it is
-- proxied.
use Rattle.std.proofs.Common.{◌≡◌, ◌≤◌, ℕ, Bool, true, Option, None, Some, List, refl, sym, ap, subst, ◌∙◌, arith}
use Rattle.std.specs.Prelude.{◌==◌, is_some, length, option_and_then}
use Rattle.std.specs.List.{find}
use Rattle.std.proofs.lemmas.Bool.Decides.{nat_tests}
use Rattle.sc_value.specs.declared.ids.AppId.{AppId}
use Rattle.sc_value.specs.declared.ids.ReqId.{ReqId}
use Rattle.sc_value.specs.declared.message.Request.{Request}
use Rattle.sc_terms.specs.declared.settings.Config.{Config}
use Rattle.sc_terms.specs.declared.views.RequestView.{RequestView}
use Rattle.sc_terms.specs.declared.views.View.{View}
use Rattle.sc_state.specs.declared.queue.Queued.{Queued}
use Rattle.sc_state.specs.declared.queue.Queued.TheVariants as queued
use Rattle.sc_state.specs.declared.session.Kept.{Kept}
use Rattle.sc_state.specs.declared.session.Session.{Session}
use Rattle.sc_state.specs.declared.working.Play.{Play}
use Rattle.sc_state.specs.declared.working.Prepared.{Prepared}
use Rattle.sc_state.specs.declared.working.Working.{Working}
use Rattle.sc_model.specs.Dialogs.{tag_of}
use Rattle.sc_hosts.specs.Acting.{all_act, drafts_ended, after_fault as faulted, is_request_event}
use Rattle.sc_hosts.specs.Effects.{created_leg, view_with_targets as proxied, with_draft}
use Rattle.sc_hosts.specs.Finishing.{after_all_calls as finished, outcome, outcome_of}
use Rattle.sc_hosts.specs.Looking.{is_request, without_sip_session as removed, request_in, same_request, without_link as unlinked}
use Rattle.sc_hosts.specs.Preparing.{kept_of, prepared_session as prepared}
use Rattle.sc_hosts.specs.PreparingRequests.{with_received_request as received}
use Rattle.sc_hosts.specs.Sessions.{Turn}
use Rattle.sc_hosts.specs.ViewChanges.{with_link as linked, with_own_session}
use Rattle.sc_hosts.specs.Working.{worked_all}
use Rattle.sc_walked.specs.SessionWalks.{SessionLaws}
use Rattle.sc_walked.proofs.WalkCalls.{session_at}
use Rattle.sc_lasting.specs.Lasting.{All, IsOf}
use Rattle.sc_lasting.proofs.Began.{test-found}
use Rattle.sc_lasting.proofs.Parts.{all-found, removed-only, unlinked-only}
use Rattle.sc_given.specs.Givings.{IsNamed}
use Rattle.sc_proxying.proofs.Requests.{IsKeptAs}
use Rattle.sc_proxying.proofs.Rising.{IsNumbered}
use Rattle.sc_proxying.proofs.Turns.{acting-walks, keeps-it, shown-req}
use Rattle.sc_begun.specs.Begun.{IsFirst}
use Rattle.sc_begun.proofs.FirstProxies.{AreProper, proper-law}
use Rattle.sc_recorded.specs.Recorded.{IsTaggedEvent, route_behind as routed}
use Rattle.sc_recorded.proofs.Faithful.{AreRight, acting-right, all-faithful}
use Rattle.sc_recorded.proofs.MadeGiven.{AreMade, all_act-made, before-made, passes_later-made, prepared-made, worked_all-made}
use Rattle.sc_recorded.proofs.Settled.{SaysSo}

-- ## A session keeps its names

-- the same epoch and name
abbrev SameNames : View → View → Type 0
SameNames v w = (w.epoch ≡ v.epoch) × (w.app ≡ v.app)

named-then : (u v w : View) → SameNames u v → SameNames v w → SameNames u w
named-then u v w p q = (q.0 ∙ p.0, q.1 ∙ p.1)

shown-names : (v w : View) → w ≡ record v { sessions = w.sessions } → SameNames v w
shown-names v w is = (ap (λ (u : View). u.epoch) is, ap (λ (u : View). u.app) is)

leg-names : (request : Option RequestView) (play : Play) → SameNames play.view (created_leg request play).view
unfolding created_leg with_draft linked with_own_session
leg-names None play = (refl, refl)
leg-names (Some request) play = (refl, refl)

proxied-names : (request : Option RequestView) (count : ℕ) (view : View) → SameNames view (proxied request count view)
unfolding proxied
proxied-names None count view = (refl, refl)
proxied-names (Some request) count view = (refl, refl)

names-law : (event : Queued) → SessionLaws event (λ call. Unit {0}) (λ x y. SameNames x.view y.view)
unfolding received with_own_session linked
names-law event = record {
  same = λ x. (refl, refl);
  after = λ x y z p q. named-then x.view y.view z.view p q;
  dates = λ x now. (refl, refl);
  expires = λ x due. (refl, refl);
  flags = λ x flag. (refl, refl);
  times = λ x timers next. (refl, refl);
  attributes = λ x fields. (refl, refl);
  counts = λ x. (refl, refl);
  numbers = λ x. (refl, refl);
  moves = λ x sessions same. (refl, refl);
  renews = λ x requests same. (refl, refl);
  drops = λ x test. (refl, refl);
  same_legs = λ x legs same. (refl, refl);
  same_proxies = λ x all same. (refl, refl);
  forgets = λ x test. (refl, refl);
  unlinks = λ x sess does. shown-names x.view (unlinked sess x.view) (unlinked-only sess x.view);
  removes = λ x sess. shown-names x.view (removed sess x.view) (removed-only sess x.view);
  receives = λ x number sess initial passed request brings. (refl, refl);
  shows = λ x request again. (refl, refl);
  sends = λ x draft request. (refl, refl);
  sends_none = λ x draft. (refl, refl);
  begins = λ x. (refl, refl);
  derives = λ x req sess original came tag is. (refl, refl);
  begins_leg = λ play known req uri request kept is ok found has. leg-names request play;
  links = λ play known a b is ok. (refl, refl);
  turns = λ play known req uris how request is ok found. proxied-names request _ play.view;
  passes = λ x req kept is. (refl, refl);
}

-- ## One turn

equal : (a b : ℕ) → (a == b) ≡ true → a ≡ b
equal a b is = grind (arith, nat_tests, is)

module _ (config : Config) (turn : Turn) (x : Session) where
  abbrev shown : Prepared
  shown = prepared config turn.ringing x turn.waiting turn.now

  abbrev played : Working
  played = worked_all config shown turn.calls

  abbrev acting : Working
  acting = faulted config shown.req turn.end (drafts_ended played)

  abbrev acted : Working
  acted = all_act config acting

  -- what is passed on has the To tag with which it came
  kept-tagged : (request : Request) (all : List Kept) (r : RequestView) (kept : Kept) → is_some (tag_of request.head.to) ≡ true → All (IsKeptAs x.view.next_request request) all
      → r.id.0 ≡ x.view.next_request → find (λ k. same_request k.id r.id) all ≡ Some kept → is_some (tag_of kept.request.head.to) ≡ true
  unfolding IsKeptAs
  kept-tagged request all r kept tagged keeps number has =
      let at : kept.id.0 ≡ x.view.next_request = equal kept.id.0 r.id.0 (test-found (λ k. same_request k.id r.id) all kept has) ∙ number in
      let same : kept.request ≡ request = all-found (IsKeptAs x.view.next_request request) (λ k. same_request k.id r.id) all kept has keeps at in
      subst (λ (q : Request). is_some (tag_of q.head.to) ≡ true) (sym same) tagged

  passed-tagged : (request : Request) → turn.waiting.event ≡ queued.Request request → is_some (tag_of request.head.to) ≡ true → IsNumbered x
      → (req : Option ReqId) → shown.req ≡ req → (r : RequestView) (kept : Kept) → option_and_then (request_in acted.play.view) req ≡ Some r → kept_of acted.known r.id ≡ Some kept
      → is_some (tag_of kept.request.head.to) ≡ true
  passed-tagged request is tagged numbered None at r kept found has = cc
  passed-tagged request is tagged numbered (Some req) at r kept found has =
      let number : r.id.0 ≡ x.view.next_request = equal r.id.0 req.0 (test-found (is_request req) acted.play.view.requests r found) ∙ shown-req config turn x request is req at in
      kept-tagged request acted.known.kept r kept tagged (keeps-it config turn x request is numbered).1 number has

  tagged-by : (event : Queued) → turn.waiting.event ≡ event → IsTaggedEvent event → IsNumbered x → is_request_event event ≡ true → (r : RequestView) (kept : Kept)
      → option_and_then (request_in acted.play.view) shown.req ≡ Some r → kept_of acted.known r.id ≡ Some kept → is_some (tag_of kept.request.head.to) ≡ true
  unfolding IsTaggedEvent is_request_event
  tagged-by (queued.Request request) is tagged numbered later r kept found has = passed-tagged request is tagged numbered shown.req refl r kept found has
  tagged-by (queued.Initial region subscriber popped request) is tagged numbered later r kept found has = cc
  tagged-by (queued.Response branch response) is tagged numbered later r kept found has = cc
  tagged-by (queued.Cancelled number) is tagged numbered later r kept found has = cc
  tagged-by (queued.Timer id) is tagged numbered later r kept found has = cc
  tagged-by (queued.BranchTimer branch due) is tagged numbered later r kept found has = cc
  tagged-by queued.Expired is tagged numbered later r kept found has = cc
  tagged-by queued.Ready is tagged numbered later r kept found has = cc

  module _ (epoch : ℕ) (app : AppId) (stays : Bool) (began : Request) (some : 1 ≤ length began.head.via) (first : IsFirst began) (named : IsNamed epoch app x.view) where
    -- the orders of the turn
    pub turn-made : IsTaggedEvent turn.waiting.event → IsNumbered x → IsOf began turn.waiting.event → AreProper began x → AreRight x → All (SaysSo stays) acting.known.proxies
        → AreMade (routed config epoch app stays began.head.record_route) (outcome config turn.ringing x turn.waiting turn.now turn.calls turn.end).orders
    unfolding outcome outcome_of finished prepared
    turn-made tagged numbered of proper right says =
        let routes = routed config epoch app stays began.head.record_route in
        let names : SameNames x.view acting.play.view = acting-walks config turn x turn.waiting.event (λ y z. SameNames y.view z.view) (names-law turn.waiting.event) refl in
        let still : AreProper began (session_at acting) = acting-walks config turn x turn.waiting.event (λ y z. AreProper began y → AreProper began z) (proper-law began turn.waiting.event of) refl proper in
        let calls = worked_all-made routes config shown turn.calls (prepared-made routes config turn.ringing (record x { view = record x.view { now = turn.now } }) turn.waiting.number turn.waiting.event) in
        let before = before-made routes config shown.req turn.end played calls in
        let acts = all_act-made config epoch app stays began some acting
        (all-faithful stays began acting.known.proxies first (acting-right config turn x right) says still.proper.1)
        (names.0 ∙ named.0, names.1 ∙ named.1) before in
        passes_later-made routes config turn.waiting.event shown.req acted (λ later r kept found has. tagged-by turn.waiting.event refl tagged numbered later r kept found has) acts
