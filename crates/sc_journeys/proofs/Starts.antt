-- Where a later request sets out, and as what it comes to the first session.
use Rattle.std.proofs.Common.{◌≡◌, inl, inr, ◌≤◌, ◌<◌, ℕ, ◌+◌, ◌++◌, ◌^◌, true, Option, None, Some, List, [], ◌∷◌, refl, sym, ap, subst, ◌∙◌, arith}
use Rattle.std.specs.Prelude.{◌==◌, ◌||◌, ◌⊎◌, drop, is_none, length, not, option_and_then, slice_get}
use Rattle.std.specs.List.{find}
use Rattle.sc_value.specs.declared.ids.AppId.{AppId}
use Rattle.sc_value.specs.declared.ids.Place.{Place}
use Rattle.sc_value.specs.declared.message.Message.TheVariants as messages
use Rattle.sc_value.specs.declared.message.Request.{Request}
use Rattle.sc_value.specs.declared.parts.Uri.{Uri}
use Rattle.sc_value.specs.declared.parts.Via.{Via}
use Rattle.sc_tokens.specs.Names.{same_bytes}
use Rattle.sc_terms.specs.declared.calls.CallRecord.{CallRecord}
use Rattle.sc_terms.specs.declared.calls.End.{End}
use Rattle.sc_terms.specs.declared.steps.Step.{Step}
use Rattle.sc_terms.specs.declared.steps.Step.TheVariants as steps
use Rattle.sc_parts.specs.declared.setup.Setup.{Setup}
use Rattle.sc_state.specs.declared.host.Peer.TheVariants as peers
use Rattle.sc_state.specs.declared.net.Net.{Net}
use Rattle.sc_state.specs.declared.session.Session.{Session}
use Rattle.sc_tokens.specs.Bytes.{Bytes}
use Rattle.sc_model.specs.Names.{IsOf64}
use Rattle.sc_hosts.specs.Histories.{as_session}
use Rattle.sc_hosts.specs.Runs.{HasVia, IsAllowed}
use Rattle.sc_hosts.specs.Taking.{names, own_uri, without_own_route as unrouted}
use Rattle.sc_lasting.specs.Lasting.{All}
use Rattle.sc_paths.specs.LaterRequests.{SetOut, has_vias, later_in, leads, set_out_by, visits_from}
use Rattle.sc_paths.specs.Moments.{Got, Moment, given_in, got_in, moments_from}
use Rattle.sc_paths.specs.Pieces.{Dialog, Direction, Piece, ahead, along, end_of, list_of_option as listed, recorders}
use Rattle.sc_hops.specs.Hops.{GoesAs}
use Rattle.sc_hops.proofs.OneTurn.{unrouted-vias}
use Rattle.sc_hops.proofs.OwnBranch.{goes-itself}
use Rattle.sc_ways.proofs.Follows.{EndsAt, named-same, unrouted-call}
use Rattle.sc_ways.proofs.OneHop.{IsFine, IsFirst, moment}
use Rattle.sc_ways.proofs.Outside.{at, first-of}
use Rattle.sc_ways.proofs.OwnBranches.{IsOnOwnBranch}
use Rattle.sc_ways.proofs.Popping.{comes, comes-at-end, leads-same}
use Rattle.sc_ways.proofs.Prefix.{IsCarried, out-by}
use Rattle.sc_ways.proofs.Sending.{sent-first}
use Rattle.sc_ways.proofs.Waits.{Held}
use Rattle.sc_journeys.specs.Journeys.{Halts}
use Rattle.sc_journeys.proofs.Walk.{GoesOrHalts, Outcome, Travels, end-whole, still-other, still-tagged, travel}

-- the first session has what goes the way of the request, and a run of steps follows
pub record Begins (setup : Setup) (epoch : ℕ) (out : SetOut) (rest : List Moment) (got : Got) : Type 0 where
  pub after : Net Session
  pub later : List Step
  pub rest_is : rest ≡ moments_from setup after later
  pub sent : Request
  pub goes : GoesAs out.request sent
  pub first : IsFirst setup sent epoch after got
  pub vias : 1 ≤ length sent.head.via

has-via : (setup : Setup) (net : Net Session) (place : Place) (request : Request) → IsAllowed as_session setup net (steps.In place (messages.Request request)) → 1 ≤ length request.head.via
unfolding IsAllowed HasVia
has-via setup net place request some = omega (arith, some)

module _ (setup : Setup) (epoch : ℕ) (small : epoch < 2 ^ 64) (run : List Moment) (dialog : Dialog) (direction : Direction) (piece : Piece) where
  abbrev Goal : SetOut → List Moment → Type 0
  Goal out rest =
      IsFine setup epoch out.moment → IsCarried setup.config run dialog direction piece out → (got : Got) → find (has_vias 0 out.request.head.via) (got_in out.moment) ≡ Some got
      → Begins setup epoch out rest got

  begins-outside : (net : Net Session) (place : Place) (request : Request) (later : List Step)
      → Goal (record { moment = at setup place request net; sender = peers.Outside place; request = request }) (moments_from setup (at setup place request net).after later)
  begins-outside net place request later = λ fine is got found. record {
    after = (at setup place request net).after;
    later = later;
    rest_is = refl;
    sent = request;
    goes = goes-itself request;
    first = first-of setup place request epoch net request.head.via got small fine is.no_cancel is.tagged is.unclaimed found;
    vias = has-via setup net place request fine.allowed;
  }

  begins-turn : (net : Net Session) (app : AppId) (event now : ℕ) (made : List CallRecord) (end : End) (order : ℕ) (request : Request) (later : List Step)
      → (let there : Moment = moment setup net app event now made end in
      let out : SetOut = record { moment = there; sender = peers.Inside app.host; request = request } in
      option_and_then later_in (slice_get (given_in setup there) order) ≡ Some request → IsOnOwnBranch setup out order → Goal out (moments_from setup there.after later))
  begins-turn net app event now made end order request later = λ ordered own fine is got found.
      let one = sent-first setup net app event now made end epoch order request got ordered small fine own.vias own.orders own.clients found in
      record { after = (moment setup net app event now made end).after; later = later; rest_is = refl; sent = one.sent; goes = one.goes; first = one.first; vias = one.vias }

  pub begins : (net : Net Session) (given : List Step) (order : Option ℕ) (place : ℕ) (there : Moment) (out : SetOut) → slice_get (moments_from setup net given) place ≡ Some there
      → set_out_by setup there there.step order ≡ Some out → ((n : ℕ) → order ≡ Some n → IsOnOwnBranch setup out n) → Goal out (drop (place + 1) (moments_from setup net given))
  begins net given order place there out taken by own = out-by setup net given Goal begins-outside begins-turn order place there out taken by own

-- ## From the first session on

nobody : (found : Option Uri) (uri : Uri) → found ≡ Some uri → (not (length {A = AppId} [] == 0) || is_none found) ≡ true → ⊥
nobody None uri by alone = cc
nobody (Some u) uri by alone = cc

same-route : (setup : Setup) (request other : Request) → GoesAs request other → own_uri setup.config other ≡ own_uri setup.config request
unfolding own_uri
same-route setup request other goes = rw (goes.route, goes.uri) refl

module _ (setup : Setup) (epoch : ℕ) (small : epoch < 2 ^ 64) (call_id : Bytes) (request : Request) where
  abbrev EndsFor : Option AppId → List Moment → Type 0
  EndsFor end run = (app : AppId) → end ≡ Some app → EndsAt setup epoch small call_id app run

  abbrev AreOf64 : List AppId → Type 0
  AreOf64 apps = All (λ (a : AppId). IsOf64 epoch a 0) apps

  waits-first : (after : Net Session) (got : Got) → IsFirst setup request epoch after got → 1 ≤ length request.head.via → same_bytes request.head.call_id call_id ≡ true
      → Travels setup epoch small call_id after got (unrouted setup.config request)
  waits-first after got first vias call = record {
    goes = record {
      waits = Held first.held;
      is = first.is;
      vias = subst (λ (v : List Via). 1 ≤ length v) (sym (unrouted-vias setup.config request)) vias;
      call = subst (λ (bytes : Bytes). same_bytes bytes call_id ≡ true) (sym (unrouted-call setup.config request)) call;
    };
    tagged = still-tagged setup.config request first.tagged;
    no_cancel = still-other setup.config request first.no_cancel;
  }

  all-one : (app : AppId) → AreOf64 (app ∷ []) → IsOf64 epoch app 0
  unfolding All
  all-one app all = all.0

  -- what is visited from there on
  abbrev pub Visited : List AppId → Got → List Moment → Type 0
  Visited all got later = (visits_from (Some got) later ≡ all) ⊎ Halts setup got later

  named-first : (app other : AppId) (all : List AppId) (got : Got) (later : List Moment) → app ≡ other → visits_from (Some got) later ≡ app ∷ all → visits_from (Some got) later ≡ other ∷ all
  named-first app other all got later same is = is ∙ ap (λ (a : AppId). a ∷ all) same

  pub from-first : (later : List Step) (apps : List AppId) (end : Option AppId) (after : Net Session) (got : Got) → All (IsFine setup epoch) (moments_from setup after later)
      → All (GoesOrHalts setup epoch) (moments_from setup after later) → EndsFor end (moments_from setup after later) → AreOf64 (apps ++ listed end) → leads setup.config epoch apps end request ≡ true
      → (not (length (apps ++ listed end) == 0) || is_none (own_uri setup.config request)) ≡ true → 1 ≤ length request.head.via → same_bytes request.head.call_id call_id ≡ true
      → IsFirst setup request epoch after got → Visited (apps ++ listed end) got (moments_from setup after later)
  unfolding All
  from-first later [] None after got fine halting ends all leading alone vias call first = absurd (nobody (own_uri setup.config request) first.uri first.way alone)
  from-first later [] (Some end) after got fine halting ends all leading alone vias call first =
      let at = comes-at-end setup.config epoch end request leading in
      let same : got.app ≡ end = named-same setup epoch small call_id got.app end first.uri at.uri request first.way at.by first.named at.named first.names (all-one end all) in
      inl (named-first got.app end [] got (moments_from setup after later) same
      (end-whole setup epoch small call_id later after got (unrouted setup.config request) fine
      (subst (λ (a : AppId). EndsAt setup epoch small call_id a (moments_from setup after later)) (sym same) (ends end refl)) (waits-first after got first vias call).goes))
  from-first later (app ∷ apps) end after got fine halting ends all leading alone vias call first =
      let at = comes setup.config epoch app apps end request leading in
      let same : got.app ≡ app = named-same setup epoch small call_id got.app app first.uri at.uri request first.way at.by first.named at.named first.names all.0 in
      by same (travel setup epoch small call_id later apps end after got (unrouted setup.config request) fine halting ends all.1 at.rest (waits-first after got first vias call))
    where
      by : got.app ≡ app → Outcome setup epoch small call_id (apps ++ listed end) got (moments_from setup after later) → Visited (app ∷ (apps ++ listed end)) got (moments_from setup after later)
      by same (inl whole) = inl (named-first got.app app (apps ++ listed end) got (moments_from setup after later) same whole)
      by same (inr halts) = inr halts

-- what becomes of what begins so
module _ (setup : Setup) (epoch : ℕ) (small : epoch < 2 ^ 64) (run : List Moment) (dialog : Dialog) (direction : Direction) (piece : Piece) where
  pub goes-or-halts : (out : SetOut) (rest : List Moment) (got : Got) → Begins setup epoch out rest got → out.moment.before.epoch ≡ epoch → All (IsFine setup epoch) rest → All (GoesOrHalts setup epoch) rest
      → ((app : AppId) → end_of direction piece ≡ Some app → EndsAt setup epoch small dialog.call_id app rest) → All (λ (a : AppId). IsOf64 epoch a 0) (ahead run direction piece)
      → IsCarried setup.config run dialog direction piece out → (visits_from (Some got) rest ≡ ahead run direction piece) ⊎ Halts setup got rest
  unfolding ahead
  goes-or-halts out rest got one at fine halting ends all is =
      let apps : List AppId = along direction (recorders run piece) in
      let end : Option AppId = end_of direction piece in
      let leading : leads setup.config epoch apps end out.request ≡ true = subst (λ (e : ℕ). leads setup.config e apps end out.request ≡ true) at is.leading in
      subst (λ (r : List Moment). (visits_from (Some got) r ≡ apps ++ listed end) ⊎ Halts setup got r) (sym one.rest_is)
      (from-first setup epoch small dialog.call_id one.sent one.later apps end one.after got (subst (λ (r : List Moment). All (IsFine setup epoch) r) one.rest_is fine)
      (subst (λ (r : List Moment). All (GoesOrHalts setup epoch) r) one.rest_is halting)
      (λ app ending. subst (λ (r : List Moment). EndsAt setup epoch small dialog.call_id app r) one.rest_is (ends app ending)) all
      (leads-same apps setup.config epoch end one.sent out.request one.goes.route one.goes.uri ∙ leading)
      (subst (λ (own : Option Uri). (not (length (apps ++ listed end) == 0) || is_none own) ≡ true) (sym (same-route setup out.request one.sent one.goes)) is.alone)
      one.vias (subst (λ (bytes : Bytes). same_bytes bytes dialog.call_id ≡ true) (sym one.goes.call_id) is.call) one.first)
