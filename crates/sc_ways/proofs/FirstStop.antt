-- A later request from outside that can come to none of those ahead is answered at once, and nothing else happens.
use Rattle.std.proofs.Common.{◌≡◌, inl, inr, ℕ, true, false, Option, None, Some, List, [], ◌∷◌, refl, sym, ap, subst, ◌∙◌}
use Rattle.std.specs.Prelude.{◌==◌, ◌||◌, is_none, length, not, slice_get}
use Rattle.std.specs.Option.{option_map_or}
use Rattle.sc_value.specs.declared.ids.AppId.{AppId}
use Rattle.sc_value.specs.declared.ids.Place.{Place}
use Rattle.sc_value.specs.declared.message.Message.TheVariants as messages
use Rattle.sc_value.specs.declared.message.Request.{Request}
use Rattle.sc_value.specs.declared.parts.Uri.{Uri}
use Rattle.sc_terms.specs.declared.steps.Step.{Step}
use Rattle.sc_terms.specs.declared.steps.Step.TheVariants as steps
use Rattle.sc_parts.specs.declared.setup.Setup.{Setup}
use Rattle.sc_state.specs.declared.host.Peer.TheVariants as peers
use Rattle.sc_state.specs.declared.net.Net.{Net}
use Rattle.sc_state.specs.declared.session.Session.{Session}
use Rattle.sc_tokens.specs.Bytes.{Bytes}
use Rattle.sc_model.specs.Names.{IsOf64}
use Rattle.sc_hosts.specs.Histories.{as_session}
use Rattle.sc_hosts.specs.Runs.{IsLawful, after_step, net_from as chained, start}
use Rattle.sc_hosts.specs.Steps.{before_delivery as stepped}
use Rattle.sc_hosts.specs.Taking.{own_uri}
use Rattle.sc_hosts.specs.Words.{does_not_exist, unavailable}
use Rattle.sc_hosts.proofs.Deliveries.{none-delivered}
use Rattle.sc_lasting.specs.Lasting.{All}
use Rattle.sc_lasting.proofs.Shared.{all-at, found-behind}
use Rattle.sc_reached.specs.Reached.{IsLater}
use Rattle.sc_stopped.specs.Stopped.{IsLaterTo, net_with_answer as answered}
use Rattle.sc_stopped.proofs.Stops.{full, gone, unled}
use Rattle.sc_paths.specs.LaterRequests.{Occurrence, SetOut, carries, carries_by, set_out, set_out_by}
use Rattle.sc_paths.specs.Moments.{Moment, moments}
use Rattle.sc_paths.specs.Pieces.{Dialog, Direction, IsPiece, Piece, ahead, along, end_of, recorders}
use Rattle.sc_ways.specs.Ways.{AreSmallNames, StopsBefore}
use Rattle.sc_ways.proofs.FirstHop.{ahead-comes, came-by, idle}
use Rattle.sc_ways.proofs.Law.{ahead-small}
use Rattle.sc_ways.proofs.OneHop.{IsFine}
use Rattle.sc_ways.proofs.Outside.{at, none-claims}
use Rattle.sc_ways.proofs.Prefix.{IsCarried, carried}
use Rattle.sc_ways.proofs.Runs.{cut-at, run-fine}

-- where none is ahead, no own URI leads it to a session
alone-none : (apps : List AppId) (found : Option Uri) → (not (length apps == 0) || is_none found) ≡ true → apps ≡ [] → found ≡ None
alone-none [] None alone is = refl
alone-none [] (Some uri) alone is = cc
alone-none (app ∷ apps) found alone is = cc

-- ## The moment

module _ (setup : Setup) (epoch : ℕ) (place : Place) (request : Request) (net : Net Session) (fine : IsFine setup epoch (at setup place request net)) where
  abbrev begins : Net Session
  begins = record net { sent = [] }

  abbrev IsAnswered : ℕ → Bytes → Type 0
  IsAnswered code reason = after_step as_session setup net (steps.In place (messages.Request request)) ≡ answered setup.config place code reason request begins

  -- the step puts nothing on the wire, so that is all
  at-once : (code : ℕ) (reason : Bytes) → stepped as_session setup (steps.In place (messages.Request request)) begins ≡ answered setup.config place code reason request begins → IsAnswered code reason
  unfolding after_step
  at-once code reason is =
      let came : Net Session = stepped as_session setup (steps.In place (messages.Request request)) begins in
      let still : came.wire ≡ [] = ap (λ (n : Net Session). n.wire) is ∙ fine.quiet in
      none-delivered as_session setup came (idle came still) ∙ is

  module _ (run : List Moment) (dialog : Dialog) (direction : Direction) (piece : Piece)
      (is : IsCarried setup.config run dialog direction piece (record { moment = at setup place request net; sender = peers.Outside place; request = request })) where
    later-is : IsLater place request begins
    later-is = record { no_cancel = is.no_cancel; tagged = is.tagged; unclaimed = none-claims setup place request net.hosts 0 is.unclaimed }

    later-to : (app : AppId) (more : List AppId) → ahead run direction piece ≡ app ∷ more → IsOf64 epoch app 0 → IsLaterTo setup place request begins app
    unfolding ahead
    later-to app more first small =
        let to = ahead-comes setup net.epoch request (along direction (recorders run piece)) (end_of direction piece) app more first is.leading in
        record {
          later = later-is;
          uri = to.uri;
          by = to.by;
          named = to.named;
          within = subst (λ (e : ℕ). IsOf64 e app 0) (sym fine.at) small;
          count = fine.few_before;
          small = fine.small_before;
        }

    stopped-by : (apps : List AppId) → ahead run direction piece ≡ apps → All (λ (app : AppId). IsOf64 epoch app 0) apps → (code : ℕ) (reason : Bytes) → StopsBefore apps net code reason
        → IsAnswered code reason
    unfolding StopsBefore All
    stopped-by [] none small code reason stop =
        rw (stop.0, stop.1)
        (at-once 481 does_not_exist (unled as_session setup place request begins later-is (alone-none (ahead run direction piece) (own_uri setup.config request) is.alone none)))
    stopped-by (app ∷ more) first small code reason (inl stop) =
        rw (stop.1, stop.2) (at-once 481 does_not_exist (gone as_session setup place request begins app (later-to app more first small.0) stop.0))
    stopped-by (app ∷ more) first small code reason (inr stop) =
        rw (stop.3, stop.4) (at-once 503 unavailable (full as_session setup place request begins app stop.0 (later-to app more first small.0) stop.1 stop.2))

-- ## The run

module _ (setup : Setup) (epoch began : ℕ) (journal : List Step) (dialog : Dialog) (direction : Direction) (piece : Piece) (occurrence : Occurrence)
    (lawful : IsLawful as_session setup epoch began journal) (names-small : AreSmallNames setup epoch (chained as_session setup epoch began journal) piece) where
  abbrev Run : List Moment
  Run = moments setup epoch began journal

  abbrev IsEnd : Place → ℕ → Bytes → SetOut → Type 0
  IsEnd place code reason out = out.moment.after ≡ answered setup.config place code reason out.request (record out.moment.before { sent = [] })

  by-out : IsPiece setup epoch Run dialog piece → (out : SetOut) (place : Place) → set_out setup Run occurrence ≡ Some out → out.sender ≡ peers.Outside place
      → carries_by setup.config Run dialog direction piece out ≡ true → (code : ℕ) (reason : Bytes) → StopsBefore (ahead Run direction piece) out.moment.before code reason → IsEnd place code reason out
  unfolding set_out moments
  by-out piece-is out place set sender carries code reason stop =
      let by = found-behind (λ (moment : Moment). set_out_by setup moment moment.step occurrence.order) (slice_get Run occurrence.step) out set in
      let came = came-by setup by.0 occurrence.order place out by.2 sender in
      let cut = cut-at journal setup (start setup epoch began) occurrence.step by.0 by.1 in
      let step-is : cut.step ≡ steps.In place (messages.Request came.request) = sym (ap (λ (m : Moment). m.step) cut.is) ∙ came.step_is in
      let there : ◌≡◌ {A = Moment} by.0 (at setup place came.request cut.net) =
      cut.is ∙ ap (λ (s : Step). record { before = cut.net; step = s; after = after_step as_session setup cut.net s }) step-is in
      let whole : ◌≡◌ {A = SetOut} out (record { moment = at setup place came.request cut.net; sender = peers.Outside place; request = came.request }) =
      came.out_is ∙ ap (λ (m : Moment). record { moment = m; sender = peers.Outside place; request = came.request }) there in
      let all-fine : All (IsFine setup epoch) Run = run-fine setup epoch began journal lawful names-small.hosts names-small.events in
      let fine : IsFine setup epoch (at setup place came.request cut.net) = subst (λ (m : Moment). IsFine setup epoch m) there (all-at (IsFine setup epoch) Run occurrence.step by.0 by.1 all-fine) in
      subst (IsEnd place code reason) (sym whole)
      (stopped-by setup epoch place came.request cut.net fine Run dialog direction piece
      (carried setup.config Run dialog direction piece _ (subst (λ (o : SetOut). carries_by setup.config Run dialog direction piece o ≡ true) whole carries)) (ahead Run direction piece) refl
      (ahead-small setup epoch began journal lawful dialog piece direction piece-is names-small all-fine) code reason
      (subst (λ (o : SetOut). StopsBefore (ahead Run direction piece) o.moment.before code reason) whole stop))

  pub stops-first : IsPiece setup epoch Run dialog piece → carries setup Run dialog direction piece occurrence ≡ true → (out : SetOut) (place : Place) → set_out setup Run occurrence ≡ Some out
      → out.sender ≡ peers.Outside place → (code : ℕ) (reason : Bytes) → StopsBefore (ahead Run direction piece) out.moment.before code reason → IsEnd place code reason out
  unfolding carries
  stops-first piece-is carries-it out place set sender code reason stop =
      by-out piece-is out place set sender
      (subst (λ (o : Option SetOut). option_map_or (carries_by setup.config Run dialog direction piece) o false ≡ true) set carries-it) code reason stop
