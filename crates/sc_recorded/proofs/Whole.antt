-- The Record-Route at the end of a way, after a lawful journal.
use Rattle.std.proofs.Common.{◌≡◌, ◌<◌, ◌^◌, ℕ, ◌++◌, Bool, true, false, Option, None, Some, List, [], ◌∷◌, refl, subst}
use Rattle.std.specs.Prelude.{◌==◌, length, not, option_and_then, slice_get}
use Rattle.std.specs.Option.{option_map_or}
use Rattle.sc_value.specs.declared.ids.AppId.{AppId}
use Rattle.sc_terms.specs.declared.steps.Step.{Step}
use Rattle.sc_parts.specs.declared.setup.Setup.{Setup}
use Rattle.sc_state.specs.declared.host.Server.{Server}
use Rattle.sc_state.specs.declared.net.Net.{Net}
use Rattle.sc_state.specs.declared.session.Session.{Session}
use Rattle.sc_model.specs.Names.{IsOf64}
use Rattle.sc_hosts.specs.Histories.{as_session}
use Rattle.sc_hosts.specs.Runs.{IsLawful, net_from as chained, start}
use Rattle.sc_forms.proofs.HistoryLaws.{lawful_back-histories}
use Rattle.sc_lasting.specs.Lasting.{All}
use Rattle.sc_lasting.proofs.Parts.{all-map}
use Rattle.sc_keyed.proofs.KeyedNets.{AllKeyed}
use Rattle.sc_keyed.proofs.KeyedRuns.{session-keyed}
use Rattle.sc_keyed.proofs.KeyedTurns.{NoTurn}
use Rattle.sc_paths.specs.Moments.{Moment, moments}
use Rattle.sc_paths.specs.Pieces.{Dialog, IsPiece, Piece, begins, first_received, goes_from, goes_on, is_outside, list_of_option as listed, server_of_piece as received, sessions_of}
use Rattle.sc_ways.specs.Ways.{AreSmallNames}
use Rattle.sc_ways.proofs.Callees.{callee-small}
use Rattle.sc_ways.proofs.OneHop.{IsFine}
use Rattle.sc_ways.proofs.Runs.{run-each, run-fine, run-next}
use Rattle.sc_recorded.specs.Recorded.{IsRecorded, records}
use Rattle.sc_recorded.proofs.Chain.{IsAt, IsOfRun}
use Rattle.sc_recorded.proofs.Law.{HasServer, behind-have, recorded-way}
use Rattle.sc_recorded.proofs.FirstAsked.{run-says}
use Rattle.sc_recorded.proofs.Runs.{AreTold, IsTold, run-told}

passed : (test : Server → Bool) (found : Option Server) (rest : Bool) → rest ≡ false → option_map_or test found rest ≡ true → (server : Server) × (found ≡ Some server)
passed test None rest none is = cc
passed test (Some server) rest none is = (server, refl)

module _ (setup : Setup) (epoch began : ℕ) (journal : List Step) (lawful : IsLawful as_session setup epoch began journal) where
  abbrev Run : List Moment
  Run = moments setup epoch began journal

  abbrev Small : AppId → Type 0
  Small app = IsOf64 epoch app 0

  -- ## Names

  server-small : (piece : Piece) (app : AppId) → epoch < 2 ^ 64 → All (IsFine setup epoch) Run → HasServer setup epoch Run piece app → Small app
  unfolding moments
  server-small piece app small fine has =
      let keyed = run-each setup epoch began journal lawful (λ (moment : Moment). AllKeyed as_session NoTurn 0 0 moment.after)
      (λ before step later at allowed. subst (λ (net : Net Session). AllKeyed as_session NoTurn 0 0 net) (run-next setup epoch began journal lawful before step) (session-keyed setup epoch began (before ++ step ∷ []))) in
      callee-small setup epoch Run piece app (λ server. server.request.head ∷ []) small fine keyed (some (received Run piece app) has.0 has.1)
    where
      some : (found : Option Server) (server : Server) → found ≡ Some server → not (length (option_map_or (λ (s : Server). s.request.head ∷ []) found []) == 0) ≡ true
      some None server is = cc
      some (Some other) server is = refl

  -- each has its server transaction, where the first of the way got the INVITE from outside
  first-have : (piece : Piece) (apps : List AppId) → option_map_or (λ (server : Server). is_outside server.peer) (option_and_then (received Run piece) (slice_get apps 0)) false ≡ true
      → goes_from setup.config epoch Run piece apps ≡ true → All (HasServer setup epoch Run piece) apps
  unfolding All
  first-have piece [] begins goes = tt
  first-have piece (y ∷ ws) begins goes = (passed (λ (server : Server). is_outside server.peer) (received Run piece y) false refl begins, behind-have setup epoch Run piece ws y goes)

  abbrev way : Option AppId → List AppId → Option AppId → Piece
  way caller proxies callee = record { caller = caller; proxies = proxies; callee = callee }

  names : (caller : Option AppId) (proxies : List AppId) (callee : Option AppId) → epoch < 2 ^ 64 → All (IsFine setup epoch) Run → All Small (listed caller)
      → begins Run (way caller proxies callee) ≡ true → goes_from setup.config epoch Run (way caller proxies callee) (sessions_of (way caller proxies callee)) ≡ true
      → All Small (sessions_of (way caller proxies callee))
  unfolding sessions_of begins first_received All
  names (Some x) proxies callee small fine caller begins goes = (
    caller.0,
    all-map (HasServer setup epoch Run (way (Some x) proxies callee)) Small (proxies ++ listed callee) (λ app has. server-small (way (Some x) proxies callee) app small fine has)
        (behind-have setup epoch Run (way (Some x) proxies callee) (proxies ++ listed callee) x goes),
  )
  names None proxies callee small fine caller begins goes =
      all-map (HasServer setup epoch Run (way None proxies callee)) Small (proxies ++ listed callee) (λ app has. server-small (way None proxies callee) app small fine has)
      (first-have (way None proxies callee) (proxies ++ listed callee) begins goes)

  -- ## What is told of each session

  of-run : (piece : Piece) → epoch < 2 ^ 64 → All (IsFine setup epoch) Run → (app : AppId) → Small app → IsOfRun setup epoch Run piece app
  unfolding moments
  of-run piece small fine app name =
      let says = run-says journal setup (start setup epoch began) app in
      let told : AreTold setup epoch began journal app (records Run app) small name says None Run =
      run-told setup epoch began journal app (records Run app) small name says (lawful_back-histories setup epoch began journal lawful) fine in
      record {
        final = told.final;
        all = all-map (IsTold setup epoch began journal app (records Run app) small name says told.final) (IsAt setup epoch Run piece app told.final) Run
            (λ moment at. record { known = at.known; grows = at.grows; servers = at.servers; owns = at.owns; clients = at.clients }) told.all;
      }

  pub recorded-run : (dialog : Dialog) (piece : Piece) → IsPiece setup epoch Run dialog piece → AreSmallNames setup epoch (chained as_session setup epoch began journal) piece
      → IsRecorded setup epoch Run dialog piece
  unfolding goes_on
  recorded-run dialog piece is small =
      let fine = run-fine setup epoch began journal lawful small.hosts small.events in
      recorded-way setup epoch Run dialog piece is.begun is.passed
      (all-map Small (IsOfRun setup epoch Run piece) (sessions_of piece) (λ app name. of-run piece small.within fine app name)
      (names piece.caller piece.proxies piece.callee small.within fine small.caller is.begun is.passed))
