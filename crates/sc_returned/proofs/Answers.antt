-- The answers to an INVITE at the end of its way return its Record-Route.
use Rattle.std.proofs.Common.{◌≡◌, inl, inr, ℕ, Bool, true, false, Option, None, Some, List, [], ◌∷◌, refl, sym, ap, subst, ◌∙◌, arith}
use Rattle.std.specs.Prelude.{◌==◌, ◌&&◌, ◌||◌, cond, is_none, is_some}
use Rattle.std.specs.List.{cons_option, filter_map, find, flat_map}
use Rattle.std.specs.Option.{option_map_or}
use Rattle.std.proofs.lemmas.Bool.Decides.{nat_tests}
use Rattle.sc_tokens.specs.Names.{same_bytes}
use Rattle.sc_value.specs.declared.ids.AppId.{AppId}
use Rattle.sc_value.specs.declared.message.Head.{Head}
use Rattle.sc_value.specs.declared.message.Request.{Request}
use Rattle.sc_value.specs.declared.message.Response.{Response}
use Rattle.sc_value.specs.declared.parts.Address.{Address}
use Rattle.sc_terms.specs.declared.calls.ProxyOptions.{ProxyOptions}
use Rattle.sc_terms.specs.declared.steps.Step.{Step}
use Rattle.sc_parts.specs.declared.setup.Setup.{Setup}
use Rattle.sc_state.specs.Hosts.{Host}
use Rattle.sc_state.specs.declared.host.Server.{Server}
use Rattle.sc_state.specs.declared.orders.Order.{Order}
use Rattle.sc_state.specs.declared.orders.Order.TheVariants as orders
use Rattle.sc_state.specs.declared.session.Session.{Session}
use Rattle.sc_tokens.specs.Bytes.{Bytes}
use Rattle.sc_model.specs.Dialogs.{tag_of}
use Rattle.sc_model.specs.SessionStates.{invite}
use Rattle.sc_model.specs.Transactions.{is_success}
use Rattle.sc_hosts.specs.Histories.{as_session}
use Rattle.sc_hosts.specs.Legs.{makes_dialog_of}
use Rattle.sc_hosts.specs.Messages.{begins_dialog, makes_dialog}
use Rattle.sc_hosts.specs.Nets.{host_at}
use Rattle.sc_hosts.specs.Runs.{IsLawful, net_from as chained, start}
use Rattle.sc_hosts.specs.Transacting.{is_same_app}
use Rattle.sc_lasting.specs.Lasting.{All}
use Rattle.sc_recorded.proofs.Chain.{first-in}
use Rattle.sc_lasting.proofs.Began.{same-number, test-found}
use Rattle.sc_lasting.proofs.Parts.{all-both, all-found, all-map}
use Rattle.sc_lasting.proofs.Shared.{found-behind}
use Rattle.sc_keyed.specs.Keyed.{IsIn}
use Rattle.sc_keyed.proofs.ClientKeys.{app-is}
use Rattle.sc_paths.specs.Moments.{Moment, began_with, first_server, given_in, is_first_of, moments, moments_from, proxied_with}
use Rattle.sc_paths.specs.Pieces.{Dialog, IsPiece, Piece, answer_by, answers_of, heads_at_end, makes, server_of_piece as received, record_routed}
use Rattle.sc_ways.specs.Ways.{AreSmallNames}
use Rattle.sc_recorded.specs.Recorded.{IsRecorded}
use Rattle.sc_recorded.proofs.Whole.{recorded-run}
use Rattle.sc_replies.specs.Fields.{Incoming, answer_routes}
use Rattle.sc_returned.specs.Returned.{ReturnsRecordRoute}
use Rattle.sc_returned.proofs.ArrivalHosts.{Arrival, ServerIn, as_came}
use Rattle.sc_returned.proofs.ArrivalNets.{AreSingle, single-same}
use Rattle.sc_returned.proofs.Direct.{TellsNone, none-proxied}
use Rattle.sc_returned.proofs.Runs.{AreAt, IsAt, IsTo, Responds, run-at}

-- ## Options, tests and lists

both : (a b : Bool) → (a && b) ≡ true → (a ≡ true) × (b ≡ true)
both true b is = (refl, is)
both false b is = cc

some-is : {A : Type 0} (x y : A) → Some x ≡ Some y → x ≡ y
some-is x y is = cc

clash : (b : Bool) → b ≡ true → b ≡ false → ⊥
clash b p q = cc

no-tag : (tag : Option Bytes) → is_none tag ≡ true → is_some tag ≡ false
no-tag None is = refl
no-tag (Some tag) is = cc

-- ## One answer

is-early : (code : ℕ) → is_success code ≡ true → makes_dialog code ≡ true
is-early code is = grind (arith, nat_tests, is)

dialog-made : (a b c : Bool) → (a ≡ true → b ≡ true) → (a || (b && c)) ≡ true → b ≡ true
dialog-made true b c early is = early refl
dialog-made false b c early is = (both b c is).0

invite-made : (b : Bool) (x y : Bool) → b ≡ true → cond b x y ≡ true → x ≡ true
invite-made true x y right is = is
invite-made false x y right is = cc

makes-one : (request : Request) (response : Response) → same_bytes request.method invite ≡ true → makes_dialog_of request response ≡ true → makes_dialog response.code ≡ true
unfolding makes_dialog_of
makes-one request response of is =
    dialog-made (is_success response.code) (makes_dialog response.code) (is_some (tag_of response.head.to)) (is-early response.code) (invite-made (same_bytes request.method invite) _ _ of is)

routed-by : (a b c : Bool) (routes : List Address) → a ≡ true → b ≡ true → c ≡ true → cond (a && b && c) routes [] ≡ routes
routed-by true true true routes p q r = refl
routed-by true true false routes p q r = cc
routed-by true false c routes p q r = cc
routed-by false b c routes p q r = cc

either : (a b : Bool) → a ≡ true → (a || b) ≡ true
either true b is = refl
either false b is = cc

routes-are : (request : Request) (code : ℕ) → is_none (tag_of request.head.to) ≡ true → same_bytes request.method invite ≡ true → makes_dialog code ≡ true → answer_routes (as_came request) code ≡ request.head.record_route
unfolding answer_routes
routes-are request code untagged of makes-it = routed-by (is_none (tag_of request.head.to)) (begins_dialog request) (makes_dialog code) request.head.record_route untagged (either (same_bytes request.method invite) _ of) makes-it

abbrev Returns : Server → Head → Type 0
Returns server head = head.record_route ≡ server.request.head.record_route

module _ (setup : Setup) (app : AppId) (final : List Arrival) (single : AreSingle final) (dialog : Dialog) (server : Server) (its : server.app ≡ app) (among : ServerIn final server) where
  same-came : (of : AppId) (number : ℕ) (came : Incoming) → number ≡ server.event → IsIn (record { number = number; app = of; came = came }) final
      → ◌≡◌ {A = Arrival} (record { number = number; app = of; came = came }) (record { number = server.event; app = server.app; came = as_came server.request })
  same-came of number came same one = single-same final _ _ single one among same

  one-returns : (of : AppId) (number : ℕ) (response : Response) → number ≡ server.event → makes dialog server.request response ≡ true → IsTo app final of number response → Returns server response.head
  unfolding makes
  one-returns of number response same made (inl one) =
      let parts = both _ _ (both _ _ (both _ _ (both _ _ (both _ _ made).0).0).0).0 in
      let is : one.0 ≡ as_came server.request = ap (λ (a : Arrival). a.came) (same-came of number one.0 same one.1) in
      one.2.routes ∙ ap (λ (came : Incoming). answer_routes came response.code) is
      ∙ routes-are server.request response.code parts.1 parts.0 (makes-one server.request response parts.0 (both _ _ (both _ _ (both _ _ (both _ _ made).0).0).0).1)
  one-returns of number response same made (inr one) =
      let parts = both _ _ (both _ _ (both _ _ (both _ _ (both _ _ made).0).0).0).0 in
      let entry = same-came of number one.0 same one.1 in
      let here : of ≡ app = ap (λ (a : Arrival). a.app) entry ∙ its in
      let request : one.0.request ≡ server.request = ap (λ (a : Arrival). a.came.request) entry in
      absurd (clash (is_some (tag_of server.request.head.to)) (subst (λ (r : Request). is_some (tag_of r.head.to) ≡ true) request (one.2 here)) (no-tag (tag_of server.request.head.to) parts.1))

  kept-head : (b : Bool) (head : Head) (rest : List Head) → (b ≡ true → Returns server head) → All (Returns server) rest → All (Returns server) (cons_option (cond b (Some head) None) rest)
  unfolding All
  kept-head true head rest one all = (one refl, all)
  kept-head false head rest one all = all

  order-returns : (order : Order) (rest : List Head) → Responds app final order → All (Returns server) rest → All (Returns server) (cons_option (answer_by dialog server order) rest)
  unfolding answer_by Responds
  order-returns (orders.Respond event response) rest responds all =
      kept-head (event == server.event && makes dialog server.request response) response.head rest
      (λ is. one-returns responds.0 event response (same-number event server.event (both (event == server.event) _ is).0) (both (event == server.event) (makes dialog server.request response) is).1 responds.1) all
  order-returns (orders.Begin branch directive region state request) rest responds all = all
  order-returns (orders.Send branch request) rest responds all = all
  order-returns (orders.Acknowledge request) rest responds all = all
  order-returns (orders.Cancel branch) rest responds all = all
  order-returns (orders.CancelNow branch) rest responds all = all

  orders-return : (given : List Order) → All (Responds app final) given → All (Returns server) (filter_map (answer_by dialog server) given)
  unfolding All
  orders-return [] responds = tt
  orders-return (order ∷ given) responds = order-returns order (filter_map (answer_by dialog server) given) responds.0 (orders-return given responds.1)

  run-returns : (run : List Moment) → All (λ (moment : Moment). All (Responds app final) (given_in setup moment)) run
      → All (Returns server) (flat_map (λ (moment : Moment). filter_map (answer_by dialog server) (given_in setup moment)) run)
  unfolding All
  run-returns [] responds = tt
  run-returns (moment ∷ run) responds = all-both (Returns server) (filter_map (answer_by dialog server) (given_in setup moment)) _ (orders-return (given_in setup moment) responds.0) (run-returns run responds.1)

-- ## The law

received-is : (b : Bool) (found : Option Server) (server : Server) → cond b None found ≡ Some server → found ≡ Some server
received-is true found server is = cc
received-is false found server is = is

module _ (setup : Setup) (epoch began : ℕ) (journal : List Step) (lawful : IsLawful as_session setup epoch began journal) where
  abbrev Run : List Moment
  Run = moments setup epoch began journal

  -- the session's first server transaction
  record HasOne (app : AppId) (final : List Arrival) (server : Server) : Type 0 where
    its : server.app ≡ app
    among : ServerIn final server

  module _ (app : AppId) (none : All (TellsNone app) journal) where
    found-at : (final : List Arrival) (moment : Moment) → IsAt setup epoch began journal app none final moment → (server : Server) → first_server app moment.after ≡ Some server → HasOne app final server
    unfolding first_server
    found-at final moment at server is =
        let found = found-behind (λ (host : Host Session). find (is_first_of app) host.servers) (host_at app.host moment.after) server is in
        let tests = both _ _ (test-found (is_first_of app) found.0.servers server found.2) in
        record {
          its = app-is server.app app tests.0;
          among = all-found (ServerIn final) (is_first_of app) found.0.servers server found.2 (at.servers app.host found.0 found.1);
        }

    answers-return : (dialog : Dialog) (server : Server) → began_with Run app ≡ Some server → All (Returns server) (flat_map (λ (moment : Moment). filter_map (answer_by dialog server) (given_in setup moment)) Run)
    unfolding began_with moments
    answers-return dialog server is =
        let at : AreAt setup epoch began journal app none [] (moments_from setup (start setup epoch began) journal) = run-at setup epoch began journal app none lawful in
        let one : HasOne app at.final server =
        first-in (HasOne app at.final) app (moments_from setup (start setup epoch began) journal) server
        (all-map (IsAt setup epoch began journal app none at.final) (λ (moment : Moment). (s : Server) → first_server app moment.after ≡ Some s → HasOne app at.final s) (moments_from setup (start setup epoch began) journal) (found-at at.final) at.all) is in
        run-returns setup app at.final at.single dialog server one.its one.among (moments_from setup (start setup epoch began) journal)
        (all-map (IsAt setup epoch began journal app none at.final) (λ (moment : Moment). All (Responds app at.final) (given_in setup moment)) (moments_from setup (start setup epoch began) journal) (λ moment one. one.replies) at.all)

  by-proxied : (app : AppId) (dialog : Dialog) (server : Server) (found : Option ProxyOptions) → proxied_with Run app ≡ found → began_with Run app ≡ Some server
      → All (Returns server) (cond (is_some found) [] (flat_map (λ (moment : Moment). filter_map (answer_by dialog server) (given_in setup moment)) Run))
  unfolding moments All
  by-proxied app dialog server (Some how) is has = tt
  by-proxied app dialog server None is has = answers-return app (none-proxied app setup journal (start setup epoch began) is) dialog server has

  answered : (piece : Piece) (dialog : Dialog) (app : AppId) (server : Server) → received Run piece app ≡ Some server → All (Returns server) (answers_of setup Run dialog app server)
  unfolding received answers_of
  answered piece dialog app server is =
      by-proxied app dialog server (proxied_with Run app) refl (received-is (option_map_or (is_same_app app) piece.caller false) (began_with Run app) server is)

  returned-by : (piece : Piece) (dialog : Dialog) (app : AppId) → piece.callee ≡ Some app → IsRecorded setup epoch Run dialog piece → (found : Option Server) → received Run piece app ≡ found
      → All (λ (head : Head). head.record_route ≡ record_routed setup.config epoch Run piece) (option_map_or (answers_of setup Run dialog app) found [])
  unfolding All
  returned-by piece dialog app callee recorded None is = tt
  returned-by piece dialog app callee recorded (Some server) is =
      all-map (Returns server) (λ (head : Head). head.record_route ≡ record_routed setup.config epoch Run piece) (answers_of setup Run dialog app server)
      (λ head same. same ∙ recorded.comes app server callee is) (answered piece dialog app server is)

  heads-are : (piece : Piece) (dialog : Dialog) (app : AppId) → piece.callee ≡ Some app → heads_at_end setup Run dialog piece ≡ option_map_or (answers_of setup Run dialog app) (received Run piece app) []
  unfolding heads_at_end
  heads-are piece dialog app callee = rw callee refl

pub returned-run : (setup : Setup) (epoch began : ℕ) (journal : List Step) (dialog : Dialog) (piece : Piece) → IsLawful as_session setup epoch began journal
    → IsPiece setup epoch (moments setup epoch began journal) dialog piece → AreSmallNames setup epoch (chained as_session setup epoch began journal) piece
    → ReturnsRecordRoute setup epoch (moments setup epoch began journal) dialog piece
returned-run setup epoch began journal dialog piece lawful is small =
    let run : List Moment = moments setup epoch began journal in
    let recorded : IsRecorded setup epoch run dialog piece = recorded-run setup epoch began journal lawful dialog piece is small in
    record {
      answered = λ app server callee came. answered setup epoch began journal lawful piece dialog app server came;
      returned = λ app callee.
          subst (λ (heads : List Head). All (λ (head : Head). head.record_route ≡ record_routed setup.config epoch run piece) heads) (sym (heads-are setup epoch began journal lawful piece dialog app callee))
          (returned-by setup epoch began journal lawful piece dialog app callee recorded (received run piece app) refl);
    }
