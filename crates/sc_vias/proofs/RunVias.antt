-- After any journal each client transaction's request stands under the own Via of its session and branch.
use Rattle.std.proofs.Common.{◌≡◌, ◌≤◌, ◌<◌, ℕ, zero, suc, Option, None, Some, List, [], ◌∷◌, refl, sym, ap, subst, ◌∙◌, arith}
use Rattle.std.specs.Prelude.{map, option_and_then, option_map, slice_get}
use Rattle.sc_value.specs.declared.ids.AppId.{AppId}
use Rattle.sc_value.specs.declared.message.Request.{Request}
use Rattle.sc_value.specs.declared.parts.Address.{Address}
use Rattle.sc_terms.specs.declared.calls.CallRecord.{CallRecord}
use Rattle.sc_terms.specs.declared.calls.End.{End}
use Rattle.sc_terms.specs.declared.settings.AppEntry.{AppEntry}
use Rattle.sc_terms.specs.declared.settings.Config.{Config}
use Rattle.sc_terms.specs.declared.steps.Step.{Step}
use Rattle.sc_terms.specs.declared.steps.Step.TheVariants as steps
use Rattle.sc_parts.specs.declared.setup.Setup.{Setup}
use Rattle.sc_state.specs.Hosts.{Host}
use Rattle.sc_state.specs.declared.host.Client.{Client}
use Rattle.sc_state.specs.declared.host.Live.{Live}
use Rattle.sc_state.specs.declared.net.Net.{Net}
use Rattle.sc_state.specs.declared.net.Note.{Note}
use Rattle.sc_state.specs.declared.orders.Order.{Order}
use Rattle.sc_state.specs.declared.orders.Order.TheVariants as orders
use Rattle.sc_state.specs.declared.queue.Waiting.{Waiting}
use Rattle.sc_state.specs.declared.session.Session.{Session}
use Rattle.sc_tokens.specs.Bytes.{Bytes}
use Rattle.sc_hosts.specs.Histories.{after_turn, as_history, as_session, session_of}
use Rattle.sc_hosts.specs.Inboxes.{is_live, live_in}
use Rattle.sc_hosts.specs.Legs.{first_view, fresh}
use Rattle.sc_hosts.specs.Messages.{kin}
use Rattle.sc_hosts.specs.Nets.{host_at, with_routes}
use Rattle.sc_hosts.specs.Runs.{after_step, net_from as chained, chained_from, quiet_host, start}
use Rattle.sc_hosts.specs.Sessions.{Turn}
use Rattle.sc_hosts.specs.Steps.{live_at, outcome_by, turn_of}
use Rattle.sc_forms.specs.Simulations.{map_host, map_net}
use Rattle.sc_forms.proofs.HistoryLaws.{chained-histories}
use Rattle.sc_lasting.specs.Lasting.{All}
use Rattle.sc_lasting.proofs.Parts.{all-found}
use Rattle.sc_lasting.proofs.Shared.{kin-top}
use Rattle.sc_reached.proofs.Reaching.{serial-is}
use Rattle.sc_keyed.specs.Keyed.{AreOn, IsOn}
use Rattle.sc_keyed.proofs.Branches.{sends-on-branches, turn-names}
use Rattle.sc_vias.specs.Vias.{HaveOwnVias, drawn_by}
use Rattle.sc_vias.proofs.HostVias.{AreKinds, IsNamed}
use Rattle.sc_vias.proofs.NetVias.{Holds, OrderFits}
use Rattle.sc_vias.proofs.StepVias.{StepFits, step-kept}

-- ## Kinds

-- a session draws its names from this epoch and its own name
abbrev pub IsOfName : ℕ → AppId → Session → Type 0
IsOfName epoch app session = (session.view.epoch ≡ epoch) × (session.view.app ≡ app)

-- the request stands under the Via of this branch, whose number is of a kind
abbrev pub IsVia : Config → ℕ → (ℕ → Type 0) → AppId → ℕ → Request → Type 0
IsVia config epoch Small app branch request = IsOn config epoch app branch request × Small branch

kin-on : (config : Config) (epoch : ℕ) (app : AppId) (branch : ℕ) (method : Bytes) (to : Address) (request : Request) → IsOn config epoch app branch request
    → IsOn config epoch app branch (kin method to request)
unfolding IsOn kin
kin-on config epoch app branch method to request on = kin-top request.head.via ∙ on

routes-on : (config : Config) (epoch : ℕ) (app : AppId) (branch : ℕ) (routes : List Address) (request : Request) → IsOn config epoch app branch request
    → IsOn config epoch app branch (with_routes routes request)
unfolding IsOn
routes-on config epoch app branch routes request on = on

begins-named : (config : Config) (app : AppId) (epoch now : ℕ) (noted : Note) (request : Request) → IsOfName epoch app (as_session.begin config app epoch now noted request)
unfolding as_session fresh first_view
begins-named config app epoch now noted request = (refl, refl)

turned-named : (config : Config) (epoch : ℕ) (app : AppId) (turn : Turn) (session : Session) → IsOfName epoch app session → IsOfName epoch app (as_session.turned config turn session)
unfolding as_session after_turn
turned-named config epoch app turn session named =
    let names = turn-names config turn.ringing session turn.waiting turn.now turn.calls turn.end in (names.0 ∙ named.0, names.1 ∙ named.1)

pub via-kinds : (config : Config) (epoch : ℕ) (Small : ℕ → Type 0) → AreKinds as_session epoch (IsOfName epoch) (IsVia config epoch Small)
via-kinds config epoch Small = record {
  begins = λ config app now noted request. begins-named config app epoch now noted request;
  turned = λ config app turn session named. turned-named config epoch app turn session named;
  kin_fits = λ app branch method to request fits. (kin-on config epoch app branch method to request fits.0, fits.1);
  routed = λ app branch routes request fits. (routes-on config epoch app branch routes request fits.0, fits.1);
}

-- ## What a turn gives to send

through : (a b c : ℕ) → a < b → b ≤ c → a ≤ c
through a b c p q = omega (arith, p, q)

-- they rise from the one to the other
pub on-rises : (config : Config) (epoch : ℕ) (app : AppId) (given : List Order) (low high : ℕ) → AreOn config epoch app low given high → low ≤ high
unfolding AreOn
on-rises config epoch app [] low high on = on
on-rises config epoch app (orders.Respond event response ∷ given) low high on = on-rises config epoch app given low high on
on-rises config epoch app (orders.Begin branch directive region state request ∷ given) low high on = through low branch high on.0 (on-rises config epoch app given branch high on.2)
on-rises config epoch app (orders.Send branch request ∷ given) low high on = through low branch high on.0 (on-rises config epoch app given branch high on.2)
on-rises config epoch app (orders.Acknowledge request ∷ given) low high on = through low on.0 high on.1 (on-rises config epoch app given on.0 high on.3)
on-rises config epoch app (orders.Cancel branch ∷ given) low high on = on-rises config epoch app given low high on
on-rises config epoch app (orders.CancelNow branch ∷ given) low high on = on-rises config epoch app given low high on

module _ (config : Config) (epoch : ℕ) (Small : ℕ → Type 0) where
  -- in this net sessions have their names, and clients their Vias
  abbrev pub Hold : Net Session → Type 0
  Hold net = Holds as_session epoch (IsOfName epoch) (IsVia config epoch Small) (via-kinds config epoch Small) net

  -- the request of an order of this session stands under the Via of its branch
  abbrev Ordered : AppId → Order → Type 0
  Ordered app order = OrderFits as_session epoch (IsOfName epoch) (IsVia config epoch Small) (via-kinds config epoch Small) app order

  on-ordered : (app : AppId) (given : List Order) (low high : ℕ) → ((n : ℕ) → n ≤ high → Small n) → AreOn config epoch app low given high → All (Ordered app) given
  unfolding AreOn All OrderFits
  on-ordered app [] low high small on = tt
  on-ordered app (orders.Respond event response ∷ given) low high small on = (tt, on-ordered app given low high small on)
  on-ordered app (orders.Begin branch directive region state request ∷ given) low high small on =
      ((on.1, small branch (on-rises config epoch app given branch high on.2)), on-ordered app given branch high small on.2)
  on-ordered app (orders.Send branch request ∷ given) low high small on =
      ((on.1, small branch (on-rises config epoch app given branch high on.2)), on-ordered app given branch high small on.2)
  on-ordered app (orders.Acknowledge request ∷ given) low high small on = (tt, on-ordered app given on.0 high small on.3)
  on-ordered app (orders.Cancel branch ∷ given) low high small on = (tt, on-ordered app given low high small on)
  on-ordered app (orders.CancelNow branch ∷ given) low high small on = (tt, on-ordered app given low high small on)

  named-by : (app : AppId) (found : Option (Host Session)) (net : Net Session) (live : Live Session) → host_at app.host net ≡ found → option_and_then (live_in app.serial) found ≡ Some live → Hold net
      → IsOfName epoch app live.session
  named-by app None net live at is hold = cc
  named-by app (Some host) net live at is hold =
      subst (λ (n : ℕ). IsOfName epoch (record { host = app.host; serial = n }) live.session) (serial-is app.serial host.sessions live is)
      (all-found (IsNamed as_session epoch (IsOfName epoch) (IsVia config epoch Small) (via-kinds config epoch Small) app.host) (is_live app.serial) host.sessions live is (hold.hosts app.host host at).0)

  -- the names of a live session
  pub live-named : (app : AppId) (net : Net Session) (live : Live Session) → live_at app net ≡ Some live → Hold net → IsOfName epoch app live.session
  live-named app net live is hold = named-by app (host_at app.host net) net live refl is hold

  -- its turn sends on branches of it
  pub turn-on : (app : AppId) (net : Net Session) (live : Live Session) (waiting : Waiting) (now : ℕ) (made : List CallRecord) (end : End) → live_at app net ≡ Some live → Hold net
      → AreOn config epoch app live.session.view.counter (outcome_by as_session config live.session (turn_of net app waiting now made end)).orders
      (outcome_by as_session config live.session (turn_of net app waiting now made end)).session.view.counter
  unfolding outcome_by as_session
  turn-on app net live waiting now made end is hold =
      let named = live-named app net live is hold in
      let turn : Turn = turn_of net app waiting now made end in
      subst (λ (a : AppId). AreOn config epoch a live.session.view.counter (outcome_by as_session config live.session turn).orders (outcome_by as_session config live.session turn).session.view.counter) named.1
      (subst (λ (e : ℕ). AreOn config e live.session.view.app live.session.view.counter (outcome_by as_session config live.session turn).orders (outcome_by as_session config live.session turn).session.view.counter) named.0
      (sends-on-branches config turn.ringing live.session turn.waiting turn.now turn.calls turn.end))

module _ (setup : Setup) (epoch : ℕ) (Small : ℕ → Type 0) where
  -- the same, for the settings of this setup
  abbrev Kept : Net Session → Type 0
  Kept net = Hold setup.config epoch Small net

  pub drawn-is : (net : Net Session) (app : AppId) (event now : ℕ) (made : List CallRecord) (end : End) (live : Live Session) (waiting : Waiting) → live_at app net ≡ Some live → slice_get live.inbox 0 ≡ Some waiting
      → drawn_by setup net (steps.Turn end app event now made) ≡ (outcome_by as_session setup.config live.session (turn_of net app waiting now made end)).session.view.counter
  unfolding drawn_by
  drawn-is net app event now made end live waiting lives first = rw (lives, first) refl

  fits-by : (step : Step) (net : Net Session) → ((n : ℕ) → n ≤ drawn_by setup net step → Small n) → Kept net
      → StepFits as_session epoch (IsOfName epoch) (IsVia setup.config epoch Small) (via-kinds setup.config epoch Small) setup (record net { sent = [] }) step
  unfolding StepFits turn_of
  fits-by (steps.Turn end app event now made) net small kept =
      λ live waiting lives first. on-ordered setup.config epoch Small app _ live.session.view.counter _ (λ n under. small n (subst (λ (m : ℕ). n ≤ m) (sym (drawn-is net app event now made end live waiting lives first)) under))
      (turn-on setup.config epoch Small app net live waiting now made end lives kept)
  fits-by (steps.In from message) net small kept = tt
  fits-by (steps.Bad from bad) net small kept = tt
  fits-by (steps.Lost place) net small kept = tt
  fits-by (steps.Tick now) net small kept = tt
  fits-by (steps.Withdraw app) net small kept = tt

  -- so it is after a step, where the numbers that it draws are of this kind
  pub after-kept : (step : Step) (net : Net Session) → ((n : ℕ) → n ≤ drawn_by setup net step → Small n) → Kept net → Kept (after_step as_session setup net step)
  after-kept step net small kept =
      step-kept as_session epoch (IsOfName epoch) (IsVia setup.config epoch Small) (via-kinds setup.config epoch Small) setup step net (fits-by step net small kept) kept

  quiet-kept : (apps : List AppEntry) (number : ℕ) (host : Host Session) → slice_get (map (λ app. quiet_host {S = Session}) apps) number ≡ Some host → host ≡ quiet_host
  quiet-kept [] number host at = cc
  quiet-kept (app ∷ apps) zero host at = cc
  quiet-kept (app ∷ apps) (suc number) host at = quiet-kept apps number host at

  pub start-kept : (began : ℕ) → Kept (start setup epoch began)
  unfolding start quiet_host All
  start-kept began = record {
    same = refl;
    hosts = λ number host at. subst (λ (h : Host Session). All (λ (live : Live Session). IsOfName epoch (record { host = number; serial = live.serial }) live.session) h.sessions × All (λ (client : Client). IsVia setup.config epoch Small client.app client.branch client.request) h.clients)
        (sym (quiet-kept setup.config.app number host at)) (tt, tt);
  }

-- ## Any journal

chained-kept : (setup : Setup) (epoch : ℕ) (journal : List Step) (net : Net Session) → Hold setup.config epoch (λ n. Unit {0}) net → Hold setup.config epoch (λ n. Unit {0}) (chained_from as_session setup net journal)
unfolding chained_from
chained-kept setup epoch [] net kept = kept
chained-kept setup epoch (step ∷ journal) net kept =
    chained-kept setup epoch journal (after_step as_session setup net step) (after-kept setup epoch (λ n. Unit {0}) step net (λ n under. tt) kept)

first-of : (config : Config) (epoch : ℕ) (clients : List Client) → All (λ (client : Client). IsVia config epoch (λ n. Unit {0}) client.app client.branch client.request) clients
    → All (λ (client : Client). IsOn config epoch client.app client.branch client.request) clients
unfolding All
first-of config epoch [] all = tt
first-of config epoch (client ∷ clients) all = (all.0.0, first-of config epoch clients all.1)

-- as a law
pub own-vias : (setup : Setup) (epoch began : ℕ) (journal : List Step) → HaveOwnVias setup.config (chained as_session setup epoch began journal)
unfolding HaveOwnVias chained
own-vias setup epoch began journal =
    let kept = chained-kept setup epoch journal (start setup epoch began) (start-kept setup epoch (λ n. Unit {0}) began) in
    λ number host at. subst (λ (e : ℕ). All (λ (client : Client). IsOn setup.config e client.app client.branch client.request) host.clients) (sym kept.same)
    (first-of setup.config epoch host.clients (kept.hosts number host at).1)

-- ## Hosts that keep histories

mapped-at : {A B : Type 0} (change : A → B) (xs : List A) (n : ℕ) (x : A) → slice_get xs n ≡ Some x → slice_get (map change xs) n ≡ Some (change x)
mapped-at change [] n x at = cc
mapped-at change (y ∷ xs) zero x at = ap (λ (found : Option _). option_map change found) at
mapped-at change (y ∷ xs) (suc n) x at = mapped-at change xs n x at

unmapped : {S T : Type 0} (change : S → T) (config : Config) (net : Net S) → HaveOwnVias config (map_net change net) → HaveOwnVias config net
unfolding HaveOwnVias map_net map_host
unmapped change config net own = λ number host at. own number (map_host change host) (mapped-at (map_host change) net.hosts number host at)

pub history-vias : (setup : Setup) (epoch began : ℕ) (journal : List Step) → HaveOwnVias setup.config (chained (as_history setup.config) setup epoch began journal)
history-vias setup epoch began journal =
    unmapped (session_of setup.config) setup.config _ (subst (λ (net : Net Session). HaveOwnVias setup.config net) (chained-histories setup epoch began journal) (own-vias setup epoch began journal))
