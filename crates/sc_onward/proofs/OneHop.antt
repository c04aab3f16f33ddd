-- One hop: where nothing stops a later request in the turn of its session, the next session of its way gets it in that step.
use Rattle.std.proofs.Common.{◌≡◌, ◌<◌, inl, ℕ, ◌++◌, ◌^◌, true, false, Option, None, Some, List, [], ◌∷◌, refl, sym, ap, subst, ◌∙◌, arith}
use Rattle.std.proofs.lemmas.Bool.Decides.{nat_tests}
use Rattle.std.specs.Prelude.{drop, is_some, length, map, nat_lt, option_and_then, option_map, slice_get}
use Rattle.std.specs.List.{find, flat_map}
use Rattle.sc_value.specs.declared.ids.AppId.{AppId}
use Rattle.sc_value.specs.declared.message.Request.{Request}
use Rattle.sc_value.specs.declared.parts.Address.{Address}
use Rattle.sc_value.specs.declared.parts.Uri.{Uri}
use Rattle.sc_tokens.specs.Names.{same_bytes}
use Rattle.sc_terms.specs.declared.settings.Config.{Config}
use Rattle.sc_terms.specs.declared.steps.Step.{Step}
use Rattle.sc_terms.specs.declared.steps.Step.TheVariants as steps
use Rattle.sc_terms.specs.declared.views.View.{View}
use Rattle.sc_parts.specs.declared.setup.Setup.{Setup}
use Rattle.sc_state.specs.declared.host.Live.{Live}
use Rattle.sc_state.specs.declared.host.Peer.TheVariants as peers
use Rattle.sc_state.specs.declared.net.Net.{Net}
use Rattle.sc_state.specs.declared.orders.Order.{Order}
use Rattle.sc_state.specs.declared.queue.Queued.{Queued}
use Rattle.sc_state.specs.declared.queue.Queued.TheVariants as queued
use Rattle.sc_state.specs.declared.queue.Waiting.{Waiting}
use Rattle.sc_state.specs.declared.session.Session.{Session}
use Rattle.sc_model.specs.DialogRequests.{cancel}
use Rattle.sc_model.specs.Dialogs.{tag_of}
use Rattle.sc_model.specs.OwnHosts.{is_own}
use Rattle.sc_hosts.specs.Destinations.{next_uri}
use Rattle.sc_hosts.specs.EventLists.{live_from}
use Rattle.sc_hosts.specs.Finishing.{outcome}
use Rattle.sc_hosts.specs.Histories.{as_session}
use Rattle.sc_hosts.specs.Messages.{on_branch, passed_request}
use Rattle.sc_hosts.specs.Nets.{host_at}
use Rattle.sc_hosts.specs.Runs.{after_step}
use Rattle.sc_hosts.specs.Steps.{inbox_of, live_at, outcome_by, ringing_at, turn_of}
use Rattle.sc_hosts.specs.Taking.{names, without_own_route as unrouted}
use Rattle.sc_hosts.specs.Transacting.{method_of}
use Rattle.sc_lasting.specs.Lasting.{All}
use Rattle.sc_keyed.specs.Keyed.{IsIn as IsItem}
use Rattle.sc_paths.specs.LaterRequests.{SetOut, has_vias, is_passed_on, later_in, later_vias, set_out_by}
use Rattle.sc_paths.specs.Moments.{Got, Moment, given_in, got_in, orders_by, waiting_at}
use Rattle.sc_hops.specs.Hops.{AreOtherBranches, IsOtherBranch, Is_ack, Is_send, Sends}
use Rattle.sc_hops.proofs.OneTurn.{unrouted-vias}
use Rattle.sc_ways.proofs.Counts.{AreWithin}
use Rattle.sc_ways.proofs.FirstHop.{found-some, in-filter, in-flat, in-map, in-right, some-live, vias-self}
use Rattle.sc_ways.proofs.OneHop.{orders-are}
use Rattle.sc_ways.proofs.OwnBranches.{IsOnOwnBranch, IsReadyAt, out-own}
use Rattle.sc_ways.proofs.Recorders.{found-small}
use Rattle.sc_ways.proofs.Waits.{events-live}
use Rattle.sc_onward.specs.Onward.{AreCounted, HasNewBranches, HasNoServer, IsUnstopped, PassesLast, sent_in}
use Rattle.sc_onward.proofs.Clean.{CleanNet}
use Rattle.sc_onward.proofs.Delivered.{Arrives}
use Rattle.sc_onward.proofs.Ends.{turn-passes}
use Rattle.sc_onward.proofs.Turning.{SendsOn, sent-comes}

-- what is known of a moment of a run
pub record IsSound (setup : Setup) (epoch : ℕ) (moment : Moment) : Type 0 where
  pub ready : IsReadyAt setup epoch moment
  pub after : moment.after ≡ after_step as_session setup moment.before moment.step
  pub within : AreWithin moment.before
  pub less : moment.after.count < 2 ^ 64
  pub counted : (app : AppId) (live : Live Session) → live_at app moment.before ≡ Some live → AreCounted live.session

-- the event in the session
abbrev pub Item : AppId → Waiting → Got
Item app waiting = record { app = app; waiting = waiting }

-- ## The orders

pub at-end : (xs : List Order) (y : Order) → slice_get (xs ++ y ∷ []) (length xs) ≡ Some y
at-end [] y = refl
at-end (x ∷ xs) y = at-end xs y

pub before-others : (xs : List Order) (y : Order) (sent : Request) → AreOtherBranches sent (xs ++ y ∷ []) (length xs) → All (IsOtherBranch sent) xs
unfolding AreOtherBranches All
before-others [] y sent others = tt
before-others (x ∷ xs) y sent others = (others.0, before-others xs y sent others.1)

pub later-is : (order : Order) (sent : Request) → Sends sent order → later_in order ≡ Some sent
unfolding later_in
later-is order sent (Is_send branch is) = rw is refl
later-is order sent (Is_ack is) = rw is refl

pub sends-in : (order : Order) (sent : Request) → Sends sent order → sent_in order ≡ Some sent
unfolding sent_in
sends-in order sent (Is_send branch is) = rw is refl
sends-in order sent (Is_ack is) = rw is refl

-- ## The request as it is passed on

pub passed-next : (config : Config) (view : View) (branch : ℕ) (request : Request) → next_uri (on_branch config view branch (passed_request request)) ≡ next_uri request
unfolding next_uri on_branch passed_request
passed-next config view branch request = refl

pub passed-method : (config : Config) (view : View) (branch : ℕ) (request : Request) → method_of (on_branch config view branch (passed_request request)) ≡ method_of request
unfolding on_branch passed_request
passed-method config view branch request = refl

pub passed-to : (config : Config) (view : View) (branch : ℕ) (request : Request) → (on_branch config view branch (passed_request request)).head.to ≡ request.head.to
unfolding on_branch passed_request
passed-to config view branch request = refl

pub passed-vias : (config : Config) (view : View) (branch : ℕ) (request : Request) → drop 1 (on_branch config view branch (passed_request request)).head.via ≡ request.head.via
unfolding on_branch passed_request
passed-vias config view branch request = refl

-- ## Among what the step queued

lower-test : (a b : ℕ) → a < b → nat_lt a b ≡ true
lower-test a b less = grind (arith, nat_tests, less)

live-inbox : (to : AppId) (net : Net Session) (last : Live Session) → live_at to net ≡ Some last → waiting_at net to ≡ map (λ (waiting : Waiting). Item to waiting) last.inbox
unfolding waiting_at inbox_of
live-inbox to net last is = rw is refl

item-here : (waiting : Waiting) (rest : List Waiting) → IsItem waiting (waiting ∷ rest)
unfolding IsItem
item-here waiting rest = inl refl

pub got-item : (moment : Moment) (to : AppId) (last : Live Session) (waiting : Waiting) (first rest : List Waiting) → live_at to moment.after ≡ Some last → last.inbox ≡ first ++ waiting ∷ rest
    → moment.before.count < waiting.number → IsItem (Item to waiting) (got_in moment)
unfolding got_in
got-item moment to last waiting first rest lives inbox above =
    in-filter (λ (got : Got). nat_lt moment.before.count got.waiting.number) (Item to waiting) (flat_map (waiting_at moment.after) (live_from 0 moment.after.hosts)) (lower-test moment.before.count waiting.number above)
    (in-flat (waiting_at moment.after) to (Item to waiting) (live_from 0 moment.after.hosts) (some-live to (host_at to.host moment.after) moment.after last refl lives)
    (subst (λ (all : List Got). IsItem (Item to waiting) all) (sym (live-inbox to moment.after last lives))
    (in-map (λ (w : Waiting). Item to w) waiting last.inbox (subst (λ (ws : List Waiting). IsItem waiting ws) (sym inbox) (in-right waiting first (waiting ∷ rest) (item-here waiting rest))))))

pub has-passed : (config : Config) (got next : Got) (request sent : Request) → got.waiting.event ≡ queued.Request request → next.waiting.event ≡ queued.Request (unrouted config sent)
    → drop 1 sent.head.via ≡ request.head.via → is_passed_on got next ≡ true
unfolding is_passed_on has_vias later_vias
has-passed config got next request sent is comes vias = rw (is, comes, unrouted-vias config sent, vias) (vias-self request.head.via)

-- ## One hop

module _ (setup : Setup) (epoch : ℕ) (small : epoch < 2 ^ 64) (moment : Moment) (sound : IsSound setup epoch moment) (new : HasNewBranches setup moment) (got : Got) (un : IsUnstopped setup moment got) where
  abbrev net : Net Session
  net = moment.before

  abbrev Turning : Step
  Turning = steps.Turn un.end got.app un.event un.now un.made

  abbrev Waits : Waiting
  Waits = record { number = got.waiting.number; event = queued.Request un.request }

  waits-is : ◌≡◌ {A = Waiting} got.waiting Waits
  waits-is = ap (λ (event : Queued). record { number = got.waiting.number; event = event }) un.is

  first : slice_get un.live.inbox 0 ≡ Some Waits
  first = un.first ∙ ap (λ (waiting : Waiting). Some waiting) waits-is

  passes : PassesLast setup.config un.request (outcome setup.config (ringing_at got.app (host_at got.app.host net)) un.live.session Waits un.now un.made un.end).orders
  passes =
      turn-passes setup.config (ringing_at got.app (host_at got.app.host net)) un.live.session got.waiting.number un.request un.now un.made un.end un.hops (sound.counted got.app un.live un.lives) un.comes un.alone un.some

  abbrev sent : Request
  sent = on_branch setup.config passes.view passes.branch (passed_request un.request)

  abbrev Done-orders : List Order
  Done-orders = (outcome_by as_session setup.config un.live.session (turn_of (record net { sent = [] }) got.app Waits un.now un.made un.end)).orders

  same-orders : Done-orders ≡ (outcome setup.config (ringing_at got.app (host_at got.app.host net)) un.live.session Waits un.now un.made un.end).orders
  unfolding outcome_by turn_of as_session
  same-orders = refl

  given-is : Done-orders ≡ passes.before ++ passes.order ∷ []
  given-is = same-orders ∙ passes.is

  moment-given : given_in setup moment ≡ passes.before ++ passes.order ∷ []
  moment-given =
      ap (λ (s : Step). orders_by setup net s) un.step ∙ (orders-are setup net got.app un.event un.now un.made un.end un.live Waits un.lives first ∙ given-is)

  at-place : slice_get (given_in setup moment) (length passes.before) ≡ Some passes.order
  at-place = ap (λ (given : List Order). slice_get given (length passes.before)) moment-given ∙ at-end passes.before passes.order

  abbrev Out : SetOut
  Out = record { moment = moment; sender = peers.Inside got.app.host; request = sent }

  turn-out : option_and_then later_in (slice_get (given_in setup moment) (length passes.before)) ≡ Some sent → set_out_by setup moment Turning (Some (length passes.before)) ≡ Some Out
  unfolding set_out_by
  turn-out is = ap (λ (found : Option Request). option_map (λ (request : Request). record { moment = moment; sender = peers.Inside got.app.host; request = request }) found) is

  out-is : set_out_by setup moment moment.step (Some (length passes.before)) ≡ Some Out
  out-is =
      subst (λ (s : Step). set_out_by setup moment s (Some (length passes.before)) ≡ Some Out) (sym un.step)
      (turn-out (ap (λ (found : Option Order). option_and_then later_in found) at-place ∙ later-is passes.order sent passes.sends))

  own-branch : IsOnOwnBranch setup Out (length passes.before)
  own-branch = out-own setup epoch moment (length passes.before) Out small sound.ready out-is

  clean : CleanNet sent net
  unfolding HasNoServer
  clean = new (length passes.before) passes.order sent at-place (sends-in passes.order sent passes.sends)

  after-is : moment.after ≡ after_step as_session setup net Turning
  after-is = sound.after ∙ ap (λ (s : Step). after_step as_session setup net s) un.step

  sends-on : SendsOn setup net got.app un.live Waits un.event un.now un.made un.end epoch un.to sent passes.before [] passes.order
  sends-on = record {
    lives = un.lives;
    first = first;
    given = given-is;
    sends = passes.sends;
    others = before-others passes.before passes.order sent (subst (λ (given : List Order). AreOtherBranches sent given (length passes.before)) moment-given own-branch.orders);
    clients = own-branch.clients;
    servers = clean;
    own = subst (λ (uri : Uri). is_own setup.config uri ≡ true) (sym (passed-next setup.config passes.view passes.branch un.request)) un.own;
    named = subst (λ (uri : Uri). names epoch un.to uri ≡ true) (sym (passed-next setup.config passes.view passes.branch un.request)) (subst (λ (e : ℕ). names e un.to (next_uri un.request) ≡ true) sound.ready.fine.at un.named);
    no_cancel = subst (λ (method : List ℕ). same_bytes method cancel ≡ false) (sym (passed-method setup.config passes.view passes.branch un.request)) un.no_cancel;
    tagged = subst (λ (to : Address). is_some (tag_of to) ≡ true) (sym (passed-to setup.config passes.view passes.branch un.request)) un.tagged;
    small = found-small epoch net un.to un.was (host_at un.to.host net) refl un.there small sound.ready.fine.few_before sound.ready.fine.small_before;
    at = sound.ready.fine.at;
    quiet = sound.ready.fine.quiet;
    numbered = sound.ready.fine.numbered;
    within = sound.within;
    few = sound.ready.fine.few_before;
    less = subst (λ (n : Net Session). n.count < 2 ^ 64) after-is sound.less;
    was = un.was;
    there = un.there;
    last = un.last;
    ends = subst (λ (n : Net Session). live_at un.to n ≡ Some un.last) after-is un.ends;
    room = un.room;
  }

  -- the next session has it among its events
  pub one-hop : (waiting : Waiting) × IsItem (Item un.to waiting) (got_in moment) × (is_passed_on got (Item un.to waiting) ≡ true)
  one-hop =
      let come : Arrives setup sent un.to net.count moment.after =
      subst (λ (n : Net Session). Arrives setup sent un.to net.count n) (sym after-is) (sent-comes setup net got.app un.live Waits un.event un.now un.made un.end epoch un.to sent passes.before [] passes.order sends-on) in
      let inbox : un.last.inbox ≡ come.held.first ++ come.waiting ∷ come.held.rest = sym (events-live un.to moment.after un.last un.ends) ∙ come.held.is in (
        come.waiting,
        got-item moment un.to un.last come.waiting come.held.first come.held.rest un.ends inbox come.above,
        has-passed setup.config got (Item un.to come.waiting) un.request sent un.is come.is (passed-vias setup.config passes.view passes.branch un.request),
      )

  -- so it is found
  pub next-found : (next : Got) × (find (is_passed_on got) (got_in moment) ≡ Some next)
  next-found = by (find (is_passed_on got) (got_in moment)) refl
    where
      by : (found : Option Got) → find (is_passed_on got) (got_in moment) ≡ found → (next : Got) × (find (is_passed_on got) (got_in moment) ≡ Some next)
      by None is = absurd (found-some (is_passed_on got) (Item un.to one-hop.0) (got_in moment) one-hop.1 one-hop.2 is)
      by (Some next) is = (next, is)
