-- A turn sends a later request by an own URI: where the session that it names lives and has room, the request is queued there in that step.
use Rattle.std.proofs.Common.{◌≡◌, ◌≤◌, ◌<◌, ℕ, ◌++◌, ◌^◌, Bool, true, false, Option, None, Some, List, [], ◌∷◌, refl, sym, ap, subst, ◌∙◌, append_assoc, arith}
use Rattle.std.specs.Prelude.{◌==◌, cond, is_some, length, option_map, slice_get, unwrap_or}
use Rattle.std.specs.List.{find}
use Rattle.std.specs.Option.{option_map_or}
use Rattle.sc_tokens.specs.Names.{same_bytes}
use Rattle.sc_value.specs.Lists.{change_first, remove_first}
use Rattle.sc_value.specs.declared.ids.AppId.{AppId}
use Rattle.sc_value.specs.declared.message.Message.TheVariants as messages
use Rattle.sc_value.specs.declared.message.Request.{Request}
use Rattle.sc_value.specs.declared.parts.Address.{Address}
use Rattle.sc_terms.specs.declared.calls.CallRecord.{CallRecord}
use Rattle.sc_terms.specs.declared.calls.End.{End}
use Rattle.sc_terms.specs.declared.settings.Config.{Config}
use Rattle.sc_terms.specs.declared.steps.Step.TheVariants as steps
use Rattle.sc_parts.specs.declared.setup.Setup.{Setup}
use Rattle.sc_state.specs.Hosts.{Host}
use Rattle.sc_state.specs.declared.host.Client.{Client}
use Rattle.sc_state.specs.declared.host.Live.{Live}
use Rattle.sc_state.specs.declared.net.Entry.{Entry}
use Rattle.sc_state.specs.declared.net.Net.{Net}
use Rattle.sc_state.specs.declared.orders.Order.{Order}
use Rattle.sc_state.specs.declared.orders.Order.TheVariants as orders
use Rattle.sc_state.specs.declared.orders.Outcome.{Outcome}
use Rattle.sc_state.specs.declared.queue.Queued.{Queued}
use Rattle.sc_state.specs.declared.queue.Queued.TheVariants as queued
use Rattle.sc_state.specs.declared.queue.Waiting.{Waiting}
use Rattle.sc_state.specs.declared.session.Session.{Session}
use Rattle.sc_model.specs.DialogRequests.{cancel}
use Rattle.sc_model.specs.Dialogs.{tag_of}
use Rattle.sc_model.specs.Names.{IsOf64}
use Rattle.sc_model.specs.OwnHosts.{is_own}
use Rattle.sc_hosts.specs.Destinations.{next_uri}
use Rattle.sc_hosts.specs.Finishing.{goodbye}
use Rattle.sc_hosts.specs.Histories.{as_session}
use Rattle.sc_hosts.specs.Inboxes.{is_full, is_live, live_in}
use Rattle.sc_hosts.specs.Nets.{acknowledge, change_host, host_at, named_host, obey, after_orders as obeyed, peer_of_host, with_message as put, send_later, send_named, send_to, with_routes}
use Rattle.sc_hosts.specs.Runs.{after_step, after_delivery as delivered}
use Rattle.sc_hosts.specs.Sessions.{Turn}
use Rattle.sc_hosts.specs.Steps.{closed_turn, inbox_of, without_application as invalidated, live_at, outcome_by, before_delivery as stepped, turn_of, net_after_turn as turned, turned_live, turns, turns_first, without_live}
use Rattle.sc_hosts.specs.Taking.{names, named_live, own_uri}
use Rattle.sc_hosts.specs.Transacting.{method_of, without_ended}
use Rattle.sc_lasting.specs.Lasting.{All}
use Rattle.sc_lives.specs.Numbers.{AreNumbered}
use Rattle.sc_lives.proofs.HostCounts.{AsMany, as_many-nets, change_host-hosts, obeyed-hosts}
use Rattle.sc_lives.proofs.NumberedHosts.{StaysNumbered, numbered-hosts, numbered-turns}
use Rattle.sc_lives.proofs.NumberedNets.{StayNumbered, change_host-numbered, numbered-nets, obeyed-numbered}
use Rattle.sc_lives.proofs.Serials.{change-rising}
use Rattle.sc_once.specs.Growing.{GoneIn, KnownIn, HostGrows as CountGrows, NetGrows as NetCounts}
use Rattle.sc_once.proofs.ChangedHosts.{changed_hosts}
use Rattle.sc_once.proofs.GrowingHosts.{grow-hosts as count-hosts}
use Rattle.sc_once.proofs.GrowingNets.{grow-nets as count-nets}
use Rattle.sc_once.proofs.OwnTurns.{dead-gone, gone-dead, live-known}
use Rattle.sc_walks.proofs.AnyChange.{AnyChange, any-hosts, any-turns}
use Rattle.sc_walks.proofs.WalkNets.{delivered-walks, obeyed-walks}
use Rattle.sc_walks.proofs.WalkSteps.{with_ready-walks}
use Rattle.sc_walks.proofs.WalkTurns.{closed_turn-walks}
use Rattle.sc_reached.specs.Reached.{AllSmall}
use Rattle.sc_reached.proofs.NamedHosts.{named_host-is}
use Rattle.sc_reached.proofs.Naming.{named_live-is}
use Rattle.sc_reached.proofs.Reaching.{at-host}
use Rattle.sc_hops.specs.Hops.{AreFit, AreKinds, HasNoClient, IsFit, IsOnWay, IsOrdered, IsOtherBranch, Is_ack, Is_send, Sends}
use Rattle.sc_hops.proofs.Carried.{FitsIn, obeyed-holds}
use Rattle.sc_hops.proofs.OneTurn.{none-on-way}
use Rattle.sc_hops.proofs.OwnBranch.{kin-branch}
use Rattle.sc_ways.proofs.Counts.{AreWithin, H as RisesAt, Rises, closed_turn-rises, hosts as rise-hosts, nets as rise-nets, same-last, small-net}
use Rattle.sc_ways.proofs.Epochs.{SameEpoch, closed_turn-epoch, epoch-nets}
use Rattle.sc_ways.proofs.Got.{small-sessions}
use Rattle.sc_onward.proofs.Clean.{CleanNet, Goes, IsApartFrom, change-goes, closed-goes, obey-goes, obeyed-goes, then-goes}
use Rattle.sc_onward.proofs.Delivered.{Arrives, Stands, comes}

-- ## Orders on other branches

abbrev pub Never : Request → Type 0
Never request = ⊥

abbrev pub Any : Request → Type 0
Any request = Unit {0}

pub apart-kinds : (sent : Request) → AreKinds (IsApartFrom sent) (IsApartFrom sent) Never Any
apart-kinds sent = record {
  kin_way = λ method to other sound is. sound (kin-branch sent method to other is);
  kin_sound = λ method to other sound is. sound (kin-branch sent method to other is);
  way_sound = λ other way. way;
  sent = λ config other way tagged told. tt;
}

routed-apart : (sent other : Request) (routes : List Address) → IsApartFrom sent other → IsApartFrom sent (with_routes routes other)
routed-apart sent other routes apart = λ is. apart is

order-apart : (config : Config) (sent : Request) (order : Order) → IsOtherBranch sent order → IsOrdered config (IsApartFrom sent) (IsApartFrom sent) order
unfolding IsOtherBranch IsOrdered
order-apart config sent (orders.Respond event response) other = tt
order-apart config sent (orders.Begin branch directive region state request) other = (other, λ routes. routed-apart sent request routes other)
order-apart config sent (orders.Send branch request) other = (other, λ own. other)
order-apart config sent (orders.Acknowledge request) other = λ own. other
order-apart config sent (orders.Cancel branch) other = tt
order-apart config sent (orders.CancelNow branch) other = tt

pub orders-apart : (given : List Order) (config : Config) (sent : Request) → All (IsOtherBranch sent) given → All (IsOrdered config (IsApartFrom sent) (IsApartFrom sent)) given
unfolding All
orders-apart [] config sent others = tt
orders-apart (order ∷ given) config sent others = (order-apart config sent order others.0, orders-apart given config sent others.1)

never-fits : (setup : Setup) (epoch : ℕ) (app : AppId) (event : Queued) → FitsIn Never Any setup epoch app event
unfolding IsFit
never-fits setup epoch app (queued.Request request) = λ told. absurd told
never-fits setup epoch app (queued.Initial region subscriber popped request) = tt
never-fits setup epoch app (queued.Response branch response) = tt
never-fits setup epoch app (queued.Cancelled number) = tt
never-fits setup epoch app (queued.Timer id) = tt
never-fits setup epoch app (queued.BranchTimer branch due) = tt
never-fits setup epoch app queued.Expired = tt
never-fits setup epoch app queued.Ready = tt

inbox-fits : (setup : Setup) (epoch base : ℕ) (app : AppId) (inbox : List Waiting) → All (λ (waiting : Waiting). base < waiting.number → FitsIn Never Any setup epoch app waiting.event) inbox
unfolding All
inbox-fits setup epoch base app [] = tt
inbox-fits setup epoch base app (waiting ∷ inbox) = (λ above. never-fits setup epoch app waiting.event, inbox-fits setup epoch base app inbox)

pub lives-fit : (setup : Setup) (epoch base number : ℕ) (lives : List (Live Session)) → AreFit (FitsIn Never Any setup epoch) base number lives
unfolding All
lives-fit setup epoch base number [] = tt
lives-fit setup epoch base number (live ∷ lives) = (inbox-fits setup epoch base (record { host = number; serial = live.serial }) live.inbox, lives-fit setup epoch base number lives)

pub clients-of : (sent : Request) (net : Net Session) → HasNoClient sent net → (number : ℕ) (host : Host Session) → host_at number net ≡ Some host → All (λ (client : Client). IsApartFrom sent client.request) host.clients
unfolding HasNoClient
clients-of sent net none number host at = none number host at

-- ## Names

-- where its next URI is own it comes by that
pub own-next : (config : Config) (sent : Request) → is_own config (next_uri sent) ≡ true → own_uri config sent ≡ Some (next_uri sent)
unfolding own_uri next_uri
own-next config sent own = by (slice_get sent.head.route 0) own
  where
    by : (found : Option Address) → is_own config (unwrap_or (option_map (λ route. route.uri) found) sent.uri) ≡ true
        → cond (option_map_or (λ route. is_own config route.uri) found false) (option_map (λ route. route.uri) found) (cond (is_own config sent.uri) (Some sent.uri) None)
        ≡ Some (unwrap_or (option_map (λ route. route.uri) found) sent.uri)
    by None own = rw own refl
    by (Some route) own = rw own refl

-- ## Lists and hosts

pub obeyed-both : (xs ys : List Order) (setup : Setup) (app : AppId) (net : Net Session) → obeyed setup app (xs ++ ys) net ≡ obeyed setup app ys (obeyed setup app xs net)
unfolding obeyed
obeyed-both [] ys setup app net = refl
obeyed-both (x ∷ xs) ys setup app net = obeyed-both xs ys setup app (obey setup app net x)

later-none : (b : Bool) (live : Live Session) (xs : Option (Live Session)) → cond b (Some live) xs ≡ None → xs ≡ None
later-none true live xs p = cc
later-none false live xs p = p

stays-none : (b : Bool) (live : Live Session) (xs ys : Option (Live Session)) → cond b (Some live) xs ≡ None → ys ≡ None → cond b (Some live) ys ≡ None
stays-none true live xs ys p q = cc
stays-none false live xs ys p q = q

none-removed : (lives : List (Live Session)) (serial other : ℕ) → find (is_live serial) lives ≡ None → find (is_live serial) (remove_first (is_live other) lives) ≡ None
unfolding remove_first
none-removed [] serial other none = refl
none-removed (live ∷ lives) serial other none =
    by (is_live other live) (later-none (is_live serial live) live (find (is_live serial) lives) none)
    (stays-none (is_live serial live) live (find (is_live serial) lives) (find (is_live serial) (remove_first (is_live other) lives)) none
    (none-removed lives serial other (later-none (is_live serial live) live (find (is_live serial) lives) none)))
  where
    by : (b : Bool) → find (is_live serial) lives ≡ None → cond (is_live serial live) (Some live) (find (is_live serial) (remove_first (is_live other) lives)) ≡ None
        → find (is_live serial) (cond b lives (live ∷ remove_first (is_live other) lives)) ≡ None
    by true none rest = none
    by false none rest = rest

module _ (to : AppId) where
  -- the serial was given, where there is such a host
  known-at : (net : Net Session) → KnownIn to.serial (host_at to.host net) → (host : Host Session) → host_at to.host net ≡ Some host → to.serial ≤ host.last
  unfolding KnownIn
  known-at net known host at = by (host_at to.host net) at known
    where
      by : (found : Option (Host Session)) → found ≡ Some host → KnownIn to.serial found → to.serial ≤ host.last
      by None is known = cc
      by (Some h) is known = let same : h ≡ host = cc in subst (λ (x : Host Session). to.serial ≤ x.last) same known

  at-known : (net : Net Session) → ((host : Host Session) → host_at to.host net ≡ Some host → to.serial ≤ host.last) → KnownIn to.serial (host_at to.host net)
  unfolding KnownIn
  at-known net each = by (host_at to.host net) refl
    where
      by : (found : Option (Host Session)) → host_at to.host net ≡ found → KnownIn to.serial found
      by None is = tt
      by (Some h) is = each h is

  pub change-known : (number : ℕ) (change : Host Session → Host Session) (net : Net Session) → ((host : Host Session) → (change host).last ≡ host.last) → KnownIn to.serial (host_at to.host net)
      → KnownIn to.serial (host_at to.host (change_host number change net))
  change-known number change net same known =
      at-known (change_host number change net)
      (λ host at. changed_hosts (λ (n : ℕ) (h : Host Session). n ≡ to.host → to.serial ≤ h.last) number change net (λ h there ok is. subst (λ (m : ℕ). to.serial ≤ m) (sym (same h)) (ok is))
      (λ n h there is. known-at net known h (subst (λ (m : ℕ). host_at m net ≡ Some h) is there)) to.host host (to.host == number) refl at refl)

  gone-at : (net : Net Session) → GoneIn to.serial (host_at to.host net) → (host : Host Session) → host_at to.host net ≡ Some host → (to.serial ≤ host.last) × (live_in to.serial host ≡ None)
  unfolding GoneIn
  gone-at net gone host at = by (host_at to.host net) at gone
    where
      by : (found : Option (Host Session)) → found ≡ Some host → GoneIn to.serial found → (to.serial ≤ host.last) × (live_in to.serial host ≡ None)
      by None is gone = cc
      by (Some h) is gone = let same : h ≡ host = cc in subst (λ (x : Host Session). (to.serial ≤ x.last) × (live_in to.serial x ≡ None)) same gone

  at-gone : (net : Net Session) → ((host : Host Session) → host_at to.host net ≡ Some host → (to.serial ≤ host.last) × (live_in to.serial host ≡ None)) → GoneIn to.serial (host_at to.host net)
  unfolding GoneIn
  at-gone net each = by (host_at to.host net) refl
    where
      by : (found : Option (Host Session)) → host_at to.host net ≡ found → GoneIn to.serial found
      by None is = tt
      by (Some h) is = each h is

  change-gone : (number : ℕ) (change : Host Session → Host Session) (net : Net Session) → ((host : Host Session) → (change host).last ≡ host.last)
      → ((host : Host Session) → live_in to.serial host ≡ None → live_in to.serial (change host) ≡ None) → GoneIn to.serial (host_at to.host net)
      → GoneIn to.serial (host_at to.host (change_host number change net))
  change-gone number change net same none gone =
      at-gone (change_host number change net)
      (λ host at. changed_hosts (λ (n : ℕ) (h : Host Session). n ≡ to.host → (to.serial ≤ h.last) × (live_in to.serial h ≡ None)) number change net
      (λ h there ok is. (subst (λ (m : ℕ). to.serial ≤ m) (sym (same h)) (ok is).0, none h (ok is).1))
      (λ n h there is. gone-at net gone h (subst (λ (m : ℕ). host_at m net ≡ Some h) is there)) to.host host (to.host == number) refl at refl)

  pub obeyed-counts : (setup : Setup) (app : AppId) (given : List Order) (net : Net Session) → NetCounts to net (obeyed setup app given net)
  obeyed-counts setup app given net = obeyed-walks (λ number now. CountGrows {S = Session} to.serial) (NetCounts to) (count-hosts to.serial) (count-nets to) setup app given net

  without-keeps : (app : AppId) (net : Net Session) → GoneIn to.serial (host_at to.host net) → GoneIn to.serial (host_at to.host (without_live app net))
  unfolding without_live without_ended
  without-keeps app net gone = change-gone app.host _ net (λ host. refl) (λ host none. none-removed host.sessions to.serial app.serial none) gone

  without-known : (app : AppId) (net : Net Session) → KnownIn to.serial (host_at to.host net) → KnownIn to.serial (host_at to.host (without_live app net))
  unfolding without_live without_ended
  without-known app net known = change-known app.host _ net (λ host. refl) known

  -- a turn that closes brings none back, and forgets none
  pub closed-gone : (setup : Setup) (app : AppId) (done : Outcome) (ends : Bool) (net : Net Session) → GoneIn to.serial (host_at to.host net) → GoneIn to.serial (host_at to.host (closed_turn setup app done ends net))
  unfolding closed_turn invalidated
  closed-gone setup app done true net gone =
      let given = goodbye setup.config done.session (inbox_of (live_at app net)) in
      without-keeps app (obeyed setup app given net) ((obeyed-counts setup app given net).gone gone)
  closed-gone setup app done false net gone =
      (with_ready-walks (λ number now. CountGrows {S = Session} to.serial) (NetCounts to) (count-hosts to.serial) (count-nets to) app done (live_at app net) net).gone gone

  pub closed-known : (setup : Setup) (app : AppId) (done : Outcome) (ends : Bool) (net : Net Session) → KnownIn to.serial (host_at to.host net) → KnownIn to.serial (host_at to.host (closed_turn setup app done ends net))
  unfolding closed_turn invalidated
  closed-known setup app done true net known =
      let given = goodbye setup.config done.session (inbox_of (live_at app net)) in
      without-known app (obeyed setup app given net) ((obeyed-counts setup app given net).known known)
  closed-known setup app done false net known =
      (with_ready-walks (λ number now. CountGrows {S = Session} to.serial) (NetCounts to) (count-hosts to.serial) (count-nets to) app done (live_at app net) net).known known

  pub closed-numbered : (setup : Setup) (app : AppId) (done : Outcome) (ends : Bool) (net : Net Session) → AreNumbered net → AreNumbered (closed_turn setup app done ends net)
  closed-numbered setup app done ends net = closed_turn-walks StaysNumbered StayNumbered numbered-hosts numbered-nets numbered-turns setup app done ends net

  pub closed-hosts : (setup : Setup) (app : AppId) (done : Outcome) (ends : Bool) (net : Net Session) → length (closed_turn setup app done ends net).hosts ≡ length net.hosts
  closed-hosts setup app done ends net = closed_turn-walks AnyChange AsMany any-hosts as_many-nets any-turns setup app done ends net

pub over : (a b c : ℕ) → a ≤ b → b < c → a < c
over a b c p q = omega (arith, p, q)

pub more : (a b c : ℕ) → a ≤ b → b ≤ c → a ≤ c
more a b c p q = omega (arith, p, q)

-- ## The turn

module _ (setup : Setup) (net : Net Session) (app : AppId) (live : Live Session) (waiting : Waiting) (event now : ℕ) (made : List CallRecord) (end : End) where
  abbrev pub Start : Net Session
  Start = record net { sent = [] }

  abbrev pub TurnOf : Turn
  TurnOf = turn_of Start app waiting now made end

  abbrev pub Done : Outcome
  Done = outcome_by as_session setup.config live.session TurnOf

  abbrev pub Change : Host Session → Host Session
  Change host = record host { sessions = change_first (is_live app.serial) (turned_live as_session setup.config net.moment TurnOf Done) host.sessions }

  abbrev pub Changed : Net Session
  Changed = change_host app.host Change Start

  abbrev After : Net Session
  After = after_step as_session setup net (steps.Turn end app event now made)

  pub after-is : live_at app net ≡ Some live → slice_get live.inbox 0 ≡ Some waiting → After ≡ delivered as_session setup (closed_turn setup app Done Done.ends (obeyed setup app Done.orders Changed))
  unfolding after_step stepped turns turns_first turned
  after-is lives first = rw (lives, first) refl

  pub changed-numbered : AreNumbered net → AreNumbered Changed
  unfolding turned_live
  changed-numbered numbered = change_host-numbered app.host Change Start (λ host rising. change-rising host.sessions 0 host.last (is_live app.serial) _ (λ one. refl) rising) numbered

  -- what is known of the turn that sends this request, and of the session that its own URI names
  pub record SendsOn (epoch : ℕ) (to : AppId) (sent : Request) (before rest : List Order) (order : Order) : Type 0 where
    pub lives : live_at app net ≡ Some live
    pub first : slice_get live.inbox 0 ≡ Some waiting
    pub given : Done.orders ≡ before ++ order ∷ rest
    pub sends : Sends sent order
    pub others : All (IsOtherBranch sent) before
    pub clients : HasNoClient sent net
    pub servers : CleanNet sent net
    pub own : is_own setup.config (next_uri sent) ≡ true
    pub named : names epoch to (next_uri sent) ≡ true
    pub no_cancel : same_bytes (method_of sent) cancel ≡ false
    pub tagged : is_some (tag_of sent.head.to) ≡ true
    pub small : IsOf64 epoch to 0
    pub at : net.epoch ≡ epoch
    pub quiet : net.wire ≡ []
    pub numbered : AreNumbered net
    pub within : AreWithin net
    pub few : length net.hosts ≤ 2 ^ 64
    pub less : After.count < 2 ^ 64
    pub was : Live Session
    pub there : live_at to net ≡ Some was
    pub last : Live Session
    pub ends : live_at to After ≡ Some last
    pub room : is_full last ≡ false

  module _ (epoch : ℕ) (to : AppId) (sent : Request) (before rest : List Order) (order : Order) (on : SendsOn epoch to sent before rest order) where
    abbrev N0 : Net Session
    N0 = obeyed setup app before Changed

    abbrev N1 : Net Session
    N1 = obey setup app N0 order

    abbrev N2 : Net Session
    N2 = obeyed setup app rest N1

    abbrev N3 : Net Session
    N3 = closed_turn setup app Done Done.ends N2

    abbrev Entry-of : Entry
    Entry-of = record { sender = app.host; receiver = to.host; message = messages.Request sent; note = None }

    behind : After ≡ delivered as_session setup N3
    unfolding obeyed
    behind = after-is on.lives on.first ∙ ap (λ (given : List Order). delivered as_session setup (closed_turn setup app Done Done.ends (obeyed setup app given Changed))) on.given
        ∙ ap (λ (n : Net Session). delivered as_session setup (closed_turn setup app Done Done.ends n)) (obeyed-both before (order ∷ rest) setup app Changed)

    rises-of : (given : List Order) (n : Net Session) → Rises n (obeyed setup app given n)
    rises-of given n = obeyed-walks RisesAt Rises rise-hosts rise-nets setup app given n

    epoch-of : (given : List Order) (n : Net Session) → (obeyed setup app given n).epoch ≡ n.epoch
    epoch-of given n = obeyed-walks AnyChange SameEpoch any-hosts epoch-nets setup app given n

    first-rises : Rises Start Changed
    first-rises = same-last app.host Change Start (λ host. refl)

    two-rises : Rises N0 N2
    unfolding obeyed
    two-rises = rises-of (order ∷ rest) N0

    three-rises : Rises N2 N3
    three-rises = closed_turn-rises as_session setup app Done Done.ends N2

    last-rises : Rises N3 (delivered as_session setup N3)
    last-rises = obeyed-end N3
      where
        obeyed-end : (n : Net Session) → Rises n (delivered as_session setup n)
        obeyed-end n = delivered-walks RisesAt Rises rise-hosts rise-nets as_session tt setup n

    end-less : (delivered as_session setup N3).count < 2 ^ 64
    end-less = subst (λ (n : Net Session). n.count < 2 ^ 64) behind on.less

    n0-within : AreWithin N0
    n0-within = (rises-of before Changed).within (first-rises.within on.within)

    n0-numbered : AreNumbered N0
    n0-numbered = obeyed-numbered setup app before Changed (changed-numbered on.numbered)

    n0-less : N0.count < 2 ^ 64
    n0-less = over N0.count _ _ (more N0.count N2.count _ two-rises.count (more N2.count N3.count _ three-rises.count last-rises.count)) end-less

    n0-epoch : N0.epoch ≡ epoch
    n0-epoch = epoch-of before Changed ∙ on.at

    n0-hosts : length N0.hosts ≡ length net.hosts
    n0-hosts = obeyed-hosts setup app before Changed ∙ change_host-hosts app.host Change Start

    n0-few : length N0.hosts ≤ 2 ^ 64
    n0-few = subst (λ (n : ℕ). n ≤ 2 ^ 64) (sym n0-hosts) on.few

    n0-known : KnownIn to.serial (host_at to.host N0)
    n0-known = (obeyed-counts to setup app before Changed).known (change-known to app.host Change Start (λ host. refl) (live-known to net on.was on.numbered on.there))

    n2-gone : GoneIn to.serial (host_at to.host N0) → GoneIn to.serial (host_at to.host N2)
    unfolding obeyed
    n2-gone gone = (obeyed-counts to setup app (order ∷ rest) N0).gone gone

    n2-known : KnownIn to.serial (host_at to.host N2)
    unfolding obeyed
    n2-known = (obeyed-counts to setup app (order ∷ rest) N0).known n0-known

    -- the named session lives as the request is sent
    n0-lives : (found : Option (Live Session)) → live_at to N0 ≡ found → (one : Live Session) × (live_at to N0 ≡ Some one)
    n0-lives (Some one) is = (one, is)
    n0-lives None is =
        let gone = (delivered-walks (λ number now. CountGrows {S = Session} to.serial) (NetCounts to) (count-hosts to.serial) (count-nets to) as_session tt setup N3).gone
        (closed-gone to setup app Done Done.ends N2 (n2-gone (dead-gone to N0 n0-known is))) in
        absurd (none-some (live_at to (delivered as_session setup N3)) (gone-dead to (delivered as_session setup N3) gone) (subst (λ (n : Net Session). live_at to n ≡ Some on.last) behind on.ends))
      where
        none-some : (found : Option (Live Session)) → found ≡ None → found ≡ Some on.last → ⊥
        none-some found p q = cc

    n0-host : named_host (next_uri sent) N0 ≡ Some to.host
    n0-host =
        let one = n0-lives (live_at to N0) refl in
        let at = at-host to one.0 (host_at to.host N0) one.1 in
        let all : AllSmall N0.hosts = small-net N0 n0-numbered n0-within n0-less in
        let lives : named_live epoch to.host (next_uri sent) at.0 ≡ Some one.0 =
        named_live-is epoch to.host to.serial (next_uri sent) at.0 on.small (small-sessions N0.hosts to.host at.0 all at.1) on.named ∙ at.2 in
        named_host-is epoch to (next_uri sent) on.small on.named N0 at.0 n0-epoch n0-few all at.1 (ap (λ (x : Option (Live Session)). is_some x) lives)

    -- it is put on the wire
    n1-wire : N1.wire ≡ N0.wire ++ Entry-of ∷ []
    unfolding obey send_later send_named send_to put acknowledge peer_of_host
    n1-wire = by on.sends
      where
        by : Sends sent order → N1.wire ≡ N0.wire ++ Entry-of ∷ []
        by (Is_send branch is) = rw (is, on.own, n0-host) refl
        by (Is_ack is) = rw (is, on.own, n0-host) refl

    goes-on : Goes sent N1 N3
    goes-on = then-goes sent N1 N2 N3 (obeyed-goes sent rest setup app N1) (closed-goes sent setup app Done Done.ends N2)

    n3-wire : N3.wire ≡ N0.wire ++ Entry-of ∷ goes-on.more
    n3-wire = goes-on.wire ∙ (ap (λ (wire : List Entry). wire ++ goes-on.more) n1-wire ∙ append_assoc N0.wire (Entry-of ∷ []) goes-on.more)

    changed-clients : (number : ℕ) (host : Host Session) → host_at number Changed ≡ Some host → All (λ (client : Client). IsApartFrom sent client.request) host.clients
    changed-clients number host is =
        changed_hosts (λ (n : ℕ) (h : Host Session). All (λ (client : Client). IsApartFrom sent client.request) h.clients) app.host Change Start (λ h there ok. ok) (clients-of sent net on.clients) number host (number == app.host) refl is

    n0-wire : All (λ (entry : Entry). IsOnWay (IsApartFrom sent) entry.message) N0.wire
    n0-wire =
        (obeyed-holds {S = Session} (IsApartFrom sent) (IsApartFrom sent) Never Any setup net.epoch 0 (apart-kinds sent) before app Changed (orders-apart before setup.config sent on.others)
        (record {
          same = refl;
          hosts = λ number host at. (lives-fit setup net.epoch 0 number host.sessions, changed-clients number host at);
          wire = none-on-way (λ (entry : Entry). IsOnWay (IsApartFrom sent) entry.message) net.wire on.quiet;
        })).wire

    n3-clean : CleanNet sent N3
    n3-clean =
        let first = (change-goes sent app.host Change Start (λ host ok. ok)).clean on.servers in
        let zero-clean = (obeyed-goes sent before setup app Changed).clean first in
        goes-on.clean ((obey-goes sent setup app N0 order).clean zero-clean)

    by-uri : own_uri setup.config sent ≡ Some (next_uri sent)
    by-uri = own-next setup.config sent on.own

    n3-stands : Stands setup epoch app.host sent to (next_uri sent) on.small on.no_cancel on.tagged by-uri on.named N3
    unfolding obeyed
    n3-stands = record {
      numbered = closed-numbered to setup app Done Done.ends N2 (obeyed-numbered setup app (order ∷ rest) N0 n0-numbered);
      within = three-rises.within (two-rises.within n0-within);
      at = closed_turn-epoch setup app Done Done.ends N2 ∙ (epoch-of (order ∷ rest) N0 ∙ n0-epoch);
      few = subst (λ (n : ℕ). n ≤ 2 ^ 64) (sym (closed-hosts to setup app Done Done.ends N2 ∙ (obeyed-hosts setup app (order ∷ rest) N0 ∙ n0-hosts))) on.few;
      known = closed-known to setup app Done Done.ends N2 n2-known;
      clean = n3-clean;
    }

    count-up : net.count ≤ N3.count
    count-up = more net.count Changed.count _ first-rises.count (more Changed.count N0.count _ (rises-of before Changed).count (more N0.count N2.count _ two-rises.count three-rises.count))

    pub sent-comes : Arrives setup sent to net.count After
    sent-comes =
        let come = comes setup epoch app.host sent to (next_uri sent) on.small on.no_cancel on.tagged by-uri on.named N0.wire N3 goes-on.more n3-wire n0-wire n3-stands end-less on.last
        (subst (λ (n : Net Session). live_at to n ≡ Some on.last) behind on.ends) on.room in
        subst (λ (n : Net Session). Arrives setup sent to net.count n) (sym behind) (record { waiting = come.waiting; is = come.is; above = over net.count N3.count come.waiting.number count-up come.above; held = come.held })
