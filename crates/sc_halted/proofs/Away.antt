-- A turn sends a later request by an own URI last of all: the session that the URI names gets it in that step, or its host answers it, or it is answered at once.
use Rattle.std.proofs.Common.{◌++◌, ◌+◌, ◌<◌, ◌^◌, ◌∙◌, ◌∷◌, ◌≡◌, ◌≤◌, ◌⊎◌, Bool, List, None, Option, Some, [], ap, append_assoc, arith, false, inl, inr, length, refl, slice_get, subst, sym, true, ℕ}
use Rattle.std.proofs.lemmas.Option.{slice_get_within}
use Rattle.std.specs.List.{find}
use Rattle.std.specs.Prelude.{◌==◌, is_some}
use Rattle.sc_value.specs.Lists.{change_first}
use Rattle.sc_value.specs.declared.ids.AppId.{AppId}
use Rattle.sc_value.specs.declared.message.Request.{Request}
use Rattle.sc_value.specs.declared.message.Response.{Response}
use Rattle.sc_tokens.specs.Names.{same_bytes}
use Rattle.sc_terms.specs.declared.calls.CallRecord.{CallRecord}
use Rattle.sc_terms.specs.declared.calls.End.{End}
use Rattle.sc_terms.specs.declared.steps.Step.TheVariants as steps
use Rattle.sc_parts.specs.declared.setup.Setup.{Setup}
use Rattle.sc_state.specs.Hosts.{Host}
use Rattle.sc_state.specs.declared.host.Client.{Client}
use Rattle.sc_state.specs.declared.host.Live.{Live}
use Rattle.sc_state.specs.declared.host.Taken.{Taken}
use Rattle.sc_state.specs.declared.net.Entry.{Entry}
use Rattle.sc_state.specs.declared.net.Net.{Net}
use Rattle.sc_state.specs.declared.orders.Order.{Order}
use Rattle.sc_state.specs.declared.orders.Order.TheVariants as orders
use Rattle.sc_state.specs.declared.queue.Queued.{Queued}
use Rattle.sc_state.specs.declared.queue.Queued.TheVariants as queued
use Rattle.sc_state.specs.declared.queue.Waiting.{Waiting}
use Rattle.sc_state.specs.declared.session.Session.{Session}
use Rattle.sc_tokens.specs.Bytes.{Bytes}
use Rattle.sc_model.specs.DialogRequests.{cancel}
use Rattle.sc_model.specs.Dialogs.{tag_of}
use Rattle.sc_model.specs.Names.{IsOf64, edge_tag}
use Rattle.sc_model.specs.OwnHosts.{is_own}
use Rattle.sc_model.specs.Responses.{response_to}
use Rattle.sc_model.specs.SessionStates.{ack}
use Rattle.sc_hosts.specs.Destinations.{next_uri}
use Rattle.sc_hosts.specs.Finishing.{goodbye}
use Rattle.sc_hosts.specs.Histories.{as_session}
use Rattle.sc_hosts.specs.Inboxes.{is_live, queue, with_event}
use Rattle.sc_hosts.specs.Messages.{bare_answer, own_response, without_via}
use Rattle.sc_hosts.specs.Nets.{acknowledge, change_host, host_at, named_host, obey, after_orders as obeyed, peer_of_host, with_host_after as placed, with_message as put, queue_for, queued_at, send_later, send_named, send_to, tell_own}
use Rattle.sc_hosts.specs.Runs.{after_step, after_delivery as delivered}
use Rattle.sc_hosts.specs.Steps.{closed_turn, inbox_of, without_application as invalidated, live_at, before_delivery as stepped, net_after_turn as turned, turned_live, turns, turns_first}
use Rattle.sc_hosts.specs.Taking.{named_live, names, own_uri}
use Rattle.sc_hosts.specs.Transacting.{is_over, is_same_app, method_of, state_of_client, with_client}
use Rattle.sc_hosts.specs.Words.{does_not_exist, unavailable}
use Rattle.sc_lives.specs.Numbers.{AreNumbered}
use Rattle.sc_lives.proofs.HostCounts.{change_host-hosts, obeyed-hosts}
use Rattle.sc_lives.proofs.NumberedNets.{obeyed-numbered}
use Rattle.sc_walks.proofs.AnyChange.{AnyChange, any-hosts}
use Rattle.sc_walks.proofs.WalkNets.{delivered-walks, obeyed-walks}
use Rattle.sc_walks.proofs.WalkSteps.{with_ready-walks}
use Rattle.sc_once.specs.Growing.{GoneIn, HostGrows as CountGrows, KnownIn, NetGrows as NetCounts}
use Rattle.sc_once.proofs.ChangedHosts.{changed_hosts}
use Rattle.sc_once.proofs.GrowingHosts.{grow-hosts as count-hosts}
use Rattle.sc_once.proofs.GrowingNets.{grow-nets as count-nets}
use Rattle.sc_once.proofs.OwnTurns.{dead-gone, gone-dead, live-known, without-gone}
use Rattle.sc_lasting.specs.Lasting.{All}
use Rattle.sc_waits.specs.Growing.{HostGrows, NetGrows, events_in}
use Rattle.sc_waits.proofs.GrowingHosts.{grow-hosts}
use Rattle.sc_waits.proofs.GrowingNets.{grow-nets}
use Rattle.sc_reached.specs.Reached.{AllSmall}
use Rattle.sc_reached.proofs.NamedHosts.{named_host-is}
use Rattle.sc_reached.proofs.Naming.{named_live-is}
use Rattle.sc_reached.proofs.Reaching.{at-host, placed-here, serial-is, with-inbox}
use Rattle.sc_keyed.specs.Keyed.{IsOn}
use Rattle.sc_hops.specs.Hops.{HasNoClient, IsOnWay, IsOtherBranch, Is_ack, Is_send, Sends}
use Rattle.sc_hops.proofs.Carried.{obeyed-holds}
use Rattle.sc_hops.proofs.OneTurn.{none-on-way}
use Rattle.sc_stopped.proofs.Stops.{gone-at as none-lives, none-from}
use Rattle.sc_ways.proofs.Counts.{AreWithin, H as RisesAt, Rises, closed_turn-rises, hosts as rise-hosts, nets as rise-nets, same-last, small-net}
use Rattle.sc_ways.proofs.Epochs.{SameEpoch, closed_turn-epoch, epoch-nets}
use Rattle.sc_ways.proofs.Got.{small-sessions}
use Rattle.sc_ways.proofs.Waits.{events-live}
use Rattle.sc_onward.proofs.Clean.{CleanNet, Goes, IsApartFrom, change-goes, closed-goes, obey-goes, obeyed-goes}
use Rattle.sc_onward.proofs.Delivered.{Arrives, Stands}
use Rattle.sc_onward.proofs.Turning.{Any, Change, Changed, Done, Never, apart-kinds, change-known, changed-numbered, clients-of, closed-gone, closed-hosts, closed-known, closed-numbered, lives-fit, more, obeyed-both, obeyed-counts, orders-apart, over, own-next}
use Rattle.sc_halted.specs.Halted.{IsAnsweredBack, IsFoundFull, entry_of}
use Rattle.sc_halted.proofs.ApartNets.{AllWell, FreeEntry, FreeOrder, Moves, OtherNet, begins-well, change-moves, obeyed-moves, ready-moves}
use Rattle.sc_halted.proofs.Back.{C, Standing, Told, fresh, queue-sessions}
use Rattle.sc_halted.proofs.Deliveries.{Back, Comes, Ready, comes-or-back, same-more}
use Rattle.sc_halted.proofs.Living.{HostLives, NetLives, changed-lives, live-hosts, live-nets, lives-changed, same-app, without-lives}

none-some : {A : Type 0} (found : Option A) (one : A) → found ≡ None → found ≡ Some one → ⊥
none-some found one p q = cc

zero-under : (n m : ℕ) → n ≤ m → 0 + n ≤ m
zero-under n m most = omega (arith, most)

less-up : (a b c : ℕ) → a ≤ b → b < c → a < c
less-up a b c p q = omega (arith, p, q)

above-up : (a b : ℕ) → a ≤ b → a < b + 1
above-up a b less = omega (arith, less)

-- ## An event of a session of the net

module _ (app : AppId) (event : Queued) where
  -- it is the last that waits there
  queued-last : (net : Net Session) (live : Live Session) → live_at app net ≡ Some live
      → events_in app (queue_for app event net) ≡ live.inbox ++ record { number = net.count + 1; event = event } ∷ []
  unfolding queue_for queued_at
  queued-last net live lives =
      let at = at-host app live (host_at app.host net) lives in
      let serial : live.serial ≡ app.serial = serial-is app.serial at.0.sessions live at.2 in
      let taken : Taken Session = queue app.serial net.moment event net.count at.0 in
      let found : find (is_live live.serial) at.0.sessions ≡ Some live = subst (λ (n : ℕ). find (is_live n) at.0.sessions ≡ Some live) (sym serial) at.2 in
      let changes : taken.host.sessions ≡ change_first (is_live live.serial) (with_event (net.count + 1) net.moment event) at.0.sessions =
      subst (λ (n : ℕ). taken.host.sessions ≡ change_first (is_live n) (with_event (net.count + 1) net.moment event) at.0.sessions) (sym serial)
      (queue-sessions app.serial net.moment event net.count at.0 live at.2) in
      let here : live_at app (placed app.host taken net) ≡ Some (with_event (net.count + 1) net.moment event live) =
      subst (λ (n : ℕ). live_at (record { host = app.host; serial = n }) (placed app.host taken net) ≡ Some (with_event (net.count + 1) net.moment event live)) serial
      (placed-here app.host net.moment event at.0 live taken net at.1 found changes) in
      subst (λ (found : Option (Host Session)). events_in app (queued_at app event found net) ≡ live.inbox ++ record { number = net.count + 1; event = event } ∷ []) (sym at.1)
      (events-live app (placed app.host taken net) (with_event (net.count + 1) net.moment event live) here ∙ with-inbox (net.count + 1) net.moment event live)

-- ## The turn

module _ (setup : Setup) (net : Net Session) (app : AppId) (live : Live Session) (waiting : Waiting) (event now : ℕ) (made : List CallRecord) (end : End) where
  abbrev Ends : Bool
  Ends = (Done setup net app live waiting event now made end).ends

  abbrev Moved : Net Session
  Moved = Changed setup net app live waiting event now made end

  abbrev Move : Host Session → Host Session
  Move = Change setup net app live waiting event now made end

  abbrev Start : Net Session
  Start = record net { sent = [] }

  abbrev pub Stepped : Net Session
  Stepped = stepped as_session setup (steps.Turn end app event now made) Start

  abbrev pub After : Net Session
  After = after_step as_session setup net (steps.Turn end app event now made)

  stepped-is : live_at app net ≡ Some live → slice_get live.inbox 0 ≡ Some waiting
      → Stepped ≡ closed_turn setup app (Done setup net app live waiting event now made end) Ends (obeyed setup app (Done setup net app live waiting event now made end).orders Moved)
  unfolding stepped turns turns_first turned
  stepped-is lives first = rw (lives, first) refl

  -- what is known of a turn that sends this request last, and of the session that its own URI names
  pub record SendsLast (epoch : ℕ) (to : AppId) (sent : Request) (before : List Order) (order : Order) : Type 0 where
    pub lives : live_at app net ≡ Some live
    pub first : slice_get live.inbox 0 ≡ Some waiting
    pub given : (Done setup net app live waiting event now made end).orders ≡ before ++ order ∷ []
    pub sends : Sends sent order
    pub others : All (IsOtherBranch sent) before
    pub clients : HasNoClient sent net
    pub servers : CleanNet sent net
    pub own : is_own setup.config (next_uri sent) ≡ true
    pub named : names epoch to (next_uri sent) ≡ true
    pub no_cancel : same_bytes (method_of sent) cancel ≡ false
    pub tagged : is_some (tag_of sent.head.to) ≡ true
    pub small : IsOf64 epoch to 0
    pub at : net.epoch ≡ epoch
    pub quiet : net.wire ≡ []
    pub numbered : AreNumbered net
    pub within : AreWithin net
    pub few : length net.hosts ≤ 2 ^ 64
    pub less : After.count < 2 ^ 64

  module _ (epoch : ℕ) (to : AppId) (sent : Request) (before : List Order) (order : Order) (on : SendsLast epoch to sent before order) where
    abbrev N0 : Net Session
    N0 = obeyed setup app before Moved

    abbrev N1 : Net Session
    N1 = obey setup app N0 order

    abbrev N3 : Net Session
    N3 = closed_turn setup app (Done setup net app live waiting event now made end) Ends N1

    abbrev It : Entry
    It = entry_of app.host to.host sent

    put-out : Stepped ≡ N3
    unfolding obeyed
    put-out = stepped-is on.lives on.first
        ∙ ap (λ (given : List Order). closed_turn setup app (Done setup net app live waiting event now made end) Ends (obeyed setup app given Moved)) on.given
        ∙ ap (λ (n : Net Session). closed_turn setup app (Done setup net app live waiting event now made end) Ends n) (obeyed-both before (order ∷ []) setup app Moved)

    behind : After ≡ delivered as_session setup N3
    unfolding after_step
    behind = ap (λ (n : Net Session). delivered as_session setup n) put-out

    rises-of : (given : List Order) (n : Net Session) → Rises n (obeyed setup app given n)
    rises-of given n = obeyed-walks RisesAt Rises rise-hosts rise-nets setup app given n

    epoch-of : (given : List Order) (n : Net Session) → (obeyed setup app given n).epoch ≡ n.epoch
    epoch-of given n = obeyed-walks AnyChange SameEpoch any-hosts epoch-nets setup app given n

    first-rises : Rises Start Moved
    first-rises = same-last app.host Move Start (λ host. refl)

    one-rises : Rises N0 N1
    unfolding obeyed
    one-rises = rises-of (order ∷ []) N0

    three-rises : Rises N1 N3
    three-rises = closed_turn-rises as_session setup app (Done setup net app live waiting event now made end) Ends N1

    last-rises : Rises N3 (delivered as_session setup N3)
    last-rises = delivered-walks RisesAt Rises rise-hosts rise-nets as_session tt setup N3

    end-less : (delivered as_session setup N3).count < 2 ^ 64
    end-less = subst (λ (n : Net Session). n.count < 2 ^ 64) behind on.less

    n0-within : AreWithin N0
    n0-within = (rises-of before Moved).within (first-rises.within on.within)

    n0-numbered : AreNumbered N0
    n0-numbered = obeyed-numbered setup app before Moved (changed-numbered setup net app live waiting event now made end on.numbered)

    n0-less : N0.count < 2 ^ 64
    n0-less = over N0.count _ _ (more N0.count N1.count _ one-rises.count (more N1.count N3.count _ three-rises.count last-rises.count)) end-less

    n0-epoch : N0.epoch ≡ epoch
    n0-epoch = epoch-of before Moved ∙ on.at

    n0-hosts : length N0.hosts ≡ length net.hosts
    n0-hosts = obeyed-hosts setup app before Moved ∙ change_host-hosts app.host Move Start

    n0-few : length N0.hosts ≤ 2 ^ 64
    n0-few = subst (λ (n : ℕ). n ≤ 2 ^ 64) (sym n0-hosts) on.few

    n0-small : AllSmall N0.hosts
    n0-small = small-net N0 n0-numbered n0-within n0-less

    n1-numbered : AreNumbered N1
    unfolding obeyed
    n1-numbered = obeyed-numbered setup app (order ∷ []) N0 n0-numbered

    n1-hosts : length N1.hosts ≡ length N0.hosts
    unfolding obeyed
    n1-hosts = obeyed-hosts setup app (order ∷ []) N0

    n1-epoch : N1.epoch ≡ N0.epoch
    unfolding obeyed
    n1-epoch = epoch-of (order ∷ []) N0

    n3-hosts : length N3.hosts ≡ length N0.hosts
    n3-hosts = closed-hosts to setup app (Done setup net app live waiting event now made end) Ends N1 ∙ n1-hosts

    count-up : net.count ≤ N3.count
    count-up = more net.count Moved.count _ first-rises.count (more Moved.count N0.count _ (rises-of before Moved).count (more N0.count N1.count _ one-rises.count three-rises.count))

    up-to : net.count ≤ N0.count
    up-to = more net.count Moved.count _ first-rises.count (rises-of before Moved).count

    by-uri : own_uri setup.config sent ≡ Some (next_uri sent)
    by-uri = own-next setup.config sent on.own

    -- ## The session lives as it is sent

    module _ (one : Live Session) (lives : live_at to N0 ≡ Some one) where
      n0-host : named_host (next_uri sent) N0 ≡ Some to.host
      n0-host =
          let at = at-host to one (host_at to.host N0) lives in
          let named : named_live epoch to.host (next_uri sent) at.0 ≡ Some one =
          named_live-is epoch to.host to.serial (next_uri sent) at.0 on.small (small-sessions N0.hosts to.host at.0 n0-small at.1) on.named ∙ at.2 in
          named_host-is epoch to (next_uri sent) on.small on.named N0 at.0 n0-epoch n0-few n0-small at.1 (ap (λ (x : Option (Live Session)). is_some x) named)

      -- it is put on the wire
      n1-wire : N1.wire ≡ N0.wire ++ It ∷ []
      unfolding obey send_later send_named send_to put acknowledge peer_of_host
      n1-wire = by on.sends
        where
          by : Sends sent order → N1.wire ≡ N0.wire ++ It ∷ []
          by (Is_send branch is) = rw (is, on.own, n0-host) refl
          by (Is_ack is) = rw (is, on.own, n0-host) refl

      goes-on : Goes sent N1 N3
      goes-on = closed-goes sent setup app (Done setup net app live waiting event now made end) Ends N1

      n3-wire : N3.wire ≡ N0.wire ++ It ∷ goes-on.more
      n3-wire = goes-on.wire ∙ (ap (λ (wire : List Entry). wire ++ goes-on.more) n1-wire ∙ append_assoc N0.wire (It ∷ []) goes-on.more)

      moved-clients : (number : ℕ) (host : Host Session) → host_at number Moved ≡ Some host → All (λ (client : Client). IsApartFrom sent client.request) host.clients
      moved-clients number host is =
          changed_hosts (λ (n : ℕ) (h : Host Session). All (λ (client : Client). IsApartFrom sent client.request) h.clients) app.host Move Start (λ h there ok. ok) (clients-of sent net on.clients) number host (number == app.host) refl is

      n0-wire : All (λ (entry : Entry). IsOnWay (IsApartFrom sent) entry.message) N0.wire
      n0-wire =
          (obeyed-holds {S = Session} (IsApartFrom sent) (IsApartFrom sent) Never Any setup net.epoch 0 (apart-kinds sent) before app Moved (orders-apart before setup.config sent on.others)
          (record {
            same = refl;
            hosts = λ number host at. (lives-fit setup net.epoch 0 number host.sessions, moved-clients number host at);
            wire = none-on-way (λ (entry : Entry). IsOnWay (IsApartFrom sent) entry.message) net.wire on.quiet;
          })).wire

      n3-clean : CleanNet sent N3
      n3-clean =
          let first = (change-goes sent app.host Move Start (λ host ok. ok)).clean on.servers in
          let zero-clean = (obeyed-goes sent before setup app Moved).clean first in
          goes-on.clean ((obey-goes sent setup app N0 order).clean zero-clean)

      n1-known : KnownIn to.serial (host_at to.host N1)
      unfolding obeyed
      n1-known = (obeyed-counts to setup app (order ∷ []) N0).known (live-known to N0 one n0-numbered lives)

      n3-stands : Stands setup epoch app.host sent to (next_uri sent) on.small on.no_cancel on.tagged by-uri on.named N3
      n3-stands = record {
        numbered = closed-numbered to setup app (Done setup net app live waiting event now made end) Ends N1 n1-numbered;
        within = three-rises.within (one-rises.within n0-within);
        at = closed_turn-epoch setup app (Done setup net app live waiting event now made end) Ends N1 ∙ (n1-epoch ∙ n0-epoch);
        few = subst (λ (n : ℕ). n ≤ 2 ^ 64) (sym n3-hosts) n0-few;
        known = closed-known to setup app (Done setup net app live waiting event now made end) Ends N1 n1-known;
        clean = n3-clean;
      }

      n3-ready : (branch : ℕ) → Ready setup epoch app branch N0.moment sent to (next_uri sent) on.small on.no_cancel on.tagged by-uri on.named N3
      n3-ready branch = record {
        stands = n3-stands;
        there = subst (λ (n : ℕ). to.host < n) (sym n3-hosts) (slice_get_within N0.hosts to.host _ (at-host to one (host_at to.host N0) lives).1);
      }

      wire-comes : (branch : ℕ) → Comes setup epoch app branch N0.moment sent to (next_uri sent) on.small on.no_cancel on.tagged by-uri on.named N0.wire goes-on.more N3
      wire-comes branch = comes-or-back setup epoch app branch N0.moment sent to (next_uri sent) on.small on.no_cancel on.tagged by-uri on.named N0.wire N3 goes-on.more n3-wire n0-wire (n3-ready branch) end-less

    -- ## It doesn't

    module _ (none : live_at to N0 ≡ None) where
      n0-none : named_host (next_uri sent) N0 ≡ None
      unfolding named_host
      n0-none =
          none-from N0.epoch to (next_uri sent) (subst (λ (e : ℕ). IsOf64 e to 0) (sym n0-epoch) on.small) (subst (λ (e : ℕ). names e to (next_uri sent) ≡ true) (sym n0-epoch) on.named) N0.hosts 0
          (zero-under (length N0.hosts) _ n0-few) n0-small (none-lives to N0 none)

      -- the answer of the container
      abbrev Answer : Response
      Answer = without_via (own_response (edge_tag setup.config.salt) 481 does_not_exist sent)

      n1-told : (branch : ℕ) → order ≡ orders.Send branch sent → N1 ≡ queue_for app (queued.Response branch Answer) N0
      unfolding obey send_later send_named tell_own
      n1-told branch is = rw (is, on.own, n0-none) refl

    -- ## The session that sent it, where it lives after the step

    app-known : KnownIn app.serial (host_at app.host N0)
    app-known = (obeyed-counts app setup app before Moved).known (change-known app app.host Move Start (λ host. refl) (live-known app net live on.numbered on.lives))

    one-known : KnownIn app.serial (host_at app.host N1)
    unfolding obeyed
    one-known = (obeyed-counts app setup app (order ∷ []) N0).known app-known

    one-gone : GoneIn app.serial (host_at app.host N0) → GoneIn app.serial (host_at app.host N1)
    unfolding obeyed
    one-gone gone = (obeyed-counts app setup app (order ∷ []) N0).gone gone

    gone-after : GoneIn app.serial (host_at app.host N3) → live_at app (delivered as_session setup N3) ≡ None
    gone-after gone =
        gone-dead app (delivered as_session setup N3)
        ((delivered-walks (λ number now. CountGrows {S = Session} app.serial) (NetCounts app) (count-hosts app.serial) (count-nets app) as_session tt setup N3).gone gone)

    -- a turn that ends it leaves no such session
    ended-gone : (ends : Bool) → ends ≡ true → GoneIn app.serial (host_at app.host (closed_turn setup app (Done setup net app live waiting event now made end) ends N1))
    unfolding closed_turn invalidated
    ended-gone true is =
        let given : List Order = goodbye setup.config (Done setup net app live waiting event now made end).session (inbox_of (live_at app N1)) in
        without-gone app (obeyed setup app given N1) (obeyed-numbered setup app given N1 n1-numbered) ((obeyed-counts app setup app given N1).known one-known)
    ended-gone false is = cc

    -- what waits in it goes on to wait
    kept-waits : (ends : Bool) → ends ≡ false → NetGrows app N1 (closed_turn setup app (Done setup net app live waiting event now made end) ends N1)
    unfolding closed_turn
    kept-waits true is = cc
    kept-waits false is =
        with_ready-walks (λ number now. HostGrows {S = Session} app.serial) (NetGrows app) (grow-hosts app.serial) (grow-nets app) app (Done setup net app live waiting event now made end) (live_at app N1) N1

    then-waits : NetGrows app N3 (delivered as_session setup N3)
    then-waits = delivered-walks (λ number now. HostGrows {S = Session} app.serial) (NetGrows app) (grow-hosts app.serial) (grow-nets app) as_session tt setup N3

    module _ (last : Live Session) (lasts : live_at app (delivered as_session setup N3) ≡ Some last) where
      ends-not : Ends ≡ false
      ends-not = by Ends refl
        where
          by : (b : Bool) → Ends ≡ b → b ≡ false
          by true is = absurd (none-some (live_at app (delivered as_session setup N3)) last (gone-after (ended-gone Ends is)) lasts)
          by false is = refl

      lives-on : (found : Option (Live Session)) → live_at app N0 ≡ found → (one : Live Session) × (live_at app N0 ≡ Some one)
      lives-on (Some one) is = (one, is)
      lives-on None is =
          absurd (none-some (live_at app (delivered as_session setup N3)) last (gone-after (closed-gone app setup app (Done setup net app live waiting event now made end) Ends N1 (one-gone (dead-gone app N0 app-known is)))) lasts)

      -- an event that is queued for it as the request is sent waits there in the end
      pub told-waits : (what : Queued) → N1 ≡ queue_for app what N0
          → (first : List Waiting) × (rest : List Waiting) × (last.inbox ≡ first ++ record { number = N0.count + 1; event = what } ∷ rest)
      told-waits what is =
          let one = lives-on (live_at app N0) refl in
          let waits : Waiting = record { number = N0.count + 1; event = what } in
          let here : events_in app N1 ≡ one.0.inbox ++ waits ∷ [] = ap (λ (n : Net Session). events_in app n) is ∙ queued-last app what N0 one.0 one.1 in
          let on = kept-waits Ends ends-not in
          let all : events_in app (delivered as_session setup N3) ≡ (one.0.inbox ++ waits ∷ on.new) ++ then-waits.new =
          then-waits.waits ∙ ap (λ (ws : List Waiting). ws ++ then-waits.new) (on.waits ∙ (ap (λ (ws : List Waiting). ws ++ on.new) here ∙ append_assoc one.0.inbox (waits ∷ []) on.new)) in (
            one.0.inbox,
            on.new ++ then-waits.new,
            sym (events-live app (delivered as_session setup N3) last lasts) ∙ (all ∙ append_assoc one.0.inbox (waits ∷ on.new) then-waits.new),
          )

    -- ## Nothing else has its branch

    module _ (branch : ℕ) where
      abbrev pub Own : Client
      Own = C setup epoch app branch N0.moment to.host sent

      abbrev pub Fresh : is_over (state_of_client Own) ≡ false
      Fresh = fresh setup epoch app branch N0.moment to.host sent

      abbrev pub Salt : Bytes
      Salt = setup.config.salt

      -- no host has the branch, and no order before sends it
      pub record Quiet : Type 0 where
        pub hosts : OtherNet Salt epoch Own Fresh net
        pub given : All (FreeOrder Salt epoch Own Fresh app) before

      module _ (quiet : Quiet) (one : Live Session) (lives : live_at to N0 ≡ Some one) (is : order ≡ orders.Send branch sent) where
        moved-well : Moves Salt epoch Own Fresh ⊥ Start Moved
        moved-well = change-moves Salt epoch Own Fresh ⊥ app.host Move Start (λ host ok. ok) quiet.hosts

        before-well : Moves Salt epoch Own Fresh ⊥ Moved N0
        before-well = obeyed-moves Salt epoch Own Fresh before setup app Moved quiet.given moved-well.well

        n0-free : All (FreeEntry Salt epoch Own Fresh) N0.wire
        n0-free =
            subst (λ (wire : List Entry). All (FreeEntry Salt epoch Own Fresh) wire)
            (sym (before-well.wire ∙ ap (λ (wire : List Entry). wire ++ before-well.more) on.quiet)) before-well.free

        n1-is : N1 ≡ record (change_host app.host (with_client Own) N0) { wire = N0.wire ++ It ∷ [] }
        unfolding obey send_later send_named send_to put
        n1-is = rw (is, on.own, n0-host one lives) refl

        n1-well : AllWell Salt epoch Own Fresh (Unit {0}) N1
        n1-well = subst (λ (n : Net Session). AllWell Salt epoch Own Fresh (Unit {0}) n) (sym n1-is) (begins-well Salt epoch Own Fresh N0 before-well.well)

        closed-moves : (ends : Bool) → ends ≡ false → Moves Salt epoch Own Fresh (Unit {0}) N1 (closed_turn setup app (Done setup net app live waiting event now made end) ends N1)
        unfolding closed_turn
        closed-moves true ends = cc
        closed-moves false ends = ready-moves Salt epoch Own Fresh (Unit {0}) app (Done setup net app live waiting event now made end) (live_at app N1) N1 n1-well

        n3-standing : Ends ≡ false → Standing setup epoch app branch N0.moment to.host sent N3
        n3-standing ends = record {
          wells = (closed-moves Ends ends).well;
          at = (n3-stands one lives).at;
          known = closed-known app setup app (Done setup net app live waiting event now made end) Ends N1 one-known;
        }

        n3-free : Ends ≡ false → All (FreeEntry Salt epoch Own Fresh) (goes-on one lives).more
        n3-free ends =
            let moves = closed-moves Ends ends in
            subst (λ (es : List Entry). All (FreeEntry Salt epoch Own Fresh) es) (same-more N1.wire moves.more (goes-on one lives).more (sym moves.wire ∙ (goes-on one lives).wire)) moves.free

    -- ## Where it lives it goes on to live

    moved-lives : NetLives to net Moved
    unfolding turned_live
    moved-lives = changed-lives to app.host Move Start (λ host at same found is. lives-changed host.sessions (is_live app.serial) _ to.serial (λ l. refl) found is)

    orders-live : (given : List Order) (n : Net Session) → NetLives to n (obeyed setup app given n)
    orders-live given n = obeyed-walks (λ number now. HostLives to.serial) (NetLives to) (live-hosts to.serial) (live-nets to) setup app given n

    n0-kept : NetLives to net N0
    n0-kept = λ found is. let moved = moved-lives found is in orders-live before Moved moved.0 moved.1

    n1-kept : NetLives to N0 N1
    unfolding obeyed
    n1-kept = orders-live (order ∷ []) N0

    dead-first : (found : Option (Live Session)) → live_at to net ≡ found → live_at to N0 ≡ None → live_at to net ≡ None
    dead-first None is none = is
    dead-first (Some was) is none = let one = n0-kept was is in absurd (none-some (live_at to N0) one.0 none one.1)

    kept-closed : (ends : Bool) → ends ≡ false → NetLives to N1 (closed_turn setup app (Done setup net app live waiting event now made end) ends N1)
    unfolding closed_turn
    kept-closed true is = cc
    kept-closed false is =
        with_ready-walks (λ number now. HostLives to.serial) (NetLives to) (live-hosts to.serial) (live-nets to) app (Done setup net app live waiting event now made end) (live_at app N1) N1

    ended-other : (ends : Bool) → ends ≡ true → is_same_app to app ≡ false → NetLives to N1 (closed_turn setup app (Done setup net app live waiting event now made end) ends N1)
    unfolding closed_turn invalidated
    ended-other true is away =
        λ found lives.
        let given : List Order = goodbye setup.config (Done setup net app live waiting event now made end).session (inbox_of (live_at app N1)) in
        let one = orders-live given N1 found lives in
        without-lives to app (obeyed setup app given N1) away one.0 one.1
    ended-other false is away = cc

    -- one that has ended meanwhile is the one that sent it
    is-itself : (one : Live Session) → live_at to N0 ≡ Some one → live_at to N3 ≡ None → (to ≡ app) × (live_at app After ≡ None)
    is-itself one lives dead = by Ends refl
      where
        by-app : Ends ≡ true → (b : Bool) → is_same_app to app ≡ b → (to ≡ app) × (live_at app After ≡ None)
        by-app ends true is = (same-app to app is, ap (λ (n : Net Session). live_at app n) behind ∙ gone-after (ended-gone Ends ends))
        by-app ends false is =
            let next = n1-kept one lives in
            let last = ended-other Ends ends is next.0 next.1 in
            absurd (none-some (live_at to N3) last.0 dead last.1)

        by : (b : Bool) → Ends ≡ b → (to ≡ app) × (live_at app After ≡ None)
        by true ends = by-app ends (is_same_app to app) refl
        by false ends =
            let next = n1-kept one lives in
            let last = kept-closed Ends ends next.0 next.1 in
            absurd (none-some (live_at to N3) last.0 dead last.1)

    -- ## All of it

    -- the answer to it waits in the session that sent it, where that lives
    unfoldable pub Tells : ℕ → ℕ → Type 0
    Tells code branch =
        (live_at app After ≡ None)
        ⊎ ((last : Live Session) × (waits : Waiting) × (first : List Waiting) × (rest : List Waiting) × (response : Response) × (live_at app After ≡ Some last)
        × (last.inbox ≡ first ++ waits ∷ rest) × (net.count < waits.number) × (waits.event ≡ queued.Response branch response) × (response.code ≡ code))

    -- so it is where it is no ACK and nothing else has its branch
    unfoldable pub TellsBack : ℕ → Type 0
    TellsBack code =
        (branch : ℕ) → order ≡ orders.Send branch sent → IsOn setup.config epoch app branch sent → same_bytes (method_of sent) ack ≡ false → Quiet branch → Tells code branch

    pub data Becomes : Type 0 where
      Waits_there : Arrives setup sent to net.count After → Becomes
      Told_once : (branch : ℕ) → live_at to net ≡ None → order ≡ orders.Send branch sent → Tells 481 branch → Becomes
      Goes_nowhere : live_at to net ≡ None → order ≡ orders.Acknowledge sent → Becomes
      Gone_back : to ≡ app → live_at app After ≡ None → IsAnsweredBack setup Stepped It sent 481 does_not_exist → Becomes
      Full_back : IsFoundFull setup Stepped app to sent → TellsBack 503 → Becomes

    answer-code : (edge : Bytes) (code : ℕ) (reason : Bytes) (request : Request) → (without_via (own_response edge code reason request)).code ≡ code
    unfolding without_via own_response response_to bare_answer
    answer-code edge code reason request = refl

    tells : live_at to N0 ≡ None → (branch : ℕ) → order ≡ orders.Send branch sent → (found : Option (Live Session)) → live_at app (delivered as_session setup N3) ≡ found → Tells 481 branch
    unfolding Tells
    tells none branch is None gone = inl (ap (λ (n : Net Session). live_at app n) behind ∙ gone)
    tells none branch is (Some last) lasts =
        let what : Queued = queued.Response branch (Answer none) in
        let held = told-waits last lasts what (n1-told none branch is) in
        inr (
          last,
          record { number = N0.count + 1; event = what },
          held.0,
          held.1,
          Answer none,
          ap (λ (n : Net Session). live_at app n) behind ∙ lasts,
          held.2,
          above-up net.count N0.count up-to,
          refl,
          answer-code (edge_tag setup.config.salt) 481 does_not_exist sent,
        )

    by-order : live_at to N0 ≡ None → Sends sent order → Becomes
    by-order none (Is_send branch is) = Told_once branch (dead-first (live_at to net) refl none) is (tells none branch is (live_at app (delivered as_session setup N3)) refl)
    by-order none (Is_ack is) = Goes_nowhere (dead-first (live_at to net) refl none) is

    -- the answer that its host gave comes back
    back-tells : (code : ℕ) (reason : Bytes) (one : Live Session) (lives : live_at to N0 ≡ Some one) (branch : ℕ) → order ≡ orders.Send branch sent
        → Back setup epoch app branch N0.moment sent to (next_uri sent) on.small on.no_cancel on.tagged by-uri on.named code reason N0.wire (goes-on one lives).more N3
        → IsOn setup.config epoch app branch sent → same_bytes (method_of sent) ack ≡ false → Quiet branch → (found : Option (Live Session)) → live_at app (delivered as_session setup N3) ≡ found → Tells code branch
    unfolding Tells Told
    back-tells code reason one lives branch is back drawn other quiet None gone = inl (ap (λ (n : Net Session). live_at app n) behind ∙ gone)
    back-tells code reason one lives branch is back drawn other quiet (Some last) lasts =
        let ends = ends-not last lasts in
        let told = back.tells drawn other (n0-free branch quiet one lives is) (n3-free branch quiet one lives is ends) (n3-standing branch quiet one lives is ends) last lasts in
        let answer : Response = without_via (own_response (edge_tag setup.config.salt) code reason sent) in
        inr (
          last,
          record { number = told.0; event = queued.Response branch answer },
          told.1,
          told.2,
          answer,
          ap (λ (n : Net Session). live_at app n) behind ∙ lasts,
          told.4,
          less-up net.count N3.count told.0 count-up told.3,
          refl,
          answer-code (edge_tag setup.config.salt) code reason sent,
        )

    same-branch : (a b : ℕ) → order ≡ orders.Send a sent → order ≡ orders.Send b sent → a ≡ b
    same-branch a b p q = sends-one a b (sym p ∙ q)
      where
        sends-one : (a b : ℕ) → orders.Send a sent ≡ orders.Send b sent → a ≡ b
        sends-one a b is = cc

    tells-back : (code : ℕ) (reason : Bytes) (one : Live Session) (lives : live_at to N0 ≡ Some one) (branch : ℕ) → order ≡ orders.Send branch sent
        → Back setup epoch app branch N0.moment sent to (next_uri sent) on.small on.no_cancel on.tagged by-uri on.named code reason N0.wire (goes-on one lives).more N3 → TellsBack code
    unfolding TellsBack
    tells-back code reason one lives branch is back =
        λ other sends.
        subst (λ (k : ℕ). IsOn setup.config epoch app k sent → same_bytes (method_of sent) ack ≡ false → Quiet k → Tells code k) (same-branch branch other is sends)
        (λ drawn no_ack quiet. back-tells code reason one lives branch is back drawn no_ack quiet (live_at app (delivered as_session setup N3)) refl)

    never-back : (code : ℕ) → order ≡ orders.Acknowledge sent → TellsBack code
    unfolding TellsBack
    never-back code is = λ branch sends. absurd (not-both branch is sends)
      where
        not-both : (branch : ℕ) → order ≡ orders.Acknowledge sent → order ≡ orders.Send branch sent → ⊥
        not-both branch p q = cc

    waits-there : Arrives setup sent to N3.count (delivered as_session setup N3) → Becomes
    waits-there come =
        Waits_there (subst (λ (n : Net Session). Arrives setup sent to net.count n) (sym behind) (record { waiting = come.waiting; is = come.is; above = over net.count N3.count come.waiting.number count-up come.above; held = come.held }))

    abbrev AnsweredAt : ℕ → Bytes → Net Session → Type 0
    AnsweredAt code reason n = IsAnsweredBack setup n It sent code reason

    gone-itself : (one : Live Session) → live_at to N0 ≡ Some one → AnsweredAt 481 does_not_exist N3 → live_at to N3 ≡ None → Becomes
    gone-itself one lives answered dead =
        let own = is-itself one lives dead in
        Gone_back own.0 own.1 (subst (λ (n : Net Session). AnsweredAt 481 does_not_exist n) (sym put-out) answered)

    by-wire : (one : Live Session) (lives : live_at to N0 ≡ Some one) (branch : ℕ) → order ≡ orders.Send branch sent
        → Comes setup epoch app branch N0.moment sent to (next_uri sent) on.small on.no_cancel on.tagged by-uri on.named N0.wire (goes-on one lives).more N3 → Becomes
    by-wire one lives branch is (inl come) = waits-there come
    by-wire one lives branch is (inr (inl gone)) = gone-itself one lives gone.0 gone.1
    by-wire one lives branch is (inr (inr full)) =
        Full_back (subst (λ (n : Net Session). IsFoundFull setup n app to sent) (sym put-out) full.found) (tells-back 503 unavailable one lives branch is full)

    by-ack : (one : Live Session) (lives : live_at to N0 ≡ Some one) → order ≡ orders.Acknowledge sent
        → Comes setup epoch app 0 N0.moment sent to (next_uri sent) on.small on.no_cancel on.tagged by-uri on.named N0.wire (goes-on one lives).more N3 → Becomes
    by-ack one lives is (inl come) = waits-there come
    by-ack one lives is (inr (inl gone)) = gone-itself one lives gone.0 gone.1
    by-ack one lives is (inr (inr full)) = Full_back (subst (λ (n : Net Session). IsFoundFull setup n app to sent) (sym put-out) full.found) (never-back 503 is)

    by-sends : (one : Live Session) → live_at to N0 ≡ Some one → Sends sent order → Becomes
    by-sends one lives (Is_send branch is) = by-wire one lives branch is (wire-comes one lives branch)
    by-sends one lives (Is_ack is) = by-ack one lives is (wire-comes one lives 0)

    by-found : (found : Option (Live Session)) → live_at to N0 ≡ found → Becomes
    by-found None none = by-order none on.sends
    by-found (Some one) lives = by-sends one lives on.sends

    pub becomes : Becomes
    becomes = by-found (live_at to N0) refl
