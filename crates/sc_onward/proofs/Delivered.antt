-- A request on the wire whose own URI names a session comes to it, behind all that is before it on the wire.
use Rattle.std.proofs.Common.{◌≡◌, ◌≤◌, ◌<◌, ℕ, suc, ◌+◌, ◌++◌, ◌^◌, Bool, true, false, Option, None, Some, List, [], ◌∷◌, refl, sym, ap, subst, ◌∙◌, append_assoc, arith}
use Rattle.std.proofs.lemmas.Bool.Decides.{nat_tests}
use Rattle.std.specs.Char.{to_ascii_lowercase}
use Rattle.std.specs.Prelude.{◌==◌, ◌&&◌, cond, is_some, length, map, nat_le, not, slice_get}
use Rattle.std.specs.List.{find}
use Rattle.std.specs.Option.{option_map_or}
use Rattle.sc_tokens.specs.Names.{same_bytes, same_name}
use Rattle.sc_value.specs.declared.ids.AppId.{AppId}
use Rattle.sc_value.specs.declared.message.Message.TheVariants as messages
use Rattle.sc_value.specs.declared.message.Request.{Request}
use Rattle.sc_value.specs.declared.parts.Uri.{Uri}
use Rattle.sc_value.specs.declared.parts.Via.{Via}
use Rattle.sc_parts.specs.declared.setup.Setup.{Setup}
use Rattle.sc_state.specs.Hosts.{Host}
use Rattle.sc_state.specs.declared.host.Live.{Live}
use Rattle.sc_state.specs.declared.host.Peer.{Peer}
use Rattle.sc_state.specs.declared.host.Peer.TheVariants as peers
use Rattle.sc_state.specs.declared.host.Server.{Server}
use Rattle.sc_state.specs.declared.net.Entry.{Entry}
use Rattle.sc_state.specs.declared.net.Net.{Net}
use Rattle.sc_state.specs.declared.queue.Queued.{Queued}
use Rattle.sc_state.specs.declared.queue.Queued.TheVariants as queued
use Rattle.sc_state.specs.declared.queue.Waiting.{Waiting}
use Rattle.sc_state.specs.declared.session.Session.{Session}
use Rattle.sc_tokens.specs.Bytes.{Bytes}
use Rattle.sc_model.specs.DialogRequests.{cancel}
use Rattle.sc_model.specs.Dialogs.{tag_of}
use Rattle.sc_model.specs.Names.{IsOf64}
use Rattle.sc_model.specs.SessionStates.{ack}
use Rattle.sc_hosts.specs.Histories.{as_session}
use Rattle.sc_hosts.specs.Inboxes.{is_full}
use Rattle.sc_hosts.specs.Nets.{deliver_first, host_at, is_busy}
use Rattle.sc_hosts.specs.Runs.{after_delivery as delivered}
use Rattle.sc_hosts.specs.Sessions.{Form}
use Rattle.sc_hosts.specs.Steps.{live_at}
use Rattle.sc_hosts.specs.Taking.{names, own_uri, without_own_route as unrouted, server_for}
use Rattle.sc_hosts.specs.Transacting.{branch_of, is_acked_by, is_completed, is_invite_server, is_kin, is_over, is_repeated_by, method_of, port_of, same_top, same_via, state_of_server, takes_from, top_via}
use Rattle.sc_hosts.proofs.Deliveries.{one-delivery, same_bytes-equal}
use Rattle.sc_lasting.specs.Lasting.{All}
use Rattle.sc_lives.specs.Numbers.{AreNumbered}
use Rattle.sc_lives.proofs.HostCounts.{AsMany, as_many-nets}
use Rattle.sc_lives.proofs.NumberedHosts.{StaysNumbered, numbered-hosts}
use Rattle.sc_lives.proofs.NumberedNets.{StayNumbered, numbered-nets}
use Rattle.sc_once.specs.Growing.{KnownIn, HostGrows as CountGrows, NetGrows as NetCounts}
use Rattle.sc_once.proofs.GrowingHosts.{grow-hosts as count-hosts}
use Rattle.sc_once.proofs.GrowingNets.{grow-nets as count-nets}
use Rattle.sc_once.proofs.OwnTurns.{dead-gone, gone-dead}
use Rattle.sc_walks.proofs.AnyChange.{AnyChange, any-hosts}
use Rattle.sc_walks.proofs.WalkNets.{deliver_first-walks, delivered-walks}
use Rattle.sc_waits.specs.Growing.{HostGrows, NetGrows, events_in}
use Rattle.sc_waits.proofs.GrowingHosts.{grow-hosts}
use Rattle.sc_waits.proofs.GrowingNets.{grow-nets}
use Rattle.sc_reached.specs.Reached.{AllSmall, IsDeliveredAlone, answered_at_once}
use Rattle.sc_reached.proofs.Delivering.{delivers}
use Rattle.sc_reached.proofs.Reaching.{at-host}
use Rattle.sc_hops.specs.Hops.{IsOnWay}
use Rattle.sc_ways.proofs.Counts.{AreWithin, H as RisesAt, Rises, hosts as rise-hosts, nets as rise-nets, small-net}
use Rattle.sc_ways.proofs.Epochs.{SameEpoch, epoch-nets}
use Rattle.sc_ways.proofs.Got.{small-sessions}
use Rattle.sc_ways.proofs.Waits.{IsHeld, events-live}
use Rattle.sc_recorded.specs.Recorded.{IsInner}
use Rattle.sc_onward.proofs.Clean.{CleanNet, Free, IsApartFrom, first-goes}

-- ## One delivery

pub first-numbered : {S : Type 0} (form : Form S) (setup : Setup) (net : Net S) → AreNumbered net → AreNumbered (deliver_first form setup net)
first-numbered form setup net = deliver_first-walks StaysNumbered StayNumbered numbered-hosts numbered-nets form tt setup net

pub first-hosts : {S : Type 0} (form : Form S) (setup : Setup) (net : Net S) → length (deliver_first form setup net).hosts ≡ length net.hosts
first-hosts form setup net = deliver_first-walks AnyChange AsMany any-hosts as_many-nets form tt setup net

-- ## No transaction takes it

via-flip : (a b : Via) → same_via a b ≡ true → same_via b a ≡ true
unfolding same_via same_name
via-flip a b is =
    let one = first-two (same_bytes (branch_of a) (branch_of b)) (same_bytes (map to_ascii_lowercase a.host) (map to_ascii_lowercase b.host)) (port_of a == port_of b) is in
    three (same_bytes (branch_of b) (branch_of a)) (same_bytes (map to_ascii_lowercase b.host) (map to_ascii_lowercase a.host)) (port_of b == port_of a) (turned (branch_of a) (branch_of b) one.0) (turned (map to_ascii_lowercase a.host) (map to_ascii_lowercase b.host) one.1) (flipped (port_of a) (port_of b) (last-of (same_bytes (branch_of a) (branch_of b)) (same_bytes (map to_ascii_lowercase a.host) (map to_ascii_lowercase b.host)) (port_of a == port_of b) is))
  where
    first-two : (x y z : Bool) → (x && y && z) ≡ true → (x ≡ true) × (y ≡ true)
    first-two true true z is = (refl, refl)
    first-two true false z is = cc
    first-two false y z is = cc

    last-of : (x y z : Bool) → (x && y && z) ≡ true → z ≡ true
    last-of true true z is = is
    last-of true false z is = cc
    last-of false y z is = cc

    three : (x y z : Bool) → x ≡ true → y ≡ true → z ≡ true → (x && y && z) ≡ true
    three true true z p q r = r
    three true false z p q r = cc
    three false y z p q r = cc

    turned : (x y : Bytes) → same_bytes x y ≡ true → same_bytes y x ≡ true
    turned x y is = let same = same_bytes-equal x y is in subst (λ (z : Bytes). same_bytes y z ≡ true) (sym same) (subst (λ (z : Bytes). same_bytes z y ≡ true) same is)

    flipped : (x y : ℕ) → (x == y) ≡ true → (y == x) ≡ true
    flipped x y is = grind (arith, nat_tests, is)

top-flip : (a b : List Via) → same_top a b ≡ true → same_top b a ≡ true
unfolding same_top
top-flip a b is = by (top_via a) (top_via b) is
  where
    by : (x y : Option Via) → option_map_or (λ v. option_map_or (same_via v) y false) x false ≡ true → option_map_or (λ v. option_map_or (same_via v) x false) y false ≡ true
    by None y is = cc
    by (Some v) None is = cc
    by (Some v) (Some w) is = via-flip v w is

clash : (b : Bool) → b ≡ true → b ≡ false → ⊥
clash b p q = cc

inner-is : (peer : Peer) (sender : ℕ) → takes_from peer (peers.Inside sender) ≡ true → IsInner peer
unfolding takes_from IsInner
inner-is (peers.Inside host) sender is = tt
inner-is (peers.Outside place) sender is = cc
inner-is peers.Nowhere sender is = cc

-- a transaction of another branch is no kin
no-kin : (sender : ℕ) (sent : Request) (server : Server) → Free sent server → is_kin (peers.Inside sender) sent server ≡ false
unfolding is_kin
no-kin sender sent server free = by (takes_from server.peer (peers.Inside sender)) (is_over (state_of_server server)) (same_top server.request.head.via sent.head.via) refl refl
  where
    by : (a b c : Bool) → takes_from server.peer (peers.Inside sender) ≡ a → same_top server.request.head.via sent.head.via ≡ c → (a && not b && c) ≡ false
    by true true c p q = refl
    by true false true p q = absurd (free (inner-is server.peer sender p) (top-flip server.request.head.via sent.head.via q))
    by true false false p q = refl
    by false b c p q = refl

none-found : (test : Server → Bool) (sender : ℕ) (sent : Request) (servers : List Server) → ((server : Server) → is_kin (peers.Inside sender) sent server ≡ false → test server ≡ false)
    → All (Free sent) servers → find test servers ≡ None
unfolding All
none-found test sender sent [] each free = refl
none-found test sender sent (server ∷ servers) each free =
    rw (each server (no-kin sender sent server free.0)) (none-found test sender sent servers each free.1)

and-false : (a b : Bool) → a ≡ false → (a && b) ≡ false
and-false true b is = cc
and-false false b is = refl

and-both : (a b c : Bool) → a ≡ false → (a && b && c) ≡ false
and-both true b c is = cc
and-both false b c is = refl

pub unclaimed-is : {S : Type 0} (sender : ℕ) (sent : Request) (host : Host S) → same_bytes (method_of sent) cancel ≡ false → All (Free sent) host.servers → is_some (server_for (peers.Inside sender) sent host) ≡ false
unfolding server_for
unclaimed-is sender sent host other free = rw other (by (same_bytes (method_of sent) ack))
  where
    by : (b : Bool) → is_some (cond b (find (is_acked_by (peers.Inside sender) sent) host.servers) (find (is_repeated_by (peers.Inside sender) sent) host.servers)) ≡ false
    by true = rw (none-found (is_acked_by (peers.Inside sender) sent) sender sent host.servers
        (λ server none. and-both (is_kin (peers.Inside sender) sent server) (is_invite_server server) (is_completed (state_of_server server)) none) free) refl
    by false = rw (none-found (is_repeated_by (peers.Inside sender) sent) sender sent host.servers
        (λ server none. and-false (is_kin (peers.Inside sender) sent server) (same_bytes (method_of server.request) (method_of sent)) none) free) refl

-- ## It comes

some-more : (n : ℕ) → (suc n == 0) ≡ false
some-more n = grind (arith, nat_tests)

pub busy-is : (net : Net Session) (entry : Entry) (rest : List Entry) → net.wire ≡ entry ∷ rest → is_busy net ≡ true
unfolding is_busy
busy-is net entry rest is = rw is (turned (suc (length rest) == 0) (some-more (length rest)))
  where
    turned : (b : Bool) → b ≡ false → not b ≡ true
    turned true p = cc
    turned false p = refl

under : (a b c : ℕ) → a ≤ b → b < c → a < c
under a b c p q = omega (arith, p, q)

over : (a b c : ℕ) → a ≤ b → b < c → a < c
over a b c p q = omega (arith, p, q)

pub next-more : (n : ℕ) → n < n + 1
next-more n = omega arith

length-more : (xs ys : List Waiting) → length xs ≤ length (xs ++ ys)
length-more [] ys = omega arith
length-more (x ∷ xs) ys = omega (arith, length-more xs ys)

room-before : (n m : ℕ) → n ≤ m → nat_le 64 m ≡ false → nat_le 64 n ≡ false
room-before n m less room = grind (arith, nat_tests, less, room)

-- what waits there once it was delivered
pub delivered-events : (to : AppId) (live : Live Session) (event : Queued) (answers : List Entry) (net next : Net Session) → IsDeliveredAlone to live event answers net next
    → events_in to next ≡ live.inbox ++ record { number = net.count + 1; event = event } ∷ []
delivered-events to live event answers net next alone = events-live to next alone.later alone.lives ∙ alone.inbox

none-some : (found : Option (Live Session)) (last : Live Session) → found ≡ None → found ≡ Some last → ⊥
none-some found last p q = cc

-- an event that was the last stands between what was before it and what is new
pub grown-list : (first more xs ys : List Waiting) (waiting : Waiting) → xs ≡ first ++ waiting ∷ [] → ys ≡ xs ++ more → ys ≡ first ++ waiting ∷ more
grown-list first more xs ys waiting p q = q ∙ (ap (λ (ws : List Waiting). ws ++ more) p ∙ append_assoc first (waiting ∷ []) more)

-- the request waits in this session, with a number above this one
pub record Arrives (setup : Setup) (sent : Request) (to : AppId) (count : ℕ) (net : Net Session) : Type 0 where
  pub waiting : Waiting
  pub is : waiting.event ≡ queued.Request (unrouted setup.config sent)
  pub above : count < waiting.number
  pub held : IsHeld to waiting net

module _ (setup : Setup) (epoch sender : ℕ) (sent : Request) (to : AppId) (uri : Uri) (small : IsOf64 epoch to 0) (no_cancel : same_bytes (method_of sent) cancel ≡ false)
    (tagged : is_some (tag_of sent.head.to) ≡ true) (by : own_uri setup.config sent ≡ Some uri) (named : names epoch to uri ≡ true) where
  abbrev pub It : Entry
  It = record { sender = sender; receiver = to.host; message = messages.Request sent; note = None }

  -- what is known of the net while it is on the wire
  pub record Stands (net : Net Session) : Type 0 where
    pub numbered : AreNumbered net
    pub within : AreWithin net
    pub at : net.epoch ≡ epoch
    pub few : length net.hosts ≤ 2 ^ 64
    pub known : KnownIn to.serial (host_at to.host net)
    pub clean : CleanNet sent net

  abbrev pub Next : Net Session → Net Session
  Next net = deliver_first as_session setup net

  abbrev pub End : Net Session → Net Session
  End net = delivered as_session setup net

  counts-first : (net : Net Session) → NetCounts to net (Next net)
  counts-first net = deliver_first-walks (λ number now. CountGrows {S = Session} to.serial) (NetCounts to) (count-hosts to.serial) (count-nets to) as_session tt setup net

  pub stands-next : (net : Net Session) (entry : Entry) (rest : List Entry) → net.wire ≡ entry ∷ rest → IsOnWay (IsApartFrom sent) entry.message → Stands net → Stands (Next net)
  stands-next net entry rest is way stands = record {
    numbered = first-numbered as_session setup net stands.numbered;
    within = (deliver_first-walks RisesAt Rises rise-hosts rise-nets as_session tt setup net).within stands.within;
    at = deliver_first-walks AnyChange SameEpoch any-hosts epoch-nets as_session tt setup net ∙ stands.at;
    few = subst (λ (n : ℕ). n ≤ 2 ^ 64) (sym (first-hosts as_session setup net)) stands.few;
    known = (counts-first net).known stands.known;
    clean = (first-goes sent as_session setup entry rest net is way).clean stands.clean;
  }

  pub grows : (net : Net Session) → NetGrows to net (End net)
  grows net = delivered-walks (λ number now. HostGrows {S = Session} to.serial) (NetGrows to) (grow-hosts to.serial) (grow-nets to) as_session tt setup net

  pub rises : (net : Net Session) → Rises net (End net)
  rises net = delivered-walks RisesAt Rises rise-hosts rise-nets as_session tt setup net

  -- it lives now where it does in the end
  lives-now : (net : Net Session) (last : Live Session) → KnownIn to.serial (host_at to.host net) → live_at to (End net) ≡ Some last → (live : Live Session) × (live_at to net ≡ Some live)
  lives-now net last known ends = by-found (live_at to net) refl
    where
      by-found : (found : Option (Live Session)) → live_at to net ≡ found → (live : Live Session) × (live_at to net ≡ Some live)
      by-found None is = absurd (none-some (live_at to (End net)) last (gone-dead to (End net) ((grows net).gone (dead-gone to net known is))) ends)
      by-found (Some live) is = (live, is)

  -- it has room now where it has in the end
  room-now : (net : Net Session) (live last : Live Session) → live_at to net ≡ Some live → live_at to (End net) ≡ Some last → is_full last ≡ false → is_full live ≡ false
  unfolding is_full
  room-now net live last lives ends room =
      let more : last.inbox ≡ live.inbox ++ (grows net).new = sym (events-live to (End net) last ends) ∙ ((grows net).waits ∙ ap (λ (ws : List Waiting). ws ++ (grows net).new) (events-live to net live lives)) in
      room-before (length live.inbox) (length last.inbox) (subst (λ (ws : List Waiting). length live.inbox ≤ length ws) (sym more) (length-more live.inbox (grows net).new)) room

  first-comes : (net : Net Session) (back : List Entry) → net.wire ≡ It ∷ back → Stands net → (End net).count < 2 ^ 64 → (last : Live Session) → live_at to (End net) ≡ Some last → is_full last ≡ false
      → Arrives setup sent to net.count (End net)
  first-comes net back is stands less last ends room =
      let now = lives-now net last stands.known ends in
      let at = at-host to now.0 (host_at to.host net) now.1 in
      let all : AllSmall net.hosts = small-net net stands.numbered stands.within (under net.count (End net).count _ (rises net).count less) in
      let alone = delivers as_session setup It sent net to now.0 (record {
        first = ap (λ (wire : List Entry). slice_get wire 0) is;
        message = refl;
        receiver = refl;
        no_cancel = no_cancel;
        tagged = tagged;
        host = at.0;
        there = at.1;
        unclaimed = unclaimed-is sender sent at.0 no_cancel (stands.clean to.host at.0 at.1);
        uri = uri;
        by = by;
        named = subst (λ (e : ℕ). names e to uri ≡ true) (sym stands.at) named;
        lives = now.1;
        room = room-now net now.0 last now.1 ends room;
        within = subst (λ (e : ℕ). IsOf64 e to 0) (sym stands.at) small;
        small = small-sessions net.hosts to.host at.0 all at.1;
      }) in
      let next : Net Session = Next net in
      let on = grows next in
      let waiting : Waiting = record { number = net.count + 1; event = queued.Request (unrouted setup.config sent) } in
      let here : events_in to next ≡ now.0.inbox ++ waiting ∷ [] = delivered-events to now.0 waiting.event (answered_at_once It sent) net next alone in
      let ended : Arrives setup sent to net.count (End next) = record {
        waiting = waiting;
        is = refl;
        above = next-more net.count;
        held = record { first = now.0.inbox; rest = on.new; is = grown-list now.0.inbox on.new (events_in to next) (events_in to (End next)) waiting here on.waits };
      } in
      subst (λ (n : Net Session). Arrives setup sent to net.count n) (sym (one-delivery as_session setup net (busy-is net It back is))) ended

  -- behind others on the wire
  pub comes : (front : List Entry) (net : Net Session) (back : List Entry) → net.wire ≡ front ++ It ∷ back → All (λ (entry : Entry). IsOnWay (IsApartFrom sent) entry.message) front → Stands net
      → (End net).count < 2 ^ 64 → (last : Live Session) → live_at to (End net) ≡ Some last → is_full last ≡ false → Arrives setup sent to net.count (End net)
  unfolding All
  comes [] net back is all stands less last ends room = first-comes net back is stands less last ends room
  comes (entry ∷ front) net back is all stands less last ends room =
      let next : Net Session = Next net in
      let same : End net ≡ End next = one-delivery as_session setup net (busy-is net entry (front ++ It ∷ back) is) in
      let goes = first-goes sent as_session setup entry (front ++ It ∷ back) net is all.0 in
      let wire : next.wire ≡ front ++ It ∷ (back ++ goes.more) = goes.wire ∙ append_assoc front (It ∷ back) goes.more in
      let later = comes front next (back ++ goes.more) wire all.1 (stands-next net entry (front ++ It ∷ back) is all.0 stands) (subst (λ (n : Net Session). n.count < 2 ^ 64) same less) last
      (subst (λ (n : Net Session). live_at to n ≡ Some last) same ends) room in
      subst (λ (n : Net Session). Arrives setup sent to net.count n) (sym same) (record {
        waiting = later.waiting;
        is = later.is;
        above = over net.count next.count later.waiting.number (deliver_first-walks RisesAt Rises rise-hosts rise-nets as_session tt setup net).count later.above;
        held = later.held;
      })
