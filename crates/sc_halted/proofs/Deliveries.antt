-- A request on the wire whose own URI names a session comes to it in that step, or is answered by the host that it comes to.
use Rattle.std.proofs.Common.{◌++◌, ◌+◌, ◌<◌, ◌^◌, ◌∙◌, ◌∷◌, ◌≡◌, ◌≤◌, ◌⊎◌, Bool, List, None, Option, Some, [], ap, append_assoc, arith, false, inl, inr, length, refl, slice_get, subst, suc, sym, true, zero, ℕ}
use Rattle.std.specs.Prelude.{◌==◌, drop, is_some}
use Rattle.sc_value.specs.declared.ids.AppId.{AppId}
use Rattle.sc_value.specs.declared.message.Request.{Request}
use Rattle.sc_value.specs.declared.parts.Uri.{Uri}
use Rattle.sc_tokens.specs.Names.{same_bytes}
use Rattle.sc_parts.specs.declared.setup.Setup.{Setup}
use Rattle.sc_state.specs.declared.host.Live.{Live}
use Rattle.sc_state.specs.declared.net.Entry.{Entry}
use Rattle.sc_state.specs.declared.net.Net.{Net}
use Rattle.sc_state.specs.declared.queue.Queued.TheVariants as queued
use Rattle.sc_state.specs.declared.queue.Waiting.{Waiting}
use Rattle.sc_state.specs.declared.session.Session.{Session}
use Rattle.sc_tokens.specs.Bytes.{Bytes}
use Rattle.sc_model.specs.DialogRequests.{cancel}
use Rattle.sc_model.specs.Dialogs.{tag_of}
use Rattle.sc_model.specs.Names.{IsOf64}
use Rattle.sc_model.specs.SessionStates.{ack, is_final}
use Rattle.sc_hosts.specs.Histories.{as_session}
use Rattle.sc_hosts.specs.Inboxes.{is_full}
use Rattle.sc_hosts.specs.Nets.{deliver_first}
use Rattle.sc_hosts.specs.Runs.{after_delivery as delivered}
use Rattle.sc_hosts.specs.Steps.{live_at}
use Rattle.sc_hosts.specs.Taking.{names, own_uri, without_own_route as unrouted}
use Rattle.sc_hosts.specs.Transacting.{method_of}
use Rattle.sc_hosts.specs.Words.{does_not_exist, unavailable}
use Rattle.sc_hosts.proofs.Deliveries.{one-delivery}
use Rattle.sc_once.specs.Growing.{HostGrows as CountGrows, NetGrows as NetCounts}
use Rattle.sc_once.proofs.GrowingHosts.{grow-hosts as count-hosts}
use Rattle.sc_once.proofs.GrowingNets.{grow-nets as count-nets}
use Rattle.sc_lasting.specs.Lasting.{All}
use Rattle.sc_lasting.proofs.Parts.{all-both}
use Rattle.sc_waits.specs.Growing.{events_in}
use Rattle.sc_reached.specs.Reached.{AllSmall, answered_at_once}
use Rattle.sc_reached.proofs.Delivering.{delivers}
use Rattle.sc_keyed.specs.Keyed.{IsOn}
use Rattle.sc_hops.specs.Hops.{IsOnWay}
use Rattle.sc_stopped.specs.Stopped.{IsFirstTo, answer_back, net_with_return as returned}
use Rattle.sc_stopped.proofs.Stops.{full-back, gone-back}
use Rattle.sc_walks.proofs.AnyChange.{AnyChange, any-hosts}
use Rattle.sc_walks.proofs.WalkNets.{deliver_first-walks}
use Rattle.sc_ways.proofs.Counts.{H as RisesAt, Rises, hosts as rise-hosts, nets as rise-nets, small-net}
use Rattle.sc_ways.proofs.Epochs.{SameEpoch, epoch-nets}
use Rattle.sc_ways.proofs.Got.{small-sessions}
use Rattle.sc_onward.proofs.Clean.{IsApartFrom, first-goes}
use Rattle.sc_onward.proofs.Delivered.{Arrives, Stands, busy-is, delivered-events, first-hosts, grown-list, grows, next-more, rises, stands-next, unclaimed-is}
use Rattle.sc_halted.specs.Halted.{IsAnsweredBack, IsFoundFull, after_deliveries, entry_of}
use Rattle.sc_halted.proofs.ApartNets.{FreeEntry, first-moves}
use Rattle.sc_halted.proofs.Back.{C, It-back, Standing, Told, back-told, fresh, told-lower}
use Rattle.sc_halted.proofs.Living.{HostLives, NetLives, live-hosts, live-nets}

-- there is one at each place of a list
some-at : {A : Type 0} (xs : List A) (n : ℕ) → n < length xs → (x : A) × (slice_get xs n ≡ Some x)
some-at [] n less = absurd (none n less)
  where
    none : (n : ℕ) → n < 0 → ⊥
    none n less = omega (arith, less)
some-at (x ∷ xs) zero less = (x, refl)
some-at (x ∷ xs) (suc n) less = some-at xs n (lower n (length xs) less)
  where
    lower : (n m : ℕ) → suc n < suc m → n < m
    lower n m less = omega (arith, less)

more-count : (a b c : ℕ) → a ≤ b → b < c → a < c
more-count a b c p q = omega (arith, p, q)

pub same-more : {A : Type 0} (xs a b : List A) → xs ++ a ≡ xs ++ b → a ≡ b
same-more [] a b is = is
same-more {A = A} (x ∷ xs) a b is = same-more xs a b (ap (λ (ys : List A). drop 1 ys) is)

module _ (setup : Setup) (epoch : ℕ) (app : AppId) (branch now : ℕ) (sent : Request) (to : AppId) (uri : Uri) (small : IsOf64 epoch to 0) (no_cancel : same_bytes (method_of sent) cancel ≡ false)
    (tagged : is_some (tag_of sent.head.to) ≡ true) (by : own_uri setup.config sent ≡ Some uri) (named : names epoch to uri ≡ true) where
  abbrev It : Entry
  It = entry_of app.host to.host sent

  abbrev Next : Net Session → Net Session
  Next net = deliver_first as_session setup net

  abbrev End : Net Session → Net Session
  End net = delivered as_session setup net

  -- what is known of the net while it is on the wire
  pub record Ready (net : Net Session) : Type 0 where
    pub stands : Stands setup epoch app.host sent to uri small no_cancel tagged by named net
    pub there : to.host < length net.hosts

  abbrev pub Free : Entry → Type 0
  Free entry = FreeEntry setup.config.salt epoch (C setup epoch app branch now to.host sent) (fresh setup epoch app branch now to.host sent) entry

  abbrev pub Waiting-for : Net Session → Type 0
  Waiting-for net = Standing setup epoch app branch now to.host sent net

  -- its host answered it, and where nothing else has its branch the session that sent it is told
  pub record Back (code : ℕ) (reason : Bytes) (front back : List Entry) (net : Net Session) : Type 0 where
    pub found : IsFoundFull setup net app to sent
    pub tells : IsOn setup.config epoch app branch sent → same_bytes (method_of sent) ack ≡ false → All Free front → All Free back → Waiting-for net → (last : Live Session)
        → live_at app (End net) ≡ Some last → Told setup epoch app branch now to.host sent code reason net.count last

  -- it waits in the session, or its host answered it
  abbrev pub Comes : List Entry → List Entry → Net Session → Type 0
  Comes front back net =
      Arrives setup sent to net.count (End net) ⊎ ((IsAnsweredBack setup net It sent 481 does_not_exist × (live_at to net ≡ None)) ⊎ Back 503 unavailable front back net)

  it-first : (net : Net Session) (back : List Entry) → net.wire ≡ It ∷ back → slice_get net.wire 0 ≡ Some It
  it-first net back is = ap (λ (wire : List Entry). slice_get wire 0) is

  -- as its host takes it
  to-host : (net : Net Session) (back : List Entry) → net.wire ≡ It ∷ back → Ready net → (End net).count < 2 ^ 64 → IsFirstTo setup It sent net to
  to-host net back is ready less =
      let at = some-at net.hosts to.host ready.there in
      let all : AllSmall net.hosts = small-net net ready.stands.numbered ready.stands.within (more-count net.count (End net).count _ (rises setup epoch app.host sent to uri small no_cancel tagged by named net).count less) in record {
        first = it-first net back is;
        message = refl;
        receiver = refl;
        no_cancel = no_cancel;
        tagged = tagged;
        host = at.0;
        there = at.1;
        unclaimed = unclaimed-is app.host sent at.0 no_cancel (ready.stands.clean to.host at.0 at.1);
        uri = uri;
        by = by;
        named = subst (λ (e : ℕ). names e to uri ≡ true) (sym ready.stands.at) named;
        within = subst (λ (e : ℕ). IsOf64 e to 0) (sym ready.stands.at) small;
        small = small-sessions net.hosts to.host at.0 all at.1;
      }

  -- in a session that lives and has room
  first-waits : (net : Net Session) (back : List Entry) → net.wire ≡ It ∷ back → IsFirstTo setup It sent net to → (live : Live Session) → live_at to net ≡ Some live → is_full live ≡ false
      → Arrives setup sent to net.count (End net)
  first-waits net back is first live lives room =
      let alone = delivers as_session setup It sent net to live (record {
        first = first.first;
        message = first.message;
        receiver = first.receiver;
        no_cancel = first.no_cancel;
        tagged = first.tagged;
        host = first.host;
        there = first.there;
        unclaimed = first.unclaimed;
        uri = first.uri;
        by = first.by;
        named = first.named;
        lives = lives;
        room = room;
        within = first.within;
        small = first.small;
      }) in
      let next : Net Session = Next net in
      let on = grows setup epoch app.host sent to uri small no_cancel tagged by named next in
      let waiting : Waiting = record { number = net.count + 1; event = queued.Request (unrouted setup.config sent) } in
      let here : events_in to next ≡ live.inbox ++ waiting ∷ [] = delivered-events to live waiting.event (answered_at_once It sent) net next alone in
      let ended : Arrives setup sent to net.count (End next) = record {
        waiting = waiting;
        is = refl;
        above = next-more net.count;
        held = record { first = live.inbox; rest = on.new; is = grown-list live.inbox on.new (events_in to next) (events_in to (End next)) waiting here on.waits };
      } in
      subst (λ (n : Net Session). Arrives setup sent to net.count n) (sym (one-delivery as_session setup net (busy-is net It back is))) ended

  -- the answer comes back behind the others
  answer-wire : (code : ℕ) (reason : Bytes) (net : Net Session) (back : List Entry) → net.wire ≡ It ∷ back → same_bytes (method_of sent) ack ≡ false
      → (returned setup.config It code reason sent net).wire ≡ back ++ It-back setup epoch app branch now to.host sent code reason ∷ []
  unfolding answer_back
  answer-wire code reason net back is other =
      rw other (ap (λ (wire : List Entry). drop 1 wire ++ It-back setup epoch app branch now to.host sent code reason ∷ []) is)

  returned-tells : (code : ℕ) (reason : Bytes) → is_final code ≡ true → (code == 100) ≡ false → (net : Net Session) (back : List Entry) → net.wire ≡ It ∷ back
      → Next net ≡ returned setup.config It code reason sent net → IsOn setup.config epoch app branch sent → same_bytes (method_of sent) ack ≡ false → All Free back → Waiting-for net → (last : Live Session)
      → live_at app (End net) ≡ Some last → Told setup epoch app branch now to.host sent code reason net.count last
  returned-tells code reason final other-100 net back is next on other free waits last ends =
      let after : Net Session = returned setup.config It code reason sent net in
      let same : End net ≡ End after = one-delivery as_session setup net (busy-is net It back is) ∙ ap (λ (n : Net Session). End n) next in
      back-told setup epoch app branch now to.host sent code reason on no_cancel final other-100 back after [] (answer-wire code reason net back is other) free
      (record { wells = waits.wells; at = waits.at; known = waits.known }) last (subst (λ (n : Net Session). live_at app n ≡ Some last) same ends)

  gone-first : (net : Net Session) (back : List Entry) → net.wire ≡ It ∷ back → Next net ≡ returned setup.config It 481 does_not_exist sent net → IsAnsweredBack setup net It sent 481 does_not_exist
  unfolding after_deliveries
  gone-first net back is next = record { count = 0; first = it-first net back is; answered = next }

  full-first : (net : Net Session) (back : List Entry) → net.wire ≡ It ∷ back → (live : Live Session) → live_at to net ≡ Some live → is_full live ≡ true
      → Next net ≡ returned setup.config It 503 unavailable sent net → Back 503 unavailable [] back net
  unfolding after_deliveries
  full-first net back is live lives most next = record {
    found = record { back = record { count = 0; first = it-first net back is; answered = next }; live = live; lives = lives; full = most };
    tells = λ on other none free waits last ends. returned-tells 503 unavailable refl refl net back is next on other free waits last ends;
  }

  first-comes : (net : Net Session) (back : List Entry) → net.wire ≡ It ∷ back → Ready net → (End net).count < 2 ^ 64 → Comes [] back net
  first-comes net back is ready less = by-live (live_at to net) refl
    where
      by-room : (live : Live Session) → live_at to net ≡ Some live → (b : Bool) → is_full live ≡ b → Comes [] back net
      by-room live lives true full = inr (inr (full-first net back is live lives full (full-back as_session setup It sent net to live (to-host net back is ready less) lives full)))
      by-room live lives false room = inl (first-waits net back is (to-host net back is ready less) live lives room)

      by-live : (found : Option (Live Session)) → live_at to net ≡ found → Comes [] back net
      by-live None none = inr (inl (gone-first net back is (gone-back as_session setup It sent net to (to-host net back is ready less) none), none))
      by-live (Some live) lives = by-room live lives (is_full live) refl

  next-ready : (net : Net Session) (entry : Entry) (rest : List Entry) → net.wire ≡ entry ∷ rest → IsOnWay (IsApartFrom sent) entry.message → Ready net → Ready (Next net)
  next-ready net entry rest is way ready = record {
    stands = stands-next setup epoch app.host sent to uri small no_cancel tagged by named net entry rest is way ready.stands;
    there = subst (λ (n : ℕ). to.host < n) (sym (first-hosts as_session setup net)) ready.there;
  }

  one-later : (code : ℕ) (reason : Bytes) (net : Net Session) → IsAnsweredBack setup (Next net) It sent code reason → IsAnsweredBack setup net It sent code reason
  unfolding after_deliveries
  one-later code reason net back = record { count = suc back.count; first = back.first; answered = back.answered }

  found-later : (net : Net Session) → IsFoundFull setup (Next net) app to sent → IsFoundFull setup net app to sent
  unfolding after_deliveries
  found-later net found = record {
    back = record { count = suc found.back.count; first = found.back.first; answered = found.back.answered };
    live = found.live;
    lives = found.lives;
    full = found.full;
  }

  back-later : (code : ℕ) (reason : Bytes) (net : Net Session) (entry : Entry) (front back more : List Entry) → net.wire ≡ entry ∷ front ++ It ∷ back → (Next net).wire ≡ (front ++ It ∷ back) ++ more
      → End net ≡ End (Next net) → net.count ≤ (Next net).count → Back code reason front (back ++ more) (Next net) → Back code reason (entry ∷ front) back net
  unfolding All
  back-later code reason net entry front back more is wire same up later = record {
    found = found-later net later.found;
    tells = λ on other free-front free-back waits last ends.
        let moves = first-moves setup.config.salt epoch (C setup epoch app branch now to.host sent) (fresh setup epoch app branch now to.host sent) (Unit {0}) setup entry (front ++ It ∷ back) net refl waits.at is free-front.0 waits.wells in
        let free-more : All Free more = subst (λ (es : List Entry). All Free es) (same-more (front ++ It ∷ back) moves.more more (sym moves.wire ∙ wire)) moves.free in
        told-lower setup epoch app branch now to.host sent code reason net.count (Next net).count last up
        (later.tells on other free-front.1 (all-both Free back more free-back free-more)
        (record {
          wells = moves.well;
          at = deliver_first-walks AnyChange SameEpoch any-hosts epoch-nets as_session tt setup net ∙ waits.at;
          known = (deliver_first-walks (λ number now. CountGrows {S = Session} app.serial) (NetCounts app) (count-hosts app.serial) (count-nets app) as_session tt setup net).known waits.known;
        }) last (subst (λ (n : Net Session). live_at app n ≡ Some last) same ends));
  }

  not-both : (found : Option (Live Session)) (live : Live Session) → found ≡ None → found ≡ Some live → ⊥
  not-both found live p q = cc

  -- where it lives it goes on to live
  dead-before : (net : Net Session) (found : Option (Live Session)) → live_at to net ≡ found → live_at to (Next net) ≡ None → live_at to net ≡ None
  dead-before net None is dead = is
  dead-before net (Some live) is dead =
      let next = deliver_first-walks (λ number now. HostLives to.serial) (NetLives to) (live-hosts to.serial) (live-nets to) as_session tt setup net live is in
      absurd (not-both (live_at to (Next net)) next.0 dead next.1)

  later-comes : (net : Net Session) (entry : Entry) (front back more : List Entry) → net.wire ≡ entry ∷ front ++ It ∷ back → (Next net).wire ≡ (front ++ It ∷ back) ++ more → End net ≡ End (Next net)
      → net.count ≤ (Next net).count → Comes front (back ++ more) (Next net) → Comes (entry ∷ front) back net
  later-comes net entry front back more is wire same up (inl comes) =
      inl (subst (λ (n : Net Session). Arrives setup sent to net.count n) (sym same) (record {
        waiting = comes.waiting;
        is = comes.is;
        above = more-count net.count (Next net).count comes.waiting.number up comes.above;
        held = comes.held;
      }))
  later-comes net entry front back more is wire same up (inr (inl gone)) = inr (inl (one-later 481 does_not_exist net gone.0, dead-before net (live_at to net) refl gone.1))
  later-comes net entry front back more is wire same up (inr (inr full)) = inr (inr (back-later 503 unavailable net entry front back more is wire same up full))

  -- behind others on the wire
  pub comes-or-back : (front : List Entry) (net : Net Session) (back : List Entry) → net.wire ≡ front ++ It ∷ back → All (λ (entry : Entry). IsOnWay (IsApartFrom sent) entry.message) front → Ready net
      → (End net).count < 2 ^ 64 → Comes front back net
  unfolding All
  comes-or-back [] net back is all ready less = first-comes net back is ready less
  comes-or-back (entry ∷ front) net back is all ready less =
      let next : Net Session = Next net in
      let same : End net ≡ End next = one-delivery as_session setup net (busy-is net entry (front ++ It ∷ back) is) in
      let goes = first-goes sent as_session setup entry (front ++ It ∷ back) net is all.0 in
      let wire : next.wire ≡ front ++ It ∷ (back ++ goes.more) = goes.wire ∙ append_assoc front (It ∷ back) goes.more in
      later-comes net entry front back goes.more is goes.wire same (deliver_first-walks RisesAt Rises rise-hosts rise-nets as_session tt setup net).count
      (comes-or-back front next (back ++ goes.more) wire all.1 (next-ready net entry (front ++ It ∷ back) is all.0 ready) (subst (λ (n : Net Session). n.count < 2 ^ 64) same less))
