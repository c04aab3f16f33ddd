-- The answer to a request that goes back to the host that sent it: its client transaction takes it, and the session gets it as an event, however many wait there.
use Rattle.std.proofs.Common.{◌++◌, ◌+◌, ◌<◌, ◌∙◌, ◌∷◌, ◌≡◌, ◌≤◌, Bool, List, None, Option, Some, [], ap, append_assoc, arith, cond, false, inl, inr, refl, slice_get, subst, sym, true, ℕ}
use Rattle.std.specs.List.{find}
use Rattle.std.specs.Option.{option_map_or}
use Rattle.std.specs.Prelude.{◌==◌, drop, not}
use Rattle.sc_value.specs.Lists.{change_first}
use Rattle.sc_value.specs.declared.ids.AppId.{AppId}
use Rattle.sc_value.specs.declared.message.Message.TheVariants as messages
use Rattle.sc_value.specs.declared.message.Request.{Request}
use Rattle.sc_value.specs.declared.message.Response.{Response}
use Rattle.sc_value.specs.declared.parts.Via.{Via}
use Rattle.sc_tokens.specs.Names.{same_bytes}
use Rattle.sc_parts.specs.declared.setup.Setup.{Setup}
use Rattle.sc_parts.specs.declared.transactions.ClientItem.{ClientItem}
use Rattle.sc_parts.specs.declared.transactions.ClientItem.TheVariants as client_items
use Rattle.sc_parts.specs.declared.transactions.ClientOut.{ClientOut}
use Rattle.sc_parts.specs.declared.transactions.TxnState.TheVariants as states
use Rattle.sc_state.specs.Hosts.{Host}
use Rattle.sc_state.specs.declared.host.Client.{Client}
use Rattle.sc_state.specs.declared.host.Live.{Live}
use Rattle.sc_state.specs.declared.host.Peer.TheVariants as peers
use Rattle.sc_state.specs.declared.host.Taken.{Taken}
use Rattle.sc_state.specs.declared.net.Entry.{Entry}
use Rattle.sc_state.specs.declared.net.Net.{Net}
use Rattle.sc_state.specs.declared.queue.Queued.{Queued}
use Rattle.sc_state.specs.declared.queue.Queued.TheVariants as queued
use Rattle.sc_state.specs.declared.queue.Waiting.{Waiting}
use Rattle.sc_state.specs.declared.session.Session.{Session}
use Rattle.sc_tokens.specs.Bytes.{Bytes}
use Rattle.sc_model.specs.DialogRequests.{cancel}
use Rattle.sc_model.specs.Names.{branch_text, edge_tag}
use Rattle.sc_model.specs.Responses.{response_head, response_to as made_to}
use Rattle.sc_model.specs.SessionStates.{invite, is_final}
use Rattle.sc_model.specs.Transactions.{client_out, client_state, decision, first_in_time, has_provisional, out_from, state_from, told_waiting}
use Rattle.sc_hosts.specs.Histories.{as_session}
use Rattle.sc_hosts.specs.Inboxes.{is_live, live_in, queue, without_answer as quiet, replying, with_event}
use Rattle.sc_hosts.specs.Messages.{ack_of, bare_answer, cancel_of, own_response, own_via, without_via}
use Rattle.sc_hosts.specs.Nets.{deliver_at, deliver_entry, deliver_first, host_at, with_host_after as placed}
use Rattle.sc_hosts.specs.Runs.{after_delivery as delivered}
use Rattle.sc_hosts.specs.Steps.{live_at}
use Rattle.sc_hosts.specs.Taking.{takes}
use Rattle.sc_hosts.specs.TakingResponses.{cancelling, response_for, response_to, take_response, take_provisional as told, told_by, with_reply}
use Rattle.sc_hosts.specs.Transacting.{branch_of, client_for, is_answered_by, is_cancel_client, is_over, method_of, out_of_client, pass_client, state_of_client, takes_from, without_ended, top_via, with_client}
use Rattle.sc_hosts.proofs.Deliveries.{one-delivery}
use Rattle.sc_walks.proofs.AnyChange.{AnyChange, any-hosts}
use Rattle.sc_walks.proofs.WalkNets.{deliver_first-walks, delivered-walks}
use Rattle.sc_once.specs.Growing.{HostGrows as CountGrows, KnownIn, NetGrows as NetCounts}
use Rattle.sc_once.proofs.GrowingHosts.{grow-hosts as count-hosts}
use Rattle.sc_once.proofs.GrowingNets.{grow-nets as count-nets}
use Rattle.sc_once.proofs.OwnTurns.{dead-gone, gone-dead}
use Rattle.sc_lasting.specs.Lasting.{All}
use Rattle.sc_waits.specs.Growing.{HostGrows, NetGrows, events_in}
use Rattle.sc_waits.proofs.GrowingHosts.{grow-hosts}
use Rattle.sc_waits.proofs.GrowingNets.{grow-nets}
use Rattle.sc_reached.proofs.Reaching.{at-host, placed-here, serial-is, with-inbox}
use Rattle.sc_keyed.specs.Keyed.{IsIn, IsOn}
use Rattle.sc_ways.proofs.Counts.{H as RisesAt, Rises, hosts as rise-hosts, nets as rise-nets}
use Rattle.sc_ways.proofs.Epochs.{SameEpoch, epoch-nets}
use Rattle.sc_ways.proofs.Waits.{events-live}
use Rattle.sc_ways.proofs.OwnBranches.{branch-is}
use Rattle.sc_onward.proofs.Delivered.{busy-is}
use Rattle.sc_halted.proofs.Apart.{Other, Right, clash, last-of, same-digit, same-self}
use Rattle.sc_halted.proofs.ApartNets.{AllWell, FreeEntry, first-moves}

-- ## An event that was queued

pub queue-sessions : (serial now : ℕ) (event : Queued) (count : ℕ) (host : Host Session) (live : Live Session) → live_in serial host ≡ Some live
    → (queue serial now event count host).host.sessions ≡ change_first (is_live serial) (with_event (count + 1) now event) host.sessions
unfolding queue quiet
queue-sessions serial now event count host live is = rw is refl

none-some : {A : Type 0} (found : Option A) (one : A) → found ≡ None → found ≡ Some one → ⊥
none-some found one p q = cc

next-up : (n : ℕ) → n < n + 1
next-up n = omega arith

less-up : (a b c : ℕ) → a ≤ b → b < c → a < c
less-up a b c p q = omega (arith, p, q)

some-same : {A : Type 0} (x y : A) → Some x ≡ Some y → x ≡ y
some-same x y is = cc

module _ (setup : Setup) (epoch : ℕ) (app : AppId) (branch now place : ℕ) (sent : Request) where
  -- the client transaction of the request, as it begins
  abbrev pub C : Client
  C = record { app = app; branch = branch; peer = peers.Inside place; request = sent; sent = now; passed = [] }

  abbrev pub Salt : Bytes
  Salt = setup.config.salt

  pub fresh : is_over (state_of_client C) ≡ false
  unfolding state_of_client client_state state_from decision first_in_time has_provisional is_over
  fresh = by (same_bytes (method_of sent) invite)
    where
      by : (b : Bool) → is_over (cond b states.Calling states.Trying) ≡ false
      by true = refl
      by false = refl

  -- what is known of the net as long as the answer is to come
  pub record Standing (net : Net Session) : Type 0 where
    pub wells : AllWell Salt epoch C fresh (Unit {0}) net
    pub at : net.epoch ≡ epoch
    pub known : KnownIn app.serial (host_at app.host net)

  abbrev End : Net Session → Net Session
  End net = delivered as_session setup net

  abbrev Next : Net Session → Net Session
  Next net = deliver_first as_session setup net

  module _ (code : ℕ) (reason : Bytes) where
    -- the answer
    abbrev pub Answer : Response
    Answer = own_response (edge_tag Salt) code reason sent

    abbrev pub It-back : Entry
    It-back = record { sender = place; receiver = app.host; message = messages.Response Answer; note = None }

    -- the session has it among its events, with a number above this
    unfoldable pub Told : ℕ → Live Session → Type 0
    Told base last =
        (number : ℕ) × (first : List Waiting) × (rest : List Waiting) × (base < number)
        × (last.inbox ≡ first ++ record { number = number; event = queued.Response branch (without_via Answer) } ∷ rest)

    pub told-lower : (a b : ℕ) (last : Live Session) → a ≤ b → Told b last → Told a last
    unfolding Told
    told-lower a b last less told = (told.0, told.1, told.2, less-up a b told.0 less told.3, told.4)

    module _ (on : IsOn setup.config epoch app branch sent) (no_cancel : same_bytes (method_of sent) cancel ≡ false) (final : is_final code ≡ true) (other-100 : (code == 100) ≡ false) where
      top-is : top_via sent.head.via ≡ Some (own_via setup.config epoch app branch)
      unfolding IsOn
      top-is = on

      -- ## It is found

      under-by : (text : Bytes) → option_map_or (λ via. same_bytes (branch_of via) text) (top_via sent.head.via) false ≡ same_bytes (branch_text Salt epoch app branch) text
      under-by text =
          ap (λ (top : Option Via). option_map_or (λ via. same_bytes (branch_of via) text) top false) top-is ∙ ap (λ (b : Bytes). same_bytes b text) (branch-is setup.config epoch app branch)

      own-answered : is_answered_by Salt epoch (peers.Inside place) Answer C ≡ true
      unfolding is_answered_by takes_from own_response made_to response_head
      own-answered =
          rw (same-digit place, fresh, same-self (method_of sent), under-by (branch_text Salt epoch app branch), same-self (branch_text Salt epoch app branch)) refl

      other-not : (x : Client) → Other Salt epoch C x → is_answered_by Salt epoch (peers.Inside place) Answer x ≡ false
      unfolding is_answered_by own_response made_to response_head
      other-not x other = by (is_answered_by Salt epoch (peers.Inside place) Answer x) refl
        where
          by : (b : Bool) → is_answered_by Salt epoch (peers.Inside place) Answer x ≡ b → b ≡ false
          by true is =
              absurd (clash (same_bytes (branch_text Salt epoch app branch) (branch_text Salt epoch x.app x.branch))
              (sym (under-by (branch_text Salt epoch x.app x.branch)) ∙ last-of (takes_from x.peer (peers.Inside place)) (not (is_over (state_of_client x))) (same_bytes (method_of x.request) (method_of sent)) (option_map_or (λ via. same_bytes (branch_of via) (branch_text Salt epoch x.app x.branch)) (top_via sent.head.via) false) is) other.names)
          by false is = refl

      found-true : (b : Bool) (x : Client) (found : Option Client) → ◌≡◌ {A = Client} x C → b ≡ true → cond b (Some x) found ≡ Some C
      found-true true x found same is = ap (λ (c : Client). Some c) same
      found-true false x found same is = cc

      found-false : (b : Bool) (x : Client) (found : Option Client) → b ≡ false → found ≡ Some C → cond b (Some x) found ≡ Some C
      found-false true x found is rest = cc
      found-false false x found is rest = rest

      found-own : (clients : List Client) → All (Right Salt epoch C (Unit {0}) fresh) clients → IsIn C clients → find (is_answered_by Salt epoch (peers.Inside place) Answer) clients ≡ Some C
      unfolding All IsIn
      found-own [] all there = absurd there
      found-own (x ∷ clients) all (inl same) =
          found-true (is_answered_by Salt epoch (peers.Inside place) Answer x) x (find (is_answered_by Salt epoch (peers.Inside place) Answer) clients) (sym same)
          (subst (λ (c : Client). is_answered_by Salt epoch (peers.Inside place) Answer c ≡ true) same own-answered)
      found-own (x ∷ clients) all (inr later) = by all.0 (found-own clients all.1 later)
        where
          by : Right Salt epoch C (Unit {0}) fresh x → find (is_answered_by Salt epoch (peers.Inside place) Answer) clients ≡ Some C → cond (is_answered_by Salt epoch (peers.Inside place) Answer x) (Some x) (find (is_answered_by Salt epoch (peers.Inside place) Answer) clients) ≡ Some C
          by (inl own) rest =
              found-true (is_answered_by Salt epoch (peers.Inside place) Answer x) x (find (is_answered_by Salt epoch (peers.Inside place) Answer) clients) own.1
              (subst (λ (c : Client). is_answered_by Salt epoch (peers.Inside place) Answer c ≡ true) (sym own.1) own-answered)
          by (inr other) rest =
              found-false (is_answered_by Salt epoch (peers.Inside place) Answer x) x (find (is_answered_by Salt epoch (peers.Inside place) Answer) clients) (other-not x other) rest

      -- ## It is told

      reply-sessions : (at : ℕ) (out : ClientOut) (client : Client) (response : Response) (taken : Taken Session) → (with_reply out at client response taken).host.sessions ≡ taken.host.sessions
      unfolding with_reply
      reply-sessions at out client response taken = by out.ack out.cancel
        where
          by : (a b : Bool)
              → (cond a (replying client.peer (messages.Request (ack_of client.request response)) taken)
              (cond b (replying client.peer (messages.Request (cancel_of client.request)) (record taken { host = with_client (cancelling at client) taken.host })) taken)).host.sessions ≡ taken.host.sessions
          by true b = refl
          by false true = refl
          by false false = refl

      tell-is : (at : ℕ) → (out_of_client C (client_items.ResponseCame code at)).tell ≡ Some code
      unfolding out_of_client client_out out_from decision first_in_time told_waiting
      tell-is at = rw other-100 refl

      told-is : (at count : ℕ) (host : Host Session) → told_by (Some code) at C Answer count host ≡ queue app.serial at (queued.Response branch (without_via Answer)) count host
      unfolding told_by told own_response made_to bare_answer
      told-is at count host = rw (no_cancel, final) refl

      passed-sessions : (of_cancel : Bool) (item : ClientItem) (host : Host Session) → (pass_client app branch of_cancel item host).sessions ≡ host.sessions
      unfolding pass_client without_ended
      passed-sessions of_cancel item host = refl

      response-sessions : (at count : ℕ) (host : Host Session) (live : Live Session) → live_in app.serial host ≡ Some live
          → (response_for at C Answer count host).host.sessions ≡ change_first (is_live app.serial) (with_event (count + 1) at (queued.Response branch (without_via Answer))) host.sessions
      unfolding response_for own_response made_to bare_answer
      response-sessions at count host live is =
          let item : ClientItem = client_items.ResponseCame code at in
          let passed : Host Session = pass_client app branch (is_cancel_client C) item host in
          let what : Queued = queued.Response branch (without_via Answer) in
          reply-sessions at (out_of_client C item) C Answer (told_by (out_of_client C item).tell at C Answer count passed)
          ∙ (ap (λ (tell : Option ℕ). (told_by tell at C Answer count passed).host.sessions) (tell-is at)
          ∙ (ap (λ (taken : Taken Session). taken.host.sessions) (told-is at count passed)
          ∙ (queue-sessions app.serial at what count passed live (ap (find (is_live app.serial)) (passed-sessions (is_cancel_client C) item host) ∙ is)
          ∙ ap (change_first (is_live app.serial) (with_event (count + 1) at what)) (passed-sessions (is_cancel_client C) item host))))

      -- ## It is delivered

      taken-back : (net : Net Session) (rest : List Entry) (host : Host Session) → net.wire ≡ It-back ∷ rest → host_at app.host net ≡ Some host
          → find (is_answered_by Salt net.epoch (peers.Inside place) Answer) host.clients ≡ Some C
          → Next net ≡ placed app.host (response_for net.moment C Answer net.count host) (record net { wire = drop 1 net.wire })
      unfolding deliver_first deliver_entry deliver_at takes take_response client_for response_to
      taken-back net rest host is at found = rw (ap (λ (wire : List Entry). slice_get wire 0) is, at, found) refl

      told-next : (net : Net Session) (rest : List Entry) (live : Live Session) → net.wire ≡ It-back ∷ rest → Standing net → live_at app net ≡ Some live
          → events_in app (Next net) ≡ live.inbox ++ record { number = net.count + 1; event = queued.Response branch (without_via Answer) } ∷ []
      told-next net rest live is standing lives =
          let at = at-host app live (host_at app.host net) lives in
          let well = standing.wells app.host at.0 at.1 in
          let what : Queued = queued.Response branch (without_via Answer) in
          let found : find (is_answered_by Salt net.epoch (peers.Inside place) Answer) at.0.clients ≡ Some C =
          subst (λ (e : ℕ). find (is_answered_by Salt e (peers.Inside place) Answer) at.0.clients ≡ Some C) (sym standing.at) (found-own at.0.clients well.0 (well.2 tt refl)) in
          let behind : Net Session = record net { wire = drop 1 net.wire } in
          let taken : Taken Session = response_for net.moment C Answer net.count at.0 in
          let serial : live.serial ≡ app.serial = serial-is app.serial at.0.sessions live at.2 in
          let lived : find (is_live live.serial) at.0.sessions ≡ Some live = subst (λ (n : ℕ). find (is_live n) at.0.sessions ≡ Some live) (sym serial) at.2 in
          let changes : taken.host.sessions ≡ change_first (is_live live.serial) (with_event (net.count + 1) net.moment what) at.0.sessions =
          subst (λ (n : ℕ). taken.host.sessions ≡ change_first (is_live n) (with_event (net.count + 1) net.moment what) at.0.sessions) (sym serial) (response-sessions net.moment net.count at.0 live at.2) in
          let here : live_at app (placed app.host taken behind) ≡ Some (with_event (net.count + 1) net.moment what live) =
          subst (λ (n : ℕ). live_at (record { host = app.host; serial = n }) (placed app.host taken behind) ≡ Some (with_event (net.count + 1) net.moment what live)) serial
          (placed-here app.host net.moment what at.0 live taken behind at.1 lived changes) in
          ap (λ (n : Net Session). events_in app n) (taken-back net rest at.0 is at.1 found)
          ∙ (events-live app (placed app.host taken behind) (with_event (net.count + 1) net.moment what live) here ∙ with-inbox (net.count + 1) net.moment what live)

      grows-on : (net : Net Session) → NetGrows app net (End net)
      grows-on net = delivered-walks (λ number now. HostGrows {S = Session} app.serial) (NetGrows app) (grow-hosts app.serial) (grow-nets app) as_session tt setup net

      -- it lives now where it does in the end
      lives-now : (net : Net Session) (last : Live Session) → KnownIn app.serial (host_at app.host net) → live_at app (End net) ≡ Some last → (found : Option (Live Session)) → live_at app net ≡ found
          → (live : Live Session) × (live_at app net ≡ Some live)
      lives-now net last known ends (Some live) is = (live, is)
      lives-now net last known ends None is =
          absurd (none-some (live_at app (End net)) last
          (gone-dead app (End net) ((delivered-walks (λ number now. CountGrows {S = Session} app.serial) (NetCounts app) (count-hosts app.serial) (count-nets app) as_session tt setup net).gone (dead-gone app net known is))) ends)

      last-waits : (first more xs ys : List Waiting) (one : Waiting) → xs ≡ first ++ one ∷ [] → ys ≡ xs ++ more → ys ≡ first ++ one ∷ more
      last-waits first more xs ys one p q = q ∙ (ap (λ (ws : List Waiting). ws ++ more) p ∙ append_assoc first (one ∷ []) more)

      first-told : (net : Net Session) (rest : List Entry) → net.wire ≡ It-back ∷ rest → Standing net → (last : Live Session) → live_at app (End net) ≡ Some last → Told net.count last
      unfolding Told
      first-told net rest is standing last ends =
          let now-live = lives-now net last standing.known ends (live_at app net) refl in
          let next : Net Session = Next net in
          let same : End net ≡ End next = one-delivery as_session setup net (busy-is net It-back rest is) in
          let one : Waiting = record { number = net.count + 1; event = queued.Response branch (without_via Answer) } in
          let on-next = grows-on next in (
            net.count + 1,
            now-live.0.inbox,
            on-next.new,
            next-up net.count,
            sym (events-live app (End net) last ends)
                ∙ (ap (λ (n : Net Session). events_in app n) same
                ∙ last-waits now-live.0.inbox on-next.new (events_in app next) (events_in app (End next)) one (told-next net rest now-live.0 is standing now-live.1) on-next.waits),
          )

      standing-next : (net : Net Session) (entry : Entry) (rest : List Entry) → net.wire ≡ entry ∷ rest → FreeEntry Salt epoch C fresh entry → Standing net → Standing (Next net)
      standing-next net entry rest is free standing = record {
        wells = (first-moves Salt epoch C fresh (Unit {0}) setup entry rest net refl standing.at is free standing.wells).well;
        at = deliver_first-walks AnyChange SameEpoch any-hosts epoch-nets as_session tt setup net ∙ standing.at;
        known = (deliver_first-walks (λ number now. CountGrows {S = Session} app.serial) (NetCounts app) (count-hosts app.serial) (count-nets app) as_session tt setup net).known standing.known;
      }

      -- behind others on the wire
      pub back-told : (front : List Entry) (net : Net Session) (rest : List Entry) → net.wire ≡ front ++ It-back ∷ rest → All (FreeEntry Salt epoch C fresh) front → Standing net → (last : Live Session)
          → live_at app (End net) ≡ Some last → Told net.count last
      unfolding All
      back-told [] net rest is free standing last ends = first-told net rest is standing last ends
      back-told (entry ∷ front) net rest is free standing last ends =
          let next : Net Session = Next net in
          let same : End net ≡ End next = one-delivery as_session setup net (busy-is net entry (front ++ It-back ∷ rest) is) in
          let moves = first-moves Salt epoch C fresh (Unit {0}) setup entry (front ++ It-back ∷ rest) net refl standing.at is free.0 standing.wells in
          let wire : next.wire ≡ front ++ It-back ∷ (rest ++ moves.more) = moves.wire ∙ append_assoc front (It-back ∷ rest) moves.more in
          told-lower net.count next.count last (deliver_first-walks RisesAt Rises rise-hosts rise-nets as_session tt setup net).count
          (back-told front next (rest ++ moves.more) wire free.1 (standing-next net entry (front ++ It-back ∷ rest) is free.0 standing) last (subst (λ (n : Net Session). live_at app n ≡ Some last) same ends))
