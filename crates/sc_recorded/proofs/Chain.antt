-- The Record-Route goes along the way: each session got the INVITE with that of the one before, which that one may have put its own URI in
-- front of.
use Rattle.std.proofs.Common.{◌≡◌, ◌≤◌, ◌⊎◌, inl, inr, ℕ, suc, Bool, true, false, Option, None, Some, List, [], ◌∷◌, refl, sym, ap, subst, ◌∙◌, arith}
use Rattle.std.specs.Prelude.{◌&&◌, cond, drop, filter, is_none, is_some, length, slice_get}
use Rattle.std.specs.List.{cons_option, filter_map, find, flat_map}
use Rattle.std.specs.Option.{option_map_or}
use Rattle.sc_value.specs.declared.ids.AppId.{AppId}
use Rattle.sc_value.specs.declared.message.Head.{Head}
use Rattle.sc_value.specs.declared.message.Request.{Request}
use Rattle.sc_value.specs.declared.message.Response.{Response}
use Rattle.sc_value.specs.declared.parts.Address.{Address}
use Rattle.sc_value.specs.declared.parts.Via.{Via}
use Rattle.sc_parts.specs.declared.setup.Setup.{Setup}
use Rattle.sc_state.specs.Hosts.{Host}
use Rattle.sc_state.specs.declared.host.Client.{Client}
use Rattle.sc_state.specs.declared.host.Peer.{Peer}
use Rattle.sc_state.specs.declared.host.Peer.TheVariants as peers
use Rattle.sc_state.specs.declared.host.Server.{Server}
use Rattle.sc_state.specs.declared.queue.Queued.{Queued}
use Rattle.sc_state.specs.declared.queue.Queued.TheVariants as queued
use Rattle.sc_state.specs.declared.session.Session.{Session}
use Rattle.sc_model.specs.Dialogs.{tag_of}
use Rattle.sc_hosts.specs.Histories.{as_history}
use Rattle.sc_hosts.specs.Messages.{own_via}
use Rattle.sc_hosts.specs.Nets.{client_at, host_at}
use Rattle.sc_hosts.specs.Transacting.{is_client, is_same_app, takes_from, top_via}
use Rattle.sc_lasting.specs.Lasting.{All}
use Rattle.sc_lasting.proofs.Began.{test-found}
use Rattle.sc_lasting.proofs.Parts.{all-both, all-found, all-map}
use Rattle.sc_lasting.proofs.Shared.{found-behind}
use Rattle.sc_keyed.specs.Keyed.{IsOn}
use Rattle.sc_keyed.proofs.ClientKeys.{app-is}
use Rattle.sc_paths.specs.Moments.{Got, Moment, began_with, first_server, got_in, is_first_of, same_vias}
use Rattle.sc_paths.specs.Pieces.{Dialog, Piece, is_branch_of, is_outside, is_sent_by, left_by, left_from, makes, server_of_piece as received, vias_at}
use Rattle.sc_ways.proofs.OneHop.{long-same}
use Rattle.sc_ways.proofs.Callees.{first-by}
use Rattle.sc_recorded.specs.Recorded.{IsInner, records, route_behind as routed}
use Rattle.sc_recorded.proofs.Hosts.{IsServed}
use Rattle.sc_recorded.proofs.SoundKinds.{IsOwn, IsSound, TakesTagged, beginning, sound-kinds}
use Rattle.sc_recorded.proofs.Texts.{own-branch}

-- ## Options and tests

both : (a b : Bool) → (a && b) ≡ true → (a ≡ true) × (b ≡ true)
both true b is = (refl, is)
both false b is = cc

is-none : {A : Type 0} (found : Option A) → is_none found ≡ true → is_some found ≡ false
is-none None is = refl
is-none (Some a) is = cc

some-is : {A : Type 0} (x y : A) → Some x ≡ Some y → x ≡ y
some-is x y is = cc

-- the request that is known in the end is the one that was known
final-known : (final known : Option Request) (request : Request) → (final ≡ known) ⊎ (known ≡ None) → known ≡ Some request → final ≡ Some request
final-known final known request (inl same) is = same ∙ is
final-known final known request (inr none) is = cc

-- it was there in some moment
pub first-in : (P : Server → Type 0) (app : AppId) (run : List Moment) (server : Server) → All (λ (moment : Moment). (s : Server) → first_server app moment.after ≡ Some s → P s) run
    → slice_get (filter_map (λ (moment : Moment). first_server app moment.after) run) 0 ≡ Some server → P server
unfolding All
first-in P app [] server all is = cc
first-in P app (moment ∷ run) server all is =
    first-by (first_server app moment.after) (filter_map (λ (moment : Moment). first_server app moment.after) run) server is (P server) (λ found. all.0 server found) (λ later. first-in P app run server all.1 later)

-- ## Lengths

one-via : (vias : List Via) → 1 ≤ length vias → same_vias [] (drop 1 vias) ≡ true → length vias ≡ 1
one-via [] some same = absurd (none some)
  where
    none : 1 ≤ 0 → ⊥
    none most = omega (arith, most)
one-via (via ∷ vias) some same = let is : ◌≡◌ {A = ℕ} 0 (length vias) = long-same [] vias same in ap suc (sym is)

more-vias : (before vias : List Via) → 1 ≤ length before → same_vias before (drop 1 vias) ≡ true → 2 ≤ length vias
more-vias before [] some same = let is : ◌≡◌ {A = ℕ} (length before) 0 = long-same before [] same in omega (arith, some, is)
more-vias before (via ∷ vias) some same = let is : ◌≡◌ {A = ℕ} (length before) (length vias) = long-same before vias same in omega (arith, some, is)

-- ## One session, in a run of which so much is told

module _ (setup : Setup) (epoch : ℕ) (run : List Moment) (piece : Piece) where
  -- the Record-Route of what a session gave to send of the INVITE
  unfoldable pub sent : AppId → List Address
  sent app = option_map_or (λ (server : Server). routed setup.config epoch app (records run app) server.request.head.record_route) (received run piece app) []

  abbrev pub Sound : AppId → Option Request → Request → Type 0
  Sound app known request = IsSound setup.config epoch app (records run app) known request

  abbrev pub Served : AppId → Option Request → Server → Type 0
  Served app known server = IsServed (as_history setup.config) app beginning TakesTagged (Sound app) (sound-kinds setup.config epoch app (records run app)) known server

  -- what is told of the session after a moment, by what was known of its beginning then
  pub record IsAt (app : AppId) (final : Option Request) (moment : Moment) : Type 0 where
    pub known : Option Request
    pub grows : (final ≡ known) ⊎ (known ≡ None)
    pub servers : (number : ℕ) (host : Host Session) → host_at number moment.after ≡ Some host → All (Served app known) host.servers
    pub owns : (number : ℕ) (host : Host Session) → host_at number moment.after ≡ Some host → All (λ (client : Client). IsOn setup.config epoch client.app client.branch client.request × Unit {0}) host.clients
    pub clients : (number : ℕ) (host : Host Session) → host_at number moment.after ≡ Some host → All (λ (client : Client). Sound app known client.request) host.clients

  -- so it is at each moment
  pub record IsOfRun (app : AppId) : Type 0 where
    pub final : Option Request
    pub all : All (IsAt app final) run

  module _ (app : AppId) (of : IsOfRun app) where
    -- how it began
    record HasBegun (server : Server) : Type 0 where
      is : of.final ≡ Some server.request
      vias : 1 ≤ length server.request.head.via

    begun-at : (moment : Moment) → IsAt app of.final moment → (server : Server) → first_server app moment.after ≡ Some server → HasBegun server
    unfolding first_server
    begun-at moment at server is =
        let found = found-behind (λ (host : Host Session). find (is_first_of app) host.servers) (host_at app.host moment.after) server is in
        let served : Served app at.known server = all-found (Served app at.known) (is_first_of app) found.0.servers server found.2 (at.servers app.host found.0 found.1) in
        let tests = both _ _ (test-found (is_first_of app) found.0.servers server found.2) in
        record {
          is = final-known of.final at.known server.request at.grows (served.1 (app-is server.app app tests.0) (is-none (tag_of server.request.head.to) tests.1));
          vias = served.0;
        }

    begun : (server : Server) → began_with run app ≡ Some server → HasBegun server
    unfolding began_with
    begun server is =
        first-in HasBegun app run server (all-map (IsAt app of.final) (λ (moment : Moment). (s : Server) → first_server app moment.after ≡ Some s → HasBegun s) run begun-at of.all) is

    received-is : (b : Bool) (found : Option Server) (server : Server) → cond b None found ≡ Some server → found ≡ Some server
    received-is true found server is = cc
    received-is false found server is = is

    known-is : (final known : Option Request) (request : Request) → (final ≡ known) ⊎ (known ≡ None) → final ≡ Some request → is_some known ≡ true → known ≡ Some request
    known-is final known request (inl same) is some = sym same ∙ is
    known-is final None request (inr none) is some = cc
    known-is final (Some other) request (inr none) is some = cc

    -- a request of it, which has the Vias with which it got the INVITE below its own
    routed-by : (request : Request) (known : Option Request) (found : Option Server) → received run piece app ≡ found → (of.final ≡ known) ⊎ (known ≡ None) → Sound app known request
        → IsOwn setup.config epoch app (records run app) request → is_some (tag_of request.head.to) ≡ false
        → same_vias (option_map_or (λ (server : Server). server.request.head.via) found []) (drop 1 request.head.via) ≡ true
        → request.head.record_route ≡ option_map_or (λ (server : Server). routed setup.config epoch app (records run app) server.request.head.record_route) found []
    unfolding received
    routed-by request known None is grows sound own untagged same = (sound.2 own untagged).0 (one-via request.head.via sound.0 same)
    routed-by request known (Some server) is grows sound own untagged same =
        let had : HasBegun server = begun server (received-is (option_map_or (is_same_app app) piece.caller false) (began_with run app) server is) in
        (sound.2 own untagged).1 server.request (known-is of.final known server.request grows had.is (sound.1 own)) (more-vias server.request.head.via request.head.via had.vias same)

    sent-by : (request : Request) (known : Option Request) → (of.final ≡ known) ⊎ (known ≡ None) → Sound app known request
        → IsOwn setup.config epoch app (records run app) request → is_some (tag_of request.head.to) ≡ false → same_vias (vias_at run piece app) (drop 1 request.head.via) ≡ true
        → request.head.record_route ≡ sent app
    unfolding sent vias_at
    sent-by request known grows sound own untagged same = routed-by request known (received run piece app) refl grows sound own untagged same

    -- ## The next session

    inner : (peer : Peer) → takes_from peer (peers.Inside app.host) ≡ true → IsInner peer
    unfolding IsInner takes_from
    inner (peers.Inside host) is = tt
    inner (peers.Outside place) is = cc
    inner peers.Nowhere is = cc

    next-at : (next : AppId) (moment : Moment) → IsAt app of.final moment → (server : Server) → first_server next moment.after ≡ Some server
        → is_sent_by setup.config epoch run piece app server ≡ true → server.request.head.record_route ≡ sent app
    unfolding first_server is_sent_by
    next-at next moment at server is by =
        let found = found-behind (λ (host : Host Session). find (is_first_of next) host.servers) (host_at next.host moment.after) server is in
        let served : Served app at.known server = all-found (Served app at.known) (is_first_of next) found.0.servers server found.2 (at.servers next.host found.0 found.1) in
        let tests = both _ _ (test-found (is_first_of next) found.0.servers server found.2) in
        let whole = both _ _ by in
        let front = both _ _ whole.0 in
        sent-by server.request at.known at.grows (served.2 (inner server.peer front.0)) front.1 (is-none (tag_of server.request.head.to) tests.1) whole.1

    pub next-routed : (next : AppId) (server : Server) → received run piece next ≡ Some server → is_sent_by setup.config epoch run piece app server ≡ true
        → server.request.head.record_route ≡ sent app
    unfolding received began_with
    next-routed next server is by =
        first-in (λ (s : Server). is_sent_by setup.config epoch run piece app s ≡ true → s.request.head.record_route ≡ sent app) next run server
        (all-map (IsAt app of.final) (λ (moment : Moment). (s : Server) → first_server next moment.after ≡ Some s → is_sent_by setup.config epoch run piece app s ≡ true → s.request.head.record_route ≡ sent app) run
        (λ moment at s found. next-at next moment at s found) of.all)
        (received-is (option_map_or (is_same_app next) piece.caller false) (began_with run next) server is) by

    -- ## It leaves

    abbrev Leaves : Head → Type 0
    Leaves head = same_vias (vias_at run piece app) (drop 1 head.via) ≡ true → head.record_route ≡ sent app

    client-made : (dialog : Dialog) (moment : Moment) → IsAt app of.final moment → (branch : ℕ) (response : Response) (host : Host Session) → host_at app.host moment.after ≡ Some host
        → (client : Client) → find (is_client app branch false) host.clients ≡ Some client → makes dialog client.request response ≡ true → Leaves client.request.head
    unfolding is_client makes IsOn
    client-made dialog moment at branch response host there client found made = λ same.
        let sound : Sound app at.known client.request = all-found (λ (c : Client). Sound app at.known c.request) (is_client app branch false) host.clients client found (at.clients app.host host there) in
        let on = (all-found (λ (c : Client). IsOn setup.config epoch c.app c.branch c.request × Unit {0}) (is_client app branch false) host.clients client found (at.owns app.host host there)).0 in
        let test = both _ _ (both _ _ (test-found (is_client app branch false) host.clients client found)).0 in
        let here : client.app ≡ app = app-is client.app app test.0 in
        let top : top_via client.request.head.via ≡ Some (own_via setup.config epoch app client.branch) = subst (λ (a : AppId). top_via client.request.head.via ≡ Some (own_via setup.config epoch a client.branch)) here on in
        let own : IsOwn setup.config epoch app (records run app) client.request = subst (λ (via : Option Via). option_map_or (is_branch_of setup.config epoch app) via false ≡ true) (sym top) (own-branch setup.config epoch app client.branch) in
        let parts = both _ _ (both _ _ (both _ _ (both _ _ (both _ _ made).0).0).0).0 in
        sent-by client.request at.known at.grows sound own (is-none (tag_of client.request.head.to) parts.1) same

    if-left : (b : Bool) (head other : Head) → cond b (Some head) None ≡ Some other → (b ≡ true) × (head ≡ other)
    if-left true head other is = (refl, some-is head other is)
    if-left false head other is = cc

    left-client : (dialog : Dialog) (moment : Moment) → IsAt app of.final moment → (branch : ℕ) (response : Response) (found : Option (Host Session)) → host_at app.host moment.after ≡ found
        → (client : Option Client) → client_at app branch found ≡ client → (head : Head)
        → option_map_or (λ (c : Client). cond (is_outside c.peer && makes dialog c.request response) (Some c.request.head) None) client None ≡ Some head → Leaves head
    unfolding client_at
    left-client dialog moment at branch response None there client is head left = cc
    left-client dialog moment at branch response (Some host) there None is head left = cc
    left-client dialog moment at branch response (Some host) there (Some client) is head left =
        let parts = if-left _ client.request.head head left in
        subst Leaves parts.1 (client-made dialog moment at branch response host there client is (both _ _ parts.0).1)

    left-event : (dialog : Dialog) (moment : Moment) → IsAt app of.final moment → (event : Queued) (head : Head) → left_by dialog app moment.after event ≡ Some head → Leaves head
    unfolding left_by
    left-event dialog moment at (queued.Response branch response) head left = left-client dialog moment at branch response (host_at app.host moment.after) refl _ refl head left
    left-event dialog moment at (queued.Initial region subscriber popped request) head left = cc
    left-event dialog moment at (queued.Request request) head left = cc
    left-event dialog moment at (queued.Cancelled number) head left = cc
    left-event dialog moment at (queued.Timer id) head left = cc
    left-event dialog moment at (queued.BranchTimer branch due) head left = cc
    left-event dialog moment at queued.Expired head left = cc
    left-event dialog moment at queued.Ready head left = cc

    mapped-by : {B : Type 0} (P : B → Type 0) (found : Option B) (rest : List B) → ((b : B) → found ≡ Some b → P b) → All P rest → All P (cons_option found rest)
    unfolding All
    mapped-by P None rest each all = all
    mapped-by P (Some b) rest each all = (each b refl, all)

    all-mapped : {A B : Type 0} (P : B → Type 0) (give : A → Option B) (xs : List A) → ((x : A) (b : B) → give x ≡ Some b → P b) → All P (filter_map give xs)
    unfolding All
    all-mapped P give [] each = tt
    all-mapped P give (x ∷ xs) each = mapped-by P (give x) (filter_map give xs) (each x) (all-mapped P give xs each)

    left-all : (dialog : Dialog) (moments : List Moment) → All (IsAt app of.final) moments
        → All Leaves (flat_map (λ moment. filter_map (λ (got : Got). left_by dialog app moment.after got.waiting.event) (filter (λ got. is_same_app got.app app) (got_in moment))) moments)
    unfolding All
    left-all dialog [] all = tt
    left-all dialog (moment ∷ moments) all =
        all-both Leaves _ _ (all-mapped Leaves (λ (got : Got). left_by dialog app moment.after got.waiting.event) (filter (λ got. is_same_app got.app app) (got_in moment)) (λ got head left. left-event dialog moment all.0 got.waiting.event head left))
        (left-all dialog moments all.1)

    pub left-routed : (dialog : Dialog) → All Leaves (left_from run dialog app)
    unfolding left_from
    left-routed dialog = left-all dialog run of.all
