-- A later request that can't come to its session is answered, and nothing else happens.
use Rattle.std.proofs.Common.{◌≡◌, ◌≤◌, ◌<◌, ℕ, zero, suc, ◌+◌, ◌^◌, Bool, true, false, Option, None, Some, List, [], ◌∷◌, refl, sym, ap, subst, append-nil, ◌∙◌, arith}
use Rattle.std.specs.Prelude.{drop, is_some, length, option_and_then, slice_get}
use Rattle.std.specs.List.{find}
use Rattle.sc_value.specs.Lists.{change_nth}
use Rattle.sc_value.specs.declared.ids.AppId.{AppId}
use Rattle.sc_value.specs.declared.ids.Place.{Place}
use Rattle.sc_value.specs.declared.message.Message.TheVariants as messages
use Rattle.sc_value.specs.declared.message.Request.{Request}
use Rattle.sc_value.specs.declared.parts.Uri.{Uri}
use Rattle.sc_tokens.specs.Names.{same_bytes}
use Rattle.sc_terms.specs.declared.steps.Step.TheVariants as steps
use Rattle.sc_parts.specs.declared.setup.Setup.{Setup}
use Rattle.sc_state.specs.Hosts.{Host}
use Rattle.sc_state.specs.declared.host.Live.{Live}
use Rattle.sc_state.specs.declared.host.Peer.TheVariants as peers
use Rattle.sc_state.specs.declared.host.Taken.{Taken}
use Rattle.sc_state.specs.declared.net.Entry.{Entry}
use Rattle.sc_state.specs.declared.net.Net.{Net}
use Rattle.sc_tokens.specs.Bytes.{Bytes}
use Rattle.sc_model.specs.Names.{IsOf64}
use Rattle.sc_model.specs.SessionStates.{ack}
use Rattle.std.specs.Option.{option_map_or}
use Rattle.sc_hosts.specs.declared.sorts.Sort.TheVariants.{Later, Nobodys}
use Rattle.sc_hosts.specs.Arrivals.{after_arrival as arrived, edge_answer, sort_in, arrives_as}
use Rattle.sc_hosts.specs.Inboxes.{is_full, is_live, without_answer as quiet}
use Rattle.sc_hosts.specs.Nets.{deliver_at, deliver_entry, deliver_first, has_named, host_at, named_from, named_host, with_host_after as placed, with_message as put, put_reply}
use Rattle.sc_hosts.specs.Sessions.{Form}
use Rattle.sc_hosts.specs.Steps.{live_at, before_delivery as stepped}
use Rattle.sc_hosts.specs.Taking.{named_live, names, own_uri, queue_later, refuse, takes, server_for, sort_of, sort_at, taken_as}
use Rattle.sc_hosts.specs.Transacting.{method_of}
use Rattle.sc_hosts.specs.Words.{does_not_exist, unavailable}
use Rattle.sc_reached.specs.Reached.{AllSmall, AreSmall, IsLater}
use Rattle.sc_reached.proofs.Arriving.{ComesTo, arrived-later}
use Rattle.sc_reached.proofs.Claims.{host-unclaimed, not-claimed}
use Rattle.sc_reached.proofs.NamedHosts.{named_host-is}
use Rattle.sc_reached.proofs.Naming.{named-here, named_live-is}
use Rattle.sc_reached.proofs.Reaching.{at-host}
use Rattle.sc_stopped.specs.Stopped.{IsFirstTo, IsLaterTo, answer_back, answer_to, net_with_answer as answered, net_with_return as returned}

-- ## No session

none-some : {A : Type 0} (found : Option A) (a : A) → found ≡ None → found ≡ Some a → ⊥
none-some found a none is = cc

under-place : (k n m : ℕ) → k + suc n ≤ m → k < m
under-place k n m most = omega (arith, most)

next-place : (k n m : ℕ) → k + suc n ≤ m → k + 1 + n ≤ m
next-place k n m most = omega (arith, most)

next-is : (k i n : ℕ) → k + 1 + i ≡ n → k + suc i ≡ n
next-is k i n is = omega (arith, is)

this-is : (k n : ℕ) → k ≡ n → k + zero ≡ n
this-is k n is = omega (arith, is)

module _ {S : Type 0} (epoch : ℕ) (app : AppId) (uri : Uri) (within : IsOf64 epoch app 0) (named : names epoch app uri ≡ true) where
  not-named : (number : ℕ) (host : Host S) → number < 2 ^ 64 → AreSmall host.sessions → (number ≡ app.host → find (is_live app.serial) host.sessions ≡ None)
      → (found : Option (Live S)) → named_live epoch number uri host ≡ found → is_some found ≡ false
  not-named number host under small gone None is = refl
  not-named number host under small gone (Some live) is =
      let here : number ≡ app.host = named-here epoch app uri number host within under small named (Some live) is refl in
      let at : named_live epoch app.host uri host ≡ Some live = subst (λ (n : ℕ). named_live epoch n uri host ≡ Some live) here is in
      absurd (none-some (find (is_live app.serial) host.sessions) live (gone here) (sym (named_live-is epoch app.host app.serial uri host within small named) ∙ at))

  pub none-from : (hosts : List (Host S)) (k : ℕ) → k + length hosts ≤ 2 ^ 64 → AllSmall hosts
      → ((i : ℕ) (host : Host S) → slice_get hosts i ≡ Some host → k + i ≡ app.host → find (is_live app.serial) host.sessions ≡ None) → named_from epoch uri k hosts ≡ None
  unfolding named_from has_named
  none-from [] k under small gone = refl
  none-from (host ∷ hosts) k under small gone =
      rw (not-named k host (under-place k (length hosts) _ under) small.0 (λ here. gone 0 host refl (this-is k app.host here)) (named_live epoch k uri host) refl)
      (none-from hosts (k + 1) (next-place k (length hosts) _ under) small.1 (λ i h at is. gone (suc i) h at (next-is k i app.host is)))

pub gone-at : {S : Type 0} (app : AppId) (net : Net S) → live_at app net ≡ None → (i : ℕ) (host : Host S) → host_at i net ≡ Some host → 0 + i ≡ app.host → find (is_live app.serial) host.sessions ≡ None
gone-at {S = S} app net gone i host at is =
    let same : i ≡ app.host = zero-more i app.host is in
    let there : host_at app.host net ≡ Some host = subst (λ (n : ℕ). host_at n net ≡ Some host) same at in
    by (host_at app.host net) there gone
  where
    zero-more : (a b : ℕ) → 0 + a ≡ b → a ≡ b
    zero-more a b is = omega (arith, is)

    by : (found : Option (Host S)) → found ≡ Some host → option_and_then (λ (h : Host S). find (is_live app.serial) h.sessions) found ≡ None → find (is_live app.serial) host.sessions ≡ None
    by None is gone = cc
    by (Some other) is gone = let same : other ≡ host = cc in subst (λ (h : Host S). find (is_live app.serial) h.sessions ≡ None) same gone

-- a host that stays the same
same-hosts : {S : Type 0} (hosts : List (Host S)) (place : ℕ) (host : Host S) → slice_get hosts place ≡ Some host → change_nth place (λ (h : Host S). host) hosts ≡ hosts
unfolding change_nth
same-hosts [] place host at = refl
same-hosts {S = S} (first ∷ hosts) zero host at = let same : host ≡ first = cc in ap (λ (h : Host S). h ∷ hosts) same
same-hosts (first ∷ hosts) (suc place) host at = ap (λ hs. first ∷ hs) (same-hosts hosts place host at)

-- ## The answers

module _ {S : Type 0} (form : Form S) (setup : Setup) (from : Place) (request : Request) where
  edge-is : (net : Net S) (code : ℕ) (reason : Bytes) (b : Bool) → same_bytes (method_of request) ack ≡ b → edge_answer setup.config from code reason request net ≡ answered setup.config from code reason request net
  unfolding edge_answer put answer_to
  edge-is net code reason true is = rw (is, append-nil net.sent) refl
  edge-is net code reason false is = rw is refl

  -- where no host has a session that it names
  unnamed : (net : Net S) → IsLater from request net → option_and_then (λ uri. named_host uri net) (own_uri setup.config request) ≡ None
      → stepped form setup (steps.In from (messages.Request request)) net ≡ answered setup.config from 481 does_not_exist request net
  unfolding stepped arrived sort_in sort_of arrives_as
  unnamed net later none = rw (later.unclaimed, later.no_cancel, later.tagged, none) (edge-is net 481 does_not_exist _ refl)

  pub unled : (net : Net S) → IsLater from request net → own_uri setup.config request ≡ None
      → stepped form setup (steps.In from (messages.Request request)) net ≡ answered setup.config from 481 does_not_exist request net
  unled net later none = unnamed net later (rw none refl)

  pub gone : (net : Net S) (app : AppId) → IsLaterTo setup from request net app → live_at app net ≡ None
      → stepped form setup (steps.In from (messages.Request request)) net ≡ answered setup.config from 481 does_not_exist request net
  unfolding named_host
  gone net app to none =
      unnamed net to.later (rw (to.by) (none-from net.epoch app to.uri to.within to.named net.hosts 0 (zero-under (length net.hosts) _ to.count) to.small (gone-at app net none)))
    where
      zero-under : (n m : ℕ) → n ≤ m → 0 + n ≤ m
      zero-under n m most = omega (arith, most)

  -- ## A full inbox

  refused-is : (net : Net S) (number : ℕ) (host : Host S) (code : ℕ) (reason : Bytes) (b : Bool) → same_bytes (method_of request) ack ≡ b → host_at number net ≡ Some host
      → placed number (refuse setup.config (peers.Outside from) code reason request net.count host) net ≡ answered setup.config from code reason request net
  unfolding placed refuse quiet put_reply put answer_to
  refused-is net number host code reason true is at = rw (is, append-nil net.sent, same-hosts net.hosts number host at) refl
  refused-is net number host code reason false is at = rw (is, same-hosts net.hosts number host at) refl

  host-small : (hosts : List (Host S)) (place : ℕ) (host : Host S) → AllSmall hosts → slice_get hosts place ≡ Some host → AreSmall host.sessions
  host-small [] place host small at = cc
  host-small (first ∷ hosts) zero host small at = let same : first ≡ host = cc in rw (← same) small.0
  host-small (first ∷ hosts) (suc place) host small at = host-small hosts place host small.1 at

  comes-to : (net : Net S) (app : AppId) (live : Live S) → IsLaterTo setup from request net app → (host : Host S) → host_at app.host net ≡ Some host
      → find (is_live app.serial) host.sessions ≡ Some live → ComesTo setup from request net
  comes-to net app live to host at is =
      let lives : named_live net.epoch app.host to.uri host ≡ Some live = named_live-is net.epoch app.host app.serial to.uri host to.within (host-small net.hosts app.host host to.small at) to.named ∙ is in record {
        uri = to.uri;
        by = to.by;
        number = app.host;
        named = named_host-is net.epoch app to.uri to.within to.named net host refl to.count to.small at (ap (λ (x : Option (Live S)). is_some x) lives);
        host = host;
        there = at;
        live = live;
        lives = lives;
        fresh = host-unclaimed net (peers.Outside from) request app.host host to.later.unclaimed at;
      }

  pub full : (net : Net S) (app : AppId) (live : Live S) → IsLaterTo setup from request net app → live_at app net ≡ Some live → is_full live ≡ true
      → stepped form setup (steps.In from (messages.Request request)) net ≡ answered setup.config from 503 unavailable request net
  unfolding stepped queue_later comes-to
  full net app live to lives is-full =
      let at = at-host app live (host_at app.host net) lives in
      let comes : ComesTo setup from request net = comes-to net app live to at.0 at.1 at.2 in
      arrived-later form setup from request net to.later comes ∙ rw is-full (refused-is net app.host at.0 503 unavailable _ refl at.1)

-- ## Between hosts

module _ {S : Type 0} (form : Form S) (setup : Setup) (entry : Entry) (request : Request) where
  back-is : (net : Net S) (host : Host S) (code : ℕ) (reason : Bytes) (b : Bool) → same_bytes (method_of request) ack ≡ b → host_at entry.receiver net ≡ Some host
      → placed entry.receiver (refuse setup.config (peers.Inside entry.sender) code reason request net.count host) (record net { wire = drop 1 net.wire }) ≡ returned setup.config entry code reason request net
  unfolding placed refuse quiet put_reply put answer_back
  back-is net host code reason true is at = rw (is, append-nil (drop 1 net.wire), same-hosts net.hosts entry.receiver host at) refl
  back-is net host code reason false is at = rw (is, same-hosts net.hosts entry.receiver host at) refl

  -- the first of the wire is taken by its host
  taken-first : (net : Net S) (app : AppId) (to : IsFirstTo setup entry request net app)
      → deliver_first form setup net ≡ placed entry.receiver (takes form setup.config (record { host = entry.receiver; epoch = net.epoch; from = peers.Inside entry.sender; now = net.moment; count = net.count }) entry.note entry.message to.host) (record net { wire = drop 1 net.wire })
  unfolding deliver_first deliver_entry deliver_at
  taken-first net app to =
      let at : host_at entry.receiver net ≡ Some to.host = subst (λ (n : ℕ). host_at n net ≡ Some to.host) (sym to.receiver) to.there in
      rw (to.first, at) refl

  -- as a later request of the session that its own URI names, or as nobody's
  taken-by : (net : Net S) (app : AppId) (to : IsFirstTo setup entry request net app) (found : Option (Live S)) → named_live net.epoch entry.receiver to.uri to.host ≡ found
      → takes form setup.config (record { host = entry.receiver; epoch = net.epoch; from = peers.Inside entry.sender; now = net.moment; count = net.count }) entry.note entry.message to.host
      ≡ taken_as form setup.config (record { host = entry.receiver; epoch = net.epoch; from = peers.Inside entry.sender; now = net.moment; count = net.count }) entry.note request (option_map_or Later found Nobodys) to.host
  unfolding takes sort_at sort_of
  taken-by net app to found named =
      rw (to.message, not-claimed (server_for (peers.Inside entry.sender) request to.host) to.unclaimed, to.no_cancel, to.tagged, to.by, named) refl

  found-at : (net : Net S) (app : AppId) (to : IsFirstTo setup entry request net app) → named_live net.epoch entry.receiver to.uri to.host ≡ find (is_live app.serial) to.host.sessions
  found-at net app to =
      subst (λ (n : ℕ). named_live net.epoch n to.uri to.host ≡ find (is_live app.serial) to.host.sessions) (sym to.receiver)
      (named_live-is net.epoch app.host app.serial to.uri to.host to.within to.small to.named)

  live-is : (net : Net S) (app : AppId) (to : IsFirstTo setup entry request net app) → live_at app net ≡ find (is_live app.serial) to.host.sessions
  live-is net app to = rw (to.there) refl

  at-receiver : (net : Net S) (app : AppId) (to : IsFirstTo setup entry request net app) → host_at entry.receiver net ≡ Some to.host
  at-receiver net app to = subst (λ (n : ℕ). host_at n net ≡ Some to.host) (sym to.receiver) to.there

  by-found : (net : Net S) (app : AppId) (to : IsFirstTo setup entry request net app) (found : Option (Live S)) → live_at app net ≡ found
      → deliver_first form setup net
      ≡ placed entry.receiver (taken_as form setup.config (record { host = entry.receiver; epoch = net.epoch; from = peers.Inside entry.sender; now = net.moment; count = net.count }) entry.note request (option_map_or Later found Nobodys) to.host) (record net { wire = drop 1 net.wire })
  by-found net app to found is =
      let named : named_live net.epoch entry.receiver to.uri to.host ≡ found = found-at net app to ∙ sym (live-is net app to) ∙ is in
      taken-first net app to ∙ ap (λ (taken : Taken S). placed entry.receiver taken (record net { wire = drop 1 net.wire })) (taken-by net app to found named)

  pub gone-back : (net : Net S) (app : AppId) → IsFirstTo setup entry request net app → live_at app net ≡ None → deliver_first form setup net ≡ returned setup.config entry 481 does_not_exist request net
  unfolding taken_as
  gone-back net app to none = by-found net app to None none ∙ back-is net to.host 481 does_not_exist _ refl (at-receiver net app to)

  pub full-back : (net : Net S) (app : AppId) (live : Live S) → IsFirstTo setup entry request net app → live_at app net ≡ Some live → is_full live ≡ true
      → deliver_first form setup net ≡ returned setup.config entry 503 unavailable request net
  unfolding taken_as queue_later
  full-back net app live to lives is-full = by-found net app to (Some live) lives ∙ rw is-full (back-is net to.host 503 unavailable _ refl (at-receiver net app to))
