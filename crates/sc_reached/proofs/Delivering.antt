-- A later request on the wire is queued at the session that its own URI names.
use Rattle.std.proofs.Common.{◌≡◌, ℕ, ◌+◌, ◌++◌, Bool, true, false, Option, None, Some, [], ◌∷◌, refl, sym, ap, subst, ◌∙◌}
use Rattle.std.specs.Prelude.{◌==◌, ◌&&◌, cond, drop}
use Rattle.std.specs.List.{find}
use Rattle.std.proofs.lemmas.List.{append-nil}
use Rattle.sc_value.specs.declared.ids.AppId.{AppId}
use Rattle.sc_value.specs.declared.message.Message.TheVariants as messages
use Rattle.sc_value.specs.declared.message.Request.{Request}
use Rattle.sc_tokens.specs.Names.{same_bytes}
use Rattle.sc_terms.specs.declared.settings.Config.{Config}
use Rattle.sc_parts.specs.declared.setup.Setup.{Setup}
use Rattle.sc_state.specs.Hosts.{Host}
use Rattle.sc_state.specs.declared.host.Live.{Live}
use Rattle.sc_state.specs.declared.host.Peer.{Peer}
use Rattle.sc_state.specs.declared.host.Peer.TheVariants as peers
use Rattle.sc_state.specs.declared.host.Reply.{Reply}
use Rattle.sc_state.specs.declared.host.Taken.{Taken}
use Rattle.sc_state.specs.declared.net.Entry.{Entry}
use Rattle.sc_state.specs.declared.net.Net.{Net}
use Rattle.sc_state.specs.declared.queue.Queued.{Queued}
use Rattle.sc_state.specs.declared.queue.Queued.TheVariants as queued
use Rattle.sc_model.specs.SessionStates.{invite}
use Rattle.sc_hosts.specs.Inboxes.{is_full, is_live, queue, with_event}
use Rattle.sc_hosts.specs.Messages.{trying_response}
use Rattle.sc_hosts.specs.Nets.{with_host_after as placed, with_message as put, put_reply, deliver_at, deliver_entry, deliver_first}
use Rattle.sc_hosts.specs.Sessions.{Form}
use Rattle.sc_hosts.specs.Steps.{live_at, live_of}
use Rattle.sc_hosts.specs.Taking.{named_live, own_tag, queue_later, without_own_route as unrouted, with_server, with_trying, takes, sort_of, sort_at, taken_as}
use Rattle.sc_hosts.specs.Transacting.{method_of}
use Rattle.sc_hosts.specs.Words.{trying}
use Rattle.sc_reached.specs.Reached.{IsDeliveredAlone, IsFirstFor, answered_at_once}
use Rattle.sc_reached.proofs.Claims.{not-claimed}
use Rattle.sc_reached.proofs.Naming.{named_live-is}
use Rattle.sc_reached.proofs.Reaching.{later-sessions, placed-here, placed-other, queue-reply, serial-is, with-inbox, with-session}

some-is : {A : Type 0} (x y : A) → Some x ≡ Some y → x ≡ y
some-is x y is = cc

-- the reply of one that is queued
abbrev reply_at_once : Peer → Request → Option Reply
reply_at_once from request =
    cond (same_bytes (method_of request) invite) (Some (record { peer = from; message = messages.Response (trying_response trying request) })) None

module _ {S : Type 0} where
  trying-reply : (from : Peer) (now : ℕ) (request : Request) (taken : Taken S) → taken.reply ≡ None
      → (with_trying from now request taken).reply ≡ reply_at_once from request
  unfolding with_trying
  trying-reply from now request taken none = by (same_bytes (method_of request) invite) _ refl
    where
      by : (b : Bool) (after : Taken S) → after.reply ≡ Some (record { peer = from; message = messages.Response (trying_response trying request) })
          → (cond b after taken).reply ≡ cond b (Some (record { peer = from; message = messages.Response (trying_response trying request) })) None
      by true after is = is
      by false after is = none

  later-reply : (config : Config) (epoch number : ℕ) (from : Peer) (now : ℕ) (request : Request) (count : ℕ) (live : Live S) (host : Host S)
      → is_full live ≡ false
      → (queue_later config (record { host = number; epoch = epoch; from = from; now = now; count = count }) request live host).reply ≡ reply_at_once from request
  unfolding queue_later
  later-reply config epoch number from now request count live host room =
      let app : AppId = record { host = number; serial = live.serial } in
      let served : Host S = with_server app (count + 1) from (own_tag config epoch app) (unrouted config request) host in
      rw room (trying-reply from now request (queue live.serial now (queued.Request (unrouted config request)) count served) (queue-reply live.serial now (queued.Request (unrouted config request)) count served))

  -- what is put on the wire
  placed-answers : (entry : Entry) (request : Request) (taken : Taken S) (net : Net S)
      → taken.reply ≡ reply_at_once (peers.Inside entry.sender) request
      → (placed entry.receiver taken net).wire ≡ net.wire ++ answered_at_once entry request
  unfolding placed answered_at_once put_reply put
  placed-answers entry request taken net is = rw is (by (same_bytes (method_of request) invite))
    where
      by : (b : Bool)
          → (put_reply entry.receiver (cond b (Some (record { peer = peers.Inside entry.sender; message = messages.Response (trying_response trying request) })) None) (record net { hosts = (placed entry.receiver (record taken { reply = None }) net).hosts; count = taken.count })).wire
          ≡ net.wire ++ cond b (record { sender = entry.receiver; receiver = entry.sender; message = messages.Response (trying_response trying request); note = None } ∷ []) []
      by true = refl
      by false = sym (append-nil net.wire)

  -- ## Its delivery

  taken-later : (form : Form S) (setup : Setup) (entry : Entry) (request : Request) (net : Net S) (app : AppId) (live : Live S)
      → (to : IsFirstFor setup entry request net app live) → find (is_live app.serial) to.host.sessions ≡ Some live
      → takes form setup.config (record { host = app.host; epoch = net.epoch; from = peers.Inside entry.sender; now = net.moment; count = net.count }) entry.note (messages.Request request) to.host
      ≡ queue_later setup.config (record { host = app.host; epoch = net.epoch; from = peers.Inside entry.sender; now = net.moment; count = net.count }) request live to.host
  unfolding takes sort_at sort_of taken_as
  taken-later form setup entry request net app live to is =
      let lives : named_live net.epoch app.host to.uri to.host ≡ Some live = named_live-is net.epoch app.host app.serial to.uri to.host to.within to.small to.named ∙ is in
      rw (not-claimed _ to.unclaimed, to.no_cancel, to.tagged, to.by, lives) refl

  delivered-later : (form : Form S) (setup : Setup) (entry : Entry) (request : Request) (net : Net S) (app : AppId) (live : Live S)
      → (to : IsFirstFor setup entry request net app live) → find (is_live app.serial) to.host.sessions ≡ Some live
      → deliver_first form setup net ≡ placed app.host (queue_later setup.config (record { host = app.host; epoch = net.epoch; from = peers.Inside entry.sender; now = net.moment; count = net.count }) request live to.host) (record net { wire = drop 1 net.wire })
  unfolding deliver_first deliver_entry deliver_at
  delivered-later form setup entry request net app live to is =
      rw (to.first, to.receiver, to.there, to.message, taken-later form setup entry request net app live to is) refl

  pub delivers : (form : Form S) (setup : Setup) (entry : Entry) (request : Request) (net : Net S) (app : AppId) (live : Live S)
      → IsFirstFor setup entry request net app live
      → IsDeliveredAlone app live (queued.Request (unrouted setup.config request)) (answered_at_once entry request) net (deliver_first form setup net)
  delivers form setup entry request net app live to =
      let event : Queued = queued.Request (unrouted setup.config request) in
      let behind : Net S = record net { wire = drop 1 net.wire } in
      let taken : Taken S = queue_later setup.config (record { host = app.host; epoch = net.epoch; from = peers.Inside entry.sender; now = net.moment; count = net.count }) request live to.host in
      let is : find (is_live app.serial) to.host.sessions ≡ Some live = sym (ap (live_of app) to.there) ∙ to.lives in
      let same-serial : live.serial ≡ app.serial = serial-is app.serial to.host.sessions live is in
      let found : find (is_live live.serial) to.host.sessions ≡ Some live = subst (λ (n : ℕ). find (is_live n) to.host.sessions ≡ Some live) (sym same-serial) is in
      let changes = later-sessions setup.config net.epoch app.host (peers.Inside entry.sender) net.moment request net.count live to.host to.room found in
      subst (λ (changed : Net S). IsDeliveredAlone app live event (answered_at_once entry request) net changed) (sym (delivered-later form setup entry request net app live to is)) (record {
        later = with_event (net.count + 1) net.moment event live;
        lives = subst (λ (n : ℕ). live_at (record { host = app.host; serial = n }) (placed app.host taken behind) ≡ Some (with_event (net.count + 1) net.moment event live)) same-serial
            (placed-here app.host net.moment event to.host live taken behind to.there found changes);
        inbox = with-inbox (net.count + 1) net.moment event live;
        same = with-session (net.count + 1) net.moment event live;
        others = λ other away. placed-other other app.host net.moment event to.host live taken behind to.there changes _ _ refl refl (subst (λ (n : ℕ). ((other.host == app.host) && (other.serial == n)) ≡ false) (sym same-serial) away);
        wire = subst (λ (n : ℕ). (placed n taken behind).wire ≡ drop 1 net.wire ++ answered_at_once entry request) to.receiver
            (placed-answers entry request taken behind (later-reply setup.config net.epoch app.host (peers.Inside entry.sender) net.moment request net.count live to.host to.room));
      })
