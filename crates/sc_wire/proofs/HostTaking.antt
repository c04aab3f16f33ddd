-- A host of a net that takes something.
use Rattle.std.proofs.Common.{◌≡◌, ℕ, zero, suc, List, [], ◌∷◌, Option, None, Some, slice_get, refl, ap}
use Rattle.sc_value.specs.Lists.{change_nth}
use Rattle.sc_value.specs.declared.ids.AppId.{AppId}
use Rattle.sc_value.specs.declared.ids.Place.{Place}
use Rattle.sc_value.specs.declared.message.Message.{Message}
use Rattle.sc_parts.specs.declared.setup.Setup.{Setup}
use Rattle.sc_state.specs.declared.host.Peer.TheVariants as peers
use Rattle.sc_state.specs.declared.net.Entry.{Entry}
use Rattle.sc_state.specs.declared.net.Note.{Note}
use Rattle.sc_hosts.specs.Histories.{as_session}
use Rattle.sc_hosts.specs.Arrivals.{host_takes, taken_at}
use Rattle.sc_state.specs.Hosts.{Host}
use Rattle.sc_state.specs.declared.host.Taken.{Taken}
use Rattle.sc_state.specs.declared.net.Net.{Net}
use Rattle.sc_state.specs.declared.queue.Queued.{Queued}
use Rattle.sc_state.specs.declared.session.Session.{Session}
use Rattle.sc_hosts.specs.Nets.{host_at, put_reply, with_host_after as placed, queued_at, queue_for, deliver_at}
use Rattle.sc_hosts.specs.Inboxes.{queue}
use Rattle.sc_hosts.specs.Taking.{takes}
use Rattle.sc_wire.specs.HostChanges.{host_after, told_after, net_after}

-- the host at a place changed
changed-at : {A : Type 0} (f : A → A) (xs : List A) (n : ℕ) (x : A) → slice_get xs n ≡ Some x → change_nth n f xs ≡ change_nth n (λ y. f x) xs
unfolding change_nth
changed-at f [] n x e = refl
changed-at f (y ∷ xs) zero x e = ap (λ z. z ∷ xs) (ap f (cc))
changed-at f (y ∷ xs) (suc n) x e = ap (λ zs. y ∷ zs) (changed-at f xs n x e)

kept-at : {A : Type 0} (f : A → A) (xs : List A) (n : ℕ) → slice_get xs n ≡ None → change_nth n f xs ≡ xs
unfolding change_nth
kept-at f [] n e = refl
kept-at f (y ∷ xs) zero e = cc
kept-at f (y ∷ xs) (suc n) e = ap (λ zs. y ∷ zs) (kept-at f xs n e)

pub net_placed : (taking : Host Session → Taken Session) (number : ℕ) (net : Net Session) (host : Host Session) → slice_get net.hosts number ≡ Some host → net_after taking number net ≡ placed number (taking host) net
unfolding net_after placed host_after told_after
net_placed taking number net host e = rw (e, changed-at (λ h. (taking h).host) net.hosts number host e) refl

pub net_kept : (taking : Host Session → Taken Session) (number : ℕ) (net : Net Session) → slice_get net.hosts number ≡ None → net_after taking number net ≡ net
unfolding net_after told_after put_reply
net_kept taking number net e = rw (e, kept-at (host_after taking) net.hosts number e) refl

queued-by : (app : AppId) (event : Queued) (net : Net Session) (host : Option (Host Session)) → slice_get net.hosts app.host ≡ host → net_after (queue app.serial net.moment event net.count) app.host net ≡ queued_at app event host net
unfolding queued_at
queued-by app event net None e = net_kept (queue app.serial net.moment event net.count) app.host net e
queued-by app event net (Some host) e = net_placed (queue app.serial net.moment event net.count) app.host net host e

pub net_queued : (app : AppId) (event : Queued) (net : Net Session) → net_after (queue app.serial net.moment event net.count) app.host net ≡ queue_for app event net
unfolding queue_for
net_queued app event net = queued-by app event net (slice_get net.hosts app.host) refl

-- ## A message that is taken

taken-by : (setup : Setup) (from : Place) (noted : Option Note) (message : Message) (number : ℕ) (net : Net Session) (host : Option (Host Session)) → slice_get net.hosts number ≡ host
    → net_after (takes as_session setup.config (record { host = number; epoch = net.epoch; from = peers.Outside from; now = net.moment; count = net.count }) noted message) number net ≡ host_takes as_session setup from noted message number host net
unfolding host_takes
taken-by setup from noted message number net None e = net_kept (takes as_session setup.config (record { host = number; epoch = net.epoch; from = peers.Outside from; now = net.moment; count = net.count }) noted message) number net e
taken-by setup from noted message number net (Some host) e = net_placed (takes as_session setup.config (record { host = number; epoch = net.epoch; from = peers.Outside from; now = net.moment; count = net.count }) noted message) number net host e

pub net_taken : (setup : Setup) (from : Place) (noted : Option Note) (message : Message) (number : ℕ) (net : Net Session)
    → net_after (takes as_session setup.config (record { host = number; epoch = net.epoch; from = peers.Outside from; now = net.moment; count = net.count }) noted message) number net ≡ taken_at as_session setup from noted message number net
unfolding taken_at
net_taken setup from noted message number net = taken-by setup from noted message number net (slice_get net.hosts number) refl

entry-by : (setup : Setup) (entry : Entry) (net : Net Session) (host : Option (Host Session)) → slice_get net.hosts entry.receiver ≡ host
    → net_after (takes as_session setup.config (record { host = entry.receiver; epoch = net.epoch; from = peers.Inside entry.sender; now = net.moment; count = net.count }) entry.note entry.message) entry.receiver net ≡ deliver_at as_session setup entry host net
unfolding deliver_at
entry-by setup entry net None e = net_kept (takes as_session setup.config (record { host = entry.receiver; epoch = net.epoch; from = peers.Inside entry.sender; now = net.moment; count = net.count }) entry.note entry.message) entry.receiver net e
entry-by setup entry net (Some host) e = net_placed (takes as_session setup.config (record { host = entry.receiver; epoch = net.epoch; from = peers.Inside entry.sender; now = net.moment; count = net.count }) entry.note entry.message) entry.receiver net host e

pub net_delivered : (setup : Setup) (entry : Entry) (net : Net Session)
    → net_after (takes as_session setup.config (record { host = entry.receiver; epoch = net.epoch; from = peers.Inside entry.sender; now = net.moment; count = net.count }) entry.note entry.message) entry.receiver net ≡ deliver_at as_session setup entry (host_at entry.receiver net) net
net_delivered setup entry net = entry-by setup entry net (slice_get net.hosts entry.receiver) refl
