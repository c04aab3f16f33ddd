-- A turn of the live session: what its turn makes of it stands in its place.
use Rattle.std.proofs.Common.{◌≡◌, ℕ, zero, suc, Bool, true, false, cond, List, [], ◌∷◌, Option, None, Some, slice_get, refl, ap}
use Rattle.std.specs.Prelude.{option_and_then}
use Rattle.std.specs.List.{find}
use Rattle.sc_value.specs.declared.ids.AppId.{AppId}
use Rattle.sc_value.specs.Lists.{change_first, change_nth}
use Rattle.sc_terms.specs.declared.calls.CallRecord.{CallRecord}
use Rattle.sc_terms.specs.declared.calls.End.{End}
use Rattle.sc_parts.specs.declared.setup.Setup.{Setup}
use Rattle.sc_state.specs.Hosts.{Host}
use Rattle.sc_state.specs.declared.host.Live.{Live}
use Rattle.sc_state.specs.declared.net.Net.{Net}
use Rattle.sc_state.specs.declared.orders.Outcome.{Outcome}
use Rattle.sc_state.specs.declared.queue.Waiting.{Waiting}
use Rattle.sc_state.specs.declared.session.Session.{Session}
use Rattle.sc_hosts.specs.Histories.{as_session, after_turn}
use Rattle.sc_hosts.specs.Nets.{change_host, host_at}
use Rattle.sc_hosts.specs.Sessions.{Turn}
use Rattle.sc_hosts.specs.Steps.{closed_turn, live_at, outcome_by, turn_of, net_after_turn as turned, turned_live, turns, turns_first, with_ready}
use Rattle.sc_hosts.specs.Inboxes.{is_live}
use Rattle.sc_steps.specs.TurnParts.{closed_by, first_by, host_after, live_after, net_after, ready_by, turned_by, turns_by, wakes}

-- ## The element that is found, changed in two ways that agree on it

first-at : {A : Type 0} (p : A → Bool) (f g : A → A) (y : A) (ys : List A) (x : A) (b : Bool) → (find p ys ≡ Some x → change_first p f ys ≡ change_first p g ys)
    → cond b (Some y) (find p ys) ≡ Some x → f x ≡ g x → cond b (f y ∷ ys) (y ∷ change_first p f ys) ≡ cond b (g y ∷ ys) (y ∷ change_first p g ys)
first-at p f g y ys x true later found same = let is : y ≡ x = cc in rw (is, same) refl
first-at p f g y ys x false later found same = ap (λ zs. y ∷ zs) (later found)

same-first : {A : Type 0} (p : A → Bool) (f g : A → A) (ys : List A) (x : A) → find p ys ≡ Some x → f x ≡ g x → change_first p f ys ≡ change_first p g ys
unfolding change_first
same-first p f g [] x found same = refl
same-first p f g (y ∷ ys) x found same = first-at p f g y ys x (p y) (λ e. same-first p f g ys x e same) found same

same-nth : {A : Type 0} (n : ℕ) (f g : A → A) (ys : List A) (x : A) → slice_get ys n ≡ Some x → f x ≡ g x → change_nth n f ys ≡ change_nth n g ys
unfolding change_nth
same-nth n f g [] x found same = refl
same-nth zero f g (y ∷ ys) x found same = let is : y ≡ x = cc in rw (is, same) refl
same-nth (suc n) f g (y ∷ ys) x found same = ap (λ zs. y ∷ zs) (same-nth n f g ys x found same)

-- ## The net with the turn of its live session

host_turned : Setup → AppId → ℕ → Turn → Outcome → Host Session → Host Session
host_turned setup app now turn done host =
    record host { sessions = change_first (is_live app.serial) (turned_live as_session setup.config now turn done) host.sessions }

live-same : (setup : Setup) (now : ℕ) (turn : Turn) (live : Live Session)
    → live_after now (outcome_by as_session setup.config live.session turn).session live ≡ turned_live as_session setup.config now turn (outcome_by as_session setup.config live.session turn) live
unfolding live_after turned_live outcome_by as_session after_turn
live-same setup now turn live = refl

host-same : (setup : Setup) (app : AppId) (now : ℕ) (turn : Turn) (live : Live Session) (host : Host Session) → find (is_live app.serial) host.sessions ≡ Some live
    → host_after app.serial now (outcome_by as_session setup.config live.session turn).session host ≡ host_turned setup app now turn (outcome_by as_session setup.config live.session turn) host
unfolding host_after host_turned
host-same setup app now turn live host found =
    ap (λ (sessions : List (Live Session)). record host { sessions = sessions }) (same-first (is_live app.serial) _ _ host.sessions live found (live-same setup now turn live))

hosts-same : (setup : Setup) (app : AppId) (turn : Turn) (live : Live Session) (net : Net Session) (host : Option (Host Session)) → slice_get net.hosts app.host ≡ host
    → option_and_then (λ (host : Host Session). find (is_live app.serial) host.sessions) host ≡ Some live
    → net_after app (outcome_by as_session setup.config live.session turn).session net ≡ change_host app.host (host_turned setup app net.moment turn (outcome_by as_session setup.config live.session turn)) net
unfolding net_after
hosts-same setup app turn live net None at found = cc
hosts-same setup app turn live net (Some host) at found =
    ap (λ (hosts : List (Host Session)). record net { hosts = hosts }) (same-nth app.host _ _ net.hosts host at (host-same setup app net.moment turn live host found))

-- ## How it closes

ready-same : (app : AppId) (done : Outcome) (live : Option (Live Session)) (net : Net Session) → live_at app net ≡ live → ready_by app done.session net ≡ with_ready app done live net
unfolding ready_by with_ready wakes
ready-same app done None net e = rw e refl
ready-same app done (Some live) net e = rw e refl

closed-same : (setup : Setup) (app : AppId) (done : Outcome) (ends : Bool) (net : Net Session) → closed_by setup app done.session ends net ≡ closed_turn setup app done ends net
unfolding closed_by closed_turn
closed-same setup app done true net = refl
closed-same setup app done false net = ready-same app done (live_at app net) net refl

turned-same : (setup : Setup) (app : AppId) (turn : Turn) (live : Live Session) (net : Net Session) → live_at app net ≡ Some live
    → turned_by setup app (outcome_by as_session setup.config live.session turn) net ≡ turned as_session setup app turn (outcome_by as_session setup.config live.session turn) net
unfolding turned_by turned host_turned
turned-same setup app turn live net found =
    let done : Outcome = outcome_by as_session setup.config live.session turn in
    rw (hosts-same setup app turn live net (host_at app.host net) refl found) (closed-same setup app done done.ends _)

-- ## With its first event

first-taken : (setup : Setup) (app : AppId) (live : Live Session) (waiting : Option Waiting) (now : ℕ) (made : List CallRecord) (end : End) (net : Net Session) → live_at app net ≡ Some live
    → first_by setup app live.session waiting now made end net ≡ turns_first as_session setup app live waiting now made end net
unfolding first_by turns_first
first-taken setup app live None now made end net found = refl
first-taken setup app live (Some waiting) now made end net found = turned-same setup app (turn_of net app waiting now made end) live net found

by-live : (setup : Setup) (app : AppId) (live : Option (Live Session)) (now : ℕ) (made : List CallRecord) (end : End) (net : Net Session) → live_at app net ≡ live
    → turns_by setup app live now made end net ≡ turns as_session setup app live now made end net
unfolding turns_by turns
by-live setup app None now made end net e = refl
by-live setup app (Some live) now made end net e = first-taken setup app live (slice_get live.inbox 0) now made end net e

pub turns_taken : (setup : Setup) (app : AppId) (now : ℕ) (made : List CallRecord) (end : End) (net : Net Session)
    → turns_by setup app (live_at app net) now made end net ≡ turns as_session setup app (live_at app net) now made end net
turns_taken setup app now made end net = by-live setup app (live_at app net) now made end net refl
