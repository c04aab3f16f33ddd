-- Sessions of a host and their inboxes, with the limits of both, which are this project's own.
use Rattle.std.specs.Prelude.{ℕ, ◌+◌, ◌==◌, [], ◌∷◌, ◌++◌, Bool, false, Option, None, Some, is_some, nat_le, if◌then◌else◌, length}
use Rattle.std.specs.List.{find}
use Rattle.std.specs.Option.{option_map_or}
use Rattle.sc_value.specs.declared.message.Message.{Message}
use Rattle.sc_value.specs.Lists.{change_first}
use Rattle.sc_state.specs.Hosts.{Host}
pub use Rattle.sc_state.specs.Keeping.{is_live}
use Rattle.sc_state.specs.declared.host.Live.{Live}
use Rattle.sc_state.specs.declared.host.Peer.{Peer}
use Rattle.sc_state.specs.declared.host.Taken.{Taken}
use Rattle.sc_state.specs.declared.queue.Queued.{Queued}

-- ## Limits

-- so many application sessions live at a host; a further initial request gets 503
abbrev pub MOST_LIVE : ℕ
MOST_LIVE = 4096

-- where so many events wait in an inbox, a further request gets 503 and a provisional response is
-- dropped
abbrev pub MOST_WAITING : ℕ
MOST_WAITING = 64

-- ## Sessions and their inboxes

-- the live session of this serial
abbrev pub live_in : {S : Type 0} → ℕ → Host S → Option (Live S)
live_in serial host = find (is_live serial) host.sessions

-- an event more, under this number; the first that waits became first at this moment
unfoldable pub with_event : {S : Type 0} → ℕ → ℕ → Queued → Live S → Live S
with_event number now event live = record live {
  inbox = live.inbox ++ record { number = number; event = event } ∷ [];
  since = if length live.inbox == 0 then now else live.since;
}

-- the host took a message and answers nothing
unfoldable pub without_answer : {S : Type 0} → Host S → ℕ → Taken S
without_answer host count = record { host = host; reply = None; count = count }

-- an event is queued where its session lives; else it is dropped
unfoldable pub queue : {S : Type 0} → ℕ → ℕ → Queued → ℕ → Host S → Taken S
queue serial now event count host =
    if is_some (live_in serial host)
    then without_answer
    (record host {
      sessions = change_first (is_live serial) (with_event (count + 1) now event) host.sessions;
    }) (count + 1)
    else without_answer host count

-- as many events wait as may
unfoldable pub is_full : {S : Type 0} → Live S → Bool
is_full live = nat_le MOST_WAITING (length live.inbox)

-- the session lives, and its inbox is full
unfoldable pub is_full_at : {S : Type 0} → ℕ → Host S → Bool
is_full_at serial host = option_map_or is_full (live_in serial host) false

-- the host answers with this message at once
abbrev pub replying : {S : Type 0} → Peer → Message → Taken S → Taken S
replying peer message taken =
    record taken { reply = Some (record { peer = peer; message = message }) }
