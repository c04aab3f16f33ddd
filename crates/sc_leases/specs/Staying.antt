-- A session that goes on to live with the same first event: later events only come at the end of
-- its inbox. This project's own.
use Rattle.std.specs.Prelude.{◌≡◌, ℕ, List, ◌++◌, Option, Some, slice_get}
use Rattle.sc_value.specs.declared.ids.AppId.{AppId}
use Rattle.sc_state.specs.Hosts.{Host}
use Rattle.sc_state.specs.declared.host.Live.{Live}
use Rattle.sc_state.specs.declared.net.Net.{Net}
use Rattle.sc_state.specs.declared.queue.Waiting.{Waiting}
use Rattle.sc_hosts.specs.Inboxes.{live_in}
use Rattle.sc_hosts.specs.Steps.{live_at}

-- it lives, is what it was, and the same event is first, since the same moment
pub record StillFirst {S : Type 0} (live : Live S) (waiting : Waiting)
    (found : Option (Live S)) : Type 0 where
  pub later : Live S
  pub found_is : found ≡ Some later
  pub session_is : later.session ≡ live.session
  pub since_is : later.since ≡ live.since
  pub first_is : slice_get later.inbox 0 ≡ Some waiting
  pub new : List Waiting
  pub inbox_is : later.inbox ≡ live.inbox ++ new

-- so does the session of this serial, as a host is changed
pub record HostStays {S : Type 0} (serial count : ℕ) (host : Host S) (later : ℕ)
    (changed : Host S) : Type 0 where
  pub stays : (live : Live S) (waiting : Waiting) → live_in serial host ≡ Some live
      → slice_get live.inbox 0 ≡ Some waiting → StillFirst live waiting (live_in serial changed)

-- so does the session, as a net is changed
pub record NetStays {S : Type 0} (app : AppId) (net changed : Net S) : Type 0 where
  pub stays : (live : Live S) (waiting : Waiting) → live_at app net ≡ Some live
      → slice_get live.inbox 0 ≡ Some waiting → StillFirst live waiting (live_at app changed)
