-- What waits in an application session, event by event, only grows at its end. Inboxes are this
-- project's own.
use Rattle.std.specs.Prelude.{◌≡◌, ◌≤◌, ℕ, List, [], ◌++◌, false, Option, None, drop}
use Rattle.std.specs.Option.{option_map_or}
use Rattle.sc_value.specs.declared.ids.AppId.{AppId}
use Rattle.sc_state.specs.Hosts.{Host}
use Rattle.sc_state.specs.declared.host.Live.{Live}
use Rattle.sc_state.specs.declared.net.Net.{Net}
use Rattle.sc_state.specs.declared.queue.Waiting.{Waiting}
use Rattle.sc_hosts.specs.Steps.{live_at}
use Rattle.sc_hosts.specs.Transacting.{is_same_app}
use Rattle.sc_terms.specs.declared.steps.Step.{Step}
use Rattle.sc_terms.specs.declared.steps.Step.TheVariants as steps
use Rattle.sc_hosts.specs.Inboxes.{live_in}
use Rattle.sc_hosts.specs.Nets.{host_at}
use Rattle.sc_once.specs.Growing.{GoneIn, KnownIn}

-- the events that wait in a session
abbrev pub events_of : {S : Type 0} → Option (Live S) → List Waiting
events_of live = option_map_or (λ live. live.inbox) live []

-- the events that wait in a session of a net, none where it doesn't live
unfoldable pub events_in : {S : Type 0} → AppId → Net S → List Waiting
events_in app net = events_of (live_at app net)

-- of a host
pub record HostGrows {S : Type 0} (serial count : ℕ) (host : Host S) (later : ℕ)
    (changed : Host S) : Type 0 where
  pub new : List Waiting
  pub waits : events_of (live_in serial changed) ≡ events_of (live_in serial host) ++ new
  pub known : host.last ≤ changed.last
  pub gone : serial ≤ host.last → live_in serial host ≡ None → live_in serial changed ≡ None

-- of a net
pub record NetGrows {S : Type 0} (app : AppId) (net changed : Net S) : Type 0 where
  pub new : List Waiting
  pub waits : events_in app changed ≡ events_in app net ++ new
  pub known : KnownIn app.serial (host_at app.host net)
      → KnownIn app.serial (host_at app.host changed)
  pub gone : GoneIn app.serial (host_at app.host net) → GoneIn app.serial (host_at app.host changed)

-- neither a turn nor the withdrawal of this session
unfoldable pub IsElsewhere : AppId → Step → Type 0
IsElsewhere app (steps.Turn end other event now made) = is_same_app other app ≡ false
IsElsewhere app (steps.Withdraw other) = is_same_app other app ≡ false
IsElsewhere app step = Unit {0}

-- what waits after is what waited, and then events that are new
pub record Grows {S : Type 0} (app : AppId) (net after : Net S) : Type 0 where
  pub new : List Waiting
  pub waits : events_in app after ≡ events_in app net ++ new

-- what waits after is what waited behind the first, and then events that are new
pub record Follows {S : Type 0} (app : AppId) (net after : Net S) : Type 0 where
  pub new : List Waiting
  pub waits : events_in app after ≡ drop 1 (events_in app net) ++ new
