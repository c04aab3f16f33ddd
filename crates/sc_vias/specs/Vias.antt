-- The Vias of what is sent, and the numbers that a turn draws (RFC 3261 sections 8.1.1.7 and 16.6).
use Rattle.std.specs.Prelude.{◌≡◌, ℕ, Some, slice_get}
use Rattle.std.specs.Option.{option_map_or}
use Rattle.sc_terms.specs.declared.settings.Config.{Config}
use Rattle.sc_terms.specs.declared.steps.Step.{Step}
use Rattle.sc_terms.specs.declared.steps.Step.TheVariants as steps
use Rattle.sc_parts.specs.declared.setup.Setup.{Setup}
use Rattle.sc_state.specs.Hosts.{Host}
use Rattle.sc_state.specs.declared.host.Client.{Client}
use Rattle.sc_state.specs.declared.net.Net.{Net}
use Rattle.sc_state.specs.declared.session.Session.{Session}
use Rattle.sc_hosts.specs.Histories.{as_session}
use Rattle.sc_hosts.specs.Nets.{host_at}
use Rattle.sc_hosts.specs.Steps.{live_at, outcome_by, turn_of}
use Rattle.sc_lasting.specs.Lasting.{All}
use Rattle.sc_keyed.specs.Keyed.{IsOn}

-- the request of each client transaction of the net stands under the own Via of its session and
-- branch
unfoldable pub HaveOwnVias : {S : Type 0} → Config → Net S → Type 0
HaveOwnVias {S = S} config net =
    (number : ℕ) (host : Host S) → host_at number net ≡ Some host
    → All (λ (client : Client). IsOn config net.epoch client.app client.branch client.request)
    host.clients

-- the number that the session of a step's turn drew last; where the step is no turn it is 0
unfoldable pub drawn_by : Setup → Net Session → Step → ℕ
drawn_by setup net (steps.Turn end app event now made) =
    option_map_or
    (λ live.
    option_map_or
    (λ waiting.
    (outcome_by as_session setup.config live.session
    (turn_of net app waiting now made end)).session.view.counter)
    (slice_get live.inbox 0) 0)
    (live_at app net) 0
drawn_by setup net step = 0
