-- A run step by step: what each step queues, and what its turn gives to send; how an application
-- session began, and whether it proxied the request that began it (RFC 3261 section 16.6).
use Rattle.std.specs.Prelude.{ℕ, List, [], ◌∷◌, Bool, ◌&&◌, Option, None, Some, is_none, option_and_then, nat_lt, if◌then◌else◌, map, filter, slice_get}
use Rattle.std.specs.Cmp.Lexicographic.{pointwise}
use Rattle.std.specs.List.{find, filter_map, flat_map}
use Rattle.std.specs.Option.{option_map_or}
use Rattle.sc_value.specs.declared.ids.AppId.{AppId}
use Rattle.sc_value.specs.declared.parts.Via.{Via}
use Rattle.sc_terms.specs.declared.calls.Call.{Call}
use Rattle.sc_terms.specs.declared.calls.Call.TheVariants as calls
use Rattle.sc_terms.specs.declared.calls.CallAnswer.{CallAnswer}
use Rattle.sc_terms.specs.declared.calls.CallAnswer.TheVariants as answers
use Rattle.sc_terms.specs.declared.calls.ProxyOptions.{ProxyOptions}
use Rattle.sc_terms.specs.declared.steps.Step.{Step}
use Rattle.sc_terms.specs.declared.steps.Step.TheVariants as steps
use Rattle.sc_parts.specs.declared.setup.Setup.{Setup}
use Rattle.sc_state.specs.declared.host.Server.{Server}
use Rattle.sc_state.specs.declared.net.Net.{Net}
use Rattle.sc_state.specs.declared.orders.Order.{Order}
use Rattle.sc_state.specs.declared.queue.Waiting.{Waiting}
use Rattle.sc_state.specs.declared.session.Session.{Session}
use Rattle.sc_hosts.specs.EventLists.{live_from}
use Rattle.sc_hosts.specs.Histories.{as_session}
use Rattle.sc_hosts.specs.Legs.{to_tag}
use Rattle.sc_hosts.specs.Nets.{host_at}
use Rattle.sc_hosts.specs.Runs.{after_step, start}
use Rattle.sc_hosts.specs.Steps.{inbox_of, live_at, outcome_by, turn_of}
use Rattle.sc_hosts.specs.Transacting.{is_same_app, same_via}

-- ## Steps

-- a step, with the net before it and the net after it
pub record Moment : Type 0 where
  pub before : Net Session
  pub step : Step
  pub after : Net Session

-- the run of these steps, from this net on
unfoldable pub moments_from : Setup → Net Session → List Step → List Moment
moments_from setup net [] = []
moments_from setup net (step ∷ steps) =
    let after : Net Session = after_step as_session setup net step in
    record { before = net; step = step; after = after } ∷ moments_from setup after steps

-- the run of a journal
unfoldable pub moments : Setup → ℕ → ℕ → List Step → List Moment
moments setup epoch began journal = moments_from setup (start setup epoch began) journal

-- ## What a step queues

-- an event in the inbox of an application session
pub record Got : Type 0 where
  pub app : AppId
  pub waiting : Waiting

-- the events that wait in a session
unfoldable pub waiting_at : Net Session → AppId → List Got
waiting_at net app =
    map (λ waiting. record { app = app; waiting = waiting }) (inbox_of (live_at app net))

-- the events that the step queued: their numbers are above all before
unfoldable pub got_in : Moment → List Got
got_in moment =
    filter (λ got. nat_lt moment.before.count got.waiting.number)
    (flat_map (waiting_at moment.after) (live_from 0 moment.after.hosts))

-- ## What its turn gives to send

-- what a step's turn gives to send
unfoldable pub orders_by : Setup → Net Session → Step → List Order
orders_by setup net (steps.Turn end app event now made) =
    option_map_or
    (λ live.
    option_map_or
    (λ waiting.
    (outcome_by as_session setup.config live.session (turn_of net app waiting now made end)).orders)
    (slice_get live.inbox 0) [])
    (live_at app net) []
orders_by setup net step = []

-- the same in a run
abbrev pub given_in : Setup → Moment → List Order
given_in setup moment = orders_by setup moment.before moment.step

-- ## How an application session began

-- the server transaction of the one request without To tag that a session gets
abbrev pub is_first_of : AppId → Server → Bool
is_first_of app server = is_same_app server.app app && is_none (to_tag server.request)

-- that of this session in a net, if it is kept
unfoldable pub first_server : AppId → Net Session → Option Server
first_server app net =
    option_and_then (λ host. find (is_first_of app) host.servers) (host_at app.host net)

-- as it was in the first net that has it: a session begins within a step, and lives when that has
-- ended
unfoldable pub began_with : List Moment → AppId → Option Server
began_with run app = slice_get (filter_map (λ moment. first_server app moment.after) run) 0

-- ## Whether it proxied that request

-- the options of a call that proxied and was accepted
unfoldable pub options_of : Call → CallAnswer → Option ProxyOptions
options_of (calls.ProxyTo req uris how) (answers.Refused refusal) = None
options_of (calls.ProxyTo req uris how) answer = Some how
options_of call answer = None

-- those of all such calls in a session's turn
unfoldable pub options_in : AppId → Step → List ProxyOptions
options_in app (steps.Turn end other event now made) =
    if is_same_app other app then filter_map (λ made. options_of made.call made.answer) made else []
options_in app step = []

-- the options with which a session proxied it, where it did: those of the first call that was
-- accepted
unfoldable pub proxied_with : List Moment → AppId → Option ProxyOptions
proxied_with run app = slice_get (flat_map (λ moment. options_in app moment.step) run) 0

-- the same branches and sent-bys, in the same order
unfoldable pub same_vias : List Via → List Via → Bool
same_vias a b = pointwise same_via a b
