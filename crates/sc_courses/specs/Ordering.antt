-- Which orders become withdrawals: those that name a session which lives in the epoch that runs
-- then. This project's own.
use Rattle.std.specs.Prelude.{◌≡◌, ◌&&◌, ◌⊎◌, ◌++◌, Bool, List, [], ◌∷◌, Option, None, Some, if◌then◌else◌, nat_eq}
use Rattle.std.specs.List.{flat_map}
use Rattle.std.specs.Option.{is_some}
use Rattle.sc_value.specs.declared.ids.AppId.{AppId}
use Rattle.sc_terms.specs.declared.steps.Step.{Step}
use Rattle.sc_terms.specs.declared.steps.Step.TheVariants as steps
use Rattle.sc_parts.specs.declared.setup.Setup.{Setup}
use Rattle.sc_edge.specs.declared.orders.Order.{Order}
use Rattle.sc_hosts.specs.Histories.{as_session}
use Rattle.sc_hosts.specs.Runs.{Epoch, net_of}
use Rattle.sc_hosts.specs.Steps.{live_at}

-- ## How far a run came

-- the epochs that ended, and the one that runs
pub record Point : Type 0 where
  pub ended : List Epoch
  pub running : Epoch

-- where a run begins
abbrev pub beginning_point : Point
beginning_point = record { ended = []; running = record { number = 0; began = 0; journal = [] } }

-- all epochs until then, the one that runs the last
abbrev pub epochs_of : Point → List Epoch
epochs_of point = point.ended ++ point.running ∷ []

-- the epoch with more steps at the end of its journal
abbrev pub with_steps : Epoch → List Step → Epoch
with_steps epoch more = record epoch { journal = epoch.journal ++ more }

-- the same run came on from the first point to the second: by steps of the epoch that ran, or that
-- one ended and later ones too
unfoldable pub ComesOn : Point → Point → Type 0
ComesOn earlier later =
    ((more : List Step) × (later.ended ≡ earlier.ended)
    × (later.running ≡ with_steps earlier.running more))
    ⊎ ((more : List Step) × (between : List Epoch)
    × (later.ended ≡ earlier.ended ++ with_steps earlier.running more ∷ between))

-- ## What is withdrawn

-- the session that a step withdraws
abbrev pub withdrawn_by : Step → List AppId
withdrawn_by (steps.In from message) = []
withdrawn_by (steps.Bad from bad) = []
withdrawn_by (steps.Lost at) = []
withdrawn_by (steps.Tick now) = []
withdrawn_by (steps.Turn end app event now calls) = []
withdrawn_by (steps.Withdraw app) = app ∷ []

-- the sessions that were withdrawn, epoch by epoch
unfoldable pub withdrawn : List Epoch → List AppId
withdrawn epochs = flat_map (λ (epoch : Epoch). flat_map withdrawn_by epoch.journal) epochs

-- between the two points no session was withdrawn
pub record IsQuiet (earlier later : Point) : Type 0 where
  pub comes : ComesOn earlier later
  pub none : withdrawn (epochs_of later) ≡ withdrawn (epochs_of earlier)

-- the order to withdraw this session in this epoch
abbrev pub order_in : Epoch → AppId → Order
order_in epoch app = record { epoch = epoch.number; app = app }

-- the order names the epoch that runs at this point, and a session that lives there
unfoldable pub is_for : Setup → Point → Order → Bool
is_for setup point order =
    nat_eq order.epoch point.running.number
    && is_some (live_at order.app (net_of as_session setup point.running))

-- the point after it: its session's withdrawal is the next step, or none is
unfoldable pub after_order : Setup → Point → Order → Point
after_order setup point order =
    if is_for setup point order
    then record point { running = with_steps point.running (steps.Withdraw order.app ∷ []) }
    else point

-- from the first point to the second the run withdrew what these answers ordered, one after the
-- other, and no other session
unfoldable pub Obeys : Setup → Point → List (Option Order) → Point → Type 0
Obeys setup earlier [] later = IsQuiet earlier later
Obeys setup earlier (None ∷ answers) later = Obeys setup earlier answers later
Obeys setup earlier (Some order ∷ answers) later =
    (point : Point) × IsQuiet earlier point
    × Obeys setup (after_order setup point order) answers later

-- the same, but for the last answer
unfoldable pub ObeysPart : Setup → Point → List (Option Order) → Point → Type 0
ObeysPart setup earlier answers later =
    Obeys setup earlier answers later
    ⊎ ((before : List (Option Order)) × (last : Option Order) × (answers ≡ before ++ last ∷ [])
    × Obeys setup earlier before later)
