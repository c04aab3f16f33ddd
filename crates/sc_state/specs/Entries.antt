-- The entries that are due in an application session: its expiry (JSR 289 section 6.1.2), its
-- servlet timers, and the timers of its proxies' branches (RFC 3261 section 16.8). Moments are in
-- milliseconds.
use Rattle.std.specs.Prelude.{ℕ, ◌==◌, List, [], ◌∷◌, ◌++◌, Bool, ◌&&◌, Option, None, Some, if◌then◌else◌, min}
use Rattle.std.specs.List.{flat_map, list_any}
use Rattle.sc_terms.specs.declared.views.TimerView.{TimerView}
use Rattle.sc_parts.specs.declared.timers.TimerName.{TimerName}
use Rattle.sc_parts.specs.declared.timers.TimerName.TheVariants as timers
use Rattle.sc_parts.specs.TimerNames.{same_timer}
use Rattle.sc_state.specs.declared.host.Fired.{Fired}
use Rattle.sc_state.specs.declared.proxy.Branch.{Branch}
use Rattle.sc_state.specs.declared.queue.Queued.{Queued}
use Rattle.sc_state.specs.declared.queue.Queued.TheVariants as queued
use Rattle.sc_state.specs.declared.session.Session.{Session}

-- an entry of a session: its due moment, its timer, and the event that is queued then
pub record SessionEntry : Type 0 where
  pub due : ℕ
  pub timer : TimerName
  pub event : Queued

-- the expiry of the application session, none where it never expires
unfoldable pub expiry_entry : Option ℕ → List SessionEntry
expiry_entry None = []
expiry_entry (Some due) = record { due = due; timer = timers.Expiry; event = queued.Expired } ∷ []

-- a servlet timer that is active
unfoldable pub timer_entry : TimerView → SessionEntry
timer_entry timer =
    record { due = timer.due; timer = timers.Servlet timer.id; event = queued.Timer timer.id }

-- the timer of a branch, none where it doesn't run
unfoldable pub branch_entry : Branch → List SessionEntry
branch_entry branch = entry_at branch.due
  where
    entry_at : Option ℕ → List SessionEntry
    entry_at None = []
    entry_at (Some due) =
        record {
          due = due;
          timer = timers.Branch branch.number;
          event = queued.BranchTimer branch.number due;
        } ∷ []

-- all that runs in a session
unfoldable pub entries_of : Session → List SessionEntry
entries_of session =
    expiry_entry session.view.expires
    ++ flat_map (λ timer. timer_entry timer ∷ []) session.view.timers
    ++ flat_map (λ proxy. flat_map branch_entry proxy.branches) session.known.proxies

-- the entry has had its event
unfoldable pub is_fired : List Fired → ℕ → TimerName → Bool
is_fired fired due timer = list_any (λ f. f.due == due && same_timer f.timer timer) fired

-- ## The least due moment

-- of two
abbrev pub lower : Option ℕ → Option ℕ → Option ℕ
lower None b = b
lower (Some a) None = Some a
lower (Some a) (Some b) = Some (min a b)

-- of an entry, where it hasn't had its event
abbrev pub due_of_entry : List Fired → SessionEntry → Option ℕ
due_of_entry fired entry = if is_fired fired entry.due entry.timer then None else Some entry.due

-- of those that haven't had their event
unfoldable pub least_due : List Fired → List SessionEntry → Option ℕ
least_due fired [] = None
least_due fired (entry ∷ entries) = lower (due_of_entry fired entry) (least_due fired entries)
