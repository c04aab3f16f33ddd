-- Time: what is due of all entries that were ever made. An entry is made, and it ends when its
-- moment came and it was taken, or before. Timers are those of RFC 3261 section 17 and JSR 289
-- section 6.1.2; their order is this project's own.
use Rattle.std.specs.Prelude.{ℕ, Bool, if◌then◌else◌, List, [], ◌∷◌, nat_le}
use Rattle.std.specs.List.{filter, list_any}
use Rattle.std.specs.declared.cmp.Ordering.{Ordering}
use Rattle.std.specs.Ordering.{nat_cmp, is_eq, on, then_cmp}
use Rattle.std.specs.BTreeSet.{insert_key}
use Rattle.sc_value.specs.declared.ids.AppId.{AppId}
use Rattle.sc_parts.specs.declared.timers.TimerName.{TimerName}
use Rattle.sc_parts.specs.TimerNames.{timer_order}

-- an entry: its due moment in milliseconds, the application session that it belongs to, and the
-- name of its timer there
pub record DueEntry : Type 0 where
  pub due : ℕ
  pub app : AppId
  pub timer : TimerName

-- by the due moment, then by the session's host and serial, then by the timer's name
abbrev pub due_order : DueEntry → DueEntry → Ordering
due_order =
    then_cmp (on (λ e. e.due) nat_cmp)
    (then_cmp (on (λ e. e.app.host) nat_cmp)
    (then_cmp (on (λ e. e.app.serial) nat_cmp) (on (λ e. e.timer) timer_order)))

-- what happens to entries
pub data DueEvent : Type 0 where
  Made : DueEntry → DueEvent
  Ended : DueEntry → DueEvent

-- the entry that an event is about
abbrev pub entry_of : DueEvent → DueEntry
entry_of (Made entry) = entry
entry_of (Ended entry) = entry

-- some of the events is about the entry
abbrev pub is_met : DueEntry → List DueEvent → Bool
is_met entry events = list_any (λ event. is_eq (due_order entry (entry_of event))) events

-- of all entries that the events made, in the order of time, those that have not ended since. One
-- that is made again after its end counts anew
unfoldable pub running : List DueEvent → List DueEntry
running [] = []
running (Made entry ∷ later) = if is_met entry later then running later else (entry ∷ running later)
running (Ended entry ∷ later) = running later

-- the entries by their order, each once
unfoldable pub in_order : List DueEntry → List DueEntry
in_order [] = []
in_order (entry ∷ entries) = insert_key due_order (in_order entries) entry

-- the moment of the entry has come
abbrev pub is_due : ℕ → DueEntry → Bool
is_due now entry = nat_le entry.due now

-- what is due at a moment: of all entries ever made those that have not ended and whose moment has
-- come, by their order
unfoldable pub due_by : List DueEvent → ℕ → List DueEntry
due_by events now = in_order (filter (is_due now) (running events))
