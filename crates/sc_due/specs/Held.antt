-- What is held: entries with what is to be done at each, by the entries' order. This project's own.
use Rattle.std.specs.Prelude.{◌≡◌, List, Option}
use Rattle.std.specs.Map.{keys_of, lookup, remove_entry}
use Rattle.std.specs.BTreeMap.{insert_entry, is_at}
use Rattle.sc_model.specs.Timers.{DueEntry, DueEvent, due_order, running, in_order}

-- entries with what is to be done at each
abbrev pub Held : Type 0 → Type 0
Held T = List (DueEntry × T)

-- what is held under a key
abbrev pub held_at : {T : Type 0} → Held T → DueEntry → Option T
held_at held key = lookup (is_at (due_order key)) held

-- with one more entry, at its place in the order
abbrev pub with_entry : {T : Type 0} → Held T → DueEntry → T → Held T
with_entry held key what = insert_entry due_order held key what

-- without the entry of a key
abbrev pub without_entry : {T : Type 0} → Held T → DueEntry → Held T
without_entry held key = remove_entry (is_at (due_order key)) held

-- the entries held are those that the events made and that have not ended since
abbrev pub IsHeldAfter : {T : Type 0} → List DueEvent → Held T → Type 0
IsHeldAfter events held = keys_of held ≡ in_order (running events)
