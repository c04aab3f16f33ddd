-- How a text was put. This project's own.
use Rattle.std.specs.Prelude.{Option}
use Rattle.sc_tokens.specs.Bytes.{Bytes}
use Rattle.sc_edge.specs.Taking.{Takes, TakesPart}
use Rattle.sc_switch.specs.declared.ran.Status.{Status}
use Rattle.sc_switch.specs.declared.ran.Status.TheVariants as statuses

-- when putting these bytes ends so, and what the sink then took of them; `write` says that its
-- count of faults rose
unfoldable pub IsPut : Type 0 → Option Bytes → Option Bytes → Bytes → Status → Type 0
IsPut write old new bytes statuses.Done = Takes old new bytes
IsPut write old new bytes statuses.NoMemory = TakesPart old new bytes
IsPut write old new bytes statuses.Write = write × TakesPart old new bytes
IsPut write old new bytes status = ⊥
