-- How the program ends: its exit status, and the line that it writes on standard error. Both are
-- this project's own.
use Rattle.std.specs.Prelude.{ℕ, [], ◌∷◌, ◌++◌, codes, decimal}
use Rattle.sc_tokens.specs.Bytes.{Bytes}
use Rattle.sc_switch.specs.declared.ran.Status.{Status}
use Rattle.sc_switch.specs.declared.ran.Status.TheVariants as statuses
use Rattle.sc_tokens.specs.Signs.{line_feed}

-- the exit status of the process
unfoldable pub exit_status : Status → ℕ
exit_status statuses.Done = 0
exit_status statuses.Usage = 2
exit_status (statuses.Config kind key) = 3
exit_status (statuses.Dar line kind) = 4
exit_status statuses.JournalFull = 5
exit_status statuses.Edge = 6
exit_status statuses.NoMemory = 7
exit_status (statuses.Script at kind) = 8
exit_status statuses.Read = 9
exit_status statuses.Write = 10

-- before the kind of a refused configuration's fault and the key
unfoldable pub config_word : Bytes
config_word = codes "config "

-- before the line of a refused routing table and the kind of its fault
unfoldable pub dar_word : Bytes
dar_word = codes "dar "

-- before the place of a refused script's fault and its kind
unfoldable pub script_word : Bytes
script_word = codes "script "

-- what follows `sipd: `
unfoldable pub cause_text : Status → Bytes
cause_text statuses.Done = []
cause_text statuses.Usage = codes "usage"
cause_text (statuses.Config kind key) = config_word ++ decimal kind ++ codes " " ++ key
cause_text (statuses.Dar line kind) = dar_word ++ decimal line ++ codes " " ++ decimal kind
cause_text statuses.JournalFull = codes "journal full"
cause_text statuses.Edge = codes "edge"
cause_text statuses.NoMemory = codes "no memory"
cause_text (statuses.Script at kind) = script_word ++ decimal at ++ codes " " ++ decimal kind
cause_text statuses.Read = codes "read"
cause_text statuses.Write = codes "write"

-- the front of the line
unfoldable pub program_word : Bytes
program_word = codes "sipd: "

-- the line, none where all was done
unfoldable pub line_text : Status → Bytes
line_text statuses.Done = []
line_text status = program_word ++ cause_text status ++ line_feed ∷ []
