-- The numbers under which transactions are found. Those that are looked for have the same; others
-- may have it too, which costs time alone. Transactions are matched as RFC 3261 section 17 has it;
-- the numbers are this project's own.
use Rattle.std.specs.Prelude.{ℕ, ◌+◌, ◌*◌, ◌%◌, ◌^◌, List, decimal}
use Rattle.std.specs.List.{fold}
use Rattle.std.specs.Option.{option_map_or}
use Rattle.sc_value.specs.declared.ids.AppId.{AppId}
use Rattle.sc_value.specs.declared.parts.Via.{Via}
use Rattle.sc_tokens.specs.Bytes.{Bytes}
use Rattle.sc_model.specs.Names.{counted_text}
use Rattle.sc_stages.specs.Requests.{top_via, branch_of}
use Rattle.sc_state.specs.declared.host.Client.{Client}
use Rattle.sc_state.specs.declared.host.Live.{Live}
use Rattle.sc_state.specs.declared.host.Server.{Server}

-- the number of a text with one byte more, of 64 bits
abbrev pub with_byte : ℕ → ℕ → ℕ
with_byte number byte = (((number * 1099511628211) % 2 ^ 64) + byte) % 2 ^ 64

-- of a text
unfoldable pub text_number : Bytes → ℕ
text_number text = fold with_byte 14695981039346656037 text

-- of the branch of the top Via
unfoldable pub via_number : List Via → ℕ
via_number via = option_map_or (λ via. text_number (branch_of via)) (top_via via) 0

-- of a branch of a session, by the text that names it
unfoldable pub branch_number : AppId → ℕ → ℕ
branch_number app branch = text_number (counted_text app branch)

-- of a session, by its decimal
unfoldable pub serial_number : ℕ → ℕ
serial_number serial = text_number (decimal serial)

-- of a client transaction: its session's, and that of its branch, by which a response names it
abbrev pub groups_of_client : Client → ℕ × ℕ
groups_of_client client = (client.app.serial, branch_number client.app client.branch)

-- of a server transaction: its session's, and that of its request's top Via
abbrev pub groups_of_server : Server → ℕ × ℕ
groups_of_server server = (server.app.serial, via_number server.request.head.via)

-- of a live session: that of its serial as an own URI says it, twice
abbrev pub groups_of_live : {S : Type 0} → Live S → ℕ × ℕ
groups_of_live live = (serial_number live.serial, serial_number live.serial)
