-- The parts of a message by which its transaction is known (RFC 3261 sections 17.1.3 and 17.2.3).
use Rattle.std.specs.Prelude.{List, [], Option, unwrap_or, slice_get}
use Rattle.sc_value.specs.declared.parts.Via.{Via}
use Rattle.sc_value.specs.declared.message.Request.{Request}
use Rattle.sc_value.specs.Params.{param_value, branch_name}
use Rattle.sc_tokens.specs.Bytes.{Bytes}

-- the top Via and its branch
abbrev pub top_via : List Via → Option Via
top_via via = slice_get via 0

-- the branch of a Via, empty where it has none (RFC 3261 section 8.1.1.7)
abbrev pub branch_of : Via → Bytes
branch_of via = unwrap_or (param_value branch_name via.params) []

-- the method of a request, as its CSeq tells it: the same (RFC 3261 section 8.1.1.5)
abbrev pub method_of : Request → Bytes
method_of request = request.head.cseq.method
