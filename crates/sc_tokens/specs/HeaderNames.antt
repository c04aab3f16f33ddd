-- The names of the headers that the container reads or sets itself, and the compact forms of names
-- (RFC 3261 sections 7.3.3 and 20). Names compare without case.
use Rattle.std.specs.Prelude.{ℕ, List, [], ◌∷◌, Bool, ◌||◌, Option, None, Some, unwrap_or, codes, ◌==◌, if◌then◌else◌}
use Rattle.std.specs.Char.{to_ascii_lowercase}
use Rattle.sc_tokens.specs.Names.{same_name}

-- the way of a request and of its responses (RFC 3261 section 20.42)
unfoldable pub via_name : List ℕ
via_name = codes "Via"

-- the places that a request is to pass (RFC 3261 section 20.34)
unfoldable pub route_name : List ℕ
route_name = codes "Route"

-- the proxies that stay on the path of a dialog (RFC 3261 section 20.30)
unfoldable pub record_route_name : List ℕ
record_route_name = codes "Record-Route"

-- how many hops a request may still go (RFC 3261 section 20.22)
unfoldable pub max_forwards_name : List ℕ
max_forwards_name = codes "Max-Forwards"

-- who sent a request, with the caller's tag in a dialog (RFC 3261 section 20.20)
unfoldable pub from_name : List ℕ
from_name = codes "From"

-- whom a request is for, with the callee's tag in a dialog (RFC 3261 section 20.39)
unfoldable pub to_name : List ℕ
to_name = codes "To"

-- the name of a call, or of a client's registrations (RFC 3261 section 20.8)
unfoldable pub call_id_name : List ℕ
call_id_name = codes "Call-ID"

-- the number and the method of a request (RFC 3261 section 20.16)
unfoldable pub cseq_name : List ℕ
cseq_name = codes "CSeq"

-- where later requests are to go (RFC 3261 section 20.10)
unfoldable pub contact_name : List ℕ
contact_name = codes "Contact"

-- how many bytes the body has (RFC 3261 section 20.14)
unfoldable pub content_length_name : List ℕ
content_length_name = codes "Content-Length"

-- the media type of the body (RFC 3261 section 20.15)
unfoldable pub content_type_name : List ℕ
content_type_name = codes "Content-Type"

-- how the body is encoded (RFC 3261 section 20.12)
unfoldable pub content_encoding_name : List ℕ
content_encoding_name = codes "Content-Encoding"

-- what a call is about (RFC 3261 section 20.36)
unfoldable pub subject_name : List ℕ
subject_name = codes "Subject"

-- the options that a sender supports (RFC 3261 section 20.37)
unfoldable pub supported_name : List ℕ
supported_name = codes "Supported"

-- the long name of a compact one, by its letter in lower case
unfoldable pub long_of : ℕ → Option (List ℕ)
long_of letter =
    if letter == 105 then Some call_id_name
    else (if letter == 109 then Some contact_name
    else (if letter == 101 then Some content_encoding_name
    else (if letter == 108 then Some content_length_name
    else (if letter == 99 then Some content_type_name
    else (if letter == 102 then Some from_name
    else (if letter == 115 then Some subject_name
    else (if letter == 107 then Some supported_name
    else (if letter == 116 then Some to_name
    else (if letter == 118 then Some via_name
    else None)))))))))

-- the name, a compact one as its long one
unfoldable pub long_name : List ℕ → List ℕ
long_name [] = []
long_name (letter ∷ []) = unwrap_or (long_of (to_ascii_lowercase letter)) (letter ∷ [])
long_name (first ∷ second ∷ rest) = first ∷ second ∷ rest

-- the name is that of a header which names the dialog or its peers
unfoldable pub is_dialog_name : List ℕ → Bool
is_dialog_name name =
    same_name name from_name || same_name name to_name || same_name name call_id_name
    || same_name name cseq_name || same_name name contact_name

-- the name is that of a header which carries the message
unfoldable pub is_routing_name : List ℕ → Bool
is_routing_name name =
    same_name name via_name || same_name name route_name || same_name name record_route_name
    || same_name name max_forwards_name || same_name name content_length_name

-- the name, long or compact, is that of a header which the container sets itself
unfoldable pub is_system_name : List ℕ → Bool
is_system_name name = is_dialog_name (long_name name) || is_routing_name (long_name name)
