-- The script of n calls that is made to load a container: each call is set up, answered by a timer,
-- acknowledged and ended, and the clock goes two seconds on. The messages of a call are those of a
-- caller `m` at 127.0.0.1:5090 and a container that listens at 127.0.0.1:5060 with the salt `s1`.
-- This project's own.
use Rattle.std.specs.Prelude.{ℕ, ◌-◌, ◌*◌, List, [], ◌∷◌, ◌++◌, Option, None, Some, codes, decimal, length}
use Rattle.std.specs.List.{flat_map, range_with_len}
use Rattle.sc_value.specs.declared.parts.Address.{Address}
use Rattle.sc_value.specs.declared.parts.Contact.{Contact}
use Rattle.sc_value.specs.declared.parts.Contact.TheVariants.{At}
use Rattle.sc_value.specs.declared.parts.Param.{Param}
use Rattle.sc_value.specs.declared.parts.Uri.{Uri}
use Rattle.sc_value.specs.declared.parts.Uri.TheVariants.{Sip}
use Rattle.sc_value.specs.declared.parts.Via.{Via}
use Rattle.sc_value.specs.declared.message.Head.{Head}
use Rattle.sc_value.specs.declared.message.Request.{Request}
use Rattle.sc_value.specs.declared.message.Message.TheVariants as messages
use Rattle.sc_tokens.specs.Bytes.{Bytes}
use Rattle.sc_tokens.specs.Signs.{line_feed}
use Rattle.sc_grammar.specs.Written.{text_of_message}
use Rattle.sc_model.specs.SessionStates.{ack, bye, invite}
use Rattle.sc_value.specs.Params.{tag_name, branch_name}
use Rattle.sc_model.specs.Names.{loose_param, tcp_param}

-- ## The names in it

-- the domain of both users
unfoldable pub home : Bytes
home = codes "home.test"

-- the host of both the caller and the container
unfoldable pub local : Bytes
local = codes "127.0.0.1"

-- the calling user; the tag of From too
unfoldable pub caller : Bytes
caller = codes "m"

-- the called user
unfoldable pub called_user : Bytes
called_user = codes "u"

-- `name=value`
unfoldable pub name_and_value : Bytes → Bytes → Param
name_and_value name value = record { name = name; value = Some value }

-- `h-i`, the i-th session of host h
unfoldable pub session_text : ℕ → ℕ → Bytes
session_text host i = decimal host ++ codes "-" ++ decimal i

-- `sip:user@host:port`
unfoldable pub user_uri : Bytes → Bytes → Option ℕ → Uri
user_uri user host port =
    Sip (record { user = Some user; host = host; port = port; params = []; headers = None })

-- the parameter `ap=h-i`, which names a session in an own URI
unfoldable pub session_param : ℕ → ℕ → Param
session_param host i = name_and_value (codes "ap") (session_text host i)

-- `sip:127.0.0.1:5060;transport=tcp;lr;ap=h-i`, the route and contact of a session
unfoldable pub session_uri : ℕ → ℕ → Uri
session_uri host i = Sip (record {
  user = None;
  host = local;
  port = Some 5060;
  params = tcp_param ∷ loose_param ∷ session_param host i ∷ [];
  headers = None;
})

-- what each tag of host 1 begins with: the salt and the host's number
unfoldable pub mark : Bytes
mark = codes "s1-1-"

-- `s1-1-i-1`, the tag that host 1 gives
unfoldable pub answer_tag : ℕ → Bytes
answer_tag i = mark ++ decimal i ++ codes "-1"

-- what each branch of the caller begins with (RFC 3261 section 8.1.1.7)
unfoldable pub cookie : Bytes
cookie = codes "z9hG4bKm"

-- `z9hG4bKm` and i, and for ACK and BYE a letter
unfoldable pub branch_of : ℕ → Bytes → Bytes
branch_of i letter = cookie ++ decimal i ++ letter

-- `m` and i
unfoldable pub call_of : ℕ → Bytes
call_of i = caller ++ decimal i

-- ## The messages of call i

-- the caller's Via in call i: over TCP from port 5090, with the branch of i and the letter
unfoldable pub via_of : ℕ → Bytes → Via
via_of i letter =
    record {
      transport = codes "TCP";
      host = local;
      port = Some 5090;
      params = name_and_value branch_name (branch_of i letter) ∷ [];
    }

-- `<sip:m@home.test>;tag=m`
unfoldable pub from_side : Address
from_side =
    record {
      display = None;
      uri = user_uri caller home None;
      params = name_and_value tag_name caller ∷ [];
    }

-- `<sip:u@home.test>`
unfoldable pub to_side : Address
to_side = record { display = None; uri = user_uri called_user home None; params = [] }

-- the same with the tag of the answer
unfoldable pub answered_side : ℕ → Address
answered_side i =
    record {
      display = None;
      uri = user_uri called_user home None;
      params = name_and_value tag_name (answer_tag i) ∷ [];
    }

-- `<sip:m@127.0.0.1:5090>`
unfoldable pub caller_contact : Contact
caller_contact =
    At (record { display = None; uri = user_uri caller local (Some 5090); params = [] })

-- the route of host 0, which stays on the way
unfoldable pub route_of : ℕ → Address
route_of i = record { display = None; uri = session_uri 0 i; params = [] }

-- the head of the caller's messages in call i, with no further headers and no body
unfoldable pub head_of : ℕ → Bytes → Bytes → ℕ → Address → List Address → List Contact → Head
head_of i letter method number to route contact = record {
  via = via_of i letter ∷ [];
  route = route;
  record_route = [];
  from = from_side;
  to = to;
  call_id = call_of i;
  cseq = record { number = number; method = method };
  contact = contact;
  others = [];
  body = [];
}

-- the INVITE, to the called user at its domain
unfoldable pub invite_of : ℕ → Request
invite_of i =
    record {
      method = invite;
      uri = user_uri called_user home None;
      hops = 70;
      head = head_of i [] invite 1 to_side [] (caller_contact ∷ []);
    }

-- a request after the answer: to the session of host 1, by that of host 0
unfoldable pub later_of : ℕ → Bytes → Bytes → ℕ → Request
later_of i letter method number = record {
  method = method;
  uri = session_uri 1 i;
  hops = 70;
  head = head_of i letter method number (answered_side i) (route_of i ∷ []) [];
}

-- the ACK to the 2xx, with the number of the INVITE and a branch of its own (RFC 3261 section
-- 13.2.2.4)
unfoldable pub ack_of : ℕ → Request
ack_of i = later_of i (codes "a") ack 1

-- the BYE that ends the call, numbered one above the INVITE
unfoldable pub bye_of : ℕ → Request
bye_of i = later_of i (codes "b") bye 2

-- ## The lines

-- the front of a line `in` for connection 1; the size follows
unfoldable pub in_word : Bytes
in_word = codes "in c1 "

-- the line after which turns are taken until none is left
unfoldable pub run_line : Bytes
run_line = codes "run\n"

-- the last line of a script
unfoldable pub end_line : Bytes
end_line = codes "end\n"

-- the front of a line `tick`; the moment follows
unfoldable pub tick_word : Bytes
tick_word = codes "tick "

-- time goes on to this moment, in milliseconds
unfoldable pub tick_line : ℕ → Bytes
tick_line now = tick_word ++ decimal now ++ line_feed ∷ []

-- these bytes come on connection 1
unfoldable pub arriving_text : Bytes → Bytes
arriving_text text = in_word ++ decimal (length text) ++ line_feed ∷ [] ++ text ++ line_feed ∷ []

-- this message comes on connection 1, and turns are taken
unfoldable pub arrives : Request → Bytes
arrives request = arriving_text (text_of_message (messages.Request request)) ++ run_line

-- call i: it arrives, is answered when its timer is due, is acknowledged and ended, and the clock
-- goes on
unfoldable pub call_text : ℕ → Bytes
call_text i =
    arrives (invite_of i) ++ (tick_line (2000 * i - 1000) ++ run_line) ++ arrives (ack_of i)
    ++ arrives (bye_of i) ++ tick_line (2000 * i)

-- the calls 1 to n, and `end`
unfoldable pub generated_text : ℕ → Bytes
generated_text n = flat_map call_text (range_with_len 1 n) ++ end_line
