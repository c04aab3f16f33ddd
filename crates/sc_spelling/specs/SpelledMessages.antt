-- Which texts spell a message (RFC 3261 sections 7 and 25.1): a start line, header lines, an empty
-- line and a body.
use Rattle.std.specs.Prelude.{◌≡◌, ℕ, true, false, List, ◌++◌, Option, ◌≤◌, length, slice_get, unwrap_or, ⊤}
use Rattle.std.specs.Option.{option_map_or}
use Rattle.sc_value.specs.declared.parts.Field.{Field}
use Rattle.sc_value.specs.declared.message.Head.{Head}
use Rattle.sc_value.specs.declared.message.Message.{Message}
use Rattle.sc_value.specs.declared.message.Message.TheVariants.{Request, Response}
use Rattle.sc_tokens.specs.Bytes.{Bytes}
use Rattle.sc_syntax.specs.Judging.{has_branch}
use Rattle.sc_spelling.specs.SpelledLines.{AreLinesSpelled, line_end_before}
use Rattle.sc_spelling.specs.SpelledStarts.{IsStartSpelled}
use Rattle.sc_spelling.specs.SpelledHeads.{AreFieldsOf, value_count}

-- the head of a message
unfoldable pub head_in : Message → Head
head_in (Request request) = request.head
head_in (Response response) = response.head

-- the method is that of CSeq (RFC 3261 section 8.1.1.5)
unfoldable pub HasMethod : Message → Type 0
HasMethod (Request request) = request.method ≡ request.head.cseq.method
HasMethod (Response response) = ⊤

-- Max-Forwards is the request's, and 70 where there is none; that of a response is dropped
unfoldable pub HasHops : Option ℕ → Message → Type 0
HasHops hops (Request request) = request.hops ≡ unwrap_or hops 70
HasHops hops (Response response) = ⊤

-- the start line, the fields and the body are those of the message
pub record IsSpelledBy (start : Bytes) (fields : List Field) (body : Bytes)
    (message : Message) : Type 0 where
  -- Max-Forwards and Content-Length, where they stand
  pub hops : Option ℕ
  pub len : Option ℕ
  pub begins : IsStartSpelled start message
  pub headers : AreFieldsOf fields (head_in message) hops len
  pub ends : (head_in message).body ≡ body
  pub has_hops : HasHops hops message
  pub has_method : HasMethod message
  -- Content-Length is that of the body, and a body without it is empty
  pub fits : length body ≡ unwrap_or len 0
  -- there is a first Via, with its branch
  pub branched : option_map_or has_branch (slice_get (head_in message).via 0) false ≡ true
  pub room : value_count (head_in message) hops len ≤ 128

-- the text spells the message: its lines each have their CR LF, and so has the empty line
abbrev pub IsSpelled : Bytes → Message → Type 0
IsSpelled text message =
    (start lines body : Bytes) × (fields : List Field) × AreLinesSpelled lines fields
    × IsSpelledBy start fields body message
    × (text ≡ start ++ line_end_before (lines ++ line_end_before body))
