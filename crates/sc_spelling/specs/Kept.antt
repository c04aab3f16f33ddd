-- What a message keeps whose written form can be read (RFC 3261 section 25.1): each part is one of
-- its kind. The parts with structure keep the rules of their types.
use Rattle.std.specs.Prelude.{◌≡◌, ℕ, true, false, List, [], ◌∷◌, Option, None, Some, ◌≤◌, ◌<◌, ◌^◌, length, slice_get, ⊤}
use Rattle.std.specs.Option.{option_map_or}
use Rattle.sc_tokens.specs.HeaderNames.{long_name}
use Rattle.sc_tokens.specs.Tokens.{is_token, is_one_line}
use Rattle.sc_value.specs.declared.parts.Field.{Field}
use Rattle.sc_value.specs.declared.message.Head.{Head}
use Rattle.sc_value.specs.declared.message.Message.{Message}
use Rattle.sc_value.specs.declared.message.Message.TheVariants.{Request, Response}
use Rattle.sc_syntax.specs.Judging.{has_branch}
use Rattle.sc_value.specs.AddressValues.{IsUri, IsAddress}
use Rattle.sc_value.specs.ContactRules.{IsContact}
use Rattle.sc_value.specs.SequenceValues.{IsCSeq}
use Rattle.sc_value.specs.ViaValues.{IsVia}
use Rattle.sc_spelling.specs.SpelledLines.{IsValue}
use Rattle.sc_spelling.specs.SpelledHeads.{is_other, value_count}
use Rattle.sc_spelling.specs.SpelledMessages.{head_in, HasMethod}

-- each item of the list keeps it
unfoldable pub AllKeep : {X : Type 0} → (X → Type 0) → List X → Type 0
AllKeep Keeps [] = ⊤
AllKeep Keeps (x ∷ xs) = Keeps x × AllKeep Keeps xs

-- ## Parts

-- a header without structure: its name is long, and none of those with structure
abbrev pub IsField : Field → Type 0
IsField field =
    (is_token field.name ≡ true) × (long_name field.name ≡ field.name) × (is_other field ≡ true)
    × IsValue field.value

-- ## Messages

-- each part of the head keeps the rule of its kind, and the length of the body is a number of 64
-- bits
pub record IsHead (head : Head) : Type 0 where
  pub via : AllKeep IsVia head.via
  pub route : AllKeep IsAddress head.route
  pub record_route : AllKeep IsAddress head.record_route
  pub from : IsAddress head.from
  pub to : IsAddress head.to
  pub call_id : IsValue head.call_id
  pub cseq : IsCSeq head.cseq
  pub contact : AllKeep IsContact head.contact
  pub others : AllKeep IsField head.others
  pub body : length head.body < 2 ^ 64

-- the start line: Max-Forwards is at most 255, and a status code 100 to 699
unfoldable pub IsStart : Message → Type 0
IsStart (Request request) =
    (is_token request.method ≡ true) × IsUri request.uri × (request.hops ≤ 255)
IsStart (Response response) =
    (100 ≤ response.code) × (response.code ≤ 699) × (is_one_line response.reason ≡ true)

-- the message's parts are each one of their kind, and its method is that of CSeq
abbrev pub KeepsGrammar : Message → Type 0
KeepsGrammar message = IsStart message × IsHead (head_in message) × HasMethod message

-- ## What else a message needs to be read

-- there is a first Via, with its branch (RFC 3261 section 8.1.1.7)
abbrev pub HasBranch : Message → Type 0
HasBranch message = option_map_or has_branch (slice_get (head_in message).via 0) false ≡ true

-- Max-Forwards as it is written
unfoldable pub written_hops : Message → Option ℕ
written_hops (Request request) = Some request.hops
written_hops (Response response) = None

-- the values of its written form, at most 128
abbrev pub HasRoom : Message → Type 0
HasRoom message =
    value_count (head_in message) (written_hops message) (Some (length (head_in message).body)) ≤
    128
