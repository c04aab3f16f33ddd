-- Lists of calls with their answers, and scripts: calls, each chosen with the answers before it.
-- Charters are said with them. Both are this project's own; the calls are those of JSR 289.
use Rattle.std.specs.Prelude.{◌≡◌, ◌<◌, ℕ, ◌^◌, List, [], ◌∷◌, Bool, true, false, Option, None, Some, Ok, Err, Result, option_map, option_and_then}
use Rattle.std.specs.List.{find, slice_get}
use Rattle.sc_value.specs.declared.ids.ReqId.{ReqId}
use Rattle.sc_value.specs.declared.parts.Uri.{Uri}
use Rattle.sc_value.specs.declared.message.Response.{Response}
use Rattle.sc_tokens.specs.Names.{same_bytes}
use Rattle.sc_terms.specs.declared.views.View.{View}
use Rattle.sc_terms.specs.declared.calls.Answer.{Answer}
use Rattle.sc_terms.specs.declared.calls.Call.{Call}
use Rattle.sc_terms.specs.declared.calls.Call.TheVariants as calls
use Rattle.sc_terms.specs.declared.calls.CallAnswer.{CallAnswer}
use Rattle.sc_terms.specs.declared.calls.CallAnswer.TheVariants as answers
use Rattle.sc_terms.specs.declared.calls.CallRecord.{CallRecord}
use Rattle.sc_terms.specs.declared.calls.Refusal.TheVariants as refusals
use Rattle.sc_state.specs.declared.working.Play.{Play}
use Rattle.sc_tokens.specs.Bytes.{Bytes}
use Rattle.sc_tokens.specs.Numbers.{number_below}
use Rattle.sc_syntax.specs.Uris.{uri_of}
use Rattle.sc_hosts.specs.RefusalParts.{MOST_CALLS}
use Rattle.sc_hosts.specs.Effects.{after_listed, answer_of, first_play}

-- ## Lists of calls

-- from here on each call has the answer that is right there
unfoldable pub IsAnsweredFrom : Play → List CallRecord → Type 0
IsAnsweredFrom play [] = Unit {0}
IsAnsweredFrom play (made ∷ later) =
    (play.listed < MOST_CALLS) × (made.answer ≡ answer_of play made.call)
    × IsAnsweredFrom (after_listed play made.call) later

-- a list of calls that a turn on this view takes
abbrev pub IsAnswered : View → List CallRecord → Type 0
IsAnswered view made = IsAnsweredFrom (first_play view) made

-- ## Scripts: calls, each chosen with the answers before it

-- a call, and what is called then by its answer; or no call
pub data Script : Type 0 where
  Done : Script
  Make : Call → (CallAnswer → Script) → Script

-- the calls that the script makes, each with its answer
unfoldable pub played_from : Play → Script → List CallRecord
played_from play Done = []
played_from play (Make call next) =
    record { call = call; answer = answer_of play call }
    ∷ played_from (after_listed play call) (next (answer_of play call))

-- the calls that the script makes of a turn on this view
abbrev pub calls_of_script : View → Script → List CallRecord
calls_of_script view script = played_from (first_play view) script

-- one call, and no more
unfoldable pub only : Call → Script
only call = Make call (λ answer. Done)

-- one call, and then these whatever it answers
unfoldable pub then_make : Call → Script → Script
then_make call script = Make call (λ answer. script)

-- the script for the number that the call gave; none where it was refused
unfoldable pub with_number : (ℕ → Script) → CallAnswer → Script
with_number next answers.Fine = Done
with_number next (answers.Number n) = next n
with_number next (answers.Refused refused) = Done

-- the script where there is something, none else
unfoldable pub where_some : {A : Type 0} → Option A → (A → Script) → Script
where_some None next = Done
where_some (Some a) next = next a

-- ## Parts

-- `respond` with this code and reason, and nothing else
unfoldable pub reply : ReqId → ℕ → Bytes → Call
reply req code reason =
    calls.Respond req
    (record { code = code; reason = reason; fields = []; contact = []; body = [] })

-- an answer like a response that came
unfoldable pub same_answer : Response → Answer
same_answer response =
    record {
      code = response.code;
      reason = response.reason;
      fields = response.head.others;
      contact = [];
      body = response.head.body;
    }

-- a decimal that fits 32 bits
unfoldable pub small_number : Bytes → Option ℕ
small_number text = number_below (2 ^ 32) text

-- the URI that a text is, if it is one
unfoldable pub readable : Bytes → Option Uri
readable text = of_result (uri_of text)
  where
    of_result : {E : Type 0} → Result Uri E → Option Uri
    of_result (Ok uri) = Some uri
    of_result (Err fault) = None

-- the parameter of the application at this place, from 0
unfoldable pub param_at : View → ℕ → Option Bytes
param_at view i = slice_get view.params i

-- the same as a URI, if it is one
unfoldable pub uri_param : View → ℕ → Option Uri
uri_param view i = option_and_then readable (param_at view i)

-- the value of an attribute, if it is set
unfoldable pub attribute : Bytes → View → Option Bytes
attribute name view =
    option_map (λ field. field.value) (find (λ field. same_bytes field.name name) view.attributes)

-- the call was refused as the request may go no further
unfoldable pub is_no_hops : CallAnswer → Bool
is_no_hops (answers.Refused refusals.NoHops) = true
is_no_hops answer = false

-- the call was refused for one of its texts
unfoldable pub is_bad_text : CallAnswer → Bool
is_bad_text (answers.Refused (refusals.BadText n)) = true
is_bad_text answer = false

-- the call was refused
unfoldable pub is_refused : CallAnswer → Bool
is_refused (answers.Refused refused) = true
is_refused answer = false
