-- A turn that plays a script: what one call makes of it, and what the rest of the script makes.
-- This project's own.
use Rattle.std.specs.Prelude.{◌≡◌, ◌==◌, ◌++◌, ◌&&◌, not, true, false, ℕ, Option, Some, List, option_to_list, Bool, Result, Ok, Err}
use Rattle.sc_value.specs.declared.no_memory.NoMemory.{NoMemory}
use Rattle.sc_value.specs.declared.ids.ReqId.{ReqId}
use Rattle.sc_value.specs.declared.ids.SessId.{SessId}
use Rattle.sc_value.specs.declared.ids.Directive.TheVariants.{Reverse}
use Rattle.sc_value.specs.declared.parts.Field.{Field}
use Rattle.sc_value.specs.declared.parts.Uri.{Uri}
use Rattle.sc_tokens.specs.Names.{same_bytes}
use Rattle.sc_terms.specs.declared.views.RequestView.{RequestView}
use Rattle.sc_terms.specs.declared.calls.Call.{Call}
use Rattle.sc_terms.specs.declared.calls.Call.TheVariants as calls
use Rattle.sc_terms.specs.declared.calls.CallAnswer.{CallAnswer}
use Rattle.sc_terms.specs.declared.calls.CallAnswer.TheVariants.{Refused}
use Rattle.sc_terms.specs.declared.calls.End.{End}
use Rattle.sc_terms.specs.declared.calls.End.TheVariants as ends
use Rattle.sc_terms.specs.declared.calls.Refusal.{Refusal}
use Rattle.sc_terms.specs.declared.calls.Refusal.TheVariants as refusals
use Rattle.sc_tokens.specs.Bytes.{Bytes}
use Rattle.sc_hosts.specs.Scripting.{Make, Script, only, played_from, readable, then_make, where_some, with_number}
use Rattle.sc_hosts.specs.Charters.{dial_ask}
use Rattle.sc_hosts.specs.Effects.{answer_of}
use Rattle.sc_turn.specs.Working.{Working, play_of, after_made}

-- the call is listed, and this is its answer
unfoldable pub IsMade : Call → Working → CallAnswer → Working → Type 0
IsMade call old answer new = (new ≡ after_made call old) × (answer ≡ answer_of (play_of old) call)

-- what a refused call answers, unless memory was wanting
unfoldable pub IsTold : Refusal → Result CallAnswer NoMemory → Type 0
IsTold refused (Ok answer) = (answer ≡ Refused refused) × (refused ≡ refusals.NoMemory → ⊥)
IsTold refused (Err e) = Unit {0}

-- the calls of the script are listed, begun where the turn stood
unfoldable pub IsPlayed : Script → Working → Working → Type 0
IsPlayed script old new = new.calls ≡ old.calls ++ played_from (play_of old) script

-- the attribute has this name
abbrev pub is_field : Bytes → Field → Bool
is_field name field = same_bytes field.name name

-- the URI that a text is, as a list of one or none
unfoldable pub uris_of : Bytes → List Uri
uris_of text = option_to_list (readable text)

-- a request of one's own, where there are both URIs
unfoldable pub dial_to : Uri → Option Uri → Script
dial_to from to =
    where_some to
    (λ to.
    Make (calls.CreateRequest (dial_ask from to))
    (with_number (λ draft. only (calls.Send draft))))

-- the same, where there is the first of them
unfoldable pub dial_from : Option Uri → Option Uri → Script
dial_from from to = where_some from (λ from. dial_to from to)

-- what comes before the second leg is sent: where the region is reversed, that the router is asked
-- for the other
unfoldable pub before : Bool → ReqId → ℕ → Script → Script
before false = λ req draft script. script
before true = λ req draft script. then_make (calls.SetDirective draft Reverse (Some req)) script

-- the request began this SipSession, and was sent
abbrev pub is_first_of : SessId → RequestView → Bool
is_first_of sess request = request.initial && not request.received && request.sess.0 == sess.0

-- how a turn ends
unfoldable pub end_of_script : Result (Unit {0}) NoMemory → End
end_of_script (Ok played) = ends.Fine
end_of_script (Err e) = ends.Starved
