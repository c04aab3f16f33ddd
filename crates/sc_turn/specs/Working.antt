-- What a turn holds, and what a call makes of it. Calls are those of JSR 289 section 6; how a turn
-- holds them is this project's own.
use Rattle.std.specs.Prelude.{◌≡◌, List, [], ◌∷◌, ◌++◌, Bool, true, false, None, Some, Result, Ok, Err, nat_le, if◌then◌else◌}
use Rattle.sc_terms.specs.declared.views.View.{View}
use Rattle.sc_terms.specs.declared.calls.Call.{Call}
use Rattle.sc_terms.specs.declared.calls.CallAnswer.{CallAnswer}
use Rattle.sc_terms.specs.declared.calls.CallRecord.{CallRecord}
use Rattle.sc_terms.specs.declared.calls.End.{End}
use Rattle.sc_terms.specs.declared.calls.End.TheVariants as ends
use Rattle.sc_terms.specs.declared.calls.Refusal.{Refusal}
use Rattle.sc_terms.specs.declared.calls.Refusal.TheVariants.{NoMemory}
use Rattle.sc_state.specs.declared.working.Play.{Play}
use Rattle.sc_hosts.specs.Scripting.{IsAnswered}
use Rattle.sc_hosts.specs.Effects.{after_calls, answer_of, answer_to_call}
use Rattle.sc_hosts.specs.RefusalParts.{MOST_CALLS}
use Rattle.sc_hosts.specs.Refusals.{refusal}

-- a turn in the hands of a servlet or a listener
pub record Working : Type 0 where
  -- the view that it was shown
  pub shown : View
  -- its calls in order, each with its answer
  pub calls : List CallRecord
  -- whether a call wanted memory
  pub starved : Bool

-- what the calls have made of the view and the drafts
unfoldable pub play_of : Working → Play
play_of turn = after_calls turn.shown turn.calls

-- each listed call has the answer that is right; and unless memory was wanting, what is kept is
-- what the calls left
pub record IsWorking (shown : View) (play : Play) (calls : List CallRecord)
    (starved : Bool) : Type 0 where
  pub answered : IsAnswered shown calls
  pub play_is : starved ≡ false → play ≡ after_calls shown calls

-- a call with its answer
unfoldable pub record_of : Play → Call → CallRecord
record_of play call = record { call = call; answer = answer_of play call }

-- the turn after a call, which is listed with its answer
unfoldable pub after_made : Call → Working → Working
after_made call turn = record turn { calls = turn.calls ++ record_of (play_of turn) call ∷ [] }

-- after a call that was refused: it is listed, unless the list is full
unfoldable pub after_refused : Call → Working → Working
after_refused call turn =
    if nat_le MOST_CALLS (play_of turn).listed then turn else after_made call turn

-- after a call that wanted memory
unfoldable pub after_starved : Working → Working
after_starved turn = record turn { starved = true }

-- a call was refused, or wanted memory
unfoldable pub IsRefused : Call → Working → Refusal → Working → Type 0
IsRefused call old refused new =
    (new.starved ≡ false
    → (refusal (play_of old) call ≡ Some refused) × (new ≡ after_refused call old))
    × (new.starved ≡ true → (refused ≡ NoMemory) × (new ≡ after_starved old))

-- a call was accepted, and answered this
unfoldable pub IsAccepted : Call → Working → CallAnswer → Working → Type 0
IsAccepted call old answer new =
    (old.starved ≡ false) × (refusal (play_of old) call ≡ None)
    × (answer ≡ answer_to_call (play_of old) call) × (new ≡ after_made call old)

-- what a call answered, and what it left of the turn
unfoldable pub Answers : {X : Type 0} → (X → CallAnswer) → Call → Working → Result X Refusal
    → Working → Type 0
Answers make call old (Ok x) new = IsAccepted call old (make x) new
Answers make call old (Err refused) new = IsRefused call old refused new

-- how a turn ends that its servlet or listener ended so
unfoldable pub end_of : Bool → End → End
end_of starved end = if starved then ends.Starved else end
