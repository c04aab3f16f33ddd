-- Which places each answer of an edge gives up, as the code does it.
use Rattle.std.proofs.Common.{◌≡◌, ℕ, Bool, true, false, List, [], ◌∷◌, ◌++◌, refl, sym, ◌∙◌, subst, inl, inr, if◌then◌else◌}
use Rattle.std.specs.Prelude.{drop, Result, Ok, Err, IfOk}
use Rattle.sc_tokens.specs.Bytes.{Bytes}
use Rattle.sc_value.specs.declared.ids.Place.{Place}
use Rattle.sc_value.specs.declared.message.Message.{Message}
use Rattle.sc_value.specs.Places.{same_place}
use Rattle.sc_value.proofs.PlaceLaws.{same_place-self}
use Rattle.sc_terms.specs.declared.steps.Bad.{Bad}
use Rattle.sc_terms.specs.declared.steps.Step.TheVariants as steps
use Rattle.sc_syntax.specs.declared.front.Front.TheVariants as fronts
use Rattle.sc_syntax.specs.Fronts.{behind_breaks}
use Rattle.sc_stream.specs.Frames.{front_behind}
use Rattle.sc_stream.specs.Hearing.{Hears as HearsNext}
use Rattle.sc_stream.specs.declared.streams.Heard.{Heard}
use Rattle.sc_stream.specs.declared.streams.Heard.TheVariants as heard
use Rattle.sc_edge.specs.Edges.{EdgeState, polled_of}
use Rattle.sc_edge.specs.EdgeCalls.{is_end}
use Rattle.sc_edge.specs.declared.edge.Got.{Got}
use Rattle.sc_edge.specs.declared.edge.Got.TheVariants as got
use Rattle.sc_edge.specs.declared.edge.Polled.TheVariants as answers
use Rattle.sc_edge.specs.declared.edge.Put.{Put}
use Rattle.sc_edge.specs.declared.edge.Put.TheVariants as put
use Rattle.sc_runs.specs.Following.{IsKept, Streams}
use Rattle.sc_runs.specs.Heard.{Makes}
use Rattle.sc_runs.specs.Hearing.{Hears, IsBad}
use Rattle.sc_outs.specs.Owing.{Owing, Tried}
use Rattle.sc_outs.specs.Stretches.{is_lost}
use Rattle.sc_courses.proofs.HeardLaws.{notes_of, all-same}
use Rattle.sc_courses.proofs.OnLaws.{kept_here}
use Rattle.sc_rounds.specs.declared.polling.Came.{Came}
use Rattle.sc_rounds.specs.declared.polling.Came.TheVariants as came
use Rattle.sc_rounds.specs.GivingUp.{GivesUp, HearsFrom, HearsOne, HearsOut, broken_by, given_up, losses, place_if}
use Rattle.sc_rounds.specs.Polling.{GivesOn, Polls}
use Rattle.sc_rounds.proofs.Servings.{comes_of}
use Rattle.sc_rounds.proofs.GivingUps.{bad-before}

-- ## What is kept

kept-by : (before mid after bytes rest : Bytes) (same : Bool) → mid ≡ (if same then bytes else before) → after ≡ (if same then rest else mid) → after ≡ (if same then rest else before)
kept-by before mid after bytes rest true first later = later
kept-by before mid after bytes rest false first later = later ∙ first

-- of one place, and then of it again
kept-then : (before mid after : Streams) (place : Place) (bytes rest : Bytes) → IsKept before place bytes mid → IsKept mid place rest after → IsKept before place rest after
unfolding IsKept
kept-then before mid after place bytes rest first later other = kept-by (before other) (mid other) (after other) bytes rest (same_place other place) (first other) (later other)

-- ## One message, or the last

bad-losses : (place : Place) (bad : Bad) → losses place (steps.Bad place bad ∷ steps.Lost place ∷ []) ≡ place ∷ []
unfolding is_lost
bad-losses place bad = rw (same_place-self place) refl

long-losses : (place : Place) → losses place (steps.Lost place ∷ []) ≡ place ∷ []
unfolding is_lost
long-losses place = rw (same_place-self place) refl

open-out : (place : Place) (kept after : Streams) → front_behind (kept place) ≡ fronts.Open → after place ≡ kept place → IsKept kept place (after place) after → HearsOut place kept [] after
unfolding HearsOut Hears
open-out place kept after front same still = ([], after place, (front, same), still, refl)

bad-out : (place : Place) (kept after : Streams) (bad : Bad) → IsBad (kept place) bad → IsKept kept place [] after → HearsOut place kept (place ∷ []) after
unfolding HearsOut Hears
bad-out place kept after bad is still = (steps.Bad place bad ∷ steps.Lost place ∷ [], [], (refl, refl, is, refl), still, sym (bad-losses place bad))

long-out : (place : Place) (kept after : Streams) → front_behind (kept place) ≡ fronts.Long → IsKept kept place [] after → HearsOut place kept (place ∷ []) after
unfolding HearsOut Hears
long-out place kept after front still = (steps.Lost place ∷ [], [], (refl, front, refl), still, sym (long-losses place))

message-from : (place : Place) (kept after : Streams) (message : Message) (len : ℕ) → front_behind (kept place) ≡ fronts.Whole len message → after place ≡ drop len (behind_breaks (kept place)) → IsKept kept place (after place) after → HearsFrom place kept after
unfolding HearsFrom HearsOut Hears is_lost
message-from place kept after message len front rest still places later (made, left, hears, is, all) = (
  steps.In place message ∷ made,
  left,
  (len, refl, front, subst (λ (bytes : Bytes). Hears place bytes made left) rest hears),
  kept-then kept after later place (after place) left still is,
  all,
)

pub message_one : {E : Type 0} (r : Result Bool E) (place : Place) (kept after : Streams) (broken : Bool) (message : Message) (h : Heard) → h ≡ heard.Message message → HearsNext h (kept place) (after place) → IsKept kept place (after place) after
    → IfOk r (λ more. more ≡ true) → broken ≡ false → IfOk r (λ more. HearsOne place kept broken after more)
unfolding HearsOne
message_one (Ok more) place kept after broken message h is hears still whole none =
    let (len, front, rest) = rw is at hears in rw whole (none, message-from place kept after message len front rest still)
message_one (Err cause) place kept after broken message h is hears still whole none = tt

pub open_one : (place : Place) (kept after : Streams) (broken : Bool) (h : Heard) → h ≡ heard.NotYet → HearsNext h (kept place) (after place) → IsKept kept place (after place) after → broken ≡ false → HearsOne place kept broken after false
unfolding HearsOne
open_one place kept after broken h is hears still none =
    let (front, same) = rw is at hears in rw none (open-out place kept after front same still)

pub bad_one : {E : Type 0} (r : Result Bool E) (place : Place) (kept mid after : Streams) (bad : Bad) (h : Heard) → h ≡ heard.Bad bad → HearsNext h (kept place) (mid place) → IsKept kept place (mid place) mid → IsKept mid place [] after
    → IfOk r (λ more. more ≡ false) → IfOk r (λ more. HearsOne place kept true after more)
unfolding HearsOne
bad_one (Ok more) place kept mid after bad h is hears still emptied last =
    let next : HearsNext (heard.Bad bad) (kept place) (mid place) = rw is at hears in
    rw last (bad-out place kept after bad (bad-before bad (kept place) (mid place) next) (kept-then kept mid after place (mid place) [] still emptied))
bad_one (Err cause) place kept mid after bad h is hears still emptied last = tt

pub long_one : {E : Type 0} (r : Result Bool E) (place : Place) (kept mid after : Streams) (h : Heard) → h ≡ heard.Long → HearsNext h (kept place) (mid place) → IsKept kept place (mid place) mid → IsKept mid place [] after
    → IfOk r (λ more. more ≡ false) → IfOk r (λ more. HearsOne place kept true after more)
unfolding HearsOne
long_one (Ok more) place kept mid after h is hears still emptied last =
    let (front, same) = rw is at hears in rw last (long-out place kept after front (kept-then kept mid after place (mid place) [] still emptied))
long_one (Err cause) place kept mid after h is hears still emptied last = tt

-- ## As the loop goes on

pub from_here : (place : Place) (kept : Streams) → HearsFrom place kept kept
unfolding HearsFrom
from_here place kept places later out = out

pub from_then : (place : Place) (kept mid after : Streams) (broken more : Bool) → HearsOne place mid broken after more → more ≡ true → HearsFrom place kept mid → (broken ≡ false) × HearsFrom place kept after
unfolding HearsOne HearsFrom
from_then place kept mid after broken true (none, one) e first = (none, λ places later out. first places later (one places later out))
from_then place kept mid after broken false one e first = cc

pub out_then : (place : Place) (kept mid after : Streams) (broken more : Bool) → HearsOne place mid broken after more → more ≡ false → HearsFrom place kept mid → HearsOut place kept (place_if broken place) after
unfolding HearsOne HearsFrom
out_then place kept mid after broken true one e first = cc
out_then place kept mid after broken false one e first = first (place_if broken place) after one

-- ## What an answer came to

pub came_out : (place : Place) (kept after : Streams) (broken : Bool) (c : Came) → c ≡ (if broken then came.Broken place else came.Bytes place) → HearsOut place kept (place_if broken place) after → HearsOut place kept (broken_by c) after
came_out place kept after true c e out = subst (λ (x : Came). HearsOut place kept (broken_by x) after) (sym e) out
came_out place kept after false c e out = subst (λ (x : Came). HearsOut place kept (broken_by x) after) (sym e) out

bytes-give : (place : Place) (kept mid after : Streams) (text : Bytes) (places : List Place) → IsKept kept place (kept place ++ text) mid → HearsOut place mid places after → GivesUp kept (answers.Bytes place text) places after
unfolding GivesUp HearsOut Makes given_up
bytes-give place kept mid after text places fed (made, rest, hears, still, all) = (
  made,
  (
    rest,
    subst (λ (bytes : Bytes). Hears place bytes made rest) (kept_here kept place (kept place ++ text) mid fed) hears,
    kept-then kept mid after place (kept place ++ text) rest fed still,
  ),
  all,
)

pub bytes_give : {E : Type 0} (r : Result Came E) (place : Place) (kept mid after : Streams) (text : Bytes) → IsKept kept place (kept place ++ text) mid → IfOk r (λ c. HearsOut place mid (broken_by c) after)
    → IfOk r (λ c. GivesUp kept (answers.Bytes place text) (broken_by c) after)
bytes_give (Ok c) place kept mid after text fed out = bytes-give place kept mid after text (broken_by c) fed out
bytes_give (Err cause) place kept mid after text fed out = tt

pub end_gives : (at : Place) (kept after : Streams) → IsKept kept at [] after → GivesUp kept (answers.End at) [] after
unfolding GivesUp Makes given_up
end_gives at kept after still = (steps.Lost at ∷ [], (refl, still), refl)

pub failed_gives : (at : Place) (kept after : Streams) → IsKept kept at [] after → GivesUp kept (answers.Failed at) [] after
unfolding GivesUp Makes given_up
failed_gives at kept after still = (steps.Lost at ∷ [], (refl, still), refl)

closed-gives : (kept : Streams) → GivesUp kept answers.Closed [] kept
unfolding GivesUp Makes given_up
closed-gives kept = ([], (refl, all-same kept), refl)

not-yet-gives : (kept : Streams) → GivesUp kept answers.NotYet [] kept
unfolding GivesUp Makes given_up
not-yet-gives kept = ([], (refl, all-same kept), refl)

fault-gives : (kept : Streams) → GivesUp kept answers.Fault [] kept
unfolding GivesUp Makes given_up
fault-gives kept = ([], (refl, all-same kept), refl)

-- ## What is told of it

-- an answer that isn't `Closed` is told
told-gives : (old new : EdgeState) (answer same : Got) (room : List ℕ) (kept after : Streams) (places : List Place) → answer ≡ same → is_end same ≡ false → Polls old new answer room → GivesUp kept (polled_of same room) places after → GivesOn old new kept places after
unfolding GivesOn
told-gives old new answer same room kept after places is more polls gives = inr (polled_of same room, (comes_of old new answer same room is more polls).notes, gives)

pub answer_gives : {E : Type 0} (r : Result Came E) (old new : EdgeState) (answer same : Got) (room : List ℕ) (kept after : Streams) → answer ≡ same → is_end same ≡ false → Polls old new answer room → IfOk r (λ c. GivesUp kept (polled_of same room) (broken_by c) after)
    → IfOk r (λ c. GivesOn old new kept (broken_by c) after)
answer_gives (Ok c) old new answer same room kept after is more polls gives = told-gives old new answer same room kept after (broken_by c) is more polls gives
answer_gives (Err cause) old new answer same room kept after is more polls gives = tt

pub not_yet_on : (old new : EdgeState) (answer : Got) (room : List ℕ) (kept : Streams) → answer ≡ got.NotYet → Polls old new answer room → GivesOn old new kept [] kept
not_yet_on old new answer room kept is polls = told-gives old new answer got.NotYet room kept kept [] is refl polls (not-yet-gives kept)

pub fault_on : (old new : EdgeState) (answer : Got) (room : List ℕ) (kept : Streams) → answer ≡ got.Fault → Polls old new answer room → GivesOn old new kept [] kept
fault_on old new answer room kept is polls = told-gives old new answer got.Fault room kept kept [] is refl polls (fault-gives kept)

closed-by : (old new : EdgeState) (room : List ℕ) (kept : Streams) (closed : Bool) → old.is_closed ≡ closed → Polls old new got.Closed room → GivesOn old new kept [] kept
unfolding GivesOn
closed-by old new room kept true closed polls = inl (polls.told.1 closed, all-same kept, refl)
closed-by old new room kept false closed polls = inr (answers.Closed, notes_of old.polled new.polled answers.Closed (polls.told.0 closed), closed-gives kept)

-- after the first `Closed` none is told
pub closed_on : (old new : EdgeState) (answer : Got) (room : List ℕ) (kept : Streams) → answer ≡ got.Closed → Polls old new answer room → GivesOn old new kept [] kept
closed_on old new answer room kept is polls = closed-by old new room kept old.is_closed refl (subst (λ (a : Got). Polls old new a room) is polls)

-- ## A put

pub wrote_on : (old new : EdgeState) (to : Place) (before after : Owing) (answer : Put) (count : ℕ) (kept : Streams) → answer ≡ put.Wrote count → Tried old new to before after answer → GivesOn old new kept [] kept
unfolding GivesOn
wrote_on old new to before after answer count kept is tried = let wrote : Tried old new to before after (put.Wrote count) = rw is at tried in inl (wrote.tells, all-same kept, refl)

pub unwritten_on : (old new : EdgeState) (to : Place) (before after : Owing) (answer : Put) (kept : Streams) → answer ≡ put.NotYet → Tried old new to before after answer → GivesOn old new kept [] kept
unfolding GivesOn
unwritten_on old new to before after answer kept is tried = let none : Tried old new to before after put.NotYet = rw is at tried in inl (none.tells, all-same kept, refl)

pub failed_on : (old new : EdgeState) (to : Place) (before after : Owing) (answer : Put) (kept later : Streams) → answer ≡ put.Failed → Tried old new to before after answer → IsKept kept to [] later → GivesOn old new kept [] later
unfolding GivesOn
failed_on old new to before after answer kept later is tried still = let failed : Tried old new to before after put.Failed = rw is at tried in inr (answers.Failed to, failed.tells, failed_gives to kept later still)
