-- A turn that lists one more call keeps what every turn keeps.
use Rattle.std.proofs.Common.{◌≡◌, ◌<◌, List, [], ◌∷◌, ◌++◌, Bool, true, false, refl}
use Rattle.std.specs.List.{fold}
use Rattle.sc_terms.specs.declared.views.View.{View}
use Rattle.sc_terms.specs.declared.calls.Call.{Call}
use Rattle.sc_terms.specs.declared.calls.CallRecord.{CallRecord}
use Rattle.sc_state.specs.declared.working.Play.{Play}
use Rattle.sc_hosts.specs.Scripting.{IsAnsweredFrom}
use Rattle.sc_hosts.specs.Effects.{first_play as begun, answer_of, after_listed, after_calls}
use Rattle.sc_hosts.specs.RefusalParts.{MOST_CALLS}
use Rattle.sc_turn.specs.Working.{IsWorking, record_of}

abbrev step : Play → CallRecord → Play
step play made = after_listed play made.call

-- one more call at the end of a list
pushed : (play : Play) (calls : List CallRecord) (made : CallRecord) → IsAnsweredFrom play calls → (fold step play calls).listed < MOST_CALLS
    → made.answer ≡ answer_of (fold step play calls) made.call → IsAnsweredFrom play (calls ++ made ∷ [])
unfolding IsAnsweredFrom
pushed play [] made answered below right = (below, right, tt)
pushed play (first ∷ calls) made (before, first_is, later) below right = (before, first_is, pushed (after_listed play first.call) calls made later below right)

after_push : (play : Play) (calls : List CallRecord) (made : CallRecord) → fold step play (calls ++ made ∷ []) ≡ after_listed (fold step play calls) made.call
after_push play [] made = refl
after_push play (first ∷ calls) made = after_push (after_listed play first.call) calls made

-- at the start of a turn
pub begins : (shown : View) (play : Play) (starved : Bool) → play ≡ begun shown → IsWorking shown play [] starved
unfolding IsAnsweredFrom after_calls
begins shown play starved same = record { answered = tt; play_is = λ e. same }

-- after one more listed call
pub listed : (shown : View) (play next : Play) (calls later : List CallRecord) (call : Call) (starved : Bool) → starved ≡ false → IsWorking shown play calls starved → (after_calls shown calls).listed < MOST_CALLS
    → next ≡ after_listed play call → later ≡ calls ++ record_of play call ∷ [] → IsWorking shown next later starved
unfolding after_calls record_of
listed shown play next calls later call starved memory is below next_is later_is =
    let same = is.play_is memory in rw (later_is, next_is, same) (record {
      answered = pushed (begun shown) calls _ is.answered below refl;
      play_is = λ e. rw after_push refl;
    })

-- after a call that wanted memory
pub starves : (shown : View) (play next : Play) (calls later : List CallRecord) (starved : Bool) → IsWorking shown play calls starved → later ≡ calls → IsWorking shown next later true
starves shown play next calls later starved is later_is = rw later_is (record { answered = is.answered; play_is = λ e. cc })
