-- Calls of a turn that were accepted are those of a script of which none is refused.
use Rattle.std.proofs.Common.{◌≡◌, None, refl, sym, ap, subst, ◌∙◌}
use Rattle.sc_terms.specs.declared.calls.Call.{Call}
use Rattle.sc_terms.specs.declared.calls.CallAnswer.{CallAnswer}
use Rattle.sc_state.specs.declared.working.Play.{Play}
use Rattle.sc_hosts.specs.Effects.{answer_to_call as accepted, after_listed, answer_by, answer_of}
use Rattle.sc_hosts.specs.Refusals.{refusal}
use Rattle.sc_hosts.specs.Scripting.{Script, Done, Make, is_refused}
use Rattle.sc_turn.specs.Working.{Working, play_of, after_made, IsAccepted as IsTaken}
use Rattle.sc_promised.specs.Refreshing.{IsAccepted}
use Rattle.sc_promised.specs.Reliable.{play_after}
use Rattle.sc_promised.proofs.Attributes.{accepted-stands}
use Rattle.sc_apps.proofs.Playing.{played_on}
use Rattle.sc_helpers.specs.Stopping.{GoesThrough}

pub answer_is : (play : Play) (call : Call) → refusal play call ≡ None → answer_of play call ≡ accepted play call
unfolding answer_of answer_by
answer_is play call none = rw none refl

taken_answer : (call : Call) (old new : Working) (answer : CallAnswer) → IsTaken call old answer new → answer_of (play_of old) call ≡ accepted (play_of old) call
unfolding IsTaken
taken_answer call old new answer (fed, none, is, after) = answer_is (play_of old) call none

pub through_accepted : (script : Script) (old new : Working) → GoesThrough script old new → IsAccepted (play_of old) script × (play_of new ≡ play_after (play_of old) script)
unfolding GoesThrough IsAccepted play_after
through_accepted Done old new is = (tt, ap play_of is)
through_accepted (Make call next) old new (made, rest) =
    let has : answer_of (play_of old) call ≡ accepted (play_of old) call = taken_answer call old _ _ made in
    let more = through_accepted (next (accepted (play_of old) call)) (after_made call old) new rest in (
      (
        ap is_refused has ∙ accepted-stands (play_of old) call,
        subst (λ (p : Play). IsAccepted p (next (answer_of (play_of old) call))) (played_on call old) (subst (λ (a : CallAnswer). IsAccepted (play_of (after_made call old)) (next a)) (sym has) more.0),
      ),
      more.1 ∙ ap (λ (p : Play). play_after p (next (accepted (play_of old) call))) (played_on call old) ∙ ap (λ (a : CallAnswer). play_after (after_listed (play_of old) call) (next a)) (sym has),
    )
