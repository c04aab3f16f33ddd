-- The outcome of a turn, by the session that is left in play.
use Rattle.std.proofs.Common.{◌≡◌, refl}
use Rattle.sc_state.specs.declared.queue.Queued.{Queued}
use Rattle.sc_state.specs.declared.working.Working.{Working}
use Rattle.sc_hosts.specs.Preparing.{has_expired}
use Rattle.sc_hosts.specs.Finishing.{is_ended, session_in_play, outcome_of, without_acks}
use Rattle.sc_finish.specs.Ends.{ends, left_by}

pub outcome_is : (event : Queued) (working : Working)
    → outcome_of event working ≡ record {
      session = left_by (ends event working.play.ended (record { view = without_acks working.play.view; known = working.known })) (record { view = without_acks working.play.view; known = working.known });
      orders = working.orders;
      ends = ends event working.play.ended (record { view = without_acks working.play.view; known = working.known });
    }
unfolding outcome_of is_ended session_in_play ends left_by has_expired without_acks
outcome_is event working = refl
