use Rattle.std.proofs.Common.{refl}
use Rattle.sc_tokens.specs.Names.{same_bytes}
use Rattle.sc_model.specs.SessionStates.{ack}
use Rattle.sc_halted.proofs.Ending.{turn-closes, turn-ends, turn-goes, turn-stops}
use Rattle.sc_halted.proofs.laws.later_requests_are_passed_on_or_answered.Goals as goal

pub returns-clause-ended : goal.returns-clause-ended
returns-clause-ended c = turn-ends

pub returns-clause-onward : goal.returns-clause-onward
returns-clause-onward c = λ config ringing session number request now made end hops counted comes none valid some.
    turn-goes config ringing session number request now made end counted comes none valid hops some

pub returns-clause-spent : goal.returns-clause-spent
returns-clause-spent c = λ config ringing session number request now made end counted comes none valid left.
    turn-stops config ringing session number request now made end counted comes none valid left

pub returns-clause-closed : goal.returns-clause-closed
returns-clause-closed c = λ config ringing session number request now made end hops counted comes none valid some ends inbox.
    turn-closes config ringing session number request now made end counted comes none valid hops some ends inbox (same_bytes request.method ack) refl
