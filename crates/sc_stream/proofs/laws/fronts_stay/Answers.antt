use Rattle.sc_stream.proofs.FrontLaws.{front_stays, front_within}
use Rattle.sc_stream.proofs.FrameLaws.{behind_stays}
use Rattle.sc_stream.proofs.laws.fronts_stay.Goals as goal

pub returns-clause-front : goal.returns-clause-front
returns-clause-front c = front_stays

pub returns-clause-behind : goal.returns-clause-behind
returns-clause-behind c = behind_stays

pub returns-clause-whole : goal.returns-clause-whole
returns-clause-whole c = front_within
