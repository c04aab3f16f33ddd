use Rattle.sc_remembered.proofs.EarlyTurns.{early-acts, played-is}
use Rattle.sc_remembered.proofs.laws.early_turns_are_acts.Goals as goal

pub returns-clause-played : goal.returns-clause-played
returns-clause-played c = played-is

pub returns-clause-early : goal.returns-clause-early
returns-clause-early c = early-acts
