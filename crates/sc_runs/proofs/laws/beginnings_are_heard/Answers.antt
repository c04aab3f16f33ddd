use Rattle.sc_runs.proofs.HeardParts.{beginning-heard}
use Rattle.sc_runs.proofs.laws.beginnings_are_heard.Goals as goal

pub returns : goal.returns
returns c = beginning-heard
