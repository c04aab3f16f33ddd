use Rattle.sc_replay.proofs.Tryings.{tried_on}
use Rattle.sc_replay.proofs.trying.trial_on.Goals as goal

pub returns-clause-tried : goal.returns-clause-tried
returns-clause-tried g c =
    tried_on c.args.switch.setup _ _ _ _ c.run_calls-status.result c.run_ended.result c.run_calls-status.new.switch c.run_ended.ensures.status c.run_ended.ensures.some c.run_ended.ensures.journal c.run_calls-status.ensures.setup c.run_calls-status.ensures.epoch c.run_calls-status.ensures.began
    c.run_calls-status.ensures.handed c.run_ended.ensures.lawful c.run_calls-status.ensures.leaves
