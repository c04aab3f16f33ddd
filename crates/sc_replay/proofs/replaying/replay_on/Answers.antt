use Rattle.sc_replay.proofs.Replayings.{ran_on}
use Rattle.sc_replay.proofs.replaying.replay_on.Goals as goal

pub returns-clause-ran : goal.returns-clause-ran
returns-clause-ran g c =
    ran_on c.args.switch.setup _ _ _ _ _ c.run_script-status.result c.run_ended.result c.run_script-status.new.switch c.run_ended.ensures.status c.run_ended.ensures.some c.run_ended.ensures.journal c.run_script-status.ensures.setup c.run_script-status.ensures.epoch c.run_script-status.ensures.began
    c.run_script-status.ensures.handed c.run_ended.ensures.lawful c.run_script-status.ensures.comes c.run_script-status.ensures.leaves
