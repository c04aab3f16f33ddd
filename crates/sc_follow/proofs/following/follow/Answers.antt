use Rattle.sc_follow.proofs.Followings.{run_setup, run_epoch, run_began, run_handed, run_untaken, run_follows, run_stopped}
use Rattle.sc_follow.proofs.following.follow.Goals as goal

pub returns-clause-setup : goal.returns-clause-setup
returns-clause-setup g c = run_setup _ _ _ _ c.follow_lines-followed.ensures.ok c.follow_lines-followed.ensures.err

pub returns-clause-epoch : goal.returns-clause-epoch
returns-clause-epoch g c = run_epoch _ _ _ _ c.follow_lines-followed.ensures.ok c.follow_lines-followed.ensures.err

pub returns-clause-began : goal.returns-clause-began
returns-clause-began g c = run_began _ _ _ _ c.follow_lines-followed.ensures.ok c.follow_lines-followed.ensures.err

pub returns-clause-handed : goal.returns-clause-handed
returns-clause-handed g c = run_handed _ _ _ _ c.follow_lines-followed.ensures.ok c.follow_lines-followed.ensures.err

pub returns-clause-untaken : goal.returns-clause-untaken
returns-clause-untaken g c = run_untaken _ _ _ _ c.follow_lines-followed.ensures.ok c.follow_lines-followed.ensures.err

pub returns-clause-follows : goal.returns-clause-follows
returns-clause-follows g c = run_follows _ _ _ _ c.follow_lines-followed.ensures.ok

pub returns-clause-stopped : goal.returns-clause-stopped
returns-clause-stopped g c = run_stopped _ _ _ _ c.show_laws.ensures.lawful c.follow_lines-followed.ensures.err
