use Rattle.std.proofs.Common.{refl}
use Rattle.sc_replay.proofs.Endings.{never_usage, wrong_words}
use Rattle.sc_replay.proofs.replaying.replay.Goals as goal

pub returns-in-Some-clause-usage : goal.returns-in-Some-clause-usage
returns-in-Some-clause-usage g c =
    (λ usage again. never_usage _ _ _ _ _ _ _ _ _ c.replay_texts.ensures.ends usage, λ wrong. absurd (wrong (c.in-Some.ensures.replay.0 refl)))

pub returns-in-Some-clause-wrong : goal.returns-in-Some-clause-wrong
returns-in-Some-clause-wrong g c = λ usage. absurd (never_usage _ _ _ _ _ _ _ _ _ c.replay_texts.ensures.ends usage)

pub returns-in-Some-clause-ends : goal.returns-in-Some-clause-ends
returns-in-Some-clause-ends g c = λ is. rw (← c.in-Some.ensures.config, ← c.in-Some.ensures.dar, ← c.in-Some.ensures.script) c.replay_texts.ensures.ends

pub returns-in-None-clause-usage : goal.returns-in-None-clause-usage
returns-in-None-clause-usage g c = (λ usage. wrong_words _ c.in-None.ensures.replay.1, λ wrong. c.ended.ensures.status)

pub returns-in-None-clause-ends : goal.returns-in-None-clause-ends
returns-in-None-clause-ends g c = λ is. absurd (wrong_words _ c.in-None.ensures.replay.1 is)
