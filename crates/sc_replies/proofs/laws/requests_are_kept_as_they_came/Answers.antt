use Rattle.std.proofs.Common.{sym, subst}
use Rattle.sc_state.specs.declared.session.Session.{Session}
use Rattle.sc_lived.proofs.Sayings.{has-lived, session-lived}
use Rattle.sc_replies.specs.Came.{AreAsTheyCame, came_of}
use Rattle.sc_replies.proofs.Brought.{lives-single}
use Rattle.sc_replies.proofs.KeptAsCame.{histories-keep}
use Rattle.sc_replies.proofs.laws.requests_are_kept_as_they_came.Goals as goal

pub returns-clause-life : goal.returns-clause-life
returns-clause-life c = histories-keep

pub returns-clause-numbers : goal.returns-clause-numbers
returns-clause-numbers c = lives-single

pub returns-clause-history : goal.returns-clause-history
returns-clause-history c = λ setup epoch began journal app live lawful is.
    record { lived = has-lived setup epoch began journal app live lawful is; kept = histories-keep setup.config live.session; single = lives-single setup.config live.session }

pub returns-clause-session : goal.returns-clause-session
returns-clause-session c = λ setup epoch began journal app live lawful is.
    let has = session-lived setup epoch began journal app live lawful is in record {
      history = has.history;
      is = has.is;
      have = record {
        lived = has.lived;
        kept = subst (λ (session : Session). AreAsTheyCame (came_of setup.config has.history has.history.turns) session.known) (sym has.is) (histories-keep setup.config has.history);
        single = lives-single setup.config has.history;
      };
    }
