use Rattle.std.proofs.Common.{sym, subst}
use Rattle.sc_state.specs.declared.session.Session.{Session}
use Rattle.sc_lasting.specs.Lasting.{All}
use Rattle.sc_lived.proofs.Sayings.{has-lived, session-lived}
use Rattle.sc_searched.specs.Endings.{HasItsAnswer}
use Rattle.sc_searched.proofs.Answering.{all-answered}
use Rattle.sc_searched.proofs.Exhausted.{exhausted-over}
use Rattle.sc_searched.proofs.laws.ended_searches_are_answered.Goals as goal

pub returns-clause-life : goal.returns-clause-life
returns-clause-life c = all-answered

pub returns-clause-history : goal.returns-clause-history
returns-clause-history c = λ setup epoch began journal app live lawful is.
    record { lived = has-lived setup epoch began journal app live lawful is; answers = all-answered setup.config live.session }

pub returns-clause-session : goal.returns-clause-session
returns-clause-session c = λ setup epoch began journal app live lawful is.
    let has = session-lived setup epoch began journal app live lawful is in record {
      history = has.history;
      is = has.is;
      have = record {
        lived = has.lived;
        answers = subst (λ (session : Session). All (HasItsAnswer setup.config has.history has.history.turns) session.known.proxies) (sym has.is) (all-answered setup.config has.history);
      };
    }

pub returns-clause-exhausted : goal.returns-clause-exhausted
returns-clause-exhausted c = exhausted-over
