use Rattle.std.proofs.Common.{sym, subst}
use Rattle.sc_state.specs.declared.session.Session.{Session}
use Rattle.sc_lasting.specs.Lasting.{All}
use Rattle.sc_lived.proofs.Sayings.{has-lived, session-lived}
use Rattle.sc_proxying.specs.Proxying.{HasItsList}
use Rattle.sc_proxying.proofs.Listed.{lists-are-had}
use Rattle.sc_proxying.proofs.laws.proxied_requests_have_their_lists.Goals as goal

pub returns-clause-life : goal.returns-clause-life
returns-clause-life c = lists-are-had

pub returns-clause-history : goal.returns-clause-history
returns-clause-history c = λ setup epoch began journal app live lawful is.
    record { lived = has-lived setup epoch began journal app live lawful is; lists = lists-are-had setup.config live.session }

pub returns-clause-session : goal.returns-clause-session
returns-clause-session c = λ setup epoch began journal app live lawful is.
    let has = session-lived setup epoch began journal app live lawful is in record {
      history = has.history;
      is = has.is;
      have = record {
        lived = has.lived;
        lists = subst (λ (session : Session). All (HasItsList setup.config has.history has.history.turns) session.known.proxies) (sym has.is) (lists-are-had setup.config has.history);
      };
    }
