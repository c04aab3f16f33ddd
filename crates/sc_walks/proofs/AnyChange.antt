-- Hosts may change in any way: for relations of nets that look at no host.
use Rattle.std.specs.Prelude.{ℕ}
use Rattle.sc_state.specs.Hosts.{Host}
use Rattle.sc_walks.specs.Walks.{HostLaws, TurnLaws}

module _ {S : Type 0} where
  abbrev pub AnyChange : ℕ → ℕ → ℕ → Host S → ℕ → Host S → Type 0
  AnyChange number now count host later changed = Unit {0}

  pub any-hosts : (number now : ℕ) → HostLaws {S = S} (λ form. Unit {0}) number now (AnyChange number now)
  any-hosts number now = record {
    same = λ count host. tt;
    after = λ c d e x y z p q. tt;
    passes = λ count host clients servers. tt;
    queues = λ serial event late count host. tt;
    begins = λ form good config epoch noted request count host. tt;
    marks = λ entry count host. tt;
  }

  pub any-turns : (number now : ℕ) → TurnLaws now (AnyChange number now)
  any-turns number now = record {
    turns = λ form config serial turn done count host. tt;
    goes = λ serial count host. tt;
  }
