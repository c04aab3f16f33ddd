-- The range of the numbers that a lease shows. This project's own.
use Rattle.std.specs.Prelude.{ℕ, List, Bool, nat_lt}
use Rattle.std.specs.List.{list_all}
use Rattle.sc_terms.specs.declared.views.SessionView.{SessionView}

-- the number of each SipSession is below the bound
unfoldable pub is_numbered_below : ℕ → List SessionView → Bool
is_numbered_below bound sessions = list_all (λ session. nat_lt session.id.0 bound) sessions
