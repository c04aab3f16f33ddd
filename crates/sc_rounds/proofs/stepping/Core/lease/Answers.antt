use Rattle.std.proofs.Common.{refl}
use Rattle.sc_rounds.proofs.Steppings.{leased, leased_same}
use Rattle.sc_rounds.proofs.stepping.Core.lease.Goals as goal

pub returns : goal.returns
returns c told = leased_same _ _ told (leased _ _ _ c.lease.ensures.leased c.lease.ensures.err) refl refl refl refl refl
