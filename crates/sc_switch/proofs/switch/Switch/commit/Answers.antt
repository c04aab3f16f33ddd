use Rattle.std.proofs.Common.{ap, refl}
use Rattle.sc_switch.specs.Standing.{Known}
use Rattle.sc_leases.specs.Leases.{without_number}
use Rattle.sc_switch.specs.Answers.{Received}
use Rattle.sc_switch.specs.Offering.{Judges}
use Rattle.sc_switch.proofs.Standings.{IsSwitch-without}
use Rattle.sc_switch.proofs.switch.Switch.commit.Goals as goal

pub take_turn-requires : goal.take_turn-requires
unfolding Judges
take_turn-requires c = rw c.in-Fits.is at c.judged.ensures

pub returns-in-Gone-clause-ok : goal.returns-in-Gone-clause-ok
unfolding Received Judges
returns-in-Gone-clause-ok c = rw c.gone.ensures (refl, rw c.in-Gone.is at c.judged.ensures, refl)

pub returns-in-Other-clause-ok : goal.returns-in-Other-clause-ok
unfolding Received Judges
returns-in-Other-clause-ok c =
    let judges = rw c.in-Other.is at c.judged.ensures in
    rw (c.number_of-number.ensures, c.end_lease.ensures, c.number_of-number.ensures)
    (refl, judges.0, judges.1, ap (λ (k : Known). record k { kept = without_number c.args.done.lease.number k.kept }) c.self.view_is)

pub invariant_of-self : goal.invariant_of-self
invariant_of-self c = IsSwitch-without _ _ _ _ _ _ _ c.end_lease.new.kept c.self.invariant c.end_lease.ensures
