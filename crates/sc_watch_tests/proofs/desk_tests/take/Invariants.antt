use Rattle.std.specs.Prelude.{◌≡◌, true}
use Rattle.sc_desk.specs.Desks.{IsOf, view_of}
use Rattle.sc_watch_tests.proofs.desk_tests.take.Given as goal

abbrev pub invariant-loop : goal.invariant-loop
invariant-loop g l = record {
  can_next : (goal.iterator-loop g).can_next l.iterator';
  is_finite : (goal.iterator-loop g).is_finite l.iterator';
  is_of : IsOf l.desk l.pass;
  may : (view_of l.pass).first ≡ true;
}
