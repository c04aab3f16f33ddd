use Rattle.std.specs.Prelude.{◌≡◌, ◌≤◌, true}
use Rattle.sc_desk.specs.Desks.{IsOf, view_of}
use Rattle.sc_watch_tests.proofs.desk_tests.take_all.Given as goal

abbrev pub invariant-loop : goal.invariant-loop
invariant-loop g l = record {
  is_of : IsOf l.desk l.pass;
  takes : (view_of l.pass).first ≡ true;
  few : l.in_order ≤ l.counter;
}
