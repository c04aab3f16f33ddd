use Rattle.std.specs.Prelude.{◌≡◌, true}
use Rattle.sc_desk.specs.Desks.{IsOf, view_of}
use Rattle.sc_watch_tests.proofs.desk_tests.post_all.Given as goal

abbrev pub invariant-loop-serial : goal.invariant-loop-serial
invariant-loop-serial g l = record {
  is_of : IsOf l.desk l.pass;
  posts : (view_of l.pass).posts ≡ true;
}
