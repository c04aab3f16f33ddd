use Rattle.std.specs.Prelude.{◌≡◌}
use Rattle.sc_watch.proofs.reading.Reading.read.Given as goal

-- the floor stays until a listing is given
abbrev pub invariant-loop : goal.invariant-loop
invariant-loop g l = record {
  can_next : (goal.iterator-loop g).can_next l.iterator';
  is_finite : (goal.iterator-loop g).is_finite l.iterator';
  floor : l.self.floor ≡ l.fn.self.floor;
}
