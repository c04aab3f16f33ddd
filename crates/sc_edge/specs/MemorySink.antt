-- What the sink in memory is. This project's own.
use Rattle.std.specs.Prelude.{ℕ, ◌-◌, min, List, ◌++◌, length, Bool, ◌||◌, ◌&&◌}
use Rattle.std.specs.Bool.{nat_lt, nat_le}
use Rattle.sc_edge.specs.Faults.{is_listed, one_more}

-- a sink that keeps its bytes in memory, up to its room
pub record SinkState : Type 0 where
  -- the bytes that it took
  pub kept : List ℕ
  -- how many bytes it keeps at most
  pub room : ℕ
  -- how many bytes one put takes at most
  pub most : ℕ
  -- the numbers of the puts that are to fail; the first put has number 1
  pub failing : List ℕ
  pub puts : ℕ
  pub faults : ℕ

-- whether the next put, of a piece of this length, fails
abbrev pub refuses : SinkState → ℕ → Bool
refuses sink len =
    is_listed sink.failing (one_more sink.puts)
    || (nat_lt 0 len && nat_le sink.room (length sink.kept))

-- how many bytes of a piece of this length it takes
abbrev pub share : SinkState → ℕ → ℕ
share sink len = min (min len sink.most) (sink.room - length sink.kept)

-- the sink after a put that took these bytes
abbrev pub after_put : SinkState → List ℕ → SinkState
after_put sink bytes = record sink { kept = sink.kept ++ bytes; puts = one_more sink.puts }

-- the sink after a put that failed
abbrev pub after_failure : SinkState → SinkState
after_failure sink = record sink { puts = one_more sink.puts; faults = one_more sink.faults }
