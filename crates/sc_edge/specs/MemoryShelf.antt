-- What the shelf in memory is. This project's own.
use Rattle.std.specs.Prelude.{ℕ, Option, List, Bool, ◌||◌, is_none, if◌then◌else◌}
use Rattle.std.specs.Bool.{nat_eq}
use Rattle.std.specs.Cmp.Lexicographic.{pointwise}
use Rattle.std.specs.List.{find}
use Rattle.std.specs.Option.{option_map}
use Rattle.sc_edge.specs.Faults.{is_listed, one_more}
use Rattle.sc_edge.specs.declared.mem_shelf.Item.{Item}

-- a shelf that holds items in memory, to be read by their names
pub record ShelfState : Type 0 where
  -- what it holds; of two items of one name the first counts
  pub items : List Item
  -- the numbers of the reads that are to fail; the first read has number 1
  pub failing : List ℕ
  pub reads : ℕ
  pub faults : ℕ

-- whether the item has this name
abbrev pub has_name : List ℕ → Item → Bool
has_name name item = pointwise nat_eq item.name name

-- the bytes under the name
abbrev pub bytes_under : List Item → List ℕ → Option (List ℕ)
bytes_under items name = option_map (λ item. item.bytes) (find (has_name name) items)

-- whether the next read, of this name, fails
abbrev pub fails : ShelfState → List ℕ → Bool
fails shelf name =
    is_listed shelf.failing (one_more shelf.reads) || is_none (bytes_under shelf.items name)

-- the shelf after a read of this name
abbrev pub after_read : ShelfState → List ℕ → ShelfState
after_read shelf name =
    record shelf {
      reads = one_more shelf.reads;
      faults = if fails shelf name then one_more shelf.faults else shelf.faults;
    }
