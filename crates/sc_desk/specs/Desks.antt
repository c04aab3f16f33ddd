-- What a clause says of a desk and its passes. This project's own.
use Rattle.std.specs.Prelude.{ℕ}
use Rattle.crossbeam_queue.specs.Passes.{view, IsPassOf, ruled_capacity}
use Rattle.sc_desk.specs.declared.desk.Desk.{Desk}
use Rattle.sc_desk.specs.declared.desk_pass.DeskPass.{DeskPass}
use Rattle.sc_desk.specs.declared.desk_queue.DeskView.{DeskView}

-- what a pass knows of the desk's queue
abbrev pub view_of : DeskPass → DeskView
view_of pass = view pass.queue

-- how many orders the desk holds at most
abbrev pub room_of : Desk → ℕ
room_of desk = ruled_capacity desk.queue

-- it came from this desk, by its `new` or a `split`
abbrev pub IsOf : Desk → DeskPass → Type 0
IsOf desk pass = IsPassOf desk.queue pass.queue
