use Rattle.sc_turn.specs.Working.{play_of}
use Rattle.sc_turn.proofs.Listing.{listed}
use Rattle.sc_turn.proofs.turn.Turn.list.Goals as goal

pub invariant_of-self : goal.invariant_of-self
unfolding play_of
invariant_of-self c =
    let memory = rw (← c.self-inside.view_is) at (rw (← c.self.view_is) at c.requires.memory) in
    let room = rw (← c.self-inside.view_is) at (rw (← c.self.view_is) at c.requires.room) in
    listed _ _ _ _ _ _ _ memory (rw (← c.self-inside.view_is) at c.self.invariant) room c.in-Ok.ensures.play c.in-Ok.ensures.calls
