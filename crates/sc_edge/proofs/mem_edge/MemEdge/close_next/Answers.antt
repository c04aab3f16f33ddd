use Rattle.std.proofs.Common.{ap, ◌∙◌}
use Rattle.sc_edge.proofs.EdgePutLaws.{closed_is}
use Rattle.sc_edge.specs.EdgeMemory.{told_closes}
use Rattle.sc_edge.specs.EdgePlaces.{as_shut as shut, with_known}
use Rattle.sc_edge.specs.contracts.mem_edge.MemEdge.{the_view}
use Rattle.sc_edge.proofs.mem_edge.MemEdge.close_next.Goals as goal

pub returns : goal.returns
returns c =
    rw (← c.self.view_is)
    (closed_is (the_view c.self.inside) c.args.at c.set.new.self (told_closes c.note_close.new.tells c.note_close.new.closes.items)
    (c.set.ensures ∙ ap (with_known c.self.inside.places) (c.shut.ensures ∙ ap shut c.at.ensures)) c.note_close.ensures.told)
