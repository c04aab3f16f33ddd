use Rattle.sc_edge.proofs.ComingTold.{joined_push}
use Rattle.sc_edge.proofs.mem_coming.note.Goals as goal

pub returns-clause-told : goal.returns-clause-told
returns-clause-told c =
    rw (c.add_answer.ensures.items, c.add_bytes.ensures.items, c.bytes_of.ensures) (joined_push _ _ c.args.room.now _ c.requires.counted)
