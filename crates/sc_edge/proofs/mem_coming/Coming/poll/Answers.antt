use Rattle.sc_edge.proofs.ComingTold.{room_for_bytes, room_after, room_after_answer, room_to_fail}
use Rattle.sc_edge.proofs.mem_coming.Coming.poll.Goals as goal

pub note-requires-clause-bytes : goal.note-requires-clause-bytes
note-requires-clause-bytes c =
    room_for_bytes c.args.places.now _ _ _ _ _ _ _ _ _ c.as_slice-items.ensures c.first_live-next.ensures c.give_next-got.ensures.got (c.self.invariant.2 c.if-self.false)

pub invariant_of-self : goal.invariant_of-self
invariant_of-self c = (
  c.note.ensures.counted,
  λ going. room_after_answer c.args.places.now _ _ _ _ _ _ _ _ _ _ _ _ _ _ _ c.as_slice-items.ensures c.first_live-next.ensures c.give_next-got.ensures.got c.give_next-got.ensures.left c.ends-self-inside.ensures c.requires (c.self.invariant.1 c.if-self.false) c.note.ensures.answers.0 c.note.ensures.answers.1 going,
  λ going. room_after c.args.places.now _ _ _ _ _ _ _ _ _ _ _ _ _ c.as_slice-items.ensures c.first_live-next.ensures c.give_next-got.ensures.got c.give_next-got.ensures.left (c.self.invariant.2 c.if-self.false) c.note.ensures.bytes.0 c.note.ensures.bytes.1,
  room_to_fail _ _ _ _ _ _ (c.self.invariant.1 c.if-self.false) c.note.ensures.answers.0 c.note.ensures.answers.1,
)
