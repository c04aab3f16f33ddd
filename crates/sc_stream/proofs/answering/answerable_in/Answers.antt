use Rattle.sc_stream.proofs.FirstVias.{begun_parts}
use Rattle.sc_stream.proofs.answering.answerable_in.Goals as goal

pub with_parts-requires : goal.with_parts-requires
with_parts-requires c = begun_parts c.args.fields.now c.in_ok-via.via c.in_ok-peers.peers c.in_ok-call.call c.zip.result c.zip-2.result c.zip.ensures c.zip-2.ensures c.in_ok-via.ensures
