use Rattle.std.proofs.Common.{arith}
use Rattle.std.specs.Prelude.{codes}
use Rattle.std.proofs.lemmas.Slice.Eq.{text_from_reads}
use Rattle.sc_tokens.specs.HeaderNames.{record_route_name, max_forwards_name, content_length_name}
use Rattle.sc_message_text.proofs.names.usual_header.Goals as goal

pub returns-in-82 : goal.returns-in-82
unfolding record_route_name
returns-in-82 c = text_from_reads c.args.name.now (codes "Record-Route") (omega arith) (omega arith, (omega arith, (omega arith, (omega arith, (omega arith, (omega arith, (omega arith, (omega arith, (omega arith, (omega arith, (omega arith, (omega arith, tt))))))))))))

pub returns-in-77 : goal.returns-in-77
unfolding max_forwards_name
returns-in-77 c = text_from_reads c.args.name.now (codes "Max-Forwards") (omega arith) (omega arith, (omega arith, (omega arith, (omega arith, (omega arith, (omega arith, (omega arith, (omega arith, (omega arith, (omega arith, (omega arith, (omega arith, tt))))))))))))

pub returns-in-67-2 : goal.returns-in-67-2
unfolding content_length_name
returns-in-67-2 c = text_from_reads c.args.name.now (codes "Content-Length") (omega arith) (omega arith, (omega arith, (omega arith, (omega arith, (omega arith, (omega arith, (omega arith, (omega arith, (omega arith, (omega arith, (omega arith, (omega arith, (omega arith, (omega arith, tt))))))))))))))
