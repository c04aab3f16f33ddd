use Rattle.std.proofs.Common.{length}
use Rattle.sc_sockets.proofs.PutLaws.{put_barred, put_cut, put_later, put_leaves, put_polled, put_stands, put_stays}
use Rattle.sc_sockets.proofs.edge.MioEdgeEdge.put.Goals as goal

pub returns-clause-later : goal.returns-clause-later
returns-clause-later g c = put_later c.args.self.now c.put_once.new.self c.args.to (length c.args.bytes.now) c.put_once.result c.put_once.ensures.by c.put_once.ensures.later

pub returns-clause-barred : goal.returns-clause-barred
returns-clause-barred g c = put_barred c.args.self.now c.put_once.new.self c.args.to (length c.args.bytes.now) c.put_once.result c.put_once.ensures.by

pub returns-clause-cut : goal.returns-clause-cut
returns-clause-cut g c = put_cut c.args.self.now c.put_once.new.self c.args.to (length c.args.bytes.now) c.put_once.result c.put_once.ensures.by

pub returns-clause-leaves : goal.returns-clause-leaves
returns-clause-leaves g c = put_leaves c.args.self.now c.put_once.new.self c.args.to (length c.args.bytes.now) c.put_once.result c.put_once.ensures.by c.put_once.ensures.rose

pub returns-clause-stays : goal.returns-clause-stays
returns-clause-stays g c place other = put_stays c.args.self.now c.put_once.new.self c.args.to place (length c.args.bytes.now) c.put_once.result c.put_once.ensures.by other

pub returns-clause-stands : goal.returns-clause-stands
returns-clause-stands g c place other = put_stands c.args.self.now c.put_once.new.self c.args.to place (length c.args.bytes.now) c.put_once.result c.put_once.ensures.by other

pub returns-clause-polled : goal.returns-clause-polled
returns-clause-polled g c = put_polled c.args.self.now c.put_once.new.self c.args.to (length c.args.bytes.now) c.put_once.result c.put_once.ensures.by
