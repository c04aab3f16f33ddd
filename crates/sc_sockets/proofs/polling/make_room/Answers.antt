use Rattle.sc_sockets.proofs.GrowLaws.{grows_left}
use Rattle.sc_sockets.proofs.polling.make_room.Goals as goal

pub returns-in-Some : goal.returns-in-Some
returns-in-Some c = grows_left c.in-Some.place c.args.book.now c.leave.new.book c.leave.ensures
