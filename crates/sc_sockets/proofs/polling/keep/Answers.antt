use Rattle.sc_sockets.proofs.GrowLaws.{grows_left}
use Rattle.sc_sockets.proofs.polling.keep.Goals as goal

pub returns-then-not-add : goal.returns-then-not-add
returns-then-not-add c = grows_left c.args.place c.args.book.now c.shut.new.self c.shut.ensures
