use Rattle.sc_sockets.proofs.GrowLaws.{grows_taken, grows_then}
use Rattle.sc_sockets.proofs.polling.admit.Goals as goal

pub returns-in-Some : goal.returns-in-Some
returns-in-Some c = grows_then c.args.book.now c.accept.new.self c.keep.new.book (grows_taken c.args.book.now c.accept.new.self c.accept.ensures) c.keep.ensures

pub returns-in_default : goal.returns-in_default
returns-in_default c = grows_taken c.args.book.now c.accept.new.self c.accept.ensures
