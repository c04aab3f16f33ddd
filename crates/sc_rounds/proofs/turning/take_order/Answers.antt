use Rattle.std.proofs.Common.{None, Some, arith}
use Rattle.std.proofs.lemmas.Bool.Decides.{nat_tests}
use Rattle.sc_courses.proofs.AskingLaws.{answered_one}
use Rattle.sc_rounds.proofs.Movings.{unordered_moves, withdraw_err, withdraw_ok}
use Rattle.sc_rounds.proofs.Steppings.{no_order, other_epoch}
use Rattle.sc_rounds.proofs.turning.take_order.Goals as goal

-- the order is of another epoch
pub returns-then-order-epoch-clause-ok : goal.returns-then-order-epoch-clause-ok
returns-then-order-epoch-clause-ok g c =
    unordered_moves (Some c.in-Some.order) _ _ (g.N.Notice.noted c.args.notice.now) (g.N.Notice.noted c.args.notice.now) (g.O.Orders.asked c.args.orders.now, g.O.Orders.comes c.args.orders.now) (g.O.Orders.asked c.next.new.self, g.O.Orders.comes c.next.new.self)
    (answered_one (g.O.Orders.asked c.args.orders.now, g.O.Orders.comes c.args.orders.now) (g.O.Orders.asked c.next.new.self, g.O.Orders.comes c.next.new.self) (Some c.in-Some.order) c.in-Some.ensures.asked c.in-Some.ensures.told c.in-Some.ensures.comes)
    (other_epoch c.in-Some.order _ _ (λ same. grind (arith, nat_tests, c.if-order-epoch.true, c.epoch.ensures, same)))

pub returns-else-order-epoch-clause-ok : goal.returns-else-order-epoch-clause-ok
returns-else-order-epoch-clause-ok g c =
    withdraw_ok c.in-Some.order c.withdraw.result _ _ (g.N.Notice.noted c.args.notice.now) (g.N.Notice.noted c.withdraw.new.notice) (g.O.Orders.asked c.args.orders.now, g.O.Orders.comes c.args.orders.now) (g.O.Orders.asked c.next.new.self, g.O.Orders.comes c.next.new.self)
    (grind (arith, nat_tests, c.if-order-epoch.false, c.epoch.ensures))
    (answered_one (g.O.Orders.asked c.args.orders.now, g.O.Orders.comes c.args.orders.now) (g.O.Orders.asked c.next.new.self, g.O.Orders.comes c.next.new.self) (Some c.in-Some.order) c.in-Some.ensures.asked c.in-Some.ensures.told c.in-Some.ensures.comes)
    c.withdraw.ensures.ok

pub returns-else-order-epoch-clause-err : goal.returns-else-order-epoch-clause-err
returns-else-order-epoch-clause-err g c =
    withdraw_err c.in-Some.order c.withdraw.result _ _ (g.N.Notice.noted c.args.notice.now) (g.N.Notice.noted c.withdraw.new.notice) (g.O.Orders.asked c.args.orders.now, g.O.Orders.comes c.args.orders.now) (g.O.Orders.asked c.next.new.self, g.O.Orders.comes c.next.new.self)
    (grind (arith, nat_tests, c.if-order-epoch.false, c.epoch.ensures))
    (answered_one (g.O.Orders.asked c.args.orders.now, g.O.Orders.comes c.args.orders.now) (g.O.Orders.asked c.next.new.self, g.O.Orders.comes c.next.new.self) (Some c.in-Some.order) c.in-Some.ensures.asked c.in-Some.ensures.told c.in-Some.ensures.comes)
    c.withdraw.ensures.err

pub returns-in-None-clause-ok : goal.returns-in-None-clause-ok
returns-in-None-clause-ok g c =
    unordered_moves None _ _ (g.N.Notice.noted c.args.notice.now) (g.N.Notice.noted c.args.notice.now) (g.O.Orders.asked c.args.orders.now, g.O.Orders.comes c.args.orders.now) (g.O.Orders.asked c.next.new.self, g.O.Orders.comes c.next.new.self)
    (answered_one (g.O.Orders.asked c.args.orders.now, g.O.Orders.comes c.args.orders.now) (g.O.Orders.asked c.next.new.self, g.O.Orders.comes c.next.new.self) None c.in-None.ensures.asked c.in-None.ensures.told c.in-None.ensures.comes)
    (no_order _ _)
