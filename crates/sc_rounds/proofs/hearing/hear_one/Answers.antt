use Rattle.sc_rounds.specs.Serving.{ServesMore}
use Rattle.sc_rounds.proofs.Refusals.{memory_due}
use Rattle.sc_rounds.proofs.Listenings.{bad_err, bad_on, long_err, long_on, message_err, message_on, on_ended, on_open, some_via}
use Rattle.std.proofs.Common.{inl, inr}
use Rattle.sc_rounds.proofs.GivingUps.{gave_bad, gave_long}
use Rattle.sc_rounds.proofs.OftenGivings.{bad_one, long_one, message_one, open_one}
use Rattle.sc_rounds.proofs.hearing.hear_one.Goals as goal

pub take_message-requires : goal.take_message-requires
take_message-requires g c = some_via _ _ _ _ c.in-Message.is c.next.ensures.hears

pub returns-in-Message-clause-on : goal.returns-in-Message-clause-on
returns-in-Message-clause-on g c from edge text s =
    message_on _ from edge (g.N.Notice.noted c.args.notice.now) (g.N.Notice.noted c.take_message.new.notice) _ c.take_message.new.core _ _ _ text c.in-Message.message _ c.in-Message.is c.next.ensures.hears c.next.ensures.kept c.take_message.ensures.more c.take_message.ensures.ok s

pub returns-in-Message-clause-err : goal.returns-in-Message-clause-err
returns-in-Message-clause-err g c from edge text s =
    message_err _ from edge (g.N.Notice.noted c.args.notice.now) (g.N.Notice.noted c.take_message.new.notice) _ c.take_message.new.core _ _ text c.in-Message.message _ _ c.in-Message.is c.next.ensures.hears c.take_message.ensures.err s

pub returns-in-NotYet-clause-on : goal.returns-in-NotYet-clause-on
unfolding ServesMore
returns-in-NotYet-clause-on g c from edge text s = on_open from edge (g.N.Notice.noted c.args.notice.now) _ _ _ _ text _ c.in-NotYet.is c.next.ensures.hears c.next.ensures.kept s

pub returns-in-Bad-clause-on : goal.returns-in-Bad-clause-on
returns-in-Bad-clause-on g c from edge text s =
    bad_on _ from edge (g.N.Notice.noted c.args.notice.now) (g.N.Notice.noted c.break_off.new.notice) _ c.break_off.new.core _ _ _ _ text c.in-Bad.bad _ c.in-Bad.is c.next.ensures.hears c.next.ensures.kept c.break_off.ensures.kept c.break_off.ensures.more c.break_off.ensures.ok s

pub returns-in-Bad-clause-err : goal.returns-in-Bad-clause-err
returns-in-Bad-clause-err g c from edge text s =
    bad_err _ from edge (g.N.Notice.noted c.args.notice.now) (g.N.Notice.noted c.break_off.new.notice) _ c.break_off.new.core _ _ _ text c.in-Bad.bad _ c.in-Bad.is c.next.ensures.hears c.next.ensures.kept c.break_off.ensures.err s

pub returns-in-Long-clause-on : goal.returns-in-Long-clause-on
returns-in-Long-clause-on g c from edge text s =
    long_on _ from edge (g.N.Notice.noted c.args.notice.now) (g.N.Notice.noted c.end_long.new.notice) _ c.end_long.new.core _ _ _ _ text _ c.in-Long.is c.next.ensures.hears c.next.ensures.kept c.end_long.ensures.kept c.end_long.ensures.more c.end_long.ensures.ok s

pub returns-in-Long-clause-err : goal.returns-in-Long-clause-err
returns-in-Long-clause-err g c from edge text s =
    long_err _ from edge (g.N.Notice.noted c.args.notice.now) (g.N.Notice.noted c.end_long.new.notice) _ c.end_long.new.core _ c.next.new.self _ text _ c.in-Long.is c.next.ensures.hears c.end_long.ensures.err s

pub returns-in-NoMemory-clause-err : goal.returns-in-NoMemory-clause-err
returns-in-NoMemory-clause-err g c from edge text s = on_ended from edge (g.N.Notice.noted c.args.notice.now) _ _ _ text s

pub returns-in-NoMemory-clause-due : goal.returns-in-NoMemory-clause-due
returns-in-NoMemory-clause-due g c = memory_due _

pub returns-in-Message-clause-gave : goal.returns-in-Message-clause-gave
returns-in-Message-clause-gave g c from edge text s is = inl is

pub returns-in-NotYet-clause-gave : goal.returns-in-NotYet-clause-gave
returns-in-NotYet-clause-gave g c from edge text s is = inl is

pub returns-in-Bad-clause-gave : goal.returns-in-Bad-clause-gave
returns-in-Bad-clause-gave g c from edge text s is = inr (gave_bad from edge (g.N.Notice.noted c.args.notice.now) _ _ _ text _ c.in-Bad.bad _ c.in-Bad.is c.next.ensures.hears s)

pub returns-in-Long-clause-gave : goal.returns-in-Long-clause-gave
returns-in-Long-clause-gave g c from edge text s is = inr (gave_long from edge (g.N.Notice.noted c.args.notice.now) _ _ _ text _ _ c.in-Long.is c.next.ensures.hears s)

pub returns-in-NoMemory-clause-gave : goal.returns-in-NoMemory-clause-gave
returns-in-NoMemory-clause-gave g c from edge text s is = inl is

pub returns-in-Message-clause-gives : goal.returns-in-Message-clause-gives
returns-in-Message-clause-gives g c none = message_one _ _ _ _ _ c.in-Message.message _ c.in-Message.is c.next.ensures.hears c.next.ensures.kept c.take_message.ensures.more none

pub returns-in-NotYet-clause-gives : goal.returns-in-NotYet-clause-gives
returns-in-NotYet-clause-gives g c none = open_one _ _ _ _ _ c.in-NotYet.is c.next.ensures.hears c.next.ensures.kept none

pub returns-in-Bad-clause-gives : goal.returns-in-Bad-clause-gives
returns-in-Bad-clause-gives g c none = bad_one _ _ _ _ _ c.in-Bad.bad _ c.in-Bad.is c.next.ensures.hears c.next.ensures.kept c.break_off.ensures.kept c.break_off.ensures.more

pub returns-in-Long-clause-gives : goal.returns-in-Long-clause-gives
returns-in-Long-clause-gives g c none = long_one _ _ _ _ _ _ c.in-Long.is c.next.ensures.hears c.next.ensures.kept c.end_long.ensures.kept c.end_long.ensures.more
