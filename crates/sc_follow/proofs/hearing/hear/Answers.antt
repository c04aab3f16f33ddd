use Rattle.sc_follow.proofs.Hearings.{some_via, message_heard, message_cut, end_heard, bad_heard, bad_cut, long_heard, long_cut, cut_none}
use Rattle.sc_streams.proofs.Pendings.{kept_as, kept_at, kept_through}
use Rattle.sc_follow.proofs.hearing.hear.Goals as goal

pub take_message-requires-clause-via : goal.take_message-requires-clause-via
take_message-requires-clause-via c = some_via _ _ _ _ c.in-Message.is c.next.ensures.hears

pub returns-in-Message-clause-heard : goal.returns-in-Message-clause-heard
returns-in-Message-clause-heard c = message_heard _ c.in-Message.message _ _ _ _ _ c.take_message.result c.in-Message.is c.next.ensures.hears c.take_message.ensures.ok

pub returns-in-Message-clause-err : goal.returns-in-Message-clause-err
returns-in-Message-clause-err c = message_cut _ c.in-Message.message _ _ _ _ _ c.take_message.result c.in-Message.is c.next.ensures.hears c.requires.untaken c.take_message.ensures.same c.take_message.ensures.stopped

pub returns-in-NotYet-clause-heard : goal.returns-in-NotYet-clause-heard
returns-in-NotYet-clause-heard c = end_heard _ _ _ _ _ c.in-NotYet.is c.next.ensures.hears c.requires.untaken c.requires.free

pub returns-in-Bad-clause-heard : goal.returns-in-Bad-clause-heard
returns-in-Bad-clause-heard c = bad_heard _ c.in-Bad.bad _ _ _ _ _ _ c.end_bad.result c.in-Bad.is c.next.ensures.hears (kept_at _ _ _ _ c.end_bad.ensures.kept) c.end_bad.ensures.ok

pub returns-in-Bad-clause-err : goal.returns-in-Bad-clause-err
returns-in-Bad-clause-err c = bad_cut _ c.in-Bad.bad _ _ _ _ _ c.end_bad.result c.in-Bad.is c.next.ensures.hears c.end_bad.ensures.err

pub returns-in-Long-clause-heard : goal.returns-in-Long-clause-heard
returns-in-Long-clause-heard c = long_heard _ _ _ _ _ _ _ c.end_long.result c.in-Long.is c.next.ensures.hears (kept_at _ _ _ _ c.end_long.ensures.kept) c.end_long.ensures.ok

pub returns-in-Long-clause-err : goal.returns-in-Long-clause-err
returns-in-Long-clause-err c = long_cut _ _ _ _ _ _ c.end_long.result c.in-Long.is c.next.ensures.hears c.requires.untaken c.end_long.ensures.same c.end_long.ensures.stopped

pub returns-in-NoMemory-clause-err : goal.returns-in-NoMemory-clause-err
returns-in-NoMemory-clause-err c = cut_none _ _ _ c.requires.untaken

pub returns-in-Bad-clause-kept : goal.returns-in-Bad-clause-kept
returns-in-Bad-clause-kept c = kept_as _ _ _ _ (kept_through _ _ _ _ _ _ c.next.ensures.kept c.end_bad.ensures.kept)

pub returns-in-Long-clause-kept : goal.returns-in-Long-clause-kept
returns-in-Long-clause-kept c = kept_as _ _ _ _ (kept_through _ _ _ _ _ _ c.next.ensures.kept c.end_long.ensures.kept)
