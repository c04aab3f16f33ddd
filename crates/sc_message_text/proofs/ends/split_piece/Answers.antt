use Rattle.std.proofs.Common.{◌+◌, ◌-◌, length, take, drop, sym}
use Rattle.std.proofs.lemmas.List.{take_rest}
use Rattle.sc_message_text.proofs.EndSteps.{pieces_more}
use Rattle.sc_message_text.proofs.ends.split_piece.Goals as goal

pub returns-in-Some-clause-exact : goal.returns-in-Some-clause-exact
returns-in-Some-clause-exact c =
    pieces_more c.args.ending c.args.text.now (take (length c.args.text.now - (c.in-Some.end + 2)) (drop (c.in-Some.end + 2) c.args.text.now)) c.in-Some.end (sym c.in-Some.ensures.exact)
    (take_rest c.args.text.now (c.in-Some.end + 2))
