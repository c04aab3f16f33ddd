use Rattle.std.proofs.Common.{◌+◌, ◌-◌, length, take, drop}
use Rattle.std.proofs.lemmas.List.{take_rest}
use Rattle.sc_syntax.specs.declared.ending.Ending.TheVariants.{Unfolded}
use Rattle.sc_message_text.proofs.EndSteps.{pieces_more}
use Rattle.sc_message_text.proofs.heads.split_line.Goals as goal

pub returns-in-Some-clause-exact : goal.returns-in-Some-clause-exact
returns-in-Some-clause-exact c =
    pieces_more Unfolded c.args.text.now (take (length c.args.text.now - (c.in-Some.end + 2)) (drop (c.in-Some.end + 2) c.args.text.now)) c.in-Some.end c.in-Some.ensures.exact
    (take_rest c.args.text.now (c.in-Some.end + 2))
