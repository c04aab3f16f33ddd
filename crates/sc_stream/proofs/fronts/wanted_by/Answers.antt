use Rattle.sc_stream.proofs.Telling.{refused_told, told_ok}
use Rattle.sc_stream.proofs.fronts.wanted_by.Goals as goal

pub returns-in-Err-Refused : goal.returns-in-Err-Refused
returns-in-Err-Refused c =
    told_ok c.wanted_never.result (λ told is. refused_told told c.args.head.now c.in-Err-Refused.at c.in-Err-Refused.kind (rw c.in-Err-Refused.field-0-is at c.in-Err-Refused.ensures) is) c.wanted_never.ensures
