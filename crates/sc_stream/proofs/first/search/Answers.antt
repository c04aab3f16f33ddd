use Rattle.std.proofs.Common.{sym}
use Rattle.sc_stream.proofs.Knowing.{searched_all}
use Rattle.sc_stream.proofs.first.search.Goals as goal

pub returns-in-None-clause-known : goal.returns-in-None-clause-known
returns-in-None-clause-known c = searched_all c.args.text.now c.within_limit.result.now c.within_limit.ensures.exact (sym c.in-None.ensures.exact)
