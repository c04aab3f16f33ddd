use Rattle.std.proofs.lemmas.Bool.Decides.{Decides-eqb}
use Rattle.std.proofs.lemmas.Slice.Eq.{strip_suffix_is}
use Rattle.sc_names.proofs.ReadingLaws.{before_is}
use Rattle.sc_names.proofs.reading.before.Goals as goal

pub returns : goal.returns
returns c = before_is c.args.suffix.now c.args.bytes.now c.strip_suffix.result (strip_suffix_is Decides-eqb c.args.bytes.now c.args.suffix.now c.strip_suffix.result c.strip_suffix.ensures.cases)
