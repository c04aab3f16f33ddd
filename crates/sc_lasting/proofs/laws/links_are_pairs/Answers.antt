use Rattle.sc_state.specs.declared.session.Session.{Session}
use Rattle.sc_lasting.specs.Lasting.{ArePaired}
use Rattle.sc_lasting.proofs.Linked.{links-are-pairs}
use Rattle.sc_lasting.proofs.Lives.{live-is}
use Rattle.sc_lasting.proofs.laws.links_are_pairs.Goals as goal

pub returns-clause-life : goal.returns-clause-life
returns-clause-life c = links-are-pairs

pub returns-clause-live : goal.returns-clause-live
returns-clause-live c = λ setup epoch began journal app live is. live-is (λ (session : Session). ArePaired session.view) setup (links-are-pairs setup.config) epoch began journal app live is
