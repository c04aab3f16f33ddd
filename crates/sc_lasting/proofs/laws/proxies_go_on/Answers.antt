use Rattle.sc_lasting.proofs.Proxied.{proxies-go-on}
use Rattle.sc_lasting.proofs.laws.proxies_go_on.Goals as goal

pub returns : goal.returns
returns c = proxies-go-on
