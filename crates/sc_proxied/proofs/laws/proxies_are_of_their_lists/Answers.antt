use Rattle.sc_proxied.proofs.Happenings.{proxies-stand}
use Rattle.sc_proxied.proofs.laws.proxies_are_of_their_lists.Goals as goal

pub returns : goal.returns
returns c = proxies-stand
