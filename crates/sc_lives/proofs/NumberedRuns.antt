-- After a journal, the serials of all hosts rise, and each live session is found by its name.
use Rattle.std.proofs.Common.{◌≡◌, ℕ, Some, Option, List, [], ◌∷◌, All, subst, arith}
use Rattle.std.specs.Prelude.{map}
use Rattle.std.proofs.lemmas.List.Elements.{All-nil, All-cons}
use Rattle.sc_terms.specs.declared.settings.AppEntry.{AppEntry}
use Rattle.sc_terms.specs.declared.steps.Step.{Step}
use Rattle.sc_parts.specs.declared.setup.Setup.{Setup}
use Rattle.sc_state.specs.Hosts.{Host}
use Rattle.sc_state.specs.declared.net.Net.{Net}
use Rattle.sc_hosts.specs.Nets.{host_at}
use Rattle.sc_hosts.specs.Runs.{quiet_host, start, after_step, chained_from, net_from as chained}
use Rattle.sc_hosts.specs.Sessions.{Form}
use Rattle.sc_hosts.specs.Steps.{live_at}
use Rattle.sc_lives.proofs.NumberedNets.{after_step-numbered, host_at-numbered}
use Rattle.sc_lives.proofs.Serials.{found-rising}
use Rattle.sc_lives.specs.Numbers.{IsRising, IsNumbered, AreNumbered, IsNumberedAt}

quiet_hosts-numbered : {S : Type 0} (apps : List AppEntry) → All IsNumbered (map (λ app. quiet_host {S = S}) apps)
unfolding quiet_host IsRising
quiet_hosts-numbered [] = All-nil IsNumbered
quiet_hosts-numbered (app ∷ apps) = All-cons IsNumbered _ _ (omega arith) (quiet_hosts-numbered apps)

start-numbered : {S : Type 0} (setup : Setup) (epoch began : ℕ) → AreNumbered (start {S = S} setup epoch began)
unfolding start
start-numbered setup epoch began = quiet_hosts-numbered setup.config.app

-- all steps of a journal
chained_from-numbered : {S : Type 0} (form : Form S) (setup : Setup) (journal : List Step) (net : Net S) → AreNumbered net → AreNumbered (chained_from form setup net journal)
unfolding chained_from
chained_from-numbered form setup [] net numbered = numbered
chained_from-numbered form setup (step ∷ later) net numbered =
    chained_from-numbered form setup later (after_step form setup net step) (after_step-numbered form setup net step numbered)

chained-numbered : {S : Type 0} (form : Form S) (setup : Setup) (epoch began : ℕ) (journal : List Step) → AreNumbered (chained form setup epoch began journal)
unfolding chained
chained-numbered form setup epoch began journal = chained_from-numbered form setup journal (start setup epoch began) (start-numbered setup epoch began)

-- ## Each live session is found

host-numbered : {S : Type 0} (host : Host S) (found : Option (Host S)) → found ≡ Some host → IsNumberedAt found → IsNumbered host
host-numbered host found is numbered = subst IsNumberedAt is numbered

in_net-found : {S : Type 0} (net : Net S) (number : ℕ) (host : Host S) → AreNumbered net → host_at number net ≡ Some host
    → All (λ live. live_at (record { host = number; serial = live.serial }) net ≡ Some live) host.sessions
in_net-found net number host numbered is =
    λ k d under. rw is (found-rising host.sessions 0 host.last (host-numbered host (host_at number net) is (host_at-numbered number net numbered)) k d under)

pub chained-found : {S : Type 0} (form : Form S) (setup : Setup) (epoch began : ℕ) (journal : List Step) (number : ℕ) (host : Host S)
    → host_at number (chained form setup epoch began journal) ≡ Some host
    → All (λ live. live_at (record { host = number; serial = live.serial }) (chained form setup epoch began journal) ≡ Some live) host.sessions
chained-found form setup epoch began journal number host is = in_net-found (chained form setup epoch began journal) number host (chained-numbered form setup epoch began journal) is
