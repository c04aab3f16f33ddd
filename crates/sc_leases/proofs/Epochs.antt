-- Leases and journals from the beginning of an epoch on.
use Rattle.std.proofs.Common.{◌≡◌, ℕ, ◌++◌, false, List, subst, sym}
use Rattle.std.specs.List.{All}
use Rattle.sc_terms.specs.declared.steps.Step.{Step}
use Rattle.sc_parts.specs.declared.setup.Setup.{Setup}
use Rattle.sc_state.specs.declared.net.Net.{Net}
use Rattle.sc_servlets.specs.declared.lease.Lease.{Lease}
use Rattle.sc_hosts.specs.Runs.{chained_from, net_from as chained, start, all_sent_from, all_sent, IsLawfulFrom, IsLawful}
use Rattle.sc_hosts.specs.Sessions.{Form}
use Rattle.sc_leases.proofs.Joined.{chained-joined, sent-joined, lawful-joined, lawful-parted}
use Rattle.sc_leases.proofs.LeaseStays.{lease-stays-on}
use Rattle.sc_leases.specs.Leases.{IsLeaseOf, is_own}

module _ {S : Type 0} (form : Form S) (setup : Setup) where
  pub run-joined : (epoch began : ℕ) (before later : List Step) → chained form setup epoch began (before ++ later) ≡ chained_from form setup (chained form setup epoch began before) later
  unfolding chained
  run-joined epoch began before later = chained-joined form setup before (start setup epoch began) later

  pub all-joined : (epoch began : ℕ) (before later : List Step)
      → all_sent form setup epoch began (before ++ later) ≡ all_sent form setup epoch began before ++ all_sent_from form setup (chained form setup epoch began before) later
  unfolding chained all_sent
  all-joined epoch began before later = sent-joined form setup before (start setup epoch began) later

  pub lawful-together : (epoch began : ℕ) (before later : List Step) → IsLawful form setup epoch began before → IsLawfulFrom form setup (chained form setup epoch began before) later → IsLawful form setup epoch began (before ++ later)
  unfolding chained IsLawful
  lawful-together epoch began before later first second = lawful-joined form setup before (start setup epoch began) later first second

  pub lawful-apart : (epoch began : ℕ) (before later : List Step) → IsLawful form setup epoch began (before ++ later) → IsLawful form setup epoch began before × IsLawfulFrom form setup (chained form setup epoch began before) later
  unfolding chained IsLawful
  lawful-apart epoch began before later whole = lawful-parted form setup before (start setup epoch began) later whole

  pub run-stays : (epoch began : ℕ) (before later : List Step) (lease : Lease) → IsLawful form setup epoch began (before ++ later) → All (λ step. is_own lease.app step ≡ false) later
      → IsLeaseOf form setup (chained form setup epoch began before) lease → IsLeaseOf form setup (chained form setup epoch began (before ++ later)) lease
  run-stays epoch began before later lease lawful others shows =
      subst (λ (net : Net S). IsLeaseOf form setup net lease) (sym (run-joined epoch began before later))
      (lease-stays-on form setup later (chained form setup epoch began before) lease (lawful-apart epoch began before later lawful).1 others shows)
