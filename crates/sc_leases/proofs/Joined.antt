-- Two journals, one after the other.
use Rattle.std.proofs.Common.{◌≡◌, ◌++◌, List, [], ◌∷◌, refl, sym, ap, ◌∙◌, append_assoc}
use Rattle.sc_terms.specs.declared.steps.Step.{Step}
use Rattle.sc_parts.specs.declared.setup.Setup.{Setup}
use Rattle.sc_state.specs.declared.net.Net.{Net}
use Rattle.sc_hosts.specs.Runs.{after_step, chained_from, all_sent_from, IsLawfulFrom}
use Rattle.sc_hosts.specs.Sessions.{Form}

module _ {S : Type 0} (form : Form S) (setup : Setup) where
  pub chained-joined : (before : List Step) (net : Net S) (later : List Step) → chained_from form setup net (before ++ later) ≡ chained_from form setup (chained_from form setup net before) later
  unfolding chained_from
  chained-joined [] net later = refl
  chained-joined (step ∷ before) net later = chained-joined before (after_step form setup net step) later

  pub sent-joined : (before : List Step) (net : Net S) (later : List Step)
      → all_sent_from form setup net (before ++ later) ≡ all_sent_from form setup net before ++ all_sent_from form setup (chained_from form setup net before) later
  unfolding chained_from all_sent_from
  sent-joined [] net later = refl
  sent-joined (step ∷ before) net later =
      ap (λ sent. (after_step form setup net step).sent ++ sent) (sent-joined before (after_step form setup net step) later)
      ∙ sym (append_assoc (after_step form setup net step).sent (all_sent_from form setup (after_step form setup net step) before) (all_sent_from form setup (chained_from form setup (after_step form setup net step) before) later))

  pub lawful-joined : (before : List Step) (net : Net S) (later : List Step) → IsLawfulFrom form setup net before → IsLawfulFrom form setup (chained_from form setup net before) later → IsLawfulFrom form setup net (before ++ later)
  unfolding chained_from IsLawfulFrom
  lawful-joined [] net later first second = second
  lawful-joined (step ∷ before) net later first second = (first.0, lawful-joined before (after_step form setup net step) later first.1 second)

  pub lawful-parted : (before : List Step) (net : Net S) (later : List Step) → IsLawfulFrom form setup net (before ++ later) → IsLawfulFrom form setup net before × IsLawfulFrom form setup (chained_from form setup net before) later
  unfolding chained_from IsLawfulFrom
  lawful-parted [] net later whole = (tt, whole)
  lawful-parted (step ∷ before) net later whole =
      let rest = lawful-parted before (after_step form setup net step) later whole.1 in ((whole.0, rest.0), rest.1)
