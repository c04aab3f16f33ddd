-- Laws of runs: what a journal's beginning sends is the beginning of what it sends.
use Rattle.std.proofs.Common.{◌≡◌, ℕ, List, [], ◌∷◌, ◌++◌, refl}
use Rattle.std.proofs.Common.{append_assoc, sym}
use Rattle.sc_terms.specs.declared.steps.Step.{Step}
use Rattle.sc_parts.specs.declared.setup.Setup.{Setup}
use Rattle.sc_state.specs.declared.net.Net.{Net}
use Rattle.sc_hosts.proofs.InnerReplies.{delivery-sends-nothing}
use Rattle.sc_hosts.proofs.SettleLaws.{settle-keeps}
use Rattle.sc_hosts.specs.Nets.{is_busy, deliver_first, weight}
use Rattle.sc_hosts.specs.Runs.{after_delivery as delivered, after_step, chained_from, all_sent_from, all_sent, start, net_from as chained}
use Rattle.sc_hosts.specs.Sessions.{Form}

-- deliveries send nothing outside
pub deliveries-send-nothing : {S : Type 0} (form : Form S) (setup : Setup) (net : Net S) → (delivered form setup net).sent ≡ net.sent
unfolding delivered
deliveries-send-nothing form setup net =
    settle-keeps is_busy (deliver_first form setup) weight (λ net. net.sent) (delivery-sends-nothing form setup) net

-- what a longer journal sends
sent-from : {S : Type 0} (begun : List Step) (form : Form S) (setup : Setup) (net : Net S) (later : List Step)
    → all_sent_from form setup net (begun ++ later) ≡ all_sent_from form setup net begun ++ all_sent_from form setup (chained_from form setup net begun) later
unfolding all_sent_from chained_from
sent-from [] form setup net later = refl
sent-from (step ∷ steps) form setup net later =
    rw (sent-from steps form setup (after_step form setup net step) later)
    (sym (append_assoc (after_step form setup net step).sent (all_sent_from form setup (after_step form setup net step) steps) _))

-- the beginning of a journal sends the beginning
pub sent-of-beginning : {S : Type 0} (form : Form S) (setup : Setup) (epoch began : ℕ) (begun later : List Step)
    → all_sent form setup epoch began (begun ++ later) ≡ all_sent form setup epoch began begun ++ all_sent_from form setup (chained form setup epoch began begun) later
unfolding all_sent chained
sent-of-beginning form setup epoch began begun later = sent-from begun form setup (start setup epoch began) later
