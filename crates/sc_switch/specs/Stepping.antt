-- What a step is to change, before it changes it. This project's own.
use Rattle.std.specs.Prelude.{◌≡◌, ◌<◌, ◌≤◌, ◌+◌, ◌⊎◌, ℕ, length, sum_by}
use Rattle.sc_terms.specs.declared.calls.End.TheVariants as ends
use Rattle.sc_terms.specs.declared.steps.Step.{Step}
use Rattle.sc_parts.specs.declared.setup.Setup.{Setup}
use Rattle.sc_journal.specs.Kept.{Kept}
use Rattle.sc_state.specs.Hosts.{Host}
use Rattle.sc_state.specs.declared.net.Net.{Net}
use Rattle.sc_state.specs.declared.session.Session.{Session}
use Rattle.sc_hosts.specs.Histories.{as_session}
use Rattle.sc_hosts.specs.Runs.{IsAllowed, after_step}
use Rattle.sc_switch.specs.declared.brought.Taken.{Taken}
use Rattle.sc_switch.specs.declared.brought.Taken.TheVariants as takes
use Rattle.sc_switch.specs.declared.refused.StepRefused.{StepRefused}
use Rattle.sc_switch.specs.declared.refused.StepRefused.TheVariants as refused
use Rattle.sc_switch.specs.declared.stepping.Stepped.{Stepped}
use Rattle.sc_switch.specs.Standing.{Fits, IsNet, Known, net_of, step_of}

-- the step that is taken: it, or that of the turn
unfoldable pub taken_step : Taken → Step
taken_step (takes.Step step) = step
taken_step (takes.Turn done) = step_of done

-- it may be taken: a step that is allowed; a turn that is brought for a live lease, and that didn't
-- end for want of memory
unfoldable pub MayBeTaken : Known → Taken → Type 0
MayBeTaken known (takes.Step step) = IsAllowed as_session known.setup (net_of known) step
MayBeTaken known (takes.Turn done) =
    Fits known.setup known.kept done × (done.end ≡ ends.Starved → ⊥)

-- what the step makes of the net, which had nothing on its way outside
pub record IsStepped (setup : Setup) (net : Net Session) (step : Step)
    (made : Stepped) : Type 0 where
  pub sent_is : made.sent ≡ (after_step as_session setup net step).sent
  pub net_is : IsNet (after_step as_session setup net step) made.net made.live made.waiting

-- room was made for a step of so many bytes
pub record HasRoom (journal : Kept Step) (bytes : ℕ) : Type 0 where
  pub room : 0 < journal.room
  pub items : length journal.items < journal.most_items
  pub bytes_fit : journal.used + bytes ≤ journal.most_bytes

-- the journal refuses a step of so many bytes
abbrev pub Refuses : Kept Step → ℕ → StepRefused → Type 0
Refuses journal size (refused.JournalFull steps bytes) =
    (steps ≡ journal.most_items) × (bytes ≡ journal.most_bytes)
    × ((length journal.items ≡ journal.most_items) ⊎ (journal.most_bytes < journal.used + size))
Refuses journal size refused.NoMemory = Unit {0}

-- how many events wait at a host
unfoldable pub waiting_at : Host Session → ℕ
waiting_at host = sum_by (λ live. length live.inbox) host.sessions
