-- A step that was due and had no room. This project's own.
use Rattle.std.specs.Prelude.{List}
use Rattle.sc_terms.specs.declared.steps.Step.{Step}
use Rattle.sc_parts.specs.declared.setup.Setup.{Setup}
use Rattle.sc_model.specs.JournalSizes.{HasNoRoom, step_size}
use Rattle.sc_hosts.specs.Histories.{as_session}
use Rattle.sc_hosts.specs.Runs.{Epoch, IsAllowed, net_of}

-- a step is allowed behind the epoch's journal, and the journal as it is kept has no room for it
pub record IsDue (setup : Setup) (epoch : Epoch) (kept : List Step) : Type 0 where
  pub step : Step
  pub allowed : IsAllowed as_session setup (net_of as_session setup epoch) step
  pub full : HasNoRoom setup.config.journal_steps setup.config.journal_bytes kept (step_size step)
