-- Why a step was refused. This project's own.
use Rattle.sc_model.specs.Settings.{IsSetup}
use Rattle.sc_switch.specs.declared.refused.StepRefused.{StepRefused}
use Rattle.sc_switch.specs.declared.refused.StepRefused.TheVariants as refused
use Rattle.sc_switch.specs.Standing.{Known}
use Rattle.sc_courses.specs.Due.{IsDue}
use Rattle.sc_rounds.specs.Serving.{running}

-- for want of room a step is due there, under right settings
unfoldable pub HasDue : Known → StepRefused → Type 0
HasDue known (refused.JournalFull steps bytes) =
    IsSetup known.setup → IsDue known.setup (running known) known.journal
HasDue known refused.NoMemory = Unit {0}
