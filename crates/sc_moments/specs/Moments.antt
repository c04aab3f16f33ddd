-- The moments that a journal and a script say: those of their ticks. This project's own.
use Rattle.std.specs.Prelude.{ℕ, List, Option, None, Some}
use Rattle.std.specs.List.{filter_map}
use Rattle.sc_terms.specs.declared.steps.Line.{Line}
use Rattle.sc_terms.specs.declared.steps.Line.TheVariants as lines
use Rattle.sc_terms.specs.declared.steps.Step.{Step}
use Rattle.sc_terms.specs.declared.steps.Step.TheVariants as steps

-- the moment after a step: that of a tick, else the one before
unfoldable pub moment_of : ℕ → Step → ℕ
moment_of moment (steps.Tick now) = now
moment_of moment step = moment

-- the moment that a step says
unfoldable pub tick_of : Step → Option ℕ
tick_of (steps.Tick now) = Some now
tick_of step = None

-- the moments of the ticks of a journal, in order
unfoldable pub ticks_of : List Step → List ℕ
ticks_of journal = filter_map tick_of journal

-- the moment that a line says
unfoldable pub tick_in : Line → Option ℕ
tick_in (lines.Tick now) = Some now
tick_in line = None

-- the moments of the ticks of a script, in order
unfoldable pub ticks_in : List Line → List ℕ
ticks_in script = filter_map tick_in script
