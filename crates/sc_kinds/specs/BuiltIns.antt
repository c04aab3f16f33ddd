-- The charters of the applications that every container comes with, which are this project's own.
use Rattle.sc_terms.specs.declared.charters.Charter.{Charter}
use Rattle.sc_terms.specs.declared.charters.Charter.TheVariants as charters
use Rattle.sc_kinds.specs.declared.built_in.BuiltIn.{BuiltIn}
use Rattle.sc_kinds.specs.declared.built_in.BuiltIn.TheVariants as kinds

-- the charter that its servlet keeps
unfoldable pub charter_of : BuiltIn → Charter
charter_of kinds.Answer = charters.Answer
charter_of kinds.Block = charters.Block
charter_of kinds.Forward = charters.Forward
charter_of kinds.Fork = charters.Fork
charter_of kinds.Recorder = charters.Recorder
charter_of kinds.B2b = charters.B2b
charter_of kinds.Dial = charters.Dial
charter_of kinds.Reverse = charters.Reverse
charter_of kinds.Ringer = charters.Ringer
charter_of kinds.Early = charters.Early
charter_of kinds.Timed = charters.Timed
charter_of kinds.Notify = charters.Notify
