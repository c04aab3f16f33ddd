-- A script that is read, or its first fault.
use Rattle.std.proofs.Common.{◌≡◌, ◌<◌, ℕ, true, Option, None, Some, List, length, arith, refl}
use Rattle.std.specs.Prelude.{Ok, Err, nat_lt}
use Rattle.std.proofs.lemmas.Bool.Decides.{nat_tests}
use Rattle.sc_terms.specs.declared.steps.Line.{Line}
use Rattle.sc_tokens.specs.Bytes.{Bytes}
use Rattle.sc_edge.specs.Shelving.{GivesAll, IsLonger}
use Rattle.sc_script.specs.ScriptTexts.{script_of}
use Rattle.sc_replay.specs.Replaying.{IsScriptFault, TellsScript}

too-long : (text : Bytes) → 67108864 < length text → nat_lt 67108864 (length text) ≡ true
too-long text longer = grind (arith, nat_tests, longer)

-- what is told is longer than any script
pub told_longer : (told : Option Bytes) → IsLonger told 67108864 → IsScriptFault told 67108864 7
unfolding IsScriptFault script_of
told_longer None longer = tt
told_longer (Some text) longer = rw (too-long text longer) refl

-- what is told says these lines
pub told_lines : (text : Bytes) (told : Option Bytes) (lines : List Line) → GivesAll text told → script_of text ≡ Ok lines → TellsScript told lines
told_lines text told lines gives is = record { text = text; told_is = gives; script_is = is }

-- what is told has this first fault
pub told_fault : (text : Bytes) (told : Option Bytes) (at kind : ℕ) → GivesAll text told → script_of text ≡ Err (record { at = at; kind = kind }) → IsScriptFault told at kind
unfolding IsScriptFault
told_fault text None at kind gives is = tt
told_fault text (Some all) at kind gives is = rw gives at is
