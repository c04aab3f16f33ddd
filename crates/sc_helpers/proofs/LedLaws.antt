-- A call at the beginning of a script, and what follows it.
use Rattle.std.proofs.Common.{◌≡◌, Bool, true, false, not, refl, sym}
use Rattle.std.proofs.lemmas.Bool.{false≢true}
use Rattle.sc_terms.specs.declared.calls.Call.{Call}
use Rattle.sc_terms.specs.declared.calls.CallAnswer.{CallAnswer}
use Rattle.sc_hosts.specs.Scripting.{Script, is_refused}
use Rattle.sc_hosts.specs.HelperParts.{accepted_then}
use Rattle.sc_turn.specs.Working.{Working}
use Rattle.sc_apps.specs.Scripted.{IsMade, IsPlayed}
use Rattle.sc_apps.proofs.Playing.{played_done, played_make}
use Rattle.sc_helpers.specs.Leading.{IsLed}

-- ## One call

made_by : (call : Call) (old mid : Working) (answer : CallAnswer) (refused : Bool) → is_refused answer ≡ refused → IsMade call old answer mid → IsLed (accepted_then call) (not refused) old mid
unfolding IsLed accepted_then
made_by call old mid answer true e made = λ script. played_make call _ old mid mid answer made (rw e (played_done mid))
made_by call old mid answer false e made = λ script last rest. played_make call _ old mid last answer made (rw e rest)

pub led_made : (call : Call) (old mid : Working) (answer : CallAnswer) → IsMade call old answer mid → IsLed (accepted_then call) (not (is_refused answer)) old mid
led_made call old mid answer made = made_by call old mid answer (is_refused answer) refl made

-- ## What follows

pub on_by : (part : Script → Script) (script : Script) (old mid new : Working) (on : Bool) → on ≡ true → IsLed part on old mid → IsPlayed script mid new → IsPlayed (part script) old new
unfolding IsLed
on_by part script old mid new true e led rest = led script new rest
on_by part script old mid new false e led rest = absurd (false≢true e)

pub off_by : (part : Script → Script) (script : Script) (old new : Working) (on : Bool) → on ≡ false → IsLed part on old new → IsPlayed (part script) old new
unfolding IsLed
off_by part script old new true e led = absurd (false≢true (sym e))
off_by part script old new false e led = led script

pub accepted_on : (call : Call) (script : Script) (old mid new : Working) (on : Bool) → on ≡ true → IsLed (accepted_then call) on old mid → IsPlayed script mid new → IsPlayed (accepted_then call script) old new
accepted_on call script old mid new on e led rest = on_by (accepted_then call) script old mid new on e led rest

pub accepted_off : (call : Call) (script : Script) (old new : Working) (on : Bool) → on ≡ false → IsLed (accepted_then call) on old new → IsPlayed (accepted_then call script) old new
accepted_off call script old new on e led = off_by (accepted_then call) script old new on e led
