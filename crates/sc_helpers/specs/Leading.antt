-- The beginning of a script: some calls, after which it goes on or, where one was refused, is done.
-- This project's own.
use Rattle.std.specs.Prelude.{ℕ, Bool, true, false, Option, None, Some, option_map}
use Rattle.sc_value.specs.declared.ids.TimerId.{TimerId}
use Rattle.sc_terms.specs.declared.views.View.{View}
use Rattle.sc_terms.specs.declared.calls.Call.TheVariants as calls
use Rattle.sc_tokens.specs.Bytes.{Bytes}
use Rattle.sc_hosts.specs.Looking.{timer_in}
use Rattle.sc_hosts.specs.Scripting.{Script}
use Rattle.sc_hosts.specs.HelperParts.{accepted_then}
use Rattle.sc_turn.specs.Working.{Working}
use Rattle.sc_apps.specs.Scripted.{IsPlayed}

-- these calls were made: then the script goes on, or it is done whatever would follow
unfoldable pub IsLed : (Script → Script) → Bool → Working → Working → Type 0
IsLed part true old mid =
    (script : Script) (last : Working) → IsPlayed script mid last → IsPlayed (part script) old last
IsLed part false old mid = (script : Script) → IsPlayed (part script) old mid

-- a timer is cancelled where there is one
unfoldable pub cancel_some : Option TimerId → Script → Script
cancel_some None = λ script. script
cancel_some (Some id) = λ script. accepted_then (calls.CancelTimer id) script

-- an attribute is removed where it is set
unfoldable pub remove_if : Bool → Bytes → Script → Script
remove_if true name = λ script. accepted_then (calls.RemoveAttribute name) script
remove_if false name = λ script. script

-- the running timer of this number
unfoldable pub timer_named : View → ℕ → Option TimerId
timer_named view n = option_map (λ timer. timer.id) (timer_in view (record { 0 = n }))
