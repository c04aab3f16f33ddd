-- The end of a session timer, and what follows it.
use Rattle.std.proofs.Common.{ℕ, Result, Ok, Err}
use Rattle.sc_hosts.specs.Scripting.{Script}
use Rattle.sc_turn.specs.Working.{Working}
use Rattle.sc_helpers.specs.Leading.{cancel_some, remove_if}
use Rattle.sc_helpers.specs.Stopping.{Goes, Leads}
use Rattle.sc_helpers.specs.declared.stopping.Stopped.{Stopped}
use Rattle.sc_refreshes.specs.TimedScripts.{script_with_stop as stopped}
use Rattle.sc_refreshes.specs.declared.stopping.Stop.{Stop}
use Rattle.sc_helpers.proofs.Steps.{both_led, none_led}

pub stopped_both : (what : Stop) (before middle : ℕ) (old mid new : Working) (out : Result ℕ Stopped) → Leads (cancel_some what.running) before old (Ok middle) mid → Leads (remove_if what.set what.name) middle mid out new
    → Leads (stopped what) before old out new
unfolding stopped
stopped_both what before middle old mid new out led more = both_led (cancel_some what.running) (remove_if what.set what.name) before middle old mid new out led more

pub stopped_none : (what : Stop) (before : ℕ) (old new : Working) (stop : Stopped) → Leads (cancel_some what.running) before old (Err stop) new → Leads (stopped what) before old (Err stop) new
unfolding stopped
stopped_none what before old new stop led = none_led (cancel_some what.running) (remove_if what.set what.name) before old new stop led

pub stopped_on : (what : Stop) (script : Script) (before after : ℕ) (old mid new : Working) (result : Result (Unit {0}) Stopped) → Leads (stopped what) before old (Ok after) mid → Goes after script mid result new
    → Goes before (stopped what script) old result new
unfolding Leads
stopped_on what script before after old mid new result led rest = led script result new rest

pub stopped_off : (what : Stop) (script : Script) (before : ℕ) (old new : Working) (stop : Stopped) → Leads (stopped what) before old (Err stop) new → Goes before (stopped what script) old (Err stop) new
unfolding Leads
stopped_off what script before old new stop led = led script
