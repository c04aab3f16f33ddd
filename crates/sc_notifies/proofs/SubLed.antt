-- The end of a subscription, and what follows it.
use Rattle.std.proofs.Common.{ℕ, Bool, Result, Ok, Err}
use Rattle.sc_value.specs.declared.ids.SessId.{SessId}
use Rattle.sc_tokens.specs.Bytes.{Bytes}
use Rattle.sc_hosts.specs.Scripting.{Script}
use Rattle.sc_turn.specs.Working.{Working}
use Rattle.sc_helpers.specs.Leading.{cancel_some, remove_if}
use Rattle.sc_helpers.specs.Stopping.{Goes, Leads}
use Rattle.sc_helpers.specs.declared.stopping.Stopped.{Stopped}
use Rattle.sc_notifies.specs.SubScripts.{without_subscription as cleared, without_attributes as unnamed}
use Rattle.sc_notifies.specs.declared.standing.Standing.{Standing}
use Rattle.sc_helpers.proofs.Steps.{both_led, none_led}

pub cleared_both : (standing : Standing) (sess : SessId) (before middle : ℕ) (old mid new : Working) (out : Result ℕ Stopped) → Leads (cancel_some standing.running) before old (Ok middle) mid → Leads (unnamed standing sess) middle mid out new
    → Leads (cleared standing sess) before old out new
unfolding cleared
cleared_both standing sess before middle old mid new out led more = both_led (cancel_some standing.running) (unnamed standing sess) before middle old mid new out led more

pub cleared_none : (standing : Standing) (sess : SessId) (before : ℕ) (old new : Working) (stop : Stopped) → Leads (cancel_some standing.running) before old (Err stop) new → Leads (cleared standing sess) before old (Err stop) new
unfolding cleared
cleared_none standing sess before old new stop led = none_led (cancel_some standing.running) (unnamed standing sess) before old new stop led

pub unnamed_both : (first second : Bool) (a b : Bytes) (before middle : ℕ) (old mid new : Working) (out : Result ℕ Stopped) → Leads (remove_if first a) before old (Ok middle) mid → Leads (remove_if second b) middle mid out new
    → Leads (λ script. remove_if first a (remove_if second b script)) before old out new
unnamed_both first second a b before middle old mid new out led more = both_led (remove_if first a) (remove_if second b) before middle old mid new out led more

pub unnamed_none : (first second : Bool) (a b : Bytes) (before : ℕ) (old new : Working) (stop : Stopped) → Leads (remove_if first a) before old (Err stop) new → Leads (λ script. remove_if first a (remove_if second b script)) before old (Err stop) new
unnamed_none first second a b before old new stop led = none_led (remove_if first a) (remove_if second b) before old new stop led

pub cleared_on : (standing : Standing) (sess : SessId) (script : Script) (before after : ℕ) (old mid new : Working) (result : Result (Unit {0}) Stopped) → Leads (cleared standing sess) before old (Ok after) mid → Goes after script mid result new
    → Goes before (cleared standing sess script) old result new
unfolding Leads
cleared_on standing sess script before after old mid new result led rest = led script result new rest

pub cleared_off : (standing : Standing) (sess : SessId) (script : Script) (before : ℕ) (old new : Working) (stop : Stopped) → Leads (cleared standing sess) before old (Err stop) new → Goes before (cleared standing sess script) old (Err stop) new
unfolding Leads
cleared_off standing sess script before old new stop led = led script
