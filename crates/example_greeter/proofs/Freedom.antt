-- A servlet that makes any calls has promised nothing.
use Rattle.std.proofs.Common.{List}
use Rattle.sc_terms.specs.declared.views.View.{View}
use Rattle.sc_terms.specs.declared.events.Event.{Event}
use Rattle.sc_terms.specs.declared.charters.Charter.TheVariants as charters
use Rattle.sc_terms.specs.declared.calls.CallRecord.{CallRecord}
use Rattle.sc_terms.specs.declared.calls.End.{End}
use Rattle.sc_terms.specs.declared.calls.End.TheVariants as ends
use Rattle.sc_hosts.specs.Bringing.{Plays, servlet_script}
use Rattle.sc_servlets.specs.Brought.{Meets, Promises}

pub any_turn : (view : View) (event : Event) (calls : List CallRecord) (end : End) → Meets end (Promises charters.Free view event calls end)
unfolding Meets Promises Plays servlet_script
any_turn view event calls ends.Fine = tt
any_turn view event calls ends.Fault = tt
any_turn view event calls ends.Starved = tt
