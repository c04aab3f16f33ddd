-- The scripts of both applications that join two legs.
use Rattle.std.proofs.Common.{◌≡◌, [], true, false, Some, Result, OnOk}
use Rattle.sc_value.specs.declared.no_memory.NoMemory.{NoMemory}
use Rattle.sc_terms.specs.declared.events.Event.{Event}
use Rattle.sc_terms.specs.declared.calls.End.{End}
use Rattle.sc_hosts.specs.Bringing.{Plays}
use Rattle.sc_hosts.specs.Charters.{b2b_script, leg_script, reverse_script}
use Rattle.sc_turn.specs.Working.{Working}
use Rattle.sc_servlets.specs.Brought.{Meets}
use Rattle.sc_apps.specs.Scripted.{IsPlayed, before, end_of_script as ended}
use Rattle.sc_apps.proofs.Playing.{keeps}

pub keeps_b2b : (event : Event) (old new : Working) (played : Result (Unit {0}) NoMemory) (end : End) → old.calls ≡ [] → OnOk played (IsPlayed (leg_script (before false) old.shown event) old new) → end ≡ ended played → Meets end (Plays old.shown (Some (b2b_script old.shown event)) new.calls end)
unfolding b2b_script before
keeps_b2b event old new played end none is end_is = keeps (b2b_script old.shown event) old new played end none is end_is

pub keeps_reverse : (event : Event) (old new : Working) (played : Result (Unit {0}) NoMemory) (end : End) → old.calls ≡ [] → OnOk played (IsPlayed (leg_script (before true) old.shown event) old new) → end ≡ ended played → Meets end (Plays old.shown (Some (reverse_script old.shown event)) new.calls end)
unfolding reverse_script before
keeps_reverse event old new played end none is end_is = keeps (reverse_script old.shown event) old new played end none is end_is
