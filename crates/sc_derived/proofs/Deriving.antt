-- The leg of a derived SipSession, by what it takes of its original's.
use Rattle.std.proofs.Common.{◌≡◌, Option, Some, None, refl}
use Rattle.std.specs.Prelude.{option_and_then, false}
use Rattle.sc_value.specs.declared.ids.ReqId.{ReqId}
use Rattle.sc_value.specs.declared.ids.SessId.{SessId}
use Rattle.sc_value.specs.declared.message.Request.{Request}
use Rattle.sc_state.specs.declared.session.Leg.{Leg}
use Rattle.sc_hosts.specs.DerivedSessions.{derived_got, derived_leg}
use Rattle.sc_hosts.specs.Legs.{new_leg}

pub derived_from : (sess : SessId) (leg : Option Leg) (req : ReqId) (came : Option Request)
    → derived_leg sess leg req came
    ≡ record { id = sess; first = Some req; caller = option_and_then (λ (l : Leg). l.caller) leg; dialog = None; got = derived_got came; invalidated = false; overtaken = false }
unfolding derived_leg new_leg
derived_from sess None req came = refl
derived_from sess (Some leg) req came = refl
