-- What a PRACK is answered, with what follows it, as one act (RFC 3262 section 3).
use Rattle.std.specs.Prelude.{Option, None, Some}
use Rattle.sc_value.specs.declared.ids.ReqId.{ReqId}
use Rattle.sc_hosts.specs.Scripting.{Script, only, reply}
use Rattle.sc_hosts.specs.Words.{does_not_exist, ok}
use Rattle.sc_offers.specs.Offering.{acknowledges}
use Rattle.sc_offers.specs.declared.pracks.Named.{Named}

-- 481 where it names no offer that waits; else it is acknowledged, and the INVITE is answered 200
unfoldable pub prack_act : ReqId → ReqId → Option Named → Script
prack_act invite req None = only (reply req 481 does_not_exist)
prack_act invite req (Some named) = acknowledges invite req named (only (reply invite 200 ok))
