-- Which client transactions ring (RFC 3261 section 16.8).
use Rattle.std.specs.Prelude.{Bool, ◌&&◌}
use Rattle.sc_value.specs.declared.ids.AppId.{AppId}
use Rattle.sc_state.specs.declared.host.Client.{Client}
use Rattle.sc_model.specs.Transactions.{has_provisional}
use Rattle.sc_hosts.specs.Transacting.{is_same_app, is_invite_client}

-- an INVITE of this session that has had a provisional response
abbrev pub is_ringing : AppId → Client → Bool
is_ringing app client =
    is_same_app client.app app && is_invite_client client && has_provisional client.passed
