-- A host as contracts see it: plain lists. This project's own.
use Rattle.std.specs.Prelude.{ℕ, List}
use Rattle.sc_state.specs.declared.host.Client.{Client}
use Rattle.sc_state.specs.declared.host.Live.{Live}
use Rattle.sc_state.specs.declared.host.Server.{Server}

-- its transactions and its sessions in the order in which they began, and the serial of its last
-- session
pub record Host (S : Type 0) : Type 0 where
  pub clients : List Client
  pub servers : List Server
  pub sessions : List (Live S)
  pub last : ℕ
