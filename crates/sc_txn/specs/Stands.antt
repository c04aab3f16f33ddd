-- What a transaction of the code holds, and which lists of what has passed a transaction it stands
-- for (RFC 3261 section 17, RFC 6026).
use Rattle.std.specs.Prelude.{◌≡◌, ℕ, Bool, List, ◌∷◌, is_some}
use Rattle.sc_parts.specs.declared.transactions.ClientOut.{ClientOut}
use Rattle.sc_parts.specs.declared.transactions.ClientItem.{ClientItem}
use Rattle.sc_parts.specs.declared.transactions.ServerItem.{ServerItem}
use Rattle.sc_model.specs.ServerTransactions.{final_answer}
use Rattle.sc_model.specs.Transactions.{client_out, has_provisional}
use Rattle.sc_stages.specs.Stages as stages
use Rattle.sc_stages.specs.declared.clients.ClientStage.{ClientStage}
use Rattle.sc_stages.specs.declared.servers.ServerStage.{ServerStage}

-- what a client transaction holds: whether its request is an INVITE, and what has become of it
pub record Client : Type 0 where
  pub invite : Bool
  pub stage : ClientStage

-- it stands for a transaction, sent at a moment, that these items have passed
pub record ClientStands (t : Client) (invite : Bool) (sent : ℕ)
    (passed : List ClientItem) : Type 0 where
  pub invite_is : t.invite ≡ invite
  pub stage_is : stages.ClientStands t.stage invite sent passed

-- for every list that it stood for, it stands for that list with this item more
abbrev pub ClientTakes : Client → Client → ClientItem → Type 0
ClientTakes old new item =
    (invite : Bool) (sent : ℕ) (passed : List ClientItem) → ClientStands old invite sent passed
    → ClientStands new invite sent (item ∷ passed)

-- for every list that it stood for, this is what such a transaction does with the item
abbrev pub ClientDoes : Client → ClientItem → ClientOut → Type 0
ClientDoes old item out =
    (invite : Bool) (sent : ℕ) (passed : List ClientItem) → ClientStands old invite sent passed
    → out ≡ client_out invite sent passed item

-- what a server transaction holds: whether its request is an INVITE, and what has become of it
pub record Server : Type 0 where
  pub invite : Bool
  pub stage : ServerStage

-- it stands for a transaction that these items have passed
pub record ServerStands (t : Server) (invite : Bool) (passed : List ServerItem) : Type 0 where
  pub invite_is : t.invite ≡ invite
  pub stage_is : stages.ServerStands t.stage invite passed

-- for every list that it stood for, it stands for that list with this item more
abbrev pub ServerTakes : Server → Server → ServerItem → Type 0
ServerTakes old new item =
    (invite : Bool) (passed : List ServerItem) → ServerStands old invite passed
    → ServerStands new invite (item ∷ passed)

-- ## What is told without a look at the list

-- of a client transaction: what has become of it, and whether a provisional response came
pub record ClientTold (t : Client) (sent : ℕ) (provisional : Bool)
    (passed : List ClientItem) : Type 0 where
  pub stands : ClientStands t t.invite sent passed
  pub provisional_is : provisional ≡ has_provisional passed

-- of a server transaction: what has become of it, and whether a final answer was given
pub record ServerTold (t : Server) (decided : Bool) (passed : List ServerItem) : Type 0 where
  pub stands : ServerStands t t.invite passed
  pub decided_is : decided ≡ is_some (final_answer passed)
