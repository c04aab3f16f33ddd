-- A transaction that stands for a list stands for it with one item more, and what it does is what
-- the definitions say of the list.
use Rattle.std.proofs.Common.{◌≡◌, ℕ, List, Bool, ◌&&◌, refl}
use Rattle.sc_parts.specs.declared.transactions.ClientItem.{ClientItem}
use Rattle.sc_parts.specs.declared.transactions.ServerItem.{ServerItem}
use Rattle.sc_model.specs.ServerTransactions.{is_sent, is_sent_again, is_absorbed, sends_in, repeats_in, absorbs_in}
use Rattle.sc_model.specs.TransactionTables.{output}
use Rattle.sc_stages.specs.Stages.{due_since, client_next, server_next}
use Rattle.sc_stages.specs.Stages as stages
use Rattle.sc_stages.specs.declared.clients.ClientStage.{ClientStage}
use Rattle.sc_stages.specs.declared.servers.ServerStage.{ServerStage}
use Rattle.sc_stages.proofs.ClientStanding as clients
use Rattle.sc_stages.proofs.ServerStanding.{server_more}
use Rattle.sc_txn.specs.Stands.{Client, ClientStands, ClientTakes, ClientDoes, Server, ServerStands, ServerTakes}

-- ## Clients

pub client_of : (invite : Bool) (stage : ClientStage) (sent : ℕ) (passed : List ClientItem) → stages.ClientStands stage invite sent passed → ClientStands (record { invite = invite; stage = stage }) invite sent passed
client_of invite stage sent passed stands = record { invite_is = refl; stage_is = stands }

pub client_takes : (t : Client) (item : ClientItem) → ClientTakes t (record t { stage = client_next t.invite t.stage item }) item
client_takes t item invite sent passed stands = record {
  invite_is = stands.invite_is;
  stage_is = rw stands.invite_is (clients.client_more t.stage invite sent passed item stands.stage_is);
}

pub client_does : (t : Client) (item : ClientItem) → ClientDoes t item (output t.invite t.stage.state (due_since t.stage.begun) t.stage.asked item)
client_does t item invite sent passed stands = rw stands.invite_is (clients.client_does t.stage (output invite t.stage.state (due_since t.stage.begun) t.stage.asked item) invite sent passed item stands.stage_is refl)

-- ## Servers

pub server_of : (invite : Bool) (stage : ServerStage) (passed : List ServerItem) → stages.ServerStands stage invite passed → ServerStands (record { invite = invite; stage = stage }) invite passed
server_of invite stage passed stands = record { invite_is = refl; stage_is = stands }

pub server_takes : (t : Server) (item : ServerItem) → ServerTakes t (record t { stage = server_next t.invite t.stage item }) item
server_takes t item invite passed stands = record {
  invite_is = stands.invite_is;
  stage_is = rw stands.invite_is (server_more t.stage invite passed item stands.stage_is);
}

module _ (t : Server) (invite : Bool) (passed : List ServerItem) (stands : ServerStands t invite passed) where
  pub server_again : (t.stage.answered && repeats_in t.stage.state) ≡ is_sent_again invite passed
  unfolding is_sent_again
  server_again = rw (stands.stage_is.answered_is, stands.stage_is.state_is) refl

  pub server_sends : (code : ℕ) → sends_in t.invite t.stage.state code ≡ is_sent invite passed code
  unfolding is_sent
  server_sends code = rw (stands.invite_is, stands.stage_is.state_is) refl

  pub server_absorbs : absorbs_in t.stage.state ≡ is_absorbed invite passed
  unfolding is_absorbed
  server_absorbs = rw stands.stage_is.state_is refl
