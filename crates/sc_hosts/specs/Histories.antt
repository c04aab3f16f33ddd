-- An application session as its whole life: how it began, and its turns; and the two forms in which
-- the hosts keep sessions. This project's own.
use Rattle.std.specs.Prelude.{ℕ, List, [], ◌∷◌}
use Rattle.sc_value.specs.declared.ids.AppId.{AppId}
use Rattle.sc_value.specs.declared.message.Request.{Request}
use Rattle.sc_terms.specs.declared.settings.Config.{Config}
use Rattle.sc_state.specs.declared.net.Note.{Note}
use Rattle.sc_state.specs.declared.session.Session.{Session}
use Rattle.sc_hosts.specs.Finishing.{outcome}
use Rattle.sc_hosts.specs.Legs.{fresh}
use Rattle.sc_hosts.specs.Sessions.{Form, Turn}

-- its name, its beginning with the request that began it and the router's note, and its turns, the
-- newest first
pub record History : Type 0 where
  pub app : AppId
  pub epoch : ℕ
  pub began : ℕ
  pub noted : Note
  pub request : Request
  pub turns : List Turn

-- what a session is after a turn
unfoldable pub after_turn : Config → Turn → Session → Session
after_turn config turn session =
    (outcome config turn.ringing session turn.waiting turn.now turn.calls turn.end).session

-- what it is after these turns, the newest first
unfoldable pub session_after : Config → History → List Turn → Session
session_after config history [] =
    fresh config history.app history.epoch history.began history.noted history.request
session_after config history (turn ∷ earlier) =
    after_turn config turn (session_after config history earlier)

-- what it is
unfoldable pub session_of : Config → History → Session
session_of config history = session_after config history history.turns

-- sessions kept as what they are
unfoldable pub as_session : Form Session
as_session = record { begin = fresh; read = λ session. session; turned = after_turn }

-- a life that begins with this request at this moment
unfoldable pub begun_history : AppId → ℕ → ℕ → Note → Request → History
begun_history app epoch began noted request =
    record { app = app; epoch = epoch; began = began; noted = noted; request = request; turns = [] }

-- a life after one turn more
unfoldable pub turned_history : Turn → History → History
turned_history turn history = record history { turns = turn ∷ history.turns }

-- sessions kept as their histories
unfoldable pub as_history : Config → Form History
as_history config = record {
  begin = λ config app epoch began noted request. begun_history app epoch began noted request;
  read = session_of config;
  turned = λ config turn history. turned_history turn history;
}
