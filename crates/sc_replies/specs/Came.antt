-- The requests that came to an application session, by the numbers of the events that brought them,
-- and that it keeps them so: the answer to a request that is kept goes by its event (RFC 3261
-- section 8.2.6).
use Rattle.std.specs.Prelude.{◌≡◌, ◌⊎◌, ℕ, List, [], ◌∷◌, ◌++◌, Option, option_map}
use Rattle.std.specs.List.{find}
use Rattle.sc_value.specs.declared.ids.AppId.{AppId}
use Rattle.sc_value.specs.declared.ids.ReqId.{ReqId}
use Rattle.sc_value.specs.declared.message.Request.{Request}
use Rattle.sc_terms.specs.declared.settings.Config.{Config}
use Rattle.sc_parts.specs.declared.setup.Setup.{Setup}
use Rattle.sc_state.specs.declared.queue.Queued.{Queued}
use Rattle.sc_state.specs.declared.queue.Queued.TheVariants as queued
use Rattle.sc_state.specs.declared.queue.Waiting.{Waiting}
use Rattle.sc_state.specs.declared.session.Invited.{Invited}
use Rattle.sc_state.specs.declared.session.Kept.{Kept}
use Rattle.sc_state.specs.declared.session.Known.{Known}
use Rattle.sc_state.specs.declared.session.Session.{Session}
use Rattle.sc_state.specs.declared.session.Way.TheVariants.{Received}
use Rattle.sc_hosts.specs.Histories.{History, session_after, session_of}
use Rattle.sc_hosts.specs.Looking.{same_request}
use Rattle.sc_hosts.specs.PreparingRequests.{next_id}
use Rattle.sc_hosts.specs.Sessions.{Turn}
use Rattle.sc_lasting.specs.Lasting.{All}
use Rattle.sc_lived.specs.Lived.{IsLived, Told}

-- ## What came

-- a request that came: the number by which the session knows it, and that of its event
pub record Came : Type 0 where
  pub id : ReqId
  pub event : ℕ
  pub request : Request

-- what an event of this number brings
unfoldable pub came_by_event : Session → ℕ → Queued → List Came
came_by_event session number (queued.Initial region subscriber popped request) =
    record { id = next_id session; event = number; request = request } ∷ []
came_by_event session number (queued.Request request) =
    record { id = next_id session; event = number; request = request } ∷ []
came_by_event session number event = []

-- what the events of these turns of a history brought, the oldest first
unfoldable pub came_of : Config → History → List Turn → List Came
came_of config history [] = []
came_of config history (turn ∷ earlier) =
    came_of config history earlier
    ++ came_by_event (session_after config history earlier) turn.waiting.number turn.waiting.event

-- it is one of these
unfoldable pub IsAmong : Came → List Came → Type 0
IsAmong one [] = ⊥
IsAmong one (other ∷ more) = (other ≡ one) ⊎ IsAmong one more

-- no two of them came under one number
unfoldable pub AreSingle : List Came → Type 0
AreSingle [] = Unit {0}
AreSingle (one ∷ more) = All (λ (other : Came). other.id ≡ one.id → ⊥) more × AreSingle more

-- the event that brought the request of this number
unfoldable pub brought_by : List Came → ReqId → Option ℕ
brought_by came req =
    option_map (λ (one : Came). one.event) (find (λ (one : Came). same_request one.id req) came)

-- ## What is kept of it

-- a request that is kept as one that came under an event's number is the one that this event
-- brought
unfoldable pub IsKeptAsCame : List Came → Kept → Type 0
IsKeptAsCame came kept =
    (event : ℕ) → kept.way ≡ Received event
    → IsAmong (record { id = kept.id; event = event; request = kept.request }) came

-- an INVITE that can be cancelled under an event's number is of a request that this event brought
unfoldable pub IsInvitedAsCame : List Came → Invited → Type 0
IsInvitedAsCame came invited =
    (request : Request)
    × IsAmong (record { id = invited.req; event = invited.event; request = request }) came

-- so it is of all that a session keeps
abbrev pub AreAsTheyCame : List Came → Known → Type 0
AreAsTheyCame came known =
    All (IsKeptAsCame came) known.kept × All (IsInvitedAsCame came) known.invited

-- ## Live sessions

-- what the journal tells of a session is its life, it keeps what came in that as it came, and each
-- request came under a number of its own
pub record HaveKept (setup : Setup) (app : AppId) (given : List Told) (history : History)
    (session : Session) (inbox : List Waiting) : Type 0 where
  pub lived : IsLived setup app given history inbox
  pub kept : AreAsTheyCame (came_of setup.config history history.turns) session.known
  pub single : AreSingle (came_of setup.config history history.turns)

-- what the session is comes of such a history
pub record HasKept (setup : Setup) (app : AppId) (given : List Told) (session : Session)
    (inbox : List Waiting) : Type 0 where
  pub history : History
  pub is : session ≡ session_of setup.config history
  pub have : HaveKept setup app given history session inbox
