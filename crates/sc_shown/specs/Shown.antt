-- What a turn shows beside its session, and changes of one element of a list as one function each.
-- This project's own.
use Rattle.std.specs.Prelude.{ℕ, ◌+◌, [], Bool, Some, false, nat_le, nat_lt}
use Rattle.sc_value.specs.declared.ids.SessId.{SessId}
use Rattle.sc_value.specs.declared.message.Request.{Request}
use Rattle.sc_terms.specs.declared.events.Event.TheVariants as events
use Rattle.sc_terms.specs.declared.views.RequestView.{RequestView}
use Rattle.sc_terms.specs.declared.views.Role.{Role}
use Rattle.sc_terms.specs.declared.views.TimerView.{TimerView}
use Rattle.sc_state.specs.declared.session.Session.{Session}
use Rattle.sc_state.specs.declared.working.Prepared.{Prepared}
use Rattle.sc_hosts.specs.Legs.{change_leg, with_request}
use Rattle.sc_hosts.specs.Looking.{is_proxy}
use Rattle.sc_hosts.specs.PreparingRequests.{next_id, showing, with_received_request}
use Rattle.sc_shown.specs.declared.shown.Shown.{Shown}

-- the session with what is shown of it
abbrev pub prepared_as : Session → Shown → Prepared
prepared_as session shown =
    record {
      view = session.view;
      known = session.known;
      event = shown.event;
      req = shown.req;
      orders = shown.orders;
    }

-- a later request taken in a SipSession of this role
unfoldable pub taken_by : Session → ℕ → SessId → Role → Request → Prepared
taken_by session number sess role request =
    let after : Session = with_received_request session number sess false (is_proxy role) request in
    showing (record after { known = change_leg sess (with_request request) after.known })
    (events.Request (next_id session) sess request) (Some (next_id session)) []

-- so many branches more
unfoldable pub more_branches : ℕ → RequestView → RequestView
more_branches count request = record request { branches = request.branches + count }

-- due at this moment
unfoldable pub due_at : ℕ → TimerView → TimerView
due_at due timer = record timer { due = due }

-- the other request has a greater number
abbrev pub is_behind : RequestView → RequestView → Bool
is_behind request other = nat_lt request.id.0 other.id.0

-- the SipSession has no lower number
unfoldable pub follows : SessId → SessId → Bool
follows sess other = nat_le sess.0 other.0
