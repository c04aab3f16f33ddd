-- What goes away at the end of a turn, one thing at a time (JSR 289 section 6.2.4).
use Rattle.std.specs.Prelude.{List, Bool, not, ◌&&◌}
use Rattle.std.specs.List.{find}
use Rattle.sc_value.specs.declared.ids.SessId.{SessId}
use Rattle.sc_tokens.specs.Names.{same_bytes}
use Rattle.sc_terms.specs.declared.views.View.{View}
use Rattle.sc_terms.specs.declared.views.RequestView.{RequestView}
use Rattle.sc_terms.specs.declared.views.SessionView.{SessionView}
use Rattle.sc_state.specs.declared.session.Kept.{Kept}
use Rattle.sc_state.specs.declared.session.Known.{Known}
use Rattle.sc_state.specs.declared.session.Leg.{Leg}
use Rattle.sc_hosts.specs.Finishing.{is_needed, is_session_ready}
use Rattle.sc_hosts.specs.Legs.{is_leg_of}
use Rattle.sc_hosts.specs.Looking.{without_sip_session}
use Rattle.sc_model.specs.SessionStates.{ack}

-- the SipSession is ready and goes away by itself
unfoldable pub goes : Known → View → SessionView → Bool
goes known view session =
    session.ready_flag && not session.gone && is_session_ready known view session

-- the number of a SipSession
abbrev pub id_of : SessionView → SessId
id_of session = session.id

-- the view without this SipSession
abbrev pub without : View → SessId → View
without view sess = without_sip_session sess view

-- the request is no received ACK
unfoldable pub stays : RequestView → Bool
stays request = not (request.received && same_bytes request.method ack)

-- the request can still be needed
unfoldable pub can_be_needed : View → List Leg → Kept → Bool
can_be_needed view legs kept = is_needed view (find (is_leg_of kept.sess) legs) kept kept.way
