-- The SipSession of a response, derived ones among them (JSR 289 section 6.2.3).
use Rattle.std.specs.Prelude.{List, [], ◌∷◌, ◌++◌, Bool, true, false, not, ◌&&◌, Option, None, Some, is_none, nat_lt, if◌then◌else◌, map, filter}
use Rattle.std.specs.List.{find}
use Rattle.std.specs.Option.{option_map_or}
use Rattle.sc_value.specs.declared.ids.ReqId.{ReqId}
use Rattle.sc_value.specs.declared.ids.SessId.{SessId}
use Rattle.sc_value.specs.declared.message.Request.{Request}
use Rattle.sc_value.specs.declared.message.Response.{Response}
use Rattle.sc_tokens.specs.Names.{same_bytes}
use Rattle.sc_terms.specs.declared.views.View.{View}
use Rattle.sc_terms.specs.declared.views.SessionView.{SessionView}
use Rattle.sc_terms.specs.declared.views.State.TheVariants.{Initial, Terminated}
use Rattle.sc_state.specs.declared.session.Got.{Got}
use Rattle.sc_state.specs.declared.session.Known.{Known}
use Rattle.sc_state.specs.declared.session.Leg.{Leg}
use Rattle.sc_state.specs.declared.session.Session.{Session}
use Rattle.sc_tokens.specs.Bytes.{Bytes}
use Rattle.sc_model.specs.Dialogs.{tag_of, subscribe}
use Rattle.sc_model.specs.SessionStates.{invite}
use Rattle.sc_model.specs.Transactions.{is_success}
use Rattle.sc_hosts.specs.Looking.{change_session, in_state, is_early, is_uac, same_request, same_session, session_count, session_in}
use Rattle.sc_hosts.specs.Messages.{makes_dialog}
use Rattle.sc_hosts.specs.RefusalParts.{MOST_SESSIONS}
use Rattle.sc_hosts.specs.Legs.{first_got, leg_of, new_leg, same_tag}
use Rattle.sc_hosts.specs.ViewChanges.{new_session}

-- ## The SipSession of a response to an initial INVITE: derived SipSessions (JSR 289 section 6.2.3)

-- the SipSession is one of the request: its first one, or one derived for another To tag
unfoldable pub is_of : Known → ReqId → SessionView → Bool
is_of known req session =
    option_map_or (λ leg. option_map_or (same_request req) leg.first false)
    (leg_of known session.id) false

-- the SipSessions of the request, in order
unfoldable pub sessions_of : Session → ReqId → List SessionView
sessions_of session req = filter (is_of session.known req) session.view.sessions

-- it has this tag; one that was overtaken has lost it
unfoldable pub claims : Known → Bytes → SessionView → Bool
claims known tag session =
    same_tag session.peer_tag (Some tag)
    && not (option_map_or (λ leg. leg.overtaken) (leg_of known session.id) false)

-- where a response with this tag is handled, given the original
pub data Handling : Type 0 where
  In : SessId → Handling
  -- in the original, which takes the tag
  Takes : Bytes → Handling
  -- in a SipSession of its own
  Derives : Bytes → Handling

-- by the tag: where a SipSession has it, else in the original while that has none, else in a
-- derived one, as long as the view has room for it and the application didn't end the original
unfoldable pub handling_of : Session → SessionView → Bytes → Option SessionView → Handling
handling_of session original tag (Some claimer) = In claimer.id
handling_of session original tag None =
    if is_none original.peer_tag then Takes tag
    else
    (if nat_lt (session_count session.view) MOST_SESSIONS
    && not (option_map_or (λ leg. leg.invalidated) (leg_of session.known original.id) false)
    then Derives tag else In original.id)

-- the same, where a response may have no To tag: it is one in the original
unfoldable pub handling_by : Session → ReqId → SessionView → Option Bytes → Handling
handling_by session req original None = In original.id
handling_by session req original (Some tag) =
    handling_of session original tag (find (claims session.known tag) (sessions_of session req))

-- in the original, which takes the tag where it has none
unfoldable pub takes_tag : SessionView → Option Bytes → Handling
takes_tag original None = In original.id
takes_tag original (Some tag) = if is_none original.peer_tag then Takes tag else In original.id

-- a 2xx to SUBSCRIBE that its UAC gets
unfoldable pub is_subscribed : SessionView → Request → Response → Bool
is_subscribed original request response =
    same_bytes request.method subscribe && is_success response.code && is_uac original.role

-- only a 101 to 299 to the initial INVITE has a SipSession by its tag; the 2xx to a SUBSCRIBE gives
-- its SipSession the tag
unfoldable pub handling : Session → ReqId → SessionView → Request → Response → Handling
handling session req original request response =
    if same_bytes request.method invite && makes_dialog response.code
    then handling_by session req original (tag_of response.head.to)
    else
    (if is_subscribed original request response then takes_tag original (tag_of response.head.to)
    else In original.id)

-- the SipSession derived for this tag: as the original, INITIAL, unlinked and not gone
unfoldable pub derived_session : View → SessionView → Bytes → SessionView
derived_session view original tag = record original {
  id = new_session view;
  state = Initial;
  peer_tag = Some tag;
  linked = None;
  ready_flag = true;
  gone = false;
}

-- a derived SipSession has had the request that it is of, where that came, and no other of its
-- original's
unfoldable pub derived_got : Option Request → List Got
derived_got None = []
derived_got (Some came) = first_got came

-- what is known of a derived SipSession: the request that it is of, and its caller's tag, which its
-- original has
unfoldable pub derived_leg : SessId → Option Leg → ReqId → Option Request → Leg
derived_leg sess None req came = record (new_leg sess (Some req)) { got = derived_got came }
derived_leg sess (Some original) req came =
    record (new_leg sess (Some req)) { caller = original.caller; got = derived_got came }

-- the SipSession in which a response to the request is handled, and the session with it; the
-- request is given where it came, and none where it is one's own
unfoldable pub handled_in : Session → ReqId → SessionView → Option Request → Handling
    → SessId × Session
handled_in session req original came (In sess) = (sess, session)
handled_in session req original came (Takes tag) = (
  original.id,
  record session {
    view = change_session original.id (λ s. record s { peer_tag = Some tag }) session.view;
  },
)
handled_in session req original came (Derives tag) = (
  new_session session.view,
  record session {
    view =
        record session.view {
          sessions = session.view.sessions ++ derived_session session.view original tag ∷ [];
        };
    known =
        record session.known {
          legs =
              session.known.legs
              ++ derived_leg (new_session session.view) (leg_of session.known original.id) req came
              ∷ [];
        };
  },
)

-- ## The first 2xx to an INVITE ends its other early SipSessions; this is the project's profile

-- another SipSession of the request, with an early dialog
unfoldable pub is_overtaken : Known → ReqId → SessId → SessionView → Bool
is_overtaken known req sess session =
    is_of known req session && is_early session.state && not session.gone
    && not (same_session session.id sess)

-- such a one, TERMINATED
unfoldable pub overtaken_session : Known → ReqId → SessId → SessionView → SessionView
overtaken_session known req sess session =
    if is_overtaken known req sess session then in_state Terminated session else session

-- the SipSession of this leg is such a one
unfoldable pub loses_tag : Session → ReqId → SessId → Leg → Bool
loses_tag session req sess leg =
    option_map_or (is_overtaken session.known req sess) (session_in session.view leg.id) false

-- the leg of such a one, with the mark by which it loses its tag
unfoldable pub overtaken_leg : Session → ReqId → SessId → Leg → Leg
overtaken_leg session req sess leg =
    if loses_tag session req sess leg then record leg { overtaken = true } else leg

-- the application session once the first 2xx came in this SipSession
unfoldable pub overtaken : ReqId → SessId → Session → Session
overtaken req sess session = record session {
  view =
      record session.view {
        sessions = map (overtaken_session session.known req sess) session.view.sessions;
      };
  known =
      record session.known { legs = map (overtaken_leg session req sess) session.known.legs };
}

-- a failure of a UAC's INVITE ends its derived SipSessions
unfoldable pub failed_session : Known → ReqId → SessId → SessionView → SessionView
failed_session known req original session =
    if is_of known req session && not (same_session session.id original)
    then in_state Terminated session
    else session

-- the application session once its own INVITE failed
unfoldable pub without_derived : ReqId → SessId → Session → Session
without_derived req original session = record session {
  view =
      record session.view {
        sessions = map (failed_session session.known req original) session.view.sessions;
      };
}
