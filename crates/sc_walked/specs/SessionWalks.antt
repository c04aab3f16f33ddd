-- Relations of what an application session was and what it is, which every change that a turn makes
-- of it keeps (JSR 289 section 6).
use Rattle.std.specs.Prelude.{◌≡◌, ℕ, ◌+◌, List, [], ◌∷◌, ◌++◌, Bool, true, false, Option, None, Some, is_some, length, filter}
use Rattle.std.specs.List.{find}
use Rattle.sc_value.specs.declared.ids.ReqId.{ReqId}
use Rattle.sc_value.specs.declared.ids.SessId.{SessId}
use Rattle.sc_value.specs.declared.message.Request.{Request}
use Rattle.sc_value.specs.declared.parts.Uri.{Uri}
use Rattle.sc_terms.specs.declared.calls.Call.{Call}
use Rattle.sc_terms.specs.declared.calls.Call.TheVariants as calls
use Rattle.sc_terms.specs.declared.calls.CallRecord.{CallRecord}
use Rattle.sc_terms.specs.declared.calls.ProxyOptions.{ProxyOptions}
use Rattle.sc_terms.specs.declared.views.RequestView.{RequestView}
use Rattle.sc_terms.specs.declared.views.Role.{Role}
use Rattle.sc_terms.specs.declared.views.SessionView.{SessionView}
use Rattle.sc_terms.specs.declared.views.State.{State}
use Rattle.sc_terms.specs.declared.views.State.TheVariants.{Initial, Early, Confirmed, Terminated}
use Rattle.sc_terms.specs.declared.views.TimerView.{TimerView}
use Rattle.sc_terms.specs.declared.views.View.{View}
use Rattle.sc_value.specs.declared.parts.Field.{Field}
use Rattle.sc_state.specs.declared.proxy.Proxy.{Proxy}
use Rattle.sc_state.specs.declared.queue.Queued.{Queued}
use Rattle.sc_state.specs.declared.queue.Queued.TheVariants as queued
use Rattle.sc_state.specs.declared.session.Kept.{Kept}
use Rattle.sc_state.specs.declared.session.Known.{Known}
use Rattle.sc_state.specs.declared.session.Leg.{Leg}
use Rattle.sc_state.specs.declared.session.Session.{Session}
use Rattle.sc_state.specs.declared.session.Way.TheVariants.{Sent}
use Rattle.sc_state.specs.declared.working.Draft.{Draft}
use Rattle.sc_state.specs.declared.working.Play.{Play}
use Rattle.sc_tokens.specs.Bytes.{Bytes}
use Rattle.sc_hosts.specs.Acting.{sent_proxy}
use Rattle.sc_hosts.specs.DerivedSessions.{derived_session, derived_leg}
use Rattle.sc_hosts.specs.Effects.{after_listed, created_leg, sent_view, view_with_targets}
use Rattle.sc_hosts.specs.Legs.{FIRST_SESSION, leg_of, new_leg}
use Rattle.sc_hosts.specs.Looking.{is_uac, request_in, session_in, without_link, without_sip_session}
use Rattle.sc_hosts.specs.Preparing.{kept_of}
use Rattle.sc_hosts.specs.PreparingRequests.{with_number_used, with_received_request}
use Rattle.sc_hosts.specs.PreparingResponses.{with_request_again}
use Rattle.sc_hosts.specs.Refusals.{refusal}
use Rattle.sc_hosts.specs.ViewChanges.{new_session, with_link, with_own_session}
use Rattle.sc_hosts.specs.Working.{proxies}

-- ## What stays of the parts

-- item by item
unfoldable pub Each : {A : Type 0} → (A → A → Type 0) → List A → List A → Type 0
Each Same [] [] = Unit {0}
Each Same [] (y ∷ ys) = ⊥
Each Same (x ∷ xs) [] = ⊥
Each Same (x ∷ xs) (y ∷ ys) = Same x y × Each Same xs ys

-- a state that a SipSession of this role can have after this one (JSR 289 section 6.2.1): it goes
-- onward, but that a UAC's begins again where its request failed
unfoldable pub may_follow : Role → State → State → Bool
may_follow role Initial next = true
may_follow role Early Initial = is_uac role
may_follow role Early Early = true
may_follow role Early Confirmed = true
may_follow role Early Terminated = true
may_follow role Confirmed Initial = false
may_follow role Confirmed Early = false
may_follow role Confirmed Confirmed = true
may_follow role Confirmed Terminated = true
may_follow role Terminated Initial = false
may_follow role Terminated Early = false
may_follow role Terminated Confirmed = false
may_follow role Terminated Terminated = true

-- a state that may follow, another tag of the peer, another flag, and nothing else
pub record IsMoved (before after : SessionView) : Type 0 where
  pub id : after.id ≡ before.id
  pub role : after.role ≡ before.role
  pub call_id : after.call_id ≡ before.call_id
  pub own_tag : after.own_tag ≡ before.own_tag
  pub linked : after.linked ≡ before.linked
  pub gone : after.gone ≡ before.gone
  pub state : may_follow before.role before.state after.state ≡ true

-- the request as it came or went, proxied or not, whatever came of it
pub record IsSameRequest (before after : RequestView) : Type 0 where
  pub id : after.id ≡ before.id
  pub sess : after.sess ≡ before.sess
  pub method : after.method ≡ before.method
  pub received : after.received ≡ before.received
  pub initial : after.initial ≡ before.initial
  pub proxied : after.proxied ≡ before.proxied

-- the leg of the same SipSession, with what it has of the request that began it
pub record IsSameLeg (before after : Leg) : Type 0 where
  pub id : after.id ≡ before.id
  pub caller : after.caller ≡ before.caller

-- a proxied request has gone on: it has the targets that it had, and maybe more; where the search
-- has ended it stays so; and the final response that was forwarded first is that
pub record HasGoneOn (before after : Proxy) : Type 0 where
  pub more : List Uri
  pub tried : after.tried ≡ before.tried ++ more
  pub settled : before.settled ≡ true → after.settled ≡ true
  pub forwarded : is_some before.forwarded ≡ true → after.forwarded ≡ before.forwarded

-- the same request is proxied, with the same options
pub record IsSameProxy (before after : Proxy) : Type 0 where
  pub req : after.req ≡ before.req
  pub sess : after.sess ≡ before.sess
  pub event : after.event ≡ before.event
  pub request : after.request ≡ before.request
  pub options : after.options ≡ before.options
  pub on : HasGoneOn before after

-- the same, and where it has no options, as that of a later request, it gets no target if it had
-- none
pub record IsKeptProxy (before after : Proxy) : Type 0 where
  pub same : IsSameProxy before after
  pub bare : before.options ≡ None → before.targets ≡ [] → after.targets ≡ []

-- ## How a request comes

-- this event brings it to this SipSession, which is that of a proxy or isn't
unfoldable pub Brings : Queued → Session → SessId → Bool → Bool → Request → Type 0
Brings (queued.Initial region subscriber popped request) session sess initial passed came =
    (came ≡ request) × (sess ≡ FIRST_SESSION) × (initial ≡ true) × (passed ≡ false)
Brings (queued.Request request) session sess initial passed came =
    (came ≡ request) × (initial ≡ false)
Brings event session sess initial passed came = ⊥

-- a request of one's own that the view shows once more, under the number by which it is kept
pub record IsShownAgain (known : Known) (request : RequestView) : Type 0 where
  pub test : Kept → Bool
  pub kept : Kept
  pub found : find test known.kept ≡ Some kept
  pub id : request.id ≡ kept.id
  pub sess : request.sess ≡ kept.sess
  pub received : request.received ≡ false
  pub proxied : request.proxied ≡ false

-- each call of a list that is accepted at its place is one of these
unfoldable pub AreDone : (Call → Type 0) → Play → List CallRecord → Type 0
AreDone Does play [] = Unit {0}
AreDone Does play (m ∷ made) =
    (refusal play m.call ≡ None → Does m.call) × AreDone Does (after_listed play m.call) made

-- ## The relations

-- the leg of the next SipSession, where the request is kept whose second leg is made
unfoldable pub with_legs : View → Option Kept → Known → Known
with_legs view None known = known
with_legs view (Some kept) known =
    record known { legs = known.legs ++ new_leg (new_session view) None ∷ [] }

-- the request of a draft as it is kept once sent, under its number and branch
abbrev pub sent_kept : View → Draft → Request → Kept
sent_kept view draft request =
    record {
      id = record { 0 = view.next_request };
      sess = draft.sess;
      way = Sent (view.counter + 1);
      request = request;
    }

-- the view once a draft is sent
abbrev pub after_sent : View → Draft → View
after_sent view draft =
    record view {
      requests = view.requests ++ sent_view view draft ∷ [];
      next_request = view.next_request + 1;
      counter = view.counter + 1;
    }

-- what a relation has to keep: it is reflexive and transitive, and each change that this event and
-- these calls can make is in it
pub record SessionLaws (event : Queued) (Does : Call → Type 0)
    (Q : Session → Session → Type 0) : Type 0 where
  pub same : (x : Session) → Q x x
  pub after : (x y z : Session) → Q x y → Q y z → Q x z
  -- moments, flags, timers, attributes, numbers
  pub dates : (x : Session) (now : ℕ) → Q x (record x { view = record x.view { now = now } })
  pub expires : (x : Session) (due : Option ℕ)
      → Q x (record x { view = record x.view { expires = due } })
  pub flags : (x : Session) (flag : Bool)
      → Q x (record x { view = record x.view { ready_flag = flag } })
  pub times : (x : Session) (timers : List TimerView) (next : ℕ)
      → Q x (record x { view = record x.view { timers = timers; next_timer = next } })
  pub attributes : (x : Session) (fields : List Field)
      → Q x (record x { view = record x.view { attributes = fields } })
  pub counts : (x : Session)
      → Q x (record x { view = record x.view { counter = x.view.counter + 1 } })
  pub numbers : (x : Session) → Q x (with_number_used x)
  -- what is there changes, and nothing is added
  pub moves : (x : Session) (sessions : List SessionView) → Each IsMoved x.view.sessions sessions
      → Q x (record x { view = record x.view { sessions = sessions } })
  pub renews : (x : Session) (requests : List RequestView)
      → Each IsSameRequest x.view.requests requests
      → Q x (record x { view = record x.view { requests = requests } })
  pub drops : (x : Session) (test : RequestView → Bool)
      → Q x (record x { view = record x.view { requests = filter test x.view.requests } })
  pub same_legs : (x : Session) (legs : List Leg) → Each IsSameLeg x.known.legs legs
      → Q x (record x { known = record x.known { legs = legs } })
  pub same_proxies : (x : Session) (all : List Proxy) → Each IsKeptProxy x.known.proxies all
      → Q x (record x { known = record x.known { proxies = all } })
  pub forgets : (x : Session) (test : Kept → Bool)
      → Q x (record x { known = record x.known { kept = filter test x.known.kept } })
  -- a SipSession goes, or its link
  pub unlinks : (x : Session) (sess : SessId) → Does (calls.Unlink sess)
      → Q x (record x { view = without_link sess x.view })
  pub removes : (x : Session) (sess : SessId)
      → Q x (record x { view = without_sip_session sess x.view })
  -- a request comes, one is shown again, and one is sent
  pub receives : (x : Session) (number : ℕ) (sess : SessId) (initial passed : Bool)
      (request : Request)
      → Brings event x sess initial passed request
      → Q x (with_received_request x number sess initial passed request)
  pub shows : (x : Session) (request : RequestView) → IsShownAgain x.known request
      → Q x (with_request_again request x)
  pub sends : (x : Session) (draft : Draft) (request : Request)
      → Q x
      (record {
        view = after_sent x.view draft;
        known = record x.known { kept = x.known.kept ++ sent_kept x.view draft request ∷ [] };
      })
  pub sends_none : (x : Session) (draft : Draft) → Q x (record x { view = after_sent x.view draft })
  -- a SipSession begins
  pub begins : (x : Session)
      → Q x
      (record {
        view = with_own_session x.view;
        known =
            record x.known { legs = x.known.legs ++ new_leg (new_session x.view) None ∷ [] };
      })
  pub derives : (x : Session) (req : ReqId) (sess : SessId) (original : SessionView)
      (came : Option Request) (tag : Bytes)
      → session_in x.view sess ≡ Some original
      → Q x (record {
        view = record x.view {
          sessions = x.view.sessions ++ derived_session x.view original tag ∷ [];
        };
        known =
            record x.known {
              legs =
                  x.known.legs
                  ++ derived_leg (new_session x.view) (leg_of x.known original.id) req came ∷ [];
            };
      })
  -- accepted calls that look at more than one of these
  pub begins_leg : (play : Play) (known : Known) (req : ReqId) (uri : Option Uri)
      (request : Option RequestView) (kept : Option Kept)
      → refusal play (calls.B2bCreate req uri) ≡ None → Does (calls.B2bCreate req uri)
      → request_in play.view req ≡ request → kept_of known req ≡ kept
      → Q (record { view = play.view; known = known })
      (record { view = (created_leg request play).view; known = with_legs play.view kept known })
  pub links : (play : Play) (known : Known) (a b : SessId) → refusal play (calls.Link a b) ≡ None
      → Does (calls.Link a b)
      → Q (record { view = play.view; known = known })
      (record { view = with_link a b play.view; known = known })
  pub turns : (play : Play) (known : Known) (req : ReqId) (uris : List Uri) (how : ProxyOptions)
      (request : Option RequestView)
      → refusal play (calls.ProxyTo req uris how) ≡ None → Does (calls.ProxyTo req uris how)
      → request_in play.view req ≡ request
      → Q (record { view = play.view; known = known })
      (record {
        view = view_with_targets request (length uris) play.view;
        known = proxies req uris how known;
      })
  -- a later request is passed on
  pub passes : (x : Session) (req : ReqId) (kept : Kept) → kept_of x.known req ≡ Some kept
      → Q x
      (record x {
        known =
            record x.known {
              proxies = x.known.proxies ++ sent_proxy kept (x.view.counter + 1) ∷ [];
            };
      })
