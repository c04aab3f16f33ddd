-- What lasts over the whole life of an application session (JSR 289 sections 6.2 and 12).
use Rattle.std.specs.Prelude.{◌≡◌, ◌≤◌, ◌<◌, ◌==◌, ℕ, List, [], ◌∷◌, ◌++◌, Bool, true, false, ◌&&◌, ◌||◌, Some, is_some}
use Rattle.sc_value.specs.declared.ids.SessId.{SessId}
use Rattle.sc_value.specs.declared.message.Request.{Request}
use Rattle.sc_terms.specs.declared.calls.Call.{Call}
use Rattle.sc_terms.specs.declared.calls.Call.TheVariants as calls
use Rattle.sc_terms.specs.declared.views.RequestView.{RequestView}
use Rattle.sc_terms.specs.declared.views.SessionView.{SessionView}
use Rattle.sc_terms.specs.declared.views.State.{State}
use Rattle.sc_terms.specs.declared.views.State.TheVariants.{Initial, Early, Confirmed, Terminated}
use Rattle.sc_terms.specs.declared.views.View.{View}
use Rattle.sc_state.specs.declared.proxy.Proxy.{Proxy}
use Rattle.sc_state.specs.declared.queue.Queued.{Queued}
use Rattle.sc_state.specs.declared.queue.Queued.TheVariants as queued
use Rattle.sc_state.specs.declared.session.Kept.{Kept}
use Rattle.sc_state.specs.declared.session.Session.{Session}
use Rattle.sc_terms.specs.declared.settings.Config.{Config}
use Rattle.sc_hosts.specs.Effects.{first_play}
use Rattle.sc_hosts.specs.Histories.{History, session_after}
use Rattle.sc_hosts.specs.Preparing.{prepared_session}
use Rattle.sc_hosts.specs.Sessions.{Turn}
use Rattle.sc_walked.specs.SessionWalks.{AreDone, HasGoneOn}
use Rattle.sc_hosts.specs.Looking.{is_confirmed, is_gone_in, is_proxy, is_terminated, is_uac, partner, same_session}

-- each item of the list has this property
unfoldable pub All : {A : Type 0} → (A → Type 0) → List A → Type 0
All P [] = Unit {0}
All P (x ∷ xs) = P x × All P xs

-- the numbers of requests, shown or kept, are below the next one
abbrev pub Numbered : Session → Type 0
Numbered session =
    All (λ (kept : Kept). kept.id.0 < session.view.next_request) session.known.kept
    × All (λ (request : RequestView). request.id.0 < session.view.next_request)
    session.view.requests

-- the SipSession is what it was: its Call-ID and own tag, and its role, but that a request becomes
-- proxied
pub record IsHeld (before after : SessionView) : Type 0 where
  pub id : after.id ≡ before.id
  pub call_id : after.call_id ≡ before.call_id
  pub own_tag : after.own_tag ≡ before.own_tag
  pub gone : before.gone ≡ true → after.gone ≡ true
  pub proxy : is_proxy before.role ≡ true → is_proxy after.role ≡ true

-- and its role
pub record IsSteady (before after : SessionView) : Type 0 where
  pub held : IsHeld before after
  pub role : after.role ≡ before.role

-- how far a SipSession has come
unfoldable pub stage : State → ℕ
stage Initial = 0
stage Early = 1
stage Confirmed = 2
stage Terminated = 3

-- the state went onward: one that is TERMINATED is so for ever, a CONFIRMED one is that until it is
-- TERMINATED, and one that isn't a UAC's never goes back
pub record IsOnward (before after : SessionView) : Type 0 where
  pub ended : is_terminated before.state ≡ true → is_terminated after.state ≡ true
  pub confirmed : is_confirmed before.state ≡ true
      → (is_confirmed after.state || is_terminated after.state) ≡ true
  pub onward : is_uac before.role ≡ false → stage before.state ≤ stage after.state
  pub role : is_uac before.role ≡ false → is_uac after.role ≡ false

-- each SipSession of the first list stands at its place in the second, the same in this sense
unfoldable pub Continues : (SessionView → SessionView → Type 0) → List SessionView
    → List SessionView → Type 0
Continues Same [] after = Unit {0}
Continues Same (session ∷ before) [] = ⊥
Continues Same (session ∷ before) (next ∷ after) = Same session next × Continues Same before after

-- the same request is proxied, with the same options, and it has gone on
pub record IsCarriedOn (before after : Proxy) : Type 0 where
  pub req : after.req ≡ before.req
  pub request : after.request ≡ before.request
  pub options : after.options ≡ before.options
  pub on : HasGoneOn before after

-- each proxied request of the first list stands at its place in the second, and has gone on
unfoldable pub GoOn : List Proxy → List Proxy → Type 0
GoOn [] after = Unit {0}
GoOn (proxy ∷ before) [] = ⊥
GoOn (proxy ∷ before) (next ∷ after) = IsCarriedOn proxy next × GoOn before after

-- a call that doesn't proxy
unfoldable pub Directly : Call → Type 0
Directly (calls.ProxyTo req uris how) = ⊥
Directly call = Unit {0}

-- each event of a whole life is of this kind, and each accepted call of this
unfoldable pub IsLife : (Queued → Type 0) → (Call → Type 0) → Config → History → List Turn → Type 0
IsLife Good Does config history [] = Unit {0}
IsLife Good Does config history (turn ∷ earlier) =
    Good turn.waiting.event
    × AreDone Does
    (first_play
    (prepared_session config turn.ringing (session_after config history earlier) turn.waiting
    turn.now).view)
    turn.calls
    × IsLife Good Does config history earlier

-- the same of some turns after others, the newest first
unfoldable pub IsSince : (Queued → Type 0) → (Call → Type 0) → Config → History → List Turn
    → List Turn → Type 0
IsSince Good Does config history earlier [] = Unit {0}
IsSince Good Does config history earlier (turn ∷ later) =
    Good turn.waiting.event
    × AreDone Does
    (first_play
    (prepared_session config turn.ringing (session_after config history (later ++ earlier))
    turn.waiting turn.now).view)
    turn.calls
    × IsSince Good Does config history earlier later

-- an event that brings the request that began the session, or none
unfoldable pub IsOf : Request → Queued → Type 0
IsOf began (queued.Initial region subscriber popped request) = request ≡ began
IsOf began event = Unit {0}

-- what the application proxied is the request that began the session
unfoldable pub Proxies : Request → Proxy → Type 0
Proxies began proxy = is_some proxy.options ≡ true → proxy.request ≡ began

-- no SipSession is a proxy's
abbrev pub IsDirect : SessionView → Type 0
IsDirect session = is_proxy session.role ≡ false

-- the application proxies nothing
abbrev pub AreDirect : Session → Type 0
AreDirect session = All IsDirect session.view.sessions

-- ## Links

-- a SipSession that is linked is there, and is linked to another that is linked to it: each is in
-- one pair at most
pub record ArePaired (view : View) : Type 0 where
  pub paired : (a b : SessId) → partner view a ≡ Some b → partner view b ≡ Some a
  pub apart : (a b : SessId) → partner view a ≡ Some b → (a.0 == b.0) ≡ false
  pub there : (a b : SessId) → partner view a ≡ Some b → is_gone_in view a ≡ false

-- these two SipSessions are those two, in either order
abbrev pub are_both : SessId → SessId → SessId → SessId → Bool
are_both c d a b = (same_session c a && same_session d b) || (same_session c b && same_session d a)

-- a call that doesn't link the two
unfoldable pub LeavesApart : SessId → SessId → Call → Type 0
LeavesApart a b (calls.Link c d) = are_both c d a b ≡ false
LeavesApart a b call = Unit {0}

-- a call that doesn't take away the link of either
unfoldable pub LeavesLinked : SessId → SessId → Call → Type 0
LeavesLinked a b (calls.Unlink c) = (same_session c a || same_session c b) ≡ false
LeavesLinked a b call = Unit {0}
