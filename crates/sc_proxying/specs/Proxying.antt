-- What the list of a proxied request holds: what the turns of its session told of it, from the one
-- that began to proxy it on (JSR 289 section 10, RFC 3261 section 16).
use Rattle.std.specs.Prelude.{◌≡◌, ◌⊎◌, ℕ, List, [], ◌∷◌, ◌++◌, Bool, true, false, Option, None, Some, is_none, if◌then◌else◌, length, map}
use Rattle.std.specs.List.{find}
use Rattle.std.specs.Option.{option_map_or}
use Rattle.sc_value.specs.declared.ids.AppId.{AppId}
use Rattle.sc_value.specs.declared.ids.ReqId.{ReqId}
use Rattle.sc_value.specs.declared.ids.SessId.{SessId}
use Rattle.sc_value.specs.declared.message.Response.{Response}
use Rattle.sc_terms.specs.declared.calls.Call.{Call}
use Rattle.sc_terms.specs.declared.calls.Call.TheVariants as calls
use Rattle.sc_terms.specs.declared.calls.CallRecord.{CallRecord}
use Rattle.sc_terms.specs.declared.settings.Config.{Config}
use Rattle.sc_parts.specs.declared.setup.Setup.{Setup}
use Rattle.sc_state.specs.declared.proxy.Passing.{Passing}
use Rattle.sc_state.specs.declared.proxy.Proxy.{Proxy}
use Rattle.sc_state.specs.declared.queue.Queued.{Queued}
use Rattle.sc_state.specs.declared.queue.Queued.TheVariants as queued
use Rattle.sc_state.specs.declared.queue.Waiting.{Waiting}
use Rattle.sc_state.specs.declared.session.Invited.{Invited}
use Rattle.sc_state.specs.declared.session.Known.{Known}
use Rattle.sc_state.specs.declared.session.Session.{Session}
use Rattle.sc_state.specs.declared.working.Play.{Play}
use Rattle.sc_model.specs.BestResponses.{best_response}
use Rattle.sc_hosts.specs.Branches.{can_choose, can_pass, has_branch, new_proxy, starting}
use Rattle.sc_hosts.specs.Effects.{after_listed, first_play}
use Rattle.sc_hosts.specs.Histories.{History, session_after, session_of}
use Rattle.sc_hosts.specs.Looking.{same_request}
use Rattle.sc_hosts.specs.Preparing.{is_invited, prepared_session}
use Rattle.sc_hosts.specs.Refusals.{refusal}
use Rattle.sc_hosts.specs.Sessions.{Turn}
use Rattle.sc_lasting.specs.Lasting.{All}
use Rattle.sc_lived.specs.Lived.{IsLived, Told}
use Rattle.sc_proxied.specs.ProxyLists.{Asked, Expired, Forwarded, Heard, IsHad, IsOfList, PassedOn, ProxyEvent, Rested, Started, Stopped, TimedOut, proxy_after}

-- the request as it became proxied, to no target yet
abbrev pub as_begun : Proxy → Proxy
as_begun proxy = new_proxy proxy.req proxy.sess proxy.event proxy.request proxy.options

-- ## What the event of a turn brings

-- the CANCEL under this event came for the proxied request (RFC 3261 section 16.10)
unfoldable pub is_cancel_of : Known → Proxy → ℕ → Bool
is_cancel_of known proxy event =
    option_map_or (λ (invited : Invited). same_request proxy.req invited.req)
    (find (is_invited event) known.invited) false

-- the time of the branch was up: it is to be cancelled, or it ends as 408 (RFC 3261 section 16.8)
unfoldable pub IsTimeUp : ℕ → List ProxyEvent → Type 0
IsTimeUp branch came =
    (came ≡ Expired branch ∷ [])
    ⊎ ((sess : SessId) × (response : Response) × (response.code ≡ 408)
    × (came ≡ TimedOut branch sess response ∷ []))

-- what an event that a session handles at this moment tells of a proxied request: a response is one
-- on a branch of it, a CANCEL is for it, the time that is up is that of a branch of it; every other
-- event tells nothing
unfoldable pub IsOfEvent : Known → ℕ → Proxy → Queued → List ProxyEvent → Type 0
IsOfEvent known now proxy (queued.Response branch response) came =
    (came ≡ [])
    ⊎ ((sess : SessId) × (has_branch branch proxy ≡ true)
    × (came ≡ Heard branch sess response now ∷ []))
IsOfEvent known now proxy (queued.Cancelled event) came =
    (came ≡ []) ⊎ ((is_cancel_of known proxy event ≡ true) × (came ≡ Stopped ∷ []))
IsOfEvent known now proxy (queued.BranchTimer branch due) came =
    (came ≡ []) ⊎ ((has_branch branch proxy ≡ true) × IsTimeUp branch came)
IsOfEvent known now proxy event came = came ≡ []

-- ## What the calls of a turn say

-- what an accepted call says of the proxied request of this number: its targets, or that it is to
-- be stopped (JSR 289 section 10.2)
unfoldable pub given_by : ReqId → Call → List ProxyEvent
given_by req (calls.ProxyTo of uris how) = if same_request req of then Asked uris ∷ [] else []
given_by req (calls.ProxyCancel of) = if same_request req of then Stopped ∷ [] else []
given_by req call = []

-- what a call says at its place in a turn: a refused one says nothing
abbrev pub given_at : ReqId → Play → Call → List ProxyEvent
given_at req play call = if is_none (refusal play call) then given_by req call else []

-- what these calls say, one after the other
unfoldable pub given_of : ReqId → Play → List CallRecord → List ProxyEvent
given_of req play [] = []
given_of req play (made ∷ later) =
    given_of req (after_listed play made.call) later ++ given_at req play made.call

-- the call proxies this request, with these options
unfoldable pub BeginsBy : Proxy → Call → Type 0
BeginsBy first (calls.ProxyTo req uris how) = (first.req ≡ req) × (first.options ≡ Some how)
BeginsBy first call = ⊥

-- an accepted one of these calls began to proxy it, and that call and those behind it say this
unfoldable pub BeginsIn : Proxy → Play → List CallRecord → List ProxyEvent → Type 0
BeginsIn first play [] given = ⊥
BeginsIn first play (made ∷ later) given =
    ((refusal play made.call ≡ None) × BeginsBy first made.call
    × (given
    ≡ given_of first.req (after_listed play made.call) later ++ given_by first.req made.call))
    ⊎ BeginsIn first (after_listed play made.call) later given

-- as the calls of a turn begin
abbrev pub shown_play : Config → Session → Turn → Play
shown_play config session turn =
    first_play (prepared_session config turn.ringing session turn.waiting turn.now).view

-- ## What follows as a turn ends

-- branches of these numbers are started at this moment, the newest first
abbrev pub starts_at : ℕ → List ℕ → List ProxyEvent
starts_at now numbers = map (λ number. Started number now) numbers

-- responses of these codes are forwarded, the newest first
abbrev pub forwards_of : List ℕ → List ProxyEvent
forwards_of codes = map (λ code. Forwarded code) codes

-- the code of a response that waits to be forwarded as it came, where it can go still (RFC 3261
-- section 16.7, step 5)
unfoldable pub passed_codes : Proxy → Option Passing → List ℕ
passed_codes proxy None = []
passed_codes proxy (Some passing) =
    if can_pass proxy passing.response then passing.response.code ∷ [] else []

-- the code of a response, if there is one
unfoldable pub code_of : Option Response → List ℕ
code_of None = []
code_of (Some response) = response.code ∷ []

-- the code of the best response, once it can go (RFC 3261 section 16.7, step 6)
unfoldable pub chosen_codes : Proxy → List ℕ
chosen_codes proxy =
    if can_choose proxy then code_of (best_response proxy.candidates) else []

-- what the request forwards once its targets have their branches, the newest first: what waited,
-- and then the best response
unfoldable pub forwarded_codes : Proxy → List ℕ
forwarded_codes proxy =
    chosen_codes (proxy_after proxy (forwards_of (passed_codes proxy proxy.passing)))
    ++ passed_codes proxy proxy.passing

-- the targets that are to be started get their branches at this moment, then the responses that can
-- go are forwarded, and the request rests; nothing follows where the application ended its
-- SipSession
unfoldable pub IsOfEnd : ℕ → Proxy → List ProxyEvent → Type 0
IsOfEnd now proxy ended =
    (ended ≡ []) ⊎ ((numbers : List ℕ) × (length numbers ≡ length (starting proxy))
    × (ended
    ≡ Rested
    ∷ (forwards_of (forwarded_codes (proxy_after proxy (starts_at now numbers)))
    ++ starts_at now numbers)))

-- ## A turn, and a life

-- what a turn that a session took told of a request that it proxied already: of its event, then of
-- its calls, then of its end
pub record IsOfTurn (config : Config) (session : Session) (turn : Turn) (proxy : Proxy)
    (own : List ProxyEvent) : Type 0 where
  pub came : List ProxyEvent
  pub ended : List ProxyEvent
  pub own_is : own
      ≡ ended ++ (given_of proxy.req (shown_play config session turn) turn.calls ++ came)
  pub of_event : IsOfEvent session.known turn.now proxy turn.waiting.event came
  pub of_end : IsOfEnd turn.now
      (proxy_after proxy
      (given_of proxy.req (shown_play config session turn) turn.calls ++ came))
      ended

-- a call of the turn began to proxy it
pub record IsBegun (config : Config) (session : Session) (turn : Turn) (first : Proxy)
    (own : List ProxyEvent) : Type 0 where
  pub given : List ProxyEvent
  pub ended : List ProxyEvent
  pub own_is : own ≡ ended ++ given
  pub of_calls : BeginsIn first (shown_play config session turn) turn.calls given
  pub of_end : IsOfEnd turn.now (proxy_after first given) ended

-- the event of the turn is this request, a later one, which was passed on
unfoldable pub IsPassed : Queued → Proxy → List ProxyEvent → Type 0
IsPassed (queued.Request request) first own =
    (first.request ≡ request) × (first.options ≡ None)
    × ((number : ℕ) × (own ≡ PassedOn number ∷ []))
IsPassed event first own = ⊥

-- what these turns of a history told of a proxied request, the newest first: the first of them that
-- tells of it began to proxy it, and each later one tells what it has to
unfoldable pub AreOfTurns : Config → History → Proxy → List Turn → List ProxyEvent → Type 0
AreOfTurns config history first [] events = ⊥
AreOfTurns config history first (turn ∷ earlier) events =
    IsBegun config (session_after config history earlier) turn first events
    ⊎ (IsPassed turn.waiting.event first events
    ⊎ ((own : List ProxyEvent) × (before : List ProxyEvent) × (events ≡ own ++ before)
    × IsOfTurn config (session_after config history earlier) turn (proxy_after first before) own
    × AreOfTurns config history first earlier before))

-- all that happened to a proxied request of a session is what the turns of its history told of it,
-- and it is what the list of that says
pub record HasItsList (config : Config) (history : History) (turns : List Turn)
    (proxy : Proxy) : Type 0 where
  pub events : List ProxyEvent
  pub told : AreOfTurns config history (as_begun proxy) turns events
  pub had : IsHad (as_begun proxy) events
  pub is : proxy ≡ proxy_after (as_begun proxy) events
  pub of_list : IsOfList (as_begun proxy) proxy events

-- ## Live sessions

-- what the journal tells of a session is its life, and each request that it proxies has the list of
-- it
pub record HaveLists (setup : Setup) (app : AppId) (given : List Told) (history : History)
    (session : Session) (inbox : List Waiting) : Type 0 where
  pub lived : IsLived setup app given history inbox
  pub lists : All (HasItsList setup.config history history.turns) session.known.proxies

-- what the session is comes of such a history
pub record HasLists (setup : Setup) (app : AppId) (given : List Told) (session : Session)
    (inbox : List Waiting) : Type 0 where
  pub history : History
  pub is : session ≡ session_of setup.config history
  pub have : HaveLists setup app given history session inbox
