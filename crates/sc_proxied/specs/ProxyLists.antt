-- What a proxied request is, as functions of the list of all that happened to it, the newest first
-- (RFC 3261 section 16). Each searches the list; none looks at what was made of it.
use Rattle.std.specs.Prelude.{◌≡◌, ◌<◌, ℕ, ◌+◌, ◌-◌, ◌==◌, List, [], ◌∷◌, ◌++◌, Bool, true, false, not, ◌&&◌, ◌||◌, Option, None, Some, is_none, is_some, option_and_then, if◌then◌else◌, length, filter, take, drop, map}
use Rattle.std.specs.List.{list_any}
use Rattle.std.specs.Option.{option_map_or}
use Rattle.sc_value.specs.declared.ids.SessId.{SessId}
use Rattle.sc_value.specs.declared.message.Response.{Response}
use Rattle.sc_value.specs.declared.parts.Uri.{Uri}
use Rattle.sc_state.specs.declared.proxy.Branch.{Branch}
use Rattle.sc_state.specs.declared.proxy.Proxy.{Proxy}
use Rattle.sc_model.specs.SessionStates.{is_final}
use Rattle.sc_model.specs.Transactions.{Found, first_in_time, is_success}
use Rattle.sc_hosts.specs.Acting.{at_rest, with_forwarded}
use Rattle.sc_hosts.specs.Branches.{branch_in, contacts_of, ended_by, is_global, is_open, is_redirect, new_branch, new_targets, proxy_after_response, recurses, to_cancel, with_targets, without_search}
use Rattle.sc_hosts.specs.RefusalParts.{MOST_BRANCHES}

-- ## What happens to a proxied request

-- what can happen to a proxied request
pub data ProxyEvent : Type 0 where
  -- the application names targets
  Asked : List Uri → ProxyEvent
  -- the application, or a CANCEL that came, stops it
  Stopped : ProxyEvent
  -- its next target gets the branch of this number at this moment
  Started : (number : ℕ) → (now : ℕ) → ProxyEvent
  -- it is a later request, which goes on along its dialog, on the branch of this number
  PassedOn : (number : ℕ) → ProxyEvent
  -- a response came on this branch, handled in this SipSession at this moment
  Heard : (number : ℕ) → (sess : SessId) → (response : Response) → (now : ℕ) → ProxyEvent
  -- the time of this branch was up, and it ends by this response
  TimedOut : (number : ℕ) → (sess : SessId) → (response : Response) → ProxyEvent
  -- the time of this branch was up, and it is to be cancelled
  Expired : (number : ℕ) → ProxyEvent
  -- a response of this code was forwarded
  Forwarded : (code : ℕ) → ProxyEvent
  -- a turn ended
  Rested : ProxyEvent

-- the branch is there, and has no final response
abbrev pub is_open_in : ℕ → Proxy → Bool
is_open_in number proxy = option_map_or is_open (branch_in proxy number) false

-- what a host makes of it
unfoldable pub happens : ProxyEvent → Proxy → Proxy
happens (Asked uris) proxy = with_targets uris proxy
happens Stopped proxy = without_search proxy
happens (Started number now) proxy =
    record proxy {
      branches = proxy.branches ++ new_branch proxy number now ∷ [];
      targets = drop 1 proxy.targets;
    }
happens (PassedOn number) proxy =
    record proxy {
      branches = proxy.branches
          ++ record { number = number; ended = None; cancelled = false; due = None } ∷ [];
    }
happens (Heard number sess response now) proxy = proxy_after_response number sess response now proxy
happens (TimedOut number sess response) proxy =
    if is_open_in number proxy then ended_by number sess response proxy else proxy
happens (Expired number) proxy = if is_open_in number proxy then to_cancel number proxy else proxy
happens (Forwarded code) proxy = with_forwarded code proxy
happens Rested proxy = at_rest proxy

-- the proxy after all these
unfoldable pub proxy_after : Proxy → List ProxyEvent → Proxy
proxy_after first [] = first
proxy_after first (event ∷ earlier) = happens event (proxy_after first earlier)

-- ## Branches

-- the branch that the event starts
unfoldable pub started_by : ProxyEvent → List ℕ
started_by (Started number now) = number ∷ []
started_by (PassedOn number) = number ∷ []
started_by event = []

-- the branches, in the order in which they were started
unfoldable pub started_of : List ProxyEvent → List ℕ
started_of [] = []
started_of (event ∷ earlier) = started_of earlier ++ started_by event

-- the branch is one that was started
unfoldable pub was_started : ℕ → List ProxyEvent → Bool
was_started number events = list_any (λ n. n == number) (started_of events)

-- the code of the final response that the event is for this branch
unfoldable pub final_by : ℕ → ProxyEvent → Option ℕ
final_by number (Heard n sess response now) =
    if n == number && is_final response.code then Some response.code else None
final_by number (TimedOut n sess response) = if n == number then Some response.code else None
final_by number event = None

-- the code of the first final response of a branch
unfoldable pub final_of : ℕ → List ProxyEvent → Option ℕ
final_of number events =
    option_and_then (λ (found : Found ProxyEvent). final_by number found.item)
    (first_in_time
    (λ earlier event. was_started number earlier && is_some (final_by number event)) events)

-- the branch was started, and no final response of it came
unfoldable pub is_open_at : ℕ → List ProxyEvent → Bool
is_open_at number events = was_started number events && is_none (final_of number events)

-- ## The end of the search

-- a 2xx or a 6xx: it ends the search (RFC 3261 section 16.7, steps 5 and 10)
abbrev pub ends_all : ℕ → Bool
ends_all code = is_success code || is_global code

-- a 2xx, whenever it comes, or a 6xx that is the first final response of its branch
unfoldable pub stops : List ProxyEvent → ProxyEvent → Bool
stops earlier (Asked uris) = false
stops earlier Stopped = true
stops earlier (Started number now) = false
stops earlier (PassedOn number) = false
stops earlier (Heard number sess response now) =
    is_success response.code || (is_global response.code && is_open_at number earlier)
stops earlier (TimedOut number sess response) = is_open_at number earlier && ends_all response.code
stops earlier (Expired number) = false
stops earlier (Forwarded code) = false
stops earlier Rested = false

-- something ended the search
unfoldable pub is_settled : List ProxyEvent → Bool
is_settled events = is_some (first_in_time stops events)

-- ## Targets

-- a first final response of a branch that is a 3xx gives its Contacts that weren't tried, where the
-- application follows them and the search goes on
unfoldable pub contacts_to_follow : Proxy → List Uri → Bool → Bool → Response → List Uri
contacts_to_follow first tried settled running response =
    if running && (is_redirect response.code && recurses first && not settled)
    then take (MOST_BRANCHES - length tried) (new_targets tried (contacts_of response))
    else []

-- the targets that the event gives
unfoldable pub added_by : Proxy → List Uri → List ProxyEvent → ProxyEvent → List Uri
added_by first tried earlier (Asked uris) = uris
added_by first tried earlier (Heard number sess response now) =
    contacts_to_follow first tried (is_settled earlier) (is_open_at number earlier) response
added_by first tried earlier (TimedOut number sess response) =
    contacts_to_follow first tried (is_settled earlier) (is_open_at number earlier) response
added_by first tried earlier event = []

-- all targets that it has had, in order
unfoldable pub tried_of : Proxy → List ProxyEvent → List Uri
tried_of first [] = []
tried_of first (event ∷ earlier) =
    tried_of first earlier ++ added_by first (tried_of first earlier) earlier event

-- those that came since the search was ended last
unfoldable pub added_since : Proxy → List ProxyEvent → List Uri
added_since first [] = []
added_since first (event ∷ earlier) =
    if stops earlier event then []
    else added_since first earlier ++ added_by first (tried_of first earlier) earlier event

-- how many targets the event takes, for a branch that it starts
unfoldable pub taken_by : ProxyEvent → ℕ
taken_by (Started number now) = 1
taken_by event = 0

-- how many were taken since then
unfoldable pub taken_since : List ProxyEvent → ℕ
taken_since [] = 0
taken_since (event ∷ earlier) =
    if stops earlier event then 0 else taken_since earlier + taken_by event

-- the targets that wait
unfoldable pub targets_of : Proxy → List ProxyEvent → List Uri
targets_of first events = drop (taken_since events) (added_since first events)

-- ## Responses

-- the response, where it is the first final one of its branch and is to be among the candidates
unfoldable pub counts : Proxy → List ProxyEvent → ℕ → Response → List Response
counts first earlier number response =
    if is_open_at number earlier && not (is_success response.code)
    && length
    (contacts_to_follow first (tried_of first earlier) (is_settled earlier)
    (is_open_at number earlier)
    response)
    == 0
    then response ∷ [] else []

-- a final response of a branch but a 2xx, or one that gave further targets
unfoldable pub candidate_by : Proxy → List ProxyEvent → ProxyEvent → List Response
candidate_by first earlier (Heard number sess response now) =
    if is_final response.code then counts first earlier number response else []
candidate_by first earlier (TimedOut number sess response) = counts first earlier number response
candidate_by first earlier event = []

-- the final responses of which the best is forwarded, in the order in which they came
unfoldable pub candidates_of : Proxy → List ProxyEvent → List Response
candidates_of first [] = []
candidates_of first (event ∷ earlier) =
    candidates_of first earlier ++ candidate_by first earlier event

-- the code of a final response that the event forwarded
unfoldable pub forwarded_by : ProxyEvent → Option ℕ
forwarded_by (Forwarded code) = if is_final code then Some code else None
forwarded_by event = None

-- the code of the final response that was forwarded first
unfoldable pub forwarded_of : List ProxyEvent → Option ℕ
forwarded_of events =
    option_and_then (λ (found : Found ProxyEvent). forwarded_by found.item)
    (first_in_time (λ earlier event. is_some (forwarded_by event)) events)

-- ## CANCELs

-- the time of this branch was up, and it is to be cancelled
unfoldable pub is_expiry_of : ℕ → ProxyEvent → Bool
is_expiry_of number (Expired n) = n == number
is_expiry_of number event = false

-- a turn ended
unfoldable pub is_rest : ProxyEvent → Bool
is_rest Rested = true
is_rest event = false

-- since the last turn ended the search was ended, or the time of the branch was up
unfoldable pub is_cancelled : ℕ → List ProxyEvent → Bool
is_cancelled number [] = false
is_cancelled number (event ∷ earlier) =
    if is_rest event then false
    else (was_started number earlier && (stops earlier event || is_expiry_of number event))
    || is_cancelled number earlier

-- the branches that get a CANCEL as the turn ends, in their order
unfoldable pub cancelled_of : List ProxyEvent → List ℕ
cancelled_of events =
    filter (λ number. is_open_at number events && is_cancelled number events) (started_of events)

-- ## Which lists there are

-- each branch that is started is a new one, and takes a target that waits, where it isn't that of a
-- later request
unfoldable pub IsHad : Proxy → List ProxyEvent → Type 0
IsHad first [] = Unit {0}
IsHad first (Started number now ∷ earlier) =
    (was_started number earlier ≡ false)
    × (taken_since earlier < length (added_since first earlier)) × IsHad first earlier
IsHad first (PassedOn number ∷ earlier) = (was_started number earlier ≡ false) × IsHad first earlier
IsHad first (event ∷ earlier) = IsHad first earlier

-- the proxy is what these functions say
pub record IsOfList (first proxy : Proxy) (events : List ProxyEvent) : Type 0 where
  pub tried : proxy.tried ≡ tried_of first events
  pub targets : proxy.targets ≡ targets_of first events
  pub settled : proxy.settled ≡ is_settled events
  pub candidates : proxy.candidates ≡ candidates_of first events
  pub forwarded : proxy.forwarded ≡ forwarded_of events
  pub started : map (λ (b : Branch). b.number) proxy.branches ≡ started_of events
  pub running : map (λ (b : Branch). b.number) (filter is_open proxy.branches)
      ≡ filter (λ number. is_open_at number events) (started_of events)
  pub cancelled : map (λ (b : Branch). b.number)
      (filter (λ (b : Branch). is_open b && b.cancelled) proxy.branches) ≡ cancelled_of events
