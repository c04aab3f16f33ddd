-- When the search of a proxied request is over, as the list of all that happened to it tells it,
-- and that a final response was forwarded by then (RFC 3261 section 16.7).
use Rattle.std.specs.Prelude.{◌≡◌, ℕ, ◌==◌, List, [], ◌∷◌, Bool, true, false, not, ◌&&◌, ◌||◌, if◌then◌else◌, is_some, length, filter}
use Rattle.sc_value.specs.declared.ids.AppId.{AppId}
use Rattle.sc_terms.specs.declared.settings.Config.{Config}
use Rattle.sc_parts.specs.declared.setup.Setup.{Setup}
use Rattle.sc_state.specs.declared.proxy.Proxy.{Proxy}
use Rattle.sc_state.specs.declared.queue.Waiting.{Waiting}
use Rattle.sc_state.specs.declared.session.Session.{Session}
use Rattle.sc_hosts.specs.Histories.{History, session_of}
use Rattle.sc_hosts.specs.Sessions.{Turn}
use Rattle.sc_lasting.specs.Lasting.{All}
use Rattle.sc_lived.specs.Lived.{IsLived, Told}
use Rattle.sc_proxied.specs.ProxyLists.{Heard, ProxyEvent, Stopped, added_by, forwarded_of, is_open_at, is_rest, started_by, started_of, targets_of, tried_of}
use Rattle.sc_proxying.specs.Proxying.{HasItsList, as_begun}

-- ## The end of a search

-- the branches that have no final response
abbrev pub running_of : List ProxyEvent → List ℕ
running_of events = filter (λ number. is_open_at number events) (started_of events)

-- the search is over: branches were started, each has its final response, and no target waits
unfoldable pub is_over : Proxy → List ProxyEvent → Bool
is_over first events =
    not (length (started_of events) == 0) && length (running_of events) == 0
    && length (targets_of first events) == 0

-- ## What was found and dropped

-- a redirect that is followed: its Contacts become targets (RFC 3261 section 16.5)
unfoldable pub redirects : Proxy → List ProxyEvent → ProxyEvent → Bool
redirects first earlier (Heard number sess response now) =
    not
    (length (added_by first (tried_of first earlier) earlier (Heard number sess response now)) == 0)
redirects first earlier event = false

-- one came since the last turn ended
unfoldable pub was_redirected : Proxy → List ProxyEvent → Bool
was_redirected first [] = false
was_redirected first (event ∷ earlier) =
    if is_rest event then false else redirects first earlier event || was_redirected first earlier

-- the application, or a CANCEL that came, stops the search
unfoldable pub is_stop : ProxyEvent → Bool
is_stop Stopped = true
is_stop event = false

-- since its last branch was started the search was stopped, in the same turn behind a redirect that
-- was followed; so the application stopped it, and the new targets were dropped
unfoldable pub was_dropped : Proxy → List ProxyEvent → Bool
was_dropped first [] = false
was_dropped first (event ∷ earlier) =
    if length (started_by event) == 0
    then is_stop event && was_redirected first earlier || was_dropped first earlier
    else false

-- ## The answer

-- where a turn ends here and the search is over, a final response was forwarded; or the targets of
-- a redirect were dropped
unfoldable pub IsAnswered : Proxy → List ProxyEvent → ProxyEvent → Type 0
IsAnswered first earlier event =
    is_rest event ≡ true → is_over first earlier ≡ true
    → (is_some (forwarded_of earlier) || was_dropped first earlier) ≡ true

-- it is so wherever a turn ended
unfoldable pub AreAnswered : Proxy → List ProxyEvent → Type 0
AreAnswered first [] = Unit {0}
AreAnswered first (event ∷ earlier) = IsAnswered first earlier event × AreAnswered first earlier

-- the request has its list, and was answered by it wherever its search was over
pub record HasItsAnswer (config : Config) (history : History) (turns : List Turn)
    (proxy : Proxy) : Type 0 where
  pub list : HasItsList config history turns proxy
  pub answered : AreAnswered (as_begun proxy) list.events

-- what the journal tells of a session is its life, and each request that it proxies was answered so
pub record HaveAnswers (setup : Setup) (app : AppId) (given : List Told) (history : History)
    (session : Session) (inbox : List Waiting) : Type 0 where
  pub lived : IsLived setup app given history inbox
  pub answers : All (HasItsAnswer setup.config history history.turns) session.known.proxies

-- what the session is comes of such a history
pub record HasAnswers (setup : Setup) (app : AppId) (given : List Told) (session : Session)
    (inbox : List Waiting) : Type 0 where
  pub history : History
  pub is : session ≡ session_of setup.config history
  pub have : HaveAnswers setup app given history session inbox
