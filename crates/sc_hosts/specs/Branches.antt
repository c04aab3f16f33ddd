-- A proxied request: its targets and branches, and what a response, a timer or a CANCEL makes of
-- them (RFC 3261 section 16). How targets follow each other and which responses the application is
-- told is this project's profile.
use Rattle.std.specs.Prelude.{ℕ, ◌+◌, ◌-◌, ◌*◌, ◌==◌, List, [], ◌∷◌, ◌++◌, Bool, true, false, not, ◌&&◌, ◌||◌, Option, None, Some, is_none, option_map, option_and_then, nat_lt, nat_le, if◌then◌else◌, length, map, filter, take}
use Rattle.std.specs.List.{find, list_any, filter_map}
use Rattle.std.specs.Option.{option_map_or}
use Rattle.sc_value.specs.declared.ids.ReqId.{ReqId}
use Rattle.sc_value.specs.declared.ids.SessId.{SessId}
use Rattle.sc_value.specs.declared.parts.Uri.{Uri}
use Rattle.sc_value.specs.declared.parts.Uri.TheVariants.{Sip, Other}
use Rattle.sc_value.specs.declared.message.Request.{Request}
use Rattle.sc_value.specs.declared.message.Response.{Response}
use Rattle.sc_value.specs.Lists.{change_first}
use Rattle.sc_tokens.specs.Names.{same_bytes}
use Rattle.sc_terms.specs.declared.calls.ProxyOptions.{ProxyOptions}
use Rattle.sc_state.specs.declared.proxy.Branch.{Branch}
use Rattle.sc_state.specs.declared.proxy.Proxy.{Proxy}
use Rattle.sc_grammar.specs.Written.{uri_text}
use Rattle.sc_model.specs.Dialogs.{contact_uri}
use Rattle.sc_model.specs.SessionStates.{invite, is_final}
use Rattle.sc_model.specs.Transactions.{is_success}
use Rattle.sc_hosts.specs.RefusalParts.{MOST_BRANCHES}

-- ## Tests

-- the branch of this number
abbrev pub is_branch : ℕ → Branch → Bool
is_branch number branch = branch.number == number

-- the branch has no final response
abbrev pub is_open : Branch → Bool
is_open branch = is_none branch.ended

-- some branch waits for its final response
abbrev pub has_open : Proxy → Bool
has_open proxy = list_any is_open proxy.branches

-- the branch of this number, if there is one
abbrev pub branch_in : Proxy → ℕ → Option Branch
branch_in proxy number = find (is_branch number) proxy.branches

-- the request was forwarded on this branch
abbrev pub has_branch : ℕ → Proxy → Bool
has_branch number proxy = list_any (is_branch number) proxy.branches

-- the proxied request is an INVITE
abbrev pub is_invite : Proxy → Bool
is_invite proxy = same_bytes proxy.request.method invite

-- 3xx are followed (RFC 3261 section 16.5); not for a later request, which has no options
unfoldable pub recurses : Proxy → Bool
recurses proxy = option_map_or (λ (o : ProxyOptions). o.recurse) proxy.options false

-- the application is told of responses (JSR 289 section 10.2.2)
unfoldable pub is_supervised : Proxy → Bool
is_supervised proxy = option_map_or (λ (o : ProxyOptions). o.supervised) proxy.options true

-- the application stays on the path of later requests (JSR 289 section 10, RFC 3261 section 16.6,
-- step 4)
unfoldable pub records_route : Proxy → Bool
records_route proxy = option_map_or (λ (o : ProxyOptions). o.record_route) proxy.options true

-- all targets are tried at once, and not one after the other
unfoldable pub is_parallel : Proxy → Bool
is_parallel proxy = option_map_or (λ (o : ProxyOptions). o.parallel) proxy.options true

-- the moment at which the timer of a branch is due that is begun at this one (RFC 3261 section
-- 16.6, timer C)
unfoldable pub branch_due : Proxy → ℕ → Option ℕ
branch_due proxy now = option_map (λ (o : ProxyOptions). now + o.timeout * 1000) proxy.options

-- a 6xx speaks for every place
abbrev pub is_global : ℕ → Bool
is_global code = nat_le 600 code

-- a 3xx
abbrev pub is_redirect : ℕ → Bool
is_redirect code = nat_le 300 code && nat_lt code 400

-- a 2xx or a 6xx ends the search
abbrev pub ends_search : ℕ → Bool
ends_search code = is_success code || is_global code

-- ## Recursion (RFC 3261 section 16.5)

-- the URI where its scheme is `sip`; others aren't followed
unfoldable pub sip_uri : Uri → Option Uri
sip_uri (Sip uri) = Some (Sip uri)
sip_uri (Other text) = None

-- the `sip:` URIs of its Contacts, in order
unfoldable pub contacts_of : Response → List Uri
contacts_of response =
    filter_map (λ contact. option_and_then sip_uri (contact_uri contact)) response.head.contact

-- a URI of the same written text is among them
unfoldable pub was_tried : List Uri → Uri → Bool
was_tried tried uri = list_any (λ t. same_bytes (uri_text t) (uri_text uri)) tried

-- those whose written text was not tried, each once
unfoldable pub new_targets : List Uri → List Uri → List Uri
new_targets tried [] = []
new_targets tried (uri ∷ uris) =
    if was_tried tried uri then new_targets tried uris
    else (uri ∷ new_targets (tried ++ uri ∷ []) uris)

-- the targets that a response adds
unfoldable pub added_targets : Proxy → Response → List Uri
added_targets proxy response =
    if is_redirect response.code && recurses proxy && not proxy.settled
    then take (MOST_BRANCHES - length proxy.tried) (new_targets proxy.tried (contacts_of response))
    else
    []

-- ## What a response makes of it

-- a change of the branch of this number
abbrev pub change_branch : ℕ → (Branch → Branch) → Proxy → Proxy
change_branch number change proxy =
    record proxy { branches = change_first (is_branch number) change proxy.branches }

-- each open branch is to be cancelled
unfoldable pub cancelled_branch : Branch → Branch
cancelled_branch branch = if is_open branch then record branch { cancelled = true } else branch

-- no further target, and a CANCEL to each open branch
unfoldable pub without_search : Proxy → Proxy
without_search proxy =
    record proxy { targets = []; settled = true; branches = map cancelled_branch proxy.branches }

-- a 101 to 199 begins the timer again
unfoldable pub after_ringing : ℕ → ℕ → Proxy → Proxy
after_ringing number now proxy =
    change_branch number (λ branch. record branch { due = branch_due proxy now }) proxy

-- the branch with the code of its final response; its timer runs no more
unfoldable pub with_end : ℕ → Branch → Branch
with_end code branch = record branch { ended = Some code; cancelled = false; due = None }

-- the proxy with this branch ended, and that noted for this turn
unfoldable pub ended_branch : ℕ → ℕ → Proxy → Proxy
ended_branch number code proxy =
    record (change_branch number (with_end code) proxy) { heard_final = true }

-- a 3xx that adds a target is no candidate; the others but 2xx are
unfoldable pub with_candidate : Response → Proxy → Proxy
with_candidate response proxy =
    if is_success response.code || not (length (added_targets proxy response) == 0) then proxy
    else record proxy { candidates = proxy.candidates ++ response ∷ [] }

-- the proxy with these targets more, which wait
unfoldable pub with_targets : List Uri → Proxy → Proxy
with_targets uris proxy =
    record proxy { tried = proxy.tried ++ uris; targets = proxy.targets ++ uris }

-- the response is to be forwarded at the end of the turn, in this SipSession
unfoldable pub passing_on : SessId → Response → Proxy → Proxy
passing_on sess response proxy =
    record proxy { passing = Some (record { sess = sess; response = response }) }

-- what the first final response of a branch makes of the proxy (RFC 3261 section 16.7)
unfoldable pub ended_by : ℕ → SessId → Response → Proxy → Proxy
ended_by number sess response proxy =
    let heard = with_candidate response (ended_branch number response.code proxy) in
    let ended = with_targets (added_targets proxy response) heard in
    if is_success response.code then passing_on sess response (without_search ended)
    else (if is_global response.code then without_search ended else ended)

-- a response on a branch that has its final response, or that its timer ended: a 2xx is forwarded
-- and ends the search, nothing else counts
unfoldable pub after_end : SessId → Response → Proxy → Proxy
after_end sess response proxy =
    if is_success response.code then passing_on sess response (without_search proxy) else proxy

-- what a response on this branch makes of the proxy, handled in this SipSession at this moment
unfoldable pub proxy_after_response : ℕ → SessId → Response → ℕ → Proxy → Proxy
proxy_after_response number sess response now proxy =
    if not (option_map_or is_open (branch_in proxy number) false) then after_end sess response proxy
    else (if is_final response.code then ended_by number sess response proxy
    else passing_on sess response (after_ringing number now proxy))

-- ## What the application is told

-- the targets that are left once this final response has dropped what it drops
unfoldable pub leaves_target : Proxy → Response → Bool
leaves_target proxy response = not (length proxy.targets == 0) && not (ends_search response.code)

-- the final response ends the last branch: no branch is open then, no target is left, and it adds
-- none
unfoldable pub ends_last : ℕ → Response → Proxy → Bool
ends_last number response proxy =
    not (has_open (ended_branch number response.code proxy)) && not (leaves_target proxy response)
    && length (added_targets proxy response) == 0

-- told as a response, and not as that of one branch
unfoldable pub is_told_whole : ℕ → Response → Proxy → Bool
is_told_whole number response proxy =
    not (is_final response.code) || (is_success response.code && is_invite proxy)
    || ends_last number response proxy

-- ## The timer of a branch (RFC 3261 section 16.8)

-- the timer of an open branch that was due at this moment, and wasn't begun again since
unfoldable pub is_timed_out : ℕ → ℕ → Proxy → Bool
is_timed_out number due proxy =
    option_map_or (λ branch. is_open branch && option_map_or (λ d. d == due) branch.due false)
    (branch_in proxy number) false

-- an INVITE that has a provisional response is cancelled
unfoldable pub to_cancel : ℕ → Proxy → Proxy
to_cancel number proxy =
    change_branch number (λ branch. record branch { cancelled = true; due = None }) proxy

-- ## How a request becomes proxied

-- a request as it becomes proxied, without targets yet
unfoldable pub new_proxy : ReqId → SessId → ℕ → Request → Option ProxyOptions → Proxy
new_proxy req sess event request how = record {
  req = req;
  sess = sess;
  event = event;
  request = request;
  options = how;
  tried = [];
  targets = [];
  branches = [];
  candidates = [];
  passing = None;
  forwarded = None;
  settled = false;
  heard_final = false;
}

-- a branch as it is begun at this moment
unfoldable pub new_branch : Proxy → ℕ → ℕ → Branch
new_branch proxy number now =
    record { number = number; ended = None; cancelled = false; due = branch_due proxy now }

-- ## What it sends at the end of a turn

-- the targets that are started now: all of them, or the next one where no branch is open
unfoldable pub starting : Proxy → List Uri
starting proxy =
    if is_parallel proxy then proxy.targets
    else (if has_open proxy then [] else take 1 proxy.targets)

-- the best response can go: there is one, no branch is open, no target is left, and none has gone
unfoldable pub can_choose : Proxy → Bool
can_choose proxy =
    not (length proxy.candidates == 0) && not (has_open proxy) && length proxy.targets == 0
    && is_none proxy.forwarded

-- what waits can go: once a final response was forwarded only a further 2xx to INVITE
unfoldable pub can_pass : Proxy → Response → Bool
can_pass proxy response = is_none proxy.forwarded || (is_success response.code && is_invite proxy)

-- the branches that get a CANCEL, in their order: only those of an INVITE ever do
unfoldable pub cancelled_now : Proxy → List ℕ
cancelled_now proxy =
    if is_invite proxy
    then map (λ branch. branch.number)
    (filter (λ branch. is_open branch && branch.cancelled) proxy.branches)
    else []

-- the search has ended in this turn: no branch is open and no target left
unfoldable pub is_exhausted : Proxy → Bool
is_exhausted proxy = proxy.heard_final && not (has_open proxy) && length proxy.targets == 0
