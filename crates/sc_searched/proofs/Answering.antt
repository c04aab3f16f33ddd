-- In every history each request that is proxied was answered wherever its search was over.
use Rattle.std.proofs.Common.{◌≡◌, ℕ, ◌++◌, Bool, true, false, List, [], ◌∷◌, inl, inr, sym, ap, append_assoc, subst, ◌∙◌, append-nil}
use Rattle.std.specs.Prelude.{cond, is_none}
use Rattle.sc_value.specs.declared.ids.ReqId.{ReqId}
use Rattle.sc_terms.specs.declared.calls.Call.{Call}
use Rattle.sc_terms.specs.declared.calls.Call.TheVariants as calls
use Rattle.sc_terms.specs.declared.calls.CallRecord.{CallRecord}
use Rattle.sc_terms.specs.declared.settings.Config.{Config}
use Rattle.sc_state.specs.declared.proxy.Proxy.{Proxy}
use Rattle.sc_state.specs.declared.queue.Queued.{Queued}
use Rattle.sc_state.specs.declared.queue.Queued.TheVariants as queued
use Rattle.sc_state.specs.declared.session.Known.{Known}
use Rattle.sc_state.specs.declared.session.Session.{Session}
use Rattle.sc_state.specs.declared.working.Play.{Play}
use Rattle.sc_hosts.specs.Effects.{after_listed}
use Rattle.sc_hosts.specs.Histories.{History, session_after, session_of}
use Rattle.sc_hosts.specs.Refusals.{refusal}
use Rattle.sc_hosts.specs.Looking.{same_request}
use Rattle.sc_hosts.specs.Sessions.{Turn}
use Rattle.sc_lasting.specs.Lasting.{All}
use Rattle.sc_lasting.proofs.Parts.{all-map}
use Rattle.sc_proxied.specs.ProxyLists.{Asked, Expired, Heard, IsHad, PassedOn, ProxyEvent, Stopped, TimedOut, proxy_after}
use Rattle.sc_proxying.specs.Proxying.{AreOfTurns, BeginsIn, HasItsList, IsBegun, IsOfEnd, IsOfEvent, IsOfTurn, IsPassed, IsTimeUp, as_begun, given_at, given_by, given_of, shown_play}
use Rattle.sc_proxying.proofs.Listed.{lists-are-had}
use Rattle.sc_proxying.proofs.Runs.{after-append}
use Rattle.sc_searched.specs.Endings.{AreAnswered, HasItsAnswer}
use Rattle.sc_searched.proofs.Going.{IsWithin, earlier-had, first-stands}
use Rattle.sc_searched.proofs.Resting.{IsDone, end-done, within-done}

-- ## What happens within a turn

both-within : (later earlier : List ProxyEvent) → All IsWithin later → All IsWithin earlier → All IsWithin (later ++ earlier)
unfolding All
both-within [] earlier one two = two
both-within (event ∷ later) earlier one two = (one.0, both-within later earlier one.1 two)

if-within : (b : Bool) (events : List ProxyEvent) → All IsWithin events → All IsWithin (cond b events [])
unfolding All
if-within true events within = within
if-within false events within = tt

-- of the calls
call-within : (req : ReqId) (call : Call) → All IsWithin (given_by req call)
unfolding given_by All IsWithin
call-within req (calls.Respond of answer) = tt
call-within req (calls.CreateRequest ask) = tt
call-within req (calls.CreateInDialog sess ask) = tt
call-within req (calls.B2bCreate of uri) = tt
call-within req (calls.SetDirective draft directive origin) = tt
call-within req (calls.Send draft) = tt
call-within req (calls.Discard draft) = tt
call-within req (calls.Ack sess body) = tt
call-within req (calls.Cancel of) = tt
call-within req (calls.ProxyTo of uris how) = if-within (same_request req of) (Asked uris ∷ []) (tt, tt)
call-within req (calls.ProxyCancel of) = if-within (same_request req of) (Stopped ∷ []) (tt, tt)
call-within req (calls.B2bRespond sess answer) = tt
call-within req (calls.Link a b) = tt
call-within req (calls.Unlink a) = tt
call-within req (calls.StartTimer delay period info) = tt
call-within req (calls.CancelTimer id) = tt
call-within req (calls.SetAttribute name value) = tt
call-within req (calls.RemoveAttribute name) = tt
call-within req (calls.SetExpires minutes) = tt
call-within req (calls.SetReadyFlag target flag) = tt
call-within req (calls.InvalidateSession sess) = tt
call-within req calls.InvalidateApplication = tt

calls-within : (made : List CallRecord) (req : ReqId) (play : Play) → All IsWithin (given_of req play made)
unfolding given_of All
calls-within [] req play = tt
calls-within (m ∷ made) req play =
    both-within (given_of req (after_listed play m.call) made) (given_at req play m.call) (calls-within made req (after_listed play m.call))
    (if-within (is_none (refusal play m.call)) (given_by req m.call) (call-within req m.call))

begins-within : (made : List CallRecord) (begun : Proxy) (play : Play) (given : List ProxyEvent) → BeginsIn begun play made given → All IsWithin given
unfolding BeginsIn
begins-within [] begun play given begins = absurd begins
begins-within (m ∷ made) begun play given (inl (accepted, by, is)) =
    subst (λ (events : List ProxyEvent). All IsWithin events) (sym is)
    (both-within (given_of begun.req (after_listed play m.call) made) (given_by begun.req m.call) (calls-within made begun.req (after_listed play m.call)) (call-within begun.req m.call))
begins-within (m ∷ made) begun play given (inr begins) = begins-within made begun (after_listed play m.call) given begins

-- of the event
none-within : (came : List ProxyEvent) → came ≡ [] → All IsWithin came
unfolding All
none-within came is = subst (λ (events : List ProxyEvent). All IsWithin events) (sym is) tt

one-within : (came : List ProxyEvent) (event : ProxyEvent) → came ≡ event ∷ [] → IsWithin event → All IsWithin came
unfolding All
one-within came event is within = subst (λ (events : List ProxyEvent). All IsWithin events) (sym is) (within, tt)

event-within : (known : Known) (now : ℕ) (proxy : Proxy) (event : Queued) (came : List ProxyEvent) → IsOfEvent known now proxy event came → All IsWithin came
unfolding IsOfEvent IsTimeUp IsWithin
event-within known now proxy (queued.Initial region subscriber popped request) came of = none-within came of
event-within known now proxy (queued.Request request) came of = none-within came of
event-within known now proxy (queued.Response branch response) came (inl none) = none-within came none
event-within known now proxy (queued.Response branch response) came (inr (sess, on, is)) = one-within came (Heard branch sess response now) is tt
event-within known now proxy (queued.Cancelled number) came (inl none) = none-within came none
event-within known now proxy (queued.Cancelled number) came (inr (of, is)) = one-within came Stopped is tt
event-within known now proxy (queued.Timer id) came of = none-within came of
event-within known now proxy (queued.BranchTimer branch due) came (inl none) = none-within came none
event-within known now proxy (queued.BranchTimer branch due) came (inr (on, inl is)) = one-within came (Expired branch) is tt
event-within known now proxy (queued.BranchTimer branch due) came (inr (on, inr (sess, response, code, is))) = one-within came (TimedOut branch sess response) is code
event-within known now proxy queued.Expired came of = none-within came of
event-within known now proxy queued.Ready came of = none-within came of

-- ## Turn by turn

later-had : (first : Proxy) (later events : List ProxyEvent) → IsHad first (later ++ events) → IsHad first events
later-had first [] events had = had
later-had first (event ∷ later) events had = later-had first later events (earlier-had first event (later ++ events) had)

module _ (config : Config) (history : History) (q : Proxy) where
  abbrev first : Proxy
  first = as_begun q

  start-done : IsDone q []
  unfolding AreAnswered
  start-done = record { stands = first-stands q; answered = tt }

  begun-done : (session : Session) (turn : Turn) (events : List ProxyEvent) → IsBegun config session turn first events → IsHad first events → IsDone q events
  begun-done session turn events begun had =
      let given : List ProxyEvent = begun.given in
      let all_had : IsHad first (begun.ended ++ given) = subst (λ (all : List ProxyEvent). IsHad first all) begun.own_is had in
      let given_had : IsHad first (given ++ []) = subst (λ (all : List ProxyEvent). IsHad first all) (sym (append-nil given)) (later-had first begun.ended given all_had) in
      let one : IsDone q (given ++ []) = within-done q given [] given_had (begins-within turn.calls first (shown_play config session turn) given begun.of_calls) start-done in
      subst (λ (all : List ProxyEvent). IsDone q all) (sym begun.own_is)
      (end-done q turn.now begun.ended given begun.of_end all_had (subst (λ (all : List ProxyEvent). IsDone q all) (append-nil given) one))

  passed-done : (event : Queued) (events : List ProxyEvent) → IsPassed event first events → IsHad first events → IsDone q events
  unfolding IsPassed All IsWithin
  passed-done (queued.Request request) events (same, none, (number, is)) had =
      subst (λ (all : List ProxyEvent). IsDone q all) (sym is)
      (within-done q (PassedOn number ∷ []) [] (subst (λ (all : List ProxyEvent). IsHad first all) is had) (tt, tt) start-done)
  passed-done (queued.Initial region subscriber popped request) events passed had = absurd passed
  passed-done (queued.Response branch response) events passed had = absurd passed
  passed-done (queued.Cancelled number) events passed had = absurd passed
  passed-done (queued.Timer id) events passed had = absurd passed
  passed-done (queued.BranchTimer branch due) events passed had = absurd passed
  passed-done queued.Expired events passed had = absurd passed
  passed-done queued.Ready events passed had = absurd passed

  turn-done : (session : Session) (turn : Turn) (own before : List ProxyEvent) → IsOfTurn config session turn (proxy_after first before) own → IsHad first (own ++ before) → IsDone q before
      → IsDone q (own ++ before)
  turn-done session turn own before told had done =
      let within : List ProxyEvent = given_of (proxy_after first before).req (shown_play config session turn) turn.calls ++ told.came in
      let all_is : own ++ before ≡ told.ended ++ (within ++ before) = ap (λ (events : List ProxyEvent). events ++ before) told.own_is ∙ append_assoc told.ended within before in
      let all_had : IsHad first (told.ended ++ (within ++ before)) = subst (λ (all : List ProxyEvent). IsHad first all) all_is had in
      let one : IsDone q (within ++ before) =
      within-done q within before (later-had first told.ended (within ++ before) all_had)
      (both-within (given_of (proxy_after first before).req (shown_play config session turn) turn.calls) told.came (calls-within turn.calls (proxy_after first before).req (shown_play config session turn))
      (event-within session.known turn.now (proxy_after first before) turn.waiting.event told.came told.of_event)) done in
      subst (λ (all : List ProxyEvent). IsDone q all) (sym all_is)
      (end-done q turn.now told.ended (within ++ before) (subst (λ (p : Proxy). IsOfEnd turn.now p told.ended) (sym (after-append within before first)) told.of_end) all_had one)

  turns-done : (turns : List Turn) (events : List ProxyEvent) → AreOfTurns config history first turns events → IsHad first events → IsDone q events
  unfolding AreOfTurns
  turns-done [] events told had = absurd told
  turns-done (turn ∷ earlier) events (inl begun) had = begun-done (session_after config history earlier) turn events begun had
  turns-done (turn ∷ earlier) events (inr (inl passed)) had = passed-done turn.waiting.event events passed had
  turns-done (turn ∷ earlier) events (inr (inr (own, before, is, told, more))) had =
      let all_had : IsHad first (own ++ before) = subst (λ (all : List ProxyEvent). IsHad first all) is had in
      subst (λ (all : List ProxyEvent). IsDone q all) (sym is)
      (turn-done (session_after config history earlier) turn own before told all_had (turns-done earlier before more (later-had first own before all_had)))

has-answer : (config : Config) (history : History) (turns : List Turn) (q : Proxy) → HasItsList config history turns q → HasItsAnswer config history turns q
has-answer config history turns q list = record {
  list = list;
  answered = (turns-done config history q turns list.events list.told list.had).answered;
}

-- in every history
pub all-answered : (config : Config) (history : History) → All (HasItsAnswer config history history.turns) (session_of config history).known.proxies
all-answered config history =
    all-map (HasItsList config history history.turns) (HasItsAnswer config history history.turns) (session_of config history).known.proxies (has-answer config history history.turns) (lists-are-had config history)
