-- The turn of a later request of a proxied dialog: where an accepted call ends its SipSession the request is answered 500; where none does it is passed on, or answered where it may go no further.
use Rattle.std.proofs.Common.{◌++◌, ◌∙◌, ◌∷◌, ◌≡◌, ◌⊎◌, Bool, List, None, Option, Some, [], ap, append-nil, append_assoc, arith, cond, false, inl, inr, refl, subst, suc, sym, true, zero, ℕ}
use Rattle.std.proofs.lemmas.Bool.Decides.{nat_tests}
use Rattle.std.specs.List.{flat_map, fold}
use Rattle.std.specs.Prelude.{◌&&◌, ◌==◌, ◌||◌, filter, is_some, map, not, option_and_then}
use Rattle.sc_value.specs.declared.ids.ReqId.{ReqId}
use Rattle.sc_value.specs.declared.ids.SessId.{SessId}
use Rattle.sc_value.specs.declared.message.Request.{Request}
use Rattle.sc_value.specs.declared.message.Response.{Response}
use Rattle.sc_value.specs.declared.parts.Uri.{Uri}
use Rattle.sc_tokens.specs.Names.{same_bytes}
use Rattle.sc_terms.specs.declared.calls.Answer.{Answer}
use Rattle.sc_terms.specs.declared.calls.Call.{Call}
use Rattle.sc_terms.specs.declared.calls.Call.TheVariants as calls
use Rattle.sc_terms.specs.declared.calls.CallRecord.{CallRecord}
use Rattle.sc_terms.specs.declared.calls.End.{End}
use Rattle.sc_terms.specs.declared.calls.End.TheVariants as ends
use Rattle.sc_terms.specs.declared.calls.Refusal.{Refusal}
use Rattle.sc_terms.specs.declared.inside.Inside.{Inside}
use Rattle.sc_terms.specs.declared.settings.Config.{Config}
use Rattle.sc_terms.specs.declared.views.RequestView.{RequestView}
use Rattle.sc_terms.specs.declared.views.View.{View}
use Rattle.sc_state.specs.declared.orders.Order.{Order}
use Rattle.sc_state.specs.declared.orders.Order.TheVariants as orders
use Rattle.sc_state.specs.declared.proxy.Passing.{Passing}
use Rattle.sc_state.specs.declared.proxy.Proxy.{Proxy}
use Rattle.sc_state.specs.declared.queue.Queued.{Queued}
use Rattle.sc_state.specs.declared.queue.Queued.TheVariants as queued
use Rattle.sc_state.specs.declared.queue.Waiting.{Waiting}
use Rattle.sc_state.specs.declared.session.Kept.{Kept}
use Rattle.sc_state.specs.declared.session.Known.{Known}
use Rattle.sc_state.specs.declared.session.Leg.{Leg}
use Rattle.sc_state.specs.declared.session.Session.{Session}
use Rattle.sc_state.specs.declared.session.Way.{Way}
use Rattle.sc_state.specs.declared.session.Way.TheVariants.{Received}
use Rattle.sc_state.specs.declared.working.Asked.{Asked}
use Rattle.sc_state.specs.declared.working.Asked.TheVariants as asked
use Rattle.sc_state.specs.declared.working.Draft.{Draft}
use Rattle.sc_state.specs.declared.working.Prepared.{Prepared}
use Rattle.sc_state.specs.declared.working.Working.{Working}
use Rattle.sc_state.specs.declared.working.Written.{Written}
use Rattle.sc_tokens.specs.Bytes.{Bytes}
use Rattle.sc_model.specs.BestResponses.{best_response, server_error}
use Rattle.sc_model.specs.Dialogs.{DialogState}
use Rattle.sc_model.specs.SessionStates.{ack}
use Rattle.sc_hosts.specs.Acting.{after_proxy as acted, acts, all_act, chooses, closed_session, closes, drafts_ended, with_next_branch as drawn, fault_at, after_fault as faulted, forwards, forwards_best, hops_spent, in_view, is_request_event, passed_later, passed_on, passed_request_of, passes, passes_later, proxy_now, sends_cancels, sent_proxy, after_start as started}
use Rattle.sc_hosts.specs.Branches.{can_choose, can_pass, is_exhausted, starting}
use Rattle.sc_hosts.specs.Effects.{after_listed, first_play as begun, played_by}
use Rattle.sc_hosts.specs.Finishing.{after_all_calls as finished, goodbye, is_ended, is_needed, lacks_final, without_unneeded as lightened, outcome, outcome_of, session_in_play, swept, without_acks}
use Rattle.sc_hosts.specs.Giving.{answering, answers, directs, drafts_later, drafts_leg, drafts_own, forgets, giving, writes}
use Rattle.sc_hosts.specs.Legs.{leg_of}
use Rattle.sc_hosts.specs.Looking.{is_request, request_in, same_request, same_session}
use Rattle.sc_hosts.specs.Messages.{bare_answer, given_response, on_branch, passed_request}
use Rattle.sc_hosts.specs.Preparing.{kept_of, own_tag_of}
use Rattle.sc_hosts.specs.PreparingRequests.{prepared_for_request as taken}
use Rattle.sc_hosts.specs.PreparingResponses.{is_invalid}
use Rattle.sc_hosts.specs.RefusalParts.{draft_in}
use Rattle.sc_hosts.specs.Refusals.{refusal}
use Rattle.sc_hosts.specs.ViewChanges.{view_with_answer as answered, is_owed}
use Rattle.sc_hosts.specs.Words.{too_many_hops}
use Rattle.sc_hosts.specs.Working.{ack_with, acknowledges, cancels, dialog_in, effects_of_call as does, does_by, goodbyes, invalidates, keeps_sent, next_branch, owed_answer, sends, sends_in, sends_initial, sends_later, sends_written, starts, after_one_call as worked, worked_all}
use Rattle.sc_lasting.specs.Lasting.{All}
use Rattle.sc_lasting.proofs.Began.{same-number, test-found}
use Rattle.sc_lasting.proofs.Parts.{all-filter, all-found}
use Rattle.sc_onward.specs.Onward.{AnswersLast, AreCounted, ComesToProxy, PassesLast}
use Rattle.sc_onward.proofs.Ends.{HasAll, Stays, answers-are, before-stays, dated, found-kept, found-shown, given-code, has-all, later-orders, passed_on-goes, shown-is, spent-orders, taken-known, taken-req, taken-view, valid-is, zero-suc}
use Rattle.sc_onward.proofs.Kept.{Holds, Keeps, KeepsAt, Knows, ShownAt, worked-holds}
use Rattle.sc_onward.proofs.Stays.{Fine, Has, RightAt, has-filter}
use Rattle.sc_onward.proofs.Stopping.{one-call}
use Rattle.sc_halted.specs.Halted.{AnswersIn, EndsThere, given_for, shown_of}

-- ## An answer among the orders

-- a 500 to this event stands in them
abbrev pub Has500 : ℕ → List Order → Type 0
Has500 event given =
    (before : List Order) × (later : List Order) × (response : Response) × (response.code ≡ 500) × (given ≡ before ++ orders.Respond event response ∷ later)

pub has-more : (event : ℕ) (given new : List Order) → Has500 event given → Has500 event (given ++ new)
has-more event given new has =
    (has.0, has.1 ++ new, has.2, has.3, ap (λ (os : List Order). os ++ new) has.4 ∙ append_assoc has.0 (orders.Respond event has.2 ∷ has.1) new)

has-behind : (event : ℕ) (first given : List Order) → Has500 event given → Has500 event (first ++ given)
has-behind event first given has =
    (first ++ has.0, has.1, has.2, has.3, ap (λ (os : List Order). first ++ os) has.4 ∙ sym (append_assoc first has.0 (orders.Respond event has.2 ∷ has.1)))

-- ## What was given goes on with more

-- the second are the first, and then more
record Grows (given after : List Order) : Type 0 where
  new : List Order
  is : after ≡ given ++ new

abbrev Adds : Working → Working → Type 0
Adds working after = Grows working.orders after.orders

same-given : (given after : List Order) → after ≡ given → Grows given after
same-given given after is = record { new = []; is = is ∙ sym (append-nil given) }

adds-then : (x y z : Working) → Adds x y → Adds y z → Adds x z
adds-then x y z p q = record { new = p.new ++ q.new; is = q.is ∙ (ap (λ (os : List Order). os ++ q.new) p.is ∙ append_assoc x.orders p.new q.new) }

if-adds : (b : Bool) (working x y : Working) → Adds working x → Adds working y → Adds working (cond b x y)
if-adds true working x y p q = p
if-adds false working x y p q = q

answering-adds : (config : Config) (found : Option RequestView) (answer : Answer) (working : Working) → Adds working (answering config found answer working)
unfolding answering
answering-adds config None answer working = same-given working.orders _ refl
answering-adds config (Some r) answer working = record { new = answers config answer working.play.view (kept_of working.known r.id) r.initial; is = refl }

leg-adds : (req : ReqId) (uri : Option Uri) (kept : Option Kept) (working : Working) → Adds working (drafts_leg req uri kept working)
unfolding drafts_leg writes
leg-adds req uri None working = same-given working.orders _ refl
leg-adds req uri (Some kept) working = same-given working.orders _ refl

sends_in-adds : (config : Config) (s : SessId) (ask : Inside) (dialog : Option DialogState) (working : Working) → Adds working (sends_in config s ask dialog working)
unfolding sends_in sends_later keeps_sent
sends_in-adds config s ask None working = same-given working.orders _ refl
sends_in-adds config s ask (Some dialog) working = record { new = _; is = refl }

written-adds : (config : Config) (draft : Written) (s : SessId) (what : Asked) (working : Working) → Adds working (sends_written config draft s what working)
unfolding sends_written sends_initial keeps_sent
written-adds config draft s (asked.Initial sent) working = record { new = _; is = refl }
written-adds config draft s (asked.Later ask) working = sends_in-adds config s ask (dialog_in working.known s) working

sends-adds : (config : Config) (draft : ℕ) (written : Option Written) (found : Option Draft) (working : Working) → Adds working (sends config draft written found working)
unfolding sends forgets
sends-adds config draft (Some written) (Some found) working = written-adds config written found.sess written.asked working
sends-adds config draft (Some written) None working = same-given working.orders _ refl
sends-adds config draft None found working = same-given working.orders _ refl

ack_with-adds : (config : Config) (body : Bytes) (dialog : Option DialogState) (kept : Option Kept) (working : Working) → Adds working (ack_with config body dialog kept working)
unfolding ack_with
ack_with-adds config body (Some dialog) (Some kept) working = record { new = _; is = refl }
ack_with-adds config body (Some dialog) None working = same-given working.orders _ refl
ack_with-adds config body None kept working = same-given working.orders _ refl

acknowledges-adds : (config : Config) (s : SessId) (body : Bytes) (found : Option RequestView) (working : Working) → Adds working (acknowledges config s body found working)
unfolding acknowledges
acknowledges-adds config s body None working = same-given working.orders _ refl
acknowledges-adds config s body (Some r) working = ack_with-adds config body _ _ working

does-adds : (config : Config) (working : Working) (call : Call) → Adds working (does config working call)
unfolding does drafts_own drafts_later writes directs forgets cancels invalidates
does-adds config working (calls.Respond req answer) = answering-adds config _ answer working
does-adds config working (calls.CreateRequest ask) = same-given working.orders _ refl
does-adds config working (calls.CreateInDialog s ask) = same-given working.orders _ refl
does-adds config working (calls.B2bCreate req uri) = leg-adds req uri _ working
does-adds config working (calls.SetDirective draft directive origin) = same-given working.orders _ refl
does-adds config working (calls.Send draft) = sends-adds config draft _ (draft_in working.play draft) working
does-adds config working (calls.Discard draft) = same-given working.orders _ refl
does-adds config working (calls.Ack s body) = acknowledges-adds config s body _ working
does-adds config working (calls.Cancel req) = record { new = _; is = refl }
does-adds config working (calls.ProxyTo req uris how) = same-given working.orders _ refl
does-adds config working (calls.ProxyCancel req) = same-given working.orders _ refl
does-adds config working (calls.B2bRespond s answer) = answering-adds config _ answer working
does-adds config working (calls.Link a b) = same-given working.orders _ refl
does-adds config working (calls.Unlink a) = same-given working.orders _ refl
does-adds config working (calls.StartTimer delay period info) = same-given working.orders _ refl
does-adds config working (calls.CancelTimer id) = same-given working.orders _ refl
does-adds config working (calls.SetAttribute name value) = same-given working.orders _ refl
does-adds config working (calls.RemoveAttribute name) = same-given working.orders _ refl
does-adds config working (calls.SetExpires minutes) = same-given working.orders _ refl
does-adds config working (calls.SetReadyFlag target flag) = same-given working.orders _ refl
does-adds config working (calls.InvalidateSession s) = record { new = _; is = refl }
does-adds config working calls.InvalidateApplication = same-given working.orders _ refl

does_by-adds : (config : Config) (working : Working) (call : Call) (refused : Option Refusal) → Adds working (does_by config working call refused)
unfolding does_by
does_by-adds config working call None = does-adds config working call
does_by-adds config working call (Some refused) = same-given working.orders _ refl

worked-adds : (config : Config) (working : Working) (call : Call) → Adds working (worked config working call)
unfolding worked
worked-adds config working call = does_by-adds config working call (refusal working.play call)

abbrev Calls : Config → Working → List CallRecord → Working
Calls config working made = fold (λ (w : Working) (m : CallRecord). worked config w m.call) working made

calls-add : (made : List CallRecord) (config : Config) (working : Working) → Adds working (Calls config working made)
calls-add [] config working = same-given working.orders _ refl
calls-add (m ∷ made) config working = adds-then working (worked config working m.call) (Calls config (worked config working m.call) made) (worked-adds config working m.call) (calls-add made config (worked config working m.call))

-- ## So does what follows the calls

fold-adds : {A : Type 0} (items : List A) (act : Working → A → Working) → ((working : Working) (a : A) → Adds working (act working a)) → (working : Working) → Adds working (fold act working items)
fold-adds [] act each working = same-given working.orders _ refl
fold-adds (a ∷ items) act each working = adds-then working (act working a) (fold act (act working a) items) (each working a) (fold-adds items act each (act working a))

fault-adds : (config : Config) (found : Option RequestView) (working : Working) → Adds working (fault_at config found working)
unfolding fault_at
fault-adds config None working = same-given working.orders _ refl
fault-adds config (Some r) working =
    if-adds (is_owed r && not r.proxied) working (in_view (answered (Some r) 500 working.play.view) (answering config (Some r) (bare_answer 500 server_error) working)) working
    (answering-adds config (Some r) (bare_answer 500 server_error) working) (same-given working.orders working.orders refl)

faulted-adds : (config : Config) (req : Option ReqId) (end : End) (working : Working) → Adds working (faulted config req end working)
unfolding faulted
faulted-adds config req ends.Fine working = same-given working.orders _ refl
faulted-adds config req ends.Fault working = fault-adds config _ working
faulted-adds config req ends.Starved working = same-given working.orders _ refl

started-adds : (config : Config) (proxy : Proxy) (working : Working) (uri : Uri) → Adds working (started config proxy working uri)
unfolding started
started-adds config proxy working uri = record { new = _; is = refl }

forwards-adds : (proxy : Proxy) (s : SessId) (response : Response) (working : Working) → Adds working (forwards proxy s response working)
unfolding forwards
forwards-adds proxy s response working = record { new = _; is = refl }

passes-adds : (proxy : Proxy) (passing : Option Passing) (working : Working) → Adds working (passes proxy passing working)
unfolding passes
passes-adds proxy None working = same-given working.orders _ refl
passes-adds proxy (Some passing) working =
    if-adds (can_pass proxy passing.response) working (forwards proxy passing.sess passing.response working) working (forwards-adds proxy passing.sess passing.response working) (same-given working.orders working.orders refl)

best-adds : (proxy : Proxy) (response : Option Response) (working : Working) → Adds working (forwards_best proxy response working)
unfolding forwards_best
best-adds proxy None working = same-given working.orders _ refl
best-adds proxy (Some response) working = forwards-adds proxy proxy.sess response working

chooses-adds : (proxy : Proxy) (working : Working) → Adds working (chooses proxy working)
unfolding chooses
chooses-adds proxy working =
    if-adds (can_choose proxy) working (forwards_best proxy (best_response proxy.candidates) working) working (best-adds proxy (best_response proxy.candidates) working) (same-given working.orders working.orders refl)

closing : Proxy → Working → View
closing proxy working = record working.play.view { sessions = map (closed_session working.known proxy.req proxy.sess) working.play.view.sessions }

closes-adds : (proxy : Proxy) (working : Working) → Adds working (closes proxy working)
unfolding closes closing
closes-adds proxy working = if-adds (is_exhausted proxy && is_some proxy.options) working (in_view (closing proxy working) working) working (same-given working.orders working.orders refl) (same-given working.orders working.orders refl)

cancels-add : (proxy : Proxy) (working : Working) → Adds working (sends_cancels proxy working)
unfolding sends_cancels
cancels-add proxy working = record { new = _; is = refl }

acted-adds : (config : Config) (proxy : Proxy) (working : Working) → Adds working (acted config proxy working)
unfolding acted
acted-adds config proxy working =
    let begun : Working = fold (started config proxy) working (starting proxy) in
    let passed : Working = passes (proxy_now proxy begun) proxy.passing begun in
    let chosen : Working = chooses (proxy_now proxy passed) passed in
    let sent : Working = sends_cancels proxy chosen in
    let closed : Working = closes (proxy_now proxy chosen) sent in
    adds-then working begun closed (fold-adds (starting proxy) (started config proxy) (started-adds config proxy) working)
    (adds-then begun passed closed (passes-adds (proxy_now proxy begun) proxy.passing begun)
    (adds-then passed chosen closed (chooses-adds (proxy_now proxy passed) passed)
    (adds-then chosen sent closed (cancels-add proxy chosen) (closes-adds (proxy_now proxy chosen) sent))))

acts-add : (config : Config) (working : Working) (proxy : Proxy) → Adds working (acts config working proxy)
unfolding acts
acts-add config working proxy = if-adds (is_invalid working.known proxy.sess) working working (acted config proxy working) (same-given working.orders working.orders refl) (acted-adds config proxy working)

all-add : (config : Config) (working : Working) → Adds working (all_act config working)
unfolding all_act
all-add config working = fold-adds working.known.proxies (acts config) (acts-add config) working

spent-adds : (config : Config) (request : RequestView) (working : Working) → Adds working (hops_spent config request working)
unfolding hops_spent
spent-adds config request working =
    if-adds (is_owed request) working (in_view (answered (Some request) 483 working.play.view) (answering config (Some request) (bare_answer 483 too_many_hops) working)) working
    (answering-adds config (Some request) (bare_answer 483 too_many_hops) working) (same-given working.orders working.orders refl)

sent-adds : (b : Bool) (working x y : Working) (view : View) → Adds working x → Adds working y → Adds working (in_view view (cond b x y))
sent-adds true working x y view p q = p
sent-adds false working x y view p q = q

on-adds : (config : Config) (kept : Kept) (working : Working) → Adds working (passed_on config kept working)
unfolding passed_on
on-adds config kept working = sent-adds (same_bytes kept.request.method ack) working _ _ (drawn working.play.view) (record { new = _; is = refl }) (record { new = _; is = refl })

later-adds : (config : Config) (request : RequestView) (kept : Option Kept) (working : Working) → Adds working (passed_later config request kept working)
unfolding passed_later
later-adds config request None working = same-given working.orders _ refl
later-adds config request (Some kept) working =
    let spent : Working = hops_spent config request working in
    let sent : Working = passed_on config kept working in
    if-adds (request.initial || not request.proxied || is_invalid working.known request.sess) working working (cond (request.hops == 0) spent sent) (same-given working.orders working.orders refl)
    (if-adds (request.hops == 0) working spent sent (spent-adds config request working) (on-adds config kept working))

found-adds : (config : Config) (found : Option RequestView) (working : Working) → Adds working (passed_request_of config found working)
unfolding passed_request_of
found-adds config None working = same-given working.orders _ refl
found-adds config (Some request) working = later-adds config request _ working

passes_later-adds : (config : Config) (event : Queued) (req : Option ReqId) (working : Working) → Adds working (passes_later config event req working)
unfolding passes_later
passes_later-adds config event req working =
    if-adds (is_request_event event) working (passed_request_of config (option_and_then (request_in working.play.view) req) working) working
    (found-adds config (option_and_then (request_in working.play.view) req) working) (same-given working.orders working.orders refl)

finished-adds : (config : Config) (event : Queued) (req : Option ReqId) (end : End) (working : Working) → Adds working (finished config event req end working)
unfolding finished drafts_ended
finished-adds config event req end working =
    let left : Working = drafts_ended working in
    let fault : Working = faulted config req end left in
    let acting : Working = all_act config fault in
    let last : Working = passes_later config event req acting in
    adds-then working left last (same-given working.orders _ refl)
    (adds-then left fault last (faulted-adds config req end left)
    (adds-then fault acting last (all-add config fault) (passes_later-adds config event req acting)))

-- ## A call that ends the SipSession answers the request

self-is : (n : ℕ) → (n == n) ≡ true
self-is n = grind (arith, nat_tests)

module _ (number : ℕ) (sess : SessId) (event : ℕ) (request : Request) where
  -- 500, without anything besides
  abbrev Refusing : Answer
  Refusing = record { code = 500; reason = server_error; fields = []; contact = []; body = [] }

  owed-one : (config : Config) (view : View) (known : Known) (q : RequestView) → Fine number sess request.hops request.method q → ◌≡◌ {A = ℕ} q.id.0 number → All (KeepsAt number sess event request) known.kept
      → Keeps number sess event request known.kept → Has500 event (owed_answer config view known q)
  unfolding owed_answer
  owed-one config view known q fine here all has =
      let kept = found-kept number sess event request q.id known.kept here has in
      let same = all-found (KeepsAt number sess event request) (λ (k : Kept). same_request k.id q.id) known.kept kept.0 kept.1 all
      (same-number kept.0.id.0 q.id.0 (test-found (λ (k : Kept). same_request k.id q.id) known.kept kept.0 kept.1) ∙ here) in (
        [],
        [],
        given_response config view (own_tag_of view kept.0.sess) q.initial kept.0.request Refusing,
        given-code number sess event request config view _ _ _ _,
        answers-are number sess event request config view Refusing (kept_of known q.id) kept.0 q.initial kept.1 same.1,
      )

  picked : (test : SessId → Bool) (q : RequestView) → test sess ≡ true → Fine number sess request.hops request.method q → same_bytes request.method ack ≡ false → (test q.sess && is_owed q) ≡ true
  unfolding is_owed
  picked test q here fine other = rw (fine.3, here, fine.5, fine.2, fine.6, other) refl

  abbrev Owed : Config → View → Known → List RequestView → List Order
  Owed config view known requests = flat_map (owed_answer config view known) requests

  first-here : (config : Config) (view : View) (known : Known) (b : Bool) (q : RequestView) (rest : List RequestView) → b ≡ true → Has500 event (owed_answer config view known q)
      → Has500 event (Owed config view known (cond b (q ∷ rest) rest))
  first-here config view known true q rest is has = has-more event (owed_answer config view known q) (Owed config view known rest) has
  first-here config view known false q rest is has = cc

  first-later : (config : Config) (view : View) (known : Known) (b : Bool) (q : RequestView) (rest : List RequestView) → Has500 event (Owed config view known rest)
      → Has500 event (Owed config view known (cond b (q ∷ rest) rest))
  first-later config view known true q rest has = has-behind event (owed_answer config view known q) (Owed config view known rest) has
  first-later config view known false q rest has = has

  owed-found : (requests : List RequestView) (config : Config) (view : View) (known : Known) (test : SessId → Bool) → test sess ≡ true → All (RightAt number sess request.hops request.method) requests
      → Has number sess request.hops request.method requests → All (KeepsAt number sess event request) known.kept → Keeps number sess event request known.kept → same_bytes request.method ack ≡ false
      → Has500 event (Owed config view known (filter (λ (r : RequestView). test r.sess && is_owed r) requests))
  unfolding All Has
  owed-found [] config view known test here all has kept keeps other = absurd has
  owed-found (q ∷ requests) config view known test here all (inl is) kept keeps other =
      let fine = all.0 is in
      first-here config view known (test q.sess && is_owed q) q (filter (λ (r : RequestView). test r.sess && is_owed r) requests) (picked test q here fine other) (owed-one config view known q fine is kept keeps)
  owed-found (q ∷ requests) config view known test here all (inr later) kept keeps other =
      first-later config view known (test q.sess && is_owed q) q (filter (λ (r : RequestView). test r.sess && is_owed r) requests)
      (owed-found requests config view known test here all.1 later kept keeps other)

  invalid-has : (config : Config) (working : Working) → Holds number sess event request working → same_bytes request.method ack ≡ false → Has500 event (invalidates config sess working).orders
  unfolding invalidates goodbyes
  invalid-has config working holds other =
      has-behind event working.orders _
      (has-more event (Owed config working.play.view working.known (filter (λ (r : RequestView). same_session sess r.sess && is_owed r) working.play.view.requests)) _
      (owed-found working.play.view.requests config working.play.view working.known (same_session sess) (self-is sess.0) holds.0.1 holds.0.2 holds.1.0 holds.1.1 other))

  -- ## Call by call

  ended-orders : (config : Config) (working : Working) (call : Call) → call ≡ calls.InvalidateSession sess → refusal working.play call ≡ None → (worked config working call).orders ≡ (invalidates config sess working).orders
  unfolding worked does_by does
  ended-orders config working call is none =
      ap (λ (refused : Option Refusal). (does_by config working call refused).orders) none ∙ ap (λ (c : Call). (does config working c).orders) is

  refused-holds : (config : Config) (working : Working) (call : Call) (refused : Refusal) → refusal working.play call ≡ Some refused → Holds number sess event request working
      → Holds number sess event request (worked config working call)
  unfolding worked after_listed played_by does_by
  refused-holds config working call refused is holds = (
    subst (λ (found : Option Refusal). ShownAt number sess event request (played_by working.play call found).view) (sym is) holds.0,
    subst (λ (found : Option Refusal). Knows number sess event request (does_by config working call found).known) (sym is) holds.1,
  )

  -- an accepted call ended it and the request was answered, or none did and it stands as it came
  abbrev pub Split : Config → Working → List CallRecord → Type 0
  Split config working made =
      (EndsThere sess working.play made × AnswersIn event 500 request (Calls config working made).orders)
      ⊎ ((EndsThere sess working.play made → ⊥) × Holds number sess event request (Calls config working made))

  told-then : (config : Config) (working : Working) (made : List CallRecord) → Has500 event working.orders → Has500 event (Calls config working made).orders
  told-then config working made has =
      let more = calls-add made config working in
      subst (λ (given : List Order). Has500 event given) (sym more.is) (has-more event working.orders more.new has)

  told-by : (config : Config) (working : Working) (m : CallRecord) (made : List CallRecord) → m.call ≡ calls.InvalidateSession sess → refusal working.play m.call ≡ None → Holds number sess event request working
      → (b : Bool) → same_bytes request.method ack ≡ b → AnswersIn event 500 request (Calls config (worked config working m.call) made).orders
  unfolding AnswersIn
  told-by config working m made same none holds true is = inl is
  told-by config working m made same none holds false is =
      inr (told-then config (worked config working m.call) made
      (subst (λ (given : List Order). Has500 event given) (sym (ended-orders config working m.call same none)) (invalid-has config working holds is)))

  neither : (A B : Type 0) → (A → ⊥) → (B → ⊥) → A ⊎ B → ⊥
  neither A B no-a no-b (inl a) = no-a a
  neither A B no-a no-b (inr b) = no-b b

  not-refused : (found : Option Refusal) (refused : Refusal) → found ≡ Some refused → found ≡ None → ⊥
  not-refused found refused p q = cc

  go-on : (config : Config) (working : Working) (m : CallRecord) (made : List CallRecord) → ((m.call ≡ calls.InvalidateSession sess) × (refusal working.play m.call ≡ None) → ⊥)
      → Split config (worked config working m.call) made → Split config working (m ∷ made)
  unfolding EndsThere worked
  go-on config working m made never (inl told) = inl (inr told.0, told.1)
  go-on config working m made never (inr stands) =
      inr (neither ((m.call ≡ calls.InvalidateSession sess) × (refusal working.play m.call ≡ None)) (EndsThere sess (after_listed working.play m.call) made) never stands.0, stands.1)

  step : (config : Config) (working : Working) (m : CallRecord) (made : List CallRecord) → Holds number sess event request working
      → (Holds number sess event request (worked config working m.call) → Split config (worked config working m.call) made) → (found : Option Refusal) → refusal working.play m.call ≡ found
      → (m.call ≡ calls.InvalidateSession sess) ⊎ (m.call ≡ calls.InvalidateSession sess → ⊥) → Split config working (m ∷ made)
  unfolding EndsThere
  step config working m made holds next (Some refused) is one =
      go-on config working m made (λ both. not-refused (refusal working.play m.call) refused is both.1) (next (refused-holds config working m.call refused is holds))
  step config working m made holds next None is (inl same) = inl (inl (same, is), told-by config working m made same is holds (same_bytes request.method ack) refl)
  step config working m made holds next None is (inr other) =
      go-on config working m made (λ both. other both.0) (next (worked-holds number sess event request config working m.call other holds.0 holds.1))

  pub calls-split : (made : List CallRecord) (config : Config) (working : Working) → Holds number sess event request working → Split config working made
  unfolding EndsThere
  calls-split [] config working holds = inr (λ ends. absurd ends, holds)
  calls-split (m ∷ made) config working holds =
      step config working m made holds (λ next. calls-split made config (worked config working m.call) next) (refusal working.play m.call) refl (one-call sess m.call)

-- ## What invalidation answers

-- some orders of a list, in which no answer is left out
filter-has : (event : ℕ) (test : Order → Bool) → ((e : ℕ) (response : Response) → test (orders.Respond e response) ≡ true) → (before later : List Order) (response : Response) → response.code ≡ 500
    → Has500 event (filter test (before ++ orders.Respond event response ∷ later))
filter-has event test each [] later response is = kept-first (test (orders.Respond event response)) (filter test later) (each event response)
  where
    kept-first : (b : Bool) (rest : List Order) → b ≡ true → Has500 event (cond b (orders.Respond event response ∷ rest) rest)
    kept-first true rest at = ([], rest, response, is, refl)
    kept-first false rest at = cc
filter-has event test each (o ∷ before) later response is = by (test o) (filter-has event test each before later response is)
  where
    by : (b : Bool) → Has500 event (filter test (before ++ orders.Respond event response ∷ later))
        → Has500 event (cond b (o ∷ filter test (before ++ orders.Respond event response ∷ later)) (filter test (before ++ orders.Respond event response ∷ later)))
    by true has = has-behind event (o ∷ []) _ has
    by false has = has

some-filtered : (event : ℕ) (test : Order → Bool) → ((e : ℕ) (response : Response) → test (orders.Respond e response) ≡ true) → (given : List Order) → Has500 event given → Has500 event (filter test given)
some-filtered event test each given has =
    subst (λ (os : List Order). Has500 event (filter test os)) (sym has.4) (filter-has event test each has.0 has.1 has.2 has.3)

module _ (number : ℕ) (sess : SessId) (event : ℕ) (request : Request) where
  -- it is kept, and shown without a final response
  record Stood (working : Working) : Type 0 where
    right : All (RightAt number sess request.hops request.method) working.play.view.requests
    shown : Has number sess request.hops request.method working.play.view.requests
    kept : All (KeepsAt number sess event request) working.known.kept
    keeps : Keeps number sess event request working.known.kept

  acting-stood : (working : Working) → Stays number sess event request working → Stood working
  acting-stood working stays = record { right = stays.view.1; shown = stays.view.2; kept = stays.known.0; keeps = stays.known.1 }

  unstopped : (P : Working → Type 0) (first proxied ended : Bool) → first ≡ false → proxied ≡ true → ended ≡ false → (x y : Working) → P y → P (cond (first || not proxied || ended) x y)
  unstopped P false true false p q r x y ok = ok
  unstopped P true proxied ended p q r x y ok = cc
  unstopped P false false ended p q r x y ok = cc
  unstopped P false true true p q r x y ok = cc

  some-hops : (P : Working → Type 0) (n h : ℕ) → n ≡ suc h → (x y : Working) → P y → P (cond (n == 0) x y)
  some-hops P n h is x y ok = by (n == 0) (more-not n h is)
    where
      by : (b : Bool) → b ≡ false → P (cond b x y)
      by true at = cc
      by false at = ok

      more-not : (n h : ℕ) → n ≡ suc h → (n == 0) ≡ false
      more-not n h is = grind (arith, nat_tests, is)

  on-stood : (config : Config) (kept : Kept) (working : Working) → Stood working → Stood (passed_on config kept working)
  unfolding passed_on
  on-stood config kept working stood = by (same_bytes kept.request.method ack)
    where
      by : (b : Bool)
          → Stood (in_view (drawn working.play.view)
          (cond b (giving (orders.Acknowledge (on_branch config working.play.view (next_branch working) (passed_request kept.request)) ∷ []) working)
          (giving (orders.Send (next_branch working) (on_branch config working.play.view (next_branch working) (passed_request kept.request)) ∷ [])
          (record working { known = record working.known { proxies = working.known.proxies ++ sent_proxy kept (next_branch working) ∷ [] } }))))
      by true = record { right = stood.right; shown = stood.shown; kept = stood.kept; keeps = stood.keeps }
      by false = record { right = stood.right; shown = stood.shown; kept = stood.kept; keeps = stood.keeps }

  later-stood : (config : Config) (working : Working) (has : HasAll number sess event request working) (h : ℕ) → request.hops ≡ suc h → Stood working → Stood (passed_later config has.q (Some has.k) working)
  unfolding passed_later
  later-stood config working has h some stood =
      unstopped Stood has.q.initial has.q.proxied (is_invalid working.known has.q.sess) has.fine.0 has.fine.1 has.valid working
      (cond (has.q.hops == 0) (hops_spent config has.q working) (passed_on config has.k working))
      (some-hops Stood has.q.hops h (has.fine.4 ∙ some) (hops_spent config has.q working) (passed_on config has.k working) (on-stood config has.k working stood))

  passes-stood : (config : Config) (working : Working) (has : HasAll number sess event request working) (h : ℕ) → request.hops ≡ suc h → Stood working
      → Stood (passes_later config (queued.Request request) (Some (record { 0 = number })) working)
  unfolding passes_later passed_request_of is_request_event
  passes-stood config working has h some stood =
      rw has.shown (subst (λ (kept : Option Kept). Stood (passed_later config has.q kept working)) (sym has.kept) (later-stood config working has h some stood))

  -- ### Its session as invalidation finds it

  no-ack : (q : RequestView) → Fine number sess request.hops request.method q → same_bytes request.method ack ≡ false → not (q.received && same_bytes q.method ack) ≡ true
  no-ack q fine other = rw (fine.5, fine.6, other) refl

  keeps-filter : (test : Kept → Bool) (kept : List Kept) → ((k : Kept) → ◌≡◌ {A = ℕ} k.id.0 number → ◌≡◌ {A = Way} k.way (Received event) → test k ≡ true) → All (KeepsAt number sess event request) kept
      → Keeps number sess event request kept → Keeps number sess event request (filter test kept)
  unfolding All Keeps
  keeps-filter test [] each all has = absurd has
  keeps-filter test (k ∷ kept) each all (inl is) = here (test k) (each k is (all.0 is).1)
    where
      here : (b : Bool) → b ≡ true → Keeps number sess event request (cond b (k ∷ filter test kept) (filter test kept))
      here true at = inl is
      here false at = cc
  keeps-filter test (k ∷ kept) each all (inr later) = behind (test k) (keeps-filter test kept each all.1 later)
    where
      behind : (b : Bool) → Keeps number sess event request (filter test kept) → Keeps number sess event request (cond b (k ∷ filter test kept) (filter test kept))
      behind true has = inr has
      behind false has = has

  lacks : (view : View) (leg : Option Leg) (k : Kept) → All (RightAt number sess request.hops request.method) view.requests → Has number sess request.hops request.method view.requests
      → same_bytes request.method ack ≡ false → ◌≡◌ {A = ℕ} k.id.0 number → ◌≡◌ {A = Way} k.way (Received event) → is_needed view leg k k.way ≡ true
  unfolding is_needed lacks_final
  lacks view leg k right shown other here way =
      let found = found-shown number sess event request view.requests shown in
      let same : k.id ≡ record { 0 = number } = ap (λ (n : ℕ). record { 0 = n }) here in
      let fine = all-found (RightAt number sess request.hops request.method) (is_request (record { 0 = number })) view.requests found.0 found.1 right
      (same-number found.0.id.0 number (test-found (is_request (record { 0 = number })) view.requests found.0 found.1)) in
      rw (way, same, found.1, fine.2, fine.6, other) refl

  goodbye-has : (config : Config) (working : Working) (inbox : List Waiting) → Stood working → same_bytes request.method ack ≡ false → Has500 event (goodbye config (lightened (session_in_play working)) inbox)
  unfolding goodbye goodbyes lightened session_in_play without_acks
  goodbye-has config working inbox stood other =
      let view : View = without_acks working.play.view in
      let right = all-filter (RightAt number sess request.hops request.method) (λ (r : RequestView). not (r.received && same_bytes r.method ack)) working.play.view.requests stood.right in
      let shown = has-filter number sess request.hops request.method (λ (r : RequestView). not (r.received && same_bytes r.method ack)) working.play.view.requests (λ q fine. no-ack q fine other) stood.right stood.shown in
      let kept : List Kept = filter (λ (k : Kept). is_needed view (leg_of working.known k.sess) k k.way) working.known.kept in
      has-more event _ _
      (has-more event _ _
      (some-filtered event _ (λ e response. refl) _
      (has-more event _ _
      (owed-found number sess event request view.requests config view (record working.known { kept = kept }) (λ (s : SessId). true) refl right shown
      (all-filter (KeepsAt number sess event request) (λ (k : Kept). is_needed view (leg_of working.known k.sess) k k.way) working.known.kept stood.kept)
      (keeps-filter (λ (k : Kept). is_needed view (leg_of working.known k.sess) k k.way) working.known.kept (λ k here way. lacks view (leg_of working.known k.sess) k right shown other here way) stood.kept stood.keeps) other))))

-- ## The whole turn

module _ (config : Config) (ringing : List ℕ) (x : Session) (event : ℕ) (request : Request) (now : ℕ) (made : List CallRecord) (end : End) (counted : AreCounted x) (comes : ComesToProxy x request) where
  abbrev Sess : SessId
  Sess = comes.found.id

  abbrev Number : ℕ
  Number = x.view.next_request

  abbrev Shows : Prepared
  Shows = shown_of config ringing x event request now

  abbrev Worked : Working
  Worked = worked_all config Shows made

  same : Shows ≡ taken (dated x now) event comes.found request
  same = shown-is config ringing x event now request comes.sess comes.found comes.for comes.there comes.high

  dated-counted : AreCounted (dated x now)
  dated-counted = record { numbered = counted.numbered; proxied = counted.proxied }

  begins : Holds Number Sess event request (starts Shows)
  unfolding starts begun
  begins = (
    subst (λ (p : Prepared). ShownAt Number Sess event request p.view) (sym same) (taken-view (dated x now) event comes.found request dated-counted comes.proxy),
    subst (λ (p : Prepared). Knows Number Sess event request p.known) (sym same) (taken-known (dated x now) event comes.found request dated-counted),
  )

  split : Split Number Sess event request config (starts Shows) made
  split = calls-split Number Sess event request made config (starts Shows) begins

  grown : (working after : Working) → Adds working after → AnswersIn event 500 request working.orders → AnswersIn event 500 request after.orders
  unfolding AnswersIn
  grown working after more (inl is) = inl is
  grown working after more (inr has) = inr (subst (λ (given : List Order). Has500 event given) (sym more.is) (has-more event working.orders more.new has))

  by-split : Split Number Sess event request config (starts Shows) made → EndsThere Sess (begun Shows.view) made → AnswersIn event 500 request Worked.orders
  unfolding starts worked_all
  by-split (inl told) ends = told.1
  by-split (inr stands) ends = absurd (stands.0 ends)

  -- where an accepted call ends the SipSession, the request is answered 500
  pub turn-ends : EndsThere Sess (begun Shows.view) made → AnswersIn event 500 request (given_for config ringing x event request now made end)
  unfolding outcome outcome_of
  turn-ends ends = grown Worked (finished config (queued.Request request) Shows.req end Worked) (finished-adds config (queued.Request request) Shows.req end Worked) (by-split split ends)

  either-by : Split Number Sess event request config (starts Shows) made → EndsThere Sess (begun Shows.view) made ⊎ (EndsThere Sess (begun Shows.view) made → ⊥)
  unfolding starts
  either-by (inl told) = inl told.0
  either-by (inr stands) = inr stands.0

  -- such a call is there or none is
  pub turn-either : EndsThere Sess (begun Shows.view) made ⊎ (EndsThere Sess (begun Shows.view) made → ⊥)
  turn-either = either-by split

  stands-by : Split Number Sess event request config (starts Shows) made → (EndsThere Sess (begun Shows.view) made → ⊥) → Holds Number Sess event request Worked
  unfolding starts worked_all
  stands-by (inl told) none = absurd (none told.0)
  stands-by (inr stands) none = stands.1

  module _ (none : EndsThere Sess (begun Shows.view) made → ⊥) (valid : is_invalid Worked.known Sess ≡ false) where
    held-orders : (P : List Order → Type 0)
        → ((working : Working) (has : HasAll Number Sess event request working) (h : ℕ) → request.hops ≡ suc h → P (passed_on config has.k working).orders)
        → ((working : Working) (has : HasAll Number Sess event request working) → request.hops ≡ zero → P (hops_spent config has.q working).orders)
        → P (given_for config ringing x event request now made end)
    unfolding outcome outcome_of finished
    held-orders P goes stops =
        let holds = stands-by split none in
        let stays = before-stays Number Sess event request config Shows.req end Worked holds.0 holds.1 (valid-is Number Sess event request Worked.known valid) in
        let acting : Working = all_act config (faulted config Shows.req end (drafts_ended Worked)) in
        let has = has-all Number Sess event request acting stays in
        subst (λ (req : Option ReqId). P (passes_later config (queued.Request request) req acting).orders) (sym (ap (λ (p : Prepared). p.req) same ∙ taken-req (dated x now) event comes.found request))
        (later-orders Number Sess event request config acting has P (λ h is. goes acting has h is) (λ is. stops acting has is))

    -- where none does, it is passed on
    pub turn-goes : (hops : ℕ) → request.hops ≡ suc hops → PassesLast config request (given_for config ringing x event request now made end)
    turn-goes hops some =
        held-orders (PassesLast config request) (λ working has h is. passed_on-goes Number Sess event request config has.k working has.is) (λ working has none. absurd (zero-suc hops (sym none ∙ some)))

    -- or answered where it may go no further
    pub turn-stops : request.hops ≡ zero → AnswersLast event 483 request (given_for config ringing x event request now made end)
    turn-stops none-left =
        held-orders (AnswersLast event 483 request) (λ working has h some. absurd (zero-suc h (sym none-left ∙ some))) (λ working has is. spent-orders Number Sess event request config working has)

    -- where it is passed on and the turn ends the application session, invalidation answers it 500
    ended-session : (b : Bool) → b ≡ true → (x y : Session) → cond b x y ≡ x
    ended-session true is x y = refl
    ended-session false is x y = cc

    pub turn-closes : (hops : ℕ) → request.hops ≡ suc hops → (outcome config ringing x (record { number = event; event = queued.Request request }) now made end).ends ≡ true → (inbox : List Waiting)
        → (b : Bool) → same_bytes request.method ack ≡ b → AnswersIn event 500 request (goodbye config (outcome config ringing x (record { number = event; event = queued.Request request }) now made end).session inbox)
    unfolding outcome outcome_of finished AnswersIn
    turn-closes hops some ends inbox true is = inl is
    turn-closes hops some ends inbox false is =
        let holds = stands-by split none in
        let stays = before-stays Number Sess event request config Shows.req end Worked holds.0 holds.1 (valid-is Number Sess event request Worked.known valid) in
        let acting : Working = all_act config (faulted config Shows.req end (drafts_ended Worked)) in
        let has = has-all Number Sess event request acting stays in
        let stood : Stood Number Sess event request (passes_later config (queued.Request request) Shows.req acting) =
        subst (λ (req : Option ReqId). Stood Number Sess event request (passes_later config (queued.Request request) req acting)) (sym (ap (λ (p : Prepared). p.req) same ∙ taken-req (dated x now) event comes.found request))
        (passes-stood Number Sess event request config acting has hops some (acting-stood Number Sess event request acting stays)) in
        let last : Working = passes_later config (queued.Request request) Shows.req acting in
        inr (subst (λ (s : Session). Has500 event (goodbye config (lightened s) inbox)) (sym (ended-session (is_ended (queued.Request request) last) ends (session_in_play last) (swept (session_in_play last))))
        (goodbye-has Number Sess event request config last inbox stood is))
