-- What a session keeps, can cancel and proxies under the number of a request that came goes by the event that brought this request.
use Rattle.std.proofs.Common.{◌≡◌, ◌<◌, ℕ, ◌+◌, ◌++◌, Bool, true, false, Option, None, Some, List, [], ◌∷◌, refl, sym, ap, subst, ◌∙◌, arith, append-nil}
use Rattle.std.specs.Prelude.{◌&&◌, cond, is_some, length, not}
use Rattle.std.specs.List.{find, fold}
use Rattle.sc_tokens.specs.Names.{same_bytes}
use Rattle.sc_value.specs.declared.ids.ReqId.{ReqId}
use Rattle.sc_value.specs.declared.ids.SessId.{SessId}
use Rattle.sc_value.specs.declared.message.Request.{Request}
use Rattle.sc_value.specs.declared.parts.Uri.{Uri}
use Rattle.sc_terms.specs.declared.calls.CallRecord.{CallRecord}
use Rattle.sc_terms.specs.declared.calls.End.{End}
use Rattle.sc_terms.specs.declared.calls.ProxyOptions.{ProxyOptions}
use Rattle.sc_terms.specs.declared.settings.Config.{Config}
use Rattle.sc_terms.specs.declared.views.RequestView.{RequestView}
use Rattle.sc_terms.specs.declared.views.SessionView.{SessionView}
use Rattle.sc_terms.specs.declared.views.View.{View}
use Rattle.sc_state.specs.declared.proxy.Proxy.{Proxy}
use Rattle.sc_state.specs.declared.queue.Queued.{Queued}
use Rattle.sc_state.specs.declared.queue.Queued.TheVariants as queued
use Rattle.sc_state.specs.declared.queue.Waiting.{Waiting}
use Rattle.sc_state.specs.declared.session.Invited.{Invited}
use Rattle.sc_state.specs.declared.session.Kept.{Kept}
use Rattle.sc_state.specs.declared.session.Known.{Known}
use Rattle.sc_state.specs.declared.session.Session.{Session}
use Rattle.sc_state.specs.declared.session.Way.{Way}
use Rattle.sc_state.specs.declared.session.Way.TheVariants.{Received, Sent}
use Rattle.sc_state.specs.declared.working.Draft.{Draft}
use Rattle.sc_state.specs.declared.working.Play.{Play}
use Rattle.sc_state.specs.declared.working.Prepared.{Prepared}
use Rattle.sc_state.specs.declared.working.Working.{Working}
use Rattle.sc_model.specs.SessionStates.{ack, invite}
use Rattle.sc_hosts.specs.Acting.{all_act, drafts_ended, after_fault as faulted, hops_spent, is_request_event, passed_later, passed_on, passed_request_of, passes_later, sent_proxy}
use Rattle.sc_hosts.specs.Branches.{new_proxy, with_targets}
use Rattle.sc_hosts.specs.Effects.{first_play as begun, created_leg, view_with_targets as proxied, with_draft}
use Rattle.sc_hosts.specs.Finishing.{after_all_calls as finished, is_ended, is_session_ready, without_unneeded as lightened, outcome, outcome_of, session_in_play, swept, swept_one, without_acks}
use Rattle.sc_hosts.specs.Giving.{answering}
use Rattle.sc_hosts.specs.Histories.{History, after_turn, session_after}
use Rattle.sc_hosts.specs.Legs.{FIRST_SESSION, first_known, fresh, new_leg, session_for}
use Rattle.sc_hosts.specs.Looking.{without_sip_session as removed, same_request, without_link as unlinked}
use Rattle.sc_hosts.specs.Preparing.{kept_of, prepared_session as prepared, prepared_for, proxy_of}
use Rattle.sc_hosts.specs.PreparingRequests.{next_id, prepared_request, with_received_request as received, showing, with_invited}
use Rattle.sc_hosts.specs.PreparingResponses.{change_proxy}
use Rattle.sc_hosts.specs.Sessions.{Turn}
use Rattle.sc_hosts.specs.ViewChanges.{view_with_answer as answered, answered_in, is_owed, with_link as linked, new_session, tidy, with_own_session}
use Rattle.sc_hosts.specs.Working.{event_of, proxies, proxies_first, worked_all}
use Rattle.sc_walked.specs.SessionWalks.{Brings, IsKeptProxy, SessionLaws, sent_kept, with_legs}
use Rattle.sc_walked.proofs.WalkCalls.{worked_all-walks}
use Rattle.sc_walked.proofs.WalkEnds.{all_act-goes, done-any, drafts_ended-goes, faulted-goes}
use Rattle.sc_walked.proofs.WalkShown.{prepared-walks}
use Rattle.sc_lasting.specs.Lasting.{All}
use Rattle.sc_lasting.proofs.Began.{same-number, test-found}
use Rattle.sc_lasting.proofs.LaterRequests.{later-session}
use Rattle.sc_lasting.proofs.Parts.{all-append, all-each, all-filter, all-first, all-found, all-map, removed-only, unlinked-only}
use Rattle.sc_replies.specs.Came.{AreSingle, Came, came_by_event as brought, came_of}

-- ## Numbers and events

more : (n m : ℕ) → n < m → n < m + 1
more n m less = omega (arith, less)

own : (n : ℕ) → n < n + 1
own n = omega arith

own-is : (a n : ℕ) → a ≡ n → a < n + 1
own-is a n is = omega (arith, is)

not-lower : (a n : ℕ) → a < n → a ≡ n → ⊥
not-lower a n less is = grind (arith, less, is)

-- the event of a way is one event alone
one-event : (way : Way) (a b : ℕ) → way ≡ Received a → way ≡ Received b → a ≡ b
one-event way a b p q = cc

event-of : (way : Way) (event : ℕ) → way ≡ Received event → event ≡ event_of way
unfolding event_of
event-of (Received number) event is = one-event (Received number) event number is refl
event-of (Sent branch) event is = cc

-- ## One number

-- the number was drawn, and each request that came under it is so
abbrev pub Fits : ℕ → List Came → ReqId → (Came → Type 0) → Type 0
Fits next came req By = (req.0 < next) × All (λ (one : Came). one.id.0 ≡ req.0 → By one) came

abbrev pub IsBelow : ℕ → Came → Type 0
IsBelow next one = one.id.0 < next

-- this is kept of it
abbrev pub KeptBy : Kept → Came → Type 0
KeptBy kept one = (kept.way ≡ Received one.event) × (kept.request ≡ one.request)

-- it can be cancelled as this
abbrev pub InvitedBy : Invited → Came → Type 0
InvitedBy invited one = one.event ≡ invited.event

-- it is proxied as this
abbrev pub ProxyBy : Proxy → Came → Type 0
ProxyBy proxy one = (one.event ≡ proxy.event) × (one.request ≡ proxy.request)

-- what is kept under the number came by that event
abbrev pub KeptFits : ℕ → List Came → Kept → Type 0
KeptFits next came kept = Fits next came kept.id (KeptBy kept)

abbrev pub InvitedFits : ℕ → List Came → Invited → Type 0
InvitedFits next came invited = Fits next came invited.req (InvitedBy invited)

abbrev pub ProxyFits : ℕ → List Came → Proxy → Type 0
ProxyFits next came proxy = Fits next came proxy.req (ProxyBy proxy)

-- so it is of all that a session knows
abbrev pub AllFit : ℕ → List Came → Known → Type 0
AllFit next came known = All (IsBelow next) came × All (KeptFits next came) known.kept × All (InvitedFits next came) known.invited × All (ProxyFits next came) known.proxies

abbrev pub FitsAt : List Came → Session → Type 0
FitsAt came x = AllFit x.view.next_request came x.known

abbrev pub FitsShown : List Came → Prepared → Type 0
FitsShown came shown = AllFit shown.view.next_request came shown.known

abbrev pub FitsIn : List Came → Working → Type 0
FitsIn came working = AllFit working.play.view.next_request came working.known

-- ## A number is drawn

fits-up : (next : ℕ) (came : List Came) (req : ReqId) (By : Came → Type 0) → Fits next came req By → Fits (next + 1) came req By
fits-up next came req By fits = (more req.0 next fits.0, fits.1)

all-up : (next : ℕ) (came : List Came) (known : Known) → AllFit next came known → AllFit (next + 1) came known
all-up next came known fit = (
  all-map (IsBelow next) (IsBelow (next + 1)) came (λ one. more one.id.0 next) fit.0,
  all-map (KeptFits next came) (KeptFits (next + 1) came) known.kept (λ kept. fits-up next came kept.id (KeptBy kept)) fit.1,
  all-map (InvitedFits next came) (InvitedFits (next + 1) came) known.invited (λ invited. fits-up next came invited.req (InvitedBy invited)) fit.2,
  all-map (ProxyFits next came) (ProxyFits (next + 1) came) known.proxies (λ proxy. fits-up next came proxy.req (ProxyBy proxy)) fit.3,
)

-- nothing came under a number that is new
none-came : (next : ℕ) (came : List Came) (req : ReqId) (By : Came → Type 0) → req.0 ≡ next → All (IsBelow next) came → Fits (next + 1) came req By
none-came next came req By is below =
    (own-is req.0 next is, all-map (IsBelow next) (λ (one : Came). one.id.0 ≡ req.0 → By one) came (λ one less same. absurd (not-lower one.id.0 next less (same ∙ is))) below)

-- ## A request comes

fits-more : (next : ℕ) (came : List Came) (one : Came) (req : ReqId) (By : Came → Type 0) → one.id.0 ≡ next → Fits next came req By → Fits (next + 1) (came ++ one ∷ []) req By
fits-more next came one req By is fits = (
  more req.0 next fits.0,
  all-append (λ (other : Came). other.id.0 ≡ req.0 → By other) came one fits.1 (λ same. absurd (not-lower req.0 next fits.0 (sym same ∙ is))),
)

fits-own : (next : ℕ) (came : List Came) (one : Came) (req : ReqId) (By : Came → Type 0) → req.0 ≡ next → All (IsBelow next) came → By one → Fits (next + 1) (came ++ one ∷ []) req By
fits-own next came one req By is below by =
    let none : Fits (next + 1) came req By = none-came next came req By is below in
    (none.0, all-append (λ (other : Came). other.id.0 ≡ req.0 → By other) came one none.1 (λ same. by))

all-more : (next : ℕ) (came : List Came) (one : Came) (known : Known) → one.id.0 ≡ next → AllFit next came known → AllFit (next + 1) (came ++ one ∷ []) known
all-more next came one known is fit = (
  all-append (IsBelow (next + 1)) came one (all-map (IsBelow next) (IsBelow (next + 1)) came (λ other. more other.id.0 next) fit.0) (own-is one.id.0 next is),
  all-map (KeptFits next came) (KeptFits (next + 1) (came ++ one ∷ [])) known.kept (λ kept. fits-more next came one kept.id (KeptBy kept) is) fit.1,
  all-map (InvitedFits next came) (InvitedFits (next + 1) (came ++ one ∷ [])) known.invited (λ invited. fits-more next came one invited.req (InvitedBy invited) is) fit.2,
  all-map (ProxyFits next came) (ProxyFits (next + 1) (came ++ one ∷ [])) known.proxies (λ proxy. fits-more next came one proxy.req (ProxyBy proxy) is) fit.3,
)

if-fit : (next : ℕ) (came : List Came) (b : Bool) (y z : Known) → AllFit next came y → AllFit next came z → AllFit next came (cond b y z)
if-fit next came true y z p q = p
if-fit next came false y z p q = q

-- what an event brings
abbrev one_of : Session → ℕ → Request → Came
one_of x number request = record { id = next_id x; event = number; request = request }

received-fits : (came : List Came) (x : Session) (number : ℕ) (sess : SessId) (initial passed : Bool) (request : Request) → FitsAt came x
    → FitsAt (came ++ one_of x number request ∷ []) (received x number sess initial passed request)
unfolding received with_invited
received-fits came x number sess initial passed request fit =
    let next : ℕ = x.view.next_request in
    let one : Came = one_of x number request in
    let new : Kept = record { id = next_id x; sess = sess; way = Received number; request = request } in
    let invited : Invited = record { event = number; req = next_id x; sess = sess } in
    let all : AllFit (next + 1) (came ++ one ∷ []) x.known = all-more next came one x.known refl fit in
    let kept : All (KeptFits (next + 1) (came ++ one ∷ [])) (x.known.kept ++ new ∷ []) =
    all-append (KeptFits (next + 1) (came ++ one ∷ [])) x.known.kept new all.1 (fits-own next came one (next_id x) (KeptBy new) refl fit.0 (refl, refl)) in
    if-fit (next + 1) (came ++ one ∷ []) (same_bytes request.method invite) _ _
    (all.0, kept, all-append (InvitedFits (next + 1) (came ++ one ∷ [])) x.known.invited invited all.2 (fits-own next came one (next_id x) (InvitedBy invited) refl fit.0 refl), all.3)
    (all.0, kept, all.2, all.3)

-- ## What is proxied

-- under the number of a request that is kept, by the event of its way
abbrev AsKept : Kept → Came → Type 0
AsKept kept one = (one.event ≡ event_of kept.way) × (one.request ≡ kept.request)

proxy-of-kept : (next : ℕ) (came : List Came) (kept : Kept) (req : ReqId) → kept.id.0 ≡ req.0 → KeptFits next came kept → Fits next came req (AsKept kept)
proxy-of-kept next came kept req is fits = (
  subst (λ (n : ℕ). n < next) is fits.0,
  all-map (λ (one : Came). one.id.0 ≡ kept.id.0 → KeptBy kept one) (λ (one : Came). one.id.0 ≡ req.0 → AsKept kept one) came
      (λ one by same. (event-of kept.way one.event (by (same ∙ sym is)).0, sym (by (same ∙ sym is)).1)) fits.1,
)

kept-fits : (next : ℕ) (came : List Came) (known : Known) (req : ReqId) (kept : Kept) → kept_of known req ≡ Some kept → AllFit next came known
    → Fits next came req (AsKept kept)
kept-fits next came known req kept found fit =
    let test : Kept → Bool = λ k. same_request k.id req in
    proxy-of-kept next came kept req (same-number kept.id.0 req.0 (test-found test known.kept kept found)) (all-found (KeptFits next came) test known.kept kept found fit.1)

first-fits : (next : ℕ) (came : List Came) (req : ReqId) (uris : List Uri) (how : ProxyOptions) (found : Option Kept) (known : Known) → kept_of known req ≡ found → AllFit next came known
    → AllFit next came (proxies_first req uris how found known)
unfolding proxies_first with_targets new_proxy
first-fits next came req uris how None known is fit = fit
first-fits next came req uris how (Some kept) known is fit = (
  fit.0,
  fit.1,
  fit.2,
  all-append (ProxyFits next came) known.proxies (with_targets uris (new_proxy req kept.sess (event_of kept.way) kept.request (Some how))) fit.3 (kept-fits next came known req kept is fit),
)

targets-fit : (next : ℕ) (came : List Came) (uris : List Uri) (proxy : Proxy) → ProxyFits next came proxy → ProxyFits next came (with_targets uris proxy)
unfolding with_targets
targets-fit next came uris proxy fits = fits

proxies-fit : (next : ℕ) (came : List Came) (req : ReqId) (uris : List Uri) (how : ProxyOptions) (known : Known) → AllFit next came known → AllFit next came (proxies req uris how known)
unfolding proxies
proxies-fit next came req uris how known fit =
    if-fit next came (is_some (proxy_of known req)) (change_proxy req (with_targets uris) known) (proxies_first req uris how (kept_of known req) known)
    (fit.0, fit.1, fit.2, all-first (ProxyFits next came) (λ p. same_request p.req req) (with_targets uris) known.proxies (λ p found. targets-fit next came uris p) fit.3)
    (first-fits next came req uris how (kept_of known req) known refl fit)

passed-fits : (next : ℕ) (came : List Came) (known : Known) (req : ReqId) (kept : Kept) (branch : ℕ) → kept_of known req ≡ Some kept → AllFit next came known
    → AllFit next came (record known { proxies = known.proxies ++ sent_proxy kept branch ∷ [] })
unfolding sent_proxy new_proxy
passed-fits next came known req kept branch found fit = (
  fit.0,
  fit.1,
  fit.2,
  all-append (ProxyFits next came) known.proxies (sent_proxy kept branch) fit.3 (proxy-of-kept next came kept kept.id refl (all-found (KeptFits next came) (λ k. same_request k.id req) known.kept kept found fit.1)),
)

same-fits : (next : ℕ) (came : List Came) (p q : Proxy) → IsKeptProxy p q → ProxyFits next came p → ProxyFits next came q
same-fits next came p q kept fits = rw (kept.same.req, kept.same.event, kept.same.request) fits

-- ## Each change

module _ (came : List Came) where
  abbrev GoesOn : Session → Session → Type 0
  GoesOn x y = FitsAt came x → FitsAt came y

  -- only the SipSessions are others
  shown-on : (v w : View) (known : Known) → w ≡ record v { sessions = w.sessions } → AllFit v.next_request came known → AllFit w.next_request came known
  shown-on v w known is fit = subst (λ (u : View). AllFit u.next_request came known) (sym is) fit

  begins-on : (x : Session) → FitsAt came x → FitsAt came (record { view = with_own_session x.view; known = record x.known { legs = x.known.legs ++ new_leg (new_session x.view) None ∷ [] } })
  unfolding with_own_session
  begins-on x fit = fit

  leg-on : (play : Play) (known : Known) (request : Option RequestView) (kept : Option Kept) → AllFit play.view.next_request came known
      → AllFit (created_leg request play).view.next_request came (with_legs play.view kept known)
  unfolding created_leg with_legs with_draft linked with_own_session
  leg-on play known None None fit = fit
  leg-on play known None (Some kept) fit = fit
  leg-on play known (Some request) None fit = fit
  leg-on play known (Some request) (Some kept) fit = fit

  links-on : (view : View) (known : Known) (a b : SessId) → AllFit view.next_request came known → AllFit (linked a b view).next_request came known
  unfolding linked
  links-on view known a b fit = fit

  proxied-on : (view : View) (known : Known) (request : Option RequestView) (count : ℕ) → AllFit view.next_request came known → AllFit (proxied request count view).next_request came known
  unfolding proxied
  proxied-on view known None count fit = fit
  proxied-on view known (Some request) count fit = fit

  sent-on : (x : Session) (draft : Draft) (request : Request) → FitsAt came x
      → AllFit (x.view.next_request + 1) came (record x.known { kept = x.known.kept ++ sent_kept x.view draft request ∷ [] })
  sent-on x draft request fit =
      let up : AllFit (x.view.next_request + 1) came x.known = all-up x.view.next_request came x.known fit in
      let new : Kept = sent_kept x.view draft request in (
        up.0,
        all-append (KeptFits (x.view.next_request + 1) came) x.known.kept (sent_kept x.view draft request) up.1 (none-came x.view.next_request came (record { 0 = x.view.next_request }) (KeptBy new) refl fit.0),
        up.2,
        up.3,
      )

  fitting-law : (event : Queued) → ((x : Session) (sess : SessId) (initial passed : Bool) (request : Request) → Brings event x sess initial passed request → ⊥)
      → SessionLaws event (λ call. Unit {0}) GoesOn
  fitting-law event none = record {
    same = λ x fit. fit;
    after = λ x y z p q fit. q (p fit);
    dates = λ x now fit. fit;
    expires = λ x due fit. fit;
    flags = λ x flag fit. fit;
    times = λ x timers next fit. fit;
    attributes = λ x fields fit. fit;
    counts = λ x fit. fit;
    numbers = λ x fit. all-up x.view.next_request came x.known fit;
    moves = λ x sessions same fit. fit;
    renews = λ x requests same fit. fit;
    drops = λ x test fit. fit;
    same_legs = λ x legs same fit. fit;
    same_proxies = λ x all same fit. (fit.0, fit.1, fit.2, all-each (ProxyFits x.view.next_request came) IsKeptProxy x.known.proxies all (same-fits x.view.next_request came) same fit.3);
    forgets = λ x test fit. (fit.0, all-filter (KeptFits x.view.next_request came) test x.known.kept fit.1, fit.2, fit.3);
    unlinks = λ x sess does fit. shown-on x.view (unlinked sess x.view) x.known (unlinked-only sess x.view) fit;
    removes = λ x sess fit. shown-on x.view (removed sess x.view) x.known (removed-only sess x.view) fit;
    receives = λ x number sess initial passed request brings fit. absurd (none x sess initial passed request brings);
    shows = λ x request again fit. fit;
    sends = λ x draft request fit. sent-on x draft request fit;
    sends_none = λ x draft fit. all-up x.view.next_request came x.known fit;
    begins = λ x fit. begins-on x fit;
    derives = λ x req sess original came tag is fit. fit;
    begins_leg = λ play known req uri request kept is does found has fit. leg-on play known request kept fit;
    links = λ play known a b is does fit. links-on play.view known a b fit;
    turns = λ play known req uris how request is does found fit.
        proxied-on play.view (proxies req uris how known) request (length uris) (proxies-fit play.view.next_request came req uris how known fit);
    passes = λ x req kept is fit. passed-fits x.view.next_request came x.known req kept (x.view.counter + 1) is fit;
  }

  -- ## Within a turn

  ready-law : SessionLaws queued.Ready (λ call. Unit {0}) GoesOn
  unfolding Brings
  ready-law = fitting-law queued.Ready (λ x sess initial passed request brings. brings)

  pub calls-fit : (config : Config) (shown : Prepared) (made : List CallRecord) → FitsShown came shown → FitsIn came (worked_all config shown made)
  calls-fit config shown made fit =
      let begins : Session = record { view = shown.view; known = shown.known } in
      worked_all-walks queued.Ready (λ call. Unit {0}) GoesOn ready-law config begins shown made (done-any made (λ call. Unit {0}) (λ call. tt) (begun shown.view)) (ready-law.same begins) fit

  pub drafts-fit : (working : Working) → FitsIn came working → FitsIn came (drafts_ended working)
  drafts-fit working fit = drafts_ended-goes queued.Ready (λ call. Unit {0}) GoesOn ready-law working fit

  pub faulted-fit : (config : Config) (req : Option ReqId) (end : End) (working : Working) → FitsIn came working → FitsIn came (faulted config req end working)
  faulted-fit config req end working fit = faulted-goes queued.Ready (λ call. Unit {0}) GoesOn ready-law config req end working fit

  pub acted-fit : (config : Config) (working : Working) → FitsIn came working → FitsIn came (all_act config working)
  acted-fit config working fit = all_act-goes queued.Ready (λ call. Unit {0}) GoesOn ready-law config working fit

  -- ## What follows the calls

  if-in : (b : Bool) (y z : Working) → FitsIn came y → FitsIn came z → FitsIn came (cond b y z)
  if-in true y z p q = p
  if-in false y z p q = q

  answered-on : (request : Option RequestView) (code : ℕ) (view : View) (known : Known) → AllFit view.next_request came known → AllFit (answered request code view).next_request came known
  unfolding answered answered_in tidy
  answered-on None code view known fit = fit
  answered-on (Some request) code view known fit = fit

  spent-fits : (config : Config) (request : RequestView) (working : Working) → FitsIn came working → FitsIn came (hops_spent config request working)
  unfolding hops_spent answering
  spent-fits config request working fit = if-in (is_owed request) _ working (answered-on (Some request) 483 working.play.view working.known fit) fit

  if-drawn : (next : ℕ) (b : Bool) (y z : Working) → AllFit next came y.known → AllFit next came z.known → AllFit next came (cond b y z).known
  if-drawn next true y z p q = p
  if-drawn next false y z p q = q

  on-fits : (config : Config) (req : ReqId) (kept : Kept) (working : Working) → kept_of working.known req ≡ Some kept → FitsIn came working → FitsIn came (passed_on config kept working)
  unfolding passed_on
  on-fits config req kept working is fit =
      if-drawn working.play.view.next_request (same_bytes kept.request.method ack) _ _ fit (passed-fits working.play.view.next_request came working.known req kept (working.play.view.counter + 1) is fit)

  later-fits : (config : Config) (request : RequestView) (kept : Option Kept) (working : Working) → kept_of working.known request.id ≡ kept → FitsIn came working
      → FitsIn came (passed_later config request kept working)
  unfolding passed_later
  later-fits config request None working is fit = fit
  later-fits config request (Some kept) working is fit =
      if-in _ working _ fit
      (if-in _ (hops_spent config request working) (passed_on config kept working) (spent-fits config request working fit) (on-fits config request.id kept working is fit))

  request-fits : (config : Config) (request : Option RequestView) (working : Working) → FitsIn came working → FitsIn came (passed_request_of config request working)
  unfolding passed_request_of
  request-fits config None working fit = fit
  request-fits config (Some request) working fit = later-fits config request (kept_of working.known request.id) working refl fit

  passes-fit : (config : Config) (event : Queued) (req : Option ReqId) (working : Working) → FitsIn came working → FitsIn came (passes_later config event req working)
  unfolding passes_later
  passes-fit config event req working fit = if-in (is_request_event event) _ working (request-fits config _ working fit) fit

  -- ## What goes away

  if-view : (b : Bool) (known : Known) (v w : View) → AllFit v.next_request came known → AllFit w.next_request came known → AllFit (cond b v w).next_request came known
  if-view true known v w p q = p
  if-view false known v w p q = q

  swept-fits : (sessions : List SessionView) (before : Known) (then view : View) (known : Known) → AllFit view.next_request came known → AllFit (fold (swept_one before then) view sessions).next_request came known
  unfolding swept_one
  swept-fits [] before then view known fit = fit
  swept-fits (s ∷ sessions) before then view known fit =
      swept-fits sessions before then (swept_one before then view s) known
      (if-view (s.ready_flag && not s.gone && is_session_ready before then s) known (removed s.id view) view (shown-on view (removed s.id view) known (removed-only s.id view) fit) fit)

  if-at : (b : Bool) (y z : Session) → FitsAt came y → FitsAt came z → FitsAt came (cond b y z)
  if-at true y z p q = p
  if-at false y z p q = q

  sweep-fits : (x : Session) → FitsAt came x → FitsAt came (swept x)
  unfolding swept tidy
  sweep-fits x fit = swept-fits x.view.sessions x.known x.view x.view x.known fit

  light-fits : (x : Session) → FitsAt came x → FitsAt came (lightened x)
  unfolding lightened
  light-fits x fit = (fit.0, all-filter (KeptFits x.view.next_request came) _ x.known.kept fit.1, fit.2, fit.3)

  in-play-fits : (working : Working) → FitsIn came working → FitsAt came (session_in_play working)
  unfolding session_in_play without_acks
  in-play-fits working fit = fit

  left-fits : (event : Queued) (working : Working) → FitsIn came working → FitsAt came (outcome_of event working).session
  unfolding outcome_of
  left-fits event working fit =
      let x : Session = session_in_play working in
      light-fits (cond (is_ended event working) x (swept x)) (if-at (is_ended event working) x (swept x) (in-play-fits working fit) (sweep-fits x (in-play-fits working fit)))

  finish-fits : (config : Config) (turn : Turn) (shown : Prepared) → FitsShown came shown → FitsIn came (finished config turn.waiting.event shown.req turn.end (worked_all config shown turn.calls))
  unfolding finished
  finish-fits config turn shown fit =
      let left : Working = drafts_ended (worked_all config shown turn.calls) in
      let told : Working = faulted config shown.req turn.end left in
      passes-fit config turn.waiting.event shown.req (all_act config told)
      (acted-fit config told (faulted-fit config shown.req turn.end left (drafts-fit (worked_all config shown turn.calls) (calls-fit config shown turn.calls fit))))

-- ## The event of a turn

module _ (came : List Came) (x : Session) (number : ℕ) (request : Request) (fit : FitsAt came x) where
  abbrev now_came : List Came
  now_came = came ++ one_of x number request ∷ []

  later-shown : (sess : Option SessId) → FitsShown now_came (prepared_request x number request sess)
  later-shown = later-session (λ view known. AllFit view.next_request now_came known) x number request (all-more x.view.next_request came (one_of x number request) x.known refl fit)
      (λ sess passed. received-fits came x number sess false passed request fit) (λ request. answered-on now_came request 500) (λ view known legs fit. fit)

none-brought : (came : List Came) (shown : Prepared) → FitsShown came shown → FitsShown (came ++ []) shown
none-brought came shown fit = subst (λ (all : List Came). FitsShown all shown) (sym (append-nil came)) fit

abbrev now_at : ℕ → Session → Session
now_at now x = record x { view = record x.view { now = now } }

pub shown-fits : (came : List Came) (config : Config) (ringing : List ℕ) (x : Session) (waiting : Waiting) (now : ℕ) (event : Queued) → event ≡ waiting.event → FitsAt came x
    → FitsShown (came ++ brought x waiting.number event) (prepared config ringing x waiting now)
unfolding prepared prepared_for showing brought Brings
shown-fits came config ringing x waiting now (queued.Initial region subscriber popped request) is fit =
    subst (λ (e : Queued). FitsShown (came ++ one_of x waiting.number request ∷ []) (prepared_for config ringing (now_at now x) waiting.number e)) is
    (received-fits came (now_at now x) waiting.number FIRST_SESSION true false request fit)
shown-fits came config ringing x waiting now (queued.Request request) is fit =
    subst (λ (e : Queued). FitsShown (came ++ one_of x waiting.number request ∷ []) (prepared_for config ringing (now_at now x) waiting.number e)) is
    (later-shown came (now_at now x) waiting.number request fit (session_for (now_at now x) request))
shown-fits came config ringing x waiting now (queued.Response branch response) is fit =
    none-brought came (prepared config ringing x waiting now) (prepared-walks (queued.Response branch response) (λ call. Unit {0}) (GoesOn came) (fitting-law came (queued.Response branch response) (λ y sess initial passed request brings. brings)) config ringing x waiting now is fit)
shown-fits came config ringing x waiting now (queued.Cancelled of) is fit =
    none-brought came (prepared config ringing x waiting now) (prepared-walks (queued.Cancelled of) (λ call. Unit {0}) (GoesOn came) (fitting-law came (queued.Cancelled of) (λ y sess initial passed request brings. brings)) config ringing x waiting now is fit)
shown-fits came config ringing x waiting now (queued.Timer id) is fit =
    none-brought came (prepared config ringing x waiting now) (prepared-walks (queued.Timer id) (λ call. Unit {0}) (GoesOn came) (fitting-law came (queued.Timer id) (λ y sess initial passed request brings. brings)) config ringing x waiting now is fit)
shown-fits came config ringing x waiting now (queued.BranchTimer branch due) is fit =
    none-brought came (prepared config ringing x waiting now) (prepared-walks (queued.BranchTimer branch due) (λ call. Unit {0}) (GoesOn came) (fitting-law came (queued.BranchTimer branch due) (λ y sess initial passed request brings. brings)) config ringing x waiting now is fit)
shown-fits came config ringing x waiting now queued.Expired is fit =
    none-brought came (prepared config ringing x waiting now) (prepared-walks queued.Expired (λ call. Unit {0}) (GoesOn came) (fitting-law came queued.Expired (λ y sess initial passed request brings. brings)) config ringing x waiting now is fit)
shown-fits came config ringing x waiting now queued.Ready is fit =
    none-brought came (prepared config ringing x waiting now) (prepared-walks queued.Ready (λ call. Unit {0}) (GoesOn came) (fitting-law came queued.Ready (λ y sess initial passed request brings. brings)) config ringing x waiting now is fit)

-- ## A life

turn-fits : (came : List Came) (config : Config) (turn : Turn) (x : Session) → FitsAt came x → FitsAt (came ++ brought x turn.waiting.number turn.waiting.event) (after_turn config turn x)
unfolding after_turn outcome
turn-fits came config turn x fit =
    let all : List Came = came ++ brought x turn.waiting.number turn.waiting.event in
    let shown : Prepared = prepared config turn.ringing x turn.waiting turn.now in
    left-fits all turn.waiting.event (finished config turn.waiting.event shown.req turn.end (worked_all config shown turn.calls))
    (finish-fits all config turn shown (shown-fits came config turn.ringing x turn.waiting turn.now turn.waiting.event refl fit))

pub lives-fit : (turns : List Turn) (config : Config) (history : History) → FitsAt (came_of config history turns) (session_after config history turns)
unfolding session_after came_of fresh first_known All
lives-fit [] config history = (tt, tt, tt, tt)
lives-fit (turn ∷ earlier) config history = turn-fits (came_of config history earlier) config turn (session_after config history earlier) (lives-fit earlier config history)

-- ## No two came under one number

number-of : (a b : ReqId) → a ≡ b → a.0 ≡ b.0
number-of a b is = ap (λ (req : ReqId). req.0) is

single-more : (next : ℕ) (came : List Came) (one : Came) → one.id.0 ≡ next → All (IsBelow next) came → AreSingle came → AreSingle (came ++ one ∷ [])
unfolding AreSingle All
single-more next [] one is below single = (tt, tt)
single-more next (other ∷ came) one is below single = (
  all-append (λ (later : Came). later.id ≡ other.id → ⊥) came one single.0 (λ same. not-lower other.id.0 next below.0 (sym (number-of one.id other.id same) ∙ is)),
  single-more next came one is below.1 single.1,
)

single-brought : (came : List Came) (x : Session) (number : ℕ) (event : Queued) → All (IsBelow x.view.next_request) came → AreSingle came → AreSingle (came ++ brought x number event)
unfolding brought
single-brought came x number (queued.Initial region subscriber popped request) below single = single-more x.view.next_request came (one_of x number request) refl below single
single-brought came x number (queued.Request request) below single = single-more x.view.next_request came (one_of x number request) refl below single
single-brought came x number (queued.Response branch response) below single = subst AreSingle (sym (append-nil came)) single
single-brought came x number (queued.Cancelled event) below single = subst AreSingle (sym (append-nil came)) single
single-brought came x number (queued.Timer id) below single = subst AreSingle (sym (append-nil came)) single
single-brought came x number (queued.BranchTimer branch due) below single = subst AreSingle (sym (append-nil came)) single
single-brought came x number queued.Expired below single = subst AreSingle (sym (append-nil came)) single
single-brought came x number queued.Ready below single = subst AreSingle (sym (append-nil came)) single

turns-single : (turns : List Turn) (config : Config) (history : History) → AreSingle (came_of config history turns)
unfolding came_of AreSingle
turns-single [] config history = tt
turns-single (turn ∷ earlier) config history =
    single-brought (came_of config history earlier) (session_after config history earlier) turn.waiting.number turn.waiting.event (lives-fit earlier config history).0 (turns-single earlier config history)

pub lives-single : (config : Config) (history : History) → AreSingle (came_of config history history.turns)
lives-single config history = turns-single history.turns config history

-- ## The request that an answer is to

-- what came under this number, this event brought
abbrev pub GoesBy : List Came → ReqId → ℕ → Type 0
GoesBy came req event = All (λ (one : Came). one.id.0 ≡ req.0 → one.event ≡ event) came

-- one that is kept as it came
pub by-kept : (next : ℕ) (came : List Came) (kepts : List Kept) (req : ReqId) (kept : Kept) (event : ℕ) → find (λ (k : Kept). same_request k.id req) kepts ≡ Some kept → kept.way ≡ Received event
    → All (KeptFits next came) kepts → GoesBy came req event
by-kept next came kepts req kept event found way all =
    let test : Kept → Bool = λ k. same_request k.id req in
    let is : kept.id.0 ≡ req.0 = same-number kept.id.0 req.0 (test-found test kepts kept found) in
    all-map (λ (one : Came). one.id.0 ≡ kept.id.0 → KeptBy kept one) (λ (one : Came). one.id.0 ≡ req.0 → one.event ≡ event) came
    (λ one by same. one-event kept.way one.event event (by (same ∙ sym is)).0 way) (all-found (KeptFits next came) test kepts kept found all).1

-- one that the event of the turn brings
pub by-turn : (came : List Came) (x : Session) (number : ℕ) (request : Request) (req : ReqId) → req.0 ≡ x.view.next_request → FitsAt came x
    → GoesBy (came ++ record { id = next_id x; event = number; request = request } ∷ []) req number
by-turn came x number request req is fit =
    (fits-own x.view.next_request came (one_of x number request) req (λ (one : Came). one.event ≡ number) is fit.0 refl).1
