-- What a session keeps as a request that came is what the event of that number brought.
use Rattle.std.proofs.Common.{◌≡◌, ℕ, ◌+◌, ◌++◌, Bool, true, false, Option, None, Some, List, [], ◌∷◌, inl, inr, refl, subst}
use Rattle.std.specs.Prelude.{cond}
use Rattle.sc_tokens.specs.Names.{same_bytes}
use Rattle.sc_value.specs.declared.ids.ReqId.{ReqId}
use Rattle.sc_value.specs.declared.ids.SessId.{SessId}
use Rattle.sc_value.specs.declared.message.Request.{Request}
use Rattle.sc_value.specs.declared.parts.Uri.{Uri}
use Rattle.sc_terms.specs.declared.calls.ProxyOptions.{ProxyOptions}
use Rattle.sc_terms.specs.declared.settings.Config.{Config}
use Rattle.sc_terms.specs.declared.views.RequestView.{RequestView}
use Rattle.sc_terms.specs.declared.views.View.{View}
use Rattle.sc_state.specs.declared.queue.Queued.{Queued}
use Rattle.sc_state.specs.declared.queue.Queued.TheVariants as queued
use Rattle.sc_state.specs.declared.queue.Waiting.{Waiting}
use Rattle.sc_state.specs.declared.session.Invited.{Invited}
use Rattle.sc_state.specs.declared.session.Kept.{Kept}
use Rattle.sc_state.specs.declared.session.Known.{Known}
use Rattle.sc_state.specs.declared.session.Session.{Session}
use Rattle.sc_state.specs.declared.session.Way.{Way}
use Rattle.sc_state.specs.declared.session.Way.TheVariants.{Received, Sent}
use Rattle.sc_state.specs.declared.working.Prepared.{Prepared}
use Rattle.sc_state.specs.declared.working.Working.{Working}
use Rattle.sc_model.specs.SessionStates.{ack, invite}
use Rattle.sc_hosts.specs.Acting.{all_act, drafts_ended, after_fault as faulted, hops_spent, is_request_event, passed_later, passed_on, passed_request_of, passes_later}
use Rattle.sc_hosts.specs.Effects.{first_play as begun}
use Rattle.sc_hosts.specs.Finishing.{after_all_calls as finished, is_ended, without_unneeded as lightened, outcome, outcome_of, session_in_play, swept}
use Rattle.sc_hosts.specs.Giving.{answering}
use Rattle.sc_hosts.specs.Histories.{History, after_turn, session_after, session_of}
use Rattle.sc_hosts.specs.Legs.{first_known, fresh, session_for}
use Rattle.sc_hosts.specs.Preparing.{kept_of, prepared_session as prepared, prepared_for}
use Rattle.sc_hosts.specs.PreparingRequests.{next_id, prepared_request, with_received_request as received, showing, with_invited}
use Rattle.sc_hosts.specs.Sessions.{Turn}
use Rattle.sc_hosts.specs.ViewChanges.{is_owed}
use Rattle.sc_hosts.specs.Working.{proxies, proxies_first, worked_all}
use Rattle.sc_walked.specs.SessionWalks.{Brings, SessionLaws, with_legs}
use Rattle.sc_walked.proofs.WalkCalls.{worked_all-walks}
use Rattle.sc_walked.proofs.WalkEnds.{all_act-goes, done-any, drafts_ended-goes, faulted-goes}
use Rattle.sc_walked.proofs.WalkShown.{prepared-walks}
use Rattle.sc_lasting.specs.Lasting.{All}
use Rattle.sc_lasting.proofs.LaterRequests.{later-session}
use Rattle.sc_lasting.proofs.Parts.{all-append, all-filter, all-map}
use Rattle.sc_replies.specs.Came.{AreAsTheyCame, Came, IsAmong, IsInvitedAsCame, IsKeptAsCame, came_by_event as brought, came_of}

-- ## One of a list

among-first : (one : Came) (xs ys : List Came) → IsAmong one xs → IsAmong one (xs ++ ys)
unfolding IsAmong
among-first one [] ys among = absurd among
among-first one (x ∷ xs) ys (inl is) = inl is
among-first one (x ∷ xs) ys (inr among) = inr (among-first one xs ys among)

among-last : (one : Came) (xs ys : List Came) → IsAmong one ys → IsAmong one (xs ++ ys)
unfolding IsAmong
among-last one [] ys among = among
among-last one (x ∷ xs) ys among = inr (among-last one xs ys among)

kept-more : (came more : List Came) (kept : Kept) → IsKeptAsCame came kept → IsKeptAsCame (came ++ more) kept
unfolding IsKeptAsCame
kept-more came more kept is = λ event way. among-first (record { id = kept.id; event = event; request = kept.request }) came more (is event way)

invited-more : (came more : List Came) (invited : Invited) → IsInvitedAsCame came invited → IsInvitedAsCame (came ++ more) invited
unfolding IsInvitedAsCame
invited-more came more invited is = (is.0, among-first (record { id = invited.req; event = invited.event; request = is.0 }) came more is.1)

pub more-came : (came more : List Came) (known : Known) → AreAsTheyCame came known → AreAsTheyCame (came ++ more) known
more-came came more known keeps = (
  all-map (IsKeptAsCame came) (IsKeptAsCame (came ++ more)) known.kept (kept-more came more) keeps.0,
  all-map (IsInvitedAsCame came) (IsInvitedAsCame (came ++ more)) known.invited (invited-more came more) keeps.1,
)

sent-way : (branch event : ℕ) → ◌≡◌ {A = Way} (Sent branch) (Received event) → ⊥
sent-way branch event is = cc

same-event : (number event : ℕ) → ◌≡◌ {A = Way} (Received number) (Received event) → number ≡ event
same-event number event is = cc

module _ (came : List Came) where
  abbrev Keeps : Known → Type 0
  Keeps known = AreAsTheyCame came known

  abbrev GoesOn : Session → Session → Type 0
  GoesOn x y = Keeps x.known → Keeps y.known

  if-keeps : (b : Bool) (y z : Known) → Keeps y → Keeps z → Keeps (cond b y z)
  if-keeps true y z p q = p
  if-keeps false y z p q = q

  -- ## Each change

  sent-keeps : (kepts : List Kept) (new : Kept) (branch : ℕ) → new.way ≡ Sent branch → All (IsKeptAsCame came) kepts → All (IsKeptAsCame came) (kepts ++ new ∷ [])
  unfolding IsKeptAsCame
  sent-keeps kepts new branch sent all =
      all-append (IsKeptAsCame came) kepts new all (λ event way. absurd (sent-way branch event (subst (λ (w : Way). w ≡ Received event) sent way)))

  legs-keep : (view : View) (known : Known) (kept : Option Kept) → Keeps known → Keeps (with_legs view kept known)
  unfolding with_legs
  legs-keep view known None keeps = keeps
  legs-keep view known (Some kept) keeps = keeps

  first-keep : (req : ReqId) (uris : List Uri) (how : ProxyOptions) (kept : Option Kept) (known : Known) → Keeps known → Keeps (proxies_first req uris how kept known)
  unfolding proxies_first
  first-keep req uris how None known keeps = keeps
  first-keep req uris how (Some kept) known keeps = keeps

  proxies-keep : (req : ReqId) (uris : List Uri) (how : ProxyOptions) (known : Known) → Keeps known → Keeps (proxies req uris how known)
  unfolding proxies
  proxies-keep req uris how known keeps = if-keeps _ _ (proxies_first req uris how (kept_of known req) known) keeps (first-keep req uris how (kept_of known req) known keeps)

  keeping-law : (event : Queued) → ((x : Session) (sess : SessId) (initial passed : Bool) (request : Request) → Brings event x sess initial passed request → ⊥)
      → SessionLaws event (λ call. Unit {0}) GoesOn
  keeping-law event none = record {
    same = λ x keeps. keeps;
    after = λ x y z p q keeps. q (p keeps);
    dates = λ x now keeps. keeps;
    expires = λ x due keeps. keeps;
    flags = λ x flag keeps. keeps;
    times = λ x timers next keeps. keeps;
    attributes = λ x fields keeps. keeps;
    counts = λ x keeps. keeps;
    numbers = λ x keeps. keeps;
    moves = λ x sessions same keeps. keeps;
    renews = λ x requests same keeps. keeps;
    drops = λ x test keeps. keeps;
    same_legs = λ x legs same keeps. keeps;
    same_proxies = λ x all same keeps. keeps;
    forgets = λ x test keeps. (all-filter (IsKeptAsCame came) test x.known.kept keeps.0, keeps.1);
    unlinks = λ x sess does keeps. keeps;
    removes = λ x sess keeps. keeps;
    receives = λ x number sess initial passed request brings keeps. absurd (none x sess initial passed request brings);
    shows = λ x request again keeps. keeps;
    sends = λ x draft request keeps. (sent-keeps x.known.kept _ (x.view.counter + 1) refl keeps.0, keeps.1);
    sends_none = λ x draft keeps. keeps;
    begins = λ x keeps. keeps;
    derives = λ x req sess original came tag is keeps. keeps;
    begins_leg = λ play known req uri request kept is does found has keeps. legs-keep play.view known kept keeps;
    links = λ play known a b is does keeps. keeps;
    turns = λ play known req uris how request is does found keeps. proxies-keep req uris how known keeps;
    passes = λ x req kept is keeps. keeps;
  }

  -- ## The event of a turn

  received-keeps : (x : Session) (number : ℕ) (sess : SessId) (initial passed : Bool) (request : Request)
      → IsAmong (record { id = next_id x; event = number; request = request }) came → Keeps x.known → Keeps (received x number sess initial passed request).known
  unfolding received with_invited IsKeptAsCame IsInvitedAsCame
  received-keeps x number sess initial passed request among keeps =
      let new : Kept = record { id = next_id x; sess = sess; way = Received number; request = request } in
      let kept : All (IsKeptAsCame came) (x.known.kept ++ new ∷ []) =
      all-append (IsKeptAsCame came) x.known.kept new keeps.0
      (λ event way. subst (λ (n : ℕ). IsAmong (record { id = next_id x; event = n; request = request }) came) (same-event number event way) among) in
      if-keeps (same_bytes request.method invite) _ _
      (kept, all-append (IsInvitedAsCame came) x.known.invited (record { event = number; req = next_id x; sess = sess }) keeps.1 (request, among))
      (kept, keeps.1)

  request-keeps : (x : Session) (number : ℕ) (request : Request) → IsAmong (record { id = next_id x; event = number; request = request }) came → Keeps x.known
      → (sess : Option SessId) → Keeps (prepared_request x number request sess).known
  request-keeps x number request among keeps = later-session (λ view known. Keeps known) x number request keeps (λ sess passed. received-keeps x number sess false passed request among keeps)
      (λ answered view known keeps. keeps) (λ view known legs keeps. keeps)

  shown-keeps : (config : Config) (ringing : List ℕ) (x : Session) (waiting : Waiting) (now : ℕ) (event : Queued) → event ≡ waiting.event
      → ((one : Came) → IsAmong one (brought x waiting.number event) → IsAmong one came) → Keeps x.known → Keeps (prepared config ringing x waiting now).known
  unfolding prepared prepared_for showing brought IsAmong Brings
  shown-keeps config ringing x waiting now (queued.Initial region subscriber popped request) is into keeps =
      subst (λ (e : Queued). Keeps (prepared_for config ringing (record x { view = record x.view { now = now } }) waiting.number e).known) is
      (received-keeps (record x { view = record x.view { now = now } }) waiting.number _ true false request (into (record { id = next_id x; event = waiting.number; request = request }) (inl refl)) keeps)
  shown-keeps config ringing x waiting now (queued.Request request) is into keeps =
      subst (λ (e : Queued). Keeps (prepared_for config ringing (record x { view = record x.view { now = now } }) waiting.number e).known) is
      (request-keeps (record x { view = record x.view { now = now } }) waiting.number request (into (record { id = next_id x; event = waiting.number; request = request }) (inl refl)) keeps
      (session_for (record x { view = record x.view { now = now } }) request))
  shown-keeps config ringing x waiting now (queued.Response branch response) is into keeps =
      prepared-walks (queued.Response branch response) (λ call. Unit {0}) GoesOn (keeping-law (queued.Response branch response) (λ y sess initial passed request brings. brings)) config ringing x waiting now is keeps
  shown-keeps config ringing x waiting now (queued.Cancelled of) is into keeps =
      prepared-walks (queued.Cancelled of) (λ call. Unit {0}) GoesOn (keeping-law (queued.Cancelled of) (λ y sess initial passed request brings. brings)) config ringing x waiting now is keeps
  shown-keeps config ringing x waiting now (queued.Timer id) is into keeps =
      prepared-walks (queued.Timer id) (λ call. Unit {0}) GoesOn (keeping-law (queued.Timer id) (λ y sess initial passed request brings. brings)) config ringing x waiting now is keeps
  shown-keeps config ringing x waiting now (queued.BranchTimer branch due) is into keeps =
      prepared-walks (queued.BranchTimer branch due) (λ call. Unit {0}) GoesOn (keeping-law (queued.BranchTimer branch due) (λ y sess initial passed request brings. brings)) config ringing x waiting now is keeps
  shown-keeps config ringing x waiting now queued.Expired is into keeps =
      prepared-walks queued.Expired (λ call. Unit {0}) GoesOn (keeping-law queued.Expired (λ y sess initial passed request brings. brings)) config ringing x waiting now is keeps
  shown-keeps config ringing x waiting now queued.Ready is into keeps =
      prepared-walks queued.Ready (λ call. Unit {0}) GoesOn (keeping-law queued.Ready (λ y sess initial passed request brings. brings)) config ringing x waiting now is keeps

  -- ## What follows the calls

  if-working : (b : Bool) (y z : Working) → Keeps y.known → Keeps z.known → Keeps (cond b y z).known
  if-working true y z p q = p
  if-working false y z p q = q

  spent-keeps : (config : Config) (request : RequestView) (working : Working) → Keeps working.known → Keeps (hops_spent config request working).known
  unfolding hops_spent answering
  spent-keeps config request working keeps = if-working (is_owed request) _ working keeps keeps

  on-keeps : (config : Config) (kept : Kept) (working : Working) → Keeps working.known → Keeps (passed_on config kept working).known
  unfolding passed_on
  on-keeps config kept working keeps = if-working (same_bytes kept.request.method ack) _ _ keeps keeps

  later-keeps : (config : Config) (request : RequestView) (kept : Option Kept) (working : Working) → Keeps working.known → Keeps (passed_later config request kept working).known
  unfolding passed_later
  later-keeps config request None working keeps = keeps
  later-keeps config request (Some kept) working keeps =
      if-working _ working _ keeps
      (if-working _ (hops_spent config request working) (passed_on config kept working) (spent-keeps config request working keeps) (on-keeps config kept working keeps))

  passed-keeps : (config : Config) (request : Option RequestView) (working : Working) → Keeps working.known → Keeps (passed_request_of config request working).known
  unfolding passed_request_of
  passed-keeps config None working keeps = keeps
  passed-keeps config (Some request) working keeps = later-keeps config request (kept_of working.known request.id) working keeps

  passes-keeps : (config : Config) (event : Queued) (req : Option ReqId) (working : Working) → Keeps working.known → Keeps (passes_later config event req working).known
  unfolding passes_later
  passes-keeps config event req working keeps = if-working (is_request_event event) _ working (passed-keeps config _ working keeps) keeps

  left-keeps : (event : Queued) (working : Working) → Keeps working.known → Keeps (outcome_of event working).session.known
  unfolding outcome_of lightened session_in_play swept
  left-keeps event working keeps = by (is_ended event working) keeps
    where
      by : (b : Bool) → Keeps working.known → Keeps (lightened (cond b (session_in_play working) (swept (session_in_play working)))).known
      by true keeps = (all-filter (IsKeptAsCame came) _ working.known.kept keeps.0, keeps.1)
      by false keeps = (all-filter (IsKeptAsCame came) _ working.known.kept keeps.0, keeps.1)

  -- ## A turn

  finish-keeps : (config : Config) (turn : Turn) (shown : Prepared) → Keeps shown.known
      → Keeps (finished config turn.waiting.event shown.req turn.end (worked_all config shown turn.calls)).known
  unfolding finished Brings
  finish-keeps config turn shown keeps =
      let law : SessionLaws queued.Ready (λ call. Unit {0}) GoesOn = keeping-law queued.Ready (λ x sess initial passed request brings. brings) in
      let begins : Session = record { view = shown.view; known = shown.known } in
      let played : Working = worked_all config shown turn.calls in
      let left : Working = drafts_ended played in
      let told : Working = faulted config shown.req turn.end left in
      passes-keeps config turn.waiting.event shown.req (all_act config told)
      (all_act-goes queued.Ready (λ call. Unit {0}) GoesOn law config told
      (faulted-goes queued.Ready (λ call. Unit {0}) GoesOn law config shown.req turn.end left
      (drafts_ended-goes queued.Ready (λ call. Unit {0}) GoesOn law played
      (worked_all-walks queued.Ready (λ call. Unit {0}) GoesOn law config begins shown turn.calls (done-any turn.calls (λ call. Unit {0}) (λ call. tt) (begun shown.view)) (law.same begins) keeps))))

  turn-keeps : (config : Config) (turn : Turn) (x : Session) → ((one : Came) → IsAmong one (brought x turn.waiting.number turn.waiting.event) → IsAmong one came) → Keeps x.known
      → Keeps (after_turn config turn x).known
  unfolding after_turn outcome
  turn-keeps config turn x into keeps =
      let shown : Prepared = prepared config turn.ringing x turn.waiting turn.now in
      left-keeps turn.waiting.event (finished config turn.waiting.event shown.req turn.end (worked_all config shown turn.calls))
      (finish-keeps config turn shown (shown-keeps config turn.ringing x turn.waiting turn.now turn.waiting.event refl into keeps))

-- ## A life

pub life-keeps : (turns : List Turn) (config : Config) (history : History) → AreAsTheyCame (came_of config history turns) (session_after config history turns).known
unfolding session_after came_of fresh first_known All
life-keeps [] config history = (tt, tt)
life-keeps (turn ∷ earlier) config history =
    let before : Session = session_after config history earlier in
    let new : List Came = brought before turn.waiting.number turn.waiting.event in
    turn-keeps (came_of config history earlier ++ new) config turn before (λ one among. among-last one (came_of config history earlier) new among)
    (more-came (came_of config history earlier) new before.known (life-keeps earlier config history))

pub histories-keep : (config : Config) (history : History) → AreAsTheyCame (came_of config history history.turns) (session_of config history).known
unfolding session_of
histories-keep config history = life-keeps history.turns config history
