-- A request that a session shows as received came, under its number.
use Rattle.std.proofs.Common.{◌≡◌, ℕ, ◌==◌, ◌++◌, Bool, true, false, Option, None, Some, List, [], ◌∷◌, refl, sym, subst, ◌∙◌}
use Rattle.std.specs.Prelude.{◌&&◌, cond, length, map, not}
use Rattle.std.specs.List.{find, fold}
use Rattle.sc_value.specs.declared.ids.ReqId.{ReqId}
use Rattle.sc_value.specs.declared.ids.SessId.{SessId}
use Rattle.sc_value.specs.declared.message.Request.{Request}
use Rattle.sc_terms.specs.declared.calls.CallRecord.{CallRecord}
use Rattle.sc_terms.specs.declared.calls.End.{End}
use Rattle.sc_terms.specs.declared.settings.Config.{Config}
use Rattle.sc_terms.specs.declared.views.RequestView.{RequestView}
use Rattle.sc_terms.specs.declared.views.SessionView.{SessionView}
use Rattle.sc_terms.specs.declared.views.View.{View}
use Rattle.sc_state.specs.declared.queue.Queued.{Queued}
use Rattle.sc_state.specs.declared.queue.Queued.TheVariants as queued
use Rattle.sc_state.specs.declared.queue.Waiting.{Waiting}
use Rattle.sc_state.specs.declared.session.Kept.{Kept}
use Rattle.sc_state.specs.declared.session.Session.{Session}
use Rattle.sc_state.specs.declared.working.Draft.{Draft}
use Rattle.sc_state.specs.declared.working.Play.{Play}
use Rattle.sc_state.specs.declared.working.Prepared.{Prepared}
use Rattle.sc_state.specs.declared.working.Working.{Working}
use Rattle.sc_hosts.specs.Acting.{all_act, drafts_ended, after_fault as faulted, hops_spent, is_request_event, passed_later, passed_on, passed_request_of, passes_later}
use Rattle.sc_hosts.specs.Effects.{first_play as begun, created_leg, view_with_targets as proxied, proxied_request, sent_view, with_draft}
use Rattle.sc_hosts.specs.Finishing.{is_ended, is_session_ready, without_unneeded as lightened, outcome_of, session_in_play, swept, swept_one, without_acks}
use Rattle.sc_hosts.specs.Legs.{FIRST_SESSION, session_for}
use Rattle.sc_hosts.specs.Looking.{is_request, without_sip_session as removed, without_link as unlinked}
use Rattle.sc_hosts.specs.Preparing.{kept_of, prepared_session as prepared, prepared_for}
use Rattle.sc_hosts.specs.PreparingRequests.{next_id, prepared_request, with_received_request as received, request_view, showing}
use Rattle.sc_hosts.specs.ViewChanges.{view_with_answer as answered, answered_in, is_owed, with_link as linked, stands, tidy, with_answer, with_own_session, with_there}
use Rattle.sc_hosts.specs.Working.{worked_all}
use Rattle.sc_walked.specs.SessionWalks.{Brings, Each, IsSameRequest, SessionLaws}
use Rattle.sc_walked.proofs.WalkCalls.{worked_all-walks}
use Rattle.sc_walked.proofs.WalkEnds.{all_act-goes, done-any, drafts_ended-goes, faulted-goes}
use Rattle.sc_walked.proofs.WalkParts.{each-first, each-map}
use Rattle.sc_walked.proofs.WalkShown.{prepared-walks}
use Rattle.sc_lasting.specs.Lasting.{All}
use Rattle.sc_lasting.proofs.LaterRequests.{later-session}
use Rattle.sc_lasting.proofs.Parts.{all-append, all-each, all-filter, all-first, all-insert, all-map, removed-only, unlinked-only}
use Rattle.sc_lasting.proofs.Began.{sent-own}
use Rattle.sc_replies.specs.Came.{Came, came_by_event as brought}
use Rattle.sc_replies.proofs.Owed.{IsAfter, after-same, final-after, found-more, own-number, there-after}

-- ## A request came under this number

abbrev pub HasCome : List Came → ℕ → Type 0
HasCome came number = (one : Came) × (find (λ (other : Came). other.id.0 == number) came ≡ Some one)

pub has-more : (came more : List Came) (number : ℕ) → HasCome came number → HasCome (came ++ more) number
has-more came more number has = (has.0, found-more (λ (other : Came). other.id.0 == number) came more has.0 has.1)

has-by : (number : ℕ) (b : Bool) (x : Came) (came : List Came) → HasCome came number
    → (one : Came) × (cond b (Some x) (find (λ (other : Came). other.id.0 == number) came) ≡ Some one)
has-by number true x came has = (x, refl)
has-by number false x came has = has

pub last-has : (came : List Came) (one : Came) (number : ℕ) → one.id.0 ≡ number → HasCome (came ++ one ∷ []) number
last-has [] one number is = (one, rw (own-number one.id.0 number is) refl)
last-has (x ∷ came) one number is = has-by number (x.id.0 == number) x (came ++ one ∷ []) (last-has came one number is)

-- so it did where the request is shown as received
abbrev pub IsCome : List Came → RequestView → Type 0
IsCome came r = r.received ≡ true → HasCome came r.id.0

abbrev pub AllCame : List Came → View → Type 0
AllCame came view = All (IsCome came) view.requests

unreceived : (came : List Came) (r : RequestView) → r.received ≡ false → IsCome came r
unreceived came r sent = λ received. absurd (clash r.received received sent)
  where
    clash : (b : Bool) → b ≡ true → b ≡ false → ⊥
    clash b p q = cc

module _ (came : List Came) where
  -- ## Each change

  same-come : (r q : RequestView) → IsSameRequest r q → IsCome came r → IsCome came q
  same-come r q same come = λ received. subst (λ (req : ReqId). HasCome came req.0) (sym same.id) (come (sym same.received ∙ received))

  after-come : (r q : RequestView) → IsAfter r q → IsCome came r → IsCome came q
  after-come r q after come = λ received. subst (λ (req : ReqId). HasCome came req.0) (sym after.id) (come (after.received received))

  turned-come : (count : ℕ) (r : RequestView) → IsCome came r → IsCome came (proxied_request count r)
  unfolding proxied_request
  turned-come count r come = come

  abbrev Shows : Session → Session → Type 0
  Shows x y = AllCame came x.view → AllCame came y.view

  shown-on : (v w : View) → w ≡ record v { sessions = w.sessions } → AllCame came v → AllCame came w
  shown-on v w is come = subst (λ (u : View). AllCame came u) (sym is) come

  begins-on : (x : Session) → AllCame came x.view → AllCame came (with_own_session x.view)
  unfolding with_own_session
  begins-on x come = come

  leg-on : (play : Play) (request : Option RequestView) → AllCame came play.view → AllCame came (created_leg request play).view
  unfolding created_leg with_draft linked with_own_session
  leg-on play None come = come
  leg-on play (Some request) come = come

  links-on : (view : View) (a b : SessId) → AllCame came view → AllCame came (linked a b view)
  unfolding linked
  links-on view a b come = come

  turned-on : (view : View) (request : Option RequestView) (count : ℕ) → AllCame came view → AllCame came (proxied request count view)
  unfolding proxied
  turned-on view None count come = come
  turned-on view (Some request) count come = all-first (IsCome came) (is_request request.id) (proxied_request count) view.requests (λ r found. turned-come count r) come

  sent-on : (view : View) (draft : Draft) → AllCame came view → All (IsCome came) (view.requests ++ sent_view view draft ∷ [])
  sent-on view draft come = all-append (IsCome came) view.requests (sent_view view draft) come (unreceived came (sent_view view draft) (sent-own view draft))

  coming-law : (event : Queued) → ((x : Session) (sess : SessId) (initial passed : Bool) (request : Request) → Brings event x sess initial passed request → ⊥)
      → SessionLaws event (λ call. Unit {0}) Shows
  coming-law event none = record {
    same = λ x come. come;
    after = λ x y z p q come. q (p come);
    dates = λ x now come. come;
    expires = λ x due come. come;
    flags = λ x flag come. come;
    times = λ x timers next come. come;
    attributes = λ x fields come. come;
    counts = λ x come. come;
    numbers = λ x come. come;
    moves = λ x sessions same come. come;
    renews = λ x requests same come. all-each (IsCome came) IsSameRequest x.view.requests requests same-come same come;
    drops = λ x test come. all-filter (IsCome came) test x.view.requests come;
    same_legs = λ x legs same come. come;
    same_proxies = λ x all same come. come;
    forgets = λ x test come. come;
    unlinks = λ x sess does come. shown-on x.view (unlinked sess x.view) (unlinked-only sess x.view) come;
    removes = λ x sess come. shown-on x.view (removed sess x.view) (removed-only sess x.view) come;
    receives = λ x number sess initial passed request brings come. absurd (none x sess initial passed request brings);
    shows = λ x request again come. all-insert (IsCome came) request x.view.requests (unreceived came request again.received) come;
    sends = λ x draft request come. sent-on x.view draft come;
    sends_none = λ x draft come. sent-on x.view draft come;
    begins = λ x come. begins-on x come;
    derives = λ x req sess original came tag is come. come;
    begins_leg = λ play known req uri request kept is does found has come. leg-on play request come;
    links = λ play known a b is does come. links-on play.view a b come;
    turns = λ play known req uris how request is does found come. turned-on play.view request (length uris) come;
    passes = λ x req kept is come. come;
  }

  ready-law : SessionLaws queued.Ready (λ call. Unit {0}) Shows
  unfolding Brings
  ready-law = coming-law queued.Ready (λ x sess initial passed request brings. brings)

  -- ## Within a turn

  pub calls-come : (config : Config) (shown : Prepared) (made : List CallRecord) → AllCame came shown.view → AllCame came (worked_all config shown made).play.view
  calls-come config shown made come =
      let begins : Session = record { view = shown.view; known = shown.known } in
      worked_all-walks queued.Ready (λ call. Unit {0}) Shows ready-law config begins shown made (done-any made (λ call. Unit {0}) (λ call. tt) (begun shown.view)) (ready-law.same begins) come

  pub drafts-come : (working : Working) → AllCame came working.play.view → AllCame came (drafts_ended working).play.view
  drafts-come working come = drafts_ended-goes queued.Ready (λ call. Unit {0}) Shows ready-law working come

  pub faulted-come : (config : Config) (req : Option ReqId) (end : End) (working : Working) → AllCame came working.play.view → AllCame came (faulted config req end working).play.view
  faulted-come config req end working come = faulted-goes queued.Ready (λ call. Unit {0}) Shows ready-law config req end working come

  pub acted-come : (config : Config) (working : Working) → AllCame came working.play.view → AllCame came (all_act config working).play.view
  acted-come config working come = all_act-goes queued.Ready (λ call. Unit {0}) Shows ready-law config working come

  -- ## What follows the calls

  each-come : (rs qs : List RequestView) → Each IsAfter rs qs → All (IsCome came) rs → All (IsCome came) qs
  each-come rs qs each come = all-each (IsCome came) IsAfter rs qs after-come each come

  tidy-come : (view : View) → AllCame came view → AllCame came (tidy view)
  unfolding tidy
  tidy-come view come =
      let there : List RequestView = map (with_there view) view.requests in
      all-filter (IsCome came) (stands view) there (each-come view.requests there (each-map IsAfter view.requests (with_there view) (there-after view)) come)

  in-come : (sess : SessId) (request : RequestView) (tagged : Bool) (code : ℕ) (view : View) → AllCame came view → AllCame came (answered_in sess request tagged code view)
  unfolding answered_in
  in-come sess request tagged code view come =
      each-come view.requests _ (each-first IsAfter view.requests (is_request request.id) (with_answer code) after-same (final-after code)) come

  answered-come : (request : Option RequestView) (code : ℕ) (view : View) → AllCame came view → AllCame came (answered request code view)
  unfolding answered
  answered-come None code view come = come
  answered-come (Some request) code view come = tidy-come (answered_in request.sess request true code view) (in-come request.sess request true code view come)

  if-view : (b : Bool) (v w : View) → AllCame came v → AllCame came w → AllCame came (cond b v w)
  if-view true v w p q = p
  if-view false v w p q = q

  if-in : (b : Bool) (y z : Working) → AllCame came y.play.view → AllCame came z.play.view → AllCame came (cond b y z).play.view
  if-in true y z p q = p
  if-in false y z p q = q

  spent-come : (config : Config) (request : RequestView) (working : Working) → AllCame came working.play.view → AllCame came (hops_spent config request working).play.view
  unfolding hops_spent
  spent-come config request working come = if-in (is_owed request) _ working (answered-come (Some request) 483 working.play.view come) come

  later-come : (config : Config) (request : RequestView) (kept : Option Kept) (working : Working) → AllCame came working.play.view → AllCame came (passed_later config request kept working).play.view
  unfolding passed_later passed_on
  later-come config request None working come = come
  later-come config request (Some kept) working come =
      if-in _ working _ come (if-in _ (hops_spent config request working) (passed_on config kept working) (spent-come config request working come) come)

  request-come : (config : Config) (request : Option RequestView) (working : Working) → AllCame came working.play.view → AllCame came (passed_request_of config request working).play.view
  unfolding passed_request_of
  request-come config None working come = come
  request-come config (Some request) working come = later-come config request (kept_of working.known request.id) working come

  pub passes-come : (config : Config) (event : Queued) (req : Option ReqId) (working : Working) → AllCame came working.play.view → AllCame came (passes_later config event req working).play.view
  unfolding passes_later
  passes-come config event req working come = if-in (is_request_event event) _ working (request-come config _ working come) come

  -- ## What goes away

  swept-come : (sessions : List SessionView) (before : _) (then view : View) → AllCame came view → AllCame came (fold (swept_one before then) view sessions)
  unfolding swept_one
  swept-come [] before then view come = come
  swept-come (s ∷ sessions) before then view come =
      swept-come sessions before then (swept_one before then view s)
      (if-view (s.ready_flag && not s.gone && is_session_ready before then s) (removed s.id view) view (shown-on view (removed s.id view) (removed-only s.id view) come) come)

  if-at : (b : Bool) (y z : Session) → AllCame came y.view → AllCame came z.view → AllCame came (cond b y z).view
  if-at true y z p q = p
  if-at false y z p q = q

  sweep-come : (x : Session) → AllCame came x.view → AllCame came (swept x).view
  unfolding swept
  sweep-come x come = tidy-come (fold (swept_one x.known x.view) x.view x.view.sessions) (swept-come x.view.sessions x.known x.view x.view come)

  in-play-come : (working : Working) → AllCame came working.play.view → AllCame came (session_in_play working).view
  unfolding session_in_play without_acks
  in-play-come working come = all-filter (IsCome came) _ working.play.view.requests come

  pub left-come : (event : Queued) (working : Working) → AllCame came working.play.view → AllCame came (outcome_of event working).session.view
  unfolding outcome_of lightened
  left-come event working come =
      let x : Session = session_in_play working in
      if-at (is_ended event working) x (swept x) (in-play-come working come) (sweep-come x (in-play-come working come))

-- ## The event of a turn

more-come : (came more : List Came) (view : View) → AllCame came view → AllCame (came ++ more) view
more-come came more view come = all-map (IsCome came) (IsCome (came ++ more)) view.requests (λ r is received. has-more came more r.id.0 (is received)) come

abbrev one_of : Session → ℕ → Request → Came
one_of x number request = record { id = next_id x; event = number; request = request }

view-number : (next : ReqId) (sess : SessId) (initial passed : Bool) (request : Request) → next.0 ≡ (request_view next sess initial passed request).id.0
unfolding request_view
view-number next sess initial passed request = refl

module _ (came : List Came) (x : Session) (number : ℕ) (request : Request) (come : AllCame came x.view) where
  abbrev now_came : List Came
  now_came = came ++ one_of x number request ∷ []

  received-come : (sess : SessId) (initial passed : Bool) → AllCame now_came (received x number sess initial passed request).view
  unfolding received
  received-come sess initial passed =
      all-append (IsCome now_came) x.view.requests (request_view (next_id x) sess initial passed request) (more-come came (one_of x number request ∷ []) x.view come)
      (λ received. last-has came (one_of x number request) _ (view-number (next_id x) sess initial passed request))

  later-shown : (sess : Option SessId) → AllCame now_came (prepared_request x number request sess).view
  later-shown = later-session (λ view known. AllCame now_came view) x number request (more-come came (one_of x number request ∷ []) x.view come) (λ sess. received-come sess false)
      (λ request view known. answered-come now_came request 500 view) (λ view known legs come. come)

abbrev now_at : ℕ → Session → Session
now_at now x = record x { view = record x.view { now = now } }

pub shown-come : (came : List Came) (config : Config) (ringing : List ℕ) (x : Session) (waiting : Waiting) (now : ℕ) (event : Queued) → event ≡ waiting.event → AllCame came x.view
    → AllCame (came ++ brought x waiting.number event) (prepared config ringing x waiting now).view
unfolding prepared prepared_for showing brought Brings
shown-come came config ringing x waiting now (queued.Initial region subscriber popped request) is come =
    subst (λ (e : Queued). AllCame (came ++ one_of x waiting.number request ∷ []) (prepared_for config ringing (now_at now x) waiting.number e).view) is
    (received-come came (now_at now x) waiting.number request come FIRST_SESSION true false)
shown-come came config ringing x waiting now (queued.Request request) is come =
    subst (λ (e : Queued). AllCame (came ++ one_of x waiting.number request ∷ []) (prepared_for config ringing (now_at now x) waiting.number e).view) is
    (later-shown came (now_at now x) waiting.number request come (session_for (now_at now x) request))
shown-come came config ringing x waiting now (queued.Response branch response) is come =
    more-come came [] (prepared config ringing x waiting now).view (prepared-walks (queued.Response branch response) (λ call. Unit {0}) (Shows came) (coming-law came (queued.Response branch response) (λ y sess initial passed request brings. brings)) config ringing x waiting now is come)
shown-come came config ringing x waiting now (queued.Cancelled of) is come =
    more-come came [] (prepared config ringing x waiting now).view (prepared-walks (queued.Cancelled of) (λ call. Unit {0}) (Shows came) (coming-law came (queued.Cancelled of) (λ y sess initial passed request brings. brings)) config ringing x waiting now is come)
shown-come came config ringing x waiting now (queued.Timer id) is come =
    more-come came [] (prepared config ringing x waiting now).view (prepared-walks (queued.Timer id) (λ call. Unit {0}) (Shows came) (coming-law came (queued.Timer id) (λ y sess initial passed request brings. brings)) config ringing x waiting now is come)
shown-come came config ringing x waiting now (queued.BranchTimer branch due) is come =
    more-come came [] (prepared config ringing x waiting now).view (prepared-walks (queued.BranchTimer branch due) (λ call. Unit {0}) (Shows came) (coming-law came (queued.BranchTimer branch due) (λ y sess initial passed request brings. brings)) config ringing x waiting now is come)
shown-come came config ringing x waiting now queued.Expired is come =
    more-come came [] (prepared config ringing x waiting now).view (prepared-walks queued.Expired (λ call. Unit {0}) (Shows came) (coming-law came queued.Expired (λ y sess initial passed request brings. brings)) config ringing x waiting now is come)
shown-come came config ringing x waiting now queued.Ready is come =
    more-come came [] (prepared config ringing x waiting now).view (prepared-walks queued.Ready (λ call. Unit {0}) (Shows came) (coming-law came queued.Ready (λ y sess initial passed request brings. brings)) config ringing x waiting now is come)
