-- What a session proxied with options says what the first call that proxied and was accepted asked for, whatever was asked later.
use Rattle.std.proofs.Common.{◌++◌, Bool, true, false, Option, None, Some, List, [], ◌∷◌, refl, sym, subst}
use Rattle.std.specs.Prelude.{◌==◌, ◌||◌, cond, not}
use Rattle.sc_value.specs.declared.ids.ReqId.{ReqId}
use Rattle.sc_terms.specs.declared.calls.Call.{Call}
use Rattle.sc_terms.specs.declared.calls.ProxyOptions.{ProxyOptions}
use Rattle.sc_terms.specs.declared.settings.Config.{Config}
use Rattle.sc_terms.specs.declared.views.RequestView.{RequestView}
use Rattle.sc_state.specs.declared.proxy.Proxy.{Proxy}
use Rattle.sc_state.specs.declared.queue.Queued.{Queued}
use Rattle.sc_state.specs.declared.queue.Queued.TheVariants as queued
use Rattle.sc_state.specs.declared.session.Kept.{Kept}
use Rattle.sc_state.specs.declared.session.Known.{Known}
use Rattle.sc_state.specs.declared.session.Session.{Session}
use Rattle.sc_state.specs.declared.working.Prepared.{Prepared}
use Rattle.sc_state.specs.declared.working.Working.{Working}
use Rattle.sc_hosts.specs.Acting.{all_act, drafts_ended, after_fault as faulted, hops_spent, is_request_event, passed_later, passed_on, passed_request_of, passes_later}
use Rattle.sc_hosts.specs.Effects.{first_play as begun}
use Rattle.sc_hosts.specs.Finishing.{after_all_calls as finished, is_ended, without_unneeded as lightened, outcome, outcome_of, session_in_play, swept}
use Rattle.sc_hosts.specs.Histories.{after_turn}
use Rattle.sc_hosts.specs.Preparing.{kept_of, prepared_session as prepared}
use Rattle.sc_hosts.specs.PreparingResponses.{is_invalid}
use Rattle.sc_hosts.specs.Sessions.{Turn}
use Rattle.sc_hosts.specs.Working.{worked_all}
use Rattle.sc_walked.proofs.WalkCalls.{answering-known, worked_all-walks}
use Rattle.sc_walked.proofs.WalkEnds.{after_turn-walks, all_act-goes, done-any, drafts_ended-goes, faulted-goes}
use Rattle.sc_walked.proofs.WalkShown.{prepared-walks}
use Rattle.sc_walks.specs.Walks.{IsLate}
use Rattle.sc_lasting.specs.Lasting.{All, Directly}
use Rattle.sc_proxying.proofs.Moments.{acting-same}
use Rattle.sc_recorded.proofs.Asking.{AreListed, FirstSays, Stands, asked_in, played-ends}
use Rattle.sc_recorded.proofs.Settled.{Closed, Held, IsBased, IsFirm, Open, SaysSo, any-firm, bare-firm, bare-says, closed-firm, held-law, ready-late}

abbrev Goes : (List Proxy → List Kept → Type 0) → Session → Session → Type 0
Goes P y z = Held P y.view y.known → Held P z.view z.known

-- ## The end of a turn

module _ (Does : Call → Type 0) (P : List Proxy → List Kept → Type 0) (firm : IsFirm Does P) where
  abbrev Keeps : Known → Type 0
  Keeps known = P known.proxies known.kept

  if-keeps : (b : Bool) (y z : Working) → Keeps y.known → Keeps z.known → Keeps (cond b y z).known
  if-keeps true y z p q = p
  if-keeps false y z p q = q

  hops-keep : (config : Config) (request : RequestView) (working : Working) → Keeps working.known → Keeps (hops_spent config request working).known
  unfolding hops_spent
  hops-keep config request working ok = if-keeps _ _ working (subst (λ (k : Known). Keeps k) (sym (answering-known config (Some request) _ working)) ok) ok

  on-keeps : (config : Config) (kept : Kept) (working : Working) → Keeps working.known → Keeps (passed_on config kept working).known
  unfolding passed_on
  on-keeps config kept working ok = if-keeps _ _ _ ok (firm.passed working.known.proxies working.known.kept kept _ ok)

  later-keeps : (config : Config) (request : RequestView) (kept : Option Kept) (working : Working) → Keeps working.known → Keeps (passed_later config request kept working).known
  unfolding passed_later
  later-keeps config request None working ok = ok
  later-keeps config request (Some kept) working ok =
      if-keeps (request.initial || not request.proxied || is_invalid working.known request.sess) working (cond (request.hops == 0) (hops_spent config request working) (passed_on config kept working)) ok
      (if-keeps (request.hops == 0) (hops_spent config request working) (passed_on config kept working) (hops-keep config request working ok) (on-keeps config kept working ok))

  request-keeps : (config : Config) (request : Option RequestView) (working : Working) → Keeps working.known → Keeps (passed_request_of config request working).known
  unfolding passed_request_of
  request-keeps config None working ok = ok
  request-keeps config (Some request) working ok = later-keeps config request (kept_of working.known request.id) working ok

  passes-keep : (config : Config) (event : Queued) (req : Option ReqId) (working : Working) → Keeps working.known → Keeps (passes_later config event req working).known
  unfolding passes_later
  passes-keep config event req working ok = if-keeps (is_request_event event) _ working (request-keeps config _ working ok) ok

  light-keeps : (b : Bool) (y z : Session) → Keeps y.known → Keeps z.known → Keeps (lightened (cond b y z)).known
  unfolding lightened
  light-keeps true y z p q = firm.fewer y.known.proxies y.known.kept _ p
  light-keeps false y z p q = firm.fewer z.known.proxies z.known.kept _ q

  left-keeps : (event : Queued) (working : Working) → Keeps working.known → Keeps (outcome_of event working).session.known
  unfolding outcome_of session_in_play swept
  left-keeps event working ok = light-keeps (is_ended event working) _ _ ok ok

  -- from the calls on
  turn-keeps : (config : Config) (turn : Turn) (x : Session) → Held P (worked_all config (prepared config turn.ringing x turn.waiting turn.now) turn.calls).play.view (worked_all config (prepared config turn.ringing x turn.waiting turn.now) turn.calls).known
      → Keeps (after_turn config turn x).known
  unfolding after_turn outcome finished
  turn-keeps config turn x held =
      let shown : Prepared = prepared config turn.ringing x turn.waiting turn.now in
      let played : Working = worked_all config shown turn.calls in
      let acting : Working = faulted config shown.req turn.end (drafts_ended played) in
      let law = held-law Does P firm queued.Ready ready-late in
      let acts = all_act-goes queued.Ready Does (Goes P) law config acting
      (faulted-goes queued.Ready Does (Goes P) law config shown.req turn.end (drafts_ended played) (drafts_ended-goes queued.Ready Does (Goes P) law played held)) in
      left-keeps turn.waiting.event (passes_later config turn.waiting.event shown.req (all_act config acting)) (passes-keep config turn.waiting.event shown.req (all_act config acting) acts.1)

-- ## A turn

module _ (stays : Bool) (config : Config) (turn : Turn) (x : Session) where
  abbrev shown : Prepared
  shown = prepared config turn.ringing x turn.waiting turn.now

  abbrev played : Working
  played = worked_all config shown turn.calls

  abbrev acting : Working
  acting = faulted config shown.req turn.end (drafts_ended played)

  any-played : (Does : Call → Type 0) (P : List Proxy → List Kept → Type 0) → IsFirm Does P → ((call : Call) → Does call) → Held P shown.view shown.known → Held P played.play.view played.known
  any-played Does P firm all held =
      let law = held-law Does P firm queued.Ready ready-late in
      let start : Session = record { view = shown.view; known = shown.known } in
      worked_all-walks queued.Ready Does (Goes P) law config start shown turn.calls (done-any turn.calls Does all (begun shown.view)) (law.same start) held

  pub based-played : IsBased shown.view → IsBased played.play.view
  based-played based = (any-played (λ call. Unit {0}) (λ ps ks. Unit {0}) any-firm (λ call. tt) (based, tt)).0

  -- after the calls
  pub calls-stand : (given : List ProxyOptions) → IsBased shown.view → Stands stays given shown.known.proxies shown.known.kept → AreListed (begun shown.view) turn.calls
      → FirstSays stays (given ++ asked_in turn.calls) → Stands stays (given ++ asked_in turn.calls) played.known.proxies played.known.kept
  unfolding Stands
  calls-stand [] based stands listed says = played-ends config x shown based stays turn.calls listed says stands
  calls-stand (how ∷ given) based stands listed says = (any-played (λ call. Unit {0}) (Closed stays) (closed-firm stays) (λ call. tt) (based, stands)).1

  stands-say : (given : List ProxyOptions) (ps : List Proxy) (ks : List Kept) → Stands stays given ps ks → All (SaysSo stays) ps
  unfolding Stands
  stands-say [] ps ks stands = bare-says stays ps stands
  stands-say (how ∷ given) ps ks stands = stands.0

  -- as proxies act
  pub acting-says : (given : List ProxyOptions) → Stands stays given played.known.proxies played.known.kept → All (SaysSo stays) acting.known.proxies
  acting-says given stands = subst (λ (all : List Proxy). All (SaysSo stays) all) (sym (acting-same config shown.req turn.end played)) (stands-say given played.known.proxies played.known.kept stands)

  -- as the turn ends
  pub turn-stands : (given : List ProxyOptions) → IsBased shown.view → Stands stays given played.known.proxies played.known.kept
      → Stands stays given (after_turn config turn x).known.proxies (after_turn config turn x).known.kept
  unfolding Stands
  turn-stands [] based stands = turn-keeps Directly Open bare-firm config turn x (based-played based, stands)
  turn-stands (how ∷ given) based stands = turn-keeps (λ call. Unit {0}) (Closed stays) (closed-firm stays) config turn x (based-played based, stands)

  shown-stands-by : (Does : Call → Type 0) (P : List Proxy → List Kept → Type 0) → IsFirm Does P → IsLate turn.waiting.event → Held P x.view x.known → Held P shown.view shown.known
  shown-stands-by Does P firm late held = prepared-walks turn.waiting.event Does (Goes P) (held-law Does P firm turn.waiting.event late) config turn.ringing x turn.waiting turn.now refl held

  -- as a later turn begins
  pub shown-stands : (given : List ProxyOptions) → IsLate turn.waiting.event → IsBased x.view → Stands stays given x.known.proxies x.known.kept → IsBased shown.view × Stands stays given shown.known.proxies shown.known.kept
  unfolding Stands
  shown-stands [] late based stands = shown-stands-by Directly Open bare-firm late (based, stands)
  shown-stands (how ∷ given) late based stands = shown-stands-by (λ call. Unit {0}) (Closed stays) (closed-firm stays) late (based, stands)

  -- a later turn leaves no other first request
  pub later-based : IsLate turn.waiting.event → IsBased x.view → IsBased (after_turn config turn x).view
  later-based late based =
      (after_turn-walks (λ call. Unit {0}) (Goes (λ ps ks. Unit {0})) config turn x (held-law (λ call. Unit {0}) (λ ps ks. Unit {0}) any-firm turn.waiting.event late) (done-any turn.calls (λ call. Unit {0}) (λ call. tt) (begun shown.view)) (based, tt)).0
