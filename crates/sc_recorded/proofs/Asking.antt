-- What the calls of a turn make of it where the request that began the session is proxied: the first that is accepted says how.
use Rattle.std.proofs.Common.{◌≡◌, ◌<◌, ◌⊎◌, inl, inr, ℕ, ◌++◌, Bool, true, false, Option, None, Some, List, [], ◌∷◌, refl, ap, sym, subst, ◌∙◌}
use Rattle.std.specs.Prelude.{is_some}
use Rattle.std.specs.List.{cons_option, filter_map, fold}
use Rattle.sc_value.specs.declared.ids.ReqId.{ReqId}
use Rattle.sc_value.specs.declared.ids.SessId.{SessId}
use Rattle.sc_value.specs.declared.parts.Uri.{Uri}
use Rattle.sc_terms.specs.declared.calls.Call.{Call}
use Rattle.sc_terms.specs.declared.calls.Call.TheVariants as calls
use Rattle.sc_terms.specs.declared.calls.CallAnswer.{CallAnswer}
use Rattle.sc_terms.specs.declared.calls.CallAnswer.TheVariants as answers
use Rattle.sc_terms.specs.declared.calls.CallRecord.{CallRecord}
use Rattle.sc_terms.specs.declared.calls.ProxyOptions.{ProxyOptions}
use Rattle.sc_terms.specs.declared.calls.Refusal.{Refusal}
use Rattle.sc_terms.specs.declared.inside.Inside.{Inside}
use Rattle.sc_terms.specs.declared.settings.Config.{Config}
use Rattle.sc_state.specs.declared.proxy.Proxy.{Proxy}
use Rattle.sc_state.specs.declared.queue.Queued.TheVariants as queued
use Rattle.sc_state.specs.declared.session.Kept.{Kept}
use Rattle.sc_state.specs.declared.session.Known.{Known}
use Rattle.sc_state.specs.declared.session.Session.{Session}
use Rattle.sc_state.specs.declared.working.Asked.{Asked}
use Rattle.sc_state.specs.declared.working.Asked.TheVariants as asked
use Rattle.sc_state.specs.declared.working.Draft.{Draft}
use Rattle.sc_state.specs.declared.working.Play.{Play}
use Rattle.sc_state.specs.declared.working.Prepared.{Prepared}
use Rattle.sc_state.specs.declared.working.Working.{Working}
use Rattle.sc_state.specs.declared.working.Written.{Written}
use Rattle.sc_model.specs.Dialogs.{DialogState}
use Rattle.sc_hosts.specs.Branches.{without_search as stopped}
use Rattle.sc_hosts.specs.Effects.{after_listed, first_play as begun}
use Rattle.sc_hosts.specs.Giving.{directs, drafts_later, drafts_leg, drafts_own, forgets, writes}
use Rattle.sc_hosts.specs.Legs.{change_leg}
use Rattle.sc_hosts.specs.Looking.{request_in, same_request}
use Rattle.sc_hosts.specs.Preparing.{kept_of}
use Rattle.sc_hosts.specs.Refusals.{refusal}
use Rattle.sc_hosts.specs.Working.{cancels, effects_of_call as does, does_by, invalidates, keeps_sent, sends, sends_in, sends_initial, sends_later, sends_written, starts, after_one_call as worked, worked_all}
use Rattle.sc_hosts.specs.Scripting.{is_refused}
use Rattle.sc_walked.specs.SessionWalks.{IsKeptProxy}
use Rattle.sc_walked.proofs.WalkCalls.{answering-known, worked_all-walks, acknowledges-known}
use Rattle.sc_walked.proofs.WalkEnds.{done-any}
use Rattle.sc_walked.proofs.WalkParts.{each-first, kept-proxy}
use Rattle.sc_walked.proofs.WalkShown.{stopped-kept}
use Rattle.sc_lasting.specs.Lasting.{Directly}
use Rattle.sc_paths.specs.Moments.{options_of}
use Rattle.sc_recorded.proofs.Settled.{Closed, Held, IsBased, IsFirm, Open, any-firm, asked-closes, closed-firm, held-law, bare-firm, proxied-number, ready-late}

-- ## Each call

-- where it proxies, it is the first request
abbrev IsOfFirst : Call → Type 0
IsOfFirst call = (req : ReqId) (uris : List Uri) (how : ProxyOptions) → call ≡ calls.ProxyTo req uris how → req.0 ≡ 1

module _ (Does : Call → Type 0) (P : List Proxy → List Kept → Type 0) (firm : IsFirm Does P) where
  abbrev Keeps : Known → Type 0
  Keeps known = P known.proxies known.kept

  leg-keeps : (req : ReqId) (uri : Option Uri) (kept : Option Kept) (working : Working) → Keeps working.known → Keeps (drafts_leg req uri kept working).known
  unfolding drafts_leg writes
  leg-keeps req uri None working ok = ok
  leg-keeps req uri (Some kept) working ok = ok

  in-keeps : (config : Config) (sess : SessId) (ask : Inside) (dialog : Option DialogState) (working : Working) → 1 < working.play.view.next_request → Keeps working.known
      → Keeps (sends_in config sess ask dialog working).known
  unfolding sends_in sends_later keeps_sent change_leg
  in-keeps config sess ask None working less ok = ok
  in-keeps config sess ask (Some dialog) working less ok = firm.more working.known.proxies working.known.kept _ less ok

  written-keeps : (config : Config) (written : Written) (sess : SessId) (what : Asked) (working : Working) → 1 < working.play.view.next_request → Keeps working.known
      → Keeps (sends_written config written sess what working).known
  unfolding sends_written sends_initial keeps_sent change_leg
  written-keeps config written sess (asked.Initial request) working less ok = firm.more working.known.proxies working.known.kept _ less ok
  written-keeps config written sess (asked.Later ask) working less ok = in-keeps config sess ask _ working less ok

  sends-keeps : (config : Config) (number : ℕ) (written : Option Written) (draft : Option Draft) (working : Working) → 1 < working.play.view.next_request → Keeps working.known
      → Keeps (sends config number written draft working).known
  unfolding sends forgets
  sends-keeps config number (Some written) (Some draft) working less ok = written-keeps config written draft.sess written.asked working less ok
  sends-keeps config number (Some written) None working less ok = ok
  sends-keeps config number None draft working less ok = ok

  does-keeps : (config : Config) (working : Working) (call : Call) → 1 < working.play.view.next_request → IsOfFirst call → Does call → Keeps working.known → Keeps (does config working call).known
  unfolding does drafts_own drafts_later writes directs forgets cancels invalidates change_leg
  does-keeps config working (calls.Respond req answer) less first allowed ok = subst (λ (k : Known). Keeps k) (sym (answering-known config _ answer working)) ok
  does-keeps config working (calls.CreateRequest ask) less first allowed ok = ok
  does-keeps config working (calls.CreateInDialog sess ask) less first allowed ok = ok
  does-keeps config working (calls.B2bCreate req uri) less first allowed ok = leg-keeps req uri (kept_of working.known req) working ok
  does-keeps config working (calls.SetDirective draft directive origin) less first allowed ok = ok
  does-keeps config working (calls.Send draft) less first allowed ok = sends-keeps config draft _ _ working less ok
  does-keeps config working (calls.Discard draft) less first allowed ok = ok
  does-keeps config working (calls.Ack sess body) less first allowed ok = subst (λ (k : Known). Keeps k) (sym (acknowledges-known config sess body _ working)) ok
  does-keeps config working (calls.Cancel req) less first allowed ok = ok
  does-keeps config working (calls.ProxyTo req uris how) less first allowed ok = firm.asked working.known req uris how (first req uris how refl) allowed ok
  does-keeps config working (calls.ProxyCancel req) less first allowed ok =
      firm.same working.known.proxies _ working.known.kept (each-first IsKeptProxy working.known.proxies (λ proxy. same_request proxy.req req) stopped kept-proxy stopped-kept) ok
  does-keeps config working (calls.B2bRespond sess answer) less first allowed ok = subst (λ (k : Known). Keeps k) (sym (answering-known config _ answer working)) ok
  does-keeps config working (calls.Link a b) less first allowed ok = ok
  does-keeps config working (calls.Unlink a) less first allowed ok = ok
  does-keeps config working (calls.StartTimer delay period info) less first allowed ok = ok
  does-keeps config working (calls.CancelTimer id) less first allowed ok = ok
  does-keeps config working (calls.SetAttribute name value) less first allowed ok = ok
  does-keeps config working (calls.RemoveAttribute name) less first allowed ok = ok
  does-keeps config working (calls.SetExpires minutes) less first allowed ok = ok
  does-keeps config working (calls.SetReadyFlag target flag) less first allowed ok = ok
  does-keeps config working (calls.InvalidateSession sess) less first allowed ok = ok
  does-keeps config working calls.InvalidateApplication less first allowed ok = ok

-- ## Calls that proxy and others

-- it is one that doesn't proxy, or it proxies so
abbrev IsKnown : Call → Type 0
IsKnown call = (Directly call × ((answer : CallAnswer) → options_of call answer ≡ None)) ⊎ ((req : ReqId) × (uris : List Uri) × (how : ProxyOptions) × (call ≡ calls.ProxyTo req uris how))

call-is : (call : Call) → IsKnown call
unfolding Directly options_of
call-is (calls.ProxyTo req uris how) = inr (req, uris, how, refl)
call-is (calls.Respond req answer) = inl (tt, λ given. refl)
call-is (calls.CreateRequest ask) = inl (tt, λ given. refl)
call-is (calls.CreateInDialog sess ask) = inl (tt, λ given. refl)
call-is (calls.B2bCreate req uri) = inl (tt, λ given. refl)
call-is (calls.SetDirective draft directive origin) = inl (tt, λ given. refl)
call-is (calls.Send draft) = inl (tt, λ given. refl)
call-is (calls.Discard draft) = inl (tt, λ given. refl)
call-is (calls.Ack sess body) = inl (tt, λ given. refl)
call-is (calls.Cancel req) = inl (tt, λ given. refl)
call-is (calls.ProxyCancel req) = inl (tt, λ given. refl)
call-is (calls.B2bRespond sess answer) = inl (tt, λ given. refl)
call-is (calls.Link a b) = inl (tt, λ given. refl)
call-is (calls.Unlink a) = inl (tt, λ given. refl)
call-is (calls.StartTimer delay period info) = inl (tt, λ given. refl)
call-is (calls.CancelTimer id) = inl (tt, λ given. refl)
call-is (calls.SetAttribute name value) = inl (tt, λ given. refl)
call-is (calls.RemoveAttribute name) = inl (tt, λ given. refl)
call-is (calls.SetExpires minutes) = inl (tt, λ given. refl)
call-is (calls.SetReadyFlag target flag) = inl (tt, λ given. refl)
call-is (calls.InvalidateSession sess) = inl (tt, λ given. refl)
call-is calls.InvalidateApplication = inl (tt, λ given. refl)

to-some : (req : ReqId) (uris : List Uri) (how : ProxyOptions) (answer : CallAnswer) → is_refused answer ≡ false → options_of (calls.ProxyTo req uris how) answer ≡ Some how
unfolding options_of is_refused
to-some req uris how answers.Fine stands = refl
to-some req uris how (answers.Number n) stands = refl
to-some req uris how (answers.Refused refusal) stands = cc

to-none : (req : ReqId) (uris : List Uri) (how : ProxyOptions) (answer : CallAnswer) → is_refused answer ≡ true → options_of (calls.ProxyTo req uris how) answer ≡ None
unfolding options_of is_refused
to-none req uris how answers.Fine refused = cc
to-none req uris how (answers.Number n) refused = cc
to-none req uris how (answers.Refused refusal) refused = refl

refused-none : (call : Call) (answer : CallAnswer) → IsKnown call → is_refused answer ≡ true → options_of call answer ≡ None
refused-none call answer (inl direct) refused = direct.1 answer
refused-none call answer (inr (req, uris, how, is)) refused = subst (λ (c : Call). options_of c answer ≡ None) (sym is) (to-none req uris how answer refused)

-- ## The calls of a turn

-- the options of those that proxied and were accepted
abbrev pub asked_in : List CallRecord → List ProxyOptions
asked_in made = filter_map (λ (m : CallRecord). options_of m.call m.answer) made

-- the first of them says this
unfoldable pub FirstSays : Bool → List ProxyOptions → Type 0
FirstSays stays [] = Unit {0}
FirstSays stays (how ∷ rest) = how.record_route ≡ stays

-- nothing is proxied by a call, or what is says this
unfoldable pub Stands : Bool → List ProxyOptions → List Proxy → List Kept → Type 0
Stands stays [] ps ks = Open ps ks
Stands stays (how ∷ rest) ps ks = Closed stays ps ks

-- each of these calls is listed as refused where it is
unfoldable pub AreListed : Play → List CallRecord → Type 0
AreListed play [] = Unit {0}
AreListed play (m ∷ made) = (is_refused m.answer ≡ is_some (refusal play m.call)) × AreListed (after_listed play m.call) made

module _ (config : Config) (x : Session) (shown : Prepared) (based : IsBased shown.view) (stays : Bool) where
  abbrev act : Working → CallRecord → Working
  act working m = worked config working m.call

  -- some of the calls led there
  abbrev IsThere : Working → Type 0
  IsThere working = (pre : List CallRecord) × (worked_all config shown pre ≡ working)

  based-at : (working : Working) → IsThere working → IsBased working.play.view
  based-at working there =
      let start : Session = record { view = shown.view; known = shown.known } in
      let law = held-law (λ call. Unit {0}) (λ ps ks. Unit {0}) any-firm queued.Ready ready-late in
      subst (λ (w : Working). IsBased w.play.view) there.1
      (worked_all-walks queued.Ready (λ call. Unit {0}) (λ y z. Held (λ ps ks. Unit {0}) y.view y.known → Held (λ ps ks. Unit {0}) z.view z.known) law config start shown there.0
      (done-any there.0 (λ call. Unit {0}) (λ call. tt) (begun shown.view)) (law.same start) (based, tt)).0

  snoc : (pre : List CallRecord) (w : Working) (m : CallRecord) → fold act w (pre ++ m ∷ []) ≡ act (fold act w pre) m
  snoc [] w m = refl
  snoc (n ∷ pre) w m = snoc pre (act w n) m

  next-there : (working : Working) (m : CallRecord) → IsThere working → IsThere (act working m)
  unfolding worked_all
  next-there working m there = (there.0 ++ m ∷ [], snoc there.0 (starts shown) m ∙ ap (λ (w : Working). act w m) there.1)

  first-there : (working : Working) (call : Call) → IsThere working → refusal working.play call ≡ None → IsOfFirst call
  first-there working call there accepted = λ req uris how is.
      proxied-number working.play req uris how (request_in working.play.view req) (subst (λ (c : Call). refusal working.play c ≡ None) is accepted) refl (based-at working there).1

  -- a call that is accepted or not
  one-keeps : (P : List Proxy → List Kept → Type 0) (Does : Call → Type 0) → IsFirm Does P → (working : Working) (call : Call) → IsThere working → (found : Option Refusal) → refusal working.play call ≡ found
      → (found ≡ None → Does call) → P working.known.proxies working.known.kept → P (does_by config working call found).known.proxies (does_by config working call found).known.kept
  unfolding does_by
  one-keeps P Does firm working call there None is allowed ok = does-keeps Does P firm config working call (based-at working there).0 (first-there working call there is) (allowed refl) ok
  one-keeps P Does firm working call there (Some refused) is allowed ok = ok

  closed-stays : (made : List CallRecord) (working : Working) → IsThere working → Closed stays working.known.proxies working.known.kept
      → Closed stays (fold act working made).known.proxies (fold act working made).known.kept
  unfolding worked
  closed-stays [] working there ok = ok
  closed-stays (m ∷ made) working there ok =
      closed-stays made (act working m) (next-there working m there) (one-keeps (Closed stays) (λ call. Unit {0}) (closed-firm stays) working m.call there (refusal working.play m.call) refl (λ none. tt) ok)

  -- the call that proxies first
  asks-closes : (working : Working) (call : Call) → IsThere working → refusal working.play call ≡ None → (req : ReqId) (uris : List Uri) (how : ProxyOptions) → call ≡ calls.ProxyTo req uris how
      → how.record_route ≡ stays → Open working.known.proxies working.known.kept → (found : Option Refusal) → found ≡ None
      → Closed stays (does_by config working call found).known.proxies (does_by config working call found).known.kept
  unfolding does_by does
  asks-closes working call there accepted req uris how is so bare None none =
      subst (λ (c : Call). Closed stays (does config working c).known.proxies (does config working c).known.kept) (sym is)
      (asked-closes stays working.known req uris how (first-there working call there accepted req uris how is) so bare)
  asks-closes working call there accepted req uris how is so bare (Some refused) none = cc

  abbrev Ends : List ProxyOptions → Working → Type 0
  Ends given working = Stands stays given working.known.proxies working.known.kept

  head-none : (found : Option ProxyOptions) (rest : List ProxyOptions) (working : Working) → found ≡ None → Ends rest working → Ends (cons_option found rest) working
  head-none None rest working none ends = ends
  head-none (Some how) rest working none ends = cc

  says-none : (found : Option ProxyOptions) (rest : List ProxyOptions) → found ≡ None → FirstSays stays (cons_option found rest) → FirstSays stays rest
  says-none None rest none says = says
  says-none (Some how) rest none says = cc

  head-some : (found : Option ProxyOptions) (rest : List ProxyOptions) (working : Working) (how : ProxyOptions) → found ≡ Some how → Closed stays working.known.proxies working.known.kept → Ends (cons_option found rest) working
  unfolding Stands
  head-some None rest working how is closed = cc
  head-some (Some other) rest working how is closed = closed

  says-some : (found : Option ProxyOptions) (rest : List ProxyOptions) (how : ProxyOptions) → found ≡ Some how → FirstSays stays (cons_option found rest) → how.record_route ≡ stays
  unfolding FirstSays
  says-some None rest how is says = cc
  says-some (Some other) rest how is says = subst (λ (h : ProxyOptions). h.record_route ≡ stays) (same other how is) says
    where
      same : (a b : ProxyOptions) → Some a ≡ Some b → a ≡ b
      same a b is = cc

  -- one call and those behind it
  one-ends : (m : CallRecord) (made : List CallRecord) (working : Working) → IsThere working → is_refused m.answer ≡ is_some (refusal working.play m.call) → FirstSays stays (asked_in (m ∷ made))
      → Open working.known.proxies working.known.kept
      → (FirstSays stays (asked_in made) → Open (act working m).known.proxies (act working m).known.kept → Ends (asked_in made) (fold act (act working m) made))
      → Ends (asked_in (m ∷ made)) (fold act (act working m) made)
  unfolding worked
  one-ends m made working there listed says bare more = by (refusal working.play m.call) refl
    where
      rest : options_of m.call m.answer ≡ None → Open (act working m).known.proxies (act working m).known.kept → Ends (asked_in (m ∷ made)) (fold act (act working m) made)
      rest none still =
          head-none (options_of m.call m.answer) (asked_in made) (fold act (act working m) made) none (more (says-none (options_of m.call m.answer) (asked_in made) none says) still)

      accepted : refusal working.play m.call ≡ None → is_refused m.answer ≡ false → IsKnown m.call → Ends (asked_in (m ∷ made)) (fold act (act working m) made)
      accepted is stands (inl direct) =
          rest (direct.1 m.answer) (one-keeps Open Directly bare-firm working m.call there (refusal working.play m.call) refl (λ none. direct.0) bare)
      accepted is stands (inr (req, uris, how, call)) =
          let said : options_of m.call m.answer ≡ Some how = subst (λ (c : Call). options_of c m.answer ≡ Some how) (sym call) (to-some req uris how m.answer stands) in
          head-some (options_of m.call m.answer) (asked_in made) (fold act (act working m) made) how said
          (closed-stays made (act working m) (next-there working m there)
          (asks-closes working m.call there is req uris how call (says-some (options_of m.call m.answer) (asked_in made) how said says) bare (refusal working.play m.call) is))

      clash : (refused : Refusal) → Some refused ≡ None → ⊥
      clash refused same = cc

      by : (found : Option Refusal) → refusal working.play m.call ≡ found → Ends (asked_in (m ∷ made)) (fold act (act working m) made)
      by None is = accepted is (listed ∙ ap (λ (f : Option Refusal). is_some f) is) (call-is m.call)
      by (Some refused) is =
          rest (refused-none m.call m.answer (call-is m.call) (listed ∙ ap (λ (f : Option Refusal). is_some f) is))
          (one-keeps Open Directly bare-firm working m.call there (refusal working.play m.call) refl (λ none. absurd (clash refused (sym is ∙ none))) bare)

  bare-ends : (made : List CallRecord) (working : Working) → IsThere working → AreListed working.play made → FirstSays stays (asked_in made) → Open working.known.proxies working.known.kept
      → Ends (asked_in made) (fold act working made)
  unfolding Stands AreListed worked
  bare-ends [] working there listed says bare = bare
  bare-ends (m ∷ made) working there listed says bare =
      one-ends m made working there listed.0 says bare (λ later still. bare-ends made (act working m) (next-there working m there) listed.1 later still)

  -- all calls of a turn
  pub played-ends : (made : List CallRecord) → AreListed (begun shown.view) made → FirstSays stays (asked_in made) → Open shown.known.proxies shown.known.kept → Ends (asked_in made) (worked_all config shown made)
  unfolding worked_all starts
  played-ends made listed says bare = bare-ends made (starts shown) ([], refl) listed says bare
