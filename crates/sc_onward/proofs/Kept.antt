-- What is kept of a later request stays until its turn ends, and no other request is proxied under its number.
use Rattle.std.proofs.Common.{◌≡◌, ◌<◌, ◌⊎◌, inl, inr, ℕ, ◌++◌, Bool, true, false, Option, None, Some, List, [], ◌∷◌, refl, sym, ◌∙◌, arith}
use Rattle.std.specs.Prelude.{cond, is_some, length}
use Rattle.std.specs.List.{fold}
use Rattle.sc_value.specs.declared.ids.ReqId.{ReqId}
use Rattle.sc_value.specs.declared.ids.SessId.{SessId}
use Rattle.sc_value.specs.declared.message.Request.{Request}
use Rattle.sc_value.specs.declared.parts.Uri.{Uri}
use Rattle.sc_terms.specs.declared.calls.Answer.{Answer}
use Rattle.sc_terms.specs.declared.calls.Call.{Call}
use Rattle.sc_terms.specs.declared.calls.Call.TheVariants as calls
use Rattle.sc_terms.specs.declared.calls.CallRecord.{CallRecord}
use Rattle.sc_terms.specs.declared.calls.ProxyOptions.{ProxyOptions}
use Rattle.sc_terms.specs.declared.calls.Refusal.{Refusal}
use Rattle.sc_terms.specs.declared.inside.Inside.{Inside}
use Rattle.sc_terms.specs.declared.settings.Config.{Config}
use Rattle.sc_terms.specs.declared.views.RequestView.{RequestView}
use Rattle.sc_terms.specs.declared.views.View.{View}
use Rattle.sc_state.specs.declared.proxy.Proxy.{Proxy}
use Rattle.sc_state.specs.declared.session.Kept.{Kept}
use Rattle.sc_state.specs.declared.session.Known.{Known}
use Rattle.sc_state.specs.declared.session.Way.{Way}
use Rattle.sc_state.specs.declared.session.Way.TheVariants.{Received, Sent}
use Rattle.sc_state.specs.declared.working.Asked.{Asked}
use Rattle.sc_state.specs.declared.working.Asked.TheVariants as asked
use Rattle.sc_state.specs.declared.working.Draft.{Draft}
use Rattle.sc_state.specs.declared.working.Working.{Working}
use Rattle.sc_state.specs.declared.working.Written.{Written}
use Rattle.sc_tokens.specs.Bytes.{Bytes}
use Rattle.sc_model.specs.Dialogs.{DialogState}
use Rattle.sc_hosts.specs.Branches.{new_proxy, without_search as stopped, with_targets}
use Rattle.sc_hosts.specs.Giving.{answering, directs, drafts_later, drafts_leg, drafts_own, forgets, writes}
use Rattle.sc_hosts.specs.Legs.{change_leg}
use Rattle.sc_hosts.specs.Looking.{is_request, request_in, same_request}
use Rattle.sc_hosts.specs.Preparing.{kept_of, proxy_of}
use Rattle.sc_hosts.specs.PreparingResponses.{change_proxy}
use Rattle.sc_hosts.specs.RefusalParts.{draft_in}
use Rattle.sc_hosts.specs.Refusals.{refusal}
use Rattle.sc_hosts.specs.Working.{ack_with, acknowledges, cancels, effects_of_call as does, does_by, invalidates, keeps_sent, next_branch, proxies, proxies_first, sends, sends_in, sends_initial, sends_later, sends_written, after_one_call as worked}
use Rattle.sc_lasting.specs.Lasting.{All}
use Rattle.sc_lasting.proofs.Began.{none-proxied, proxied-first, proxied-is, same-number, test-found}
use Rattle.sc_lasting.proofs.Parts.{all-append, all-first}
use Rattle.sc_onward.proofs.Stays.{Shown, clash, fine-found, listed-shown}

below-not : (a n : ℕ) → a < n → n ≡ a → ⊥
below-not a n less is = omega (arith, less, is)

module _ (number : ℕ) (sess : SessId) (event : ℕ) (request : Request) where
  -- what is kept under this number is this request, which came with this event
  abbrev pub KeepsAt : Kept → Type 0
  KeepsAt kept = ◌≡◌ {A = ℕ} kept.id.0 number → (◌≡◌ {A = Request} kept.request request) × (◌≡◌ {A = Way} kept.way (Received event))

  -- something is kept under it
  unfoldable pub Keeps : List Kept → Type 0
  Keeps [] = ⊥
  Keeps (k ∷ ks) = (◌≡◌ {A = ℕ} k.id.0 number) ⊎ Keeps ks

  -- another request is proxied
  abbrev pub Other : Proxy → Type 0
  Other proxy = ◌≡◌ {A = ℕ} proxy.req.0 number → ⊥

  abbrev pub Knows : Known → Type 0
  Knows known = All KeepsAt known.kept × Keeps known.kept × All Other known.proxies

  pub keeps-append : (xs ys : List Kept) → Keeps xs → Keeps (xs ++ ys)
  unfolding Keeps
  keeps-append [] ys has = absurd has
  keeps-append (x ∷ xs) ys (inl is) = inl is
  keeps-append (x ∷ xs) ys (inr later) = inr (keeps-append xs ys later)

  pub keeps-last : (xs : List Kept) (x : Kept) → ◌≡◌ {A = ℕ} x.id.0 number → Keeps (xs ++ x ∷ [])
  unfolding Keeps
  keeps-last [] x is = inl is
  keeps-last (y ∷ xs) x is = inr (keeps-last xs x is)

  abbrev pub ShownAt : View → Type 0
  ShownAt view = Shown number sess request.hops request.method view

  if-knows : (b : Bool) (x y : Known) → Knows x → Knows y → Knows (cond b x y)
  if-knows true x y p q = p
  if-knows false x y p q = q

  -- ## Each call

  pub answering-knows : (config : Config) (found : Option RequestView) (answer : Answer) (working : Working) → Knows working.known → Knows (answering config found answer working).known
  unfolding answering
  answering-knows config None answer working ok = ok
  answering-knows config (Some r) answer working ok = ok

  leg-knows : (req : ReqId) (uri : Option Uri) (kept : Option Kept) (working : Working) → Knows working.known → Knows (drafts_leg req uri kept working).known
  unfolding drafts_leg writes
  leg-knows req uri None working ok = ok
  leg-knows req uri (Some kept) working ok = ok

  sent-keeps : (kept : Kept) (next : ℕ) → number < next → ◌≡◌ {A = ℕ} kept.id.0 next → KeepsAt kept
  sent-keeps kept next less here = λ is. absurd (below-not number next less (sym here ∙ is))

  abbrev kept_new : SessId → Request → Working → Kept
  kept_new s sent working = record { id = record { 0 = working.play.view.next_request }; sess = s; way = Sent (next_branch working); request = sent }

  keeps_sent-knows : (s : SessId) (sent : Request) (working : Working) → number < working.play.view.next_request → Knows working.known → Knows (keeps_sent s sent working).known
  unfolding keeps_sent
  keeps_sent-knows s sent working less ok = (
    all-append KeepsAt working.known.kept (kept_new s sent working) ok.0 (sent-keeps (kept_new s sent working) working.play.view.next_request less refl),
    keeps-append working.known.kept (kept_new s sent working ∷ []) ok.1,
    ok.2,
  )

  sends_in-knows : (config : Config) (s : SessId) (ask : Inside) (dialog : Option DialogState) (working : Working) → number < working.play.view.next_request → Knows working.known
      → Knows (sends_in config s ask dialog working).known
  unfolding sends_in sends_later change_leg
  sends_in-knows config s ask None working less ok = ok
  sends_in-knows config s ask (Some dialog) working less ok = keeps_sent-knows s _ _ less ok

  sends_written-knows : (config : Config) (draft : Written) (s : SessId) (what : Asked) (working : Working) → number < working.play.view.next_request → Knows working.known
      → Knows (sends_written config draft s what working).known
  unfolding sends_written sends_initial change_leg
  sends_written-knows config draft s (asked.Initial sent) working less ok = keeps_sent-knows s _ _ less ok
  sends_written-knows config draft s (asked.Later ask) working less ok = sends_in-knows config s ask _ working less ok

  sends-knows : (config : Config) (draft : ℕ) (written : Option Written) (found : Option Draft) (working : Working) → number < working.play.view.next_request → Knows working.known
      → Knows (sends config draft written found working).known
  unfolding sends forgets
  sends-knows config draft (Some written) (Some found) working less ok = sends_written-knows config written found.sess written.asked working less ok
  sends-knows config draft (Some written) None working less ok = ok
  sends-knows config draft None found working less ok = ok

  ack_with-knows : (config : Config) (body : Bytes) (dialog : Option DialogState) (kept : Option Kept) (working : Working) → Knows working.known → Knows (ack_with config body dialog kept working).known
  unfolding ack_with
  ack_with-knows config body (Some dialog) (Some kept) working ok = ok
  ack_with-knows config body (Some dialog) None working ok = ok
  ack_with-knows config body None kept working ok = ok

  acknowledges-knows : (config : Config) (s : SessId) (body : Bytes) (found : Option RequestView) (working : Working) → Knows working.known → Knows (acknowledges config s body found working).known
  unfolding acknowledges
  acknowledges-knows config s body None working ok = ok
  acknowledges-knows config s body (Some r) working ok = ack_with-knows config body _ _ working ok

  first-knows : (req : ReqId) (uris : List Uri) (how : ProxyOptions) (kept : Option Kept) (known : Known) → (◌≡◌ {A = ℕ} req.0 number → ⊥) → Knows known → Knows (proxies_first req uris how kept known)
  unfolding proxies_first with_targets new_proxy
  first-knows req uris how None known other ok = ok
  first-knows req uris how (Some kept) known other ok = (ok.0, ok.1, all-append Other known.proxies _ ok.2 other)

  targets-other : (uris : List Uri) (p : Proxy) → Other p → Other (with_targets uris p)
  unfolding with_targets
  targets-other uris p other = other

  proxies-knows : (req : ReqId) (uris : List Uri) (how : ProxyOptions) (known : Known) → (◌≡◌ {A = ℕ} req.0 number → ⊥) → Knows known → Knows (proxies req uris how known)
  unfolding proxies
  proxies-knows req uris how known other ok =
      if-knows (is_some (proxy_of known req)) (change_proxy req (with_targets uris) known) (proxies_first req uris how (kept_of known req) known)
      (ok.0, ok.1, all-first Other (λ (p : Proxy). same_request p.req req) (with_targets uris) known.proxies (λ p found. targets-other uris p) ok.2)
      (first-knows req uris how (kept_of known req) known other ok)

  -- only a request that began its SipSession is proxied by a call
  call-other : (working : Working) (req : ReqId) (uris : List Uri) (how : ProxyOptions) (found : Option RequestView) → refusal working.play (calls.ProxyTo req uris how) ≡ None
      → request_in working.play.view req ≡ found → ShownAt working.play.view → ◌≡◌ {A = ℕ} req.0 number → ⊥
  call-other working req uris how None is at ok same = none-proxied working.play (length uris) how (proxied-is working.play req uris how None is at)
  call-other working req uris how (Some r) is at ok same =
      let first = proxied-first working.play r (length uris) how (proxied-is working.play req uris how (Some r) is at) in
      clash r.initial first.1
      (fine-found number sess request.hops request.method working.play.view req r ok at (same-number r.id.0 req.0 (test-found (is_request req) working.play.view.requests r at) ∙ same)).0

  stopped-other : (p : Proxy) → Other p → Other (stopped p)
  unfolding stopped
  stopped-other p other = other

  does-knows : (config : Config) (working : Working) (call : Call) → refusal working.play call ≡ None → ShownAt working.play.view → Knows working.known → Knows (does config working call).known
  unfolding does drafts_own drafts_later writes directs forgets cancels invalidates change_leg
  does-knows config working (calls.Respond req answer) is shown ok = answering-knows config _ answer working ok
  does-knows config working (calls.CreateRequest ask) is shown ok = ok
  does-knows config working (calls.CreateInDialog s ask) is shown ok = ok
  does-knows config working (calls.B2bCreate req uri) is shown ok = leg-knows req uri _ working ok
  does-knows config working (calls.SetDirective draft directive origin) is shown ok = ok
  does-knows config working (calls.Send draft) is shown ok = sends-knows config draft _ (draft_in working.play draft) working shown.0 ok
  does-knows config working (calls.Discard draft) is shown ok = ok
  does-knows config working (calls.Ack s body) is shown ok = acknowledges-knows config s body _ working ok
  does-knows config working (calls.Cancel req) is shown ok = ok
  does-knows config working (calls.ProxyTo req uris how) is shown ok = proxies-knows req uris how working.known (call-other working req uris how _ is refl shown) ok
  does-knows config working (calls.ProxyCancel req) is shown ok =
      (ok.0, ok.1, all-first Other (λ (p : Proxy). same_request p.req req) stopped working.known.proxies (λ p found. stopped-other p) ok.2)
  does-knows config working (calls.B2bRespond s answer) is shown ok = answering-knows config _ answer working ok
  does-knows config working (calls.Link a b) is shown ok = ok
  does-knows config working (calls.Unlink a) is shown ok = ok
  does-knows config working (calls.StartTimer delay period info) is shown ok = ok
  does-knows config working (calls.CancelTimer id) is shown ok = ok
  does-knows config working (calls.SetAttribute name value) is shown ok = ok
  does-knows config working (calls.RemoveAttribute name) is shown ok = ok
  does-knows config working (calls.SetExpires minutes) is shown ok = ok
  does-knows config working (calls.SetReadyFlag target flag) is shown ok = ok
  does-knows config working (calls.InvalidateSession s) is shown ok = ok
  does-knows config working calls.InvalidateApplication is shown ok = ok

  does_by-knows : (config : Config) (working : Working) (call : Call) (refused : Option Refusal) → refusal working.play call ≡ refused → ShownAt working.play.view → Knows working.known
      → Knows (does_by config working call refused).known
  unfolding does_by
  does_by-knows config working call None is shown ok = does-knows config working call is shown ok
  does_by-knows config working call (Some refused) is shown ok = ok

  -- the request is shown and kept as it came
  abbrev pub Holds : Working → Type 0
  Holds working = ShownAt working.play.view × Knows working.known

  abbrev pub Leaves : CallRecord → Type 0
  Leaves made = made.call ≡ calls.InvalidateSession sess → ⊥

  pub worked-holds : (config : Config) (working : Working) (call : Call) → (call ≡ calls.InvalidateSession sess → ⊥) → ShownAt working.play.view → Knows working.known
      → ShownAt (worked config working call).play.view × Knows (worked config working call).known
  unfolding worked
  worked-holds config working call keeps shown ok =
      (listed-shown number sess request.hops request.method working.play call keeps shown, does_by-knows config working call (refusal working.play call) refl shown ok)

  -- over all calls of a turn
  pub all-hold : (made : List CallRecord) (config : Config) (working : Working) → All Leaves made → ShownAt working.play.view → Knows working.known
      → ShownAt (fold (λ (w : Working) (m : CallRecord). worked config w m.call) working made).play.view × Knows (fold (λ (w : Working) (m : CallRecord). worked config w m.call) working made).known
  unfolding All
  all-hold [] config working leaves shown ok = (shown, ok)
  all-hold (m ∷ made) config working leaves shown ok =
      let next = worked-holds config working m.call leaves.0 shown ok in
      all-hold made config (worked config working m.call) leaves.1 next.0 next.1
