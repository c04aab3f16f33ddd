-- What the calls of a turn make of what a session proxies: an accepted one gives targets to its request, or stops it.
use Rattle.std.proofs.Common.{◌≡◌, ℕ, ◌++◌, Bool, true, false, Option, None, Some, List, [], ◌∷◌, inl, inr, refl, sym, ap, subst, ◌∙◌}
use Rattle.std.specs.Prelude.{◌==◌, cond, is_some}
use Rattle.std.specs.List.{fold}
use Rattle.sc_value.specs.declared.ids.ReqId.{ReqId}
use Rattle.sc_value.specs.declared.ids.SessId.{SessId}
use Rattle.sc_value.specs.declared.parts.Uri.{Uri}
use Rattle.sc_terms.specs.declared.calls.Call.{Call}
use Rattle.sc_terms.specs.declared.calls.Call.TheVariants as calls
use Rattle.sc_terms.specs.declared.calls.CallRecord.{CallRecord}
use Rattle.sc_terms.specs.declared.calls.ProxyOptions.{ProxyOptions}
use Rattle.sc_terms.specs.declared.calls.Refusal.{Refusal}
use Rattle.sc_terms.specs.declared.inside.Inside.{Inside}
use Rattle.sc_terms.specs.declared.settings.Config.{Config}
use Rattle.sc_terms.specs.declared.views.RequestView.{RequestView}
use Rattle.sc_state.specs.declared.proxy.Proxy.{Proxy}
use Rattle.sc_state.specs.declared.session.Kept.{Kept}
use Rattle.sc_state.specs.declared.session.Known.{Known}
use Rattle.sc_state.specs.declared.working.Asked.TheVariants as asked
use Rattle.sc_state.specs.declared.working.Draft.{Draft}
use Rattle.sc_state.specs.declared.working.Play.{Play}
use Rattle.sc_state.specs.declared.working.Prepared.{Prepared}
use Rattle.sc_state.specs.declared.working.Working.{Working}
use Rattle.sc_state.specs.declared.working.Written.{Written}
use Rattle.sc_tokens.specs.Bytes.{Bytes}
use Rattle.sc_model.specs.Dialogs.{DialogState}
use Rattle.sc_hosts.specs.Branches.{new_proxy, without_search as stopped, with_targets}
use Rattle.sc_hosts.specs.Effects.{after_listed, first_play as begun}
use Rattle.sc_hosts.specs.Giving.{directs, drafts_later, drafts_leg, drafts_own, forgets, writes}
use Rattle.sc_hosts.specs.Legs.{change_leg}
use Rattle.sc_hosts.specs.Preparing.{kept_of, proxy_of}
use Rattle.sc_hosts.specs.PreparingResponses.{change_proxy}
use Rattle.sc_hosts.specs.Refusals.{refusal}
use Rattle.sc_hosts.specs.Working.{ack_with, acknowledges, cancels, effects_of_call as does, does_by, event_of, invalidates, keeps_sent, proxies, proxies_first, sends, sends_in, sends_initial, sends_later, sends_written, starts, after_one_call as worked, worked_all}
use Rattle.sc_proxied.specs.ProxyLists.{Asked, ProxyEvent, Stopped, happens, proxy_after}
use Rattle.sc_proxied.proofs.Lists.{NumbersApart, number-itself}
use Rattle.sc_walked.specs.SessionWalks.{Each}
use Rattle.sc_walked.proofs.WalkCalls.{answering-known}
use Rattle.sc_walked.proofs.WalkParts.{each-same}
use Rattle.sc_lasting.proofs.Parts.{each-weaker}
use Rattle.sc_proxying.specs.Proxying.{BeginsBy, BeginsIn, as_begun, given_at, given_by, given_of}
use Rattle.sc_proxying.proofs.Runs.{IsRun, IsStep, after-append, after-begun, after-options, after-req, run-then, up-same}
use Rattle.sc_proxying.proofs.Places.{AreSingle, Grows, IsFree, changed-at, each-grows, free-at, grows-more, grows-then, grows-weaker, none-found, only_at, same-numbers, single-more}

-- ## One call

abbrev Said : Call → Proxy → Proxy → Type 0
Said call p q = q ≡ proxy_after p (given_by p.req call)

-- the call began to proxy it
record IsNew (call : Call) (q : Proxy) : Type 0 where
  begins : BeginsBy (as_begun q) call
  is : q ≡ proxy_after (as_begun q) (given_by q.req call)
  options : is_some q.options ≡ true

-- what an accepted call makes of them
record Says (call : Call) (before after : List Proxy) : Type 0 where
  grows : Grows (Said call) (IsNew call) before after
  single : AreSingle after
  run : (n : ℕ) (req : ReqId) (p : Proxy) → IsRun n p (given_by req call) n

-- nothing
quiet : (call : Call) → ((req : ReqId) → given_by req call ≡ []) → (before after : List Proxy) → AreSingle before → after ≡ before → Says call before after
unfolding proxy_after IsRun
quiet call none before after single same = subst (Says call before) (sym same) (record {
  grows = each-grows (Said call) (IsNew call) before before (each-same (Said call) before (λ p. rw (none p.req) refl));
  single = single;
  run = λ n req p. rw (none req) (up-same n);
})

changed-single : (req : ReqId) (event : ProxyEvent) (before after : List Proxy) → Each (λ (p q : Proxy). q ≡ proxy_after p (only_at req event p)) before after → AreSingle before
    → AreSingle after
changed-single req event before after each single =
    subst NumbersApart (sym (same-numbers before after (each-weaker (λ (p q : Proxy). q ≡ proxy_after p (only_at req event p)) (λ (p q : Proxy). q.req ≡ p.req) before after
    (λ p q is. ap (λ (r : Proxy). r.req) is ∙ after-req (only_at req event p) p) each))) single

if-run : (n : ℕ) (p : Proxy) (b : Bool) (events : List ProxyEvent) → IsRun n p events n → IsRun n p (cond b events []) n
unfolding IsRun
if-run n p true events run = run
if-run n p false events run = up-same n

asked-run : (n : ℕ) (p : Proxy) (uris : List Uri) → IsRun n p (Asked uris ∷ []) n
unfolding IsRun IsStep
asked-run n p uris = (n, up-same n, up-same n)

stopped-run : (n : ℕ) (p : Proxy) → IsRun n p (Stopped ∷ []) n
unfolding IsRun IsStep
stopped-run n p = (n, up-same n, up-same n)

to-run : (req of : ReqId) (uris : List Uri) (how : ProxyOptions) (n : ℕ) (p : Proxy) → IsRun n p (given_by req (calls.ProxyTo of uris how)) n
unfolding given_by
to-run req of uris how n p = if-run n p (req.0 == of.0) (Asked uris ∷ []) (asked-run n p uris)

asked-is : (uris : List Uri) (first : Proxy) (b : Bool) → b ≡ true → with_targets uris first ≡ proxy_after first (cond b (Asked uris ∷ []) [])
unfolding proxy_after happens
asked-is uris first true is = refl
asked-is uris first false is = cc

first-says : (req : ReqId) (uris : List Uri) (how : ProxyOptions) (kept : Option Kept) (known : Known) → AreSingle known.proxies → IsFree req.0 known.proxies
    → Says (calls.ProxyTo req uris how) known.proxies (proxies_first req uris how kept known).proxies
unfolding proxies_first given_by BeginsBy with_targets new_proxy proxy_after happens
first-says req uris how None known single free = record {
  grows = each-grows (Said (calls.ProxyTo req uris how)) (IsNew (calls.ProxyTo req uris how)) known.proxies known.proxies (free-at req (Asked uris) known.proxies free);
  single = single;
  run = λ n of p. to-run of req uris how n p;
}
first-says req uris how (Some kept) known single free =
    let new : Proxy = with_targets uris (new_proxy req kept.sess (event_of kept.way) kept.request (Some how)) in
    record {
      grows = grows-more (Said (calls.ProxyTo req uris how)) (IsNew (calls.ProxyTo req uris how)) known.proxies known.proxies new (free-at req (Asked uris) known.proxies free)
          (record { begins = (refl, refl); is = asked-is uris (new_proxy req kept.sess (event_of kept.way) kept.request (Some how)) (req.0 == req.0) (number-itself req.0); options = refl });
      single = single-more known.proxies new single free;
      run = λ n of p. to-run of req uris how n p;
    }

to-says : (req : ReqId) (uris : List Uri) (how : ProxyOptions) (known : Known) (found : Option Proxy) → proxy_of known req ≡ found → AreSingle known.proxies
    → Says (calls.ProxyTo req uris how) known.proxies (cond (is_some found) (change_proxy req (with_targets uris) known) (proxies_first req uris how (kept_of known req) known)).proxies
unfolding given_by happens proxy_of
to-says req uris how known None is single = first-says req uris how (kept_of known req) known single (none-found req known.proxies is)
to-says req uris how known (Some p) is single =
    let each = changed-at req (Asked uris) (with_targets uris) known.proxies (λ p. refl) single in record {
      grows = each-grows (Said (calls.ProxyTo req uris how)) (IsNew (calls.ProxyTo req uris how)) known.proxies _ each;
      single = changed-single req (Asked uris) known.proxies _ each single;
      run = λ n of p. to-run of req uris how n p;
    }

proxies-say : (req : ReqId) (uris : List Uri) (how : ProxyOptions) (known : Known) → AreSingle known.proxies
    → Says (calls.ProxyTo req uris how) known.proxies (proxies req uris how known).proxies
unfolding proxies
proxies-say req uris how known single = to-says req uris how known (proxy_of known req) refl single

cancel-says : (req : ReqId) (known : Known) → AreSingle known.proxies → Says (calls.ProxyCancel req) known.proxies (change_proxy req stopped known).proxies
unfolding given_by happens
cancel-says req known single =
    let each = changed-at req Stopped stopped known.proxies (λ p. refl) single in record {
      grows = each-grows (Said (calls.ProxyCancel req)) (IsNew (calls.ProxyCancel req)) known.proxies _ each;
      single = changed-single req Stopped known.proxies _ each single;
      run = λ n of p. if-run n p (of.0 == req.0) (Stopped ∷ []) (stopped-run n p);
    }

-- ## What else a call does leaves them

leg-same : (req : ReqId) (uri : Option Uri) (kept : Option Kept) (working : Working) → (drafts_leg req uri kept working).known.proxies ≡ working.known.proxies
unfolding drafts_leg writes
leg-same req uri None working = refl
leg-same req uri (Some kept) working = refl

ack-same : (config : Config) (body : Bytes) (dialog : Option DialogState) (kept : Option Kept) (working : Working) → (ack_with config body dialog kept working).known.proxies ≡ working.known.proxies
unfolding ack_with
ack-same config body (Some dialog) (Some kept) working = refl
ack-same config body (Some dialog) None working = refl
ack-same config body None kept working = refl

acknowledged-same : (config : Config) (sess : SessId) (body : Bytes) (request : Option RequestView) (working : Working)
    → (acknowledges config sess body request working).known.proxies ≡ working.known.proxies
unfolding acknowledges
acknowledged-same config sess body None working = refl
acknowledged-same config sess body (Some request) working = ack-same config body _ _ working

in-same : (config : Config) (sess : SessId) (ask : Inside) (dialog : Option DialogState) (working : Working) → (sends_in config sess ask dialog working).known.proxies ≡ working.known.proxies
unfolding sends_in sends_later keeps_sent change_leg
in-same config sess ask None working = refl
in-same config sess ask (Some dialog) working = refl

written-same : (config : Config) (written : Written) (sess : SessId) (what : _) (working : Working)
    → (sends_written config written sess what working).known.proxies ≡ working.known.proxies
unfolding sends_written sends_initial keeps_sent change_leg
written-same config written sess (asked.Initial request) working = refl
written-same config written sess (asked.Later ask) working = in-same config sess ask _ working

sends-same : (config : Config) (number : ℕ) (written : Option Written) (draft : Option Draft) (working : Working)
    → (sends config number written draft working).known.proxies ≡ working.known.proxies
unfolding sends forgets
sends-same config number (Some written) (Some draft) working = written-same config written draft.sess written.asked working
sends-same config number (Some written) None working = refl
sends-same config number None draft working = refl

-- ## Each call

accepted-says : (config : Config) (working : Working) (call : Call) → AreSingle working.known.proxies → Says call working.known.proxies (does config working call).known.proxies
unfolding does given_by drafts_own drafts_later writes directs forgets cancels invalidates change_leg
accepted-says config working (calls.Respond req answer) single =
    quiet (calls.Respond req answer) (λ of. refl) working.known.proxies _ single (ap (λ (k : Known). k.proxies) (answering-known config _ answer working))
accepted-says config working (calls.CreateRequest ask) single = quiet (calls.CreateRequest ask) (λ of. refl) working.known.proxies _ single refl
accepted-says config working (calls.CreateInDialog sess ask) single = quiet (calls.CreateInDialog sess ask) (λ of. refl) working.known.proxies _ single refl
accepted-says config working (calls.B2bCreate req uri) single =
    quiet (calls.B2bCreate req uri) (λ of. refl) working.known.proxies _ single (leg-same req uri (kept_of working.known req) working)
accepted-says config working (calls.SetDirective draft directive origin) single = quiet (calls.SetDirective draft directive origin) (λ of. refl) working.known.proxies _ single refl
accepted-says config working (calls.Send draft) single = quiet (calls.Send draft) (λ of. refl) working.known.proxies _ single (sends-same config draft _ _ working)
accepted-says config working (calls.Discard draft) single = quiet (calls.Discard draft) (λ of. refl) working.known.proxies _ single refl
accepted-says config working (calls.Ack sess body) single =
    quiet (calls.Ack sess body) (λ of. refl) working.known.proxies _ single (acknowledged-same config sess body _ working)
accepted-says config working (calls.Cancel req) single = quiet (calls.Cancel req) (λ of. refl) working.known.proxies _ single refl
accepted-says config working (calls.ProxyTo req uris how) single = proxies-say req uris how working.known single
accepted-says config working (calls.ProxyCancel req) single = cancel-says req working.known single
accepted-says config working (calls.B2bRespond sess answer) single =
    quiet (calls.B2bRespond sess answer) (λ of. refl) working.known.proxies _ single (ap (λ (k : Known). k.proxies) (answering-known config _ answer working))
accepted-says config working (calls.Link a b) single = quiet (calls.Link a b) (λ of. refl) working.known.proxies _ single refl
accepted-says config working (calls.Unlink a) single = quiet (calls.Unlink a) (λ of. refl) working.known.proxies _ single refl
accepted-says config working (calls.StartTimer delay period info) single = quiet (calls.StartTimer delay period info) (λ of. refl) working.known.proxies _ single refl
accepted-says config working (calls.CancelTimer id) single = quiet (calls.CancelTimer id) (λ of. refl) working.known.proxies _ single refl
accepted-says config working (calls.SetAttribute name value) single = quiet (calls.SetAttribute name value) (λ of. refl) working.known.proxies _ single refl
accepted-says config working (calls.RemoveAttribute name) single = quiet (calls.RemoveAttribute name) (λ of. refl) working.known.proxies _ single refl
accepted-says config working (calls.SetExpires minutes) single = quiet (calls.SetExpires minutes) (λ of. refl) working.known.proxies _ single refl
accepted-says config working (calls.SetReadyFlag target flag) single = quiet (calls.SetReadyFlag target flag) (λ of. refl) working.known.proxies _ single refl
accepted-says config working (calls.InvalidateSession sess) single = quiet (calls.InvalidateSession sess) (λ of. refl) working.known.proxies _ single refl
accepted-says config working calls.InvalidateApplication single = quiet calls.InvalidateApplication (λ of. refl) working.known.proxies _ single refl

-- ## At its place in a turn

abbrev SaidAt : Play → Call → Proxy → Proxy → Type 0
SaidAt play call p q = q ≡ proxy_after p (given_at p.req play call)

record IsNewAt (play : Play) (call : Call) (q : Proxy) : Type 0 where
  accepted : refusal play call ≡ None
  new : IsNew call q

record SaysAt (play : Play) (call : Call) (before after : List Proxy) : Type 0 where
  grows : Grows (SaidAt play call) (IsNewAt play call) before after
  single : AreSingle after
  run : (n : ℕ) (req : ReqId) (p : Proxy) → IsRun n p (given_at req play call) n
  accepted_run : refusal play call ≡ None → (n : ℕ) (req : ReqId) (p : Proxy) → IsRun n p (given_by req call) n

call-says : (config : Config) (working : Working) (call : Call) (found : Option Refusal) → refusal working.play call ≡ found → AreSingle working.known.proxies
    → SaysAt working.play call working.known.proxies (does_by config working call found).known.proxies
unfolding does_by proxy_after IsRun
call-says config working call None is single =
    let says = accepted-says config working call single in record {
      grows = grows-weaker (Said call) (SaidAt working.play call) (IsNew call) (IsNewAt working.play call) working.known.proxies _ (λ p q one. rw is one) (λ q new. record { accepted = is; new = new }) says.grows;
      single = says.single;
      run = λ n req p. rw is (says.run n req p);
      accepted_run = λ none. says.run;
    }
call-says config working call (Some refused) is single = record {
  grows = each-grows (SaidAt working.play call) (IsNewAt working.play call) working.known.proxies working.known.proxies (each-same (SaidAt working.play call) working.known.proxies (λ p. rw is refl));
  single = single;
  run = λ n req p. rw is (up-same n);
  accepted_run = λ none. absurd (clash (sym is ∙ none));
}
  where
    clash : Some refused ≡ None → ⊥
    clash same = cc

worked-says : (config : Config) (working : Working) (call : Call) → AreSingle working.known.proxies
    → SaysAt working.play call working.known.proxies (worked config working call).known.proxies
unfolding worked
worked-says config working call single = call-says config working call (refusal working.play call) refl single

-- ## All calls of a turn

-- one of these calls began to proxy it, as this
pub record HasBegunAs (play : Play) (made : List CallRecord) (q first : Proxy) : Type 0 where
  pub given : List ProxyEvent
  pub is : q ≡ proxy_after first given
  pub run : (n : ℕ) → IsRun n first given n
  pub by : BeginsIn first play made given
  pub options : is_some q.options ≡ true

abbrev pub HasBegun : Play → List CallRecord → Proxy → Type 0
HasBegun play made q = HasBegunAs play made q (as_begun q)

abbrev pub SaidAll : Play → List CallRecord → Proxy → Proxy → Type 0
SaidAll play made p q = q ≡ proxy_after p (given_of p.req play made)

-- what these calls make of them
pub record AreGiven (play : Play) (made : List CallRecord) (before after : List Proxy) : Type 0 where
  pub grows : Grows (SaidAll play made) (HasBegun play made) before after
  pub single : AreSingle after
  pub run : (n : ℕ) (req : ReqId) (p : Proxy) → IsRun n p (given_of req play made) n

said-then : (call : Call) (made : List CallRecord) (play later : Play) (x y z : Proxy) → SaidAt play call x y → SaidAll later made y z
    → z ≡ proxy_after x (given_of x.req later made ++ given_at x.req play call)
said-then call made play later x y z one rest =
    rest ∙ ap (λ (req : ReqId). proxy_after y (given_of req later made)) (ap (λ (p : Proxy). p.req) one ∙ after-req (given_at x.req play call) x)
    ∙ ap (λ (p : Proxy). proxy_after p (given_of x.req later made)) one ∙ sym (after-append (given_of x.req later made) (given_at x.req play call) x)

begun-then : (m : CallRecord) (made : List CallRecord) (play later : Play) (before after : List Proxy) → SaysAt play m.call before after → later ≡ after_listed play m.call
    → ((n : ℕ) (req : ReqId) (p : Proxy) → IsRun n p (given_of req later made) n)
    → (y z : Proxy) → IsNewAt play m.call y → SaidAll later made y z → HasBegun play (m ∷ made) z
unfolding BeginsIn new_proxy
begun-then m made play later before after says is run y z new rest =
    subst (HasBegunAs play (m ∷ made) z) (sym (ap (λ (p : Proxy). as_begun p) rest ∙ after-begun (given_of y.req later made) y)) (record {
      given = given_of y.req later made ++ given_by y.req m.call;
      is = rest ∙ ap (λ (p : Proxy). proxy_after p (given_of y.req later made)) new.new.is ∙ sym (after-append (given_of y.req later made) (given_by y.req m.call) (as_begun y));
      run = λ n. run-then n n n (as_begun y) (given_of y.req later made) (given_by y.req m.call) (says.accepted_run new.accepted n y.req (as_begun y)) (run n y.req _);
      by = inl (new.accepted, new.new.begins, ap (λ (p : Play). given_of y.req p made ++ given_by y.req m.call) is);
      options = ap (λ (p : Proxy). is_some p.options) rest ∙ ap (λ (how : Option ProxyOptions). is_some how) (after-options (given_of y.req later made) y) ∙ new.new.options;
    })

begun-more : (m : CallRecord) (made : List CallRecord) (play : Play) (z : Proxy) → HasBegun (after_listed play m.call) made z → HasBegun play (m ∷ made) z
unfolding BeginsIn
begun-more m made play z begun = record { given = begun.given; is = begun.is; run = begun.run; by = inr begun.by; options = begun.options }

calls-given : (made : List CallRecord) (config : Config) (working : Working) → AreSingle working.known.proxies
    → AreGiven working.play made working.known.proxies (fold (λ working made. worked config working made.call) working made).known.proxies
unfolding given_of proxy_after worked IsRun
calls-given [] config working single = record {
  grows = each-grows (SaidAll working.play []) (HasBegun working.play []) working.known.proxies working.known.proxies (each-same (SaidAll working.play []) working.known.proxies (λ p. refl));
  single = single;
  run = λ n req p. up-same n;
}
calls-given (m ∷ made) config working single =
    let next : Working = worked config working m.call in
    let one = worked-says config working m.call single in
    let rest = calls-given made config next one.single in record {
      grows = grows-then (SaidAt working.play m.call) (SaidAll next.play made) (SaidAll working.play (m ∷ made)) (IsNewAt working.play m.call) (HasBegun next.play made) (HasBegun working.play (m ∷ made))
          (λ x y z. said-then m.call made working.play next.play x y z)
          (begun-then m made working.play next.play working.known.proxies next.known.proxies one refl rest.run)
          (begun-more m made working.play)
          working.known.proxies next.known.proxies _ one.grows rest.grows;
      single = rest.single;
      run = λ n req p. run-then n n n p (given_of req next.play made) (given_at req working.play m.call) (one.run n req p) (rest.run n req _);
    }

-- as the calls of a turn begin
pub turn-given : (config : Config) (shown : Prepared) (made : List CallRecord) → AreSingle shown.known.proxies
    → AreGiven (begun shown.view) made shown.known.proxies (worked_all config shown made).known.proxies
unfolding worked_all starts
turn-given config shown made single = calls-given made config (starts shown) single
