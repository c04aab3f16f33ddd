-- What follows for a proxied request as a turn ends.
use Rattle.std.proofs.Common.{◌≡◌, ◌≤◌, ◌<◌, ℕ, ◌+◌, suc, ◌++◌, Bool, true, false, Option, None, Some, List, [], ◌∷◌, inl, inr, refl, sym, ap, subst, ◌∙◌, append_assoc, arith, append-nil}
use Rattle.std.specs.Prelude.{◌==◌, ◌&&◌, cond, drop, is_some, length, map, take, unwrap_or}
use Rattle.std.specs.List.{find, fold}
use Rattle.sc_tokens.specs.Names.{same_bytes}
use Rattle.sc_value.specs.Lists.{change_first}
use Rattle.sc_value.specs.declared.ids.ReqId.{ReqId}
use Rattle.sc_value.specs.declared.ids.SessId.{SessId}
use Rattle.sc_value.specs.declared.message.Response.{Response}
use Rattle.sc_value.specs.declared.parts.Uri.{Uri}
use Rattle.sc_terms.specs.declared.settings.Config.{Config}
use Rattle.sc_terms.specs.declared.views.RequestView.{RequestView}
use Rattle.sc_terms.specs.declared.views.View.{View}
use Rattle.sc_state.specs.declared.proxy.Branch.{Branch}
use Rattle.sc_state.specs.declared.proxy.Passing.{Passing}
use Rattle.sc_state.specs.declared.proxy.Proxy.{Proxy}
use Rattle.sc_state.specs.declared.session.Known.{Known}
use Rattle.sc_state.specs.declared.working.Working.{Working}
use Rattle.sc_model.specs.BestResponses.{best_response}
use Rattle.sc_model.specs.Dialogs.{subscribe, tag_of}
use Rattle.sc_model.specs.Transactions.{is_success}
use Rattle.sc_hosts.specs.Acting.{after_proxy as acted, acts, all_act, chooses, closed_session, closes, forwarded_view, forwards, forwards_best, in_view, passes, proxy_now, at_rest as rested, sends_cancels, after_start as started, subscribed_tag, with_forwarded, with_subscribed}
use Rattle.sc_hosts.specs.Branches.{branch_due, can_choose, can_pass, has_open, is_exhausted, is_parallel, new_branch, starting}
use Rattle.sc_hosts.specs.Looking.{change_session}
use Rattle.sc_hosts.specs.Preparing.{proxy_of}
use Rattle.sc_hosts.specs.PreparingResponses.{change_proxy, is_invalid}
use Rattle.sc_hosts.specs.ViewChanges.{answered_in, tidy}
use Rattle.sc_hosts.specs.Working.{next_branch}
use Rattle.sc_proxied.specs.ProxyLists.{Forwarded, ProxyEvent, Rested, Started, happens, proxy_after}
use Rattle.sc_proxied.proofs.Lists.{NumbersApart, number-itself, other-way}
use Rattle.sc_walked.specs.SessionWalks.{Each}
use Rattle.sc_lasting.specs.Lasting.{All}
use Rattle.sc_proxying.specs.Proxying.{IsOfEnd, chosen_codes, code_of, forwarded_codes, forwards_of, passed_codes, starts_at}
use Rattle.sc_proxying.proofs.Runs.{IsRun, IsStep, after-append, after-options, after-req, run-higher, run-lower, run-up, up-same, up-then}
use Rattle.sc_proxying.proofs.Places.{AreSingle, IsFree, changed-there, found-there, free-append, is_at, none-other, numbers_of}

-- ## One proxied request, at its place

-- it stands behind these, and is what these events made of it
record IsAt (done rest : List Proxy) (proxy : Proxy) (low : ℕ) (events : List ProxyEvent) (w : Working) : Type 0 where
  at : w.known.proxies ≡ done ++ proxy_after proxy events ∷ rest
  run : IsRun low proxy events w.play.view.counter

-- it changes
moved-at : (done rest : List Proxy) (proxy : Proxy) (events : List ProxyEvent) (req : ReqId) (change : Proxy → Proxy) (event : ProxyEvent) (known : Known)
    → IsFree proxy.req.0 done → req ≡ proxy.req → known.proxies ≡ done ++ proxy_after proxy events ∷ rest
    → change (proxy_after proxy events) ≡ happens event (proxy_after proxy events)
    → (change_proxy req change known).proxies ≡ done ++ proxy_after proxy (event ∷ events) ∷ rest
unfolding proxy_after
moved-at done rest proxy events req change event known free same at is =
    ap (change_first (is_at req) change) at
    ∙ changed-there req change done (proxy_after proxy events) rest (subst (λ (r : ReqId). IsFree r.0 done) (sym same) free) (number-is (proxy_after proxy events) req (after-req events proxy ∙ sym same))
    ∙ ap (λ (p : Proxy). done ++ p ∷ rest) is
  where
    number-is : (p : Proxy) (req : ReqId) → p.req ≡ req → (p.req.0 == req.0) ≡ true
    number-is p req is = rw is (number-itself req.0)

-- ## Targets get their branches

branch-same : (p q : Proxy) (number now : ℕ) → p.options ≡ q.options → new_branch p number now ≡ new_branch q number now
unfolding new_branch branch_due
branch-same p q number now is = rw is refl

less-one : (n : ℕ) → n < n + 1
less-one n = omega arith

started-at : (config : Config) (done rest : List Proxy) (proxy : Proxy) (low : ℕ) (events : List ProxyEvent) (uri : Uri) (w : Working) → IsFree proxy.req.0 done
    → 0 < length (proxy_after proxy events).targets → IsAt done rest proxy low events w
    → IsAt done rest proxy low (Started (next_branch w) w.play.view.now ∷ events) (started config proxy w uri)
unfolding started happens IsRun IsStep
started-at config done rest proxy low events uri w free waits here =
    let now : ℕ = w.play.view.now in
    let change : Proxy → Proxy = λ p. record p { branches = p.branches ++ new_branch proxy (next_branch w) now ∷ []; targets = drop 1 p.targets } in
    record {
      at = moved-at done rest proxy events proxy.req change (Started (next_branch w) now) w.known free refl here.at
          (ap (λ (b : Branch). record (proxy_after proxy events) { branches = (proxy_after proxy events).branches ++ b ∷ []; targets = drop 1 (proxy_after proxy events).targets })
          (branch-same proxy (proxy_after proxy events) (next_branch w) now (sym (after-options events proxy))));
      run = (w.play.view.counter, here.run, (less-one w.play.view.counter, up-same (w.play.view.counter + 1), waits));
    }

started-now : (config : Config) (proxy : Proxy) (w : Working) (uri : Uri) → (started config proxy w uri).play.view.now ≡ w.play.view.now
unfolding started
started-now config proxy w uri = refl

started-targets : (proxy : Proxy) (number now : ℕ) (events : List ProxyEvent) → (proxy_after proxy (Started number now ∷ events)).targets ≡ drop 1 (proxy_after proxy events).targets
unfolding proxy_after happens
started-targets proxy number now events = refl

record HaveStarted (done rest : List Proxy) (proxy : Proxy) (low now count : ℕ) (w : Working) : Type 0 where
  numbers : List ℕ
  count_is : length numbers ≡ count
  here : IsAt done rest proxy low (starts_at now numbers) w
  now_is : w.play.view.now ≡ now

some-more : (n : ℕ) → 0 < suc n
some-more n = omega arith

none-more : (n : ℕ) → n ≡ n + 0
none-more n = omega arith

one-more : (n m : ℕ) → suc n + m ≡ n + suc m
one-more n m = omega arith

all-started : (uris : List Uri) (config : Config) (done rest : List Proxy) (proxy : Proxy) (low now : ℕ) (numbers : List ℕ) (more : List Uri) (w : Working)
    → IsFree proxy.req.0 done → w.play.view.now ≡ now → (proxy_after proxy (starts_at now numbers)).targets ≡ uris ++ more
    → IsAt done rest proxy low (starts_at now numbers) w → HaveStarted done rest proxy low now (length numbers + length uris) (fold (started config proxy) w uris)
all-started [] config done rest proxy low now numbers more w free is targets here =
    record { numbers = numbers; count_is = none-more (length numbers); here = here; now_is = is }
all-started (uri ∷ uris) config done rest proxy low now numbers more w free is targets here =
    subst (λ (count : ℕ). HaveStarted done rest proxy low now count (fold (started config proxy) (started config proxy w uri) uris)) (one-more (length numbers) (length uris))
    (all-started uris config done rest proxy low now (next_branch w ∷ numbers) more (started config proxy w uri) free (next-now is) (next-targets targets)
    (subst (λ (n : ℕ). IsAt done rest proxy low (Started (next_branch w) n ∷ starts_at now numbers) (started config proxy w uri)) is
    (started-at config done rest proxy low (starts_at now numbers) uri w free (subst (λ (us : List Uri). 0 < length us) (sym targets) (some-more (length (uris ++ more)))) here)))
  where
    next-now : w.play.view.now ≡ now → (started config proxy w uri).play.view.now ≡ now
    next-now is = started-now config proxy w uri ∙ is

    next-targets : (proxy_after proxy (starts_at now numbers)).targets ≡ uri ∷ (uris ++ more) → (proxy_after proxy (Started (next_branch w) now ∷ starts_at now numbers)).targets ≡ uris ++ more
    next-targets targets = started-targets proxy (next_branch w) now (starts_at now numbers) ∙ ap (λ (us : List Uri). drop 1 us) targets

-- what waits to be forwarded waits still
starts-passing : (now : ℕ) (numbers : List ℕ) (proxy : Proxy) → (proxy_after proxy (starts_at now numbers)).passing ≡ proxy.passing
unfolding proxy_after happens
starts-passing now [] proxy = refl
starts-passing now (number ∷ numbers) proxy = starts-passing now numbers proxy

-- those that are started now are the first that wait
record IsFirstPart (uris all : List Uri) : Type 0 where
  more : List Uri
  is : all ≡ uris ++ more

first-taken : (all : List Uri) → IsFirstPart (take 1 all) all
first-taken [] = record { more = []; is = refl }
first-taken (uri ∷ uris) = record { more = uris; is = refl }

if-part : (b : Bool) (xs ys all : List Uri) → IsFirstPart xs all → IsFirstPart ys all → IsFirstPart (cond b xs ys) all
if-part true xs ys all p q = p
if-part false xs ys all p q = q

starting-first : (proxy : Proxy) → IsFirstPart (starting proxy) proxy.targets
unfolding starting
starting-first proxy =
    if-part (is_parallel proxy) proxy.targets (cond (has_open proxy) [] (take 1 proxy.targets)) proxy.targets (record { more = []; is = sym (append-nil proxy.targets) })
    (if-part (has_open proxy) [] (take 1 proxy.targets) proxy.targets (record { more = proxy.targets; is = refl }) (first-taken proxy.targets))

-- ## Responses are forwarded

forwarded-counter : (proxy : Proxy) (sess : SessId) (request : Option RequestView) (response : Response) (view : View)
    → (forwarded_view proxy sess request response view).counter ≡ view.counter
unfolding forwarded_view answered_in tidy
forwarded-counter proxy sess None response view = refl
forwarded-counter proxy sess (Some request) response view = refl

forwarded-now : (proxy : Proxy) (sess : SessId) (request : Option RequestView) (response : Response) (view : View)
    → (forwarded_view proxy sess request response view).now ≡ view.now
unfolding forwarded_view answered_in tidy
forwarded-now proxy sess None response view = refl
forwarded-now proxy sess (Some request) response view = refl

if-view : (part : View → ℕ) (b : Bool) (v w : View) (n : ℕ) → part v ≡ n → part w ≡ n → part (cond b v w) ≡ n
if-view part true v w n p q = p
if-view part false v w n p q = q

subscribed-counter : (proxy : Proxy) (sess : SessId) (response : Response) (view : View) → (with_subscribed proxy sess response view).counter ≡ view.counter
unfolding with_subscribed
subscribed-counter proxy sess response view =
    if-view (λ (v : View). v.counter) (is_some proxy.options && same_bytes proxy.request.method subscribe && is_success response.code) (change_session sess (subscribed_tag (tag_of response.head.to)) view) view view.counter refl refl

subscribed-now : (proxy : Proxy) (sess : SessId) (response : Response) (view : View) → (with_subscribed proxy sess response view).now ≡ view.now
unfolding with_subscribed
subscribed-now proxy sess response view =
    if-view (λ (v : View). v.now) (is_some proxy.options && same_bytes proxy.request.method subscribe && is_success response.code) (change_session sess (subscribed_tag (tag_of response.head.to)) view) view view.now refl refl

forwards-counter : (q : Proxy) (sess : SessId) (response : Response) (w : Working) → (forwards q sess response w).play.view.counter ≡ w.play.view.counter
unfolding forwards
forwards-counter q sess response w = forwarded-counter q sess _ response (with_subscribed q sess response w.play.view) ∙ subscribed-counter q sess response w.play.view

forwards-now : (q : Proxy) (sess : SessId) (response : Response) (w : Working) → (forwards q sess response w).play.view.now ≡ w.play.view.now
unfolding forwards
forwards-now q sess response w = forwarded-now q sess _ response (with_subscribed q sess response w.play.view) ∙ subscribed-now q sess response w.play.view

forwards-known : (q : Proxy) (sess : SessId) (response : Response) (w : Working) → (forwards q sess response w).known ≡ change_proxy q.req (with_forwarded response.code) w.known
unfolding forwards
forwards-known q sess response w = refl

module _ (config : Config) (done rest : List Proxy) (proxy : Proxy) (free : IsFree proxy.req.0 done) (low now : ℕ) where
  record HaveForwarded (codes : List ℕ) (base : List ProxyEvent) (w : Working) : Type 0 where
    here : IsAt done rest proxy low (forwards_of codes ++ base) w
    now_is : w.play.view.now ≡ now

  forwards-at : (q : Proxy) (sess : SessId) (response : Response) (events : List ProxyEvent) (w : Working) → q.req ≡ proxy.req → IsAt done rest proxy low events w
      → IsAt done rest proxy low (Forwarded response.code ∷ events) (forwards q sess response w)
  unfolding happens IsRun IsStep
  forwards-at q sess response events w same here = record {
    at = ap (λ (k : Known). k.proxies) (forwards-known q sess response w) ∙ moved-at done rest proxy events q.req (with_forwarded response.code) (Forwarded response.code) w.known free same here.at refl;
    run = (w.play.view.counter, here.run, subst (λ (n : ℕ). w.play.view.counter ≤ n) (sym (forwards-counter q sess response w)) (up-same w.play.view.counter));
  }

  forwards-more : (q : Proxy) (sess : SessId) (response : Response) (codes : List ℕ) (base : List ProxyEvent) (w : Working) → q.req ≡ proxy.req → HaveForwarded codes base w
      → HaveForwarded (response.code ∷ codes) base (forwards q sess response w)
  forwards-more q sess response codes base w same have = record {
    here = forwards-at q sess response (forwards_of codes ++ base) w same have.here;
    now_is = forwards-now q sess response w ∙ have.now_is;
  }

  if-forwarded : (new codes : List ℕ) (base : List ProxyEvent) (b : Bool) (x y : Working) → HaveForwarded (new ++ codes) base x → HaveForwarded codes base y
      → HaveForwarded (cond b new [] ++ codes) base (cond b x y)
  if-forwarded new codes base true x y p q = p
  if-forwarded new codes base false x y p q = q

  passes-more : (q : Proxy) (passing : Option Passing) (codes : List ℕ) (base : List ProxyEvent) (w : Working) → q.req ≡ proxy.req → HaveForwarded codes base w
      → HaveForwarded (passed_codes q passing ++ codes) base (passes q passing w)
  unfolding passes passed_codes
  passes-more q None codes base w same have = have
  passes-more q (Some passing) codes base w same have =
      if-forwarded (passing.response.code ∷ []) codes base (can_pass q passing.response) (forwards q passing.sess passing.response w) w
      (forwards-more q passing.sess passing.response codes base w same have) have

  best-more : (q : Proxy) (response : Option Response) (codes : List ℕ) (base : List ProxyEvent) (w : Working) → q.req ≡ proxy.req → HaveForwarded codes base w
      → HaveForwarded (code_of response ++ codes) base (forwards_best q response w)
  unfolding forwards_best code_of
  best-more q None codes base w same have = have
  best-more q (Some response) codes base w same have = forwards-more q q.sess response codes base w same have

  chooses-more : (q : Proxy) (codes : List ℕ) (base : List ProxyEvent) (w : Working) → q.req ≡ proxy.req → HaveForwarded codes base w
      → HaveForwarded (chosen_codes q ++ codes) base (chooses q w)
  unfolding chooses chosen_codes
  chooses-more q codes base w same have =
      if-forwarded (code_of (best_response q.candidates)) codes base (can_choose q) (forwards_best q (best_response q.candidates) w) w
      (best-more q (best_response q.candidates) codes base w same have) have

  if-here : (codes : List ℕ) (base : List ProxyEvent) (b : Bool) (x y : Working) → HaveForwarded codes base x → HaveForwarded codes base y → HaveForwarded codes base (cond b x y)
  if-here codes base true x y p q = p
  if-here codes base false x y p q = q

  closes-more : (q : Proxy) (codes : List ℕ) (base : List ProxyEvent) (w : Working) → HaveForwarded codes base w → HaveForwarded codes base (closes q w)
  unfolding closes
  closes-more q codes base w have =
      if-here codes base (is_exhausted q && is_some q.options) (in_view (record w.play.view { sessions = map (closed_session w.known q.req q.sess) w.play.view.sessions }) w) w
      (record { here = record { at = have.here.at; run = have.here.run }; now_is = have.now_is }) have

  cancels-more : (q : Proxy) (codes : List ℕ) (base : List ProxyEvent) (w : Working) → HaveForwarded codes base w → HaveForwarded codes base (sends_cancels q w)
  unfolding sends_cancels
  cancels-more q codes base w have = record { here = record { at = have.here.at; run = have.here.run }; now_is = have.now_is }

  -- as it is now
  now-is : (events : List ProxyEvent) (w : Working) → IsAt done rest proxy low events w → proxy_now proxy w ≡ proxy_after proxy events
  unfolding proxy_now proxy_of
  now-is events w here = found (proxy_of w.known proxy.req) (ap (find (is_at proxy.req)) here.at ∙ found-there proxy.req done (proxy_after proxy events) rest free (number-is (proxy_after proxy events) (after-req events proxy)))
    where
      number-is : (p : Proxy) → p.req ≡ proxy.req → (p.req.0 == proxy.req.0) ≡ true
      number-is p is = rw is (number-itself proxy.req.0)

      found : (f : Option Proxy) → f ≡ Some (proxy_after proxy events) → unwrap_or f proxy ≡ proxy_after proxy events
      found f is = rw is refl

  now-req : (events : List ProxyEvent) (w : Working) → IsAt done rest proxy low events w → (proxy_now proxy w).req ≡ proxy.req
  now-req events w here = ap (λ (p : Proxy). p.req) (now-is events w here) ∙ after-req events proxy

  -- what it does
  record HasActed (w : Working) : Type 0 where
    ended : List ProxyEvent
    here : IsAt done rest proxy low ended w
    of_end : IsOfEnd now proxy ended
    now_is : w.play.view.now ≡ now

  rests-at : (events : List ProxyEvent) (w : Working) → IsAt done rest proxy low events w
      → IsAt done rest proxy low (Rested ∷ events) (record w { known = change_proxy proxy.req rested w.known })
  unfolding happens IsRun IsStep
  rests-at events w here = record {
    at = moved-at done rest proxy events proxy.req rested Rested w.known free refl here.at refl;
    run = (w.play.view.counter, here.run, up-same w.play.view.counter);
  }

  -- the codes are those that follow from what it was
  codes-are : (base : List ProxyEvent) (waits : Option Passing) (one two : Proxy) → waits ≡ (proxy_after proxy base).passing → one ≡ proxy_after proxy base
      → two ≡ proxy_after proxy (forwards_of (passed_codes one waits) ++ base)
      → chosen_codes two ++ passed_codes one waits ≡ forwarded_codes (proxy_after proxy base)
  unfolding forwarded_codes
  codes-are base waits one two same first second =
      rw (second, after-append (forwards_of (passed_codes one waits)) base proxy, first, same) refl

  ends-as : (numbers codes : List ℕ) → length numbers ≡ length (starting proxy) → codes ≡ forwarded_codes (proxy_after proxy (starts_at now numbers))
      → IsOfEnd now proxy (Rested ∷ (forwards_of codes ++ starts_at now numbers))
  unfolding IsOfEnd
  ends-as numbers codes count is = inr (numbers, count, ap (λ (cs : List ℕ). Rested ∷ (forwards_of cs ++ starts_at now numbers)) is)

  acted-at : (w : Working) → w.play.view.now ≡ now → IsAt done rest proxy low [] w → HasActed (acted config proxy w)
  unfolding acted proxy_after
  acted-at w is start =
      let first = starting-first proxy in
      let begun : Working = fold (started config proxy) w (starting proxy) in
      let one : HaveStarted done rest proxy low now (0 + length (starting proxy)) begun = all-started (starting proxy) config done rest proxy low now [] first.more w free is first.is start in
      let base : List ProxyEvent = starts_at now one.numbers in
      let waits : List ℕ = passed_codes (proxy_now proxy begun) proxy.passing in
      let passed : Working = passes (proxy_now proxy begun) proxy.passing begun in
      let two : HaveForwarded (waits ++ []) base passed =
      passes-more (proxy_now proxy begun) proxy.passing [] base begun (now-req base begun one.here) (record { here = one.here; now_is = one.now_is }) in
      let three : HaveForwarded waits base passed = subst (λ (codes : List ℕ). HaveForwarded codes base passed) (append-nil waits) two in
      let codes : List ℕ = chosen_codes (proxy_now proxy passed) ++ waits in
      let chosen : Working = chooses (proxy_now proxy passed) passed in
      let four : HaveForwarded codes base chosen = chooses-more (proxy_now proxy passed) waits base passed (now-req (forwards_of waits ++ base) passed three.here) three in
      let closed : Working = closes (proxy_now proxy chosen) (sends_cancels proxy chosen) in
      let five : HaveForwarded codes base closed = closes-more (proxy_now proxy chosen) codes base (sends_cancels proxy chosen) (cancels-more proxy codes base chosen four) in
      record {
        ended = Rested ∷ (forwards_of codes ++ base);
        here = rests-at (forwards_of codes ++ base) closed five.here;
        of_end = ends-as one.numbers codes (one.count_is ∙ none-first (length (starting proxy)))
            (codes-are base proxy.passing (proxy_now proxy begun) (proxy_now proxy passed) (sym (starts-passing now one.numbers proxy)) (now-is base begun one.here) (now-is (forwards_of waits ++ base) passed three.here));
        now_is = five.now_is;
      }
    where
      none-first : (n : ℕ) → 0 + n ≡ n
      none-first n = omega arith

  if-acted : (b : Bool) (x y : Working) → HasActed x → HasActed y → HasActed (cond b x y)
  if-acted true x y p q = p
  if-acted false x y p q = q

  acts-at : (w : Working) → w.play.view.now ≡ now → IsAt done rest proxy low [] w → HasActed (acts config w proxy)
  unfolding acts IsOfEnd
  acts-at w is start =
      if-acted (is_invalid w.known proxy.sess) w (acted config proxy w) (record { ended = []; here = start; of_end = inl refl; now_is = is }) (acted-at w is start)

-- ## All of them

-- how one has ended the turn
pub record Ends (low high now : ℕ) (before after : Proxy) : Type 0 where
  pub ended : List ProxyEvent
  pub is : after ≡ proxy_after before ended
  pub run : IsRun low before ended high
  pub of_end : IsOfEnd now before ended

pub record HaveEnded (low now : ℕ) (done rest : List Proxy) (from : ℕ) (w : Working) : Type 0 where
  pub after : List Proxy
  pub is : w.known.proxies ≡ done ++ after
  pub each : Each (Ends low w.play.view.counter now) rest after
  pub up : from ≤ w.play.view.counter

-- each of them is of a number that none of these has
frees : (done : List Proxy) (p : Proxy) (rest : List Proxy) → All (λ (q : Proxy). IsFree q.req.0 done) rest → All (λ (q : Proxy). (q.req.0 == p.req.0) ≡ false) rest
    → All (λ (q : Proxy). IsFree q.req.0 (done ++ p ∷ [])) rest
unfolding All
frees done p [] free other = tt
frees done p (q ∷ rest) free other = (free-append q.req.0 done p free.0 (other-way q.req.0 p.req.0 other.0), frees done p rest free.1 other.1)

all-acted : (rest : List Proxy) (config : Config) (done : List Proxy) (w : Working) (low now : ℕ) → w.known.proxies ≡ done ++ rest → AreSingle rest
    → All (λ (p : Proxy). IsFree p.req.0 done) rest → low ≤ w.play.view.counter → w.play.view.now ≡ now
    → HaveEnded low now done rest w.play.view.counter (fold (acts config) w rest)
unfolding All NumbersApart numbers_of Each proxy_after IsRun
all-acted [] config done w low now is single free up now-is = record { after = []; is = is; each = tt; up = up-same w.play.view.counter }
all-acted (p ∷ rest) config done w low now is single free up now-is =
    let act = acts-at config done rest p free.0 w.play.view.counter now w now-is (record { at = is; run = up-same w.play.view.counter }) in
    let next : Working = acts config w p in
    let q : Proxy = proxy_after p act.ended in
    let higher : w.play.view.counter ≤ next.play.view.counter = run-up w.play.view.counter next.play.view.counter p act.ended act.here.run in
    let other : All (λ (r : Proxy). (r.req.0 == q.req.0) ≡ false) rest = subst (λ (req : ReqId). All (λ (r : Proxy). (r.req.0 == req.0) ≡ false) rest) (sym (after-req act.ended p)) (none-other p.req.0 rest single.0) in
    let all = all-acted rest config (done ++ q ∷ []) next low now (act.here.at ∙ sym (append_assoc done (q ∷ []) rest)) single.1 (frees done q rest free.1 other)
    (up-then low w.play.view.counter next.play.view.counter up higher) act.now_is in
    record {
      after = q ∷ all.after;
      is = all.is ∙ append_assoc done (q ∷ []) all.after;
      each = (
        record {
          ended = act.ended;
          is = refl;
          run = run-lower low w.play.view.counter _ p act.ended up (run-higher w.play.view.counter next.play.view.counter _ p act.ended all.up act.here.run);
          of_end = act.of_end;
        },
        all.each,
      );
      up = up-then w.play.view.counter next.play.view.counter _ higher all.up;
    }

nothing-before : (rest : List Proxy) → All (λ (p : Proxy). IsFree p.req.0 []) rest
unfolding All numbers_of
nothing-before [] = tt
nothing-before (p ∷ rest) = (refl, nothing-before rest)

pub all-end : (config : Config) (w : Working) (low now : ℕ) → AreSingle w.known.proxies → low ≤ w.play.view.counter → w.play.view.now ≡ now
    → HaveEnded low now [] w.known.proxies w.play.view.counter (all_act config w)
unfolding all_act
all-end config w low now single up is = all-acted w.known.proxies config [] w low now refl single (nothing-before w.known.proxies) up is
