-- Whatever happens to a proxied request, its search goes on, or there is a response to be forwarded.
use Rattle.std.proofs.Common.{◌≡◌, ℕ, suc, ◌+◌, ◌++◌, Bool, true, false, None, Some, List, [], ◌∷◌, refl, sym, ap, subst, ◌∙◌, arith}
use Rattle.std.specs.Prelude.{◌==◌, ◌&&◌, ◌||◌, cond, is_none, length, map, not}
use Rattle.std.specs.List.{find, list_any}
use Rattle.std.specs.Option.{option_map_or}
use Rattle.std.proofs.lemmas.Bool.Decides.{nat_tests}
use Rattle.sc_value.specs.Lists.{change_first}
use Rattle.sc_value.specs.declared.ids.SessId.{SessId}
use Rattle.sc_value.specs.declared.message.Response.{Response}
use Rattle.sc_value.specs.declared.parts.Uri.{Uri}
use Rattle.sc_state.specs.declared.proxy.Branch.{Branch}
use Rattle.sc_state.specs.declared.proxy.Proxy.{Proxy}
use Rattle.sc_model.specs.SessionStates.{is_final}
use Rattle.sc_model.specs.Transactions.{is_success}
use Rattle.sc_hosts.specs.Acting.{with_forwarded}
use Rattle.sc_hosts.specs.Branches.{added_targets, after_end, cancelled_branch, ended_branch, ended_by, has_open, proxy_after_response as heard, is_branch, is_global, is_open, new_branch, new_proxy, passing_on, after_ringing as rung, without_search as stopped, to_cancel, with_candidate, with_targets}
use Rattle.sc_lasting.specs.Lasting.{All}
use Rattle.sc_lasting.proofs.Parts.{all-append}
use Rattle.sc_proxied.specs.ProxyLists.{Asked, Expired, Forwarded, Heard, IsHad, PassedOn, ProxyEvent, Rested, Started, Stopped, TimedOut, added_by, happens, is_open_in, is_rest, proxy_after, started_by, tried_of}
use Rattle.sc_proxied.proofs.Happenings.{proxies-stand}
use Rattle.sc_proxying.specs.Proxying.{as_begun}
use Rattle.sc_searched.specs.Searches.{has_answer}
use Rattle.sc_searched.specs.Endings.{is_stop, redirects, was_dropped, was_redirected}
use Rattle.sc_searched.proofs.Best.{AreFinal}
use Rattle.sc_searched.proofs.Ends.{ended-unadded, global-adds, open-same}

-- ## Booleans, lists and codes

pub or-true : (a : Bool) → (a || true) ≡ true
or-true true = refl
or-true false = refl

or-first : (a b : Bool) → a ≡ true → (a || b) ≡ true
or-first a b is = rw is refl

or-last : (a b : Bool) → b ≡ true → (a || b) ≡ true
or-last a b is = rw is (or-true a)

some-longer : (xs ys : List Uri) → (length xs == 0) ≡ false → (length (xs ++ ys) == 0) ≡ false
some-longer [] ys some = cc
some-longer (x ∷ xs) ys some = none (length (xs ++ ys))
  where
    none : (n : ℕ) → (suc n == 0) ≡ false
    none n = grind (arith, nat_tests)

more-longer : (xs ys : List Uri) → (length ys == 0) ≡ false → (length (xs ++ ys) == 0) ≡ false
more-longer [] ys some = some
more-longer (x ∷ xs) ys some = none (length (xs ++ ys))
  where
    none : (n : ℕ) → (suc n == 0) ≡ false
    none n = grind (arith, nat_tests)

length-both : (xs ys : List Uri) → length (xs ++ ys) ≡ length xs + length ys
length-both [] ys = zero-first (length ys)
  where
    zero-first : (n : ℕ) → n ≡ 0 + n
    zero-first n = omega arith
length-both (x ∷ xs) ys = next (length (xs ++ ys)) (length xs) (length ys) (length-both xs ys)
  where
    next : (a b c : ℕ) → a ≡ b + c → suc a ≡ suc b + c
    next a b c is = omega (arith, is)

-- ## Branches

changed-open : (test : Branch → Bool) (change : Branch → Branch) (bs : List Branch) → ((b : Branch) → is_open (change b) ≡ is_open b)
    → list_any is_open (change_first test change bs) ≡ list_any is_open bs
unfolding change_first
changed-open test change [] same = refl
changed-open test change (b ∷ bs) same = by (test b) (same b) (changed-open test change bs same)
  where
    by : (c : Bool) → is_open (change b) ≡ is_open b → list_any is_open (change_first test change bs) ≡ list_any is_open bs
        → list_any is_open (cond c (change b ∷ bs) (b ∷ change_first test change bs)) ≡ (is_open b || list_any is_open bs)
    by true one more = ap (λ (o : Bool). o || list_any is_open bs) one
    by false one more = ap (λ (o : Bool). is_open b || o) more

changed-some : (test : Branch → Bool) (change : Branch → Branch) (bs : List Branch) → (length bs == 0) ≡ true → (length (change_first test change bs) == 0) ≡ true
unfolding change_first
changed-some test change [] none = refl
changed-some test change (b ∷ bs) none = absurd (clash (length bs) none)
  where
    clash : (n : ℕ) → (suc n == 0) ≡ true → ⊥
    clash n is = grind (arith, nat_tests, is)

each-some : (change : Branch → Branch) (bs : List Branch) → (length bs == 0) ≡ true → (length (map change bs) == 0) ≡ true
each-some change [] none = refl
each-some change (b ∷ bs) none = absurd (clash (length bs) none)
  where
    clash : (n : ℕ) → (suc n == 0) ≡ true → ⊥
    clash n is = grind (arith, nat_tests, is)

pub last-open : (bs : List Branch) (b : Branch) → is_open b ≡ true → list_any is_open (bs ++ b ∷ []) ≡ true
last-open [] b is = rw is refl
last-open (x ∷ bs) b is = or-last (is_open x) (list_any is_open (bs ++ b ∷ [])) (last-open bs b is)

found-open : (n : ℕ) (bs : List Branch) → option_map_or is_open (find (is_branch n) bs) false ≡ true → list_any is_open bs ≡ true
found-open n [] is = cc
found-open n (b ∷ bs) is = by (is_branch n b) is (λ later. or-last (is_open b) (list_any is_open bs) (found-open n bs later))
  where
    by : (c : Bool) → option_map_or is_open (cond c (Some b) (find (is_branch n) bs)) false ≡ true
        → (option_map_or is_open (find (is_branch n) bs) false ≡ true → (is_open b || list_any is_open bs) ≡ true) → (is_open b || list_any is_open bs) ≡ true
    by true here more = or-first (is_open b) (list_any is_open bs) here
    by false here more = more here

-- ## The final response of a branch

module _ (n : ℕ) (sess : SessId) (response : Response) (p : Proxy) where
  abbrev after : Proxy
  after = with_targets (added_targets p response) (with_candidate response (ended_branch n response.code p))

  candidate-tried : (b : Bool) (x : Proxy) → (cond b x (record x { candidates = x.candidates ++ response ∷ [] })).tried ≡ x.tried
  candidate-tried true x = refl
  candidate-tried false x = refl

  if-part : {A : Type 0} (part : Proxy → A) (b : Bool) (x y : Proxy) (z : A) → part x ≡ z → part y ≡ z → part (cond b x y) ≡ z
  if-part part true x y z here there = here
  if-part part false x y z here there = there

  after-tried : after.tried ≡ p.tried ++ added_targets p response
  unfolding with_targets with_candidate ended_branch
  after-tried = ap (λ (us : List Uri). us ++ added_targets p response) (candidate-tried _ _)

  ended-tried : (ended_by n sess response p).tried ≡ p.tried ++ added_targets p response
  unfolding ended_by passing_on stopped
  ended-tried =
      if-part (λ (x : Proxy). x.tried) (is_success response.code) (passing_on sess response (stopped after)) (cond (is_global response.code) (stopped after) after) (p.tried ++ added_targets p response) after-tried
      (if-part (λ (x : Proxy). x.tried) (is_global response.code) (stopped after) after (p.tried ++ added_targets p response) after-tried after-tried)

  -- the targets that it adds wait, but for a 6xx, which adds none
  ended-waits : is_success response.code ≡ false → (length (added_targets p response) == 0) ≡ false → (length (ended_by n sess response p).targets == 0) ≡ false
  unfolding ended_by with_targets
  ended-waits other some = rw other (by (is_global response.code) refl)
    where
      none-of : (us : List Uri) → us ≡ [] → (length us == 0) ≡ false → ⊥
      none-of [] is some = cc
      none-of (u ∷ us) is some = cc

      by : (g : Bool) → is_global response.code ≡ g → (length (cond g (stopped after) after).targets == 0) ≡ false
      by true is = absurd (none-of (added_targets p response) (global-adds p response is) some)
      by false is = more-longer (with_candidate response (ended_branch n response.code p)).targets (added_targets p response) some

  -- a 2xx waits to be forwarded
  ended-passes : is_success response.code ≡ true → has_answer (ended_by n sess response p) ≡ true
  unfolding ended_by has_answer passing_on
  ended-passes is = rw (is, is) (or-true _)

  if-final : (b : Bool) (x y : Proxy) → AreFinal x.candidates → AreFinal y.candidates → AreFinal (cond b x y).candidates
  if-final true x y here there = here
  if-final false x y here there = there

  after-finals : is_final response.code ≡ true → AreFinal p.candidates → AreFinal after.candidates
  unfolding with_targets with_candidate ended_branch
  after-finals final all =
      let x : Proxy = ended_branch n response.code p in
      if-final (is_success response.code || not (length (added_targets x response) == 0)) x (record x { candidates = x.candidates ++ response ∷ [] }) all
      (all-append (λ (r : Response). is_final r.code ≡ true) p.candidates response all final)

  ended-finals : is_final response.code ≡ true → AreFinal p.candidates → AreFinal (ended_by n sess response p).candidates
  unfolding ended_by passing_on stopped
  ended-finals final all =
      let more = after-finals final all in
      if-final (is_success response.code) (passing_on sess response (stopped after)) (cond (is_global response.code) (stopped after) after) more
      (if-final (is_global response.code) (stopped after) after more more)

-- ## What is so at each point of the list

-- the search has not begun, goes on or was dropped, or there is a response to be forwarded
pub data Going (first : Proxy) (events : List ProxyEvent) : Type 0 where
  Unstarted : (length (proxy_after first events).branches == 0) ≡ true → Going first events
  Open : has_open (proxy_after first events) ≡ true → Going first events
  Answered : has_answer (proxy_after first events) ≡ true → Going first events
  Dropped : was_dropped first events ≡ true → Going first events
  Followed : was_redirected first events ≡ true → (length (proxy_after first events).targets == 0) ≡ false → Going first events

pub record Stands (first : Proxy) (events : List ProxyEvent) : Type 0 where
  pub going : Going first events
  pub finals : AreFinal (proxy_after first events).candidates

-- within a turn; the time of a branch that is up is told as a 408
unfoldable pub IsWithin : ProxyEvent → Type 0
IsWithin (TimedOut number sess response) = response.code ≡ 408
IsWithin Rested = ⊥
IsWithin event = Unit {0}

pub earlier-had : (first : Proxy) (event : ProxyEvent) (events : List ProxyEvent) → IsHad first (event ∷ events) → IsHad first events
unfolding IsHad
earlier-had first (Asked uris) events had = had
earlier-had first Stopped events had = had
earlier-had first (Started number now) events had = had.2
earlier-had first (PassedOn number) events had = had.1
earlier-had first (Heard number sess response now) events had = had
earlier-had first (TimedOut number sess response) events had = had
earlier-had first (Expired number) events had = had
earlier-had first (Forwarded code) events had = had
earlier-had first Rested events had = had

module _ (q : Proxy) where
  abbrev first : Proxy
  first = as_begun q

  -- the event starts no branch, and leaves what there is
  record IsQuiet (event : ProxyEvent) (events : List ProxyEvent) (p : Proxy) : Type 0 where
    none : (length (started_by event) == 0) ≡ true
    rest : is_rest event ≡ false
    branches : (length (proxy_after first events).branches == 0) ≡ true → (length p.branches == 0) ≡ true
    opened : has_open (proxy_after first events) ≡ true → has_open p ≡ true
    answer : has_answer (proxy_after first events) ≡ true → has_answer p ≡ true
    targets : (length (proxy_after first events).targets == 0) ≡ false → (length p.targets == 0) ≡ false

  dropped-next : (event : ProxyEvent) (events : List ProxyEvent) → (length (started_by event) == 0) ≡ true → was_dropped first events ≡ true → was_dropped first (event ∷ events) ≡ true
  unfolding was_dropped
  dropped-next event events none is = rw (none, is) (or-true _)

  redirected-next : (event : ProxyEvent) (events : List ProxyEvent) → is_rest event ≡ false → was_redirected first events ≡ true → was_redirected first (event ∷ events) ≡ true
  unfolding was_redirected
  redirected-next event events rest is = rw (rest, is) (or-true _)

  quiet-goes : (event : ProxyEvent) (events : List ProxyEvent) (p : Proxy) → proxy_after first (event ∷ events) ≡ p → IsQuiet event events p → Going first events → Going first (event ∷ events)
  quiet-goes event events p same quiet (Unstarted is) = Unstarted (rw same (quiet.branches is))
  quiet-goes event events p same quiet (Open is) = Open (rw same (quiet.opened is))
  quiet-goes event events p same quiet (Answered is) = Answered (rw same (quiet.answer is))
  quiet-goes event events p same quiet (Dropped is) = Dropped (dropped-next event events quiet.none is)
  quiet-goes event events p same quiet (Followed is some) = Followed (redirected-next event events quiet.rest is) (rw same (quiet.targets some))

  -- the same proxy
  same-quiet : (event : ProxyEvent) (events : List ProxyEvent) → (length (started_by event) == 0) ≡ true → is_rest event ≡ false → IsQuiet event events (proxy_after first events)
  same-quiet event events none rest = record {
    none = none;
    rest = rest;
    branches = λ is. is;
    opened = λ is. is;
    answer = λ is. is;
    targets = λ is. is;
  }

  module _ (events : List ProxyEvent) (stands : Stands first events) where
    abbrev p : Proxy
    p = proxy_after first events

    asked-stands : (uris : List Uri) → Stands first (Asked uris ∷ events)
    unfolding happens with_targets has_answer proxy_after started_by is_rest
    asked-stands uris = record {
      going = quiet-goes (Asked uris) events (with_targets uris p) refl
          (record { none = refl; rest = refl; branches = λ is. is; opened = λ is. is; answer = λ is. is; targets = λ is. some-longer p.targets uris is }) stands.going;
      finals = stands.finals;
    }

    stops-dropped : was_redirected first events ≡ true → was_dropped first (Stopped ∷ events) ≡ true
    unfolding was_dropped is_stop started_by
    stops-dropped is = rw is refl

    stopped-goes : Going first events → Going first (Stopped ∷ events)
    unfolding happens stopped has_answer proxy_after started_by
    stopped-goes (Unstarted is) = Unstarted (each-some cancelled_branch p.branches is)
    stopped-goes (Open is) = Open (open-same p.branches ∙ is)
    stopped-goes (Answered is) = Answered is
    stopped-goes (Dropped is) = Dropped (dropped-next Stopped events refl is)
    stopped-goes (Followed is some) = Dropped (stops-dropped is)

    stopped-stands : Stands first (Stopped ∷ events)
    unfolding happens stopped proxy_after
    stopped-stands = record { going = stopped-goes stands.going; finals = stands.finals }

    started-stands : (number now : ℕ) → Stands first (Started number now ∷ events)
    unfolding happens new_branch proxy_after
    started-stands number now = record { going = Open (last-open p.branches (new_branch p number now) refl); finals = stands.finals }

    passed-stands : (number : ℕ) → Stands first (PassedOn number ∷ events)
    unfolding happens proxy_after
    passed-stands number = record { going = Open (last-open p.branches _ refl); finals = stands.finals }

    expired-by : (number : ℕ) (b : Bool) → is_open_in number p ≡ b → Stands first (Expired number ∷ events)
    unfolding happens to_cancel has_answer proxy_after started_by is_rest
    expired-by number true is =
        let same : proxy_after first (Expired number ∷ events) ≡ to_cancel number p = rw is refl in record {
          going = quiet-goes (Expired number) events (to_cancel number p) same
              (record {
                none = refl;
                rest = refl;
                branches = λ none. changed-some (is_branch number) (λ branch. record branch { cancelled = true; due = None }) p.branches none;
                opened = λ some. changed-open (is_branch number) (λ branch. record branch { cancelled = true; due = None }) p.branches (λ branch. refl) ∙ some;
                answer = λ some. some;
                targets = λ some. some;
              }) stands.going;
          finals = subst (λ (x : Proxy). AreFinal x.candidates) (sym same) stands.finals;
        }
    expired-by number false is =
        let same : proxy_after first (Expired number ∷ events) ≡ p = rw is refl in record {
          going = quiet-goes (Expired number) events p same (same-quiet (Expired number) events refl refl) stands.going;
          finals = subst (λ (x : Proxy). AreFinal x.candidates) (sym same) stands.finals;
        }

    forwarded-by : (code : ℕ) (b : Bool) → (is_final code && is_none p.forwarded) ≡ b → Stands first (Forwarded code ∷ events)
    unfolding happens with_forwarded has_answer proxy_after started_by is_rest
    forwarded-by code true is =
        let same : proxy_after first (Forwarded code ∷ events) ≡ record p { forwarded = Some code } = rw is refl in record {
          going = quiet-goes (Forwarded code) events (record p { forwarded = Some code }) same
              (record { none = refl; rest = refl; branches = λ none. none; opened = λ some. some; answer = λ some. refl; targets = λ some. some }) stands.going;
          finals = subst (λ (x : Proxy). AreFinal x.candidates) (sym same) stands.finals;
        }
    forwarded-by code false is =
        let same : proxy_after first (Forwarded code ∷ events) ≡ p = rw is refl in record {
          going = quiet-goes (Forwarded code) events p same (same-quiet (Forwarded code) events refl refl) stands.going;
          finals = subst (λ (x : Proxy). AreFinal x.candidates) (sym same) stands.finals;
        }

    -- what it is next, where there is a response to be forwarded
    answered-stands : (event : ProxyEvent) (x : Proxy) → proxy_after first (event ∷ events) ≡ x → has_answer x ≡ true → AreFinal x.candidates → Stands first (event ∷ events)
    answered-stands event x same answer finals = record {
      going = Answered (rw same answer);
      finals = subst (λ (y : Proxy). AreFinal y.candidates) (sym same) finals;
    }

    -- nothing changes
    left-stands : (event : ProxyEvent) → proxy_after first (event ∷ events) ≡ p → (length (started_by event) == 0) ≡ true → is_rest event ≡ false → Stands first (event ∷ events)
    left-stands event same none rest = record {
      going = quiet-goes event events p same (same-quiet event events none rest) stands.going;
      finals = subst (λ (y : Proxy). AreFinal y.candidates) (sym same) stands.finals;
    }

    -- a response on a branch that has its final response
    passing-answer : (sess : SessId) (response : Response) (x : Proxy) → is_success response.code ≡ true → has_answer (passing_on sess response x) ≡ true
    unfolding has_answer passing_on
    passing-answer sess response x is = rw is (or-true _)

    passing-finals : (sess : SessId) (response : Response) → AreFinal (passing_on sess response (stopped p)).candidates
    unfolding passing_on stopped
    passing-finals sess response = stands.finals

    late-by : (number : ℕ) (sess : SessId) (response : Response) (now : ℕ) (s : Bool) → is_success response.code ≡ s
        → proxy_after first (Heard number sess response now ∷ events) ≡ after_end sess response p → Stands first (Heard number sess response now ∷ events)
    unfolding after_end started_by is_rest
    late-by number sess response now true is same =
        answered-stands (Heard number sess response now) (passing_on sess response (stopped p)) (same ∙ rw is refl) (passing-answer sess response (stopped p) is) (passing-finals sess response)
    late-by number sess response now false is same = left-stands (Heard number sess response now) (same ∙ rw is refl) refl refl

    -- a provisional response: its branch is open still
    rung-stands : (number : ℕ) (sess : SessId) (response : Response) (now : ℕ) → is_open_in number p ≡ true
        → proxy_after first (Heard number sess response now ∷ events) ≡ passing_on sess response (rung number now p) → Stands first (Heard number sess response now ∷ events)
    unfolding passing_on rung
    rung-stands number sess response now running same = record {
      going = Open (rw same (changed-open (is_branch number) _ p.branches (λ branch. refl) ∙ found-open number p.branches running));
      finals = subst (λ (y : Proxy). AreFinal y.candidates) (sym same) stands.finals;
    }

    -- the first final response of a branch
    ended-by : (event : ProxyEvent) (number : ℕ) (sess : SessId) (response : Response) → is_final response.code ≡ true
        → proxy_after first (event ∷ events) ≡ ended_by number sess response p
        → ((length (added_targets p response) == 0) ≡ false → was_redirected first (event ∷ events) ≡ true) → (s a : Bool) → is_success response.code ≡ s
        → (length (added_targets p response) == 0) ≡ a → Stands first (event ∷ events)
    ended-by event number sess response final same follows true a is adds =
        answered-stands event (ended_by number sess response p) same (ended-passes number sess response p is) (ended-finals number sess response p final stands.finals)
    ended-by event number sess response final same follows false true is adds =
        answered-stands event (ended_by number sess response p) same (ended-unadded number sess response p adds) (ended-finals number sess response p final stands.finals)
    ended-by event number sess response final same follows false false is adds = record {
      going = Followed (follows adds) (rw same (ended-waits number sess response p is adds));
      finals = subst (λ (y : Proxy). AreFinal y.candidates) (sym same) (ended-finals number sess response p final stands.finals);
    }

    -- the targets that it adds are those that the list says
    same-length : (xs ys zs us vs : List Uri) → xs ≡ ys ++ us → xs ≡ zs ++ vs → ys ≡ zs → length us ≡ length vs
    same-length xs ys zs us vs one two three =
        cut (length ys) (length zs) (length us) (length vs) (sym (length-both ys us) ∙ ap (λ (l : List Uri). length l) (sym one ∙ two) ∙ length-both zs vs) (ap (λ (l : List Uri). length l) three)
      where
        cut : (a b c d : ℕ) → a + c ≡ b + d → a ≡ b → c ≡ d
        cut a b c d sums same = omega (arith, sums, same)

    adds-as : (number : ℕ) (sess : SessId) (response : Response) (now : ℕ) → IsHad first (Heard number sess response now ∷ events)
        → proxy_after first (Heard number sess response now ∷ events) ≡ ended_by number sess response p
        → length (added_targets p response) ≡ length (added_by first (tried_of first events) events (Heard number sess response now))
    unfolding tried_of
    adds-as number sess response now had same =
        let event : ProxyEvent = Heard number sess response now in
        same-length (proxy_after first (event ∷ events)).tried p.tried (tried_of first events) (added_targets p response) (added_by first (tried_of first events) events event)
        (ap (λ (x : Proxy). x.tried) same ∙ ended-tried number sess response p)
        (proxies-stand q.req q.sess q.event q.request q.options (event ∷ events) had).tried
        (proxies-stand q.req q.sess q.event q.request q.options events (earlier-had first event events had)).tried

    follows-by : (number : ℕ) (sess : SessId) (response : Response) (now : ℕ) → IsHad first (Heard number sess response now ∷ events)
        → proxy_after first (Heard number sess response now ∷ events) ≡ ended_by number sess response p
        → (length (added_targets p response) == 0) ≡ false → was_redirected first (Heard number sess response now ∷ events) ≡ true
    unfolding was_redirected redirects is_rest
    follows-by number sess response now had same some = rw (← adds-as number sess response now had same, some) refl

    heard-by : (number : ℕ) (sess : SessId) (response : Response) (now : ℕ) → IsHad first (Heard number sess response now ∷ events) → (running final : Bool)
        → is_open_in number p ≡ running → is_final response.code ≡ final → Stands first (Heard number sess response now ∷ events)
    unfolding happens heard proxy_after
    heard-by number sess response now had false final is fin = late-by number sess response now (is_success response.code) refl (rw is refl)
    heard-by number sess response now had true false is fin = rung-stands number sess response now is (rw (is, fin) refl)
    heard-by number sess response now had true true is fin =
        let same : proxy_after first (Heard number sess response now ∷ events) ≡ ended_by number sess response p = rw (is, fin) refl in
        ended-by (Heard number sess response now) number sess response fin same (follows-by number sess response now had same) (is_success response.code) (length (added_targets p response) == 0) refl refl

    -- the time of a branch was up
    none-added : (response : Response) → response.code ≡ 408 → added_targets p response ≡ []
    unfolding added_targets
    none-added response is = rw is refl

    timed-by : (number : ℕ) (sess : SessId) (response : Response) → response.code ≡ 408 → (running : Bool) → is_open_in number p ≡ running → Stands first (TimedOut number sess response ∷ events)
    unfolding happens proxy_after started_by is_rest
    timed-by number sess response code false is = left-stands (TimedOut number sess response) (rw is refl) refl refl
    timed-by number sess response code true is =
        let none : (length (added_targets p response) == 0) ≡ true = ap (λ (us : List Uri). length us == 0) (none-added response code) in
        answered-stands (TimedOut number sess response) (ended_by number sess response p) (rw is refl) (ended-unadded number sess response p none)
        (ended-finals number sess response p (rw code refl) stands.finals)

  -- whatever happens within a turn
  next-stands : (event : ProxyEvent) (events : List ProxyEvent) → IsHad first (event ∷ events) → IsWithin event → Stands first events → Stands first (event ∷ events)
  unfolding IsWithin
  next-stands (Asked uris) events had within stands = asked-stands events stands uris
  next-stands Stopped events had within stands = stopped-stands events stands
  next-stands (Started number now) events had within stands = started-stands events stands number now
  next-stands (PassedOn number) events had within stands = passed-stands events stands number
  next-stands (Heard number sess response now) events had within stands =
      heard-by events stands number sess response now had (is_open_in number (proxy_after first events)) (is_final response.code) refl refl
  next-stands (TimedOut number sess response) events had within stands = timed-by events stands number sess response within (is_open_in number (proxy_after first events)) refl
  next-stands (Expired number) events had within stands = expired-by events stands number (is_open_in number (proxy_after first events)) refl
  next-stands (Forwarded code) events had within stands = forwarded-by events stands code (is_final code && is_none (proxy_after first events).forwarded) refl
  next-stands Rested events had within stands = absurd within

  pub within-stands : (later events : List ProxyEvent) → IsHad first (later ++ events) → All IsWithin later → Stands first events → Stands first (later ++ events)
  unfolding All
  within-stands [] events had within stands = stands
  within-stands (event ∷ later) events had within stands =
      next-stands event (later ++ events) had within.0 (within-stands later events (earlier-had first event (later ++ events) had) within.1 stands)

  -- as it becomes proxied
  pub first-stands : Stands first []
  unfolding proxy_after new_proxy All
  first-stands = record { going = Unstarted refl; finals = tt }
