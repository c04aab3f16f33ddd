-- Whatever happens to a proxied request, it is what the functions of the list say.
use Rattle.std.proofs.Common.{◌≡◌, ◌≤◌, ◌<◌, ℕ, ◌+◌, ◌++◌, Bool, true, false, Option, None, Some, List, [], ◌∷◌, refl, sym, ap, subst, ◌∙◌, arith, append-nil}
use Rattle.std.specs.Prelude.{◌==◌, ◌&&◌, ◌||◌, cond, drop, filter, is_none, length, map, nat_le, not}
use Rattle.std.specs.List.{list_any}
use Rattle.std.specs.Option.{option_or}
use Rattle.std.proofs.lemmas.Bool.Decides.{nat_tests}
use Rattle.sc_value.specs.Lists.{change_first}
use Rattle.sc_value.specs.declared.ids.ReqId.{ReqId}
use Rattle.sc_value.specs.declared.ids.SessId.{SessId}
use Rattle.sc_value.specs.declared.message.Request.{Request}
use Rattle.sc_value.specs.declared.message.Response.{Response}
use Rattle.sc_value.specs.declared.parts.Uri.{Uri}
use Rattle.sc_terms.specs.declared.calls.ProxyOptions.{ProxyOptions}
use Rattle.sc_state.specs.declared.proxy.Branch.{Branch}
use Rattle.sc_state.specs.declared.proxy.Proxy.{Proxy}
use Rattle.sc_model.specs.SessionStates.{is_final}
use Rattle.sc_model.specs.Transactions.{first_in_time, is_success}
use Rattle.sc_hosts.specs.Acting.{at_rest as rested, rested_branch, with_forwarded}
use Rattle.sc_hosts.specs.Branches.{added_targets, after_end, cancelled_branch, ended_branch, ended_by, proxy_after_response as heard, is_branch, is_global, is_open, new_branch, new_proxy, passing_on, recurses, after_ringing as rung, without_search as stopped, to_cancel, with_candidate, with_end, with_targets}
use Rattle.sc_proxied.specs.ProxyLists.{Asked, Expired, Forwarded, Heard, IsHad, IsOfList, PassedOn, ProxyEvent, Rested, Started, Stopped, TimedOut, added_by, added_since, candidate_by, candidates_of, cancelled_of, counts, ends_all, final_by, final_of, contacts_to_follow as followed, forwarded_by, forwarded_of, happens, is_cancelled, is_expiry_of, is_open_at, is_open_in, is_rest, is_settled, proxy_after, started_by, started_of, stops, taken_by, taken_since, targets_of, tried_of, was_started}
use Rattle.sc_proxied.proofs.Lists.{AllOf, AreApart, AreOf, IsBranchOf, NumbersApart, all-of, append-numbers, apart-of, closed-final, drop-more, drop-next, each-number, each-of, equal, final-same, first-numbers, first-of, forwarded-next, kept-numbers, longer, more-of, never-both, number-itself, number_of, numbers-more, open-final, open-is, or-none, other-way, settled-next, started-next, unstarted-cancelled, unstarted-final}

-- what the proxy is as the list says, with what the list leaves room for
record Stands (first proxy : Proxy) (events : List ProxyEvent) : Type 0 where
  options : proxy.options ≡ first.options
  tried : proxy.tried ≡ tried_of first events
  targets : proxy.targets ≡ targets_of first events
  settled : proxy.settled ≡ is_settled events
  candidates : proxy.candidates ≡ candidates_of first events
  forwarded : proxy.forwarded ≡ forwarded_of events
  room : taken_since events ≤ length (added_since first events)
  numbers : map number_of proxy.branches ≡ started_of events
  apart : NumbersApart (started_of events)
  are : AreOf events proxy.branches

none-or : (f : Option ℕ) → f ≡ option_or f None
none-or None = refl
none-or (Some n) = refl

or-true : (b : Bool) → (b || true) ≡ true
or-true true = refl
or-true false = refl

unlisted : (number : ℕ) (events : List ProxyEvent) → was_started number events ≡ false → list_any (λ n. n == number) (started_of events) ≡ false
unfolding was_started
unlisted number events is = is

-- ## One event more, that starts no branch

no-more : (n : ℕ) → n + 0 ≡ n
no-more n = omega arith

targets-by : (stop : Bool) (since : ℕ) (added new : List Uri) → since ≤ length added
    → drop (cond stop 0 (since + 0)) (cond stop [] (added ++ new)) ≡ cond stop [] (drop since added ++ new)
targets-by true since added new room = refl
targets-by false since added new room = ap (λ (n : ℕ). drop n (added ++ new)) (no-more since) ∙ sym (drop-more since added new room)

room-by : (stop : Bool) (since : ℕ) (added new : List Uri) → since ≤ length added
    → cond stop 0 (since + 0) ≤ length (cond stop [] (added ++ new))
room-by true since added new room = omega arith
room-by false since added new room = subst (λ (n : ℕ). n ≤ length (added ++ new)) (sym (no-more since)) (longer since added new room)

-- what starts no branch takes no target
none-taken : (event : ProxyEvent) → started_by event ≡ [] → taken_by event ≡ 0
unfolding started_by taken_by
none-taken (Asked uris) none = refl
none-taken Stopped none = refl
none-taken (Started number now) none = cc
none-taken (PassedOn number) none = refl
none-taken (Heard number sess response now) none = refl
none-taken (TimedOut number sess response) none = refl
none-taken (Expired number) none = refl
none-taken (Forwarded code) none = refl
none-taken Rested none = refl

module _ (first : Proxy) where
  stands-next : (proxy after : Proxy) (event : ProxyEvent) (events : List ProxyEvent) → Stands first proxy events → started_by event ≡ []
      → after.options ≡ proxy.options → after.tried ≡ proxy.tried ++ added_by first (tried_of first events) events event
      → after.targets ≡ cond (stops events event) [] (proxy.targets ++ added_by first (tried_of first events) events event)
      → after.settled ≡ (proxy.settled || stops events event) → after.candidates ≡ proxy.candidates ++ candidate_by first events event
      → after.forwarded ≡ option_or proxy.forwarded (forwarded_by event) → map number_of after.branches ≡ map number_of proxy.branches
      → AreOf (event ∷ events) after.branches → Stands first after (event ∷ events)
  unfolding tried_of targets_of candidates_of started_of taken_since added_since
  stands-next proxy after event events stands none options tried targets settled candidates forwarded numbers are = record {
    options = options ∙ stands.options;
    tried = tried ∙ ap (λ (us : List Uri). us ++ added_by first (tried_of first events) events event) stands.tried;
    targets = targets ∙ ap (λ (us : List Uri). cond (stops events event) [] (us ++ added_by first (tried_of first events) events event)) stands.targets
        ∙ sym (targets-by (stops events event) (taken_since events) (added_since first events) (added_by first (tried_of first events) events event) stands.room)
        ∙ ap (λ (n : ℕ). drop (cond (stops events event) 0 (taken_since events + n)) (cond (stops events event) [] (added_since first events ++ added_by first (tried_of first events) events event))) (sym (none-taken event none));
    settled = settled ∙ ap (λ b. b || stops events event) stands.settled ∙ sym (settled-next event events);
    candidates = candidates ∙ ap (λ (rs : List Response). rs ++ candidate_by first events event) stands.candidates;
    forwarded = forwarded ∙ ap (λ (f : Option ℕ). option_or f (forwarded_by event)) stands.forwarded ∙ sym (forwarded-next event events);
    room = subst (λ (n : ℕ). cond (stops events event) 0 (taken_since events + n) ≤ length (cond (stops events event) [] (added_since first events ++ added_by first (tried_of first events) events event))) (sym (none-taken event none))
        (room-by (stops events event) (taken_since events) (added_since first events) (added_by first (tried_of first events) events event) stands.room);
    numbers = numbers ∙ stands.numbers ∙ sym (append-nil (started_of events)) ∙ ap (λ (ns : List ℕ). started_of events ++ ns) (sym none);
    apart = subst NumbersApart (sym (append-nil (started_of events)) ∙ ap (λ (ns : List ℕ). started_of events ++ ns) (sym none)) stands.apart;
    are = are;
  }

  -- ## Branches that the event leaves

  started-more : (number : ℕ) (event : ProxyEvent) (events : List ProxyEvent) → was_started number events ≡ true
      → was_started number (event ∷ events) ≡ true
  started-more number event events is = started-next number event events ∙ rw is refl

  cancel-quiet : (number : ℕ) (event : ProxyEvent) (events : List ProxyEvent) → is_rest event ≡ false → stops events event ≡ false
      → is_expiry_of number event ≡ false → is_cancelled number (event ∷ events) ≡ is_cancelled number events
  unfolding is_cancelled
  cancel-quiet number event events rest stop expiry = rw (rest, stop, expiry) (ap (λ b. b || is_cancelled number events) (never-both (was_started number events)))

  branch-same : (event : ProxyEvent) (events : List ProxyEvent) (branch : Branch) → final_of branch.number (event ∷ events) ≡ final_of branch.number events
      → is_cancelled branch.number (event ∷ events) ≡ is_cancelled branch.number events → IsBranchOf events branch → IsBranchOf (event ∷ events) branch
  branch-same event events branch final cancel is = record {
    started = started-more branch.number event events is.started;
    ended = is.ended ∙ sym final;
    cancelled = is.cancelled ∙ ap (λ b. is_open branch && b) (sym cancel);
  }

  -- an event that says nothing of any branch
  all-same : (event : ProxyEvent) (events : List ProxyEvent) (branches : List Branch) → ((number : ℕ) → final_of number (event ∷ events) ≡ final_of number events)
      → ((number : ℕ) → is_cancelled number (event ∷ events) ≡ is_cancelled number events) → AreOf events branches → AreOf (event ∷ events) branches
  all-same event events branches final cancel are =
      all-of (IsBranchOf events) (IsBranchOf (event ∷ events)) branches (λ branch is. branch-same event events branch (final branch.number) (cancel branch.number) is) are

  -- ## The search ends

  record HasEnded (event : ProxyEvent) (events : List ProxyEvent) (branch : Branch) : Type 0 where
    was : was_started branch.number events ≡ true
    ended : branch.ended ≡ final_of branch.number (event ∷ events)

  cancel-now : (number : ℕ) (event : ProxyEvent) (events : List ProxyEvent) → was_started number events ≡ true → is_rest event ≡ false
      → stops events event ≡ true → is_cancelled number (event ∷ events) ≡ true
  unfolding is_cancelled
  cancel-now number event events was rest stop = rw (rest, stop, was) refl

  stop-branch : (event : ProxyEvent) (events : List ProxyEvent) → is_rest event ≡ false → stops events event ≡ true → (branch : Branch)
      → HasEnded event events branch → IsBranchOf (event ∷ events) (cancelled_branch branch)
  unfolding cancelled_branch
  stop-branch event events rest stop branch has = by (is_none branch.ended) refl
    where
      by : (b : Bool) → is_none branch.ended ≡ b → IsBranchOf (event ∷ events) (cond b (record branch { cancelled = true }) branch)
      by true at = record {
        started = started-more branch.number event events has.was;
        ended = has.ended;
        cancelled = ap (λ b. is_open branch && b) (sym (cancel-now branch.number event events has.was rest stop));
      }
      by false at = record { started = started-more branch.number event events has.was; ended = has.ended; cancelled = rw at refl }

  stop-number : (branch : Branch) → (cancelled_branch branch).number ≡ branch.number
  unfolding cancelled_branch
  stop-number branch = by (is_none branch.ended)
    where
      by : (b : Bool) → (cond b (record branch { cancelled = true }) branch).number ≡ branch.number
      by true = refl
      by false = refl

  -- ## Asked, stopped, forwarded, rested

  asked-stands : (uris : List Uri) (proxy : Proxy) (events : List ProxyEvent) → Stands first proxy events
      → Stands first (happens (Asked uris) proxy) (Asked uris ∷ events)
  unfolding happens with_targets added_by candidate_by stops started_by forwarded_by final_by is_rest is_expiry_of
  asked-stands uris proxy events stands =
      stands-next proxy (with_targets uris proxy) (Asked uris) events stands refl refl refl refl (sym (or-none proxy.settled)) (sym (append-nil proxy.candidates)) (none-or proxy.forwarded) refl
      (all-same (Asked uris) events proxy.branches (λ number. final-same number (Asked uris) events refl) (λ number. cancel-quiet number (Asked uris) events refl refl refl) stands.are)

  stopped-stands : (proxy : Proxy) (events : List ProxyEvent) → Stands first proxy events → Stands first (happens Stopped proxy) (Stopped ∷ events)
  unfolding happens stopped added_by candidate_by stops started_by forwarded_by final_by is_rest
  stopped-stands proxy events stands =
      stands-next proxy (stopped proxy) Stopped events stands refl refl (sym (append-nil proxy.tried)) refl (sym (or-true proxy.settled)) (sym (append-nil proxy.candidates)) (none-or proxy.forwarded)
      (each-number cancelled_branch proxy.branches stop-number)
      (each-of (HasEnded Stopped events) (IsBranchOf (Stopped ∷ events)) proxy.branches cancelled_branch (stop-branch Stopped events refl refl)
      (all-of (IsBranchOf events) (HasEnded Stopped events) proxy.branches (λ branch is. record { was = is.started; ended = is.ended ∙ sym (final-same branch.number Stopped events refl) }) stands.are))

  rested-stands : (proxy : Proxy) (events : List ProxyEvent) → Stands first proxy events → Stands first (happens Rested proxy) (Rested ∷ events)
  unfolding happens rested rested_branch added_by candidate_by stops started_by forwarded_by final_by is_rest is_cancelled
  rested-stands proxy events stands =
      stands-next proxy (rested proxy) Rested events stands refl refl (sym (append-nil proxy.tried)) (sym (append-nil proxy.targets)) (sym (or-none proxy.settled)) (sym (append-nil proxy.candidates)) (none-or proxy.forwarded)
      (each-number rested_branch proxy.branches (λ branch. refl))
      (each-of (IsBranchOf events) (IsBranchOf (Rested ∷ events)) proxy.branches rested_branch
      (λ branch is. record { started = started-more branch.number Rested events is.started; ended = is.ended ∙ sym (final-same branch.number Rested events refl); cancelled = refl }) stands.are)

  forwarded-by : (code : ℕ) (proxy : Proxy) (events : List ProxyEvent) → Stands first proxy events → (final : Bool) → is_final code ≡ final
      → (f : Option ℕ) → proxy.forwarded ≡ f
      → Stands first (cond (final && is_none f) (record proxy { forwarded = Some code }) proxy) (Forwarded code ∷ events)
  unfolding added_by candidate_by stops started_by forwarded_by final_by is_rest is_expiry_of
  forwarded-by code proxy events stands true is None at =
      stands-next proxy (record proxy { forwarded = Some code }) (Forwarded code) events stands refl refl (sym (append-nil proxy.tried)) (sym (append-nil proxy.targets)) (sym (or-none proxy.settled)) (sym (append-nil proxy.candidates)) (rw (is, at) refl) refl
      (all-same (Forwarded code) events proxy.branches (λ number. final-same number (Forwarded code) events refl) (λ number. cancel-quiet number (Forwarded code) events refl refl refl) stands.are)
  forwarded-by code proxy events stands true is (Some n) at =
      stands-next proxy proxy (Forwarded code) events stands refl refl (sym (append-nil proxy.tried)) (sym (append-nil proxy.targets)) (sym (or-none proxy.settled)) (sym (append-nil proxy.candidates)) (rw at refl) refl
      (all-same (Forwarded code) events proxy.branches (λ number. final-same number (Forwarded code) events refl) (λ number. cancel-quiet number (Forwarded code) events refl refl refl) stands.are)
  forwarded-by code proxy events stands false is f at =
      stands-next proxy proxy (Forwarded code) events stands refl refl (sym (append-nil proxy.tried)) (sym (append-nil proxy.targets)) (sym (or-none proxy.settled)) (sym (append-nil proxy.candidates)) (rw is (none-or proxy.forwarded)) refl
      (all-same (Forwarded code) events proxy.branches (λ number. final-same number (Forwarded code) events refl) (λ number. cancel-quiet number (Forwarded code) events refl refl refl) stands.are)

  forwarded-stands : (code : ℕ) (proxy : Proxy) (events : List ProxyEvent) → Stands first proxy events
      → Stands first (happens (Forwarded code) proxy) (Forwarded code ∷ events)
  unfolding happens with_forwarded
  forwarded-stands code proxy events stands = forwarded-by code proxy events stands (is_final code) refl proxy.forwarded refl

  -- ## A branch is started, or its time is up

  started-stands : (number now : ℕ) (proxy : Proxy) (events : List ProxyEvent) → was_started number events ≡ false
      → taken_since events < length (added_since first events) → Stands first proxy events
      → Stands first (happens (Started number now) proxy) (Started number now ∷ events)
  unfolding happens new_branch added_by candidate_by stops started_by taken_by forwarded_by final_by is_rest is_expiry_of tried_of targets_of candidates_of started_of taken_since added_since
  started-stands number now proxy events fresh below stands = record {
    options = stands.options;
    tried = stands.tried ∙ sym (append-nil (tried_of first events));
    targets = ap (λ (us : List Uri). drop 1 us) stands.targets ∙ drop-next (taken_since events) (added_since first events) ∙ ap (λ (us : List Uri). drop (taken_since events + 1) us) (sym (append-nil (added_since first events)));
    settled = stands.settled ∙ sym (or-none (is_settled events)) ∙ sym (settled-next (Started number now) events);
    candidates = stands.candidates ∙ sym (append-nil (candidates_of first events));
    forwarded = stands.forwarded ∙ none-or (forwarded_of events) ∙ sym (forwarded-next (Started number now) events);
    room = subst (λ (us : List Uri). taken_since events + 1 ≤ length us) (sym (append-nil (added_since first events))) (next (taken_since events) (length (added_since first events)) below);
    numbers = append-numbers proxy.branches (new_branch proxy number now) ∙ ap (λ (ns : List ℕ). ns ++ number ∷ []) stands.numbers;
    apart = numbers-more number (started_of events) stands.apart (unlisted number events fresh);
    are = more-of (IsBranchOf (Started number now ∷ events)) proxy.branches (new_branch proxy number now)
        (all-same (Started number now) events proxy.branches (λ n. final-same n (Started number now) events refl) (λ n. cancel-quiet n (Started number now) events refl refl refl) stands.are)
        (record {
          started = started-next number (Started number now) events ∙ rw (fresh, number-itself number) refl;
          ended = sym (final-same number (Started number now) events refl ∙ unstarted-final number events fresh);
          cancelled = sym (cancel-quiet number (Started number now) events refl refl refl ∙ unstarted-cancelled number events fresh);
        });
  }
    where
      next : (n m : ℕ) → n < m → n + 1 ≤ m
      next n m is = omega (arith, is)

  -- a later request is passed on: its branch takes no target
  passed-stands : (number : ℕ) (proxy : Proxy) (events : List ProxyEvent) → was_started number events ≡ false → Stands first proxy events
      → Stands first (happens (PassedOn number) proxy) (PassedOn number ∷ events)
  unfolding happens added_by candidate_by stops started_by taken_by forwarded_by final_by is_rest is_expiry_of tried_of targets_of candidates_of started_of taken_since added_since
  passed-stands number proxy events fresh stands = record {
    options = stands.options;
    tried = stands.tried ∙ sym (append-nil (tried_of first events));
    targets = stands.targets ∙ sym (append-nil (drop (taken_since events) (added_since first events))) ∙ sym (targets-by false (taken_since events) (added_since first events) [] stands.room);
    settled = stands.settled ∙ sym (or-none (is_settled events)) ∙ sym (settled-next (PassedOn number) events);
    candidates = stands.candidates ∙ sym (append-nil (candidates_of first events));
    forwarded = stands.forwarded ∙ none-or (forwarded_of events) ∙ sym (forwarded-next (PassedOn number) events);
    room = room-by false (taken_since events) (added_since first events) [] stands.room;
    numbers = append-numbers proxy.branches _ ∙ ap (λ (ns : List ℕ). ns ++ number ∷ []) stands.numbers;
    apart = numbers-more number (started_of events) stands.apart (unlisted number events fresh);
    are = more-of (IsBranchOf (PassedOn number ∷ events)) proxy.branches _
        (all-same (PassedOn number) events proxy.branches (λ n. final-same n (PassedOn number) events refl) (λ n. cancel-quiet n (PassedOn number) events refl refl refl) stands.are)
        (record {
          started = started-next number (PassedOn number) events ∙ rw (fresh, number-itself number) refl;
          ended = sym (final-same number (PassedOn number) events refl ∙ unstarted-final number events fresh);
          cancelled = sym (cancel-quiet number (PassedOn number) events refl refl refl ∙ unstarted-cancelled number events fresh);
        });
  }

  apart-in : (proxy : Proxy) (events : List ProxyEvent) → Stands first proxy events → AreApart proxy.branches
  apart-in proxy events stands = apart-of proxy.branches (subst NumbersApart (sym stands.numbers) stands.apart)

  provisional : (number m : ℕ) (sess : SessId) (response : Response) (now : ℕ) → is_final response.code ≡ false
      → final_by m (Heard number sess response now) ≡ None
  unfolding final_by
  provisional number m sess response now final = rw final (ap (λ b. cond b (Some response.code) None) (never-both (number == m)))

  running : (number : ℕ) (proxy : Proxy) (events : List ProxyEvent) → Stands first proxy events → is_open_in number proxy ≡ is_open_at number events
  running number proxy events stands = open-is number events proxy.branches stands.numbers stands.are

  -- the branch as it is to be cancelled
  abbrev marked : Branch → Branch
  marked branch = record branch { cancelled = true; due = None }

  expiry-now : (number : ℕ) (events : List ProxyEvent) → was_started number events ≡ true → is_cancelled number (Expired number ∷ events) ≡ true
  unfolding is_cancelled is_rest stops is_expiry_of
  expiry-now number events was = rw (was, number-itself number) refl

  expiry-else : (number other : ℕ) (events : List ProxyEvent) → (other == number) ≡ false → is_cancelled other (Expired number ∷ events) ≡ is_cancelled other events
  unfolding is_rest stops is_expiry_of
  expiry-else number other events differ = cancel-quiet other (Expired number) events refl refl (other-way other number differ)

  expired-marks : (number : ℕ) (events : List ProxyEvent) (branch : Branch) → (branch.number == number) ≡ true → IsBranchOf events branch
      → IsBranchOf (Expired number ∷ events) (marked branch)
  unfolding final_by
  expired-marks number events branch at is = record {
    started = started-more branch.number (Expired number) events is.started;
    ended = is.ended ∙ sym (final-same branch.number (Expired number) events refl);
    cancelled = ap (λ b. is_open branch && b) (sym (ap (λ (n : ℕ). is_cancelled branch.number (Expired n ∷ events)) (sym (equal branch.number number at)) ∙ expiry-now branch.number events is.started));
  }

  expired-leaves : (number : ℕ) (events : List ProxyEvent) (branch : Branch) → (branch.number == number) ≡ false → IsBranchOf events branch
      → IsBranchOf (Expired number ∷ events) branch
  unfolding final_by
  expired-leaves number events branch at is =
      branch-same (Expired number) events branch (final-same branch.number (Expired number) events refl) (expiry-else number branch.number events at) is

  -- a branch that has its final response gets no CANCEL
  closed-is : (number : ℕ) (events : List ProxyEvent) (branch : Branch) → is_open_at number events ≡ false → (branch.number == number) ≡ true
      → IsBranchOf events branch → is_open branch ≡ false
  unfolding is_open_at
  closed-is number events branch closed at is =
      ap (λ (f : Option ℕ). is_none f) is.ended
      ∙ only (was_started branch.number events) (is_none (final_of branch.number events)) is.started (subst (λ (n : ℕ). (was_started n events && is_none (final_of n events)) ≡ false) (sym (equal branch.number number at)) closed)
    where
      only : (a b : Bool) → a ≡ true → (a && b) ≡ false → b ≡ false
      only true b p q = q
      only false b p q = cc

  expired-closed : (number : ℕ) (events : List ProxyEvent) → is_open_at number events ≡ false → (branch : Branch) → IsBranchOf events branch
      → IsBranchOf (Expired number ∷ events) branch
  unfolding final_by
  expired-closed number events closed branch is = by (branch.number == number) refl
    where
      shut : (a b c : Bool) → a ≡ false → (a && b) ≡ (a && c)
      shut true b c none = cc
      shut false b c none = refl

      by : (b : Bool) → (branch.number == number) ≡ b → IsBranchOf (Expired number ∷ events) branch
      by true at = record {
        started = started-more branch.number (Expired number) events is.started;
        ended = is.ended ∙ sym (final-same branch.number (Expired number) events refl);
        cancelled = shut (is_open branch) branch.cancelled _ (closed-is number events branch closed at is);
      }
      by false at = expired-leaves number events branch at is

  expired-by : (number : ℕ) (proxy : Proxy) (events : List ProxyEvent) → Stands first proxy events → (b : Bool) → is_open_in number proxy ≡ b
      → Stands first (cond b (to_cancel number proxy) proxy) (Expired number ∷ events)
  unfolding to_cancel added_by candidate_by stops started_by forwarded_by
  expired-by number proxy events stands true at =
      stands-next proxy (to_cancel number proxy) (Expired number) events stands refl refl (sym (append-nil proxy.tried)) (sym (append-nil proxy.targets)) (sym (or-none proxy.settled)) (sym (append-nil proxy.candidates)) (none-or proxy.forwarded)
      (first-numbers (is_branch number) marked proxy.branches (λ branch. refl))
      (first-of (IsBranchOf events) (IsBranchOf (Expired number ∷ events)) number proxy.branches marked (apart-in proxy events stands) (expired-marks number events) (expired-leaves number events) stands.are)
  expired-by number proxy events stands false at =
      stands-next proxy proxy (Expired number) events stands refl refl (sym (append-nil proxy.tried)) (sym (append-nil proxy.targets)) (sym (or-none proxy.settled)) (sym (append-nil proxy.candidates)) (none-or proxy.forwarded) refl
      (all-of (IsBranchOf events) (IsBranchOf (Expired number ∷ events)) proxy.branches (expired-closed number events (sym (running number proxy events stands) ∙ at)) stands.are)

  expired-stands : (number : ℕ) (proxy : Proxy) (events : List ProxyEvent) → Stands first proxy events
      → Stands first (happens (Expired number) proxy) (Expired number ∷ events)
  unfolding happens
  expired-stands number proxy events stands = expired-by number proxy events stands (is_open_in number proxy) refl

  -- what waits to be forwarded is no part of it
  passed-on : (sess : SessId) (response : Response) (p : Proxy) (es : List ProxyEvent) → Stands first p es → Stands first (passing_on sess response p) es
  unfolding passing_on
  passed-on sess response p es s = record {
    options = s.options;
    tried = s.tried;
    targets = s.targets;
    settled = s.settled;
    candidates = s.candidates;
    forwarded = s.forwarded;
    room = s.room;
    numbers = s.numbers;
    apart = s.apart;
    are = s.are;
  }

  -- ## The first final response of a branch

  -- what the event says of the response that ends a branch
  record Ends (number : ℕ) (response : Response) (proxy : Proxy) (event : ProxyEvent) (events : List ProxyEvent) : Type 0 where
    was_open : is_open_at number events ≡ true
    gives : final_by number event ≡ Some response.code
    others : (m : ℕ) → (number == m) ≡ false → final_by m event ≡ None
    stop : stops events event ≡ ends_all response.code
    added : added_by first (tried_of first events) events event ≡ added_targets proxy response
    counted : candidate_by first events event ≡ cond (not (is_success response.code) && (length (added_targets proxy response) == 0)) (response ∷ []) []
    none_started : started_by event ≡ []
    none_forwarded : forwarded_by event ≡ None
    no_rest : is_rest event ≡ false
    no_expiry : (m : ℕ) → is_expiry_of m event ≡ false

  module _ (number : ℕ) (response : Response) (proxy : Proxy) (event : ProxyEvent) (events : List ProxyEvent) (stands : Stands first proxy events) (ends : Ends number response proxy event events) where
    ends-here : (branch : Branch) → (branch.number == number) ≡ true → IsBranchOf events branch → HasEnded event events (with_end response.code branch)
    unfolding with_end
    ends-here branch at is = record {
      was = is.started;
      ended = sym (subst (λ (n : ℕ). final_of n (event ∷ events) ≡ Some response.code) (sym (equal branch.number number at)) (open-final number response.code event events ends.was_open ends.gives));
    }

    ends-there : (branch : Branch) → (branch.number == number) ≡ false → IsBranchOf events branch → HasEnded event events branch
    ends-there branch at is = record {
      was = is.started;
      ended = is.ended ∙ sym (final-same branch.number event events (ends.others branch.number (other-way branch.number number at)));
    }

    -- where the search goes on
    goes-here : stops events event ≡ false → (branch : Branch) → (branch.number == number) ≡ true → IsBranchOf events branch
        → IsBranchOf (event ∷ events) (with_end response.code branch)
    unfolding with_end
    goes-here stop branch at is = record {
      started = started-more branch.number event events is.started;
      ended = (ends-here branch at is).ended;
      cancelled = refl;
    }

    goes-there : stops events event ≡ false → (branch : Branch) → (branch.number == number) ≡ false → IsBranchOf events branch
        → IsBranchOf (event ∷ events) branch
    goes-there stop branch at is =
        branch-same event events branch (final-same branch.number event events (ends.others branch.number (other-way branch.number number at)))
        (cancel-quiet branch.number event events ends.no_rest stop (ends.no_expiry branch.number)) is

    abbrev ended-branches : List Branch
    ended-branches = change_first (is_branch number) (with_end response.code) proxy.branches

    are-ended : AllOf (HasEnded event events) ended-branches
    are-ended = first-of (IsBranchOf events) (HasEnded event events) number proxy.branches (with_end response.code) (apart-in proxy events stands) ends-here ends-there stands.are

    same-numbers : map number_of ended-branches ≡ map number_of proxy.branches
    unfolding with_end
    same-numbers = first-numbers (is_branch number) (with_end response.code) proxy.branches (λ branch. refl)

    abbrev ended : Proxy
    ended = with_targets (added_targets proxy response) (with_candidate response (ended_branch number response.code proxy))

    if-same : {A : Type 0} (part : Proxy → A) (b : Bool) (x y : Proxy) (z : A) → part x ≡ z → part y ≡ z → part (cond b x y) ≡ z
    if-same part true x y z p q = p
    if-same part false x y z p q = q

    by-candidates : (s e : Bool) (rs : List Response) → cond (s || not e) rs (rs ++ response ∷ []) ≡ rs ++ cond (not s && e) (response ∷ []) []
    by-candidates true e rs = sym (append-nil rs)
    by-candidates false true rs = refl
    by-candidates false false rs = sym (append-nil rs)

    kept-candidates : (b : Bool) (p : Proxy) → (cond b p (record p { candidates = p.candidates ++ response ∷ [] })).candidates ≡ cond b p.candidates (p.candidates ++ response ∷ [])
    kept-candidates true p = refl
    kept-candidates false p = refl

    ended-candidates : ended.candidates ≡ proxy.candidates ++ candidate_by first events event
    unfolding with_targets with_candidate ended_branch added_targets recurses
    ended-candidates =
        kept-candidates (is_success response.code || not (length (added_targets proxy response) == 0)) (ended_branch number response.code proxy)
        ∙ by-candidates (is_success response.code) (length (added_targets proxy response) == 0) proxy.candidates ∙ ap (λ (rs : List Response). proxy.candidates ++ rs) (sym ends.counted)

    same-part : {A : Type 0} (part : Proxy → A) → ((p : Proxy) (rs : List Response) → part (record p { candidates = rs }) ≡ part p)
        → part (with_candidate response (ended_branch number response.code proxy)) ≡ part (ended_branch number response.code proxy)
    unfolding with_candidate
    same-part part keeps = if-same part _ (ended_branch number response.code proxy) _ (part (ended_branch number response.code proxy)) refl (keeps (ended_branch number response.code proxy) _)

    kept-options : (ended_branch number response.code proxy).options ≡ proxy.options
    unfolding ended_branch
    kept-options = refl

    kept-tried : (ended_branch number response.code proxy).tried ≡ proxy.tried
    unfolding ended_branch
    kept-tried = refl

    kept-targets : (ended_branch number response.code proxy).targets ≡ proxy.targets
    unfolding ended_branch
    kept-targets = refl

    kept-settled : (ended_branch number response.code proxy).settled ≡ proxy.settled
    unfolding ended_branch
    kept-settled = refl

    kept-forwarded : (ended_branch number response.code proxy).forwarded ≡ proxy.forwarded
    unfolding ended_branch
    kept-forwarded = refl

    ended-is : (ended_branch number response.code proxy).branches ≡ ended-branches
    unfolding ended_branch
    ended-is = refl

    kept-branches : ended.branches ≡ ended-branches
    unfolding with_targets
    kept-branches = same-part (λ (p : Proxy). p.branches) (λ p rs. refl) ∙ ended-is

    goes-on : stops events event ≡ false → Stands first ended (event ∷ events)
    unfolding with_targets
    goes-on stop =
        stands-next proxy ended event events stands ends.none_started (same-part (λ (p : Proxy). p.options) (λ p rs. refl) ∙ kept-options)
        (ap (λ (us : List Uri). us ++ added_targets proxy response) (same-part (λ (p : Proxy). p.tried) (λ p rs. refl) ∙ kept-tried) ∙ ap (λ (us : List Uri). proxy.tried ++ us) (sym ends.added))
        (ap (λ (us : List Uri). us ++ added_targets proxy response) (same-part (λ (p : Proxy). p.targets) (λ p rs. refl) ∙ kept-targets) ∙ ap (λ (us : List Uri). proxy.targets ++ us) (sym ends.added)
        ∙ ap (λ b. cond b [] (proxy.targets ++ added_by first (tried_of first events) events event)) (sym stop))
        (same-part (λ (p : Proxy). p.settled) (λ p rs. refl) ∙ kept-settled ∙ sym (ap (λ b. proxy.settled || b) stop ∙ or-none proxy.settled))
        ended-candidates (same-part (λ (p : Proxy). p.forwarded) (λ p rs. refl) ∙ kept-forwarded ∙ none-or proxy.forwarded ∙ ap (option_or proxy.forwarded) (sym ends.none_forwarded))
        (ap (map number_of) kept-branches ∙ same-numbers)
        (subst (AreOf (event ∷ events)) (sym kept-branches)
        (first-of (IsBranchOf events) (IsBranchOf (event ∷ events)) number proxy.branches (with_end response.code) (apart-in proxy events stands) (goes-here stop) (goes-there stop) stands.are))

    goes-stop : stops events event ≡ true → Stands first (stopped ended) (event ∷ events)
    unfolding stopped with_targets
    goes-stop stop =
        stands-next proxy (stopped ended) event events stands ends.none_started (same-part (λ (p : Proxy). p.options) (λ p rs. refl) ∙ kept-options)
        (ap (λ (us : List Uri). us ++ added_targets proxy response) (same-part (λ (p : Proxy). p.tried) (λ p rs. refl) ∙ kept-tried) ∙ ap (λ (us : List Uri). proxy.tried ++ us) (sym ends.added))
        (ap (λ b. cond b [] (proxy.targets ++ added_by first (tried_of first events) events event)) (sym stop))
        (sym (ap (λ b. proxy.settled || b) stop ∙ or-true proxy.settled))
        ended-candidates (same-part (λ (p : Proxy). p.forwarded) (λ p rs. refl) ∙ kept-forwarded ∙ none-or proxy.forwarded ∙ ap (option_or proxy.forwarded) (sym ends.none_forwarded))
        (each-number cancelled_branch ended.branches stop-number ∙ ap (map number_of) kept-branches ∙ same-numbers)
        (each-of (HasEnded event events) (IsBranchOf (event ∷ events)) ended.branches cancelled_branch (stop-branch event events ends.no_rest stop)
        (subst (AllOf (HasEnded event events)) (sym kept-branches) are-ended))

    ended-by : (sess : SessId) (s g : Bool) → is_success response.code ≡ s → is_global response.code ≡ g
        → Stands first (cond s (passing_on sess response (stopped ended)) (cond g (stopped ended) ended)) (event ∷ events)
    ended-by sess true g is-s is-g = passed-on sess response (stopped ended) (event ∷ events) (goes-stop (ends.stop ∙ rw is-s refl))
    ended-by sess false true is-s is-g = goes-stop (ends.stop ∙ rw (is-s, is-g) refl)
    ended-by sess false false is-s is-g = goes-on (ends.stop ∙ rw (is-s, is-g) refl)

    ended-stands : (sess : SessId) → Stands first (ended_by number sess response proxy) (event ∷ events)
    unfolding ended_by
    ended-stands sess = ended-by sess (is_success response.code) (is_global response.code) refl refl

  -- ## A response comes

  added-is : (response : Response) (proxy : Proxy) (events : List ProxyEvent) → Stands first proxy events
      → followed first (tried_of first events) (is_settled events) true response ≡ added_targets proxy response
  unfolding followed added_targets recurses
  added-is response proxy events stands = rw (stands.options, stands.tried, stands.settled) refl

  and-true : (b : Bool) → (b && true) ≡ b
  and-true true = refl
  and-true false = refl

  heard-ends : (number : ℕ) (sess : SessId) (response : Response) (now : ℕ) (proxy : Proxy) (events : List ProxyEvent) → Stands first proxy events
      → is_open_at number events ≡ true → is_final response.code ≡ true → Ends number response proxy (Heard number sess response now) events
  unfolding final_by stops added_by candidate_by counts started_by forwarded_by is_rest is_expiry_of
  heard-ends number sess response now proxy events stands was final = record {
    was_open = was;
    gives = rw (number-itself number, final) refl;
    others = λ m differ. rw differ refl;
    stop = rw was (ap (λ b. is_success response.code || b) (and-true (is_global response.code)));
    added = rw was (added-is response proxy events stands);
    counted = rw (final, was, added-is response proxy events stands) refl;
    none_started = refl;
    none_forwarded = refl;
    no_rest = refl;
    no_expiry = λ m. refl;
  }

  timed-ends : (number : ℕ) (sess : SessId) (response : Response) (proxy : Proxy) (events : List ProxyEvent) → Stands first proxy events
      → is_open_at number events ≡ true → Ends number response proxy (TimedOut number sess response) events
  unfolding final_by stops added_by candidate_by counts started_by forwarded_by is_rest is_expiry_of
  timed-ends number sess response proxy events stands was = record {
    was_open = was;
    gives = rw (number-itself number) refl;
    others = λ m differ. rw differ refl;
    stop = rw was refl;
    added = rw was (added-is response proxy events stands);
    counted = rw (was, added-is response proxy events stands) refl;
    none_started = refl;
    none_forwarded = refl;
    no_rest = refl;
    no_expiry = λ m. refl;
  }

  -- it comes for a branch that has its final response
  late-final : (number m : ℕ) (event : ProxyEvent) (events : List ProxyEvent) → is_open_at number events ≡ false
      → ((number == m) ≡ false → final_by m event ≡ None) → final_of m (event ∷ events) ≡ final_of m events
  late-final number m event events closed others = by (number == m) refl
    where
      by : (b : Bool) → (number == m) ≡ b → final_of m (event ∷ events) ≡ final_of m events
      by true at = closed-final m event events (subst (λ (n : ℕ). is_open_at n events ≡ false) (equal number m at) closed)
      by false at = final-same m event events (others at)

  heard-else : (number m : ℕ) (sess : SessId) (response : Response) (now : ℕ) → (number == m) ≡ false → final_by m (Heard number sess response now) ≡ None
  unfolding final_by
  heard-else number m sess response now differ = rw differ refl

  timed-else : (number m : ℕ) (sess : SessId) (response : Response) → (number == m) ≡ false → final_by m (TimedOut number sess response) ≡ None
  unfolding final_by
  timed-else number m sess response differ = rw differ refl

  late-candidate : (number : ℕ) (sess : SessId) (response : Response) (now : ℕ) (events : List ProxyEvent) → is_open_at number events ≡ false → (b : Bool)
      → cond b (counts first events number response) [] ≡ []
  unfolding counts
  late-candidate number sess response now events closed true = rw closed refl
  late-candidate number sess response now events closed false = refl

  late-stands : (number : ℕ) (sess : SessId) (response : Response) (now : ℕ) (proxy : Proxy) (events : List ProxyEvent) → Stands first proxy events
      → is_open_at number events ≡ false → (s : Bool) → is_success response.code ≡ s
      → Stands first (cond s (passing_on sess response (stopped proxy)) proxy) (Heard number sess response now ∷ events)
  unfolding stopped stops added_by followed candidate_by started_by forwarded_by is_rest is_expiry_of
  late-stands number sess response now proxy events stands closed true is-s =
      let event : ProxyEvent = Heard number sess response now in
      passed-on sess response (stopped proxy) (event ∷ events)
      (stands-next proxy (stopped proxy) event events stands refl refl (rw closed (sym (append-nil proxy.tried))) (rw is-s refl) (rw is-s (sym (or-true proxy.settled)))
      (sym (ap (λ (rs : List Response). proxy.candidates ++ rs) (late-candidate number sess response now events closed (is_final response.code)) ∙ append-nil proxy.candidates)) (none-or proxy.forwarded)
      (each-number cancelled_branch proxy.branches stop-number)
      (each-of (HasEnded event events) (IsBranchOf (event ∷ events)) proxy.branches cancelled_branch (stop-branch event events refl (rw is-s refl))
      (all-of (IsBranchOf events) (HasEnded event events) proxy.branches (λ branch is. record { was = is.started; ended = is.ended ∙ sym (late-final number branch.number event events closed (heard-else number branch.number sess response now)) }) stands.are)))
  late-stands number sess response now proxy events stands closed false is-s =
      let event : ProxyEvent = Heard number sess response now in
      let quiet : stops events event ≡ false = rw (is-s, closed) (never-both (is_global response.code)) in
      stands-next proxy proxy event events stands refl refl (rw closed (sym (append-nil proxy.tried))) (sym (ap (λ b. cond b [] (proxy.targets ++ added_by first (tried_of first events) events event)) quiet ∙ rw closed (append-nil proxy.targets)))
      (sym (ap (λ b. proxy.settled || b) quiet ∙ or-none proxy.settled))
      (sym (ap (λ (rs : List Response). proxy.candidates ++ rs) (late-candidate number sess response now events closed (is_final response.code)) ∙ append-nil proxy.candidates)) (none-or proxy.forwarded) refl
      (all-same event events proxy.branches (λ m. late-final number m event events closed (heard-else number m sess response now)) (λ m. cancel-quiet m event events refl quiet refl) stands.are)

  -- a provisional one

  no-redirect : (code : ℕ) → is_final code ≡ false → nat_le 300 code ≡ false
  no-redirect code is = grind (arith, nat_tests, is)

  no-global : (code : ℕ) → is_final code ≡ false → nat_le 600 code ≡ false
  no-global code is = grind (arith, nat_tests, is)

  rung-stands : (number : ℕ) (sess : SessId) (response : Response) (now : ℕ) (proxy : Proxy) (events : List ProxyEvent) → Stands first proxy events
      → is_open_at number events ≡ true → is_final response.code ≡ false
      → Stands first (passing_on sess response (rung number now proxy)) (Heard number sess response now ∷ events)
  unfolding rung stops added_by followed candidate_by started_by forwarded_by is_rest is_expiry_of
  rung-stands number sess response now proxy events stands was final =
      let event : ProxyEvent = Heard number sess response now in
      let quiet : stops events event ≡ false = rw (final, no-global response.code final) refl in
      let none : added_by first (tried_of first events) events event ≡ [] = rw (was, no-redirect response.code final) refl in
      let same : (branch : Branch) → IsBranchOf events branch → IsBranchOf (event ∷ events) branch = λ branch is. branch-same event events branch (final-same branch.number event events (provisional number branch.number sess response now final)) (cancel-quiet branch.number event events refl quiet refl) is in
      passed-on sess response (rung number now proxy) (event ∷ events)
      (stands-next proxy (rung number now proxy) event events stands refl refl (sym (ap (λ (us : List Uri). proxy.tried ++ us) none ∙ append-nil proxy.tried))
      (sym (ap (λ b. cond b [] (proxy.targets ++ added_by first (tried_of first events) events event)) quiet ∙ ap (λ (us : List Uri). proxy.targets ++ us) none ∙ append-nil proxy.targets))
      (sym (ap (λ b. proxy.settled || b) quiet ∙ or-none proxy.settled)) (rw final (sym (append-nil proxy.candidates))) (none-or proxy.forwarded)
      (first-numbers (is_branch number) _ proxy.branches (λ branch. refl))
      (first-of (IsBranchOf events) (IsBranchOf (event ∷ events)) number proxy.branches _ (apart-in proxy events stands)
      (λ branch at is. record { started = (same branch is).started; ended = (same branch is).ended; cancelled = (same branch is).cancelled }) (λ branch at is. same branch is) stands.are))

  heard-by : (number : ℕ) (sess : SessId) (response : Response) (now : ℕ) (proxy : Proxy) (events : List ProxyEvent) → Stands first proxy events
      → (o f : Bool) → is_open_at number events ≡ o → is_final response.code ≡ f
      → Stands first (cond (not o) (cond (is_success response.code) (passing_on sess response (stopped proxy)) proxy) (cond f (ended_by number sess response proxy) (passing_on sess response (rung number now proxy)))) (Heard number sess response now ∷ events)
  heard-by number sess response now proxy events stands false f closed final = late-stands number sess response now proxy events stands closed (is_success response.code) refl
  heard-by number sess response now proxy events stands true true was final =
      ended-stands number response proxy (Heard number sess response now) events stands (heard-ends number sess response now proxy events stands was final) sess
  heard-by number sess response now proxy events stands true false was final = rung-stands number sess response now proxy events stands was final

  heard-stands : (number : ℕ) (sess : SessId) (response : Response) (now : ℕ) (proxy : Proxy) (events : List ProxyEvent) → Stands first proxy events
      → Stands first (happens (Heard number sess response now) proxy) (Heard number sess response now ∷ events)
  unfolding happens heard after_end
  heard-stands number sess response now proxy events stands =
      heard-by number sess response now proxy events stands (is_open_in number proxy) (is_final response.code) (sym (running number proxy events stands)) refl

  timed-by : (number : ℕ) (sess : SessId) (response : Response) (proxy : Proxy) (events : List ProxyEvent) → Stands first proxy events
      → (o : Bool) → is_open_at number events ≡ o
      → Stands first (cond o (ended_by number sess response proxy) proxy) (TimedOut number sess response ∷ events)
  unfolding stops added_by followed candidate_by counts started_by forwarded_by is_rest is_expiry_of
  timed-by number sess response proxy events stands true was =
      ended-stands number response proxy (TimedOut number sess response) events stands (timed-ends number sess response proxy events stands was) sess
  timed-by number sess response proxy events stands false closed =
      let event : ProxyEvent = TimedOut number sess response in
      let quiet : stops events event ≡ false = rw closed refl in
      stands-next proxy proxy event events stands refl refl (rw closed (sym (append-nil proxy.tried))) (rw closed (sym (append-nil proxy.targets))) (rw closed (sym (or-none proxy.settled))) (rw closed (sym (append-nil proxy.candidates))) (none-or proxy.forwarded) refl
      (all-same event events proxy.branches (λ m. late-final number m event events closed (timed-else number m sess response)) (λ m. cancel-quiet m event events refl quiet refl) stands.are)

  timed-stands : (number : ℕ) (sess : SessId) (response : Response) (proxy : Proxy) (events : List ProxyEvent) → Stands first proxy events
      → Stands first (happens (TimedOut number sess response) proxy) (TimedOut number sess response ∷ events)
  unfolding happens
  timed-stands number sess response proxy events stands =
      timed-by number sess response proxy events stands (is_open_in number proxy) (sym (running number proxy events stands))

  -- ## All that happens

  all-stands : (events : List ProxyEvent) → Stands first first [] → IsHad first events → Stands first (proxy_after first events) events
  unfolding proxy_after IsHad
  all-stands [] start had = start
  all-stands (Asked uris ∷ events) start had = asked-stands uris (proxy_after first events) events (all-stands events start had)
  all-stands (Stopped ∷ events) start had = stopped-stands (proxy_after first events) events (all-stands events start had)
  all-stands (Started number now ∷ events) start had = started-stands number now (proxy_after first events) events had.0 had.1 (all-stands events start had.2)
  all-stands (PassedOn number ∷ events) start had = passed-stands number (proxy_after first events) events had.0 (all-stands events start had.1)
  all-stands (Heard number sess response now ∷ events) start had = heard-stands number sess response now (proxy_after first events) events (all-stands events start had)
  all-stands (TimedOut number sess response ∷ events) start had = timed-stands number sess response (proxy_after first events) events (all-stands events start had)
  all-stands (Expired number ∷ events) start had = expired-stands number (proxy_after first events) events (all-stands events start had)
  all-stands (Forwarded code ∷ events) start had = forwarded-stands code (proxy_after first events) events (all-stands events start had)
  all-stands (Rested ∷ events) start had = rested-stands (proxy_after first events) events (all-stands events start had)

  -- ## As the list says

  open-same : (events : List ProxyEvent) (branch : Branch) → IsBranchOf events branch → is_open branch ≡ is_open_at branch.number events
  unfolding is_open_at
  open-same events branch is = rw (is.started, is.ended) refl

  cancel-same : (events : List ProxyEvent) (branch : Branch) → IsBranchOf events branch
      → (is_open branch && branch.cancelled) ≡ (is_open_at branch.number events && is_cancelled branch.number events)
  cancel-same events branch is = is.cancelled ∙ ap (λ b. b && is_cancelled branch.number events) (open-same events branch is)

  of-list : (proxy : Proxy) (events : List ProxyEvent) → Stands first proxy events → IsOfList first proxy events
  unfolding cancelled_of
  of-list proxy events stands = record {
    tried = stands.tried;
    targets = stands.targets;
    settled = stands.settled;
    candidates = stands.candidates;
    forwarded = stands.forwarded;
    started = stands.numbers;
    running = kept-numbers proxy.branches is_open (λ number. is_open_at number events) events stands.are (open-same events)
        ∙ ap (filter (λ number. is_open_at number events)) stands.numbers;
    cancelled = kept-numbers proxy.branches (λ (b : Branch). is_open b && b.cancelled) (λ number. is_open_at number events && is_cancelled number events) events stands.are (cancel-same events)
        ∙ ap (filter (λ number. is_open_at number events && is_cancelled number events)) stands.numbers;
  }

-- a request as it becomes proxied
start-stands : (req : ReqId) (sess : SessId) (event : ℕ) (request : Request) (how : Option ProxyOptions)
    → Stands (new_proxy req sess event request how) (new_proxy req sess event request how) []
unfolding new_proxy tried_of targets_of is_settled candidates_of forwarded_of started_of taken_since added_since NumbersApart AllOf first_in_time
start-stands req sess event request how = record {
  options = refl;
  tried = refl;
  targets = refl;
  settled = refl;
  candidates = refl;
  forwarded = refl;
  room = omega arith;
  numbers = refl;
  apart = tt;
  are = tt;
}

pub proxies-stand : (req : ReqId) (sess : SessId) (event : ℕ) (request : Request) (how : Option ProxyOptions) (events : List ProxyEvent)
    → IsHad (new_proxy req sess event request how) events
    → IsOfList (new_proxy req sess event request how) (proxy_after (new_proxy req sess event request how) events) events
proxies-stand req sess event request how events had =
    let first : Proxy = new_proxy req sess event request how in
    of-list first (proxy_after first events) events (all-stands first events (start-stands req sess event request how) had)
