-- As a turn ends, a search that is over gives a response, where what it found wasn't dropped.
use Rattle.std.proofs.Common.{◌≡◌, ◌⊎◌, ℕ, suc, ◌++◌, Bool, true, false, Option, None, Some, List, [], ◌∷◌, inl, inr, refl, sym, ap, append_assoc, subst, ◌∙◌, arith}
use Rattle.std.specs.Prelude.{◌==◌, ◌&&◌, ◌||◌, cond, filter, is_none, is_some, length, map, not, take}
use Rattle.std.specs.List.{list_any}
use Rattle.std.specs.Option.{option_map_or}
use Rattle.std.proofs.lemmas.Bool.Decides.{nat_tests}
use Rattle.sc_value.specs.declared.message.Response.{Response}
use Rattle.sc_value.specs.declared.parts.Uri.{Uri}
use Rattle.sc_state.specs.declared.proxy.Branch.{Branch}
use Rattle.sc_state.specs.declared.proxy.Passing.{Passing}
use Rattle.sc_state.specs.declared.proxy.Proxy.{Proxy}
use Rattle.sc_model.specs.BestResponses.{best_response}
use Rattle.sc_model.specs.SessionStates.{is_final}
use Rattle.sc_model.specs.Transactions.{is_success}
use Rattle.sc_hosts.specs.Acting.{at_rest as rested, rested_branch, with_forwarded}
use Rattle.sc_hosts.specs.Branches.{can_choose, can_pass, has_open, is_open, is_parallel, new_branch, starting}
use Rattle.sc_lasting.specs.Lasting.{All}
use Rattle.sc_proxied.specs.ProxyLists.{Forwarded, IsHad, ProxyEvent, Rested, forwarded_of, happens, is_rest, proxy_after, started_by, started_of, targets_of}
use Rattle.sc_proxied.proofs.Happenings.{proxies-stand}
use Rattle.sc_proxying.specs.Proxying.{IsOfEnd, as_begun, chosen_codes, code_of, forwarded_codes, forwards_of, passed_codes, starts_at}
use Rattle.sc_proxying.proofs.Runs.{after-append}
use Rattle.sc_searched.specs.Searches.{has_answer}
use Rattle.sc_searched.specs.Endings.{AreAnswered, IsAnswered, is_over, is_stop, running_of, was_dropped}
use Rattle.sc_searched.proofs.Best.{AreFinal, HasBest, best-is}
use Rattle.sc_searched.proofs.Going.{Answered, Dropped, Followed, Going, IsWithin, Open, Stands, Unstarted, earlier-had, last-open, or-true, within-stands}

-- ## Tests

clash : true ≡ false → ⊥
clash is = cc

no-zero : (n : ℕ) → (suc n == 0) ≡ true → ⊥
no-zero n is = grind (arith, nat_tests, is)

zero-is : (n : ℕ) → n ≡ 0 → (n == 0) ≡ true
zero-is n is = grind (arith, nat_tests, is)

no-item : (a b : ℕ) → a ≡ b → (a == 0) ≡ true → (b == 0) ≡ true
no-item a b is none = rw (← is) none

or-is : (a b : Bool) → a ≡ true → (a || b) ≡ true
or-is a b is = rw is refl

both-first : (a b : Bool) → (a && b) ≡ true → a ≡ true
both-first true b is = refl
both-first false b is = cc

none-forwarded : (f : Option ℕ) → is_some f ≡ false → is_none f ≡ true
none-forwarded None is = refl
none-forwarded (Some n) is = cc

or-then : (a b : Bool) → b ≡ true → (a || b) ≡ true
or-then a b is = rw is (or-true a)

middle-of : (a b c : Bool) → ((a && b) && c) ≡ true → b ≡ true
middle-of true true c is = refl
middle-of true false c is = cc
middle-of false b c is = cc

front-of : (a b c : Bool) → ((a && b) && c) ≡ true → a ≡ true
front-of true b c is = refl
front-of false b c is = cc

not-both : (a : Bool) → a ≡ true → not a ≡ true → ⊥
not-both true p q = cc
not-both false p q = cc

some-item : (a n : ℕ) → a ≡ suc n → (a == 0) ≡ false
some-item a n is = grind (arith, nat_tests, is)

-- ## What responses that are forwarded leave

forward-branches : (code : ℕ) (p : Proxy) → (with_forwarded code p).branches ≡ p.branches
unfolding with_forwarded
forward-branches code p = by (is_final code && is_none p.forwarded)
  where
    by : (b : Bool) → (cond b (record p { forwarded = Some code }) p).branches ≡ p.branches
    by true = refl
    by false = refl

forward-targets : (code : ℕ) (p : Proxy) → (with_forwarded code p).targets ≡ p.targets
unfolding with_forwarded
forward-targets code p = by (is_final code && is_none p.forwarded)
  where
    by : (b : Bool) → (cond b (record p { forwarded = Some code }) p).targets ≡ p.targets
    by true = refl
    by false = refl

forward-candidates : (code : ℕ) (p : Proxy) → (with_forwarded code p).candidates ≡ p.candidates
unfolding with_forwarded
forward-candidates code p = by (is_final code && is_none p.forwarded)
  where
    by : (b : Bool) → (cond b (record p { forwarded = Some code }) p).candidates ≡ p.candidates
    by true = refl
    by false = refl

forward-keeps : (code : ℕ) (p : Proxy) → is_some p.forwarded ≡ true → is_some (with_forwarded code p).forwarded ≡ true
unfolding with_forwarded
forward-keeps code p some = by (is_final code && is_none p.forwarded)
  where
    by : (b : Bool) → is_some (cond b (record p { forwarded = Some code }) p).forwarded ≡ true
    by true = refl
    by false = some

forward-gives : (code : ℕ) (p : Proxy) → is_final code ≡ true → is_some (with_forwarded code p).forwarded ≡ true
unfolding with_forwarded
forward-gives code p final = rw final (by p.forwarded refl)
  where
    by : (f : Option ℕ) → p.forwarded ≡ f → is_some (cond (true && is_none f) (record p { forwarded = Some code }) p).forwarded ≡ true
    by None is = refl
    by (Some n) is = ap (λ (g : Option ℕ). is_some g) is

all-branches : (codes : List ℕ) (p : Proxy) → (proxy_after p (forwards_of codes)).branches ≡ p.branches
unfolding proxy_after happens
all-branches [] p = refl
all-branches (code ∷ codes) p = forward-branches code (proxy_after p (forwards_of codes)) ∙ all-branches codes p

all-targets : (codes : List ℕ) (p : Proxy) → (proxy_after p (forwards_of codes)).targets ≡ p.targets
unfolding proxy_after happens
all-targets [] p = refl
all-targets (code ∷ codes) p = forward-targets code (proxy_after p (forwards_of codes)) ∙ all-targets codes p

all-candidates : (codes : List ℕ) (p : Proxy) → (proxy_after p (forwards_of codes)).candidates ≡ p.candidates
unfolding proxy_after happens
all-candidates [] p = refl
all-candidates (code ∷ codes) p = forward-candidates code (proxy_after p (forwards_of codes)) ∙ all-candidates codes p

all-keep : (codes : List ℕ) (p : Proxy) → is_some p.forwarded ≡ true → is_some (proxy_after p (forwards_of codes)).forwarded ≡ true
unfolding proxy_after happens
all-keep [] p some = some
all-keep (code ∷ codes) p some = forward-keeps code (proxy_after p (forwards_of codes)) (all-keep codes p some)

forwards-more : (later earlier : List ℕ) → forwards_of (later ++ earlier) ≡ forwards_of later ++ forwards_of earlier
forwards-more [] earlier = refl
forwards-more (code ∷ later) earlier = ap (λ (events : List ProxyEvent). Forwarded code ∷ events) (forwards-more later earlier)

-- ## There is a response to be forwarded, and it is

module _ (p : Proxy) (shut : has_open p ≡ false) (none : (length p.targets == 0) ≡ true) (finals : AreFinal p.candidates) where
  abbrev waits : List ℕ
  waits = passed_codes p p.passing

  abbrev passed : Proxy
  passed = proxy_after p (forwards_of waits)

  -- what waits can go where nothing went
  can : (response : Response) → p.forwarded ≡ None → can_pass p response ≡ true
  unfolding can_pass
  can response nothing = or-is (is_none p.forwarded) _ (ap (λ (f : Option ℕ). is_none f) nothing)

  waits-are : (passing : Passing) → p.forwarded ≡ None → p.passing ≡ Some passing → waits ≡ passing.response.code ∷ []
  unfolding passed_codes
  waits-are passing nothing is = ap (passed_codes p) is ∙ ap (λ (b : Bool). cond b (passing.response.code ∷ []) []) (can passing.response nothing)

  passing-goes : (passing : Passing) → p.forwarded ≡ None → p.passing ≡ Some passing → is_success passing.response.code ≡ true → is_some passed.forwarded ≡ true
  unfolding proxy_after happens
  passing-goes passing nothing is success =
      ap (λ (codes : List ℕ). is_some (proxy_after p (forwards_of codes)).forwarded) (waits-are passing nothing is)
      ∙ forward-gives passing.response.code p (both-first (is_final passing.response.code) _ success)

  chooses : (length p.candidates == 0) ≡ false → is_none passed.forwarded ≡ true → can_choose passed ≡ true
  unfolding can_choose
  chooses some nothing = rw (all-candidates waits p, all-branches waits p, all-targets waits p, some, shut, none, nothing) refl

  chosen-are : (x : Response) (xs : List Response) → p.candidates ≡ x ∷ xs → is_some passed.forwarded ≡ false → (best : HasBest (x ∷ xs)) → chosen_codes passed ≡ best.response.code ∷ []
  unfolding chosen_codes code_of
  chosen-are x xs is nothing best =
      ap (λ (b : Bool). cond b (code_of (best_response passed.candidates)) []) (chooses (some-item (length p.candidates) (length xs) (ap (λ (rs : List Response). length rs) is)) (none-forwarded passed.forwarded nothing))
      ∙ ap (λ (rs : List Response). code_of (best_response rs)) (all-candidates waits p ∙ is) ∙ ap code_of best.is

  -- the best goes where nothing else went
  best-goes : (x : Response) (xs : List Response) → p.candidates ≡ x ∷ xs → is_some passed.forwarded ≡ false → is_some (proxy_after passed (forwards_of (chosen_codes passed))).forwarded ≡ true
  unfolding proxy_after happens
  best-goes x xs is nothing =
      let best = best-is x xs (subst (λ (rs : List Response). AreFinal rs) is finals) in
      ap (λ (codes : List ℕ). is_some (proxy_after passed (forwards_of codes)).forwarded) (chosen-are x xs is nothing best) ∙ forward-gives best.response.code passed best.final

  end-is : proxy_after p (forwards_of (forwarded_codes p)) ≡ proxy_after passed (forwards_of (chosen_codes passed))
  unfolding forwarded_codes
  end-is = ap (proxy_after p) (forwards-more (chosen_codes passed) waits) ∙ after-append (forwards_of (chosen_codes passed)) (forwards_of waits) p

  chosen-or : (x : Response) (xs : List Response) → p.candidates ≡ x ∷ xs → (b : Bool) → is_some passed.forwarded ≡ b
      → is_some (proxy_after passed (forwards_of (chosen_codes passed))).forwarded ≡ true
  chosen-or x xs is true some = all-keep (chosen_codes passed) passed some
  chosen-or x xs is false nothing = best-goes x xs is nothing

  has-by : (f : Option ℕ) (cs : List Response) (g : Option Passing) → p.forwarded ≡ f → p.candidates ≡ cs → p.passing ≡ g
      → ((is_some f || not (length cs == 0)) || option_map_or (λ (passing : Passing). is_success passing.response.code) g false) ≡ true
      → is_some (proxy_after passed (forwards_of (chosen_codes passed))).forwarded ≡ true
  has-by (Some n) cs g first second third has = all-keep (chosen_codes passed) passed (all-keep waits p (ap (λ (f : Option ℕ). is_some f) first))
  has-by None (x ∷ xs) g first second third has = chosen-or x xs second (is_some passed.forwarded) refl
  has-by None [] (Some passing) first second third has = all-keep (chosen_codes passed) passed (passing-goes passing first third has)
  has-by None [] None first second third has = cc

  answers : has_answer p ≡ true → is_some (proxy_after p (forwards_of (forwarded_codes p))).forwarded ≡ true
  unfolding has_answer
  answers has = ap (λ (x : Proxy). is_some x.forwarded) end-is ∙ has-by p.forwarded p.candidates p.passing refl refl refl has

-- ## Targets that are to be started

no-targets : (us : List Uri) → length us ≡ 0 → (length us == 0) ≡ true
no-targets us is = zero-is (length us) is

none-taken : (us : List Uri) → length (take 1 us) ≡ 0 → (length us == 0) ≡ true
none-taken [] is = refl
none-taken (u ∷ us) is = absurd (no-one is)
  where
    no-one : suc 0 ≡ 0 → ⊥
    no-one is = grind (arith, is)

starting-none : (p : Proxy) → length (starting p) ≡ 0 → (has_open p ≡ true) ⊎ ((length p.targets == 0) ≡ true)
unfolding starting
starting-none p is = by (is_parallel p) (has_open p) refl is
  where
    by : (parallel running : Bool) → has_open p ≡ running → length (cond parallel p.targets (cond running [] (take 1 p.targets))) ≡ 0
        → (has_open p ≡ true) ⊎ ((length p.targets == 0) ≡ true)
    by true running at none = inr (no-targets p.targets none)
    by false true at none = inl at
    by false false at none = inr (none-taken p.targets none)

-- ## At the end of a turn

-- the search goes on, has not begun, was dropped, or a final response was forwarded
data Settled (first : Proxy) (events : List ProxyEvent) : Type 0 where
  Runs : has_open (proxy_after first events) ≡ true → Settled first events
  None_started : (length (proxy_after first events).branches == 0) ≡ true → Settled first events
  Has_forwarded : is_some (proxy_after first events).forwarded ≡ true → Settled first events
  Has_dropped : was_dropped first events ≡ true → Settled first events

rested-open : (bs : List Branch) → list_any is_open (map rested_branch bs) ≡ list_any is_open bs
unfolding rested_branch
rested-open [] = refl
rested-open (b ∷ bs) = ap (λ (o : Bool). is_open b || o) (rested-open bs)

rested-none : (bs : List Branch) → (length bs == 0) ≡ true → (length (map rested_branch bs) == 0) ≡ true
rested-none [] none = refl
rested-none (b ∷ bs) none = absurd (no-zero (length bs) none)

numbers-none : (bs : List Branch) → (length bs == 0) ≡ true → (length (map (λ (b : Branch). b.number) bs) == 0) ≡ true
numbers-none [] none = refl
numbers-none (b ∷ bs) none = absurd (no-zero (length bs) none)

open-counts : (bs : List Branch) → list_any is_open bs ≡ true → (length (map (λ (b : Branch). b.number) (filter is_open bs)) == 0) ≡ true → ⊥
open-counts [] some none = clash (sym some)
open-counts (b ∷ bs) some none = by (is_open b) some none (open-counts bs)
  where
    by : (o : Bool) → (o || list_any is_open bs) ≡ true → (length (map (λ (b : Branch). b.number) (cond o (b ∷ filter is_open bs) (filter is_open bs))) == 0) ≡ true
        → (list_any is_open bs ≡ true → (length (map (λ (b : Branch). b.number) (filter is_open bs)) == 0) ≡ true → ⊥) → ⊥
    by true some none more = no-zero (length (map (λ (b : Branch). b.number) (filter is_open bs))) none
    by false some none more = more some none

dropped-later : (first : Proxy) (codes : List ℕ) (events : List ProxyEvent) → was_dropped first events ≡ true → was_dropped first (forwards_of codes ++ events) ≡ true
unfolding was_dropped started_by is_stop
dropped-later first [] events is = is
dropped-later first (code ∷ codes) events is = dropped-later first codes events is

within-rest : (event : ProxyEvent) → IsWithin event → is_rest event ≡ false
unfolding IsWithin is_rest
within-rest event within = by event within
  where
    by : (event : ProxyEvent) → IsWithin event → is_rest event ≡ false
    by Rested within = absurd within
    by _ within = refl

-- ## A turn ends

module _ (q : Proxy) where
  abbrev first : Proxy
  first = as_begun q

  -- where it is settled so, there is an answer as it rests
  over-answered : (events : List ProxyEvent) → IsHad first events → Settled first events → is_over first events ≡ true → (is_some (forwarded_of events) || was_dropped first events) ≡ true
  unfolding is_over
  over-answered events had (Runs some) over =
      let list = proxies-stand q.req q.sess q.event q.request q.options events had in
      absurd (open-counts (proxy_after first events).branches some
      (no-item (length (running_of events)) _ (ap (λ (ns : List ℕ). length ns) (sym list.running)) (middle-of (not (length (started_of events) == 0)) (length (running_of events) == 0) (length (targets_of first events) == 0) over)))
  over-answered events had (None_started none) over =
      let list = proxies-stand q.req q.sess q.event q.request q.options events had in
      absurd (not-both (length (started_of events) == 0) (no-item _ (length (started_of events)) (ap (λ (ns : List ℕ). length ns) list.started) (numbers-none (proxy_after first events).branches none))
      (front-of (not (length (started_of events) == 0)) (length (running_of events) == 0) (length (targets_of first events) == 0) over))
  over-answered events had (Has_forwarded some) over =
      let list = proxies-stand q.req q.sess q.event q.request q.options events had in
      or-is (is_some (forwarded_of events)) (was_dropped first events) (ap (λ (f : Option ℕ). is_some f) (sym list.forwarded) ∙ some)
  over-answered events had (Has_dropped is) over = or-then (is_some (forwarded_of events)) (was_dropped first events) is

  rested-going : (events : List ProxyEvent) → Settled first events → Going first (Rested ∷ events)
  unfolding proxy_after happens rested has_answer was_dropped is_stop started_by
  rested-going events (Runs some) = Open (rested-open (proxy_after first events).branches ∙ some)
  rested-going events (None_started none) = Unstarted (rested-none (proxy_after first events).branches none)
  rested-going events (Has_forwarded some) = Answered (or-is _ _ (or-is (is_some (proxy_after first events).forwarded) _ some))
  rested-going events (Has_dropped is) = Dropped is

  rested-stands : (events : List ProxyEvent) → Settled first events → Stands first events → Stands first (Rested ∷ events)
  unfolding proxy_after happens rested
  rested-stands events settled stands = record { going = rested-going events settled; finals = stands.finals }

  rested-answered : (events : List ProxyEvent) → IsHad first events → Settled first events → IsAnswered first events Rested
  unfolding IsAnswered
  rested-answered events had settled = λ rest over. over-answered events had settled over

  -- what nothing was started for has what it had
  quiet-settled : (events : List ProxyEvent) → Stands first events → length (starting (proxy_after first events)) ≡ 0
      → Settled first (forwards_of (forwarded_codes (proxy_after first events)) ++ events)
  quiet-settled events stands none = by (has_open (proxy_after first events)) refl (starting-none (proxy_after first events) none) stands.going
    where
      by : (running : Bool) → has_open (proxy_after first events) ≡ running → (has_open (proxy_after first events) ≡ true) ⊎ ((length (proxy_after first events).targets == 0) ≡ true) → Going first events
          → Settled first (forwards_of (forwarded_codes (proxy_after first events)) ++ events)
      by true at which going = Runs (ap (λ (x : Proxy). has_open x) (after-append (forwards_of (forwarded_codes (proxy_after first events))) events first) ∙ ap (λ (bs : List Branch). list_any is_open bs) (all-branches (forwarded_codes (proxy_after first events)) (proxy_after first events)) ∙ at)
      by false at (inl running) going = absurd (clash (sym running ∙ at))
      by false at (inr empty) (Unstarted is) = None_started (ap (λ (x : Proxy). length x.branches == 0) (after-append (forwards_of (forwarded_codes (proxy_after first events))) events first) ∙ ap (λ (bs : List Branch). length bs == 0) (all-branches (forwarded_codes (proxy_after first events)) (proxy_after first events)) ∙ is)
      by false at (inr empty) (Open is) = absurd (clash (sym is ∙ at))
      by false at (inr empty) (Answered is) = Has_forwarded (ap (λ (x : Proxy). is_some x.forwarded) (after-append (forwards_of (forwarded_codes (proxy_after first events))) events first) ∙ answers (proxy_after first events) at empty stands.finals is)
      by false at (inr empty) (Dropped is) = Has_dropped (dropped-later first (forwarded_codes (proxy_after first events)) events is)
      by false at (inr empty) (Followed is some) = absurd (clash (sym empty ∙ some))

  -- one of its targets was started
  started-open : (now number : ℕ) (numbers codes : List ℕ) (events : List ProxyEvent) → has_open (proxy_after first (forwards_of codes ++ (starts_at now (number ∷ numbers) ++ events))) ≡ true
  unfolding proxy_after happens new_branch
  started-open now number numbers codes events =
      ap (λ (x : Proxy). has_open x) (after-append (forwards_of codes) (starts_at now (number ∷ numbers) ++ events) first)
      ∙ ap (λ (bs : List Branch). list_any is_open bs) (all-branches codes (proxy_after first (starts_at now (number ∷ numbers) ++ events)))
      ∙ last-open (proxy_after first (starts_at now numbers ++ events)).branches _ refl

  none-started : (numbers : List ℕ) (n : ℕ) → length numbers ≡ n → n ≡ 0 → numbers ≡ []
  none-started [] n is none = refl
  none-started (number ∷ numbers) n is none = absurd (some (length numbers) (is ∙ none))
    where
      some : (m : ℕ) → suc m ≡ 0 → ⊥
      some m is = grind (arith, is)

  end-settled : (now : ℕ) (numbers : List ℕ) (events : List ProxyEvent) → Stands first events → length numbers ≡ length (starting (proxy_after first events))
      → Settled first (forwards_of (forwarded_codes (proxy_after (proxy_after first events) (starts_at now numbers))) ++ (starts_at now numbers ++ events))
  unfolding proxy_after
  end-settled now [] events stands count = quiet-settled events stands (sym count)
  end-settled now (number ∷ numbers) events stands count = Runs (started-open now number numbers (forwarded_codes (proxy_after (proxy_after first events) (starts_at now (number ∷ numbers)))) events)

  -- ## What the whole turn leaves

  pub record IsDone (events : List ProxyEvent) : Type 0 where
    pub stands : Stands first events
    pub answered : AreAnswered first events

  within-answered : (later events : List ProxyEvent) → All IsWithin later → AreAnswered first events → AreAnswered first (later ++ events)
  unfolding All AreAnswered IsAnswered
  within-answered [] events within answered = answered
  within-answered (event ∷ later) events within answered =
      (λ rest over. absurd (clash (sym rest ∙ within-rest event within.0)), within-answered later events within.1 answered)

  pub within-done : (later events : List ProxyEvent) → IsHad first (later ++ events) → All IsWithin later → IsDone events → IsDone (later ++ events)
  within-done later events had within done = record { stands = within-stands q later events had within done.stands; answered = within-answered later events within done.answered }

  forwards-within : (codes : List ℕ) (later : List ProxyEvent) → All IsWithin later → All IsWithin (forwards_of codes ++ later)
  unfolding All IsWithin
  forwards-within [] later within = within
  forwards-within (code ∷ codes) later within = (tt, forwards-within codes later within)

  starts-within : (now : ℕ) (numbers : List ℕ) → All IsWithin (starts_at now numbers)
  unfolding All IsWithin
  starts-within now [] = tt
  starts-within now (number ∷ numbers) = (tt, starts-within now numbers)

  rests-done : (now : ℕ) (numbers codes : List ℕ) (events : List ProxyEvent) → length numbers ≡ length (starting (proxy_after first events))
      → codes ≡ forwarded_codes (proxy_after (proxy_after first events) (starts_at now numbers))
      → IsHad first (Rested ∷ ((forwards_of codes ++ starts_at now numbers) ++ events)) → IsDone events → IsDone (Rested ∷ ((forwards_of codes ++ starts_at now numbers) ++ events))
  unfolding AreAnswered
  rests-done now numbers codes events count is had done =
      let later : List ProxyEvent = forwards_of codes ++ starts_at now numbers in
      let had_more : IsHad first (later ++ events) = earlier-had first Rested (later ++ events) had in
      let more : IsDone (later ++ events) = within-done later events had_more (forwards-within codes (starts_at now numbers) (starts-within now numbers)) done in
      let settled : Settled first (later ++ events) = subst (λ (all : List ProxyEvent). Settled first all) (sym (append_assoc (forwards_of codes) (starts_at now numbers) events))
      (subst (λ (cs : List ℕ). Settled first (forwards_of cs ++ (starts_at now numbers ++ events))) (sym is) (end-settled now numbers events done.stands count)) in
      record {
        stands = rested-stands (later ++ events) settled more.stands;
        answered = (rested-answered (later ++ events) had_more settled, more.answered);
      }

  pub end-done : (now : ℕ) (ended events : List ProxyEvent) → IsOfEnd now (proxy_after first events) ended → IsHad first (ended ++ events) → IsDone events → IsDone (ended ++ events)
  unfolding IsOfEnd
  end-done now ended events (inl none) had done = subst (λ (later : List ProxyEvent). IsDone (later ++ events)) (sym none) done
  end-done now ended events (inr (numbers, count, is)) had done =
      subst (λ (later : List ProxyEvent). IsDone (later ++ events)) (sym is)
      (rests-done now numbers _ events count refl (subst (λ (later : List ProxyEvent). IsHad first (later ++ events)) is had) done)
