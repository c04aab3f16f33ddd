-- A proxied request that has nothing to do leaves a turn as it is.
use Rattle.std.proofs.Common.{◌≡◌, ◌==◌, Bool, true, false, not, cond, ◌&&◌, T, Option, Some, None, List, [], ◌∷◌, ◌++◌, is_some, is_none, length, map, take, append-nil, refl, ap, sym, subst, ◌∙◌, arith, unwrap_or}
use Rattle.std.specs.List.{find, filter, fold, list_all}
use Rattle.sc_value.specs.Lists.{change_first}
use Rattle.sc_terms.specs.declared.settings.Config.{Config}
use Rattle.sc_state.specs.declared.orders.Order.TheVariants as orders
use Rattle.sc_state.specs.declared.proxy.Branch.{Branch}
use Rattle.sc_state.specs.declared.proxy.Proxy.{Proxy}
use Rattle.sc_state.specs.declared.working.Working.{Working}
use Rattle.sc_model.specs.BestResponses.{best_response}
use Rattle.sc_hosts.specs.Branches.{can_choose, cancelled_now, has_open, is_exhausted, is_invite, is_open, is_parallel, starting}
use Rattle.sc_hosts.specs.Preparing.{proxy_of}
use Rattle.sc_hosts.specs.PreparingResponses.{is_invalid}
use Rattle.sc_hosts.specs.Acting.{acts, after_proxy, after_start, at_rest, chooses, closed_session, closes, forwards_best, in_proxy, in_view, passes, proxy_now, rested_branch, sends_cancels}
use Rattle.sc_acting.specs.Quiet.{is_at_rest, is_quiet}
use Rattle.sc_acting.proofs.Beside.{same_number}

-- ## Tests

left : (a b : Bool) → (a && b) ≡ true → a ≡ true
left true b e = refl
left false b e = absurd (subst T (sym e) tt)

right : (a b : Bool) → (a && b) ≡ true → b ≡ true
right true b e = e
right false b e = absurd (subst T (sym e) tt)

not_true : (b : Bool) → not b ≡ true → b ≡ false
not_true true e = absurd (subst T (sym e) tt)
not_true false e = refl

and_false : (a : Bool) → (a && false) ≡ false
and_false true = refl
and_false false = refl

is_empty : {A : Type 0} (xs : List A) → (length xs == 0) ≡ true → xs ≡ []
is_empty [] e = refl
is_empty (x ∷ xs) e = absurd (omega (arith, same_number (length (x ∷ xs)) 0 e))

is_nothing : {A : Type 0} (o : Option A) → is_none o ≡ true → o ≡ None
is_nothing None e = refl
is_nothing (Some x) e = absurd (subst T (sym e) tt)

-- ## Branches at rest

no_cancel : (branches : List Branch) → list_all is_at_rest branches ≡ true → filter (λ branch. is_open branch && branch.cancelled) branches ≡ []
unfolding is_at_rest
no_cancel [] rest = refl
no_cancel (x ∷ xs) rest =
    let x_rests : x.cancelled ≡ false = not_true x.cancelled (left (not x.cancelled) (list_all is_at_rest xs) rest) in
    ap (λ b. cond b (x ∷ filter (λ branch. is_open branch && branch.cancelled) xs) (filter (λ branch. is_open branch && branch.cancelled) xs)) (ap (λ b. is_open x && b) x_rests ∙ and_false (is_open x))
    ∙ no_cancel xs (right (not x.cancelled) (list_all is_at_rest xs) rest)

all_stay : (branches : List Branch) → list_all is_at_rest branches ≡ true → map rested_branch branches ≡ branches
unfolding is_at_rest rested_branch
all_stay [] rest = refl
all_stay (x ∷ xs) rest =
    let x_rests : x.cancelled ≡ false = not_true x.cancelled (left (not x.cancelled) (list_all is_at_rest xs) rest) in
    ap (λ b. record x { cancelled = b } ∷ map rested_branch xs) (sym x_rests) ∙ ap (λ l. x ∷ l) (all_stay xs (right (not x.cancelled) (list_all is_at_rest xs) rest))

-- the first that passes is changed to itself
change_same : {A : Type 0} (test : A → Bool) (f : A → A) (x : A) (xs : List A) → find test xs ≡ Some x → f x ≡ x → change_first test f xs ≡ xs
unfolding change_first
change_same test f x [] is same = refl
change_same {A} test f x (y ∷ ys) is same =
    elim (test y) as (λ b. cond b (Some y) (find test ys) ≡ Some x → cond b (f y ∷ ys) (y ∷ change_first test f ys) ≡ y ∷ ys) [
      | true ↦ λ e. ap (λ z. z ∷ ys) (ap f (some_is y x e) ∙ same ∙ sym (some_is y x e))
      | false ↦ λ e. ap (λ l. y ∷ l) (change_same test f x ys e same)
    ] is
  where
    some_is : (a b : A) → Some a ≡ Some b → a ≡ b
    some_is a b e = ap (λ o. unwrap_or o a) e

-- ## What is known of one that has nothing to do

module _ (p : Proxy) (quiet : is_quiet p ≡ true) where
  four : (length p.targets == 0 && is_none p.passing && not p.heard_final && not (can_choose p)) ≡ true
  unfolding is_quiet
  four = left (length p.targets == 0 && is_none p.passing && not p.heard_final && not (can_choose p)) (list_all is_at_rest p.branches) quiet

  rests : list_all is_at_rest p.branches ≡ true
  unfolding is_quiet
  rests = right (length p.targets == 0 && is_none p.passing && not p.heard_final && not (can_choose p)) (list_all is_at_rest p.branches) quiet

  three : (length p.targets == 0 && is_none p.passing && not p.heard_final) ≡ true
  three = left (length p.targets == 0 && is_none p.passing && not p.heard_final) (not (can_choose p)) four

  no_choice : can_choose p ≡ false
  no_choice = not_true (can_choose p) (right (length p.targets == 0 && is_none p.passing && not p.heard_final) (not (can_choose p)) four)

  two : (length p.targets == 0 && is_none p.passing) ≡ true
  two = left (length p.targets == 0 && is_none p.passing) (not p.heard_final) three

  unheard : p.heard_final ≡ false
  unheard = not_true p.heard_final (right (length p.targets == 0 && is_none p.passing) (not p.heard_final) three)

  no_target : p.targets ≡ []
  no_target = is_empty p.targets (left (length p.targets == 0) (is_none p.passing) two)

  no_passing : p.passing ≡ None
  no_passing = is_nothing p.passing (right (length p.targets == 0) (is_none p.passing) two)

  none_start : starting p ≡ []
  unfolding starting
  none_start = by (is_parallel p) (has_open p)
    where
      by : (a b : Bool) → cond a p.targets (cond b [] (take 1 p.targets)) ≡ []
      by true b = no_target
      by false true = refl
      by false false = ap (take 1) no_target

  none_cancelled : cancelled_now p ≡ []
  unfolding cancelled_now
  none_cancelled = by (is_invite p)
    where
      by : (b : Bool) → cond b (map (λ (branch : Branch). branch.number) (filter (λ branch. is_open branch && branch.cancelled) p.branches)) [] ≡ []
      by true = ap (λ l. map (λ (branch : Branch). branch.number) l) (no_cancel p.branches rests)
      by false = refl

  not_exhausted : is_exhausted p ≡ false
  unfolding is_exhausted
  not_exhausted = ap (λ b. b && not (has_open p) && length p.targets == 0) unheard

  rest_same : at_rest p ≡ p
  unfolding at_rest
  rest_same =
      ap (λ l. record p { branches = l; passing = None; heard_final = false }) (all_stay p.branches rests)
      ∙ ap (λ o. record p { passing = o; heard_final = false }) (sym no_passing)
      ∙ ap (λ b. record p { heard_final = b }) (sym unheard)

  -- ## The turn

  module _ (w : Working) (found : proxy_of w.known p.req ≡ Some p) where
    now_same : proxy_now p w ≡ p
    unfolding proxy_now
    now_same = ap (λ o. unwrap_or o p) found

    starts_same : (config : Config) → fold (after_start config p) w (starting p) ≡ w
    starts_same config = ap (λ l. fold (after_start config p) w l) none_start

    passes_same : passes (proxy_now p w) p.passing w ≡ w
    unfolding passes
    passes_same = ap (λ o. passes (proxy_now p w) o w) no_passing

    chooses_same : chooses (proxy_now p w) w ≡ w
    unfolding chooses
    chooses_same = ap (λ q. chooses q w) now_same ∙ ap (λ b. cond b (forwards_best p (best_response p.candidates) w) w) no_choice

    cancels_same : sends_cancels p w ≡ w
    unfolding sends_cancels
    cancels_same =
        ap (λ l. record w { orders = w.orders ++ map (λ branch. orders.Cancel branch) l }) (ap cancelled_now now_same ∙ none_cancelled)
        ∙ ap (λ l. record w { orders = l }) (append-nil w.orders)

    closes_same : closes (proxy_now p w) (sends_cancels p w) ≡ w
    unfolding closes
    closes_same =
        ap (λ q. closes q (sends_cancels p w)) now_same
        ∙ ap (λ v. closes p v) cancels_same
        ∙ ap (λ b. cond (b && is_some p.options) (in_view (record w.play.view { sessions = map (closed_session w.known p.req p.sess) w.play.view.sessions }) w) w) not_exhausted

    rests_same : in_proxy p.req at_rest w ≡ w
    unfolding proxy_of
    rests_same = ap (λ l. record w { known = record w.known { proxies = l } }) (change_same (λ q. q.req.0 == p.req.0) at_rest p w.known.proxies found rest_same)

    after_by : (config : Config) (begun passed chosen : Working) → fold (after_start config p) w (starting p) ≡ begun → passes (proxy_now p begun) p.passing begun ≡ passed → chooses (proxy_now p passed) passed ≡ chosen
        → after_proxy config p w ≡ in_proxy p.req at_rest (closes (proxy_now p chosen) (sends_cancels p chosen))
    unfolding after_proxy
    after_by config begun passed chosen a b c = rw (a, b, c) refl

    after_same : (config : Config) → after_proxy config p w ≡ w
    after_same config =
        after_by config w w w (starts_same config) passes_same chooses_same
        ∙ ap (λ v. in_proxy p.req at_rest v) closes_same
        ∙ rests_same

    pub acts_same : (config : Config) → acts config w p ≡ w
    unfolding acts
    acts_same config = by (is_invalid w.known p.sess)
      where
        by : (b : Bool) → cond b w (after_proxy config p w) ≡ w
        by true = refl
        by false = after_same config
