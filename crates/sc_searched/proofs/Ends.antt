-- The final response of the last branch ends a search, and is there to be forwarded.
use Rattle.std.proofs.Common.{◌≡◌, ℕ, suc, ◌++◌, Bool, true, false, List, [], ◌∷◌, refl, sym, ap, ◌∙◌, arith}
use Rattle.std.proofs.lemmas.Bool.Decides.{nat_tests}
use Rattle.std.specs.Prelude.{◌==◌, ◌&&◌, ◌||◌, cond, is_some, length, map, nat_le, nat_lt, not}
use Rattle.std.specs.List.{list_any}
use Rattle.sc_value.specs.declared.ids.SessId.{SessId}
use Rattle.sc_value.specs.declared.message.Response.{Response}
use Rattle.sc_value.specs.declared.parts.Uri.{Uri}
use Rattle.sc_state.specs.declared.proxy.Branch.{Branch}
use Rattle.sc_state.specs.declared.proxy.Proxy.{Proxy}
use Rattle.sc_model.specs.SessionStates.{is_final}
use Rattle.sc_model.specs.Transactions.{is_success}
use Rattle.sc_hosts.specs.Branches.{added_targets, after_end, cancelled_branch, ended_branch, ended_by, ends_last, has_open, proxy_after_response as heard, is_exhausted, is_global, is_open, leaves_target, passing_on, recurses, after_ringing as rung, without_search as stopped, with_candidate, with_targets}
use Rattle.sc_searched.specs.Searches.{has_answer, is_open_in}

-- ## Booleans and lengths

left-true : (a b : Bool) → (a && b) ≡ true → a ≡ true
left-true true b is = refl
left-true false b is = cc

right-true : (a b : Bool) → (a && b) ≡ true → b ≡ true
right-true true b is = is
right-true false b is = cc

or-true : (a : Bool) → (a || true) ≡ true
or-true true = refl
or-true false = refl

no-zero : (n : ℕ) → (suc n == 0) ≡ false
no-zero n = grind (arith, nat_tests)

none-both : (xs ys : List Uri) → (length (xs ++ ys) == 0) ≡ ((length xs == 0) && (length ys == 0))
none-both [] ys = refl
none-both (x ∷ xs) ys = rw (no-zero (length (xs ++ ys)), no-zero (length xs)) refl

some-length : (xs : List Response) (y : Response) → (length (xs ++ y ∷ []) == 0) ≡ false
some-length [] y = no-zero 0
some-length (x ∷ xs) y = no-zero (length (xs ++ y ∷ []))

-- ## Codes

not-three : (code : ℕ) → nat_lt code 300 ≡ true → nat_le 300 code ≡ false
not-three code p = grind (arith, nat_tests, p)

not-four : (code : ℕ) → nat_le 600 code ≡ true → nat_lt code 400 ≡ false
not-four code p = grind (arith, nat_tests, p)

and-false : (a : Bool) → (a && false) ≡ false
and-false true = refl
and-false false = refl

success-adds : (p : Proxy) (response : Response) → is_success response.code ≡ true → added_targets p response ≡ []
unfolding added_targets
success-adds p response is = rw (not-three response.code (right-true (is_final response.code) (nat_lt response.code 300) is)) refl

pub global-adds : (p : Proxy) (response : Response) → is_global response.code ≡ true → added_targets p response ≡ []
unfolding added_targets
global-adds p response is = rw (not-four response.code is, and-false (nat_le 300 response.code)) refl

-- ## Branches

cancelled-open : (c : Bool) (b : Branch) → is_open (cond c (record b { cancelled = true }) b) ≡ is_open b
cancelled-open true b = refl
cancelled-open false b = refl

pub open-same : (bs : List Branch) → list_any is_open (map cancelled_branch bs) ≡ list_any is_open bs
unfolding cancelled_branch
open-same [] = refl
open-same (b ∷ bs) = rw (cancelled-open (is_open b) b, open-same bs) refl

stop-by : (o : Bool) → ((true && not o) && true) ≡ not o
stop-by true = refl
stop-by false = refl

stopped-exhausted : (x : Proxy) → x.heard_final ≡ true → is_exhausted (stopped x) ≡ not (has_open x)
unfolding is_exhausted stopped
stopped-exhausted x heard = rw (heard, open-same x.branches) (stop-by (list_any is_open x.branches))

-- what a candidate leaves
record IsBeside (x y : Proxy) : Type 0 where
  branches : y.branches ≡ x.branches
  targets : y.targets ≡ x.targets
  heard : y.heard_final ≡ x.heard_final

if-beside : (c : Bool) (x y z : Proxy) → IsBeside x y → IsBeside x z → IsBeside x (cond c y z)
if-beside true x y z p q = p
if-beside false x y z p q = q

candidate-beside : (response : Response) (x : Proxy) → IsBeside x (with_candidate response x)
unfolding with_candidate
candidate-beside response x = if-beside (is_success response.code || not (length (added_targets x response) == 0)) x x (record x { candidates = x.candidates ++ response ∷ [] })
    (record { branches = refl; targets = refl; heard = refl }) (record { branches = refl; targets = refl; heard = refl })

ended-heard : (n code : ℕ) (p : Proxy) → (ended_branch n code p).heard_final ≡ true
unfolding ended_branch
ended-heard n code p = refl

ended-targets : (n code : ℕ) (p : Proxy) → (ended_branch n code p).targets ≡ p.targets
unfolding ended_branch
ended-targets n code p = refl

-- ## The end of a search

module _ (n : ℕ) (sess : SessId) (response : Response) (p : Proxy) where
  abbrev e : Proxy
  e = ended_branch n response.code p

  abbrev c : Proxy
  c = with_candidate response e

  abbrev t : Proxy
  t = with_targets (added_targets p response) c

  t-heard : t.heard_final ≡ true
  unfolding with_targets
  t-heard = (candidate-beside response e).heard ∙ ended-heard n response.code p

  t-open : has_open t ≡ has_open e
  unfolding with_targets
  t-open = ap (λ (bs : List Branch). list_any is_open bs) (candidate-beside response e).branches

  stop-ends : is_exhausted (stopped t) ≡ not (has_open e)
  stop-ends = stopped-exhausted t t-heard ∙ ap not t-open

  settled-last : (is_success response.code || is_global response.code) ≡ true → added_targets p response ≡ [] → ends_last n response p ≡ not (has_open e)
  unfolding ends_last leaves_target
  settled-last is none = rw (is, none, and-false (not (length p.targets == 0))) (last-by (has_open e))
    where
      last-by : (o : Bool) → ((not o && true) && true) ≡ not o
      last-by true = refl
      last-by false = refl

  passing-same : is_exhausted (passing_on sess response (stopped t)) ≡ is_exhausted (stopped t)
  unfolding is_exhausted passing_on
  passing-same = refl

  open-ends : (is_success response.code || is_global response.code) ≡ false → is_exhausted t ≡ ends_last n response p
  unfolding is_exhausted ends_last leaves_target with_targets
  open-ends is =
      rw (
        is,
        (candidate-beside response e).heard,
        (candidate-beside response e).branches,
        (candidate-beside response e).targets,
        ended-heard n response.code p,
        ended-targets n response.code p,
        none-both p.targets (added_targets p response),
      ) (bools (has_open e) (length p.targets == 0) (length (added_targets p response) == 0))
    where
      bools : (o x a : Bool) → ((true && not o) && (x && a)) ≡ ((not o && not (not x && true)) && a)
      bools true x a = refl
      bools false true a = refl
      bools false false a = refl

  by-code : (s g : Bool) → is_success response.code ≡ s → is_global response.code ≡ g
      → is_exhausted (cond s (passing_on sess response (stopped t)) (cond g (stopped t) t)) ≡ ends_last n response p
  by-code true g is-s is-g = passing-same ∙ stop-ends ∙ sym (settled-last (ap (λ (b : Bool). b || is_global response.code) is-s) (success-adds p response is-s))
  by-code false true is-s is-g = stop-ends ∙ sym (settled-last (ap (λ (b : Bool). is_success response.code || b) is-g ∙ or-true (is_success response.code)) (global-adds p response is-g))
  by-code false false is-s is-g = open-ends (ap (λ (b : Bool). b || is_global response.code) is-s ∙ is-g)

  pub ended-ends : is_exhausted (ended_by n sess response p) ≡ ends_last n response p
  unfolding ended_by
  ended-ends = by-code (is_success response.code) (is_global response.code) refl refl

  -- ## What is there to be forwarded

  last-adds : ends_last n response p ≡ true → (length (added_targets p response) == 0) ≡ true
  unfolding ends_last
  last-adds ends = right-true _ (length (added_targets p response) == 0) ends

  added-same : added_targets e response ≡ added_targets p response
  unfolding added_targets recurses ended_branch
  added-same = refl

  is-candidate : is_success response.code ≡ false → (length (added_targets p response) == 0) ≡ true → c.candidates ≡ e.candidates ++ response ∷ []
  unfolding with_candidate
  is-candidate is none = rw (is, added-same, none) refl

  has-candidate : (x : Proxy) → x.candidates ≡ e.candidates ++ response ∷ [] → has_answer x ≡ true
  unfolding has_answer
  has-candidate x is = rw (is, some-length e.candidates response) (candidate-by (is_some x.forwarded) _)
    where
      candidate-by : (a b : Bool) → ((a || true) || b) ≡ true
      candidate-by true b = refl
      candidate-by false b = refl

  waits : is_success response.code ≡ true → has_answer (passing_on sess response (stopped t)) ≡ true
  unfolding has_answer passing_on
  waits is = rw is (or-true _)

  answer-by : (s g : Bool) → is_success response.code ≡ s → (length (added_targets p response) == 0) ≡ true
      → has_answer (cond s (passing_on sess response (stopped t)) (cond g (stopped t) t)) ≡ true
  unfolding stopped with_targets
  answer-by true g is none = waits is
  answer-by false true is none = has-candidate (stopped t) (is-candidate is none)
  answer-by false false is none = has-candidate t (is-candidate is none)

  pub ended-answers : ends_last n response p ≡ true → has_answer (ended_by n sess response p) ≡ true
  unfolding ended_by
  ended-answers ends = answer-by (is_success response.code) (is_global response.code) refl (last-adds ends)

  -- where it adds no target, it is there to be forwarded
  pub ended-unadded : (length (added_targets p response) == 0) ≡ true → has_answer (ended_by n sess response p) ≡ true
  unfolding ended_by
  ended-unadded none = answer-by (is_success response.code) (is_global response.code) refl none

-- ## A response

pub heard-ends : (n : ℕ) (sess : SessId) (response : Response) (now : ℕ) (p : Proxy) → is_open_in n p ≡ true → is_final response.code ≡ true
    → is_exhausted (heard n sess response now p) ≡ ends_last n response p
unfolding heard
heard-ends n sess response now p open_one final = rw (open_one, final) (ended-ends n sess response p)

pub heard-answers : (n : ℕ) (sess : SessId) (response : Response) (now : ℕ) (p : Proxy) → is_open_in n p ≡ true → is_final response.code ≡ true → ends_last n response p ≡ true
    → has_answer (heard n sess response now p) ≡ true
unfolding heard
heard-answers n sess response now p open_one final ends = rw (open_one, final) (ended-answers n sess response p ends)

-- what isn't the first final response of a branch ends nothing
late-by : (sess : SessId) (response : Response) (p : Proxy) (s : Bool) → p.heard_final ≡ false → is_exhausted (cond s (passing_on sess response (stopped p)) p) ≡ false
unfolding is_exhausted passing_on stopped
late-by sess response p true none = rw none refl
late-by sess response p false none = rw none refl

pub ended-stays : (n : ℕ) (sess : SessId) (response : Response) (now : ℕ) (p : Proxy) → is_open_in n p ≡ false → p.heard_final ≡ false → is_exhausted (heard n sess response now p) ≡ false
unfolding heard after_end
ended-stays n sess response now p closed none = rw closed (late-by sess response p (is_success response.code) none)

pub rung-stays : (n : ℕ) (sess : SessId) (response : Response) (now : ℕ) (p : Proxy) → is_open_in n p ≡ true → is_final response.code ≡ false → p.heard_final ≡ false
    → is_exhausted (heard n sess response now p) ≡ false
unfolding heard passing_on rung is_exhausted
rung-stays n sess response now p open_one provisional none = rw (open_one, provisional, none) refl

-- ## What comes of it else in the turn

pub stopped-ends : (p : Proxy) → is_exhausted (stopped p) ≡ (p.heard_final && not (has_open p))
unfolding is_exhausted stopped
stopped-ends p = rw (open-same p.branches) (whole-by (p.heard_final && not (has_open p)))
  where
    whole-by : (b : Bool) → (b && true) ≡ b
    whole-by true = refl
    whole-by false = refl

pub stopped-answers : (p : Proxy) → has_answer (stopped p) ≡ has_answer p
unfolding has_answer stopped
stopped-answers p = refl
