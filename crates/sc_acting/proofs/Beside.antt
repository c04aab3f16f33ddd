-- A proxied request that acts leaves the others as they are.
use Rattle.std.proofs.Common.{◌≡◌, ◌==◌, ℕ, Bool, true, false, cond, ◌&&◌, T, Option, Some, None, List, [], ◌∷◌, is_some, refl, ap, sym, subst, ◌∙◌, arith, unwrap_or}
use Rattle.std.specs.List.{find, fold}
use Rattle.std.proofs.lemmas.Bool.Decides.{nat_tests}
use Rattle.sc_value.specs.Lists.{change_first}
use Rattle.sc_value.specs.declared.ids.ReqId.{ReqId}
use Rattle.sc_value.specs.declared.ids.SessId.{SessId}
use Rattle.sc_value.specs.declared.message.Response.{Response}
use Rattle.sc_value.specs.declared.parts.Uri.{Uri}
use Rattle.sc_terms.specs.declared.settings.Config.{Config}
use Rattle.sc_state.specs.declared.proxy.Branch.{Branch}
use Rattle.sc_state.specs.declared.proxy.Passing.{Passing}
use Rattle.sc_state.specs.declared.proxy.Proxy.{Proxy}
use Rattle.sc_state.specs.declared.session.Known.{Known}
use Rattle.sc_state.specs.declared.working.Working.{Working}
use Rattle.sc_model.specs.BestResponses.{best_response}
use Rattle.sc_hosts.specs.Branches.{can_choose, can_pass, is_exhausted, new_branch, starting}
use Rattle.sc_hosts.specs.Preparing.{proxy_of}
use Rattle.sc_hosts.specs.PreparingResponses.{change_proxy, is_invalid}
use Rattle.sc_hosts.specs.Working.{next_branch}
use Rattle.sc_hosts.specs.Acting.{acts, after_proxy, after_start, at_rest, chooses, closes, forwards, forwards_best, passes, proxy_now, sends_cancels, with_forwarded}
use Rattle.sc_acting.specs.Acts.{with_new_branch}
use Rattle.sc_acting.proofs.Starts.{started_is}

pub same_number : (a b : ℕ) → (a == b) ≡ true → a ≡ b
same_number a b e = grind (arith, nat_tests, e)

-- ## Lists

-- what is found passes
found_passes : {X : Type 0} (p : X → Bool) (x : X) (xs : List X) → find p xs ≡ Some x → p x ≡ true
found_passes p x [] is = absurd (subst (λ o. T (is_some o)) (sym is) tt)
found_passes {X} p x (y ∷ ys) is =
    elim (p y) as (λ b. p y ≡ b → cond b (Some y) (find p ys) ≡ Some x → p x ≡ true) [
      | true ↦ λ t e. subst (λ z. p z ≡ true) (some_is y x e) t
      | false ↦ λ _ e. found_passes p x ys e
    ] refl is
  where
    some_is : (a b : X) → Some a ≡ Some b → a ≡ b
    some_is a b e = ap (λ o. unwrap_or o a) e

found_beside : (n r : ReqId) → (n.0 == r.0) ≡ false → (f : Proxy → Proxy) → ((p : Proxy) → (f p).req ≡ p.req) → (proxies : List Proxy)
    → find (λ p. p.req.0 == r.0) (change_first (λ p. p.req.0 == n.0) f proxies) ≡ find (λ p. p.req.0 == r.0) proxies
unfolding change_first
found_beside n r other f keeps [] = refl
found_beside n r other f keeps (x ∷ xs) =
    elim (x.req.0 == n.0) as (λ b. (x.req.0 == n.0) ≡ b → find (λ p. p.req.0 == r.0) (cond b (f x ∷ xs) (x ∷ change_first (λ p. p.req.0 == n.0) f xs)) ≡ cond (x.req.0 == r.0) (Some x) (find (λ p. p.req.0 == r.0) xs)) [
      | true ↦ λ t.
          let x_other : (x.req.0 == r.0) ≡ false = ap (λ (z : ℕ). z == r.0) (same_number x.req.0 n.0 t) ∙ other in
          let fx_other : ((f x).req.0 == r.0) ≡ false = ap (λ (q : ReqId). q.0 == r.0) (keeps x) ∙ x_other in
          ap (λ b. cond b (Some (f x)) (find (λ p. p.req.0 == r.0) xs)) fx_other ∙ sym (ap (λ b. cond b (Some x) (find (λ p. p.req.0 == r.0) xs)) x_other)
      | false ↦ λ _. ap (λ l. cond (x.req.0 == r.0) (Some x) l) (found_beside n r other f keeps xs)
    ] refl

-- ## One change

known_beside : (n m : ReqId) → m.0 ≡ n.0 → (f : Proxy → Proxy) → ((p : Proxy) → (f p).req ≡ p.req) → (known : Known) (r : ReqId) → (n.0 == r.0) ≡ false
    → proxy_of (change_proxy m f known) r ≡ proxy_of known r
unfolding proxy_of
known_beside n m same f keeps known r other = found_beside m r (ap (λ (z : ℕ). z == r.0) same ∙ other) f keeps known.proxies

branch_named : (branch : Branch) (p : Proxy) → (with_new_branch branch p).req ≡ p.req
unfolding with_new_branch
branch_named branch p = refl

forwarded_named : (code : ℕ) (p : Proxy) → (with_forwarded code p).req ≡ p.req
unfolding with_forwarded
forwarded_named code p = by _
  where
    by : (b : Bool) → (cond b (record p { forwarded = Some code }) p).req ≡ p.req
    by true = refl
    by false = refl

rest_named : (p : Proxy) → (at_rest p).req ≡ p.req
unfolding at_rest
rest_named p = refl

found_if : (b : Bool) (x w : Working) (r : ReqId) → proxy_of x.known r ≡ proxy_of w.known r → proxy_of (cond b x w).known r ≡ proxy_of w.known r
found_if true x w r e = e
found_if false x w r e = refl

found_else : (b : Bool) (x w : Working) (r : ReqId) → proxy_of x.known r ≡ proxy_of w.known r → proxy_of (cond b w x).known r ≡ proxy_of w.known r
found_else true x w r e = refl
found_else false x w r e = e

-- ## The parts of what it does

module _ (r : ReqId) where
  start_beside : (config : Config) (p : Proxy) (w : Working) (uri : Uri) → (p.req.0 == r.0) ≡ false → proxy_of (after_start config p w uri).known r ≡ proxy_of w.known r
  start_beside config p w uri other =
      ap (λ (v : Working). proxy_of v.known r) (started_is config p w uri)
      ∙ known_beside p.req p.req refl (with_new_branch (new_branch p (next_branch w) w.play.view.now)) (branch_named (new_branch p (next_branch w) w.play.view.now)) w.known r other

  starts_beside : (config : Config) (p : Proxy) (uris : List Uri) (w : Working) → (p.req.0 == r.0) ≡ false → proxy_of (fold (after_start config p) w uris).known r ≡ proxy_of w.known r
  starts_beside config p [] w other = refl
  starts_beside config p (uri ∷ uris) w other = starts_beside config p uris (after_start config p w uri) other ∙ start_beside config p w uri other

  forwards_beside : (n : ReqId) (p : Proxy) → p.req.0 ≡ n.0 → (sess : SessId) (response : Response) (w : Working) → (n.0 == r.0) ≡ false → proxy_of (forwards p sess response w).known r ≡ proxy_of w.known r
  unfolding forwards
  forwards_beside n p same sess response w other = known_beside n p.req same (with_forwarded response.code) (forwarded_named response.code) w.known r other

  passes_beside : (n : ReqId) (p : Proxy) → p.req.0 ≡ n.0 → (passing : Option Passing) (w : Working) → (n.0 == r.0) ≡ false → proxy_of (passes p passing w).known r ≡ proxy_of w.known r
  unfolding passes
  passes_beside n p same None w other = refl
  passes_beside n p same (Some passing) w other = found_if (can_pass p passing.response) (forwards p passing.sess passing.response w) w r (forwards_beside n p same passing.sess passing.response w other)

  best_beside : (n : ReqId) (p : Proxy) → p.req.0 ≡ n.0 → (response : Option Response) (w : Working) → (n.0 == r.0) ≡ false → proxy_of (forwards_best p response w).known r ≡ proxy_of w.known r
  unfolding forwards_best
  best_beside n p same None w other = refl
  best_beside n p same (Some response) w other = forwards_beside n p same p.sess response w other

  chooses_beside : (n : ReqId) (p : Proxy) → p.req.0 ≡ n.0 → (w : Working) → (n.0 == r.0) ≡ false → proxy_of (chooses p w).known r ≡ proxy_of w.known r
  unfolding chooses
  chooses_beside n p same w other = found_if (can_choose p) (forwards_best p (best_response p.candidates) w) w r (best_beside n p same (best_response p.candidates) w other)

  cancels_beside : (p : Proxy) (w : Working) → proxy_of (sends_cancels p w).known r ≡ proxy_of w.known r
  unfolding sends_cancels
  cancels_beside p w = refl

  closes_beside : (p : Proxy) (w : Working) → proxy_of (closes p w).known r ≡ proxy_of w.known r
  unfolding closes
  closes_beside p w = found_if (is_exhausted p && is_some p.options) _ w r refl

  now_named : (p : Proxy) (w : Working) → (proxy_now p w).req.0 ≡ p.req.0
  unfolding proxy_now proxy_of
  now_named p w = by (find (λ q. q.req.0 == p.req.0) w.known.proxies) refl
    where
      by : (o : Option Proxy) → find (λ q. q.req.0 == p.req.0) w.known.proxies ≡ o → (unwrap_or o p).req.0 ≡ p.req.0
      by None e = refl
      by (Some q) e = same_number q.req.0 p.req.0 (found_passes (λ z. z.req.0 == p.req.0) q w.known.proxies e)

  after_beside : (config : Config) (p : Proxy) (w : Working) → (p.req.0 == r.0) ≡ false → proxy_of (after_proxy config p w).known r ≡ proxy_of w.known r
  unfolding after_proxy
  after_beside config p w other =
      let begun : Working = fold (after_start config p) w (starting p) in
      let passed : Working = passes (proxy_now p begun) p.passing begun in
      let chosen : Working = chooses (proxy_now p passed) passed in
      let sent : Working = sends_cancels p chosen in
      let closed : Working = closes (proxy_now p chosen) sent in
      known_beside p.req p.req refl at_rest rest_named closed.known r other
      ∙ closes_beside (proxy_now p chosen) sent
      ∙ cancels_beside p chosen
      ∙ chooses_beside p.req (proxy_now p passed) (now_named p passed) passed other
      ∙ passes_beside p.req (proxy_now p begun) (now_named p begun) p.passing begun other
      ∙ starts_beside config p (starting p) w other

  pub acts_beside : (config : Config) (w : Working) (p : Proxy) → (p.req.0 == r.0) ≡ false → proxy_of (acts config w p).known r ≡ proxy_of w.known r
  unfolding acts
  acts_beside config w p other = found_else (is_invalid w.known p.sess) (after_proxy config p w) w r (after_beside config p w other)
