-- Pages of proxied requests that rest.
use Rattle.std.proofs.Common.{◌≡◌, ◌&&◌, ◌==◌, Bool, true, false, not, T, List, [], ◌∷◌, ◌++◌, cond, length, refl, ap, sym, subst, ◌∙◌, append-nil}
use Rattle.std.specs.List.{filter, list_all}
use Rattle.std.specs.Prelude.{is_none}
use Rattle.sc_state.specs.declared.proxy.Branch.{Branch}
use Rattle.sc_state.specs.declared.proxy.Proxy.{Proxy}
use Rattle.sc_state.specs.Resting.{has_no_timer, is_resting}
use Rattle.sc_hosts.specs.Branches.{can_choose, has_open}
use Rattle.sc_acting.specs.Quiet.{is_at_rest, is_busy, is_quiet}

false_true : false ≡ true → ⊥
false_true e = subst T (sym e) tt

left : (a b : Bool) → (a && b) ≡ true → a ≡ true
left true b e = refl
left false b e = absurd (false_true e)

right : (a b : Bool) → (a && b) ≡ true → b ≡ true
right true b e = e
right false b e = absurd (false_true e)

at_rest : (branches : List Branch) → list_all has_no_timer branches ≡ true → list_all is_at_rest branches ≡ true
unfolding is_at_rest
at_rest [] e = refl
at_rest (b ∷ bs) e =
    ap (λ c. c && list_all is_at_rest bs) (right (is_none b.due) (not b.cancelled) (left (has_no_timer b) (list_all has_no_timer bs) e))
    ∙ at_rest bs (right (has_no_timer b) (list_all has_no_timer bs) e)

five : (a b c d e : Bool) → (a && b && c && d && e) ≡ true → (a ≡ true) × (b ≡ true) × (c ≡ true) × (d ≡ true) × (e ≡ true)
five false b c d e is = absurd (false_true is)
five true false c d e is = absurd (false_true is)
five true true false d e is = absurd (false_true is)
five true true true false e is = absurd (false_true is)
five true true true true e is = (refl, refl, refl, refl, is)

none_to_choose : (proxy : Proxy) → (length proxy.candidates == 0) ≡ true → not (can_choose proxy) ≡ true
unfolding can_choose
none_to_choose proxy e = ap (λ b. not (not b && not (has_open proxy) && length proxy.targets == 0 && is_none proxy.forwarded)) e

together : (a b c d e : Bool) → a ≡ true → b ≡ true → c ≡ true → d ≡ true → e ≡ true → (a && b && c && d && e) ≡ true
together a b c d e first second third fourth fifth =
    ap (λ z. z && b && c && d && e) first ∙ ap (λ z. z && c && d && e) second ∙ ap (λ z. z && d && e) third ∙ ap (λ z. z && e) fourth ∙ fifth

resting_quiet : (proxy : Proxy) → is_resting proxy ≡ true → is_quiet proxy ≡ true
unfolding is_resting is_quiet
resting_quiet proxy e =
    let five = five (length proxy.targets == 0) (length proxy.candidates == 0) (is_none proxy.passing) (not proxy.heard_final) (list_all has_no_timer proxy.branches) e in
    together (length proxy.targets == 0) (is_none proxy.passing) (not proxy.heard_final) (not (can_choose proxy)) (list_all is_at_rest proxy.branches)
    five.0 five.2 five.3 (none_to_choose proxy five.1) (at_rest proxy.branches five.4)

nothing_busy : (page : List Proxy) → list_all is_resting page ≡ true → filter is_busy page ≡ []
nothing_busy [] e = refl
nothing_busy (p ∷ ps) e =
    ap (λ b. cond (not b) (p ∷ filter is_busy ps) (filter is_busy ps)) (resting_quiet p (left (is_resting p) (list_all is_resting ps) e))
    ∙ nothing_busy ps (right (is_resting p) (list_all is_resting ps) e)

pub none_busy : (busy page : List Proxy) → list_all is_resting page ≡ true → busy ≡ busy ++ filter is_busy page
none_busy busy page e = sym (ap (λ l. busy ++ l) (nothing_busy page e) ∙ append-nil busy)
