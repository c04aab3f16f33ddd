-- What proxied requests that rest leave of the entries of a session.
use Rattle.std.proofs.Common.{◌≡◌, ◌&&◌, ◌==◌, Bool, true, false, not, T, List, [], ◌∷◌, ◌++◌, Option, None, Some, length, refl, ap, sym, subst, ◌∙◌}
use Rattle.std.specs.List.{flat_map, list_all}
use Rattle.std.specs.Prelude.{is_none}
use Rattle.sc_queue.specs.Joined.{joined}
use Rattle.sc_pages.proofs.PagesLaws.{flat_all}
use Rattle.sc_state.specs.declared.host.Fired.{Fired}
use Rattle.sc_state.specs.declared.proxy.Branch.{Branch}
use Rattle.sc_state.specs.declared.proxy.Proxy.{Proxy}
use Rattle.sc_state.specs.Entries.{SessionEntry, branch_entry, least_due, lower}
use Rattle.sc_state.specs.Resting.{has_no_timer, is_resting}
use Rattle.sc_state.proofs.LeastDue.{least_both, least_none}

false_true : false ≡ true → ⊥
false_true e = subst T (sym e) tt

left : (a b : Bool) → (a && b) ≡ true → a ≡ true
left true b e = refl
left false b e = absurd (false_true e)

right : (a b : Bool) → (a && b) ≡ true → b ≡ true
right true b e = e
right false b e = absurd (false_true e)

abbrev entries : Proxy → List SessionEntry
entries proxy = flat_map branch_entry proxy.branches

no_entry : (branch : Branch) → has_no_timer branch ≡ true → branch_entry branch ≡ []
unfolding branch_entry
no_entry branch e = by branch.due (left (is_none branch.due) (not branch.cancelled) e)
  where
    by : (due : Option _) → is_none due ≡ true → branch_entry (record branch { due = due }) ≡ []
    by None e = refl
    by (Some due) e = absurd (false_true e)

no_entries : (branches : List Branch) → list_all has_no_timer branches ≡ true → flat_map branch_entry branches ≡ []
no_entries [] e = refl
no_entries (b ∷ bs) e =
    ap (λ l. l ++ flat_map branch_entry bs) (no_entry b (left (has_no_timer b) (list_all has_no_timer bs) e)) ∙ no_entries bs (right (has_no_timer b) (list_all has_no_timer bs) e)

last : (a b c d e : Bool) → (a && b && c && d && e) ≡ true → e ≡ true
last false b c d e is = absurd (false_true is)
last true false c d e is = absurd (false_true is)
last true true false d e is = absurd (false_true is)
last true true true false e is = absurd (false_true is)
last true true true true e is = is

resting_entries : (proxy : Proxy) → is_resting proxy ≡ true → entries proxy ≡ []
unfolding is_resting
resting_entries proxy e =
    no_entries proxy.branches (last (length proxy.targets == 0) (length proxy.candidates == 0) (is_none proxy.passing) (not proxy.heard_final) (list_all has_no_timer proxy.branches) e)

page_entries : (page : List Proxy) → list_all is_resting page ≡ true → flat_map entries page ≡ []
page_entries [] e = refl
page_entries (p ∷ ps) e =
    ap (λ l. l ++ flat_map entries ps) (resting_entries p (left (is_resting p) (list_all is_resting ps) e)) ∙ page_entries ps (right (is_resting p) (list_all is_resting ps) e)

pub none_due : (fired : List Fired) (page : List Proxy) → list_all is_resting page ≡ true → None ≡ least_due fired (flat_map entries page)
none_due fired page e = least_none fired ∙ ap (least_due fired) (sym (page_entries page e))

pub with_newest : (fired : List Fired) (all : List Proxy) (pages : List (List Proxy)) (newest : List Proxy) → all ≡ joined pages ++ newest
    → lower (least_due fired (flat_map (λ page. flat_map entries page) pages)) (least_due fired (flat_map entries newest)) ≡ least_due fired (flat_map entries all)
with_newest fired all pages newest is =
    sym (least_both fired (flat_map (λ page. flat_map entries page) pages) (flat_map entries newest)) ∙ ap (least_due fired) (sym (flat_all entries all pages newest is))

pub due_of_parts : (fired : List Fired) (all : List Proxy) (pages : List (List Proxy)) (newest : List Proxy) (due own least : Option _) → least ≡ lower due own
    → due ≡ least_due fired (flat_map (λ page. flat_map entries page) pages) → own ≡ least_due fired (flat_map entries newest) → all ≡ joined pages ++ newest → least ≡ least_due fired (flat_map entries all)
due_of_parts fired all pages newest due own least is of_pages of_newest parts =
    is ∙ ap (λ d. lower d own) of_pages ∙ ap (lower (least_due fired (flat_map (λ page. flat_map entries page) pages))) of_newest
    ∙ with_newest fired all pages newest parts
