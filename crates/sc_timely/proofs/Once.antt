-- What is due is taken once: no two of its items are of one entry.
use Rattle.std.proofs.Common.{◌≡◌, ℕ, Bool, true, false, Option, None, Some, T, List, [], ◌∷◌, refl, sym, ap, subst, ◌∙◌}
use Rattle.std.specs.Prelude.{◌&&◌, ◌||◌, filter, map}
use Rattle.std.specs.List.{cons_option, filter_map, find, list_any}
use Rattle.std.specs.FinMap.Entries.{below_all}
use Rattle.std.specs.Ordering.{is_lt, ordering_reverse}
use Rattle.std.specs.declared.cmp.Ordering.{Ordering}
use Rattle.std.specs.declared.cmp.Ordering.TheVariants.{Equal, Greater, Less}
use Rattle.sc_state.specs.declared.net.Net.{Net}
use Rattle.sc_model.specs.Timers.{DueEntry, due_order, in_order, is_due}
use Rattle.sc_model.proofs.DueLaws.{rises-in_order, rises_after, total}
use Rattle.sc_model.proofs.RisingKeys.{marked, rises}
use Rattle.sc_hosts.specs.Sessions.{Form}
use Rattle.sc_hosts.specs.Ticks.{Dated, all_dated, due_items, same_entry}
use Rattle.sc_keyed.specs.Keyed.{AreApart}
use Rattle.sc_keyed.proofs.ClientKeys.{none-else}
use Rattle.sc_timely.specs.Timely.{are_one}
use Rattle.sc_timely.proofs.DueItems.{same-is, test-found}

none-of : (a b : Bool) → a ≡ false → b ≡ false → (a || b) ≡ false
none-of a b p q = rw (p, q) refl

none-first : (a b : Bool) → (a || b) ≡ false → a ≡ false
none-first true b is = is
none-first false b is = refl

none-second : (a b : Bool) → (a || b) ≡ false → b ≡ false
none-second true b is = cc
none-second false b is = is

-- ## Entries in order

both-first : (a b : Bool) → T (a && b) → T a
both-first true b is = tt
both-first false b is = absurd is

both-second : (a b : Bool) → T (a && b) → T b
both-second true b is = is
both-second false b is = absurd is

never-less : (o : Ordering) → o ≡ ordering_reverse o → T (is_lt o) → ⊥
never-less Less turned is = cc
never-less Equal turned is = is
never-less Greater turned is = is

-- an entry is not below itself
apart-below : (a b : DueEntry) → T (is_lt (due_order a b)) → same_entry a b ≡ false
apart-below a b below =
    none-else (same_entry a b) (λ is. never-less (due_order a a) (total.antisymm a a) (subst (λ (e : DueEntry). T (is_lt (due_order a e))) (sym (same-is a b is)) below))

none-below : (a : DueEntry) (es : List DueEntry) → T (below_all due_order a (marked es)) → list_any (same_entry a) es ≡ false
none-below a [] below = refl
none-below a (e ∷ es) below = none-of (same_entry a e) _ (apart-below a e (both-first _ _ below)) (none-below a es (both-second _ _ below))

keys-apart : (es : List DueEntry) → rises due_order es → AreApart same_entry es
unfolding AreApart
keys-apart [] up = tt
keys-apart (e ∷ es) up = let both = rises_after e es up in (none-below e es both.0, keys-apart es both.1)

-- ## Their items

module _ (all : List Dated) where
  abbrev items : List DueEntry → List Dated
  items ks = filter_map (λ k. find (λ (d : Dated). same_entry d.entry k) all) ks

  none-found : (d : Dated) (key : DueEntry) → d.entry ≡ key → (ks : List DueEntry) → list_any (same_entry key) ks ≡ false
      → list_any (are_one d) (items ks) ≡ false
  none-found d key is [] none = refl
  none-found d key is (k ∷ ks) none =
      by (find (λ (x : Dated). same_entry x.entry k) all) refl (none-found d key is ks (none-second (same_entry key k) (list_any (same_entry key) ks) none))
    where
      by : (found : Option Dated) → find (λ (x : Dated). same_entry x.entry k) all ≡ found → list_any (are_one d) (items ks) ≡ false
          → list_any (are_one d) (cons_option found (items ks)) ≡ false
      by None at more = more
      by (Some x) at more =
          none-of (are_one d x) _
          (ap (λ (e : DueEntry). same_entry e x.entry) is ∙ ap (same_entry key) (same-is x.entry k (test-found (λ (y : Dated). same_entry y.entry k) all x at)) ∙ none-first (same_entry key k) (list_any (same_entry key) ks) none) more

  items-apart : (ks : List DueEntry) → AreApart same_entry ks → AreApart are_one (items ks)
  unfolding AreApart
  items-apart [] apart = tt
  items-apart (k ∷ ks) apart = by (find (λ (x : Dated). same_entry x.entry k) all) refl (items-apart ks apart.1)
    where
      by : (found : Option Dated) → find (λ (x : Dated). same_entry x.entry k) all ≡ found → AreApart are_one (items ks)
          → AreApart are_one (cons_option found (items ks))
      by None at more = more
      by (Some x) at more = (none-found x k (same-is x.entry k (test-found (λ (y : Dated). same_entry y.entry k) all x at)) ks apart.0, more)

pub due-once : {S : Type 0} (form : Form S) (now : ℕ) (net : Net S) → AreApart are_one (due_items form now net)
unfolding due_items
due-once form now net =
    items-apart (all_dated form net) (in_order (filter (is_due now) (map (λ d. d.entry) (all_dated form net)))) (keys-apart _ (rises-in_order (filter (is_due now) (map (λ d. d.entry) (all_dated form net)))))
