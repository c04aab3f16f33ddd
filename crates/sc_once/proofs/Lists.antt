-- Lists of rising numbers, and merges of them.
use Rattle.std.proofs.Common.{◌≡◌, ◌≤◌, ◌<◌, ℕ, ◌++◌, Bool, true, false, List, [], ◌∷◌, refl, sym, ◌∙◌, inl, inr, arith}
use Rattle.std.specs.Prelude.{cond, nat_lt}
use Rattle.std.proofs.lemmas.Bool.Decides.{nat_tests}
use Rattle.sc_hosts.specs.EventLists.{above}
use Rattle.sc_once.specs.Growing.{IsBetween}
use Rattle.sc_once.specs.OneHistory.{IsMerge}
use Rattle.sc_once.proofs.Bounds.{bounds-rise}

over : (count n : ℕ) → count < n → nat_lt count n ≡ true
over count n is = grind (arith, nat_tests, is)

not-over : (count n : ℕ) → n ≤ count → nat_lt count n ≡ false
not-over count n is = grind (arith, nat_tests, is)

pub above-all : (ns : List ℕ) (count low high : ℕ) → count ≤ low → IsBetween ns low high → above count ns ≡ ns
unfolding above IsBetween
above-all [] count low high under is = refl
above-all (n ∷ ns) count low high under is =
    rw (over count n (omega (arith, under, is.0)), above-all ns count n high (omega (arith, under, is.0)) is.1) refl

pub above-later : (ws : List ℕ) (ns : List ℕ) (low count high : ℕ) → IsBetween ws low count → IsBetween ns count high → above count (ws ++ ns) ≡ ns
unfolding above IsBetween
above-later [] ns low count high ws_in ns_in = above-all ns count count high (omega arith) ns_in
above-later (w ∷ ws) ns low count high ws_in ns_in =
    rw (not-over count w (bounds-rise ws w count ws_in.1), above-later ws ns w count high ws_in.1 ns_in) refl

nil-later : (ws ns : List ℕ) → ws ++ ns ≡ [] → ns ≡ []
nil-later [] ns is = is
nil-later (w ∷ ws) ns is = cc

nil-before : (ws ns : List ℕ) → ws ++ ns ≡ [] → ws ≡ []
nil-before [] ns is = refl
nil-before (w ∷ ws) ns is = cc

-- what a step queued, where it is read from after it or from before the end of its session
pub queued-grown : (low count later : ℕ) (ws first more : List ℕ) → IsBetween ws low count → IsBetween (first ++ more) count later → (b : Bool) (after before : List ℕ)
    → after ≡ ws ++ (first ++ more) → before ≡ ws ++ first → (b ≡ false → after ≡ []) → cond b (above count after) (above count before) ≡ first ++ more
unfolding above
queued-grown low count later ws first more ws_in new_in true after before is was quiet = rw is (above-later ws (first ++ more) low count later ws_in new_in)
queued-grown low count later ws first more ws_in new_in false after before is was quiet =
    let all : ws ++ (first ++ more) ≡ [] = sym is ∙ quiet refl in
    let new : first ++ more ≡ [] = nil-later ws (first ++ more) all in
    let none : before ≡ [] = was ∙ rw (nil-before ws (first ++ more) all, nil-before first more new) refl in
    rw (none, new) refl

-- and what it purged
pub dropped-held : (ws first more : List ℕ) (b : Bool) (after before : List ℕ) → after ≡ ws ++ (first ++ more) → before ≡ ws ++ first → (b ≡ false → after ≡ []) → cond b [] before ≡ []
dropped-held ws first more true after before is was quiet = refl
dropped-held ws first more false after before is was quiet =
    let all : ws ++ (first ++ more) ≡ [] = sym is ∙ quiet refl in
    was ∙ rw (nil-before ws (first ++ more) all, nil-before first more (nil-later ws (first ++ more) all)) refl

pub dropped-none : (ws new : List ℕ) (b : Bool) (after before : List ℕ) → after ≡ ws ++ new → before ≡ ws → (b ≡ false → after ≡ []) → cond b [] before ≡ []
dropped-none ws new true after before is was quiet = refl
dropped-none ws new false after before is was quiet = was ∙ nil-before ws new (sym is ∙ quiet refl)

-- the last of them, or the bound below
pub top : ℕ → List ℕ → ℕ
top low [] = low
top low (n ∷ ns) = top n ns

pub front-between : (ns : List ℕ) (ms : List ℕ) (low high : ℕ) → IsBetween (ns ++ ms) low high → IsBetween ns low (top low ns)
unfolding IsBetween top
front-between [] ms low high is = omega arith
front-between (n ∷ ns) ms low high is = (is.0, front-between ns ms n high is.1)

pub back-between : (ns : List ℕ) (ms : List ℕ) (low high : ℕ) → IsBetween (ns ++ ms) low high → IsBetween ms (top low ns) high
unfolding IsBetween top
back-between [] ms low high is = is
back-between (n ∷ ns) ms low high is = back-between ns ms n high is.1

pub top-under : (ns : List ℕ) (ms : List ℕ) (low high : ℕ) → IsBetween (ns ++ ms) low high → top low ns ≤ high
top-under ns ms low high is = bounds-rise ms (top low ns) high (back-between ns ms low high is)

-- ## Merges

pub merge-handled : (ns : List ℕ) (queued handled purged waiting : List ℕ) → IsMerge queued handled purged waiting → IsMerge (ns ++ queued) (ns ++ handled) purged waiting
merge-handled [] queued handled purged waiting merge = merge
merge-handled (n ∷ ns) queued handled purged waiting merge = inl (ns ++ handled, refl, merge-handled ns queued handled purged waiting merge)

pub merge-purged : (ns : List ℕ) (queued handled purged waiting : List ℕ) → IsMerge queued handled purged waiting → IsMerge (ns ++ queued) handled (ns ++ purged) waiting
merge-purged [] queued handled purged waiting merge = merge
merge-purged (n ∷ ns) queued handled purged waiting merge = inr (inl (ns ++ purged, refl, merge-purged ns queued handled purged waiting merge))

pub merge-waiting : (ns : List ℕ) → IsMerge ns [] [] ns
merge-waiting [] = (refl, refl, refl)
merge-waiting (n ∷ ns) = inr (inr (ns, refl, merge-waiting ns))
