-- What a server keeps is of a second, as it takes steps and hands them on.
use Rattle.std.proofs.Common.{◌≡◌, ◌⊎◌, ℕ, ◌+◌, ◌<◌, Option, None, Some, List, [], ◌∷◌, ◌++◌, refl, sym, ap, ◌∙◌, subst, inl, inr, arith}
use Rattle.std.specs.Prelude.{length}
use Rattle.std.specs.List.{fold}
use Rattle.std.proofs.lemmas.List.{append-nil}
use Rattle.std.proofs.lemmas.List.Elements.{filter_map-append}
use Rattle.std.proofs.lemmas.List.Sums.{fold-append}
use Rattle.sc_journal.specs.Kept.{Kept}
use Rattle.sc_terms.specs.declared.steps.Step.{Step}
use Rattle.sc_terms.specs.declared.steps.Step.TheVariants as steps
use Rattle.sc_edge.specs.declared.notice.Noted.{Noted}
use Rattle.sc_moments.specs.Moments.{moment_of}
use Rattle.sc_courses.specs.Seconds.{AreOfASecond, HandsInTime, IsInTime, IsOfASecond, IsSince, Keeps, KeepsNext, moment_after, moment_behind, part_in, parts_in}

abbrev Items : Type 0
Items = List (Noted (Kept Step))

-- ## Parts

are-more : (moment : ℕ) (parts : List (List Step)) (part : List Step) → AreOfASecond moment parts → IsOfASecond (fold moment_after moment parts) part → AreOfASecond moment (parts ++ part ∷ [])
unfolding AreOfASecond
are-more moment [] part are is = (is, tt)
are-more moment (first ∷ later) part (first_is, are) is = (first_is, are-more (moment_after moment first) later part are is)

part-of : Option (List Step) → List (List Step)
part-of None = []
part-of (Some part) = part ∷ []

parts-more : (items : Items) (item : Noted (Kept Step)) (part : Option (List Step)) → part_in item ≡ part → parts_in (items ++ item ∷ []) ≡ parts_in items ++ part-of part
unfolding parts_in part-of
parts-more items item None e = filter_map-append part_in items (item ∷ []) ∙ rw e refl
parts-more items item (Some part) e = filter_map-append part_in items (item ∷ []) ∙ rw e refl

parts-same : (items : Items) (item : Noted (Kept Step)) → part_in item ≡ None → parts_in (items ++ item ∷ []) ≡ parts_in items
unfolding part-of
parts-same items item e = parts-more items item None e ∙ append-nil (parts_in items)

-- ## What is kept

pub keeps_none : (since : ℕ) → Keeps since 0 [] []
unfolding AreOfASecond IsOfASecond IsSince parts_in moment_after
keeps_none since = record { parts_are = tt; kept_is = tt; moment_is = refl; since_is = tt }

-- an item was told that hands on nothing
pub keeps_told : (since moment : ℕ) (kept : List Step) (item : Noted (Kept Step)) → part_in item ≡ None → (items : Items) → Keeps since moment kept items → Keeps since moment kept (items ++ item ∷ [])
keeps_told since moment kept item none items k =
    let same = parts-same items item none in
    record {
      parts_are = rw same k.parts_are;
      kept_is = rw same k.kept_is;
      moment_is = rw same k.moment_is;
      since_is = rw same k.since_is;
    }

behind-more : (items : Items) (item : Noted (Kept Step)) (part : List Step) → part_in item ≡ Some part → moment_behind (items ++ item ∷ []) ≡ moment_after (moment_behind items) part
unfolding part-of
behind-more items item part e = ap (λ (parts : List (List Step)). fold moment_after 0 parts) (parts-more items item (Some part) e) ∙ fold-append moment_after 0 (parts_in items) (part ∷ [])

none-after : (moment : ℕ) → moment ≡ moment_after moment []
unfolding moment_after
none-after moment = refl

-- what was kept was handed on
pub keeps_handed : (since since2 moment : ℕ) (kept : List Step) (item : Noted (Kept Step)) → part_in item ≡ Some kept → (items : Items) → Keeps since moment kept items → Keeps since2 moment [] (items ++ item ∷ [])
unfolding part-of IsOfASecond IsSince
keeps_handed since since2 moment kept item e items k = record {
  parts_are = rw (parts-more items item (Some kept) e) (are-more 0 (parts_in items) kept k.parts_are k.kept_is);
  kept_is = tt;
  moment_is = k.moment_is ∙ (sym (behind-more items item kept e) ∙ none-after (moment_behind (items ++ item ∷ [])));
  since_is = tt;
}

-- ## A step more

after-more : (moment : ℕ) (kept : List Step) (step : Step) → moment_after moment (kept ++ step ∷ []) ≡ moment_of (moment_after moment kept) step
unfolding moment_after
after-more moment kept step = fold-append moment_of moment kept (step ∷ [])

-- a step that may be taken is of the same second
young : (since moment now : ℕ) (first : Step) (later : List Step) (step : Step) → IsInTime since (first ∷ later) step → since ≡ moment_of moment first → now < moment_of moment first + 1000 → moment_of now step < moment_of moment first + 1000
unfolding moment_of
young since moment now first later (steps.In place message) in_time is before = before
young since moment now first later (steps.Bad place bad) in_time is before = before
young since moment now first later (steps.Lost place) in_time is before = before
young since moment now first later (steps.Tick tick) (inl none) is before = cc
young since moment now first later (steps.Tick tick) (inr early) is before = subst (λ (n : ℕ). tick < n + 1000) is early
young since moment now first later (steps.Turn end app event turned calls) in_time is before = before
young since moment now first later (steps.Withdraw app) in_time is before = before

second-more : (since moment : ℕ) (kept : List Step) (step : Step) → IsInTime since kept step → IsSince since moment kept → IsOfASecond moment kept → IsOfASecond moment (kept ++ step ∷ [])
unfolding IsOfASecond IsSince moment_after
second-more since moment [] step in_time is second = let now : ℕ = moment_of moment step in omega (arith)
second-more since moment (first ∷ later) step in_time is second =
    subst (λ (n : ℕ). n < moment_of moment first + 1000) (sym (after-more moment (first ∷ later) step)) (young since moment (moment_after moment (first ∷ later)) first later step in_time is second)

since-more : (since moment : ℕ) (kept : List Step) (step : Step) → IsSince since moment kept → (length (kept ++ step ∷ []) ≡ 1) ⊎ IsSince since moment (kept ++ step ∷ [])
unfolding IsSince
since-more since moment [] step is = inl refl
since-more since moment (first ∷ later) step is = inr is

-- a step was taken
pub keeps_step : (since moment : ℕ) (kept : List Step) (step : Step) → IsInTime since kept step → (items : Items) → Keeps since moment kept items → KeepsNext since (moment_of moment step) (kept ++ step ∷ []) items
keeps_step since moment kept step in_time items k = record {
  parts_are = k.parts_are;
  kept_is = second-more since (moment_behind items) kept step in_time k.since_is k.kept_is;
  moment_is = ap (λ (n : ℕ). moment_of n step) k.moment_is ∙ sym (after-more (moment_behind items) kept step);
  since_is = since-more since (moment_behind items) kept step k.since_is;
}

since-settled : (since since2 moment begun : ℕ) (kept : List Step) → moment ≡ moment_after begun kept → (length kept ≡ 1 → since2 ≡ moment) → ((length kept ≡ 1 → ⊥) → since2 ≡ since) → (length kept ≡ 1) ⊎ IsSince since begun kept → IsSince since2 begun kept
unfolding IsSince moment_after
since-settled since since2 moment begun [] e first later is = tt
since-settled since since2 moment begun (step ∷ []) e first later is = first refl ∙ e
since-settled since since2 moment begun (step ∷ next ∷ more) e first later (inl one) = cc
since-settled since since2 moment begun (step ∷ next ∷ more) e first later (inr is) = later (λ one. cc) ∙ is

-- the notice was told of it
pub keeps_settled : (since since2 moment : ℕ) (kept : List Step) → (length kept ≡ 1 → since2 ≡ moment) → ((length kept ≡ 1 → ⊥) → since2 ≡ since) → (items : Items) → KeepsNext since moment kept items → Keeps since2 moment kept items
keeps_settled since since2 moment kept first later items k = record {
  parts_are = k.parts_are;
  kept_is = k.kept_is;
  moment_is = k.moment_is;
  since_is = since-settled since since2 moment (moment_behind items) kept k.moment_is first later k.since_is;
}

-- an item was told that hands on nothing, before it was told of the step
pub next_told : (since moment : ℕ) (kept : List Step) (item : Noted (Kept Step)) → part_in item ≡ None → (items : Items) → KeepsNext since moment kept items → KeepsNext since moment kept (items ++ item ∷ [])
next_told since moment kept item none items k =
    let same = parts-same items item none in
    record {
      parts_are = rw same k.parts_are;
      kept_is = rw same k.kept_is;
      moment_is = rw same k.moment_is;
      since_is = rw same k.since_is;
    }

-- ## As the run ends

pub keeps_hands : (since moment : ℕ) (kept : List Step) (items : Items) → Keeps since moment kept items → HandsInTime kept items
unfolding HandsInTime
keeps_hands since moment kept items k = are-more 0 (parts_in items) kept k.parts_are k.kept_is

pub next_hands : (since moment : ℕ) (kept : List Step) (items : Items) → KeepsNext since moment kept items → HandsInTime kept items
unfolding HandsInTime
next_hands since moment kept items k = are-more 0 (parts_in items) kept k.parts_are k.kept_is
