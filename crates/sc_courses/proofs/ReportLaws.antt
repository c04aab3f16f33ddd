-- What a notice is told of how far a run came, as it is told more.
use Rattle.std.proofs.Common.{◌≡◌, ℕ, ◌+◌, suc, Option, None, Some, List, [], ◌∷◌, ◌++◌, refl, sym, ap, ◌∙◌, subst, append_assoc, inl, inr, arith}
use Rattle.std.specs.Prelude.{◌⊎◌, length, min}
use Rattle.std.proofs.lemmas.List.{append-nil, append_cancel_left, length-append, map-append}
use Rattle.std.proofs.lemmas.List.Sums.{fold-append}
use Rattle.sc_journal.specs.Kept.{Kept}
use Rattle.sc_terms.specs.declared.steps.Step.{Step}
use Rattle.sc_parts.specs.declared.setup.Setup.{Setup}
use Rattle.sc_edge.specs.declared.listing.Listing.{Listing}
use Rattle.sc_edge.specs.Telling.{Notes}
use Rattle.sc_edge.specs.declared.notice.Noted.{Noted}
use Rattle.sc_edge.specs.declared.notice.Noted.TheVariants as noted
use Rattle.sc_hosts.specs.Runs.{Epoch}
use Rattle.sc_courses.specs.Courses.{Telling, TellsEpochs, Told, told_by, with_item}
use Rattle.sc_courses.specs.Listings.{IsListingAt}
use Rattle.sc_courses.specs.Reports.{AreCounted, Counts, Reports, Shows, ShowsEnd, TellsLast, TellsLengths, TellsSuch, Untold, counted_by, last_listing, last_stepped, lengths, lengths_of, or_epoch, or_listing, with_count}

abbrev Items : Type 0
Items = List (Noted (Kept Step))

-- ## One item more

such-by : (first items : Items) (now new : Told) (item : Noted (Kept Step)) (before after : Items → Type 0) → ((xs : Items) → before xs → after (xs ++ item ∷ [])) → now ≡ Some (first ++ items) → before items → Notes now new item
    → ((more : Items) × (new ≡ Some (first ++ more)) × after more) ⊎ (new ≡ None)
such-by first items now new item before after on e is notes = by (rw e at notes)
  where
    by : ((new ≡ Some ((first ++ items) ++ item ∷ [])) ⊎ (new ≡ None)) → ((more : Items) × (new ≡ Some (first ++ more)) × after more) ⊎ (new ≡ None)
    by (inl told) = inl (items ++ item ∷ [], told ∙ ap (λ (xs : Items). Some xs) (append_assoc first items (item ∷ [])), on items is)
    by (inr none) = inr none

pub such_more : (first now new : Told) (item : Noted (Kept Step)) (before after : Items → Type 0) → ((xs : Items) → before xs → after (xs ++ item ∷ [])) → TellsSuch first now before → Notes now new item → TellsSuch first new after
unfolding TellsSuch
such_more None now new item before after on tells notes = rw tells at notes
such_more (Some first) now new item before after on (inl (items, e, is)) notes = such-by first items now new item before after on e is notes
such_more (Some first) now new item before after on (inr none) notes = inr (rw none at notes)

-- the same items, of which something else holds too
pub such_same : (first now : Told) (before after : Items → Type 0) → ((xs : Items) → before xs → after xs) → TellsSuch first now before → TellsSuch first now after
unfolding TellsSuch
such_same None now before after on tells = tells
such_same (Some first) now before after on (inl (items, e, is)) = inl (items, e, on items is)
such_same (Some first) now before after on (inr none) = inr none

-- of the epochs that were told
pub such_epochs : (first now : Told) (telling : Telling) (after : Items → Type 0) → ((xs : Items) → told_by xs ≡ telling → after xs) → TellsEpochs first now telling → TellsSuch first now after
unfolding TellsSuch TellsEpochs
such_epochs None now telling after on tells = tells
such_epochs (Some first) now telling after on (inl (items, e, is)) = inl (items, e, on items is)
such_epochs (Some first) now telling after on (inr none) = inr none

items-in : Option Items → Items
items-in None = []
items-in (Some items) = items

some-same : (xs ys : Items) → Some xs ≡ Some ys → xs ≡ ys
unfolding items-in
some-same xs ys e = ap items-in e

-- the items are those that told the epochs
pub such_align : (first now : Told) (telling : Telling) (before after : Items → Type 0) → ((xs : Items) → told_by xs ≡ telling → before xs → after xs) → TellsEpochs first now telling → TellsSuch first now before → TellsSuch first now after
unfolding TellsSuch TellsEpochs
such_align None now telling before after on tells such = such
such_align (Some first) now telling before after on (inl (xs, e, is)) (inl (ys, e2, holds)) =
    inl (ys, e2, on ys (ap told_by (append_cancel_left first ys xs (some-same (first ++ ys) (first ++ xs) (sym e2 ∙ e))) ∙ is) holds)
such_align (Some first) now telling before after on (inl told) (inr none) = inr none
such_align (Some first) now telling before after on (inr none) such = inr none

-- nothing was told yet
pub such_none : (told : Told) (holds : Items → Type 0) → holds [] → TellsSuch told told holds
unfolding TellsSuch
such_none None holds is = refl
such_none (Some items) holds is = inl ([], ap (λ (xs : Items). Some xs) (sym (append-nil items)), is)

told-more : (items : Items) (item : Noted (Kept Step)) → told_by (items ++ item ∷ []) ≡ with_item (told_by items) item
unfolding told_by
told-more items item = fold-append with_item (record { ended = []; handed = [] }) items (item ∷ [])

counted-more : (items : Items) (item : Noted (Kept Step)) → counted_by (items ++ item ∷ []) ≡ with_count (counted_by items) item
unfolding counted_by
counted-more items item = fold-append with_count (record { ended = []; running = [] }) items (item ∷ [])

listing-more : (items : Items) (item : Noted (Kept Step)) → last_listing (items ++ item ∷ []) ≡ or_listing (last_listing items) item
unfolding last_listing
listing-more items item = fold-append or_listing None items (item ∷ [])

stepped-more : (epochs : List Epoch) (epoch : Epoch) → last_stepped (epochs ++ epoch ∷ []) ≡ or_epoch (last_stepped epochs) epoch epoch.journal
unfolding last_stepped
stepped-more epochs epoch = fold-append (λ found (epoch2 : Epoch). or_epoch found epoch2 epoch2.journal) None epochs (epoch ∷ [])

-- ## Lengths

-- a step was told
step-counts : (handed : List Step) (before count : ℕ) → count ≡ min (suc before) 18446744073709551615 → (items : Items) → Counts handed before items → Counts handed (suc before) (items ++ noted.Step count ∷ [])
unfolding with_item with_count lengths
step-counts handed before count e items c = record {
  handed_is = ap (λ (t : Telling). t.handed) (told-more items (noted.Step count)) ∙ c.handed_is;
  counted = rw (told-more items (noted.Step count)) (counted-more items (noted.Step count) ∙ (rw (c.counted, e) refl));
}

-- what was kept was handed on
part-counts : (handed : List Step) (count : ℕ) (journal : Kept Step) (items : Items) → Counts handed count items → Counts (handed ++ journal.items) count (items ++ noted.Part journal ∷ [])
unfolding with_item with_count
part-counts handed count journal items c = record {
  handed_is = ap (λ (t : Telling). t.handed) (told-more items (noted.Part journal)) ∙ ap (λ (steps : List Step). steps ++ journal.items) c.handed_is;
  counted = rw (told-more items (noted.Part journal)) (counted-more items (noted.Part journal) ∙ c.counted);
}

-- it was told what lives
list-counts : (handed : List Step) (count : ℕ) (listing : Listing) (items : Items) → Counts handed count items → Counts handed count (items ++ noted.List listing ∷ [])
unfolding with_item with_count
list-counts handed count listing items c = record {
  handed_is = ap (λ (t : Telling). t.handed) (told-more items (noted.List listing)) ∙ c.handed_is;
  counted = rw (told-more items (noted.List listing)) (counted-more items (noted.List listing) ∙ c.counted);
}

-- an epoch ended
epoch-counts : (handed : List Step) (count number began : ℕ) (journal : Kept Step) → length (handed ++ journal.items) ≡ count → (items : Items) → Counts handed count items → Counts [] 0 (items ++ noted.Epoch number began journal ∷ [])
unfolding with_item with_count lengths
epoch-counts handed count number began journal all items c = record {
  handed_is = ap (λ (t : Telling). t.handed) (told-more items (noted.Epoch number began journal));
  counted =
      rw (told-more items (noted.Epoch number began journal))
      (counted-more items (noted.Epoch number began journal)
      ∙ (rw (c.counted, c.handed_is, map-append lengths_of (told_by items).ended (record { number = number; began = began; journal = handed ++ journal.items } ∷ []), all) refl));
}

none-counts : Counts [] 0 []
unfolding told_by counted_by lengths
none-counts = record { handed_is = refl; counted = refl }

-- ## The last listing

part-shows : (setup : Setup) (handed : List Step) (running : Epoch) (journal : Kept Step) (items : Items) → Shows setup handed running items → Shows setup (handed ++ journal.items) running (items ++ noted.Part journal ∷ [])
unfolding with_item or_listing
part-shows setup handed running journal items s = record {
  handed_is = ap (λ (t : Telling). t.handed) (told-more items (noted.Part journal)) ∙ ap (λ (steps : List Step). steps ++ journal.items) s.handed_is;
  shows = rw (told-more items (noted.Part journal), listing-more items (noted.Part journal)) s.shows;
}

-- the epoch ended, and the next one has no step
epoch-shows : (setup : Setup) (handed : List Step) (running next : Epoch) (journal : Kept Step) → handed ++ journal.items ≡ running.journal → next.journal ≡ [] → (items : Items) → Shows setup handed running items
    → Shows setup [] next (items ++ noted.Epoch running.number running.began journal ∷ [])
unfolding with_item or_listing or_epoch
epoch-shows setup handed running next journal all none items s = record {
  handed_is = ap (λ (t : Telling). t.handed) (told-more items (noted.Epoch running.number running.began journal));
  shows =
      rw (told-more items (noted.Epoch running.number running.began journal), listing-more items (noted.Epoch running.number running.began journal))
      (rw (s.handed_is, all, stepped-more ((told_by items).ended ++ running ∷ []) next, none) s.shows);
}

stepped-last : (epochs : List Epoch) (epoch : Epoch) (journal : List Step) → epoch.journal ≡ journal → (journal ≡ [] → ⊥) → or_epoch (last_stepped epochs) epoch journal ≡ Some epoch
unfolding or_epoch
stepped-last epochs epoch [] e some = absurd (some refl)
stepped-last epochs epoch (step ∷ steps) e some = refl

-- it was told what lives behind the last step
list-shows : (setup : Setup) (ended : List Epoch) (handed : List Step) (running : Epoch) (listing : Listing) → IsListingAt setup (record { ended = []; running = running }) listing → (running.journal ≡ [] → ⊥) → (items : Items) → told_by items ≡ record { ended = ended; handed = handed }
    → Shows setup handed running (items ++ noted.List listing ∷ [])
unfolding with_item or_listing ShowsEnd
list-shows setup ended handed running listing is some items told = record {
  handed_is = ap (λ (t : Telling). t.handed) (told-more items (noted.List listing) ∙ told);
  shows =
      rw (listing-more items (noted.List listing), stepped-more (told_by (items ++ noted.List listing ∷ [])).ended running, stepped-last (told_by (items ++ noted.List listing ∷ [])).ended running running.journal refl some) is;
}

none-shows : (setup : Setup) (running : Epoch) → running.journal ≡ [] → Shows setup [] running []
unfolding told_by last_stepped or_epoch ShowsEnd last_listing
none-shows setup running none = record { handed_is = refl; shows = rw none tt }

-- ## Reports

longer : (handed journal : List Step) (step : Step) → length (handed ++ (journal ++ step ∷ [])) ≡ suc (length (handed ++ journal))
longer [] [] step = refl
longer [] (s ∷ ss) step = ap suc (longer [] ss step)
longer (s ∷ ss) journal step = ap suc (longer ss journal step)

abbrev pub epoch_at : ℕ → ℕ → List Step → Epoch
epoch_at number began journal = record { number = number; began = began; journal = journal }

-- a step was taken
pub untold : (setup : Setup) (first told : Told) (count unlisted number began : ℕ) (handed journal : List Step) (step : Step) → Reports setup first told count unlisted handed (epoch_at number began (handed ++ journal))
    → Untold first told count handed (epoch_at number began (handed ++ (journal ++ step ∷ [])))
untold setup first told count unlisted number began handed journal step r = record { count_is = r.count_is; before = length (handed ++ journal); more = longer handed journal step; counts = r.counts }

most-of : (count kept all before now : ℕ) → count ≡ min kept 18446744073709551615 → all ≡ suc before → kept + now ≡ all → min (count + now) 18446744073709551615 ≡ min (suc before) 18446744073709551615
most-of count kept all before now a b c = grind (arith, a, b, c)

counts-told : (first told told2 : Told) (handed : List Step) (before count : ℕ) → count ≡ min (suc before) 18446744073709551615 → Notes told told2 (noted.Step count) → TellsSuch first told (Counts handed before) → TellsSuch first told2 (Counts handed (suc before))
counts-told first told told2 handed before count e notes counts = such_more first told told2 (noted.Step count) (Counts handed before) (Counts handed (suc before)) (step-counts handed before count e) counts notes

-- it was told
pub counts_step : (first told told2 : Told) (count number began : ℕ) (handed journal : List Step) → Untold first told count handed (epoch_at number began (handed ++ journal)) → Notes told told2 (noted.Step (min (count + length journal) 18446744073709551615))
    → TellsSuch first told2 (Counts handed (length (handed ++ journal)))
counts_step first told told2 count number began handed journal u notes =
    subst (λ (n : ℕ). TellsSuch first told2 (Counts handed n)) (sym u.more)
    (counts-told first told told2 handed u.before (min (count + length journal) 18446744073709551615) (most-of count (length handed) (length (handed ++ journal)) u.before (length journal) u.count_is u.more (sym (length-append handed journal))) notes u.counts)

risen-unlisted : (unlisted new : ℕ) → new ≡ min (unlisted + 1) 18446744073709551615 → new ≡ 0 → ⊥
risen-unlisted unlisted new e none = grind (arith, e, none)

pub reports_step : (setup : Setup) (first told told2 : Told) (count unlisted new number began : ℕ) (handed journal : List Step) → new ≡ min (unlisted + 1) 18446744073709551615 → Untold first told count handed (epoch_at number began (handed ++ journal))
    → Notes told told2 (noted.Step (min (count + length journal) 18446744073709551615)) → Reports setup first told2 count new handed (epoch_at number began (handed ++ journal))
reports_step setup first told told2 count unlisted new number began handed journal e u notes = record {
  count_is = u.count_is;
  counts = counts_step first told told2 count number began handed journal u notes;
  shows = λ none. absurd (risen-unlisted unlisted new e none);
}

handed-count : (count count2 before now all : ℕ) → count ≡ min before 18446744073709551615 → count2 ≡ min (count + now) 18446744073709551615 → all ≡ before + now → count2 ≡ min all 18446744073709551615
handed-count count count2 before now all a b c = grind (arith, a, b, c)

-- what was kept was handed on
pub reports_part : (setup : Setup) (first told told2 : Told) (count count2 unlisted : ℕ) (handed : List Step) (running : Epoch) (journal : Kept Step) → count2 ≡ min (count + length journal.items) 18446744073709551615 → Notes told told2 (noted.Part journal)
    → Reports setup first told count unlisted handed running → Reports setup first told2 count2 unlisted (handed ++ journal.items) running
reports_part setup first told told2 count count2 unlisted handed running journal e notes r = record {
  count_is = handed-count count count2 (length handed) (length journal.items) (length (handed ++ journal.items)) r.count_is e (length-append handed journal.items);
  counts = such_more first told told2 (noted.Part journal) (Counts handed (length running.journal)) (Counts (handed ++ journal.items) (length running.journal)) (part-counts handed (length running.journal) journal) r.counts notes;
  shows = λ none. such_more first told told2 (noted.Part journal) (Shows setup handed running) (Shows setup (handed ++ journal.items) running) (part-shows setup handed running journal) (r.shows none) notes;
}

-- the epoch ended
pub reports_turned : (setup : Setup) (first told told2 : Told) (count unlisted : ℕ) (handed : List Step) (running next : Epoch) (journal : Kept Step) → handed ++ journal.items ≡ running.journal → next.journal ≡ []
    → Notes told told2 (noted.Epoch running.number running.began journal) → Reports setup first told count unlisted handed running → Reports setup first told2 0 unlisted [] next
reports_turned setup first told told2 count unlisted handed running next journal all none notes r = record {
  count_is = refl;
  counts = subst (λ (n : ℕ). TellsSuch first told2 (Counts [] n)) (sym (ap length none))
      (such_more first told told2 (noted.Epoch running.number running.began journal) (Counts handed (length running.journal)) (Counts [] 0) (epoch-counts handed (length running.journal) running.number running.began journal (ap length all)) r.counts notes);
  shows = λ listed. such_more first told told2 (noted.Epoch running.number running.began journal) (Shows setup handed running) (Shows setup [] next) (epoch-shows setup handed running next journal all none) (r.shows listed) notes;
}

-- it was told what lives behind the last step
pub reports_listed : (setup : Setup) (first told told2 : Told) (count unlisted : ℕ) (ended : List Epoch) (handed : List Step) (running : Epoch) (listing : Listing) → IsListingAt setup (record { ended = []; running = running }) listing
    → (running.journal ≡ [] → ⊥) → TellsEpochs first told (record { ended = ended; handed = handed }) → Notes told told2 (noted.List listing) → Reports setup first told count unlisted handed running → Reports setup first told2 count 0 handed running
reports_listed setup first told told2 count unlisted ended handed running listing is some tells notes r = record {
  count_is = r.count_is;
  counts = such_more first told told2 (noted.List listing) (Counts handed (length running.journal)) (Counts handed (length running.journal)) (list-counts handed (length running.journal) listing) r.counts notes;
  shows = λ none.
      such_more first told told2 (noted.List listing) (λ items. told_by items ≡ record { ended = ended; handed = handed }) (Shows setup handed running) (list-shows setup ended handed running listing is some)
      (such_epochs first told (record { ended = ended; handed = handed }) (λ items. told_by items ≡ record { ended = ended; handed = handed }) (λ items same. same) tells) notes;
}

pub reports_begin : (setup : Setup) (told : Told) (running : Epoch) → running.journal ≡ [] → Reports setup told told 0 0 [] running
reports_begin setup told running none = record {
  count_is = refl;
  counts = such_none told (Counts [] (length running.journal)) (subst (λ (n : ℕ). Counts [] n []) (sym (ap length none)) none-counts);
  shows = λ listed. such_none told (Shows setup [] running) (none-shows setup running none);
}

-- ## What it says of the epochs

counted-of : (ended : List Epoch) (handed : List Step) (count : ℕ) (items : Items) → told_by items ≡ record { ended = ended; handed = handed } → Counts handed count items → AreCounted ended count items
counted-of ended handed count items told c = rw told at c.counted

pub lengths_told : (first told : Told) (ended : List Epoch) (handed : List Step) (count : ℕ) → TellsEpochs first told (record { ended = ended; handed = handed }) → TellsSuch first told (Counts handed count) → TellsLengths first told ended count
unfolding TellsLengths
lengths_told first told ended handed count tells counts = such_align first told (record { ended = ended; handed = handed }) (Counts handed count) (AreCounted ended count) (counted-of ended handed count) tells counts

shown-of : (setup : Setup) (ended : List Epoch) (handed : List Step) (running : Epoch) (items : Items) → told_by items ≡ record { ended = ended; handed = handed } → Shows setup handed running items
    → ShowsEnd setup (last_stepped (ended ++ running ∷ [])) (last_listing items)
shown-of setup ended handed running items told s = rw told at s.shows

pub last_told : (setup : Setup) (first told : Told) (ended : List Epoch) (handed : List Step) (running : Epoch) → TellsEpochs first told (record { ended = ended; handed = handed }) → TellsSuch first told (Shows setup handed running)
    → TellsLast setup first told (ended ++ running ∷ [])
unfolding TellsLast
last_told setup first told ended handed running tells shows =
    such_align first told (record { ended = ended; handed = handed }) (Shows setup handed running) (λ items. ShowsEnd setup (last_stepped (ended ++ running ∷ [])) (last_listing items)) (shown-of setup ended handed running) tells shows
