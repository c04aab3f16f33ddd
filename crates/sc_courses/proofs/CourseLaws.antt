-- A course as steps are taken, epochs end and the notice is told.
use Rattle.std.proofs.Common.{◌≡◌, ℕ, ◌+◌, Bool, true, false, Option, List, [], ◌∷◌, ◌++◌, None, Some, refl, sym, ap, ◌∙◌, subst, append_assoc, inl, inr}
use Rattle.std.specs.Prelude.{map, ◌⊎◌}
use Rattle.std.specs.Option.{is_some}
use Rattle.std.proofs.lemmas.List.{append-nil, map-append}
use Rattle.std.proofs.lemmas.List.Sums.{fold-append}
use Rattle.sc_journal.specs.Kept.{Kept}
use Rattle.sc_value.specs.declared.ids.AppId.{AppId}
use Rattle.sc_terms.specs.declared.steps.Step.{Step}
use Rattle.sc_terms.specs.declared.steps.Step.TheVariants as steps
use Rattle.sc_parts.specs.declared.setup.Setup.{Setup}
use Rattle.sc_state.specs.declared.net.Net.{Net}
use Rattle.sc_state.specs.declared.session.Session.{Session}
use Rattle.sc_edge.specs.declared.listing.Listing.{Listing}
use Rattle.sc_edge.specs.declared.orders.Order.{Order}
use Rattle.sc_edge.specs.Telling.{Notes}
use Rattle.sc_edge.specs.declared.notice.Noted.{Noted}
use Rattle.sc_edge.specs.declared.notice.Noted.TheVariants as noted
use Rattle.sc_hosts.specs.Histories.{as_session}
use Rattle.sc_hosts.specs.Runs.{AreLawful, Epoch, IsLawful, IsLawfulAfter, after_step, net_from as chained, chained_from, is_idle, net_of, start}
use Rattle.sc_hosts.specs.Steps.{live_at}
use Rattle.sc_outs.specs.Deeds.{Deed, step_of}
use Rattle.sc_courses.specs.Ordering.{Obeys, Point, beginning_point, is_for, order_in, withdrawn_by}
use Rattle.sc_courses.proofs.OrderingLaws.{comes_step, is_for_living, obeys_begin, obeys_more, obeys_none, obeys_order, ordered_none, ordered_step, quiet_step, quiet_turn}
use Rattle.sc_courses.specs.Endings.{HasToEnd, waits_for_end}
use Rattle.sc_courses.proofs.EndingLaws.{are_in_time_begin, are_in_time_next, are_in_time_step, withdrawal_waits}
use Rattle.sc_courses.specs.Listings.{IsListingAt}
use Rattle.sc_courses.proofs.ListingLaws.{listings_none, listings_on, listings_told, lists_one, lists_other}
use Rattle.sc_courses.specs.Courses.{AreDeeds, AreSent, Beginning, Course, IsRun, Telling, TellsEpochs, TellsListings, Told, with_orders as ordered, told_by, with_item}

-- ## A step

abbrev pub deed_at : Setup → Epoch → Step → Bool → Deed
deed_at setup epoch step failed = record { step = step; sent = (after_step as_session setup (net_of as_session setup epoch) step).sent; failed = failed }

abbrev pub with_one : Epoch → Step → Epoch
with_one epoch step = record epoch { journal = epoch.journal ++ step ∷ [] }

sent-snoc : (setup : Setup) (net : Net Session) (deeds : List Deed) (deed : Deed) → AreSent setup net deeds → deed.sent ≡ (after_step as_session setup (chained_from as_session setup net (map step_of deeds)) deed.step).sent → AreSent setup net (deeds ++ deed ∷ [])
unfolding AreSent chained_from
sent-snoc setup net [] deed are e = (e, tt)
sent-snoc setup net (d ∷ ds) deed are e = (are.0, sent-snoc setup (after_step as_session setup net d.step) ds deed are.1 e)

run-snoc : (setup : Setup) (epoch : Epoch) (mine : List Deed) (step : Step) (failed : Bool) → IsRun setup epoch mine → IsRun setup (with_one epoch step) (mine ++ deed_at setup epoch step failed ∷ [])
unfolding IsRun net_of chained
run-snoc setup epoch mine step failed run = (
  map-append step_of mine (deed_at setup epoch step failed ∷ []) ∙ ap (λ (j : List Step). j ++ step ∷ []) run.0,
  sent-snoc setup (start setup epoch.number epoch.began) mine (deed_at setup epoch step failed) run.1
      (ap (λ (j : List Step). (after_step as_session setup (chained_from as_session setup (start setup epoch.number epoch.began) j) step).sent) (sym run.0)),
)

-- a step by which none is withdrawn
pub course_step : (from : Beginning) (told : Told) (handed : List Step) (running : Epoch) (deeds : List Deed) (step : Step) (failed : Bool) → withdrawn_by step ≡ [] → (waits_for_end step ≡ true → HasToEnd from.setup running → ⊥) → Course from told handed running deeds
    → Course from told handed (with_one running step) (deeds ++ deed_at from.setup running step failed ∷ [])
course_step from told handed running deeds step failed none ready c = record {
  ended = c.ended;
  before = c.before;
  mine = c.mine ++ deed_at from.setup running step failed ∷ [];
  deeds_are = ap (λ (ds : List Deed). ds ++ deed_at from.setup running step failed ∷ []) c.deeds_are ∙ append_assoc c.before c.mine (deed_at from.setup running step failed ∷ []);
  tells = c.tells;
  lawful = c.lawful;
  are = c.are;
  run = run-snoc from.setup running c.mine step failed c.run;
  obeys = obeys_more from.setup beginning_point (record { ended = c.ended; running = running }) (record { ended = c.ended; running = with_one running step }) from.orders c.obeys (quiet_step c.ended running step none);
  listings = listings_on from.setup from.told told (record { ended = c.ended; running = running }) (record { ended = c.ended; running = with_one running step }) c.listings (comes_step c.ended running step);
  in_time = are_in_time_step from.setup c.ended running step ready c.in_time;
}

-- the withdrawal of a session that lives, as it was ordered
pub course_withdrawn : (from : Beginning) (told : Told) (handed : List Step) (running : Epoch) (deeds : List Deed) (app : AppId) → is_some (live_at app (net_of as_session from.setup running)) ≡ true → Course from told handed running deeds
    → Course (ordered from (Some (order_in running app) ∷ [])) told handed (with_one running (steps.Withdraw app)) (deeds ++ deed_at from.setup running (steps.Withdraw app) false ∷ [])
course_withdrawn from told handed running deeds app lives c = record {
  ended = c.ended;
  before = c.before;
  mine = c.mine ++ deed_at from.setup running (steps.Withdraw app) false ∷ [];
  deeds_are = ap (λ (ds : List Deed). ds ++ deed_at from.setup running (steps.Withdraw app) false ∷ []) c.deeds_are ∙ append_assoc c.before c.mine (deed_at from.setup running (steps.Withdraw app) false ∷ []);
  tells = c.tells;
  lawful = c.lawful;
  are = c.are;
  run = run-snoc from.setup running c.mine (steps.Withdraw app) false c.run;
  obeys =
      let point : Point = record { ended = c.ended; running = running } in
      subst (λ (after : Point). Obeys from.setup beginning_point (from.orders ++ Some (order_in running app) ∷ []) after) (ordered_step from.setup point (order_in running app) (is_for_living from.setup point app lives))
      (obeys_order from.setup beginning_point point from.orders (order_in running app) c.obeys);
  listings = listings_on from.setup from.told told (record { ended = c.ended; running = running }) (record { ended = c.ended; running = with_one running (steps.Withdraw app) }) c.listings (comes_step c.ended running (steps.Withdraw app));
  in_time = are_in_time_step from.setup c.ended running (steps.Withdraw app) (λ waits. absurd (withdrawal_waits app waits)) c.in_time;
}

-- the same course, as more orders were answered
obeyed-more : (from : Beginning) (told : Told) (handed : List Step) (running : Epoch) (deeds : List Deed) (orders : List (Option Order)) (c : Course from told handed running deeds)
    → Obeys from.setup beginning_point orders (record { ended = c.ended; running = running }) → Course (record from { orders = orders }) told handed running deeds
obeyed-more from told handed running deeds orders c obeys = record {
  ended = c.ended;
  before = c.before;
  mine = c.mine;
  deeds_are = c.deeds_are;
  tells = c.tells;
  lawful = c.lawful;
  are = c.are;
  run = c.run;
  obeys = obeys;
  listings = c.listings;
  in_time = c.in_time;
}

-- an order that names no session which lives in the epoch that runs
pub course_unordered : (from : Beginning) (told : Told) (handed : List Step) (running : Epoch) (deeds : List Deed) (order : Order) → ((point : Point) → point.running ≡ running → is_for from.setup point order ≡ false) → Course from told handed running deeds
    → Course (ordered from (Some order ∷ [])) told handed running deeds
course_unordered from told handed running deeds order none c =
    let point : Point = record { ended = c.ended; running = running } in
    obeyed-more from told handed running deeds (from.orders ++ Some order ∷ []) c
    (subst (λ (after : Point). Obeys from.setup beginning_point (from.orders ++ Some order ∷ []) after) (ordered_none from.setup point order (none point refl)) (obeys_order from.setup beginning_point point from.orders order c.obeys))

-- no order was there
pub course_no_order : (from : Beginning) (told : Told) (handed : List Step) (running : Epoch) (deeds : List Deed) → Course from told handed running deeds → Course (ordered from (None ∷ [])) told handed running deeds
course_no_order from told handed running deeds c = obeyed-more from told handed running deeds (from.orders ++ None ∷ []) c (obeys_none from.setup beginning_point (record { ended = c.ended; running = running }) from.orders c.obeys)

-- ## The notice

abbrev Items : Type 0
Items = List (Noted (Kept Step))

told-by : (items : Items) (item : Noted (Kept Step)) → told_by (items ++ item ∷ []) ≡ with_item (told_by items) item
unfolding told_by
told-by items item = fold-append with_item (record { ended = []; handed = [] }) items (item ∷ [])

tells-by : (first items : Items) (now new : Told) (telling : Telling) (item : Noted (Kept Step)) → now ≡ Some (first ++ items) → told_by items ≡ telling → Notes now new item
    → ((more : Items) × (new ≡ Some (first ++ more)) × (told_by more ≡ with_item telling item)) ⊎ (new ≡ None)
tells-by first items now new telling item e is notes = by (rw e at notes)
  where
    by : ((new ≡ Some ((first ++ items) ++ item ∷ [])) ⊎ (new ≡ None)) → ((more : Items) × (new ≡ Some (first ++ more)) × (told_by more ≡ with_item telling item)) ⊎ (new ≡ None)
    by (inl told) = inl (items ++ item ∷ [], told ∙ ap (λ (xs : Items). Some xs) (append_assoc first items (item ∷ [])), told-by items item ∙ ap (λ (t : Telling). with_item t item) is)
    by (inr none) = inr none

tells-more : (first now new : Told) (telling : Telling) (item : Noted (Kept Step)) → TellsEpochs first now telling → Notes now new item → TellsEpochs first new (with_item telling item)
unfolding TellsEpochs
tells-more None now new telling item tells notes = rw tells at notes
tells-more (Some first) now new telling item (inl (items, e, is)) notes = tells-by first items now new telling item e is notes
tells-more (Some first) now new telling item (inr none) notes = inr (rw none at notes)

-- the same course, as more was told of it
course-told : (from : Beginning) (told told2 : Told) (handed handed2 : List Step) (running : Epoch) (deeds : List Deed) (c : Course from told handed running deeds) → TellsEpochs from.told told2 (record { ended = c.ended; handed = handed2 })
    → TellsListings from.setup from.told told2 (record { ended = c.ended; running = running }) → Course from told2 handed2 running deeds
course-told from told told2 handed handed2 running deeds c tells listings = record {
  ended = c.ended;
  before = c.before;
  mine = c.mine;
  deeds_are = c.deeds_are;
  tells = tells;
  lawful = c.lawful;
  are = c.are;
  run = c.run;
  obeys = c.obeys;
  listings = listings;
  in_time = c.in_time;
}

-- the length of a journal says nothing of epochs
pub course_counted : (from : Beginning) (told told2 : Told) (handed : List Step) (running : Epoch) (deeds : List Deed) (count : ℕ) → Notes told told2 (noted.Step count) → Course from told handed running deeds → Course from told2 handed running deeds
unfolding with_item
course_counted from told told2 handed running deeds count notes c = course-told from told told2 handed handed running deeds c (tells-more from.told told told2 _ (noted.Step count) c.tells notes)
    (listings_told from.setup from.told told told2 (record { ended = c.ended; running = running }) (noted.Step count) (lists_other from.setup beginning_point (record { ended = c.ended; running = running })) c.listings notes)

-- nor does a listing, which is of this point
pub course_listed : (from : Beginning) (told told2 : Told) (handed : List Step) (running : Epoch) (deeds : List Deed) (listing : Listing) → ((ended : List Epoch) → IsListingAt from.setup (record { ended = ended; running = running }) listing) → Notes told told2 (noted.List listing)
    → Course from told handed running deeds → Course from told2 handed running deeds
unfolding with_item
course_listed from told told2 handed running deeds listing is notes c = course-told from told told2 handed handed running deeds c (tells-more from.told told told2 _ (noted.List listing) c.tells notes)
    (let point : Point = record { ended = c.ended; running = running } in
    listings_told from.setup from.told told told2 point (noted.List listing) (λ listings lists. lists_one from.setup beginning_point point listings listing lists (is c.ended)) c.listings notes)

-- steps are handed on
pub course_handed : (from : Beginning) (told told2 : Told) (handed : List Step) (running : Epoch) (deeds : List Deed) (journal : Kept Step) → Notes told told2 (noted.Part journal) → Course from told handed running deeds → Course from told2 (handed ++ journal.items) running deeds
unfolding with_item
course_handed from told told2 handed running deeds journal notes c = course-told from told told2 handed (handed ++ journal.items) running deeds c (tells-more from.told told told2 _ (noted.Part journal) c.tells notes)
    (listings_told from.setup from.told told told2 (record { ended = c.ended; running = running }) (noted.Part journal) (lists_other from.setup beginning_point (record { ended = c.ended; running = running })) c.listings notes)

-- ## The end of an epoch

abbrev pub next_of : Setup → Epoch → Epoch
next_of setup running = record { number = running.number + 1; began = (net_of as_session setup running).moment; journal = [] }

lawful-next : (setup : Setup) (running : Epoch) (later : List Epoch) → IsLawful as_session setup running.number running.began running.journal → is_idle (net_of as_session setup running) ≡ true
    → IsLawfulAfter as_session setup (running.number + 1) (net_of as_session setup running).moment later → IsLawfulAfter as_session setup running.number running.began (running ∷ later)
unfolding IsLawfulAfter
lawful-next setup running [] lawful idle after = (refl, refl, lawful)
lawful-next setup running (next ∷ later) lawful idle after = (refl, refl, lawful, idle, after)

deeds-next : (setup : Setup) (running : Epoch) (mine : List Deed) (later : List Epoch) (rest : List Deed) → IsRun setup running mine → AreDeeds setup later rest → AreDeeds setup (running ∷ later) (mine ++ rest)
unfolding AreDeeds
deeds-next setup running mine later rest run are = (mine, rest, refl, run, are)

no-run : (setup : Setup) (epoch : Epoch) → epoch.journal ≡ [] → IsRun setup epoch []
unfolding IsRun AreSent
no-run setup epoch none = (sym none, tt)

epoch-told : (from : Beginning) (told told2 : Told) (handed : List Step) (running : Epoch) (deeds : List Deed) (journal : Kept Step) (c : Course from told handed running deeds) → handed ++ journal.items ≡ running.journal
    → Notes told told2 (noted.Epoch running.number running.began journal) → TellsEpochs from.told told2 (record { ended = c.ended ++ running ∷ []; handed = [] })
unfolding with_item
epoch-told from told told2 handed running deeds journal c items notes =
    subst (λ (j : List Step). TellsEpochs from.told told2 (record { ended = c.ended ++ record { number = running.number; began = running.began; journal = j } ∷ []; handed = [] })) items
    (tells-more from.told told told2 _ (noted.Epoch running.number running.began journal) c.tells notes)

pub course_next : (from : Beginning) (told told2 : Told) (handed : List Step) (running : Epoch) (deeds : List Deed) (journal : Kept Step) → handed ++ journal.items ≡ running.journal → Notes told told2 (noted.Epoch running.number running.began journal)
    → IsLawful as_session from.setup running.number running.began running.journal → HasToEnd from.setup running → Course from told handed running deeds → Course from told2 [] (next_of from.setup running) deeds
course_next from told told2 handed running deeds journal items notes lawful ends c = record {
  ended = c.ended ++ running ∷ [];
  before = deeds;
  mine = [];
  deeds_are = sym (append-nil deeds);
  tells = epoch-told from told told2 handed running deeds journal c items notes;
  lawful = λ later after. subst (λ (es : List Epoch). AreLawful as_session from.setup es) (sym (append_assoc c.ended (running ∷ []) later)) (c.lawful (running ∷ later) (lawful-next from.setup running later lawful ends.idle after));
  are = λ later rest are.
      subst (λ (es : List Epoch). AreDeeds from.setup es (deeds ++ rest)) (sym (append_assoc c.ended (running ∷ []) later))
      (subst (λ (ds : List Deed). AreDeeds from.setup (c.ended ++ running ∷ later) ds) (sym (ap (λ (ds : List Deed). ds ++ rest) c.deeds_are ∙ append_assoc c.before c.mine rest))
      (c.are (running ∷ later) (c.mine ++ rest) (deeds-next from.setup running c.mine later rest c.run are)));
  run = no-run from.setup (next_of from.setup running) refl;
  obeys = obeys_more from.setup beginning_point (record { ended = c.ended; running = running }) (record { ended = c.ended ++ running ∷ []; running = next_of from.setup running }) from.orders c.obeys
      (quiet_turn c.ended running (next_of from.setup running) refl);
  listings = listings_on from.setup from.told told2 (record { ended = c.ended; running = running }) (record { ended = c.ended ++ running ∷ []; running = next_of from.setup running })
      (listings_told from.setup from.told told told2 (record { ended = c.ended; running = running }) (noted.Epoch running.number running.began journal) (lists_other from.setup beginning_point (record { ended = c.ended; running = running })) c.listings notes)
      (quiet_turn c.ended running (next_of from.setup running) refl).comes;
  in_time = are_in_time_next from.setup c.ended running (next_of from.setup running) ends refl c.in_time;
}

-- ## Beginning and end

tells-none : (told : Told) → TellsEpochs told told (record { ended = []; handed = [] })
unfolding TellsEpochs told_by
tells-none None = refl
tells-none (Some items) = inl ([], ap (λ (xs : Items). Some xs) (sym (append-nil items)), refl)

lawful-first : (setup : Setup) (later : List Epoch) → IsLawfulAfter as_session setup 0 0 later → AreLawful as_session setup later
unfolding AreLawful
lawful-first setup later is = is

abbrev pub first_epoch : Epoch
first_epoch = record { number = 0; began = 0; journal = [] }

pub course_begin : (from : Beginning) → from.orders ≡ [] → Course from from.told [] first_epoch []
course_begin from none = record {
  ended = [];
  before = [];
  mine = [];
  deeds_are = refl;
  tells = tells-none from.told;
  lawful = lawful-first from.setup;
  are = λ later rest are. are;
  run = no-run from.setup first_epoch refl;
  obeys = subst (λ (orders : List (Option Order)). Obeys from.setup beginning_point orders beginning_point) (sym none) (obeys_begin from.setup beginning_point);
  listings = listings_none from.setup from.told;
  in_time = are_in_time_begin from.setup first_epoch refl;
}

last-lawful : (setup : Setup) (running : Epoch) → IsLawful as_session setup running.number running.began running.journal → IsLawfulAfter as_session setup running.number running.began (running ∷ [])
unfolding IsLawfulAfter
last-lawful setup running lawful = (refl, refl, lawful)

last-deeds : (setup : Setup) (running : Epoch) (mine : List Deed) → IsRun setup running mine → AreDeeds setup (running ∷ []) mine
unfolding AreDeeds
last-deeds setup running mine run = (mine, [], sym (append-nil mine), run, refl)

-- all epochs are lawful, with the one that runs, and the deeds are theirs
pub course_lawful : (from : Beginning) (told : Told) (handed : List Step) (running : Epoch) (deeds : List Deed) (c : Course from told handed running deeds) → IsLawful as_session from.setup running.number running.began running.journal
    → AreLawful as_session from.setup (c.ended ++ running ∷ [])
course_lawful from told handed running deeds c lawful = c.lawful (running ∷ []) (last-lawful from.setup running lawful)

pub course_deeds : (from : Beginning) (told : Told) (handed : List Step) (running : Epoch) (deeds : List Deed) (c : Course from told handed running deeds) → AreDeeds from.setup (c.ended ++ running ∷ []) deeds
course_deeds from told handed running deeds c = subst (λ (ds : List Deed). AreDeeds from.setup (c.ended ++ running ∷ []) ds) (sym c.deeds_are) (c.are (running ∷ []) c.mine (last-deeds from.setup running c.mine c.run))
