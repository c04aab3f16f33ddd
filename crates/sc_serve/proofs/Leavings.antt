-- What a run leaves, from where its last round ended.
use Rattle.std.specs.Prelude.{Result, Ok, Err, IfErr, OnOk, OnErr, length}
use Rattle.std.proofs.Common.{◌≡◌, ℕ, List, [], ◌∷◌, ◌++◌, Option, None, Some, true, refl, sym, ap, subst, ◌∙◌, inl, inr}
use Rattle.std.specs.Option.{is_some}
use Rattle.sc_value.specs.declared.ids.Place.{Place}
use Rattle.sc_terms.specs.declared.steps.Step.{Step}
use Rattle.sc_parts.specs.declared.setup.Setup.{Setup}
use Rattle.sc_model.specs.Settings.{IsSetup}
use Rattle.sc_journal.specs.Kept.{Kept}
use Rattle.sc_edge.specs.Edges.{EdgeState}
use Rattle.sc_hosts.specs.Histories.{as_session}
use Rattle.sc_hosts.specs.Runs.{AreLawful, Epoch, IsLawful, IsLawfulFrom, net_from as chained, chained_from, start}
use Rattle.sc_switch.specs.Standing.{Known, net_of, whole}
use Rattle.sc_switch.specs.declared.ran.Ran.{Ran}
use Rattle.sc_switch.specs.declared.ran.Status.{Status}
use Rattle.sc_switch.specs.declared.ran.Status.TheVariants as statuses
use Rattle.sc_runs.specs.Following.{Streams}
use Rattle.sc_outs.specs.Deeds.{Deed}
use Rattle.sc_outs.specs.Owing.{Owing, left_at, nothing}
use Rattle.sc_outs.specs.Puts.{Puts}
use Rattle.sc_outs.proofs.Laws.{cut_of, puts_begin, took_parts, took_whole}
use Rattle.sc_courses.specs.Asking.{AreAlmostEven, AreEven, Asked, Given, Sources, Ticked, later_moments as raised, ticks_taken}
use Rattle.sc_courses.specs.Ordering.{Obeys, ObeysPart, Point, beginning_point}
use Rattle.sc_courses.proofs.AskingLaws.{even_almost, ticked_begin, ticked_part}
use Rattle.sc_edge.specs.declared.orders.Order.{Order}
use Rattle.sc_courses.specs.Courses.{AreDeeds, Beginning, TellsEpochs, TellsListings, Told, after}
use Rattle.sc_courses.specs.Due.{IsDue}
use Rattle.sc_courses.specs.Endings.{AreInTime, HasToEnd}
use Rattle.sc_courses.specs.Marks.{Hearing, HearingPart}
use Rattle.sc_courses.proofs.CourseLaws.{course_begin, course_deeds, course_lawful}
use Rattle.sc_courses.proofs.HeardLaws.{hearing_begin, hearing_part}
use Rattle.sc_courses.specs.Reports.{Shows, TellsLast, TellsLengths, TellsSuch}
use Rattle.sc_courses.specs.Seconds.{HandsInTime, Keeps}
use Rattle.sc_courses.proofs.ReportLaws.{last_told, lengths_told, reports_begin, such_none}
use Rattle.sc_courses.proofs.SecondLaws.{keeps_hands, keeps_none}
use Rattle.sc_rounds.specs.declared.stepping.Core.{Core}
use Rattle.sc_streams.specs.declared.streams.Pending.{Pending}
use Rattle.sc_rounds.specs.Moving.{AreAlmost}
use Rattle.sc_rounds.proofs.Seconds.{seconds_end}
use Rattle.sc_rounds.specs.Serving.{Counted, Ended, Ends, IsInSeconds, Reported, Runs, Serves, running}
use Rattle.sc_streams.specs.Streaming.{bytes_in, bytes_of}
use Rattle.sc_serve.specs.declared.server.Server.{Server}
use Rattle.sc_serve.specs.declared.stop.Stop.{Stop}
use Rattle.sc_serve.specs.declared.stop.Stop.TheVariants as stops
use Rattle.sc_serve.specs.Running.{Blames, FinishesOn, GoesOn, HaltedAfter, HaltsOn, HasItems, Holds, IsDueAt, IsNew, IsServed, fresh, status_of_stop as stopped}
use Rattle.sc_serve.specs.Closing.{Closes, ClosesAll}
use Rattle.sc_serve.specs.Polls.{PollsOften}
use Rattle.sc_serve.specs.Served.{ComesAt, Leaves, last_epoch}
use Rattle.sc_serve.proofs.AllClosings.{all_begin, all_waits}
use Rattle.sc_serve.proofs.Closings.{closes_begin, none_waits}
use Rattle.sc_serve.proofs.EachClosing.{each_closed}
use Rattle.sc_serve.proofs.Pollings.{often_none, often_of, part_of}

last-is : (ran : Ran) (known : Known) (journal : Kept Step) → ran.epoch ≡ known.epoch → ran.began ≡ known.began → journal.items ≡ known.journal → last_epoch ran known.handed journal ≡ running known
last-is ran known journal epoch began items = rw (epoch, began, items) refl

due-at : (from : Beginning) (known : Known) (ran : Ran) (journal : Kept Step) → ran.epoch ≡ known.epoch → ran.began ≡ known.began → journal.items ≡ known.journal → IsDue from.setup (running known) known.journal
    → IsDue from.setup (last_epoch ran known.handed journal) journal.items
due-at from known ran journal epoch began items due =
    subst (λ (last : Epoch). IsDue from.setup last journal.items) (sym (last-is ran known journal epoch began items)) (subst (λ (kept : List Step). IsDue from.setup (running known) kept) (sym items) due)

-- what both answered
abbrev answers : Beginning → Given
answers from = record { moments = from.moments; orders = from.orders }

abbrev obeying : Beginning → List (Option Order) → Beginning
obeying from orders = record from { orders = orders }

-- of the orders, which were all obeyed but maybe the last
obeys-part : (setup : Setup) (point : Point) (obeyed orders : List (Option Order)) → AreAlmost obeyed orders → Obeys setup beginning_point obeyed point → ObeysPart setup beginning_point orders point
unfolding ObeysPart
obeys-part setup point obeyed orders (inl same) obeys = inl (subst (λ (all : List (Option Order)). Obeys setup beginning_point all point) same obeys)
obeys-part setup point obeyed orders (inr (last, more)) obeys = inr (obeyed, last, more, obeys)

-- the point is that of the journal that the run leaves
obeys-last : (from : Beginning) (obeyed : List (Option Order)) (ran : Ran) (known : Known) (journal : Kept Step) (ended : List Epoch) → ran.epoch ≡ known.epoch → ran.began ≡ known.began → journal.items ≡ known.journal
    → Obeys from.setup beginning_point obeyed (record { ended = ended; running = running known }) → Obeys from.setup beginning_point obeyed (record { ended = ended; running = last_epoch ran known.handed journal })
obeys-last from obeyed ran known journal ended epoch began items obeys =
    subst (λ (last : Epoch). Obeys from.setup beginning_point obeyed (record { ended = ended; running = last })) (sym (last-is ran known journal epoch began items)) obeys

listings-last : (from : Beginning) (told : Told) (ran : Ran) (known : Known) (journal : Kept Step) (ended : List Epoch) → ran.epoch ≡ known.epoch → ran.began ≡ known.began → journal.items ≡ known.journal
    → TellsListings from.setup from.told told (record { ended = ended; running = running known }) → TellsListings from.setup from.told told (record { ended = ended; running = last_epoch ran known.handed journal })
listings-last from told ran known journal ended epoch began items listings =
    subst (λ (last : Epoch). TellsListings from.setup from.told told (record { ended = ended; running = last })) (sym (last-is ran known journal epoch began items)) listings

-- the last listing is of the last step of the journals that the run leaves
listed-last : (from : Beginning) (told : Told) (ran : Ran) (known : Known) (journal : Kept Step) (ended : List Epoch) → ran.epoch ≡ known.epoch → ran.began ≡ known.began → journal.items ≡ known.journal → TellsEpochs from.told told (record { ended = ended; handed = known.handed })
    → TellsSuch from.told told (Shows from.setup known.handed (running known)) → TellsLast from.setup from.told told (ended ++ last_epoch ran known.handed journal ∷ [])
listed-last from told ran known journal ended epoch began items tells shows =
    subst (λ (last : Epoch). TellsLast from.setup from.told told (ended ++ last ∷ [])) (sym (last-is ran known journal epoch began items)) (last_told from.setup from.told told ended known.handed (running known) tells shows)

-- and the lengths are those of these journals
lengths-last : (from : Beginning) (told : Told) (known : Known) (journal : Kept Step) (ended : List Epoch) → journal.items ≡ known.journal → TellsEpochs from.told told (record { ended = ended; handed = known.handed }) → Counted from told known
    → TellsLengths from.told told ended (length (known.handed ++ journal.items))
lengths-last from told known journal ended items tells counts =
    subst (λ (steps : List Step). TellsLengths from.told told ended (length (known.handed ++ steps))) (sym items) (lengths_told from.told told ended known.handed (length (whole known)) tells counts)

-- the epochs are those of these journals
in-time-last : (from : Beginning) (ran : Ran) (known : Known) (journal : Kept Step) (ended : List Epoch) → ran.epoch ≡ known.epoch → ran.began ≡ known.began → journal.items ≡ known.journal
    → AreInTime from.setup (record { ended = ended; running = running known }) → AreInTime from.setup (record { ended = ended; running = last_epoch ran known.handed journal })
in-time-last from ran known journal ended epoch began items are =
    subst (λ (last : Epoch). AreInTime from.setup (record { ended = ended; running = last })) (sym (last-is ran known journal epoch began items)) are

over-last : (from : Beginning) (ran : Ran) (known : Known) (journal : Kept Step) → ran.epoch ≡ known.epoch → ran.began ≡ known.began → journal.items ≡ known.journal → (HasToEnd from.setup (running known) → ⊥)
    → HasToEnd from.setup (last_epoch ran known.handed journal) → ⊥
over-last from ran known journal epoch began items over ends = over (subst (λ (last : Epoch). HasToEnd from.setup last) (last-is ran known journal epoch began items) ends)

leaves-of : (from : Beginning) (obeyed : List (Option Order)) (now : EdgeState) (told : Told) (known : Known) (ran : Ran) (journal : Kept Step) (deeds : List Deed) → AreAlmost obeyed from.orders → (ran.status ≡ statuses.Done → obeyed ≡ from.orders)
    → Ends (obeying from obeyed) now told known deeds → HearingPart from.edge.polled now.polled deeds
    → ran.epoch ≡ known.epoch → ran.began ≡ known.began → journal.items ≡ known.journal → IsLawful as_session known.setup known.epoch known.began (whole known) → ComesAt from.edge now deeds ran.status
    → (ran.status ≡ statuses.Done → ticks_taken deeds ≡ raised 0 from.moments) → (ran.status ≡ statuses.JournalFull → IsDue from.setup (running known) known.journal)
    → (ran.status ≡ statuses.Done → TellsSuch from.told told (Shows from.setup known.handed (running known))) → (ran.status ≡ statuses.Done → HasToEnd from.setup (running known) → ⊥) → AreAlmostEven (answers from) → (ran.status ≡ statuses.Done → AreEven (answers from)) → PollsOften from.edge now (length from.orders) → Closes from.edge now [] → (ran.status ≡ statuses.Done → (streams : Streams) × ClosesAll from.edge now streams []) → Leaves from now told ran journal
leaves-of from obeyed now told known ran journal deeds almost all ends heard epoch began items lawful comes ticked due shows over asked asked_all often closes closes_all = record {
  ended = ends.runs.course.ended;
  handed = known.handed;
  deeds = deeds;
  tells = ends.runs.course.tells;
  lawful = subst (λ (last : Epoch). AreLawful as_session from.setup (ends.runs.course.ended ++ last ∷ [])) (sym (last-is ran known journal epoch began items))
      (course_lawful (obeying from obeyed) told known.handed (running known) deeds ends.runs.course (subst (λ (setup : Setup). IsLawful as_session setup known.epoch known.began (whole known)) ends.runs.setup_is lawful));
  deeds_are = subst (λ (last : Epoch). AreDeeds from.setup (ends.runs.course.ended ++ last ∷ []) deeds) (sym (last-is ran known journal epoch began items))
      (course_deeds (obeying from obeyed) told known.handed (running known) deeds ends.runs.course);
  heard = heard;
  took = took_parts from.edge now deeds ends.cut;
  comes = comes;
  ticks = ends.ticked;
  ticked = ticked;
  orders = obeys-part from.setup (record { ended = ends.runs.course.ended; running = last_epoch ran known.handed journal }) obeyed from.orders almost (obeys-last from obeyed ran known journal ends.runs.course.ended epoch began items ends.runs.course.obeys);
  ordered = λ done. subst (λ (orders : List (Option Order)). Obeys from.setup beginning_point orders (record { ended = ends.runs.course.ended; running = last_epoch ran known.handed journal })) (all done)
      (obeys-last from obeyed ran known journal ends.runs.course.ended epoch began items ends.runs.course.obeys);
  listings = listings-last from told ran known journal ends.runs.course.ended epoch began items ends.runs.course.listings;
  listed = λ done. listed-last from told ran known journal ends.runs.course.ended epoch began items ends.runs.course.tells (shows done);
  lengths = lengths-last from told known journal ends.runs.course.ended items ends.runs.course.tells ends.counts;
  seconds = λ recorded. subst (λ (kept : List Step). TellsSuch from.told told (HandsInTime kept)) (sym items) (ends.seconds recorded);
  due = λ full. due-at from known ran journal epoch began items (due full);
  in_time = in-time-last from ran known journal ends.runs.course.ended epoch began items ends.runs.course.in_time;
  asked = asked;
  asked_all = asked_all;
  polled = often;
  closes = closes;
  closes_all = closes_all;
  closes_each = λ done. let (streams, all) = closes_all done in each_closed from.edge now streams all;
  over = λ done. over-last from ran known journal epoch began items (over done);
}

with-items : (found : Option (Kept Step)) (items : List Step) → HasItems found items → (journal : Kept Step) × (found ≡ Some journal) × (journal.items ≡ items)
unfolding HasItems
with-items None items has = absurd has
with-items (Some journal) items has = (journal, refl, has)

-- where the run ended within a round
pub served_cut : (from : Beginning) (obeyed : List (Option Order)) (now : EdgeState) (told : Told) (known : Known) (ran : Ran) → AreAlmost obeyed from.orders → Ended (obeying from obeyed) now told known → ran.epoch ≡ known.epoch → ran.began ≡ known.began → HasItems ran.journal known.journal
    → IsLawful as_session known.setup known.epoch known.began (whole known) → ((deeds : List Deed) → ComesAt from.edge now deeds ran.status)
    → (ran.status ≡ statuses.Done → ⊥) → (known.setup ≡ from.setup → ran.status ≡ statuses.JournalFull → IsDue from.setup (running known) known.journal) → AreAlmostEven (answers from) → PollsOften from.edge now (length from.orders) → Closes from.edge now [] → IsServed from now told ran
served_cut from obeyed now told known ran almost ended epoch began has lawful comes undone due asked often closes =
    let (journal, journal_is, items) = with-items ran.journal known.journal has in
    record { journal = journal; journal_is = journal_is; leaves = leaves-of from obeyed now told known ran journal ended.deeds almost (λ done. absurd (undone done)) ended.ends ended.hearing epoch began items lawful (comes ended.deeds) (λ done. absurd (undone done)) (due ended.ends.runs.setup_is) (λ done. absurd (undone done)) (λ done. absurd (undone done)) asked (λ done. absurd (undone done)) often closes (λ done. absurd (undone done)) }

done-comes : (from : Beginning) (now : EdgeState) (deeds : List Deed) (status : Status) (core : Core) (streams : List Pending) → status ≡ statuses.Done → Hearing from.edge.polled now.polled deeds (bytes_of streams) → Puts from.edge now deeds core.outs []
    → ((place : Place) → left_at core.outs place ≡ []) → ComesAt from.edge now deeds status
unfolding ComesAt
done-comes from now deeds status core streams is hearing puts none = rw is ((bytes_of streams, hearing), took_whole from.edge now deeds core.outs puts none)

done-full : {P : Type 0} (status : Status) → status ≡ statuses.Done → status ≡ statuses.JournalFull → P
done-full status done full = cc

starved-done : (status : Status) → status ≡ statuses.NoMemory → status ≡ statuses.Done → ⊥
starved-done status starved done = cc

starved-full : {P : Type 0} (status : Status) → status ≡ statuses.NoMemory → status ≡ statuses.JournalFull → P
starved-full status starved full = cc

-- where it was over
pub served_done : (from : Beginning) (now : EdgeState) (told : Told) (core : Core) (streams : List Pending) (ran : Ran) → Serves from now told core streams → ((place : Place) → left_at core.outs place ≡ []) → core.unlisted ≡ 0 → (HasToEnd from.setup (running core.switch) → ⊥) → AreEven (answers from) → PollsOften from.edge now (length from.orders) → Closes from.edge now [] → ClosesAll from.edge now (bytes_of streams) [] → ran.status ≡ statuses.Done
    → ran.epoch ≡ core.switch.epoch → ran.began ≡ core.switch.began → HasItems ran.journal core.switch.journal → IsLawful as_session core.switch.setup core.switch.epoch core.switch.began (whole core.switch) → IsServed from now told ran
served_done from now told core streams ran s none listed over asked often closes closes_all status epoch began has lawful =
    let (journal, journal_is, items) = with-items ran.journal core.switch.journal has in
    record {
      journal = journal;
      journal_is = journal_is;
      leaves = leaves-of from from.orders now told core.switch ran journal s.deeds (inl refl) (λ done. refl) (record { runs = s.stands.runs; cut = cut_of from.edge now s.deeds core.outs [] s.stands.puts; ticked = ticked_part from.moments s.deeds (net_of core.switch).moment s.stands.ticked; counts = s.stands.reports.counts; seconds = seconds_end from told core s.stands.seconds })
          (hearing_part from.edge.polled now.polled s.deeds (bytes_of streams) s.hearing) epoch began items lawful (done-comes from now s.deeds ran.status core streams status s.hearing s.stands.puts none) (λ done. s.stands.ticked.ticks) (done-full ran.status status) (λ done. s.stands.reports.shows listed) (λ done. over) (even_almost (answers from) asked) (λ done. asked) often closes (λ done. (bytes_of streams, closes_all));
    }

-- ## The beginning

abbrev pub beginning : Setup → Told → EdgeState → Beginning
beginning setup told edge = record { setup = setup; told = told; edge = edge; moments = []; orders = [] }

fresh-runs : (setup : Setup) (told : Told) (edge : EdgeState) → Runs (beginning setup told edge) told (fresh setup) []
fresh-runs setup told edge = record { setup_is = refl; course = course_begin (beginning setup told edge) refl }

fresh-moment : (setup : Setup) → (net_of (fresh setup)).moment ≡ 0
unfolding net_of chained chained_from start
fresh-moment setup = refl

none-kept : (streams : List Pending) → streams ≡ [] → (place : Place) → bytes_of streams place ≡ []
unfolding bytes_of bytes_in
none-kept streams none place = rw none refl

fresh-reports : (setup : Setup) (told : Told) (edge : EdgeState) → Reported (beginning setup told edge) told 0 0 (fresh setup)
fresh-reports setup told edge = reports_begin setup told (running (fresh setup)) refl

begun-reports : (setup : Setup) (told : Told) (edge : EdgeState) (count unlisted : ℕ) (known : Known) → known ≡ fresh setup → count ≡ 0 → unlisted ≡ 0 → Reported (beginning setup told edge) told count unlisted known
begun-reports setup told edge count unlisted known switch handed none =
    subst (λ (k : Known). Reported (beginning setup told edge) told count unlisted k) (sym switch)
    (subst (λ (n : ℕ). Reported (beginning setup told edge) told n unlisted (fresh setup)) (sym handed) (subst (λ (n : ℕ). Reported (beginning setup told edge) told 0 n (fresh setup)) (sym none) (fresh-reports setup told edge)))

-- nothing is kept yet
begun-seconds : (setup : Setup) (told : Told) (edge : EdgeState) (core : Core) → core.switch ≡ fresh setup → core.turning.recording ≡ is_some setup.config.recording → IsInSeconds (beginning setup told edge) told core
begun-seconds setup told edge core switch recording recorded = (
  recording ∙ recorded,
  subst (λ (known : Known). TellsSuch told told (Keeps core.kept_since (net_of known).moment known.journal)) (sym switch)
      (subst (λ (moment : ℕ). TellsSuch told told (Keeps core.kept_since moment [])) (sym (fresh-moment setup)) (such_none told (Keeps core.kept_since 0 []) (keeps_none core.kept_since))),
)

pub begun : (setup : Setup) (told : Told) (edge : EdgeState) (core : Core) (streams : List Pending) → core.switch ≡ fresh setup → core.outs ≡ nothing → core.handed ≡ 0 → core.unlisted ≡ 0 → core.turning.epoch_steps ≡ setup.config.epoch_steps → core.turning.recording ≡ is_some setup.config.recording → streams ≡ [] → Serves (beginning setup told edge) edge told core streams
begun setup told edge core streams switch outs handed unlisted as_set recording none = record {
  deeds = [];
  stands = record {
    runs = subst (λ (known : Known). Runs (beginning setup told edge) told known []) (sym switch) (fresh-runs setup told edge);
    left_is = ap (λ (known : Known). known.left) switch;
    puts = subst (λ (o : Owing). Puts edge edge [] o []) (sym outs) (puts_begin edge);
    ticked = subst (λ (n : ℕ). Ticked [] [] n) (sym (ap (λ (known : Known). (net_of known).moment) switch ∙ fresh-moment setup)) ticked_begin;
    reports = begun-reports setup told edge core.handed core.unlisted core.switch switch handed unlisted;
    as_set = as_set;
    seconds = begun-seconds setup told edge core switch recording;
  };
  hearing = hearing_begin edge.polled (bytes_of streams) (none-kept streams none);
}

-- a server that took no step
holds-begun : (old : Server) (told : Told) (edge : EdgeState) → old.core.switch ≡ fresh old.core.switch.setup → old.core.outs ≡ nothing → old.core.handed ≡ 0 → old.core.unlisted ≡ 0 → old.core.turning.epoch_steps ≡ old.core.switch.setup.config.epoch_steps → old.core.turning.recording ≡ is_some old.core.switch.setup.config.recording → old.streams ≡ [] → old.broken ≡ []
    → Holds (beginning old.core.switch.setup told edge) edge told old
holds-begun old told edge switch outs handed unlisted as_set recording streams broken = record {
  serves = begun old.core.switch.setup told edge old.core old.streams switch outs handed unlisted as_set recording streams;
  closes = closes_begin edge old.broken broken;
  closes_all = all_begin edge (bytes_of old.streams) old.broken (none-kept old.streams streams) broken;
}

none-lawful : (setup : Setup) → IsLawful as_session setup 0 0 []
unfolding IsLawful IsLawfulFrom
none-lawful setup = tt

no-memory : (first now : EdgeState) (deeds : List Deed) (status : Status) → status ≡ statuses.NoMemory → ComesAt first now deeds status
unfolding ComesAt
no-memory first now deeds status is = rw is tt

pub starved_comes : (first now : EdgeState) (status : Status) → status ≡ statuses.NoMemory → (deeds : List Deed) → ComesAt first now deeds status
starved_comes first now status is deeds = no-memory first now deeds status is

pub full_comes : (first now : EdgeState) (status : Status) → status ≡ statuses.JournalFull → (deeds : List Deed) → ComesAt first now deeds status
unfolding ComesAt
full_comes first now status is deeds = rw is tt

no-bytes : (place : Place) → bytes_of [] place ≡ []
unfolding bytes_of bytes_in
no-bytes place = refl

-- no switch could be made
pub never_started : (setup : Setup) (told : Told) (edge : EdgeState) (ran : Ran) → ran.status ≡ statuses.NoMemory → ran.epoch ≡ 0 → ran.began ≡ 0 → HasItems ran.journal [] → IsServed (beginning setup told edge) edge told ran
never_started setup told edge ran status epoch began has =
    served_cut (beginning setup told edge) [] edge told (fresh setup) ran (inl refl)
    (record {
      deeds = [];
      ends = record { runs = fresh-runs setup told edge; cut = cut_of edge edge [] nothing [] (puts_begin edge); ticked = ticked_part [] [] 0 ticked_begin; counts = (fresh-reports setup told edge).counts; seconds = λ recorded. such_none told (HandsInTime []) (keeps_hands 0 0 [] [] (keeps_none 0)) };
      hearing = hearing_part edge.polled edge.polled [] (bytes_of []) (hearing_begin edge.polled (bytes_of []) no-bytes);
    }) epoch began has (none-lawful setup) (starved_comes edge edge ran.status status) (starved-done ran.status status) (λ same. starved-full ran.status status) (even_almost (answers (beginning setup told edge)) refl) (often_none edge) (closes_begin edge [] refl)

-- ## A run from its beginning

-- it has its journal, and these were the answers of its clock and its orders
abbrev pub IsServedOn : Setup → Told → EdgeState → EdgeState → Told → Sources → Sources → Ran → Type 0
IsServedOn setup told edge now told2 sources sources2 ran = (given : Given) × Asked sources sources2 given × IsServed (record { setup = setup; told = told; edge = edge; moments = given.moments; orders = given.orders }) now told2 ran

-- the run was over
pub done_served : (old new : Server) (e e1 : EdgeState) (t t1 : Told) (k k1 : Sources) (ran : Ran) → old.core.switch ≡ fresh old.core.switch.setup → old.core.outs ≡ nothing → old.core.handed ≡ 0 → old.core.unlisted ≡ 0 → old.core.turning.epoch_steps ≡ old.core.switch.setup.config.epoch_steps → old.core.turning.recording ≡ is_some old.core.switch.setup.config.recording → old.streams ≡ [] → old.broken ≡ [] → old.unpolled ≡ 0 → FinishesOn old new e e1 t t1 k k1 → ran.status ≡ statuses.Done
    → ran.epoch ≡ new.core.switch.epoch → ran.began ≡ new.core.switch.began → HasItems ran.journal new.core.switch.journal → IsLawful as_session new.core.switch.setup new.core.switch.epoch new.core.switch.began (whole new.core.switch)
    → IsServedOn old.core.switch.setup t e e1 t1 k k1 ran
unfolding FinishesOn GoesOn
done_served old new e e1 t t1 k k1 ran switch outs handed unlisted as_set recording streams broken unpolled ((given, (even, polls), asked, goes), none, closed, listed, over) status epoch began has lawful =
    let s0 : Holds (beginning old.core.switch.setup t e) e t old = holds-begun old t e switch outs handed unlisted as_set recording streams broken in
    let s : Holds (after (beginning old.core.switch.setup t e) given) e1 t1 new = goes (beginning old.core.switch.setup t e) s0 in
    (given, asked, served_done (after (beginning old.core.switch.setup t e) given) e1 t1 new.core new.streams ran s.serves none listed (over (beginning old.core.switch.setup t e) s0) even (often_of old e e1 (length given.orders) unpolled (part_of old new e e1 (length given.orders) polls)) (none_waits e e1 new.broken s.closes) (all_waits e e1 (bytes_of new.streams) new.broken [] (sym closed) s.closes_all) status epoch began has lawful)

-- the run couldn't go on
pub halt_served : (old new : Server) (e e1 : EdgeState) (t t1 : Told) (k k1 : Sources) (ran : Ran) → old.core.switch ≡ fresh old.core.switch.setup → old.core.outs ≡ nothing → old.core.handed ≡ 0 → old.core.unlisted ≡ 0 → old.core.turning.epoch_steps ≡ old.core.switch.setup.config.epoch_steps → old.core.turning.recording ≡ is_some old.core.switch.setup.config.recording → old.streams ≡ [] → old.broken ≡ [] → old.unpolled ≡ 0 → HaltsOn old new e e1 t t1 k k1 → ((deeds : List Deed) → ComesAt e e1 deeds ran.status)
    → (ran.status ≡ statuses.Done → ⊥) → (new.core.switch.setup ≡ old.core.switch.setup → ran.status ≡ statuses.JournalFull → IsDue old.core.switch.setup (running new.core.switch) new.core.switch.journal)
    → ran.epoch ≡ new.core.switch.epoch → ran.began ≡ new.core.switch.began → HasItems ran.journal new.core.switch.journal → IsLawful as_session new.core.switch.setup new.core.switch.epoch new.core.switch.began (whole new.core.switch)
    → IsServedOn old.core.switch.setup t e e1 t1 k k1 ran
unfolding HaltsOn
halt_served old new e e1 t t1 k k1 ran switch outs handed unlisted as_set recording streams broken unpolled (given, (even, polls), asked, halts) comes undone due epoch began has lawful =
    let halted : HaltedAfter (beginning old.core.switch.setup t e) given e1 t1 new.core.switch = halts (beginning old.core.switch.setup t e) (holds-begun old t e switch outs handed unlisted as_set recording streams broken) in
    let (obeyed, almost, ended) = halted.ended in
    (given, asked, served_cut (after (beginning old.core.switch.setup t e) given) obeyed e1 t1 new.core.switch ran almost ended epoch began has lawful comes undone due even (often_of old e e1 (length given.orders) unpolled polls) halted.closes)

pub edge_comes : (first now : EdgeState) (status : Status) (cause : Stop) → status ≡ statuses.Edge → cause ≡ stops.Edge → Blames first now cause → (deeds : List Deed) → ComesAt first now deeds status
unfolding ComesAt Blames
edge_comes first now status cause is edge blames deeds = rw is (rw edge at blames)

-- ## As the run ended

stop_comes : (first now : EdgeState) (status : Status) (cause : Stop) → status ≡ stopped cause → Blames first now cause → (deeds : List Deed) → ComesAt first now deeds status
stop_comes first now status stops.JournalFull is blames deeds = full_comes first now status is deeds
stop_comes first now status stops.Edge is blames deeds = edge_comes first now status stops.Edge is refl blames deeds
stop_comes first now status stops.NoMemory is blames deeds = starved_comes first now status is deeds

stop-done : (status : Status) (cause : Stop) → status ≡ stopped cause → status ≡ statuses.Done → ⊥
stop-done status stops.JournalFull is done = cc
stop-done status stops.Edge is done = cc
stop-done status stops.NoMemory is done = cc

stop-due : (setup : Setup) (known : Known) (status : Status) (cause : Stop) → status ≡ stopped cause → IsSetup setup → IsDueAt known cause → known.setup ≡ setup → status ≡ statuses.JournalFull → IsDue setup (running known) known.journal
unfolding IsDueAt
stop-due setup known status stops.JournalFull is right due same full = subst (λ (set : Setup). IsDue set (running known) known.journal) same (due (subst IsSetup (sym same) right))
stop-due setup known status stops.Edge is right due same full = cc
stop-due setup known status stops.NoMemory is right due same full = cc

pub ran_served : {A : Type 0} (r : Result A Stop) (old new : Server) (e e1 : EdgeState) (t t1 : Told) (k k1 : Sources) (status : Status) (ran : Ran) → IsNew old → OnOk r (FinishesOn old new e e1 t t1 k k1) → OnErr r (HaltsOn old new e e1 t t1 k k1) → IfErr r (λ cause. Blames e e1 cause)
    → IsSetup old.core.switch.setup → IfErr r (λ cause. IsDueAt new.core.switch cause) → OnOk r (status ≡ statuses.Done) → IfErr r (λ cause. status ≡ stopped cause) → ran.status ≡ status
    → ran.epoch ≡ new.core.switch.epoch → ran.began ≡ new.core.switch.began → HasItems ran.journal new.core.switch.journal → IsLawful as_session new.core.switch.setup new.core.switch.epoch new.core.switch.began (whole new.core.switch)
    → IsServedOn old.core.switch.setup t e e1 t1 k k1 ran
ran_served (Ok x) old new e e1 t t1 k k1 status ran is_new finishes halts blames right due done stop status_is epoch began has lawful =
    done_served old new e e1 t t1 k k1 ran is_new.switch is_new.outs is_new.handed is_new.unlisted is_new.as_set is_new.recording is_new.streams is_new.broken is_new.unpolled finishes (status_is ∙ done) epoch began has lawful
ran_served (Err cause) old new e e1 t t1 k k1 status ran is_new finishes halts blames right due done stop status_is epoch began has lawful =
    halt_served old new e e1 t t1 k k1 ran is_new.switch is_new.outs is_new.handed is_new.unlisted is_new.as_set is_new.recording is_new.streams is_new.broken is_new.unpolled halts (stop_comes e e1 ran.status cause (status_is ∙ stop) blames) (stop-done ran.status cause (status_is ∙ stop)) (stop-due old.core.switch.setup new.core.switch ran.status cause (status_is ∙ stop) right due) epoch began has lawful
