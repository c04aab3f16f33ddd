-- A step of a server: the switch takes it, and what it sends is taken from the switch.
use Rattle.std.proofs.Common.{◌≡◌, ℕ, ◌+◌, ◌≤◌, ◌<◌, ◌≢◌, Bool, true, false, Option, None, Some, List, [], ◌∷◌, ◌++◌, refl, ap, sym, ◌∙◌, subst, append_assoc, inl, inr}
use Rattle.std.specs.Prelude.{Result, Ok, Err, OnOk, OnErr, IfOk, length, min}
use Rattle.std.specs.Option.{is_some}
use Rattle.std.proofs.lemmas.Bool.{false≢true}
use Rattle.std.proofs.lemmas.List.{append-nil}
use Rattle.std.proofs.Math.Nat.{zero-min}
use Rattle.sc_journal.specs.Kept.{Kept}
use Rattle.sc_value.specs.declared.ids.Place.{Place}
use Rattle.sc_value.specs.declared.message.Sent.{Sent}
use Rattle.sc_terms.specs.declared.steps.Step.{Step}
use Rattle.sc_terms.specs.declared.steps.Step.TheVariants as steps
use Rattle.sc_parts.specs.declared.setup.Setup.{Setup}
use Rattle.sc_edge.specs.Edges.{EdgeState}
use Rattle.sc_edge.specs.Telling.{Notes}
use Rattle.sc_edge.specs.declared.listing.Listing.{Listing}
use Rattle.sc_edge.specs.declared.notice.Noted.TheVariants as noted
use Rattle.sc_hosts.specs.EventLists.{listing_of}
use Rattle.sc_hosts.specs.Histories.{as_session}
use Rattle.sc_edge.specs.declared.orders.Order.{Order}
use Rattle.sc_hosts.specs.Steps.{live_at}
use Rattle.sc_hosts.specs.Runs.{Epoch, IsLawful, after_step, net_from as chained, chained_from, start}
use Rattle.sc_hosts.specs.Runs.{net_of as net_after}
use Rattle.sc_switch.specs.declared.refused.Epoch.{Epoch as Ended}
use Rattle.sc_switch.specs.Standing.{Known, net_of, step_of, whole}
use Rattle.sc_switch.specs.Answers.{IsListing, IsTurned, Leased, Received, Withdraws, handing, with_step}
use Rattle.sc_switch.specs.declared.refused.Committed.{Committed}
use Rattle.sc_switch.specs.declared.refused.Committed.TheVariants as committed
use Rattle.sc_servlets.specs.declared.done.Done.{Done}
use Rattle.sc_servlets.specs.declared.lease.Lease.{Lease}
use Rattle.sc_value.specs.declared.ids.AppId.{AppId}
use Rattle.sc_value.specs.declared.no_memory.NoMemory.{NoMemory}
use Rattle.sc_outs.specs.Deeds.{Deed}
use Rattle.sc_outs.specs.Owing.{IsLostAt, IsOwed, Owing}
use Rattle.sc_outs.specs.Puts.{Puts}
use Rattle.sc_outs.proofs.Laws.{cut_more, cut_of, puts_failed, puts_owed, puts_step}
use Rattle.sc_courses.specs.Courses.{Beginning, Course, Told, with_orders as ordered}
use Rattle.sc_courses.specs.Listings.{IsListingAt}
use Rattle.sc_courses.specs.Ordering.{Point, is_for, withdrawn_by}
use Rattle.sc_courses.specs.Endings.{HasToEnd, waits_for_end}
use Rattle.sc_courses.proofs.CourseLaws.{course_counted, course_handed, course_listed, course_next, course_no_order, course_step, course_unordered, course_withdrawn}
use Rattle.sc_courses.proofs.OrderingLaws.{is_for_gone, is_for_later}
use Rattle.sc_rounds.specs.Stepping.{IsLong, Ordered, StoppedAt, Unordered, order_at}
use Rattle.sc_rounds.specs.declared.stepping.Core.{Core}
use Rattle.sc_rounds.specs.declared.stepping.Turning.{Turning}
use Rattle.sc_courses.proofs.AskingLaws.{ticked_early, ticked_part}
use Rattle.sc_courses.specs.Reports.{Reports}
use Rattle.sc_courses.proofs.ReportLaws.{counts_step, reports_listed, reports_part, reports_step, reports_turned, untold}
use Rattle.sc_courses.specs.Seconds.{part_in}
use Rattle.sc_rounds.specs.Serving.{Counted, Ends, EndsAsSet, EndsInSeconds, HasNoEnd, IsInSecondsNext, Reported, Runs, RunsOn, Same, SameAt, Settles, Stands, Stopped, Took, Unreported, deed, moments_after, running, with_moment_of as timed}
use Rattle.sc_rounds.proofs.Overs.{long_ends, net-at}
use Rattle.sc_rounds.proofs.Seconds.{IsInTimeAt, ends_at, next_end, seconds_at, seconds_end, seconds_handed, seconds_settled, seconds_step, seconds_told}
use Rattle.sc_rounds.proofs.Timings.{IsLater, left_moment, lease_moment, none_withdrawn, runs_timed, taken_ticked, ticked_at, untaken_part, withdrawn_ticked}

on_ok : {A E P Q : Type 0} (r : Result A E) → (P → Q) → OnOk r P → OnOk r Q
on_ok (Ok a) f p = f p
on_ok (Err e) f p = tt

on_err : {A E P : Type 0} (r : Result A E) → P → OnErr r P
on_err (Ok a) p = tt
on_err (Err e) p = p

-- ## The switch's step

-- what a step of the switch sends, as the course has it
abbrev sends : Beginning → Known → Step → List Sent
sends from known step = (after_step as_session from.setup (net_after as_session from.setup (running known)) step).sent

net-same : (from : Beginning) (known : Known) → known.setup ≡ from.setup → net_of known ≡ net_after as_session from.setup (running known)
unfolding net_of net_after
net-same from known e = ap (λ (setup : Setup). chained as_session setup known.epoch known.began (whole known)) e

left-sent : (from : Beginning) (known : Known) (step : Step) → known.setup ≡ from.setup → known.left ≡ [] → (with_step known step).left ≡ sends from known step
left-sent from known step e none =
    ap (λ (left : List Sent). left ++ (after_step as_session known.setup (net_of known) step).sent) none
    ∙ (ap (λ (setup : Setup). (after_step as_session setup (net_of known) step).sent) e ∙ ap (λ net. (after_step as_session from.setup net step).sent) (net-same from known e))

-- a step by which none is withdrawn
runs-step : (from : Beginning) (told : Told) (known : Known) (deeds : List Deed) (step : Step) (failed : Bool) → withdrawn_by step ≡ [] → (waits_for_end step ≡ true → HasToEnd from.setup (running known) → ⊥) → Runs from told known deeds
    → Runs from told (with_step known step) (deeds ++ deed step (sends from known step) failed ∷ [])
runs-step from told known deeds step failed none ready runs = record {
  setup_is = runs.setup_is;
  course = subst (λ (journal : List Step). Course from told known.handed (record { number = known.epoch; began = known.began; journal = journal }) (deeds ++ deed step (sends from known step) failed ∷ []))
      (append_assoc known.handed known.journal (step ∷ [])) (course_step from told known.handed (running known) deeds step failed none ready runs.course);
}

pub runs-left : (from : Beginning) (told : Told) (old new : Known) (deeds : List Deed) → new ≡ record old { left = new.left } → Runs from told old deeds → Runs from told new deeds
runs-left from told old new deeds same runs =
    subst (λ (known : Known). Runs from told known deeds) (sym same) (record { setup_is = runs.setup_is; course = runs.course })

-- ## What the notice was told of it

-- a step was taken
unreported : (from : Beginning) (told : Told) (core : Core) (switch : Known) (step : Step) → switch ≡ with_step core.switch step → Reported from told core.handed core.unlisted core.switch → Unreported from told core.handed switch
unreported from told core switch step e r =
    subst (λ (known : Known). Unreported from told core.handed known) (sym e)
    (untold from.setup from.told told core.handed core.unlisted core.switch.epoch core.switch.began core.switch.handed core.switch.journal step r)

counted-at : (from : Beginning) (told : Told) (old new : Known) → new ≡ old → Counted from told old → Counted from told new
counted-at from told old new e counts = subst (λ (known : Known). Counted from told known) (sym e) counts

-- the same steps
reported-at : (from : Beginning) (told : Told) (count count2 unlisted unlisted2 : ℕ) (old new : Known) → count2 ≡ count → unlisted2 ≡ unlisted → new.handed ≡ old.handed → running new ≡ running old → Reported from told count unlisted old → Reported from told count2 unlisted2 new
reported-at from told count count2 unlisted unlisted2 old new a b c d r =
    subst (λ (n : ℕ). Reports from.setup from.told told n unlisted2 new.handed (running new)) (sym a)
    (subst (λ (n : ℕ). Reports from.setup from.told told count n new.handed (running new)) (sym b)
    (subst (λ (steps : List Step). Reports from.setup from.told told count unlisted steps (running new)) (sym c)
    (subst (λ (epoch : Epoch). Reports from.setup from.told told count unlisted old.handed epoch) (sym d) r)))

-- ## Where a run ends

-- ## A step

step-stands : (step : Step) (mid : Core) (switch : Known) (new : Core) (told told2 : Told) → switch ≡ with_step mid.switch step → IsLater (net_of mid.switch).moment step → IsInTimeAt mid step → Settles (record mid { switch = switch }) new told told2
    → (from : Beginning) (edge : EdgeState) (deeds : List Deed) → (waits_for_end step ≡ true → HasToEnd from.setup (running mid.switch) → ⊥) → Stands from edge told mid deeds → (sent : List Sent) × Stands (timed step from) edge told2 new (deeds ++ deed step sent false ∷ [])
unfolding Settles
step-stands step mid switch new told told2 e later in_time settles from edge deeds ready s =
    let sent : List Sent = sends from mid.switch step in (
      sent,
      settles (timed step from) edge (deeds ++ deed step sent false ∷ [])
          (runs_timed from (moments_after step from.moments) told switch (deeds ++ deed step sent false ∷ [])
          (subst (λ (known : Known). Runs from told known (deeds ++ deed step sent false ∷ [])) (sym e) (runs-step from told mid.switch deeds step false (none_withdrawn (net_of mid.switch).moment step later) ready s.runs)))
          (subst (λ (left : List Sent). Puts from.edge edge (deeds ++ deed step sent false ∷ []) mid.outs left)
          (sym (ap (λ (known : Known). known.left) e ∙ left-sent from mid.switch step s.runs.setup_is s.left_is))
          (puts_step from.edge edge deeds mid.outs (deed step sent false) refl s.puts))
          (taken_ticked step sent false from.moments deeds mid.switch switch e later s.ticked)
          (unreported from told mid switch step e s.reports)
          s.as_set
          (seconds_step from told mid switch step e in_time s.seconds),
    )

-- the epoch that runs has no end before this step
abbrev pub IsReady : Step → Core → Told → Known → Type 0
IsReady step old told known = waits_for_end step ≡ true → HasNoEnd old told known

ready-at : (step : Step) (old : Core) (told : Told) (known : Known) → IsReady step old told known → (from : Beginning) (edge : EdgeState) (deeds : List Deed) → Stands from edge told old deeds → waits_for_end step ≡ true → HasToEnd from.setup (running known) → ⊥
unfolding HasNoEnd
ready-at step old told known ready from edge deeds s waits = ready waits from edge deeds s

-- a turn doesn't wait for one
pub turn_ready : (done : Done) (old : Core) (told : Told) (known : Known) → IsReady (step_of done) old told known
unfolding step_of waits_for_end
turn_ready done old told known waits = absurd (false≢true waits)

pub took : (step : Step) (old mid : Core) (switch : Known) (new : Core) (told told1 told2 : Told) → Same old mid told told1 → switch ≡ with_step mid.switch step → IsLater (net_of mid.switch).moment step → IsInTimeAt mid step → IsReady step old told mid.switch → Settles (record mid { switch = switch }) new told1 told2
    → Took step false old new told told2
unfolding Same Took
took step old mid switch new told told1 told2 same e later in_time ready settles from edge deeds s =
    step-stands step mid switch new told1 told2 e later in_time settles from edge deeds (ready-at step old told mid.switch ready from edge deeds s) (same from edge deeds s)

pub took_ok : {A E : Type 0} (r : Result A E) (step : Step) (old mid : Core) (switch : Known) (new : Core) (told told1 told2 : Told) → Same old mid told told1 → switch ≡ with_step mid.switch step
    → IsLater (net_of mid.switch).moment step → IsInTimeAt mid step → IsReady step old told mid.switch → OnOk r (Settles (record mid { switch = switch }) new told1 told2) → OnOk r (Took step false old new told told2)
took_ok r step old mid switch new told told1 told2 same e later in_time ready = on_ok r (took step old mid switch new told told1 told2 same e later in_time ready)

-- the step was taken, and the run ended behind it
pub cut_behind : (step : Step) (old mid : Core) (switch : Known) (new : Core) (told told1 told2 : Told) → Same old mid told told1 → switch ≡ with_step mid.switch step → IsLater (net_of mid.switch).moment step → IsInTimeAt mid step → IsReady step old told mid.switch → RunsOn (record mid { switch = switch }) new told1 told2
    → Stopped step false old new told told2
unfolding Same Stopped RunsOn
cut_behind step old mid switch new told told1 told2 same e later in_time ready on from edge deeds s =
    let s1 : Stands from edge told1 mid deeds = same from edge deeds s in
    let sent : List Sent = sends from mid.switch step in
    let on1 : Runs from told2 new.switch (deeds ++ deed step sent false ∷ []) × Counted from told2 new.switch × EndsInSeconds from told2 new.switch =
    on from (deeds ++ deed step sent false ∷ []) (subst (λ (known : Known). Runs from told1 known (deeds ++ deed step sent false ∷ [])) (sym e) (runs-step from told1 mid.switch deeds step false (none_withdrawn (net_of mid.switch).moment step later) (ready-at step old told mid.switch ready from edge deeds s) s1.runs))
    (unreported from told1 mid switch step e s1.reports)
    (seconds_step from told1 mid switch step e in_time s1.seconds)
    in
    inr (
      sent,
      record {
        runs = runs_timed from (moments_after step from.moments) told2 new.switch (deeds ++ deed step sent false ∷ []) on1.0;
        cut = cut_more from.edge edge deeds (deed step sent false) (cut_of from.edge edge deeds mid.outs [] s1.puts);
        ticked = ticked_part (moments_after step from.moments) (deeds ++ deed step sent false ∷ []) (net_of switch).moment (taken_ticked step sent false from.moments deeds mid.switch switch e later s1.ticked);
        counts = on1.1;
        seconds = on1.2;
      },
    )

pub took_err : {A E : Type 0} (r : Result A E) (step : Step) (old mid : Core) (switch : Known) (new : Core) (told told1 told2 : Told) → Same old mid told told1 → switch ≡ with_step mid.switch step
    → IsLater (net_of mid.switch).moment step → IsInTimeAt mid step → IsReady step old told mid.switch → RunsOn (record mid { switch = switch }) new told1 told2 → OnErr r (Stopped step false old new told told2)
took_err r step old mid switch new told told1 told2 same e later in_time ready on = on_err r (cut_behind step old mid switch new told told1 told2 same e later in_time ready on)

-- no step was taken
pub none_taken : (step : Step) (failed : Bool) (old mid new : Core) (told told1 : Told) → Same old mid told told1 → new.switch ≡ mid.switch → Stopped step failed old new told told1
unfolding Same Stopped
none_taken step failed old mid new told told1 same e from edge deeds s =
    let s1 : Stands from edge told1 mid deeds = same from edge deeds s in
    inl (record {
      runs = runs_timed from (moments_after step from.moments) told1 new.switch deeds (subst (λ (known : Known). Runs from told1 known deeds) (sym e) s1.runs);
      cut = cut_of from.edge edge deeds mid.outs [] s1.puts;
      ticked = untaken_part step from.moments deeds (net_of mid.switch).moment s1.ticked;
      counts = counted-at from told1 mid.switch new.switch e s1.reports.counts;
      seconds = ends_at from told1 mid.switch new.switch e (seconds_end from told1 mid s1.seconds);
    })

-- ## An order

runs-withdrawn : (from : Beginning) (told : Told) (known : Known) (deeds : List Deed) (app : AppId) → is_some (live_at app (net_of known)) ≡ true → Runs from told known deeds
    → Runs (ordered from (Some (record { epoch = known.epoch; app = app }) ∷ [])) told (with_step known (steps.Withdraw app)) (deeds ++ deed (steps.Withdraw app) (sends from known (steps.Withdraw app)) false ∷ [])
runs-withdrawn from told known deeds app lives runs =
    let from2 : Beginning = ordered from (Some (record { epoch = known.epoch; app = app }) ∷ []) in
    record {
      setup_is = runs.setup_is;
      course = subst (λ (journal : List Step). Course from2 told known.handed (record { number = known.epoch; began = known.began; journal = journal }) (deeds ++ deed (steps.Withdraw app) (sends from known (steps.Withdraw app)) false ∷ []))
          (append_assoc known.handed known.journal (steps.Withdraw app ∷ []))
          (course_withdrawn from told known.handed (running known) deeds app (subst (λ net. is_some (live_at app net) ≡ true) (net-same from known runs.setup_is) lives) runs.course);
    }

-- all was taken at the withdrawal
withdraw-stands : (app : AppId) (mid : Core) (switch : Known) (new : Core) (told told2 : Told) → switch ≡ with_step mid.switch (steps.Withdraw app) → is_some (live_at app (net_of mid.switch)) ≡ true
    → Settles (record mid { switch = switch }) new told told2 → Ordered app mid new told told2
unfolding Settles Ordered
withdraw-stands app mid switch new told told2 e lives settles from edge deeds s =
    let step : Step = steps.Withdraw app in
    let sent : List Sent = sends from mid.switch step in
    let from2 : Beginning = ordered from (Some (order_at mid app) ∷ []) in (
      sent,
      settles from2 edge (deeds ++ deed step sent false ∷ [])
          (subst (λ (known : Known). Runs from2 told known (deeds ++ deed step sent false ∷ [])) (sym e) (runs-withdrawn from told mid.switch deeds app lives s.runs))
          (subst (λ (left : List Sent). Puts from.edge edge (deeds ++ deed step sent false ∷ []) mid.outs left)
          (sym (ap (λ (known : Known). known.left) e ∙ left-sent from mid.switch step s.runs.setup_is s.left_is))
          (puts_step from.edge edge deeds mid.outs (deed step sent false) refl s.puts))
          (withdrawn_ticked app sent from.moments deeds mid.switch switch e s.ticked)
          (unreported from told mid switch step e s.reports)
          s.as_set
          (seconds_step from told mid switch step e (λ recording. tt) s.seconds),
    )

-- at another core of the same epoch
order-same : (old mid : Core) (app : AppId) → mid.switch.epoch ≡ old.switch.epoch → order_at mid app ≡ order_at old app
order-same old mid app e = ap (λ (epoch : ℕ). let order : Order = record { epoch = epoch; app = app } in order) e

pub withdrew : (app : AppId) (old mid : Core) (switch : Known) (new : Core) (told told1 told2 : Told) → Same old mid told told1 → mid.switch.epoch ≡ old.switch.epoch → switch ≡ with_step mid.switch (steps.Withdraw app)
    → is_some (live_at app (net_of mid.switch)) ≡ true → Settles (record mid { switch = switch }) new told1 told2 → Ordered app old new told told2
unfolding Same Ordered
withdrew app old mid switch new told told1 told2 same epoch e lives settles from edge deeds s =
    subst (λ (order : Order). (sent : List Sent) × Stands (ordered from (Some order ∷ [])) edge told2 new (deeds ++ deed (steps.Withdraw app) sent false ∷ [])) (order-same old mid app epoch)
    (withdraw-stands app mid switch new told1 told2 e lives settles from edge deeds (same from edge deeds s))

-- the session was withdrawn, and the run ended behind it
pub withdrew_behind : (app : AppId) (old mid : Core) (switch : Known) (new : Core) (told told1 told2 : Told) → Same old mid told told1 → mid.switch.epoch ≡ old.switch.epoch → switch ≡ with_step mid.switch (steps.Withdraw app)
    → is_some (live_at app (net_of mid.switch)) ≡ true → RunsOn (record mid { switch = switch }) new told1 told2 → StoppedAt app old new told told2
unfolding Same StoppedAt RunsOn
withdrew_behind app old mid switch new told told1 told2 same epoch e lives on from edge deeds s =
    let s1 : Stands from edge told1 mid deeds = same from edge deeds s in
    let step : Step = steps.Withdraw app in
    let sent : List Sent = sends from mid.switch step in
    inr (
      sent,
      subst (λ (order : Order). Ends (ordered from (Some order ∷ [])) edge told2 new.switch (deeds ++ deed step sent false ∷ [])) (order-same old mid app epoch)
          (let from2 : Beginning = ordered from (Some (order_at mid app) ∷ []) in
          let on1 : Runs from2 told2 new.switch (deeds ++ deed step sent false ∷ []) × Counted from2 told2 new.switch × EndsInSeconds from2 told2 new.switch =
          on from2 (deeds ++ deed step sent false ∷ []) (subst (λ (known : Known). Runs from2 told1 known (deeds ++ deed step sent false ∷ [])) (sym e) (runs-withdrawn from told1 mid.switch deeds app lives s1.runs))
          (unreported from told1 mid switch step e s1.reports)
          (seconds_step from told1 mid switch step e (λ recording. tt) s1.seconds)
          in
          record {
            runs = on1.0;
            cut = cut_more from.edge edge deeds (deed step sent false) (cut_of from.edge edge deeds mid.outs [] s1.puts);
            ticked = ticked_part from.moments (deeds ++ deed step sent false ∷ []) (net_of switch).moment (withdrawn_ticked app sent from.moments deeds mid.switch switch e s1.ticked);
            counts = on1.1;
            seconds = on1.2;
          }),
    )

-- the run ended before it
pub none_withdrew : (app : AppId) (old mid new : Core) (told told1 : Told) → Same old mid told told1 → new.switch ≡ mid.switch → StoppedAt app old new told told1
unfolding Same StoppedAt
none_withdrew app old mid new told told1 same e from edge deeds s =
    let s1 : Stands from edge told1 mid deeds = same from edge deeds s in
    inl (record {
      runs = subst (λ (known : Known). Runs from told1 known deeds) (sym e) s1.runs;
      cut = cut_of from.edge edge deeds mid.outs [] s1.puts;
      ticked = ticked_part from.moments deeds (net_of mid.switch).moment s1.ticked;
      counts = counted-at from told1 mid.switch new.switch e s1.reports.counts;
      seconds = ends_at from told1 mid.switch new.switch e (seconds_end from told1 mid s1.seconds);
    })

-- an order that names no session which lives in the epoch that runs
unordered-by : (order : Order) (core : Core) (told : Told) → ((setup : Setup) (point : Point) → core.switch.setup ≡ setup → point.running ≡ running core.switch → is_for setup point order ≡ false) → Unordered (Some order) core core told told
unfolding Unordered
unordered-by order core told none from edge deeds s = record {
  runs = record { setup_is = s.runs.setup_is; course = course_unordered from told core.switch.handed (running core.switch) deeds order (λ point is. none from.setup point s.runs.setup_is is) s.runs.course };
  left_is = s.left_is;
  puts = s.puts;
  ticked = s.ticked;
  reports = s.reports;
  as_set = s.as_set;
  seconds = s.seconds;
}

-- it is of another epoch
pub other_epoch : (order : Order) (core : Core) (told : Told) → order.epoch ≢ core.switch.epoch → Unordered (Some order) core core told told
other_epoch order core told other = unordered-by order core told (λ setup point _ is. is_for_later setup point order (λ same. other (same ∙ ap (λ (epoch : Epoch). epoch.number) is)))

gone-order : (core : Core) (told : Told) (app : AppId) → is_some (live_at app (net_of core.switch)) ≡ false → Unordered (Some (order_at core app)) core core told told
gone-order core told app gone = unordered-by (order_at core app) core told (λ setup point e is. is_for_gone setup point (order_at core app)
    (subst (λ net. is_some (live_at app net) ≡ false) (net-at core.switch setup e ∙ ap (λ (epoch : Epoch). net_after as_session setup epoch) (sym is)) gone))

-- the session didn't live
pub gone_order : (app : AppId) (old mid new : Core) (told told1 : Told) → Same old mid told told1 → mid.switch.epoch ≡ old.switch.epoch → is_some (live_at app (net_of mid.switch)) ≡ false → Same mid new told1 told1 → Unordered (Some (order_at old app)) old new told told1
unfolding Same Unordered
gone_order app old mid new told told1 same epoch gone later from edge deeds s =
    let s1 : Stands (ordered from (Some (order_at mid app) ∷ [])) edge told1 mid deeds = gone-order mid told1 app gone from edge deeds (same from edge deeds s) in
    subst (λ (order : Order). Stands (ordered from (Some order ∷ [])) edge told1 new deeds) (order-same old mid app epoch) (later (ordered from (Some (order_at mid app) ∷ [])) edge deeds s1)

-- no order was there
pub no_order : (core : Core) (told : Told) → Unordered None core core told told
unfolding Unordered
no_order core told from edge deeds s = record {
  runs = record { setup_is = s.runs.setup_is; course = course_no_order from told core.switch.handed (running core.switch) deeds s.runs.course };
  left_is = s.left_is;
  puts = s.puts;
  ticked = s.ticked;
  reports = s.reports;
  as_set = s.as_set;
  seconds = s.seconds;
}

-- ## A place that failed

fall-stands : (at : Place) (mid : Core) (switch : Known) (outs : Owing) (new : Core) (told told2 : Told) → switch ≡ with_step mid.switch (steps.Lost at) → IsLostAt at mid.outs outs → Settles (record mid { switch = switch; outs = outs }) new told told2
    → (from : Beginning) (edge : EdgeState) (deeds : List Deed) → (waits_for_end (steps.Lost at) ≡ true → HasToEnd from.setup (running mid.switch) → ⊥) → Stands from edge told mid deeds → (sent : List Sent) × Stands from edge told2 new (deeds ++ deed (steps.Lost at) sent true ∷ [])
unfolding Settles
fall-stands at mid switch outs new told told2 e lost settles from edge deeds ready s =
    let sent : List Sent = sends from mid.switch (steps.Lost at) in (
      sent,
      settles from edge (deeds ++ deed (steps.Lost at) sent true ∷ [])
          (subst (λ (known : Known). Runs from told known (deeds ++ deed (steps.Lost at) sent true ∷ [])) (sym e) (runs-step from told mid.switch deeds (steps.Lost at) true refl ready s.runs))
          (subst (λ (left : List Sent). Puts from.edge edge (deeds ++ deed (steps.Lost at) sent true ∷ []) outs left)
          (sym (ap (λ (known : Known). known.left) e ∙ left-sent from mid.switch (steps.Lost at) s.runs.setup_is s.left_is))
          (puts_failed from.edge edge deeds mid.outs outs at sent s.puts lost))
          (taken_ticked (steps.Lost at) sent true from.moments deeds mid.switch switch e tt s.ticked)
          (unreported from told mid switch (steps.Lost at) e s.reports)
          s.as_set
          (seconds_step from told mid switch (steps.Lost at) e (λ recording. tt) s.seconds),
    )

fell : (at : Place) (old mid : Core) (switch : Known) (outs : Owing) (new : Core) (told told1 told2 : Told) → Same old mid told told1 → switch ≡ with_step mid.switch (steps.Lost at) → IsLostAt at mid.outs outs
    → IsReady (steps.Lost at) old told mid.switch → Settles (record mid { switch = switch; outs = outs }) new told1 told2 → Took (steps.Lost at) true old new told told2
unfolding Same Took
fell at old mid switch outs new told told1 told2 same e lost ready settles from edge deeds s =
    fall-stands at mid switch outs new told1 told2 e lost settles from edge deeds (ready-at (steps.Lost at) old told mid.switch ready from edge deeds s) (same from edge deeds s)

pub fell_ok : {A E : Type 0} (r : Result A E) (at : Place) (old mid : Core) (switch : Known) (outs : Owing) (new : Core) (told told1 told2 : Told) → Same old mid told told1 → switch ≡ with_step mid.switch (steps.Lost at) → IsLostAt at mid.outs outs
    → IsReady (steps.Lost at) old told mid.switch → OnOk r (Settles (record mid { switch = switch; outs = outs }) new told1 told2) → OnOk r (Took (steps.Lost at) true old new told told2)
fell_ok r at old mid switch outs new told told1 told2 same e lost ready = on_ok r (fell at old mid switch outs new told told1 told2 same e lost ready)

pub fell_behind : (at : Place) (old mid : Core) (switch : Known) (outs : Owing) (new : Core) (told told1 told2 : Told) → Same old mid told told1 → switch ≡ with_step mid.switch (steps.Lost at)
    → IsReady (steps.Lost at) old told mid.switch → RunsOn (record mid { switch = switch; outs = outs }) new told1 told2 → Stopped (steps.Lost at) true old new told told2
unfolding Same Stopped RunsOn
fell_behind at old mid switch outs new told told1 told2 same e ready on from edge deeds s =
    let s1 : Stands from edge told1 mid deeds = same from edge deeds s in
    let sent : List Sent = sends from mid.switch (steps.Lost at) in
    let on1 : Runs from told2 new.switch (deeds ++ deed (steps.Lost at) sent true ∷ []) × Counted from told2 new.switch × EndsInSeconds from told2 new.switch =
    on from (deeds ++ deed (steps.Lost at) sent true ∷ []) (subst (λ (known : Known). Runs from told1 known (deeds ++ deed (steps.Lost at) sent true ∷ [])) (sym e) (runs-step from told1 mid.switch deeds (steps.Lost at) true refl (ready-at (steps.Lost at) old told mid.switch ready from edge deeds s) s1.runs))
    (unreported from told1 mid switch (steps.Lost at) e s1.reports)
    (seconds_step from told1 mid switch (steps.Lost at) e (λ recording. tt) s1.seconds)
    in
    inr (
      sent,
      record {
        runs = on1.0;
        cut = cut_more from.edge edge deeds (deed (steps.Lost at) sent true) (cut_of from.edge edge deeds mid.outs [] s1.puts);
        ticked = ticked_part from.moments (deeds ++ deed (steps.Lost at) sent true ∷ []) (net_of switch).moment (taken_ticked (steps.Lost at) sent true from.moments deeds mid.switch switch e tt s1.ticked);
        counts = on1.1;
        seconds = on1.2;
      },
    )

pub fell_err : {A E : Type 0} (r : Result A E) (at : Place) (old mid : Core) (switch : Known) (outs : Owing) (new : Core) (told told1 told2 : Told) → Same old mid told told1 → switch ≡ with_step mid.switch (steps.Lost at)
    → IsReady (steps.Lost at) old told mid.switch → RunsOn (record mid { switch = switch; outs = outs }) new told1 told2 → OnErr r (Stopped (steps.Lost at) true old new told told2)
fell_err r at old mid switch outs new told told1 told2 same e ready on = on_err r (fell_behind at old mid switch outs new told told1 told2 same e ready on)

-- ## Taking what was sent

told-runs : (from : Beginning) (told told2 : Told) (known : Known) (deeds : List Deed) (count : ℕ) → Notes told told2 (noted.Step count) → Runs from told known deeds → Runs from told2 known deeds
told-runs from told told2 known deeds count notes runs = record { setup_is = runs.setup_is; course = course_counted from told told2 known.handed (running known) deeds count notes runs.course }

count-notes : (told told2 : Told) (count count2 : ℕ) → count ≡ count2 → Notes told told2 (noted.Step count) → Notes told told2 (noted.Step count2)
count-notes told told2 count count2 e notes = subst (λ (n : ℕ). Notes told told2 (noted.Step n)) e notes

-- the settings stay
set-as : (from : Beginning) (old new : Core) → new.turning ≡ old.turning → EndsAsSet from old → EndsAsSet from new
set-as from old new same as_set = ap (λ (turning : Turning). turning.epoch_steps) same ∙ as_set

pub settled : (old new : Core) (told told2 : Told) (count : ℕ) → Notes told told2 (noted.Step count) → count ≡ min (old.handed + length old.switch.journal) 18446744073709551615 → new.switch ≡ record old.switch { left = new.switch.left } → new.switch.left ≡ []
    → new.handed ≡ old.handed → new.unlisted ≡ min (old.unlisted + 1) 18446744073709551615 → new.turning ≡ old.turning
    → (length old.switch.journal ≡ 1 → new.kept_since ≡ (net_of old.switch).moment) → ((length old.switch.journal ≡ 1 → ⊥) → new.kept_since ≡ old.kept_since)
    → ((first now : EdgeState) (deeds : List Deed) → Puts first now deeds old.outs old.switch.left → Puts first now deeds new.outs []) → Settles old new told told2
unfolding Settles
settled old new told told2 count notes count_is same all handed unlisted turning first later keeps from edge deeds runs puts ticked last as_set seconds = record {
  runs = runs-left from told2 old.switch new.switch deeds same (told-runs from told told2 old.switch deeds count notes runs);
  left_is = all;
  puts = keeps from.edge edge deeds puts;
  ticked = ticked_at from.moments deeds (net_of old.switch).moment (net_of new.switch).moment (left_moment old.switch new.switch same) ticked;
  reports = reported-at from told2 old.handed new.handed new.unlisted new.unlisted old.switch new.switch handed refl (ap (λ (known : Known). known.handed) same) (ap (λ (known : Known). running known) same)
      (reports_step from.setup from.told told told2 old.handed old.unlisted new.unlisted old.switch.epoch old.switch.began old.switch.handed old.switch.journal unlisted last (count-notes told told2 count _ count_is notes));
  as_set = set-as from old new turning as_set;
  seconds = seconds_settled from told told2 old new count notes same turning first later seconds;
}

counted-left : (from : Beginning) (told : Told) (old new : Known) → new ≡ record old { left = new.left } → Counted from told old → Counted from told new
counted-left from told old new same counts = subst (λ (known : Known). Counted from told known) (sym same) counts

pub settled_runs : (old new : Core) (told told2 : Told) (count : ℕ) → Notes told told2 (noted.Step count) → count ≡ min (old.handed + length old.switch.journal) 18446744073709551615 → new.switch ≡ record old.switch { left = new.switch.left } → RunsOn old new told told2
unfolding RunsOn
settled_runs old new told told2 count notes count_is same from deeds runs last seconds = (
  runs-left from told2 old.switch new.switch deeds same (told-runs from told told2 old.switch deeds count notes runs),
  counted-left from told2 old.switch new.switch same
      (counts_step from.told told told2 old.handed old.switch.epoch old.switch.began old.switch.handed old.switch.journal last (count-notes told told2 count _ count_is notes)),
  next_end from told told2 old new count notes same seconds,
)

pub owed_on : (outs outs2 : Owing) (sent : Sent) (before left : List Sent) → before ≡ sent ∷ left → IsOwed sent outs outs2
    → (first now : EdgeState) (deeds : List Deed) → Puts first now deeds outs before → Puts first now deeds outs2 left
owed_on outs outs2 sent before left e owed first now deeds puts = puts_owed first now deeds outs outs2 sent left (rw e at puts) owed

-- ## Epochs and parts

pub same_core : (core : Core) (told : Told) → Same core core told told
unfolding Same
same_core core told from edge deeds s = s

pub same_then : (a b c : Core) (told told1 told2 : Told) → Same a b told told1 → Same b c told1 told2 → Same a c told told2
unfolding Same
same_then a b c told told1 told2 first later from edge deeds s = later from edge deeds (first from edge deeds s)

same-notes : (told told2 : Told) (number number2 began began2 : ℕ) (journal : Kept Step) → number ≡ number2 → began ≡ began2 → Notes told told2 (noted.Epoch number began journal) → Notes told told2 (noted.Epoch number2 began2 journal)
same-notes told told2 number number2 began began2 journal a b notes = subst (λ (n : ℕ). Notes told told2 (noted.Epoch n began2 journal)) a (subst (λ (n : ℕ). Notes told told2 (noted.Epoch number n journal)) b notes)

runs-turned : (from : Beginning) (told told2 : Told) (old new : Known) (deeds : List Deed) (ended : Ended) → IsTurned old new ended → Notes told told2 (noted.Epoch ended.number ended.began ended.journal) → HasToEnd from.setup (running old) → Runs from told old deeds → Runs from told2 new deeds
runs-turned from told told2 old new deeds ended turned notes ends runs =
    subst (λ (known : Known). Runs from told2 known deeds) (sym turned.new_is) (record {
      setup_is = runs.setup_is;
      course = subst (λ net. Course from told2 [] (record { number = old.epoch + 1; began = net.moment; journal = [] }) deeds) (sym (net-same from old runs.setup_is))
          (course_next from told told2 old.handed (running old) deeds ended.journal (ap (λ (j : List Step). old.handed ++ j) turned.journal_is)
          (same-notes told told2 ended.number old.epoch ended.began old.began ended.journal turned.number_is turned.began_is notes)
          (subst (λ (setup : Setup). IsLawful as_session setup old.epoch old.began (whole old)) runs.setup_is turned.lawful)
          ends runs.course);
    })

pub turned_moment : (old new : Known) (ended : Ended) → IsTurned old new ended → (net_of new).moment ≡ (net_of old).moment
unfolding net_of chained chained_from start
turned_moment old new ended turned = rw turned.new_is refl

turned-reported : (from : Beginning) (told told2 : Told) (count unlisted : ℕ) (old new : Known) (ended : Ended) → IsTurned old new ended → Notes told told2 (noted.Epoch ended.number ended.began ended.journal) → Reported from told count unlisted old → Reported from told2 0 unlisted new
turned-reported from told told2 count unlisted old new ended turned notes r =
    subst (λ (known : Known). Reported from told2 0 unlisted known) (sym turned.new_is)
    (reports_turned from.setup from.told told told2 count unlisted old.handed (running old) (record { number = old.epoch + 1; began = (net_of old).moment; journal = [] }) ended.journal (ap (λ (j : List Step). old.handed ++ j) turned.journal_is) refl
    (same-notes told told2 ended.number old.epoch ended.began old.began ended.journal turned.number_is turned.began_is notes) r)

pub turned_same : (old : Core) (switch : Known) (told told2 : Told) (ended : Ended) → IsTurned old.switch switch ended → old.switch.epoch < 4294967295 → ((handed : ℕ) → old.handed ≡ min handed 18446744073709551615 → IsLong old handed)
    → Notes told told2 (noted.Epoch ended.number ended.began ended.journal) → Same old (record old { switch = switch; handed = 0 }) told told2
unfolding Same part_in
turned_same old switch told told2 ended turned number long notes from edge deeds s = record {
  runs = runs-turned from told told2 old.switch switch deeds ended turned notes (long_ends from edge told old deeds s long turned.idle number) s.runs;
  left_is = ap (λ (known : Known). known.left) turned.new_is;
  puts = s.puts;
  ticked = ticked_at from.moments deeds (net_of old.switch).moment (net_of switch).moment (turned_moment old.switch switch ended turned) s.ticked;
  reports = turned-reported from told told2 old.handed old.unlisted old.switch switch ended turned notes s.reports;
  as_set = s.as_set;
  seconds = seconds_handed from told told2 old (record old { switch = switch; handed = 0 }) (noted.Epoch ended.number ended.began ended.journal) (ap (λ (kept : List Step). Some kept) turned.journal_is) notes refl (turned_moment old.switch switch ended turned) (ap (λ (known : Known). known.journal) turned.new_is) s.seconds;
}

runs-handed : (from : Beginning) (told told2 : Told) (old : Known) (deeds : List Deed) (journal : Kept Step) → journal.items ≡ old.journal → Notes told told2 (noted.Part journal) → Runs from told old deeds → Runs from told2 (handing old) deeds
runs-handed from told told2 old deeds journal items notes runs = record {
  setup_is = runs.setup_is;
  course = subst (λ (whole2 : List Step). Course from told2 (whole old) (record { number = old.epoch; began = old.began; journal = whole2 }) deeds) (sym (append-nil (whole old)))
      (subst (λ (items2 : List Step). Course from told2 (old.handed ++ items2) (running old) deeds) items (course_handed from told told2 old.handed (running old) deeds journal notes runs.course));
}

handing-moment : (old : Known) → (net_of (handing old)).moment ≡ (net_of old).moment
unfolding net_of
handing-moment old = ap (λ (journal : List Step). (chained as_session old.setup old.epoch old.began journal).moment) (append-nil (whole old))

pub handing_running : (old new : Known) → new ≡ handing old → running new ≡ running old
handing_running old new same = ap (λ (known : Known). running known) same ∙ ap (λ (journal : List Step). let epoch : Epoch = record { number = old.epoch; began = old.began; journal = journal } in epoch) (append-nil (whole old))

handed-reported : (from : Beginning) (told told2 : Told) (count count2 unlisted : ℕ) (old : Known) (journal : Kept Step) → count2 ≡ min (count + length journal.items) 18446744073709551615 → journal.items ≡ old.journal → Notes told told2 (noted.Part journal)
    → Reported from told count unlisted old → Reported from told2 count2 unlisted (handing old)
handed-reported from told told2 count count2 unlisted old journal e items notes r =
    subst (λ (whole2 : List Step). Reports from.setup from.told told2 count2 unlisted (whole old) (record { number = old.epoch; began = old.began; journal = whole2 })) (sym (append-nil (whole old)))
    (subst (λ (items2 : List Step). Reports from.setup from.told told2 count2 unlisted (old.handed ++ items2) (running old)) items
    (reports_part from.setup from.told told told2 count count2 unlisted old.handed (running old) journal e notes r))

pub handed_same : (old new : Core) (told told2 : Told) (journal : Kept Step) → new.switch ≡ handing old.switch → new.turning ≡ old.turning → new.outs ≡ old.outs → new.unlisted ≡ old.unlisted → new.handed ≡ min (old.handed + length journal.items) 18446744073709551615
    → journal.items ≡ old.switch.journal → Notes told told2 (noted.Part journal) → Same old new told told2
unfolding Same part_in
handed_same old new told told2 journal e turning outs unlisted handed items notes from edge deeds s = record {
  runs = subst (λ (known : Known). Runs from told2 known deeds) (sym e) (runs-handed from told told2 old.switch deeds journal items notes s.runs);
  left_is = ap (λ (known : Known). known.left) e ∙ s.left_is;
  puts = subst (λ (o : Owing). Puts from.edge edge deeds o []) (sym outs) s.puts;
  ticked = ticked_at from.moments deeds (net_of old.switch).moment (net_of new.switch).moment (ap (λ (known : Known). (net_of known).moment) e ∙ handing-moment old.switch) s.ticked;
  reports = reported-at from told2 new.handed new.handed old.unlisted new.unlisted (handing old.switch) new.switch refl unlisted (ap (λ (known : Known). known.handed) e) (ap (λ (known : Known). running known) e)
      (handed-reported from told told2 old.handed new.handed old.unlisted old.switch journal handed items notes s.reports);
  as_set = set-as from old new turning s.as_set;
  seconds = seconds_handed from told told2 old new (noted.Part journal) (ap (λ (kept : List Step). Some kept) items) notes turning (ap (λ (known : Known). (net_of known).moment) e ∙ handing-moment old.switch) (ap (λ (known : Known). known.journal) e) s.seconds;
}

-- what the switch lists is of the point to which its run came
listing-at : (known : Known) (setup : Setup) (listing : Listing) → known.setup ≡ setup → IsListing known listing → (ended : List Epoch) → IsListingAt setup (record { ended = ended; running = running known }) listing
listing-at known setup listing e is ended =
    subst (λ (s : Setup). IsListingAt s (record { ended = ended; running = running known }) listing) e (record { epoch_is = is.epoch_is; steps_is = is.steps_is; live_is = is.live_is; waiting_is = is.waiting_is })

-- a listing with steps is of an epoch that has one
pub some_listed : (known : Known) (listing : Listing) → IsListing known listing → (listing.steps ≡ 0 → ⊥) → whole known ≡ [] → ⊥
unfolding listing_of
some_listed known listing is some none = some (is.steps_is ∙ (ap (λ (steps : List Step). min (length steps) 18446744073709551615) none ∙ zero-min 18446744073709551615))

pub listed_same : (core : Core) (told told2 : Told) (listing : Listing) → IsListing core.switch listing → (listing.steps ≡ 0 → ⊥) → Notes told told2 (noted.List listing) → Same core (record core { unlisted = 0 }) told told2
unfolding Same part_in
listed_same core told told2 listing is some notes from edge deeds s = record {
  runs = record {
    setup_is = s.runs.setup_is;
    course = course_listed from told told2 core.switch.handed (running core.switch) deeds listing (listing-at core.switch from.setup listing s.runs.setup_is is) notes s.runs.course;
  };
  left_is = s.left_is;
  puts = s.puts;
  ticked = s.ticked;
  reports = reports_listed from.setup from.told told told2 core.handed core.unlisted s.runs.course.ended core.switch.handed (running core.switch) listing (listing-at core.switch from.setup listing s.runs.setup_is is [])
      (some_listed core.switch listing is some) s.runs.course.tells notes s.reports;
  as_set = s.as_set;
  seconds = seconds_told from told told2 core (noted.List listing) refl notes s.seconds;
}

-- only leases changed
pub leased_same : (old new : Core) (told : Told) → new.switch ≡ record old.switch { kept = new.switch.kept; leases = new.switch.leases } → new.turning ≡ old.turning → new.outs ≡ old.outs → new.handed ≡ old.handed → new.unlisted ≡ old.unlisted → new.kept_since ≡ old.kept_since → Same old new told told
unfolding Same
leased_same old new told e turning outs handed unlisted since from edge deeds s = record {
  runs = subst (λ (known : Known). Runs from told known deeds) (sym e) (record { setup_is = s.runs.setup_is; course = s.runs.course });
  left_is = ap (λ (known : Known). known.left) e ∙ s.left_is;
  puts = subst (λ (o : Owing). Puts from.edge edge deeds o []) (sym outs) s.puts;
  ticked = ticked_at from.moments deeds (net_of old.switch).moment (net_of new.switch).moment (lease_moment old.switch new.switch e) s.ticked;
  reports = reported-at from told old.handed new.handed old.unlisted new.unlisted old.switch new.switch handed unlisted (ap (λ (known : Known). known.handed) e) (ap (λ (known : Known). running known) e) s.reports;
  as_set = set-as from old new turning s.as_set;
  seconds = seconds_at from told old new turning since (lease_moment old.switch new.switch e) (ap (λ (known : Known). known.journal) e) s.seconds;
}

-- nothing changed
pub moved_same : (old new : Core) (told : Told) → new.switch ≡ old.switch → new.turning ≡ old.turning → new.outs ≡ old.outs → new.handed ≡ old.handed → new.unlisted ≡ old.unlisted → new.kept_since ≡ old.kept_since → Same old new told told
unfolding Same
moved_same old new told e turning outs handed unlisted since from edge deeds s = record {
  runs = subst (λ (known : Known). Runs from told known deeds) (sym e) s.runs;
  left_is = ap (λ (known : Known). known.left) e ∙ s.left_is;
  puts = subst (λ (o : Owing). Puts from.edge edge deeds o []) (sym outs) s.puts;
  ticked = ticked_at from.moments deeds (net_of old.switch).moment (net_of new.switch).moment (ap (λ (known : Known). (net_of known).moment) e) s.ticked;
  reports = reported-at from told old.handed new.handed old.unlisted new.unlisted old.switch new.switch handed unlisted (ap (λ (known : Known). known.handed) e) (ap (λ (known : Known). running known) e) s.reports;
  as_set = set-as from old new turning s.as_set;
  seconds = seconds_at from told old new turning since (ap (λ (known : Known). (net_of known).moment) e) (ap (λ (known : Known). known.journal) e) s.seconds;
}

-- the clock answered a moment that is no later one
pub same_at : (now : ℕ) (core : Core) (told : Told) → now ≤ (net_of core.switch).moment → SameAt now core core told told
unfolding SameAt
same_at now core told early from edge deeds s = record {
  runs = runs_timed from (from.moments ++ now ∷ []) told core.switch deeds s.runs;
  left_is = s.left_is;
  puts = s.puts;
  ticked = ticked_early from.moments deeds (net_of core.switch).moment now early s.ticked;
  reports = s.reports;
  as_set = s.as_set;
  seconds = s.seconds;
}

-- ## What the switch answers

pub tail_same : (first old new : Known) → old ≡ record first { left = old.left } → new ≡ record old { left = new.left } → new ≡ record first { left = new.left }
tail_same first old new before after = after ∙ ap (λ (known : Known). let k : Known = record known { left = new.left } in k) before

pub withdrew_true : (old new : Known) (app : AppId) (lived : Bool) → lived ≡ true → Withdraws old new app lived → (is_some (live_at app (net_of old)) ≡ true) × (new ≡ with_step old (steps.Withdraw app))
unfolding Withdraws
withdrew_true old new app true e is = is
withdrew_true old new app false e is = cc

pub withdrew_false : (old new : Known) (app : AppId) (lived : Bool) → lived ≡ false → Withdraws old new app lived → (is_some (live_at app (net_of old)) ≡ false) × (new ≡ old)
unfolding Withdraws
withdrew_false old new app true e is = cc
withdrew_false old new app false e is = is

pub taken : (old new : Known) (done : Done) (answer : Committed) → answer ≡ committed.Taken → Received old new done answer → new ≡ with_step old (step_of done)
unfolding Received
taken old new done answer e is = (rw e at is).1

pub gone : (old new : Known) (done : Done) (answer : Committed) (number : ℕ) → answer ≡ committed.Gone number → Received old new done answer → new ≡ old
unfolding Received
gone old new done answer number e is = (rw e at is).2

kept-form : (old new : Known) (kept : List Lease) → new ≡ record old { kept = kept } → new ≡ record old { kept = new.kept; leases = new.leases }
kept-form old new kept e = rw e refl

pub other : (old new : Known) (done : Done) (answer : Committed) (number : ℕ) → answer ≡ committed.Other number → Received old new done answer → new ≡ record old { kept = new.kept; leases = new.leases }
unfolding Received
other old new done answer number e is =
    let (named, live, unfit, new_is) = rw e at is in
    kept-form old new _ new_is

given-form : (old new : Known) (kept : List Lease) (leases : ℕ) → new ≡ record old { kept = kept; leases = leases } → new ≡ record old { kept = new.kept; leases = new.leases }
given-form old new kept leases e = rw e refl

same-form : (old new : Known) → new ≡ old → new ≡ record old { kept = new.kept; leases = new.leases }
same-form old new e = rw e refl

leased-by : (old new : Known) (lease : Option Lease) → Leased old new lease → new ≡ record old { kept = new.kept; leases = new.leases }
unfolding Leased
leased-by old new None is = same-form old new is.0
leased-by old new (Some lease) is = given-form old new _ _ is.1.new_is

pub leased : (old new : Known) (r : Result (Option Lease) NoMemory) → IfOk r (λ lease. Leased old new lease) → OnErr r (new ≡ old) → new ≡ record old { kept = new.kept; leases = new.leases }
leased old new (Ok lease) ok err = leased-by old new lease ok
leased old new (Err cause) ok err = same-form old new err
