-- Steps that aren't heard leave what was heard as it is.
use Rattle.std.proofs.Common.{◌≡◌, ◌≤◌, ◌+◌, ℕ, Bool, true, false, Option, Some, List, [], ◌∷◌, ◌++◌, refl, sym, ap, ◌∙◌, subst, append_assoc, inl, inr}
use Rattle.std.specs.Prelude.{◌⊎◌, Result, Ok, Err, OnOk, OnErr, IfOk}
use Rattle.std.proofs.lemmas.List.{append-nil}
use Rattle.sc_value.specs.declared.ids.AppId.{AppId}
use Rattle.sc_value.specs.declared.message.Sent.{Sent}
use Rattle.sc_terms.specs.declared.steps.Step.{Step}
use Rattle.sc_terms.specs.declared.steps.Step.TheVariants as steps
use Rattle.sc_edge.specs.Edges.{EdgeState}
use Rattle.sc_edge.specs.declared.orders.Order.{Order}
use Rattle.sc_servlets.specs.declared.done.Done.{Done}
use Rattle.sc_switch.specs.declared.refused.Committed.{Committed}
use Rattle.sc_switch.specs.declared.refused.Committed.TheVariants as committed
use Rattle.sc_switch.specs.declared.refused.StepRefused.{StepRefused}
use Rattle.sc_switch.specs.Standing.{Known, net_of, step_of}
use Rattle.sc_outs.specs.Deeds.{Deed}
use Rattle.sc_outs.proofs.Laws.{cut_of}
use Rattle.sc_courses.specs.Asking.{Answered, Given, Source, Sources, given_then, none_given}
use Rattle.sc_courses.proofs.AskingLaws.{answered_none, answers_none, answers_then, asked_none, asked_then, ticked_part}
use Rattle.sc_courses.specs.Courses.{Beginning, Told, after, with_orders as ordered}
use Rattle.sc_courses.specs.Marks.{Hearing, is_heard}
use Rattle.sc_courses.proofs.HeardLaws.{hearing_part, hearing_same, part_same}
use Rattle.sc_rounds.specs.declared.stepping.Core.{Core}
use Rattle.sc_streams.specs.declared.streams.Pending.{Pending}
use Rattle.sc_rounds.specs.Moving.{AreAlmost, Breaks, BreaksBoth, BreaksOn, BreaksOrdered, EndedAfter, EndedOrdered, Moves, MovesBoth, MovesOn, MovesOrdered}
use Rattle.sc_rounds.specs.Serving.{Ended, Ends, Same, SameAt, Serves, Stopped, Took, deed, moments_after, since, with_moment_of as timed}
use Rattle.sc_rounds.specs.Stepping.{Commits, Ordered, StoppedAt, Ticks, Unordered, Withdraws, order_at}
use Rattle.sc_streams.specs.Streaming.{bytes_of}
use Rattle.sc_rounds.proofs.Seconds.{seconds_end}

pub same_moves : (old new : Core) (told told2 : Told) → Same old new told told2 → Moves old new told told2
unfolding Same Moves
same_moves old new told told2 same from edge streams s = record { deeds = s.deeds; stands = same from edge s.deeds s.stands; hearing = s.hearing }

took-timed : (step : Step) (old new : Core) (told told2 : Told) → is_heard step ≡ false → Took step false old new told told2
    → (from : Beginning) (edge : EdgeState) (streams : List Pending) → Serves from edge told old streams → Serves (timed step from) edge told2 new streams
unfolding Took
took-timed step old new told told2 none took from edge streams s =
    let (sent, stands) = took from edge s.deeds s.stands in
    record { deeds = s.deeds ++ deed step sent false ∷ []; stands = stands; hearing = hearing_same from.edge.polled edge.polled s.deeds (deed step sent false) (bytes_of streams) none s.hearing }

pub took_moves : (step : Step) (old new : Core) (told told2 : Told) → is_heard step ≡ false → ((moments : List ℕ) → moments_after step moments ≡ moments) → Took step false old new told told2 → Moves old new told told2
unfolding Moves
took_moves step old new told told2 none same took from edge streams s =
    subst (λ (moments : List ℕ). Serves (record from { moments = moments }) edge told2 new streams) (same from.moments) (took-timed step old new told told2 none took from edge streams s)

stopped-by : (step : Step) (from : Beginning) (edge : EdgeState) (told2 : Told) (new : Core) (streams : List Pending) (deeds : List Deed) → is_heard step ≡ false → Hearing from.edge.polled edge.polled deeds (bytes_of streams)
    → Ends from edge told2 new.switch deeds ⊎ ((sent : List Sent) × Ends from edge told2 new.switch (deeds ++ deed step sent false ∷ [])) → Ended from edge told2 new.switch
stopped-by step from edge told2 new streams deeds none hearing (inl ends) = record { deeds = deeds; ends = ends; hearing = hearing_part from.edge.polled edge.polled deeds (bytes_of streams) hearing }
stopped-by step from edge told2 new streams deeds none hearing (inr (sent, ends)) = record {
  deeds = deeds ++ deed step sent false ∷ [];
  ends = ends;
  hearing = part_same from.edge.polled edge.polled deeds (deed step sent false) none (hearing_part from.edge.polled edge.polled deeds (bytes_of streams) hearing);
}

stopped-timed : (step : Step) (old new : Core) (told told2 : Told) → is_heard step ≡ false → Stopped step false old new told told2
    → (from : Beginning) (edge : EdgeState) (streams : List Pending) → Serves from edge told old streams → Ended (timed step from) edge told2 new.switch
unfolding Stopped
stopped-timed step old new told told2 none stopped from edge streams s = stopped-by step (timed step from) edge told2 new streams s.deeds none s.hearing (stopped from edge s.deeds s.stands)

pub stopped_breaks : (step : Step) (old new : Core) (told told2 : Told) → is_heard step ≡ false → ((moments : List ℕ) → moments_after step moments ≡ moments) → Stopped step false old new told told2 → Breaks old new told told2
unfolding Breaks
stopped_breaks step old new told told2 none same stopped from edge streams s =
    subst (λ (moments : List ℕ). Ended (record from { moments = moments }) edge told2 new.switch) (same from.moments) (stopped-timed step old new told told2 none stopped from edge streams s)

-- the run ends where it stands
pub stands_breaks : (old new : Core) (told told2 : Told) → Moves old new told told2 → Breaks old new told told2
unfolding Moves Breaks
stands_breaks old new told told2 moves from edge streams s =
    let s2 : Serves from edge told2 new streams = moves from edge streams s in
    record { deeds = s2.deeds; ends = record { runs = s2.stands.runs; cut = cut_of from.edge edge s2.deeds new.outs [] s2.stands.puts; ticked = ticked_part from.moments s2.deeds (net_of new.switch).moment s2.stands.ticked; counts = s2.stands.reports.counts; seconds = seconds_end from told2 new s2.stands.seconds }; hearing = hearing_part from.edge.polled edge.polled s2.deeds (bytes_of streams) s2.hearing }

pub moves_then : (a b c : Core) (told told1 told2 : Told) → Moves a b told told1 → Moves b c told1 told2 → Moves a c told told2
unfolding Moves
moves_then a b c told told1 told2 first later from edge streams s = later from edge streams (first from edge streams s)

pub breaks_then : (a b c : Core) (told told1 told2 : Told) → Moves a b told told1 → Breaks b c told1 told2 → Breaks a c told told2
unfolding Moves Breaks
breaks_then a b c told told1 told2 first later from edge streams s = later from edge streams (first from edge streams s)

pub moves_same : (core : Core) (told : Told) → Moves core core told told
unfolding Moves
moves_same core told from edge streams s = s

-- ## Steps that aren't heard

turn-unheard : (done : Done) → is_heard (step_of done) ≡ false
unfolding is_heard step_of
turn-unheard done = refl

turn-untimed : (done : Done) (moments : List ℕ) → moments_after (step_of done) moments ≡ moments
unfolding step_of
turn-untimed done moments = refl

tick-moves : (now : ℕ) (old new : Core) (told told2 : Told) (later : Bool) → now ≤ 9223372036854775808 → Ticks now old new told told2 later
    → (from : Beginning) (edge : EdgeState) (streams : List Pending) → Serves from edge told old streams → Serves (since from (now ∷ [])) edge told2 new streams
unfolding Ticks is_heard SameAt
tick-moves now old new told told2 true within took from edge streams s = took-timed (steps.Tick now) old new told told2 refl took from edge streams s
tick-moves now old new told told2 false within same from edge streams s = record { deeds = s.deeds; stands = same within from edge s.deeds s.stands; hearing = s.hearing }

tick-breaks : (now : ℕ) (old new : Core) (told told2 : Told) → Stopped (steps.Tick now) false old new told told2
    → (from : Beginning) (edge : EdgeState) (streams : List Pending) → Serves from edge told old streams → Ended (since from (now ∷ [])) edge told2 new.switch
unfolding is_heard
tick-breaks now old new told told2 stopped from edge streams s = stopped-timed (steps.Tick now) old new told told2 refl stopped from edge streams s

unordered-serves : (answer : Option Order) (old new : Core) (told told2 : Told) → Unordered answer old new told told2
    → (from : Beginning) (edge : EdgeState) (streams : List Pending) → Serves from edge told old streams → Serves (ordered from (answer ∷ [])) edge told2 new streams
unfolding Unordered
unordered-serves answer old new told told2 none from edge streams s = record { deeds = s.deeds; stands = none from edge s.deeds s.stands; hearing = s.hearing }

ordered-serves : (app : AppId) (old new : Core) (told told2 : Told) (lived : Bool) → Withdraws app old new told told2 lived
    → (from : Beginning) (edge : EdgeState) (streams : List Pending) → Serves from edge told old streams → Serves (ordered from (Some (order_at old app) ∷ [])) edge told2 new streams
unfolding Withdraws Ordered is_heard
ordered-serves app old new told told2 true withdrew from edge streams s =
    let (sent, stands) = withdrew from edge s.deeds s.stands in record {
      deeds = s.deeds ++ deed (steps.Withdraw app) sent false ∷ [];
      stands = stands;
      hearing = hearing_same from.edge.polled edge.polled s.deeds (deed (steps.Withdraw app) sent false) (bytes_of streams) refl s.hearing;
    }
ordered-serves app old new told told2 false none from edge streams s = unordered-serves (Some (order_at old app)) old new told told2 none from edge streams s

no-orders : (from : Beginning) (edge : EdgeState) (told : Told) (known : Known) → Ended from edge told known → Ended (ordered from []) edge told known
no-orders from edge told known ended = subst (λ (orders : List (Option Order)). Ended (record from { orders = orders }) edge told known) (sym (append-nil from.orders)) ended

stopped-ordered : (app : AppId) (old new : Core) (told2 : Told) (from : Beginning) (edge : EdgeState) (streams : List Pending) (deeds : List Deed) → Hearing from.edge.polled edge.polled deeds (bytes_of streams)
    → Ends from edge told2 new.switch deeds ⊎ ((sent : List Sent) × Ends (ordered from (Some (order_at old app) ∷ [])) edge told2 new.switch (deeds ++ deed (steps.Withdraw app) sent false ∷ []))
    → EndedOrdered from (Some (order_at old app) ∷ []) edge told2 new.switch
unfolding is_heard
stopped-ordered app old new told2 from edge streams deeds hearing (inl ends) =
    ([], inr (Some (order_at old app), refl), no-orders from edge told2 new.switch (record { deeds = deeds; ends = ends; hearing = hearing_part from.edge.polled edge.polled deeds (bytes_of streams) hearing }))
stopped-ordered app old new told2 from edge streams deeds hearing (inr (sent, ends)) = (
  Some (order_at old app) ∷ [],
  inl refl,
  record {
    deeds = deeds ++ deed (steps.Withdraw app) sent false ∷ [];
    ends = ends;
    hearing = part_same from.edge.polled edge.polled deeds (deed (steps.Withdraw app) sent false) refl (hearing_part from.edge.polled edge.polled deeds (bytes_of streams) hearing);
  },
)

stopped-serves : (app : AppId) (old new : Core) (told told2 : Told) → StoppedAt app old new told told2
    → (from : Beginning) (edge : EdgeState) (streams : List Pending) → Serves from edge told old streams → EndedOrdered from (Some (order_at old app) ∷ []) edge told2 new.switch
unfolding StoppedAt
stopped-serves app old new told told2 stopped from edge streams s = stopped-ordered app old new told2 from edge streams s.deeds s.hearing (stopped from edge s.deeds s.stands)

pub commit_moves : (done : Done) (old new : Core) (told told2 : Told) (answer : Committed) → Commits done old new told told2 answer → Moves old new told told2
unfolding Commits
commit_moves done old new told told2 committed.Taken took = took_moves (step_of done) old new told told2 (turn-unheard done) (turn-untimed done) took
commit_moves done old new told told2 (committed.Gone number) same = same_moves old new told told2 same
commit_moves done old new told told2 (committed.Other number) same = same_moves old new told told2 same

pub commit_breaks : (done : Done) (old new : Core) (told told2 : Told) → Stopped (step_of done) false old new told told2 → Breaks old new told told2
commit_breaks done old new told told2 stopped = stopped_breaks (step_of done) old new told told2 (turn-unheard done) (turn-untimed done) stopped

-- of a result with a Bool
pub tick_ok : (now : ℕ) (r : Result Bool StepRefused) (old new : Core) (told told2 : Told) (clock clock2 : Source ℕ) → now ≤ 9223372036854775808 → Answered clock clock2 (now ∷ [])
    → IfOk r (λ later. Ticks now old new told told2 later) → OnOk r (MovesOn old new told told2 clock clock2)
unfolding MovesOn
tick_ok now (Ok later) old new told told2 clock clock2 within answered ticks = (now, answered, tick-moves now old new told told2 later within ticks)
tick_ok now (Err cause) old new told told2 clock clock2 within answered ticks = tt

order-is : (order : Order) (old : Core) → order.epoch ≡ old.switch.epoch → order_at old order.app ≡ order
order-is order old e = ap (λ (epoch : ℕ). let o : Order = record { epoch = epoch; app = order.app } in o) (sym e)

-- an order of the epoch that runs was answered
pub withdraw_ok : (order : Order) (r : Result Bool StepRefused) (old new : Core) (told told2 : Told) (orders orders2 : Source (Option Order)) → order.epoch ≡ old.switch.epoch → Answered orders orders2 (Some order ∷ [])
    → IfOk r (λ lived. Withdraws order.app old new told told2 lived) → OnOk r (MovesOrdered old new told told2 orders orders2)
unfolding MovesOrdered
withdraw_ok order (Ok lived) old new told told2 orders orders2 e answered is = (
  Some order,
  answered,
  λ from edge streams s. subst (λ (o : Order). Serves (ordered from (Some o ∷ [])) edge told2 new streams) (order-is order old e) (ordered-serves order.app old new told told2 lived is from edge streams s),
)
withdraw_ok order (Err cause) old new told told2 orders orders2 e answered is = tt

-- an order of another epoch, or none
pub unordered_moves : (answer : Option Order) (old new : Core) (told told2 : Told) (orders orders2 : Source (Option Order)) → Answered orders orders2 (answer ∷ []) → Unordered answer old new told told2 → MovesOrdered old new told told2 orders orders2
unfolding MovesOrdered
unordered_moves answer old new told told2 orders orders2 answered none = (answer, answered, λ from edge streams s. unordered-serves answer old new told told2 none from edge streams s)

pub tick_err : (now : ℕ) (r : Result Bool StepRefused) (old new : Core) (told told2 : Told) (clock clock2 : Source ℕ) → Answered clock clock2 (now ∷ []) → OnErr r (Stopped (steps.Tick now) false old new told told2) → OnErr r (BreaksOn old new told told2 clock clock2)
unfolding BreaksOn
tick_err now (Ok later) old new told told2 clock clock2 answered stopped = tt
tick_err now (Err cause) old new told told2 clock clock2 answered stopped = (now, answered, tick-breaks now old new told told2 stopped)

pub withdraw_err : (order : Order) (r : Result Bool StepRefused) (old new : Core) (told told2 : Told) (orders orders2 : Source (Option Order)) → order.epoch ≡ old.switch.epoch → Answered orders orders2 (Some order ∷ [])
    → OnErr r (StoppedAt order.app old new told told2) → OnErr r (BreaksOrdered old new told told2 orders orders2)
unfolding BreaksOrdered
withdraw_err order (Ok lived) old new told told2 orders orders2 e answered stopped = tt
withdraw_err order (Err cause) old new told told2 orders orders2 e answered stopped = (
  Some order,
  answered,
  λ from edge streams s. subst (λ (o : Order). EndedOrdered from (Some o ∷ []) edge told2 new.switch) (order-is order old e) (stopped-serves order.app old new told told2 stopped from edge streams s),
)

-- behind what moved, of any result
pub on_moves : {A E : Type 0} (r : Result A E) (a b c : Core) (told told1 told2 : Told) → Moves a b told told1 → OnOk r (Moves b c told1 told2) → OnOk r (Moves a c told told2)
on_moves (Ok x) a b c told told1 told2 first later = moves_then a b c told told1 told2 first later
on_moves (Err e) a b c told told1 told2 first later = tt

pub on_breaks : {A E : Type 0} (r : Result A E) (a b c : Core) (told told1 told2 : Told) → Moves a b told told1 → OnErr r (Breaks b c told1 told2) → OnErr r (Breaks a c told told2)
on_breaks (Ok x) a b c told told1 told2 first later = tt
on_breaks (Err e) a b c told told1 told2 first later = breaks_then a b c told told1 told2 first later

pub any_err : {A E P : Type 0} (r : Result A E) → P → OnErr r P
any_err (Ok x) p = tt
any_err (Err e) p = p

-- ## Once the clock and the orders were asked

serves-after : (from : Beginning) (a b : List ℕ) (x y : List (Option Order)) (edge : EdgeState) (told : Told) (core : Core) (streams : List Pending) → a ≡ b → x ≡ y → Serves (record from { moments = a; orders = x }) edge told core streams
    → Serves (record from { moments = b; orders = y }) edge told core streams
serves-after from a b x y edge told core streams moments orders s =
    subst (λ (m : List ℕ). Serves (record from { moments = m; orders = y }) edge told core streams) moments (subst (λ (o : List (Option Order)). Serves (record from { moments = a; orders = o }) edge told core streams) orders s)

ended-after : (from : Beginning) (a b : List ℕ) (x y : List (Option Order)) (edge : EdgeState) (told : Told) (known : Known) → a ≡ b → x ≡ y → Ended (record from { moments = a; orders = x }) edge told known
    → Ended (record from { moments = b; orders = y }) edge told known
ended-after from a b x y edge told known moments orders s =
    subst (λ (m : List ℕ). Ended (record from { moments = m; orders = y }) edge told known) moments (subst (λ (o : List (Option Order)). Ended (record from { moments = a; orders = o }) edge told known) orders s)

pub moves_both : (a b : Core) (told told1 : Told) (sources : Sources) → Moves a b told told1 → MovesBoth 0 0 a b told told1 sources sources
unfolding Moves MovesBoth
moves_both a b told told1 sources moves =
    (none_given, answers_none, asked_none sources, λ from edge streams s. serves-after from from.moments (from.moments ++ []) from.orders (from.orders ++ []) edge told1 b streams (sym (append-nil from.moments)) (sym (append-nil from.orders)) (moves from edge streams s))

-- the clock alone
pub timed_both : (a b : Core) (told told1 : Told) (clock clock1 : Source ℕ) (orders : Source (Option Order)) → MovesOn a b told told1 clock clock1 → MovesBoth 0 1 a b told told1 (clock, orders) (clock1, orders)
unfolding MovesOn MovesBoth
timed_both a b told told1 clock clock1 orders (moment, answered, moves) = (
  record { moments = moment ∷ []; orders = [] },
  record { orders_are = refl; moments_are = refl },
  record { moments = answered; orders = answered_none orders },
  λ from edge streams s. serves-after from (from.moments ++ moment ∷ []) (from.moments ++ moment ∷ []) from.orders (from.orders ++ []) edge told1 b streams refl (sym (append-nil from.orders)) (moves from edge streams s),
)

-- the orders alone
pub ordered_both : (a b : Core) (told told1 : Told) (clock : Source ℕ) (orders orders1 : Source (Option Order)) → MovesOrdered a b told told1 orders orders1 → MovesBoth 1 0 a b told told1 (clock, orders) (clock, orders1)
unfolding MovesOrdered MovesBoth
ordered_both a b told told1 clock orders orders1 (answer, answered, moves) = (
  record { moments = []; orders = answer ∷ [] },
  record { orders_are = refl; moments_are = refl },
  record { moments = answered_none clock; orders = answered },
  λ from edge streams s. serves-after from from.moments (from.moments ++ []) (from.orders ++ answer ∷ []) (from.orders ++ answer ∷ []) edge told1 b streams (sym (append-nil from.moments)) refl (moves from edge streams s),
)

pub both_then : (m m2 n n2 : ℕ) (a b c : Core) (told told1 told2 : Told) (sources sources1 sources2 : Sources) → MovesBoth m n a b told told1 sources sources1 → MovesBoth m2 n2 b c told1 told2 sources1 sources2 → MovesBoth (m + m2) (n + n2) a c told told2 sources sources2
unfolding MovesBoth
both_then m m2 n n2 a b c told told1 told2 sources sources1 sources2 (xs, are, asked, first) (ys, are2, asked2, later) = (
  given_then xs ys,
  answers_then m m2 n n2 xs ys are are2,
  asked_then sources sources1 sources2 xs ys asked asked2,
  λ from edge streams s. serves-after from ((from.moments ++ xs.moments) ++ ys.moments) (from.moments ++ (xs.moments ++ ys.moments)) ((from.orders ++ xs.orders) ++ ys.orders) (from.orders ++ (xs.orders ++ ys.orders)) edge told2 c streams
      (append_assoc from.moments xs.moments ys.moments) (append_assoc from.orders xs.orders ys.orders) (later (after from xs) edge streams (first from edge streams s)),
)

pub breaks_both : (a b : Core) (told told1 : Told) (sources : Sources) → Breaks a b told told1 → BreaksBoth 0 0 a b told told1 sources sources
unfolding Breaks BreaksBoth
breaks_both a b told told1 sources breaks = (
  none_given,
  answers_none,
  asked_none sources,
  λ from edge streams s. ([], inl refl, ended-after from from.moments (from.moments ++ []) from.orders (from.orders ++ []) edge told1 b.switch (sym (append-nil from.moments)) (sym (append-nil from.orders)) (breaks from edge streams s)),
)

pub timed_breaks : (a b : Core) (told told1 : Told) (clock clock1 : Source ℕ) (orders : Source (Option Order)) → BreaksOn a b told told1 clock clock1 → BreaksBoth 0 1 a b told told1 (clock, orders) (clock1, orders)
unfolding BreaksOn BreaksBoth
timed_breaks a b told told1 clock clock1 orders (moment, answered, breaks) = (
  record { moments = moment ∷ []; orders = [] },
  record { orders_are = refl; moments_are = refl },
  record { moments = answered; orders = answered_none orders },
  λ from edge streams s. ([], inl refl, ended-after from (from.moments ++ moment ∷ []) (from.moments ++ moment ∷ []) from.orders (from.orders ++ []) edge told1 b.switch refl (sym (append-nil from.orders)) (breaks from edge streams s)),
)

pub ordered_breaks : (a b : Core) (told told1 : Told) (clock : Source ℕ) (orders orders1 : Source (Option Order)) → BreaksOrdered a b told told1 orders orders1 → BreaksBoth 1 0 a b told told1 (clock, orders) (clock, orders1)
unfolding BreaksOrdered BreaksBoth
ordered_breaks a b told told1 clock orders orders1 (answer, answered, breaks) = (
  record { moments = []; orders = answer ∷ [] },
  record { orders_are = refl; moments_are = refl },
  record { moments = answered_none clock; orders = answered },
  λ from edge streams s.
      let (obeyed, almost, ended) = breaks from edge streams s in
      (obeyed, almost, ended-after from from.moments (from.moments ++ []) (from.orders ++ obeyed) (from.orders ++ obeyed) edge told1 b.switch (sym (append-nil from.moments)) refl ended),
)

almost-more : (xs obeyed given : List (Option Order)) → AreAlmost obeyed given → AreAlmost (xs ++ obeyed) (xs ++ given)
almost-more xs obeyed given (inl same) = inl (ap (λ (rest : List (Option Order)). xs ++ rest) same)
almost-more xs obeyed given (inr (last, more)) = inr (last, ap (λ (rest : List (Option Order)). xs ++ rest) more ∙ sym (append_assoc xs obeyed (last ∷ [])))

-- a run that ends after these answers more
pub ended_more : (from : Beginning) (xs ys : Given) (edge : EdgeState) (told : Told) (known : Known) → EndedAfter (after from xs) ys edge told known → EndedAfter from (given_then xs ys) edge told known
ended_more from xs ys edge told known (obeyed, almost, ended) = (
  xs.orders ++ obeyed,
  almost-more xs.orders obeyed ys.orders almost,
  ended-after from ((from.moments ++ xs.moments) ++ ys.moments) (from.moments ++ (xs.moments ++ ys.moments)) ((from.orders ++ xs.orders) ++ obeyed) (from.orders ++ (xs.orders ++ obeyed)) edge told known
      (append_assoc from.moments xs.moments ys.moments) (append_assoc from.orders xs.orders obeyed) ended,
)

pub both_breaks : (m m2 n n2 : ℕ) (a b c : Core) (told told1 told2 : Told) (sources sources1 sources2 : Sources) → MovesBoth m n a b told told1 sources sources1 → BreaksBoth m2 n2 b c told1 told2 sources1 sources2 → BreaksBoth (m + m2) (n + n2) a c told told2 sources sources2
unfolding MovesBoth BreaksBoth
both_breaks m m2 n n2 a b c told told1 told2 sources sources1 sources2 (xs, are, asked, first) (ys, are2, asked2, later) =
    (given_then xs ys, answers_then m m2 n n2 xs ys are are2, asked_then sources sources1 sources2 xs ys asked asked2, λ from edge streams s. ended_more from xs ys edge told2 c.switch (later (after from xs) edge streams (first from edge streams s)))
