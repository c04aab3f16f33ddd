-- Where a server stands, as it puts, as nothing is heard and as places are lost.
use Rattle.std.proofs.Common.{◌≡◌, Bool, true, false, Option, List, [], ◌∷◌, ◌++◌, refl, ap, sym, ◌∙◌, subst, inl, inr}
use Rattle.std.specs.Prelude.{◌⊎◌, ℕ, Result, Ok, Err, OnOk, OnErr}
use Rattle.std.proofs.lemmas.Bool.{false≢true}
use Rattle.sc_value.specs.declared.ids.Place.{Place}
use Rattle.sc_value.specs.declared.message.Sent.{Sent}
use Rattle.sc_value.specs.Places.{same_place}
use Rattle.sc_value.proofs.PlaceLaws.{same_place-is}
use Rattle.sc_terms.specs.declared.steps.Step.TheVariants as steps
use Rattle.sc_edge.specs.Edges.{EdgeState, Stands as Untaken, polled_of}
use Rattle.sc_edge.specs.EdgeCalls.{Appends, is_end}
use Rattle.sc_edge.specs.declared.edge.Got.{Got}
use Rattle.sc_edge.specs.declared.edge.Got.TheVariants as got
use Rattle.sc_edge.specs.declared.edge.Polled.{Polled}
use Rattle.sc_edge.specs.declared.edge.Polled.TheVariants as answers
use Rattle.sc_edge.specs.declared.edge.Put.{Put}
use Rattle.sc_edge.specs.declared.edge.Put.TheVariants as put
use Rattle.sc_runs.specs.Following.{IsKept, Streams}
use Rattle.sc_outs.specs.Deeds.{Deed}
use Rattle.sc_outs.specs.Owing.{Owing, PutLeaves, Tried}
use Rattle.sc_outs.proofs.Laws.{cut_of, puts_stand, puts_tried}
use Rattle.sc_courses.specs.Courses.{Beginning, Told}
use Rattle.sc_courses.specs.Marks.{Hearing}
use Rattle.sc_courses.proofs.AskingLaws.{ticked_part}
use Rattle.sc_switch.specs.Standing.{net_of}
use Rattle.sc_courses.proofs.HeardLaws.{IsLoss, IsSilent, closed_silent, fails_so, fault_silent, hearing_ended, hearing_lost, hearing_none, hearing_part, not_yet_silent, notes_of}
use Rattle.sc_courses.proofs.OnLaws.{emptied, emptied_kept}
use Rattle.sc_rounds.specs.declared.stepping.Core.{Core}
use Rattle.sc_streams.specs.declared.streams.Pending.{Pending}
use Rattle.sc_rounds.specs.Polling.{Comes, Polls}
use Rattle.sc_rounds.proofs.Seconds.{seconds_end}
use Rattle.sc_rounds.specs.Serving.{Ended, Ends, Serves, Stands, Stopped, Took, deed}
use Rattle.sc_streams.specs.Streaming.{bytes_of}

-- ## At another moment of the edge

-- no place took anything meanwhile
pub stands_on : (from : Beginning) (old new : EdgeState) (told : Told) (core : Core) (deeds : List Deed) → ((place : Place) → new.took place ≡ old.took place) → Stands from old told core deeds → Stands from new told core deeds
stands_on from old new told core deeds same s = record { runs = s.runs; left_is = s.left_is; puts = puts_stand from.edge old new deeds core.outs [] same s.puts; ticked = s.ticked; reports = s.reports; as_set = s.as_set; seconds = s.seconds }

pub stands_ended : (from : Beginning) (edge : EdgeState) (told : Told) (core : Core) (deeds : List Deed) → Stands from edge told core deeds → Ends from edge told core.switch deeds
stands_ended from edge told core deeds s = record { runs = s.runs; cut = cut_of from.edge edge deeds core.outs [] s.puts; ticked = ticked_part from.moments deeds (net_of core.switch).moment s.ticked; counts = s.reports.counts; seconds = seconds_end from told core s.seconds }

-- ## The loss of a place

pub serves_lost : (from : Beginning) (old new : EdgeState) (told told2 : Told) (core core2 : Core) (streams streams2 : List Pending) (answer : Polled) (at : Place) (failed : Bool) → Comes old new answer → IsLoss answer at failed
    → Took (steps.Lost at) failed core core2 told told2 → IsKept (bytes_of streams) at [] (bytes_of streams2) → Serves from old told core streams → Serves from new told2 core2 streams2
unfolding Took
serves_lost from old new told told2 core core2 streams streams2 answer at failed comes loss took kept s =
    let (sent, stands) = took from new s.deeds (stands_on from old new told core s.deeds comes.took s.stands) in record {
      deeds = s.deeds ++ deed (steps.Lost at) sent failed ∷ [];
      stands = stands;
      hearing = hearing_lost from.edge.polled old.polled new.polled s.deeds (bytes_of streams) (bytes_of streams2) answer at sent failed s.hearing comes.notes loss kept;
    }

ended-by : (from : Beginning) (old new : EdgeState) (told told2 : Told) (core core2 : Core) (streams : List Pending) (answer : Polled) (at : Place) (failed : Bool) → Comes old new answer → IsLoss answer at failed → (s : Serves from old told core streams)
    → Ends from new told2 core2.switch s.deeds ⊎ ((sent : List Sent) × Ends from new told2 core2.switch (s.deeds ++ deed (steps.Lost at) sent failed ∷ [])) → Ended from new told2 core2.switch
ended-by from old new told told2 core core2 streams answer at failed comes loss s (inl ends) = record {
  deeds = s.deeds;
  ends = ends;
  hearing = hearing_ended from.edge.polled old.polled new.polled s.deeds (bytes_of streams) answer s.hearing comes.notes;
}
ended-by from old new told told2 core core2 streams answer at failed comes loss s (inr (sent, ends)) = record {
  deeds = s.deeds ++ deed (steps.Lost at) sent failed ∷ [];
  ends = ends;
  hearing = hearing_part from.edge.polled new.polled (s.deeds ++ deed (steps.Lost at) sent failed ∷ []) (emptied at (bytes_of streams))
      (hearing_lost from.edge.polled old.polled new.polled s.deeds (bytes_of streams) (emptied at (bytes_of streams)) answer at sent failed s.hearing comes.notes loss (emptied_kept at (bytes_of streams)));
}

pub ended_lost : (from : Beginning) (old new : EdgeState) (told told2 : Told) (core core2 : Core) (streams : List Pending) (answer : Polled) (at : Place) (failed : Bool) → Comes old new answer → IsLoss answer at failed
    → Stopped (steps.Lost at) failed core core2 told told2 → Serves from old told core streams → Ended from new told2 core2.switch
unfolding Stopped
ended_lost from old new told told2 core core2 streams answer at failed comes loss stopped s =
    ended-by from old new told told2 core core2 streams answer at failed comes loss s (stopped from new s.deeds (stands_on from old new told core s.deeds comes.took s.stands))

pub failed_ok : {E : Type 0} (r : Result Unit E) (from : Beginning) (old new : EdgeState) (told told2 : Told) (core core2 : Core) (streams streams2 : List Pending) (at : Place) → Comes old new (answers.Failed at)
    → OnOk r (Took (steps.Lost at) true core core2 told told2) → IsKept (bytes_of streams) at [] (bytes_of streams2) → Serves from old told core streams → OnOk r (Serves from new told2 core2 streams2)
failed_ok (Ok u) from old new told told2 core core2 streams streams2 at comes took kept s = serves_lost from old new told told2 core core2 streams streams2 (answers.Failed at) at true comes (fails_so at) took kept s
failed_ok (Err cause) from old new told told2 core core2 streams streams2 at comes took kept s = tt

pub failed_err : {E : Type 0} (r : Result Unit E) (from : Beginning) (old new : EdgeState) (told told2 : Told) (core core2 : Core) (streams : List Pending) (at : Place) → Comes old new (answers.Failed at)
    → OnErr r (Stopped (steps.Lost at) true core core2 told told2) → Serves from old told core streams → OnErr r (Ended from new told2 core2.switch)
failed_err (Ok u) from old new told told2 core core2 streams at comes stopped s = tt
failed_err (Err cause) from old new told told2 core core2 streams at comes stopped s = ended_lost from old new told told2 core core2 streams (answers.Failed at) at true comes (fails_so at) stopped s

-- ## A poll

-- an answer that isn't `Closed` comes of an edge that goes on
comes-by : (old new : EdgeState) (answer same : Got) (room : List ℕ) (closed : Bool) → old.is_closed ≡ closed → answer ≡ same → is_end same ≡ false → Polls old new answer room → Comes old new (polled_of same room)
comes-by old new answer same room true closed is more polls = absurd (false≢true (sym more ∙ (ap is_end (sym is) ∙ ap is_end (polls.ends.0 closed))))
comes-by old new answer same room false closed is more polls = record {
  took = polls.took;
  notes = notes_of old.polled new.polled (polled_of same room) (subst (λ (a : Got). Appends old.polled new.polled (polled_of a room)) is (polls.told.0 closed));
}

pub comes_of : (old new : EdgeState) (answer same : Got) (room : List ℕ) → answer ≡ same → is_end same ≡ false → Polls old new answer room → Comes old new (polled_of same room)
comes_of old new answer same room is more polls = comes-by old new answer same room old.is_closed refl is more polls

silently : (from : Beginning) (old new : EdgeState) (told : Told) (core : Core) (streams : List Pending) (answer : Polled) → Comes old new answer → IsSilent answer → Serves from old told core streams → Serves from new told core streams
silently from old new told core streams answer comes silent s = record {
  deeds = s.deeds;
  stands = stands_on from old new told core s.deeds comes.took s.stands;
  hearing = hearing_none from.edge.polled old.polled new.polled s.deeds (bytes_of streams) answer s.hearing comes.notes silent;
}

hearing-same : (first old new : Option (List Polled)) (deeds : List Deed) (streams : Streams) → new ≡ old → Hearing first old deeds streams → Hearing first new deeds streams
hearing-same first old new deeds streams same hearing = subst (λ (now : Option (List Polled)). Hearing first now deeds streams) (sym same) hearing

-- after the first `Closed` none is told
closed-by : (from : Beginning) (old new : EdgeState) (told : Told) (core : Core) (streams : List Pending) (room : List ℕ) (closed : Bool) → old.is_closed ≡ closed → Polls old new got.Closed room → Serves from old told core streams → Serves from new told core streams
closed-by from old new told core streams room true closed polls s = record {
  deeds = s.deeds;
  stands = stands_on from old new told core s.deeds polls.took s.stands;
  hearing = hearing-same from.edge.polled old.polled new.polled s.deeds (bytes_of streams) (polls.told.1 closed) s.hearing;
}
closed-by from old new told core streams room false closed polls s =
    silently from old new told core streams answers.Closed (record { took = polls.took; notes = notes_of old.polled new.polled answers.Closed (polls.told.0 closed) }) closed_silent s

pub serves_closed : (from : Beginning) (old new : EdgeState) (told : Told) (core : Core) (streams : List Pending) (answer : Got) (room : List ℕ) → answer ≡ got.Closed → Serves from old told core streams → Polls old new answer room → Serves from new told core streams
serves_closed from old new told core streams answer room is s polls =
    closed-by from old new told core streams room old.is_closed refl (subst (λ (a : Got). Polls old new a room) is polls) s

pub serves_not_yet : (from : Beginning) (old new : EdgeState) (told : Told) (core : Core) (streams : List Pending) (answer : Got) (room : List ℕ) → answer ≡ got.NotYet → Serves from old told core streams → Polls old new answer room → Serves from new told core streams
serves_not_yet from old new told core streams answer room is s polls = silently from old new told core streams answers.NotYet (comes_of old new answer got.NotYet room is refl polls) not_yet_silent s

pub serves_fault : (from : Beginning) (old new : EdgeState) (told : Told) (core : Core) (streams : List Pending) (answer : Got) (room : List ℕ) → answer ≡ got.Fault → Serves from old told core streams → Polls old new answer room → Serves from new told core streams
serves_fault from old new told core streams answer room is s polls = silently from old new told core streams answers.Fault (comes_of old new answer got.Fault room is refl polls) fault_silent s

-- the run ends at an answer of which nothing was taken
pub comes_ended : (from : Beginning) (old new : EdgeState) (told : Told) (core : Core) (streams : List Pending) (answer : Polled) → Serves from old told core streams → Comes old new answer → Ended from new told core.switch
comes_ended from old new told core streams answer s comes = record {
  deeds = s.deeds;
  ends = stands_ended from new told core s.deeds (stands_on from old new told core s.deeds comes.took s.stands);
  hearing = hearing_ended from.edge.polled old.polled new.polled s.deeds (bytes_of streams) answer s.hearing comes.notes;
}

-- ## A put

stands-tried : (from : Beginning) (old new : EdgeState) (told : Told) (core : Core) (outs : Owing) (deeds : List Deed) (to : Place) (answer : Put) → Tried old new to core.outs outs answer → Stands from old told core deeds → Stands from new told (record core { outs = outs }) deeds
stands-tried from old new told core outs deeds to answer tried s = record { runs = s.runs; left_is = s.left_is; puts = puts_tried from.edge old new deeds core.outs outs to answer s.puts tried; ticked = s.ticked; reports = s.reports; as_set = s.as_set; seconds = s.seconds }

tried-on : (from : Beginning) (old new : EdgeState) (told : Told) (core : Core) (outs : Owing) (streams : List Pending) (to : Place) (answer : Put) → new.polled ≡ old.polled → Tried old new to core.outs outs answer
    → Serves from old told core streams → Serves from new told (record core { outs = outs }) streams
tried-on from old new told core outs streams to answer same tried s = record {
  deeds = s.deeds;
  stands = stands-tried from old new told core outs s.deeds to answer tried s.stands;
  hearing = hearing-same from.edge.polled old.polled new.polled s.deeds (bytes_of streams) same s.hearing;
}

pub put_wrote : (from : Beginning) (old new : EdgeState) (told : Told) (core : Core) (outs : Owing) (streams : List Pending) (to : Place) (answer : Put) (count : ℕ) → answer ≡ put.Wrote count → Tried old new to core.outs outs answer
    → Serves from old told core streams → Serves from new told (record core { outs = outs }) streams
put_wrote from old new told core outs streams to answer count is tried s = let wrote : Tried old new to core.outs outs (put.Wrote count) = rw is at tried in tried-on from old new told core outs streams to (put.Wrote count) wrote.tells wrote s

pub put_not_yet : (from : Beginning) (old new : EdgeState) (told : Told) (core : Core) (outs : Owing) (streams : List Pending) (to : Place) (answer : Put) → answer ≡ put.NotYet → Tried old new to core.outs outs answer
    → Serves from old told core streams → Serves from new told (record core { outs = outs }) streams
put_not_yet from old new told core outs streams to answer is tried s = let none : Tried old new to core.outs outs put.NotYet = rw is at tried in tried-on from old new told core outs streams to put.NotYet none.tells none s

took-by : (old new : EdgeState) (to other : Place) (same : Bool) → same_place to other ≡ same → new.took to ≡ old.took to → ((place : Place) → same_place to place ≡ false → Untaken old new place) → new.took other ≡ old.took other
took-by old new to other true e none others = subst (λ (place : Place). new.took place ≡ old.took place) (same_place-is to other e) none
took-by old new to other false e none others = (others other e).0

failed-comes : (old new : EdgeState) (to : Place) (before after : Owing) → Tried old new to before after put.Failed → Comes old new (answers.Failed to)
unfolding PutLeaves
failed-comes old new to before after tried = record { took = λ other. took-by old new to other (same_place to other) refl tried.leaves.0 tried.others; notes = tried.tells }

pub put_failed : (old new : EdgeState) (to : Place) (before after : Owing) (answer : Put) → answer ≡ put.Failed → Tried old new to before after answer → Comes old new (answers.Failed to)
put_failed old new to before after answer is tried = failed-comes old new to before after (rw is at tried)

same-outs : (old new : EdgeState) (to : Place) (before after : Owing) → Tried old new to before after put.Failed → after ≡ before
unfolding PutLeaves
same-outs old new to before after tried = tried.leaves.1

-- a put that failed changes nothing that the server keeps
pub failed_kept : (from : Beginning) (old new : EdgeState) (told : Told) (core : Core) (outs : Owing) (streams : List Pending) (to : Place) (answer : Put) → answer ≡ put.Failed → Tried old new to core.outs outs answer
    → Serves from old told core streams → Serves from old told (record core { outs = outs }) streams
failed_kept from old new told core outs streams to answer is tried s =
    subst (λ (o : Owing). Serves from old told (record core { outs = o }) streams) (sym (same-outs old new to core.outs outs (rw is at tried))) s
