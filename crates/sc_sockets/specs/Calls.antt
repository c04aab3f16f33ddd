-- What the parts of a poll and of a put do, as the sockets of POSIX answer them.
use Rattle.std.specs.Prelude.{ℕ, ◌≡◌, ◌⊎◌, true}
use Rattle.sc_value.specs.declared.ids.Place.{Place}
use Rattle.sc_edge.specs.EdgeCalls.{Ends, Names, PollBlames}
use Rattle.sc_edge.specs.Edges.{CountsOn, EdgeState, Stands, Stays}
use Rattle.sc_edge.specs.Faults.{one_more}
use Rattle.sc_edge.specs.declared.edge.Got.{Got}
use Rattle.sc_edge.specs.declared.edge.Got.TheVariants as got
use Rattle.sc_edge.specs.declared.edge.Put.{Put}
use Rattle.sc_edge.specs.declared.edge.Put.TheVariants as put
use Rattle.sc_sockets.specs.Lines.{Known, after_opening, after_service, edge_state, is_heard, place_after_end, place_after_failure}
use Rattle.sc_sockets.specs.declared.line.Standing.{Standing}
use Rattle.sc_sockets.specs.declared.line.Standing.TheVariants.{Unborn, Gone, Closed, Open}

-- peers' connections may have come, and silent ones may have gone; nothing was counted
pub record Grows (old new : Known) : Type 0 where
  pub polls : new.polls ≡ old.polls
  pub faults : new.faults ≡ old.faults
  pub failures : new.failures ≡ old.failures
  pub stays : (place : Place) → Stays (edge_state old) (edge_state new) place
  pub stands : (place : Place) → Stands (edge_state old) (edge_state new) place

-- what a read of the next connection answers
unfoldable pub Gives : Known → Known → Got → Type 0
Gives old new (got.Bytes place count) = (is_heard old place ≡ true) × (new ≡ old)
Gives old new (got.End place) = (is_heard old place ≡ true) × (new ≡ place_after_end place old)
Gives old new (got.Failed place) =
    (is_heard old place ≡ true) × (new ≡ place_after_failure place old)
Gives old new got.Closed = ⊥
Gives old new got.NotYet = new ≡ old
Gives old new got.Fault = ⊥

-- a poll that was counted
abbrev pub with_poll_counted : Known → Known
with_poll_counted known = record known { polls = one_more known.polls }

-- a poll keeps what every edge promises
pub record Polls (old new : EdgeState) (answer : Got) : Type 0 where
  pub polls : new.polls ≡ one_more old.polls
  pub later : CountsOn old new
  pub blames : PollBlames old new answer
  pub ended : Ends old new answer
  pub named : Names old new answer
  pub stays : (place : Place) → Stays old new place
  pub stands : (place : Place) → Stands old new place

-- after a put to a connection, of a piece of this length
abbrev pub after_put : Place → ℕ → Put → Known → Known
after_put to len (put.Wrote count) known = after_service to count len known
after_put to len put.NotYet known = known
after_put to len put.Failed known = place_after_failure to known

-- what a put comes to, by what it meets: an address without a connection is connected first
unfoldable pub PutBy : Standing → Known → Known → Place → ℕ → Put → Type 0
PutBy Unborn old new to len result = (result ≡ put.NotYet) × (new ≡ old)
PutBy Gone old new to len result = (result ≡ put.Failed) × (new ≡ place_after_failure to old)
PutBy Closed old new to len result =
    (new ≡ after_put to len result (after_opening to old))
    ⊎ ((result ≡ put.Failed) × (new ≡ place_after_failure to old))
PutBy Open old new to len result = new ≡ after_put to len result old
