-- What the parts of a round do, one after the other.
use Rattle.std.proofs.Common.{◌≡◌, ◌≤◌, ℕ, suc, Option, List, [], ◌∷◌, ◌++◌, append_assoc, refl, sym, ap, ◌∙◌, subst, inl, inr, arith}
use Rattle.std.specs.Prelude.{◌⊎◌, Result, Ok, length}
use Rattle.std.proofs.lemmas.List.{append-nil, length-append}
use Rattle.std.proofs.lemmas.List.Elements.{All-append}
use Rattle.std.specs.List.{All}
use Rattle.sc_value.specs.declared.ids.Place.{Place}
use Rattle.sc_edge.specs.Edges.{CountsOn, EdgeState, Stands}
use Rattle.sc_edge.specs.EdgeCalls.{Answers, Ends, PollBlames}
use Rattle.sc_edge.specs.Faults.{Rose_after, one_more}
use Rattle.sc_edge.specs.declared.edge.Got.{Got}
use Rattle.sc_edge.specs.declared.edge.Got.TheVariants as got
use Rattle.sc_outs.proofs.Laws.{cut_of, puts_stand}
use Rattle.sc_courses.specs.Asking.{Given, Sources, given_then, none_given}
use Rattle.sc_courses.proofs.AskingLaws.{almost_then, answers_almost, answers_even, even_almost, even_then, asked_none, asked_then, ticked_part}
use Rattle.sc_edge.specs.declared.orders.Order.{Order}
use Rattle.sc_courses.specs.Courses.{Beginning, Told, after}
use Rattle.sc_courses.specs.Marks.{Hearing}
use Rattle.sc_courses.proofs.HeardLaws.{hearing_part}
use Rattle.sc_rounds.specs.declared.stepping.Core.{Core}
use Rattle.sc_streams.specs.declared.streams.Pending.{Pending}
use Rattle.sc_rounds.specs.Moving.{Breaks, BreaksBoth, EndedAfter, Moves, MovesBoth}
use Rattle.sc_rounds.proofs.Movings.{ended_more}
use Rattle.sc_rounds.proofs.Seconds.{seconds_end}
use Rattle.sc_rounds.specs.Polling.{GivesOn, Polls, TellsOn}
use Rattle.sc_rounds.specs.GivingUp.{GaveUp}
use Rattle.sc_runs.specs.Following.{Streams}
use Rattle.sc_rounds.specs.declared.polling.Came.{Came}
use Rattle.sc_rounds.specs.declared.polling.Came.TheVariants as came
use Rattle.sc_rounds.proofs.GivingUps.{polls_on}
use Rattle.sc_rounds.specs.Serving.{Ended, HasNoEnd, Serves}
use Rattle.sc_streams.specs.Streaming.{bytes_of}
use Rattle.sc_switch.specs.Standing.{Known, net_of}
use Rattle.sc_switch.specs.declared.refused.StepRefused.{StepRefused}
use Rattle.sc_switch.specs.declared.refused.StepRefused.TheVariants as refused
use Rattle.sc_rounds.specs.Dues.{HasDue}
use Rattle.sc_serve.specs.declared.server.Server.{Server}
use Rattle.sc_serve.specs.declared.stop.Stop.{Stop}
use Rattle.sc_serve.specs.declared.stop.Stop.TheVariants as stops
use Rattle.sc_serve.specs.Closing.{Adds, Closes, ClosesAll, Rests}
use Rattle.sc_outs.specs.Owing.{Owing, left_at}
use Rattle.sc_serve.specs.Running.{Blames, FinishesOn, Goes, GoesOn, Halted, HaltedAfter, Halts, HaltsOn, Hears, Holds, IsDueAt, IsOver, IsUnheard, PollsOn, PollsPart, Works, WorksPart}
use Rattle.sc_serve.proofs.AllClosings.{added_none, all_on, all_waits}
use Rattle.sc_serve.proofs.Closings.{closes_on, none_waits, one_all, same_waits}
use Rattle.sc_serve.proofs.Pollings.{heard_part, part_of, polls_kept, polls_none, polls_part, polls_round, polls_then}

-- ## Counts of faults

pub counts_none : (edge : EdgeState) → CountsOn edge edge
counts_none edge = (omega arith, λ place. omega arith)

pub counts_then : (a b c : EdgeState) → CountsOn a b → CountsOn b c → CountsOn a c
counts_then a b c first later =
    let x : a.faults ≤ b.faults = first.0 in
    let y : b.faults ≤ c.faults = later.0 in
    (omega arith, λ place. at (first.1 place) (later.1 place))
  where
    at : {m n k : ℕ} → m ≤ n → n ≤ k → m ≤ k
    at mn nk = omega arith

pub blames_after : (a b c : EdgeState) (cause : Stop) → CountsOn a b → Blames b c cause → Blames a c cause
unfolding Blames
blames_after a b c stops.JournalFull counts is = tt
blames_after a b c stops.Edge counts is = Rose_after a.faults b.faults c.faults counts.0 is
blames_after a b c stops.NoMemory counts is = tt

-- ## One after the other

pub goes_same : (server : Server) (edge : EdgeState) (told : Told) → Goes server server edge edge told told
unfolding Goes
goes_same server edge told from s = s

pub goes_then : (a b c : Server) (e e1 e2 : EdgeState) (t t1 t2 : Told) → Goes a b e e1 t t1 → Goes b c e1 e2 t1 t2 → Goes a c e e2 t t2
unfolding Goes
goes_then a b c e e1 e2 t t1 t2 first later from s = later from (first from s)

pub halts_then : (a b c : Server) (e e1 e2 : EdgeState) (t t1 t2 : Told) → Goes a b e e1 t t1 → Halts b c e1 e2 t1 t2 → Halts a c e e2 t t2
unfolding Goes Halts
halts_then a b c e e1 e2 t t1 t2 first later from s = later from (first from s)

-- a run may end where it stands
ended-of : (from : Beginning) (edge : EdgeState) (told : Told) (core : Core) (streams : List Pending) → Serves from edge told core streams → Ended from edge told core.switch
ended-of from edge told core streams s = record {
  deeds = s.deeds;
  ends = record { runs = s.stands.runs; cut = cut_of from.edge edge s.deeds core.outs [] s.stands.puts; ticked = ticked_part from.moments s.deeds (net_of core.switch).moment s.stands.ticked; counts = s.stands.reports.counts; seconds = seconds_end from told core s.stands.seconds };
  hearing = hearing_part from.edge.polled edge.polled s.deeds (bytes_of streams) s.hearing;
}

halted-of : (from : Beginning) (edge : EdgeState) (told : Told) (server : Server) → Holds from edge told server → Halted from edge told server.core.switch
halted-of from edge told server s = record { ended = ended-of from edge told server.core server.streams s.serves; closes = none_waits from.edge edge server.broken s.closes }

pub goes_halts : (a b : Server) (e e1 : EdgeState) (t t1 : Told) → Goes a b e e1 t t1 → Halts a b e e1 t t1
unfolding Goes Halts
goes_halts a b e e1 t t1 goes from s = halted-of from e1 t1 b (goes from s)

-- of the same places and streams
all-kept : (first now : EdgeState) (streams streams2 : List Pending) (old new : List Place) → streams2 ≡ streams → new ≡ old → ClosesAll first now (bytes_of streams) old → ClosesAll first now (bytes_of streams2) new
all-kept first now streams streams2 old new same broken s = all_waits first now (bytes_of streams2) old new broken (subst (λ (ps : List Pending). ClosesAll first now (bytes_of ps) old) (sym same) s)

-- only what isn't told of changed
pub goes_kept : (a b : Server) (edge : EdgeState) (told : Told) → b.core ≡ a.core → b.streams ≡ a.streams → b.broken ≡ a.broken → Goes a b edge edge told told
unfolding Goes
goes_kept a b edge told core streams broken from s = record {
  serves = subst (λ (c : Core). Serves from edge told c b.streams) (sym core) (subst (λ (ps : List Pending). Serves from edge told a.core ps) (sym streams) s.serves);
  closes = same_waits from.edge edge a.broken b.broken broken s.closes;
  closes_all = all-kept from.edge edge a.streams b.streams a.broken b.broken streams broken s.closes_all;
}

-- ## Steps that aren't heard

pub moves_goes : (a b : Server) (edge : EdgeState) (t t1 : Told) → b.streams ≡ a.streams → b.broken ≡ a.broken → Moves a.core b.core t t1 → Goes a b edge edge t t1
unfolding Moves Goes
moves_goes a b edge t t1 streams broken moves from s = record {
  serves = moves from edge b.streams (subst (λ (ps : List Pending). Serves from edge t a.core ps) (sym streams) s.serves);
  closes = same_waits from.edge edge a.broken b.broken broken s.closes;
  closes_all = all-kept from.edge edge a.streams b.streams a.broken b.broken streams broken s.closes_all;
}

pub breaks_halts : (a b : Server) (edge : EdgeState) (t t1 : Told) → Breaks a.core b.core t t1 → Halts a b edge edge t t1
unfolding Breaks Halts
breaks_halts a b edge t t1 breaks from s = record { ended = breaks from edge a.streams s.serves; closes = none_waits from.edge edge a.broken s.closes }

-- ## A poll

pub polls_of : (old new : EdgeState) (answer : Got) (room : List ℕ) → ((place : Place) → Stands old new place) → Answers old new answer room → Ends old new answer → Polls old new answer room
polls_of old new answer room stands told ends = record { took = λ place. (stands place).0; told = told; ends = ends }

pub fault_blames : (old new : EdgeState) (answer : Got) → answer ≡ got.Fault → PollBlames old new answer → Blames old new stops.Edge
unfolding Blames
fault_blames old new answer is blames = rw is at blames

-- ## A close

serves-rests : (from : Beginning) (old new : EdgeState) (told : Told) (core : Core) (streams : List Pending) → Rests old new → Serves from old told core streams → Serves from new told core streams
serves-rests from old new told core streams rests s = record {
  deeds = s.deeds;
  stands = record { runs = s.stands.runs; left_is = s.stands.left_is; puts = puts_stand from.edge old new s.deeds core.outs [] rests.took s.stands.puts; ticked = s.stands.ticked; reports = s.stands.reports; as_set = s.stands.as_set; seconds = s.stands.seconds };
  hearing = subst (λ polled. Hearing from.edge.polled polled s.deeds (bytes_of streams)) (sym rests.polled) s.hearing;
}

pub rests_none : (edge : EdgeState) → Rests edge edge
rests_none edge = record { took = λ place. refl; polled = refl; polls = refl }

pub rests_then : (a b c : EdgeState) → Rests a b → Rests b c → Rests a c
rests_then a b c first later = record { took = λ place. later.took place ∙ first.took place; polled = later.polled ∙ first.polled; polls = later.polls ∙ first.polls }

-- so nothing was polled
pub closed_unheard : (a b c : Server) (e e1 e2 : EdgeState) → IsUnheard a b e e1 → Rests e1 e2 → c.unpolled ≡ b.unpolled → IsUnheard a c e e2
closed_unheard a b c e e1 e2 first rests same = record { unpolled = same ∙ first.unpolled; polls = rests.polls ∙ first.polls }

pub unheard_none : (a : Server) (e : EdgeState) → IsUnheard a a e e
unheard_none a e = record { unpolled = refl; polls = refl }

pub unheard_then : (a b c : Server) (e e1 e2 : EdgeState) → IsUnheard a b e e1 → IsUnheard b c e1 e2 → IsUnheard a c e e2
unheard_then a b c e e1 e2 first later = record { unpolled = later.unpolled ∙ first.unpolled; polls = later.polls ∙ first.polls }

-- ## A cause

pub no_blames : (edge edge2 : EdgeState) (cause : Stop) → (cause ≡ stops.JournalFull) ⊎ (cause ≡ stops.NoMemory) → Blames edge edge2 cause
unfolding Blames
no_blames edge edge2 cause (inl is) = rw is tt
no_blames edge edge2 cause (inr is) = rw is tt

pub memory_blames : (edge edge2 : EdgeState) → Blames edge edge2 stops.NoMemory
unfolding Blames
memory_blames edge edge2 = tt

pub edge_due : (known : Known) → IsDueAt known stops.Edge
unfolding IsDueAt
edge_due known = tt

pub memory_due : (known : Known) → IsDueAt known stops.NoMemory
unfolding IsDueAt
memory_due known = tt

pub full_due : (known : Known) (cause : StepRefused) (most bytes : ℕ) → cause ≡ refused.JournalFull most bytes → HasDue known cause → IsDueAt known stops.JournalFull
unfolding HasDue IsDueAt
full_due known cause most bytes is due = rw is at due

-- ## As the code does it

at-streams : (e e1 : EdgeState) (old new streams : List Pending) (places : List Place) → new ≡ streams → GivesOn e e1 (bytes_of old) places (bytes_of streams) → GivesOn e e1 (bytes_of old) places (bytes_of new)
at-streams e e1 old new streams places is gives = subst (λ (ps : List Pending). GivesOn e e1 (bytes_of old) places (bytes_of ps)) (sym is) gives

-- what is remembered of what came: the places that are to be closed
pub Remembers : Server → Server → EdgeState → EdgeState → Told → Type 0
Remembers a b e e1 t = (from : Beginning) → Serves from e t a.core a.streams → All (GaveUp from.edge.polled e1.polled) a.broken → All (GaveUp from.edge.polled e1.polled) b.broken

-- the run ends behind an answer whose steps were taken
pub poll_ends : (a b : Server) (e e1 : EdgeState) (t t1 : Told) (answer : Got) (room : List ℕ) (core : Core) (streams : List Pending)
    → ((from : Beginning) (old new : EdgeState) → Serves from old t a.core a.streams → Polls old new answer room → Serves from new t1 core streams) → Polls e e1 answer room → e1.closes ≡ e.closes → b.core ≡ core → Halts a b e e1 t t1
unfolding Halts
poll_ends a b e e1 t t1 answer room core streams took polls closes core_is from s = record {
  ended = rw core_is (ended-of from e1 t1 core streams (took from e e1 s.serves polls));
  closes = none_waits from.edge e1 a.broken (closes_on from.edge e e1 a.broken (polls_on e e1 answer room polls) closes s.closes);
}

pub poll_halts : (a b : Server) (e e1 : EdgeState) (t t1 : Told) (answer : Got) (room : List ℕ) → ((from : Beginning) (old new : EdgeState) → Serves from old t a.core a.streams → Polls old new answer room → Ended from new t1 b.core.switch)
    → Polls e e1 answer room → e1.closes ≡ e.closes → Halts a b e e1 t t1
unfolding Halts
poll_halts a b e e1 t t1 answer room took polls closes from s = record {
  ended = took from e e1 s.serves polls;
  closes = none_waits from.edge e1 a.broken (closes_on from.edge e e1 a.broken (polls_on e e1 answer room polls) closes s.closes);
}

pub put_halts : (a b : Server) (e e1 : EdgeState) (t t1 : Told) → ((from : Beginning) → Serves from e t a.core a.streams → Ended from e1 t1 b.core.switch) → TellsOn e e1 → e1.closes ≡ e.closes → Halts a b e e1 t t1
unfolding Halts
put_halts a b e e1 t t1 halts tells closes from s = record { ended = halts from s.serves; closes = none_waits from.edge e1 a.broken (closes_on from.edge e e1 a.broken tells closes s.closes) }

-- and what the server remembers of it
pub poll_then : (a b : Server) (e e1 : EdgeState) (t t1 : Told) (answer : Got) (room : List ℕ) (core : Core) (streams : List Pending) (places : List Place)
    → ((from : Beginning) (old new : EdgeState) → Serves from old t a.core a.streams → Polls old new answer room → Serves from new t1 core streams) → Polls e e1 answer room → e1.closes ≡ e.closes → b.core ≡ core → b.streams ≡ streams
    → Remembers a b e e1 t → GivesOn e e1 (bytes_of a.streams) places (bytes_of streams) → b.broken ≡ a.broken ++ places → Goes a b e e1 t t1
unfolding Goes Remembers
poll_then a b e e1 t t1 answer room core streams places took polls closes core_is streams_is remembers gives added from s =
    let on : Closes from.edge e1 a.broken = closes_on from.edge e e1 a.broken (polls_on e e1 answer room polls) closes s.closes in record {
      serves = rw (core_is, streams_is) (took from e e1 s.serves polls);
      closes = record { closed = on.closed; told = on.told; gave = on.gave; waits = remembers from s.serves on.waits };
      closes_all = all_on from.edge e e1 (bytes_of a.streams) (bytes_of b.streams) a.broken places b.broken (at-streams e e1 a.streams b.streams streams places streams_is gives) closes added s.closes_all;
    }

all-added : (P : Place → Type 0) (answer : Came) (old new : List Place) → Adds answer old new → ((place : Place) → answer ≡ came.Broken place → P place) → All P old → All P new
unfolding Adds
all-added P came.Nothing old new adds gave all = subst (λ (places : List Place). All P places) (sym adds) all
all-added P (came.Bytes place) old new adds gave all = subst (λ (places : List Place). All P places) (sym adds) all
all-added P (came.Broken place) old new adds gave all = subst (λ (places : List Place). All P places) (sym adds) (All-append P old (place ∷ []) all (one_all P place (gave place refl)))
all-added P (came.End place) old new adds gave all = subst (λ (places : List Place). All P places) (sym adds) all
all-added P came.Closed old new adds gave all = subst (λ (places : List Place). All P places) (sym adds) all
all-added P came.Fault old new adds gave all = subst (λ (places : List Place). All P places) (sym adds) all

-- the place of which the answer says so is to be closed too
pub remembers_came : {E : Type 0} (a b : Server) (e e1 : EdgeState) (t : Told) (got : Got) (room : List ℕ) (r : Result Came E) (answer : Came)
    → ((from : Beginning) (old new : EdgeState) → Serves from old t a.core a.streams → Polls old new got room → (place : Place) → r ≡ Ok (came.Broken place) → GaveUp from.edge.polled new.polled place) → r ≡ Ok answer → Polls e e1 got room → Adds answer a.broken b.broken → Remembers a b e e1 t
unfolding Remembers
remembers_came a b e e1 t got room r answer gave is polls adds from s all =
    all-added (GaveUp from.edge.polled e1.polled) answer a.broken b.broken adds (λ place broke. gave from e e1 s polls place (is ∙ ap (λ (x : Came). Ok x) broke)) all

pub put_then : (a b : Server) (e e1 : EdgeState) (t t1 : Told) (core : Core) (streams : List Pending) → ((from : Beginning) → Serves from e t a.core a.streams → Serves from e1 t1 core streams) → TellsOn e e1 → GivesOn e e1 (bytes_of a.streams) [] (bytes_of streams) → e1.closes ≡ e.closes
    → b.core ≡ core → b.streams ≡ streams → b.broken ≡ a.broken → Goes a b e e1 t t1
unfolding Goes
put_then a b e e1 t t1 core streams goes tells gives closes core_is streams_is broken from s = record {
  serves = rw (core_is, streams_is) (goes from s.serves);
  closes = same_waits from.edge e1 a.broken b.broken broken (closes_on from.edge e e1 a.broken tells closes s.closes);
  closes_all = all_on from.edge e e1 (bytes_of a.streams) (bytes_of b.streams) a.broken [] b.broken (at-streams e e1 a.streams b.streams streams [] streams_is gives) closes (added_none a.broken b.broken broken) s.closes_all;
}

-- places were closed behind it
pub close_then : (a b c : Server) (e e1 e2 : EdgeState) (t t1 : Told) → Goes a b e e1 t t1 → Rests e1 e2 → c.core ≡ b.core → c.streams ≡ b.streams → ((first : EdgeState) → Closes first e1 b.broken → Closes first e2 c.broken)
    → ((first : EdgeState) (streams : Streams) → ClosesAll first e1 streams b.broken → ClosesAll first e2 streams c.broken) → Goes a c e e2 t t1
unfolding Goes
close_then a b c e e1 e2 t t1 first rests core streams closes closes_all from s =
    let s1 : Holds from e1 t1 b = first from s in record {
      serves = rw (core, streams) (serves-rests from e1 e2 t1 b.core b.streams rests s1.serves);
      closes = closes from.edge s1.closes;
      closes_all = all-kept from.edge e2 b.streams c.streams c.broken c.broken streams refl (closes_all from.edge (bytes_of b.streams) s1.closes_all);
    }

pub rest_counts : (e e1 e2 : EdgeState) → e2 ≡ e1 → CountsOn e e1 → CountsOn e e2
rest_counts e e1 e2 same counts = rw same counts

-- ## Once the clock and the orders were asked

pub moves_work : (a b : Server) (edge : EdgeState) (t t1 : Told) (k k1 : Sources) → b.streams ≡ a.streams → b.broken ≡ a.broken → MovesBoth 1 1 a.core b.core t t1 k k1 → Works a b edge t t1 k k1
unfolding MovesBoth Works
moves_work a b edge t t1 k k1 streams broken (given, are, asked, moves) = (
  given,
  are,
  asked,
  λ from s. record {
    serves = moves from edge b.streams (subst (λ (ps : List Pending). Serves from edge t a.core ps) (sym streams) s.serves);
    closes = same_waits from.edge edge a.broken b.broken broken s.closes;
    closes_all = all-kept from.edge edge a.streams b.streams a.broken b.broken streams broken s.closes_all;
  },
)

pub breaks_work : (n : ℕ) (a b : Server) (edge : EdgeState) (t t1 : Told) (k k1 : Sources) → (1 ≡ n) ⊎ (1 ≡ suc n) → BreaksBoth 1 n a.core b.core t t1 k k1 → WorksPart a b edge t t1 k k1
unfolding BreaksBoth WorksPart
breaks_work n a b edge t t1 k k1 even (given, are, asked, breaks) = (given, are.orders_are, answers_almost 1 n given even are, asked, λ from s. record { ended = breaks from edge a.streams s.serves; closes = none_waits from.edge edge a.broken s.closes })

holds-none : (from : Beginning) (edge : EdgeState) (told : Told) (server : Server) → Holds from edge told server → Holds (after from none_given) edge told server
holds-none from edge told server s =
    subst (λ (m : List ℕ). Holds (record from { moments = m; orders = from.orders ++ [] }) edge told server) (sym (append-nil from.moments))
    (subst (λ (o : List (Option Order)). Holds (record from { orders = o }) edge told server) (sym (append-nil from.orders)) s)

-- nothing was asked and nothing was done
pub goes_on_none : (a : Server) (e : EdgeState) (t : Told) (k : Sources) → GoesOn a a e e t t k k
unfolding GoesOn
goes_on_none a e t k = (none_given, (refl, polls_none a e), asked_none k, λ from s. holds-none from e t a s)

ended-none : (from : Beginning) (edge : EdgeState) (told : Told) (known : Known) → Ended from edge told known → EndedAfter from none_given edge told known
ended-none from edge told known s = (
  [],
  inl refl,
  subst (λ (m : List ℕ). Ended (record from { moments = m; orders = from.orders ++ [] }) edge told known) (sym (append-nil from.moments))
      (subst (λ (o : List (Option Order)). Ended (record from { orders = o }) edge told known) (sym (append-nil from.orders)) s),
)

halted-none : (from : Beginning) (edge : EdgeState) (told : Told) (known : Known) → Halted from edge told known → HaltedAfter from none_given edge told known
halted-none from edge told known s = record { ended = ended-none from edge told known s.ended; closes = s.closes }

-- the poll of a round ended the run
pub heard_halts : (a b : Server) (e e1 : EdgeState) (t t1 : Told) (k : Sources) → Halts a b e e1 t t1 → e1.polls ≡ one_more e.polls → HaltsOn a b e e1 t t1 k k
unfolding Halts HaltsOn
heard_halts a b e e1 t t1 k halts polled = (none_given, (even_almost none_given refl, heard_part a e e1 polled), asked_none k, λ from s. halted-none from e1 t1 b.core.switch (halts from s))

-- orders and the clock were asked behind it
pub work_goes : (a b c : Server) (e e1 : EdgeState) (t t1 t2 : Told) (k k1 : Sources) → Goes a b e e1 t t1 → Hears a b e e1 → Works b c e1 t1 t2 k k1 → c.unpolled ≡ b.unpolled → GoesOn a c e e1 t t2 k k1
unfolding Goes Works GoesOn
work_goes a b c e e1 t t1 t2 k k1 first hears (given, are, asked, later) same =
    (given, (answers_even 1 given are, subst (λ (n : ℕ). PollsOn a c e e1 n) (sym are.orders_are) (polls_round a b c e e1 hears same)), asked, λ from s. later from (first from s))

pub work_halts : (a b c : Server) (e e1 : EdgeState) (t t1 t2 : Told) (k k1 : Sources) → Goes a b e e1 t t1 → Hears a b e e1 → WorksPart b c e1 t1 t2 k k1 → c.unpolled ≡ b.unpolled → HaltsOn a c e e1 t t2 k k1
unfolding Goes WorksPart HaltsOn
work_halts a b c e e1 t t1 t2 k k1 first hears (given, one, almost, asked, later) same =
    (given, (almost, subst (λ (n : ℕ). PollsPart a e e1 n) (sym one) (part_of a c e e1 1 (polls_round a b c e e1 hears same))), asked, λ from s. later from (first from s))

-- and then it went on without a poll
pub goes_on_goes : (a b c : Server) (e e1 e2 : EdgeState) (t t1 t2 : Told) (k k1 : Sources) → GoesOn a b e e1 t t1 k k1 → Goes b c e1 e2 t1 t2 → IsUnheard b c e1 e2 → GoesOn a c e e2 t t2 k k1
unfolding Goes GoesOn
goes_on_goes a b c e e1 e2 t t1 t2 k k1 (given, (even, polls), asked, first) later unheard =
    (given, (even, polls_kept a b c e e1 e2 (length given.orders) polls unheard), asked, λ from s. later (after from given) (first from s))

halted-behind : (from : Beginning) (given : Given) (edge : EdgeState) (told : Told) (known : Known) → Halted (after from given) edge told known → HaltedAfter from given edge told known
halted-behind from given edge told known s = record { ended = (given.orders, inl refl, s.ended); closes = s.closes }

pub goes_on_halts : (a b c : Server) (e e1 e2 : EdgeState) (t t1 t2 : Told) (k k1 : Sources) → GoesOn a b e e1 t t1 k k1 → Halts b c e1 e2 t1 t2 → IsUnheard b c e1 e2 → HaltsOn a c e e2 t t2 k k1
unfolding Halts GoesOn HaltsOn
goes_on_halts a b c e e1 e2 t t1 t2 k k1 (given, (even, polls), asked, first) later unheard =
    (given, (even_almost given even, part_of a c e e2 (length given.orders) (polls_kept a b c e e1 e2 (length given.orders) polls unheard)), asked, λ from s. halted-behind from given e2 t2 c.core.switch (later (after from given) (first from s)))

-- one round after the other
pub goes_on_then : (a b c : Server) (e e1 e2 : EdgeState) (t t1 t2 : Told) (k k1 k2 : Sources) → GoesOn a b e e1 t t1 k k1 → GoesOn b c e1 e2 t1 t2 k1 k2 → GoesOn a c e e2 t t2 k k2
unfolding GoesOn
goes_on_then a b c e e1 e2 t t1 t2 k k1 k2 (xs, (even, polls), asked, first) (ys, (even2, polls2), asked2, later) = (
  given_then xs ys,
  (even_then xs ys even even2, subst (λ (n : ℕ). PollsOn a c e e2 n) (sym (length-append xs.orders ys.orders)) (polls_then a b c e e1 e2 (length xs.orders) (length ys.orders) polls polls2)),
  asked_then k k1 k2 xs ys asked asked2,
  λ from s.
      subst (λ (m : List ℕ). Holds (record from { moments = m; orders = from.orders ++ (xs.orders ++ ys.orders) }) e2 t2 c) (append_assoc from.moments xs.moments ys.moments)
      (subst (λ (o : List (Option Order)). Holds (record from { moments = (from.moments ++ xs.moments) ++ ys.moments; orders = o }) e2 t2 c) (append_assoc from.orders xs.orders ys.orders)
      (later (after from xs) (first from s))),
)

halted-more : (from : Beginning) (xs ys : Given) (edge : EdgeState) (told : Told) (known : Known) → HaltedAfter (after from xs) ys edge told known → HaltedAfter from (given_then xs ys) edge told known
halted-more from xs ys edge told known s = record { ended = ended_more from xs ys edge told known s.ended; closes = s.closes }

pub halts_on_then : (a b c : Server) (e e1 e2 : EdgeState) (t t1 t2 : Told) (k k1 k2 : Sources) → GoesOn a b e e1 t t1 k k1 → HaltsOn b c e1 e2 t1 t2 k1 k2 → HaltsOn a c e e2 t t2 k k2
unfolding GoesOn HaltsOn
halts_on_then a b c e e1 e2 t t1 t2 k k1 k2 (xs, (even, polls), asked, first) (ys, (even2, polls2), asked2, later) = (
  given_then xs ys,
  (almost_then xs ys even even2, subst (λ (n : ℕ). PollsPart a e e2 n) (sym (length-append xs.orders ys.orders)) (polls_part a b e e1 e2 (length xs.orders) (length ys.orders) polls polls2)),
  asked_then k k1 k2 xs ys asked asked2,
  λ from s. halted-more from xs ys e2 t2 c.core.switch (later (after from xs) (first from s)),
)

-- it ends where it began
pub same_halts_on : (a : Server) (e : EdgeState) (t : Told) (k : Sources) → HaltsOn a a e e t t k k
unfolding HaltsOn
same_halts_on a e t k = (none_given, (even_almost none_given refl, part_of a a e e 0 (polls_none a e)), asked_none k, λ from s. halted-none from e t a.core.switch (halted-of from e t a s))

-- a rest changes nothing
pub rest_goes_on : (a b : Server) (e e1 e2 : EdgeState) (t t1 : Told) (k k1 : Sources) → e2 ≡ e1 → GoesOn a b e e1 t t1 k k1 → GoesOn a b e e2 t t1 k k1
rest_goes_on a b e e1 e2 t t1 k k1 same goes = rw same goes

over-goes : (a b c : Server) (e e1 : EdgeState) (t t1 : Told) (k k1 : Sources) → GoesOn a b e e1 t t1 k k1 → HasNoEnd b.core t1 c.core.switch → IsOver a c e t
unfolding GoesOn HasNoEnd
over-goes a b c e e1 t t1 k k1 (given, (even, polls), asked, goes) over from s ends =
    let s1 : Holds (after from given) e1 t1 b = goes from s in
    over (after from given) e1 s1.serves.deeds s1.serves.stands ends

-- the run is over, once the epoch was ended where that was due
pub over_on : (a b c : Server) (e e1 : EdgeState) (t t1 t2 : Told) (k k1 : Sources) → GoesOn a b e e1 t t1 k k1 → c.streams ≡ b.streams → c.broken ≡ b.broken → c.unpolled ≡ b.unpolled → Moves b.core c.core t1 t2 → c.core.outs ≡ b.core.outs → ((place : Place) → left_at b.core.outs place ≡ [])
    → b.broken ≡ [] → c.core.unlisted ≡ b.core.unlisted → b.core.unlisted ≡ 0 → HasNoEnd b.core t1 c.core.switch → FinishesOn a c e e1 t t2 k k1
unfolding FinishesOn
over_on a b c e e1 t t1 t2 k k1 goes streams broken unpolled moves outs none closed unlisted listed over = (
  goes_on_goes a b c e e1 e1 t t1 t2 k k1 goes (moves_goes b c e1 t1 t2 streams broken moves) (record { unpolled = unpolled; polls = refl }),
  (λ place. ap (λ (o : Owing). left_at o place) outs ∙ none place),
  broken ∙ closed,
  unlisted ∙ listed,
  over-goes a b c e e1 t t1 k k1 goes over,
)
