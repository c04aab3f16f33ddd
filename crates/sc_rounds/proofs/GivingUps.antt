-- What is given up: an answer's bytes show it, and what is told behind it takes nothing from that.
use Rattle.std.proofs.Common.{◌≡◌, ℕ, Bool, true, false, Option, List, [], ◌∷◌, ◌++◌, refl, sym, subst, append_assoc, inl, inr, if◌then◌else◌}
use Rattle.std.specs.Prelude.{◌⊎◌, Result, Ok}
use Rattle.std.proofs.lemmas.Bool.{false≢true}
use Rattle.sc_tokens.specs.Bytes.{Bytes}
use Rattle.sc_value.specs.declared.ids.Place.{Place}
use Rattle.sc_terms.specs.declared.steps.Bad.{Bad}
use Rattle.sc_terms.specs.declared.steps.Step.{Step}
use Rattle.sc_terms.specs.declared.steps.Step.TheVariants as steps
use Rattle.sc_stream.specs.Hearing.{Hears as HearsNext}
use Rattle.sc_stream.specs.declared.streams.Heard.{Heard}
use Rattle.sc_stream.specs.declared.streams.Heard.TheVariants as heard
use Rattle.sc_edge.specs.Edges.{EdgeState, polled_of}
use Rattle.sc_edge.specs.Telling.{Notes}
use Rattle.sc_edge.specs.declared.edge.Got.{Got}
use Rattle.sc_edge.specs.declared.edge.Polled.{Polled}
use Rattle.sc_edge.specs.declared.edge.Polled.TheVariants as answers
use Rattle.sc_edge.specs.declared.edge.Put.{Put}
use Rattle.sc_edge.specs.declared.edge.Put.TheVariants as put
use Rattle.sc_runs.specs.Hearing.{Hears, IsBad}
use Rattle.sc_outs.specs.Owing.{Owing, Tried}
use Rattle.sc_courses.specs.Courses.{Beginning, Told}
use Rattle.sc_courses.specs.Marks.{TellsSo}
use Rattle.sc_courses.proofs.HeardLaws.{notes_of, tells_more}
use Rattle.sc_courses.proofs.OnLaws.{long-hears, bad-hears}
use Rattle.sc_rounds.specs.declared.polling.Came.{Came}
use Rattle.sc_rounds.specs.declared.polling.Came.TheVariants as came
use Rattle.sc_rounds.specs.declared.stepping.Core.{Core}
use Rattle.sc_streams.specs.declared.streams.Pending.{Pending}
use Rattle.sc_rounds.specs.GivingUp.{GaveUp}
use Rattle.sc_rounds.specs.Polling.{Polls, TellsOn}
use Rattle.sc_rounds.specs.Serving.{ServesOn}
use Rattle.sc_streams.specs.Streaming.{bytes_of}

-- ## Where it is shown

gave-of : (from : Beginning) (edge : EdgeState) (told : Told) (core : Core) (streams : List Pending) (place : Place) (text : Bytes) (made : List Step) → Hears place (bytes_of streams place) (made ++ steps.Lost place ∷ []) [] → ServesOn from edge told core streams place text
    → GaveUp from.edge.polled edge.polled place
gave-of from edge told core streams place text made hears s = record {
  before = s.on.given;
  text = text;
  later = [];
  told = s.on.told;
  heard = s.on.before;
  kept = s.on.mid;
  heard_is = s.on.heard;
  made = s.on.done ++ made;
  breaks = subst (λ (all : List Step). Hears place (s.on.mid place ++ text) all []) (sym (append_assoc s.on.done made (steps.Lost place ∷ []))) (s.on.on (made ++ steps.Lost place ∷ []) [] hears);
}

pub bad-before : (bad : Bad) (before after : Bytes) → HearsNext (heard.Bad bad) before after → IsBad before bad
unfolding IsBad
bad-before bad before after (front, same) = front

-- a text that is no message
pub gave_bad : (from : Beginning) (edge : EdgeState) (told : Told) (core : Core) (streams : List Pending) (place : Place) (text after : Bytes) (bad : Bad) (h : Heard) → h ≡ heard.Bad bad → HearsNext h (bytes_of streams place) after → ServesOn from edge told core streams place text
    → GaveUp from.edge.polled edge.polled place
gave_bad from edge told core streams place text after bad h is hears s =
    let next : HearsNext (heard.Bad bad) (bytes_of streams place) after = rw is at hears in
    gave-of from edge told core streams place text (steps.Bad place bad ∷ []) (bad-hears place (bytes_of streams place) bad (bad-before bad (bytes_of streams place) after next)) s

-- one that is too long
pub gave_long : (from : Beginning) (edge : EdgeState) (told : Told) (core : Core) (streams : List Pending) (place : Place) (text after : Bytes) (h : Heard) → h ≡ heard.Long → HearsNext h (bytes_of streams place) after → ServesOn from edge told core streams place text
    → GaveUp from.edge.polled edge.polled place
gave_long from edge told core streams place text after h is hears s =
    let (front, same) = rw is at hears in
    gave-of from edge told core streams place text [] (long-hears place (bytes_of streams place) front) s

-- ## As the loop goes on

-- the first, or the last, where it was only the one before that
pub broke_then : {A B C : Type 0} → (B → A ⊎ C) → B ⊎ C → A ⊎ C
broke_then first (inl b) = first b
broke_then first (inr c) = inr c

-- it wasn't so before
pub broke_now : {C : Type 0} → (false ≡ true) ⊎ C → C
broke_now (inl e) = absurd (false≢true e)
broke_now (inr c) = c

-- the answer names the place that broke
pub broken_came : {E : Type 0} (at place : Place) (broken : Bool) (c : Came) (r : Result Came E) → c ≡ (if broken then came.Broken at else came.Bytes at) → r ≡ Ok c → r ≡ Ok (came.Broken place) → (broken ≡ true) × (at ≡ place)
broken_came at place true c r is ok e = (refl, cc)
broken_came at place false c r is ok e = cc

pub gave_at : (first now : Option (List Polled)) (at place : Place) → at ≡ place → GaveUp first now at → GaveUp first now place
gave_at first now at place same gave = subst (λ (p : Place). GaveUp first now p) same gave

-- ## What is told further

pub gave_more : (first now now2 : Option (List Polled)) (place : Place) (answer : Polled) → Notes now now2 answer → GaveUp first now place → GaveUp first now2 place
gave_more first now now2 place answer notes gave = record {
  before = gave.before;
  text = gave.text;
  later = gave.later ++ answer ∷ [];
  told = subst (λ (given : List Polled). TellsSo first now2 given) (append_assoc gave.before (answers.Bytes place gave.text ∷ gave.later) (answer ∷ []))
      (tells_more first now now2 (gave.before ++ answers.Bytes place gave.text ∷ gave.later) answer gave.told notes);
  heard = gave.heard;
  kept = gave.kept;
  heard_is = gave.heard_is;
  made = gave.made;
  breaks = gave.breaks;
}

pub gave_on : (first : Option (List Polled)) (old new : EdgeState) (place : Place) → TellsOn old new → GaveUp first old.polled place → GaveUp first new.polled place
unfolding TellsOn
gave_on first old new place (inl same) gave = subst (λ (now : Option (List Polled)). GaveUp first now place) (sym same) gave
gave_on first old new place (inr (answer, notes)) gave = gave_more first old.polled new.polled place answer notes gave

polled-by : (old new : EdgeState) (answer : Got) (room : List ℕ) (closed : Bool) → old.is_closed ≡ closed → Polls old new answer room → TellsOn old new
unfolding TellsOn
polled-by old new answer room true closed polls = inl (polls.told.1 closed)
polled-by old new answer room false closed polls = inr (polled_of answer room, notes_of old.polled new.polled (polled_of answer room) (polls.told.0 closed))

-- a poll tells its answer, or nothing
pub polls_on : (old new : EdgeState) (answer : Got) (room : List ℕ) → Polls old new answer room → TellsOn old new
polls_on old new answer room polls = polled-by old new answer room old.is_closed refl polls

-- a put tells its failure, or nothing
pub tried_on : (old new : EdgeState) (to : Place) (before after : Owing) (answer : Put) → Tried old new to before after answer → TellsOn old new
unfolding TellsOn
tried_on old new to before after (put.Wrote count) tried = inl tried.tells
tried_on old new to before after put.NotYet tried = inl tried.tells
tried_on old new to before after put.Failed tried = inr (answers.Failed to, tried.tells)
