-- The steps that the bytes of an answer make, one by one.
use Rattle.std.proofs.Common.{◌≡◌, ℕ, Bool, true, false, Option, List, [], ◌∷◌, ◌++◌, refl, ap, sym, ◌∙◌, subst, if◌then◌else◌, append_assoc}
use Rattle.std.specs.Prelude.{drop}
use Rattle.std.proofs.lemmas.List.{append-nil, map-append}
use Rattle.sc_tokens.specs.Bytes.{Bytes}
use Rattle.sc_value.specs.declared.ids.Place.{Place}
use Rattle.sc_value.specs.declared.message.Message.{Message}
use Rattle.sc_value.specs.declared.message.Sent.{Sent}
use Rattle.sc_value.specs.Places.{same_place}
use Rattle.sc_terms.specs.declared.steps.Bad.{Bad}
use Rattle.sc_terms.specs.declared.steps.Step.{Step}
use Rattle.sc_terms.specs.declared.steps.Step.TheVariants as steps
use Rattle.sc_edge.specs.Telling.{Notes}
use Rattle.sc_edge.specs.declared.edge.Polled.{Polled}
use Rattle.sc_edge.specs.declared.edge.Polled.TheVariants as answers
use Rattle.sc_syntax.specs.declared.front.Front.TheVariants as fronts
use Rattle.sc_syntax.specs.Fronts.{behind_breaks}
use Rattle.sc_stream.specs.Frames.{front_behind}
use Rattle.sc_value.proofs.PlaceLaws.{same_place-is, same_place-self}
use Rattle.sc_runs.specs.Following.{IsKept, Streams, no_bytes}
use Rattle.sc_runs.specs.Heard.{AllKept, Makes, MakesPart}
use Rattle.sc_runs.specs.Hearing.{Hears, HearsPart, IsBad}
use Rattle.sc_outs.specs.Deeds.{Deed}
use Rattle.sc_courses.specs.Marks.{HeardTo, HeardUpto, Hearing, HearingPart, HearsOn, Mark, heard_of, is_failure, is_heard, marks}
use Rattle.sc_courses.proofs.HeardLaws.{heard_append, heard_cut, heard_snoc, tells_more}

-- ## Of one place

pub kept_here : (before : Streams) (place : Place) (bytes : Bytes) (after : Streams) → IsKept before place bytes after → after place ≡ bytes
unfolding IsKept
kept_here before place bytes after kept = kept place ∙ ap (λ (b : Bool). if b then bytes else before place) (same_place-self place)

pub kept_there : (before : Streams) (place other : Place) (bytes : Bytes) (after : Streams) → IsKept before place bytes after → same_place other place ≡ false → after other ≡ before other
unfolding IsKept
kept_there before place other bytes after kept apart = kept other ∙ ap (λ (b : Bool). if b then bytes else before other) apart

-- ## The beginning

pub hears_begin : (first old new : Option (List Polled)) (deeds : List Deed) (streams streams2 : Streams) (place : Place) (text : Bytes) → Hearing first old deeds streams → Notes old new (answers.Bytes place text)
    → IsKept streams place (streams place ++ text) streams2 → HearsOn first new deeds streams2 place text
unfolding marks
hears_begin first old new deeds streams streams2 place text hearing notes kept = record {
  given = hearing.given;
  before = heard_of deeds;
  mid = streams;
  done = [];
  told = tells_more first old new hearing.given (answers.Bytes place text) hearing.told notes;
  heard = hearing.heard;
  deeds_are = sym (append-nil (heard_of deeds));
  on = λ made rest hears. subst (λ (x : Bytes). Hears place x made rest) (kept_here streams place (streams place ++ text) streams2 kept) hears;
  part = λ made hears. subst (λ (x : Bytes). HearsPart place x made) (kept_here streams place (streams place ++ text) streams2 kept) hears;
  others = λ other apart. kept_there streams place other (streams place ++ text) streams2 kept apart;
}

-- ## A message

-- a step that was heard, and that is no loss of a place that failed
abbrev pub heard_deed : Step → List Sent → Deed
heard_deed step sent = record { step = step; sent = sent; failed = false }

one-mark : (place : Place) (text : Bytes) (step : Step) (sent : List Sent) → is_heard step ≡ true → heard_of (heard_deed step sent ∷ []) ≡ marks (answers.Bytes place text) (step ∷ [])
unfolding heard_of marks is_failure
one-mark place text step sent is = rw is refl

one-more : (place : Place) (text : Bytes) (deeds : List Deed) (before : List Mark) (done : List Step) (step : Step) (sent : List Sent) → is_heard step ≡ true → heard_of deeds ≡ before ++ marks (answers.Bytes place text) done
    → heard_of (deeds ++ heard_deed step sent ∷ []) ≡ before ++ marks (answers.Bytes place text) (done ++ step ∷ [])
unfolding marks
one-more place text deeds before done step sent is e =
    heard_append deeds (heard_deed step sent ∷ []) ∙ (rw (e, one-mark place text step sent is) (append_assoc before _ _ ∙ ap (λ (ms : List Mark). before ++ ms) (sym (map-append _ done (step ∷ [])))))

message-on : (place : Place) (bytes : Bytes) (len : ℕ) (message : Message) (made : List Step) (rest : Bytes) → front_behind bytes ≡ fronts.Whole len message → Hears place (drop len (behind_breaks bytes)) made rest → Hears place bytes (steps.In place message ∷ made) rest
unfolding Hears
message-on place bytes len message made rest front later = (len, refl, front, later)

message-part : (place : Place) (bytes : Bytes) (len : ℕ) (message : Message) (made : List Step) → front_behind bytes ≡ fronts.Whole len message → HearsPart place (drop len (behind_breaks bytes)) made → HearsPart place bytes (steps.In place message ∷ made)
unfolding HearsPart
message-part place bytes len message made front later = (len, refl, front, later)

message-heard : (place : Place) (message : Message) → is_heard (steps.In place message) ≡ true
unfolding is_heard
message-heard place message = refl

pub hears_message : (first now : Option (List Polled)) (deeds : List Deed) (streams streams2 : Streams) (place : Place) (text : Bytes) (len : ℕ) (message : Message) (sent : List Sent) → front_behind (streams place) ≡ fronts.Whole len message
    → IsKept streams place (drop len (behind_breaks (streams place))) streams2 → HearsOn first now deeds streams place text → HearsOn first now (deeds ++ heard_deed (steps.In place message) sent ∷ []) streams2 place text
hears_message first now deeds streams streams2 place text len message sent front kept h = record {
  given = h.given;
  before = h.before;
  mid = h.mid;
  done = h.done ++ steps.In place message ∷ [];
  told = h.told;
  heard = h.heard;
  deeds_are = one-more place text deeds h.before h.done (steps.In place message) sent (message-heard place message) h.deeds_are;
  on = λ made rest hears.
      subst (λ (xs : List Step). Hears place (h.mid place ++ text) xs rest) (sym (append_assoc h.done (steps.In place message ∷ []) made))
      (h.on (steps.In place message ∷ made) rest (message-on place (streams place) len message made rest front
      (subst (λ (x : Bytes). Hears place x made rest) (kept_here streams place (drop len (behind_breaks (streams place))) streams2 kept) hears)));
  part = λ made hears.
      subst (λ (xs : List Step). HearsPart place (h.mid place ++ text) xs) (sym (append_assoc h.done (steps.In place message ∷ []) made))
      (h.part (steps.In place message ∷ made) (message-part place (streams place) len message made front
      (subst (λ (x : Bytes). HearsPart place x made) (kept_here streams place (drop len (behind_breaks (streams place))) streams2 kept) hears)));
  others = λ other apart. kept_there streams place other (drop len (behind_breaks (streams place))) streams2 kept apart ∙ h.others other apart;
}

-- ## The end of an answer

open-hears : (place : Place) (bytes : Bytes) → front_behind bytes ≡ fronts.Open → Hears place bytes [] bytes
unfolding Hears
open-hears place bytes front = (front, refl)

pub long-hears : (place : Place) (bytes : Bytes) → front_behind bytes ≡ fronts.Long → Hears place bytes (steps.Lost place ∷ []) []
unfolding Hears
long-hears place bytes front = (refl, front, refl)

pub bad-hears : (place : Place) (bytes : Bytes) (bad : Bad) → IsBad bytes bad → Hears place bytes (steps.Bad place bad ∷ steps.Lost place ∷ []) []
unfolding Hears
bad-hears place bytes bad is = (refl, refl, is, refl)

others-by : (before after : Streams) (place other : Place) (b : Bool) → same_place other place ≡ b → ((q : Place) → same_place q place ≡ false → after q ≡ before q) → after other ≡ (if b then after place else before other)
others-by before after place other true e others = ap after (same_place-is other place e)
others-by before after place other false e others = others other e

kept-of : (before after : Streams) (place : Place) → ((q : Place) → same_place q place ≡ false → after q ≡ before q) → IsKept before place (after place) after
unfolding IsKept
kept-of before after place others other = others-by before after place other (same_place other place) refl others

makes-bytes : (kept : Streams) (place : Place) (text : Bytes) (made : List Step) (rest : Bytes) (after : Streams) → Hears place (kept place ++ text) made rest → IsKept kept place rest after → Makes kept (answers.Bytes place text) made after
unfolding Makes
makes-bytes kept place text made rest after hears is = (rest, hears, is)

-- all was heard of the answer
heard-all : (first now : Option (List Polled)) (deeds deeds2 : List Deed) (streams after : Streams) (place : Place) (text : Bytes) (made : List Step) (rest : Bytes) (h : HearsOn first now deeds streams place text) → Hears place (streams place) made rest
    → heard_of deeds2 ≡ h.before ++ marks (answers.Bytes place text) (h.done ++ made) → IsKept h.mid place rest after → Hearing first now deeds2 after
heard-all first now deeds deeds2 streams after place text made rest h hears e kept = record {
  given = h.given ++ answers.Bytes place text ∷ [];
  told = h.told;
  heard = subst (λ (ms : List Mark). HeardTo no_bytes (h.given ++ answers.Bytes place text ∷ []) ms after) (sym e)
      (heard_snoc no_bytes h.given (answers.Bytes place text) h.before (h.done ++ made) h.mid after h.heard (makes-bytes h.mid place text (h.done ++ made) rest after (h.on made rest hears) kept));
}

none-done : (first now : Option (List Polled)) (deeds : List Deed) (streams : Streams) (place : Place) (text : Bytes) (h : HearsOn first now deeds streams place text) → heard_of deeds ≡ h.before ++ marks (answers.Bytes place text) (h.done ++ [])
none-done first now deeds streams place text h = h.deeds_are ∙ ap (λ (xs : List Step). h.before ++ marks (answers.Bytes place text) xs) (sym (append-nil h.done))

pub hears_open : (first now : Option (List Polled)) (deeds : List Deed) (streams : Streams) (place : Place) (text : Bytes) → front_behind (streams place) ≡ fronts.Open → HearsOn first now deeds streams place text → Hearing first now deeds streams
hears_open first now deeds streams place text front h =
    heard-all first now deeds deeds streams streams place text [] (streams place) h (open-hears place (streams place) front) (none-done first now deeds streams place text h) (kept-of h.mid streams place h.others)

empty-by : (before streams after : Streams) (place other : Place) (b : Bool) → same_place other place ≡ b → after other ≡ (if b then [] else streams other) → ((q : Place) → same_place q place ≡ false → streams q ≡ before q) → after other ≡ (if b then [] else before other)
empty-by before streams after place other true e is others = is
empty-by before streams after place other false e is others = is ∙ others other e

empty-of : (before streams after : Streams) (place : Place) → IsKept streams place [] after → ((q : Place) → same_place q place ≡ false → streams q ≡ before q) → IsKept before place [] after
unfolding IsKept
empty-of before streams after place kept others other = empty-by before streams after place other (same_place other place) refl (kept other) others

lost-heard : (place : Place) → is_heard (steps.Lost place) ≡ true
unfolding is_heard
lost-heard place = refl

bad-heard : (place : Place) (bad : Bad) → is_heard (steps.Bad place bad) ≡ true
unfolding is_heard
bad-heard place bad = refl

pub hears_long : (first now : Option (List Polled)) (deeds : List Deed) (streams streams2 : Streams) (place : Place) (text : Bytes) (sent : List Sent) → front_behind (streams place) ≡ fronts.Long → IsKept streams place [] streams2
    → HearsOn first now deeds streams place text → Hearing first now (deeds ++ heard_deed (steps.Lost place) sent ∷ []) streams2
hears_long first now deeds streams streams2 place text sent front kept h =
    heard-all first now deeds (deeds ++ heard_deed (steps.Lost place) sent ∷ []) streams streams2 place text (steps.Lost place ∷ []) [] h (long-hears place (streams place) front)
    (one-more place text deeds h.before h.done (steps.Lost place) sent (lost-heard place) h.deeds_are) (empty-of h.mid streams streams2 place kept h.others)

bad-done : (place : Place) (text : Bytes) (deeds : List Deed) (before : List Mark) (done : List Step) (bad : Bad) (sent sent2 : List Sent) → heard_of deeds ≡ before ++ marks (answers.Bytes place text) done
    → heard_of ((deeds ++ heard_deed (steps.Bad place bad) sent ∷ []) ++ heard_deed (steps.Lost place) sent2 ∷ []) ≡ before ++ marks (answers.Bytes place text) (done ++ steps.Bad place bad ∷ steps.Lost place ∷ [])
bad-done place text deeds before done bad sent sent2 e =
    one-more place text (deeds ++ heard_deed (steps.Bad place bad) sent ∷ []) before (done ++ steps.Bad place bad ∷ []) (steps.Lost place) sent2 (lost-heard place) (one-more place text deeds before done (steps.Bad place bad) sent (bad-heard place bad) e)
    ∙ ap (λ (xs : List Step). before ++ marks (answers.Bytes place text) xs) (append_assoc done (steps.Bad place bad ∷ []) (steps.Lost place ∷ []))

pub hears_bad : (first now : Option (List Polled)) (deeds : List Deed) (streams streams2 : Streams) (place : Place) (text : Bytes) (bad : Bad) (sent sent2 : List Sent) → IsBad (streams place) bad → IsKept streams place [] streams2
    → HearsOn first now deeds streams place text → Hearing first now ((deeds ++ heard_deed (steps.Bad place bad) sent ∷ []) ++ heard_deed (steps.Lost place) sent2 ∷ []) streams2
hears_bad first now deeds streams streams2 place text bad sent sent2 is kept h =
    heard-all first now deeds ((deeds ++ heard_deed (steps.Bad place bad) sent ∷ []) ++ heard_deed (steps.Lost place) sent2 ∷ []) streams streams2 place text (steps.Bad place bad ∷ steps.Lost place ∷ []) [] h (bad-hears place (streams place) bad is)
    (bad-done place text deeds h.before h.done bad sent sent2 h.deeds_are) (empty-of h.mid streams streams2 place kept h.others)

-- ## The run ends within the answer

part-makes : (kept : Streams) (place : Place) (text : Bytes) (made : List Step) → HearsPart place (kept place ++ text) made → MakesPart kept (answers.Bytes place text) made
unfolding MakesPart
part-makes kept place text [] part = tt
part-makes kept place text (s ∷ ss) part = part

none-more : (place : Place) (bytes : Bytes) → HearsPart place bytes []
unfolding HearsPart
none-more place bytes = tt

bad-more : (place : Place) (bytes : Bytes) (bad : Bad) → IsBad bytes bad → HearsPart place bytes (steps.Bad place bad ∷ [])
unfolding HearsPart
bad-more place bytes bad is = (refl, is)

part-same : (place : Place) (text : Bytes) (made : List Step) (kept mid : Streams) → AllKept kept mid → HearsPart place (mid place ++ text) made → HearsPart place (kept place ++ text) made
unfolding AllKept
part-same place text made kept mid same part = subst (λ (x : Bytes). HearsPart place (x ++ text) made) (same place) part

part-of : (first now : Option (List Polled)) (deeds deeds2 : List Deed) (streams : Streams) (place : Place) (text : Bytes) (made : List Step) (h : HearsOn first now deeds streams place text) → HearsPart place (streams place) made
    → heard_of deeds2 ≡ h.before ++ marks (answers.Bytes place text) (h.done ++ made) → HearingPart first now deeds2
part-of first now deeds deeds2 streams place text made h part e = record {
  given = h.given ++ answers.Bytes place text ∷ [];
  told = h.told;
  heard = subst (λ (ms : List Mark). HeardUpto no_bytes (h.given ++ answers.Bytes place text ∷ []) ms) (sym e)
      (heard_cut no_bytes h.given (answers.Bytes place text) h.before (h.done ++ made) h.mid h.heard
      (λ kept same. part-makes kept place text (h.done ++ made) (part-same place text (h.done ++ made) kept h.mid same (h.part made part))));
}

pub hears_ended : (first now : Option (List Polled)) (deeds : List Deed) (streams : Streams) (place : Place) (text : Bytes) → HearsOn first now deeds streams place text → HearingPart first now deeds
hears_ended first now deeds streams place text h = part-of first now deeds deeds streams place text [] h (none-more place (streams place)) (none-done first now deeds streams place text h)

pub message_ended : (first now : Option (List Polled)) (deeds : List Deed) (streams : Streams) (place : Place) (text : Bytes) (len : ℕ) (message : Message) (sent : List Sent) → front_behind (streams place) ≡ fronts.Whole len message
    → HearsOn first now deeds streams place text → HearingPart first now (deeds ++ heard_deed (steps.In place message) sent ∷ [])
message_ended first now deeds streams place text len message sent front h =
    part-of first now deeds (deeds ++ heard_deed (steps.In place message) sent ∷ []) streams place text (steps.In place message ∷ []) h
    (message-part place (streams place) len message [] front (none-more place (drop len (behind_breaks (streams place)))))
    (one-more place text deeds h.before h.done (steps.In place message) sent (message-heard place message) h.deeds_are)

pub bad_ended : (first now : Option (List Polled)) (deeds : List Deed) (streams : Streams) (place : Place) (text : Bytes) (bad : Bad) (sent : List Sent) → IsBad (streams place) bad
    → HearsOn first now deeds streams place text → HearingPart first now (deeds ++ heard_deed (steps.Bad place bad) sent ∷ [])
bad_ended first now deeds streams place text bad sent is h =
    part-of first now deeds (deeds ++ heard_deed (steps.Bad place bad) sent ∷ []) streams place text (steps.Bad place bad ∷ []) h (bad-more place (streams place) bad is)
    (one-more place text deeds h.before h.done (steps.Bad place bad) sent (bad-heard place bad) h.deeds_are)

-- nothing is kept of the place, and of the others as before
pub emptied : Place → Streams → Streams
emptied at streams other = if same_place other at then [] else streams other

pub emptied_kept : (at : Place) (streams : Streams) → IsKept streams at [] (emptied at streams)
unfolding IsKept emptied
emptied_kept at streams other = refl
