-- The steps that the bytes of an answer make, one by one.
use Rattle.std.proofs.Common.{◌≡◌, ℕ, Bool, true, false, List, [], ◌∷◌, ◌++◌, refl, sym, ◌∙◌, ap, subst, if◌then◌else◌, inl, inr}
use Rattle.std.specs.Prelude.{◌⊎◌, drop, Result, Ok, Err, OnOk, OnErr, IfOk}
use Rattle.sc_tokens.specs.Bytes.{Bytes}
use Rattle.sc_value.specs.declared.ids.Place.{Place}
use Rattle.sc_value.specs.declared.message.Message.{Message}
use Rattle.sc_value.specs.declared.message.Sent.{Sent}
use Rattle.sc_value.specs.Places.{same_place}
use Rattle.sc_value.proofs.PlaceLaws.{same_place-is}
use Rattle.sc_terms.specs.declared.steps.Bad.{Bad}
use Rattle.sc_terms.specs.declared.steps.Step.TheVariants as steps
use Rattle.sc_syntax.specs.declared.front.Front.TheVariants as fronts
use Rattle.sc_syntax.specs.Fronts.{behind_breaks}
use Rattle.sc_stream.specs.Frames.{front_behind}
use Rattle.sc_stream.specs.Hearing.{Hears as HearsNext}
use Rattle.sc_stream.specs.declared.streams.Heard.{Heard}
use Rattle.sc_stream.specs.declared.streams.Heard.TheVariants as heard
use Rattle.sc_hosts.specs.Runs.{HasVia}
use Rattle.sc_edge.specs.Edges.{EdgeState}
use Rattle.sc_edge.specs.declared.edge.Polled.TheVariants as answers
use Rattle.sc_runs.specs.Following.{IsKept, Streams}
use Rattle.sc_runs.specs.Hearing.{Hears, HearsPart, IsBad}
use Rattle.sc_outs.specs.Deeds.{Deed}
use Rattle.sc_switch.specs.Standing.{Known}
use Rattle.sc_courses.specs.Courses.{Beginning, Told}
use Rattle.sc_courses.proofs.HeardLaws.{hearing_part}
use Rattle.sc_courses.proofs.OnLaws.{bad_ended, emptied, emptied_kept, hears_bad, hears_begin, hears_ended, hears_long, hears_message, hears_open, message_ended}
use Rattle.sc_rounds.specs.declared.stepping.Core.{Core}
use Rattle.sc_streams.specs.declared.streams.Pending.{Pending}
use Rattle.sc_rounds.specs.Hearing.{BrokeOff, BrokeUpto}
use Rattle.sc_rounds.specs.Polling.{Comes}
use Rattle.sc_rounds.specs.Serving.{Ended, Ends, Serves, ServesMore, ServesOn, Stopped, Took, deed}
use Rattle.sc_streams.specs.Streaming.{bytes_of}
use Rattle.sc_rounds.proofs.Servings.{stands_ended, stands_on}
use Rattle.sc_runs.proofs.Vias.{heard_via}

-- ## Where bytes come

pub on_start : (from : Beginning) (old new : EdgeState) (told : Told) (core : Core) (streams streams2 : List Pending) (place : Place) (text : Bytes) → Comes old new (answers.Bytes place text)
    → IsKept (bytes_of streams) place (bytes_of streams place ++ text) (bytes_of streams2) → Serves from old told core streams → ServesOn from new told core streams2 place text
on_start from old new told core streams streams2 place text comes kept s = record {
  deeds = s.deeds;
  stands = stands_on from old new told core s.deeds comes.took s.stands;
  on = hears_begin from.edge.polled old.polled new.polled s.deeds (bytes_of streams) (bytes_of streams2) place text s.hearing comes.notes kept;
}

-- ## Where nothing was taken from a stream

unchanged-by : (before after : Streams) (place other : Place) (same : Bool) → same_place other place ≡ same → after place ≡ before place → after other ≡ (if same then after place else before other) → after other ≡ before other
unchanged-by before after place other true e here kept = kept ∙ (here ∙ ap before (sym (same_place-is other place e)))
unchanged-by before after place other false e here kept = kept

unchanged : (before after : Streams) (place : Place) → after place ≡ before place → IsKept before place (after place) after → (other : Place) → after other ≡ before other
unfolding IsKept
unchanged before after place here kept other = unchanged-by before after place other (same_place other place) refl here (kept other)

on-same : (from : Beginning) (edge : EdgeState) (told : Told) (core : Core) (streams streams2 : List Pending) (place : Place) (text : Bytes) → bytes_of streams2 place ≡ bytes_of streams place → IsKept (bytes_of streams) place (bytes_of streams2 place) (bytes_of streams2)
    → ServesOn from edge told core streams place text → ServesOn from edge told core streams2 place text
on-same from edge told core streams streams2 place text same kept s = record {
  deeds = s.deeds;
  stands = s.stands;
  on = record {
    given = s.on.given;
    before = s.on.before;
    mid = s.on.mid;
    done = s.on.done;
    told = s.on.told;
    heard = s.on.heard;
    deeds_are = s.on.deeds_are;
    on = λ made rest hears. s.on.on made rest (subst (λ (bytes : Bytes). Hears place bytes made rest) same hears);
    part = λ made hears. s.on.part made (subst (λ (bytes : Bytes). HearsPart place bytes made) same hears);
    others = λ other apart. unchanged (bytes_of streams) (bytes_of streams2) place same kept other ∙ s.on.others other apart;
  };
}

pub on_ended : (from : Beginning) (edge : EdgeState) (told : Told) (core : Core) (streams : List Pending) (place : Place) (text : Bytes) → ServesOn from edge told core streams place text → Ended from edge told core.switch
on_ended from edge told core streams place text s = record {
  deeds = s.deeds;
  ends = stands_ended from edge told core s.deeds s.stands;
  hearing = hears_ended from.edge.polled edge.polled s.deeds (bytes_of streams) place text s.on;
}

pub on_open : (from : Beginning) (edge : EdgeState) (told : Told) (core : Core) (streams streams2 : List Pending) (place : Place) (text : Bytes) (h : Heard) → h ≡ heard.NotYet → HearsNext h (bytes_of streams place) (bytes_of streams2 place)
    → IsKept (bytes_of streams) place (bytes_of streams2 place) (bytes_of streams2) → ServesOn from edge told core streams place text → Serves from edge told core streams2
on_open from edge told core streams streams2 place text h is hears kept s =
    let (front, same) = rw is at hears in
    let s2 : ServesOn from edge told core streams2 place text = on-same from edge told core streams streams2 place text same kept s in record {
      deeds = s2.deeds;
      stands = s2.stands;
      hearing = hears_open from.edge.polled edge.polled s2.deeds (bytes_of streams2) place text (ap front_behind same ∙ front) s2.on;
    }

-- ## A message

pub some_via : (message : Message) (before after : Bytes) (h : Heard) → h ≡ heard.Message message → HearsNext h before after → HasVia message
some_via message before after h is hears = let (len, front, rest) = rw is at hears in heard_via before len message front

message-on : (from : Beginning) (edge : EdgeState) (told told2 : Told) (core core2 : Core) (streams streams2 : List Pending) (place : Place) (text : Bytes) (message : Message) (len : ℕ) → front_behind (bytes_of streams place) ≡ fronts.Whole len message
    → IsKept (bytes_of streams) place (drop len (behind_breaks (bytes_of streams place))) (bytes_of streams2) → Took (steps.In place message) false core core2 told told2 → ServesOn from edge told core streams place text → ServesOn from edge told2 core2 streams2 place text
unfolding Took
message-on from edge told told2 core core2 streams streams2 place text message len front kept took s =
    let (sent, stands) = took from edge s.deeds s.stands in record {
      deeds = s.deeds ++ deed (steps.In place message) sent false ∷ [];
      stands = stands;
      on = hears_message from.edge.polled edge.polled s.deeds (bytes_of streams) (bytes_of streams2) place text len message sent front kept s.on;
    }

pub message_on : {E : Type 0} (r : Result Bool E) (from : Beginning) (edge : EdgeState) (told told2 : Told) (core core2 : Core) (streams streams2 : List Pending) (place : Place) (text : Bytes) (message : Message) (h : Heard) → h ≡ heard.Message message → HearsNext h (bytes_of streams place) (bytes_of streams2 place)
    → IsKept (bytes_of streams) place (bytes_of streams2 place) (bytes_of streams2) → IfOk r (λ more. more ≡ true) → OnOk r (Took (steps.In place message) false core core2 told told2)
    → ServesOn from edge told core streams place text → IfOk r (λ more. ServesMore from edge told2 core2 streams2 place text more)
unfolding ServesMore
message_on (Ok more) from edge told told2 core core2 streams streams2 place text message h is hears kept whole took s =
    let (len, front, rest) = rw is at hears in
    rw whole (message-on from edge told told2 core core2 streams streams2 place text message len front (subst (λ (bytes : Bytes). IsKept (bytes_of streams) place bytes (bytes_of streams2)) rest kept) took s)
message_on (Err cause) from edge told told2 core core2 streams streams2 place text message h is hears kept whole took s = tt

message-ended : (from : Beginning) (edge : EdgeState) (told told2 : Told) (core core2 : Core) (streams : List Pending) (place : Place) (text : Bytes) (message : Message) (len : ℕ) → front_behind (bytes_of streams place) ≡ fronts.Whole len message → (s : ServesOn from edge told core streams place text)
    → Ends from edge told2 core2.switch s.deeds ⊎ ((sent : List Sent) × Ends from edge told2 core2.switch (s.deeds ++ deed (steps.In place message) sent false ∷ [])) → Ended from edge told2 core2.switch
message-ended from edge told told2 core core2 streams place text message len front s (inl ends) = record { deeds = s.deeds; ends = ends; hearing = hears_ended from.edge.polled edge.polled s.deeds (bytes_of streams) place text s.on }
message-ended from edge told told2 core core2 streams place text message len front s (inr (sent, ends)) = record {
  deeds = s.deeds ++ deed (steps.In place message) sent false ∷ [];
  ends = ends;
  hearing = message_ended from.edge.polled edge.polled s.deeds (bytes_of streams) place text len message sent front s.on;
}

pub message_err : {E : Type 0} (r : Result Bool E) (from : Beginning) (edge : EdgeState) (told told2 : Told) (core core2 : Core) (streams : List Pending) (place : Place) (text : Bytes) (message : Message) (after : Bytes) (h : Heard) → h ≡ heard.Message message → HearsNext h (bytes_of streams place) after
    → OnErr r (Stopped (steps.In place message) false core core2 told told2) → ServesOn from edge told core streams place text → OnErr r (Ended from edge told2 core2.switch)
unfolding Stopped
message_err (Ok more) from edge told told2 core core2 streams place text message after h is hears stopped s = tt
message_err (Err cause) from edge told told2 core core2 streams place text message after h is hears stopped s =
    let (len, front, rest) = rw is at hears in message-ended from edge told told2 core core2 streams place text message len front s (stopped from edge s.deeds s.stands)

-- ## A text that is no message

-- a step and the loss behind it
pub broke_off : (at : Place) (bad : Bad) (old mid new : Core) (told told1 told2 : Told) → Took (steps.Bad at bad) false old mid told told1 → Took (steps.Lost at) false mid new told1 told2 → BrokeOff at bad old new told told2
unfolding BrokeOff Took
broke_off at bad old mid new told told1 told2 first later from edge deeds s =
    let (sent, s1) = first from edge deeds s in
    let (sent2, s2) = later from edge (deeds ++ deed (steps.Bad at bad) sent false ∷ []) s1 in
    (sent, sent2, s2)

upto-first : (from : Beginning) (edge : EdgeState) (told2 : Told) (known : Known) (at : Place) (bad : Bad) (deeds : List Deed) → Ends from edge told2 known deeds ⊎ ((sent : List Sent) × Ends from edge told2 known (deeds ++ deed (steps.Bad at bad) sent false ∷ []))
    → Ends from edge told2 known deeds ⊎ (((sent : List Sent) × Ends from edge told2 known (deeds ++ deed (steps.Bad at bad) sent false ∷ []))
    ⊎ ((sent : List Sent) × (sent2 : List Sent) × Ends from edge told2 known ((deeds ++ deed (steps.Bad at bad) sent false ∷ []) ++ deed (steps.Lost at) sent2 false ∷ [])))
upto-first from edge told2 known at bad deeds (inl ends) = inl ends
upto-first from edge told2 known at bad deeds (inr ends) = inr (inl ends)

pub broke_first : (at : Place) (bad : Bad) (old new : Core) (told told2 : Told) → Stopped (steps.Bad at bad) false old new told told2 → BrokeUpto at bad old new told told2
unfolding BrokeUpto Stopped
broke_first at bad old new told told2 stopped from edge deeds s = upto-first from edge told2 new.switch at bad deeds (stopped from edge deeds s)

upto-later : (from : Beginning) (edge : EdgeState) (told2 : Told) (known : Known) (at : Place) (bad : Bad) (deeds : List Deed) (sent : List Sent)
    → Ends from edge told2 known (deeds ++ deed (steps.Bad at bad) sent false ∷ []) ⊎ ((sent2 : List Sent) × Ends from edge told2 known ((deeds ++ deed (steps.Bad at bad) sent false ∷ []) ++ deed (steps.Lost at) sent2 false ∷ []))
    → Ends from edge told2 known deeds ⊎ (((sent : List Sent) × Ends from edge told2 known (deeds ++ deed (steps.Bad at bad) sent false ∷ []))
    ⊎ ((sent : List Sent) × (sent2 : List Sent) × Ends from edge told2 known ((deeds ++ deed (steps.Bad at bad) sent false ∷ []) ++ deed (steps.Lost at) sent2 false ∷ [])))
upto-later from edge told2 known at bad deeds sent (inl ends) = inr (inl (sent, ends))
upto-later from edge told2 known at bad deeds sent (inr (sent2, ends)) = inr (inr (sent, sent2, ends))

pub broke_later : (at : Place) (bad : Bad) (old mid new : Core) (told told1 told2 : Told) → Took (steps.Bad at bad) false old mid told told1 → Stopped (steps.Lost at) false mid new told1 told2 → BrokeUpto at bad old new told told2
unfolding BrokeUpto Took Stopped
broke_later at bad old mid new told told1 told2 first stopped from edge deeds s =
    let (sent, s1) = first from edge deeds s in
    upto-later from edge told2 new.switch at bad deeds sent (stopped from edge (deeds ++ deed (steps.Bad at bad) sent false ∷ []) s1)

bad-on : (from : Beginning) (edge : EdgeState) (told told2 : Told) (core core2 : Core) (streams streams2 : List Pending) (place : Place) (text : Bytes) (bad : Bad) → IsBad (bytes_of streams place) bad → IsKept (bytes_of streams) place [] (bytes_of streams2)
    → BrokeOff place bad core core2 told told2 → ServesOn from edge told core streams place text → Serves from edge told2 core2 streams2
unfolding BrokeOff
bad-on from edge told told2 core core2 streams streams2 place text bad is kept broke s =
    let (sent, sent2, stands) = broke from edge s.deeds s.stands in record {
      deeds = (s.deeds ++ deed (steps.Bad place bad) sent false ∷ []) ++ deed (steps.Lost place) sent2 false ∷ [];
      stands = stands;
      hearing = hears_bad from.edge.polled edge.polled s.deeds (bytes_of streams) (bytes_of streams2) place text bad sent sent2 is kept s.on;
    }

bad-is : (bad : Bad) (before after : Bytes) → HearsNext (heard.Bad bad) before after → IsBad after bad
unfolding IsBad
bad-is bad before after (front, same) = ap front_behind same ∙ front

pub bad_on : {E : Type 0} (r : Result Bool E) (from : Beginning) (edge : EdgeState) (told told2 : Told) (core core2 : Core) (streams streams2 streams3 : List Pending) (place : Place) (text : Bytes) (bad : Bad) (h : Heard) → h ≡ heard.Bad bad → HearsNext h (bytes_of streams place) (bytes_of streams2 place)
    → IsKept (bytes_of streams) place (bytes_of streams2 place) (bytes_of streams2) → IsKept (bytes_of streams2) place [] (bytes_of streams3) → IfOk r (λ more. more ≡ false) → OnOk r (BrokeOff place bad core core2 told told2)
    → ServesOn from edge told core streams place text → IfOk r (λ more. ServesMore from edge told2 core2 streams3 place text more)
unfolding ServesMore
bad_on (Ok more) from edge told told2 core core2 streams streams2 streams3 place text bad h is hears kept emptied last broke s =
    let next : HearsNext (heard.Bad bad) (bytes_of streams place) (bytes_of streams2 place) = rw is at hears in
    rw last (bad-on from edge told told2 core core2 streams2 streams3 place text bad (bad-is bad (bytes_of streams place) (bytes_of streams2 place) next) emptied broke (on-same from edge told core streams streams2 place text next.1 kept s))
bad_on (Err cause) from edge told told2 core core2 streams streams2 streams3 place text bad h is hears kept emptied last broke s = tt

bad-ended : (from : Beginning) (edge : EdgeState) (told told2 : Told) (core core2 : Core) (streams : List Pending) (place : Place) (text : Bytes) (bad : Bad) → IsBad (bytes_of streams place) bad → (s : ServesOn from edge told core streams place text)
    → Ends from edge told2 core2.switch s.deeds ⊎ (((sent : List Sent) × Ends from edge told2 core2.switch (s.deeds ++ deed (steps.Bad place bad) sent false ∷ []))
    ⊎ ((sent : List Sent) × (sent2 : List Sent) × Ends from edge told2 core2.switch ((s.deeds ++ deed (steps.Bad place bad) sent false ∷ []) ++ deed (steps.Lost place) sent2 false ∷ [])))
    → Ended from edge told2 core2.switch
bad-ended from edge told told2 core core2 streams place text bad is s (inl ends) = record { deeds = s.deeds; ends = ends; hearing = hears_ended from.edge.polled edge.polled s.deeds (bytes_of streams) place text s.on }
bad-ended from edge told told2 core core2 streams place text bad is s (inr (inl (sent, ends))) = record {
  deeds = s.deeds ++ deed (steps.Bad place bad) sent false ∷ [];
  ends = ends;
  hearing = bad_ended from.edge.polled edge.polled s.deeds (bytes_of streams) place text bad sent is s.on;
}
bad-ended from edge told told2 core core2 streams place text bad is s (inr (inr (sent, sent2, ends))) = record {
  deeds = (s.deeds ++ deed (steps.Bad place bad) sent false ∷ []) ++ deed (steps.Lost place) sent2 false ∷ [];
  ends = ends;
  hearing = hearing_part from.edge.polled edge.polled ((s.deeds ++ deed (steps.Bad place bad) sent false ∷ []) ++ deed (steps.Lost place) sent2 false ∷ []) (emptied place (bytes_of streams))
      (hears_bad from.edge.polled edge.polled s.deeds (bytes_of streams) (emptied place (bytes_of streams)) place text bad sent sent2 is (emptied_kept place (bytes_of streams)) s.on);
}

pub bad_err : {E : Type 0} (r : Result Bool E) (from : Beginning) (edge : EdgeState) (told told2 : Told) (core core2 : Core) (streams streams2 : List Pending) (place : Place) (text : Bytes) (bad : Bad) (h : Heard) → h ≡ heard.Bad bad → HearsNext h (bytes_of streams place) (bytes_of streams2 place)
    → IsKept (bytes_of streams) place (bytes_of streams2 place) (bytes_of streams2) → OnErr r (BrokeUpto place bad core core2 told told2) → ServesOn from edge told core streams place text → OnErr r (Ended from edge told2 core2.switch)
unfolding BrokeUpto
bad_err (Ok more) from edge told told2 core core2 streams streams2 place text bad h is hears kept broke s = tt
bad_err (Err cause) from edge told told2 core core2 streams streams2 place text bad h is hears kept broke s =
    let next : HearsNext (heard.Bad bad) (bytes_of streams place) (bytes_of streams2 place) = rw is at hears in
    let s2 : ServesOn from edge told core streams2 place text = on-same from edge told core streams streams2 place text next.1 kept s in
    bad-ended from edge told told2 core core2 streams2 place text bad (bad-is bad (bytes_of streams place) (bytes_of streams2 place) next) s2 (broke from edge s2.deeds s2.stands)

-- ## A text that is too long

long-on : (from : Beginning) (edge : EdgeState) (told told2 : Told) (core core2 : Core) (streams streams2 : List Pending) (place : Place) (text : Bytes) → front_behind (bytes_of streams place) ≡ fronts.Long → IsKept (bytes_of streams) place [] (bytes_of streams2)
    → Took (steps.Lost place) false core core2 told told2 → ServesOn from edge told core streams place text → Serves from edge told2 core2 streams2
unfolding Took
long-on from edge told told2 core core2 streams streams2 place text front kept took s =
    let (sent, stands) = took from edge s.deeds s.stands in record {
      deeds = s.deeds ++ deed (steps.Lost place) sent false ∷ [];
      stands = stands;
      hearing = hears_long from.edge.polled edge.polled s.deeds (bytes_of streams) (bytes_of streams2) place text sent front kept s.on;
    }

pub long_on : {E : Type 0} (r : Result Bool E) (from : Beginning) (edge : EdgeState) (told told2 : Told) (core core2 : Core) (streams streams2 streams3 : List Pending) (place : Place) (text : Bytes) (h : Heard) → h ≡ heard.Long → HearsNext h (bytes_of streams place) (bytes_of streams2 place)
    → IsKept (bytes_of streams) place (bytes_of streams2 place) (bytes_of streams2) → IsKept (bytes_of streams2) place [] (bytes_of streams3) → IfOk r (λ more. more ≡ false) → OnOk r (Took (steps.Lost place) false core core2 told told2)
    → ServesOn from edge told core streams place text → IfOk r (λ more. ServesMore from edge told2 core2 streams3 place text more)
unfolding ServesMore
long_on (Ok more) from edge told told2 core core2 streams streams2 streams3 place text h is hears kept emptied last took s =
    let (front, same) = rw is at hears in
    rw last (long-on from edge told told2 core core2 streams2 streams3 place text (ap front_behind same ∙ front) emptied took (on-same from edge told core streams streams2 place text same kept s))
long_on (Err cause) from edge told told2 core core2 streams streams2 streams3 place text h is hears kept emptied last took s = tt

long-ended : (from : Beginning) (edge : EdgeState) (told told2 : Told) (core core2 : Core) (streams : List Pending) (place : Place) (text : Bytes) → front_behind (bytes_of streams place) ≡ fronts.Long → (s : ServesOn from edge told core streams place text)
    → Ends from edge told2 core2.switch s.deeds ⊎ ((sent : List Sent) × Ends from edge told2 core2.switch (s.deeds ++ deed (steps.Lost place) sent false ∷ [])) → Ended from edge told2 core2.switch
long-ended from edge told told2 core core2 streams place text front s (inl ends) = record { deeds = s.deeds; ends = ends; hearing = hears_ended from.edge.polled edge.polled s.deeds (bytes_of streams) place text s.on }
long-ended from edge told told2 core core2 streams place text front s (inr (sent, ends)) = record {
  deeds = s.deeds ++ deed (steps.Lost place) sent false ∷ [];
  ends = ends;
  hearing = hearing_part from.edge.polled edge.polled (s.deeds ++ deed (steps.Lost place) sent false ∷ []) (emptied place (bytes_of streams))
      (hears_long from.edge.polled edge.polled s.deeds (bytes_of streams) (emptied place (bytes_of streams)) place text sent front (emptied_kept place (bytes_of streams)) s.on);
}

pub long_err : {E : Type 0} (r : Result Bool E) (from : Beginning) (edge : EdgeState) (told told2 : Told) (core core2 : Core) (streams streams2 : List Pending) (place : Place) (text : Bytes) (h : Heard) → h ≡ heard.Long → HearsNext h (bytes_of streams place) (bytes_of streams2 place)
    → OnErr r (Stopped (steps.Lost place) false core core2 told told2) → ServesOn from edge told core streams place text → OnErr r (Ended from edge told2 core2.switch)
unfolding Stopped
long_err (Ok more) from edge told told2 core core2 streams streams2 place text h is hears stopped s = tt
long_err (Err cause) from edge told told2 core core2 streams streams2 place text h is hears stopped s =
    let (front, same) = rw is at hears in long-ended from edge told told2 core core2 streams place text front s (stopped from edge s.deeds s.stands)

-- ## As the loop goes on

pub goes_on : (from : Beginning) (edge : EdgeState) (told : Told) (core : Core) (streams : List Pending) (place : Place) (text : Bytes) (more : Bool) → ServesMore from edge told core streams place text more → more ≡ true → ServesOn from edge told core streams place text
unfolding ServesMore
goes_on from edge told core streams place text true s e = s
goes_on from edge told core streams place text false s e = cc

pub stops : (from : Beginning) (edge : EdgeState) (told : Told) (core : Core) (streams : List Pending) (place : Place) (text : Bytes) (more : Bool) → ServesMore from edge told core streams place text more → more ≡ false → Serves from edge told core streams
unfolding ServesMore
stops from edge told core streams place text true s e = cc
stops from edge told core streams place text false s e = s

pub on_any : {A E P : Type 0} (r : Result A E) → P → OnErr r P
on_any (Ok a) p = tt
on_any (Err e) p = p
