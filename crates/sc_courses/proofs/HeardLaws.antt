-- What the answers make, with one answer more.
use Rattle.std.proofs.Common.{◌≡◌, Bool, true, false, Option, Some, None, List, [], ◌∷◌, ◌++◌, refl, ap, sym, ◌∙◌, subst, cond, if◌then◌else◌, append_assoc, inl, inr}
use Rattle.std.specs.Prelude.{◌⊎◌, map, filter}
use Rattle.std.proofs.lemmas.List.{append-nil, map-append}
use Rattle.std.proofs.lemmas.List.Elements.{filter-append}
use Rattle.sc_tokens.specs.Bytes.{Bytes}
use Rattle.sc_value.specs.declared.ids.Place.{Place}
use Rattle.sc_value.specs.declared.message.Sent.{Sent}
use Rattle.sc_value.specs.Places.{same_place}
use Rattle.sc_terms.specs.declared.steps.Step.{Step}
use Rattle.sc_terms.specs.declared.steps.Step.TheVariants as steps
use Rattle.sc_edge.specs.Telling.{Notes}
use Rattle.sc_edge.specs.EdgeCalls.{Appends}
use Rattle.sc_edge.specs.declared.edge.Polled.{Polled}
use Rattle.sc_edge.specs.declared.edge.Polled.TheVariants as answers
use Rattle.sc_runs.specs.Following.{IsKept, Streams, no_bytes}
use Rattle.sc_runs.specs.Heard.{AllKept, Makes, MakesPart}
use Rattle.sc_runs.specs.Hearing.{Hears}
use Rattle.sc_outs.specs.Deeds.{Deed}
use Rattle.sc_courses.specs.Marks.{HeardTo, HeardUpto, Hearing, HearingPart, Mark, TellsSo, heard_by, heard_of, is_failure, is_heard, mark_of, marks}

-- ## One answer more

pub kept-same : (before before2 : Streams) (place : Place) (bytes : Bytes) (after : Streams) → AllKept before before2 → IsKept before2 place bytes after → IsKept before place bytes after
unfolding IsKept AllKept
kept-same before before2 place bytes after same kept other = kept other ∙ ap (λ (x : Bytes). if same_place other place then bytes else x) (same other)

pub makes-same : (kept kept2 : Streams) (answer : Polled) (made : List Step) (after : Streams) → AllKept kept kept2 → Makes kept2 answer made after → Makes kept answer made after
unfolding Makes AllKept
makes-same kept kept2 (answers.Bytes place text) made after same (rest, hears, is) = (rest, subst (λ (x : Bytes). Hears place (x ++ text) made rest) (same place) hears, kept-same kept kept2 place rest after same is)
makes-same kept kept2 (answers.End place) made after same (e, is) = (e, kept-same kept kept2 place [] after same is)
makes-same kept kept2 (answers.Failed place) made after same (e, is) = (e, kept-same kept kept2 place [] after same is)
makes-same kept kept2 answers.Closed made after same (e, is) = (e, λ place. is place ∙ same place)
makes-same kept kept2 answers.NotYet made after same (e, is) = (e, λ place. is place ∙ same place)
makes-same kept kept2 answers.Fault made after same (e, is) = (e, λ place. is place ∙ same place)

pub all-same : (kept : Streams) → AllKept kept kept
unfolding AllKept
all-same kept place = refl

pub heard_snoc : (kept : Streams) (given : List Polled) (answer : Polled) (taken : List Mark) (made : List Step) (mid after : Streams) → HeardTo kept given taken mid → Makes mid answer made after → HeardTo kept (given ++ answer ∷ []) (taken ++ marks answer made) after
unfolding HeardTo
heard_snoc kept [] answer taken made mid after (e, same) makes =
    (made, [], after, rw e (sym (append-nil (marks answer made))), makes-same kept mid answer made after same makes, (refl, all-same after))
heard_snoc kept (g ∷ given) answer taken made mid after (first, rest, next, e, makes_first, later) makes =
    (first, rest ++ marks answer made, next, rw e (append_assoc (marks g first) rest (marks answer made)), makes_first, heard_snoc next given answer rest made mid after later makes)

-- what was heard is a beginning
pub heard_whole : (kept : Streams) (given : List Polled) (taken : List Mark) (after : Streams) → HeardTo kept given taken after → HeardUpto kept given taken
unfolding HeardTo HeardUpto
heard_whole kept [] taken after (e, same) = e
heard_whole kept (g ∷ given) taken after (made, rest, mid, e, makes, later) = inr (made, rest, mid, e, makes, heard_whole mid given rest after later)

-- and of an answer more only a beginning was taken
pub heard_cut : (kept : Streams) (given : List Polled) (answer : Polled) (taken : List Mark) (made : List Step) (mid : Streams) → HeardTo kept given taken mid
    → ((kept2 : Streams) → AllKept kept2 mid → MakesPart kept2 answer made) → HeardUpto kept (given ++ answer ∷ []) (taken ++ marks answer made)
unfolding HeardTo HeardUpto
heard_cut kept [] answer taken made mid (e, same) part = inl (made, rw e refl, part kept same)
heard_cut kept (g ∷ given) answer taken made mid (first, rest, next, e, makes, later) part =
    inr (first, rest ++ marks answer made, next, rw e (append_assoc (marks g first) rest (marks answer made)), makes, heard_cut next given answer rest made mid later part)

none-part : (kept : Streams) (answer : Polled) → MakesPart kept answer []
unfolding MakesPart
none-part kept answer = tt

-- ## Deeds more

pub heard_append : (deeds more : List Deed) → heard_of (deeds ++ more) ≡ heard_of deeds ++ heard_of more
unfolding heard_of
heard_append deeds more = rw (filter-append heard_by deeds more) (map-append mark_of (filter heard_by deeds) (filter heard_by more))

unheard-by : (deed : Deed) (b : Bool) → is_heard deed.step ≡ b → b ≡ false → map mark_of (cond b (deed ∷ []) []) ≡ []
unheard-by deed true e none = cc
unheard-by deed false e none = refl

-- a step that isn't heard
pub unheard : (deeds : List Deed) (deed : Deed) → is_heard deed.step ≡ false → heard_of (deeds ++ deed ∷ []) ≡ heard_of deeds
unfolding heard_of
unheard deeds deed none = rw (filter-append heard_by deeds (deed ∷ []), map-append mark_of (filter heard_by deeds) (filter heard_by (deed ∷ [])), none) (append-nil (map mark_of (filter heard_by deeds)))

pub hearing_same : (first now : Option (List Polled)) (deeds : List Deed) (deed : Deed) (streams : Streams) → is_heard deed.step ≡ false → Hearing first now deeds streams → Hearing first now (deeds ++ deed ∷ []) streams
hearing_same first now deeds deed streams none hearing = record {
  given = hearing.given;
  told = hearing.told;
  heard = subst (λ (ms : List Mark). HeardTo no_bytes hearing.given ms streams) (sym (unheard deeds deed none)) hearing.heard;
}

pub part_same : (first now : Option (List Polled)) (deeds : List Deed) (deed : Deed) → is_heard deed.step ≡ false → HearingPart first now deeds → HearingPart first now (deeds ++ deed ∷ [])
part_same first now deeds deed none hearing = record {
  given = hearing.given;
  told = hearing.told;
  heard = subst (λ (ms : List Mark). HeardUpto no_bytes hearing.given ms) (sym (unheard deeds deed none)) hearing.heard;
}

-- ## What is told

pub notes_of : (old new : Option (List Polled)) (answer : Polled) → Appends old new answer → Notes old new answer
notes_of None new answer e = e
notes_of (Some old) new answer e = inl e

tells-some : (first old given : List Polled) (now new : Option (List Polled)) (answer : Polled) → now ≡ Some (first ++ given) → Notes now new answer → (new ≡ Some (first ++ (given ++ answer ∷ []))) ⊎ (new ≡ None)
tells-some first old given now new answer e notes = tells_by (rw e at notes)
  where
    tells_by : ((new ≡ Some ((first ++ given) ++ answer ∷ [])) ⊎ (new ≡ None)) → (new ≡ Some (first ++ (given ++ answer ∷ []))) ⊎ (new ≡ None)
    tells_by (inl is) = inl (is ∙ ap (λ (xs : List Polled). Some xs) (append_assoc first given (answer ∷ [])))
    tells_by (inr is) = inr is

pub tells_more : (first now new : Option (List Polled)) (given : List Polled) (answer : Polled) → TellsSo first now given → Notes now new answer → TellsSo first new (given ++ answer ∷ [])
unfolding TellsSo
tells_more None now new given answer e notes = rw e at notes
tells_more (Some first) now new given answer (inl e) notes = tells-some first first given now new answer e notes
tells_more (Some first) now new given answer (inr e) notes = inr (rw e at notes)

-- ## The loss of a place

abbrev pub lost_deed : Place → List Sent → Bool → Deed
lost_deed at sent failed = record { step = steps.Lost at; sent = sent; failed = failed }

abbrev pub IsLoss : Polled → Place → Bool → Type 0
IsLoss answer at failed = (is_failure answer ≡ failed) × ((kept after : Streams) → IsKept kept at [] after → Makes kept answer (steps.Lost at ∷ []) after)

pub ends_so : (at : Place) → IsLoss (answers.End at) at false
unfolding Makes is_failure
ends_so at = (refl, λ kept after is. (refl, is))

pub fails_so : (at : Place) → IsLoss (answers.Failed at) at true
unfolding Makes is_failure
fails_so at = (refl, λ kept after is. (refl, is))

one-mark : (answer : Polled) (at : Place) (sent : List Sent) (failed : Bool) → is_failure answer ≡ failed → heard_of (lost_deed at sent failed ∷ []) ≡ marks answer (steps.Lost at ∷ [])
unfolding heard_of marks is_heard
one-mark answer at sent failed e = rw (sym e) refl

pub hearing_lost : (first old new : Option (List Polled)) (deeds : List Deed) (streams streams2 : Streams) (answer : Polled) (at : Place) (sent : List Sent) (failed : Bool) → Hearing first old deeds streams → Notes old new answer → IsLoss answer at failed → IsKept streams at [] streams2
    → Hearing first new (deeds ++ lost_deed at sent failed ∷ []) streams2
hearing_lost first old new deeds streams streams2 answer at sent failed hearing notes loss kept = record {
  given = hearing.given ++ answer ∷ [];
  told = tells_more first old new hearing.given answer hearing.told notes;
  heard = rw (heard_append deeds (lost_deed at sent failed ∷ []), one-mark answer at sent failed loss.0)
      (heard_snoc no_bytes hearing.given answer (heard_of deeds) (steps.Lost at ∷ []) streams streams2 hearing.heard (loss.1 streams streams2 kept));
}

-- the run ended before the loss
pub hearing_ended : (first old new : Option (List Polled)) (deeds : List Deed) (streams : Streams) (answer : Polled) → Hearing first old deeds streams → Notes old new answer → HearingPart first new deeds
unfolding marks
hearing_ended first old new deeds streams answer hearing notes = record {
  given = hearing.given ++ answer ∷ [];
  told = tells_more first old new hearing.given answer hearing.told notes;
  heard = subst (λ (taken : List Mark). HeardUpto no_bytes (hearing.given ++ answer ∷ []) taken) (append-nil (heard_of deeds))
      (heard_cut no_bytes hearing.given answer (heard_of deeds) [] streams hearing.heard (λ kept same. none-part kept answer));
}

pub hearing_part : (first now : Option (List Polled)) (deeds : List Deed) (streams : Streams) → Hearing first now deeds streams → HearingPart first now deeds
hearing_part first now deeds streams hearing = record { given = hearing.given; told = hearing.told; heard = heard_whole no_bytes hearing.given (heard_of deeds) streams hearing.heard }

-- an answer that makes nothing
abbrev pub IsSilent : Polled → Type 0
IsSilent answer = (kept after : Streams) → AllKept kept after → Makes kept answer [] after

pub hearing_none : (first old new : Option (List Polled)) (deeds : List Deed) (streams : Streams) (answer : Polled) → Hearing first old deeds streams → Notes old new answer → IsSilent answer → Hearing first new deeds streams
unfolding marks
hearing_none first old new deeds streams answer hearing notes silent = record {
  given = hearing.given ++ answer ∷ [];
  told = tells_more first old new hearing.given answer hearing.told notes;
  heard = subst (λ (taken : List Mark). HeardTo no_bytes (hearing.given ++ answer ∷ []) taken streams) (append-nil (heard_of deeds))
      (heard_snoc no_bytes hearing.given answer (heard_of deeds) [] streams streams hearing.heard (silent streams streams (all-same streams)));
}

pub closed_silent : IsSilent answers.Closed
unfolding Makes
closed_silent kept after same = (refl, same)

pub not_yet_silent : IsSilent answers.NotYet
unfolding Makes
not_yet_silent kept after same = (refl, same)

pub fault_silent : IsSilent answers.Fault
unfolding Makes
fault_silent kept after same = (refl, same)

-- nothing was heard yet
pub tells-none : (told : Option (List Polled)) → TellsSo told told []
unfolding TellsSo
tells-none None = refl
tells-none (Some items) = inl (ap (λ (xs : List Polled). Some xs) (sym (append-nil items)))

pub hearing_begin : (told : Option (List Polled)) (streams : Streams) → ((place : Place) → streams place ≡ []) → Hearing told told [] streams
unfolding HeardTo heard_of AllKept
hearing_begin told streams none = record { given = []; told = tells-none told; heard = (refl, none) }
