-- The answers of an edge give up one list of places, and it has each place that gave what is no
-- message.
use Rattle.std.proofs.Common.{◌≡◌, Bool, true, false, List, [], ◌∷◌, ◌++◌, refl, ap, sym, ◌∙◌, subst, arith, if◌then◌else◌}
use Rattle.std.specs.Prelude.{drop, filter, map}
use Rattle.std.specs.List.{Contains}
use Rattle.std.proofs.lemmas.List.{map-append}
use Rattle.std.proofs.lemmas.List.Elements.{Contains-append_left, Contains-append_right, Contains-get_or, filter-append}
use Rattle.sc_tokens.specs.Bytes.{Bytes}
use Rattle.sc_value.specs.declared.ids.Place.{Place}
use Rattle.sc_value.specs.declared.message.Message.{Message}
use Rattle.sc_value.specs.Places.{same_place}
use Rattle.sc_value.proofs.PlaceLaws.{same_place-self}
use Rattle.sc_terms.specs.declared.steps.Bad.{Bad}
use Rattle.sc_terms.specs.declared.steps.Step.{Step}
use Rattle.sc_terms.specs.declared.steps.Step.TheVariants as steps
use Rattle.sc_syntax.specs.declared.front.Front.{Front}
use Rattle.sc_syntax.specs.declared.front.Front.TheVariants as fronts
use Rattle.sc_syntax.specs.Fronts.{behind_breaks}
use Rattle.sc_stream.specs.Frames.{front_behind}
use Rattle.sc_edge.specs.declared.edge.Polled.{Polled}
use Rattle.sc_edge.specs.declared.edge.Polled.TheVariants as answers
use Rattle.sc_runs.specs.Following.{IsKept, Streams}
use Rattle.sc_runs.specs.Heard.{AllKept, Makes}
use Rattle.sc_runs.specs.Hearing.{Hears, IsBad}
use Rattle.sc_outs.specs.Stretches.{is_lost}
use Rattle.sc_courses.specs.Marks.{HeardTo, Mark}
use Rattle.sc_rounds.specs.GivingUp.{AllGiveUp, GivesUp, given_up, losses}

-- ## What bytes make

-- what the front of a place's bytes says of the steps that they make, and of what is kept
Says : Place → Bytes → List Step → Bytes → Front → Type 0
Says place bytes made rest fronts.Open = (losses place made ≡ []) × (rest ≡ bytes)
Says place bytes made rest (fronts.Whole len message) =
    (later : List Step) × (made ≡ steps.In place message ∷ later)
    × Hears place (drop len (behind_breaks bytes)) later rest
Says place bytes made rest (fronts.Bad at kind heads) =
    (losses place made ≡ place ∷ []) × (rest ≡ [])
Says place bytes made rest fronts.Long = (losses place made ≡ place ∷ []) × (rest ≡ [])

one-lost : (place at : Place) → at ≡ place → losses place (steps.Lost at ∷ []) ≡ place ∷ []
unfolding is_lost
one-lost place at here = rw (here, same_place-self place) refl

bad-lost : (place from at : Place) (bad : Bad) → at ≡ place
    → losses place (steps.Bad from bad ∷ steps.Lost at ∷ []) ≡ place ∷ []
unfolding is_lost
bad-lost place from at bad here = rw (here, same_place-self place) refl

says-of : (place : Place) (bytes : Bytes) (made : List Step) (rest : Bytes)
    → Hears place bytes made rest → Says place bytes made rest (front_behind bytes)
unfolding Hears IsBad Says
says-of place bytes [] rest (front, same) =
    subst (Says place bytes [] rest) (sym front) (refl, same)
says-of place bytes (steps.In from message ∷ later) rest (len, here, front, more) =
    subst (Says place bytes (steps.In from message ∷ later) rest) (sym front)
    (later, ap (λ (p : Place). steps.In p message ∷ later) here, more)
says-of place bytes (steps.Bad from bad ∷ []) rest none = absurd none
says-of place bytes (steps.Bad from bad ∷ steps.In p m ∷ later) rest none = absurd none
says-of place bytes (steps.Bad from bad ∷ steps.Bad p b ∷ later) rest none = absurd none
says-of place bytes (steps.Bad from bad ∷ steps.Lost at ∷ []) rest (from_is, at_is, front, none) =
    subst (Says place bytes (steps.Bad from bad ∷ steps.Lost at ∷ []) rest) (sym front)
    (bad-lost place from at bad at_is, none)
says-of place bytes (steps.Bad from bad ∷ steps.Lost at ∷ step ∷ later) rest none = absurd none
says-of place bytes (steps.Bad from bad ∷ steps.Tick now ∷ later) rest none = absurd none
says-of place bytes (steps.Bad from bad ∷ steps.Turn end app event now calls ∷ later) rest none =
    absurd none
says-of place bytes (steps.Bad from bad ∷ steps.Withdraw app ∷ later) rest none = absurd none
says-of place bytes (steps.Lost at ∷ []) rest (at_is, front, none) =
    subst (Says place bytes (steps.Lost at ∷ []) rest) (sym front) (one-lost place at at_is, none)
says-of place bytes (steps.Lost at ∷ step ∷ later) rest none = absurd none
says-of place bytes (steps.Tick now ∷ later) rest none = absurd none
says-of place bytes (steps.Turn end app event now calls ∷ later) rest none = absurd none
says-of place bytes (steps.Withdraw app ∷ later) rest none = absurd none

-- as much is kept, and the place is lost as often
abbrev AreOnce : Place → List Step → List Step → Bytes → Bytes → Type 0
AreOnce place made made2 rest rest2 = (rest2 ≡ rest) × (losses place made2 ≡ losses place made)

message-losses : (place at : Place) (message : Message) (made later : List Step)
    → made ≡ steps.In at message ∷ later → losses place made ≡ losses place later
unfolding is_lost
message-losses place at message made later is = rw is refl

-- where this holds of what is heard behind a message
once-by : (place : Place) (bytes : Bytes) (step : Step) (later made2 : List Step)
    (rest rest2 : Bytes) (front : Front) → Says place bytes (step ∷ later) rest front
    → Says place bytes made2 rest2 front
    → ((next : Bytes) (later2 : List Step) → Hears place next later rest
    → Hears place next later2 rest2 → AreOnce place later later2 rest rest2)
    → AreOnce place (step ∷ later) made2 rest rest2
unfolding Says
once-by place bytes step later made2 rest rest2 fronts.Open (lost, same) (lost2, same2) go =
    (same2 ∙ sym same, lost2 ∙ sym lost)
once-by place bytes step later made2 rest rest2 (fronts.Whole len message) (first, is, more)
    (second, is2, more2) go =
    let tail : first ≡ later = ap (λ (xs : List Step). drop 1 xs) (sym is) in
    let (rests, lost) = go (drop len (behind_breaks bytes)) second
    (subst (λ (xs : List Step). Hears place (drop len (behind_breaks bytes)) xs rest) tail more)
    more2 in (
      rests,
      message-losses place place message made2 second is2
          ∙ (lost ∙ (sym (ap (losses place) tail)
          ∙ sym (message-losses place place message (step ∷ later) first is))),
    )
once-by place bytes step later made2 rest rest2 (fronts.Bad at kind heads) (lost, same)
    (lost2, same2) go = (same2 ∙ sym same, lost2 ∙ sym lost)
once-by place bytes step later made2 rest rest2 fronts.Long (lost, same) (lost2, same2) go =
    (same2 ∙ sym same, lost2 ∙ sym lost)

none-once : (place : Place) (bytes : Bytes) (made2 : List Step) (rest rest2 : Bytes)
    → front_behind bytes ≡ fronts.Open → rest ≡ bytes
    → Says place bytes made2 rest2 (front_behind bytes) → AreOnce place [] made2 rest rest2
unfolding Says
none-once place bytes made2 rest rest2 front same says =
    let (lost2, same2) : Says place bytes made2 rest2 fronts.Open =
    subst (Says place bytes made2 rest2) front says in
    (same2 ∙ sym same, lost2)

-- bytes are heard in one way, as far as they go
hears-once : (place : Place) (bytes : Bytes) (made made2 : List Step) (rest rest2 : Bytes)
    → Hears place bytes made rest → Hears place bytes made2 rest2
    → AreOnce place made made2 rest rest2
unfolding Hears
hears-once place bytes [] made2 rest rest2 (front, same) second =
    none-once place bytes made2 rest rest2 front same (says-of place bytes made2 rest2 second)
hears-once place bytes (step ∷ later) made2 rest rest2 first second =
    once-by place bytes step later made2 rest rest2 (front_behind bytes)
    (says-of place bytes (step ∷ later) rest first) (says-of place bytes made2 rest2 second)
    (λ next later2 more more2. hears-once place next later later2 rest rest2 more more2)

-- ## What an answer makes

same-kept : (kept kept2 after after2 rest rest2 : Bytes) (same : Bool) → kept2 ≡ kept
    → rest2 ≡ rest → after ≡ (if same then rest else kept)
    → after2 ≡ (if same then rest2 else kept2) → after2 ≡ after
same-kept kept kept2 after after2 rest rest2 true k r is is2 = is2 ∙ (r ∙ sym is)
same-kept kept kept2 after after2 rest rest2 false k r is is2 = is2 ∙ (k ∙ sym is)

all-once : (kept kept2 after after2 : Streams) (place : Place) (rest rest2 : Bytes)
    → AllKept kept kept2 → rest2 ≡ rest → IsKept kept place rest after
    → IsKept kept2 place rest2 after2 → AllKept after after2
unfolding AllKept IsKept
all-once kept kept2 after after2 place rest rest2 same r is is2 other =
    same-kept (kept other) (kept2 other) (after other) (after2 other) rest rest2
    (same_place other place) (same other) r (is other) (is2 other)

all-then : (kept kept2 after after2 : Streams) → AllKept kept kept2 → AllKept kept after
    → AllKept kept2 after2 → AllKept after after2
unfolding AllKept
all-then kept kept2 after after2 same is is2 place = is2 place ∙ (same place ∙ sym (is place))

at-place : (kept kept2 : Streams) (place : Place) → AllKept kept kept2 → kept2 place ≡ kept place
unfolding AllKept
at-place kept kept2 place same = same place

-- as much is kept behind it, and the same places are given up
makes-once : (kept kept2 : Streams) (answer : Polled) (made made2 : List Step)
    (after after2 : Streams) → AllKept kept kept2 → Makes kept answer made after
    → Makes kept2 answer made2 after2
    → AllKept after after2 × (given_up answer made2 ≡ given_up answer made)
unfolding Makes given_up
makes-once kept kept2 (answers.Bytes place text) made made2 after after2 same (rest, hears, is)
    (rest2, hears2, is2) =
    let (rests, lost) = hears-once place (kept place ++ text) made made2 rest rest2 hears
    (subst (λ (bytes : Bytes). Hears place (bytes ++ text) made2 rest2)
    (at-place kept kept2 place same) hears2) in
    (all-once kept kept2 after after2 place rest rest2 same rests is is2, lost)
makes-once kept kept2 (answers.End place) made made2 after after2 same (e, is) (e2, is2) =
    (all-once kept kept2 after after2 place [] [] same refl is is2, refl)
makes-once kept kept2 (answers.Failed place) made made2 after after2 same (e, is) (e2, is2) =
    (all-once kept kept2 after after2 place [] [] same refl is is2, refl)
makes-once kept kept2 answers.Closed made made2 after after2 same (e, is) (e2, is2) =
    (all-then kept kept2 after after2 same is is2, refl)
makes-once kept kept2 answers.NotYet made made2 after after2 same (e, is) (e2, is2) =
    (all-then kept kept2 after after2 same is is2, refl)
makes-once kept kept2 answers.Fault made made2 after after2 same (e, is) (e2, is2) =
    (all-then kept kept2 after after2 same is is2, refl)

-- ## What the answers give up

both-same : (xs xs2 ys ys2 : List Place) → xs2 ≡ xs → ys2 ≡ ys → xs2 ++ ys2 ≡ xs ++ ys
both-same xs xs2 ys ys2 x y = rw (x, y) refl

-- one list of places
pub give_up_once : (kept kept2 : Streams) (given : List Polled) (places places2 : List Place)
    (after after2 : Streams) → AllKept kept kept2 → AllGiveUp kept given places after
    → AllGiveUp kept2 given places2 after2 → places2 ≡ places
unfolding AllGiveUp GivesUp
give_up_once kept kept2 [] places places2 after after2 same (e, is) (e2, is2) = e2 ∙ sym e
give_up_once kept kept2 (g ∷ given) places places2 after after2 same
    (mine, rest, mid, e, (made, makes, lost), more)
    (mine2, rest2, mid2, e2, (made2, makes2, lost2), more2) =
    let (mids, losses_are) = makes-once kept kept2 g made made2 mid mid2 same makes makes2 in
    e2 ∙ (both-same mine mine2 rest rest2 (lost2 ∙ (losses_are ∙ sym lost))
    (give_up_once mid mid2 given rest rest2 after after2 mids more more2) ∙ sym e)

losses-append : (place : Place) (made more : List Step)
    → losses place (made ++ more) ≡ losses place made ++ losses place more
losses-append place made more =
    ap (map (λ step. place)) (filter-append (is_lost place) made more)
    ∙ map-append (λ step. place) (filter (is_lost place) made) (filter (is_lost place) more)

last-lost : (place : Place) (made : List Step)
    → Contains (losses place (made ++ steps.Lost place ∷ [])) place
last-lost place made =
    subst (λ (places : List Place). Contains places place)
    (sym (losses-append place made (steps.Lost place ∷ [])))
    (Contains-append_right (losses place made) (losses place (steps.Lost place ∷ [])) place
    (subst (λ (places : List Place). Contains places place) (sym (one-lost place place refl))
    (Contains-get_or (place ∷ []) 0 place (omega arith))))

-- it has the place of bytes that end with its loss
pub give_up_has : (kept kept2 : Streams) (before later : List Polled) (place : Place) (text : Bytes)
    (made : List Step) (heard : List Mark) (mid after : Streams) (places : List Place)
    → AllKept kept kept2 → HeardTo kept before heard mid
    → Hears place (mid place ++ text) (made ++ steps.Lost place ∷ []) []
    → AllGiveUp kept2 (before ++ answers.Bytes place text ∷ later) places after
    → Contains places place
unfolding AllGiveUp GivesUp HeardTo Makes given_up
give_up_has kept kept2 [] later place text made heard mid after places same (none, is) hears
    (mine, rest, next, e, (made2, (rest2, hears2, still), lost), more) =
    let here : kept2 place ≡ mid place =
    at-place kept kept2 place same ∙ sym (at-place kept mid place is) in
    let (rests, losses_are) =
    hears-once place (mid place ++ text) (made ++ steps.Lost place ∷ []) made2 [] rest2 hears
    (subst (λ (bytes : Bytes). Hears place (bytes ++ text) made2 rest2) here hears2) in
    subst (λ (all : List Place). Contains all place) (sym e)
    (Contains-append_left mine rest place
    (subst (λ (all : List Place). Contains all place) (sym (lost ∙ losses_are))
    (last-lost place made)))
give_up_has kept kept2 (g ∷ before) later place text made heard mid after places same
    (made1, marks1, mid1, heard_is, makes1, more1) hears
    (mine, rest, next, e, (made2, makes2, lost), more) =
    let (mids, losses_are) = makes-once kept kept2 g made1 made2 mid1 next same makes1 makes2 in
    subst (λ (all : List Place). Contains all place) (sym e)
    (Contains-append_right mine rest place
    (give_up_has mid1 next before later place text made marks1 mid after rest mids more1 hears
    more))
