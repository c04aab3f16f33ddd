-- A beginning of what is heard is heard in part.
use Rattle.std.proofs.Common.{◌≡◌, List, [], ◌∷◌, ◌++◌, refl, sym, subst, inl, inr, ◌⊎◌}
use Rattle.std.specs.Prelude.{drop}
use Rattle.sc_value.specs.declared.ids.Place.{Place}
use Rattle.sc_terms.specs.declared.steps.Step.{Step}
use Rattle.sc_terms.specs.declared.steps.Step.TheVariants as steps
use Rattle.sc_edge.specs.declared.edge.Polled.{Polled}
use Rattle.sc_edge.specs.declared.edge.Polled.TheVariants as answers
use Rattle.sc_tokens.specs.Bytes.{Bytes}
use Rattle.sc_syntax.specs.Fronts.{behind_breaks}
use Rattle.sc_runs.specs.Following.{Streams, no_bytes}
use Rattle.sc_runs.specs.Hearing.{Hears, HearsPart}
use Rattle.sc_runs.specs.Heard.{Makes, MakesPart, Heard, HeardFrom, HeardPart, HeardPartFrom}

-- ## Where a beginning ends

-- two ways to cut a list in two: the one is no longer than the other, or the other is shorter
Cuts : List Step → List Step → List Step → List Step → Type 0
Cuts made rest taken later =
    ((more : List Step) × (taken ≡ made ++ more) × (rest ≡ more ++ later)) ⊎ ((step : Step) × (more : List Step) × (made ≡ taken ++ step ∷ more))

cuts-on : (first : Step) (made rest taken later : List Step) → Cuts made rest taken later → Cuts (first ∷ made) rest (first ∷ taken) later
unfolding Cuts
cuts-on first made rest taken later (inl (more, whole, left)) = inl (more, rw whole refl, left)
cuts-on first made rest taken later (inr (step, more, part)) = inr (step, more, rw part refl)

tail-same : (a b : Step) (xs ys : List Step) → a ∷ xs ≡ b ∷ ys → xs ≡ ys
tail-same a b xs ys e = cc

head-same : (a b : Step) (xs ys : List Step) → a ∷ xs ≡ b ∷ ys → a ≡ b
head-same a b xs ys e = cc

cuts : (made rest taken later : List Step) → made ++ rest ≡ taken ++ later → Cuts made rest taken later
unfolding Cuts
cuts [] rest taken later e = inl (taken, refl, e)
cuts (first ∷ made) rest [] later e = inr (first, made, refl)
cuts (first ∷ made) rest (other ∷ taken) later e =
    subst (λ (s : Step). Cuts (first ∷ made) rest (s ∷ taken) later) (head-same first other (made ++ rest) (taken ++ later) e)
    (cuts-on first made rest taken later (cuts made rest taken later (tail-same first other (made ++ rest) (taken ++ later) e)))

-- ## Within an answer

hears-part : (place : Place) (bytes : Bytes) (part more : List Step) (step : Step) (rest : Bytes) → Hears place bytes (part ++ step ∷ more) rest → HearsPart place bytes part
unfolding Hears HearsPart
hears-part place bytes [] more step rest hears = tt
hears-part place bytes (steps.In from message ∷ part) more step rest (len, from_is, front, hears) = (len, from_is, front, hears-part place (drop len (behind_breaks bytes)) part more step rest hears)
hears-part place bytes (steps.Bad from bad ∷ []) [] (steps.Lost at) rest hears = (hears.0, hears.2)
hears-part place bytes (steps.Bad from bad ∷ []) (s ∷ more) (steps.Lost at) rest hears = absurd hears
hears-part place bytes (steps.Bad from bad ∷ []) more (steps.In a b) rest hears = absurd hears
hears-part place bytes (steps.Bad from bad ∷ []) more (steps.Bad a b) rest hears = absurd hears
hears-part place bytes (steps.Bad from bad ∷ []) more (steps.Tick a) rest hears = absurd hears
hears-part place bytes (steps.Bad from bad ∷ []) more (steps.Withdraw a) rest hears = absurd hears
hears-part place bytes (steps.Bad from bad ∷ []) more (steps.Turn e a b c d) rest hears = absurd hears
hears-part place bytes (steps.Bad from bad ∷ steps.Lost at ∷ []) more step rest hears = absurd hears
hears-part place bytes (steps.Bad from bad ∷ steps.Lost at ∷ s ∷ part) more step rest hears = absurd hears
hears-part place bytes (steps.Bad from bad ∷ steps.In a b ∷ part) more step rest hears = absurd hears
hears-part place bytes (steps.Bad from bad ∷ steps.Bad a b ∷ part) more step rest hears = absurd hears
hears-part place bytes (steps.Bad from bad ∷ steps.Tick a ∷ part) more step rest hears = absurd hears
hears-part place bytes (steps.Bad from bad ∷ steps.Withdraw a ∷ part) more step rest hears = absurd hears
hears-part place bytes (steps.Bad from bad ∷ steps.Turn e a b c d ∷ part) more step rest hears = absurd hears
hears-part place bytes (steps.Lost at ∷ []) more step rest hears = absurd hears
hears-part place bytes (steps.Lost at ∷ s ∷ part) more step rest hears = absurd hears
hears-part place bytes (steps.Tick now ∷ part) more step rest hears = absurd hears
hears-part place bytes (steps.Withdraw app ∷ part) more step rest hears = absurd hears
hears-part place bytes (steps.Turn e a b c d ∷ part) more step rest hears = absurd hears

one-lost : (first step lost : Step) (part more : List Step) → first ∷ (part ++ step ∷ more) ≡ lost ∷ [] → part ++ step ∷ more ≡ []
one-lost first step lost part more e = cc

none-behind : (step : Step) (part more : List Step) → part ++ step ∷ more ≡ [] → ⊥
none-behind step [] more e = cc
none-behind step (s ∷ part) more e = cc

makes-part : (kept : Streams) (answer : Polled) (part more : List Step) (step : Step) (after : Streams) → Makes kept answer (part ++ step ∷ more) after → MakesPart kept answer part
unfolding Makes MakesPart
makes-part kept answer [] more step after makes = tt
makes-part kept (answers.Bytes place text) (first ∷ part) more step after (rest, hears, is) = hears-part place _ (first ∷ part) more step rest hears
makes-part kept (answers.End place) (first ∷ part) more step after (e, is) = none-behind step part more (one-lost first step _ part more e)
makes-part kept (answers.Failed place) (first ∷ part) more step after (e, is) = none-behind step part more (one-lost first step _ part more e)
makes-part kept answers.Closed (first ∷ part) more step after (e, is) = cc
makes-part kept answers.NotYet (first ∷ part) more step after (e, is) = cc
makes-part kept answers.Fault (first ∷ part) more step after (e, is) = cc

-- ## All answers

no-steps : (taken later : List Step) → taken ++ later ≡ [] → taken ≡ []
no-steps [] later e = refl
no-steps (step ∷ taken) later e = cc

heard-cut : (kept after : Streams) (answer : Polled) (given : List Polled) (made rest taken later : List Step) → Makes kept answer made after → HeardFrom after given rest
    → ((more : List Step) → HeardFrom after given (more ++ later) → HeardPartFrom after given more) → Cuts made rest taken later → HeardPartFrom kept (answer ∷ given) taken
unfolding HeardPartFrom Cuts
heard-cut kept after answer given made rest taken later makes from behind (inl (more, whole, left)) =
    inr (made, more, after, whole, makes, behind more (subst (λ (ss : List Step). HeardFrom after given ss) left from))
heard-cut kept after answer given made rest taken later makes from behind (inr (step, more, part)) =
    inl (makes-part kept answer taken more step after (subst (λ (ss : List Step). Makes kept answer ss after) part makes))

heard-from : (given : List Polled) (kept : Streams) (taken later : List Step) → HeardFrom kept given (taken ++ later) → HeardPartFrom kept given taken
unfolding HeardFrom HeardPartFrom
heard-from [] kept taken later heard = no-steps taken later heard
heard-from (answer ∷ given) kept taken later (made, rest, after, e, makes, from) =
    heard-cut kept after answer given made rest taken later makes from (λ more. heard-from given after more later) (cuts made rest taken later (sym e))

pub beginning-heard : (given : List Polled) (taken later : List Step) → Heard given (taken ++ later) → HeardPart given taken
unfolding Heard HeardPart
beginning-heard given taken later heard = heard-from given no_bytes taken later heard
