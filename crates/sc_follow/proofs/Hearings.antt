-- The steps that a stream's bytes make, one by one.
use Rattle.std.proofs.Common.{◌≡◌, ℕ, ◌<◌, ◌+◌, Bool, true, false, List, [], ◌∷◌, ◌++◌, length, refl, sym, ap, subst, arith, length-append, append_assoc, inl, inr}
use Rattle.std.specs.Prelude.{Result, Ok, Err, IfOk, OnOk, OnErr, IfErr, IsErrAnd, drop, ◌-◌, ◌⊎◌}
use Rattle.sc_value.specs.declared.ids.Place.{Place}
use Rattle.sc_value.specs.declared.message.Message.{Message}
use Rattle.sc_terms.specs.declared.steps.Bad.{Bad}
use Rattle.sc_terms.specs.declared.steps.Step.{Step}
use Rattle.sc_terms.specs.declared.steps.Step.TheVariants as steps
use Rattle.sc_parts.specs.declared.setup.Setup.{Setup}
use Rattle.sc_syntax.specs.declared.front.Front.TheVariants as fronts
use Rattle.sc_tokens.specs.Bytes.{Bytes}
use Rattle.sc_syntax.specs.Fronts.{behind_breaks}
use Rattle.sc_stream.specs.declared.streams.Heard.{Heard}
use Rattle.sc_stream.specs.declared.streams.Heard.TheVariants as heard
use Rattle.sc_stream.specs.Frames.{front_behind}
use Rattle.sc_stream.specs.Hearing.{Hears as HearsNext}
use Rattle.sc_hosts.specs.Runs.{HasVia}
use Rattle.sc_runs.specs.Hearing.{Hears, HearsPart, IsBad}
use Rattle.sc_switch.specs.declared.refused.StepRefused.{StepRefused}
use Rattle.sc_switch.specs.declared.refused.StepRefused.TheVariants as refused
use Rattle.sc_switch.specs.Standing.{Known}
use Rattle.sc_follow.specs.Moving.{Came, HasDue, HearsUpto, IsCut, IsDone, IsDue, IsFree, IsStopped, IsUntaken, TookStep}
use Rattle.sc_follow.specs.Hearing.{BadUpto, HeardOne}
use Rattle.sc_runs.proofs.Vias.{heard_via}
use Rattle.sc_follow.proofs.Steppings.{came-none, came-on}

-- ## A cut that has a weaker property too

due-weaker : (P Q : List Step → Type 0) → ((made : List Step) → P made → Q made) → (new : Known) (made : List Step) (cause : StepRefused) → HasDue P new made cause → HasDue Q new made cause
unfolding HasDue
due-weaker P Q weak new made refused.NoMemory due = tt
due-weaker P Q weak new made (refused.JournalFull steps bytes) (step, is, good) = (step, is, weak _ good)

pub cut-weaker : (P Q : List Step → Type 0) → ((made : List Step) → P made → Q made) → (old new : Known) (cause : StepRefused) → IsCut P old new cause → IsCut Q old new cause
unfolding IsCut
cut-weaker P Q weak old new cause (made, to, due) = (made, record { came = to.came; good = weak made to.good }, due-weaker P Q weak new made cause due)

-- a step that wasn't taken, where nothing was before it
stop-due : (P : List Step → Type 0) (old new : Known) (step : Step) (cause : StepRefused) → new ≡ old → P (step ∷ []) → IsStopped old step cause → HasDue P new [] cause
unfolding IsStopped HasDue
stop-due P old new step refused.NoMemory same good stop = tt
stop-due P old new step (refused.JournalFull steps bytes) same good stop = (step, subst (λ (k : Known). IsDue k step) (sym same) stop, good)

pub cut-step : (P : List Step → Type 0) (old new : Known) (step : Step) (cause : StepRefused) → new ≡ old → IsUntaken old → P [] → P (step ∷ []) → IsStopped old step cause → IsCut P old new cause
unfolding IsCut
cut-step P old new step cause same untaken none one stop =
    ([], record { came = subst (λ (k : Known). Came old k []) (sym same) (came-none old untaken); good = none }, stop-due P old new step cause same one stop)

pub cut-starved : (P : List Step → Type 0) (old : Known) → IsUntaken old → P [] → IsCut P old old refused.NoMemory
unfolding IsCut HasDue
cut-starved P old untaken none = ([], record { came = came-none old untaken; good = none }, tt)

-- a cut after one step
due-after : (P Q : List Step → Type 0) (step : Step) → ((made : List Step) → P made → Q (step ∷ made)) → (new : Known) (made : List Step) (cause : StepRefused) → HasDue P new made cause → HasDue Q new (step ∷ made) cause
unfolding HasDue
due-after P Q step on new made refused.NoMemory due = tt
due-after P Q step on new made (refused.JournalFull steps bytes) (next, is, good) = (next, is, on _ good)

pub cut-after : (P Q : List Step → Type 0) (old mid new : Known) (step : Step) (cause : StepRefused) → TookStep old mid step → ((made : List Step) → P made → Q (step ∷ made)) → IsCut P mid new cause → IsCut Q old new cause
unfolding IsCut
cut-after P Q old mid new step cause took on (made, to, due) =
    (step ∷ made, record { came = came-on old mid new (step ∷ []) made took.came to.came; good = on made to.good }, due-after P Q step on new made cause due)

-- ## Broken off

broken : (place : Place) (bad : Bad) (old mid new : Known) → TookStep old mid (steps.Bad place bad) → TookStep mid new (steps.Lost place) → IsDone (λ made. made ≡ steps.Bad place bad ∷ steps.Lost place ∷ []) old new
unfolding IsDone
broken place bad old mid new first later = (_, record { came = came-on old mid new _ _ first.came later.came; good = refl }, later.free)

pub cut_bad : (place : Place) (bad : Bad) (old new : Known) (cause : StepRefused) → new ≡ old → IsUntaken old → IsStopped old (steps.Bad place bad) cause → IsCut (BadUpto place bad) old new cause
unfolding BadUpto
cut_bad place bad old new cause same untaken stop = cut-step (BadUpto place bad) old new (steps.Bad place bad) cause same untaken (inl refl) (inr (inl refl)) stop

lost-upto : (place : Place) (bad : Bad) (made : List Step) → (made ≡ []) ⊎ (made ≡ steps.Lost place ∷ []) → BadUpto place bad (steps.Bad place bad ∷ made)
unfolding BadUpto
lost-upto place bad made (inl none) = inr (inl (ap (λ (ms : List Step). steps.Bad place bad ∷ ms) none))
lost-upto place bad made (inr lost) = inr (inr (ap (λ (ms : List Step). steps.Bad place bad ∷ ms) lost))

cut_lost : (place : Place) (bad : Bad) (old mid new : Known) (cause : StepRefused) → TookStep old mid (steps.Bad place bad) → new ≡ mid → IsStopped mid (steps.Lost place) cause → IsCut (BadUpto place bad) old new cause
cut_lost place bad old mid new cause took same stop =
    cut-after (λ made. (made ≡ []) ⊎ (made ≡ steps.Lost place ∷ [])) (BadUpto place bad) old mid new (steps.Bad place bad) cause took (lost-upto place bad)
    (cut-step (λ made. (made ≡ []) ⊎ (made ≡ steps.Lost place ∷ [])) mid new (steps.Lost place) cause same took.came.untaken (inl refl) (inr refl) stop)

pub broken_ok : (place : Place) (bad : Bad) (old mid new : Known) (r : Result Unit StepRefused) → TookStep old mid (steps.Bad place bad) → OnOk r (TookStep mid new (steps.Lost place)) → OnOk r (IsDone (λ made. made ≡ steps.Bad place bad ∷ steps.Lost place ∷ []) old new)
broken_ok place bad old mid new (Ok u) first later = broken place bad old mid new first later
broken_ok place bad old mid new (Err cause) first later = tt

pub broken_err : (place : Place) (bad : Bad) (old mid new : Known) (r : Result Unit StepRefused) → TookStep old mid (steps.Bad place bad) → OnErr r (new ≡ mid) → IfErr r (λ cause. IsStopped mid (steps.Lost place) cause) → IfErr r (λ cause. IsCut (BadUpto place bad) old new cause)
broken_err place bad old mid new (Ok u) first same stop = tt
broken_err place bad old mid new (Err cause) first same stop = cut_lost place bad old mid new cause first same stop

-- ## One thing that is heard

not-yet : (place : Place) (before after : Bytes) (old : Known) (h : Heard) → h ≡ heard.NotYet → HearsNext h before after → IsUntaken old → IsFree old → IsDone (λ made. Hears place before made after) old old
unfolding IsDone Hears
not-yet place before after old h e hears untaken free = ([], record { came = came-none old untaken; good = rw e at hears }, free)

bad-of : (bad : Bad) (before after : Bytes) (h : Heard) → h ≡ heard.Bad bad → HearsNext h before after → IsBad before bad
unfolding IsBad
bad-of bad before after h e hears = let (front, same) = rw e at hears in front

bad-hears : (place : Place) (bad : Bad) (before rest : Bytes) → IsBad before bad → rest ≡ [] → Hears place before (steps.Bad place bad ∷ steps.Lost place ∷ []) rest
unfolding Hears
bad-hears place bad before rest is empty = (refl, refl, is, empty)

heard_bad : (place : Place) (bad : Bad) (before after rest : Bytes) (old new : Known) (h : Heard) → h ≡ heard.Bad bad → HearsNext h before after → rest ≡ [] → IsDone (λ made. made ≡ steps.Bad place bad ∷ steps.Lost place ∷ []) old new
    → IsDone (λ made. Hears place before made rest) old new
unfolding IsDone
heard_bad place bad before after rest old new h e hears empty (made, to, free) =
    (made, record { came = to.came; good = rw to.good (bad-hears place bad before rest (bad-of bad before after h e hears) empty) }, free)

bad-upto : (place : Place) (bad : Bad) (before : Bytes) → IsBad before bad → (made : List Step) → BadUpto place bad made → HearsUpto place before made
unfolding BadUpto HearsUpto HearsPart
bad-upto place bad before is made (inl none) = rw none (inl tt)
bad-upto place bad before is made (inr (inl one)) = rw one (inl (refl, is))
bad-upto place bad before is made (inr (inr two)) = rw two (inr ([], bad-hears place bad before [] is refl))

cut_bad_heard : (place : Place) (bad : Bad) (before after : Bytes) (old new : Known) (cause : StepRefused) (h : Heard) → h ≡ heard.Bad bad → HearsNext h before after → IsCut (BadUpto place bad) old new cause → IsCut (HearsUpto place before) old new cause
cut_bad_heard place bad before after old new cause h e hears cut =
    cut-weaker (BadUpto place bad) (HearsUpto place before) (bad-upto place bad before (bad-of bad before after h e hears)) old new cause cut

long-hears : (place : Place) (before after rest : Bytes) (h : Heard) → h ≡ heard.Long → HearsNext h before after → rest ≡ [] → Hears place before (steps.Lost place ∷ []) rest
unfolding Hears
long-hears place before after rest h e hears empty = (refl, (rw e at hears).0, empty)

heard_long : (place : Place) (before after rest : Bytes) (old new : Known) (h : Heard) → h ≡ heard.Long → HearsNext h before after → rest ≡ [] → TookStep old new (steps.Lost place) → IsDone (λ made. Hears place before made rest) old new
unfolding IsDone
heard_long place before after rest old new h e hears empty took = (_, record { came = took.came; good = long-hears place before after rest h e hears empty }, took.free)

cut_long : (place : Place) (before after : Bytes) (old new : Known) (cause : StepRefused) (h : Heard) → h ≡ heard.Long → HearsNext h before after → new ≡ old → IsUntaken old → IsStopped old (steps.Lost place) cause → IsCut (HearsUpto place before) old new cause
unfolding HearsUpto HearsPart
cut_long place before after old new cause h e hears same untaken stop =
    cut-step (HearsUpto place before) old new (steps.Lost place) cause same untaken (inl tt) (inr ([], long-hears place before after [] h e hears refl)) stop

in-upto : (place : Place) (message : Message) (len : ℕ) (before : Bytes) → front_behind before ≡ fronts.Whole len message → HearsUpto place before (steps.In place message ∷ [])
unfolding HearsUpto HearsPart
in-upto place message len before front = inl (len, refl, front, tt)

cut_in : (place : Place) (message : Message) (len : ℕ) (before : Bytes) (old new : Known) (cause : StepRefused) → front_behind before ≡ fronts.Whole len message → new ≡ old → IsUntaken old → IsStopped old (steps.In place message) cause
    → IsCut (HearsUpto place before) old new cause
unfolding HearsUpto HearsPart
cut_in place message len before old new cause front same untaken stop =
    cut-step (HearsUpto place before) old new (steps.In place message) cause same untaken (inl tt) (in-upto place message len before front) stop

pub cut_none : (place : Place) (before : Bytes) (old : Known) → IsUntaken old → IsCut (HearsUpto place before) old old refused.NoMemory
unfolding HearsUpto HearsPart
cut_none place before old untaken = cut-starved (HearsUpto place before) old untaken (inl tt)

-- ## What is answered

pub some_via : (message : Message) (before after : Bytes) (h : Heard) → h ≡ heard.Message message → HearsNext h before after → HasVia message
some_via message before after h e hears = let (len, front, rest) = rw e at hears in heard_via before len message front

pub message_heard : (place : Place) (message : Message) (before after : Bytes) (old new : Known) (h : Heard) (r : Result Bool StepRefused) → h ≡ heard.Message message → HearsNext h before after
    → IfOk r (λ more. (more ≡ true) × TookStep old new (steps.In place message) × (length old.journal < old.setup.config.journal_steps)) → IfOk r (λ more. HeardOne place before after old new more)
unfolding HeardOne
message_heard place message before after old new h (Ok more) e hears (is, took, room) = let (len, front, rest) = rw e at hears in rw is (len, message, front, rest, took, room)
message_heard place message before after old new h (Err cause) e hears done = tt

pub message_cut : (place : Place) (message : Message) (before after : Bytes) (old new : Known) (h : Heard) (r : Result Bool StepRefused) → h ≡ heard.Message message → HearsNext h before after → IsUntaken old
    → OnErr r (new ≡ old) → IfErr r (λ cause. IsStopped old (steps.In place message) cause) → IfErr r (λ cause. IsCut (HearsUpto place before) old new cause)
message_cut place message before after old new h (Ok more) e hears untaken same stop = tt
message_cut place message before after old new h (Err cause) e hears untaken same stop = let (len, front, rest) = rw e at hears in cut_in place message len before old new cause front same untaken stop

pub end_heard : (place : Place) (before after : Bytes) (old : Known) (h : Heard) → h ≡ heard.NotYet → HearsNext h before after → IsUntaken old → IsFree old → HeardOne place before after old old false
unfolding HeardOne
end_heard place before after old h e hears untaken free = not-yet place before after old h e hears untaken free

pub bad_heard : (place : Place) (bad : Bad) (before after rest : Bytes) (old new : Known) (h : Heard) (r : Result Bool StepRefused) → h ≡ heard.Bad bad → HearsNext h before after → rest ≡ []
    → IfOk r (λ more. (more ≡ false) × IsDone (λ made. made ≡ steps.Bad place bad ∷ steps.Lost place ∷ []) old new) → IfOk r (λ more. HeardOne place before rest old new more)
unfolding HeardOne
bad_heard place bad before after rest old new h (Ok more) e hears empty (is, done) = rw is (heard_bad place bad before after rest old new h e hears empty done)
bad_heard place bad before after rest old new h (Err cause) e hears empty done = tt

pub bad_cut : (place : Place) (bad : Bad) (before after : Bytes) (old new : Known) (h : Heard) (r : Result Bool StepRefused) → h ≡ heard.Bad bad → HearsNext h before after → IfErr r (λ cause. IsCut (BadUpto place bad) old new cause) → IfErr r (λ cause. IsCut (HearsUpto place before) old new cause)
bad_cut place bad before after old new h (Ok more) e hears cut = tt
bad_cut place bad before after old new h (Err cause) e hears cut = cut_bad_heard place bad before after old new cause h e hears cut

pub long_heard : (place : Place) (before after rest : Bytes) (old new : Known) (h : Heard) (r : Result Bool StepRefused) → h ≡ heard.Long → HearsNext h before after → rest ≡ [] → IfOk r (λ more. (more ≡ false) × TookStep old new (steps.Lost place))
    → IfOk r (λ more. HeardOne place before rest old new more)
unfolding HeardOne
long_heard place before after rest old new h (Ok more) e hears empty (is, took) = rw is (heard_long place before after rest old new h e hears empty took)
long_heard place before after rest old new h (Err cause) e hears empty done = tt

pub long_cut : (place : Place) (before after : Bytes) (old new : Known) (h : Heard) (r : Result Bool StepRefused) → h ≡ heard.Long → HearsNext h before after → IsUntaken old → OnErr r (new ≡ old) → IfErr r (λ cause. IsStopped old (steps.Lost place) cause)
    → IfErr r (λ cause. IsCut (HearsUpto place before) old new cause)
long_cut place before after old new h (Ok more) e hears untaken same stop = tt
long_cut place before after old new h (Err cause) e hears untaken same stop = cut_long place before after old new cause h e hears same untaken stop

-- ## One after another

-- what holds between messages: what the rest of the bytes makes is the rest of what all make
pub record IsHearing (place : Place) (all bytes : Bytes) (first known : Known) : Type 0 where
  pub free : IsFree known
  pub made : List Step
  pub came : Came first known made
  pub whole : (more : List Step) (rest : Bytes) → Hears place bytes more rest → Hears place all (made ++ more) rest
  pub part : (more : List Step) → HearsPart place bytes more → HearsPart place all (made ++ more)

pub hearing_start : (place : Place) (all : Bytes) (known : Known) → IsUntaken known → IsFree known → IsHearing place all all known known
hearing_start place all known untaken free = record { free = free; made = []; came = came-none known untaken; whole = λ more rest hears. hears; part = λ more hears. hears }

in-whole : (place : Place) (message : Message) (len : ℕ) (before after : Bytes) (more : List Step) (rest : Bytes) → front_behind before ≡ fronts.Whole len message → after ≡ drop len (behind_breaks before) → Hears place after more rest
    → Hears place before (steps.In place message ∷ more) rest
unfolding Hears
in-whole place message len before after more rest front after_is hears = (len, refl, front, rw after_is at hears)

in-part : (place : Place) (message : Message) (len : ℕ) (before after : Bytes) (more : List Step) → front_behind before ≡ fronts.Whole len message → after ≡ drop len (behind_breaks before) → HearsPart place after more
    → HearsPart place before (steps.In place message ∷ more)
unfolding HearsPart
in-part place message len before after more front after_is hears = (len, refl, front, rw after_is at hears)

append-one : (made : List Step) (step : Step) (more : List Step) → (made ++ step ∷ []) ++ more ≡ made ++ step ∷ more
append-one [] step more = refl
append-one (m ∷ made) step more = ap (λ (ms : List Step). m ∷ ms) (append-one made step more)

pub hearing_step : (place : Place) (all before after : Bytes) (first old new : Known) → IsHearing place all before first old → HeardOne place before after old new true → IsHearing place all after first new
unfolding HeardOne
hearing_step place all before after first old new is (len, message, front, after_is, took, room) = record {
  free = took.free;
  made = is.made ++ steps.In place message ∷ [];
  came = came-on first old new is.made (steps.In place message ∷ []) is.came took.came;
  whole = λ more rest hears. rw (append-one is.made (steps.In place message) more) (is.whole (steps.In place message ∷ more) rest (in-whole place message len before after more rest front after_is hears));
  part = λ more hears. rw (append-one is.made (steps.In place message) more) (is.part (steps.In place message ∷ more) (in-part place message len before after more front after_is hears));
}

pub less_left : (place : Place) (before after : Bytes) (old new : Known) → HeardOne place before after old new true → new.setup.config.journal_steps - length new.journal < old.setup.config.journal_steps - length old.journal
unfolding HeardOne
less_left place before after old new (len, message, front, after_is, took, room) =
    let long = length-append old.journal (steps.In place message ∷ []) in
    let setup = ap (λ (s : Setup). s.config.journal_steps) took.came.setup_is in
    let journal = ap length took.came.journal_is in
    omega (arith, long, setup, journal, room)

pub hearing_end : (place : Place) (all before after : Bytes) (first old new : Known) → IsHearing place all before first old → HeardOne place before after old new false → IsDone (λ made. Hears place all made after) first new
unfolding HeardOne IsDone
hearing_end place all before after first old new is (made, to, free) =
    (is.made ++ made, record { came = came-on first old new is.made made is.came to.came; good = is.whole made after to.good }, free)

on-upto : (place : Place) (all before : Bytes) (first old : Known) (is : IsHearing place all before first old) (more : List Step) → HearsUpto place before more → HearsUpto place all (is.made ++ more)
unfolding HearsUpto
on-upto place all before first old is more (inl part) = inl (is.part more part)
on-upto place all before first old is more (inr (rest, whole)) = inr (rest, is.whole more rest whole)

on-due : (place : Place) (all before : Bytes) (first old new : Known) (is : IsHearing place all before first old) (more : List Step) (cause : StepRefused) → HasDue (HearsUpto place before) new more cause → HasDue (HearsUpto place all) new (is.made ++ more) cause
unfolding HasDue
on-due place all before first old new is more refused.NoMemory due = tt
on-due place all before first old new is more (refused.JournalFull steps bytes) (step, due, good) =
    (step, due, rw (append_assoc is.made more (step ∷ [])) (on-upto place all before first old is (more ++ step ∷ []) good))

hearing-cut : (place : Place) (all before : Bytes) (first old new : Known) (cause : StepRefused) → IsHearing place all before first old → IsCut (HearsUpto place before) old new cause → IsCut (HearsUpto place all) first new cause
unfolding IsCut
hearing-cut place all before first old new cause is (more, to, due) =
    (is.made ++ more, record { came = came-on first old new is.made more is.came to.came; good = on-upto place all before first old is more to.good }, on-due place all before first old new is more cause due)

-- the cause that is handed on
pub heard_on : {A : Type 0} (place : Place) (all before : Bytes) (first old new : Known) (r : Result A StepRefused) (cause : StepRefused) → IsErrAnd r (λ e. e ≡ cause) → IsHearing place all before first old → IsCut (HearsUpto place before) old new cause
    → IfErr r (λ e. IsCut (HearsUpto place all) first new e)
heard_on place all before first old new (Ok a) cause is_cause is cut = tt
heard_on place all before first old new (Err e) cause is_cause is cut = subst (λ (c : StepRefused). IsCut (HearsUpto place all) first new c) (sym is_cause) (hearing-cut place all before first old new cause is cut)
