-- What a recorder wrote in two turns.
use Rattle.std.proofs.Common.{◌≡◌, ℕ, List, [], ◌∷◌, ◌++◌, refl, sym, ap, subst, ◌∙◌, inl}
use Rattle.std.proofs.lemmas.Grind.{flat_map-append}
use Rattle.std.proofs.lemmas.List.{append-nil}
use Rattle.std.specs.List.{flat_map}
use Rattle.std.proofs.lemmas.Bool.{false≢true}
use Rattle.std.specs.Prelude.{take, Option, None, Some, Result, Ok, Err, ⊤, OnOk, OnErr, is_none, true, false}
use Rattle.std.proofs.lemmas.Option.{none-some}
use Rattle.sc_edge.specs.declared.listing.Listing.{Listing}
use Rattle.sc_edge.specs.declared.notice.Noted.{Noted}
use Rattle.sc_edge.specs.declared.notice.Noted.TheVariants as noted
use Rattle.sc_tokens.specs.Bytes.{Bytes}
use Rattle.sc_journal.specs.Kept.{Kept}
use Rattle.sc_recording.specs.StepTexts.{epoch_text, steps_text}
use Rattle.sc_terms.specs.declared.steps.Step.{Step}
use Rattle.sc_edge.specs.Telling.{IsTold, Notes}
use Rattle.sc_edge.specs.Taking.{Takes, TakesPart, Takes_none, Takes_then, TakesPart_then, TakesPart_front}
use Rattle.sc_recorder.specs.declared.writing.Unrecorded.{Unrecorded}
use Rattle.sc_recorder.specs.Recorded.{IsRecorded, Records, cause_after, noted_text, told_text}

-- nothing is written of what is no step
pub records_none : (cause : Option Unrecorded) (a : Option Bytes) → Records cause cause a a []
unfolding Records
records_none None a = Takes_none a
records_none (Some cause) a = (refl, refl)

-- a text, and then another
pub records_then : (c0 c1 c2 : Option Unrecorded) (a b c : Option Bytes) (x y : Bytes) → Records c0 c1 a b x → Records c1 c2 b c y → Records c0 c2 a c (x ++ y)
unfolding Records
records_then None None None a b c x y first second = Takes_then a b c x y first second
records_then None None (Some cause) a b c x y first second = TakesPart_then a b c x y first second
records_then None (Some cause) None a b c x y first second = absurd (none-some cause second.0)
records_then None (Some cause) (Some later) a b c x y first second = subst (λ (m : Option Bytes). TakesPart a m (x ++ y)) (sym second.1) (TakesPart_front a b x y first)
records_then (Some before) None c2 a b c x y first second = absurd (none-some before first.0)
records_then (Some before) (Some cause) c2 a b c x y first second = (second.0 ∙ first.0, second.1 ∙ first.1)

-- a text was put before the first failure, and what became of it is remembered
pub records_put : (before after : Option Unrecorded) (put : Result ⊤ Unrecorded) (a b : Option Bytes) (text : Bytes) → is_none before ≡ true → after ≡ cause_after before put → OnOk put (Takes a b text) → OnErr put (TakesPart a b text) → Records before after a b text
unfolding Records cause_after
records_put None after (Ok tt) a b text none is takes part = subst (λ (cause : Option Unrecorded). Records None cause a b text) (sym is) takes
records_put None after (Err cause) a b text none is takes part = subst (λ (c : Option Unrecorded). Records None c a b text) (sym is) part
records_put (Some cause) after put a b text none is takes part = absurd (false≢true none)

-- nothing is put after it
pub records_over : (before : Option Unrecorded) (a : Option Bytes) (text : Bytes) → is_none before ≡ false → Records before before a a text
unfolding Records
records_over None a text some = absurd (false≢true (sym some))
records_over (Some cause) a text some = (refl, refl)

-- ## All that was told

-- a sink that had taken nothing, and what it took since then
abbrev BeganSo : Option Unrecorded → Option Bytes → Bytes → Type 0
BeganSo cause took text = (first : Option Bytes) × IsTold first [] × Records None cause first took text

began-so : (cause : Option Unrecorded) (took : Option Bytes) (text : Bytes) → IsRecorded cause took text → BeganSo cause took text
unfolding IsRecorded Records
began-so None None text is = (None, tt, refl)
began-so None (Some bytes) text is = (Some [], refl, ap (λ (b : Bytes). Some b) (sym is))
began-so (Some cause) None text (count, is) = (None, tt, (count, refl))
began-so (Some cause) (Some bytes) text (count, is) = (Some [], refl, (count, ap (λ (b : Bytes). Some b) (sym is)))

told-none : (took : Option Bytes) (text : Bytes) → took ≡ None → IsTold took text
told-none took text is = rw is tt

told-some : (took : Option Bytes) (first text : Bytes) → [] ≡ first → took ≡ Some (first ++ text) → IsTold took text
told-some took first text none is = rw (is, sym none) refl

recorded-so : (cause : Option Unrecorded) (took : Option Bytes) (text : Bytes) → BeganSo cause took text → IsRecorded cause took text
unfolding IsRecorded Records
recorded-so None took text (None, none, is) = told-none took text is
recorded-so None took text (Some first, none, is) = told-some took first text none is
recorded-so (Some cause) took text (None, none, (count, is)) = (count, told-none took (take count text) is)
recorded-so (Some cause) took text (Some first, none, (count, is)) = (count, told-some took first (take count text) none is)

more-so : (c0 c1 : Option Unrecorded) (a b : Option Bytes) (x y : Bytes) → BeganSo c0 a x → Records c0 c1 a b y → BeganSo c1 b (x ++ y)
more-so c0 c1 a b x y (first, none, is) records = (first, none, records_then None c0 c1 first a b x y is records)

text-then : (told : List (Noted (Kept Step))) (item : Noted (Kept Step)) → told_text (told ++ item ∷ []) ≡ told_text told ++ noted_text item
unfolding told_text
text-then told item = flat_map-append noted_text told (item ∷ []) ∙ ap (λ (text : Bytes). flat_map noted_text told ++ text) (append-nil (noted_text item))

pub recorded_none : (took : Option Bytes) → IsTold took [] → IsRecorded None took (told_text [])
unfolding IsRecorded told_text
recorded_none took none = none

-- one item more
recorded-then : (told : List (Noted (Kept Step))) (item : Noted (Kept Step)) (c0 c1 : Option Unrecorded) (a b : Option Bytes)
    → IsRecorded c0 a (told_text told) → Records c0 c1 a b (noted_text item) → IsRecorded c1 b (told_text (told ++ item ∷ []))
recorded-then told item c0 c1 a b is records =
    subst (λ (text : Bytes). IsRecorded c1 b text) (sym (text-then told item)) (recorded-so c1 b (told_text told ++ noted_text item) (more-so c0 c1 a b (told_text told) (noted_text item) (began-so c0 a (told_text told) is) records))

-- a count of steps, and what lives
pub recorded_step : (told : List (Noted (Kept Step))) (count : ℕ) (cause : Option Unrecorded) (a : Option Bytes) → IsRecorded cause a (told_text told) → IsRecorded cause a (told_text (told ++ noted.Step count ∷ []))
unfolding noted_text
recorded_step told count cause a is = recorded-then told (noted.Step count) cause cause a a is (records_none cause a)

pub recorded_list : (told : List (Noted (Kept Step))) (listing : Listing) (cause : Option Unrecorded) (a : Option Bytes) → IsRecorded cause a (told_text told) → IsRecorded cause a (told_text (told ++ noted.List listing ∷ []))
unfolding noted_text
recorded_list told listing cause a is = recorded-then told (noted.List listing) cause cause a a is (records_none cause a)

-- steps that were handed on, and the end of an epoch
pub recorded_part : (told : List (Noted (Kept Step))) (journal : Kept Step) (c0 c1 : Option Unrecorded) (a b : Option Bytes)
    → IsRecorded c0 a (told_text told) → Records c0 c1 a b (steps_text journal.items) → IsRecorded c1 b (told_text (told ++ noted.Part journal ∷ []))
unfolding noted_text
recorded_part told journal c0 c1 a b is records = recorded-then told (noted.Part journal) c0 c1 a b is records

pub recorded_epoch : (told : List (Noted (Kept Step))) (number began : ℕ) (journal : Kept Step) (c0 c1 : Option Unrecorded) (a b : Option Bytes)
    → IsRecorded c0 a (told_text told) → Records c0 c1 a b (steps_text journal.items ++ epoch_text number began) → IsRecorded c1 b (told_text (told ++ noted.Epoch number began journal ∷ []))
unfolding noted_text
recorded_epoch told number began journal c0 c1 a b is records = recorded-then told (noted.Epoch number began journal) c0 c1 a b is records

-- an item more was told
pub notes_and : {A : Type 0} (told now : List A) (item : A) → now ≡ told ++ item ∷ [] → Notes (Some told) (Some now) item
notes_and {A = A} told now item is = inl (ap (λ (items : List A). Some items) is)
