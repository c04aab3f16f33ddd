-- What a notice was told, as text.
use Rattle.std.proofs.Common.{◌≡◌, ℕ, List, [], ◌∷◌, ◌++◌, append_assoc, Option, None, Some, refl, sym, ap, subst, ◌∙◌, inl, inr}
use Rattle.std.proofs.lemmas.Grind.{flat_map-append}
use Rattle.std.proofs.lemmas.List.{append-nil}
use Rattle.std.specs.List.{flat_map, fold}
use Rattle.sc_edge.specs.declared.notice.Noted.{Noted}
use Rattle.sc_edge.specs.declared.notice.Noted.TheVariants as noted
use Rattle.sc_tokens.specs.Bytes.{Bytes}
use Rattle.sc_journal.specs.Kept.{Kept}
use Rattle.sc_terms.specs.declared.steps.Step.{Step}
use Rattle.sc_courses.specs.Courses.{TellsEpochs, Telling, Told, told_by, with_item}
use Rattle.sc_hosts.specs.Runs.{Epoch}
use Rattle.sc_play.specs.Played.{ended_text, whole_text}
use Rattle.sc_recorder.specs.Recorded.{IsRecorded, noted_text, told_text}
use Rattle.sc_recorder.specs.declared.writing.Unrecorded.{Unrecorded}
use Rattle.sc_recorder.proofs.StepLists.{steps-append}
use Rattle.sc_recording.specs.StepTexts.{epoch_text, steps_text}
use Rattle.sc_switch.specs.declared.ran.Ran.{Ran}
use Rattle.sc_switch.specs.declared.ran.Status.{Status}
use Rattle.sc_tape.specs.Taped.{IsRecordingOf, IsTaped, kept_text, status_after}

-- the text of epochs that ended, and of steps of the one that runs
abbrev telling-text : Telling → Bytes
telling-text telling = ended_text telling.ended ++ steps_text telling.handed

ended-one : (ended : List Epoch) (epoch : Epoch) → ended_text (ended ++ epoch ∷ []) ≡ ended_text ended ++ (steps_text epoch.journal ++ epoch_text epoch.number epoch.began)
unfolding ended_text whole_text
ended-one ended epoch =
    flat_map-append whole_text ended (epoch ∷ []) ∙ ap (λ (text : Bytes). flat_map whole_text ended ++ text) (append-nil (steps_text epoch.journal ++ epoch_text epoch.number epoch.began))

no-steps : steps_text [] ≡ []
unfolding steps_text
no-steps = refl

part-text : (telling : Telling) (more : List Step) → ended_text telling.ended ++ steps_text (telling.handed ++ more) ≡ (ended_text telling.ended ++ steps_text telling.handed) ++ steps_text more
part-text telling more =
    ap (λ (text : Bytes). ended_text telling.ended ++ text) (steps-append telling.handed more) ∙ sym (append_assoc (ended_text telling.ended) (steps_text telling.handed) (steps_text more))

epoch-text : (telling : Telling) (number began : ℕ) (more : List Step)
    → ended_text (telling.ended ++ record { number = number; began = began; journal = telling.handed ++ more } ∷ []) ++ steps_text [] ≡ (ended_text telling.ended ++ steps_text telling.handed) ++ (steps_text more ++ epoch_text number began)
epoch-text telling number began more =
    let es : Bytes = ended_text telling.ended in
    let hs : Bytes = steps_text telling.handed in
    let ms : Bytes = steps_text more in
    let end : Bytes = epoch_text number began in
    ap (λ (text : Bytes). ended_text (telling.ended ++ record { number = number; began = began; journal = telling.handed ++ more } ∷ []) ++ text) no-steps
    ∙ (append-nil (ended_text (telling.ended ++ record { number = number; began = began; journal = telling.handed ++ more } ∷ []))
    ∙ (ended-one telling.ended (record { number = number; began = began; journal = telling.handed ++ more })
    ∙ (ap (λ (text : Bytes). es ++ (text ++ end)) (steps-append telling.handed more)
    ∙ (ap (λ (text : Bytes). es ++ text) (append_assoc hs ms end) ∙ sym (append_assoc es hs (ms ++ end))))))

item-text : (telling : Telling) (item : Noted (Kept Step)) → telling-text (with_item telling item) ≡ telling-text telling ++ noted_text item
unfolding with_item noted_text
item-text telling (noted.Step count) = sym (append-nil (telling-text telling))
item-text telling (noted.Part journal) = part-text telling journal.items
item-text telling (noted.Epoch number began journal) = epoch-text telling number began journal.items
item-text telling (noted.List listing) = sym (append-nil (telling-text telling))

items-text : (telling : Telling) (items : List (Noted (Kept Step))) → telling-text (fold with_item telling items) ≡ telling-text telling ++ told_text items
unfolding told_text
items-text telling [] = sym (append-nil (telling-text telling))
items-text telling (item ∷ items) =
    items-text (with_item telling item) items ∙ (ap (λ (text : Bytes). text ++ flat_map noted_text items) (item-text telling item) ∙ append_assoc (telling-text telling) (noted_text item) (flat_map noted_text items))

nothing-text : telling-text (record { ended = []; handed = [] }) ≡ []
unfolding ended_text steps_text
nothing-text = refl

told-text : (items : List (Noted (Kept Step))) (telling : Telling) → told_by items ≡ telling → told_text items ≡ telling-text telling
unfolding told_by
told-text items telling is =
    sym (ap (λ (text : Bytes). text ++ told_text items) nothing-text) ∙ (sym (items-text (record { ended = []; handed = [] }) items) ∙ ap telling-text is)

some-same : {A : Type 0} (x y : A) → Some x ≡ Some y → x ≡ y
some-same x y is = cc

none-told : {A : Type 0} {P : Type 0} (x : A) → Some x ≡ None → P
none-told x is = cc

tells-text : (told : List (Noted (Kept Step))) (telling : Telling) → TellsEpochs (Some []) (Some told) telling → told_text told ≡ telling-text telling
unfolding TellsEpochs
tells-text told telling (inl (items, is, by)) = ap told_text (some-same told items is) ∙ told-text items telling by
tells-text told telling (inr none) = none-told told none

-- the recorder was told all, and then took what the journal had left
pub recording_of : (cause : Option Unrecorded) (took : Option Bytes) (told : List (Noted (Kept Step))) (journal : Option (Kept Step)) (text : Bytes) → text ≡ told_text told ++ kept_text journal → IsRecorded cause took text
    → IsRecordingOf cause took (Some told) journal
unfolding IsRecordingOf
recording_of cause took told journal text is recorded ended handed tells =
    subst (λ (t : Bytes). IsRecorded cause took t)
    (is ∙ (ap (λ (t : Bytes). t ++ kept_text journal) (tells-text told (record { ended = ended; handed = handed }) tells) ∙ append_assoc (ended_text ended) (steps_text handed) (kept_text journal))) recorded

pub taped_of : (serves : Told → Ran → Type 0) (told : List (Noted (Kept Step))) (ran : Ran) (cause : Option Unrecorded) (status : Status) (took : Option Bytes) (text : Bytes) → serves (Some told) ran → status ≡ status_after cause ran.status
    → text ≡ told_text told ++ kept_text ran.journal → IsRecorded cause took text → IsTaped serves status took
taped_of serves told ran cause status took text served status_is is recorded = record {
  told = told;
  ran = ran;
  served = served;
  cause = cause;
  status_is = status_is;
  recording = recording_of cause took told ran.journal text is recorded;
}

-- ## What is kept at the end

pub kept_none : (told : List (Noted (Kept Step))) → told_text told ≡ told_text told ++ kept_text None
unfolding kept_text
kept_none told = sym (append-nil (told_text told))

pub kept_some : (told : List (Noted (Kept Step))) (journal : Kept Step) → told_text (told ++ noted.Part journal ∷ []) ≡ told_text told ++ kept_text (Some journal)
unfolding kept_text told_text noted_text
kept_some told journal = flat_map-append noted_text told (noted.Part journal ∷ []) ∙ ap (λ (text : Bytes). flat_map noted_text told ++ text) (append-nil (steps_text journal.items))
