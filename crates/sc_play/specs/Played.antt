-- How far a switch came in a recording, and what was written of it. Recordings are this project's
-- own.
use Rattle.std.specs.Prelude.{◌≡◌, ℕ, ◌++◌, List, [], ◌∷◌, Option, length, min}
use Rattle.std.specs.List.{flat_map, sum_by}
use Rattle.sc_terms.specs.declared.steps.Step.{Step}
use Rattle.sc_parts.specs.declared.setup.Setup.{Setup}
use Rattle.sc_tokens.specs.Bytes.{Bytes}
use Rattle.sc_edge.specs.Shelving.{GivesAll}
use Rattle.sc_edge.specs.Taking.{Takes}
use Rattle.sc_model.specs.Records.{end_text, records}
use Rattle.sc_model.specs.Settings.{Charters}
use Rattle.sc_hosts.specs.Histories.{as_session}
use Rattle.sc_hosts.specs.Runs.{AreLawful, Epoch, IsLawfulAfter, after_step, all_sent_by, live_count, net_of as net_after}
use Rattle.sc_recording.specs.StepTexts.{epoch_text, step_text, steps_text}
use Rattle.sc_replay.specs.Replaying.{TellsSetup, Told}
use Rattle.sc_switch.specs.declared.refused.Epoch.{Epoch as Ended}
use Rattle.sc_switch.specs.Answers.{IsTurned, handing}
use Rattle.sc_switch.specs.Standing.{Known, net_of, whole}
use Rattle.sc_play.specs.declared.running.Counts.{Counts}

-- the text of an epoch that ended: its steps, and the line of its end
unfoldable pub whole_text : Epoch → Bytes
whole_text epoch = steps_text epoch.journal ++ epoch_text epoch.number epoch.began

-- the text of epochs that ended, one after the other
unfoldable pub ended_text : List Epoch → Bytes
ended_text epochs = flat_map whole_text epochs

-- how many steps epochs have
unfoldable pub steps_in : List Epoch → ℕ
steps_in epochs = sum_by (λ epoch. length epoch.journal) epochs

-- a count of 64 bits stays at its greatest value
abbrev pub capped_count : ℕ → ℕ
capped_count n = min n 18446744073709551615

-- what is written of a run whose last epoch goes on: a record for each message that its epochs
-- send, in the order of sending, and the last line, which has how many steps and messages these are
-- and how many sessions live on
unfoldable pub run_output : Setup → List Epoch → Epoch → Bytes
run_output setup ended running =
    let sent = all_sent_by as_session setup (ended ++ running ∷ []) in
    records sent
    ++ end_text (capped_count (steps_in (ended ++ running ∷ []))) (capped_count (length sent))
    (live_count (net_after as_session setup running))

-- what was lent out is another matter
unfoldable pub Lent : Known → Known → Type 0
Lent old new = new ≡ record old { kept = new.kept; leases = new.leases }

-- this step more was taken, whatever was lent out; what it sends is left to be put
pub record TookStep (old new : Known) (step : Step) : Type 0 where
  pub setup_is : new.setup ≡ old.setup
  pub epoch_is : new.epoch ≡ old.epoch
  pub began_is : new.began ≡ old.began
  pub handed_is : new.handed ≡ old.handed
  pub journal_is : new.journal ≡ old.journal ++ step ∷ []
  pub left_is : new.left ≡ old.left ++ (after_step as_session old.setup (net_of old) step).sent

-- a step more was taken
unfoldable pub Took : Known → Known → Type 0
Took old new = (step : Step) × TookStep old new step

-- a step more was taken and handed on, and its text has these bytes
pub record IsRow (old new : Known) (bytes : Bytes) : Type 0 where
  pub step : Step
  pub taken : Known
  pub took : TookStep old taken step
  pub new_is : new ≡ handing taken
  pub text_is : bytes ≡ step_text step

-- the epoch ended, and the line of its end has these bytes
pub record IsEnd (old new : Known) (bytes : Bytes) : Type 0 where
  pub ended : Ended
  pub turned : IsTurned old new ended
  pub text_is : bytes ≡ epoch_text ended.number ended.began

-- the running epoch of a switch
unfoldable pub running : Known → Epoch
running known = record { number = known.epoch; began = known.began; journal = whole known }

-- nothing was counted yet
abbrev pub nothing_counted : Counts
nothing_counted = record { steps = 0; sent = 0 }

-- the switch stands behind a recording's text: it is that of the epochs that ended and of the steps
-- of the running one, all of which it has handed on; and with lawful epochs behind them, the run is
-- lawful. All that they send was put, between the two moments of a sink, and counted
pub record IsPlayed (setup : Setup) (text : Bytes) (known : Known) (counts : Counts)
    (first now : Option Bytes) : Type 0 where
  pub ended : List Epoch
  pub text_is : text ≡ ended_text ended ++ steps_text (whole known)
  pub lawful : (later : List Epoch) → IsLawfulAfter as_session setup known.epoch known.began later
      → AreLawful as_session setup (ended ++ later)
  pub setup_is : known.setup ≡ setup
  pub journal_is : known.journal ≡ []
  pub left_is : known.left ≡ []
  pub takes : Takes first now (records (all_sent_by as_session setup (ended ++ running known ∷ [])))
  pub steps_is : counts.steps ≡ capped_count (steps_in (ended ++ running known ∷ []))
  pub sent_is : counts.sent
      ≡ capped_count (length (all_sent_by as_session setup (ended ++ running known ∷ [])))

-- the text is the recording of a lawful run: of epochs that ended, and of one that goes on; and
-- what is written of that run was put between the two moments of a sink
pub record IsRecording (setup : Setup) (text : Bytes) (first now : Option Bytes) : Type 0 where
  pub ended : List Epoch
  pub running : Epoch
  pub text_is : text ≡ ended_text ended ++ steps_text running.journal
  pub lawful : AreLawful as_session setup (ended ++ running ∷ [])
  pub output_is : Takes first now (run_output setup ended running)

-- so is a text that is told, where one is
pub record IsRecorded (setup : Setup) (told : Option Bytes)
    (first now : Option Bytes) : Type 0 where
  pub text : Bytes
  pub told_is : GivesAll text told
  pub recording : IsRecording setup text first now

-- the third text is the recording of a lawful run under the settings that the first two are, and
-- what is written of that run was put
pub record PlaysBack (names : List Bytes) (kinds : List Charters) (told : Told)
    (first now : Option Bytes) : Type 0 where
  pub setup : Setup
  pub settings : TellsSetup names kinds told setup
  pub recorded : IsRecorded setup told.script first now
