-- Worked cases as text: a case has its set-up, its script and what the run writes.
use Rattle.std.specs.Prelude.{ℕ, pos, List, [], ◌∷◌, Bool, false, None, Some, Result, Ok, Err, codes}
use Rattle.std.specs.List.{list_all, flat_map}
use Rattle.sc_value.specs.declared.ids.Place.{Place}
use Rattle.sc_value.specs.declared.ids.Region.TheVariants.{Neutral}
use Rattle.sc_value.specs.declared.message.Message.{Message}
use Rattle.sc_tokens.specs.Names.{same_bytes}
use Rattle.sc_terms.specs.declared.charters.Charter.TheVariants as charters
use Rattle.sc_terms.specs.declared.charters.ListenerCharter.TheVariants as listeners
use Rattle.sc_terms.specs.declared.settings.AppEntry.{AppEntry}
use Rattle.sc_terms.specs.declared.settings.Config.{Config}
use Rattle.sc_terms.specs.declared.settings.MethodList.{MethodList}
use Rattle.sc_terms.specs.declared.settings.Modifier.TheVariants.{NoRoute}
use Rattle.sc_terms.specs.declared.settings.Tuple.{Tuple}
use Rattle.sc_terms.specs.declared.steps.Line.{Line}
use Rattle.sc_terms.specs.declared.steps.Line.TheVariants as lines
use Rattle.sc_terms.specs.declared.steps.Step.TheVariants as steps
use Rattle.sc_parts.specs.declared.setup.Setup.{Setup}
use Rattle.sc_tokens.specs.Bytes.{Bytes}
use Rattle.sc_syntax.specs.Messages.{message_of}
use Rattle.sc_syntax.specs.UriParts.{Fault}
use Rattle.sc_script.specs.ScriptTexts.{Fault as ScriptFault, script_of}
use Rattle.sc_model.specs.Settings.{Charters}
use Rattle.sc_worked.proofs.Playing.{Act, Take, Run, Turn_of, Drop_of, output_of}

-- ## Set-ups

-- the kinds of the catalogue, in their order
unfoldable pub kinds : List Charters
kinds =
    (charters.Answer, None) ∷ (charters.Block, None) ∷ (charters.Forward, None) ∷ (charters.Fork, None) ∷ (charters.Recorder, None)
    ∷ (charters.B2b, None) ∷ (charters.Dial, None) ∷ (charters.Reverse, None) ∷ (charters.Ringer, Some listeners.ExtendOnce) ∷ (charters.Early, None) ∷ (charters.Timed, None)
    ∷ (charters.Notify, None) ∷ []

-- an application of the kind at this place, with these parameters
unfoldable pub app : Bytes → ℕ → List Bytes → AppEntry
app name kind params = record { name = name; kind = kind; params = params; expires = pos 3 }

unfoldable pub settings : List AppEntry → Config
settings apps = record {
  listen = (127 ∷ 0 ∷ 0 ∷ 1 ∷ [], 5060);
  domain = codes "home.test";
  salt = codes "s1";
  workers = 2;
  stop_after = 0;
  journal_steps = 1000000;
  journal_bytes = 67108864;
  epoch_steps = 0;
  journal_parts = false;
  reuse = false;
  recording = None;
  hosts = [];
  app = apps;
}

-- the application at this place, by the caller
unfoldable pub tuple : ℕ → Tuple
tuple place = record { app = place; subscriber = codes "DAR:From"; region = Neutral; route = None; modifier = NoRoute }

unfoldable pub set_up : List AppEntry → List MethodList → Setup
set_up apps table = record { config = settings apps; dar = record { lists = table }; kinds = kinds }

-- ## Scripts

unfoldable pub taken_in : Place → Result Message Fault → List Act
taken_in place (Ok message) = Take (steps.In place message) ∷ []
taken_in place (Err fault) = []

-- the acts of a line; the bytes of an `in` are one message
unfoldable pub acts_of : Line → List Act
acts_of (lines.In place text) = taken_in place (message_of text)
acts_of (lines.Turn app) = Turn_of app ∷ []
acts_of lines.Run = Run ∷ []
acts_of (lines.Tick moment) = Take (steps.Tick moment) ∷ []
acts_of (lines.Lost place) = Take (steps.Lost place) ∷ []
acts_of (lines.Drop app) = Drop_of app ∷ []
acts_of lines.End = []

unfoldable pub acts_in : Result (List Line) ScriptFault → List Act
acts_in (Ok lines) = flat_map acts_of lines
acts_in (Err fault) = []

-- ## Cases

pub record Case : Type 0 where
  pub setup : Setup
  pub script : Bytes
  pub output : Bytes

-- the run of the script writes this
unfoldable pub is_right : Case → Bool
is_right case = same_bytes (output_of case.setup (acts_in (script_of case.script))) case.output

unfoldable pub are_right : List Case → Bool
are_right cases = list_all is_right cases
