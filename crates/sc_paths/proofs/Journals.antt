-- The journal that the run of a script makes, its servlets keeping to theirs.
use Rattle.std.specs.Prelude.{ℕ, zero, suc, List, [], ◌∷◌, ◌++◌, Option, None, Some}
use Rattle.std.specs.List.{slice_get, fold}
use Rattle.sc_value.specs.declared.ids.AppId.{AppId}
use Rattle.sc_terms.specs.declared.calls.End.TheVariants as ends
use Rattle.sc_terms.specs.declared.steps.Step.{Step}
use Rattle.sc_terms.specs.declared.steps.Step.TheVariants as steps
use Rattle.sc_parts.specs.declared.setup.Setup.{Setup}
use Rattle.sc_state.specs.declared.host.Live.{Live}
use Rattle.sc_state.specs.declared.net.Net.{Net}
use Rattle.sc_state.specs.declared.queue.Waiting.{Waiting}
use Rattle.sc_state.specs.declared.session.Session.{Session}
use Rattle.sc_state.specs.declared.working.Prepared.{Prepared}
use Rattle.sc_tokens.specs.Bytes.{Bytes}
use Rattle.sc_model.specs.Settings.{charters_of}
use Rattle.sc_hosts.specs.Histories.{as_session}
use Rattle.sc_hosts.specs.Runs.{start, after_step, prepared_turn as shown}
use Rattle.sc_hosts.specs.Scripting.{calls_of_script as played}
use Rattle.sc_hosts.specs.Steps.{live_at}
use Rattle.sc_worked.proofs.Playing.{Act, Take, Run, Turn_of, Drop_of, Next, script_at, nexts, lowest}
use Rattle.sc_worked.proofs.Trying.{acts_in}
use Rattle.sc_script.specs.ScriptTexts.{script_of}
use Rattle.sc_paths.specs.Moments.{Moment, moments}

pub record Gone : Type 0 where
  pub net : Net Session
  pub journal : List Step

unfoldable pub goes : Setup → Gone → Step → Gone
goes setup gone step = record { net = after_step as_session setup gone.net step; journal = gone.journal ++ step ∷ [] }

unfoldable pub turns_on : Setup → Gone → AppId → Live Session → Option Waiting → Gone
turns_on setup gone app live None = gone
turns_on setup gone app live (Some waiting) =
    let seen : Prepared = shown as_session setup gone.net app live waiting gone.net.moment in
    goes setup gone (steps.Turn ends.Fine app waiting.number gone.net.moment (played seen.view (script_at (charters_of setup app.host) seen.view seen.event)))

unfoldable pub turns_by : Setup → Gone → AppId → Option (Live Session) → Gone
turns_by setup gone app None = gone
turns_by setup gone app (Some live) = turns_on setup gone app live (slice_get live.inbox 0)

unfoldable pub runs_on : Setup → ℕ → Gone → Option Next → Gone
runs_on setup fuel gone None = gone
runs_on setup zero gone (Some next) = gone
runs_on setup (suc fuel) gone (Some next) =
    let after : Gone = turns_by setup gone next.app (live_at next.app gone.net) in runs_on setup fuel after (lowest (nexts 0 after.net.hosts))

unfoldable pub drops_by : Setup → Gone → AppId → Option (Live Session) → Gone
drops_by setup gone app None = gone
drops_by setup gone app (Some live) = goes setup gone (steps.Withdraw app)

unfoldable pub acts : Setup → Gone → Act → Gone
acts setup gone (Take step) = goes setup gone step
acts setup gone Run = runs_on setup 200 gone (lowest (nexts 0 gone.net.hosts))
acts setup gone (Drop_of app) = drops_by setup gone app (live_at app gone.net)
acts setup gone (Turn_of app) = turns_by setup gone app (live_at app gone.net)

unfoldable pub journal_of : Setup → Bytes → List Step
journal_of setup script = (fold (acts setup) (record { net = start setup 0 0; journal = [] }) (acts_in (script_of script))).journal

unfoldable pub run_of : Setup → Bytes → List Moment
run_of setup script = moments setup 0 0 (journal_of setup script)
