-- A net whose sessions are changed: which journals follow a script, and what their output is.
use Rattle.std.proofs.Common.{refl, sym, ◌∙◌, inl, inr}
use Rattle.std.specs.Prelude.{◌≡◌, List, [], ◌∷◌, is_some}
use Rattle.sc_terms.specs.declared.steps.Line.{Line}
use Rattle.sc_terms.specs.declared.steps.Line.TheVariants as lines
use Rattle.sc_terms.specs.declared.steps.Step.{Step}
use Rattle.sc_terms.specs.declared.steps.Step.TheVariants as steps
use Rattle.sc_parts.specs.declared.setup.Setup.{Setup}
use Rattle.sc_value.specs.declared.ids.AppId.{AppId}
use Rattle.sc_state.specs.declared.net.Net.{Net}
use Rattle.sc_hosts.specs.Histories.{as_history, as_session, session_of}
use Rattle.sc_hosts.specs.Runs.{after_step, chained_from, start}
use Rattle.sc_hosts.specs.Sessions.{Form}
use Rattle.sc_hosts.specs.Steps.{live_at}
use Rattle.sc_forms.proofs.HistoryForms.{histories-simulate}
use Rattle.sc_forms.proofs.HistoryLaws.{all_sent-histories, live_count-histories}
use Rattle.sc_forms.proofs.ListMaps.{is_some-maps, fold-maps}
use Rattle.sc_forms.proofs.RunMaps.{start-maps, moment-maps, after_step-maps}
use Rattle.sc_forms.proofs.StepMaps.{live_at-maps}
use Rattle.sc_forms.specs.Simulations.{map_live, map_net, IsSimulation}
use Rattle.sc_runs.proofs.NextMaps.{next_event-maps, first_number-maps}
use Rattle.sc_runs.specs.Following.{Streams, IsPartRun, IsWholeRun, Does, DoesPart, FollowsFrom, UptoFrom, Follows, Upto, first_number, no_bytes}
use Rattle.sc_runs.specs.Next.{next_event}
use Rattle.sc_runs.specs.Outputs.{output, journal_records, end_line}

module _ {S T : Type 0} (change : S → T) (setup : Setup) (form : Form S) (other : Form T) (like : IsSimulation change setup.config form other) where
  after-maps : (net : Net S) (taken : List Step) → chained_from other setup (map_net change net) taken ≡ map_net change (chained_from form setup net taken)
  unfolding chained_from
  after-maps net taken = fold-maps (map_net change) (after_step form setup) (after_step other setup) (after_step-maps change setup form other like) taken net

  first-maps : (app : AppId) (net : Net S) → first_number (live_at app (map_net change net)) ≡ first_number (live_at app net)
  first-maps app net = rw (live_at-maps change app net) (first_number-maps change (live_at app net))

  lives-maps : (app : AppId) (net : Net S) → is_some (live_at app (map_net change net)) ≡ is_some (live_at app net)
  lives-maps app net = rw (live_at-maps change app net) (is_some-maps (map_live change) (live_at app net))

  -- ## Turns

  part-run : (taken : List Step) (net : Net S) → IsPartRun form setup net taken → IsPartRun other setup (map_net change net) taken
  unfolding IsPartRun
  part-run [] net run = run
  part-run (steps.Turn end app event now calls ∷ later) net run =
      (next_event-maps change net ∙ run.0, run.1 ∙ sym (moment-maps change net), rw (after_step-maps change setup form other like net (steps.Turn end app event now calls)) (part-run later _ run.2))
  part-run (steps.In from message ∷ later) net run = run
  part-run (steps.Bad from bad ∷ later) net run = run
  part-run (steps.Lost place ∷ later) net run = run
  part-run (steps.Tick now ∷ later) net run = run
  part-run (steps.Withdraw app ∷ later) net run = run

  part-run-back : (taken : List Step) (net : Net S) → IsPartRun other setup (map_net change net) taken → IsPartRun form setup net taken
  unfolding IsPartRun
  part-run-back [] net run = run
  part-run-back (steps.Turn end app event now calls ∷ later) net run = (
    sym (next_event-maps change net) ∙ run.0,
    run.1 ∙ moment-maps change net,
    part-run-back later (after_step form setup net (steps.Turn end app event now calls)) (rw (after_step-maps change setup form other like net (steps.Turn end app event now calls)) at run.2),
  )
  part-run-back (steps.In from message ∷ later) net run = run
  part-run-back (steps.Bad from bad ∷ later) net run = run
  part-run-back (steps.Lost place ∷ later) net run = run
  part-run-back (steps.Tick now ∷ later) net run = run
  part-run-back (steps.Withdraw app ∷ later) net run = run

  none-next : (taken : List Step) (net : Net S) → next_event (chained_from other setup (map_net change net) taken) ≡ next_event (chained_from form setup net taken)
  none-next taken net = rw (after-maps net taken) (next_event-maps change (chained_from form setup net taken))

  whole-run : (taken : List Step) (net : Net S) → IsWholeRun form setup net taken → IsWholeRun other setup (map_net change net) taken
  unfolding IsWholeRun
  whole-run taken net run = (part-run taken net run.0, none-next taken net ∙ run.1)

  whole-run-back : (taken : List Step) (net : Net S) → IsWholeRun other setup (map_net change net) taken → IsWholeRun form setup net taken
  unfolding IsWholeRun
  whole-run-back taken net run = (part-run-back taken net run.0, sym (none-next taken net) ∙ run.1)

  -- ## A line

  does : (line : Line) (net : Net S) (kept after : Streams) (taken : List Step) → Does form setup net kept line taken after → Does other setup (map_net change net) kept line taken after
  unfolding Does
  does (lines.In place text) net kept after taken done = done
  does (lines.Turn app) net kept after taken done = (rw (moment-maps change net, first-maps app net) done.0, done.1)
  does lines.Run net kept after taken done = (whole-run taken net done.0, done.1)
  does (lines.Tick now) net kept after taken done = (rw (moment-maps change net) done.0, done.1)
  does (lines.Lost place) net kept after taken done = done
  does (lines.Drop app) net kept after taken done = (rw (lives-maps app net) done.0, done.1)
  does lines.End net kept after taken done = done

  does-back : (line : Line) (net : Net S) (kept after : Streams) (taken : List Step) → Does other setup (map_net change net) kept line taken after → Does form setup net kept line taken after
  unfolding Does
  does-back (lines.In place text) net kept after taken done = done
  does-back (lines.Turn app) net kept after taken done = (rw (moment-maps change net, first-maps app net) at done.0, done.1)
  does-back lines.Run net kept after taken done = (whole-run-back taken net done.0, done.1)
  does-back (lines.Tick now) net kept after taken done = (rw (moment-maps change net) at done.0, done.1)
  does-back (lines.Lost place) net kept after taken done = done
  does-back (lines.Drop app) net kept after taken done = (rw (lives-maps app net) at done.0, done.1)
  does-back lines.End net kept after taken done = done

  does-part : (line : Line) (net : Net S) (kept : Streams) (taken : List Step) → DoesPart form setup net kept line taken → DoesPart other setup (map_net change net) kept line taken
  unfolding DoesPart
  does-part (lines.In place text) net kept taken done = done
  does-part (lines.Turn app) net kept taken done = done
  does-part lines.Run net kept taken done = part-run taken net done
  does-part (lines.Tick now) net kept taken done = done
  does-part (lines.Lost place) net kept taken done = done
  does-part (lines.Drop app) net kept taken done = done
  does-part lines.End net kept taken done = done

  does-part-back : (line : Line) (net : Net S) (kept : Streams) (taken : List Step) → DoesPart other setup (map_net change net) kept line taken → DoesPart form setup net kept line taken
  unfolding DoesPart
  does-part-back (lines.In place text) net kept taken done = done
  does-part-back (lines.Turn app) net kept taken done = done
  does-part-back lines.Run net kept taken done = part-run-back taken net done
  does-part-back (lines.Tick now) net kept taken done = done
  does-part-back (lines.Lost place) net kept taken done = done
  does-part-back (lines.Drop app) net kept taken done = done
  does-part-back lines.End net kept taken done = done

  -- ## All lines

  follows-from : (given : List Line) (net : Net S) (kept : Streams) (taken : List Step) → FollowsFrom form setup net kept given taken → FollowsFrom other setup (map_net change net) kept given taken
  unfolding FollowsFrom
  follows-from [] net kept taken follows = follows
  follows-from (line ∷ later) net kept taken (made, rest, after, is, done, follows) =
      (made, rest, after, is, does line net kept after made done, rw (after-maps net made) (follows-from later (chained_from form setup net made) after rest follows))

  follows-from-back : (given : List Line) (net : Net S) (kept : Streams) (taken : List Step) → FollowsFrom other setup (map_net change net) kept given taken → FollowsFrom form setup net kept given taken
  unfolding FollowsFrom
  follows-from-back [] net kept taken follows = follows
  follows-from-back (line ∷ later) net kept taken (made, rest, after, is, done, follows) =
      (made, rest, after, is, does-back line net kept after made done, follows-from-back later (chained_from form setup net made) after rest (rw (after-maps net made) at follows))

  upto-from : (given : List Line) (net : Net S) (kept : Streams) (taken : List Step) → UptoFrom form setup net kept given taken → UptoFrom other setup (map_net change net) kept given taken
  unfolding UptoFrom
  upto-from [] net kept taken upto = upto
  upto-from (line ∷ later) net kept taken (inl part) = inl (does-part line net kept taken part)
  upto-from (line ∷ later) net kept taken (inr (made, rest, after, is, done, upto)) =
      inr (made, rest, after, is, does line net kept after made done, rw (after-maps net made) (upto-from later (chained_from form setup net made) after rest upto))

  upto-from-back : (given : List Line) (net : Net S) (kept : Streams) (taken : List Step) → UptoFrom other setup (map_net change net) kept given taken → UptoFrom form setup net kept given taken
  unfolding UptoFrom
  upto-from-back [] net kept taken upto = upto
  upto-from-back (line ∷ later) net kept taken (inl part) = inl (does-part-back line net kept taken part)
  upto-from-back (line ∷ later) net kept taken (inr (made, rest, after, is, done, upto)) =
      inr (made, rest, after, is, does-back line net kept after made done, upto-from-back later (chained_from form setup net made) after rest (rw (after-maps net made) at upto))

-- ## Histories, and what sessions are

pub follows-histories : (setup : Setup) (given : List Line) (journal : List Step) → Follows (as_history setup.config) setup given journal → Follows as_session setup given journal
unfolding Follows
follows-histories setup given journal follows =
    rw (start-maps (session_of setup.config) setup 0 0) (follows-from (session_of setup.config) setup (as_history setup.config) as_session (histories-simulate setup.config) given (start setup 0 0) no_bytes journal follows)

pub follows_back-histories : (setup : Setup) (given : List Line) (journal : List Step) → Follows as_session setup given journal → Follows (as_history setup.config) setup given journal
unfolding Follows
follows_back-histories setup given journal follows =
    follows-from-back (session_of setup.config) setup (as_history setup.config) as_session (histories-simulate setup.config) given (start setup 0 0) no_bytes journal
    (rw (start-maps (session_of setup.config) setup 0 0) at follows)

pub upto-histories : (setup : Setup) (given : List Line) (journal : List Step) → Upto (as_history setup.config) setup given journal → Upto as_session setup given journal
unfolding Upto
upto-histories setup given journal upto =
    rw (start-maps (session_of setup.config) setup 0 0) (upto-from (session_of setup.config) setup (as_history setup.config) as_session (histories-simulate setup.config) given (start setup 0 0) no_bytes journal upto)

pub upto_back-histories : (setup : Setup) (given : List Line) (journal : List Step) → Upto as_session setup given journal → Upto (as_history setup.config) setup given journal
unfolding Upto
upto_back-histories setup given journal upto =
    upto-from-back (session_of setup.config) setup (as_history setup.config) as_session (histories-simulate setup.config) given (start setup 0 0) no_bytes journal
    (rw (start-maps (session_of setup.config) setup 0 0) at upto)

pub output-histories : (setup : Setup) (journal : List Step) → output (as_history setup.config) setup journal ≡ output as_session setup journal
unfolding output journal_records end_line
output-histories setup journal = rw (all_sent-histories setup 0 0 journal, live_count-histories setup 0 0 journal) refl
