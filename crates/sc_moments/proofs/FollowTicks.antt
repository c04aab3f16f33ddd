-- A journal that follows a script that is read has its ticks.
use Rattle.std.proofs.Common.{◌≡◌, ◌≤◌, ℕ, Bool, true, false, Option, None, Some, List, [], ◌∷◌, ◌++◌, Ok, refl, ◌∙◌, arith}
use Rattle.std.specs.Prelude.{nat_le, is_some}
use Rattle.std.specs.List.{fold}
use Rattle.std.proofs.lemmas.Bool.Decides.{nat_tests}
use Rattle.std.proofs.lemmas.List.Elements.{filter_map-append}
use Rattle.sc_value.specs.declared.ids.AppId.{AppId}
use Rattle.sc_value.specs.declared.ids.Place.{Place}
use Rattle.sc_terms.specs.declared.steps.Line.{Line}
use Rattle.sc_terms.specs.declared.steps.Line.TheVariants as lines
use Rattle.sc_terms.specs.declared.steps.Step.{Step}
use Rattle.sc_terms.specs.declared.steps.Step.TheVariants as steps
use Rattle.sc_parts.specs.declared.setup.Setup.{Setup}
use Rattle.sc_state.specs.declared.net.Net.{Net}
use Rattle.sc_tokens.specs.Bytes.{Bytes}
use Rattle.sc_hosts.specs.Runs.{chained_from, start}
use Rattle.sc_hosts.specs.Sessions.{Form}
use Rattle.sc_hosts.specs.Steps.{live_at}
use Rattle.sc_moments.proofs.RunMoments.{chained-moment}
use Rattle.sc_moments.proofs.ScriptTicks.{MayTick, Rises, script-rises}
use Rattle.sc_moments.specs.Moments.{moment_of, tick_of, ticks_of, tick_in, ticks_in}
use Rattle.sc_runs.specs.Following.{Streams, MOST_MOMENT, no_bytes, IsTurnOf, IsPartRun, IsWholeRun, withdrawal, tick_to, Does, FollowsFrom, Follows}
use Rattle.sc_runs.specs.Hearing.{Hears, HearsPart}
use Rattle.sc_script.specs.ScriptTexts.{moment_after, script_of}

-- ## Steps without ticks

pub none-of : (taken : List Step) → taken ≡ [] → ticks_of taken ≡ []
unfolding ticks_of
none-of taken e = rw e refl

no-ticks : (taken : List Step) → taken ≡ [] → ticks_of taken ≡ ticks_in []
unfolding ticks_of ticks_in
no-ticks taken e = rw e refl

-- what bytes make
hears-none : (taken : List Step) (place : Place) (bytes rest : Bytes) → Hears place bytes taken rest → ticks_of taken ≡ []
unfolding Hears ticks_of tick_of
hears-none [] place bytes rest heard = refl
hears-none (steps.In from message ∷ later) place bytes rest (len, from_is, front, heard) = hears-none later place _ rest heard
hears-none (steps.Bad from bad ∷ []) place bytes rest heard = absurd heard
hears-none (steps.Bad from bad ∷ steps.In other message ∷ later) place bytes rest heard = absurd heard
hears-none (steps.Bad from bad ∷ steps.Bad other worse ∷ later) place bytes rest heard = absurd heard
hears-none (steps.Bad from bad ∷ steps.Lost at ∷ []) place bytes rest heard = refl
hears-none (steps.Bad from bad ∷ steps.Lost at ∷ step ∷ later) place bytes rest heard = absurd heard
hears-none (steps.Bad from bad ∷ steps.Tick now ∷ later) place bytes rest heard = absurd heard
hears-none (steps.Bad from bad ∷ steps.Turn end app event now calls ∷ later) place bytes rest heard = absurd heard
hears-none (steps.Bad from bad ∷ steps.Withdraw app ∷ later) place bytes rest heard = absurd heard
hears-none (steps.Lost at ∷ []) place bytes rest heard = refl
hears-none (steps.Lost at ∷ step ∷ later) place bytes rest heard = absurd heard
hears-none (steps.Tick now ∷ later) place bytes rest heard = absurd heard
hears-none (steps.Turn end app event now calls ∷ later) place bytes rest heard = absurd heard
hears-none (steps.Withdraw app ∷ later) place bytes rest heard = absurd heard

-- a beginning of that
pub part-none : (taken : List Step) (place : Place) (bytes : Bytes) → HearsPart place bytes taken → ticks_of taken ≡ []
unfolding HearsPart ticks_of tick_of
part-none [] place bytes heard = refl
part-none (steps.In from message ∷ later) place bytes (len, from_is, front, heard) = part-none later place _ heard
part-none (steps.Bad from bad ∷ []) place bytes heard = refl
part-none (steps.Bad from bad ∷ step ∷ later) place bytes heard = absurd heard
part-none (steps.Lost at ∷ later) place bytes heard = absurd heard
part-none (steps.Tick now ∷ later) place bytes heard = absurd heard
part-none (steps.Turn end app event now calls ∷ later) place bytes heard = absurd heard
part-none (steps.Withdraw app ∷ later) place bytes heard = absurd heard

turn-none : (app : AppId) (now : ℕ) (event : Option ℕ) (taken : List Step) → IsTurnOf app now event taken → ticks_of taken ≡ []
unfolding IsTurnOf ticks_of tick_of
turn-none app now None taken is = rw is refl
turn-none app now (Some event) taken (calls, end, is) = rw is refl

pub run-none : {S : Type 0} (taken : List Step) (form : Form S) (setup : Setup) (net : Net S) → IsPartRun form setup net taken → ticks_of taken ≡ []
unfolding IsPartRun ticks_of tick_of
run-none [] form setup net run = refl
run-none (steps.Turn end app event now calls ∷ later) form setup net (next, at_last, run) = run-none later form setup _ run
run-none (steps.In from message ∷ later) form setup net run = absurd run
run-none (steps.Bad from bad ∷ later) form setup net run = absurd run
run-none (steps.Lost place ∷ later) form setup net run = absurd run
run-none (steps.Tick now ∷ later) form setup net run = absurd run
run-none (steps.Withdraw app ∷ later) form setup net run = absurd run

lost-none : (place : Place) (taken : List Step) → taken ≡ steps.Lost place ∷ [] → ticks_of taken ≡ []
unfolding ticks_of tick_of
lost-none place taken is = rw is refl

withdrawal-none : (app : AppId) (lives : Bool) → ticks_of (withdrawal app lives) ≡ []
unfolding withdrawal ticks_of tick_of
withdrawal-none app true = refl
withdrawal-none app false = refl

-- such steps leave the moment
still : (taken : List Step) (moment : ℕ) → ticks_of taken ≡ [] → fold moment_of moment taken ≡ moment
unfolding ticks_of tick_of moment_of
still [] moment none = refl
still (steps.In from message ∷ later) moment none = still later moment none
still (steps.Bad from bad ∷ later) moment none = still later moment none
still (steps.Lost place ∷ later) moment none = still later moment none
still (steps.Tick now ∷ later) moment none = cc
still (steps.Turn end app event now calls ∷ later) moment none = still later moment none
still (steps.Withdraw app ∷ later) moment none = still later moment none

-- ## A line

-- a tick that rises is taken
tick-taken : (moment now : ℕ) → moment ≤ now → now ≤ MOST_MOMENT → tick_to moment now ≡ steps.Tick now ∷ []
unfolding tick_to
tick-taken moment now above below = rw (at_least moment now above, at_least now MOST_MOMENT below) refl
  where
    at_least : (a b : ℕ) → a ≤ b → nat_le a b ≡ true
    at_least a b le = grind (arith, nat_tests, le)

one-tick : (taken : List Step) (now : ℕ) → taken ≡ steps.Tick now ∷ [] → ticks_of taken ≡ now ∷ []
unfolding ticks_of tick_of
one-tick taken now is = rw is refl

one-moment : (taken : List Step) (moment now : ℕ) → taken ≡ steps.Tick now ∷ [] → fold moment_of moment taken ≡ now
unfolding moment_of
one-moment taken moment now is = rw is refl

-- ## One line, and the lines after it

pub both-ticks : (taken made rest : List Step) → taken ≡ made ++ rest → ticks_of taken ≡ ticks_of made ++ ticks_of rest
unfolding ticks_of
both-ticks taken made rest is = rw is (filter_map-append tick_of made rest)

pub first-ticks : (line : Line) (later : List Line) → ticks_in (line ∷ later) ≡ ticks_in (line ∷ []) ++ ticks_in later
unfolding ticks_in
first-ticks line later = filter_map-append tick_in (line ∷ []) later

more-ticks : (line : Line) (later : List Line) (taken made rest : List Step) → taken ≡ made ++ rest → ticks_of made ≡ ticks_in (line ∷ []) → ticks_of rest ≡ ticks_in later → ticks_of taken ≡ ticks_in (line ∷ later)
more-ticks line later taken made rest is begun others = rw (both-ticks taken made rest is, first-ticks line later, begun, others) refl

module _ {S : Type 0} (form : Form S) (setup : Setup) where
  pub line-ticks : (line : Line) (net : Net S) (kept after : Streams) (taken : List Step) → MayTick net.moment line → Does form setup net kept line taken after → ticks_of taken ≡ ticks_in (line ∷ [])
  unfolding Does IsWholeRun MayTick ticks_in tick_in
  line-ticks (lines.In place text) net kept after taken may (rest, heard, kept_is) = hears-none taken place _ rest heard
  line-ticks (lines.Turn app) net kept after taken may done = turn-none app net.moment _ taken done.0
  line-ticks lines.Run net kept after taken may done = run-none taken form setup net done.0.0
  line-ticks (lines.Tick now) net kept after taken may done = one-tick taken now (done.0 ∙ tick-taken net.moment now may.0 may.1)
  line-ticks (lines.Lost place) net kept after taken may done = lost-none place taken done.0
  line-ticks (lines.Drop app) net kept after taken may done = rw done.0 (withdrawal-none app (is_some (live_at app net)))
  line-ticks lines.End net kept after taken may done = none-of taken done.0

  line-moment : (line : Line) (net : Net S) (kept after : Streams) (taken : List Step) → MayTick net.moment line → Does form setup net kept line taken after
      → fold moment_of net.moment taken ≡ moment_after net.moment line
  unfolding Does MayTick moment_after ticks_in tick_in
  line-moment (lines.In place text) net kept after taken may done = still taken net.moment (line-ticks (lines.In place text) net kept after taken may done)
  line-moment (lines.Turn app) net kept after taken may done = still taken net.moment (line-ticks (lines.Turn app) net kept after taken may done)
  line-moment lines.Run net kept after taken may done = still taken net.moment (line-ticks lines.Run net kept after taken may done)
  line-moment (lines.Tick now) net kept after taken may done = one-moment taken net.moment now (done.0 ∙ tick-taken net.moment now may.0 may.1)
  line-moment (lines.Lost place) net kept after taken may done = still taken net.moment (line-ticks (lines.Lost place) net kept after taken may done)
  line-moment (lines.Drop app) net kept after taken may done = still taken net.moment (line-ticks (lines.Drop app) net kept after taken may done)
  line-moment lines.End net kept after taken may done = still taken net.moment (line-ticks lines.End net kept after taken may done)

  -- the lines after it rise from the moment of the net that it leaves
  pub rises-on : (line : Line) (later : List Line) (net : Net S) (kept after : Streams) (taken : List Step) → Rises net.moment (line ∷ later) → Does form setup net kept line taken after
      → Rises (chained_from form setup net taken).moment later
  unfolding Rises
  rises-on line later net kept after taken rises done = rw (chained-moment form setup net taken, line-moment line net kept after taken rises.0 done) rises.1

  follows-from : (given : List Line) (net : Net S) (kept : Streams) (taken : List Step) → Rises net.moment given → FollowsFrom form setup net kept given taken → ticks_of taken ≡ ticks_in given
  unfolding FollowsFrom Rises
  follows-from [] net kept taken rises follows = no-ticks taken follows
  follows-from (line ∷ later) net kept taken rises (made, rest, after, is, done, follows) =
      more-ticks line later taken made rest is (line-ticks line net kept after made rises.0 done)
      (follows-from later (chained_from form setup net made) after rest (rises-on line later net kept after made rises done) follows)

  pub follows-ticks : (text : Bytes) (given : List Line) (journal : List Step) → script_of text ≡ Ok given → Follows form setup given journal → ticks_of journal ≡ ticks_in given
  unfolding Follows start
  follows-ticks text given journal read follows = follows-from given (start setup 0 0) no_bytes journal (script-rises text given read) follows
