-- Live sessions of the kind that keeps session timers.
use Rattle.std.proofs.Common.{◌≡◌, ◌<◌, ℕ, Some, List, refl}
use Rattle.std.proofs.Math.Logic.{∥∥₁_map}
use Rattle.std.specs.Prelude.{◌^◌}
use Rattle.sc_value.specs.declared.ids.AppId.{AppId}
use Rattle.sc_terms.specs.declared.charters.Charter.TheVariants as charters
use Rattle.sc_terms.specs.declared.events.Event.{Event}
use Rattle.sc_terms.specs.declared.steps.Step.{Step}
use Rattle.sc_terms.specs.declared.views.View.{View}
use Rattle.sc_parts.specs.declared.setup.Setup.{Setup}
use Rattle.sc_state.specs.declared.host.Live.{Live}
use Rattle.sc_state.specs.declared.queue.Waiting.{Waiting}
use Rattle.sc_state.specs.declared.session.Session.{Session}
use Rattle.sc_hosts.specs.Bringing.{servlet_script}
use Rattle.sc_hosts.specs.Histories.{History, as_history}
use Rattle.sc_hosts.specs.Runs.{IsLawful, net_from as chained}
use Rattle.sc_hosts.specs.SessionTimers.{timed_script}
use Rattle.sc_hosts.specs.Steps.{live_at}
use Rattle.sc_lived.specs.Lived.{HasLived, IsLived, Told, turns_in as told}
use Rattle.sc_lived.proofs.Sayings.{has-lived}
use Rattle.sc_remembered.proofs.Played.{life-plays}
use Rattle.sc_timed.specs.TimedLives.{HasActs, HaveRoom, IsTimed}
use Rattle.sc_timed.proofs.TimedChains.{played-acts}

timed-scripted : (view : View) (event : Event) → servlet_script charters.Timed view event ≡ Some (timed_script view event)
unfolding servlet_script
timed-scripted view event = refl

lived-acts : (setup : Setup) (app : AppId) (given : List Told) (history : History) (inbox : List Waiting) (n : ℕ) → IsTimed setup app → n < 2 ^ 64 → HaveRoom setup.config history history.turns
    → IsLived setup app given history inbox → ∥ HasActs setup.config history n history.turns ∥₁
lived-acts setup app given history inbox n timed small room lived =
    ∥∥₁_map (life-plays charters.Timed timed_script timed-scripted history.turns setup app history timed lived.taken) (λ played. played-acts setup.config history n small played room)

pub live-acts : (setup : Setup) (epoch began : ℕ) (journal : List Step) (app : AppId) (live : Live History) (n : ℕ)
    → IsLawful (as_history setup.config) setup epoch began journal → live_at app (chained (as_history setup.config) setup epoch began journal) ≡ Some live
    → IsTimed setup app → n < 2 ^ 64 → HaveRoom setup.config live.session live.session.turns → ∥ HasActs setup.config live.session n live.session.turns ∥₁
live-acts setup epoch began journal app live n lawful is timed small room =
    lived-acts setup app (told app journal) live.session live.inbox n timed small room (has-lived setup epoch began journal app live lawful is)

pub session-acts : (setup : Setup) (app : AppId) (journal : List Step) (live : Live Session) (n : ℕ) → (lived : HasLived setup app (told app journal) live.session live.inbox)
    → IsTimed setup app → n < 2 ^ 64 → HaveRoom setup.config lived.history lived.history.turns → ∥ HasActs setup.config lived.history n lived.history.turns ∥₁
session-acts setup app journal live n lived timed small room = lived-acts setup app (told app journal) lived.history live.inbox n timed small room lived.lived
