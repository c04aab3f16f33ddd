-- What a turn begins with: but for the timer of a branch, the session and its event alone tell it.
use Rattle.std.proofs.Common.{◌≡◌, ℕ, Bool, true, false, Option, None, Some, List, [], refl, sym, ◌∙◌, subst, slice_get}
use Rattle.std.specs.Prelude.{Result, Ok, Err, IfOk, IfSome}
use Rattle.sc_value.specs.declared.ids.AppId.{AppId}
use Rattle.sc_terms.specs.declared.settings.Config.{Config}
use Rattle.sc_parts.specs.declared.setup.Setup.{Setup}
use Rattle.sc_state.specs.declared.host.Live.{Live}
use Rattle.sc_state.specs.declared.net.Net.{Net}
use Rattle.sc_state.specs.declared.queue.Queued.{Queued}
use Rattle.sc_state.specs.declared.queue.Queued.TheVariants as queued
use Rattle.sc_state.specs.declared.queue.Waiting.{Waiting}
use Rattle.sc_state.specs.declared.session.Session.{Session}
use Rattle.sc_state.specs.declared.working.Prepared.{Prepared}
use Rattle.sc_hosts.specs.Histories.{as_session}
use Rattle.sc_hosts.specs.Nets.{host_at}
use Rattle.sc_hosts.specs.Preparing.{prepared_session as prepared, prepared_for}
use Rattle.sc_hosts.specs.Runs.{prepared_turn as shown}
use Rattle.sc_hosts.specs.Steps.{live_at, ringing_at}
use Rattle.sc_steps.specs.TurnParts.{Begins, FirstBegins}
use Rattle.sc_switch.specs.declared.readied.Begun.{Begun}
use Rattle.sc_switch.specs.Beginnings.{BeginsAnyhow, IsBegun, is_branch_timer}

same-for : (config other : Config) (a b : List ℕ) (session : Session) (number : ℕ) (event : Queued) → is_branch_timer event ≡ false → prepared_for config a session number event ≡ prepared_for other b session number event
unfolding prepared_for is_branch_timer
same-for config other a b session number (queued.Initial region subscriber popped request) apart = refl
same-for config other a b session number (queued.Request request) apart = refl
same-for config other a b session number (queued.Response branch response) apart = refl
same-for config other a b session number (queued.Cancelled event) apart = refl
same-for config other a b session number (queued.Timer id) apart = refl
same-for config other a b session number (queued.BranchTimer branch due) apart = cc
same-for config other a b session number queued.Expired apart = refl
same-for config other a b session number queued.Ready apart = refl

alike : (config other : Config) (a b : List ℕ) (session : Session) (waiting : Waiting) (now : ℕ) → is_branch_timer waiting.event ≡ false → prepared config a session waiting now ≡ prepared other b session waiting now
unfolding prepared
alike config other a b session waiting now apart = same-for config other a b _ waiting.number waiting.event apart

by-timer : (config : Config) (a b : List ℕ) (session : Session) (waiting : Waiting) (now : ℕ) (timer : Bool) → is_branch_timer waiting.event ≡ timer → (timer ≡ true → a ≡ b)
    → prepared config a session waiting now ≡ prepared config b session waiting now
by-timer config a b session waiting now true is same = rw (same refl) refl
by-timer config a b session waiting now false is same = alike config config a b session waiting now is

-- the branches that ring are asked for where the timer of a branch runs out
pub prepared_anyhow : {E : Type 0} (config : Config) (a b given : List ℕ) (session own : Session) (waiting : Waiting) (now : ℕ) (r : Result Prepared E) → (is_branch_timer waiting.event ≡ true → a ≡ b) → given ≡ a → own ≡ session
    → IfOk r (λ p. p ≡ prepared config given own waiting now) → IfOk r (λ p. p ≡ prepared config b session waiting now)
prepared_anyhow config a b given session own waiting now (Ok p) same given_is own_is is = is ∙ rw (given_is, own_is) (by-timer config a b session waiting now (is_branch_timer waiting.event) refl same)
prepared_anyhow config a b given session own waiting now (Err e) same given_is own_is is = tt

begins-anyhow : (setup : Setup) (net : Net Session) (app : AppId) (live : Live Session) (waiting : Waiting) (now : ℕ) (begun : Prepared) → live_at app net ≡ Some live → slice_get live.inbox 0 ≡ Some waiting → is_branch_timer waiting.event ≡ false
    → begun ≡ shown as_session setup net app live waiting now → BeginsAnyhow net app now begun
unfolding BeginsAnyhow Begins FirstBegins shown as_session
begins-anyhow setup net app live waiting now begun live_is first_is apart is =
    λ config ringing. subst (λ o. Begins config ringing o now begun) (sym live_is) (subst (λ o. FirstBegins config ringing live.session o now begun) (sym first_is)
    (alike config setup.config ringing (ringing_at app (host_at app.host net)) live.session waiting now apart ∙ sym is))

-- what was prepared for a lease is kept so
pub begun_offered : (setup : Setup) (net : Net Session) (app : AppId) (live : Live Session) (waiting : Waiting) (now : ℕ) (prepared : Prepared) (o : Option Prepared) → live_at app net ≡ Some live → slice_get live.inbox 0 ≡ Some waiting
    → prepared ≡ shown as_session setup net app live waiting now → IfSome o (λ begun. (begun ≡ prepared) × (is_branch_timer waiting.event ≡ false)) → IfSome o (λ begun. BeginsAnyhow net app now begun)
begun_offered setup net app live waiting now prepared None live_is first_is is kept = tt
begun_offered setup net app live waiting now prepared (Some begun) live_is first_is is kept = begins-anyhow setup net app live waiting now begun live_is first_is kept.1 (kept.0 ∙ is)

-- so is it of these settings, and of these branches that ring
pub begun_here : (config : Config) (ringing : List ℕ) (net : Net Session) (app : AppId) (now : ℕ) (o : Option Prepared) → IfSome o (λ begun. BeginsAnyhow net app now begun) → IfSome o (λ begun. Begins config ringing (live_at app net) now begun)
unfolding BeginsAnyhow
begun_here config ringing net app now None is = tt
begun_here config ringing net app now (Some begun) is = is config ringing

-- so is it of a copy of the net with nothing sent
pub begun_copy : (net copy : Net Session) (app : AppId) (now : ℕ) (o : Option Prepared) → copy ≡ record net { sent = [] } → IfSome o (λ begun. BeginsAnyhow net app now begun) → IfSome o (λ begun. BeginsAnyhow copy app now begun)
unfolding BeginsAnyhow
begun_copy net copy app now None same is = tt
begun_copy net copy app now (Some begun) same is = λ config ringing. rw same (is config ringing)

-- what is kept is handed out for its session and its moment
pub begun_of : (net : Net Session) (app : AppId) (now : ℕ) (begun : Begun) (o : Option Prepared) → IsBegun net (Some begun) → IfSome o (λ shown. begun ≡ record { app = app; now = now; shown = shown }) → IfSome o (λ shown. BeginsAnyhow net app now shown)
unfolding IsBegun
begun_of net app now begun None is same = tt
begun_of net app now begun (Some shown) is same = subst (λ (b : Begun). IsBegun net (Some b)) same is
