-- A brought turn that fits may be taken.
use Rattle.std.proofs.Common.{◌≡◌, ℕ, zero, suc, ◌<◌, Option, None, Some, List, [], ◌∷◌, length, refl, sym, subst, slice_get, arith}
use Rattle.std.specs.Option.{option_map, option_and_then}
use Rattle.std.specs.List.{All}
use Rattle.std.proofs.Math.Logic.{∥∥₁_map}
use Rattle.std.proofs.lemmas.Option.{none-some, same_Some}
use Rattle.std.proofs.lemmas.List.Elements.{All-head, All-tail}
use Rattle.sc_terms.specs.declared.calls.End.TheVariants as ends
use Rattle.sc_terms.specs.declared.settings.AppEntry.{AppEntry}
use Rattle.sc_parts.specs.declared.setup.Setup.{Setup}
use Rattle.sc_state.specs.declared.host.Live.{Live}
use Rattle.sc_state.specs.declared.net.Net.{Net}
use Rattle.sc_state.specs.declared.queue.Waiting.{Waiting}
use Rattle.sc_state.specs.declared.session.Session.{Session}
use Rattle.sc_state.specs.declared.working.Prepared.{Prepared}
use Rattle.sc_servlets.specs.declared.lease.Lease.{Lease}
use Rattle.sc_servlets.specs.declared.done.Done.{Done}
use Rattle.sc_servlets.specs.Brought.{IsBrought}
use Rattle.sc_servlets.specs.Stated.{servlet_at, listener_at}
use Rattle.sc_servlets.proofs.Brought.{brought_allowed}
use Rattle.sc_model.specs.Settings.{Charters, IsSetup, app_of, charters_of}
use Rattle.sc_hosts.specs.Histories.{as_session}
use Rattle.sc_hosts.specs.Runs.{AllowedBy, IsAllowed, MayTurn, prepared_turn as shown}
use Rattle.sc_hosts.specs.Steps.{live_at}
use Rattle.sc_switch.specs.declared.brought.Taken.{Taken}
use Rattle.sc_switch.specs.declared.brought.Taken.TheVariants as takes
use Rattle.sc_switch.specs.Standing.{AreKept, Fits, Known, listener_of, net_of, servlet_of, step_of}
use Rattle.sc_switch.specs.Stepping.{MayBeTaken, taken_step}
use Rattle.sc_leases.proofs.KeptLeases.{kept-shows}
use Rattle.sc_leases.specs.Leases.{IsLeaseOf, IsShown, IsTimely, ShowsFirst, ShowsOf}

-- ## The charters of an application

within : (most : ℕ) (apps : List AppEntry) (host : ℕ) (app : AppEntry) → All (λ (a : AppEntry). a.kind < most) apps → slice_get apps host ≡ Some app → app.kind < most
within most [] host app all e = absurd (none-some app e)
within most (a ∷ apps) zero app all e = subst (λ (b : AppEntry). b.kind < most) (same_Some a app e) (All-head (λ (b : AppEntry). b.kind < most) a apps all)
within most (a ∷ apps) (suc host) app all e = within most apps host app (All-tail (λ (b : AppEntry). b.kind < most) a apps all) e

there : {A : Type 0} (xs : List A) (i : ℕ) → i < length xs → slice_get xs i ≡ None → ⊥
there [] i below e = omega (arith, below)
there (x ∷ xs) zero below e = none-some x (sym e)
there (x ∷ xs) (suc i) below e = there xs i (omega (arith, below)) e

charters-in : (setup : Setup) (kind : ℕ) (o : Option AppEntry) → ((app : AppEntry) → o ≡ Some app → app.kind < length setup.kinds) → option_map (λ (app : AppEntry). app.kind) o ≡ Some kind
    → option_and_then (λ (app : AppEntry). slice_get setup.kinds app.kind) o ≡ None → ⊥
charters-in setup kind None within e none = none-some kind e
charters-in setup kind (Some app) within e none = there setup.kinds app.kind (within app refl) none

charters-there : (setup : Setup) (host kind : ℕ) → IsSetup setup → option_map (λ (app : AppEntry). app.kind) (app_of setup.config host) ≡ Some kind → charters_of setup host ≡ None → ⊥
unfolding charters_of
charters-there setup host kind right e none =
    charters-in setup kind (app_of setup.config host) (λ app is. within (length setup.kinds) setup.config.app host app right.kinds is) e none

-- ## What is brought is allowed

brought-by : (setup : Setup) (done : Done) (o : Option Charters) (prepared : Prepared) → (o ≡ None → ⊥)
    → done.charter ≡ option_and_then (servlet_at done.lease.event) o → done.listener ≡ option_and_then (listener_at done.lease.event) o → (done.end ≡ ends.Starved → ⊥)
    → prepared.view ≡ done.lease.shown → prepared.event ≡ done.lease.event
    → IsBrought done.lease.shown done.lease.event done.charter done.listener done.calls done.end → AllowedBy o prepared done.calls done.end
unfolding AllowedBy
brought-by setup done None prepared some charter listener fed view event brought = absurd (some refl)
brought-by setup done (Some charters) prepared some charter listener fed view event brought =
    rw (view, event) (brought_allowed charters.0 charters.1 done.lease.shown done.lease.event done.calls done.end (rw (charter, listener) at brought) fed)

turn-of : (setup : Setup) (net : Net Session) (done : Done) (live : Live Session) (waiting : Waiting) → IsSetup setup → live_at done.lease.app net ≡ Some live → slice_get live.inbox 0 ≡ Some waiting
    → IsTimely setup net done.lease live waiting → IsShown (shown as_session setup net done.lease.app live waiting done.lease.shown.now) done.lease
    → done.charter ≡ servlet_of setup done.lease → done.listener ≡ listener_of setup done.lease → (done.end ≡ ends.Starved → ⊥)
    → MayTurn as_session setup net done.lease.app done.lease.event_number done.lease.shown.now done.calls done.end
unfolding IsShown servlet_of listener_of
turn-of setup net done live waiting right live_is waiting_is timely is_shown charter listener fed = record {
  live = live;
  live_is = live_is;
  waiting = waiting;
  waiting_is = waiting_is;
  event_is = timely.number_is;
  since = timely.since;
  until = timely.until;
  allowed = ∥∥₁_map done.allowed (brought-by setup done (charters_of setup done.lease.app.host) (shown as_session setup net done.lease.app live waiting done.lease.shown.now)
      (charters-there setup done.lease.app.host done.lease.kind right timely.kind_is) charter listener fed is_shown.0 is_shown.1);
}

by-first : (setup : Setup) (net : Net Session) (done : Done) (live : Live Session) (o : Option Waiting) → IsSetup setup → live_at done.lease.app net ≡ Some live → slice_get live.inbox 0 ≡ o
    → ShowsFirst as_session setup net done.lease live o → done.charter ≡ servlet_of setup done.lease → done.listener ≡ listener_of setup done.lease → (done.end ≡ ends.Starved → ⊥)
    → MayTurn as_session setup net done.lease.app done.lease.event_number done.lease.shown.now done.calls done.end
unfolding ShowsFirst
by-first setup net done live None right live_is first_is shows charter listener fed = absurd shows
by-first setup net done live (Some waiting) right live_is first_is shows charter listener fed = turn-of setup net done live waiting right live_is first_is shows.0 shows.1 charter listener fed

by-live : (setup : Setup) (net : Net Session) (done : Done) (o : Option (Live Session)) → IsSetup setup → live_at done.lease.app net ≡ o
    → ShowsOf as_session setup net done.lease o → done.charter ≡ servlet_of setup done.lease → done.listener ≡ listener_of setup done.lease → (done.end ≡ ends.Starved → ⊥)
    → MayTurn as_session setup net done.lease.app done.lease.event_number done.lease.shown.now done.calls done.end
unfolding ShowsOf
by-live setup net done None right live_is shows charter listener fed = absurd shows
by-live setup net done (Some live) right live_is shows charter listener fed = by-first setup net done live (slice_get live.inbox 0) right live_is refl shows charter listener fed

pub fits_allowed : (setup : Setup) (net : Net Session) (kept : List Lease) (done : Done) → IsSetup setup → IsLeaseOf as_session setup net done.lease → Fits setup kept done → (done.end ≡ ends.Starved → ⊥) → IsAllowed as_session setup net (step_of done)
unfolding IsAllowed step_of IsLeaseOf
fits_allowed setup net kept done right shows fits fed = by-live setup net done (live_at done.lease.app net) right refl shows fits.charter_is fits.listener_is fed

-- the live lease of a number shows what there is
pub kept_allowed : (known : Known) (done : Done) → IsSetup known.setup → AreKept known → Fits known.setup known.kept done → (done.end ≡ ends.Starved → ⊥) → IsAllowed as_session known.setup (net_of known) (step_of done)
kept_allowed known done right are fits fed =
    fits_allowed known.setup (net_of known) known.kept done right (kept-shows as_session known.setup (net_of known) known.kept 0 known.leases done.lease.number done.lease are fits.lease_is) fits fed

-- what may be taken is allowed
pub taken_allowed : (known : Known) (taken : Taken) → IsSetup known.setup → AreKept known → MayBeTaken known taken → IsAllowed as_session known.setup (net_of known) (taken_step taken)
unfolding MayBeTaken taken_step
taken_allowed known (takes.Step step) right are may = may
taken_allowed known (takes.Turn done) right are may = kept_allowed known done right are may.0 may.1
