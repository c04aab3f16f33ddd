-- What was sent in a step is no matter to leases and counts.
use Rattle.std.proofs.Common.{◌≡◌, ℕ, ◌+◌, ◌≤◌, Option, None, Some, List, [], ◌∷◌, ◌++◌, refl, sym, ap, ◌∙◌, subst, slice_get, arith}
use Rattle.std.specs.Prelude.{Result, Ok, Err, IfOk, is_some}
use Rattle.std.specs.Option.{option_map}
use Rattle.sc_value.specs.declared.ids.AppId.{AppId}
use Rattle.sc_terms.specs.declared.settings.AppEntry.{AppEntry}
use Rattle.sc_value.specs.declared.no_memory.NoMemory.{NoMemory}
use Rattle.sc_parts.specs.declared.setup.Setup.{Setup}
use Rattle.sc_state.specs.declared.host.Live.{Live}
use Rattle.sc_state.specs.declared.net.Net.{Net}
use Rattle.sc_state.specs.declared.queue.Waiting.{Waiting}
use Rattle.sc_state.specs.declared.session.Session.{Session}
use Rattle.sc_state.specs.declared.working.Prepared.{Prepared}
use Rattle.sc_servlets.specs.declared.lease.Lease.{Lease}
use Rattle.sc_model.specs.Settings.{app_of}
use Rattle.sc_hosts.specs.Histories.{as_session}
use Rattle.sc_hosts.specs.Runs.{prepared_turn as shown}
use Rattle.sc_hosts.specs.Steps.{live_at}
use Rattle.sc_runs.specs.Following.{first_number}
use Rattle.sc_runs.specs.Next.{Next, next_events}
use Rattle.sc_switch.specs.Standing.{Known, net_of, IsNet}
use Rattle.sc_leases.specs.Leases.{IsLeaseOf, IsShown, IsTimely, ShowsFirst, ShowsOf, next_free}
use Rattle.sc_switch.specs.Answers.{IsGiven}
use Rattle.sc_switch.specs.Offering.{IsMade, IsOffer, Offers}

abbrev unsent : Net Session → Net Session
unsent run = record run { sent = [] }

-- ## Leases

timely-on : (setup : Setup) (run : Net Session) (lease : Lease) (live : Live Session) (waiting : Waiting) → IsTimely setup (unsent run) lease live waiting → IsTimely setup run lease live waiting
timely-on setup run lease live waiting is = record { number_is = is.number_is; kind_is = is.kind_is; since = is.since; until = is.until }

first-on : (setup : Setup) (run : Net Session) (lease : Lease) (live : Live Session) (o : Option Waiting) → ShowsFirst as_session setup (unsent run) lease live o → ShowsFirst as_session setup run lease live o
unfolding ShowsFirst shown
first-on setup run lease live None is = is
first-on setup run lease live (Some waiting) is = (timely-on setup run lease live waiting is.0, is.1)

of-on : (setup : Setup) (run : Net Session) (lease : Lease) (o : Option (Live Session)) → ShowsOf as_session setup (unsent run) lease o → ShowsOf as_session setup run lease o
unfolding ShowsOf
of-on setup run lease None is = is
of-on setup run lease (Some live) is = first-on setup run lease live (slice_get live.inbox 0) is

lease-on : (setup : Setup) (run : Net Session) (lease : Lease) → IsLeaseOf as_session setup (unsent run) lease → IsLeaseOf as_session setup run lease
unfolding IsLeaseOf
lease-on setup run lease is = of-on setup run lease (live_at lease.app run) is

offer-on : (setup : Setup) (run : Net Session) (app : AppId) (number : ℕ) (o : Option Lease) → Offers setup (unsent run) app number o → Offers setup run app number o
unfolding Offers
offer-on setup run app number None is = is
offer-on setup run app number (Some lease) is = record { number_is = is.number_is; app_is = is.app_is; first_is = is.first_is; now_is = is.now_is; shows = lease-on setup run lease is.shows }

pub offered_on : {E : Type 0} (setup : Setup) (run net : Net Session) (app : AppId) (number : ℕ) (r : Result (Option Lease) E) → net ≡ record run { sent = [] } → IfOk r (λ o. Offers setup net app number o) → IfOk r (λ o. Offers setup run app number o)
offered_on setup run net app number (Ok o) same is = offer-on setup run app number o (rw same at is)
offered_on setup run net app number (Err e) same is = tt

-- ## What is next, and who lives

pub next_on : {E : Type 0} (run net : Net Session) (kept : List Lease) (r : Result (Option Next) E) → net ≡ record run { sent = [] } → IfOk r (λ next. next ≡ next_free net kept) → IfOk r (λ next. next ≡ next_free run kept)
unfolding next_free next_events
next_on run net kept (Ok next) same is = rw same at is
next_on run net kept (Err e) same is = tt

pub lives_on : (run net : Net Session) (live waiting : ℕ) (app : AppId) → IsNet run net live waiting → is_some (live_at app net) ≡ is_some (live_at app run)
lives_on run net live waiting app is = rw is.net_is refl

-- ## The lease that is made

first-is : (setup : Setup) (net : Net Session) (app : AppId) (live : Live Session) (waiting : Waiting) → live_at app net ≡ Some live → slice_get live.inbox 0 ≡ Some waiting → first_number (live_at app net) ≡ Some waiting.number
unfolding first_number
first-is setup net app live waiting live_is first_is = rw (live_is, first_is) refl

shows-by : (setup : Setup) (net : Net Session) (lease : Lease) (live : Live Session) (waiting : Waiting) → live_at lease.app net ≡ Some live → slice_get live.inbox 0 ≡ Some waiting → IsTimely setup net lease live waiting
    → (shown as_session setup net lease.app live waiting lease.shown.now).view ≡ lease.shown → (shown as_session setup net lease.app live waiting lease.shown.now).event ≡ lease.event → IsLeaseOf as_session setup net lease
unfolding IsLeaseOf ShowsOf ShowsFirst IsShown
shows-by setup net lease live waiting live_is first_is timely view event =
    subst (λ o. ShowsOf as_session setup net lease o) (sym live_is) (subst (λ o. ShowsFirst as_session setup net lease live o) (sym first_is) (timely, (view, event)))

offered : (setup : Setup) (net : Net Session) (app : AppId) (live : Live Session) (waiting : Waiting) (number kind : ℕ) (prepared : Prepared) (lease : Lease) → live_at app net ≡ Some live → slice_get live.inbox 0 ≡ Some waiting → live.since ≤ net.moment
    → option_map (λ app. app.kind) (app_of setup.config app.host) ≡ Some kind → prepared ≡ shown as_session setup net app live waiting net.moment → IsMade number app kind waiting.number net.moment prepared lease → IsOffer setup net app number lease
offered setup net app live waiting number kind prepared lease live_is first_is since kind_is shown_is made =
    let same = ap (λ (a : AppId). shown as_session setup net a live waiting lease.shown.now) made.app_is ∙ ap (shown as_session setup net app live waiting) made.now_is ∙ sym shown_is in
    let now_is = made.now_is in
    let timely : IsTimely setup net lease live waiting = record {
      number_is = sym made.event_number_is;
      kind_is = ap (λ (a : AppId). option_map (λ app. app.kind) (app_of setup.config a.host)) made.app_is ∙ kind_is ∙ ap Some (sym made.kind_is);
      since = omega (arith, since, now_is);
      until = omega (arith, now_is);
    } in
    record {
      number_is = made.number_is;
      app_is = made.app_is;
      first_is = first-is setup net app live waiting live_is first_is ∙ ap Some (sym made.event_number_is);
      now_is = made.now_is;
      shows = shows-by setup net lease live waiting (ap (λ (a : AppId). live_at a net) made.app_is ∙ live_is) first_is timely (ap (λ (p : Prepared). p.view) same ∙ sym made.shown_is) (ap (λ (p : Prepared). p.event) same ∙ sym made.event_is);
    }

pub offered_ok : {E : Type 0} (setup : Setup) (net : Net Session) (app : AppId) (live : Live Session) (waiting : Waiting) (number kind : ℕ) (prepared : Prepared) (r : Result Lease E) → live_at app net ≡ Some live → slice_get live.inbox 0 ≡ Some waiting → live.since ≤ net.moment
    → option_map (λ app. app.kind) (app_of setup.config app.host) ≡ Some kind → prepared ≡ shown as_session setup net app live waiting net.moment → IfOk r (λ lease. IsMade number app kind waiting.number net.moment prepared lease)
    → IfOk r (λ lease. IsOffer setup net app number lease)
offered_ok setup net app live waiting number kind prepared (Ok lease) live_is first_is since kind_is shown_is made = offered setup net app live waiting number kind prepared lease live_is first_is since kind_is shown_is made
offered_ok setup net app live waiting number kind prepared (Err e) live_is first_is since kind_is shown_is made = tt

pub kind_of : (setup : Setup) (host : ℕ) (entry : AppEntry) → app_of setup.config host ≡ Some entry → option_map (λ (app : AppEntry). app.kind) (app_of setup.config host) ≡ Some entry.kind
kind_of setup host entry e = ap (option_map (λ (app : AppEntry). app.kind)) e

-- ## What is given

pub given : (old new : Known) (app : AppId) (lease : Lease) (r : Result Lease NoMemory) → IsOffer old.setup (net_of old) app (old.leases + 1) lease → IfOk r (λ given. (given ≡ lease) × (new ≡ record old { kept = old.kept ++ lease ∷ []; leases = old.leases + 1 }))
    → IfOk r (λ given. IsGiven old new given)
given old new app lease (Ok g) is made =
    subst (λ (l : Lease). IsGiven old new l) (sym made.0) (record { new_is = made.1; number_is = is.number_is; lease_is = is.shows; now_is = is.now_is })
given old new app lease (Err e) is made = tt

pub given_next : (old new : Known) (next : Next) (lease : Lease) (r : Result Lease NoMemory) → IsOffer old.setup (net_of old) next.app (old.leases + 1) lease → lease.event_number ≡ next.number
    → IfOk r (λ given. (given ≡ lease) × (new ≡ record old { kept = old.kept ++ lease ∷ []; leases = old.leases + 1 })) → IfOk r (λ given. next ≡ record { app = given.app; number = given.event_number })
given_next old new next lease (Ok g) is same made =
    subst (λ (l : Lease). next ≡ record { app = l.app; number = l.event_number }) (sym made.0) (rw (is.app_is, same) refl)
given_next old new next lease (Err e) is same made = tt
