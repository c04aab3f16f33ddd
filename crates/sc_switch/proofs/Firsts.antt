-- A live session of the net after a lawful journal: since when its first event has been first is past, and its
-- host is an application's.
use Rattle.std.proofs.Common.{◌≡◌, ◌≤◌, ℕ, zero, suc, true, Option, None, Some, List, [], ◌∷◌, length, refl, arith}
use Rattle.std.specs.Prelude.{IfSome, is_some, slice_get}
use Rattle.sc_value.specs.declared.ids.AppId.{AppId}
use Rattle.sc_terms.specs.declared.settings.AppEntry.{AppEntry}
use Rattle.sc_terms.specs.declared.steps.Step.{Step}
use Rattle.sc_parts.specs.declared.setup.Setup.{Setup}
use Rattle.sc_state.specs.Hosts.{Host}
use Rattle.sc_state.specs.declared.host.Live.{Live}
use Rattle.sc_state.specs.declared.net.Net.{Net}
use Rattle.sc_state.specs.declared.session.Session.{Session}
use Rattle.sc_model.specs.Settings.{app_of}
use Rattle.sc_hosts.specs.Histories.{as_session}
use Rattle.sc_hosts.specs.Runs.{net_from as chained, IsLawful}
use Rattle.sc_hosts.specs.Steps.{live_at, live_of}
use Rattle.sc_lives.proofs.HostCounts.{chained-hosts}
use Rattle.sc_moments.proofs.PastRuns.{first-is-past}

-- ## Its first event

past-of : (net : Net Session) (app : AppId) (o : Option (Live Session)) → live_at app net ≡ o → ((live : Live Session) → live_at app net ≡ Some live → live.since ≤ net.moment) → IfSome o (λ live. live.since ≤ net.moment)
past-of net app None e each = tt
past-of net app (Some live) e each = each live e

pub past_on : (setup : Setup) (epoch began : ℕ) (journal : List Step) (net : Net Session) (app : AppId) → net ≡ record (chained as_session setup epoch began journal) { sent = [] } → IsLawful as_session setup epoch began journal
    → IfSome (live_at app net) (λ live. live.since ≤ net.moment)
past_on setup epoch began journal net app is lawful =
    let run : Net Session = chained as_session setup epoch began journal in
    rw is (past-of run app (live_at app run) refl (λ live e. first-is-past as_session setup epoch began journal app live lawful e))

pub past_there : (net : Net Session) (app : AppId) (live : Live Session) → live_at app net ≡ Some live → IfSome (live_at app net) (λ live. live.since ≤ net.moment) → live.since ≤ net.moment
past_there net app live e past = rw e at past

-- ## Its application

pub hosts_on : (setup : Setup) (epoch began : ℕ) (journal : List Step) (net : Net Session) → net ≡ record (chained as_session setup epoch began journal) { sent = [] } → length net.hosts ≡ length setup.config.app
hosts_on setup epoch began journal net is = rw is (chained-hosts as_session setup epoch began journal)

both-there : {A B : Type 0} (xs : List A) (ys : List B) (n : ℕ) → length xs ≡ length ys → is_some (slice_get xs n) ≡ true → is_some (slice_get ys n) ≡ true
both-there [] ys n e is = absurd (grind (arith, is))
both-there (x ∷ xs) [] n e is = absurd (omega (arith, e))
both-there (x ∷ xs) (y ∷ ys) zero e is = refl
both-there (x ∷ xs) (y ∷ ys) (suc n) e is = both-there xs ys n (omega (arith, e)) is

of-host : (app : AppId) (o : Option (Host Session)) (live : Live Session) → live_of app o ≡ Some live → is_some o ≡ true
of-host app None live e = absurd (grind (arith, e))
of-host app (Some host) live e = refl

pub kind_there : (setup : Setup) (net : Net Session) (app : AppId) (live : Live Session) → length net.hosts ≡ length setup.config.app → live_at app net ≡ Some live → is_some (app_of setup.config app.host) ≡ true
kind_there setup net app live same e = both-there net.hosts setup.config.app app.host same (of-host app (slice_get net.hosts app.host) live e)

pub no_kind : (o : Option AppEntry) → o ≡ None → is_some o ≡ true → ⊥
no_kind o none some = absurd (grind (arith, none, some))
