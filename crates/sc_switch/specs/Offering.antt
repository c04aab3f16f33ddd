-- What is lent out, and what a brought turn is to the live leases. This project's own.
use Rattle.std.specs.Prelude.{◌≡◌, ◌==◌, ℕ, ◌+◌, map, filter, List, [], ◌∷◌, true, false, Option, None, Some, if◌then◌else◌}
use Rattle.std.specs.List.{fold}
use Rattle.sc_value.specs.declared.ids.AppId.{AppId}
use Rattle.sc_parts.specs.declared.setup.Setup.{Setup}
use Rattle.sc_state.specs.Hosts.{Host}
use Rattle.sc_state.specs.declared.host.Live.{Live}
use Rattle.sc_state.specs.declared.net.Net.{Net}
use Rattle.sc_state.specs.declared.session.Session.{Session}
use Rattle.sc_state.specs.declared.working.Prepared.{Prepared}
use Rattle.sc_servlets.specs.declared.lease.Lease.{Lease}
use Rattle.sc_servlets.specs.declared.done.Done.{Done}
use Rattle.sc_hosts.specs.Histories.{as_session}
use Rattle.sc_hosts.specs.Steps.{live_at}
use Rattle.sc_runs.specs.Following.{first_number}
use Rattle.sc_runs.specs.Next.{Next, next_of, earlier}
use Rattle.sc_switch.specs.declared.called.Judged.{Judged}
use Rattle.sc_switch.specs.declared.called.Judged.TheVariants as judged
use Rattle.sc_switch.specs.Standing.{is_live_lease, Fits}
use Rattle.sc_leases.specs.Leases.{IsLeaseOf, is_leased}

-- the lease of the first event of a session, of this number, at the last moment
pub record IsOffer (setup : Setup) (net : Net Session) (app : AppId) (number : ℕ)
    (lease : Lease) : Type 0 where
  pub number_is : lease.number ≡ number
  pub app_is : lease.app ≡ app
  pub first_is : first_number (live_at app net) ≡ Some lease.event_number
  pub now_is : lease.shown.now ≡ net.moment
  pub shows : IsLeaseOf as_session setup net lease

-- the lease that is offered of a session; none where it doesn't live or no event waits for it
unfoldable pub Offers : Setup → Net Session → AppId → ℕ → Option Lease → Type 0
Offers setup net app number None = first_number (live_at app net) ≡ None
Offers setup net app number (Some lease) = IsOffer setup net app number lease

-- the parts of a lease
pub record IsMade (number : ℕ) (app : AppId) (kind event now : ℕ) (shown : Prepared)
    (lease : Lease) : Type 0 where
  pub number_is : lease.number ≡ number
  pub app_is : lease.app ≡ app
  pub kind_is : lease.kind ≡ kind
  pub event_number_is : lease.event_number ≡ event
  pub now_is : lease.shown.now ≡ now
  pub shown_is : lease.shown ≡ shown.view
  pub event_is : lease.event ≡ shown.event

-- ## The next event without a lease

-- the lower of the one so far and the next
unfoldable pub better : Option Next → Next → Option Next
better None next = Some next
better (Some best) next = Some (earlier best next)

-- the same, where the next one isn't leased
unfoldable pub with_next : List Lease → Option Next → Option Next → Option Next
with_next kept best None = best
with_next kept best (Some next) = if is_leased kept next.app then best else better best next

-- the sessions of a host that have a live lease
unfoldable pub leased_at : ℕ → List Lease → List ℕ
leased_at number kept =
    map (λ lease. lease.app.serial) (filter (λ lease. lease.app.host == number) kept)

-- the lower of the best so far and the first event of this session, where that isn't leased
unfoldable pub with_live : List Lease → ℕ → Option Next → Live Session → Option Next
with_live kept number best live = with_next kept best (next_of number live)

-- the same for all sessions of a host
unfoldable pub with_host : List Lease → ℕ → Option Next → Host Session → Option Next
with_host kept number best host = fold (with_live kept number) best host.sessions

-- the same for these hosts, counted from this number
unfoldable pub with_hosts : List Lease → ℕ → Option Next → List (Host Session) → Option Next
with_hosts kept number best [] = best
with_hosts kept number best (host ∷ hosts) =
    with_hosts kept (number + 1) (with_host kept number best host) hosts

-- ## What a brought turn is

-- what a brought turn is: it fits, its lease isn't live any more, or another one has its number
unfoldable pub Judges : Setup → List Lease → Done → Judged → Type 0
Judges setup kept done judged.Fits = Fits setup kept done
Judges setup kept done judged.Gone = is_live_lease kept done.lease.number ≡ false
Judges setup kept done judged.Other =
    (is_live_lease kept done.lease.number ≡ true) × (Fits setup kept done → ⊥)
