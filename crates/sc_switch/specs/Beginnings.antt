-- What a turn begins with, kept from the moment at which it was lent out. This project's own.
use Rattle.std.specs.Prelude.{◌≡◌, ℕ, List, Bool, true, false, Option, None, Some, IfSome}
use Rattle.sc_value.specs.declared.ids.AppId.{AppId}
use Rattle.sc_terms.specs.declared.settings.Config.{Config}
use Rattle.sc_parts.specs.declared.setup.Setup.{Setup}
use Rattle.sc_state.specs.declared.net.Net.{Net}
use Rattle.sc_state.specs.declared.queue.Queued.{Queued}
use Rattle.sc_state.specs.declared.queue.Queued.TheVariants as queued
use Rattle.sc_state.specs.declared.session.Session.{Session}
use Rattle.sc_state.specs.declared.working.Prepared.{Prepared}
use Rattle.sc_hosts.specs.Steps.{live_at}
use Rattle.sc_runs.specs.Following.{first_number}
use Rattle.sc_steps.specs.TurnParts.{Begins}
use Rattle.sc_switch.specs.declared.leasing.Offered.{Offered}
use Rattle.sc_switch.specs.declared.readied.Begun.{Begun}
use Rattle.sc_switch.specs.Offering.{IsOffer}

-- the event is the timer of a branch: its turn alone asks for the settings and for the branches
-- that ring
unfoldable pub is_branch_timer : Queued → Bool
is_branch_timer (queued.BranchTimer branch due) = true
is_branch_timer event = false

-- the turn of the session's first event at this moment begins with it, where the session lives and
-- one waits, whatever the settings and the branches that ring
unfoldable pub BeginsAnyhow : Net Session → AppId → ℕ → Prepared → Type 0
BeginsAnyhow net app now shown =
    (config : Config) → (ringing : List ℕ) → Begins config ringing (live_at app net) now shown

-- what is kept is so, where something is
unfoldable pub IsBegun : Net Session → Option Begun → Type 0
IsBegun net None = Unit {0}
IsBegun net (Some begun) = BeginsAnyhow net begun.app begun.now begun.shown

-- the lease is offered of a session, and its turn begins with this, where that is known
unfoldable pub IsOfferBegun : Setup → Net Session → AppId → ℕ → Offered → Type 0
IsOfferBegun setup net app number offered =
    IsOffer setup net app number offered.lease
    × IfSome offered.begun (λ shown. BeginsAnyhow net app net.moment shown)

-- what is offered of a session; none where it doesn't live or no event waits for it
unfoldable pub OffersBegun : Setup → Net Session → AppId → ℕ → Option Offered → Type 0
OffersBegun setup net app number None = first_number (live_at app net) ≡ None
OffersBegun setup net app number (Some offered) = IsOfferBegun setup net app number offered
