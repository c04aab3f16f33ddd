-- What callers see of a switch, and what it stands for: the run of its journal, with sessions kept
-- as what they are. This project's own.
use Rattle.std.specs.Prelude.{◌≡◌, ℕ, ◌≤◌, List, [], ◌++◌, Bool, Option, Some, is_some, length, min}
use Rattle.std.specs.List.{find, flat_map}
use Rattle.std.specs.Option.{option_and_then}
use Rattle.sc_value.specs.declared.message.Sent.{Sent}
use Rattle.sc_terms.specs.declared.charters.Charter.{Charter}
use Rattle.sc_terms.specs.declared.charters.ListenerCharter.{ListenerCharter}
use Rattle.sc_terms.specs.declared.steps.Step.{Step}
use Rattle.sc_terms.specs.declared.steps.Step.TheVariants as steps
use Rattle.sc_parts.specs.declared.setup.Setup.{Setup}
use Rattle.sc_journal.specs.Kept.{Kept}
use Rattle.sc_state.specs.declared.net.Net.{Net}
use Rattle.sc_state.specs.declared.session.Session.{Session}
use Rattle.sc_servlets.specs.declared.lease.Lease.{Lease}
use Rattle.sc_servlets.specs.declared.done.Done.{Done}
use Rattle.sc_servlets.specs.Stated.{servlet_at, listener_at}
use Rattle.sc_model.specs.JournalSizes.{journal_size}
use Rattle.sc_model.specs.Settings.{IsSetup, charters_of}
use Rattle.sc_hosts.specs.Histories.{as_session}
use Rattle.sc_hosts.specs.Runs.{IsLawful, all_sent, live_count, net_from, waiting_count}
use Rattle.sc_leases.specs.Leases.{AreLeases, has_number}

-- what callers see: the set-up, the number and the first moment of the epoch, the steps of the
-- epoch that were handed on, those that are kept, what was sent and not taken yet, the live leases
-- in the order in which they were given, and the number of the last lease
pub record Known : Type 0 where
  pub setup : Setup
  pub epoch : ℕ
  pub began : ℕ
  pub handed : List Step
  pub journal : List Step
  pub left : List Sent
  pub kept : List Lease
  pub leases : ℕ

-- all steps of the epoch
abbrev pub whole : Known → List Step
whole known = known.handed ++ known.journal

-- the net after them
unfoldable pub net_of : Known → Net Session
net_of known = net_from as_session known.setup known.epoch known.began (whole known)

-- the steps of journals, one after the other
unfoldable pub steps_of : List (Kept Step) → List Step
steps_of journals = flat_map (λ journal. journal.items) journals

-- ## Leases

-- each live lease shows what there is, no two are of one session, and their numbers rise up to the
-- last
abbrev pub AreKept : Known → Type 0
AreKept known = AreLeases as_session known.setup (net_of known) known.kept 0 known.leases

-- a lease of this number is live
unfoldable pub is_live_lease : List Lease → ℕ → Bool
is_live_lease kept number = is_some (find (has_number number) kept)

-- the charter of the servlet, and of the listener, that a lease calls
unfoldable pub servlet_of : Setup → Lease → Option Charter
servlet_of setup lease = option_and_then (servlet_at lease.event) (charters_of setup lease.app.host)

-- the listener that a lease calls, where it calls one
unfoldable pub listener_of : Setup → Lease → Option ListenerCharter
listener_of setup lease =
    option_and_then (listener_at lease.event) (charters_of setup lease.app.host)

-- the brought lease is the live one of its number, and those were called whom it calls; the net is
-- no matter
pub record Fits (setup : Setup) (kept : List Lease) (done : Done) : Type 0 where
  pub lease_is : find (has_number done.lease.number) kept ≡ Some done.lease
  pub charter_is : done.charter ≡ servlet_of setup done.lease
  pub listener_is : done.listener ≡ listener_of setup done.lease

-- the step of a turn that is brought
unfoldable pub step_of : Done → Step
step_of done =
    steps.Turn done.end done.lease.app done.lease.event_number done.lease.shown.now done.calls

-- ## What the switch stands for

-- what was taken and what is left is all that the journal sends
pub record IsAllSent (sent left : List Sent) : Type 0 where
  pub taken : List Sent
  pub sent_is : sent ≡ taken ++ left

-- the net has nothing on its way outside, and is else that of the run; and this is counted in it
pub record IsNet (run net : Net Session) (live waiting : ℕ) : Type 0 where
  pub net_is : net ≡ record run { sent = [] }
  pub live_is : live ≡ live_count run
  pub waiting_is : waiting ≡ waiting_count run

-- the limits judge the steps that are kept; all else is of the whole epoch
pub record IsSwitch (known : Known) (journal : Kept Step) (before : ℕ) (net : Net Session)
    (live waiting : ℕ) : Type 0 where
  pub right : IsSetup known.setup
  pub items_is : journal.items ≡ known.journal
  pub steps_is : journal.most_items ≡ known.setup.config.journal_steps
  pub bytes_is : journal.most_bytes ≡ known.setup.config.journal_bytes
  pub within : length journal.items ≤ journal.most_items
  pub used_is : journal.used ≡ journal_size journal.items
  pub before_is : before ≡ min (length known.handed) 18446744073709551615
  pub lawful : IsLawful as_session known.setup known.epoch known.began (whole known)
  pub net_is : IsNet (net_of known) net live waiting
  pub sent_is : IsAllSent (all_sent as_session known.setup known.epoch known.began (whole known))
      known.left
  pub leases_are : AreKept known
