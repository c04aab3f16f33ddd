-- A switch stands for its journal: at first, after one more step, and as messages are taken from it.
use Rattle.std.proofs.Common.{◌≡◌, ℕ, ◌+◌, ◌<◌, ◌≤◌, ◌⊎◌, false, Option, List, [], ◌∷◌, ◌++◌, length, map, min, refl, sym, ap, ◌∙◌, subst, arith, length-append, append_assoc, inl, inr}
use Rattle.std.specs.Prelude.{option_to_list, sum_by}
use Rattle.std.proofs.lemmas.List.{append-nil}
use Rattle.std.proofs.lemmas.List.Sums.{fold-append, sum_by-append, sum_by-cons}
use Rattle.sc_value.specs.declared.message.Sent.{Sent}
use Rattle.sc_terms.specs.declared.steps.Step.{Step}
use Rattle.sc_terms.specs.declared.settings.AppEntry.{AppEntry}
use Rattle.sc_parts.specs.declared.setup.Setup.{Setup}
use Rattle.sc_journal.specs.Kept.{Kept}
use Rattle.sc_state.specs.Hosts.{Host}
use Rattle.sc_state.specs.declared.net.Net.{Net}
use Rattle.sc_state.specs.declared.session.Session.{Session}
use Rattle.sc_servlets.specs.declared.lease.Lease.{Lease}
use Rattle.sc_servlets.specs.declared.done.Done.{Done}
use Rattle.sc_model.specs.JournalSizes.{HasNoRoom, journal_size, record_size, step_size}
use Rattle.sc_model.specs.Settings.{IsSetup}
use Rattle.sc_hosts.specs.Histories.{as_session}
use Rattle.sc_hosts.specs.Runs.{IsAllowed, IsLawful, IsLawfulFrom, after_step, all_sent, all_sent_from, net_from as chained, chained_from, live_count, quiet_host, start, waiting_count}
use Rattle.sc_hosts.proofs.RunLaws.{sent-of-beginning}
use Rattle.sc_switch.specs.declared.brought.Taken.{Taken}
use Rattle.sc_switch.specs.declared.brought.Taken.TheVariants as takes
use Rattle.sc_switch.specs.declared.refused.StepRefused.{StepRefused}
use Rattle.sc_switch.specs.declared.refused.StepRefused.TheVariants as refused
use Rattle.sc_switch.specs.declared.stepping.Stepped.{Stepped}
use Rattle.sc_switch.specs.Standing.{AreKept, Fits, Known, net_of, whole, IsAllSent, IsNet, IsSwitch, step_of}
use Rattle.sc_switch.specs.Stepping.{HasRoom, IsStepped, Refuses}
use Rattle.sc_switch.specs.Answers.{RefusesRight, RefusesTurn, with_step}
use Rattle.sc_leases.proofs.KeptLeases.{kept-after, kept-given, kept-without}
use Rattle.sc_leases.specs.Leases.{AreLeases, IsLeaseOf, is_leased, kept_after, without_number}

-- ## One more step of a journal

chained-step : (setup : Setup) (epoch began : ℕ) (journal : List Step) (step : Step)
    → chained as_session setup epoch began (journal ++ step ∷ []) ≡ after_step as_session setup (chained as_session setup epoch began journal) step
unfolding chained chained_from
chained-step setup epoch began journal step = fold-append (after_step as_session setup) (start setup epoch began) journal (step ∷ [])

lawful-from : (setup : Setup) (net : Net Session) (journal : List Step) (step : Step) → IsLawfulFrom as_session setup net journal → IsAllowed as_session setup (chained_from as_session setup net journal) step
    → IsLawfulFrom as_session setup net (journal ++ step ∷ [])
unfolding IsLawfulFrom chained_from
lawful-from setup net [] step lawful allowed = (allowed, tt)
lawful-from setup net (first ∷ later) step lawful allowed = (lawful.0, lawful-from setup (after_step as_session setup net first) later step lawful.1 allowed)

pub lawful-step : (setup : Setup) (epoch began : ℕ) (journal : List Step) (step : Step) → IsLawful as_session setup epoch began journal → IsAllowed as_session setup (chained as_session setup epoch began journal) step
    → IsLawful as_session setup epoch began (journal ++ step ∷ [])
unfolding IsLawful chained
lawful-step setup epoch began journal step lawful allowed = lawful-from setup (start setup epoch began) journal step lawful allowed

sent-one : (setup : Setup) (net : Net Session) (step : Step) → all_sent_from as_session setup net (step ∷ []) ≡ (after_step as_session setup net step).sent
unfolding all_sent_from
sent-one setup net step = append-nil _

pub sent-step : (setup : Setup) (epoch began : ℕ) (journal : List Step) (step : Step)
    → all_sent as_session setup epoch began (journal ++ step ∷ []) ≡ all_sent as_session setup epoch began journal ++ (after_step as_session setup (chained as_session setup epoch began journal) step).sent
sent-step setup epoch began journal step =
    sent-of-beginning as_session setup epoch began journal (step ∷ [])
    ∙ ap (λ more. all_sent as_session setup epoch began journal ++ more) (sent-one setup (chained as_session setup epoch began journal) step)

size-step : (journal : List Step) (step : Step) → journal_size (journal ++ step ∷ []) ≡ journal_size journal + step_size step
unfolding journal_size
size-step journal step =
    let whole = sum_by-append step_size journal (step ∷ []) in
    let last = sum_by-cons step_size step [] in
    omega (arith, whole, last)

-- what was sent before a step is no matter to it
pub unsent : (setup : Setup) (run net : Net Session) (step : Step) → net ≡ record run { sent = [] } → after_step as_session setup net step ≡ after_step as_session setup run step
unfolding after_step
unsent setup run net step e = rw e refl

-- the steps of the whole epoch after one more
whole-step : (old : Known) (step : Step) → whole (with_step old step) ≡ whole old ++ step ∷ []
whole-step old step = sym (append_assoc old.handed old.journal (step ∷ []))

pub net-step : (old : Known) (step : Step) → net_of (with_step old step) ≡ after_step as_session old.setup (net_of old) step
unfolding net_of
net-step old step = ap (chained as_session old.setup old.epoch old.began) (whole-step old step) ∙ chained-step old.setup old.epoch old.began (whole old) step

-- ## An epoch that begins

quiet-lives : (apps : List AppEntry) → sum_by (λ (host : Host Session). length host.sessions) (map (λ app. quiet_host) apps) ≡ 0
unfolding quiet_host
quiet-lives [] = refl
quiet-lives (app ∷ apps) = quiet-lives apps

quiet-waits : (apps : List AppEntry) → sum_by (λ (host : Host Session). sum_by (λ live. length live.inbox) host.sessions) (map (λ app. quiet_host) apps) ≡ 0
unfolding quiet_host
quiet-waits [] = refl
quiet-waits (app ∷ apps) = quiet-waits apps

-- nothing was taken, nothing sent, and no lease is out
abbrev pub beginning : Setup → ℕ → ℕ → ℕ → Known
beginning setup epoch began leases = record { setup = setup; epoch = epoch; began = began; handed = []; journal = []; left = []; kept = []; leases = leases }

pub IsSwitch-begun : (setup : Setup) (epoch began leases : ℕ) (journal : Kept Step) (net : Net Session) → IsSetup setup → journal.items ≡ [] → journal.used ≡ 0 → journal.most_items ≡ setup.config.journal_steps → journal.most_bytes ≡ setup.config.journal_bytes
    → net ≡ start setup epoch began → IsSwitch (beginning setup epoch began leases) journal 0 net 0 0
unfolding net_of IsLawful IsLawfulFrom chained chained_from start all_sent all_sent_from journal_size live_count waiting_count AreLeases
IsSwitch-begun setup epoch began leases journal net right items used most_items most_bytes net_is = record {
  right = right;
  items_is = items;
  steps_is = most_items;
  bytes_is = most_bytes;
  within = rw items (omega arith);
  used_is = rw (items, used) refl;
  before_is = refl;
  lawful = tt;
  net_is = record { net_is = net_is; live_is = sym (quiet-lives setup.config.app); waiting_is = sym (quiet-waits setup.config.app) };
  sent_is = record { taken = []; sent_is = refl };
  leases_are = omega arith;
}

-- ## One more step

sent_more : (sent left more : List Sent) → IsAllSent sent left → IsAllSent (sent ++ more) (left ++ more)
sent_more sent left more is = record { taken = is.taken; sent_is = ap (λ xs. xs ++ more) is.sent_is ∙ append_assoc is.taken left more }

-- a message was taken, or none
sent_taken : (sent : List Sent) (taken : Option Sent) (left rest : List Sent) → left ≡ option_to_list taken ++ rest → IsAllSent sent left → IsAllSent sent rest
sent_taken sent taken left rest e is =
    record { taken = is.taken ++ option_to_list taken; sent_is = is.sent_is ∙ (ap (λ (l : List Sent). is.taken ++ l) e ∙ sym (append_assoc is.taken (option_to_list taken) rest)) }

-- a size that finds room is exact
exact_size : (known : Known) (journal : Kept Step) (before : ℕ) (net : Net Session) (live waiting : ℕ) (step : Step) (size : ℕ)
    → IsSwitch known journal before net live waiting → size ≡ min (step_size step) 18446744073709551615 → journal.used + size ≤ journal.most_bytes → size ≡ step_size step
exact_size known journal before net live waiting step size is size_is fit = omega (arith, size_is, fit, is.bytes_is, is.right.bytes)

-- what a step sends, of the net that the switch keeps
stepped-sent : (known : Known) (journal : Kept Step) (before : ℕ) (net : Net Session) (live waiting : ℕ) (step : Step) (made : Stepped) → IsSwitch known journal before net live waiting → IsStepped known.setup net step made
    → made.sent ≡ (after_step as_session known.setup (net_of known) step).sent
stepped-sent known journal before net live waiting step made is stepped =
    stepped.sent_is ∙ ap (λ (n : Net Session). n.sent) (unsent known.setup (net_of known) net step is.net_is.net_is)

kept-step : (old : Known) (step : Step) → IsAllowed as_session old.setup (net_of old) step → AreKept old → AreKept (with_step old step)
kept-step old step allowed are = rw (net-step old step) (kept-after as_session old.setup (net_of old) step old.kept 0 old.leases allowed are)

step-is : (old : Known) (journal mid new : Kept Step) (before : ℕ) (net : Net Session) (live waiting : ℕ) (step : Step) (made : Stepped) (size : ℕ)
    → IsSwitch old journal before net live waiting → IsStepped old.setup net step made → IsAllowed as_session old.setup (net_of old) step
    → mid ≡ record journal { room = mid.room } → HasRoom mid size → size ≡ min (step_size step) 18446744073709551615
    → new ≡ record mid { items = mid.items ++ step ∷ []; used = mid.used + size; room = new.room }
    → IsSwitch (with_step old step) new before made.net made.live made.waiting
unfolding net_of
step-is old journal mid new before net live waiting step made size is stepped allowed mid_is has size_is new_is =
    let long = length-append journal.items (step ∷ []) in
    let below : length journal.items < journal.most_items = rw mid_is at has.items in
    let fit : journal.used + size ≤ journal.most_bytes = rw mid_is at has.bytes_fit in
    let exact = exact_size old journal before net live waiting step size is size_is fit in
    let run = net_of old in
    let next : IsNet (after_step as_session old.setup run step) made.net made.live made.waiting = subst (λ (n : Net Session). IsNet n made.net made.live made.waiting) (unsent old.setup run net step is.net_is.net_is) stepped.net_is in
    rw (new_is, mid_is)
    (record {
      right = is.right;
      items_is = ap (λ (items : List Step). items ++ step ∷ []) is.items_is;
      steps_is = is.steps_is;
      bytes_is = is.bytes_is;
      within = omega (arith, long, below);
      used_is = rw (size-step, ← exact, ← is.used_is) refl;
      before_is = is.before_is;
      lawful = rw (whole-step old step) (lawful-step old.setup old.epoch old.began (whole old) step is.lawful allowed);
      net_is = rw (net-step old step) next;
      sent_is = rw (whole-step old step, sent-step old.setup old.epoch old.began (whole old) step) (sent_more _ old.left _ is.sent_is);
      leases_are = kept-step old step allowed is.leases_are;
    })

-- the view after a step
pub known_step : (old : Known) (journal mid new : Kept Step) (before : ℕ) (net : Net Session) (live waiting : ℕ) (left : List Sent) (kept : List Lease) (step : Step) (made : Stepped) (size : ℕ)
    → IsSwitch old journal before net live waiting → IsStepped old.setup net step made
    → mid ≡ record journal { room = mid.room } → new ≡ record mid { items = mid.items ++ step ∷ []; used = mid.used + size; room = new.room } → left ≡ old.left ++ made.sent → kept ≡ kept_after step old.kept
    → ◌≡◌ {A = Known} (record old { journal = new.items; left = left; kept = kept }) (with_step old step)
known_step old journal mid new before net live waiting left kept step made size is stepped mid_is new_is left_is kept_is =
    let items : new.items ≡ old.journal ++ step ∷ [] = ap (λ (j : Kept Step). j.items) new_is ∙ ap (λ (j : Kept Step). j.items ++ step ∷ []) mid_is ∙ ap (λ (items : List Step). items ++ step ∷ []) is.items_is in
    rw (items, left_is, kept_is, stepped-sent old journal before net live waiting step made is stepped) refl

pub IsSwitch-step : (old : Known) (journal mid new : Kept Step) (before : ℕ) (net net' : Net Session) (live waiting live' waiting' : ℕ) (left : List Sent) (kept : List Lease) (step : Step) (made : Stepped) (size : ℕ)
    → IsSwitch old journal before net live waiting → IsStepped old.setup net step made → IsAllowed as_session old.setup (net_of old) step
    → mid ≡ record journal { room = mid.room } → HasRoom mid size → size ≡ min (step_size step) 18446744073709551615
    → new ≡ record mid { items = mid.items ++ step ∷ []; used = mid.used + size; room = new.room } → left ≡ old.left ++ made.sent → kept ≡ kept_after step old.kept
    → net' ≡ made.net → live' ≡ made.live → waiting' ≡ made.waiting
    → IsSwitch (record old { journal = new.items; left = left; kept = kept }) new before net' live' waiting'
IsSwitch-step old journal mid new before net net' live waiting live' waiting' left kept step made size is stepped allowed mid_is has size_is new_is left_is kept_is net_is live_is waiting_is =
    rw (net_is, live_is, waiting_is)
    (subst (λ (k : Known). IsSwitch k new before made.net made.live made.waiting)
    (sym (known_step old journal mid new before net live waiting left kept step made size is stepped mid_is new_is left_is kept_is))
    (step-is old journal mid new before net live waiting step made size is stepped allowed mid_is has size_is new_is))

-- ## What is refused

-- room that was made is room
pub not_full : (known : Known) (journal mid : Kept Step) (before : ℕ) (net : Net Session) (live waiting : ℕ) (step : Step) (size : ℕ)
    → IsSwitch known journal before net live waiting → mid ≡ record journal { room = mid.room } → HasRoom mid size → size ≡ min (step_size step) 18446744073709551615
    → HasNoRoom known.setup.config.journal_steps known.setup.config.journal_bytes known.journal (step_size step) → ⊥
unfolding HasNoRoom
not_full known journal mid before net live waiting step size is mid_is has size_is (inl full) =
    let below : length journal.items < journal.most_items = rw mid_is at has.items in
    let same = ap length is.items_is in
    omega (arith, below, full, same, is.steps_is)
not_full known journal mid before net live waiting step size is mid_is has size_is (inr past) =
    let fit : journal.used + size ≤ journal.most_bytes = rw mid_is at has.bytes_fit in
    let exact = exact_size known journal before net live waiting step size is size_is fit in
    let same = ap journal_size is.items_is in
    omega (arith, fit, past, exact, same, is.bytes_is, is.used_is)

no-room : (known : Known) (journal : Kept Step) (before : ℕ) (net : Net Session) (live waiting : ℕ) (step : Step) (size : ℕ)
    → IsSwitch known journal before net live waiting → size ≡ min (step_size step) 18446744073709551615 → (length journal.items ≡ journal.most_items) ⊎ (journal.most_bytes < journal.used + size)
    → HasNoRoom known.setup.config.journal_steps known.setup.config.journal_bytes known.journal (step_size step)
unfolding HasNoRoom
no-room known journal before net live waiting step size is size_is (inl full) =
    let same = ap length is.items_is in inl (omega (arith, full, same, is.steps_is))
no-room known journal before net live waiting step size is size_is (inr past) =
    let same = ap journal_size is.items_is in inr (omega (arith, past, size_is, same, is.bytes_is, is.used_is))

-- a refusal of the journal is one of the switch
pub refuses_right : (known : Known) (journal : Kept Step) (before : ℕ) (net : Net Session) (live waiting : ℕ) (step : Step) (size : ℕ) (cause : StepRefused)
    → IsSwitch known journal before net live waiting → size ≡ min (step_size step) 18446744073709551615 → Refuses journal size cause → RefusesRight known (step_size step) cause
unfolding RefusesRight
refuses_right known journal before net live waiting step size (refused.JournalFull steps bytes) is size_is refuses =
    (refuses.0 ∙ is.steps_is, refuses.1 ∙ is.bytes_is, no-room known journal before net live waiting step size is size_is refuses.2)
refuses_right known journal before net live waiting step size refused.NoMemory is size_is refuses = tt

-- ## Messages that are taken, and leases that are given or end

pub IsSwitch-taken : (known : Known) (journal : Kept Step) (before : ℕ) (net : Net Session) (live waiting : ℕ) (rest : List Sent) (taken : Option Sent) → IsSwitch known journal before net live waiting → known.left ≡ option_to_list taken ++ rest
    → IsSwitch (record known { left = rest }) journal before net live waiting
unfolding net_of
IsSwitch-taken known journal before net live waiting rest taken is left_is = record {
  right = is.right;
  items_is = is.items_is;
  steps_is = is.steps_is;
  bytes_is = is.bytes_is;
  within = is.within;
  used_is = is.used_is;
  before_is = is.before_is;
  lawful = is.lawful;
  net_is = is.net_is;
  sent_is = sent_taken _ taken known.left rest left_is is.sent_is;
  leases_are = is.leases_are;
}

with-leases : (known : Known) (journal : Kept Step) (before : ℕ) (net : Net Session) (live waiting : ℕ) (kept : List Lease) (leases : ℕ) → IsSwitch known journal before net live waiting
    → AreLeases as_session known.setup (net_of known) kept 0 leases → IsSwitch (record known { kept = kept; leases = leases }) journal before net live waiting
unfolding net_of
with-leases known journal before net live waiting kept leases is are = record {
  right = is.right;
  items_is = is.items_is;
  steps_is = is.steps_is;
  bytes_is = is.bytes_is;
  within = is.within;
  used_is = is.used_is;
  before_is = is.before_is;
  lawful = is.lawful;
  net_is = is.net_is;
  sent_is = is.sent_is;
  leases_are = are;
}

pub IsSwitch-given : (known : Known) (journal : Kept Step) (before : ℕ) (net : Net Session) (live waiting : ℕ) (lease : Lease) (kept : List Lease) (leases : ℕ) → IsSwitch known journal before net live waiting
    → IsLeaseOf as_session known.setup (net_of known) lease → lease.number ≡ known.leases + 1 → is_leased known.kept lease.app ≡ false → kept ≡ known.kept ++ lease ∷ [] → leases ≡ known.leases + 1
    → IsSwitch (record known { kept = kept; leases = leases }) journal before net live waiting
IsSwitch-given known journal before net live waiting lease kept leases is shows number free kept_is leases_is =
    rw (kept_is, leases_is)
    (with-leases known journal before net live waiting (known.kept ++ lease ∷ []) (known.leases + 1) is (kept-given as_session known.setup (net_of known) lease known.kept 0 known.leases is.leases_are shows number free))

pub IsSwitch-without : (known : Known) (journal : Kept Step) (before : ℕ) (net : Net Session) (live waiting number : ℕ) (kept : List Lease) → IsSwitch known journal before net live waiting → kept ≡ without_number number known.kept
    → IsSwitch (record known { kept = kept }) journal before net live waiting
IsSwitch-without known journal before net live waiting number kept is kept_is =
    rw kept_is (with-leases known journal before net live waiting (without_number number known.kept) known.leases is (kept-without as_session known.setup (net_of known) known.kept 0 known.leases number is.leases_are))

-- ## A turn

pub turn_size : (done : Done) (size : ℕ) → size ≡ min (sum_by record_size done.calls) 18446744073709551615 → size ≡ min (step_size (step_of done)) 18446744073709551615
unfolding step_size step_of
turn_size done size is = is

pub same_turn : (a b : Done) → takes.Turn a ≡ takes.Turn b → a ≡ b
same_turn a b e = cc

pub never_step : (taken : Taken) (done : Done) (step : Step) → taken ≡ takes.Turn done → taken ≡ takes.Step step → ⊥
never_step taken done step turn is = cc

pub refuses_turn : (known : Known) (done : Done) (size : ℕ) (cause : StepRefused) → Fits known.setup known.kept done → RefusesRight known size cause → RefusesTurn known done size cause
unfolding RefusesTurn
refuses_turn known done size (refused.JournalFull steps bytes) fits refuses = (refuses, fits)
refuses_turn known done size refused.NoMemory fits refuses = tt
