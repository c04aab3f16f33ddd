-- The epoch that ends, and the one that begins.
use Rattle.std.proofs.Common.{◌≡◌, ◌<◌, ◌≤◌, ℕ, ◌+◌, List, [], ◌∷◌, ◌++◌, length, map, min, refl, sym, ap, ◌∙◌, subst, arith}
use Rattle.sc_terms.specs.declared.steps.Step.{Step}
use Rattle.sc_parts.specs.declared.setup.Setup.{Setup}
use Rattle.sc_journal.specs.Kept.{Kept}
use Rattle.sc_state.specs.Hosts.{Host}
use Rattle.sc_state.specs.declared.net.Net.{Net}
use Rattle.sc_state.specs.declared.session.Session.{Session}
use Rattle.sc_hosts.specs.Histories.{as_session}
use Rattle.sc_hosts.specs.Runs.{live_count, quiet_host, start}
use Rattle.sc_leases.proofs.KeptLeases.{kept-none}
use Rattle.sc_switch.specs.declared.refused.Epoch.{Epoch}
use Rattle.sc_switch.specs.declared.refused.EpochRefused.TheVariants as epochs
use Rattle.sc_switch.specs.Answers.{IsReady, IsTurned, RefusesEpoch}
use Rattle.sc_switch.specs.Counting.{busy_count}
use Rattle.sc_switch.specs.Standing.{Known, net_of, steps_of, IsNet, IsSwitch}
use Rattle.sc_switch.proofs.Firsts.{hosts_on}
use Rattle.sc_switch.proofs.Idle.{idle}
use Rattle.sc_switch.proofs.Standings.{IsSwitch-begun, beginning}

-- ## The net that begins

same-each : {A B C : Type 0} (c : C) (xs : List A) (ys : List B) → length xs ≡ length ys → map (λ x. c) xs ≡ map (λ y. c) ys
same-each c [] [] same = refl
same-each c [] (y ∷ ys) same = absurd (omega (arith, same))
same-each c (x ∷ xs) [] same = absurd (omega (arith, same))
same-each c (x ∷ xs) (y ∷ ys) same = ap (λ cs. c ∷ cs) (same-each c xs ys (omega (arith, same)))

begun-net : (setup : Setup) (epoch : ℕ) (net next : Net Session) → length net.hosts ≡ length setup.config.app
    → next ≡ record { hosts = map (λ (host : Host Session). quiet_host) net.hosts; wire = []; epoch = epoch; moment = net.moment; count = 0; sent = [] } → next ≡ start setup epoch net.moment
unfolding start
begun-net setup epoch net next same next_is =
    next_is ∙ ap (λ (hosts : List (Host Session)). record { hosts = hosts; wire = []; epoch = epoch; moment = net.moment; count = 0; sent = [] }) (same-each quiet_host net.hosts setup.config.app same)

hosts-of : (known : Known) (journal : Kept Step) (before : ℕ) (net : Net Session) (live waiting : ℕ) → IsSwitch known journal before net live waiting → length net.hosts ≡ length known.setup.config.app
unfolding net_of
hosts-of known journal before net live waiting is = hosts_on known.setup known.epoch known.began (known.handed ++ known.journal) net is.net_is.net_is

-- ## The switch then

none-out : (known : Known) (journal : Kept Step) (before : ℕ) (net : Net Session) (live waiting : ℕ) → IsSwitch known journal before net live waiting → live_count (net_of known) ≡ 0 → known.kept ≡ []
none-out known journal before net live waiting is none = kept-none as_session known.setup (net_of known) known.kept 0 known.leases none is.leases_are

-- the view of the epoch that begins
next-view : (old : Known) (fresh : Kept Step) (epoch moment : ℕ) (handed : List (Kept Step)) → old.left ≡ [] → old.kept ≡ [] → fresh.items ≡ [] → handed ≡ []
    → ◌≡◌ {A = Known} (record old { epoch = epoch; began = moment; handed = steps_of handed; journal = fresh.items }) (beginning old.setup epoch moment old.leases)
unfolding steps_of
next-view old fresh epoch moment handed left kept items none = rw (left, kept, items, none) refl

pub IsSwitch-next : (old now : Known) (journal fresh : Kept Step) (before : ℕ) (net next : Net Session) (live waiting epoch : ℕ) (handed : List (Kept Step)) → IsSwitch old journal before net live waiting → old ≡ now → IsReady now
    → fresh.items ≡ [] → fresh.used ≡ 0 → fresh.most_items ≡ now.setup.config.journal_steps → fresh.most_bytes ≡ now.setup.config.journal_bytes → handed ≡ []
    → next ≡ record { hosts = map (λ (host : Host Session). quiet_host) net.hosts; wire = []; epoch = epoch; moment = net.moment; count = 0; sent = [] }
    → IsSwitch (record old { epoch = epoch; began = net.moment; handed = steps_of handed; journal = fresh.items }) fresh 0 next 0 0
IsSwitch-next old now journal fresh before net next live waiting epoch handed is same ready items used most_items most_bytes none next_is =
    let was : IsReady old = subst IsReady (sym same) ready in
    let out = none-out old journal before net live waiting is was.live_is in
    subst (λ (k : Known). IsSwitch k fresh 0 next 0 0) (sym (next-view old fresh epoch net.moment handed was.left_is out items none))
    (IsSwitch-begun old.setup epoch net.moment old.leases fresh next is.right items used (rw (← same) at most_items) (rw (← same) at most_bytes)
    (begun-net old.setup epoch net next (hosts-of old journal before net live waiting is) next_is))

pub turned_is : (old now : Known) (journal fresh : Kept Step) (before : ℕ) (net : Net Session) (live waiting epoch : ℕ) (handed : List (Kept Step)) (ended : Epoch) → IsSwitch old journal before net live waiting → old ≡ now → IsReady now
    → fresh.items ≡ [] → handed ≡ [] → epoch ≡ old.epoch + 1 → ended.number ≡ old.epoch → ended.began ≡ old.began → ended.journal ≡ journal
    → IsTurned now (record old { epoch = epoch; began = net.moment; handed = steps_of handed; journal = fresh.items }) ended
turned_is old now journal fresh before net live waiting epoch handed ended is same ready items none epoch_is number began journal_is =
    let was : IsReady old = subst IsReady (sym same) ready in
    let out = none-out old journal before net live waiting is was.live_is in
    let moment = ap (λ (n : Net Session). n.moment) is.net_is.net_is in
    subst (λ (k : Known). IsTurned k (record old { epoch = epoch; began = net.moment; handed = steps_of handed; journal = fresh.items }) ended) same (record {
      number_is = number;
      began_is = began;
      journal_is = ap (λ (j : Kept Step). j.items) journal_is ∙ is.items_is;
      lawful = is.lawful;
      idle = idle (net_of old) was.live_is was.busy_is;
      none_out = out;
      new_is = next-view old fresh epoch net.moment handed was.left_is out items none ∙ rw (epoch_is, moment) refl;
    })

-- ## What is counted

pub busy_on : (run net : Net Session) (live waiting n : ℕ) → IsNet run net live waiting → n ≡ min (busy_count net) 18446744073709551615 → n ≡ min (busy_count run) 18446744073709551615
unfolding busy_count
busy_on run net live waiting n is busy = rw is.net_is at busy

-- ## What stands against the end of an epoch

pub none_live : (known now : Known) (journal : Kept Step) (before : ℕ) (net : Net Session) (live waiting : ℕ) → IsSwitch known journal before net live waiting → known ≡ now → live ≤ 0 → live_count (net_of now) ≡ 0
none_live known now journal before net live waiting is same none = let counted = is.net_is.live_is in rw (← same) (omega (arith, counted, none))

pub none_busy : (known now : Known) (journal : Kept Step) (before : ℕ) (net : Net Session) (live waiting n : ℕ) → IsSwitch known journal before net live waiting → known ≡ now → n ≡ min (busy_count net) 18446744073709551615 → n ≤ 0
    → busy_count (net_of now) ≡ 0
none_busy known now journal before net live waiting n is same busy none = let counted = busy_on (net_of known) net live waiting n is.net_is busy in rw (← same) (omega (arith, counted, none))

pub still_busy : (known now : Known) (journal : Kept Step) (before : ℕ) (net : Net Session) (live waiting n : ℕ) → IsSwitch known journal before net live waiting → known ≡ now → live ≤ 0 → n ≡ min (busy_count net) 18446744073709551615 → 0 < n
    → RefusesEpoch now (epochs.Busy n)
unfolding RefusesEpoch
still_busy known now journal before net live waiting n is same none busy over =
    (none_live known now journal before net live waiting is same none, rw (← same) (busy_on (net_of known) net live waiting n is.net_is busy), over)

pub none_left : {A : Type 0} (xs : List A) (n : ℕ) → n ≡ length xs → n ≤ 0 → xs ≡ []
none_left [] n long none = refl
none_left (x ∷ xs) n long none = absurd (omega (arith, long, none))
