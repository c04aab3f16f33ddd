-- The sessions of hosts, one host after the other, and the listing of a switch.
use Rattle.std.proofs.Common.{◌≡◌, ℕ, ◌+◌, ◌<◌, ◌≤◌, List, ◌++◌, length, map, min, drop, get_or, refl, sym, ap, ◌∙◌, arith, append_assoc, length-append}
use Rattle.std.proofs.lemmas.List.{append-nil, drop_more}
use Rattle.std.proofs.Math.ListN.{drop_of_length-le}
use Rattle.sc_value.specs.declared.ids.AppId.{AppId}
use Rattle.sc_journal.specs.Kept.{Kept}
use Rattle.sc_terms.specs.declared.steps.Step.{Step}
use Rattle.sc_edge.specs.declared.listing.Listing.{Listing}
use Rattle.sc_state.specs.Hosts.{Host}
use Rattle.sc_state.specs.declared.host.Live.{Live}
use Rattle.sc_state.specs.declared.net.Net.{Net}
use Rattle.sc_state.specs.declared.session.Session.{Session}
use Rattle.sc_hosts.specs.EventLists.{listing_of, live_from}
use Rattle.sc_switch.specs.Answers.{IsListing}
use Rattle.sc_switch.specs.Standing.{Known, net_of, IsSwitch}

-- ## The loop over hosts

abbrev pub names_in : ℕ → Host Session → List AppId
names_in number host = map (λ (live : Live Session). record { host = number; serial = live.serial }) host.sessions

next-host : (number : ℕ) (hosts : List (Host Session)) (i : ℕ) (d : Host Session) → i < length hosts → live_from number (drop i hosts) ≡ names_in number (get_or hosts i d) ++ live_from (number + 1) (drop (i + 1) hosts)
unfolding live_from
next-host number hosts i d below = rw (drop_more hosts i d below) refl

pub one_more : (live after all : List AppId) (number next : ℕ) (hosts : List (Host Session)) (i : ℕ) (d host : Host Session) → i < length hosts → host ≡ get_or hosts i d → next ≡ number + 1 → after ≡ live ++ names_in number host
    → live ++ live_from number (drop i hosts) ≡ all → after ++ live_from next (drop (i + 1) hosts) ≡ all
one_more live after all number next hosts i d host below here next_is is so =
    rw (is, next_is) (append_assoc live (names_in number host) (live_from (number + 1) (drop (i + 1) hosts)))
    ∙ ap (λ (h : Host Session). live ++ (names_in number h ++ live_from (number + 1) (drop (i + 1) hosts))) here
    ∙ ap (λ (names : List AppId). live ++ names) (sym (next-host number hosts i d below)) ∙ so

pub none_more : (live all : List AppId) (number : ℕ) (hosts : List (Host Session)) (i : ℕ) → length hosts ≤ i → live ++ live_from number (drop i hosts) ≡ all → live ≡ all
unfolding live_from
none_more live all number hosts i past so = sym (append-nil live) ∙ ap (λ more. live ++ live_from number more) (sym (drop_of_length-le hosts past)) ∙ so

-- ## The listing

pub listed : (known : Known) (journal : Kept Step) (before : ℕ) (net : Net Session) (live waiting : ℕ) (listing : Listing) → IsSwitch known journal before net live waiting
    → listing.epoch ≡ known.epoch → listing.steps ≡ min (before + length journal.items) 18446744073709551615 → listing.live ≡ live_from 0 net.hosts → listing.waiting ≡ waiting → IsListing known listing
unfolding listing_of net_of
listed known journal before net live waiting listing is epoch_is steps_is live_is waiting_is =
    let long = length-append known.handed known.journal in
    let same = ap length is.items_is in
    record {
      epoch_is = epoch_is;
      steps_is = omega (arith, steps_is, is.before_is, long, same);
      live_is = live_is ∙ ap (λ (n : Net Session). live_from 0 n.hosts) is.net_is.net_is;
      waiting_is = waiting_is ∙ is.net_is.waiting_is;
    }
