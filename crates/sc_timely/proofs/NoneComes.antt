-- As time passes no session begins.
use Rattle.std.proofs.Common.{◌≡◌, ℕ, ◌+◌, Bool, true, false, None, Some, List, [], ◌∷◌, refl, sym, ap, ◌∙◌, arith}
use Rattle.std.specs.Prelude.{◌==◌, cond, slice_get}
use Rattle.std.specs.List.{find}
use Rattle.std.proofs.lemmas.Bool.Decides.{nat_tests}
use Rattle.sc_value.specs.Lists.{change_first, change_nth}
use Rattle.sc_value.proofs.ListFacts.{slice_get-change_nth}
use Rattle.sc_value.specs.declared.ids.AppId.{AppId}
use Rattle.sc_terms.specs.declared.settings.Config.{Config}
use Rattle.sc_state.specs.Hosts.{Host}
use Rattle.sc_state.specs.declared.host.Live.{Live}
use Rattle.sc_state.specs.declared.net.Net.{Net}
use Rattle.sc_state.specs.declared.queue.Queued.{Queued}
use Rattle.sc_hosts.specs.Inboxes.{is_live, live_in, without_answer as quiet, queue, with_event}
use Rattle.sc_hosts.specs.Nets.{change_host, host_at}
use Rattle.sc_hosts.specs.Sessions.{Form}
use Rattle.sc_hosts.specs.Steps.{live_at, live_of}
use Rattle.sc_hosts.specs.Ticks.{mark_fired, net_after_tick as ticked}
use Rattle.sc_once.proofs.Finding.{slice_get-other}
use Rattle.sc_walks.specs.Walks.{HostLaws, NetLaws}
use Rattle.sc_walks.proofs.WalkSteps.{ticked-walks}

equal : (a b : ℕ) → (a == b) ≡ true → a ≡ b
equal a b is = grind (arith, nat_tests, is)

differ : (a b : ℕ) → (a == b) ≡ false → a ≡ b → ⊥
differ a b at same = grind (arith, nat_tests, at, same)

-- none is found where one is changed and keeps what the test asks
none-changed : {A : Type 0} (xs : List A) (p q : A → Bool) (f : A → A) → ((x : A) → q (f x) ≡ q x) → find q xs ≡ None
    → find q (change_first p f xs) ≡ None
unfolding change_first
none-changed [] p q f same none = none
none-changed {A = A} (x ∷ xs) p q f same none = by (q x) refl (p x) none (none-changed xs p q f same)
  where
    by : (b : Bool) → q x ≡ b → (c : Bool) → cond b (Some x) (find q xs) ≡ None
        → (find q xs ≡ None → find q (change_first p f xs) ≡ None)
        → find q (cond c (f x ∷ xs) (x ∷ change_first p f xs)) ≡ None
    by true at c none more = cc
    by false at true none more = rw (same x, at) none
    by false at false none more = rw at (more none)

module _ {S : Type 0} where
  abbrev HostNone : ℕ → ℕ → Host S → ℕ → Host S → Type 0
  HostNone serial count host later changed = live_in serial host ≡ None → live_in serial changed ≡ None

  queue-by : (serial count more : ℕ) (host : Host S) (sessions : List (Live S)) (b : Bool) → live_in serial host ≡ None
      → find (is_live serial) sessions ≡ None
      → live_in serial (cond b (quiet (record host { sessions = sessions }) more) (quiet host count)).host ≡ None
  unfolding quiet
  queue-by serial count more host sessions true none changed = changed
  queue-by serial count more host sessions false none changed = none

  queue-none : (serial other now : ℕ) (event : Queued) (count : ℕ) (host : Host S)
      → HostNone serial count host (queue other now event count host).count (queue other now event count host).host
  unfolding queue with_event
  queue-none serial other now event count host =
      λ none. queue-by serial count (count + 1) host _ _ none (none-changed host.sessions (is_live other) (is_live serial) (with_event (count + 1) now event) (λ live. refl) none)

  -- no session begins in any form
  none-hosts : (serial number now : ℕ) → HostLaws {S = S} (λ form. ⊥) number now (HostNone serial)
  unfolding mark_fired
  none-hosts serial number now = record {
    same = λ count host none. none;
    after = λ c d e x y z p q none. q (p none);
    passes = λ count host clients servers none. none;
    queues = λ other event late count host. queue-none serial other now event count host;
    begins = λ form never. absurd never;
    marks = λ entry count host none. none-changed host.sessions (is_live entry.app.serial) (is_live serial) _ (λ live. refl) none;
  }

  abbrev NetNone : AppId → Net S → Net S → Type 0
  NetNone app net changed = live_at app net ≡ None → live_at app changed ≡ None

  places-none : (app : AppId) (number count : ℕ) (host changed : Host S) (net : Net S) → host_at number net ≡ Some host
      → HostNone app.serial net.count host count changed → (b : Bool) → (number == app.host) ≡ b
      → NetNone app net (record (change_host number (λ _. changed) net) { count = count })
  places-none app number count host changed net is keeps true at =
      let here : host_at app.host net ≡ Some host = rw (← equal number app.host at) is in
      let later : slice_get (change_nth number (λ _. changed) net.hosts) app.host ≡ Some changed =
      rw (equal number app.host at) (slice_get-change_nth app.host (λ _. changed) net.hosts ∙ rw here refl) in
      λ none. ap (live_of app) later ∙ keeps (ap (live_of app) (sym here) ∙ none)
  places-none app number count host changed net is keeps false at =
      λ none. ap (live_of app) (slice_get-other net.hosts number app.host (λ _. changed) (differ number app.host at)) ∙ none

  none-nets : (app : AppId) → NetLaws (λ number now. HostNone app.serial) (NetNone app)
  none-nets app = record {
    same = λ net none. none;
    after = λ x y z p q none. q (p none);
    posts = λ net wire sent none. none;
    places = λ number count host changed net is keeps. places-none app number count host changed net is keeps (number == app.host) refl;
  }

  pub ticked-none : (form : Form S) (config : Config) (now : ℕ) (net : Net S) (app : AppId) → live_at app net ≡ None
      → live_at app (ticked form config now net) ≡ None
  ticked-none form config now net app =
      ticked-walks (λ number now. HostNone app.serial) (NetNone app) (none-hosts app.serial) (none-nets app) (λ net now none. none) form config now net
