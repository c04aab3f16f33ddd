-- What a host does lets what waits grow.
use Rattle.std.proofs.Common.{◌≡◌, ◌≤◌, ℕ, ◌+◌, ◌++◌, Bool, true, false, Option, None, Some, List, [], ◌∷◌, refl, sym, ap, ◌∙◌, arith, append_assoc}
use Rattle.std.specs.Prelude.{◌==◌, cond, option_map, is_some}
use Rattle.std.specs.List.{find}
use Rattle.std.proofs.lemmas.Bool.Decides.{nat_tests}
use Rattle.std.proofs.lemmas.List.{append-nil}
use Rattle.sc_value.specs.Lists.{change_first}
use Rattle.sc_value.specs.declared.message.Request.{Request}
use Rattle.sc_terms.specs.declared.settings.Config.{Config}
use Rattle.sc_state.specs.declared.host.Client.{Client}
use Rattle.sc_state.specs.Hosts.{Host}
use Rattle.sc_state.specs.declared.queue.Waiting.{Waiting}
use Rattle.sc_state.specs.declared.host.Live.{Live}
use Rattle.sc_state.specs.declared.host.Server.{Server}
use Rattle.sc_state.specs.declared.net.Note.{Note}
use Rattle.sc_state.specs.declared.queue.Queued.{Queued}
use Rattle.sc_model.specs.Timers.{DueEntry}
use Rattle.sc_hosts.specs.Inboxes.{is_live, live_in, with_event, without_answer as quiet, queue}
use Rattle.sc_hosts.specs.Sessions.{Form}
use Rattle.sc_hosts.specs.Taking.{begun_live}
use Rattle.sc_hosts.specs.Ticks.{mark_fired}
use Rattle.sc_once.proofs.Finding.{find-changed, find-other, find-more}
use Rattle.sc_waits.specs.Growing.{events_of, HostGrows}
use Rattle.sc_walks.specs.Walks.{HostLaws}

apart : (serial other n : ℕ) → (serial == other) ≡ false → (n == other) ≡ true → (n == serial) ≡ false
apart serial other n differ is = grind (arith, nat_tests, differ, is)

equal : (serial other : ℕ) → (serial == other) ≡ true → serial ≡ other
equal serial other is = grind (arith, nat_tests, is)

module _ {S : Type 0} (serial : ℕ) where
  -- nothing new waits
  pub still : (count : ℕ) (host changed : Host S) → events_of (live_in serial changed) ≡ events_of (live_in serial host)
      → host.last ≤ changed.last
      → (serial ≤ host.last → live_in serial host ≡ None → live_in serial changed ≡ None)
      → HostGrows serial count host count changed
  still count host changed waits known gone = record { new = []; waits = waits ∙ sym (append-nil _); known = known; gone = gone }

  same-grows : (count : ℕ) (host : Host S) → HostGrows serial count host count host
  same-grows count host = still count host host refl (omega arith) (λ k none. none)

  after-grows : (c d e : ℕ) (x y z : Host S) → HostGrows serial c x d y → HostGrows serial d y e z
      → HostGrows serial c x e z
  after-grows c d e x y z p q = record {
    new = p.new ++ q.new;
    waits = q.waits ∙ ap (λ (ns : List Waiting). ns ++ q.new) p.waits ∙ append_assoc (events_of (live_in serial x)) p.new q.new;
    known = omega (arith, p.known, q.known);
    gone = λ k none. q.gone (omega (arith, k, p.known)) (p.gone k none);
  }

  passes-grows : (count : ℕ) (host : Host S) (clients : List Client) (servers : List Server)
      → HostGrows serial count host count (record host { clients = clients; servers = servers })
  passes-grows count host clients servers = still count host (record host { clients = clients; servers = servers }) refl (omega arith) (λ k none. none)

  -- ## One live session is changed

  -- one that keeps its serial
  found-changed : (lives : List (Live S)) (other : ℕ) (change : Live S → Live S)
      → ((live : Live S) → (change live).serial ≡ live.serial) → (b : Bool) → (serial == other) ≡ b
      → find (is_live serial) (change_first (is_live other) change lives) ≡ cond b (option_map change (find (is_live serial) lives)) (find (is_live serial) lives)
  found-changed lives other change keeps true is =
      rw (← equal serial other is) (find-changed lives (is_live serial) change (λ live. ap (λ n. n == serial) (keeps live)))
  found-changed lives other change keeps false is =
      find-other lives (is_live other) (is_live serial) change (λ live at. apart serial other live.serial is at) (λ live. ap (λ n. n == serial) (keeps live))

  none-changed : (b : Bool) (change : Live S → Live S) (found : Option (Live S)) → found ≡ None
      → cond b (option_map change found) found ≡ None
  none-changed true change found is = rw is refl
  none-changed false change found is = is

  same-numbers : (b : Bool) (change : Live S → Live S) (found : Option (Live S))
      → ((live : Live S) → (change live).inbox ≡ live.inbox)
      → events_of (cond b (option_map change found) found) ≡ events_of found
  same-numbers true change None same = refl
  same-numbers true change (Some live) same = same live
  same-numbers false change found same = refl

  marks-grow : (entry : DueEntry) (count : ℕ) (host : Host S)
      → HostGrows serial count host count (mark_fired entry host)
  unfolding mark_fired
  marks-grow entry count host =
      let at = found-changed host.sessions entry.app.serial _ (λ live. refl) (serial == entry.app.serial) refl in
      still count host (mark_fired entry host) (ap events_of at ∙ same-numbers (serial == entry.app.serial) (λ live. record live { fired = live.fired ++ record { due = entry.due; timer = entry.timer } ∷ [] }) (live_in serial host) (λ live. refl)) (omega arith) (λ k none. at ∙ none-changed _ _ _ none)

  -- ## An event is queued

  more-numbers : (n now : ℕ) (event : Queued) (found : Option (Live S)) → is_some found ≡ true
      → events_of (option_map (with_event n now event) found) ≡ events_of found ++ record { number = n; event = event } ∷ []
  unfolding with_event
  more-numbers n now event None some = cc
  more-numbers n now event (Some live) some = refl

  queue-at : (other now : ℕ) (event : Queued) (count : ℕ) (host : Host S) (some : Bool)
      → is_some (live_in other host) ≡ some → (b : Bool) → (serial == other) ≡ b
      → HostGrows serial count host (cond some (quiet (record host { sessions = change_first (is_live other) (with_event (count + 1) now event) host.sessions }) (count + 1)) (quiet host count)).count
      (cond some (quiet (record host { sessions = change_first (is_live other) (with_event (count + 1) now event) host.sessions }) (count + 1)) (quiet host count)).host
  unfolding quiet with_event
  queue-at other now event count host false some b is = same-grows count host
  queue-at other now event count host true some true is =
      let at = found-changed host.sessions other (with_event (count + 1) now event) (λ live. refl) true is in record {
        new = record { number = count + 1; event = event } ∷ [];
        waits = ap events_of at ∙ more-numbers (count + 1) now event (live_in serial host) (rw (equal serial other is) some);
        known = omega arith;
        gone = λ k none. at ∙ none-changed true (with_event (count + 1) now event) (live_in serial host) none;
      }
  queue-at other now event count host true some false is =
      let at = found-changed host.sessions other (with_event (count + 1) now event) (λ live. refl) false is in record {
        new = [];
        waits = ap events_of at ∙ sym (append-nil _);
        known = omega arith;
        gone = λ k none. at ∙ none;
      }

  queues-grow : (now other : ℕ) (event : Queued) (count : ℕ) (host : Host S)
      → HostGrows serial count host (queue other now event count host).count (queue other now event count host).host
  unfolding queue
  queues-grow now other event count host = queue-at other now event count host _ refl _ refl

  -- ## A session begins

  -- where it isn't the one
  begun-at : (host : Host S) (live : Live S) (sessions : List (Live S)) (count : ℕ) (first : Waiting) (found : Option (Live S))
      → live_in serial host ≡ found → sessions ≡ host.sessions ++ live ∷ []
      → live.serial ≡ host.last + 1 → events_of (Some live) ≡ first ∷ [] → (b : Bool) → (live.serial == serial) ≡ b
      → HostGrows serial count host (count + 1) (record host { sessions = sessions; last = host.last + 1 })
  begun-at host live sessions count first (Some old) found is next numbers b at =
      let here : find (is_live serial) sessions ≡ Some old = rw is (find-more host.sessions (is_live serial) live ∙ rw (at, found) (both b old)) in record {
        new = [];
        waits = ap events_of here ∙ (ap events_of (sym found) ∙ sym (append-nil _));
        known = omega arith;
        gone = λ k none. here ∙ (sym found ∙ none);
      }
    where
      both : (b : Bool) (old : Live S) → cond b (Some old) (Some old) ≡ Some old
      both true old = refl
      both false old = refl
  begun-at host live sessions count first None found is next numbers true at =
      let here : find (is_live serial) sessions ≡ Some live = rw is (find-more host.sessions (is_live serial) live ∙ rw (at, found) refl) in record {
        new = first ∷ [];
        waits = ap events_of here ∙ (numbers ∙ rw found refl);
        known = omega arith;
        gone = λ k none. absurd (past live.serial host.last at next k);
      }
    where
      past : (n last : ℕ) → (n == serial) ≡ true → n ≡ last + 1 → serial ≤ last → ⊥
      past n last at next under = grind (arith, nat_tests, at, next, under)
  begun-at host live sessions count first None found is next numbers false at =
      let here : find (is_live serial) sessions ≡ None = rw is (find-more host.sessions (is_live serial) live ∙ rw (at, found) refl) in record {
        new = [];
        waits = ap events_of here ∙ rw found refl;
        known = omega arith;
        gone = λ k none. here;
      }

  begins-grow : (number now : ℕ) (form : Form S) (config : Config) (epoch : ℕ) (noted : Note) (request : Request) (count : ℕ) (host : Host S)
      → HostGrows serial count host (count + 1) (record host {
        sessions = host.sessions ++ begun_live form config epoch (record { host = number; serial = host.last + 1 }) now noted request (count + 1) ∷ [];
        last = host.last + 1;
      })
  unfolding begun_live
  begins-grow number now form config epoch noted request count host = begun-at host _ _ count _ _ refl refl refl refl _ refl

  -- ## All laws

  pub grow-hosts : (number now : ℕ) → HostLaws {S = S} (λ form. Unit {0}) number now (HostGrows serial)
  grow-hosts number now = record {
    same = same-grows;
    after = after-grows;
    passes = passes-grows;
    queues = λ serial event late. queues-grow now serial event;
    begins = λ form good. begins-grow number now form;
    marks = marks-grow;
  }
