-- What a host does leaves the first event of a live session first.
use Rattle.std.proofs.Common.{◌≡◌, ℕ, suc, ◌+◌, ◌++◌, Bool, true, false, Option, Some, List, [], ◌∷◌, refl, sym, ap, ◌∙◌, arith, append_assoc}
use Rattle.std.specs.Prelude.{◌==◌, cond, option_map, slice_get, length}
use Rattle.std.specs.List.{find}
use Rattle.std.proofs.lemmas.Bool.Decides.{nat_tests}
use Rattle.std.proofs.lemmas.List.{append-nil}
use Rattle.sc_value.specs.Lists.{change_first}
use Rattle.sc_value.specs.declared.message.Request.{Request}
use Rattle.sc_terms.specs.declared.settings.Config.{Config}
use Rattle.sc_state.specs.declared.host.Client.{Client}
use Rattle.sc_state.specs.Hosts.{Host}
use Rattle.sc_state.specs.declared.host.Live.{Live}
use Rattle.sc_state.specs.declared.host.Server.{Server}
use Rattle.sc_state.specs.declared.net.Note.{Note}
use Rattle.sc_state.specs.declared.queue.Queued.{Queued}
use Rattle.sc_state.specs.declared.queue.Waiting.{Waiting}
use Rattle.sc_model.specs.Timers.{DueEntry}
use Rattle.sc_hosts.specs.Inboxes.{is_live, live_in, with_event, without_answer as quiet, queue}
use Rattle.sc_hosts.specs.Sessions.{Form}
use Rattle.sc_hosts.specs.Taking.{begun_live}
use Rattle.sc_hosts.specs.Ticks.{mark_fired}
use Rattle.sc_once.proofs.Finding.{find-changed, find-other, find-more, cond_first}
use Rattle.sc_walks.specs.Walks.{HostLaws}
use Rattle.sc_leases.specs.Staying.{StillFirst, HostStays}

pub apart : (serial other n : ℕ) → (serial == other) ≡ false → (n == other) ≡ true → (n == serial) ≡ false
apart serial other n differ is = grind (arith, nat_tests, differ, is)

pub equal : (serial other : ℕ) → (serial == other) ≡ true → serial ≡ other
equal serial other is = grind (arith, nat_tests, is)

-- where an event waits the inbox isn't empty, and one more comes behind it
not-empty : (inbox : List Waiting) (waiting : Waiting) → slice_get inbox 0 ≡ Some waiting → (length inbox == 0) ≡ false
not-empty [] waiting is = cc
not-empty (w ∷ ws) waiting is = none (length ws)
  where
    none : (n : ℕ) → (suc n == 0) ≡ false
    none n = grind (arith, nat_tests)

first-more : (inbox more : List Waiting) (waiting : Waiting) → slice_get inbox 0 ≡ Some waiting → slice_get (inbox ++ more) 0 ≡ Some waiting
first-more [] more waiting is = cc
first-more (w ∷ ws) more waiting is = is

-- nothing of it changed
pub unmoved : {S : Type 0} (live : Live S) (waiting : Waiting) (found : Option (Live S)) → found ≡ Some live → slice_get live.inbox 0 ≡ Some waiting → StillFirst live waiting found
unmoved live waiting found is first =
    record { later = live; found_is = is; session_is = refl; since_is = refl; first_is = first; new = []; inbox_is = sym (append-nil live.inbox) }

pub still-after : {S : Type 0} (live : Live S) (waiting : Waiting) (middle found : Option (Live S)) (p : StillFirst live waiting middle) → StillFirst p.later waiting found → StillFirst live waiting found
still-after live waiting middle found p q = record {
  later = q.later;
  found_is = q.found_is;
  session_is = q.session_is ∙ p.session_is;
  since_is = q.since_is ∙ p.since_is;
  first_is = q.first_is;
  new = p.new ++ q.new;
  inbox_is = q.inbox_is ∙ ap (λ ws. ws ++ q.new) p.inbox_is ∙ append_assoc live.inbox p.new q.new;
}

-- one event more
queued-still : {S : Type 0} (n now : ℕ) (event : Queued) (live : Live S) (waiting : Waiting) (found : Option (Live S)) → found ≡ Some (with_event n now event live) → slice_get live.inbox 0 ≡ Some waiting
    → StillFirst live waiting found
unfolding with_event
queued-still n now event live waiting found is first = record {
  later = with_event n now event live;
  found_is = is;
  session_is = refl;
  since_is = rw (not-empty live.inbox waiting first) refl;
  first_is = first-more live.inbox _ waiting first;
  new = record { number = n; event = event } ∷ [];
  inbox_is = refl;
}

-- a due entry was marked
marked-still : {S : Type 0} (change : Live S → Live S) (live : Live S) (waiting : Waiting) (found : Option (Live S)) → (change live).session ≡ live.session → (change live).since ≡ live.since → (change live).inbox ≡ live.inbox
    → found ≡ Some (change live) → slice_get live.inbox 0 ≡ Some waiting → StillFirst live waiting found
marked-still change live waiting found session since inbox is first = record {
  later = change live;
  found_is = is;
  session_is = session;
  since_is = since;
  first_is = ap (λ ws. slice_get ws 0) inbox ∙ first;
  new = [];
  inbox_is = inbox ∙ sym (append-nil live.inbox);
}

module _ {S : Type 0} (serial : ℕ) where
  same-stays : (count : ℕ) (host : Host S) → HostStays serial count host count host
  same-stays count host = record { stays = λ live waiting is first. unmoved live waiting _ is first }

  after-stays : (c d e : ℕ) (x y z : Host S) → HostStays serial c x d y → HostStays serial d y e z → HostStays serial c x e z
  after-stays c d e x y z p q = record {
    stays = λ live waiting is first.
        let once = p.stays live waiting is first in
        still-after live waiting _ _ once (q.stays once.later waiting once.found_is once.first_is);
  }

  passes-stays : (count : ℕ) (host : Host S) (clients : List Client) (servers : List Server) → HostStays serial count host count (record host { clients = clients; servers = servers })
  passes-stays count host clients servers = record { stays = λ live waiting is first. unmoved live waiting _ is first }

  -- ## One live session is changed

  -- one that keeps its serial
  found-changed : (lives : List (Live S)) (other : ℕ) (change : Live S → Live S) → ((live : Live S) → (change live).serial ≡ live.serial) → (b : Bool) → (serial == other) ≡ b
      → find (is_live serial) (change_first (is_live other) change lives) ≡ cond b (option_map change (find (is_live serial) lives)) (find (is_live serial) lives)
  found-changed lives other change keeps true is =
      rw (← equal serial other is) (find-changed lives (is_live serial) change (λ live. ap (λ n. n == serial) (keeps live)))
  found-changed lives other change keeps false is =
      find-other lives (is_live other) (is_live serial) change (λ live at. apart serial other live.serial is at) (λ live. ap (λ n. n == serial) (keeps live))

  changed-one : (b : Bool) (change : Live S → Live S) (found : Option (Live S)) (live : Live S) → found ≡ Some live → cond b (option_map change found) found ≡ Some (cond b (change live) live)
  changed-one true change found live is = rw is refl
  changed-one false change found live is = is

  mark-by : (b : Bool) (change : Live S → Live S) (live : Live S) (waiting : Waiting) (found : Option (Live S)) → (change live).session ≡ live.session → (change live).since ≡ live.since → (change live).inbox ≡ live.inbox
      → found ≡ Some (cond b (change live) live) → slice_get live.inbox 0 ≡ Some waiting → StillFirst live waiting found
  mark-by true change live waiting found session since inbox is first = marked-still change live waiting found session since inbox is first
  mark-by false change live waiting found session since inbox is first = unmoved live waiting found is first

  marks-stay : (entry : DueEntry) (count : ℕ) (host : Host S) → HostStays serial count host count (mark_fired entry host)
  unfolding mark_fired
  marks-stay entry count host = record {
    stays = λ live waiting is first.
        mark-by (serial == entry.app.serial) (λ live. record live { fired = live.fired ++ record { due = entry.due; timer = entry.timer } ∷ [] }) live waiting _ refl refl refl
        (found-changed host.sessions entry.app.serial _ (λ live. refl) (serial == entry.app.serial) refl ∙ changed-one (serial == entry.app.serial) _ (live_in serial host) live is) first;
  }

  -- ## An event is queued

  queued-by : (b : Bool) (n now : ℕ) (event : Queued) (live : Live S) (waiting : Waiting) (found : Option (Live S)) → found ≡ Some (cond b (with_event n now event live) live) → slice_get live.inbox 0 ≡ Some waiting
      → StillFirst live waiting found
  queued-by true n now event live waiting found is first = queued-still n now event live waiting found is first
  queued-by false n now event live waiting found is first = unmoved live waiting found is first

  queue-at : (other now : ℕ) (event : Queued) (count : ℕ) (host : Host S) (some : Bool)
      → HostStays serial count host (cond some (quiet (record host { sessions = change_first (is_live other) (with_event (count + 1) now event) host.sessions }) (count + 1)) (quiet host count)).count
      (cond some (quiet (record host { sessions = change_first (is_live other) (with_event (count + 1) now event) host.sessions }) (count + 1)) (quiet host count)).host
  unfolding quiet with_event
  queue-at other now event count host false = same-stays count host
  queue-at other now event count host true = record {
    stays = λ live waiting is first.
        queued-by (serial == other) (count + 1) now event live waiting _
        (found-changed host.sessions other (with_event (count + 1) now event) (λ live. refl) (serial == other) refl ∙ changed-one (serial == other) (with_event (count + 1) now event) (live_in serial host) live is) first;
  }

  queues-stay : (now other : ℕ) (event : Queued) (count : ℕ) (host : Host S) → HostStays serial count host (queue other now event count host).count (queue other now event count host).host
  unfolding queue
  queues-stay now other event count host = queue-at other now event count host _

  -- ## A session begins

  begun-found : (b : Bool) (found : Option (Live S)) (new old : Live S) → found ≡ Some old → cond b (cond_first found (Some new)) found ≡ Some old
  begun-found true found new old is = rw is refl
  begun-found false found new old is = is

  begun-stays : (host : Host S) (new : Live S) (sessions : List (Live S)) (count last : ℕ) → sessions ≡ host.sessions ++ new ∷ [] → HostStays serial count host (count + 1) (record host { sessions = sessions; last = last })
  begun-stays host new sessions count last is_more = record {
    stays = λ live waiting is first.
        unmoved live waiting _ (ap (find (is_live serial)) is_more ∙ (find-more host.sessions (is_live serial) new ∙ begun-found (is_live serial new) (live_in serial host) new live is)) first;
  }

  begins-stay : (number now : ℕ) (form : Form S) (config : Config) (epoch : ℕ) (noted : Note) (request : Request) (count : ℕ) (host : Host S)
      → HostStays serial count host (count + 1) (record host {
        sessions = host.sessions ++ begun_live form config epoch (record { host = number; serial = host.last + 1 }) now noted request (count + 1) ∷ [];
        last = host.last + 1;
      })
  begins-stay number now form config epoch noted request count host = begun-stays host _ _ count _ refl

  -- ## All laws

  pub stay-hosts : (number now : ℕ) → HostLaws {S = S} (λ form. Unit {0}) number now (HostStays serial)
  stay-hosts number now = record {
    same = same-stays;
    after = after-stays;
    passes = passes-stays;
    queues = λ serial event late. queues-stay now serial event;
    begins = λ form good. begins-stay number now form;
    marks = marks-stay;
  }
