-- What a net does leaves a session that lives, and what had its event there.
use Rattle.std.proofs.Common.{◌≡◌, ℕ, ◌+◌, ◌++◌, Bool, true, false, Option, Some, List, [], ◌∷◌, refl, sym, ap, subst, ◌∙◌, arith}
use Rattle.std.specs.Prelude.{◌==◌, ◌&&◌, ◌||◌, cond, option_map, slice_get}
use Rattle.std.specs.List.{find}
use Rattle.std.proofs.lemmas.Bool.Decides.{nat_tests}
use Rattle.std.proofs.lemmas.List.Folds.{list_any-append}
use Rattle.sc_value.specs.Lists.{change_first, change_nth}
use Rattle.sc_value.proofs.ListFacts.{slice_get-change_nth}
use Rattle.sc_value.specs.declared.ids.AppId.{AppId}
use Rattle.sc_parts.specs.declared.timers.TimerName.{TimerName}
use Rattle.sc_parts.specs.TimerNames.{same_timer}
use Rattle.sc_state.specs.Entries.{is_fired}
use Rattle.sc_state.specs.Hosts.{Host}
use Rattle.sc_state.specs.declared.host.Client.{Client}
use Rattle.sc_state.specs.declared.host.Fired.{Fired}
use Rattle.sc_state.specs.declared.host.Live.{Live}
use Rattle.sc_state.specs.declared.host.Server.{Server}
use Rattle.sc_state.specs.declared.net.Net.{Net}
use Rattle.sc_state.specs.declared.queue.Queued.{Queued}
use Rattle.sc_model.specs.Timers.{DueEntry}
use Rattle.sc_hosts.specs.Inboxes.{is_live, live_in, with_event, without_answer as quiet, queue}
use Rattle.sc_hosts.specs.Nets.{host_at, change_host}
use Rattle.sc_hosts.specs.Steps.{live_at, live_of}
use Rattle.sc_hosts.specs.Ticks.{mark_fired}
use Rattle.sc_once.proofs.Finding.{find-changed, find-other, find-more, cond_first, slice_get-other}
use Rattle.sc_walks.specs.Walks.{HostLaws, NetLaws}

-- the session lives on and is what it was, and what had its event had it
pub record LivesOn {S : Type 0} (live : Live S) (found : Option (Live S)) : Type 0 where
  pub later : Live S
  pub found_is : found ≡ Some later
  pub same : later.session ≡ live.session
  pub before : (due : ℕ) (timer : TimerName) → is_fired live.fired due timer ≡ true → is_fired later.fired due timer ≡ true

apart : (serial other n : ℕ) → (serial == other) ≡ false → (n == other) ≡ true → (n == serial) ≡ false
apart serial other n differ is = grind (arith, nat_tests, differ, is)

pub equal : (a b : ℕ) → (a == b) ≡ true → a ≡ b
equal a b is = grind (arith, nat_tests, is)

differ : (a b : ℕ) → (a == b) ≡ false → a ≡ b → ⊥
differ a b at same = grind (arith, nat_tests, at, same)

or-first : (a b : Bool) → a ≡ true → (a || b) ≡ true
or-first a b is = rw is refl

-- one more that had its event
pub fired-more : (fired : List Fired) (new : Fired) (due : ℕ) (timer : TimerName) → is_fired fired due timer ≡ true
    → is_fired (fired ++ new ∷ []) due timer ≡ true
unfolding is_fired
fired-more fired new due timer is = list_any-append (λ f. f.due == due && same_timer f.timer timer) fired (new ∷ []) ∙ or-first _ _ is

module _ {S : Type 0} where
  pub stays-on : (live later : Live S) (found : Option (Live S)) → found ≡ Some later → later.session ≡ live.session
      → later.fired ≡ live.fired → LivesOn live found
  stays-on live later found is session fired = record { later = later; found_is = is; same = session; before = λ due timer had. ap (λ f. is_fired f due timer) fired ∙ had }

  pub on-then : (live : Live S) (found last : Option (Live S)) → (on : LivesOn live found) → LivesOn on.later last
      → LivesOn live last
  on-then live found last p q = record { later = q.later; found_is = q.found_is; same = q.same ∙ p.same; before = λ due timer had. q.before due timer (p.before due timer had) }

  -- of a host
  abbrev pub HostKeeps : ℕ → ℕ → Host S → ℕ → Host S → Type 0
  HostKeeps serial count host later changed = (live : Live S) → live_in serial host ≡ Some live → LivesOn live (live_in serial changed)

  module _ (serial : ℕ) where
    same-keeps : (count : ℕ) (host : Host S) → HostKeeps serial count host count host
    same-keeps count host = λ live is. stays-on live live _ is refl refl

    after-keeps : (c d e : ℕ) (x y z : Host S) → HostKeeps serial c x d y → HostKeeps serial d y e z
        → HostKeeps serial c x e z
    after-keeps c d e x y z p q = λ live is. let on = p live is in on-then live (live_in serial y) (live_in serial z) on (q on.later on.found_is)

    passes-keep : (count : ℕ) (host : Host S) (clients : List Client) (servers : List Server)
        → HostKeeps serial count host count (record host { clients = clients; servers = servers })
    passes-keep count host clients servers = λ live is. stays-on live live _ is refl refl

    -- one live session is changed
    changed-keeps : (lives : List (Live S)) (other : ℕ) (change : Live S → Live S)
        → ((live : Live S) → (change live).serial ≡ live.serial) → ((live : Live S) → LivesOn live (Some (change live)))
        → (live : Live S) → find (is_live serial) lives ≡ Some live → (b : Bool) → (serial == other) ≡ b
        → LivesOn live (find (is_live serial) (change_first (is_live other) change lives))
    changed-keeps lives other change keeps on live is true at =
        let found : find (is_live serial) (change_first (is_live other) change lives) ≡ Some (change live) =
        rw (← equal serial other at) (find-changed lives (is_live serial) change (λ live. ap (λ n. n == serial) (keeps live)) ∙ ap (option_map change) is) in
        on-found (on live) found
      where
        on-found : {found : Option (Live S)} → LivesOn live (Some (change live)) → found ≡ Some (change live)
            → LivesOn live found
        on-found p same = subst (LivesOn live) (sym same) p
    changed-keeps lives other change keeps on live is false at =
        stays-on live live _ (find-other lives (is_live other) (is_live serial) change (λ live here. apart serial other live.serial at here) (λ live. ap (λ n. n == serial) (keeps live)) ∙ is) refl refl

    marks-keep : (entry : DueEntry) (count : ℕ) (host : Host S)
        → HostKeeps serial count host count (mark_fired entry host)
    unfolding mark_fired
    marks-keep entry count host = λ live is. changed-keeps host.sessions entry.app.serial _ (λ live. refl)
        (λ live. record { later = _; found_is = refl; same = refl; before = λ due timer had. fired-more live.fired _ due timer had }) live is (serial == entry.app.serial) refl

    queue-at : (other now : ℕ) (event : Queued) (count : ℕ) (host : Host S) (some : Bool) → (live : Live S)
        → live_in serial host ≡ Some live
        → LivesOn live (live_in serial (cond some (quiet (record host { sessions = change_first (is_live other) (with_event (count + 1) now event) host.sessions }) (count + 1)) (quiet host count)).host)
    unfolding quiet with_event
    queue-at other now event count host false live is = stays-on live live _ is refl refl
    queue-at other now event count host true live is =
        changed-keeps host.sessions other (with_event (count + 1) now event) (λ live. refl) (λ live. stays-on live _ _ refl refl refl) live is (serial == other) refl

    pub queues-keep : (now other : ℕ) (event : Queued) (count : ℕ) (host : Host S)
        → HostKeeps serial count host (queue other now event count host).count (queue other now event count host).host
    unfolding queue
    queues-keep now other event count host = λ live is. queue-at other now event count host _ live is

    begun-keeps : (sessions : List (Live S)) (new live : Live S) → find (is_live serial) sessions ≡ Some live
        → LivesOn live (find (is_live serial) (sessions ++ new ∷ []))
    begun-keeps sessions new live is = stays-on live live _ (find-more sessions (is_live serial) new ∙ rw is (both (is_live serial new))) refl refl
      where
        both : (b : Bool) → cond b (cond_first (Some live) (Some new)) (Some live) ≡ Some live
        both true = refl
        both false = refl

    pub keep-hosts : (number now : ℕ) → HostLaws {S = S} (λ form. Unit {0}) number now (HostKeeps serial)
    keep-hosts number now = record {
      same = same-keeps;
      after = after-keeps;
      passes = passes-keep;
      queues = λ serial event late. queues-keep now serial event;
      begins = λ form good config epoch noted request count host live is. begun-keeps host.sessions _ live is;
      marks = marks-keep;
    }

  -- of a net
  abbrev pub NetKeeps : AppId → Net S → Net S → Type 0
  NetKeeps app net changed = (live : Live S) → live_at app net ≡ Some live → LivesOn live (live_at app changed)

  module _ (app : AppId) where
    net-then : (x y z : Net S) → NetKeeps app x y → NetKeeps app y z → NetKeeps app x z
    net-then x y z p q = λ live is. let on = p live is in on-then live (live_at app y) (live_at app z) on (q on.later on.found_is)

    places-at : (number count : ℕ) (host changed : Host S) (net : Net S) → host_at number net ≡ Some host
        → HostKeeps app.serial net.count host count changed → (b : Bool) → (number == app.host) ≡ b
        → NetKeeps app net (record (change_host number (λ _. changed) net) { count = count })
    places-at number count host changed net is keeps true at =
        let here : host_at app.host net ≡ Some host = rw (← equal number app.host at) is in
        let later : slice_get (change_nth number (λ _. changed) net.hosts) app.host ≡ Some changed =
        rw (equal number app.host at) (slice_get-change_nth app.host (λ _. changed) net.hosts ∙ rw here refl) in
        λ live lives. subst (λ (found : Option (Host S)). LivesOn live (live_of app found)) (sym later) (keeps live (ap (live_of app) (sym here) ∙ lives))
    places-at number count host changed net is keeps false at =
        let later : slice_get (change_nth number (λ _. changed) net.hosts) app.host ≡ slice_get net.hosts app.host =
        slice_get-other net.hosts number app.host (λ _. changed) (differ number app.host at) in
        λ live lives. stays-on live live _ (ap (live_of app) later ∙ lives) refl refl

    pub keep-nets : NetLaws (λ number now. HostKeeps app.serial) (NetKeeps app)
    keep-nets = record {
      same = λ net live is. stays-on live live _ is refl refl;
      after = net-then;
      posts = λ net wire sent live is. stays-on live live _ is refl refl;
      places = λ number count host changed net is keeps. places-at number count host changed net is keeps (number == app.host) refl;
    }
