-- A session that lives goes on to live over all that a step does, but for the end of its own turn.
use Rattle.std.proofs.Common.{◌++◌, ◌+◌, ◌∙◌, ◌∷◌, ◌≡◌, Bool, List, None, Option, Some, [], ap, arith, cond, false, refl, slice_get, subst, sym, true, ℕ}
use Rattle.std.proofs.lemmas.Bool.Decides.{nat_tests}
use Rattle.std.specs.List.{find}
use Rattle.std.specs.Prelude.{◌&&◌, ◌==◌, is_some, option_map}
use Rattle.sc_value.specs.Lists.{change_first, change_nth, remove_first}
use Rattle.sc_value.specs.declared.ids.AppId.{AppId}
use Rattle.sc_value.proofs.ListFacts.{slice_get-change_nth}
use Rattle.sc_state.specs.Hosts.{Host}
use Rattle.sc_state.specs.declared.host.Live.{Live}
use Rattle.sc_state.specs.declared.net.Net.{Net}
use Rattle.sc_state.specs.declared.queue.Queued.{Queued}
use Rattle.sc_state.specs.declared.session.Session.{Session}
use Rattle.sc_hosts.specs.Inboxes.{is_live, live_in, queue, without_answer as quiet, with_event}
use Rattle.sc_hosts.specs.Nets.{change_host, host_at}
use Rattle.sc_hosts.specs.Steps.{live_at, live_of, without_live}
use Rattle.sc_hosts.specs.Ticks.{mark_fired}
use Rattle.sc_hosts.specs.Transacting.{is_same_app, without_ended}
use Rattle.sc_walks.specs.Walks.{HostLaws, NetLaws}
use Rattle.sc_once.proofs.Finding.{slice_get-other}

equal : (a b : ℕ) → (a == b) ≡ true → a ≡ b
equal a b is = grind (arith, nat_tests, is)

differ : (a b : ℕ) → (a == b) ≡ false → a ≡ b → ⊥
differ a b at same = grind (arith, nat_tests, at, same)

not-this : (n other serial : ℕ) → (n == other) ≡ true → (serial == other) ≡ false → (n == serial) ≡ false
not-this n other serial p q = grind (arith, nat_tests, p, q)

-- it lives among these
abbrev Among : ℕ → List (Live Session) → Type 0
Among serial lives = (live : Live Session) × (find (is_live serial) lives ≡ Some live)

later-found : (b : Bool) (x found : Live Session) (rest : Option (Live Session)) → b ≡ false → cond b (Some x) rest ≡ Some found → rest ≡ Some found
later-found true x found rest is p = cc
later-found false x found rest is p = p

-- ## Lists

first-lives : (serial : ℕ) (x y : Live Session) (xs ys : List (Live Session)) → ◌≡◌ {A = ℕ} y.serial x.serial → (found : Live Session) → find (is_live serial) (x ∷ xs) ≡ Some found
    → ((f : Live Session) → find (is_live serial) xs ≡ Some f → Among serial ys) → Among serial (y ∷ ys)
first-lives serial x y xs ys same found is rest = by (x.serial == serial) refl is
  where
    by : (b : Bool) → (x.serial == serial) ≡ b → cond b (Some x) (find (is_live serial) xs) ≡ Some found → Among serial (y ∷ ys)
    by true at p = (y, ap (λ (c : Bool). cond c (Some y) (find (is_live serial) ys)) (ap (λ (n : ℕ). n == serial) same ∙ at))
    by false at p =
        let more = rest found p in
        (more.0, ap (λ (c : Bool). cond c (Some y) (find (is_live serial) ys)) (ap (λ (n : ℕ). n == serial) same ∙ at) ∙ more.1)

if-lives : (serial : ℕ) (b : Bool) (xs ys : List (Live Session)) → Among serial xs → Among serial ys → Among serial (cond b xs ys)
if-lives serial true xs ys p q = p
if-lives serial false xs ys p q = q

pub lives-changed : (lives : List (Live Session)) (test : Live Session → Bool) (change : Live Session → Live Session) (serial : ℕ) → ((l : Live Session) → ◌≡◌ {A = ℕ} (change l).serial l.serial) → (found : Live Session)
    → find (is_live serial) lives ≡ Some found → Among serial (change_first test change lives)
unfolding change_first
lives-changed [] test change serial keeps found is = cc
lives-changed (l ∷ lives) test change serial keeps found is =
    if-lives serial (test l) (change l ∷ lives) (l ∷ change_first test change lives) (first-lives serial l (change l) lives lives (keeps l) found is (λ f p. (f, p)))
    (first-lives serial l l lives (change_first test change lives) refl found is (λ f p. lives-changed lives test change serial keeps f p))

lives-more : (lives more : List (Live Session)) (serial : ℕ) (found : Live Session) → find (is_live serial) lives ≡ Some found → Among serial (lives ++ more)
lives-more [] more serial found is = cc
lives-more (l ∷ lives) more serial found is = first-lives serial l l lives (lives ++ more) refl found is (λ f p. lives-more lives more serial f p)

lives-removed : (lives : List (Live Session)) (serial other : ℕ) → (serial == other) ≡ false → (found : Live Session) → find (is_live serial) lives ≡ Some found → Among serial (remove_first (is_live other) lives)
unfolding remove_first
lives-removed [] serial other away found is = cc
lives-removed (l ∷ lives) serial other away found is =
    by (l.serial == other) refl (first-lives serial l l lives (remove_first (is_live other) lives) refl found is (λ f p. lives-removed lives serial other away f p))
  where
    by : (b : Bool) → (l.serial == other) ≡ b → Among serial (l ∷ remove_first (is_live other) lives) → Among serial (cond b lives (l ∷ remove_first (is_live other) lives))
    by true at rest = (found, later-found (l.serial == serial) l found (find (is_live serial) lives) (not-this l.serial other serial at away) is)
    by false at rest = rest

-- ## Hosts

abbrev pub HostLives : ℕ → ℕ → Host Session → ℕ → Host Session → Type 0
HostLives serial count host later changed = (found : Live Session) → live_in serial host ≡ Some found → Among serial changed.sessions

serial-kept : (number now : ℕ) (event : Queued) (l : Live Session) → ◌≡◌ {A = ℕ} (with_event number now event l).serial l.serial
unfolding with_event
serial-kept number now event l = refl

queue-lives : (serial other now : ℕ) (event : Queued) (count : ℕ) (host : Host Session) → HostLives serial count host (queue other now event count host).count (queue other now event count host).host
unfolding queue quiet
queue-lives serial other now event count host = λ found is. by (is_some (live_in other host)) found is
  where
    by : (b : Bool) (found : Live Session) → live_in serial host ≡ Some found
        → Among serial (cond b (quiet (record host { sessions = change_first (is_live other) (with_event (count + 1) now event) host.sessions }) (count + 1)) (quiet host count)).host.sessions
    by true found is = lives-changed host.sessions (is_live other) (with_event (count + 1) now event) serial (λ l. serial-kept (count + 1) now event l) found is
    by false found is = (found, is)

pub live-hosts : (serial number now : ℕ) → HostLaws {S = Session} (λ form. Unit {0}) number now (HostLives serial)
unfolding mark_fired
live-hosts serial number now = record {
  same = λ count host found is. (found, is);
  after = λ c d e x y z p q found is. let one = p found is in q one.0 one.1;
  passes = λ count host clients servers found is. (found, is);
  queues = λ other event late count host. queue-lives serial other now event count host;
  begins = λ form good config epoch noted request count host found is. lives-more host.sessions _ serial found is;
  marks = λ entry count host found is. lives-changed host.sessions (is_live entry.app.serial) _ serial (λ l. refl) found is;
}

-- ## Nets

module _ (app : AppId) where
  abbrev pub NetLives : Net Session → Net Session → Type 0
  NetLives net changed = (found : Live Session) → live_at app net ≡ Some found → (other : Live Session) × (live_at app changed ≡ Some other)

  there-is : (found : Option (Host Session)) (live : Live Session) → live_of app found ≡ Some live → (host : Host Session) × (found ≡ Some host) × (live_in app.serial host ≡ Some live)
  there-is None live is = cc
  there-is (Some host) live is = (host, refl, is)

  -- a change of a host in which it goes on to live
  pub changed-lives : (number : ℕ) (change : Host Session → Host Session) (net : Net Session)
      → ((host : Host Session) → host_at number net ≡ Some host → number ≡ app.host → (found : Live Session) → live_in app.serial host ≡ Some found → Among app.serial (change host).sessions)
      → NetLives net (change_host number change net)
  changed-lives number change net each = λ found is. by (number == app.host) refl found is
    where
      here : number ≡ app.host → (found : Live Session) → live_at app net ≡ Some found → (other : Live Session) × (live_at app (change_host number change net) ≡ Some other)
      here same found is =
          let at = there-is (host_at app.host net) found is in
          let place : host_at number net ≡ Some at.0 = subst (λ (n : ℕ). host_at n net ≡ Some at.0) (sym same) at.1 in
          let more = each at.0 place same found at.2 in
          let later : slice_get (change_nth number change net.hosts) app.host ≡ Some (change at.0) =
          subst (λ (n : ℕ). slice_get (change_nth number change net.hosts) n ≡ Some (change at.0)) same (slice_get-change_nth number change net.hosts ∙ ap (λ (h : Option (Host Session)). option_map change h) place) in
          (more.0, ap (λ (h : Option (Host Session)). live_of app h) later ∙ more.1)

      by : (b : Bool) → (number == app.host) ≡ b → (found : Live Session) → live_at app net ≡ Some found → (other : Live Session) × (live_at app (change_host number change net) ≡ Some other)
      by true at found is = here (equal number app.host at) found is
      by false at found is =
          (found, ap (λ (h : Option (Host Session)). live_of app h) (slice_get-other net.hosts number app.host change (λ same. differ number app.host at same)) ∙ is)

  some-host : (x y : Host Session) → Some x ≡ Some y → x ≡ y
  some-host x y is = cc

  pub live-nets : NetLaws (λ number now. HostLives app.serial) NetLives
  live-nets = record {
    same = λ net found is. (found, is);
    after = λ x y z p q found is. let one = p found is in q one.0 one.1;
    posts = λ net wire sent found is. (found, is);
    places = λ number count host changed net is lives.
        changed-lives number (λ _. changed) net
        (λ h at same found there. lives found (subst (λ (x : Host Session). live_in app.serial x ≡ Some found) (some-host h host (sym at ∙ is)) there));
  }

  -- another session ends
  pub without-lives : (other : AppId) (net : Net Session) → (is_same_app app other ≡ false) → NetLives net (without_live other net)
  unfolding without_live without_ended
  without-lives other net away =
      changed-lives other.host _ net (λ host at same found is. lives-removed host.sessions app.serial other.serial (apart (app.host == other.host) (app.serial == other.serial) (same-test app.host other.host (sym same)) away) found is)
    where
      same-test : (a b : ℕ) → a ≡ b → (a == b) ≡ true
      same-test a b is = grind (arith, nat_tests, is)

      apart : (x y : Bool) → x ≡ true → (x && y) ≡ false → y ≡ false
      apart true y p q = q
      apart false y p q = cc

pub same-app : (a b : AppId) → is_same_app a b ≡ true → a ≡ b
same-app a b is = by (a.host == b.host) (a.serial == b.serial) refl refl is
  where
    by : (x y : Bool) → (a.host == b.host) ≡ x → (a.serial == b.serial) ≡ y → (x && y) ≡ true → a ≡ b
    by true true p q r = ap (λ (n : ℕ). record { host = n; serial = a.serial }) (equal a.host b.host p) ∙ ap (λ (n : ℕ). record { host = b.host; serial = n }) (equal a.serial b.serial q)
    by true false p q r = cc
    by false y p q r = cc
