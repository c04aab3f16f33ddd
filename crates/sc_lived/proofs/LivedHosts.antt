-- What a host does leaves the history of a live session as it is, and queues only late events for it; and where it begins one,
-- its history begins.
use Rattle.std.proofs.Common.{◌≡◌, ◌<◌, ℕ, ◌+◌, ◌++◌, Bool, true, false, Option, None, Some, List, [], ◌∷◌, refl, sym, ap, subst, ◌∙◌, arith}
use Rattle.std.specs.Prelude.{◌==◌, cond, option_map}
use Rattle.std.specs.List.{find}
use Rattle.std.proofs.lemmas.Bool.Decides.{nat_tests}
use Rattle.sc_value.specs.Lists.{change_first}
use Rattle.sc_value.specs.declared.ids.AppId.{AppId}
use Rattle.sc_value.specs.declared.message.Request.{Request}
use Rattle.sc_terms.specs.declared.settings.Config.{Config}
use Rattle.sc_parts.specs.declared.setup.Setup.{Setup}
use Rattle.sc_state.specs.declared.host.Live.{Live}
use Rattle.sc_state.specs.declared.net.Note.{Note}
use Rattle.sc_state.specs.declared.queue.Queued.{Queued}
use Rattle.sc_state.specs.declared.queue.Queued.TheVariants as queued
use Rattle.sc_state.specs.declared.queue.Waiting.{Waiting}
use Rattle.sc_state.specs.Hosts.{Host}
use Rattle.sc_model.specs.Timers.{DueEntry}
use Rattle.sc_hosts.specs.Histories.{History, as_history, begun_history, turned_history}
use Rattle.sc_hosts.specs.Inboxes.{is_live, live_in, with_event, without_answer as quiet, queue}
use Rattle.sc_hosts.specs.Sessions.{Form, Turn}
use Rattle.sc_hosts.specs.Taking.{begun_live}
use Rattle.sc_hosts.specs.Ticks.{mark_fired}
use Rattle.sc_once.proofs.Finding.{cond_first, find-changed, find-other, find-more}
use Rattle.sc_walks.specs.Walks.{HostLaws, IsLate}
use Rattle.sc_lived.specs.Lived.{MayTake, Told, told_of}

pub equal : (a b : ℕ) → (a == b) ≡ true → a ≡ b
equal a b is = grind (arith, nat_tests, is)

pub apart : (serial other n : ℕ) → (serial == other) ≡ false → (n == other) ≡ true → (n == serial) ≡ false
apart serial other n differ is = grind (arith, nat_tests, differ, is)

-- what was found and then changed
pub mapped : {A : Type 0} (change : A → A) (P : A → Type 0) (found : Option A) (x : A) → option_map change found ≡ Some x
    → ((old : A) → found ≡ Some old → P (change old)) → P x
mapped change P None x is each = cc
mapped {A = A} change P (Some old) x is each = subst P (same (change old) is) (each old refl)
  where
    same : (y : A) → Some y ≡ Some x → y ≡ x
    same y is = cc

-- what is said of a session: of its history and what waits in it, where these turns are told of it, and where it hasn't begun
pub record Saying (setup : Setup) (app : AppId) (Says : List Told → History → List Waiting → Type 0) (Unknown : List Told → Type 0) : Type 0 where
  pub queues : (given : List Told) (history : History) (inbox : List Waiting) (waiting : Waiting) → IsLate waiting.event → Says given history inbox → Says given history (inbox ++ waiting ∷ [])
  pub begins : (given : List Told) (epoch began : ℕ) (noted : Note) (request : Request) (number : ℕ) → Unknown given
      → Says given (begun_history app epoch began noted request) (record { number = number; event = queued.Initial noted.region noted.subscriber noted.popped request } ∷ [])
  pub turns : (given : List Told) (history : History) (turn : Turn) (rest : List Waiting) → MayTake setup app history turn → Says given history (turn.waiting ∷ rest)
      → Says (given ++ told_of turn ∷ []) (turned_history turn history) rest

-- it is said at a host
pub record AreFine (Says : List Told → History → List Waiting → Type 0) (Unknown : List Told → Type 0) (app : AppId) (given : List Told) (host : Host History) : Type 0 where
  pub unknown : host.last < app.serial → Unknown given
  pub lives : (live : Live History) → live_in app.serial host ≡ Some live → Says given live.session live.inbox

module _ {setup : Setup} {app : AppId} {Says : List Told → History → List Waiting → Type 0} {Unknown : List Told → Type 0} (law : Saying setup app Says Unknown) (given : List Told) where
  abbrev pub Fine : Host History → Type 0
  Fine host = AreFine Says Unknown app given host

  abbrev pub Keeps : ℕ → ℕ → ℕ → Host History → ℕ → Host History → Type 0
  Keeps number now count host later changed = number ≡ app.host → Fine host → Fine changed

  abbrev Lived : Live History → Type 0
  Lived live = Says given live.session live.inbox

  -- ## One live session is changed

  found-changed : (lives : List (Live History)) (other : ℕ) (change : Live History → Live History)
      → ((live : Live History) → (change live).serial ≡ live.serial) → (b : Bool) → (app.serial == other) ≡ b
      → find (is_live app.serial) (change_first (is_live other) change lives) ≡ cond b (option_map change (find (is_live app.serial) lives)) (find (is_live app.serial) lives)
  found-changed lives other change keeps true is =
      rw (← equal app.serial other is) (find-changed lives (is_live app.serial) change (λ live. ap (λ n. n == app.serial) (keeps live)))
  found-changed lives other change keeps false is =
      find-other lives (is_live other) (is_live app.serial) change (λ live at. apart app.serial other live.serial is at) (λ live. ap (λ n. n == app.serial) (keeps live))

  changed-lives : (host : Host History) (change : Live History → Live History) (b : Bool)
      → (b ≡ true → (old : Live History) → Lived old → Lived (change old)) → Fine host
      → (live : Live History) → cond b (option_map change (live_in app.serial host)) (live_in app.serial host) ≡ Some live
      → Lived live
  changed-lives host change true each fine live is = mapped change Lived (live_in app.serial host) live is (λ old at. each refl old (fine.lives old at))
  changed-lives host change false each fine live is = fine.lives live is

  pub changed-fine : (other : ℕ) (change : Live History → Live History)
      → ((live : Live History) → (change live).serial ≡ live.serial)
      → ((app.serial == other) ≡ true → (old : Live History) → Lived old → Lived (change old))
      → (host : Host History) → Fine host
      → Fine (record host { sessions = change_first (is_live other) change host.sessions })
  changed-fine other change keeps each host fine = record {
    unknown = fine.unknown;
    lives = λ live is. changed-lives host change (app.serial == other) each fine live (sym (found-changed host.sessions other change keeps (app.serial == other) refl) ∙ is);
  }

  -- ## What a host does

  more-lived : (n now : ℕ) (event : Queued) → IsLate event → (live : Live History) → Lived live
      → Lived (with_event n now event live)
  unfolding with_event
  more-lived n now event late live lived = law.queues given live.session live.inbox (record { number = n; event = event }) late lived

  queue-at : (other now : ℕ) (event : Queued) → IsLate event → (count : ℕ) (host : Host History) (b : Bool) → Fine host
      → Fine (cond b (quiet (record host { sessions = change_first (is_live other) (with_event (count + 1) now event) host.sessions }) (count + 1)) (quiet host count)).host
  unfolding quiet with_event
  queue-at other now event late count host true fine = changed-fine other (with_event (count + 1) now event) (λ live. refl) (λ is. more-lived (count + 1) now event late) host fine
  queue-at other now event late count host false fine = fine

  queues-fine : (number now other : ℕ) (event : Queued) → IsLate event → (count : ℕ) (host : Host History)
      → Keeps number now count host (queue other now event count host).count (queue other now event count host).host
  unfolding queue
  queues-fine number now other event late count host at fine = queue-at other now event late count host _ fine

  marks-fine : (number now : ℕ) (entry : DueEntry) (count : ℕ) (host : Host History)
      → Keeps number now count host count (mark_fired entry host)
  unfolding mark_fired
  marks-fine number now entry count host at fine = changed-fine entry.app.serial _ (λ live. refl) (λ is old lived. lived) host fine

  -- ## A session begins

  begun-lived : (form : Form History) → form ≡ as_history setup.config → (other : Config) (epoch number serial now : ℕ) (noted : Note) (request : Request) (n : ℕ)
      → number ≡ app.host → serial ≡ app.serial → Unknown given
      → Lived (begun_live form other epoch (record { host = number; serial = serial }) now noted request n)
  unfolding begun_live as_history
  begun-lived form is other epoch number serial now noted request n at same none =
      let named : record { host = number; serial = serial } ≡ app = ap (λ (h : ℕ). record { host = h; serial = serial }) at ∙ ap (λ (s : ℕ). record { host = app.host; serial = s }) same in
      subst (λ (f : Form History). Lived (begun_live f other epoch (record { host = number; serial = serial }) now noted request n)) (sym is)
      (subst (λ (a : AppId). Says given (begun_history a epoch now noted request) (record { number = n; event = queued.Initial noted.region noted.subscriber noted.popped request } ∷ [])) (sym named) (law.begins given epoch now noted request n none))

  begun-lives : (host : Host History) (new : Live History) (b : Bool) → (new.serial == app.serial) ≡ b
      → (new.serial ≡ app.serial → Lived new) → Fine host
      → (found : Option (Live History)) → live_in app.serial host ≡ found
      → (live : Live History) → cond b (cond_first found (Some new)) found ≡ Some live → Lived live
  begun-lives host new true at one fine (Some old) is live now = fine.lives live (is ∙ now)
  begun-lives host new true at one fine None is live now = subst Lived (same new now) (one (equal new.serial app.serial at))
    where
      same : (y : Live History) → Some y ≡ Some live → y ≡ live
      same y is = cc
  begun-lives host new false at one fine found is live now = fine.lives live (is ∙ now)

  begun-serial : (form : Form History) (other : Config) (epoch number last now : ℕ) (noted : Note) (request : Request) (n : ℕ)
      → (begun_live form other epoch (record { host = number; serial = last + 1 }) now noted request n).serial ≡ app.serial
      → last + 1 ≡ app.serial
  unfolding begun_live
  begun-serial form other epoch number last now noted request n is = is

  under : (last serial : ℕ) → last + 1 ≡ serial → last < serial
  under last serial is = omega (arith, is)

  begins-fine : (number now : ℕ) (form : Form History) → form ≡ as_history setup.config → (other : Config) (epoch : ℕ) (noted : Note) (request : Request) (count : ℕ) (host : Host History)
      → Keeps number now count host (count + 1) (record host {
        sessions = host.sessions ++ begun_live form other epoch (record { host = number; serial = host.last + 1 }) now noted request (count + 1) ∷ [];
        last = host.last + 1;
      })
  begins-fine number now form is other epoch noted request count host at fine =
      let new : Live History = begun_live form other epoch (record { host = number; serial = host.last + 1 }) now noted request (count + 1) in record {
        unknown = λ before. fine.unknown (omega (arith, before));
        lives = λ live found. begun-lives host new (new.serial == app.serial) refl (λ same.
            let next : host.last + 1 ≡ app.serial = begun-serial form other epoch number host.last now noted request (count + 1) same in
            begun-lived form is other epoch number (host.last + 1) now noted request (count + 1) at next (fine.unknown (under host.last app.serial next)))
            fine (live_in app.serial host) refl live (sym (find-more host.sessions (is_live app.serial) new) ∙ found);
      }

  pub fine-hosts : (number now : ℕ) → HostLaws (λ (form : Form History). form ≡ as_history setup.config) number now (Keeps number now)
  fine-hosts number now = record {
    same = λ count host at fine. fine;
    after = λ c d e x y z p q at fine. q at (p at fine);
    passes = λ count host clients servers at fine. record { unknown = fine.unknown; lives = fine.lives };
    queues = queues-fine number now;
    begins = begins-fine number now;
    marks = marks-fine number now;
  }
