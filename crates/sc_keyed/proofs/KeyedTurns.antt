-- Turns, and sessions that are withdrawn, keep the keys of all transactions apart.
use Rattle.std.proofs.Common.{◌≡◌, ◌≤◌, ◌<◌, ℕ, Bool, true, false, Option, None, Some, List, [], ◌∷◌, refl, sym, ap, subst, ◌∙◌, arith}
use Rattle.std.specs.Prelude.{◌==◌, cond, option_map, slice_get}
use Rattle.std.specs.List.{find}
use Rattle.std.proofs.lemmas.Bool.Decides.{nat_tests}
use Rattle.sc_value.specs.Lists.{change_first, change_nth, remove_first}
use Rattle.sc_value.proofs.ListFacts.{slice_get-change_nth}
use Rattle.sc_value.specs.declared.ids.AppId.{AppId}
use Rattle.sc_terms.specs.declared.calls.CallRecord.{CallRecord}
use Rattle.sc_terms.specs.declared.calls.End.{End}
use Rattle.sc_parts.specs.declared.setup.Setup.{Setup}
use Rattle.sc_state.specs.Hosts.{Host}
use Rattle.sc_state.specs.declared.host.Client.{Client}
use Rattle.sc_state.specs.declared.host.Live.{Live}
use Rattle.sc_state.specs.declared.net.Net.{Net}
use Rattle.sc_state.specs.declared.orders.Outcome.{Outcome}
use Rattle.sc_state.specs.declared.queue.Waiting.{Waiting}
use Rattle.sc_state.specs.declared.session.Session.{Session}
use Rattle.sc_hosts.specs.Finishing.{goodbye, outcome}
use Rattle.sc_hosts.specs.Histories.{after_turn}
use Rattle.sc_hosts.specs.Inboxes.{is_live}
use Rattle.sc_hosts.specs.Nets.{change_host, host_at, after_orders as obeyed}
use Rattle.sc_hosts.specs.Sessions.{Form, Turn}
use Rattle.sc_hosts.specs.Steps.{live_at, live_of, outcome_by, turned_live, without_live, with_ready, without_application as invalidated, closed_turn, net_after_turn as turned, turn_of, turns_first, turns, withdrawn}
use Rattle.sc_lives.specs.Numbers.{IsRising}
use Rattle.sc_lives.proofs.Serials.{change-rising, remove-rising}
use Rattle.sc_once.specs.Growing.{IsBetween}
use Rattle.sc_once.proofs.Bounds.{bounds-rise}
use Rattle.sc_once.proofs.Finding.{find-changed, find-other, find-without, slice_get-other}
use Rattle.sc_keyed.specs.Keyed.{new_branches}
use Rattle.sc_keyed.proofs.Branches.{branches-rise}
use Rattle.sc_keyed.proofs.OldOrders.{goodbye-old}
use Rattle.sc_keyed.proofs.ClientKeys.{IsDrawnBy, equal, keyed-counted}
use Rattle.sc_keyed.proofs.KeyedHosts.{IsKeyed, counter_at, last_number, rises-to, tidied-keyed}
use Rattle.sc_keyed.proofs.KeyedNets.{AllKeyed, differ, mapped, change-keyed, obeyed-keyed, obeyed-old}
use Rattle.sc_keyed.proofs.KeyedSteps.{with_ready-keyed}

-- no session is in its turn
unfoldable pub NoTurn : AppId → Type 0
NoTurn app = ⊥

-- this one is
unfoldable pub OwnTurn : AppId → AppId → Type 0
OwnTurn app other = other ≡ app

same : (n : ℕ) → n ≤ n
same n = omega arith

low-number : (a b c : ℕ) → a ≤ b → b < c → (c == a) ≡ false
low-number a b c p q = grind (arith, nat_tests, p, q)

apart-number : (serial other n : ℕ) → (serial == other) ≡ false → (n == other) ≡ true → (n == serial) ≡ false
apart-number serial other n differ is = grind (arith, nat_tests, differ, is)

-- ## Serials

module _ {S : Type 0} where
  above-none : (lives : List (Live S)) (low last serial : ℕ) → serial ≤ low → IsRising lives low last → find (is_live serial) lives ≡ None
  unfolding IsRising
  above-none [] low last serial under rising = refl
  above-none (live ∷ lives) low last serial under rising =
      rw (low-number serial low live.serial under rising.0) (above-none lives live.serial last serial (through serial low live.serial under rising.0) rising.1)
    where
      through : (a b c : ℕ) → a ≤ b → b < c → a ≤ c
      through a b c p q = omega (arith, p, q)

  removed-none : (lives : List (Live S)) (low last serial : ℕ) → IsRising lives low last → find (is_live serial) (remove_first (is_live serial) lives) ≡ None
  unfolding IsRising remove_first
  removed-none [] low last serial rising = refl
  removed-none (live ∷ lives) low last serial rising = by (live.serial == serial) refl (removed-none lives live.serial last serial rising.1)
    where
      by : (b : Bool) → (live.serial == serial) ≡ b → find (is_live serial) (remove_first (is_live serial) lives) ≡ None
          → find (is_live serial) (cond b lives (live ∷ remove_first (is_live serial) lives)) ≡ None
      by true at more = above-none lives live.serial last serial (subst (λ (n : ℕ). n ≤ live.serial) (equal live.serial serial at) (same live.serial)) rising.1
      by false at more = rw at more

  rising-last : (lives : List (Live S)) (low last serial : ℕ) (live : Live S) → IsRising lives low last → find (is_live serial) lives ≡ Some live → serial ≤ last
  unfolding IsRising
  rising-last [] low last serial live rising is = cc
  rising-last (other ∷ lives) low last serial live rising is = by (other.serial == serial) refl is (rising-last lives other.serial last serial live rising.1)
    where
      by : (b : Bool) → (other.serial == serial) ≡ b → cond b (Some other) (find (is_live serial) lives) ≡ Some live
          → (find (is_live serial) lives ≡ Some live → serial ≤ last) → serial ≤ last
      by true at is more = subst (λ (n : ℕ). n ≤ last) (equal other.serial serial at) (rises-to lives other.serial last rising.1)
      by false at is more = more is

  -- ## A turn begins

  module _ (form : Form S) (app : AppId) (low high : ℕ) where
    numbers-after : (change : Live S → Live S) (lives : List (Live S)) (live : Live S) → find (is_live app.serial) lives ≡ Some live
        → ((l : Live S) → (change l).serial ≡ l.serial) → last_number form live ≡ low → last_number form (change live) ≡ high → low ≤ high
        → (serial n : ℕ) (b : Bool) → (serial == app.serial) ≡ b → IsDrawnBy n (counter_at form lives serial)
        → IsDrawnBy n (counter_at form (change_first (is_live app.serial) change lives) serial)
    unfolding IsDrawnBy
    numbers-after change lives live is serials was now up serial n true at drawn =
        let before : n ≤ low = subst (λ (m : ℕ). n ≤ m) was (subst (λ (found : Option (Live S)). IsDrawnBy n (option_map (last_number form) found)) (subst (λ (k : ℕ). find (is_live k) lives ≡ Some live) (sym (equal serial app.serial at)) is) drawn) in
        subst (λ (k : ℕ). IsDrawnBy n (counter_at form (change_first (is_live app.serial) change lives) k)) (sym (equal serial app.serial at))
        (subst (λ (found : Option (Live S)). IsDrawnBy n (option_map (last_number form) found)) (sym (find-changed lives (is_live app.serial) change (λ l. ap (λ (k : ℕ). k == app.serial) (serials l)) ∙ ap (option_map change) is))
        (subst (λ (m : ℕ). n ≤ m) (sym now) (through n before)))
      where
        through : (n : ℕ) → n ≤ low → n ≤ high
        through n is = omega (arith, is, up)
    numbers-after change lives live is serials was now up serial n false at drawn =
        subst (λ (found : Option (Live S)). IsDrawnBy n (option_map (last_number form) found))
        (sym (find-other lives (is_live app.serial) (is_live serial) change (λ l here. apart-number serial app.serial l.serial at here) (λ l. ap (λ (k : ℕ). k == serial) (serials l)))) drawn

    opens-here : (change : Live S → Live S) (count : ℕ) (host : Host S) (live : Live S) → find (is_live app.serial) host.sessions ≡ Some live
        → ((l : Live S) → (change l).serial ≡ l.serial) → last_number form live ≡ low → last_number form (change live) ≡ high → low ≤ high
        → IsKeyed form NoTurn 0 0 app.host count host
        → IsKeyed form (OwnTurn app) low high app.host count (record host { sessions = change_first (is_live app.serial) change host.sessions })
    unfolding NoTurn OwnTurn IsDrawnBy
    opens-here change count host live is serials was now up keyed = record {
      clients = keyed-counted NoTurn (OwnTurn app) 0 low app.host host.last host.last (counter_at form host.sessions) (counter_at form (change_first (is_live app.serial) change host.sessions)) host.clients (same host.last)
          (λ serial n under drawn. numbers-after change host.sessions live is serials was now up serial n (serial == app.serial) refl drawn)
          (λ client within own. below client own (keyed.clients.drawn client within)) keyed.clients;
      servers = keyed.servers;
      numbered = change-rising host.sessions 0 host.last (is_live app.serial) change serials keyed.numbered;
      began = λ other own here. subst (λ (a : AppId). a.serial ≤ host.last) (sym own) (rising-last host.sessions 0 host.last app.serial live keyed.numbered is);
      able = λ other own here. subst (λ (a : AppId). IsDrawnBy high (counter_at form (change_first (is_live app.serial) change host.sessions) a.serial)) (sym own)
          (subst (λ (found : Option (Live S)). IsDrawnBy high (option_map (last_number form) found)) (sym (find-changed host.sessions (is_live app.serial) change (λ l. ap (λ (k : ℕ). k == app.serial) (serials l)) ∙ ap (option_map change) is))
          (subst (λ (m : ℕ). high ≤ m) (sym now) (same high)));
    }
      where
        below : (client : Client) → client.app ≡ app → IsDrawnBy client.branch (counter_at form host.sessions client.app.serial) → client.branch ≤ low
        below client own drawn =
            subst (λ (m : ℕ). client.branch ≤ m) was
            (subst (λ (found : Option (Live S)). IsDrawnBy client.branch (option_map (last_number form) found)) is
            (subst (λ (a : AppId). IsDrawnBy client.branch (counter_at form host.sessions a.serial)) own drawn))

    opens-there : (number count : ℕ) (host : Host S) → (number ≡ app.host → ⊥) → IsKeyed form NoTurn 0 0 number count host
        → IsKeyed form (OwnTurn app) low high number count host
    unfolding OwnTurn
    opens-there number count host apart keyed = record {
      clients = keyed-counted NoTurn (OwnTurn app) 0 low number host.last host.last (counter_at form host.sessions) (counter_at form host.sessions) host.clients (same host.last) (λ serial n under drawn. drawn)
          (λ client within own. absurd (apart (sym (keyed.clients.here client within) ∙ ap (λ (a : AppId). a.host) own))) keyed.clients;
      servers = keyed.servers;
      numbered = keyed.numbered;
      began = λ other own here. absurd (apart (sym here ∙ ap (λ (a : AppId). a.host) own));
      able = λ other own here. absurd (apart (sym here ∙ ap (λ (a : AppId). a.host) own));
    }

    found-at : (live : Live S) (found : Option (Host S)) (host : Host S) → found ≡ Some host → live_of app found ≡ Some live
        → find (is_live app.serial) host.sessions ≡ Some live
    found-at live found host at is = ap (live_of app) (sym at) ∙ is

    opens-by : (change : Live S → Live S) (net : Net S) (live : Live S) → live_at app net ≡ Some live
        → ((l : Live S) → (change l).serial ≡ l.serial) → last_number form live ≡ low → last_number form (change live) ≡ high → low ≤ high
        → AllKeyed form NoTurn 0 0 net → (number : ℕ) (after : Host S)
        → slice_get (change_nth app.host (λ host. record host { sessions = change_first (is_live app.serial) change host.sessions }) net.hosts) number ≡ Some after
        → (b : Bool) → (number == app.host) ≡ b → IsKeyed form (OwnTurn app) low high number net.count after
    opens-by change net live is serials was now up keyed number after at true here =
        let opened : Host S → Host S = λ host. record host { sessions = change_first (is_live app.serial) change host.sessions } in
        let place = equal number app.host here in
        let one = mapped form NoTurn 0 (host_at app.host net) opened after (sym (slice_get-change_nth app.host opened net.hosts) ∙ subst (λ (n : ℕ). slice_get (change_nth app.host opened net.hosts) n ≡ Some after) place at) in
        subst (λ (n : ℕ). IsKeyed form (OwnTurn app) low high n net.count after) (sym place)
        (subst (IsKeyed form (OwnTurn app) low high app.host net.count) one.2 (opens-here change net.count one.0 live (found-at live (host_at app.host net) one.0 one.1 is) serials was now up (keyed app.host one.0 one.1)))
    opens-by change net live is serials was now up keyed number after at false here =
        opens-there number net.count after (differ number app.host here)
        (keyed number after (sym (slice_get-other net.hosts app.host number _ (λ same. differ number app.host here (sym same))) ∙ at))

    -- a session turns, and may give what it draws
    opens : (change : Live S → Live S) (net : Net S) (live : Live S) → live_at app net ≡ Some live
        → ((l : Live S) → (change l).serial ≡ l.serial) → last_number form live ≡ low → last_number form (change live) ≡ high → low ≤ high
        → AllKeyed form NoTurn 0 0 net
        → AllKeyed form (OwnTurn app) high low (change_host app.host (λ host. record host { sessions = change_first (is_live app.serial) change host.sessions }) net)
    opens change net live is serials was now up keyed =
        λ number after at. opens-by change net live is serials was now up keyed number after at (number == app.host) refl

  -- ## It ends

  -- the turn is over
  forgets : (form : Form S) (Own : AppId → Type 0) (low high : ℕ) (net : Net S) → AllKeyed form Own high low net → AllKeyed form NoTurn 0 0 net
  unfolding NoTurn
  forgets form Own low high net keyed = λ number host at. let k = keyed number host at in record {
    clients = keyed-counted Own NoTurn low 0 number host.last host.last (counter_at form host.sessions) (counter_at form host.sessions) host.clients (same host.last) (λ serial n under drawn. drawn)
        (λ client within own. absurd own) k.clients;
    servers = k.servers;
    numbered = k.numbered;
    began = λ app own here. absurd own;
    able = λ app own here. absurd own;
  }

  numbers-without : (form : Form S) (lives : List (Live S)) (last gone : ℕ) → IsRising lives 0 last → (serial n : ℕ) (b : Bool) → (serial == gone) ≡ b
      → IsDrawnBy n (counter_at form lives serial) → IsDrawnBy n (counter_at form (remove_first (is_live gone) lives) serial)
  unfolding IsDrawnBy
  numbers-without form lives last gone rising serial n true at drawn =
      subst (λ (k : ℕ). IsDrawnBy n (counter_at form (remove_first (is_live gone) lives) k)) (sym (equal serial gone at))
      (subst (λ (found : Option (Live S)). IsDrawnBy n (option_map (last_number form) found)) (sym (removed-none lives 0 last gone rising)) tt)
  numbers-without form lives last gone rising serial n false at drawn =
      subst (λ (found : Option (Live S)). IsDrawnBy n (option_map (last_number form) found))
      (sym (find-without lives (is_live gone) (is_live serial) (λ l here. apart-number serial gone l.serial at here))) drawn

  without-at : (form : Form S) (number count gone : ℕ) (host : Host S) → IsKeyed form NoTurn 0 0 number count host
      → IsKeyed form NoTurn 0 0 number count (record host { sessions = remove_first (is_live gone) host.sessions })
  unfolding NoTurn
  without-at form number count gone host keyed = record {
    clients = keyed-counted NoTurn NoTurn 0 0 number host.last host.last (counter_at form host.sessions) (counter_at form (remove_first (is_live gone) host.sessions)) host.clients (same host.last)
        (λ serial n under drawn. numbers-without form host.sessions host.last gone keyed.numbered serial n (serial == gone) refl drawn) (λ client within own. absurd own) keyed.clients;
    servers = keyed.servers;
    numbered = remove-rising host.sessions 0 host.last (is_live gone) keyed.numbered;
    began = λ app own here. absurd own;
    able = λ app own here. absurd own;
  }

  without_live-keyed : (form : Form S) (app : AppId) (net : Net S) → AllKeyed form NoTurn 0 0 net → AllKeyed form NoTurn 0 0 (without_live app net)
  unfolding without_live
  without_live-keyed form app net keyed =
      change-keyed form NoTurn 0 0 app.host _ net (λ host at k. tidied-keyed form NoTurn 0 0 app.host net.count _ (without-at form app.host net.count app.serial host k)) keyed

  invalidated-keyed : (form : Form S) (Own : AppId → Type 0) (low high : ℕ) (setup : Setup) (app : AppId) (session : Session) (inbox : List Waiting) (net : Net S)
      → AllKeyed form Own high low net → AllKeyed form NoTurn 0 0 (invalidated setup app session inbox net)
  unfolding invalidated
  invalidated-keyed form Own low high setup app session inbox net keyed =
      let given : Net S = obeyed setup app (goodbye setup.config session inbox) net in
      without_live-keyed form app given (forgets form Own low high given (obeyed-old form Own high (goodbye setup.config session inbox) low setup app net (goodbye-old setup.config session inbox) keyed))

  closed_turn-keyed : (form : Form S) (Own : AppId → Type 0) (low high : ℕ) (setup : Setup) (app : AppId) (done : Outcome) (ends : Bool) (net : Net S)
      → AllKeyed form Own high low net → AllKeyed form NoTurn 0 0 (closed_turn setup app done ends net)
  unfolding closed_turn
  closed_turn-keyed form Own low high setup app done true net keyed = invalidated-keyed form Own low high setup app done.session _ net keyed
  closed_turn-keyed form Own low high setup app done false net keyed = forgets form Own low high (with_ready app done (live_at app net) net) (with_ready-keyed form Own high low app done (live_at app net) net keyed)

  turned-keyed : (form : Form S) (setup : Setup) (app : AppId) (turn : Turn) (live : Live S) (net : Net S) → live_at app net ≡ Some live
      → ((t : Turn) (session : S) → form.read (form.turned setup.config t session) ≡ after_turn setup.config t (form.read session))
      → AllKeyed form NoTurn 0 0 net → AllKeyed form NoTurn 0 0 (turned form setup app turn (outcome_by form setup.config live.session turn) net)
  unfolding turned turned_live outcome_by after_turn OwnTurn
  turned-keyed form setup app turn live net is turns keyed =
      let done : Outcome = outcome setup.config turn.ringing (form.read live.session) turn.waiting turn.now turn.calls turn.end in
      let low : ℕ = last_number form live in
      let high : ℕ = done.session.view.counter in
      let between : IsBetween (new_branches done.orders) low high = branches-rise setup.config turn.ringing (form.read live.session) turn.waiting turn.now turn.calls turn.end in
      let begun : Net S = change_host app.host (λ host. record host { sessions = change_first (is_live app.serial) (turned_live form setup.config net.moment turn done) host.sessions }) net in
      closed_turn-keyed form (OwnTurn app) high high setup app done done.ends (obeyed setup app done.orders begun)
      (obeyed-keyed form (OwnTurn app) high done.orders low setup app begun refl between
      (opens form app low high (turned_live form setup.config net.moment turn done) net live is (λ l. refl) refl (ap (λ (x : Session). x.view.counter) (turns turn live.session)) (bounds-rise (new_branches done.orders) low high between) keyed))

  turns_first-keyed : (form : Form S) (setup : Setup) (app : AppId) (live : Live S) (waiting : Option Waiting) (now : ℕ) (made : List CallRecord) (end : End) (net : Net S)
      → live_at app net ≡ Some live
      → ((t : Turn) (session : S) → form.read (form.turned setup.config t session) ≡ after_turn setup.config t (form.read session))
      → AllKeyed form NoTurn 0 0 net → AllKeyed form NoTurn 0 0 (turns_first form setup app live waiting now made end net)
  unfolding turns_first
  turns_first-keyed form setup app live None now made end net is turns keyed = keyed
  turns_first-keyed form setup app live (Some waiting) now made end net is turns keyed =
      turned-keyed form setup app (turn_of net app waiting now made end) live net is turns keyed

  pub turns-keyed : (form : Form S) (setup : Setup) (app : AppId) (live : Option (Live S)) (now : ℕ) (made : List CallRecord) (end : End) (net : Net S)
      → live_at app net ≡ live
      → ((t : Turn) (session : S) → form.read (form.turned setup.config t session) ≡ after_turn setup.config t (form.read session))
      → AllKeyed form NoTurn 0 0 net → AllKeyed form NoTurn 0 0 (turns form setup app live now made end net)
  unfolding turns
  turns-keyed form setup app None now made end net is turns keyed = keyed
  turns-keyed form setup app (Some live) now made end net is turns keyed = turns_first-keyed form setup app live _ now made end net is turns keyed

  pub withdrawn-keyed : (form : Form S) (setup : Setup) (app : AppId) (live : Option (Live S)) (net : Net S) → AllKeyed form NoTurn 0 0 net
      → AllKeyed form NoTurn 0 0 (withdrawn form setup app live net)
  unfolding withdrawn
  withdrawn-keyed form setup app None net keyed = keyed
  withdrawn-keyed form setup app (Some live) net keyed = invalidated-keyed form NoTurn 0 0 setup app _ live.inbox net keyed
