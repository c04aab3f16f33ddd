-- A turn, or the withdrawal, of another application session keeps what changes at other hosts keep, and changes at its own host
-- that leave this session as it is found.
use Rattle.std.proofs.Common.{◌≡◌, ℕ, Bool, true, false, Option, None, Some, List, refl, arith}
use Rattle.std.specs.Prelude.{◌==◌, ◌&&◌}
use Rattle.std.specs.List.{find}
use Rattle.std.proofs.lemmas.Bool.Decides.{nat_tests}
use Rattle.sc_value.specs.Lists.{change_first}
use Rattle.sc_value.specs.declared.ids.AppId.{AppId}
use Rattle.sc_terms.specs.declared.calls.CallRecord.{CallRecord}
use Rattle.sc_terms.specs.declared.calls.End.{End}
use Rattle.sc_parts.specs.declared.setup.Setup.{Setup}
use Rattle.sc_state.specs.Hosts.{Host}
use Rattle.sc_state.specs.declared.host.Live.{Live}
use Rattle.sc_state.specs.declared.net.Net.{Net}
use Rattle.sc_state.specs.declared.orders.Outcome.{Outcome}
use Rattle.sc_state.specs.declared.queue.Waiting.{Waiting}
use Rattle.sc_state.specs.declared.session.Session.{Session}
use Rattle.sc_hosts.specs.Inboxes.{is_live}
use Rattle.sc_hosts.specs.Nets.{change_host}
use Rattle.sc_hosts.specs.Sessions.{Form, Turn}
use Rattle.sc_hosts.specs.Steps.{turned_live, without_live, without_application as invalidated, closed_turn, net_after_turn as turned, turns_first, turns, withdrawn}
use Rattle.sc_hosts.specs.Transacting.{is_same_app, without_ended}
use Rattle.sc_once.proofs.Finding.{find-other, find-without}
use Rattle.sc_walks.specs.Walks.{HostLaws, NetLaws}
use Rattle.sc_walks.proofs.WalkNets.{change_host-walks, obeyed-walks}
use Rattle.sc_walks.proofs.WalkSteps.{with_ready-walks}

apart : (a b n : ℕ) → (b == a) ≡ false → (n == b) ≡ true → (n == a) ≡ false
apart a b n at is = grind (arith, nat_tests, at, is)

-- a change of a host that leaves the session of this number as it is found
abbrev pub Unmoved : {S : Type 0} → ℕ → (ℕ → ℕ → ℕ → Host S → ℕ → Host S → Type 0) → Type 0
Unmoved {S = S} serial H =
    (number now count : ℕ) (host changed : Host S) → find (is_live serial) changed.sessions ≡ find (is_live serial) host.sessions → changed.last ≡ host.last → H number now count host count changed

module _ {S : Type 0} {Begins : Form S → Type 0} (H : ℕ → ℕ → ℕ → Host S → ℕ → Host S → Type 0) (P : Net S → Net S → Type 0)
    (hosts : (number now : ℕ) → HostLaws Begins number now (H number now)) (law : NetLaws H P) (app other : AppId) (not_same : is_same_app other app ≡ false)
    (elsewhere : (number : ℕ) (change : Host S → Host S) (net : Net S) → (number == app.host) ≡ false → P net (change_host number change net)) (unmoved : Unmoved app.serial H) where
  by_serial : (b : Bool) → (other.host == app.host) ≡ b → b && (other.serial == app.serial) ≡ false → (change : Host S → Host S) (net : Net S)
      → ((other.serial == app.serial) ≡ false → (host : Host S) → H other.host net.moment net.count host net.count (change host)) → P net (change_host other.host change net)
  by_serial false at away change net keeps = elsewhere other.host change net at
  by_serial true at away change net keeps = change_host-walks H P hosts law other.host change net (λ host. keeps away host)

  -- a change at the other's own place
  there : (change : Host S → Host S) (net : Net S) → ((other.serial == app.serial) ≡ false → (host : Host S) → H other.host net.moment net.count host net.count (change host))
      → P net (change_host other.host change net)
  there change net keeps = by_serial (other.host == app.host) refl not_same change net keeps

  turned_live-walks : (form : Form S) (setup : Setup) (now : ℕ) (turn : Turn) (done : Outcome) (net : Net S)
      → P net (change_host other.host (λ host. record host { sessions = change_first (is_live other.serial) (turned_live form setup.config now turn done) host.sessions }) net)
  unfolding turned_live
  turned_live-walks form setup now turn done net =
      there _ net (λ at host.
      let same = find-other host.sessions (is_live other.serial) (is_live app.serial) (turned_live form setup.config now turn done) (λ live is. apart app.serial other.serial live.serial at is) (λ live. refl) in
      unmoved other.host net.moment net.count host _ same refl)

  without_live-walks : (net : Net S) → P net (without_live other net)
  unfolding without_live without_ended
  without_live-walks net =
      there _ net (λ at host.
      let same = find-without host.sessions (is_live other.serial) (is_live app.serial) (λ live is. apart app.serial other.serial live.serial at is) in
      unmoved other.host net.moment net.count host _ same refl)

  invalidated-walks : (setup : Setup) (session : Session) (inbox : List Waiting) (net : Net S) → P net (invalidated setup other session inbox net)
  unfolding invalidated
  invalidated-walks setup session inbox net = law.after _ _ _ (obeyed-walks H P hosts law setup other _ net) (without_live-walks _)

  closed_turn-walks : (setup : Setup) (done : Outcome) (ends : Bool) (net : Net S) → P net (closed_turn setup other done ends net)
  unfolding closed_turn
  closed_turn-walks setup done true net = invalidated-walks setup done.session _ net
  closed_turn-walks setup done false net = with_ready-walks H P hosts law other done _ net

  turned-walks : (form : Form S) (setup : Setup) (turn : Turn) (done : Outcome) (net : Net S) → P net (turned form setup other turn done net)
  unfolding turned
  turned-walks form setup turn done net =
      law.after _ _ _ (turned_live-walks form setup net.moment turn done net) (law.after _ _ _ (obeyed-walks H P hosts law setup other done.orders _) (closed_turn-walks setup done done.ends _))

  turns_first-walks : (form : Form S) (setup : Setup) (live : Live S) (waiting : Option Waiting) (now : ℕ) (made : List CallRecord) (end : End) (net : Net S)
      → P net (turns_first form setup other live waiting now made end net)
  unfolding turns_first
  turns_first-walks form setup live None now made end net = law.same net
  turns_first-walks form setup live (Some waiting) now made end net = turned-walks form setup _ _ net

  -- a turn of the other
  pub turns-walk : (form : Form S) (setup : Setup) (live : Option (Live S)) (now : ℕ) (made : List CallRecord) (end : End) (net : Net S)
      → P net (turns form setup other live now made end net)
  unfolding turns
  turns-walk form setup None now made end net = law.same net
  turns-walk form setup (Some live) now made end net = turns_first-walks form setup live _ now made end net

  -- its withdrawal
  pub withdrawn-walks : (form : Form S) (setup : Setup) (live : Option (Live S)) (net : Net S) → P net (withdrawn form setup other live net)
  unfolding withdrawn
  withdrawn-walks form setup None net = law.same net
  withdrawn-walks form setup (Some live) net = invalidated-walks setup _ live.inbox net
