-- A turn, or the withdrawal, of another application session lets what waits in this one grow.
use Rattle.std.proofs.Common.{◌≡◌, ◌≤◌, ℕ, false, Option, List, [], refl, sym, ap, ◌∙◌, arith}
use Rattle.std.specs.Prelude.{◌==◌, slice_get}
use Rattle.std.proofs.lemmas.Bool.Decides.{nat_tests}
use Rattle.std.proofs.lemmas.List.{append-nil}
use Rattle.sc_value.specs.Lists.{change_nth}
use Rattle.sc_value.specs.declared.ids.AppId.{AppId}
use Rattle.sc_terms.specs.declared.calls.CallRecord.{CallRecord}
use Rattle.sc_terms.specs.declared.calls.End.{End}
use Rattle.sc_parts.specs.declared.setup.Setup.{Setup}
use Rattle.sc_state.specs.Hosts.{Host}
use Rattle.sc_state.specs.declared.host.Live.{Live}
use Rattle.sc_state.specs.declared.net.Net.{Net}
use Rattle.sc_hosts.specs.Nets.{host_at, change_host}
use Rattle.sc_hosts.specs.Sessions.{Form}
use Rattle.sc_hosts.specs.Steps.{turns, withdrawn}
use Rattle.sc_hosts.specs.Transacting.{is_same_app}
use Rattle.sc_once.proofs.OtherWalks.{Unmoved, turns-walk, withdrawn-walks}
use Rattle.sc_once.proofs.Finding.{slice_get-other}
use Rattle.sc_waits.proofs.GrowingHosts.{grow-hosts, still}
use Rattle.sc_waits.proofs.GrowingNets.{grow-nets, waiting-at}
use Rattle.sc_waits.specs.Growing.{events_of, HostGrows, NetGrows}

differ : (a b : ℕ) → (a == b) ≡ false → a ≡ b → ⊥
differ a b at same = grind (arith, nat_tests, at, same)

at-least : (a b : ℕ) → ◌≡◌ {A = ℕ} b a → a ≤ b
at-least a b is = omega (arith, is)

module _ {S : Type 0} (app other : AppId) (not_same : is_same_app other app ≡ false) where
  -- another host is changed
  elsewhere : (number : ℕ) (change : Host S → Host S) (net : Net S) → (number == app.host) ≡ false
      → NetGrows app net (change_host number change net)
  elsewhere number change net at =
      let later : slice_get (change_nth number change net.hosts) app.host ≡ slice_get net.hosts app.host = slice_get-other net.hosts number app.host change (differ number app.host at) in
      let after : Net S = change_host number change net in record {
        new = [];
        waits = waiting-at app after (host_at app.host net) later ∙ (sym (waiting-at app net (host_at app.host net) refl) ∙ sym (append-nil _));
        known = λ k. rw later k;
        gone = λ g. rw later g;
      }

  unmoved : Unmoved app.serial (λ number now. HostGrows {S = S} app.serial)
  unmoved number now count host changed same last = still app.serial count host changed (ap events_of same) (at-least host.last changed.last last) (λ k none. same ∙ none)

  pub turns-grow : (form : Form S) (setup : Setup) (live : Option (Live S)) (now : ℕ) (made : List CallRecord) (end : End) (net : Net S)
      → NetGrows app net (turns form setup other live now made end net)
  turns-grow form setup live now made end net =
      turns-walk (λ number now. HostGrows {S = S} app.serial) (NetGrows app) (grow-hosts app.serial) (grow-nets app) app other not_same elsewhere unmoved form setup live now made end net

  pub withdrawn-grows : (form : Form S) (setup : Setup) (live : Option (Live S)) (net : Net S)
      → NetGrows app net (withdrawn form setup other live net)
  withdrawn-grows form setup live net =
      withdrawn-walks (λ number now. HostGrows {S = S} app.serial) (NetGrows app) (grow-hosts app.serial) (grow-nets app) app other not_same elsewhere unmoved form setup live net
