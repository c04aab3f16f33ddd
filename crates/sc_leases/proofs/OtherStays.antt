-- A turn, or the withdrawal, of another application session leaves the first event of this one first.
use Rattle.std.proofs.Common.{◌≡◌, ℕ, false, Option, List, ◌∙◌}
use Rattle.std.specs.Prelude.{◌==◌}
use Rattle.sc_value.specs.declared.ids.AppId.{AppId}
use Rattle.sc_terms.specs.declared.calls.CallRecord.{CallRecord}
use Rattle.sc_terms.specs.declared.calls.End.{End}
use Rattle.sc_parts.specs.declared.setup.Setup.{Setup}
use Rattle.sc_state.specs.Hosts.{Host}
use Rattle.sc_state.specs.declared.host.Live.{Live}
use Rattle.sc_state.specs.declared.net.Net.{Net}
use Rattle.sc_hosts.specs.Nets.{change_host}
use Rattle.sc_hosts.specs.Sessions.{Form}
use Rattle.sc_hosts.specs.Steps.{turns, withdrawn}
use Rattle.sc_hosts.specs.Transacting.{is_same_app}
use Rattle.sc_once.proofs.OtherWalks.{Unmoved, turns-walk, withdrawn-walks}
use Rattle.sc_once.proofs.Finding.{slice_get-other}
use Rattle.sc_leases.proofs.StayingHosts.{stay-hosts, unmoved}
use Rattle.sc_leases.proofs.StayingNets.{differ, stay-nets, same-at}
use Rattle.sc_leases.specs.Staying.{HostStays, NetStays}

module _ {S : Type 0} (app other : AppId) (not_same : is_same_app other app ≡ false) where
  -- another host is changed
  elsewhere : (number : ℕ) (change : Host S → Host S) (net : Net S) → (number == app.host) ≡ false → NetStays app net (change_host number change net)
  elsewhere number change net at = same-at app net (change_host number change net) (slice_get-other net.hosts number app.host change (differ number app.host at))

  still : Unmoved app.serial (λ number now. HostStays {S = S} app.serial)
  still number now count host changed same last = record { stays = λ live waiting is first. unmoved live waiting _ (same ∙ is) first }

  pub turns-stay : (form : Form S) (setup : Setup) (live : Option (Live S)) (now : ℕ) (made : List CallRecord) (end : End) (net : Net S)
      → NetStays app net (turns form setup other live now made end net)
  turns-stay form setup live now made end net =
      turns-walk (λ number now. HostStays {S = S} app.serial) (NetStays app) (stay-hosts app.serial) (stay-nets app) app other not_same elsewhere still form setup live now made end net

  pub withdrawn-stays : (form : Form S) (setup : Setup) (live : Option (Live S)) (net : Net S) → NetStays app net (withdrawn form setup other live net)
  withdrawn-stays form setup live net =
      withdrawn-walks (λ number now. HostStays {S = S} app.serial) (NetStays app) (stay-hosts app.serial) (stay-nets app) app other not_same elsewhere still form setup live net
