-- A turn, or the withdrawal, of another application session keeps the history of this one.
use Rattle.std.proofs.Common.{◌≡◌, ◌<◌, ℕ, false, Option, List, sym, subst, ◌∙◌}
use Rattle.std.specs.Prelude.{◌==◌, slice_get}
use Rattle.sc_value.specs.Lists.{change_nth}
use Rattle.sc_value.specs.declared.ids.AppId.{AppId}
use Rattle.sc_terms.specs.declared.calls.CallRecord.{CallRecord}
use Rattle.sc_terms.specs.declared.calls.End.{End}
use Rattle.sc_parts.specs.declared.setup.Setup.{Setup}
use Rattle.sc_state.specs.Hosts.{Host}
use Rattle.sc_state.specs.declared.host.Live.{Live}
use Rattle.sc_state.specs.declared.net.Net.{Net}
use Rattle.sc_state.specs.declared.queue.Waiting.{Waiting}
use Rattle.sc_hosts.specs.Histories.{History, as_history}
use Rattle.sc_hosts.specs.Nets.{change_host}
use Rattle.sc_hosts.specs.Steps.{turns, withdrawn}
use Rattle.sc_hosts.specs.Transacting.{is_same_app}
use Rattle.sc_once.proofs.OtherWalks.{Unmoved, turns-walk, withdrawn-walks}
use Rattle.sc_once.proofs.Finding.{slice_get-other}
use Rattle.sc_lived.specs.Lived.{Told}
use Rattle.sc_lived.proofs.LivedHosts.{Keeps, Saying, fine-hosts}
use Rattle.sc_lived.proofs.LivedNets.{NetKeeps, differ, fine-nets}

module _ {setup : Setup} {app : AppId} {Says : List Told → History → List Waiting → Type 0} {Unknown : List Told → Type 0} (law : Saying setup app Says Unknown) (given : List Told) (other : AppId) (not_same : is_same_app other app ≡ false) where
  abbrev Kept : Net History → Net History → Type 0
  Kept = NetKeeps law given

  -- another host is changed
  elsewhere : (number : ℕ) (change : Host History → Host History) (net : Net History) → (number == app.host) ≡ false → Kept net (change_host number change net)
  elsewhere number change net at =
      let same : slice_get (change_nth number change net.hosts) app.host ≡ slice_get net.hosts app.host = slice_get-other net.hosts number app.host change (differ number app.host at) in
      λ fine. rw same fine

  unmoved : Unmoved app.serial (Keeps law given)
  unmoved number now count host changed same last at fine =
      record { unknown = λ before. fine.unknown (subst (λ (n : ℕ). n < app.serial) last before); lives = λ live is. fine.lives live (sym same ∙ is) }

  pub turns-keep : (live : Option (Live History)) (now : ℕ) (made : List CallRecord) (end : End) (net : Net History)
      → Kept net (turns (as_history setup.config) setup other live now made end net)
  turns-keep live now made end net =
      turns-walk (Keeps law given) Kept (fine-hosts law given) (fine-nets law given) app other not_same elsewhere unmoved (as_history setup.config) setup live now made end net

  pub withdrawn-keeps : (live : Option (Live History)) (net : Net History)
      → Kept net (withdrawn (as_history setup.config) setup other live net)
  withdrawn-keeps live net =
      withdrawn-walks (Keeps law given) Kept (fine-hosts law given) (fine-nets law given) app other not_same elsewhere unmoved (as_history setup.config) setup live net
