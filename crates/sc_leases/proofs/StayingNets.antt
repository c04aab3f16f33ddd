-- What a net does leaves the first event of a live session first.
use Rattle.std.proofs.Common.{◌≡◌, ℕ, Bool, true, false, Option, Some, refl, sym, ap, ◌∙◌, arith}
use Rattle.std.specs.Prelude.{◌==◌, slice_get}
use Rattle.std.proofs.lemmas.Bool.Decides.{nat_tests}
use Rattle.sc_value.specs.Lists.{change_nth}
use Rattle.sc_value.proofs.ListFacts.{slice_get-change_nth}
use Rattle.sc_value.specs.declared.ids.AppId.{AppId}
use Rattle.sc_state.specs.Hosts.{Host}
use Rattle.sc_state.specs.declared.host.Live.{Live}
use Rattle.sc_state.specs.declared.net.Net.{Net}
use Rattle.sc_state.specs.declared.queue.Waiting.{Waiting}
use Rattle.sc_hosts.specs.Inboxes.{live_in}
use Rattle.sc_hosts.specs.Nets.{host_at, change_host}
use Rattle.sc_hosts.specs.Steps.{live_of}
use Rattle.sc_once.proofs.Finding.{slice_get-other}
use Rattle.sc_leases.proofs.StayingHosts.{equal, unmoved, still-after}
use Rattle.sc_leases.specs.Staying.{StillFirst, HostStays, NetStays}
use Rattle.sc_walks.specs.Walks.{NetLaws}

pub differ : (a b : ℕ) → (a == b) ≡ false → a ≡ b → ⊥
differ a b at same = grind (arith, nat_tests, at, same)

module _ {S : Type 0} (app : AppId) where
  -- the session stands at its host
  pub same-at : (net changed : Net S) → host_at app.host changed ≡ host_at app.host net → NetStays app net changed
  same-at net changed same = record { stays = λ live waiting is first. unmoved live waiting _ (ap (live_of app) same ∙ is) first }

  same-stays : (net : Net S) → NetStays app net net
  same-stays net = same-at net net refl

  after-stays : (x y z : Net S) → NetStays app x y → NetStays app y z → NetStays app x z
  after-stays x y z p q = record {
    stays = λ live waiting is first.
        let once = p.stays live waiting is first in
        still-after live waiting _ _ once (q.stays once.later waiting once.found_is once.first_is);
  }

  moved : (live : Live S) (waiting : Waiting) (a b : Option (Live S)) → b ≡ a → StillFirst live waiting a → StillFirst live waiting b
  moved live waiting a b is still = record {
    later = still.later;
    found_is = is ∙ still.found_is;
    session_is = still.session_is;
    since_is = still.since_is;
    first_is = still.first_is;
    new = still.new;
    inbox_is = still.inbox_is;
  }

  places-at : (number count : ℕ) (host changed : Host S) (net : Net S) → host_at number net ≡ Some host → HostStays app.serial net.count host count changed → (b : Bool) → (number == app.host) ≡ b
      → NetStays app net (record (change_host number (λ _. changed) net) { count = count })
  places-at number count host changed net is stays true at =
      let here : host_at app.host net ≡ Some host = rw (← equal number app.host at) is in
      let later : slice_get (change_nth number (λ _. changed) net.hosts) app.host ≡ Some changed =
      rw (equal number app.host at) (slice_get-change_nth app.host (λ _. changed) net.hosts ∙ rw here refl) in record {
        stays = λ live waiting lives first.
            moved live waiting (live_in app.serial changed) _ (ap (live_of app) later) (stays.stays live waiting (ap (live_of app) (sym here) ∙ lives) first);
      }
  places-at number count host changed net is stays false at =
      same-at net (record (change_host number (λ _. changed) net) { count = count }) (slice_get-other net.hosts number app.host (λ _. changed) (differ number app.host at))

  -- time goes on
  pub tick-stays : (net : Net S) (now : ℕ) → NetStays app net (record net { moment = now })
  tick-stays net now = same-at net (record net { moment = now }) refl

  pub stay-nets : NetLaws (λ number now. HostStays {S = S} app.serial) (NetStays app)
  stay-nets = record {
    same = same-stays;
    after = after-stays;
    posts = λ net wire sent. same-at net (record net { wire = wire; sent = sent }) refl;
    places = λ number count host changed net is stays. places-at number count host changed net is stays (number == app.host) refl;
  }
