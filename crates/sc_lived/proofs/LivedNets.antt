-- What a net does keeps the history of a live session.
use Rattle.std.proofs.Common.{◌≡◌, ℕ, Bool, true, false, Option, None, Some, List, refl, subst, ◌∙◌, arith}
use Rattle.std.specs.Prelude.{◌==◌, slice_get}
use Rattle.std.proofs.lemmas.Bool.Decides.{nat_tests}
use Rattle.sc_value.specs.Lists.{change_nth}
use Rattle.sc_value.proofs.ListFacts.{slice_get-change_nth}
use Rattle.sc_value.specs.declared.ids.AppId.{AppId}
use Rattle.sc_parts.specs.declared.setup.Setup.{Setup}
use Rattle.sc_state.specs.Hosts.{Host}
use Rattle.sc_state.specs.declared.net.Net.{Net}
use Rattle.sc_state.specs.declared.queue.Waiting.{Waiting}
use Rattle.sc_hosts.specs.Histories.{History}
use Rattle.sc_hosts.specs.Nets.{host_at, change_host}
use Rattle.sc_once.proofs.Finding.{slice_get-other}
use Rattle.sc_walks.specs.Walks.{NetLaws}
use Rattle.sc_lived.specs.Lived.{Told}
use Rattle.sc_lived.proofs.LivedHosts.{equal, Fine, Keeps, Saying}

pub differ : (a b : ℕ) → (a == b) ≡ false → a ≡ b → ⊥
differ a b at same = grind (arith, nat_tests, at, same)

module _ {setup : Setup} {app : AppId} {Says : List Told → History → List Waiting → Type 0} {Unknown : List Told → Type 0} (law : Saying setup app Says Unknown) (given : List Told) where
  unfoldable pub FineAt : Option (Host History) → Type 0
  FineAt None = Unit {0}
  FineAt (Some host) = Fine law given host

  abbrev pub FineIn : Net History → Type 0
  FineIn net = FineAt (host_at app.host net)

  abbrev pub NetKeeps : Net History → Net History → Type 0
  NetKeeps x y = FineIn x → FineIn y

  same-hosts : (x y : Net History) → y.hosts ≡ x.hosts → NetKeeps x y
  same-hosts x y is fine = rw is fine

  places-at : (number count : ℕ) (host changed : Host History) (net : Net History) → host_at number net ≡ Some host
      → (number ≡ app.host → Fine law given host → Fine law given changed) → (b : Bool) → (number == app.host) ≡ b
      → NetKeeps net (record (change_host number (λ _. changed) net) { count = count })
  unfolding FineAt
  places-at number count host changed net is keeps true at fine =
      let same : number ≡ app.host = equal number app.host at in
      let here : host_at app.host net ≡ Some host = rw (← same) is in
      let later : slice_get (change_nth number (λ _. changed) net.hosts) app.host ≡ Some changed =
      rw same (slice_get-change_nth app.host (λ _. changed) net.hosts ∙ rw here refl) in
      rw later (keeps same (subst FineAt here fine))
  places-at number count host changed net is keeps false at fine =
      rw (slice_get-other net.hosts number app.host (λ _. changed) (differ number app.host at)) fine

  -- time goes on
  pub tick-keeps : (net : Net History) (now : ℕ) → NetKeeps net (record net { moment = now })
  tick-keeps net now = same-hosts net (record net { moment = now }) refl

  pub fine-nets : NetLaws (Keeps law given) NetKeeps
  fine-nets = record {
    same = λ net fine. fine;
    after = λ x y z p q fine. q (p fine);
    posts = λ net wire sent. same-hosts net (record net { wire = wire; sent = sent }) refl;
    places = λ number count host changed net is keeps. places-at number count host changed net is keeps (number == app.host) refl;
  }
