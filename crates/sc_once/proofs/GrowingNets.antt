-- What a net does lets what waits grow.
use Rattle.std.proofs.Common.{◌≡◌, ℕ, ◌++◌, Bool, true, false, Option, Some, List, [], refl, sym, ap, subst, ◌∙◌, arith, append_assoc}
use Rattle.std.specs.Prelude.{◌==◌, slice_get}
use Rattle.std.proofs.lemmas.Bool.Decides.{nat_tests}
use Rattle.std.proofs.lemmas.List.{append-nil}
use Rattle.sc_value.specs.Lists.{change_nth}
use Rattle.sc_value.proofs.ListFacts.{slice_get-change_nth}
use Rattle.sc_value.specs.declared.ids.AppId.{AppId}
use Rattle.sc_state.specs.Hosts.{Host}
use Rattle.sc_state.specs.declared.net.Net.{Net}
use Rattle.sc_hosts.specs.EventLists.{waiting_in}
use Rattle.sc_hosts.specs.Nets.{host_at, change_host}
use Rattle.sc_hosts.specs.Steps.{live_of}
use Rattle.sc_once.proofs.Bounds.{bounds-rise, between-append, none-between}
use Rattle.sc_once.proofs.Finding.{slice_get-other}
use Rattle.sc_once.specs.Growing.{IsBetween, numbers_of, GoneIn, KnownIn, HostGrows, NetGrows}
use Rattle.sc_walks.specs.Walks.{NetLaws}

equal : (a b : ℕ) → (a == b) ≡ true → a ≡ b
equal a b at = grind (arith, nat_tests, at)

differ : (a b : ℕ) → (a == b) ≡ false → a ≡ b → ⊥
differ a b at same = grind (arith, nat_tests, at, same)

quietly : (ns : List ℕ) (low high : ℕ) → IsBetween ns low high → IsBetween [] low high
unfolding IsBetween
quietly ns low high is = bounds-rise ns low high is

module _ {S : Type 0} (app : AppId) where
  -- the numbers that wait at a host
  pub waiting-at : (net : Net S) (host : Option (Host S)) → host_at app.host net ≡ host → waiting_in app net ≡ numbers_of (live_of app host)
  unfolding waiting_in
  waiting-at net host is = rw is refl

  same-grows : (net : Net S) → NetGrows app net net
  same-grows net = record { new = []; waits = sym (append-nil _); between = none-between net.count; known = λ k. k; gone = λ g. g }

  after-grows : (x y z : Net S) → NetGrows app x y → NetGrows app y z → NetGrows app x z
  after-grows x y z p q = record {
    new = p.new ++ q.new;
    waits = q.waits ∙ ap (λ ns. ns ++ q.new) p.waits ∙ append_assoc (waiting_in app x) p.new q.new;
    between = between-append p.new q.new x.count y.count z.count p.between q.between;
    known = λ k. q.known (p.known k);
    gone = λ g. q.gone (p.gone g);
  }

  -- only the hosts and the count matter
  same-hosts : (net changed : Net S) → changed.hosts ≡ net.hosts → changed.count ≡ net.count → NetGrows app net changed
  unfolding waiting_in
  same-hosts net changed hosts count = record {
    new = [];
    waits = rw hosts (sym (append-nil _));
    between = rw count (none-between net.count);
    known = λ k. rw hosts k;
    gone = λ g. rw hosts g;
  }

  known-of : (count later : ℕ) (host changed : Host S) → HostGrows app.serial count host later changed → KnownIn app.serial (Some host) → KnownIn app.serial (Some changed)
  unfolding KnownIn
  known-of count later host changed grows k = omega (arith, k, grows.known)

  gone-of : (count later : ℕ) (host changed : Host S) → HostGrows app.serial count host later changed → GoneIn app.serial (Some host) → GoneIn app.serial (Some changed)
  unfolding GoneIn
  gone-of count later host changed grows g = (omega (arith, g.0, grows.known), grows.gone g.0 g.1)

  places-at : (number count : ℕ) (host changed : Host S) (net : Net S) → host_at number net ≡ Some host → HostGrows app.serial net.count host count changed → (b : Bool) → (number == app.host) ≡ b
      → NetGrows app net (record (change_host number (λ _. changed) net) { count = count })
  places-at number count host changed net is grows true at =
      let here : host_at app.host net ≡ Some host = rw (← equal number app.host at) is in
      let later : slice_get (change_nth number (λ _. changed) net.hosts) app.host ≡ Some changed =
      rw (equal number app.host at) (slice_get-change_nth app.host (λ _. changed) net.hosts ∙ rw here refl) in
      let after : Net S = record (change_host number (λ _. changed) net) { count = count } in record {
        new = grows.new;
        waits = waiting-at after (Some changed) later ∙ (grows.waits ∙ ap (λ ns. ns ++ grows.new) (sym (waiting-at net (Some host) here)));
        between = grows.between;
        known = λ k. rw later (known-of net.count count host changed grows (subst (KnownIn app.serial) here k));
        gone = λ g. rw later (gone-of net.count count host changed grows (subst (GoneIn app.serial) here g));
      }
  places-at number count host changed net is grows false at =
      let later : slice_get (change_nth number (λ _. changed) net.hosts) app.host ≡ slice_get net.hosts app.host =
      slice_get-other net.hosts number app.host (λ _. changed) (differ number app.host at) in
      let after : Net S = record (change_host number (λ _. changed) net) { count = count } in record {
        new = [];
        waits = waiting-at after (host_at app.host net) later ∙ (sym (waiting-at net (host_at app.host net) refl) ∙ sym (append-nil _));
        between = quietly grows.new net.count count grows.between;
        known = λ k. rw later k;
        gone = λ g. rw later g;
      }

  -- time goes on
  pub tick-grows : (net : Net S) (now : ℕ) → NetGrows app net (record net { moment = now })
  tick-grows net now = same-hosts net (record net { moment = now }) refl refl

  pub grow-nets : NetLaws (λ number now. HostGrows {S = S} app.serial) (NetGrows app)
  grow-nets = record {
    same = same-grows;
    after = after-grows;
    posts = λ net wire sent. same-hosts net (record net { wire = wire; sent = sent }) refl refl;
    places = λ number count host changed net is grows. places-at number count host changed net is grows (number == app.host) refl;
  }
