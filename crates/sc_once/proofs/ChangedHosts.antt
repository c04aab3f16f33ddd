-- A change of one host keeps what holds of each host, where it keeps it of that one.
use Rattle.std.proofs.Common.{◌≡◌, ℕ, Bool, true, false, Option, None, Some, refl, sym, subst, ◌∙◌, arith}
use Rattle.std.specs.Prelude.{◌==◌, option_map, slice_get}
use Rattle.std.proofs.lemmas.Bool.Decides.{nat_tests}
use Rattle.sc_value.specs.Lists.{change_nth}
use Rattle.sc_value.proofs.ListFacts.{slice_get-change_nth}
use Rattle.sc_state.specs.Hosts.{Host}
use Rattle.sc_state.specs.declared.net.Net.{Net}
use Rattle.sc_hosts.specs.Nets.{host_at}
use Rattle.sc_once.proofs.Finding.{slice_get-other}

equal : (a b : ℕ) → (a == b) ≡ true → a ≡ b
equal a b is = grind (arith, nat_tests, is)

differ : (a b : ℕ) → (a == b) ≡ false → b ≡ a → ⊥
differ a b at same = grind (arith, nat_tests, at, same)

mapped : {A : Type 0} (change : A → A) (found : Option A) (x : A) → option_map change found ≡ Some x
    → (a : A) × (found ≡ Some a) × (change a ≡ x)
mapped change None x is = cc
mapped {A = A} change (Some a) x is = (a, refl, some-is (change a) x is)
  where
    some-is : (y x : A) → Some y ≡ Some x → y ≡ x
    some-is y x is = cc

pub changed_hosts : {S : Type 0} (Good : ℕ → Host S → Type 0) (number : ℕ) (change : Host S → Host S) (net : Net S) → ((host : Host S) → host_at number net ≡ Some host → Good number host → Good number (change host))
    → ((number : ℕ) (host : Host S) → host_at number net ≡ Some host → Good number host)
    → (n : ℕ) (host : Host S) (b : Bool) → (n == number) ≡ b → slice_get (change_nth number change net.hosts) n ≡ Some host → Good n host
changed_hosts {S = S} Good number change net keeps all n host true at is =
    let same : n ≡ number = equal n number at in
    let found : option_map change (host_at number net) ≡ Some host = sym (slice_get-change_nth number change net.hosts) ∙ subst (λ (m : ℕ). slice_get (change_nth number change net.hosts) m ≡ Some host) same is in
    let was = mapped change (host_at number net) host found in
    subst (λ (m : ℕ). Good m host) (sym same) (subst (λ (h : Host S). Good number h) was.2 (keeps was.0 was.1 (all number was.0 was.1)))
changed_hosts {S = S} Good number change net keeps all n host false at is =
    all n host (sym (slice_get-other net.hosts number n change (differ n number at)) ∙ is)
