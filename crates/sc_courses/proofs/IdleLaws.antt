-- In an idle net no session lives, and no transaction.
use Rattle.std.proofs.Common.{◌≡◌, ℕ, ◌+◌, Bool, true, false, List, [], ◌∷◌, refl, ◌∙◌, arith, length}
use Rattle.std.specs.Prelude.{◌==◌, ◌&&◌, cond, filter, not, sum_by}
use Rattle.std.specs.List.{list_all}
use Rattle.std.proofs.lemmas.Bool.{false≢true}
use Rattle.std.proofs.lemmas.Bool.Decides.{nat_tests}
use Rattle.std.proofs.lemmas.List.Sums.{sum_by-cons}
use Rattle.sc_state.specs.Hosts.{Host}
use Rattle.sc_state.specs.declared.net.Net.{Net}
use Rattle.sc_hosts.specs.Runs.{is_idle, is_idle_host, live_count}
use Rattle.sc_hosts.specs.Transacting.{is_over, state_of_client, state_of_server}

and-first : (a b : Bool) → (a && b) ≡ true → a ≡ true
and-first true b is = refl
and-first false b is = absurd (false≢true is)

and-last : (a b : Bool) → (a && b) ≡ true → b ≡ true
and-last true b is = is
and-last false b is = absurd (false≢true is)

none-step : {A : Type 0} (test : A → Bool) (x : A) (xs : List A) (b : Bool) → b ≡ true → length (filter (λ y. not (test y)) xs) ≡ 0 → length (cond (not b) (x ∷ filter (λ y. not (test y)) xs) (filter (λ y. not (test y)) xs)) ≡ 0
none-step test x xs true is none = none
none-step test x xs false is none = absurd (false≢true is)

none-left : {A : Type 0} (test : A → Bool) (xs : List A) → list_all test xs ≡ true → length (filter (λ x. not (test x)) xs) ≡ 0
none-left test [] all = refl
none-left test (x ∷ xs) all = none-step test x xs (test x) (and-first (test x) (list_all test xs) all) (none-left test xs (and-last (test x) (list_all test xs) all))

no-length : (n : ℕ) → (n == 0) ≡ true → n ≡ 0
no-length n is = grind (arith, nat_tests, is)

both-none : (a b : ℕ) → a ≡ 0 → b ≡ 0 → a + b ≡ 0
both-none a b x y = omega (arith, x, y)

module _ {S : Type 0} where
  -- how many transactions of a host aren't over
  abbrev pub lasting : Host S → ℕ
  lasting host = length (filter (λ client. not (is_over (state_of_client client))) host.clients) + length (filter (λ server. not (is_over (state_of_server server))) host.servers)

  sessions-none : (host : Host S) → is_idle_host host ≡ true → length host.sessions ≡ 0
  unfolding is_idle_host
  sessions-none host idle =
      let clients : Bool = list_all (λ client. is_over (state_of_client client)) host.clients in
      let servers : Bool = list_all (λ server. is_over (state_of_server server)) host.servers in
      no-length (length host.sessions) (and-first (length host.sessions == 0) clients (and-first (length host.sessions == 0 && clients) servers idle))

  lasting-none : (host : Host S) → is_idle_host host ≡ true → lasting host ≡ 0
  unfolding is_idle_host
  lasting-none host idle =
      let clients : Bool = list_all (λ client. is_over (state_of_client client)) host.clients in
      let servers : Bool = list_all (λ server. is_over (state_of_server server)) host.servers in
      both-none (length (filter (λ client. not (is_over (state_of_client client))) host.clients)) (length (filter (λ server. not (is_over (state_of_server server))) host.servers))
      (none-left (λ client. is_over (state_of_client client)) host.clients (and-last (length host.sessions == 0) clients (and-first (length host.sessions == 0 && clients) servers idle)))
      (none-left (λ server. is_over (state_of_server server)) host.servers (and-last (length host.sessions == 0 && clients) servers idle))

  sum-none : (count : Host S → ℕ) → ((host : Host S) → is_idle_host host ≡ true → count host ≡ 0) → (hosts : List (Host S)) → list_all is_idle_host hosts ≡ true → sum_by count hosts ≡ 0
  sum-none count none [] idle = refl
  sum-none count none (host ∷ hosts) idle =
      sum_by-cons count host hosts
      ∙ both-none (count host) (sum_by count hosts) (none host (and-first (is_idle_host host) (list_all is_idle_host hosts) idle)) (sum-none count none hosts (and-last (is_idle_host host) (list_all is_idle_host hosts) idle))

  pub idle_lives : (net : Net S) → is_idle net ≡ true → live_count net ≡ 0
  unfolding is_idle live_count
  idle_lives net idle = sum-none (λ (host : Host S). length host.sessions) sessions-none net.hosts idle

  pub idle_lasts : (net : Net S) → is_idle net ≡ true → sum_by lasting net.hosts ≡ 0
  unfolding is_idle
  idle_lasts net idle = sum-none lasting lasting-none net.hosts idle
