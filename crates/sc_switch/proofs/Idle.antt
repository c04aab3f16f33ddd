-- Where no session lives, and no transaction, a net is idle.
use Rattle.std.proofs.Common.{◌≡◌, ℕ, suc, ◌+◌, Bool, true, false, List, [], ◌∷◌, refl, sym, ◌∙◌, arith, length}
use Rattle.std.specs.Prelude.{◌==◌, ◌&&◌, cond, not, filter, sum_by}
use Rattle.std.specs.List.{list_all}
use Rattle.std.proofs.lemmas.Bool.Decides.{nat_tests}
use Rattle.std.proofs.lemmas.List.Sums.{sum_by-cons}
use Rattle.sc_state.specs.Hosts.{Host}
use Rattle.sc_state.specs.declared.net.Net.{Net}
use Rattle.sc_hosts.specs.Runs.{live_count, is_idle_host, is_idle}
use Rattle.sc_hosts.specs.Transacting.{state_of_client, state_of_server, is_over}
use Rattle.sc_switch.specs.Counting.{is_busy_client, is_busy_server, busy_at, busy_count}

none-fails-step : {A : Type 0} (test : A → Bool) (x : A) (xs : List A) (b : Bool) → test x ≡ b → length (cond (not b) (x ∷ filter (λ y. not (test y)) xs) (filter (λ y. not (test y)) xs)) ≡ 0
    → (length (filter (λ y. not (test y)) xs) ≡ 0 → list_all test xs ≡ true) → (b && list_all test xs) ≡ true
none-fails-step test x xs true is none later = later none
none-fails-step test x xs false is none later = absurd (over (length (filter (λ y. not (test y)) xs)) none)
  where
    over : (n : ℕ) → suc n ≡ 0 → ⊥
    over n is = omega (arith, is)

none-fails : {A : Type 0} (test : A → Bool) (xs : List A) → length (filter (λ x. not (test x)) xs) ≡ 0 → list_all test xs ≡ true
none-fails test [] none = refl
none-fails test (x ∷ xs) none = none-fails-step test x xs (test x) refl none (none-fails test xs)

both : (a b : Bool) → a ≡ true → b ≡ true → (a && b) ≡ true
both a b p q = rw (p, q) refl

none : (n : ℕ) → n ≡ 0 → (n == 0) ≡ true
none n is = grind (arith, nat_tests, is)

first-none : (a b : ℕ) → a + b ≡ 0 → a ≡ 0
first-none a b is = omega (arith, is)

last-none : (a b : ℕ) → a + b ≡ 0 → b ≡ 0
last-none a b is = omega (arith, is)

module _ {S : Type 0} where
  idle-host : (host : Host S) → length host.sessions ≡ 0 → busy_at host ≡ 0 → is_idle_host host ≡ true
  unfolding is_idle_host busy_at is_busy_client is_busy_server
  idle-host host quiet over =
      both (length host.sessions == 0 && list_all (λ client. is_over (state_of_client client)) host.clients) (list_all (λ server. is_over (state_of_server server)) host.servers)
      (both (length host.sessions == 0) (list_all (λ client. is_over (state_of_client client)) host.clients) (none (length host.sessions) quiet)
      (none-fails (λ client. is_over (state_of_client client)) host.clients (first-none (length (filter is_busy_client host.clients)) (length (filter is_busy_server host.servers)) over)))
      (none-fails (λ server. is_over (state_of_server server)) host.servers (last-none (length (filter is_busy_client host.clients)) (length (filter is_busy_server host.servers)) over))

  idle-hosts : (hosts : List (Host S)) → sum_by (λ (host : Host S). length host.sessions) hosts ≡ 0 → sum_by (λ (host : Host S). busy_at host) hosts ≡ 0 → list_all is_idle_host hosts ≡ true
  idle-hosts [] quiet over = refl
  idle-hosts (host ∷ hosts) quiet over =
      let lives = sym (sum_by-cons (λ (host : Host S). length host.sessions) host hosts) ∙ quiet in
      let busy = sym (sum_by-cons (λ (host : Host S). busy_at host) host hosts) ∙ over in
      both (is_idle_host host) (list_all is_idle_host hosts)
      (idle-host host (first-none (length host.sessions) _ lives) (first-none (busy_at host) _ busy))
      (idle-hosts hosts (last-none (length host.sessions) _ lives) (last-none (busy_at host) _ busy))

  -- what `turn_epoch` has to find
  pub idle : (net : Net S) → live_count net ≡ 0 → busy_count net ≡ 0 → is_idle net ≡ true
  unfolding is_idle live_count busy_count
  idle net quiet over = idle-hosts net.hosts quiet over
