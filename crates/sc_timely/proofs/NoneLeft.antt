-- After a tick of any journal's net nothing is due.
use Rattle.std.proofs.Common.{◌≡◌, ℕ, zero, suc, ◌++◌, Some, List, [], ◌∷◌, All, inl, inr, refl, sym, subst, arith}
use Rattle.sc_terms.specs.declared.steps.Step.{Step}
use Rattle.sc_terms.specs.declared.steps.Step.TheVariants as steps
use Rattle.sc_parts.specs.declared.setup.Setup.{Setup}
use Rattle.sc_state.specs.Hosts.{Host}
use Rattle.sc_state.specs.declared.host.Live.{Live}
use Rattle.sc_state.specs.declared.net.Net.{Net}
use Rattle.sc_hosts.specs.Histories.{as_history, as_session}
use Rattle.sc_hosts.specs.Nets.{host_at}
use Rattle.sc_hosts.specs.Runs.{after_step, net_from as chained, chained_from, start}
use Rattle.sc_hosts.specs.Sessions.{Form}
use Rattle.sc_hosts.specs.Steps.{live_at}
use Rattle.sc_hosts.specs.Ticks.{due_items}
use Rattle.sc_lives.proofs.NumberedRuns.{chained-found}
use Rattle.sc_keyed.specs.Keyed.{HaveOwnKeys, IsIn}
use Rattle.sc_keyed.proofs.KeyedRuns.{history-keys, session-keys}
use Rattle.sc_timely.proofs.NothingDue.{AreFound, nothing-due}
use Rattle.sc_timely.proofs.Silence.{idle-chained}

-- what holds at each place of a list holds of what is in it
at-each : {A : Type 0} (P : A → Type 0) (xs : List A) (x : A) → All P xs → IsIn x xs → P x
unfolding IsIn
at-each P [] x all within = absurd within
at-each P (y ∷ ys) x all (inl same) = subst P (sym same) (all zero y (omega arith))
at-each P (y ∷ ys) x all (inr later) = at-each P ys x (λ k d within. all (suc k) d (omega (arith, within))) later

module _ {S : Type 0} (form : Form S) (setup : Setup) where
  from-more : (journal : List Step) (step : Step) (net : Net S)
      → chained_from form setup net (journal ++ step ∷ []) ≡ after_step form setup (chained_from form setup net journal) step
  unfolding chained_from
  from-more [] step net = refl
  from-more (s ∷ journal) step net = from-more journal step (after_step form setup net s)

  chained-more : (epoch began : ℕ) (journal : List Step) (step : Step)
      → chained form setup epoch began (journal ++ step ∷ []) ≡ after_step form setup (chained form setup epoch began journal) step
  unfolding chained
  chained-more epoch began journal step = from-more journal step (start setup epoch began)

  found-after : (net : Net S) → ((number : ℕ) (host : Host S) → host_at number net ≡ Some host → All (λ (live : Live S). live_at (record { host = number; serial = live.serial }) net ≡ Some live) host.sessions)
      → AreFound net
  unfolding AreFound
  found-after net each = λ number host is live within. at-each (λ (l : Live S). live_at (record { host = number; serial = l.serial }) net ≡ Some l) host.sessions live (each number host is) within

  none-left : (epoch began : ℕ) (journal : List Step) (now : ℕ) → HaveOwnKeys (chained form setup epoch began journal)
      → due_items form now (after_step form setup (chained form setup epoch began journal) (steps.Tick now)) ≡ []
  none-left epoch began journal now keys =
      let net : Net S = chained form setup epoch began journal in
      nothing-due form now setup net (idle-chained form setup epoch began journal) keys
      (found-after (after_step form setup net (steps.Tick now))
      (subst (λ (n : Net S). (number : ℕ) (host : Host S) → host_at number n ≡ Some host → All (λ (live : Live S). live_at (record { host = number; serial = live.serial }) n ≡ Some live) host.sessions)
      (chained-more epoch began journal (steps.Tick now)) (chained-found form setup epoch began (journal ++ steps.Tick now ∷ []))))

-- for each form in which sessions are kept
pub session-none-left : (setup : Setup) (epoch began : ℕ) (journal : List Step) (now : ℕ)
    → due_items as_session now (after_step as_session setup (chained as_session setup epoch began journal) (steps.Tick now)) ≡ []
session-none-left setup epoch began journal now = none-left as_session setup epoch began journal now (session-keys setup epoch began journal)

pub history-none-left : (setup : Setup) (epoch began : ℕ) (journal : List Step) (now : ℕ)
    → due_items (as_history setup.config) now (after_step (as_history setup.config) setup (chained (as_history setup.config) setup epoch began journal) (steps.Tick now)) ≡ []
history-none-left setup epoch began journal now = none-left (as_history setup.config) setup epoch began journal now (history-keys setup epoch began journal)
