-- After a lawful journal it is said of a live session what its laws say.
use Rattle.std.proofs.Common.{◌≡◌, ◌≤◌, ◌<◌, ℕ, zero, suc, ◌++◌, Bool, true, false, Option, None, Some, List, [], ◌∷◌, refl, sym, subst, ◌∙◌, arith, append_assoc}
use Rattle.std.specs.Prelude.{◌==◌, ◌&&◌, cond, map, slice_get}
use Rattle.std.proofs.lemmas.Bool.Decides.{nat_tests}
use Rattle.std.proofs.lemmas.List.{append-nil}
use Rattle.std.proofs.lemmas.List.Elements.{All-nil, All-cons}
use Rattle.sc_value.specs.declared.ids.AppId.{AppId}
use Rattle.sc_terms.specs.declared.calls.CallRecord.{CallRecord}
use Rattle.sc_terms.specs.declared.calls.End.{End}
use Rattle.sc_terms.specs.declared.settings.AppEntry.{AppEntry}
use Rattle.sc_terms.specs.declared.steps.Step.{Step}
use Rattle.sc_terms.specs.declared.steps.Step.TheVariants as steps
use Rattle.sc_parts.specs.declared.setup.Setup.{Setup}
use Rattle.sc_state.specs.Hosts.{Host}
use Rattle.sc_state.specs.declared.host.Live.{Live}
use Rattle.sc_state.specs.declared.net.Net.{Net}
use Rattle.sc_state.specs.declared.queue.Waiting.{Waiting}
use Rattle.sc_hosts.specs.Histories.{History, as_history}
use Rattle.sc_hosts.specs.Nets.{host_at}
use Rattle.sc_hosts.specs.Runs.{quiet_host, start, after_step, chained_from, net_from as chained, IsAllowed, IsLawfulFrom, IsLawful, MayTurn, prepared_turn as shown}
use Rattle.sc_hosts.specs.Steps.{live_at, live_of, before_delivery as stepped, turn_of}
use Rattle.sc_hosts.specs.Transacting.{is_same_app}
use Rattle.sc_lives.specs.Numbers.{IsRising, IsNumbered, AreNumbered}
use Rattle.sc_lives.proofs.NumberedNets.{after_step-numbered}
use Rattle.sc_once.proofs.OwnTurns.{live-known}
use Rattle.sc_once.specs.Growing.{KnownIn}
use Rattle.sc_once.proofs.StepParts.{same-app}
use Rattle.sc_walks.proofs.WalkSteps.{arrived-walks, bad_by-walks, lost-walks, ticked-walks}
use Rattle.sc_lived.specs.Lived.{Told, told_by, turns_in as told}
use Rattle.sc_lived.proofs.LivedHosts.{Keeps, Saying, fine-hosts}
use Rattle.sc_lived.proofs.LivedNets.{FineAt, FineIn, NetKeeps, fine-nets, tick-keeps}
use Rattle.sc_lived.proofs.OtherTurns.{turns-keep, withdrawn-keeps}
use Rattle.sc_lived.proofs.OwnTurns.{delivers, turn-fine, withdrawal-fine}

flipped : (a b c d : ℕ) (x : Bool) → (a == b && c == d) ≡ x → (b == a && d == c) ≡ x
flipped a b c d x is = grind (arith, nat_tests, is)

past : (last serial : ℕ) → serial ≤ last → last < serial → ⊥
past last serial known under = omega (arith, known, under)

same-live : (a b : Live History) → Some a ≡ Some b → a ≡ b
same-live a b is = cc

module _ {setup : Setup} {app : AppId} {Says : List Told → History → List Waiting → Type 0} {Unknown : List Told → Type 0} (law : Saying setup app Says Unknown) where
  abbrev After : Net History → Step → Net History
  After net step = after_step (as_history setup.config) setup net step

  -- a step that tells nothing of the session
  passes : (given : List Told) (net : Net History) (step : Step)
      → NetKeeps law given (record net { sent = [] }) (stepped (as_history setup.config) setup step (record net { sent = [] }))
      → FineIn law given net → FineIn law (given ++ []) (After net step)
  unfolding after_step
  passes given net step keeps fine =
      rw (append-nil given) (delivers law given _ (keeps fine))

  own-turn : (given : List Told) (net : Net History) (event now : ℕ) (made : List CallRecord) (end : End) → AreNumbered net
      → MayTurn (as_history setup.config) setup net app event now made end → FineIn law given net
      → FineIn law (given ++ record { event = event; now = now; calls = made; end = end } ∷ []) (After net (steps.Turn end app event now made))
  unfolding as_history shown turn_of
  own-turn given net event now made end numbered may fine =
      turn-fine law given net may.live may.waiting event now made end numbered may.live_is may.waiting_is may.event_is may.allowed fine

  turn-by : (given : List Told) (net : Net History) (other : AppId) (event now : ℕ) (made : List CallRecord) (end : End) → AreNumbered net
      → MayTurn (as_history setup.config) setup net other event now made end → (b : Bool) → is_same_app app other ≡ b → FineIn law given net
      → FineIn law (given ++ cond b (record { event = event; now = now; calls = made; end = end } ∷ []) []) (After net (steps.Turn end other event now made))
  unfolding stepped
  turn-by given net other event now made end numbered may true is fine =
      let same : other ≡ app = same-app (as_history setup.config) setup app other is in
      rw same (own-turn given net event now made end numbered (subst (λ (a : AppId). MayTurn (as_history setup.config) setup net a event now made end) same may) fine)
  turn-by given net other event now made end numbered may false is fine =
      passes given net (steps.Turn end other event now made)
      (turns-keep law given other (flipped app.host other.host app.serial other.serial false is) (live_at other net) now made end (record net { sent = [] })) fine

  withdraw-by : (given : List Told) (net : Net History) (other : AppId) → AreNumbered net → (b : Bool) → is_same_app app other ≡ b
      → FineIn law given net → FineIn law (given ++ []) (After net (steps.Withdraw other))
  unfolding stepped
  withdraw-by given net other numbered true is fine =
      let same : other ≡ app = same-app (as_history setup.config) setup app other is in
      rw same (passes given net (steps.Withdraw app) (withdrawal-fine law given (record net { sent = [] }) (live_at app net) refl numbered) fine)
  withdraw-by given net other numbered false is fine =
      passes given net (steps.Withdraw other)
      (withdrawn-keeps law given other (flipped app.host other.host app.serial other.serial false is) (live_at other net) (record net { sent = [] })) fine

  step-fine : (given : List Told) (net : Net History) (step : Step) → AreNumbered net
      → IsAllowed (as_history setup.config) setup net step → FineIn law given net
      → FineIn law (given ++ told_by app step) (After net step)
  unfolding IsAllowed told_by stepped
  step-fine given net (steps.In from message) numbered allowed fine =
      passes given net (steps.In from message) (arrived-walks (Keeps law given) (NetKeeps law given) (fine-hosts law given) (fine-nets law given) (as_history setup.config) refl setup from message (record net { sent = [] })) fine
  step-fine given net (steps.Bad from bad) numbered allowed fine =
      passes given net (steps.Bad from bad) (bad_by-walks (Keeps law given) (NetKeeps law given) (fine-hosts law given) (fine-nets law given) setup.config from bad.heads (record net { sent = [] })) fine
  step-fine given net (steps.Lost place) numbered allowed fine =
      passes given net (steps.Lost place) (lost-walks (Keeps law given) (NetKeeps law given) (fine-hosts law given) (fine-nets law given) setup.config place (record net { sent = [] })) fine
  step-fine given net (steps.Tick now) numbered allowed fine =
      passes given net (steps.Tick now) (ticked-walks (Keeps law given) (NetKeeps law given) (fine-hosts law given) (fine-nets law given) (tick-keeps law given) (as_history setup.config) setup.config now (record net { sent = [] })) fine
  step-fine given net (steps.Turn end other event now made) numbered allowed fine =
      turn-by given net other event now made end numbered allowed (is_same_app app other) refl fine
  step-fine given net (steps.Withdraw other) numbered allowed fine =
      withdraw-by given net other numbered (is_same_app app other) refl fine

  from-net : (journal : List Step) (given : List Told) (net : Net History) → AreNumbered net
      → IsLawfulFrom (as_history setup.config) setup net journal → FineIn law given net
      → FineIn law (given ++ told app journal) (chained_from (as_history setup.config) setup net journal)
  unfolding chained_from IsLawfulFrom told
  from-net [] given net numbered lawful fine = rw (append-nil given) fine
  from-net (step ∷ later) given net numbered lawful fine =
      rw (← append_assoc given (told_by app step) (told app later))
      (from-net later (given ++ told_by app step) (After net step) (after_step-numbered (as_history setup.config) setup net step numbered) lawful.1 (step-fine given net step numbered lawful.0 fine))

  -- ## From the beginning

  quiet-numbered : (apps : List AppEntry) → AreNumbered (record (start {S = History} setup 0 0) { hosts = map (λ app. quiet_host) apps })
  unfolding quiet_host IsRising start
  quiet-numbered [] = All-nil IsNumbered
  quiet-numbered (app ∷ apps) = All-cons IsNumbered _ _ (omega arith) (quiet-numbered apps)

  pub start-numbered : (epoch began : ℕ) → AreNumbered (start {S = History} setup epoch began)
  unfolding start
  start-numbered epoch began = quiet-numbered setup.config.app

  quiet-fine : Unknown [] → (apps : List AppEntry) (i : ℕ) → FineAt law [] (slice_get (map (λ app. quiet_host) apps) i)
  unfolding quiet_host FineAt
  quiet-fine none [] i = tt
  quiet-fine none (a ∷ apps) zero = record { unknown = λ under. none; lives = λ live is. cc }
  quiet-fine none (a ∷ apps) (suc i) = quiet-fine none apps i

  start-fine : Unknown [] → (epoch began : ℕ) → FineIn law [] (start setup epoch began)
  unfolding start
  start-fine none epoch began = quiet-fine none setup.config.app app.host

  found-lived : (given : List Told) (found : Option (Host History)) (live : Live History) → FineAt law given found
      → live_of app found ≡ Some live → Says given live.session live.inbox
  unfolding FineAt
  found-lived given None live fine is = cc
  found-lived given (Some host) live fine is = fine.lives live is

  -- after a lawful journal it is said of the live session
  pub said : Unknown [] → (epoch began : ℕ) (journal : List Step) (live : Live History)
      → IsLawful (as_history setup.config) setup epoch began journal
      → live_at app (chained (as_history setup.config) setup epoch began journal) ≡ Some live
      → Says (told app journal) live.session live.inbox
  unfolding IsLawful chained
  said none epoch began journal live lawful is =
      found-lived (told app journal) (host_at app.host (chained_from (as_history setup.config) setup (start setup epoch began) journal)) live (from-net journal [] (start setup epoch began) (start-numbered epoch began) lawful (start-fine none epoch began)) is

  known-fine : (given : List Told) (found : Option (Host History)) (live : Live History) → KnownIn app.serial found
      → live_of app found ≡ Some live → Says given live.session live.inbox → FineAt law given found
  unfolding FineAt KnownIn
  known-fine given None live known is says = tt
  known-fine given (Some host) live known is says = record {
    unknown = λ under. absurd (past host.last app.serial known under);
    lives = λ later at. subst (λ (l : Live History). Says given l.session l.inbox) (same-live live later (sym is ∙ at)) says;
  }

  -- and after more steps of one that lives
  pub said-since : (before later : List Step) (net : Net History) (first live : Live History) → AreNumbered net
      → IsLawfulFrom (as_history setup.config) setup net (before ++ later)
      → live_at app (chained_from (as_history setup.config) setup net before) ≡ Some first
      → Says [] first.session first.inbox
      → live_at app (chained_from (as_history setup.config) setup net (before ++ later)) ≡ Some live
      → Says (told app later) live.session live.inbox
  unfolding chained_from IsLawfulFrom
  said-since [] later net first live numbered lawful lives says is =
      found-lived (told app later) _ live (from-net later [] net numbered lawful (known-fine [] (host_at app.host net) first (live-known app net first numbered lives) lives says)) is
  said-since (step ∷ before) later net first live numbered lawful lives says is =
      said-since before later (After net step) first live (after_step-numbered (as_history setup.config) setup net step numbered) lawful.1 lives says is
