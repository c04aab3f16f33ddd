-- Over a journal the events of an application session have one history.
use Rattle.std.proofs.Common.{◌≡◌, ℕ, zero, suc, ◌++◌, Bool, true, false, Option, None, Some, List, [], ◌∷◌, refl, sym, ap, subst, ◌∙◌, arith, append_assoc, cond}
use Rattle.std.specs.Prelude.{map, slice_get}
use Rattle.std.specs.List.{filter_map, cons_option}
use Rattle.std.proofs.lemmas.List.{append-nil}
use Rattle.std.proofs.lemmas.List.Elements.{All-nil, All-cons}
use Rattle.sc_value.specs.declared.ids.AppId.{AppId}
use Rattle.sc_terms.specs.declared.calls.CallRecord.{CallRecord}
use Rattle.sc_terms.specs.declared.calls.End.{End}
use Rattle.sc_terms.specs.declared.settings.AppEntry.{AppEntry}
use Rattle.sc_terms.specs.declared.steps.Step.{Step}
use Rattle.sc_terms.specs.declared.steps.Step.TheVariants as steps
use Rattle.sc_parts.specs.declared.setup.Setup.{Setup}
use Rattle.sc_state.specs.declared.host.Live.{Live}
use Rattle.sc_state.specs.declared.net.Net.{Net}
use Rattle.sc_hosts.specs.EventLists.{waiting_in, queued_by, queued_from, events_of_session as queued, handled_by, turns_of as handled, waiting, purged_by, purged_from, dropped_events as purged}
use Rattle.sc_hosts.specs.Nets.{host_at}
use Rattle.sc_hosts.specs.Runs.{quiet_host, start, after_step, chained_from, net_from as chained, IsAllowed, IsLawfulFrom, IsLawful, MayTurn}
use Rattle.sc_hosts.specs.Sessions.{Form}
use Rattle.sc_hosts.specs.Steps.{live_of, live_at}
use Rattle.sc_hosts.specs.Transacting.{is_same_app}
use Rattle.sc_lives.specs.Numbers.{IsRising, IsNumbered, AreNumbered}
use Rattle.sc_lives.proofs.NumberedNets.{after_step-numbered}
use Rattle.sc_once.proofs.Bounds.{to-higher, between-append, none-between, from-lower}
use Rattle.sc_once.proofs.Lists.{top, front-between, back-between, top-under, merge-handled, merge-purged, merge-waiting}
use Rattle.sc_once.proofs.StepParts.{handled_in, parts, not-both, same-app}
use Rattle.sc_once.proofs.OwnTurns.{gone-dead, gone-quiet, live-known, dead-gone}
use Rattle.sc_once.specs.Growing.{IsBetween, numbers_of, GoneIn}
use Rattle.sc_once.specs.OneHistory.{IsMerge, IsOneHistory}

-- a session's events from some net on
record From (low high : ℕ) (wait queued handled purged waiting : List ℕ) : Type 0 where
  merge : IsMerge (wait ++ queued) handled purged waiting
  once : IsBetween (wait ++ queued) low high
  in_order : IsBetween (handled ++ waiting) low high

-- one step before
before-step : (ends : Bool) (low count later high : ℕ) (wait rest took new dropped left queued handled purged waiting : List ℕ) → wait ≡ took ++ rest → left ≡ cond ends [] (rest ++ new)
    → dropped ≡ cond ends (rest ++ new) [] → IsBetween wait low count → IsBetween new count later
    → ((start : ℕ) → IsBetween left start later → From start high left queued handled purged waiting)
    → From low high wait (new ++ queued) (took ++ handled) (dropped ++ purged) waiting
before-step false low count later high wait rest took new dropped left queued handled purged waiting is kept gone within more on =
    let inside : IsBetween (took ++ rest) low count = subst (λ (ns : List ℕ). IsBetween ns low count) is within in
    let kept_in : IsBetween (rest ++ new) (top low took) later = between-append rest new (top low took) count later (back-between took rest low count inside) more in
    let then = on (top low took) (rw kept kept_in) in
    let moved : wait ++ (new ++ queued) ≡ took ++ (left ++ queued) = rw (is, kept) (append_assoc took rest (new ++ queued) ∙ ap (λ ns. took ++ ns) (sym (append_assoc rest new queued))) in record {
      merge = rw (moved, gone) (merge-handled took (left ++ queued) handled purged waiting then.merge);
      once = rw moved (between-append took (left ++ queued) low (top low took) high (front-between took rest low count inside) then.once);
      in_order = rw (append_assoc took handled waiting) (between-append took (handled ++ waiting) low (top low took) high (front-between took rest low count inside) then.in_order);
    }
before-step true low count later high wait rest took new dropped left queued handled purged waiting is kept gone within more on =
    let inside : IsBetween (took ++ rest) low count = subst (λ (ns : List ℕ). IsBetween ns low count) is within in
    let then = on later (rw kept (none-between later)) in
    let ended : From later high [] queued handled purged waiting = subst (λ (ns : List ℕ). From later high ns queued handled purged waiting) kept then in
    let moved : wait ++ (new ++ queued) ≡ took ++ ((rest ++ new) ++ queued) = rw is (append_assoc took rest (new ++ queued) ∙ ap (λ ns. took ++ ns) (sym (append_assoc rest new queued))) in
    let all : IsBetween (took ++ (rest ++ new)) low later = rw (← append_assoc took rest new) (between-append (took ++ rest) new low count later inside more) in
    let first : IsBetween took low later = to-higher took low (top low took) later (top-under took (rest ++ new) low later all) (front-between took rest low count inside) in record {
      merge = rw (moved, gone) (merge-handled took ((rest ++ new) ++ queued) handled ((rest ++ new) ++ purged) waiting (merge-purged (rest ++ new) queued handled purged waiting ended.merge));
      once = rw (moved, ← append_assoc took (rest ++ new) queued) (between-append (took ++ (rest ++ new)) queued low later high all ended.once);
      in_order = rw (append_assoc took handled waiting) (between-append took (handled ++ waiting) low later high first ended.in_order);
    }

left-within : (took rest new left : List ℕ) (count later : ℕ) (ends : Bool) → left ≡ cond ends [] (rest ++ new) → IsBetween (took ++ rest) 0 count → IsBetween new count later → IsBetween left 0 later
left-within took rest new left count later false is inside more =
    rw is (from-lower (rest ++ new) 0 (top 0 took) later (omega arith) (between-append rest new (top 0 took) count later (back-between took rest 0 count inside) more))
left-within took rest new left count later true is inside more = rw is (from-lower [] 0 later later (omega arith) (none-between later))

module _ {S : Type 0} (form : Form S) (setup : Setup) where
  handled-next : (app : AppId) (step : Step) (later : List Step) → handled app (step ∷ later) ≡ handled_in (handled_by app step) ++ handled app later
  unfolding handled handled_in
  handled-next app step later = by (handled_by app step) (filter_map (handled_by app) later)
    where
      by : (one : Option ℕ) (ns : List ℕ) → cons_option one ns ≡ handled_in one ++ ns
      by None ns = refl
      by (Some n) ns = refl

  from-net : (journal : List Step) (app : AppId) (net : Net S) (low : ℕ) → AreNumbered net → IsLawfulFrom form setup net journal → IsBetween (waiting_in app net) low net.count
      → From low (chained_from form setup net journal).count (waiting_in app net) (queued_from form setup app net journal) (handled app journal) (purged_from form setup app net journal) (waiting_in app (chained_from form setup net journal))
  unfolding chained_from IsLawfulFrom queued_from purged_from handled
  from-net [] app net low numbered lawful within = record {
    merge = rw (append-nil (waiting_in app net)) (merge-waiting (waiting_in app net));
    once = rw (append-nil (waiting_in app net)) within;
    in_order = within;
  }
  from-net (step ∷ later) app net low numbered lawful within =
      let after : Net S = after_step form setup net step in
      let part = parts form setup app low net step numbered within lawful.0 in
      let result = before-step part.ends low net.count after.count (chained_from form setup after later).count (waiting_in app net) part.rest (handled_in (handled_by app step)) (queued_by form setup app net step)
      (purged_by form setup app net step) (waiting_in app after) (queued_from form setup app after later) (handled app later) (purged_from form setup app after later) (waiting_in app (chained_from form setup after later))
      part.before part.left part.dropped within part.between
      (λ start inside. from-net later app after start (after_step-numbered form setup net step numbered) lawful.1 inside) in
      rw (handled-next app step later) result

  -- ## From the beginning

  quiet-numbered : (apps : List AppEntry) → AreNumbered (record (start {S = S} setup 0 0) { hosts = map (λ app. quiet_host) apps })
  unfolding quiet_host IsRising start
  quiet-numbered [] = All-nil IsNumbered
  quiet-numbered (app ∷ apps) = All-cons IsNumbered _ _ (omega arith) (quiet-numbered apps)

  start-numbered : (epoch began : ℕ) → AreNumbered (start {S = S} setup epoch began)
  unfolding start
  start-numbered epoch began = quiet-numbered setup.config.app

  quiet-waits : (apps : List AppEntry) (app : AppId) (i : ℕ) → numbers_of (live_of {S = S} app (slice_get (map (λ app. quiet_host) apps) i)) ≡ []
  unfolding quiet_host
  quiet-waits [] app i = refl
  quiet-waits (a ∷ apps) app zero = refl
  quiet-waits (a ∷ apps) app (suc i) = quiet-waits apps app i

  start-waits : (epoch began : ℕ) (app : AppId) → waiting_in app (start {S = S} setup epoch began) ≡ []
  unfolding start waiting_in
  start-waits epoch began app = quiet-waits setup.config.app app app.host

  start-between : (epoch began : ℕ) (app : AppId) → IsBetween (waiting_in app (start {S = S} setup epoch began)) 0 (start {S = S} setup epoch began).count
  unfolding start
  start-between epoch began app = rw (start-waits epoch began app) (none-between 0)

  -- all that was queued for a session was handled, purged or waits
  pub one-history : (epoch began : ℕ) (journal : List Step) (app : AppId) → IsLawful form setup epoch began journal
      → IsOneHistory (queued form setup epoch began app journal) (handled app journal) (purged form setup epoch began app journal) (waiting form setup epoch began app journal) (chained form setup epoch began journal).count
  unfolding IsLawful chained queued purged waiting
  one-history epoch began journal app lawful =
      let all = from-net journal app (start setup epoch began) 0 (start-numbered epoch began) lawful (start-between epoch began app) in
      let none : waiting_in app (start {S = S} setup epoch began) ≡ [] = start-waits epoch began app in record {
        merge = subst (λ (ns : List ℕ). IsMerge (ns ++ queued_from form setup app (start setup epoch began) journal) (handled app journal) (purged_from form setup app (start setup epoch began) journal) (waiting_in app (chained_from form setup (start setup epoch began) journal))) none all.merge;
        once = subst (λ (ns : List ℕ). IsBetween (ns ++ queued_from form setup app (start setup epoch began) journal) 0 (chained_from form setup (start setup epoch began) journal).count) none all.once;
        in_order = all.in_order;
      }

  -- ## After the end

  no-turn : (app other : AppId) (b : Bool) → is_same_app app other ≡ b → (net : Net S) → live_at app net ≡ None → (event now : ℕ) (made : List CallRecord) (end : End)
      → MayTurn form setup net other event now made end → cond b (Some event) None ≡ None
  no-turn app other true is net dead event now made end may =
      absurd (not-both (live_at app net) may.live dead (subst (λ (a : AppId). live_at a net ≡ Some may.live) (same-app form setup app other is) may.live_is))
  no-turn app other false is net dead event now made end may = refl

  none-handled : (app : AppId) (net : Net S) (step : Step) → live_at app net ≡ None → IsAllowed form setup net step → handled_by app step ≡ None
  unfolding IsAllowed handled_by
  none-handled app net (steps.In from message) dead allowed = refl
  none-handled app net (steps.Bad from bad) dead allowed = refl
  none-handled app net (steps.Lost place) dead allowed = refl
  none-handled app net (steps.Tick now) dead allowed = refl
  none-handled app net (steps.Turn end other event now made) dead allowed = no-turn app other (is_same_app app other) refl net dead event now made end allowed
  none-handled app net (steps.Withdraw other) dead allowed = refl

  -- a session that is gone handles nothing more, and nothing waits in it
  pub gone-later : (journal : List Step) (app : AppId) (net : Net S) (low : ℕ) → AreNumbered net → IsLawfulFrom form setup net journal → IsBetween (waiting_in app net) low net.count
      → GoneIn app.serial (host_at app.host net) → (handled app journal ≡ []) × (waiting_in app (chained_from form setup net journal) ≡ [])
  unfolding chained_from IsLawfulFrom handled handled_in
  gone-later [] app net low numbered lawful within gone = (refl, gone-quiet app net (gone-dead app net gone))
  gone-later (step ∷ later) app net low numbered lawful within gone =
      let after : Net S = after_step form setup net step in
      let part = parts form setup app low net step numbered within lawful.0 in
      let dead : live_at app after ≡ None = gone-dead app after (part.gone gone) in
      let rest = gone-later later app after after.count (after_step-numbered form setup net step numbered) lawful.1 (rw (gone-quiet app after dead) (none-between after.count)) (part.gone gone) in
      (rw (handled-next app step later, none-handled app net step (gone-dead app net gone) lawful.0) rest.0, rest.1)

  -- what a net has after some lawful steps
  record Sound (app : AppId) (net : Net S) : Type 0 where
    numbered : AreNumbered net
    within : IsBetween (waiting_in app net) 0 net.count

  sound-step : (app : AppId) (net : Net S) (step : Step) → Sound app net → IsAllowed form setup net step → Sound app (after_step form setup net step)
  sound-step app net step sound allowed =
      let after : Net S = after_step form setup net step in
      let part = parts form setup app 0 net step sound.numbered sound.within allowed in record {
        numbered = after_step-numbered form setup net step sound.numbered;
        within = left-within (handled_in (handled_by app step)) part.rest (queued_by form setup app net step) (waiting_in app after) net.count after.count part.ends part.left (subst (λ (ns : List ℕ). IsBetween ns 0 net.count) part.before sound.within) part.between;
      }

  ended-from : (before : List Step) (app : AppId) (net : Net S) (step : Step) (later : List Step) (live : Live S) → Sound app net → IsLawfulFrom form setup net (before ++ step ∷ later)
      → live_at app (chained_from form setup net before) ≡ Some live → live_at app (after_step form setup (chained_from form setup net before) step) ≡ None
      → (handled app later ≡ []) × (waiting_in app (chained_from form setup net (before ++ step ∷ later)) ≡ [])
  unfolding chained_from IsLawfulFrom
  ended-from [] app net step later live sound lawful lives dead =
      let after : Net S = after_step form setup net step in
      let part = parts form setup app 0 net step sound.numbered sound.within lawful.0 in
      let gone : GoneIn app.serial (host_at app.host after) = dead-gone app after (part.known (live-known app net live sound.numbered lives)) dead in
      gone-later later app after after.count (after_step-numbered form setup net step sound.numbered) lawful.1 (rw (gone-quiet app after dead) (none-between after.count)) gone
  ended-from (first ∷ before) app net step later live sound lawful lives dead =
      ended-from before app (after_step form setup net first) step later live (sound-step app net first sound lawful.0) lawful.1 lives dead

  -- after the step that ends a session it handles nothing more, and nothing waits in it
  pub ended-quiet : (epoch began : ℕ) (before later : List Step) (step : Step) (app : AppId) (live : Live S) → IsLawful form setup epoch began (before ++ step ∷ later)
      → live_at app (chained form setup epoch began before) ≡ Some live → live_at app (after_step form setup (chained form setup epoch began before) step) ≡ None
      → (handled app later ≡ []) × (waiting form setup epoch began app (before ++ step ∷ later) ≡ [])
  unfolding IsLawful chained waiting
  ended-quiet epoch began before later step app live lawful lives dead =
      ended-from before app (start setup epoch began) step later live (record { numbered = start-numbered epoch began; within = start-between epoch began app }) lawful lives dead
