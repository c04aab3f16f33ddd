-- A turn of an application session takes the first event off, and what waits then grows, or the session goes.
use Rattle.std.proofs.Common.{◌≡◌, ◌≤◌, ◌<◌, ℕ, Bool, true, false, Option, None, Some, List, [], ◌∷◌, refl, sym, ap, ◌∙◌, arith}
use Rattle.std.specs.Prelude.{◌==◌, cond, option_map, drop, map}
use Rattle.std.specs.List.{find}
use Rattle.std.proofs.lemmas.Bool.Decides.{nat_tests}
use Rattle.sc_value.specs.Lists.{change_first, remove_first}
use Rattle.sc_value.proofs.ListFacts.{slice_get-change_nth}
use Rattle.sc_value.specs.declared.ids.AppId.{AppId}
use Rattle.sc_parts.specs.declared.setup.Setup.{Setup}
use Rattle.sc_state.specs.Hosts.{Host}
use Rattle.sc_state.specs.declared.host.Live.{Live}
use Rattle.sc_state.specs.declared.net.Net.{Net}
use Rattle.sc_state.specs.declared.orders.Outcome.{Outcome}
use Rattle.sc_state.specs.declared.queue.Waiting.{Waiting}
use Rattle.sc_hosts.specs.EventLists.{waiting_in}
use Rattle.sc_hosts.specs.Inboxes.{is_live, live_in}
use Rattle.sc_hosts.specs.Nets.{host_at, change_host}
use Rattle.sc_hosts.specs.Sessions.{Form, Turn}
use Rattle.sc_hosts.specs.Steps.{live_of, live_at, turned_live, without_live}
use Rattle.sc_hosts.specs.Transacting.{without_ended}
use Rattle.sc_lives.specs.Numbers.{IsRising, AreNumbered, IsNumberedAt}
use Rattle.sc_lives.proofs.NumberedNets.{host_at-numbered}
use Rattle.sc_once.proofs.Finding.{find-changed}
use Rattle.sc_once.proofs.GrowingNets.{waiting-at}
use Rattle.sc_once.specs.Growing.{numbers_of, GoneIn, KnownIn}

above-apart : (a b low : ℕ) → a ≤ low → low < b → (b == a) ≡ false
above-apart a b low under over = grind (arith, nat_tests, under, over)

same-below : (a b last : ℕ) → (a == b) ≡ true → a ≤ last → b ≤ last
same-below a b last at under = grind (arith, nat_tests, at, under)

fewer : (numbers : List Waiting) → map (λ waiting. waiting.number) (drop 1 numbers) ≡ drop 1 (map (λ waiting. waiting.number) numbers)
fewer [] = refl
fewer (w ∷ ws) = refl

module _ {S : Type 0} where
  -- none of a lower serial
  none-lower : (lives : List (Live S)) (low last serial : ℕ) → serial ≤ low → IsRising lives low last → find (is_live serial) lives ≡ None
  unfolding IsRising
  none-lower [] low last serial under rising = refl
  none-lower (live ∷ lives) low last serial under rising =
      rw (above-apart serial live.serial low under rising.0) (none-lower lives live.serial last serial (omega (arith, under, rising.0)) rising.1)

  without-step : (live : Live S) (lives : List (Live S)) (last serial : ℕ) (b : Bool) → (live.serial == serial) ≡ b → IsRising lives live.serial last
      → find (is_live serial) (remove_first (is_live serial) lives) ≡ None → find (is_live serial) (cond b lives (live ∷ remove_first (is_live serial) lives)) ≡ None
  without-step live lives last serial true at rising later = none-lower lives live.serial last serial (same live.serial serial at) rising
    where
      same : (a b : ℕ) → (a == b) ≡ true → b ≤ a
      same a b at = grind (arith, nat_tests, at)
  without-step live lives last serial false at rising later = rw at later

  -- taken out, it is found no more
  without-found : (lives : List (Live S)) (low last serial : ℕ) → IsRising lives low last → find (is_live serial) (remove_first (is_live serial) lives) ≡ None
  unfolding IsRising remove_first
  without-found [] low last serial rising = refl
  without-found (live ∷ lives) low last serial rising = without-step live lives last serial (live.serial == serial) refl rising.1 (without-found lives live.serial last serial rising.1)

  rising-top : (lives : List (Live S)) (low last : ℕ) → IsRising lives low last → low ≤ last
  unfolding IsRising
  rising-top [] low last rising = rising
  rising-top (live ∷ lives) low last rising = omega (arith, rising.0, rising-top lives live.serial last rising.1)

  known-step : (first : Live S) (lives : List (Live S)) (last serial : ℕ) (live : Live S) (b : Bool) → (first.serial == serial) ≡ b → IsRising lives first.serial last
      → (find (is_live serial) lives ≡ Some live → serial ≤ last) → cond b (Some first) (find (is_live serial) lives) ≡ Some live → serial ≤ last
  known-step first lives last serial live true at rising later found = same-below first.serial serial last at (rising-top lives first.serial last rising)
  known-step first lives last serial live false at rising later found = later found

  -- where a session is found, its serial was given
  found-known : (lives : List (Live S)) (low last serial : ℕ) (live : Live S) → IsRising lives low last → find (is_live serial) lives ≡ Some live → serial ≤ last
  unfolding IsRising
  found-known [] low last serial live rising found = cc
  found-known (first ∷ lives) low last serial live rising found =
      known-step first lives last serial live (first.serial == serial) refl rising.1 (λ later. found-known lives first.serial last serial live rising.1 later) found

module _ {S : Type 0} (app : AppId) where
  changed-at : (change : Host S → Host S) (net : Net S) → host_at app.host (change_host app.host change net) ≡ option_map change (host_at app.host net)
  changed-at change net = slice_get-change_nth app.host change net.hosts

  -- ## The turn

  turned-numbers : (change : Live S → Live S) → ((live : Live S) → (change live).inbox ≡ drop 1 live.inbox) → (found : Option (Live S)) → numbers_of (option_map change found) ≡ drop 1 (numbers_of found)
  turned-numbers change fewer_in None = refl
  turned-numbers change fewer_in (Some live) = ap (map (λ waiting. waiting.number)) (fewer_in live) ∙ fewer live.inbox

  turned-in : (form : Form S) (setup : Setup) (now : ℕ) (turn : Turn) (done : Outcome) (host : Option (Host S))
      → numbers_of (live_of app (option_map {T = Host S} {U = Host S} (λ host. record host { sessions = change_first (is_live app.serial) (turned_live form setup.config now turn done) host.sessions }) host)) ≡ drop 1 (numbers_of (live_of app host))
  unfolding turned_live
  turned-in form setup now turn done None = refl
  turned-in form setup now turn done (Some host) =
      ap numbers_of (find-changed host.sessions (is_live app.serial) (turned_live form setup.config now turn done) (λ live. refl))
      ∙ turned-numbers (turned_live form setup.config now turn done) (λ live. refl) (live_in app.serial host)

  -- the first event is off
  pub turned-waits : (form : Form S) (setup : Setup) (now : ℕ) (turn : Turn) (done : Outcome) (net : Net S)
      → waiting_in app (change_host app.host (λ host. record host { sessions = change_first (is_live app.serial) (turned_live form setup.config now turn done) host.sessions }) net) ≡ drop 1 (waiting_in app net)
  turned-waits form setup now turn done net =
      let after : Net S = change_host app.host (λ host. record host { sessions = change_first (is_live app.serial) (turned_live form setup.config now turn done) host.sessions }) net in
      waiting-at app after _ (changed-at _ net) ∙ (turned-in form setup now turn done (host_at app.host net) ∙ ap (drop 1) (sym (waiting-at app net _ refl)))

  known-in : (change : Host S → Host S) (host : Option (Host S)) → ((host : Host S) → (change host).last ≡ host.last) → KnownIn app.serial host → KnownIn app.serial (option_map change host)
  unfolding KnownIn
  known-in change None same k = tt
  known-in change (Some host) same k = rw (same host) k

  pub changed-known : (change : Host S → Host S) (net : Net S) → ((host : Host S) → (change host).last ≡ host.last) → KnownIn app.serial (host_at app.host net)
      → KnownIn app.serial (host_at app.host (change_host app.host change net))
  changed-known change net same k = rw (changed-at change net) (known-in change (host_at app.host net) same k)

  -- ## The end

  without-in : (host : Option (Host S)) → IsNumberedAt host → KnownIn app.serial host
      → GoneIn app.serial (option_map {T = Host S} {U = Host S} (λ host. without_ended (record host { sessions = remove_first (is_live app.serial) host.sessions })) host)
  unfolding GoneIn KnownIn without_ended
  without-in None numbered k = tt
  without-in (Some host) numbered k = (k, without-found host.sessions 0 host.last app.serial numbered)

  -- the session is gone
  pub without-gone : (net : Net S) → AreNumbered net → KnownIn app.serial (host_at app.host net) → GoneIn app.serial (host_at app.host (without_live app net))
  unfolding without_live
  without-gone net numbered k = rw (changed-at _ net) (without-in (host_at app.host net) (host_at-numbered app.host net numbered) k)

  gone-of : (host : Option (Host S)) → GoneIn app.serial host → live_of app host ≡ None
  unfolding GoneIn
  gone-of None g = refl
  gone-of (Some host) g = g.1

  -- where it is gone it doesn't live, and nothing waits
  pub gone-dead : (net : Net S) → GoneIn app.serial (host_at app.host net) → live_at app net ≡ None
  gone-dead net g = gone-of (host_at app.host net) g

  pub gone-quiet : (net : Net S) → live_at app net ≡ None → waiting_in app net ≡ []
  unfolding waiting_in
  gone-quiet net dead = rw dead refl

  live-known-in : (host : Option (Host S)) (live : Live S) → IsNumberedAt host → live_of app host ≡ Some live → KnownIn app.serial host
  unfolding KnownIn
  live-known-in None live numbered found = tt
  live-known-in (Some host) live numbered found = found-known host.sessions 0 host.last app.serial live numbered found

  -- a session that lives is known
  pub live-known : (net : Net S) (live : Live S) → AreNumbered net → live_at app net ≡ Some live → KnownIn app.serial (host_at app.host net)
  live-known net live numbered found = live-known-in (host_at app.host net) live (host_at-numbered app.host net numbered) found

  dead-gone-in : (host : Option (Host S)) → KnownIn app.serial host → live_of app host ≡ None → GoneIn app.serial host
  unfolding GoneIn KnownIn
  dead-gone-in None k dead = tt
  dead-gone-in (Some host) k dead = (k, dead)

  -- one that was known and doesn't live is gone
  pub dead-gone : (net : Net S) → KnownIn app.serial (host_at app.host net) → live_at app net ≡ None → GoneIn app.serial (host_at app.host net)
  dead-gone net k dead = dead-gone-in (host_at app.host net) k dead
