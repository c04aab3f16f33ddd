-- Hosts whose sessions have had their first events since a moment that is not after a given one: what a
-- host does at a moment that isn't after it keeps that.
use Rattle.std.proofs.Common.{◌≡◌, ◌≤◌, ℕ, zero, suc, ◌+◌, Bool, true, false, Option, None, Some, List, [], ◌∷◌, ◌++◌, subst, arith}
use Rattle.std.specs.Prelude.{cond, map, slice_get}
use Rattle.std.specs.List.{find}
use Rattle.sc_value.specs.Lists.{change_first, remove_first, change_nth}
use Rattle.sc_value.specs.declared.ids.AppId.{AppId}
use Rattle.sc_value.specs.declared.message.Request.{Request}
use Rattle.sc_terms.specs.declared.settings.Config.{Config}
use Rattle.sc_state.specs.declared.host.Client.{Client}
use Rattle.sc_state.specs.Hosts.{Host}
use Rattle.sc_state.specs.declared.host.Live.{Live}
use Rattle.sc_state.specs.declared.host.Server.{Server}
use Rattle.sc_state.specs.declared.host.Taken.{Taken}
use Rattle.sc_state.specs.declared.net.Note.{Note}
use Rattle.sc_state.specs.declared.orders.Outcome.{Outcome}
use Rattle.sc_state.specs.declared.queue.Queued.{Queued}
use Rattle.sc_model.specs.Timers.{DueEntry}
use Rattle.sc_hosts.specs.Inboxes.{is_live, with_event, without_answer as quiet, queue}
use Rattle.sc_hosts.specs.Runs.{quiet_host}
use Rattle.sc_hosts.specs.Sessions.{Form, Turn}
use Rattle.sc_hosts.specs.Steps.{live_of, turned_live}
use Rattle.sc_hosts.specs.Taking.{begun_live}
use Rattle.sc_hosts.specs.Ticks.{mark_fired}
use Rattle.sc_walks.specs.Walks.{HostLaws, TurnLaws}

-- the first events of these sessions have been first since a moment that is not after this one
unfoldable pub LivesPast : {S : Type 0} → ℕ → List (Live S) → Type 0
LivesPast most [] = Unit {0}
LivesPast most (live ∷ later) = (live.since ≤ most) × LivesPast most later

unfoldable pub HostPast : {S : Type 0} → ℕ → Host S → Type 0
HostPast most host = LivesPast most host.sessions

unfoldable pub HostsPast : {S : Type 0} → ℕ → List (Host S) → Type 0
HostsPast most [] = Unit {0}
HostsPast most (host ∷ later) = HostPast most host × HostsPast most later

-- what is found, where something is
unfoldable pub FoundLive : {S : Type 0} → ℕ → Option (Live S) → Type 0
FoundLive most None = Unit {0}
FoundLive most (Some live) = live.since ≤ most

unfoldable pub FoundHost : {S : Type 0} → ℕ → Option (Host S) → Type 0
FoundHost most None = Unit {0}
FoundHost most (Some host) = HostPast most host

-- ## A later moment

lives-later : {S : Type 0} (lives : List (Live S)) (most more : ℕ) → most ≤ more → LivesPast most lives → LivesPast more lives
unfolding LivesPast
lives-later [] most more le past = tt
lives-later (live ∷ later) most more le past = (omega (arith, le, past.0), lives-later later most more le past.1)

pub hosts-later : {S : Type 0} (hosts : List (Host S)) (most more : ℕ) → most ≤ more → HostsPast most hosts → HostsPast more hosts
unfolding HostsPast HostPast
hosts-later [] most more le past = tt
hosts-later (host ∷ later) most more le past = (lives-later host.sessions most more le past.0, hosts-later later most more le past.1)

-- hosts without sessions
pub quiet-past : (S : Type 0) {A : Type 0} (apps : List A) (most : ℕ) → HostsPast {S = S} most (map (λ app. quiet_host) apps)
unfolding HostsPast HostPast LivesPast quiet_host
quiet-past S [] most = tt
quiet-past S (app ∷ later) most = (tt, quiet-past S later most)

-- ## Sessions in a list

since-if : (most : ℕ) (b : Bool) (x y : ℕ) → x ≤ most → y ≤ most → cond b x y ≤ most
since-if most true x y p q = p
since-if most false x y p q = q

module _ {S : Type 0} (most : ℕ) where
  lives-if : (b : Bool) (x y : List (Live S)) → LivesPast most x → LivesPast most y → LivesPast most (cond b x y)
  lives-if true x y p q = p
  lives-if false x y p q = q

  change_first-past : (lives : List (Live S)) (test : Live S → Bool) (change : Live S → Live S) → ((live : Live S) → live.since ≤ most → (change live).since ≤ most)
      → LivesPast most lives → LivesPast most (change_first test change lives)
  unfolding LivesPast change_first
  change_first-past [] test change keeps past = tt
  change_first-past (live ∷ later) test change keeps past =
      lives-if (test live) (change live ∷ later) (live ∷ change_first test change later) (keeps live past.0, past.1) (past.0, change_first-past later test change keeps past.1)

  remove_first-past : (lives : List (Live S)) (test : Live S → Bool) → LivesPast most lives → LivesPast most (remove_first test lives)
  unfolding LivesPast remove_first
  remove_first-past [] test past = tt
  remove_first-past (live ∷ later) test past = lives-if (test live) later (live ∷ remove_first test later) past.1 (past.0, remove_first-past later test past.1)

  append-past : (lives : List (Live S)) (live : Live S) → LivesPast most lives → live.since ≤ most → LivesPast most (lives ++ live ∷ [])
  unfolding LivesPast
  append-past [] live past one = (one, tt)
  append-past (first ∷ later) live past one = (past.0, append-past later live past.1 one)

  found-if : (b : Bool) (x y : Option (Live S)) → FoundLive most x → FoundLive most y → FoundLive most (cond b x y)
  found-if true x y p q = p
  found-if false x y p q = q

  find-past : (lives : List (Live S)) (test : Live S → Bool) → LivesPast most lives → FoundLive most (find test lives)
  unfolding LivesPast FoundLive
  find-past [] test past = tt
  find-past (live ∷ later) test past = found-if (test live) (Some live) (find test later) past.0 (find-past later test past.1)

  -- ## Hosts in a list

  pub change_nth-past : (hosts : List (Host S)) (place : ℕ) (change : Host S → Host S) → ((host : Host S) → HostPast most host → HostPast most (change host))
      → HostsPast most hosts → HostsPast most (change_nth place change hosts)
  unfolding HostsPast change_nth
  change_nth-past [] place change keeps past = tt
  change_nth-past (host ∷ later) zero change keeps past = (keeps host past.0, past.1)
  change_nth-past (host ∷ later) (suc place) change keeps past = (past.0, change_nth-past later place change keeps past.1)

  pub nth-past : (hosts : List (Host S)) (place : ℕ) → HostsPast most hosts → FoundHost most (slice_get hosts place)
  unfolding HostsPast FoundHost
  nth-past [] place past = tt
  nth-past (host ∷ later) zero past = past.0
  nth-past (host ∷ later) (suc place) past = nth-past later place past.1

  -- the live session that is found, where one is
  pub live_of-past : (host : Option (Host S)) (app : AppId) → FoundHost most host → FoundLive most (live_of app host)
  unfolding FoundHost HostPast FoundLive
  live_of-past None app found = tt
  live_of-past (Some host) app found = find-past host.sessions (is_live app.serial) found

  pub found-past : (found : Option (Live S)) (live : Live S) → found ≡ Some live → FoundLive most found → live.since ≤ most
  unfolding FoundLive
  found-past found live e past = subst (FoundLive most) e past

  -- ## Events of sessions

  taken-if : (b : Bool) (x y : Taken S) → HostPast most x.host → HostPast most y.host → HostPast most (cond b x y).host
  taken-if true x y p q = p
  taken-if false x y p q = q

  with_event-past : (number now : ℕ) (event : Queued) → now ≤ most → (live : Live S) → live.since ≤ most → (with_event number now event live).since ≤ most
  unfolding with_event
  with_event-past number now event in_time live past = since-if most _ now live.since in_time past

  -- an event that is queued in time
  queue-past : (serial now : ℕ) (event : Queued) (count : ℕ) (host : Host S) → now ≤ most → HostPast most host → HostPast most (queue serial now event count host).host
  unfolding queue quiet HostPast
  queue-past serial now event count host in_time past =
      taken-if _ _ _ (change_first-past host.sessions (is_live serial) (with_event (count + 1) now event) (with_event-past (count + 1) now event in_time) past) past

  -- ## What a host does

  begun-past : (form : Form S) (config : Config) (epoch number now : ℕ) (noted : Note) (request : Request) (count : ℕ) (host : Host S) → now ≤ most → HostPast most host
      → HostPast most (record host { sessions = host.sessions ++ begun_live form config epoch (record { host = number; serial = host.last + 1 }) now noted request (count + 1) ∷ []; last = host.last + 1 })
  unfolding begun_live HostPast
  begun-past form config epoch number now noted request count host in_time past = append-past host.sessions _ past in_time

  fired-past : (entry : DueEntry) (host : Host S) → HostPast most host → HostPast most (mark_fired entry host)
  unfolding mark_fired HostPast
  fired-past entry host past = change_first-past host.sessions (is_live entry.app.serial) _ (λ live kept. kept) past

  turned-past : (form : Form S) (config : Config) (serial now : ℕ) (turn : Turn) (done : Outcome) (host : Host S) → now ≤ most → HostPast most host
      → HostPast most (record host { sessions = change_first (is_live serial) (turned_live form config now turn done) host.sessions })
  unfolding HostPast turned_live
  turned-past form config serial now turn done host in_time past = change_first-past host.sessions (is_live serial) (turned_live form config now turn done) (λ live kept. in_time) past

  without-past : (serial : ℕ) (host : Host S) → HostPast most host → HostPast most (record host { sessions = remove_first (is_live serial) host.sessions })
  unfolding HostPast
  without-past serial host past = remove_first-past host.sessions (is_live serial) past

  -- at a moment that isn't after it
  abbrev pub StaysPast : ℕ → ℕ → ℕ → Host S → ℕ → Host S → Type 0
  StaysPast number now count host later changed = now ≤ most → HostPast most host → HostPast most changed

  passes-past : (clients : List Client) (servers : List Server) (host : Host S) → HostPast most host → HostPast most (record host { clients = clients; servers = servers })
  unfolding HostPast
  passes-past clients servers host past = past

  pub past-hosts : (number now : ℕ) → HostLaws {S = S} (λ form. Unit {0}) number now (StaysPast number now)
  past-hosts number now = record {
    same = λ count host in_time past. past;
    after = λ c d e x y z p q in_time past. q in_time (p in_time past);
    passes = λ count host clients servers in_time past. passes-past clients servers host past;
    queues = λ serial event late count host in_time past. queue-past serial now event count host in_time past;
    begins = λ form good config epoch noted request count host in_time past. begun-past form config epoch number now noted request count host in_time past;
    marks = λ entry count host in_time past. fired-past entry host past;
  }

  pub past-turns : (number now : ℕ) → TurnLaws now (StaysPast number now)
  past-turns number now = record {
    turns = λ form config serial turn done count host in_time past. turned-past form config serial now turn done host in_time past;
    goes = λ serial count host in_time past. without-past serial host past;
  }
