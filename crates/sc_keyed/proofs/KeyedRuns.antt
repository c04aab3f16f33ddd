-- After any journal each transaction has a key of its own.
use Rattle.std.proofs.Common.{◌≡◌, ◌≤◌, ◌<◌, ℕ, zero, suc, false, Some, List, [], ◌∷◌, refl, sym, ap, subst, arith}
use Rattle.std.specs.Prelude.{◌==◌, map, slice_get}
use Rattle.std.specs.List.{list_any}
use Rattle.std.proofs.lemmas.Bool.Decides.{nat_tests}
use Rattle.sc_terms.specs.declared.settings.AppEntry.{AppEntry}
use Rattle.sc_terms.specs.declared.settings.Config.{Config}
use Rattle.sc_terms.specs.declared.steps.Step.{Step}
use Rattle.sc_terms.specs.declared.steps.Step.TheVariants as steps
use Rattle.sc_parts.specs.declared.setup.Setup.{Setup}
use Rattle.sc_state.specs.Hosts.{Host}
use Rattle.sc_state.specs.Standing.{is_server}
use Rattle.sc_state.specs.declared.host.Server.{Server}
use Rattle.sc_state.specs.declared.net.Net.{Net}
use Rattle.sc_hosts.specs.Histories.{History, after_turn, as_history, as_session, session_after, session_of, turned_history}
use Rattle.sc_hosts.specs.Runs.{after_step, net_from as chained, chained_from, quiet_host, start}
use Rattle.sc_hosts.specs.Sessions.{Form, Turn}
use Rattle.sc_hosts.specs.Steps.{before_delivery as stepped}
use Rattle.sc_lives.specs.Numbers.{IsRising}
use Rattle.sc_once.specs.Growing.{IsBetween}
use Rattle.sc_keyed.specs.Keyed.{AreApart, HaveOwnKeys, IsIn, is_same_server}
use Rattle.sc_keyed.proofs.KeyedHosts.{IsKeyed}
use Rattle.sc_keyed.proofs.KeyedNets.{AllKeyed, delivered-keyed}
use Rattle.sc_keyed.proofs.KeyedSteps.{arrived-keyed, bad_by-keyed, lost-keyed, ticked-keyed}
use Rattle.sc_keyed.proofs.KeyedTurns.{NoTurn, turns-keyed, withdrawn-keyed}

-- what a form reads after a turn is what the turn makes of what it read
abbrev Turns : {S : Type 0} → Form S → Config → Type 0
Turns {S = S} form config = (turn : Turn) (session : S) → form.read (form.turned config turn session) ≡ after_turn config turn (form.read session)

session-turns : (config : Config) → Turns as_session config
unfolding as_session
session-turns config turn session = refl

-- its last turn doesn't matter to what it was before
same-life : (config : Config) (history : History) (turn : Turn) (turns : List Turn)
    → session_after config (turned_history turn history) turns ≡ session_after config history turns
unfolding session_after turned_history
same-life config history turn [] = refl
same-life config history turn (t ∷ ts) = ap (after_turn config t) (same-life config history turn ts)

history-turns : (config : Config) → Turns (as_history config) config
unfolding as_history session_of session_after turned_history
history-turns config turn history = ap (after_turn config turn) (same-life config history turn history.turns)

module _ {S : Type 0} (form : Form S) (setup : Setup) (turns : Turns form setup.config) where
  stepped-keyed : (step : Step) (net : Net S) → AllKeyed form NoTurn 0 0 net → AllKeyed form NoTurn 0 0 (stepped form setup step net)
  unfolding stepped
  stepped-keyed (steps.In from message) net keyed = arrived-keyed form NoTurn 0 0 setup from message net keyed
  stepped-keyed (steps.Bad from bad) net keyed = bad_by-keyed form NoTurn 0 0 setup.config from bad.heads net keyed
  stepped-keyed (steps.Lost place) net keyed = lost-keyed form NoTurn 0 0 setup.config place net keyed
  stepped-keyed (steps.Tick now) net keyed = ticked-keyed form NoTurn 0 0 setup.config now net keyed
  stepped-keyed (steps.Turn end app event now made) net keyed = turns-keyed form setup app _ now made end net refl turns keyed
  stepped-keyed (steps.Withdraw app) net keyed = withdrawn-keyed form setup app _ net keyed

  after_step-keyed : (net : Net S) (step : Step) → AllKeyed form NoTurn 0 0 net → AllKeyed form NoTurn 0 0 (after_step form setup net step)
  unfolding after_step
  after_step-keyed net step keyed = delivered-keyed form NoTurn 0 0 setup _ (stepped-keyed step (record net { sent = [] }) keyed)

  chained_from-keyed : (journal : List Step) (net : Net S) → AllKeyed form NoTurn 0 0 net → AllKeyed form NoTurn 0 0 (chained_from form setup net journal)
  unfolding chained_from
  chained_from-keyed [] net keyed = keyed
  chained_from-keyed (step ∷ later) net keyed = chained_from-keyed later (after_step form setup net step) (after_step-keyed net step keyed)

  -- ## The start

  quiet-at : (apps : List AppEntry) (number : ℕ) (host : Host S) → slice_get (map (λ app. quiet_host {S = S}) apps) number ≡ Some host → host ≡ quiet_host
  quiet-at [] number host is = cc
  quiet-at (app ∷ apps) zero host is = cc
  quiet-at (app ∷ apps) (suc number) host is = quiet-at apps number host is

  quiet-keyed : (number : ℕ) → IsKeyed form NoTurn 0 0 number 0 quiet_host
  unfolding quiet_host NoTurn IsIn AreApart IsBetween IsRising
  quiet-keyed number = record {
    clients = record {
      here = λ client within. absurd within;
      given = λ client within. absurd within;
      drawn = λ client within. absurd within;
      below = λ client within own. absurd own;
      apart = tt;
      cancelled = λ c d in-c in-d app branch kind other. absurd in-c;
    };
    servers = record { here = λ server within. absurd within; given = λ server within. absurd within; events = omega arith };
    numbered = omega arith;
    began = λ app own here. absurd own;
    able = λ app own here. absurd own;
  }

  start-keyed : (epoch began : ℕ) → AllKeyed form NoTurn 0 0 (start setup epoch began)
  unfolding start
  start-keyed epoch began = λ number host is. subst (IsKeyed form NoTurn 0 0 number 0) (sym (quiet-at setup.config.app number host is)) (quiet-keyed number)

  -- ## Keys

  above-none : (servers : List Server) (low high event : ℕ) → event ≤ low → IsBetween (map (λ (s : Server). s.event) servers) low high
      → list_any (is_server event) servers ≡ false
  unfolding IsBetween
  above-none [] low high event under between = refl
  above-none (s ∷ servers) low high event under between =
      rw (later event low s.event under between.0) (above-none servers s.event high event (through event low s.event under between.0) between.1)
    where
      later : (a b c : ℕ) → a ≤ b → b < c → (c == a) ≡ false
      later a b c p q = grind (arith, nat_tests, p, q)

      through : (a b c : ℕ) → a ≤ b → b < c → a ≤ c
      through a b c p q = omega (arith, p, q)

  events-apart : (servers : List Server) (low high : ℕ) → IsBetween (map (λ (s : Server). s.event) servers) low high → AreApart is_same_server servers
  unfolding IsBetween AreApart
  events-apart [] low high between = tt
  events-apart (s ∷ servers) low high between = (above-none servers s.event high s.event (same s.event) between.1, events-apart servers s.event high between.1)
    where
      same : (n : ℕ) → n ≤ n
      same n = omega arith

  own-keys : (net : Net S) → AllKeyed form NoTurn 0 0 net → HaveOwnKeys net
  unfolding HaveOwnKeys
  own-keys net keyed = λ number host is. let k = keyed number host is in record {
    clients_here = k.clients.here;
    servers_here = k.servers.here;
    clients_apart = k.clients.apart;
    servers_apart = events-apart host.servers 0 net.count k.servers.events;
  }

  chained-keys : (epoch began : ℕ) (journal : List Step) → HaveOwnKeys (chained form setup epoch began journal)
  unfolding chained
  chained-keys epoch began journal = own-keys (chained_from form setup (start setup epoch began) journal) (chained_from-keyed journal (start setup epoch began) (start-keyed epoch began))

-- what stands between two steps
pub session-keyed : (setup : Setup) (epoch began : ℕ) (journal : List Step) → AllKeyed as_session NoTurn 0 0 (chained as_session setup epoch began journal)
unfolding chained
session-keyed setup epoch began journal =
    chained_from-keyed as_session setup (session-turns setup.config) journal (start setup epoch began) (start-keyed as_session setup (session-turns setup.config) epoch began)

-- for each form in which sessions are kept
pub session-keys : (setup : Setup) (epoch began : ℕ) (journal : List Step) → HaveOwnKeys (chained as_session setup epoch began journal)
session-keys setup epoch began journal = chained-keys as_session setup (session-turns setup.config) epoch began journal

pub history-keys : (setup : Setup) (epoch began : ℕ) (journal : List Step) → HaveOwnKeys (chained (as_history setup.config) setup epoch began journal)
history-keys setup epoch began journal = chained-keys (as_history setup.config) setup (history-turns setup.config) epoch began journal
