-- Each request that a session proxies has the list that its turns told of it.
use Rattle.std.proofs.Common.{◌≡◌, ◌⊎◌, ℕ, ◌++◌, List, [], ◌∷◌, inl, inr, refl, sym, ap, subst, ◌∙◌}
use Rattle.sc_terms.specs.declared.settings.Config.{Config}
use Rattle.sc_state.specs.declared.proxy.Proxy.{Proxy}
use Rattle.sc_state.specs.declared.session.Session.{Session}
use Rattle.sc_hosts.specs.Histories.{History, session_after, session_of}
use Rattle.sc_hosts.specs.Legs.{first_known, fresh}
use Rattle.sc_hosts.specs.Sessions.{Turn}
use Rattle.sc_proxied.specs.ProxyLists.{IsHad, IsOfList, ProxyEvent, proxy_after}
use Rattle.sc_proxied.proofs.Happenings.{proxies-stand}
use Rattle.sc_proxied.proofs.Lists.{NumbersApart}
use Rattle.sc_lasting.specs.Lasting.{All}
use Rattle.sc_lasting.proofs.Parts.{all-map}
use Rattle.sc_proxying.specs.Proxying.{AreOfTurns, HasItsList, IsBegun, IsOfTurn, IsPassed, as_begun}
use Rattle.sc_proxying.proofs.Runs.{AreUpTo, IsRun, after-append, after-begun, had-first, had-run}
use Rattle.sc_proxying.proofs.Places.{AreSingle, grows-all, numbers_of}
use Rattle.sc_proxying.proofs.Rising.{all-numbered}
use Rattle.sc_proxying.proofs.Turns.{NewTurn, OldTurn, turn-tells}

-- its list, where branches are numbered up to this one
record IsListedAs (config : Config) (history : History) (turns : List Turn) (high : ℕ) (q first : Proxy) : Type 0 where
  events : List ProxyEvent
  told : AreOfTurns config history first turns events
  had : IsHad first events
  up : AreUpTo high events
  is : q ≡ proxy_after first events

abbrev IsListed : Config → History → List Turn → ℕ → Proxy → Type 0
IsListed config history turns high q = IsListedAs config history turns high q (as_begun q)

module _ (config : Config) (history : History) (turn : Turn) (earlier : List Turn) (high : ℕ) where
  abbrev before : Session
  before = session_after config history earlier

  -- one that was proxied before
  goes-on : (p q : Proxy) → OldTurn config turn before high p q → IsListed config history earlier before.view.counter p → IsListed config history (turn ∷ earlier) high q
  unfolding AreOfTurns
  goes-on p q old listed =
      let run : IsRun before.view.counter (proxy_after (as_begun p) listed.events) old.own high = subst (λ (r : Proxy). IsRun before.view.counter r old.own high) listed.is old.run in
      let had = had-run p before.view.counter high old.own listed.events listed.had listed.up run in
      subst (IsListedAs config history (turn ∷ earlier) high q) (sym (ap (λ (r : Proxy). as_begun r) old.is ∙ after-begun old.own p)) (record {
        events = old.own ++ listed.events;
        told = inr (inr (old.own, listed.events, refl, subst (λ (r : Proxy). IsOfTurn config before turn r old.own) listed.is old.told, listed.told));
        had = had.0;
        up = had.1;
        is = old.is ∙ ap (λ (r : Proxy). proxy_after r old.own) listed.is ∙ sym (after-append old.own listed.events (as_begun p));
      })

  -- one that began to be
  begins : (q : Proxy) → NewTurn config turn before high q → IsListed config history (turn ∷ earlier) high q
  unfolding AreOfTurns
  begins q new =
      let had = had-first q before.view.counter high new.own new.run in record {
        events = new.own;
        told = begins-told new.told;
        had = had.0;
        up = had.1;
        is = new.is;
      }
    where
      begins-told : IsBegun config before turn (as_begun q) new.own ⊎ IsPassed turn.waiting.event (as_begun q) new.own
          → IsBegun config before turn (as_begun q) new.own ⊎ (IsPassed turn.waiting.event (as_begun q) new.own
          ⊎ ((own : List ProxyEvent) × (other : List ProxyEvent) × (new.own ≡ own ++ other)
          × IsOfTurn config before turn (proxy_after (as_begun q) other) own × AreOfTurns config history (as_begun q) earlier other))
      begins-told (inl one) = inl one
      begins-told (inr passed) = inr (inl passed)

-- all of them, and each is of a number of its own
record AreListed (config : Config) (history : History) (turns : List Turn) : Type 0 where
  single : AreSingle (session_after config history turns).known.proxies
  all : All (IsListed config history turns (session_after config history turns).view.counter) (session_after config history turns).known.proxies

start-listed : (config : Config) (history : History) → AreListed config history []
unfolding session_after fresh first_known All numbers_of NumbersApart
start-listed config history = record { single = tt; all = tt }

all-listed : (config : Config) (history : History) (turns : List Turn) → AreListed config history turns
unfolding session_after
all-listed config history [] = start-listed config history
all-listed config history (turn ∷ earlier) =
    let before : Session = session_after config history earlier in
    let listed = all-listed config history earlier in
    let turned = turn-tells config turn before listed.single (all-numbered config history earlier) in
    let high : ℕ = (session_after config history (turn ∷ earlier)).view.counter in record {
      single = turned.single;
      all = grows-all (OldTurn config turn before high) (NewTurn config turn before high) (IsListed config history earlier before.view.counter) (IsListed config history (turn ∷ earlier) high)
          before.known.proxies (session_after config history (turn ∷ earlier)).known.proxies (goes-on config history turn earlier high) (begins config history turn earlier high) turned.grows listed.all;
    }

has-list : (config : Config) (history : History) (turns : List Turn) (high : ℕ) (q : Proxy) → IsListed config history turns high q → HasItsList config history turns q
has-list config history turns high q listed = record {
  events = listed.events;
  told = listed.told;
  had = listed.had;
  is = listed.is;
  of_list = subst (λ (p : Proxy). IsOfList (as_begun q) p listed.events) (sym listed.is) (proxies-stand q.req q.sess q.event q.request q.options listed.events listed.had);
}

-- in every history
pub lists-are-had : (config : Config) (history : History) → All (HasItsList config history history.turns) (session_of config history).known.proxies
unfolding session_of
lists-are-had config history =
    let high : ℕ = (session_after config history history.turns).view.counter in
    all-map (IsListed config history history.turns high) (HasItsList config history history.turns) (session_after config history history.turns).known.proxies
    (has-list config history history.turns high) (all-listed config history history.turns).all
