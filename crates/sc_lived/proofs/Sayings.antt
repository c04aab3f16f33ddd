-- What is said of live sessions: what they lived, and that they go on.
use Rattle.std.proofs.Common.{◌≡◌, ℕ, ◌++◌, Option, None, Some, List, [], ◌∷◌, refl, sym, ap, subst, ◌∙◌, append_assoc}
use Rattle.std.specs.Prelude.{option_map}
use Rattle.sc_value.specs.declared.ids.AppId.{AppId}
use Rattle.sc_value.specs.declared.message.Request.{Request}
use Rattle.sc_terms.specs.declared.steps.Step.{Step}
use Rattle.sc_parts.specs.declared.setup.Setup.{Setup}
use Rattle.sc_state.specs.declared.host.Live.{Live}
use Rattle.sc_state.specs.declared.queue.Waiting.{Waiting}
use Rattle.sc_state.specs.declared.session.Session.{Session}
use Rattle.sc_hosts.specs.Histories.{History, as_history, as_session, begun_history, session_of, turned_history}
use Rattle.sc_hosts.specs.Runs.{IsLawful, net_from as chained, start}
use Rattle.sc_hosts.specs.Sessions.{Turn}
use Rattle.sc_hosts.specs.Steps.{live_at}
use Rattle.sc_forms.specs.Simulations.{map_live}
use Rattle.sc_forms.proofs.HistoryLaws.{lawful_back-histories, live_at-histories}
use Rattle.sc_walks.specs.Walks.{IsLate}
use Rattle.sc_lived.specs.Lived.{AreLate, AreOfOne, AreTaken, Begins, HasLived, HasMore, IsLived, IsMoreOf, Told, turns_in as told, told_of, told_turns, turned_events}
use Rattle.sc_lived.proofs.LivedHosts.{Saying}
use Rattle.sc_lived.proofs.Lives.{said, said-since, start-numbered}

-- ## What a session lived

late-more : (ws : List Waiting) (w : Waiting) → AreLate ws → IsLate w.event → AreLate (ws ++ w ∷ [])
unfolding AreLate
late-more [] w all late = (late, tt)
late-more (v ∷ ws) w all late = (all.0, late-more ws w all.1 late)

one-more : (began : Request) (ws : List Waiting) (w : Waiting) → AreOfOne began ws → IsLate w.event
    → AreOfOne began (ws ++ w ∷ [])
unfolding AreOfOne
one-more began [] w one late = absurd one
one-more began (v ∷ ws) w one late = (one.0, late-more ws w one.1 late)

-- only the turns below matter
pub same-taken : (setup : Setup) (app : AppId) (history : History) (turns ts : List Turn) → AreTaken setup app history ts
    → AreTaken setup app (record history { turns = turns }) ts
unfolding AreTaken
same-taken setup app history turns [] all = tt
same-taken setup app history turns (turn ∷ ts) all = (all.0, same-taken setup app history turns ts all.1)

lived-begins : (setup : Setup) (app : AppId) (given : List Told) (history : History) (first : Waiting) → given ≡ []
    → history.app ≡ app → history.turns ≡ [] → Begins history.request first.event
    → IsLived setup app given history (first ∷ [])
unfolding told_turns turned_events AreTaken AreOfOne AreLate
lived-begins setup app given history first none app-is no-turns begins = record {
  app_is = app-is;
  turns_are = rw no-turns (sym none);
  taken = rw no-turns tt;
  events_are = rw no-turns (begins, tt);
}

pub lived-law : (setup : Setup) (app : AppId) → Saying setup app (IsLived setup app) (λ given. given ≡ [])
unfolding begun_history turned_history told_turns turned_events AreTaken Begins
lived-law setup app = record {
  queues = λ given history inbox waiting late lived. record {
    app_is = lived.app_is;
    turns_are = lived.turns_are;
    taken = lived.taken;
    events_are = subst (AreOfOne history.request) (append_assoc (turned_events history.turns) inbox (waiting ∷ []))
        (one-more history.request (turned_events history.turns ++ inbox) waiting lived.events_are late);
  };
  begins = λ given epoch began noted request number none. lived-begins setup app given _ _ none refl refl refl;
  turns = λ given history turn rest may lived. record {
    app_is = lived.app_is;
    turns_are = ap (λ (all : List Told). all ++ told_of turn ∷ []) lived.turns_are;
    taken = (may, same-taken setup app history (turn ∷ history.turns) history.turns lived.taken);
    events_are = rw (append_assoc (turned_events history.turns) (turn.waiting ∷ []) rest) lived.events_are;
  };
}

pub has-lived : (setup : Setup) (epoch began : ℕ) (journal : List Step) (app : AppId) (live : Live History)
    → IsLawful (as_history setup.config) setup epoch began journal
    → live_at app (chained (as_history setup.config) setup epoch began journal) ≡ Some live
    → IsLived setup app (told app journal) live.session live.inbox
has-lived setup epoch began journal app live lawful is = said (lived-law setup app) refl epoch began journal live lawful is

-- ## It goes on

more-law : (setup : Setup) (app : AppId) (first : History)
    → Saying setup app (λ given history inbox. IsMoreOf first given history) (λ given. ⊥)
unfolding turned_history told_turns
more-law setup app first = record {
  queues = λ given history inbox waiting late more. more;
  begins = λ given epoch began noted request number none. absurd none;
  turns = λ given history turn rest may more. record {
    turns = turn ∷ more.turns;
    is = ap (turned_history turn) more.is;
    turns_are = ap (λ (all : List Told). all ++ told_of turn ∷ []) more.turns_are;
  };
}

none-more : (first : History) → IsMoreOf first [] first
unfolding told_turns
none-more first = record { turns = []; is = refl; turns_are = refl }

pub goes-on : (setup : Setup) (epoch began : ℕ) (before later : List Step) (app : AppId) (first live : Live History)
    → IsLawful (as_history setup.config) setup epoch began (before ++ later)
    → live_at app (chained (as_history setup.config) setup epoch began before) ≡ Some first
    → live_at app (chained (as_history setup.config) setup epoch began (before ++ later)) ≡ Some live
    → IsMoreOf first.session (told app later) live.session
unfolding IsLawful chained
goes-on setup epoch began before later app first live lawful was is =
    said-since (more-law setup app first.session) before later (start setup epoch began) first live (start-numbered (more-law setup app first.session) epoch began) lawful was (none-more first.session) is

-- ## Where sessions are kept as what they are

pub record Read (setup : Setup) (found : Option (Live History)) (live : Live Session) : Type 0 where
  pub old : Live History
  pub found_is : found ≡ Some old
  pub session_is : live.session ≡ session_of setup.config old.session
  pub inbox_is : live.inbox ≡ old.inbox

read-of : (setup : Setup) (found : Option (Live History)) (live : Live Session)
    → option_map (map_live (session_of setup.config)) found ≡ Some live → Read setup found live
unfolding map_live
read-of setup None live is = cc
read-of setup (Some old) live is = record {
  old = old;
  found_is = refl;
  session_is = ap (λ (l : Live Session). l.session) (same live (map_live (session_of setup.config) old) (sym is));
  inbox_is = ap (λ (l : Live Session). l.inbox) (same live (map_live (session_of setup.config) old) (sym is));
}
  where
    same : (a b : Live Session) → Some a ≡ Some b → a ≡ b
    same a b is = cc

pub read-at : (setup : Setup) (epoch began : ℕ) (journal : List Step) (app : AppId) (live : Live Session)
    → live_at app (chained as_session setup epoch began journal) ≡ Some live
    → Read setup (live_at app (chained (as_history setup.config) setup epoch began journal)) live
read-at setup epoch began journal app live is =
    read-of setup (live_at app (chained (as_history setup.config) setup epoch began journal)) live (sym (live_at-histories setup epoch began app journal) ∙ is)

pub session-lived : (setup : Setup) (epoch began : ℕ) (journal : List Step) (app : AppId) (live : Live Session)
    → IsLawful as_session setup epoch began journal
    → live_at app (chained as_session setup epoch began journal) ≡ Some live
    → HasLived setup app (told app journal) live.session live.inbox
session-lived setup epoch began journal app live lawful is =
    let read = read-at setup epoch began journal app live is in record {
      history = read.old.session;
      is = read.session_is;
      lived = subst (IsLived setup app (told app journal) read.old.session) (sym read.inbox_is) (has-lived setup epoch began journal app read.old (lawful_back-histories setup epoch began journal lawful) read.found_is);
    }

pub session-goes-on : (setup : Setup) (epoch began : ℕ) (before later : List Step) (app : AppId) (first live : Live Session)
    → IsLawful as_session setup epoch began (before ++ later)
    → live_at app (chained as_session setup epoch began before) ≡ Some first
    → live_at app (chained as_session setup epoch began (before ++ later)) ≡ Some live
    → HasMore setup first.session (told app later) live.session
session-goes-on setup epoch began before later app first live lawful was is =
    let read = read-at setup epoch began before app first was in
    let then = read-at setup epoch began (before ++ later) app live is in record {
      before = read.old.session;
      history = then.old.session;
      was = read.session_is;
      is = then.session_is;
      more = goes-on setup epoch began before later app read.old then.old (lawful_back-histories setup epoch began (before ++ later) lawful) read.found_is then.found_is;
    }
