-- The acts of an INVITE that the turns of a session make are a chain of which each begins with what the one before left.
use Rattle.std.proofs.Common.{◌≡◌, inl, inr, ℕ, ◌++◌, List, [], ◌∷◌, refl, sym, ap, subst, ◌∙◌}
use Rattle.sc_terms.specs.declared.settings.Config.{Config}
use Rattle.sc_terms.specs.declared.views.View.{View}
use Rattle.sc_state.specs.declared.session.Session.{Session}
use Rattle.sc_state.specs.declared.working.Play.{Play}
use Rattle.sc_hosts.specs.Effects.{after_calls, first_play as begun}
use Rattle.sc_hosts.specs.Histories.{History, after_turn, session_after}
use Rattle.sc_hosts.specs.Legs.{first_view, fresh}
use Rattle.sc_hosts.specs.Scripting.{attribute}
use Rattle.sc_hosts.specs.Sessions.{Turn}
use Rattle.sc_promised.specs.Reliable.{Act, Fresh, Happened, IsOf, IsSound, IsTrace, Remembered, after, play_after, remembered_at, remembered_of, script_of}
use Rattle.sc_promised.proofs.Endings.{same-rel}
use Rattle.sc_remembered.specs.Acts.{AreActs, IsActOf, LeavesIt, shown_in}
use Rattle.sc_remembered.proofs.Ended.{outcome-kept}
use Rattle.sc_remembered.proofs.Shown.{shown-kept}

-- what is remembered after these acts
last_of_all : ℕ → Remembered → List Happened → Remembered
last_of_all n rel [] = rel
last_of_all n rel (h ∷ acts) = last_of_all n (remembered_at (after h).view n) acts

trace-more : (n : ℕ) (rel : Remembered) (acts : List Happened) (h : Happened) → IsTrace n rel acts → IsOf n h.act → IsSound h.play h.act
    → remembered_at h.play.view n ≡ last_of_all n rel acts → IsTrace n rel (acts ++ h ∷ [])
unfolding IsTrace last_of_all
trace-more n rel [] h trace of sound is = (of, sound, is, tt)
trace-more n rel (a ∷ acts) h trace of sound is = (trace.0, trace.1, trace.2, trace-more n (remembered_at (after a).view n) acts h trace.3 of sound is)

last-more : (n : ℕ) (rel : Remembered) (acts : List Happened) (h : Happened) → last_of_all n rel (acts ++ h ∷ []) ≡ remembered_at (after h).view n
unfolding last_of_all
last-more n rel [] h = refl
last-more n rel (a ∷ acts) h = last-more n (remembered_at (after a).view n) acts h

-- ## From turn to turn

pub shown-same : (config : Config) (session : Session) (turn : Turn) (n : ℕ) → remembered_at (shown_in config session turn) n ≡ remembered_at session.view n
shown-same config session turn n = same-rel (shown_in config session turn) session.view n (shown-kept config turn.ringing session turn.waiting turn.now)

pub left-same : (config : Config) (session : Session) (turn : Turn) (n : ℕ)
    → remembered_at (after_turn config turn session).view n ≡ remembered_at (after_calls (shown_in config session turn) turn.calls).view n
unfolding after_turn
left-same config session turn n =
    same-rel (after_turn config turn session).view (after_calls (shown_in config session turn) turn.calls).view n (outcome-kept config turn.ringing session turn.waiting turn.now turn.calls turn.end)

-- the acts so far, and what is remembered after them
record Traced (config : Config) (history : History) (n : ℕ) (turns : List Turn) (acts : List Happened) : Type 0 where
  trace : IsTrace n Fresh acts
  last : remembered_at (session_after config history turns).view n ≡ last_of_all n Fresh acts

first-traced : (config : Config) (history : History) (n : ℕ) → Traced config history n [] []
unfolding session_after fresh first_view attribute remembered_of IsTrace last_of_all
first-traced config history n = record { trace = tt; last = refl }

pub begun-view : (view : View) → (begun view).view ≡ view
unfolding begun
begun-view view = refl

after-act : (view : View) (act : Act) → after (record { play = begun view; act = act }) ≡ play_after (begun view) (script_of view act)
unfolding begun
after-act view act = refl

module _ (config : Config) (history : History) (n : ℕ) (turn : Turn) (earlier : List Turn) where
  abbrev before : Session
  before = session_after config history earlier

  abbrev shown : View
  shown = shown_in config before turn

  leaves : (acts : List Happened) → LeavesIt n shown turn.calls → Traced config history n earlier acts → Traced config history n (turn ∷ earlier) acts
  unfolding session_after LeavesIt
  leaves acts same traced = record { trace = traced.trace; last = left-same config before turn n ∙ same ∙ shown-same config before turn n ∙ traced.last }

  makes : (acts : List Happened) (act : Act) → IsActOf n shown turn.calls act → Traced config history n earlier acts
      → Traced config history n (turn ∷ earlier) (acts ++ record { play = begun shown; act = act } ∷ [])
  unfolding session_after
  makes acts act is traced =
      let h : Happened = record { play = begun shown; act = act } in record {
        trace = trace-more n Fresh acts h traced.trace is.of is.sound (subst (λ (view : View). remembered_at view n ≡ last_of_all n Fresh acts) (sym (begun-view shown)) (shown-same config before turn n ∙ traced.last));
        last = left-same config before turn n ∙ is.comes_to
            ∙ sym (last-more n Fresh acts h ∙ ap (λ (play : Play). remembered_at play.view n) (after-act shown act));
      }

all-traced : (config : Config) (history : History) (n : ℕ) (turns : List Turn) (acts : List Happened) → AreActs config history n turns acts → Traced config history n turns acts
unfolding AreActs
all-traced config history n [] acts is = subst (Traced config history n []) (sym is) (first-traced config history n)
all-traced config history n (turn ∷ earlier) acts (inl one) = leaves config history n turn earlier acts one.0 (all-traced config history n earlier acts one.1)
all-traced config history n (turn ∷ earlier) acts (inr one) =
    subst (Traced config history n (turn ∷ earlier)) (sym one.2) (makes config history n turn earlier one.0 one.1 one.3 (all-traced config history n earlier one.0 one.4))

pub acts-are-traces : (config : Config) (history : History) (n : ℕ) (acts : List Happened) → AreActs config history n history.turns acts → IsTrace n Fresh acts
acts-are-traces config history n acts are = (all-traced config history n history.turns acts are).trace
