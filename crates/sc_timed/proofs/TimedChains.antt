-- The acts of a SipSession over a life are a chain of which each begins with what the one before left.
use Rattle.std.proofs.Common.{◌≡◌, ◌<◌, ◌⊎◌, inl, inr, ℕ, ◌++◌, Bool, true, false, Option, None, Some, List, [], ◌∷◌, refl, sym, ap, subst, ◌∙◌}
use Rattle.std.specs.Prelude.{◌==◌, ◌^◌}
use Rattle.sc_value.specs.declared.ids.SessId.{SessId}
use Rattle.sc_tokens.specs.Bytes.{Bytes}
use Rattle.sc_terms.specs.declared.calls.CallRecord.{CallRecord}
use Rattle.sc_terms.specs.declared.events.Event.{Event}
use Rattle.sc_terms.specs.declared.settings.Config.{Config}
use Rattle.sc_terms.specs.declared.views.View.{View}
use Rattle.sc_state.specs.declared.session.Session.{Session}
use Rattle.sc_state.specs.declared.working.Play.{Play}
use Rattle.sc_hosts.specs.Effects.{after_calls, first_play as begun}
use Rattle.sc_hosts.specs.Histories.{History, after_turn, session_after}
use Rattle.sc_hosts.specs.Legs.{first_view, fresh}
use Rattle.sc_hosts.specs.Scripting.{Script, attribute, calls_of_script as played}
use Rattle.sc_hosts.specs.SessionTimers.{timed_script}
use Rattle.sc_hosts.specs.Sessions.{Turn}
use Rattle.sc_lasting.proofs.Began.{same-number}
use Rattle.sc_promised.specs.Reliable.{play_after}
use Rattle.sc_remembered.specs.Acts.{shown_in}
use Rattle.sc_remembered.specs.Played.{ArePlayed, PlaysScript, event_in}
use Rattle.sc_remembered.proofs.Ended.{outcome-kept}
use Rattle.sc_remembered.proofs.EarlyTurns.{played-is}
use Rattle.sc_remembered.proofs.Shown.{shown-kept}
use Rattle.sc_remembered.proofs.Chains.{begun-view}
use Rattle.sc_timed.specs.TimedActs.{IsChain, IsOneAct, TimedAct, TimedHappened, act_of, after, calls_of, side_of, timer_at}
use Rattle.sc_timed.specs.TimedLives.{AreActs, HasActs, HaveRoom, IsActOf, LeavesTimer}
use Rattle.sc_timed.proofs.OtherTimers.{acts-leave, none-leave}
use Rattle.sc_timed.proofs.TimedTurns.{timed-acts}

-- ## Chains

-- what is remembered after these acts
last_of_all : ℕ → Option Bytes → List TimedHappened → Option Bytes
last_of_all n text [] = text
last_of_all n text (h ∷ acts) = last_of_all n (timer_at (after h).view n) acts

chain-more : (n : ℕ) (text : Option Bytes) (acts : List TimedHappened) (h : TimedHappened) → IsChain n text acts → side_of h.play.view h.act ≡ Some (record { 0 = n })
    → timer_at h.play.view n ≡ last_of_all n text acts → IsChain n text (acts ++ h ∷ [])
unfolding IsChain last_of_all
chain-more n text [] h chain of is = (of, is, tt)
chain-more n text (a ∷ acts) h chain of is = (chain.0, chain.1, chain-more n (timer_at (after a).view n) acts h chain.2 of is)

last-more : (n : ℕ) (text : Option Bytes) (acts : List TimedHappened) (h : TimedHappened) → last_of_all n text (acts ++ h ∷ []) ≡ timer_at (after h).view n
unfolding last_of_all
last-more n text [] h = refl
last-more n text (a ∷ acts) h = last-more n (timer_at (after a).view n) acts h

-- the same attributes are read the same
same-timer : (a b : View) (n : ℕ) → a.attributes ≡ b.attributes → timer_at a n ≡ timer_at b n
unfolding attribute
same-timer a b n same = rw same refl

shown-same : (config : Config) (x : Session) (turn : Turn) (n : ℕ) → timer_at (shown_in config x turn) n ≡ timer_at x.view n
shown-same config x turn n = same-timer (shown_in config x turn) x.view n (shown-kept config turn.ringing x turn.waiting turn.now)

left-same : (config : Config) (x : Session) (turn : Turn) (n : ℕ) → timer_at (after_turn config turn x).view n ≡ timer_at (after_calls (shown_in config x turn) turn.calls).view n
unfolding after_turn
left-same config x turn n =
    same-timer (after_turn config turn x).view (after_calls (shown_in config x turn) turn.calls).view n (outcome-kept config turn.ringing x turn.waiting turn.now turn.calls turn.end)

-- the acts so far, and what is remembered after them
record Chained (config : Config) (history : History) (n : ℕ) (turns : List Turn) (acts : List TimedHappened) : Type 0 where
  chain : IsChain n None acts
  last : timer_at (session_after config history turns).view n ≡ last_of_all n None acts

first-chained : (config : Config) (history : History) (n : ℕ) → Chained config history n [] []
unfolding session_after fresh first_view attribute IsChain last_of_all
first-chained config history n = record { chain = tt; last = refl }

after-act : (view : View) (act : TimedAct) → after (record { play = begun view; act = act }) ≡ play_after (begun view) (calls_of view act)
unfolding begun
after-act view act = refl

module _ (config : Config) (history : History) (n : ℕ) (turn : Turn) (earlier : List Turn) where
  abbrev before : Session
  before = session_after config history earlier

  abbrev shown : View
  shown = shown_in config before turn

  leaves : (acts : List TimedHappened) → LeavesTimer n shown turn.calls → Chained config history n earlier acts → Chained config history n (turn ∷ earlier) acts
  unfolding session_after LeavesTimer
  leaves acts same chained = record { chain = chained.chain; last = left-same config before turn n ∙ same ∙ shown-same config before turn n ∙ chained.last }

  makes : (acts : List TimedHappened) (act : TimedAct) → IsActOf n shown turn.calls act → Chained config history n earlier acts
      → Chained config history n (turn ∷ earlier) (acts ++ record { play = begun shown; act = act } ∷ [])
  unfolding session_after
  makes acts act is chained =
      let h : TimedHappened = record { play = begun shown; act = act } in record {
        chain = chain-more n None acts h chained.chain (subst (λ (view : View). side_of view act ≡ Some (record { 0 = n })) (sym (begun-view shown)) is.of)
            (subst (λ (view : View). timer_at view n ≡ last_of_all n None acts) (sym (begun-view shown)) (shown-same config before turn n ∙ chained.last));
        last = left-same config before turn n ∙ is.comes_to ∙ sym (last-more n None acts h ∙ ap (λ (play : Play). timer_at play.view n) (after-act shown act));
      }

all-chained : (config : Config) (history : History) (n : ℕ) (turns : List Turn) (acts : List TimedHappened) → AreActs config history n turns acts → Chained config history n turns acts
unfolding AreActs
all-chained config history n [] acts is = subst (Chained config history n []) (sym is) (first-chained config history n)
all-chained config history n (turn ∷ earlier) acts (inl one) = leaves config history n turn earlier acts one.0 (all-chained config history n earlier acts one.1)
all-chained config history n (turn ∷ earlier) acts (inr one) =
    subst (Chained config history n (turn ∷ earlier)) (sym one.2) (makes config history n turn earlier one.0 one.1 one.3 (all-chained config history n earlier one.0 one.4))

pub acts-are-chains : (config : Config) (history : History) (n : ℕ) (acts : List TimedHappened) → AreActs config history n history.turns acts → IsChain n None acts
acts-are-chains config history n acts are = (all-chained config history n history.turns acts are).chain

-- ## Each turn makes one act of the SipSession, or leaves its session timer

-- what a turn does to the session timer of the SipSession of this number
unfoldable Made : ℕ → View → List CallRecord → Type 0
Made n view made = LeavesTimer n view made ⊎ ((act : TimedAct) × IsActOf n view made act)

silent-made : (n : ℕ) (view : View) (made : List CallRecord) → made ≡ [] → Made n view made
unfolding Made LeavesTimer after_calls begun
silent-made n view made none = inl (ap (λ (ms : List CallRecord). timer_at (after_calls view ms).view n) none)

script-left : (n : ℕ) (view : View) (made : List CallRecord) (script : Script) → made ≡ played view script
    → timer_at (after_calls view made).view n ≡ timer_at (play_after (begun view) script).view n
script-left n view made script is =
    ap (λ (ms : List CallRecord). timer_at (after_calls view ms).view n) is ∙ ap (λ (play : Play). timer_at play.view n) (played-is view script)

own-side : (n : ℕ) (view : View) (act : TimedAct) (sess : SessId) → side_of view act ≡ Some sess → (sess.0 == n) ≡ true → side_of view act ≡ Some (record { 0 = n })
own-side n view act sess side own = side ∙ ap (λ (m : ℕ). Some (record { 0 = m })) (same-number sess.0 n own)

module _ (n : ℕ) (view : View) (made : List CallRecord) (told : Event) (is : made ≡ played view (timed_script view told)) (small : n < 2 ^ 64)
    (room : (act : TimedAct) (sess : SessId) → act_of view told ≡ Some act → side_of view act ≡ Some sess → sess.0 < 2 ^ 64) where
  act-left : (act : TimedAct) → timed_script view told ≡ calls_of view act → timer_at (after_calls view made).view n ≡ timer_at (play_after (begun view) (calls_of view act)).view n
  act-left act same = script-left n view made (timed_script view told) is ∙ ap (λ (script : Script). timer_at (play_after (begun view) script).view n) same

  side-made : (act : TimedAct) → act_of view told ≡ Some act → timed_script view told ≡ calls_of view act → (sess : SessId) → side_of view act ≡ Some sess → (b : Bool) → (sess.0 == n) ≡ b → Made n view made
  unfolding Made LeavesTimer
  side-made act makes same sess side true own = inr (act, record { of = own-side n view act sess side own; comes_to = act-left act same })
  side-made act makes same sess side false other = inl (act-left act same ∙ acts-leave n view act sess side (room act sess makes side) small other)

  act-made : (act : TimedAct) → act_of view told ≡ Some act → timed_script view told ≡ calls_of view act → (found : Option SessId) → side_of view act ≡ found → Made n view made
  unfolding Made LeavesTimer
  act-made act makes same None side = inl (act-left act same ∙ none-leave n view act side)
  act-made act makes same (Some sess) side = side-made act makes same sess side (sess.0 == n) refl

  script-made : IsOneAct view told (timed_script view told) → Made n view made
  unfolding IsOneAct Made LeavesTimer
  script-made (inl same) = inl (script-left n view made (timed_script view told) is ∙ same-timer (play_after (begun view) (timed_script view told)).view view n same)
  script-made (inr act) = act-made act.0 act.1 act.2 (side_of view act.0) refl

turn-made : (n : ℕ) (view : View) (event : Option Event) (made : List CallRecord) → n < 2 ^ 64
    → ((told : Event) (act : TimedAct) (sess : SessId) → event ≡ Some told → act_of view told ≡ Some act → side_of view act ≡ Some sess → sess.0 < 2 ^ 64) → PlaysScript timed_script view event made → Made n view made
unfolding PlaysScript
turn-made n view None made small room none = silent-made n view made none
turn-made n view (Some told) made small room (inl is) = script-made n view made told is small (λ act sess makes side. room told act sess refl makes side) (timed-acts view told)
turn-made n view (Some told) made small room (inr none) = silent-made n view made none

-- ## A life

record MakesActs (config : Config) (history : History) (n : ℕ) (turns : List Turn) : Type 0 where
  acts : List TimedHappened
  are : AreActs config history n turns acts

next-made : (config : Config) (history : History) (n : ℕ) (turn : Turn) (earlier : List Turn) → Made n (shown_in config (session_after config history earlier) turn) turn.calls
    → MakesActs config history n earlier → MakesActs config history n (turn ∷ earlier)
unfolding Made AreActs
next-made config history n turn earlier (inl leaves) made = record { acts = made.acts; are = inl (leaves, made.are) }
next-made config history n turn earlier (inr one) made = record {
  acts = made.acts ++ record { play = begun (shown_in config (session_after config history earlier) turn); act = one.0 } ∷ [];
  are = inr (made.acts, one.0, refl, one.1, made.are);
}

all-made : (turns : List Turn) (config : Config) (history : History) (n : ℕ) → n < 2 ^ 64 → ArePlayed timed_script config history turns → HaveRoom config history turns → MakesActs config history n turns
unfolding ArePlayed HaveRoom AreActs
all-made [] config history n small played room = record { acts = []; are = refl }
all-made (turn ∷ earlier) config history n small played room =
    next-made config history n turn earlier
    (turn-made n (shown_in config (session_after config history earlier) turn) (event_in config (session_after config history earlier) turn) turn.calls small room.0 played.0)
    (all-made earlier config history n small played.1 room.1)

pub played-acts : (config : Config) (history : History) (n : ℕ) → n < 2 ^ 64 → ArePlayed timed_script config history history.turns → HaveRoom config history history.turns → HasActs config history n history.turns
played-acts config history n small played room =
    let made : MakesActs config history n history.turns = all-made history.turns config history n small played room in
    record { acts = made.acts; are = made.are; chain = acts-are-chains config history n made.acts made.are }
