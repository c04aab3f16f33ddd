-- The turns of a session of the kind that gives provisional responses reliably make lists of acts.
use Rattle.std.proofs.Common.{◌≡◌, ◌<◌, ◌⊎◌, inl, inr, ℕ, ◌++◌, Bool, true, false, Option, None, Some, List, [], ◌∷◌, refl, ap, ◌∙◌}
use Rattle.std.specs.Prelude.{◌==◌, ◌^◌}
use Rattle.sc_terms.specs.declared.calls.CallRecord.{CallRecord}
use Rattle.sc_terms.specs.declared.events.Event.{Event}
use Rattle.sc_terms.specs.declared.settings.Config.{Config}
use Rattle.sc_terms.specs.declared.views.View.{View}
use Rattle.sc_state.specs.declared.working.Play.{Play}
use Rattle.sc_hosts.specs.Effects.{after_calls, first_play as begun}
use Rattle.sc_hosts.specs.Histories.{History, session_after}
use Rattle.sc_hosts.specs.Offers.{early_script}
use Rattle.sc_hosts.specs.Preparing.{prepared_session as prepared}
use Rattle.sc_hosts.specs.Scripting.{Script, calls_of_script as played}
use Rattle.sc_hosts.specs.Sessions.{Turn}
use Rattle.sc_lasting.proofs.Began.{same-number}
use Rattle.sc_promised.specs.Reliable.{Act, IsOf, IsSound, Late, Offers, Pracks, play_after, remembered_at, script_of}
use Rattle.sc_promised.proofs.Endings.{same-rel}
use Rattle.sc_remembered.specs.Acts.{AreActs, IsActOf, LeavesIt, shown_in}
use Rattle.sc_remembered.specs.Early.{AreEarly, IsEarlyTurn, IsOneAct, MakesActs, act_of, invite_of}
use Rattle.sc_remembered.specs.Played.{PlaysScript}
use Rattle.sc_remembered.proofs.EarlyTurns.{early-acts, played-is}
use Rattle.sc_remembered.proofs.Others.{act-others}

-- what a turn does to the INVITE of this number
unfoldable Made : ℕ → View → List CallRecord → Type 0
Made n view made = LeavesIt n view made ⊎ ((act : Act) × IsActOf n view made act)

silent-made : (n : ℕ) (view : View) (made : List CallRecord) → made ≡ [] → Made n view made
unfolding Made LeavesIt after_calls begun
silent-made n view made none = inl (ap (λ (ms : List CallRecord). remembered_at (after_calls view ms).view n) none)

is-of : (n : ℕ) (act : Act) → (invite_of act == n) ≡ true → IsOf n act
unfolding invite_of IsOf
is-of n (Offers req request code reason body) is = same-number req.0 n is
is-of n (Pracks invited req request) is = same-number invited.0 n is
is-of n (Late invited id) is = same-number invited.0 n is

-- what is remembered after the calls of a script
pub script-left : (n : ℕ) (view : View) (made : List CallRecord) (script : Script) → made ≡ played view script
    → remembered_at (after_calls view made).view n ≡ remembered_at (play_after (begun view) script).view n
script-left n view made script is =
    ap (λ (ms : List CallRecord). remembered_at (after_calls view ms).view n) is ∙ ap (λ (play : Play). remembered_at play.view n) (played-is view script)

module _ (n : ℕ) (view : View) (made : List CallRecord) (told : Event) (is : made ≡ played view (early_script view told)) (small : n < 2 ^ 64)
    (sound : (act : Act) → act_of view told ≡ Some act → (invite_of act < 2 ^ 64) × IsSound (begun view) act) where
  act-left : (act : Act) → early_script view told ≡ script_of view act → remembered_at (after_calls view made).view n ≡ remembered_at (play_after (begun view) (script_of view act)).view n
  act-left act same = script-left n view made (early_script view told) is ∙ ap (λ (script : Script). remembered_at (play_after (begun view) script).view n) same

  act-made : (act : Act) → act_of view told ≡ Some act → early_script view told ≡ script_of view act → (b : Bool) → (invite_of act == n) ≡ b → Made n view made
  unfolding Made LeavesIt
  act-made act makes same true own = inr (act, record { of = is-of n act own; sound = (sound act makes).1; comes_to = act-left act same })
  act-made act makes same false other = inl (act-left act same ∙ act-others n view act (sound act makes).0 small other)

  script-made : IsOneAct view told (early_script view told) → Made n view made
  unfolding IsOneAct Made LeavesIt
  script-made (inl same) = inl (script-left n view made (early_script view told) is ∙ same-rel (play_after (begun view) (early_script view told)).view view n same)
  script-made (inr act) = act-made act.0 act.1 act.2 (invite_of act.0 == n) refl

turn-made : (n : ℕ) (view : View) (event : Option Event) (made : List CallRecord) → n < 2 ^ 64 → IsEarlyTurn view event made → PlaysScript early_script view event made → Made n view made
unfolding PlaysScript
turn-made n view None made small early none = silent-made n view made none
turn-made n view (Some told) made small early (inl is) =
    script-made n view made told is small (λ act same. early.sound told act refl same) (early-acts view told (early.unknown told refl))
turn-made n view (Some told) made small early (inr none) = silent-made n view made none

next-made : (config : Config) (history : History) (n : ℕ) (turn : Turn) (earlier : List Turn) → Made n (shown_in config (session_after config history earlier) turn) turn.calls
    → MakesActs config history n earlier → MakesActs config history n (turn ∷ earlier)
unfolding Made AreActs
next-made config history n turn earlier (inl leaves) before = record { acts = before.acts; are = inl (leaves, before.are) }
next-made config history n turn earlier (inr one) before = record {
  acts = before.acts ++ record { play = begun (shown_in config (session_after config history earlier) turn); act = one.0 } ∷ [];
  are = inr (before.acts, one.0, refl, one.1, before.are);
}

pub early-made : (turns : List Turn) (config : Config) (history : History) (n : ℕ) → n < 2 ^ 64 → AreEarly config history turns → MakesActs config history n turns
unfolding AreEarly AreActs
early-made [] config history n small early = record { acts = []; are = refl }
early-made (turn ∷ earlier) config history n small early =
    next-made config history n turn earlier
    (turn-made n (shown_in config (session_after config history earlier) turn) (prepared config turn.ringing (session_after config history earlier) turn.waiting turn.now).event turn.calls small early.0 early.0.plays)
    (early-made earlier config history n small early.1)
