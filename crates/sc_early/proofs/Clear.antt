-- Nothing is remembered of an INVITE before it comes.
use Rattle.std.proofs.Common.{◌≡◌, ◌≤◌, ◌<◌, inl, inr, ℕ, ◌+◌, Bool, true, false, Option, None, Some, List, [], ◌∷◌, refl, sym, ap, subst, ◌∙◌, arith}
use Rattle.std.specs.Prelude.{◌==◌, ◌&&◌, ◌^◌, codes, cond, option_and_then, option_map}
use Rattle.std.specs.List.{find}
use Rattle.sc_tokens.specs.Names.{same_bytes}
use Rattle.sc_value.specs.declared.ids.ReqId.{ReqId}
use Rattle.sc_value.specs.declared.ids.SessId.{SessId}
use Rattle.sc_value.specs.declared.ids.TimerId.{TimerId}
use Rattle.sc_value.specs.declared.message.Request.{Request}
use Rattle.sc_tokens.specs.Bytes.{Bytes}
use Rattle.sc_terms.specs.declared.calls.CallRecord.{CallRecord}
use Rattle.sc_terms.specs.declared.events.Event.{Event}
use Rattle.sc_terms.specs.declared.events.Event.TheVariants as events
use Rattle.sc_terms.specs.declared.settings.Config.{Config}
use Rattle.sc_terms.specs.declared.views.RequestView.{RequestView}
use Rattle.sc_terms.specs.declared.views.View.{View}
use Rattle.sc_state.specs.declared.session.Session.{Session}
use Rattle.sc_state.specs.declared.working.Play.{Play}
use Rattle.sc_model.specs.SessionStates.{invite}
use Rattle.sc_hosts.specs.Effects.{after_calls, first_play as begun}
use Rattle.sc_hosts.specs.HelperParts.{lists_option, strict_number}
use Rattle.sc_hosts.specs.Histories.{History, after_turn, session_after, session_of}
use Rattle.sc_hosts.specs.Legs.{first_view, fresh}
use Rattle.sc_hosts.specs.Offers.{Offer, after_word, early_script, is_invite_of, late_offer, pending_offer, rel_option, session_progress}
use Rattle.sc_hosts.specs.Scripting.{Script, attribute, calls_of_script as played, where_some}
use Rattle.sc_hosts.specs.Sessions.{Turn}
use Rattle.sc_hosts.specs.Words.{prack}
use Rattle.sc_lasting.specs.Lasting.{All, Numbered}
use Rattle.sc_lasting.proofs.Began.{same-number}
use Rattle.sc_lasting.proofs.Parts.{all-found}
use Rattle.sc_promised.specs.Reliable.{Act, Fresh, Late, Offers, Pending, Pracks, Remembered, play_after, remembered_at, remembered_of, script_of}
use Rattle.sc_promised.proofs.Endings.{strict-fits, waits, same-rel}
use Rattle.sc_remembered.specs.Acts.{shown_in}
use Rattle.sc_remembered.specs.Early.{AreEarly, IsOneAct, IsUnknown, MakesActs, act_of, invite_of}
use Rattle.sc_remembered.proofs.Chains.{left-same, shown-same}
use Rattle.sc_remembered.proofs.EarlyTurns.{early-acts}
use Rattle.sc_remembered.proofs.Lives.{early-made, script-left}
use Rattle.sc_remembered.proofs.Others.{act-others}
use Rattle.sc_remembered.specs.Played.{ArePlayed, PlaysScript, event_in}
use Rattle.sc_early.specs.EarlyLives.{AreUnknown, AreWhole, HasRoom}
use Rattle.sc_early.proofs.Rising.{numbers-after, shown-numbered, shown-up, turn-up, up-then}
use Rattle.sc_early.proofs.ToldFirst.{IsNext, told-next}

-- nothing is remembered under a number that wasn't drawn
abbrev pub IsClear : Session → Type 0
IsClear x = (n : ℕ) → x.view.next_request ≤ n → n < 2 ^ 64 → remembered_at x.view n ≡ Fresh

-- ## Of which INVITE an act is

-- the INVITE is one whose number was drawn, or that of a timer
unfoldable pub IsDrawn : View → Act → Type 0
IsDrawn view (Offers req request code reason body) = req.0 < view.next_request
IsDrawn view (Pracks invited req request) = invited.0 < view.next_request
IsDrawn view (Late invited id) = invited.0 < 2 ^ 64

some-act : (a b : Act) → Some a ≡ Some b → a ≡ b
some-act a b is = cc

just-drawn : (a n m : ℕ) → a ≡ n → m ≡ n + 1 → a < m
just-drawn a n m is next = omega (arith, is, next)

first-drawn : (x : Session) (view : View) (req : ReqId) (request : Request) (b : Bool) (act : Act) → req.0 ≡ x.view.next_request → view.next_request ≡ x.view.next_request + 1
    → cond b (Some (Offers req request 183 session_progress [])) None ≡ Some act → IsDrawn view act
unfolding IsDrawn
first-drawn x view req request true act own next is = subst (IsDrawn view) (some-act (Offers req request 183 session_progress []) act is) (just-drawn req.0 x.view.next_request view.next_request own next)
first-drawn x view req request false act own next is = cc

prack-drawn : (view : View) (req : ReqId) (sess : SessId) (request : Request) (b : Bool) (found : Option RequestView) (act : Act) → find (is_invite_of sess) view.requests ≡ found
    → All (λ (r : RequestView). r.id.0 < view.next_request) view.requests → cond b (option_map (λ (invited : RequestView). Pracks invited.id req request) found) None ≡ Some act → IsDrawn view act
unfolding IsDrawn
prack-drawn view req sess request true None act found all is = cc
prack-drawn view req sess request true (Some invited) act found all is =
    subst (IsDrawn view) (some-act (Pracks invited.id req request) act is) (all-found (λ (r : RequestView). r.id.0 < view.next_request) (is_invite_of sess) view.requests invited found all)
prack-drawn view req sess request false found act found-is all is = cc

word-fits : (text : Option Bytes) (n : ℕ) → option_and_then strict_number text ≡ Some n → n < 2 ^ 64
word-fits None n is = cc
word-fits (Some text) n is = strict-fits text n is

late-drawn : (view : View) (id : TimerId) (found : Option ℕ) (act : Act) → ((n : ℕ) → found ≡ Some n → n < 2 ^ 64)
    → option_map (λ (n : ℕ). Late (record { 0 = n }) id) found ≡ Some act → IsDrawn view act
unfolding IsDrawn
late-drawn view id None act fits is = cc
late-drawn view id (Some n) act fits is = subst (IsDrawn view) (some-act (Late (record { 0 = n }) id) act is) (fits n refl)

pub act-drawn : (x : Session) (view : View) (told : Event) (act : Act) → IsNext x view told → All (λ (r : RequestView). r.id.0 < view.next_request) view.requests
    → act_of view told ≡ Some act → IsDrawn view act
unfolding act_of IsNext
act-drawn x view (events.Initial req sess region subscriber popped request) act next all is =
    first-drawn x view req request (same_bytes request.method invite && lists_option rel_option request) act next.0 next.1 is
act-drawn x view (events.Request req sess request) act next all is = prack-drawn view req sess request (same_bytes request.method prack) (find (is_invite_of sess) view.requests) act refl all is
act-drawn x view (events.Response req sess response) act next all is = cc
act-drawn x view (events.Branch req sess response) act next all is = cc
act-drawn x view (events.Cancelled req sess) act next all is = cc
act-drawn x view (events.Timer id info) act next all is =
    late-drawn view id (option_and_then strict_number (after_word (codes "rel") info)) act (word-fits (after_word (codes "rel") info)) is
act-drawn x view events.Expired act next all is = cc
act-drawn x view events.Ready act next all is = cc

small-by : (a n : ℕ) → a < n → n ≤ 2 ^ 64 → a < 2 ^ 64
small-by a n p q = omega (arith, p, q)

pub drawn-small : (view : View) (act : Act) → view.next_request ≤ 2 ^ 64 → IsDrawn view act → invite_of act < 2 ^ 64
unfolding IsDrawn invite_of
drawn-small view (Offers req request code reason body) room drawn = small-by req.0 view.next_request drawn room
drawn-small view (Pracks invited req request) room drawn = small-by invited.0 view.next_request drawn room
drawn-small view (Late invited id) room drawn = drawn

-- ## A timer of which nothing is remembered

none-waits : (view : View) (n : ℕ) (found : Option Offer) → pending_offer view n ≡ found → remembered_at view n ≡ Fresh → pending_offer view n ≡ None
none-waits view n None is fresh = is
none-waits view n (Some offer) is fresh = absurd (clash (remembered_at view n) offer.rseq offer.cseq offer.timer (waits view n offer is).pending fresh)
  where
    clash : (rel : Remembered) (r c t : ℕ) → rel ≡ Pending r c t → rel ≡ Fresh → ⊥
    clash rel r c t p q = cc

late-leaves : (view : View) (n : ℕ) (id : TimerId) → pending_offer view n ≡ None → play_after (begun view) (late_offer view n id) ≡ begun view
unfolding late_offer where_some play_after
late-leaves view n id none = rw none refl

-- ## Acts leave what wasn't drawn

not-drawn : (a n m : ℕ) → a < m → m ≤ n → a ≡ n → ⊥
not-drawn a n m p q is = grind (arith, p, q, is)

begun-same : (view : View) (n : ℕ) → remembered_at (begun view).view n ≡ remembered_at view n
unfolding begun
begun-same view n = refl

own-leaves : (view : View) (act : Act) (n : ℕ) → IsDrawn view act → view.next_request ≤ n → invite_of act ≡ n → remembered_at view n ≡ Fresh
    → remembered_at (play_after (begun view) (script_of view act)).view n ≡ Fresh
unfolding IsDrawn invite_of script_of
own-leaves view (Offers req request code reason body) n drawn next is clear = absurd (not-drawn req.0 n view.next_request drawn next is)
own-leaves view (Pracks invited req request) n drawn next is clear = absurd (not-drawn invited.0 n view.next_request drawn next is)
own-leaves view (Late invited id) n drawn next is clear =
    ap (λ (play : Play). remembered_at play.view n) (late-leaves view invited.0 id (none-waits view invited.0 (pending_offer view invited.0) refl (subst (λ (m : ℕ). remembered_at view m ≡ Fresh) (sym is) clear)))
    ∙ begun-same view n ∙ clear

module _ (view : View) (n : ℕ) (room : view.next_request ≤ 2 ^ 64) (next : view.next_request ≤ n) (small : n < 2 ^ 64) (clear : remembered_at view n ≡ Fresh) where
  act-leaves : (act : Act) → IsDrawn view act → (b : Bool) → (invite_of act == n) ≡ b → remembered_at (play_after (begun view) (script_of view act)).view n ≡ Fresh
  act-leaves act drawn true own = own-leaves view act n drawn next (same-number (invite_of act) n own) clear
  act-leaves act drawn false other = act-others n view act (drawn-small view act room drawn) small other ∙ clear

  one-leaves : (told : Event) → ((act : Act) → act_of view told ≡ Some act → IsDrawn view act) → IsOneAct view told (early_script view told)
      → remembered_at (play_after (begun view) (early_script view told)).view n ≡ Fresh
  unfolding IsOneAct
  one-leaves told drawn (inl same) = same-rel (play_after (begun view) (early_script view told)).view view n same ∙ clear
  one-leaves told drawn (inr act) =
      ap (λ (script : Script). remembered_at (play_after (begun view) script).view n) act.2 ∙ act-leaves act.0 (drawn act.0 act.1) (invite_of act.0 == n) refl

  none-leaves : (made : List CallRecord) → made ≡ [] → remembered_at (after_calls view made).view n ≡ Fresh
  unfolding after_calls
  none-leaves made none = ap (λ (ms : List CallRecord). remembered_at (after_calls view ms).view n) none ∙ begun-same view n ∙ clear

  calls-leave : (event : Option Event) (made : List CallRecord) → ((told : Event) → event ≡ Some told → IsUnknown view told)
      → ((told : Event) (act : Act) → event ≡ Some told → act_of view told ≡ Some act → IsDrawn view act) → PlaysScript early_script view event made
      → remembered_at (after_calls view made).view n ≡ Fresh
  unfolding PlaysScript
  calls-leave None made unknown drawn none = none-leaves made none
  calls-leave (Some told) made unknown drawn (inl is) =
      script-left n view made (early_script view told) is ∙ one-leaves told (λ act makes. drawn told act refl makes) (early-acts view told (unknown told refl))
  calls-leave (Some told) made unknown drawn (inr none) = none-leaves made none

-- ## A turn

next-small : (n m : ℕ) → m ≡ n + 1 → m ≤ 2 ^ 64 → n < 2 ^ 64
next-small n m next room = omega (arith, next, room)

at-own : (n : ℕ) → n ≤ n
at-own n = omega arith

unknown-by : (x : Session) (view : View) (told : Event) → ((n : ℕ) → remembered_at view n ≡ remembered_at x.view n) → IsClear x → view.next_request ≤ 2 ^ 64 → IsNext x view told → IsUnknown view told
unfolding IsNext IsUnknown
unknown-by x view (events.Initial req sess region subscriber popped request) same clear room next =
    subst (λ (n : ℕ). remembered_at view n ≡ Fresh) (sym next.0)
    (same x.view.next_request ∙ clear x.view.next_request (at-own x.view.next_request) (next-small x.view.next_request view.next_request next.1 room))
unknown-by x view (events.Request req sess request) same clear room next = tt
unknown-by x view (events.Response req sess response) same clear room next = tt
unknown-by x view (events.Branch req sess response) same clear room next = tt
unknown-by x view (events.Cancelled req sess) same clear room next = tt
unknown-by x view (events.Timer id info) same clear room next = tt
unknown-by x view events.Expired same clear room next = tt
unknown-by x view events.Ready same clear room next = tt

pub shown-drawn : (config : Config) (x : Session) (turn : Turn) (told : Event) (act : Act) → Numbered x → event_in config x turn ≡ Some told → act_of (shown_in config x turn) told ≡ Some act
    → IsDrawn (shown_in config x turn) act
shown-drawn config x turn told act numbered is makes =
    act-drawn x (shown_in config x turn) told act (told-next config x turn told is) (shown-numbered config x turn numbered).1 makes

module _ (config : Config) (x : Session) (turn : Turn) (clear : IsClear x) (numbered : Numbered x) (room : (after_turn config turn x).view.next_request ≤ 2 ^ 64) where
  abbrev view : View
  view = shown_in config x turn

  view-room : view.next_request ≤ 2 ^ 64
  view-room = up-then view.next_request (after_turn config turn x).view.next_request (2 ^ 64) (turn-up config x turn) room

  pub turn-unknown : (told : Event) → event_in config x turn ≡ Some told → IsUnknown view told
  turn-unknown told is = unknown-by x view told (λ n. shown-same config x turn n) clear view-room (told-next config x turn told is)

  pub turn-clear : PlaysScript early_script view (event_in config x turn) turn.calls → IsClear (after_turn config turn x)
  turn-clear plays n next small =
      let shown = up-then view.next_request (after_turn config turn x).view.next_request n (turn-up config x turn) next in
      left-same config x turn n
      ∙ calls-leave view n view-room shown small (shown-same config x turn n ∙ clear n (up-then x.view.next_request view.next_request n (shown-up config x turn) shown) small)
      (event_in config x turn) turn.calls turn-unknown (λ told act is makes. shown-drawn config x turn told act numbered is makes) plays

-- ## A life

record HasClear (config : Config) (history : History) (turns : List Turn) : Type 0 where
  clear : IsClear (session_after config history turns)
  unknown : AreUnknown config history turns

first-clear : (config : Config) (history : History) → IsClear (session_after config history [])
unfolding session_after fresh first_view attribute remembered_of
first-clear config history n next small = refl

all-clear : (turns : List Turn) (config : Config) (history : History) → ArePlayed early_script config history turns → HasRoom (session_after config history turns) → HasClear config history turns
unfolding ArePlayed AreUnknown session_after
all-clear [] config history played room = record { clear = first-clear config history; unknown = tt }
all-clear (turn ∷ earlier) config history played room =
    let x : Session = session_after config history earlier in
    let numbered : Numbered x = numbers-after config history earlier in
    let before : HasClear config history earlier = all-clear earlier config history played.1
    (up-then x.view.next_request (shown_in config x turn).next_request (2 ^ 64) (shown-up config x turn) (up-then (shown_in config x turn).next_request (after_turn config turn x).view.next_request (2 ^ 64) (turn-up config x turn) room)) in
    record {
      clear = turn-clear config x turn before.clear numbered room played.0;
      unknown = (turn-unknown config x turn before.clear numbered room, before.unknown);
    }

pub histories-unknown : (config : Config) (history : History) → ArePlayed early_script config history history.turns → HasRoom (session_of config history) → AreUnknown config history history.turns
unfolding session_of
histories-unknown config history played room = (all-clear history.turns config history played room).unknown

-- ## Acts

pub are-early : (turns : List Turn) (config : Config) (history : History) → ArePlayed early_script config history turns → AreUnknown config history turns → AreWhole config history turns
    → HasRoom (session_after config history turns) → AreEarly config history turns
unfolding ArePlayed AreUnknown AreWhole AreEarly session_after
are-early [] config history played unknown whole room = tt
are-early (turn ∷ earlier) config history played unknown whole room =
    let x : Session = session_after config history earlier in
    let shown = up-then (shown_in config x turn).next_request (after_turn config turn x).view.next_request (2 ^ 64) (turn-up config x turn) room in (
      record {
        plays = played.0;
        unknown = unknown.0;
        sound = λ told act is makes.
            (drawn-small (shown_in config x turn) act shown (shown-drawn config x turn told act (numbers-after config history earlier) is makes), whole.0 told act is makes);
      },
      are-early earlier config history played.1 unknown.1 whole.1 (up-then x.view.next_request (shown_in config x turn).next_request (2 ^ 64) (shown-up config x turn) shown),
    )

pub played-make-acts : (config : Config) (history : History) (n : ℕ) → n < 2 ^ 64 → HasRoom (session_of config history) → ArePlayed early_script config history history.turns
    → AreWhole config history history.turns → MakesActs config history n history.turns
unfolding session_of
played-make-acts config history n small room played whole =
    early-made history.turns config history n small (are-early history.turns config history played (histories-unknown config history played room) whole room)
