-- Numbers of requests are drawn upward.
use Rattle.std.proofs.Common.{◌≡◌, ◌≤◌, ℕ, ◌+◌, Option, None, Some, List, refl, ap, subst, sym, arith}
use Rattle.std.specs.Prelude.{length}
use Rattle.sc_value.specs.declared.ids.SessId.{SessId}
use Rattle.sc_terms.specs.declared.calls.CallRecord.{CallRecord}
use Rattle.sc_terms.specs.declared.settings.Config.{Config}
use Rattle.sc_terms.specs.declared.views.RequestView.{RequestView}
use Rattle.sc_terms.specs.declared.views.View.{View}
use Rattle.sc_state.specs.declared.queue.Queued.{Queued}
use Rattle.sc_state.specs.declared.queue.Queued.TheVariants as queued
use Rattle.sc_state.specs.declared.session.Session.{Session}
use Rattle.sc_state.specs.declared.working.Play.{Play}
use Rattle.sc_state.specs.declared.working.Prepared.{Prepared}
use Rattle.sc_hosts.specs.Effects.{after_calls, created_leg, view_with_targets as proxied, with_draft}
use Rattle.sc_hosts.specs.Histories.{History, after_turn, session_after}
use Rattle.sc_hosts.specs.Looking.{without_sip_session as removed, without_link as unlinked}
use Rattle.sc_hosts.specs.Preparing.{prepared_session as prepared}
use Rattle.sc_hosts.specs.Sessions.{Turn}
use Rattle.sc_hosts.specs.ViewChanges.{with_link as linked, with_own_session}
use Rattle.sc_walked.specs.SessionWalks.{SessionLaws}
use Rattle.sc_walked.proofs.WalkCalls.{worked_all-walks}
use Rattle.sc_walked.proofs.WalkEnds.{done-any}
use Rattle.sc_walked.proofs.WalkShown.{prepared-walks}
use Rattle.sc_lasting.specs.Lasting.{Numbered}
use Rattle.sc_lasting.proofs.Numbers.{numbers-hold, numbers-law}
use Rattle.sc_lasting.proofs.Parts.{received-holds, removed-only, unlinked-only}
use Rattle.sc_lived.proofs.Accepted.{read-after}
use Rattle.sc_remembered.specs.Acts.{shown_in}
use Rattle.sc_remembered.proofs.Ended.{outcome-rest, worked-play}
use Rattle.sc_remembered.proofs.Parts.{Rest}

up-same : (n : ℕ) → n ≤ n
up-same n = omega arith

up-one : (n : ℕ) → n ≤ n + 1
up-one n = omega arith

pub up-then : (a b c : ℕ) → a ≤ b → b ≤ c → a ≤ c
up-then a b c p q = omega (arith, p, q)

up-equal : (a b : ℕ) → b ≡ a → a ≤ b
up-equal a b is = omega (arith, is)

abbrev Up : Session → Session → Type 0
Up x y = x.view.next_request ≤ y.view.next_request

only-up : (v w : View) → w ≡ record v { sessions = w.sessions } → v.next_request ≤ w.next_request
only-up v w is = up-equal v.next_request w.next_request (ap (λ (u : View). u.next_request) is)

leg-up : (play : Play) (request : Option RequestView) → play.view.next_request ≤ (created_leg request play).view.next_request
unfolding created_leg with_draft linked with_own_session
leg-up play None = up-same play.view.next_request
leg-up play (Some request) = up-same play.view.next_request

own-up : (view : View) → view.next_request ≤ (with_own_session view).next_request
unfolding with_own_session
own-up view = up-same view.next_request

linked-up : (a b : SessId) (view : View) → view.next_request ≤ (linked a b view).next_request
unfolding linked
linked-up a b view = up-same view.next_request

proxied-up : (request : Option RequestView) (count : ℕ) (view : View) → view.next_request ≤ (proxied request count view).next_request
unfolding proxied
proxied-up None count view = up-same view.next_request
proxied-up (Some request) count view = up-same view.next_request

up-law : (event : Queued) → SessionLaws event (λ call. Unit {0}) Up
up-law event = record {
  same = λ x. up-same x.view.next_request;
  after = λ x y z p q. up-then x.view.next_request y.view.next_request z.view.next_request p q;
  dates = λ x now. up-same x.view.next_request;
  expires = λ x due. up-same x.view.next_request;
  flags = λ x flag. up-same x.view.next_request;
  times = λ x timers next. up-same x.view.next_request;
  attributes = λ x fields. up-same x.view.next_request;
  counts = λ x. up-same x.view.next_request;
  numbers = λ x. up-one x.view.next_request;
  moves = λ x sessions same. up-same x.view.next_request;
  renews = λ x requests same. up-same x.view.next_request;
  drops = λ x test. up-same x.view.next_request;
  same_legs = λ x legs same. up-same x.view.next_request;
  same_proxies = λ x all same. up-same x.view.next_request;
  forgets = λ x test. up-same x.view.next_request;
  unlinks = λ x sess does. only-up x.view (unlinked sess x.view) (unlinked-only sess x.view);
  removes = λ x sess. only-up x.view (removed sess x.view) (removed-only sess x.view);
  receives = λ x number sess initial passed request brings. received-holds (λ v k. x.view.next_request ≤ v.next_request) x number sess initial passed request (λ invited. up-one x.view.next_request);
  shows = λ x request again. up-same x.view.next_request;
  sends = λ x draft request. up-one x.view.next_request;
  sends_none = λ x draft. up-one x.view.next_request;
  begins = λ x. own-up x.view;
  derives = λ x req sess original came tag is. up-same x.view.next_request;
  begins_leg = λ play known req uri request kept is does found has. leg-up play request;
  links = λ play known a b is does. linked-up a b play.view;
  turns = λ play known req uris how request is does found. proxied-up request (length uris) play.view;
  passes = λ x req kept is. up-same x.view.next_request;
}

-- ## A turn

pub shown-up : (config : Config) (x : Session) (turn : Turn) → x.view.next_request ≤ (shown_in config x turn).next_request
shown-up config x turn = prepared-walks turn.waiting.event (λ call. Unit {0}) Up (up-law turn.waiting.event) config turn.ringing x turn.waiting turn.now refl

pub shown-numbered : (config : Config) (x : Session) (turn : Turn) → Numbered x
    → Numbered (record { view = shown_in config x turn; known = (prepared config turn.ringing x turn.waiting turn.now).known })
shown-numbered config x turn =
    prepared-walks turn.waiting.event (λ call. Unit {0}) (λ x y. Numbered x → Numbered y) (numbers-law turn.waiting.event) config turn.ringing x turn.waiting turn.now refl

calls-up : (config : Config) (shown : Prepared) (made : List CallRecord) → shown.view.next_request ≤ (after_calls shown.view made).view.next_request
calls-up config shown made =
    let x : Session = record { view = shown.view; known = shown.known } in
    subst (λ (play : Play). x.view.next_request ≤ play.view.next_request) (worked-play config shown made)
    (worked_all-walks queued.Ready (λ call. Unit {0}) Up (up-law queued.Ready) config x shown made (done-any made (λ call. Unit {0}) (λ call. tt) _) (up-same x.view.next_request))

pub turn-up : (config : Config) (x : Session) (turn : Turn) → (shown_in config x turn).next_request ≤ (after_turn config turn x).view.next_request
unfolding after_turn
turn-up config x turn =
    subst (λ (n : ℕ). (shown_in config x turn).next_request ≤ n)
    (sym (ap (λ (rest : Rest). rest.next_request) (outcome-rest config turn.ringing x turn.waiting turn.now turn.calls turn.end)))
    (calls-up config (prepared config turn.ringing x turn.waiting turn.now) turn.calls)

pub numbers-after : (config : Config) (history : History) (turns : List Turn) → Numbered (session_after config history turns)
numbers-after config history turns = subst Numbered (read-after config history turns) (numbers-hold config (record history { turns = turns }))
