-- What a turn sends goes on branches of its session: they rise from above the last number that was drawn before it, up to the
-- last that is drawn in it.
use Rattle.std.proofs.Common.{◌≡◌, ◌≤◌, ◌<◌, ℕ, ◌+◌, ◌++◌, Bool, true, false, Option, None, Some, List, [], ◌∷◌, refl, sym, subst, ◌∙◌, arith}
use Rattle.std.specs.Prelude.{cond, not, option_and_then, ◌||◌, ◌==◌}
use Rattle.std.specs.List.{fold}
use Rattle.sc_value.specs.declared.ids.AppId.{AppId}
use Rattle.sc_value.specs.declared.ids.ReqId.{ReqId}
use Rattle.sc_value.specs.declared.ids.SessId.{SessId}
use Rattle.sc_value.specs.declared.message.Request.{Request}
use Rattle.sc_value.specs.declared.message.Response.{Response}
use Rattle.sc_value.specs.declared.parts.Uri.{Uri}
use Rattle.sc_terms.specs.declared.calls.Answer.{Answer}
use Rattle.sc_terms.specs.declared.calls.Call.{Call}
use Rattle.sc_terms.specs.declared.calls.Call.TheVariants as calls
use Rattle.sc_terms.specs.declared.calls.CallRecord.{CallRecord}
use Rattle.sc_terms.specs.declared.calls.End.{End}
use Rattle.sc_terms.specs.declared.calls.End.TheVariants as ends
use Rattle.sc_terms.specs.declared.calls.Refusal.{Refusal}
use Rattle.sc_terms.specs.declared.calls.Target.{Target}
use Rattle.sc_terms.specs.declared.calls.Target.TheVariants as targets
use Rattle.sc_terms.specs.declared.inside.Inside.{Inside}
use Rattle.sc_terms.specs.declared.settings.Config.{Config}
use Rattle.sc_terms.specs.declared.views.RequestView.{RequestView}
use Rattle.sc_terms.specs.declared.views.View.{View}
use Rattle.sc_state.specs.declared.orders.Order.{Order}
use Rattle.sc_state.specs.declared.orders.Order.TheVariants as orders
use Rattle.sc_state.specs.declared.proxy.Passing.{Passing}
use Rattle.sc_state.specs.declared.proxy.Proxy.{Proxy}
use Rattle.sc_state.specs.declared.queue.Queued.{Queued}
use Rattle.sc_state.specs.declared.queue.Waiting.{Waiting}
use Rattle.sc_state.specs.declared.session.Kept.{Kept}
use Rattle.sc_state.specs.declared.session.Session.{Session}
use Rattle.sc_state.specs.declared.working.Asked.{Asked}
use Rattle.sc_state.specs.declared.working.Asked.TheVariants as asked
use Rattle.sc_state.specs.declared.working.Draft.{Draft}
use Rattle.sc_state.specs.declared.working.Play.{Play}
use Rattle.sc_state.specs.declared.working.Prepared.{Prepared}
use Rattle.sc_state.specs.declared.working.Working.{Working}
use Rattle.sc_state.specs.declared.working.Written.{Written}
use Rattle.sc_tokens.specs.Bytes.{Bytes}
use Rattle.sc_model.specs.Dialogs.{DialogState}
use Rattle.sc_hosts.specs.Acting.{in_view, with_next_branch as drawn, without_left, drafts_ended, fault_at, after_fault as faulted, after_start as started, forwarded_view, with_subscribed, forwards, passes, forwards_best, chooses, closes, proxy_now, sends_cancels, after_proxy as acted, acts, all_act, hops_spent, passed_on, passed_later, passed_request_of, is_request_event, passes_later}
use Rattle.sc_hosts.specs.Branches.{starting}
use Rattle.sc_hosts.specs.Effects.{after_call, after_listed, first_play as begun, played_by, play_with_initial as created, created_later, created_leg, with_draft, play_with_request as sent, play_without_draft as discarded, view_with_ack as acked, view_with_targets as proxied, with_timer, with_invalidation_flag as flagged}
use Rattle.sc_hosts.specs.Finishing.{swept_one, swept, without_acks, without_unneeded as lightened, session_in_play, is_ended, after_all_calls as finished, outcome_of, outcome}
use Rattle.sc_hosts.specs.Giving.{giving, answering, writes, drafts_own, drafts_later, drafts_leg, directs, forgets}
use Rattle.sc_hosts.specs.Looking.{without_sip_session as removed, request_in, without_link as unlinked, unlinked_from}
use Rattle.sc_hosts.specs.Messages.{on_branch, passed_request}
use Rattle.sc_hosts.specs.Preparing.{prepared_session as prepared}
use Rattle.sc_hosts.specs.PreparingRequests.{with_received_request as received}
use Rattle.sc_hosts.specs.PreparingResponses.{is_invalid}
use Rattle.sc_hosts.specs.ViewChanges.{view_with_answer as answered, answered_in, view_without as invalidated, with_link as linked, settled_requests, tidy, with_own_session}
use Rattle.sc_hosts.specs.Working.{starts, keeps_sent, sends_initial, sends_later, sends_in, sends_written, sends, ack_with, acknowledges, cancels, invalidates, effects_of_call as does, does_by, after_one_call as worked, worked_all, next_branch}
use Rattle.sc_once.specs.Growing.{IsBetween}
use Rattle.sc_once.proofs.Bounds.{from-lower}
use Rattle.sc_walked.specs.SessionWalks.{SessionLaws}
use Rattle.sc_walked.proofs.WalkShown.{prepared-walks}
use Rattle.sc_lasting.specs.Lasting.{All}
use Rattle.sc_given.proofs.GivenCalls.{answers-kind, cancels-kind, goodbyes-kind, one-kind}
use Rattle.sc_given.proofs.GivenShown.{prepared-kind}
use Rattle.sc_keyed.specs.Keyed.{AreOn, IsOn, new_branch, new_branches}
use Rattle.sc_keyed.proofs.OldOrders.{IsOld, old-law}

-- ## What changes of a view

-- after this view the other has the same names, and numbers are drawn upward
pub record Follows (before after : View) : Type 0 where
  pub up : before.counter ≤ after.counter
  pub epoch_is : after.epoch ≡ before.epoch
  pub app_is : after.app ≡ before.app

-- and one number at least is drawn
record Draws (before after : View) : Type 0 where
  up : before.counter + 1 ≤ after.counter
  epoch_is : after.epoch ≡ before.epoch
  app_is : after.app ≡ before.app

same-number : (n : ℕ) → n ≤ n
same-number n = omega arith

one-more : (n : ℕ) → n ≤ n + 1
one-more n = omega arith

two-more : (n : ℕ) → n ≤ n + 2
two-more n = omega arith

one-less : (n : ℕ) → n < n + 1
one-less n = omega arith

then-more : (a b c : ℕ) → a ≤ b → b ≤ c → a ≤ c
then-more a b c p q = omega (arith, p, q)

less-more : (a b c : ℕ) → a < b → b ≤ c → a ≤ c
less-more a b c p q = omega (arith, p, q)

more-less : (a b c : ℕ) → a ≤ b → b < c → a < c
more-less a b c p q = omega (arith, p, q)

pub follows : (view : View) → Follows view view
follows view = record { up = same-number view.counter; epoch_is = refl; app_is = refl }

then-follows : (x y z : View) → Follows x y → Follows y z → Follows x z
then-follows x y z p q =
    record { up = then-more x.counter y.counter z.counter p.up q.up; epoch_is = q.epoch_is ∙ p.epoch_is; app_is = q.app_is ∙ p.app_is }

draws-follows : (x y : View) → Draws x y → Follows x y
draws-follows x y draws = record { up = then-more x.counter _ y.counter (one-more x.counter) draws.up; epoch_is = draws.epoch_is; app_is = draws.app_is }

from-linked : (found : Option SessId) (view : View) → Follows view (unlinked_from found view)
unfolding unlinked_from
from-linked None view = follows view
from-linked (Some other) view = record { up = same-number view.counter; epoch_is = refl; app_is = refl }

unlinked-follows : (sess : SessId) (view : View) → Follows view (unlinked sess view)
unfolding unlinked
unlinked-follows sess view = let rest = from-linked _ view in record { up = rest.up; epoch_is = rest.epoch_is; app_is = rest.app_is }

removed-follows : (sess : SessId) (view : View) → Follows view (removed sess view)
unfolding removed
removed-follows sess view = let rest = unlinked-follows sess view in record { up = rest.up; epoch_is = rest.epoch_is; app_is = rest.app_is }

answered-follows : (request : Option RequestView) (code : ℕ) (view : View) → Follows view (answered request code view)
unfolding answered answered_in tidy
answered-follows None code view = follows view
answered-follows (Some request) code view = record { up = same-number view.counter; epoch_is = refl; app_is = refl }

proxied-follows : (request : Option RequestView) (count : ℕ) (view : View) → Follows view (proxied request count view)
unfolding proxied
proxied-follows None count view = follows view
proxied-follows (Some request) count view = record { up = same-number view.counter; epoch_is = refl; app_is = refl }

flagged-follows : (target : Target) (flag : Bool) (view : View) → Follows view (flagged target flag view)
unfolding flagged
flagged-follows targets.Application flag view = record { up = same-number view.counter; epoch_is = refl; app_is = refl }
flagged-follows (targets.Session sess) flag view = record { up = same-number view.counter; epoch_is = refl; app_is = refl }

ended-follows : (sess : SessId) (view : View) → Follows view (invalidated sess view)
unfolding invalidated settled_requests tidy
ended-follows sess view = let rest = removed-follows sess (settled_requests sess 500 view) in record { up = rest.up; epoch_is = rest.epoch_is; app_is = rest.app_is }

if-follows : (b : Bool) (view x y : View) → Follows view x → Follows view y → Follows view (cond b x y)
if-follows true view x y p q = p
if-follows false view x y p q = q

fold-follows : {A : Type 0} (items : List A) (act : View → A → View) → ((view : View) (a : A) → Follows view (act view a)) → (view : View)
    → Follows view (fold act view items)
fold-follows [] act each view = follows view
fold-follows (a ∷ items) act each view = then-follows view (act view a) _ (each view a) (fold-follows items act each (act view a))

forwarded-follows : (proxy : Proxy) (sess : SessId) (request : Option RequestView) (response : Response) (view : View)
    → Follows view (forwarded_view proxy sess request response view)
unfolding forwarded_view answered_in tidy
forwarded-follows proxy sess None response view = record { up = same-number view.counter; epoch_is = refl; app_is = refl }
forwarded-follows proxy sess (Some request) response view = record { up = same-number view.counter; epoch_is = refl; app_is = refl }

subscribed-follows : (proxy : Proxy) (sess : SessId) (response : Response) (view : View) → Follows view (with_subscribed proxy sess response view)
unfolding with_subscribed
subscribed-follows proxy sess response view = if-follows _ view _ view (record { up = same-number view.counter; epoch_is = refl; app_is = refl }) (follows view)

left-follows : (view : View) (draft : Draft) → Follows view (without_left view draft)
unfolding without_left
left-follows view draft = if-follows draft.initial view (removed draft.sess view) view (removed-follows draft.sess view) (follows view)

leg-follows : (request : Option RequestView) (play : Play) → Follows play.view (created_leg request play).view
unfolding created_leg with_draft linked with_own_session
leg-follows None play = follows play.view
leg-follows (Some request) play = record { up = two-more play.view.counter; epoch_is = refl; app_is = refl }

names-stay : (event : Queued) → SessionLaws event (λ call. Unit {0}) (λ x y. Follows x.view y.view)
unfolding received with_own_session linked
names-stay event = record {
  same = λ x. follows x.view;
  after = λ x y z p q. then-follows x.view y.view z.view p q;
  dates = λ x now. record { up = same-number x.view.counter; epoch_is = refl; app_is = refl };
  expires = λ x due. record { up = same-number x.view.counter; epoch_is = refl; app_is = refl };
  flags = λ x flag. record { up = same-number x.view.counter; epoch_is = refl; app_is = refl };
  times = λ x timers next. record { up = same-number x.view.counter; epoch_is = refl; app_is = refl };
  attributes = λ x fields. record { up = same-number x.view.counter; epoch_is = refl; app_is = refl };
  counts = λ x. record { up = one-more x.view.counter; epoch_is = refl; app_is = refl };
  numbers = λ x. record { up = same-number x.view.counter; epoch_is = refl; app_is = refl };
  moves = λ x sessions same. record { up = same-number x.view.counter; epoch_is = refl; app_is = refl };
  renews = λ x requests same. record { up = same-number x.view.counter; epoch_is = refl; app_is = refl };
  drops = λ x test. record { up = same-number x.view.counter; epoch_is = refl; app_is = refl };
  same_legs = λ x legs same. follows x.view;
  same_proxies = λ x all same. follows x.view;
  forgets = λ x test. follows x.view;
  unlinks = λ x sess does. unlinked-follows sess x.view;
  removes = λ x sess. removed-follows sess x.view;
  receives = λ x number sess initial passed request brings. record { up = same-number x.view.counter; epoch_is = refl; app_is = refl };
  shows = λ x request again. record { up = same-number x.view.counter; epoch_is = refl; app_is = refl };
  sends = λ x draft request. record { up = one-more x.view.counter; epoch_is = refl; app_is = refl };
  sends_none = λ x draft. record { up = one-more x.view.counter; epoch_is = refl; app_is = refl };
  begins = λ x. record { up = two-more x.view.counter; epoch_is = refl; app_is = refl };
  derives = λ x req sess original came tag is. record { up = same-number x.view.counter; epoch_is = refl; app_is = refl };
  begins_leg = λ play known req uri request kept is ok found has. leg-follows request play;
  links = λ play known a b is ok. record { up = same-number play.view.counter; epoch_is = refl; app_is = refl };
  turns = λ play known req uris how request is ok found. proxied-follows request _ play.view;
  passes = λ x req kept is. follows x.view;
}

-- ## What is given

module _ (config : Config) (epoch : ℕ) (app : AppId) where
  -- what these orders send goes on branches of this session
  abbrev On : ℕ → List Order → ℕ → Type 0
  On low given high = AreOn config epoch app low given high

  on-lower : (low mid : ℕ) (given : List Order) (high : ℕ) → low ≤ mid → On mid given high → On low given high
  unfolding AreOn
  on-lower low mid [] high under on = then-more low mid high under on
  on-lower low mid (orders.Respond event response ∷ given) high under on = on-lower low mid given high under on
  on-lower low mid (orders.Begin branch directive region state request ∷ given) high under on = (more-less low mid branch under on.0, on.1, on.2)
  on-lower low mid (orders.Send branch request ∷ given) high under on = (more-less low mid branch under on.0, on.1, on.2)
  on-lower low mid (orders.Acknowledge request ∷ given) high under on = (on.0, more-less low mid on.0 under on.1, on.2, on.3)
  on-lower low mid (orders.Cancel branch ∷ given) high under on = on-lower low mid given high under on
  on-lower low mid (orders.CancelNow branch ∷ given) high under on = on-lower low mid given high under on

  on-append : (low : ℕ) (xs ys : List Order) (mid high : ℕ) → On low xs mid → On mid ys high → On low (xs ++ ys) high
  unfolding AreOn
  on-append low [] ys mid high p q = on-lower low mid ys high p q
  on-append low (orders.Respond event response ∷ xs) ys mid high p q = on-append low xs ys mid high p q
  on-append low (orders.Begin branch directive region state request ∷ xs) ys mid high p q = (p.0, p.1, on-append branch xs ys mid high p.2 q)
  on-append low (orders.Send branch request ∷ xs) ys mid high p q = (p.0, p.1, on-append branch xs ys mid high p.2 q)
  on-append low (orders.Acknowledge request ∷ xs) ys mid high p q = (p.0, p.1, p.2, on-append p.0 xs ys mid high p.3 q)
  on-append low (orders.Cancel branch ∷ xs) ys mid high p q = on-append low xs ys mid high p q
  on-append low (orders.CancelNow branch ∷ xs) ys mid high p q = on-append low xs ys mid high p q

  on-higher : (low : ℕ) (xs : List Order) (mid high : ℕ) → mid ≤ high → On low xs mid → On low xs high
  unfolding AreOn
  on-higher low [] mid high up p = then-more low mid high p up
  on-higher low (orders.Respond event response ∷ xs) mid high up p = on-higher low xs mid high up p
  on-higher low (orders.Begin branch directive region state request ∷ xs) mid high up p = (p.0, p.1, on-higher branch xs mid high up p.2)
  on-higher low (orders.Send branch request ∷ xs) mid high up p = (p.0, p.1, on-higher branch xs mid high up p.2)
  on-higher low (orders.Acknowledge request ∷ xs) mid high up p = (p.0, p.1, p.2, on-higher p.0 xs mid high up p.3)
  on-higher low (orders.Cancel branch ∷ xs) mid high up p = on-higher low xs mid high up p
  on-higher low (orders.CancelNow branch ∷ xs) mid high up p = on-higher low xs mid high up p

  old-on : (n : ℕ) (given : List Order) → All IsOld given → On n given n
  unfolding AreOn All IsOld
  old-on n [] old = same-number n
  old-on n (orders.Respond event response ∷ given) old = old-on n given old.1
  old-on n (orders.Begin branch directive region state request ∷ given) old = absurd old.0
  old-on n (orders.Send branch request ∷ given) old = absurd old.0
  old-on n (orders.Acknowledge request ∷ given) old = absurd old.0
  old-on n (orders.Cancel branch ∷ given) old = old-on n given old.1
  old-on n (orders.CancelNow branch ∷ given) old = old-on n given old.1

  -- the branches of the requests that get a transaction rise too
  pub on-between : (low : ℕ) (given : List Order) (high : ℕ) → On low given high → IsBetween (new_branches given) low high
  unfolding AreOn new_branches new_branch IsBetween
  on-between low [] high on = on
  on-between low (orders.Respond event response ∷ given) high on = on-between low given high on
  on-between low (orders.Begin branch directive region state request ∷ given) high on = (on.0, on-between branch given high on.2)
  on-between low (orders.Send branch request ∷ given) high on = (on.0, on-between branch given high on.2)
  on-between low (orders.Acknowledge request ∷ given) high on = from-lower (new_branches given) low on.0 high (less-more low on.0 on.0 on.1 (same-number on.0)) (on-between on.0 given high on.3)
  on-between low (orders.Cancel branch ∷ given) high on = on-between low given high on
  on-between low (orders.CancelNow branch ∷ given) high on = on-between low given high on

  -- what was given so far, where the view is this now
  record Drawn (low : ℕ) (given : List Order) (view : View) : Type 0 where
    on : On low given view.counter
    epoch_is : view.epoch ≡ epoch
    app_is : view.app ≡ app

  gives-none : (low : ℕ) (given : List Order) (view after : View) → Follows view after → Drawn low given view → Drawn low given after
  gives-none low given view after follow drawn =
      record { on = on-higher low given view.counter after.counter follow.up drawn.on; epoch_is = follow.epoch_is ∙ drawn.epoch_is; app_is = follow.app_is ∙ drawn.app_is }

  gives-old : (low : ℕ) (given more : List Order) (view : View) → All IsOld more → Drawn low given view → Drawn low (given ++ more) view
  gives-old low given more view old drawn =
      record { on = on-append low given more view.counter view.counter drawn.on (old-on view.counter more old); epoch_is = drawn.epoch_is; app_is = drawn.app_is }

  gives-new : (low : ℕ) (given more : List Order) (view after : View) → On view.counter more (view.counter + 1) → Draws view after → Drawn low given view
      → Drawn low (given ++ more) after
  gives-new low given more view after on draws drawn = record {
    on = on-higher low (given ++ more) (view.counter + 1) after.counter draws.up (on-append low given more view.counter (view.counter + 1) drawn.on on);
    epoch_is = draws.epoch_is ∙ drawn.epoch_is;
    app_is = draws.app_is ∙ drawn.app_is;
  }

  branch-on : (low : ℕ) (given : List Order) (view : View) (request : Request) → Drawn low given view
      → IsOn config epoch app (view.counter + 1) (on_branch config view (view.counter + 1) request)
  unfolding IsOn on_branch
  branch-on low given view request drawn = rw (drawn.epoch_is, drawn.app_is) refl

  begins-new : (low : ℕ) (given : List Order) (view : View) (directive : _) (region : _) (state : Option ℕ) (request : Request) → Drawn low given view
      → On view.counter (orders.Begin (view.counter + 1) directive region state (on_branch config view (view.counter + 1) request) ∷ []) (view.counter + 1)
  unfolding AreOn
  begins-new low given view directive region state request drawn = (one-less view.counter, branch-on low given view request drawn, same-number (view.counter + 1))

  sends-new : (low : ℕ) (given : List Order) (view : View) (request : Request) → Drawn low given view
      → On view.counter (orders.Send (view.counter + 1) (on_branch config view (view.counter + 1) request) ∷ []) (view.counter + 1)
  unfolding AreOn
  sends-new low given view request drawn = (one-less view.counter, branch-on low given view request drawn, same-number (view.counter + 1))

  acks-new : (low : ℕ) (given : List Order) (view : View) (request : Request) → Drawn low given view
      → On view.counter (orders.Acknowledge (on_branch config view (view.counter + 1) request) ∷ []) (view.counter + 1)
  unfolding AreOn
  acks-new low given view request drawn = (view.counter + 1, one-less view.counter, branch-on low given view request drawn, same-number (view.counter + 1))

  answering-drawn : (low : ℕ) (view : View) (request : Option RequestView) (answer : Answer) (working : Working) → Drawn low working.orders view
      → Drawn low (answering config request answer working).orders view
  unfolding answering
  answering-drawn low view None answer working drawn = drawn
  answering-drawn low view (Some request) answer working drawn =
      gives-old low working.orders _ view (answers-kind IsOld (All IsOld) old-law config answer working.play.view _ request.initial) drawn

  -- ## Sending

  -- what was given so far, as the turn stands
  abbrev Given : ℕ → Working → Type 0
  Given low working = Drawn low working.orders working.play.view

  sends_in-drawn : (low : ℕ) (sess : SessId) (ask : Inside) (dialog : Option DialogState) (working : Working) (after : View) → Draws working.play.view after
      → Given low working → Drawn low (sends_in config sess ask dialog working).orders after
  unfolding sends_in sends_later keeps_sent
  sends_in-drawn low sess ask None working after draws drawn = gives-none low working.orders working.play.view after (draws-follows _ after draws) drawn
  sends_in-drawn low sess ask (Some dialog) working after draws drawn =
      gives-new low working.orders _ working.play.view after (sends-new low working.orders working.play.view _ drawn) draws drawn

  sends_written-drawn : (low : ℕ) (draft : Written) (sess : SessId) (what : Asked) (working : Working) (after : View) → Draws working.play.view after
      → Given low working → Drawn low (sends_written config draft sess what working).orders after
  unfolding sends_written sends_initial keeps_sent
  sends_written-drawn low draft sess (asked.Initial request) working after draws drawn =
      gives-new low working.orders _ working.play.view after (begins-new low working.orders working.play.view _ _ _ _ drawn) draws drawn
  sends_written-drawn low draft sess (asked.Later ask) working after draws drawn = sends_in-drawn low sess ask _ working after draws drawn

  sends-drawn : (low : ℕ) (number : ℕ) (written : Option Written) (draft : Option Draft) (working : Working) → Given low working
      → Drawn low (sends config number written draft working).orders (sent number draft working.play).view
  unfolding sends forgets sent
  sends-drawn low number (Some written) (Some draft) working drawn =
      sends_written-drawn low written draft.sess written.asked working _ (record { up = same-number (working.play.view.counter + 1); epoch_is = refl; app_is = refl }) drawn
  sends-drawn low number (Some written) None working drawn = drawn
  sends-drawn low number None (Some draft) working drawn =
      gives-none low working.orders working.play.view _ (record { up = one-more working.play.view.counter; epoch_is = refl; app_is = refl }) drawn
  sends-drawn low number None None working drawn = drawn

  ack_with-drawn : (low : ℕ) (body : Bytes) (dialog : Option DialogState) (kept : Option Kept) (working : Working) (after : View) → Draws working.play.view after
      → Given low working → Drawn low (ack_with config body dialog kept working).orders after
  unfolding ack_with
  ack_with-drawn low body (Some dialog) (Some kept) working after draws drawn =
      gives-new low working.orders _ working.play.view after (acks-new low working.orders working.play.view _ drawn) draws drawn
  ack_with-drawn low body (Some dialog) None working after draws drawn = gives-none low working.orders working.play.view after (draws-follows _ after draws) drawn
  ack_with-drawn low body None kept working after draws drawn = gives-none low working.orders working.play.view after (draws-follows _ after draws) drawn

  acknowledges-drawn : (low : ℕ) (sess : SessId) (body : Bytes) (request : Option RequestView) (working : Working) (after : View) → Draws working.play.view after
      → Given low working → Drawn low (acknowledges config sess body request working).orders after
  unfolding acknowledges
  acknowledges-drawn low sess body None working after draws drawn = gives-none low working.orders working.play.view after (draws-follows _ after draws) drawn
  acknowledges-drawn low sess body (Some request) working after draws drawn = ack_with-drawn low body _ _ working after draws drawn

  leg-drawn : (low : ℕ) (req : ReqId) (uri : Option Uri) (request : Option RequestView) (kept : Option Kept) (working : Working) → Given low working
      → Drawn low (drafts_leg req uri kept working).orders (created_leg request working.play).view
  unfolding drafts_leg writes
  leg-drawn low req uri request None working drawn = gives-none low working.orders working.play.view _ (leg-follows request working.play) drawn
  leg-drawn low req uri request (Some kept) working drawn = gives-none low working.orders working.play.view _ (leg-follows request working.play) drawn

  discarded-follows : (number : ℕ) (draft : Option Draft) (play : Play) → Follows play.view (discarded number draft play).view
  unfolding discarded tidy
  discarded-follows number None play = follows play.view
  discarded-follows number (Some draft) play = by draft.initial
    where
      by : (b : Bool) → Follows play.view (cond b (record play { view = tidy (removed draft.sess play.view) }) play).view
      by true = let rest = removed-follows draft.sess play.view in record { up = rest.up; epoch_is = rest.epoch_is; app_is = rest.app_is }
      by false = follows play.view

  -- ## Each call

  accepted-drawn : (low : ℕ) (working : Working) (call : Call) → Given low working → Drawn low (does config working call).orders (after_call working.play call).view
  unfolding does after_call created created_later with_draft with_own_session drafts_own drafts_later writes directs forgets cancels invalidates with_timer linked acked tidy
  accepted-drawn low working (calls.Respond req answer) drawn =
      gives-none low _ working.play.view _ (answered-follows _ answer.code working.play.view) (answering-drawn low working.play.view _ answer working drawn)
  accepted-drawn low working (calls.CreateRequest ask) drawn =
      gives-none low working.orders working.play.view _ (record { up = two-more working.play.view.counter; epoch_is = refl; app_is = refl }) drawn
  accepted-drawn low working (calls.CreateInDialog sess ask) drawn = drawn
  accepted-drawn low working (calls.B2bCreate req uri) drawn = leg-drawn low req uri _ _ working drawn
  accepted-drawn low working (calls.SetDirective draft directive origin) drawn = drawn
  accepted-drawn low working (calls.Send draft) drawn = sends-drawn low draft _ _ working drawn
  accepted-drawn low working (calls.Discard draft) drawn = gives-none low working.orders working.play.view _ (discarded-follows draft _ working.play) drawn
  accepted-drawn low working (calls.Ack sess body) drawn =
      acknowledges-drawn low sess body _ working _ (record { up = same-number (working.play.view.counter + 1); epoch_is = refl; app_is = refl }) drawn
  accepted-drawn low working (calls.Cancel req) drawn = gives-old low working.orders _ working.play.view (cancels-kind IsOld (All IsOld) old-law _) drawn
  accepted-drawn low working (calls.ProxyTo req uris how) drawn = gives-none low working.orders working.play.view _ (proxied-follows _ _ working.play.view) drawn
  accepted-drawn low working (calls.ProxyCancel req) drawn = drawn
  accepted-drawn low working (calls.B2bRespond sess answer) drawn =
      gives-none low _ working.play.view _ (answered-follows _ answer.code working.play.view) (answering-drawn low working.play.view _ answer working drawn)
  accepted-drawn low working (calls.Link a b) drawn = record { on = drawn.on; epoch_is = drawn.epoch_is; app_is = drawn.app_is }
  accepted-drawn low working (calls.Unlink a) drawn = gives-none low working.orders working.play.view _ (unlinked-follows a working.play.view) drawn
  accepted-drawn low working (calls.StartTimer delay period info) drawn = record { on = drawn.on; epoch_is = drawn.epoch_is; app_is = drawn.app_is }
  accepted-drawn low working (calls.CancelTimer id) drawn = record { on = drawn.on; epoch_is = drawn.epoch_is; app_is = drawn.app_is }
  accepted-drawn low working (calls.SetAttribute name value) drawn = record { on = drawn.on; epoch_is = drawn.epoch_is; app_is = drawn.app_is }
  accepted-drawn low working (calls.RemoveAttribute name) drawn = record { on = drawn.on; epoch_is = drawn.epoch_is; app_is = drawn.app_is }
  accepted-drawn low working (calls.SetExpires minutes) drawn = record { on = drawn.on; epoch_is = drawn.epoch_is; app_is = drawn.app_is }
  accepted-drawn low working (calls.SetReadyFlag target flag) drawn = gives-none low working.orders working.play.view _ (flagged-follows target flag working.play.view) drawn
  accepted-drawn low working (calls.InvalidateSession sess) drawn =
      gives-none low _ working.play.view _ (ended-follows sess working.play.view)
      (gives-old low working.orders _ working.play.view (goodbyes-kind IsOld (All IsOld) old-law config working.play.view working.known _) drawn)
  accepted-drawn low working calls.InvalidateApplication drawn = record { on = drawn.on; epoch_is = drawn.epoch_is; app_is = drawn.app_is }

  call-drawn : (low : ℕ) (working : Working) (call : Call) (found : Option Refusal) → Given low working
      → Drawn low (does_by config working call found).orders (played_by working.play call found).view
  unfolding does_by played_by
  call-drawn low working call None drawn = accepted-drawn low working call drawn
  call-drawn low working call (Some refused) drawn = drawn

  worked-drawn : (low : ℕ) (working : Working) (call : Call) → Given low working → Given low (worked config working call)
  unfolding worked after_listed
  worked-drawn low working call drawn = call-drawn low working call _ drawn

  fold-drawn : {A : Type 0} (low : ℕ) (items : List A) (act : Working → A → Working) → ((working : Working) (a : A) → Given low working → Given low (act working a))
      → (working : Working) → Given low working → Given low (fold act working items)
  fold-drawn low [] act each working drawn = drawn
  fold-drawn low (a ∷ items) act each working drawn = fold-drawn low items act each (act working a) (each working a drawn)

  worked_all-drawn : (low : ℕ) (shown : Prepared) (made : List CallRecord) → Drawn low shown.orders shown.view → Given low (worked_all config shown made)
  unfolding worked_all starts begun
  worked_all-drawn low shown made drawn =
      fold-drawn low made (λ working made. worked config working made.call) (λ working made drawn. worked-drawn low working made.call drawn) (starts shown) drawn

  -- ## The end of a turn

  if-drawn : (low : ℕ) (b : Bool) (x y : Working) → Given low x → Given low y → Given low (cond b x y)
  if-drawn low true x y p q = p
  if-drawn low false x y p q = q

  drafts_ended-drawn : (low : ℕ) (working : Working) → Given low working → Given low (drafts_ended working)
  unfolding drafts_ended tidy
  drafts_ended-drawn low working drawn =
      let rest = fold-follows working.play.drafts without_left left-follows working.play.view in
      gives-none low working.orders working.play.view _ (record { up = rest.up; epoch_is = rest.epoch_is; app_is = rest.app_is }) drawn

  -- the container answers
  answers-drawn : (low : ℕ) (request : RequestView) (code : ℕ) (answer : Answer) (working : Working) → Given low working
      → Given low (in_view (answered (Some request) code working.play.view) (answering config (Some request) answer working))
  answers-drawn low request code answer working drawn =
      gives-none low _ working.play.view _ (answered-follows (Some request) code working.play.view) (answering-drawn low working.play.view (Some request) answer working drawn)

  fault_at-drawn : (low : ℕ) (request : Option RequestView) (working : Working) → Given low working → Given low (fault_at config request working)
  unfolding fault_at
  fault_at-drawn low None working drawn = drawn
  fault_at-drawn low (Some request) working drawn = if-drawn low _ _ working (answers-drawn low request 500 _ working drawn) drawn

  faulted-drawn : (low : ℕ) (req : Option ReqId) (end : End) (working : Working) → Given low working → Given low (faulted config req end working)
  unfolding faulted
  faulted-drawn low req ends.Fine working drawn = drawn
  faulted-drawn low req ends.Fault working drawn = fault_at-drawn low _ working drawn
  faulted-drawn low req ends.Starved working drawn = drawn

  started-drawn : (low : ℕ) (proxy : Proxy) (working : Working) (uri : Uri) → Given low working → Given low (started config proxy working uri)
  unfolding started
  started-drawn low proxy working uri given =
      gives-new low working.orders _ working.play.view (drawn working.play.view) (begins-new low working.orders working.play.view _ _ _ _ given)
      (record { up = same-number (working.play.view.counter + 1); epoch_is = refl; app_is = refl }) given

  forwards-drawn : (low : ℕ) (proxy : Proxy) (sess : SessId) (response : Response) (working : Working) → Given low working
      → Given low (forwards proxy sess response working)
  unfolding forwards
  forwards-drawn low proxy sess response working drawn =
      gives-none low _ working.play.view _
      (then-follows working.play.view (with_subscribed proxy sess response working.play.view) _ (subscribed-follows proxy sess response working.play.view) (forwarded-follows proxy sess _ response _))
      (gives-old low working.orders _ working.play.view (one-kind IsOld (All IsOld) old-law _ (old-law.responds proxy.event response)) drawn)

  passes-drawn : (low : ℕ) (proxy : Proxy) (passing : Option Passing) (working : Working) → Given low working → Given low (passes proxy passing working)
  unfolding passes
  passes-drawn low proxy None working drawn = drawn
  passes-drawn low proxy (Some passing) working drawn = if-drawn low _ _ working (forwards-drawn low proxy passing.sess passing.response working drawn) drawn

  forwards_best-drawn : (low : ℕ) (proxy : Proxy) (response : Option Response) (working : Working) → Given low working
      → Given low (forwards_best proxy response working)
  unfolding forwards_best
  forwards_best-drawn low proxy None working drawn = drawn
  forwards_best-drawn low proxy (Some response) working drawn = forwards-drawn low proxy proxy.sess response working drawn

  chooses-drawn : (low : ℕ) (proxy : Proxy) (working : Working) → Given low working → Given low (chooses proxy working)
  unfolding chooses
  chooses-drawn low proxy working drawn = if-drawn low _ _ working (forwards_best-drawn low proxy _ working drawn) drawn

  closes-drawn : (low : ℕ) (proxy : Proxy) (working : Working) → Given low working → Given low (closes proxy working)
  unfolding closes
  closes-drawn low proxy working drawn = if-drawn low _ _ working (record { on = drawn.on; epoch_is = drawn.epoch_is; app_is = drawn.app_is }) drawn

  cancels-drawn : (low : ℕ) (proxy : Proxy) (working : Working) → Given low working → Given low (sends_cancels proxy working)
  unfolding sends_cancels
  cancels-drawn low proxy working drawn = gives-old low working.orders _ working.play.view (cancels-kind IsOld (All IsOld) old-law _) drawn

  acted-drawn : (low : ℕ) (proxy : Proxy) (working : Working) → Given low working → Given low (acted config proxy working)
  unfolding acted
  acted-drawn low proxy working drawn =
      let begun : Working = fold (started config proxy) working (starting proxy) in
      let one = fold-drawn low (starting proxy) (started config proxy) (started-drawn low proxy) working drawn in
      let passed : Working = passes (proxy_now proxy begun) proxy.passing begun in
      let two = passes-drawn low (proxy_now proxy begun) proxy.passing begun one in
      let chosen : Working = chooses (proxy_now proxy passed) passed in
      closes-drawn low (proxy_now proxy chosen) _ (cancels-drawn low proxy chosen (chooses-drawn low (proxy_now proxy passed) passed two))

  acts-drawn : (low : ℕ) (working : Working) (proxy : Proxy) → Given low working → Given low (acts config working proxy)
  unfolding acts
  acts-drawn low working proxy drawn = if-drawn low _ working _ drawn (acted-drawn low proxy working drawn)

  all_act-drawn : (low : ℕ) (working : Working) → Given low working → Given low (all_act config working)
  unfolding all_act
  all_act-drawn low working drawn = fold-drawn low working.known.proxies (acts config) (acts-drawn low) working drawn

  passed_by : (low : ℕ) (working known : Working) (request : Request) (b : Bool) → known.orders ≡ working.orders → Given low working
      → (let sent : Request = on_branch config working.play.view (next_branch working) request in
      Given low (in_view (drawn working.play.view) (cond b (giving (orders.Acknowledge sent ∷ []) working) (giving (orders.Send (next_branch working) sent ∷ []) known))))
  passed_by low working known request true same given =
      gives-new low working.orders _ working.play.view (drawn working.play.view) (acks-new low working.orders working.play.view request given)
      (record { up = same-number (working.play.view.counter + 1); epoch_is = refl; app_is = refl }) given
  passed_by low working known request false same given =
      subst (λ (all : List Order). Drawn low (all ++ orders.Send (next_branch working) (on_branch config working.play.view (next_branch working) request) ∷ []) (drawn working.play.view)) (sym same)
      (gives-new low working.orders _ working.play.view (drawn working.play.view) (sends-new low working.orders working.play.view request given)
      (record { up = same-number (working.play.view.counter + 1); epoch_is = refl; app_is = refl }) given)

  passed_on-drawn : (low : ℕ) (kept : Kept) (working : Working) → Given low working → Given low (passed_on config kept working)
  unfolding passed_on
  passed_on-drawn low kept working drawn = passed_by low working _ (passed_request kept.request) _ refl drawn

  hops_spent-drawn : (low : ℕ) (request : RequestView) (working : Working) → Given low working → Given low (hops_spent config request working)
  unfolding hops_spent
  hops_spent-drawn low request working drawn = if-drawn low _ _ working (answers-drawn low request 483 _ working drawn) drawn

  passed_later-drawn : (low : ℕ) (request : RequestView) (kept : Option Kept) (working : Working) → Given low working
      → Given low (passed_later config request kept working)
  unfolding passed_later
  passed_later-drawn low request None working drawn = drawn
  passed_later-drawn low request (Some kept) working drawn =
      if-drawn low (request.initial || not request.proxied || is_invalid working.known request.sess) working _ drawn
      (if-drawn low (request.hops == 0) (hops_spent config request working) (passed_on config kept working) (hops_spent-drawn low request working drawn) (passed_on-drawn low kept working drawn))

  passed_request_of-drawn : (low : ℕ) (request : Option RequestView) (working : Working) → Given low working
      → Given low (passed_request_of config request working)
  unfolding passed_request_of
  passed_request_of-drawn low None working drawn = drawn
  passed_request_of-drawn low (Some request) working drawn = passed_later-drawn low request _ working drawn

  passes_later-drawn : (low : ℕ) (event : Queued) (req : Option ReqId) (working : Working) → Given low working
      → Given low (passes_later config event req working)
  unfolding passes_later
  passes_later-drawn low event req working drawn =
      if-drawn low (is_request_event event) (passed_request_of config (option_and_then (request_in working.play.view) req) working) working (passed_request_of-drawn low _ working drawn) drawn

  finished-drawn : (low : ℕ) (event : Queued) (req : Option ReqId) (end : End) (working : Working) → Given low working
      → Given low (finished config event req end working)
  unfolding finished
  finished-drawn low event req end working drawn =
      passes_later-drawn low event req _ (all_act-drawn low _ (faulted-drawn low req end _ (drafts_ended-drawn low working drawn)))

-- ## The whole turn

swept-follows : (x : Session) → Follows x.view (swept x).view
unfolding swept swept_one tidy
swept-follows x =
    let rest = fold-follows x.view.sessions (swept_one x.known x.view) (λ view session. if-follows _ view _ view (removed-follows session.id view) (follows view)) x.view in
    record { up = rest.up; epoch_is = rest.epoch_is; app_is = rest.app_is }

if-session : (b : Bool) (view : View) (x y : Session) → Follows view x.view → Follows view y.view → Follows view (cond b x y).view
if-session true view x y p q = p
if-session false view x y p q = q

outcome-follows : (event : Queued) (working : Working) → Follows working.play.view (outcome_of event working).session.view
unfolding outcome_of lightened session_in_play without_acks
outcome-follows event working =
    let last = swept-follows (session_in_play working) in
    let rest = if-session (is_ended event working) working.play.view (session_in_play working) (swept (session_in_play working))
    (record { up = same-number working.play.view.counter; epoch_is = refl; app_is = refl }) (record { up = last.up; epoch_is = last.epoch_is; app_is = last.app_is }) in
    record { up = rest.up; epoch_is = rest.epoch_is; app_is = rest.app_is }

shown-drawn : (config : Config) (heard : List ℕ) (x : Session) (waiting : Waiting) (now : ℕ)
    → Drawn config x.view.epoch x.view.app x.view.counter (prepared config heard x waiting now).orders (prepared config heard x waiting now).view
unfolding prepared
shown-drawn config heard x waiting now =
    let shown : Prepared = prepared config heard x waiting now in
    let follow : Follows x.view shown.view = prepared-walks waiting.event (λ call. Unit {0}) (λ x y. Follows x.view y.view) (names-stay waiting.event) config heard x waiting now refl in
    gives-none config x.view.epoch x.view.app x.view.counter shown.orders x.view shown.view follow
    (record { on = old-on config x.view.epoch x.view.app x.view.counter shown.orders (prepared-kind IsOld old-law.responds config heard (record x { view = record x.view { now = now } }) waiting.number waiting.event); epoch_is = refl; app_is = refl })

turn-drawn : (config : Config) (heard : List ℕ) (x : Session) (waiting : Waiting) (now : ℕ) (made : List CallRecord) (end : End)
    → Drawn config x.view.epoch x.view.app x.view.counter (outcome config heard x waiting now made end).orders (outcome config heard x waiting now made end).session.view
unfolding outcome outcome_of
turn-drawn config heard x waiting now made end =
    let shown : Prepared = prepared config heard x waiting now in
    let done : Working = finished config waiting.event shown.req end (worked_all config shown made) in
    gives-none config x.view.epoch x.view.app x.view.counter done.orders done.play.view _ (outcome-follows waiting.event done)
    (finished-drawn config x.view.epoch x.view.app x.view.counter waiting.event shown.req end (worked_all config shown made) (worked_all-drawn config x.view.epoch x.view.app x.view.counter shown made (shown-drawn config heard x waiting now)))

-- what a turn sends goes on branches of its session above all that were drawn before
pub sends-on-branches : (config : Config) (heard : List ℕ) (x : Session) (waiting : Waiting) (now : ℕ) (made : List CallRecord) (end : End)
    → AreOn config x.view.epoch x.view.app x.view.counter (outcome config heard x waiting now made end).orders (outcome config heard x waiting now made end).session.view.counter
sends-on-branches config heard x waiting now made end = (turn-drawn config heard x waiting now made end).on

-- a turn leaves the names of its session
pub turn-names : (config : Config) (heard : List ℕ) (x : Session) (waiting : Waiting) (now : ℕ) (made : List CallRecord) (end : End)
    → ((outcome config heard x waiting now made end).session.view.epoch ≡ x.view.epoch) × ((outcome config heard x waiting now made end).session.view.app ≡ x.view.app)
turn-names config heard x waiting now made end =
    let drawn = turn-drawn config heard x waiting now made end in (drawn.epoch_is, drawn.app_is)

-- each request that a turn sends with a transaction goes on a branch above all that were drawn before
pub branches-rise : (config : Config) (heard : List ℕ) (x : Session) (waiting : Waiting) (now : ℕ) (made : List CallRecord) (end : End)
    → IsBetween (new_branches (outcome config heard x waiting now made end).orders) x.view.counter (outcome config heard x waiting now made end).session.view.counter
branches-rise config heard x waiting now made end =
    on-between config x.view.epoch x.view.app x.view.counter _ _ (sends-on-branches config heard x waiting now made end)
