-- A later request that a turn passes on is proxied under a number of its own.
use Rattle.std.proofs.Common.{◌≡◌, ◌≤◌, ◌⊎◌, ℕ, ◌+◌, ◌++◌, Bool, true, false, Option, None, Some, List, [], ◌∷◌, inl, inr, refl, ap, ◌∙◌, arith}
use Rattle.std.specs.Prelude.{◌==◌, ◌||◌, cond, not, option_and_then}
use Rattle.sc_tokens.specs.Names.{same_bytes}
use Rattle.sc_value.specs.declared.ids.ReqId.{ReqId}
use Rattle.sc_value.specs.declared.message.Request.{Request}
use Rattle.sc_terms.specs.declared.settings.Config.{Config}
use Rattle.sc_terms.specs.declared.views.RequestView.{RequestView}
use Rattle.sc_state.specs.declared.orders.Order.TheVariants as orders
use Rattle.sc_state.specs.declared.queue.Queued.TheVariants as queued
use Rattle.sc_state.specs.declared.session.Kept.{Kept}
use Rattle.sc_state.specs.declared.session.Known.{Known}
use Rattle.sc_state.specs.declared.session.Session.{Session}
use Rattle.sc_state.specs.declared.working.Working.{Working}
use Rattle.sc_model.specs.SessionStates.{ack}
use Rattle.sc_hosts.specs.Acting.{with_next_branch as drawn, hops_spent, in_view, is_request_event, passed_later, passed_on, passed_request_of, passes_later, sent_proxy}
use Rattle.sc_hosts.specs.Giving.{answering, giving}
use Rattle.sc_hosts.specs.Legs.{session_for}
use Rattle.sc_hosts.specs.Looking.{is_request, request_in, same_request}
use Rattle.sc_hosts.specs.Messages.{bare_answer, on_branch, passed_request}
use Rattle.sc_hosts.specs.Preparing.{kept_of, prepared_for}
use Rattle.sc_hosts.specs.PreparingResponses.{is_invalid}
use Rattle.sc_hosts.specs.ViewChanges.{view_with_answer as answered, answered_in, is_owed, tidy}
use Rattle.sc_hosts.specs.Words.{too_many_hops}
use Rattle.sc_hosts.specs.Working.{next_branch}
use Rattle.sc_walked.proofs.WalkCalls.{answering-known}
use Rattle.sc_lasting.specs.Lasting.{All}
use Rattle.sc_lasting.proofs.Began.{same-number, test-found}
use Rattle.sc_lasting.proofs.LaterRequests.{request-next}
use Rattle.sc_lasting.proofs.Parts.{all-found}
use Rattle.sc_proxying.proofs.Requests.{IsKeptAs}

-- nothing more is proxied, or this request of this number, on the next branch
pub record Passes (number : ℕ) (came : Request) (w after : Working) : Type 0 where
  pub up : w.play.view.counter ≤ after.play.view.counter
  pub what : (after.known.proxies ≡ w.known.proxies)
      ⊎ ((kept : Kept) × (kept.id.0 ≡ number) × (kept.request ≡ came) × (after.known.proxies ≡ w.known.proxies ++ sent_proxy kept (w.play.view.counter + 1) ∷ [])
      × (w.play.view.counter + 1 ≤ after.play.view.counter))

up-same : (n : ℕ) → n ≤ n
up-same n = omega arith

one-up : (n : ℕ) → n ≤ n + 1
one-up n = omega arith

nothing : (number : ℕ) (came : Request) (w after : Working) → after.known.proxies ≡ w.known.proxies → after.play.view.counter ≡ w.play.view.counter → Passes number came w after
nothing number came w after same counter = record { up = rw counter (up-same w.play.view.counter); what = inl same }

if-passes : (number : ℕ) (came : Request) (w : Working) (b : Bool) (x y : Working) → Passes number came w x → Passes number came w y → Passes number came w (cond b x y)
if-passes number came w true x y p q = p
if-passes number came w false x y p q = q

hops-pass : (config : Config) (number : ℕ) (came : Request) (request : RequestView) (w : Working) → Passes number came w (hops_spent config request w)
unfolding hops_spent answered answered_in tidy
hops-pass config number came request w =
    if-passes number came w (is_owed request) (in_view (answered (Some request) 483 w.play.view) (answering config (Some request) (bare_answer 483 too_many_hops) w)) w
    (nothing number came w _ (ap (λ (known : Known). known.proxies) (answering-known config (Some request) (bare_answer 483 too_many_hops) w)) refl) (nothing number came w w refl refl)

passed_on-passes : (config : Config) (number : ℕ) (came : Request) (kept : Kept) (w : Working) → kept.id.0 ≡ number → kept.request ≡ came → Passes number came w (passed_on config kept w)
unfolding passed_on
passed_on-passes config number came kept w is same = by (same_bytes kept.request.method ack)
  where
    sent : Request
    sent = on_branch config w.play.view (next_branch w) (passed_request kept.request)

    by : (b : Bool) → Passes number came w (in_view (drawn w.play.view) (cond b (giving (orders.Acknowledge sent ∷ []) w)
        (giving (orders.Send (next_branch w) sent ∷ []) (record w { known = record w.known { proxies = w.known.proxies ++ sent_proxy kept (next_branch w) ∷ [] } }))))
    by true = record { up = one-up w.play.view.counter; what = inl refl }
    by false = record { up = one-up w.play.view.counter; what = inr (kept, is, same, refl, up-same (w.play.view.counter + 1)) }

passed_later-passes : (config : Config) (number : ℕ) (came : Request) (request : RequestView) (kept : Option Kept) (w : Working) → All (IsKeptAs number came) w.known.kept → request.id.0 ≡ number → kept_of w.known request.id ≡ kept
    → Passes number came w (passed_later config request kept w)
unfolding passed_later IsKeptAs
passed_later-passes config number came request None w keeps is found = nothing number came w w refl refl
passed_later-passes config number came request (Some kept) w keeps is found =
    let own : kept.id.0 ≡ number = same-number kept.id.0 request.id.0 (test-found (λ kept. same_request kept.id request.id) w.known.kept kept found) ∙ is in
    if-passes number came w (request.initial || not request.proxied || is_invalid w.known request.sess) w (cond (request.hops == 0) (hops_spent config request w) (passed_on config kept w)) (nothing number came w w refl refl)
    (if-passes number came w (request.hops == 0) (hops_spent config request w) (passed_on config kept w) (hops-pass config number came request w)
    (passed_on-passes config number came kept w own (all-found (IsKeptAs number came) (λ kept. same_request kept.id request.id) w.known.kept kept found keeps own)))

request_of-passes : (config : Config) (number : ℕ) (came : Request) (request : Option RequestView) (w : Working) → All (IsKeptAs number came) w.known.kept → ((r : RequestView) → request ≡ Some r → r.id.0 ≡ number)
    → Passes number came w (passed_request_of config request w)
unfolding passed_request_of
request_of-passes config number came None w keeps is = nothing number came w w refl refl
request_of-passes config number came (Some request) w keeps is = passed_later-passes config number came request _ w keeps (is request refl) refl

found-number : (config : Config) (number : ℕ) (req : Option ReqId) (w : Working) → ((r : ReqId) → req ≡ Some r → r.0 ≡ number)
    → (r : RequestView) → option_and_then (request_in w.play.view) req ≡ Some r → r.id.0 ≡ number
found-number config number None w is r found = cc
found-number config number (Some req) w is r found = same-number r.id.0 req.0 (test-found (is_request req) w.play.view.requests r found) ∙ is req refl

pub later-passes : (config : Config) (number : ℕ) (request : Request) (req : Option ReqId) (w : Working) → All (IsKeptAs number request) w.known.kept → ((r : ReqId) → req ≡ Some r → r.0 ≡ number)
    → Passes number request w (passes_later config (queued.Request request) req w)
unfolding passes_later is_request_event
later-passes config number request req w keeps is = request_of-passes config number request (option_and_then (request_in w.play.view) req) w keeps (found-number config number req w is)

-- ## The number of the request that came

pub shown-next : (config : Config) (ringing : List ℕ) (x : Session) (number : ℕ) (request : Request) (r : ReqId)
    → (prepared_for config ringing x number (queued.Request request)).req ≡ Some r → r.0 ≡ x.view.next_request
unfolding prepared_for
shown-next config ringing x number request r is = request-next x number request (session_for x request) r is
