-- As a turn ends it passes on the later request that came to it, where that goes on, and gives nothing else but an answer.
use Rattle.std.proofs.Common.{◌≡◌, inl, inr, ◌++◌, Bool, true, false, Option, None, Some, List, [], ◌∷◌, refl, ap, subst, sym}
use Rattle.std.specs.Prelude.{◌==◌, ◌||◌, not, cond, option_and_then}
use Rattle.sc_value.specs.declared.ids.ReqId.{ReqId}
use Rattle.sc_terms.specs.declared.settings.Config.{Config}
use Rattle.sc_terms.specs.declared.views.RequestView.{RequestView}
use Rattle.sc_terms.specs.declared.views.View.{View}
use Rattle.sc_state.specs.declared.orders.Order.{Order}
use Rattle.sc_state.specs.declared.orders.Order.TheVariants as orders
use Rattle.sc_state.specs.declared.queue.Queued.{Queued}
use Rattle.sc_state.specs.declared.session.Kept.{Kept}
use Rattle.sc_state.specs.declared.working.Working.{Working}
use Rattle.sc_hosts.specs.Acting.{in_view, hops_spent, passed_on, passed_later, passed_request_of, is_request_event, passes_later}
use Rattle.sc_hosts.specs.Giving.{giving}
use Rattle.sc_hosts.specs.Looking.{request_in}
use Rattle.sc_hosts.specs.Preparing.{kept_of}
use Rattle.sc_hosts.specs.PreparingResponses.{is_invalid}
use Rattle.sc_hosts.specs.Working.{next_branch}
use Rattle.sc_given.specs.Givings.{Ends, Given_end, GivingLaws, IsPassed, MayPass, Passed_end, Passes, passed_now}
use Rattle.sc_given.proofs.GivenCalls.{answering-gives, gives-one}

module _ (Kind : Order → Type 0) (Given : List Order → Type 0) (law : GivingLaws Kind Given) (config : Config) (event : Queued) (req : Option ReqId) where
  abbrev Ending : Working → Working → Type 0
  Ending working after = Ends Given config event req working after

  if-ends : (b : Bool) (working x y : Working) → Ending working x → Ending working y → Ending working (cond b x y)
  if-ends true working x y p q = p
  if-ends false working x y p q = q

  if-given : (b : Bool) (x y : Working) → Given x.orders → Given y.orders → Given (cond b x y).orders
  if-given true x y p q = p
  if-given false x y p q = q

  hops_spent-gives : (request : RequestView) (working : Working) → Given working.orders → Given (hops_spent config request working).orders
  unfolding hops_spent
  hops_spent-gives request working had = if-given _ _ working (answering-gives Kind Given law config (Some request) _ working had) had

  module _ (later : is_request_event event ≡ true) where
    passed_on-by : (request : RequestView) (kept : Kept) (working known : Working) (view : View) (b : Bool)
        → option_and_then (request_in working.play.view) req ≡ Some request → kept_of working.known request.id ≡ Some kept → request.proxied ≡ true
        → known.orders ≡ working.orders
        → Ending working (in_view view (cond b (giving (orders.Acknowledge (passed_now config kept working) ∷ []) working) (giving (orders.Send (next_branch working) (passed_now config kept working) ∷ []) known)))
    unfolding IsPassed
    passed_on-by request kept working known view true found has proxied same =
        Passed_end request kept (orders.Acknowledge (passed_now config kept working)) later found has proxied (inr refl) refl
    passed_on-by request kept working known view false found has proxied same =
        Passed_end request kept (orders.Send (next_branch working) (passed_now config kept working)) later found has proxied (inl refl)
        (ap (λ given. given ++ orders.Send (next_branch working) (passed_now config kept working) ∷ []) same)

    passed_on-ends : (request : RequestView) (kept : Kept) (working : Working)
        → option_and_then (request_in working.play.view) req ≡ Some request → kept_of working.known request.id ≡ Some kept → request.proxied ≡ true
        → Ending working (passed_on config kept working)
    unfolding passed_on
    passed_on-ends request kept working found has proxied = passed_on-by request kept working _ _ _ found has proxied refl

    -- what stops a request, or lets it go on where it is proxied
    stops-or : (first proxied invalid : Bool) (working x y : Working) → Ending working x → (proxied ≡ true → Ending working y) → Ending working (cond (first || not proxied || invalid) x y)
    stops-or first true invalid working x y p q = if-ends (first || false || invalid) working x y p (q refl)
    stops-or true false invalid working x y p q = p
    stops-or false false invalid working x y p q = p

    passed_later-ends : (request : RequestView) (kept : Option Kept) (working : Working)
        → option_and_then (request_in working.play.view) req ≡ Some request → kept_of working.known request.id ≡ kept → Given working.orders
        → Ending working (passed_later config request kept working)
    unfolding passed_later
    passed_later-ends request None working found has had = Given_end had
    passed_later-ends request (Some kept) working found has had =
        stops-or request.initial request.proxied (is_invalid working.known request.sess) working working _ (Given_end had)
        (λ proxied. if-ends (request.hops == 0) working (hops_spent config request working) (passed_on config kept working) (Given_end (hops_spent-gives request working had))
        (passed_on-ends request kept working found has proxied))

    passed_request_of-ends : (request : Option RequestView) (working : Working)
        → option_and_then (request_in working.play.view) req ≡ request → Given working.orders → Ending working (passed_request_of config request working)
    unfolding passed_request_of
    passed_request_of-ends None working found had = Given_end had
    passed_request_of-ends (Some request) working found had = passed_later-ends request _ working found refl had

  passes-by : (working : Working) (b : Bool) → is_request_event event ≡ b → Given working.orders
      → Ending working (cond b (passed_request_of config (option_and_then (request_in working.play.view) req) working) working)
  passes-by working true is had = passed_request_of-ends is _ working refl had
  passes-by working false is had = Given_end had

  -- what a turn gives at its end
  pub passes_later-ends : (working : Working) → Given working.orders → Ending working (passes_later config event req working)
  unfolding passes_later
  passes_later-ends working had = passes-by working (is_request_event event) refl had

  -- ## Where what is passed on is of the kind

  passed-kind : (kept : Kept) (working : Working) (order : Order) → IsPassed config kept working order → Passes config Kind kept.request → Kind order
  unfolding IsPassed
  passed-kind kept working order (inl is) fits = subst Kind (sym is) (fits working.play.view (next_branch working)).0
  passed-kind kept working order (inr is) fits = subst Kind (sym is) (fits working.play.view (next_branch working)).1

  ends-give : (working after : Working) → MayPass config Kind event req working → Given working.orders → Ending working after → Given after.orders
  ends-give working after fits had (Given_end has) = has
  ends-give working after fits had (Passed_end request kept order later found has proxied passed given) =
      subst Given (sym given) (gives-one Kind Given law working.orders order (passed-kind kept working order passed (fits later request kept found has)) had)

  pub passes_later-gives : (working : Working) → MayPass config Kind event req working → Given working.orders → Given (passes_later config event req working).orders
  passes_later-gives working fits had = ends-give working (passes_later config event req working) fits had (passes_later-ends working had)
