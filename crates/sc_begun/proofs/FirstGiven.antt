-- The initial requests that a turn gives to send have no To tag, where what it proxies is the request that began the session and
-- that has none: the facts from which the walk over its event, its calls and its end shows it.
use Rattle.std.proofs.Common.{◌≡◌, inl, inr, ℕ, Bool, true, false, Option, None, List, [], ◌∷◌, refl, sym, subst}
use Rattle.std.specs.Prelude.{cond, filter, is_some, not}
use Rattle.std.specs.List.{find}
use Rattle.sc_value.specs.Params.{is_named, param_value, tag_name}
use Rattle.sc_value.specs.declared.ids.AppId.{AppId}
use Rattle.sc_value.specs.declared.ids.ReqId.{ReqId}
use Rattle.sc_value.specs.declared.message.Request.{Request}
use Rattle.sc_value.specs.declared.parts.Address.{Address}
use Rattle.sc_terms.specs.declared.calls.CallRecord.{CallRecord}
use Rattle.sc_terms.specs.declared.calls.End.{End}
use Rattle.sc_terms.specs.declared.settings.Config.{Config}
use Rattle.sc_state.specs.declared.proxy.Proxy.{Proxy}
use Rattle.sc_state.specs.declared.queue.Queued.{Queued}
use Rattle.sc_state.specs.declared.session.Session.{Session}
use Rattle.sc_state.specs.declared.working.Prepared.{Prepared}
use Rattle.sc_state.specs.declared.working.Working.{Working}
use Rattle.sc_model.specs.Dialogs.{tag_of}
use Rattle.sc_model.specs.Responses.{address_without_tag as untagged}
use Rattle.sc_hosts.specs.Acting.{all_act, drafts_ended, after_fault as faulted, passes_later}
use Rattle.sc_hosts.specs.Messages.{asked_request, leg_request, on_branch, proxied_request}
use Rattle.sc_hosts.specs.Preparing.{prepared_for}
use Rattle.sc_hosts.specs.Working.{worked_all}
use Rattle.sc_lasting.specs.Lasting.{All}
use Rattle.sc_lasting.proofs.Parts.{all-both, all-map}
use Rattle.sc_given.specs.Givings.{DraftLaws, GivingLaws, MayPass, MayStart, Starts}
use Rattle.sc_given.proofs.GivenCalls.{worked_all-gives}
use Rattle.sc_given.proofs.GivenEnds.{all_act-gives, before-gives}
use Rattle.sc_given.proofs.GivenPassing.{passes_later-gives}
use Rattle.sc_given.proofs.GivenShown.{prepared-kind}
use Rattle.sc_hops.specs.Hops.{IsAny, IsUntagged}
use Rattle.sc_begun.specs.Begun.{IsFirst}
use Rattle.sc_begun.proofs.FirstProxies.{IsProper}

-- each initial request that was given so far in a turn has no To tag
abbrev pub Firsts : Working → Type 0
Firsts working = All IsUntagged working.orders

first-giving : GivingLaws IsUntagged (All IsUntagged)
unfolding IsUntagged
first-giving = record { more = λ given new kind had. all-both IsUntagged given new had kind; responds = λ event response. tt; cancels = λ branch. tt; cancels_now = λ branch. tt }

-- ## A request of one's own has no To tag

left-step : {A : Type 0} (test : A → Bool) (x : A) (rest : List A) (b : Bool) → test x ≡ b → find test rest ≡ None → find test (cond (not b) (x ∷ rest) rest) ≡ None
left-step test x rest true is none = none
left-step test x rest false is none = rw is none

left-none : {A : Type 0} (test : A → Bool) (xs : List A) → find test (filter (λ x. not (test x)) xs) ≡ None
left-none test [] = refl
left-none test (x ∷ xs) = left-step test x (filter (λ x. not (test x)) xs) (test x) refl (left-none test xs)

no-tag : (address : Address) → is_some (tag_of (untagged address)) ≡ false
unfolding untagged param_value
no-tag address = rw (left-none (is_named tag_name) address.params) refl

first-drafts : DraftLaws IsUntagged IsFirst IsAny
unfolding IsUntagged on_branch asked_request leg_request
first-drafts = record {
  asked = λ call_id tag ask. no-tag ask.to;
  leg = λ call_id tag uri request. no-tag request.head.to;
  next = λ dialog ask. tt;
  ack = λ dialog number body. tt;
  first_contact = λ contacts request first. first;
  later_contact = λ contacts request any. tt;
  begins = λ config view branch directive region state request first. first;
  sends = λ config view branch request any. tt;
  acknowledges = λ config view branch request any. tt;
}

-- what a turn shows
pub prepared-first : (config : Config) (ringing : List ℕ) (x : Session) (number : ℕ) (event : Queued) → All IsUntagged (prepared_for config ringing x number event).orders
unfolding IsUntagged
prepared-first config ringing x number event = prepared-kind IsUntagged (λ event response. tt) config ringing x number event

-- all calls of a turn
pub worked_all-first : (config : Config) (shown : Prepared) (made : List CallRecord) → All IsUntagged shown.orders → Firsts (worked_all config shown made)
worked_all-first config shown made firsts = worked_all-gives IsUntagged (All IsUntagged) first-giving IsFirst IsAny first-drafts config shown made firsts

-- before proxies act
pub before-first : (config : Config) (req : Option ReqId) (end : End) (working : Working) → Firsts working → Firsts (faulted config req end (drafts_ended working))
before-first config req end working firsts = before-gives config IsUntagged (All IsUntagged) first-giving req end working firsts

-- ## Proxies

abbrev ProxiesFirst : Proxy → Type 0
ProxiesFirst proxy = IsFirst proxy.request

first-starts : (config : Config) (epoch : ℕ) (app : AppId) → Starts config epoch app IsUntagged ProxiesFirst
unfolding IsUntagged on_branch proxied_request
first-starts config epoch app = λ view named proxy first branch directive region state uri. first

proper-start : (began : Request) → IsFirst began → (proxy : Proxy) → IsProper began proxy → MayStart ProxiesFirst proxy
unfolding IsProper MayStart
proper-start began first proxy (inl is) = inl (subst (λ (r : Request). IsFirst r) (sym is) first)
proper-start began first proxy (inr bare) = inr bare.1

pub all_act-first : (config : Config) (began : Request) (working : Working) → IsFirst began → All (IsProper began) working.known.proxies → Firsts working → Firsts (all_act config working)
all_act-first config began working first proper firsts =
    all_act-gives config IsUntagged (All IsUntagged) first-giving working.play.view.epoch working.play.view.app ProxiesFirst (first-starts config working.play.view.epoch working.play.view.app) working
    (all-map (IsProper began) (MayStart ProxiesFirst) working.known.proxies (proper-start began first) proper) (refl, refl) firsts

-- ## A later request is passed on

later-passes : (config : Config) (event : Queued) (req : Option ReqId) (working : Working) → MayPass config IsUntagged event req working
unfolding IsUntagged
later-passes config event req working = λ later request kept found has view branch. (tt, tt)

pub passes_later-first : (config : Config) (event : Queued) (req : Option ReqId) (working : Working) → Firsts working → Firsts (passes_later config event req working)
passes_later-first config event req working firsts = passes_later-gives IsUntagged (All IsUntagged) first-giving config event req working (later-passes config event req working) firsts
