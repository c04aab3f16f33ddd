-- What an offer leaves, where its response was accepted and no call behind it was refused.
use Rattle.std.proofs.Common.{◌≡◌, ◌<◌, ℕ, ◌^◌, false, Some, refl, sym, ap, subst, ◌∙◌}
use Rattle.std.specs.Prelude.{decimal}
use Rattle.sc_tokens.specs.Cuts.{has}
use Rattle.sc_value.specs.declared.ids.ReqId.{ReqId}
use Rattle.sc_terms.specs.declared.calls.Call.{Call}
use Rattle.sc_terms.specs.declared.calls.Call.TheVariants as calls
use Rattle.sc_terms.specs.declared.calls.CallAnswer.TheVariants as answers
use Rattle.sc_terms.specs.declared.views.Period.TheVariants.{Once}
use Rattle.sc_state.specs.declared.working.Play.{Play}
use Rattle.sc_tokens.specs.Bytes.{Bytes}
use Rattle.sc_hosts.specs.Effects.{after_listed, answer_of, answer_by, answer_to_call as accepted}
use Rattle.sc_hosts.specs.HelperParts.{accepted_then}
use Rattle.sc_hosts.specs.Offers.{rel_name, offer_text}
use Rattle.sc_hosts.specs.Scripting.{Script, Make, only, with_number, attribute, is_refused}
use Rattle.sc_promised.proofs.Attributes.{accepted-none, set-attribute}
use Rattle.sc_promised.proofs.Texts.{offer-read}
use Rattle.sc_promised.specs.Reliable.{Pending, remembered_of, remembered_at, Given, offer_call, offers, play_after}

-- a script goes on behind a call that was accepted
on-accepted : (play : Play) (call : Call) (script : Script) → is_refused (answer_of play call) ≡ false
    → play_after play (accepted_then call script) ≡ play_after (after_listed play call) script
unfolding play_after accepted_then
on-accepted play call script is = rw (is, play_after) refl

-- and for the number of a timer
pub timer-number : (play : Play) (delay : ℕ) (info : Bytes)
    → is_refused (answer_of play (calls.StartTimer delay Once info)) ≡ false
    → answer_of play (calls.StartTimer delay Once info) ≡ answers.Number play.view.next_timer
unfolding answer_of answer_by accepted
timer-number play delay info is = rw (accepted-none play (calls.StartTimer delay Once info) is) refl

behind-timer : (play : Play) (delay : ℕ) (info : Bytes) (next : ℕ → Script)
    → is_refused (answer_of play (calls.StartTimer delay Once info)) ≡ false
    → play_after play (Make (calls.StartTimer delay Once info) (with_number next)) ≡ play_after (after_listed play (calls.StartTimer delay Once info)) (next play.view.next_timer)
unfolding play_after with_number
behind-timer play delay info next is = rw (timer-number play delay info is, play_after) refl

set-last : (play : Play) (name value : Bytes) → is_refused (answer_of play (calls.SetAttribute name value)) ≡ false
    → attribute name (play_after play (only (calls.SetAttribute name value))).view ≡ Some value
unfolding play_after only
set-last play name value is = set-attribute play name value (accepted-none play (calls.SetAttribute name value) is)

-- the offer is then the pending one, with its number
pub offered-pending : (play : Play) (req : ReqId) (r c code : ℕ) (reason body : Bytes) (given : Given play req r c code reason body)
    → has 32 (decimal r) ≡ false → has 32 (decimal c) ≡ false → has 32 (decimal given.timer) ≡ false → r < 2 ^ 64
    → c < 2 ^ 64 → given.timer < 2 ^ 64
    → remembered_at (play_after play (offers req r c code reason body)).view req.0 ≡ Pending r c given.timer
unfolding offers
offered-pending play req r c code reason body given lr lc lt r_in c_in t_in =
    let one = after_listed play (offer_call req r code reason body) in
    let two = after_listed one (calls.SetAttribute (rel_name req.0) (offer_text r c 0)) in
    let three = after_listed two (calls.StartTimer 32000 Once (rel_name req.0)) in
    let name : Bytes = rel_name req.0 in
    let named : is_refused (answer_of three (calls.SetAttribute name (offer_text r c two.view.next_timer))) ≡ false = subst (λ (t : ℕ). is_refused (answer_of three (calls.SetAttribute name (offer_text r c t))) ≡ false) given.timer_is given.named in
    let all : play_after play (offers req r c code reason body) ≡ play_after three (only (calls.SetAttribute name (offer_text r c two.view.next_timer))) =
    on-accepted play (offer_call req r code reason body) _ given.responded ∙ on-accepted one (calls.SetAttribute name (offer_text r c 0)) _ given.noted
    ∙ behind-timer two 32000 name (λ t. only (calls.SetAttribute name (offer_text r c t))) given.timed in
    ap (λ p. remembered_at p.view req.0) all ∙ ap remembered_of (set-last three name (offer_text r c two.view.next_timer) named ∙ ap (λ t. Some (offer_text r c t)) (sym given.timer_is))
    ∙ offer-read r c given.timer lr lc lt r_in c_in t_in
