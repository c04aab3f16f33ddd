-- What the calls of a script leave of an attribute, where none of them is refused.
use Rattle.std.proofs.Common.{◌≡◌, ℕ, Bool, true, false, Option, None, Some, List, refl, sym, ap, subst, ◌∙◌}
use Rattle.std.specs.Prelude.{cond, is_some}
use Rattle.sc_value.specs.declared.ids.ReqId.{ReqId}
use Rattle.sc_value.specs.declared.ids.SessId.{SessId}
use Rattle.sc_value.specs.declared.ids.TimerId.{TimerId}
use Rattle.sc_value.specs.declared.parts.Field.{Field}
use Rattle.sc_tokens.specs.Names.{same_bytes}
use Rattle.sc_terms.specs.declared.calls.Answer.{Answer}
use Rattle.sc_terms.specs.declared.calls.Call.{Call}
use Rattle.sc_terms.specs.declared.calls.Call.TheVariants as calls
use Rattle.sc_terms.specs.declared.calls.CallAnswer.{CallAnswer}
use Rattle.sc_terms.specs.declared.calls.CallAnswer.TheVariants as answers
use Rattle.sc_terms.specs.declared.calls.Refusal.{Refusal}
use Rattle.sc_terms.specs.declared.inside.Inside.{Inside}
use Rattle.sc_terms.specs.declared.views.View.{View}
use Rattle.sc_state.specs.declared.working.Play.{Play}
use Rattle.sc_tokens.specs.Bytes.{Bytes}
use Rattle.sc_hosts.specs.Effects.{answer_to_call as accepted, after_call, after_listed, answer_of, played_by}
use Rattle.sc_hosts.specs.HelperParts.{accepted_then}
use Rattle.sc_hosts.specs.Looking.{without_sip_session as removed, without_link as unlinked, unlinked_from}
use Rattle.sc_hosts.specs.Refusals.{refusal}
use Rattle.sc_hosts.specs.Scripting.{Script, Done, Make, attribute, only, with_number}
use Rattle.sc_hosts.specs.ViewChanges.{view_without as invalidated, settled_requests, tidy}
use Rattle.sc_helpers.specs.Leading.{cancel_some, remove_if}
use Rattle.sc_helpers.proofs.Plays.{answer_is}
use Rattle.sc_promised.specs.Reliable.{play_after}
use Rattle.sc_promised.specs.Refreshing.{IsAccepted}
use Rattle.sc_promised.proofs.Attributes.{accepted-none, responded-attributes, cancelled-attributes, created-attributes, sent-attributes, set-other, remove-other, value-of}
use Rattle.sc_notifies.specs.States.{IsOnce}

-- ## Behind a call

pub behind_call : (play : Play) (call : Call) (script : Script) → IsAccepted play (accepted_then call script)
    → (refusal play call ≡ None) × IsAccepted (after_listed play call) script × (play_after play (accepted_then call script) ≡ play_after (after_listed play call) script)
unfolding IsAccepted accepted_then play_after
behind_call play call script ok =
    (accepted-none play call ok.0, subst (λ (b : Bool). IsAccepted (after_listed play call) (cond b Done script)) ok.0 ok.1, ap (λ (b : Bool). play_after (after_listed play call) (cond b Done script)) ok.0)

-- behind one that gave a number
pub behind_number : (play : Play) (call : Call) (next : ℕ → Script) (n : ℕ) → accepted play call ≡ answers.Number n → IsAccepted play (Make call (with_number next))
    → (refusal play call ≡ None) × IsAccepted (after_listed play call) (next n) × (play_after play (Make call (with_number next)) ≡ play_after (after_listed play call) (next n))
unfolding IsAccepted play_after with_number
behind_number play call next n gives ok =
    let has : answer_of play call ≡ answers.Number n = answer_is play call (accepted-none play call ok.0) ∙ gives in
    (accepted-none play call ok.0, subst (λ (a : CallAnswer). IsAccepted (after_listed play call) (with_number next a)) has ok.1, ap (λ (a : CallAnswer). play_after (after_listed play call) (with_number next a)) has)

-- ## Scripts that leave an attribute

abbrev pub Keeps : Bytes → Script → Type 0
Keeps name script = (play : Play) → IsAccepted play script → attribute name (play_after play script).view ≡ attribute name play.view

abbrev pub KeepsCall : Bytes → Call → Type 0
KeepsCall name call = (play : Play) → attribute name (after_listed play call).view ≡ attribute name play.view

pub done_keeps : (name : Bytes) → Keeps name Done
unfolding play_after
done_keeps name = λ play ok. refl

pub only_keeps : (name : Bytes) (call : Call) → KeepsCall name call → Keeps name (only call)
unfolding only play_after
only_keeps name call kept = λ play ok. kept play

pub then_keeps : (name : Bytes) (call : Call) (script : Script) → KeepsCall name call → Keeps name script → Keeps name (accepted_then call script)
then_keeps name call script kept keeps = λ play ok.
    let (none, rest, same) = behind_call play call script ok in
    ap (λ (p : Play). attribute name p.view) same ∙ keeps (after_listed play call) rest ∙ kept play

pub number_keeps : (name : Bytes) (call : Call) (next : ℕ → Script) → KeepsCall name call → ((n : ℕ) → Keeps name (next n)) → Keeps name (Make call (with_number next))
unfolding IsAccepted play_after with_number
number_keeps name call next kept keeps = λ play ok. by play (answer_of play call) ok.1
  where
    by : (play : Play) (answer : CallAnswer) → IsAccepted (after_listed play call) (with_number next answer) → attribute name (play_after (after_listed play call) (with_number next answer)).view ≡ attribute name play.view
    by play answers.Fine ok = kept play
    by play (answers.Number n) ok = keeps n (after_listed play call) ok ∙ kept play
    by play (answers.Refused refused) ok = kept play

-- ## Calls that leave all attributes

pub same_attributes : (name : Bytes) (a b : View) → a.attributes ≡ b.attributes → attribute name a ≡ attribute name b
unfolding attribute
same_attributes name a b same = rw same refl

pub responded_keeps : (name : Bytes) (req : ReqId) (answer : Answer) → KeepsCall name (calls.Respond req answer)
responded_keeps name req answer = λ play. same_attributes name (after_listed play (calls.Respond req answer)).view play.view (responded-attributes play req answer)

pub created_keeps : (name : Bytes) (sess : SessId) (ask : Inside) → KeepsCall name (calls.CreateInDialog sess ask)
created_keeps name sess ask = λ play. same_attributes name (after_listed play (calls.CreateInDialog sess ask)).view play.view (created-attributes play sess ask)

pub sent_keeps : (name : Bytes) (n : ℕ) → KeepsCall name (calls.Send n)
sent_keeps name n = λ play. same_attributes name (after_listed play (calls.Send n)).view play.view (sent-attributes play n)

unlinked_attributes : (found : Option SessId) (view : View) → (unlinked_from found view).attributes ≡ view.attributes
unfolding unlinked_from
unlinked_attributes None view = refl
unlinked_attributes (Some other) view = refl

invalidated_by : (play : Play) (sess : SessId) (found : Option Refusal) → (played_by play (calls.InvalidateSession sess) found).view.attributes ≡ play.view.attributes
unfolding played_by after_call invalidated tidy removed unlinked settled_requests
invalidated_by play sess None = unlinked_attributes _ (settled_requests sess 500 play.view)
invalidated_by play sess (Some refused) = refl

invalidated_attributes : (play : Play) (sess : SessId) → (after_listed play (calls.InvalidateSession sess)).view.attributes ≡ play.view.attributes
unfolding after_listed
invalidated_attributes play sess = invalidated_by play sess (refusal play (calls.InvalidateSession sess))

pub invalidated_keeps : (name : Bytes) (sess : SessId) → KeepsCall name (calls.InvalidateSession sess)
invalidated_keeps name sess = λ play. same_attributes name (after_listed play (calls.InvalidateSession sess)).view play.view (invalidated_attributes play sess)

-- ## An attribute of another name

pub set_keeps : (name value other : Bytes) → same_bytes name other ≡ false → KeepsCall other (calls.SetAttribute name value)
unfolding after_listed
set_keeps name value other apart = λ play. set-other name value other apart play (refusal play (calls.SetAttribute name value))

removed_keeps : (name other : Bytes) → same_bytes name other ≡ false → KeepsCall other (calls.RemoveAttribute name)
unfolding after_listed
removed_keeps name other apart = λ play. remove-other name other apart play (refusal play (calls.RemoveAttribute name))

pub remove_keeps : (name other : Bytes) (set : Bool) (script : Script) → same_bytes name other ≡ false → Keeps other script → Keeps other (remove_if set name script)
unfolding remove_if
remove_keeps name other false script apart keeps = keeps
remove_keeps name other true script apart keeps = then_keeps other (calls.RemoveAttribute name) script (removed_keeps name other apart) keeps

-- ## The end of an attribute

abbrev pub Empties : Bytes → Bool → Script → Type 0
Empties name set script =
    (play : Play) → is_some (attribute name play.view) ≡ set → IsOnce name play.view.attributes → IsAccepted play script → attribute name (play_after play script).view ≡ None

none_of : (o : Option Bytes) → is_some o ≡ false → o ≡ None
none_of None is = refl
none_of (Some text) is = cc

removed_none : (play : Play) (name : Bytes) → refusal play (calls.RemoveAttribute name) ≡ None → IsOnce name play.view.attributes → attribute name (after_listed play (calls.RemoveAttribute name)).view ≡ None
unfolding after_listed played_by after_call attribute IsOnce
removed_none play name none once = rw none (ap value-of once)

pub remove_empties : (name : Bytes) (set : Bool) (script : Script) → Keeps name script → Empties name set (remove_if set name script)
unfolding remove_if
remove_empties name false script keeps = λ play has once ok. keeps play ok ∙ none_of (attribute name play.view) has
remove_empties name true script keeps = λ play has once ok.
    let (none, rest, same) = behind_call play (calls.RemoveAttribute name) script ok in
    ap (λ (p : Play). attribute name p.view) same ∙ keeps (after_listed play (calls.RemoveAttribute name)) rest ∙ removed_none play name none once

pub cancel_empties : (name : Bytes) (set : Bool) (o : Option TimerId) (script : Script) → Empties name set script → Empties name set (cancel_some o script)
unfolding cancel_some
cancel_empties name set None script empties = empties
cancel_empties name set (Some id) script empties = λ play has once ok.
    let (none, rest, same) = behind_call play (calls.CancelTimer id) script ok in
    let left : (after_listed play (calls.CancelTimer id)).view.attributes ≡ play.view.attributes = cancelled-attributes play id in
    ap (λ (p : Play). attribute name p.view) same
    ∙ empties (after_listed play (calls.CancelTimer id)) (ap is_some (same_attributes name (after_listed play (calls.CancelTimer id)).view play.view left) ∙ has) (subst (λ (fields : List Field). IsOnce name fields) (sym left) once) rest
