-- What calls make of attributes.
use Rattle.std.proofs.Common.{◌≡◌, ℕ, ◌++◌, Bool, true, false, Option, None, Some, List, [], ◌∷◌, refl, arith, sym, subst}
use Rattle.std.specs.Prelude.{cond, ◌||◌, option_map, nat_eq}
use Rattle.std.specs.List.{find, list_any}
use Rattle.std.proofs.lemmas.Bool.Decides.{nat_tests}
use Rattle.sc_value.specs.Lists.{change_first, remove_first}
use Rattle.sc_value.specs.declared.parts.Field.{Field}
use Rattle.sc_tokens.specs.Names.{same_bytes}
use Rattle.sc_terms.specs.declared.calls.Answer.{Answer}
use Rattle.sc_terms.specs.declared.calls.Call.{Call}
use Rattle.sc_terms.specs.declared.calls.Call.TheVariants as calls
use Rattle.sc_terms.specs.declared.calls.Refusal.{Refusal}
use Rattle.sc_terms.specs.declared.views.Period.{Period}
use Rattle.sc_terms.specs.declared.views.RequestView.{RequestView}
use Rattle.sc_terms.specs.declared.inside.Inside.{Inside}
use Rattle.sc_value.specs.declared.ids.ReqId.{ReqId}
use Rattle.sc_value.specs.declared.ids.TimerId.{TimerId}
use Rattle.sc_value.specs.declared.ids.SessId.{SessId}
use Rattle.sc_state.specs.declared.working.Play.{Play}
use Rattle.sc_state.specs.declared.working.Draft.{Draft}
use Rattle.sc_tokens.specs.Bytes.{Bytes}
use Rattle.sc_hosts.specs.Effects.{after_listed, played_by, after_call, answer_of, answer_by, with_attribute, with_timer, created_later, play_with_request as sent, with_draft, answer_to_call as accepted}
use Rattle.sc_hosts.specs.Looking.{request_in}
use Rattle.sc_hosts.specs.Refusals.{refusal, is_set}
use Rattle.sc_hosts.specs.Scripting.{attribute, is_refused}
use Rattle.sc_hosts.specs.ViewChanges.{view_with_answer as answered, answered_in, tidy}
use Rattle.sc_hosts.specs.RefusalParts.{draft_in}
use Rattle.sc_hosts.proofs.Deliveries.{same_bytes-equal}

refused-none : (play : Play) (call : Call) (found : Option Refusal) → is_refused (answer_by play call found) ≡ false
    → found ≡ None
unfolding is_refused answer_by
refused-none play call None is = refl
refused-none play call (Some refused) is = cc

-- a call that was accepted had no refusal
pub accepted-none : (play : Play) (call : Call) → is_refused (answer_of play call) ≡ false → refusal play call ≡ None
unfolding answer_of
accepted-none play call is = refused-none play call (refusal play call) is

-- and its answer is no refusal
pub accepted-stands : (play : Play) (call : Call) → is_refused (accepted play call) ≡ false
unfolding accepted is_refused
accepted-stands play (calls.ProxyTo req uris how) = refl
accepted-stands play (calls.Respond req answer) = refl
accepted-stands play (calls.CreateRequest ask) = refl
accepted-stands play (calls.CreateInDialog sess ask) = refl
accepted-stands play (calls.B2bCreate req uri) = refl
accepted-stands play (calls.SetDirective draft directive origin) = refl
accepted-stands play (calls.Send draft) = refl
accepted-stands play (calls.Discard draft) = refl
accepted-stands play (calls.Ack sess body) = refl
accepted-stands play (calls.Cancel req) = refl
accepted-stands play (calls.ProxyCancel req) = refl
accepted-stands play (calls.B2bRespond sess answer) = refl
accepted-stands play (calls.Link a b) = refl
accepted-stands play (calls.Unlink a) = refl
accepted-stands play (calls.StartTimer delay period info) = refl
accepted-stands play (calls.CancelTimer id) = refl
accepted-stands play (calls.SetAttribute name value) = refl
accepted-stands play (calls.RemoveAttribute name) = refl
accepted-stands play (calls.SetExpires minutes) = refl
accepted-stands play (calls.SetReadyFlag target flag) = refl
accepted-stands play (calls.InvalidateSession sess) = refl
accepted-stands play calls.InvalidateApplication = refl

answered-attributes : (play : Play) (found : Option RequestView) (code : ℕ)
    → (answered found code play.view).attributes ≡ play.view.attributes
unfolding answered answered_in tidy
answered-attributes play None code = refl
answered-attributes play (Some request) code = refl

responded-by : (play : Play) (req : ReqId) (answer : Answer) (found : Option Refusal)
    → (played_by play (calls.Respond req answer) found).view.attributes ≡ play.view.attributes
unfolding played_by after_call
responded-by play req answer None = answered-attributes play (request_in play.view req) answer.code
responded-by play req answer (Some refused) = refl

-- an answer leaves them
pub responded-attributes : (play : Play) (req : ReqId) (answer : Answer)
    → (after_listed play (calls.Respond req answer)).view.attributes ≡ play.view.attributes
unfolding after_listed
responded-attributes play req answer = responded-by play req answer (refusal play (calls.Respond req answer))

timed-by : (play : Play) (delay : ℕ) (period : Period) (info : Bytes) (found : Option Refusal)
    → (played_by play (calls.StartTimer delay period info) found).view.attributes ≡ play.view.attributes
unfolding played_by after_call with_timer
timed-by play delay period info None = refl
timed-by play delay period info (Some refused) = refl

-- a timer leaves them
pub timed-attributes : (play : Play) (delay : ℕ) (period : Period) (info : Bytes)
    → (after_listed play (calls.StartTimer delay period info)).view.attributes ≡ play.view.attributes
unfolding after_listed
timed-attributes play delay period info = timed-by play delay period info (refusal play (calls.StartTimer delay period info))

-- ## One that is set

same-digit : (b : ℕ) → nat_eq b b ≡ true
same-digit b = grind (arith, nat_tests)

pub same-self : (bytes : Bytes) → same_bytes bytes bytes ≡ true
same-self [] = refl
same-self (b ∷ bs) = rw (same-digit b, same-self bs) refl

set-step : (name value : Bytes) (field : Field) (fields : List Field) (b : Bool) → same_bytes field.name name ≡ b
    → (list_any (λ f. same_bytes f.name name) fields ≡ true → option_map (λ f. f.value) (find (λ f. same_bytes f.name name) (change_first (λ f. same_bytes f.name name) (λ f. record f { value = value }) fields)) ≡ Some value)
    → (b || list_any (λ f. same_bytes f.name name) fields) ≡ true
    → option_map (λ f. f.value) (find (λ f. same_bytes f.name name) (cond b (record field { value = value } ∷ fields) (field ∷ change_first (λ f. same_bytes f.name name) (λ f. record f { value = value }) fields))) ≡ Some value
set-step name value field fields true is later has = rw is refl
set-step name value field fields false is later has = rw is (later has)

set-there : (fields : List Field) (name value : Bytes) → list_any (λ f. same_bytes f.name name) fields ≡ true
    → option_map (λ f. f.value) (find (λ f. same_bytes f.name name) (change_first (λ f. same_bytes f.name name) (λ f. record f { value = value }) fields)) ≡ Some value
unfolding change_first
set-there [] name value has = cc
set-there (field ∷ fields) name value has = set-step name value field fields (same_bytes field.name name) refl (set-there fields name value) has

new-step : (name value : Bytes) (field : Field) (fields : List Field) (b : Bool) → same_bytes field.name name ≡ b
    → (b || list_any (λ f. same_bytes f.name name) fields) ≡ false
    → (list_any (λ f. same_bytes f.name name) fields ≡ false → option_map (λ f. f.value) (find (λ f. same_bytes f.name name) (fields ++ record { name = name; value = value } ∷ [])) ≡ Some value)
    → option_map (λ f. f.value) (cond b (Some field) (find (λ f. same_bytes f.name name) (fields ++ record { name = name; value = value } ∷ []))) ≡ Some value
new-step name value field fields true is has later = cc
new-step name value field fields false is has later = later has

set-new : (fields : List Field) (name value : Bytes) → list_any (λ f. same_bytes f.name name) fields ≡ false
    → option_map (λ f. f.value) (find (λ f. same_bytes f.name name) (fields ++ record { name = name; value = value } ∷ [])) ≡ Some value
set-new [] name value has = rw (same-self name) refl
set-new (field ∷ fields) name value has = new-step name value field fields (same_bytes field.name name) refl has (set-new fields name value)

set-any : (fields : List Field) (name value : Bytes) (b : Bool) → list_any (λ f. same_bytes f.name name) fields ≡ b
    → option_map (λ f. f.value) (find (λ f. same_bytes f.name name) (cond b (change_first (λ f. same_bytes f.name name) (λ f. record f { value = value }) fields) (fields ++ record { name = name; value = value } ∷ []))) ≡ Some value
set-any fields name value true has = set-there fields name value has
set-any fields name value false has = set-new fields name value has

-- an attribute that was set has its value
pub set-attribute : (play : Play) (name value : Bytes) → refusal play (calls.SetAttribute name value) ≡ None
    → attribute name (after_listed play (calls.SetAttribute name value)).view ≡ Some value
unfolding after_listed played_by after_call with_attribute is_set attribute
set-attribute play name value none = rw none (set-any play.view.attributes name value _ refl)

-- the end of a timer leaves them
pub cancelled-by : (play : Play) (id : TimerId) (found : Option Refusal)
    → (played_by play (calls.CancelTimer id) found).view.attributes ≡ play.view.attributes
unfolding played_by after_call
cancelled-by play id None = refl
cancelled-by play id (Some refused) = refl

pub cancelled-attributes : (play : Play) (id : TimerId)
    → (after_listed play (calls.CancelTimer id)).view.attributes ≡ play.view.attributes
unfolding after_listed
cancelled-attributes play id = cancelled-by play id (refusal play (calls.CancelTimer id))

-- a new request in a dialog leaves them
pub created-by : (play : Play) (sess : SessId) (ask : Inside) (found : Option Refusal) → (played_by play (calls.CreateInDialog sess ask) found).view.attributes ≡ play.view.attributes
unfolding played_by after_call created_later with_draft
created-by play sess ask None = refl
created-by play sess ask (Some refused) = refl

pub created-attributes : (play : Play) (sess : SessId) (ask : Inside)
    → (after_listed play (calls.CreateInDialog sess ask)).view.attributes ≡ play.view.attributes
unfolding after_listed
created-attributes play sess ask = created-by play sess ask (refusal play (calls.CreateInDialog sess ask))

-- a request that is sent leaves them
sent-found : (number : ℕ) (draft : Option Draft) (play : Play) → (sent number draft play).view.attributes ≡ play.view.attributes
unfolding sent
sent-found number None play = refl
sent-found number (Some draft) play = refl

pub sent-by : (play : Play) (draft : ℕ) (found : Option Refusal) → (played_by play (calls.Send draft) found).view.attributes ≡ play.view.attributes
unfolding played_by after_call
sent-by play draft None = sent-found draft (draft_in play draft) play
sent-by play draft (Some refused) = refl

pub sent-attributes : (play : Play) (draft : ℕ)
    → (after_listed play (calls.Send draft)).view.attributes ≡ play.view.attributes
unfolding after_listed
sent-attributes play draft = sent-by play draft (refusal play (calls.Send draft))

-- ## An attribute of another name

abbrev named : Bytes → Field → Bool
named name field = same_bytes field.name name

abbrev pub value-of : Option Field → Option Bytes
value-of found = option_map (λ (f : Field). f.value) found

if-value : (b : Bool) (x y : Field) (f g : Option Field) → x.value ≡ y.value → value-of f ≡ value-of g → value-of (cond b (Some x) f) ≡ value-of (cond b (Some y) g)
if-value true x y f g one more = rw one refl
if-value false x y f g one more = more

other-there : (name value other : Bytes) → same_bytes name other ≡ false → (fields : List Field)
    → value-of (find (named other) (change_first (named name) (λ f. record f { value = value }) fields)) ≡ value-of (find (named other) fields)
unfolding change_first
other-there name value other apart [] = refl
other-there name value other apart (field ∷ fields) = by (same_bytes field.name name) refl (other-there name value other apart fields)
  where
    by : (b : Bool) → same_bytes field.name name ≡ b → value-of (find (named other) (change_first (named name) (λ f. record f { value = value }) fields)) ≡ value-of (find (named other) fields)
        → value-of (find (named other) (cond b (record field { value = value } ∷ fields) (field ∷ change_first (named name) (λ f. record f { value = value }) fields))) ≡ value-of (find (named other) (field ∷ fields))
    by true is more = rw (subst (λ (text : Bytes). same_bytes text other ≡ false) (sym (same_bytes-equal field.name name is)) apart) refl
    by false is more = if-value (same_bytes field.name other) field field (find (named other) (change_first (named name) (λ f. record f { value = value }) fields)) (find (named other) fields) refl more

other-new : (name value other : Bytes) → same_bytes name other ≡ false → (fields : List Field)
    → value-of (find (named other) (fields ++ record { name = name; value = value } ∷ [])) ≡ value-of (find (named other) fields)
other-new name value other apart [] = rw apart refl
other-new name value other apart (field ∷ fields) =
    if-value (same_bytes field.name other) field field (find (named other) (fields ++ record { name = name; value = value } ∷ [])) (find (named other) fields) refl (other-new name value other apart fields)

other-set : (name value other : Bytes) → same_bytes name other ≡ false → (fields : List Field) (b : Bool)
    → value-of (find (named other) (cond b (change_first (named name) (λ f. record f { value = value }) fields) (fields ++ record { name = name; value = value } ∷ []))) ≡ value-of (find (named other) fields)
other-set name value other apart fields true = other-there name value other apart fields
other-set name value other apart fields false = other-new name value other apart fields

pub set-other : (name value other : Bytes) → same_bytes name other ≡ false → (play : Play) (found : Option Refusal)
    → attribute other (played_by play (calls.SetAttribute name value) found).view ≡ attribute other play.view
unfolding played_by after_call with_attribute attribute
set-other name value other apart play None = other-set name value other apart play.view.attributes (is_set name play.view.attributes)
set-other name value other apart play (Some refused) = refl

other-removed : (name other : Bytes) → same_bytes name other ≡ false → (fields : List Field) → value-of (find (named other) (remove_first (named name) fields)) ≡ value-of (find (named other) fields)
unfolding remove_first
other-removed name other apart [] = refl
other-removed name other apart (field ∷ fields) = by (same_bytes field.name name) refl (other-removed name other apart fields)
  where
    by : (b : Bool) → same_bytes field.name name ≡ b → value-of (find (named other) (remove_first (named name) fields)) ≡ value-of (find (named other) fields)
        → value-of (find (named other) (cond b fields (field ∷ remove_first (named name) fields))) ≡ value-of (find (named other) (field ∷ fields))
    by true is more = rw (subst (λ (text : Bytes). same_bytes text other ≡ false) (sym (same_bytes-equal field.name name is)) apart) refl
    by false is more = if-value (same_bytes field.name other) field field (find (named other) (remove_first (named name) fields)) (find (named other) fields) refl more

pub remove-other : (name other : Bytes) → same_bytes name other ≡ false → (play : Play) (found : Option Refusal)
    → attribute other (played_by play (calls.RemoveAttribute name) found).view ≡ attribute other play.view
unfolding played_by after_call attribute
remove-other name other apart play None = other-removed name other apart play.view.attributes
remove-other name other apart play (Some refused) = refl
