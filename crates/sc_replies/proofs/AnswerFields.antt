-- A response that is made of a request answers it.
use Rattle.std.proofs.Common.{◌≡◌, ℕ, Bool, true, false, List, [], refl, sym, subst, ◌∙◌}
use Rattle.std.specs.Prelude.{◌&&◌, cond}
use Rattle.sc_value.specs.declared.message.Request.{Request}
use Rattle.sc_value.specs.declared.message.Response.{Response}
use Rattle.sc_value.specs.declared.parts.Address.{Address}
use Rattle.sc_terms.specs.declared.calls.Answer.{Answer}
use Rattle.sc_terms.specs.declared.settings.Config.{Config}
use Rattle.sc_terms.specs.declared.views.View.{View}
use Rattle.sc_tokens.specs.Bytes.{Bytes}
use Rattle.sc_model.specs.Responses.{response_head, response_to}
use Rattle.sc_hosts.specs.Messages.{answered_here, bare_answer, begins_dialog, given_response, makes_dialog, own_response, with_routes}
use Rattle.sc_replies.specs.Fields.{HasFieldsOf, IsAnswerTo, answer_routes}

-- ## Fields that stay

-- the same code, and the fields of an answer
pub record IsAlike (y z : Response) : Type 0 where
  pub code : z.code ≡ y.code
  pub via : z.head.via ≡ y.head.via
  pub from : z.head.from ≡ y.head.from
  pub to : z.head.to ≡ y.head.to
  pub call_id : z.head.call_id ≡ y.head.call_id
  pub cseq : z.head.cseq ≡ y.head.cseq

if-alike : (b : Bool) (r y z : Response) → IsAlike r y → IsAlike r z → IsAlike r (cond b y z)
if-alike true r y z p q = p
if-alike false r y z p q = q

same-alike : (r : Response) → IsAlike r r
same-alike r = record { code = refl; via = refl; from = refl; to = refl; call_id = refl; cseq = refl }

pub here-alike : (config : Config) (view : View) (request : Request) (r : Response) → IsAlike r (answered_here config view request r)
unfolding answered_here
here-alike config view request r = if-alike _ r _ r (record { code = refl; via = refl; from = refl; to = refl; call_id = refl; cseq = refl }) (same-alike r)

pub routes-alike : (initial : Bool) (request : Request) (r : Response) → IsAlike r (with_routes initial request r)
unfolding with_routes
routes-alike initial request r = if-alike _ r _ r (record { code = refl; via = refl; from = refl; to = refl; call_id = refl; cseq = refl }) (same-alike r)

fields-alike : (request : Request) (y z : Response) → IsAlike y z → HasFieldsOf request y → HasFieldsOf request z
fields-alike request y z same fields = record {
  via = same.via ∙ fields.via;
  from = same.from ∙ fields.from;
  call_id = same.call_id ∙ fields.call_id;
  cseq = same.cseq ∙ fields.cseq;
  tag = fields.tag;
  to = same.to ∙ fields.to;
}

to-fields : (tag : Bytes) (request : Request) (answer : Answer) → HasFieldsOf request (response_to tag request answer)
unfolding response_to response_head
to-fields tag request answer = record { via = refl; from = refl; call_id = refl; cseq = refl; tag = tag; to = refl }

-- ## Record-Route

if-routes : (b : Bool) (y z : Response) (routes : List Address) → y.head.record_route ≡ routes → z.head.record_route ≡ routes → (cond b y z).head.record_route ≡ routes
if-routes true y z routes p q = p
if-routes false y z routes p q = q

here-routes : (config : Config) (view : View) (request : Request) (r : Response) → (answered_here config view request r).head.record_route ≡ r.head.record_route
unfolding answered_here
here-routes config view request r = if-routes _ _ r r.head.record_route refl refl

to-routes : (tag : Bytes) (request : Request) (answer : Answer) → (response_to tag request answer).head.record_route ≡ []
unfolding response_to response_head
to-routes tag request answer = refl

chosen-routes : (b : Bool) (routes : List Address) (r : Response) → r.head.record_route ≡ []
    → (cond b (record r { head = record r.head { record_route = routes } }) r).head.record_route ≡ cond b routes []
chosen-routes true routes r none = refl
chosen-routes false routes r none = none

with-routes : (initial : Bool) (request : Request) (r : Response) → r.head.record_route ≡ []
    → (with_routes initial request r).head.record_route ≡ answer_routes (record { initial = initial; request = request }) r.code
unfolding with_routes answer_routes
with-routes initial request r none = chosen-routes (initial && begins_dialog request && makes_dialog r.code) request.head.record_route r none

no-routes : (b : Bool) (routes : List Address) → b ≡ false → ◌≡◌ {A = List Address} [] (cond b routes [])
no-routes true routes is = cc
no-routes false routes is = refl

none-makes : (a b c : Bool) → c ≡ false → (a && b && c) ≡ false
none-makes true true c is = is
none-makes true false c is = refl
none-makes false b c is = refl

-- ## The two kinds of answers

-- what an application gives
pub given-answers : (config : Config) (view : View) (tag : Bytes) (initial : Bool) (request : Request) (answer : Answer)
    → IsAnswerTo (record { initial = initial; request = request }) (given_response config view tag initial request answer)
unfolding given_response
given-answers config view tag initial request answer =
    let first : Response = response_to tag request answer in
    let here : Response = answered_here config view request first in
    let same : IsAlike here (with_routes initial request here) = routes-alike initial request here in
    record {
      fields = fields-alike request here (with_routes initial request here) same (fields-alike request first here (here-alike config view request first) (to-fields tag request answer));
      routes = subst (λ (code : ℕ). (with_routes initial request here).head.record_route ≡ answer_routes (record { initial = initial; request = request }) code) (sym same.code)
          (with-routes initial request here (here-routes config view request first ∙ to-routes tag request answer));
    }

-- what the container answers by itself, which makes no dialog
pub own-answers : (tag : Bytes) (code : ℕ) (reason : Bytes) (initial : Bool) (request : Request) → makes_dialog code ≡ false
    → IsAnswerTo (record { initial = initial; request = request }) (own_response tag code reason request)
unfolding own_response bare_answer response_to response_head answer_routes
own-answers tag code reason initial request is = record {
  fields = to-fields tag request (bare_answer code reason);
  routes = no-routes (initial && begins_dialog request && makes_dialog code) request.head.record_route (none-makes initial (begins_dialog request) (makes_dialog code) is);
}
