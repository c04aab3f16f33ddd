-- Answers that are given one after the other; and the answer to a request that is kept.
use Rattle.std.proofs.Common.{◌≡◌, ℕ, ◌++◌, Bool, true, false, Option, None, Some, List, [], ◌∷◌, refl, sym, ap, subst, ◌∙◌, append_assoc, append-nil}
use Rattle.std.proofs.lemmas.List.Elements.{filter_map-append}
use Rattle.std.specs.Prelude.{cond, filter, is_some, not}
use Rattle.std.specs.List.{find}
use Rattle.sc_tokens.specs.Names.{same_name}
use Rattle.sc_value.specs.declared.message.Request.{Request}
use Rattle.sc_value.specs.declared.message.Response.{Response}
use Rattle.sc_value.specs.declared.parts.Address.{Address}
use Rattle.sc_value.specs.declared.parts.Param.{Param}
use Rattle.sc_value.specs.Params.{is_named, param_value, tag_name}
use Rattle.sc_terms.specs.declared.calls.Answer.{Answer}
use Rattle.sc_terms.specs.declared.settings.Config.{Config}
use Rattle.sc_terms.specs.declared.views.RequestView.{RequestView}
use Rattle.sc_terms.specs.declared.views.SessionView.{SessionView}
use Rattle.sc_terms.specs.declared.views.View.{View}
use Rattle.sc_state.specs.declared.orders.Order.{Order}
use Rattle.sc_state.specs.declared.orders.Order.TheVariants as orders
use Rattle.sc_state.specs.declared.session.Kept.{Kept}
use Rattle.sc_state.specs.declared.session.Way.TheVariants.{Received}
use Rattle.sc_state.specs.declared.working.Working.{Working}
use Rattle.sc_tokens.specs.Bytes.{Bytes}
use Rattle.sc_model.specs.Dialogs.{tag_of}
use Rattle.sc_model.specs.Responses.{response_head, response_to, tag_param, address_with_tag as tagged, address_without_tag as untagged, with_tag}
use Rattle.sc_hosts.specs.Giving.{answer_order, answering, answers}
use Rattle.sc_hosts.specs.Looking.{session_in}
use Rattle.sc_hosts.specs.Messages.{answered_here, bare_answer, given_response, own_response}
use Rattle.sc_hosts.specs.Preparing.{kept_of, own_tag_of}
use Rattle.sc_answered.specs.StateOf.{Asked}
use Rattle.sc_answered.specs.Happened.{Happened, answer_to, asked_of, response_in}
use Rattle.sc_replies.specs.Came.{Came, brought_by}
use Rattle.sc_replies.specs.Replies.{AreGiven, Reply, replies, reply_in}
use Rattle.sc_replies.proofs.Brought.{by-kept}
use Rattle.sc_replies.proofs.Fine.{FineIn, brought-is}
use Rattle.sc_replies.proofs.Owed.{IsKept}
use Rattle.sc_replies.proofs.ShownCame.{HasCome}
use Rattle.sc_replies.proofs.AnswerFields.{IsAlike, here-alike, routes-alike}

-- ## One after the other

-- more is given behind
are-longer : (came : List Came) (answers : List Reply) (given more : List Order) → AreGiven came answers given → AreGiven came answers (given ++ more)
unfolding AreGiven
are-longer came [] given more all = tt
are-longer came (reply ∷ earlier) given more all = (
  record {
    before = all.0.before;
    order = all.0.order;
    later = all.0.later ++ more;
    is = ap (λ (os : List Order). os ++ more) all.0.is ∙ append_assoc all.0.before (all.0.order ∷ all.0.later) more;
    answers = all.0.answers;
  },
  all.1,
)

-- what was answered later is given behind
are-then : (came : List Came) (later earlier : List Reply) (given more : List Order) → AreGiven came earlier given → AreGiven came later more → AreGiven came (later ++ earlier) (given ++ more)
unfolding AreGiven
are-then came [] earlier given more first all = are-longer came earlier given more first
are-then came (reply ∷ later) earlier given more first all = (
  record {
    before = given ++ all.0.before;
    order = all.0.order;
    later = all.0.later;
    is = ap (λ (os : List Order). given ++ os) all.0.is ∙ sym (append_assoc given all.0.before (all.0.order ∷ all.0.later));
    answers = all.0.answers;
  },
  are-then came later earlier given all.0.before first all.1,
)

-- these answers are among the orders that follow
pub record Sends (came : List Came) (new : List Happened) (before after : List Order) : Type 0 where
  pub more : List Order
  pub is : after ≡ before ++ more
  pub given : AreGiven came (replies new) more

pub sends-none : (came : List Came) (before more : List Order) → Sends came [] before (before ++ more)
unfolding AreGiven
sends-none came before more = record { more = more; is = refl; given = tt }

pub sends-same : (came : List Came) (before : List Order) → Sends came [] before before
unfolding AreGiven
sends-same came before = record { more = []; is = sym (append-nil before); given = tt }

-- from nothing on
pub sends-any : (came : List Came) (after : List Order) → Sends came [] [] after
unfolding AreGiven
sends-any came after = record { more = after; is = refl; given = tt }

pub sends-then : (came : List Came) (new more : List Happened) (xs ys zs : List Order) → Sends came new xs ys → Sends came more ys zs → Sends came (more ++ new) xs zs
sends-then came new more xs ys zs p q = record {
  more = p.more ++ q.more;
  is = q.is ∙ ap (λ (os : List Order). os ++ q.more) p.is ∙ append_assoc xs p.more q.more;
  given = subst (λ (all : List Reply). AreGiven came all (p.more ++ q.more)) (sym (filter_map-append (λ (one : Happened). reply_in one.what) more new))
      (are-then came (replies more) (replies new) p.more q.more p.given q.given);
}

-- where nothing is told first
pub sends-next : (came : List Came) (new : List Happened) (xs ys zs : List Order) → Sends came [] xs ys → Sends came new ys zs → Sends came new xs zs
sends-next came new xs ys zs p q =
    subst (λ (all : List Happened). Sends came all xs zs) (append-nil new) (sends-then came [] new xs ys zs p q)

-- where nothing is told next
pub sends-still : (came : List Came) (new : List Happened) (xs ys zs : List Order) → Sends came new xs ys → Sends came [] ys zs → Sends came new xs zs
sends-still came new xs ys zs p q = sends-then came new [] xs ys zs p q

-- by a test
pub if-sends : {A : Type 0} (came : List Came) (given : A → List Order) (b : Bool) (xs : List Order) (new other : List Happened) (y z : A)
    → (b ≡ true → Sends came new xs (given y)) → (b ≡ false → Sends came other xs (given z)) → Sends came (cond b new other) xs (given (cond b y z))
if-sends came given true xs new other y z p q = p refl
if-sends came given false xs new other y z p q = q refl

-- ## Tags

new-by : (test : Param → Bool) (p y : Param) (ps : List Param) (b : Bool) → test p ≡ b → find test (filter (λ q. not (test q)) ps ++ y ∷ []) ≡ Some y
    → find test (cond (not b) (p ∷ filter (λ q. not (test q)) ps) (filter (λ q. not (test q)) ps) ++ y ∷ []) ≡ Some y
new-by test p y ps true has later = later
new-by test p y ps false has later = rw has later

-- what passes a test is found behind what doesn't
new-found : (test : Param → Bool) (y : Param) (ps : List Param) → test y ≡ true → find test (filter (λ q. not (test q)) ps ++ y ∷ []) ≡ Some y
new-found test y [] has = rw has refl
new-found test y (p ∷ ps) has = new-by test p y ps (test p) refl (new-found test y ps has)

own-name : (tag : Bytes) → is_named tag_name (tag_param tag) ≡ true
unfolding tag_param tag_name same_name
own-name tag = refl

has-value : (tag : Bytes) → is_some (tag_param tag).value ≡ true
unfolding tag_param
has-value tag = refl

tagged-has : (tag : Bytes) (address : Address) → is_some (tag_of (tagged tag address)) ≡ true
unfolding tagged untagged param_value
tagged-has tag address = rw (new-found (is_named tag_name) (tag_param tag) address.params (own-name tag)) (has-value tag)

tag-by : (b : Bool) (tag : Bytes) (address : Address) → is_some (tag_of address) ≡ b → is_some (tag_of (cond b address (tagged tag address))) ≡ true
tag-by true tag address is = is
tag-by false tag address is = tagged-has tag address

has-tag : (tag : Bytes) (address : Address) → is_some (tag_of (with_tag tag address)) ≡ true
unfolding with_tag
has-tag tag address = tag-by (is_some (tag_of address)) tag address refl

-- ## One answer

-- the order is the answer that is told
pub one-given : (came : List Came) (found : Option SessionView) (asked : Asked) (tagged : Bool) (code event : ℕ) (response : Response) → response.code ≡ code → is_some (tag_of response.head.to) ≡ tagged → brought_by came asked.req ≡ Some event
    → AreGiven came (replies (response_in found asked tagged code)) (orders.Respond event response ∷ [])
unfolding response_in reply_in AreGiven
one-given came None asked tagged code event response is tag by = tt
one-given came (Some session) asked tagged code event response is tag by = (
  record {
    before = [];
    order = orders.Respond event response;
    later = [];
    is = refl;
    answers = record { event = event; response = response; is = refl; brought = by; code = is; tagged = tag };
  },
  tt,
)

pub own-code : (tag : Bytes) (code : ℕ) (reason : Bytes) (request : Request) → (own_response tag code reason request).code ≡ code
unfolding own_response response_to bare_answer
own-code tag code reason request = refl

pub own-tagged : (tag : Bytes) (code : ℕ) (reason : Bytes) (request : Request) → is_some (tag_of (own_response tag code reason request).head.to) ≡ true
unfolding own_response response_to response_head bare_answer
own-tagged tag code reason request = has-tag tag request.head.to

to-tagged : (tag : Bytes) (request : Request) (answer : Answer) → is_some (tag_of (response_to tag request answer).head.to) ≡ true
unfolding response_to response_head
to-tagged tag request answer = has-tag tag request.head.to

to-code : (tag : Bytes) (request : Request) (answer : Answer) → (response_to tag request answer).code ≡ answer.code
unfolding response_to
to-code tag request answer = refl

given-alike : (config : Config) (view : View) (tag : Bytes) (initial : Bool) (request : Request) (answer : Answer)
    → IsAlike (response_to tag request answer) (given_response config view tag initial request answer)
unfolding given_response
given-alike config view tag initial request answer =
    let here = here-alike config view request (response_to tag request answer) in
    let routes = routes-alike initial request (answered_here config view request (response_to tag request answer)) in
    record {
      code = routes.code ∙ here.code;
      via = routes.via ∙ here.via;
      from = routes.from ∙ here.from;
      to = routes.to ∙ here.to;
      call_id = routes.call_id ∙ here.call_id;
      cseq = routes.cseq ∙ here.cseq;
    }

given-code : (config : Config) (view : View) (tag : Bytes) (initial : Bool) (request : Request) (answer : Answer) → (given_response config view tag initial request answer).code ≡ answer.code
given-code config view tag initial request answer = (given-alike config view tag initial request answer).code ∙ to-code tag request answer

given-tagged : (config : Config) (view : View) (tag : Bytes) (initial : Bool) (request : Request) (answer : Answer) → is_some (tag_of (given_response config view tag initial request answer).head.to) ≡ true
given-tagged config view tag initial request answer =
    ap (λ (to : Address). is_some (tag_of to)) (given-alike config view tag initial request answer).to ∙ to-tagged tag request answer

-- the order to a request that is kept as it came
answers-given : (config : Config) (answer : Answer) (view : View) (found : Option Kept) (initial : Bool) (kept : Kept) (event : ℕ) → found ≡ Some kept → kept.way ≡ Received event
    → answers config answer view found initial ≡ orders.Respond event (given_response config view (own_tag_of view kept.sess) initial kept.request answer) ∷ []
unfolding answers answer_order
answers-given config answer view found initial kept event is way = rw (is, way) refl

pub answering-sends : (came : List Came) (config : Config) (request : RequestView) (answer : Answer) (working : Working) → IsKept working.known.kept request.id → HasCome came request.id.0 → FineIn came working
    → Sends came (answer_to working.play.view (Some request) answer.code) working.orders (answering config (Some request) answer working).orders
unfolding answering answer_to
answering-sends came config request answer working is has fine =
    let view : View = working.play.view in
    let response : Response = given_response config view (own_tag_of view is.kept.sess) request.initial is.kept.request answer in
    record {
      more = orders.Respond is.event response ∷ [];
      is = ap (λ (os : List Order). working.orders ++ os) (answers-given config answer view (kept_of working.known request.id) request.initial is.kept is.event is.found is.way);
      given = one-given came (session_in view request.sess) (asked_of request) true answer.code is.event response
          (given-code config view (own_tag_of view is.kept.sess) request.initial is.kept.request answer) (given-tagged config view (own_tag_of view is.kept.sess) request.initial is.kept.request answer)
          (brought-is came request.id is.event (by-kept view.next_request came working.known.kept request.id is.kept is.event is.found is.way fine.0.1) has);
    }
