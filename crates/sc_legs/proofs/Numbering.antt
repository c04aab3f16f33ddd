-- A response that has its request's number is its answer as it stands.
use Rattle.std.proofs.Common.{◌≡◌, ℕ, ap, sym}
use Rattle.sc_value.specs.declared.message.Request.{Request}
use Rattle.sc_value.specs.declared.message.Response.{Response}
use Rattle.sc_state.specs.declared.session.Leg.{Leg}
use Rattle.sc_hosts.specs.Legs.{answered_leg, as_answer, with_answer}

abbrev numbered : Response → ℕ → Response
numbered response number = record response { head = record response.head { cseq = record response.head.cseq { number = number } } }

pub same_answer : (request : Request) (response : Response) (leg : Leg) → response.head.cseq.number ≡ request.head.cseq.number → with_answer request response leg ≡ answered_leg request response leg
unfolding with_answer as_answer
same_answer request response leg e = ap (λ number. answered_leg request (numbered response number) leg) (sym e)
