use Rattle.std.proofs.Common.{sym, ap, ◌∙◌}
use Rattle.sc_value.specs.declared.message.Message.TheVariants.{Request, Response}
use Rattle.sc_spelling.proofs.MadeLaws.{request_made, response_made}
use Rattle.sc_spelling.proofs.made.known.Goals as goal

pub returns-in-Request : goal.returns-in-Request
returns-in-Request c =
    request_made c.args.message.now c.get-request.result.now (c.in-Request.is ∙ ap Request (sym c.get-request.ensures)) c.known.ensures c.known-in-Request.ensures c.hops_known.ensures c.head_known.ensures

pub returns-in-Response : goal.returns-in-Response
returns-in-Response c =
    response_made c.args.message.now c.get-response.result.now (c.in-Response.is ∙ ap Response (sym c.get-response.ensures)) c.known-in-Response.ensures c.code_known.ensures c.head_known-in-Response.ensures
