use Rattle.std.proofs.Common.{◌∙◌, ap, sym, subst, arith}
use Rattle.std.specs.Prelude.{IfOk, ◌≡◌}
use Rattle.sc_syntax.specs.Fronts.{front_of_length as sized}
use Rattle.sc_syntax.specs.Messages.{parts_in}
use Rattle.sc_stream.proofs.Knowing.{read_front, read_len, read_open, read_parts}
use Rattle.sc_stream.proofs.first.judge_body.Goals as goal

pub returns-in-Ok-clause-front : goal.returns-in-Ok-clause-front
returns-in-Ok-clause-front c = read_open c.args.text.now c.args.end c.args.len c.args.parts c.requires.read c.if-len-text.true

pub returns-in-Err-clause-front : goal.returns-in-Err-clause-front
returns-in-Err-clause-front c = read_open c.args.text.now c.args.end c.args.len c.args.parts c.requires.read c.if-len-text.true

pub head_in-requires : goal.head_in-requires
head_in-requires c = (read_len c.args.text.now c.args.end c.args.len c.args.parts c.requires.read).0

pub sized-front-requires-clause-whole : goal.sized-front-requires-clause-whole
sized-front-requires-clause-whole c =
    let len = c.head_in.ensures.len in
    let least = (read_len c.args.text.now c.args.end c.args.len c.args.parts c.requires.read).1 in omega (arith, len, least)

pub sized-front-requires-clause-within : goal.sized-front-requires-clause-within
sized-front-requires-clause-within c = (read_len c.args.text.now c.args.end c.args.len c.args.parts c.requires.read).2

pub sized-front-requires-clause-read : goal.sized-front-requires-clause-read
sized-front-requires-clause-read c = ap parts_in c.head_in.ensures.exact ∙ read_parts c.args.text.now c.args.end c.args.len c.args.parts c.requires.read

pub returns-clause-front : goal.returns-clause-front
returns-clause-front c =
    subst (λ f. IfOk c.sized-front.result (λ front. front ≡ f))
    (ap (λ h. sized c.args.text.now h c.args.len) c.head_in.ensures.exact ∙ sym (read_front c.args.text.now c.args.end c.args.len c.args.parts c.requires.read)) c.sized-front.ensures
