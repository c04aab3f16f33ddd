use Rattle.std.proofs.Common.{Ok, ◌∙◌, ap, sym, subst, arith}
use Rattle.std.specs.Prelude.{IfOk, ◌≡◌}
use Rattle.sc_syntax.specs.Fronts.{whole}
use Rattle.sc_syntax.specs.Messages.{message_in, parts_in}
use Rattle.sc_stream.proofs.Knowing.{read_len, read_open, read_parts, read_whole}
use Rattle.sc_stream.proofs.first.look_read.Goals as goal

pub returns-then-len-text-clause-front : goal.returns-then-len-text-clause-front
returns-then-len-text-clause-front c = read_open c.args.text.now c.args.end c.args.len c.args.parts c.requires c.if-len-text.true

pub body_in-requires-clause-whole : goal.body_in-requires-clause-whole
body_in-requires-clause-whole c = (read_len c.args.text.now c.args.end c.args.len c.args.parts c.requires).1

pub body_in-requires-clause-within : goal.body_in-requires-clause-within
body_in-requires-clause-within c = (read_len c.args.text.now c.args.end c.args.len c.args.parts c.requires).2

pub head_in-requires : goal.head_in-requires
head_in-requires c = (read_len c.args.text.now c.args.end c.args.len c.args.parts c.requires).0

pub whole-front-requires-clause-within : goal.whole-front-requires-clause-within
whole-front-requires-clause-within c =
    let len = c.head_in.ensures.len in
    let all = read_len c.args.text.now c.args.end c.args.len c.args.parts c.requires in
    let least = all.1 in
    let most = all.2 in omega (arith, len, least, most)

pub whole-front-requires-clause-read : goal.whole-front-requires-clause-read
whole-front-requires-clause-read c = ap parts_in c.head_in.ensures.exact ∙ read_parts c.args.text.now c.args.end c.args.len c.args.parts c.requires ∙ ap Ok (sym c.into_inner.ensures)

pub returns-in-Ok-clause-front : goal.returns-in-Ok-clause-front
returns-in-Ok-clause-front c =
    subst (λ f. IfOk c.whole-front.result (λ front. front ≡ f))
    (ap (λ h. whole h c.args.len (message_in h c.in-Ok.body)) c.head_in.ensures.exact
    ∙ read_whole c.args.text.now c.args.end c.args.len c.args.parts c.in-Ok.body c.requires c.if-len-text.false (c.in-Ok.ensures ∙ c.body_in.ensures)) c.whole-front.ensures
