use Rattle.std.proofs.Common.{◌∙◌, arith, sym}
use Rattle.std.proofs.lemmas.List.{drop_all}
use Rattle.sc_stream.proofs.streams.let_go.Goals as goal

pub returns-then-len-from-clause-exact : goal.returns-then-len-from-clause-exact
returns-then-len-from-clause-exact c =
    let all = c.len-len.ensures ∙ c.args.bytes.now.ok.0 in
    let past = c.if-len-from.true in
    c.clear.ensures.items ∙ sym (drop_all c.args.from c.args.bytes.now.items (omega (arith, all, past)))
