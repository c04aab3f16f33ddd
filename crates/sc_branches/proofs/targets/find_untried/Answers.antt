use Rattle.std.proofs.Common.{◌∙◌}
use Rattle.sc_branches.proofs.Contacts.{untried_next, untried_end}
use Rattle.sc_branches.proofs.targets.find_untried.Goals as goal

pub loop-uri-preserved : goal.loop-uri-preserved
loop-uri-preserved c =
    untried_next c.loop-uri.all c.loop-uri.found _ _ c.args.uris.now c.loop-uri.uri-index _ _ c.loop-uri-test.true c.uri-item.is (rw (← c.as_slice.ensures) c.in_ok-known.ensures) c.in_ok-with_new.ensures c.in_ok-with_new-2.ensures ∙ c.loop-uri.invariant

pub returns : goal.returns
returns c = untried_end c.loop-uri.all c.loop-uri.found c.args.uris.now _ c.loop-uri.uri-index c.loop-uri-test.false c.loop-uri.invariant
