use Rattle.std.proofs.Common.{◌∙◌, sym}
use Rattle.sc_uri_text.proofs.Addresses.{gap_here, gap_more}
use Rattle.sc_uri_text.proofs.hosts.gap_of.Goals as goal

pub returns-then-begins_gap-clause-exact : goal.returns-then-begins_gap-clause-exact
returns-then-begins_gap-clause-exact c = sym (gap_here c.args.text.now c.loop-i.i c.loop-i-test.true (sym c.begins_gap.ensures.exact ∙ c.if-begins_gap.true)) ∙ c.loop-i.invariant

pub loop-i-preserved : goal.loop-i-preserved
loop-i-preserved c = gap_more c.args.text.now c.loop-i.i c.loop-i-test.true (sym c.begins_gap.ensures.exact ∙ c.if-begins_gap.false) ∙ c.loop-i.invariant
