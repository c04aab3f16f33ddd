use Rattle.std.proofs.Common.{drop}
use Rattle.sc_follow.specs.Leading.{Leads}
use Rattle.sc_streams.specs.Streaming.{bytes_of}
use Rattle.sc_follow.proofs.following.follow_lines.Given as goal

abbrev pub invariant-loop-line : goal.invariant-loop-line
invariant-loop-line g l = Leads l.fn.switch.setup l.lines l.switch (bytes_of l.streams) (drop l.line-index l.lines)
