use Rattle.std.proofs.Common.{sym, ap, ◌∙◌}
use Rattle.std.specs.Option.{option_copied}
use Rattle.sc_switch.proofs.Firsts.{no_kind}
use Rattle.sc_switch.proofs.Sames.{kind_of, offered_ok}
use Rattle.sc_switch.proofs.leasing.offer_first.Goals as goal

pub returns : goal.returns
returns c =
    offered_ok c.args.setup.now c.args.net.now c.args.first.now.app c.args.first.now.live.now c.args.first.now.waiting.now c.args.number c.in-Some.entry.now.kind c.args.begun.now c.lease_of.result c.requires.live c.requires.waits c.requires.past
    (kind_of c.args.setup.now c.args.first.now.app.host c.in-Some.entry.now (sym c.app_of.ensures ∙ ap option_copied c.in-Some.is)) c.requires.begun c.lease_of.ensures

pub unreachable-requires : goal.unreachable-requires
unreachable-requires c = no_kind _ (sym c.app_of.ensures ∙ ap option_copied c.in-None.is) c.requires.kind
