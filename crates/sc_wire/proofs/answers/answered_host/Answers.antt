use Rattle.std.proofs.Common.{◌≡◌, ◌∙◌, OnOk, ap, sym, subst}
use Rattle.std.specs.Option.{option_copied}
use Rattle.sc_hosts.specs.Nets.{answered_server}
use Rattle.sc_wire.proofs.Answering.{answered_found}
use Rattle.sc_wire.proofs.answers.answered_host.Goals as goal

pub returns : goal.returns
returns c =
    subst (λ host. OnOk c.change_server.result (c.change_server.new.self ≡ host))
    (answered_found c.args.event c.get.result.now.code c.args.now c.args.response.now c.args.host.now c.in-Some.server.now c.in_ok-own-in-Some.own
    (ap (λ response. response.code) c.get.ensures) (sym (ap option_copied c.in-Some.is) ∙ c.server.ensures)
    (c.in_ok-own-in-Some.ensures ∙ ap (answered_server c.get.result.now.code c.args.now c.args.response.now) c.get-in-Some.ensures))
    c.change_server.ensures
