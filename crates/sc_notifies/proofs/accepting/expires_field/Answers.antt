use Rattle.std.proofs.Common.{◌≡◌, ◌∷◌, [], codes, decimal, IfOk, subst, ap, ◌∙◌}
use Rattle.sc_hosts.specs.HelperParts.{field}
use Rattle.sc_notifies.proofs.accepting.expires_field.Goals as goal

pub returns : goal.returns
returns c = subst (λ made. IfOk c.one.result (λ fields. fields ≡ made ∷ []))
    (c.in_ok-field.ensures ∙ ap (λ n. field (codes "Expires") (decimal n)) c.from.ensures) c.one.ensures
