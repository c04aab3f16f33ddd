use Rattle.std.proofs.Common.{◌≡◌, ◌∷◌, [], IfOk, subst}
use Rattle.sc_hosts.specs.HelperParts.{field, supported_word}
use Rattle.sc_hosts.specs.SessionTimers.{timer_option}
use Rattle.sc_refreshes.proofs.expiries.refresh_fields.Goals as goal

pub returns : goal.returns
returns c = subst (λ expires. IfOk c.before_supported.result (λ fields. fields ≡ expires ∷ field supported_word timer_option ∷ [])) c.in_ok-expires.ensures c.before_supported.ensures
