use Rattle.std.proofs.Common.{◌≡◌, ◌∷◌, [], IfOk, subst}
use Rattle.sc_hosts.specs.HelperParts.{field, require_word}
use Rattle.sc_hosts.specs.SessionTimers.{granted_fields, timer_option}
use Rattle.sc_refreshes.proofs.expiries.peer_fields.Goals as goal

pub returns : goal.returns
unfolding granted_fields
returns c = subst (λ expires. IfOk c.before_require.result (λ fields. fields ≡ expires ∷ field require_word timer_option ∷ [])) c.in_ok-expires.ensures c.before_require.ensures
