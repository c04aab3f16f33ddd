-- A later request that is passed on, in parts.
use Rattle.std.proofs.Common.{◌≡◌, true, false, [], ◌∷◌, refl}
use Rattle.sc_tokens.specs.Names.{same_bytes}
use Rattle.sc_terms.specs.declared.settings.Config.{Config}
use Rattle.sc_state.specs.declared.orders.Order.TheVariants as orders
use Rattle.sc_state.specs.declared.session.Kept.{Kept}
use Rattle.sc_state.specs.declared.working.Working.{Working}
use Rattle.sc_hosts.specs.Acting.{in_view, with_next_branch as drawn, passed_on}
use Rattle.sc_hosts.specs.Giving.{giving}
use Rattle.sc_hosts.specs.Working.{next_branch}
use Rattle.sc_finish.specs.Passing.{request_onward as passed, sends_on}
use Rattle.sc_model.specs.SessionStates.{ack}

pub passed_on_ack : (config : Config) (kept : Kept) (working : Working) → same_bytes kept.request.method ack ≡ true
    → passed_on config kept working
    ≡ giving (orders.Acknowledge (passed config working.play.view (next_branch working) kept.request) ∷ []) (in_view (drawn working.play.view) working)
unfolding passed_on passed
passed_on_ack config kept working e = rw e refl

pub passed_on_other : (config : Config) (kept : Kept) (working : Working) → same_bytes kept.request.method ack ≡ false
    → passed_on config kept working
    ≡ sends_on kept (next_branch working) (passed config working.play.view (next_branch working) kept.request) (in_view (drawn working.play.view) working)
unfolding passed_on passed sends_on
passed_on_other config kept working e = rw e refl
