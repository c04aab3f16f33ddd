-- A target that becomes a branch, in parts.
use Rattle.std.proofs.Common.{◌≡◌, [], ◌∷◌, refl}
use Rattle.sc_value.specs.declared.parts.Uri.{Uri}
use Rattle.sc_terms.specs.declared.settings.Config.{Config}
use Rattle.sc_state.specs.declared.proxy.Proxy.{Proxy}
use Rattle.sc_state.specs.declared.working.Working.{Working}
use Rattle.sc_hosts.specs.Branches.{new_branch}
use Rattle.sc_hosts.specs.Giving.{giving}
use Rattle.sc_hosts.specs.Working.{next_branch}
use Rattle.sc_hosts.specs.Acting.{in_proxy, in_view, with_next_branch as drawn, after_start as started}
use Rattle.sc_acting.specs.Acts.{with_new_branch as branched, begin_order, sent_to}

pub started_is : (config : Config) (proxy : Proxy) (working : Working) (uri : Uri)
    → started config proxy working uri
    ≡ in_proxy proxy.req (branched (new_branch proxy (next_branch working) working.play.view.now)) (in_view (drawn working.play.view) (giving (begin_order config proxy working uri ∷ []) working))
unfolding started branched begin_order sent_to
started_is config proxy working uri = refl
