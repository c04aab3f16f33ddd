-- What the end of SipSessions sends, by its pieces.
use Rattle.std.proofs.Common.{◌≡◌, ℕ, List, ◌++◌, refl, append_assoc, map}
use Rattle.std.specs.List.{flat_map}
use Rattle.sc_value.specs.declared.ids.SessId.{SessId}
use Rattle.std.specs.Prelude.{Option, ◌&&◌}
use Rattle.sc_terms.specs.declared.settings.Config.{Config}
use Rattle.sc_terms.specs.declared.views.View.{View}
use Rattle.sc_terms.specs.declared.views.RequestView.{RequestView}
use Rattle.sc_state.specs.declared.orders.Order.{Order}
use Rattle.sc_state.specs.declared.session.Known.{Known}
use Rattle.sc_hosts.specs.ViewChanges.{is_owed}
use Rattle.sc_hosts.specs.Working.{goodbyes, invite_branches, in_order, owed_answer}
use Rattle.sc_work.specs.Goodbyes.{is_whose, owed_by, kept_branches, proxy_branches, cancel_now}
use Rattle.sc_work.proofs.Endings.{flat_map_filter}

pub invite_branches_are : (whose : Option SessId) (known : Known) → invite_branches (is_whose whose) known ≡ flat_map (kept_branches whose) known.kept ++ flat_map (proxy_branches whose) known.proxies
unfolding invite_branches kept_branches proxy_branches
invite_branches_are whose known = refl

pub goodbyes_are : (config : Config) (view : View) (known : Known) (whose : Option SessId)
    → goodbyes config view known (is_whose whose) ≡ flat_map (owed_by config view known whose) view.requests ++ map cancel_now (in_order (invite_branches (is_whose whose) known))
unfolding goodbyes owed_by cancel_now
goodbyes_are config view known whose =
    rw (flat_map_filter (λ (request : RequestView). is_whose whose request.sess && is_owed request) (owed_answer config view known) view.requests) refl

-- the answers and then the CANCELs
pub goodbyes_made : (config : Config) (view : View) (known : Known) (whose : Option SessId) (before first last : List Order) (sorted : List ℕ)
    → first ≡ before ++ flat_map (owed_by config view known whose) view.requests → sorted ≡ in_order (invite_branches (is_whose whose) known) → last ≡ first ++ map cancel_now sorted
    → last ≡ before ++ goodbyes config view known (is_whose whose)
goodbyes_made config view known whose before first last sorted answered ordered cancelled =
    rw (cancelled, answered, ordered, goodbyes_are config view known whose) (append_assoc before _ _)
