-- Orders that send no request on a new branch: answers and CANCELs.
use Rattle.std.proofs.Common.{◌≡◌, List, [], ◌∷◌, refl}
use Rattle.sc_terms.specs.declared.settings.Config.{Config}
use Rattle.sc_state.specs.declared.orders.Order.{Order}
use Rattle.sc_state.specs.declared.orders.Order.TheVariants as orders
use Rattle.sc_state.specs.declared.queue.Waiting.{Waiting}
use Rattle.sc_state.specs.declared.session.Session.{Session}
use Rattle.sc_hosts.specs.Finishing.{goodbye}
use Rattle.sc_lasting.specs.Lasting.{All}
use Rattle.sc_given.specs.Givings.{GivingLaws}
use Rattle.sc_given.proofs.GivenCalls.{all-given}
use Rattle.sc_given.proofs.GivenGoodbyes.{goodbye-kind}
use Rattle.sc_keyed.specs.Keyed.{new_branch, new_branches}

-- an answer or a CANCEL
unfoldable pub IsOld : Order → Type 0
IsOld (orders.Respond event response) = Unit {0}
IsOld (orders.Begin branch directive region state request) = ⊥
IsOld (orders.Send branch request) = ⊥
IsOld (orders.Acknowledge request) = ⊥
IsOld (orders.Cancel branch) = Unit {0}
IsOld (orders.CancelNow branch) = Unit {0}

pub old-law : GivingLaws IsOld (All IsOld)
unfolding IsOld
old-law = all-given IsOld (λ event response. tt) (λ branch. tt) (λ branch. tt)

-- they have no new branch
none-new : (given : List Order) → All IsOld given → new_branches given ≡ []
unfolding All IsOld new_branches new_branch
none-new [] old = refl
none-new (orders.Respond event response ∷ given) old = none-new given old.1
none-new (orders.Begin branch directive region state request ∷ given) old = absurd old.0
none-new (orders.Send branch request ∷ given) old = absurd old.0
none-new (orders.Acknowledge request ∷ given) old = absurd old.0
none-new (orders.Cancel branch ∷ given) old = none-new given old.1
none-new (orders.CancelNow branch ∷ given) old = none-new given old.1

-- what is sent as a session ends has none
pub goodbye-old : (config : Config) (session : Session) (inbox : List Waiting) → new_branches (goodbye config session inbox) ≡ []
goodbye-old config session inbox = none-new (goodbye config session inbox) (goodbye-kind IsOld old-law config session inbox)
