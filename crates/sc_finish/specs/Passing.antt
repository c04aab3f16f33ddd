-- What the container answers by itself, and a later request that is passed on, in parts (RFC 3261
-- section 16.6).
use Rattle.std.specs.Prelude.{ℕ, [], ◌∷◌, ◌++◌, Some}
use Rattle.sc_value.specs.declared.message.Request.{Request}
use Rattle.sc_terms.specs.declared.settings.Config.{Config}
use Rattle.sc_terms.specs.declared.calls.Answer.{Answer}
use Rattle.sc_terms.specs.declared.views.RequestView.{RequestView}
use Rattle.sc_terms.specs.declared.views.View.{View}
use Rattle.sc_state.specs.declared.orders.Order.TheVariants as orders
use Rattle.sc_state.specs.declared.session.Kept.{Kept}
use Rattle.sc_state.specs.declared.working.Working.{Working}
use Rattle.sc_hosts.specs.ViewChanges.{view_with_answer}
use Rattle.sc_hosts.specs.Acting.{in_view, sent_proxy}
use Rattle.sc_hosts.specs.Messages.{on_branch, passed_request}
use Rattle.sc_hosts.specs.Giving.{answering, giving}

-- the request as it goes on
unfoldable pub request_onward : Config → View → ℕ → Request → Request
request_onward config view branch request = on_branch config view branch (passed_request request)

-- with a proxy of one branch
unfoldable pub sends_on : Kept → ℕ → Request → Working → Working
sends_on kept branch sent working =
    giving (orders.Send branch sent ∷ [])
    (record working {
      known =
          record working.known { proxies = working.known.proxies ++ sent_proxy kept branch ∷ [] };
    })

-- the container answers a request by itself
unfoldable pub answers_alone : Config → RequestView → Answer → Working → Working
answers_alone config request answer working =
    in_view (view_with_answer (Some request) answer.code working.play.view)
    (answering config (Some request) answer working)
