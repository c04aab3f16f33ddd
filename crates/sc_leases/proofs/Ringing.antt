-- What a turn shows doesn't depend on the branches that are ringing.
use Rattle.std.proofs.Common.{◌≡◌, ℕ, Bool, true, false, Option, None, Some, List, [], refl, sym, ◌∙◌}
use Rattle.std.specs.Prelude.{cond, ◌==◌, ◌&&◌, not}
use Rattle.std.specs.List.{list_any}
use Rattle.sc_terms.specs.declared.settings.Config.{Config}
use Rattle.sc_terms.specs.declared.views.View.{View}
use Rattle.sc_state.specs.declared.proxy.Proxy.{Proxy}
use Rattle.sc_state.specs.declared.queue.Queued.{Queued}
use Rattle.sc_state.specs.declared.queue.Queued.TheVariants as queued
use Rattle.sc_state.specs.declared.queue.Waiting.{Waiting}
use Rattle.sc_state.specs.declared.session.Session.{Session}
use Rattle.sc_state.specs.declared.working.Prepared.{Prepared}
use Rattle.sc_hosts.specs.Branches.{is_timed_out, is_invite, to_cancel, ended_by}
use Rattle.sc_hosts.specs.Messages.{own_response}
use Rattle.sc_hosts.specs.Words.{request_timeout}
use Rattle.sc_model.specs.Names.{edge_tag}
use Rattle.sc_hosts.specs.Preparing.{timed_out, prepared_branch_timer, prepared_for, prepared_session as prepared}
use Rattle.sc_hosts.specs.PreparingRequests.{silent}
use Rattle.sc_hosts.specs.PreparingResponses.{change_proxy, is_invalid}

-- the same is shown
pub record ShowSame (a b : Prepared) : Type 0 where
  pub view : a.view ≡ b.view
  pub event : a.event ≡ b.event

same : (a : Prepared) → ShowSame a a
same a = record { view = refl; event = refl }

if-same : (b : Bool) (x y z : Prepared) → ShowSame x y → ShowSame (cond b x z) (cond b y z)
if-same true x y z is = is
if-same false x y z is = same z

-- a branch whose time is up leaves the view
if-view : (b : Bool) (view : View) (x y : Session) → x.view ≡ view → y.view ≡ view → (cond b x y).view ≡ view
if-view true view x y p q = p
if-view false view x y p q = q

timed-view : (config : Config) (session : Session) (proxy : Proxy) (branch : ℕ) (provisional : Bool) → (timed_out config session proxy branch provisional).view ≡ session.view
unfolding timed_out
timed-view config session proxy branch provisional =
    if-view (is_invite proxy && provisional) session.view (record session { known = change_proxy proxy.req (to_cancel branch) session.known })
    (record session { known = change_proxy proxy.req (ended_by branch proxy.sess (own_response (edge_tag config.salt) 408 request_timeout proxy.request)) session.known }) refl refl

silent-same : (a b : Session) → a.view ≡ b.view → ShowSame (silent a []) (silent b [])
unfolding silent
silent-same a b is = record { view = is; event = refl }

branch_timer-same : (config : Config) (a b : List ℕ) (session : Session) (branch due : ℕ) (proxy : Option Proxy)
    → ShowSame (prepared_branch_timer config a session branch due proxy) (prepared_branch_timer config b session branch due proxy)
unfolding prepared_branch_timer
branch_timer-same config a b session branch due None = same _
branch_timer-same config a b session branch due (Some proxy) =
    if-same (is_timed_out branch due proxy && not (is_invalid session.known proxy.sess)) (silent (timed_out config session proxy branch (list_any (λ k. k == branch) a)) [])
    (silent (timed_out config session proxy branch (list_any (λ k. k == branch) b)) []) (silent session [])
    (silent-same _ _ (timed-view config session proxy branch _ ∙ sym (timed-view config session proxy branch _)))

for-same : (config : Config) (a b : List ℕ) (session : Session) (number : ℕ) (event : Queued) → ShowSame (prepared_for config a session number event) (prepared_for config b session number event)
unfolding prepared_for
for-same config a b session number (queued.Initial region subscriber popped request) = same _
for-same config a b session number (queued.Request request) = same _
for-same config a b session number (queued.Response branch response) = same _
for-same config a b session number (queued.Cancelled event) = same _
for-same config a b session number (queued.Timer id) = same _
for-same config a b session number (queued.BranchTimer branch due) = branch_timer-same config a b session branch due _
for-same config a b session number queued.Expired = same _
for-same config a b session number queued.Ready = same _

pub shows-same : (config : Config) (a b : List ℕ) (session : Session) (waiting : Waiting) (now : ℕ) → ShowSame (prepared config a session waiting now) (prepared config b session waiting now)
unfolding prepared
shows-same config a b session waiting now = for-same config a b _ waiting.number waiting.event
