-- Changes of one branch, and the parts of what a final response does (RFC 3261 section 16.7).
use Rattle.std.specs.Prelude.{ℕ, [], ◌∷◌, ◌++◌, Bool, true, ◌&&◌, Option, None, if◌then◌else◌}
use Rattle.sc_value.specs.declared.ids.SessId.{SessId}
use Rattle.sc_value.specs.declared.message.Response.{Response}
use Rattle.sc_state.specs.declared.proxy.Proxy.{Proxy}
use Rattle.sc_model.specs.Transactions.{is_success}
use Rattle.sc_hosts.specs.Branches.{added_targets, ended_branch, is_global, is_open, passing_on, with_candidate, with_targets, without_search}
use Rattle.sc_state.specs.declared.proxy.Branch.{Branch}

-- its timer is due then
unfoldable pub with_due : Option ℕ → Branch → Branch
with_due due branch = record branch { due = due }

-- it is to be cancelled, and its timer ends
unfoldable pub cancelling : Branch → Branch
cancelling branch = record branch { cancelled = true; due = None }

-- the response is a candidate, unless it drops out
unfoldable pub candidate_unless : Bool → Response → Proxy → Proxy
candidate_unless drops response proxy =
    if drops then proxy else record proxy { candidates = proxy.candidates ++ response ∷ [] }

-- a final response of this branch, before it ends anything else
unfoldable pub after_final : ℕ → Response → Proxy → Proxy
after_final number response proxy =
    with_targets (added_targets proxy response)
    (with_candidate response (ended_branch number response.code proxy))

-- what a final response ends beside its branch
unfoldable pub ending : SessId → Response → Proxy → Proxy
ending sess response proxy =
    if is_success response.code then passing_on sess response (without_search proxy)
    else (if is_global response.code then without_search proxy else proxy)

-- it gets a CANCEL
unfoldable pub is_cancelled : Branch → Bool
is_cancelled branch = is_open branch && branch.cancelled

-- the number of a branch
abbrev pub number_of : Branch → ℕ
number_of branch = branch.number
