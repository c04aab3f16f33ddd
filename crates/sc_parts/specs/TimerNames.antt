-- The names of the timers of an application session and of its transactions, and their order.
-- Timers are those of RFC 3261 section 17 and JSR 289 section 6.1.2; their order is this project's
-- own.
use Rattle.std.specs.Prelude.{ℕ, Bool}
use Rattle.std.specs.declared.cmp.Ordering.{Ordering}
use Rattle.std.specs.Ordering.{nat_cmp, eq_by_cmp, on, then_cmp}
use Rattle.sc_parts.specs.declared.timers.TimerName.{TimerName}
use Rattle.sc_parts.specs.declared.timers.TimerName.TheVariants.{Expiry, Servlet, Branch, Client, Cancel, Server}

-- the number of what it is the timer of: of the servlet timer, the branch, or the event by which
-- the server transaction's request was queued; the expiry's is 0
abbrev pub number_of : TimerName → ℕ
number_of Expiry = 0
number_of (Servlet id) = id.0
number_of (Branch number) = number
number_of (Client branch) = branch
number_of (Cancel branch) = branch
number_of (Server event) = event

-- which comes first of those of one number: the expiry, a servlet timer, a branch's, that of its
-- client transaction, that of the CANCEL's, and then that of a server transaction
abbrev pub rank_of : TimerName → ℕ
rank_of Expiry = 0
rank_of (Servlet id) = 1
rank_of (Branch number) = 2
rank_of (Client branch) = 3
rank_of (Cancel branch) = 4
rank_of (Server event) = 5

-- by the number, and then which comes first
abbrev pub timer_order : TimerName → TimerName → Ordering
timer_order = then_cmp (on number_of nat_cmp) (on rank_of nat_cmp)

-- two names are of one timer: neither comes before the other
abbrev pub same_timer : TimerName → TimerName → Bool
same_timer = eq_by_cmp timer_order
