-- Lists that answer a call each, in order. This project's own.
use Rattle.std.specs.Prelude.{ℕ, zero, suc, List, [], ◌∷◌, Option, None}
use Rattle.sc_edge.specs.Faults.{one_more}
use Rattle.sc_edge.specs.declared.orders.Order.{Order}

-- a list without its first item
abbrev pub tail_of : {A : Type 0} → List A → List A
tail_of [] = []
tail_of (item ∷ items) = items

-- a clock that answers moments of a list, in milliseconds, and then the last one for ever
pub record ClockState : Type 0 where
  -- the moments that are still to come
  pub left : List ℕ
  -- the moment that was answered last; 0 before the first
  pub last : ℕ
  pub asked : ℕ

-- the moment that call `n` from here answers, the next one being call 0
abbrev pub moment_at : List ℕ → ℕ → ℕ → ℕ
moment_at [] last n = last
moment_at (moment ∷ left) last zero = moment
moment_at (moment ∷ left) last (suc n) = moment_at left moment n

-- the clock after one more call
abbrev pub after_now : ClockState → ClockState
after_now clock =
    record {
      left = tail_of clock.left;
      last = moment_at clock.left clock.last 0;
      asked = one_more clock.asked;
    }

-- orders of a list, one answer a call, and then none for ever
pub record OrdersState : Type 0 where
  -- what is still to come, an order or none at each call
  pub left : List (Option Order)
  pub asked : ℕ

-- what call `n` from here answers, the next one being call 0
abbrev pub order_at : List (Option Order) → ℕ → Option Order
order_at [] n = None
order_at (order ∷ left) zero = order
order_at (order ∷ left) (suc n) = order_at left n

-- the orders after one more call
abbrev pub after_next : OrdersState → OrdersState
after_next orders = record { left = tail_of orders.left; asked = one_more orders.asked }
