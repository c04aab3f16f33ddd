-- What is sent as a session ends is of each kind of which answers and CANCELs are.
use Rattle.std.proofs.Common.{ℕ, Bool, true, false, List, [], ◌∷◌}
use Rattle.std.specs.Prelude.{cond}
use Rattle.sc_value.specs.declared.message.Response.{Response}
use Rattle.sc_terms.specs.declared.settings.Config.{Config}
use Rattle.sc_state.specs.declared.orders.Order.{Order}
use Rattle.sc_state.specs.declared.orders.Order.TheVariants as orders
use Rattle.sc_state.specs.declared.queue.Queued.{Queued}
use Rattle.sc_state.specs.declared.queue.Queued.TheVariants as queued
use Rattle.sc_state.specs.declared.queue.Waiting.{Waiting}
use Rattle.sc_state.specs.declared.session.Session.{Session}
use Rattle.sc_tokens.specs.Bytes.{Bytes}
use Rattle.sc_hosts.specs.Finishing.{goodbye, waiting_answer}
use Rattle.sc_lasting.specs.Lasting.{All}
use Rattle.sc_lasting.proofs.Parts.{all-both, all-filter, all-flat}
use Rattle.sc_given.specs.Givings.{GivingLaws}
use Rattle.sc_given.proofs.GivenCalls.{goodbyes-kind}

module _ (Kind : Order → Type 0) (law : GivingLaws Kind (All Kind)) where
  if-orders : (b : Bool) (xs ys : List Order) → All Kind xs → All Kind ys → All Kind (cond b xs ys)
  if-orders true xs ys p q = p
  if-orders false xs ys p q = q

  none : All Kind []
  unfolding All
  none = tt

  answer : (event : ℕ) (response : Response) → All Kind (orders.Respond event response ∷ [])
  unfolding All
  answer event response = (law.responds event response, tt)

  waiting_answer-kind : (tag : Bytes) (number : ℕ) (event : Queued) → All Kind (waiting_answer tag (record { number = number; event = event }))
  unfolding waiting_answer
  waiting_answer-kind tag number (queued.Initial region subscriber popped request) = answer number _
  waiting_answer-kind tag number (queued.Request request) = if-orders _ [] _ none (answer number _)
  waiting_answer-kind tag number (queued.Response branch response) = none
  waiting_answer-kind tag number (queued.Cancelled event) = none
  waiting_answer-kind tag number (queued.Timer id) = none
  waiting_answer-kind tag number (queued.BranchTimer branch due) = none
  waiting_answer-kind tag number queued.Expired = none
  waiting_answer-kind tag number queued.Ready = none

  -- answers to what it owes, answers to what waits, and CANCELs
  pub goodbye-kind : (config : Config) (session : Session) (inbox : List Waiting) → All Kind (goodbye config session inbox)
  unfolding goodbye
  goodbye-kind config session inbox =
      let said = goodbyes-kind Kind (All Kind) law config session.view session.known (λ sess. true) in
      all-both Kind _ _ (all-both Kind _ _ (all-filter Kind _ _ said) (all-flat Kind inbox (waiting_answer _) (λ waiting. waiting_answer-kind _ waiting.number waiting.event))) (all-filter Kind _ _ said)
