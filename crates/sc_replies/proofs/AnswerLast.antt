-- What a session answers as it ends answers requests that came to it, handled or waiting.
use Rattle.std.proofs.Common.{◌≡◌, inl, inr, ℕ, ◌++◌, Bool, true, false, Some, List, [], ◌∷◌, refl}
use Rattle.std.specs.Prelude.{cond}
use Rattle.std.specs.List.{flat_map}
use Rattle.sc_tokens.specs.Names.{same_bytes}
use Rattle.sc_terms.specs.declared.settings.Config.{Config}
use Rattle.sc_state.specs.declared.orders.Order.{Order}
use Rattle.sc_state.specs.declared.orders.Order.TheVariants as orders
use Rattle.sc_state.specs.declared.queue.Queued.{Queued}
use Rattle.sc_state.specs.declared.queue.Queued.TheVariants as queued
use Rattle.sc_state.specs.declared.queue.Waiting.{Waiting}
use Rattle.sc_state.specs.declared.session.Session.{Session}
use Rattle.sc_tokens.specs.Bytes.{Bytes}
use Rattle.sc_model.specs.SessionStates.{ack}
use Rattle.sc_hosts.specs.Finishing.{goodbye, waiting_answer}
use Rattle.sc_hosts.specs.Histories.{History, session_of}
use Rattle.sc_hosts.specs.Legs.{FIRST_SESSION}
use Rattle.sc_hosts.specs.Preparing.{own_tag_of}
use Rattle.sc_hosts.specs.Words.{does_not_exist}
use Rattle.sc_hosts.specs.Working.{goodbyes}
use Rattle.sc_lasting.specs.Lasting.{All}
use Rattle.sc_lasting.proofs.Parts.{all-both, all-filter, all-map}
use Rattle.sc_lived.specs.Lived.{turned_events}
use Rattle.sc_replies.specs.Fields.{AnswersAlone, Incoming, WasBrought, incoming}
use Rattle.sc_replies.proofs.AnswerEvents.{AreOf, more-of}
use Rattle.sc_replies.proofs.AnswerFields.{own-answers}
use Rattle.sc_replies.proofs.AnswerOrders.{Gives, goodbyes-give}
use Rattle.sc_replies.proofs.AnswerTurns.{lives-of, brought-first}

-- nothing is forwarded
abbrev NoneGoes : ℕ → Type 0
NoneGoes number = ⊥

module _ (By : ℕ → Incoming → Type 0) where
  abbrev Gives-own : Order → Type 0
  Gives-own order = Gives By NoneGoes order

  abbrev AllOwn : List Order → Type 0
  AllOwn given = All Gives-own given

  -- the event brings what it brings by its number
  abbrev IsBy : Waiting → Type 0
  IsBy waiting = (came : Incoming) → incoming waiting.event ≡ Some came → By waiting.number came

  if-own : (b : Bool) (given : List Order) → AllOwn given → AllOwn (cond b [] given)
  unfolding All
  if-own true given all = tt
  if-own false given all = all

  waiting-gives : (tag : Bytes) (number : ℕ) (event : Queued) → IsBy (record { number = number; event = event }) → AllOwn (waiting_answer tag (record { number = number; event = event }))
  unfolding waiting_answer incoming Gives All
  waiting-gives tag number (queued.Initial region subscriber popped request) by =
      let came : Incoming = record { initial = true; request = request } in
      (inl (came, by came refl, own-answers tag 481 does_not_exist true request refl), tt)
  waiting-gives tag number (queued.Request request) by =
      let came : Incoming = record { initial = false; request = request } in
      if-own (same_bytes request.method ack) (orders.Respond number _ ∷ []) (inl (came, by came refl, own-answers [] 481 does_not_exist false request refl), tt)
  waiting-gives tag number (queued.Response branch response) by = tt
  waiting-gives tag number (queued.Cancelled event) by = tt
  waiting-gives tag number (queued.Timer id) by = tt
  waiting-gives tag number (queued.BranchTimer branch due) by = tt
  waiting-gives tag number queued.Expired by = tt
  waiting-gives tag number queued.Ready by = tt

  inbox-gives : (tag : Bytes) (inbox : List Waiting) → All IsBy inbox → AllOwn (flat_map (waiting_answer tag) inbox)
  unfolding All
  inbox-gives tag [] by = tt
  inbox-gives tag (waiting ∷ inbox) by =
      all-both Gives-own (waiting_answer tag waiting) (flat_map (waiting_answer tag) inbox) (waiting-gives tag waiting.number waiting.event by.0) (inbox-gives tag inbox by.1)

  goodbye-gives : (config : Config) (session : Session) (inbox : List Waiting) → AreOf By session.view session.known → All IsBy inbox → AllOwn (goodbye config session inbox)
  unfolding goodbye
  goodbye-gives config session inbox ok by =
      let all : AllOwn (goodbyes config session.view session.known (λ sess. true)) = goodbyes-give By NoneGoes config session.view session.known (λ sess. true) ok.3 in
      all-both Gives-own _ _ (all-both Gives-own _ _ (all-filter Gives-own _ (goodbyes config session.view session.known (λ sess. true)) all) (inbox-gives (own_tag_of session.view FIRST_SESSION) inbox by))
      (all-filter Gives-own _ (goodbyes config session.view session.known (λ sess. true)) all)

-- ## A life

last-brought : (events more : List Waiting) (number : ℕ) (came : Incoming) → WasBrought more number came → WasBrought (events ++ more) number came
unfolding WasBrought
last-brought [] more number came by = by
last-brought (waiting ∷ events) more number came by = inr (last-brought events more number came by)

abbrev InAll : List Waiting → ℕ → Incoming → Type 0
InAll events number came = WasBrought events number came

own-brought : (inbox : List Waiting) → All (IsBy (InAll inbox)) inbox
unfolding WasBrought All
own-brought [] = tt
own-brought (waiting ∷ inbox) = ((λ came is. inl (refl, is)), all-map (IsBy (InAll inbox)) (IsBy (InAll (waiting ∷ inbox))) inbox (λ one by came is. inr (by came is)) (own-brought inbox))

order-alone : (events : List Waiting) (order : Order) → Gives (InAll events) NoneGoes order → AnswersAlone events order
unfolding Gives AnswersAlone
order-alone events (orders.Respond number response) (inl one) = record { came = one.0; brought = one.1; answers = one.2 }
order-alone events (orders.Respond number response) (inr none) = absurd none
order-alone events (orders.Begin branch directive region state request) gives = tt
order-alone events (orders.Send branch request) gives = tt
order-alone events (orders.Acknowledge request) gives = tt
order-alone events (orders.Cancel branch) gives = tt
order-alone events (orders.CancelNow branch) gives = tt

pub histories-end : (config : Config) (history : History) (inbox : List Waiting) → All (AnswersAlone (turned_events history.turns ++ inbox)) (goodbye config (session_of config history) inbox)
unfolding session_of
histories-end config history inbox =
    let events : List Waiting = turned_events history.turns ++ inbox in
    let session : Session = session_of config history in
    all-map (Gives (InAll events) NoneGoes) (AnswersAlone events) (goodbye config session inbox) (order-alone events)
    (goodbye-gives (InAll events) config session inbox
    (more-of (InAll (turned_events history.turns)) (InAll events) session.view session.known (λ number came by. brought-first (turned_events history.turns) inbox number came by) (lives-of history.turns config history))
    (all-map (IsBy (InAll inbox)) (IsBy (InAll events)) inbox (λ one by came is. last-brought (turned_events history.turns) inbox one.number came (by came is)) (own-brought inbox)))
