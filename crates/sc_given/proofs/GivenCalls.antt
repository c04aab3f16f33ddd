-- What the calls of a turn give is of the kind of which it was.
use Rattle.std.proofs.Common.{◌≡◌, ℕ, Bool, true, false, Option, None, Some, List, [], ◌∷◌, ◌++◌, refl}
use Rattle.std.specs.Prelude.{cond, map, filter, ◌&&◌}
use Rattle.std.specs.List.{find, fold}
use Rattle.sc_value.specs.declared.ids.Directive.{Directive}
use Rattle.sc_value.specs.declared.ids.ReqId.{ReqId}
use Rattle.sc_value.specs.declared.ids.SessId.{SessId}
use Rattle.sc_value.specs.declared.message.Request.{Request}
use Rattle.sc_value.specs.declared.message.Response.{Response}
use Rattle.sc_value.specs.declared.parts.Contact.{Contact}
use Rattle.sc_value.specs.declared.parts.Uri.{Uri}
use Rattle.sc_terms.specs.declared.calls.Answer.{Answer}
use Rattle.sc_terms.specs.declared.calls.Ask.{Ask}
use Rattle.sc_terms.specs.declared.calls.Call.{Call}
use Rattle.sc_terms.specs.declared.calls.Call.TheVariants as calls
use Rattle.sc_terms.specs.declared.calls.CallRecord.{CallRecord}
use Rattle.sc_terms.specs.declared.calls.Refusal.{Refusal}
use Rattle.sc_terms.specs.declared.inside.Inside.{Inside}
use Rattle.sc_terms.specs.declared.settings.Config.{Config}
use Rattle.sc_terms.specs.declared.views.RequestView.{RequestView}
use Rattle.sc_terms.specs.declared.views.View.{View}
use Rattle.sc_state.specs.declared.orders.Order.{Order}
use Rattle.sc_state.specs.declared.orders.Order.TheVariants as orders
use Rattle.sc_state.specs.declared.session.Kept.{Kept}
use Rattle.sc_state.specs.declared.session.Known.{Known}
use Rattle.sc_state.specs.declared.session.Way.{Way}
use Rattle.sc_state.specs.declared.session.Way.TheVariants.{Received, Sent}
use Rattle.sc_state.specs.declared.working.Asked.{Asked}
use Rattle.sc_state.specs.declared.working.Asked.TheVariants as asked
use Rattle.sc_state.specs.declared.working.Draft.{Draft}
use Rattle.sc_state.specs.declared.working.Prepared.{Prepared}
use Rattle.sc_state.specs.declared.working.Working.{Working}
use Rattle.sc_state.specs.declared.working.Written.{Written}
use Rattle.sc_tokens.specs.Bytes.{Bytes}
use Rattle.sc_model.specs.Dialogs.{DialogState}
use Rattle.sc_hosts.specs.Giving.{answer_order, answers, answering, writes, drafts_own, drafts_later, drafts_leg, directs, forgets, is_written}
use Rattle.sc_hosts.specs.Messages.{from_here, with_contact}
use Rattle.sc_hosts.specs.ViewChanges.{is_owed, new_call_id, new_tag}
use Rattle.sc_hosts.specs.Working.{starts, keeps_sent, sends_initial, sends_later, sends_in, sends_written, sends, ack_with, acknowledges, cancels, owed_answer, goodbyes, invalidates, effects_of_call as does, does_by, after_one_call as worked, worked_all, next_branch}
use Rattle.sc_hosts.specs.Refusals.{refusal}
use Rattle.sc_lasting.specs.Lasting.{All}
use Rattle.sc_lasting.proofs.Parts.{all-append, all-both, all-first, all-flat, all-found, all-removed}
use Rattle.sc_given.specs.Givings.{DraftLaws, GivingLaws, IsDrafted}

-- ## Lists

-- what each item keeps, all of them keep
pub fold-keeps : {A : Type 0} (Holds : Working → Type 0) (items : List A) (act : Working → A → Working) → ((working : Working) (a : A) → Holds working → Holds (act working a)) → (working : Working) → Holds working
    → Holds (fold act working items)
fold-keeps Holds [] act each working holds = holds
fold-keeps Holds (a ∷ items) act each working holds = fold-keeps Holds items act each (act working a) (each working a holds)

-- ## A Contact

if-contact : (Such : Request → Type 0) → ((contacts : List Contact) (request : Request) → Such request → Such (with_contact contacts request)) → (b : Bool) (contacts : List Contact) (request : Request) → Such request
    → Such (cond b (with_contact contacts request) request)
if-contact Such keeps true contacts request such = keeps contacts request such
if-contact Such keeps false contacts request such = such

here-keeps : (Such : Request → Type 0) → ((contacts : List Contact) (request : Request) → Such request → Such (with_contact contacts request)) → (config : Config) (view : View) (request : Request) → Such request
    → Such (from_here config view request)
unfolding from_here
here-keeps Such keeps config view request such = if-contact Such keeps _ _ request such

-- ## All orders are of the kind

-- where answers and CANCELs are of it
pub all-given : (Kind : Order → Type 0) → ((event : ℕ) (response : Response) → Kind (orders.Respond event response)) → ((branch : ℕ) → Kind (orders.Cancel branch)) → ((branch : ℕ) → Kind (orders.CancelNow branch))
    → GivingLaws Kind (All Kind)
all-given Kind responds cancels cancels_now = record { more = λ given new kind had. all-both Kind given new had kind; responds = responds; cancels = cancels; cancels_now = cancels_now }

module _ (Kind : Order → Type 0) (Given : List Order → Type 0) (law : GivingLaws Kind Given) where
  pub one-kind : (order : Order) → Kind order → All Kind (order ∷ [])
  unfolding All
  one-kind order kind = (kind, tt)

  pub gives-one : (given : List Order) (order : Order) → Kind order → Given given → Given (given ++ order ∷ [])
  gives-one given order kind had = law.more given (order ∷ []) (one-kind order kind) had

  pub cancels-kind : (branches : List ℕ) → All Kind (map (λ branch. orders.Cancel branch) branches)
  unfolding All
  cancels-kind [] = tt
  cancels-kind (b ∷ bs) = (law.cancels b, cancels-kind bs)

  now-kind : (branches : List ℕ) → All Kind (map (λ branch. orders.CancelNow branch) branches)
  unfolding All
  now-kind [] = tt
  now-kind (b ∷ bs) = (law.cancels_now b, now-kind bs)

  -- ## Answers

  answer_order-kind : (config : Config) (view : View) (initial : Bool) (answer : Answer) (kept : Kept) (way : Way) → All Kind (answer_order config view initial answer kept way)
  unfolding answer_order All
  answer_order-kind config view initial answer kept (Received event) = (law.responds event _, tt)
  answer_order-kind config view initial answer kept (Sent branch) = tt

  pub answers-kind : (config : Config) (answer : Answer) (view : View) (kept : Option Kept) (initial : Bool) → All Kind (answers config answer view kept initial)
  unfolding answers All
  answers-kind config answer view None initial = tt
  answers-kind config answer view (Some kept) initial = answer_order-kind config view initial answer kept kept.way

  pub answering-gives : (config : Config) (request : Option RequestView) (answer : Answer) (working : Working) → Given working.orders → Given (answering config request answer working).orders
  unfolding answering
  answering-gives config None answer working had = had
  answering-gives config (Some request) answer working had = law.more working.orders _ (answers-kind config answer working.play.view _ request.initial) had

  -- ## Invalidation

  pub goodbyes-kind : (config : Config) (view : View) (known : Known) (test : SessId → Bool) → All Kind (goodbyes config view known test)
  unfolding goodbyes owed_answer
  goodbyes-kind config view known test =
      all-both Kind _ _ (all-flat Kind (filter (λ request. test request.sess && is_owed request) view.requests) _ (λ request. answers-kind config _ view _ request.initial)) (now-kind _)

  module _ (First Later : Request → Type 0) (drafts : DraftLaws Kind First Later) where
    -- so is all that was given so far in a turn, and what is drafted has its property
    abbrev Holds : Working → Type 0
    Holds working = Given working.orders × All (λ (draft : Written). IsDrafted First draft.asked) working.written

    answering-holds : (config : Config) (request : Option RequestView) (answer : Answer) (working : Working) → Holds working → Holds (answering config request answer working)
    unfolding answering
    answering-holds config None answer working holds = holds
    answering-holds config (Some request) answer working holds = (law.more working.orders _ (answers-kind config answer working.play.view _ request.initial) holds.0, holds.1)

    -- ## What is sent

    sends_in-holds : (config : Config) (sess : SessId) (ask : Inside) (dialog : Option DialogState) (working : Working) → Holds working → Holds (sends_in config sess ask dialog working)
    unfolding sends_in sends_later keeps_sent
    sends_in-holds config sess ask None working holds = holds
    sends_in-holds config sess ask (Some dialog) working holds =
        (gives-one working.orders _ (drafts.sends config working.play.view (next_branch working) _ (here-keeps Later drafts.later_contact config working.play.view _ (drafts.next dialog ask))) holds.0, holds.1)

    sends_written-holds : (config : Config) (draft : Written) (sess : SessId) (what : Asked) (working : Working) → IsDrafted First what → Holds working → Holds (sends_written config draft sess what working)
    unfolding sends_written sends_initial keeps_sent IsDrafted
    sends_written-holds config draft sess (asked.Initial request) working first holds =
        (gives-one working.orders _ (drafts.begins config working.play.view (next_branch working) _ _ _ _ (here-keeps First drafts.first_contact config working.play.view request first)) holds.0, holds.1)
    sends_written-holds config draft sess (asked.Later ask) working first holds = sends_in-holds config sess ask _ working holds

    forgets-holds : (number : ℕ) (working : Working) → Holds working → Holds (forgets number working)
    unfolding forgets
    forgets-holds number working holds = (holds.0, all-removed (λ (draft : Written). IsDrafted First draft.asked) (is_written number) working.written holds.1)

    sends-holds : (config : Config) (number : ℕ) (written : Option Written) (draft : Option Draft) (working : Working) → find (is_written number) working.written ≡ written → Holds working
        → Holds (sends config number written draft working)
    unfolding sends
    sends-holds config number (Some written) (Some draft) working is holds =
        forgets-holds number _ (sends_written-holds config written draft.sess written.asked working (all-found (λ (draft : Written). IsDrafted First draft.asked) (is_written number) working.written written is holds.1) holds)
    sends-holds config number (Some written) None working is holds = holds
    sends-holds config number None draft working is holds = holds

    ack_with-holds : (config : Config) (body : Bytes) (dialog : Option DialogState) (kept : Option Kept) (working : Working) → Holds working → Holds (ack_with config body dialog kept working)
    unfolding ack_with
    ack_with-holds config body (Some dialog) (Some kept) working holds =
        (gives-one working.orders _ (drafts.acknowledges config working.play.view (next_branch working) _ (drafts.ack dialog kept.request.head.cseq.number body)) holds.0, holds.1)
    ack_with-holds config body (Some dialog) None working holds = holds
    ack_with-holds config body None kept working holds = holds

    acknowledges-holds : (config : Config) (sess : SessId) (body : Bytes) (request : Option RequestView) (working : Working) → Holds working → Holds (acknowledges config sess body request working)
    unfolding acknowledges
    acknowledges-holds config sess body None working holds = holds
    acknowledges-holds config sess body (Some request) working holds = ack_with-holds config body _ _ working holds

    -- ## What is drafted

    writes-holds : (draft : Written) (working : Working) → IsDrafted First draft.asked → Holds working → Holds (writes draft working)
    unfolding writes
    writes-holds draft working first holds = (holds.0, all-append (λ (draft : Written). IsDrafted First draft.asked) working.written draft holds.1 first)

    drafts_own-holds : (ask : Ask) (working : Working) → Holds working → Holds (drafts_own ask working)
    unfolding drafts_own IsDrafted
    drafts_own-holds ask working holds = writes-holds _ working (drafts.asked (new_call_id working.play.view) (new_tag working.play.view) ask) holds

    drafts_later-holds : (ask : Inside) (working : Working) → Holds working → Holds (drafts_later ask working)
    unfolding drafts_later IsDrafted
    drafts_later-holds ask working holds = writes-holds _ working tt holds

    drafts_leg-holds : (req : ReqId) (uri : Option Uri) (kept : Option Kept) (working : Working) → Holds working → Holds (drafts_leg req uri kept working)
    unfolding drafts_leg IsDrafted
    drafts_leg-holds req uri None working holds = holds
    drafts_leg-holds req uri (Some kept) working holds = writes-holds _ working (drafts.leg (new_call_id working.play.view) (new_tag working.play.view) uri kept.request) holds

    directs-holds : (number : ℕ) (directive : Directive) (origin : Option ReqId) (working : Working) → Holds working → Holds (directs number directive origin working)
    unfolding directs
    directs-holds number directive origin working holds =
        (holds.0, all-first (λ (draft : Written). IsDrafted First draft.asked) (is_written number) (λ draft. record draft { directive = directive; origin = origin }) working.written (λ draft found first. first) holds.1)

    -- ## Each call

    does-holds : (config : Config) (working : Working) (call : Call) → Holds working → Holds (does config working call)
    unfolding does cancels invalidates
    does-holds config working (calls.Respond req answer) holds = answering-holds config _ answer working holds
    does-holds config working (calls.CreateRequest ask) holds = drafts_own-holds ask working holds
    does-holds config working (calls.CreateInDialog sess ask) holds = drafts_later-holds ask working holds
    does-holds config working (calls.B2bCreate req uri) holds = drafts_leg-holds req uri _ working holds
    does-holds config working (calls.SetDirective draft directive origin) holds = directs-holds draft directive origin working holds
    does-holds config working (calls.Send draft) holds = sends-holds config draft _ _ working refl holds
    does-holds config working (calls.Discard draft) holds = forgets-holds draft working holds
    does-holds config working (calls.Ack sess body) holds = acknowledges-holds config sess body _ working holds
    does-holds config working (calls.Cancel req) holds = (law.more working.orders _ (cancels-kind _) holds.0, holds.1)
    does-holds config working (calls.ProxyTo req uris how) holds = holds
    does-holds config working (calls.ProxyCancel req) holds = holds
    does-holds config working (calls.B2bRespond sess answer) holds = answering-holds config _ answer working holds
    does-holds config working (calls.Link a b) holds = holds
    does-holds config working (calls.Unlink a) holds = holds
    does-holds config working (calls.StartTimer delay period info) holds = holds
    does-holds config working (calls.CancelTimer id) holds = holds
    does-holds config working (calls.SetAttribute name value) holds = holds
    does-holds config working (calls.RemoveAttribute name) holds = holds
    does-holds config working (calls.SetExpires minutes) holds = holds
    does-holds config working (calls.SetReadyFlag target flag) holds = holds
    does-holds config working (calls.InvalidateSession sess) holds = (law.more working.orders _ (goodbyes-kind config working.play.view working.known _) holds.0, holds.1)
    does-holds config working calls.InvalidateApplication holds = holds

    does_by-holds : (config : Config) (working : Working) (call : Call) (refused : Option Refusal) → Holds working → Holds (does_by config working call refused)
    unfolding does_by
    does_by-holds config working call None holds = does-holds config working call holds
    does_by-holds config working call (Some refused) holds = holds

    all-hold : (config : Config) (shown : Prepared) (made : List CallRecord) → Given shown.orders → Holds (worked_all config shown made)
    unfolding worked_all worked starts All
    all-hold config shown made had =
        fold-keeps Holds made (λ working made. worked config working made.call) (λ working made holds. does_by-holds config working made.call (refusal working.play made.call) holds) (starts shown) (had, tt)

    -- all calls of a turn
    pub worked_all-gives : (config : Config) (shown : Prepared) (made : List CallRecord) → Given shown.orders → Given (worked_all config shown made).orders
    worked_all-gives config shown made had = (all-hold config shown made had).0
