-- The answers that calls give are given to send.
use Rattle.std.proofs.Common.{◌≡◌, ℕ, Bool, true, false, Option, None, Some, List, [], ◌∷◌, refl, subst, sym}
use Rattle.std.specs.Prelude.{◌&&◌, ◌||◌, cond, is_none, is_some, map, not}
use Rattle.std.specs.List.{find, fold}
use Rattle.std.specs.Option.{option_map_or}
use Rattle.sc_tokens.specs.Names.{same_bytes}
use Rattle.sc_value.specs.declared.ids.ReqId.{ReqId}
use Rattle.sc_value.specs.declared.ids.SessId.{SessId}
use Rattle.sc_value.specs.declared.parts.Uri.{Uri}
use Rattle.sc_terms.specs.declared.calls.Answer.{Answer}
use Rattle.sc_terms.specs.declared.calls.Call.{Call}
use Rattle.sc_terms.specs.declared.calls.Call.TheVariants as calls
use Rattle.sc_terms.specs.declared.calls.CallRecord.{CallRecord}
use Rattle.sc_terms.specs.declared.calls.Refusal.{Refusal}
use Rattle.sc_terms.specs.declared.calls.Refusal.TheVariants.{NotYours}
use Rattle.sc_terms.specs.declared.inside.Inside.{Inside}
use Rattle.sc_terms.specs.declared.settings.Config.{Config}
use Rattle.sc_terms.specs.declared.views.RequestView.{RequestView}
use Rattle.sc_state.specs.declared.orders.Order.TheVariants as orders
use Rattle.sc_state.specs.declared.session.Kept.{Kept}
use Rattle.sc_state.specs.declared.working.Asked.{Asked}
use Rattle.sc_state.specs.declared.working.Asked.TheVariants as asked
use Rattle.sc_state.specs.declared.working.Draft.{Draft}
use Rattle.sc_state.specs.declared.working.Play.{Play}
use Rattle.sc_state.specs.declared.working.Working.{Working}
use Rattle.sc_state.specs.declared.working.Written.{Written}
use Rattle.sc_tokens.specs.Bytes.{Bytes}
use Rattle.sc_model.specs.Dialogs.{DialogState}
use Rattle.sc_model.specs.SessionStates.{ack}
use Rattle.sc_hosts.specs.Effects.{after_listed}
use Rattle.sc_hosts.specs.Finishing.{lacks_final}
use Rattle.sc_hosts.specs.Giving.{answering, directs, drafts_later, drafts_leg, drafts_own, forgets, is_written, writes}
use Rattle.sc_hosts.specs.Looking.{is_request, request_in}
use Rattle.sc_hosts.specs.Preparing.{kept_of}
use Rattle.sc_hosts.specs.RefusalParts.{draft_in}
use Rattle.sc_hosts.specs.Refusals.{awaits_ack, b2b_respond_refusal, begun_by, own_refusal, refusal, respond_refusal}
use Rattle.sc_hosts.specs.Working.{ack_with, acknowledges, cancels, dialog_in, effects_of_call as does, does_by, invalidates, keeps_sent, sends, sends_in, sends_initial, sends_later, sends_written, sent_branch, after_one_call as worked}
use Rattle.sc_lasting.proofs.Began.{first-passed, or-left, or-right, not-false}
use Rattle.sc_lasting.proofs.Parts.{all-found}
use Rattle.sc_answered.specs.Happened.{answer_to, by_calls as given, given_by, given_if}
use Rattle.sc_replies.specs.Came.{Came}
use Rattle.sc_replies.proofs.Fine.{FineIn}
use Rattle.sc_replies.proofs.Owed.{IsFine, IsHeld, IsKept}
use Rattle.sc_replies.proofs.OwedCalls.{InTurn, worked-holds}
use Rattle.sc_replies.proofs.ShownCame.{HasCome, IsCome}
use Rattle.sc_replies.proofs.Sent.{Sends, answering-sends, sends-none, sends-same, sends-then}

-- ## What an accepted answer says of its request

lacks-by : (final : Option ℕ) (is_ack : Bool) → is_some final ≡ false → is_ack ≡ false → (is_none final && not is_ack) ≡ true
lacks-by None true p q = cc
lacks-by None false p q = refl
lacks-by (Some code) is_ack p q = cc

both-false : (a b : Bool) → (a || b) ≡ false → (a ≡ false) × (b ≡ false)
both-false true b is = cc
both-false false b is = (refl, is)

-- it came, and lacks its final response
pub record IsOwed (request : RequestView) : Type 0 where
  pub received : request.received ≡ true
  pub lacks : lacks_final request ≡ true

pub respond-owed : (request : RequestView) (answer : Answer) → respond_refusal request answer ≡ None → IsOwed request
unfolding respond_refusal lacks_final
respond-owed request answer is =
    let one = first-passed (not request.received || same_bytes request.method ack) _ _ (or-left _ _ is) in
    let two = first-passed request.proxied _ _ one.1 in
    let three = first-passed (is_some request.answered) _ _ two.1 in
    let came = both-false (not request.received) (same_bytes request.method ack) one.0 in
    record { received = not-false request.received came.0; lacks = lacks-by request.answered (same_bytes request.method ack) three.0 came.1 }

found-owed : (found : Option RequestView) (answer : Answer) (request : RequestView) → found ≡ Some request
    → option_map_or (λ (r : RequestView). respond_refusal r answer) found (Some NotYours) ≡ None → IsOwed request
found-owed None answer request is accepted = cc
found-owed (Some r) answer request is accepted = respond-owed request answer (same-refusal r request answer (some-is r request is) accepted)
  where
    some-is : (y x : RequestView) → Some y ≡ Some x → y ≡ x
    some-is y x is = cc

    same-refusal : (y x : RequestView) (answer : Answer) → y ≡ x → respond_refusal y answer ≡ None → respond_refusal x answer ≡ None
    same-refusal y x answer same is = rw (sym same) is

own-passed : (play : Play) (call : Call) → refusal play call ≡ None → own_refusal play call ≡ None
unfolding refusal
own-passed play call is = or-right _ _ (or-right _ _ is)

linked-by : (b : Bool) (refused : Refusal) (later : Option Refusal) → cond b (Some refused) later ≡ None → later ≡ None
linked-by true refused later is = cc
linked-by false refused later is = is

pub respond-passed : (play : Play) (req : ReqId) (answer : Answer) → refusal play (calls.Respond req answer) ≡ None
    → option_map_or (λ (r : RequestView). respond_refusal r answer) (request_in play.view req) (Some NotYours) ≡ None
unfolding own_refusal
respond-passed play req answer is = own-passed play (calls.Respond req answer) is

pub b2b-passed : (play : Play) (sess : SessId) (answer : Answer) → refusal play (calls.B2bRespond sess answer) ≡ None
    → option_map_or (λ (r : RequestView). respond_refusal r answer) (begun_by play.view sess) (Some NotYours) ≡ None
unfolding own_refusal b2b_respond_refusal
b2b-passed play sess answer is = linked-by _ _ _ (own-passed play (calls.B2bRespond sess answer) is)

-- a request that a view shows is held
pub found-held : (test : RequestView → Bool) (working : Working) (request : RequestView) → find test working.play.view.requests ≡ Some request → InTurn working
    → IsHeld working.known.kept request
found-held test working request is ok =
    (all-found (IsFine working.play.view.next_request working.known.kept) test working.play.view.requests request is ok.0).1

pub owed-kept : (kepts : List Kept) (request : RequestView) → IsHeld kepts request → request.received ≡ true → lacks_final request ≡ true → IsKept kepts request.id
unfolding IsHeld
owed-kept kepts request held received lacks = held received lacks

respond-sends : (came : List Came) (config : Config) (answer : Answer) (working : Working) (found : Option RequestView)
    → ((request : RequestView) → found ≡ Some request → IsKept working.known.kept request.id × HasCome came request.id.0) → FineIn came working
    → Sends came (answer_to working.play.view found answer.code) working.orders (answering config found answer working).orders
unfolding answer_to answering
respond-sends came config answer working None kept fit = sends-same came working.orders
respond-sends came config answer working (Some request) kept fit = answering-sends came config request answer working (kept request refl).0 (kept request refl).1 fit

kept-by : (came : List Came) (test : RequestView → Bool) (answer : Answer) (working : Working) (request : RequestView) → InTurn working → FineIn came working
    → option_map_or (λ (r : RequestView). respond_refusal r answer) (find test working.play.view.requests) (Some NotYours) ≡ None
    → find test working.play.view.requests ≡ Some request → IsKept working.known.kept request.id × HasCome came request.id.0
kept-by came test answer working request ok fine accepted is =
    let owed : IsOwed request = found-owed (find test working.play.view.requests) answer request is accepted in (
      owed-kept working.known.kept request (found-held test working request is ok) owed.received owed.lacks,
      all-found (IsCome came) test working.play.view.requests request is fine.1 owed.received,
    )

begun-kept : (came : List Came) (sess : SessId) (answer : Answer) (working : Working) (request : RequestView) → InTurn working → FineIn came working
    → option_map_or (λ (r : RequestView). respond_refusal r answer) (begun_by working.play.view sess) (Some NotYours) ≡ None
    → begun_by working.play.view sess ≡ Some request → IsKept working.known.kept request.id × HasCome came request.id.0
unfolding begun_by
begun-kept came sess answer working request ok fine accepted is = kept-by came _ answer working request ok fine accepted is

-- ## Other calls tell no answer

leg-sends : (came : List Came) (req : ReqId) (uri : Option Uri) (kept : Option Kept) (working : Working) → Sends came [] working.orders (drafts_leg req uri kept working).orders
unfolding drafts_leg writes
leg-sends came req uri None working = sends-same came working.orders
leg-sends came req uri (Some kept) working = sends-same came working.orders

in-sends : (came : List Came) (config : Config) (sess : SessId) (ask : Inside) (dialog : Option DialogState) (working : Working) → Sends came [] working.orders (sends_in config sess ask dialog working).orders
unfolding sends_in sends_later keeps_sent
in-sends came config sess ask None working = sends-same came working.orders
in-sends came config sess ask (Some dialog) working = sends-none came working.orders _

written-sends : (came : List Came) (config : Config) (written : Written) (sess : SessId) (what : Asked) (working : Working) → Sends came [] working.orders (sends_written config written sess what working).orders
unfolding sends_written sends_initial keeps_sent
written-sends came config written sess (asked.Initial request) working = sends-none came working.orders _
written-sends came config written sess (asked.Later ask) working = in-sends came config sess ask (dialog_in working.known sess) working

send-sends : (came : List Came) (config : Config) (number : ℕ) (written : Option Written) (draft : Option Draft) (working : Working) → Sends came [] working.orders (sends config number written draft working).orders
unfolding sends forgets
send-sends came config number (Some written) (Some draft) working = written-sends came config written draft.sess written.asked working
send-sends came config number (Some written) None working = sends-same came working.orders
send-sends came config number None draft working = sends-same came working.orders

ack-with-sends : (came : List Came) (config : Config) (body : Bytes) (dialog : Option DialogState) (kept : Option Kept) (working : Working) → Sends came [] working.orders (ack_with config body dialog kept working).orders
unfolding ack_with
ack-with-sends came config body (Some dialog) (Some kept) working = sends-none came working.orders _
ack-with-sends came config body (Some dialog) None working = sends-same came working.orders
ack-with-sends came config body None kept working = sends-same came working.orders

ack-sends : (came : List Came) (config : Config) (sess : SessId) (body : Bytes) (request : Option RequestView) (working : Working) → Sends came [] working.orders (acknowledges config sess body request working).orders
unfolding acknowledges
ack-sends came config sess body None working = sends-same came working.orders
ack-sends came config sess body (Some request) working = ack-with-sends came config body (dialog_in working.known sess) (kept_of working.known request.id) working

-- ## Each call

call-sends : (came : List Came) (config : Config) (working : Working) (call : Call) → InTurn working → FineIn came working → refusal working.play call ≡ None → Sends came (given_by working.play call) working.orders (does config working call).orders
unfolding given_by does drafts_own drafts_later writes directs forgets cancels invalidates
call-sends came config working (calls.Respond req answer) ok fit is =
    respond-sends came config answer working (request_in working.play.view req) (λ request found. kept-by came (is_request req) answer working request ok fit (respond-passed working.play req answer is) found) fit
call-sends came config working (calls.CreateRequest ask) ok fit is = sends-same came working.orders
call-sends came config working (calls.CreateInDialog sess ask) ok fit is = sends-same came working.orders
call-sends came config working (calls.B2bCreate req uri) ok fit is = leg-sends came req uri (kept_of working.known req) working
call-sends came config working (calls.SetDirective draft directive origin) ok fit is = sends-same came working.orders
call-sends came config working (calls.Send draft) ok fit is = send-sends came config draft (find (is_written draft) working.written) (draft_in working.play draft) working
call-sends came config working (calls.Discard draft) ok fit is = sends-same came working.orders
call-sends came config working (calls.Ack sess body) ok fit is = ack-sends came config sess body (find (awaits_ack sess) working.play.view.requests) working
call-sends came config working (calls.Cancel req) ok fit is = sends-none came working.orders (map (λ branch. orders.Cancel branch) (sent_branch (kept_of working.known req)))
call-sends came config working (calls.ProxyTo req uris how) ok fit is = sends-same came working.orders
call-sends came config working (calls.ProxyCancel req) ok fit is = sends-same came working.orders
call-sends came config working (calls.B2bRespond sess answer) ok fit is =
    respond-sends came config answer working (begun_by working.play.view sess) (λ request found. begun-kept came sess answer working request ok fit (b2b-passed working.play sess answer is) found) fit
call-sends came config working (calls.Link a b) ok fit is = sends-same came working.orders
call-sends came config working (calls.Unlink a) ok fit is = sends-same came working.orders
call-sends came config working (calls.StartTimer delay period info) ok fit is = sends-same came working.orders
call-sends came config working (calls.CancelTimer id) ok fit is = sends-same came working.orders
call-sends came config working (calls.SetAttribute name value) ok fit is = sends-same came working.orders
call-sends came config working (calls.RemoveAttribute name) ok fit is = sends-same came working.orders
call-sends came config working (calls.SetExpires minutes) ok fit is = sends-same came working.orders
call-sends came config working (calls.SetReadyFlag target flag) ok fit is = sends-same came working.orders
call-sends came config working (calls.InvalidateSession sess) ok fit is = sends-none came working.orders _
call-sends came config working calls.InvalidateApplication ok fit is = sends-same came working.orders

called-by : (came : List Came) (config : Config) (working : Working) (call : Call) (found : Option Refusal) → InTurn working → FineIn came working → refusal working.play call ≡ found
    → Sends came (given_if working.play call found) working.orders (does_by config working call found).orders
unfolding given_if does_by
called-by came config working call None ok fit is = call-sends came config working call ok fit is
called-by came config working call (Some refused) ok fit is = sends-same came working.orders

worked-sends : (came : List Came) (config : Config) (working : Working) (call : Call) → InTurn working → FineIn came working → Sends came (given_if working.play call (refusal working.play call)) working.orders (worked config working call).orders
unfolding worked
worked-sends came config working call ok fit = called-by came config working call (refusal working.play call) ok fit refl

worked-play : (config : Config) (working : Working) (call : Call) → (worked config working call).play ≡ after_listed working.play call
unfolding worked
worked-play config working call = refl

pub calls-send : (came : List Came) (made : List CallRecord) (config : Config) (working : Working) → InTurn working
    → ((more : List CallRecord) → FineIn came (fold (λ working made. worked config working made.call) working more))
    → Sends came (given working.play made) working.orders (fold (λ working made. worked config working made.call) working made).orders
unfolding given
calls-send came [] config working ok fit = sends-same came working.orders
calls-send came (m ∷ made) config working ok fit =
    let next : Working = worked config working m.call in
    sends-then came (given_if working.play m.call (refusal working.play m.call)) (given (after_listed working.play m.call) made) working.orders next.orders (fold (λ working made. worked config working made.call) next made).orders
    (worked-sends came config working m.call ok (fit []))
    (subst (λ (play : Play). Sends came (given play made) next.orders (fold (λ working made. worked config working made.call) next made).orders) (worked-play config working m.call) (calls-send came made config next (worked-holds config working m.call ok) (λ more. fit (m ∷ more))))
