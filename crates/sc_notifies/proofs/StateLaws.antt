-- A SipSession's subscription goes by the table, over every list of calls.
use Rattle.std.proofs.Common.{◌≡◌, ◌≤◌, ◌<◌, ℕ, ◌+◌, ◌*◌, ◌^◌, ◌==◌, ◌++◌, ◌||◌, Bool, true, false, not, Option, None, Some, List, [], ◌∷◌, refl, sym, ap, subst, ◌∙◌, arith, append_assoc}
use Rattle.std.proofs.Math.Nat.{min-le_right}
use Rattle.std.specs.Prelude.{cond, codes, decimal, is_some, min, nat_lt, ◌&&◌, option_and_then, option_map}
use Rattle.std.specs.List.{list_any}
use Rattle.sc_value.specs.declared.ids.ReqId.{ReqId}
use Rattle.sc_value.specs.declared.ids.SessId.{SessId}
use Rattle.sc_value.specs.declared.ids.TimerId.{TimerId}
use Rattle.sc_value.specs.declared.message.Request.{Request}
use Rattle.sc_value.specs.declared.parts.Field.{Field}
use Rattle.sc_tokens.specs.Cuts.{pieces, has}
use Rattle.sc_tokens.specs.Names.{same_bytes}
use Rattle.sc_terms.specs.declared.calls.Answer.{Answer}
use Rattle.sc_terms.specs.declared.calls.Call.TheVariants as calls
use Rattle.sc_terms.specs.declared.calls.Refusal.{Refusal}
use Rattle.sc_terms.specs.declared.views.Period.TheVariants.{Once}
use Rattle.sc_terms.specs.declared.views.RequestView.{RequestView}
use Rattle.sc_terms.specs.declared.views.View.{View}
use Rattle.sc_state.specs.declared.working.Play.{Play}
use Rattle.sc_tokens.specs.Bytes.{Bytes}
use Rattle.sc_hosts.specs.Effects.{answer_to_call as accepted, after_call, after_listed, played_by}
use Rattle.sc_hosts.specs.HelperParts.{accepted_then, answer_with, send_in, strict_number}
use Rattle.sc_hosts.specs.Looking.{request_in}
use Rattle.sc_hosts.specs.Refusals.{refusal}
use Rattle.sc_hosts.specs.Scripting.{Script, Done, attribute, where_some}
use Rattle.sc_hosts.specs.Subscriptions.{NamedSub, Rule, Subscription, asked_seconds, changes, ended_sub, ev_name, failed_sub, letter_of, letter_word, names_package, notifies, sub_name, sub_text, subscription_in, subscription_of, timeout_state}
use Rattle.sc_hosts.specs.ViewChanges.{view_with_answer as answered, answered_in, tidy}
use Rattle.sc_helpers.specs.Leading.{cancel_some}
use Rattle.sc_promised.specs.Reliable.{play_after}
use Rattle.sc_promised.specs.Refreshing.{IsAccepted}
use Rattle.sc_promised.proofs.Attributes.{set-attribute}
use Rattle.sc_promised.proofs.Endings.{strict-fits}
use Rattle.sc_promised.proofs.Texts.{decimal-lacks, word-piece, last-piece, strict-decimal}
use Rattle.sc_notifies.specs.Notifying.{IsAtMost, accepted_by, activates, asked_of, ends, fired_of, is_active, read_by, read_of, seconds_in}
use Rattle.sc_notifies.specs.States.{Accepts, Absent, Act, Activates, Active, Changes, Ends, Fails, Fires, Happened, IsOf, IsOnce, IsSound, IsTrace, Pending, State, state_after_activation as activated, activates_by, last_state, next_state, over, state_after_renewal as renewed, script_of, settles, state_at, state_by, state_of, state_after_subscribe as subscribed, table_state, unsubscribes, view_after}
use Rattle.sc_notifies.specs.SubScripts.{begun_noted, begun_timed, begun_told, without_subscription as cleared, standing_of, subscribed_by, without_attributes as unnamed}
use Rattle.sc_notifies.specs.declared.accepting.Grant.{Grant}
use Rattle.sc_notifies.specs.declared.accepting.Read.{Read}
use Rattle.sc_notifies.specs.declared.refused.Asked.{Asked}
use Rattle.sc_notifies.specs.declared.refused.Asked.TheVariants as asked
use Rattle.sc_notifies.specs.declared.standing.Standing.{Standing}
use Rattle.sc_notifies.specs.declared.subscribing.Term.{Term}
use Rattle.sc_notifies.proofs.Kept.{Empties, Keeps, KeepsCall, behind_call, behind_number, cancel_empties, created_keeps, done_keeps, invalidated_keeps, number_keeps, only_keeps, remove_empties, remove_keeps, responded_keeps, sent_keeps, set_keeps, then_keeps}
use Rattle.sc_notifies.proofs.SubLaws.{ended_is}

-- ## What an attribute says is read again

either_first : (a b : Bool) → (a || b) ≡ false → a ≡ false
either_first true b is = cc
either_first false b is = refl

either_second : (a b : Bool) → (a || b) ≡ false → b ≡ false
either_second true b is = cc
either_second false b is = is

words_pieces : (letter due t : ℕ) → has 32 (letter ∷ []) ≡ false → due < 2 ^ 64 → t < 2 ^ 64
    → pieces 32 (letter ∷ 32 ∷ (decimal due ++ codes " " ++ decimal t)) ≡ (letter ∷ []) ∷ decimal due ∷ decimal t ∷ []
words_pieces letter due t plain d_in t_in =
    word-piece (letter ∷ []) (decimal due ++ codes " " ++ decimal t) plain
    ∙ ap (λ ps. (letter ∷ []) ∷ ps) (ap (pieces 32) (append_assoc (decimal due) (codes " ") (decimal t)) ∙ word-piece (decimal due) (decimal t) (decimal-lacks due d_in)
    ∙ ap (λ ps. decimal due ∷ ps) (last-piece (decimal t) (decimal-lacks t t_in)))

a_plain : has 32 (65 ∷ []) ≡ false
unfolding has
a_plain = refl

p_plain : has 32 (80 ∷ []) ≡ false
unfolding has
p_plain = refl

words_read : (active : Bool) (due t : ℕ) → due < 2 ^ 64 → t < 2 ^ 64
    → subscription_in (pieces 32 (sub_text active due t)) ≡ Some (record { active = active; due = due; timer = t })
unfolding subscription_in letter_of sub_text letter_word
words_read true due t d_in t_in = ap subscription_in (words_pieces 65 due t a_plain d_in t_in) ∙ rw (strict-decimal due d_in, strict-decimal t t_in) refl
words_read false due t d_in t_in = ap subscription_in (words_pieces 80 due t p_plain d_in t_in) ∙ rw (strict-decimal due d_in, strict-decimal t t_in) refl

-- ## The state by the attribute

state_same : (sess : SessId) (a b : View) → attribute (sub_name sess) a ≡ attribute (sub_name sess) b → state_at a sess ≡ state_at b sess
unfolding state_at subscription_of
state_same sess a b same = rw same refl

state_none : (sess : SessId) (view : View) → attribute (sub_name sess) view ≡ None → state_at view sess ≡ Absent
unfolding state_at subscription_of state_of
state_none sess view is = rw is refl

state_words : (sess : SessId) (view : View) (active : Bool) (due t : ℕ) → due < 2 ^ 64 → t < 2 ^ 64 → attribute (sub_name sess) view ≡ Some (sub_text active due t) → state_at view sess ≡ state_by active
unfolding state_at subscription_of state_of
state_words sess view active due t d_in t_in is = rw is (ap state_of (words_read active due t d_in t_in))

-- what is read has numbers of 64 bits
abbrev Fits : Subscription → Type 0
Fits sub = (sub.due < 2 ^ 64) × (sub.timer < 2 ^ 64)

fits_parts : (a : Option Bool) (d t : Option ℕ) (sub : Subscription) → ((m : ℕ) → d ≡ Some m → m < 2 ^ 64) → ((m : ℕ) → t ≡ Some m → m < 2 ^ 64)
    → option_and_then (λ active. option_and_then (λ due. option_map {T = ℕ} {U = Subscription} (λ timer. record { active = active; due = due; timer = timer }) t) d) a ≡ Some sub → Fits sub
fits_parts None d t sub d_fits t_fits is = cc
fits_parts (Some a) None t sub d_fits t_fits is = cc
fits_parts (Some a) (Some d) None sub d_fits t_fits is = cc
fits_parts (Some a) (Some d) (Some t) sub d_fits t_fits is =
    let eq : ◌≡◌ {A = Subscription} (record { active = a; due = d; timer = t }) sub = cc in
    rw (← eq) (d_fits d refl, t_fits t refl)

fits_words : (words : List Bytes) (sub : Subscription) → subscription_in words ≡ Some sub → Fits sub
unfolding subscription_in
fits_words (letter ∷ d ∷ t ∷ []) sub is = fits_parts (letter_of letter) (strict_number d) (strict_number t) sub (strict-fits d) (strict-fits t) is
fits_words [] sub is = cc
fits_words (a ∷ []) sub is = cc
fits_words (a ∷ b ∷ []) sub is = cc
fits_words (a ∷ b ∷ c ∷ d ∷ more) sub is = cc

fits_text : (found : Option Bytes) (sub : Subscription) → option_and_then (λ text. subscription_in (pieces 32 text)) found ≡ Some sub → Fits sub
fits_text None sub is = cc
fits_text (Some text) sub is = fits_words (pieces 32 text) sub is

fits_at : (view : View) (sess : SessId) (sub : Subscription) → subscription_of view sess ≡ Some sub → Fits sub
unfolding subscription_of
fits_at view sess sub is = fits_text (attribute (sub_name sess) view) sub is

-- ## Scripts

names_apart : (sess : SessId) → same_bytes (ev_name sess) (sub_name sess) ≡ false
unfolding ev_name sub_name
names_apart sess = refl

notifies_keeps : (name : Bytes) (sess : SessId) (event state body : Bytes) → Keeps name (notifies sess event state body)
unfolding notifies send_in
notifies_keeps name sess event state body =
    number_keeps name _ _ (created_keeps name sess _) (λ n. then_keeps name (calls.Send n) Done (sent_keeps name n) (done_keeps name))

answered_keeps : (name : Bytes) (req : ReqId) (code : ℕ) (reason : Bytes) (fields : List Field) → KeepsCall name (answer_with req code reason fields)
unfolding answer_with
answered_keeps name req code reason fields = responded_keeps name req _

cleared_empties : (standing : Standing) (sess : SessId) (script : Script) → Keeps (sub_name sess) script → Empties (sub_name sess) standing.told (cleared standing sess script)
unfolding cleared unnamed
cleared_empties standing sess script keeps =
    cancel_empties (sub_name sess) standing.told standing.running _ (remove_empties (sub_name sess) standing.told _ (remove_keeps (ev_name sess) (sub_name sess) standing.named script (names_apart sess) keeps))

-- ## A change of the state, and a pending one that becomes active

changed : (play : Play) (sess : SessId) (body : Bytes) (o : Option Subscription) → IsAccepted play (where_some o (changes play.view sess body))
    → attribute (sub_name sess) (play_after play (where_some o (changes play.view sess body))).view ≡ attribute (sub_name sess) play.view
unfolding where_some changes
changed play sess body None ok = done_keeps (sub_name sess) play ok
changed play sess body (Some sub) ok = notifies_keeps (sub_name sess) sess _ _ _ play ok

activated_script : (play : Play) (sess : SessId) (body : Bytes) (sub : Subscription) → Fits sub → IsAccepted play (activates play.view sess body sub)
    → state_at (play_after play (activates play.view sess body sub)).view sess ≡ Active
unfolding activates state_by
activated_script play sess body sub fits ok =
    let (none, rest, same) = behind_call play (calls.SetAttribute (sub_name sess) (sub_text true sub.due sub.timer)) _ ok in
    state_words sess _ true sub.due sub.timer fits.0 fits.1
    (ap (λ (p : Play). attribute (sub_name sess) p.view) same ∙ notifies_keeps (sub_name sess) sess _ _ _ (after_listed play (calls.SetAttribute (sub_name sess) (sub_text true sub.due sub.timer))) rest
    ∙ set-attribute play (sub_name sess) (sub_text true sub.due sub.timer) none)

activated_by : (play : Play) (sess : SessId) (body : Bytes) (sub : Subscription) (active : Bool) → sub.active ≡ active → subscription_of play.view sess ≡ Some sub
    → IsAccepted play (activates_by active (activates play.view sess body sub)) → state_at (play_after play (activates_by active (activates play.view sess body sub))).view sess ≡ activated (state_by sub.active)
unfolding activates_by play_after activated state_by state_at state_of
activated_by play sess body sub true is has ok = rw (has, is) refl
activated_by play sess body sub false is has ok = activated_script play sess body sub (fits_at play.view sess sub has) ok ∙ rw is refl

activated_at : (play : Play) (sess : SessId) (body : Bytes) (o : Option Subscription) → subscription_of play.view sess ≡ o
    → IsAccepted play (where_some o (λ sub. activates_by sub.active (activates play.view sess body sub)))
    → state_at (play_after play (where_some o (λ sub. activates_by sub.active (activates play.view sess body sub)))).view sess ≡ activated (state_of o)
unfolding where_some play_after activated state_at state_of
activated_at play sess body None is ok = rw is refl
activated_at play sess body (Some sub) is ok = activated_by play sess body sub sub.active refl is ok

-- ## The end

ended_by : (play : Play) (sess : SessId) (sub : Subscription) (script whole : Script) → Keeps (sub_name sess) script → whole ≡ cleared (standing_of play.view sess (Some sub)) sess script → IsOnce (sub_name sess) play.view.attributes
    → IsAccepted play whole → state_at (play_after play whole).view sess ≡ Absent
unfolding standing_of
ended_by play sess sub script whole keeps same once =
    subst (λ (w : Script). IsAccepted play w → state_at (play_after play w).view sess ≡ Absent) (sym same)
    (λ ok. state_none sess _ (cleared_empties (standing_of play.view sess (Some sub)) sess script keeps play refl once ok))

ended_at : (play : Play) (sess : SessId) (reason : Bytes) (o : Option Subscription) → subscription_of play.view sess ≡ o → IsOnce (sub_name sess) play.view.attributes
    → IsAccepted play (where_some o (ends play.view sess reason)) → state_at (play_after play (where_some o (ends play.view sess reason))).view sess ≡ Absent
unfolding where_some play_after state_at state_of ends
ended_at play sess reason None is once ok = rw is refl
ended_at play sess reason (Some sub) is once ok = ended_by play sess sub _ _ (notifies_keeps (sub_name sess) sess _ _ _) (ended_is play.view sess sub _) once ok

failed_at : (play : Play) (sess : SessId) (o : Option Subscription) → subscription_of play.view sess ≡ o → IsOnce (sub_name sess) play.view.attributes
    → IsAccepted play (where_some o (failed_sub play.view sess)) → state_at (play_after play (where_some o (failed_sub play.view sess))).view sess ≡ Absent
unfolding where_some play_after state_at state_of failed_sub
failed_at play sess None is once ok = rw is refl
failed_at play sess (Some sub) is once ok = ended_by play sess sub _ _ (only_keeps (sub_name sess) _ (invalidated_keeps (sub_name sess) sess)) (ended_is play.view sess sub _) once ok

fired_named : (play : Play) (named : NamedSub) → IsOnce (sub_name named.sess) play.view.attributes → IsAccepted play (ended_sub play.view named) → state_at (play_after play (ended_sub play.view named)).view named.sess ≡ Absent
unfolding ended_sub
fired_named play named once ok = ended_by play named.sess named.sub _ _ (notifies_keeps (sub_name named.sess) named.sess _ _ _) (ended_is play.view named.sess named.sub _) once ok

fired_at : (play : Play) (sess : SessId) (o : Option NamedSub) → ((named : NamedSub) → o ≡ Some named → named.sess ≡ sess) → IsOnce (sub_name sess) play.view.attributes
    → IsAccepted play (where_some o (ended_sub play.view)) → state_at (play_after play (where_some o (ended_sub play.view))).view sess ≡ over o (state_at play.view sess)
unfolding where_some play_after over
fired_at play sess None own once ok = refl
fired_at play sess (Some named) own once ok =
    let is : named.sess ≡ sess = own named refl in
    subst (λ (s : SessId). state_at (play_after play (ended_sub play.view named)).view s ≡ Absent) is
    (fired_named play named (subst (λ (s : SessId). IsOnce (sub_name s) play.view.attributes) (sym is) once) ok)

-- ## A SUBSCRIBE

begun_state : (play : Play) (term : Term) (sess : SessId) (event body : Bytes) → term.due < 2 ^ 64 → play.view.next_timer < 2 ^ 64 → IsAccepted play (begun_timed term sess event body)
    → state_at (play_after play (begun_timed term sess event body)).view sess ≡ state_by term.active
unfolding begun_timed begun_noted begun_told accepted
begun_state play term sess event body d_in t_in ok =
    let (none, rest, same) = behind_number play (calls.StartTimer (term.seconds * 1000) Once (sub_name sess)) (begun_noted term sess event body) play.view.next_timer refl ok in
    let one = after_listed play (calls.StartTimer (term.seconds * 1000) Once (sub_name sess)) in
    let words : Bytes = sub_text term.active term.due play.view.next_timer in
    let (set, more, after) = behind_call one (calls.SetAttribute (sub_name sess) words) _ rest in
    state_words sess _ term.active term.due play.view.next_timer d_in t_in
    (ap (λ (p : Play). attribute (sub_name sess) p.view) (same ∙ after)
    ∙ then_keeps (sub_name sess) (calls.SetAttribute (ev_name sess) event) _ (set_keeps (ev_name sess) event (sub_name sess) (names_apart sess)) (notifies_keeps (sub_name sess) sess _ _ _) (after_listed one (calls.SetAttribute (sub_name sess) words)) more
    ∙ set-attribute one (sub_name sess) words set)

cancelled_by : (play : Play) (id : TimerId) (found : Option Refusal) → (played_by play (calls.CancelTimer id) found).view.next_timer ≡ play.view.next_timer
unfolding played_by after_call
cancelled_by play id None = refl
cancelled_by play id (Some refused) = refl

cancelled_timer : (play : Play) (id : TimerId) → (after_listed play (calls.CancelTimer id)).view.next_timer ≡ play.view.next_timer
unfolding after_listed
cancelled_timer play id = cancelled_by play id (refusal play (calls.CancelTimer id))

renewed_state : (o : Option TimerId) (play : Play) (term : Term) (sess : SessId) (event body : Bytes) → term.due < 2 ^ 64 → play.view.next_timer < 2 ^ 64 → IsAccepted play (cancel_some o (begun_timed term sess event body))
    → state_at (play_after play (cancel_some o (begun_timed term sess event body))).view sess ≡ state_by term.active
unfolding cancel_some
renewed_state None play term sess event body d_in t_in ok = begun_state play term sess event body d_in t_in ok
renewed_state (Some id) play term sess event body d_in t_in ok =
    let (none, rest, same) = behind_call play (calls.CancelTimer id) (begun_timed term sess event body) ok in
    ap (λ (p : Play). state_at p.view sess) same
    ∙ begun_state (after_listed play (calls.CancelTimer id)) term sess event body d_in (subst (λ (n : ℕ). n < 2 ^ 64) (sym (cancelled_timer play id)) t_in) rest

subscribed_if : (over : Bool) (play : Play) (standing : Standing) (term : Term) (sess : SessId) (event body : Bytes) → is_some (attribute (sub_name sess) play.view) ≡ standing.told → IsOnce (sub_name sess) play.view.attributes
    → term.due < 2 ^ 64 → play.view.next_timer < 2 ^ 64
    → IsAccepted play (cond over (cleared standing sess (notifies sess event timeout_state [])) (cancel_some standing.running (begun_timed term sess event body)))
    → state_at (play_after play (cond over (cleared standing sess (notifies sess event timeout_state [])) (cancel_some standing.running (begun_timed term sess event body)))).view sess ≡ cond over Absent (state_by term.active)
subscribed_if true play standing term sess event body has once d_in t_in ok = state_none sess _ (cleared_empties standing sess _ (notifies_keeps (sub_name sess) sess _ _ _) play has once ok)
subscribed_if false play standing term sess event body has once d_in t_in ok = renewed_state standing.running play term sess event body d_in t_in ok

subscribed_state : (play : Play) (standing : Standing) (term : Term) (sess : SessId) (event body : Bytes) → is_some (attribute (sub_name sess) play.view) ≡ standing.told → IsOnce (sub_name sess) play.view.attributes
    → term.due < 2 ^ 64 → play.view.next_timer < 2 ^ 64 → IsAccepted play (subscribed_by standing term sess event body)
    → state_at (play_after play (subscribed_by standing term sess event body)).view sess ≡ cond (term.seconds == 0) Absent (state_by term.active)
unfolding subscribed_by
subscribed_state play standing term sess event body = subscribed_if (term.seconds == 0) play standing term sess event body

answered_view : (request : Option RequestView) (code : ℕ) (view : View) → ((answered request code view).attributes ≡ view.attributes) × ((answered request code view).next_timer ≡ view.next_timer)
unfolding answered answered_in tidy
answered_view None code view = (refl, refl)
answered_view (Some request) code view = (refl, refl)

answered_by : (play : Play) (req : ReqId) (answer : Answer) (found : Option Refusal)
    → ((played_by play (calls.Respond req answer) found).view.attributes ≡ play.view.attributes) × ((played_by play (calls.Respond req answer) found).view.next_timer ≡ play.view.next_timer)
unfolding played_by after_call
answered_by play req answer None = answered_view (request_in play.view req) answer.code play.view
answered_by play req answer (Some refused) = (refl, refl)

answered_same : (play : Play) (req : ReqId) (code : ℕ) (reason : Bytes) (fields : List Field)
    → ((after_listed play (answer_with req code reason fields)).view.attributes ≡ play.view.attributes) × ((after_listed play (answer_with req code reason fields)).view.next_timer ≡ play.view.next_timer)
unfolding after_listed answer_with
answered_same play req code reason fields = answered_by play req _ (refusal play _)

goes_on : (grant : Grant) (active : Bool) → state_by active ≡ renewed grant (state_by active)
unfolding renewed state_by
goes_on grant true = refl
goes_on grant false = refl

renewed_is : (grant : Grant) (o : Option Subscription) → state_by (is_active grant o) ≡ renewed grant (state_of o)
unfolding is_active renewed state_of
renewed_is grant None = refl
renewed_is grant (Some sub) = goes_on grant sub.active

-- behind the 200
behind_answer : (play : Play) (rule : Rule) (req : ReqId) (sess : SessId) (seconds : ℕ) (read : Read) (fields : List Field) → read.standing.told ≡ is_some (attribute (sub_name sess) play.view) → IsOnce (sub_name sess) play.view.attributes
    → read.term.due < 2 ^ 64 → play.view.next_timer < 2 ^ 64 → (reason : Bytes)
    → IsAccepted play (accepted_then (answer_with req 200 reason fields) (subscribed_by read.standing read.term sess read.event rule.body))
    → state_at (play_after play (accepted_then (answer_with req 200 reason fields) (subscribed_by read.standing read.term sess read.event rule.body))).view sess ≡ cond (read.term.seconds == 0) Absent (state_by read.term.active)
behind_answer play rule req sess seconds read fields told once d_in t_in reason ok =
    let (none, rest, same) = behind_call play (answer_with req 200 reason fields) (subscribed_by read.standing read.term sess read.event rule.body) ok in
    let one = after_listed play (answer_with req 200 reason fields) in
    let left = answered_same play req 200 reason fields in
    ap (λ (p : Play). state_at p.view sess) same
    ∙ subscribed_state one read.standing read.term sess read.event rule.body
    (ap is_some (answered_keeps (sub_name sess) req 200 reason fields play) ∙ sym told) (subst (λ (fields : List Field). IsOnce (sub_name sess) fields) (sym left.0) once) d_in (subst (λ (n : ℕ). n < 2 ^ 64) (sym left.1) t_in) rest

accepted_state : (play : Play) (rule : Rule) (req : ReqId) (sess : SessId) (request : Request) (grant : Grant) (asks : Asked) → IsAtMost 4000000 asks → IsOnce (sub_name sess) play.view.attributes
    → play.view.now + 4000000000 < 2 ^ 64 → play.view.next_timer < 2 ^ 64 → IsAccepted play (accepted_by rule req sess asks (read_of play.view sess request asks grant))
    → state_at (play_after play (accepted_by rule req sess asks (read_of play.view sess request asks grant))).view sess ≡ subscribed grant asks (state_at play.view sess)
unfolding accepted_by subscribed IsAtMost read_of read_by seconds_in standing_of state_at
accepted_state play rule req sess request grant asked.BadEvent most once moment timer ok = state_same sess _ play.view (only_keeps (sub_name sess) _ (answered_keeps (sub_name sess) req 489 _ _) play ok)
accepted_state play rule req sess request grant asked.Brief most once moment timer ok = state_same sess _ play.view (only_keeps (sub_name sess) _ (answered_keeps (sub_name sess) req 423 _ _) play ok)
accepted_state play rule req sess request grant (asked.For seconds) most once moment timer ok =
    let small : seconds ≤ 4000000 = most in
    let due : play.view.now + seconds * 1000 < 2 ^ 64 = omega (arith, small, moment) in
    behind_answer play rule req sess seconds (read_by play.view sess request seconds grant (subscription_of play.view sess)) _ refl once due timer _ ok
    ∙ ap (cond (seconds == 0) Absent) (renewed_is grant (subscription_of play.view sess))

asked_if : (other brief : Bool) (n longest : ℕ) → longest ≤ 4000000 → IsAtMost 4000000 (cond other asked.BadEvent (cond brief asked.Brief (asked.For (min n longest))))
unfolding IsAtMost
asked_if true brief n longest most = tt
asked_if false true n longest most = tt
asked_if false false n longest most = omega (arith, min-le_right n longest, most)

asked_most : (rule : Rule) (request : Request) → rule.longest ≤ 4000000 → IsAtMost 4000000 (asked_of rule request)
unfolding asked_of
asked_most rule request most = asked_if (not (names_package rule request)) (nat_lt 0 (asked_seconds rule request) && nat_lt (asked_seconds rule request) rule.least) (asked_seconds rule request) rule.longest most

-- ## One act, and a list of them

act_state : (sess : SessId) (play : Play) (act : Act) → IsOf sess play.view act → IsAccepted play (script_of play.view sess act) → IsOnce (sub_name sess) play.view.attributes → play.view.now + 4000000000 < 2 ^ 64 → play.view.next_timer < 2 ^ 64
    → state_at (play_after play (script_of play.view sess act)).view sess ≡ next_state play.view act (state_at play.view sess)
unfolding script_of next_state IsOf state_at state_of
act_state sess play (Accepts rule req request grant) own ok once moment timer = accepted_state play rule req sess request grant (asked_of rule request) (asked_most rule request own) once moment timer ok
act_state sess play (Changes body) own ok once moment timer = state_same sess _ play.view (changed play sess body (subscription_of play.view sess) ok)
act_state sess play (Activates body) own ok once moment timer = activated_at play sess body (subscription_of play.view sess) refl ok
act_state sess play (Ends reason) own ok once moment timer = ended_at play sess reason (subscription_of play.view sess) refl once ok
act_state sess play (Fires id) own ok once moment timer = fired_at play sess (fired_of play.view id) own once ok
act_state sess play Fails own ok once moment timer = failed_at play sess (subscription_of play.view sess) refl once ok

next_of : (sess : SessId) (h : Happened) → IsSound sess h → state_at (view_after sess h) sess ≡ next_state h.play.view h.act (state_at h.play.view sess)
unfolding view_after
next_of sess h sound = act_state sess h.play h.act sound.own sound.accepted sound.once sound.moment sound.timer

pub by_table : (sess : SessId) (state : State) (acts : List Happened) → IsTrace sess state acts → last_state sess state acts ≡ table_state state acts
unfolding IsTrace last_state table_state
by_table sess state [] trace = refl
by_table sess state (h ∷ acts) (sound, is, rest) =
    by_table sess (state_at (view_after sess h) sess) acts rest ∙ ap (λ (s : State). table_state s acts) (next_of sess h sound ∙ ap (next_state h.play.view h.act) is)

-- ## A pending one

asks_pending : (grant : Grant) (asks : Asked) → unsubscribes asks ≡ false → subscribed grant asks Pending ≡ Pending
unfolding unsubscribes subscribed renewed
asks_pending grant asked.BadEvent left = refl
asks_pending grant asked.Brief left = refl
asks_pending grant (asked.For seconds) left = rw left refl

fires_pending : (o : Option NamedSub) → is_some o ≡ false → over o Pending ≡ Pending
unfolding over
fires_pending None left = refl
fires_pending (Some named) left = cc

act_pending : (play : Play) (act : Act) → settles (record { play = play; act = act }) ≡ false → next_state play.view act Pending ≡ Pending
unfolding settles next_state
act_pending play (Accepts rule req request grant) left = asks_pending grant (asked_of rule request) left
act_pending play (Changes body) left = refl
act_pending play (Activates body) left = cc
act_pending play (Ends reason) left = cc
act_pending play (Fires id) left = fires_pending (fired_of play.view id) left
act_pending play Fails left = cc

table_pending : (acts : List Happened) → list_any settles acts ≡ false → table_state Pending acts ≡ Pending
unfolding table_state
table_pending [] left = refl
table_pending (h ∷ acts) left =
    ap (λ (s : State). table_state s acts) (act_pending h.play h.act (either_first (settles h) (list_any settles acts) left)) ∙ table_pending acts (either_second (settles h) (list_any settles acts) left)

pub stays_pending : (sess : SessId) (acts : List Happened) → IsTrace sess Pending acts → list_any settles acts ≡ false → last_state sess Pending acts ≡ Pending
stays_pending sess acts trace left = by_table sess Pending acts trace ∙ table_pending acts left
