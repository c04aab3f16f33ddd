-- An act of one SipSession leaves what is remembered of the session timer of every other.
use Rattle.std.proofs.Common.{◌≡◌, ◌<◌, ℕ, Bool, true, false, Option, None, Some, [], refl, ap, subst, ◌∙◌, arith}
use Rattle.std.specs.Prelude.{◌==◌, ◌&&◌, ◌^◌, codes, decimal, is_some, not, option_and_then, option_map}
use Rattle.std.proofs.lemmas.Bool.Decides.{nat_tests}
use Rattle.std.proofs.lemmas.Fmt.{decimal_injective}
use Rattle.std.specs.Option.{option_map_or}
use Rattle.sc_tokens.specs.Names.{same_bytes}
use Rattle.sc_value.specs.declared.ids.ReqId.{ReqId}
use Rattle.sc_value.specs.declared.ids.SessId.{SessId}
use Rattle.sc_tokens.specs.Bytes.{Bytes}
use Rattle.sc_terms.specs.declared.calls.Call.TheVariants as calls
use Rattle.sc_terms.specs.declared.views.Period.TheVariants.{Once}
use Rattle.sc_terms.specs.declared.views.View.{View}
use Rattle.sc_model.specs.Dialogs.{update}
use Rattle.sc_model.specs.SessionStates.{bye}
use Rattle.sc_model.specs.Transactions.{is_failure, is_success}
use Rattle.sc_hosts.proofs.Deliveries.{same_bytes-equal}
use Rattle.sc_hosts.specs.Effects.{first_play as begun}
use Rattle.sc_hosts.specs.HelperParts.{accepted_then, answer_with, cancel_then, remove_then, send_in}
use Rattle.sc_hosts.specs.Scripting.{Done, Make, Script, attribute, only, reply, then_make, where_some, with_number}
use Rattle.sc_hosts.specs.SessionTimers.{Granted, Named, Off, On, Timed, Too_small, begin_timed, deadline, grant, grant_by, grant_to as granted, granted_fields, least_interval, refresh_by, script_after_refresh as refreshed, stop_then, timed_name, timed_of, timed_text, too_small}
use Rattle.sc_hosts.specs.Words.{ok}
use Rattle.sc_promised.specs.Reliable.{play_after}
use Rattle.sc_remembered.proofs.Others.{AreFor, IsFor, cancel-for, cut-front, done-for, if-for, number-for, only-for, reply-for, script-other, then-for, where-for}
use Rattle.sc_timed.specs.TimedActs.{Comes, Grants, HangsUp, Refreshes, TimedAct, calls_of, side_of, timer_at, timer_of}

-- ## Names

names-one : (m n : ℕ) → m < 2 ^ 64 → n < 2 ^ 64 → timed_name (record { 0 = m }) ≡ timed_name (record { 0 = n }) → m ≡ n
unfolding timed_name
names-one m n p q same = decimal_injective m n p q (cut-front (codes "st") (decimal m) (decimal n) same)

names-apart : (m n : ℕ) → m < 2 ^ 64 → n < 2 ^ 64 → (m == n) ≡ false → same_bytes (timed_name (record { 0 = m })) (timed_name (record { 0 = n })) ≡ false
names-apart m n p q other = by (same_bytes (timed_name (record { 0 = m })) (timed_name (record { 0 = n }))) refl
  where
    clash : (m n : ℕ) → m ≡ n → (m == n) ≡ false → true ≡ false
    clash m n is other = absurd (grind (arith, nat_tests, is, other))

    by : (b : Bool) → same_bytes (timed_name (record { 0 = m })) (timed_name (record { 0 = n })) ≡ b → b ≡ false
    by true is = clash m n (names-one m n p q (same_bytes-equal (timed_name (record { 0 = m })) (timed_name (record { 0 = n })) is)) other
    by false is = refl

-- ## Scripts that write the attribute of one SipSession alone

answer-for : (name : Bytes) (req : ReqId) (code : ℕ) (reason : Bytes) (fields : _) → IsFor name (answer_with req code reason fields)
unfolding IsFor answer_with
answer-for name req code reason fields = tt

remove-for : (name : Bytes) (view : View) (script : Script) → AreFor name script → AreFor name (remove_then name view script)
unfolding remove_then IsFor
remove-for name view script more = if-for name (is_some (attribute name view)) (accepted_then (calls.RemoveAttribute name) script) script (then-for name (calls.RemoveAttribute name) script refl more) more

stop-for : (sess : SessId) (view : View) (script : Script) → AreFor (timed_name sess) script → AreFor (timed_name sess) (stop_then sess view script)
unfolding stop_then
stop-for sess view script more = by (attribute (timed_name sess) view)
  where
    gone : AreFor (timed_name sess) (remove_then (timed_name sess) view script)
    gone = remove-for (timed_name sess) view script more

    read : (found : Option Timed)
        → AreFor (timed_name sess) (option_map_or (λ timed. cancel_then timed.timer view (remove_then (timed_name sess) view script)) found (remove_then (timed_name sess) view script))
    read None = gone
    read (Some timed) = cancel-for (timed_name sess) timed.timer view (remove_then (timed_name sess) view script) gone

    by : (found : Option Bytes)
        → AreFor (timed_name sess) (option_map_or (λ text. option_map_or (λ timed. cancel_then timed.timer view (remove_then (timed_name sess) view script)) (timed_of text) (remove_then (timed_name sess) view script)) found script)
    by None = more
    by (Some text) = read (timed_of text)

start-for : (sess : SessId) (n : ℕ) (me : Bool)
    → AreFor (timed_name sess) (Make (calls.StartTimer (deadline n me) Once (timed_name sess)) (with_number (λ t. only (calls.SetAttribute (timed_name sess) (timed_text n me t)))))
unfolding AreFor IsFor
start-for sess n me = (tt, number-for (timed_name sess) _ (λ t. only-for (timed_name sess) (calls.SetAttribute (timed_name sess) (timed_text n me t)) refl))

begin-for : (sess : SessId) (view : View) (how : Granted) → AreFor (timed_name sess) (begin_timed sess view how)
unfolding begin_timed
begin-for sess view Off = stop-for sess view Done (done-for (timed_name sess))
begin-for sess view Too_small = stop-for sess view Done (done-for (timed_name sess))
begin-for sess view (On n me) = stop-for sess view _ (start-for sess n me)

by-for : (view : View) (req : ReqId) (sess : SessId) (how : Granted) → AreFor (timed_name sess) (grant_by view req sess how)
unfolding grant_by
by-for view req sess Too_small = only-for (timed_name sess) (answer_with req 422 too_small _) (answer-for (timed_name sess) req 422 too_small _)
by-for view req sess Off =
    then-for (timed_name sess) (answer_with req 200 ok (granted_fields Off)) (begin_timed sess view Off) (answer-for (timed_name sess) req 200 ok (granted_fields Off)) (begin-for sess view Off)
by-for view req sess (On n me) =
    then-for (timed_name sess) (answer_with req 200 ok (granted_fields (On n me))) (begin_timed sess view (On n me)) (answer-for (timed_name sess) req 200 ok (granted_fields (On n me))) (begin-for sess view (On n me))

send-for : (name : Bytes) (sess : SessId) (method : Bytes) (fields : _) (body : Bytes) (script : Script) → AreFor name script → AreFor name (send_in sess method fields body script)
unfolding send_in AreFor IsFor
send-for name sess method fields body script more = (tt, number-for name _ (λ draft. then-for name (calls.Send draft) script tt more))

end-for : (sess : SessId) → AreFor (timed_name sess) (send_in sess bye [] [] (only (calls.RemoveAttribute (timed_name sess))))
unfolding IsFor
end-for sess = send-for (timed_name sess) sess bye [] [] (only (calls.RemoveAttribute (timed_name sess))) (only-for (timed_name sess) (calls.RemoveAttribute (timed_name sess)) refl)

refreshed-for : (view : View) (sess : SessId) (code : ℕ) (timed : Timed) → AreFor (timed_name sess) (refreshed view sess code timed)
unfolding refreshed
refreshed-for view sess code timed =
    if-for (timed_name sess) (not (timed.me && timed.timer == 0)) Done _ (done-for (timed_name sess))
    (if-for (timed_name sess) (is_success code) (begin_timed sess view (On timed.seconds true)) _ (begin-for sess view (On timed.seconds true))
    (if-for (timed_name sess) (is_failure code) _ Done (end-for sess) (done-for (timed_name sess))))

asks-for : (sess : SessId) (fields : _) (text : Bytes) → AreFor (timed_name sess) (send_in sess update fields [] (only (calls.SetAttribute (timed_name sess) text)))
unfolding IsFor
asks-for sess fields text = send-for (timed_name sess) sess update fields [] (only (calls.SetAttribute (timed_name sess) text)) (only-for (timed_name sess) (calls.SetAttribute (timed_name sess) text) refl)

refresh-for : (named : Named) → AreFor (timed_name named.sess) (refresh_by named)
unfolding refresh_by
refresh-for named = by named.timed.me refl
  where
    by : (b : Bool) → named.timed.me ≡ b → AreFor (timed_name named.sess) (refresh_by named)
    by true is = rw (is, refresh_by) (asks-for named.sess _ _)
    by false is = rw (is, refresh_by) (end-for named.sess)

-- ## Acts

some-is : (a b : SessId) → Some a ≡ Some b → a ≡ b
some-is a b is = cc

same-for : (a b : SessId) (script : Script) → Some a ≡ Some b → AreFor (timed_name a) script → AreFor (timed_name b) script
same-for a b script is are = subst (λ (sess : SessId). AreFor (timed_name sess) script) (some-is a b is) are

bye-for : (view : View) (req : ReqId) (sess : SessId) → AreFor (timed_name sess) (then_make (reply req 200 ok) (stop_then sess view Done))
unfolding then_make AreFor
bye-for view req sess = (reply-for (timed_name sess) req 200 ok, λ answer. stop-for sess view Done (done-for (timed_name sess)))

comes-for : (found : Option Named) (sess : SessId) → option_map (λ (named : Named). named.sess) found ≡ Some sess → AreFor (timed_name sess) (where_some found refresh_by)
unfolding where_some
comes-for None sess is = cc
comes-for (Some named) sess is = same-for named.sess sess (refresh_by named) is (refresh-for named)

act-for : (view : View) (act : TimedAct) (sess : SessId) → side_of view act ≡ Some sess → AreFor (timed_name sess) (calls_of view act)
unfolding side_of calls_of grant
act-for view (Grants req at request) sess is = same-for at sess _ is (by-for view req at (granted request (least_interval view)))
act-for view (HangsUp req at) sess is = same-for at sess _ is (bye-for view req at)
act-for view (Refreshes at code) sess is = same-for at sess _ is (where-for (timed_name at) (option_and_then timed_of (attribute (timed_name at) view)) (refreshed view at code) (λ timed. refreshed-for view at code timed))
act-for view (Comes id) sess is = comes-for (timer_of view id) sess is

begun-timer : (view : View) (n : ℕ) → timer_at (begun view).view n ≡ timer_at view n
unfolding begun
begun-timer view n = refl

-- of another SipSession
pub acts-leave : (n : ℕ) (view : View) (act : TimedAct) (sess : SessId) → side_of view act ≡ Some sess → sess.0 < 2 ^ 64 → n < 2 ^ 64 → (sess.0 == n) ≡ false
    → timer_at (play_after (begun view) (calls_of view act)).view n ≡ timer_at view n
acts-leave n view act sess is p q other =
    script-other (timed_name sess) (timed_name (record { 0 = n })) (names-apart sess.0 n p q other) (calls_of view act) (begun view) (act-for view act sess is) ∙ begun-timer view n

-- of none
none-comes : (view : View) (found : Option Named) → option_map (λ (named : Named). named.sess) found ≡ None → play_after (begun view) (where_some found refresh_by) ≡ begun view
unfolding where_some play_after
none-comes view None is = refl
none-comes view (Some named) is = cc

none-by : (view : View) (act : TimedAct) → side_of view act ≡ None → play_after (begun view) (calls_of view act) ≡ begun view
unfolding side_of calls_of
none-by view (Grants req sess request) is = cc
none-by view (HangsUp req sess) is = cc
none-by view (Refreshes sess code) is = cc
none-by view (Comes id) is = none-comes view (timer_of view id) is

pub none-leave : (n : ℕ) (view : View) (act : TimedAct) → side_of view act ≡ None → timer_at (play_after (begun view) (calls_of view act)).view n ≡ timer_at view n
none-leave n view act is = ap (λ play. timer_at play.view n) (none-by view act is) ∙ begun-timer view n
