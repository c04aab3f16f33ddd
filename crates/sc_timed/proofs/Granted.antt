-- A session timer that an act begins is due at its deadline, and is what the next act begins with.
use Rattle.std.proofs.Common.{◌≡◌, ℕ, Bool, true, Some, sym, subst}
use Rattle.std.specs.Prelude.{◌&&◌, ◌==◌, option_and_then}
use Rattle.sc_value.specs.declared.ids.ReqId.{ReqId}
use Rattle.sc_value.specs.declared.ids.SessId.{SessId}
use Rattle.sc_value.specs.declared.message.Request.{Request}
use Rattle.sc_state.specs.declared.working.Play.{Play}
use Rattle.sc_model.specs.Transactions.{is_success}
use Rattle.sc_hosts.specs.HelperParts.{answer_with}
use Rattle.sc_hosts.specs.Scripting.{attribute, where_some}
use Rattle.sc_hosts.specs.SessionTimers.{Granted, On, Timed, grant, grant_by, grant_to as granted, least_interval, script_after_refresh as refreshed, timed_name, timed_of}
use Rattle.sc_promised.specs.Refreshing.{IsAccepted, IsBegun}
use Rattle.sc_promised.specs.Reliable.{play_after}
use Rattle.sc_promised.proofs.Refreshes.{Begins, answered-begun, begun-at}
use Rattle.sc_timed.specs.TimedActs.{Grants, Refreshes, TimedAct, TimedHappened, after, calls_of}

on-begins : (play : Play) (req : ReqId) (sess : SessId) (n : ℕ) (me : Bool) → Begins sess n me (grant_by play.view req sess (On n me))
unfolding grant_by answer_with
on-begins play req sess n me = answered-begun play.view req _ sess n me

grant-begins : (play : Play) (req : ReqId) (sess : SessId) (request : Request) (n : ℕ) (me : Bool) → granted request (least_interval play.view) ≡ On n me
    → Begins sess n me (grant play.view req sess request)
unfolding grant
grant-begins play req sess request n me is = subst (λ (how : Granted). Begins sess n me (grant_by play.view req sess how)) (sym is) (on-begins play req sess n me)

-- the script of an act that begins a session timer
acts-begin : (h : TimedHappened) (sess : SessId) (n : ℕ) (me : Bool) (act : TimedAct) → h.act ≡ act → Begins sess n me (calls_of h.play.view act)
    → IsAccepted h.play (calls_of h.play.view h.act) → IsBegun h.play.view.now sess n me (after h).view
acts-begin h sess n me act is begins =
    subst (λ (one : TimedAct). IsAccepted h.play (calls_of h.play.view one) → IsBegun h.play.view.now sess n me (play_after h.play (calls_of h.play.view one)).view) (sym is) (begins h.play)

grants-begin : (play : Play) (req : ReqId) (sess : SessId) (request : Request) (n : ℕ) (me : Bool) → granted request (least_interval play.view) ≡ On n me
    → Begins sess n me (calls_of play.view (Grants req sess request))
unfolding calls_of
grants-begin play req sess request n me is = grant-begins play req sess request n me is

pub granted-in-time : (h : TimedHappened) (req : ReqId) (sess : SessId) (request : Request) (n : ℕ) (me : Bool) → h.act ≡ Grants req sess request
    → granted request (least_interval h.play.view) ≡ On n me → IsAccepted h.play (calls_of h.play.view h.act) → IsBegun h.play.view.now sess n me (after h).view
granted-in-time h req sess request n me act is = acts-begin h sess n me (Grants req sess request) act (grants-begin h.play req sess request n me is)

-- ## A refresh that was answered

refreshed-begins : (play : Play) (sess : SessId) (code : ℕ) (timed : Timed) → (timed.me && timed.timer == 0) ≡ true → is_success code ≡ true
    → Begins sess timed.seconds true (refreshed play.view sess code timed)
unfolding refreshed
refreshed-begins play sess code timed own success = rw (own, success) (begun-at play.view sess timed.seconds true)

refreshes-begin : (play : Play) (sess : SessId) (code : ℕ) (timed : Timed) → option_and_then timed_of (attribute (timed_name sess) play.view) ≡ Some timed
    → (timed.me && timed.timer == 0) ≡ true → is_success code ≡ true → Begins sess timed.seconds true (calls_of play.view (Refreshes sess code))
unfolding calls_of where_some
refreshes-begin play sess code timed is own success = rw is (refreshed-begins play sess code timed own success)

pub refreshed-in-time : (h : TimedHappened) (sess : SessId) (code : ℕ) (timed : Timed) → h.act ≡ Refreshes sess code
    → option_and_then timed_of (attribute (timed_name sess) h.play.view) ≡ Some timed → (timed.me && timed.timer == 0) ≡ true → is_success code ≡ true
    → IsAccepted h.play (calls_of h.play.view h.act) → IsBegun h.play.view.now sess timed.seconds true (after h).view
refreshed-in-time h sess code timed act is own success = acts-begin h sess timed.seconds true (Refreshes sess code) act (refreshes-begin h.play sess code timed is own success)
