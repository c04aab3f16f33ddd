-- The scripts of session timers, by what was read before the first call.
use Rattle.std.proofs.Common.{◌≡◌, ℕ, ◌==◌, ◌&&◌, Bool, true, false, Option, None, Some, refl, ap, ◌∙◌}
use Rattle.std.specs.Prelude.{is_some, option_and_then}
use Rattle.sc_value.specs.declared.ids.SessId.{SessId}
use Rattle.sc_terms.specs.declared.views.View.{View}
use Rattle.sc_terms.specs.declared.calls.Call.{Call}
use Rattle.sc_tokens.specs.Bytes.{Bytes}
use Rattle.sc_model.specs.Transactions.{is_success}
use Rattle.sc_hosts.specs.HelperParts.{accepted_then, remove_then}
use Rattle.sc_hosts.specs.Scripting.{Script, Done, attribute, then_make, where_some}
use Rattle.sc_hosts.specs.SessionTimers.{Granted, Off, Too_small, On, Timed, begin_timed, script_after_refresh as refreshed, stop_then, timed_name, timed_of}
use Rattle.sc_turn.specs.Working.{Working}
use Rattle.sc_apps.specs.Scripted.{IsPlayed}
use Rattle.sc_helpers.specs.Leading.{cancel_some, remove_if, timer_named}
use Rattle.sc_refreshes.specs.TimedScripts.{begun_by, refreshed_by, script_with_timer as started, stop_of, script_with_stop as stopped, timer_of_timed}
use Rattle.sc_helpers.proofs.FoundLaws.{as_is, cancel_is, remove_is}

stop_timed : (sess : SessId) (view : View) (script : Script) (text : Bytes) (o : Option Timed) → attribute (timed_name sess) view ≡ Some text → timed_of text ≡ o
    → stop_then sess view script ≡ cancel_some (timer_of_timed view o) (remove_if true (timed_name sess) script)
unfolding stop_then timer_of_timed cancel_some
stop_timed sess view script text None set e = rw (set, e) (remove_is (timed_name sess) view script ∙ rw set refl)
stop_timed sess view script text (Some timed) set e =
    rw (set, e) (cancel_is timed.timer view (remove_then (timed_name sess) view script) ∙ ap (cancel_some (timer_named view timed.timer)) (remove_is (timed_name sess) view script ∙ rw set refl))

stop_by : (sess : SessId) (view : View) (script : Script) (o : Option Bytes) → attribute (timed_name sess) view ≡ o
    → stop_then sess view script ≡ cancel_some (timer_of_timed view (option_and_then timed_of o)) (remove_if (is_some o) (timed_name sess) script)
unfolding stop_then timer_of_timed cancel_some remove_if
stop_by sess view script None e = rw e refl
stop_by sess view script (Some text) e = stop_timed sess view script text (timed_of text) e refl

pub stop_is : (sess : SessId) (view : View) (script : Script) → stop_then sess view script ≡ stopped (stop_of view sess) script
unfolding stopped stop_of
stop_is sess view script = stop_by sess view script (attribute (timed_name sess) view) refl

pub begin_is : (sess : SessId) (view : View) (granted : Granted) → begin_timed sess view granted ≡ begun_by (stop_of view sess) sess granted
unfolding begin_timed begun_by started
begin_is sess view Off = stop_is sess view Done
begin_is sess view Too_small = stop_is sess view Done
begin_is sess view (On n me) = stop_is sess view _

pub played_stop : (call : Call) (sess : SessId) (view : View) (old new : Working) → IsPlayed (then_make call (stopped (stop_of view sess) Done)) old new → IsPlayed (then_make call (stop_then sess view Done)) old new
played_stop call sess view old new is = as_is _ _ old new (ap (then_make call) (stop_is sess view Done)) is

pub played_begin : (call : Call) (sess : SessId) (view : View) (granted : Granted) (old new : Working)
    → IsPlayed (accepted_then call (begun_by (stop_of view sess) sess granted)) old new → IsPlayed (accepted_then call (begin_timed sess view granted)) old new
played_begin call sess view granted old new is = as_is _ _ old new (ap (accepted_then call) (begin_is sess view granted)) is

refreshed_if : (sess : SessId) (view : View) (code : ℕ) (timed : Timed) (waits success : Bool) → (timed.me && timed.timer == 0) ≡ waits → is_success code ≡ success → refreshed view sess code timed ≡ refreshed_by (stop_of view sess) sess code timed
unfolding refreshed refreshed_by begun_by
refreshed_if sess view code timed false success is e = rw is refl
refreshed_if sess view code timed true true is e = rw (is, e) (begin_is sess view (On timed.seconds true))
refreshed_if sess view code timed true false is e = rw (is, e) refl

refreshed_is : (sess : SessId) (view : View) (code : ℕ) (timed : Timed) → refreshed view sess code timed ≡ refreshed_by (stop_of view sess) sess code timed
refreshed_is sess view code timed = refreshed_if sess view code timed (timed.me && timed.timer == 0) (is_success code) refl refl

pub refreshed_where : (sess : SessId) (view : View) (code : ℕ) (o : Option Timed) → where_some o (refreshed view sess code) ≡ where_some o (refreshed_by (stop_of view sess) sess code)
unfolding where_some
refreshed_where sess view code None = refl
refreshed_where sess view code (Some timed) = refreshed_is sess view code timed
