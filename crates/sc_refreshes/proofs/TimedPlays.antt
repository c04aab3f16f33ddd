-- The charter of the servlet, from what its helper's calls leave.
use Rattle.std.proofs.Common.{◌≡◌, ◌<◌, ℕ, ◌+◌, suc, Bool, true, false, Option, [], Result, Ok, Err, OnOk, refl, ap, sym, subst, arith}
use Rattle.sc_value.specs.declared.ids.ReqId.{ReqId}
use Rattle.sc_value.specs.declared.ids.SessId.{SessId}
use Rattle.sc_value.specs.declared.ids.TimerId.{TimerId}
use Rattle.sc_value.specs.declared.no_memory.NoMemory as no
use Rattle.sc_terms.specs.declared.views.View.{View}
use Rattle.sc_model.specs.Transactions.{is_success, is_failure}
use Rattle.sc_hosts.specs.RefusalParts.{MOST_CALLS}
use Rattle.sc_hosts.specs.Scripting.{Script, Done, where_some}
use Rattle.sc_hosts.specs.SessionTimers.{Granted, Off, Too_small, On, Named, Timed, refresh_by, script_after_refresh as refreshed}
use Rattle.sc_turn.specs.Working.{Working, play_of}
use Rattle.sc_apps.specs.Scripted.{IsPlayed}
use Rattle.sc_apps.proofs.Playing.{begun_room, begun_view}
use Rattle.sc_helpers.specs.Leading.{remove_if}
use Rattle.sc_helpers.specs.Stopping.{Goes, IsCarried, IsHeard}
use Rattle.sc_helpers.specs.declared.stopping.Stopped.{Stopped}
use Rattle.sc_helpers.proofs.FoundLaws.{as_is}
use Rattle.sc_helpers.proofs.Shorts.{Short, goes_heard, goes_through, heard_played, short_cancel, short_either, short_if, short_more, short_number, short_only, short_remove, short_send, short_where, through_played}
use Rattle.sc_refreshes.specs.Refreshing.{fired_of, timer_at}
use Rattle.sc_refreshes.specs.TimedScripts.{begun_by, refreshed_by, script_with_timer as started, stop_of, script_with_stop as stopped}
use Rattle.sc_refreshes.specs.declared.refreshing.Fired.{Fired}
use Rattle.sc_refreshes.specs.declared.stopping.Stop.{Stop}
use Rattle.sc_refreshes.proofs.TimedLaws.{refreshed_where}

-- ## How short

stopped_short : (what : Stop) (script : Script) (n : ℕ) → Short script n → Short (stopped what script) (n + 2)
unfolding stopped
stopped_short what script n short = rw two (short_cancel what.running (remove_if what.set what.name script) (suc n) (short_remove what.set what.name script n short))
  where
    two : ◌≡◌ {A = ℕ} (n + 2) (suc (suc n))
    two = omega arith

started_short : (sess : SessId) (n : ℕ) (me : Bool) → Short (started sess n me) 2
unfolding started
started_short sess n me = short_number _ _ 1 (λ t. short_only _ 0)

done_short : Short Done 0
unfolding Short
done_short = tt

pub stop_played : (what : Stop) (old new : Working) (x : Unit {0}) → Goes 0 (stopped what Done) old (Ok x) new → IsPlayed (stopped what Done) old new
stop_played what old new x goes = goes_through (stopped what Done) old new x goes

pub stop_heard : (what : Stop) (old new : Working) (stop : Stopped) (out : Result (Unit {0}) no.NoMemory) → (play_of old).listed + 1 < MOST_CALLS → Goes 0 (stopped what Done) old (Err stop) new → IsHeard stop out
    → OnOk out (IsPlayed (stopped what Done) old new)
stop_heard what old new stop out room goes heard = goes_heard (stopped what Done) 2 old new stop out (stopped_short what Done 0 done_short) (omega (arith, room)) goes heard

begun_short : (what : Stop) (sess : SessId) (granted : Granted) → Short (begun_by what sess granted) 4
unfolding begun_by
begun_short what sess Off = short_more _ 3 (short_more _ 2 (stopped_short what Done 0 done_short))
begun_short what sess Too_small = short_more _ 3 (short_more _ 2 (stopped_short what Done 0 done_short))
begun_short what sess (On n me) = stopped_short what (started sess n me) 2 (started_short sess n me)

pub begin_played : (what : Stop) (sess : SessId) (granted : Granted) (old new : Working) (x : Unit {0}) → Goes 0 (begun_by what sess granted) old (Ok x) new → IsPlayed (begun_by what sess granted) old new
begin_played what sess granted old new x goes = goes_through (begun_by what sess granted) old new x goes

pub begin_heard : (what : Stop) (sess : SessId) (granted : Granted) (old new : Working) (stop : Stopped) (out : Result (Unit {0}) no.NoMemory) → (play_of old).listed + 3 < MOST_CALLS
    → Goes 0 (begun_by what sess granted) old (Err stop) new → IsHeard stop out → OnOk out (IsPlayed (begun_by what sess granted) old new)
begin_heard what sess granted old new stop out room goes heard = goes_heard (begun_by what sess granted) 4 old new stop out (begun_short what sess granted) (omega (arith, room)) goes heard

refresh_if : (named : Named) (me : Bool) → named.timed.me ≡ me → Short (refresh_by named) 3
unfolding refresh_by
refresh_if named true is = rw is (short_send _ _ _ _ _ 1 (short_only _ 0))
refresh_if named false is = rw is (short_send _ _ _ _ _ 1 (short_only _ 0))

refreshed_short : (what : Stop) (sess : SessId) (code : ℕ) (timed : Timed) → Short (refreshed_by what sess code timed) 4
unfolding refreshed_by Short
refreshed_short what sess code timed =
    short_if _ _ 4 (short_either (is_success code) _ _ 4 (stopped_short what (started sess timed.seconds true) 2 (started_short sess timed.seconds true))
    (short_either (is_failure code) _ _ 4 (short_more _ 3 (short_send _ _ _ _ _ 1 (short_only _ 0))) tt))

-- ## A turn that comes with no calls

pub fired_played : (id : TimerId) (told given : Fired) (old new : Working) → old.calls ≡ [] → old.starved ≡ false
    → (old.starved ≡ false → IsCarried (where_some (fired_of (play_of old).view id) refresh_by) told old (Ok given) new) → IsPlayed (where_some (fired_of old.shown id) refresh_by) old new
unfolding IsCarried
fired_played id told given old new none fed carried =
    as_is _ _ old new (ap (λ (v : View). where_some (fired_of v id) refresh_by) (sym (begun_view old none))) (through_played (where_some (fired_of (play_of old).view id) refresh_by) old new (carried fed).1)

pub fired_heard : (id : TimerId) (told : Fired) (old new : Working) (stop : Stopped) (out : Result (Unit {0}) no.NoMemory) → old.calls ≡ [] → old.starved ≡ false
    → (old.starved ≡ false → IsCarried (where_some (fired_of (play_of old).view id) refresh_by) told old (Err stop) new) → IsHeard stop out → OnOk out (IsPlayed (where_some (fired_of old.shown id) refresh_by) old new)
unfolding IsCarried
fired_heard id told old new stop out none fed carried heard =
    let room = begun_room old none in
    subst (λ (v : View). OnOk out (IsPlayed (where_some (fired_of v id) refresh_by) old new)) (begun_view old none)
    (heard_played (where_some (fired_of (play_of old).view id) refresh_by) 3 old new stop out (short_where (fired_of (play_of old).view id) refresh_by 3 (λ named. refresh_if named named.timed.me refl)) (omega (arith, room)) (carried fed) heard)

pub answered_played : (sess : SessId) (code : ℕ) (told given : Option ReqId) (old new : Working) → old.calls ≡ [] → old.starved ≡ false
    → (old.starved ≡ false → IsCarried (where_some (timer_at (play_of old).view sess) (refreshed (play_of old).view sess code)) told old (Ok given) new)
    → IsPlayed (where_some (timer_at old.shown sess) (refreshed old.shown sess code)) old new
unfolding IsCarried
answered_played sess code told given old new none fed carried =
    as_is _ _ old new (ap (λ (v : View). where_some (timer_at v sess) (refreshed v sess code)) (sym (begun_view old none)))
    (through_played (where_some (timer_at (play_of old).view sess) (refreshed (play_of old).view sess code)) old new (carried fed).1)

answers_short : (sess : SessId) (code : ℕ) (view : View) → Short (where_some (timer_at view sess) (refreshed view sess code)) 4
answers_short sess code view =
    rw (refreshed_where sess view code (timer_at view sess)) (short_where (timer_at view sess) (refreshed_by (stop_of view sess) sess code) 4 (λ timed. refreshed_short (stop_of view sess) sess code timed))

pub answered_heard : (sess : SessId) (code : ℕ) (told : Option ReqId) (old new : Working) (stop : Stopped) (out : Result (Unit {0}) no.NoMemory) → old.calls ≡ [] → old.starved ≡ false
    → (old.starved ≡ false → IsCarried (where_some (timer_at (play_of old).view sess) (refreshed (play_of old).view sess code)) told old (Err stop) new)
    → IsHeard stop out → OnOk out (IsPlayed (where_some (timer_at old.shown sess) (refreshed old.shown sess code)) old new)
unfolding IsCarried
answered_heard sess code told old new stop out none fed carried heard =
    let room = begun_room old none in
    subst (λ (v : View). OnOk out (IsPlayed (where_some (timer_at v sess) (refreshed v sess code)) old new)) (begun_view old none)
    (heard_played _ 4 old new stop out (answers_short sess code (play_of old).view) (omega (arith, room)) (carried fed) heard)
