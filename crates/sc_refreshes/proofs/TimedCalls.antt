-- The calls of session timers at any point of a turn, by what was read before the first of them.
use Rattle.std.proofs.Common.{◌≡◌, ℕ, Bool, false, Option, None, Result, Ok, Err, refl, ap, sym, subst, ◌∙◌}
use Rattle.sc_value.specs.declared.ids.ReqId.{ReqId}
use Rattle.sc_value.specs.declared.ids.SessId.{SessId}
use Rattle.sc_value.specs.declared.ids.TimerId.{TimerId}
use Rattle.sc_terms.specs.declared.views.View.{View}
use Rattle.sc_terms.specs.declared.calls.Refusal.TheVariants.{NoMemory}
use Rattle.sc_hosts.specs.Scripting.{Script, Done, where_some}
use Rattle.sc_hosts.specs.SessionTimers.{Granted, Named, On, Timed, begin_timed, refresh_by, script_after_refresh as refreshed, stop_then}
use Rattle.sc_state.specs.declared.working.Play.{Play}
use Rattle.sc_turn.specs.Working.{Working, play_of}
use Rattle.sc_helpers.specs.Stopping.{Goes, GoesThrough, IsCarried, IsDone}
use Rattle.sc_helpers.specs.declared.stopping.Stopped.{Stopped}
use Rattle.sc_helpers.proofs.Plays.{through_accepted}
use Rattle.sc_helpers.proofs.Steps as steps
use Rattle.sc_promised.proofs.Refreshes.{begun-timed}
use Rattle.sc_promised.specs.Refreshing.{IsBegun}
use Rattle.sc_refreshes.specs.Refreshing.{answered_by, fired_by, fired_of, timer_at}
use Rattle.sc_refreshes.specs.TimedScripts.{begun_by, refreshed_by, stop_of, script_with_stop as stopped}
use Rattle.sc_refreshes.specs.declared.refreshing.Fired.{Fired}
use Rattle.sc_refreshes.specs.declared.refreshing.Fired.TheVariants as fired
use Rattle.sc_refreshes.specs.declared.stopping.Stop.{Stop}
use Rattle.sc_refreshes.proofs.TimedLaws.{begin_is, refreshed_where, stop_is}

done_at : (script : View → Script) (at : View → Script) (old new : Working) (seen : View) (result : Result (Unit {0}) Stopped) → ((view : View) → script view ≡ at view) → seen ≡ (play_of old).view → Goes 0 (at seen) old result new
    → IsDone (script (play_of old).view) old result new
done_at script at old new seen result same sees goes =
    subst (λ (s : Script). IsDone s old result new) (sym (same seen) ∙ ap script sees) (steps.goes_is_done (at seen) old new result goes)

pub stop_done : (sess : SessId) (old new : Working) (seen : View) (what : Stop) (result : Result (Unit {0}) Stopped) → (old.starved ≡ false → seen ≡ (play_of old).view) → what ≡ stop_of seen sess
    → Goes 0 (stopped what Done) old result new → old.starved ≡ false → IsDone (stop_then sess (play_of old).view Done) old result new
stop_done sess old new seen what result sees is goes fed =
    done_at (λ view. stop_then sess view Done) (λ view. stopped (stop_of view sess) Done) old new seen result (λ view. stop_is sess view Done) (sees fed) (subst (λ (w : Stop). Goes 0 (stopped w Done) old result new) is goes)

pub begin_done : (sess : SessId) (granted : Granted) (old new : Working) (seen : View) (what : Stop) (result : Result (Unit {0}) Stopped) → (old.starved ≡ false → seen ≡ (play_of old).view) → what ≡ stop_of seen sess
    → Goes 0 (begun_by what sess granted) old result new → old.starved ≡ false → IsDone (begin_timed sess (play_of old).view granted) old result new
begin_done sess granted old new seen what result sees is goes fed =
    done_at (λ view. begin_timed sess view granted) (λ view. begun_by (stop_of view sess) sess granted) old new seen result (λ view. begin_is sess view granted) (sees fed)
    (subst (λ (w : Stop). Goes 0 (begun_by w sess granted) old result new) is goes)

pub wanting_done : (script : Script) (old : Working) (stop : Stopped) → stop ≡ record { refusal = NoMemory; made = 0 } → old.starved ≡ false → IsDone script old (Err stop) old
wanting_done script old stop is fed = steps.wanting_done script old stop is

pub wanting_carried : (script : Script) (answer : Option ReqId) (old : Working) (stop : Stopped) → stop ≡ record { refusal = NoMemory; made = 0 } → old.starved ≡ false → IsCarried script answer old (Err stop) old
wanting_carried script answer old stop is fed = steps.wanting_carried script answer old stop is

pub nothing_fired : (old : Working) → IsCarried Done fired.NotMine old (Ok fired.NotMine) old
unfolding IsCarried GoesThrough
nothing_fired old = (refl, refl)

pub nothing_answered : (old : Working) → IsCarried {X = Option ReqId} Done None old (Ok None) old
unfolding IsCarried GoesThrough
nothing_answered old = (refl, refl)

abbrev next_of : View → ReqId
next_of view = record { 0 = view.next_request }

pub fire_carried : (id : TimerId) (old new : Working) (seen : View) (named : Option Named) (next : ReqId) (result : Result Fired Stopped) → (old.starved ≡ false → seen ≡ (play_of old).view) → named ≡ fired_of seen id → next ≡ record { 0 = seen.next_request }
    → IsCarried (where_some named refresh_by) (fired_by next named) old result new
    → old.starved ≡ false → IsCarried (where_some (fired_of (play_of old).view id) refresh_by) (fired_by (record { 0 = (play_of old).view.next_request }) (fired_of (play_of old).view id)) old result new
fire_carried id old new seen named next result sees is has carried fed =
    subst (λ (v : View). IsCarried (where_some (fired_of v id) refresh_by) (fired_by (next_of v) (fired_of v id)) old result new) (sees fed) (rw (← is, ← has) carried)

pub answered_carried : (sess : SessId) (code : ℕ) (old new : Working) (seen : View) (timed : Option Timed) (what : Stop) (next : ReqId) (result : Result (Option ReqId) Stopped) → (old.starved ≡ false → seen ≡ (play_of old).view)
    → (timed ≡ timer_at seen sess) × (what ≡ stop_of seen sess) × (next ≡ record { 0 = seen.next_request })
    → IsCarried (where_some timed (refreshed_by what sess code)) (answered_by code next timed) old result new
    → old.starved ≡ false
    → IsCarried (where_some (timer_at (play_of old).view sess) (refreshed (play_of old).view sess code)) (answered_by code (record { 0 = (play_of old).view.next_request }) (timer_at (play_of old).view sess)) old result new
answered_carried sess code old new seen timed what next result sees (is, has, last) carried fed =
    subst (λ (v : View). IsCarried (where_some (timer_at v sess) (refreshed v sess code)) (answered_by code (next_of v) (timer_at v sess)) old result new) (sees fed)
    (subst (λ (s : Script). IsCarried s (answered_by code (next_of seen) (timer_at seen sess)) old result new) (sym (refreshed_where sess seen code (timer_at seen sess))) (rw (← is, ← has, ← last) carried))

-- ## In time

pub begun_in_time : (sess : SessId) (n : ℕ) (me : Bool) (old new : Working) (x : Unit {0}) → IsDone (begin_timed sess (play_of old).view (On n me)) old (Ok x) new → IsBegun (play_of old).view.now sess n me (play_of new).view
unfolding IsDone
begun_in_time sess n me old new x through =
    let so = through_accepted (begin_timed sess (play_of old).view (On n me)) old new through in
    subst (λ (p : Play). IsBegun (play_of old).view.now sess n me p.view) (sym so.1) (begun-timed (play_of old) sess n me so.0)
