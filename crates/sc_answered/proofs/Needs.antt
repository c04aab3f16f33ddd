-- What a state needs of the list.
use Rattle.std.proofs.Common.{◌≡◌, ℕ, ◌++◌, Bool, true, false, Some, List, [], ◌∷◌, refl, arith}
use Rattle.std.proofs.lemmas.Bool.Decides.{nat_tests}
use Rattle.std.specs.Prelude.{cond, map, nat_le, nat_lt, not, ◌&&◌, ◌||◌}
use Rattle.std.specs.List.{find, list_any}
use Rattle.std.specs.Option.{option_map_or}
use Rattle.sc_tokens.specs.Names.{same_bytes}
use Rattle.sc_terms.specs.declared.views.State.{State}
use Rattle.sc_terms.specs.declared.views.State.TheVariants.{Initial, Early, Confirmed, Terminated}
use Rattle.sc_model.specs.Dialogs.{subscribe}
use Rattle.sc_model.specs.SessionStates.{bye, invite, is_final}
use Rattle.sc_model.specs.Transactions.{is_failure, is_success}
use Rattle.sc_hosts.specs.Looking.{is_confirmed, is_early, is_terminated, is_uac}
use Rattle.sc_hosts.specs.States.{is_ringing}
use Rattle.sc_lasting.proofs.Began.{not-false}
use Rattle.sc_answered.specs.StateOf.{Accepts, Denies, Exhausted, Exhausts, Fails, Finishes, Happening, HangsUp, Meaning, Nothing, Overtaken, Overtakes, Rejects, Response, Rings, Subscribes, Undoes, Undone, Unsubscribes, confirms, has_rung, is_end, is_made, is_ring, is_turn, meaning, some_item, state_by, state_of, to_initial, to_invite, to_later, to_subscribe}
use Rattle.sc_answered.specs.Needed.{can_end, hangs_up, makes_dialog, makes_early, takes_call}
use Rattle.sc_answered.proofs.StateAfter.{all-eight, stands}

-- ## Tests of meanings

-- what passes is one of the two, with its condition
if-passes : (test : Meaning → Bool) (b : Bool) (m n : Meaning) (x : Bool) → (b ≡ true → test m ≡ true → x ≡ true)
    → (b ≡ false → test n ≡ true → x ≡ true) → test (cond b m n) ≡ true → x ≡ true
if-passes test true m n x p q is = p refl is
if-passes test false m n x p q is = q refl is

-- it makes the dialog
is_making : Meaning → Bool
is_making Accepts = true
is_making Subscribes = true
is_making m = false

-- it can end it
is_ending : Meaning → Bool
is_ending Rejects = true
is_ending Denies = true
is_ending Finishes = true
is_ending HangsUp = true
is_ending Unsubscribes = true
is_ending Overtakes = true
is_ending Undoes = true
is_ending (Exhausts derived) = true
is_ending m = false

made-by : (m : Meaning) (earlier : List Meaning) → confirms m earlier ≡ true → is_making m ≡ true
unfolding confirms is_making
made-by Nothing earlier is = is
made-by Rings earlier is = is
made-by Accepts earlier is = refl
made-by Subscribes earlier is = refl
made-by Fails earlier is = is
made-by Rejects earlier is = is
made-by Denies earlier is = is
made-by Finishes earlier is = is
made-by HangsUp earlier is = is
made-by Unsubscribes earlier is = is
made-by Overtakes earlier is = is
made-by Undoes earlier is = is
made-by (Exhausts derived) earlier is = is

ended-by : (m : Meaning) (earlier : List Meaning) → is_end m earlier ≡ true → is_ending m ≡ true
unfolding is_end is_ending
ended-by Nothing earlier is = is
ended-by Rings earlier is = is
ended-by Accepts earlier is = is
ended-by Subscribes earlier is = is
ended-by Fails earlier is = is
ended-by Rejects earlier is = refl
ended-by Denies earlier is = refl
ended-by Finishes earlier is = refl
ended-by HangsUp earlier is = refl
ended-by Unsubscribes earlier is = refl
ended-by Overtakes earlier is = refl
ended-by Undoes earlier is = refl
ended-by (Exhausts derived) earlier is = refl

-- ## Of what happened

ring-needs : (one : Happening) → is_ring (meaning one) ≡ true → makes_early one ≡ true
unfolding meaning makes_early is_ring to_initial to_invite to_subscribe to_later
ring-needs (Response role asked tagged code) is =
    if-passes is_ring asked.initial (to_initial role asked.method tagged code) (to_later asked.method asked.ends code) (makes_early (Response role asked tagged code))
    (λ i. if-passes is_ring (same_bytes asked.method invite) (to_invite role tagged code) (cond (same_bytes asked.method subscribe) (to_subscribe code) (cond (is_final code) Finishes Nothing)) (makes_early (Response role asked tagged code))
    (λ v. if-passes is_ring (is_failure code) (cond (is_uac role) Fails Rejects) (cond (is_success code) Accepts (cond (tagged && is_ringing code) Rings Nothing)) (makes_early (Response role asked tagged code))
    (λ f. if-passes is_ring (is_uac role) Fails Rejects (makes_early (Response role asked tagged code)) (λ u no. cc) (λ u no. cc))
    (λ f. if-passes is_ring (is_success code) Accepts (cond (tagged && is_ringing code) Rings Nothing) (makes_early (Response role asked tagged code)) (λ a no. cc)
    (λ a. if-passes is_ring (tagged && is_ringing code) Rings Nothing (makes_early (Response role asked tagged code)) (λ r yes. rw (i, v, r) refl) (λ r no. cc))))
    (λ v. if-passes is_ring (same_bytes asked.method subscribe) (to_subscribe code) (cond (is_final code) Finishes Nothing) (makes_early (Response role asked tagged code))
    (λ s. if-passes is_ring (is_failure code) Denies (cond (is_success code) Subscribes Nothing) (makes_early (Response role asked tagged code)) (λ f no. cc)
    (λ f. if-passes is_ring (is_success code) Subscribes Nothing (makes_early (Response role asked tagged code)) (λ a no. cc) (λ a no. cc)))
    (λ s. if-passes is_ring (is_final code) Finishes Nothing (makes_early (Response role asked tagged code)) (λ f no. cc) (λ f no. cc))))
    (λ i. if-passes is_ring (not (is_final code)) Nothing (cond (same_bytes asked.method bye) HangsUp (cond asked.ends Unsubscribes Nothing)) (makes_early (Response role asked tagged code)) (λ f no. cc)
    (λ f. if-passes is_ring (same_bytes asked.method bye) HangsUp (cond asked.ends Unsubscribes Nothing) (makes_early (Response role asked tagged code)) (λ b no. cc)
    (λ b. if-passes is_ring asked.ends Unsubscribes Nothing (makes_early (Response role asked tagged code)) (λ e no. cc) (λ e no. cc)))) is
ring-needs Overtaken is = cc
ring-needs Undone is = cc
ring-needs (Exhausted derived) is = cc

making-needs : (one : Happening) → is_making (meaning one) ≡ true → makes_dialog one ≡ true
unfolding meaning makes_dialog is_making to_initial to_invite to_subscribe to_later
making-needs (Response role asked tagged code) is =
    if-passes is_making asked.initial (to_initial role asked.method tagged code) (to_later asked.method asked.ends code) (makes_dialog (Response role asked tagged code))
    (λ i. if-passes is_making (same_bytes asked.method invite) (to_invite role tagged code) (cond (same_bytes asked.method subscribe) (to_subscribe code) (cond (is_final code) Finishes Nothing)) (makes_dialog (Response role asked tagged code))
    (λ v. if-passes is_making (is_failure code) (cond (is_uac role) Fails Rejects) (cond (is_success code) Accepts (cond (tagged && is_ringing code) Rings Nothing)) (makes_dialog (Response role asked tagged code))
    (λ f. if-passes is_making (is_uac role) Fails Rejects (makes_dialog (Response role asked tagged code)) (λ u no. cc) (λ u no. cc))
    (λ f. if-passes is_making (is_success code) Accepts (cond (tagged && is_ringing code) Rings Nothing) (makes_dialog (Response role asked tagged code)) (λ a yes. rw (i, v, a) refl)
    (λ a. if-passes is_making (tagged && is_ringing code) Rings Nothing (makes_dialog (Response role asked tagged code)) (λ r no. cc) (λ r no. cc))))
    (λ v. if-passes is_making (same_bytes asked.method subscribe) (to_subscribe code) (cond (is_final code) Finishes Nothing) (makes_dialog (Response role asked tagged code))
    (λ s. if-passes is_making (is_failure code) Denies (cond (is_success code) Subscribes Nothing) (makes_dialog (Response role asked tagged code)) (λ f no. cc)
    (λ f. if-passes is_making (is_success code) Subscribes Nothing (makes_dialog (Response role asked tagged code)) (λ a yes. rw (i, v, s, a) refl) (λ a no. cc)))
    (λ s. if-passes is_making (is_final code) Finishes Nothing (makes_dialog (Response role asked tagged code)) (λ f no. cc) (λ f no. cc))))
    (λ i. if-passes is_making (not (is_final code)) Nothing (cond (same_bytes asked.method bye) HangsUp (cond asked.ends Unsubscribes Nothing)) (makes_dialog (Response role asked tagged code)) (λ f no. cc)
    (λ f. if-passes is_making (same_bytes asked.method bye) HangsUp (cond asked.ends Unsubscribes Nothing) (makes_dialog (Response role asked tagged code)) (λ b no. cc)
    (λ b. if-passes is_making asked.ends Unsubscribes Nothing (makes_dialog (Response role asked tagged code)) (λ e no. cc) (λ e no. cc)))) is
making-needs Overtaken is = cc
making-needs Undone is = cc
making-needs (Exhausted derived) is = cc

ending-needs : (one : Happening) → is_ending (meaning one) ≡ true → can_end one ≡ true
unfolding meaning can_end is_ending to_initial to_invite to_subscribe to_later
ending-needs (Response role asked tagged code) is =
    if-passes is_ending asked.initial (to_initial role asked.method tagged code) (to_later asked.method asked.ends code) (can_end (Response role asked tagged code))
    (λ i. if-passes is_ending (same_bytes asked.method invite) (to_invite role tagged code) (cond (same_bytes asked.method subscribe) (to_subscribe code) (cond (is_final code) Finishes Nothing)) (can_end (Response role asked tagged code))
    (λ v. if-passes is_ending (is_failure code) (cond (is_uac role) Fails Rejects) (cond (is_success code) Accepts (cond (tagged && is_ringing code) Rings Nothing)) (can_end (Response role asked tagged code))
    (λ f. if-passes is_ending (is_uac role) Fails Rejects (can_end (Response role asked tagged code)) (λ u no. cc) (λ u yes. rw (i, v, f, u) refl))
    (λ f. if-passes is_ending (is_success code) Accepts (cond (tagged && is_ringing code) Rings Nothing) (can_end (Response role asked tagged code)) (λ a no. cc)
    (λ a. if-passes is_ending (tagged && is_ringing code) Rings Nothing (can_end (Response role asked tagged code)) (λ r no. cc) (λ r no. cc))))
    (λ v. if-passes is_ending (same_bytes asked.method subscribe) (to_subscribe code) (cond (is_final code) Finishes Nothing) (can_end (Response role asked tagged code))
    (λ s. if-passes is_ending (is_failure code) Denies (cond (is_success code) Subscribes Nothing) (can_end (Response role asked tagged code)) (λ f yes. rw (i, v, s, f) refl)
    (λ f. if-passes is_ending (is_success code) Subscribes Nothing (can_end (Response role asked tagged code)) (λ a no. cc) (λ a no. cc)))
    (λ s. if-passes is_ending (is_final code) Finishes Nothing (can_end (Response role asked tagged code)) (λ f yes. rw (i, v, s, f) refl) (λ f no. cc))))
    (λ i. if-passes is_ending (not (is_final code)) Nothing (cond (same_bytes asked.method bye) HangsUp (cond asked.ends Unsubscribes Nothing)) (can_end (Response role asked tagged code)) (λ f no. cc)
    (λ f. if-passes is_ending (same_bytes asked.method bye) HangsUp (cond asked.ends Unsubscribes Nothing) (can_end (Response role asked tagged code)) (λ b yes. rw (i, not-false (is_final code) f, b) refl)
    (λ b. if-passes is_ending asked.ends Unsubscribes Nothing (can_end (Response role asked tagged code)) (λ e yes. rw (i, not-false (is_final code) f, b, e) refl) (λ e no. cc)))) is
ending-needs Overtaken is = refl
ending-needs Undone is = refl
ending-needs (Exhausted derived) is = refl

-- ## Of lists

or-first : (a b c : Bool) → (a ≡ true → c ≡ true) → (b ≡ true → c ≡ true) → (a || b) ≡ true → c ≡ true
or-first true b c p q is = p refl
or-first false b c p q is = q is

or-left : (a b : Bool) → a ≡ true → (a || b) ≡ true
or-left true b is = refl
or-left false b is = cc

or-right : (a b : Bool) → b ≡ true → (a || b) ≡ true
or-right true b is = refl
or-right false b is = is

item-needs : (test : Meaning → List Meaning → Bool) (needs : Happening → Bool) (items : List Happening)
    → ((one : Happening) (earlier : List Meaning) → test (meaning one) earlier ≡ true → needs one ≡ true)
    → some_item test (map meaning items) ≡ true → list_any needs items ≡ true
unfolding some_item
item-needs test needs [] each is = cc
item-needs test needs (one ∷ items) each is =
    or-first (test (meaning one) (map meaning items)) (some_item test (map meaning items)) (needs one || list_any needs items)
    (λ here. or-left (needs one) (list_any needs items) (each one (map meaning items) here))
    (λ later. or-right (needs one) (list_any needs items) (item-needs test needs items each later)) is

rung-needs : (items : List Happening) → has_rung (map meaning items) ≡ true → list_any makes_early items ≡ true
unfolding has_rung
rung-needs [] is = cc
rung-needs (one ∷ items) is = by-test (is_turn (meaning one)) is (rung-needs items)
  where
    by-test : (b : Bool) → option_map_or is_ring (cond b (Some (meaning one)) (find is_turn (map meaning items))) false ≡ true
        → (option_map_or is_ring (find is_turn (map meaning items)) false ≡ true → list_any makes_early items ≡ true)
        → (makes_early one || list_any makes_early items) ≡ true
    by-test true rings later = or-left (makes_early one) (list_any makes_early items) (ring-needs one rings)
    by-test false rings later = or-right (makes_early one) (list_any makes_early items) (later rings)

-- ## Of states

confirmed-made : (e c r : Bool) → is_confirmed (stands e c r) ≡ true → c ≡ true
unfolding is_confirmed
confirmed-made = all-eight (λ e c r. is_confirmed (stands e c r) ≡ true → c ≡ true) (λ is. cc) (λ is. cc) (λ is. cc) (λ is. cc) (λ is. refl) (λ is. refl) (λ is. cc) (λ is. cc)

early-rung : (e c r : Bool) → is_early (stands e c r) ≡ true → r ≡ true
unfolding is_early
early-rung = all-eight (λ e c r. is_early (stands e c r) ≡ true → r ≡ true) (λ is. cc) (λ is. cc) (λ is. cc) (λ is. cc) (λ is. cc) (λ is. cc) (λ is. refl) (λ is. cc)

ended-ends : (e c r : Bool) → is_terminated (stands e c r) ≡ true → e ≡ true
unfolding is_terminated
ended-ends = all-eight (λ e c r. is_terminated (stands e c r) ≡ true → e ≡ true) (λ is. refl) (λ is. refl) (λ is. refl) (λ is. refl) (λ is. cc) (λ is. cc) (λ is. cc) (λ is. cc)

pub confirmed-needs : (items : List Happening) → is_confirmed (state_of items) ≡ true → list_any makes_dialog items ≡ true
unfolding state_of state_by is_made
confirmed-needs items is =
    item-needs confirms makes_dialog items (λ one earlier made. making-needs one (made-by (meaning one) earlier made))
    (confirmed-made (some_item is_end (map meaning items)) (some_item confirms (map meaning items)) (has_rung (map meaning items)) is)

pub early-needs : (items : List Happening) → is_early (state_of items) ≡ true → list_any makes_early items ≡ true
unfolding state_of state_by
early-needs items is =
    rung-needs items (early-rung (some_item is_end (map meaning items)) (is_made (map meaning items)) (has_rung (map meaning items)) is)

pub terminated-needs : (items : List Happening) → is_terminated (state_of items) ≡ true → list_any can_end items ≡ true
unfolding state_of state_by
terminated-needs items is =
    item-needs is_end can_end items (λ one earlier ends. ending-needs one (ended-by (meaning one) earlier ends))
    (ended-ends (some_item is_end (map meaning items)) (is_made (map meaning items)) (has_rung (map meaning items)) is)

clash : (b : Bool) → b ≡ true → b ≡ false → ⊥
clash b p q = cc

early-is : (state : State) → state ≡ Early → is_early state ≡ true
unfolding is_early
early-is state is = rw is refl

confirmed-is : (state : State) → state ≡ Confirmed → is_confirmed state ≡ true
unfolding is_confirmed
confirmed-is state is = rw is refl

terminated-is : (state : State) → state ≡ Terminated → is_terminated state ≡ true
unfolding is_terminated
terminated-is state is = rw is refl

-- where nothing makes another one it is INITIAL
pub initial-else : (items : List Happening) → list_any makes_early items ≡ false → list_any makes_dialog items ≡ false → list_any can_end items ≡ false
    → state_of items ≡ Initial
initial-else items early made ended = by-state (state_of items) refl
  where
    by-state : (state : State) → state_of items ≡ state → state ≡ Initial
    by-state Initial is = refl
    by-state Early is = absurd (clash (list_any makes_early items) (early-needs items (early-is (state_of items) is)) early)
    by-state Confirmed is = absurd (clash (list_any makes_dialog items) (confirmed-needs items (confirmed-is (state_of items) is)) made)
    by-state Terminated is = absurd (clash (list_any can_end items) (terminated-needs items (terminated-is (state_of items) is)) ended)

-- ## Of a call that was taken

-- CONFIRMED or TERMINATED
abbrev pub is_settled : State → Bool
is_settled state = is_confirmed state || is_terminated state

made-settles : (e c r : Bool) → c ≡ true → is_settled (stands e c r) ≡ true
unfolding is_confirmed is_terminated
made-settles = all-eight (λ e c r. c ≡ true → is_settled (stands e c r) ≡ true) (λ is. refl) (λ is. refl) (λ is. refl) (λ is. refl) (λ is. refl) (λ is. refl) (λ is. cc) (λ is. cc)

ends-terminate : (e c r : Bool) → e ≡ true → is_terminated (stands e c r) ≡ true
unfolding is_terminated
ends-terminate = all-eight (λ e c r. e ≡ true → is_terminated (stands e c r) ≡ true) (λ is. refl) (λ is. refl) (λ is. refl) (λ is. refl) (λ is. cc) (λ is. cc) (λ is. cc) (λ is. cc)

and-first : (a b : Bool) → (a && b) ≡ true → a ≡ true
and-first true b is = refl
and-first false b is = cc

and-second : (a b : Bool) → (a && b) ≡ true → b ≡ true
and-second true b is = is
and-second false b is = cc

below-failure : (code : ℕ) → nat_lt code 300 ≡ true → nat_le 300 code ≡ false
below-failure code is = grind (arith, nat_tests, is)

taken-accepts : (one : Happening) → takes_call one ≡ true → meaning one ≡ Accepts
unfolding takes_call meaning to_initial to_invite
taken-accepts (Response role asked tagged code) is =
    let first = and-first (asked.initial && same_bytes asked.method invite) (is_success code) is in
    let success = and-second (asked.initial && same_bytes asked.method invite) (is_success code) is in
    rw (
      and-first asked.initial (same_bytes asked.method invite) first,
      and-second asked.initial (same_bytes asked.method invite) first,
      below-failure code (and-second (is_final code) (nat_lt code 300) success),
      success,
    ) refl
taken-accepts Overtaken is = cc
taken-accepts Undone is = cc
taken-accepts (Exhausted derived) is = cc

hung-means : (one : Happening) → hangs_up one ≡ true → meaning one ≡ HangsUp
unfolding hangs_up meaning to_later
hung-means (Response role asked tagged code) is =
    let first = and-first (not asked.initial && same_bytes asked.method bye) (is_final code) is in
    rw (
      is-not asked.initial (and-first (not asked.initial) (same_bytes asked.method bye) first),
      and-second (not asked.initial) (same_bytes asked.method bye) first,
      and-second (not asked.initial && same_bytes asked.method bye) (is_final code) is,
    ) refl
  where
    is-not : (b : Bool) → not b ≡ true → b ≡ false
    is-not true is = cc
    is-not false is = refl
hung-means Overtaken is = cc
hung-means Undone is = cc
hung-means (Exhausted derived) is = cc

taken-confirms : (one : Happening) (earlier : List Meaning) → takes_call one ≡ true → confirms (meaning one) earlier ≡ true
unfolding confirms
taken-confirms one earlier is = rw (taken-accepts one is) refl

taken-makes : (items : List Happening) → list_any takes_call items ≡ true → is_made (map meaning items) ≡ true
unfolding is_made some_item
taken-makes [] is = cc
taken-makes (one ∷ items) is =
    or-first (takes_call one) (list_any takes_call items) (confirms (meaning one) (map meaning items) || some_item confirms (map meaning items))
    (λ here. or-left (confirms (meaning one) (map meaning items)) (some_item confirms (map meaning items)) (taken-confirms one (map meaning items) here))
    (λ later. or-right (confirms (meaning one) (map meaning items)) (some_item confirms (map meaning items)) (taken-makes items later)) is

-- a call that was taken is CONFIRMED or TERMINATED
pub taken-settles : (items : List Happening) → list_any takes_call items ≡ true → is_settled (state_of items) ≡ true
unfolding state_of state_by
taken-settles items is =
    made-settles (some_item is_end (map meaning items)) (is_made (map meaning items)) (has_rung (map meaning items)) (taken-makes items is)

hung-ends : (one : Happening) (earlier : List Happening) → hangs_up one ≡ true → list_any takes_call earlier ≡ true
    → is_end (meaning one) (map meaning earlier) ≡ true
unfolding is_end
hung-ends one earlier hung taken = rw (hung-means one hung) (or-left (is_made (map meaning earlier)) (has_rung (map meaning earlier)) (taken-makes earlier taken))

hung-some : (later : List Happening) (one : Happening) (earlier : List Happening) → hangs_up one ≡ true → list_any takes_call earlier ≡ true
    → some_item is_end (map meaning (later ++ one ∷ earlier)) ≡ true
unfolding some_item
hung-some [] one earlier hung taken =
    or-left (is_end (meaning one) (map meaning earlier)) (some_item is_end (map meaning earlier)) (hung-ends one earlier hung taken)
hung-some (next ∷ later) one earlier hung taken =
    or-right (is_end (meaning next) (map meaning (later ++ one ∷ earlier))) (some_item is_end (map meaning (later ++ one ∷ earlier))) (hung-some later one earlier hung taken)

-- one that was taken and hung up is TERMINATED
pub hung-terminates : (later : List Happening) (one : Happening) (earlier : List Happening) → hangs_up one ≡ true → list_any takes_call earlier ≡ true
    → is_terminated (state_of (later ++ one ∷ earlier)) ≡ true
unfolding state_of state_by
hung-terminates later one earlier hung taken =
    ends-terminate (some_item is_end (map meaning (later ++ one ∷ earlier))) (is_made (map meaning (later ++ one ∷ earlier))) (has_rung (map meaning (later ++ one ∷ earlier))) (hung-some later one earlier hung taken)
