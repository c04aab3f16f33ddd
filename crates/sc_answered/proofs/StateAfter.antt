-- What one thing more makes of the state that is searched from a list.
use Rattle.std.proofs.Common.{◌≡◌, ℕ, Bool, true, false, List, ◌∷◌, refl, ◌∙◌}
use Rattle.std.specs.Prelude.{cond, not, ◌&&◌, ◌||◌, map}
use Rattle.std.specs.List.{find}
use Rattle.std.specs.Option.{option_map_or}
use Rattle.sc_tokens.specs.Names.{same_bytes}
use Rattle.sc_terms.specs.declared.views.RequestView.{RequestView}
use Rattle.sc_terms.specs.declared.views.Role.{Role}
use Rattle.sc_terms.specs.declared.views.Role.TheVariants as roles
use Rattle.sc_terms.specs.declared.views.State.{State}
use Rattle.sc_terms.specs.declared.views.State.TheVariants.{Initial, Early, Confirmed, Terminated}
use Rattle.sc_tokens.specs.Bytes.{Bytes}
use Rattle.sc_model.specs.Dialogs.{subscribe}
use Rattle.sc_model.specs.SessionStates.{bye, ended_state, invite, is_final}
use Rattle.sc_model.specs.Transactions.{is_failure, is_success}
use Rattle.sc_hosts.specs.Looking.{is_early, is_initial_state, is_uac}
use Rattle.sc_hosts.specs.States.{after_initial, after_later, after_response, failed_state, invited_state, is_ringing, subscribed_state, unsubscribed_state}
use Rattle.sc_answered.specs.StateOf.{Accepts, Denies, Exhausts, Fails, Finishes, Happening, HangsUp, Meaning, Nothing, Overtakes, Rejects, Response, Rings, Subscribes, Undoes, Unsubscribes, confirms, has_rung, is_end, is_made, is_ring, is_turn, meaning, some_item, state_by, state_of, to_initial, to_invite, to_later, to_subscribe}

-- ## The state, from the answers of the three searches

abbrev pub stands : Bool → Bool → Bool → State
stands ended made rung = cond ended Terminated (cond made Confirmed (cond rung Early Initial))

-- where it has all values of the three
pub all-eight : (P : Bool → Bool → Bool → Type 0) → P true true true → P true true false → P true false true → P true false false
    → P false true true → P false true false → P false false true → P false false false → (a b c : Bool) → P a b c
all-eight P ttt ttf tft tff ftt ftf fft fff true true true = ttt
all-eight P ttt ttf tft tff ftt ftf fft fff true true false = ttf
all-eight P ttt ttf tft tff ftt ftf fft fff true false true = tft
all-eight P ttt ttf tft tff ftt ftf fft fff true false false = tff
all-eight P ttt ttf tft tff ftt ftf fft fff false true true = ftt
all-eight P ttt ttf tft tff ftt ftf fft fff false true false = ftf
all-eight P ttt ttf tft tff ftt ftf fft fff false false true = fft
all-eight P ttt ttf tft tff ftt ftf fft fff false false false = fff

-- a failure of an INVITE, which a dialog outlasts
unfoldable pub undone_to : State → State → State
undone_to failed Initial = failed
undone_to failed Early = failed
undone_to failed Confirmed = Confirmed
undone_to failed Terminated = Terminated

unfoldable pub rung_state : State → State
rung_state Initial = Early
rung_state Early = Early
rung_state Confirmed = Confirmed
rung_state Terminated = Terminated

unfoldable pub made_state : State → State
made_state Initial = Confirmed
made_state Early = Confirmed
made_state Confirmed = Confirmed
made_state Terminated = Terminated

unfoldable pub granted_state : State → State
granted_state Initial = Confirmed
granted_state Early = Early
granted_state Confirmed = Confirmed
granted_state Terminated = Terminated

unfoldable pub denied_state : State → State
denied_state Initial = Terminated
denied_state Early = Early
denied_state Confirmed = Confirmed
denied_state Terminated = Terminated

-- what each meaning makes of a state
unfoldable pub state_after : Meaning → State → State
state_after Nothing state = state
state_after Rings state = rung_state state
state_after Accepts state = made_state state
state_after Subscribes state = granted_state state
state_after Fails state = undone_to Initial state
state_after Rejects state = undone_to Terminated state
state_after Denies state = denied_state state
state_after Finishes state = Terminated
state_after HangsUp state = ended_state state
state_after Unsubscribes state = unsubscribed_state state
state_after Overtakes state = cond (is_early state) Terminated state
state_after Undoes state = Terminated
state_after (Exhausts derived) state = cond (is_early state || (is_initial_state state && derived)) Terminated state

-- the searches of a longer list give it
pub state-joins : (m : Meaning) (items : List Meaning) → state_by (m ∷ items) ≡ state_after m (state_by items)
unfolding state_by some_item is_end is_made has_rung confirms is_ring is_turn state_after rung_state made_state granted_state denied_state undone_to ended_state unsubscribed_state is_early is_initial_state
state-joins Nothing items =
    all-eight (λ e c r. stands (false || e) (false || c) r ≡ stands e c r) refl refl refl refl refl refl refl refl (some_item is_end items) (some_item confirms items) (option_map_or is_ring (find is_turn items) false)
state-joins Rings items =
    all-eight (λ e c r. stands (false || e) (false || c) true ≡ rung_state (stands e c r)) refl refl refl refl refl refl refl refl (some_item is_end items) (some_item confirms items) (option_map_or is_ring (find is_turn items) false)
state-joins Accepts items =
    all-eight (λ e c r. stands (false || e) (true || c) r ≡ made_state (stands e c r)) refl refl refl refl refl refl refl refl (some_item is_end items) (some_item confirms items) (option_map_or is_ring (find is_turn items) false)
state-joins Subscribes items =
    all-eight (λ e c r. stands (false || e) (not r || c) r ≡ granted_state (stands e c r)) refl refl refl refl refl refl refl refl (some_item is_end items) (some_item confirms items) (option_map_or is_ring (find is_turn items) false)
state-joins Fails items =
    all-eight (λ e c r. stands (false || e) (false || c) false ≡ undone_to Initial (stands e c r)) refl refl refl refl refl refl refl refl (some_item is_end items) (some_item confirms items) (option_map_or is_ring (find is_turn items) false)
state-joins Rejects items =
    all-eight (λ e c r. stands (not c || e) (false || c) r ≡ undone_to Terminated (stands e c r)) refl refl refl refl refl refl refl refl (some_item is_end items) (some_item confirms items) (option_map_or is_ring (find is_turn items) false)
state-joins Denies items =
    all-eight (λ e c r. stands ((not c && not r) || e) (false || c) r ≡ denied_state (stands e c r)) refl refl refl refl refl refl refl refl (some_item is_end items) (some_item confirms items) (option_map_or is_ring (find is_turn items) false)
state-joins Finishes items = refl
state-joins HangsUp items =
    all-eight (λ e c r. stands ((c || r) || e) (false || c) r ≡ ended_state (stands e c r)) refl refl refl refl refl refl refl refl (some_item is_end items) (some_item confirms items) (option_map_or is_ring (find is_turn items) false)
state-joins Unsubscribes items =
    all-eight (λ e c r. stands (c || e) (false || c) r ≡ unsubscribed_state (stands e c r)) refl refl refl refl refl refl refl refl (some_item is_end items) (some_item confirms items) (option_map_or is_ring (find is_turn items) false)
state-joins Overtakes items =
    all-eight (λ e c r. stands ((not c && r) || e) (false || c) r ≡ cond (is_early (stands e c r)) Terminated (stands e c r)) refl refl refl refl refl refl refl refl (some_item is_end items) (some_item confirms items) (option_map_or is_ring (find is_turn items) false)
state-joins Undoes items = refl
state-joins (Exhausts true) items =
    all-eight (λ e c r. stands ((not c && (r || true)) || e) (false || c) r ≡ cond (is_early (stands e c r) || (is_initial_state (stands e c r) && true)) Terminated (stands e c r)) refl refl refl refl refl refl refl refl (some_item is_end items) (some_item confirms items) (option_map_or is_ring (find is_turn items) false)
state-joins (Exhausts false) items =
    all-eight (λ e c r. stands ((not c && (r || false)) || e) (false || c) r ≡ cond (is_early (stands e c r) || (is_initial_state (stands e c r) && false)) Terminated (stands e c r)) refl refl refl refl refl refl refl refl (some_item is_end items) (some_item confirms items) (option_map_or is_ring (find is_turn items) false)

-- ## A response

if-after : (b : Bool) (m n : Meaning) (state x y : State) → state_after m state ≡ x → state_after n state ≡ y
    → state_after (cond b m n) state ≡ cond b x y
if-after true m n state x y p q = p
if-after false m n state x y p q = q

if-same : (b : Bool) (m n : Meaning) (state x : State) → state_after m state ≡ x → state_after n state ≡ x
    → state_after (cond b m n) state ≡ x
if-same true m n state x p q = p
if-same false m n state x p q = q

failed-begins : (role : Role) → state_after (cond (is_uac role) Fails Rejects) Initial ≡ failed_state role
unfolding state_after undone_to failed_state is_uac
failed-begins roles.Uac = refl
failed-begins roles.Uas = refl
failed-begins roles.Proxy = refl

failed-early : (role : Role) → state_after (cond (is_uac role) Fails Rejects) Early ≡ failed_state role
unfolding state_after undone_to failed_state is_uac
failed-early roles.Uac = refl
failed-early roles.Uas = refl
failed-early roles.Proxy = refl

after-invite : (role : Role) (tagged : Bool) (code : ℕ) (state : State)
    → state_after (to_invite role tagged code) state ≡ invited_state (failed_state role) tagged state code
unfolding to_invite invited_state state_after undone_to made_state rung_state
after-invite role tagged code Initial =
    if-after (is_failure code) (cond (is_uac role) Fails Rejects) (cond (is_success code) Accepts (cond (tagged && is_ringing code) Rings Nothing)) Initial (failed_state role) (cond (is_success code) Confirmed (cond (tagged && is_ringing code) Early Initial)) (failed-begins role)
    (if-after (is_success code) Accepts (cond (tagged && is_ringing code) Rings Nothing) Initial Confirmed (cond (tagged && is_ringing code) Early Initial) refl
    (if-after (tagged && is_ringing code) Rings Nothing Initial Early Initial refl refl))
after-invite role tagged code Early =
    if-after (is_failure code) (cond (is_uac role) Fails Rejects) (cond (is_success code) Accepts (cond (tagged && is_ringing code) Rings Nothing)) Early (failed_state role) (cond (is_success code) Confirmed Early) (failed-early role)
    (if-after (is_success code) Accepts (cond (tagged && is_ringing code) Rings Nothing) Early Confirmed Early refl
    (if-same (tagged && is_ringing code) Rings Nothing Early Early refl refl))
after-invite role tagged code Confirmed =
    if-same (is_failure code) (cond (is_uac role) Fails Rejects) (cond (is_success code) Accepts (cond (tagged && is_ringing code) Rings Nothing)) Confirmed Confirmed (if-same (is_uac role) Fails Rejects Confirmed Confirmed refl refl)
    (if-same (is_success code) Accepts (cond (tagged && is_ringing code) Rings Nothing) Confirmed Confirmed refl (if-same (tagged && is_ringing code) Rings Nothing Confirmed Confirmed refl refl))
after-invite role tagged code Terminated =
    if-same (is_failure code) (cond (is_uac role) Fails Rejects) (cond (is_success code) Accepts (cond (tagged && is_ringing code) Rings Nothing)) Terminated Terminated (if-same (is_uac role) Fails Rejects Terminated Terminated refl refl)
    (if-same (is_success code) Accepts (cond (tagged && is_ringing code) Rings Nothing) Terminated Terminated refl (if-same (tagged && is_ringing code) Rings Nothing Terminated Terminated refl refl))

after-subscribe : (code : ℕ) (state : State) → state_after (to_subscribe code) state ≡ subscribed_state state code
unfolding to_subscribe subscribed_state state_after denied_state granted_state
after-subscribe code Initial =
    if-after (is_failure code) Denies (cond (is_success code) Subscribes Nothing) Initial Terminated (cond (is_success code) Confirmed Initial) refl (if-after (is_success code) Subscribes Nothing Initial Confirmed Initial refl refl)
after-subscribe code Early = if-same (is_failure code) Denies (cond (is_success code) Subscribes Nothing) Early Early refl (if-same (is_success code) Subscribes Nothing Early Early refl refl)
after-subscribe code Confirmed = if-same (is_failure code) Denies (cond (is_success code) Subscribes Nothing) Confirmed Confirmed refl (if-same (is_success code) Subscribes Nothing Confirmed Confirmed refl refl)
after-subscribe code Terminated = if-same (is_failure code) Denies (cond (is_success code) Subscribes Nothing) Terminated Terminated refl (if-same (is_success code) Subscribes Nothing Terminated Terminated refl refl)

pub after-first : (role : Role) (method : Bytes) (tagged : Bool) (code : ℕ) (state : State)
    → state_after (to_initial role method tagged code) state ≡ after_initial role method tagged state code
unfolding to_initial after_initial state_after
after-first role method tagged code state =
    if-after (same_bytes method invite) (to_invite role tagged code) (cond (same_bytes method subscribe) (to_subscribe code) (cond (is_final code) Finishes Nothing)) state _ _ (after-invite role tagged code state)
    (if-after (same_bytes method subscribe) (to_subscribe code) (cond (is_final code) Finishes Nothing) state _ _ (after-subscribe code state)
    (if-after (is_final code) Finishes Nothing state Terminated state refl refl))

after-later : (method : Bytes) (ends : Bool) (code : ℕ) (state : State)
    → state_after (to_later method ends code) state ≡ after_later method ends state code
unfolding to_later after_later state_after
after-later method ends code state =
    if-after (not (is_final code)) Nothing (cond (same_bytes method bye) HangsUp (cond ends Unsubscribes Nothing)) state state (cond (same_bytes method bye) (ended_state state) (cond ends (unsubscribed_state state) state)) refl
    (if-after (same_bytes method bye) HangsUp (cond ends Unsubscribes Nothing) state (ended_state state) (cond ends (unsubscribed_state state) state) refl
    (if-after ends Unsubscribes Nothing state (unsubscribed_state state) state refl refl))

-- a response means what it makes of the state
pub after-responded : (role : Role) (request : RequestView) (tagged : Bool) (code : ℕ) (state : State)
    → state_after (meaning (Response role (record { req = request.id; method = request.method; initial = request.initial; ends = request.ends }) tagged code)) state
    ≡ after_response role request tagged state code
unfolding meaning after_response
after-responded role request tagged code state =
    if-after request.initial (to_initial role request.method tagged code) (to_later request.method request.ends code) state _ _ (after-first role request.method tagged code state) (after-later request.method request.ends code state)

-- the state of a longer list
pub state-of-more : (one : Happening) (earlier : List Happening) → state_of (one ∷ earlier) ≡ state_after (meaning one) (state_of earlier)
unfolding state_of
state-of-more one earlier = state-joins (meaning one) (map meaning earlier)

-- it goes where hosts go
pub responses-join : (role : Role) (request : RequestView) (tagged : Bool) (code : ℕ) (earlier : List Happening)
    → state_of (Response role (record { req = request.id; method = request.method; initial = request.initial; ends = request.ends }) tagged code ∷ earlier)
    ≡ after_response role request tagged (state_of earlier) code
responses-join role request tagged code earlier =
    let one : Happening = Response role (record { req = request.id; method = request.method; initial = request.initial; ends = request.ends }) tagged code in
    state-of-more one earlier ∙ after-responded role request tagged code (state_of earlier)
