-- The states of a SipSession (JSR 289 section 6.2.1, RFC 3261 section 12, RFC 6665). INVITE and
-- SUBSCRIBE begin dialogs. What a UAC does after a failure, and when a session of another initial
-- request ends, is this project's profile.
use Rattle.std.specs.Prelude.{ℕ, List, Bool, false, not, ◌&&◌, nat_lt, if◌then◌else◌, codes}
use Rattle.std.specs.List.{find, take_while}
use Rattle.std.specs.Option.{option_map_or}
use Rattle.sc_value.specs.declared.parts.Field.{Field}
use Rattle.sc_tokens.specs.Names.{same_bytes, same_name}
use Rattle.sc_tokens.specs.Tokens.{is_token_byte}
use Rattle.sc_terms.specs.declared.views.State.{State}
use Rattle.sc_terms.specs.declared.views.State.TheVariants.{Initial, Early, Confirmed, Terminated}
use Rattle.sc_terms.specs.declared.views.Role.{Role}
use Rattle.sc_terms.specs.declared.views.Role.TheVariants.{Uac, Uas, Proxy}
use Rattle.sc_terms.specs.declared.views.RequestView.{RequestView}
use Rattle.sc_tokens.specs.Bytes.{Bytes}
use Rattle.sc_model.specs.Dialogs.{subscribe, notify}
use Rattle.sc_model.specs.SessionStates.{invite, bye, is_final, ended_state}
use Rattle.sc_model.specs.Transactions.{is_success, is_failure}

-- where a failure of the initial INVITE leads: a UAC can try again
unfoldable pub failed_state : Role → State
failed_state Uac = Initial
failed_state Uas = Terminated
failed_state Proxy = Terminated

-- the response is provisional and told: 101 to 199
abbrev pub is_ringing : ℕ → Bool
is_ringing code = nat_lt 100 code && not (is_final code)

-- a response to the initial INVITE; a provisional one makes a dialog where it has a To tag
unfoldable pub invited_state : State → Bool → State → ℕ → State
invited_state failed tagged Initial code =
    if is_failure code then failed
    else (if is_success code then Confirmed
    else (if tagged && is_ringing code then Early else Initial))
invited_state failed tagged Early code =
    if is_failure code then failed else (if is_success code then Confirmed else Early)
invited_state failed tagged Confirmed code = Confirmed
invited_state failed tagged Terminated code = Terminated

-- a response to the initial SUBSCRIBE: its 2xx makes the dialog
unfoldable pub subscribed_state : State → ℕ → State
subscribed_state Initial code =
    if is_failure code then Terminated else (if is_success code then Confirmed else Initial)
subscribed_state Early code = Early
subscribed_state Confirmed code = Confirmed
subscribed_state Terminated code = Terminated

-- the state after a response to the initial request that was sent, handled or forwarded
unfoldable pub after_initial : Role → Bytes → Bool → State → ℕ → State
after_initial role method tagged state code =
    if same_bytes method invite then invited_state (failed_state role) tagged state code
    else (if same_bytes method subscribe then subscribed_state state code
    else (if is_final code then Terminated else state))

-- a final response to a NOTIFY that ends the subscription (RFC 6665 section 4.4.1)
unfoldable pub unsubscribed_state : State → State
unsubscribed_state Initial = Initial
unsubscribed_state Early = Early
unsubscribed_state Confirmed = Terminated
unsubscribed_state Terminated = Terminated

-- the state after a response to a later request
unfoldable pub after_later : Bytes → Bool → State → ℕ → State
after_later method ends state code =
    if not (is_final code) then state
    else (if same_bytes method bye then ended_state state
    else (if ends then unsubscribed_state state
    else state))

-- the state after a response of this code to the request, which has a To tag or hasn't
unfoldable pub after_response : Role → RequestView → Bool → State → ℕ → State
after_response role request tagged state code =
    if request.initial then after_initial role request.method tagged state code
    else after_later request.method request.ends state code

-- ## The NOTIFY that ends a subscription (RFC 6665 section 4.1.3)

-- the header of a NOTIFY that says how the subscription stands (RFC 6665 section 8.2.3)
unfoldable pub subscription_state : Bytes
subscription_state = codes "Subscription-State"

-- its value where the subscription ends
unfoldable pub terminated_word : Bytes
terminated_word = codes "terminated"

-- the value begins with this token, without case
unfoldable pub begins_token : Bytes → Bytes → Bool
begins_token word value = same_name (take_while is_token_byte value) word

-- a NOTIFY whose first Subscription-State begins with `terminated`
unfoldable pub ends_subscription : Bytes → List Field → Bool
ends_subscription method fields =
    same_bytes method notify
    && option_map_or (λ field. begins_token terminated_word field.value)
    (find (λ field. same_name field.name subscription_state) fields) false
