-- The state of a SipSession, searched from the list of all that happened in it (RFC 3261 section
-- 12, RFC 6665 section 4.4.1, JSR 289 section 6.2.1): the responses that it got, gave and
-- forwarded, and what came of those in other SipSessions of its request. Such a list has the newest
-- first.
use Rattle.std.specs.Prelude.{ℕ, List, [], ◌∷◌, Bool, true, false, not, ◌&&◌, ◌||◌, if◌then◌else◌, map}
use Rattle.std.specs.List.{find}
use Rattle.std.specs.Option.{option_map_or}
use Rattle.sc_value.specs.declared.ids.ReqId.{ReqId}
use Rattle.sc_tokens.specs.Names.{same_bytes}
use Rattle.sc_terms.specs.declared.views.Role.{Role}
use Rattle.sc_terms.specs.declared.views.State.{State}
use Rattle.sc_terms.specs.declared.views.State.TheVariants.{Initial, Early, Confirmed, Terminated}
use Rattle.sc_tokens.specs.Bytes.{Bytes}
use Rattle.sc_model.specs.Dialogs.{subscribe}
use Rattle.sc_model.specs.SessionStates.{invite, bye, is_final}
use Rattle.sc_model.specs.Transactions.{is_success, is_failure}
use Rattle.sc_hosts.specs.Looking.{is_uac}
use Rattle.sc_hosts.specs.States.{is_ringing}

-- ## What happens in a SipSession

-- a request: the number by which its application session knows it, and, as far as its responses
-- count for the state, its method, whether it began the SipSession, and whether it is a NOTIFY that
-- ends the subscription
pub record Asked : Type 0 where
  pub req : ReqId
  pub method : Bytes
  pub initial : Bool
  pub ends : Bool

-- what can happen
pub data Happening : Type 0 where
  -- a response to the request, with a To tag or without, of this code, while the SipSession had
  -- this role
  Response : Role → Asked → Bool → ℕ → Happening
  -- the first 2xx to the INVITE that began it came in another SipSession
  Overtaken : Happening
  -- the request that began it failed, and it was derived of the one where that failure came
  Undone : Happening
  -- the search of the proxied request that began it is over; it was derived, or it is the first
  -- SipSession of the request
  Exhausted : Bool → Happening

-- ## What it means

-- what it can mean to the state
pub data Meaning : Type 0 where
  -- nothing
  Nothing : Meaning
  -- a provisional response with a To tag makes an early dialog
  Rings : Meaning
  -- a 2xx to INVITE makes the dialog
  Accepts : Meaning
  -- a 2xx to SUBSCRIBE makes the dialog
  Subscribes : Meaning
  -- the INVITE of a UAC failed, which can try again
  Fails : Meaning
  -- an INVITE that was received or proxied failed
  Rejects : Meaning
  -- a SUBSCRIBE failed
  Denies : Meaning
  -- another request that began a SipSession has its final response
  Finishes : Meaning
  -- a BYE has its final response
  HangsUp : Meaning
  -- a NOTIFY that ends the subscription has its final response
  Unsubscribes : Meaning
  -- the call was taken elsewhere
  Overtakes : Meaning
  -- what it was derived of failed
  Undoes : Meaning
  -- nothing more can come to it
  Exhausts : Bool → Meaning

-- a response to the INVITE that began the SipSession
unfoldable pub to_invite : Role → Bool → ℕ → Meaning
to_invite role tagged code =
    if is_failure code then (if is_uac role then Fails else Rejects)
    else
    (if is_success code then Accepts else (if tagged && is_ringing code then Rings else Nothing))

-- a response to the SUBSCRIBE that began it
unfoldable pub to_subscribe : ℕ → Meaning
to_subscribe code =
    if is_failure code then Denies else (if is_success code then Subscribes else Nothing)

-- a response to the request that began it
unfoldable pub to_initial : Role → Bytes → Bool → ℕ → Meaning
to_initial role method tagged code =
    if same_bytes method invite then to_invite role tagged code
    else
    (if same_bytes method subscribe then to_subscribe code
    else (if is_final code then Finishes else Nothing))

-- a response to a later request
unfoldable pub to_later : Bytes → Bool → ℕ → Meaning
to_later method ends code =
    if not (is_final code) then Nothing
    else (if same_bytes method bye then HangsUp else (if ends then Unsubscribes else Nothing))

-- each of what can happen
unfoldable pub meaning : Happening → Meaning
meaning (Response role asked tagged code) =
    if asked.initial then to_initial role asked.method tagged code
    else to_later asked.method asked.ends code
meaning Overtaken = Overtakes
meaning Undone = Undoes
meaning (Exhausted derived) = Exhausts derived

-- ## The searches

-- some item of the list, newest first, passes the test with those before it
unfoldable pub some_item : (Meaning → List Meaning → Bool) → List Meaning → Bool
some_item test [] = false
some_item test (m ∷ earlier) = test m earlier || some_item test earlier

-- it makes an early dialog
unfoldable pub is_ring : Meaning → Bool
is_ring Rings = true
is_ring m = false

-- it makes an early dialog, or undoes one that a UAC has
unfoldable pub is_turn : Meaning → Bool
is_turn Rings = true
is_turn Fails = true
is_turn m = false

-- the last of those made one
unfoldable pub has_rung : List Meaning → Bool
has_rung items = option_map_or is_ring (find is_turn items) false

-- it makes the dialog; the 2xx to a SUBSCRIBE makes none where an INVITE has rung
unfoldable pub confirms : Meaning → List Meaning → Bool
confirms Accepts earlier = true
confirms Subscribes earlier = not (has_rung earlier)
confirms m earlier = false

-- the dialog was made
unfoldable pub is_made : List Meaning → Bool
is_made items = some_item confirms items

-- it ends the SipSession, after what happened earlier: the failure of what began it, as long as
-- that hasn't made the dialog; the final response to a BYE in a dialog, early or not; that to the
-- NOTIFY that ends the subscription, in a dialog; the 2xx to the INVITE in another SipSession,
-- while this one has an early dialog; the end of a proxy's search, while it has an early dialog or
-- was derived and has none; and, whatever happened earlier, a final response to another request
-- that began it, and the failure of what it was derived of
unfoldable pub is_end : Meaning → List Meaning → Bool
is_end Rejects earlier = not (is_made earlier)
is_end Denies earlier = not (is_made earlier) && not (has_rung earlier)
is_end Finishes earlier = true
is_end HangsUp earlier = is_made earlier || has_rung earlier
is_end Unsubscribes earlier = is_made earlier
is_end Overtakes earlier = not (is_made earlier) && has_rung earlier
is_end Undoes earlier = true
is_end (Exhausts derived) earlier = not (is_made earlier) && (has_rung earlier || derived)
is_end m earlier = false

-- ## The state

-- TERMINATED where an item ends it, else CONFIRMED where one makes the dialog, else EARLY where it
-- has rung, else INITIAL
unfoldable pub state_by : List Meaning → State
state_by items =
    if some_item is_end items then Terminated
    else (if is_made items then Confirmed else (if has_rung items then Early else Initial))

-- the state of a SipSession in which this happened
unfoldable pub state_of : List Happening → State
state_of happenings = state_by (map meaning happenings)
