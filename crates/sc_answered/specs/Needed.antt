-- What a state needs of what happened in its SipSession (RFC 3261 sections 12 and 15, RFC 6665
-- section 4.4.1).
use Rattle.std.specs.Prelude.{Bool, false, true, not, ◌&&◌, ◌||◌, if◌then◌else◌}
use Rattle.sc_tokens.specs.Names.{same_bytes}
use Rattle.sc_model.specs.Dialogs.{subscribe}
use Rattle.sc_model.specs.SessionStates.{invite, bye, is_final}
use Rattle.sc_model.specs.Transactions.{is_success, is_failure}
use Rattle.sc_hosts.specs.Looking.{is_uac}
use Rattle.sc_hosts.specs.States.{is_ringing}
use Rattle.sc_answered.specs.StateOf.{Happening, Response, Overtaken, Undone, Exhausted}

-- a provisional response with a To tag to the INVITE that began the SipSession
unfoldable pub makes_early : Happening → Bool
makes_early (Response role asked tagged code) =
    asked.initial && same_bytes asked.method invite && tagged && is_ringing code
makes_early happening = false

-- a 2xx to the INVITE that began it
unfoldable pub takes_call : Happening → Bool
takes_call (Response role asked tagged code) =
    asked.initial && same_bytes asked.method invite && is_success code
takes_call happening = false

-- a 2xx to the INVITE or the SUBSCRIBE that began it
unfoldable pub makes_dialog : Happening → Bool
makes_dialog (Response role asked tagged code) =
    asked.initial && (same_bytes asked.method invite || same_bytes asked.method subscribe)
    && is_success code
makes_dialog happening = false

-- a final response to a BYE
unfoldable pub hangs_up : Happening → Bool
hangs_up (Response role asked tagged code) =
    not asked.initial && same_bytes asked.method bye && is_final code
hangs_up happening = false

-- what can end it: a failure of the INVITE that began it, but for a UAC's; a failure of a SUBSCRIBE
-- that did; any final response to another request that did; a final response to a BYE or to the
-- NOTIFY that ends the subscription; and each of what comes of other SipSessions
unfoldable pub can_end : Happening → Bool
can_end (Response role asked tagged code) =
    if asked.initial
    then (if same_bytes asked.method invite then is_failure code && not (is_uac role)
    else (if same_bytes asked.method subscribe then is_failure code else is_final code))
    else is_final code && (same_bytes asked.method bye || asked.ends)
can_end Overtaken = true
can_end Undone = true
can_end (Exhausted derived) = true
