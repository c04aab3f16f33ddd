-- Where what happens in a SipSession comes of what happened in another one: of its link (JSR 289
-- section 12), or of its request.
use Rattle.std.specs.Prelude.{◌≡◌, List, Bool, true, false, not, ◌&&◌}
use Rattle.std.specs.List.{list_any}
use Rattle.sc_value.specs.declared.ids.SessId.{SessId}
use Rattle.sc_model.specs.Transactions.{is_failure}
use Rattle.sc_hosts.specs.Looking.{same_session}
use Rattle.sc_lasting.specs.Lasting.{All}
use Rattle.sc_answered.specs.StateOf.{Exhausted, Happening, Overtaken, Response, Undone}
use Rattle.sc_answered.specs.Happened.{Happened}
use Rattle.sc_answered.specs.Needed.{takes_call}

-- a 2xx to the INVITE that began another SipSession than this
abbrev pub takes_elsewhere : SessId → Happened → Bool
takes_elsewhere sess one = takes_call one.what && not (same_session one.sess sess)

-- a failure of the request that began a SipSession
unfoldable pub fails_first : Happening → Bool
fails_first (Response role asked tagged code) = asked.initial && is_failure code
fails_first happening = false

-- what happened in this SipSession has its cause in the list, where it comes of another SipSession:
-- the 2xx to an INVITE that overtook it, the failure of what it was derived of
unfoldable pub is_caused : List Happened → SessId → Happening → Bool
is_caused all sess (Response role asked tagged code) = true
is_caused all sess Overtaken = list_any (takes_elsewhere sess) all
is_caused all sess Undone = list_any (λ one. fails_first one.what) all
is_caused all sess (Exhausted derived) = true

-- each of these has its cause there
abbrev pub HaveCauses : List Happened → List Happened → Type 0
HaveCauses all happened = All (λ (one : Happened). is_caused all one.sess one.what ≡ true) happened
