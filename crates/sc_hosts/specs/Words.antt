-- Methods and reason phrases (RFC 3261 sections 7.1 and 21).
use Rattle.std.specs.Prelude.{codes}
use Rattle.sc_tokens.specs.Bytes.{Bytes}

-- the method that binds an address (RFC 3261 section 10)
unfoldable pub register : Bytes
register = codes "REGISTER"

-- the method that asks for capabilities (RFC 3261 section 11)
unfoldable pub options : Bytes
options = codes "OPTIONS"

-- the method that acknowledges a provisional response (RFC 3262)
unfoldable pub prack : Bytes
prack = codes "PRACK"

-- the reason phrase of a 100 (RFC 3261 section 21.1.1)
unfoldable pub trying : Bytes
trying = codes "Trying"

-- the reason phrase of a 180 (RFC 3261 section 21.1.2)
unfoldable pub ringing : Bytes
ringing = codes "Ringing"

-- the reason phrase of a 200 (RFC 3261 section 21.2.1)
unfoldable pub ok : Bytes
ok = codes "OK"

-- the reason phrase of a 400 (RFC 3261 section 21.4.1)
unfoldable pub bad_request : Bytes
bad_request = codes "Bad Request"

-- the reason phrase of a 403 (RFC 3261 section 21.4.4)
unfoldable pub forbidden : Bytes
forbidden = codes "Forbidden"

-- the reason phrase of a 404 (RFC 3261 section 21.4.5)
unfoldable pub not_found : Bytes
not_found = codes "Not Found"

-- the reason phrase of a 408 (RFC 3261 section 21.4.9)
unfoldable pub request_timeout : Bytes
request_timeout = codes "Request Timeout"

-- the reason phrase of a 481 (RFC 3261 section 21.4.19)
unfoldable pub does_not_exist : Bytes
does_not_exist = codes "Call/Transaction Does Not Exist"

-- the reason phrase of a 483 (RFC 3261 section 21.4.21)
unfoldable pub too_many_hops : Bytes
too_many_hops = codes "Too Many Hops"

-- the reason phrase of a 487 (RFC 3261 section 21.4.25)
unfoldable pub request_terminated : Bytes
request_terminated = codes "Request Terminated"

-- the reason phrase of a 503 (RFC 3261 section 21.5.4)
unfoldable pub unavailable : Bytes
unavailable = codes "Service Unavailable"
