-- The names that the container draws: tags, branches, Call-IDs and own URIs (RFC 3261 sections
-- 8.1.1.4, 8.1.1.7, 16.6 and 19.3). Numbers in them are decimals without leading zero.
use Rattle.std.specs.Prelude.{ℕ, ◌<◌, ◌^◌, [], ◌∷◌, ◌++◌, ◌==◌, if◌then◌else◌, None, Some, codes, decimal}
use Rattle.sc_value.specs.declared.ids.AppId.{AppId}
use Rattle.sc_value.specs.declared.ids.Region.{Region}
use Rattle.sc_value.specs.declared.ids.Region.TheVariants.{Originating, Terminating, Neutral}
use Rattle.sc_value.specs.declared.parts.Param.{Param}
use Rattle.sc_value.specs.declared.parts.SipUri.{SipUri}
use Rattle.sc_tokens.specs.Bytes.{Bytes}

-- the numbers that a name is made of have 64 bits at most
abbrev pub IsOf64 : ℕ → AppId → ℕ → Type 0
IsOf64 epoch app k = (epoch < 2 ^ 64) × (app.host < 2 ^ 64) × (app.serial < 2 ^ 64) × (k < 2 ^ 64)

-- the mark of an epoch's names: the salt, from epoch 1 on with `.` and the epoch
unfoldable pub mark_text : Bytes → ℕ → Bytes
mark_text salt epoch = if epoch == 0 then salt else (salt ++ codes "." ++ decimal epoch)

-- `h-s-k`
unfoldable pub counted_text : AppId → ℕ → Bytes
counted_text app k = decimal app.host ++ codes "-" ++ decimal app.serial ++ codes "-" ++ decimal k

-- a tag: the mark and `-h-s-k` (RFC 3261 section 19.3)
unfoldable pub tag_text : Bytes → ℕ → AppId → ℕ → Bytes
tag_text salt epoch app k = mark_text salt epoch ++ codes "-" ++ counted_text app k

-- ## Transactions and dialogs

-- with this a branch begins that is unlike all others (RFC 3261 section 8.1.1.7)
unfoldable pub branch_cookie : Bytes
branch_cookie = codes "z9hG4bK"

-- the branch of a transaction: the cookie, the mark and `-h-s-k` (RFC 3261 section 8.1.1.7)
unfoldable pub branch_text : Bytes → ℕ → AppId → ℕ → Bytes
branch_text salt epoch app k = branch_cookie ++ tag_text salt epoch app k

-- a Call-ID: the mark and `-h-s-k`, and after `@` the host that the container listens on (RFC 3261
-- section 8.1.1.4)
unfoldable pub call_id_text : Bytes → ℕ → Bytes → AppId → ℕ → Bytes
call_id_text salt epoch host app k = tag_text salt epoch app k ++ codes "@" ++ host

-- the end of the edge tag; no name of a session has it, as a number follows the salt there
unfoldable pub edge_word : Bytes
edge_word = codes "-edge"

-- the tag of an answer that no session gives (RFC 3261 section 8.2.6.2)
unfoldable pub edge_tag : Bytes → Bytes
edge_tag salt = salt ++ edge_word

-- ## Routes and contacts: own URIs that say in a parameter what they lead to

-- `h-s`
unfoldable pub app_text : AppId → Bytes
app_text app = decimal app.host ++ codes "-" ++ decimal app.serial

-- the value of `ap`: the session, from epoch 1 on with `.` and the epoch
unfoldable pub ap_value : ℕ → AppId → Bytes
ap_value epoch app =
    if epoch == 0 then app_text app else (app_text app ++ codes "." ++ decimal epoch)

-- the letter of a routing region (JSR 289 section 15.8)
abbrev pub region_letter : Region → ℕ
region_letter Originating = 79
region_letter Terminating = 84
region_letter Neutral = 78

-- the value of `ar`: the place in the router's list at which a request goes on, and the region
unfoldable pub ar_value : ℕ → Region → Bytes
ar_value n region = decimal n ++ codes "-" ++ region_letter region ∷ []

-- over TCP, and as a loose route (RFC 3261 sections 19.1.1 and 16.4)
unfoldable pub tcp_param : Param
tcp_param = record { name = codes "transport"; value = Some (codes "tcp") }

-- the parameter of a loose route
unfoldable pub loose_param : Param
loose_param = record { name = codes "lr"; value = None }

-- `sip:host:port;transport=tcp;lr;name=value`
unfoldable pub own_uri : Bytes → ℕ → Bytes → Bytes → SipUri
own_uri host port name value =
    record {
      user = None;
      host = host;
      port = Some port;
      params = tcp_param ∷ loose_param ∷ record { name = name; value = Some value } ∷ [];
      headers = None;
    }

-- the parameter of an own URI that leads to an application session
unfoldable pub ap_name : Bytes
ap_name = codes "ap"

-- the parameter of an own URI that leads back to the application router
unfoldable pub ar_name : Bytes
ar_name = codes "ar"

-- the Record-Route and Contact of a session
unfoldable pub session_uri : Bytes → ℕ → ℕ → AppId → SipUri
session_uri host port epoch app = own_uri host port ap_name (ap_value epoch app)

-- the Route by which a request comes back to the router
unfoldable pub return_uri : Bytes → ℕ → ℕ → Region → SipUri
return_uri host port n region = own_uri host port ar_name (ar_value n region)
