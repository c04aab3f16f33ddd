-- What is asked of a run so that the later requests of a dialog keep to the way of its INVITE (RFC
-- 3261 sections 12.2.1.1 and 16.12).
use Rattle.std.specs.Prelude.{◌≡◌, ◌⊎◌, ◌≤◌, ◌<◌, ◌^◌, ℕ, List, [], ◌∷◌, true, false, None, Some, is_some, length}
use Rattle.sc_value.specs.declared.ids.AppId.{AppId}
use Rattle.sc_value.specs.declared.ids.Place.{Place}
use Rattle.sc_value.specs.declared.ids.SessId.{SessId}
use Rattle.sc_value.specs.declared.message.Request.{Request}
use Rattle.sc_terms.specs.declared.calls.ProxyOptions.{ProxyOptions}
use Rattle.sc_terms.specs.declared.views.SessionView.{SessionView}
use Rattle.sc_tokens.specs.Names.{same_bytes}
use Rattle.sc_parts.specs.declared.setup.Setup.{Setup}
use Rattle.sc_state.specs.declared.host.Live.{Live}
use Rattle.sc_state.specs.declared.net.Net.{Net}
use Rattle.sc_state.specs.declared.session.Session.{Session}
use Rattle.sc_tokens.specs.Bytes.{Bytes}
use Rattle.sc_model.specs.Names.{IsOf64}
use Rattle.sc_hosts.specs.Inboxes.{is_full}
use Rattle.sc_hosts.specs.Legs.{session_for}
use Rattle.sc_hosts.specs.Looking.{is_proxy, session_in}
use Rattle.sc_hosts.specs.Steps.{live_at}
use Rattle.sc_hosts.specs.Words.{does_not_exist, unavailable}
use Rattle.sc_lasting.specs.Lasting.{All}
use Rattle.sc_paths.specs.LaterRequests.{Occurrence, SetOut, visits}
use Rattle.sc_paths.specs.Moments.{Moment, proxied_with}
use Rattle.sc_paths.specs.Pieces.{Dialog, Direction, Piece, ahead, end_of, list_of_option}
use Rattle.sc_stopped.specs.Stopped.{net_with_answer}
use Rattle.sc_vias.specs.Vias.{drawn_by}

-- the first list begins the second
unfoldable pub IsPrefix : List AppId → List AppId → Type 0
IsPrefix [] all = Unit {0}
IsPrefix (app ∷ apps) [] = ⊥
IsPrefix (app ∷ apps) (first ∷ all) = (app ≡ first) × IsPrefix apps all

-- the numbers in the names of application sessions have 64 bits: the epoch, the hosts, that of the
-- session which sent the INVITE of the way first, and as many as events were counted up to this net
pub record AreSmallNames (setup : Setup) (epoch : ℕ) (net : Net Session)
    (piece : Piece) : Type 0 where
  pub within : epoch < 2 ^ 64
  pub hosts : length setup.config.app ≤ 2 ^ 64
  pub events : net.count < 2 ^ 64
  pub caller : All (λ (app : AppId). IsOf64 epoch app 0) (list_of_option piece.caller)

-- at this moment no request of this Call-ID would come to the session in the SipSession of a proxy
unfoldable pub TakesNoProxy : Bytes → AppId → Moment → Type 0
TakesNoProxy call_id app moment =
    (live : Live Session) → live_at app moment.before ≡ Some live → (request : Request)
    → same_bytes request.head.call_id call_id ≡ true
    → (sess : SessId) (found : SessionView) → session_for live.session request ≡ Some sess
    → session_in live.session.view sess ≡ Some found
    → is_proxy found.role ≡ false

-- where the session that sent the INVITE of a way first also proxied the request that began it, it
-- is a proxy in no dialog of that INVITE's Call-ID: names can be guessed, so it might have begun
-- with a request whose Call-ID is one that it draws later
abbrev pub IsApart : List Moment → Dialog → Piece → Type 0
IsApart run dialog piece =
    (app : AppId) → piece.caller ≡ Some app → is_some (proxied_with run app) ≡ true
    → All (TakesNoProxy dialog.call_id app) run

-- the number that the session of each turn drew last, by the end of it, has 64 bits, so that each
-- branch is another text
abbrev pub AreSmallDraws : Setup → List Moment → Type 0
AreSmallDraws setup run =
    All (λ (moment : Moment). drawn_by setup moment.before moment.step < 2 ^ 64) run

-- ## Who stays on the way

-- the session is one of these
unfoldable pub IsAmong : AppId → List AppId → Type 0
IsAmong app [] = ⊥
IsAmong app (other ∷ apps) = (app ≡ other) ⊎ IsAmong app apps

-- it is a proxy of the way that record-routed the INVITE: the first of its calls that proxied and
-- was accepted asked for that (RFC 3261 section 16.6)
pub record HasRecorded (run : List Moment) (piece : Piece) (app : AppId) : Type 0 where
  pub among : IsAmong app piece.proxies
  pub how : ProxyOptions
  pub with : proxied_with run app ≡ Some how
  pub records : how.record_route ≡ true

-- a later request of the dialog may visit the session in this direction: it stands at the end, or
-- record-routed the INVITE
unfoldable pub Stays : List Moment → Direction → Piece → AppId → Type 0
Stays run direction piece app = (end_of direction piece ≡ Some app) ⊎ HasRecorded run piece app

-- ## The first of those ahead

-- what is visited is this session and then a beginning of these, and it alone where there are none
pub record VisitsFirst (app : AppId) (more visited : List AppId) : Type 0 where
  pub rest : List AppId
  pub is : visited ≡ app ∷ rest
  pub begins : IsPrefix rest more
  pub whole : more ≡ [] → visited ≡ app ∷ []

-- such a request can come to none of those ahead, with the code and reason of the answer: none is
-- ahead, or the first of them doesn't live, or as many events wait for it as may
unfoldable pub StopsBefore : List AppId → Net Session → ℕ → Bytes → Type 0
StopsBefore [] net code reason = (code ≡ 481) × (reason ≡ does_not_exist)
StopsBefore (app ∷ more) net code reason =
    ((live_at app net ≡ None) × (code ≡ 481) × (reason ≡ does_not_exist))
    ⊎ ((live : Live Session) × (live_at app net ≡ Some live) × (is_full live ≡ true) × (code ≡ 503)
    × (reason ≡ unavailable))

-- what becomes of such a request: it visits the first of those ahead and then a beginning of the
-- others; or it can come to none of them, and is answered at once, and nothing else happens
unfoldable pub IsFollowed : Setup → List Moment → Direction → Piece → Occurrence → Place → SetOut
    → Type 0
IsFollowed setup run direction piece occurrence place out =
    ((app : AppId) × (more : List AppId) × (ahead run direction piece ≡ app ∷ more)
    × VisitsFirst app more (visits setup run occurrence))
    ⊎ ((code : ℕ) × (reason : Bytes)
    × StopsBefore (ahead run direction piece) out.moment.before code reason
    × (out.moment.after
    ≡ net_with_answer setup.config place code reason out.request
    (record out.moment.before { sent = [] })))
