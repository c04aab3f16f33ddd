-- The branch on which a session sends a request last in its turn is new: no order of the turn before it and no transaction has it, where nobody guessed it.
use Rattle.std.proofs.Common.{◌++◌, ◌<◌, ◌^◌, ◌∙◌, ◌∷◌, ◌≡◌, ◌≤◌, Bool, List, None, Option, Some, [], ap, arith, false, inr, length, refl, subst, sym, true, ℕ}
use Rattle.std.specs.List.{find}
use Rattle.std.specs.Option.{option_map_or}
use Rattle.std.specs.Prelude.{option_map}
use Rattle.sc_value.specs.declared.ids.AppId.{AppId}
use Rattle.sc_value.specs.declared.message.Request.{Request}
use Rattle.sc_value.specs.declared.message.Response.{Response}
use Rattle.sc_value.specs.declared.parts.Via.{Via}
use Rattle.sc_tokens.specs.Names.{same_bytes}
use Rattle.sc_parts.specs.declared.setup.Setup.{Setup}
use Rattle.sc_state.specs.Hosts.{Host}
use Rattle.sc_state.specs.declared.host.Client.{Client}
use Rattle.sc_state.specs.declared.host.Live.{Live}
use Rattle.sc_state.specs.declared.host.Server.{Server}
use Rattle.sc_state.specs.declared.net.Net.{Net}
use Rattle.sc_state.specs.declared.orders.Order.{Order}
use Rattle.sc_state.specs.declared.orders.Order.TheVariants as orders
use Rattle.sc_state.specs.declared.session.Session.{Session}
use Rattle.sc_tokens.specs.Bytes.{Bytes}
use Rattle.sc_model.specs.Names.{IsOf64, branch_text}
use Rattle.sc_model.proofs.Names.{branch_same}
use Rattle.sc_hosts.specs.Histories.{as_session}
use Rattle.sc_hosts.specs.Inboxes.{is_live}
use Rattle.sc_hosts.specs.Nets.{host_at}
use Rattle.sc_hosts.specs.Steps.{live_at, live_of}
use Rattle.sc_hosts.specs.Transacting.{branch_of, is_over, state_of_client, top_via}
use Rattle.sc_hosts.proofs.Deliveries.{same_bytes-equal}
use Rattle.sc_lasting.specs.Lasting.{All}
use Rattle.sc_lasting.proofs.Parts.{all-map}
use Rattle.sc_keyed.specs.Keyed.{AreOn, IsIn, IsOn}
use Rattle.sc_keyed.proofs.ClientKeys.{IsDrawnBy}
use Rattle.sc_keyed.proofs.KeyedHosts.{counter_at, last_number}
use Rattle.sc_ways.proofs.Got.{small-place}
use Rattle.sc_ways.proofs.OwnBranches.{Is64, IsReady, all-in, in-all, branch-is}
use Rattle.sc_halted.specs.Halted.{is_under}
use Rattle.sc_halted.proofs.Apart.{Free, FreeLast, LastFree, Other, Right}
use Rattle.sc_halted.proofs.ApartNets.{FreeOrder, OtherNet}
use Rattle.sc_halted.proofs.Back.{C, fresh}

less-not : (a b : ℕ) → a < b → b ≡ a → ⊥
less-not a b less is = omega (arith, less, is)

not-above : (k m low : ℕ) → low < k → m ≤ low → k ≡ m → ⊥
not-above k m low p q r = omega (arith, p, q, r)

under : (a b : ℕ) → a < b → Is64 b → Is64 a
under a b p q = omega (arith, p, q)

up-to : (a b : ℕ) → a ≤ b → Is64 b → Is64 a
up-to a b p q = omega (arith, p, q)

under-length : (a b : ℕ) → a < b → b ≤ 2 ^ 64 → Is64 a
under-length a b p q = omega (arith, p, q)

above : (a b c : ℕ) → a < b → b < c → a < c
above a b c p q = omega (arith, p, q)

host-found : (app : AppId) (found : Option (Host Session)) (host : Host Session) (live : Live Session) → found ≡ Some host → live_of app found ≡ Some live → find (is_live app.serial) host.sessions ≡ Some live
host-found app found host live at is = ap (live_of app) (sym at) ∙ is

module _ (setup : Setup) (epoch : ℕ) (app : AppId) (branch : ℕ) (sent : Request) where
  abbrev pub Last : List Order → List Order
  Last given = given ++ orders.Send branch sent ∷ []

  pub last-above : (given : List Order) (low high : ℕ) → AreOn setup.config epoch app low (Last given) high → low < branch
  unfolding AreOn
  last-above [] low high on = on.0
  last-above (orders.Respond event response ∷ given) low high on = last-above given low high on
  last-above (orders.Begin k directive region state request ∷ given) low high on = above low k branch on.0 (last-above given k high on.2)
  last-above (orders.Send k request ∷ given) low high on = above low k branch on.0 (last-above given k high on.2)
  last-above (orders.Acknowledge request ∷ given) low high on = above low on.0 branch on.1 (last-above given on.0 high on.3)
  last-above (orders.Cancel k ∷ given) low high on = last-above given low high on
  last-above (orders.CancelNow k ∷ given) low high on = last-above given low high on

  pub last-on : (given : List Order) (low high : ℕ) → AreOn setup.config epoch app low (Last given) high → IsOn setup.config epoch app branch sent
  unfolding AreOn
  last-on [] low high on = on.1
  last-on (orders.Respond event response ∷ given) low high on = last-on given low high on
  last-on (orders.Begin k directive region state request ∷ given) low high on = last-on given k high on.2
  last-on (orders.Send k request ∷ given) low high on = last-on given k high on.2
  last-on (orders.Acknowledge request ∷ given) low high on = last-on given on.0 high on.3
  last-on (orders.Cancel k ∷ given) low high on = last-on given low high on
  last-on (orders.CancelNow k ∷ given) low high on = last-on given low high on

  pub last-small : (given : List Order) (low high : ℕ) → AreOn setup.config epoch app low (Last given) high → Is64 high → Is64 branch
  unfolding AreOn
  last-small [] low high on most = up-to branch high on.2 most
  last-small (orders.Respond event response ∷ given) low high on most = last-small given low high on most
  last-small (orders.Begin k directive region state request ∷ given) low high on most = last-small given k high on.2 most
  last-small (orders.Send k request ∷ given) low high on most = last-small given k high on.2 most
  last-small (orders.Acknowledge request ∷ given) low high on most = last-small given on.0 high on.3 most
  last-small (orders.Cancel k ∷ given) low high on most = last-small given low high on most
  last-small (orders.CancelNow k ∷ given) low high on most = last-small given low high on most

module _ (setup : Setup) (epoch : ℕ) (app : AppId) (small : IsOf64 epoch app 0) (branch now place : ℕ) (sent : Request) (less : Is64 branch) where
  abbrev Own : Client
  Own = C setup epoch app branch now place sent

  abbrev Fresh : is_over (state_of_client Own) ≡ false
  Fresh = fresh setup epoch app branch now place sent

  abbrev Salt : Bytes
  Salt = setup.config.salt

  own-small : IsOf64 epoch app branch
  own-small = (small.0, small.1, small.2, less)

  -- ## Texts of branches

  text-apart : (other : AppId) (k : ℕ) → IsOf64 epoch other k → (app ≡ other → branch ≡ k → ⊥) → same_bytes (branch_text Salt epoch app branch) (branch_text Salt epoch other k) ≡ false
  text-apart other k numbers differ = by (same_bytes (branch_text Salt epoch app branch) (branch_text Salt epoch other k)) refl
    where
      by : (b : Bool) → same_bytes (branch_text Salt epoch app branch) (branch_text Salt epoch other k) ≡ b → b ≡ false
      by true is =
          let one = branch_same Salt epoch epoch app other branch k own-small numbers (same_bytes-equal (branch_text Salt epoch app branch) (branch_text Salt epoch other k) is) in
          absurd (differ one.1 one.2)
      by false is = refl

  text-other : (other : AppId) (k : ℕ) → IsOf64 epoch other k → (app ≡ other → branch ≡ k → ⊥) → same_bytes (branch_text Salt epoch other k) (branch_text Salt epoch app branch) ≡ false
  text-other other k numbers differ = by (same_bytes (branch_text Salt epoch other k) (branch_text Salt epoch app branch)) refl
    where
      by : (b : Bool) → same_bytes (branch_text Salt epoch other k) (branch_text Salt epoch app branch) ≡ b → b ≡ false
      by true is =
          let one = branch_same Salt epoch epoch app other branch k own-small numbers (sym (same_bytes-equal (branch_text Salt epoch other k) (branch_text Salt epoch app branch) is)) in
          absurd (differ one.1 one.2)
      by false is = refl

  on-free : (other : AppId) (k : ℕ) (request : Request) → IsOn setup.config epoch other k request → IsOf64 epoch other k → (app ≡ other → branch ≡ k → ⊥) → Free Salt epoch Own request.head.via
  unfolding IsOn
  on-free other k request on numbers differ =
      ap (λ (top : Option Via). option_map_or (λ via. same_bytes (branch_of via) (branch_text Salt epoch app branch)) top false) on
      ∙ (ap (λ (text : Bytes). same_bytes text (branch_text Salt epoch app branch)) (branch-is setup.config epoch other k) ∙ text-other other k numbers differ)

  -- ## The orders before it

  -- an answer hasn't the branch
  abbrev pub AnswerFree : Order → Type 0
  AnswerFree order = (event : ℕ) (response : Response) → order ≡ orders.Respond event response → Free Salt epoch Own response.head.via

  lower : (k : ℕ) → k < branch → (app ≡ app → branch ≡ k → ⊥)
  lower k below = λ same is. less-not k branch below is

  lower-small : (k : ℕ) → k < branch → IsOf64 epoch app k
  lower-small k below = (small.0, small.1, small.2, under k branch below less)

  pub before-free : (given : List Order) (low high : ℕ) → AreOn setup.config epoch app low (Last setup epoch app branch sent given) high → All AnswerFree given → All (FreeOrder Salt epoch Own Fresh app) given
  unfolding AreOn All FreeOrder
  before-free [] low high on answers = tt
  before-free (orders.Respond event response ∷ given) low high on answers = (answers.0 event response refl, before-free given low high on answers.1)
  before-free (orders.Begin k directive region state request ∷ given) low high on answers =
      let below = last-above setup epoch app branch sent given k high on.2 in (
        (text-apart app k (lower-small k below) (lower k below), on-free app k request on.1 (lower-small k below) (lower k below)),
        before-free given k high on.2 answers.1,
      )
  before-free (orders.Send k request ∷ given) low high on answers =
      let below = last-above setup epoch app branch sent given k high on.2 in (
        (text-apart app k (lower-small k below) (lower k below), on-free app k request on.1 (lower-small k below) (lower k below)),
        before-free given k high on.2 answers.1,
      )
  before-free (orders.Acknowledge request ∷ given) low high on answers =
      let below = last-above setup epoch app branch sent given on.0 high on.3 in
      (on-free app on.0 request on.2 (lower-small on.0 below) (lower on.0 below), before-free given on.0 high on.3 answers.1)
  before-free (orders.Cancel k ∷ given) low high on answers = (tt, before-free given low high on answers.1)
  before-free (orders.CancelNow k ∷ given) low high on answers = (tt, before-free given low high on answers.1)

  -- ## Responses under it

  pub under-free : IsOn setup.config epoch app branch sent → (response : Response) → is_under sent response ≡ false → Free Salt epoch Own response.head.via
  unfolding is_under IsOn
  under-free on response is =
      ap (λ (text : Bytes). option_map_or (λ via. same_bytes (branch_of via) text) (top_via response.head.via) false) (sym (branch-is setup.config epoch app branch))
      ∙ (ap (λ (top : Option Via). option_map_or (λ via. option_map_or (λ own. same_bytes (branch_of via) (branch_of own)) top false) (top_via response.head.via) false) (sym on) ∙ is)

  last-free : IsOn setup.config epoch app branch sent → (last : Option Response) → ((response : Response) → last ≡ Some response → is_under sent response ≡ false) → FreeLast Salt epoch Own last
  unfolding FreeLast
  last-free on None each = tt
  last-free on (Some response) each = under-free on response (each response refl)

  -- ## The transactions

  module _ (net : Net Session) (ready : IsReady setup epoch net) (live : Live Session) (lives : live_at app net ≡ Some live) (drawn : live.session.view.counter < branch) where
    abbrev ClientOn : Client → Type 0
    ClientOn c = IsOn setup.config epoch c.app c.branch c.request × Is64 c.branch

    client-other : (number : ℕ) (host : Host Session) (client : Client) → host_at number net ≡ Some host → IsIn client host.clients → Other Salt epoch Own client
    unfolding IsDrawnBy as_session
    client-other number host client at within =
        let keyed = ready.keyed number host at in
        let fits = in-all ClientOn host.clients client (ready.kept.hosts number host at).1 within in
        let here : client.app.host ≡ number = keyed.clients.here client within in
        let home : Is64 client.app.host = subst Is64 (sym here) (under-length number (length net.hosts) (small-place net.hosts number host at) ready.few) in
        let serial : Is64 client.app.serial = up-to client.app.serial host.last (keyed.clients.given client within) (ready.lasts number host at) in
        let numbers : IsOf64 epoch client.app client.branch = (small.0, home, serial, fits.1) in
        let differ : app ≡ client.app → branch ≡ client.branch → ⊥ =
        λ same is.
        let there : host_at app.host net ≡ Some host = subst (λ (n : ℕ). host_at n net ≡ Some host) (sym (ap (λ (a : AppId). a.host) same ∙ here)) at in
        let found : find (is_live app.serial) host.sessions ≡ Some live = host-found app (host_at app.host net) host live there lives in
        let by : IsDrawnBy client.branch (counter_at as_session host.sessions app.serial) = subst (λ (a : AppId). IsDrawnBy client.branch (counter_at as_session host.sessions a.serial)) (sym same) (keyed.clients.drawn client within) in
        not-above branch client.branch live.session.view.counter drawn (subst (λ (f : Option (Live Session)). IsDrawnBy client.branch (option_map (last_number as_session) f)) found by) is in
        record { names = text-apart client.app client.branch numbers differ; via = on-free client.app client.branch client.request fits.0 numbers differ }

    pub net-other : IsOn setup.config epoch app branch sent
        → ((number : ℕ) (host : Host Session) → host_at number net ≡ Some host → All (λ (server : Server). (response : Response) → server.last ≡ Some response → is_under sent response ≡ false) host.servers)
        → OtherNet Salt epoch Own Fresh net
    net-other on servers =
        λ number host at. (
          all-in (Right Salt epoch Own ⊥ Fresh) host.clients (λ client within. inr (client-other number host client at within)),
          all-map (λ (server : Server). (response : Response) → server.last ≡ Some response → is_under sent response ≡ false) (LastFree Salt epoch Own) host.servers (λ server each. last-free on server.last each) (servers number host at),
          λ none. absurd none,
        )
