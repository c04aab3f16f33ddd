-- The law: at the end of its way the INVITE has the Record-Route of the proxies that record-routed it.
use Rattle.std.proofs.Common.{◌≡◌, ℕ, ◌++◌, Bool, true, false, Option, None, Some, List, [], ◌∷◌, refl, sym, ap, subst, append_assoc, append-nil, ◌∙◌, arith}
use Rattle.std.specs.Prelude.{◌==◌, ◌&&◌, cond, drop, filter, map, reverse, slice_get}
use Rattle.std.specs.Option.{option_map_or}
use Rattle.std.proofs.lemmas.Bool.Decides.{nat_tests}
use Rattle.std.proofs.lemmas.List.{map-append, reverse-append}
use Rattle.sc_value.specs.declared.ids.AppId.{AppId}
use Rattle.sc_value.specs.declared.message.Head.{Head}
use Rattle.sc_value.specs.declared.parts.Address.{Address}
use Rattle.sc_terms.specs.declared.settings.Config.{Config}
use Rattle.sc_parts.specs.declared.setup.Setup.{Setup}
use Rattle.sc_state.specs.declared.host.Server.{Server}
use Rattle.sc_hosts.specs.Messages.{own_address}
use Rattle.sc_hosts.specs.Transacting.{is_same_app}
use Rattle.sc_lasting.specs.Lasting.{All}
use Rattle.sc_lasting.proofs.Shared.{all-front}
use Rattle.sc_paths.specs.Moments.{Moment, same_vias}
use Rattle.sc_paths.specs.Pieces.{Dialog, Piece, begins, first_received, goes_from, heads_at_end, is_outside, is_sent_by, left_from, server_of_piece as received, record_routed, record_route_at_end as recorded, recorders, sessions_of, vias_at}
use Rattle.sc_recorded.specs.Recorded.{IsRecorded, records, route_behind as routed}
use Rattle.sc_recorded.proofs.Chain.{IsOfRun, left-routed, next-routed, sent}

-- ## The list behind several sessions

-- a Record-Route list behind these sessions, which the INVITE passed in this order
unfoldable behind : Config → ℕ → List Moment → List AppId → List Address → List Address
behind config epoch run [] routes = routes
behind config epoch run (app ∷ apps) routes = behind config epoch run apps (routed config epoch app (records run app) routes)

behind-is : (config : Config) (epoch : ℕ) (run : List Moment) (apps : List AppId) (routes : List Address)
    → behind config epoch run apps routes ≡ map (own_address config epoch) (reverse (filter (λ app. records run app) apps)) ++ routes
unfolding behind routed
behind-is config epoch run [] routes = refl
behind-is config epoch run (app ∷ apps) routes =
    by (records run app) (behind-is config epoch run apps)
  where
    kept : List AppId
    kept = filter (λ app. records run app) apps

    more : map (own_address config epoch) (reverse (app ∷ kept)) ++ routes ≡ map (own_address config epoch) (reverse kept) ++ (own_address config epoch app ∷ routes)
    more =
        ap (λ (l : List AppId). map (own_address config epoch) l ++ routes) (reverse-append (app ∷ []) kept) ∙ ap (λ (l : List Address). l ++ routes) (map-append (own_address config epoch) (reverse kept) (app ∷ []))
        ∙ append_assoc (map (own_address config epoch) (reverse kept)) (own_address config epoch app ∷ []) routes

    by : (b : Bool) → ((rs : List Address) → behind config epoch run apps rs ≡ map (own_address config epoch) (reverse kept) ++ rs)
        → behind config epoch run apps (cond b (own_address config epoch app ∷ routes) routes) ≡ map (own_address config epoch) (reverse (cond b (app ∷ kept) kept)) ++ routes
    by true ih = ih (own_address config epoch app ∷ routes) ∙ sym more
    by false ih = ih routes

-- ## Options, tests and lists

both : (a b : Bool) → (a && b) ≡ true → (a ≡ true) × (b ≡ true)
both true b is = (refl, is)
both false b is = cc

some-is : {A : Type 0} (x y : A) → Some x ≡ Some y → x ≡ y
some-is x y is = cc

passed : (test : Server → Bool) (found : Option Server) → option_map_or test found false ≡ true → (server : Server) × (found ≡ Some server) × (test server ≡ true)
passed test None is = cc
passed test (Some server) is = (server, refl, is)

itself : (app : AppId) → is_same_app app app ≡ true
itself app = by app.host app.serial
  where
    by : (h s : ℕ) → (h == h && s == s) ≡ true
    by h s = grind (arith, nat_tests)

first-of : {A : Type 0} (l : List A) (y x z : A) → slice_get (l ++ y ∷ [] ++ x ∷ []) 0 ≡ Some z → slice_get (l ++ y ∷ []) 0 ≡ Some z
first-of [] y x z is = is
first-of (w ∷ l) y x z is = is

-- the last of a list is that of what is behind its first
last-step : {A : Type 0} (ws : List A) (x y z : A) → slice_get (reverse (x ∷ y ∷ ws)) 0 ≡ Some z → slice_get (reverse (y ∷ ws)) 0 ≡ Some z
last-step ws x y z is =
    let behind-first : reverse (y ∷ ws) ≡ reverse ws ++ y ∷ [] = reverse-append (y ∷ []) ws in
    let whole : reverse (x ∷ y ∷ ws) ≡ reverse (y ∷ ws) ++ x ∷ [] = reverse-append (x ∷ []) (y ∷ ws) in
    subst (λ l. slice_get l 0 ≡ Some z) (sym behind-first)
    (first-of (reverse ws) y x z (subst (λ l. slice_get l 0 ≡ Some z) (whole ∙ ap (λ l. l ++ x ∷ []) behind-first) is))

kept-by : {A : Type 0} (P : A → Type 0) (test : A → Bool) (x : A) (rest : List A) (b : Bool) → test x ≡ b → (test x ≡ true → P x) → All P rest → All P (cond b (x ∷ rest) rest)
unfolding All
kept-by P test x rest true is one all = (one is, all)
kept-by P test x rest false is one all = all

filtered : {A : Type 0} (P : A → Type 0) (test : A → Bool) (xs : List A) → All (λ x. test x ≡ true → P x) xs → All P (filter test xs)
unfolding All
filtered P test [] all = tt
filtered P test (x ∷ xs) all = kept-by P test x (filter test xs) (test x) refl all.0 (filtered P test xs all.1)

module _ (setup : Setup) (epoch : ℕ) (run : List Moment) (piece : Piece) where
  abbrev Sent : AppId → List Address
  Sent app = sent setup epoch run piece app

  abbrev Of : AppId → Type 0
  Of app = IsOfRun setup epoch run piece app

  abbrev Goes : List AppId → Type 0
  Goes apps = goes_from setup.config epoch run piece apps ≡ true

  abbrev Behind : List AppId → List Address → List Address
  Behind apps routes = behind setup.config epoch run apps routes

  sent-is : (app : AppId) (server : Server) → received run piece app ≡ Some server → Sent app ≡ routed setup.config epoch app (records run app) server.request.head.record_route
  unfolding sent
  sent-is app server is = rw is refl

  -- one session further
  next-sent : (x y : AppId) → Of x → option_map_or (is_sent_by setup.config epoch run piece x) (received run piece y) false ≡ true → Sent y ≡ routed setup.config epoch y (records run y) (Sent x)
  next-sent x y of is =
      let server = passed (is_sent_by setup.config epoch run piece x) (received run piece y) is in
      sent-is y server.0 server.1 ∙ ap (λ (routes : List Address). routed setup.config epoch y (records run y) routes) (next-routed setup epoch run piece x of y server.0 server.1 server.2)

  last-sent : (ws : List AppId) (x : AppId) (out : List Address) (z : AppId) → All Of (x ∷ ws) → Goes (x ∷ ws) → Sent x ≡ out → slice_get (reverse (x ∷ ws)) 0 ≡ Some z
      → (Sent z ≡ Behind ws out) × Of z
  unfolding goes_from All behind
  last-sent [] x out z of goes is at = let same : x ≡ z = some-is x z at in (subst (λ (a : AppId). Sent a ≡ out) same is, subst Of same of.0)
  last-sent (y ∷ ws) x out z of goes is at =
      let parts = both _ _ goes in
      last-sent ws y (routed setup.config epoch y (records run y) out) z of.1 parts.1
      (next-sent x y of.0 parts.0 ∙ ap (λ (routes : List Address). routed setup.config epoch y (records run y) routes) is) (last-step ws x y z at)

  came-with : (ws : List AppId) (x c : AppId) (out : List Address) (server : Server) → All Of (x ∷ ws) → Goes (x ∷ (ws ++ c ∷ [])) → Sent x ≡ out → received run piece c ≡ Some server
      → server.request.head.record_route ≡ Behind ws out
  unfolding goes_from All behind
  came-with [] x c out server of goes is came =
      let parts = both _ _ goes in
      let test : is_sent_by setup.config epoch run piece x server ≡ true = subst (λ (found : Option Server). option_map_or (is_sent_by setup.config epoch run piece x) found false ≡ true) came parts.0 in
      next-routed setup epoch run piece x of.0 c server came test ∙ is
  came-with (y ∷ ws) x c out server of goes is came =
      let parts = both _ _ goes in
      came-with ws y c (routed setup.config epoch y (records run y) out) server of.1 parts.1
      (next-sent x y of.0 parts.0 ∙ ap (λ (routes : List Address). routed setup.config epoch y (records run y) routes) is) came

  -- ## Who has a server transaction

  -- it has the one by which it got the INVITE
  abbrev pub HasServer : AppId → Type 0
  HasServer app = (server : Server) × (received run piece app ≡ Some server)

  pub behind-have : (ws : List AppId) (x : AppId) → Goes (x ∷ ws) → All HasServer ws
  unfolding goes_from All
  behind-have [] x goes = tt
  behind-have (y ∷ ws) x goes =
      let parts = both _ _ goes in
      let server = passed (is_sent_by setup.config epoch run piece x) (received run piece y) parts.0 in
      ((server.0, server.1), behind-have ws y parts.1)

-- ## The shapes of a way

module _ (setup : Setup) (epoch : ℕ) (run : List Moment) (dialog : Dialog) where
  abbrev way : Option AppId → List AppId → Option AppId → Piece
  way caller proxies callee = record { caller = caller; proxies = proxies; callee = callee }

  abbrev Begins : Piece → Type 0
  Begins piece = begins run piece ≡ true

  abbrev Passed : Piece → Type 0
  Passed piece = goes_from setup.config epoch run piece (sessions_of piece) ≡ true

  abbrev Told : Piece → Type 0
  Told piece = All (IsOfRun setup epoch run piece) (sessions_of piece)

  abbrev Routes : Piece → List Address
  Routes piece = record_routed setup.config epoch run piece

  none-received : (x : AppId) (proxies : List AppId) (callee : Option AppId) → received run (way (Some x) proxies callee) x ≡ None
  unfolding received
  none-received x proxies callee = rw (itself x) refl

  -- what a session that sent the INVITE first gave to send has none
  sent-first : (x : AppId) (proxies : List AppId) (callee : Option AppId) → sent setup epoch run (way (Some x) proxies callee) x ≡ []
  unfolding sent
  sent-first x proxies callee = rw (none-received x proxies callee) refl

  routes-first : (x : AppId) (proxies : List AppId) (callee : Option AppId) → Routes (way (Some x) proxies callee) ≡ behind setup.config epoch run proxies []
  unfolding record_routed recorded recorders first_received sessions_of
  routes-first x proxies callee = rw (none-received x proxies callee) (sym (behind-is setup.config epoch run proxies []))

  -- where it came from outside, by the server transaction of the first proxy
  outside-first : (y : AppId) (proxies : List AppId) (callee : Option AppId) → Begins (way None (y ∷ proxies) callee)
      → (server : Server) × (received run (way None (y ∷ proxies) callee) y ≡ Some server)
  unfolding begins first_received sessions_of
  outside-first y proxies callee begins = by (received run (way None (y ∷ proxies) callee) y) refl begins
    where
      by : (found : Option Server) → received run (way None (y ∷ proxies) callee) y ≡ found → option_map_or (λ (server : Server). is_outside server.peer) found false ≡ true
          → (server : Server) × (received run (way None (y ∷ proxies) callee) y ≡ Some server)
      by None is begins = cc
      by (Some server) is begins = (server, is)

  routes-outside : (y : AppId) (proxies : List AppId) (callee : Option AppId) (server : Server) → received run (way None (y ∷ proxies) callee) y ≡ Some server
      → Routes (way None (y ∷ proxies) callee) ≡ behind setup.config epoch run (y ∷ proxies) server.request.head.record_route
  unfolding record_routed recorded recorders first_received sessions_of
  routes-outside y proxies callee server is = rw is (sym (behind-is setup.config epoch run (y ∷ proxies) server.request.head.record_route))

  -- ## It leaves

  leaves-by : (piece : Piece) (found : Option AppId) → ((z : AppId) → found ≡ Some z → (sent setup epoch run piece z ≡ Routes piece) × IsOfRun setup epoch run piece z)
      → All (λ (head : Head). head.record_route ≡ Routes piece)
      (option_map_or (λ app. filter (λ head. same_vias (vias_at run piece app) (drop 1 head.via)) (left_from run dialog app)) found [])
  unfolding All
  leaves-by piece None each = tt
  leaves-by piece (Some z) each =
      let at = each z refl in
      filtered (λ (head : Head). head.record_route ≡ Routes piece) (λ (head : Head). same_vias (vias_at run piece z) (drop 1 head.via)) (left_from run dialog z)
      (subst (λ (routes : List Address). All (λ (head : Head). same_vias (vias_at run piece z) (drop 1 head.via) ≡ true → head.record_route ≡ routes) (left_from run dialog z)) at.0 (left-routed setup epoch run piece z at.1 dialog))

  last-of-way : (caller : Option AppId) (proxies : List AppId) → Begins (way caller proxies None) → Passed (way caller proxies None) → Told (way caller proxies None) → (z : AppId)
      → slice_get (reverse (sessions_of (way caller proxies None))) 0 ≡ Some z
      → (sent setup epoch run (way caller proxies None) z ≡ Routes (way caller proxies None)) × IsOfRun setup epoch run (way caller proxies None) z
  unfolding sessions_of behind
  last-of-way (Some x) proxies begins goes told z at =
      let whole = append-nil proxies in
      let last = last-sent setup epoch run (way (Some x) proxies None) proxies x [] z (subst (λ (ps : List AppId). All (IsOfRun setup epoch run (way (Some x) proxies None)) (x ∷ ps)) whole told)
      (subst (λ (ps : List AppId). goes_from setup.config epoch run (way (Some x) proxies None) (x ∷ ps) ≡ true) whole goes) (sent-first x proxies None)
      (subst (λ (ps : List AppId). slice_get (reverse (x ∷ ps)) 0 ≡ Some z) whole at) in
      (last.0 ∙ sym (routes-first x proxies None), last.1)
  last-of-way None [] begins goes told z at = cc
  last-of-way None (y ∷ proxies) begins goes told z at =
      let whole = append-nil proxies in
      let server = outside-first y proxies None begins in
      let last = last-sent setup epoch run (way None (y ∷ proxies) None) proxies y (routed setup.config epoch y (records run y) server.0.request.head.record_route) z
      (subst (λ (ps : List AppId). All (IsOfRun setup epoch run (way None (y ∷ proxies) None)) (y ∷ ps)) whole told)
      (subst (λ (ps : List AppId). goes_from setup.config epoch run (way None (y ∷ proxies) None) (y ∷ ps) ≡ true) whole goes) (sent-is setup epoch run (way None (y ∷ proxies) None) y server.0 server.1)
      (subst (λ (ps : List AppId). slice_get (reverse (y ∷ ps)) 0 ≡ Some z) whole at) in
      (last.0 ∙ sym (routes-outside y proxies None server.0 server.1), last.1)

  leaves : (caller : Option AppId) (proxies : List AppId) (callee : Option AppId) → callee ≡ None → Begins (way caller proxies callee) → Passed (way caller proxies callee) → Told (way caller proxies callee)
      → All (λ (head : Head). head.record_route ≡ Routes (way caller proxies callee)) (heads_at_end setup run dialog (way caller proxies callee))
  unfolding heads_at_end
  leaves caller proxies None none begins goes told =
      leaves-by (way caller proxies None) (slice_get (reverse (sessions_of (way caller proxies None))) 0) (λ z at. last-of-way caller proxies begins goes told z at)
  leaves caller proxies (Some c) none begins goes told = cc

  -- ## It comes to a session

  came-alone : (c : AppId) (server : Server) → received run (way None [] (Some c)) c ≡ Some server → server.request.head.record_route ≡ Routes (way None [] (Some c))
  unfolding record_routed recorded recorders first_received sessions_of
  came-alone c server came = rw came refl

  comes : (caller : Option AppId) (proxies : List AppId) (c : AppId) (server : Server) → Begins (way caller proxies (Some c)) → Passed (way caller proxies (Some c)) → Told (way caller proxies (Some c))
      → received run (way caller proxies (Some c)) c ≡ Some server → server.request.head.record_route ≡ Routes (way caller proxies (Some c))
  unfolding sessions_of behind
  comes (Some x) proxies c server begins goes told came =
      came-with setup epoch run (way (Some x) proxies (Some c)) proxies x c [] server (all-front (IsOfRun setup epoch run (way (Some x) proxies (Some c))) (x ∷ proxies) (c ∷ []) told) goes
      (sent-first x proxies (Some c)) came ∙ sym (routes-first x proxies (Some c))
  comes None [] c server begins goes told came = came-alone c server came
  comes None (y ∷ proxies) c server begins goes told came =
      let first = outside-first y proxies (Some c) begins in
      came-with setup epoch run (way None (y ∷ proxies) (Some c)) proxies y c (routed setup.config epoch y (records run y) first.0.request.head.record_route) server
      (all-front (IsOfRun setup epoch run (way None (y ∷ proxies) (Some c))) (y ∷ proxies) (c ∷ []) told) goes (sent-is setup epoch run (way None (y ∷ proxies) (Some c)) y first.0 first.1) came
      ∙ sym (routes-outside y proxies (Some c) first.0 first.1)

  comes-with : (caller : Option AppId) (proxies : List AppId) (callee : Option AppId) (c : AppId) (server : Server) → callee ≡ Some c → Begins (way caller proxies callee)
      → Passed (way caller proxies callee) → Told (way caller proxies callee) → received run (way caller proxies callee) c ≡ Some server
      → server.request.head.record_route ≡ Routes (way caller proxies callee)
  comes-with caller proxies None c server is begins goes told came = cc
  comes-with caller proxies (Some other) c server is begins goes told came =
      comes caller proxies other server begins goes told (subst (λ (app : AppId). received run (way caller proxies (Some other)) app ≡ Some server) (sym (some-is other c is)) came)

  pub recorded-way : (piece : Piece) → Begins piece → Passed piece → Told piece → IsRecorded setup epoch run dialog piece
  recorded-way piece begins goes told = record {
    leaves = λ none. leaves piece.caller piece.proxies piece.callee none begins goes told;
    comes = λ app server is came. comes-with piece.caller piece.proxies piece.callee app server is begins goes told came;
  }
