-- The kind of requests that one application session gives to send, by the request that began it.
use Rattle.std.proofs.Common.{◌≡◌, ◌≤◌, ℕ, Bool, true, false, Option, None, Some, List, [], ◌∷◌, refl, sym, ap, subst, ◌∙◌, arith}
use Rattle.std.specs.Prelude.{cond, drop, is_some, length, option_map, slice_get, unwrap_or}
use Rattle.std.specs.Option.{option_map_or}
use Rattle.sc_value.specs.declared.ids.AppId.{AppId}
use Rattle.sc_value.specs.declared.message.Request.{Request}
use Rattle.sc_value.specs.declared.parts.Address.{Address}
use Rattle.sc_value.specs.declared.parts.Via.{Via}
use Rattle.sc_terms.specs.declared.settings.Config.{Config}
use Rattle.sc_state.specs.declared.orders.Order.{Order}
use Rattle.sc_state.specs.declared.orders.Order.TheVariants as orders
use Rattle.sc_tokens.specs.Bytes.{Bytes}
use Rattle.sc_model.specs.Dialogs.{tag_of}
use Rattle.sc_model.specs.Names.{IsOf64}
use Rattle.sc_model.specs.OwnHosts.{is_own}
use Rattle.sc_hosts.specs.Histories.{History, as_history, begun_history, turned_history}
use Rattle.sc_hosts.specs.Messages.{kin}
use Rattle.sc_hosts.specs.Taking.{without_own_route as unrouted}
use Rattle.sc_hosts.specs.Transacting.{top_via}
use Rattle.sc_lasting.specs.Lasting.{All}
use Rattle.sc_keyed.specs.Keyed.{AreOn, IsOn}
use Rattle.sc_paths.specs.Pieces.{is_branch_of}
use Rattle.sc_recorded.specs.Recorded.{route_behind as routed}
use Rattle.sc_recorded.proofs.Faithful.{AreTagged}
use Rattle.sc_recorded.proofs.Hosts.{AreKinds}
use Rattle.sc_recorded.proofs.MadeGiven.{AreMade, IsMadeOf, IsMadeOrder}
use Rattle.sc_recorded.proofs.Nets.{OrderFits}
use Rattle.sc_recorded.proofs.Texts.{branch-own}

abbrev pub TakesTagged : History → Type 0
TakesTagged history = AreTagged history.turns

abbrev pub beginning : History → Request
beginning history = history.request

module _ (config : Config) (epoch : ℕ) (app : AppId) (stays : Bool) where
  -- its top Via is one of the session's
  abbrev pub IsOwn : Request → Type 0
  IsOwn request = option_map_or (is_branch_of config epoch app) (top_via request.head.via) false ≡ true

  -- with the own Via alone it has no Record-Route, and with others below it that of the request that began the session, as it is proxied
  abbrev pub IsRouted : Option Request → Request → Type 0
  IsRouted known request =
      (length request.head.via ≡ 1 → request.head.record_route ≡ [])
      × ((began : Request) → known ≡ Some began → 2 ≤ length request.head.via → request.head.record_route ≡ routed config epoch app stays began.head.record_route)

  -- a request of the session has a Via, is sent once the session has begun, and has such a Record-Route where it has no To tag
  abbrev pub IsSound : Option Request → Request → Type 0
  IsSound known request =
      (1 ≤ length request.head.via) × (IsOwn request → is_some known ≡ true) × (IsOwn request → is_some (tag_of request.head.to) ≡ false → IsRouted known request)

  some-none : (known : Option Request) → known ≡ None → is_some known ≡ true → ⊥
  some-none None none is = cc
  some-none (Some began) none is = cc

  more-sound : (began request : Request) → IsSound None request → IsSound (Some began) request
  more-sound began request sound = (sound.0, (λ own. refl), (λ own untagged. absurd (some-none None refl (sound.1 own))))

  -- ## CANCEL and ACK

  kin-one : (vias : List Via) → 1 ≤ length vias → length (unwrap_or (option_map (λ via. via ∷ []) (slice_get vias 0)) []) ≡ 1
  kin-one [] some = absurd (none some)
    where
      none : 1 ≤ 0 → ⊥
      none most = omega (arith, most)
  kin-one (via ∷ vias) some = refl

  kin-top : (vias : List Via) → top_via (unwrap_or (option_map (λ via. via ∷ []) (slice_get vias 0)) []) ≡ top_via vias
  kin-top [] = refl
  kin-top (via ∷ vias) = refl

  from-one : (n : ℕ) → n ≡ 1 → 1 ≤ n
  from-one n is = omega (arith, is)

  not-two : (n : ℕ) → n ≡ 1 → 2 ≤ n → ⊥
  not-two n is most = omega (arith, is, most)

  kin-own : (method : Bytes) (to : Address) (request : Request) → IsOwn (kin method to request) → IsOwn request
  unfolding kin
  kin-own method to request own = subst (λ (top : Option Via). option_map_or (is_branch_of config epoch app) top false ≡ true) (kin-top request.head.via) own

  kin-vias : (method : Bytes) (to : Address) (request : Request) → 1 ≤ length request.head.via → length (kin method to request).head.via ≡ 1
  unfolding kin
  kin-vias method to request some = kin-one request.head.via some

  kin-routes : (method : Bytes) (to : Address) (request : Request) → (kin method to request).head.record_route ≡ []
  unfolding kin
  kin-routes method to request = refl

  kin-sound : (known : Option Request) (method : Bytes) (to : Address) (request : Request) → IsSound known request → IsSound known (kin method to request)
  kin-sound known method to request sound =
      let one = kin-vias method to request sound.0 in (
        from-one _ one,
        (λ own. sound.1 (kin-own method to request own)),
        (λ own untagged. ((λ is. kin-routes method to request), (λ began is most. absurd (not-two _ one most)))),
      )

  -- ## Routes

  if-sound : (known : Option Request) (b : Bool) (x y : Request) → IsSound known x → IsSound known y → IsSound known (cond b x y)
  if-sound known true x y p q = p
  if-sound known false x y p q = q

  popped-sound : (known : Option Request) (other : Config) (request : Request) → IsSound known request → IsSound known (unrouted other request)
  unfolding unrouted
  popped-sound known other request sound =
      if-sound known (option_map_or (λ route. is_own other route.uri) (slice_get request.head.route 0) false) (record request { head = record request.head { route = drop 1 request.head.route } }) request sound sound

  -- ## Sessions as their histories

  pub sound-kinds : AreKinds (as_history config) beginning TakesTagged IsSound
  unfolding as_history begun_history turned_history AreTagged
  sound-kinds = record {
    begins_of = λ other of number began noted request. refl;
    begins = λ other of number began noted request. tt;
    turned_of = λ other turn history. refl;
    turned = λ other turn history tagged all. (tagged, all);
    more = more-sound;
    kin_sound = kin-sound;
    routed = λ known routes request sound. sound;
    popped = popped-sound;
    vias = λ known request sound. sound.0;
  }

  -- ## What a turn gives to send

  some-via : (vias : List Via) (via : Via) → top_via vias ≡ Some via → 1 ≤ length vias
  some-via [] via is = cc
  some-via (v ∷ vias) via is = omega arith

  own-sound : (known : Option Request) (began : Request) (branch : ℕ) (request : Request) → known ≡ Some began → IsOn config epoch app branch request
      → IsMadeOf (routed config epoch app stays began.head.record_route) request → IsSound known request
  unfolding IsOn
  own-sound known began branch request is on made = (
    some-via request.head.via _ on,
    (λ own. ap (λ (k : Option Request). is_some k) is),
    (λ own untagged. ((made untagged).0, (λ other also most. (made untagged).1 most ∙ ap (λ (r : Request). routed config epoch app stays r.head.record_route) (same began other (sym is ∙ also))))),
  )
    where
      same : (a b : Request) → Some a ≡ Some b → a ≡ b
      same a b is = cc

  other-sound : (known : Option Request) (of : AppId) (branch : ℕ) (request : Request) → (of ≡ app → ⊥) → IsOf64 epoch of 0 → IsOf64 epoch app 0 → IsOn config epoch of branch request → IsSound known request
  unfolding IsOn
  other-sound known of branch request other small also on =
      let not : IsOwn request → ⊥ = λ own. other (branch-own config epoch of app branch small also (subst (λ (top : Option Via). option_map_or (is_branch_of config epoch app) top false ≡ true) on own)) in (
        some-via request.head.via _ on,
        (λ own. absurd (not own)),
        (λ own untagged. absurd (not own)),
      )

  abbrev pub Fit : Option Request → Order → Type 0
  Fit known order = OrderFits (as_history config) app beginning TakesTagged IsSound sound-kinds known order

  pub own-fit : (known : Option Request) (began : Request) (given : List Order) (low high : ℕ) → known ≡ Some began → AreOn config epoch app low given high
      → AreMade (routed config epoch app stays began.head.record_route) given → All (Fit known) given
  unfolding AreOn IsMadeOrder OrderFits All
  own-fit known began [] low high is on made = tt
  own-fit known began (orders.Respond event response ∷ given) low high is on made = (tt, own-fit known began given low high is on made.1)
  own-fit known began (orders.Begin branch directive region state request ∷ given) low high is on made = (own-sound known began branch request is on.1 made.0, own-fit known began given branch high is on.2 made.1)
  own-fit known began (orders.Send branch request ∷ given) low high is on made = (own-sound known began branch request is on.1 made.0, own-fit known began given branch high is on.2 made.1)
  own-fit known began (orders.Acknowledge request ∷ given) low high is on made = (own-sound known began on.0 request is on.2 made.0, own-fit known began given on.0 high is on.3 made.1)
  own-fit known began (orders.Cancel branch ∷ given) low high is on made = (tt, own-fit known began given low high is on made.1)
  own-fit known began (orders.CancelNow branch ∷ given) low high is on made = (tt, own-fit known began given low high is on made.1)

  pub other-fit : (known : Option Request) (of : AppId) (given : List Order) (low high : ℕ) → (of ≡ app → ⊥) → IsOf64 epoch of 0 → IsOf64 epoch app 0 → AreOn config epoch of low given high
      → All (Fit known) given
  unfolding AreOn OrderFits All
  other-fit known of [] low high other small also on = tt
  other-fit known of (orders.Respond event response ∷ given) low high other small also on = (tt, other-fit known of given low high other small also on)
  other-fit known of (orders.Begin branch directive region state request ∷ given) low high other small also on =
      (other-sound known of branch request other small also on.1, other-fit known of given branch high other small also on.2)
  other-fit known of (orders.Send branch request ∷ given) low high other small also on = (other-sound known of branch request other small also on.1, other-fit known of given branch high other small also on.2)
  other-fit known of (orders.Acknowledge request ∷ given) low high other small also on =
      (other-sound known of on.0 request other small also on.2, other-fit known of given on.0 high other small also on.3)
  other-fit known of (orders.Cancel branch ∷ given) low high other small also on = (tt, other-fit known of given low high other small also on)
  other-fit known of (orders.CancelNow branch ∷ given) low high other small also on = (tt, other-fit known of given low high other small also on)
