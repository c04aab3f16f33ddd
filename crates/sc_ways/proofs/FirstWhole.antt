-- What becomes of a later request from outside: it comes to the first of those ahead, or it is answered at once.
use Rattle.std.proofs.Common.{◌≡◌, inl, inr, ℕ, Bool, true, false, Option, None, Some, List, [], ◌∷◌, refl, sym, subst}
use Rattle.sc_value.specs.declared.ids.AppId.{AppId}
use Rattle.sc_value.specs.declared.ids.Place.{Place}
use Rattle.sc_terms.specs.declared.steps.Step.{Step}
use Rattle.sc_parts.specs.declared.setup.Setup.{Setup}
use Rattle.sc_state.specs.declared.host.Live.{Live}
use Rattle.sc_state.specs.declared.host.Peer.TheVariants as peers
use Rattle.sc_state.specs.declared.session.Session.{Session}
use Rattle.sc_tokens.specs.Bytes.{Bytes}
use Rattle.sc_hosts.specs.Histories.{as_session}
use Rattle.sc_hosts.specs.Inboxes.{is_full}
use Rattle.sc_hosts.specs.Runs.{IsLawful, net_from as chained}
use Rattle.sc_hosts.specs.Steps.{live_at}
use Rattle.sc_hosts.specs.Words.{does_not_exist, unavailable}
use Rattle.sc_paths.specs.LaterRequests.{Occurrence, SetOut, carries, set_out}
use Rattle.sc_paths.specs.Moments.{Moment, moments}
use Rattle.sc_paths.specs.Pieces.{Dialog, Direction, IsPiece, Piece, ahead}
use Rattle.sc_ways.specs.Ways.{AreSmallDraws, AreSmallNames, IsApart, IsFollowed, StopsBefore}
use Rattle.sc_ways.proofs.FirstHop.{visits-first}
use Rattle.sc_ways.proofs.FirstStop.{stops-first}

module _ (setup : Setup) (epoch began : ℕ) (journal : List Step) (dialog : Dialog) (direction : Direction) (piece : Piece) (occurrence : Occurrence)
    (lawful : IsLawful as_session setup epoch began journal) (names-small : AreSmallNames setup epoch (chained as_session setup epoch began journal) piece)
    (piece-is : IsPiece setup epoch (moments setup epoch began journal) dialog piece) (apart : IsApart (moments setup epoch began journal) dialog piece)
    (drawn : AreSmallDraws setup (moments setup epoch began journal)) (carries-it : carries setup (moments setup epoch began journal) dialog direction piece occurrence ≡ true)
    (out : SetOut) (place : Place) (set : set_out setup (moments setup epoch began journal) occurrence ≡ Some out) (sender : out.sender ≡ peers.Outside place) where
  abbrev Run : List Moment
  Run = moments setup epoch began journal

  abbrev Followed : Type 0
  Followed = IsFollowed setup Run direction piece occurrence place out

  stopped : (code : ℕ) (reason : Bytes) → StopsBefore (ahead Run direction piece) out.moment.before code reason → Followed
  unfolding IsFollowed
  stopped code reason stop = inr (code, reason, stop, stops-first setup epoch began journal dialog direction piece occurrence lawful names-small piece-is carries-it out place set sender code reason stop)

  stopped-at : (apps : List AppId) → ahead Run direction piece ≡ apps → (code : ℕ) (reason : Bytes) → StopsBefore apps out.moment.before code reason → Followed
  stopped-at apps is code reason stop = stopped code reason (subst (λ (all : List AppId). StopsBefore all out.moment.before code reason) (sym is) stop)

  by-room : (app : AppId) (more : List AppId) → ahead Run direction piece ≡ app ∷ more → (live : Live Session) → live_at app out.moment.before ≡ Some live → (b : Bool) → is_full live ≡ b → Followed
  unfolding StopsBefore IsFollowed
  by-room app more first live lives true filled = stopped-at (app ∷ more) first 503 unavailable (inr (live, lives, filled, refl, refl))
  by-room app more first live lives false room =
      inl (app, more, first, visits-first setup epoch began journal dialog direction piece occurrence lawful names-small piece-is apart drawn carries-it out place set sender app more first live lives room)

  by-life : (app : AppId) (more : List AppId) → ahead Run direction piece ≡ app ∷ more → (found : Option (Live Session)) → live_at app out.moment.before ≡ found → Followed
  unfolding StopsBefore
  by-life app more first None ended = stopped-at (app ∷ more) first 481 does_not_exist (inl (ended, refl, refl))
  by-life app more first (Some live) lives = by-room app more first live lives (is_full live) refl

  by-ahead : (apps : List AppId) → ahead Run direction piece ≡ apps → Followed
  unfolding StopsBefore
  by-ahead [] none = stopped-at [] none 481 does_not_exist (refl, refl)
  by-ahead (app ∷ more) first = by-life app more first (live_at app out.moment.before) refl

  pub followed : Followed
  followed = by-ahead (ahead Run direction piece) refl
