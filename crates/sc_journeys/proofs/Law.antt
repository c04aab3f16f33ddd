-- How the journey of a later request ends, in a lawful run.
use Rattle.std.proofs.Common.{◌≡◌, ◌⊎◌, inl, inr, ℕ, zero, suc, ◌+◌, Bool, true, false, Option, None, Some, List, [], ◌∷◌, refl, sym, ap, subst, ◌∙◌}
use Rattle.std.specs.Prelude.{drop, slice_get}
use Rattle.std.specs.List.{find}
use Rattle.std.specs.Option.{option_map_or}
use Rattle.sc_value.specs.declared.ids.AppId.{AppId}
use Rattle.sc_value.specs.declared.ids.Place.{Place}
use Rattle.sc_terms.specs.declared.steps.Step.{Step}
use Rattle.sc_parts.specs.declared.setup.Setup.{Setup}
use Rattle.sc_state.specs.declared.host.Live.{Live}
use Rattle.sc_state.specs.declared.host.Peer.TheVariants as peers
use Rattle.sc_state.specs.declared.session.Session.{Session}
use Rattle.sc_tokens.specs.Bytes.{Bytes}
use Rattle.sc_hosts.specs.Histories.{as_session}
use Rattle.sc_hosts.specs.Inboxes.{is_full}
use Rattle.sc_hosts.specs.Runs.{IsLawful, net_from as chained, start}
use Rattle.sc_hosts.specs.Steps.{live_at}
use Rattle.sc_lasting.specs.Lasting.{All}
use Rattle.sc_lasting.proofs.Shared.{all-at, found-behind}
use Rattle.sc_paths.specs.LaterRequests.{Occurrence, SetOut, carries, carries_by, has_vias, set_out, set_out_by, visits, visits_from}
use Rattle.sc_paths.specs.Moments.{Got, Moment, got_in, moments}
use Rattle.sc_paths.specs.Pieces.{Dialog, Direction, IsPiece, Piece, ahead}
use Rattle.sc_ways.specs.Ways.{AreSmallDraws, AreSmallNames, IsApart, IsFollowed, StopsBefore, VisitsFirst}
use Rattle.sc_ways.proofs.FirstWhole.{followed}
use Rattle.sc_ways.proofs.Law.{ahead-small, ends, run-own}
use Rattle.sc_ways.proofs.OneHop.{IsFine}
use Rattle.sc_ways.proofs.OwnBranches.{HasOwnBranch}
use Rattle.sc_ways.proofs.Prefix.{IsCarried, carried, moment-of, outside-by}
use Rattle.sc_ways.proofs.Runs.{all-behind, run-fine}
use Rattle.sc_ways.proofs.Sending.{session-by}
use Rattle.sc_onward.specs.Onward.{AreSmallNumbers}
use Rattle.sc_onward.proofs.Sent.{sent-first}
use Rattle.sc_halted.proofs.Halting.{goes-on-or-halts}
use Rattle.sc_journeys.specs.Journeys.{Ends, Halted, Halts, Kept_out, TakesNone, Whole}
use Rattle.sc_journeys.proofs.Starts.{begins, goes-or-halts}
use Rattle.sc_journeys.proofs.Walk.{GoesOrHalts}

-- nothing is visited, and a first one is
never : (visited : List AppId) (app : AppId) (rest : List AppId) → visited ≡ [] → visited ≡ app ∷ rest → ⊥
never [] app rest none some = cc
never (first ∷ visited) app rest none some = cc

-- what is so at each place of a run is so of all of it
each-place : (P : Moment → Type 0) (run : List Moment) → ((place : ℕ) (moment : Moment) → slice_get run place ≡ Some moment → P moment) → All P run
unfolding All
each-place P [] each = tt
each-place P (moment ∷ run) each = (each zero moment refl, each-place P run (λ place other taken. each (suc place) other taken))

module _ (setup : Setup) (epoch began : ℕ) (journal : List Step) (dialog : Dialog) (direction : Direction) (piece : Piece) (occurrence : Occurrence)
    (lawful : IsLawful as_session setup epoch began journal) (piece-is : IsPiece setup epoch (moments setup epoch began journal) dialog piece)
    (apart : IsApart (moments setup epoch began journal) dialog piece) (small : AreSmallNames setup epoch (chained as_session setup epoch began journal) piece)
    (drawn : AreSmallDraws setup (moments setup epoch began journal)) (carries-it : carries setup (moments setup epoch began journal) dialog direction piece occurrence ≡ true) where
  abbrev Run : List Moment
  Run = moments setup epoch began journal

  abbrev End : Type 0
  End = Ends setup Run direction piece occurrence

  numbers : AreSmallNumbers setup epoch (chained as_session setup epoch began journal)
  numbers = record { within = small.within; hosts = small.hosts; events = small.events }

  fine : All (IsFine setup epoch) Run
  fine = run-fine setup epoch began journal lawful small.hosts small.events

  -- each turn to a later request goes on or stops, with the answer
  halting : All (GoesOrHalts setup epoch) Run
  halting =
      each-place (GoesOrHalts setup epoch) Run
      (λ place moment taken. record { known = λ got to short turn. goes-on-or-halts setup epoch began journal lawful numbers drawn place moment got to taken short turn })

  -- ## Kept out

  nothing-visited : (out : SetOut) → set_out setup Run occurrence ≡ Some out → find (has_vias 0 out.request.head.via) (got_in out.moment) ≡ None → visits setup Run occurrence ≡ []
  unfolding visits visits_from
  nothing-visited out set none = rw (set, none) refl

  not-first : (out : SetOut) (app : AppId) (more : List AppId) → set_out setup Run occurrence ≡ Some out → find (has_vias 0 out.request.head.via) (got_in out.moment) ≡ None
      → VisitsFirst app more (visits setup Run occurrence) → ⊥
  not-first out app more set none visited = never (visits setup Run occurrence) app visited.rest (nothing-visited out set none) visited.is

  kept-by : (out : SetOut) (app : AppId) (more all : List AppId) (code : ℕ) (reason : Bytes) → set_out setup Run occurrence ≡ Some out → ahead Run direction piece ≡ app ∷ more → all ≡ app ∷ more
      → StopsBefore all out.moment.before code reason → End
  unfolding StopsBefore TakesNone
  kept-by out app more [] code reason set first same stop = cc
  kept-by out app more (other ∷ others) code reason set first same stop = by (subst (λ (apps : List AppId). StopsBefore apps out.moment.before code reason) same stop)
    where
      by : StopsBefore (app ∷ more) out.moment.before code reason → End
      by (inl gone) = Kept_out out app more set first (inl (inl gone.0))
      by (inr full) = Kept_out out app more set first (inl (inr (full.0, full.1, full.2)))

  kept-outside : (out : SetOut) (place : Place) (app : AppId) (more : List AppId) → set_out setup Run occurrence ≡ Some out → find (has_vias 0 out.request.head.via) (got_in out.moment) ≡ None
      → out.sender ≡ peers.Outside place → ahead Run direction piece ≡ app ∷ more → End
  unfolding IsFollowed
  kept-outside out place app more set none sender first =
      by (followed setup epoch began journal dialog direction piece occurrence lawful small piece-is apart drawn carries-it out place set sender)
    where
      by : IsFollowed setup Run direction piece occurrence place out → End
      by (inl visited) = absurd (not-first out visited.0 visited.1 set none visited.3)
      by (inr stopped) = kept-by out app more (ahead Run direction piece) stopped.0 stopped.1 set first first stopped.2

  kept-room : (out : SetOut) (host : ℕ) (app : AppId) (more : List AppId) → set_out setup Run occurrence ≡ Some out → find (has_vias 0 out.request.head.via) (got_in out.moment) ≡ None
      → out.sender ≡ peers.Inside host → ahead Run direction piece ≡ app ∷ more → (was last : Live Session) → live_at app out.moment.before ≡ Some was → live_at app out.moment.after ≡ Some last
      → (b : Bool) → is_full last ≡ b → End
  unfolding TakesNone
  kept-room out host app more set none sender first was last there ends true full = Kept_out out app more set first (inr (inr (last, ends, full)))
  kept-room out host app more set none sender first was last there ends false room =
      absurd (not-first out app more set none
      (sent-first setup epoch began journal dialog direction piece occurrence lawful small drawn piece-is apart carries-it out host set sender app more first was last there ends room))

  kept-after : (out : SetOut) (host : ℕ) (app : AppId) (more : List AppId) → set_out setup Run occurrence ≡ Some out → find (has_vias 0 out.request.head.via) (got_in out.moment) ≡ None
      → out.sender ≡ peers.Inside host → ahead Run direction piece ≡ app ∷ more → (was : Live Session) → live_at app out.moment.before ≡ Some was
      → (found : Option (Live Session)) → live_at app out.moment.after ≡ found → End
  unfolding TakesNone
  kept-after out host app more set none sender first was there None gone = Kept_out out app more set first (inr (inl gone))
  kept-after out host app more set none sender first was there (Some last) ends = kept-room out host app more set none sender first was last there ends (is_full last) refl

  kept-inside : (out : SetOut) (host : ℕ) (app : AppId) (more : List AppId) → set_out setup Run occurrence ≡ Some out → find (has_vias 0 out.request.head.via) (got_in out.moment) ≡ None
      → out.sender ≡ peers.Inside host → ahead Run direction piece ≡ app ∷ more → (found : Option (Live Session)) → live_at app out.moment.before ≡ found → End
  unfolding TakesNone
  kept-inside out host app more set none sender first None gone = Kept_out out app more set first (inl (inl gone))
  kept-inside out host app more set none sender first (Some was) there = kept-after out host app more set none sender first was there (live_at app out.moment.after) refl

  -- it came from outside, or a session sent it
  record HasSender (out : SetOut) : Type 0 where
    is : ((place : Place) × (out.sender ≡ peers.Outside place)) ⊎ ((host : ℕ) × (out.sender ≡ peers.Inside host))

  sender-of : (there : Moment) (order : Option ℕ) (out : SetOut) → set_out_by setup there there.step order ≡ Some out → HasSender out
  sender-of there None out by =
      let from = outside-by setup there there.step out by in
      record { is = inl (from.place, ap (λ (o : SetOut). o.sender) from.out_is) }
  sender-of there (Some order) out by =
      let from = session-by setup there there.step order out by in
      record { is = inr (from.app.host, ap (λ (o : SetOut). o.sender) from.out_is) }

  kept : (out : SetOut) → set_out setup Run occurrence ≡ Some out → find (has_vias 0 out.request.head.via) (got_in out.moment) ≡ None → HasSender out
      → (all : List AppId) → ahead Run direction piece ≡ all → End
  kept out set none sender [] empty = Whole (nothing-visited out set none ∙ sym empty)
  kept out set none sender (app ∷ more) first = by sender.is
    where
      by : ((place : Place) × (out.sender ≡ peers.Outside place)) ⊎ ((host : ℕ) × (out.sender ≡ peers.Inside host)) → End
      by (inl outside) = kept-outside out outside.0 app more set none outside.1 first
      by (inr inside) = kept-inside out inside.0 app more set none inside.1 first (live_at app out.moment.before) refl

  -- ## On the way

  all-visited : (out : SetOut) (got : Got) → set_out setup Run occurrence ≡ Some out → find (has_vias 0 out.request.head.via) (got_in out.moment) ≡ Some got
      → visits setup Run occurrence ≡ visits_from (Some got) (drop (occurrence.step + 1) Run)
  unfolding visits
  all-visited out got set found = rw (set, found) refl

  carried-out : (out : SetOut) → set_out setup Run occurrence ≡ Some out → IsCarried setup.config Run dialog direction piece out
  unfolding carries
  carried-out out set =
      carried setup.config Run dialog direction piece out (subst (λ (found : Option SetOut). option_map_or (carries_by setup.config Run dialog direction piece) found false ≡ true) set carries-it)

  own-branch : HasOwnBranch setup Run occurrence
  own-branch = run-own setup epoch began journal lawful dialog piece occurrence small.within fine drawn

  goes : (there : Moment) (out : SetOut) (got : Got) → slice_get Run occurrence.step ≡ Some there → set_out_by setup there there.step occurrence.order ≡ Some out → set_out setup Run occurrence ≡ Some out
      → find (has_vias 0 out.request.head.via) (got_in out.moment) ≡ Some got → End
  unfolding moments HasOwnBranch
  goes there out got taken by set found =
      let is = carried-out out set in
      let one-fine : IsFine setup epoch out.moment =
      subst (λ (m : Moment). IsFine setup epoch m) (sym (moment-of setup there there.step occurrence.order out by)) (all-at (IsFine setup epoch) Run occurrence.step there taken fine) in
      let one = begins setup epoch small.within Run dialog direction piece (start setup epoch began) journal occurrence.order occurrence.step there out taken by (λ order at. own-branch order out at set) one-fine is got found in
      end-by (goes-or-halts setup epoch small.within Run dialog direction piece out (drop (occurrence.step + 1) Run) got one one-fine.at (all-behind (IsFine setup epoch) (occurrence.step + 1) Run fine)
      (all-behind (GoesOrHalts setup epoch) (occurrence.step + 1) Run halting)
      (λ app ending. all-behind _ (occurrence.step + 1) Run (ends setup epoch began journal lawful dialog piece direction piece-is.made apart app ending))
      (ahead-small setup epoch began journal lawful dialog piece direction piece-is small fine) is)
    where
      end-by : (visits_from (Some got) (drop (occurrence.step + 1) Run) ≡ ahead Run direction piece) ⊎ Halts setup got (drop (occurrence.step + 1) Run) → End
      end-by (inl whole) = Whole (all-visited out got set found ∙ whole)
      end-by (inr halts) = Halted out got set found halts

  by-found : (there : Moment) (out : SetOut) → slice_get Run occurrence.step ≡ Some there → set_out_by setup there there.step occurrence.order ≡ Some out → set_out setup Run occurrence ≡ Some out
      → (found : Option Got) → find (has_vias 0 out.request.head.via) (got_in out.moment) ≡ found → End
  by-found there out taken by set None none = kept out set none (sender-of there occurrence.order out by) (ahead Run direction piece) refl
  by-found there out taken by set (Some got) found = goes there out got taken by set found

  by-out : (found : Option SetOut) → set_out setup Run occurrence ≡ found → option_map_or (carries_by setup.config Run dialog direction piece) found false ≡ true → End
  unfolding set_out
  by-out None set is = cc
  by-out (Some out) set is =
      let by = found-behind (λ (moment : Moment). set_out_by setup moment moment.step occurrence.order) (slice_get Run occurrence.step) out set in
      by-found by.0 out by.1 by.2 set (find (has_vias 0 out.request.head.via) (got_in out.moment)) refl

  ends-so : End
  unfolding carries
  ends-so = by-out (set_out setup Run occurrence) refl carries-it

pub journey-ends : (setup : Setup) (epoch began : ℕ) (journal : List Step) (dialog : Dialog) (direction : Direction) (piece : Piece) (occurrence : Occurrence) → IsLawful as_session setup epoch began journal
    → IsPiece setup epoch (moments setup epoch began journal) dialog piece → IsApart (moments setup epoch began journal) dialog piece
    → AreSmallNames setup epoch (chained as_session setup epoch began journal) piece → AreSmallDraws setup (moments setup epoch began journal)
    → carries setup (moments setup epoch began journal) dialog direction piece occurrence ≡ true → Ends setup (moments setup epoch began journal) direction piece occurrence
journey-ends setup epoch began journal dialog direction piece occurrence lawful is apart small drawn carried =
    ends-so setup epoch began journal dialog direction piece occurrence lawful is apart small drawn carried
