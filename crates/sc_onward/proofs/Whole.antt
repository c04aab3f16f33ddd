-- In a lawful run: where nothing stops a later request it goes from each session of its way to the next, and visits all that are ahead.
use Rattle.std.proofs.Common.{◌≡◌, ◌≤◌, ◌<◌, ℕ, zero, suc, ◌+◌, ◌^◌, Bool, true, false, Option, Some, List, [], ◌∷◌, refl, sym, ap, subst, arith}
use Rattle.std.specs.Prelude.{cond, drop, length, slice_get}
use Rattle.std.specs.List.{find}
use Rattle.sc_value.specs.declared.ids.AppId.{AppId}
use Rattle.sc_terms.specs.declared.steps.Step.{Step}
use Rattle.sc_parts.specs.declared.setup.Setup.{Setup}
use Rattle.sc_state.specs.declared.host.Live.{Live}
use Rattle.sc_state.specs.declared.net.Net.{Net}
use Rattle.sc_state.specs.declared.session.Session.{Session}
use Rattle.sc_hosts.specs.Histories.{as_session, session_of}
use Rattle.sc_hosts.specs.Runs.{IsLawful, after_step, net_from as chained, chained_from, start}
use Rattle.sc_hosts.specs.Steps.{live_at}
use Rattle.sc_lasting.specs.Lasting.{All}
use Rattle.sc_lasting.proofs.Lives.{live-is}
use Rattle.sc_lasting.proofs.Shared.{all-at}
use Rattle.sc_keyed.proofs.KeyedNets.{AllKeyed}
use Rattle.sc_keyed.proofs.KeyedRuns.{session-keyed}
use Rattle.sc_keyed.proofs.KeyedTurns.{NoTurn}
use Rattle.sc_vias.proofs.RunVias.{start-kept}
use Rattle.sc_paths.specs.LaterRequests.{Occurrence, carries, is_passed_on, is_turn_of, visits, visits_from}
use Rattle.sc_paths.specs.Moments.{Got, Moment, got_in, moments, moments_from}
use Rattle.sc_paths.specs.Pieces.{Dialog, Direction, IsPiece, Piece, ahead}
use Rattle.sc_proxying.proofs.Rising.{all-numbered}
use Rattle.sc_ways.specs.Ways.{AreSmallDraws, AreSmallNames, IsApart, IsPrefix}
use Rattle.sc_ways.proofs.Counts.{AreWithin, run-rises, step-rises}
use Rattle.sc_ways.proofs.Law.{prefix, ready-all}
use Rattle.sc_ways.proofs.OneHop.{IsFine}
use Rattle.sc_ways.proofs.OwnBranches.{Is64, IsReadyAt, moments-kept}
use Rattle.sc_ways.proofs.Runs.{all-behind, quiet-last, run-each, run-fine}
use Rattle.sc_onward.specs.Onward.{AreCounted, AreSmallNumbers, ComesNext, GoesAllTheWay, HasNewBranches, IsCarriedOn, IsUnstopped}
use Rattle.sc_onward.proofs.Fresh.{all-new}
use Rattle.sc_onward.proofs.OneHop.{IsSound, Item, next-found, one-hop}

-- ## What is known of each moment

start-within : (setup : Setup) (epoch began : ℕ) → AreWithin (start {S = Session} setup epoch began)
unfolding start
start-within setup epoch began = λ number host at. quiet-last setup.config.app number host at

chained-within : (given : List Step) (setup : Setup) (net : Net Session) → AreWithin net → AreWithin (chained_from as_session setup net given)
unfolding chained_from
chained-within [] setup net within = within
chained-within (step ∷ given) setup net within = chained-within given setup (after_step as_session setup net step) ((step-rises as_session setup net step).within within)

under : (a b : ℕ) → a ≤ b → b < 2 ^ 64 → a < 2 ^ 64
under a b p q = omega (arith, p, q)

counts-less : (given : List Step) (setup : Setup) (net : Net Session) → (chained_from as_session setup net given).count < 2 ^ 64 → All (λ (moment : Moment). moment.after.count < 2 ^ 64) (moments_from setup net given)
unfolding chained_from moments_from All
counts-less [] setup net less = tt
counts-less (step ∷ given) setup net less =
    (under (after_step as_session setup net step).count _ (run-rises as_session setup given (after_step as_session setup net step)) less, counts-less given setup (after_step as_session setup net step) less)

abbrev Counted : Moment → Type 0
Counted moment = (app : AppId) (live : Live Session) → live_at app moment.before ≡ Some live → AreCounted live.session

abbrev Steps-on : Setup → Moment → Type 0
Steps-on setup moment = moment.after ≡ after_step as_session setup moment.before moment.step

all-sound : (run : List Moment) (setup : Setup) (epoch : ℕ) → All (IsReadyAt setup epoch) run → All (Steps-on setup) run → All (λ (moment : Moment). AreWithin moment.before) run
    → All (λ (moment : Moment). moment.after.count < 2 ^ 64) run → All Counted run → All (IsSound setup epoch) run
unfolding All
all-sound [] setup epoch ready steps within less counted = tt
all-sound (moment ∷ run) setup epoch ready steps within less counted = (
  record { ready = ready.0; after = steps.0; within = within.0; less = less.0; counted = counted.0 },
  all-sound run setup epoch ready.1 steps.1 within.1 less.1 counted.1,
)

-- ## Lists of sessions

pub prefix-whole : (xs ys : List AppId) → IsPrefix xs ys → length ys ≤ length xs → xs ≡ ys
unfolding IsPrefix
prefix-whole [] [] begins long = refl
prefix-whole [] (y ∷ ys) begins long = absurd (none (length ys) long)
  where
    none : (n : ℕ) → suc n ≤ 0 → ⊥
    none n most = omega (arith, most)
prefix-whole (x ∷ xs) [] begins long = absurd begins
prefix-whole (x ∷ xs) (y ∷ ys) begins long =
    subst (λ (z : AppId). x ∷ xs ≡ z ∷ ys) begins.0 (ap (λ (zs : List AppId). x ∷ zs) (prefix-whole xs ys begins.1 (less (length ys) (length xs) long)))
  where
    less : (n m : ℕ) → suc n ≤ suc m → n ≤ m
    less n m most = omega (arith, most)

if-long : (n : ℕ) (b : Bool) (app : AppId) (xs ys : List AppId) → (b ≡ true → n ≤ length (app ∷ xs)) → (b ≡ false → n ≤ length ys) → n ≤ length (cond b (app ∷ xs) ys)
if-long n true app xs ys p q = p refl
if-long n false app xs ys p q = q refl

one-more : (n : ℕ) → 1 ≤ suc n
one-more n = omega arith

next-more : (n m : ℕ) → n ≤ m → suc n ≤ suc m
next-more n m p = omega (arith, p)

pub visits-one : (later : List Moment) (got : Got) → 1 ≤ length (visits_from (Some got) later)
unfolding visits_from
visits-one [] got = one-more 0
visits-one (moment ∷ later) got =
    if-long 1 (is_turn_of got moment.step) got.app (visits_from (find (is_passed_on got) (got_in moment)) later) (visits_from (Some got) later)
    (λ is. one-more (length (visits_from (find (is_passed_on got) (got_in moment)) later))) (λ is. visits-one later got)

-- ## On the way

module _ (setup : Setup) (epoch : ℕ) (small : epoch < 2 ^ 64) where
  carried-long : (n : ℕ) (later : List Moment) (got : Got) → All (IsSound setup epoch) later → All (HasNewBranches setup) later → IsCarriedOn setup n got later
      → suc n ≤ length (visits_from (Some got) later)
  unfolding visits_from IsCarriedOn All
  carried-long zero later got sound new carried = visits-one later got
  carried-long (suc n) [] got sound new carried = absurd carried
  carried-long (suc n) (moment ∷ later) got sound new carried =
      if-long (suc (suc n)) (is_turn_of got moment.step) got.app (visits_from (find (is_passed_on got) (got_in moment)) later) (visits_from (Some got) later)
      (λ is.
      let goes = carried.0 is in
      let next = next-found setup epoch small moment sound.0 new.0 got goes.0 in
      subst (λ (found : Option Got). suc (suc n) ≤ suc (length (visits_from found later))) (sym next.1)
      (next-more (suc n) (length (visits_from (Some next.0) later)) (carried-long n later next.0 sound.1 new.1 (goes.1 next.0 next.1))))
      (λ is. carried-long (suc n) later got sound.1 new.1 (carried.1 is))

-- ## The run

module _ (setup : Setup) (epoch began : ℕ) (journal : List Step) (lawful : IsLawful as_session setup epoch began journal)
    (numbers : AreSmallNumbers setup epoch (chained as_session setup epoch began journal)) (drawn : AreSmallDraws setup (moments setup epoch began journal)) where
  abbrev Run : List Moment
  Run = moments setup epoch began journal

  run-ready : All (IsReadyAt setup epoch) Run
  unfolding moments
  run-ready =
      let fine : All (IsFine setup epoch) Run = run-fine setup epoch began journal lawful numbers.hosts numbers.events in
      let keyed = run-each setup epoch began journal lawful (λ (moment : Moment). AllKeyed as_session NoTurn 0 0 moment.before) (λ before step later is allowed. session-keyed setup epoch began before) in
      let kept = moments-kept setup epoch journal (start setup epoch began) drawn (start-kept setup epoch Is64 began) in
      ready-all setup epoch Run fine kept keyed drawn

  counted-after : (before : List Step) (app : AppId) (live : Live Session) → live_at app (chained as_session setup epoch began before) ≡ Some live → AreCounted live.session
  unfolding session_of
  counted-after before app live is =
      live-is AreCounted setup (λ history. let ok = all-numbered setup.config history history.turns in record { numbered = ok.requests; proxied = ok.proxied }) epoch began before app live is

  pub run-sound : All (IsSound setup epoch) Run
  unfolding moments chained
  run-sound =
      all-sound Run setup epoch run-ready (run-each setup epoch began journal lawful (Steps-on setup) (λ before step later is allowed. refl))
      (run-each setup epoch began journal lawful (λ (moment : Moment). AreWithin moment.before) (λ before step later is allowed. chained-within before setup (start setup epoch began) (start-within setup epoch began)))
      (counts-less journal setup (start setup epoch began) numbers.events)
      (run-each setup epoch began journal lawful Counted (λ before step later is allowed. counted-after before))

  -- the branch of each request that a turn sends is new
  pub run-new : All (HasNewBranches setup) Run
  run-new = all-new setup epoch began journal numbers.within lawful run-ready

  -- one hop of it
  pub hop : (place : ℕ) (moment : Moment) (got : Got) → slice_get Run place ≡ Some moment → (un : IsUnstopped setup moment got) → ComesNext moment got un.to
  unfolding ComesNext
  hop place moment got at un =
      let comes = one-hop setup epoch numbers.within moment (all-at (IsSound setup epoch) Run place moment at run-sound) (all-at (HasNewBranches setup) Run place moment at run-new) got un in
      (Item un.to comes.0, refl, comes.1, comes.2)

  long-enough : (n : ℕ) (occurrence : Occurrence) → GoesAllTheWay setup Run occurrence n → suc n ≤ length (visits setup Run occurrence)
  unfolding visits GoesAllTheWay
  long-enough n occurrence goes =
      rw (goes.1, goes.3)
      (carried-long setup epoch numbers.within n (drop (occurrence.step + 1) Run) goes.2 (all-behind (IsSound setup epoch) (occurrence.step + 1) Run run-sound)
      (all-behind (HasNewBranches setup) (occurrence.step + 1) Run run-new) goes.4)

-- all of those ahead
pub whole : (setup : Setup) (epoch began : ℕ) (journal : List Step) (dialog : Dialog) (direction : Direction) (piece : Piece) (occurrence : Occurrence) → IsLawful as_session setup epoch began journal
    → IsPiece setup epoch (moments setup epoch began journal) dialog piece → IsApart (moments setup epoch began journal) dialog piece
    → AreSmallNames setup epoch (chained as_session setup epoch began journal) piece → AreSmallDraws setup (moments setup epoch began journal)
    → carries setup (moments setup epoch began journal) dialog direction piece occurrence ≡ true → (n : ℕ) → length (ahead (moments setup epoch began journal) direction piece) ≡ suc n
    → GoesAllTheWay setup (moments setup epoch began journal) occurrence n
    → visits setup (moments setup epoch began journal) occurrence ≡ ahead (moments setup epoch began journal) direction piece
whole setup epoch began journal dialog direction piece occurrence lawful is apart small drawn carried n count goes =
    prefix-whole (visits setup (moments setup epoch began journal) occurrence) (ahead (moments setup epoch began journal) direction piece)
    (prefix setup epoch began journal dialog direction piece occurrence lawful is apart small drawn carried)
    (subst (λ (m : ℕ). m ≤ length (visits setup (moments setup epoch began journal) occurrence)) (sym count)
    (long-enough setup epoch began journal lawful (record { within = small.within; hosts = small.hosts; events = small.events }) drawn n occurrence goes))
