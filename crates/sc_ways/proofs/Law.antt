-- The law of paths.
use Rattle.std.proofs.Common.{◌≡◌, ◌<◌, ◌^◌, ℕ, ◌++◌, true, Option, None, Some, List, [], ◌∷◌, refl, sym, ap, subst}
use Rattle.std.proofs.lemmas.List.{reverse-append}
use Rattle.std.specs.Prelude.{◌==◌, cond, is_some, length, not, reverse}
use Rattle.std.specs.List.{filter_map, flat_map}
use Rattle.std.specs.Option.{option_map_or}
use Rattle.sc_value.specs.declared.ids.AppId.{AppId}
use Rattle.sc_value.specs.declared.message.Head.{Head}
use Rattle.sc_terms.specs.declared.calls.ProxyOptions.{ProxyOptions}
use Rattle.sc_terms.specs.declared.steps.Step.{Step}
use Rattle.sc_parts.specs.declared.setup.Setup.{Setup}
use Rattle.sc_state.specs.declared.host.Server.{Server}
use Rattle.sc_state.specs.declared.net.Net.{Net}
use Rattle.sc_state.specs.declared.session.Session.{Session}
use Rattle.sc_model.specs.Names.{IsOf64}
use Rattle.sc_hosts.specs.Histories.{as_session}
use Rattle.sc_hosts.specs.Runs.{IsLawful, net_from as chained, start}
use Rattle.sc_lasting.specs.Lasting.{All, AreDirect, Directly}
use Rattle.sc_lasting.proofs.Direct.{nothing-proxied}
use Rattle.sc_lasting.proofs.Parts.{all-append, all-both}
use Rattle.sc_lasting.proofs.Shared.{all-front}
use Rattle.sc_lived.proofs.Since.{session-holds}
use Rattle.sc_paths.specs.LaterRequests.{Occurrence, carries, visits}
use Rattle.sc_paths.specs.Moments.{Moment, given_in, moments, moments_from, proxied_with}
use Rattle.sc_paths.specs.Pieces.{Dialog, Direction, From_caller, From_callee, IsPiece, Piece, ahead, along, answer_by, answers_of, end_of, heads_at_end, is_made, list_of_option as listed, server_of_piece as received, recorders}
use Rattle.sc_keyed.proofs.KeyedNets.{AllKeyed}
use Rattle.sc_keyed.proofs.KeyedRuns.{session-keyed}
use Rattle.sc_keyed.proofs.KeyedTurns.{NoTurn}
use Rattle.sc_vias.proofs.RunVias.{Hold, start-kept}
use Rattle.sc_ways.specs.Ways.{AreSmallDraws, AreSmallNames, IsApart, IsPrefix, TakesNoProxy}
use Rattle.sc_ways.proofs.Callees.{callee-small}
use Rattle.sc_ways.proofs.Directs.{accepted-before, direct-takes}
use Rattle.sc_ways.proofs.OneHop.{IsFine}
use Rattle.sc_ways.proofs.OwnBranches.{HasOwnBranch, Is64, IsReadyAt, moments-kept, own-branches}
use Rattle.sc_ways.proofs.Prefix.{run-follows}
use Rattle.sc_ways.proofs.Recorders.{recorders-small}
use Rattle.sc_ways.proofs.Runs.{run-each, run-fine, run-next}

-- ## Names of those ahead

back : {A : Type 0} (P : A → Type 0) (xs ys : List A) → All P (xs ++ ys) → All P ys
unfolding All
back P [] ys all = all
back P (x ∷ xs) ys all = back P xs ys all.1

pub all-reverse : {A : Type 0} (P : A → Type 0) (xs : List A) → All P xs → All P (reverse xs)
unfolding All
all-reverse P [] all = tt
all-reverse P (x ∷ xs) all = rw (reverse-append (x ∷ []) xs) (all-append P (reverse xs) x (all-reverse P xs all.1) all.0)

all-ahead : (P : AppId → Type 0) (run : List Moment) (direction : Direction) (piece : Piece) → All P (recorders run piece) → All P (listed piece.caller ++ listed piece.callee) → All P (ahead run direction piece)
unfolding ahead along end_of
all-ahead P run From_caller piece stayed ends = all-both P (recorders run piece) (listed piece.callee) stayed (back P (listed piece.caller) (listed piece.callee) ends)
all-ahead P run From_callee piece stayed ends = all-both P _ (listed piece.caller) (all-reverse P (recorders run piece) stayed) (all-front P (listed piece.caller) (listed piece.callee) ends)

-- ## The end of the way

no-heads : (heads : List Head) → heads ≡ [] → not (length heads == 0) ≡ true → ⊥
no-heads heads is some = by heads is some
  where
    by : (heads : List Head) → heads ≡ [] → not (length heads == 0) ≡ true → ⊥
    by [] is some = cc
    by (head ∷ heads) is some = cc

-- the session that answered it proxied nothing
none-proxied : (found : Option ProxyOptions) (server : Option Server) (answers : Server → List Head) → not (length (option_map_or (λ (s : Server). cond (is_some found) [] (answers s)) server []) == 0) ≡ true → found ≡ None
none-proxied None server answers some = refl
none-proxied (Some how) None answers some = cc
none-proxied (Some how) (Some server) answers some = cc

at-callee : (heads : AppId → List Head) (found : Option AppId) (rest : List Head) (app : AppId) → found ≡ Some app → not (length (option_map_or heads found rest) == 0) ≡ true
    → not (length (heads app) == 0) ≡ true
at-callee heads None rest app is made = cc
at-callee heads (Some a) rest app is made = subst (λ (x : AppId). not (length (heads x) == 0) ≡ true) (same a app is) made
  where
    same : (a b : AppId) → Some a ≡ Some b → a ≡ b
    same a b is = cc

pub answered-end : (setup : Setup) (run : List Moment) (dialog : Dialog) (piece : Piece) (app : AppId) → piece.callee ≡ Some app → is_made setup run dialog piece ≡ true → proxied_with run app ≡ None
unfolding is_made heads_at_end answers_of
answered-end setup run dialog piece app callee made =
    none-proxied (proxied_with run app) (received run piece app) (λ server. flat_map (λ moment. filter_map (answer_by dialog server) (given_in setup moment)) run)
    (at-callee (λ app. option_map_or (answers_of setup run dialog app) (received run piece app) []) piece.callee _ app callee made)

-- ## Branches

pub ready-all : (setup : Setup) (epoch : ℕ) (run : List Moment) → All (IsFine setup epoch) run → All (λ (moment : Moment). Hold setup.config epoch Is64 moment.before) run
    → All (λ (moment : Moment). AllKeyed as_session NoTurn 0 0 moment.before) run → AreSmallDraws setup run → All (IsReadyAt setup epoch) run
unfolding All
ready-all setup epoch [] fine kept keyed drawn = tt
ready-all setup epoch (moment ∷ run) fine kept keyed drawn = (
  record {
    fine = fine.0;
    ready = record { same = fine.0.at; kept = kept.0; keyed = keyed.0; few = fine.0.few_before; lasts = fine.0.lasts };
    drawn = drawn.0;
  },
  ready-all setup epoch run fine.1 kept.1 keyed.1 drawn.1,
)

module _ (setup : Setup) (epoch began : ℕ) (journal : List Step) (lawful : IsLawful as_session setup epoch began journal) (dialog : Dialog) (piece : Piece) where
  abbrev Run : List Moment
  Run = moments setup epoch began journal

  -- who answered it takes no later request as a proxy
  callee-ends : (app : AppId) → proxied_with Run app ≡ None → All (TakesNoProxy dialog.call_id app) Run
  unfolding moments
  callee-ends app none =
      run-each setup epoch began journal lawful (TakesNoProxy dialog.call_id app)
      (λ before step later is allowed. direct-takes dialog.call_id app _
      (λ live lives. session-holds setup app Directly AreDirect (nothing-proxied setup.config) epoch began before live allowed lives
      (accepted-before setup (start setup epoch began) before (step ∷ later) app (subst (λ (steps : List Step). proxied_with (moments_from setup (start setup epoch began) steps) app ≡ None) (sym is) none))))

  -- who sent it first, where it proxied nothing, doesn't either
  caller-ends : (app : AppId) (found : Option ProxyOptions) → proxied_with Run app ≡ found → (is_some (proxied_with Run app) ≡ true → All (TakesNoProxy dialog.call_id app) Run)
      → All (TakesNoProxy dialog.call_id app) Run
  caller-ends app None is apart = callee-ends app is
  caller-ends app (Some how) is apart = apart (ap (λ (found : Option ProxyOptions). is_some found) is)

  pub ends : (direction : Direction) → is_made setup Run dialog piece ≡ true → IsApart Run dialog piece → (app : AppId) → end_of direction piece ≡ Some app → All (TakesNoProxy dialog.call_id app) Run
  unfolding end_of
  ends From_caller made apart app is = callee-ends app (answered-end setup Run dialog piece app is made)
  ends From_callee made apart app is = caller-ends app (proxied_with Run app) refl (apart app is)

  -- each later request that a turn sends is on a branch of its own
  pub run-own : (occurrence : Occurrence) → epoch < 2 ^ 64 → All (IsFine setup epoch) Run → AreSmallDraws setup Run → HasOwnBranch setup Run occurrence
  unfolding moments
  run-own occurrence small fine drawn =
      let keyed = run-each setup epoch began journal lawful (λ (moment : Moment). AllKeyed as_session NoTurn 0 0 moment.before) (λ before step later is allowed. session-keyed setup epoch began before) in
      let kept = moments-kept setup epoch journal (start setup epoch began) drawn (start-kept setup epoch Is64 began) in
      own-branches setup epoch Run occurrence small (ready-all setup epoch Run fine kept keyed drawn)

  -- the name of the session that answered it has 64 bits
  run-callee : epoch < 2 ^ 64 → All (IsFine setup epoch) Run → is_made setup Run dialog piece ≡ true → (found : Option AppId) → piece.callee ≡ found → All (λ (app : AppId). IsOf64 epoch app 0) (listed found)
  unfolding moments is_made heads_at_end All
  run-callee small fine made None is = tt
  run-callee small fine made (Some app) is =
      let keyed = run-each setup epoch began journal lawful (λ (moment : Moment). AllKeyed as_session NoTurn 0 0 moment.after)
      (λ before step later at allowed. subst (λ (net : Net Session). AllKeyed as_session NoTurn 0 0 net) (run-next setup epoch began journal lawful before step) (session-keyed setup epoch began (before ++ step ∷ []))) in
      (callee-small setup epoch Run piece app (answers_of setup Run dialog app) small fine keyed (at-callee (λ app. option_map_or (answers_of setup Run dialog app) (received Run piece app) []) piece.callee _ app is made), tt)

  -- so have those of all that are ahead
  pub ahead-small : (direction : Direction) → IsPiece setup epoch Run dialog piece → AreSmallNames setup epoch (chained as_session setup epoch began journal) piece → All (IsFine setup epoch) Run
      → All (λ (app : AppId). IsOf64 epoch app 0) (ahead Run direction piece)
  ahead-small direction is small fine =
      all-ahead (λ (app : AppId). IsOf64 epoch app 0) Run direction piece (recorders-small setup epoch Run piece small.within fine)
      (all-both (λ (app : AppId). IsOf64 epoch app 0) (listed piece.caller) (listed piece.callee) small.caller (run-callee small.within fine is.made piece.callee refl))

  run-prefix : (direction : Direction) (occurrence : Occurrence) → IsPiece setup epoch Run dialog piece → IsApart Run dialog piece → AreSmallNames setup epoch (chained as_session setup epoch began journal) piece
      → AreSmallDraws setup Run → carries setup Run dialog direction piece occurrence ≡ true → IsPrefix (visits setup Run occurrence) (ahead Run direction piece)
  unfolding moments
  run-prefix direction occurrence is apart small drawn carried =
      let fine = run-fine setup epoch began journal lawful small.hosts small.events in
      run-follows setup epoch small.within (start setup epoch began) journal dialog direction piece occurrence (run-own occurrence small.within fine drawn) carried fine (ends direction is.made apart)
      (ahead-small direction is small fine)

-- what it visits is a beginning of those that stayed
pub prefix : (setup : Setup) (epoch began : ℕ) (journal : List Step) (dialog : Dialog) (direction : Direction) (piece : Piece) (occurrence : Occurrence) → IsLawful as_session setup epoch began journal
    → IsPiece setup epoch (moments setup epoch began journal) dialog piece → IsApart (moments setup epoch began journal) dialog piece
    → AreSmallNames setup epoch (chained as_session setup epoch began journal) piece → AreSmallDraws setup (moments setup epoch began journal)
    → carries setup (moments setup epoch began journal) dialog direction piece occurrence ≡ true
    → IsPrefix (visits setup (moments setup epoch began journal) occurrence) (ahead (moments setup epoch began journal) direction piece)
prefix setup epoch began journal dialog direction piece occurrence lawful is apart small drawn carried =
    run-prefix setup epoch began journal lawful dialog piece direction occurrence is apart small drawn carried
