-- What a later request visits stayed on the way of the INVITE: it is at its end, or record-routed.
use Rattle.std.proofs.Common.{◌≡◌, ℕ, inl, inr, Bool, true, false, Option, None, Some, List, [], ◌∷◌, refl, sym, ap, subst, ◌∙◌}
use Rattle.std.specs.Prelude.{cond, filter}
use Rattle.std.specs.Option.{option_map_or}
use Rattle.sc_value.specs.declared.ids.AppId.{AppId}
use Rattle.sc_terms.specs.declared.calls.ProxyOptions.{ProxyOptions}
use Rattle.sc_terms.specs.declared.steps.Step.{Step}
use Rattle.sc_parts.specs.declared.setup.Setup.{Setup}
use Rattle.sc_hosts.specs.Histories.{as_session}
use Rattle.sc_hosts.specs.Runs.{IsLawful, net_from as chained}
use Rattle.sc_lasting.specs.Lasting.{All}
use Rattle.sc_lasting.proofs.Parts.{all-both, all-map}
use Rattle.sc_paths.specs.LaterRequests.{Occurrence, carries, visits}
use Rattle.sc_paths.specs.Moments.{Moment, moments, proxied_with}
use Rattle.sc_paths.specs.Pieces.{Dialog, Direction, From_caller, From_callee, IsPiece, Piece, ahead, along, end_of, is_made, list_of_option as listed, recorders}
use Rattle.sc_ways.specs.Ways.{AreSmallDraws, AreSmallNames, HasRecorded, IsAmong, IsApart, IsPrefix, Stays}
use Rattle.sc_ways.proofs.Law.{all-reverse, answered-end, prefix}

-- ## Who is ahead stays

abbrev Kept : (AppId → Bool) → List AppId → AppId → Type 0
Kept test apps app = IsAmong app apps × (test app ≡ true)

kept-more : (test : AppId → Bool) (x : AppId) (xs : List AppId) (app : AppId) → Kept test xs app → Kept test (x ∷ xs) app
unfolding IsAmong
kept-more test x xs app kept = (inr kept.0, kept.1)

kept-first : (test : AppId → Bool) (x : AppId) (xs : List AppId) → test x ≡ true → Kept test (x ∷ xs) x
unfolding IsAmong
kept-first test x xs is = (inl refl, is)

kept-by : (test : AppId → Bool) (x : AppId) (xs rest : List AppId) (b : Bool) → test x ≡ b → All (Kept test (x ∷ xs)) rest → All (Kept test (x ∷ xs)) (cond b (x ∷ rest) rest)
unfolding All
kept-by test x xs rest true is all = (kept-first test x xs is, all)
kept-by test x xs rest false is all = all

filtered : (test : AppId → Bool) (xs : List AppId) → All (Kept test xs) (filter test xs)
unfolding All
filtered test [] = tt
filtered test (x ∷ xs) = kept-by test x xs (filter test xs) (test x) refl (all-map (Kept test xs) (Kept test (x ∷ xs)) (filter test xs) (kept-more test x xs) (filtered test xs))

recorded-by : (run : List Moment) (piece : Piece) (app : AppId) (found : Option ProxyOptions) → proxied_with run app ≡ found → IsAmong app piece.proxies
    → option_map_or (λ (how : ProxyOptions). how.record_route) found false ≡ true → HasRecorded run piece app
recorded-by run piece app None is among records = cc
recorded-by run piece app (Some how) is among records = record { among = among; how = how; with = is; records = records }

recorders-stay : (run : List Moment) (direction : Direction) (piece : Piece) → All (Stays run direction piece) (recorders run piece)
unfolding recorders Stays
recorders-stay run direction piece =
    let test : AppId → Bool = λ app. option_map_or (λ (how : ProxyOptions). how.record_route) (proxied_with run app) false in
    all-map (Kept test piece.proxies) (Stays run direction piece) (filter test piece.proxies) (λ app kept. inr (recorded-by run piece app (proxied_with run app) refl kept.0 kept.1)) (filtered test piece.proxies)

along-stays : (P : AppId → Type 0) (direction : Direction) (apps : List AppId) → All P apps → All P (along direction apps)
unfolding along
along-stays P From_caller apps all = all
along-stays P From_callee apps all = all-reverse P apps all

end-stays : (run : List Moment) (direction : Direction) (piece : Piece) (found : Option AppId) → end_of direction piece ≡ found → All (Stays run direction piece) (listed found)
unfolding All Stays
end-stays run direction piece None is = tt
end-stays run direction piece (Some app) is = (inl is, tt)

ahead-stays : (run : List Moment) (direction : Direction) (piece : Piece) → All (Stays run direction piece) (ahead run direction piece)
unfolding ahead
ahead-stays run direction piece =
    all-both (Stays run direction piece) (along direction (recorders run piece)) (listed (end_of direction piece)) (along-stays (Stays run direction piece) direction (recorders run piece) (recorders-stay run direction piece))
    (end-stays run direction piece (end_of direction piece) refl)

-- ## What is visited

begins-all : (P : AppId → Type 0) (visited all : List AppId) → IsPrefix visited all → All P all → All P visited
unfolding IsPrefix All
begins-all P [] all is each = tt
begins-all P (app ∷ visited) [] is each = absurd is
begins-all P (app ∷ visited) (first ∷ all) is each = (rw (is.0) each.0, begins-all P visited all is.1 each.1)

-- each session that it visits stayed
pub stays : (setup : Setup) (epoch began : ℕ) (journal : List Step) (dialog : Dialog) (direction : Direction) (piece : Piece) (occurrence : Occurrence) → IsLawful as_session setup epoch began journal
    → IsPiece setup epoch (moments setup epoch began journal) dialog piece → IsApart (moments setup epoch began journal) dialog piece
    → AreSmallNames setup epoch (chained as_session setup epoch began journal) piece → AreSmallDraws setup (moments setup epoch began journal)
    → carries setup (moments setup epoch began journal) dialog direction piece occurrence ≡ true
    → All (Stays (moments setup epoch began journal) direction piece) (visits setup (moments setup epoch began journal) occurrence)
stays setup epoch began journal dialog direction piece occurrence lawful is apart small drawn carried =
    let run : List Moment = moments setup epoch began journal in
    begins-all (Stays run direction piece) (visits setup run occurrence) (ahead run direction piece) (prefix setup epoch began journal dialog direction piece occurrence lawful is apart small drawn carried)
    (ahead-stays run direction piece)

-- ## One that left

clash : (how other : ProxyOptions) → Some how ≡ Some other → how.record_route ≡ false → other.record_route ≡ true → ⊥
clash how other is p q = let same : how ≡ other = cc in both other.record_route (sym (ap (λ (o : ProxyOptions). o.record_route) same) ∙ p) q
  where
    both : (b : Bool) → b ≡ false → b ≡ true → ⊥
    both b p q = cc

not-end : (setup : Setup) (run : List Moment) (dialog : Dialog) (direction : Direction) (piece : Piece) (app : AppId) (how : ProxyOptions) → is_made setup run dialog piece ≡ true
    → proxied_with run app ≡ Some how → (piece.caller ≡ Some app → ⊥) → end_of direction piece ≡ Some app → ⊥
unfolding end_of
not-end setup run dialog From_caller piece app how made with other is = let none : proxied_with run app ≡ None = answered-end setup run dialog piece app is made in cc
not-end setup run dialog From_callee piece app how made with other is = other is

not-staying : (setup : Setup) (run : List Moment) (dialog : Dialog) (direction : Direction) (piece : Piece) (app : AppId) (how : ProxyOptions) → is_made setup run dialog piece ≡ true
    → proxied_with run app ≡ Some how → how.record_route ≡ false → (piece.caller ≡ Some app → ⊥) → Stays run direction piece app → ⊥
unfolding Stays
not-staying setup run dialog direction piece app how made with left other (inl is) = not-end setup run dialog direction piece app how made with other is
not-staying setup run dialog direction piece app how made with left other (inr recorded) = clash how recorded.how (sym with ∙ recorded.with) left recorded.records

-- one that proxied the INVITE and left the way isn't visited
pub left-unvisited : (setup : Setup) (epoch began : ℕ) (journal : List Step) (dialog : Dialog) (direction : Direction) (piece : Piece) (occurrence : Occurrence) (app : AppId) (how : ProxyOptions)
    → IsLawful as_session setup epoch began journal
    → IsPiece setup epoch (moments setup epoch began journal) dialog piece → IsApart (moments setup epoch began journal) dialog piece
    → AreSmallNames setup epoch (chained as_session setup epoch began journal) piece → AreSmallDraws setup (moments setup epoch began journal)
    → carries setup (moments setup epoch began journal) dialog direction piece occurrence ≡ true
    → proxied_with (moments setup epoch began journal) app ≡ Some how → how.record_route ≡ false → (piece.caller ≡ Some app → ⊥)
    → All (λ (visited : AppId). visited ≡ app → ⊥) (visits setup (moments setup epoch began journal) occurrence)
left-unvisited setup epoch began journal dialog direction piece occurrence app how lawful is apart small drawn carried with left other =
    let run : List Moment = moments setup epoch began journal in
    all-map (Stays run direction piece) (λ (visited : AppId). visited ≡ app → ⊥) (visits setup run occurrence)
    (λ visited stay same. not-staying setup run dialog direction piece app how is.made with left other (subst (λ (a : AppId). Stays run direction piece a) same stay))
    (stays setup epoch began journal dialog direction piece occurrence lawful is apart small drawn carried)
