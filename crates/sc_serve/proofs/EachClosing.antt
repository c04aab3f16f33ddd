-- Each place that was given up was closed, once none waits to be.
use Rattle.std.proofs.Common.{◌≡◌, Option, None, Some, List, [], ◌∷◌, ◌++◌, refl, sym, ◌∙◌, subst, inl, inr}
use Rattle.std.specs.Prelude.{IsSome}
use Rattle.std.specs.List.{Contains}
use Rattle.std.proofs.lemmas.Bool.{false≢true}
use Rattle.std.proofs.lemmas.List.{append-nil, append_cancel_left}
use Rattle.std.proofs.lemmas.List.Sorted.{Contains-permutation}
use Rattle.sc_value.specs.declared.ids.Place.{Place}
use Rattle.sc_edge.specs.Edges.{EdgeState}
use Rattle.sc_edge.specs.declared.edge.Polled.{Polled}
use Rattle.sc_edge.specs.declared.edge.Polled.TheVariants as answers
use Rattle.sc_runs.specs.Following.{Streams, no_bytes}
use Rattle.sc_runs.specs.Heard.{AllKept}
use Rattle.sc_courses.specs.Marks.{TellsSo}
use Rattle.sc_rounds.specs.GivingUp.{AllGiveUp}
use Rattle.sc_serve.specs.Closing.{ClosesAll, ClosesEach, WasClosed}
use Rattle.sc_serve.proofs.OnceGivings.{give_up_has}

untold : {P : Type 0} (now : Option (List Polled)) → IsSome now → now ≡ None → P
untold now tells none =
    absurd (false≢true (subst (λ (o : Option (List Polled)). IsSome o) none tells))

some-same : (xs ys : List Polled) → Some xs ≡ Some ys → xs ≡ ys
some-same xs ys same = cc

-- what is told between two points is one list
told-one : (first now : Option (List Polled)) (given given2 : List Polled)
    → IsSome now → TellsSo first now given → TellsSo first now given2 → given2 ≡ given
unfolding TellsSo
told-one None now given given2 tells none none2 = untold now tells none
told-one (Some old) now given given2 tells (inl told) (inl told2) =
    append_cancel_left old given2 given
    (some-same (old ++ given2) (old ++ given) (sym told2 ∙ told))
told-one (Some old) now given given2 tells (inl told) (inr none) = untold now tells none
told-one (Some old) now given given2 tells (inr none) told2 = untold now tells none

none-kept : AllKept no_bytes no_bytes
unfolding AllKept
none-kept place = refl

pub each_closed : (first now : EdgeState) (streams : Streams) → ClosesAll first now streams []
    → ClosesEach first now
unfolding ClosesEach WasClosed
each_closed first now streams s tells place gave =
    let told : List Polled = gave.before ++ answers.Bytes place gave.text ∷ gave.later in
    let same : s.given ≡ told =
    told-one first.polled now.polled told s.given tells gave.told s.told in
    let all : AllGiveUp no_bytes told s.places streams =
    subst (λ (given : List Polled). AllGiveUp no_bytes given s.places streams) same s.gave in
    let found : Contains s.places place =
    give_up_has no_bytes no_bytes gave.before gave.later place gave.text gave.made gave.heard
    gave.kept streams s.places none-kept gave.heard_is gave.breaks all in (
      s.closed,
      s.closes,
      subst (λ (places : List Place). Contains places place) (append-nil s.closed)
          (Contains-permutation s.places (s.closed ++ []) place s.all found),
    )
