-- A session that proxied took a turn, so the numbers of its name have 64 bits.
use Rattle.std.proofs.Common.{◌≡◌, ◌≤◌, ◌<◌, ℕ, ◌++◌, ◌^◌, Bool, true, false, Option, None, Some, List, [], ◌∷◌, refl, sym, subst, arith}
use Rattle.std.specs.Prelude.{cond, filter, length, slice_get}
use Rattle.std.specs.List.{flat_map}
use Rattle.std.specs.Option.{option_map_or}
use Rattle.sc_value.specs.declared.ids.AppId.{AppId}
use Rattle.sc_terms.specs.declared.calls.ProxyOptions.{ProxyOptions}
use Rattle.sc_terms.specs.declared.steps.Step.{Step}
use Rattle.sc_terms.specs.declared.steps.Step.TheVariants as steps
use Rattle.sc_parts.specs.declared.setup.Setup.{Setup}
use Rattle.sc_state.specs.Hosts.{Host}
use Rattle.sc_state.specs.declared.host.Live.{Live}
use Rattle.sc_state.specs.declared.net.Net.{Net}
use Rattle.sc_state.specs.declared.session.Session.{Session}
use Rattle.sc_model.specs.Names.{IsOf64}
use Rattle.sc_hosts.specs.Histories.{as_session}
use Rattle.sc_hosts.specs.Inboxes.{is_live}
use Rattle.sc_hosts.specs.Nets.{host_at}
use Rattle.sc_hosts.specs.Runs.{IsAllowed}
use Rattle.sc_hosts.specs.Steps.{live_at, live_of}
use Rattle.sc_hosts.specs.Transacting.{is_same_app}
use Rattle.sc_lasting.specs.Lasting.{All}
use Rattle.sc_lasting.proofs.Parts.{all-found}
use Rattle.sc_once.proofs.StepParts.{same-app}
use Rattle.sc_paths.specs.Moments.{Moment, options_in, proxied_with}
use Rattle.sc_paths.specs.Pieces.{Piece, recorders}
use Rattle.sc_reached.specs.Reached.{AllSmall}
use Rattle.sc_reached.proofs.Reaching.{serial-is}
use Rattle.sc_ways.proofs.Got.{all-small, small-place, small-sessions}
use Rattle.sc_ways.proofs.OneHop.{IsFine}

-- ## A live session

under : (a n m : ℕ) → a < n → n ≤ m → a < m
under a n m less most = omega (arith, less, most)

zero-small : 0 < 2 ^ 64
zero-small = omega arith

pub found-small : (epoch : ℕ) (net : Net Session) (app : AppId) (live : Live Session) (found : Option (Host Session)) → host_at app.host net ≡ found → live_of app found ≡ Some live → epoch < 2 ^ 64
    → length net.hosts ≤ 2 ^ 64 → AllSmall net.hosts → IsOf64 epoch app 0
found-small epoch net app live None at is small few all = cc
found-small epoch net app live (Some host) at is small few all =
    let less : live.serial < 2 ^ 64 = all-found (λ (live : Live Session). live.serial < 2 ^ 64) (is_live app.serial) host.sessions live is (all-small host.sessions (small-sessions net.hosts app.host host all at)) in
    (small, under app.host _ _ (small-place net.hosts app.host host at) few, subst (λ (n : ℕ). n < 2 ^ 64) (serial-is app.serial host.sessions live is) less, zero-small)

-- ## One that took a turn

cond-some : (b : Bool) (xs rest : List ProxyOptions) (first : ProxyOptions) → cond b xs [] ≡ first ∷ rest → b ≡ true
cond-some true xs rest first is = refl
cond-some false xs rest first is = cc

step-small : (setup : Setup) (epoch : ℕ) (net : Net Session) (step : Step) (app : AppId) (first : ProxyOptions) (rest : List ProxyOptions) → epoch < 2 ^ 64 → length net.hosts ≤ 2 ^ 64 → AllSmall net.hosts
    → IsAllowed as_session setup net step → options_in app step ≡ first ∷ rest → IsOf64 epoch app 0
unfolding options_in IsAllowed
step-small setup epoch net (steps.Turn end other event now made) app first rest small few all may is =
    let same : app ≡ other = same-app as_session setup other app (cond-some (is_same_app other app) _ rest first is) in
    found-small epoch net app may.live (host_at app.host net) refl (subst (λ (a : AppId). live_at a net ≡ Some may.live) (sym same) may.live_is) small few all
step-small setup epoch net (steps.In from message) app first rest small few all may is = cc
step-small setup epoch net (steps.Bad from bad) app first rest small few all may is = cc
step-small setup epoch net (steps.Lost place) app first rest small few all may is = cc
step-small setup epoch net (steps.Tick now) app first rest small few all may is = cc
step-small setup epoch net (steps.Withdraw other) app first rest small few all may is = cc

-- ## A run

run-by : {R : Type 0} (give : Moment → List ProxyOptions) (Q : Moment → Type 0) (moment : Moment) (later : List Moment) (how : ProxyOptions) (given : List ProxyOptions) → give moment ≡ given
    → slice_get (given ++ flat_map give later) 0 ≡ Some how → Q moment → ((moment : Moment) → Q moment → (first : ProxyOptions) (rest : List ProxyOptions) → give moment ≡ first ∷ rest → R)
    → (slice_get (flat_map give later) 0 ≡ Some how → R) → R
run-by give Q moment later how [] same is good each more = more is
run-by give Q moment later how (first ∷ rest) same is good each more = each moment good first rest same

in-run : {R : Type 0} (run : List Moment) (give : Moment → List ProxyOptions) (Q : Moment → Type 0) (how : ProxyOptions) → slice_get (flat_map give run) 0 ≡ Some how → All Q run
    → ((moment : Moment) → Q moment → (first : ProxyOptions) (rest : List ProxyOptions) → give moment ≡ first ∷ rest → R) → R
unfolding All
in-run [] give Q how is all each = cc
in-run (moment ∷ later) give Q how is all each = run-by give Q moment later how (give moment) refl is all.0 each (λ more. in-run later give Q how more all.1 each)

proxied-small : (setup : Setup) (epoch : ℕ) (run : List Moment) (app : AppId) (how : ProxyOptions) → epoch < 2 ^ 64 → All (IsFine setup epoch) run → proxied_with run app ≡ Some how → IsOf64 epoch app 0
unfolding proxied_with
proxied-small setup epoch run app how small fine is =
    in-run run (λ (moment : Moment). options_in app moment.step) (IsFine setup epoch) how is fine
    (λ moment good first rest given. step-small setup epoch moment.before moment.step app first rest small good.few_before good.small_before good.allowed given)

-- ## Those of a way that record-routed

filtered-by : {A : Type 0} (P : A → Type 0) (x : A) (rest : List A) (b : Bool) → (b ≡ true → P x) → All P rest → All P (cond b (x ∷ rest) rest)
unfolding All
filtered-by P x rest true one all = (one refl, all)
filtered-by P x rest false one all = all

filtered : {A : Type 0} (P : A → Type 0) (test : A → Bool) (xs : List A) → ((x : A) → test x ≡ true → P x) → All P (filter test xs)
unfolding All
filtered P test [] each = tt
filtered P test (x ∷ xs) each = filtered-by P x (filter test xs) (test x) (each x) (filtered P test xs each)

recorder-small : (setup : Setup) (epoch : ℕ) (run : List Moment) (app : AppId) (found : Option ProxyOptions) → epoch < 2 ^ 64 → All (IsFine setup epoch) run → proxied_with run app ≡ found
    → option_map_or (λ (how : ProxyOptions). how.record_route) found false ≡ true → IsOf64 epoch app 0
recorder-small setup epoch run app None small fine is records = cc
recorder-small setup epoch run app (Some how) small fine is records = proxied-small setup epoch run app how small fine is

pub recorders-small : (setup : Setup) (epoch : ℕ) (run : List Moment) (piece : Piece) → epoch < 2 ^ 64 → All (IsFine setup epoch) run → All (λ (app : AppId). IsOf64 epoch app 0) (recorders run piece)
unfolding recorders
recorders-small setup epoch run piece small fine =
    filtered (λ (app : AppId). IsOf64 epoch app 0) (λ app. option_map_or (λ (how : ProxyOptions). how.record_route) (proxied_with run app) false) piece.proxies (λ app records. recorder-small setup epoch run app (proxied_with run app) small fine refl records)
