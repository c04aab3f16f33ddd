-- A net whose sessions are changed: what is next in it.
use Rattle.std.proofs.Common.{refl, ap}
use Rattle.std.specs.Prelude.{◌≡◌, ℕ, ◌+◌, List, [], ◌∷◌, Option, None, Some, map, option_map}
use Rattle.std.specs.List.{filter_map}
use Rattle.sc_state.specs.Hosts.{Host}
use Rattle.sc_state.specs.declared.host.Live.{Live}
use Rattle.sc_state.specs.declared.net.Net.{Net}
use Rattle.sc_forms.specs.Simulations.{map_live, map_host, map_net}
use Rattle.sc_runs.specs.Following.{first_number}
use Rattle.sc_runs.specs.Next.{next_of, next_from, next_events, next_event, lowest}

filter_map-maps : {A B C : Type 0} (g : A → B) (f : B → Option C) (h : A → Option C) → ((a : A) → f (g a) ≡ h a) → (xs : List A) → filter_map f (map g xs) ≡ filter_map h xs
filter_map-maps g f h same [] = refl
filter_map-maps g f h same (x ∷ xs) = rw (same x, filter_map-maps g f h same xs) refl

module _ {S T : Type 0} (change : S → T) where
  next_of-maps : (number : ℕ) (live : Live S) → next_of number (map_live change live) ≡ next_of number live
  unfolding next_of map_live
  next_of-maps number live = refl

  next_from-maps : (number : ℕ) (hosts : List (Host S)) → next_from number (map (map_host change) hosts) ≡ next_from number hosts
  unfolding next_from map_host
  next_from-maps number [] = refl
  next_from-maps number (host ∷ hosts) =
      rw (filter_map-maps (map_live change) (next_of number) (next_of number) (next_of-maps number) host.sessions, next_from-maps (number + 1) hosts) refl

  pub next_event-maps : (net : Net S) → next_event (map_net change net) ≡ next_event net
  unfolding next_event next_events map_net
  next_event-maps net = ap lowest (next_from-maps 0 net.hosts)

  pub first_number-maps : (live : Option (Live S)) → first_number (option_map (map_live change) live) ≡ first_number live
  unfolding first_number map_live
  first_number-maps None = refl
  first_number-maps (Some live) = refl
